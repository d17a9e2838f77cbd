-- Reading only adds names to those in scope: declarations.
use Rattle.std.proofs.Common.{◌≡◌, ℕ, List, Some}
use Rattle.c_syntax.specs.declared.name.Name.{Name}
use Rattle.c_syntax.specs.declared.declaration.Declaration.{Declaration}
use Rattle.c_syntax.specs.declared.declaration.InitDeclarator.{InitDeclarator}
use Rattle.c_syntax.specs.declared.declarator.Declarator.{Declarator}
use Rattle.c_syntax.specs.declared.declarator.FunctionDeclarator.{FunctionDeclarator}
use Rattle.c_syntax.specs.declared.declarator.Parameter.{Parameter}
use Rattle.c_grammar.specs.declared.names.NameKind.TheVariants as names
use Rattle.c_grammar.specs.Input.{Input, mark, declares}
use Rattle.c_grammar.specs.Declarations as grammar
use Rattle.c_grammar.specs.Declarations.{under, Declared, ParameterDeclared, ParameterList, Parameters, FunctionDeclared, TypedefNames, Initialized, InitializedNames, LocalDeclaration}
use Rattle.c_grammar.specs.Reading.{nested}
use Rattle.c_grammar.specs.DeclarationReading as declarations
use Rattle.c_grammar.proofs.Kept.{Extends, through, declares-kept, under-kept, mark-kept, identifier-kept, type_start-kept, pointers-kept, lengths-kept, specified-kept, expression-kept}
use Rattle.c_grammar.proofs.Sound.{SoundExpressions, nested-sound}
use Rattle.c_grammar.proofs.DeclarationsSound.{parameters-sound, function-sound, local-sound}

pub declared-kept : {from : Input} {tree : Declarator} {name : Name} {to : Input} → Declared from tree name to → Extends from to
declared-kept (grammar.Declared.declared {behind = behind} {named = named} p i l) =
    through (pointers-kept p) (through (identifier-kept behind named i) (lengths-kept l))

pub parameter-kept : {from : Input} {parameter : Parameter} {to : Input} → ParameterDeclared from parameter to → Extends from to
parameter-kept (grammar.ParameterDeclared.named {name = name} {to = to} s q d) =
    through (specified-kept s) (through (declared-kept d) (declares-kept to name.text names.Ordinary))
parameter-kept (grammar.ParameterDeclared.unnamed s q p l) = through (specified-kept s) (through (pointers-kept p) (lengths-kept l))

pub parameter_list-kept : {from : Input} {list : List Parameter} {to : Input} → ParameterList from list to → Extends from to
parameter_list-kept (grammar.ParameterList.last {behind = behind} {to = to} p m) =
    through (parameter-kept p) (mark-kept _ behind to m)
parameter_list-kept (grammar.ParameterList.more {behind = behind} {inner = inner} p m others) =
    through (parameter-kept p) (through (mark-kept _ behind inner m) (parameter_list-kept others))

pub parameters-kept : {from : Input} {list : List Parameter} {to : Input} → Parameters from list to → Extends from to
parameters-kept (grammar.Parameters.void {from = from} {behind = behind} {to = to} b m) =
    through (type_start-kept from _ b) (mark-kept _ behind to m)
parameters-kept (grammar.Parameters.list l other) = parameter_list-kept l

pub function-kept : {from : Input} {tree : FunctionDeclarator} {to : Input} → FunctionDeclared from tree to → Extends from to
function-kept (grammar.FunctionDeclared.function_declarator {behind = behind} {named = named} {inner = inner} p i o l) =
    through (pointers-kept p) (through (identifier-kept behind named i) (through (mark-kept _ named.rest inner o) (parameters-kept l)))

pub typedef_names-kept : {from : Input} {list : List Declarator} {to : Input} → TypedefNames from list to → Extends from to
typedef_names-kept (grammar.TypedefNames.last {name = name} {behind = behind} {to = to} d m) =
    through (declared-kept d) (through (declares-kept behind name.text names.Typedef) (mark-kept _ (declares behind name.text names.Typedef) to m))
typedef_names-kept (grammar.TypedefNames.more {name = name} {behind = behind} {inner = inner} d m others) =
    through (declared-kept d) (through (declares-kept behind name.text names.Typedef)
    (through (mark-kept _ (declares behind name.text names.Typedef) inner m) (typedef_names-kept others)))

pub initialized-kept : {from : Input} {one : InitDeclarator} {to : Input} → Initialized from one to → Extends from to
initialized-kept (grammar.Initialized.object {name = name} {behind = behind} d) =
    through (declared-kept d) (declares-kept behind name.text names.Ordinary)
initialized-kept (grammar.Initialized.initialized {name = name} {behind = behind} {inner = inner} d m e) =
    through (declared-kept d) (through (declares-kept behind name.text names.Ordinary)
    (through (mark-kept _ (declares behind name.text names.Ordinary) inner m) (expression-kept e)))
initialized-kept (grammar.Initialized.function {from = from} {tree = tree} {to = to} f) =
    through (under-kept from to) (declares-kept (under from to) tree.name.text names.Ordinary)

pub initialized_names-kept : {from : Input} {list : List InitDeclarator} {to : Input} → InitializedNames from list to → Extends from to
initialized_names-kept (grammar.InitializedNames.last {behind = behind} {to = to} d m) =
    through (initialized-kept d) (mark-kept _ behind to m)
initialized_names-kept (grammar.InitializedNames.more {behind = behind} {inner = inner} d m others) =
    through (initialized-kept d) (through (mark-kept _ behind inner m) (initialized_names-kept others))

pub local-kept : {from : Input} {tree : Declaration} {to : Input} → LocalDeclaration from tree to → Extends from to
local-kept (grammar.LocalDeclaration.tag {behind = behind} {to = to} s l t d m) = through (specified-kept s) (mark-kept _ behind to m)
local-kept (grammar.LocalDeclaration.typedefs s l a t d) = through (specified-kept s) (typedef_names-kept d)
local-kept (grammar.LocalDeclaration.declared_names s l t d) = through (specified-kept s) (initialized_names-kept d)

-- ---- what is read

-- parameters, with the expressions in them up to a depth
pub read_parameters-kept : (limit room : ℕ) (from : Input) (list : List Parameter) (to : Input)
    → declarations.parameter_list (nested limit room).expression from ≡ Some (list, to) → Extends from to
read_parameters-kept limit room from list to e =
    parameters-kept (parameters-sound limit (nested limit room).expression (nested-sound limit room).expressions from list to e)

-- a function's declarator
pub read_function-kept : (limit room : ℕ) (from : Input) (tree : FunctionDeclarator) (to : Input)
    → declarations.function_declared (nested limit room).expression from ≡ Some (tree, to) → Extends from to
read_function-kept limit room from tree to e =
    function-kept (function-sound limit (nested limit room).expression (nested-sound limit room).expressions from tree to e)

-- a declaration inside a function
pub read_local-kept : (limit room : ℕ) (from : Input) (tree : Declaration) (to : Input)
    → declarations.local_declaration (nested limit room).expression from ≡ Some (tree, to) → Extends from to
read_local-kept limit room from tree to e =
    local-kept (local-sound limit (nested limit room).expression (nested-sound limit room).expressions from tree to e)
