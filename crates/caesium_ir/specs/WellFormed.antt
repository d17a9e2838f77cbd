-- Which programs are well formed (this project's own).
use Rattle.std.specs.Prelude.{◌≡◌, ℕ, ◌<◌, List, map, length, codes, IsTrue, Option, Some, None, slice_get}
use Rattle.std.specs.List.{AllByRecursion}
use Rattle.std.specs.Option.{option_map}
use Rattle.layouts.specs.declared.int_type.IntType.{IntType}
use Rattle.layouts.specs.declared.layout.Layout.{Layout}
use Rattle.layouts.specs.declared.table.Declaration.{Declaration}
use Rattle.layouts.specs.IntType.{IsInRange}
use Rattle.layouts.specs.Table.{IsKnown, name_of}
use Rattle.caesium_ir.specs.declared.operation.Op.{Op}
use Rattle.caesium_ir.specs.declared.operation.Op.TheVariants.{Const, Local, Field, Load, Store, Call, Fork}
use Rattle.caesium_ir.specs.declared.operation.PlacedOp.{PlacedOp}
use Rattle.caesium_ir.specs.declared.block.Case.{Case}
use Rattle.caesium_ir.specs.declared.block.End.{End}
use Rattle.caesium_ir.specs.declared.block.End.TheVariants.{Goto, If, Switch, Return}
use Rattle.caesium_ir.specs.declared.block.Block.{Block}
use Rattle.caesium_ir.specs.declared.function.Local.{Local as LocalOf}
use Rattle.caesium_ir.specs.declared.function.Function.{Function}
use Rattle.caesium_ir.specs.declared.program.Program.{Program}
use Rattle.caesium_ir.specs.Names.{is_among, are_distinct}
use Rattle.caesium_ir.specs.Function.{function_named, labels_of, locals_of}
use Rattle.caesium_ir.specs.Program.{names_of}

-- the table has a struct or union under the number, and this has the member
pub record HasMember (table : List Declaration) (number member : ℕ) : Type 0 where
  pub declaration : Declaration
  pub is : slice_get table number ≡ Some declaration
  pub within : member < length declaration.members

-- the table has the members, structs and unions that the operation names
abbrev pub IsOfTable : List Declaration → Op → Type 0
IsOfTable table (Field number member) = HasMember table number member
IsOfTable table (Load layout) = IsKnown table layout
IsOfTable table (Store layout) = IsKnown table layout
IsOfTable table op = Unit {0}

-- the program has a function of the name, which has so many parameters
abbrev pub Takes : Program → List ℕ → ℕ → Type 0
Takes program name count =
    option_map (λ (function : Function). length function.parameters) (function_named program.functions name)
    ≡ Some count

-- a constant is a number of its type, a local is one of the function's, and a call is of one of the program's functions
-- and has its number of arguments
abbrev pub IsOfFunction : Program → Function → Op → Type 0
IsOfFunction program function (Const of value) = IsInRange of value
IsOfFunction program function (Local number) = number < length (locals_of function)
IsOfFunction program function (Call name arguments) = Takes program name arguments
IsOfFunction program function (Fork name arguments) = Takes program name arguments
IsOfFunction program function op = Unit {0}

-- an operation is of its program's table and of its function
pub record IsWellFormedOp (program : Program) (function : Function) (op : Op) : Type 0 where
  pub of_table : IsOfTable program.table op
  pub of_function : IsOfFunction program function op

-- a case is a number of the type, and names one of the labels
pub record IsWellFormedCase (labels : List (List ℕ)) (of : IntType) (case : Case) : Type 0 where
  pub in_range : IsInRange of case.value
  pub label : IsTrue (is_among case.label labels)

-- the end of a block names labels of the function
abbrev pub IsWellFormedEnd : List (List ℕ) → End → Type 0
IsWellFormedEnd labels (Goto label) = IsTrue (is_among label labels)
IsWellFormedEnd labels (If nonzero zero) = IsTrue (is_among nonzero labels) × IsTrue (is_among zero labels)
IsWellFormedEnd labels (Switch of cases otherwise) =
    AllByRecursion (IsWellFormedCase labels of) cases × IsTrue (is_among otherwise labels)
IsWellFormedEnd labels Return = Unit {0}

-- a block of a function: its operations and its end are well formed
pub record IsWellFormedBlock (program : Program) (function : Function) (block : Block) : Type 0 where
  pub operations : AllByRecursion (λ (placed : PlacedOp). IsWellFormedOp program function placed.op) block.operations
  pub end : IsWellFormedEnd (labels_of function) block.end

-- the table has the struct or union that a result's layout names; void names none
abbrev pub IsWellFormedResult : List Declaration → Option Layout → Type 0
IsWellFormedResult table None = Unit {0}
IsWellFormedResult table (Some layout) = IsKnown table layout

-- the table has the struct or union that the layout of each local names
abbrev pub AreWellFormedLocals : List Declaration → List LocalOf → Type 0
AreWellFormedLocals table locals = AllByRecursion (λ (local : LocalOf). IsKnown table local.layout) locals

-- the names of a function's parameters and further locals
abbrev pub local_names : Function → List (List ℕ)
local_names function = map (λ (local : LocalOf). local.name) (locals_of function)

-- the layouts of its result and its locals are known, no two locals have one name and no two blocks one label, and each
-- block is well formed
pub record IsWellFormedFunction (program : Program) (function : Function) : Type 0 where
  pub result : IsWellFormedResult program.table function.result
  pub parameters : AreWellFormedLocals program.table function.parameters
  pub locals : AreWellFormedLocals program.table function.locals
  pub distinct_locals : IsTrue (are_distinct (local_names function))
  pub distinct : IsTrue (are_distinct (labels_of function))
  pub blocks : AllByRecursion (IsWellFormedBlock program function) function.blocks

-- no two structs or unions have one tag, no two functions have one name, and each function is well formed
pub record IsWellFormed (program : Program) : Type 0 where
  pub distinct_tags : IsTrue (are_distinct (map name_of program.table))
  pub distinct : IsTrue (are_distinct (names_of program))
  pub functions : AllByRecursion (IsWellFormedFunction program) program.functions

-- the function has its block `.`, at which a call begins
abbrev pub HasEntry : Function → Type 0
HasEntry function = IsTrue (is_among (codes ".") (labels_of function))

-- each function of the program has its block `.`
abbrev pub HasEntries : Program → Type 0
HasEntries program = AllByRecursion HasEntry program.functions
