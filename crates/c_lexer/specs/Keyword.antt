-- How each keyword is spelled: C11 6.4.1, and `asm`.
use Rattle.std.specs.Prelude.{ℕ, List, codes}
use Rattle.c_lexer.specs.declared.keyword.Keyword.{Keyword}
use Rattle.c_lexer.specs.declared.keyword.Keyword.TheVariants.{Auto, Break, Case, Char, Const, Continue, Default, Do}
use Rattle.c_lexer.specs.declared.keyword.Keyword.TheVariants.{Double, Else, Enum, Extern, Float, For, Goto, If, Inline}
use Rattle.c_lexer.specs.declared.keyword.Keyword.TheVariants.{Int, Long, Register, Restrict, Return, Short, Signed}
use Rattle.c_lexer.specs.declared.keyword.Keyword.TheVariants.{Sizeof, Static, Struct, Switch, Typedef, Union, Unsigned}
use Rattle.c_lexer.specs.declared.keyword.Keyword.TheVariants.{Void, Volatile, While, Alignas, Alignof, Atomic, Bool}
use Rattle.c_lexer.specs.declared.keyword.Keyword.TheVariants.{Complex, Generic, Imaginary, Noreturn, StaticAssert}
use Rattle.c_lexer.specs.declared.keyword.Keyword.TheVariants.{ThreadLocal, Asm}

-- how each keyword is spelled, `asm` among them
abbrev pub keyword_text : Keyword → List ℕ
keyword_text Auto = codes "auto"
keyword_text Break = codes "break"
keyword_text Case = codes "case"
keyword_text Char = codes "char"
keyword_text Const = codes "const"
keyword_text Continue = codes "continue"
keyword_text Default = codes "default"
keyword_text Do = codes "do"
keyword_text Double = codes "double"
keyword_text Else = codes "else"
keyword_text Enum = codes "enum"
keyword_text Extern = codes "extern"
keyword_text Float = codes "float"
keyword_text For = codes "for"
keyword_text Goto = codes "goto"
keyword_text If = codes "if"
keyword_text Inline = codes "inline"
keyword_text Int = codes "int"
keyword_text Long = codes "long"
keyword_text Register = codes "register"
keyword_text Restrict = codes "restrict"
keyword_text Return = codes "return"
keyword_text Short = codes "short"
keyword_text Signed = codes "signed"
keyword_text Sizeof = codes "sizeof"
keyword_text Static = codes "static"
keyword_text Struct = codes "struct"
keyword_text Switch = codes "switch"
keyword_text Typedef = codes "typedef"
keyword_text Union = codes "union"
keyword_text Unsigned = codes "unsigned"
keyword_text Void = codes "void"
keyword_text Volatile = codes "volatile"
keyword_text While = codes "while"
keyword_text Alignas = codes "_Alignas"
keyword_text Alignof = codes "_Alignof"
keyword_text Atomic = codes "_Atomic"
keyword_text Bool = codes "_Bool"
keyword_text Complex = codes "_Complex"
keyword_text Generic = codes "_Generic"
keyword_text Imaginary = codes "_Imaginary"
keyword_text Noreturn = codes "_Noreturn"
keyword_text StaticAssert = codes "_Static_assert"
keyword_text ThreadLocal = codes "_Thread_local"
keyword_text Asm = codes "asm"
