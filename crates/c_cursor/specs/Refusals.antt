-- The forms that are left out by name, and the tokens that begin them.
use Rattle.std.specs.Prelude.{ℕ, List, Option, Some, None, codes}
use Rattle.c_lexer.specs.declared.keyword.Keyword.{Keyword}
use Rattle.c_lexer.specs.declared.keyword.Keyword.TheVariants as words
use Rattle.c_lexer.specs.declared.token.TokenKind.{TokenKind}
use Rattle.c_lexer.specs.declared.token.TokenKind.TheVariants as kinds
use Rattle.c_lexer.specs.Keyword.{keyword_text}
use Rattle.c_cursor.specs.declared.left_out.LeftOut.{LeftOut}
use Rattle.c_cursor.specs.declared.left_out.LeftOut.TheVariants as forms

-- the name of a form
abbrev pub left_out_text : LeftOut → List ℕ
left_out_text (forms.Keyword word) = keyword_text word
left_out_text forms.FunctionPointer = codes "function pointer"
left_out_text forms.BraceInitializer = codes "brace initialiser"
left_out_text forms.BitField = codes "bit field"
left_out_text forms.Variadic = codes "variadic"
left_out_text forms.StringLiteral = codes "string literal"
left_out_text forms.FloatingConstant = codes "floating constant"
left_out_text forms.FileObject = codes "file object"

-- the keywords that are left out by name
abbrev pub left_out_keyword : Keyword → Option LeftOut
left_out_keyword words.Goto = Some (forms.Keyword words.Goto)
left_out_keyword words.Float = Some (forms.Keyword words.Float)
left_out_keyword words.Double = Some (forms.Keyword words.Double)
left_out_keyword words.Volatile = Some (forms.Keyword words.Volatile)
left_out_keyword words.Complex = Some (forms.Keyword words.Complex)
left_out_keyword words.Generic = Some (forms.Keyword words.Generic)
left_out_keyword words.ThreadLocal = Some (forms.Keyword words.ThreadLocal)
left_out_keyword words.Asm = Some (forms.Keyword words.Asm)
left_out_keyword _ = None

-- what a token of this kind begins, wherever it stands
abbrev pub left_out_token : TokenKind → Option LeftOut
left_out_token (kinds.Keyword word) = left_out_keyword word
left_out_token kinds.Floating = Some forms.FloatingConstant
left_out_token _ = None

-- what a token of this kind begins where an operand of an expression may begin
abbrev pub left_out_operand : TokenKind → Option LeftOut
left_out_operand kinds.StringLiteral = Some forms.StringLiteral
left_out_operand kind = left_out_token kind
