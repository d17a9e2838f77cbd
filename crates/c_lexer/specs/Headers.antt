-- The headers, and the names that each gives: its macros, and what it declares at file scope.
use Rattle.std.specs.Prelude.{ℕ, List, [], ◌∷◌, codes, Option, Some, None, if◌then◌else◌}
use Rattle.std.specs.Str.{bytes_eq}
use Rattle.c_lexer.specs.declared.header.Header.{Header}
use Rattle.c_lexer.specs.declared.header.Header.TheVariants as headers
use Rattle.c_lexer.specs.declared.header_type.HeaderType.TheVariants as types
use Rattle.c_lexer.specs.declared.atomic_operation.AtomicOperation.TheVariants as operations
use Rattle.c_lexer.specs.declared.keyword.Keyword.TheVariants as keywords
use Rattle.c_lexer.specs.declared.token.TokenKind.{TokenKind}
use Rattle.c_lexer.specs.declared.token.TokenKind.TheVariants as kinds
use Rattle.c_lexer.specs.declared.token.IntegerConstant.{IntegerConstant}
use Rattle.c_lexer.specs.declared.token.IntegerBase.TheVariants as bases
use Rattle.c_lexer.specs.declared.token.IntegerSuffix.TheVariants as suffixes

-- how a header is named, its brackets included
abbrev pub header_text : Header → List ℕ
header_text headers.Stddef = codes "<stddef.h>"
header_text headers.Stdint = codes "<stdint.h>"
header_text headers.Stdbool = codes "<stdbool.h>"
header_text headers.Stdatomic = codes "<stdatomic.h>"
header_text headers.Refinedc = codes "<refinedc.h>"

-- a decimal constant without a suffix
abbrev pub plain_decimal : ℕ → IntegerConstant
plain_decimal value = record { value = value; base = bases.Decimal; suffix = suffixes.Plain }

-- the macros of a header, and what each stands for (C11 7.19, 7.18)
abbrev pub header_macros : Header → List (List ℕ × TokenKind)
header_macros headers.Stddef = (codes "NULL", kinds.NullPointer) ∷ []
header_macros headers.Stdint = []
header_macros headers.Stdbool =
    (codes "bool", kinds.Keyword keywords.Bool)
    ∷ (codes "true", kinds.Integer (plain_decimal 1))
    ∷ (codes "false", kinds.Integer (plain_decimal 0))
    ∷ []
header_macros headers.Stdatomic = []
header_macros headers.Refinedc = []

-- the names that a header declares, each with the kind of its tokens (C11 7.19, 7.20.1.1, 7.17.6, 7.17.7)
abbrev pub header_declarations : Header → List (List ℕ × TokenKind)
header_declarations headers.Stddef = (codes "size_t", kinds.HeaderType types.Size) ∷ []
header_declarations headers.Stdint =
    (codes "int8_t", kinds.HeaderType types.Int8)
    ∷ (codes "int16_t", kinds.HeaderType types.Int16)
    ∷ (codes "int32_t", kinds.HeaderType types.Int32)
    ∷ (codes "int64_t", kinds.HeaderType types.Int64)
    ∷ (codes "uint8_t", kinds.HeaderType types.Uint8)
    ∷ (codes "uint16_t", kinds.HeaderType types.Uint16)
    ∷ (codes "uint32_t", kinds.HeaderType types.Uint32)
    ∷ (codes "uint64_t", kinds.HeaderType types.Uint64)
    ∷ []
header_declarations headers.Stdbool = []
header_declarations headers.Stdatomic =
    (codes "atomic_bool", kinds.HeaderType types.AtomicBool)
    ∷ (codes "atomic_load", kinds.AtomicOperation operations.Load)
    ∷ (codes "atomic_store", kinds.AtomicOperation operations.Store)
    ∷ (codes "atomic_exchange", kinds.AtomicOperation operations.Exchange)
    ∷ (codes "atomic_compare_exchange_strong", kinds.AtomicOperation operations.CompareExchangeStrong)
    ∷ []
header_declarations headers.Refinedc = []

-- the kind that a table gives a name
abbrev pub kind_among : List (List ℕ × TokenKind) → List ℕ → Option TokenKind
kind_among [] name = None
kind_among (entry ∷ entries) name = if bytes_eq entry.0 name then Some entry.1 else kind_among entries name
