-- What the tokens of the form have at their places.
use Rattle.std.proofs.Common.{◌≡◌, ℕ, zero, suc, ◌<◌, ◌^◌, List, [], ◌∷◌, length, map, Bool, Option, Some, None, refl, sym, ap, ◌∙◌, arith, get_or}
use Rattle.std.specs.Prelude.{IsTrue, MatchOption, codes}
use Rattle.std.specs.Fmt.{decimal}
use Rattle.std.proofs.lemmas.Fmt.{decimal_injective}
use Rattle.std.specs.List.{slice_get}
use Rattle.std.specs.Str.{bytes_eq}
use Rattle.std.proofs.lemmas.Slice.Eq.{bytes_eq-Decides}
use Rattle.std.proofs.lemmas.Option.{slice_get_read}
use Rattle.std.proofs.lemmas.List.{length-map, append_cancel_right}
use Rattle.rc_text.specs.declared.place.Place.{Place}
use Rattle.c_lexer.specs.declared.token.Token.{Token}
use Rattle.c_lexer.specs.declared.token.IntegerConstant.{IntegerConstant}
use Rattle.c_lexer.specs.declared.token.TokenKind.{TokenKind}
use Rattle.c_lexer.specs.declared.token.TokenKind.TheVariants.{Integer}
use Rattle.refinedc_cli.specs.declared.one_literal.OneLiteral.{OneLiteral}
use Rattle.refinedc_cli.specs.OneLiteral.{decimal_constant, form_kinds, declaration, IsSpelledAt, StandsAt, IsOneLiteral}

-- the token of a kind that stands at a place
pub token_of_kind : (tokens : List Token) (i : ℕ) (kind : TokenKind) → slice_get (map (λ token. token.kind) tokens) i ≡ Some kind
    → (token : Token) × (slice_get tokens i ≡ Some token) × (token.kind ≡ kind)
token_of_kind [] i kind there = absurd (cc)
token_of_kind (token ∷ tokens) zero kind there = (token, refl, cc)
token_of_kind (token ∷ tokens) (suc i) kind there = token_of_kind tokens i kind there

-- the form's constant stands behind `return`
pub constant_of_form : (tokens : List Token) (form : OneLiteral) → IsOneLiteral tokens form
    → (token : Token) × (slice_get tokens 17 ≡ Some token) × (token.kind ≡ Integer (decimal_constant form.returned))
constant_of_form tokens form is = token_of_kind tokens 17 (Integer (decimal_constant form.returned)) (rw is.kinds refl)

-- and is the one that was read there
pub kinds_of_form : (tokens : List Token) (form : OneLiteral) (token : Token) (value : ℕ) → slice_get tokens 17 ≡ Some token
    → token.kind ≡ Integer (decimal_constant value) → IsOneLiteral tokens form → map (λ token. token.kind) tokens ≡ form_kinds value
kinds_of_form tokens form token value there kind is =
    let found = constant_of_form tokens form is in
    let same : Integer (decimal_constant form.returned) ≡ Integer (decimal_constant value) = cc (found.1, found.2) in
    let inside : ◌≡◌ {A = IntegerConstant} (decimal_constant form.returned) (decimal_constant value) = cc in
    is.kinds ∙ ap (λ (c : IntegerConstant). form_kinds c.value) inside

-- the form has twenty tokens
pub length_of_form : (tokens : List Token) (returned : ℕ) → map (λ token. token.kind) tokens ≡ form_kinds returned → 20 ≡ length tokens
length_of_form tokens returned kinds = sym (simp length-map at (ap length kinds))

-- a test of a token's text says whether it is spelled so
pub spelled_by_test : (tokens : List Token) (i : ℕ) (token : Token) (read text : List ℕ) (same : Bool) → slice_get tokens i ≡ Some token
    → read ≡ token.text → same ≡ bytes_eq read text → (IsTrue same → IsSpelledAt tokens i text) × (IsSpelledAt tokens i text → IsTrue same)
spelled_by_test tokens i token read text same there is_text tested = (
  λ true. (token, there, sym is_text ∙ (bytes_eq-Decides read text).0 (sym tested ∙ true)),
  λ spelled.
      let found : spelled.0 ≡ token = cc (spelled.1, there) in
      let equal : read ≡ text = is_text ∙ ap (λ (t : Token). t.text) (sym found) ∙ spelled.2 in
      tested ∙ (bytes_eq-Decides read text).1 equal,
)

-- the string of the form declares its value
pub declaration_of_form : (tokens : List Token) (form : OneLiteral) (token : Token) → slice_get tokens 6 ≡ Some token → IsOneLiteral tokens form
    → token.text ≡ declaration form.declared
declaration_of_form tokens form token there is =
    let found : is.declares.0 ≡ token = cc (is.declares.1, there) in
    ap (λ (t : Token). t.text) (sym found) ∙ is.declares.2

-- a token that was read stands at its place
pub stands_there : (tokens : List Token) (i : ℕ) (token : Token) → 20 ≡ length tokens → i < 20 → token ≡ get_or tokens i token → StandsAt tokens i (get_or tokens i token).place
stands_there tokens i token long inside read = (token, slice_get_read tokens 20 i token long inside read, ap (λ (t : Token). t.place) read)

same_form : (a b : OneLiteral) → a.declared ≡ b.declared → a.returned ≡ b.returned → a.places.name ≡ b.places.name → a.places.body ≡ b.places.body
    → a.places.return_ ≡ b.places.return_ → a.places.literal ≡ b.places.literal → a ≡ b
same_form a b declared returned name body return_ literal = λ i.
    record { declared = declared i; returned = returned i; places = record { name = name i; body = body i; return_ = return_ i; literal = literal i } }

-- a place of a list has one token, and so one place
same_place : (tokens : List Token) (i : ℕ) (p q : Place) → StandsAt tokens i p → StandsAt tokens i q → p ≡ q
same_place tokens i p q a b =
    let found : a.0 ≡ b.0 = cc (a.1, b.1) in
    sym a.2 ∙ ap (λ (t : Token). t.place) found ∙ b.2

-- a declaration has one value
same_declared : (j k : ℕ) → j < 2 ^ 31 → k < 2 ^ 31 → declaration j ≡ declaration k → j ≡ k
same_declared j k small_j small_k same =
    let digits : decimal j ≡ decimal k = append_cancel_right (decimal j) (decimal k) (codes " @ int<i32>\"") (cc same) in
    decimal_injective j k (omega arith) (omega arith) digits

-- the tokens of the form have one reading
pub form_unique : (tokens : List Token) (a b : OneLiteral) → IsOneLiteral tokens a → IsOneLiteral tokens b → a ≡ b
form_unique tokens a b is_a is_b =
    let constant_a = constant_of_form tokens a is_a in
    let constant_b = constant_of_form tokens b is_b in
    let same : Integer (decimal_constant a.returned) ≡ Integer (decimal_constant b.returned) = cc (constant_a.1, constant_a.2, constant_b.1, constant_b.2) in
    let constants : ◌≡◌ {A = IntegerConstant} (decimal_constant a.returned) (decimal_constant b.returned) = cc same in
    let words : declaration a.declared ≡ declaration b.declared =
    sym is_a.declares.2 ∙ declaration_of_form tokens b is_a.declares.0 is_a.declares.1 is_b in
    same_form a b (same_declared a.declared b.declared is_a.in_range is_b.in_range words) (ap (λ (c : IntegerConstant). c.value) constants)
    (same_place tokens 11 a.places.name b.places.name is_a.name_place is_b.name_place) (same_place tokens 15 a.places.body b.places.body is_a.body_place is_b.body_place)
    (same_place tokens 16 a.places.return_ b.places.return_ is_a.return_place is_b.return_place) (same_place tokens 17 a.places.literal b.places.literal is_a.literal_place is_b.literal_place)

-- the form names its function
pub name_of_form : (tokens : List Token) (form : OneLiteral) → IsOneLiteral tokens form → (token : Token) × (slice_get tokens 11 ≡ Some token)
name_of_form tokens form is = (is.name_place.0, is.name_place.1)

-- what stands at a place is the constant that was read there
pub constant_there : (tokens : List Token) (token : Token) (constant : IntegerConstant) (result : Option ℕ) → slice_get tokens 17 ≡ Some token → token.kind ≡ Integer constant
    → MatchOption result ((value : ℕ) → constant ≡ decimal_constant value → value < 2 ^ 31 → ⊥) (λ value. (constant ≡ decimal_constant value) × (value < 2 ^ 31))
    → MatchOption result ((token : Token) (value : ℕ) → slice_get tokens 17 ≡ Some token → token.kind ≡ Integer (decimal_constant value) → value < 2 ^ 31 → ⊥)
    (λ value. (token : Token) × (slice_get tokens 17 ≡ Some token) × (token.kind ≡ Integer (decimal_constant value)) × (value < 2 ^ 31))
constant_there tokens token constant (Some value) there kind is = (token, there, kind ∙ ap (λ (c : IntegerConstant). Integer c) is.0, is.1)
constant_there tokens token constant None there kind none = λ other value at other_kind small.
    let same : other ≡ token = cc (at, there) in
    let kinds : Integer constant ≡ Integer (decimal_constant value) = sym kind ∙ ap (λ (t : Token). t.kind) (sym same) ∙ other_kind in
    let constants : ◌≡◌ {A = IntegerConstant} constant (decimal_constant value) = cc kinds in
    none value constants small

-- what stands there is no constant
pub other_there : (tokens : List Token) (token : Token) → slice_get tokens 17 ≡ Some token → ((constant : IntegerConstant) → token.kind ≡ Integer constant → ⊥)
    → (other : Token) (value : ℕ) → slice_get tokens 17 ≡ Some other → other.kind ≡ Integer (decimal_constant value) → value < 2 ^ 31 → ⊥
other_there tokens token there none other value at kind small =
    let same : other ≡ token = cc (at, there) in
    none (decimal_constant value) (ap (λ (t : Token). t.kind) (sym same) ∙ kind)
