-- A spelling has one kind.
use Rattle.std.proofs.Common.{◌≡◌, ℕ, true, List, [], length, get_or, sym, refl, ap, ◌∙◌, subst, inl, inr, arith}
use Rattle.std.proofs.lemmas.Bool.Decides.{nat_tests}
use Rattle.std.proofs.lemmas.List.{append-nil}
use Rattle.c_lexer.specs.declared.token.CharacterConstant.{CharacterConstant}
use Rattle.c_lexer.specs.declared.token.TokenKind.{TokenKind}
use Rattle.c_lexer.specs.declared.token.TokenKind.TheVariants as kinds
use Rattle.c_lexer.specs.Bytes.{is_character_byte}
use Rattle.c_lexer.specs.Characters.{escape_of, IsCharacter}
use Rattle.c_lexer.specs.Spelling.{Spells}
use Rattle.c_lexer.specs.LongestMatch.{Begins}
use Rattle.c_lexer.proofs.Keywords.{keyword_text_injective}
use Rattle.c_lexer.proofs.Punctuators.{punctuator_text_injective}
use Rattle.c_lexer.proofs.Lexemes.{class_of_kind, class_is, looks_integer, integer_no_floating}
use Rattle.c_lexer.proofs.Integers.{same_integer, same_some}
use Rattle.c_lexer.proofs.Lists.{same_fronts}

backslash_no_character : (v : ℕ) → is_character_byte v ≡ true → v ≡ 92 → ⊥
backslash_no_character v plain slash = grind (arith, nat_tests)

second_of : (l m : List ℕ) → l ≡ m → get_or l 1 0 ≡ get_or m 1 0
second_of l m same = ap (λ k. get_or k 1 0) same

third_of : (l m : List ℕ) → l ≡ m → get_or l 2 0 ≡ get_or m 2 0
third_of l m same = ap (λ k. get_or k 2 0) same

same_value : (a b : CharacterConstant) (text : List ℕ) → IsCharacter a text → IsCharacter b text → a.value ≡ b.value
same_value a b text (inl left) (inl right) = second_of _ _ (sym left.1 ∙ right.1)
same_value a b text (inl left) (inr right) = absurd (backslash_no_character a.value left.0 (second_of _ _ (sym left.1 ∙ right.2)))
same_value a b text (inr left) (inl right) = absurd (backslash_no_character b.value right.0 (second_of _ _ (sym right.1 ∙ left.2)))
same_value a b text (inr left) (inr right) =
    let byte : left.0 ≡ right.0 = third_of _ _ (sym left.2 ∙ right.2) in
    same_some (sym left.1 ∙ ap escape_of byte ∙ right.1)

pub same_character : (a b : CharacterConstant) (text : List ℕ) → IsCharacter a text → IsCharacter b text → a ≡ b
same_character a b text left right = let value = same_value a b text left right in λ i. record { value = value i }

same_by_class : (a b : TokenKind) (text : List ℕ) → class_of_kind a ≡ class_of_kind b → Spells a text → Spells b text → a ≡ b
same_by_class kinds.Identifier kinds.Identifier text class left right = refl
same_by_class kinds.Identifier (kinds.Keyword keyword) text class left right = absurd (left.1 keyword right)
same_by_class (kinds.Keyword keyword) kinds.Identifier text class left right = absurd (right.1 keyword left)
same_by_class (kinds.Keyword a) (kinds.Keyword b) text class left right = ap (λ keyword. kinds.Keyword keyword) (keyword_text_injective a b (sym left ∙ right))
same_by_class (kinds.Integer a) (kinds.Integer b) text class left right = ap (λ constant. kinds.Integer constant) (same_integer a b text left right)
same_by_class (kinds.Integer a) kinds.Floating text class left right = absurd (integer_no_floating text (looks_integer a text left) text [] (sym (append-nil text)) right)
same_by_class kinds.Floating (kinds.Integer b) text class left right = absurd (integer_no_floating text (looks_integer b text right) text [] (sym (append-nil text)) left)
same_by_class kinds.Floating kinds.Floating text class left right = refl
same_by_class (kinds.Character a) (kinds.Character b) text class left right = ap (λ constant. kinds.Character constant) (same_character a b text left right)
same_by_class kinds.StringLiteral kinds.StringLiteral text class left right = refl
same_by_class (kinds.Punctuator a) (kinds.Punctuator b) text class left right = ap (λ punctuator. kinds.Punctuator punctuator) (punctuator_text_injective a b (sym left ∙ right))
same_by_class kinds.NullPointer b text class left right = absurd left
same_by_class (kinds.HeaderType type) b text class left right = absurd left
same_by_class (kinds.AtomicOperation operation) b text class left right = absurd left
same_by_class a kinds.NullPointer text class left right = absurd right
same_by_class a (kinds.HeaderType type) text class left right = absurd right
same_by_class a (kinds.AtomicOperation operation) text class left right = absurd right
same_by_class a b text class left right = absurd (omega arith)

pub same_kind : (a b : TokenKind) (text : List ℕ) → Spells a text → Spells b text → a ≡ b
same_kind a b text left right = same_by_class a b text (sym (class_is a text left) ∙ class_is b text right) left right

pub record SameBegins (k l : TokenKind) (s t q r : List ℕ) : Type 0 where
  pub kind : k ≡ l
  pub text : s ≡ t
  pub rest : q ≡ r

-- one token begins the bytes, at most
pub same_begins : (bytes : List ℕ) (k l : TokenKind) (s t q r : List ℕ) → Begins bytes k s q → Begins bytes l t r → SameBegins k l s t q r
same_begins bytes k l s t q r left right =
    let long = left.longest t r right.front (inl (l, right.spelled)) in
    let short = right.longest s q left.front (inl (k, left.spelled)) in
    let lengths : length s ≡ length t = omega arith in
    let same = same_fronts s q t r (sym left.front ∙ right.front) lengths in
    record { kind = same_kind k l t (subst (Spells k) same.0 left.spelled) right.spelled; text = same.0; rest = same.1 }
