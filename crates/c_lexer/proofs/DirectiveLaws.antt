-- The parts of a directive are found one after another, each behind blanks and comments.
use Rattle.std.proofs.Common.{◌≡◌, ℕ, ◌+◌, ◌-◌, ◌<◌, ◌≤◌, true, false, List, [], ◌∷◌, ◌++◌, length, get_or, take, drop, Some, sym, refl, ap, ◌∙◌, subst, arith}
use Rattle.std.proofs.lemmas.Bool.{false≢true}
use Rattle.std.proofs.lemmas.List.{drop-drop, drop_at, length-drop}
use Rattle.std.proofs.lemmas.List.Prefix.{front_fits}
use Rattle.c_lexer.specs.declared.header.Header.{Header}
use Rattle.c_lexer.specs.declared.token.TokenKind.{TokenKind}
use Rattle.c_lexer.specs.declared.token.TokenKind.TheVariants as kinds
use Rattle.c_lexer.specs.Bytes.{is_blank}
use Rattle.c_lexer.specs.Spelling.{is_word, Spells}
use Rattle.c_lexer.specs.LongestMatch.{Begins}
use Rattle.c_lexer.specs.Comments.{is_line_end, IsBehindGap}
use Rattle.c_lexer.specs.Headers.{header_text}
use Rattle.c_lexer.specs.Directives.{TokenBehindGap, EndsLine, is_constant}
use Rattle.c_lexer.specs.Scanning.Tokens.{NoTokenBegins, is_identifier, is_word_kind}
use Rattle.c_lexer.specs.Scanning.Comments.{begins_blank}
use Rattle.c_lexer.specs.Scanning.Directives.{IsLocated, IsHeaderLine}
use Rattle.c_lexer.proofs.Keywords.{is_word-keyword_text}
use Rattle.c_lexer.proofs.Gaps.{same_behind}
use Rattle.c_lexer.proofs.Scans.{looks_token}
use Rattle.c_lexer.proofs.Uniqueness.{SameBegins, same_begins}

-- bytes that begin with no blank
pub record Unblank (bytes : List ℕ) : Type 0 where
  pub some : 0 < length bytes
  pub no_blank : is_blank (get_or bytes 0 0) ≡ false

pub unblank : (bytes : List ℕ) → begins_blank bytes ≡ false → Unblank bytes
unblank [] fails = absurd (false≢true (sym fails))
unblank (b ∷ bs) fails = record { some = omega arith; no_blank = fails }

blank_fails : (bytes : List ℕ) → Unblank bytes → begins_blank bytes ≡ true → ⊥
blank_fails [] un blank = omega (arith, un.some)
blank_fails (b ∷ bs) un blank = false≢true (sym un.no_blank ∙ blank)

-- a token begins with no blank
pub token_unblank : (bytes : List ℕ) (kind : TokenKind) (text rest : List ℕ) → Begins bytes kind text rest → Unblank bytes
token_unblank bytes kind [] rest begins = absurd (omega (arith, (looks_token kind [] begins.spelled).some))
token_unblank bytes kind (b ∷ bs) rest begins = record {
  some = omega (arith, front_fits bytes (b ∷ bs) rest begins.front);
  no_blank = ap (λ l. is_blank (get_or l 0 0)) begins.front ∙ (looks_token kind (b ∷ bs) begins.spelled).no_blank;
}

module _ (bytes rest : List ℕ) (start : ℕ) (behind : IsBehindGap bytes (drop start bytes)) (rest_is : rest ≡ drop start bytes) where
  at_rest : (at : List ℕ) → IsBehindGap bytes at → at ≡ rest
  at_rest at gap = same_behind bytes at (drop start bytes) gap behind ∙ sym rest_is

  pub none_at_blank : begins_blank rest ≡ true → (kind : TokenKind) (text after : List ℕ) → TokenBehindGap bytes kind text after → ⊥
  none_at_blank blank kind text after token =
      blank_fails rest (subst Unblank (at_rest token.0 token.1) (token_unblank token.0 kind text after token.2)) blank

  pub none_at_unread : NoTokenBegins rest → (kind : TokenKind) (text after : List ℕ) → TokenBehindGap bytes kind text after → ⊥
  none_at_unread none kind text after token = none kind text after (subst (λ l. Begins l kind text after) (at_rest token.0 token.1) token.2)

  pub located_at : (kind : TokenKind) (n : ℕ) → start ≤ length bytes → n ≤ length rest → Begins rest kind (take n rest) (drop n rest)
      → IsLocated bytes (Some (record { kind = kind; start = start; end = start + n }))
  located_at kind n inside size begins =
      let span : (start + n) - start ≡ n = omega arith in
      let back : drop n rest ≡ drop (start + n) bytes = ap (drop n) rest_is ∙ drop-drop n start bytes in
      let front : take n rest ≡ take ((start + n) - start) (drop start bytes) = ap (take n) rest_is ∙ ap (λ k. take k (drop start bytes)) (sym span) in (
        omega arith,
        omega (arith, ap length rest_is, length-drop start bytes),
        (
          drop start bytes,
          behind,
          subst (λ l. Begins l kind (take ((start + n) - start) (drop start bytes)) (drop (start + n) bytes)) rest_is
              (subst (λ l. Begins rest kind l (drop (start + n) bytes)) front (subst (λ l. Begins rest kind (take n rest) l) back begins)),
        ),
      )

  pub end_at : is_line_end rest ≡ true → EndsLine bytes (drop start bytes)
  end_at ends = (behind, ap is_line_end (sym rest_is) ∙ ends)

  pub no_end_at : is_line_end rest ≡ false → (after : List ℕ) → EndsLine bytes after → ⊥
  no_end_at fails after ends = false≢true (sym fails ∙ ap is_line_end (sym (at_rest after ends.0)) ∙ ends.1)

-- one token stands behind the blanks and comments
pub same_token_behind : (bytes : List ℕ) (k l : TokenKind) (t u q r : List ℕ) → TokenBehindGap bytes k t q → TokenBehindGap bytes l u r → SameBegins k l t u q r
same_token_behind bytes k l t u q r left right =
    let at : left.0 ≡ right.0 = same_behind bytes left.0 right.0 left.1 right.1 in
    same_begins right.0 k l t u q r (subst (λ b. Begins b k t q) at left.2) right.2

pub same_end : (bytes q r : List ℕ) → EndsLine bytes q → EndsLine bytes r → q ≡ r
same_end bytes q r left right = same_behind bytes q r left.0 right.0

-- ---- identifiers, names and constants

pub identifier_is : (kind : TokenKind) → is_identifier kind ≡ true → kind ≡ kinds.Identifier
identifier_is kinds.Identifier is = refl
identifier_is (kinds.Keyword keyword) is = absurd (false≢true is)
identifier_is (kinds.Integer constant) is = absurd (false≢true is)
identifier_is kinds.Floating is = absurd (false≢true is)
identifier_is (kinds.Character constant) is = absurd (false≢true is)
identifier_is kinds.StringLiteral is = absurd (false≢true is)
identifier_is (kinds.Punctuator punctuator) is = absurd (false≢true is)
identifier_is kinds.NullPointer is = absurd (false≢true is)
identifier_is (kinds.HeaderType type) is = absurd (false≢true is)
identifier_is (kinds.AtomicOperation operation) is = absurd (false≢true is)

pub word_kind_is : (kind : TokenKind) (text : List ℕ) → Spells kind text → is_word_kind kind ≡ true → is_word text ≡ true
word_kind_is kinds.Identifier text spelled is = spelled.0
word_kind_is (kinds.Keyword keyword) text spelled is = ap is_word spelled ∙ is_word-keyword_text keyword
word_kind_is (kinds.Integer constant) text spelled is = absurd (false≢true is)
word_kind_is kinds.Floating text spelled is = absurd (false≢true is)
word_kind_is (kinds.Character constant) text spelled is = absurd (false≢true is)
word_kind_is kinds.StringLiteral text spelled is = absurd (false≢true is)
word_kind_is (kinds.Punctuator punctuator) text spelled is = absurd (false≢true is)
word_kind_is kinds.NullPointer text spelled is = absurd (false≢true is)
word_kind_is (kinds.HeaderType type) text spelled is = absurd (false≢true is)
word_kind_is (kinds.AtomicOperation operation) text spelled is = absurd (false≢true is)

pub no_identifier : (bytes : List ℕ) (kind : TokenKind) (text rest : List ℕ) → TokenBehindGap bytes kind text rest → is_identifier kind ≡ false → (name after : List ℕ) → TokenBehindGap bytes kinds.Identifier name after → ⊥
no_identifier bytes kind text rest token fails name after identifier =
    false≢true (sym fails ∙ ap is_identifier (same_token_behind bytes kind kinds.Identifier text name rest after token identifier).kind)

pub no_constant : (bytes : List ℕ) (kind : TokenKind) (text rest : List ℕ) → TokenBehindGap bytes kind text rest → is_constant kind ≡ false → (other : TokenKind) (name after : List ℕ) → is_constant other ≡ true → TokenBehindGap bytes other name after → ⊥
no_constant bytes kind text rest token fails other name after is other_token =
    false≢true (sym fails ∙ ap is_constant (same_token_behind bytes kind other text name rest after token other_token).kind ∙ is)

-- ---- lines

module _ (bytes rest : List ℕ) (start : ℕ) (behind : IsBehindGap bytes (drop start bytes)) (rest_is : rest ≡ drop start bytes) where
  pub header_line : (header : Header) (after : List ℕ) (n : ℕ) (tail : List ℕ) → rest ≡ header_text header ++ after → n ≡ length (header_text header) → tail ≡ drop (start + n) bytes
      → (last : ℕ) → EndsLine tail (drop last tail) → IsHeaderLine bytes header (drop ((start + n) + last) bytes)
  header_line header after n tail front size tail_is last ends =
      let after_is : after ≡ tail = sym (ap (drop n) front ∙ drop_at (header_text header) after n (sym size)) ∙ ap (drop n) rest_is ∙ drop-drop n start bytes ∙ sym tail_is in
      let back : drop last tail ≡ drop ((start + n) + last) bytes = ap (drop last) tail_is ∙ drop-drop last (start + n) bytes in
      record {
        at_header = drop start bytes;
        after_header = after;
        gap = behind;
        header_name = sym rest_is ∙ front;
        end = subst (λ l. EndsLine l (drop ((start + n) + last) bytes)) (sym after_is) (subst (λ l. EndsLine tail l) back ends);
      }

  pub header_front : (header : Header) (after : List ℕ) → IsHeaderLine bytes header after → (more : List ℕ) × (rest ≡ header_text header ++ more) × EndsLine more after
  header_front header after line =
      (line.after_header, sym (same_behind bytes line.at_header (drop start bytes) line.gap behind ∙ sym rest_is) ∙ line.header_name, line.end)
