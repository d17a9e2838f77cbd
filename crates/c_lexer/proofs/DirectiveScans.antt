-- Headers, lines and directives: what is found is what the bytes have, and there is one at most.
use Rattle.std.proofs.Common.{◌≡◌, ℕ, zero, suc, ◌+◌, ◌-◌, true, cond, ◌&&◌, ◌||◌, eqb, List, [], ◌∷◌, ◌++◌, codes, length, get_or, take, drop, Option, Some, None, sym, refl, ap, ◌∙◌, subst, inl, inr, ⊎_elim, arith, ◌⊎◌}
use Rattle.std.specs.List.{slice_range}
use Rattle.std.proofs.lemmas.Bool.{false≢true}
use Rattle.std.proofs.lemmas.List.{drop-drop, drop_at}
use Rattle.c_lexer.specs.declared.header.Header.{Header}
use Rattle.c_lexer.specs.declared.header.Header.TheVariants as headers
use Rattle.c_lexer.specs.declared.punctuator.Punctuator.TheVariants as punctuators
use Rattle.c_lexer.specs.declared.token.TokenKind.{TokenKind}
use Rattle.c_lexer.specs.declared.token.TokenKind.TheVariants as kinds
use Rattle.c_lexer.specs.declared.directive.FoundDirective.{FoundDirective}
use Rattle.c_lexer.specs.declared.directive.DirectiveKind.TheVariants as directives
use Rattle.c_lexer.specs.Bytes.{is_blank, is_letter, is_digit}
use Rattle.c_lexer.specs.Punctuator.{punctuator_text}
use Rattle.c_lexer.specs.LongestMatch.{Begins}
use Rattle.c_lexer.specs.Comments.{IsGap, IsBehindGap, GapBegins}
use Rattle.c_lexer.specs.Headers.{header_text}
use Rattle.c_lexer.specs.Directives.{Directive, Include, Define, TokenBehindGap, EndsLine, IsInclude, IsDefine, DirectiveBegins}
use Rattle.c_lexer.specs.Scanning.Directives.{IsHeaderLine, IsConstantLine, IsDefinitionLine, FollowsHash}
use Rattle.c_lexer.specs.Scanning.Directives.{IsIncludeBehind, IsDefineBehind, IsDirectiveBody, directive_in}
use Rattle.c_lexer.specs.Scanning.Directives.{AreWithin}
use Rattle.c_lexer.proofs.Punctuators.{hash_or_two}
use Rattle.c_lexer.proofs.Lists.{first_of_front}
use Rattle.c_lexer.proofs.Classes.{class_of_text}
use Rattle.c_lexer.proofs.Lexemes.{class_is}
use Rattle.c_lexer.proofs.Gaps.{same_behind, looks_comment}
use Rattle.c_lexer.proofs.Scans.{looks_token, punctuator_by_class}
use Rattle.c_lexer.proofs.Uniqueness.{same_kind}
use Rattle.c_lexer.proofs.DirectiveLaws.{same_token_behind, same_end, header_front}

-- two bytes tell the headers apart
abbrev header_at : ℕ → ℕ → Header
header_at a b = cond (eqb a 114) headers.Refinedc (cond (eqb b 100) headers.Stddef (cond (eqb b 105) headers.Stdint (cond (eqb b 98) headers.Stdbool headers.Stdatomic)))

header_at-text : (header : Header) (more : List ℕ) → header_at (get_or (header_text header ++ more) 1 0) (get_or (header_text header ++ more) 4 0) ≡ header
header_at-text headers.Stddef more = refl
header_at-text headers.Stdint more = refl
header_at-text headers.Stdbool more = refl
header_at-text headers.Stdatomic more = refl
header_at-text headers.Refinedc more = refl

pub record SameHeader (g h : Header) (m n : List ℕ) : Type 0 where
  pub header : g ≡ h
  pub more : m ≡ n

pub same_header : (bytes : List ℕ) (g h : Header) (m n : List ℕ) → bytes ≡ header_text g ++ m → bytes ≡ header_text h ++ n → SameHeader g h m n
same_header bytes g h m n left right =
    let same : g ≡ h = sym (header_at-text g m) ∙ ap (λ l. header_at (get_or l 1 0) (get_or l 4 0)) (sym left ∙ right) ∙ header_at-text h n in
    record {
      header = same;
      more = sym (drop_at (header_text g) m (length (header_text g)) refl) ∙ ap (drop (length (header_text g))) (sym left ∙ right)
          ∙ ap (λ x. drop (length (header_text x)) (header_text h ++ n)) same ∙ drop_at (header_text h) n (length (header_text h)) refl;
    }

-- ---- lines

pub record SameLine (g h : Header) (q r : List ℕ) : Type 0 where
  pub header : g ≡ h
  pub rest : q ≡ r

pub same_header_line : (bytes : List ℕ) (g h : Header) (q r : List ℕ) → IsHeaderLine bytes g q → IsHeaderLine bytes h r → SameLine g h q r
same_header_line bytes g h q r left right =
    let at : left.at_header ≡ right.at_header = same_behind bytes left.at_header right.at_header left.gap right.gap in
    let same = same_header right.at_header g h left.after_header right.after_header (sym at ∙ left.header_name) right.header_name in
    record { header = same.header; rest = same_end right.after_header q r (subst (λ l. EndsLine l q) same.more left.end) right.end }

pub record SameConstant (k l : TokenKind) (q r : List ℕ) : Type 0 where
  pub kind : k ≡ l
  pub rest : q ≡ r

pub same_constant_line : (bytes : List ℕ) (k l : TokenKind) (q r : List ℕ) → IsConstantLine bytes k q → IsConstantLine bytes l r → SameConstant k l q r
same_constant_line bytes k l q r left right =
    let same = same_token_behind bytes k l left.0 right.0 left.1 right.1 left.3 right.3 in
    record { kind = same.kind; rest = same_end right.1 q r (subst (λ b. EndsLine b q) same.rest left.4) right.4 }

pub record SameDefinition (s t : List ℕ) (k l : TokenKind) (q r : List ℕ) : Type 0 where
  pub name : s ≡ t
  pub kind : k ≡ l
  pub rest : q ≡ r

pub same_definition_line : (bytes s t : List ℕ) (k l : TokenKind) (q r : List ℕ) → IsDefinitionLine bytes s k q → IsDefinitionLine bytes t l r → SameDefinition s t k l q r
same_definition_line bytes s t k l q r left right =
    let same = same_token_behind bytes kinds.Identifier kinds.Identifier s t left.0 right.0 left.1 right.1 in
    let line = same_constant_line right.0 k l q r (subst (λ b. IsConstantLine b k q) same.rest left.2) right.2 in
    record { name = same.text; kind = line.kind; rest = line.rest }

header_line_of : (bytes : List ℕ) (header : Header) (rest : List ℕ) (is : IsInclude bytes header rest) → IsHeaderLine is.after_word header rest
header_line_of bytes header rest is = record { at_header = is.at_header; after_header = is.after_header; gap = is.gap; header_name = is.header_name; end = is.end }

definition_line_of : (bytes name : List ℕ) (kind : TokenKind) (rest : List ℕ) (is : IsDefine bytes name kind rest) → IsDefinitionLine is.after_word name kind rest
definition_line_of bytes name kind rest is = (is.after_name, is.named, (is.text, is.after_text, is.constant.0, is.constant.1, is.end))

include_is_no_define : (bytes q r : List ℕ) → TokenBehindGap bytes kinds.Identifier (codes "include") q → TokenBehindGap bytes kinds.Identifier (codes "define") r → ⊥
include_is_no_define bytes q r left right = omega (arith, ap length (same_token_behind bytes kinds.Identifier kinds.Identifier (codes "include") (codes "define") q r left right).text)

pub record SameDirective (d e : Directive) (q r : List ℕ) : Type 0 where
  pub directive : d ≡ e
  pub rest : q ≡ r

same_behind_hash : (bytes : List ℕ) (d e : Directive) (q r : List ℕ) → FollowsHash bytes d q → FollowsHash bytes e r → SameDirective d e q r
same_behind_hash bytes (Include g) (Include h) q r left right =
    let word = same_token_behind bytes kinds.Identifier kinds.Identifier (codes "include") (codes "include") left.after_word right.after_word left.word right.word in
    let same = same_header_line right.after_word g h q r (subst (λ b. IsHeaderLine b g q) word.rest (header_line_of bytes g q left)) (header_line_of bytes h r right) in
    record { directive = ap (λ x. Include x) same.header; rest = same.rest }
same_behind_hash bytes (Include g) (Define t l) q r left right = absurd (include_is_no_define bytes left.after_word right.after_word left.word right.word)
same_behind_hash bytes (Define s k) (Include h) q r left right = absurd (include_is_no_define bytes right.after_word left.after_word right.word left.word)
same_behind_hash bytes (Define s k) (Define t l) q r left right =
    let word = same_token_behind bytes kinds.Identifier kinds.Identifier (codes "define") (codes "define") left.after_word right.after_word left.word right.word in
    let same = same_definition_line right.after_word s t k l q r (subst (λ b. IsDefinitionLine b s k q) word.rest (definition_line_of bytes s k q left)) (definition_line_of bytes t l r right) in
    let name : s ≡ t = same.name in
    let kind : k ≡ l = same.kind in
    record { directive = λ i. Define (name i) (kind i); rest = same.rest }

pub behind_hash : (bytes : List ℕ) (d : Directive) (rest : List ℕ) → DirectiveBegins bytes d rest → (after : List ℕ) × (bytes ≡ 35 ∷ after) × FollowsHash after d rest
behind_hash bytes (Include header) rest begins = begins
behind_hash bytes (Define name kind) rest begins = begins

pub from_hash : (bytes after : List ℕ) (d : Directive) (rest : List ℕ) → bytes ≡ 35 ∷ after → FollowsHash after d rest → DirectiveBegins bytes d rest
from_hash bytes after (Include header) rest is follows = (after, is, follows)
from_hash bytes after (Define name kind) rest is follows = (after, is, follows)

pub same_directive : (bytes : List ℕ) (d e : Directive) (q r : List ℕ) → DirectiveBegins bytes d q → DirectiveBegins bytes e r → SameDirective d e q r
same_directive bytes d e q r left right =
    let l = behind_hash bytes d q left in
    let m = behind_hash bytes e r right in
    let after : l.0 ≡ m.0 = ap (drop 1) (sym l.1 ∙ m.1) in
    same_behind_hash m.0 d e q r (subst (λ b. FollowsHash b d q) after l.2) m.2

-- ---- the `#` of a directive is no longer token

first_word : (bytes : List ℕ) (d : Directive) (rest : List ℕ) → FollowsHash bytes d rest → (text : List ℕ) × (after : List ℕ) × TokenBehindGap bytes kinds.Identifier text after × (is_letter (get_or text 0 0) ≡ true)
first_word bytes (Include header) rest is = (codes "include", is.after_word, is.word, refl)
first_word bytes (Define name kind) rest is = (codes "define", is.after_word, is.word, refl)

no_gap_at_hash : (bytes more after : List ℕ) → bytes ≡ 35 ∷ more → GapBegins bytes after → ⊥
no_gap_at_hash bytes more after is gap =
    ⊎_elim
    (λ blank. false≢true (sym (ap is_blank (ap (λ l. get_or l 0 0) (sym blank.3 ∙ is))) ∙ blank.1))
    (λ comment. omega (arith, (looks_comment bytes comment.0 after comment.1).slash, ap (λ l. get_or l 0 0) is))
    gap

gap_at_hash : (n : List (List ℕ)) (bytes more at : List ℕ) → bytes ≡ 35 ∷ more → IsGap n bytes at → bytes ≡ at
gap_at_hash [] bytes more at is gap = gap
gap_at_hash (a ∷ n) bytes more at is gap = absurd (no_gap_at_hash bytes more a is gap.0)

no_second_hash : (bytes more : List ℕ) (d : Directive) (rest : List ℕ) → bytes ≡ 35 ∷ more → FollowsHash bytes d rest → ⊥
no_second_hash bytes more d rest is follows =
    let word = first_word bytes d rest follows in
    let token = word.2 in
    let at : bytes ≡ token.0 = gap_at_hash token.1.0.0 bytes more token.0 is token.1.0.1 in
    let some = (looks_token kinds.Identifier word.0 token.2.spelled).some in
    let first : get_or word.0 0 0 ≡ 35 = first_of_front token.0 word.0 word.1 token.2.front some ∙ ap (λ l. get_or l 0 0) (sym at ∙ is) in
    false≢true (ap is_letter (sym first) ∙ word.3)

class_35 : (text : List ℕ) → get_or text 0 0 ≡ 35 → class_of_text text ≡ 4
class_35 text first = ap (λ a. cond (is_letter a) 0 (cond (is_digit a || (eqb a 46 && is_digit (get_or text 1 0))) 1 (cond (eqb a 34) 2 (cond (eqb a 39) 3 4)))) first

hash_kind : (kind : TokenKind) (u : List ℕ) {bytes r : List ℕ} → Begins bytes kind u r → u ≡ 35 ∷ [] → kind ≡ kinds.Punctuator punctuators.Hash
hash_kind kind u begins is = same_kind kind (kinds.Punctuator punctuators.Hash) u begins.spelled is

pub hash_punctuator : (bytes after : List ℕ) (kind : TokenKind) (u r : List ℕ) → bytes ≡ 35 ∷ after → Begins bytes kind u r → (kind ≡ kinds.Punctuator punctuators.Hash) ⊎ (u ≡ 35 ∷ 35 ∷ [])
hash_punctuator bytes after kind u r is begins =
    let some = (looks_token kind u begins.spelled).some in
    let first : get_or u 0 0 ≡ 35 = first_of_front bytes u r begins.front some ∙ ap (λ l. get_or l 0 0) is in
    let found = punctuator_by_class kind u begins.spelled (sym (class_is kind u begins.spelled) ∙ class_35 u first) in
    ⊎_elim
    (λ hash. inl (hash_kind kind u begins (found.1 ∙ ap punctuator_text hash)))
    (λ two. inr (found.1 ∙ ap punctuator_text two))
    (hash_or_two found.0 (ap (λ l. eqb (get_or l 0 0) 35) (sym found.1) ∙ ap (λ n. eqb n 35) first))

pub hash_token : (bytes : List ℕ) (d : Directive) (q : List ℕ) (kind : TokenKind) (u r : List ℕ) → DirectiveBegins bytes d q → Begins bytes kind u r → kind ≡ kinds.Punctuator punctuators.Hash
hash_token bytes d q kind u r directive begins =
    let behind = behind_hash bytes d q directive in
    ⊎_elim
    (λ hash. hash)
    (λ two.
    let after : behind.0 ≡ 35 ∷ r = ap (drop 1) (sym behind.1 ∙ begins.front ∙ ap (λ l. l ++ r) two) in
    absurd (no_second_hash behind.0 r d q after behind.2))
    (hash_punctuator bytes behind.0 kind u r behind.1 begins)

-- ---- what the functions find

slice_shift : (bytes rest : List ℕ) (from s e : ℕ) → rest ≡ drop from bytes → take (e - s) (drop s rest) ≡ take ((from + e) - (from + s)) (drop (from + s) bytes)
slice_shift bytes rest from s e is =
    let span : e - s ≡ (from + e) - (from + s) = omega arith in
    ap (λ l. take (e - s) (drop s l)) is ∙ ap (take (e - s)) (drop-drop s from bytes) ∙ ap (λ n. take n (drop (from + s) bytes)) span

pub no_header_end : (bytes tail : List ℕ) (header : Header) (start : ℕ) (rest after : List ℕ) (n : ℕ) → IsBehindGap bytes (drop start bytes) → rest ≡ drop start bytes → rest ≡ header_text header ++ after → n ≡ length (header_text header)
    → tail ≡ drop (start + n) bytes → ((more : List ℕ) → EndsLine tail more → ⊥) → (other : Header) (more : List ℕ) → IsHeaderLine bytes other more → ⊥
no_header_end bytes tail header start rest after n behind rest_is front size tail_is none other more line =
    let found = header_front bytes rest start behind rest_is other more line in
    let same = same_header rest other header found.0 after found.1 front in
    let after_is : after ≡ tail = sym (ap (drop n) front ∙ drop_at (header_text header) after n (sym size)) ∙ ap (drop n) rest_is ∙ drop-drop n start bytes ∙ sym tail_is in
    none more (subst (λ l. EndsLine l more) (same.more ∙ after_is) found.2)

pub definition_shift : (bytes rest : List ℕ) (from s e length_ : ℕ) (kind : TokenKind) → rest ≡ drop from bytes → IsDefinitionLine rest (take (e - s) (drop s rest)) kind (drop length_ rest)
    → IsDefinitionLine (drop from bytes) (take ((from + e) - (from + s)) (drop (from + s) bytes)) kind (drop (from + length_) bytes)
definition_shift bytes rest from s e length_ kind is line =
    subst (λ l. IsDefinitionLine l (take ((from + e) - (from + s)) (drop (from + s) bytes)) kind (drop (from + length_) bytes)) is
    (subst (λ l. IsDefinitionLine rest l kind (drop (from + length_) bytes)) (slice_shift bytes rest from s e is)
    (subst (λ l. IsDefinitionLine rest (take (e - s) (drop s rest)) kind l) (ap (drop length_) is ∙ drop-drop length_ from bytes) line))

include_of : (bytes : List ℕ) (end : ℕ) (header : Header) (rest : List ℕ) → TokenBehindGap bytes kinds.Identifier (codes "include") (drop end bytes) → IsHeaderLine (drop end bytes) header rest → IsInclude bytes header rest
include_of bytes end header rest token line = record { after_word = drop end bytes; at_header = line.at_header; after_header = line.after_header; word = token; gap = line.gap; header_name = line.header_name; end = line.end }

define_of : (bytes : List ℕ) (end : ℕ) (name : List ℕ) (kind : TokenKind) (rest : List ℕ) → TokenBehindGap bytes kinds.Identifier (codes "define") (drop end bytes) → IsDefinitionLine (drop end bytes) name kind rest → IsDefine bytes name kind rest
define_of bytes end name kind rest token line = record { after_word = drop end bytes; after_name = line.0; text = line.2.0; after_text = line.2.1; word = token; named = line.1; constant = (line.2.2, line.2.3); end = line.2.4 }

no_include : (bytes : List ℕ) (end : ℕ) (directive : Directive) (rest : List ℕ) → TokenBehindGap bytes kinds.Identifier (codes "include") (drop end bytes)
    → ((header : Header) (after : List ℕ) → IsHeaderLine (drop end bytes) header after → ⊥) → FollowsHash bytes directive rest → ⊥
no_include bytes end (Include header) rest token none is =
    let same = same_token_behind bytes kinds.Identifier kinds.Identifier (codes "include") (codes "include") is.after_word (drop end bytes) is.word token in
    none header rest (subst (λ l. IsHeaderLine l header rest) same.rest (header_line_of bytes header rest is))
no_include bytes end (Define name kind) rest token none is = include_is_no_define bytes (drop end bytes) is.after_word token is.word

no_define : (bytes : List ℕ) (end : ℕ) (directive : Directive) (rest : List ℕ) → TokenBehindGap bytes kinds.Identifier (codes "define") (drop end bytes)
    → ((name : List ℕ) (kind : TokenKind) (after : List ℕ) → IsDefinitionLine (drop end bytes) name kind after → ⊥) → FollowsHash bytes directive rest → ⊥
no_define bytes end (Include header) rest token none is = include_is_no_define bytes is.after_word (drop end bytes) is.word token
no_define bytes end (Define name kind) rest token none is =
    let same = same_token_behind bytes kinds.Identifier kinds.Identifier (codes "define") (codes "define") is.after_word (drop end bytes) is.word token in
    none name kind rest (subst (λ l. IsDefinitionLine l name kind rest) same.rest (definition_line_of bytes name kind rest is))

pub include_found : (bytes : List ℕ) (end : ℕ) (result : Option FoundDirective) → TokenBehindGap bytes kinds.Identifier (codes "include") (drop end bytes) → IsIncludeBehind bytes end result → IsDirectiveBody bytes result
include_found bytes end (Some found) token behind =
    let kind : found.kind ≡ directives.Include behind.1.0 = behind.1.1 in (
      behind.0,
      subst (λ k. AreWithin k (length bytes)) (sym kind) tt,
      subst (λ k. FollowsHash bytes (directive_in bytes k) (drop found.length bytes)) (sym kind) (include_of bytes end behind.1.0 (drop found.length bytes) token behind.1.2),
    )
include_found bytes end None token none = λ directive rest follows. no_include bytes end directive rest token none follows

pub define_found : (bytes : List ℕ) (end : ℕ) (result : Option FoundDirective) → TokenBehindGap bytes kinds.Identifier (codes "define") (drop end bytes) → IsDefineBehind bytes end result → IsDirectiveBody bytes result
define_found bytes end (Some found) token behind =
    let kind : found.kind ≡ directives.Define behind.1.0 = behind.1.1 in (
      behind.0,
      subst (λ k. AreWithin k (length bytes)) (sym kind) (behind.1.2, behind.1.3),
      subst (λ k. FollowsHash bytes (directive_in bytes k) (drop found.length bytes)) (sym kind)
          (define_of bytes end (slice_range bytes behind.1.0.start behind.1.0.end) behind.1.0.kind (drop found.length bytes) token behind.1.4),
    )
define_found bytes end None token none = λ directive rest follows. no_define bytes end directive rest token none follows

pub no_directive : (bytes text rest : List ℕ) → TokenBehindGap bytes kinds.Identifier text rest → (text ≡ codes "include" → ⊥) → (text ≡ codes "define" → ⊥) → (d : Directive) (after : List ℕ) → FollowsHash bytes d after → ⊥
no_directive bytes text rest token no_include_word no_define_word (Include header) after is =
    no_include_word (same_token_behind bytes kinds.Identifier kinds.Identifier text (codes "include") rest is.after_word token is.word).text
no_directive bytes text rest token no_include_word no_define_word (Define name kind) after is =
    no_define_word (same_token_behind bytes kinds.Identifier kinds.Identifier text (codes "define") rest is.after_word token is.word).text

pub no_word : (bytes : List ℕ) → ((text rest : List ℕ) → TokenBehindGap bytes kinds.Identifier text rest → ⊥) → (d : Directive) (after : List ℕ) → FollowsHash bytes d after → ⊥
no_word bytes none (Include header) after is = none (codes "include") is.after_word is.word
no_word bytes none (Define name kind) after is = none (codes "define") is.after_word is.word
