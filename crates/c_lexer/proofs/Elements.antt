-- What begins some bytes, and what can't.
use Rattle.std.proofs.Common.{◌≡◌, ℕ, ◌<◌, ◌≤◌, Bool, true, false, ◌&&◌, ◌||◌, eqb, List, [], ◌∷◌, ◌++◌, length, get_or, take, drop, Result, Ok, Err, sym, refl, ap, ◌∙◌, subst, ⊎_elim, arith}
use Rattle.std.specs.List.{prefix_len}
use Rattle.std.proofs.lemmas.Bool.{false≢true, and_from}
use Rattle.std.proofs.lemmas.Bool.Decides.{nat_tests}
use Rattle.std.proofs.lemmas.List.{take-append-drop, length-take-le}
use Rattle.c_lexer.specs.declared.punctuator.Punctuator.TheVariants as punctuators
use Rattle.c_lexer.specs.declared.token.TokenKind.{TokenKind}
use Rattle.c_lexer.specs.declared.token.TokenKind.TheVariants as kinds
use Rattle.c_lexer.specs.declared.scanner.Unread.{Unread}
use Rattle.c_lexer.specs.declared.scanner.Unread.TheVariants as unreads
use Rattle.c_lexer.specs.declared.element.Found.{Found}
use Rattle.c_lexer.specs.Bytes.{is_blank, is_bad_byte, is_digit, is_line_byte}
use Rattle.c_lexer.specs.Spelling.{Spells}
use Rattle.c_lexer.specs.LongestMatch.{Begins}
use Rattle.c_lexer.specs.Comments.{CommentBegins}
use Rattle.c_lexer.specs.Directives.{Directive, DirectiveBegins}
use Rattle.c_lexer.specs.Elements.{ElementKind, Blank, Comment, DirectiveLine, SingleToken, ElementBegins, NoElementBegins}
use Rattle.c_lexer.specs.Scanning.Tokens.{NoTokenBegins, OpensAs, OpensToken}
use Rattle.c_lexer.specs.Scanning.Directives.{FollowsHash}
use Rattle.c_lexer.specs.Scanning.Elements.{CanOpen, IsFound, IsHashFound, IsLine, kind_in}
use Rattle.c_lexer.proofs.Gaps.{line_found}
use Rattle.c_lexer.proofs.Scans.{looks_token}
use Rattle.c_lexer.proofs.Uniqueness.{same_begins}
use Rattle.c_lexer.proofs.DirectiveScans.{behind_hash, hash_punctuator}
use Rattle.c_lexer.proofs.Files.{hash_first, blank_first, no_both}

pub no_directive_at : (bytes rest : List ℕ) → rest ≡ drop 1 bytes → ((d : Directive) (after : List ℕ) → FollowsHash rest d after → ⊥) → (d : Directive) (after : List ℕ) → DirectiveBegins bytes d after → ⊥
no_directive_at bytes rest is none d after begins =
    let behind = behind_hash bytes d after begins in
    none d after (subst (λ l. FollowsHash l d after) (sym (is ∙ ap (drop 1) behind.1)) behind.2)

pub opens_hash : (bytes : List ℕ) → 0 < length bytes → get_or bytes 0 0 ≡ 35 → OpensAs unreads.Directive bytes
opens_hash [] some hash = absurd (omega arith)
opens_hash (b ∷ bs) some hash = (bs, ap (λ n. n ∷ bs) hash)

-- no token begins what isn't a blank
hash_is_no_bad : (b : ℕ) → b ≡ 35 → is_bad_byte b ≡ true → ⊥
hash_is_no_bad b hash bad = grind (arith, nat_tests)

hash_unopened : (unread : Unread) (bytes : List ℕ) → get_or bytes 0 0 ≡ 35 → OpensToken unread bytes → ⊥
hash_unopened unreads.Byte bytes hash opens = hash_is_no_bad (get_or bytes 0 0) hash opens.1
hash_unopened unreads.Comment bytes hash opens = ⊎_elim (λ block. omega (arith, ap (λ l. get_or l 0 0) block)) (λ line. omega (arith, ap (λ l. get_or l 0 0) line)) opens.1
hash_unopened unreads.Text bytes hash opens = omega (arith, ap (λ l. get_or l 0 0) opens.1)
hash_unopened unreads.Number bytes hash opens = false≢true (ap (λ n. is_digit n || eqb n 39) (sym hash ∙ ap (λ l. get_or l 0 0) opens.2) ∙ opens.3)
hash_unopened unreads.Directive bytes hash opens = opens

opens_as : (unread : Unread) (bytes : List ℕ) → OpensToken unread bytes → OpensAs unread bytes
opens_as unreads.Byte bytes opens = opens
opens_as unreads.Comment bytes opens = opens
opens_as unreads.Text bytes opens = opens
opens_as unreads.Number bytes opens = opens
opens_as unreads.Directive bytes opens = absurd opens

none_begins : (fresh : Bool) (bytes : List ℕ) (unread : Unread) → is_blank (get_or bytes 0 0) ≡ false → ((text rest : List ℕ) → CommentBegins bytes text rest → ⊥) → NoTokenBegins bytes → OpensToken unread bytes → NoElementBegins (fresh ≡ true) bytes
none_begins fresh bytes unread blank comment none opens Blank text rest begins = no_both blank (blank_first bytes rest begins.0 begins.1 begins.3)
none_begins fresh bytes unread blank comment none opens Comment text rest begins = comment text rest begins
none_begins fresh bytes unread blank comment none opens (DirectiveLine d) text rest begins =
    hash_unopened unread bytes (ap (λ l. get_or l 0 0) (hash_first bytes d rest begins.2).1) opens
none_begins fresh bytes unread blank comment none opens (SingleToken kind) text rest begins = none kind text rest begins.0

pub none_unread : (fresh : Bool) (bytes : List ℕ) (unread : Unread) → is_blank (get_or bytes 0 0) ≡ false → ((text rest : List ℕ) → CommentBegins bytes text rest → ⊥) → NoTokenBegins bytes × OpensToken unread bytes → NoElementBegins (fresh ≡ true) bytes × OpensAs unread bytes
none_unread fresh bytes unread blank comment scanned = (none_begins fresh bytes unread blank comment scanned.0 scanned.1, opens_as unread bytes scanned.1)

-- ---- the `#` of a directive

line_begins : (fresh : Bool) (bytes text rest : List ℕ) (kind : ElementKind) → fresh ≡ true → bytes ≡ text ++ rest → IsLine bytes kind rest → ElementBegins (fresh ≡ true) bytes kind text rest
line_begins fresh bytes text rest Blank is_fresh split line = absurd line
line_begins fresh bytes text rest Comment is_fresh split line = absurd line
line_begins fresh bytes text rest (DirectiveLine d) is_fresh split line = (is_fresh, split, line)
line_begins fresh bytes text rest (SingleToken kind) is_fresh split line = absurd line

first_hash : (bytes : List ℕ) → 0 < length bytes → get_or bytes 0 0 ≡ 35 → (after : List ℕ) × (bytes ≡ 35 ∷ after)
first_hash [] some hash = absurd (omega arith)
first_hash (b ∷ bs) some hash = (bs, ap (λ n. n ∷ bs) hash)

none_at_hash : (fresh : Bool) (bytes : List ℕ) (token : TokenKind) → fresh ≡ true → 0 < length bytes → get_or bytes 0 0 ≡ 35 → Begins bytes token (take 1 bytes) (drop 1 bytes) → ((text rest : List ℕ) → CommentBegins bytes text rest → ⊥)
    → ((d : Directive) (rest : List ℕ) → DirectiveBegins bytes d rest → ⊥) → NoElementBegins (fresh ≡ true) bytes
none_at_hash fresh bytes token is_fresh some hash begins comment none Blank text rest blank = no_both (ap is_blank hash) (blank_first bytes rest blank.0 blank.1 blank.3)
none_at_hash fresh bytes token is_fresh some hash begins comment none Comment text rest other = comment text rest other
none_at_hash fresh bytes token is_fresh some hash begins comment none (DirectiveLine d) text rest line = none d rest line.2
none_at_hash fresh bytes token is_fresh some hash begins comment none (SingleToken kind) text rest lexed =
    let at = first_hash bytes some hash in
    let same = same_begins bytes kind token text (take 1 bytes) rest (drop 1 bytes) lexed.0 begins in
    ⊎_elim
    (λ is_hash. lexed.1 is_fresh is_hash)
    (λ two. omega (arith, ap length two, ap length same.text, length-take-le 1 bytes (omega arith)))
    (hash_punctuator bytes at.0 kind text rest at.1 lexed.0)

pub hash_result : (fresh : Bool) (bytes : List ℕ) (token : TokenKind) (result : Result Found Unread) → fresh ≡ true → 0 < length bytes → get_or bytes 0 0 ≡ 35 → Begins bytes token (take 1 bytes) (drop 1 bytes) → ((text rest : List ℕ) → CommentBegins bytes text rest → ⊥)
    → IsHashFound bytes result → IsFound fresh bytes result
hash_result fresh bytes token (Ok found) is_fresh some hash begins comment is =
    (is.0, is.1, is.2, line_begins fresh bytes (take found.length bytes) (drop found.length bytes) (kind_in bytes found.kind) is_fresh (sym (take-append-drop found.length bytes)) is.3)
hash_result fresh bytes token (Err unread) is_fresh some hash begins comment is =
    (none_at_hash fresh bytes token is_fresh some hash begins comment is.0, is.1)

spelled_hash : (kind : TokenKind) (text : List ℕ) {bytes rest : List ℕ} → Begins bytes kind text rest → kind ≡ kinds.Punctuator punctuators.Hash → text ≡ 35 ∷ []
spelled_hash kind text begins is = subst (λ k. Spells k text) is begins.spelled

-- a token that is no directive's `#`
pub lexed_found : (fresh : Bool) (bytes : List ℕ) (kind : TokenKind) (n : ℕ) → n ≤ length bytes → Begins bytes kind (take n bytes) (drop n bytes) → (fresh && (eqb n 1 && eqb (get_or bytes 0 0) 35)) ≡ false
    → ElementBegins (fresh ≡ true) bytes (SingleToken kind) (take n bytes) (drop n bytes)
lexed_found fresh bytes kind n inside begins fails = (
  begins,
  λ is_fresh is_hash.
      let text : take n bytes ≡ 35 ∷ [] = spelled_hash kind (take n bytes) begins is_hash in
      let size : n ≡ 1 = omega (arith, ap length text, length-take-le n bytes inside) in
      let first : get_or bytes 0 0 ≡ 35 = ap (λ l. get_or l 0 0) (begins.front ∙ ap (λ l. l ++ drop n bytes) text) in
      no_both fails (and_from fresh (eqb n 1 && eqb (get_or bytes 0 0) 35) is_fresh (and_from (eqb n 1) (eqb (get_or bytes 0 0) 35) (ap (λ k. eqb k 1) size) (ap (λ k. eqb k 35) first))),
)

-- where no element begins, a `//` doesn't either
pub can_open : (fresh : Bool) (bytes : List ℕ) (unread : Unread) → NoElementBegins (fresh ≡ true) bytes → OpensAs unread bytes → CanOpen unread bytes
can_open fresh bytes unreads.Byte none opens = opens
can_open fresh bytes unreads.Text none opens = opens
can_open fresh bytes unreads.Number none opens = opens
can_open fresh bytes unreads.Directive none opens = opens
can_open fresh bytes unreads.Comment none opens =
    ⊎_elim
    (λ block. (opens.0, block))
    (λ line.
    let n = prefix_len is_line_byte bytes in
    let found = line_found bytes n refl (omega (arith, ap length line)) (ap (λ l. get_or l 0 0) line) (ap (λ l. get_or l 1 0) line) in
    absurd (none Comment (take n bytes) (drop n bytes) found.1))
    opens.1

pub lexed_some : (bytes : List ℕ) (kind : TokenKind) (n : ℕ) → n ≤ length bytes → Begins bytes kind (take n bytes) (drop n bytes) → 0 < n
lexed_some bytes kind n inside begins = omega (arith, (looks_token kind (take n bytes) begins.spelled).some, length-take-le n bytes inside)
