-- A file has one list of elements, so it has tokens or a fault, and one of either.
use Rattle.std.proofs.Common.{◌≡◌, ℕ, ◌<◌, Bool, true, false, ◌&&◌, ◌||◌, eqb, List, [], ◌∷◌, ◌++◌, length, get_or, drop, Option, Some, None, sym, refl, ap, ◌∙◌, subst, ⊎_elim, arith}
use Rattle.std.proofs.lemmas.Bool.{false≢true, cases_lt, cases_eq}
use Rattle.std.proofs.lemmas.Bool.Decides.{nat_tests}
use Rattle.std.proofs.lemmas.List.{length-append}
use Rattle.rc_text.specs.Places.{place_after}
use Rattle.c_lexer.specs.declared.fault.LexFaultKind.{LexFaultKind}
use Rattle.c_lexer.specs.declared.fault.LexFaultKind.TheVariants as faults
use Rattle.c_lexer.specs.declared.fault.LexFault.{LexFault}
use Rattle.c_lexer.specs.Bytes.{is_blank, is_bad_byte, is_digit}
use Rattle.c_lexer.specs.Comments.{CommentBegins}
use Rattle.c_lexer.specs.Directives.{Directive, Include, Define, DirectiveBegins, HasName}
use Rattle.c_lexer.specs.TokenLists.{TokenLists}
use Rattle.c_lexer.specs.Elements.{ElementKind, Blank, Comment, DirectiveLine, SingleToken, Element, AreBeforeLine, bytes_of, ElementBegins, NoElementBegins, AreElements, tokens_of, includes_of}
use Rattle.c_lexer.specs.Files.{AreTokensOf, Opens, IsFaultOf}
use Rattle.c_lexer.specs.Scanning.Tokens.{begins_comment}
use Rattle.c_lexer.proofs.Lists.{same_fronts}
use Rattle.c_lexer.proofs.Gaps.{looks_comment, same_comment}
use Rattle.c_lexer.proofs.PunctuatorScans.{no_token_at_comment}
use Rattle.c_lexer.proofs.Uniqueness.{same_begins}
use Rattle.c_lexer.proofs.DirectiveLaws.{token_unblank, same_token_behind}
use Rattle.c_lexer.proofs.DirectiveScans.{same_directive, hash_token}

pub record SameElement (k l : ElementKind) (t u q r : List ℕ) : Type 0 where
  pub kind : k ≡ l
  pub text : t ≡ u
  pub rest : q ≡ r

-- how each element begins
pub blank_first : (bytes rest : List ℕ) (b : ℕ) → is_blank b ≡ true → bytes ≡ b ∷ rest → is_blank (get_or bytes 0 0) ≡ true
blank_first bytes rest b blank is = ap (λ l. is_blank (get_or l 0 0)) is ∙ blank

slash_no_blank : (bytes text rest : List ℕ) → CommentBegins bytes text rest → is_blank (get_or bytes 0 0) ≡ false
slash_no_blank bytes text rest begins = ap is_blank (looks_comment bytes text rest begins).slash

comment_begins : (bytes text rest : List ℕ) → CommentBegins bytes text rest → begins_comment bytes ≡ true
comment_begins bytes text rest begins =
    let look = looks_comment bytes text rest begins in
    ap (λ a. eqb a 47 && (eqb (get_or bytes 1 0) 42 || eqb (get_or bytes 1 0) 47)) look.slash
    ∙ ⊎_elim (λ block. ap (λ b. eqb b 42 || eqb b 47) block.0) (λ line. ap (λ b. eqb b 42 || eqb b 47) line.0) look.second

pub hash_first : (bytes : List ℕ) (directive : Directive) (rest : List ℕ) → DirectiveBegins bytes directive rest → (after : List ℕ) × (bytes ≡ 35 ∷ after)
hash_first bytes (Include header) rest begins = (begins.0, begins.1)
hash_first bytes (Define name kind) rest begins = (begins.0, begins.1)

pub hash_no_blank : (bytes : List ℕ) (directive : Directive) (rest : List ℕ) → DirectiveBegins bytes directive rest → is_blank (get_or bytes 0 0) ≡ false
hash_no_blank bytes directive rest begins = ap (λ l. is_blank (get_or l 0 0)) (hash_first bytes directive rest begins).1

pub hash_no_slash : (bytes text q rest : List ℕ) (directive : Directive) → DirectiveBegins bytes directive rest → CommentBegins bytes text q → ⊥
hash_no_slash bytes text q rest directive begins comment =
    omega (arith, (looks_comment bytes text q comment).slash, ap (λ l. get_or l 0 0) (hash_first bytes directive rest begins).1)

pub no_both : {b : Bool} → b ≡ false → b ≡ true → ⊥
no_both fails passes = false≢true (sym fails ∙ passes)

same_text : (t u q r : List ℕ) → t ++ q ≡ u ++ r → q ≡ r → t ≡ u
same_text t u q r same rest =
    (same_fronts t q u r same (omega (arith, ap length same, ap length rest, length-append t q, length-append u r))).0

-- one element begins the bytes, at most
pub same_element : (First : Type 0) (bytes : List ℕ) (k l : ElementKind) (t u q r : List ℕ) → ElementBegins First bytes k t q → ElementBegins First bytes l u r → SameElement k l t u q r
same_element First bytes Blank Blank t u q r left right =
    let same : left.0 ∷ q ≡ right.0 ∷ r = sym left.3 ∙ right.3 in
    record { kind = refl; text = left.2 ∙ ap (λ n. n ∷ []) (ap (λ l. get_or l 0 0) same) ∙ sym right.2; rest = ap (drop 1) same }
same_element First bytes Blank Comment t u q r left right = absurd (no_both (slash_no_blank bytes u r right) (blank_first bytes q left.0 left.1 left.3))
same_element First bytes Blank (DirectiveLine d) t u q r left right = absurd (no_both (hash_no_blank bytes d r right.2) (blank_first bytes q left.0 left.1 left.3))
same_element First bytes Blank (SingleToken kind) t u q r left right = absurd (no_both (token_unblank bytes kind u r right.0).no_blank (blank_first bytes q left.0 left.1 left.3))
same_element First bytes Comment Blank t u q r left right = absurd (no_both (slash_no_blank bytes t q left) (blank_first bytes r right.0 right.1 right.3))
same_element First bytes Comment Comment t u q r left right = let same = same_comment bytes t q u r left right in record { kind = refl; text = same.0; rest = same.1 }
same_element First bytes Comment (DirectiveLine d) t u q r left right = absurd (hash_no_slash bytes t q r d right.2 left)
same_element First bytes Comment (SingleToken kind) t u q r left right = absurd (no_token_at_comment bytes (comment_begins bytes t q left) kind u r right.0)
same_element First bytes (DirectiveLine d) Blank t u q r left right = absurd (no_both (hash_no_blank bytes d q left.2) (blank_first bytes r right.0 right.1 right.3))
same_element First bytes (DirectiveLine d) Comment t u q r left right = absurd (hash_no_slash bytes u r q d left.2 right)
same_element First bytes (DirectiveLine d) (DirectiveLine e) t u q r left right =
    let same = same_directive bytes d e q r left.2 right.2 in
    let rest : q ≡ r = same.rest in
    record { kind = ap (λ x. DirectiveLine x) same.directive; text = same_text t u q r (sym left.1 ∙ right.1) rest; rest = rest }
same_element First bytes (DirectiveLine d) (SingleToken kind) t u q r left right = absurd (right.1 left.0 (hash_token bytes d q kind u r left.2 right.0))
same_element First bytes (SingleToken kind) Blank t u q r left right = absurd (no_both (token_unblank bytes kind t q left.0).no_blank (blank_first bytes r right.0 right.1 right.3))
same_element First bytes (SingleToken kind) Comment t u q r left right = absurd (no_token_at_comment bytes (comment_begins bytes u r right) kind t q left.0)
same_element First bytes (SingleToken kind) (DirectiveLine e) t u q r left right = absurd (left.1 right.0 (hash_token bytes e r kind t q right.2 left.0))
same_element First bytes (SingleToken a) (SingleToken b) t u q r left right =
    let same = same_begins bytes a b t u q r left.0 right.0 in
    record { kind = ap (λ x. SingleToken x) same.kind; text = same.text; rest = same.rest }

pub record Same (es fs : List Element) (q r : List ℕ) : Type 0 where
  pub elements : es ≡ fs
  pub rest : q ≡ r

-- equally many elements of the bytes are the same
pub same_elements : (bytes : List ℕ) (es fs : List Element) (q r : List ℕ) → length es ≡ length fs → AreElements bytes es q → AreElements bytes fs r → Same es fs q r
same_elements bytes [] [] q r lengths left right = record { elements = refl; rest = sym left ∙ right }
same_elements bytes [] (f ∷ fs) q r lengths left right = absurd (omega arith)
same_elements bytes (e ∷ es) [] q r lengths left right = absurd (omega arith)
same_elements bytes (e ∷ es) (f ∷ fs) q r lengths left right =
    let earlier = same_elements bytes es fs left.0 right.0 (omega arith) left.1 right.1 in
    let before : es ≡ fs = earlier.elements in
    let at : left.0 ≡ right.0 = earlier.rest in
    let begins : ElementBegins (AreBeforeLine fs) right.0 e.kind e.text q =
    subst (λ l. ElementBegins (AreBeforeLine fs) l e.kind e.text q) at (subst (λ l. ElementBegins (AreBeforeLine l) left.0 e.kind e.text q) before left.2) in
    let same = same_element (AreBeforeLine fs) right.0 e.kind f.kind e.text f.text q r begins right.2 in
    let kind : e.kind ≡ f.kind = same.kind in
    let text : e.text ≡ f.text = same.text in
    record { elements = λ i. (record { kind = kind i; text = text i }) ∷ before i; rest = same.rest }

-- where no further element begins, no list of elements is longer
pub no_more : (bytes : List ℕ) (es fs : List Element) (q r : List ℕ) → AreElements bytes es q → NoElementBegins (AreBeforeLine es) q → AreElements bytes fs r → length es < length fs → ⊥
no_more bytes es [] q r left stops right longer = omega arith
no_more bytes es (f ∷ fs) q r left stops right longer =
    ⊎_elim
    (λ same_size.
    let same = same_elements bytes es fs q right.0 same_size left right.1 in
    stops f.kind f.text r (subst (λ l. ElementBegins (AreBeforeLine es) l f.kind f.text r) (sym same.rest) (subst (λ l. ElementBegins (AreBeforeLine l) right.0 f.kind f.text r) (sym same.elements) right.2)))
    (λ other. no_more bytes es fs q right.0 left stops right.1 (omega arith))
    (cases_eq (length es) (length fs))

cons_no_nil : (b : ℕ) (bs : List ℕ) → b ∷ bs ≡ [] → ⊥
cons_no_nil b bs e = cc

-- nothing begins no bytes
pub none_at_end : (First : Type 0) → NoElementBegins First []
none_at_end First Blank text rest begins = cons_no_nil begins.0 rest (sym begins.3)
none_at_end First Comment text rest begins = omega (arith, (looks_comment [] text rest begins).long)
none_at_end First (DirectiveLine d) text rest begins = let hash = hash_first [] d rest begins.2 in cons_no_nil 35 hash.0 (sym hash.1)
none_at_end First (SingleToken kind) text rest begins = omega (arith, (token_unblank [] kind text rest begins.0).some)

-- two lists of elements behind which none begins are the same
pub same_whole : (bytes : List ℕ) (es fs : List Element) (q r : List ℕ) → AreElements bytes es q → NoElementBegins (AreBeforeLine es) q → AreElements bytes fs r → NoElementBegins (AreBeforeLine fs) r → Same es fs q r
same_whole bytes es fs q r left stops_left right stops_right =
    ⊎_elim
    (λ less. absurd (no_more bytes es fs q r left stops_left right less))
    (λ at_least.
    ⊎_elim
    (λ more. absurd (no_more bytes fs es r q right stops_right left more))
    (λ at_most. same_elements bytes es fs q r (omega arith) left right)
    (cases_lt (length fs) (length es)))
    (cases_lt (length es) (length fs))

-- ---- what a file has

pub same_tokens : (bytes : List ℕ) (a b : TokenLists) → AreTokensOf bytes a → AreTokensOf bytes b → a ≡ b
same_tokens bytes a b left right =
    let same = same_whole bytes left.0 right.0 [] [] left.1 (none_at_end (AreBeforeLine left.0)) right.1 (none_at_end (AreBeforeLine right.0)) in
    left.2 ∙ ap (λ es. record { tokens = tokens_of es; includes = includes_of es (place_after bytes); end = place_after bytes }) same.elements ∙ sym right.2

opens_some : (kind : LexFaultKind) (bytes : List ℕ) → Opens kind bytes → 0 < length bytes
opens_some faults.BadByte bytes opens = opens.0
opens_some faults.OpenComment bytes opens = omega (arith, ap length opens.1)
opens_some faults.OpenString bytes opens = omega (arith, ap length opens.1)
opens_some faults.BadNumber bytes opens = omega (arith, ap length opens.2)
opens_some (faults.Directive name) bytes opens = omega (arith, ap length opens.1)

pub tokens_or_fault : (bytes : List ℕ) (lists : TokenLists) (fault : LexFault) → AreTokensOf bytes lists → IsFaultOf bytes fault → ⊥
tokens_or_fault bytes lists fault tokens faulty =
    let after = faulty.2 in
    let same = same_whole bytes tokens.0 faulty.0 [] faulty.1 tokens.1 (none_at_end (AreBeforeLine tokens.0)) after.are after.stops in
    omega (arith, opens_some fault.kind faulty.1 after.opens, ap length same.rest)

-- ---- kinds of faults

same_name : (bytes : List ℕ) (a b : Option (List ℕ)) → HasName bytes a → HasName bytes b → a ≡ b
same_name bytes None None left right = refl
same_name bytes None (Some name) left right = absurd (left right.0 name right.1 right.2 right.3)
same_name bytes (Some name) None left right = absurd (right left.0 name left.1 left.2 left.3)
same_name bytes (Some a) (Some b) left right = ap (λ n. Some n) (same_token_behind bytes left.0 right.0 a b left.1 right.1 left.2 right.2).text

first_is : (bytes : List ℕ) (a : ℕ) (rest : List ℕ) → bytes ≡ a ∷ rest → get_or bytes 0 0 ≡ a
first_is bytes a rest is = ap (λ l. get_or l 0 0) is

not_47 : (b : ℕ) → is_bad_byte b ≡ true → b ≡ 47 → ⊥
not_47 b bad is = grind (arith, nat_tests)

not_34 : (b : ℕ) → is_bad_byte b ≡ true → b ≡ 34 → ⊥
not_34 b bad is = grind (arith, nat_tests)

not_35 : (b : ℕ) → is_bad_byte b ≡ true → b ≡ 35 → ⊥
not_35 b bad is = grind (arith, nat_tests)

not_number : (b : ℕ) → is_bad_byte b ≡ true → (is_digit b || eqb b 39) ≡ true → ⊥
not_number b bad is = grind (arith, nat_tests)

number_not : (b n : ℕ) → (is_digit b || eqb b 39) ≡ true → b ≡ n → (is_digit n || eqb n 39) ≡ false → ⊥
number_not b n number is fails = no_both fails (ap (λ k. is_digit k || eqb k 39) (sym is) ∙ number)

pub same_fault_kind : (a b : LexFaultKind) (bytes : List ℕ) → Opens a bytes → Opens b bytes → a ≡ b
same_fault_kind faults.BadByte faults.BadByte bytes left right = refl
same_fault_kind faults.BadByte faults.OpenComment bytes left right = absurd (not_47 _ left.1 (first_is bytes 47 _ right.1))
same_fault_kind faults.BadByte faults.OpenString bytes left right = absurd (not_34 _ left.1 (first_is bytes 34 _ right.1))
same_fault_kind faults.BadByte faults.BadNumber bytes left right = absurd (not_number (get_or bytes 0 0) left.1 (ap (λ n. is_digit n || eqb n 39) (first_is bytes right.0 right.1 right.2) ∙ right.3))
same_fault_kind faults.BadByte (faults.Directive name) bytes left right = absurd (not_35 _ left.1 (first_is bytes 35 _ right.1))
same_fault_kind faults.OpenComment faults.BadByte bytes left right = absurd (not_47 _ right.1 (first_is bytes 47 _ left.1))
same_fault_kind faults.OpenComment faults.OpenComment bytes left right = refl
same_fault_kind faults.OpenComment faults.OpenString bytes left right = absurd (omega (arith, first_is bytes 47 _ left.1, first_is bytes 34 _ right.1))
same_fault_kind faults.OpenComment faults.BadNumber bytes left right = absurd (number_not right.0 47 right.3 (sym (first_is bytes right.0 right.1 right.2) ∙ first_is bytes 47 _ left.1) refl)
same_fault_kind faults.OpenComment (faults.Directive name) bytes left right = absurd (omega (arith, first_is bytes 47 _ left.1, first_is bytes 35 _ right.1))
same_fault_kind faults.OpenString faults.BadByte bytes left right = absurd (not_34 _ right.1 (first_is bytes 34 _ left.1))
same_fault_kind faults.OpenString faults.OpenComment bytes left right = absurd (omega (arith, first_is bytes 34 _ left.1, first_is bytes 47 _ right.1))
same_fault_kind faults.OpenString faults.OpenString bytes left right = refl
same_fault_kind faults.OpenString faults.BadNumber bytes left right = absurd (number_not right.0 34 right.3 (sym (first_is bytes right.0 right.1 right.2) ∙ first_is bytes 34 _ left.1) refl)
same_fault_kind faults.OpenString (faults.Directive name) bytes left right = absurd (omega (arith, first_is bytes 34 _ left.1, first_is bytes 35 _ right.1))
same_fault_kind faults.BadNumber faults.BadByte bytes left right = absurd (not_number (get_or bytes 0 0) right.1 (ap (λ n. is_digit n || eqb n 39) (first_is bytes left.0 left.1 left.2) ∙ left.3))
same_fault_kind faults.BadNumber faults.OpenComment bytes left right = absurd (number_not left.0 47 left.3 (sym (first_is bytes left.0 left.1 left.2) ∙ first_is bytes 47 _ right.1) refl)
same_fault_kind faults.BadNumber faults.OpenString bytes left right = absurd (number_not left.0 34 left.3 (sym (first_is bytes left.0 left.1 left.2) ∙ first_is bytes 34 _ right.1) refl)
same_fault_kind faults.BadNumber faults.BadNumber bytes left right = refl
same_fault_kind faults.BadNumber (faults.Directive name) bytes left right = absurd (number_not left.0 35 left.3 (sym (first_is bytes left.0 left.1 left.2) ∙ first_is bytes 35 _ right.1) refl)
same_fault_kind (faults.Directive name) faults.BadByte bytes left right = absurd (not_35 _ right.1 (first_is bytes 35 _ left.1))
same_fault_kind (faults.Directive name) faults.OpenComment bytes left right = absurd (omega (arith, first_is bytes 35 _ left.1, first_is bytes 47 _ right.1))
same_fault_kind (faults.Directive name) faults.OpenString bytes left right = absurd (omega (arith, first_is bytes 35 _ left.1, first_is bytes 34 _ right.1))
same_fault_kind (faults.Directive name) faults.BadNumber bytes left right = absurd (number_not right.0 35 right.3 (sym (first_is bytes right.0 right.1 right.2) ∙ first_is bytes 35 _ left.1) refl)
same_fault_kind (faults.Directive a) (faults.Directive b) bytes left right =
    let same : left.0 ≡ right.0 = ap (drop 1) (sym left.1 ∙ right.1) in
    ap (λ name. faults.Directive name) (same_name right.0 a b (subst (λ l. HasName l a) same left.2) right.2)

pub same_fault : (bytes : List ℕ) (a b : LexFault) → IsFaultOf bytes a → IsFaultOf bytes b → a ≡ b
same_fault bytes a b left right =
    let l = left.2 in
    let r = right.2 in
    let same = same_whole bytes left.0 right.0 left.1 right.1 l.are l.stops r.are r.stops in
    let place : a.place ≡ b.place = l.place ∙ ap (λ es. place_after (bytes_of es)) same.elements ∙ sym r.place in
    let kind : a.kind ≡ b.kind = same_fault_kind a.kind b.kind right.1 (subst (Opens a.kind) same.rest l.opens) r.opens in
    λ i. record { place = place i; kind = kind i }
