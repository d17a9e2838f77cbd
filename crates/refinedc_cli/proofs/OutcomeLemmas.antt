-- A content comes to one outcome at most, but for how it is said that it has no tree.
use Rattle.std.proofs.Common.{◌≡◌, ℕ, ◌<◌, inl, inr, List, length, refl, sym, ap, ◌∙◌, subst, arith}
use Rattle.rc_text.specs.declared.place.Place.{Place}
use Rattle.c_lexer.specs.declared.fault.LexFault.{LexFault}
use Rattle.c_lexer.specs.declared.fault.LexFaultKind.{LexFaultKind}
use Rattle.c_lexer.specs.declared.token.Token.{Token}
use Rattle.c_lexer.specs.Files.{AreTokensOf, IsFaultOf}
use Rattle.c_lexer.specs.TokenLists.{TokenLists}
use Rattle.c_syntax.specs.declared.unit.Unit as unit
use Rattle.refinedc_cli.specs.declared.limit.Limit.TheVariants.{FileBytes, Tokens, Depth}
use Rattle.refinedc_cli.specs.declared.one_literal.OneLiteral.{OneLiteral}
use Rattle.refinedc_cli.specs.declared.outcome.FileFault.TheVariants.{Lexical, Syntax, LeftOutForm, NotYet}
use Rattle.refinedc_cli.specs.declared.outcome.OpenGoal.TheVariants.{Unsolved}
use Rattle.refinedc_cli.specs.declared.outcome.Outcome.{Outcome}
use Rattle.refinedc_cli.specs.declared.outcome.Outcome.TheVariants.{Accepted, Refused, Faulty, Unread, Passed}
use Rattle.refinedc_cli.specs.Limit.{limit_number}
use Rattle.refinedc_cli.specs.OneLiteral.{IsOneLiteral, IsNoForm}
use Rattle.refinedc_cli.specs.FrontEnd.{IsWithin, HasTokens, IsTreeOf, HaveNoTree}
use Rattle.refinedc_cli.specs.Outcome.{IsJudgement, IsVerdict, HasVerdict, IsCheckOutcome, IsTreeless, AreAlike}
use Rattle.refinedc_cli.proofs.FormLemmas.{form_unique}
use Rattle.refinedc_cli.proofs.FormTree.{form_tree}

-- the law of readings, as `readings_are_determined` ensures it
pub record ReadingsAreDetermined : Type 0 where
  pub tokens : (bytes : List ℕ) (one other : TokenLists) → AreTokensOf bytes one → AreTokensOf bytes other → one ≡ other
  pub fault : (bytes : List ℕ) (one other : LexFault) → IsFaultOf bytes one → IsFaultOf bytes other → one ≡ other
  pub apart : (bytes : List ℕ) (tokens : TokenLists) (fault : LexFault) → AreTokensOf bytes tokens → IsFaultOf bytes fault → ⊥

same_judgement : (form : OneLiteral) (one other : Outcome) → IsJudgement form one → IsJudgement form other → one ≡ other
same_judgement form (Accepted lines) (Accepted others) is also = ap (λ l. Accepted l) (is.1 ∙ sym also.1)
same_judgement form (Accepted lines) (Refused place (Unsolved left right)) is also = absurd (also.0 is.0)
same_judgement form (Refused place (Unsolved left right)) (Accepted lines) is also = absurd (is.0 also.0)
same_judgement form (Refused place (Unsolved left right)) (Refused there (Unsolved first second)) is also = cc (is.1, is.2, is.3, also.1, also.2, also.3)
same_judgement form (Faulty place fault) other is also = absurd is
same_judgement form (Unread name) other is also = absurd is
same_judgement form (Passed limit) other is also = absurd is
same_judgement form one (Faulty place fault) is also = absurd also
same_judgement form one (Unread name) is also = absurd also
same_judgement form one (Passed limit) is also = absurd also

-- the form of a verdict
pub data Verdict (tokens : List Token) : Outcome → Type 0 where
  judged : (form : OneLiteral) {outcome : Outcome} → IsOneLiteral tokens form → IsJudgement form outcome → Verdict tokens outcome
  other : {place : Place} → IsNoForm tokens → place ≡ record { byte = 0; line = 1; column = 1 } → Verdict tokens (Faulty place NotYet)

verdict_of : (tokens : List Token) (outcome : Outcome) → IsVerdict tokens outcome → Verdict tokens outcome
verdict_of tokens (Accepted lines) is = judged is.0 is.1 is.2
verdict_of tokens (Refused place goal) is = judged is.0 is.1 is.2
verdict_of tokens (Faulty place NotYet) is = other is.0 is.1
verdict_of tokens (Faulty place (Lexical kind)) is = absurd is
verdict_of tokens (Faulty place Syntax) is = absurd is
verdict_of tokens (Faulty place (LeftOutForm form)) is = absurd is
verdict_of tokens (Unread name) is = absurd is
verdict_of tokens (Passed limit) is = absurd is

same_of_verdicts : (tokens : List Token) (one two : Outcome) → Verdict tokens one → Verdict tokens two → one ≡ two
same_of_verdicts tokens one two (judged form is judgement) (judged form' is' judgement') =
    same_judgement form one two judgement (subst (λ f. IsJudgement f two) (form_unique tokens form' form is' is) judgement')
same_of_verdicts tokens one two (judged form is judgement) (other none place) = absurd (none form is)
same_of_verdicts tokens one two (other none place) (judged form is judgement) = absurd (none form is)
same_of_verdicts tokens one two (other none place) (other none' place') = ap (λ p. Faulty p NotYet) (place ∙ sym place')

-- how a content comes to its outcome
pub data Found (content : List ℕ) : Outcome → Type 0 where
  long : limit_number FileBytes < length content → Found content (Passed FileBytes)
  faulty : {place : Place} {kind : LexFaultKind} → IsWithin content → IsFaultOf content (record { place = place; kind = kind })
      → Found content (Faulty place (Lexical kind))
  many : IsWithin content → (lists : TokenLists) → AreTokensOf content lists → limit_number Tokens < length lists.tokens
      → Found content (Passed Tokens)
  treeless : {outcome : Outcome} → IsTreeless outcome → (lists : TokenLists) → HasTokens content lists → HaveNoTree lists → Found content outcome
  verdict : {outcome : Outcome} → (has : HasVerdict content outcome) → (tree : unit.Unit) × IsTreeOf has.0 tree → Found content outcome

found_of : (content : List ℕ) (outcome : Outcome) → IsCheckOutcome content outcome → Found content outcome
found_of content (Passed FileBytes) is = long is
found_of content (Passed Tokens) is = many is.0 is.1 is.2 is.3
found_of content (Faulty place (Lexical kind)) is = faulty is.0 is.1
found_of content (Passed Depth) is = treeless tt is.0 is.1 is.2.0
found_of content (Faulty place Syntax) is = treeless tt is.0 is.1 is.2
found_of content (Faulty place (LeftOutForm form)) is = treeless tt is.0 is.1 is.2
found_of content (Faulty place NotYet) is = verdict is.0 (is.1, is.2)
found_of content (Accepted lines) is = verdict is (form_tree is.0 is.2.0 is.2.1)
found_of content (Refused place goal) is = verdict is (form_tree is.0 is.2.0 is.2.1)
found_of content (Unread name) is = absurd is

too_short : (content : List ℕ) → limit_number FileBytes < length content → IsWithin content → ⊥
too_short content more within = omega arith

module _ (law : ReadingsAreDetermined) where
  same_tokens_verdict : (content : List ℕ) (one two : Outcome) → HasVerdict content one → HasVerdict content two → one ≡ two
  same_tokens_verdict content one two has also =
      let same : also.0 ≡ has.0 = law.tokens content also.0 has.0 also.1.are has.1.are in
      let verdict : IsVerdict has.0.tokens two = subst (λ (l : TokenLists). IsVerdict l.tokens two) same also.2 in
      same_of_verdicts has.0.tokens one two (verdict_of has.0.tokens one has.2) (verdict_of has.0.tokens two verdict)

  tree_after_all : (content : List ℕ) (lists others : TokenLists) → HasTokens content lists → (tree : unit.Unit) × IsTreeOf lists tree → HasTokens content others
      → HaveNoTree others → ⊥
  tree_after_all content lists others has treed also none =
      none treed.0 (subst (λ (l : TokenLists). IsTreeOf l treed.0) (law.tokens content lists others has.are also.are) treed.1)

  too_few : (content : List ℕ) (lists others : TokenLists) → HasTokens content lists → AreTokensOf content others → limit_number Tokens < length others.tokens → ⊥
  too_few content lists others has are beyond =
      let same : length others.tokens ≡ length lists.tokens = ap (λ (l : TokenLists). length l.tokens) (law.tokens content others lists are has.are) in
      omega (arith, has.few)

  same_fault : (content : List ℕ) (place there : Place) (kind against : LexFaultKind) → IsFaultOf content (record { place = place; kind = kind })
      → IsFaultOf content (record { place = there; kind = against }) → Faulty place (Lexical kind) ≡ Faulty there (Lexical against)
  same_fault content place there kind against is also =
      let same = law.fault content (record { place = place; kind = kind }) (record { place = there; kind = against }) is also in
      λ i. Faulty (same i).place (Lexical (same i).kind)

  same_found : (content : List ℕ) (one two : Outcome) → Found content one → Found content two → AreAlike one two
  same_found content one two (long more) (long more') = inl refl
  same_found content one two (long more) (faulty within' is') = absurd (too_short content more within')
  same_found content one two (long more) (many within' lists' are' beyond') = absurd (too_short content more within')
  same_found content one two (long more) (treeless said' lists' has' none') = absurd (too_short content more has'.short)
  same_found content one two (long more) (verdict has' treed') = absurd (too_short content more has'.1.short)
  same_found content one two (faulty within is) (long more') = absurd (too_short content more' within)
  same_found content one two (faulty {place = place} {kind = kind} within is) (faulty {place = there} {kind = against} within' is') = inl (same_fault content place there kind against is is')
  same_found content one two (faulty within is) (many within' lists' are' beyond') = absurd (law.apart content lists' _ are' is)
  same_found content one two (faulty within is) (treeless said' lists' has' none') = absurd (law.apart content lists' _ has'.are is)
  same_found content one two (faulty within is) (verdict has' treed') = absurd (law.apart content has'.0 _ has'.1.are is)
  same_found content one two (many within lists are beyond) (long more') = absurd (too_short content more' within)
  same_found content one two (many within lists are beyond) (faulty within' is') = absurd (law.apart content lists _ are is')
  same_found content one two (many within lists are beyond) (many within' lists' are' beyond') = inl refl
  same_found content one two (many within lists are beyond) (treeless said' lists' has' none') = absurd (too_few content lists' lists has' are beyond)
  same_found content one two (many within lists are beyond) (verdict has' treed') = absurd (too_few content has'.0 lists has'.1 are beyond)
  same_found content one two (treeless said lists has none) (long more') = absurd (too_short content more' has.short)
  same_found content one two (treeless said lists has none) (faulty within' is') = absurd (law.apart content lists _ has.are is')
  same_found content one two (treeless said lists has none) (many within' lists' are' beyond') = absurd (too_few content lists lists' has are' beyond')
  same_found content one two (treeless said lists has none) (treeless said' lists' has' none') = inr (said, said')
  same_found content one two (treeless said lists has none) (verdict has' treed') = absurd (tree_after_all content has'.0 lists has'.1 treed' has none)
  same_found content one two (verdict has treed) (long more') = absurd (too_short content more' has.1.short)
  same_found content one two (verdict has treed) (faulty within' is') = absurd (law.apart content has.0 _ has.1.are is')
  same_found content one two (verdict has treed) (many within' lists' are' beyond') = absurd (too_few content has.0 lists' has.1 are' beyond')
  same_found content one two (verdict has treed) (treeless said' lists' has' none') = absurd (tree_after_all content has.0 lists' has.1 treed has' none')
  same_found content one two (verdict has treed) (verdict has' treed') = inl (same_tokens_verdict content one two has has')

  -- a content comes to one outcome at most, but for how it is said that it has no tree
  pub same_check_outcome : (content : List ℕ) (one two : Outcome) → IsCheckOutcome content one → IsCheckOutcome content two → AreAlike one two
  same_check_outcome content one two is also = same_found content one two (found_of content one is) (found_of content two also)
