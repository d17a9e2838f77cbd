-- What a file is read as, from how it was read.
use Rattle.std.proofs.Common.{◌≡◌, ℕ, zero, suc, ◌<◌, List, [], ◌∷◌, length, Option, Some, None, refl, sym, subst, arith}
use Rattle.std.specs.Prelude.{IfSome}
use Rattle.rc_text.specs.Faults.{one_more}
use Rattle.refinedc_cli.specs.declared.front_end.Source.{Source}
use Rattle.refinedc_cli.specs.declared.front_end.Source.TheVariants.{NoFile}
use Rattle.refinedc_cli.specs.declared.limit.Limit.TheVariants.{FileBytes}
use Rattle.refinedc_cli.specs.declared.outcome.Outcome.TheVariants.{Unread, Passed}
use Rattle.refinedc_cli.specs.FrontEnd.{IsSource, IsSourceOf, found, unread}
use Rattle.refinedc_cli.specs.Limit.{limit_number}
use Rattle.refinedc_cli.specs.Outside.{Files, WasAskedFor}

-- there are long contents
longer_than : (n : ℕ) → (content : List ℕ) × (n < length content)
longer_than zero = (0 ∷ [], omega arith)
longer_than (suc n) = let shorter = longer_than n in (0 ∷ shorter.0, omega (arith, shorter.1))

told_equal : (told : Option (List ℕ)) (bytes : List ℕ) → IfSome told (λ content. bytes ≡ content) → IfSome told (λ content. content ≡ bytes)
told_equal None bytes is = tt
told_equal (Some content) bytes is = sym is

module _ (file : List ℕ) (before after : Files) where
  -- a file that was read
  pub read_is_source : (bytes : List ℕ) (source : Source) → IfSome (before.holds file) (λ content. bytes ≡ content) → WasAskedFor before.asked after.asked (file ∷ [])
      → after.faults ≡ before.faults → IsSource bytes source → IsSourceOf file before after source
  read_is_source bytes source told asked quiet is = found bytes (told_equal (before.holds file) bytes told, tt) is asked quiet

  -- a file that is too long: some content, where none is told
  pub long_is_source : (told : Option (List ℕ)) → told ≡ before.holds file → IfSome told (λ content. limit_number FileBytes < length content)
      → WasAskedFor before.asked after.asked (file ∷ []) → after.faults ≡ before.faults → IsSourceOf file before after (NoFile (Passed FileBytes))
  long_is_source (Some content) is long asked quiet =
      found content (subst (λ (t : Option (List ℕ)). IfSome t (λ c. c ≡ content)) is refl, tt) long asked quiet
  long_is_source None is long asked quiet =
      let some = longer_than (limit_number FileBytes) in
      found some.0 (subst (λ (t : Option (List ℕ)). IfSome t (λ c. c ≡ some.0)) is tt, tt) some.1 asked quiet

  -- a file that can't be read
  pub unread_is_source : (source : Source) → source ≡ NoFile (Unread file) → WasAskedFor before.asked after.asked (file ∷ []) → after.faults ≡ one_more before.faults
      → IsSourceOf file before after source
  unread_is_source source same asked rose =
      subst (λ (s : Source). IsSourceOf file before after s) (sym same) (unread asked rose)
