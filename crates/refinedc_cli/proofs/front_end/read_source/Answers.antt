use Rattle.std.proofs.Common.{◌∙◌, ◌≡◌, ◌<◌, ap, refl, subst, List, length, ℕ, Result, Err}
use Rattle.std.specs.Prelude.{IfSome}
use Rattle.std.proofs.lemmas.Result.{IfOk-weaker}
use Rattle.rc_text.specs.declared.reading.ReadRefusal.{ReadRefusal}
use Rattle.rc_text.specs.declared.reading.ReadRefusal.TheVariants.{CannotOpen, ReadFault, TooLong}
use Rattle.rc_text.specs.Faults.{faults_after}
use Rattle.rc_text.specs.ReadWhole.{last_call_of}
use Rattle.rc_text.specs.Shelf.{asked_for}
use Rattle.refinedc_cli.specs.declared.front_end.Source.TheVariants.{NoFile}
use Rattle.refinedc_cli.specs.declared.outcome.Outcome.TheVariants.{Unread}
use Rattle.refinedc_cli.specs.FrontEnd.{IsSource, IsSourceOf}
use Rattle.refinedc_cli.specs.Outside.{Files, files_seen}
use Rattle.refinedc_cli.proofs.FrontEndLemmas.{read_is_source, long_is_source, unread_is_source}
use Rattle.refinedc_cli.proofs.front_end.read_source.Goals as goal

pub returns-in-Ok-clause-source : goal.returns-in-Ok-clause-source
returns-in-Ok-clause-source g c =
    let before : Files = files_seen (g.H.Shelf.holds c.args.shelf.now) (g.H.Shelf.asked c.args.shelf.now) (g.H.Shelf.faults c.args.shelf.now) in
    let after : Files = files_seen (g.H.Shelf.holds c.read_whole.new.shelf) (g.H.Shelf.asked c.read_whole.new.shelf) (g.H.Shelf.faults c.read_whole.new.shelf) in
    let told : IfSome (before.holds c.args.file.now) (λ content. c.in-Ok.content ≡ content) =
    subst (λ (name : List ℕ). IfSome (before.holds name) (λ content. c.in-Ok.content ≡ content)) c.as_str.ensures c.in-Ok.ensures.content in
    IfOk-weaker c.source_of.result (IsSource c.in-Ok.content) (IsSourceOf c.args.file.now before after)
    (λ source is.
    read_is_source c.args.file.now before after c.in-Ok.content source told
    (c.in-Ok.ensures.asked ∙ ap (λ (name : List ℕ). asked_for before.asked name) c.as_str.ensures) c.in-Ok.ensures.faults is)
    c.source_of.ensures

pub returns-in-Err-TooLong-clause-source : goal.returns-in-Err-TooLong-clause-source
returns-in-Err-TooLong-clause-source g c =
    let before : Files = files_seen (g.H.Shelf.holds c.args.shelf.now) (g.H.Shelf.asked c.args.shelf.now) (g.H.Shelf.faults c.args.shelf.now) in
    let after : Files = files_seen (g.H.Shelf.holds c.read_whole.new.shelf) (g.H.Shelf.asked c.read_whole.new.shelf) (g.H.Shelf.faults c.read_whole.new.shelf) in
    let refused : c.read_whole.result ≡ Err TooLong = c.in-Err-TooLong.is ∙ ap (λ (e : ReadRefusal). Err e) c.in-Err-TooLong.field-0-is in
    let long : IfSome (before.holds c.args.file.now) (λ content. 1048576 < length content) =
    subst (λ (name : List ℕ). IfSome (before.holds name) (λ content. 1048576 < length content)) c.as_str.ensures
    (subst (λ (limit : ℕ). IfSome (before.holds c.as_str.result.now) (λ content. limit < length content)) c.number.ensures (c.read_whole.ensures.too_long refused)) in
    long_is_source c.args.file.now before after (before.holds c.args.file.now) refl long
    (c.read_whole.ensures.asked ∙ ap (λ (name : List ℕ). asked_for before.asked name) c.as_str.ensures)
    (c.read_whole.ensures.faults ∙ ap (λ (r : Result (List ℕ) ReadRefusal). faults_after (last_call_of r) before.faults) refused)

pub returns-in-Err-CannotOpen-clause-source : goal.returns-in-Err-CannotOpen-clause-source
returns-in-Err-CannotOpen-clause-source g c =
    let before : Files = files_seen (g.H.Shelf.holds c.args.shelf.now) (g.H.Shelf.asked c.args.shelf.now) (g.H.Shelf.faults c.args.shelf.now) in
    let after : Files = files_seen (g.H.Shelf.holds c.read_whole.new.shelf) (g.H.Shelf.asked c.read_whole.new.shelf) (g.H.Shelf.faults c.read_whole.new.shelf) in
    let refused : c.read_whole.result ≡ Err CannotOpen = c.in-Err-CannotOpen.is ∙ ap (λ (e : ReadRefusal). Err e) c.in-Err-CannotOpen.field-0-is in
    IfOk-weaker c.unread.result (λ source. source ≡ NoFile (Unread c.args.file.now)) (IsSourceOf c.args.file.now before after)
    (λ source same.
    unread_is_source c.args.file.now before after source same
    (c.read_whole.ensures.asked ∙ ap (λ (name : List ℕ). asked_for before.asked name) c.as_str.ensures)
    (c.read_whole.ensures.faults ∙ ap (λ (r : Result (List ℕ) ReadRefusal). faults_after (last_call_of r) before.faults) refused))
    c.unread.ensures

pub returns-in-Err-ReadFault-clause-source : goal.returns-in-Err-ReadFault-clause-source
returns-in-Err-ReadFault-clause-source g c =
    let before : Files = files_seen (g.H.Shelf.holds c.args.shelf.now) (g.H.Shelf.asked c.args.shelf.now) (g.H.Shelf.faults c.args.shelf.now) in
    let after : Files = files_seen (g.H.Shelf.holds c.read_whole.new.shelf) (g.H.Shelf.asked c.read_whole.new.shelf) (g.H.Shelf.faults c.read_whole.new.shelf) in
    let refused : c.read_whole.result ≡ Err ReadFault = c.in-Err-ReadFault.is ∙ ap (λ (e : ReadRefusal). Err e) c.in-Err-ReadFault.field-0-is in
    IfOk-weaker c.unread-in-Err-ReadFault.result (λ source. source ≡ NoFile (Unread c.args.file.now)) (IsSourceOf c.args.file.now before after)
    (λ source same.
    unread_is_source c.args.file.now before after source same
    (c.read_whole.ensures.asked ∙ ap (λ (name : List ℕ). asked_for before.asked name) c.as_str.ensures)
    (c.read_whole.ensures.faults ∙ ap (λ (r : Result (List ℕ) ReadRefusal). faults_after (last_call_of r) before.faults) refused))
    c.unread-in-Err-ReadFault.ensures
