use Rattle.std.proofs.Common.{◌+◌, ◌-◌, length, fold, take, drop, sym, ap, ◌∙◌}
use Rattle.std.proofs.lemmas.Result.{err_from_is_err_and, IfOk-weaker, IfErr-weaker}
use Rattle.linear_solve.proofs.TakenLemmas.{MatchOption-weaker}
use Rattle.linear_solve.specs.Levels.{taken, kept, cleared_by}
use Rattle.linear_solve.proofs.TakenLemmas.{with_equation, without_equation, fold-failing, fold-passed, OnLimit-weaker}
use Rattle.linear_solve.proofs.level.Level.take_formed.Goals as goal

pub returns-in_default-clause-ok : goal.returns-in_default-clause-ok
returns-in_default-clause-ok c =
    let pairs_alone = without_equation c.args.unknown c.args.rows.now (sym c.first_equation.ensures ∙ c.in_default.is) in
    let whole = ap (fold taken (kept c.args.self.now.rows c.args.self.now.count)) pairs_alone in
    IfOk-weaker c.take_pairs.result _ _
    (λ row taken_row. MatchOption-weaker row (λ e. whole ∙ e) (λ f e. whole ∙ e) taken_row)
    c.take_pairs.ensures.ok

pub returns-in_default-clause-limit : goal.returns-in_default-clause-limit
returns-in_default-clause-limit c =
    let pairs_alone = without_equation c.args.unknown c.args.rows.now (sym c.first_equation.ensures ∙ c.in_default.is) in
    IfErr-weaker c.take_pairs.result _ _
    (λ refusal limit. OnLimit-weaker refusal _ _
    (λ l passes. ap (fold taken (kept c.args.self.now.rows c.args.self.now.count)) pairs_alone ∙ passes) limit)
    c.take_pairs.ensures.limit

pub returns-in_err-failing-clause-limit : goal.returns-in_err-failing-clause-limit
returns-in_err-failing-clause-limit c =
    let p = err_from_is_err_and c.from_residual.result c.from_residual.ensures.1 in
    let state = kept c.args.self.now.rows c.args.self.now.count in
    let rows = c.args.rows.now in
    let split = with_equation c.args.unknown rows state c.in-Some.at c.index-rows-at.result
    (sym c.first_equation.ensures ∙ c.in-Some.is) c.index-rows-at.is in
    let others = cleared_by c.args.unknown c.index-rows-at.result (take (length rows - (c.in-Some.at + 1)) (drop (c.in-Some.at + 1) rows)) in
    rw (p.1, p.2) (OnLimit-weaker c.in_err-failing.field-0.0 _ _
    (λ l passes. split ∙ ap (λ s. fold taken s others) passes ∙ fold-passed l others)
    c.in_err-failing.ensures.limit)

pub returns-in-Some-2-clause-ok : goal.returns-in-Some-2-clause-ok
returns-in-Some-2-clause-ok c =
    let state = kept c.args.self.now.rows c.args.self.now.count in
    let rows = c.args.rows.now in
    let split = with_equation c.args.unknown rows state c.in-Some.at c.index-rows-at.result
    (sym c.first_equation.ensures ∙ c.in-Some.is) c.index-rows-at.is in
    let others = cleared_by c.args.unknown c.index-rows-at.result (take (length rows - (c.in-Some.at + 1)) (drop (c.in-Some.at + 1) rows)) in
    split ∙ ap (λ s. fold taken s others) (rw c.in-Some-2.is at c.in_ok-failing.ensures.ok)
    ∙ fold-failing c.in-Some-2.failing others

pub returns-clause-ok : goal.returns-clause-ok
returns-clause-ok c =
    let state = kept c.args.self.now.rows c.args.self.now.count in
    let rows = c.args.rows.now in
    let split = with_equation c.args.unknown rows state c.in-Some.at c.index-rows-at.result
    (sym c.first_equation.ensures ∙ c.in-Some.is) c.index-rows-at.is in
    let others = cleared_by c.args.unknown c.index-rows-at.result (take (length rows - (c.in-Some.at + 1)) (drop (c.in-Some.at + 1) rows)) in
    let whole = split ∙ ap (λ s. fold taken s others) (rw c.in_default-2.is at c.in_ok-failing.ensures.ok) in
    IfOk-weaker c.take_cleared-2.result _ _
    (λ row taken_row. MatchOption-weaker row (λ e. whole ∙ e) (λ f e. whole ∙ e) taken_row)
    c.take_cleared-2.ensures.ok

pub returns-clause-limit : goal.returns-clause-limit
returns-clause-limit c =
    let state = kept c.args.self.now.rows c.args.self.now.count in
    let rows = c.args.rows.now in
    let split = with_equation c.args.unknown rows state c.in-Some.at c.index-rows-at.result
    (sym c.first_equation.ensures ∙ c.in-Some.is) c.index-rows-at.is in
    let others = cleared_by c.args.unknown c.index-rows-at.result (take (length rows - (c.in-Some.at + 1)) (drop (c.in-Some.at + 1) rows)) in
    let whole = split ∙ ap (λ s. fold taken s others) (rw c.in_default-2.is at c.in_ok-failing.ensures.ok) in
    IfErr-weaker c.take_cleared-2.result _ _
    (λ refusal limit. OnLimit-weaker refusal _ _ (λ l passes. whole ∙ passes) limit)
    c.take_cleared-2.ensures.limit
