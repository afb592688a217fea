-- `start` refuses as `judge` does, and else lays the table out at tick 0.
use mathlib.Core.Path.{ap, ap₂, ◌∙◌}
use Rattle.std.proofs.lemmas.Result.{err_from_is_err_and}
use Rattle.std.specs.Prelude.{Ok}
use Rattle.rules.specs.declared.State.{State}
use Rattle.rules.specs.Calls.{tasks_from, fresh_state, started_by}
use Rattle.rules.proofs.Answered.{start-err, start-ok}
use Rattle.admission.proofs.Verdicts.{refusal_number, no_number, great_found}
use Rattle.starting.proofs.start.Goals as goal

pub returns-in_err-great : goal.returns-in_err-great
returns-in_err-great c =
    let left = err_from_is_err_and c.from_residual.result c.from_residual.ensures.1 in
    rw (left.1, left.2) (start-err _ _ _ _ _ (refusal_number _ _ _ _ _ c.in_err-great.ensures))

pub returns : goal.returns
returns c =
    let a = c.args in
    let passed = c.in_ok-great.ensures in
    let tasks = c.tasks_from-tasks.ensures ∙ ap (λ h. tasks_from h a.periods.now a.reserves.now) (great_found _ _ _ _ _ passed) in
    ap (λ (s : State). started_by (Ok s)) (c.fresh.ensures ∙ ap₂ fresh_state tasks c.ladder_from.ensures)
    ∙ start-ok _ _ _ _ (no_number _ _ _ _ _ passed)
