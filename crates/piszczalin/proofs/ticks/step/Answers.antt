-- Bytes that are no marks are refused with 9; else the answer is that of the state, and what it changes put into bytes again.
use mathlib.Core.Path.{sym, ◌∙◌}
use lib.ListN.{length}
use Rattle.piszczalin.specs.Plain.{marks_good}
use Rattle.piszczalin.proofs.PlainLaws.{tick_bad, grants_bad}
use Rattle.piszczalin.proofs.StepLaws.{kept_from, next_from, grants_from}
use Rattle.piszczalin.proofs.ticks.step.Goals as goal

pub returns-then-not-good : goal.returns-then-not-good
unfolding marks_good
returns-then-not-good c =
    let s = c.args.state.now in
    let bad = sym c.good.ensures ∙ c.if-not-good.true in
    (tick_bad s bad _ _, grants_bad s bad _ _)

pub returns-in-Ok : goal.returns-in-Ok
unfolding marks_good
returns-in-Ok c =
    let s = c.args.state.now in
    let report = c.args.report.now in
    let grants = c.args.grants.now in
    let good = sym c.good.ensures ∙ c.if-not-good.false in
    rw c.change.ensures
    (next_from s good report (length grants) _ c.jobs_of-jobs.ensures _ _ c.in-Ok.is c.step.ensures.0, grants_from s good report grants _ _ c.jobs_of-jobs.ensures c.step.ensures.1)

pub returns-in-Err : goal.returns-in-Err
unfolding marks_good
returns-in-Err c =
    let s = c.args.state.now in
    let report = c.args.report.now in
    let grants = c.args.grants.now in
    let good = sym c.good.ensures ∙ c.if-not-good.false in
    (kept_from s good report (length grants) _ c.jobs_of-jobs.ensures _ _ c.in-Err.is c.step.ensures.0, grants_from s good report grants _ _ c.jobs_of-jobs.ensures c.step.ensures.1)
