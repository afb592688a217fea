-- `step` is the rows 9 to 12; from row 13 on it is `step_at`.
use mathlib.Core.Path.{sym, ◌∙◌}
use lib.ListN.{length}
use Rattle.std.proofs.lemmas.Result.{err_from_is_err_and}
use Rattle.rules.proofs.Soundness.{sound_facts}
use Rattle.stepping.proofs.RowLaws.{row_is, no_row, row_12, row_found}
use Rattle.rules.specs.State.{state_from}
use Rattle.stepping.proofs.TickLaws.{refused_is, place_found, found_some}
use Rattle.stepping.proofs.step.Goals as goal

pub returns-in_err-load : goal.returns-in_err-load
returns-in_err-load c =
    let s = (state_from c.args.done c.args.tasks.now c.args.jobs.now c.args.ladder.now c.args.tally.now) in
    let report = c.args.report.now in
    let grants = c.args.grants.now in
    let p = err_from_is_err_and c.from_residual.result c.from_residual.ensures.1 in
    rw (p.1, p.2) (refused_is s report grants _ (row_is s report (length grants) _ (sym c.in_err-load.ensures)))

pub returns-in_err-place : goal.returns-in_err-place
returns-in_err-place c =
    let s = (state_from c.args.done c.args.tasks.now c.args.jobs.now c.args.ladder.now c.args.tally.now) in
    let passed = no_row s c.args.report.now (length c.args.grants.now) _ (sym c.in_ok-load.ensures) in
    let none = (row_12 _ _ (sym c.in_err-place.ensures)).0 in
    absurd (found_some s (sound_facts s passed.0) _ passed.4 (sym c.lowest_place-found.ensures ∙ none))

pub step_at-requires : goal.step_at-requires
step_at-requires c =
    let s = (state_from c.args.done c.args.tasks.now c.args.jobs.now c.args.ladder.now c.args.tally.now) in
    let passed = no_row s c.args.report.now (length c.args.grants.now) _ (sym c.in_ok-load.ensures) in
    record {
      whole = passed.0;
      goes_on = passed.1;
      reported = passed.2;
      granted = passed.3;
      lowest = place_found s (sound_facts s passed.0) _ _ passed.4 (sym c.lowest_place-found.ensures ∙ row_found _ _ (sym c.in_ok-place.ensures));
    }
