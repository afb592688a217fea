-- `survey` is soundness and load: each test that fails makes the state unsound, and all of them make it sound.
use mathlib.Core.Path.{sym, ◌∙◌}
use Rattle.rules.specs.State.{state_from}
use Rattle.soundness.proofs.Clauses.{rest_right, survey_none, survey_by}
use Rattle.soundness.proofs.survey.Goals as goal
use Rattle.soundness.proofs.survey.Goals.{else-ladder_right-via-then-ladder_right+then-tally_right+then-great_right+else-carries, else-ladder_right-via-then-ladder_right+then-tally_right+else-great_right, else-ladder_right-via-then-ladder_right+else-tally_right, else-ladder_right-via-else-ladder_right}

pub returns-in_err-sums : goal.returns-in_err-sums
returns-in_err-sums c = c.from_residual.ensures ∙ sym (survey_none (state_from c.args.done c.args.tasks.now c.args.jobs.now c.args.ladder.now c.args.tally.now) c.in_err-sums.ensures)

pub returns-then-carries : goal.returns-then-carries
unfolding rest_right
returns-then-carries c =
    sym (survey_by (state_from c.args.done c.args.tasks.now c.args.jobs.now c.args.ladder.now c.args.tally.now) _ _ c.in_ok-sums.ensures c.top_of-top.ensures
    ∙ rw (sym c.if-ladder_right.ensures, sym c.if-tally_right.ensures, sym c.if-great_right.ensures, sym c.if-carries.ensures))

pub returns-else-ladder_right : goal.returns-else-ladder_right
unfolding rest_right
returns-else-ladder_right c =
    sym (survey_by (state_from c.args.done c.args.tasks.now c.args.jobs.now c.args.ladder.now c.args.tally.now) _ _ c.in_ok-sums.ensures c.top_of-top.ensures
    ∙ elim c.else-ladder_right.branch [
      | else-ladder_right-via-then-ladder_right+then-tally_right+then-great_right+else-carries w ↦ rw (sym w.if-ladder_right.ensures, sym w.if-tally_right.ensures, sym w.if-great_right.ensures, sym w.if-carries.ensures)
      | else-ladder_right-via-then-ladder_right+then-tally_right+else-great_right w ↦ rw (sym w.if-ladder_right.ensures, sym w.if-tally_right.ensures, sym w.if-great_right.ensures)
      | else-ladder_right-via-then-ladder_right+else-tally_right w ↦ rw (sym w.if-ladder_right.ensures, sym w.if-tally_right.ensures)
      | else-ladder_right-via-else-ladder_right w ↦ rw (sym w.if-ladder_right.ensures)
    ])
