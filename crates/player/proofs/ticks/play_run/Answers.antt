-- `play_run` goes from tick to tick: what is still to come of the run is what the whole of it comes to, and the cursor stands at the end lines of the tick.
use mathlib.Core.Path.{refl}
use native.Mathlib.Omega.{arith}
use Rattle.std.specs.Prelude.{Ok, Err}
use Rattle.rules.specs.Calls.{ticked_by}
use Rattle.rules.proofs.Answered.{number-not_0}
use Rattle.player.specs.Plays.{ends_of}
use Rattle.player.specs.Rows.{ending_by}
use Rattle.player.specs.Parts.{ticks_in, tasks_in, cycles_in}
use Rattle.player.proofs.Lines.{Lines, lines, ticks_long, report_is}
use Rattle.player.proofs.Runs.{going_ends, turn_refused, turn_accepted}
use Rattle.player.proofs.ticks.play_run.Goals as goal
use Rattle.player.proofs.ticks.play_run.Goals.{In-loop-t}

lines_of : (c : In-loop-t) → Lines (ends_of c.args.ends.now) c.args.state.tasks.count (ticks_in c.args.ends.now) (tasks_in c.args.ends.now) (cycles_in c.args.ends.now)
lines_of c = lines c.args.ends.now c.args.state.tasks.count c.requires.ends

pub enter-next-requires-clause-within : goal.enter-next-requires-clause-within
enter-next-requires-clause-within c =
    omega (arith, c.loop-t.invariant.cursor.within, ticks_long c.args.ends.now)

pub returns-in-Err : goal.returns-in-Err
unfolding ticked_by ending_by
returns-in-Err c =
    let i = (goal.at.returns-in-Err c).In-loop-t in
    let is = report_is c.args.state.tasks.count c.requires.few _ _ _ _ (lines_of i) _ _ c.loop-t.invariant.cursor _ c.enter-next.ensures.report_after in
    let done = turn_refused _ _ _ _ _ _ _ _ _ c.loop-t.invariant c.loop-t-test.true _ is (ticked_by c.loop-t.state (Err c.in-Err.refusal)) c.in-Err.ensures.value _ c.in-Err.ensures.row_after (number-not_0 c.in-Err.refusal) in
    record { value = done.0; rows_after = done.1 }

pub loop-t-preserved : goal.loop-t-preserved
unfolding ticked_by
loop-t-preserved c =
    let i = (goal.at.loop-t-preserved c).In-loop-t in
    let is = report_is c.args.state.tasks.count c.requires.few _ _ _ _ (lines_of i) _ _ c.loop-t.invariant.cursor _ c.enter-next.ensures.report_after in
    turn_accepted _ _ _ _ _ _ _ _ _ c.loop-t.invariant c.loop-t-test.true _ is (ticked_by c.loop-t.state (Ok c.in-Ok.after)) c.in-Ok.ensures.value _ c.in-Ok.ensures.row_after refl c.requires.room _ _ (lines_of i) _ c.enter-next.ensures.value

pub returns : goal.returns
unfolding ending_by
returns c =
    let done = going_ends _ _ _ _ _ _ _ _ _ c.loop-t.invariant c.loop-t-test.false in
    record { value = done.0; rows_after = done.1 }
