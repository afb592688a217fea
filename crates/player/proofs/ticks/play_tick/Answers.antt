-- `play_tick` writes the row of an accepted tick and leaves that of a refused one: its middle is lent to the governor's tick, and the grants and the idle cycles come to the speed.
use mathlib.Core.Path.{refl}
use native.Mathlib.Omega.{arith}
use Rattle.std.specs.Prelude.{Ok, Err}
use Rattle.rules.specs.Calls.{ticked_by}
use Rattle.rules.proofs.Answered.{number-not_0}
use Rattle.rules.specs.State.{Shaped}
use Rattle.player.proofs.TickRows.{row_kept, idle_grows, sum_fits, speed_fits, row_is}
use Rattle.player.proofs.ticks.play_tick.Goals as goal
use Rattle.player.proofs.ticks.play_tick.Goals.{After-tick}

-- the arrays of the state have their places
shape : (c : After-tick) → Shaped c.args.state
shape c =
    record {
      periods = omega arith;
      reserves = omega arith;
      runs = omega arith;
      marks = omega arith;
      speeds = omega arith;
      volts = omega arith;
      counts = omega arith;
    }

pub returns-in_err-after-clause-row_after : goal.returns-in_err-after-clause-row_after
unfolding ticked_by
returns-in_err-after-clause-row_after c =
    let told = c.in_err-after.ensures in
    row_kept c.args.state c.args.report.now c.args.row.now c.requires (ticked_by c.args.state (Err c.in_err-after.field-0.0)) _ told.0 told.1 (number-not_0 c.in_err-after.field-0.0)

pub overflow_sub-idle : goal.overflow_sub-idle
unfolding ticked_by
overflow_sub-idle c =
    let f = shape (goal.at.overflow_sub-idle c).After-tick in
    idle_grows c.args.state c.args.report.now c.args.row.now c.requires (ticked_by c.args.state (Ok c.in_ok-after.after)) _ c.in_ok-after.ensures.0 c.in_ok-after.ensures.1 f refl

pub sum-granted-requires : goal.sum-granted-requires
unfolding ticked_by
sum-granted-requires c =
    let f = shape (goal.at.sum-granted-requires c).After-tick in
    let grows = idle_grows c.args.state c.args.report.now c.args.row.now c.requires (ticked_by c.args.state (Ok c.in_ok-after.after)) _ c.in_ok-after.ensures.0 c.in_ok-after.ensures.1 f refl in
    sum_fits c.args.state c.args.report.now c.args.row.now c.requires (ticked_by c.args.state (Ok c.in_ok-after.after)) _ c.in_ok-after.ensures.0 c.in_ok-after.ensures.1 f refl _ (omega (arith, grows))

pub overflow_add-granted : goal.overflow_add-granted
unfolding ticked_by
overflow_add-granted c =
    let f = shape (goal.at.overflow_add-granted c).After-tick in
    let grows = idle_grows c.args.state c.args.report.now c.args.row.now c.requires (ticked_by c.args.state (Ok c.in_ok-after.after)) _ c.in_ok-after.ensures.0 c.in_ok-after.ensures.1 f refl in
    speed_fits c.args.state c.args.report.now c.args.row.now c.requires (ticked_by c.args.state (Ok c.in_ok-after.after)) _ c.in_ok-after.ensures.0 c.in_ok-after.ensures.1 f refl _ (omega (arith, grows)) c.sum-granted.result.0 c.sum-granted.ensures

pub returns-clause-row_after : goal.returns-clause-row_after
unfolding ticked_by
returns-clause-row_after c =
    let f = shape (goal.at.returns-clause-row_after c).After-tick in
    let grows = idle_grows c.args.state c.args.report.now c.args.row.now c.requires (ticked_by c.args.state (Ok c.in_ok-after.after)) _ c.in_ok-after.ensures.0 c.in_ok-after.ensures.1 f refl in
    row_is c.args.state c.args.report.now c.args.row.now c.requires (ticked_by c.args.state (Ok c.in_ok-after.after)) _ c.in_ok-after.ensures.0 c.in_ok-after.ensures.1 f refl _ (omega (arith, grows)) c.sum-granted.result.0 c.sum-granted.ensures c.per_tick.result c.per_tick.ensures
