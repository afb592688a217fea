-- `enter` goes from line to line of the tick: what the lines from `k` on enter into the report so far is what all of them enter into the first one.
use mathlib.Core.Path.{◌≡◌}
use Rattle.player.specs.Parts.{ticks_in, tasks_in, cycles_in, past_tick, entered}
use Rattle.player.proofs.ticks.enter.Given as goal

abbrev pub invariant-loop-k : goal.invariant-loop-k
invariant-loop-k l = record {
  place : past_tick (ticks_in l.ends) l.t.0 l.from ≡ past_tick (ticks_in l.ends) l.t.0 l.k;
  report : entered (ticks_in l.ends) (tasks_in l.ends) (cycles_in l.ends) l.t.0 l.from l.initial.report ≡ entered (ticks_in l.ends) (tasks_in l.ends) (cycles_in l.ends) l.t.0 l.k l.report;
}
