-- `play_run` goes from tick to tick: what is still to come of the run is what the whole of it comes to, and the cursor stands at the end lines of the tick.
use Rattle.player.specs.Plays.{ends_of}
use Rattle.player.specs.Parts.{ticks_in}
use Rattle.player.proofs.Runs.{Going}
use Rattle.player.proofs.ticks.play_run.Given as goal

abbrev pub invariant-loop-t : goal.invariant-loop-t
invariant-loop-t l = Going (ends_of l.ends) (ticks_in l.ends) l.fn.run.0 l.initial.state l.initial.rows l.state l.rows l.t l.next
