-- `settle` settles the earliest of the jobs that wait, turn by turn, in place: those that wait, from what is settled so far, come to the whole.
use Rattle.std.proofs.Common.{ℕ, List, length}
use Rattle.units.specs.declared.Cycles.{Cycles}
use Rattle.rules.specs.declared.Jobs.{Jobs}
use Rattle.rules.specs.declared.Settling.{Settling}
use Rattle.choosing.specs.Choosing.{waiting_in}
use Rattle.settlement.proofs.Waits.{Going}
use Rattle.settlement.proofs.settle.Given as goal

-- what is settled, as one
abbrev pub whole : Jobs → List Cycles → Cycles → ℕ → Settling
whole jobs grants left cut = record { jobs = jobs; grants = grants; left = left; cut = cut }

abbrev pub invariant-loop-left : goal.invariant-loop-left
invariant-loop-left l = Going l.tasks l.report l.fn.jobs l.dues l.fn.speed.0 l.ready (whole l.after l.given l.left l.cut)

abbrev pub decreases-loop-left : goal.decreases-loop-left
decreases-loop-left l = length (waiting_in l.dues l.ready l.tasks.count)
