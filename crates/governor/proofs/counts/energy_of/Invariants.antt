-- `energy_of` sums place by place: what is summed and what is left to sum are the whole.
use mathlib.Core.Path.{◌≡◌}
use Prim.Native.Nat.{◌+◌}
use lib.ListN.{drop}
use Rattle.rules.specs.Words.{up_to, total}
use Rattle.governor.proofs.CountLaws.{costs}
use Rattle.governor.proofs.counts.energy_of.Given as goal

abbrev pub invariant-loop-i : goal.invariant-loop-i
invariant-loop-i l = total (costs l.tally.counts l.ladder.volts) (up_to l.i-end (λ k. k)) ≡ l.sum + total (costs l.tally.counts l.ladder.volts) (drop l.i (up_to l.i-end (λ k. k)))
