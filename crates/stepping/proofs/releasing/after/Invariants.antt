-- `after` is `after_of`: the counts of `count_tick`, and after `i` turns the first `i` tasks released whose deadline is the new tick.
use mathlib.Core.Path.{◌≡◌}
use Rattle.rules.specs.declared.Releasing.{Releasing}
use Rattle.rules.specs.declared.Tally.{Tally}
use Rattle.stepping.specs.Parts.{released_to}
use Rattle.stepping.proofs.ReleaseLaws.{with_late}
use Rattle.stepping.proofs.releasing.after.Given as goal

abbrev pub invariant-loop-i : goal.invariant-loop-i
invariant-loop-i l =
    (◌≡◌ {A = Releasing} (record { jobs = l.jobs; late = l.tally.late }) (released_to l.dues.at l.next.0 l.i (record { jobs = l.initial.jobs; late = l.initial.tally.late })))
    × (◌≡◌ {A = Tally} l.tally (with_late l.initial.tally l.tally.late))
