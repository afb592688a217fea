-- `rest_unused` tests every place from the count on: what is left to test from `i` on is the whole test.
use Rattle.std.proofs.Common.{◌≡◌}
use Rattle.rules.specs.Words.{every}
use Rattle.rules.specs.Numbers.{unused_job}
use Rattle.places.specs.Places.{jobs_past}
use Rattle.places.proofs.PlaceLaws.{rest_from}
use Rattle.places.proofs.rest_unused.Given as goal

abbrev pub invariant-loop-i : goal.invariant-loop-i
invariant-loop-i l = every unused_job (jobs_past l.tasks l.jobs) ≡ rest_from l.tasks l.jobs l.i
