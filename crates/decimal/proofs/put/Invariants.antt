-- `put` stores from the last digit to the first: the digits left, stored over what there is, are the whole number stored.
use Rattle.std.proofs.Common.{◌≡◌, ◌-◌}
use Rattle.std.proofs.lemmas.List.Edits.{sets}
use Rattle.decimal.specs.Decimal.{decimal_of}
use Rattle.decimal.proofs.Backwards.{last_digits}
use Rattle.decimal.proofs.put.Given as goal

abbrev pub invariant-loop-i : goal.invariant-loop-i
invariant-loop-i l = sets l.out l.at (last_digits (l.i - l.at) l.rest) ≡ sets l.initial.out l.at (decimal_of l.n)
