-- `number_of` counts digit after digit: those passed with those ahead are the number.
use Rattle.std.proofs.Common.{◌≡◌, ◌<◌, ◌+◌, ◌^◌, drop}
use Rattle.decimal.specs.Decimal.{digits, value_of}
use Rattle.decimal.proofs.number_of.Given as goal

abbrev pub invariant-loop-digit : goal.invariant-loop-digit
invariant-loop-digit l =
    record {
      number : value_of 0 l.digits ≡ value_of l.value (drop (l.digit-index + 1) l.digits);
      only : digits (drop (l.digit-index + 1) l.digits) ≡ drop (l.digit-index + 1) l.digits;
      fitting : l.value < 2 ^ 64;
    }
