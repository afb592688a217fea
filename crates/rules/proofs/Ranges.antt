-- When a number is from 1 to a most, and what the test says.
use mathlib.Core.Path.{◌≡◌}
use mathlib.Core.Bool.{true, false}
use Prim.Native.Nat.{ℕ, ◌≤◌, ◌<◌}
use lib.Dec.{leb}
use borrow.Author.Tests.{le-leb, lt-leb, leb-true}
use Rattle.rules.specs.Limits.{up_to_most}
use Rattle.rules.proofs.Lists.{both_left, both_right}

pub in_range : (most n : ℕ) → 1 ≤ n → n ≤ most → up_to_most most n ≡ true
unfolding up_to_most
in_range most n a b = rw (le-leb 1 n a, le-leb n most b)

pub too_low : (most n : ℕ) → n < 1 → up_to_most most n ≡ false
unfolding up_to_most
too_low most n a = rw (lt-leb 1 n a)

pub too_high : (most n : ℕ) → 1 ≤ n → most < n → up_to_most most n ≡ false
unfolding up_to_most
too_high most n a b = rw (le-leb 1 n a, lt-leb n most b)

pub range_from : (most n : ℕ) → up_to_most most n ≡ true → 1 ≤ n
unfolding up_to_most
range_from most n e = leb-true 1 n (both_left (leb 1 n) (leb n most) e)

pub range_to : (most n : ℕ) → up_to_most most n ≡ true → n ≤ most
unfolding up_to_most
range_to most n e = leb-true n most (both_right (leb 1 n) (leb n most) e)
