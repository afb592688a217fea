-- Counts taken off a most one by one against their sum, and what the top speed makes in t ticks.
use mathlib.Core.Path.{◌≡◌, sym, ◌∙◌}
use mathlib.Core.Bool.{false}
use mathlib.Core.List.{List}
use Prim.Native.Nat.{ℕ, ◌+◌, ◌-◌, ◌*◌, ◌≤◌, ◌<◌}
use native.Mathlib.Nat.{mul-le-mul, mul_comm, min-eq_left}
use native.Mathlib.Omega.{arith}
use lib.Dec.{leb}
use lib.ListN.{length, get_or, drop}
use borrow.Author.Tests.{lt-leb}
use Rattle.units.specs.Units.{cycles, cycles_in, most_count}
use Rattle.units.specs.declared.Cycles.{Cycles}
use Rattle.units.specs.declared.Speed.{Speed}
use Rattle.units.specs.declared.Ticks.{Ticks}
use Rattle.rules.specs.Limits.{most_speed, most_ticks}
use Rattle.rules.proofs.Totals.{total_rest, total_end}
use Rattle.std.proofs.lemmas.Bool.Decides.{nat_tests}
use Rattle.tallies.specs.Parts.{cycles_of}

-- what is left to take off at a place
counts_on : (l : List Cycles) (i : ℕ) → i < length l → cycles_of (drop i l) ≡ (get_or l i (cycles 0)).0 + cycles_of (drop (i + 1) l)
counts_on l i h = total_rest (λ (c : Cycles). c.0) l (cycles 0) i h

-- what is left of the most, and what is left to take off it, tell whether the sum is at most that
module _ (l : List Cycles) (idle left most i : ℕ) (kept : left + cycles_of l ≡ most + cycles_of (drop i l)) where
  pub counts_over : i < length l → left < (get_or l i (cycles 0)).0 → false ≡ leb (cycles_of l + idle) most
  counts_over h k = sym (lt-leb (cycles_of l + idle) most (omega (arith, kept, counts_on l i h)))

  pub counts_turn : i < length l → (get_or l i (cycles 0)).0 ≤ left → left - (get_or l i (cycles 0)).0 + cycles_of l ≡ most + cycles_of (drop (i + 1) l)
  counts_turn h k = omega (arith, kept, counts_on l i h)

  pub idle_decides : length l ≤ i → leb idle left ≡ leb (cycles_of l + idle) most
  idle_decides h =
      let all : left + cycles_of l ≡ most = omega (arith, kept, total_end (λ (c : Cycles). c.0) l i h) in
      grind (arith, nat_tests)

-- t x top speed is far below the largest count, for a speed and a number of ticks that are allowed
pub most_is : (done : Ticks) (top : Speed) → top.0 ≤ most_speed → done.0 ≤ most_ticks → (cycles_in top done).0 ≡ done.0 * top.0
unfolding cycles_in
most_is done top a b =
    let h : top.0 * done.0 ≤ 1_000_000_000_000_000 = mul-le-mul a b in
    let k : top.0 * done.0 ≤ most_count = omega (arith, h) in
    min-eq_left k ∙ mul_comm top.0 done.0
