-- When a product of a speed and ticks fits, what `cycles_in` is then, and that `per_tick` is the way back from one tick.
use mathlib.Core.Path.{◌≡◌, refl, sym, ap, ◌∙◌}
use mathlib.Core.Bool.{Bool, true, false}
use Prim.Native.Nat.{ℕ, ◌*◌, ◌^◌, ◌≤◌, ◌<◌, min}
use native.Mathlib.Nat.{mul-le-mul, mul-one, min-eq_left, lt_of_le_of_lt}
use native.Mathlib.Omega.{arith}
use lib.Dec.{lit<, leb}
use borrow.Author.Tests.{le-leb, lt-leb, leb-true, leb-false}
use Rattle.units.specs.declared.Cycles.{Cycles}
use Rattle.units.specs.declared.Speed.{Speed}
use Rattle.units.specs.declared.Ticks.{Ticks}
use Rattle.units.specs.Units.{ticks, cycles, speed, most_count, cycles_in, per_tick}

-- two numbers below 2 ^ 32 have a product that fits
pub small_fits : {s t : ℕ} → s < 4294967296 → t < 4294967296 → s * t < 2 ^ 64
small_fits {s} {t} hs ht =
    let a : s ≤ 4294967295 = omega arith in
    let b : t ≤ 4294967295 = omega arith in
    lt_of_le_of_lt (mul-le-mul a b) (lit< tt)

pub in_most : (s : Speed) (t : Ticks) → s.0 * t.0 < 2 ^ 64 → cycles (s.0 * t.0) ≡ cycles_in s t
unfolding cycles_in
in_most s t h =
    let k : s.0 * t.0 ≤ most_count = omega arith in
    ap cycles (sym (min-eq_left k))

-- a load that can be written is carried exactly when it is at most `cycles_in`
pub load_compared : (s : Speed) (t : Ticks) (l : ℕ) → l ≤ most_count → leb l (cycles_in s t).0 ≡ leb l (s.0 * t.0)
unfolding cycles_in
load_compared s t l h = go (leb l (s.0 * t.0)) refl
  where
    go : (b : Bool) → leb l (s.0 * t.0) ≡ b → leb l (cycles_in s t).0 ≡ leb l (s.0 * t.0)
    go true e =
        let k : l ≤ s.0 * t.0 = leb-true _ _ e in
        le-leb l (min (s.0 * t.0) most_count) (omega arith) ∙ sym e
    go false e =
        let k : s.0 * t.0 < l = leb-false _ _ e in
        lt-leb l (min (s.0 * t.0) most_count) (omega arith) ∙ sym e

-- at the speed of so many cycles per tick, one tick has so many cycles
pub one_tick : (c : Cycles) → c.0 ≤ most_count → cycles_in (per_tick c) (ticks 1) ≡ c
unfolding cycles_in
one_tick c h = ap cycles (ap (λ (n : ℕ). min n most_count) (mul-one c.0) ∙ min-eq_left h)

-- and no other speed has as many
pub one_speed : (s : Speed) → s.0 ≤ most_count → per_tick (cycles_in s (ticks 1)) ≡ s
unfolding cycles_in
one_speed s h = ap speed (ap (λ (n : ℕ). min n most_count) (mul-one s.0) ∙ min-eq_left h)
