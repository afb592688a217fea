-- The energy of counts, over plain values: no product and no sum of rule 6 wraps where the whole sum does not.
use mathlib.Core.Path.{◌≡◌, ap, ◌∙◌}
use mathlib.Core.List.{List}
use Prim.Native.Nat.{ℕ, zero, suc, zero-le, suc-le-suc, ◌+◌, ◌*◌, ◌≤◌, ◌<◌}
use native.Mathlib.Nat.{mul-le-mul_left, mul-zero}
use native.Mathlib.Omega.{arith}
use mir.Syntax.{w64}
use mir.Val.{Fits}
use lib.ListN.{get_or, drop}
use Rattle.units.specs.Units.{cycles, volts, most_count}
use Rattle.units.specs.declared.Cycles.{Cycles}
use Rattle.units.specs.declared.Volts.{Volts}
use Rattle.rules.specs.Words.{up_to, total}
use Rattle.rules.proofs.Lists.{length-up_to, get_d_up_to}
use Rattle.rules.proofs.Totals.{total_rest, total_end}

-- rule 6: one term of the sum over the speeds
abbrev pub costs : List Cycles → List Volts → ℕ → ℕ
costs counts vs i = (get_or counts i (cycles 0)).0 * (get_or vs i (volts 0)).0 * (get_or vs i (volts 0)).0

-- the sum of the speeds from i on: a turn, the end, and what a turn fits into
module _ (f : ℕ → ℕ) (n i : ℕ) where
  sum_on : i < n → total f (drop i (up_to n (λ k. k))) ≡ f i + total f (drop (i + 1) (up_to n (λ k. k)))
  sum_on h =
      let l = up_to n (λ k. k) in
      total_rest f l 0 i (rw (length-up_to n (λ k. k)) h) ∙ ap (λ x. f x + total f (drop (i + 1) l)) (get_d_up_to n (λ k. k) i 0 h)

  pub sum_end : n ≤ i → total f (drop i (up_to n (λ k. k))) ≡ 0
  sum_end h = total_end f (up_to n (λ k. k)) i (rw (length-up_to n (λ k. k)) h)

-- a factor more keeps a product at least as large, unless the product is 0
once_most : (c v : ℕ) → c * v ≤ c * v * v
once_most c zero = omega (arith, mul-zero c)
once_most c (suc v) =
    let more : c * suc v * 1 ≤ c * suc v * suc v = mul-le-mul_left (c * suc v) (suc-le-suc zero-le) in
    omega arith

-- a turn of the sum of rule 6 fits where the whole sum does
module _ (counts : List Cycles) (vs : List Volts) (n sum i : ℕ) (h : i < n) (whole : total (costs counts vs) (up_to n (λ k. k)) ≡ sum + total (costs counts vs) (drop i (up_to n (λ k. k)))) (fits : total (costs counts vs) (up_to n (λ k. k)) ≤ most_count) where
  turn : sum + costs counts vs i ≤ most_count
  turn = omega (arith, whole, fits, sum_on (costs counts vs) n i h)

  pub once_fits : Fits w64 ((get_or counts i (cycles 0)).0 * (get_or vs i (volts 0)).0)
  once_fits = record { fits = omega (arith, turn, once_most (get_or counts i (cycles 0)).0 (get_or vs i (volts 0)).0) }

  pub twice_fits : Fits w64 (costs counts vs i)
  twice_fits = record { fits = omega (arith, turn) }

  pub sum_fits : Fits w64 (sum + costs counts vs i)
  sum_fits = record { fits = omega (arith, turn) }

  pub sum_turn : total (costs counts vs) (up_to n (λ k. k)) ≡ sum + costs counts vs i + total (costs counts vs) (drop (i + 1) (up_to n (λ k. k)))
  sum_turn = omega (arith, whole, sum_on (costs counts vs) n i h)
