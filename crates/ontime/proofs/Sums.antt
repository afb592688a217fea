-- The laws of `sum_to`: of equal, added, zero and constant terms, of sums in two directions and window by window. By induction on the places, the last one apart.
use mathlib.Core.Path.{◌≡◌, refl, sym, ap, ◌∙◌}
use Prim.Native.Nat.{ℕ, zero, suc, ◌+◌, ◌*◌, ◌≤◌, ◌<◌}
use native.Mathlib.Nat.{suc-mul, zero-mul, add-zero, add-suc}
use native.Mathlib.Decide.{ℕ_discrete, dec_lt}
use native.Mathlib.Omega.{arith}
use Rattle.rules.specs.Words.{up_to, total}
use Rattle.rules.proofs.Totals.{total_last}
use Rattle.ontime.specs.OnTime.{sum_to}

module _ (f : ℕ → ℕ) where
  pub sum_none : sum_to 0 f ≡ 0
  unfolding total up_to
  sum_none = refl

  -- terms of 0 come to 0, and a sum of 0 has no other terms
  pub sum_zero : (n : ℕ) → ((i : ℕ) → i < n → f i ≡ 0) → sum_to n f ≡ 0
  sum_zero zero h = sum_none
  sum_zero (suc n) h = omega (arith, total_last f n, sum_zero n (λ i l. h i (omega arith)), h n (omega arith))

  pub zero_sum : (n : ℕ) → sum_to n f ≡ 0 → (i : ℕ) → i < n → f i ≡ 0
  zero_sum zero e i l = absurd (omega arith)
  zero_sum (suc n) e i l = go (ℕ_discrete i n) (λ (m : i < n). zero_sum n (omega (arith, total_last f n)) i m)
    where
      go : Dec (i ≡ n) → (i < n → f i ≡ 0) → f i ≡ 0
      go (yes q) r = rw q (omega (arith, total_last f n))
      go (no q) r = r (omega arith)

pub sum_const : (c n : ℕ) → sum_to n (λ i. c) ≡ n * c
sum_const c zero = omega (arith, sum_none (λ i. c))
sum_const c (suc n) = omega (arith, total_last (λ i. c) n, sum_const c n, suc-mul n c)

module _ (f g : ℕ → ℕ) where
  pub sum_same : (n : ℕ) → ((i : ℕ) → i < n → f i ≡ g i) → sum_to n f ≡ sum_to n g
  sum_same zero h = sum_none f ∙ sym (sum_none g)
  sum_same (suc n) h = omega (arith, total_last f n, total_last g n, sum_same n (λ i l. h i (omega arith)), h n (omega arith))

  pub sum_add : (n : ℕ) → sum_to n (λ i. f i + g i) ≡ sum_to n f + sum_to n g
  sum_add zero = omega (arith, sum_none f, sum_none g, sum_none (λ i. f i + g i))
  sum_add (suc n) = omega (arith, total_last f n, total_last g n, total_last (λ i. f i + g i) n, sum_add n)

  -- a sum that is below another has a term that is
  pub sum_below : (n : ℕ) → sum_to n f < sum_to n g → (i : ℕ) × (i < n) × (f i < g i)
  sum_below zero l = absurd (omega (arith, sum_none f, sum_none g))
  sum_below (suc n) l = go (dec_lt (f n) (g n)) (λ (m : sum_to n f < sum_to n g). sum_below n m)
    where
      go : Dec (f n < g n) → (sum_to n f < sum_to n g → (i : ℕ) × (i < n) × (f i < g i)) → (i : ℕ) × (i < suc n) × (f i < g i)
      go (yes h) r = (n, omega arith, h)
      go (no h) r =
          let w : (i : ℕ) × (i < n) × (f i < g i) = r (omega (arith, total_last f n, total_last g n)) in
          (w.0, omega (arith, w.1), w.2)

-- terms that are 0 from a place on add nothing
pub sum_short : (f : ℕ → ℕ) (n m : ℕ) → n ≤ m → ((i : ℕ) → n ≤ i → i < m → f i ≡ 0) → sum_to m f ≡ sum_to n f
sum_short f n zero l h = ap (λ k. sum_to k f) (omega arith)
sum_short f n (suc m) l h = go (dec_lt m n) (λ (k : n ≤ m). sum_short f n m k (λ i a b. h i a (omega arith)))
  where
    go : Dec (m < n) → (n ≤ m → sum_to m f ≡ sum_to n f) → sum_to (suc m) f ≡ sum_to n f
    go (yes k) r = ap (λ k. sum_to k f) (omega arith)
    go (no k) r = omega (arith, total_last f m, r (omega arith), h m (omega arith) (omega arith))

-- the sums of rows and the sums of columns come to the same
pub sum_swap : (f : ℕ → ℕ → ℕ) (n m : ℕ) → sum_to n (λ i. sum_to m (λ k. f i k)) ≡ sum_to m (λ k. sum_to n (λ i. f i k))
sum_swap f zero m = sum_none (λ i. sum_to m (f i)) ∙ sym (sum_zero (λ k. sum_to 0 (λ i. f i k)) m (λ k l. sum_none (λ i. f i k)))
sum_swap f (suc n) m =
    total_last (λ i. sum_to m (f i)) n
    ∙ omega (arith, sum_swap f n m, sum_add (λ k. sum_to n (λ i. f i k)) (λ k. f n k) m, sum_same (λ k. sum_to (suc n) (λ i. f i k)) (λ k. sum_to n (λ i. f i k) + f n k) m (λ k l. total_last (λ i. f i k) n))

-- a sum over a + b places, and over q windows of p places
sum_join : (f : ℕ → ℕ) (a b : ℕ) → sum_to (a + b) f ≡ sum_to a f + sum_to b (λ k. f (a + k))
sum_join f a zero = rw (add-zero a) (omega (arith, sum_none (λ k. f (a + k))))
sum_join f a (suc b) =
    rw (add-suc a b)
    (omega (arith, total_last f (a + b), total_last (λ k. f (a + k)) b, sum_join f a b))

pub sum_windows : (f : ℕ → ℕ) (p q : ℕ) → sum_to (q * p) f ≡ sum_to q (λ m. sum_to p (λ k. f (m * p + k)))
sum_windows f p zero = rw (zero-mul p) (sum_none f ∙ sym (sum_none (λ m. sum_to p (λ k. f (m * p + k)))))
sum_windows f p (suc q) =
    rw (suc-mul q p)
    (omega (arith, sum_join f (q * p) p, total_last (λ m. sum_to p (λ k. f (m * p + k))) q, sum_windows f p q))
