-- A number written in decimal: its first and last digits, and how many it has, by powers of ten. By induction on the most digits that `digits_of` may write.
use mathlib.Core.Path.{◌≡◌, refl, ap, ◌∙◌}
use mathlib.Core.Logic.{◌⊎◌, inl, inr, ⊎_elim}
use mathlib.Core.Bool.{Bool, true, false}
use mathlib.Core.List.{[], ◌∷◌, ◌++◌}
use Prim.Native.Nat.{ℕ, max, zero, suc, zero-le, ◌+◌, ◌*◌, ◌/◌, ◌%◌, ◌^◌, ◌≤◌, ◌<◌}
use native.Mathlib.Nat.{not-suc-le-zero, le_of_suc-le-suc, pow-suc, one-le-pow, pow-le-pow_right}
use native.Mathlib.Numerals.{add-one}
use native.Mathlib.Omega.{arith}
use borrow.Author.Tests.{lt-ltb, le-ltb, ltb-true, ltb-false}
use lib.Dec.{ltb, lit<, lit≤}
use lib.ListN.{length, length-append}
use Rattle.decimal.specs.Decimal.{digits_of, decimal_of}

-- a number is below 10 or not
pub below_ten : (n : ℕ) → (n < 10) ⊎ (10 ≤ n)
below_ten n = go (ltb n 10) refl
  where
    go : (t : Bool) → ltb n 10 ≡ t → (n < 10) ⊎ (10 ≤ n)
    go true e = inl (ltb-true n 10 e)
    go false e = inr (ltb-false n 10 e)

module _ (most n : ℕ) where
  -- a number below 10 is one digit
  pub one_digit : n < 10 → digits_of (suc most) n ≡ (48 + n) ∷ []
  unfolding digits_of
  one_digit h = rw (lt-ltb n 10 h)

  -- any other is the digits of its tens and then its last digit
  pub last_digit : 10 ≤ n → digits_of (suc most) n ≡ digits_of most (n / 10) ++ ((48 + n % 10) ∷ [])
  unfolding digits_of
  last_digit h = rw (le-ltb n 10 h)

  -- so it has one digit
  pub length_one : n < 10 → length (digits_of (suc most) n) ≡ 1
  length_one h = ap length (one_digit h)

  -- or one more than its tens
  pub length_more : 10 ≤ n → length (digits_of (suc most) n) ≡ suc (length (digits_of most (n / 10)))
  length_more h = ap length (last_digit h) ∙ length-append (digits_of most (n / 10)) ((48 + n % 10) ∷ []) ∙ add-one _

-- there are no more digits than are allowed
at_most : (most n : ℕ) → length (digits_of most n) ≤ most
unfolding digits_of
at_most zero n = zero-le
at_most (suc most) n =
    ⊎_elim (λ h. omega (arith, length_one most n h)) (λ h. omega (arith, length_more most n h, at_most most (n / 10))) (below_ten n)

-- a number below 10 ^ k has at most `k` digits
pub narrow_by : (most k n : ℕ) → 1 ≤ k → n < 10 ^ k → length (digits_of most n) ≤ k
unfolding digits_of
narrow_by zero k n some h = zero-le
narrow_by (suc most) zero n some h = absurd (not-suc-le-zero some)
narrow_by (suc most) (suc zero) n some h = omega (arith, length_one most n h)
narrow_by (suc most) (suc (suc k)) n some h =
    let tens : n / 10 < 10 ^ suc k = omega (arith, pow-suc 10 (suc k)) in
    ⊎_elim (λ a. omega (arith, length_one most n a)) (λ a. omega (arith, length_more most n a, narrow_by most (suc k) (n / 10) (omega arith) tens)) (below_ten n)

-- a number from 10 ^ k on has more than `k` digits, where so many are allowed
pub wide_by : (most k n : ℕ) → k < most → 10 ^ k ≤ n → k < length (digits_of most n)
wide_by zero k n allowed h = absurd (not-suc-le-zero allowed)
wide_by (suc most) zero n allowed h = ⊎_elim (λ a. omega (arith, length_one most n a)) (λ a. omega (arith, length_more most n a)) (below_ten n)
wide_by (suc most) (suc k) n allowed h =
    let tens : 10 ^ k ≤ n / 10 = omega (arith, pow-suc 10 k) in
    let some : 1 ≤ 10 ^ k = one-le-pow k 10 (lit< tt) in
    omega (arith, length_more most n (omega (arith, pow-suc 10 k)), wide_by most k (n / 10) (le_of_suc-le-suc allowed) tens)

module _ (n : ℕ) where
  -- at least one digit
  pub some_digit : 1 ≤ length (decimal_of n)
  unfolding decimal_of
  some_digit = ⊎_elim (λ a. omega (arith, length_one 19 n a)) (λ a. omega (arith, length_more 19 n a)) (below_ten n)

  -- at most 20 digits
  pub few_digits : length (decimal_of n) ≤ 20
  unfolding decimal_of
  few_digits = at_most 20 n

  -- at most `k` digits below 10 ^ k
  pub narrow : (k : ℕ) → n < 10 ^ k → 1 ≤ k → length (decimal_of n) ≤ k
  unfolding decimal_of
  narrow k h some = narrow_by 20 k n some h

  -- more than `k` digits from 10 ^ k on, for `k` below 20
  pub wide : (k : ℕ) → 10 ^ k ≤ n → k < 20 → k < length (decimal_of n)
  unfolding decimal_of
  wide k h few = wide_by 20 k n few h

-- the powers of ten below the twentieth fit 64 bits
pub power_fits : (k : ℕ) → k < 20 → 10 ^ k < 2 ^ 64
power_fits k h = omega (arith, pow-le-pow_right {n = 10} (lit< tt) {i = k} {j = 19} (omega arith))

-- the next power of ten is ten times this one
pub next_power : (k : ℕ) → 10 ^ (k + 1) ≡ 10 ^ k * 10
next_power k = rw (add-one k) (pow-suc 10 k)

-- a number of `m` at least 1 between two powers of ten has one digit more than the lower power has zeros
pub digits_by_power : (n m k : ℕ) → m ≡ max n 1 → 10 ^ k ≤ m → m < 10 * 10 ^ k → k < 20 → k + 1 ≡ length (decimal_of n)
digits_by_power n m zero e low high few = omega (arith, some_digit n, narrow n 1 (omega arith) (lit≤ tt))
digits_by_power n m (suc k) e low high few =
    let some : 1 ≤ 10 ^ k = one-le-pow k 10 (lit< tt) in
    let same : m ≡ n = omega (arith, pow-suc 10 k) in
    let next : 10 ^ (suc k + 1) ≡ 10 ^ suc k * 10 = next_power (suc k) in
    omega (arith, narrow n (suc k + 1) (omega arith) (omega arith), wide n (suc k) (omega arith) few)
