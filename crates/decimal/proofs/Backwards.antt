-- A number stored from its last digit to its first: the digits left, stored over those already there, are the whole number stored. By induction on how many are left.
use mathlib.Core.Path.{◌≡◌, refl, sym, ap, ◌∙◌}
use mathlib.Core.Logic.{⊎_elim}
use mathlib.Core.List.{List, [], ◌∷◌, ◌++◌}
use Prim.Native.Nat.{ℕ, zero, suc, ◌+◌, ◌-◌, ◌/◌, ◌%◌, ◌≤◌, ◌<◌}
use native.Mathlib.Nat.{mod-eq_of_lt}
use native.Mathlib.Numerals.{add-one}
use native.Mathlib.Omega.{arith}
use lib.ListN.{length, set, length-append}
use lib.Seq.{sets}
use Rattle.words.proofs.Stores.{sets_append, set_after}
use Rattle.decimal.specs.Decimal.{digits_of, decimal_of}
use Rattle.decimal.proofs.Written.{below_ten, one_digit, last_digit, length_one, length_more}

-- the last `k` digits of a number, with zeros in front where it has fewer
unfoldable pub last_digits : ℕ → ℕ → List ℕ
last_digits zero n = []
last_digits (suc k) n = last_digits k (n / 10) ++ ((48 + n % 10) ∷ [])

-- there are `k` of them
pub length_last : (k n : ℕ) → length (last_digits k n) ≡ k
unfolding last_digits
length_last zero n = refl
length_last (suc k) n = length-append (last_digits k (n / 10)) ((48 + n % 10) ∷ []) ∙ add-one _ ∙ ap suc (length_last k (n / 10))

-- a number of at most so many digits is its last digits, as many as it has
all_by : (most n : ℕ) → last_digits (length (digits_of most n)) n ≡ digits_of most n
unfolding last_digits digits_of
all_by zero n = refl
all_by (suc most) n =
    ⊎_elim (λ h. ap (λ (k : ℕ). last_digits k n) (length_one most n h) ∙ ap (λ (b : ℕ). (48 + b) ∷ []) (mod-eq_of_lt h) ∙ sym (one_digit most n h))
    (λ h.
    ap (λ (k : ℕ). last_digits k n) (length_more most n h)
    ∙ ap (λ (l : List ℕ). l ++ ((48 + n % 10) ∷ [])) (all_by most (n / 10))
    ∙ sym (last_digit most n h))
    (below_ten n)

-- the same for a number in decimal
pub all_digits : (n : ℕ) → last_digits (length (decimal_of n)) n ≡ decimal_of n
unfolding decimal_of
all_digits n = all_by 20 n

-- once the last digit is stored, the digits of the tens are left, before it
pub store_last : (d : List ℕ) (at k n : ℕ) → sets d at (last_digits (suc k) n) ≡ sets (set d (at + k) (48 + n % 10)) at (last_digits k (n / 10))
unfolding last_digits
store_last d at k n =
    sym (sets_append (last_digits k (n / 10)) ((48 + n % 10) ∷ []) d at)
    ∙ ap (λ (j : ℕ). set (sets d at (last_digits k (n / 10))) j (48 + n % 10)) (ap (λ (j : ℕ). at + j) (length_last k (n / 10)))
    ∙ set_after (last_digits k (n / 10)) d at (at + k) (48 + n % 10) (omega (arith, length_last k (n / 10)))

-- the same for the loop, which stands at the place after the digit
pub store_back : (d : List ℕ) (at i n : ℕ) → at < i → sets d at (last_digits (i - at) n) ≡ sets (set d (i - 1) (48 + n % 10)) at (last_digits (i - 1 - at) (n / 10))
store_back d at i n h =
    let count : i - at ≡ suc (i - 1 - at) = omega arith in
    let place : at + (i - 1 - at) ≡ i - 1 = omega arith in
    ap (λ (k : ℕ). sets d at (last_digits k n)) count
    ∙ store_last d at (i - 1 - at) n
    ∙ ap (λ (k : ℕ). sets (set d k (48 + n % 10)) at (last_digits (i - 1 - at) (n / 10))) place

-- before the loop all digits are left
pub all_left : (d : List ℕ) (at n k : ℕ) → k ≡ length (decimal_of n) → sets d at (last_digits (at + k - at) n) ≡ sets d at (decimal_of n)
all_left d at n k e =
    let count : at + k - at ≡ length (decimal_of n) = omega arith in
    ap (λ (j : ℕ). sets d at (last_digits j n)) count ∙ ap (sets d at) (all_digits n)

-- and after it none
pub none_left : (d : List ℕ) (at i n : ℕ) → i ≤ at → sets d at (last_digits (i - at) n) ≡ d
unfolding last_digits
none_left d at i n h =
    let count : i - at ≡ 0 = omega arith in
    ap (λ (j : ℕ). sets d at (last_digits j n)) count
