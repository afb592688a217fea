-- Lists of digits only, the numbers that they stand for, and that a number has one spelling without zeros in front. By induction on the digits, and on how many a number may have.
use mathlib.Core.Path.{◌≡◌, refl, ap, ◌∙◌}
use mathlib.Core.Logic.{⊎_elim}
use mathlib.Core.Bool.{Bool, true, false, cond, false≢true, ◌&&◌}
use mathlib.Core.List.{List, [], ◌∷◌, ◌++◌, append-nil, append_assoc, nil≢cons, tail-eq_of_cons-eq}
use Prim.Native.Nat.{ℕ, zero, suc, ◌+◌, ◌-◌, ◌*◌, ◌/◌, ◌%◌, ◌^◌, ◌≤◌, ◌<◌}
use native.Mathlib.Nat.{le_refl, le_trans, mul_assoc, mul-one, mul-le-mul_right, pow-succ', pow-suc, zero-add}
use native.Mathlib.Omega.{arith}
use borrow.Author.Tests.{le-leb, leb-true}
use lib.Dec.{leb}
use lib.ListN.{length, get_or, drop, get_or-append}
use Rattle.decimal.specs.Decimal.{is_digit, digits, value_of, no_leading_zero, digits_of, decimal_of}
use Rattle.decimal.proofs.Written.{below_ten, one_digit, last_digit, length_one, wide_by}
use Rattle.decimal.proofs.Reading.{lone_digit, other_first}

-- a byte from 48 to 57 is a digit
pub is_digit_lem : (b : ℕ) → 48 ≤ b → b ≤ 57 → is_digit b ≡ true
unfolding is_digit
is_digit_lem b low high = rw (le-leb 48 b low, le-leb b 57 high)

-- and a digit is such a byte
pub digit_is : (b : ℕ) → is_digit b ≡ true → (48 ≤ b) × (b ≤ 57)
unfolding is_digit
digit_is b e = go (leb 48 b) refl e
  where
    go : (t : Bool) → leb 48 b ≡ t → (t && leb b 57) ≡ true → (48 ≤ b) × (b ≤ 57)
    go true low high = (leb-true 48 b low, leb-true b 57 high)
    go false low high = absurd (false≢true high)

-- a list of digits only begins with a digit, and the rest of it are digits only
pub digits_cons : (b : ℕ) (bs : List ℕ) → digits (b ∷ bs) ≡ b ∷ bs → (is_digit b ≡ true) × (digits bs ≡ bs)
unfolding digits
digits_cons b bs e = go (is_digit b) refl e
  where
    go : (t : Bool) → is_digit b ≡ t → cond t (b ∷ digits bs) [] ≡ b ∷ bs → (is_digit b ≡ true) × (digits bs ≡ bs)
    go true d f = (d, tail-eq_of_cons-eq f)
    go false d f = absurd (nil≢cons f)

-- the digits of digits before a text are those, and then the text's
pub digits_append : (xs rest : List ℕ) → digits xs ≡ xs → digits (xs ++ rest) ≡ xs ++ digits rest
unfolding digits
digits_append [] rest e = refl
digits_append (x ∷ xs) rest e =
    let both = digits_cons x xs e in
    rw (both.0, digits_append xs rest both.1)

-- the digits that a text begins with are digits only
pub digits_twice : (l : List ℕ) → digits (digits l) ≡ digits l
unfolding digits
digits_twice [] = refl
digits_twice (b ∷ bs) = go (is_digit b) refl (digits_twice bs)
  where
    go : (t : Bool) → is_digit b ≡ t → digits (digits bs) ≡ digits bs → digits (cond t (b ∷ digits bs) []) ≡ cond t (b ∷ digits bs) []
    go true d e = rw (d, e)
    go false d e = refl

-- a text is the digits that it begins with and then the rest
pub digits_front : (l : List ℕ) → l ≡ digits l ++ drop (length (digits l)) l
unfolding digits
digits_front [] = refl
digits_front (b ∷ bs) = go (is_digit b) (digits_front bs)
  where
    go : (t : Bool) → bs ≡ digits bs ++ drop (length (digits bs)) bs → b ∷ bs ≡ cond t (b ∷ digits bs) [] ++ drop (length (cond t (b ∷ digits bs) [])) (b ∷ bs)
    go true e = ap (λ (l : List ℕ). b ∷ l) e
    go false e = refl

-- the number of one run of digits after another
pub value_append : (v : ℕ) (xs ys : List ℕ) → value_of v (xs ++ ys) ≡ value_of (value_of v xs) ys
unfolding value_of
value_append v [] ys = refl
value_append v (x ∷ xs) ys = value_append (v * 10 + (x - 48)) xs ys

-- a written number is digits only
pub written_digits : (most n : ℕ) → digits (digits_of most n) ≡ digits_of most n
unfolding digits digits_of
written_digits zero n = refl
written_digits (suc most) n =
    ⊎_elim (λ h. rw (one_digit most n h, is_digit_lem (48 + n) (omega arith) (omega arith)))
    (λ h.
    rw (last_digit most n h, digits_append (digits_of most (n / 10)) ((48 + n % 10) ∷ []) (written_digits most (n / 10)), is_digit_lem (48 + n % 10) (omega arith) (omega arith)))
    (below_ten n)

-- a written number stands for itself, where it may have as many digits as it needs
pub written_value : (most n : ℕ) → n < 10 ^ most → value_of 0 (digits_of most n) ≡ n
unfolding value_of digits_of
written_value zero n h = omega arith
written_value (suc most) n h =
    let tens : n / 10 < 10 ^ most = omega (arith, pow-suc 10 most) in
    ⊎_elim (λ a. rw (one_digit most n a) (omega arith))
    (λ a. rw (last_digit most n a, value_append 0 (digits_of most (n / 10)) ((48 + n % 10) ∷ []), written_value most (n / 10) tens) (omega arith))
    (below_ten n)

-- from 10 on, the first digit is that of the tens
first_of_tens : (most n : ℕ) → 0 < most → 10 ≤ n → get_or (digits_of (suc most) n) 0 0 ≡ get_or (digits_of most (n / 10)) 0 0
first_of_tens most n some h =
    let more : 0 < length (digits_of most (n / 10)) = wide_by most 0 (n / 10) some (omega arith) in
    rw (last_digit most n h, get_or-append (digits_of most (n / 10)) ((48 + n % 10) ∷ []) 0 0 more)

-- the first digit of a number above 0 is above `0`
pub written_first : (most n : ℕ) → 0 < n → n < 10 ^ most → 48 < get_or (digits_of most n) 0 0
written_first zero n some h = omega arith
written_first (suc zero) n some h = rw (one_digit 0 n h) (omega arith)
written_first (suc (suc most)) n some h =
    let tens : n / 10 < 10 ^ suc most = omega (arith, pow-suc 10 (suc most)) in
    ⊎_elim (λ a. rw (one_digit (suc most) n a) (omega arith))
    (λ a. omega (arith, first_of_tens (suc most) n (omega arith) a, written_first (suc most) (n / 10) (omega arith) tens))
    (below_ten n)

-- a written number has no zero in front, except 0 itself
pub written_form : (n : ℕ) → n < 10 ^ 20 → no_leading_zero (decimal_of n) ≡ true
unfolding decimal_of
written_form n h =
    ⊎_elim (λ a. lone_digit (digits_of 20 n) (length_one 19 n a))
    (λ a. other_first (digits_of 20 n) (wide_by 20 1 n (omega arith) a) (λ e. omega (arith, written_first 20 n (omega arith) h)))
    (below_ten n)

-- digits after a number make it at least as many times ten
pub value_floor : (v : ℕ) (ds : List ℕ) → v * 10 ^ length ds ≤ value_of v ds
unfolding value_of
value_floor v [] = rw (mul-one v) (le_refl v)
value_floor v (d ∷ ds) =
    rw (pow-succ' 10 (length ds), ← mul_assoc v 10 (10 ^ length ds)) (le_trans (mul-le-mul_right (10 ^ length ds) (omega arith)) (value_floor (v * 10 + (d - 48)) ds))

-- a number with digits after it is written as the number and then the digits
pub written_on : (ds : List ℕ) (most v : ℕ) → 0 < v → digits ds ≡ ds → digits_of (length ds + most) (value_of v ds) ≡ digits_of most v ++ ds
unfolding value_of
written_on [] most v some e = rw (zero-add most, append-nil (digits_of most v))
written_on (d ∷ ds) most v some e =
    let both = digits_cons d ds e in
    let low : 48 ≤ d = (digit_is d both.0).0 in
    let high : d ≤ 57 = (digit_is d both.0).1 in
    let next : ℕ = v * 10 + (d - 48) in
    let count : suc (length ds) + most ≡ length ds + suc most = omega arith in
    let tens : next / 10 ≡ v = omega arith in
    let last : 48 + next % 10 ≡ d = omega arith in
    ap (λ (k : ℕ). digits_of k (value_of next ds)) count
    ∙ written_on ds (suc most) next (omega arith) both.1
    ∙ ap (λ (l : List ℕ). l ++ ds) (last_digit most next (omega arith))
    ∙ ap (λ (k : ℕ). digits_of most k ++ ((48 + next % 10) ∷ []) ++ ds) tens
    ∙ ap (λ (k : ℕ). digits_of most v ++ (k ∷ []) ++ ds) last
    ∙ append_assoc (digits_of most v) (d ∷ []) ds
