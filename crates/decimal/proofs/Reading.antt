-- A field read: how many digits a text begins with, their form and their number decide it.
use mathlib.Core.Path.{◌≡◌, refl, ap, ◌∙◌}
use mathlib.Core.Bool.{Bool, true, false, cond, not, ◌&&◌, and-false}
use mathlib.Core.List.{List, [], ◌∷◌}
use lib.Dec.{eqb}
use Prim.Native.Nat.{ℕ, suc, zero-le, suc-le-suc, ◌+◌, ◌-◌, ◌*◌, ◌≤◌, ◌<◌}
use native.Mathlib.Nat.{le_refl, le_trans, not-suc-le-zero}
use native.Mathlib.Omega.{arith}
use borrow.Author.Tests.{lt-ltb, le-ltb, eq-eqb, ne_eqb}
use lib.ListN.{length, get_or, take, drop, drop_of_length-le}
use Rattle.std.specs.Prelude.{Option, Some, None}
use Rattle.decimal.specs.declared.Number.{Number}
use Rattle.std.specs.Char.{is_ascii_digit}
use Rattle.std.specs.List.{take_while, prefix_len}
use Rattle.std.proofs.lemmas.List.Folds.{length-prefix_len}
use Rattle.decimal.specs.Decimal.{is_digit, digits, value_of, no_leading_zero, fits64, read_number, field_at, number_of}

-- more digits never make a number smaller
pub grows : (v : ℕ) (ds : List ℕ) → v ≤ value_of v ds
unfolding value_of
grows v [] = le_refl v
grows v (d ∷ ds) = le_trans (omega arith) (grows (v * 10 + (d - 48)) ds)

-- one step of the next law, on either answer of the byte
first_by : (t : Bool) (b : ℕ) (bs : List ℕ) → 0 < length (cond t (b ∷ bs) []) → get_or (cond t (b ∷ bs) []) 0 0 ≡ b
first_by true b bs h = refl
first_by false b bs h = absurd (not-suc-le-zero h)

-- the first digit of a text is its first byte
pub first_digit : (l : List ℕ) → 0 < length (digits l) → get_or (digits l) 0 0 ≡ get_or l 0 0
unfolding digits
first_digit [] h = refl
first_digit (b ∷ bs) h = first_by (is_digit b) b (digits bs) h

-- the digits that a text begins with are no more than its bytes
pub digits_within : (l : List ℕ) → length (digits l) ≤ length l
unfolding digits
digits_within [] = zero-le
digits_within (b ∷ bs) = go (is_digit b) (digits_within bs)
  where
    go : (t : Bool) → length (digits bs) ≤ length bs → length (cond t (b ∷ digits bs) []) ≤ suc (length bs)
    go true h = suc-le-suc h
    go false h = zero-le

module _ (ds : List ℕ) where
  -- no digit is of the wrong form
  pub no_digit : length ds ≡ 0 → no_leading_zero ds ≡ false
  unfolding no_leading_zero
  no_digit h = rw (le-ltb 0 (length ds) (omega arith))

  -- one digit is of the right form
  pub lone_digit : length ds ≡ 1 → no_leading_zero ds ≡ true
  unfolding no_leading_zero
  lone_digit h = rw (lt-ltb 0 (length ds) (omega arith), eq-eqb (length ds) 1 h)

  -- more with `0` in front are of the wrong form
  pub zero_first : 1 < length ds → get_or ds 0 0 ≡ 48 → no_leading_zero ds ≡ false
  unfolding no_leading_zero
  zero_first h z = rw (lt-ltb 0 (length ds) (omega arith), ne_eqb (length ds) 1 (λ e. omega arith), eq-eqb (get_or ds 0 0) 48 z)

  -- with more, it is the first one that decides
  pub more_digits : 1 < length ds → no_leading_zero ds ≡ not (eqb (get_or ds 0 0) 48)
  unfolding no_leading_zero
  more_digits h = rw (lt-ltb 0 (length ds) (omega arith), ne_eqb (length ds) 1 (λ e. omega arith))

  -- more with another in front are of the right form
  pub other_first : 1 < length ds → (get_or ds 0 0 ≡ 48 → ⊥) → no_leading_zero ds ≡ true
  unfolding no_leading_zero
  other_first h z = rw (lt-ltb 0 (length ds) (omega arith), ne_eqb (length ds) 1 (λ e. omega arith), ne_eqb (get_or ds 0 0) 48 z)

-- the digits that a text begins with are as many bytes from its front on
digits_take : (l : List ℕ) → take (length (digits l)) l ≡ digits l
unfolding digits
digits_take [] = refl
digits_take (b ∷ bs) = go (is_digit b) (digits_take bs)
  where
    go : (t : Bool) → take (length (digits bs)) bs ≡ digits bs → take (length (cond t (b ∷ digits bs) [])) (b ∷ bs) ≡ cond t (b ∷ digits bs) []
    go true e = ap (λ (l : List ℕ). b ∷ l) e
    go false e = refl

-- std's test is the same, so its `take_while` takes as many
as_many : (l : List ℕ) → prefix_len is_ascii_digit l ≡ length (digits l)
unfolding digits is_digit
as_many [] = refl
as_many (b ∷ bs) = go (is_digit b) (as_many bs)
  where
    go : (t : Bool) → prefix_len is_ascii_digit bs ≡ length (digits bs) → cond t (1 + prefix_len is_ascii_digit bs) 0 ≡ length (cond t (b ∷ digits bs) [])
    go true e = omega arith
    go false e = refl

digits_counted : (l : List ℕ) → length (take_while is_ascii_digit l) ≡ length (digits l)
digits_counted l = length-prefix_len is_ascii_digit l ∙ as_many l

-- the bytes of a text counted so are the digits that it begins with, and digits only
pub digits_of_part : (l : List ℕ) (k : ℕ) → k ≡ length (take_while is_ascii_digit l) → (take k l ≡ digits l) × (k ≡ length (digits l)) × (k ≤ length l)
digits_of_part l k e =
    let same : k ≡ length (digits l) = e ∙ digits_counted l in
    (rw same (digits_take l), same, omega (arith, digits_within l))

-- past the end of the text there is no digit, so no number
pub reads_past : (text : List ℕ) (at : ℕ) → length text < at → field_at text at ≡ None
unfolding field_at digits
reads_past text at h = rw (drop_of_length-le text {i = at} (omega arith), no_digit [] refl)

module _ (text : List ℕ) (at : ℕ) (rest ds : List ℕ) (from : rest ≡ drop at text) (front : ds ≡ digits rest) where
  -- digits of the wrong form: no number
  pub reads_wrong : no_leading_zero ds ≡ false → field_at text at ≡ None
  unfolding field_at
  reads_wrong e = rw (← from, ← front, e)

  -- a number that does not fit
  pub reads_over : number_of ds ≡ None → field_at text at ≡ None
  unfolding field_at number_of
  reads_over e = rw (← from, ← front) (go (fits64 (value_of 0 ds)) refl e)
    where
      go : (t : Bool) → fits64 (value_of 0 ds) ≡ t → cond t (Some (value_of 0 ds)) None ≡ None → ◌≡◌ {A = Option Number} (cond (no_leading_zero ds && t) (read_number (value_of 0 ds) (at + length ds)) None) None
      go true f e = let z : ◌≡◌ {A = ℕ} 0 1 = cc in absurd (omega arith)
      go false f e = rw and-false

  -- digits of the right form whose number fits: that number, and the place after them
  pub reads_number : (v : ℕ) → no_leading_zero ds ≡ true → number_of ds ≡ Some v → field_at text at ≡ read_number v (at + length ds)
  unfolding field_at number_of
  reads_number v form e = rw (← from, ← front, form) (go (fits64 (value_of 0 ds)) e)
    where
      go : (t : Bool) → cond t (Some (value_of 0 ds)) None ≡ Some v → ◌≡◌ {A = Option Number} (cond t (read_number (value_of 0 ds) (at + length ds)) None) (read_number v (at + length ds))
      go true e = let same : value_of 0 ds ≡ v = cc in rw same
      go false e = let z : ◌≡◌ {A = ℕ} 0 1 = cc in absurd (omega arith)
