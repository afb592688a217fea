-- The fields of a line: the first of them and the rest, their bytes and where they are put. By the definition of a list's fields, field by field.
use mathlib.Core.Path.{◌≡◌, sym, ap, ◌∙◌}
use mathlib.Core.List.{List, [], ◌∷◌, ◌++◌}
use Prim.Native.Nat.{ℕ, zero-le, ◌+◌, ◌*◌, ◌≤◌, ◌<◌}
use native.Mathlib.Numerals.{add-one}
use native.Mathlib.Omega.{arith}
use lib.ListN.{length, get_or, set, drop, length-append, length-set, drop_of_length-le}
use lib.Seq.{drop-cons, sets}
use Rattle.words.specs.Words.{put_in, place_after}
use Rattle.words.proofs.Stores.{sets_append, put_fits, length_put}
use Rattle.decimal.specs.Decimal.{decimal_of}
use Rattle.decimal.proofs.Written.{few_digits, one_digit}
use Rattle.printout.specs.Print.{cr_lf, field_of, fields_of, line_of}

module _ (v : ℕ) where
  -- a field has its digits and a comma
  pub field_length : length (field_of v) ≡ length (decimal_of v) + 1
  unfolding field_of
  field_length = sym (add-one (length (decimal_of v)))

  -- a number below 10 is one digit
  pub small_field : v < 10 → field_of v ≡ 44 ∷ (48 + v) ∷ []
  unfolding field_of decimal_of
  small_field h = ap (λ (l : List ℕ). 44 ∷ l) (one_digit 19 v h)

  pub small_length : v < 10 → length (field_of v) ≡ 2
  small_length h = ap length (small_field h)

  module _ (d : List ℕ) (at : ℕ) where
    -- a comma stored, and then one digit
    pub store_small : v < 10 → set (set d at 44) (at + 1) (48 + v) ≡ sets d at (field_of v)
    store_small h = rw (small_field h, add-one at)

    -- a comma stored, and then the digits put after it, where the field fits
    pub put_digits : at + length (field_of v) ≤ length d → (put_in (set d at 44) (at + 1) (decimal_of v) ≡ sets d at (field_of v)) × (place_after (set d at 44) (at + 1) (decimal_of v) ≡ at + length (field_of v))
    unfolding field_of
    put_digits h =
        let fit = put_fits (set d at 44) (at + 1) (decimal_of v) (rw (length-set d at 44) (omega arith)) in
        (fit.0 ∙ rw (add-one at), omega (arith, fit.1))

module _ (vs : List ℕ) (i : ℕ) where
  -- the first field and the rest
  pub first_field : i < length vs → fields_of (drop i vs) ≡ field_of (get_or vs i 0) ++ fields_of (drop (i + 1) vs)
  unfolding fields_of
  first_field h = rw (drop-cons vs i 0, add-one i)

  -- past the last number there is none
  pub no_field : length vs ≤ i → fields_of (drop i vs) ≡ []
  unfolding fields_of
  no_field h = rw (drop_of_length-le vs {i = i} h)

  -- the bytes of the first and of the rest
  pub first_length : i < length vs → length (fields_of (drop i vs)) ≡ length (field_of (get_or vs i 0)) + length (fields_of (drop (i + 1) vs))
  first_length h = ap length (first_field h) ∙ length-append (field_of (get_or vs i 0)) (fields_of (drop (i + 1) vs))

  -- the first put, and then the rest after it
  pub put_first : (d : List ℕ) (at : ℕ) → i < length vs → sets (sets d at (field_of (get_or vs i 0))) (at + length (field_of (get_or vs i 0))) (fields_of (drop (i + 1) vs)) ≡ sets d at (fields_of (drop i vs))
  put_first d at h = sets_append (field_of (get_or vs i 0)) (fields_of (drop (i + 1) vs)) d at ∙ ap (sets d at) (sym (first_field h))

-- no field has more than 21 bytes
pub fields_few : (vs : List ℕ) → length (fields_of vs) ≤ 21 * length vs
unfolding fields_of
fields_few [] = zero-le
fields_few (v ∷ vs) = omega (arith, length-append (field_of v) (fields_of vs), field_length v, few_digits v, fields_few vs)

module _ (first others : List ℕ) where
  -- the bytes of a line: its first field, the others, and two for its end
  pub line_length : length (line_of first others) ≡ length first + length (fields_of others) + 2
  unfolding line_of cr_lf
  line_length = omega (arith, length-append first (fields_of others ++ cr_lf), length-append (fields_of others) cr_lf)

  -- a line put: its first field, the others after it, and then its end
  pub put_line : (d : List ℕ) (at : ℕ) → sets (sets (sets d at first) (at + length first) (fields_of others)) (at + length first + length (fields_of others)) cr_lf ≡ sets d at (line_of first others)
  unfolding line_of
  put_line d at =
      sets_append (fields_of others) cr_lf (sets d at first) (at + length first)
      ∙ sets_append first (fields_of others ++ cr_lf) d at

-- what one field comes to, and what a list of them does
pub ruleset one_field = (length-set, field_length, small_length, store_small, put_digits, length_put)

pub ruleset all_fields = (few_digits, field_length, first_length, no_field, fields_few, put_first)
