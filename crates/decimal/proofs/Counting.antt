-- The number of digits, counted from the first to the last: what the digits passed stand for, with those ahead, is the number of all.
use mathlib.Core.Path.{◌≡◌, refl, sym, ap, ◌∙◌}
use mathlib.Core.List.{List, ◌∷◌}
use mathlib.Core.Bool.{true}
use Prim.Native.Nat.{ℕ, ◌+◌, ◌-◌, ◌*◌, ◌^◌, ◌≤◌, ◌<◌}
use native.Mathlib.Nat.{le_trans}
use native.Mathlib.Numerals.{add-one}
use native.Mathlib.Omega.{arith}
use borrow.Author.Tests.{lt-ltb, le-ltb}
use lib.ListN.{length, get_or, take, drop, drop_of_length-le}
use lib.Seq.{drop-cons}
use Rattle.std.specs.Prelude.{Some, None}
use Rattle.std.proofs.lemmas.List.{get_or-take}
use Rattle.std.proofs.lemmas.Grind.{get_or_after_one}
use Rattle.decimal.specs.Decimal.{is_digit, digits, value_of, fits64, number_of}
use Rattle.decimal.proofs.Reading.{grows}
use Rattle.decimal.proofs.Spelling.{digit_is, digits_cons}

module _ (ds : List ℕ) (i : ℕ) (only : digits (drop i ds) ≡ drop i ds) (h : i < length ds) where
  -- the digit ahead, and those after it
  ahead : drop i ds ≡ get_or ds i 0 ∷ drop (i + 1) ds
  ahead = rw (add-one i) (drop-cons ds i 0 h)

  both : (is_digit (get_or ds i 0) ≡ true) × (digits (drop (i + 1) ds) ≡ drop (i + 1) ds)
  both = digits_cons (get_or ds i 0) (drop (i + 1) ds) (sym (ap digits ahead) ∙ only ∙ ahead)

  -- the byte ahead is a digit
  pub digit_ahead : (48 ≤ get_or ds i 0) × (get_or ds i 0 ≤ 57)
  digit_ahead = digit_is (get_or ds i 0) both.0

  -- one digit more: those ahead are digits only
  pub only_ahead : digits (drop (i + 1) ds) ≡ drop (i + 1) ds
  only_ahead = both.1

module _ (ds : List ℕ) (i v : ℕ) where
  -- and stand for the same number, after the digits passed
  pub value_ahead : (w : ℕ) → i < length ds → w ≡ v * 10 + (get_or ds i 0 - 48) → value_of v (drop i ds) ≡ value_of w (drop (i + 1) ds)
  unfolding value_of
  value_ahead w h e =
      let ahead : drop i ds ≡ get_or ds i 0 ∷ drop (i + 1) ds = rw (add-one i) (drop-cons ds i 0 h) in
      rw e (ap (value_of v) ahead)

  -- a digit with which the number no longer fits: no number
  pub over_counted : value_of 0 ds ≡ value_of v (drop i ds) → i < length ds → 2 ^ 64 ≤ v * 10 + (get_or ds i 0 - 48) → number_of ds ≡ None
  unfolding number_of fits64
  over_counted number h over =
      let more : v * 10 + (get_or ds i 0 - 48) ≤ value_of 0 ds =
      rw (number, value_ahead _ h refl) (grows (v * 10 + (get_or ds i 0 - 48)) (drop (i + 1) ds)) in
      rw (le-ltb (value_of 0 ds) (2 ^ 64) (le_trans over more))

  -- no digit ahead: the number of those passed
  pub all_counted : value_of 0 ds ≡ value_of v (drop i ds) → length ds ≤ i → v < 2 ^ 64 → number_of ds ≡ Some v
  unfolding number_of fits64 value_of
  all_counted number h fit =
      let same : value_of 0 ds ≡ v = number ∙ ap (value_of v) (drop_of_length-le ds {i = i} h) in
      rw (same, lt-ltb v (2 ^ 64) fit)

module _ (ds : List ℕ) where
  -- no digits stand for 0
  pub none_counted : length ds < 1 → number_of ds ≡ Some 0
  none_counted h = all_counted ds 0 0 refl (omega arith) (omega arith)

  -- the first one stands for itself
  pub first_counted : (v : ℕ) → v ≡ get_or ds 0 0 - 48 → 1 ≤ length ds → value_of 0 ds ≡ value_of v (drop 1 ds)
  first_counted v e h = value_ahead ds 0 0 v (omega arith) (omega (arith, e))

  -- and after it come digits only
  pub only_after : digits ds ≡ ds → 1 ≤ length ds → digits (drop 1 ds) ≡ drop 1 ds
  only_after only h = only_ahead ds 0 only (omega arith)

  -- each at one place more
  pub after_first : (i : ℕ) → i < length ds - 1 → get_or (take (length ds - 1) (drop 1 ds)) i 0 ≡ get_or ds (i + 1) 0
  after_first i h =
      let next : 1 + i ≡ i + 1 = omega arith in
      get_or-take (length ds - 1) (drop 1 ds) i 0 h ∙ get_or_after_one ds i 0 ∙ ap (λ (k : ℕ). get_or ds k 0) next
