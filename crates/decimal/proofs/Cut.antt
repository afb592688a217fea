-- A field is read from 21 digits at most: those show its form, and where there are so many, a zero in front or a number that does not fit.
use mathlib.Core.Path.{◌≡◌, refl, sym, ap, ◌∙◌}
use mathlib.Core.Bool.{Bool, true, false, cond}
use mathlib.Core.List.{List, [], ◌∷◌}
use Prim.Native.Nat.{ℕ, min, zero, suc, ◌^◌, ◌≤◌}
use native.Mathlib.Nat.{le_trans}
use native.Mathlib.Omega.{arith}
use borrow.Author.Tests.{le-ltb, ltb-true, ltb-false}
use lib.Dec.{ltb}
use lib.ListN.{length, take, drop}
use Rattle.std.specs.Prelude.{Some, None}
use Rattle.std.proofs.lemmas.List.{length-take, take-append-drop, take_all, take_min}
use Rattle.std.specs.Char.{is_ascii_digit}
use Rattle.std.specs.List.{take_while}
use Rattle.decimal.specs.Decimal.{is_digit, digits, value_of, no_leading_zero, fits64, number_of}
use Rattle.decimal.proofs.Written.{few_digits}
use Rattle.decimal.proofs.Reading.{grows, more_digits, digits_of_part}
use Rattle.decimal.proofs.Spelling.{value_append}
use Rattle.decimal.proofs.ReadBack.{spelled}

-- the digits of a text's front are the front of its digits
pub digits_cut : (n : ℕ) (l : List ℕ) → digits (take n l) ≡ take n (digits l)
unfolding digits
digits_cut zero l = refl
digits_cut (suc n) [] = refl
digits_cut (suc n) (b ∷ bs) = go (is_digit b) (digits_cut n bs)
  where
    go : (t : Bool) → digits (take n bs) ≡ take n (digits bs) → cond t (b ∷ digits (take n bs)) [] ≡ take (suc n) (cond t (b ∷ digits bs) [])
    go true e = ap (λ (l : List ℕ). b ∷ l) e
    go false e = refl

-- two digits or more show the form
pub form_cut : (n : ℕ) (ds : List ℕ) → no_leading_zero (take (suc (suc n)) ds) ≡ no_leading_zero ds
form_cut n [] = refl
form_cut n (d ∷ []) = refl
form_cut n (d ∷ e ∷ ds) = more_digits (d ∷ e ∷ take n ds) (omega arith) ∙ sym (more_digits (d ∷ e ∷ ds) (omega arith))

-- where the front's number does not fit, nor does that of all digits
pub over_cut : (n : ℕ) (ds : List ℕ) → number_of (take n ds) ≡ None → number_of ds ≡ None
unfolding number_of fits64
over_cut n ds e = go (ltb (value_of 0 (take n ds)) (2 ^ 64)) refl e
  where
    go : (t : Bool) → ltb (value_of 0 (take n ds)) (2 ^ 64) ≡ t → cond t (Some (value_of 0 (take n ds))) None ≡ None → number_of ds ≡ None
    go true f e = let z : ◌≡◌ {A = ℕ} 0 1 = cc in absurd (omega arith)
    go false f e =
        let all : value_of (value_of 0 (take n ds)) (drop n ds) ≡ value_of 0 ds = sym (value_append 0 (take n ds) (drop n ds)) ∙ ap (value_of 0) (take-append-drop n ds) in
        let more : value_of 0 (take n ds) ≤ value_of 0 ds = rw (← all) (grows (value_of 0 (take n ds)) (drop n ds)) in
        rw (le-ltb (value_of 0 ds) (2 ^ 64) (le_trans (ltb-false (value_of 0 (take n ds)) (2 ^ 64) f) more))

-- digits of the right form whose number fits are at most 20
pub few_fit : (ds : List ℕ) (v : ℕ) → digits ds ≡ ds → no_leading_zero ds ≡ true → number_of ds ≡ Some v → length ds ≤ 20
unfolding number_of fits64
few_fit ds v only form e = go (ltb (value_of 0 ds) (2 ^ 64)) refl e
  where
    go : (t : Bool) → ltb (value_of 0 ds) (2 ^ 64) ≡ t → cond t (Some (value_of 0 ds)) None ≡ Some v → length ds ≤ 20
    go true f e = rw (← spelled ds only form (ltb-true (value_of 0 ds) (2 ^ 64) f)) (few_digits (value_of 0 ds))
    go false f e = let z : ◌≡◌ {A = ℕ} 0 1 = cc in absurd (omega arith)

-- the bytes of the text's front, counted so, are the front of its digits
pub front_cut : (l : List ℕ) (m k : ℕ) → m ≡ min (length l) 21 → k ≡ length (take_while is_ascii_digit (take m l)) → take k (take m l) ≡ take 21 (digits l)
front_cut l m k e f =
    let most : m ≡ min 21 (length l) = omega arith in
    let same : take m l ≡ take 21 l = ap (λ (n : ℕ). take n l) most ∙ take_min 21 l in
    (digits_of_part (take m l) k f).0 ∙ ap digits same ∙ digits_cut 21 l

-- and all of them, where their form is right and their number fits
pub whole_cut : (ds : List ℕ) (v : ℕ) → digits ds ≡ ds → no_leading_zero (take 21 ds) ≡ true → number_of (take 21 ds) ≡ Some v → take 21 ds ≡ ds
whole_cut ds v only form e =
    let front : digits (take 21 ds) ≡ take 21 ds = digits_cut 21 ds ∙ ap (take 21) only in
    take_all 21 ds (omega (arith, few_fit (take 21 ds) v front form e, length-take 21 ds))
