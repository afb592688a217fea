-- The rows of start's table, taken apart and put together: what each number says of the tests, and what 0 says of all eight.
use mathlib.Core.Path.{◌≡◌, refl, sym, ◌∙◌}
use mathlib.Core.Bool.{Bool, true, false, not}
use mathlib.Core.List.{List, [], ◌∷◌}
use Prim.Native.Nat.{ℕ, ◌≤◌, ◌<◌}
use native.Mathlib.Nat.{ne_of_lt}
use native.Mathlib.Omega.{arith}
use lib.Dec.{eqb, ltb}
use lib.ListN.{length}
use borrow.Author.Tests.{lt-ltb, le-ltb, ltb-false, eqb-true, not-false}
use Rattle.rules.specs.Words.{every, first_of}
use Rattle.rules.specs.Limits.{most_tasks, most_period, most_reserve, most_speeds, most_great, up_to_most}
use Rattle.rules.specs.Admission.{great_of, admitted}
use Rattle.rules.specs.Numbers.{same_count, speeds_rise, volts_never_fall, start_number, Forms}
use Rattle.rules.proofs.Lists.{both_left, both_right}
use Rattle.rules.proofs.Ranges.{range_from, range_to}

-- lists that match have from 1 to the most places, and as many of the second
module _ (most : ℕ) (xs ys : List ℕ) (e : same_count most xs ys ≡ true) where
  in_count : up_to_most most (length xs) ≡ true
  unfolding same_count
  in_count = both_left (up_to_most most (length xs)) (eqb (length ys) (length xs)) e

  pub match_some : 1 ≤ length xs
  match_some = range_from most (length xs) in_count

  pub match_most : length xs ≤ most
  match_most = range_to most (length xs) in_count

  pub match_same : length ys ≡ length xs
  unfolding same_count
  match_same = eqb-true (length ys) (length xs) (both_right (up_to_most most (length xs)) (eqb (length ys) (length xs)) e)

-- a row with another number than the answer failed, and the answer is that of the rows after it
pub row_failed : (b : Bool) (n answer : ℕ) (rows : List (Bool × ℕ)) → (n ≡ answer → ⊥) → first_of ((b, n) ∷ rows) ≡ answer → b ≡ false
unfolding first_of
row_failed true n answer rows other e = absurd (other e)
row_failed false n answer rows other e = refl

pub rows_after : (b : Bool) (n answer : ℕ) (rows : List (Bool × ℕ)) → (n ≡ answer → ⊥) → first_of ((b, n) ∷ rows) ≡ answer → first_of rows ≡ answer
unfolding first_of
rows_after true n answer rows other e = absurd (other e)
rows_after false n answer rows other e = e

-- no number: the first test does not hold, and neither does any after it
pub first_fails : (b : Bool) (n : ℕ) (rows : List (Bool × ℕ)) → 0 < n → first_of ((b, n) ∷ rows) ≡ 0 → b ≡ false
first_fails b n rows p e = row_failed b n 0 rows (λ z. ne_of_lt p (sym z)) e

pub rest_fails : (b : Bool) (n : ℕ) (rows : List (Bool × ℕ)) → 0 < n → first_of ((b, n) ∷ rows) ≡ 0 → first_of rows ≡ 0
rest_fails b n rows p e = rows_after b n 0 rows (λ z. ne_of_lt p (sym z)) e

-- tests 1 to 8 pass
pub record Passes (periods reserves speeds volts : List ℕ) : Type 0 where
  pub forms : Forms periods reserves speeds volts
  pub great_small : great_of periods ≤ most_great
  pub admits : admitted periods reserves speeds ≡ true

module _ (ps cs ss vs : List ℕ) where
  pub number_1 : same_count most_tasks ps cs ≡ false → start_number ps cs ss vs ≡ 1
  unfolding start_number first_of
  number_1 a = rw a

  pub number_2 : same_count most_tasks ps cs ≡ true → same_count most_speeds ss vs ≡ false → start_number ps cs ss vs ≡ 2
  unfolding start_number first_of
  number_2 a b = rw (a, b)

  pub number_3 : same_count most_tasks ps cs ≡ true → same_count most_speeds ss vs ≡ true → every (up_to_most most_period) ps ≡ false → start_number ps cs ss vs ≡ 3
  unfolding start_number first_of
  number_3 a b p = rw (a, b, p)

  pub number_4 : same_count most_tasks ps cs ≡ true → same_count most_speeds ss vs ≡ true → every (up_to_most most_period) ps ≡ true → every (up_to_most most_reserve) cs ≡ false → start_number ps cs ss vs ≡ 4
  unfolding start_number first_of
  number_4 a b p r = rw (a, b, p, r)

  pub number_5 : same_count most_tasks ps cs ≡ true → same_count most_speeds ss vs ≡ true → every (up_to_most most_period) ps ≡ true → every (up_to_most most_reserve) cs ≡ true → speeds_rise 0 ss ≡ false → start_number ps cs ss vs ≡ 5
  unfolding start_number first_of
  number_5 a b p r s = rw (a, b, p, r, s)

  pub number_6 : same_count most_tasks ps cs ≡ true → same_count most_speeds ss vs ≡ true → every (up_to_most most_period) ps ≡ true → every (up_to_most most_reserve) cs ≡ true → speeds_rise 0 ss ≡ true → volts_never_fall 0 vs ≡ false → start_number ps cs ss vs ≡ 6
  unfolding start_number first_of
  number_6 a b p r s v = rw (a, b, p, r, s, v)

  -- past 1 to 6: the two tests that are left
  past_form : Forms ps cs ss vs → start_number ps cs ss vs ≡ first_of ((ltb most_great (great_of ps), 7) ∷ (not (admitted ps cs ss), 8) ∷ [])
  unfolding start_number first_of
  past_form f =
      rw
      (f.tasks_match, f.speeds_match, f.periods_allowed, f.reserves_allowed, f.speeds_do_rise, f.volts_do_not_fall)

  pub number_7 : Forms ps cs ss vs → most_great < great_of ps → start_number ps cs ss vs ≡ 7
  unfolding first_of
  number_7 f g = past_form f ∙ rw (lt-ltb most_great (great_of ps) g)

  pub number_8 : Forms ps cs ss vs → great_of ps ≤ most_great → admitted ps cs ss ≡ false → start_number ps cs ss vs ≡ 8
  unfolding first_of
  number_8 f g a = past_form f ∙ rw (le-ltb most_great (great_of ps) g, a)

  pub number_0 : Passes ps cs ss vs → start_number ps cs ss vs ≡ 0
  unfolding first_of
  number_0 p = past_form p.forms ∙ rw (le-ltb most_great (great_of ps) p.great_small, p.admits)

  -- 0 is given exactly where all eight tests pass
  pub passes : start_number ps cs ss vs ≡ 0 → Passes ps cs ss vs
  unfolding start_number
  passes e₁ =
      let e₂ = rest_fails _ 1 _ (omega arith) e₁ in
      let e₃ = rest_fails _ 2 _ (omega arith) e₂ in
      let e₄ = rest_fails _ 3 _ (omega arith) e₃ in
      let e₅ = rest_fails _ 4 _ (omega arith) e₄ in
      let e₆ = rest_fails _ 5 _ (omega arith) e₅ in
      let e₇ = rest_fails _ 6 _ (omega arith) e₆ in
      let e₈ = rest_fails _ 7 _ (omega arith) e₇ in
      record {
        forms = record {
          tasks_match = not-false _ (first_fails _ 1 _ (omega arith) e₁);
          speeds_match = not-false _ (first_fails _ 2 _ (omega arith) e₂);
          periods_allowed = not-false _ (first_fails _ 3 _ (omega arith) e₃);
          reserves_allowed = not-false _ (first_fails _ 4 _ (omega arith) e₄);
          speeds_do_rise = not-false _ (first_fails _ 5 _ (omega arith) e₅);
          volts_do_not_fall = not-false _ (first_fails _ 6 _ (omega arith) e₆);
        };
        great_small = ltb-false most_great (great_of ps) (first_fails _ 7 _ (omega arith) e₇);
        admits = not-false _ (first_fails _ 8 _ (omega arith) e₈);
      }
