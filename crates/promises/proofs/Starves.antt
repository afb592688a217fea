-- A table turned away for load starves a job: what the jobs of the first H ticks ask is more than top speed gives, so some task, and of it some job, gets less.
use mathlib.Core.Path.{◌≡◌, refl, sym, ap, ◌∙◌}
use mathlib.Core.Bool.{Bool, true, false}
use mathlib.Core.List.{List, [], ◌∷◌}
use Prim.Native.Nat.{ℕ, suc, ◌+◌, ◌*◌, ◌/◌, ◌≤◌, ◌<◌, ◌∣◌}
use native.Mathlib.Nat.{ne_of_lt, zero-lt-suc, suc_inj, div-mul_cancel, mul-lt-mul_of_pos_right}
use native.Mathlib.Omega.{arith}
use lib.ListN.{length, get_or}
use borrow.Author.Tests.{leb-false, not-true, not-false}
use Rattle.divisors.proofs.DivisorLaws.{all_each}
use Rattle.rules.specs.Words.{up_to, total, every, first_of}
use Rattle.rules.specs.Limits.{most_tasks, most_period, up_to_most}
use Rattle.rules.specs.State.{top_of}
use Rattle.rules.specs.Admission.{great_of, full_load, admitted}
use Rattle.rules.specs.Numbers.{start_number}
use Rattle.rules.specs.Calls.{start_of}
use Rattle.rules.proofs.Lists.{every_at}
use Rattle.rules.proofs.Ranges.{range_from}
use Rattle.rules.proofs.Tables.{match_same, row_failed, rows_after}
use Rattle.rules.proofs.Totals.{total_places, total_most}
use Rattle.promises.specs.Runs.{started, sum_to}
use Rattle.promises.specs.TurnedAway.{HandOut, WithinTopSpeed, gets, TurnedAwayForLoad}
use Rattle.ontime.proofs.Sums.{sum_const, sum_below, sum_swap, sum_windows}

-- the last row holds where its number, not 0, is the answer
last_holds : (b : Bool) (answer : ℕ) → 0 < answer → first_of ((b, answer) ∷ []) ≡ answer → b ≡ true
unfolding first_of
last_holds true answer l e = refl
last_holds false answer l e = absurd (ne_of_lt l e)

-- what 8 says of a table: as many reserves as periods, no period of 0, and rule 7's sum above top speed x H
pub record Overloaded (ps cs ss : List ℕ) : Type 0 where
  pub as_many : length cs ≡ length ps
  pub period_some : (i : ℕ) → i < length ps → 0 < get_or ps i 0
  pub too_much : top_of ss * great_of ps < full_load (great_of ps) ps cs

pub overloaded : (ps cs ss vs : List ℕ) → start_number ps cs ss vs ≡ 8 → Overloaded ps cs ss
unfolding start_number admitted
overloaded ps cs ss vs e₁ =
    let e₂ = rows_after _ 1 8 _ (ne_of_lt (omega arith)) e₁ in
    let e₃ = rows_after _ 2 8 _ (ne_of_lt (omega arith)) e₂ in
    let e₄ = rows_after _ 3 8 _ (ne_of_lt (omega arith)) e₃ in
    let e₅ = rows_after _ 4 8 _ (ne_of_lt (omega arith)) e₄ in
    let e₆ = rows_after _ 5 8 _ (ne_of_lt (omega arith)) e₅ in
    let e₇ = rows_after _ 6 8 _ (ne_of_lt (omega arith)) e₆ in
    let e₈ = rows_after _ 7 8 _ (ne_of_lt (omega arith)) e₇ in
    let allowed : every (up_to_most most_period) ps ≡ true = not-false _ (row_failed _ 3 8 _ (ne_of_lt (omega arith)) e₃) in
    record {
      as_many = match_same most_tasks ps cs (not-false _ (row_failed _ 1 8 _ (ne_of_lt (omega arith)) e₁));
      period_some = λ i l. range_from most_period (get_or ps i 0) (every_at (up_to_most most_period) ps 0 i allowed l);
      too_much = leb-false _ _ (not-true _ (last_holds _ 8 (omega arith) e₈));
    }

-- rule 7's sum, place by place
full_places : (h : ℕ) (ps cs : List ℕ) → length cs ≡ length ps → full_load h ps cs ≡ sum_to (length ps) (λ i. get_or cs i 0 * (h / get_or ps i 0))
unfolding full_load total up_to
full_places h [] [] e = refl
full_places h [] (c ∷ cs) e = refl
full_places h (p ∷ ps) [] e = absurd (ne_of_lt (zero-lt-suc (length ps)) e)
full_places h (p ∷ ps) (c ∷ cs) e =
    let rest : full_load h ps cs ≡ sum_to (length ps) (λ i. get_or cs i 0 * (h / get_or ps i 0)) = full_places h ps cs (suc_inj e) in
    ap (λ x. c * (h / p) + x) (rest ∙ sym (total_places (λ i. get_or (c ∷ cs) i 0 * (h / get_or (p ∷ ps) i 0)) suc (length ps)))

-- a task that gets less in h ticks than c in each of their h / p windows gets less than c in one of them
short_job : (f : ℕ → ℕ) (h p c : ℕ) → p ∣ h → 0 < p → sum_to h f < c * (h / p) → (m : ℕ) × (m * p < h) × (sum_to p (λ k. f (m * p + k)) < c)
short_job f h p c d pos l =
    let window : ℕ → ℕ = λ m. sum_to p (λ k. f (m * p + k)) in
    let all : sum_to h f ≡ sum_to (h / p) window = rw (div-mul_cancel p d) at (sum_windows f p (h / p)) in
    let w : (m : ℕ) × (m < h / p) × (window m < c) = sum_below window (λ m. c) (h / p) (omega (arith, all, sum_const c (h / p))) in
    (w.0, rw (div-mul_cancel p d) at (mul-lt-mul_of_pos_right w.1 pos), w.2)

module _ (ps cs ss : List ℕ) (o : Overloaded ps cs ss) (out : HandOut) (fit : (t : ℕ) → sum_to (length ps) (out t) ≤ top_of ss) where
  -- all tasks together get at most top speed x H in the first H ticks
  handed_most : sum_to (length ps) (λ i. sum_to (great_of ps) (λ t. out t i)) ≤ top_of ss * great_of ps
  handed_most =
      omega (
        arith,
        sum_swap (λ i t. out t i) (length ps) (great_of ps),
        total_most (λ t. sum_to (length ps) (out t)) (top_of ss) (great_of ps) (λ t. t) (λ t l. fit t),
      )

  -- so some task gets less than its jobs in those ticks ask for
  short_task : (i : ℕ) × (i < length ps) × (sum_to (great_of ps) (λ t. out t i) < get_or cs i 0 * (great_of ps / get_or ps i 0))
  short_task =
      sum_below (λ i. sum_to (great_of ps) (λ t. out t i)) (λ i. get_or cs i 0 * (great_of ps / get_or ps i 0)) (length ps)
      (omega (arith, handed_most, o.too_much, full_places (great_of ps) ps cs o.as_many))

-- where start answers 8: the job of that task that gets less than its reserve
pub some_job_starves : TurnedAwayForLoad
unfolding TurnedAwayForLoad WithinTopSpeed gets started start_of great_of
some_job_starves table e out fit =
    let ps : List ℕ = table.periods in
    let cs : List ℕ = table.reserves in
    let o = overloaded ps cs table.speeds table.volts e in
    let (i, l, less) = short_task ps cs table.speeds o out fit in
    let (m, early, short) = short_job (λ t. out t i) (great_of ps) (get_or ps i 0) (get_or cs i 0) (all_each ps i l) (o.period_some i l) less in
    record { task = i; job = m; is_task = l; released_early = early; gets_less = short }
