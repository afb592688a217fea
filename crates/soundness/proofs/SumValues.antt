-- What the sums over a table's tasks are: the sum of rule 7, the load of rule 2, and by the law of quotients whether H is right.
use mathlib.Core.Path.{◌≡◌, refl, sym, subst, ap, ◌∙◌}
use mathlib.Core.Bool.{true}
use Prim.Native.Nat.{ℕ, zero, suc, ◌+◌, ◌-◌, ◌*◌, ◌/◌, ◌≤◌, ◌<◌, ◌∣◌}
use native.Mathlib.Nat.{dvd_refl, dvd-zero, dvd_trans, zero-div, eq-zero_of_zero-dvd, eq-one_of_dvd-one, pos_of_ne-zero, not-suc-le-zero, mod-eq-sub-div-mul, mod-eq-zero_of_dvd, dvd_of_mod-eq-zero}
use native.Mathlib.Omega.{arith}
use lib.Dec.{eqb}
use lib.ListN.{length, get_or}
use borrow.Author.Count.{below_more}
use borrow.Author.Tests.{eqb-true, eq-eqb}
use Rattle.divisors.proofs.DivisorLaws.{gcd_is, all_each, all_pos}
use Rattle.divisors.proofs.Quotients.{quotients_least, quotients_one}
use Rattle.rules.specs.declared.Tasks.{Tasks}
use Rattle.rules.specs.declared.Jobs.{Jobs}
use Rattle.rules.specs.Words.{up_to, total}
use Rattle.rules.specs.State.{job_at, jobs_of, period_at, reserve_at, periods_of, reserves_of}
use Rattle.rules.specs.Load.{use_of, load}
use Rattle.rules.specs.Admission.{great_of, full_load}
use Rattle.rules.proofs.Lists.{both_left, both_right, length-up_to, get_d_up_to}
use Rattle.soundness.specs.Parts.{no_sums, with_job, sums_to, great_test}

-- one place more
total_more : {A : Type 0} (g : A → ℕ) (n : ℕ) (f : ℕ → A) → total g (up_to (suc n) f) ≡ total g (up_to n f) + g (f n)
unfolding total up_to
total_more g zero f = omega arith
total_more g (suc n) f = omega (arith, total_more g n (λ i. f (suc i)))

full_more : (great n : ℕ) (p r : ℕ → ℕ) → full_load great (up_to (suc n) p) (up_to (suc n) r) ≡ full_load great (up_to n p) (up_to n r) + r n * (great / p n)
unfolding full_load up_to
full_more great zero p r = omega arith
full_more great (suc n) p r = omega (arith, full_more great n (λ i. p (suc i)) (λ i. r (suc i)))

module _ (ts : Tasks) (js : Jobs) where
  abbrev h : ℕ
  h = ts.great.0

  -- rules 7 and 2
  full_to : (n : ℕ) → (sums_to ts js n).full.0 ≡ full_load h (up_to n (period_at ts)) (up_to n (reserve_at ts))
  unfolding sums_to no_sums with_job full_load up_to period_at reserve_at job_at
  full_to zero = refl
  full_to (suc n) =
      ap (λ (x : ℕ). x + reserve_at ts n * (h / period_at ts n)) (full_to n)
      ∙ sym (full_more h n (period_at ts) (reserve_at ts))

  load_to : (n : ℕ) → (sums_to ts js n).load.0 ≡ load h (up_to n (job_at ts js))
  unfolding sums_to no_sums with_job load total up_to
  load_to zero = refl
  load_to (suc n) =
      ap (λ (x : ℕ). x + use_of (job_at ts js n) * (h / (job_at ts js n).period.0)) (load_to n)
      ∙ sym (total_more (λ j. use_of j * (h / j.period.0)) n (job_at ts js))

  -- what is left of H by the first periods is nothing exactly when each divides it
  rest_zero_lem : (n : ℕ) → ((k : ℕ) → k < n → period_at ts k ∣ h) → (sums_to ts js n).rest.0 ≡ 0
  unfolding sums_to no_sums with_job period_at job_at
  rest_zero_lem zero all = refl
  rest_zero_lem (suc n) all =
      let before = rest_zero_lem n (λ k l. all k (omega arith)) in
      let here : h - h / period_at ts n * period_at ts n ≡ 0 = sym (mod-eq-sub-div-mul h (period_at ts n)) ∙ mod-eq-zero_of_dvd (period_at ts n) (all n (omega arith)) in
      omega (arith, before, here)

  rest_each : (n : ℕ) → (sums_to ts js n).rest.0 ≡ 0 → (k : ℕ) → k < n → period_at ts k ∣ h
  unfolding sums_to no_sums with_job period_at job_at
  rest_each zero e k l = absurd (not-suc-le-zero l)
  rest_each (suc n) e k l =
      let before : (sums_to ts js n).rest.0 ≡ 0 = omega (arith, e) in
      let here : h - h / period_at ts n * period_at ts n ≡ 0 = omega (arith, e) in
      let divides : period_at ts n ∣ h = dvd_of_mod-eq-zero (period_at ts n) (mod-eq-sub-div-mul h (period_at ts n) ∙ here) in
      below_more (λ (m : ℕ). period_at ts m ∣ h) n (rest_each n before) divides k (omega arith)

  -- the common divisor divides each quotient, and whatever divides all of them divides it
  common_each : (n k : ℕ) → k < n → (sums_to ts js n).common ∣ h / period_at ts k
  unfolding sums_to no_sums with_job period_at job_at
  common_each zero k l = absurd (not-suc-le-zero l)
  common_each (suc n) k l =
      let g = gcd_is (sums_to ts js n).common (h / period_at ts n) in
      below_more (λ (m : ℕ). (sums_to ts js (suc n)).common ∣ h / period_at ts m) n
      (λ m b. dvd_trans _ g.left (common_each n m b))
      g.right
      k
      (omega arith)

  common_most : (n g : ℕ) → ((k : ℕ) → k < n → g ∣ h / period_at ts k) → g ∣ (sums_to ts js n).common
  unfolding sums_to no_sums with_job period_at job_at
  common_most zero g all = dvd-zero g
  common_most (suc n) g all =
      (gcd_is (sums_to ts js n).common (h / period_at ts n)).most g
      (common_most n g (λ k l. all k (omega arith)))
      (all n (omega arith))

  -- the sums of all tasks
  pub full_is : (sums_to ts js ts.count).full.0 ≡ full_load h (periods_of ts) (reserves_of ts)
  unfolding periods_of reserves_of
  full_is = full_to ts.count

  pub load_is : (sums_to ts js ts.count).load.0 ≡ load h (jobs_of ts js)
  unfolding jobs_of
  load_is = load_to ts.count

  -- a place of the list of periods
  period_at_lem : (k : ℕ) → k < length (periods_of ts) → k < ts.count
  unfolding periods_of
  period_at_lem k l = rw (length-up_to ts.count (period_at ts)) at l

  period_is : (k : ℕ) → k < ts.count → get_or (periods_of ts) k 0 ≡ period_at ts k
  unfolding periods_of
  period_is k l = get_d_up_to ts.count (period_at ts) k 0 l

  count_at_lem : (k : ℕ) → k < ts.count → k < length (periods_of ts)
  unfolding periods_of
  count_at_lem k l = rw (length-up_to ts.count (period_at ts)) l

  -- H that passes the test is right
  module _ (e : great_test (sums_to ts js ts.count) ≡ true) where
    no_rest : (sums_to ts js ts.count).rest.0 ≡ 0
    unfolding great_test
    no_rest = eqb-true _ 0 (both_left (eqb (sums_to ts js ts.count).rest.0 0) (eqb (sums_to ts js ts.count).common 1) e)

    one_common : (sums_to ts js ts.count).common ≡ 1
    unfolding great_test
    one_common = eqb-true _ 1 (both_right (eqb (sums_to ts js ts.count).rest.0 0) (eqb (sums_to ts js ts.count).common 1) e)

    only_one : (g : ℕ) → ((k : ℕ) → k < ts.count → g ∣ h / period_at ts k) → g ∣ 1
    only_one g all = rw one_common at (common_most ts.count g all)

    -- 0 divides every quotient of 0, and does not divide 1
    great_pos : 0 < h
    great_pos = pos_of_ne-zero zero_not
      where
        zero_not : h ≡ 0 → ⊥
        zero_not z =
            let none : (k : ℕ) → k < ts.count → 0 ∣ h / period_at ts k =
            λ k l. subst (λ (x : ℕ). 0 ∣ x) (sym (ap (λ (x : ℕ). x / period_at ts k) z ∙ zero-div (period_at ts k))) (dvd_refl 0) in
            let d : 0 ∣ 1 = only_one 0 none in
            let bad : ◌≡◌ {A = ℕ} 1 0 = eq-zero_of_zero-dvd d in
            omega (arith, bad)

    pub great_found : h ≡ great_of (periods_of ts)
    unfolding great_of
    great_found =
        quotients_least (periods_of ts) h great_pos
        (λ k l. rw (period_is k (period_at_lem k l)) (rest_each ts.count no_rest k (period_at_lem k l)))
        (λ g all. eq-one_of_dvd-one (only_one g (λ k l. rw (period_is k l) at (all k (count_at_lem k l)))))

  -- and H that is right passes it
  module _ (some : 1 ≤ ts.count) (pos : (k : ℕ) → k < ts.count → 1 ≤ period_at ts k) (e : h ≡ great_of (periods_of ts)) where
    right_pos : 0 < h
    unfolding great_of
    right_pos = rw e (all_pos (periods_of ts) (λ k l. rw (period_is k (period_at_lem k l)) (pos k (period_at_lem k l))))

    right_each : (k : ℕ) → k < ts.count → period_at ts k ∣ h
    unfolding great_of
    right_each k l =
        subst (λ (x : ℕ). x ∣ h) (period_is k l)
        (subst (λ (x : ℕ). get_or (periods_of ts) k 0 ∣ x) (sym e) (all_each (periods_of ts) k (count_at_lem k l)))

    right_one : (sums_to ts js ts.count).common ≡ 1
    unfolding great_of
    right_one =
        quotients_one (periods_of ts) h right_pos (count_at_lem 0 some) e (sums_to ts js ts.count).common
        (λ k l. rw (period_is k (period_at_lem k l)) (common_each ts.count k (period_at_lem k l)))

    pub great_passes : great_test (sums_to ts js ts.count) ≡ true
    unfolding great_test
    great_passes = rw (eq-eqb _ 0 (rest_zero_lem ts.count right_each), eq-eqb _ 1 right_one)
