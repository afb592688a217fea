-- The tests of Figures 1 and 4 are the same at every common multiple: it is H some times over, so both sides are taken so many times, and that cancels.
use mathlib.Core.Path.{◌≡◌, refl, sym, ap, ◌∙◌}
use mathlib.Core.List.{List, [], ◌∷◌}
use mathlib.Core.Logic.{◌↔◌}
use Prim.Native.Nat.{ℕ, zero, suc, suc-le-suc, ◌*◌, ◌/◌, ◌≤◌, ◌<◌, ◌∣◌}
use native.Mathlib.Nat.{mul-zero, mul-add, mul_left_comm, mul-le-mul_left, le_of_mul-le-mul_left, mul-div_assoc, div-mul_cancel, dvd-mul_right, pos_of_dvd_of_pos, zero-lt-suc}
use lib.ListN.{length, get_or}
use native.Mathlib.Decide.{dec_lt}
use native.Mathlib.Omega.{arith}
use Rattle.divisors.proofs.DivisorLaws.{all_is, all_each}
use Rattle.rules.specs.declared.Job.{Job}
use Rattle.rules.specs.declared.State.{State}
use Rattle.rules.specs.Words.{up_to, total}
use Rattle.rules.specs.State.{job_at, jobs_of, period_at, periods_of, top_of}
use Rattle.rules.specs.Load.{use_of, load}
use Rattle.rules.specs.Choice.{load_of}
use Rattle.rules.specs.Admission.{great_of, full_load}
use Rattle.rules.specs.Calls.{start_of}
use Rattle.rules.proofs.Soundness.{Sound, sound_facts, admitted_fits}
use Rattle.rules.proofs.GreatLaws.{divides_great}
use Rattle.promises.specs.PaperTest.{CommonMultiple, Figure1, StartTestsFigure1, Figure4}
use Rattle.promises.specs.Runs.{started}
use Rattle.promises.proofs.StartLaws.{passed}
use Rattle.promises.proofs.Starves.{overloaded}

-- one term of a sum: q times H over a period that divides H
term_times : (q h p c : ℕ) → p ∣ h → c * (q * h / p) ≡ q * (c * (h / p))
term_times q h p c d = ap (λ x. c * x) (mul-div_assoc p q d) ∙ mul_left_comm c q (h / p)

-- rule 7's sum at q times H is q times the one at H
full_times : (q h : ℕ) (ps cs : List ℕ) → ((k : ℕ) → k < length ps → get_or ps k 0 ∣ h) → full_load (q * h) ps cs ≡ q * full_load h ps cs
unfolding full_load
full_times q h [] [] each = sym (mul-zero q)
full_times q h [] (c ∷ cs) each = sym (mul-zero q)
full_times q h (p ∷ ps) [] each = sym (mul-zero q)
full_times q h (p ∷ ps) (c ∷ cs) each =
    let first : c * (q * h / p) ≡ q * (c * (h / p)) = term_times q h p c (each 0 (zero-lt-suc (length ps))) in
    let rest : full_load (q * h) ps cs ≡ q * full_load h ps cs = full_times q h ps cs (λ k l. each (suc k) (suc-le-suc l)) in
    rw (first, rest) (sym (mul-add q (c * (h / p)) (full_load h ps cs)))

-- and so is the load
load_times : (q h n : ℕ) (job : ℕ → Job) → ((i : ℕ) → i < n → (job i).period.0 ∣ h) → load (q * h) (up_to n job) ≡ q * load h (up_to n job)
unfolding load total up_to
load_times q h zero job each = sym (mul-zero q)
load_times q h (suc n) job each =
    let p : ℕ = (job 0).period.0 in
    let u : ℕ = use_of (job 0) in
    let js : List Job = up_to n (λ i. job (suc i)) in
    let first : u * (q * h / p) ≡ q * (u * (h / p)) = term_times q h p u (each 0 (zero-lt-suc n)) in
    let rest : load (q * h) js ≡ q * load h js = load_times q h n (λ i. job (suc i)) (λ i l. each (suc i) (suc-le-suc l)) in
    rw (first, rest) (sym (mul-add q (u * (h / p)) (load h js)))

-- a test with both sides taken q times
test_times : (q h s m sum sum-m : ℕ) → 0 < q → m ≡ q * h → sum-m ≡ q * sum → (sum-m ≤ s * m) ↔ (sum ≤ s * h)
test_times q h s m sum sum-m pos a b =
    rw (a, b, mul_left_comm s q h) (λ (l : q * sum ≤ q * (s * h)). le_of_mul-le-mul_left l pos, λ (l : sum ≤ s * h). mul-le-mul_left q l)

-- a common multiple is H some times over
module _ (ps : List ℕ) (multiple : ℕ) (c : CommonMultiple multiple ps) where
  great_divides : great_of ps ∣ multiple
  unfolding great_of
  great_divides =
      (all_is ps).least multiple c.of_each

  times : ℕ
  times = multiple / great_of ps

  times_great : multiple ≡ times * great_of ps
  unfolding times
  times_great = sym (div-mul_cancel (great_of ps) great_divides)

  times_some : 0 < times
  times_some = pos_of_dvd_of_pos (dvd-mul_right times (great_of ps)) (rw (← times_great) c.some)

-- rule 7's test
pub figure_1 : Figure1
unfolding Figure1 great_of
figure_1 ps cs multiple c s =
    let q : ℕ = times ps multiple c in
    let h : ℕ = great_of ps in
    let e : multiple ≡ q * h = times_great ps multiple c in
    test_times q h s multiple (full_load h ps cs) (full_load multiple ps cs) (times_some ps multiple c) e
    (ap (λ m. full_load m ps cs) e ∙ full_times q h ps cs (all_each ps))

-- so a table that start accepts passes the test, and one that it turns away for load fails it
pub start_tests : StartTestsFigure1
unfolding StartTestsFigure1 Figure1 started start_of
start_tests table multiple c = (fits, fails)
  where
    ps : List ℕ
    ps = table.periods

    cs : List ℕ
    cs = table.reserves

    top : ℕ
    top = top_of table.speeds

    same : (full_load multiple ps cs ≤ top * multiple) ↔ (full_load (great_of ps) ps cs ≤ top * great_of ps)
    same = figure_1 ps cs multiple c top

    fits : (started table).number ≡ 0 → full_load multiple ps cs ≤ top * multiple
    fits e = same.1 (admitted_fits ps cs table.speeds (great_of ps) refl (passed table e).admits)

    fails : (started table).number ≡ 8 → top * multiple < full_load multiple ps cs
    fails e = go (dec_lt (top * multiple) (full_load multiple ps cs))
      where
        go : Dec (top * multiple < full_load multiple ps cs) → top * multiple < full_load multiple ps cs
        go (yes l) = l
        go (no l) = absurd (omega (arith, (overloaded ps cs table.speeds table.volts e).too_much, same.0 (omega arith)))

-- each job's period divides H
job_divides : (state : State) → Sound state → (i : ℕ) → i < state.tasks.count → (job_at state.tasks state.jobs i).period.0 ∣ state.tasks.great.0
unfolding period_at job_at
job_divides state f i l = divides_great state f.great_is i l

-- the load's test: H of a sound state is the great period of its table
pub figure_4 : Figure4
unfolding Figure4 load_of jobs_of
figure_4 state is_sound multiple c s =
    let ps : List ℕ = periods_of state.tasks in
    let js : List Job = jobs_of state.tasks state.jobs in
    let q : ℕ = times ps multiple c in
    let h : ℕ = state.tasks.great.0 in
    let f : Sound state = sound_facts state is_sound in
    let e : multiple ≡ q * h = times_great ps multiple c ∙ ap (λ x. q * x) (sym f.great_is) in
    test_times q h s multiple (load h js) (load multiple js) (times_some ps multiple c) e
    (ap (λ m. load m js) e ∙ load_times q h state.tasks.count (job_at state.tasks state.jobs) (job_divides state f))
