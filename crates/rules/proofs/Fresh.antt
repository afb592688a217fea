-- An accepted start is sound: the arrays hold the lists given and nothing past them, no job has run and nothing is counted. The all-zero state is not sound.
use mathlib.Core.Path.{◌≡◌, refl, sym, ap, ◌∙◌}
use mathlib.Core.Bool.{Bool, true, false}
use mathlib.Core.List.{List}
use Prim.Native.Nat.{ℕ, ◌*◌, ◌≤◌, ◌<◌}
use native.Mathlib.Nat.{le_trans, not-suc-le-zero}
use native.Mathlib.Omega.{arith}
use lib.ListN.{length, get_or, get_or-eq_default}
use Rattle.units.specs.Units.{ticks, cycles, speed, volts}
use Rattle.units.specs.declared.Ticks.{Ticks}
use Rattle.units.specs.declared.Cycles.{Cycles}
use Rattle.units.specs.declared.Speed.{Speed}
use Rattle.units.specs.declared.Volts.{Volts}
use Rattle.rules.specs.declared.Job.{Job}
use Rattle.rules.specs.declared.State.{State}
use Rattle.rules.specs.Words.{up_to, total}
use Rattle.rules.specs.Limits.{most_tasks, most_period, most_reserve, most_speeds, up_to_most}
use Rattle.rules.specs.State.{Shaped, job_at, period_at, reserve_at, speed_at, volts_at, count_at, periods_of, reserves_of, speeds_of, volts_of, top_of}
use Rattle.rules.specs.Admission.{great_of, full_load}
use Rattle.rules.specs.Numbers.{start_number, unused_job, unused_speed, run_right, sound}
use Rattle.rules.specs.Calls.{tasks_from, ladder_from, fresh_jobs, fresh_tally, fresh_state, zero_state, start_of}
use Rattle.rules.proofs.Lists.{length-up_to, get_d_up_to, up_to-ext, up_to_get_d, every_at}
use Rattle.rules.proofs.Ranges.{range_from, range_to}
use Rattle.rules.proofs.Places.{running_right, job_unused, speed_unused}
use Rattle.rules.proofs.Tables.{Passes, passes, match_some, match_most, match_same}
use Rattle.rules.proofs.Soundness.{Sound, admitted_fits, sound_facts, facts_sound}

-- past the end of a list there is 0
pub past_end_lem : (l : List ℕ) (i : ℕ) → length l ≤ i → get_or l i 0 ≡ 0
past_end_lem l i h = get_or-eq_default l 0 h

-- the task at a place of the lists, with a job that has not run
unfoldable pub unrun : List ℕ → List ℕ → ℕ → Job
unrun ps cs i = record { period = ticks (get_or ps i 0); reserve = cycles (get_or cs i 0); run = cycles 0; over = false }

-- no job has run or is over, and nothing is counted at any speed
pub run_fresh : (i : ℕ) → i < most_tasks → get_or fresh_jobs.run i (cycles 0) ≡ cycles 0
unfolding fresh_jobs
run_fresh i h = get_d_up_to most_tasks (λ k. cycles 0) i (cycles 0) h

pub over_fresh : (i : ℕ) → i < most_tasks → get_or fresh_jobs.over i false ≡ false
unfolding fresh_jobs
over_fresh i h = get_d_up_to most_tasks (λ k. false) i false h

pub count_fresh : (i : ℕ) → i < most_speeds → count_at fresh_tally i ≡ 0
unfolding count_at fresh_tally
count_fresh i h = ap (λ (x : Cycles). x.0) (get_d_up_to most_speeds (λ k. cycles 0) i (cycles 0) h)

-- what stands at a place of the arrays is what stands there in the lists
module _ (g : ℕ) (ps cs : List ℕ) where
  pub period_laid : (i : ℕ) → i < most_tasks → period_at (tasks_from g ps cs) i ≡ get_or ps i 0
  unfolding period_at tasks_from
  period_laid i h = ap (λ (x : Ticks). x.0) (get_d_up_to most_tasks (λ k. ticks (get_or ps k 0)) i (ticks 0) h)

  pub reserve_laid : (i : ℕ) → i < most_tasks → reserve_at (tasks_from g ps cs) i ≡ get_or cs i 0
  unfolding reserve_at tasks_from
  reserve_laid i h = ap (λ (x : Cycles). x.0) (get_d_up_to most_tasks (λ k. cycles (get_or cs k 0)) i (cycles 0) h)

  -- and the job there has not run
  pub job_laid : (i : ℕ) → i < most_tasks → job_at (tasks_from g ps cs) fresh_jobs i ≡ unrun ps cs i
  unfolding job_at tasks_from unrun
  job_laid i h =
      rw
      (get_d_up_to most_tasks (λ k. ticks (get_or ps k 0)) i (ticks 0) h, get_d_up_to most_tasks (λ k. cycles (get_or cs k 0)) i (cycles 0) h, run_fresh i h, over_fresh i h)

  pub periods_laid : length ps ≤ most_tasks → periods_of (tasks_from g ps cs) ≡ ps
  unfolding periods_of tasks_from
  periods_laid m =
      up_to-ext (length ps) (period_at (tasks_from g ps cs)) (λ i. get_or ps i 0) (λ i h. period_laid i (le_trans h m))
      ∙ up_to_get_d ps (length ps) 0 refl

  pub reserves_laid : length ps ≤ most_tasks → length cs ≡ length ps → reserves_of (tasks_from g ps cs) ≡ cs
  unfolding reserves_of tasks_from
  reserves_laid m e =
      up_to-ext (length ps) (reserve_at (tasks_from g ps cs)) (λ i. get_or cs i 0) (λ i h. reserve_laid i (le_trans h m))
      ∙ up_to_get_d cs (length ps) 0 e

module _ (ss vs : List ℕ) where
  pub speed_laid : (i : ℕ) → i < most_speeds → speed_at (ladder_from ss vs) i ≡ get_or ss i 0
  unfolding speed_at ladder_from
  speed_laid i h = ap (λ (x : Speed). x.0) (get_d_up_to most_speeds (λ k. speed (get_or ss k 0)) i (speed 0) h)

  pub volts_laid : (i : ℕ) → i < most_speeds → volts_at (ladder_from ss vs) i ≡ get_or vs i 0
  unfolding volts_at ladder_from
  volts_laid i h = ap (λ (x : Volts). x.0) (get_d_up_to most_speeds (λ k. volts (get_or vs k 0)) i (volts 0) h)

  pub ladder_speeds : length ss ≤ most_speeds → speeds_of (ladder_from ss vs) ≡ ss
  unfolding speeds_of ladder_from
  ladder_speeds m =
      up_to-ext (length ss) (speed_at (ladder_from ss vs)) (λ i. get_or ss i 0) (λ i h. speed_laid i (le_trans h m))
      ∙ up_to_get_d ss (length ss) 0 refl

  pub ladder_volts_lem : length ss ≤ most_speeds → length vs ≡ length ss → volts_of (ladder_from ss vs) ≡ vs
  unfolding volts_of ladder_from
  ladder_volts_lem m e =
      up_to-ext (length ss) (volts_at (ladder_from ss vs)) (λ i. get_or vs i 0) (λ i h. volts_laid i (le_trans h m))
      ∙ up_to_get_d vs (length ss) 0 e

-- the fresh state of lists that pass 1 to 8
module _ (ps cs ss vs : List ℕ) (p : Passes ps cs ss vs) where
  first : State
  first = fresh_state (tasks_from (great_of ps) ps cs) (ladder_from ss vs)

  tasks_few : length ps ≤ most_tasks
  tasks_few = match_most most_tasks ps cs p.forms.tasks_match

  paired : length cs ≡ length ps
  paired = match_same most_tasks ps cs p.forms.tasks_match

  speeds_few : length ss ≤ most_speeds
  speeds_few = match_most most_speeds ss vs p.forms.speeds_match

  matched : length vs ≡ length ss
  matched = match_same most_speeds ss vs p.forms.speeds_match

  period_in : (i : ℕ) → i < length ps → up_to_most most_period (get_or ps i 0) ≡ true
  period_in i h = every_at (up_to_most most_period) ps 0 i p.forms.periods_allowed h

  reserve_in : (i : ℕ) → i < length ps → up_to_most most_reserve (get_or cs i 0) ≡ true
  reserve_in i h = every_at (up_to_most most_reserve) cs 0 i p.forms.reserves_allowed (rw paired h)

  right_at : (i : ℕ) → i < length ps → run_right (job_at (tasks_from (great_of ps) ps cs) fresh_jobs i) ≡ true
  unfolding unrun
  right_at i h =
      rw (job_laid (great_of ps) ps cs i (le_trans h tasks_few))
      (running_right (unrun ps cs i) refl (range_from most_reserve (get_or cs i 0) (reserve_in i h)))

  unused_at : (i : ℕ) → length ps ≤ i → i < most_tasks → unused_job (job_at (tasks_from (great_of ps) ps cs) fresh_jobs i) ≡ true
  unfolding unrun
  unused_at i a h =
      rw (job_laid (great_of ps) ps cs i h)
      (job_unused (unrun ps cs i) (past_end_lem ps i a) (past_end_lem cs i (rw paired a)) refl refl)

  rung_at : (i : ℕ) → length ss ≤ i → i < most_speeds → unused_speed first i ≡ true
  unfolding first fresh_state
  rung_at i a h =
      speed_unused first i (speed_laid ss vs i h ∙ past_end_lem ss i a)
      (volts_laid ss vs i h ∙ past_end_lem vs i (rw matched a))
      (count_fresh i h)

  same_periods : periods_of (tasks_from (great_of ps) ps cs) ≡ ps
  same_periods = periods_laid (great_of ps) ps cs tasks_few

  same_reserves : reserves_of (tasks_from (great_of ps) ps cs) ≡ cs
  same_reserves = reserves_laid (great_of ps) ps cs tasks_few paired

  same_speeds : speeds_of (ladder_from ss vs) ≡ ss
  same_speeds = ladder_speeds ss vs speeds_few

  load_fits : full_load (great_of ps) (periods_of (tasks_from (great_of ps) ps cs)) (reserves_of (tasks_from (great_of ps) ps cs)) ≤ top_of (speeds_of (ladder_from ss vs)) * great_of ps
  load_fits = rw (same_periods, same_reserves, same_speeds) (admitted_fits ps cs ss (great_of ps) refl p.admits)

  pub fresh_facts : Sound (fresh_state (tasks_from (great_of ps) ps cs) (ladder_from ss vs))
  unfolding first fresh_state tasks_from ladder_from fresh_tally up_to total
  fresh_facts =
      record {
        tasks_some = match_some most_tasks ps cs p.forms.tasks_match;
        tasks_most = tasks_few;
        speeds_some = match_some most_speeds ss vs p.forms.speeds_match;
        speeds_most = speeds_few;
        period_some = λ i h. rw (period_laid (great_of ps) ps cs i (le_trans h tasks_few)) (range_from most_period (get_or ps i 0) (period_in i h));
        period_most = λ i h. rw (period_laid (great_of ps) ps cs i (le_trans h tasks_few)) (range_to most_period (get_or ps i 0) (period_in i h));
        reserve_some = λ i h. rw (reserve_laid (great_of ps) ps cs i (le_trans h tasks_few)) (range_from most_reserve (get_or cs i 0) (reserve_in i h));
        reserve_most = λ i h. rw (reserve_laid (great_of ps) ps cs i (le_trans h tasks_few)) (range_to most_reserve (get_or cs i 0) (reserve_in i h));
        speeds_do_rise = rw same_speeds p.forms.speeds_do_rise;
        volts_do_not_fall = rw (ladder_volts_lem ss vs speeds_few matched) p.forms.volts_do_not_fall;
        great_is = ap great_of (sym same_periods);
        great_most = p.great_small;
        admits = load_fits;
        run_right_lem = right_at;
        unused_job_lem = unused_at;
        unused_speed_lem = rung_at;
        done_most = omega arith;
        cycles_most = omega arith;
        late_most = omega arith;
        cut_most = omega arith;
      }

-- the arrays of a fresh state have all their places
pub fresh_shaped : (great : ℕ) (ps cs ss vs : List ℕ) → Shaped (fresh_state (tasks_from great ps cs) (ladder_from ss vs))
unfolding fresh_state tasks_from ladder_from fresh_jobs fresh_tally
fresh_shaped great ps cs ss vs =
    record {
      periods = length-up_to most_tasks _;
      reserves = length-up_to most_tasks _;
      runs = length-up_to most_tasks _;
      marks = length-up_to most_tasks _;
      speeds = length-up_to most_speeds _;
      volts = length-up_to most_speeds _;
      counts = length-up_to most_speeds _;
    }

-- an accepted start is sound
pub start_sound : (ps cs ss vs : List ℕ) → start_number ps cs ss vs ≡ 0 → sound (start_of ps cs ss vs).state ≡ true
unfolding start_of
start_sound ps cs ss vs e = rw e (facts_sound _ (fresh_facts ps cs ss vs (passes ps cs ss vs e)))

-- a refused start's state, all zero, is not: it has no task
pub zero_unsound : sound zero_state ≡ false
unfolding zero_state fresh_state tasks_from
zero_unsound = go (sound zero_state) refl
  where
    go : (b : Bool) → sound zero_state ≡ b → sound zero_state ≡ false
    go true e = absurd (not-suc-le-zero (sound_facts zero_state e).tasks_some)
    go false e = e
