-- Rule 5's releases, place by place: a task whose period divides t has a fresh job, any other task the job it had. By induction on the tasks.
use mathlib.Core.Path.{◌≡◌, refl, sym, ap, ap₂, ◌∙◌}
use mathlib.Core.Bool.{Bool, true, false, cond}
use Prim.Native.Nat.{ℕ, zero, suc, ◌+◌, ◌%◌, ◌≤◌, ◌<◌}
use native.Mathlib.Nat.{not-suc-le-zero, add-zero}
use native.Mathlib.Decide.{ℕ_discrete}
use native.Mathlib.Omega.{arith}
use lib.Dec.{eqb}
use lib.ListN.{length}
use Rattle.rules.specs.declared.Tasks.{Tasks}
use Rattle.rules.specs.declared.Job.{Job}
use Rattle.rules.specs.declared.Releasing.{Releasing}
use Rattle.rules.specs.Words.{up_to, total}
use Rattle.rules.specs.State.{period_at, job_at, put_at}
use Rattle.rules.specs.Counting.{release_at, releases}
use Rattle.rules.proofs.Stores.{with_run, put_same, put_other, put_runs, put_marks}
use Rattle.rules.proofs.Totals.{total_last}

-- the job of a task after the releases at t
unfoldable pub after_release : ℕ → ℕ → Job → Job
after_release t period j = cond (eqb (t % period) 0) (with_run j 0 false) j

-- one release, by whether the task's period divides t
module _ (ts : Tasks) (t i : ℕ) (sofar : Releasing) where
  is_released : eqb (t % period_at ts i) 0 ≡ true → (release_at ts t i sofar).jobs ≡ put_at sofar.jobs i 0 false
  unfolding release_at
  is_released e = rw e

  not_released : eqb (t % period_at ts i) 0 ≡ false → release_at ts t i sofar ≡ sofar
  unfolding release_at
  not_released e = rw e

  release_runs : length (release_at ts t i sofar).jobs.run ≡ length sofar.jobs.run
  release_runs = go (eqb (t % period_at ts i) 0) refl
    where
      go : (b : Bool) → eqb (t % period_at ts i) 0 ≡ b → length (release_at ts t i sofar).jobs.run ≡ length sofar.jobs.run
      go true e = rw (is_released e) (put_runs ts sofar.jobs i 0 false)
      go false e = rw (not_released e)

  release_marks : length (release_at ts t i sofar).jobs.over ≡ length sofar.jobs.over
  release_marks = go (eqb (t % period_at ts i) 0) refl
    where
      go : (b : Bool) → eqb (t % period_at ts i) 0 ≡ b → length (release_at ts t i sofar).jobs.over ≡ length sofar.jobs.over
      go true e = rw (is_released e) (put_marks ts sofar.jobs i 0 false)
      go false e = rw (not_released e)

  release_here : i < length sofar.jobs.run → i < length sofar.jobs.over → job_at ts (release_at ts t i sofar).jobs i ≡ after_release t (period_at ts i) (job_at ts sofar.jobs i)
  unfolding after_release
  release_here r m = go (eqb (t % period_at ts i) 0) refl
    where
      go : (b : Bool) → eqb (t % period_at ts i) 0 ≡ b → job_at ts (release_at ts t i sofar).jobs i ≡ after_release t (period_at ts i) (job_at ts sofar.jobs i)
      go true e = rw (is_released e, e) (put_same ts sofar.jobs i 0 false r m)
      go false e = rw (not_released e, e)

  release_elsewhere : (k : ℕ) → (k ≡ i → ⊥) → job_at ts (release_at ts t i sofar).jobs k ≡ job_at ts sofar.jobs k
  release_elsewhere k ne = go (eqb (t % period_at ts i) 0) refl
    where
      go : (b : Bool) → eqb (t % period_at ts i) 0 ≡ b → job_at ts (release_at ts t i sofar).jobs k ≡ job_at ts sofar.jobs k
      go true e = rw (is_released e) (put_other ts sofar.jobs i 0 false k ne)
      go false e = rw (not_released e)

  -- at most one more is late
  release_late : (release_at ts t i sofar).late ≤ sofar.late + 1
  unfolding release_at
  release_late = go (eqb (t % period_at ts i) 0) (job_at ts sofar.jobs i).over refl refl
    where
      go : (b o : Bool) → eqb (t % period_at ts i) 0 ≡ b → (job_at ts sofar.jobs i).over ≡ o → (release_at ts t i sofar).late ≤ sofar.late + 1
      go true true e f = rw (e, f) (omega arith)
      go true false e f = rw (e, f) (omega arith)
      go false o e f = rw e (omega arith)

  pub release_late_is : (release_at ts t i sofar).late ≡ sofar.late + cond (eqb (t % period_at ts i) 0) (cond (job_at ts sofar.jobs i).over 0 1) 0
  unfolding release_at
  release_late_is = go (eqb (t % period_at ts i) 0) refl
    where
      go : (b : Bool) → eqb (t % period_at ts i) 0 ≡ b → (release_at ts t i sofar).late ≡ sofar.late + cond (eqb (t % period_at ts i) 0) (cond (job_at ts sofar.jobs i).over 0 1) 0
      go true e = rw e
      go false e = rw e (sym (add-zero sofar.late))

-- the releases of the first n tasks
module _ (ts : Tasks) (t : ℕ) (sofar : Releasing) where
  pub releases_runs : (n : ℕ) → length (releases ts t n sofar).jobs.run ≡ length sofar.jobs.run
  unfolding releases
  releases_runs zero = refl
  releases_runs (suc n) = release_runs ts t n (releases ts t n sofar) ∙ releases_runs n

  pub releases_marks : (n : ℕ) → length (releases ts t n sofar).jobs.over ≡ length sofar.jobs.over
  unfolding releases
  releases_marks zero = refl
  releases_marks (suc n) = release_marks ts t n (releases ts t n sofar) ∙ releases_marks n

  -- a task past them has the job it had,
  pub releases_past : (n k : ℕ) → n ≤ k → job_at ts (releases ts t n sofar).jobs k ≡ job_at ts sofar.jobs k
  unfolding releases
  releases_past zero k h = refl
  releases_past (suc n) k h = release_elsewhere ts t n (releases ts t n sofar) k differs ∙ releases_past n k (omega arith)
    where
      differs : k ≡ n → ⊥
      differs e = omega arith

  -- each of them a fresh one where its period divides t,
  pub releases_at : (n k : ℕ) → n ≤ length sofar.jobs.run → n ≤ length sofar.jobs.over → k < n → job_at ts (releases ts t n sofar).jobs k ≡ after_release t (period_at ts k) (job_at ts sofar.jobs k)
  unfolding releases
  releases_at zero k r m h = absurd (not-suc-le-zero h)
  releases_at (suc n) k r m h = go (ℕ_discrete k n) (λ l. releases_at n k (omega arith) (omega arith) l)
    where
      go : Dec (k ≡ n) → (k < n → job_at ts (releases ts t n sofar).jobs k ≡ after_release t (period_at ts k) (job_at ts sofar.jobs k)) → job_at ts (releases ts t (suc n) sofar).jobs k ≡ after_release t (period_at ts k) (job_at ts sofar.jobs k)
      go (yes e) before =
          rw e
          (release_here ts t n (releases ts t n sofar) (rw (releases_runs n) (omega arith)) (rw (releases_marks n) (omega arith))
          ∙ ap (after_release t (period_at ts n)) (releases_past n n (omega arith)))
      go (no ne) before = release_elsewhere ts t n (releases ts t n sofar) k ne ∙ before (omega arith)

  -- and at most n more are late
  pub releases_late : (n : ℕ) → (releases ts t n sofar).late ≤ sofar.late + n
  unfolding releases
  releases_late zero = omega arith
  releases_late (suc n) =
      let before = releases_late n in
      let one = release_late ts t n (releases ts t n sofar) in
      omega arith

  -- exactly those are late that are released and not over
  abbrev pub lates : ℕ → ℕ
  lates i = cond (eqb (t % period_at ts i) 0) (cond (job_at ts sofar.jobs i).over 0 1) 0

  no_late : sofar.late ≡ sofar.late + total lates (up_to 0 (λ i. i))
  unfolding total up_to
  no_late = sym (add-zero sofar.late)

  pub releases_late_is : (n : ℕ) → (releases ts t n sofar).late ≡ sofar.late + total lates (up_to n (λ i. i))
  unfolding releases
  releases_late_is zero = no_late
  releases_late_is (suc n) =
      release_late_is ts t n (releases ts t n sofar)
      ∙ ap₂ (λ x (j : Job). x + cond (eqb (t % period_at ts n) 0) (cond j.over 0 1) 0) (releases_late_is n) (releases_past n n (omega arith))
      ∙ omega (arith, total_last lates n)
