-- The releases by deadlines are rule 5's, since a deadline is the new tick exactly where the period divides it; and what a tick changes.
use mathlib.Core.Path.{◌≡◌, refl, ap}
use mathlib.Core.Bool.{Bool, true, false, not}
use mathlib.Core.List.{List}
use Prim.Native.Nat.{ℕ, zero, suc, ◌+◌, ◌%◌, ◌≤◌, ◌<◌}
use native.Mathlib.Nat.{add-zero}
use native.Mathlib.Numerals.{add-one}
use native.Mathlib.Omega.{arith}
use lib.Dec.{eqb}
use lib.ListN.{get_or}
use borrow.Author.Tests.{eq-eqb, ne_eqb, not-true, not-false}
use Rattle.units.specs.Units.{ticks}
use Rattle.units.specs.declared.Ticks.{Ticks}
use Rattle.rules.specs.declared.Tasks.{Tasks}
use Rattle.rules.specs.declared.Jobs.{Jobs}
use Rattle.rules.specs.declared.Tally.{Tally}
use Rattle.rules.specs.declared.Releasing.{Releasing}
use Rattle.rules.specs.State.{period_at, job_at, put_at}
use Rattle.rules.specs.Counting.{release_at, releases}
use Rattle.settlement.specs.declared.Settled.{Settled}
use Rattle.stepping.specs.Parts.{counted_by, released, released_to, after_of}

module _ (at : List Ticks) (next : ℕ) (sofar : Releasing) where
  -- a turn: released, or not
  pub due_now : (n : ℕ) → (get_or at n (ticks 0)).0 ≡ next → released n (released_to at next n sofar) ≡ released_to at next (n + 1) sofar
  unfolding released_to
  due_now n e = rw (add-one, eq-eqb _ _ e)

  pub not_due : (n : ℕ) → ((get_or at n (ticks 0)).0 ≡ next → ⊥) → released_to at next n sofar ≡ released_to at next (n + 1) sofar
  unfolding released_to
  not_due n e = rw (add-one, ne_eqb _ _ e)

  -- at most one more is late for each task
  pub late_most : (n : ℕ) → (released_to at next n sofar).late ≤ sofar.late + n
  unfolding released_to released
  late_most zero = omega arith
  late_most (suc n) = go (eqb (get_or at n (ticks 0)).0 next) (get_or (released_to at next n sofar).jobs.over n false) refl refl (late_most n)
    where
      go : (b o : Bool) → eqb (get_or at n (ticks 0)).0 next ≡ b → get_or (released_to at next n sofar).jobs.over n false ≡ o → (released_to at next n sofar).late ≤ sofar.late + n → (released_to at next (suc n) sofar).late ≤ sofar.late + suc n
      go true true e f h = rw (e, f) (omega (arith, h))
      go true false e f h = rw (e, f) (omega (arith, h))
      go false o e f h = rw e (omega (arith, h))

  pub releases_are : (ts : Tasks) (n : ℕ) → ((i : ℕ) → i < n → eqb (get_or at i (ticks 0)).0 next ≡ eqb (next % period_at ts i) 0) → released_to at next n sofar ≡ releases ts next n sofar
  unfolding released_to released releases release_at job_at
  releases_are ts zero h = refl
  releases_are ts (suc n) h =
      let before : released_to at next n sofar ≡ releases ts next n sofar = releases_are ts n (λ i l. h i (omega arith)) in
      rw (h n (omega arith), before)

-- one task released, by its mark
module _ (sofar : Releasing) (i late : ℕ) where
  pub late_one : not (get_or sofar.jobs.over i false) ≡ true → late ≡ sofar.late + 1 → record { jobs = put_at sofar.jobs i 0 false; late = late } ≡ released i sofar
  unfolding released
  late_one o e = rw (not-true (get_or sofar.jobs.over i false) o, e)

  pub late_none : not (get_or sofar.jobs.over i false) ≡ false → late ≡ sofar.late → record { jobs = put_at sofar.jobs i 0 false; late = late } ≡ released i sofar
  unfolding released
  late_none o e = rw (not-false (get_or sofar.jobs.over i false) o, e, add-zero sofar.late)

-- the counts with another count of late jobs
abbrev pub with_late : Tally → ℕ → Tally
with_late tally late = record { counts = tally.counts; idle = tally.idle; late = late; cut = tally.cut }

-- a turn keeps all but the count of late jobs
pub kept : (after tally first : Tally) (late : ℕ) → after ≡ with_late tally late → tally ≡ with_late first tally.late → after ≡ with_late first after.late
kept after tally first late e k = rw e (ap (λ t. with_late t late) k)

-- the releases so far, part by part
pub same_parts : (jobs jobs₁ : Jobs) (tally tally₁ : Tally) → jobs ≡ jobs₁ → tally ≡ tally₁ → ◌≡◌ {A = Releasing} (record { jobs = jobs; late = tally.late }) (record { jobs = jobs₁; late = tally₁.late })
same_parts jobs jobs₁ tally tally₁ j t = rw (j, t)

-- what a tick changes, from its counts and its releases
module _ (done : Ticks) (ts : Tasks) (tally : Tally) (place granted : ℕ) (settled : Settled) (counts : Tally) (is : counts ≡ counted_by tally place granted settled.left.0 settled.cut) where
  pub late_is : counts.late ≡ tally.late
  unfolding counted_by
  late_is = ap (λ (t : Tally). t.late) is

  pub after_is : (fresh : Releasing) (after : Tally) → fresh ≡ releases ts (done.0 + 1) ts.count (record { jobs = settled.jobs; late = counts.late }) → after ≡ with_late counts fresh.late → record { done = ticks (done.0 + 1); jobs = fresh.jobs; tally = after } ≡ after_of done ts tally place granted settled
  unfolding after_of
  after_is fresh after e a = rw (a, e, is)
