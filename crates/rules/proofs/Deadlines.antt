-- Rule 1 over numbers: where a deadline lies, and how it goes on at the next tick. By the part of the period that has passed, t mod P.
use mathlib.Core.Path.{◌≡◌, sym, ap, ◌∙◌}
use Prim.Native.Nat.{ℕ, suc, ◌+◌, ◌-◌, ◌%◌, ◌≤◌, ◌<◌}
use native.Mathlib.Nat.{mod-lt, suc-mod, mod_self, mod-eq_of_lt}
use native.Mathlib.Decide.{dec_lt}
use native.Mathlib.Numerals.{add-one}
use native.Mathlib.Omega.{arith}
use lib.Dec.{eqb}
use Rattle.rules.specs.declared.Job.{Job}
use Rattle.rules.specs.Load.{deadline}
use borrow.Author.Tests.{eq-eqb, ne_eqb}

module _ (t p : ℕ) (some : 1 ≤ p) where
  -- what has passed is less than the period
  part_below : t % p < p
  part_below = mod-lt t some

  -- the deadline is after t and at most a period after it
  pub due_after : t < t + p - t % p
  due_after = omega (arith, part_below)

  pub due_most : t + p - t % p ≤ t + p
  due_most = omega arith

  -- what has passed at the next tick: one more, or nothing where the period is full
  next_part : t % p + 1 < p → (t + 1) % p ≡ t % p + 1
  next_part h = ap (λ x. x % p) (add-one t) ∙ suc-mod t p ∙ ap (λ x. x % p) (sym (add-one (t % p))) ∙ mod-eq_of_lt h

  next_none : t % p + 1 ≡ p → (t + 1) % p ≡ 0
  next_none e = ap (λ x. x % p) (add-one t) ∙ suc-mod t p ∙ ap (λ x. x % p) full ∙ mod_self p
    where
      full : suc (t % p) ≡ p
      full = omega arith

  -- either way
  next : (A : Type 0) → (t % p + 1 < p → A) → (t % p + 1 ≡ p → A) → A
  next A more full = go (dec_lt (t % p + 1) p)
    where
      go : Dec (t % p + 1 < p) → A
      go (yes h) = more h
      go (no h) = full (omega (arith, part_below))

  -- a task is released at the next tick exactly when the deadline is then
  pub release_due : eqb ((t + 1) % p) 0 ≡ eqb (t + p - t % p) (t + 1)
  release_due = next (eqb ((t + 1) % p) 0 ≡ eqb (t + p - t % p) (t + 1)) more full
    where
      more : t % p + 1 < p → eqb ((t + 1) % p) 0 ≡ eqb (t + p - t % p) (t + 1)
      more h = rw (next_part h, ne_eqb (t % p + 1) 0 one_more, ne_eqb (t + p - t % p) (t + 1) later)
        where
          one_more : t % p + 1 ≡ 0 → ⊥
          one_more z = omega arith

          later : t + p - t % p ≡ t + 1 → ⊥
          later z = omega arith

      full : t % p + 1 ≡ p → eqb ((t + 1) % p) 0 ≡ eqb (t + p - t % p) (t + 1)
      full h = rw (next_none h, eq-eqb (t + p - t % p) (t + 1) (omega arith))

  -- at the next tick a deadline that has not come stays, and one that has is a period later
  pub due_stays : (t + p - t % p ≡ t + 1 → ⊥) → t + 1 + p - (t + 1) % p ≡ t + p - t % p
  due_stays not_yet = next (t + 1 + p - (t + 1) % p ≡ t + p - t % p) (λ h. omega (arith, next_part h)) (λ h. absurd (not_yet (omega arith)))

  pub due_moves : t + p - t % p ≡ t + 1 → t + 1 + p - (t + 1) % p ≡ t + 1 + p
  due_moves now = omega (arith, next_none (omega (arith, part_below)))

-- Rule 1. The same of a job's deadline.
module _ (t : ℕ) (j : Job) (some : 1 ≤ j.period.0) where
  pub deadline_after : t < deadline t j
  unfolding deadline
  deadline_after = due_after t j.period.0 some

  pub deadline_most : deadline t j ≤ t + j.period.0
  unfolding deadline
  deadline_most = due_most t j.period.0 some

  pub deadline_next : eqb ((t + 1) % j.period.0) 0 ≡ eqb (deadline t j) (t + 1)
  unfolding deadline
  deadline_next = release_due t j.period.0 some
