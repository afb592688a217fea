-- Rule 4 for one ready job: its part is within what is left, and it keeps its run count right. By the three bullets.
use mathlib.Core.Path.{◌≡◌, refl, sym, ap, ◌∙◌}
use mathlib.Core.Bool.{Bool, true, false, false≢true, cond, ◌&&◌}
use Prim.Native.Nat.{ℕ, ◌+◌, ◌-◌, ◌≤◌, ◌<◌, min}
use native.Mathlib.Omega.{arith}
use lib.Dec.{eqb, ltb, leb}
use borrow.Author.Tests.{eqb-true, eqb-false, eq-eqb, ne_eqb, ltb-true, leb-true, lt-ltb}
use Rattle.rules.specs.declared.Job.{Job}
use Rattle.rules.specs.Limits.{up_to_most}
use Rattle.rules.specs.Settlement.{by_bullet, remaining, uses_up, allowed, granted, is_cut, is_over}
use Rattle.rules.specs.Numbers.{run_right}
use Rattle.rules.proofs.Lists.{both_left, both_right}
use Rattle.rules.proofs.Ranges.{in_range}
use Rattle.rules.proofs.Stores.{with_run}

-- a ready job once it is settled, by what is left and its entry
abbrev pub settled_job : ℕ → ℕ → Job → Job
settled_job left u j = with_run j (j.run.0 + granted left u j) (is_over left u j)

-- the bullet that applies
module _ {A : Type 0} (left u : ℕ) (x y z : A) where
  pub nothing_left : eqb left 0 ≡ true → by_bullet left u x y z ≡ x
  unfolding by_bullet
  nothing_left e = rw e

  pub entry_0 : eqb left 0 ≡ false → eqb u 0 ≡ true → by_bullet left u x y z ≡ y
  unfolding by_bullet
  entry_0 e f = rw (e, f)

  pub entry_u : eqb left 0 ≡ false → eqb u 0 ≡ false → by_bullet left u x y z ≡ z
  unfolding by_bullet
  entry_u e f = rw (e, f)

module _ (left u : ℕ) (j : Job) where
  -- entry u: what is asked of it
  pub above_run : eqb left 0 ≡ false → eqb u 0 ≡ false → allowed left u j ≡ true → (j.run.0 < u) × (u ≤ j.reserve.0) × (u - j.run.0 ≤ left)
  unfolding allowed by_bullet
  above_run e f a =
      let all : (ltb j.run.0 u && leb u j.reserve.0 && leb (u - j.run.0) left) ≡ true = rw (e, f) at a in
      let range = both_left (ltb j.run.0 u && leb u j.reserve.0) (leb (u - j.run.0) left) all in (
        ltb-true j.run.0 u (both_left (ltb j.run.0 u) (leb u j.reserve.0) range),
        leb-true u j.reserve.0 (both_right (ltb j.run.0 u) (leb u j.reserve.0) range),
        leb-true (u - j.run.0) left
            (both_right (ltb j.run.0 u && leb u j.reserve.0) (leb (u - j.run.0) left) all),
      )

  -- what it gets is within what is left
  pub granted_left : allowed left u j ≡ true → granted left u j ≤ left
  unfolding granted
  granted_left a = go (eqb left 0) (eqb u 0) refl refl
    where
      go : (p q : Bool) → eqb left 0 ≡ p → eqb u 0 ≡ q → by_bullet left u 0 (min left (remaining j)) (u - j.run.0) ≤ left
      go true q e f = rw (nothing_left left u 0 (min left (remaining j)) (u - j.run.0) e) (omega arith)
      go false true e f = rw (entry_0 left u 0 (min left (remaining j)) (u - j.run.0) e f) (omega arith)
      go false false e f = rw (entry_u left u 0 (min left (remaining j)) (u - j.run.0) e f) (above_run e f a).2

  -- and within its remaining reserve
  pub granted_rest : allowed left u j ≡ true → granted left u j ≤ remaining j
  unfolding granted remaining
  granted_rest a = go (eqb left 0) (eqb u 0) refl refl
    where
      go : (p q : Bool) → eqb left 0 ≡ p → eqb u 0 ≡ q → by_bullet left u 0 (min left (remaining j)) (u - j.run.0) ≤ j.reserve.0 - j.run.0
      go true q e f = rw (nothing_left left u 0 (min left (remaining j)) (u - j.run.0) e) (omega arith)
      go false true e f = rw (entry_0 left u 0 (min left (remaining j)) (u - j.run.0) e f) (omega arith)
      go false false e f = rw (entry_u left u 0 (min left (remaining j)) (u - j.run.0) e f) (omega (arith, (above_run e f a).1))

  -- a ready job's run count is still right
  pub granted_right : run_right j ≡ true → j.over ≡ false → allowed left u j ≡ true → run_right (settled_job left u j) ≡ true
  unfolding granted is_over run_right with_run uses_up remaining
  granted_right r o a = go (eqb left 0) (eqb u 0) refl refl
    where
      below : j.run.0 < j.reserve.0
      below = ltb-true j.run.0 j.reserve.0 (rw o at r)

      go : (p q : Bool) → eqb left 0 ≡ p → eqb u 0 ≡ q → cond (by_bullet left u false (uses_up left j) true) (up_to_most j.reserve.0 (j.run.0 + by_bullet left u 0 (min left (remaining j)) (u - j.run.0))) (ltb (j.run.0 + by_bullet left u 0 (min left (remaining j)) (u - j.run.0)) j.reserve.0) ≡ true
      go true q e f =
          rw (nothing_left left u false (uses_up left j) true e, nothing_left left u 0 (min left (remaining j)) (u - j.run.0) e)
          (lt-ltb (j.run.0 + 0) j.reserve.0 (omega (arith, below)))
      go false true e f =
          rw (entry_0 left u false (uses_up left j) true e f, entry_0 left u 0 (min left (remaining j)) (u - j.run.0) e f)
          (used (uses_up left j) refl)
        where
          used : (b : Bool) → uses_up left j ≡ b → cond b (up_to_most j.reserve.0 (j.run.0 + min left (remaining j))) (ltb (j.run.0 + min left (remaining j)) j.reserve.0) ≡ true
          used true w =
              let all : j.run.0 + min left (j.reserve.0 - j.run.0) ≡ j.reserve.0 = eqb-true _ _ w in
              in_range j.reserve.0 (j.run.0 + min left (j.reserve.0 - j.run.0)) (omega (arith, below)) (omega arith)
          used false w =
              let some : j.run.0 + min left (j.reserve.0 - j.run.0) ≡ j.reserve.0 → ⊥ = eqb-false _ _ w in
              lt-ltb (j.run.0 + min left (j.reserve.0 - j.run.0)) j.reserve.0 (omega (arith, below))
      go false false e f =
          let k = above_run e f a in
          rw (entry_u left u false (uses_up left j) true e f, entry_u left u 0 (min left (remaining j)) (u - j.run.0) e f)
          (in_range j.reserve.0 (j.run.0 + (u - j.run.0)) (omega arith) (omega arith))

  -- a job is cut exactly where entry 0 uses its reserve up while something is left, and it is over then
  pub cut_only : is_cut left u j ≡ true → (0 < left) × (u ≡ 0) × (j.run.0 + granted left u j ≡ j.reserve.0)
  unfolding is_cut granted uses_up
  cut_only c = go (eqb left 0) (eqb u 0) refl refl
    where
      go : (p q : Bool) → eqb left 0 ≡ p → eqb u 0 ≡ q → (0 < left) × (u ≡ 0) × (j.run.0 + granted left u j ≡ j.reserve.0)
      go true q e f = absurd (false≢true (sym (nothing_left left u false (uses_up left j) false e) ∙ c))
      go false true e f =
          let used : uses_up left j ≡ true = sym (entry_0 left u false (uses_up left j) false e f) ∙ c in (
            omega (arith, eqb-false left 0 e),
            eqb-true u 0 f,
            ap (λ g. j.run.0 + g) (entry_0 left u 0 (min left (remaining j)) (u - j.run.0) e f) ∙ eqb-true _ _ used,
          )
      go false false e f = absurd (false≢true (sym (entry_u left u false (uses_up left j) false e f) ∙ c))

  pub cut_always : 0 < left → u ≡ 0 → j.run.0 + granted left u j ≡ j.reserve.0 → is_cut left u j ≡ true
  unfolding is_cut granted uses_up
  cut_always l z r =
      let some = ne_eqb left 0 none in
      let entry = eq-eqb u 0 z in
      entry_0 left u false (uses_up left j) false some entry
      ∙ eq-eqb _ _ (sym (ap (λ g. j.run.0 + g) (entry_0 left u 0 (min left (remaining j)) (u - j.run.0) some entry)) ∙ r)
    where
      none : left ≡ 0 → ⊥
      none e = omega arith
