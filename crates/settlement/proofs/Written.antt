-- The grants list written place by place: after i turns the first i places hold their shares and the rest is as it was, which at the end is what is paid.
use mathlib.Core.Path.{◌≡◌, refl, sym, ap, ◌∙◌}
use mathlib.Core.Bool.{cond}
use mathlib.Core.List.{List}
use Prim.Native.Nat.{ℕ, ◌+◌, ◌≤◌, ◌<◌, min}
use native.Mathlib.Decide.{dec_lt}
use native.Mathlib.Omega.{arith}
use borrow.Author.Tests.{lt-ltb, le-ltb}
use lib.Dec.{ltb}
use lib.ListN.{length, get_or, set}
use Rattle.units.specs.Units.{cycles}
use Rattle.units.specs.declared.Cycles.{Cycles}
use Rattle.rules.specs.Words.{up_to}
use Rattle.rules.specs.Limits.{most_tasks}
use Rattle.rules.proofs.Lists.{up_to-ext, up_to_get_d, up_to-set}
use Rattle.settlement.specs.Settled.{paid}

unfoldable pub written : List Cycles → List ℕ → ℕ → List ℕ
written shares grants i = up_to (length grants) (λ k. cond (ltb k i) (get_or shares k (cycles 0)).0 (get_or grants k 0))

module _ (shares : List Cycles) (grants : List ℕ) where
  -- the same places written
  same_place : (k i j : ℕ) → ltb k i ≡ ltb k j → ◌≡◌ {A = ℕ} (cond (ltb k i) (get_or shares k (cycles 0)).0 (get_or grants k 0)) (cond (ltb k j) (get_or shares k (cycles 0)).0 (get_or grants k 0))
  same_place k i j e = ap (λ b. cond b (get_or shares k (cycles 0)).0 (get_or grants k 0)) e

  pub written_none : grants ≡ written shares grants 0
  unfolding written
  written_none =
      sym (up_to_get_d grants (length grants) 0 refl)
      ∙ up_to-ext (length grants) _ _
      (λ k l. sym (ap (λ b. cond b (get_or shares k (cycles 0)).0 (get_or grants k 0)) (le-ltb k 0 (omega arith))))

  pub written_on : (i : ℕ) → i < length grants → set (written shares grants i) i (get_or shares i (cycles 0)).0 ≡ written shares grants (i + 1)
  unfolding written
  written_on i h =
      up_to-set (length grants) _ _ i (get_or shares i (cycles 0)).0 h
      (ap (λ b. cond b (get_or shares i (cycles 0)).0 (get_or grants i 0)) (lt-ltb i (i + 1) (omega arith)))
      (λ k ne. same_place k i (i + 1) (next k ne (dec_lt k i)))
    where
      next : (k : ℕ) → (k ≡ i → ⊥) → Dec (k < i) → ltb k i ≡ ltb k (i + 1)
      next k ne (yes l) = lt-ltb k i l ∙ sym (lt-ltb k (i + 1) (omega arith))
      next k ne (no l) = le-ltb k i (omega arith) ∙ sym (le-ltb k (i + 1) (omega arith))

  pub written_paid : (i : ℕ) → min (length grants) most_tasks ≤ i → i ≤ most_tasks → written shares grants i ≡ paid shares grants
  unfolding written paid
  written_paid i a b =
      up_to-ext (length grants) _ _ (λ k l. same_place k i most_tasks (ends k l (dec_lt k i)))
    where
      ends : (k : ℕ) → k < length grants → Dec (k < i) → ltb k i ≡ ltb k most_tasks
      ends k l (yes h) = lt-ltb k i h ∙ sym (lt-ltb k most_tasks (omega arith))
      ends k l (no h) = le-ltb k i (omega arith) ∙ sym (le-ltb k most_tasks (omega arith))
