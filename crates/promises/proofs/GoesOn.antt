-- A report of zeros keeps rule 4 in any state and at any speed: each bullet allows entry 0. By induction on the order.
use mathlib.Core.Path.{◌≡◌, refl}
use mathlib.Core.Bool.{Bool, true, false, cond, not, ◌||◌}
use mathlib.Core.List.{List, [], ◌∷◌}
use Prim.Native.Nat.{ℕ}
use lib.Dec.{eqb}
use lib.ListN.{get_or}
use Rattle.rules.specs.declared.Tasks.{Tasks}
use Rattle.rules.specs.declared.Jobs.{Jobs}
use Rattle.rules.specs.declared.Job.{Job}
use Rattle.rules.specs.declared.Settling.{Settling}
use Rattle.rules.specs.declared.State.{State}
use Rattle.rules.specs.State.{job_at}
use Rattle.rules.specs.Choice.{order_of}
use Rattle.rules.specs.Settlement.{by_bullet, allowed, settle_at, all_allowed, over_entries_zero, at_tick_start, keeps_rule4}
use Rattle.rules.proofs.Lists.{up_to_all}

zero_allowed : (left : ℕ) (j : Job) → allowed left 0 j ≡ true
unfolding allowed by_bullet
zero_allowed left j = go (eqb left 0)
  where
    go : (b : Bool) → ◌≡◌ {A = Bool} (cond b true true) true
    go true = refl
    go false = refl

module _ (report : List ℕ) (zeros : (i : ℕ) → get_or report i 0 ≡ 0) where
  all_zero : (ts : Tasks) (o : List ℕ) (sofar : Settling) → all_allowed ts report o sofar ≡ true
  unfolding all_allowed
  all_zero ts [] sofar = refl
  all_zero ts (i ∷ o) sofar = rw (zeros i, zero_allowed sofar.left.0 (job_at ts sofar.jobs i)) (all_zero ts o (settle_at ts i 0 sofar))

  over_zero : (ts : Tasks) (js : Jobs) → over_entries_zero ts js report ≡ true
  unfolding over_entries_zero
  over_zero ts js = up_to_all (λ i. not (job_at ts js i).over || eqb (get_or report i 0) 0) ts.count (λ i. i) (λ i l. rw (zeros i) (go (job_at ts js i).over))
    where
      go : (b : Bool) → (not b || true) ≡ true
      go true = refl
      go false = refl

  pub zeros_keep : (s : State) (speed : ℕ) → keeps_rule4 s speed report ≡ true
  unfolding keeps_rule4
  zeros_keep s speed = rw (over_zero s.tasks s.jobs, all_zero s.tasks (order_of s) (at_tick_start s.jobs speed))
