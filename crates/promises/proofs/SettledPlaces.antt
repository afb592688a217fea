-- Settling along an order, place by place: a job of it changes at its turn alone, a place that is not in it never does. By induction on the order.
use mathlib.Core.Path.{◌≡◌, refl, sym, ap, ◌∙◌}
use mathlib.Core.Bool.{Bool, true, false, cond, not, ◌&&◌}
use mathlib.Core.List.Memᴰ
use mathlib.Core.List.{List, [], ◌∷◌, Memᴰ}
use Prim.Native.Nat.{ℕ, ◌+◌, ◌≤◌, ◌<◌}
use native.Mathlib.Decide.{ℕ_discrete}
use native.Mathlib.Omega.{arith}
use lib.Dec.{eqb}
use lib.ListN.{get_or}
use borrow.Author.Tests.{eqb-false, not-true}
use Rattle.units.specs.Units.{cycles}
use Rattle.units.specs.declared.Cycles.{Cycles}
use Rattle.rules.specs.declared.Tasks.{Tasks}
use Rattle.rules.specs.declared.Jobs.{Jobs}
use Rattle.rules.specs.declared.Job.{Job}
use Rattle.rules.specs.declared.Settling.{Settling}
use Rattle.rules.specs.Words.{total, every}
use Rattle.rules.specs.Limits.{most_tasks}
use Rattle.rules.specs.State.{job_at}
use Rattle.rules.specs.Settlement.{by_bullet, uses_up, allowed, granted, is_cut, is_over, settle_at, settle_all, all_allowed, at_tick_start}
use Rattle.rules.specs.Numbers.{run_right}
use Rattle.rules.proofs.Lists.{get_d_up_to, every_first, every_rest}
use Rattle.rules.proofs.Stores.{with_run}
use Rattle.rules.proofs.Shares.{settled_job}
use Rattle.rules.proofs.Settles.{Settles, job_here, job_elsewhere, grant_here, grant_elsewhere, first_below, first_ready, first_once, settles_job, allowed_first, allowed_rest}
use Rattle.ontime.proofs.Levels.{mem_rest}

-- what is granted to the task at a place so far
abbrev pub grant_at : Settling → ℕ → ℕ
grant_at sofar i = (get_or sofar.grants i (cycles 0)).0

-- nothing as a tick begins
pub none_granted : (js : Jobs) (speed i : ℕ) → i < most_tasks → grant_at (at_tick_start js speed) i ≡ 0
unfolding at_tick_start
none_granted js speed i h = ap (λ (g : Cycles). g.0) (get_d_up_to most_tasks (λ k. cycles 0) i (cycles 0) h)

-- a job is cut where it is over with entry 0
cut_over : (left u : ℕ) (j : Job) → is_cut left u j ≡ (eqb u 0 && is_over left u j)
unfolding is_cut is_over by_bullet
cut_over left u j = go (eqb left 0) (eqb u 0)
  where
    go : (a b : Bool) → cond a false (cond b (uses_up left j) false) ≡ (b && cond a false (cond b (uses_up left j) true))
    go true true = refl
    go true false = refl
    go false true = refl
    go false false = refl

-- a place is not in an order
abbrev pub absent : ℕ → List ℕ → Bool
absent k o = every (λ i. not (eqb i k)) o

absent_differs : (k i : ℕ) (o : List ℕ) → absent k (i ∷ o) ≡ true → k ≡ i → ⊥
absent_differs k i o n e = eqb-false i k (not-true (eqb i k) (every_first (λ x. not (eqb x k)) i o n)) (sym e)

-- it keeps its job and its grant
module _ (ts : Tasks) (report : List ℕ) (k : ℕ) where
  pub job_kept : (o : List ℕ) (sofar : Settling) → absent k o ≡ true → job_at ts (settle_all ts report o sofar).jobs k ≡ job_at ts sofar.jobs k
  unfolding settle_all
  job_kept [] sofar n = refl
  job_kept (i ∷ o) sofar n =
      job_kept o (settle_at ts i (get_or report i 0) sofar) (every_rest (λ x. not (eqb x k)) i o n)
      ∙ job_elsewhere ts i (get_or report i 0) sofar k (absent_differs k i o n)

  pub grant_kept : (o : List ℕ) (sofar : Settling) → absent k o ≡ true → grant_at (settle_all ts report o sofar) k ≡ grant_at sofar k
  unfolding settle_all
  grant_kept [] sofar n = refl
  grant_kept (i ∷ o) sofar n =
      grant_kept o (settle_at ts i (get_or report i 0) sofar) (every_rest (λ x. not (eqb x k)) i o n)
      ∙ grant_elsewhere ts i (get_or report i 0) sofar k (absent_differs k i o n)

-- entry u takes the ready job j to the job k, with grant g, at its turn
pub record Turn (u g : ℕ) (j k : Job) : Type 0 where
  pub left : ℕ
  pub right : run_right j ≡ true
  pub ready : j.over ≡ false
  pub may : allowed left u j ≡ true
  pub job_is : k ≡ settled_job left u j
  pub grant_is : g ≡ granted left u j

-- an order that is still to be settled: its first job and the rest
module _ (ts : Tasks) (js : Jobs) (n speed : ℕ) (most : n ≤ most_tasks) (report : List ℕ) (i : ℕ) (o : List ℕ) (sofar : Settling) (a : all_allowed ts report (i ∷ o) sofar ≡ true) (v : Settles ts js n speed (i ∷ o) sofar) where
  abbrev entry : ℕ
  entry = get_or report i 0

  abbrev first : Job
  first = job_at ts sofar.jobs i

  abbrev end : Settling
  end = settle_all ts report (i ∷ o) sofar

  rest_settles : Settles ts js n speed o (settle_at ts i entry sofar)
  rest_settles = settles_job ts js n speed i entry o sofar most v (allowed_first ts report i o sofar a)

  -- the rest leaves the first as it is after its turn
  below : i < n
  below = first_below ts js n speed i o sofar v

  once : absent i o ≡ true
  once = first_once ts js n speed i o sofar v

  first_job : job_at ts end.jobs i ≡ settled_job sofar.left.0 entry first
  unfolding settle_all
  first_job =
      job_kept ts report i o (settle_at ts i entry sofar) once
      ∙ job_here ts i entry sofar (omega (arith, v.runs, below)) (omega (arith, v.marks, below))

  first_grant : grant_at end i ≡ granted sofar.left.0 entry first
  unfolding settle_all
  first_grant =
      grant_kept ts report i o (settle_at ts i entry sofar) once
      ∙ grant_here ts i entry sofar (omega (arith, v.grants, below))

  first_turn : Turn entry (grant_at end i) first (job_at ts end.jobs i)
  first_turn =
      record {
        left = sofar.left.0;
        right = v.right i below;
        ready = first_ready ts js n speed i o sofar v;
        may = allowed_first ts report i o sofar a;
        job_is = first_job;
        grant_is = first_grant;
      }

  -- its turn counts it as cut where it ends over with entry 0
  first_cut : (settle_at ts i entry sofar).cut ≡ sofar.cut + cond (eqb entry 0 && (job_at ts end.jobs i).over) 1 0
  unfolding settle_at with_run
  first_cut =
      ap (λ (b : Bool). sofar.cut + cond b 1 0)
      (cut_over sofar.left.0 entry first ∙ ap (λ (k : Job). eqb entry 0 && k.over) (sym first_job))

module _ (ts : Tasks) (js : Jobs) (n speed : ℕ) (most : n ≤ most_tasks) (report : List ℕ) where
  -- each job of the order has its turn, and is as it was until then
  pub walk_turn : (k : ℕ) (o : List ℕ) (sofar : Settling) → all_allowed ts report o sofar ≡ true → Settles ts js n speed o sofar → Memᴰ k o → Turn (get_or report k 0) (grant_at (settle_all ts report o sofar) k) (job_at ts sofar.jobs k) (job_at ts (settle_all ts report o sofar).jobs k)
  unfolding settle_all
  walk_turn k [] sofar a v m = absurd (Memᴰ.not-nil m)
  walk_turn k (i ∷ o) sofar a v m =
      go (ℕ_discrete k i)
      (walk_turn k o (settle_at ts i (get_or report i 0) sofar)
      (allowed_rest ts report i o sofar a) (rest_settles ts js n speed most report i o sofar a v))
    where
      end : Settling
      end = settle_all ts report (i ∷ o) sofar

      TurnFrom : Settling → Type 0
      TurnFrom from = Turn (get_or report k 0) (grant_at end k) (job_at ts from.jobs k) (job_at ts end.jobs k)

      go : Dec (k ≡ i) → (Memᴰ k o → TurnFrom (settle_at ts i (get_or report i 0) sofar)) → TurnFrom sofar
      go (yes e) r = rw e (first_turn ts js n speed most report i o sofar a v)
      go (no ne) r = rw (← job_elsewhere ts i (get_or report i 0) sofar k ne) (r (mem_rest k i o ne m))

  -- those that end over with entry 0 are cut
  pub walk_cut : (o : List ℕ) (sofar : Settling) → all_allowed ts report o sofar ≡ true → Settles ts js n speed o sofar → (settle_all ts report o sofar).cut ≡ sofar.cut + total (λ k. cond (eqb (get_or report k 0) 0 && (job_at ts (settle_all ts report o sofar).jobs k).over) 1 0) o
  unfolding settle_all total
  walk_cut [] sofar a v = omega arith
  walk_cut (i ∷ o) sofar a v =
      let rest =
      walk_cut o (settle_at ts i (get_or report i 0) sofar)
      (allowed_rest ts report i o sofar a) (rest_settles ts js n speed most report i o sofar a v) in
      omega (arith, rest, first_cut ts js n speed most report i o sofar a v)
