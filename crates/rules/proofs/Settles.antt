-- Rule 4 over the whole order: what holds at the tick's start, after each job and at the end. By induction on the order, one job by `Shares`.
use mathlib.Core.Path.{◌≡◌, refl, sym, ap, ◌∙◌}
use mathlib.Core.Bool.{Bool, true, false, cond, not}
use mathlib.Core.List.{List, [], ◌∷◌}
use Prim.Native.Nat.{ℕ, zero, suc, ◌+◌, ◌≤◌, ◌<◌}
use native.Mathlib.Decide.{ℕ_discrete}
use native.Mathlib.Omega.{arith}
use lib.Dec.{eqb, ltb}
use lib.ListN.{length, get_or, length-set}
use lib.Seq.{get_or-set_same, get_or-set_other}
use borrow.Author.Tests.{eqb-true, eqb-false, ltb-true, not-true}
use Rattle.units.specs.Units.{cycles}
use Rattle.units.specs.declared.Cycles.{Cycles}
use Rattle.rules.specs.declared.Tasks.{Tasks}
use Rattle.rules.specs.declared.Jobs.{Jobs}
use Rattle.rules.specs.declared.Settling.{Settling}
use Rattle.rules.specs.Words.{up_to, total, every}
use Rattle.rules.specs.Limits.{most_tasks}
use Rattle.rules.specs.State.{job_at, put_at}
use Rattle.rules.specs.Settlement.{allowed, granted, is_cut, settle_at, settle_all, all_allowed, at_tick_start}
use Rattle.rules.specs.Numbers.{run_right}
use Rattle.rules.proofs.Lists.{both_left, both_right, every_first, every_rest, length-up_to, get_d_up_to}
use Rattle.rules.proofs.Orders.{apart, every_mono}
use Rattle.rules.proofs.Stores.{put_same, put_other}
use Rattle.rules.proofs.Totals.{total-set}
use Rattle.rules.proofs.Shares.{settled_job, granted_left, granted_right}

-- the cycles granted so far
abbrev pub grants_sum : Settling → ℕ
grants_sum sofar = total (λ (g : Cycles). g.0) sofar.grants

-- the first n tasks of which those of the order o are still to be settled, from jobs js and a speed
pub record Settles (ts : Tasks) (js : Jobs) (n speed : ℕ) (o : List ℕ) (sofar : Settling) : Type 0 where
  pub runs : length sofar.jobs.run ≡ most_tasks
  pub marks : length sofar.jobs.over ≡ most_tasks
  pub grants : length sofar.grants ≡ most_tasks
  pub right : (k : ℕ) → k < n → run_right (job_at ts sofar.jobs k) ≡ true
  pub others : (k : ℕ) → n ≤ k → job_at ts sofar.jobs k ≡ job_at ts js k
  pub waiting : every (λ i. not (job_at ts sofar.jobs i).over) o ≡ true
  pub ungranted : every (λ i. eqb (get_or sofar.grants i (cycles 0)).0 0) o ≡ true
  pub below : every (λ i. ltb i n) o ≡ true
  pub different : apart o ≡ true
  pub shared : grants_sum sofar + sofar.left.0 ≡ speed
  pub cuts : sofar.cut + length o ≤ most_tasks

-- a test of other places than i, kept where the places other than i are
pub every_kept : (q r : ℕ → Bool) (i : ℕ) → ((k : ℕ) → (k ≡ i → ⊥) → q k ≡ r k) → (o : List ℕ) → every (λ k. not (eqb k i)) o ≡ true → every q o ≡ true → every r o ≡ true
unfolding every
every_kept q r i same [] n e = refl
every_kept q r i same (k ∷ o) n e =
    let differs : k ≡ i → ⊥ = eqb-false k i (not-true (eqb k i) (both_left (not (eqb k i)) (every (λ x. not (eqb x i)) o) n)) in
    let here : r k ≡ true = sym (same k differs) ∙ both_left (q k) (every q o) e in
    let there : every r o ≡ true = every_kept q r i same o (both_right (not (eqb k i)) (every (λ x. not (eqb x i)) o) n) (both_right (q k) (every q o) e) in
    rw (here, there)

-- the turn of place i: the job and the grant there, and elsewhere
module _ (ts : Tasks) (i u : ℕ) (sofar : Settling) where
  pub job_here : i < length sofar.jobs.run → i < length sofar.jobs.over → job_at ts (settle_at ts i u sofar).jobs i ≡ settled_job sofar.left.0 u (job_at ts sofar.jobs i)
  unfolding settle_at
  job_here r m = put_same ts sofar.jobs i _ _ r m

  pub job_elsewhere : (k : ℕ) → (k ≡ i → ⊥) → job_at ts (settle_at ts i u sofar).jobs k ≡ job_at ts sofar.jobs k
  unfolding settle_at
  job_elsewhere k ne = put_other ts sofar.jobs i _ _ k ne

  pub grant_here : i < length sofar.grants → (get_or (settle_at ts i u sofar).grants i (cycles 0)).0 ≡ granted sofar.left.0 u (job_at ts sofar.jobs i)
  unfolding settle_at
  grant_here l = ap (λ (g : Cycles). g.0) (get_or-set_same sofar.grants i _ (cycles 0) l)

  pub grant_elsewhere : (k : ℕ) → (k ≡ i → ⊥) → (get_or (settle_at ts i u sofar).grants k (cycles 0)).0 ≡ (get_or sofar.grants k (cycles 0)).0
  unfolding settle_at
  grant_elsewhere k ne = ap (λ (g : Cycles). g.0) (get_or-set_other sofar.grants i k _ (cycles 0) ne)

-- the first job of those still to be settled
module _ (ts : Tasks) (js : Jobs) (n speed : ℕ) (i : ℕ) (o : List ℕ) (sofar : Settling) (v : Settles ts js n speed (i ∷ o) sofar) where
  pub first_below : i < n
  first_below = ltb-true i n (every_first (λ k. ltb k n) i o v.below)

  pub first_ready : (job_at ts sofar.jobs i).over ≡ false
  first_ready = not-true _ (every_first (λ k. not (job_at ts sofar.jobs k).over) i o v.waiting)

  pub first_once : every (λ k. not (eqb k i)) o ≡ true
  unfolding apart
  first_once = both_left (every (λ k. not (eqb k i)) o) (apart o) v.different

-- one job settled
module _ (ts : Tasks) (js : Jobs) (n speed : ℕ) (i u : ℕ) (o : List ℕ) (sofar : Settling) (most : n ≤ most_tasks) (v : Settles ts js n speed (i ∷ o) sofar) (a : allowed sofar.left.0 u (job_at ts sofar.jobs i) ≡ true) where
  place : i < n
  place = first_below ts js n speed i o sofar v

  ready : (job_at ts sofar.jobs i).over ≡ false
  ready = first_ready ts js n speed i o sofar v

  new : every (λ k. not (eqb k i)) o ≡ true
  new = first_once ts js n speed i o sofar v

  none_yet : (get_or sofar.grants i (cycles 0)).0 ≡ 0
  none_yet = eqb-true _ 0 (every_first (λ k. eqb (get_or sofar.grants k (cycles 0)).0 0) i o v.ungranted)

  -- the jobs after it, at its place and elsewhere
  here : job_at ts (settle_at ts i u sofar).jobs i ≡ settled_job sofar.left.0 u (job_at ts sofar.jobs i)
  here = job_here ts i u sofar (omega (arith, v.runs, place)) (omega (arith, v.marks, place))

  elsewhere : (k : ℕ) → (k ≡ i → ⊥) → job_at ts (settle_at ts i u sofar).jobs k ≡ job_at ts sofar.jobs k
  elsewhere = job_elsewhere ts i u sofar

  still_right : (k : ℕ) → k < n → run_right (job_at ts (settle_at ts i u sofar).jobs k) ≡ true
  still_right k l = go (ℕ_discrete k i)
    where
      go : Dec (k ≡ i) → run_right (job_at ts (settle_at ts i u sofar).jobs k) ≡ true
      go (yes e) = rw (e, here) (granted_right sofar.left.0 u (job_at ts sofar.jobs i) (v.right i place) ready a)
      go (no ne) = rw (elsewhere k ne) (v.right k l)

  still_others : (k : ℕ) → n ≤ k → job_at ts (settle_at ts i u sofar).jobs k ≡ job_at ts js k
  still_others k l = elsewhere k apart_from ∙ v.others k l
    where
      apart_from : k ≡ i → ⊥
      apart_from e = omega (arith, place)

  still_shared : grants_sum (settle_at ts i u sofar) + (settle_at ts i u sofar).left.0 ≡ speed
  unfolding settle_at
  still_shared =
      let within : granted sofar.left.0 u (job_at ts sofar.jobs i) ≤ sofar.left.0 = granted_left sofar.left.0 u (job_at ts sofar.jobs i) a in
      let sum = total-set (λ (g : Cycles). g.0) sofar.grants i (cycles (granted sofar.left.0 u (job_at ts sofar.jobs i))) (cycles 0) (omega (arith, v.grants, place)) in
      omega (arith, sum, none_yet, v.shared, within)

  still_cuts : (settle_at ts i u sofar).cut + length o ≤ most_tasks
  unfolding settle_at
  still_cuts = go (is_cut sofar.left.0 u (job_at ts sofar.jobs i))
    where
      go : (b : Bool) → sofar.cut + cond b 1 0 + length o ≤ most_tasks
      go true = omega (arith, v.cuts)
      go false = omega (arith, v.cuts)

  pub settles_job : Settles ts js n speed o (settle_at ts i u sofar)
  unfolding settle_at put_at apart
  settles_job =
      record {
        runs = length-set sofar.jobs.run i _ ∙ v.runs;
        marks = length-set sofar.jobs.over i _ ∙ v.marks;
        grants = length-set sofar.grants i _ ∙ v.grants;
        right = still_right;
        others = still_others;
        waiting = every_kept _ _ i (λ k ne. sym (ap (λ j. not j.over) (elsewhere k ne))) o new (every_rest (λ k. not (job_at ts sofar.jobs k).over) i o v.waiting);
        ungranted = every_kept _ _ i (λ k ne. sym (ap (λ g. eqb g 0) (grant_elsewhere ts i u sofar k ne))) o new (every_rest (λ k. eqb (get_or sofar.grants k (cycles 0)).0 0) i o v.ungranted);
        below = every_rest (λ k. ltb k n) i o v.below;
        different = both_right (every (λ k. not (eqb k i)) o) (apart o) v.different;
        shared = still_shared;
        cuts = still_cuts;
      }

-- where every entry of an order is allowed, the first one is, and those of the rest after its turn
module _ (ts : Tasks) (report : List ℕ) (i : ℕ) (o : List ℕ) (sofar : Settling) (a : all_allowed ts report (i ∷ o) sofar ≡ true) where
  pub allowed_first : allowed sofar.left.0 (get_or report i 0) (job_at ts sofar.jobs i) ≡ true
  unfolding all_allowed
  allowed_first = both_left (allowed sofar.left.0 (get_or report i 0) (job_at ts sofar.jobs i)) (all_allowed ts report o (settle_at ts i (get_or report i 0) sofar)) a

  pub allowed_rest : all_allowed ts report o (settle_at ts i (get_or report i 0) sofar) ≡ true
  unfolding all_allowed
  allowed_rest = both_right (allowed sofar.left.0 (get_or report i 0) (job_at ts sofar.jobs i)) (all_allowed ts report o (settle_at ts i (get_or report i 0) sofar)) a

-- the whole order settled, where every entry is allowed
pub settles_all : (ts : Tasks) (js : Jobs) (n speed : ℕ) (report o : List ℕ) (sofar : Settling) → n ≤ most_tasks → all_allowed ts report o sofar ≡ true → Settles ts js n speed o sofar → Settles ts js n speed [] (settle_all ts report o sofar)
unfolding settle_all
settles_all ts js n speed report [] sofar m a v = v
settles_all ts js n speed report (i ∷ o) sofar m a v =
    let u = get_or report i 0 in
    settles_all ts js n speed report o (settle_at ts i u sofar) m (allowed_rest ts report i o sofar a)
    (settles_job ts js n speed i u o sofar m v (allowed_first ts report i o sofar a))

-- at the tick's start, for an order of ready tasks below n, all different
module _ (ts : Tasks) (js : Jobs) (n speed : ℕ) (o : List ℕ) where
  zero_grants : (m : ℕ) → total (λ (g : Cycles). g.0) (up_to m (λ i. cycles 0)) ≡ 0
  unfolding up_to total
  zero_grants zero = refl
  zero_grants (suc m) =
      let rest = zero_grants m in
      omega arith

  pub settles_begun : length js.run ≡ most_tasks → length js.over ≡ most_tasks → n ≤ most_tasks → ((k : ℕ) → k < n → run_right (job_at ts js k) ≡ true) → every (λ i. not (job_at ts js i).over) o ≡ true → every (λ i. ltb i n) o ≡ true → apart o ≡ true → length o ≤ n → Settles ts js n speed o (at_tick_start js speed)
  unfolding at_tick_start
  settles_begun r m b right w l a s =
      record {
        runs = r;
        marks = m;
        grants = length-up_to most_tasks (λ i. cycles 0);
        right = right;
        others = λ k h. refl;
        waiting = w;
        ungranted = every_mono (λ i. ltb i n) (λ i. eqb (get_or (up_to most_tasks (λ k. cycles 0)) i (cycles 0)).0 0) (λ i e. none i (ltb-true i n e)) o l;
        below = l;
        different = a;
        shared = omega (arith, zero_grants most_tasks);
        cuts = omega arith;
      }
    where
      none : (i : ℕ) → i < n → eqb (get_or (up_to most_tasks (λ k. cycles 0)) i (cycles 0)).0 0 ≡ true
      none i h = rw (get_d_up_to most_tasks (λ k. cycles 0) i (cycles 0) (omega arith))
