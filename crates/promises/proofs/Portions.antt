-- What a tick that keeps rule 4 does to the job at one place, by its entry and its grant alone, and how many jobs it cuts: a job that is over stays, a ready one has its turn.
use mathlib.Core.Path.{◌≡◌, refl, sym, ap, ◌∙◌}
use mathlib.Core.Bool.{Bool, true, false, false≢true, cond, not, ◌&&◌, ◌||◌}
use mathlib.Core.List.{List}
use Prim.Native.Nat.{ℕ, zero, suc, ◌+◌, ◌≤◌, ◌<◌, min}
use native.Mathlib.Decide.{ℕ_discrete}
use native.Mathlib.Omega.{arith}
use lib.Dec.{eqb}
use lib.ListN.{get_or}
use borrow.Author.Tests.{eqb-true, eq-eqb, ne_eqb}
use Rattle.rules.specs.declared.Job.{Job}
use Rattle.rules.specs.declared.Settling.{Settling}
use Rattle.rules.specs.declared.State.{State}
use Rattle.rules.specs.Words.{total}
use Rattle.rules.specs.State.{Shaped, job_at}
use Rattle.rules.specs.Choice.{order_by, deadline_at, ready_at, order_of}
use Rattle.rules.specs.Settlement.{by_bullet, remaining, uses_up, allowed, granted, is_over, over_entries_zero, at_tick_start, settled, keeps_rule4}
use Rattle.rules.specs.Numbers.{run_right}
use Rattle.rules.proofs.Lists.{up_to_at}
use Rattle.rules.proofs.Totals.{total_last}
use Rattle.rules.proofs.Orders.{every_mono, total-insert, order_in_lem, order_out, order_ready}
use Rattle.rules.proofs.Stores.{with_run}
use Rattle.rules.proofs.Places.{run_below, run_most}
use Rattle.rules.proofs.Shares.{settled_job, granted_right, nothing_left, entry_u, above_run}
use Rattle.rules.proofs.Settles.{Settles}
use Rattle.rules.proofs.Keeps.{jobs_right, over_zeros, all_allowed_lem, settles_start}
use Rattle.rules.proofs.Soundness.{Sound}
use Rattle.promises.specs.Runs.{sum_to}
use Rattle.ontime.proofs.Sums.{sum_none, sum_same}
use Rattle.ontime.proofs.Levels.{order_has}
use Rattle.promises.proofs.SettledPlaces.{grant_at, none_granted, absent, job_kept, grant_kept, Turn, walk_turn, walk_cut}

-- entry u and grant g take the job j to the job k
pub record Portion (u g : ℕ) (j k : Job) : Type 0 where
  pub run_is : k.run.0 ≡ j.run.0 + g
  pub within : j.run.0 + g ≤ j.reserve.0
  pub was_over : j.over ≡ true → (g ≡ 0) × (u ≡ 0) × (k.over ≡ true)
  pub no_finish : j.over ≡ false → u ≡ 0 → k.over ≡ eqb (j.run.0 + g) j.reserve.0
  pub finish : j.over ≡ false → (u ≡ 0 → ⊥) → (j.run.0 + g ≡ u) × (k.over ≡ true)

-- what a tick may find: the job is over; it finishes; it uses its reserve up with entry 0; or it goes on
pub tick_finds : (u g : ℕ) (j : Job) (A : Type 0)
    → (j.over ≡ true → A)
    → (j.over ≡ false → (u ≡ 0 → ⊥) → A)
    → (j.over ≡ false → u ≡ 0 → eqb (j.run.0 + g) j.reserve.0 ≡ true → A)
    → (j.over ≡ false → u ≡ 0 → eqb (j.run.0 + g) j.reserve.0 ≡ false → A)
    → A
tick_finds u g j A over finishes used_up goes_on = go j.over refl (ℕ_discrete u 0) (eqb (j.run.0 + g) j.reserve.0) refl
  where
    go : (b : Bool) → j.over ≡ b → Dec (u ≡ 0) → (c : Bool) → eqb (j.run.0 + g) j.reserve.0 ≡ c → A
    go true o d c e = over o
    go false n (no some) c e = finishes n some
    go false n (yes z) true e = used_up n z e
    go false n (yes z) false e = goes_on n z e

-- a job that is over, with entry 0 and grant 0, stays as it is
over_portion : (u : ℕ) (j : Job) → run_right j ≡ true → j.over ≡ true → u ≡ 0 → Portion u 0 j j
over_portion u j r o z =
    record {
      run_is = omega arith;
      within = omega (arith, run_most j r);
      was_over = λ e. (refl, z, o);
      no_finish = λ e. absurd (false≢true (sym e ∙ o));
      finish = λ e. absurd (false≢true (sym e ∙ o));
    }

-- a ready job, by rule 4's bullets
module _ (left u : ℕ) (j : Job) where
  -- with entry 0 it is over exactly where its reserve is used up; where nothing is left it is neither
  over_at_reserve : j.run.0 < j.reserve.0 → u ≡ 0 → is_over left u j ≡ eqb (j.run.0 + granted left u j) j.reserve.0
  unfolding is_over granted by_bullet uses_up
  over_at_reserve below z = rw (eq-eqb u 0 z) (go (eqb left 0))
    where
      short : j.run.0 + 0 ≡ j.reserve.0 → ⊥
      short e = omega (arith, below)

      go : (b : Bool) → cond b false (uses_up left j) ≡ eqb (j.run.0 + cond b 0 (min left (remaining j))) j.reserve.0
      go true = sym (ne_eqb (j.run.0 + 0) j.reserve.0 short)
      go false = refl

  -- with another entry it is over at that entry, and something was left
  over_at_entry : allowed left u j ≡ true → (u ≡ 0 → ⊥) → (j.run.0 + granted left u j ≡ u) × (is_over left u j ≡ true)
  unfolding allowed granted is_over
  over_at_entry a n = go (eqb left 0) refl
    where
      some : eqb u 0 ≡ false
      some = ne_eqb u 0 n

      go : (b : Bool) → eqb left 0 ≡ b → (j.run.0 + granted left u j ≡ u) × (is_over left u j ≡ true)
      go true e = absurd (false≢true (sym some ∙ sym (nothing_left left u _ _ _ e) ∙ a))
      go false e = (
        ap (λ g. j.run.0 + g) (entry_u left u _ _ _ e some) ∙ omega (arith, (above_run left u j e some a).0),
        entry_u left u _ _ _ e some,
      )

  -- both together
  ready_portion : run_right j ≡ true → j.over ≡ false → allowed left u j ≡ true → Portion u (granted left u j) j (settled_job left u j)
  unfolding with_run
  ready_portion r o a =
      record {
        run_is = refl;
        within = run_most (settled_job left u j) (granted_right left u j r o a);
        was_over = λ e. absurd (false≢true (sym o ∙ e));
        no_finish = λ e. over_at_reserve (run_below j r o);
        finish = λ e. over_at_entry a;
      }

-- a job that has its turn
turn_portion : (u g : ℕ) (j k : Job) → Turn u g j k → Portion u g j k
turn_portion u g j k t = rw (t.job_is, t.grant_is) (ready_portion t.left u j t.right t.ready t.may)

-- a sum over the order is the sum over the ready places
order_sum : (key : ℕ → ℕ) (ready : ℕ → Bool) (f : ℕ → ℕ) (n : ℕ) → total f (order_by key ready n) ≡ sum_to n (λ i. cond (ready i) (f i) 0)
unfolding order_by total
order_sum key ready f zero = sym (sum_none (λ i. cond (ready i) (f i) 0))
order_sum key ready f (suc n) = go (ready n) refl (order_sum key ready f n)
  where
    term : ℕ → ℕ
    term i = cond (ready i) (f i) 0

    go : (b : Bool) → ready n ≡ b → total f (order_by key ready n) ≡ sum_to n term → total f (order_by key ready (suc n)) ≡ sum_to (suc n) term
    go true e h =
        let last : term n ≡ f n = ap (λ (b : Bool). cond b (f n) 0) e in
        rw (order_in_lem key ready n e) (omega (arith, total-insert key n f (order_by key ready n), total_last term n))
    go false e h =
        let last : term n ≡ 0 = ap (λ (b : Bool). cond b (f n) 0) e in
        rw (order_out key ready n e) (omega (arith, total_last term n))

-- what entry u and grant g add to cut: 1 for a job that was not over and uses its reserve up with entry 0
abbrev pub cut_now : ℕ → ℕ → Job → ℕ
cut_now u g j = cond (not j.over && eqb u 0 && eqb (j.run.0 + g) j.reserve.0) 1 0

-- a portion that ends over with entry 0 uses the reserve up
portion_cut : (u g : ℕ) (j k : Job) → Portion u g j k → cond (not j.over) (cond (eqb u 0 && k.over) 1 0) 0 ≡ cut_now u g j
portion_cut u g j k p = go j.over (eqb u 0) refl refl
  where
    go : (b c : Bool) → j.over ≡ b → eqb u 0 ≡ c → ◌≡◌ {A = ℕ} (cond (not b) (cond (c && k.over) 1 0) 0) (cond (not b && c && eqb (j.run.0 + g) j.reserve.0) 1 0)
    go true c o z = refl
    go false false o z = refl
    go false true o z = ap (λ (b : Bool). cond b 1 0) (p.no_finish o (eqb-true u 0 z))

-- of the task at a place, in a settled tick: the cycles granted to it, and what it adds to cut
abbrev pub share : State → ℕ → List ℕ → ℕ → ℕ
share s speed report = grant_at (settled s speed report)

abbrev pub cut_at : State → ℕ → List ℕ → ℕ → ℕ
cut_at s speed report i = cut_now (get_or report i 0) (share s speed report i) (job_at s.tasks s.jobs i)

module _ (s : State) (f : Sound s) (shape : Shaped s) (speed : ℕ) (report : List ℕ) (lawful : keeps_rule4 s speed report ≡ true) where
  abbrev job : ℕ → Job
  job i = job_at s.tasks s.jobs i

  abbrev start : Settling
  start = at_tick_start s.jobs speed

  -- the settlement as it begins, with the ready jobs to come
  begun : Settles s.tasks s.jobs s.tasks.count speed (order_of s) start
  begun = settles_start s (jobs_right s f shape) speed

  -- a job that is over has entry 0 and is not in the order
  over_entry : (i : ℕ) → i < s.tasks.count → (job i).over ≡ true → get_or report i 0 ≡ 0
  unfolding over_entries_zero
  over_entry i h o =
      let here : (not (job i).over || eqb (get_or report i 0) 0) ≡ true =
      up_to_at (λ k. not (job k).over || eqb (get_or report k 0) 0) s.tasks.count (λ k. k) (over_zeros s speed report lawful) i h in
      eqb-true (get_or report i 0) 0 (rw o at here)

  over_absent : (i : ℕ) → (job i).over ≡ true → absent i (order_of s) ≡ true
  unfolding order_of ready_at
  over_absent i o =
      every_mono (ready_at s) (λ k. not (eqb k i)) differs (order_of s) (order_ready (deadline_at s) (ready_at s) s.tasks.count)
    where
      differs : (k : ℕ) → ready_at s k ≡ true → not (eqb k i) ≡ true
      differs k r = ap not (ne_eqb k i (λ (e : k ≡ i). false≢true (sym (ap not o) ∙ (rw e at r))))

  -- a job that is over keeps its place as it is, a ready one has its turn
  pub portion : (i : ℕ) → i < s.tasks.count → Portion (get_or report i 0) (share s speed report i) (job_at s.tasks s.jobs i) (job_at s.tasks (settled s speed report).jobs i)
  unfolding settled at_tick_start order_of ready_at
  portion i h = go (job i).over refl
    where
      go : (b : Bool) → (job i).over ≡ b → Portion (get_or report i 0) (share s speed report i) (job i) (job_at s.tasks (settled s speed report).jobs i)
      go true o =
          let out = over_absent i o in
          let none = none_granted s.jobs speed i (omega (arith, f.tasks_most)) in
          rw (job_kept s.tasks report i (order_of s) start out, grant_kept s.tasks report i (order_of s) start out, none)
          (over_portion (get_or report i 0) (job i) (f.run_right_lem i h) o (over_entry i h o))
      go false o =
          turn_portion _ _ _ _
          (walk_turn s.tasks s.jobs s.tasks.count speed f.tasks_most report i (order_of s) start (all_allowed_lem s speed report lawful) begun
          (order_has (deadline_at s) (ready_at s) s.tasks.count i h (ap not o)))

  -- the jobs of the order that end over with entry 0, counted place by place
  pub cut_is : (settled s speed report).cut ≡ sum_to s.tasks.count (cut_at s speed report)
  unfolding settled at_tick_start order_of ready_at
  cut_is =
      let along = walk_cut s.tasks s.jobs s.tasks.count speed f.tasks_most report (order_of s) start (all_allowed_lem s speed report lawful) begun in
      let places = sum_same (λ i. cond (ready_at s i) (ends_cut i) 0) (cut_at s speed report) s.tasks.count same in
      omega (arith, along, order_sum (deadline_at s) (ready_at s) ends_cut s.tasks.count, places)
    where
      end : ℕ → Job
      end i = job_at s.tasks (settled s speed report).jobs i

      ends_cut : ℕ → ℕ
      ends_cut i = cond (eqb (get_or report i 0) 0 && (end i).over) 1 0

      same : (i : ℕ) → i < s.tasks.count → cond (ready_at s i) (ends_cut i) 0 ≡ cut_at s speed report i
      same i h = portion_cut (get_or report i 0) (share s speed report i) (job i) (end i) (portion i h)
