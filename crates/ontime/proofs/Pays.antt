-- A settled tick pays what is due: after it the jobs that count by d owe no more than they still have room for. By induction on the order, which has them first.
use mathlib.Core.Path.{◌≡◌, refl, sym, ap, ◌∙◌}
use mathlib.Core.Bool.{Bool, true, false, true≢false, false≢true, cond, not, ◌&&◌}
use mathlib.Core.List.Memᴰ
use mathlib.Core.List.{List, [], ◌∷◌, Memᴰ}
use Prim.Native.Nat.{ℕ, ◌+◌, ◌-◌, ◌*◌, ◌/◌, ◌≤◌, ◌<◌}
use native.Mathlib.Decide.{ℕ_discrete, dec_lt}
use native.Mathlib.Omega.{arith}
use lib.Dec.{eqb, leb, ltb}
use lib.ListN.{length, get_or, length-set}
use borrow.Author.Tests.{leb-true, le-leb, ltb-true, not-true}
use Rattle.rules.specs.declared.Jobs.{Jobs}
use Rattle.rules.specs.declared.Job.{Job}
use Rattle.rules.specs.declared.Settling.{Settling}
use Rattle.rules.specs.Words.{every}
use Rattle.rules.specs.Limits.{most_tasks}
use Rattle.rules.specs.State.{job_at, put_at}
use Rattle.rules.specs.Load.{use_of}
use Rattle.rules.specs.Settlement.{allowed, granted, settle_at, settle_all, all_allowed, at_tick_start}
use Rattle.rules.specs.Numbers.{run_right}
use Rattle.rules.proofs.Lists.{both_left, both_right, every_first, every_rest}
use Rattle.rules.proofs.Totals.{total_mono, total_change}
use Rattle.rules.proofs.Orders.{apart, every_mono, order_ready, order_below, order_apart}
use Rattle.rules.proofs.Sorted.{order_sorted}
use Rattle.rules.proofs.Shares.{settled_job, granted_left}
use Rattle.rules.proofs.Settles.{every_kept, job_here, job_elsewhere, allowed_first, allowed_rest}
use Rattle.ontime.specs.OnTime.{Course, sum_to, counts, owes, room, owed_at, room_at, CoveredFrom, Covered, load_at, load_in, ready_in, order_in, settled_in, Right, Paid, AnyTickPays, job_of}
use Rattle.ontime.proofs.Sums.{sum_zero, zero_sum, sum_add, sum_below}
use Rattle.ontime.proofs.Levels.{LevelFirst, level_rest, level_none, upto_first, order_has, mem_rest}
use Rattle.ontime.proofs.OneJob.{none_owes, over_owes, owing_open, none_room, no_room, tick_spends, left_over, still_right, due_pays, owes_none_over}

-- an order that is still to be settled: its places hold tasks whose jobs are not over, all different
record Waits (c : Course) (o : List ℕ) (sofar : Settling) : Type 0 where
  runs : length sofar.jobs.run ≡ most_tasks
  marks : length sofar.jobs.over ≡ most_tasks
  right : (k : ℕ) → k < c.places → c.held k ≡ true → run_right (job_of c sofar.jobs k) ≡ true
  waiting : every (λ i. not (job_of c sofar.jobs i).over) o ≡ true
  holds : every c.held o ≡ true
  below : every (λ i. ltb i c.places) o ≡ true
  different : apart o ≡ true

module _ (c : Course) (few : c.places ≤ most_tasks) (near : (i : ℕ) → i < c.places → c.held i ≡ true → c.due i ≤ c.tick + (job_of c c.jobs i).period.0) (report : List ℕ) where
  -- one job settled
  module _ (i : ℕ) (o : List ℕ) (sofar : Settling) (v : Waits c (i ∷ o) sofar) where
    abbrev j : Job
    j = job_of c sofar.jobs i

    abbrev u : ℕ
    u = get_or report i 0

    abbrev next : Settling
    next = settle_at c.tasks i u sofar

    place : i < c.places
    place = ltb-true i c.places (every_first (λ k. ltb k c.places) i o v.below)

    has : c.held i ≡ true
    has = every_first c.held i o v.holds

    ready : j.over ≡ false
    ready = not-true _ (every_first (λ k. not (job_of c sofar.jobs k).over) i o v.waiting)

    once : every (λ k. not (eqb k i)) o ≡ true
    unfolding apart
    once = both_left (every (λ k. not (eqb k i)) o) (apart o) v.different

    here : job_of c next.jobs i ≡ settled_job sofar.left.0 u j
    here = job_here c.tasks i u sofar (omega (arith, v.runs, place)) (omega (arith, v.marks, place))

    elsewhere : (k : ℕ) → (k ≡ i → ⊥) → job_of c next.jobs k ≡ job_of c sofar.jobs k
    elsewhere = job_elsewhere c.tasks i u sofar

    waits_rest : allowed sofar.left.0 u j ≡ true → Waits c o next
    unfolding settle_at put_at apart
    waits_rest a =
        record {
          runs = length-set sofar.jobs.run i _ ∙ v.runs;
          marks = length-set sofar.jobs.over i _ ∙ v.marks;
          right = λ k l h. go k l h (ℕ_discrete k i);
          waiting = every_kept _ _ i (λ k ne. sym (ap (λ (x : Job). not x.over) (elsewhere k ne))) o once (every_rest (λ k. not (job_of c sofar.jobs k).over) i o v.waiting);
          holds = every_rest c.held i o v.holds;
          below = every_rest (λ k. ltb k c.places) i o v.below;
          different = both_right (every (λ k. not (eqb k i)) o) (apart o) v.different;
        }
      where
        go : (k : ℕ) → k < c.places → c.held k ≡ true → Dec (k ≡ i) → run_right (job_of c (settle_at c.tasks i u sofar).jobs k) ≡ true
        go k l h (yes e) = rw (e, here) (still_right sofar.left.0 u j (v.right i place has) ready a)
        go k l h (no ne) = rw (elsewhere k ne) (v.right k l h)

    -- a sum over the jobs changes by this job's part
    change : (f : ℕ → Job → ℕ) → sum_to c.places (λ k. f k (job_of c next.jobs k)) + f i j ≡ sum_to c.places (λ k. f k (job_of c sofar.jobs k)) + f i (job_of c next.jobs i)
    change f =
        total_change (λ k. f k (job_of c next.jobs k)) (λ k. f k (job_of c sofar.jobs k)) c.places i place (λ k ne. ap (f k) (elsewhere k ne))

  -- by d
  module _ (d : ℕ) where
    abbrev great : ℕ
    great = c.tasks.great.0

    abbrev owed : Jobs → ℕ
    owed js = sum_to c.places (owed_at c js d)

    abbrev roomy : Jobs → ℕ
    roomy js = sum_to c.places (room_at c js (c.tick + 1) d)

    -- what is owed by d is within the room for it and what is left of the tick
    Enough : Settling → Type 0
    Enough sofar = owed sofar.jobs ≤ roomy sofar.jobs + great * sofar.left.0

    -- every job that counts and is not over is still to come
    Covers : List ℕ → Jobs → Type 0
    Covers o js = (k : ℕ) → k < c.places → (job_of c js k).over ≡ false → counts c d k ≡ true → Memᴰ k o

    -- where there is no such job, nothing is owed
    nothing_owed : (js : Jobs) → ((k : ℕ) → k < c.places → (job_of c js k).over ≡ false → counts c d k ≡ true → ⊥) → owed js ≡ 0
    nothing_owed js none =
        sum_zero (owed_at c js d) c.places (λ k l. go k l (job_of c js k).over (counts c d k) refl refl)
      where
        go : (k : ℕ) → k < c.places → (b e : Bool) → (job_of c js k).over ≡ b → counts c d k ≡ e → owes great (counts c d k) (job_of c js k) ≡ 0
        go k l true e o h = over_owes great (job_of c js k) (counts c d k) o
        go k l false true o h = absurd (none k l o h)
        go k l false false o h = rw h (none_owes great (job_of c js k))

    module _ (i : ℕ) (o : List ℕ) (sofar : Settling) (v : Waits c (i ∷ o) sofar) where
      -- a job that leaves cycles behind is over, so that all the others are still to come
      covers_rest : (0 < sofar.left.0 → Covers (i ∷ o) sofar.jobs) → 0 < (next i o sofar v).left.0 → Covers o (next i o sofar v).jobs
      unfolding Covers settle_at
      covers_rest cs more k l unfinished e = go (ℕ_discrete k i)
        where
          go : Dec (k ≡ i) → Memᴰ k o
          go (yes z) = absurd (true≢false (sym (left_over sofar.left.0 (u i o sofar v) (j i o sofar v) (v.right i (place i o sofar v) (has i o sofar v)) (ready i o sofar v) more) ∙ (rw (z, here i o sofar v) at unfinished)))
          go (no ne) = mem_rest k i o ne (cs (omega arith) k l (rw (elsewhere i o sofar v k ne) at unfinished) e)

      -- a job that counts pays for what it takes of what is left
      module _ (a : allowed sofar.left.0 (u i o sofar v) (j i o sofar v) ≡ true) (e : counts c d i ≡ true) where
        left_is : sofar.left.0 ≡ (next i o sofar v).left.0 + granted sofar.left.0 (u i o sofar v) (j i o sofar v)
        unfolding settle_at
        left_is = omega (arith, granted_left sofar.left.0 (u i o sofar v) (j i o sofar v) a)

        ticks_left : c.due i - (c.tick + 1) ≤ (j i o sofar v).period.0
        unfolding job_at
        ticks_left = omega (arith, near i (place i o sofar v) (has i o sofar v))

        job_pays : owes great true (job_of c (next i o sofar v).jobs i) + room great true (c.due i - (c.tick + 1)) (j i o sofar v) + great * granted sofar.left.0 (u i o sofar v) (j i o sofar v) ≤ owes great true (j i o sofar v) + room great true (c.due i - (c.tick + 1)) (job_of c (next i o sofar v).jobs i)
        job_pays =
            rw (here i o sofar v)
            (due_pays sofar.left.0 (u i o sofar v) (j i o sofar v) (v.right i (place i o sofar v) (has i o sofar v)) (ready i o sofar v) a great (c.due i - (c.tick + 1)) ticks_left)

        paid : Enough sofar → Enough (next i o sofar v)
        unfolding Enough
        paid h =
            let x = change i o sofar v (λ k y. owes great (counts c d k) y) in
            let y = change i o sofar v (λ k y. room great (counts c d k) (c.due k - (c.tick + 1)) y) in
            let x' : owed (next i o sofar v).jobs + owes great true (j i o sofar v) ≡ owed sofar.jobs + owes great true (job_of c (next i o sofar v).jobs i) = subst2 e x in
            let y' : roomy (next i o sofar v).jobs + room great true (c.due i - (c.tick + 1)) (j i o sofar v) ≡ roomy sofar.jobs + room great true (c.due i - (c.tick + 1)) (job_of c (next i o sofar v).jobs i) = subst3 e y in
            omega (arith, job_pays, x', y', ap (λ z. great * z) left_is)
          where
            subst2 : counts c d i ≡ true → owed (next i o sofar v).jobs + owes great (counts c d i) (j i o sofar v) ≡ owed sofar.jobs + owes great (counts c d i) (job_of c (next i o sofar v).jobs i) → owed (next i o sofar v).jobs + owes great true (j i o sofar v) ≡ owed sofar.jobs + owes great true (job_of c (next i o sofar v).jobs i)
            subst2 w q = ap (λ (b : Bool). owed (next i o sofar v).jobs + owes great b (j i o sofar v)) (sym w) ∙ q ∙ ap (λ (b : Bool). owed sofar.jobs + owes great b (job_of c (next i o sofar v).jobs i)) w

            subst3 : counts c d i ≡ true → roomy (next i o sofar v).jobs + room great (counts c d i) (c.due i - (c.tick + 1)) (j i o sofar v) ≡ roomy sofar.jobs + room great (counts c d i) (c.due i - (c.tick + 1)) (job_of c (next i o sofar v).jobs i) → roomy (next i o sofar v).jobs + room great true (c.due i - (c.tick + 1)) (j i o sofar v) ≡ roomy sofar.jobs + room great true (c.due i - (c.tick + 1)) (job_of c (next i o sofar v).jobs i)
            subst3 w q = ap (λ (b : Bool). roomy (next i o sofar v).jobs + room great b (c.due i - (c.tick + 1)) (j i o sofar v)) (sym w) ∙ q ∙ ap (λ (b : Bool). roomy sofar.jobs + room great b (c.due i - (c.tick + 1)) (job_of c (next i o sofar v).jobs i)) w

      -- one that does not changes neither side, and no job that counts comes after it
      module _ (e : counts c d i ≡ false) where
        owes_none : (js : Jobs) → owes great (counts c d i) (job_of c js i) ≡ 0
        owes_none js = ap (λ (b : Bool). owes great b (job_of c js i)) e ∙ none_owes great (job_of c js i)

        room_none : (js : Jobs) → room great (counts c d i) (c.due i - (c.tick + 1)) (job_of c js i) ≡ 0
        room_none js = ap (λ (b : Bool). room great b (c.due i - (c.tick + 1)) (job_of c js i)) e ∙ none_room great (job_of c js i) (c.due i - (c.tick + 1))

        owed_same : owed (next i o sofar v).jobs ≡ owed sofar.jobs
        owed_same = omega (arith, change i o sofar v (λ k y. owes great (counts c d k) y), owes_none sofar.jobs, owes_none (next i o sofar v).jobs)

        room_same : roomy (next i o sofar v).jobs ≡ roomy sofar.jobs
        room_same = omega (arith, change i o sofar v (λ k y. room great (counts c d k) (c.due k - (c.tick + 1)) y), room_none sofar.jobs, room_none (next i o sofar v).jobs)

        late_key : leb (c.due i) d ≡ false
        unfolding counts
        late_key = go (c.held i) (has i o sofar v) e
          where
            go : (b : Bool) → b ≡ true → (b && leb (c.due i) d) ≡ false → leb (c.due i) d ≡ false
            go true z w = w
            go false z w = absurd (false≢true z)

        none_owed : LevelFirst (λ k. leb (c.due k) d) (i ∷ o) → Covers (i ∷ o) sofar.jobs → owed sofar.jobs ≡ 0
        unfolding Covers counts
        none_owed first cs = nothing_owed sofar.jobs (λ k l unfinished w. false≢true (sym (level_none (λ x. leb (c.due x) d) i o first late_key k (cs k l unfinished w)) ∙ both_right (c.held k) (leb (c.due k) d) w))

      -- either way
      still_enough : allowed sofar.left.0 (u i o sofar v) (j i o sofar v) ≡ true → LevelFirst (λ k. leb (c.due k) d) (i ∷ o) → (0 < sofar.left.0 → Covers (i ∷ o) sofar.jobs) → Enough sofar → Enough (next i o sofar v)
      unfolding Enough
      still_enough a first cs h = go (counts c d i) refl (ℕ_discrete sofar.left.0 0)
        where
          go : (b : Bool) → counts c d i ≡ b → Dec (sofar.left.0 ≡ 0) → Enough (next i o sofar v)
          go true e z = paid a e h
          go false e (yes z) = omega (arith, owed_same e, room_same e, ap (λ x. great * x) z)
          go false e (no z) = omega (arith, owed_same e, none_owed e first (cs (omega arith)))

    -- the whole order settled
    settle_pays : (o : List ℕ) (sofar : Settling) → Waits c o sofar → all_allowed c.tasks report o sofar ≡ true → LevelFirst (λ k. leb (c.due k) d) o → (0 < sofar.left.0 → Covers o sofar.jobs) → Enough sofar → owed (settle_all c.tasks report o sofar).jobs ≤ roomy (settle_all c.tasks report o sofar).jobs
    unfolding settle_all Covers Enough
    settle_pays [] sofar v a first cs h = go (ℕ_discrete sofar.left.0 0)
      where
        go : Dec (sofar.left.0 ≡ 0) → owed sofar.jobs ≤ roomy sofar.jobs
        go (yes z) = omega (arith, ap (λ x. great * x) z)
        go (no z) = omega (arith, nothing_owed sofar.jobs (λ k l unfinished e. Memᴰ.not-nil (cs (omega arith) k l unfinished e)))
    settle_pays (i ∷ o) sofar v a first cs h =
        let one = allowed_first c.tasks report i o sofar a in
        settle_pays o (settle_at c.tasks i (get_or report i 0) sofar) (waits_rest i o sofar v one) (allowed_rest c.tasks report i o sofar a)
        (level_rest (λ k. leb (c.due k) d) i o first) (covers_rest i o sofar v cs) (still_enough i o sofar v one first cs h)

  -- the jobs after the whole order are right
  settle_waits : (o : List ℕ) (sofar : Settling) → Waits c o sofar → all_allowed c.tasks report o sofar ≡ true → Waits c [] (settle_all c.tasks report o sofar)
  unfolding settle_all
  settle_waits [] sofar v a = v
  settle_waits (i ∷ o) sofar v a =
      settle_waits o (settle_at c.tasks i (get_or report i 0) sofar) (waits_rest i o sofar v (allowed_first c.tasks report i o sofar a)) (allowed_rest c.tasks report i o sofar a)

-- a tick at a speed that carries the load wherever a job is ready
module _ (c : Course) (r : Right c c.jobs) (covered : Covered c) (speed : ℕ) (report : List ℕ)
    (lawful : all_allowed c.tasks report (order_in c) (at_tick_start c.jobs speed) ≡ true)
    (fast : (i : ℕ) → i < c.places → ready_in c i ≡ true → load_in c ≤ speed * c.tasks.great.0) where
  begun : Waits c (order_in c) (at_tick_start c.jobs speed)
  unfolding at_tick_start ready_in
  begun =
      let all = order_ready c.due (ready_in c) c.places in
      record {
        runs = r.runs;
        marks = r.marks;
        right = r.run_right_lem;
        waiting = every_mono (ready_in c) (λ i. not (job_of c c.jobs i).over) (λ i e. both_right (c.held i) (not (job_of c c.jobs i).over) e) (order_in c) all;
        holds = every_mono (ready_in c) c.held (λ i e. both_left (c.held i) (not (job_of c c.jobs i).over) e) (order_in c) all;
        below = order_below c.due (ready_in c) c.places;
        different = order_apart c.due (ready_in c) c.places;
      }

  spent : (d : ℕ) → sum_to c.places (room_at c c.jobs c.tick d) ≤ sum_to c.places (room_at c c.jobs (c.tick + 1) d) + load_in c
  unfolding counts load_at
  spent d =
      omega (
        arith,
        sum_add (room_at c c.jobs (c.tick + 1) d) (load_at c) c.places,
        total_mono (room_at c c.jobs c.tick d) (λ i. room_at c c.jobs (c.tick + 1) d i + load_at c i) c.places (λ i l. one i),
      )
    where
      part : (i : ℕ) → cond (counts c d i) (use_of (job_of c c.jobs i) * (c.tasks.great.0 / (job_of c c.jobs i).period.0)) 0 ≤ load_at c i
      part i = go (c.held i) (leb (c.due i) d)
        where
          go : (a b : Bool) → cond (a && b) (use_of (job_of c c.jobs i) * (c.tasks.great.0 / (job_of c c.jobs i).period.0)) 0 ≤ cond a (use_of (job_of c c.jobs i) * (c.tasks.great.0 / (job_of c c.jobs i).period.0)) 0
          go true true = omega arith
          go true false = omega arith
          go false b = omega arith

      one : (i : ℕ) → room_at c c.jobs c.tick d i ≤ room_at c c.jobs (c.tick + 1) d i + load_at c i
      one i = omega (arith, tick_spends c.tasks.great.0 (job_of c c.jobs i) (counts c d i) (c.due i) c.tick, part i)

  -- where something is owed a job is ready, so what is owed is at most the room from the next tick on and the tick's cycles
  enough : (d : ℕ) → sum_to c.places (owed_at c c.jobs d) ≤ sum_to c.places (room_at c c.jobs (c.tick + 1) d) + c.tasks.great.0 * speed
  unfolding CoveredFrom ready_in counts
  enough d = go (dec_lt (sum_to c.places (λ i. 0)) (sum_to c.places (owed_at c c.jobs d)))
    where
      go : Dec (sum_to c.places (λ i. 0) < sum_to c.places (owed_at c c.jobs d)) → sum_to c.places (owed_at c c.jobs d) ≤ sum_to c.places (room_at c c.jobs (c.tick + 1) d) + c.tasks.great.0 * speed
      go (yes h) =
          let w : (i : ℕ) × (i < c.places) × (0 < owed_at c c.jobs d i) = sum_below (λ i. 0) (owed_at c c.jobs d) c.places h in
          let o = owing_open c.tasks.great.0 (job_of c c.jobs w.0) (counts c d w.0) w.2 in
          let ready : (c.held w.0 && not (job_of c c.jobs w.0).over) ≡ true = rw (both_left (c.held w.0) (leb (c.due w.0) d) o.0, o.1) in
          omega (arith, fast w.0 w.1 ready, covered d, spent d)
      go (no h) = omega (arith, sum_zero (λ i. 0) c.places (λ i l. refl))

  settled_pays : CoveredFrom c (settled_in c speed report) (c.tick + 1)
  unfolding CoveredFrom Enough Covers at_tick_start ready_in counts
  settled_pays d =
      settle_pays c r.few r.near report d (order_in c) (at_tick_start c.jobs speed) begun lawful
      (upto_first c.due d (order_in c) (order_sorted c.due (ready_in c) c.places))
      (λ more k l unfinished e. order_has c.due (ready_in c) c.places k l (rw (both_left (c.held k) (leb (c.due k) d) e, unfinished)))
      (enough d)

  ends : Waits c [] (settle_all c.tasks report (order_in c) (at_tick_start c.jobs speed))
  ends = settle_waits c r.few r.near report (order_in c) (at_tick_start c.jobs speed) begun lawful

  -- nothing that is due at the next tick is owed, since no room is left for it
  due_paid : (i : ℕ) → i < c.places → owed_at c (settled_in c speed report) (c.tick + 1) i ≡ 0
  unfolding CoveredFrom counts
  due_paid =
      zero_sum (owed_at c (settled_in c speed report) (c.tick + 1)) c.places
      (omega (arith, settled_pays (c.tick + 1), sum_zero (room_at c (settled_in c speed report) (c.tick + 1) (c.tick + 1)) c.places (λ i l. none i)))
    where
      none : (i : ℕ) → room_at c (settled_in c speed report) (c.tick + 1) (c.tick + 1) i ≡ 0
      none i = go (c.held i) (leb (c.due i) (c.tick + 1)) refl
        where
          go : (a b : Bool) → leb (c.due i) (c.tick + 1) ≡ b → room c.tasks.great.0 (a && b) (c.due i - (c.tick + 1)) (job_of c (settled_in c speed report) i) ≡ 0
          go a true e =
              let z : c.due i - (c.tick + 1) ≡ 0 = omega (arith, leb-true (c.due i) (c.tick + 1) e) in
              ap (λ x. room c.tasks.great.0 (a && true) x (job_of c (settled_in c speed report) i)) z ∙ no_room c.tasks.great.0 (job_of c (settled_in c speed report) i) (a && true)
          go true false e = none_room c.tasks.great.0 (job_of c (settled_in c speed report) i) (c.due i - (c.tick + 1))
          go false false e = none_room c.tasks.great.0 (job_of c (settled_in c speed report) i) (c.due i - (c.tick + 1))

  counted : (i : ℕ) → c.held i ≡ true → c.due i ≤ c.tick + 1 → counts c (c.tick + 1) i ≡ true
  unfolding counts
  counted i h e = rw (h, le-leb (c.due i) (c.tick + 1) e)

  pub all_paid : Paid c (settled_in c speed report)
  all_paid =
      record {
        covered = settled_pays;
        over_when_due = λ i l h e. owes_none_over c.tasks.great.0 (job_of c (settled_in c speed report) i) r.some (ends.right i l h) (ap (λ (b : Bool). owes c.tasks.great.0 b (job_of c (settled_in c speed report) i)) (sym (counted i h e)) ∙ due_paid i l);
        right = record { few = r.few; some = r.some; near = λ i l h. unfold job_at in r.near i l h; run_right_lem = ends.right; runs = ends.runs; marks = ends.marks };
      }

pub any_tick_pays : AnyTickPays
unfolding AnyTickPays
any_tick_pays c r covered speed report lawful fast = all_paid c r covered speed report lawful fast
