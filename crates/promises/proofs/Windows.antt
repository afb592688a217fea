-- A task's grants and entries, window by window of its jobs: a tick in front is a portion of the job at hand, and its last one ends its window.
use mathlib.Core.Path.{◌≡◌, refl, sym, ap, ◌∙◌}
use mathlib.Core.Bool.{Bool, true, false, false≢true}
use mathlib.Core.List.{List, [], ◌∷◌}
use Prim.Native.Nat.{ℕ, zero, suc, ◌+◌, ◌-◌, ◌*◌, ◌≤◌}
use native.Mathlib.Nat.{zero-mul, suc-mul, add_comm, le_trans, le-mul_of_pos_right}
use native.Mathlib.Omega.{arith}
use lib.Dec.{eqb}
use lib.ListN.{length, take, drop, length-drop, drop_of_length-le}
use lib.Seq.{take-nil, drop-drop}
use borrow.Author.Tests.{eqb-true, eq-eqb, ne_eqb}
use Rattle.rules.specs.declared.Job.{Job}
use Rattle.rules.specs.Words.{total}
use Rattle.promises.specs.ExactCycles.{window_of, finishes, due_to, Served}
use Rattle.promises.proofs.Portions.{Portion, tick_finds}

-- a job at hand that is over gets nothing more in its ticks to go: no grant and no finish
abbrev pub NothingMore : Bool → ℕ → List ℕ → List ℕ → Type 0
NothingMore over togo grants entries = over ≡ true → (total (λ g. g) (take togo grants) ≡ 0) × (finishes (take togo entries) ≡ [])

-- The job at hand, by the grants and entries of its ticks to go to the deadline: at most one finish, no more than is left of its reserve, nothing
-- where it is over already, and exactly its cycles where it is not and those ticks all lie in the run.
pub record AtHand (reserve : ℕ) (over : Bool) (run togo : ℕ) (grants entries : List ℕ) : Type 0 where
  pub once : length (finishes (take togo entries)) ≤ 1
  pub never_more : total (λ g. g) (take togo grants) ≤ reserve - run
  pub nothing_more : NothingMore over togo grants entries
  pub exactly : over ≡ false → togo ≤ length grants → run + total (λ g. g) (take togo grants) ≡ due_to reserve (finishes (take togo entries))

-- a task: its job at hand, and each of the jobs after that
pub record Ahead (reserve period : ℕ) (over : Bool) (run togo : ℕ) (grants entries : List ℕ) : Type 0 where
  pub at_hand : AtHand reserve over run togo grants entries
  pub later : (job : ℕ) → Served reserve period job (drop togo grants) (drop togo entries)

-- entry 0 is no finish, any other is one
pub finishes_0 : (u : ℕ) (us : List ℕ) → u ≡ 0 → finishes (u ∷ us) ≡ finishes us
unfolding finishes
finishes_0 u us z = rw (eq-eqb u 0 z)

pub finishes_u : (u : ℕ) (us : List ℕ) → (u ≡ 0 → ⊥) → finishes (u ∷ us) ≡ u ∷ finishes us
unfolding finishes
finishes_u u us n = rw (ne_eqb u 0 n)

-- one tick in front, which takes the job j to the job k: where j was over there was nothing in it either
pub nothing_before : (u g : ℕ) (j k : Job) → Portion u g j k → (togo : ℕ) (gs us : List ℕ) → NothingMore k.over togo gs us → NothingMore j.over (suc togo) (g ∷ gs) (u ∷ us)
unfolding total
nothing_before u g j k portion togo gs us nothing o =
    let now = portion.was_over o in
    let more = nothing now.2 in
    (omega (arith, now.0, more.0), finishes_0 u (take togo us) now.1 ∙ more.1)

-- and the job at hand with it
module _ (u g : ℕ) (j k : Job) (portion : Portion u g j k) (togo : ℕ) (gs us : List ℕ) (rest : AtHand j.reserve.0 k.over k.run.0 togo gs us) where
  abbrev OneMore : Type 0
  OneMore = AtHand j.reserve.0 j.over j.run.0 (suc togo) (g ∷ gs) (u ∷ us)

  within_reserve : total (λ x. x) (g ∷ take togo gs) ≤ j.reserve.0 - j.run.0
  unfolding total
  within_reserve = omega (arith, portion.run_is, portion.within, rest.never_more)

  none_before : NothingMore j.over (suc togo) (g ∷ gs) (u ∷ us)
  none_before = nothing_before u g j k portion togo gs us rest.nothing_more

  -- the job was over: nothing now, and nothing more
  one_more_over : j.over ≡ true → OneMore
  one_more_over o =
      record {
        once = rw (finishes_0 u (take togo us) (portion.was_over o).1) rest.once;
        never_more = within_reserve;
        nothing_more = none_before;
        exactly = λ n. absurd (false≢true (sym n ∙ o));
      }

  -- it was not and has entry 0: its reserve is used up, so nothing more, or it goes on
  exactly_0 : j.over ≡ false → u ≡ 0 → togo ≤ length gs → j.run.0 + total (λ x. x) (g ∷ take togo gs) ≡ due_to j.reserve.0 (finishes (take togo us))
  unfolding total due_to
  exactly_0 n z h = go (eqb (j.run.0 + g) j.reserve.0) refl
    where
      go : (b : Bool) → eqb (j.run.0 + g) j.reserve.0 ≡ b → j.run.0 + (g + total (λ x. x) (take togo gs)) ≡ due_to j.reserve.0 (finishes (take togo us))
      go true e =
          let more = rest.nothing_more (portion.no_finish n z ∙ e) in
          rw more.1 (omega (arith, more.0, eqb-true (j.run.0 + g) j.reserve.0 e))
      go false e = omega (arith, portion.run_is, rest.exactly (portion.no_finish n z ∙ e) h)

  one_more_0 : j.over ≡ false → u ≡ 0 → OneMore
  one_more_0 n z =
      record {
        once = rw (finishes_0 u (take togo us) z) rest.once;
        never_more = within_reserve;
        nothing_more = none_before;
        exactly = λ _ h. rw (finishes_0 u (take togo us) z) (exactly_0 n z (omega arith));
      }

  -- it was not and has entry u: that many cycles, and nothing more
  one_more_u : j.over ≡ false → (u ≡ 0 → ⊥) → OneMore
  unfolding total due_to
  one_more_u n some =
      let now = portion.finish n some in
      let more = rest.nothing_more now.1 in
      record {
        once = rw (finishes_u u (take togo us) some, more.1) (omega arith);
        never_more = within_reserve;
        nothing_more = none_before;
        exactly = λ _ h. rw (finishes_u u (take togo us) some) (omega (arith, now.0, more.0));
      }

  one_more : OneMore
  one_more = tick_finds u g j OneMore one_more_over one_more_u (λ n z e. one_more_0 n z) (λ n z e. one_more_0 n z)

-- no tick to go, and the job is over: nothing to come
at_deadline : (reserve : ℕ) (over : Bool) (run : ℕ) (gs us : List ℕ) → over ≡ true → AtHand reserve over run 0 gs us
unfolding total finishes
at_deadline reserve over run gs us o =
    record {
      once = omega arith;
      never_more = omega arith;
      nothing_more = λ _. (refl, refl);
      exactly = λ n. absurd (false≢true (sym n ∙ o));
    }

-- the first window is in front, and each later one comes one earlier once the first is dropped
pub window_first : (period : ℕ) (l : List ℕ) → window_of period 0 l ≡ take period l
unfolding window_of
window_first period l = ap (λ n. take period (drop n l)) (zero-mul period)

pub window_later : (period job : ℕ) (l : List ℕ) → window_of period (suc job) l ≡ window_of period job (drop period l)
unfolding window_of
window_later period job l =
    ap (λ n. take period (drop n l)) (suc-mul job period ∙ add_comm (job * period) period)
    ∙ ap (take period) (sym (drop-drop (job * period) period l))

-- so where a fresh job with its whole period to go is at hand, it and the jobs after it are all the jobs
first_served : (reserve period : ℕ) (gs us : List ℕ) → AtHand reserve false 0 period gs us → Served reserve period 0 gs us
first_served reserve period gs us a =
    record {
      once = rw (window_first period us) a.once;
      never_more = rw (window_first period gs) (omega (arith, a.never_more));
      exactly = λ h. rw (window_first period gs, window_first period us) (omega (arith, a.exactly refl (omega arith)));
    }

later_served : (reserve period job : ℕ) (gs us : List ℕ) → Served reserve period job (drop period gs) (drop period us) → Served reserve period (suc job) gs us
later_served reserve period job gs us v =
    record {
      once = rw (window_later period job us) v.once;
      never_more = rw (window_later period job gs) v.never_more;
      exactly = λ h. rw (window_later period job gs, window_later period job us) (v.exactly (omega (arith, length-drop period gs)));
    }

pub all_served : (reserve period : ℕ) (gs us : List ℕ) → Ahead reserve period false 0 period gs us → (job : ℕ) → Served reserve period job gs us
all_served reserve period gs us a zero = first_served reserve period gs us a.at_hand
all_served reserve period gs us a (suc job) = later_served reserve period job gs us (a.later job)

-- past the run a window is empty
pub window_past : (period job : ℕ) → 1 ≤ period → (l : List ℕ) → length l ≤ job → window_of period job l ≡ []
unfolding window_of
window_past period job some l h =
    ap (take period) (drop_of_length-le l (le_trans h (le-mul_of_pos_right job some))) ∙ take-nil period

-- before any tick
served_none : (reserve period job : ℕ) → 1 ≤ period → Served reserve period job [] []
unfolding finishes total
served_none reserve period job some =
    record {
      once = rw (window_past period job some [] (omega arith)) (omega arith);
      never_more = rw (window_past period job some [] (omega arith)) (omega arith);
      exactly = λ h. absurd (omega arith);
    }

pub ahead_none : (reserve period : ℕ) (over : Bool) (run togo : ℕ) → 1 ≤ period → 1 ≤ togo → Ahead reserve period over run togo [] []
unfolding finishes total
ahead_none reserve period over run zero some ticks = absurd (omega arith)
ahead_none reserve period over run (suc togo) some ticks =
    record {
      at_hand = record { once = omega arith; never_more = omega arith; nothing_more = λ _. (refl, refl); exactly = λ n h. absurd (omega arith) };
      later = λ job. served_none reserve period job some;
    }

-- one tick in front, where the job goes on and where its deadline comes
module _ (period u g : ℕ) (j k : Job) (portion : Portion u g j k) (gs us : List ℕ) where
  pub ahead_on : (togo : ℕ) → Ahead j.reserve.0 period k.over k.run.0 togo gs us → Ahead j.reserve.0 period j.over j.run.0 (suc togo) (g ∷ gs) (u ∷ us)
  ahead_on togo a =
      record { at_hand = one_more u g j k portion togo gs us a.at_hand; later = a.later }

  pub ahead_due : k.over ≡ true → Ahead j.reserve.0 period false 0 period gs us → Ahead j.reserve.0 period j.over j.run.0 1 (g ∷ gs) (u ∷ us)
  ahead_due o a =
      record {
        at_hand = one_more u g j k portion 0 gs us (at_deadline j.reserve.0 k.over k.run.0 gs us o);
        later = all_served j.reserve.0 period gs us a;
      }
