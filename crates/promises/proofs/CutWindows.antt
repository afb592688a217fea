-- The jobs of a task that are cut, by its grants and entries from a tick on: the job at hand by its ticks to go, each later one by its window.
use mathlib.Core.Path.{◌≡◌, refl, sym, ap₂, ◌∙◌}
use mathlib.Core.Bool.{Bool, true, false, false≢true, cond, not, ◌&&◌, and-false}
use mathlib.Core.List.{List, [], ◌∷◌}
use Prim.Native.Nat.{ℕ, zero, suc, ◌+◌, ◌≤◌, ◌<◌}
use native.Mathlib.Nat.{le_refl, zero-add, add-zero, add_assoc}
use native.Mathlib.Decide.{ℕ_discrete}
use native.Mathlib.Omega.{arith}
use lib.Dec.{eqb, eqb-suc-zero}
use lib.ListN.{length, take, drop}
use lib.Seq.{take-nil, drop-nil}
use borrow.Author.Tests.{eqb-false, eq-eqb, ne_eqb}
use Rattle.rules.specs.declared.Job.{Job}
use Rattle.rules.specs.Words.{up_to, total}
use Rattle.rules.proofs.Totals.{total_places, total_last}
use Rattle.promises.specs.Runs.{sum_to}
use Rattle.promises.specs.ExactCycles.{window_of, finishes}
use Rattle.promises.specs.Counts.{cut_job}
use Rattle.ontime.proofs.Sums.{sum_zero, sum_same}
use Rattle.promises.proofs.Portions.{Portion, cut_now, tick_finds}
use Rattle.promises.proofs.Windows.{NothingMore, finishes_0, finishes_u, nothing_before, window_first, window_later, window_past}

-- 1 where the job at hand is cut in its ticks to go, 0 where it is not: it is not over, no finish comes, and its run count comes to its reserve
unfoldable pub cut_at_hand : ℕ → Bool → ℕ → ℕ → List ℕ → List ℕ → ℕ
cut_at_hand reserve over run togo grants entries =
    cond (not over && eqb (length (finishes (take togo entries))) 0 && eqb (run + total (λ g. g) (take togo grants)) reserve) 1 0

-- The cuts of a task from a tick on: that of its job at hand and those of the jobs after it, of which the first n will do where there are no more than n ticks.
pub record CutsToCome (reserve period : ℕ) (over : Bool) (run togo : ℕ) (grants entries : List ℕ) (cuts : ℕ) : Type 0 where
  pub nothing_more : NothingMore over togo grants entries
  pub come_to : (n : ℕ) → length grants ≤ n
      → cut_at_hand reserve over run togo grants entries + sum_to n (λ job. cut_job reserve period job (drop togo grants) (drop togo entries)) ≡ cuts

-- a job at hand is not cut where it is over or its run count does not come to its reserve
short_uncut : (reserve : ℕ) (over : Bool) (run togo : ℕ) (gs us : List ℕ) → (over ≡ false → run + total (λ g. g) (take togo gs) ≡ reserve → ⊥) → cut_at_hand reserve over run togo gs us ≡ 0
unfolding cut_at_hand
short_uncut reserve true run togo gs us short = refl
short_uncut reserve false run togo gs us short =
    rw (ne_eqb (run + total (λ g. g) (take togo gs)) reserve (short refl), and-false (eqb (length (finishes (take togo us))) 0))

-- one tick in front, which takes the job j to the job k
module _ (u g : ℕ) (j k : Job) (portion : Portion u g j k) (togo : ℕ) (gs us : List ℕ) (nothing : NothingMore k.over togo gs us) where
  -- the job is cut in this tick or in those after it
  abbrev OneMore : Type 0
  OneMore = cut_at_hand j.reserve.0 j.over j.run.0 (suc togo) (g ∷ gs) (u ∷ us) ≡ cut_now u g j + cut_at_hand j.reserve.0 k.over k.run.0 togo gs us

  -- it was over: neither
  one_more_over : j.over ≡ true → OneMore
  unfolding cut_at_hand
  one_more_over o = rw (o, (portion.was_over o).2)

  -- it was not and has entry u: neither, it is over by its finish
  one_more_u : j.over ≡ false → (u ≡ 0 → ⊥) → OneMore
  unfolding cut_at_hand
  one_more_u n some =
      rw (n, (portion.finish n some).1, finishes_u u (take togo us) some, eqb-suc-zero (length (finishes (take togo us))), ne_eqb u 0 some)

  -- it was not and has entry 0: its reserve is used up, so it is cut now and gets nothing more, or it goes on
  one_more_used_up : j.over ≡ false → u ≡ 0 → eqb (j.run.0 + g) j.reserve.0 ≡ true → OneMore
  unfolding cut_at_hand total
  one_more_used_up n z e =
      let ends : k.over ≡ true = portion.no_finish n z ∙ e in
      let more = nothing ends in
      rw (n, ends, finishes_0 u (take togo us) z, more.1, more.0, add-zero g, eq-eqb u 0 z, e)

  one_more_goes_on : j.over ≡ false → u ≡ 0 → eqb (j.run.0 + g) j.reserve.0 ≡ false → OneMore
  unfolding cut_at_hand total
  one_more_goes_on n z e =
      let sum = add_assoc j.run.0 g (total (λ x. x) (take togo gs)) in
      rw (n, portion.no_finish n z, finishes_0 u (take togo us) z, eq-eqb u 0 z, e, portion.run_is, sum) (sym (zero-add _))

  one_more : OneMore
  one_more = tick_finds u g j OneMore one_more_over one_more_u one_more_used_up one_more_goes_on

-- no tick to go: a job that is not over has not come to its reserve
uncut_at_deadline : (u g : ℕ) (j k : Job) → Portion u g j k → (gs us : List ℕ) → cut_at_hand j.reserve.0 k.over k.run.0 0 gs us ≡ 0
unfolding total
uncut_at_deadline u g j k portion gs us =
    short_uncut j.reserve.0 k.over k.run.0 0 gs us
    (λ n e. short j.over refl (ℕ_discrete u 0) n (omega (arith, portion.run_is)))
  where
    short : (b : Bool) → j.over ≡ b → Dec (u ≡ 0) → k.over ≡ false → j.run.0 + g ≡ j.reserve.0 → ⊥
    short true o d n = absurd (false≢true (sym n ∙ (portion.was_over o).2))
    short false o (yes z) n = eqb-false (j.run.0 + g) j.reserve.0 (sym (portion.no_finish o z) ∙ n)
    short false o (no some) n = absurd (false≢true (sym n ∙ (portion.finish o some).1))

-- a task's jobs by their windows
module _ (reserve period : ℕ) where
  -- the first is a fresh job at hand with its whole period to go, and each later one comes one earlier once the first window is dropped
  cut_first : (gs us : List ℕ) → cut_job reserve period 0 gs us ≡ cut_at_hand reserve false 0 period gs us
  unfolding cut_job cut_at_hand
  cut_first gs us = rw (window_first period gs, window_first period us, zero-add (total (λ g. g) (take period gs)))

  cut_later : (job : ℕ) (gs us : List ℕ) → cut_job reserve period (suc job) gs us ≡ cut_job reserve period job (drop period gs) (drop period us)
  unfolding cut_job
  cut_later job gs us = rw (window_later period job gs, window_later period job us)

  -- past the run no job is cut
  cut_past : 1 ≤ reserve → 1 ≤ period → (job : ℕ) (gs us : List ℕ) → length gs ≤ job → cut_job reserve period job gs us ≡ 0
  unfolding cut_job total
  cut_past asks some job gs us h =
      rw (window_past period job some gs h, ne_eqb 0 reserve (λ e. omega arith), and-false (eqb (length (finishes (window_of period job us))) 0))

  -- so where a fresh job is at hand, it and n jobs after it are the first n + 1 jobs
  all_jobs : (n : ℕ) (gs us : List ℕ) → sum_to (suc n) (λ job. cut_job reserve period job gs us) ≡ cut_at_hand reserve false 0 period gs us + sum_to n (λ job. cut_job reserve period job (drop period gs) (drop period us))
  unfolding total up_to
  all_jobs n gs us =
      let each : ℕ → ℕ = λ job. cut_job reserve period job gs us in
      ap₂ ◌+◌ (cut_first gs us) (total_places each suc n ∙ sum_same (λ job. each (suc job)) _ n (λ job h. cut_later job gs us))

-- with no tick there is no cut
pub cuts_none : (reserve period : ℕ) (over : Bool) (run togo : ℕ) → 1 ≤ reserve → 1 ≤ period → (over ≡ false → run < reserve) → CutsToCome reserve period over run togo [] [] 0
unfolding total finishes
cuts_none reserve period over run togo asks some below =
    record {
      nothing_more = λ _. rw (take-nil togo) (refl, refl);
      come_to = λ n h. omega (arith, short_uncut reserve over run togo [] [] short, sum_zero _ n (λ job l. uncut job));
    }
  where
    short : over ≡ false → run + total (λ g. g) (take togo []) ≡ reserve → ⊥
    short n e = omega (arith, below n, (rw (take-nil togo) at e))

    uncut : (job : ℕ) → cut_job reserve period job (drop togo []) (drop togo []) ≡ 0
    uncut job = rw (drop-nil togo) (cut_past reserve period asks some job [] [] (omega arith))

-- one tick in front, where the job goes on and where its deadline comes
module _ (period u g : ℕ) (j k : Job) (portion : Portion u g j k) (gs us : List ℕ) (cuts : ℕ) where
  pub cuts_on : (togo : ℕ) → CutsToCome j.reserve.0 period k.over k.run.0 togo gs us cuts → CutsToCome j.reserve.0 period j.over j.run.0 (suc togo) (g ∷ gs) (u ∷ us) (cut_now u g j + cuts)
  cuts_on togo rest =
      record {
        nothing_more = nothing_before u g j k portion togo gs us rest.nothing_more;
        come_to = λ n h. omega (arith, one_more u g j k portion togo gs us rest.nothing_more, rest.come_to n (omega arith));
      }

  pub cuts_due : CutsToCome j.reserve.0 period false 0 period gs us cuts → CutsToCome j.reserve.0 period j.over j.run.0 1 (g ∷ gs) (u ∷ us) (cut_now u g j + cuts)
  unfolding total finishes
  cuts_due rest =
      record {
        nothing_more = nothing_before u g j k portion 0 gs us (λ _. (refl, refl));
        come_to = come;
      }
    where
      come : (n : ℕ) → suc (length gs) ≤ n → cut_at_hand j.reserve.0 j.over j.run.0 1 (g ∷ gs) (u ∷ us) + sum_to n (λ job. cut_job j.reserve.0 period job gs us) ≡ cut_now u g j + cuts
      come zero h = absurd (omega arith)
      come (suc n) h =
          omega (
            arith,
            one_more u g j k portion 0 gs us (λ _. (refl, refl)),
            uncut_at_deadline u g j k portion gs us,
            all_jobs j.reserve.0 period n gs us,
            rest.come_to n (omega arith),
          )

-- where a fresh job with its whole period to go is at hand, the cuts are those of all the jobs: as many as there are ticks will do
pub cuts_of_jobs : (reserve period : ℕ) (gs us : List ℕ) (cuts : ℕ) → 1 ≤ reserve → 1 ≤ period → CutsToCome reserve period false 0 period gs us cuts → sum_to (length gs) (λ job. cut_job reserve period job gs us) ≡ cuts
cuts_of_jobs reserve period gs us cuts asks some all =
    let n = length gs in
    let last = total_last (λ job. cut_job reserve period job gs us) n in
    omega (arith, last, cut_past reserve period asks some n gs us (le_refl n), all_jobs reserve period n gs us, all.come_to n (le_refl n))
