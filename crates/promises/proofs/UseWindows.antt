-- The use of a task at the end of a run, by its entries from a tick on: that of the job at hand up to its deadline, and past it that of the entries since the last release.
use mathlib.Core.Path.{◌≡◌, refl, sym, ap, ◌∙◌}
use mathlib.Core.Bool.{Bool, true, false, cond}
use mathlib.Core.List.{List, [], ◌∷◌}
use Prim.Native.Nat.{ℕ, suc, ◌+◌, ◌*◌, ◌/◌, ◌≤◌, ◌<◌}
use native.Mathlib.Nat.{zero-mul, div-eq_of_lt, div-eq-sub-div}
use native.Mathlib.Decide.{dec_lt}
use native.Mathlib.Omega.{arith}
use lib.Dec.{eqb}
use lib.ListN.{length, drop, length-drop}
use lib.Seq.{take_all, take-nil, drop-drop}
use borrow.Author.Tests.{eqb-true}
use Rattle.rules.specs.declared.Job.{Job}
use Rattle.rules.specs.Words.{total}
use Rattle.promises.specs.ExactCycles.{finishes, due_to}
use Rattle.promises.specs.PaperLoad.{since_release, use_by}
use Rattle.promises.proofs.Portions.{Portion, tick_finds}
use Rattle.promises.proofs.Windows.{NothingMore, finishes_0, finishes_u, nothing_before}

-- the use of the job at hand after entries that end before its deadline: what it ran where it is over, else its reserve or the cycles of its finish
abbrev pub use_at_hand : ℕ → Bool → ℕ → List ℕ → ℕ
use_at_hand reserve over run entries = cond over run (due_to reserve (finishes entries))

-- The use of a task at the end of a run from a tick on: of its job at hand where the deadline is not in the run, else by the entries after that.
pub record UseToCome (reserve period : ℕ) (over : Bool) (run togo : ℕ) (grants entries : List ℕ) (used : ℕ) : Type 0 where
  pub nothing_more : NothingMore over togo grants entries
  pub same_job : length entries < togo → used ≡ use_at_hand reserve over run entries
  pub later_job : togo ≤ length entries → used ≡ use_by reserve period (drop togo entries)

-- one tick in front, which takes the job j to the job k, where the run ends before the deadline
module _ (u g : ℕ) (j k : Job) (portion : Portion u g j k) (togo : ℕ) (gs us : List ℕ) (nothing : NothingMore k.over togo gs us) (short : length us < togo) where
  -- the use by the entries with this tick is the one by those after it
  abbrev SameUse : Type 0
  SameUse = use_at_hand j.reserve.0 k.over k.run.0 us ≡ use_at_hand j.reserve.0 j.over j.run.0 (u ∷ us)

  -- once the job is over no finish comes in the rest of the run
  none_finish : k.over ≡ true → finishes us ≡ []
  none_finish ends = ap finishes (sym (take_all togo us (omega arith))) ∙ (nothing ends).1

  -- it was over: it runs no more
  same_over : j.over ≡ true → SameUse
  same_over o =
      let now = portion.was_over o in
      rw (o, now.2) (omega (arith, portion.run_is, now.0))

  -- it was not and has entry u: over by its finish, at u cycles
  same_u : j.over ≡ false → (u ≡ 0 → ⊥) → SameUse
  unfolding due_to
  same_u n some =
      let now = portion.finish n some in
      rw (n, now.1, finishes_u u us some) (portion.run_is ∙ now.0)

  -- it was not and has entry 0: its reserve is used up and no finish comes, or it goes on
  same_used_up : j.over ≡ false → u ≡ 0 → eqb (j.run.0 + g) j.reserve.0 ≡ true → SameUse
  unfolding due_to
  same_used_up n z e =
      let ends : k.over ≡ true = portion.no_finish n z ∙ e in
      rw (n, ends, finishes_0 u us z, none_finish ends) (portion.run_is ∙ eqb-true (j.run.0 + g) j.reserve.0 e)

  same_goes_on : j.over ≡ false → u ≡ 0 → eqb (j.run.0 + g) j.reserve.0 ≡ false → SameUse
  same_goes_on n z e = rw (n, portion.no_finish n z, e, finishes_0 u us z)

  same_use : SameUse
  same_use = tick_finds u g j SameUse same_over same_u same_used_up same_goes_on

-- within the first period nothing is dropped, and a whole period in front makes no difference
module _ (period : ℕ) (us : List ℕ) where
  since_start : length us < period → since_release period us ≡ us
  unfolding since_release
  since_start h = ap (λ q. drop (q * period) us) (div-eq_of_lt h) ∙ ap (λ n. drop n us) (zero-mul period)

  since_later : 1 ≤ period → period ≤ length us → since_release period us ≡ since_release period (drop period us)
  unfolding since_release
  since_later some h =
      let rest = length (drop period us) / period * period in
      ap (λ n. drop n us) whole ∙ sym (drop-drop rest period us)
    where
      whole : length us / period * period ≡ period + length (drop period us) / period * period
      whole = rw (length-drop period us, div-eq-sub-div some h) (omega arith)

-- so where a fresh job with its whole period to go is at hand, the use is by the entries since the last release
pub uses_by : (reserve period : ℕ) (gs us : List ℕ) (used : ℕ) → 1 ≤ period → UseToCome reserve period false 0 period gs us used → used ≡ use_by reserve period us
unfolding use_by
uses_by reserve period gs us used some all = go (dec_lt (length us) period)
  where
    go : Dec (length us < period) → used ≡ due_to reserve (finishes (since_release period us))
    go (yes h) = rw (since_start period us h) (all.same_job h)
    go (no h) =
        let past : period ≤ length us = omega arith in
        rw (since_later period us some past) (all.later_job past)

-- with no tick the use is that of the job at hand
pub uses_none : (reserve period : ℕ) (over : Bool) (run togo : ℕ) → 1 ≤ togo → UseToCome reserve period over run togo [] [] (cond over run reserve)
unfolding total finishes due_to
uses_none reserve period over run togo ticks =
    record {
      nothing_more = λ _. rw (take-nil togo) (refl, refl);
      same_job = λ _. refl;
      later_job = λ h. absurd (omega arith);
    }

-- one tick in front, where the job goes on and where its deadline comes
module _ (period u g : ℕ) (j k : Job) (portion : Portion u g j k) (gs us : List ℕ) (used : ℕ) where
  pub uses_on : (togo : ℕ) → UseToCome j.reserve.0 period k.over k.run.0 togo gs us used → UseToCome j.reserve.0 period j.over j.run.0 (suc togo) (g ∷ gs) (u ∷ us) used
  uses_on togo rest =
      record {
        nothing_more = nothing_before u g j k portion togo gs us rest.nothing_more;
        same_job = same;
        later_job = λ h. rest.later_job (omega arith);
      }
    where
      same : length (u ∷ us) < suc togo → used ≡ use_at_hand j.reserve.0 j.over j.run.0 (u ∷ us)
      same h =
          let short : length us < togo = omega arith in
          rest.same_job short ∙ same_use u g j k portion togo gs us rest.nothing_more short

  pub uses_due : 1 ≤ period → UseToCome j.reserve.0 period false 0 period gs us used → UseToCome j.reserve.0 period j.over j.run.0 1 (g ∷ gs) (u ∷ us) used
  unfolding total finishes
  uses_due some rest =
      record {
        nothing_more = nothing_before u g j k portion 0 gs us (λ _. (refl, refl));
        same_job = λ h. absurd (omega arith);
        later_job = λ _. uses_by j.reserve.0 period gs us used some rest;
      }
