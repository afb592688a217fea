-- What a run file that was read keeps, by its groups in their order, and that any other text is 14.
use mathlib.Core.Path.{◌≡◌, refl, subst}
use mathlib.Core.Bool.{Bool, true, false, cond, ◌&&◌}
use mathlib.Core.List.{List, [], ◌∷◌}
use mathlib.Core.Logic.{◌⊎◌, inl, inr}
use Prim.Native.Nat.{ℕ, zero, suc, ◌<◌}
use native.Mathlib.Nat.{not-suc-le-zero, le_of_suc-le-suc}
use borrow.Author.Tests.{ltb-true, leb-true}
use lib.Dec.{ltb, leb}
use lib.ListN.{length, get_or}
use Rattle.std.specs.Prelude.{Option, Some, None, Result, Ok, Err}
use Rattle.refusals.specs.declared.Refusal.{Refusal}
use Rattle.refusals.specs.declared.Refusal.TheVariants.{NoRunFile}
use Rattle.units.specs.declared.Ticks.{Ticks}
use Rattle.lines.specs.declared.RunLine.{RunLine}
use Rattle.std.specs.List.{list_all}
use Rattle.lines.specs.Lines.{task_word, speed_word, run_at}
use Rattle.runfile.specs.declared.Pairs.{Pairs}
use Rattle.runfile.specs.declared.End.{End}
use Rattle.runfile.specs.declared.groups.PairsRead.{PairsRead}
use Rattle.runfile.specs.declared.groups.EndsRead.{EndsRead}
use Rattle.runfile.specs.declared.RunFile.{RunFile}
use Rattle.runfile.specs.declared.ends.Ends.{Ends}
use Rattle.runfile.specs.Groups.{most_task_lines, most_speed_lines, most_end_lines, no_pairs, no_ends, pairs_from, ends_from}
use Rattle.runfile.specs.RunFile.{most_bytes, most_run_ticks, no_run_file, is_last, closed, after_ends, after_speeds, after_tasks, run_file_of}
use Rattle.runfile.specs.Good.{end_of, GoodPairs, GoodEnds, GoodFile}
use Rattle.runfile.proofs.Splits.{both}
use Rattle.runfile.proofs.Kept.{SoundPairs, group_good}
use Rattle.runfile.proofs.Risen.{SoundEnds, all_ends_good}

-- a test that holds for all of a list holds for the one at a place
pub all_at : (p : End → Bool) (l : List End) (k : ℕ) (d : End) → list_all p l ≡ true → k < length l → p (get_or l k d) ≡ true
all_at p [] k d e h = absurd (not-suc-le-zero h)
all_at p (x ∷ xs) zero d e h = (both (p x) (list_all p xs) e).0
all_at p (x ∷ xs) (suc k) d e h = all_at p xs k d (both (p x) (list_all p xs) e).1 (le_of_suc-le-suc h)

-- a file that is good, or 14
abbrev Outcome : Result RunFile Refusal → Type 0
Outcome (Ok f) = GoodFile f
Outcome (Err refusal) = refusal ≡ NoRunFile

-- a test that fails makes a text 14
judged : (b : Bool) (f : Result RunFile Refusal) → (b ≡ true → Outcome f) → Outcome (cond b f no_run_file)
judged true f h = h refl
judged false f h = refl

module _ (text : List ℕ) (tasks : Pairs) (few : GoodPairs most_task_lines tasks) where
  module _ (speeds : Pairs) (fast : GoodPairs most_speed_lines speeds) where
    -- after good groups the run line decides
    closed_outcome : (ends : Ends) → GoodEnds (length tasks.firsts.items) ends.items → (f : Option RunLine) → Outcome (closed text tasks speeds ends f)
    unfolding closed
    closed_outcome ends good (Some l) =
        judged (is_last text l.next && leb l.ticks.0 most_run_ticks && list_all (λ (x : End). ltb x.tick.0 l.ticks.0) ends.items) _ (λ e. file e)
      where
        run : Ticks
        run = l.ticks

        below : list_all (λ (x : End). ltb x.tick.0 run.0) ends.items ≡ true → (k : ℕ) → k < length ends.items → (end_of ends.items k).tick.0 < run.0
        below e k h = ltb-true (end_of ends.items k).tick.0 run.0 (all_at (λ (x : End). ltb x.tick.0 run.0) ends.items k _ e h)

        file : (is_last text l.next && leb run.0 most_run_ticks && list_all (λ (x : End). ltb x.tick.0 run.0) ends.items) ≡ true
            → GoodFile (record { tasks = tasks; speeds = speeds; ends = ends; ticks = run })
        file e =
            let parts = both (is_last text l.next && leb run.0 most_run_ticks) (list_all (λ (x : End). ltb x.tick.0 run.0) ends.items) e in
            record {
              tasks = few;
              speeds = fast;
              ends = good;
              ticks = leb-true run.0 most_run_ticks (both (is_last text l.next) (leb run.0 most_run_ticks) parts.0).1;
              below = below parts.1;
            }
    closed_outcome ends good None = refl

    -- end lines, then the run line
    ends_outcome : (r : Option EndsRead) → SoundEnds (length tasks.firsts.items) r → Outcome (after_ends text tasks speeds r)
    unfolding after_ends
    ends_outcome (Some r) good = closed_outcome r.ends good (run_at text r.next)
    ends_outcome None good = refl

  -- speed lines, then the rest
  speeds_outcome : (r : Option PairsRead) → SoundPairs most_speed_lines r → Outcome (after_speeds text tasks r)
  unfolding after_speeds
  speeds_outcome (Some r) good = ends_outcome r.pairs good (ends_from text (length tasks.firsts.items) most_end_lines r.next 0 0 no_ends) (all_ends_good text (length tasks.firsts.items) r.next)
  speeds_outcome None good = refl

-- task lines, then the rest
tasks_outcome : (text : List ℕ) (r : Option PairsRead) → SoundPairs most_task_lines r → Outcome (after_tasks text r)
unfolding after_tasks
tasks_outcome text (Some r) good = speeds_outcome text r.pairs good (pairs_from speed_word text most_speed_lines r.next no_pairs) (group_good speed_word text most_speed_lines r.next)
tasks_outcome text None good = refl

-- every text is one or the other
outcome : (text : List ℕ) → Outcome (run_file_of text)
unfolding run_file_of
outcome text = judged (leb (length text) most_bytes) _ (λ _. tasks_outcome text (pairs_from task_word text most_task_lines 0 no_pairs) (group_good task_word text most_task_lines 0))

-- a text is a run file, or is 14
pub either : (text : List ℕ) → ((f : RunFile) × (run_file_of text ≡ Ok f)) ⊎ (run_file_of text ≡ no_run_file)
either text = go (run_file_of text) refl (outcome text)
  where
    go : (r : Result RunFile Refusal) → run_file_of text ≡ r → Outcome r → ((f : RunFile) × (run_file_of text ≡ Ok f)) ⊎ (run_file_of text ≡ no_run_file)
    go (Ok f) e h = inl (f, e)
    go (Err refusal) e h = inr (rw h at e)

-- a text that is a run file is a good one
pub good_file : (text : List ℕ) (f : RunFile) → run_file_of text ≡ Ok f → GoodFile f
good_file text f e = subst Outcome e (outcome text)
