-- The run file's groups in their order: what the text is after each of them was read, and where the reading stops.
use mathlib.Core.Path.{◌≡◌}
use mathlib.Core.Bool.{true, false}
use mathlib.Core.List.{List}
use Prim.Native.Nat.{ℕ, ◌≤◌, ◌<◌}
use borrow.Author.Tests.{le-leb, lt-leb, eq-eqb, ne_eqb}
use lib.Dec.{ltb}
use lib.ListN.{length}
use Rattle.std.specs.Prelude.{None, Ok}
use Rattle.units.specs.declared.Ticks.{Ticks}
use Rattle.std.specs.List.{list_all}
use Rattle.lines.specs.Lines.{task_word, speed_word, read_run, run_at}
use Rattle.runfile.specs.declared.Pairs.{Pairs}
use Rattle.runfile.specs.declared.End.{End}
use Rattle.runfile.specs.declared.ends.Ends.{Ends}
use Rattle.runfile.specs.Groups.{most_task_lines, most_speed_lines, most_end_lines, no_pairs, no_ends, pairs_read, pairs_from, ends_read, ends_from}
use Rattle.runfile.specs.RunFile.{most_bytes, most_run_ticks, no_run_file, is_last, closed, after_ends, after_speeds, after_tasks, run_file_of}

-- more bytes than a run file may have
pub too_large : (text : List ℕ) → most_bytes < length text → run_file_of text ≡ no_run_file
unfolding run_file_of
too_large text h = rw (lt-leb (length text) most_bytes h)

module _ (text : List ℕ) (size : length text ≤ most_bytes) where
  -- a wrong task line
  pub tasks_wrong : pairs_from task_word text most_task_lines 0 no_pairs ≡ None → run_file_of text ≡ no_run_file
  unfolding run_file_of after_tasks
  tasks_wrong e = rw (le-leb (length text) most_bytes size, e)

  module _ (tasks : Pairs) (one : ℕ) (first : pairs_from task_word text most_task_lines 0 no_pairs ≡ pairs_read tasks one) where
    -- the task lines come first, and a wrong speed line ends the reading
    pub speeds_wrong : pairs_from speed_word text most_speed_lines one no_pairs ≡ None → run_file_of text ≡ no_run_file
    unfolding run_file_of after_tasks after_speeds
    speeds_wrong e = rw (le-leb (length text) most_bytes size, first, e)

    module _ (speeds : Pairs) (two : ℕ) (second : pairs_from speed_word text most_speed_lines one no_pairs ≡ pairs_read speeds two) where
      -- then the speed lines, and a wrong end line ends it
      pub ends_wrong : ends_from text (length tasks.firsts.items) most_end_lines two 0 0 no_ends ≡ None → run_file_of text ≡ no_run_file
      unfolding run_file_of after_tasks after_speeds after_ends
      ends_wrong e = rw (le-leb (length text) most_bytes size, first, second, e)

      module _ (ends : Ends) (three : ℕ) (third : ends_from text (length tasks.firsts.items) most_end_lines two 0 0 no_ends ≡ ends_read ends three) where
        -- then the end lines, and the run line is last
        run_last : run_file_of text ≡ closed text tasks speeds ends (run_at text three)
        unfolding run_file_of after_tasks after_speeds after_ends
        run_last = rw (le-leb (length text) most_bytes size, first, second, third)

        -- no run line
        pub run_wrong : run_at text three ≡ None → run_file_of text ≡ no_run_file
        unfolding closed
        run_wrong e = rw (run_last, e)

        module _ (run : Ticks) (next : ℕ) (line : run_at text three ≡ read_run run next) where
          -- bytes follow the run line
          pub not_last : (next ≡ length text → ⊥) → run_file_of text ≡ no_run_file
          unfolding closed is_last
          not_last k = rw (run_last, line, ne_eqb next (length text) k)

          -- too many ticks
          pub too_many : next ≡ length text → most_run_ticks < run.0 → run_file_of text ≡ no_run_file
          unfolding closed is_last
          too_many k h = rw (run_last, line, eq-eqb next (length text) k, lt-leb run.0 most_run_ticks h)

          -- an end line's tick not below them
          pub not_closed : next ≡ length text → run.0 ≤ most_run_ticks → list_all (λ (x : End). ltb x.tick.0 run.0) ends.items ≡ false → run_file_of text ≡ no_run_file
          unfolding closed is_last
          not_closed k h e = rw (run_last, line, eq-eqb next (length text) k, le-leb run.0 most_run_ticks h, e)

          -- a run file
          pub all_closed : next ≡ length text → run.0 ≤ most_run_ticks → list_all (λ (x : End). ltb x.tick.0 run.0) ends.items ≡ true
              → run_file_of text ≡ Ok (record { tasks = tasks; speeds = speeds; ends = ends; ticks = run })
          unfolding closed is_last
          all_closed k h e = rw (run_last, line, eq-eqb next (length text) k, le-leb run.0 most_run_ticks h, e)
