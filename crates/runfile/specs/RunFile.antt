-- "Run files": the whole text, its groups in their order. What is no run file is 14.
use Rattle.std.specs.Prelude.{ℕ, Bool, cond, ◌&&◌, List, eqb, ltb, leb, length, Option, Some, None, Result, Ok, Err}
use Rattle.std.specs.List.{list_all}
use Rattle.refusals.specs.declared.Refusal.{Refusal}
use Rattle.refusals.specs.declared.Refusal.TheVariants.{NoRunFile}
use Rattle.lines.specs.declared.RunLine.{RunLine}
use Rattle.runfile.specs.declared.Pairs.{Pairs}
use Rattle.runfile.specs.declared.groups.PairsRead.{PairsRead}
use Rattle.runfile.specs.declared.groups.EndsRead.{EndsRead}
use Rattle.runfile.specs.declared.End.{End}
use Rattle.runfile.specs.declared.RunFile.{RunFile}
use Rattle.lines.specs.Lines.{task_word, speed_word, run_at}
use Rattle.runfile.specs.declared.ends.Ends.{Ends}
use Rattle.runfile.specs.Groups.{most_task_lines, most_speed_lines, most_end_lines, no_pairs, no_ends, pairs_from, ends_from}

-- "At most 65,536 bytes", "ticks, 0 to 10,000"
abbrev pub most_bytes : ℕ
most_bytes = 65_536

abbrev pub most_run_ticks : ℕ
most_run_ticks = 10_000

-- "All else is 14"
abbrev pub no_run_file : Result RunFile Refusal
no_run_file = Err NoRunFile

-- "one run line .. last": nothing follows it
unfoldable pub is_last : List ℕ → ℕ → Bool
is_last text next = eqb next (length text)

-- the run line is last, its ticks are "0 to 10,000", and end lines name "a tick below the run's"
unfoldable pub closed : List ℕ → Pairs → Pairs → Ends → Option RunLine → Result RunFile Refusal
closed text tasks speeds ends (Some l) =
    cond (is_last text l.next && leb l.ticks.0 most_run_ticks && list_all (λ (e : End). ltb e.tick.0 l.ticks.0) ends.items)
    (Ok (record { tasks = tasks; speeds = speeds; ends = ends; ticks = l.ticks }))
    no_run_file
closed text tasks speeds ends None = no_run_file

-- "in that order of groups": after the end lines, after the speed lines, after the task lines
unfoldable pub after_ends : List ℕ → Pairs → Pairs → Option EndsRead → Result RunFile Refusal
after_ends text tasks speeds (Some r) = closed text tasks speeds r.ends (run_at text r.next)
after_ends text tasks speeds None = no_run_file

unfoldable pub after_speeds : List ℕ → Pairs → Option PairsRead → Result RunFile Refusal
after_speeds text tasks (Some r) = after_ends text tasks r.pairs (ends_from text (length tasks.firsts.items) most_end_lines r.next 0 0 no_ends)
after_speeds text tasks None = no_run_file

unfoldable pub after_tasks : List ℕ → Option PairsRead → Result RunFile Refusal
after_tasks text (Some r) = after_speeds text r.pairs (pairs_from speed_word text most_speed_lines r.next no_pairs)
after_tasks text None = no_run_file

-- the run file that a text is, its lines; or number 14
unfoldable pub run_file_of : List ℕ → Result RunFile Refusal
run_file_of text =
    cond (leb (length text) most_bytes) (after_tasks text (pairs_from task_word text most_task_lines 0 no_pairs)) no_run_file
