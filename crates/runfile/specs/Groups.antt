-- "Run files": the groups of lines, each line taken to what was read before it.
use Rattle.std.specs.Prelude.{ℕ, zero, suc, ◌+◌, ◌-◌, Bool, cond, ◌&&◌, ◌||◌, List, eqb, ltb, leb, length, replicate, ◌++◌, [], ◌∷◌, Option, Some, None}
use Rattle.words.specs.Words.{stands_at}
use Rattle.runfile.specs.declared.Pairs.{Pairs}
use Rattle.runfile.specs.declared.ends.Ends.{Ends}
use Rattle.units.specs.Units.{ticks, cycles}
use Rattle.runfile.specs.declared.End.{End}
use Rattle.runfile.specs.declared.groups.PairsRead.{PairsRead}
use Rattle.runfile.specs.declared.groups.EndsRead.{EndsRead}
use Rattle.lines.specs.declared.PairLine.{PairLine}
use Rattle.lines.specs.declared.EndLine.{EndLine}
use Rattle.lines.specs.Lines.{end_word, pair_at, end_at}

-- "at most 16", "at most 8", "at most 1,000"
abbrev pub most_task_lines : ℕ
most_task_lines = 16

abbrev pub most_speed_lines : ℕ
most_speed_lines = 8

abbrev pub most_end_lines : ℕ
most_end_lines = 1_000

-- no line read yet, and one line more
unfoldable pub no_pairs : Pairs
no_pairs = record { firsts = record { items = [] }; seconds = record { items = [] } }

unfoldable pub more_pairs : Pairs → ℕ → ℕ → Pairs
more_pairs p first second =
    record {
      firsts = record { items = p.firsts.items ++ (first ∷ []) };
      seconds = record { items = p.seconds.items ++ (second ∷ []) };
    }

-- the places that are free after so many end lines, each all zero
unfoldable pub free_ends : ℕ → List End
free_ends count = replicate (most_end_lines - count) (record { tick = ticks 0; task = 0; cycles = cycles 0 })

unfoldable pub no_ends : Ends
no_ends = record { items = [] }

unfoldable pub more_ends : Ends → ℕ → ℕ → ℕ → Ends
more_ends e tick task used = record { items = e.items ++ (record { tick = ticks tick; task = task; cycles = cycles used } ∷ []) }

-- a group that was read, with the place of the line after it; None where a line is wrong and the reading ends
abbrev pub pairs_read : Pairs → ℕ → Option PairsRead
pairs_read p next = Some (record { pairs = p; next = next })

abbrev pub ends_read : Ends → ℕ → Option EndsRead
ends_read e next = Some (record { ends = e; next = next })

-- a line's numbers go on to what is read next
unfoldable pub with_pair : Option PairLine → (ℕ → ℕ → ℕ → Option PairsRead) → Option PairsRead
with_pair (Some l) go = go l.first l.second l.next
with_pair None go = None

-- task lines or speed lines: as long as a line begins with the word, its two numbers; no more than `left` lines
unfoldable pub pairs_from : List ℕ → List ℕ → ℕ → ℕ → Pairs → Option PairsRead
pairs_from word text zero at sofar = cond (stands_at text at word) None (pairs_read sofar at)
pairs_from word text (suc left) at sofar =
    cond (stands_at text at word)
    (with_pair (pair_at text (at + length word)) (λ first second next. pairs_from word text left next (more_pairs sofar first second)))
    (pairs_read sofar at)

-- "End lines rise strictly by tick and then task, name a task that exists .. and at least 1 cycle": such a line after one of tickBefore and taskBefore
unfoldable pub end_good : ℕ → ℕ → ℕ → ℕ → ℕ → ℕ → Bool
end_good tasks tickBefore taskBefore tick task cycles =
    (ltb tickBefore tick || (eqb tickBefore tick && ltb taskBefore task)) && (leb 1 task && leb task tasks) && leb 1 cycles

unfoldable pub with_end : Option EndLine → (ℕ → ℕ → ℕ → ℕ → Option EndsRead) → Option EndsRead
with_end (Some l) go = go l.tick.0 l.task l.cycles.0 l.next
with_end None go = None

-- end lines: as long as a line begins with `end,`; before the first stands tick 0, task 0, below every line that is good
unfoldable pub ends_from : List ℕ → ℕ → ℕ → ℕ → ℕ → ℕ → Ends → Option EndsRead
ends_from text tasks zero at tickBefore taskBefore sofar = cond (stands_at text at end_word) None (ends_read sofar at)
ends_from text tasks (suc left) at tickBefore taskBefore sofar =
    cond (stands_at text at end_word)
    (with_end (end_at text (at + 4))
    (λ tick task cycles next.
    cond (end_good tasks tickBefore taskBefore tick task cycles)
    (ends_from text tasks left next tick task (more_ends sofar tick task cycles))
    None))
    (ends_read sofar at)
