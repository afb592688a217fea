-- "Run files" without places: a text is a run file exactly when it is spelled by lines like these.
use Rattle.std.specs.Prelude.{ℕ, ◌≤◌, ◌≡◌, Bool, true, ◌&&◌, List, [], ◌∷◌, ◌++◌, ltb, length}
use Rattle.std.specs.List.{list_all}
use Rattle.units.specs.Units.{ticks}
use Rattle.decimal.specs.Decimal.{fits64}
use Rattle.lines.specs.Lines.{task_word, speed_word, end_word}
use Rattle.lines.specs.Spelled.{LineBreak, LastBreak, two_numbers, three_numbers, run_line}
use Rattle.runfile.specs.declared.Pairs.{Pairs}
use Rattle.runfile.specs.declared.RunFile.{RunFile}
use Rattle.runfile.specs.declared.ends.Ends.{Ends}
use Rattle.runfile.specs.Groups.{most_task_lines, most_speed_lines, most_end_lines, no_pairs, more_pairs, no_ends, more_ends, end_good}
use Rattle.runfile.specs.RunFile.{most_bytes, most_run_ticks}

-- a task line (period, reserve) or a speed line (speed, volts), and an end line, each with its line's end
pub record TwoLine : Type 0 where
  pub first : ℕ
  pub second : ℕ
  pub end : LineBreak

pub record ThreeLine : Type 0 where
  pub tick : ℕ
  pub task : ℕ
  pub cycles : ℕ
  pub end : LineBreak

-- lines one after the other, and the rest of the text
unfoldable pub two_lines : List ℕ → List TwoLine → List ℕ → List ℕ
two_lines word [] rest = rest
two_lines word (l ∷ ls) rest = word ++ two_numbers l.first l.second l.end (two_lines word ls rest)

unfoldable pub end_lines : List ThreeLine → List ℕ → List ℕ
end_lines [] rest = rest
end_lines (l ∷ ls) rest = end_word ++ three_numbers l.tick l.task l.cycles l.end (end_lines ls rest)

-- task lines, speed lines, end lines, one run line
unfoldable pub spelling : List TwoLine → List TwoLine → List ThreeLine → ℕ → LastBreak → List ℕ
spelling tasks speeds ends ticks last = two_lines task_word tasks (two_lines speed_word speeds (end_lines ends (run_line ticks last)))

-- the lines' numbers taken, after those that are there
unfoldable pub pairs_laid : Pairs → List TwoLine → Pairs
pairs_laid p [] = p
pairs_laid p (l ∷ ls) = pairs_laid (more_pairs p l.first l.second) ls

unfoldable pub ends_laid : Ends → List ThreeLine → Ends
ends_laid e [] = e
ends_laid e (l ∷ ls) = ends_laid (more_ends e l.tick l.task l.cycles) ls

unfoldable pub file_of : List TwoLine → List TwoLine → List ThreeLine → ℕ → RunFile
file_of tasks speeds ends run =
    record {
      tasks = pairs_laid no_pairs tasks;
      speeds = pairs_laid no_pairs speeds;
      ends = ends_laid no_ends ends;
      ticks = ticks run;
    }

-- every number "fits 64 bits"
unfoldable pub twos_fit : List TwoLine → Bool
twos_fit [] = true
twos_fit (l ∷ ls) = fits64 l.first && fits64 l.second && twos_fit ls

unfoldable pub threes_fit : List ThreeLine → Bool
threes_fit [] = true
threes_fit (l ∷ ls) = fits64 l.tick && fits64 l.task && fits64 l.cycles && threes_fit ls

-- each end line is good after the one before it
unfoldable pub ends_rise : ℕ → ℕ → ℕ → List ThreeLine → Bool
ends_rise known tickBefore taskBefore [] = true
ends_rise known tickBefore taskBefore (l ∷ ls) =
    end_good known tickBefore taskBefore l.tick l.task l.cycles && ends_rise known l.tick l.task ls

unfoldable pub ticks_of : List ThreeLine → List ℕ
ticks_of [] = []
ticks_of (l ∷ ls) = l.tick ∷ ticks_of ls

-- a text spelled by lines that keep the rules, and the file that they make
pub record Spelled (text : List ℕ) (f : RunFile) : Type 0 where
  pub tasks : List TwoLine
  pub speeds : List TwoLine
  pub ends : List ThreeLine
  pub ticks : ℕ
  pub last : LastBreak
  pub bytes : text ≡ spelling tasks speeds ends ticks last
  pub file : f ≡ file_of tasks speeds ends ticks
  pub size : length text ≤ most_bytes
  pub few_tasks : length tasks ≤ most_task_lines
  pub few_speeds : length speeds ≤ most_speed_lines
  pub few_ends : length ends ≤ most_end_lines
  pub tasks_fit : twos_fit tasks ≡ true
  pub speeds_fit : twos_fit speeds ≡ true
  pub ends_fit : threes_fit ends ≡ true
  pub rise : ends_rise (length tasks) 0 0 ends ≡ true
  pub few_ticks : ticks ≤ most_run_ticks
  pub below : list_all (λ t. ltb t ticks) (ticks_of ends) ≡ true
