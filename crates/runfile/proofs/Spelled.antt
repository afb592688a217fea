-- A text is a run file exactly when it is spelled by lines that keep the rules: it is then the file that they make.
use mathlib.Core.Path.{◌≡◌, refl, sym, ap, subst, ◌∙◌}
use mathlib.Core.Bool.{Bool, true, false, cond, ◌&&◌}
use mathlib.Core.List.{List, [], ◌∷◌, ◌++◌}
use Prim.Native.Nat.{ℕ, zero-le, suc-le-suc, ◌^◌, ◌≤◌, ◌<◌}
use native.Mathlib.Omega.{arith}
use borrow.Author.Tests.{leb-true, eqb-true}
use lib.Dec.{ltb, leb}
use lib.ListN.{length, drop, length-drop}
use Rattle.std.specs.List.{list_all}
use Rattle.words.specs.Words.{begins}
use Rattle.units.specs.declared.Ticks.{Ticks}
use Rattle.units.specs.Units.{ticks}
use Rattle.lines.specs.declared.RunLine.{RunLine}
use Rattle.std.specs.Prelude.{Option, Some, None, Result, Ok, Err}
use Rattle.refusals.specs.declared.Refusal.{Refusal}
use Rattle.lines.specs.Lines.{task_word, speed_word, end_word, run_word, read_run, run_at}
use Rattle.lines.specs.Spelled.{LastBreak, run_line}
use Rattle.lines.proofs.Spelled.{run_read}
use Rattle.lines.proofs.Unread.{run_front}
use Rattle.runfile.specs.declared.Pairs.{Pairs}
use Rattle.runfile.specs.declared.End.{End}
use Rattle.runfile.specs.declared.groups.PairsRead.{PairsRead}
use Rattle.runfile.specs.declared.groups.EndsRead.{EndsRead}
use Rattle.runfile.specs.declared.RunFile.{RunFile}
use Rattle.runfile.specs.declared.ends.Ends.{Ends}
use Rattle.runfile.specs.Groups.{most_task_lines, most_speed_lines, most_end_lines, no_pairs, no_ends, pairs_from}
use Rattle.runfile.specs.RunFile.{most_bytes, most_run_ticks, no_run_file, is_last, closed, after_ends, after_speeds, after_tasks, run_file_of}
use Rattle.runfile.specs.Spelled.{TwoLine, ThreeLine, two_lines, end_lines, spelling, pairs_laid, ends_laid, file_of, ends_rise, ticks_of, Spelled}
use Rattle.runfile.proofs.Splits.{both}
use Rattle.runfile.proofs.Stages.{all_closed}
use Rattle.runfile.proofs.FromLines.{pairs_read_lem, ends_read_lem, pairs_count, ends_ticks}
use Rattle.runfile.proofs.ToLines.{left_within, twos_some, ends_some, TakenTwos, TakenThrees, BackTwos, BackThrees, twos_back, threes_back}

-- lines of one word do not begin with another, where what follows them does not
other_twos : (word other : List ℕ) (ls : List TwoLine) (rest : List ℕ) → ((l : List ℕ) → begins (other ++ l) word ≡ false) → begins rest word ≡ false → begins (two_lines other ls rest) word ≡ false
unfolding two_lines
other_twos word other [] rest h k = k
other_twos word other (l ∷ ls) rest h k = h _

-- nor do end lines
other_ends : (word : List ℕ) (ls : List ThreeLine) (rest : List ℕ) → ((l : List ℕ) → begins (end_word ++ l) word ≡ false) → begins rest word ≡ false → begins (end_lines ls rest) word ≡ false
unfolding end_lines
other_ends word [] rest h k = k
other_ends word (l ∷ ls) rest h k = h _

-- the run line begins with no other word
run_other : (ticks : ℕ) (k : LastBreak) → (begins (run_line ticks k) task_word ≡ false) × (begins (run_line ticks k) speed_word ≡ false) × (begins (run_line ticks k) end_word ≡ false)
unfolding run_line run_word task_word speed_word end_word begins
run_other ticks k = (refl, refl, refl)

-- an end line begins neither with `task,` nor with `speed,`
end_other : (l : List ℕ) → (begins (end_word ++ l) task_word ≡ false) × (begins (end_word ++ l) speed_word ≡ false)
unfolding task_word speed_word end_word begins
end_other l = (refl, refl)

-- a speed line does not begin with `task,`
speed_other : (l : List ℕ) → begins (speed_word ++ l) task_word ≡ false
unfolding task_word speed_word begins
speed_other l = refl

-- ticks of a run fit 64 bits
small : {n : ℕ} → n ≤ most_run_ticks → n < 2 ^ 64
small h = omega arith

-- end lines laid from the first one on have the ticks of the lines
all_ticks : (t : ℕ → Bool) (ls : List ThreeLine) → list_all (λ (x : End). t x.tick.0) (ends_laid no_ends ls).items ≡ list_all t (ticks_of ls)
all_ticks t ls = ends_ticks t ls no_ends ∙ ap (λ (b : Bool). b && list_all t (ticks_of ls)) none
  where
    none : list_all (λ (x : End). t x.tick.0) no_ends.items ≡ true
    none = unfold no_ends in refl

-- as many task lines were laid as there are
all_laid : (ls : List TwoLine) → length (pairs_laid no_pairs ls).firsts.items ≡ length ls
unfolding no_pairs
all_laid ls = omega (arith, pairs_count ls no_pairs)

module _ (text : List ℕ) (f : RunFile) (s : Spelled text f) where
  -- a text that is spelled is the file that its lines make
  pub read_spelled : run_file_of text ≡ Ok f
  unfolding spelling file_of
  read_spelled =
      let run = run_line s.ticks s.last in
      let others = run_other s.ticks s.last in
      let afterTwo = end_lines s.ends run in
      let afterOne = two_lines speed_word s.speeds afterTwo in
      let p = pairs_laid no_pairs s.tasks in
      let q = pairs_laid no_pairs s.speeds in
      let e = ends_laid no_ends s.ends in
      let notSpeed : begins afterTwo speed_word ≡ false = other_ends speed_word s.ends run (λ l. (end_other l).1) others.1 in
      let notTask : begins afterOne task_word ≡ false = other_twos task_word speed_word s.speeds afterTwo speed_other (other_ends task_word s.ends run (λ l. (end_other l).0) others.0) in
      let one = pairs_read_lem task_word text afterOne notTask s.tasks most_task_lines 0 no_pairs s.tasks_fit s.few_tasks s.bytes in
      let two = pairs_read_lem speed_word text afterTwo notSpeed s.speeds most_speed_lines one.0 no_pairs s.speeds_fit s.few_speeds one.2 in
      let rise : ends_rise (length p.firsts.items) 0 0 s.ends ≡ true = rw (all_laid s.tasks) s.rise in
      let three = ends_read_lem text run (length p.firsts.items) others.2 s.ends most_end_lines two.0 0 0 no_ends s.ends_fit rise s.few_ends two.2 in
      let last = run_read text three.0 s.ticks s.last (small s.few_ticks) three.2 in
      all_closed text s.size p one.0 one.1 q two.0 two.1 e three.0 three.1 (ticks s.ticks) (length text) last refl s.few_ticks (all_ticks (λ t. ltb t s.ticks) s.ends ∙ s.below)
      ∙ ap Ok (sym s.file)

-- the run line is something
run_some : (ticks : ℕ) (k : LastBreak) → 1 ≤ length (run_line ticks k)
unfolding run_line run_word
run_some ticks k = suc-le-suc zero-le

-- a file that was read was spelled
abbrev WasSpelled : List ℕ → Result RunFile Refusal → Type 0
WasSpelled text (Ok f) = Spelled text f
WasSpelled text (Err refusal) = Unit {0}

module _ (text : List ℕ) (size : length text ≤ most_bytes) where
  -- a test that fails makes a text 14
  judged : (b : Bool) (r : Result RunFile Refusal) → (b ≡ true → WasSpelled text r) → WasSpelled text (cond b r no_run_file)
  judged true r h = h refl
  judged false r h = tt

  -- what is left after a place within the text is something
  some_left : (n : ℕ) → n < length text → 1 ≤ length (drop n text)
  some_left n h = omega (arith, length-drop n text)

  module _ (p : Pairs) (one : ℕ) (first : one < length text → TakenTwos task_word text most_task_lines 0 no_pairs p one) where
    module _ (q : Pairs) (two : ℕ) (second : two < length text → TakenTwos speed_word text most_speed_lines one no_pairs q two) where
      module _ (e : Ends) (three : ℕ) (third : three < length text → TakenThrees text (length p.firsts.items) most_end_lines two 0 0 no_ends e three) where
        -- with a run line that ends the text the groups before it are spelled, the last first
        whole : (run : Ticks) → run_at text three ≡ read_run run (length text) → run.0 ≤ most_run_ticks → list_all (λ (x : End). ltb x.tick.0 run.0) e.items ≡ true
            → Spelled text (record { tasks = p; speeds = q; ends = e; ticks = run })
        unfolding spelling file_of
        whole run h few under =
            let line = run_front text three run.0 h in
            let at3 : three < length text = left_within text three (run_line run.0 line.1.0) line.1.1 (run_some run.0 line.1.0) in
            let ends = third at3 in
            let at2 : two < length text = left_within text two _ ends.front (ends_some ends.lines (drop three text) (some_left three at3)) in
            let speeds = second at2 in
            let at1 : one < length text = left_within text one _ speeds.front (twos_some speed_word speeds.lines (drop two text) (some_left two at2)) in
            let tasks = first at1 in
            let known : (length p.firsts.items) ≡ length tasks.lines = ap (λ (x : Pairs). length x.firsts.items) tasks.laid ∙ all_laid tasks.lines in
            let laid : list_all (λ (x : End). ltb x.tick.0 run.0) e.items ≡ list_all (λ t. ltb t run.0) (ticks_of ends.lines) =
            ap (λ (x : Ends). list_all (λ (y : End). ltb y.tick.0 run.0) x.items) ends.laid ∙ all_ticks (λ t. ltb t run.0) ends.lines in
            record {
              tasks = tasks.lines;
              speeds = speeds.lines;
              ends = ends.lines;
              ticks = run.0;
              last = line.1.0;
              bytes = tasks.front ∙ ap (two_lines task_word tasks.lines) (speeds.front ∙ ap (two_lines speed_word speeds.lines) (ends.front ∙ ap (end_lines ends.lines) line.1.1));
              file = λ i. record { tasks = tasks.laid i; speeds = speeds.laid i; ends = ends.laid i; ticks = run };
              size = size;
              few_tasks = tasks.few;
              few_speeds = speeds.few;
              few_ends = ends.few;
              tasks_fit = tasks.fit;
              speeds_fit = speeds.fit;
              ends_fit = ends.fit;
              rise = rw known at ends.rise;
              few_ticks = few;
              below = sym laid ∙ under;
            }

        -- the run line decides
        closed_back : (f : Option RunLine) → run_at text three ≡ f → WasSpelled text (closed text p q e f)
        unfolding closed is_last
        closed_back (Some l) h =
            judged (is_last text l.next && leb l.ticks.0 most_run_ticks && list_all (λ (x : End). ltb x.tick.0 l.ticks.0) e.items) _
            (λ ok.
            let parts = both (is_last text l.next && leb l.ticks.0 most_run_ticks) (list_all (λ (x : End). ltb x.tick.0 l.ticks.0) e.items) ok in
            let ends = both (is_last text l.next) (leb l.ticks.0 most_run_ticks) parts.0 in
            whole l.ticks (h ∙ ap (read_run l.ticks) (eqb-true l.next (length text) ends.0)) (leb-true l.ticks.0 most_run_ticks ends.1) parts.1)
        closed_back None h = tt

      -- end lines, then the run line
      ends_back : (r : Option EndsRead) → BackThrees text (length p.firsts.items) most_end_lines two 0 0 no_ends r → WasSpelled text (after_ends text p q r)
      unfolding after_ends
      ends_back (Some r) back = closed_back r.ends r.next back (run_at text r.next) refl
      ends_back None back = tt

    -- speed lines, then the rest
    speeds_back : (r : Option PairsRead) → BackTwos speed_word text most_speed_lines one no_pairs r → WasSpelled text (after_speeds text p r)
    unfolding after_speeds
    speeds_back (Some r) back = ends_back r.pairs r.next back _ (threes_back text (length p.firsts.items) most_end_lines r.next 0 0 no_ends)
    speeds_back None back = tt

  -- task lines, then the rest
  tasks_back : (r : Option PairsRead) → BackTwos task_word text most_task_lines 0 no_pairs r → WasSpelled text (after_tasks text r)
  unfolding after_tasks
  tasks_back (Some r) back = speeds_back r.pairs r.next back _ (twos_back speed_word text most_speed_lines r.next no_pairs)
  tasks_back None back = tt

-- every text that is read was spelled
was_spelled : (text : List ℕ) → WasSpelled text (run_file_of text)
unfolding run_file_of
was_spelled text = go (leb (length text) most_bytes) refl
  where
    go : (b : Bool) → leb (length text) most_bytes ≡ b → WasSpelled text (cond b (after_tasks text (pairs_from task_word text most_task_lines 0 no_pairs)) no_run_file)
    go true h = tasks_back text (leb-true (length text) most_bytes h) _ (twos_back task_word text most_task_lines 0 no_pairs)
    go false h = tt

-- a text that is a run file is spelled by lines that make it
pub spelled_read : (text : List ℕ) (f : RunFile) → run_file_of text ≡ Ok f → Spelled text f
spelled_read text f e = subst (WasSpelled text) e (was_spelled text)
