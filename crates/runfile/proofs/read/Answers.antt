-- The run file that `read` answers: each group's answer is taken apart, and the run line closes the file.
use Rattle.std.proofs.Common.{sym, ap, ◌∙◌, ◌≡◌, ℕ, Bool, List, ltb, arith}
use Rattle.std.specs.List.{list_all}
use Rattle.std.specs.Prelude.{Option}
use Rattle.lines.specs.Lines.{task_word, speed_word}
use Rattle.runfile.specs.declared.End.{End}
use Rattle.runfile.specs.declared.groups.EndsRead.{EndsRead}
use Rattle.runfile.specs.Groups.{most_end_lines, no_ends, ends_from}
use Rattle.runfile.proofs.Stages.{too_large, tasks_wrong, speeds_wrong, ends_wrong, run_wrong, not_last, too_many, not_closed, all_closed}
use Rattle.runfile.proofs.read.Goals as goal
use Rattle.runfile.proofs.read.Goals.{then-next-text-via-then-next-text, then-next-text-via-else-next-text+then-ticks-gt10000, then-next-text-via-else-next-text+else-ticks-gt10000+then-not-closed}

-- the end lines read for as many tasks as there are task lines
known : (text : List ℕ) (n m at : ℕ) {r : Option EndsRead} → n ≡ m → ends_from text n most_end_lines at 0 0 no_ends ≡ r → ends_from text m most_end_lines at 0 0 no_ends ≡ r
known text n m at e h = rw (← e) h

pub returns-then-text-gt65536 : goal.returns-then-text-gt65536
returns-then-text-gt65536 c = sym (too_large c.args.text.now (omega arith))

pub returns-in_default : goal.returns-in_default
unfolding task_word
returns-in_default c = sym (tasks_wrong c.args.text.now c.if-text-gt65536.false (sym c.in_default.ensures))

pub returns-in_default-pairs : goal.returns-in_default-pairs
unfolding task_word speed_word
returns-in_default-pairs c =
    sym (speeds_wrong c.args.text.now c.if-text-gt65536.false _ _ (sym c.in-Some.ensures) (sym c.in_default-pairs.ensures))

pub returns-in_default-ends : goal.returns-in_default-ends
unfolding task_word speed_word
returns-in_default-ends c =
    sym (ends_wrong c.args.text.now c.if-text-gt65536.false _ _ (sym c.in-Some.ensures) _ _ (sym c.in-Some-pairs.ensures) (known _ _ _ _ c.len.ensures.value (sym c.in_default-ends.ensures)))

pub returns-in_default-run_line : goal.returns-in_default-run_line
unfolding task_word speed_word
returns-in_default-run_line c =
    sym (run_wrong c.args.text.now c.if-text-gt65536.false _ _ (sym c.in-Some.ensures) _ _ (sym c.in-Some-pairs.ensures) _ _ (known _ _ _ _ c.len.ensures.value (sym c.in-Some-ends.ensures)) (sym c.in_default-run_line.ensures))

-- what `closes` answers, of the end lines that were read
front : (run : ℕ) {xs ys : List End} {b : Bool} → xs ≡ ys → b ≡ list_all (λ (x : End). ltb x.tick.0 run) xs → list_all (λ (x : End). ltb x.tick.0 run) ys ≡ b
front run same e = ap (list_all (λ (x : End). ltb x.tick.0 run)) (sym same) ∙ sym e

pub returns-then-next-text : goal.returns-then-next-text
unfolding task_word speed_word
returns-then-next-text c =
    let text = c.args.text.now in
    let size = c.if-text-gt65536.false in
    let one = c.in-Some.ensures in
    let two = c.in-Some-pairs.ensures in
    let three = c.in-Some-ends.ensures in
    let line = c.in-Some-run_line.ensures in
    let run = c.in-Some-run_line.field-0.ticks.0 in
    elim c.then-next-text.branch [
      | then-next-text-via-then-next-text w ↦ sym (not_last text size _ _ (sym one) _ _ (sym two) _ _ (known _ _ _ _ c.len.ensures.value (sym three)) _ _ (sym line) w.if-next-text.true)
      | then-next-text-via-else-next-text+then-ticks-gt10000 w ↦ sym (too_many text size _ _ (sym one) _ _ (sym two) _ _ (known _ _ _ _ c.len.ensures.value (sym three)) _ _ (sym line) w.if-next-text.false (omega arith))
      | then-next-text-via-else-next-text+else-ticks-gt10000+then-not-closed w ↦ sym (not_closed text size _ _ (sym one) _ _ (sym two) _ _ (known _ _ _ _ c.len.ensures.value (sym three)) _ _ (sym line) w.if-next-text.false (omega arith) (front run c.as_slice.ensures.value c.closes-closed.ensures ∙ w.if-not-closed.true))
    ]

pub returns : goal.returns
unfolding task_word speed_word
returns c =
    let run = c.in-Some-run_line.field-0.ticks.0 in
    sym (all_closed c.args.text.now c.if-text-gt65536.false _ _ (sym c.in-Some.ensures) _ _ (sym c.in-Some-pairs.ensures) _ _ (known _ _ _ _ c.len.ensures.value (sym c.in-Some-ends.ensures)) _ _ (sym c.in-Some-run_line.ensures) c.if-next-text.false (omega arith) (front run c.as_slice.ensures.value c.closes-closed.ensures ∙ c.if-not-closed.false))
