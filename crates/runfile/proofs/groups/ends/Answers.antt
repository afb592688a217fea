-- The end lines that `ends` reads: what they are from the first line on, they are from the next line on with those read so far.
use Rattle.std.proofs.Common.{ℕ, List, sym, refl, ap, ◌∙◌, ◌+◌, ◌-◌, ◌≤◌, length, arith}
use Rattle.words.proofs.Begins.{stands_within}
use Rattle.lines.specs.Lines.{end_word}
use Rattle.runfile.specs.declared.End.{End}
use Rattle.runfile.specs.Groups.{most_end_lines, more_ends, no_ends, ends_from}
use Rattle.runfile.proofs.Ending.{lines_end, end_too_many, end_wrong, end_not_good, end_taken}
use Rattle.runfile.proofs.groups.ends.Goals as goal

pub loop-before-init : goal.loop-before-init
unfolding no_ends
loop-before-init c =
    let a = c.args in
    let none = c.new-ends.ensures in
    let zero = c.default-before.ensures in
    record {
      few = rw none (omega arith);
      rest = rw (zero.0, zero.1.0) (sym (ap (λ (xs : List End). ends_from a.text.now a.known (most_end_lines - length xs) a.at 0 0 (record { items = xs })) none));
      place = omega arith;
    }

pub returns-then-len-ge1000 : goal.returns-then-len-ge1000
unfolding end_word
returns-then-len-ge1000 c =
    let a = c.args in
    let s = c.loop-before in
    let long = c.len.ensures.value in
    sym (s.invariant.rest ∙ end_too_many a.text.now a.known s.next s.before.tick.0 s.before.task s.ends most_end_lines _ (omega arith) (sym c.loop-before-test.ensures))

pub overflow_add-next : goal.overflow_add-next
unfolding end_word
overflow_add-next c =
    let s = c.loop-before in
    let within : s.next + 4 ≤ length c.args.text.now = stands_within c.args.text.now s.next end_word (omega arith) (sym c.loop-before-test.ensures) in
    omega arith

pub returns-in_err-line : goal.returns-in_err-line
unfolding end_word
returns-in_err-line c =
    let a = c.args in
    let s = c.loop-before in
    c.from_residual.ensures
    ∙ sym (s.invariant.rest ∙ end_wrong a.text.now a.known s.next s.before.tick.0 s.before.task s.ends (sym c.loop-before-test.ensures) c.in_err-line.ensures _ refl)

pub returns-then-not-good_end : goal.returns-then-not-good_end
unfolding end_word
returns-then-not-good_end c =
    let a = c.args in
    let s = c.loop-before in
    sym (s.invariant.rest ∙ end_not_good a.text.now a.known s.next s.before.tick.0 s.before.task s.ends (sym c.loop-before-test.ensures) c.in_ok-line.ensures refl _ c.if-not-good_end.ensures refl)

pub loop-before-preserved : goal.loop-before-preserved
unfolding end_word more_ends
loop-before-preserved c =
    let a = c.args in
    let s = c.loop-before in
    let long = c.len.ensures.value in
    let more = c.add.ensures in
    record {
      few = omega arith;
      rest = s.invariant.rest
          ∙ end_taken a.text.now a.known s.next s.before.tick.0 s.before.task s.ends (sym c.loop-before-test.ensures) c.in_ok-line.ensures refl most_end_lines (length s.ends.items) (omega arith) c.if-not-good_end.ensures refl
          ∙ ap (λ (k : ℕ). ends_from a.text.now a.known k c.in_ok-line.line.next c.in_ok-line.line.tick.0 c.in_ok-line.line.task (more_ends s.ends c.in_ok-line.line.tick.0 c.in_ok-line.line.task c.in_ok-line.line.cycles.0)) (omega arith)
          ∙ ap (λ (xs : List End). ends_from a.text.now a.known (most_end_lines - length c.add.new.self.items) c.in_ok-line.line.next c.in_ok-line.line.tick.0 c.in_ok-line.line.task (record { items = xs })) (sym more.items);
      place = omega arith;
    }

pub returns : goal.returns
unfolding end_word
returns c =
    let a = c.args in
    let s = c.loop-before in
    sym (s.invariant.rest ∙ lines_end a.text.now a.known s.next s.before.tick.0 s.before.task s.ends _ (sym c.loop-before-test.ensures))
