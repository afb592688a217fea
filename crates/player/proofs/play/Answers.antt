-- `play` reads, starts and plays: each of its four ways out is a case of the definition, and what a run asks for comes from the file that was read and from start.
use mathlib.Core.Path.{◌≡◌}
use mathlib.Core.List.{List}
use Prim.Native.Nat.{ℕ}
use Rattle.rules.specs.Answers.{Started}
use Rattle.rules.specs.Calls.{start_of}
use Rattle.player.proofs.Outcomes.{no_file, no_start, no_room, all_played, runnable, needed_fits}
use Rattle.player.proofs.play.Goals as goal

-- what start answers of the four lists lent, it answers of what they hold
lent : {r : Started} {a b d e a' b' d' e' : List ℕ} → a ≡ a' → b ≡ b' → d ≡ d' → e ≡ e' → r ≡ start_of a b d e → r ≡ start_of a' b' d' e'
lent p q s t h = rw (← p, ← q, ← s, ← t) h

pub returns-in-Err : goal.returns-in-Err
returns-in-Err c = rw c.unplayed.ensures (no_file c.args.text.now c.args.rows.now c.in-Err.refusal c.in-Err.ensures)

pub returns-in-Err-started : goal.returns-in-Err-started
returns-in-Err-started c = rw c.unplayed-in-Err-started.ensures (no_start c.args.text.now c.args.rows.now c.in-Ok.file c.in-Ok.ensures c.in-Err-started.refusal (lent c.as_slice.ensures.value c.as_slice-2.ensures.value c.as_slice-3.ensures.value c.as_slice-4.ensures.value c.in-Err-started.ensures))

pub overflow_mul-file : goal.overflow_mul-file
overflow_mul-file c = rw c.len.ensures.value (needed_fits c.args.text.now c.args.rows.now c.in-Ok.file c.in-Ok.ensures)

pub returns-then-rows-file : goal.returns-then-rows-file
returns-then-rows-file c = no_room c.args.text.now c.args.rows.now c.in-Ok.file c.in-Ok.ensures c.in-Ok-started.state (lent c.as_slice.ensures.value c.as_slice-2.ensures.value c.as_slice-3.ensures.value c.as_slice-4.ensures.value c.in-Ok-started.ensures) (rw c.len.ensures.value at c.if-rows-file.true)

pub play_run-requires : goal.play_run-requires
play_run-requires c =
    rw c.as_slice-5.ensures.value
    (runnable c.args.text.now c.args.rows.now c.in-Ok.file c.in-Ok.ensures c.in-Ok-started.state (lent c.as_slice.ensures.value c.as_slice-2.ensures.value c.as_slice-3.ensures.value c.as_slice-4.ensures.value c.in-Ok-started.ensures) (rw c.len.ensures.value at c.if-rows-file.false))

pub returns : goal.returns
returns c =
    all_played c.args.text.now c.args.rows.now c.in-Ok.file c.in-Ok.ensures c.in-Ok-started.state (lent c.as_slice.ensures.value c.as_slice-2.ensures.value c.as_slice-3.ensures.value c.as_slice-4.ensures.value c.in-Ok-started.ensures) (rw c.len.ensures.value at c.if-rows-file.false) c.play_run.result _ (rw c.as_slice-5.ensures.value at c.play_run.ensures.value) (rw c.as_slice-5.ensures.value at c.play_run.ensures.rows_after)
