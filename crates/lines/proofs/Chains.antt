-- What a definition goes on to from a callee's answer, in each case of the answer.
use mathlib.Core.Path.{◌≡◌}
use mathlib.Core.Bool.{true, false}
use mathlib.Core.List.{List, [], ◌∷◌}
use Prim.Native.Nat.{ℕ, ◌+◌, ◌≤◌}
use native.Mathlib.Omega.{arith}
use lib.ListN.{length}
use Rattle.words.proofs.Begins.{stands_within}
use Rattle.lines.proofs.Breaks.{byte_stands}
use Rattle.std.specs.Prelude.{Some, None}
use Rattle.units.specs.Units.{ticks, cycles}
use Rattle.words.specs.Words.{stands_at}
use Rattle.decimal.specs.declared.Number.{Number}
use Rattle.decimal.specs.Decimal.{read_number, field_at}
use Rattle.lines.specs.Lines.{line_end, past_comma, number_comma, ended_by, past_end, number_end, from_second, from_first, read_pair, pair_at, from_cycles, from_task, from_tick, read_end, end_at, run_word, from_run, read_run, run_at}

module _ (text : List ℕ) (at : ℕ) where
  -- no number, so no number with a comma
  pub comma_none : field_at text at ≡ None → number_comma text at ≡ None
  unfolding number_comma past_comma
  comma_none e = rw e

  -- a number that no comma follows
  pub comma_missing : (f : Number) → field_at text at ≡ Some f → stands_at text f.next (44 ∷ []) ≡ false → number_comma text at ≡ None
  unfolding number_comma past_comma
  comma_missing f e q = rw (e, ← byte_stands text f.next 44, q)

  -- a number and the comma after it
  pub comma_there : (f : Number) → field_at text at ≡ Some f → stands_at text f.next (44 ∷ []) ≡ true → number_comma text at ≡ read_number f.value (f.next + 1)
  unfolding number_comma past_comma
  comma_there f e q = rw (e, ← byte_stands text f.next 44, q)

  -- no number, so none that a line's end follows
  pub end_none : field_at text at ≡ None → number_end text at ≡ None
  unfolding number_end past_end
  end_none e = rw e

  -- a number that no line's end follows
  pub end_missing : (f : Number) → field_at text at ≡ Some f → line_end text f.next ≡ None → number_end text at ≡ None
  unfolding number_end past_end ended_by
  end_missing f e q = rw (e, q)

  -- a number and the line's end after it
  pub end_there : (f : Number) (p : ℕ) → field_at text at ≡ Some f → line_end text f.next ≡ Some p → number_end text at ≡ read_number f.value p
  unfolding number_end past_end ended_by
  end_there f p e q = rw (e, q)

  -- no first number: no pair
  pub pair_none : number_comma text at ≡ None → pair_at text at ≡ None
  unfolding pair_at from_first
  pair_none e = rw e

  -- a first number and no second: no pair
  pub pair_half : (f : Number) → number_comma text at ≡ Some f → number_end text f.next ≡ None → pair_at text at ≡ None
  unfolding pair_at from_first from_second
  pair_half f e q = rw (e, q)

  -- two numbers
  pub pair_whole : (f g : Number) → number_comma text at ≡ Some f → number_end text f.next ≡ Some g → pair_at text at ≡ read_pair f.value g.value g.next
  unfolding pair_at from_first from_second
  pair_whole f g e q = rw (e, q)

  -- no tick: no end line
  pub tick_none : number_comma text at ≡ None → end_at text at ≡ None
  unfolding end_at from_tick
  tick_none e = rw e

  -- a tick and no task: no end line
  pub task_none : (f : Number) → number_comma text at ≡ Some f → number_comma text f.next ≡ None → end_at text at ≡ None
  unfolding end_at from_tick from_task
  task_none f e q = rw (e, q)

  -- a tick, a task and no cycles: no end line
  pub cycles_none : (f g : Number) → number_comma text at ≡ Some f → number_comma text f.next ≡ Some g → number_end text g.next ≡ None → end_at text at ≡ None
  unfolding end_at from_tick from_task from_cycles
  cycles_none f g e q r = rw (e, q, r)

  -- three numbers
  pub end_whole : (f g h : Number) → number_comma text at ≡ Some f → number_comma text f.next ≡ Some g → number_end text g.next ≡ Some h → end_at text at ≡ read_end (ticks f.value) g.value (cycles h.value) h.next
  unfolding end_at from_tick from_task from_cycles
  end_whole f g h e q r = rw (e, q, r)

  -- another word: no run line
  pub run_none : stands_at text at (114 ∷ 117 ∷ 110 ∷ 44 ∷ []) ≡ false → run_at text at ≡ None
  unfolding run_at run_word
  run_none e = rw e

  -- the word, and no number after it: no run line
  pub run_empty : stands_at text at (114 ∷ 117 ∷ 110 ∷ 44 ∷ []) ≡ true → number_end text (at + 4) ≡ None → run_at text at ≡ None
  unfolding run_at run_word from_run
  run_empty e q = rw (e, q)

  -- the word, and the number after it
  pub run_there : (f : Number) → stands_at text at (114 ∷ 117 ∷ 110 ∷ 44 ∷ []) ≡ true → number_end text (at + 4) ≡ Some f → run_at text at ≡ read_run (ticks f.value) f.next
  unfolding run_at run_word from_run
  run_there f e q = rw (e, q)

  -- the word stands within the text, so its length may be added to its place
  pub run_within : stands_at text at (114 ∷ 117 ∷ 110 ∷ 44 ∷ []) ≡ true → at + 4 ≤ length text
  run_within e = stands_within text at (114 ∷ 117 ∷ 110 ∷ 44 ∷ []) (omega arith) e
