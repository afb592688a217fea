-- End lines, one turn of the reader: what is left to read from the next place on, by the line that stands there.
use mathlib.Core.Path.{◌≡◌, ap, ◌∙◌}
use mathlib.Core.Bool.{Bool, true, false}
use mathlib.Core.List.{List}
use Prim.Native.Nat.{ℕ, zero, suc, ◌+◌, ◌-◌, ◌≤◌, ◌<◌}
use native.Mathlib.Omega.{arith}
use Rattle.units.specs.declared.Ticks.{Ticks}
use Rattle.units.specs.declared.Cycles.{Cycles}
use Rattle.words.specs.Words.{stands_at}
use Rattle.lines.specs.declared.EndLine.{EndLine}
use Rattle.std.specs.Prelude.{Option, None}
use Rattle.lines.specs.Lines.{end_word, read_end, end_at}
use Rattle.runfile.specs.declared.ends.Ends.{Ends}
use Rattle.runfile.specs.Groups.{more_ends, ends_read, end_good, with_end, ends_from}

module _ (text : List ℕ) (known at earlier former : ℕ) (sofar : Ends) where
  -- another word: the end lines end there
  pub lines_end : (left : ℕ) → stands_at text at end_word ≡ false → ends_from text known left at earlier former sofar ≡ ends_read sofar at
  unfolding ends_from
  lines_end zero e = rw e
  lines_end (suc left) e = rw e

  -- where no line may follow, one that does is wrong
  at_limit : stands_at text at end_word ≡ true → ends_from text known 0 at earlier former sofar ≡ None
  unfolding ends_from
  at_limit e = rw e

  -- a line too many is wrong
  pub end_too_many : (most count : ℕ) → most ≤ count → stands_at text at end_word ≡ true → ends_from text known (most - count) at earlier former sofar ≡ None
  end_too_many most count h e = ap (λ (left : ℕ). ends_from text known left at earlier former sofar) (omega arith) ∙ at_limit e

  module _ {line : Option EndLine} (e : stands_at text at end_word ≡ true) (d : line ≡ end_at text (at + 4)) where
    -- a line with no three numbers is wrong
    pub end_wrong : (left : ℕ) → line ≡ None → ends_from text known left at earlier former sofar ≡ None
    unfolding ends_from with_end
    end_wrong zero h = rw e
    end_wrong (suc left) h = rw (e, ← d, h)

    module _ {tick : Ticks} {task : ℕ} {cycles : Cycles} {next : ℕ} (q : line ≡ read_end tick task cycles next) where
      -- a line that does not rise, or names no task or no cycle, is wrong
      pub end_not_good : (left : ℕ) {good : Bool} → good ≡ end_good known earlier former tick.0 task cycles.0 → good ≡ false → ends_from text known left at earlier former sofar ≡ None
      unfolding ends_from with_end
      end_not_good zero g h = rw e
      end_not_good (suc left) g h = rw (e, ← d, q, ← g, h)

      -- a good line leaves one line less to read
      pub one_end : (left : ℕ) {good : Bool} → good ≡ end_good known earlier former tick.0 task cycles.0 → good ≡ true → ends_from text known (suc left) at earlier former sofar ≡ ends_from text known left next tick.0 task (more_ends sofar tick.0 task cycles.0)
      unfolding ends_from with_end
      one_end left g t = rw (e, ← d, q, ← g, t)

      -- a good line is taken to those before it
      pub end_taken : (most count : ℕ) {good : Bool} → count < most → good ≡ end_good known earlier former tick.0 task cycles.0 → good ≡ true
          → ends_from text known (most - count) at earlier former sofar ≡ ends_from text known (most - (count + 1)) next tick.0 task (more_ends sofar tick.0 task cycles.0)
      end_taken most count h g t = ap (λ (left : ℕ). ends_from text known left at earlier former sofar) (omega arith) ∙ one_end (most - (count + 1)) g t
