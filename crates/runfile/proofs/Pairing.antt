-- Task lines and speed lines, one turn of the reader: what is left to read from the next place on, by the line that stands there.
use mathlib.Core.Path.{◌≡◌, ap, ◌∙◌}
use mathlib.Core.Bool.{true, false}
use mathlib.Core.List.{List, [], ◌∷◌}
use Prim.Native.Nat.{ℕ, zero, suc, ◌+◌, ◌-◌, ◌≤◌, ◌<◌}
use native.Mathlib.Omega.{arith}
use lib.ListN.{length}
use Rattle.words.specs.Words.{stands_at}
use Rattle.words.proofs.Begins.{stands_within}
use Rattle.lines.specs.declared.PairLine.{PairLine}
use Rattle.std.specs.Prelude.{Option, None}
use Rattle.lines.specs.Lines.{read_pair, pair_at}
use Rattle.runfile.specs.declared.Pairs.{Pairs}
use Rattle.runfile.specs.Groups.{more_pairs, pairs_read, with_pair, pairs_from}

module _ (word text : List ℕ) (at : ℕ) (sofar : Pairs) where
  -- another word: the group ends there
  pub group_ends : (left : ℕ) → stands_at text at word ≡ false → pairs_from word text left at sofar ≡ pairs_read sofar at
  unfolding pairs_from
  group_ends zero e = rw e
  group_ends (suc left) e = rw e

  -- where no line may follow, one that does is wrong
  at_limit : stands_at text at word ≡ true → pairs_from word text 0 at sofar ≡ None
  unfolding pairs_from
  at_limit e = rw e

  -- a line too many is wrong
  pub line_too_many : (most count : ℕ) → most ≤ count → stands_at text at word ≡ true → pairs_from word text (most - count) at sofar ≡ None
  line_too_many most count h e = ap (λ (left : ℕ). pairs_from word text left at sofar) (omega arith) ∙ at_limit e

  module _ {line : Option PairLine} (e : stands_at text at word ≡ true) (d : line ≡ pair_at text (at + length word)) where
    -- a line with no two numbers is wrong
    pub line_wrong : (left : ℕ) → line ≡ None → pairs_from word text left at sofar ≡ None
    unfolding pairs_from with_pair
    line_wrong zero h = rw e
    line_wrong (suc left) h = rw (e, ← d, h)

    -- a line with two numbers leaves one line less to read
    pub one_line : (left : ℕ) {first second next : ℕ} → line ≡ read_pair first second next → pairs_from word text (suc left) at sofar ≡ pairs_from word text left next (more_pairs sofar first second)
    unfolding pairs_from with_pair
    one_line left q = rw (e, ← d, q)

    -- a line with two numbers is taken to those before it
    pub line_taken : (most count : ℕ) {first second next : ℕ} → count < most → line ≡ read_pair first second next
        → pairs_from word text (most - count) at sofar ≡ pairs_from word text (most - (count + 1)) next (more_pairs sofar first second)
    line_taken most count h q = ap (λ (left : ℕ). pairs_from word text left at sofar) (omega arith) ∙ one_line (most - (count + 1)) q

-- the place after a word that stands in a text is small where the text is
pub past_word : (text : List ℕ) (at most : ℕ) (word : List ℕ) → at < most → length text < most → stands_at text at word ≡ true → at + length word < most
past_word text at most [] h k e = omega arith
past_word text at most (w ∷ ws) h k e =
    let within : at + length (w ∷ ws) ≤ length text = stands_within text at (w ∷ ws) (omega arith) e in
    omega arith
