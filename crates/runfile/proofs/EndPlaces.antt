-- The places for end lines that are free: all of them at first, and what one line more leaves.
use Rattle.std.proofs.Common.{◌≡◌, ℕ, ◌+◌, ◌-◌, List, drop, set, replicate, sym, ap, ◌∙◌, arith, drop-set-lt}
use Rattle.std.proofs.lemmas.List.{drop-drop, drop-replicate}
use Rattle.runfile.specs.declared.End.{End}
use Rattle.units.specs.Units.{ticks, cycles}
use Rattle.runfile.specs.Groups.{most_end_lines, free_ends}

-- where every place holds zeros, the places past any of them are free
pub all_free : (count : ℕ) (none : End) → none ≡ record { tick = ticks 0; task = 0; cycles = cycles 0 } → drop count (replicate most_end_lines none) ≡ free_ends count
unfolding free_ends
all_free count none e = drop-replicate count most_end_lines none ∙ ap (replicate (most_end_lines - count)) e

-- one line more takes the first free place
pub one_taken : (lines : List End) (count : ℕ) (line : End) → drop count lines ≡ free_ends count → drop (count + 1) (set lines count line) ≡ free_ends (count + 1)
unfolding free_ends
one_taken lines count line free =
    let zero : End = record { tick = ticks 0; task = 0; cycles = cycles 0 } in
    drop-set-lt (count + 1) lines count line (omega arith)
    ∙ sym (drop-drop 1 count lines)
    ∙ ap (drop 1) free
    ∙ drop-replicate 1 (most_end_lines - count) zero
    ∙ ap (λ (left : ℕ). replicate left zero) (omega arith)
