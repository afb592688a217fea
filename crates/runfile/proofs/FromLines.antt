-- Lines that are spelled are read as they are: group by group, by the lines that are left.
use mathlib.Core.Path.{◌≡◌, refl, sym, ap, ◌∙◌}
use mathlib.Core.Bool.{Bool, true, false, ◌&&◌, and-true, and_assoc}
use mathlib.Core.List.{List, [], ◌∷◌, ◌++◌}
use Prim.Native.Nat.{ℕ, zero, suc, ◌+◌, ◌^◌, ◌≤◌, ◌<◌}
use native.Mathlib.Nat.{not-suc-le-zero, le_of_suc-le-suc}
use native.Mathlib.Omega.{arith}
use borrow.Author.Tests.{ltb-true}
use lib.ListN.{length, drop, length-append}
use Rattle.std.specs.List.{list_all}
use Rattle.units.specs.Units.{ticks, cycles}
use Rattle.runfile.specs.declared.End.{End}
use Rattle.words.specs.Words.{begins, stands_at}
use Rattle.decimal.specs.Decimal.{fits64}
use Rattle.lines.specs.Lines.{end_word}
use Rattle.lines.specs.Spelled.{two_numbers, three_numbers}
use Rattle.lines.proofs.Spelled.{after_front, word_here, two_read, three_read}
use Rattle.runfile.specs.declared.Pairs.{Pairs}
use Rattle.runfile.specs.declared.ends.Ends.{Ends}
use Rattle.runfile.specs.Groups.{more_pairs, more_ends, pairs_read, pairs_from, ends_read, end_good, ends_from}
use Rattle.runfile.specs.Spelled.{TwoLine, ThreeLine, two_lines, end_lines, pairs_laid, ends_laid, twos_fit, threes_fit, ends_rise, ticks_of}
use Rattle.runfile.proofs.Splits.{both}
use Rattle.runfile.proofs.Pairing.{group_ends, one_line}
use Rattle.runfile.proofs.Ending.{lines_end, one_end}

-- a number that fits 64 bits
fit_below : (n : ℕ) → fits64 n ≡ true → n < 2 ^ 64
unfolding fits64
fit_below n e = ltb-true n (2 ^ 64) e

-- a group of two numbers a line that is spelled is read, where what follows begins with another word
pub pairs_read_lem : (word text rest : List ℕ) → begins rest word ≡ false → (ls : List TwoLine) (left at : ℕ) (p : Pairs) → twos_fit ls ≡ true → length ls ≤ left → drop at text ≡ two_lines word ls rest
    → (n : ℕ) × (pairs_from word text left at p ≡ pairs_read (pairs_laid p ls) n) × (drop n text ≡ rest)
unfolding stands_at two_lines twos_fit pairs_laid
pairs_read_lem word text rest other [] left at p fit few e = (at, group_ends word text at p left (ap (λ (l : List ℕ). begins l word) e ∙ other), e)
pairs_read_lem word text rest other (l ∷ ls) zero at p fit few e = absurd (not-suc-le-zero few)
pairs_read_lem word text rest other (l ∷ ls) (suc left) at p fit few e =
    let fits = both (fits64 l.first && fits64 l.second) (twos_fit ls) fit in
    let two = both (fits64 l.first) (fits64 l.second) fits.0 in
    let after = two_numbers l.first l.second l.end (two_lines word ls rest) in
    let line = two_read text (at + length word) l.first l.second l.end (two_lines word ls rest) (fit_below l.first two.0) (fit_below l.second two.1) (after_front text at word after e) in
    let more = pairs_read_lem word text rest other ls left line.0 (more_pairs p l.first l.second) fits.1 (le_of_suc-le-suc few) line.2 in
    (more.0, one_line word text at p (word_here text at word after e) refl left line.1 ∙ more.1, more.2)

-- end lines that are spelled and rise are read
pub ends_read_lem : (text rest : List ℕ) (known : ℕ) → begins rest end_word ≡ false → (ls : List ThreeLine) (left at earlier former : ℕ) (p : Ends)
    → threes_fit ls ≡ true → ends_rise known earlier former ls ≡ true → length ls ≤ left → drop at text ≡ end_lines ls rest
    → (n : ℕ) × (ends_from text known left at earlier former p ≡ ends_read (ends_laid p ls) n) × (drop n text ≡ rest)
unfolding stands_at end_lines threes_fit ends_rise ends_laid end_word
ends_read_lem text rest known other [] left at earlier former p fit rise few e =
    (at, lines_end text known at earlier former p left (ap (λ (l : List ℕ). begins l end_word) e ∙ other), e)
ends_read_lem text rest known other (l ∷ ls) zero at earlier former p fit rise few e = absurd (not-suc-le-zero few)
ends_read_lem text rest known other (l ∷ ls) (suc left) at earlier former p fit rise few e =
    let fits = both (fits64 l.tick && fits64 l.task && fits64 l.cycles) (threes_fit ls) fit in
    let three = both (fits64 l.tick && fits64 l.task) (fits64 l.cycles) fits.0 in
    let two = both (fits64 l.tick) (fits64 l.task) three.0 in
    let good = both (end_good known earlier former l.tick l.task l.cycles) (ends_rise known l.tick l.task ls) rise in
    let after = three_numbers l.tick l.task l.cycles l.end (end_lines ls rest) in
    let line = three_read text (at + 4) l.tick l.task l.cycles l.end (end_lines ls rest)
    (fit_below l.tick two.0) (fit_below l.task two.1) (fit_below l.cycles three.1) (after_front text at end_word after e) in
    let more = ends_read_lem text rest known other ls left line.0 l.tick l.task (more_ends p l.tick l.task l.cycles) fits.1 good.1 (le_of_suc-le-suc few) line.2 in
    (more.0, one_end text known at earlier former p (word_here text at end_word after e) refl line.1 left refl good.0 ∙ more.1, more.2)

-- how many lines were laid
pub pairs_count : (ls : List TwoLine) (p : Pairs) → length (pairs_laid p ls).firsts.items ≡ length p.firsts.items + length ls
unfolding pairs_laid more_pairs
pairs_count [] p = omega arith
pairs_count (l ∷ ls) p = pairs_count ls (more_pairs p l.first l.second) ∙ omega (arith, length-append p.firsts.items (l.first ∷ []))

-- a test of the ticks of end lines that were laid is that of those before and that of the lines
pub ends_ticks : (t : ℕ → Bool) (ls : List ThreeLine) (e : Ends) → list_all (λ (x : End). t x.tick.0) (ends_laid e ls).items ≡ (list_all (λ (x : End). t x.tick.0) e.items && list_all t (ticks_of ls))
unfolding ends_laid ticks_of more_ends
ends_ticks t [] e = sym (and-true _)
ends_ticks t (l ∷ ls) e =
    ends_ticks t ls (more_ends e l.tick l.task l.cycles)
    ∙ ap (λ (b : Bool). b && list_all t (ticks_of ls)) (all_more e.items)
    ∙ and_assoc (list_all (λ (x : End). t x.tick.0) e.items) (t l.tick) (list_all t (ticks_of ls))
  where
    all_more : (xs : List End) → list_all (λ (x : End). t x.tick.0) (xs ++ (record { tick = ticks l.tick; task = l.task; cycles = cycles l.cycles } ∷ [])) ≡ (list_all (λ (x : End). t x.tick.0) xs && t l.tick)
    all_more [] = and-true _
    all_more (x ∷ xs) = ap (λ (b : Bool). t x.tick.0 && b) (all_more xs) ∙ sym (and_assoc (t x.tick.0) (list_all (λ (x : End). t x.tick.0) xs) (t l.tick))
