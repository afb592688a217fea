-- What task lines and speed lines keep while they are read: how many they are and the arrays' lengths. By the number of lines that may still be read.
use mathlib.Core.Path.{◌≡◌, refl}
use mathlib.Core.Bool.{Bool, true, false, cond}
use mathlib.Core.List.{List, [], ◌∷◌}
use Prim.Native.Nat.{ℕ, zero, suc, ◌+◌, ◌≤◌}
use native.Mathlib.Omega.{arith}
use lib.ListN.{length, length-append}
use Rattle.words.specs.Words.{stands_at}
use Rattle.std.specs.Prelude.{Option, Some, None}
use Rattle.lines.specs.declared.PairLine.{PairLine}
use Rattle.lines.specs.Lines.{pair_at}
use Rattle.runfile.specs.declared.Pairs.{Pairs}
use Rattle.runfile.specs.declared.groups.PairsRead.{PairsRead}
use Rattle.runfile.specs.Groups.{no_pairs, more_pairs, pairs_read, with_pair, pairs_from}
use Rattle.runfile.specs.Good.{GoodPairs}

-- a group that was read is good
abbrev pub SoundPairs : ℕ → Option PairsRead → Type 0
SoundPairs most (Some r) = GoodPairs most r.pairs
SoundPairs most None = Unit {0}

-- whichever of two answers is given, it is sound
pairs_either : (most : ℕ) (b : Bool) (r s : Option PairsRead) → SoundPairs most r → SoundPairs most s → SoundPairs most (cond b r s)
pairs_either most true r s h k = h
pairs_either most false r s h k = k

-- a line's numbers go on to a sound answer
pairs_with : (most : ℕ) (line : Option PairLine) (go : ℕ → ℕ → ℕ → Option PairsRead) → ((first second next : ℕ) → SoundPairs most (go first second next)) → SoundPairs most (with_pair line go)
unfolding with_pair
pairs_with most (Some l) go h = h l.first l.second l.next
pairs_with most None go h = tt

-- a group that was read has at most as many lines as were allowed
pub pairs_good : (word text : List ℕ) (most left at : ℕ) (p : Pairs) → length p.firsts.items + left ≤ most → length p.seconds.items ≡ length p.firsts.items
    → SoundPairs most (pairs_from word text left at p)
unfolding pairs_from more_pairs
pairs_good word text most zero at p h s =
    pairs_either most (stands_at text at word) None (pairs_read p at) tt (record { few = omega arith; both = s })
pairs_good word text most (suc left) at p h s =
    pairs_either most (stands_at text at word)
    (with_pair (pair_at text (at + length word)) (λ first second next. pairs_from word text left next (more_pairs p first second)))
    (pairs_read p at)
    (pairs_with most (pair_at text (at + length word)) (λ first second next. pairs_from word text left next (more_pairs p first second))
    (λ first second next.
    pairs_good word text most left next (more_pairs p first second) (omega (arith, length-append p.firsts.items (first ∷ []))) (omega (arith, length-append p.firsts.items (first ∷ []), length-append p.seconds.items (second ∷ [])))))
    (record { few = omega arith; both = s })

-- so has a group from its first line on
pub group_good : (word text : List ℕ) (most at : ℕ) → SoundPairs most (pairs_from word text most at no_pairs)
unfolding no_pairs
group_good word text most at = pairs_good word text most most at no_pairs (omega arith) refl
