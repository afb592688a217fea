-- A group that was read is spelled by lines: each line that was taken is the front of what was left. By the number of lines that may still be read.
use mathlib.Core.Path.{◌≡◌, refl, ap, ◌∙◌}
use mathlib.Core.Bool.{Bool, true, false, cond}
use mathlib.Core.List.{List, [], ◌∷◌, ◌++◌}
use Prim.Native.Nat.{ℕ, zero, suc, zero-le, suc-le-suc, ◌+◌, ◌^◌, ◌≤◌, ◌<◌}
use native.Mathlib.Omega.{arith}
use borrow.Author.Tests.{lt-ltb}
use lib.ListN.{length, drop, length-drop, length-append}
use Rattle.units.specs.Units.{ticks, cycles}
use Rattle.words.specs.Words.{stands_at}
use Rattle.decimal.specs.Decimal.{decimal_of, fits64}
use Rattle.decimal.proofs.Written.{some_digit}
use Rattle.lines.specs.declared.PairLine.{PairLine}
use Rattle.lines.specs.declared.EndLine.{EndLine}
use Rattle.std.specs.Prelude.{Option, Some, None}
use Rattle.lines.specs.Lines.{end_word, read_pair, pair_at, read_end, end_at}
use Rattle.lines.specs.Spelled.{LineBreak, two_numbers, three_numbers}
use Rattle.lines.proofs.Unread.{word_front, two_front, three_front}
use Rattle.runfile.specs.declared.Pairs.{Pairs}
use Rattle.runfile.specs.declared.groups.PairsRead.{PairsRead}
use Rattle.runfile.specs.declared.groups.EndsRead.{EndsRead}
use Rattle.runfile.specs.declared.ends.Ends.{Ends}
use Rattle.runfile.specs.Groups.{more_pairs, more_ends, pairs_read, with_pair, pairs_from, ends_read, end_good, with_end, ends_from}
use Rattle.runfile.specs.Spelled.{TwoLine, ThreeLine, two_lines, end_lines, pairs_laid, ends_laid, twos_fit, threes_fit, ends_rise}

-- a number below 2^64 fits
fit_true : (n : ℕ) → n < 2 ^ 64 → fits64 n ≡ true
unfolding fits64
fit_true n h = lt-ltb n (2 ^ 64) h

-- where something is left the place lies within the text
pub left_within : (text : List ℕ) (at : ℕ) (rest : List ℕ) → drop at text ≡ rest → 1 ≤ length rest → at < length text
left_within text at rest e h = omega (arith, length-drop at text, ap length e)

-- a number written at the front is something
number_some : (n : ℕ) (rest : List ℕ) → 1 ≤ length (decimal_of n ++ rest)
number_some n rest = omega (arith, length-append (decimal_of n) rest, some_digit n)

-- so is a line
two_some : (a b : ℕ) (k : LineBreak) (rest : List ℕ) → 1 ≤ length (two_numbers a b k rest)
unfolding two_numbers
two_some a b k rest = number_some a _

-- lines of two numbers and something after them are something
pub twos_some : (word : List ℕ) (ls : List TwoLine) (rest : List ℕ) → 1 ≤ length rest → 1 ≤ length (two_lines word ls rest)
unfolding two_lines
twos_some word [] rest h = h
twos_some word (l ∷ ls) rest h =
    omega (arith, length-append word (two_numbers l.first l.second l.end (two_lines word ls rest)), two_some l.first l.second l.end (two_lines word ls rest))

-- so are end lines
pub ends_some : (ls : List ThreeLine) (rest : List ℕ) → 1 ≤ length rest → 1 ≤ length (end_lines ls rest)
unfolding end_lines end_word
ends_some [] rest h = h
ends_some (l ∷ ls) rest h = suc-le-suc zero-le

-- lines that spell what was read from a place on, up to the next, and lay q after p
pub record TakenTwos (word text : List ℕ) (left at : ℕ) (p q : Pairs) (next : ℕ) : Type 0 where
  pub lines : List TwoLine
  pub few : length lines ≤ left
  pub fit : twos_fit lines ≡ true
  pub laid : q ≡ pairs_laid p lines
  pub front : drop at text ≡ two_lines word lines (drop next text)

-- a group that was read, and was not the end of the text, was spelled
abbrev pub BackTwos : List ℕ → List ℕ → ℕ → ℕ → Pairs → Option PairsRead → Type 0
BackTwos word text left at p (Some r) = r.next < length text → TakenTwos word text left at p r.pairs r.next
BackTwos word text left at p None = Unit {0}

module _ (word text : List ℕ) (left at : ℕ) (p : Pairs) where
  -- whichever of two answers is given, it was spelled
  twos_either : (b : Bool) (r s : Option PairsRead) → (b ≡ true → BackTwos word text left at p r) → BackTwos word text left at p s → BackTwos word text left at p (cond b r s)
  twos_either true r s h k = h refl
  twos_either false r s h k = k

  -- a wrong line claims nothing
  twos_with : (line : Option PairLine) (go : ℕ → ℕ → ℕ → Option PairsRead) → ((a b n : ℕ) → line ≡ read_pair a b n → BackTwos word text left at p (go a b n)) → BackTwos word text left at p (with_pair line go)
  unfolding with_pair
  twos_with (Some l) go h = h l.first l.second l.next refl
  twos_with None go h = tt

  -- no line taken
  twos_none : BackTwos word text left at p (pairs_read p at)
  unfolding twos_fit pairs_laid two_lines
  twos_none inside = record { lines = []; few = zero-le; fit = refl; laid = refl; front = refl }

-- one line taken, and those after it
twos_more : (word text : List ℕ) (left at : ℕ) (p : Pairs) (a b n : ℕ) → stands_at text at word ≡ true → pair_at text (at + length word) ≡ read_pair a b n
    → (r : Option PairsRead) → BackTwos word text left n (more_pairs p a b) r → BackTwos word text (suc left) at p r
unfolding twos_fit pairs_laid two_lines
twos_more word text left at p a b n stands e None back = tt
twos_more word text left at p a b n stands e (Some r) back = λ inside.
    let next = r.next in
    let t = back inside in
    let some : 1 ≤ length (drop next text) = omega (arith, length-drop next text) in
    let within : n < length text = left_within text n (two_lines word t.lines (drop next text)) t.front (twos_some word t.lines (drop next text) some) in
    let line = two_front text (at + length word) a b n e within in
    record {
      lines = record { first = a; second = b; end = line.2.0 } ∷ t.lines;
      few = suc-le-suc t.few;
      fit = rw (fit_true a line.0, fit_true b line.1, t.fit);
      laid = t.laid;
      front = word_front text at word stands ∙ ap (λ (l : List ℕ). word ++ l) (line.2.1 ∙ ap (two_numbers a b line.2.0) t.front);
    }

-- task lines or speed lines that were read were spelled
pub twos_back : (word text : List ℕ) (left at : ℕ) (p : Pairs) → BackTwos word text left at p (pairs_from word text left at p)
unfolding pairs_from
twos_back word text zero at p = twos_either word text zero at p (stands_at text at word) None (pairs_read p at) (λ _. tt) (twos_none word text zero at p)
twos_back word text (suc left) at p =
    twos_either word text (suc left) at p (stands_at text at word) _ (pairs_read p at)
    (λ s. twos_with word text (suc left) at p (pair_at text (at + length word)) _
    (λ a b n e. twos_more word text left at p a b n s e (pairs_from word text left n (more_pairs p a b)) (twos_back word text left n (more_pairs p a b))))
    (twos_none word text (suc left) at p)

-- end lines that spell what was read from a place on, up to the next, and lay q after p
pub record TakenThrees (text : List ℕ) (known left at earlier former : ℕ) (p q : Ends) (next : ℕ) : Type 0 where
  pub lines : List ThreeLine
  pub few : length lines ≤ left
  pub fit : threes_fit lines ≡ true
  pub rise : ends_rise known earlier former lines ≡ true
  pub laid : q ≡ ends_laid p lines
  pub front : drop at text ≡ end_lines lines (drop next text)

-- end lines that were read, and were not the end of the text, were spelled
abbrev pub BackThrees : List ℕ → ℕ → ℕ → ℕ → ℕ → ℕ → Ends → Option EndsRead → Type 0
BackThrees text known left at earlier former p (Some r) = r.next < length text → TakenThrees text known left at earlier former p r.ends r.next
BackThrees text known left at earlier former p None = Unit {0}

module _ (text : List ℕ) (known left at earlier former : ℕ) (p : Ends) where
  -- whichever of two answers is given, it was spelled
  threes_either : (b : Bool) (r s : Option EndsRead) → (b ≡ true → BackThrees text known left at earlier former p r) → BackThrees text known left at earlier former p s
      → BackThrees text known left at earlier former p (cond b r s)
  threes_either true r s h k = h refl
  threes_either false r s h k = k

  -- a wrong line claims nothing
  threes_with : (line : Option EndLine) (go : ℕ → ℕ → ℕ → ℕ → Option EndsRead) → ((a b c n : ℕ) → line ≡ read_end (ticks a) b (cycles c) n → BackThrees text known left at earlier former p (go a b c n))
      → BackThrees text known left at earlier former p (with_end line go)
  unfolding with_end
  threes_with (Some l) go h = h l.tick.0 l.task l.cycles.0 l.next refl
  threes_with None go h = tt

  -- no line taken
  threes_none : BackThrees text known left at earlier former p (ends_read p at)
  unfolding threes_fit ends_rise ends_laid end_lines
  threes_none inside = record { lines = []; few = zero-le; fit = refl; rise = refl; laid = refl; front = refl }

-- one line taken, and those after it
threes_more : (text : List ℕ) (known left at earlier former : ℕ) (p : Ends) (a b c n : ℕ) → stands_at text at end_word ≡ true → end_at text (at + 4) ≡ read_end (ticks a) b (cycles c) n
    → end_good known earlier former a b c ≡ true → (r : Option EndsRead) → BackThrees text known left n a b (more_ends p a b c) r → BackThrees text known (suc left) at earlier former p r
unfolding threes_fit ends_rise ends_laid end_lines end_word
threes_more text known left at earlier former p a b c n stands e good None back = tt
threes_more text known left at earlier former p a b c n stands e good (Some r) back = λ inside.
    let next = r.next in
    let t = back inside in
    let some : 1 ≤ length (drop next text) = omega (arith, length-drop next text) in
    let within : n < length text = left_within text n (end_lines t.lines (drop next text)) t.front (ends_some t.lines (drop next text) some) in
    let line = three_front text (at + 4) a b c n e within in
    record {
      lines = record { tick = a; task = b; cycles = c; end = line.3.0 } ∷ t.lines;
      few = suc-le-suc t.few;
      fit = rw (fit_true a line.0, fit_true b line.1, fit_true c line.2, t.fit);
      rise = rw (good, t.rise);
      laid = t.laid;
      front = word_front text at end_word stands ∙ ap (λ (l : List ℕ). end_word ++ l) (line.3.1 ∙ ap (three_numbers a b c line.3.0) t.front);
    }

-- end lines that were read were spelled
pub threes_back : (text : List ℕ) (known left at earlier former : ℕ) (p : Ends) → BackThrees text known left at earlier former p (ends_from text known left at earlier former p)
unfolding ends_from
threes_back text known zero at earlier former p =
    threes_either text known zero at earlier former p (stands_at text at end_word) None (ends_read p at) (λ _. tt) (threes_none text known zero at earlier former p)
threes_back text known (suc left) at earlier former p =
    threes_either text known (suc left) at earlier former p (stands_at text at end_word) _ (ends_read p at)
    (λ s. threes_with text known (suc left) at earlier former p (end_at text (at + 4)) _
    (λ a b c n e. threes_either text known (suc left) at earlier former p (end_good known earlier former a b c) _ None
    (λ g. threes_more text known left at earlier former p a b c n s e g (ends_from text known left n a b (more_ends p a b c)) (threes_back text known left n a b (more_ends p a b c)))
    tt))
    (threes_none text known (suc left) at earlier former p)
