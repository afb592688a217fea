-- A line that is spelled is read as its numbers: part by part, each a front of what is left of the text.
use mathlib.Core.Path.{◌≡◌, refl, sym, ap, ◌∙◌}
use mathlib.Core.Bool.{true}
use mathlib.Core.List.{List, [], ◌∷◌, ◌++◌, append-nil}
use Prim.Native.Nat.{ℕ, ◌+◌, ◌^◌, ◌≤◌, ◌<◌}
use native.Mathlib.Nat.{not-suc-le-zero}
use native.Mathlib.Omega.{arith}
use borrow.Author.Tests.{eq-eqb}
use lib.ListN.{length, get_or, drop, length-drop, length-append}
use lib.Seq.{drop-drop, drop-append_seam, get_or-drop}
use Rattle.units.specs.Units.{ticks, cycles}
use Rattle.words.specs.Words.{begins, stands_at}
use Rattle.std.specs.Prelude.{Some}
use Rattle.decimal.specs.Decimal.{read_number, digits, decimal_of}
use Rattle.decimal.proofs.Written.{some_digit}
use Rattle.decimal.proofs.ReadBack.{no_digits_nil, no_digits_low, read_at}
use Rattle.lines.specs.Lines.{run_word, byte_at, line_end, number_comma, number_end, read_pair, pair_at, read_end, end_at, read_run, run_at}
use Rattle.lines.specs.Spelled.{LineBreak, lf, crlf, break_bytes, LastBreak, lacking, ended, last_bytes, two_numbers, three_numbers, run_line}
use Rattle.lines.proofs.Breaks.{byte_there, end_of_text, lf_ends, cr_lf_lem}
use Rattle.lines.proofs.Chains.{comma_there, end_there, pair_whole, end_whole, run_there}

module _ (text : List ℕ) (at : ℕ) where
  -- what follows a front stands after it
  pub after_front : (xs rest : List ℕ) → drop at text ≡ xs ++ rest → drop (at + length xs) text ≡ rest
  after_front xs rest e = sym (drop-drop (length xs) at text) ∙ ap (drop (length xs)) e ∙ drop-append_seam xs rest

  -- a front that is all that is left ends where the text does
  pub whole_front : (xs : List ℕ) → 1 ≤ length xs → drop at text ≡ xs → at + length xs ≡ length text
  whole_front xs some e = omega (arith, length-drop at text, ap length e)

  module _ (b : ℕ) (rest : List ℕ) (e : drop at text ≡ b ∷ rest) where
    -- the first byte of what is left lies within the text
    pub first_within : at < length text
    first_within = omega (arith, length-drop at text, ap length e)

    -- and stands at the place
    pub first_there : get_or text at 0 ≡ b
    first_there = ap (λ (k : ℕ). get_or text k 0) (omega arith) ∙ sym (get_or-drop at text 0 0) ∙ ap (λ (l : List ℕ). get_or l 0 0) e

    -- so the byte stands there
    pub byte_here : byte_at text at b ≡ true
    byte_here = byte_there text at b first_within first_there

  -- a word that is a front stands there
  pub word_here : (word rest : List ℕ) → drop at text ≡ word ++ rest → stands_at text at word ≡ true
  unfolding stands_at begins
  word_here word rest e = ap (λ (l : List ℕ). begins l word) e ∙ front word
    where
      front : (w : List ℕ) → begins (w ++ rest) w ≡ true
      front [] = refl
      front (b ∷ w) = rw (eq-eqb b b refl) (front w)

-- a line's end that is a front is passed
pub break_read : (text : List ℕ) (at : ℕ) (k : LineBreak) (rest : List ℕ) → drop at text ≡ break_bytes k ++ rest → line_end text at ≡ Some (at + length (break_bytes k))
unfolding break_bytes
break_read text at lf rest e = lf_ends text at (first_within text at 10 rest e) (first_there text at 10 rest e)
break_read text at crlf rest e =
    let next = after_front text at (13 ∷ []) (10 ∷ rest) e in
    let inside = first_within text at 13 (10 ∷ rest) e in
    let here = first_there text at 13 (10 ∷ rest) e in
    cr_lf_lem text at inside (λ q. not-suc-le-zero {n = 0} (omega (arith, here, q))) here (byte_here text (at + 1) 10 rest next)

-- no digit stands at a line's end
pub break_no_digit : (k : LineBreak) (rest : List ℕ) → digits (break_bytes k ++ rest) ≡ []
unfolding break_bytes
break_no_digit lf rest = no_digits_low 10 rest (omega arith)
break_no_digit crlf rest = no_digits_low 13 (10 ∷ rest) (omega arith)

module _ (text : List ℕ) (at a : ℕ) (fit : a < 2 ^ 64) where
  -- a number with a comma
  pub comma_read : (rest : List ℕ) → drop at text ≡ decimal_of a ++ (44 ∷ rest) → (n : ℕ) × (number_comma text at ≡ read_number a n) × (drop n text ≡ rest)
  comma_read rest e =
      let m = at + length (decimal_of a) in
      let next : drop m text ≡ 44 ∷ rest = after_front text at (decimal_of a) (44 ∷ rest) e in (
        m + 1,
        comma_there text at _ (read_at text at a (44 ∷ rest) e fit (no_digits_low 44 rest (omega arith))) (word_here text m (44 ∷ []) rest next),
        after_front text m (44 ∷ []) rest next,
      )

  -- a number with a line's end
  pub end_read : (k : LineBreak) (rest : List ℕ) → drop at text ≡ decimal_of a ++ (break_bytes k ++ rest)
      → (number_end text at ≡ read_number a (at + length (decimal_of a) + length (break_bytes k))) × (drop (at + length (decimal_of a) + length (break_bytes k)) text ≡ rest)
  end_read k rest e =
      let m = at + length (decimal_of a) in
      let next : drop m text ≡ break_bytes k ++ rest = after_front text at (decimal_of a) (break_bytes k ++ rest) e in (
        end_there text at _ _ (read_at text at a (break_bytes k ++ rest) e fit (break_no_digit k rest)) (break_read text m k rest next),
        after_front text m (break_bytes k) rest next,
      )

  -- a number that ends the text, with a line's end or without one
  pub last_read : (k : LastBreak) → drop at text ≡ decimal_of a ++ last_bytes k → number_end text at ≡ read_number a (length text)
  unfolding last_bytes
  last_read lacking e =
      let m = at + length (decimal_of a) in
      let full : m ≡ length text = whole_front text at (decimal_of a) (some_digit a) (e ∙ append-nil (decimal_of a)) in
      end_there text at _ _ (read_at text at a [] e fit no_digits_nil) (end_of_text text m (omega arith)) ∙ ap (read_number a) full
  last_read (ended k) e =
      let front : drop at text ≡ decimal_of a ++ (break_bytes k ++ []) = e ∙ ap (λ (l : List ℕ). decimal_of a ++ l) (sym (append-nil (break_bytes k))) in
      let full : at + length (decimal_of a ++ break_bytes k) ≡ length text = whole_front text at (decimal_of a ++ break_bytes k) (omega (arith, length-append (decimal_of a) (break_bytes k), some_digit a)) e in
      (end_read k [] front).0 ∙ ap (read_number a) (omega (arith, length-append (decimal_of a) (break_bytes k)))

-- two numbers of a line
pub two_read : (text : List ℕ) (at a b : ℕ) (k : LineBreak) (rest : List ℕ) → a < 2 ^ 64 → b < 2 ^ 64 → drop at text ≡ two_numbers a b k rest
    → (n : ℕ) × (pair_at text at ≡ read_pair a b n) × (drop n text ≡ rest)
unfolding two_numbers
two_read text at a b k rest fa fb e =
    let one = comma_read text at a fa (decimal_of b ++ (break_bytes k ++ rest)) e in
    let two = end_read text one.0 b fb k rest one.2 in
    (one.0 + length (decimal_of b) + length (break_bytes k), pair_whole text at _ _ one.1 two.0, two.1)

-- three numbers of a line
pub three_read : (text : List ℕ) (at a b c : ℕ) (k : LineBreak) (rest : List ℕ) → a < 2 ^ 64 → b < 2 ^ 64 → c < 2 ^ 64 → drop at text ≡ three_numbers a b c k rest
    → (n : ℕ) × (end_at text at ≡ read_end (ticks a) b (cycles c) n) × (drop n text ≡ rest)
unfolding three_numbers
three_read text at a b c k rest fa fb fc e =
    let one = comma_read text at a fa (decimal_of b ++ (44 ∷ (decimal_of c ++ (break_bytes k ++ rest)))) e in
    let two = comma_read text one.0 b fb (decimal_of c ++ (break_bytes k ++ rest)) one.2 in
    let three = end_read text two.0 c fc k rest two.2 in
    (two.0 + length (decimal_of c) + length (break_bytes k), end_whole text at _ _ _ one.1 two.1 three.0, three.1)

-- the run line
pub run_read : (text : List ℕ) (at run : ℕ) (k : LastBreak) → run < 2 ^ 64 → drop at text ≡ run_line run k → run_at text at ≡ read_run (ticks run) (length text)
unfolding run_line run_word
run_read text at run k fit e =
    let next : drop (at + 4) text ≡ decimal_of run ++ last_bytes k = after_front text at run_word (decimal_of run ++ last_bytes k) e in
    run_there text at _ (word_here text at run_word (decimal_of run ++ last_bytes k) e) (last_read text (at + 4) run fit k next)
