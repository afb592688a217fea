-- A line that was read is spelled as its numbers would be: each answer leads back to the front of the text that it was read from.
use mathlib.Core.Path.{◌≡◌, refl, sym, ap, ap₂, ◌∙◌}
use mathlib.Core.Bool.{Bool, true, false, cond, ◌&&◌, false≢true}
use mathlib.Core.List.{List, [], ◌∷◌, ◌++◌, append-nil}
use mathlib.Core.Logic.{◌⊎◌, inl, inr, ⊎_elim}
use Prim.Native.Nat.{ℕ, ◌+◌, ◌^◌, ◌≤◌, ◌<◌}
use native.Mathlib.Nat.{not-suc-le-zero, le_refl}
use native.Mathlib.Numerals.{add-one}
use native.Mathlib.Omega.{arith}
use borrow.Author.Tests.{ltb-true, eqb-true, leb-true}
use lib.Dec.{eqb, ltb, leb}
use lib.ListN.{length, get_or, drop, drop_of_length-le}
use lib.Seq.{drop-cons, drop-drop}
use Rattle.units.specs.declared.Ticks.{Ticks}
use Rattle.units.specs.declared.Cycles.{Cycles}
use Rattle.units.specs.Units.{ticks, cycles}
use Rattle.words.specs.Words.{begins, stands_at}
use Rattle.decimal.specs.declared.Number.{Number}
use Rattle.std.specs.Prelude.{Option, Some, None}
use Rattle.decimal.specs.Decimal.{read_number, decimal_of, field_at}
use Rattle.decimal.proofs.ReadBack.{same_number, read_written}
use Rattle.lines.specs.declared.PairLine.{PairLine}
use Rattle.lines.specs.declared.EndLine.{EndLine}
use Rattle.lines.specs.declared.RunLine.{RunLine}
use Rattle.lines.specs.Lines.{run_word, byte_at, line_end, past_comma, number_comma, ended_by, past_end, number_end, from_second, from_first, read_pair, pair_at, from_cycles, from_task, from_tick, read_end, end_at, from_run, read_run, run_at}
use Rattle.lines.specs.Spelled.{LineBreak, lf, crlf, break_bytes, LastBreak, lacking, ended, last_bytes, two_numbers, three_numbers, run_line}

-- a number is not none
no_number : {v n : ℕ} → None ≡ read_number v n → ⊥
no_number e = let z : ◌≡◌ {A = ℕ} 0 1 = cc in not-suc-le-zero {n = 0} (omega arith)

-- a line of two numbers is not a wrong one
no_pair : {a b n : ℕ} → None ≡ read_pair a b n → ⊥
no_pair e = let z : ◌≡◌ {A = ℕ} 0 1 = cc in not-suc-le-zero {n = 0} (omega arith)

-- a line of three numbers is not a wrong one
no_end : {a : Ticks} {b : ℕ} {c : Cycles} {n : ℕ} → None ≡ read_end a b c n → ⊥
no_end e = let z : ◌≡◌ {A = ℕ} 0 1 = cc in not-suc-le-zero {n = 0} (omega arith)

-- a run line is not a wrong one
no_run : {a : Ticks} {n : ℕ} → None ≡ read_run a n → ⊥
no_run e = let z : ◌≡◌ {A = ℕ} 0 1 = cc in not-suc-le-zero {n = 0} (omega arith)

-- a line that ends is not one that does not
no_next : {n : ℕ} → None ≡ Some n → ⊥
no_next e = let z : ◌≡◌ {A = ℕ} 0 1 = cc in not-suc-le-zero {n = 0} (omega arith)

-- an answer names one place
next_is : {m n : ℕ} → Some m ≡ Some n → m ≡ n
next_is e = cc

-- lines that are one have their parts in common
same_pair : {a b c v w n : ℕ} → read_pair a b c ≡ read_pair v w n → (a ≡ v) × (b ≡ w) × (c ≡ n)
same_pair {a} {b} {c} {v} {w} {n} e =
    let line : ℕ → ℕ → ℕ → PairLine = λ x y z. record { first = x; second = y; next = z } in
    let same : line a b c ≡ line v w n = cc in
    (ap (λ (l : PairLine). l.first) same, ap (λ (l : PairLine). l.second) same, ap (λ (l : PairLine). l.next) same)

same_end : {a b c d v w x n : ℕ} → read_end (ticks a) b (cycles c) d ≡ read_end (ticks v) w (cycles x) n → (a ≡ v) × (b ≡ w) × (c ≡ x) × (d ≡ n)
same_end {a} {b} {c} {d} {v} {w} {x} {n} e =
    let line : ℕ → ℕ → ℕ → ℕ → EndLine = λ i j k m. record { tick = ticks i; task = j; cycles = cycles k; next = m } in
    let same : line a b c d ≡ line v w x n = cc in
    (ap (λ (l : EndLine). l.tick.0) same, ap (λ (l : EndLine). l.task) same, ap (λ (l : EndLine). l.cycles.0) same, ap (λ (l : EndLine). l.next) same)

same_run : {a b v n : ℕ} → read_run (ticks a) b ≡ read_run (ticks v) n → (a ≡ v) × (b ≡ n)
same_run {a} {b} {v} {n} e =
    let line : ℕ → ℕ → RunLine = λ i j. record { ticks = ticks i; next = j } in
    let same : line a b ≡ line v n = cc in
    (ap (λ (l : RunLine). l.ticks.0) same, ap (λ (l : RunLine). l.next) same)

-- a word that stands at a place is a front of what is left
pub word_front : (text : List ℕ) (at : ℕ) (word : List ℕ) → stands_at text at word ≡ true → drop at text ≡ word ++ drop (at + length word) text
unfolding stands_at begins
word_front text at word e = front (drop at text) word e ∙ ap (λ (l : List ℕ). word ++ l) (drop-drop (length word) at text)
  where
    step : (a t : Bool) → (a && t) ≡ true → (a ≡ true) × (t ≡ true)
    step true t h = (refl, h)
    step false t h = absurd (false≢true h)

    front : (l w : List ℕ) → begins l w ≡ true → l ≡ w ++ drop (length w) l
    front l [] h = refl
    front [] (b ∷ w) h = absurd (false≢true h)
    front (x ∷ l) (b ∷ w) h =
        let both = step (eqb x b) (begins l w) h in
        rw (eqb-true x b both.0, ← front l w both.1)

-- a byte that stands at a place is the front of what is left
pub byte_front : (text : List ℕ) (at b : ℕ) → byte_at text at b ≡ true → drop at text ≡ b ∷ drop (at + 1) text
unfolding byte_at
byte_front text at b e = go (ltb at (length text)) refl
  where
    go : (t : Bool) → ltb at (length text) ≡ t → drop at text ≡ b ∷ drop (at + 1) text
    go true q =
        let same : get_or text at 0 ≡ b = eqb-true (get_or text at 0) b (rw q at e) in
        drop-cons text at 0 (ltb-true at (length text) q) ∙ rw (same, add-one at)
    go false q = absurd (false≢true (rw q at e))

-- a test that chose a number was true, and chose that number
chose : (t : Bool) (w m v n : ℕ) → cond t (read_number w m) None ≡ read_number v n → (t ≡ true) × (w ≡ v) × (m ≡ n)
chose true w m v n e = let both = same_number e in (refl, both.0, both.1)
chose false w m v n e = absurd (no_number e)

-- a number with a comma was a number, and the comma stood after it
comma_of : (text : List ℕ) (f : Option Number) (v n : ℕ) → past_comma text f ≡ read_number v n → (m : ℕ) × (f ≡ read_number v m) × (byte_at text m 44 ≡ true) × (m + 1 ≡ n)
unfolding past_comma
comma_of text (Some f) v n e = let h = chose (byte_at text f.next 44) f.value (f.next + 1) v n e in (f.next, ap (λ (x : ℕ). read_number x f.next) h.1, h.0, h.2)
comma_of text None v n e = absurd (no_number e)

-- an end that made a number kept it
ended_by_lem : (w : ℕ) (l : Option ℕ) (v n : ℕ) → ended_by w l ≡ read_number v n → (w ≡ v) × (l ≡ Some n)
unfolding ended_by
ended_by_lem w (Some p) v n e = let both = same_number e in (both.0, ap Some both.1)
ended_by_lem w None v n e = absurd (no_number e)

-- a number with a line's end was a number, and the line ended after it
ended_of : (text : List ℕ) (f : Option Number) (v n : ℕ) → past_end text f ≡ read_number v n → (m : ℕ) × (f ≡ read_number v m) × (line_end text m ≡ Some n)
unfolding past_end
ended_of text (Some f) v n e = let h = ended_by_lem f.value (line_end text f.next) v n e in (f.next, ap (λ (x : ℕ). read_number x f.next) h.0, h.1)
ended_of text None v n e = absurd (no_number e)

-- a line's end is the end of the text, or LF or CR LF at the front of what is left
pub break_front : (text : List ℕ) (at n : ℕ) → line_end text at ≡ Some n → ((n ≡ at) × (length text ≤ at)) ⊎ ((k : LineBreak) × (drop at text ≡ break_bytes k ++ drop n text))
unfolding line_end break_bytes
break_front text at n e = over (leb (length text) at) refl
  where
    both : (a b : Bool) → (a && b) ≡ true → (a ≡ true) × (b ≡ true)
    both true b h = (refl, h)
    both false b h = absurd (false≢true h)

    Front : Type 0
    Front = ((n ≡ at) × (length text ≤ at)) ⊎ ((k : LineBreak) × (drop at text ≡ break_bytes k ++ drop n text))

    returned : (t : Bool) → (byte_at text at 13 && byte_at text (at + 1) 10) ≡ t → cond t (Some (at + 2)) None ≡ Some n → Front
    returned true q h =
        let two = both (byte_at text at 13) (byte_at text (at + 1) 10) q in
        let place : at + 1 + 1 ≡ n = (omega arith) ∙ next_is h in
        inr (crlf, byte_front text at 13 two.0 ∙ ap (λ (l : List ℕ). 13 ∷ l) (byte_front text (at + 1) 10 two.1 ∙ ap (λ (m : ℕ). 10 ∷ drop m text) place))
    returned false q h = absurd (no_next h)

    fed : (t : Bool) → byte_at text at 10 ≡ t → cond t (Some (at + 1)) (cond (byte_at text at 13 && byte_at text (at + 1) 10) (Some (at + 2)) None) ≡ Some n → Front
    fed true q h = inr (lf, byte_front text at 10 q ∙ ap (λ (m : ℕ). 10 ∷ drop m text) (next_is h))
    fed false q h = returned (byte_at text at 13 && byte_at text (at + 1) 10) refl h

    over : (t : Bool) → leb (length text) at ≡ t → Front
    over true q = inl (sym (next_is (rw q at e)), leb-true (length text) at q)
    over false q = fed (byte_at text at 10) refl (rw q at e)

-- a number with a comma is spelled so
pub comma_front : (text : List ℕ) (at v n : ℕ) → number_comma text at ≡ read_number v n → (v < 2 ^ 64) × (drop at text ≡ decimal_of v ++ (44 ∷ drop n text))
unfolding number_comma
comma_front text at v n e =
    let h = comma_of text (field_at text at) v n e in
    let w = read_written text at v h.0 h.1 in
    (w.0, w.2 ∙ ap (λ (l : List ℕ). decimal_of v ++ l) (byte_front text h.0 44 h.2 ∙ ap (λ (m : ℕ). 44 ∷ drop m text) h.3))

-- a number with a line's end is spelled so, or it ends the text
pub end_front : (text : List ℕ) (at v n : ℕ) → number_end text at ≡ read_number v n
    → (v < 2 ^ 64) × (((length text ≤ n) × (drop at text ≡ decimal_of v ++ drop n text)) ⊎ ((k : LineBreak) × (drop at text ≡ decimal_of v ++ (break_bytes k ++ drop n text))))
unfolding number_end
end_front text at v n e =
    let h = ended_of text (field_at text at) v n e in
    let w = read_written text at v h.0 h.1 in (
      w.0,
      ⊎_elim (λ q. inl (rw q.0 q.1, w.2 ∙ ap (λ (m : ℕ). decimal_of v ++ drop m text) (sym q.0)))
          (λ q. inr (q.0, w.2 ∙ ap (λ (l : List ℕ). decimal_of v ++ l) q.1))
          (break_front text h.0 n h.2),
    )

-- a second number that made a line of two is in it
second_of : (a : ℕ) (f : Option Number) (v w n : ℕ) → from_second a f ≡ read_pair v w n → (a ≡ v) × (f ≡ read_number w n)
unfolding from_second
second_of a (Some f) v w n e = let all = same_pair e in (all.0, ap₂ read_number all.1 all.2)
second_of a None v w n e = absurd (no_pair e)

-- two numbers were read, the first with its comma, the second with the line's end
two_of : (text : List ℕ) (f : Option Number) (v w n : ℕ) → from_first text f ≡ read_pair v w n → (m : ℕ) × (f ≡ read_number v m) × (number_end text m ≡ read_number w n)
unfolding from_first
two_of text (Some f) v w n e = let h = second_of f.value (number_end text f.next) v w n e in (f.next, ap (λ (x : ℕ). read_number x f.next) h.0, h.1)
two_of text None v w n e = absurd (no_pair e)

-- a line of two numbers that is not the last is spelled so
pub two_front : (text : List ℕ) (at a b n : ℕ) → pair_at text at ≡ read_pair a b n → n < length text → (a < 2 ^ 64) × (b < 2 ^ 64) × ((k : LineBreak) × (drop at text ≡ two_numbers a b k (drop n text)))
unfolding pair_at two_numbers
two_front text at a b n e inside =
    let h = two_of text (number_comma text at) a b n e in
    let one = comma_front text at a h.0 h.1 in
    let two = end_front text h.0 b n h.2 in (
      one.0,
      two.0,
      ⊎_elim (λ q. absurd (not-suc-le-zero {n = 0} (omega (arith, q.0)))) (λ q. (q.0, one.1 ∙ ap (λ (l : List ℕ). decimal_of a ++ (44 ∷ l)) q.1)) two.1,
    )

-- a third number that made a line of three is in it
cycles_of_lem : (a b : ℕ) (f : Option Number) (v w x n : ℕ) → from_cycles a b f ≡ read_end (ticks v) w (cycles x) n → (a ≡ v) × (b ≡ w) × (f ≡ read_number x n)
unfolding from_cycles
cycles_of_lem a b (Some f) v w x n e = let all = same_end e in (all.0, all.1, ap₂ read_number all.2 all.3)
cycles_of_lem a b None v w x n e = absurd (no_end e)

-- so are a second with its comma and a third
task_of_lem : (text : List ℕ) (a : ℕ) (f : Option Number) (v w x n : ℕ) → from_task text a f ≡ read_end (ticks v) w (cycles x) n → (a ≡ v) × ((m : ℕ) × (f ≡ read_number w m) × (number_end text m ≡ read_number x n))
unfolding from_task
task_of_lem text a (Some f) v w x n e = let h = cycles_of_lem a f.value (number_end text f.next) v w x n e in (h.0, (f.next, ap (λ (y : ℕ). read_number y f.next) h.1, h.2))
task_of_lem text a None v w x n e = absurd (no_end e)

-- three numbers were read, two with their commas, the third with the line's end
three_of : (text : List ℕ) (f : Option Number) (v w x n : ℕ) → from_tick text f ≡ read_end (ticks v) w (cycles x) n
    → (m : ℕ) × (f ≡ read_number v m) × ((l : ℕ) × (number_comma text m ≡ read_number w l) × (number_end text l ≡ read_number x n))
unfolding from_tick
three_of text (Some f) v w x n e = let h = task_of_lem text f.value (number_comma text f.next) v w x n e in (f.next, ap (λ (y : ℕ). read_number y f.next) h.0, h.1)
three_of text None v w x n e = absurd (no_end e)

-- a line of three numbers that is not the last is spelled so
pub three_front : (text : List ℕ) (at a b c n : ℕ) → end_at text at ≡ read_end (ticks a) b (cycles c) n → n < length text
    → (a < 2 ^ 64) × (b < 2 ^ 64) × (c < 2 ^ 64) × ((k : LineBreak) × (drop at text ≡ three_numbers a b c k (drop n text)))
unfolding end_at three_numbers
three_front text at a b c n e inside =
    let h = three_of text (number_comma text at) a b c n e in
    let g = h.2 in
    let one = comma_front text at a h.0 h.1 in
    let two = comma_front text h.0 b g.0 g.1 in
    let three = end_front text g.0 c n g.2 in (
      one.0,
      two.0,
      three.0,
      ⊎_elim (λ q. absurd (not-suc-le-zero {n = 0} (omega (arith, q.0))))
          (λ q. (q.0, one.1 ∙ ap (λ (l : List ℕ). decimal_of a ++ (44 ∷ l)) (two.1 ∙ ap (λ (l : List ℕ). decimal_of b ++ (44 ∷ l)) q.1)))
          three.1,
    )

-- a number that made a run line is in it
run_of : (f : Option Number) (v n : ℕ) → from_run f ≡ read_run (ticks v) n → f ≡ read_number v n
unfolding from_run
run_of (Some f) v n e = let both = same_run e in ap₂ read_number both.0 both.1
run_of None v n e = absurd (no_run e)

-- a run line that ends the text is spelled so
pub run_front : (text : List ℕ) (at run : ℕ) → run_at text at ≡ read_run (ticks run) (length text) → (run < 2 ^ 64) × ((k : LastBreak) × (drop at text ≡ run_line run k))
unfolding run_at run_line run_word last_bytes
run_front text at run e = go (stands_at text at run_word) refl
  where
    nothing : drop (length text) text ≡ []
    nothing = drop_of_length-le text {i = length text} (le_refl _)

    go : (t : Bool) → stands_at text at run_word ≡ t → (run < 2 ^ 64) × ((k : LastBreak) × (drop at text ≡ run_line run k))
    go true q =
        let word = word_front text at run_word q in
        let last = end_front text (at + 4) run (length text) (run_of (number_end text (at + 4)) run (length text) (rw q at e)) in (
          last.0,
          ⊎_elim (λ h. (lacking, word ∙ ap (λ (l : List ℕ). run_word ++ l) (h.1 ∙ ap (λ (l : List ℕ). decimal_of run ++ l) nothing)))
              (λ h. (ended h.0, word ∙ ap (λ (l : List ℕ). run_word ++ l) (h.1 ∙ ap (λ (l : List ℕ). decimal_of run ++ (break_bytes h.0 ++ l)) nothing ∙ ap (λ (l : List ℕ). decimal_of run ++ l) (append-nil (break_bytes h.0)))))
              last.1,
        )
    go false q = absurd (no_run (rw q at e))
