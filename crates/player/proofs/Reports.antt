-- The lines that a cursor enters are the report of the tick: each entry is that of the one line that names the tick and the task. By the lines one after the other.
use mathlib.Core.Path.{◌≡◌, refl, sym, ap, ◌∙◌}
use mathlib.Core.Bool.{Bool, true, false, cond, ◌&&◌}
use mathlib.Core.List.{List, [], ◌∷◌}
use Prim.Native.Nat.{ℕ, zero, suc, ◌+◌, ◌-◌, ◌≤◌, ◌<◌}
use native.Mathlib.Numerals.{add-one}
use native.Mathlib.Decide.{ℕ_discrete, dec_lt}
use native.Mathlib.Omega.{arith}
use borrow.Author.Tests.{eqb-true, eq-eqb}
use lib.Dec.{eqb}
use lib.ListN.{length, get_or, set, drop, length-set}
use lib.Seq.{get_or-set_same, get_or-set_other, ext_get_or}
use Rattle.rules.specs.Words.{up_to}
use Rattle.rules.proofs.Lists.{length-up_to, get_d_up_to, up_to_rest, up_to_end}
use Rattle.player.specs.Plays.{End, entry_of, report_of}
use Rattle.player.specs.Parts.{in_front, entered_for, entered}
use Rattle.player.proofs.Cursor.{below, Stands, tasks_differ, line_of, lines_within, none_left}

-- the entry of a task, or another number where no line names it
unfoldable entry_or : List End → ℕ → ℕ → ℕ → ℕ
entry_or [] tick task other = other
entry_or (e ∷ es) tick task other = cond (eqb e.tick tick && eqb e.task task) e.cycles (entry_or es tick task other)

-- document 01's entry is 0 there
or-zero : (es : List End) (tick task : ℕ) → entry_or es tick task 0 ≡ entry_of es tick task
unfolding entry_or entry_of
or-zero [] tick task = refl
or-zero (e ∷ es) tick task = rw (or-zero es tick task)

-- a line that names another tick or another task
names_other : (a b x y : ℕ) → (a ≡ x → b ≡ y → ⊥) → (eqb a x && eqb b y) ≡ false
names_other a b x y n = go (eqb a x) (eqb b y) refl refl
  where
    go : (p q : Bool) → eqb a x ≡ p → eqb b y ≡ q → (p && q) ≡ false
    go true true e f = absurd (n (eqb-true a x e) (eqb-true b y f))
    go true false e f = refl
    go false q e f = refl

-- the lines of three lists
abbrev pub line_at : List ℕ → List ℕ → List ℕ → ℕ → End
line_at when who cycles k = record { tick = get_or when k 0; task = get_or who k 0; cycles = get_or cycles k 0 }

module _ (when who cycles : List ℕ) (t task : ℕ) where
  abbrev all : List End
  all = up_to (length when) (line_at when who cycles)

  -- the lines from k on, one of them apart
  entry_here : (k other : ℕ) → k < length when → get_or when k 0 ≡ t → get_or who k 0 ≡ task → entry_or (drop k all) t task other ≡ get_or cycles k 0
  unfolding entry_or
  entry_here k other h e f = rw (up_to_rest (length when) (line_at when who cycles) k h, eq-eqb (get_or when k 0) t e, eq-eqb (get_or who k 0) task f)

  entry_next : (k other : ℕ) → k < length when → (get_or when k 0 ≡ t → get_or who k 0 ≡ task → ⊥) → entry_or (drop k all) t task other ≡ entry_or (drop (k + 1) all) t task other
  unfolding entry_or
  entry_next k other h n = rw (up_to_rest (length when) (line_at when who cycles) k h, names_other (get_or when k 0) (get_or who k 0) t task n)

  entry_end : (k other : ℕ) → length when ≤ k → entry_or (drop k all) t task other ≡ other
  unfolding entry_or
  entry_end k other h = rw (up_to_end (length when) (line_at when who cycles) k h)

  -- where no line from k on names both, the other number
  entry_none : (g k other : ℕ) → length when ≤ k + g → ((i : ℕ) → k ≤ i → i < length when → get_or when i 0 ≡ t → get_or who i 0 ≡ task → ⊥) → entry_or (drop k all) t task other ≡ other
  entry_none zero k other h n = entry_end k other (omega arith)
  entry_none (suc g) k other h n = go (dec_lt k (length when)) (entry_none g (k + 1) other (omega arith) (λ i a l. n i (omega arith) l))
    where
      go : Dec (k < length when) → entry_or (drop (k + 1) all) t task other ≡ other → entry_or (drop k all) t task other ≡ other
      go (yes l) rest = entry_next k other l (n k (omega arith) l) ∙ rest
      go (no l) rest = entry_end k other (omega arith)

  -- lines before k that name other ticks do not count
  entry_skips : (k : ℕ) → k ≤ length when → ((i : ℕ) → i < k → get_or when i 0 ≡ t → ⊥) → entry_or all t task 0 ≡ entry_or (drop k all) t task 0
  entry_skips zero l n = refl
  entry_skips (suc k) l n =
      entry_skips k (omega arith) (λ i h. n i (omega arith))
      ∙ entry_next k 0 (omega arith) (λ e f. n k (omega arith) e)
      ∙ ap (λ j. entry_or (drop j all) t task 0) (add-one k)

-- no line changes the length of a report
pub entered_long : (who cycles : List ℕ) (j k : ℕ) (report : List ℕ) → length (entered_for j who cycles k report) ≡ length report
unfolding entered_for
entered_long who cycles zero k report = refl
entered_long who cycles (suc j) k report =
    entered_long who cycles j (suc k) (set report (get_or who k 0 - 1) (get_or cycles k 0))
    ∙ length-set report (get_or who k 0 - 1) (get_or cycles k 0)

-- lines that rise and name tasks from 1 on
module _ (when who cycles : List ℕ) (t : ℕ) (rise : (k : ℕ) → k + 1 < length when → below (λ i. get_or when i 0) (λ i. get_or who i 0) k (k + 1)) (some : (k : ℕ) → k < length when → 1 ≤ get_or who k 0) where
  -- j lines of the tick from k on, with none behind them, enter for each task what they say of it, and leave the others as they are
  entered_at : (i j k : ℕ) (report : List ℕ) → i < length report → k + j ≤ length when → ((x : ℕ) → k ≤ x → x < k + j → get_or when x 0 ≡ t) → ((x : ℕ) → k + j ≤ x → x < length when → t < get_or when x 0) → get_or (entered_for j who cycles k report) i 0 ≡ entry_or (drop k (all when who cycles t (suc i))) t (suc i) (get_or report i 0)
  unfolding entered_for
  entered_at i zero k report h l these none = sym (entry_none when who cycles t (suc i) (length when) k (get_or report i 0) (omega arith) (λ x a b e f. absurd (omega (arith, none x (omega arith) b))))
  entered_at i (suc j) k report h l these none =
      entered_at i j (suc k) stored (rw (length-set report (get_or who k 0 - 1) (get_or cycles k 0)) h) (omega arith) (λ x a b. these x (omega arith) (omega arith)) (λ x a b. none x (omega arith) b)
      ∙ ap (λ y. entry_or (drop y (all when who cycles t (suc i))) t (suc i) (get_or stored i 0)) (sym (add-one k))
      ∙ go (ℕ_discrete (get_or who k 0) (suc i))
    where
      stored : List ℕ
      stored = set report (get_or who k 0 - 1) (get_or cycles k 0)

      here : get_or when k 0 ≡ t
      here = these k (omega arith) (omega arith)

      go : Dec (get_or who k 0 ≡ suc i) → entry_or (drop (k + 1) (all when who cycles t (suc i))) t (suc i) (get_or stored i 0) ≡ entry_or (drop k (all when who cycles t (suc i))) t (suc i) (get_or report i 0)
      go (yes e) =
          let place : get_or who k 0 - 1 ≡ i = omega (arith, e) in
          let put : get_or stored i 0 ≡ get_or cycles k 0 = ap (λ y. get_or (set report y (get_or cycles k 0)) i 0) place ∙ get_or-set_same report i (get_or cycles k 0) 0 h in
          entry_none when who cycles t (suc i) (length when) (k + 1) (get_or stored i 0) (omega arith)
          (λ x a b f g. tasks_differ (λ y. get_or when y 0) (λ y. get_or who y 0) (length when) rise k x (omega arith) b (here ∙ sym f) (e ∙ sym g))
          ∙ put
          ∙ sym (entry_here when who cycles t (suc i) k (get_or report i 0) (omega arith) here e)
      go (no ne) =
          let apart : i ≡ get_or who k 0 - 1 → ⊥ = λ e. ne (omega (arith, e, some k (omega arith))) in
          ap (entry_or (drop (k + 1) (all when who cycles t (suc i))) t (suc i)) (get_or-set_other report (get_or who k 0 - 1) i (get_or cycles k 0) 0 apart)
          ∙ sym (entry_next when who cycles t (suc i) k (get_or report i 0) (omega arith) (λ e f. ne f))

  -- the lines that a cursor enters into a report of zeros are the report of the tick
  pub entered_is : (next n : ℕ) (report : List ℕ) → Stands (λ i. get_or when i 0) (length when) t next → length report ≡ n → ((i : ℕ) → i < n → get_or report i 0 ≡ 0) → entered when who cycles t next report ≡ report_of (up_to (length when) (line_at when who cycles)) n t
  unfolding entered report_of
  entered_is next n report c l zeros =
      ext_get_or 0 (entered_for j who cycles next report) (up_to n entries) (long ∙ sym (length-up_to n entries)) at
    where
      j : ℕ
      j = in_front t (drop next when)

      entries : ℕ → ℕ
      entries i = entry_of (up_to (length when) (line_at when who cycles)) t (suc i)

      long : length (entered_for j who cycles next report) ≡ n
      long = entered_long who cycles j next report ∙ l

      at : (i : ℕ) → i < length (entered_for j who cycles next report) → get_or (entered_for j who cycles next report) i 0 ≡ get_or (up_to n entries) i 0
      at i h =
          let b : i < n = omega (arith, long) in
          let u : ℕ → ℕ = λ y. get_or who y 0 in
          entered_at i j next report (omega (arith, l)) (lines_within when u rise t next c) (line_of when u rise t next c) (none_left when u rise t next c)
          ∙ ap (entry_or (drop next (all when who cycles t (suc i))) t (suc i)) (zeros i b)
          ∙ sym (entry_skips when who cycles t (suc i) next c.within (λ x y e. omega (arith, c.past x y)))
          ∙ or-zero (all when who cycles t (suc i)) t (suc i)
          ∙ sym (get_d_up_to n entries i 0 b)
