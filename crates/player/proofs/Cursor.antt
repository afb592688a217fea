-- The cursor over the end lines: all lines before it are of ticks done, all from it on of ticks to come, since they rise; so the lines that a tick enters are all that name it. By the lines one after the other.
use mathlib.Core.Path.{◌≡◌, refl, sym, ap, ◌∙◌}
use mathlib.Core.Bool.{Bool, true, false, cond}
use mathlib.Core.List.{List, [], ◌∷◌}
use mathlib.Core.Logic.{◌⊎◌, inl, inr, ⊎_elim}
use Prim.Native.Nat.{ℕ, zero, suc, ◌+◌, ◌-◌, ◌≤◌, ◌<◌}
use native.Mathlib.Nat.{add-zero}
use native.Mathlib.Decide.{dec_lt}
use native.Mathlib.Omega.{arith}
use borrow.Author.Tests.{eqb-true, eqb-false}
use lib.Dec.{eqb}
use lib.ListN.{length, get_or, drop, length-drop}
use lib.Seq.{get_or-drop}
use Rattle.player.specs.Parts.{in_front, past_tick}

-- pairs of numbers that rise, first by the one and then by the other
abbrev pub below : (ℕ → ℕ) → (ℕ → ℕ) → ℕ → ℕ → Type 0
below w u a b = (w a < w b) ⊎ ((w a ≡ w b) × (u a < u b))

-- what is below what is below is below
below_chain : (w u : ℕ → ℕ) (a b c : ℕ) → below w u a b → below w u b c → below w u a c
below_chain w u a b c (inl p) (inl q) = inl (omega arith)
below_chain w u a b c (inl p) (inr q) = inl (omega (arith, q.0))
below_chain w u a b c (inr p) (inl q) = inl (omega (arith, p.0))
below_chain w u a b c (inr p) (inr q) = inr (p.0 ∙ q.0, omega (arith, p.1, q.1))

-- so lines that rise one by one rise over any distance
far_below : (w u : ℕ → ℕ) (m : ℕ) → ((k : ℕ) → k + 1 < m → below w u k (k + 1)) → (d k : ℕ) → k + d + 1 < m → below w u k (k + d + 1)
far_below w u m rise zero k h = rw (add-zero k) (rise k (omega arith))
far_below w u m rise (suc d) k h =
    let step : k + suc d ≡ k + d + 1 = omega arith in
    rw step
    (below_chain w u k (k + d + 1) (k + d + 1 + 1) (far_below w u m rise d k (omega arith)) (rise (k + d + 1) (omega arith)))

module _ (w u : ℕ → ℕ) (m : ℕ) (rise : (k : ℕ) → k + 1 < m → below w u k (k + 1)) where
  -- from one line to a later one
  pub later_below : (a b : ℕ) → a < b → b < m → below w u a b
  later_below a b h l =
      let gap : a + (b - a - 1) + 1 ≡ b = omega arith in
      rw gap at (far_below w u m rise (b - a - 1) a (omega arith))

  -- its tick is no earlier
  pub ticks_rise : (a b : ℕ) → a ≤ b → b < m → w a ≤ w b
  ticks_rise a b h l = go (dec_lt a b)
    where
      go : Dec (a < b) → w a ≤ w b
      go (yes k) = ⊎_elim (λ p. omega arith) (λ p. omega (arith, p.0)) (later_below a b k l)
      go (no k) =
          let same : a ≡ b = omega arith in
          omega (arith, ap w same)

  -- and where its tick is the same its task is another
  pub tasks_differ : (a b : ℕ) → a < b → b < m → w a ≡ w b → u a ≡ u b → ⊥
  tasks_differ a b h l e f = ⊎_elim (λ p. omega arith) (λ p. omega (arith, p.1)) (later_below a b h l)

-- the numbers in front of a list that are t: each of them is, there are no more than places, and the next is not
front_is : (t : ℕ) (l : List ℕ) (i : ℕ) → i < in_front t l → get_or l i 0 ≡ t
unfolding in_front
front_is t [] i h = absurd (omega arith)
front_is t (x ∷ l) i h = go (eqb x t) refl h (front_is t l)
  where
    go : (b : Bool) → eqb x t ≡ b → i < cond b (suc (in_front t l)) 0 → ((k : ℕ) → k < in_front t l → get_or l k 0 ≡ t) → get_or (x ∷ l) i 0 ≡ t
    go true e h rest = at i h
      where
        at : (k : ℕ) → k < suc (in_front t l) → get_or (x ∷ l) k 0 ≡ t
        at zero h = eqb-true x t e
        at (suc k) h = rest k (omega arith)
    go false e h rest = absurd (omega arith)

front_few : (t : ℕ) (l : List ℕ) → in_front t l ≤ length l
unfolding in_front
front_few t [] = omega arith
front_few t (x ∷ l) = go (eqb x t) (front_few t l)
  where
    go : (b : Bool) → in_front t l ≤ length l → cond b (suc (in_front t l)) 0 ≤ suc (length l)
    go true h = omega arith
    go false h = omega arith

front_ends : (t : ℕ) (l : List ℕ) → in_front t l < length l → get_or l (in_front t l) 0 ≡ t → ⊥
unfolding in_front
front_ends t [] h e = omega arith
front_ends t (x ∷ l) h e = go (eqb x t) refl h e (front_ends t l)
  where
    go : (b : Bool) → eqb x t ≡ b → cond b (suc (in_front t l)) 0 < suc (length l) → get_or (x ∷ l) (cond b (suc (in_front t l)) 0) 0 ≡ t → (in_front t l < length l → get_or l (in_front t l) 0 ≡ t → ⊥) → ⊥
    go true q h e rest = rest (omega arith) e
    go false q h e rest = eqb-false x t q e

-- a cursor over m lines with the ticks w, at tick t: the lines before it are of earlier ticks, those from it on are not
pub record Stands (w : ℕ → ℕ) (m t next : ℕ) : Type 0 where
  pub within : next ≤ m
  pub past : (k : ℕ) → k < next → w k < t
  pub ahead : (k : ℕ) → next ≤ k → k < m → t ≤ w k

-- it stands at the first line at tick 0
pub stands_first : (w : ℕ → ℕ) (m : ℕ) → Stands w m 0 0
stands_first w m = record { within = omega arith; past = λ k h. absurd (omega arith); ahead = λ k h l. omega arith }

-- the cursor past the lines of a tick stands for the next tick
module _ (when : List ℕ) (u : ℕ → ℕ) (rise : (k : ℕ) → k + 1 < length when → below (λ i. get_or when i 0) u k (k + 1)) (t next : ℕ) (c : Stands (λ i. get_or when i 0) (length when) t next) where
  abbrev pub lines : ℕ
  lines = in_front t (drop next when)

  -- its lines, the first of them `next`
  pub line_of : (k : ℕ) → next ≤ k → k < next + lines → get_or when k 0 ≡ t
  line_of k h l =
      let there : next + (k - next) ≡ k = omega arith in
      let e : get_or (drop next when) (k - next) 0 ≡ t = front_is t (drop next when) (k - next) (omega arith) in
      ap (λ i. get_or when i 0) (sym there) ∙ sym (get_or-drop next when (k - next) 0) ∙ e

  pub lines_within : next + lines ≤ length when
  lines_within = omega (arith, front_few t (drop next when), length-drop next when, c.within)

  -- the line behind them is of a later tick, and so are all from there on
  line_later : next + lines < length when → t < get_or when (next + lines) 0
  line_later h =
      let other : get_or when (next + lines) 0 ≡ t → ⊥ = λ e. front_ends t (drop next when) (omega (arith, length-drop next when)) (get_or-drop next when lines 0 ∙ e) in
      omega (arith, c.ahead (next + lines) (omega arith) h)

  pub none_left : (k : ℕ) → next + lines ≤ k → k < length when → t < get_or when k 0
  none_left k h l = omega (arith, line_later (omega arith), ticks_rise (λ i. get_or when i 0) u (length when) rise (next + lines) k h l)

  pub stands_next : Stands (λ i. get_or when i 0) (length when) (t + 1) (past_tick when t next)
  unfolding past_tick
  stands_next = record { within = lines_within; past = λ k h. go k h (dec_lt k next); ahead = λ k h l. omega (arith, none_left k h l) }
    where
      go : (k : ℕ) → k < next + lines → Dec (k < next) → get_or when k 0 < t + 1
      go k h (yes b) = omega (arith, c.past k b)
      go k h (no b) = omega (arith, line_of k (omega arith) h)
