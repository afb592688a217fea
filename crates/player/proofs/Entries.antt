-- The end lines of a tick from a place on: a turn, where the line is of the tick, and the end, where it is not or there is none. By the list's rest at the place.
use mathlib.Core.Path.{◌≡◌}
use mathlib.Core.List.{List}
use Prim.Native.Nat.{ℕ, suc, ◌+◌, ◌-◌, ◌≤◌, ◌<◌}
use native.Mathlib.Nat.{add-zero}
use native.Mathlib.Omega.{arith}
use native.Mathlib.Numerals.{add-one}
use borrow.Author.Tests.{eq-eqb, ne_eqb}
use lib.ListN.{length, get_or, set, drop, drop_of_length-le}
use Rattle.rules.proofs.Lists.{rest_cons}
use Rattle.player.specs.Parts.{in_front, past_tick, entered_for, entered}

module _ (when : List ℕ) (t k : ℕ) where
  -- a line of the tick is one more in front
  front_more : k < length when → get_or when k 0 ≡ t → in_front t (drop k when) ≡ suc (in_front t (drop (k + 1) when))
  unfolding in_front
  front_more h e = rw (rest_cons when 0 k h, eq-eqb (get_or when k 0) t e)

  -- a line of another tick ends them
  pub front_other : k < length when → (get_or when k 0 ≡ t → ⊥) → in_front t (drop k when) ≡ 0
  unfolding in_front
  front_other h e = rw (rest_cons when 0 k h, ne_eqb (get_or when k 0) t e)

  -- and so does the end of the list
  pub front_none : length when ≤ k → in_front t (drop k when) ≡ 0
  unfolding in_front
  front_none h = rw (drop_of_length-le when {i = k} h)

  -- the place past the tick's lines, seen from a line of the tick, is that seen from the next place
  pub past_more : k < length when → get_or when k 0 ≡ t → past_tick when t k ≡ past_tick when t (k + 1)
  unfolding past_tick
  past_more h e = omega (arith, front_more h e)

  pub past_here : in_front t (drop k when) ≡ 0 → past_tick when t k ≡ k
  unfolding past_tick
  past_here z = rw (z, add-zero)

module _ (when who cycles : List ℕ) (t k : ℕ) (report : List ℕ) where
  -- a line of the tick enters its cycles for its task, and the lines after it go on
  pub enter_more : k < length when → get_or when k 0 ≡ t → entered when who cycles t k report ≡ entered when who cycles t (k + 1) (set report (get_or who k 0 - 1) (get_or cycles k 0))
  unfolding entered entered_for
  enter_more h e = rw (front_more when t k h e, add-one)

  -- where no line of the tick stands the report is as it is
  pub enter_none : in_front t (drop k when) ≡ 0 → entered when who cycles t k report ≡ report
  unfolding entered entered_for
  enter_none z = rw z
