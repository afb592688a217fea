-- Whether an end line is good after the one before it, in each case that the reader comes to: by the tests' values.
use mathlib.Core.Path.{◌≡◌, sym}
use mathlib.Core.Bool.{true, false, ◌&&◌, ◌||◌, and-false, or-true}
use mathlib.Core.Logic.{inl, inr, ⊎_elim}
use Prim.Native.Nat.{ℕ, ◌≤◌, ◌<◌}
use native.Mathlib.Nat.{not-suc-le-zero}
use native.Mathlib.Omega.{arith}
use borrow.Author.Tests.{ltb-true, leb-true, eqb-true, lt-ltb, le-ltb, eq-eqb, ne_eqb, le-leb, lt-leb}
use lib.Dec.{eqb, ltb, leb}
use Rattle.runfile.specs.Groups.{end_good}
use Rattle.runfile.specs.Good.{Rises}
use Rattle.runfile.proofs.Splits.{both, one_of}

module _ (known earlier former tick task cycles : ℕ) where
  -- an earlier tick is not good
  pub tick_falls : tick < earlier → false ≡ end_good known earlier former tick task cycles
  unfolding end_good
  tick_falls h =
      let other : earlier ≡ tick → ⊥ = λ e. not-suc-le-zero {n = 0} (omega arith) in
      simp (le-ltb earlier tick (omega arith), ne_eqb earlier tick other)

  -- at the same tick a task that does not rise is not good
  pub task_stays : tick ≡ earlier → task ≤ former → false ≡ end_good known earlier former tick task cycles
  unfolding end_good
  task_stays e h = simp (le-ltb earlier tick (omega arith), le-ltb former task h, and-false)

  -- no task has number 0
  pub no_task : task < 1 → false ≡ end_good known earlier former tick task cycles
  unfolding end_good
  no_task h = simp (lt-leb 1 task h, and-false)

  -- nor one above the last
  pub unknown_task : known < task → false ≡ end_good known earlier former tick task cycles
  unfolding end_good
  unknown_task h = simp (lt-leb task known h, and-false)

  -- a later tick and a task that exists: at least 1 cycle decides
  pub tick_rises : earlier ≤ tick → (tick ≡ earlier → ⊥) → 1 ≤ task → task ≤ known → leb 1 cycles ≡ end_good known earlier former tick task cycles
  unfolding end_good
  tick_rises h other one low = simp (lt-ltb earlier tick (omega arith), le-leb 1 task one, le-leb task known low)

  -- so it does at the same tick, where the task rises
  pub task_rises : tick ≡ earlier → former < task → 1 ≤ task → task ≤ known → leb 1 cycles ≡ end_good known earlier former tick task cycles
  unfolding end_good
  task_rises e h one low = simp (eq-eqb earlier tick (sym e), lt-ltb former task h, or-true, le-leb 1 task one, le-leb task known low)

-- a good end line rises, names a task that exists and at least 1 cycle
pub good_line : (known earlier former tick task cycles : ℕ) → end_good known earlier former tick task cycles ≡ true
    → Rises earlier former tick task × ((1 ≤ task) × (task ≤ known)) × (1 ≤ cycles)
unfolding end_good
good_line known earlier former tick task cycles e =
    let all = both _ (leb 1 cycles) e in
    let line = both (ltb earlier tick || (eqb earlier tick && ltb former task)) (leb 1 task && leb task known) all.0 in
    let named = both (leb 1 task) (leb task known) line.1 in (
      ⊎_elim (λ h. inl (ltb-true earlier tick h)) (λ h. let same = both (eqb earlier tick) (ltb former task) h in inr (eqb-true earlier tick same.0, ltb-true former task same.1)) (one_of (ltb earlier tick) (eqb earlier tick && ltb former task) line.0),
      (leb-true 1 task named.0, leb-true task known named.1),
      leb-true 1 cycles all.1,
    )
