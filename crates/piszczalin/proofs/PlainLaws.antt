-- A state to plain and back: a plain state whose marks are good is the plain state of its state, and a refused tick gives it back byte for byte.
use mathlib.Core.Path.{◌≡◌, refl, sym, ap, ◌∙◌}
use mathlib.Core.Bool.{Bool, true, false, cond}
use mathlib.Core.List.{List, [], ◌∷◌, map}
use Prim.Native.Nat.{ℕ, zero, suc}
use native.Mathlib.Omega.{arith}
use lib.Dec.{eqb}
use borrow.Author.Tests.{leb-true}
use Rattle.units.specs.Units.{ticks, speed}
use Rattle.rules.specs.Words.{every}
use Rattle.rules.proofs.Lists.{every_first, every_rest}
use Rattle.rules.specs.declared.State.{State}
use Rattle.rules.specs.Calls.{now_of, tick_of, grants_of, energy_of}
use Rattle.piszczalin.specs.declared.PlainState.{PlainState}
use Rattle.piszczalin.specs.Plain.{is_mark, over_of, mark_of, marks_good, state_of, plain_state_of, plain_of, plain_used}
use Rattle.piszczalin.specs.Calls.{plain_ticked, plain_now, plain_tick, plain_grants, plain_energy}

-- a mark turned and turned back, a bool too
mark_back : (mark : ℕ) → is_mark mark ≡ true → mark_of (over_of mark) ≡ mark
unfolding is_mark mark_of over_of
mark_back zero e = refl
mark_back (suc zero) e = refl
mark_back (suc (suc n)) e = omega (arith, leb-true (suc (suc n)) 1 e)

over_back : (over : Bool) → over_of (mark_of over) ≡ over
unfolding mark_of over_of
over_back true = refl
over_back false = refl

mark_good : (over : Bool) → is_mark (mark_of over) ≡ true
unfolding is_mark mark_of
mark_good true = refl
mark_good false = refl

marks_back : (marks : List ℕ) → every is_mark marks ≡ true → map mark_of (map over_of marks) ≡ marks
marks_back [] e = refl
marks_back (mark ∷ marks) e =
    rw (mark_back mark (every_first is_mark mark marks e), marks_back marks (every_rest is_mark mark marks e))

overs_back : (overs : List Bool) → map over_of (map mark_of overs) ≡ overs
overs_back [] = refl
overs_back (over ∷ overs) = rw (over_back over, overs_back overs)

overs_good : (overs : List Bool) → every is_mark (map mark_of overs) ≡ true
unfolding every
overs_good [] = refl
overs_good (over ∷ overs) = rw (mark_good over, overs_good overs)

-- the whole state
pub plain_back : (s : PlainState) → marks_good s ≡ true → plain_state_of (state_of s) ≡ s
unfolding marks_good state_of plain_state_of
plain_back s e = rw (marks_back s.jobs.over e)

pub state_back : (s : State) → state_of (plain_state_of s) ≡ s
unfolding state_of plain_state_of
state_back s = rw (overs_back s.jobs.over)

pub plain_good : (s : State) → marks_good (plain_state_of s) ≡ true
unfolding marks_good plain_state_of
plain_good s = overs_good s.jobs.over

-- marks that are not good: each call's refusal, and the grants list as it was
module _ (s : PlainState) (e : marks_good s ≡ false) where
  pub now_bad : record { number = 9; task = 0; deadline = ticks 0; speed = speed 0 } ≡ plain_now s
  unfolding plain_now
  now_bad = rw e

  pub energy_bad : record { number = 9; energy = 0 } ≡ plain_energy s
  unfolding plain_energy
  energy_bad = rw e

  pub tick_bad : (report : List ℕ) (places : ℕ) → record { number = 9; state = s } ≡ plain_tick s report places
  unfolding plain_tick
  tick_bad report places = rw e

  pub grants_bad : (report grants : List ℕ) → grants ≡ plain_grants s report grants
  unfolding plain_grants
  grants_bad report grants = rw e

-- marks that are good: each call's answer is that of the state
module _ (s : PlainState) (e : marks_good s ≡ true) where
  pub now_good : plain_of (now_of (state_of s)) ≡ plain_now s
  unfolding plain_now
  now_good = rw e

  pub energy_good : plain_used (energy_of (state_of s)) ≡ plain_energy s
  unfolding plain_energy
  energy_good = rw e

  pub grants_good : (report grants : List ℕ) → grants_of (state_of s) report grants ≡ plain_grants s report grants
  unfolding plain_grants
  grants_good report grants = rw e

  -- a refused tick gives the state back as it was given
  given_back : (report : List ℕ) (places : ℕ) (b : Bool) → eqb (tick_of (state_of s) report places).number 0 ≡ b → plain_state_of (tick_of (state_of s) report places).state ≡ cond b (plain_state_of (tick_of (state_of s) report places).state) s
  unfolding tick_of
  given_back report places true z = refl
  given_back report places false z = rw z (plain_back s e)

  pub tick_good : (report : List ℕ) (places : ℕ) → plain_ticked (tick_of (state_of s) report places) ≡ plain_tick s report places
  unfolding plain_ticked plain_tick
  tick_good report places = rw (e, ← given_back report places (eqb (tick_of (state_of s) report places).number 0) refl)

-- of the plain state of a state each call answers what the governor's own answers of the state
module _ (s : State) where
  pub now_plain : plain_of (now_of s) ≡ plain_now (plain_state_of s)
  now_plain = ap (λ (x : State). plain_of (now_of x)) (sym (state_back s)) ∙ now_good (plain_state_of s) (plain_good s)

  pub energy_plain : plain_used (energy_of s) ≡ plain_energy (plain_state_of s)
  energy_plain = ap (λ (x : State). plain_used (energy_of x)) (sym (state_back s)) ∙ energy_good (plain_state_of s) (plain_good s)

  pub tick_plain : (report : List ℕ) (places : ℕ) → plain_ticked (tick_of s report places) ≡ plain_tick (plain_state_of s) report places
  tick_plain report places =
      ap (λ (x : State). plain_ticked (tick_of x report places)) (sym (state_back s))
      ∙ tick_good (plain_state_of s) (plain_good s) report places

  pub grants_plain : (report grants : List ℕ) → grants_of s report grants ≡ plain_grants (plain_state_of s) report grants
  grants_plain report grants =
      ap (λ (x : State). grants_of x report grants) (sym (state_back s))
      ∙ grants_good (plain_state_of s) (plain_good s) report grants
