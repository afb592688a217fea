-- What a call answers as a `Result`, in document 01's numbers: a refusal's number is not 0, no two refusals have one, and so no two answers say the same. By cases.
use Rattle.std.proofs.Common.{◌≡◌, ℕ, List, true, false, length, refl, sym, ap, ◌∙◌, Result, Ok, Err}
use Rattle.std.specs.Prelude.{eqb, cond}
use Rattle.units.specs.Units.{speed}
use Rattle.refusals.specs.declared.Refusal.{Refusal}
use Rattle.refusals.specs.Refusals.{number_of}
use Rattle.refusals.specs.declared.Refusal.TheVariants.{Tasks, Speeds, Period, Reserve, Speed, Volts, GreatPeriod, NotAdmitted, Unsound, RunDone, Length, NoSpeed, Entry, NoRunFile}
use Rattle.rules.specs.declared.State.{State}
use Rattle.rules.specs.declared.Advice.{Advice}
use Rattle.rules.specs.Choice.{choice_of, speed_place, speed_of}
use Rattle.rules.specs.Settlement.{settled}
use Rattle.rules.specs.Counting.{next_of, energy_sum}
use Rattle.rules.specs.Admission.{great_of}
use Rattle.rules.specs.Numbers.{start_number, sound, now_number, tick_number}
use Rattle.rules.specs.Answers.{Started, Told, Ticked, Used}
use Rattle.rules.specs.Calls.{tasks_from, ladder_from, fresh_state, start_of, now_of, tick_of, grants_of, energy_of, started_by, told_by, ticked_by, used_by}
use Rattle.rules.proofs.CallRows.{start_refused, start_accepted, now_refused, now_accepted, tick_refused, tick_accepted, grants_kept, energy_refused, energy_accepted}

-- 0 is no refusal's number
pub number-not_0 : (r : Refusal) → number_of r ≡ 0 → ⊥
number-not_0 Tasks e = cc
number-not_0 Speeds e = cc
number-not_0 Period e = cc
number-not_0 Reserve e = cc
number-not_0 Speed e = cc
number-not_0 Volts e = cc
number-not_0 GreatPeriod e = cc
number-not_0 NotAdmitted e = cc
number-not_0 Unsound e = cc
number-not_0 RunDone e = cc
number-not_0 Length e = cc
number-not_0 NoSpeed e = cc
number-not_0 Entry e = cc
number-not_0 NoRunFile e = cc

-- the refusal that a number names: no other has it
refusal_at : ℕ → Refusal
refusal_at n =
    cond (eqb n 1) Tasks (cond (eqb n 2) Speeds (cond (eqb n 3) Period (cond (eqb n 4) Reserve (cond (eqb n 5) Speed (cond (eqb n 6) Volts (cond (eqb n 7) GreatPeriod
    (cond (eqb n 8) NotAdmitted (cond (eqb n 9) Unsound (cond (eqb n 10) RunDone (cond (eqb n 11) Length (cond (eqb n 12) NoSpeed (cond (eqb n 13) Entry NoRunFile))))))))))))

named : (r : Refusal) → refusal_at (number_of r) ≡ r
unfolding refusal_at
named Tasks = refl
named Speeds = refl
named Period = refl
named Reserve = refl
named Speed = refl
named Volts = refl
named GreatPeriod = refl
named NotAdmitted = refl
named Unsound = refl
named RunDone = refl
named Length = refl
named NoSpeed = refl
named Entry = refl
named NoRunFile = refl

pub number-one : (q r : Refusal) → number_of q ≡ number_of r → q ≡ r
number-one q r e = sym (named q) ∙ (ap refusal_at e ∙ named r)

-- start: its answers by the number that applies, and that no two say the same
module _ (ps cs ss vs : List ℕ) where
  pub start-err : (r : Refusal) → start_number ps cs ss vs ≡ number_of r → started_by (Err r) ≡ start_of ps cs ss vs
  unfolding started_by
  start-err r e = start_refused ps cs ss vs (number_of r) (number-not_0 r) e

  pub start-ok : start_number ps cs ss vs ≡ 0 → started_by (Ok (fresh_state (tasks_from (great_of ps) ps cs) (ladder_from ss vs))) ≡ start_of ps cs ss vs
  unfolding started_by
  start-ok e = start_accepted ps cs ss vs e

pub started-one : (a b : Result State Refusal) → started_by a ≡ started_by b → a ≡ b
unfolding started_by
started-one (Ok s) (Ok t) e = ap Ok (ap (λ (x : Started). x.state) e)
started-one (Ok s) (Err r) e = absurd (number-not_0 r (sym (ap (λ (x : Started). x.number) e)))
started-one (Err q) (Ok t) e = absurd (number-not_0 q (ap (λ (x : Started). x.number) e))
started-one (Err q) (Err r) e = ap Err (number-one q r (ap (λ (x : Started). x.number) e))

-- now
module _ (s : State) where
  pub now-err : (r : Refusal) → now_number s ≡ number_of r → told_by (Err r) ≡ now_of s
  unfolding told_by
  now-err r e = now_refused s (number_of r) (number-not_0 r) e

  pub now-ok : now_number s ≡ 0 → told_by (Ok (record { choice = choice_of s; speed = speed (speed_of s) })) ≡ now_of s
  unfolding told_by
  now-ok e = now_accepted s e

pub told-one : (a b : Result Advice Refusal) → told_by a ≡ told_by b → a ≡ b
unfolding told_by
told-one (Ok s) (Ok t) e = ap (λ (x : Told). Ok (record { choice = x.choice; speed = x.speed })) e
told-one (Ok s) (Err r) e = absurd (number-not_0 r (sym (ap (λ (x : Told). x.number) e)))
told-one (Err q) (Ok t) e = absurd (number-not_0 q (ap (λ (x : Told). x.number) e))
told-one (Err q) (Err r) e = ap Err (number-one q r (ap (λ (x : Told). x.number) e))

-- tick
module _ (s : State) (report : List ℕ) (places : ℕ) where
  pub tick-err : (r : Refusal) → tick_number s report places ≡ number_of r → ticked_by s (Err r) ≡ tick_of s report places
  unfolding ticked_by
  tick-err r e = tick_refused s report places (number_of r) (number-not_0 r) e

  pub tick-ok : tick_number s report places ≡ 0 → ticked_by s (Ok (next_of s (speed_place s) (settled s (speed_of s) report))) ≡ tick_of s report places
  unfolding ticked_by
  tick-ok e = tick_accepted s report places e

pub tick-grants_err : (s : State) (report grants : List ℕ) (r : Refusal) → tick_number s report (length grants) ≡ number_of r → grants ≡ grants_of s report grants
tick-grants_err s report grants r e = grants_kept s report grants (number_of r) (number-not_0 r) e

pub ticked-one : (s : State) (a b : Result State Refusal) → ticked_by s a ≡ ticked_by s b → a ≡ b
unfolding ticked_by
ticked-one s (Ok x) (Ok t) e = ap Ok (ap (λ (x : Ticked). x.state) e)
ticked-one s (Ok x) (Err r) e = absurd (number-not_0 r (sym (ap (λ (x : Ticked). x.number) e)))
ticked-one s (Err q) (Ok t) e = absurd (number-not_0 q (ap (λ (x : Ticked). x.number) e))
ticked-one s (Err q) (Err r) e = ap Err (number-one q r (ap (λ (x : Ticked). x.number) e))

-- energy
pub energy-err : (s : State) → sound s ≡ false → used_by (Err Unsound) ≡ energy_of s
unfolding used_by
energy-err s e = energy_refused s e

pub energy-ok : (s : State) → sound s ≡ true → used_by (Ok (energy_sum s.ladder s.tally)) ≡ energy_of s
unfolding used_by
energy-ok s e = energy_accepted s e

pub used-one : (a b : Result ℕ Refusal) → used_by a ≡ used_by b → a ≡ b
unfolding used_by
used-one (Ok s) (Ok t) e = ap Ok (ap (λ (x : Used). x.energy) e)
used-one (Ok s) (Err r) e = absurd (number-not_0 r (sym (ap (λ (x : Used). x.number) e)))
used-one (Err q) (Ok t) e = absurd (number-not_0 q (ap (λ (x : Used). x.number) e))
used-one (Err q) (Err r) e = ap Err (number-one q r (ap (λ (x : Used). x.number) e))
