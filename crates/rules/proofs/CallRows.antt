-- The answers of start by its number, and the rows of now, tick and energy: what each number answers, and what 0 says of all tests.
use mathlib.Core.Path.{◌≡◌, refl, sym, ap}
use mathlib.Core.Bool.{true, false, ◌&&◌}
use mathlib.Core.List.{List}
use Prim.Native.Nat.{ℕ, ◌≤◌, ◌<◌}
use native.Mathlib.Omega.{arith}
use lib.Dec.{eqb}
use lib.ListN.{length, get_or}
use borrow.Author.Tests.{eqb-true, eq-eqb, ne_eqb, le-leb, lt-leb, leb-false, not-false}
use Rattle.units.specs.Units.{cycles, speed}
use Rattle.rules.specs.declared.State.{State}
use Rattle.rules.specs.declared.Choice.TheVariants.{Nothing}
use Rattle.rules.specs.Answers.{Started}
use Rattle.rules.specs.Words.{up_to, first_of}
use Rattle.rules.specs.Limits.{most_ticks}
use Rattle.rules.specs.Choice.{choice_of, speed_place, speed_of, none_carries}
use Rattle.rules.specs.Settlement.{settled, keeps_rule4}
use Rattle.rules.specs.Counting.{next_of, energy_sum}
use Rattle.rules.specs.Admission.{great_of}
use Rattle.rules.specs.Numbers.{start_number, sound, all_done, now_number, tick_number, energy_number}
use Rattle.rules.specs.Calls.{tasks_from, ladder_from, fresh_state, zero_state, start_of, now_of, tick_of, grants_of, energy_of}
use Rattle.rules.proofs.Lists.{both_left, both_right}
use Rattle.rules.proofs.Tables.{first_fails, rest_fails}
use Rattle.rules.proofs.Soundness.{Sound, sound_facts}

-- No. 10 against the limit
pub all_done_lem : (s : State) → most_ticks ≤ s.done.0 → all_done s ≡ true
unfolding all_done
all_done_lem s h = le-leb most_ticks s.done.0 h

pub not_all_done : (s : State) → s.done.0 < most_ticks → all_done s ≡ false
unfolding all_done
not_all_done s h = lt-leb most_ticks s.done.0 h

-- start: its answer for each number, and the state of a refused and of an accepted one
module _ (ps cs ss vs : List ℕ) where
  pub start_refused : (n : ℕ) → (n ≡ 0 → ⊥) → start_number ps cs ss vs ≡ n → record { number = n; state = zero_state } ≡ start_of ps cs ss vs
  unfolding start_of
  start_refused n z e = rw (e, ne_eqb n 0 z)

  pub start_accepted : start_number ps cs ss vs ≡ 0 → record { number = 0; state = fresh_state (tasks_from (great_of ps) ps cs) (ladder_from ss vs) } ≡ start_of ps cs ss vs
  unfolding start_of
  start_accepted e = rw e

  pub start_none : ((start_of ps cs ss vs).number ≡ 0 → ⊥) → (start_of ps cs ss vs).state ≡ zero_state
  unfolding start_of
  start_none z = sym (ap (λ (r : Started). r.state) (start_refused (start_number ps cs ss vs) z refl))

  pub start_is : (start_of ps cs ss vs).number ≡ 0 → (start_of ps cs ss vs).state ≡ fresh_state (tasks_from (great_of ps) ps cs) (ladder_from ss vs)
  unfolding start_of
  start_is e = sym (ap (λ (r : Started). r.state) (start_accepted e))

-- now: its numbers, and its answer for each
module _ (s : State) where
  pub now_9 : sound s ≡ false → now_number s ≡ 9
  unfolding now_number first_of
  now_9 e = rw e

  pub now_10 : sound s ≡ true → all_done s ≡ true → now_number s ≡ 10
  unfolding now_number first_of
  now_10 e d = rw (e, d)

  pub now_12 : sound s ≡ true → all_done s ≡ false → none_carries s ≡ true → now_number s ≡ 12
  unfolding now_number first_of
  now_12 e d n = rw (e, d, n)

  pub now_0 : sound s ≡ true → all_done s ≡ false → none_carries s ≡ false → now_number s ≡ 0
  unfolding now_number first_of
  now_0 e d n = rw (e, d, n)

  pub now_refused : (n : ℕ) → (n ≡ 0 → ⊥) → now_number s ≡ n → record { number = n; choice = Nothing; speed = speed 0 } ≡ now_of s
  unfolding now_of
  now_refused n z e = rw (e, ne_eqb n 0 z)

  pub now_accepted : now_number s ≡ 0 → record { number = 0; choice = choice_of s; speed = speed (speed_of s) } ≡ now_of s
  unfolding now_of
  now_accepted e = rw e

-- tick: its numbers, and its answer and the grants list for each
module _ (s : State) (report : List ℕ) (places : ℕ) where
  pub tick_9 : sound s ≡ false → tick_number s report places ≡ 9
  unfolding tick_number first_of
  tick_9 e = rw e

  pub tick_10 : sound s ≡ true → all_done s ≡ true → tick_number s report places ≡ 10
  unfolding tick_number first_of
  tick_10 e d = rw (e, d)

  pub tick_11_report : sound s ≡ true → all_done s ≡ false → (length report ≡ s.tasks.count → ⊥) → tick_number s report places ≡ 11
  unfolding tick_number first_of
  tick_11_report e d l = rw (e, d, ne_eqb (length report) s.tasks.count l)

  pub tick_11_grants : sound s ≡ true → all_done s ≡ false → length report ≡ s.tasks.count → (places ≡ s.tasks.count → ⊥) → tick_number s report places ≡ 11
  unfolding tick_number first_of
  tick_11_grants e d l g = rw (e, d, eq-eqb (length report) s.tasks.count l, ne_eqb places s.tasks.count g)

  pub tick_12 : sound s ≡ true → all_done s ≡ false → length report ≡ s.tasks.count → places ≡ s.tasks.count → none_carries s ≡ true → tick_number s report places ≡ 12
  unfolding tick_number first_of
  tick_12 e d l g n = rw (e, d, eq-eqb (length report) s.tasks.count l, eq-eqb places s.tasks.count g, n)

  pub tick_13 : sound s ≡ true → all_done s ≡ false → length report ≡ s.tasks.count → places ≡ s.tasks.count → none_carries s ≡ false → keeps_rule4 s (speed_of s) report ≡ false → tick_number s report places ≡ 13
  unfolding tick_number first_of
  tick_13 e d l g n k = rw (e, d, eq-eqb (length report) s.tasks.count l, eq-eqb places s.tasks.count g, n, k)

  pub tick_0 : sound s ≡ true → all_done s ≡ false → length report ≡ s.tasks.count → places ≡ s.tasks.count → none_carries s ≡ false → keeps_rule4 s (speed_of s) report ≡ true → tick_number s report places ≡ 0
  unfolding tick_number first_of
  tick_0 e d l g n k = rw (e, d, eq-eqb (length report) s.tasks.count l, eq-eqb places s.tasks.count g, n, k)

  pub tick_refused : (n : ℕ) → (n ≡ 0 → ⊥) → tick_number s report places ≡ n → record { number = n; state = s } ≡ tick_of s report places
  unfolding tick_of
  tick_refused n z e = rw (e, ne_eqb n 0 z)

  pub tick_accepted : tick_number s report places ≡ 0 → record { number = 0; state = next_of s (speed_place s) (settled s (speed_of s) report) } ≡ tick_of s report places
  unfolding tick_of
  tick_accepted e = rw e

  -- 0 says that every test of tick passed
  pub record Accepted : Type 0 where
    pub is_sound : Sound s
    pub room : s.done.0 < most_ticks
    pub report_long : length report ≡ s.tasks.count
    pub grants_long : places ≡ s.tasks.count
    pub lawful : keeps_rule4 s (speed_of s) report ≡ true

  pub accepted : tick_number s report places ≡ 0 → Accepted
  unfolding tick_number all_done
  accepted e₁ =
      let e₂ = rest_fails _ 9 _ (omega arith) e₁ in
      let e₃ = rest_fails _ 10 _ (omega arith) e₂ in
      let e₄ = rest_fails _ 11 _ (omega arith) e₃ in
      let e₅ = rest_fails _ 12 _ (omega arith) e₄ in
      let lengths : (eqb (length report) s.tasks.count && eqb places s.tasks.count) ≡ true = not-false _ (first_fails _ 11 _ (omega arith) e₃) in
      record {
        is_sound = sound_facts s (not-false _ (first_fails _ 9 _ (omega arith) e₁));
        room = leb-false most_ticks s.done.0 (first_fails _ 10 _ (omega arith) e₂);
        report_long = eqb-true (length report) s.tasks.count (both_left (eqb (length report) s.tasks.count) (eqb places s.tasks.count) lengths);
        grants_long = eqb-true places s.tasks.count (both_right (eqb (length report) s.tasks.count) (eqb places s.tasks.count) lengths);
        lawful = not-false _ (first_fails _ 13 _ (omega arith) e₅);
      }

-- tick: the grants list after it
module _ (s : State) (report grants : List ℕ) where
  pub grants_kept : (n : ℕ) → (n ≡ 0 → ⊥) → tick_number s report (length grants) ≡ n → grants ≡ grants_of s report grants
  unfolding grants_of
  grants_kept n z e = rw (e, ne_eqb n 0 z)

  pub grants_written : tick_number s report (length grants) ≡ 0 → up_to s.tasks.count (λ i. (get_or (settled s (speed_of s) report).grants i (cycles 0)).0) ≡ grants_of s report grants
  unfolding grants_of
  grants_written e = rw e

-- energy: its answers
module _ (s : State) where
  pub energy_refused : sound s ≡ false → record { number = 9; energy = 0 } ≡ energy_of s
  unfolding energy_of energy_number first_of
  energy_refused e = rw e

  pub energy_accepted : sound s ≡ true → record { number = 0; energy = energy_sum s.ladder s.tally } ≡ energy_of s
  unfolding energy_of energy_number first_of
  energy_accepted e = rw e
