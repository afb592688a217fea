-- What a run adds to its energy: a tick adds its grants to one speed's count, so it adds them times that speed's volts twice. By the accepted ticks.
use mathlib.Core.Path.{◌≡◌, refl, sym, ap, ◌∙◌}
use mathlib.Core.Bool.{Bool, true, false≢true}
use mathlib.Core.List.{List}
use Prim.Native.Nat.{ℕ, ◌+◌, ◌*◌, ◌<◌}
use native.Mathlib.Decide.{dec_lt}
use native.Mathlib.Omega.{arith}
use lib.Dec.{eqb}
use lib.ListN.{length, get_or}
use borrow.Author.Tests.{eqb-true, eq-eqb}
use Rattle.rules.specs.declared.Ladder.{Ladder}
use Rattle.rules.specs.declared.State.{State}
use Rattle.rules.specs.Words.{total}
use Rattle.rules.specs.State.{speed_at, volts_at, speeds_of, volts_of}
use Rattle.rules.specs.Choice.{lowest, speed_place}
use Rattle.rules.specs.Counting.{next_of, energy_sum}
use Rattle.rules.specs.Numbers.{speeds_rise}
use Rattle.rules.proofs.Climbs.{rise_order}
use Rattle.rules.proofs.Lowest.{lowest_fits, before_fails, fit_below}
use Rattle.rules.proofs.Soundness.{Sound}
use Rattle.rules.proofs.Loads.{place_below, speeds_at, volts_at_lem, in_speeds}
use Rattle.rules.proofs.Energies.{energy_change}
use Rattle.promises.specs.Runs.{Call, Step, step_of, steps, after, granted}
use Rattle.promises.proofs.RunLaws.{next, Taken, by_steps}
use Rattle.promises.proofs.SoundRuns.{SoundAndShaped, sound_next}
use Rattle.promises.proofs.Tallies.{count_here, count_elsewhere, step_speed_at}

-- a speed of a rising list is first found at its own place
rise_found : (l : List ℕ) → speeds_rise 0 l ≡ true → (k : ℕ) → k < length l → lowest (λ x. eqb x (get_or l k 0)) l ≡ k
rise_found l rise k h = go (dec_lt place k) (dec_lt k place)
  where
    same : ℕ → Bool
    same x = eqb x (get_or l k 0)

    place : ℕ
    place = lowest same l

    found : get_or l place 0 ≡ get_or l k 0
    found = eqb-true _ _ (lowest_fits same l (fit_below same l k h (eq-eqb (get_or l k 0) (get_or l k 0) refl)))

    go : Dec (place < k) → Dec (k < place) → place ≡ k
    go (yes a) b = absurd (omega (arith, found, rise_order 0 l rise place k a h))
    go (no a) (yes b) = absurd (false≢true (sym (before_fails same l k b) ∙ eq-eqb (get_or l k 0) (get_or l k 0) refl))
    go (no a) (no b) = omega arith

-- the volts that a ladder lists beside a speed
unfoldable pub ladder_volts : Ladder → ℕ → ℕ
ladder_volts l x = get_or (volts_of l) (lowest (λ y. eqb y x) (speeds_of l)) 0

volts_beside_lem : (s : State) → Sound s → (k : ℕ) → k < s.ladder.count → ladder_volts s.ladder (speed_at s.ladder k) ≡ volts_at s.ladder k
unfolding ladder_volts
volts_beside_lem s f k h =
    rw (← speeds_at s.ladder k h, rise_found (speeds_of s.ladder) f.speeds_do_rise k (in_speeds s f k h))
    (volts_at_lem s.ladder k h)

-- the energy of one tick: its grants at the volts of its speed
unfoldable pub step_energy : Ladder → Step → ℕ
step_energy l x = granted x * ladder_volts l x.speed * ladder_volts l x.speed

-- one accepted tick
module _ (s : State) (call : Call) (kept : SoundAndShaped s) (e : Taken s call) where
  tick_volts : ladder_volts s.ladder (step_of s call).speed ≡ volts_at s.ladder (speed_place s)
  tick_volts =
      ap (ladder_volts s.ladder) (step_speed_at s call kept e)
      ∙ volts_beside_lem s kept.facts (speed_place s) (place_below s kept.facts)

  energy_tick : energy_sum s.ladder (next s call).tally ≡ energy_sum s.ladder s.tally + step_energy s.ladder (step_of s call)
  unfolding step_energy
  energy_tick =
      let place = place_below s kept.facts in
      rw tick_volts
      (energy_change s.ladder s.tally (next s call).tally (speed_place s) (granted (step_of s call)) place
      (count_here s call kept e) (count_elsewhere s call kept e))

-- a run: by its accepted ticks
pub energy_run : (calls : List Call) (s : State) → SoundAndShaped s → energy_sum (after s calls).ladder (after s calls).tally ≡ energy_sum s.ladder s.tally + total (step_energy s.ladder) (steps s calls)
unfolding total next_of
energy_run =
    by_steps SoundAndShaped sound_next
    (λ s end xs. energy_sum end.ladder end.tally ≡ energy_sum s.ladder s.tally + total (step_energy s.ladder) xs)
    (λ s kept. omega arith)
    (λ s call end xs kept e rest. omega (arith, rest, energy_tick s call kept e))
