-- An accepted tick, as it is played, is right: a grant for each task, and with what is left they come to the tick's speed. By `Shared`.
use mathlib.Core.Path.{◌≡◌, sym, ap, ◌∙◌}
use mathlib.Core.List.{List, []}
use Prim.Native.Nat.{ℕ}
use native.Mathlib.Omega.{arith}
use lib.ListN.{length, replicate, length-replicate}
use Rattle.rules.specs.declared.State.{State}
use Rattle.rules.specs.Words.{total}
use Rattle.rules.specs.State.{Shaped}
use Rattle.rules.specs.Choice.{speed_place, speed_of}
use Rattle.rules.specs.Settlement.{settled}
use Rattle.rules.specs.Numbers.{tick_number}
use Rattle.rules.proofs.Lists.{length-up_to}
use Rattle.rules.proofs.Settles.{Settles, grants_sum}
use Rattle.rules.proofs.Soundness.{Sound}
use Rattle.rules.proofs.Loads.{place_below, speed_some, speed_of_at}
use Rattle.rules.proofs.Keeps.{jobs_right, settles, entries_allowed}
use Rattle.rules.proofs.CallRows.{accepted, grants_written}
use Rattle.player.specs.Plays.{tick_played}
use Rattle.played.specs.Promised.{TickRight}
use Rattle.player.proofs.Shared.{shares_of, speed_shared, speed_most, speed_told}

-- an accepted tick of a state whose arrays have all their places, with a grants list as long as the task count
module _ (s : State) (shape : Shaped s) (report : List ℕ) (e : tick_number s report s.tasks.count ≡ 0) where
  facts : Sound s
  facts = (accepted s report s.tasks.count e).is_sound

  -- the grants of the tick are those of its settlement, one for each task
  played_grants : (tick_played s report).grants ≡ shares_of s report
  unfolding tick_played shares_of
  played_grants =
      sym (grants_written s report (replicate s.tasks.count 0) (ap (tick_number s report) (length-replicate s.tasks.count 0) ∙ e))

  -- they come to what the settlement grants
  pub played_total : total (λ g. g) (tick_played s report).grants ≡ grants_sum (settled s (speed_of s) report)
  played_total =
      let ends : Settles s.tasks s.jobs s.tasks.count (speed_of s) [] (settled s (speed_of s) report) =
      settles s (jobs_right s facts shape) (speed_of s) report (entries_allowed s report s.tasks.count shape e) in
      ap (total (λ g. g)) played_grants ∙ omega (arith, speed_shared s report s.tasks.count shape e, ends.shared)

  -- its speed is the one that the tick is settled at
  pub played_speed : (tick_played s report).speed ≡ speed_of s
  unfolding tick_played
  played_speed = speed_told s report s.tasks.count shape e

  -- so the tick is right
  pub tick_right : TickRight s.tasks.count (tick_played s report)
  unfolding tick_played shares_of
  tick_right =
      let shared = ap (total (λ g. g)) played_grants in
      record {
        one_each = ap length played_grants ∙ length-up_to s.tasks.count _;
        shared = omega (arith, played_speed, shared, speed_shared s report s.tasks.count shape e);
        some = omega (arith, played_speed, speed_of_at s facts, speed_some s facts (speed_place s) (place_below s facts));
        most = omega (arith, played_speed, speed_most s report s.tasks.count shape e);
      }
