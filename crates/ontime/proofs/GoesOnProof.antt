-- Releases, vanishing and joins keep the books in order: a place that stays is the same on both sides; one that is renewed or joins had no room left and owes no more than its new room; one that is gone or was never there has nothing on either side.
use mathlib.Core.Path.{◌≡◌, sym, ap, ◌∙◌}
use mathlib.Core.Bool.{false, ◌&&◌}
use mathlib.Core.Logic.{◌⊎◌, inl, inr}
use Prim.Native.Nat.{ℕ, ◌+◌, ◌-◌, ◌≤◌}
use native.Mathlib.Nat.{add-sub_cancel_left}
use native.Mathlib.Omega.{arith}
use lib.Dec.{leb}
use Rattle.units.specs.declared.Ticks.{Ticks}
use Rattle.rules.specs.declared.Jobs.{Jobs}
use Rattle.rules.proofs.Totals.{total_mono}
use Rattle.ontime.specs.OnTime.{Course, sum_to, counts, owes, room, owed_at, room_at, CoveredFrom, job_of, Same, Fresh, Closed, GoesOn, ReleasesKeep}
use Rattle.ontime.proofs.Sums.{sum_add}
use Rattle.ontime.proofs.SamePlaces.{owes_same, room_same}
use Rattle.ontime.proofs.OneJob.{none_owes, none_room, no_room, fresh_room}

-- from jobs js of a course to another one with the same H
module _ (c : Course) (js : Jobs) (e : Course) (great : e.tasks.great ≡ c.tasks.great) (d i : ℕ) where
  great_is : e.tasks.great.0 ≡ c.tasks.great.0
  great_is = ap (λ (x : Ticks). x.0) great

  same_owes : Same c js e i → owed_at e e.jobs d i ≡ owed_at c js d i
  same_owes s = owes_same c js e d i s ∙ ap (λ g. owes g (counts c d i) (job_of c js i)) great_is

  same_room : Same c js e i → room_at e e.jobs e.tick d i ≡ room_at c js e.tick d i
  same_room s = room_same c js e d i s ∙ ap (λ g. room g (counts c d i) (c.due i - e.tick) (job_of c js i)) great_is

  -- a place that is empty, or whose job was due by then, has no room
  closed_room : Closed c e.tick i → room_at c js e.tick d i ≡ 0
  unfolding Closed counts
  closed_room (inl h) = rw h (none_room c.tasks.great.0 (job_of c js i) (c.due i - e.tick))
  closed_room (inr l) =
      let z : c.due i - e.tick ≡ 0 = omega arith in
      rw z (no_room c.tasks.great.0 (job_of c js i) (c.held i && leb (c.due i) d))

  -- a new job has room for what it owes
  fresh_sides : Fresh e i → owed_at e e.jobs d i ≡ room_at e e.jobs e.tick d i
  fresh_sides f =
      fresh_room e.tasks.great.0 (counts e d i) (job_of e e.jobs i) f.whole f.run_is f.not_over
      ∙ ap (λ x. room e.tasks.great.0 (counts e d i) x (job_of e e.jobs i)) (sym ticks)
    where
      ticks : e.due i - e.tick ≡ (job_of e e.jobs i).period.0
      ticks = ap (λ x. x - e.tick) f.due_is ∙ add-sub_cancel_left e.tick (job_of e e.jobs i).period.0

  -- a place that is empty owes nothing
  gone_owes : e.held i ≡ false → owed_at e e.jobs d i ≡ 0
  unfolding counts
  gone_owes h = rw h (none_owes e.tasks.great.0 (job_of e e.jobs i))

  place_keeps : GoesOn c js e i → owed_at e e.jobs d i + room_at c js e.tick d i ≤ room_at e e.jobs e.tick d i + owed_at c js d i
  unfolding GoesOn
  place_keeps (inl s) = omega (arith, same_owes s, same_room s)
  place_keeps (inr g) = go g.1
    where
      go : Fresh e i ⊎ (e.held i ≡ false) → owed_at e e.jobs d i + room_at c js e.tick d i ≤ room_at e e.jobs e.tick d i + owed_at c js d i
      go (inl f) = omega (arith, closed_room g.0, fresh_sides f)
      go (inr h) = omega (arith, closed_room g.0, gone_owes h)

pub releases_keep : ReleasesKeep
unfolding ReleasesKeep CoveredFrom
releases_keep c js e places great goes covered d =
    let n = ap (λ m. sum_to m (owed_at e e.jobs d)) places in
    let m = ap (λ m. sum_to m (room_at e e.jobs e.tick d)) places in
    omega (
      arith,
      n,
      m,
      covered d,
      sum_add (owed_at e e.jobs d) (room_at c js e.tick d) c.places,
      sum_add (room_at e e.jobs e.tick d) (owed_at c js d) c.places,
      total_mono (λ i. owed_at e e.jobs d i + room_at c js e.tick d i) (λ i. room_at e e.jobs e.tick d i + owed_at c js d i) c.places
          (λ i l. place_keeps c js e great d i (goes i l)),
    )
