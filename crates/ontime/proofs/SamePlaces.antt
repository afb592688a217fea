-- A place that goes on as it is has the same in the books of both courses, but for H: by the three equations of `Same`.
use mathlib.Core.Path.{◌≡◌, ap, ◌∙◌}
use mathlib.Core.Bool.{Bool}
use Prim.Native.Nat.{ℕ, ◌-◌}
use Rattle.rules.specs.declared.Jobs.{Jobs}
use Rattle.rules.specs.declared.Job.{Job}
use Rattle.ontime.specs.OnTime.{Course, counts, owes, room, owed_at, room_at, job_of, Same}

module _ (c : Course) (js : Jobs) (e : Course) (d i : ℕ) (s : Same c js e i) where
  counts_same : counts e d i ≡ counts c d i
  unfolding Same counts
  counts_same = rw (s.0, s.1)

  pub owes_same : owed_at e e.jobs d i ≡ owes e.tasks.great.0 (counts c d i) (job_of c js i)
  unfolding Same
  owes_same =
      ap (λ (j : Job). owes e.tasks.great.0 (counts e d i) j) s.2
      ∙ ap (λ (b : Bool). owes e.tasks.great.0 b (job_of c js i)) counts_same

  pub room_same : room_at e e.jobs e.tick d i ≡ room e.tasks.great.0 (counts c d i) (c.due i - e.tick) (job_of c js i)
  unfolding Same
  room_same =
      ap (λ (j : Job). room e.tasks.great.0 (counts e d i) (e.due i - e.tick) j) s.2
      ∙ ap (λ (b : Bool). room e.tasks.great.0 b (e.due i - e.tick) (job_of c js i)) counts_same
      ∙ ap (λ x. room e.tasks.great.0 (counts c d i) (x - e.tick) (job_of c js i)) s.1
