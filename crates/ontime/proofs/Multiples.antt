-- A change of H to a multiple of it multiplies both sides of the books: place by place, since each period divides the smaller H.
use mathlib.Core.Path.{◌≡◌, refl, sym, ap, ◌∙◌}
use mathlib.Core.Bool.{Bool, true, false, cond, not, ◌&&◌}
use Prim.Native.Nat.{ℕ, ◌-◌, ◌*◌, ◌/◌, ◌≤◌, ◌<◌}
use native.Mathlib.Nat.{mul-zero, mul_assoc, mul-le-mul_left, mul-div_cancel, le_of_mul-le-mul_left}
use native.Mathlib.Omega.{arith}
use lib.Dec.{leb}
use Rattle.rules.specs.declared.Job.{Job}
use Rattle.rules.specs.Words.{up_to}
use Rattle.rules.specs.Load.{use_of}
use Rattle.rules.specs.Settlement.{remaining}
use Rattle.rules.proofs.Lists.{both_left}
use Rattle.rules.proofs.Totals.{total_times}
use Rattle.ontime.specs.OnTime.{Course, sum_to, counts, owes, room, owed_at, room_at, CoveredFrom, job_of, Same, AnyMultipleWillDo}
use Rattle.ontime.proofs.Sums.{sum_same}
use Rattle.ontime.proofs.SamePlaces.{owes_same, room_same}

-- a quotient of a multiple
times_quotient : (great k p : ℕ) → 1 ≤ p → great / p * p ≡ great → k * great / p ≡ k * (great / p)
times_quotient great k p some whole =
    ap (λ x. x / p) (ap (λ x. k * x) (sym whole) ∙ sym (mul_assoc k (great / p) p)) ∙ mul-div_cancel (k * (great / p)) some

module _ (great k : ℕ) (b : Bool) (j : Job) where
  owes_times : owes (k * great) b j ≡ k * owes great b j
  unfolding owes
  owes_times = go (b && not j.over)
    where
      go : (x : Bool) → cond x (remaining j * (k * great)) 0 ≡ k * cond x (remaining j * great) 0
      go true = omega arith
      go false = sym (mul-zero k)

  room_times : (ticks : ℕ) → (b ≡ true → (1 ≤ j.period.0) × (great / j.period.0 * j.period.0 ≡ great)) → room (k * great) b ticks j ≡ k * room great b ticks j
  unfolding room
  room_times ticks h = go b refl
    where
      go : (x : Bool) → b ≡ x → cond x (use_of j * (k * great / j.period.0) * ticks) 0 ≡ k * cond x (use_of j * (great / j.period.0) * ticks) 0
      go true e = rw (times_quotient great k j.period.0 (h e).0 (h e).1) (omega arith)
      go false e = sym (mul-zero k)

-- the same places, at a multiple of H
module _ (c e : Course) (k : ℕ) (more : e.tasks.great.0 ≡ k * c.tasks.great.0) (places : e.places ≡ c.places) (tick : e.tick ≡ c.tick)
    (same : (i : ℕ) → i < c.places → Same c c.jobs e i)
    (whole : (i : ℕ) → i < c.places → c.held i ≡ true → (1 ≤ (job_of c c.jobs i).period.0) × (c.tasks.great.0 / (job_of c c.jobs i).period.0 * (job_of c c.jobs i).period.0 ≡ c.tasks.great.0)) (d : ℕ) where
  one_owes : (i : ℕ) → i < c.places → owed_at e e.jobs d i ≡ k * owed_at c c.jobs d i
  one_owes i l =
      owes_same c c.jobs e d i (same i l)
      ∙ ap (λ g. owes g (counts c d i) (job_of c c.jobs i)) more
      ∙ owes_times c.tasks.great.0 k (counts c d i) (job_of c c.jobs i)

  is_held : (i : ℕ) → counts c d i ≡ true → c.held i ≡ true
  unfolding counts
  is_held i h = both_left (c.held i) (leb (c.due i) d) h

  one_room : (i : ℕ) → i < c.places → room_at e e.jobs e.tick d i ≡ k * room_at c c.jobs c.tick d i
  one_room i l =
      room_same c c.jobs e d i (same i l)
      ∙ ap (λ g. room g (counts c d i) (c.due i - e.tick) (job_of c c.jobs i)) more
      ∙ ap (λ x. room (k * c.tasks.great.0) (counts c d i) (c.due i - x) (job_of c c.jobs i)) tick
      ∙ room_times c.tasks.great.0 k (counts c d i) (job_of c c.jobs i) (c.due i - c.tick) (λ h. whole i l (is_held i h))

  all_owed : sum_to e.places (owed_at e e.jobs d) ≡ k * sum_to c.places (owed_at c c.jobs d)
  all_owed =
      ap (λ m. sum_to m (owed_at e e.jobs d)) places
      ∙ sum_same (owed_at e e.jobs d) (λ i. k * owed_at c c.jobs d i) c.places one_owes
      ∙ total_times k (owed_at c c.jobs d) (up_to c.places (λ i. i))

  all_room : sum_to e.places (room_at e e.jobs e.tick d) ≡ k * sum_to c.places (room_at c c.jobs c.tick d)
  all_room =
      ap (λ m. sum_to m (room_at e e.jobs e.tick d)) places
      ∙ sum_same (room_at e e.jobs e.tick d) (λ i. k * room_at c c.jobs c.tick d i) c.places one_room
      ∙ total_times k (room_at c c.jobs c.tick d) (up_to c.places (λ i. i))

pub any_multiple : AnyMultipleWillDo
unfolding AnyMultipleWillDo CoveredFrom
any_multiple c e k some more places tick same whole = (
  λ covered d. omega (arith, all_owed c e k more places tick same whole d, all_room c e k more places tick same whole d, mul-le-mul_left k (covered d)),
  λ covered d. cancel k (sum_to c.places (owed_at c c.jobs d)) (sum_to c.places (room_at c c.jobs c.tick d)) some (omega (arith, all_owed c e k more places tick same whole d, all_room c e k more places tick same whole d, covered d)),
)
  where
    cancel : (n a b : ℕ) → 1 ≤ n → n * a ≤ n * b → a ≤ b
    cancel n a b h l = le_of_mul-le-mul_left l h
