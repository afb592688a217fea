-- Rule 4's bullets for one ready job: its part is that of the one that applies, and what each case of that comes to.
use mathlib.Core.Path.{◌≡◌, refl}
use mathlib.Core.Bool.{true, false, ◌&&◌}
use Prim.Native.Nat.{ℕ, ◌-◌, ◌≤◌, ◌<◌}
use native.Mathlib.Omega.{arith}
use lib.Dec.{ltb, leb}
use borrow.Author.Tests.{eq-eqb, ne_eqb, lt-ltb, le-ltb, le-leb, lt-leb}
use Rattle.std.specs.Prelude.{Some, None, ◌⊎◌}
use Rattle.std.proofs.Common.{inl, inr}
use Rattle.units.specs.Units.{cycles}
use Rattle.rules.specs.declared.Job.{Job}
use Rattle.rules.specs.Settlement.{by_bullet, allowed, granted, is_cut, is_over}
use Rattle.rules.proofs.Lists.{and-false}
use Rattle.settlement.specs.Parts.{share_of, runs_on, finishes_at}

-- while something is left, the part of a job is that of the bullet of its entry
module _ (left u : ℕ) (j : Job) (some : 0 < left) where
  pub by_entry_0 : u ≡ 0 → Some (runs_on left j) ≡ share_of left u j
  unfolding runs_on share_of allowed granted is_over is_cut by_bullet
  by_entry_0 e = rw (ne_eqb left 0 (λ z. omega (arith, z, some)), eq-eqb u 0 e)

  pub by_entry_u : (u ≡ 0 → ⊥) → finishes_at left u j ≡ share_of left u j
  unfolding finishes_at share_of allowed granted is_over is_cut by_bullet
  by_entry_u e = rw (ne_eqb left 0 (λ z. omega (arith, z, some)), ne_eqb u 0 e)

-- entry u: out of its range, more than is left, or allowed
module _ (left u : ℕ) (j : Job) where
  pub out_of_range : (u ≤ j.run.0) ⊎ (j.reserve.0 < u) → None ≡ finishes_at left u j
  unfolding finishes_at
  out_of_range (inl h) = rw (le-ltb j.run.0 u h)
  out_of_range (inr h) = rw (lt-leb u j.reserve.0 h, and-false (ltb j.run.0 u) false refl)

  pub not_left : left < u - j.run.0 → None ≡ finishes_at left u j
  unfolding finishes_at
  not_left h = rw (lt-leb (u - j.run.0) left h, and-false (ltb j.run.0 u && leb u j.reserve.0) false refl)

  pub within_left : j.run.0 < u → u ≤ j.reserve.0 → u - j.run.0 ≤ left → Some (record { given = cycles (u - j.run.0); over = true; cut = false }) ≡ finishes_at left u j
  unfolding finishes_at
  within_left r e h = rw (lt-ltb j.run.0 u r, le-leb u j.reserve.0 e, le-leb (u - j.run.0) left h)
