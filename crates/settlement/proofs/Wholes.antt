-- The two ends of a settlement are what it answers: an entry broke rule 4, or none did and all is settled.
use mathlib.Core.Path.{◌≡◌, sym, ap, ◌∙◌}
use mathlib.Core.Bool.{true, false}
use mathlib.Core.List.{List}
use Prim.Native.Nat.{ℕ}
use Rattle.std.specs.Prelude.{Some, None}
use Rattle.rules.specs.declared.Tasks.{Tasks}
use Rattle.rules.specs.declared.Jobs.{Jobs}
use Rattle.rules.specs.declared.Settling.{Settling}
use Rattle.rules.specs.Settlement.{settle_all, at_tick_start}
use Rattle.settlement.specs.Settled.{lawful_in, settled_of, paid, granted_of}
use Rattle.settlement.proofs.Told.{settled-lawful, grants_paid, settled_refused, grants_stay}

module _ (ts : Tasks) (js : Jobs) (order : List ℕ) (speed : ℕ) (report grants : List ℕ) where
  pub broken_told : lawful_in ts js order speed report ≡ false → (None ≡ settled_of ts js order speed report) × (grants ≡ granted_of ts js order speed report grants)
  broken_told e = (sym (settled_refused ts js order speed report e), sym (grants_stay ts js order speed report e grants))

  pub kept_told : lawful_in ts js order speed report ≡ true → (o : Settling) → settle_all ts report order (at_tick_start js speed) ≡ o → (Some (record { jobs = o.jobs; left = o.left; cut = o.cut }) ≡ settled_of ts js order speed report) × (paid o.grants grants ≡ granted_of ts js order speed report grants)
  kept_told e o is = (
    sym (settled-lawful ts js order speed report e ∙ ap (λ (x : Settling). Some (record { jobs = x.jobs; left = x.left; cut = x.cut })) is),
    sym (grants_paid ts js order speed report e grants ∙ ap (λ (x : Settling). paid x.grants grants) is),
  )
