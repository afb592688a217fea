-- What the capped multiple of the periods says of the great period: least common multiples are unique.
use mathlib.Core.Path.{◌≡◌}
use mathlib.Core.List.{List}
use Prim.Native.Nat.{ℕ, ◌≤◌, ◌<◌}
use Rattle.std.specs.Prelude.{Option, Some, None}
use Rattle.divisors.specs.Divisors.{IsLcmOf, Capped}
use Rattle.divisors.proofs.DivisorLaws.{all_is, all_one, capped_number, capped_large}
use Rattle.rules.specs.Limits.{most_great}
use Rattle.rules.specs.Admission.{great_of}

module _ (ps : List ℕ) {r : Option ℕ} (found : Capped most_great (IsLcmOf ps) r) where
  pub great_is : (m : ℕ) → r ≡ Some m → m ≡ great_of ps
  unfolding great_of
  great_is m e = all_one (capped_number _ _ m e found).0 (all_is ps)

  pub great_within : (m : ℕ) → r ≡ Some m → m ≤ most_great
  great_within m e = (capped_number _ _ m e found).1

  pub great_above : r ≡ None → most_great < great_of ps
  unfolding great_of
  great_above e = capped_large _ _ _ e found (all_is ps)
