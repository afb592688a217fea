-- An array made by a function of the place is the list of that function's values. One law for every unit.
use mathlib.Core.Path.{◌≡◌, sym, subst, ◌∙◌}
use mathlib.Core.List.{List}
use Prim.Native.Nat.{ℕ, zero, suc, ◌+◌, ◌≤◌, ◌<◌}
use native.Mathlib.Decide.{ℕ_discrete}
use native.Mathlib.Omega.{arith}
use lib.ListN.{get_or}
use denote.Param.Members.{Mut, Called}
use Rattle.std.specs.Array.{IsFromFnResultFrom, IsFromFnResult}
use Rattle.rules.specs.Words.{up_to}
use Rattle.rules.proofs.Lists.{up_to-ext, up_to_get_d}

module _ {F A : Type 0} {g : Mut F (ℕ × Unit {0}) A} {f : F} (u : ℕ → A) (same : (i : ℕ) (y : A) (q : F) → Called g f (i, tt) y q → (q ≡ f) × (y ≡ u i)) where
  made_from : (ys : List A) (d : A) (i n : ℕ) → IsFromFnResultFrom g f ys i n → (k : ℕ) → i ≤ k → k < i + n → get_or ys k d ≡ u k
  made_from ys d i zero h k a b = absurd (omega arith)
  made_from ys d i (suc n) (q, y, at, called, rest) k a b =
      let s = same i y q called in
      elim (ℕ_discrete k i) [
        | yes e ↦ rw e (at.1 d ∙ s.1)
        | no ne ↦ made_from ys d (i + 1) n (subst (λ (x : F). IsFromFnResultFrom g x ys (i + 1) n) s.0 rest) k (omega arith) (omega arith)
      ]

  -- the array, whatever stands for a place past its end
  pub laid : (n : ℕ) (ys : List A) (d : A) → IsFromFnResult g f ys n → ys ≡ up_to n u
  laid n ys d h =
      sym (up_to_get_d ys n d h.long) ∙ up_to-ext n (λ i. get_or ys i d) u (λ i l. made_from ys d 0 n h.each i (omega arith) (omega arith))
