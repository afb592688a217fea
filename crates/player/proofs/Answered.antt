-- No two answers of play say the same: a refusal's number is not 0, and no two refusals have one. By cases.
use Rattle.std.proofs.Common.{◌≡◌, refl, sym, ap, ◌∙◌, Option, Some, None}
use Rattle.refusals.specs.declared.Refusal.{Refusal}
use Rattle.rules.specs.declared.State.{State}
use Rattle.rules.proofs.Answered.{number-not_0, number-one}
use Rattle.player.specs.declared.Played.{Played}
use Rattle.player.specs.Rows.{Ending, number_in, ending_by, played_by}

-- why a run was refused, by its number
number_in-one : (a b : Option Refusal) → number_in a ≡ number_in b → a ≡ b
number_in-one None None e = refl
number_in-one None (Some r) e = absurd (number-not_0 r (sym e))
number_in-one (Some q) None e = absurd (number-not_0 q e)
number_in-one (Some q) (Some r) e = ap Some (number-one q r e)

-- what a play says of its end
ending-one : (p q : Played) → ending_by p ≡ ending_by q → p ≡ q
unfolding ending_by
ending-one p q e =
    let refusals : p.refusal ≡ q.refusal = number_in-one p.refusal q.refusal (ap (λ (x : Ending). x.number) e) in
    let states : p.state ≡ q.state = ap (λ (x : Ending). x.state) e in
    ap (λ (r : Option Refusal). record { refusal = r; state = p.state }) refusals ∙ ap (λ (s : State). record { refusal = q.refusal; state = s }) states

pub played_one : (a b : Option Played) → played_by a ≡ played_by b → a ≡ b
unfolding played_by
played_one None None e = refl
played_one None (Some q) e = let h : ◌≡◌ {A = Option Ending} None (Some (ending_by q)) = e in cc
played_one (Some p) None e = let h : ◌≡◌ {A = Option Ending} (Some (ending_by p)) None = e in cc
played_one (Some p) (Some q) e =
    let h : ◌≡◌ {A = Option Ending} (Some (ending_by p)) (Some (ending_by q)) = e in
    let same : ending_by p ≡ ending_by q = cc in
    ap Some (ending-one p q same)
