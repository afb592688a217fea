-- What a call's answer gives where a default stands for its refusals: what document 01 says beside a refusal's number. By cases.
use Rattle.std.proofs.Common.{◌≡◌, ℕ, refl, Result, Ok, Err}
use Rattle.std.specs.Result.{result_unwrap_or, ResultUnwrapsOrElse, MatchResult}
use Rattle.units.specs.Units.{speed}
use Rattle.units.specs.declared.Speed.{Speed}
use Rattle.refusals.specs.declared.Refusal.{Refusal}
use Rattle.rules.specs.declared.State.{State}
use Rattle.rules.specs.declared.Advice.{Advice}
use Rattle.rules.specs.contracts.StateDefault.TheImpl as default
use Rattle.rules.specs.Calls.{started_by, told_by, ticked_by, used_by}
use Rattle.rules.proofs.Zero.{default_zero}

pub state_or_zero : (r : Result State Refusal) (s : State) → ResultUnwrapsOrElse r (default.ghosts).is_default s → s ≡ (started_by r).state
unfolding started_by
state_or_zero (Ok x) s e = e
state_or_zero (Err r) s h = default_zero s h

pub speed_or_zero : (r : Result Advice Refusal) (v : Speed) (P : Advice → Type 0) → ((a : Advice) → P a → v ≡ a.speed) → MatchResult r P (λ _. v ≡ speed 0) → v ≡ (told_by r).speed
unfolding told_by
speed_or_zero (Ok a) v P p e = p a e
speed_or_zero (Err r) v P p e = e

pub state_or_given : (given : State) (r : Result State Refusal) → result_unwrap_or r given ≡ (ticked_by given r).state
unfolding ticked_by
state_or_given given (Ok s) = refl
state_or_given given (Err r) = refl

pub energy_or_zero : (r : Result ℕ Refusal) → result_unwrap_or r 0 ≡ (used_by r).energy
unfolding used_by
energy_or_zero (Ok e) = refl
energy_or_zero (Err r) = refl
