-- A play from a sound state on is the run of its calls: the call of its first tick, and then those of the rest. By induction on the ticks to go.
use mathlib.Core.Path.{◌≡◌, refl, sym, ap, ◌∙◌}
use mathlib.Core.Bool.{true}
use mathlib.Core.List.{List, ◌∷◌, map}
use mathlib.Core.Logic.{◌⊎◌, inl, inr, ⊎_elim}
use Prim.Native.Nat.{ℕ, suc, ◌+◌, ◌≤◌, ◌<◌}
use native.Mathlib.Omega.{arith}
use lib.ListN.{length, length-replicate}
use Rattle.rules.specs.declared.State.{State}
use Rattle.rules.specs.Answers.{Ticked}
use Rattle.rules.specs.Words.{up_to}
use Rattle.rules.specs.Limits.{most_ticks}
use Rattle.rules.specs.State.{Shaped}
use Rattle.rules.specs.Numbers.{sound}
use Rattle.rules.specs.Calls.{tick_of}
use Rattle.rules.proofs.Lists.{up_to-ext}
use Rattle.player.specs.Plays.{End, Play, tick_played, ended, before, play_from}
use Rattle.played.proofs.TickShares.{tick_right}
use Rattle.played.proofs.PlayLaws.{report_now, answer, number_now, done_next, tasks_next, by_ticks}
use Rattle.promises.specs.Runs.{Call, ticked, after, step_of, steps, granted}
use Rattle.played.specs.PlaysAreRuns.{call_at, shown}

-- the calls of so many ticks from tick t on
unfoldable pub calls_from : List End → ℕ → ℕ → ℕ → List Call
calls_from ends n t many = up_to many (λ k. call_at ends n (t + k))

-- one call more: that of tick t, and those from the next tick on
calls_more : (ends : List End) (n t many : ℕ) → calls_from ends n t (suc many) ≡ call_at ends n t ∷ calls_from ends n (t + 1) many
unfolding calls_from up_to
calls_more ends n t many =
    let first : t + 0 ≡ t = omega arith in
    let rest : up_to many (λ k. call_at ends n (t + suc k)) ≡ up_to many (λ k. call_at ends n (t + 1 + k)) =
    up_to-ext many (λ k. call_at ends n (t + suc k)) (λ k. call_at ends n (t + 1 + k)) (λ k l. ap (call_at ends n) (omega arith)) in
    rw (first, rest)

-- how a play of so many ticks from a state on ends: all of them are shown, or the call of the one after those shown is refused with 13
abbrev pub EndsFrom : List End → ℕ → State → Play → Type 0
EndsFrom ends left s p =
    ((p.number ≡ 0) × (length p.ticks ≡ left))
    ⊎ ((p.number ≡ 13) × ((length p.ticks < left) × ((ticked p.state (call_at ends s.tasks.count (s.done.0 + length p.ticks))).number ≡ 13)))

-- a play that is the run of its calls from a state on
pub record RunFrom (ends : List End) (left : ℕ) (s : State) (p : Play) : Type 0 where
  pub state : p.state ≡ after s (calls_from ends s.tasks.count s.done.0 (length p.ticks))
  pub ticks : p.ticks ≡ map shown (steps s (calls_from ends s.tasks.count s.done.0 (length p.ticks)))
  pub ending : EndsFrom ends left s p

module _ (ends : List End) (s : State) where
  -- where it ends at once there is no call
  run_ends : (left number : ℕ) → EndsFrom ends left s (ended number s) → RunFrom ends left s (ended number s)
  unfolding ended calls_from up_to after steps
  run_ends left number why = record { state = refl; ticks = refl; ending = why }

  -- the call of the tick at hand has the report of its end lines, and tick answers it as it is played
  abbrev call : Call
  call = call_at ends s.tasks.count s.done.0

  reported : call.report ≡ report_now ends s
  unfolding call_at
  reported = refl

  answered : ticked s call ≡ answer ends s
  unfolding ticked call_at
  answered = rw reported (ap (tick_of s (report_now ends s)) (length-replicate s.tasks.count 0))

  -- with no tick to go all are shown
  none_left : EndsFrom ends 0 s (ended 0 s)
  unfolding ended
  none_left = inl (refl, refl)

  -- refused, the call of the tick at hand is answered with 13
  refused_now : number_now ends s ≡ 13 → (ticked s (call_at ends s.tasks.count (s.done.0 + 0))).number ≡ 13
  unfolding tick_of
  refused_now e =
      let now : s.done.0 + 0 ≡ s.done.0 = omega arith in
      rw (now, answered) e

  -- so the play that ends there is refused at it, with a tick to go
  stopped : (left : ℕ) → number_now ends s ≡ 13 → EndsFrom ends (suc left) s (ended 13 s)
  unfolding ended
  stopped left e = inr (refl, (omega arith, refused_now e))

  -- accepted,
  module _ (shape : Shaped s) (e : number_now ends s ≡ 0) where
    -- it goes to the state after the tick,
    after_more : (cs : List Call) → after s (call ∷ cs) ≡ after (answer ends s).state cs
    unfolding after
    after_more cs = ap (λ (r : Ticked). after r.state cs) answered

    -- it is a step of the run,
    accepted_now : (answer ends s).number ≡ 0
    unfolding tick_of
    accepted_now = e

    steps_more : (cs : List Call) → steps s (call ∷ cs) ≡ step_of s call ∷ steps (answer ends s).state cs
    unfolding steps
    steps_more cs = rw (answered, accepted_now)

    -- and shown as it is played: what is not granted is idle
    shown_idle : (shown (step_of s call)).idle ≡ (tick_played s (report_now ends s)).idle
    unfolding shown step_of call_at granted tick_played
    shown_idle = omega (arith, (tick_right s shape (report_now ends s) e).shared)

    shown_played : shown (step_of s call) ≡ tick_played s (report_now ends s)
    unfolding shown step_of call_at granted tick_played
    shown_played = ap (λ i. record { speed = (tick_played s (report_now ends s)).speed; grants = (tick_played s (report_now ends s)).grants; idle = i }) shown_idle

    -- it changes nothing of how the rest ends: one tick more is shown, of one more to go
    ends_more : (left : ℕ) (p : Play) → EndsFrom ends left (answer ends s).state p → EndsFrom ends (suc left) s (before (tick_played s (report_now ends s)) p)
    unfolding before
    ends_more left p =
        let next : s.done.0 + suc (length p.ticks) ≡ (answer ends s).state.done.0 + length p.ticks = omega (arith, done_next ends s e) in
        let same : call_at ends (answer ends s).state.tasks.count ((answer ends s).state.done.0 + length p.ticks) ≡ call_at ends s.tasks.count (s.done.0 + suc (length p.ticks)) =
        rw (tasks_next ends s e, next) in
        ⊎_elim (λ q. inl (q.0, ap suc q.1))
        (λ q. inr (q.0, (omega (arith, q.1.0), ap (λ c. (ticked p.state c).number) (sym same) ∙ q.1.1)))

    -- so it goes in front of the run of the rest
    run_more : (left : ℕ) (p : Play) → RunFrom ends left (answer ends s).state p → RunFrom ends (suc left) s (before (tick_played s (report_now ends s)) p)
    unfolding before
    run_more left p rest =
        let calls : calls_from ends s.tasks.count s.done.0 (suc (length p.ticks)) ≡ call ∷ calls_from ends (answer ends s).state.tasks.count (answer ends s).state.done.0 (length p.ticks) =
        calls_more ends s.tasks.count s.done.0 (length p.ticks) ∙ rw (tasks_next ends s e, done_next ends s e) in
        record {
          state = rw (calls, after_more _) rest.state;
          ticks = rw (calls, steps_more _, shown_played) (ap (λ xs. tick_played s (report_now ends s) ∷ xs) rest.ticks);
          ending = ends_more left p rest.ending;
        }

-- every play from a sound state on is the run of its calls
pub run_from : (ends : List End) (left : ℕ) (s : State) → sound s ≡ true → Shaped s → s.done.0 + left ≤ most_ticks → RunFrom ends left s (play_from ends left s)
run_from ends =
    by_ticks ends (RunFrom ends) (λ s e shape. run_ends ends s 0 0 (none_left ends s))
    (λ left s e shape n. run_ends ends s (suc left) 13 (stopped ends s left n))
    (λ left s p shape n rest. run_more ends s shape n left p rest)
