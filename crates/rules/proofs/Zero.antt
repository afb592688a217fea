-- The derived default of a state is the all-zero state: every count 0, no job over, and so at every place of every array.
use mathlib.Core.Path.{◌≡◌, ap, sym, ◌∙◌}
use mathlib.Core.Bool.{Bool, false}
use mathlib.Core.List.{List, []}
use Prim.Native.Nat.{ℕ}
use lib.ListN.{get_or}
use Rattle.std.specs.Array.{AllOfLen}
use Rattle.units.specs.Units.{ticks, cycles, speed, volts}
use Rattle.units.specs.declared.Ticks.{Ticks}
use Rattle.units.specs.declared.Cycles.{Cycles}
use Rattle.units.specs.declared.Speed.{Speed}
use Rattle.units.specs.declared.Volts.{Volts}
use Rattle.rules.specs.declared.Tasks.{Tasks}
use Rattle.rules.specs.declared.Jobs.{Jobs}
use Rattle.rules.specs.declared.Ladder.{Ladder}
use Rattle.rules.specs.declared.Tally.{Tally}
use Rattle.rules.specs.declared.State.{State}
use Rattle.rules.specs.contracts.StateDefault.TheImpl as state
use Rattle.rules.specs.Words.{up_to}
use Rattle.rules.specs.Limits.{most_tasks, most_speeds}
use Rattle.rules.specs.Calls.{tasks_from, ladder_from, fresh_jobs, fresh_tally, fresh_state, zero_state}
use Rattle.rules.proofs.Lists.{up_to-ext, up_to_get_d}

-- an array of which every entry is one value
all_one : {A : Type 0} (P : A → Type 0) (d : A) (n : ℕ) (xs : List A) → ((x : A) → P x → x ≡ d) → AllOfLen P xs n → xs ≡ up_to n (λ i. d)
all_one P d n xs one h =
    sym (up_to_get_d xs n d h.long) ∙ up_to-ext n (λ i. get_or xs i d) (λ i. d) (λ i l. one (get_or xs i d) (h.at i d l))

-- each struct, from its fields
zero_tasks :
    (n : ℕ) (great : Ticks) (ps : List Ticks) (cs : List Cycles)
    → n ≡ 0
    → great ≡ ticks 0
    → ps ≡ up_to most_tasks (λ i. ticks 0)
    → cs ≡ up_to most_tasks (λ i. cycles 0)
    → record { count = n; great = great; periods = ps; reserves = cs } ≡ tasks_from 0 [] []
unfolding tasks_from
zero_tasks n great ps cs a b d e = rw (a, b, d, e)

zero_jobs :
    (run : List Cycles) (over : List Bool)
    → run ≡ up_to most_tasks (λ i. cycles 0)
    → over ≡ up_to most_tasks (λ i. false)
    → record { run = run; over = over } ≡ fresh_jobs
unfolding fresh_jobs
zero_jobs run over a b = rw (a, b)

zero_ladder :
    (n : ℕ) (ss : List Speed) (vs : List Volts)
    → n ≡ 0
    → ss ≡ up_to most_speeds (λ i. speed 0)
    → vs ≡ up_to most_speeds (λ i. volts 0)
    → record { count = n; speeds = ss; volts = vs } ≡ ladder_from [] []
unfolding ladder_from
zero_ladder n ss vs a b d = rw (a, b, d)

zero_tally :
    (counts : List Cycles) (idle : Cycles) (late cut : ℕ)
    → counts ≡ up_to most_speeds (λ i. cycles 0)
    → idle ≡ cycles 0
    → late ≡ 0
    → cut ≡ 0
    → record { counts = counts; idle = idle; late = late; cut = cut } ≡ fresh_tally
unfolding fresh_tally
zero_tally counts idle late cut a b d e = rw (a, b, d, e)

zero_all :
    (done : Ticks) (ts : Tasks) (js : Jobs) (l : Ladder) (y : Tally)
    → done ≡ ticks 0
    → ts ≡ tasks_from 0 [] []
    → js ≡ fresh_jobs
    → l ≡ ladder_from [] []
    → y ≡ fresh_tally
    → record { done = done; tasks = ts; jobs = js; ladder = l; tally = y } ≡ zero_state
unfolding zero_state fresh_state
zero_all done ts js l y a b d e f = rw (a, b, d, e, f)

-- what `State::default()` answers
pub default_zero : (s : State) → (state.ghosts).is_default s → s ≡ zero_state
default_zero s (done, ((n, (great, (ps, cs))), ((run, over), ((m, (ss, vs)), (counts, (idle, (late, cut))))))) =
    zero_all s.done s.tasks s.jobs s.ladder s.tally
    (ap ticks done)
    (zero_tasks s.tasks.count s.tasks.great s.tasks.periods s.tasks.reserves n (ap ticks great) (all_one _ _ _ _ (λ x e. ap ticks e) ps) (all_one _ _ _ _ (λ x e. ap cycles e) cs))
    (zero_jobs s.jobs.run s.jobs.over (all_one _ _ _ _ (λ x e. ap cycles e) run) (all_one _ _ _ _ (λ x e. e) over))
    (zero_ladder s.ladder.count s.ladder.speeds s.ladder.volts m (all_one _ _ _ _ (λ x e. ap speed e) ss) (all_one _ _ _ _ (λ x e. ap volts e) vs))
    (zero_tally s.tally.counts s.tally.idle s.tally.late s.tally.cut (all_one _ _ _ _ (λ x e. ap cycles e) counts) (ap cycles idle) late cut)
