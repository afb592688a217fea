-- On the bench: the play of a run file whose table start takes is a run as `promises` speaks of it, so no job of it is late and its energy is that of the ticks shown; a text without such a run has nothing played.
use mathlib.Core.Path.{◌≡◌, refl, sym, ap, ◌∙◌}
use mathlib.Core.List.{List, [], ◌∷◌, map}
use mathlib.Core.Logic.{inl, inr, ⊎_elim}
use Prim.Native.Nat.{ℕ, ◌+◌}
use native.Mathlib.Omega.{arith}
use lib.ListN.{length}
use Rattle.rules.specs.declared.State.{State}
use Rattle.rules.specs.Answers.{Started}
use Rattle.rules.specs.Answers.{Used}
use Rattle.rules.specs.Words.{total}
use Rattle.rules.specs.Calls.{fresh_tally, fresh_state, zero_state, energy_of}
use Rattle.rules.proofs.Lists.{up_to-ext}
use Rattle.runfile.specs.declared.RunFile.{RunFile}
use Rattle.std.specs.Prelude.{Ok}
use Rattle.runfile.specs.RunFile.{run_file_of}
use Rattle.player.specs.Plays.{Play, ends_in, ended, play_of, start_in}
use Rattle.played.proofs.StartLaws.{start_is_sound, start_is_shaped, start_done, start_count}
use Rattle.played.proofs.TextLaws.{of_text, text_played, run_room}
use Rattle.promises.specs.Runs.{started, ticked, after, steps, granted}
use Rattle.promises.specs.Counts.{CountsComeFromTheGrants}
use Rattle.promises.specs.NeverLate.{NeverLateInAnyRun}
use Rattle.promises.proofs.Promises.{never_late, counts}
use Rattle.played.specs.PlaysAreRuns.{table_in, call_at, calls_in, shown, IsTheRun, cost_in}
use Rattle.played.proofs.RunOfPlay.{calls_from, RunFrom, run_from}

-- a sum over a list's images
total-map : {A B : Type 0} (f : B → ℕ) (g : A → B) (l : List A) → total f (map g l) ≡ total (λ x. f (g x)) l
unfolding total
total-map f g [] = refl
total-map f g (x ∷ l) = ap (λ n. f (g x) + n) (total-map f g l)

-- start's answer to a run file's table is that of the run
pub started_in : (f : RunFile) → started (table_in f) ≡ start_in f
unfolding started table_in
started_in f = refl

-- a run file whose table start takes
module _ (text : List ℕ) (file : RunFile) (is : run_file_of text ≡ Ok file) (n : (start_in file).number ≡ 0) where
  abbrev first : State
  first = (start_in file).state

  -- the fresh state has as many tasks as the file has task lines
  tasks_in : first.tasks.count ≡ length file.tasks.firsts.items
  tasks_in = start_count _ _ _ _ n

  -- the calls of its ticks are those from tick 0 on
  calls_in_lem : (many : ℕ) → calls_from (ends_in file) first.tasks.count first.done.0 many ≡ calls_in file many
  unfolding calls_in calls_from
  calls_in_lem many =
      rw (tasks_in, start_done _ _ _ _ n)
      (up_to-ext many _ _ (λ k l. ap (call_at (ends_in file) _) (omega arith)))

  -- and the call after so many of them is that of the tick of this number
  call_in : (many : ℕ) → call_at (ends_in file) first.tasks.count (first.done.0 + many) ≡ call_at (ends_in file) (length file.tasks.firsts.items) many
  call_in many = rw (tasks_in, start_done _ _ _ _ n) (ap (call_at (ends_in file) _) (omega arith))

  -- a play that is the run of the calls from the fresh state on is the file's run
  run_of : (p : Play) → RunFrom (ends_in file) file.ticks.0 first p → IsTheRun file p
  unfolding started table_in
  run_of p run =
      record {
        state = run.state ∙ ap (after first) (calls_in_lem (length p.ticks));
        ticks = run.ticks ∙ ap (λ cs. map shown (steps first cs)) (calls_in_lem (length p.ticks));
        ends = ⊎_elim inl (λ q. inr (q.0, (omega (arith, q.1.0), ap (λ c. (ticked p.state c).number) (sym (call_in (length p.ticks))) ∙ q.1.1))) run.ending;
      }

  -- its play is such a run
  pub play_is_run : IsTheRun file (play_of text)
  play_is_run =
      rw (text_played text file is n)
      (run_of _ (run_from (ends_in file) file.ticks.0 first (start_is_sound _ _ _ _ n) (start_is_shaped _ _ _ _ n) (run_room text file is n)))

  -- so none of its jobs is late
  pub run_not_late : (play_of text).state.tally.late ≡ 0
  unfolding NeverLateInAnyRun
  run_not_late =
      ap (λ (s : State). s.tally.late) play_is_run.state
      ∙ (never_late (table_in file) (ap (λ (r : Started). r.number) (started_in file) ∙ n) (calls_in file (length (play_of text).ticks))).none_late

  -- and its energy is that of the ticks shown
  pub run_energy : (energy_of (play_of text).state).energy ≡ total (cost_in (table_in file)) (play_of text).ticks
  unfolding CountsComeFromTheGrants shown granted
  run_energy =
      let calls = calls_in file (length (play_of text).ticks) in
      ap (λ (s : State). (energy_of s).energy) play_is_run.state
      ∙ ap (λ (r : Used). r.energy) (counts (table_in file) (ap (λ (r : Started). r.number) (started_in file) ∙ n) calls).energy
      ∙ sym (total-map (cost_in (table_in file)) shown (steps (started (table_in file)).state calls))
      ∙ ap (total (cost_in (table_in file))) (sym play_is_run.ticks)

-- where nothing is played no job is late: the all-zero state has none
none_played : (number : ℕ) → (ended number zero_state).state.tally.late ≡ 0
unfolding ended zero_state fresh_state fresh_tally
none_played number = refl

-- so no job is late whatever the text is
pub not_late : (text : List ℕ) → (play_of text).state.tally.late ≡ 0
not_late text =
    of_text text (λ p. p.state.tally.late ≡ 0) (none_played 14) (λ f is n. none_played (start_in f).number)
    (λ f is n. rw (text_played text f is n) at (run_not_late text f is n))

-- a run that is not refused is that of a run file whose table start takes, so its energy is that of the ticks shown
pub energy_shown : (text : List ℕ) → (play_of text).number ≡ 0 → (f : RunFile) × (run_file_of text ≡ Ok f) × ((energy_of (play_of text).state).energy ≡ total (cost_in (table_in f)) (play_of text).ticks)
unfolding ended
energy_shown text =
    of_text text (λ p. p.number ≡ 0 → (f : RunFile) × (run_file_of text ≡ Ok f) × ((energy_of p.state).energy ≡ total (cost_in (table_in f)) p.ticks))
    (λ z. absurd (omega arith)) (λ g is n z. absurd (n z))
    (λ g is n z. (g, is, rw (text_played text g is n) at (run_energy text g is n)))
