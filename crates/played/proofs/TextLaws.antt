-- The run of any text: no run file, a refused start, or a run from the state that start gives, each with what is promised of it.
use mathlib.Core.Path.{◌≡◌, refl, ap}
use Rattle.std.specs.Prelude.{Ok, Err}
use mathlib.Core.Bool.{Bool, true, false, not, ◌||◌}
use mathlib.Core.List.{List}
use mathlib.Core.Logic.{inl, inr, ⊎_elim}
use Prim.Native.Nat.{ℕ, ◌+◌, ◌*◌, ◌≤◌}
use native.Mathlib.Nat.{mul-le-mul}
use native.Mathlib.Omega.{arith}
use native.Mathlib.Decide.{ℕ_discrete}
use lib.Dec.{eqb, leb}
use lib.ListN.{length}
use borrow.Author.Tests.{ne_eqb, le-leb}
use Rattle.rules.specs.declared.Tasks.{Tasks}
use Rattle.rules.specs.Words.{up_to, total}
use Rattle.rules.specs.Limits.{most_speed, most_ticks}
use Rattle.rules.specs.State.{speeds_of, top_of}
use Rattle.rules.specs.Calls.{tasks_from, fresh_tally, fresh_state, zero_state}
use Rattle.rules.proofs.Soundness.{Sound, sound_facts}
use Rattle.rules.proofs.Loads.{top_limit}
use Rattle.runfile.specs.declared.RunFile.{RunFile}
use Rattle.runfile.specs.RunFile.{run_file_of}
use Rattle.runfile.proofs.Good.{either, good_file}
use Rattle.refusals.specs.declared.Refusal.TheVariants.{NoRunFile}
use Rattle.player.specs.Plays.{Play, ends_in, ended, play_from, start_in, play_file, play_read, play_of}
use Rattle.player.specs.Rows.{rows_of, enough}
use Rattle.played.specs.Promised.{PlaysOn, PlayRight, OfTheBench, most_places}
use Rattle.played.proofs.PlayLaws.{plays_on}
use Rattle.rules.proofs.CallRows.{start_none}
use Rattle.played.proofs.StartLaws.{start_most, start_is_sound, start_is_shaped, start_done, start_counted, start_idle}

-- a text, by whether it is a run file and whether start takes its table
module _ (text : List ℕ) where
  -- no run file: 14 before a tick
  no_file : run_file_of text ≡ Err NoRunFile → play_of text ≡ ended 14 zero_state
  unfolding play_of play_read
  no_file e = rw e

  module _ (f : RunFile) (is : run_file_of text ≡ Ok f) where
    -- a refused start: its number before a tick
    not_started : ((start_in f).number ≡ 0 → ⊥) → play_of text ≡ ended (start_in f).number zero_state
    unfolding play_of play_read play_file
    not_started n = rw (is, ne_eqb (start_in f).number 0 n, start_none _ _ _ _ n)

    -- an accepted start: its ticks from the fresh state on
    pub text_played : (start_in f).number ≡ 0 → play_of text ≡ play_from (ends_in f) f.ticks.0 (start_in f).state
    unfolding play_of play_read play_file
    text_played n = rw (is, n)

  -- so what holds in these three cases holds of the run of any text
  pub of_text : (P : Play → Type 0)
      → P (ended 14 zero_state)
      → ((f : RunFile) → run_file_of text ≡ Ok f → ((start_in f).number ≡ 0 → ⊥) → P (ended (start_in f).number zero_state))
      → ((f : RunFile) → run_file_of text ≡ Ok f → (start_in f).number ≡ 0 → P (play_from (ends_in f) f.ticks.0 (start_in f).state))
      → P (play_of text)
  of_text P none refused accepted = ⊎_elim (λ e. go e.0 e.1 (ℕ_discrete (start_in e.0).number 0)) (λ e. rw (no_file e) none) (either text)
    where
      go : (f : RunFile) → run_file_of text ≡ Ok f → Dec ((start_in f).number ≡ 0) → P (play_of text)
      go f is (no n) = rw (not_started f is n) (refused f is n)
      go f is (yes n) = rw (text_played f is n) (accepted f is n)

  -- a run that is refused before its first tick is as promised
  unplayed_right : (n : ℕ) → (n ≡ 0 → ⊥) → PlayRight text (ended n zero_state)
  unfolding ended zero_state fresh_state tasks_from fresh_tally rows_of total up_to
  unplayed_right n some =
      record {
        done = refl;
        tasks_most = omega arith;
        ticks_most = omega arith;
        ticks_right = tt;
        rows_long = refl;
        granted_all = refl;
        idle_all = refl;
        cycles_most = omega arith;
        is_sound = λ e. absurd (some e);
        all_played = λ e. absurd (some e);
      }

  -- and so is one from the fresh state on
  run_right_lem : (p : Play) (f : RunFile) → run_file_of text ≡ Ok f → f.ticks.0 ≤ 10_000 → (start_in f).number ≡ 0 → PlaysOn (start_in f).state f.ticks.0 p → PlayRight text p
  run_right_lem p f is short e on =
      let so : Sound p.state = sound_facts p.state on.is_sound in
      let tasks : p.state.tasks.count ≡ (start_in f).state.tasks.count = ap (λ (ts : Tasks). ts.count) on.same_tasks in
      let done : p.state.done.0 ≡ length p.ticks = omega (arith, on.done, start_done _ _ _ _ e) in
      let few : p.state.done.0 ≤ 10_000 = omega (arith, done, on.no_more) in
      let cycles : p.state.done.0 * top_of (speeds_of p.state.ladder) ≤ 10_000 * most_speed = mul-le-mul few (top_limit p.state so) in
      record {
        done = done;
        tasks_most = so.tasks_most;
        ticks_most = omega (arith, on.no_more);
        ticks_right = rw tasks on.ticks_right;
        rows_long = rw tasks on.rows_long;
        granted_all = omega (arith, on.granted_all, start_counted _ _ _ _ e);
        idle_all = omega (arith, on.idle_all, start_idle _ _ _ _ e);
        cycles_most = omega (arith, so.cycles_most, cycles);
        is_sound = λ z. on.is_sound;
        all_played = λ z. ⊎_elim (λ q. (f, is, q.1)) (λ q. absurd (omega arith)) on.ends;
      }

  module _ (f : RunFile) (is : run_file_of text ≡ Ok f) where
    -- a run file has at most 16 task lines and at most 10,000 ticks
    few : length f.tasks.firsts.items ≤ 16
    few = (good_file text f is).tasks.few

    short : f.ticks.0 ≤ 10_000
    short = (good_file text f is).ticks

    -- so its run ends before 1,000,000,000 ticks are done
    pub run_room : (start_in f).number ≡ 0 → (start_in f).state.done.0 + f.ticks.0 ≤ most_ticks
    run_room n = omega (arith, start_done _ _ _ _ n, short)

    -- from the fresh state on it is a run from a sound state
    plays_file : (start_in f).number ≡ 0 → PlaysOn (start_in f).state f.ticks.0 (play_from (ends_in f) f.ticks.0 (start_in f).state)
    plays_file n =
        plays_on (ends_in f) f.ticks.0 (start_in f).state (start_is_sound _ _ _ _ n) (start_is_shaped _ _ _ _ n) (run_room n)

  -- so the run of any text is as promised,
  pub text_right : PlayRight text (play_of text)
  text_right =
      of_text (PlayRight text) (unplayed_right 14 (λ z. omega arith)) (λ f is n. unplayed_right (start_in f).number n)
      (λ f is n. run_right_lem _ f is (short f is) n (plays_file f is n))

  -- its number is one of the bench's,
  pub text_number : OfTheBench (play_of text).number
  unfolding ended
  text_number =
      of_text (λ p. OfTheBench p.number) (inr (inr (omega arith)))
      (λ f is n. let start : (start_in f).number ≤ 8 = start_most _ _ _ _ in inl (omega (arith, start)))
      (λ f is n. ⊎_elim (λ q. inl (omega arith)) (λ q. inr (inl (omega arith))) (plays_file f is n).ends)

  -- and 180,000 places are enough for its rows
  pub text_enough : enough (run_file_of text) most_places ≡ true
  unfolding enough
  text_enough = ⊎_elim (λ e. rw e.1 (go e.0 e.1 (eqb (start_in e.0).number 0))) (λ e. rw e) (either text)
    where
      go : (f : RunFile) → run_file_of text ≡ Ok f → (c : Bool) → (not c || leb (f.ticks.0 * (length f.tasks.firsts.items + 2)) most_places) ≡ true
      go f is false = refl
      go f is true =
          let wide : length f.tasks.firsts.items + 2 ≤ 18 = omega (arith, few f is) in
          let places : f.ticks.0 * (length f.tasks.firsts.items + 2) ≤ 10_000 * 18 = mul-le-mul (short f is) wide in
          le-leb (f.ticks.0 * (length f.tasks.firsts.items + 2)) most_places (omega (arith, places))
