-- What play answers in each of its cases, over plain values: a text that is no run file, a start that refuses, no room, and a run played. By the tests that its definition makes.
use mathlib.Core.Path.{◌≡◌, refl, sym, ap, subst, ◌∙◌}
use mathlib.Core.List.{List}
use mathlib.Core.Logic.{⊎_elim}
use Prim.Native.Nat.{ℕ, ◌+◌, ◌*◌, ◌≤◌, ◌<◌}
use native.Mathlib.Nat.{mul-le-mul}
use native.Mathlib.Omega.{arith}
use borrow.Author.Tests.{ne_eqb, le-leb, lt-leb}
use mir.Syntax.{w64}
use mir.Val.{Fits}
use Rattle.std.specs.Prelude.{Some, None, Ok, Err}
use lib.ListN.{length}
use lib.Seq.{sets}
use Rattle.refusals.specs.declared.Refusal.{Refusal}
use Rattle.refusals.specs.declared.Refusal.TheVariants.{NoRunFile}
use Rattle.refusals.specs.Refusals.{number_of}
use Rattle.rules.specs.Answers.{Started}
use Rattle.rules.specs.declared.State.{State}
use Rattle.rules.specs.Admission.{great_of}
use Rattle.rules.specs.Calls.{tasks_from, ladder_from, fresh_state}
use Rattle.rules.specs.Calls.{started_by}
use Rattle.rules.proofs.CallRows.{start_is}
use Rattle.rules.proofs.Answered.{number-not_0}
use Rattle.runfile.specs.declared.RunFile.{RunFile}
use Rattle.runfile.specs.RunFile.{run_file_of}
use Rattle.runfile.specs.Good.{GoodEnds, GoodFile}
use Rattle.runfile.proofs.Good.{either, good_file}
use Rattle.player.specs.declared.Played.{Played}
use Rattle.player.specs.Plays.{ends_of, ends_in, ended, start_in, play_from, play_file, play_read, play_of}
use Rattle.player.specs.Rows.{rows_of, enough, ending_of, played_of, rows_in, ending_by, played_by}
use Rattle.player.specs.Parts.{unplayed_as, Runnable}

module _ (text rows : List ℕ) where
  -- no run file
  pub no_file : (r : Refusal) → Err r ≡ run_file_of text → (played_by (Some (unplayed_as r)) ≡ played_of text (length rows)) × (rows ≡ rows_in text rows)
  unfolding unplayed_as played_of played_by ending_by ending_of rows_in enough play_of play_read ended rows_of
  no_file r read = rw (← read, number) (refl, refl)
    where
      number : number_of r ≡ 14
      number =
          ⊎_elim (λ e. let z = e.1 in cc)
          (λ e. let same : Err r ≡ Err NoRunFile = read ∙ e in let q : r ≡ NoRunFile = cc in ap number_of q)
          (either text)

  -- a run file: it keeps what a run asks for
  module _ (f : RunFile) (read : Ok f ≡ run_file_of text) where
    pub good : GoodFile f
    good = good_file text f (sym read)

    -- start refuses its table
    pub no_start : (r : Refusal) → started_by (Err r) ≡ start_in f → (played_by (Some (unplayed_as r)) ≡ played_of text (length rows)) × (rows ≡ rows_in text rows)
    unfolding unplayed_as played_of played_by ending_by ending_of rows_in enough play_of play_read play_file started_by ended rows_of
    no_start r told = rw (← read, ← told, ne_eqb (number_of r) 0 (number-not_0 r)) (refl, refl)

    -- it takes it: the table at tick 0
    module _ (s : State) (told : started_by (Ok s) ≡ start_in f) where
      accepted : s ≡ fresh_state (tasks_from (great_of f.tasks.firsts.items) f.tasks.firsts.items f.tasks.seconds.items) (ladder_from f.speeds.firsts.items f.speeds.seconds.items)
      unfolding started_by
      accepted =
          ap (λ (x : Started). x.state) told ∙ start_is _ _ _ _ (sym (ap (λ (x : Started). x.number) told))

      -- without room for its rows
      pub no_room : length rows < f.ticks.0 * (length f.tasks.firsts.items + 2) → (played_by None ≡ played_of text (length rows)) × (rows ≡ rows_in text rows)
      unfolding played_of played_by rows_in enough started_by
      no_room h = rw (← read, ← told, lt-leb _ _ h) (refl, refl)

      -- and with it
      module _ (h : f.ticks.0 * (length f.tasks.firsts.items + 2) ≤ length rows) where
        pub all_played : (p : Played) (rows' : List ℕ) → ending_by p ≡ ending_of (play_from (ends_of f.ends.items) f.ticks.0 s) → rows' ≡ sets rows 0 (rows_of (play_from (ends_of f.ends.items) f.ticks.0 s).ticks) → (played_by (Some p) ≡ played_of text (length rows)) × (rows' ≡ rows_in text rows)
        unfolding played_of played_by rows_in enough play_of play_read play_file ends_in started_by
        all_played p rows' a b = rw (← read, ← told, le-leb _ _ h) (ap Some a, b)

        pub runnable : Runnable s f.ends.items f.ticks.0 (length rows)
        unfolding fresh_state tasks_from
        runnable =
            let known : s.tasks.count ≡ length f.tasks.firsts.items = ap (λ (x : State). x.tasks.count) accepted ∙ refl in
            record {
              fresh = ap (λ (x : State). x.done.0) accepted;
              few = omega (arith, known, good.tasks.few);
              ends = subst (λ (n : ℕ). GoodEnds n f.ends.items) (sym known) good.ends;
              room = rw known h;
            }

    -- the number of its rows' places fits
    pub needed_fits : Fits w64 (f.ticks.0 * (length f.tasks.firsts.items + 2))
    needed_fits =
        let wide : length f.tasks.firsts.items + 2 ≤ 18 = omega (arith, good.tasks.few) in
        let most : f.ticks.0 * (length f.tasks.firsts.items + 2) ≤ 10000 * 18 = mul-le-mul good.ticks wide in
        record { fits = omega (arith, most) }
