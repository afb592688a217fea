-- A run tick by tick: what is still to come of it, from the tick at hand on, is what the whole of it comes to. The first tick, one turn of an accepted tick or of a refused one, and the end.
use mathlib.Core.Path.{◌≡◌, refl, sym, ap, ◌∙◌}
use mathlib.Core.Bool.{Bool, true, false, cond}
use mathlib.Core.List.{List, [], ◌∷◌, append_assoc}
use Prim.Native.Nat.{ℕ, suc, ◌+◌, ◌-◌, ◌*◌, ◌≤◌, ◌<◌}
use native.Mathlib.Nat.{mul-le-mul, le_refl, zero-mul}
use native.Mathlib.Omega.{arith}
use borrow.Author.Tests.{ne_eqb}
use borrow.Rule.Slice.PartMut.{put_mid, put_same, Post-is}
use lib.Dec.{eqb}
use lib.ListN.{length, get_or, take, drop, replicate, length-append, length-replicate}
use lib.Seq.{sets, length-sets, sets-eq}
use Rattle.units.specs.Units.{cycles}
use Rattle.rules.specs.declared.Tasks.{Tasks}
use Rattle.rules.specs.declared.State.{State}
use Rattle.rules.specs.Answers.{Ticked}
use Rattle.rules.specs.Words.{up_to}
use Rattle.rules.specs.Choice.{speed_place, speed_of}
use Rattle.rules.specs.Settlement.{settled}
use Rattle.rules.specs.Counting.{next_of}
use Rattle.rules.specs.Numbers.{tick_number}
use Rattle.rules.specs.Calls.{tick_of, grants_of}
use Rattle.rules.proofs.Lists.{length-up_to}
use Rattle.rules.proofs.CallRows.{tick_accepted}
use Rattle.words.proofs.Stores.{sets_append}
use Rattle.player.specs.Plays.{End, Play, report_of, tick_played, ended, before, play_from}
use Rattle.player.specs.Rows.{ending_of, row_of, rows_of}
use Rattle.player.specs.Parts.{past_tick}
use Rattle.player.proofs.TickRows.{number_is}
use Rattle.player.proofs.Cursor.{Stands, stands_first, stands_next}
use Rattle.player.proofs.Lines.{Lines}

-- numbers that come back in a part of a list are stored in it from the part's place on
pub lent_part : (d ys : List ℕ) (a e : ℕ) → a ≤ e → e ≤ length d → length ys ≡ e - a → put_mid a (e - a) d ys ≡ sets d a ys
lent_part d ys a e h l y =
    let end : a + length ys ≡ e = omega arith in
    rw (sets-eq ys d a (omega arith), end, Post-is a e d h) (sym (append_assoc (take a d) ys (drop e d)))

-- one tick more of a run: accepted, with its row in front of the others, or refused
module _ (ends : List End) (left : ℕ) (s : State) (r : Ticked) (told : r ≡ tick_of s (report_of ends s.tasks.count s.done.0) s.tasks.count) where
  pub play_on : r.number ≡ 0 → play_from ends (suc left) s ≡ before (tick_played s (report_of ends s.tasks.count s.done.0)) (play_from ends left r.state)
  unfolding play_from
  play_on e = rw (← told, e)

  pub play_stops : (r.number ≡ 0 → ⊥) → play_from ends (suc left) s ≡ ended r.number s
  unfolding play_from
  play_stops z = rw (← told, ne_eqb r.number 0 z)

-- an accepted tick is settled and counted by rules 4 and 5: t grows by 1, and the table stays
module _ (s : State) (report : List ℕ) (places : ℕ) (e : tick_number s report places ≡ 0) where
  pub after_is : next_of s (speed_place s) (settled s (speed_of s) report) ≡ (tick_of s report places).state
  after_is = ap (λ (x : Ticked). x.state) (tick_accepted s report places e)

  pub done_after : (tick_of s report places).state.done.0 ≡ s.done.0 + 1
  unfolding next_of
  done_after = sym (ap (λ (x : State). x.done.0) after_is)

  pub table_after : (tick_of s report places).state.tasks ≡ s.tasks
  unfolding next_of
  table_after = sym (ap (λ (x : State). x.tasks) after_is)

-- a row has a place for the speed, one for each task and one for the idle cycles
row_places : (s : State) (report : List ℕ) → length (row_of (tick_played s report)) ≡ s.tasks.count + 2
unfolding row_of tick_played grants_of
row_places s report = rw (length-append _ ((settled s (speed_of s) report).left.0 ∷ []), go _) (omega arith)
  where
    go : (b : Bool) → length (cond b (up_to s.tasks.count (λ i. (get_or (settled s (speed_of s) report).grants i (cycles 0)).0)) (replicate s.tasks.count 0)) ≡ s.tasks.count
    go true = length-up_to s.tasks.count _
    go false = length-replicate s.tasks.count 0

-- a run of so many ticks, from a state and a list of rows, at tick t: the cursor among the end lines, and what is still to come; tick t's row begins at t rows' places
pub record Going (ends : List End) (when : List ℕ) (run : ℕ) (first : State) (rows₀ : List ℕ) (s : State) (rows : List ℕ) (t next : ℕ) : Type 0 where
  pub done : s.done.0 ≡ t
  pub table : s.tasks ≡ first.tasks
  pub cursor : Stands (λ i. get_or when i 0) (length when) t next
  pub places : length rows ≡ length rows₀
  pub to_come : ending_of (play_from ends (run - t) s) ≡ ending_of (play_from ends run first)
  pub rows_to_come : sets rows (t * (first.tasks.count + 2)) (rows_of (play_from ends (run - t) s).ticks) ≡ sets rows₀ 0 (rows_of (play_from ends run first).ticks)

-- before its first tick all of it is to come
pub going_first : (ends : List End) (when : List ℕ) (run : ℕ) (first : State) (rows : List ℕ) → first.done.0 ≡ 0 → Going ends when run first rows first rows 0 0
going_first ends when run first rows fresh =
    let all : run - 0 ≡ run = omega arith in
    record {
      done = fresh;
      table = refl;
      cursor = stands_first (λ i. get_or when i 0) (length when);
      places = refl;
      to_come = rw all;
      rows_to_come = rw (all, zero-mul (first.tasks.count + 2));
    }

module _ (ends : List End) (when : List ℕ) (run : ℕ) (first : State) (rows₀ : List ℕ) (s : State) (rows : List ℕ) (t next : ℕ) (g : Going ends when run first rows₀ s rows t next) where
  -- where tick t's row begins
  abbrev at : ℕ
  at = t * (first.tasks.count + 2)

  -- after its last tick nothing is, and it ended with 0
  pub going_ends : run ≤ t → (record { number = 0; state = s } ≡ ending_of (play_from ends run first)) × (rows ≡ sets rows₀ 0 (rows_of (play_from ends run first).ticks))
  unfolding play_from ended ending_of rows_of
  going_ends h =
      let none : run - t ≡ 0 = omega arith in
      (rw none at g.to_come, rw none at g.rows_to_come)

  -- before it its next row has its places
  pub row_room : t < run → run * (first.tasks.count + 2) ≤ length rows₀ → at + (first.tasks.count + 2) ≤ length rows
  row_room h room =
      let one : (t + 1) * (first.tasks.count + 2) ≤ run * (first.tasks.count + 2) = mul-le-mul (omega arith) (le_refl _) in
      omega (arith, one, g.places)

  -- a tick of it, with its report and what came back in its row
  module _ (h : t < run) (entries : List ℕ) (is : entries ≡ report_of ends first.tasks.count t) (r : Ticked) (told : r ≡ tick_of s entries (length entries)) (row : List ℕ) (back : row ≡ cond (eqb (tick_of s entries (length entries)).number 0) (row_of (tick_played s entries)) (take (at + (first.tasks.count + 2) - at) (drop at rows))) where
    reported : entries ≡ report_of ends s.tasks.count s.done.0
    reported =
        is
        ∙ ap (λ (ts : Tasks). report_of ends ts.count t) (sym g.table)
        ∙ ap (report_of ends s.tasks.count) (sym g.done)

    as_many : length entries ≡ s.tasks.count
    unfolding report_of
    as_many = ap length reported ∙ length-up_to s.tasks.count _

    ticked : r ≡ tick_of s (report_of ends s.tasks.count s.done.0) s.tasks.count
    ticked = told ∙ rw (as_many, reported)

    one_more : run - t ≡ suc (run - (t + 1))
    one_more = omega arith

    -- refused: the run ends in the state at hand, and its row is as it was
    pub turn_refused : (r.number ≡ 0 → ⊥) → (record { number = r.number; state = s } ≡ ending_of (play_from ends run first)) × (put_mid at (at + (first.tasks.count + 2) - at) rows row ≡ sets rows₀ 0 (rows_of (play_from ends run first).ticks))
    unfolding ending_of ended rows_of
    turn_refused z =
        let stops : play_from ends (run - t) s ≡ ended r.number s = ap (λ k. play_from ends k s) one_more ∙ play_stops ends (run - (t + 1)) s r ticked z in
        let kept : row ≡ take (at + (first.tasks.count + 2) - at) (drop at rows) = back ∙ rw (← told, ne_eqb r.number 0 z) in
        (rw stops at g.to_come, rw kept (put_same at (at + (first.tasks.count + 2) - at) rows) ∙ rw stops at g.rows_to_come)

    -- accepted: its row is stored, and the rest is to come
    module _ (e : r.number ≡ 0) where
      row_is : row ≡ row_of (tick_played s entries)
      row_is = back ∙ rw (← told, e)

      goes_on : play_from ends (run - t) s ≡ before (tick_played s entries) (play_from ends (run - (t + 1)) r.state)
      goes_on =
          ap (λ k. play_from ends k s) one_more
          ∙ play_on ends (run - (t + 1)) s r ticked e
          ∙ ap (λ (l : List ℕ). before (tick_played s l) (play_from ends (run - (t + 1)) r.state)) (sym reported)

      row_long : length row ≡ first.tasks.count + 2
      row_long = ap length row_is ∙ row_places s entries ∙ ap (λ (ts : Tasks). ts.count + 2) g.table

      stored : run * (first.tasks.count + 2) ≤ length rows₀ → put_mid at (at + (first.tasks.count + 2) - at) rows row ≡ sets rows at (row_of (tick_played s entries))
      stored room =
          lent_part rows row at (at + (first.tasks.count + 2)) (omega arith) (row_room h room) (omega (arith, row_long))
          ∙ ap (sets rows at) row_is

      pub turn_accepted : run * (first.tasks.count + 2) ≤ length rows₀ → (who cycles : List ℕ) → Lines ends first.tasks.count when who cycles → (next' : ℕ) → next' ≡ past_tick when t next → Going ends when run first rows₀ r.state (put_mid at (at + (first.tasks.count + 2) - at) rows row) (t + 1) next'
      unfolding before ending_of rows_of
      turn_accepted room who cycles b next' past =
          let number : tick_number s entries (length entries) ≡ 0 = sym (number_is s entries (length entries)) ∙ sym (ap (λ (x : Ticked). x.number) told) ∙ e in
          let long : (t + 1) * (first.tasks.count + 2) ≡ at + length (row_of (tick_played s entries)) = omega (arith, row_places s entries, ap (λ (ts : Tasks). ts.count) g.table) in
          record {
            done = ap (λ (x : Ticked). x.state.done.0) told ∙ done_after s entries (length entries) number ∙ ap (λ n. n + 1) g.done;
            table = ap (λ (x : Ticked). x.state.tasks) told ∙ table_after s entries (length entries) number ∙ g.table;
            cursor = rw past (stands_next when (λ i. get_or who i 0) b.rise t next g.cursor);
            places = ap length (stored room) ∙ length-sets rows at (row_of (tick_played s entries)) ∙ g.places;
            to_come = sym (ap ending_of goes_on) ∙ g.to_come;
            rows_to_come =
                ap (λ (l : List ℕ). sets l ((t + 1) * (first.tasks.count + 2)) (rows_of (play_from ends (run - (t + 1)) r.state).ticks)) (stored room)
                ∙ ap (λ k. sets (sets rows at (row_of (tick_played s entries))) k (rows_of (play_from ends (run - (t + 1)) r.state).ticks)) long
                ∙ sets_append (row_of (tick_played s entries)) (rows_of (play_from ends (run - (t + 1)) r.state).ticks) rows at
                ∙ sym (ap (λ (p : Play). sets rows at (rows_of p.ticks)) goes_on)
                ∙ g.rows_to_come;
          }
