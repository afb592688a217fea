-- A run from a sound state on: it stays sound, counts its ticks, and only an entry that breaks rule 4 ends it early. By induction on the ticks to go.
use mathlib.Core.Path.{◌≡◌, refl, sym, ap, ◌∙◌}
use mathlib.Core.Bool.{Bool, true, false}
use mathlib.Core.List.{List, [], ◌∷◌}
use mathlib.Core.Logic.{◌⊎◌, inl, inr, ⊎_elim}
use Prim.Native.Nat.{ℕ, zero, suc, ◌+◌, ◌*◌, ◌≤◌, ◌<◌}
use native.Mathlib.Nat.{suc-mul, zero-mul, not-suc-le-zero}
use native.Mathlib.Omega.{arith}
use lib.ListN.{length, get_or, length-append}
use Rattle.units.specs.Units.{cycles}
use Rattle.units.specs.declared.Cycles.{Cycles}
use Rattle.rules.specs.declared.State.{State}
use Rattle.rules.specs.Answers.{Ticked}
use Rattle.rules.specs.Words.{total}
use Rattle.rules.specs.Limits.{most_ticks}
use Rattle.rules.specs.State.{Shaped, count_at}
use Rattle.rules.specs.Choice.{speed_place, speed_of}
use Rattle.rules.specs.Settlement.{settled, keeps_rule4}
use Rattle.rules.specs.Counting.{counted, next_of}
use Rattle.rules.specs.Numbers.{sound, tick_number}
use Rattle.rules.specs.Calls.{tick_of}
use Rattle.rules.proofs.Lists.{length-up_to}
use Rattle.rules.proofs.Totals.{total-set}
use Rattle.rules.proofs.Settles.{grants_sum}
use Rattle.rules.proofs.Soundness.{Sound, sound_facts}
use Rattle.rules.proofs.Loads.{some_carries, place_below}
use Rattle.rules.proofs.CallRows.{accepted, not_all_done, tick_0, tick_13}
use Rattle.rules.proofs.Keeps.{tick_sound, tick_shaped}
use Rattle.player.specs.Plays.{End, Tick, Play, entry_of, report_of, tick_played, ended, before, play_from}
use Rattle.player.specs.Rows.{row_of, rows_of}
use Rattle.player.proofs.TickRows.{number_is}
use Rattle.player.proofs.Runs.{play_on, play_stops, after_is, done_after, table_after}
use Rattle.played.specs.Promised.{TickRight, EachTick, granted_in, counted_in, PlaysOn}
use Rattle.played.proofs.TickShares.{played_total, tick_right}

-- a report has an entry for each task
pub report_long : (ends : List End) (n t : ℕ) → length (report_of ends n t) ≡ n
unfolding report_of
report_long ends n t = length-up_to n (λ i. entry_of ends t (suc i))

-- the row of a right tick has n + 2 numbers
row_long : (n : ℕ) (x : Tick) → TickRight n x → length (row_of x) ≡ n + 2
unfolding row_of
row_long n x r = omega (arith, length-append x.grants (x.idle ∷ []), r.one_each)

-- and so has each row of many
pub rows_are_long : (n : ℕ) (xs : List Tick) → EachTick (TickRight n) xs → length (rows_of xs) ≡ length xs * (n + 2)
unfolding rows_of
rows_are_long n [] r = sym (zero-mul (n + 2))
rows_are_long n (x ∷ xs) r =
    omega (arith, length-append (row_of x) (rows_of xs), row_long n x r.0, rows_are_long n xs r.1, suc-mul (length xs) (n + 2))

-- one tick of a run
module _ (ends : List End) (s : State) where
  -- the report of its end lines, tick's answer to it, and the number of that
  abbrev pub report_now : List ℕ
  report_now = report_of ends s.tasks.count s.done.0

  abbrev pub answer : Ticked
  answer = tick_of s report_now s.tasks.count

  abbrev pub number_now : ℕ
  number_now = tick_number s report_now s.tasks.count

  -- met by a sound state before all ticks are done it is accepted or refused with 13: report and grants list have the right length, and some speed carries the load
  pub tick_either : sound s ≡ true → s.done.0 < most_ticks → (number_now ≡ 0) ⊎ (number_now ≡ 13)
  tick_either e room = go (keeps_rule4 s (speed_of s) report_now) refl
    where
      go : (b : Bool) → keeps_rule4 s (speed_of s) report_now ≡ b → (number_now ≡ 0) ⊎ (number_now ≡ 13)
      go true k = inl (tick_0 s report_now s.tasks.count e (not_all_done s room) (report_long ends s.tasks.count s.done.0) refl (some_carries s (sound_facts s e)) k)
      go false k = inr (tick_13 s report_now s.tasks.count e (not_all_done s room) (report_long ends s.tasks.count s.done.0) refl (some_carries s (sound_facts s e)) k)

  -- accepted, it is settled and counted by rules 4 and 5
  pub answer_is : number_now ≡ 0 → answer.state ≡ next_of s (speed_place s) (settled s (speed_of s) report_now)
  answer_is e = sym (after_is s report_now s.tasks.count e)

  -- so t grows by 1
  pub done_next : number_now ≡ 0 → answer.state.done.0 ≡ s.done.0 + 1
  done_next e = done_after s report_now s.tasks.count e

  -- and the table stays: its tasks and its speeds
  pub tasks_next : number_now ≡ 0 → answer.state.tasks ≡ s.tasks
  tasks_next e = table_after s report_now s.tasks.count e

  pub ladder_next : number_now ≡ 0 → answer.state.ladder ≡ s.ladder
  unfolding next_of
  ladder_next e = ap (λ (n : State). n.ladder) (answer_is e)

  -- what it grants and what stays idle is counted
  module _ (shape : Shaped s) (e : number_now ≡ 0) where
    counted_next : counted_in answer.state ≡ counted_in s + granted_in (tick_played s report_now)
    unfolding next_of counted count_at
    counted_next =
        let f : Sound s = (accepted s report_now s.tasks.count e).is_sound in
        let outcome = settled s (speed_of s) report_now in
        let sum = total-set (λ (c : Cycles). c.0) s.tally.counts (speed_place s) (cycles ((get_or s.tally.counts (speed_place s) (cycles 0)).0 + grants_sum outcome)) (cycles 0) (omega (arith, shape.counts, place_below s f, f.speeds_most)) in
        ap counted_in (answer_is e) ∙ omega (arith, sum, played_total s shape report_now e)

    idle_next : answer.state.tally.idle.0 ≡ s.tally.idle.0 + (tick_played s report_now).idle
    unfolding next_of counted tick_played
    idle_next = ap (λ (n : State). n.tally.idle.0) (answer_is e)

  -- a run that ends here is as promised, where it has no tick to go or was refused with 13
  ends_here : (left number : ℕ) → ((number ≡ 0) × (0 ≡ left)) ⊎ (number ≡ 13) → sound s ≡ true → Shaped s → PlaysOn s left (ended number s)
  unfolding ended rows_of total
  ends_here left number why e shape =
      record {
        is_sound = e;
        is_shaped = shape;
        same_tasks = refl;
        same_ladder = refl;
        done = omega arith;
        no_more = omega arith;
        ends = why;
        ticks_right = tt;
        rows_long = sym (zero-mul (s.tasks.count + 2));
        granted_all = omega arith;
        idle_all = omega arith;
      }

  -- and so is one that goes on with an accepted tick, where the rest is
  goes_on : (left : ℕ) (p : Play) → Shaped s → number_now ≡ 0 → PlaysOn answer.state left p → PlaysOn s (suc left) (before (tick_played s report_now) p)
  unfolding before total
  goes_on left p shape e rest =
      let right : EachTick (TickRight s.tasks.count) (tick_played s report_now ∷ p.ticks) =
      (tick_right s shape report_now e, rw (tasks_next e) at rest.ticks_right) in
      record {
        is_sound = rest.is_sound;
        is_shaped = rest.is_shaped;
        same_tasks = rest.same_tasks ∙ tasks_next e;
        same_ladder = rest.same_ladder ∙ ladder_next e;
        done = omega (arith, rest.done, done_next e);
        no_more = omega (arith, rest.no_more);
        ends = ⊎_elim (λ q. inl (q.0, ap suc q.1)) inr rest.ends;
        ticks_right = right;
        rows_long = rows_are_long s.tasks.count (tick_played s report_now ∷ p.ticks) right;
        granted_all = omega (arith, rest.granted_all, counted_next shape e);
        idle_all = omega (arith, rest.idle_all, idle_next shape e);
      }

-- A run from a sound state on: what holds with no tick to go, with a refused tick, and with an accepted tick in front of the rest where it holds of the rest.
module _ (ends : List End) (Q : ℕ → State → Play → Type 0)
    (none : (s : State) → sound s ≡ true → Shaped s → Q 0 s (ended 0 s))
    (stop : (left : ℕ) (s : State) → sound s ≡ true → Shaped s → number_now ends s ≡ 13 → Q (suc left) s (ended 13 s))
    (more : (left : ℕ) (s : State) (p : Play) → Shaped s → number_now ends s ≡ 0 → Q left (answer ends s).state p → Q (suc left) s (before (tick_played s (report_now ends s)) p))
  where
    pub by_ticks : (left : ℕ) (s : State) → sound s ≡ true → Shaped s → s.done.0 + left ≤ most_ticks → Q left s (play_from ends left s)
    unfolding play_from
    by_ticks zero s e shape room = none s e shape
    by_ticks (suc left) s e shape room = go (tick_either ends s e (omega arith)) (by_ticks left (answer ends s).state)
      where
        go : (number_now ends s ≡ 0) ⊎ (number_now ends s ≡ 13) → (sound (answer ends s).state ≡ true → Shaped (answer ends s).state → (answer ends s).state.done.0 + left ≤ most_ticks → Q left (answer ends s).state (play_from ends left (answer ends s).state)) → Q (suc left) s (play_from ends (suc left) s)
        go (inl n) rest =
            rw (play_on ends left s (answer ends s) refl (number_is s (report_now ends s) s.tasks.count ∙ n))
            (more left s (play_from ends left (answer ends s).state) shape n
            (rest (tick_sound s (report_now ends s) s.tasks.count shape n) (tick_shaped s (report_now ends s) s.tasks.count shape n) (omega (arith, done_next ends s n))))
        go (inr n) rest =
            let told : (answer ends s).number ≡ 13 = number_is s (report_now ends s) s.tasks.count ∙ n in
            rw (play_stops ends left s (answer ends s) refl (λ z. not-suc-le-zero {n = 12} (omega (arith, told, z))), told) (stop left s e shape n)

-- so every such run is as promised
pub plays_on : (ends : List End) (left : ℕ) (s : State) → sound s ≡ true → Shaped s → s.done.0 + left ≤ most_ticks → PlaysOn s left (play_from ends left s)
plays_on ends =
    by_ticks ends (λ left s p. PlaysOn s left p)
    (λ s e shape. ends_here ends s 0 0 (inl (refl, refl)) e shape)
    (λ left s e shape n. ends_here ends s (suc left) 13 (inr refl) e shape)
    (λ left s p shape n rest. goes_on ends s left p shape n rest)
