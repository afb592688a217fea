-- What print asks of a play: its rows in a list of 180,000 places, which are always enough, can be rendered, and so they are the printout of the text. From the laws about plays and that no printout is longer than 1,500,200 bytes.
use mathlib.Core.Path.{◌≡◌, ap, ◌∙◌}
use mathlib.Core.Bool.{true}
use mathlib.Core.List.{List, ◌++◌}
use Prim.Native.Nat.{ℕ, ◌+◌, ◌≤◌}
use native.Mathlib.Nat.{zero-add, mul-le-mul}
use native.Mathlib.Omega.{arith}
use lib.ListN.{length, drop}
use lib.Seq.{sets-eq, length-sets}
use Rattle.runfile.specs.RunFile.{run_file_of}
use Rattle.std.specs.Prelude.{Option, Some, None}
use Rattle.player.specs.declared.Played.{Played}
use Rattle.player.specs.Plays.{Play, play_of}
use Rattle.player.specs.Rows.{Ending, rows_of, enough, ending_of, played_of, rows_in, number_in, ending_by, played_by}
use Rattle.played.specs.Promised.{most_places}
use Rattle.played.proofs.TextLaws.{text_right, text_enough}
use Rattle.printout.specs.Print.{print_of}
use Rattle.printout.specs.Largest.{NeverLonger}
use Rattle.printout.specs.Parts.{Summed, rendered, Renderable}
use Rattle.printout.proofs.TickLines.{rendered_is}
use Rattle.printout.proofs.Largest.{never_longer}

module _ (text table : List ℕ) (places : length table ≡ most_places) where
  -- the play of a text, and its rows one after the other
  abbrev play : Play
  play = play_of text

  has_room : enough (run_file_of text) (length table) ≡ true
  has_room = ap (enough (run_file_of text)) places ∙ text_enough text

  -- its rows fit
  rows_fit : length (rows_of play.ticks) ≤ length table
  rows_fit =
      let r = text_right text in
      let wide : play.state.tasks.count + 2 ≤ 18 = omega (arith, r.tasks_most) in
      omega (arith, r.rows_long, mul-le-mul r.ticks_most wide)

  -- the list has the rows in front, and its length
  long_as_before : length (rows_in text table) ≡ length table
  unfolding rows_in
  long_as_before = rw has_room (length-sets table 0 (rows_of play.ticks))

  in_front_lem : rows_in text table ≡ rows_of play.ticks ++ drop (length (rows_of play.ticks)) table
  unfolding rows_in
  in_front_lem = rw has_room (rw (sets-eq (rows_of play.ticks) table 0 (omega (arith, rows_fit)), zero-add (length (rows_of play.ticks))))

  -- so its text is the printout
  text_is : rendered play.number play.state (rows_in text table) ≡ print_of text
  unfolding print_of
  text_is =
      ap (rendered play.number play.state) in_front_lem
      ∙ rendered_is play (drop (length (rows_of play.ticks)) table) (text_right text).done (text_right text).ticks_right

  -- and it can be rendered
  can_render : Renderable play.number play.state (rows_in text table)
  unfolding Summed rendered NeverLonger
  can_render =
      let r = text_right text in
      record {
        summed = r.is_sound;
        all = record {
          there = rw (long_as_before, r.done, ← r.rows_long) rows_fit;
          narrow = omega (arith, r.tasks_most);
          few = omega (arith, r.done, r.ticks_most);
          short = rw text_is (never_longer text);
        };
      }

  -- what play answers for such a list
  played_is : played_of text (length table) ≡ Some (ending_of play)
  unfolding played_of
  played_is = rw has_room

  -- there was room for it
  pub room_there : played_by None ≡ played_of text (length table) → ⊥
  unfolding played_by
  room_there e = let none : ◌≡◌ {A = Option Ending} None (Some (ending_of play)) = e ∙ played_is in cc

  -- and what it answered, with what it left in the list, can be rendered, and that is the printout
  pub ready : (p : Played) → played_by (Some p) ≡ played_of text (length table) → (rows : List ℕ) → rows ≡ rows_in text table → Renderable (number_in p.refusal) p.state rows × (rendered (number_in p.refusal) p.state rows ≡ print_of text)
  unfolding played_by ending_by ending_of
  ready p e rows f =
      let told : ◌≡◌ {A = Option Ending} (Some (ending_by p)) (Some (ending_of play)) = e ∙ played_is in
      let same : ending_by p ≡ ending_of play = cc in
      let number : number_in p.refusal ≡ play.number = ap (λ (x : Ending). x.number) same in
      let state : p.state ≡ play.state = ap (λ (x : Ending). x.state) same in
      rw (f, number, state) (can_render, text_is)
