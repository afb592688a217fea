-- `put_rows` puts row by row: the lines left, put where the loop stands, are all of them put.
use mathlib.Core.Path.{◌≡◌}
use Prim.Native.Nat.{◌+◌}
use lib.ListN.{length}
use lib.Seq.{sets}
use Rattle.printout.specs.Parts.{row_lines}
use Rattle.printout.proofs.RowLines.{lines_left}
use Rattle.printout.proofs.rows.put_rows.Given as goal

abbrev pub invariant-loop-t : goal.invariant-loop-t
invariant-loop-t l = record {
  place_left : l.place + length (lines_left l.fn.rows.width l.fn.rows.ticks.0 l.fn.rows.numbers.now l.t) ≡ length (row_lines l.fn.rows.width l.fn.rows.ticks.0 0 l.fn.rows.numbers.now);
  out_left : sets l.out l.place (lines_left l.fn.rows.width l.fn.rows.ticks.0 l.fn.rows.numbers.now l.t) ≡ sets l.initial.out 0 (row_lines l.fn.rows.width l.fn.rows.ticks.0 0 l.fn.rows.numbers.now);
}
