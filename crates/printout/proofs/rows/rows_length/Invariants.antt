-- `rows_length` adds up row by row: what it has and the lines left are all of them.
use mathlib.Core.Path.{◌≡◌}
use Prim.Native.Nat.{◌+◌}
use lib.ListN.{length}
use Rattle.printout.specs.Parts.{row_lines}
use Rattle.printout.proofs.RowLines.{lines_left}
use Rattle.printout.proofs.rows.rows_length.Given as goal

abbrev pub invariant-loop-t : goal.invariant-loop-t
invariant-loop-t l = l.bytes + length (lines_left l.fn.rows.width l.fn.rows.ticks.0 l.fn.rows.numbers.now l.t) ≡ length (row_lines l.fn.rows.width l.fn.rows.ticks.0 0 l.fn.rows.numbers.now)
