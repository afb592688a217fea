-- `marks_of` turns the bools place by place: what is turned and the rest turned behind it are the bools turned.
use mathlib.Core.Path.{◌≡◌}
use mathlib.Core.List.{map}
use lib.ListN.{length}
use Rattle.piszczalin.specs.Plain.{mark_of}
use Rattle.piszczalin.proofs.MarkLaws.{turned}
use Rattle.piszczalin.proofs.marks.marks_of.Given as goal

abbrev pub invariant-loop-i : goal.invariant-loop-i
invariant-loop-i l = (length l.marks ≡ 16) × (turned mark_of l.over l.marks l.i ≡ map mark_of l.over)
