-- `overs` turns the marks place by place: what is turned and the rest turned behind it are the marks turned.
use mathlib.Core.Path.{◌≡◌}
use mathlib.Core.List.{map}
use lib.ListN.{length}
use Rattle.piszczalin.specs.Plain.{over_of}
use Rattle.piszczalin.proofs.MarkLaws.{turned}
use Rattle.piszczalin.proofs.marks.overs.Given as goal

abbrev pub invariant-loop-i : goal.invariant-loop-i
invariant-loop-i l = (length l.over ≡ 16) × (turned over_of l.marks l.over l.i ≡ map over_of l.marks)
