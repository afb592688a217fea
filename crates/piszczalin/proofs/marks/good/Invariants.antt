-- `good` tells by the highest byte: where it is a mark and the rest are marks, all are.
use mathlib.Core.Path.{◌≡◌}
use Rattle.rules.specs.Words.{every}
use Rattle.piszczalin.specs.Plain.{is_mark}
use Rattle.piszczalin.proofs.MarkLaws.{highest_good}
use Rattle.piszczalin.proofs.marks.good.Given as goal

abbrev pub invariant-loop-mark : goal.invariant-loop-mark
invariant-loop-mark l = every is_mark l.fn.marks ≡ highest_good l.fn.marks l.highest l.mark-index
