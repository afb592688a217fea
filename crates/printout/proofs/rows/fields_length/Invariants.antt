-- `fields_length` adds up field by field: what it has and the fields left are all of them.
use mathlib.Core.Path.{◌≡◌}
use Prim.Native.Nat.{◌+◌}
use lib.ListN.{length, drop}
use Rattle.printout.specs.Print.{fields_of}
use Rattle.printout.proofs.rows.fields_length.Given as goal

abbrev pub invariant-loop-value : goal.invariant-loop-value
invariant-loop-value l = l.bytes + length (fields_of (drop l.value-index l.values)) ≡ length (fields_of l.values)
