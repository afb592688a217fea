-- `put_fields` puts field by field: the fields left, put where the loop stands, are all of them put.
use mathlib.Core.Path.{◌≡◌}
use Prim.Native.Nat.{◌+◌}
use lib.ListN.{length, drop}
use lib.Seq.{sets}
use Rattle.printout.specs.Print.{fields_of}
use Rattle.printout.proofs.rows.put_fields.Given as goal

abbrev pub invariant-loop-value : goal.invariant-loop-value
invariant-loop-value l = record {
  place_left : l.place + length (fields_of (drop l.value-index l.values)) ≡ l.at + length (fields_of l.values);
  out_left : sets l.out l.place (fields_of (drop l.value-index l.values)) ≡ sets l.initial.out l.at (fields_of l.values);
}
