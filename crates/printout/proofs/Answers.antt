-- What callers use of print's answer: the bytes that it tells of lie within the buffer.
use Prim.Native.Nat.{ℕ, ◌≤◌}
use mathlib.Core.Path.{◌≡◌, refl, sym}
use mathlib.Core.Bool.{Bool, true, false, cond}
use mathlib.Core.List.{List}
use native.Mathlib.Omega.{arith}
use borrow.Author.Tests.{leb-true}
use lib.Dec.{leb}
use lib.ListN.{length}
use Rattle.std.specs.Prelude.{Some, None}
use Rattle.printout.specs.Print.{printed_of}

by_room : (n places m : ℕ) (b : Bool) → leb n places ≡ b → cond b (Some n) None ≡ Some m → m ≤ places
by_room n places m true h e = let q : n ≡ m = cc in omega (arith, leb-true n places h)
by_room n places m false h e = let z : ◌≡◌ {A = ℕ} 0 1 = cc in omega arith

-- as many bytes as print tells of lie within the buffer
pub printed_within : (bytes : List ℕ) (places m : ℕ) → Some m ≡ printed_of bytes places → m ≤ places
unfolding printed_of
printed_within bytes places m e = by_room (length bytes) places m (leb (length bytes) places) refl (sym e)
