-- `print` plays into a table that is always long enough, and renders what was played: that is the printout of the text.
use Prim.Native.Nat.{ℕ}
use lib.ListN.{replicate, length-replicate}
use Rattle.printout.proofs.Printing.{room_there, ready}
use Rattle.printout.proofs.print.Goals as goal

pub returns-in_err-played : goal.returns-in_err-played
returns-in_err-played c = absurd (room_there c.args.text.now (replicate 180000 0) (length-replicate {A = ℕ} 180000 0) c.in_err-played.ensures.0)

pub render-requires : goal.render-requires
render-requires c = (ready c.args.text.now (replicate 180000 0) (length-replicate {A = ℕ} 180000 0) c.in_ok-played.played c.in_ok-played.ensures.0 c.play.new.rows c.in_ok-played.ensures.1).0

pub returns : goal.returns
returns c =
    rw (ready c.args.text.now (replicate 180000 0) (length-replicate {A = ℕ} 180000 0) c.in_ok-played.played c.in_ok-played.ensures.0 c.play.new.rows c.in_ok-played.ensures.1).1 at c.render.ensures
