-- The task or speed lines that `pairs` reads: what the whole group is from the first line on, it is from the next line on with those read so far.
use Rattle.std.proofs.Common.{◌≡◌, ◌-◌, ◌^◌, ◌≤◌, ◌<◌, length}
use Rattle.runfile.specs.Groups.{no_pairs, pairs_from}
use Rattle.runfile.proofs.groups.pairs.Given as goal

abbrev pub invariant-loop-firsts : goal.invariant-loop-firsts
invariant-loop-firsts l =
    record {
      few : length l.firsts.items ≤ l.most;
      both : length l.seconds.items ≡ length l.firsts.items;
      rest : pairs_from l.word l.text l.most l.at no_pairs ≡ pairs_from l.word l.text (l.most - length l.firsts.items) l.next (record { firsts = l.firsts; seconds = l.seconds });
      place : l.next < 2 ^ 64;
    }

abbrev pub decreases-loop-firsts : goal.decreases-loop-firsts
decreases-loop-firsts l = l.most - length l.firsts.items
