-- The end lines that `ends` reads: what they are from the first line on, they are from the next line on with those read so far.
use Rattle.std.proofs.Common.{◌≡◌, ◌-◌, ◌^◌, ◌≤◌, ◌<◌, length}
use Rattle.runfile.specs.Groups.{most_end_lines, no_ends, ends_from}
use Rattle.runfile.proofs.groups.ends.Given as goal

abbrev pub invariant-loop-before : goal.invariant-loop-before
invariant-loop-before l =
    record {
      few : length l.ends.items ≤ most_end_lines;
      rest : ends_from l.text l.known most_end_lines l.at 0 0 no_ends ≡ ends_from l.text l.known (most_end_lines - length l.ends.items) l.next l.before.tick.0 l.before.task l.ends;
      place : l.next < 2 ^ 64;
    }

abbrev pub decreases-loop-before : goal.decreases-loop-before
decreases-loop-before l = most_end_lines - length l.ends.items
