-- What end lines keep while they are read: how many they are, the arrays' lengths, and that each is good after the one before. By the number of lines that may still be read.
use mathlib.Core.Path.{◌≡◌, refl, sym, ap, subst}
use mathlib.Core.Bool.{Bool, true, false, cond}
use mathlib.Core.List.{List, [], ◌∷◌}
use mathlib.Core.Logic.{◌⊎◌, inl, inr, ⊎_elim}
use Prim.Native.Nat.{ℕ, zero, suc, ◌+◌, ◌≤◌, ◌<◌}
use native.Mathlib.Nat.{not-suc-le-zero}
use native.Mathlib.Omega.{arith}
use borrow.Author.Tests.{ltb-true, ltb-false}
use lib.Dec.{ltb}
use lib.ListN.{length, length-append, get_or-append}
use Rattle.std.proofs.lemmas.List.{get_or_at}
use Rattle.units.specs.Units.{ticks, cycles}
use Rattle.runfile.specs.declared.End.{End}
use Rattle.words.specs.Words.{stands_at}
use Rattle.std.specs.Prelude.{Option, Some, None}
use Rattle.lines.specs.declared.EndLine.{EndLine}
use Rattle.lines.specs.Lines.{end_word, end_at}
use Rattle.runfile.specs.declared.groups.EndsRead.{EndsRead}
use Rattle.runfile.specs.declared.ends.Ends.{Ends}
use Rattle.runfile.specs.Groups.{most_end_lines, no_ends, more_ends, ends_read, end_good, with_end, ends_from}
use Rattle.runfile.specs.Good.{Rises, end_of, GoodEnds}
use Rattle.runfile.proofs.Rising.{good_line}

-- end lines that are good, with room for `left` more, the last of tick `earlier` and task `former`
pub record Risen (known earlier former left : ℕ) (e : Ends) : Type 0 where
  pub room : length e.items + left ≤ most_end_lines
  pub lines : GoodEnds known e.items
  pub last : (k : ℕ) → k + 1 ≡ length e.items → ((end_of e.items k).tick.0 ≡ earlier) × ((end_of e.items k).task ≡ former)

-- none read yet
pub risen_none : (known earlier former : ℕ) → Risen known earlier former most_end_lines no_ends
unfolding no_ends
risen_none known earlier former =
    record {
      room = omega arith;
      lines = record {
        few = omega arith;
        rise = λ k h. absurd (not-suc-le-zero h);
        exists = λ k h. absurd (not-suc-le-zero h);
        used = λ k h. absurd (not-suc-le-zero h);
      };
      last = λ k h. absurd (not-suc-le-zero {n = 0} (omega arith));
    }

-- a place below n + 1 is below n, or is n
below_or_at : (k n : ℕ) → k < n + 1 → (k < n) ⊎ (k ≡ n)
below_or_at k n h = go (ltb k n) refl
  where
    go : (b : Bool) → ltb k n ≡ b → (k < n) ⊎ (k ≡ n)
    go true e = inl (ltb-true k n e)
    go false e = inr (omega (arith, ltb-false k n e))

module _ (e : Ends) (tick task used : ℕ) where
  -- one line more: the lines before it are as they were
  below_same : (k : ℕ) → k < length e.items → end_of (more_ends e tick task used).items k ≡ end_of e.items k
  unfolding more_ends
  below_same k h = get_or-append e.items (record { tick = ticks tick; task = task; cycles = cycles used } ∷ []) _ k h

  -- and the last is the new one
  last_new : (k : ℕ) → k ≡ length e.items → end_of (more_ends e tick task used).items k ≡ record { tick = ticks tick; task = task; cycles = cycles used }
  unfolding more_ends
  last_new k h = get_or_at e.items (record { tick = ticks tick; task = task; cycles = cycles used }) [] _ k (sym h)

  -- so there is one more
  one_more : length (more_ends e tick task used).items ≡ length e.items + 1
  unfolding more_ends
  one_more = length-append e.items (record { tick = ticks tick; task = task; cycles = cycles used } ∷ [])

module _ (known earlier former left : ℕ) (e : Ends) (w : Risen known earlier former (suc left) e) (tick task cycles : ℕ) (g : end_good known earlier former tick task cycles ≡ true) where
  more : Ends
  more = more_ends e tick task cycles

  -- the new line rises above the last, and the others as they did
  rises_more : (k : ℕ) → k + 1 < length e.items + 1 → Rises (end_of more.items k).tick.0 (end_of more.items k).task (end_of more.items (k + 1)).tick.0 (end_of more.items (k + 1)).task
  unfolding more
  rises_more k h = rw (below_same e tick task cycles k (omega arith)) (⊎_elim old new (below_or_at (k + 1) (length e.items) h))
    where
      old : k + 1 < length e.items → Rises (end_of e.items k).tick.0 (end_of e.items k).task (end_of more.items (k + 1)).tick.0 (end_of more.items (k + 1)).task
      old b = rw (below_same e tick task cycles (k + 1) b) (w.lines.rise k b)

      new : k + 1 ≡ length e.items → Rises (end_of e.items k).tick.0 (end_of e.items k).task (end_of more.items (k + 1)).tick.0 (end_of more.items (k + 1)).task
      new q = rw (last_new e tick task cycles (k + 1) q, (w.last k q).0, (w.last k q).1) (good_line known earlier former tick task cycles g).0

  -- the new line names a task that exists, as the others do
  exists_more : (k : ℕ) → k < length e.items + 1 → (1 ≤ (end_of more.items k).task) × ((end_of more.items k).task ≤ known)
  unfolding more
  exists_more k h =
      ⊎_elim (λ b. rw (below_same e tick task cycles k b) (w.lines.exists k b))
      (λ q. rw (last_new e tick task cycles k q) (good_line known earlier former tick task cycles g).1)
      (below_or_at k (length e.items) h)

  -- and at least 1 cycle
  used_more : (k : ℕ) → k < length e.items + 1 → 1 ≤ (end_of more.items k).cycles.0
  unfolding more
  used_more k h =
      ⊎_elim (λ b. rw (below_same e tick task cycles k b) (w.lines.used k b))
      (λ q. rw (last_new e tick task cycles k q) (good_line known earlier former tick task cycles g).2)
      (below_or_at k (length e.items) h)

  -- one good line more
  pub risen_more : Risen known tick task left (more_ends e tick task cycles)
  unfolding more
  risen_more =
      let long : length (more_ends e tick task cycles).items ≡ length e.items + 1 = one_more e tick task cycles in
      record {
        room = omega arith;
        lines = record {
          few = omega arith;
          rise = λ k h. rises_more k (omega arith);
          exists = λ k h. exists_more k (omega arith);
          used = λ k h. used_more k (omega arith);
        };
        last = λ k q.
            let new = last_new e tick task cycles k (omega arith) in
            (ap (λ (x : End). x.tick.0) new, ap (λ (x : End). x.task) new);
      }

-- end lines that were read are good
abbrev pub SoundEnds : ℕ → Option EndsRead → Type 0
SoundEnds known (Some r) = GoodEnds known r.ends.items
SoundEnds known None = Unit {0}

-- whichever of two answers is given, it is sound
ends_either : (known : ℕ) (b : Bool) (r s : Option EndsRead) → (b ≡ true → SoundEnds known r) → SoundEnds known s → SoundEnds known (cond b r s)
ends_either known true r s h k = h refl
ends_either known false r s h k = k

-- a line's numbers go on to a sound answer
ends_with : (known : ℕ) (line : Option EndLine) (go : ℕ → ℕ → ℕ → ℕ → Option EndsRead) → ((tick task cycles next : ℕ) → SoundEnds known (go tick task cycles next)) → SoundEnds known (with_end line go)
unfolding with_end
ends_with known (Some l) go h = h l.tick.0 l.task l.cycles.0 l.next
ends_with known None go h = tt

-- end lines read after good ones are good with them
pub ends_good : (text : List ℕ) (known left at earlier former : ℕ) (e : Ends) → Risen known earlier former left e
    → SoundEnds known (ends_from text known left at earlier former e)
unfolding ends_from
ends_good text known zero at earlier former e w =
    ends_either known (stands_at text at end_word) None (ends_read e at) (λ _. tt) w.lines
ends_good text known (suc left) at earlier former e w =
    ends_either known (stands_at text at end_word) _ (ends_read e at)
    (λ _. ends_with known (end_at text (at + 4)) _
    (λ tick task cycles next.
    ends_either known (end_good known earlier former tick task cycles) _ None
    (λ g. ends_good text known left next tick task (more_ends e tick task cycles) (risen_more known earlier former left e w tick task cycles g))
    tt))
    w.lines

-- so are the end lines from the first one on
pub all_ends_good : (text : List ℕ) (known at : ℕ) → SoundEnds known (ends_from text known most_end_lines at 0 0 no_ends)
all_ends_good text known at = ends_good text known most_end_lines at 0 0 no_ends (risen_none known 0 0)

-- an answer that is those lines has no more than the most
pub few_ends_lem : (text : List ℕ) (known at : ℕ) (r : EndsRead) → Some r ≡ ends_from text known most_end_lines at 0 0 no_ends → length r.ends.items ≤ most_end_lines
few_ends_lem text known at r e = (subst (SoundEnds known) (sym e) (all_ends_good text known at)).few
