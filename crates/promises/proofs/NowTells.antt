-- What now tells: the lowest speed that carries the load, since the speeds rise, and the earliest ready task, which heads rule 3's order.
use mathlib.Core.Path.{◌≡◌, refl, sym, ap}
use mathlib.Core.Bool.{Bool, true, false}
use mathlib.Core.List.Memᴰ
use mathlib.Core.List.{List, [], ◌∷◌, Memᴰ}
use Prim.Native.Nat.{ℕ, ◌+◌, ◌≤◌, ◌<◌}
use native.Mathlib.Decide.{ℕ_discrete, dec_lt}
use native.Mathlib.Omega.{arith}
use lib.Dec.{ltb}
use borrow.Author.Tests.{ltb-true, not-false}
use Rattle.rules.specs.declared.State.{State}
use Rattle.rules.specs.Answers.{Told}
use Rattle.rules.specs.Words.{every}
use Rattle.rules.specs.State.{speed_at}
use Rattle.rules.specs.Choice.{deadline_at, ready_at, order_of, chosen, choice_of, task_of, due_of, speed_place, speed_of}
use Rattle.rules.specs.Numbers.{now_number}
use Rattle.rules.specs.Calls.{now_of}
use Rattle.rules.proofs.Lists.{every_first}
use Rattle.rules.proofs.Tables.{first_fails}
use Rattle.rules.proofs.Soundness.{Sound, sound_facts}
use Rattle.rules.proofs.Loads.{place_below, speed_enough, lower_short, speeds_at, speed_order, speed_of_at}
use Rattle.rules.proofs.Orders.{order_below, order_ready}
use Rattle.rules.proofs.Sorted.{Before, AheadOf, InOrder, by_deadline}
use Rattle.rules.proofs.CallRows.{now_accepted}
use Rattle.promises.specs.PaperTest.{LowestThatCarries, LowestSpeedIsTold, Earliest, ChoiceIs, EarliestDeadlineIsTold}
use Rattle.ontime.proofs.Levels.{order_has}

-- where now answers 0 the state is sound, and it tells the speed and the choice of rule 3
module _ (s : State) (e : (now_of s).number ≡ 0) where
  is_0 : now_number s ≡ 0
  unfolding now_of
  is_0 = e

  told_sound : Sound s
  unfolding now_number
  told_sound = sound_facts s (not-false _ (first_fails _ 9 _ (omega arith) is_0))

  speed_told : speed_of s ≡ (now_of s).speed.0
  speed_told = ap (λ (r : Told). r.speed.0) (now_accepted s is_0)

  choice_told : choice_of s ≡ (now_of s).choice
  choice_told = ap (λ (r : Told). r.choice) (now_accepted s is_0)

-- the lowest speed that carries the load of a sound state
module _ (s : State) (f : Sound s) where
  -- a listed speed below it is listed before it, since the speeds rise
  listed_before : (k : ℕ) → k < s.ladder.count → speed_at s.ladder k < speed_of s → k < speed_place s
  listed_before k h l = go (dec_lt k (speed_place s)) (ℕ_discrete k (speed_place s))
    where
      go : Dec (k < speed_place s) → Dec (k ≡ speed_place s) → k < speed_place s
      go (yes b) q = b
      go (no b) (yes q) = omega (arith, speed_of_at s f, ap (speed_at s.ladder) q)
      go (no b) (no q) = omega (arith, speed_of_at s f, speed_order s f (speed_place s) k (omega arith) h)

  lowest_of : LowestThatCarries s (speed_of s)
  lowest_of =
      record {
        place = speed_place s;
        is_listed = place_below s f;
        answered_is = sym (speed_of_at s f);
        carries = speed_enough s f;
        no_lower = λ k h l. rw (speeds_at s.ladder k h) at (lower_short s f k (listed_before k h l));
      }

-- Figure 4: the lowest speed is told.
pub lowest_told : LowestSpeedIsTold
unfolding LowestSpeedIsTold
lowest_told s e = rw (← speed_told s e) (lowest_of s (told_sound s e))

-- the head of an order has the smallest key of its entries, and of those at that key the lowest number
module _ (key : ℕ → ℕ) (a k : ℕ) where
  ahead_of : (o : List ℕ) → AheadOf key a o → Memᴰ k o → Before key a k
  unfolding AheadOf
  ahead_of [] h x'' = elim x'' [ ]
  ahead_of (b ∷ o) h (Memᴰ.head e) = rw e h.0
  ahead_of (b ∷ o) h (Memᴰ.tail m) = ahead_of o h.1 m

  head_least : (o : List ℕ) → InOrder key (a ∷ o) → Memᴰ k (a ∷ o) → key a ≤ key k
  unfolding InOrder Before
  head_least o h (Memᴰ.head e) = omega (arith, ap key e)
  head_least o h (Memᴰ.tail m) = (ahead_of o h.0 m).0

  head_lowest : (o : List ℕ) → InOrder key (a ∷ o) → Memᴰ k (a ∷ o) → key k ≡ key a → a ≤ k
  unfolding InOrder Before
  head_lowest o h (Memᴰ.head e) same = omega arith
  head_lowest o h (Memᴰ.tail m) same = omega (arith, (ahead_of o h.0 m).1 (sym same))

-- the choice of rule 3, by the order that it is made from
module _ (s : State) where
  -- the order is sorted, and has the ready tasks and no other place
  in_order : (o : List ℕ) → order_of s ≡ o → InOrder (deadline_at s) o
  in_order o e = rw e at (by_deadline s)

  has_ready : (o : List ℕ) → order_of s ≡ o → (k : ℕ) → k < s.tasks.count → ready_at s k ≡ true → Memᴰ k o
  unfolding order_of
  has_ready o e k h r = rw e at (order_has (deadline_at s) (ready_at s) s.tasks.count k h r)

  all_below : (o : List ℕ) → order_of s ≡ o → every (λ i. ltb i s.tasks.count) o ≡ true
  unfolding order_of
  all_below o e = rw e at (order_below (deadline_at s) (ready_at s) s.tasks.count)

  all_ready : (o : List ℕ) → order_of s ≡ o → every (ready_at s) o ≡ true
  unfolding order_of
  all_ready o e = rw e at (order_ready (deadline_at s) (ready_at s) s.tasks.count)

  -- no entry: no task is ready
  none_ready : order_of s ≡ [] → (k : ℕ) → k < s.tasks.count → ready_at s k ≡ false
  none_ready e k h = go (ready_at s k) refl
    where
      go : (b : Bool) → ready_at s k ≡ b → b ≡ false
      go true r = absurd (Memᴰ.not-nil (has_ready [] e k h r))
      go false r = refl

  -- the head is the earliest
  head_earliest : (i : ℕ) (o : List ℕ) → order_of s ≡ i ∷ o → Earliest s (i + 1) (deadline_at s i)
  head_earliest i o e =
      record {
        place = i;
        is_task = ltb-true i s.tasks.count (every_first (λ k. ltb k s.tasks.count) i o (all_below (i ∷ o) e));
        numbered = refl;
        is_ready = every_first (ready_at s) i o (all_ready (i ∷ o) e);
        due_is = refl;
        first = λ k h r. head_least (deadline_at s) i k o (in_order (i ∷ o) e) (has_ready (i ∷ o) e k h r);
        lower_number = λ k h r. head_lowest (deadline_at s) i k o (in_order (i ∷ o) e) (has_ready (i ∷ o) e k h r);
      }

  choice_by : (o : List ℕ) → order_of s ≡ o → ChoiceIs s (task_of (chosen s o)) (due_of (chosen s o))
  unfolding chosen task_of due_of
  choice_by [] e = record { nothing = λ z. none_ready e; something = λ z. absurd (z refl) }
  choice_by (i ∷ o) e = record { nothing = λ z. absurd (numbered_0 z); something = λ z. head_earliest i o e }
    where
      numbered_0 : i + 1 ≡ 0 → ⊥
      numbered_0 z = omega arith

  choice_is : ChoiceIs s (task_of (choice_of s)) (due_of (choice_of s))
  unfolding choice_of
  choice_is = choice_by (order_of s) refl

-- Figure 4, EDF: the earliest deadline is told.
pub earliest_told : EarliestDeadlineIsTold
unfolding EarliestDeadlineIsTold
earliest_told s e = rw (← choice_told s e) (choice_is s)
