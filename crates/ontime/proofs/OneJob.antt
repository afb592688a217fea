-- Rule 4 for one ready job, in the books: a job that counts pays what it is granted, and cycles are left behind only by a job that is over. By the balance of what it has to run, its grant and its use.
use mathlib.Core.Path.{◌≡◌, refl, sym, ap, ◌∙◌}
use mathlib.Core.Bool.{Bool, true, false, cond}
use Prim.Native.Nat.{ℕ, ◌+◌, ◌-◌, ◌*◌, ◌/◌, ◌≤◌, ◌<◌, min}
use native.Mathlib.Nat.{zero-add, zero-mul, mul-zero, mul-pos, mul-le-mul_left, div-mul-le_self}
use native.Mathlib.Omega.{arith}
use lib.Dec.{eqb, ltb}
use borrow.Author.Tests.{eqb-true, eq-eqb, ltb-true}
use Rattle.rules.specs.declared.Job.{Job}
use Rattle.rules.specs.Limits.{up_to_most}
use Rattle.rules.specs.Load.{use_of}
use Rattle.rules.specs.Settlement.{by_bullet, remaining, uses_up, allowed, granted, is_over}
use Rattle.rules.specs.Numbers.{run_right}
use Rattle.rules.proofs.Loads.{use_most}
use Rattle.rules.proofs.Places.{run_below}
use Rattle.rules.proofs.Stores.{with_run}
use Rattle.rules.proofs.Shares.{settled_job, granted_right}
use Rattle.ontime.specs.OnTime.{owes, room}

-- both sides, by whether the job counts and whether it is over
module _ (great : ℕ) (j : Job) where
  pub none_owes : owes great false j ≡ 0
  unfolding owes
  none_owes = refl

  pub over_owes : (b : Bool) → j.over ≡ true → owes great b j ≡ 0
  unfolding owes
  over_owes true o = rw o
  over_owes false o = refl

  pub open_owes : j.over ≡ false → owes great true j ≡ remaining j * great
  unfolding owes
  open_owes o = rw o

  -- what owes something is not over
  pub owing_open : (b : Bool) → 0 < owes great b j → (b ≡ true) × (j.over ≡ false)
  owing_open b h = go b j.over refl refl
    where
      go : (x y : Bool) → b ≡ x → j.over ≡ y → (b ≡ true) × (j.over ≡ false)
      go x true e o = absurd (omega (arith, over_owes b o))
      go false false e o = absurd (omega (arith, (rw (← e) at none_owes)))
      go true false e o = (e, o)

  module _ (ticks : ℕ) where
    pub none_room : room great false ticks j ≡ 0
    unfolding room
    none_room = refl

    pub some_room : room great true ticks j ≡ use_of j * (great / j.period.0) * ticks
    unfolding room
    some_room = refl

  -- no room without ticks
  pub no_room : (b : Bool) → room great b 0 j ≡ 0
  no_room true = some_room 0 ∙ mul-zero (use_of j * (great / j.period.0))
  no_room false = none_room 0

  -- a tick spends a share of the room
  pub tick_spends : (b : Bool) (due t : ℕ) → room great b (due - t) j ≤ room great b (due - (t + 1)) j + cond b (use_of j * (great / j.period.0)) 0
  unfolding room
  tick_spends true due t =
      let one_more : due - t ≤ due - (t + 1) + 1 = omega arith in
      omega (arith, mul-le-mul_left (use_of j * (great / j.period.0)) one_more)
  tick_spends false due t = omega arith

-- a job that is not over uses its reserve
pub ready_use : (j : Job) → j.over ≡ false → use_of j ≡ j.reserve.0
unfolding use_of
ready_use j o = rw o

-- what a job still has to run
unfoldable to_run : Job → ℕ
to_run j = cond j.over 0 (remaining j)

owes_run : (great : ℕ) (j : Job) → owes great true j ≡ to_run j * great
unfolding to_run
owes_run great j = go j.over refl
  where
    go : (b : Bool) → j.over ≡ b → owes great true j ≡ cond b 0 (remaining j) * great
    go true o = over_owes great j true o ∙ sym (zero-mul great)
    go false o = open_owes great j o

-- the cycles that it has to run and those that it ran are its use
use_is : (j : Job) → run_right j ≡ true → to_run j + j.run.0 ≡ use_of j
unfolding to_run remaining use_of run_right
use_is j right = go j.over right
  where
    go : (b : Bool) → cond b (up_to_most j.reserve.0 j.run.0) (ltb j.run.0 j.reserve.0) ≡ true → cond b 0 (j.reserve.0 - j.run.0) + j.run.0 ≡ cond b j.run.0 j.reserve.0
    go true r = zero-add j.run.0
    go false r = omega (arith, ltb-true j.run.0 j.reserve.0 r)

-- cycles to run are paid by a grant, and by a use that falls at a rate of at most H
trade : (rest rest' grant uses uses' share time great : ℕ) → rest + uses' ≡ rest' + grant + uses → uses' ≤ uses → share * time ≤ great → rest' * great + uses * share * time + great * grant ≤ rest * great + uses' * share * time
trade rest rest' grant uses uses' share time great e l m =
    let saved : ℕ = uses - uses' in
    let rest_is : rest ≡ rest' + grant + saved = omega arith in
    let uses-is : uses ≡ uses' + saved = omega arith in
    omega (arith, ap (λ x. x * great) rest_is, ap (λ x. x * share * time) uses-is, mul-le-mul_left saved m)

-- a job that owes nothing is over
pub owes_none_over : (great : ℕ) (j : Job) → 1 ≤ great → run_right j ≡ true → owes great true j ≡ 0 → j.over ≡ true
unfolding remaining
owes_none_over great j pos right paid = go j.over refl
  where
    go : (b : Bool) → j.over ≡ b → b ≡ true
    go true o = refl
    go false o =
        let left : 0 < remaining j = omega (arith, run_below j right o) in
        absurd (omega (arith, open_owes great j o, mul-pos left pos))

-- a job that has not run has room for all that it owes, where its deadline is a whole period away
pub fresh_room : (great : ℕ) (b : Bool) (j : Job) → great / j.period.0 * j.period.0 ≡ great → j.run.0 ≡ 0 → j.over ≡ false → owes great b j ≡ room great b j.period.0 j
unfolding remaining
fresh_room great true j whole r o =
    let rest-is-all : remaining j ≡ j.reserve.0 = omega arith in
    rw (open_owes great j o, some_room great j j.period.0, rest-is-all, ready_use j o)
    (omega (arith, ap (λ x. j.reserve.0 * x) whole))
fresh_room great false j whole r o = none_owes great j ∙ sym (none_room great j j.period.0)

-- a ready job that is settled with entry u, where so much is left
module _ (left u : ℕ) (j : Job) (right : run_right j ≡ true) (ready : j.over ≡ false) where
  -- a job that leaves cycles behind is over
  pub left_over : 0 < left - granted left u j → (settled_job left u j).over ≡ true
  unfolding with_run granted is_over by_bullet uses_up remaining
  left_over more = go (eqb left 0) (eqb u 0) refl more
    where
      go : (p q : Bool) → eqb left 0 ≡ p → 0 < left - cond p 0 (cond q (min left (j.reserve.0 - j.run.0)) (u - j.run.0)) → cond p false (cond q (eqb (j.run.0 + min left (j.reserve.0 - j.run.0)) j.reserve.0) true) ≡ true
      go true q e m = absurd (omega (arith, eqb-true left 0 e))
      go false true e m = eq-eqb (j.run.0 + min left (j.reserve.0 - j.run.0)) j.reserve.0 (omega (arith, run_below j right ready))
      go false false e m = refl

  module _ (fits : allowed left u j ≡ true) where
    -- its run count is still right
    pub still_right : run_right (settled_job left u j) ≡ true
    still_right = granted_right left u j right ready fits

    -- what it has to run falls by its grant and by what its use falls
    balance : to_run j + use_of (settled_job left u j) ≡ to_run (settled_job left u j) + granted left u j + use_of j
    balance = omega (arith, use_is j right, use_is (settled_job left u j) still_right, ran)
      where
        ran : (settled_job left u j).run.0 ≡ j.run.0 + granted left u j
        ran = unfold with_run in refl

    -- and its use only falls
    use_falls : use_of (settled_job left u j) ≤ use_of j
    use_falls = omega (arith, use_most (settled_job left u j) still_right, same_reserve, ready_use j ready)
      where
        same_reserve : (settled_job left u j).reserve.0 ≡ j.reserve.0
        same_reserve = unfold with_run in refl

    -- it pays H times what it is granted, where its deadline is at most a period away
    module _ (great ticks : ℕ) (near : ticks ≤ j.period.0) where
      rate_most : great / j.period.0 * ticks ≤ great
      rate_most = omega (arith, div-mul-le_self great j.period.0, mul-le-mul_left (great / j.period.0) near)

      room_after : room great true ticks (settled_job left u j) ≡ use_of (settled_job left u j) * (great / j.period.0) * ticks
      unfolding with_run
      room_after = some_room great (settled_job left u j) ticks

      pub due_pays : owes great true (settled_job left u j) + room great true ticks j + great * granted left u j ≤ owes great true j + room great true ticks (settled_job left u j)
      due_pays =
          rw (owes_run great j, owes_run great (settled_job left u j), some_room great j ticks, room_after)
          (trade (to_run j) (to_run (settled_job left u j)) (granted left u j) (use_of j) (use_of (settled_job left u j)) _ _ great
          balance use_falls rate_most)
