-- One ready job settled: a part that is rule 4's for the job, given where it is allowed, is rule 4's step.
use mathlib.Core.Path.{◌≡◌, refl, sym, ap}
use mathlib.Core.Bool.{Bool, true, false, cond}
use Prim.Native.Nat.{ℕ, ◌+◌, ◌-◌, ◌≤◌}
use lib.ListN.{set}
use mir.Val.{bool_byte}
use Rattle.std.specs.Prelude.{Some, None}
use Rattle.rules.specs.declared.Job.{Job}
use Rattle.units.specs.declared.Cycles.{Cycles}
use Rattle.units.specs.Units.{cycles}
use Rattle.rules.specs.declared.Tasks.{Tasks}
use Rattle.rules.specs.declared.Settling.{Settling}
use Rattle.rules.specs.State.{job_at, put_at}
use Rattle.rules.specs.Settlement.{remaining, allowed, granted, is_cut, is_over, settle_at}
use Rattle.rules.proofs.Shares.{granted_left, granted_rest}
use Rattle.settlement.specs.declared.shares.Share.{Share}
use Rattle.settlement.specs.Parts.{share_of}

-- a mark as a count
pub counted : (b : Bool) → bool_byte b ≡ cond b 1 0
counted true = refl
counted false = refl

-- what is settled with a job's part: its run count, what is left and the jobs cut then
abbrev pub stored : Settling → ℕ → Share → Cycles → Cycles → ℕ → Settling
stored sofar i part run left cut =
    record {
      jobs = record { run = set sofar.jobs.run i run; over = set sofar.jobs.over i part.over };
      grants = set sofar.grants i part.given;
      left = left;
      cut = cut;
    }

-- a part says that the entry is allowed, and is what rule 4 gives; none says that it is not
module _ (left u : ℕ) (j : Job) where
  share_some : (part : Share) → share_of left u j ≡ Some part
      → (allowed left u j ≡ true) × (record { given = cycles (granted left u j); over = is_over left u j; cut = is_cut left u j } ≡ part)
  unfolding share_of
  share_some part e = go (allowed left u j) refl
    where
      go : (b : Bool) → allowed left u j ≡ b → (allowed left u j ≡ true) × (record { given = cycles (granted left u j); over = is_over left u j; cut = is_cut left u j } ≡ part)
      go true a = (a, cc (rw a at e))
      go false a = absurd (cc (rw a at e))

  pub share_none : share_of left u j ≡ None → allowed left u j ≡ false
  unfolding share_of
  share_none e = go (allowed left u j) refl
    where
      go : (b : Bool) → allowed left u j ≡ b → allowed left u j ≡ false
      go true a = absurd (cc (rw a at e))
      go false a = a

module _ (ts : Tasks) (sofar : Settling) (i u : ℕ) (part : Share) (shared : share_of sofar.left.0 u (job_at ts sofar.jobs i) ≡ Some part) where
  pub part_allowed : allowed sofar.left.0 u (job_at ts sofar.jobs i) ≡ true
  part_allowed = (share_some sofar.left.0 u (job_at ts sofar.jobs i) part shared).0

  part_is : part ≡ record { given = cycles (granted sofar.left.0 u (job_at ts sofar.jobs i)); over = is_over sofar.left.0 u (job_at ts sofar.jobs i); cut = is_cut sofar.left.0 u (job_at ts sofar.jobs i) }
  part_is = sym (share_some sofar.left.0 u (job_at ts sofar.jobs i) part shared).1

  -- what is given is there to give
  pub part_within : (part.given.0 ≤ sofar.left.0) × (part.given.0 ≤ (job_at ts sofar.jobs i).reserve.0 - (job_at ts sofar.jobs i).run.0)
  unfolding remaining
  part_within =
      let is-given : part.given.0 ≡ granted sofar.left.0 u (job_at ts sofar.jobs i) = ap (λ (p : Share). p.given.0) part_is in
      rw is-given
      (granted_left sofar.left.0 u (job_at ts sofar.jobs i) part_allowed, granted_rest sofar.left.0 u (job_at ts sofar.jobs i) part_allowed)

  -- stored with the run count raised, what is left lowered and the cut counted
  pub part_stored : (cut : ℕ) → cut ≡ sofar.cut + cond part.cut 1 0
      → stored sofar i part (cycles ((job_at ts sofar.jobs i).run.0 + part.given.0)) (cycles (sofar.left.0 - part.given.0)) cut ≡ settle_at ts i u sofar
  unfolding settle_at put_at
  part_stored cut counted = rw (counted, part_is)
