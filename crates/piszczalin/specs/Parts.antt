-- What the private functions of the boundary answer: nothing here is part of what it promises to callers.
use Rattle.std.specs.Prelude.{ℕ, map, Result, Ok, Err}
use Rattle.rules.specs.declared.Jobs.{Jobs}
use Rattle.refusals.specs.declared.Refusal.{Refusal}
use Rattle.refusals.specs.Refusals.{number_of}
use Rattle.stepping.specs.declared.Stepped.{Stepped}
use Rattle.piszczalin.specs.declared.PlainJobs.{PlainJobs}
use Rattle.piszczalin.specs.declared.PlainState.{PlainState}
use Rattle.piszczalin.specs.declared.PlainTicked.{PlainTicked}
use Rattle.piszczalin.specs.Plain.{over_of, mark_of}

-- the jobs that plain jobs are, where their marks are good, and the plain jobs of jobs
abbrev pub jobs_of_plain : PlainJobs → Jobs
jobs_of_plain js = record { run = js.run; over = map over_of js.over }

abbrev pub plain_jobs_of : Jobs → PlainJobs
plain_jobs_of js = record { run = js.run; over = map mark_of js.over }

-- an answer's number: 0 where it is accepted
abbrev pub number_by : {A : Type 0} → Result A Refusal → ℕ
number_by (Ok x) = 0
number_by (Err r) = number_of r

-- a plain state with what a tick changed, and tick's answer of a number and a state
abbrev pub plain_after : PlainState → Stepped → PlainState
plain_after s step =
    record { done = step.done; tasks = s.tasks; jobs = plain_jobs_of step.jobs; ladder = s.ladder; tally = step.tally }

abbrev pub plain_answer : ℕ → PlainState → PlainTicked
plain_answer n s = record { number = n; state = s }
