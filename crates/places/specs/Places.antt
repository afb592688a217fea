-- What places answers for a task with its job, and for the task places past the count.
use Rattle.std.specs.Prelude.{Bool, ◌&&◌, List, drop}
use Rattle.rules.specs.declared.Tasks.{Tasks}
use Rattle.rules.specs.declared.Jobs.{Jobs}
use Rattle.rules.specs.declared.Job.{Job}
use Rattle.rules.specs.Words.{up_to}
use Rattle.rules.specs.Limits.{most_tasks, most_period, most_reserve, up_to_most}
use Rattle.rules.specs.State.{job_at}
use Rattle.rules.specs.Numbers.{run_right}

-- No. 3, 4: a task in its ranges; and its job's run right
unfoldable pub job_right : Job → Bool
job_right j = up_to_most most_period j.period.0 && up_to_most most_reserve j.reserve.0 && run_right j

-- the task places from the count on
unfoldable pub jobs_past : Tasks → Jobs → List Job
jobs_past ts js = drop ts.count (up_to most_tasks (job_at ts js))
