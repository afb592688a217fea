-- Document 01's table (a) to (l), computed on the definitions.
use mathlib.Core.Path.{refl}
use Rattle.divisors.specs.Divisors.{euclid, gcd_of, lcm_of, lcm_all}
use Rattle.rules.specs.Words.{up_to, total, every, first_of}
use Rattle.rules.specs.Limits.{up_to_most}
use Rattle.rules.specs.State.{period_at, reserve_at, speed_at, volts_at, count_at, job_at, put_at, jobs_of, periods_of, reserves_of, speeds_of, volts_of, top_of}
use Rattle.rules.specs.Load.{deadline, use_of, load, carries}
use Rattle.rules.specs.Choice.{insert_by, order_by, deadline_at, ready_at, order_of, lowest, load_of, fits_of, speed_place, speed_of, none_carries}
use Rattle.rules.specs.Settlement.{by_bullet, remaining, uses_up, allowed, granted, is_cut, is_over, settle_at, settle_all, all_allowed, over_entries_zero, at_tick_start, settled, keeps_rule4}
use Rattle.rules.specs.Counting.{counted, release_at, releases, next_of}
use Rattle.rules.specs.Admission.{great_of, full_load, admitted}
use Rattle.rules.specs.Numbers.{same_count, climbs_from, speeds_rise, volts_never_fall, start_number, tables_pass, great_right, unused_job, unused_tasks, unused_speed, unused_speeds, ticks_bounded, run_right, runs_right, cycles_bounded, late_bounded, cut_bounded, sound, all_done, tick_number}
use Rattle.rules.specs.Calls.{tasks_from, ladder_from, fresh_jobs, fresh_tally, fresh_state, start_of, tick_of}
use Rattle.promises.specs.Runs.{started, ticked, after}
use Rattle.promises.specs.EitherSide.{paper_table, reports, state_at, load_at, number_of, rows, EitherSideOfTheLine}

pub every_row : EitherSideOfTheLine
unfolding EitherSideOfTheLine rows state_at load_at number_of reports paper_table started ticked after
    euclid gcd_of lcm_of lcm_all up_to total every first_of up_to_most period_at reserve_at speed_at volts_at count_at job_at put_at jobs_of periods_of reserves_of speeds_of volts_of top_of
    deadline use_of load carries insert_by order_by deadline_at ready_at order_of lowest load_of fits_of speed_place speed_of none_carries
    by_bullet remaining uses_up allowed granted is_cut is_over settle_at settle_all all_allowed over_entries_zero at_tick_start settled keeps_rule4 counted release_at releases next_of
    great_of full_load admitted same_count climbs_from speeds_rise volts_never_fall start_number tables_pass great_right unused_job unused_tasks unused_speed unused_speeds ticks_bounded run_right runs_right cycles_bounded late_bounded cut_bounded sound all_done tick_number
    tasks_from ladder_from fresh_jobs fresh_tally fresh_state start_of tick_of
every_row = refl
