-- The promises, for every input, either mode, either tie choice, and every legal schedule, ours and any other. Read this file first.
--
-- `claim_answer g horizon schedule` is what the claim check answers: each `..Answer`, and for the calls from C each `..Result`, is the whole
-- contract of its function in src/, which takes any input and returns; with `run_schedule`, `go_on_schedule` and `run_bytes` for what a run
-- writes, and `mend_schedule` for what mending writes into its second list. `check_lists`, `check_step`, `check_go_on`, `check_schedule`,
-- `check_mend`, `check_verdicts`, `check_verdict` and `check_witness` are the checks of each entry point, in the order of their numbers.
-- `..Said` says an answer in numbers, and Said gives each its name: `done`, `refused number place`, `legal`, `not_legal t`, `whole`,
-- `changed first n`, `met`, `late n is_exact`, `ended`, `still_open`, `outside_assumption i`, `not_missed`, `accepted_late n is_exact`,
-- `accepted_ended`, `not_arrived`, `unfinished`, `finished_at f`, `ended_in e`. `record_before g schedule t` is the record before tick t of the
-- schedule, `replayed g schedule` the one at its end, and `replay g r entries` the one that entries lead to from r; `suspended_at r j` and
-- `waited_at r j` are the ticks that a record counts for job j as suspended while alive and as eligible while another job ran;
-- `differing claimed made` is the number of places at which two schedules differ. Steps and runs take a tie choice, `Stay` or `Lowest`, and
-- `r.previous` is what r keeps as the entry before its tick; a caller may hand in any job there. All of them are definitions of specs/.
-- Traced has `premises_met_s` and `premises_met_se`, schedules that meet all premises of (ii), one in each mode, `ties_differ`, a record
-- from which the tie choices differ, `lowest_goes_on_illegally`, a legal schedule after which Lowest does not go on legally, and `mends`,
-- damaged claims and what comes back.
pub mod Refusals
pub mod Rules
pub mod Guarantee
pub use Refusals.{fresh_checked, step_checked, go_on_checked, run_outcome_checked, verdicts_checked, claim_refused, mend_refused}
pub use Refusals.{verdict_refused, witness_refused, verdicts_refused, response_refused, response_illegal, response_unfinished}
pub use Refusals.{fresh_refused, fresh_done, refused_keeps, refused_go_on_keeps, mend_refused_as_claim, mend_refused_second}
pub use Refusals.{refused_mend_keeps, refused_step_law, c_refused, c_refused_keeps}
pub use Rules.{step_is_tick, run_is_legal, run_record_law, run_consistent, run_is_steps, run_each_step, replay_run, ties_agree, step_keeps}
pub use Rules.{stays, switches, switches_next, go_on_exactly, go_on_past_limit, go_on_never_nine, go_on_nothing, parts_exactly}
pub use Rules.{parts_agree, go_on_record, go_on_one_tick, go_on_one_entry, run_is_go_on, run_past_limit, run_goes_on_alike}
pub use Rules.{legal_go_on_done, legal_go_on_record, stay_goes_on_legally, legal_exactly, not_legal_exactly, replay_claim}
pub use Rules.{replay_legal, replay_blank, mended_is_legal, whole_exactly, whole_comes_back, changed_exactly, changed_first}
pub use Rules.{changed_then, mends_once, witness_exactly, witness_ended_exactly, witness_outside_exactly, witness_not_missed_exactly}
pub use Rules.{witness_not_legal_exactly, met_exactly, late_exactly, late_at_least, ended_exactly, open_exactly, late_response}
pub use Rules.{late_finishes, late_grows, verdict_final, verdicts_each, ended_by_overrun, within_unended, ended_outside}
pub use Rules.{never_accepted_ended, consistent_unended_in_s, verdict_unended_in_s, step_ends_none_in_s, c_run_done, c_run_exactly}
pub use Rules.{c_legal_exactly, c_not_legal_exactly, c_run_is_legal, c_run_is_run, c_claim_is_claim}
pub use Guarantee.{always_consistent, nothing_ended_in_s, nothing_ended_in_s_at_end, empty_job_finishes, Pending, Served, served}
pub use Guarantee.{finishes_by, meets, never_blamed, never_suspended, never_suspended_at_end, response_is, done_before, suspended_before}
pub use Guarantee.{ended_before, waited_before, done_counted, suspended_counted, ended_counted, waited_counted, open_jobs_last, part_shown}
