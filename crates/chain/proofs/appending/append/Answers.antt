-- What the checks find decides: the bytes, or nothing written.
use Rattle.tables.proofs.Laws.Refusals.{stops_answer}
use Rattle.chain.specs.Answers.{append_answer}
use Rattle.chain.proofs.Laws.Appending.{answers_used, found_accepted, writes_both, writes_nothing}
use Rattle.chain.proofs.appending.append.Goals as goal

pub returns-in_err-check_append : goal.returns-in_err-check_append
unfolding append_answer
returns-in_err-check_append c =
    let a = c.args in
    record {
      answers = stops_answer _ _ c.check_append.ensures c.in_err-check_append.was c.from_residual.ensures.1;
      writes = writes_nothing a.layout a.file.now a.used a.table.now _ c.check_append.ensures _ _ c.in_err-check_append.was;
    }

pub put_table-requires : goal.put_table-requires
put_table-requires c =
    let a = c.args in
    let w = found_accepted a.layout a.file.now a.used a.table.now _ c.check_append.ensures c.in_ok-check_append.was in
    record { table_in_bounds = w.space.listed; table_bound = w.space.placed }

pub returns : goal.returns
returns c =
    let a = c.args in
    record {
      answers = answers_used a.layout a.file.now a.used a.table.now _ c.check_append.ensures _ c.in_ok-check_append.was c.put_table.ensures.ends;
      writes = writes_both a.layout a.file.now a.used a.table.now _ c.check_append.ensures _ c.in_ok-check_append.was c.put_table.ensures.writes;
    }
