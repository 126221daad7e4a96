-- The entry for idle is `-`, every other is a job number.
use Rattle.sheet.proofs.Laws.Lines.{entry_idle, entry_job}
use Rattle.sheet.proofs.output.put_entry.Goals as goal

pub returns-then-e-eq-IDLE : goal.returns-then-e-eq-IDLE
returns-then-e-eq-IDLE c = rw (entry_idle _ c.if-e-eq-IDLE.true) c.put_byte.ensures

pub returns-else-e-eq-IDLE : goal.returns-else-e-eq-IDLE
returns-else-e-eq-IDLE c = rw (entry_job _ c.if-e-eq-IDLE.false) c.put_number.ensures
