-- The fields of a task and of a job, gathered in a struct as the code reads them. Nothing here is more than "Tables and lists".
use Rattle.std.specs.Prelude.{ℕ, List}
use Rattle.tables.specs.declared.fields.Task.{Task}
use Rattle.tables.specs.declared.fields.Job.{Job}
use Rattle.tables.specs.Tables.{period, deadline, nominal, overload, criticality, priority, offset, task_of, arrival, execution}

abbrev pub task_at : List ℕ → ℕ → Task
task_at tasks k =
    record {
      period = period tasks k;
      deadline = deadline tasks k;
      nominal = nominal tasks k;
      overload = overload tasks k;
      criticality = record { 0 = criticality tasks k };
      priority = record { 0 = priority tasks k };
      offset = offset tasks k;
    }

abbrev pub job_at : List ℕ → ℕ → Job
job_at jobs j = record { task = task_of jobs j; arrival = arrival jobs j; execution = execution jobs j }
