-- The lines of the first j jobs are written.
use Prim.Native.Nat.{ℕ, ◌<◌}
use mathlib.Core.Path.{◌≡◌}
use Rattle.std.specs.Prelude.{Ok}
use Rattle.tables.specs.Tables.{job_count, lists}
use Rattle.zsrm.specs.Answers.{verdict_of}
use Rattle.zsrm.specs.Verdict.{verdict}
use Rattle.sheet.specs.Listing.{job_lines}
use Rattle.text.specs.Wrote.{Put}
use Rattle.sheet.proofs.output.put_jobs.Given as goal

abbrev pub invariant-loop-j : goal.invariant-loop-j
invariant-loop-j l =
    ((i : ℕ) → i < job_count l.jobs → verdict_of l.all i ≡ Ok (verdict (lists l.tasks l.jobs) l.rec i))
    × Put l.initial.out l.at (job_lines (lists l.tasks l.jobs) l.rec l.j) l.out l.k
