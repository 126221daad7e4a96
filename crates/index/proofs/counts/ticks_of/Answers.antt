-- The entries before the one that is looked at are jobs or idle, and the sum is theirs.
use Prim.Native.Nat.{ℕ, ◌+◌}
use mathlib.Core.Bool.{Bool, cond, false, true, ◌&&◌}
use mathlib.Core.Path.{ap, ap₂, sym, ◌∙◌, ◌≡◌}
use native.Mathlib.Omega.{arith}
use lib.Dec.{eqb}
use lib.ListN.{get_or}
use lib.Seq.{take_all}
use Rattle.bits.proofs.Laws.Bools.{and_true, at_most_one, clash, never_true}
use Rattle.tables.specs.Tables.{lists}
use Rattle.index.specs.Code.{tally}
use Rattle.index.specs.Counts.{all_jobs_or_idle, column, gives, job_or_idle, ticks}
use Rattle.index.proofs.Laws.Counts.{jobs_or_idle_each, jobs_or_idle_more, jobs_or_idle_none, ticks_more, ticks_none}
use Rattle.index.proofs.counts.ticks_of.Goals as goal

pub loop-entry-init : goal.loop-entry-init
loop-entry-init c = (omega arith, sym (ticks_none _ _), jobs_or_idle_none _)

pub loop-entry-preserved : goal.loop-entry-preserved
unfolding gives
loop-entry-preserved c =
    let a = c.args in
    let l = lists a.given.tasks.now a.given.jobs.now in
    let i = c.loop-entry.entry-index in
    let entry = get_or a.entries.now i 0 in
    let is : job_or_idle a.given.jobs.now entry ≡ true = sym c.if-not-job_or_idle.ensures in
    let given : eqb c.column.result a.c ≡ gives l a.c entry = ap (λ (k : ℕ). eqb k a.c) c.column.ensures ∙ ap (λ (b : Bool). b && eqb (column l entry) a.c) (sym is) in (
      omega (arith, c.loop-entry.invariant.0, c.one_if.ensures, at_most_one (eqb c.column.result a.c)),
      ap₂ (λ (m n : ℕ). m + n) c.loop-entry.invariant.1 (c.one_if.ensures ∙ ap (λ (b : Bool). cond b 1 0) given) ∙ sym (ticks_more l a.c a.entries.now i c.loop-entry-test.true),
      jobs_or_idle_more a.given.jobs.now a.entries.now i c.loop-entry-test.true ∙ and_true c.loop-entry.invariant.2 is,
    )

pub returns-then-not-job_or_idle : goal.returns-then-not-job_or_idle
unfolding tally
returns-then-not-job_or_idle c =
    let a = c.args in
    let not : job_or_idle a.given.jobs.now (get_or a.entries.now c.loop-entry.entry-index 0) ≡ false = sym c.if-not-job_or_idle.ensures in
    rw (never_true (all_jobs_or_idle a.given.jobs.now a.entries.now) (λ all. clash (jobs_or_idle_each a.given.jobs.now a.entries.now c.loop-entry.entry-index all c.loop-entry-test.true) not))

pub returns : goal.returns
unfolding tally
returns c =
    let a = c.args in
    let whole = take_all c.loop-entry.entry-index a.entries.now c.loop-entry-test.false in
    rw (sym (ap (all_jobs_or_idle a.given.jobs.now) whole) ∙ c.loop-entry.invariant.2, c.loop-entry.invariant.1 ∙ ap (ticks (lists a.given.tasks.now a.given.jobs.now) a.c) whole)
