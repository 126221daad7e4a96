-- The changes, as the code gathers them from all verdicts on either list.
use Prim.Native.Nat.{◌<◌, ℕ, ◌≤◌}
use mathlib.Core.List.{List}
use mathlib.Core.Path.{ap, ap₂, sym, ◌∙◌, ◌≡◌}
use native.Mathlib.Omega.{arith}
use Rattle.bits.specs.Below.{list_from}
use Rattle.bits.proofs.Laws.Arrays.{Written, written_all}
use Rattle.bits.proofs.Laws.Below.{list_same}
use Rattle.std.specs.Prelude.{Result}
use Rattle.tables.specs.declared.answers.Refusal.{Refusal}
use Rattle.tables.specs.Outcomes.{Done, Refused}
use Rattle.tables.specs.Tables.{job_count, lists}
use Rattle.tables.proofs.Laws.Accepted.{lists_few, accepted}
use Rattle.tables.proofs.Laws.Refusals.{unless_done, unless_refused}
use Rattle.tables.specs.Refusals.{check_schedule}
use Rattle.zsrm.specs.declared.answers.Verdict.{Verdict}
use Rattle.zsrm.specs.declared.answers.Verdicts.{Verdicts}
use Rattle.zsrm.specs.declared.mode.Mode.{Mode}
use Rattle.zsrm.specs.declared.record.Record.{Record}
use Rattle.zsrm.specs.declared.tie.Tie.TheVariants.{Stay}
use Rattle.zsrm.specs.Answers.{verdict_of, verdicts_answer}
use Rattle.zsrm.specs.Run.{run_record}
use Rattle.zsrm.proofs.Promise.{verdicts_each}
use Rattle.planter.specs.Admission.{change_at, verdict_in}
use Rattle.planter.specs.Answers.{admission, refused_admission}
use Rattle.planter.specs.Code.{change_of}
use Rattle.planter.specs.Table.{planter, table}
use Rattle.planter.specs.declared.answers.Admission.{Admission}
use Rattle.planter.specs.declared.answers.Change.{Change}

-- all are written
pub changes_made : (d : Change) (f : ℕ → Change) (held l : List Change) (count j : ℕ) → Written d f held l 64 j → 64 ≤ j
    → ◌≡◌ {A = Admission} (record { outcome = Done; count = count; changes = l }) (record { outcome = Done; count = count; changes = list_from 0 64 f })
changes_made d f held l count j w all =
    ap (λ (cs : List Change). record { outcome = Done; count = count; changes = cs }) (written_all d f held l 64 j w (λ k a b. absurd (omega arith)))

module _ (mode : Mode) (jobs longer : List ℕ) (horizon : ℕ) where
  -- all verdicts on a list at its run's record are the verdicts of its run
  judged_in : (list : List ℕ) (all : Verdicts) (r : Record) → all ≡ verdicts_answer (planter mode list) r → r ≡ run_record (planter mode list) Stay horizon
      → (j : ℕ) → j < 64 → verdict_of all j ≡ verdict_in mode list horizon j
  unfolding verdict_in
  judged_in list all r e q j l = rw (e, q) (verdicts_each (planter mode list) (run_record (planter mode list) Stay horizon) j _ l)

  -- the longer list is accepted
  module _ (ok : check_schedule (lists table longer) horizon horizon ≡ Done) where
    pub longer_few : job_count longer ≤ 64
    longer_few = lists_few (lists table longer) (accepted (lists table longer) horizon horizon ok).lists

    pub admission_made : (count : ℕ) (old new : Verdicts) (r s : Record) (made : Admission) → count ≡ job_count longer
        → old ≡ verdicts_answer (planter mode jobs) r → r ≡ run_record (planter mode jobs) Stay horizon
        → new ≡ verdicts_answer (planter mode longer) s → s ≡ run_record (planter mode longer) Stay horizon
        → made ≡ record { outcome = Done; count = count; changes = list_from 0 64 (change_of old new) }
        → made ≡ admission mode jobs longer horizon
    unfolding admission change_of change_at
    admission_made count old new r s made c o ro n sn e =
        e ∙ ap₂ (λ (k : ℕ) (cs : List Change). record { outcome = Done; count = k; changes = cs }) c
        (list_same 64 (change_of old new) (change_at mode jobs longer horizon)
        (λ k l. ap₂ (λ (x y : Result Verdict Refusal). record { before = x; after = y }) (judged_in jobs old r o ro k l) (judged_in longer new s n sn k l)))
        ∙ sym (unless_done refused_admission _ (check_schedule (lists table longer) horizon horizon) ok)

  -- the longer list is refused
  pub admission_refused : (number place : ℕ) (made : Admission) → check_schedule (lists table longer) horizon horizon ≡ Refused number place
      → made ≡ refused_admission number place → made ≡ admission mode jobs longer horizon
  unfolding admission
  admission_refused number place made o e = e ∙ sym (unless_refused refused_admission _ (check_schedule (lists table longer) horizon horizon) number place o)
