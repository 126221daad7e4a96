-- Every answer said in numbers, and each under its name: what the promises speak in. A refusal is its number and its place, two numbers as
-- in every kind of answer (`refused` in tables, beside `done`); an answer about a late job is three, and so are "outside" and "changed";
-- every other is one.
-- Document 01 has the numbers of "legal" and "not legal at t", the others are ours. Within one kind of answer equal numbers are equal
-- answers (proofs/Laws/Said).
use Rattle.std.specs.Prelude.{ℕ, ◌+◌, Bool, true, false, List, [], ◌∷◌, Result, Ok, Err}
use Rattle.tables.specs.declared.answers.Refusal.{Refusal}
use Rattle.zsrm.specs.declared.record.Standing.{Standing}
use Rattle.zsrm.specs.declared.answers.Claim.{Claim}
use Rattle.zsrm.specs.declared.answers.Mended.{Mended}
use Rattle.zsrm.specs.declared.answers.Verdict.{Verdict}
use Rattle.zsrm.specs.declared.answers.Witness.{Witness}
use Rattle.tables.specs.Said.{refused}
use Rattle.zsrm.specs.declared.record.Standing.TheVariants as standings
use Rattle.zsrm.specs.declared.answers.Claim.TheVariants as claims
use Rattle.zsrm.specs.declared.answers.Mended.TheVariants as mends
use Rattle.zsrm.specs.declared.answers.Verdict.TheVariants as verdicts
use Rattle.zsrm.specs.declared.answers.Witness.TheVariants as witnesses

-- of a claim, and of a witness that is none because its schedule is not legal
abbrev pub legal : List ℕ
legal = 0 ∷ []

abbrev pub not_legal : ℕ → List ℕ
not_legal t = (65536 + t) ∷ []

unfoldable pub claim_said : Result Claim Refusal → List ℕ
claim_said (Err refusal) = refused refusal.number refusal.place
claim_said (Ok claims.Legal) = legal
claim_said (Ok (claims.NotLegal t)) = not_legal t

-- of a claim that is mended; changed is three numbers: the first changed tick, how many entries differ, and 0
abbrev pub whole : List ℕ
whole = 0 ∷ []

abbrev pub changed : ℕ → ℕ → List ℕ
changed first differing = first ∷ differing ∷ 0 ∷ []

unfoldable pub mended_said : Result Mended Refusal → List ℕ
mended_said (Err refusal) = refused refusal.number refusal.place
mended_said (Ok mends.Whole) = whole
mended_said (Ok (mends.Changed first differing)) = changed first differing

-- exact or "at least"
abbrev pub flag : Bool → ℕ
flag false = 0
flag true = 1

-- of a verdict; late is three numbers, the second by how much
abbrev pub met : List ℕ
met = 0 ∷ []

abbrev pub late : ℕ → Bool → List ℕ
late by is_exact = 1 ∷ by ∷ flag is_exact ∷ []

abbrev pub ended : List ℕ
ended = 2 ∷ []

abbrev pub still_open : List ℕ
still_open = 3 ∷ []

unfoldable pub verdict_said : Result Verdict Refusal → List ℕ
verdict_said (Err refusal) = refused refusal.number refusal.place
verdict_said (Ok verdicts.Met) = met
verdict_said (Ok (verdicts.Late by is_exact)) = late by is_exact
verdict_said (Ok verdicts.Ended) = ended
verdict_said (Ok verdicts.Open) = still_open

-- of a witness; outside the assumption it is three numbers, the second the job named; accepted against a late job it is three, too
abbrev pub outside_assumption : ℕ → List ℕ
outside_assumption i = 3 ∷ i ∷ 0 ∷ []

abbrev pub accepted_late : ℕ → Bool → List ℕ
accepted_late by is_exact = 0 ∷ by ∷ flag is_exact ∷ []

abbrev pub accepted_ended : List ℕ
accepted_ended = 2 ∷ []

abbrev pub not_missed : List ℕ
not_missed = 1 ∷ []

unfoldable pub witness_said : Result Witness Refusal → List ℕ
witness_said (Err refusal) = refused refusal.number refusal.place
witness_said (Ok (witnesses.NotLegal t)) = not_legal t
witness_said (Ok (witnesses.Outside i)) = outside_assumption i
witness_said (Ok witnesses.NotMissed) = not_missed
witness_said (Ok (witnesses.AcceptedLate by is_exact)) = accepted_late by is_exact
witness_said (Ok witnesses.AcceptedEnded) = accepted_ended

-- The standings inside the records that runs, steps and fresh records answer: a kind and, where there is one, the instant or tick.
abbrev pub not_arrived : List ℕ
not_arrived = 0 ∷ []

abbrev pub unfinished : List ℕ
unfinished = 1 ∷ []

abbrev pub finished_at : ℕ → List ℕ
finished_at f = 2 ∷ f ∷ []

abbrev pub ended_in : ℕ → List ℕ
ended_in e = 3 ∷ e ∷ []

unfoldable pub standing_said : Standing → List ℕ
standing_said standings.NotArrived = not_arrived
standing_said standings.Unfinished = unfinished
standing_said (standings.Finished f) = finished_at f
standing_said (standings.Ended e) = ended_in e
