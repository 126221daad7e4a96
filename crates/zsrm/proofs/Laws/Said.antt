-- Equal numbers are equal answers: each enum's answers are read back from their numbers.
use Prim.Native.Nat.{◌+◌, ◌-◌, ℕ}
use mathlib.Core.Bool.{Bool, cond, false, true}
use mathlib.Core.List.{List, [], ◌∷◌}
use mathlib.Core.Path.{ap, refl, sym, ◌∙◌, ◌≡◌}
use native.Mathlib.Omega.{arith}
use lib.Dec.{eqb, ltb}
use borrow.Author.Tests.{le-ltb}
use Rattle.zsrm.specs.declared.answers.Claim.{Claim}
use Rattle.zsrm.specs.declared.answers.Mended.{Mended}
use Rattle.zsrm.specs.declared.answers.Verdict.{Verdict}
use Rattle.zsrm.specs.declared.answers.Witness.{Witness}
use Rattle.zsrm.specs.declared.record.Standing.{Standing}
use Rattle.zsrm.specs.Said.{claim_said, finished_at, mended_said, standing_said, verdict_said, witness_said}
use Rattle.std.specs.Prelude.{Result, Ok, Err}
use Rattle.tables.specs.declared.answers.Refusal.{Refusal}
use Rattle.tables.specs.Outcomes.{Refused}
use Rattle.zsrm.specs.declared.answers.Claim.TheVariants as claims
use Rattle.zsrm.specs.declared.answers.Mended.TheVariants as mends
use Rattle.zsrm.specs.declared.answers.Verdict.TheVariants as verdicts
use Rattle.zsrm.specs.declared.answers.Witness.TheVariants as witnesses
use Rattle.zsrm.specs.declared.record.Standing.TheVariants as standings

-- two numbers are a refusal; one number is read by its own table, and so are three, the last of which may be a flag
module _ {A : Type 0} (one : ℕ → A) (three : ℕ → ℕ → Bool → A) where
  back : List ℕ → Result A Refusal
  back [] = Ok (one 0)
  back (x ∷ []) = Ok (one x)
  back (n ∷ p ∷ []) = Refused n p
  back (x ∷ y ∷ z ∷ rest) = Ok (three x y (eqb z 1))

-- what can be read back is told apart
told : {A : Type 0} (said : A → List ℕ) (read : List ℕ → A) → ((a : A) → read (said a) ≡ a) → (a b : A) → said a ≡ said b → a ≡ b
told said read h a b e = sym (h a) ∙ ap read e ∙ h b

not_legal_or : {A : Type 0} → (ℕ → A) → (ℕ → A) → ℕ → A
not_legal_or not_legal small x = cond (ltb x 65536) (small x) (not_legal (x - 65536))

not_legal_back : {A : Type 0} (not_legal small : ℕ → A) (t : ℕ) → not_legal_or not_legal small (65536 + t) ≡ not_legal t
unfolding not_legal_or
not_legal_back not_legal small t = rw (le-ltb (65536 + t) 65536 (omega arith)) (ap not_legal (omega arith))

claim_of : List ℕ → Result Claim Refusal
claim_of = back (not_legal_or claims.NotLegal (λ x. claims.Legal)) (λ x y z. claims.Legal)

pub claim_said_law : (a b : Result Claim Refusal) → claim_said a ≡ claim_said b → a ≡ b
unfolding claim_said claim_of back not_legal_or
claim_said_law = told claim_said claim_of again
  where
    again : (a : Result Claim Refusal) → claim_of (claim_said a) ≡ a
    again (Err w) = refl
    again (Ok claims.Legal) = refl
    again (Ok (claims.NotLegal t)) = ap (λ (c : Claim). Ok c) (not_legal_back claims.NotLegal (λ x. claims.Legal) t)

mended_of : List ℕ → Result Mended Refusal
mended_of = back (λ x. mends.Whole) (λ x y z. mends.Changed x y)

pub mended_said_law : (a b : Result Mended Refusal) → mended_said a ≡ mended_said b → a ≡ b
unfolding mended_said mended_of back
mended_said_law = told mended_said mended_of again
  where
    again : (a : Result Mended Refusal) → mended_of (mended_said a) ≡ a
    again (Err w) = refl
    again (Ok mends.Whole) = refl
    again (Ok (mends.Changed first differing)) = refl

verdict_of : List ℕ → Result Verdict Refusal
verdict_of = back (λ x. cond (eqb x 0) verdicts.Met (cond (eqb x 2) verdicts.Ended verdicts.Open)) (λ x. verdicts.Late)

pub verdict_said_law : (a b : Result Verdict Refusal) → verdict_said a ≡ verdict_said b → a ≡ b
unfolding verdict_said verdict_of back
verdict_said_law = told verdict_said verdict_of again
  where
    again : (a : Result Verdict Refusal) → verdict_of (verdict_said a) ≡ a
    again (Err w) = refl
    again (Ok verdicts.Met) = refl
    again (Ok (verdicts.Late by true)) = refl
    again (Ok (verdicts.Late by false)) = refl
    again (Ok verdicts.Ended) = refl
    again (Ok verdicts.Open) = refl

witness_of : List ℕ → Result Witness Refusal
witness_of =
    back (not_legal_or witnesses.NotLegal (λ x. cond (eqb x 1) witnesses.NotMissed witnesses.AcceptedEnded))
    (λ x y z. cond (eqb x 3) (witnesses.Outside y) (witnesses.AcceptedLate y z))

pub witness_said_law : (a b : Result Witness Refusal) → witness_said a ≡ witness_said b → a ≡ b
unfolding witness_said witness_of back not_legal_or
witness_said_law = told witness_said witness_of again
  where
    again : (a : Result Witness Refusal) → witness_of (witness_said a) ≡ a
    again (Err w) = refl
    again (Ok (witnesses.NotLegal t)) = ap (λ (w : Witness). Ok w) (not_legal_back witnesses.NotLegal (λ x. cond (eqb x 1) witnesses.NotMissed witnesses.AcceptedEnded) t)
    again (Ok (witnesses.Outside i)) = refl
    again (Ok witnesses.NotMissed) = refl
    again (Ok (witnesses.AcceptedLate by true)) = refl
    again (Ok (witnesses.AcceptedLate by false)) = refl
    again (Ok witnesses.AcceptedEnded) = refl

standing_of : List ℕ → Standing
standing_of (x ∷ y ∷ []) = cond (eqb x 2) (standings.Finished y) (standings.Ended y)
standing_of [] = standings.NotArrived
standing_of (x ∷ []) = cond (eqb x 0) standings.NotArrived standings.Unfinished
standing_of (x ∷ y ∷ z ∷ rest) = standings.NotArrived

pub standing_said_law : (a b : Standing) → standing_said a ≡ standing_said b → a ≡ b
unfolding standing_said standing_of
standing_said_law = told standing_said standing_of again
  where
    again : (a : Standing) → standing_of (standing_said a) ≡ a
    again standings.NotArrived = refl
    again standings.Unfinished = refl
    again (standings.Finished f) = refl
    again (standings.Ended e) = refl

-- two finishing instants in numbers
pub finish_told : {f h : ℕ} → finished_at f ≡ finished_at h → f ≡ h
finish_told e = cc
