-- Reading from a trailer back through the file, and tables appended one behind another: what the theorems of proofs/Promise speak of. No
-- contract cites it.
use Rattle.std.specs.Prelude.{ℕ, zero, suc, ◌+◌, ◌/◌, true, false, cond, List, [], ◌∷◌, eqb, length, replicate, Option, Some, None, Result, Ok, Err}
use Rattle.tables.specs.declared.answers.Refusal.{Refusal}
use Rattle.tables.specs.Outcomes.{Outcome, Done, Refused}
use Rattle.chain.specs.declared.answers.Read.{Read}
use Rattle.chain.specs.declared.layout.Layout.{Layout}
use Rattle.chain.specs.Answers.{append_answer, append_file, read_answer}
use Rattle.chain.specs.Layout.{known, number_of, width}
use Rattle.chain.specs.Table.{padded}
use Rattle.chain.specs.Trailer.{none}

module _ (reader : Layout) (file : List ℕ) (used : ℕ) where
  -- The loop that walks a file: while the place is not none, read there and go on to `before`; at most n turns.
  unfoldable pub turns : ℕ → ℕ → List Read
  turns zero at = []
  turns (suc n) at = elim (eqb at none) [ true ↦ [] | false ↦ read_answer reader file used at ∷ turns n (read_answer reader file used at).before ]

  -- all that it reads: a trailer takes 16 bytes, so that there are no more turns
  unfoldable pub walk : ℕ → List Read
  walk at = turns (at / 16 + 1) at

-- how many bytes such a loop may still look at, from a place: 0 from none
unfoldable pub ahead : ℕ → ℕ
ahead at = cond (eqb at none) 0 (at + 16)

-- what is told of one table beside the place to go on to
pub record Contents : Type 0 where
  pub outcome : Outcome
  pub layout : ℕ
  pub count : ℕ
  pub fields : List ℕ

unfoldable pub contents : Read → Contents
contents r = record { outcome = r.outcome; layout = r.layout; count = r.count; fields = r.fields }

-- A table of a caller, in its layout.
pub record Table : Type 0 where
  pub layout : Layout
  pub numbers : List ℕ

-- what a reader is told of it: the table, or 23
unfoldable pub contents_to : Option Layout → Table → Contents
contents_to (Some _) t =
    record { outcome = Done; layout = number_of t.layout; count = length t.numbers / width t.layout; fields = padded 128 t.numbers }
contents_to None t = record { outcome = Refused 23 (number_of t.layout); layout = number_of t.layout; count = 0; fields = replicate 128 0 }

unfoldable pub contents_of : Layout → Table → Contents
contents_of reader t = contents_to (known reader (number_of t.layout)) t

-- A season file: its bytes, its used length, and the tables that were taken, the last first.
pub record SeasonFile : Type 0 where
  pub bytes : List ℕ
  pub used : ℕ
  pub tables_taken : List Table

-- a new file in any lent list
unfoldable pub opened : List ℕ → SeasonFile
opened lent = record { bytes = lent; used = 0; tables_taken = [] }

-- an append: the caller goes on with the used length that it answers
unfoldable pub grows_by : Result ℕ Refusal → SeasonFile → Table → SeasonFile
grows_by (Err refusal) s t = record { bytes = append_file t.layout s.bytes s.used t.numbers; used = s.used; tables_taken = s.tables_taken }
grows_by (Ok end) s t = record { bytes = append_file t.layout s.bytes s.used t.numbers; used = end; tables_taken = t ∷ s.tables_taken }

unfoldable pub grows : SeasonFile → Table → SeasonFile
grows s t = grows_by (append_answer t.layout s.bytes s.used t.numbers) s t

-- appends one behind another, refused ones among them
unfoldable pub append_all : SeasonFile → List Table → SeasonFile
append_all s [] = s
append_all s (t ∷ ts) = append_all (grows s t) ts
