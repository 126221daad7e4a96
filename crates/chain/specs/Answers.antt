-- What reading and appending answer, refusals first, and what the lent list of bytes holds afterwards.
use Rattle.std.specs.Prelude.{ℕ, ◌-◌, ◌/◌, cond, List, ◌++◌, eqb, length, replicate, Option, Result, Ok}
use Rattle.std.proofs.lemmas.List.Edits.{sets}
use Rattle.tables.specs.declared.answers.Refusal.{Refusal}
use Rattle.tables.specs.Outcomes.{Done, Refused}
use Rattle.tables.specs.Refusals.{unless}
use Rattle.chain.specs.declared.answers.Read.{Read}
use Rattle.chain.specs.declared.layout.Layout.{Layout}
use Rattle.chain.specs.declared.trailer.Trailer.{Trailer}
use Rattle.tables.specs.Bytes.{bytes_of}
use Rattle.chain.specs.Layout.{known, number_of, width}
use Rattle.chain.specs.Refusals.{check_append, check_shown, check_trailer, end_after}
use Rattle.chain.specs.Table.{padded, table_of}
use Rattle.chain.specs.Trailer.{last_place, none, trailer_numbers, trailer_at}

-- After 21 and 22 nothing is told of the trailer: its layout is 0, and there is no trailer to go on to.
unfoldable pub nothing : ℕ → ℕ → Read
nothing number place = record { outcome = Refused number place; layout = 0; before = none; count = 0; fields = replicate 128 0 }

-- After every other refusal reading can go on to the table before it; there are no fields.
unfoldable pub passed_by : Trailer → ℕ → ℕ → Read
passed_by t number place = record { outcome = Refused number place; layout = t.layout; before = t.before; count = 0; fields = replicate 128 0 }

-- Where nothing is refused, the table.
unfoldable pub shown : Trailer → List ℕ → Read
shown t table = record { outcome = Done; layout = t.layout; before = t.before; count = t.count; fields = padded 128 table }

-- what is read of a trailer whose places keep the rules: in a layout that the reader knows or not
unfoldable pub read_table : Option Layout → List ℕ → Trailer → Read
read_table layout file t = unless (check_shown layout file t) (passed_by t) (shown t (table_of layout file t))

unfoldable pub read_trailer : Layout → List ℕ → Trailer → Read
read_trailer reader file t = read_table (known reader t.layout) file t

-- what is read of the trailer at a place: 21 and 22 first
unfoldable pub read_at : Layout → List ℕ → ℕ → ℕ → Read
read_at reader file used at = unless (check_trailer reader file used at) nothing (read_trailer reader file (trailer_at file at))

-- what is read at a place that is given by its number: 4,294,967,295 is none, where there is no trailer
unfoldable pub read_answer : Layout → List ℕ → ℕ → ℕ → Read
read_answer reader file used at = cond (eqb at none) (nothing 21 0) (read_at reader file used at)

-- what is read at the last 16 bytes; where there are fewer, no whole trailer is at byte 0 either
unfoldable pub last_answer : Layout → List ℕ → ℕ → Read
last_answer reader file used = read_at reader file used (used - 16)

-- the trailer that an append of so many numbers writes: the table starts at the used length, behind the last trailer
unfoldable pub new_trailer : Layout → ℕ → ℕ → Trailer
new_trailer layout used numbers = record { start = used; before = last_place used; layout = number_of layout; count = numbers / width layout }

module _ (layout : Layout) (file : List ℕ) (used : ℕ) (table : List ℕ) where
  -- the used length afterwards
  unfoldable pub append_answer : Result ℕ Refusal
  append_answer = unless (check_append layout file used table) Refused (Ok (end_after used (length table)))

  -- what the lent list holds afterwards: the table at the used length, its trailer behind it, every other byte as it was
  unfoldable pub append_file : List ℕ
  append_file =
      unless (check_append layout file used table) (λ number place. file)
      (sets file used (bytes_of 4 (table ++ trailer_numbers (new_trailer layout used (length table)))))
