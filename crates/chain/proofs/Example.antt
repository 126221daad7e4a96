-- A file of two tables, byte by byte, what is read of it, and refusals: by computation.
use Prim.Native.Nat.{ℕ, ◌-◌}
use mathlib.Core.List.{List, [], ◌∷◌, ◌++◌, map}
use mathlib.Core.Path.{refl, ◌≡◌}
use lib.ListN.{length, replicate}
use Rattle.bits.specs.Below.{list_from}
use Rattle.tables.specs.Outcomes.{Done, Refused}
use Rattle.tables.specs.Bytes.{bytes_of, number_at, number_bytes}
use Rattle.tables.specs.Refusals.{ascending, before, check2, check3, check4, check_tasks, outside, refuse, unless}
use Rattle.tables.specs.Said.{done, outcome_said, refused}
use Rattle.tables.specs.Tables.{criticality, deadline, nominal, offset, overload, period, priority, task_count}
use Rattle.chain.specs.declared.answers.Read.{Read}
use Rattle.chain.specs.declared.layout.Layout.{Layout}
use Rattle.chain.specs.declared.layout.Layout.TheVariants.{One, Two}
use Rattle.chain.specs.Answers.{append_answer, append_file, new_trailer, nothing, passed_by, read_answer, read_at, read_table, read_trailer, shown}
use Rattle.chain.specs.Layout.{known}
use Rattle.chain.specs.Refusals.{check21, check22, check24, check_append, check_last, check_shown, check_trailer}
use Rattle.chain.specs.Said.{appended_said, used_length}
use Rattle.chain.specs.Table.{check_table, numbers_from, padded, table_of, unlabelled}
use Rattle.chain.specs.Trailer.{end_of, last_place, misfits, none, trailer_numbers, trailer_at}
use Rattle.chain.specs.Walk.{grows, grows_by, opened, append_all, turns, walk}

-- a task of document 01's example table in layout 1, and one in layout 2, with the label 9
abbrev first : List ℕ
first = 8 ∷ 8 ∷ 4 ∷ 4 ∷ 1 ∷ 2 ∷ 4 ∷ []

abbrev second : List ℕ
second = 20 ∷ 16 ∷ 5 ∷ 10 ∷ 2 ∷ 1 ∷ 10 ∷ 9 ∷ []

-- the first table from byte 0, its trailer from 28, the second table from 44, its trailer from 76
abbrev table_one : List ℕ
table_one = 8 ∷ 0 ∷ 0 ∷ 0 ∷ 8 ∷ 0 ∷ 0 ∷ 0 ∷ 4 ∷ 0 ∷ 0 ∷ 0 ∷ 4 ∷ 0 ∷ 0 ∷ 0 ∷ 1 ∷ 0 ∷ 0 ∷ 0 ∷ 2 ∷ 0 ∷ 0 ∷ 0 ∷ 4 ∷ 0 ∷ 0 ∷ 0 ∷ []

abbrev trailer_one : List ℕ
trailer_one = 0 ∷ 0 ∷ 0 ∷ 0 ∷ 255 ∷ 255 ∷ 255 ∷ 255 ∷ 1 ∷ 0 ∷ 0 ∷ 0 ∷ 1 ∷ 0 ∷ 0 ∷ 0 ∷ []

abbrev table_two : List ℕ
table_two = 20 ∷ 0 ∷ 0 ∷ 0 ∷ 16 ∷ 0 ∷ 0 ∷ 0 ∷ 5 ∷ 0 ∷ 0 ∷ 0 ∷ 10 ∷ 0 ∷ 0 ∷ 0 ∷ 2 ∷ 0 ∷ 0 ∷ 0 ∷ 1 ∷ 0 ∷ 0 ∷ 0 ∷ 10 ∷ 0 ∷ 0 ∷ 0 ∷ 9 ∷ 0 ∷ 0 ∷ 0 ∷ []

abbrev trailer_two : List ℕ
trailer_two = 44 ∷ 0 ∷ 0 ∷ 0 ∷ 28 ∷ 0 ∷ 0 ∷ 0 ∷ 2 ∷ 0 ∷ 0 ∷ 0 ∷ 1 ∷ 0 ∷ 0 ∷ 0 ∷ []

abbrev file : List ℕ
file = table_one ++ trailer_one ++ table_two ++ trailer_two

abbrev shows : ℕ → ℕ → ℕ → List ℕ → Read
shows layout before count table =
    record { outcome = Done; layout = layout; before = before; count = count; fields = table ++ replicate (128 - length table) 0 }

abbrev refuses : ℕ → ℕ → ℕ → ℕ → Read
refuses number place layout before = record { outcome = Refused number place; layout = layout; before = before; count = 0; fields = replicate 128 0 }

-- a reader, a used length and a place, with what is read
pub data Reading : Type 0 where
  reads : Layout → ℕ → ℕ → Read → Reading

abbrev answered : Reading → Read
answered (reads reader bytes at r) = read_answer reader file bytes at

abbrev expected : Reading → Read
expected (reads reader bytes at r) = r

-- Both tables, by either reader. Used lengths and places one byte off; none.
abbrev readings : List Reading
readings =
    reads Two 92 76 (shows 2 28 1 second) ∷ reads Two 92 28 (shows 1 none 1 first) ∷ reads One 92 76 (refuses 23 2 2 28) ∷ reads One 92 28 (shows 1 none 1 first)
    ∷ reads Two 91 76 (refuses 21 0 0 none) ∷ reads Two 93 76 (refuses 21 0 0 none) ∷ reads Two 92 77 (refuses 21 0 0 none) ∷ reads Two 92 75 (refuses 22 0 0 none)
    ∷ reads Two 15 0 (refuses 21 0 0 none) ∷ reads Two 92 none (refuses 21 0 0 none) ∷ []

-- A trailer alone at byte 0, by its four numbers: its layout is not known, and it says no place but none; a count of 2^30, of which 28 times is
-- not 0; one that points to itself; one whose preceding trailer's end would be 2^32.
abbrev placed : List ℕ → List ℕ
placed numbers = outcome_said (check_trailer Two (bytes_of 4 numbers) 16 0)

-- With 4,294,967,311 used bytes, and one byte less, 21 of the place that is none's number; 22 of a trailer there, of one task in the 28 bytes
-- before it; 24 behind it.
abbrev at_none : List (List ℕ)
at_none =
    outcome_said (check21 4294967311 4294967311 none) ∷ outcome_said (check21 4294967311 4294967310 none)
    ∷ outcome_said (check22 One (record { start = 4294967267; before = none; layout = 1; count = 1 }) none) ∷ outcome_said (check24 4294967355 4294967311 7) ∷ []

-- a layout, a lent list, a used length and a table, with what an append answers
pub data Appending : Type 0 where
  gives : Layout → List ℕ → ℕ → List ℕ → List ℕ → Appending

abbrev came : Appending → List ℕ
came (gives layout lent bytes table r) = appended_said (append_answer layout lent bytes table)

abbrev comes : Appending → List ℕ
comes (gives layout lent bytes table r) = r

-- Room for a table to the byte, and one byte less. A third table behind the two; no room for it. Fewer than 16 used bytes; a used length that
-- ends within a trailer, and past the list. Six numbers, no numbers, a period of 0, C over Co; any label.
abbrev appendings : List Appending
appendings =
    gives One (replicate 44 0) 0 first (used_length 44) ∷ gives One (replicate 43 0) 0 first (refused 24 0) ∷ gives Two (file ++ replicate 48 0) 92 second (used_length 140)
    ∷ gives Two file 92 second (refused 24 0) ∷ gives One file 15 first (refused 21 0) ∷ gives One file 91 first (refused 22 0) ∷ gives One file 93 first (refused 21 0)
    ∷ gives One file 92 (8 ∷ 8 ∷ 4 ∷ 4 ∷ 1 ∷ 2 ∷ []) (refused 2 0) ∷ gives Two file 92 [] (refused 2 0) ∷ gives One file 92 (0 ∷ 8 ∷ 4 ∷ 4 ∷ 1 ∷ 2 ∷ 4 ∷ []) (refused 3 0)
    ∷ gives Two file 92 (20 ∷ 16 ∷ 5 ∷ 4 ∷ 2 ∷ 1 ∷ 10 ∷ 9 ∷ []) (refused 4 0) ∷ gives Two (replicate 48 0) 0 (20 ∷ 16 ∷ 5 ∷ 10 ∷ 2 ∷ 1 ∷ 10 ∷ 4294967295 ∷ []) (used_length 48) ∷ []

-- Two appends to a new file write those bytes, whatever stood there. A reader of layout 1 walks past the table of layout 2, and then there is
-- none. Four bytes may stand before a table; a table of no task is 2.
pub record Examples : Type 0 where
  pub written : append_all (opened (replicate 92 170)) (record { layout = One; numbers = first } ∷ record { layout = Two; numbers = second } ∷ [])
      ≡ record { bytes = file; used = 92; tables_taken = record { layout = Two; numbers = second } ∷ record { layout = One; numbers = first } ∷ [] }
  pub read_back : map answered readings ≡ map expected readings
  pub walked : walk One file 92 76 ≡ refuses 23 2 2 28 ∷ shows 1 none 1 first ∷ []
  pub places : placed (0 ∷ none ∷ 7 ∷ 5 ∷ []) ∷ placed (0 ∷ none ∷ 1 ∷ 1073741824 ∷ []) ∷ placed (0 ∷ 0 ∷ 7 ∷ 5 ∷ []) ∷ placed (0 ∷ 4294967280 ∷ 7 ∷ 5 ∷ []) ∷ []
      ≡ done ∷ refused 22 0 ∷ refused 22 0 ∷ refused 22 0 ∷ []
  pub read_at_none : at_none ≡ done ∷ refused 21 0 ∷ done ∷ refused 24 0 ∷ []
  pub gap : outcome_said (check_trailer One (bytes_of 4 (99 ∷ first ++ (4 ∷ none ∷ 1 ∷ 1 ∷ []))) 48 32) ≡ done
  pub no_task : read_answer One (bytes_of 4 (0 ∷ none ∷ 1 ∷ 0 ∷ [])) 16 0 ≡ refuses 2 0 1 none
  pub appended : map came appendings ≡ map comes appendings

pub examples : Examples
unfolding list_from number_at ascending before check2 check3 check4 check_tasks outside refuse unless criticality deadline nominal offset overload period
    priority task_count outcome_said nothing passed_by shown read_table read_trailer read_at read_answer new_trailer append_answer append_file bytes_of number_bytes known
    check21 check22 check24 check_append check_last check_shown check_trailer check_table numbers_from padded table_of unlabelled end_of last_place misfits
    trailer_numbers trailer_at appended_said grows grows_by opened append_all turns walk
examples = record { written = refl; read_back = refl; walked = refl; places = refl; read_at_none = refl; gap = refl; no_task = refl; appended = refl }
