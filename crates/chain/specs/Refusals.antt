-- Request Thirteen's refusals, each check under its number, in their order: 21, 22, 23, then 2 to 4 for the table; 24 last.
use Rattle.std.specs.Prelude.{ℕ, ◌+◌, ◌-◌, ◌*◌, ◌||◌, cond, List, eqb, ltb, length, Option, Some, None}
use Rattle.tables.specs.Outcomes.{Outcome, Done, Refused}
use Rattle.tables.specs.Refusals.{before, refuse}
use Rattle.chain.specs.declared.layout.Layout.{Layout}
use Rattle.chain.specs.declared.layout.Layout.TheVariants.{Two}
use Rattle.chain.specs.declared.trailer.Trailer.{Trailer}
use Rattle.chain.specs.Layout.{known}
use Rattle.chain.specs.Table.{check_table, table_of}
use Rattle.chain.specs.Trailer.{end_of, misfits, trailer_at}

-- 21: a used length past the list, or no whole trailer at the place
unfoldable pub check21 : ℕ → ℕ → ℕ → Outcome
check21 bytes used at = refuse (ltb bytes used || ltb used (at + 16)) 21 0

-- 22: the table starts before the preceding trailer's end, or after its own trailer, or in a layout the reader knows does not end there
unfoldable pub check22 : Layout → Trailer → ℕ → Outcome
check22 reader t at =
    refuse (ltb t.start (end_of t.before) || ltb at t.start || misfits (known reader t.layout) t at) 22 0

-- 21, then 22
unfoldable pub check_trailer : Layout → List ℕ → ℕ → ℕ → Outcome
check_trailer reader file used at = before (check21 (length file) used at) (check22 reader (trailer_at file at) at)

-- 23: a layout the reader does not know, with the layout as the place; then 2 to 4 for the table
unfoldable pub check_shown : Option Layout → List ℕ → Trailer → Outcome
check_shown (Some layout) file t = check_table layout (table_of (Some layout) file t)
check_shown None file t = Refused 23 t.layout

-- where an append of so many numbers would end: the table, and its trailer behind it
abbrev pub end_after : ℕ → ℕ → ℕ
end_after used numbers = used + numbers * 4 + 16

-- 24: the end would pass the lent list or 4,294,967,295
unfoldable pub check24 : ℕ → ℕ → ℕ → Outcome
check24 bytes used numbers = refuse (ltb bytes (end_after used numbers) || ltb 4294967295 (end_after used numbers)) 24 0

-- A used length of 0 starts a new file; else the last trailer is checked by 21 and 22, both layouts known.
unfoldable pub check_last : List ℕ → ℕ → Outcome
check_last file used = cond (eqb used 0) Done (check_trailer Two file used (used - 16))

-- what an append checks: the last trailer, then 2 to 4 for the table, then 24
unfoldable pub check_append : Layout → List ℕ → ℕ → List ℕ → Outcome
check_append layout file used table =
    before (check_last file used) (before (check_table layout table) (check24 (length file) used (length table)))
