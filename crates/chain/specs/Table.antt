-- A table's numbers, in the file and in an answer, and "2 to 4 for the table": document 01's checks, of seven numbers per task.
use Rattle.std.specs.Prelude.{ℕ, ◌+◌, ◌*◌, ◌/◌, ◌%◌, not, List, [], eqb, get_or, length, Option, Some, None}
use Rattle.bits.specs.Below.{list_from}
use Rattle.tables.specs.Outcomes.{Outcome}
use Rattle.tables.specs.Bytes.{number_at}
use Rattle.tables.specs.Refusals.{before, check_tasks, refuse}
use Rattle.chain.specs.declared.layout.Layout.{Layout}
use Rattle.chain.specs.declared.layout.Layout.TheVariants.{One, Two}
use Rattle.chain.specs.declared.trailer.Trailer.{Trailer}
use Rattle.chain.specs.Layout.{width}

-- n numbers from a byte place on
unfoldable pub numbers_from : List ℕ → ℕ → ℕ → List ℕ
numbers_from file start n = list_from 0 n (λ i. number_at 4 file (start + i * 4))

-- a trailer's table, in the layout that the reader knows it to have; of any other no fields
unfoldable pub table_of : Option Layout → List ℕ → Trailer → List ℕ
table_of (Some layout) file t = numbers_from file t.start (t.count * width layout)
table_of None file t = []

-- a list in room for n numbers: numbers that are not used are 0
unfoldable pub padded : ℕ → List ℕ → List ℕ
padded n list = list_from 0 n (λ i. get_or list i 0)

-- the seven numbers of each task, without the labels of layout 2; a label may be any number
unfoldable pub unlabelled : List ℕ → List ℕ
unlabelled table = list_from 0 (length table / 8 * 7) (λ i. get_or table (i / 7 * 8 + i % 7) 0)

-- 2: the length is no multiple of the layout's width, or there is no task, or over 16; then 3 and 4, the tasks ascending
unfoldable pub check_table : Layout → List ℕ → Outcome
check_table One table = check_tasks table
check_table Two table = before (refuse (not (eqb (length table % 8) 0)) 2 0) (check_tasks (unlabelled table))
