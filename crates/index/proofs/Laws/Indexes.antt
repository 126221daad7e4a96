-- Laws of an index that is its schedule's: an end's count is that of a fresh count, and one entry replaced keeps it so.
use Prim.Native.Nat.{ℕ, ◌+◌, ◌-◌, ◌*◌, ◌/◌, ◌<◌, ◌≤◌}
use mathlib.Core.Bool.{Bool, cond, true}
use mathlib.Core.List.{List}
use mathlib.Core.Path.{ap, ap₂, sym, ◌∙◌, ◌≡◌}
use native.Mathlib.Decide.{dec_lt, ℕ_discrete}
use native.Mathlib.Omega.{arith}
use lib.ListN.{get_or, length, length-take, set, take}
use lib.Seq.{get_or-take, take-set-le, take-set-lt}
use Rattle.tables.specs.Tables.{task_count}
use Rattle.index.specs.Answers.{moved}
use Rattle.index.specs.Code.{Checked}
use Rattle.index.specs.Counts.{Plan, column, gives, job_or_idle, entries_between, ticks}
use Rattle.index.specs.Refusals.{count_at, since}
use Rattle.index.specs.Rows.{Indexes, index_of, index_number, row_count, row_number, row_by_row, row_width}
use Rattle.index.proofs.Laws.Answers.{Replaceable}
use Rattle.index.proofs.Laws.Changes.{Stays, moved_before, moved_new, moved_old, moved_other, moved_same}
use Rattle.index.proofs.Laws.Counts.{gives_other, gives_own, ticks_between, ticks_set, ticks_take_most}
use Rattle.index.proofs.Laws.Rows.{length_row_by_row, row_by_row_at, row_by_row_same}

module _ (g : Plan) (schedule index : List ℕ) (is : Indexes g schedule index) where
  pub indexes_length : length index ≡ row_count g.horizon * row_width g.lists.tasks
  unfolding Indexes index_of
  indexes_length = ap length is ∙ length_row_by_row (row_width g.lists.tasks) (row_number g schedule) (row_count g.horizon)

  -- each number is the ticks before its row's multiple
  pub indexes_at : (r c : ℕ) → r < row_count g.horizon → c ≤ task_count g.lists.tasks → index_number g.lists.tasks index r c ≡ ticks g.lists c (take (r * 64) schedule)
  unfolding Indexes index_of index_number row_number
  indexes_at r c l m =
      ap (λ (x : List ℕ). get_or x (r * row_width g.lists.tasks + c) 0) is
      ∙ row_by_row_at (row_width g.lists.tasks) (row_number g schedule) (row_count g.horizon) r c l (omega arith)

  pub count_fresh : (c t : ℕ) → t ≤ g.horizon → c ≤ task_count g.lists.tasks → count_at g schedule index c t ≡ ticks g.lists c (take t schedule)
  unfolding count_at since
  count_fresh c t l m =
      ap (λ (n : ℕ). n + ticks g.lists c (entries_between (t / 64 * 64) t schedule)) (indexes_at (t / 64) c (omega arith) m)
      ∙ sym (ticks_between g.lists c schedule (t / 64 * 64) t (omega arith))

  -- the first end's count taken from the second's
  pub count_between : (c a b : ℕ) → a ≤ b → b ≤ g.horizon → c ≤ task_count g.lists.tasks
      → (count_at g schedule index c b - count_at g schedule index c a ≡ ticks g.lists c (entries_between a b schedule))
      × (count_at g schedule index c a ≤ count_at g schedule index c b) × (count_at g schedule index c b ≤ g.horizon)
  count_between c a b l m few =
      let first = count_fresh c a (omega arith) few in
      let second = count_fresh c b m few in
      let more = ticks_between g.lists c schedule a b l in
      let most = ticks_take_most g.lists c schedule b in
      (omega arith, omega arith, omega arith)

-- one entry replaced, both known
module _ (g : Plan) (schedule index : List ℕ) (tick entry : ℕ) (is : Indexes g schedule index) (there : tick < length schedule)
    (whole : length schedule ≡ g.horizon) (w : Checked g.lists)
    (old_known : job_or_idle g.lists.jobs (get_or schedule tick 0) ≡ true) (new_known : job_or_idle g.lists.jobs entry ≡ true) where
  abbrev old : ℕ
  old = column g.lists (get_or schedule tick 0)

  abbrev new : ℕ
  new = column g.lists entry

  -- the ticks before a row past the tick: the old entry is counted no longer, the new one is
  before_row : (r c : ℕ) → tick < r * 64
      → ticks g.lists c (take (r * 64) (set schedule tick entry)) + cond (gives g.lists c (get_or schedule tick 0)) 1 0
      ≡ ticks g.lists c (take (r * 64) schedule) + cond (gives g.lists c entry) 1 0
  before_row r c past =
      let inside : tick < length (take (r * 64) schedule) = simp length-take (omega arith) in
      ap₂ (λ (xs : List ℕ) (x : ℕ). ticks g.lists c xs + cond (gives g.lists c x) 1 0) (take-set-lt (r * 64) schedule tick entry past) (sym (get_or-take (r * 64) schedule tick 0 past))
      ∙ ticks_set g.lists c (take (r * 64) schedule) tick entry inside

  -- as a replacement makes them
  pub replaced_at : (r c : ℕ) → r < row_count g.horizon → c ≤ task_count g.lists.tasks → moved g.lists.tasks index tick old new r c ≡ row_number g (set schedule tick entry) r c
  unfolding row_number
  replaced_at r c l m = go (dec_lt tick (r * 64))
    where
      held : index_number g.lists.tasks index r c ≡ ticks g.lists c (take (r * 64) schedule)
      held = indexes_at g schedule index is r c l m

      row : tick < r * 64 → Dec (old ≡ new) → Dec (c ≡ old) → Dec (c ≡ new) → moved g.lists.tasks index tick old new r c ≡ ticks g.lists c (take (r * 64) (set schedule tick entry))
      row past (yes e) (yes a) d =
          let counts = before_row r c past in
          let lost = ap {B = ℕ} (λ (b : Bool). cond b 1 0) (ap (λ (k : ℕ). gives g.lists k (get_or schedule tick 0)) a ∙ gives_own g.lists (get_or schedule tick 0) old_known) in
          let gained = ap {B = ℕ} (λ (b : Bool). cond b 1 0) (ap (λ (k : ℕ). gives g.lists k entry) (a ∙ e) ∙ gives_own g.lists entry new_known) in
          moved_same g.lists.tasks index tick old new e r c ∙ held ∙ omega (arith, counts, lost, gained)
      row past (yes e) (no a) d =
          let counts = before_row r c past in
          let lost = ap {B = ℕ} (λ (b : Bool). cond b 1 0) (gives_other g.lists (get_or schedule tick 0) old_known c (λ q. a (sym q))) in
          let gained = ap {B = ℕ} (λ (b : Bool). cond b 1 0) (gives_other g.lists entry new_known c (λ q. a (sym q ∙ sym e))) in
          moved_same g.lists.tasks index tick old new e r c ∙ held ∙ omega (arith, counts, lost, gained)
      row past (no e) (yes a) d =
          let counts = before_row r c past in
          let lost = ap {B = ℕ} (λ (b : Bool). cond b 1 0) (ap (λ (k : ℕ). gives g.lists k (get_or schedule tick 0)) a ∙ gives_own g.lists (get_or schedule tick 0) old_known) in
          let gained = ap {B = ℕ} (λ (b : Bool). cond b 1 0) (gives_other g.lists entry new_known c (λ q. e (sym a ∙ sym q))) in
          let here : moved g.lists.tasks index tick old new r c ≡ index_number g.lists.tasks index r c - 1 = rw a (moved_old g.lists.tasks index tick old new e r past) in
          here ∙ omega (arith, counts, lost, gained, held)
      row past (no e) (no a) (yes b) =
          let counts = before_row r c past in
          let lost = ap {B = ℕ} (λ (b : Bool). cond b 1 0) (gives_other g.lists (get_or schedule tick 0) old_known c (λ q. a (sym q))) in
          let gained = ap {B = ℕ} (λ (b : Bool). cond b 1 0) (ap (λ (k : ℕ). gives g.lists k entry) b ∙ gives_own g.lists entry new_known) in
          let here : moved g.lists.tasks index tick old new r c ≡ index_number g.lists.tasks index r c + 1 = rw b (moved_new g.lists.tasks index tick old new e r past) in
          here ∙ omega (arith, counts, lost, gained, held)
      row past (no e) (no a) (no b) =
          let counts = before_row r c past in
          let lost = ap {B = ℕ} (λ (b : Bool). cond b 1 0) (gives_other g.lists (get_or schedule tick 0) old_known c (λ q. a (sym q))) in
          let gained = ap {B = ℕ} (λ (b : Bool). cond b 1 0) (gives_other g.lists entry new_known c (λ q. b (sym q))) in
          moved_other g.lists.tasks index tick old new r c a b ∙ held ∙ omega (arith, counts, lost, gained)

      go : Dec (tick < r * 64) → moved g.lists.tasks index tick old new r c ≡ ticks g.lists c (take (r * 64) (set schedule tick entry))
      go (yes past) = row past (ℕ_discrete old new) (ℕ_discrete c old) (ℕ_discrete c new)
      go (no past) =
          moved_before g.lists.tasks index tick old new r c (omega arith) ∙ held
          ∙ ap (ticks g.lists c) (sym (take-set-le (r * 64) schedule tick entry (omega arith)))

  pub replaced : Indexes g (set schedule tick entry) (row_by_row (row_width g.lists.tasks) (row_count g.horizon) (moved g.lists.tasks index tick old new))
  unfolding Indexes index_of
  replaced =
      row_by_row_same (row_width g.lists.tasks) (row_count g.horizon) (moved g.lists.tasks index tick old new) (row_number g (set schedule tick entry))
      (λ r c l m. replaced_at r c l (omega arith))

  -- no count leaves: the old entry is among those counted, and the new one not yet
  pub replaced_fits : Replaceable g index tick (get_or schedule tick 0) entry
  replaced_fits = record { old_known = old_known; new_known = new_known; each = λ apart r l past. row apart r l past }
    where
      row : (old ≡ new → ⊥) → (r : ℕ) → r < row_count g.horizon → tick < r * 64 → Stays g.horizon (index_number g.lists.tasks index r old) (index_number g.lists.tasks index r new)
      row apart r l past =
          let loses = indexes_at g schedule index is r old l (w.within (get_or schedule tick 0) old_known) in
          let gains = indexes_at g schedule index is r new l (w.within entry new_known) in
          let counts = before_row r old past in
          let own = ap {B = ℕ} (λ (b : Bool). cond b 1 0) (gives_own g.lists (get_or schedule tick 0) old_known) in
          let none = ap {B = ℕ} (λ (b : Bool). cond b 1 0) (gives_other g.lists entry new_known old (λ q. apart (sym q))) in
          let others = before_row r new past in
          let not_yet = ap {B = ℕ} (λ (b : Bool). cond b 1 0) (gives_other g.lists (get_or schedule tick 0) old_known new apart) in
          let soon = ap {B = ℕ} (λ (b : Bool). cond b 1 0) (gives_own g.lists entry new_known) in
          let most = ticks_take_most g.lists old schedule (r * 64) in
          let more = ticks_take_most g.lists new (set schedule tick entry) (r * 64) in
          record {
            some_left = omega (arith, loses, counts, own, none);
            loses_most = omega (arith, loses, most);
            gains_most = omega (arith, gains, others, not_yet, soon, more);
          }
