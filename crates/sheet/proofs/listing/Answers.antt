-- The sheet says whether the text is formed, and its lists are the text's.
use Prim.Native.Nat.{ℕ, ◌≤◌}
use mathlib.Core.List.{List}
use mathlib.Core.Path.{sym, ◌∙◌, ◌≡◌}
use native.Mathlib.Omega.{arith}
use lib.ListN.{length}
use lib.Seq.{length-take-le}
use borrow.Author.Rules.{rules}
use Rattle.text.specs.Wrote.{Put, Wrote}
use Rattle.sheet.specs.Listing.{listing}
use Rattle.sheet.proofs.Promise.{listing_fits, listing_formed, listing_malformed}
use Rattle.sheet.proofs.Laws.WellFormed.{well_formed, unformed}
use Rattle.sheet.proofs.listing.Goals as goal

-- bytes that are the listing, written
written : (text : List ℕ) {bytes l m : List ℕ} {k : ℕ} → bytes ≡ listing text → 600000 ≤ length l → Put l 0 bytes m k → Wrote l 0 (listing text) m k × (k ≤ length m)
written text is room put = listing_fits text room (rw is at put)

pub returns-in_default : goal.returns-in_default
returns-in_default c =
    let text = c.args.input.now in
    let bad = unformed text (sym c.parse.ensures ∙ c.in_default.is) in
    let both = written text (listing_malformed text bad) (search rules) c.put_refused.ensures in
    record { writes = both.0; fits = both.1 }

pub overflow_mul-n : goal.overflow_mul-n
overflow_mul-n c = omega (arith, (well_formed c.args.input.now (sym c.parse.ensures ∙ c.in-Some.is)).few_tasks)

pub overflow_mul-m : goal.overflow_mul-m
overflow_mul-m c = omega (arith, (well_formed c.args.input.now (sym c.parse.ensures ∙ c.in-Some.is)).few_jobs)

pub slice_bounds-table-end : goal.slice_bounds-table-end
slice_bounds-table-end c = (well_formed c.args.input.now (sym c.parse.ensures ∙ c.in-Some.is)).tasks_fit

pub slice_bounds-put_sheet-end-2 : goal.slice_bounds-put_sheet-end-2
slice_bounds-put_sheet-end-2 c = sym (length-take-le _ _ (well_formed c.args.input.now (sym c.parse.ensures ∙ c.in-Some.is)).tasks_fit)

pub slice_bounds-list-end : goal.slice_bounds-list-end
slice_bounds-list-end c = (well_formed c.args.input.now (sym c.parse.ensures ∙ c.in-Some.is)).jobs_fit

pub slice_bounds-put_sheet-end-3 : goal.slice_bounds-put_sheet-end-3
slice_bounds-put_sheet-end-3 c = sym (length-take-le _ _ (well_formed c.args.input.now (sym c.parse.ensures ∙ c.in-Some.is)).jobs_fit)

pub returns : goal.returns
returns c =
    let text = c.args.input.now in
    let both = written text (listing_formed text (well_formed c.args.input.now (sym c.parse.ensures ∙ c.in-Some.is))) (search rules) c.put_sheet.ensures in
    record { writes = both.0; fits = both.1 }
