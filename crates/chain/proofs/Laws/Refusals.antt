-- Laws of the checks: 21 as the code makes it, and what a trailer that passes 21 and 22 says of its places.
use Prim.Native.Nat.{ℕ, ◌+◌, ◌-◌, ◌<◌, ◌≤◌}
use mathlib.Core.Bool.{Bool, false, ◌||◌}
use mathlib.Core.List.{List}
use mathlib.Core.Path.{ap, ◌≡◌}
use native.Mathlib.Decide.{dec_lt}
use native.Mathlib.Omega.{arith}
use lib.Dec.{ltb}
use lib.ListN.{length}
use borrow.Author.Tests.{eq-eqb, le-ltb, lt-ltb, ltb-false, ltb-true, ne_eqb}
use Rattle.bits.proofs.Laws.Bools.{or_left_false, or_right, or_right_false, same_test}
use Rattle.tables.specs.Outcomes.{Done, Refused}
use Rattle.tables.specs.Refusals.{before, refuse}
use Rattle.tables.proofs.Laws.Refusals.{before_first, before_second, refuse_fine}
use Rattle.chain.specs.declared.layout.Layout.{Layout}
use Rattle.chain.specs.declared.trailer.Trailer.{Trailer}
use Rattle.chain.specs.Layout.{known}
use Rattle.chain.specs.Refusals.{check21, check22, check_trailer}
use Rattle.chain.specs.Trailer.{end_of, misfits, none, trailer_at}

module _ (bytes used at : ℕ) where
  -- where fewer than 16 bytes are used, no trailer is whole
  short_21 : used < 16 → Refused 21 0 ≡ check21 bytes used at
  unfolding check21 refuse
  short_21 h = rw (or_right (ltb bytes used) (lt-ltb used (at + 16) (omega arith)))

  whole_21 : 16 ≤ used → refuse (ltb bytes used || ltb (used - 16) at) 21 0 ≡ check21 bytes used at
  unfolding check21
  whole_21 h =
      ap (λ (b : Bool). refuse (ltb bytes used || b) 21 0)
      (same_test (ltb (used - 16) at) (ltb used (at + 16)) (λ t. lt-ltb used (at + 16) (omega (arith, ltb-true (used - 16) at t)))
      (λ t. lt-ltb (used - 16) at (omega (arith, ltb-true used (at + 16) t))))

  -- as the code has it, so that no difference is below 0
  pub code_21 : before (refuse (ltb used 16) 21 0) (refuse (ltb bytes used || ltb (used - 16) at) 21 0) ≡ check21 bytes used at
  unfolding before refuse
  code_21 = go (dec_lt used 16)
    where
      go : Dec (used < 16) → before (refuse (ltb used 16) 21 0) (refuse (ltb bytes used || ltb (used - 16) at) 21 0) ≡ check21 bytes used at
      go (yes few) = rw (lt-ltb used 16 few) (short_21 few)
      go (no enough) = rw (le-ltb used 16 (omega arith)) (whole_21 (omega arith))

  -- a whole trailer within the used bytes
  pub record WholeTrailer : Type 0 where
    pub fits : used ≤ bytes
    pub ends : at + 16 ≤ used

  pub whole_trailer : check21 bytes used at ≡ Done → WholeTrailer
  unfolding check21
  whole_trailer ok =
      let tests = refuse_fine _ 21 0 ok in
      record {
        fits = ltb-false bytes used (or_left_false (ltb bytes used) (ltb used (at + 16)) tests);
        ends = ltb-false used (at + 16) (or_right_false (ltb bytes used) (ltb used (at + 16)) tests);
      }

module _ (reader : Layout) (t : Trailer) (at : ℕ) where
  -- places that keep the rules
  pub record Kept : Type 0 where
    pub behind : end_of t.before ≤ t.start
    pub within : t.start ≤ at
    pub fills : misfits (known reader t.layout) t at ≡ false

  pub places_kept : check22 reader t at ≡ Done → Kept
  unfolding check22
  places_kept ok =
      let tests = refuse_fine _ 22 0 ok in
      let early = ltb t.start (end_of t.before) in
      let late = ltb at t.start in
      record {
        behind = ltb-false t.start (end_of t.before) (or_left_false early late (or_left_false _ (misfits (known reader t.layout) t at) tests));
        within = ltb-false at t.start (or_right_false early late (or_left_false _ (misfits (known reader t.layout) t at) tests));
        fills = or_right_false (early || late) (misfits (known reader t.layout) t at) tests;
      }

-- a trailer that passes both
module _ (reader : Layout) (file : List ℕ) (used at : ℕ) (ok : check_trailer reader file used at ≡ Done) where
  pub trailer_whole : WholeTrailer (length file) used at
  unfolding check_trailer
  trailer_whole = whole_trailer (length file) used at (before_first (check21 (length file) used at) _ ok)

  pub trailer_kept : Kept reader (trailer_at file at) at
  unfolding check_trailer
  trailer_kept = places_kept reader (trailer_at file at) at (before_second (check21 (length file) used at) _ ok)

pub trailer_short : (reader : Layout) (file : List ℕ) (used at : ℕ) → used < 16 → check_trailer reader file used at ≡ Refused 21 0
unfolding check_trailer before
trailer_short reader file used at h = rw (← short_21 (length file) used at h)

-- ## The other way round

pub wholly : (bytes used at : ℕ) → WholeTrailer bytes used at → check21 bytes used at ≡ Done
unfolding check21 refuse
wholly bytes used at w = rw (le-ltb bytes used w.fits, le-ltb used (at + 16) w.ends)

pub kept_passes : (reader : Layout) (t : Trailer) (at : ℕ) → Kept reader t at → check22 reader t at ≡ Done
unfolding check22 refuse
kept_passes reader t at w = rw (le-ltb t.start (end_of t.before) w.behind, le-ltb at t.start w.within, w.fills)

-- where the preceding trailer ends
pub end_of_none : (place : ℕ) → place ≡ none → end_of place ≡ 0
unfolding end_of
end_of_none place e = rw (eq-eqb place none e)

pub end_of_place : (place : ℕ) → (place ≡ none → ⊥) → end_of place ≡ place + 16
unfolding end_of
end_of_place place some = rw (ne_eqb place none some)
