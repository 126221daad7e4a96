-- The table's numbers, and the trailer's behind them.
use mathlib.Core.Path.{ap}
use native.Mathlib.Omega.{arith}
use lib.ListN.{length}
use Rattle.bits.proofs.Laws.Lists.{sets_length}
use Rattle.tables.specs.Bytes.{bytes_of}
use Rattle.chain.specs.Trailer.{trailer_numbers}
use Rattle.chain.proofs.Laws.Appending.{written_both}
use Rattle.chain.proofs.appending.put_table.Goals as goal

pub put_numbers-at-requires : goal.put_numbers-at-requires
put_numbers-at-requires c = omega (arith, c.requires.table_in_bounds)

pub put_numbers-requires : goal.put_numbers-requires
unfolding trailer_numbers
put_numbers-requires c =
    let a = c.args in
    omega (
      arith,
      sets_length a.file.now (bytes_of 4 a.table.now) a.used c.put_numbers-at.ensures.writes,
      c.put_numbers-at.ensures.ends,
      ap length c.trailer_numbers-trailer.ensures,
      c.requires.table_in_bounds,
    )

pub returns : goal.returns
unfolding trailer_numbers
returns c =
    let a = c.args in record {
      writes = written_both a.layout a.file.now a.used a.table.now _ _ _ _ c.put_numbers.ensures.writes
          c.put_numbers-at.ensures.writes c.put_numbers-at.ensures.ends c.trailer_numbers-trailer.ensures;
      ends = omega (arith, c.put_numbers.ensures.ends, c.put_numbers-at.ensures.ends, ap length c.trailer_numbers-trailer.ensures);
    }
