-- "Layout 1 is document 01's seven numbers per task; layout 2 adds an eighth, a label."
use Rattle.std.specs.Prelude.{ℕ, cond, eqb, Option, Some, None}
use Rattle.chain.specs.declared.layout.Layout.{Layout}
use Rattle.chain.specs.declared.layout.Layout.TheVariants.{One, Two}

-- numbers per task
abbrev pub width : Layout → ℕ
width One = 7
width Two = 8

-- the layout number of a trailer
abbrev pub number_of : Layout → ℕ
number_of One = 1
number_of Two = 2

-- The layout that a number names, to a reader: a reader of layout 1 knows that layout, a reader of layout 2 knows both.
unfoldable pub known : Layout → ℕ → Option Layout
known One number = cond (eqb number 1) (Some One) None
known Two number = cond (eqb number 1) (Some One) (cond (eqb number 2) (Some Two) None)
