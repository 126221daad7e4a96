-- The mean and the extremes said in numbers: none is 0. Equal numbers are equal answers (proofs/Laws/Mean and Extremes).
use Rattle.std.specs.Prelude.{ℕ, List, [], ◌∷◌, Option, Some, None}
use Rattle.season.specs.declared.answers.Extremes.{Extremes}
use Rattle.season.specs.declared.answers.Mean.{Mean}

-- No mean is 0; a mean is its three numbers.
unfoldable pub mean_said : Option Mean → List ℕ
mean_said None = 0 ∷ []
mean_said (Some mean) = mean.quotient ∷ mean.remainder ∷ mean.count ∷ []

-- None are 0; else they are the two numbers.
unfoldable pub extremes_said : Option Extremes → List ℕ
extremes_said None = 0 ∷ []
extremes_said (Some extremes) = extremes.least ∷ extremes.greatest ∷ []
