use Rattle.std.proofs.Common.{◌≡◌, drop}
use Rattle.figures.specs.Bands.{band_of}
use Rattle.figures.proofs.band.find_band.Given as goal

-- no row so far reaches `at`
abbrev pub invariant-loop-row : goal.invariant-loop-row
invariant-loop-row g l = band_of l.above l.rows l.at ≡ band_of l.above (drop l.row-index l.rows) l.at
