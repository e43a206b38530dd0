-- Side information with moved gains still fits its class.
use Rattle.std.proofs.Common.{arith, Bool, MatchBool, ℤ, ◌≡◌}
use Rattle.frame_header.specs.{Fields.ClassFields, declared.version.Version.Version}
use Rattle.moved_gains.specs.Gains.{moved_granule, moved_side}
use Rattle.requests.specs.declared.shift.Steps.{Steps}
use Rattle.side_info.{proofs.SideLemmas.granules_fit, specs.Granule.{GranuleFits, no_granule}}
use Rattle.side_info.specs.{Side.SideFits, declared.{granule.Granule.Granule, side.Side.Side}}

-- a granule that the class lacks stays
moved_at : (version : Version) (has : Bool) (steps : ℤ) (g : Granule)
    → MatchBool has (GranuleFits version g) (g ≡ no_granule) → MatchBool has
    (GranuleFits version (moved_granule steps g)) (moved_granule steps g ≡ no_granule)
moved_at version has steps g fits = grind arith

-- side information with moved gains still has its fields within their bits
pub SideFits-moved_side : {c : ClassFields} (steps : Steps) {s : Side} → SideFits c s
    → SideFits c (moved_side steps s)
unfolding moved_side
SideFits-moved_side steps fits = grind (arith, granules_fit, moved_at)
