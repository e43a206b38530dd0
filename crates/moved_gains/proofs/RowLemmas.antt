-- What is true of each row.
use Rattle.std.proofs.Common.{List, [], ◌++◌, ◌∷◌}
use Rattle.sync_survey.specs.Row.{Row}

abbrev pub Each : (Row → Type 0) → List Row → Type 0
Each P [] = Unit {0}
Each P (row ∷ rows) = P row × Each P rows

-- what is true of all rows is true of the first ones
pub each_before : (P : Row → Type 0) (before behind : List Row) → Each P (before ++ behind)
    → Each P before
each_before P [] behind each = tt
each_before P (row ∷ before) behind each = (each.0, each_before P before behind each.1)

-- what is true of all rows is true of the last ones
pub each_behind : (P : Row → Type 0) (before behind : List Row) → Each P (before ++ behind)
    → Each P behind
each_behind P [] behind each = each
each_behind P (row ∷ before) behind each = each_behind P before behind each.1
