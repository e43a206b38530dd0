-- The frames are of the class of the survey.
use Rattle.std.proofs.Common.{◌∙◌}
use Rattle.list_edits.proofs.TotalsLemmas.{classed}
use Rattle.list_edits.proofs.totals.totals_in.Goals as goal

pub totals_of-requires-clause-classed : goal.totals_of-requires-clause-classed
totals_of-requires-clause-classed c =
    classed c.requires.laid c.frames-rows.ensures
    (c.known_stereo.ensures ∙ c.class-class.ensures)

pub totals_of-requires-in_default-clause-classed : goal.totals_of-requires-in_default-clause-classed
totals_of-requires-in_default-clause-classed c =
    classed c.requires.laid c.frames-rows.ensures
    c.class-class.ensures
