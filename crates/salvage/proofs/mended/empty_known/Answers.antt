-- If no frame becomes an empty one, all are unchanged.
use Rattle.std.proofs.{Common.{ap, length, List, sym, ◌∙◌}, lemmas.Bool.eqb-true}
use Rattle.std.proofs.lemmas.List.{nil_from_length}
use Rattle.salvage.proofs.MendedLemmas.{mended_none}
use Rattle.sync_survey.specs.{Faults.survey_view, Row.Row}
use Rattle.salvage.proofs.mended.empty_known.Goals as goal

pub returns-else-not-is_empty : goal.returns-else-not-is_empty
returns-else-not-is_empty c =
    let known = c.args.known.now in
    let s = survey_view c.args.survey.now in
    ap (λ (l : List Row). record s { frames = l })
    (sym (mended_none 0 s.frames (sym c.requires
    ∙ nil_from_length known (eqb-true (length known) 0 (sym c.if-not-is_empty.ensures)))))
