-- A file without a tag has the empty one.
use Rattle.std.proofs.Common.{ap, Ok, sym, ◌∙◌}
use Rattle.moved_gains.proofs.TagReadingLemmas.{file_tag-none}
use Rattle.sync_survey.specs.Faults.{survey_view}
use Rattle.moved_gains.proofs.tag_reading.read_tag.Goals as goal

pub returns-in-None-clause-exact : goal.returns-in-None-clause-exact
returns-in-None-clause-exact g c =
    λ bytes holds. file_tag-none bytes (survey_view c.args.survey.now)
    (sym c.first_tag.ensures ∙ c.in-None.is) ∙ ap Ok (sym c.new.ensures)
