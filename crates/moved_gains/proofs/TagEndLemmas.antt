-- Where the tag begins, and where it ends.
use Rattle.std.proofs.Common.{arith, ◌+◌, ◌≤◌}
use Rattle.moved_gains.proofs.{FoundTagLemmas.{last-within, tag-within}, TagExtentLemmas.tag_none}
use Rattle.moved_gains.proofs.TagReadingLemmas.{place-some}
use Rattle.moved_gains.specs.TagExtent.{tag_length, tag_offset}
use Rattle.sync_survey.specs.{Faults.{longest_file, SurveyFields}, Survey.IsSurveyLaidOut}

-- the tag, or the offset for one, is within the file
pub tag_end-most : {s : SurveyFields} → IsSurveyLaidOut s
    → tag_offset s + tag_length s ≤ longest_file
tag_end-most laid = grind (arith, tag_none, last-within, place-some, tag-within)
