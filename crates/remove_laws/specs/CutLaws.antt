-- The law of stretches that leave one part, whatever the code: it is what `cut` leaves.
use Rattle.std.specs.Prelude.{length, List, None, Ok, replicate, ℕ, [], ◌∷◌, ◌≡◌}
use Rattle.commands.specs.SingleOutput.{most_frames}
use Rattle.cue_sheet.specs.{Places.frame_at, declared.place.Place.Place}
use Rattle.cut_edits.specs.Chosen.{Chosen, chosen_stream, cut_choice, first_planning, laying_making}
use Rattle.cut_edits.specs.{Chosen.own_slots_part, Exact.survey_without_head}
use Rattle.exact_span.specs.declared.exact_place.ExactPlace.{ExactPlace}
use Rattle.laying.specs.{KeptFields.fields_of_head, Laid.frames_laid, NeedsFit.own_choice}
use Rattle.remove_edits.specs.Removed.{parts_left, removal_frames, removal_kept, removal_plan}
use Rattle.remove_edits.specs.Removed.{removal_stream, remove_making}
use Rattle.seam_plan.specs.declared.stretches.Part.{Part}
use Rattle.sync_survey.specs.{Faults.SurveyFields, Survey.survey_of}

-- the frames of a part, as `cut` chooses them
abbrev pub chosen_part : Part → Chosen
chosen_part part = record {
  from = part.from;
  to = part.to;
  quality = None;
  extension = replicate 36 0;
}

-- these positions name the first frame of the part and the frame after its last
pub record NamePart (s : SurveyFields) (part : Part) (from to : Place) : Type 0 where
  pub first : frame_at s.class (length s.frames) from ≡ part.from
  pub end : frame_at s.class (length s.frames) to ≡ part.to

-- the part that stays of a file is what `cut` leaves between two positions: it
-- chooses these frames, in these slots, with the same main data and the same stream
pub record IsCutPart (file : List ℕ) (s : SurveyFields) (part : Part) (from to : Place)
    : Type 0 where
  pub chosen : cut_choice from to file s ≡ Ok (chosen_part part)
  pub slots : removal_plan s (part ∷ []) ≡ (own_slots_part (chosen_part part) s).placed
  pub frames : removal_frames (part ∷ []) file s
      ≡ frames_laid (own_slots_part (chosen_part part) s) file s
  pub stream : removal_stream (part ∷ []) file s ≡ chosen_stream (chosen_part part) file s

-- What `remove` leaves if one part stays, and setting the head apart changes nothing.
-- Where no delay and no padding are written, it makes the file that `cut` makes.
pub record RemovesAsCut (stretches : List (ExactPlace × ExactPlace)) (file : List ℕ)
    (s : SurveyFields) (part : Part) (from to : Place) : Type 0 where
  pub part_is : IsCutPart file s part from to
  pub same : removal_kept (fields_of_head file s.head) s (part ∷ []) ≡ None
      → remove_making stretches file s
      ≡ laying_making (cut_choice from to) (first_planning own_choice) file s

-- this holds of each file that is accepted, and of all stretches that leave one part of it
abbrev pub RemoveToTheEndIsCut : Type 0
RemoveToTheEndIsCut =
    (stretches : List (ExactPlace × ExactPlace)) (file : List ℕ) (s : SurveyFields) (part : Part)
    (from to : Place) → survey_of file most_frames ≡ Ok s
    → parts_left stretches s ≡ Ok (part ∷ []) → survey_without_head s ≡ s → NamePart s part from to
    → RemovesAsCut stretches file s part from to
