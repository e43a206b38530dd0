-- The commands that choose frames of one file.
use Rattle.std.proofs.Common.{ap, append-nil, length, List, Ok, refl, subst, sym, ℕ, [], ◌∷◌, ◌≡◌}
use Rattle.std.specs.Prelude.{slice_range, ◌<◌, ◌≤◌}
use Rattle.chosen_streams.{proofs.ExactLemmas.planned-exact, specs.Exact.IsExactly}
use Rattle.chosen_streams.specs.Laws.{ChosenPlansAreFirst, ChosenStreamsAreExact}
use Rattle.commands.specs.SingleOutput.{most_frames}
use Rattle.cut_edits.proofs.ChosenLemmas.{the-plan}
use Rattle.cut_edits.specs.Chosen.{AreUsualChoices, Chosen, chosen_file_part, chosen_needs}
use Rattle.cut_edits.specs.Chosen.{first_plan, placed_part}
use Rattle.frame_header.specs.{Fields.{HeaderFields, SlotFields}, Tables.window_of}
use Rattle.laying.{proofs.SurveyFrameLemmas.survey-had, specs.Laid.stream_laid}
use Rattle.laying.specs.Relaid.{FilePart, IsPart, part_stream, stream_with_lead_ins}
use Rattle.laying.specs.Surveys.{CanBeRelaid}
use Rattle.slot_plan.specs.{Plans.IsPlan, declared.needs.Placed.Placed}
use Rattle.sync_survey.proofs.SurveyPartsLemmas.{survey_fields-stream}
use Rattle.sync_survey.proofs.SurveyedFileLemmas.{survey_of-parts}
use Rattle.sync_survey.specs.Faults.{stream_of, stream_of_survey, SurveyFields}
use Rattle.sync_survey.specs.{MainData.StreamFrame, Survey.survey_of}

-- ---- frames of a file with a survey, whether or not it is without fault

module _ (chosen : Chosen) {file : List ℕ} {s : SurveyFields} (has : CanBeRelaid file s)
    (some : chosen.from < chosen.to) (within : chosen.to ≤ length s.frames) where
  abbrev part : FilePart
  part = chosen_file_part chosen file s

  -- the chosen frames of a file with such a survey are a part
  pub had-part : IsPart s.class part
  had-part = record { has = has; class = refl; some = some; within = within }

  module _ {choices : HeaderFields → List SlotFields} (usual : AreUsualChoices choices) where
    abbrev first : List Placed
    first = first_plan choices s.class (chosen_needs chosen s)

    -- the first of all lists with a layout is their plan
    pub had-plan : IsPlan (window_of s.class.version) choices (chosen_needs chosen s ∷ []) first
    had-plan = the-plan chosen s has.placed some within usual

    -- the stream laid by that plan is exactly the frames, after at most one lead-in
    pub had-exact : IsExactly (part_stream part ∷ [])
        (stream_with_lead_ins first (part_stream part))
    had-exact =
        subst (λ (l : List StreamFrame). IsExactly (part_stream part ∷ [])
        (stream_with_lead_ins first l))
        (append-nil (part_stream part))
        (planned-exact s.class choices (part ∷ []) first (had-part, tt) had-plan)

-- ---- frames of a file without fault

-- the stream of a surveyed file is the stream of its survey
pub stream-is : (file : List ℕ) (allowed : ℕ) {s : SurveyFields} → survey_of file allowed ≡ Ok s
    → stream_of file ≡ stream_of_survey file s
stream-is file allowed {s} is =
    (survey_fields-stream file allowed s (survey_of-parts file allowed is).1).stream_is

module _ (chosen : Chosen) (file : List ℕ) {s : SurveyFields} (is : survey_of file most_frames
    ≡ Ok s) (some : chosen.from < chosen.to) (within : chosen.to ≤ length s.frames) where
  abbrev had : CanBeRelaid file s
  had = survey-had most_frames is

  -- the chosen frames are a part by any survey without fault
  pub chosen-part : IsPart s.class (chosen_file_part chosen file s)
  chosen-part = had-part chosen had some within

  -- the chosen frames are the stream of the part
  pub own-stream : slice_range (stream_of file) chosen.from chosen.to
      ≡ part_stream (chosen_file_part chosen file s)
  own-stream = ap (λ (l : List StreamFrame). slice_range l chosen.from chosen.to)
      (stream-is file most_frames is)

  -- their stream by a usual plan is exactly these frames, after at most one lead-in
  pub chosen-exact_is : {choices : HeaderFields → List SlotFields} → AreUsualChoices choices
      → IsExactly (slice_range (stream_of file) chosen.from chosen.to ∷ [])
      (stream_laid (placed_part chosen (first_plan choices s.class (chosen_needs chosen s))) file s)
  chosen-exact_is {choices} usual =
      subst (λ (l : List StreamFrame). IsExactly (l ∷ []) (stream_with_lead_ins
      (first_plan choices s.class (chosen_needs chosen s))
      (part_stream (chosen_file_part chosen file s))))
      (sym own-stream) (had-exact chosen had some within usual)

-- the stream of chosen frames is exactly these, after at most one lead-in
pub chosen-exact : ChosenStreamsAreExact
chosen-exact = λ choices chosen file s usual is some within. chosen-exact_is chosen file is some
    within usual

-- their plan is the first of all lists with a layout
pub plans-first : ChosenPlansAreFirst
plans-first = λ choices chosen file s usual is some within. had-plan chosen
    (survey-had most_frames is) some within usual
