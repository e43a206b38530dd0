-- One file cut at positions, or at places of samples: the frames between two neighbouring ones are
-- a piece, a file of its own.
use Rattle.std.specs.Prelude.{Bool, Err, false, List, map, Ok, Option, Result, true, ℕ, [], ◌++◌}
use Rattle.std.specs.Prelude.{◌||◌, ◌∷◌}
use Rattle.commands.specs.{Command.Command, Refusing.then_made}
use Rattle.commands.specs.Sheet.{sheet_in, sheet_read, sheet_refuses}
use Rattle.commands.specs.declared.fault.EditFault.{EditFault, TheVariants.Refused}
use Rattle.commands.specs.declared.fault.Refusal.{Refusal, TheVariants.Sheet}
use Rattle.cue_sheet.specs.{Cues.cue_of, Places.IsPlace, declared.cue_fault.CueFault.CueFault}
use Rattle.cue_sheet.specs.declared.cue_fault.CueFault.TheVariants.{Memory as NoRoom}
use Rattle.cue_sheet.specs.declared.place.Place.{Place, TheVariants.End}
use Rattle.cut_edits.specs.Chosen.{cut_choice, cut_refuses, first_planning, laying_part}
use Rattle.cut_edits.specs.Exact.{exact_part, exact_refuses, survey_without_head}
use Rattle.exact_span.specs.{Places.IsExactPlace, declared.exact_place.ExactPlace.ExactPlace}
use Rattle.exact_span.specs.declared.exact_place.ExactPlace.TheVariants.{Place as Position}
use Rattle.laying.specs.{Laid.LaidPart, NeedsFit.own_choice}
use Rattle.outside.specs.Files.{Contents}
use Rattle.split_edits.specs.Cutting.{ArePlaces, Cutting, split_command}
use Rattle.split_edits.specs.declared.exact_points.ExactPoints.{ExactPoints}
use Rattle.split_edits.specs.declared.exact_points.ExactPoints.TheVariants.{Places as ExactPlaces}
use Rattle.split_edits.specs.declared.exact_points.ExactPoints.TheVariants.{Sheet as InExactSheet}
use Rattle.split_edits.specs.declared.points.Points.{Points, TheVariants.{Places, Sheet as InSheet}}
use Rattle.sync_survey.specs.Faults.{SurveyFields}

-- ---- a cue sheet

-- the starts of the tracks, and the end
abbrev pub places_to_end : Result (List Place) CueFault → Result (List Place) EditFault
places_to_end (Ok starts) = Ok (starts ++ End ∷ [])
places_to_end (Err fault) = Err (Refused (Sheet fault))

-- the positions that the bytes of a cue sheet list
abbrev pub places_in : List ℕ → Result (List Place) EditFault
places_in sheet = then_made (sheet_read sheet) (λ bytes. places_to_end (cue_of bytes))

-- the positions that the sheet lists, if it is there
abbrev pub cue_sheet_places : Option (List ℕ) → Result (List Place) EditFault
cue_sheet_places sheet = then_made (sheet_in sheet) (λ bytes. places_to_end (cue_of bytes))

-- the fault is one of the sheet's bytes
abbrev pub is_cue_fault : CueFault → Bool
is_cue_fault NoRoom = false
is_cue_fault _ = true

-- the refusals that a sheet may cause
abbrev pub cue_sheet_refuses : Refusal → Bool
cue_sheet_refuses (Sheet fault) = is_cue_fault fault
cue_sheet_refuses refusal = sheet_refuses refusal

-- ---- cut at positions

-- what `cut` lays when it keeps the slots of the frames
abbrev pub cut_part : Place → Place → List ℕ → SurveyFields → Result LaidPart EditFault
cut_part from to = laying_part (cut_choice from to) (first_planning own_choice)

-- the refusals that positions may cause, and those that a sheet may cause too
abbrev pub sheet_cut_refuses : Refusal → Bool
sheet_cut_refuses refusal = cut_refuses refusal || cue_sheet_refuses refusal

-- a cutting at positions, which further inputs may give
abbrev pub frame_cutting : List (List ℕ) → (Contents → Result (List Place) EditFault)
    → (Refusal → Bool) → Cutting Place
frame_cutting more places refuses = record {
  more = more;
  places = places;
  between = cut_part;
  survey = λ s. s;
  refuses = refuses;
}

-- a cutting at these positions
abbrev pub given_cutting : List Place → Cutting Place
given_cutting places = frame_cutting [] (λ files. Ok places) cut_refuses

-- a cutting at the starts in a sheet of this name
abbrev pub sheet_cutting : List ℕ → Cutting Place
sheet_cutting sheet =
    frame_cutting (sheet ∷ []) (λ files. cue_sheet_places (files sheet)) sheet_cut_refuses

-- the input is cut at these positions
abbrev pub split_at_command : List Place → List ℕ → List ℕ → Command
split_at_command places input prefix = split_command (given_cutting places) input prefix

-- the input is cut at the starts that the sheet lists
abbrev pub split_by_command : List ℕ → List ℕ → List ℕ → Command
split_by_command input sheet prefix = split_command (sheet_cutting sheet) input prefix

-- the further inputs if positions are given, or listed in a sheet: none, or the sheet
abbrev pub more_of : Points → List (List ℕ)
more_of (Places places) = []
more_of (InSheet sheet) = sheet.now ∷ []

-- the positions that are given, or listed in the sheet
abbrev pub points_places : Points → Contents → Result (List Place) EditFault
points_places (Places places) files = Ok places.now
points_places (InSheet sheet) files = cue_sheet_places (files sheet.now)

-- the refusals that these positions may cause
abbrev pub refuses_of : Points → Refusal → Bool
refuses_of (Places places) = cut_refuses
refuses_of (InSheet sheet) = sheet_cut_refuses

-- the cutting at these positions
abbrev pub cutting_of : Points → Cutting Place
cutting_of points = frame_cutting (more_of points) (points_places points) (refuses_of points)

-- the input is cut at these positions
abbrev pub split_command_of : Points → List ℕ → List ℕ → Command
split_command_of points input prefix = split_command (cutting_of points) input prefix

-- there are 2 to 100 positions, and each is sound: a time has 1 to 100 parts per second
abbrev pub ArePositions : List Place → Type 0
ArePositions places = ArePlaces IsPlace places

-- given positions are sound
abbrev pub ArePoints : Points → Type 0
ArePoints (Places places) = ArePositions places.now
ArePoints (InSheet sheet) = Unit {0}

-- ---- cut at places of samples

-- the refusals that places may cause, and those that a sheet may cause too
abbrev pub sheet_exact_refuses : Refusal → Bool
sheet_exact_refuses refusal = exact_refuses refusal || cue_sheet_refuses refusal

-- positions are places of samples too
abbrev pub exact_places_result : Result (List Place) EditFault → Result (List ExactPlace) EditFault
exact_places_result places = then_made places (λ list. Ok (map Position list))

-- a cutting at places of samples: what `cut_exact` lays, with the survey whose head is set apart
abbrev pub sample_cutting : List (List ℕ) → (Contents → Result (List ExactPlace) EditFault)
    → (Refusal → Bool) → Cutting ExactPlace
sample_cutting more places refuses =
    record {
      more = more;
      places = places;
      between = exact_part;
      survey = survey_without_head;
      refuses =
          refuses;
    }

-- a cutting at these places of samples
abbrev pub given_exact_cutting : List ExactPlace → Cutting ExactPlace
given_exact_cutting places = sample_cutting [] (λ files. Ok places) exact_refuses

-- a cutting at the starts in a sheet of this name
abbrev pub sheet_exact_cutting : List ℕ → Cutting ExactPlace
sheet_exact_cutting sheet =
    sample_cutting (sheet ∷ [])
    (λ files. exact_places_result (cue_sheet_places (files sheet))) sheet_exact_refuses

-- the input is cut at these places
abbrev pub split_exact_at_command : List ExactPlace → List ℕ → List ℕ → Command
split_exact_at_command places input prefix = split_command (given_exact_cutting places) input prefix

-- the input is cut at the starts that the sheet lists
abbrev pub split_exact_by_command : List ℕ → List ℕ → List ℕ → Command
split_exact_by_command input sheet prefix = split_command (sheet_exact_cutting sheet) input prefix

-- the further inputs if places of samples are given, or listed in a sheet: none, or the sheet
abbrev pub exact_more_of : ExactPoints → List (List ℕ)
exact_more_of (ExactPlaces places) = []
exact_more_of (InExactSheet sheet) = sheet.now ∷ []

-- the places that are given, or listed in the sheet
abbrev pub exact_places_of : ExactPoints → Contents → Result (List ExactPlace) EditFault
exact_places_of (ExactPlaces places) files = Ok places.now
exact_places_of (InExactSheet sheet) files =
    exact_places_result (cue_sheet_places (files sheet.now))

-- the refusals that these places may cause
abbrev pub exact_refuses_of : ExactPoints → Refusal → Bool
exact_refuses_of (ExactPlaces places) = exact_refuses
exact_refuses_of (InExactSheet sheet) = sheet_exact_refuses

-- the cutting at these places
abbrev pub exact_cutting_of : ExactPoints → Cutting ExactPlace
exact_cutting_of points =
    sample_cutting (exact_more_of points) (exact_places_of points) (exact_refuses_of points)

-- the input is cut at these places
abbrev pub split_exact_command_of : ExactPoints → List ℕ → List ℕ → Command
split_exact_command_of points input prefix = split_command (exact_cutting_of points) input prefix

-- given places are sound
abbrev pub AreExactPoints : ExactPoints → Type 0
AreExactPoints (ExactPlaces places) = ArePlaces IsExactPlace places.now
AreExactPoints (InExactSheet sheet) = Unit {0}
