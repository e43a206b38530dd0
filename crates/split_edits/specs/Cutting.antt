-- One file cut at places of whatever kind: what is laid from each place to the next is a piece, a
-- file of its own.
use Rattle.std.specs.List.{All}
use Rattle.std.specs.Prelude.{Bool, Err, false, IfErr, length, List, map, None, Ok, Option, Result}
use Rattle.std.specs.Prelude.{Some, ℕ, [], ◌+◌, ◌∷◌, ◌≡◌, ◌≤◌}
use Rattle.bit_fields.specs.Bits.{AreBytes}
use Rattle.commands.specs.AfterCall.{IsLateFault, IsNotBefore}
use Rattle.commands.specs.{Command.{clash_from, Command, Made, Output}, Refusing.then_made}
use Rattle.commands.specs.{SingleOutput.most_frames, declared.fault.EditFault.EditFault}
use Rattle.commands.specs.declared.fault.EditFault.TheVariants.{EqualNames, Input}
use Rattle.commands.specs.declared.fault.Refusal.{Refusal}
use Rattle.laying.specs.Laid.{file_laid, LaidPart, stream_laid}
use Rattle.outside.specs.Files.{Contents}
use Rattle.requests.specs.Names.{piece_name, piece_names}
use Rattle.sync_survey.specs.{Faults.{HoldsStream, SurveyFields}, MainData.StreamFrame}
use Rattle.sync_survey.specs.{Survey.survey_of, declared.survey_fault.SurveyFault.SurveyFault}
use Rattle.sync_survey.specs.declared.survey_fault.SurveyFault.TheVariants.{Absent, Read}

-- ---- how a file is cut

-- at which places a file is cut, and what is laid between two of them
pub record Cutting (P : Type 0) : Type 0 where
  -- the inputs besides the one that is cut
  pub more : List (List ℕ)
  -- the places, or why there are none, given what the folder holds
  pub places : Contents → Result (List P) EditFault
  -- what is laid from one place of a file with this survey to another, or why nothing is
  pub between : P → P → List ℕ → SurveyFields → Result LaidPart EditFault
  -- the survey by which it is laid
  pub survey : SurveyFields → SurveyFields
  -- which refusals may be returned
  pub refuses : Refusal → Bool

-- ---- the pieces

-- what is laid for a piece, and for the pieces after it
abbrev pub with_first : LaidPart → Result (List LaidPart) EditFault
    → Result (List LaidPart) EditFault
with_first first (Ok more) = Ok (first ∷ more)
with_first first (Err fault) = Err fault

-- what is laid from a place to the first of these, and from each to the next, or the first fault
abbrev pub piece_parts_from : {P : Type 0} → Cutting P → List ℕ → SurveyFields → P → List P
    → Result (List LaidPart) EditFault
piece_parts_from cut file s from [] = Ok []
piece_parts_from cut file s from (to ∷ more) = then_made (cut.between from to file s)
    (λ first. with_first first (piece_parts_from cut file s to more))

-- what is laid from each place to the next, or the first fault
abbrev pub piece_parts : {P : Type 0} → Cutting P → List ℕ → SurveyFields → List P
    → Result (List LaidPart) EditFault
piece_parts cut file s [] = Ok []
piece_parts cut file s (place ∷ places) = piece_parts_from cut file s place places

-- the files of the pieces with this survey, the first of which has this number
abbrev pub pieces_from : List ℕ → ℕ → List ℕ → SurveyFields → List LaidPart → List Output
pieces_from prefix k file s [] = []
pieces_from prefix k file s (laid ∷ more) =
    record { name = piece_name prefix k; bytes = file_laid laid file s }
    ∷ pieces_from prefix (k + 1) file s more

-- ---- the command

-- what is made of a file with this survey, given what is laid for its pieces
abbrev pub pieces_result : List ℕ → List ℕ → SurveyFields → List LaidPart → Result Made EditFault
pieces_result prefix file s laid =
    Ok (record { outputs = pieces_from prefix 1 file s laid; text = [] })

-- what is made of a file with this survey, cut at these places
abbrev pub places_result : {P : Type 0} → Cutting P → List ℕ → List ℕ → SurveyFields → List P
    → Result Made EditFault
places_result cut prefix file s places =
    then_made (piece_parts cut file s places) (pieces_result prefix file (cut.survey s))

-- the same, if there are places and the survey has no fault, otherwise why not
abbrev pub surveyed_pieces : {P : Type 0} → Cutting P → List ℕ → Result (List P) EditFault → List ℕ
    → Result SurveyFields SurveyFault → Result Made EditFault
surveyed_pieces cut prefix places file (Err fault) = Err (Input 0 fault)
surveyed_pieces cut prefix places file (Ok s) = then_made places (places_result cut prefix file s)

-- It is refused if the input has a fault, then if there are no places, and then if there is nothing
-- from one place to the next or the next is after the end.
abbrev pub input_pieces : {P : Type 0} → Cutting P → List ℕ → Result (List P) EditFault
    → Option (List ℕ) → Result Made EditFault
input_pieces cut prefix places None = Err (Input 0 Absent)
input_pieces cut prefix places (Some file) =
    surveyed_pieces cut prefix places file (survey_of file most_frames)

-- the result, unless names are equal
abbrev pub equal_names_or : Option ℕ → Result Made EditFault → Result Made EditFault
equal_names_or (Some place) answer = Err (EqualNames place)
equal_names_or None answer = answer

-- it is refused if an input has the name of a piece, and then as above
unfoldable pub split_result : {P : Type 0} → Cutting P → List ℕ → List (List ℕ)
    → Result (List P) EditFault → Option (List ℕ) → Result Made EditFault
split_result cut prefix names places input =
    equal_names_or (clash_from (piece_names prefix) 0 names) (input_pieces cut prefix places input)

-- the streams of the pieces; none if the split is refused
abbrev pub laid_streams : List ℕ → SurveyFields → Result (List LaidPart) EditFault
    → List (List StreamFrame)
laid_streams file s (Err fault) = []
laid_streams file s (Ok laid) = map (λ (l : LaidPart). stream_laid l file s) laid

-- the streams of the pieces of a file with this survey
abbrev pub places_streams : {P : Type 0} → Cutting P → List ℕ → SurveyFields
    → Result (List P) EditFault → List (List StreamFrame)
places_streams cut file s (Err fault) = []
places_streams cut file s (Ok places) =
    laid_streams file (cut.survey s) (piece_parts cut file s places)

-- the streams of the pieces of a file; none if its survey has a fault
abbrev pub surveyed_streams : {P : Type 0} → Cutting P → Result (List P) EditFault → List ℕ
    → Result SurveyFields SurveyFault → List (List StreamFrame)
surveyed_streams cut places file (Err fault) = []
surveyed_streams cut places file (Ok s) = places_streams cut file s places

-- the streams of the pieces of the input; none if it isn't there
unfoldable pub input_streams : {P : Type 0} → Cutting P → Result (List P) EditFault
    → Option (List ℕ) → List (List StreamFrame)
input_streams cut places None = []
input_streams cut places (Some file) = surveyed_streams cut places file (survey_of file most_frames)

-- The input is cut at places, which a further input may give. A file may be written under each of
-- the 99 names.
abbrev pub split_command : {P : Type 0} → Cutting P → List ℕ → List ℕ → Command
split_command cut input prefix = record {
  inputs = input ∷ cut.more;
  outputs = piece_names prefix;
  sources = input ∷ [];
  always = Some [];
  keeps = false;
  makes = λ files. split_result cut prefix (input ∷ cut.more) (cut.places files) (files input);
  streams = λ files. input_streams cut (cut.places files) (files input);
  refuses = cut.refuses;
}

-- ---- what a cutting has to satisfy

-- there are 2 to 100 places, and each is sound
abbrev pub ArePlaces : {P : Type 0} → (P → Type 0) → List P → Type 0
ArePlaces IsSound places = All IsSound places × (2 ≤ length places) × (length places ≤ 100)

-- No fault of the places or of what is between them is found before memory is taken, and none is
-- met before a fault of reading the sheet; and what is laid of a file without fault holds its
-- stream.
pub record IsProperCutting {P : Type 0} (cut : Cutting P) : Type 0 where
  pub places_late : (f : Contents) → IfErr (cut.places f) IsLateFault
  pub places_after : (f : Contents) → IfErr (cut.places f) (IsNotBefore (Input 1 Read))
  pub late : (from to : P) (file : List ℕ) (s : SurveyFields)
      → IfErr (cut.between from to file s) IsLateFault
  pub after : (from to : P) (file : List ℕ) (s : SurveyFields)
      → IfErr (cut.between from to file s) (IsNotBefore (Input 1 Read))
  pub streams : (from to : P) (file : List ℕ) (s : SurveyFields) (laid : LaidPart) → AreBytes file
      → survey_of file most_frames ≡ Ok s → cut.between from to file s ≡ Ok laid
      → HoldsStream (file_laid laid file (cut.survey s)) (stream_laid laid file (cut.survey s))
