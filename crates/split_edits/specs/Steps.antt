-- The steps of a command that cuts a file.
use Rattle.std.specs.List.{All}
use Rattle.std.specs.Prelude.{drop, Err, IfErr, length, List, map, OnOk, Option, Result}
use Rattle.std.specs.Prelude.{slice_index_or, Some, string_bytes, take, true, ℕ, [], ◌+◌, ◌<◌, ◌∷◌}
use Rattle.std.specs.Prelude.{◌≡◌, ◌≢◌, ◌≤◌}
use Rattle.commands.specs.AfterCall.{by_why, InputEndsEarly, no_cause, why_of}
use Rattle.commands.specs.Command.{LacksBytes, Output, partly_written_files, written_files}
use Rattle.commands.specs.FaultKinds.{HasRightNumbers}
use Rattle.commands.specs.Sheet.{HasSheetNumbers, IsFaultOfSheet, MissesSheet}
use Rattle.commands.specs.SingleOutput.{first_input, LosesInput, ReadsNothing}
use Rattle.commands.specs.declared.fault.EditFault.{EditFault}
use Rattle.commands.specs.declared.fault.EditFault.TheVariants.{Input, Memory, Refused}
use Rattle.commands.specs.declared.fault.EditFault.TheVariants.{Write as Unwritable}
use Rattle.info_header.specs.declared.fields.Info.{Info}
use Rattle.laying.specs.Laid.{file_laid, IsWritableSelection, LaidPart, selected_part}
use Rattle.laying.specs.Surveys.{CanBeRelaid}
use Rattle.outside.specs.Counts.{HappenedTo, NoneFell}
use Rattle.outside.specs.Files.{Files, Holds, IfTold, IsFileThere, OnlyTouches, Told, Untold}
use Rattle.outside.specs.Seen.{OnFile, Seen}
use Rattle.requests.specs.Names.{piece_name}
use Rattle.split_edits.specs.{Cutting.Cutting, Split.{cue_sheet_places, cue_sheet_refuses}}
use Rattle.split_edits.specs.declared.piece.PlannedPiece.{PlannedPiece}
use Rattle.split_edits.specs.declared.source.SplitSource.{SplitSource}
use Rattle.sync_survey.specs.{Faults.{survey_view, SurveyFields}, Survey.IsSurveyLaidOut}
use Rattle.sync_survey.specs.declared.survey_fault.SurveyFault.TheVariants.{Memory as NoRoom, Read}
use Rattle.sync_survey.specs.declared.survey_fault.SurveyFault.TheVariants.{Shrunk}

-- ---- the sheet

-- what a fault met while the positions of the sheet were read says about its cause
abbrev pub IsCueSheetFault : List ℕ → Seen → Seen → EditFault → Type 0
IsCueSheetFault name old new fault =
    IsFaultOfSheet (λ bytes. cue_sheet_places (Some bytes)) name old new fault

-- the fault is one of the sheet, or out of memory
abbrev pub HasCueSheetNumbers : EditFault → Type 0
HasCueSheetNumbers (Refused refusal) = cue_sheet_refuses refusal ≡ true
HasCueSheetNumbers fault = HasSheetNumbers fault

-- ---- the places

-- where the contents of the folder are known, they give these places, or this fault
abbrev pub SaysPlaces : {P : Type 0} → Cutting P → Files → Result (List P) EditFault → Type 0
SaysPlaces cut files answer = IfTold files (λ f. cut.places f ≡ answer)

-- What a fault met while the places were found says about its cause. The sheet is the first input
-- besides the one that is cut, and input 1 of the command.
abbrev pub IsPlacesFault : {P : Type 0} → Cutting P → Seen → Seen → EditFault → Type 0
IsPlacesFault cut old new fault = by_why
    (record no_cause {
      rejected = SaysPlaces cut old.files (Err fault) × (new ≡ old);
      missing =
          SaysPlaces cut old.files (Err fault) × MissesSheet (first_input cut.more) old new fault;
      unread = ReadsNothing 1 (first_input cut.more) old new fault;
      shorter = LosesInput 1 (first_input cut.more) old new fault;
      no_memory = new ≡ old;
    })
    (why_of fault)

-- the fault is one of the sheet, of which there is one then, a refusal that may be returned, or out
-- of memory
abbrev pub HasPlacesNumbers : {P : Type 0} → Cutting P → EditFault → Type 0
HasPlacesNumbers cut (Input place fault) =
    (1 ≤ length cut.more) × HasSheetNumbers (Input place fault)
HasPlacesNumbers cut (Refused refusal) = cut.refuses refusal ≡ true
HasPlacesNumbers cut Memory = Unit {0}
HasPlacesNumbers cut _ = ⊥

-- ---- what is known of the input

-- What is known of a file with this survey: the survey by which pieces are laid, by which the file
-- can be relaid, and what is read from the head.
pub record IsSplitSource {P : Type 0} (cut : Cutting P) (head : List ℕ → SurveyFields → Option Info)
    (source : SplitSource) (file : List ℕ) (s : SurveyFields) : Type 0 where
  pub survey : survey_view source.survey ≡ cut.survey s
  pub has : CanBeRelaid file (cut.survey s)
  pub head_is : source.head ≡ head file s

-- ---- pieces to be written

-- the laid part of a piece
abbrev pub piece_part : PlannedPiece → LaidPart
piece_part piece = selected_part piece.selected

-- the pieces have the names of the prefix with the numbers from this one on, and each can be
-- written
abbrev pub ArePieces : List ℕ → SurveyFields → ℕ → List PlannedPiece → Type 0
ArePieces prefix s k [] = Unit {0}
ArePieces prefix s k (piece ∷ pieces) = (string_bytes piece.name ≡ piece_name prefix k)
    × IsWritableSelection s piece.selected × ArePieces prefix s (k + 1) pieces

-- the pieces can be written beside this input
abbrev pub CanPiecesBeWritten : List ℕ → SurveyFields → List PlannedPiece → Type 0
CanPiecesBeWritten input s pieces =
    All (λ piece. (input ≢ string_bytes piece.name) × IsWritableSelection s piece.selected) pieces

-- The input is there and has the survey by which the pieces are laid, and the pieces, no more than
-- there are names, can be written beside it.
pub record IsSplit (input : List ℕ) (s : SurveyFields) (pieces : List PlannedPiece)
    (now : Seen) : Type 0 where
  pub there : IsFileThere now.files input
  pub laid : IsSurveyLaidOut s
  pub has : OnFile now input (λ bytes. CanBeRelaid bytes s)
  pub few : length pieces ≤ 99
  pub ready : CanPiecesBeWritten input s pieces

-- the file of a piece
abbrev pub output_of : List ℕ → SurveyFields → PlannedPiece → Output
output_of file s piece =
    record {
      name = string_bytes piece.name;
      bytes = file_laid (selected_part piece.selected) file s;
    }

-- the files of these pieces
abbrev pub piece_outputs : SurveyFields → List PlannedPiece → List ℕ → List Output
piece_outputs s pieces file = map (output_of file s) pieces

-- ---- the second pass

-- the files, if their contents are known, with these outputs
unfoldable pub with_outputs : List Output → Files → Files
with_outputs outputs (Told f) = Told (written_files outputs f)
with_outputs outputs (Untold touched) = Untold touched

-- the first k outputs are whole, and the next one holds a prefix, or wasn't created
unfoldable pub with_part : ℕ → Option ℕ → List Output → Files → Files
with_part k count outputs (Told f) = Told (partly_written_files k count outputs f)
with_part k count outputs (Untold touched) = Untold touched

-- the names of these pieces
abbrev pub names_of_pieces : List PlannedPiece → List (List ℕ)
names_of_pieces pieces = map (λ piece. string_bytes piece.name) pieces

-- pieces that are written: what is made from the input, their names, and the name of the input
pub record Pieces : Type 0 where
  pub made : List ℕ → List Output
  pub names : List (List ℕ)
  pub input : List ℕ

-- these pieces, as they are written from the input
abbrev pub pieces_of : List ℕ → SurveyFields → List PlannedPiece → Pieces
pieces_of input s pieces =
    record { made = piece_outputs s pieces; names = names_of_pieces pieces; input = input }

-- the first k are whole, and the next one holds a prefix, or wasn't created
pub record IsWrittenPart (p : Pieces) (k : ℕ) (old new : Files) : Type 0 where
  pub files : (bytes : List ℕ) → Holds old p.input bytes → (k < length (p.made bytes)) ×
      (count : Option ℕ) × (new ≡ with_part k count (p.made bytes) old)
  pub touches : OnlyTouches (take (k + 1) p.names) old new

-- the same if a call failed that writes the next one: it holds a prefix that lacks bytes, or wasn't
-- created
pub record IsUnfinishedPart (p : Pieces) (k : ℕ) (old new : Files) : Type 0 where
  pub files : (bytes : List ℕ) → Holds old p.input bytes
      → (k < length (p.made bytes)) × (count : Option ℕ) × LacksBytes count (drop k (p.made bytes))
      × (new ≡ with_part k count (p.made bytes) old)
  pub touches : OnlyTouches (take (k + 1) p.names) old new

-- the input, which is the first, could not be read again
pub record PiecesStopReading (p : Pieces) (old new : Seen) (fault : EditFault) : Type 0 where
  pub is : fault ≡ Input 0 Read
  pub rose : HappenedTo p.input old.counts.read_faults new.counts.read_faults
  pub place : ℕ
  pub files : IsWrittenPart p place old.files new.files

-- the input became shorter
pub record PiecesStopShort (input : List ℕ) (old new : Seen) (fault : EditFault) : Type 0 where
  pub first : ℕ
  pub second : ℕ
  pub is : fault ≡ Input 0 (Shrunk first second)
  pub ended : InputEndsEarly (input ∷ []) old new fault

-- the output with this number could not be written
pub record PiecesStopWriting (p : Pieces) (place : ℕ) (old new : Seen) : Type 0 where
  pub within : place < length p.names
  pub rose : HappenedTo
      (slice_index_or p.names place []) old.counts.write_faults new.counts.write_faults
  pub files : IsUnfinishedPart p place old.files new.files

-- what a fault met while the pieces were written leaves
abbrev pub IsPiecesFault : Pieces → Seen → Seen → EditFault → Type 0
IsPiecesFault p old new fault = by_why
    (record no_cause {
      unread = PiecesStopReading p old new fault;
      shorter = PiecesStopShort p.input old new fault;
      unwritten = λ k. PiecesStopWriting p k old new;
    })
    (why_of fault)

-- the numbers of such a fault are in range if there are `count` pieces
abbrev pub HasPiecesNumbers : ℕ → EditFault → Type 0
HasPiecesNumbers count (Input place fault) = (place ≡ 0) × (fault ≢ NoRoom) × HasRightNumbers fault
HasPiecesNumbers count (Unwritable place) = place < count
HasPiecesNumbers count _ = ⊥

-- All `count` pieces were written, or this is left.
pub record WritesPieces (p : Pieces) (count : ℕ) (old new : Seen)
    (result : Result (Unit {0}) EditFault) : Type 0 where
  pub written : OnOk result
      (OnFile old p.input (λ bytes. new.files ≡ with_outputs (p.made bytes) old.files))
  pub touches : OnlyTouches p.names old.files new.files
  pub done : OnOk result (new.counts ≡ old.counts)
  pub left : IfErr result (IsPiecesFault p old new)
  pub numbers : IfErr result (HasPiecesNumbers count)
  pub counts : NoneFell old.counts new.counts
