-- What may be chosen of well-formed inputs, command by command.
use Rattle.std.specs.Prelude.{Bool, Contains, false, length, List, map, Ok, pos, slice_get, Some}
use Rattle.std.specs.Prelude.{suc, true, unsigned_abs, zero, ℕ, ℤ, ◌+ℤ◌, [], ◌++◌, ◌<◌, ◌∷◌, ◌≡◌}
use Rattle.std.specs.Prelude.{◌≢◌, ◌≤◌, ◌⊎◌}
use Rattle.command_table.specs.Inputs.{FileInput, HoldsOfEach, HoldsOfEachNext}
use Rattle.cue_sheet.specs.{Cues.cue_of, Limits.longest_sheet, Places.frame_at}
use Rattle.cue_sheet.specs.declared.place.Place.{Place, TheVariants.End}
use Rattle.exact_span.specs.Places.{exact_frame_at, sample_at}
use Rattle.exact_span.specs.PlayedPositions.{length_of_played, played_of}
use Rattle.exact_span.specs.declared.exact_place.ExactPlace.{ExactPlace}
use Rattle.exact_span.specs.declared.exact_place.ExactPlace.TheVariants.{Place as Position}
use Rattle.fade_plan.specs.Curves.{curve_point, point_frame, steps_at, steps_back}
use Rattle.fade_plan.specs.Sheets.{envelope_of, EnvelopePoint}
use Rattle.frame_header.specs.{Fields.{ClassFields, SlotFields}, Slots.all_slots}
use Rattle.frame_header.specs.Tables.{rate_of, window_of}
use Rattle.gain_edits.specs.UndoItem.{next_undo, no_undo, output_length, tag_with_undo, undo_steps}
use Rattle.laying.specs.{KeptFields.fields_of_head, Needs.need_of}
use Rattle.moved_gains.specs.{Course.equal_steps, TagReading.{file_tag, longest_tag}}
use Rattle.outside.specs.Files.{Contents}
use Rattle.pack_edits.specs.Rates.{menu_in}
use Rattle.rate_plan.specs.Menus.{CanBeLaidFromMenu, IsFirstUnfitFrame}
use Rattle.requests.specs.{Shifts.steps_of, declared.mode.PackMode.PackMode}
use Rattle.requests.specs.declared.mode.PackMode.TheVariants.{Best, Constant, Floor, Least}
use Rattle.requests.specs.declared.shift.Channels.{Channels, TheVariants.{Both, Left, Right}}
use Rattle.requests.specs.declared.shift.{Shift.Shift, Steps.Steps}
use Rattle.salvage.specs.DamagedFiles.{most_frames, things_from}
use Rattle.salvage.specs.Walk.{first_frame, frames_of_things}
use Rattle.side_info.specs.Side.{granule_in}
use Rattle.sync_survey.specs.{Faults.{longest_file, SurveyFields}, Row.Row, Start.front_end_of}
use Rattle.sync_survey.specs.declared.places.PlacedFrame.{PlacedFrame}
use Rattle.tag_blocks.specs.{Tags.{tag_bytes, TagFields}, UndoItems.undo_from}
use Rattle.tag_blocks.specs.declared.undo.{Undo.Undo, UndoItem.TheVariants.{Found, Missing}}

-- ---- gains (global_gain of ISO/IEC 11172-3 and 13818-3, 2.4.2.7)

-- a gain moved by these steps is a gain again, from 0 to 255
abbrev pub StaysGain : ℤ → ℕ → Type 0
StaysGain steps gain = (moved : ℕ) × (moved ≤ 255) × (pos gain +ℤ steps ≡ pos moved)

-- the steps of a channel
abbrev pub channel_steps : Steps → ℕ → ℤ
channel_steps steps zero = steps.left
channel_steps steps (suc channel) = steps.right

-- The gains of a frame can move by these steps: they wrap, or the frame is lost and left alone, or
-- the gain of each granule and channel that has main data is still from 0 to 255 afterwards.
abbrev pub CanMove : Steps → Row → Type 0
CanMove steps row =
    steps.wrap ≡ false → row.lost ≡ false → (granule channel : ℕ) → granule < 2 → channel < 2
    → 0 < (granule_in row.side granule channel).part2_3_length
    → StaysGain (channel_steps steps channel) (granule_in row.side granule channel).global_gain

-- the gains of all frames can move, each frame's by the steps of its number
abbrev pub CanAllMove : (ℕ → Steps) → SurveyFields → Type 0
CanAllMove steps s = HoldsOfEach s.frames (λ i row. CanMove (steps i) row)

-- ---- gain

-- one channel can change alone: there are two channels, and no frame codes them jointly (mode 1,
-- 2.4.2.3)
pub record AreSeparate (s : SurveyFields) : Type 0 where
  pub two : s.class.channels ≢ 1
  pub each : HoldsOfEach s.frames (λ i row. row.header.mode ≢ 1)

-- these channels can change
abbrev pub CanChange : Channels → SurveyFields → Type 0
CanChange Both s = Unit {0}
CanChange Left s = AreSeparate s
CanChange Right s = AreSeparate s

-- The change can be noted: the tag of the file is read (`file_tag`; a law says that it is the tag's
-- bytes), its undo item has a value of the form or is absent, the numbers of the new item are from
-- -999 to 999, the new tag has at most 1,048,576 bytes, and the file with it at most 1,073,741,824.
pub record CanBeNoted (shift : Shift) (input : FileInput) : Type 0 where
  pub tag : TagFields
  pub read : file_tag input.bytes input.survey ≡ Ok tag
  pub undo : Undo
  pub item : (undo_from 32 tag.items ≡ Found undo)
      ⊎ ((undo_from 32 tag.items ≡ Missing) × (undo ≡ no_undo))
  pub left : unsigned_abs (next_undo shift undo).left ≤ 999
  pub right : unsigned_abs (next_undo shift undo).right ≤ 999
  pub tag_fits : length (tag_bytes (tag_with_undo (next_undo shift undo) tag)) ≤ longest_tag
  pub file_fits : output_length input.survey (tag_bytes (tag_with_undo (next_undo shift undo) tag))
      ≤ longest_file

-- the channels can change, all gains can move, and the change can be noted if it is to be
pub record IsLegalGain (shift : Shift) (tags : Bool) (input : FileInput) : Type 0 where
  pub channels : CanChange shift.channels input.survey
  pub gains : CanAllMove (λ i. steps_of shift) input.survey
  pub noted : tags ≡ true → CanBeNoted shift input

-- ---- undo

-- the tag of the file is read, it has an undo item with a
-- value of the form, and all gains can move by its steps
pub record IsLegalUndo (input : FileInput) : Type 0 where
  pub tag : TagFields
  pub read : file_tag input.bytes input.survey ≡ Ok tag
  pub undo : Undo
  pub item : undo_from 32 tag.items ≡ Found undo
  pub gains : CanAllMove (λ i. undo_steps undo) input.survey

-- ---- fade

-- The sheet is there, has at most 65,536 bytes and no fault (`envelope_of`), each
-- of its points is at an earlier frame than the next, and the gains of each frame
-- can move by the steps of the curve at its number, or by as many the other way.
pub record IsLegalFade (sheet : List ℕ) (back : Bool) (files : Contents)
    (input : FileInput) : Type 0 where
  pub bytes : List ℕ
  pub there : files sheet ≡ Some bytes
  pub small : length bytes ≤ longest_sheet
  pub points : List EnvelopePoint
  pub read : envelope_of bytes ≡ Ok points
  pub rising : HoldsOfEachNext points
      (λ p q. point_frame input.survey.class (length input.survey.frames) p
      < point_frame input.survey.class (length input.survey.frames) q)
  pub gains : CanAllMove (λ i. equal_steps (steps_back back
      (steps_at (map (curve_point input.survey.class (length input.survey.frames)) points) i)))
      input.survey

-- ---- cut and split

-- between the positions there is a frame, and neither is after the end
abbrev pub IsRange : SurveyFields → Place → Place → Type 0
IsRange s from to =
    (frame_at s.class (length s.frames) from < frame_at s.class (length s.frames) to)
    × (frame_at s.class (length s.frames) to ≤ length s.frames)

-- between each position and the next there is a frame, and no position is after the end
abbrev pub ArePieceRanges : SurveyFields → List Place → Type 0
ArePieceRanges s places = HoldsOfEachNext places (IsRange s)

-- The sheet is there, has at most 65,536 bytes, and is a cue sheet without
-- fault (`cue_of`); and this holds of its starts, with the end after them.
pub record IsSheetWith (Pieces : List Place → Type 0) (sheet : List ℕ)
    (files : Contents) : Type 0 where
  pub bytes : List ℕ
  pub there : files sheet ≡ Some bytes
  pub small : length bytes ≤ longest_sheet
  pub starts : List Place
  pub read : cue_of bytes ≡ Ok starts
  pub pieces : Pieces (starts ++ End ∷ [])

-- the sheet is such a sheet, and from each start to the next,
-- and from the last to the end, there is a frame
abbrev pub IsLegalSheet : List ℕ → Contents → FileInput → Type 0
IsLegalSheet sheet files input = IsSheetWith (ArePieceRanges input.survey) sheet files

-- ---- cut --exact

-- how many samples of a file players play: the samples of all frames
-- but for the encoder delay and the padding that its head gives
abbrev pub samples_played : FileInput → ℕ
samples_played input = length_of_played (played_of (fields_of_head input.bytes input.survey.head)
    input.survey.class (length input.survey.frames))

-- the number of the sample that a place names
abbrev pub sample_number : FileInput → ExactPlace → ℕ
sample_number input place = sample_at input.survey.class (samples_played input) place

-- between the places there is a sample, and neither is after the last that is played
abbrev pub IsSampleRange : ExactPlace → ExactPlace → FileInput → Type 0
IsSampleRange from to input = (sample_number input from < sample_number input to)
    × (sample_number input to ≤ samples_played input)

-- ---- split --exact

-- between each place and the next there is a sample, and no place is after the last that is played
abbrev pub AreSamplePieces : FileInput → List ExactPlace → Type 0
AreSamplePieces input places = HoldsOfEachNext places (λ from to. IsSampleRange from to input)

-- the sheet is such a sheet, and from each start to the next,
-- and from the last to the end, there is such a sample
abbrev pub IsLegalExactSheet : List ℕ → Contents → FileInput → Type 0
IsLegalExactSheet sheet files input =
    IsSheetWith (λ places. AreSamplePieces input (map Position places)) sheet files

-- the sheet is legal for a split to a frame, or to a sample
abbrev pub IsLegalSheetOf : Bool → List ℕ → Contents → FileInput → Type 0
IsLegalSheetOf false sheet files input = IsLegalSheet sheet files input
IsLegalSheetOf true sheet files input = IsLegalExactSheet sheet files input

-- ---- pack

-- a slot of the class has this bit rate
abbrev pub IsRate : ℕ → ClassFields → Type 0
IsRate rate class = (slot : SlotFields) × Contains all_slots slot × (rate_of class slot ≡ rate)

-- Some list of slots of this bit rate, padded or not, has room for the main data of all
-- frames, after a lead-in of such a slot or without one (main_data_begin, 2.4.2.7).
abbrev pub HasRateRoom : ℕ → SurveyFields → Type 0
HasRateRoom rate s = (lead_in : Bool) × CanBeLaidFromMenu (window_of s.class.version) lead_in
    (menu_in (Constant rate) s.class) (map need_of s.frames)

-- No such list has room, and this is the first frame, counted
-- from 0, up to which none has, even after a lead-in.
abbrev pub IsFirstUnfit : ℕ → SurveyFields → ℕ → Type 0
IsFirstUnfit rate s i =
    IsFirstUnfitFrame (window_of s.class.version) (menu_in (Constant rate) s.class)
    (map need_of s.frames) i

-- with the least slots, with the fewest bytes, and with
-- all slots from a bit rate on there is always room
abbrev pub IsLegalPack : PackMode → SurveyFields → Type 0
IsLegalPack Least s = Unit {0}
IsLegalPack Best s = Unit {0}
IsLegalPack (Constant rate) s = IsRate rate s.class × HasRateRoom rate s
IsLegalPack (Floor rate) s = IsRate rate s.class

-- ---- remove

-- the number of the frame that a place names, counted from the first
abbrev pub exact_frame_number : SurveyFields → ExactPlace → ℕ
exact_frame_number s place = exact_frame_at s.class (length s.frames) place

-- the stretch has a frame, and ends within the file
abbrev pub IsStretchWithin : SurveyFields → ExactPlace × ExactPlace → Type 0
IsStretchWithin s stretch = (exact_frame_number s stretch.0 < exact_frame_number s stretch.1)
    × (exact_frame_number s stretch.1 ≤ length s.frames)

-- the frame with this number is before the stretch or after it
abbrev pub IsBesideStretch : SurveyFields → ℕ → ExactPlace × ExactPlace → Type 0
IsBesideStretch s i stretch =
    (i < exact_frame_number s stretch.0) ⊎ (exact_frame_number s stretch.1 ≤ i)

-- Each stretch has a frame and ends within the file, none begins before the end of the one before
-- it, though they may touch, and there is a frame of the file that is in no stretch.
pub record IsLegalRemoval (stretches : List (ExactPlace × ExactPlace))
    (s : SurveyFields) : Type 0 where
  pub within : HoldsOfEach stretches (λ k stretch. IsStretchWithin s stretch)
  pub order : HoldsOfEachNext stretches (λ p q. exact_frame_number s p.1 ≤ exact_frame_number s q.0)
  pub frame : ℕ
  pub there : frame < length s.frames
  pub stays : HoldsOfEach stretches (λ k stretch. IsBesideStretch s frame stretch)

-- ---- join

-- all inputs are of one class: version, sampling frequency and number of channels are the same
abbrev pub AreInputsOfOneClass : List FileInput → Type 0
AreInputsOfOneClass inputs = (i j : ℕ) (p q : FileInput) → slice_get inputs i ≡ Some p
    → slice_get inputs j ≡ Some q → p.survey.class ≡ q.survey.class

-- ---- salvage

-- The input needn't be well-formed: it is there, has at most 1,073,741,824 bytes,
-- and a usable frame where its front ends or, anchored, after that, and from that
-- first frame on 1 to 2,900,000 frames are found, not counting a Xing or Info frame.
pub record IsLegalSalvage (input : List ℕ) (files : Contents) : Type 0 where
  pub bytes : List ℕ
  pub there : files input ≡ Some bytes
  pub long : length bytes ≤ longest_file
  pub first : PlacedFrame
  pub begins : first_frame bytes (front_end_of bytes) ≡ Some first
  pub some : 0 < length (frames_of_things (things_from bytes first))
  pub few : length (frames_of_things (things_from bytes first)) ≤ most_frames
