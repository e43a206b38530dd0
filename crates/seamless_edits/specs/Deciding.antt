-- Deciding what becomes of inputs whose heads are set apart, in order.
use Rattle.std.specs.List.{AllZip}
use Rattle.std.specs.Prelude.{drop, length, List, map, Option, slice_get, Some, take, zip, ℕ, []}
use Rattle.std.specs.Prelude.{◌+◌, ◌<◌, ◌∷◌, ◌≡◌, ◌≤◌}
use Rattle.commands.specs.SingleOutput.{most_frames}
use Rattle.exact_span.specs.{PlayedPositions.counted_positions, declared.overlap.Overlap.Overlap}
use Rattle.frame_header.specs.{Fields.ClassFields, Tables.window_of}
use Rattle.joined_inputs.specs.Inputs.{CanInputsBeJoined, class_of_first, InputFields}
use Rattle.joined_inputs.specs.Laying.{AreFromsWithin, rest_rows}
use Rattle.laying.specs.Needs.{need_of, needs_of_parts}
use Rattle.outside.specs.Files.{Contents, Files, IfTold}
use Rattle.seam_plan.specs.Decisions.{alike_overlap, frame_places, IsBroughtInput, IsJoinableInput}
use Rattle.seam_plan.specs.Decisions.{IsJoint, IsSoundSplice, IsSplice}
use Rattle.seam_plan.specs.Frames.{Brought, needs_of, SpliceFrame}
use Rattle.seam_plan.specs.Seams.{joints_of, left_out_count, seamless_join, SeamlessJoin}
use Rattle.seam_plan.specs.{Seams.splice_with, declared.input.Input.Input}
use Rattle.seam_plan.specs.declared.splice.{FramePlace.FramePlace, Joint.Joint, Run.Run}
use Rattle.seamless_edits.specs.{Reading.AreHeld, Seamless.splice_frames}
use Rattle.seamless_edits.specs.Sounds.{all_splice_frames, AreFramePlaces, sound_at, whole_in}
use Rattle.seamless_edits.specs.declared.{beginnings.Beginning.Beginning, decided.Decided.Decided}
use Rattle.seamless_edits.specs.declared.decided.Deciding.{Deciding}
use Rattle.slot_plan.specs.{FreeBytes.FitsBehind, Parts.AreNeedsOfClass, declared.needs.Need.Need}
use Rattle.sync_survey.specs.Faults.{SurveyFields}

-- ---- what inputs bring

-- what an input brings, whose head is set apart, given how it begins
abbrev pub brought_of : Contents → InputFields → Beginning → Brought
brought_of f i b = record {
  frames = splice_frames (whole_in f i);
  blank = b.blank;
  played = counted_positions b.head i.survey.class (length i.survey.frames);
}

-- what each of the inputs brings
abbrev pub broughts_in : Contents → List InputFields → List Beginning → List Brought
broughts_in f inputs bs =
    map (λ (p : InputFields × Beginning). brought_of f p.0 p.1) (zip inputs bs)

-- what the frames of an input need
abbrev pub input_needs : SurveyFields → List Need
input_needs s = map need_of s.frames

-- its frames fit after 0 free bytes, since its head is set apart
abbrev pub FitsAlone : SurveyFields → Type 0
FitsAlone s = FitsBehind (window_of s.class.version) 0 (input_needs s)

-- the frames of each input fit after 0 free bytes
abbrev pub FitAlone : List InputFields → Type 0
FitAlone [] = Unit {0}
FitAlone (i ∷ inputs) = FitsAlone i.survey × FitAlone inputs

-- an input from which a splice can begin
pub record CanBeginSplice (s : SurveyFields) : Type 0 where
  pub some : 0 < length s.frames
  pub few : length s.frames ≤ most_frames
  pub same : AreNeedsOfClass s.class (input_needs s)
  pub fits : FitsAlone s

-- what such an input brings, except for the sounds of its frames
pub record BringsNeeds (s : SurveyFields) (b : Beginning) (brought : Brought) : Type 0 where
  pub needs : needs_of brought.frames ≡ input_needs s
  pub blank : brought.blank ≡ b.blank
  pub played : brought.played ≡ counted_positions b.head s.class (length s.frames)

-- the splice consists of all frames of the input
pub record HasBegunSplice (s : SurveyFields) (b : Beginning) (d : Deciding) : Type 0 where
  pub splice : (first : Brought) → BringsNeeds s b first
      → IsSplice s.class first.frames (frame_places 0 0 (length first.frames)) first d.splice
  pub sound : IsSoundSplice d.splice
  pub needs : d.needs.items ≡ input_needs s
  pub joints : d.joints.items ≡ []

-- the inputs can be read and joined, and it is known how each begins
pub record CanBeDecided (files : Files) (inputs : List InputFields)
    (bs : List Beginning) : Type 0 where
  pub joined : CanInputsBeJoined inputs
  pub known : AreHeld files inputs
  pub fit : FitAlone inputs
  pub begun : length bs ≡ length inputs

-- ---- the next input

-- The splice has these frames, at these places, all of them in inputs before the one with this
-- number; and this is what the input with this number brings, except for the sounds of its frames.
pub record IsNextInput (inputs : List InputFields) (number : ℕ) (splice : Run)
    (input : Input) : Type 0 where
  pub item : InputFields
  pub found : slice_get inputs number ≡ Some item
  pub needs : input.needs.now ≡ input_needs item.survey
  pub can : IsJoinableInput splice.class input
  pub sound : IsSoundSplice splice
  pub class : ClassFields
  pub frames : List SpliceFrame
  pub places : List FramePlace
  pub before : Brought
  pub is_splice : IsSplice class frames places before splice
  pub at : AreFramePlaces inputs places

-- if the inputs' contents are known, the frames that it shares, provided they are alike
abbrev pub IsSharedOverlap : Files → List InputFields → ℕ → Run → Input
    → Option Overlap → Type 0
IsSharedOverlap files inputs number splice input alike =
    IfTold files (λ f.
    (class : ClassFields) (frames : List SpliceFrame) (places : List FramePlace)
    (before brought : Brought) → IsSplice class frames places before splice
    → IsBroughtInput input brought
    → map (sound_at (all_splice_frames f inputs)) places ≡ map (λ (x : SpliceFrame). x.sound) frames
    → slice_get (all_splice_frames f inputs) number ≡ Some brought.frames
    → alike ≡ alike_overlap class frames before brought)

-- ---- what is decided so far

-- the same needs, except that each may be in another slot
abbrev pub AreMovedNeeds : List Need → List Need → Type 0
AreMovedNeeds needs others =
    AllZip (λ (n m : Need). (n.bytes ≡ m.bytes)
    × (n.header ≡ record m.header { slot = n.header.slot })) needs others

-- the inputs, each from the frame with the given number on
abbrev pub from_places : List InputFields → List ℕ → List InputFields
from_places inputs froms =
    map (λ (p : InputFields × ℕ). record p.0 { from = p.1 }) (zip inputs froms)

-- how many frames are left out at the front of each later input
abbrev pub left_out_counts : List Joint → List ℕ
left_out_counts joints = map (λ (j : Joint). left_out_count j.seam) joints

-- what the last input brings
abbrev pub last_brought : Brought → List Brought → Brought
last_brought first [] = first
last_brought first (b ∷ others) = last_brought b others

-- what became of these inputs, given what they bring
pub record IsDecidedTo (class : ClassFields) (brought : List Brought)
    (lists : List (List SpliceFrame))
    (frames : List SpliceFrame)
    (places : List FramePlace) (before : Brought) (joints : List Joint) : Type 0 where
  pub first : Brought
  pub others : List Brought
  pub are : brought ≡ first ∷ others
  pub last : before ≡ last_brought first others
  pub splice : frames ≡ splice_with first (joints_of class first others)
  pub joints_are : AllZip IsJoint (joints_of class first others) joints
  pub sounds : map (sound_at lists) places ≡ map (λ (x : SpliceFrame). x.sound) frames

-- The first `count` inputs are decided: the needs of their frames are known, in the slots in which
-- they joined, and the splice has them.
pub record IsDecidingTo (files : Files) (inputs : List InputFields)
    (bs : List Beginning) (count : ℕ)
    (d : Deciding) : Type 0 where
  pub class : ClassFields
  pub class_is : class_of_first inputs ≡ Some class
  pub frames : List SpliceFrame
  pub places : List FramePlace
  pub before : Brought
  pub is_splice : IsSplice class frames places before d.splice
  pub sound : IsSoundSplice d.splice
  pub needs : d.needs.items ≡ needs_of frames
  pub at : AreFramePlaces inputs places
  pub many : length d.joints.items + 1 ≡ count
  pub within : AreFromsWithin (from_places (take count inputs) (0 ∷ left_out_counts d.joints.items))
  pub moved : AreMovedNeeds
      d.needs.items
      (needs_of_parts (rest_rows (from_places (take count inputs)
      (0 ∷ left_out_counts d.joints.items))))
  pub same : AreNeedsOfClass class d.needs.items
  pub begins : (i : InputFields) → slice_get inputs 0 ≡ Some i
      → take (length i.survey.frames) d.needs.items ≡ input_needs i.survey
  pub told : IfTold files (λ f.
      IsDecidedTo class (take count (broughts_in f inputs bs))
      (all_splice_frames f inputs) frames places before d.joints.items)

-- ---- the whole decision

-- how many frames are left out at the front of each input
abbrev pub left_out_of : Decided → List ℕ
left_out_of d = d.front ∷ left_out_counts d.joints.items

-- what the frames that are written need
abbrev pub splice_needs : Decided → List Need
splice_needs d = drop d.front d.needs.items

-- The splice can be planned: its frames are the inputs' frames
-- except for those left out, each in its own slot or in another.
pub record IsSpliceable (inputs : List InputFields) (d : Decided) : Type 0 where
  pub class : ClassFields
  pub class_is : class_of_first inputs ≡ Some class
  pub many : length d.joints.items + 1 ≡ length inputs
  pub within : AreFromsWithin (from_places inputs (left_out_of d))
  pub behind : (i : InputFields) → slice_get inputs 0 ≡ Some i → d.front < length i.survey.frames
  pub some : d.front < length d.needs.items
  pub few : length d.needs.items ≤ most_frames
  pub same : AreNeedsOfClass class (splice_needs d)
  pub fits : FitsBehind (window_of class.version) (window_of class.version) (splice_needs d)
  pub moved : AreMovedNeeds (splice_needs d)
      (needs_of_parts (rest_rows (from_places inputs (left_out_of d))))

-- what became of the inputs, given what the first brings
pub record IsJoined (first : Brought) (joined : SeamlessJoin) (d : Decided) : Type 0 where
  pub front : d.front ≡ joined.front
  pub joints : AllZip IsJoint joined.joints d.joints.items
  pub needs : d.needs.items ≡ needs_of (splice_with first joined.joints)

-- what became of the inputs in a list, the first of which begins the splice
abbrev pub IsJoinedOf : ClassFields → List Brought → Decided → Type 0
IsJoinedOf class [] d = ⊥
IsJoinedOf class (first ∷ others) d = IsJoined first (seamless_join class first others) d

-- the splice can be planned, and where the inputs' contents are known, it is the join of them
pub record IsSpliceDecided (files : Files) (inputs : List InputFields)
    (bs : List Beginning) (d : Decided) : Type 0 where
  pub splice : IsSpliceable inputs d
  pub told : IfTold files (λ f. IsJoinedOf splice.class (broughts_in f inputs bs) d)
