-- Which frames at the front of each input are left out when inputs are joined
-- without seams, and the splice of all others, which is written as one part.
use Rattle.std.specs.Option.{option_or}
use Rattle.std.specs.Prelude.{Bool, bytes_eq, drop, false, flat_map, if◌then◌else◌, length, List}
use Rattle.std.specs.Prelude.{nat_le, None, not, Option, option_and_then, option_map, slice_range}
use Rattle.std.specs.Prelude.{true, unwrap_or, ℕ, [], ◌&&◌, ◌++◌, ◌-◌, ◌∷◌}
use Rattle.exact_span.specs.{Overlaps.shared_overlap, PlayedPositions.rest_of}
use Rattle.exact_span.specs.declared.{overlap.Overlap.Overlap, played.Played.Played}
use Rattle.frame_header.specs.{Fields.ClassFields, Tables.window_of}
use Rattle.seam_plan.specs.Frames.{Brought, needs_of, SpliceFrame}
use Rattle.seam_plan.specs.Joins.{fits_behind, has_lead_in, is_lead_in_wanted, joining_frames}
use Rattle.seam_plan.specs.declared.seam.Seam.{Seam, TheVariants.{Follows, LeadIn, Whole}}

-- what becomes of an input: its seam, and the frames that it adds
-- to the splice, the first of them in the slot in which it joined
pub record JointFrames : Type 0 where
  pub seam : Seam
  pub frames : List SpliceFrame

-- the joint with this seam and these frames
abbrev pub joint_with : Seam → List SpliceFrame → JointFrames
joint_with seam frames = record { seam = seam; frames = frames }

-- how many frames are left out at the front of an input
abbrev pub left_out_count : Seam → ℕ
left_out_count (Follows frames) = frames
left_out_count LeadIn = 1
left_out_count Whole = 0

-- ---- an input that follows the one before it

-- frames that are alike, one by one
unfoldable pub are_frames_alike : List SpliceFrame → List SpliceFrame → Bool
are_frames_alike [] [] = true
are_frames_alike (f ∷ frames) (g ∷ others) =
    bytes_eq f.sound g.sound && are_frames_alike frames others
are_frames_alike _ _ = false

-- the last frames of a splice are like these, one by one
abbrev pub ends_alike : List SpliceFrame → List SpliceFrame → Bool
ends_alike splice frames =
    nat_le (length frames) (length splice)
    && are_frames_alike (drop (length splice - length frames) splice) frames

-- the frames that an input shares with the one before it, if the heads of both have counts
abbrev pub overlap_of : ClassFields → Brought → Brought → Option Overlap
overlap_of class before input =
    option_and_then
    (λ (p : Played).
    option_and_then
    (λ (q : Played). shared_overlap class
    (rest_of class (length before.frames) p) q.start (length input.frames))
    input.played)
    before.played

-- of the shared frames, those that must be alike
abbrev pub compared_frames : Overlap → Brought → List SpliceFrame
compared_frames overlap input = slice_range input.frames overlap.first_alike overlap.frames

-- the overlap's frames that must be alike are like the last
-- frames of the splice, and the frames after the overlap can join it
abbrev pub overlap_joint : ClassFields → List SpliceFrame → Brought → Overlap → Option JointFrames
overlap_joint class splice input overlap =
    if ends_alike splice (compared_frames overlap input)
    then option_map (joint_with (Follows overlap.frames))
    (joining_frames (window_of class.version) splice (drop overlap.frames input.frames))
    else None

-- what becomes of an input that follows the one before it, if it can
unfoldable pub following_joint : ClassFields → List SpliceFrame → Brought → Brought
    → Option JointFrames
following_joint class splice before input =
    option_and_then (overlap_joint class splice input) (overlap_of class before input)

-- ---- an input whose lead-in is left out

-- the input begins with a lead-in, which the frames after it want, and these can join the splice
unfoldable pub joint_without_lead_in : ClassFields → List SpliceFrame → Brought → Option JointFrames
joint_without_lead_in class splice input =
    if has_lead_in (window_of class.version) input
    && is_lead_in_wanted (window_of class.version) input
    then option_map (joint_with LeadIn)
    (joining_frames (window_of class.version) splice (drop 1 input.frames))
    else None

-- ---- all inputs

-- all frames of the input, in their own slots
abbrev pub whole_joint : Brought → JointFrames
whole_joint input = joint_with Whole input.frames

-- what becomes of an input after a splice that ends with what the input before it added:
-- it follows that input, or otherwise its lead-in is left out, or otherwise it is whole
abbrev pub joint_of : ClassFields → List SpliceFrame → Brought → Brought → JointFrames
joint_of class splice before input =
    unwrap_or (option_or (following_joint class splice before input)
    (joint_without_lead_in class splice input))
    (whole_joint input)

-- what becomes of inputs, in order
unfoldable pub joints_from : ClassFields → List SpliceFrame → Brought → List Brought
    → List JointFrames
joints_from class splice before [] = []
joints_from class splice before (input ∷ inputs) =
    let joint = joint_of class splice before input in
    joint ∷ joints_from class (splice ++ joint.frames) input inputs

-- what becomes of the inputs after the first, which begins the splice with all its frames
abbrev pub joints_of : ClassFields → Brought → List Brought → List JointFrames
joints_of class first inputs = joints_from class first.frames first inputs

-- the frames of all inputs that are in the splice
abbrev pub splice_with : Brought → List JointFrames → List SpliceFrame
splice_with first joints = first.frames ++ flat_map (λ (j : JointFrames). j.frames) joints

-- At last the lead-in of the first input leaves the splice, if the splice without it
-- wants one: then the splice gets one again, with the area that all its frames want.
unfoldable pub front_left_out_count : ClassFields → Brought → List SpliceFrame → ℕ
front_left_out_count class first splice =
    let window = window_of class.version in
    if has_lead_in window first && not (fits_behind window 0 (needs_of (drop 1 splice))) then 1
    else 0

-- what becomes of all inputs: how many frames are left out at the front of the first, and of each
-- later one its seam and its frames
pub record SeamlessJoin : Type 0 where
  pub front : ℕ
  pub joints : List JointFrames

-- what becomes of these inputs
unfoldable pub seamless_join : ClassFields → Brought → List Brought → SeamlessJoin
seamless_join class first inputs =
    let joints = joints_of class first inputs in record {
      front = front_left_out_count class first (splice_with first joints);
      joints = joints;
    }

-- the splice: the frames that are written
abbrev pub splice_of : Brought → SeamlessJoin → List SpliceFrame
splice_of first joined = drop joined.front (splice_with first joined.joints)
