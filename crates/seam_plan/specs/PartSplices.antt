-- The parts of one file as one splice. Each later part joins those before it where it can; where it
-- can't, a lead-in comes before it.
use Rattle.std.specs.Option.{option_to_list}
use Rattle.std.specs.Prelude.{Bool, Contains, false, length, List, map, None, Option, option_map}
use Rattle.std.specs.Prelude.{Some, true, ℕ, [], ◌++◌, ◌<◌, ◌∷◌, ◌≡◌, ◌≤◌, ◌⊎◌}
use Rattle.frame_header.specs.{Fields.{ClassFields, HeaderFields, IsClass}, Slots.all_slots}
use Rattle.frame_header.specs.Tables.{window_of}
use Rattle.seam_plan.specs.{Frames.{needs_of, SpliceFrame}, Joins.{joining_frames, lead_in_header}}
use Rattle.seam_plan.specs.declared.parts.PartJoint.{PartJoint, TheVariants.{InSlot, Led}}
use Rattle.seam_plan.specs.declared.parts.PartSplice.{PartSplice}
use Rattle.slot_plan.specs.FreeBytes.{FitsBehind, IsMostLeft, need_in_slot, needs_with_first_slot}
use Rattle.slot_plan.specs.{Parts.AreNeedsOfClass, declared.needs.Need.Need}

-- an item of a splice of parts: a frame of a part, or the lead-in before one
pub record SpliceItem : Type 0 where
  pub lead_in : Bool
  pub need : Need

-- frames of which only the needs are known
abbrev pub bare_frames : List Need → List SpliceFrame
bare_frames needs = map (λ (need : Need). record { need = need; sound = [] }) needs

-- a frame as an item
abbrev pub frame_item : Need → SpliceItem
frame_item need = record { lead_in = false; need = need }

-- a lead-in with this header as an item: it has no main data
abbrev pub lead_in_splice_item : HeaderFields → SpliceItem
lead_in_splice_item header = record { lead_in = true; need = record { header = header; bytes = 0 } }

-- what these items need
abbrev pub item_needs : List SpliceItem → List Need
item_needs items = map (λ (item : SpliceItem). item.need) items

-- a part behind the lead-in that it has alone, all its frames in their own slots
abbrev pub led_splice_items : ℕ → List Need → List SpliceItem
led_splice_items window needs =
    option_to_list (option_map lead_in_splice_item (lead_in_header window needs))
    ++ map frame_item needs

-- a part as its frames join, or behind a lead-in if they can't
abbrev pub joined_items : ℕ → List Need → Option (List SpliceFrame) → List SpliceItem
joined_items window needs None = led_splice_items window needs
joined_items window needs (Some joined) = map frame_item (needs_of joined)

-- a part behind a splice with these needs: its frames as they join, or behind a lead-in
abbrev pub splice_part_items : ℕ → List Need → List Need → List SpliceItem
splice_part_items window splice needs =
    joined_items window needs (joining_frames window (bare_frames splice) (bare_frames needs))

-- the parts behind a splice
unfoldable pub items_behind : ℕ → List Need → List (List Need) → List SpliceItem
items_behind window splice [] = []
items_behind window splice (needs ∷ parts) =
    let items = splice_part_items window splice needs in
    items ++ items_behind window (splice ++ item_needs items) parts

-- the splice of all parts
unfoldable pub splice_items : ℕ → List (List Need) → List SpliceItem
splice_items window [] = []
splice_items window (first ∷ parts) = map frame_item first ++ items_behind window first parts

-- ---- what is known of a splice when a part joins it

-- needs of a part: at least one frame, all of this class, and they
-- fit after a whole window, as every range of a well-formed stream does
pub record IsPartNeeds (class : ClassFields) (needs : List Need) : Type 0 where
  pub some : 0 < length needs
  pub same : AreNeedsOfClass class needs
  pub fits : FitsBehind (window_of class.version) (window_of class.version) needs

-- the splice of these needs leaves as many bytes as are noted
pub record IsPartSplice (class : ClassFields) (needs : List Need)
    (splice : PartSplice) : Type 0 where
  pub known : IsClass class
  pub of_class : splice.class ≡ class
  pub left : IsMostLeft (window_of class.version) (window_of class.version) needs splice.left

-- at most the window of the splice's class is left
pub record IsSoundPartSplice (splice : PartSplice) : Type 0 where
  pub known : IsClass splice.class
  pub most : splice.left ≤ window_of splice.class.version

-- the items of a part with these needs that joins so
abbrev pub joint_items : PartJoint → List Need → List SpliceItem
joint_items (InSlot slot) needs = map frame_item (needs_with_first_slot slot needs)
joint_items (Led header) needs = lead_in_splice_item header ∷ map frame_item needs

-- the header of a lead-in before this frame: the frame's, without
-- a check word and in one of all slots
abbrev pub IsLeadInBefore : Need → HeaderFields → Type 0
IsLeadInBefore first header =
    (header ≡ record first.header { protected = false; slot = header.slot })
    × Contains all_slots header.slot

-- a joint of frames with these needs: its slot is one of all,
-- and a lead-in has the header of the first frame's lead-in
abbrev pub IsJointOfNeeds : List Need → PartJoint → Type 0
IsJointOfNeeds [] joint = ⊥
IsJointOfNeeds (first ∷ needs) (InSlot slot) = Contains all_slots slot
IsJointOfNeeds (first ∷ needs) (Led header) = IsLeadInBefore first header

-- what is known of a joint, whatever the splice is: the items fit after the bytes that it left
pub record IsPartJoint (class : ClassFields) (left : ℕ) (needs : List Need)
    (joint : PartJoint) : Type 0 where
  pub own : IsJointOfNeeds needs joint
  pub fits : FitsBehind (window_of class.version) left (item_needs (joint_items joint needs))

-- ---- the items and the frames of the parts

-- the item is this frame, in its own slot or in another
pub record IsItemOf (item : SpliceItem) (need : Need) : Type 0 where
  pub frame : item.lead_in ≡ false
  pub moved : item.need ≡ need_in_slot item.need.header.slot need
  pub slot : (item.need.header.slot ≡ need.header.slot)
      ⊎ Contains all_slots item.need.header.slot

-- the item is a lead-in before this frame
pub record IsLeadInOf (item : SpliceItem) (need : Need) : Type 0 where
  pub lead_in : item.lead_in ≡ true
  pub empty : item.need.bytes ≡ 0
  pub before : IsLeadInBefore need item.need.header

-- the first of these items is a frame
abbrev pub IsFrameFirst : List SpliceItem → Type 0
IsFrameFirst [] = ⊥
IsFrameFirst (item ∷ items) = item.lead_in ≡ false

-- The items are these frames in order, each in its own slot or in another,
-- and some lead-ins, each of them right before a frame.
unfoldable pub AreSpliceItemsOf : List SpliceItem → List Need → Type 0
AreSpliceItemsOf [] [] = Unit {0}
AreSpliceItemsOf (item ∷ items) (need ∷ needs) =
    (IsItemOf item need × AreSpliceItemsOf items needs)
    ⊎ (IsLeadInOf item need × IsFrameFirst items × AreSpliceItemsOf items (need ∷ needs))
AreSpliceItemsOf _ _ = ⊥
