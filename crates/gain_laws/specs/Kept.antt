-- What stays of a file whose gains are moved: what is written differs from it
-- only in gains, in check words, in the tag, and in junk that is left out. This
-- is stated for the bytes of both files, however one was made from the other.
use Rattle.std.specs.Prelude.{Bool, drop, false, flat_map, if◌then◌else◌, length, List, map}
use Rattle.std.specs.Prelude.{MatchBool, not, Ok, slice_get, Some, take, true, ℕ, [], ◌++◌, ◌+◌}
use Rattle.std.specs.Prelude.{◌<◌, ◌∷◌, ◌≡◌, ◌≤◌, ◌⊎◌}
use Rattle.bit_fields.specs.Bits.{AreBytes, bits}
use Rattle.frame_header.specs.{Fields.HeaderFields, HeaderBits.header_widths, Tables.class_of}
use Rattle.frame_header.specs.declared.version.Version.{Version}
use Rattle.moved_gains.specs.{Change.{file_with_change, FileChange}, Gains.is_silent_granule}
use Rattle.moved_gains.specs.{Moving.row_end, TagExtent.{tag_length, tag_offset}}
use Rattle.outside.specs.Pass.{bytes_between}
use Rattle.side_info.specs.{Frame.side_in, Granule.granule_widths, Side.{front_widths, granules_in}}
use Rattle.side_info.specs.declared.{granule.Granule.Granule, side.Side.Side}
use Rattle.sync_survey.specs.{Faults.{survey_fields, SurveyFields}, Row.Row}

-- ---- a frame

-- a field of `width` bits, and whether it may change
pub record Field : Type 0 where
  pub width : ℕ
  pub changes : Bool

-- fields of these widths that stay
abbrev pub fixed_fields : List ℕ → List Field
fixed_fields widths = map (λ width. record { width = width; changes = false }) widths

-- global_gain may change, unless part2_3_length is 0
abbrev pub gain_field : Granule → Field
gain_field g = record { width = 8; changes = not (is_silent_granule g) }

-- the fields of a granule and channel; the third of them is global_gain
abbrev pub granule_fields : Version → Granule → List Field
granule_fields version g =
    let widths = granule_widths version in
    fixed_fields (take 2 widths) ++ (gain_field g ∷ fixed_fields (drop 3 widths))

-- the check word of a protected frame may change
abbrev pub crc_fields : Bool → List Field
crc_fields protected = if protected then record { width = 16; changes = true } ∷ [] else []

-- the fields of the side information: those before
-- the granules, and those of each granule and channel
abbrev pub side_fields : HeaderFields → Side → List Field
side_fields h s =
    let c = class_of h in
    fixed_fields (front_widths c) ++ flat_map (granule_fields c.version) (granules_in c s)

-- All fields of a frame before its area, in order (ISO/IEC 11172-3 and
-- 13818-3, 2.4.1.2 to 2.4.1.7): header, check word and side information.
abbrev pub frame_fields : HeaderFields → Side → List Field
frame_fields h s = fixed_fields header_widths ++ (crc_fields h.protected ++ side_fields h s)

-- all bits are the same, also those after the fields, except those of fields that may change
abbrev pub DiffersInFields : List Field → List ℕ → List ℕ → Type 0
DiffersInFields [] old new = new ≡ old
DiffersInFields (field ∷ fields) old new =
    (field.changes ≡ false → take field.width new ≡ take field.width old)
    × DiffersInFields fields (drop field.width old) (drop field.width new)

-- A frame has as many new bytes as old ones, which differ only in gains
-- and in the check word; if no gain differs, they are the old ones.
pub record DiffersInGains (h : HeaderFields) (old new : List ℕ) : Type 0 where
  pub size : length new ≡ length old
  pub all : AreBytes new
  pub fields : DiffersInFields (frame_fields h (side_in h old)) (bits old) (bits new)
  pub word : side_in h new ≡ side_in h old → new ≡ old

-- ---- a file

-- bytes that are written instead of those of the file from one offset to another
pub record Patch : Type 0 where
  pub from : ℕ
  pub to : ℕ
  pub now : List ℕ

-- the file from an offset on, with these patches: all bytes between them and after the last stay
abbrev pub patched_file : List ℕ → ℕ → List Patch → List ℕ
patched_file file at [] = drop at file
patched_file file at (p ∷ ps) = bytes_between file at p.from ++ (p.now ++ patched_file file p.to ps)

-- the first of these patches begins after the offset
abbrev pub BeginsAfter : ℕ → List Patch → Type 0
BeginsAfter at [] = Unit {0}
BeginsAfter at (p ∷ ps) = at < p.from

-- each patch ends no later than the next begins, and no two begin at the same offset
abbrev pub ArePatchesInOrder : ℕ → List Patch → Type 0
ArePatchesInOrder at [] = Unit {0}
ArePatchesInOrder at (p ∷ ps) =
    (at ≤ p.from) × (p.from ≤ p.to) × BeginsAfter p.from ps × ArePatchesInOrder p.to ps

-- the junk before the first frame is left out
pub record LeavesJunk (s : SurveyFields) (p : Patch) : Type 0 where
  pub from : p.from ≡ s.junk
  pub to : p.to ≡ s.first
  pub none : p.now ≡ []

-- the tag is replaced or left out, or put right after the last frame of a file that has none
pub record ReplacesTag (MayBeTag : List ℕ → Type 0) (s : SurveyFields) (p : Patch) : Type 0 where
  pub from : p.from ≡ tag_offset s
  pub to : p.to ≡ tag_offset s + tag_length s
  pub now : MayBeTag p.now

-- a lost frame stays, and any other may differ in gains and check word
abbrev pub MayBecome : Row → List ℕ → List ℕ → Type 0
MayBecome row old new = MatchBool row.lost (new ≡ old) (DiffersInGains row.header old new)

-- a frame of the file other than its head
pub record MovesFrame (file : List ℕ) (s : SurveyFields) (p : Patch) : Type 0 where
  pub number : ℕ
  pub row : Row
  pub there : slice_get s.frames number ≡ Some row
  pub from : p.from ≡ row.offset
  pub to : p.to ≡ row_end row
  pub now : MayBecome row (bytes_between file p.from p.to) p.now

-- each patch is one of these
abbrev pub ArePatchesAllowed : (List ℕ → Type 0) → List ℕ → SurveyFields → List Patch → Type 0
ArePatchesAllowed MayBeTag file s [] = Unit {0}
ArePatchesAllowed MayBeTag file s (p ∷ ps) =
    (LeavesJunk s p ⊎ (ReplacesTag MayBeTag s p ⊎ MovesFrame file s p))
    × ArePatchesAllowed MayBeTag file s ps

-- What is written is the file with patches that leave out its junk, put what may be a tag there
-- instead of its tag, and move the gains of its frames. Every other byte stays, and all stay in
-- order: blocks, zero bytes, the head, and all of each frame except gains and check word.
pub record KeepsAll (MayBeTag : List ℕ → Type 0) (file : List ℕ) (s : SurveyFields)
    (new : List ℕ) : Type 0 where
  pub patches : List Patch
  pub in_order : ArePatchesInOrder 0 patches
  pub allowed : ArePatchesAllowed MayBeTag file s patches
  pub written : new ≡ patched_file file 0 patches

-- every change of a file without fault keeps all this, whatever the steps of each frame and the tag
abbrev pub ChangesKeepAll : Type 0
ChangesKeepAll =
    (change : FileChange) (file : List ℕ) (allowed : ℕ) (s : SurveyFields) → AreBytes file
    → survey_fields file allowed ≡ Ok s
    → KeepsAll (λ tag. change.tag ≡ Some tag) file s (file_with_change change file s)
