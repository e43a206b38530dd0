-- A file without stretches: the longest ranges of frames that stay, as one splice.
use Rattle.std.proofs.Common.{ap, append_assoc, ap₂, arith, Bool, false, flat_map, inl, inr, length}
use Rattle.std.proofs.Common.{List, map, None, Ok, Option, option_to_list, refl, replicate}
use Rattle.std.proofs.Common.{slice_range, Some, subst, sym, true, ℕ, [], ◌++◌, ◌<◌, ◌∙◌, ◌∷◌, ◌≡◌}
use Rattle.std.{proofs.{Common.◌⊎◌, lemmas.List.{length-map, map-append}}, specs.Prelude.option_map}
use Rattle.chosen_streams.proofs.ExactLemmas.{no-frames, one-on, part-sized}
use Rattle.chosen_streams.specs.{Exact.{IsAtMostALeadIn, IsExactly}, Laws.HoldsChosen}
use Rattle.command_table.specs.Chosen.{file_bytes_of, staying_frames, staying_range_frames}
use Rattle.command_table.specs.Chosen.{surveyed_staying_frames}
use Rattle.commands.proofs.{MadeLemmas.{made-of, makes-parts}, RefusingLemmas.then_ok}
use Rattle.commands.specs.SingleOutput.{most_frames}
use Rattle.cut_edits.proofs.PieceLemmas.{survey_without_head-relaid}
use Rattle.cut_edits.specs.Exact.{survey_without_head}
use Rattle.exact_span.specs.declared.exact_place.ExactPlace.{ExactPlace}
use Rattle.frame_header.specs.{Fields.{ClassFields, HeaderFields, SlotFields}, Tables.window_of}
use Rattle.job_words.specs.Request.{Remove}
use Rattle.laying.specs.KeptFields.{fields_of_head}
use Rattle.laying.specs.Relaid.{AreParts, FilePart, part_needs, part_stream, silent_lead_in}
use Rattle.laying.specs.{Relaid.stream_with_lead_ins, Surveys.CanBeRelaid}
use Rattle.remove_edits.proofs.{CommandLemmas.left-parts, MarkLemmas.AreFramePlaces}
use Rattle.remove_edits.proofs.RemovalLemmas.{are-parts, items-shape, parts-as, removal-places}
use Rattle.remove_edits.specs.Ready.{ArePartsLeft}
use Rattle.remove_edits.specs.Removed.{file_parts, item_places, items_left, part_needs_of}
use Rattle.remove_edits.specs.Removed.{parts_left, place_as, removal_file, removal_plan}
use Rattle.remove_edits.specs.Removed.{removal_stream, remove_making, remove_stream}
use Rattle.remove_edits.specs.Removed.{remove_surveyed_stream, remove_task, stream_of_parts}
use Rattle.seam_plan.proofs.PartJointLemmas.{joined_in, splice_part_items-is}
use Rattle.seam_plan.specs.Joins.{join_slot, lead_in_header}
use Rattle.seam_plan.specs.PartSplices.{frame_item, items_behind, lead_in_splice_item, splice_items}
use Rattle.seam_plan.specs.PartSplices.{splice_part_items, SpliceItem}
use Rattle.seam_plan.specs.declared.stretches.Part.{Part}
use Rattle.slot_plan.specs.{FreeBytes.need_in_slot, declared.needs.{Need.Need, Placed.Placed}}
use Rattle.sync_survey.proofs.SurveyPartsLemmas.{survey_fields-allowed}
use Rattle.sync_survey.proofs.SurveyedFileLemmas.{survey_of-parts}
use Rattle.sync_survey.specs.Faults.{stream_of_survey, SurveyFields, unbounded_survey}
use Rattle.sync_survey.specs.{MainData.StreamFrame, Survey.survey_of}

-- ---- which places are lead-ins

-- for each place whether it is a lead-in's
abbrev marks : List Placed → List Bool
marks placed = map (λ (p : Placed). p.lead_in) placed

-- for each item whether it is a lead-in
abbrev item_marks : List SpliceItem → List Bool
item_marks items = map (λ (item : SpliceItem). item.lead_in) items

-- as many frames
abbrev frame_marks : ℕ → List Bool
frame_marks count = replicate count false

-- one lead-in or none
abbrev lead_marks : Bool → List Bool
lead_marks true = true ∷ []
lead_marks false = []

-- for each part at most one lead-in and then its frames
abbrev AreMarksOf : List (List Need) → List Bool → Type 0
AreMarksOf [] all = all ≡ []
AreMarksOf (part ∷ parts) all = (led : Bool) × (rest : List Bool)
    × (all ≡ lead_marks led ++ frame_marks (length part) ++ rest) × AreMarksOf parts rest

-- ---- the stream of such places

-- frames in places of frames are as they are
frames-marked : (fs tail : List StreamFrame) (placed : List Placed) {rest : List Bool}
    → marks placed ≡ frame_marks (length fs) ++ rest → (left : List Placed)
    × (stream_with_lead_ins placed (fs ++ tail) ≡ fs ++ stream_with_lead_ins left tail)
    × (marks left ≡ rest)
frames-marked [] tail placed e = (placed, refl, e)
frames-marked (f ∷ fs) tail [] e = absurd cc
frames-marked (f ∷ fs) tail (p ∷ placed) {rest} e =
    let on = frames-marked fs tail placed cc in
    let own : p.lead_in ≡ false = cc in (
      on.0,
      one-on p placed f (fs ++ tail) own ∙ ap (λ (l : List StreamFrame). f ∷ l) on.1,
      on.2,
    )

-- a part in its places is at most one lead-in and then its frames
part-marked : (led : Bool) (fs tail : List StreamFrame) (placed : List Placed) {rest : List Bool}
    → 0 < length fs → marks placed ≡ lead_marks led ++ frame_marks (length fs) ++ rest
    → (lead : List StreamFrame) × (left : List Placed) × IsAtMostALeadIn lead fs
    × (stream_with_lead_ins placed (fs ++ tail) ≡ lead ++ fs ++ stream_with_lead_ins left tail)
    × (marks left ≡ rest)
part-marked false fs tail placed {rest} some e =
    let on = frames-marked fs tail placed e in ([], on.0, tt, on.1, on.2)
part-marked true [] tail placed some e = absurd (omega (arith, some))
part-marked true (f ∷ fs) tail [] some e = absurd cc
part-marked true (f ∷ fs) tail (p ∷ placed) {rest} some e =
    let on = frames-marked (f ∷ fs) tail placed cc in
    let led : p.lead_in ≡ true = cc in (
      silent_lead_in f ∷ [],
      on.0,
      refl,
      one-on p placed f (fs ++ tail) led
          ∙ ap (λ (l : List StreamFrame). silent_lead_in f ∷ l) on.1,
      on.2,
    )

-- parts in such places are exactly their frames, each part after at most one lead-in
parts-marked : (c : ClassFields) (parts : List FilePart) (placed : List Placed) → AreParts c parts
    → AreMarksOf (map part_needs parts) (marks placed)
    → IsExactly (map part_stream parts) (stream_with_lead_ins placed (flat_map part_stream parts))
unfolding IsExactly
parts-marked c [] placed are marked = no-frames placed
parts-marked c (p ∷ parts) placed are marked =
    let sized = part-sized are.0 in
    let on = part-marked marked.0 (part_stream p) (flat_map part_stream parts) placed
    (omega (arith, sized.some, sized.same))
    (marked.2 ∙ ap (λ n. lead_marks marked.0 ++ frame_marks n ++ marked.1) (sym sized.same)) in (
      on.0,
      stream_with_lead_ins on.1 (flat_map part_stream parts),
      on.2,
      on.3,
      parts-marked c parts on.1 are.1
          (subst (AreMarksOf (map part_needs parts)) (sym on.4) marked.3),
    )

-- ---- the items of a splice of parts

-- frames as items are no lead-ins
frame_items-marks : (needs : List Need)
    → item_marks (map frame_item needs) ≡ frame_marks (length needs)
frame_items-marks [] = refl
frame_items-marks (need ∷ needs) = ap (λ (l : List Bool). false ∷ l) (frame_items-marks needs)

-- the items are at most one lead-in and then as many frames
abbrev IsMarked : ℕ → List SpliceItem → Type 0
IsMarked count items = (led : Bool) × (item_marks items ≡ lead_marks led ++ frame_marks count)

-- a part behind its lead-in, if it has one
led-marked : (needs : List Need) (o : Option HeaderFields)
    → IsMarked (length needs)
    (option_to_list (option_map lead_in_splice_item o) ++ map frame_item needs)
led-marked needs None = (false, frame_items-marks needs)
led-marked needs (Some header) = (true, ap (λ (l : List Bool). true ∷ l) (frame_items-marks needs))

-- a part as it joins
joined-marked : (window : ℕ) (first : Need) (needs : List Need) (o : Option SlotFields)
    → IsMarked (length (first ∷ needs)) (joined_in window first needs o)
joined-marked window first needs None =
    led-marked (first ∷ needs) (lead_in_header window (first ∷ needs))
joined-marked window first needs (Some slot) =
    (false, frame_items-marks (need_in_slot slot first ∷ needs))

-- a part behind a splice is at most one lead-in and then its frames
items-marked : (window : ℕ) (splice needs : List Need) → 0 < length needs
    → IsMarked (length needs) (splice_part_items window splice needs)
items-marked window splice [] some = absurd (omega (arith, some))
items-marked window splice (first ∷ needs) some =
    subst (IsMarked (length (first ∷ needs))) (sym (splice_part_items-is window splice first needs))
    (joined-marked window first needs (join_slot window splice first needs))

-- each part has a frame
abbrev HaveFrames : List (List Need) → Type 0
HaveFrames [] = Unit {0}
HaveFrames (part ∷ parts) = (0 < length part) × HaveFrames parts

-- the items of two lists
items-append : (xs ys : List SpliceItem) → item_marks (xs ++ ys) ≡ item_marks xs ++ item_marks ys
items-append xs ys = map-append (λ (item : SpliceItem). item.lead_in) xs ys

-- the parts behind a splice are at most one lead-in each, and then their frames
behind-marked : (window : ℕ) (splice : List Need) (parts : List (List Need)) → HaveFrames parts
    → AreMarksOf parts (item_marks (items_behind window splice parts))
unfolding items_behind
behind-marked window splice [] some = refl
behind-marked window splice (needs ∷ parts) some =
    let items = splice_part_items window splice needs in
    let rest = items_behind window (splice ++ map (λ (item : SpliceItem). item.need) items) parts in
    let here = items-marked window splice needs some.0 in (
      here.0,
      item_marks rest,
      items-append items rest ∙ ap (λ (l : List Bool). l ++ item_marks rest) here.1,
      behind-marked window (splice ++ map (λ (item : SpliceItem). item.need) items) parts some.1,
    )

-- so is a splice of parts, whether or not there is a lead-in before it
splice-marked : (window : ℕ) (led : Bool) (parts : List (List Need)) → 0 < length parts
    → HaveFrames parts → AreMarksOf parts (lead_marks led ++ item_marks (splice_items window parts))
unfolding splice_items
splice-marked window led [] some have = absurd (omega (arith, some))
splice-marked window led (first ∷ parts) some have =
    let rest = items_behind window first parts in (
      led,
      item_marks rest,
      ap (λ (l : List Bool). lead_marks led ++ l) (items-append (map frame_item first) rest
          ∙ ap (λ (l : List Bool). l ++ item_marks rest) (frame_items-marks first))
          ∙ sym (append_assoc (lead_marks led) (frame_marks (length first)) (item_marks rest)),
      behind-marked window first parts have.1,
    )

-- ---- the places of a splice

-- the place before a splice is that of a lead-in
front-marks : {front : List Placed}
    → (front ≡ []) ⊎ ((p : Placed) × (front ≡ p ∷ []) × (p.lead_in ≡ true))
    → (led : Bool) × (marks front ≡ lead_marks led)
front-marks (inl none) = (false, ap marks none)
front-marks (inr one) = (true, ap marks one.1 ∙ ap (λ (b : Bool). b ∷ []) one.2)

-- a place as that of an item
place-as : (b : Bool) (p : Placed) → p.lead_in ≡ false → (place_as b p).lead_in ≡ b
place-as true p own = refl
place-as false p own = own

-- places of frames are marked as the items in them
items-placed : (items : List SpliceItem) (placed : List Placed) → AreFramePlaces placed
    → length placed ≡ length items → marks (item_places items placed) ≡ item_marks items
unfolding item_places
items-placed [] [] own same = refl
items-placed [] (p ∷ placed) own same = absurd (omega (arith, same))
items-placed (item ∷ items) [] own same = absurd (omega (arith, same))
items-placed (item ∷ items) (p ∷ placed) own same =
    ap₂ (λ (b : Bool) (l : List Bool). b ∷ l) (place-as item.lead_in p own.0)
    (items-placed items placed own.1 (omega (arith, same)))

-- the places of a plan are at most one lead-in, and the items
places-marked : {s : SurveyFields} {parts : List Part} → ArePartsLeft s parts → (led : Bool)
    × (marks (removal_plan s parts) ≡ lead_marks led ++ item_marks (items_left s parts))
places-marked {s} {parts} can =
    let shape = items-shape can in
    let lead = front-marks shape.lead in
    let placed = item_places (items_left s parts) shape.frames in (
      lead.0,
      ap marks (removal-places can)
          ∙ map-append (λ (p : Placed). p.lead_in) shape.front placed
          ∙ ap₂ (λ (x y : List Bool). x ++ y) lead.1
          (items-placed (items_left s parts) shape.frames shape.plain shape.count),
    )

-- ---- the ranges that stay

-- each part of a file has a frame
have-frames : (c : ClassFields) (parts : List FilePart) → AreParts c parts
    → HaveFrames (map part_needs parts)
have-frames c [] are = tt
have-frames c (p ∷ parts) are = ((part-sized are.0).some, have-frames c parts are.1)

module _ {file : List ℕ} {s : SurveyFields} {parts : List Part} (has : CanBeRelaid file s)
    (can : ArePartsLeft s parts) where
  abbrev filed : List FilePart
  filed = file_parts file s parts

  -- the stream of what stays is exactly the frames of the parts
  pub removal-exact : IsExactly (map part_stream filed) (removal_stream parts file s)
  removal-exact =
      let are = are-parts 0 parts has can.order in
      let marked = places-marked can in
      let window = window_of s.class.version in
      let needs = map (part_needs_of s) parts in
      let same = parts-as file s parts in
      let have = subst HaveFrames same (have-frames s.class filed are) in
      let some : 0 < length needs =
      omega (arith, length-map parts (part_needs_of s), can.some) in
      parts-marked s.class filed (removal_plan s parts) are
      (subst (λ (l : List (List Need)). AreMarksOf l (marks (removal_plan s parts))) (sym same)
      (subst (AreMarksOf needs) (sym marked.1) (splice-marked window marked.0 needs some have)))

-- ---- the command

-- the ranges of the parts are the streams of the parts
ranges-are : (file : List ℕ) (s : SurveyFields) (parts : List Part)
    → map (λ (part : Part). slice_range (stream_of_survey file s) part.from part.to) parts
    ≡ map part_stream (file_parts file s parts)
ranges-are file s [] = refl
ranges-are file s (part ∷ parts) =
    ap (λ (l : List (List StreamFrame)).
    slice_range (stream_of_survey file s) part.from part.to ∷ l) (ranges-are file s parts)

module _ (stretches : List (ExactPlace × ExactPlace)) (file : List ℕ) {s : SurveyFields}
    (surveyed : survey_of file most_frames ≡ Ok s) {parts : List Part}
    (left : parts_left stretches s ≡ Ok parts) where
  -- the survey with the head set apart
  abbrev own : SurveyFields
  own = survey_without_head s

  -- the file has the survey, whatever the number of frames that is allowed
  unbounded : unbounded_survey file ≡ Ok s
  unbounded = search (arith, survey_fields-allowed, survey_of-parts)

  -- the frames that the job chooses are those of the parts
  chosen-are : staying_frames stretches file ≡ map part_stream (file_parts file own parts)
  chosen-are =
      ap (surveyed_staying_frames stretches file) unbounded
      ∙ ap (staying_range_frames file s) left ∙ ranges-are file own parts

  -- the stream of the command is that of the parts
  stream-is : remove_stream stretches file ≡ removal_stream parts file own
  stream-is = ap (remove_surveyed_stream stretches file) surveyed ∙ ap (stream_of_parts file s) left

  -- the stream holds the frames that stay
  left-exact : IsExactly (staying_frames stretches file) (remove_stream stretches file)
  left-exact =
      rw (chosen-are, stream-is)
      (removal-exact (survey_without_head-relaid surveyed)
      (left-parts stretches file surveyed left))

-- a removal holds the frames that stay
pub remove-holds : (stretches : List (ExactPlace × ExactPlace)) (input output : List ℕ)
    → HoldsChosen (Remove input output stretches)
unfolding remove_making
remove-holds stretches input output files made e =
    let bytes = makes-parts (remove_task stretches input) output {files = files} {made = made} e in
    let is = made-of {make = remove_making stretches} {files = files} {name = input} {bytes =
    bytes.1} bytes.2 in
    let head = fields_of_head is.file is.survey.head in
    let left = then_ok {r = parts_left stretches is.survey}
    {make = λ parts. Ok (removal_file parts head is.file (survey_without_head is.survey))} {b =
    is.bytes}
    is.made in
    let exact = left-exact stretches is.file is.surveyed left.1 in
    let same : is.file ≡ file_bytes_of files input = grind (arith, is.there) in (
      subst (λ (file : List ℕ). IsExactly (staying_frames stretches file)
          (remove_stream stretches file)) same exact,
      tt,
    )
