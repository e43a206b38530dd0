-- A seamless join of inputs whose contents are known makes its file and its text.
use Rattle.std.proofs.Common.{ap, append-nil, append_assoc, ap₂, arith, Bool, bytes_eq, cond, drop}
use Rattle.std.proofs.Common.{false, flat_map, if◌then◌else◌, is_some, length, length-append, List}
use Rattle.std.proofs.Common.{map, None, Option, option_and_then, option_map, refl, slice_get}
use Rattle.std.proofs.Common.{slice_range, Some, suc, sym, unwrap_or, zero, ℕ, [], ◌*◌, ◌++◌, ◌+◌}
use Rattle.std.proofs.Common.{◌-◌, ◌<◌, ◌∙◌, ◌∷◌, ◌≡◌}
use Rattle.std.proofs.lemmas.List.{drop-map, length-drop, length-map, length-take}
use Rattle.std.specs.List.{AllZip, concat, enumerate_from, list_all}
use Rattle.cut_edits.{proofs.HeadLemmas.survey_without_head-length, specs.Exact.survey_without_head}
use Rattle.exact_span.specs.Extensions.{counts_of}
use Rattle.exact_span.specs.PlayedPositions.{counted_positions, decoder_delay, samples_in}
use Rattle.exact_span.specs.declared.played.Played.{Played}
use Rattle.frame_header.specs.{Fields.{ClassFields, HeaderFields}, Tables.window_of}
use Rattle.frame_writer.specs.Frames.{bytes_of_frames, Frame}
use Rattle.info_header.specs.{InfoFrame.info_frame, declared.fields.Info.Info}
use Rattle.joined_inputs.specs.{Inputs.{InputFields, part_in}, Laying.rest_rows, Parts.whole_part}
use Rattle.joined_inputs.specs.Planned.{info_kept, plan_of_splice_needs}
use Rattle.laying.proofs.{HoldLemmas.all-length, LaidLemmas.first-there}
use Rattle.laying.specs.{Fits.{FitsFromReach, reach_behind}, KeptFields.fields_of_head}
use Rattle.laying.specs.{LaidFiles.laid_file, Needs.{need_of, needs_of_parts}}
use Rattle.laying.specs.Relaid.{all_frames, FilePart, frame_with_place, lead_in_with_place}
use Rattle.laying.specs.Relaid.{part_frames, relaid_frames, rest_behind}
use Rattle.laying.specs.Written.{front_blocks, slot_in}
use Rattle.outside.specs.Files.{Contents}
use Rattle.seam_plan.specs.{Decisions.IsJoint, Frames.needs_of}
use Rattle.seam_plan.specs.Seams.{JointFrames, left_out_count, SeamlessJoin, splice_of}
use Rattle.seam_plan.specs.declared.{seam.Seam.Seam, splice.Joint.Joint}
use Rattle.seamless_edits.{proofs.LostLemmas.lost-same, specs.Beginnings.input_without_head}
use Rattle.seamless_edits.specs.Deciding.{brought_of, broughts_in, from_places, IsJoined}
use Rattle.seamless_edits.specs.Deciding.{IsJoinedOf, left_out_counts, left_out_of, splice_needs}
use Rattle.seamless_edits.specs.{Lines.{told_by, told_lines}, LostFrames.{lost_from, lost_in_input}}
use Rattle.seamless_edits.specs.Numbers.{all_say, counted_delay, delay_after, ends_padding}
use Rattle.seamless_edits.specs.Numbers.{first_head, kept_with_delay, last_head, short_delay}
use Rattle.seamless_edits.specs.Numbers.{splice_kept}
use Rattle.seamless_edits.specs.Seamless.{begins_blank, delay_of_splice, join_of_parts, later_parts}
use Rattle.seamless_edits.specs.Seamless.{part_brought, part_from, part_says_gain}
use Rattle.seamless_edits.specs.Seamless.{part_without_head, seamless_file, seamless_frames}
use Rattle.seamless_edits.specs.Seamless.{seamless_info, seamless_padding, seamless_row_file}
use Rattle.seamless_edits.specs.Seamless.{seamless_text, splice_lead_ins, splice_parts, splice_plan}
use Rattle.seamless_edits.specs.{Seamless.{told_line, told_of, ToldInput}, Sounds.whole_in}
use Rattle.seamless_edits.specs.SpliceReady.{IsSpliceInfo, last_length, moved_of}
use Rattle.seamless_edits.specs.declared.{beginnings.Beginning.Beginning, decided.Decided.Decided}
use Rattle.seamless_edits.specs.declared.numbers.{Ends.Ends, Moved.Moved}
use Rattle.side_info.specs.Side.{no_side}
use Rattle.slot_plan.specs.declared.needs.{Need.Need, Placed.Placed}
use Rattle.sync_survey.specs.Faults.{SurveyFields}
use Rattle.sync_survey.specs.HeadApart.{apart_row, apart_rows, emptied_row, head_apart}
use Rattle.sync_survey.specs.{HeadApart.rows_set_apart, Row.Row, declared.places.Head.Head}

-- ---- what the inputs bring

survey_without_head-part : (file : List ℕ) (s : SurveyFields)
    → part_without_head (whole_part file s) ≡ whole_part file (survey_without_head s)
survey_without_head-part file s = grind (arith, survey_without_head-length)

brought-same : (f : Contents) (i : InputFields) {b : Beginning}
    → b.head ≡ fields_of_head (unwrap_or (f i.name) []) i.survey.head
    → b.blank ≡ begins_blank i.survey.frames
    → brought_of f (input_without_head i) b ≡ part_brought (whole_in f i)
brought-same f i head blank = grind (arith, survey_without_head-part, survey_without_head-length)

-- how an input begins, where the contents of the files are known
abbrev pub IsHead : Contents → InputFields → Beginning → Type 0
IsHead f i b =
    (b.head ≡ fields_of_head (unwrap_or (f i.name) []) i.survey.head)
    × (b.blank ≡ begins_blank i.survey.frames)

-- how the inputs begin
abbrev pub AreHeads : Contents → List InputFields → List Beginning → Type 0
AreHeads f inputs bs = AllZip (IsHead f) inputs bs

-- all frames of the inputs
abbrev pub whole_parts : Contents → List InputFields → List FilePart
whole_parts f inputs = map (whole_in f) inputs

-- inputs bring the same by their surveys, with heads set apart, and as parts
pub broughts-same : (f : Contents) (inputs : List InputFields) (bs : List Beginning)
    → AreHeads f inputs bs
    → broughts_in f (map input_without_head inputs) bs ≡ map part_brought (whole_parts f inputs)
broughts-same f [] [] are = refl
broughts-same f (i ∷ inputs) (b ∷ bs) are =
    grind (arith, brought-same, unwrap_or, broughts-same f inputs bs are.1)
broughts-same f _ _ are = absurd are

-- ---- the frames that are written

-- an input with its head set apart, from this frame on
abbrev from_apart : ℕ → InputFields → InputFields
from_apart from i = record (input_without_head i) { from = from }

part-same : (from : ℕ) (f : Contents) (i : InputFields)
    → part_from from (whole_in f i) ≡ part_in f (from_apart from i)
part-same from f i = grind (arith, survey_without_head-length)

parts-same : (f : Contents) (inputs : List InputFields) (joints : List JointFrames)
    (results : List Joint) → AllZip IsJoint joints results
    → later_parts joints (whole_parts f inputs)
    ≡ map (part_in f) (from_places (map input_without_head inputs) (left_out_counts results))
parts-same f [] [] [] are = refl
parts-same f (i ∷ inputs) [] [] are = refl
parts-same f [] (j ∷ joints) (r ∷ results) are = refl
parts-same f (i ∷ inputs) (j ∷ joints) (r ∷ results) are =
    ap₂ (λ (p : FilePart) (l : List FilePart). p ∷ l)
    (part-same (left_out_count j.seam) f i
    ∙ ap (λ (m : Seam). part_in f (from_apart (left_out_count m) i)) (sym are.0.seam))
    (parts-same f inputs joints results are.1)
parts-same f inputs _ _ are = absurd are

-- ---- the slots of the frames

slot-placed : (b : Bool) (p : Placed) (f : Frame)
    → slot_in (if b then lead_in_with_place p f else frame_with_place p f) ≡ p.slot
slot-placed b p f = grind arith

behind-length : {X Y : Type 0} (b : Bool) (x : X) (y : Y) (xs : List X) (ys : List Y)
    → length xs ≡ length ys → length (rest_behind b x xs) ≡ length (rest_behind b y ys)
behind-length b x y xs ys same = grind arith

-- the frames are in the slots of the plan
pub relaid_frames-slots : (window reach : ℕ) (needs : List Need) (fs : List Frame)
    (placed : List Placed) → length fs ≡ length needs → FitsFromReach window reach needs placed
    → map slot_in (relaid_frames fs placed) ≡ map (λ (p : Placed). p.slot) placed
unfolding relaid_frames FitsFromReach
relaid_frames-slots window reach [] [] [] same fits = refl
relaid_frames-slots window reach [] [] (p ∷ placed) same fits = absurd fits
relaid_frames-slots window reach [] (f ∷ fs) placed same fits = absurd (omega (arith, same))
relaid_frames-slots window reach (n ∷ needs) [] placed same fits = absurd (omega (arith, same))
relaid_frames-slots window reach (n ∷ needs) (f ∷ fs) [] same fits = absurd fits
relaid_frames-slots window reach (n ∷ needs) (f ∷ fs) (p ∷ placed) same fits =
    ap₂ (λ s l. s ∷ l) (slot-placed p.lead_in p f)
    (relaid_frames-slots window (reach_behind window p n) (rest_behind p.lead_in n needs)
    (rest_behind p.lead_in f fs) placed
    (behind-length p.lead_in f n fs needs (omega (arith, same))) fits.2)

-- there are as many frames as the plan was made for
range-long : {X Y : Type 0} (xs : List X) (ys : List Y) (from to : ℕ) → length xs ≡ length ys
    → length (slice_range xs from to) ≡ length (slice_range ys from to)
range-long xs ys from to same = grind (arith, length-take, length-drop)

-- the parts have as many frames as their rows have needs
pub behind-long : (f : Contents) (inputs : List InputFields)
    → length (flat_map part_frames (map (part_in f) inputs))
    ≡ length (needs_of_parts (rest_rows inputs))
unfolding needs_of_parts
behind-long f [] = refl
behind-long f (i ∷ inputs) =
    let file = unwrap_or (f i.name) [] in
    let s = i.survey in
    let own = slice_range (all_frames file s) i.from (length s.frames) in
    let rows = slice_range s.frames i.from (length s.frames) in
    length-append own (flat_map part_frames (map (part_in f) inputs))
    ∙ ap₂ (λ m n. m + n) (range-long (all_frames file s) s.frames i.from (length s.frames)
    (all-length file s) ∙ sym (length-map rows need_of))
    (behind-long f inputs)
    ∙ sym (length-append (map need_of rows) (needs_of_parts (rest_rows inputs)))

-- ---- the header of the first frame

row-apart : (r : Row) (b : Bool)
    → (cond b (record r { side = no_side; lost = false }) r).header ≡ r.header
row-apart r b = grind arith

rows-header : (rows : List Row) (n : ℕ) (more : List Row) (i : ℕ) {r : Row}
    → slice_get more i ≡ Some r → (q : Row) × (slice_get (map emptied_row (map (λ (p : ℕ × Row).
    apart_row rows p.0 p.1) (enumerate_from n more))) i ≡ Some q) × (q.header ≡ r.header)
rows-header rows n [] i is = absurd cc
rows-header rows n (x ∷ more) zero {r} is =
    let same : x ≡ r = cc in
    let y : Row = apart_row rows n x in
    (emptied_row y, refl, row-apart y y.lost ∙ ap (λ (z : Row). z.header) same)
rows-header rows n (x ∷ more) (suc i) {r} is = rows-header rows (n + 1) more i is

map-header : (more : List Row) (i : ℕ) {r : Row} → slice_get more i ≡ Some r
    → (q : Row) × (slice_get (map emptied_row more) i ≡ Some q) × (q.header ≡ r.header)
map-header [] i is = absurd cc
map-header (x ∷ more) zero {r} is = let same : x ≡ r = cc in
    (emptied_row x, refl, row-apart x x.lost ∙ ap (λ (z : Row). z.header) same)
map-header (x ∷ more) (suc i) {r} is = map-header more i is

set-header : (head : Option Head) (rows : List Row) (i : ℕ) {r : Row} → slice_get rows i ≡ Some r
    → (q : Row) × (slice_get (map emptied_row (rows_set_apart head rows)) i ≡ Some q)
    × (q.header ≡ r.header)
unfolding apart_rows
set-header None rows i {r} is = map-header rows i is
set-header (Some head) rows i {r} is = rows-header rows 0 rows i is

-- a frame keeps its header when the head is set apart
pub survey_without_head-header : (s : SurveyFields) (i : ℕ) {r : Row}
    → slice_get s.frames i ≡ Some r
    → (q : Row) × (slice_get (survey_without_head s).frames i ≡ Some q) × (q.header ≡ r.header)
survey_without_head-header s i {r} is = set-header s.head s.frames i is

-- ---- the numbers

counts-same : (head : Option Info) (class : ClassFields) (frames : ℕ)
    → is_some (counted_positions head class frames) ≡ is_some (counts_of head)
unfolding counted_positions
counts-same head class frames = grind (arith, is_some, option_map)

all-say-same : (gain : List ℕ) (f : Contents) (inputs : List InputFields)
    (bs : List Beginning) → AreHeads f inputs bs
    → list_all (part_says_gain gain) (whole_parts f inputs) ≡ all_say gain bs
all-say-same gain f [] [] are = refl
all-say-same gain f (i ∷ inputs) (b ∷ bs) are =
    grind (arith, unwrap_or, bytes_eq, counts-same, all-say-same gain f inputs bs are.1)
all-say-same gain f _ _ are = absurd are

-- the padding is the padding of the last input
abbrev pub AllOf : ClassFields → List InputFields → Type 0
AllOf class [] = Unit {0}
AllOf class (i ∷ inputs) = (i.survey.class ≡ class) × AllOf class inputs

padding-same : {class : ClassFields} (f : Contents) (i : InputFields) (inputs : List InputFields)
    {b : Beginning} (bs : List Beginning)
    → AllOf class (i ∷ inputs) → AreHeads f (i ∷ inputs) (b ∷ bs)
    → seamless_padding (whole_in f i) (whole_parts f inputs)
    ≡ ends_padding class (last_head (b ∷ bs))
    (last_length (input_without_head i) (map input_without_head inputs))
padding-same f i [] [] of are = grind (arith, unwrap_or, survey_without_head-length)
padding-same {class} f i (j ∷ inputs) (c ∷ bs) of are = padding-same f j inputs bs of.1 are.1
padding-same f i _ _ of are = absurd are.1

-- ---- the whole join

module _ (f : Contents) (i : InputFields) (inputs : List InputFields) {b : Beginning}
    (bs : List Beginning) {d : Decided} {placed : List Placed}
    (heads : AreHeads f (i ∷ inputs) (b ∷ bs)) (of : AllOf i.survey.class (i ∷ inputs))
    (decided : IsJoinedOf
    i.survey.class (broughts_in f (map input_without_head (i ∷ inputs)) (b ∷ bs)) d)
    (plan : placed ≡ plan_of_splice_needs (window_of i.survey.class.version) (splice_needs d)) where
  abbrev s : SurveyFields
  s = i.survey

  abbrev file : List ℕ
  file = unwrap_or (f i.name) []

  abbrev first : FilePart
  first = whole_in f i

  abbrev parts : List FilePart
  parts = whole_parts f inputs

  abbrev joined : SeamlessJoin
  joined = join_of_parts first parts

  -- the inputs with their heads set apart, without the frames that are left out
  abbrev pub left : List InputFields
  left = from_places (map input_without_head (i ∷ inputs)) (left_out_of d)

  is : IsJoined (part_brought first) joined d
  is = grind (arith, broughts-same f (i ∷ inputs) (b ∷ bs) heads)

  needs-same : splice_needs d ≡ needs_of (splice_of (part_brought first) joined)
  needs-same = grind (arith, drop-map, is.front, is.needs, joined.front, joined.joints)

  plan-same : placed ≡ splice_plan first parts
  plan-same = grind (arith, needs-same)

  parts-are : splice_parts first parts ≡ map (part_in f) left
  parts-are =
      ap₂ (λ (p : FilePart) (l : List FilePart). p ∷ l)
      (part-same joined.front f i
      ∙ ap (λ n. part_in f (from_apart n i)) (sym is.front))
      (parts-same f inputs joined.joints d.joints.items is.joints)

  -- the frames that are written are the frames of the join
  pub frames-same : relaid_frames (flat_map part_frames (map (part_in f) left)) placed
      ≡ seamless_frames first parts
  frames-same = grind (arith, flat_map, parts-are, plan-same)

  -- ---- the Info frame

  abbrev moved : Moved
  moved = moved_of d placed

  abbrev ends : Ends
  ends = record {
    class = (survey_without_head s).class;
    first = length (survey_without_head s).frames;
    last = last_length (input_without_head i) (map input_without_head inputs);
  }

  leads-same : moved.lead_ins ≡ splice_lead_ins first parts
  leads-same = grind (arith, plan-same, needs-same, length-map)

  delay-same : counted_delay ends.class (first_head (b ∷ bs)) ends.first moved
      ≡ delay_of_splice first parts
  delay-same =
      ap₂ (λ (h : Option Info) n. option_and_then (λ (p : Played).
      short_delay (delay_after s.class moved p))
      (counted_positions h s.class n)) heads.0.0 (survey_without_head-length s)
      ∙ ap₂ (λ l o. option_and_then (λ (p : Played). short_delay (p.start + l * samples_in s.class
      - o * samples_in s.class - decoder_delay)) (part_brought first).played) leads-same is.front

  kept-same : (row : Row) (delay : Option ℕ) → info_kept (option_map (kept_with_delay (b ∷ bs) ends)
      delay) row.header s.class (seamless_frames first parts) ≡ seamless_info delay row first parts
  kept-same row delay = grind (arith, padding-same, all-say-same)

  -- the fields of the Info frame are the fields that the join says
  pub info-same : (row : Row)
      → info_kept (splice_kept (b ∷ bs) ends moved) row.header s.class (seamless_frames first parts)
      ≡ seamless_info (delay_of_splice first parts) row first parts
  info-same row = grind (arith, option_map, delay-same, kept-same)

  -- ---- the file

  -- the bytes that are written are the file of the join
  pub seamless-written : {info : List ℕ}
      → FitsFromReach (window_of s.class.version) 0 (needs_of_parts (rest_rows left)) placed
      → IsSpliceInfo (map input_without_head (i ∷ inputs)) (b ∷ bs) d placed info
      → d.front < length s.frames → (concat (front_blocks file s) ++ info)
      ++ bytes_of_frames (relaid_frames (flat_map part_frames (map (part_in f) left)) placed)
      ≡ seamless_file (whole_parts f (i ∷ inputs))
  unfolding seamless_file laid_file
  seamless-written {info} fits is_info within =
      let frames = seamless_frames first parts in
      let row = first-there s.frames d.front within in
      let other = survey_without_head-header s d.front row.1 in
      let laid = map (part_in f) left in
      let slots : map slot_in frames ≡ map (λ (p : Placed). p.slot) placed =
      ap (map slot_in) (sym frames-same)
      ∙ relaid_frames-slots (window_of s.class.version) 0
      (needs_of_parts (rest_rows left)) (flat_map part_frames laid) placed
      (behind-long f left) fits in
      let head : info
      ≡ info_frame row.0.header (seamless_info (delay_of_splice first parts) row.0 first parts) =
      is_info frames slots (input_without_head i) refl other.0 other.1 ends refl
      ∙ ap (λ (h : HeaderFields). info_frame h
      (info_kept (splice_kept (b ∷ bs) ends moved) h s.class frames)) other.2
      ∙ ap (info_frame row.0.header) (info-same row.0) in
      let front = concat (front_blocks file s) in
      append_assoc front info (bytes_of_frames (relaid_frames (flat_map part_frames laid) placed))
      ∙ ap₂ (λ (i b : List ℕ). front ++ (i ++ b)) head
      (ap bytes_of_frames frames-same ∙ sym (append-nil (bytes_of_frames frames)))
      ∙ sym (ap (λ (o : Option Row). seamless_row_file o first parts)
      (ap (slice_get s.frames) (sym is.front) ∙ row.1))

  -- ---- the text

  abbrev told : List ℕ → Seam → ℕ → ToldInput
  told name seam lost = record { name = name; seam = seam; lost = lost }

  told-same : (others : List (List ℕ)) (joints : List JointFrames) (results : List Joint)
      (later : List InputFields) → AllZip IsJoint joints results
      → told_by others results (map lost_in_input later)
      ≡ told_of others joints (whole_parts f later)
  told-same [] joints results later are = refl
  told-same (n ∷ others) [] [] later are = refl
  told-same (n ∷ others) (j ∷ joints) (r ∷ results) [] are = refl
  told-same (n ∷ others) (j ∷ joints) (r ∷ results) (x ∷ later) are =
      ap₂ (λ (t : ToldInput) (ts : List ToldInput). t ∷ ts)
      (ap (λ (m : Seam). told n m (lost_from (left_out_count m) (lost_in_input x))) are.0.seam
      ∙ ap (told n j.seam) (lost-same (left_out_count j.seam) (head_apart x.survey).frames))
      (told-same others joints results later are.1)
  told-same (n ∷ others) _ _ later are = absurd are

  -- the lines are the text of the join
  pub text-same : (names : List (List ℕ)) → told_lines (drop 1 names) d.joints.items
      (drop 1 (map lost_in_input (i ∷ inputs)))
      ≡ seamless_text names (whole_parts f (i ∷ inputs))
  unfolding seamless_text
  text-same names =
      ap (flat_map told_line)
      (told-same (drop 1 names) joined.joints d.joints.items inputs is.joints)
