-- What is written where stretches are taken out counts what is heard of it.
use Rattle.std.proofs.Common.{All, ap, ap₂, arith, Bool, cond, drop, false, inl, inr, length, List}
use Rattle.std.proofs.Common.{map, max, None, Ok, Option, refl, Some, subst, suc, sym, take, true}
use Rattle.std.proofs.Common.{ℕ, [], ◌*◌, ◌+◌, ◌∙◌, ◌∷◌, ◌≡◌, ◌≤◌, ◌⊎◌}
use Rattle.std.proofs.lemmas.Bool.{and_parts, leb-true}
use Rattle.std.proofs.lemmas.List.{length-append, length-drop, length-map, length-take-le}
use Rattle.std.specs.Prelude.{IfSome, nat_le, option_and_then, option_map, ◌&&◌}
use Rattle.cut_edits.proofs.HeadLemmas.{survey_without_head-length}
use Rattle.cut_edits.proofs.PieceLemmas.{head_long, survey_without_head-relaid}
use Rattle.cut_edits.specs.Exact.{quality_of}
use Rattle.exact_span.proofs.HeardLemmas.{numbers-end, numbers-first}
use Rattle.exact_span.specs.Heard.{heard_delay, heard_numbers, heard_of, heard_padding}
use Rattle.exact_span.specs.Laws.{SaysNumbers}
use Rattle.exact_span.specs.PlayedPositions.{counted_positions, decoder_delay, samples_in}
use Rattle.exact_span.specs.declared.{played.Played.Played, written.Heard.Heard}
use Rattle.exact_span.specs.declared.written.WrittenFrames.{WrittenFrames}
use Rattle.frame_header.specs.{Fields.{ClassFields, HeaderFields, IsClass}, Limits.most_frames}
use Rattle.frame_writer.specs.Frames.{Frame}
use Rattle.info_header.specs.declared.fields.Info.{Info}
use Rattle.joined_inputs.specs.Planned.{info_kept}
use Rattle.laying.specs.{KeptFields.fields_of_head, LaidFiles.{IsLaidFile, laid_file}}
use Rattle.laying.specs.{Surveys.CanBeRelaid, Written.{back_blocks, front_blocks, slot_in}}
use Rattle.laying.specs.declared.info.Kept.{Kept}
use Rattle.remove_edits.proofs.{CommandLemmas.left-parts, PlanLemmas.HasShape}
use Rattle.remove_edits.proofs.RemovalLemmas.{all-needs, class-known, file-is, first-there-is}
use Rattle.remove_edits.proofs.RemovalLemmas.{found, items-shape, removal-holds, removal-is}
use Rattle.remove_edits.{proofs.RemovalLemmas.removal-slots, specs.Ready.ArePartsLeft}
use Rattle.remove_edits.specs.Removed.{all_parts_written, heard_of_written, item_places, items_left}
use Rattle.remove_edits.specs.Removed.{kept_with_numbers, part_needs_of, places_before}
use Rattle.remove_edits.specs.Removed.{plan_of_items, removal_file, removal_frames, removal_kept}
use Rattle.remove_edits.specs.Removed.{removal_plan}
use Rattle.remove_laws.proofs.ReadLemmas.{counted-by, head-read, IsHeadRead, written_info}
use Rattle.remove_laws.proofs.WrittenLemmas.{AreWrittenBefore, heard-within, items-few}
use Rattle.remove_laws.proofs.WrittenLemmas.{parts-before}
use Rattle.remove_laws.specs.NumberLaws.{CountsWhatIsHeard, heard_of_parts, KeepsNumbers}
use Rattle.remove_laws.specs.NumberLaws.{NumbersAreKept}
use Rattle.seam_laws.proofs.JoinEndLemmas.{frames-few}
use Rattle.seam_plan.specs.{PartSplices.{IsPartNeeds, SpliceItem}, declared.stretches.Part.Part}
use Rattle.slot_plan.specs.declared.needs.Placed.{Placed}
use Rattle.sync_survey.{proofs.SurveyedFileLemmas.survey_of-parts, specs.Faults.SurveyFields}
use Rattle.sync_survey.specs.Survey.{survey_of}

-- ---- what is kept

-- something is kept of the head: something is heard, and both numbers have 12 bits
record HasNumbers (head : Option Info) (class : ClassFields) (heard_is : Option Heard)
    (places : ℕ) (kept : Kept) : Type 0 where
  heard : Heard
  is : heard_is ≡ Some heard
  kept_is : kept ≡ kept_with_numbers head (heard_delay heard, heard_padding class places heard)
  are : heard_numbers class places heard
      ≡ Some (heard_delay heard, heard_padding class places heard)
  short : heard_delay heard ≤ 4095
  small : heard_padding class places heard ≤ 4095

kept-numbers : {head : Option Info} {class : ClassFields} (o : Option Heard) {places : ℕ}
    {kept : Kept}
    → option_map (kept_with_numbers head) (option_and_then (heard_numbers class places) o)
    ≡ Some kept
    → HasNumbers head class o places kept
unfolding heard_numbers
kept-numbers None none = absurd cc
kept-numbers {head} {class} (Some heard) {places} {kept} some =
    by (nat_le delay 4095 && nat_le padding 4095) refl some
  where
    delay : ℕ
    delay = heard_delay heard

    padding : ℕ
    padding = heard_padding class places heard

    by : (b : Bool) → nat_le delay 4095 && nat_le padding 4095 ≡ b
        → option_map (kept_with_numbers head) (cond b (Some (delay, padding)) None) ≡ Some kept
        → HasNumbers head class (Some heard) places kept
    by true both is =
        let parts = and_parts (nat_le delay 4095) (nat_le padding 4095) both in
        record {
          heard = heard;
          is = refl;
          kept_is = cc;
          are = ap (λ both. cond both (Some (delay, padding)) None) both;
          short = leb-true delay 4095 parts.0;
          small = leb-true padding 4095 parts.1;
        }
    by false both is = absurd cc

-- what is heard of frames that are written is within them
heard-below : (head : Option Info) (class : ClassFields) (frames n : ℕ)
    (written : List WrittenFrames) {heard : Heard} → AreWrittenBefore n written
    → heard_of_written head class frames written ≡ Some heard
    → heard.end ≤ n * samples_in class
heard-below head class frames n written {heard} before is =
    by (counted_positions head class frames) is
  where
    by : (o : Option Played)
        → option_and_then (λ (p : Played). heard_of class p written) o ≡ Some heard
        → heard.end ≤ n * samples_in class
    by None none = absurd cc
    by (Some played) some =
        subst (λ o. IfSome o (λ (h : Heard). h.end ≤ n * samples_in class)) some
        (heard-within class n played written before)

-- by these numbers players play what is heard
numbers-play : (class : ClassFields) {n : ℕ} (heard : Heard) (info : Info) → 1 ≤ n
    → heard.end ≤ n * samples_in class → info.frames ≡ Some n
    → heard_numbers class n heard ≡ Some (heard_delay heard, heard_padding class n heard)
    → SaysNumbers (heard_delay heard) (heard_padding class n heard) info.extension
    → counted_positions (Some info) class n
    ≡ Some (record { start = max decoder_delay heard.first; end = heard.end })
numbers-play class {n} heard info some within frames are says =
    let total = n * samples_in class in
    let padding = heard_padding class n heard in
    let start = numbers-first class n heard (heard_delay heard) padding are in
    let end = numbers-end class n heard (heard_delay heard) padding are within in
    counted-by class info frames some (omega arith) says
    ∙ ap₂ (λ a b. Some (record { start = a; end = b })) start end

-- ---- how many places there are

marked-many : (items : List SpliceItem) (placed : List Placed)
    → length (item_places items placed) ≡ length placed
unfolding item_places
marked-many [] placed = refl
marked-many (item ∷ items) [] = refl
marked-many (item ∷ items) (p ∷ placed) = ap suc (marked-many items placed)

-- the places of a plan are those of the items, and at most one before them
pub record HasPlaces (items : List SpliceItem) (placed : List Placed) : Type 0 where
  pub many : length placed ≡ places_before items placed + length items
  pub one : places_before items placed ≤ 1

-- a plan of such a shape has them
pub shape-places : {items : List SpliceItem} {placed : List Placed} → HasShape (length items) placed
    → HasPlaces items placed
shape-places shape =
    let long = length-append shape.front shape.frames in
    let all = ap (λ (l : List Placed). length l) shape.are in
    record {
      many = omega (arith, all, long, shape.count);
      one = omega (arith, all, long, shape.count, front-one shape.front shape.lead);
    }
  where
    front-one : (front : List Placed)
        → (front ≡ []) ⊎ ((p : Placed) × (front ≡ p ∷ []) × (p.lead_in ≡ true)) → length front ≤ 1
    front-one front (inl none) = omega (arith, ap (λ (l : List Placed). length l) none)
    front-one front (inr lead) = omega (arith, ap (λ (l : List Placed). length l) lead.1)

module _ {s : SurveyFields} {first : Part} {later : List Part}
    (can : ArePartsLeft s (first ∷ later)) where
  abbrev parts : List Part
  parts = first ∷ later

  abbrev items : List SpliceItem
  items = items_left s parts

  abbrev plan : List Placed
  plan = plan_of_items s items

  known : IsClass s.class
  known = class-known s can.placed (omega (arith, first-there-is can))

  all : All (IsPartNeeds s.class) (map (part_needs_of s) parts)
  all = all-needs s can.placed 0 parts can.order

  has_places : HasPlaces items plan
  has_places = shape-places (items-shape can)

  places-many : length (removal_plan s parts) ≡ places_before items plan + length items
  places-many =
      let before = places_before items plan in
      omega (
        arith,
        length-append (take before plan) (item_places items (drop before plan)),
        marked-many items (drop before plan),
        length-drop before plan,
        length-take-le before plan (omega (arith, has_places.many)),
        has_places.many,
      )

  places-few : length (removal_plan s parts) ≤ length s.frames + 1
  places-few = omega (
    arith,
    places-many,
    has_places.one,
    items-few s known first later can.order all,
  )

  written-before : AreWrittenBefore (length (removal_plan s parts)) (all_parts_written s parts)
  written-before =
      subst (λ n. AreWrittenBefore n (all_parts_written s parts)) (sym places-many)
      (parts-before s known (places_before items plan) first later can.order all)

  -- ---- the file

  module _ {file : List ℕ} (has : CanBeRelaid file s) (head : Option Info)
      (long : IfSome head (λ (i : Info). length i.extension ≡ 36))
      (few : length s.frames ≤ most_frames) {kept : Kept}
      (keeps : removal_kept head s parts ≡ Some kept) where
    abbrev n : ℕ
    n = length (removal_plan s parts)

    numbers : HasNumbers head s.class (heard_of_parts head s parts) n kept
    numbers = kept-numbers (heard_of_parts head s parts) keeps

    abbrev heard : Heard
    heard = numbers.heard

    abbrev frames : List Frame
    frames = removal_frames parts file s

    frames-many : length frames ≡ n
    frames-many =
        sym (length-map frames slot_in)
        ∙ ap length (removal-slots can has)
        ∙ length-map (removal_plan s parts) (λ (p : Placed). p.slot)

    abbrev header : HeaderFields
    header = (found can has).0.header

    abbrev fields : Info
    fields = written_info s.class (front_blocks file s) header frames (back_blocks file s)
        (quality_of head) head
        {delay = heard_delay heard} {padding = heard_padding s.class n heard} long
        (omega (arith, numbers.short)) (omega (arith, numbers.small))

    info-is : info_kept (removal_kept head s parts) header s.class frames ≡ fields
    info-is = ap (λ o. info_kept o header s.class frames) (keeps ∙ ap Some numbers.kept_is)

    made-is : removal_file parts head file s
        ≡ laid_file (front_blocks file s) header fields frames (back_blocks file s)
    made-is =
        removal-is can has head long
        ∙ ap (λ i. laid_file (front_blocks file s) header i frames (back_blocks file s)) info-is

    laid-is : IsLaidFile s.class (front_blocks file s) header fields frames (back_blocks file s)
    laid-is =
        subst (λ i. IsLaidFile s.class (front_blocks file s) header i frames (back_blocks file s))
        info-is (file-is can has head long)

    read : (allowed : ℕ) {o : SurveyFields}
        → survey_of (removal_file parts head file s) allowed ≡ Ok o
        → IsHeadRead frames (heard_delay heard) (heard_padding s.class n heard) s.class
        (removal_file parts head file s) o
    read allowed {o} e =
        subst (λ l. IsHeadRead frames (heard_delay heard) (heard_padding s.class n heard) s.class
        l o) (sym made-is)
        (head-read s.class (front_blocks file s) header frames (back_blocks file s)
        (quality_of head) head long
        (omega (arith, numbers.short)) (omega (arith, numbers.small)) laid-is
        (omega (arith, frames-many, places-few, few)) allowed
        (subst (λ l. survey_of l allowed ≡ Ok o) made-is e))

    within : heard.end ≤ n * samples_in s.class
    within =
        heard-below head s.class (length s.frames) n (all_parts_written s parts)
        written-before numbers.is

    counts-read : {file : List ℕ} {o : SurveyFields}
        → IsHeadRead frames (heard_delay heard) (heard_padding s.class n heard) s.class file o
        → CountsWhatIsHeard heard file o
    counts-read {o = o} is =
        let many : length o.frames ≡ n = is.frames_are ∙ frames-many in
        let played = numbers-play s.class heard is.fields
        (omega (arith, laid-is.some, frames-many)) within
        (is.count ∙ ap Some frames-many) numbers.are is.says in
        record {
          fields = is.fields;
          head = is.head;
          frames = is.count ∙ ap Some (sym is.frames_are);
          played = ap₂ (λ (c : ClassFields) (m : ℕ). counted_positions (Some is.fields) c m)
              is.class_is many ∙ played;
          within = subst (λ m. heard.end ≤ m) (sym (ap₂ (λ (m : ℕ) (c : ClassFields).
              m * samples_in c) many is.class_is)) within;
        }

    -- what is written of the parts counts what is heard of them
    pub parts-keep : KeepsNumbers head s parts (removal_file parts head file s)
    parts-keep = record {
      heard = heard;
      is = numbers.is;
      sound = (removal-holds can has head long).well_formed;
      frames = λ allowed o e. (read allowed e).frames_are ∙ frames-many;
      counts = λ allowed o e. counts-read (read allowed e);
    }

-- the law of what `remove` writes
pub keep-numbers : NumbersAreKept
keep-numbers stretches file s [] kept is left keeps =
    absurd (omega (arith, (left-parts stretches file is left).some))
keep-numbers stretches file s (first ∷ later) kept is left keeps =
    let few = frames-few file (survey_of-parts file most_frames is).1 in
    parts-keep
    (left-parts stretches file is left)
    (survey_without_head-relaid is) (fields_of_head file s.head) (head_long file s.head)
    (omega (arith, few, survey_without_head-length s)) keeps
