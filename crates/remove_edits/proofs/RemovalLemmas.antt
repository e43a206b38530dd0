-- The parts that stay can be laid as one splice, and the file of them holds their stream.
use Rattle.std.proofs.Common.{All, ap, arith, flat_map, length, List, map, None, Option, option_map}
use Rattle.std.proofs.Common.{refl, Some, subst, sym, ℕ, [], ◌++◌, ◌+◌, ◌<◌, ◌∷◌, ◌≡◌, ◌≤◌}
use Rattle.std.proofs.lemmas.List.{length-append, length-map, Elements.{All-cons, All-nil}}
use Rattle.std.proofs.lemmas.List.FromFn.{length-range_with_len}
use Rattle.std.specs.Prelude.{IfSome, option_and_then, slice_get}
use Rattle.cut_edits.proofs.{ChosenLemmas.headers-known, SealedLemmas.for-whole}
use Rattle.exact_span.proofs.{ExtensionLemmas.extension-length, SealLemmas.sealed-whole}
use Rattle.exact_span.specs.{Heard.heard_numbers, declared.written.WrittenFrames.WrittenFrames}
use Rattle.frame_header.{proofs.HeaderLemmas.IsClass-class_of, specs.Fields.{HeaderFields, IsClass}}
use Rattle.frame_header.specs.Tables.{window_of}
use Rattle.frame_writer.specs.Frames.{Frame}
use Rattle.info_header.specs.declared.fields.Info.{Info}
use Rattle.joined_inputs.specs.Planned.{info_kept}
use Rattle.laying.proofs.{FitLemmas.AreHeaders, FittingFrameLemmas.{parts-laid, parts-slots}}
use Rattle.laying.proofs.{HoldLemmas.blocks-kept, LaidFileLemmas.laid-stream}
use Rattle.laying.proofs.{LaidLemmas.first-there, NeedsFitLemmas.{part-fits, part-known}}
use Rattle.laying.specs.{Fits.IsFittingPlan, LaidFiles.{HasInfoSizes, IsLaidFile, laid_file}}
use Rattle.laying.specs.{Laws.AreFramesOfStream, NeedsFit.IsPlacedSurvey}
use Rattle.laying.specs.{Relaid.{AreParts, FilePart, part_needs}, Surveys.CanBeRelaid}
use Rattle.laying.specs.{Written.{back_blocks, front_blocks, slot_in}, declared.info.Kept.Kept}
use Rattle.remove_edits.proofs.PlanLemmas.{HasShape, IsSpliceNeeds, items-headers, marked-are}
use Rattle.remove_edits.proofs.PlanLemmas.{marked-fitting, plan-fitting, plan-shape}
use Rattle.remove_edits.{proofs.SpliceLemmas.own-length, specs.Ready.ArePartsLeft}
use Rattle.remove_edits.specs.Removed.{file_part, file_parts, first_left, heard_of_written}
use Rattle.remove_edits.specs.Removed.{item_places, items_left, kept_of_written, kept_with_numbers}
use Rattle.remove_edits.specs.Removed.{part_needs_of, part_rows_of, plan_of_items, removal_file}
use Rattle.remove_edits.specs.Removed.{removal_frames, removal_kept, removal_plan, removal_row_file}
use Rattle.remove_edits.specs.Removed.{removal_stream}
use Rattle.seam_plan.proofs.PartSpliceLemmas.{items-are-parts, splice-items-fit}
use Rattle.seam_plan.specs.PartSplices.{AreSpliceItemsOf, IsPartNeeds, item_needs, SpliceItem}
use Rattle.seam_plan.specs.{Stretches.AreInOrder, declared.stretches.Part.Part}
use Rattle.slot_plan.specs.declared.needs.{Need.Need, Placed.Placed}
use Rattle.sync_survey.specs.{Faults.{HoldsStream, SurveyFields}, Row.Row}

-- ---- the needs of the parts

-- what the frames of all parts need
abbrev pub flat_needs : SurveyFields → List Part → List Need
flat_needs s parts = flat_map (λ (needs : List Need). needs) (map (part_needs_of s) parts)

headers-append : (xs ys : List Need) → AreHeaders xs → AreHeaders ys → AreHeaders (xs ++ ys)
headers-append [] ys first second = second
headers-append (x ∷ xs) ys first second = (first.0, headers-append xs ys first.1 second)

module _ (s : SurveyFields) (placed : IsPlacedSurvey s) where
  -- the frames of a part can join a splice
  pub part-needs-are : {part : Part} → part.from < part.to → part.to ≤ length s.frames
      → IsPartNeeds s.class (part_needs_of s part)
  part-needs-are {part} some within =
      let fits = part-fits s part.from part.to placed in
      record {
        some = omega (arith, own-length s part within, some);
        same = fits.0;
        fits = fits.1;
      }

  -- the frames of each part are needs of a part
  pub all-needs : (least : ℕ) (parts : List Part) → AreInOrder least (length s.frames) parts
      → All (IsPartNeeds s.class) (map (part_needs_of s) parts)
  unfolding AreInOrder
  all-needs least [] order = All-nil (IsPartNeeds s.class)
  all-needs least (p ∷ parts) order =
      All-cons (IsPartNeeds s.class) (part_needs_of s p) (map (part_needs_of s) parts)
      (part-needs-are order.1 order.2) (all-needs (p.to + 1) parts order.3)

  all-headers : (parts : List Part) → AreHeaders (flat_needs s parts)
  all-headers [] = tt
  all-headers (p ∷ parts) =
      headers-append (part_needs_of s p) (flat_needs s parts)
      (headers-known (part_rows_of s p) (part-known s p.from p.to placed)) (all-headers parts)

  -- the class of the survey is one of the standard if there is a frame
  pub class-known : 0 < length s.frames → IsClass s.class
  class-known some =
      let found = first-there s.frames 0 some in
      let row = placed 0 found.0 found.1 in
      subst IsClass row.class_is (IsClass-class_of row.known)

-- the parts as parts of a file
pub are-parts : {file : List ℕ} {s : SurveyFields} (least : ℕ) (parts : List Part)
    → CanBeRelaid file s → AreInOrder least (length s.frames) parts
    → AreParts s.class (file_parts file s parts)
unfolding AreInOrder
are-parts least [] has order = tt
are-parts {file} {s} least (p ∷ parts) has order = (
  record { has = has; class = refl; some = order.1; within = order.2 },
  are-parts (p.to + 1) parts has order.3,
)

-- the needs of the parts of a file are those of its parts
pub parts-as : (file : List ℕ) (s : SurveyFields) (parts : List Part)
    → map part_needs (file_parts file s parts) ≡ map (part_needs_of s) parts
parts-as file s [] = refl
parts-as file s (p ∷ parts) = ap (λ l. part_needs_of s p ∷ l) (parts-as file s parts)

first-within : (least : ℕ) {frames : ℕ} (parts : List Part) → 1 ≤ length parts
    → AreInOrder least frames parts → first_left parts < frames
unfolding AreInOrder
first-within least [] some order = absurd (omega (arith, some))
first-within least (p ∷ parts) some order = omega (arith, order.1, order.2)

-- ---- the splice

module _ {s : SurveyFields} {parts : List Part} (can : ArePartsLeft s parts) where
  abbrev window : ℕ
  window = window_of s.class.version

  abbrev items : List SpliceItem
  items = items_left s parts

  abbrev plan : List Placed
  plan = plan_of_items s items

  -- the first of the frames that stay is within the file
  pub first-there-is : first_left parts < length s.frames
  first-there-is = first-within 0 parts can.some can.order

  known : IsClass s.class
  known = class-known s can.placed (omega (arith, first-there-is))

  needs-are : All (IsPartNeeds s.class) (map (part_needs_of s) parts)
  needs-are = all-needs s can.placed 0 parts can.order

  own : AreSpliceItemsOf items (flat_needs s parts)
  own = items-are-parts (map (part_needs_of s) parts) known needs-are

  flat-some : (ps : List Part) → 1 ≤ length ps → AreInOrder 0 (length s.frames) ps
      → 0 < length (flat_needs s ps)
  unfolding AreInOrder
  flat-some [] some order = absurd (omega (arith, some))
  flat-some (p ∷ ps) some order = omega (
    arith,
    length-append (part_needs_of s p) (flat_needs s ps),
    own-length s p order.2,
    order.1,
  )

  items-some : (is : List SpliceItem) (needs : List Need) → AreSpliceItemsOf is needs
      → 0 < length needs → 0 < length is
  unfolding AreSpliceItemsOf
  items-some [] [] are some = some
  items-some [] (n ∷ needs) are some = absurd are
  items-some (i ∷ is) needs are some = omega arith

  -- there is at least one item
  pub some-items : 0 < length items
  some-items = items-some items (flat_needs s parts) own (flat-some parts can.some can.order)

  -- the needs of the splice can be planned
  pub splice-needs : IsSpliceNeeds s.class (item_needs items)
  splice-needs =
      let fits = splice-items-fit (map (part_needs_of s) parts) known needs-are in
      record {
        known = known;
        same = fits.1;
        some = omega (arith, length-map items (λ (i : SpliceItem). i.need), some-items);
        fits = fits.0;
        headers = items-headers items (flat_needs s parts) own (all-headers s can.placed parts);
      }

  -- the plan of the items has a place for each, behind at most one lead-in
  pub items-shape : HasShape (length items) plan
  items-shape =
      subst (λ n. HasShape n plan) (length-map items (λ (i : SpliceItem). i.need))
      (plan-shape splice-needs)

  -- the frames of the parts fit in the places of their plan
  pub removal-fitting : IsFittingPlan window (flat_needs s parts) (removal_plan s parts)
  removal-fitting =
      marked-fitting items (flat_needs s parts) own some-items items-shape
      (plan-fitting splice-needs)

  -- the places of the plan are that of the lead-in before all, and those of the items
  pub removal-places : removal_plan s parts
      ≡ items-shape.front ++ item_places items items-shape.frames
  removal-places =
      marked-are items (flat_needs s parts) own some-items items-shape
      (plan-fitting splice-needs)

  -- ---- the file

  module _ {file : List ℕ} (has : CanBeRelaid file s) where
    abbrev filed : List FilePart
    filed = file_parts file s parts

    filed-are : AreParts s.class filed
    filed-are = are-parts 0 parts has can.order

    filed-some : 1 ≤ length filed
    filed-some = omega (arith, length-map parts (file_part file s), can.some)

    filed-fitting : IsFittingPlan window
        (flat_map (λ (part : List Need). part) (map part_needs filed)) (removal_plan s parts)
    filed-fitting = rw (parts-as file s parts) removal-fitting

    -- the frames that stay can be laid, and their stream is theirs with the lead-ins of the plan
    pub removal-laid : AreFramesOfStream s.class (removal_frames parts file s)
        (removal_stream parts file s)
    removal-laid = parts-laid s.class filed filed-some filed-are filed-fitting

    -- they have the slots of the plan
    pub removal-slots : map slot_in (removal_frames parts file s)
        ≡ map (λ (p : Placed). p.slot) (removal_plan s parts)
    removal-slots = parts-slots s.class filed filed-some filed-are filed-fitting

    kept-sizes : (k : Option Kept) (h : HeaderFields) (frames : List Frame)
        → IfSome k (λ (kept : Kept). length kept.extension ≡ 36)
        → HasInfoSizes (info_kept k h s.class frames)
    kept-sizes None h frames long = grind (arith, length-map, length-range_with_len)
    kept-sizes (Some kept) h frames long =
        let whole = for-whole s.class frames kept.quality long in
        let sealed = sealed-whole h whole in
        record { table = sealed.table; extension = sealed.extension }

    -- the first row of the frames that stay
    pub found : (row : Row) × (slice_get s.frames (first_left parts) ≡ Some row)
    found = first-there s.frames (first_left parts) first-there-is

    module _ (head : Option Info) (long : IfSome head (λ (i : Info). length i.extension ≡ 36)) where
      kept-long : (written : List WrittenFrames) (places : ℕ)
          → IfSome (kept_of_written head s.class (length s.frames) written places)
          (λ (kept : Kept). length kept.extension ≡ 36)
      kept-long written places =
          at (option_and_then (heard_numbers s.class places)
          (heard_of_written head s.class (length s.frames) written))
        where
          at : (n : Option (ℕ × ℕ)) → IfSome (option_map (kept_with_numbers head) n)
              (λ (kept : Kept). length kept.extension ≡ 36)
          at None = tt
          at (Some n) = extension-length head n.0 n.1 long

      abbrev frames : List Frame
      frames = removal_frames parts file s

      abbrev pub info : Info
      info = info_kept (removal_kept head s parts) found.0.header s.class frames

      -- it is a file of laid frames
      pub file-is : IsLaidFile s.class (front_blocks file s) found.0.header info frames
          (back_blocks file s)
      file-is =
          let row = has.placed (first_left parts) found.0 found.1 in
          let blocks = blocks-kept file s has in
          record {
            blocks_before = blocks.0;
            header = row.known;
            class = row.class_is;
            sizes = kept-sizes (removal_kept head s parts) found.0.header frames (kept-long _ _);
            some = removal-laid.some;
            entries = removal-laid.entries;
            laid = removal-laid.fit;
            blocks_behind = blocks.1;
          }

      -- the file of the parts that stay
      pub removal-is : removal_file parts head file s
          ≡ laid_file (front_blocks file s) found.0.header info frames (back_blocks file s)
      unfolding removal_file
      removal-is = ap (λ (o : Option Row). removal_row_file o parts head file s) found.1

      -- it holds their stream
      pub removal-holds : HoldsStream (removal_file parts head file s) (removal_stream parts file s)
      removal-holds =
          subst (λ (f : List ℕ). HoldsStream f (removal_stream parts file s)) (sym removal-is)
          (subst (HoldsStream (laid_file (front_blocks file s) found.0.header info frames
          (back_blocks file s))) removal-laid.stream_is
          (laid-stream s.class (front_blocks file s) found.0.header info frames
          (back_blocks file s) file-is))
