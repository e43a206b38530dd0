-- Files that are cut out of a file, part by part, are joined without seams to the frames that stay
-- where all else is taken out.
use Rattle.std.proofs.Common.{ap, ap₂, arith, false, flat_map, length, List, map, None, not, Option}
use Rattle.std.proofs.Common.{refl, Some, subst, sym, true, ℕ, [], ◌++◌, ◌+◌, ◌<◌, ◌∙◌, ◌∷◌, ◌≡◌}
use Rattle.std.proofs.{Common.◌≤◌, lemmas.{Bool.and_parts, List.{length-map, map-append}}}
use Rattle.cut_edits.proofs.PieceLemmas.{head_long}
use Rattle.frame_header.specs.{Fields.ClassFields, Limits.most_frames, Tables.window_of}
use Rattle.joined_inputs.specs.Planned.{plan_of_splice_needs}
use Rattle.laying.specs.{KeptFields.fields_of_head, Laid.{file_laid, LaidPart}}
use Rattle.laying.specs.{LaidFiles.{laid_file, stream_entry}, Laws.AreFramesOfStream}
use Rattle.laying.specs.Relaid.{FilePart, part_frames, part_stream, stream_with_lead_ins}
use Rattle.laying.specs.Written.{back_blocks, front_blocks, slot_in}
use Rattle.remove_edits.proofs.CommandLemmas.{left-parts}
use Rattle.remove_edits.proofs.RemovalLemmas.{found, info, items-shape, removal-is, removal-laid}
use Rattle.remove_edits.proofs.RemovalLemmas.{removal-places, removal-slots}
use Rattle.remove_edits.specs.Ready.{ArePartsLeft}
use Rattle.remove_edits.specs.Removed.{file_parts, item_places, items_left, part_needs_of}
use Rattle.remove_edits.specs.Removed.{plan_of_items, removal_file, removal_frames, removal_plan}
use Rattle.remove_edits.specs.Removed.{removal_stream}
use Rattle.remove_laws.proofs.JoinPartLemmas.{ArePartInputs, frames_in, IsPartInput, later-streamed}
use Rattle.remove_laws.proofs.JoinPartLemmas.{leads-are, own-many, part-need, part-piece}
use Rattle.remove_laws.proofs.JoinPartLemmas.{part-pieces, parts-need}
use Rattle.remove_laws.proofs.PieceLemmas.{first-alike, front-out, pieces-as-parts}
use Rattle.remove_laws.proofs.SpliceStreamLemmas.{frames-streamed, item_stream, items-streamed}
use Rattle.remove_laws.proofs.SpliceStreamLemmas.{marked-places, place_of, relaid-places}
use Rattle.remove_laws.{proofs.SpliceStreamLemmas.stream-placed, specs.CutLaws.chosen_part}
use Rattle.remove_laws.specs.JoinLaws.{all_parts_laid, IsFileOfFrames, part_laid}
use Rattle.remove_laws.specs.JoinLaws.{PartsJoinAsRemoved}
use Rattle.seam_laws.proofs.LaidInputLemmas.{class-same, IsFileOf, laid-whole}
use Rattle.seam_laws.proofs.PieceListLemmas.{files_of, parts-files, Recording, recording}
use Rattle.seam_laws.proofs.PiecePartLemmas.{IsPiece, laid-input, left-own, plain-by}
use Rattle.seam_laws.proofs.SeamlessInputLemmas.{AreInputs, input-whole, inputs-are, inputs-whole}
use Rattle.seam_laws.proofs.SeamlessInputLemmas.{IsInput, Joins, own-class}
use Rattle.seam_laws.proofs.{SeamlessSpliceLemmas.not-true, SplitFileLemmas.front-row}
use Rattle.seam_laws.proofs.SplitJoinLemmas.{right-between}
use Rattle.seam_laws.specs.SeamlessLaws.{has_no_look_alike, is_look_alike}
use Rattle.seam_plan.specs.Frames.{Brought, needs_of, SpliceFrame}
use Rattle.seam_plan.specs.PartSplices.{frame_item, IsFrameFirst, item_needs, items_behind}
use Rattle.seam_plan.specs.PartSplices.{splice_items, SpliceItem}
use Rattle.seam_plan.specs.{Seams.{seamless_join, SeamlessJoin, splice_of}, Stretches.AreInOrder}
use Rattle.seam_plan.specs.declared.stretches.Part.{Part}
use Rattle.seamless_edits.proofs.SplicePartLemmas.{splice-laid}
use Rattle.seamless_edits.specs.Seamless.{delay_of_splice, join_of_parts, later_parts, part_brought}
use Rattle.seamless_edits.specs.Seamless.{part_from, seamless_file, seamless_frames, seamless_info}
use Rattle.seamless_edits.specs.Seamless.{seamless_row_file, seamless_stream, splice_parts}
use Rattle.seamless_edits.specs.Seamless.{splice_plan}
use Rattle.slot_plan.specs.declared.needs.{Need.Need, Placed.Placed}
use Rattle.sync_survey.specs.{Faults.SurveyFields, MainData.StreamFrame}

-- items of a part with a frame begin with a frame
begins-frame : (needs : List Need) (items : List SpliceItem) → 0 < length needs
    → IsFrameFirst (map frame_item needs ++ items)
begins-frame [] items some = absurd (omega (arith, some))
begins-frame (n ∷ needs) items some = refl

-- ---- the join

module _ {file : List ℕ} {s : SurveyFields} (r : Recording file s) {part : Part}
    (parts : List Part) {first : FilePart} (others : List FilePart)
    (is : IsPartInput file s part first) (are : ArePartInputs file s parts others) where
  abbrev window : ℕ
  window = window_of s.class.version

  abbrev frames : List SpliceFrame
  frames = frames_in file s part

  abbrev more : List (List SpliceFrame)
  more = map (frames_in file s) parts

  abbrev brought : Brought
  brought = part_brought first

  abbrev inputs : List Brought
  inputs = map part_brought others

  abbrev joined : SeamlessJoin
  joined = seamless_join s.class brought inputs

  abbrev items : List SpliceItem
  items = items_left s (part ∷ parts)

  abbrev stream : List StreamFrame
  stream = flat_map part_stream (file_parts file s (part ∷ parts))

  join-is : join_of_parts first others ≡ joined
  join-is = ap (λ c. seamless_join c brought inputs) is.piece.is.of_class

  items-are : splice_items window (map needs_of (frames ∷ more)) ≡ items
  items-are = ap (splice_items window) (parts-need r (part ∷ parts))

  splice-needs : needs_of (splice_of brought (join_of_parts first others)) ≡ item_needs items
  splice-needs =
      ap (λ j. needs_of (splice_of brought j)) join-is
      ∙ pieces-as-parts s.class frames more brought inputs r.known (part-piece r is)
      (part-pieces r parts others are)
      ∙ ap item_needs items-are

  -- the plan of the join is that of the items
  plan-is : splice_plan first others ≡ plan_of_items s items
  plan-is =
      ap₂ (λ (c : ClassFields) (n : List Need). plan_of_splice_needs (window_of c.version) n)
      is.piece.is.of_class splice-needs

  later-is : flat_map part_stream (later_parts joined.joints others)
      ≡ item_stream (items_behind window (needs_of frames) (map needs_of more))
      (flat_map part_stream (file_parts file s parts))
  unfolding seamless_join
  later-is =
      later-streamed r brought.frames (needs_of frames) brought parts others (
        first-alike s.class r.known more inputs (part-piece r is)
            (part-pieces r parts others are),
        (part-piece r is).needs.fits,
      ) are

  begin-is : part_stream (part_from joined.front first)
      ≡ part_stream (record { file = file; survey = s; from = part.from; to = part.to })
  begin-is =
      ap (λ n. part_stream (part_from n first))
      (front-out s.class r.known more inputs (part-piece r is)
      (part-pieces r parts others are)
      ∙ leads-are r is)
      ∙ left-own is.piece

  -- the stream of the splice is that of the items
  splice-stream : flat_map part_stream (splice_parts first others) ≡ item_stream items stream
  unfolding splice_items
  splice-stream =
      ap (λ (j : SeamlessJoin).
      flat_map part_stream (part_from j.front first ∷ later_parts j.joints others)) join-is
      ∙ ap₂ ◌++◌ begin-is later-is
      ∙ sym (frames-streamed (needs_of frames)
      (items_behind window (needs_of frames) (map needs_of more))
      (part_stream (record { file = file; survey = s; from = part.from; to = part.to }))
      (flat_map part_stream (file_parts file s parts)) (own-many r is))
      ∙ ap (λ i. item_stream i stream) items-are

  module _ (can : ArePartsLeft s (part ∷ parts)) where
    begins : IsFrameFirst items
    unfolding splice_items
    begins =
        begins-frame (part_needs_of s part)
        (items_behind window (part_needs_of s part) (map (part_needs_of s) parts))
        (subst (λ (l : List Need). 0 < length l) (part-need r is)
        (part-piece r is).needs.some)

    -- the join has the stream of the frames that stay
    stream-is : seamless_stream (first ∷ others) ≡ removal_stream (part ∷ parts) file s
    unfolding seamless_stream
    stream-is =
        let shape = items-shape can in
        ap₂ stream_with_lead_ins (plan-is ∙ shape.are) splice-stream
        ∙ items-streamed items shape.frames shape.plain shape.count stream shape.lead
        begins
        ∙ ap (λ p. stream_with_lead_ins p stream) (sym (removal-places can))

    -- its frames have the same places
    places-are : map place_of (splice_plan first others)
        ≡ map place_of (removal_plan s (part ∷ parts))
    places-are =
        let shape = items-shape can in
        ap (map place_of) (plan-is ∙ shape.are)
        ∙ map-append place_of shape.front shape.frames
        ∙ ap (λ l. map place_of shape.front ++ l)
        (sym (marked-places items shape.frames shape.count))
        ∙ sym (map-append place_of shape.front (item_places items shape.frames))
        ∙ ap (map place_of) (sym (removal-places can))

    module _ (joins : Joins s.class first others) where
      laid : AreFramesOfStream s.class (seamless_frames first others)
          (seamless_stream (first ∷ others))
      unfolding seamless_stream
      laid =
          let own = own-class joins in
          subst (λ c. AreFramesOfStream c (seamless_frames first others)
          (stream_with_lead_ins (splice_plan first others)
          (flat_map part_stream (splice_parts first others)))) joins.head.of_class
          (splice-laid others (input-whole own.head)
          (inputs-whole first.survey.class others own.others))

      left : AreFramesOfStream s.class (removal_frames (part ∷ parts) file s)
          (removal_stream (part ∷ parts) file s)
      left = removal-laid can r.has

      same-entries : map stream_entry (seamless_frames first others)
          ≡ map stream_entry (removal_frames (part ∷ parts) file s)
      same-entries = laid.stream_is ∙ stream-is ∙ sym left.stream_is

      left-many : length (removal_frames (part ∷ parts) file s)
          ≡ length (removal_plan s (part ∷ parts))
      left-many =
          sym (length-map (removal_frames (part ∷ parts) file s) slot_in)
          ∙ ap length (removal-slots can r.has)
          ∙ length-map (removal_plan s (part ∷ parts)) (λ (p : Placed). p.slot)

      laid-many : length (seamless_frames first others) ≡ length (splice_plan first others)
      laid-many =
          sym (length-map (seamless_frames first others) stream_entry)
          ∙ ap length same-entries
          ∙ length-map (removal_frames (part ∷ parts) file s) stream_entry
          ∙ left-many
          ∙ sym (length-map (removal_plan s (part ∷ parts)) place_of)
          ∙ ap length (sym places-are) ∙ length-map (splice_plan first others) place_of

      -- the join has the frames that stay, in the same places
      frames-are : seamless_frames first others ≡ removal_frames (part ∷ parts) file s
      frames-are =
          stream-placed s.class r.known laid.entries left.entries (
            same-entries,
            relaid-places (flat_map part_frames (splice_parts first others))
                (splice_plan first others) laid-many
                ∙ places-are
                ∙ sym (relaid-places
                (flat_map part_frames (file_parts file s (part ∷ parts)))
                (removal_plan s (part ∷ parts)) left-many),
          )

      -- the joined file is of these frames
      joined-made : IsFileOfFrames (removal_frames (part ∷ parts) file s)
          (seamless_file (first ∷ others))
      unfolding seamless_file
      joined-made =
          let row = front-row r.known joins in
          record {
            front = front_blocks first.file first.survey;
            header = row.0.header;
            info = seamless_info (delay_of_splice first others) row.0 first others;
            back = [];
            is = ap (λ o. seamless_row_file o first others) row.1
                ∙ ap (λ fs. laid_file (front_blocks first.file first.survey) row.0.header
                (seamless_info (delay_of_splice first others) row.0 first others) fs []) frames-are;
          }

      -- so is the file without the stretches
      removed-made : IsFileOfFrames (removal_frames (part ∷ parts) file s)
          (removal_file (part ∷ parts) (fields_of_head file s.head) file s)
      removed-made = record {
        front = front_blocks file s;
        header = (found can r.has).0.header;
        info = info can r.has (fields_of_head file s.head)
            (head_long file s.head);
        back = back_blocks file s;
        is = removal-is can r.has (fields_of_head file s.head)
            (head_long file s.head);
      }

-- ---- its inputs

module _ {file : List ℕ} {s : SurveyFields} (r : Recording file s) where
  piece-for : {c : ClassFields} {part : Part} {p : FilePart} → part.from < part.to
      → part.to ≤ length s.frames → IsInput c p → p.file ≡ file_laid (part_laid s part) file s
      → IsPiece false (chosen_part part) file s c p
  piece-for {part = part} some within is same = record {
    has = r.has;
    right = right-between some within;
    made = subst (IsFileOf (part_laid s part) file s) (sym same)
        (laid-whole (part_laid s part) r.has (omega (arith, some, within)));
    is = is;
  }

  abbrev laid_files : List Part → List (Option (List ℕ))
  laid_files parts = map (λ (l : LaidPart). Some (file_laid l file s)) (all_parts_laid s parts)

  inputs-of : (least : ℕ) (parts : List Part) (inputs : List FilePart)
      → AreInOrder least (length s.frames) parts → AreInputs s.class inputs
      → (files_of inputs ≡ laid_files parts)
      × (has_no_look_alike (all_parts_laid s parts) inputs ≡ true)
      → ArePartInputs file s parts inputs
  unfolding AreInOrder
  inputs-of least [] [] order are same = tt
  inputs-of least [] (p ∷ inputs) order are same =
      let never = same.0 in absurd cc
  inputs-of least (part ∷ parts) [] order are same =
      let never = same.0 in absurd cc
  inputs-of least (part ∷ parts) (p ∷ inputs) order are same =
      let files = same.0 in
      let here : p.file ≡ file_laid (part_laid s part) file s = cc in
      let more : files_of inputs ≡ laid_files parts = cc in
      let both = and_parts (not (is_look_alike (part_laid s part) p))
      (has_no_look_alike (all_parts_laid s parts) inputs) same.1 in
      let piece = piece-for order.1 order.2 are.0 here in (
        record {
          piece = piece;
          plain = plain-by piece (not-true both.0);
        },
        inputs-of (part.to + 1) parts inputs order.3 are.1 (more, both.1),
      )

-- ---- the law

-- the join of the files that are cut out of a file, part by part, has the frames that stay
pub parts-join : PartsJoinAsRemoved
unfolding AreInOrder
parts-join stretches file s [] first others read apart left inputs none =
    absurd (omega (arith, (left-parts stretches file read left).some))
parts-join stretches file s (part ∷ parts) first others read apart left inputs none =
    let r = recording read in
    let can = subst (λ t. ArePartsLeft t (part ∷ parts)) apart
    (left-parts stretches file read left) in
    let joins = inputs-are inputs.files inputs.inputs inputs.taken in
    let same = sym (parts-files inputs.files 0 None most_frames inputs.inputs
    inputs.taken)
    ∙ inputs.are in
    let here : first.file ≡ file_laid (part_laid s part) file s = cc in
    let piece = piece-for r can.order.1 can.order.2 joins.head here in
    let all = subst (λ c. Joins c first others) (class-same (laid-input piece)) joins in
    let are = inputs-of r 0 (part ∷ parts) (first ∷ others) can.order (all.head, all.others)
    (same, none) in
    record {
      stream = stream-is r parts others are.0 are.1 can;
      frames = frames-are r parts others are.0 are.1 can all;
      joined = joined-made r parts others are.0 are.1 can all;
      removed = removed-made r parts others are.0 are.1 can all;
    }
