-- One part that stays is planned, laid and written as a cut.
use Rattle.std.proofs.Common.{ap, append-nil, ap₂, arith, drop, length, List, map, None, Ok, Option}
use Rattle.std.proofs.Common.{refl, replicate, slice_get, Some, sym, take, ℕ, [], ◌++◌, ◌<◌, ◌∙◌}
use Rattle.std.proofs.{Common.{◌∷◌, ◌≡◌, ◌≤◌}, lemmas.Bool.{le-leb, lt-ltb}}
use Rattle.std.proofs.lemmas.List.{take-append-drop}
use Rattle.commands.specs.Refusing.{then_made}
use Rattle.cue_sheet.specs.declared.place.Place.{Place}
use Rattle.cut_edits.specs.Chosen.{chosen_range, chosen_stream, cut_choice, first_planning}
use Rattle.cut_edits.specs.Chosen.{laying_making, laying_part, own_slots_part}
use Rattle.cut_edits.specs.Exact.{survey_without_head}
use Rattle.exact_span.specs.declared.exact_place.ExactPlace.{ExactPlace}
use Rattle.frame_header.specs.Tables.{window_of}
use Rattle.frame_writer.specs.Frames.{Frame}
use Rattle.info_header.specs.declared.fields.Info.{Info}
use Rattle.joined_inputs.specs.Planned.{info_kept, plan_of_splice_needs}
use Rattle.laying.specs.{KeptFields.fields_of_head, Laid.{file_laid, file_with_first, frames_laid}}
use Rattle.laying.specs.{LaidFiles.laid_file, NeedsFit.own_choice}
use Rattle.laying.specs.Relaid.{FilePart, part_frames, part_stream, relaid_frames}
use Rattle.laying.specs.{Relaid.stream_with_lead_ins, Written.{back_blocks, front_blocks}}
use Rattle.laying.specs.declared.info.Kept.{Kept}
use Rattle.remove_edits.proofs.{CommandLemmas.left-order, ItemLemmas.left-one}
use Rattle.remove_edits.specs.Removed.{item_places, items_left, part_needs_of, parts_left}
use Rattle.remove_edits.specs.Removed.{places_before, plan_of_items, removal_file, removal_frames}
use Rattle.remove_edits.specs.Removed.{removal_kept, removal_plan, removal_row_file, removal_stream}
use Rattle.remove_edits.specs.Removed.{remove_making}
use Rattle.remove_laws.specs.CutLaws.{chosen_part, NamePart, RemoveToTheEndIsCut}
use Rattle.seam_plan.proofs.PartJointLemmas.{needs-items}
use Rattle.seam_plan.specs.{PartSplices.{frame_item, item_needs, SpliceItem}, Stretches.AreInOrder}
use Rattle.seam_plan.specs.declared.stretches.Part.{Part}
use Rattle.slot_plan.specs.declared.needs.{Need.Need, Placed.Placed}
use Rattle.sync_survey.specs.{Faults.SurveyFields, Row.Row}

-- frames mark no place
frames-mark : (needs : List Need) (placed : List Placed)
    → item_places (map frame_item needs) placed ≡ placed
unfolding item_places
frames-mark [] placed = refl
frames-mark (n ∷ needs) [] = refl
frames-mark (n ∷ needs) (p ∷ placed) = ap (λ l. p ∷ l) (frames-mark needs placed)

module _ (s : SurveyFields) (part : Part) where
  abbrev needs : List Need
  needs = part_needs_of s part

  abbrev items : List SpliceItem
  items = items_left s (part ∷ [])

  plan-is : plan_of_items s items ≡ plan_of_splice_needs (window_of s.class.version) needs
  plan-is =
      ap (plan_of_splice_needs (window_of s.class.version))
      (ap item_needs (left-one s part) ∙ needs-items needs)

  -- the plan of one part is that of its frames in their own slots
  pub one-planned : removal_plan s (part ∷ []) ≡ (own_slots_part (chosen_part part) s).placed
  one-planned =
      let plan = plan_of_items s items in
      let before = places_before items plan in
      ap (λ l. take before plan ++ l)
      (ap (λ i. item_places i (drop before plan)) (left-one s part)
      ∙ frames-mark needs (drop before plan))
      ∙ take-append-drop before plan ∙ plan-is

  -- the frames of one part
  pub one-laid : (file : List ℕ) → removal_frames (part ∷ []) file s
      ≡ frames_laid (own_slots_part (chosen_part part) s) file s
  one-laid file =
      let own : FilePart = record { file = file; survey = s; from = part.from; to = part.to } in
      ap₂ relaid_frames (append-nil (part_frames own)) one-planned

  one-stream : (file : List ℕ)
      → removal_stream (part ∷ []) file s ≡ chosen_stream (chosen_part part) file s
  unfolding chosen_stream
  one-stream file =
      let own : FilePart = record { file = file; survey = s; from = part.from; to = part.to } in
      ap₂ stream_with_lead_ins one-planned (append-nil (part_stream own))

  -- where nothing is kept of the head, the file is that of the cut
  one-file : (file : List ℕ) (head : Option Info) → removal_kept head s (part ∷ []) ≡ None
      → removal_file (part ∷ []) head file s
      ≡ file_laid (own_slots_part (chosen_part part) s) file s
  unfolding removal_file
  one-file file head none = at (slice_get s.frames part.from)
    where
      at : (o : Option Row) → removal_row_file o (part ∷ []) head file s
          ≡ file_with_first o (own_slots_part (chosen_part part) s) file s
      at None = refl
      at (Some row) =
          ap₂ (λ (k : Option Kept) (frames : List Frame). laid_file (front_blocks file s) row.header
          (info_kept k row.header s.class frames) frames (back_blocks file s)) none (one-laid file)

-- the cut chooses the part
cut-chooses : (file : List ℕ) {s : SurveyFields} {part : Part} {from to : Place}
    → NamePart s part from to → part.from < part.to → part.to ≤ length s.frames
    → cut_choice from to file s ≡ Ok (chosen_part part)
unfolding cut_choice
cut-chooses file {s} names some within =
    ap₂ (λ a b. chosen_range None (replicate 36 0) a b (length s.frames)) names.first names.end
    ∙ grind (arith, lt-ltb, le-leb, some, within)

cut-made : (file : List ℕ) (s : SurveyFields) {part : Part} (from to : Place)
    → cut_choice from to file s ≡ Ok (chosen_part part)
    → laying_making (cut_choice from to) (first_planning own_choice) file s
    ≡ Ok (file_laid (own_slots_part (chosen_part part) s) file s)
unfolding laying_part
cut-made file s from to is = rw is refl

module _ (stretches : List (ExactPlace × ExactPlace)) (file : List ℕ) {s : SurveyFields}
    {part : Part} (left : parts_left stretches s ≡ Ok (part ∷ []))
    (apart : survey_without_head s ≡ s) where
  remove-made : removal_kept (fields_of_head file s.head) s (part ∷ []) ≡ None
      → remove_making stretches file s ≡ Ok (file_laid (own_slots_part (chosen_part part) s) file s)
  unfolding remove_making
  remove-made none =
      ap (λ r. then_made r (λ parts. Ok (removal_file parts (fields_of_head file s.head) file
      (survey_without_head s)))) left
      ∙ ap (λ (t : SurveyFields). Ok (removal_file (part ∷ []) (fields_of_head file s.head) file t))
      apart
      ∙ ap Ok (one-file s part file (fields_of_head file s.head) none)

-- the law of stretches that leave one part
pub remove-is-cut : RemoveToTheEndIsCut
unfolding AreInOrder
remove-is-cut stretches file s part from to is left apart names =
    let order = (left-order stretches s left).1 in
    let chosen = cut-chooses file names order.1 order.2 in
    record {
      part_is = record {
        chosen = chosen;
        slots = one-planned s part;
        frames = one-laid s part file;
        stream = one-stream s part file;
      };
      same = λ none. remove-made stretches file left apart none
          ∙ sym (cut-made file s from to chosen);
    }
