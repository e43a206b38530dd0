-- What a removal prepares: the parts that stay can be laid as one splice, the work is ready for the
-- pass over its input, and its file is that of the parts.
use Rattle.std.proofs.Common.{ap, append_assoc, arith, Err, length, length-append, List, map, Ok}
use Rattle.std.proofs.Common.{Option, refl, Result, subst, sym, ℕ, [], ◌++◌, ◌+◌, ◌∙◌, ◌∷◌, ◌≡◌}
use Rattle.std.{proofs.{Common.◌≤◌, lemmas.List.length-map}, specs.{List.concat, Prelude.IfSome}}
use Rattle.cut_edits.{proofs.HeadLemmas.survey_without_head-length, specs.Exact.survey_without_head}
use Rattle.exact_span.specs.declared.exact_place.ExactPlace.{ExactPlace}
use Rattle.frame_header.specs.Tables.{window_of}
use Rattle.frame_writer.specs.Frames.{bytes_of_frames}
use Rattle.info_header.specs.declared.fields.Info.{Info}
use Rattle.joined_inputs.specs.Ranges.{AreRangesWithin}
use Rattle.laying.specs.{Fits.FitsFromReach, LaidFiles.laid_file, Needs.needs_of_parts}
use Rattle.laying.specs.{Passing.IsRelayFresh, Surveys.CanBeRelaid}
use Rattle.laying.specs.Written.{back_blocks, front_blocks}
use Rattle.outside.specs.Files.{Files, Holds, IsFileThere}
use Rattle.remove_edits.proofs.RangeLemmas.{ranges-within}
use Rattle.remove_edits.proofs.RemovalLemmas.{flat_needs, found, removal-fitting, removal-is}
use Rattle.remove_edits.specs.Ready.{ArePartsLeft, IsRemovalPlanned, IsRemovalReady, laid_parts}
use Rattle.remove_edits.specs.Ready.{part_range, parts_file, removal_work_file}
use Rattle.remove_edits.specs.Removed.{all_stretch_frames, part_needs_of, part_rows_of, parts_left}
use Rattle.remove_edits.specs.Removed.{parts_or_range, removal_file, removal_frames, removal_plan}
use Rattle.remove_edits.specs.{Removed.stretch_frames, declared.work.RemovalWork.RemovalWork}
use Rattle.seam_plan.specs.Stretches.{AreInOrder, part_between, staying_from, staying_parts}
use Rattle.seam_plan.specs.declared.stretches.Part.{Part}
use Rattle.slot_plan.specs.{Plans.entries, declared.needs.{Need.Need, Placed.Placed}}
use Rattle.sync_survey.specs.{Faults.SurveyFields, Survey.IsSurveyLaidOut}

-- ---- how many parts stay

few-between : (from to : ℕ) → length (part_between from to) ≤ 1
few-between from to = grind arith

few-from : (frames before : ℕ) (stretches : List (ℕ × ℕ))
    → length (staying_from frames before stretches) ≤ length stretches + 1
unfolding staying_from
few-from frames before [] = few-between before frames
few-from frames before (stretch ∷ stretches) = omega (
  arith,
  length-append (part_between before stretch.0) (staying_from frames stretch.1 stretches),
  few-between before stretch.0,
  few-from frames stretch.1 stretches,
)

-- there is at most one part more than stretches
staying-few : (frames : ℕ) (stretches : List (ℕ × ℕ)) {parts : List Part}
    → staying_parts frames stretches ≡ Ok parts → length parts ≤ length stretches + 1
unfolding staying_parts
staying-few frames stretches is = grind (arith, few-from)

ok-few : (frames : ℕ) (stretches : List (ℕ × ℕ)) (r : Result (List Part) (ℕ × ℕ))
    {parts : List Part} → staying_parts frames stretches ≡ r → parts_or_range frames r ≡ Ok parts
    → length parts ≤ length stretches + 1
ok-few frames stretches (Ok ps) {parts} is e = staying-few frames stretches (is ∙ cc)
ok-few frames stretches (Err pair) is e = absurd cc

-- at most 51 parts stay if there are at most 50 stretches
pub left-few : (stretches : List (ExactPlace × ExactPlace)) (s : SurveyFields) {parts : List Part}
    → parts_left stretches s ≡ Ok parts → length stretches ≤ 50 → length parts ≤ 51
unfolding parts_left
left-few stretches s {parts} e few =
    let frames = length s.frames in
    let numbers = all_stretch_frames s.class frames stretches in
    omega (
      arith,
      ok-few frames numbers (staying_parts frames numbers) refl e,
      length-map stretches (stretch_frames s.class frames),
      few,
    )

-- ---- the splice

-- the parts that stay can be laid as one splice, once the head is set apart
pub parts-splice : (s : SurveyFields) {t : SurveyFields} {parts : List Part}
    → t ≡ survey_without_head s → IsSurveyLaidOut t
    → (1 ≤ length parts) × AreInOrder 0 (length s.frames) parts → ArePartsLeft t parts
parts-splice s {t} {parts} is laid there =
    let same : length t.frames ≡ length s.frames =
    ap (λ (u : SurveyFields). length u.frames) is ∙ survey_without_head-length s in
    record {
      some = there.0;
      order = subst (λ n. AreInOrder 0 n parts) (sym same) there.1;
      placed = laid.placed;
    }

-- ---- what is prepared

needs-as : (s : SurveyFields) (parts : List Part)
    → needs_of_parts (map (part_rows_of s) parts) ≡ flat_needs s parts
unfolding needs_of_parts
needs-as s [] = refl
needs-as s (p ∷ parts) = ap (λ l. part_needs_of s p ++ l) (needs-as s parts)

file-as : (front info frames back : List ℕ)
    → ((front ++ info) ++ frames) ++ back ≡ front ++ (info ++ (frames ++ back))
file-as front info frames back =
    append_assoc (front ++ info) frames back ∙ append_assoc front info (frames ++ back)

module _ {s : SurveyFields} {parts : List Part} {head : Option Info} {work : RemovalWork}
    (of : IsRemovalPlanned s parts head work) (can : ArePartsLeft s parts) where
  planned-fits : FitsFromReach (window_of s.class.version) 0
      (needs_of_parts (map (part_rows_of s) parts)) (entries work.work.plan)
  planned-fits =
      subst (FitsFromReach (window_of s.class.version) 0
      (needs_of_parts (map (part_rows_of s) parts))) (sym of.laid_out.plan)
      (subst (λ (n : List Need). FitsFromReach (window_of s.class.version) 0 n
      (removal_plan s parts))
      (sym (needs-as s parts)) (removal-fitting can).fits)

  -- the work is prepared for the pass over the file that was read
  pub planned-ready : {input : List ℕ} {files : Files} → IsFileThere files input
      → IsSurveyLaidOut s → ((bytes : List ℕ) → Holds files input bytes → CanBeRelaid bytes s)
      → length parts ≤ 51 → IsRemovalReady input work files
  planned-ready {input} there laid has few =
      let own = sym of.survey_is in
      let left = sym of.parts_are in
      record {
        there = there;
        laid = subst IsSurveyLaidOut own laid;
        has = λ bytes holds. subst (CanBeRelaid bytes) own (has bytes holds);
        some = subst (λ (ps : List Part). 1 ≤ length ps) left can.some;
        few = subst (λ (ps : List Part). length ps ≤ 51) left few;
        within = subst (λ (t : SurveyFields). AreRangesWithin
            (map (part_range input t) work.parts.items)) own
            (subst (λ (ps : List Part). AreRangesWithin (map (part_range input s) ps)) left
            (ranges-within input s 0 parts can.order));
        fits = subst (λ (t : SurveyFields). FitsFromReach (window_of t.class.version) 0
            (needs_of_parts (map (part_rows_of t) work.parts.items)) (entries work.work.plan)) own
            (subst (λ (ps : List Part). FitsFromReach (window_of s.class.version) 0
            (needs_of_parts (map (part_rows_of s) ps)) (entries work.work.plan)) left planned-fits);
        fresh = subst (λ (t : SurveyFields). IsRelayFresh t.class work.work.buffers) own
            of.laid_out.fresh;
      }

  -- the work makes the file of the parts that stay
  pub planned-file : {file : List ℕ} → CanBeRelaid file s
      → IfSome head (λ (i : Info). length i.extension ≡ 36)
      → removal_work_file work file ≡ removal_file parts head file s
  unfolding laid_file
  planned-file {file} has long =
      let row = found can has in
      ap (λ (t : SurveyFields). parts_file t work.parts.items work.work file) of.survey_is
      ∙ ap (λ (ps : List Part). parts_file s ps work.work file) of.parts_are
      ∙ file-as (concat (front_blocks file s)) work.work.info.items
      (bytes_of_frames (laid_parts s parts (entries work.work.plan) file))
      (concat (back_blocks file s))
      ∙ ap (λ (placed : List Placed). concat (front_blocks file s) ++ (work.work.info.items
      ++ (bytes_of_frames (laid_parts s parts placed file) ++ concat (back_blocks file s))))
      of.laid_out.plan
      ∙ ap (λ (info : List ℕ). concat (front_blocks file s) ++ (info
      ++ (bytes_of_frames (removal_frames parts file s) ++ concat (back_blocks file s))))
      (of.laid_out.info file has row.0 row.1)
      ∙ sym (removal-is can has head long)
