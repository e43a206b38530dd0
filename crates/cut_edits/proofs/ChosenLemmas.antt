-- Frames that a command chooses from a surveyed file: they have a plan, and their file holds the
-- stream that the command says.
use Rattle.std.proofs.Common.{ap, append-nil, arith, Bool, cond, drop, Err, inl, inr, length}
use Rattle.std.proofs.Common.{length-append, List, map, None, Ok, Option, refl, Result, rules, Some}
use Rattle.std.proofs.Common.{subst, sym, ℕ, [], ◌&&◌, ◌++◌, ◌+◌, ◌∙◌, ◌∷◌, ◌≡◌}
use Rattle.std.proofs.lemmas.List.{length-take}
use Rattle.std.specs.Prelude.{Contains, IfErr, nat_le, nat_lt, replicate, ◌<◌, ◌↔◌, ◌≤◌, ◌⊎◌}
use Rattle.bit_fields.specs.Bits.{AreBytes}
use Rattle.commands.proofs.InputLemmas.{file_makes, file_proper, IsProperMaking}
use Rattle.commands.proofs.RefusingLemmas.{refusal_or-late, refusal_or-ok, then_late, then_ok}
use Rattle.commands.specs.{AfterCall.IsLateFault, Refusing.then_made}
use Rattle.commands.specs.SingleOutput.{IsMaking, IsProperTask, most_frames}
use Rattle.commands.specs.declared.fault.{EditFault.EditFault, Refusal.{Refusal, TheVariants.Range}}
use Rattle.cue_sheet.specs.declared.place.Place.{Place}
use Rattle.cut_edits.specs.Choices.{choosing_of, task_of_choice}
use Rattle.cut_edits.specs.Chosen.{all_choice, AreUsualChoices, Choosing, Chosen, chosen_file}
use Rattle.cut_edits.specs.Chosen.{chosen_needs, chosen_range, chosen_rows, chosen_stream}
use Rattle.cut_edits.specs.Chosen.{cut_choice, first_plan, first_planning, laid_stream_or_none}
use Rattle.cut_edits.specs.Chosen.{laying_making, laying_part, laying_stream, laying_task}
use Rattle.cut_edits.specs.Chosen.{own_slots_part, placed_part, planned_part, Planning}
use Rattle.cut_edits.specs.Chosen.{slot_choices, surveyed_laid_stream}
use Rattle.cut_edits.specs.declared.choice.FrameChoice.{FrameChoice}
use Rattle.frame_header.specs.{Fields.{ClassFields, HeaderFields, SlotFields}, Tables.window_of}
use Rattle.info_header.specs.Info.{field_offset, flags_in, info_in}
use Rattle.laying.proofs.{FitLemmas.{AreHeaders, asked-plans, parts-fitting}, LaidLemmas.laid-holds}
use Rattle.laying.proofs.NeedsFitLemmas.{AreKnown, part-known}
use Rattle.laying.proofs.{PartsLemmas.{one-part-fits, parts-plan}, PlacesLemmas.plan-length}
use Rattle.laying.proofs.{PlannedFrameLemmas.slot_among, SurveyFrameLemmas.survey-had}
use Rattle.laying.specs.{Fits.IsFittingPlan, Laid.{file_laid, LaidPart, stream_laid}}
use Rattle.laying.specs.Needs.{need_of, plan_input, PlanInput}
use Rattle.laying.specs.{NeedsFit.{IsFitPlanInput, IsPlacedSurvey}, Relaid.AreSlots}
use Rattle.laying.specs.{Surveys.CanBeRelaid, Written.head_info}
use Rattle.outside.specs.Files.{Files, Holds, IsFileThere}
use Rattle.slot_plan.{proofs.AreaLemmas.only_one, specs.Laws.PartsChooseInOrder}
use Rattle.slot_plan.specs.{Parts.{needs_in_parts, window_in}, Plans.IsPlan}
use Rattle.slot_plan.specs.declared.needs.{Need.Need, Placed.Placed}
use Rattle.sync_survey.specs.{Faults.{HoldsStream, SurveyFields}, Row.Row, Survey.survey_of}
use Rattle.sync_survey.specs.declared.{places.Head.Head, survey_fault.SurveyFault.SurveyFault}

-- ---- the choice

-- there is a chosen frame, all chosen frames are there, and the extension has 36 bytes
pub record IsRight (chosen : Chosen) (s : SurveyFields) : Type 0 where
  pub some : chosen.from < chosen.to
  pub within : chosen.to ≤ length s.frames
  pub extension : length chosen.extension ≡ 36

-- the usual choices are among the 28 slots
pub usual_slots : {choices : HeaderFields → List SlotFields} → AreUsualChoices choices
    → AreSlots choices
usual_slots (inl own) h slot is has = grind (arith, only_one)
usual_slots (inr any) h slot is has =
    slot_among (subst (λ (f : HeaderFields → List SlotFields). Contains (f h) slot) any has)

usual_order : {choices : HeaderFields → List SlotFields} → AreUsualChoices choices
    → {c : ClassFields}
    {asked : PlanInput} → IsFitPlanInput c asked
    → PartsChooseInOrder choices (needs_in_parts asked.needs asked.places)
usual_order h fit = grind arith

-- both policies are usual choices
pub by_usual : (least : Bool) → AreUsualChoices (slot_choices least)
by_usual least = grind arith

-- rows with headers of the standard have needs with headers of the standard
pub headers-known : (rows : List Row) → AreKnown rows → AreHeaders (map need_of rows)
headers-known [] known = tt
headers-known (r ∷ rows) known = (known.0, headers-known rows known.1)

-- frames that a command chooses from a survey
module _ (chosen : Chosen) (s : SurveyFields) (placed : IsPlacedSurvey s)
    (some : chosen.from < chosen.to)
    (within : chosen.to ≤ length s.frames) where
  abbrev part_rows : List Row
  part_rows = chosen_rows chosen s

  abbrev asked : PlanInput
  asked = plan_input (part_rows ∷ [])

  -- the chosen frames can be planned
  pub rows-fit : IsFitPlanInput s.class asked
  rows-fit = one-part-fits s placed some within

  module _ {choices : HeaderFields → List SlotFields} (usual : AreUsualChoices choices) where
    one_plan : (ps : List Placed)
        → IsPlan (window_of s.class.version) choices (map need_of part_rows ∷ []) ps
        ↔ (ps ≡ first_plan choices s.class (chosen_needs chosen s))
    one_plan ps = parts-plan (part_rows ∷ []) ps rows-fit
        (usual_order usual rows-fit)

    -- the plan is the first of all lists with a layout
    pub the-plan : IsPlan (window_of s.class.version) choices (map need_of part_rows ∷ [])
        (first_plan choices s.class (chosen_needs chosen s))
    the-plan = (one_plan (first_plan choices s.class (chosen_needs chosen s))).1 refl

    -- what the planner returns for these frames alone is their plan
    pub plan_is : {ps : List Placed}
        → IsPlan (window_in asked.needs) choices (needs_in_parts asked.needs asked.places) ps
        → ps ≡ first_plan choices s.class (chosen_needs chosen s)
    plan_is {ps} answer =
        (one_plan ps).0 (asked-plans s.class choices (part_rows ∷ []) ps rows-fit answer)

    -- the frames can be laid by the plan
    pub plan-fitting : IsFittingPlan (window_of s.class.version) (chosen_needs chosen s)
        (first_plan choices s.class (chosen_needs chosen s))
    plan-fitting =
        subst (λ (needs : List Need). IsFittingPlan (window_of s.class.version) needs
        (first_plan choices s.class (chosen_needs chosen s))) (append-nil (chosen_needs chosen s))
        (parts-fitting (window_of s.class.version) choices (usual_slots usual)
        (headers-known part_rows (part-known s chosen.from chosen.to placed), tt) the-plan)

    -- the plan has at most one lead-in
    pub plan-few : length (first_plan choices s.class (chosen_needs chosen s))
        ≤ length (chosen_needs chosen s) + 1
    plan-few = grind (arith, plan-length, chosen, length-append)

-- the file of chosen frames in their own slots
module _ (chosen : Chosen) {file : List ℕ} {s : SurveyFields} (is : CanBeRelaid file s)
    (some : chosen.from < chosen.to) (within : chosen.to ≤ length s.frames) where
  -- the file of the chosen frames holds their stream
  pub chosen-holds : length chosen.extension ≡ 36
      → HoldsStream (chosen_file chosen file s) (chosen_stream chosen file s)
  unfolding chosen_file chosen_stream
  chosen-holds extension = laid-holds (own_slots_part chosen s) is some within
      (plan-fitting chosen s is.placed some within (inl refl)) extension

-- ---- a command that lays chosen frames in the slots of a plan

-- a planner that refuses only after memory was taken, and whose plans allow the frames to be laid
pub record IsPlanning (plan : Planning) : Type 0 where
  pub late : (class : ClassFields) (needs : List Need) → IfErr (plan class needs) IsLateFault
  pub fitting : (chosen : Chosen) (s : SurveyFields) → IsPlacedSurvey s → chosen.from < chosen.to
      → chosen.to ≤ length s.frames → (placed : List Placed) → plan s.class (chosen_needs chosen s)
      ≡ Ok placed → IsFittingPlan (window_of s.class.version) (chosen_needs chosen s) placed

-- the first list of slots with a layout is such a planning
pub first_is_planning : {choices : HeaderFields → List SlotFields} → AreUsualChoices choices
    → IsPlanning (first_planning choices)
first_is_planning {choices} usual = record {
  late = λ class needs. tt;
  fitting = λ chosen s well some within placed planned.
      let same : first_plan choices s.class (chosen_needs chosen s) ≡ placed = cc in
      subst (IsFittingPlan (window_of s.class.version) (chosen_needs chosen s)) same
      (plan-fitting chosen s well some within usual);
}

-- the command refuses only after memory was taken, and what it chooses is right
pub record IsChoosing (choose : Choosing) : Type 0 where
  pub late : (file : List ℕ) (s : SurveyFields) → IfErr (choose file s) IsLateFault
  pub right : (file : List ℕ) (s : SurveyFields) (chosen : Chosen) → choose file s ≡ Ok chosen
      → IsRight chosen s

module _ (choose : Choosing) (plan : Planning) where
  -- what is made, given its steps
  pub record IsLaidBy (file : List ℕ) (s : SurveyFields) (made : List ℕ) : Type 0 where
    pub chosen : Chosen
    pub chose : choose file s ≡ Ok chosen
    pub placed : List Placed
    pub planned : plan s.class (chosen_needs chosen s) ≡ Ok placed
    pub laid : laying_part choose plan file s ≡ Ok (placed_part chosen placed)
    pub is : file_laid (placed_part chosen placed) file s ≡ made

  -- if a file was made, there are a choice, its plan, and the file made by that plan
  pub laid-parts : {file : List ℕ} {s : SurveyFields} {made : List ℕ}
      → laying_making choose plan file s ≡ Ok made → IsLaidBy file s made
  unfolding laying_part
  laid-parts {file} {s} {made} e =
      let whole =
      then_ok e in
      let chose = then_ok whole.1 in
      let planned = then_ok chose.2 in
      let same : placed_part chose.0 planned.0 ≡ whole.0 = cc in
      let bytes : file_laid whole.0 file s ≡ made = cc in
      record {
        chosen = chose.0;
        chose = chose.1;
        placed = planned.0;
        planned = planned.1;
        laid = whole.1 ∙ ap Ok (sym same);
        is = ap (λ (l : LaidPart). file_laid l file s) same ∙ bytes;
      }

  -- what is laid are the chosen frames in the slots of their plan
  laid-is : {file : List ℕ} {s : SurveyFields} {chosen : Chosen}
      {r : Result (List Placed) EditFault} → choose file s ≡ Ok chosen
      → plan s.class (chosen_needs chosen s) ≡ r
      → laying_part choose plan file s ≡ then_made r (λ placed. Ok (placed_part chosen placed))
  unfolding laying_part
  laid-is {chosen = chosen} chose planned = grind (arith, chose, chosen, planned)

  -- a choice and its plan make the file
  pub laying-is : {file : List ℕ} {s : SurveyFields} {chosen : Chosen}
      {r : Result (List Placed) EditFault} → choose file s ≡ Ok chosen
      → plan s.class (chosen_needs chosen s) ≡ r → laying_making choose plan file s ≡ then_made
      (then_made r (λ placed. Ok (placed_part chosen placed))) (λ laid. Ok (file_laid laid file s))
  laying-is {chosen = chosen} chose planned = grind (arith, laid-is, chosen, chose, planned)

  -- if nothing is made, nothing was chosen, or there is no plan
  pub laid-fault : {file : List ℕ} {s : SurveyFields} {fault : EditFault}
      → laying_making choose plan file s ≡ Err fault
      → (choose file s ≡ Err fault) ⊎ ((chosen : Chosen) × (choose file s ≡ Ok chosen)
      × (plan s.class (chosen_needs chosen s) ≡ Err fault))
  unfolding laying_part
  laid-fault {file} {s} {fault} e = at (choose file s) refl e
    where
      unplanned : (chosen : Chosen) (r : Result (List Placed) EditFault)
          → then_made (then_made r (λ placed. Ok (placed_part chosen placed)))
          (λ laid. Ok (file_laid laid file s)) ≡ Err fault → r ≡ Err fault
      unplanned chosen (Ok placed) e = absurd cc
      unplanned chosen (Err other) e = cc

      at : (r : Result Chosen EditFault) → choose file s ≡ r
          → then_made (then_made r (planned_part plan s)) (λ laid. Ok (file_laid laid file s))
          ≡ Err fault → (choose file s ≡ Err fault) ⊎ ((chosen : Chosen)
          × (choose file s ≡ Ok chosen) × (plan s.class (chosen_needs chosen s) ≡ Err fault))
      at r is e = grind arith

  -- a choice that is refused refuses the file
  pub refused-laid : {file : List ℕ} {s : SurveyFields} {fault : EditFault}
      → choose file s ≡ Err fault → laying_making choose plan file s ≡ Err fault
  unfolding laying_part
  refused-laid e = grind arith

  module _ (is_choosing : IsChoosing choose) (is_planning : IsPlanning plan) where
    laying_late : (file : List ℕ) (s : SurveyFields)
        → IfErr (laying_making choose plan file s) IsLateFault
    unfolding laying_part
    laying_late file s = grind (arith, then_late)

    made_stream : {file : List ℕ} {s : SurveyFields} {made : List ℕ}
        → survey_of file most_frames ≡ Ok s → IsLaidBy file s made
        → HoldsStream made (laid_stream_or_none file s (laying_part choose plan file s))
    made_stream {file} {s} {made} is by =
        let laid = placed_part by.chosen by.placed in
        let right = is_choosing.right file s by.chosen by.chose in
        let had = survey-had most_frames is in
        let fitting =
        is_planning.fitting by.chosen s had.placed right.some right.within by.placed by.planned in
        subst (λ (r : Result LaidPart EditFault). HoldsStream made (laid_stream_or_none file s r))
        (sym by.laid)
        (subst (λ (n : List ℕ). HoldsStream n (stream_laid laid file s))
        by.is (laid-holds laid had right.some right.within fitting right.extension))

    laying_proper : IsProperMaking (laying_making choose plan) (laying_stream choose plan)
    laying_proper = record {
      late = laying_late;
      streams = λ file s new all is made.
          subst (λ (r : Result SurveyFields SurveyFault). HoldsStream new
          (surveyed_laid_stream choose plan
          file r)) (sym is) (made_stream is (laid-parts made));
    }

    -- the command is proper
    pub task_proper : (refuses : Refusal → Bool) (input : List ℕ)
        → IsProperTask (laying_task choose plan refuses input)
    task_proper refuses input = search (arith, file_proper, laying_proper)

  -- what was laid of the input is what the command makes
  pub task_makes : (refuses : Refusal → Bool) {input : List ℕ} {s : SurveyFields} {chosen : Chosen}
      {laid : LaidPart} {files : Files} → IsFileThere files input
      → ((bytes : List ℕ) → Holds files input bytes → survey_of bytes most_frames ≡ Ok s)
      → ((bytes : List ℕ) → Holds files input bytes → AreBytes bytes)
      → ((bytes : List ℕ) → Holds files input bytes → choose bytes s ≡ Ok chosen)
      → planned_part plan s chosen ≡ Ok laid
      → IsMaking (laying_task choose plan refuses input) (λ file. file_laid laid file s) files
  unfolding laying_part
  task_makes refuses
      {input} {s} {laid = laid} {files = files} there surveyed octets chose planned =
      file_makes (laying_making choose plan)
      (laying_stream choose plan) refuses input there surveyed octets
      (λ bytes holds.
      ap (λ r. then_made (then_made r (planned_part plan s)) (λ laid. Ok (file_laid laid bytes s)))
      (chose bytes holds) ∙ ap (λ r. then_made r (λ laid. Ok (file_laid laid bytes s))) planned)

-- ---- cut and pack

abbrev no_fault : Option Refusal
no_fault = None

-- a range that isn't refused has frames, and is within the file
pub outside-none : {from to frames : ℕ} {b : Bool} → (nat_lt from to && nat_le to frames) ≡ b
    → cond b None (Some (Range from to frames)) ≡ no_fault → (from < to) × (to ≤ frames)
outside-none is e = grind arith

-- the chosen frames are there
pub chosen-within : (quality : Option ℕ) (extension : List ℕ) {from to : ℕ} {frames : ℕ}
    {chosen : Chosen} → chosen_range quality extension from to frames ≡ Ok chosen
    → (from < to) × (to ≤ frames)
chosen-within quality extension {chosen = chosen} e =
    grind (arith, outside-none, refusal_or-ok, chosen)

-- frames chosen by a range are frames of the survey, with an extension of 36 bytes
pub with_right : (quality : Option ℕ) (extension : List ℕ) (from to : ℕ) {s : SurveyFields}
    {chosen : Chosen} → length extension ≡ 36
    → chosen_range quality extension from to (length s.frames) ≡ Ok chosen → IsRight chosen s
with_right quality extension from to {s} {chosen} size e =
    let ok = refusal_or-ok e in
    let there = chosen-within quality extension e in
    subst (λ (c : Chosen). IsRight c s)
    ok.1 (record { some = there.0; within = there.1; extension = size })

-- what `cut` chooses is right
pub cut_choosing : (from to : Place) → IsChoosing (cut_choice from to)
unfolding cut_choice
cut_choosing from to = record {
  late = λ file s. refusal_or-late _ _;
  right = grind (arith, with_right);
}

info-extension : (bytes : List ℕ) → length (info_in bytes).extension ≡ 36
unfolding info_in
info-extension bytes =
    let rest = drop (field_offset (flags_in bytes) 4) bytes in
    omega (arith, length-take 36 (rest ++ replicate 36 0), length-append rest (replicate 36 0))

-- the extension of a head has 36 bytes
pub head-extension : (file : List ℕ) (head : Option Head)
    → length (head_info file head).extension ≡ 36
unfolding head_info
head-extension file head = search (rules, info-extension)

-- all frames are frames of the survey, with an extension of 36 bytes
pub all_right : (file : List ℕ) {s : SurveyFields} {chosen : Chosen} → all_choice file s ≡ Ok chosen
    → IsRight chosen s
unfolding all_choice
all_right file {chosen = chosen} e = grind (arith, with_right, chosen, head-extension)

-- all frames are chosen
pub all-whole : (file : List ℕ) (s : SurveyFields) {chosen : Chosen} → all_choice file s ≡ Ok chosen
    → (chosen.from ≡ 0) × (chosen.to ≡ length s.frames)
unfolding all_choice
all-whole file s {chosen} e = grind (arith, refusal_or-ok, chosen)

-- what `pack` chooses is right
pub all_choosing : IsChoosing all_choice
unfolding all_choice
all_choosing = record { late = λ file s. refusal_or-late _ _; right = all_right }

-- ---- the commands

choosing_is : (choice : FrameChoice) → IsChoosing (choosing_of choice)
choosing_is choice = search (rules, cut_choosing, all_choosing)

-- a command that lays chosen frames is proper
pub edit_proper : (choice : FrameChoice) (least : Bool) (input : List ℕ)
    → IsProperTask (task_of_choice choice least input)
edit_proper choice least input =
    search (arith, task_proper, choosing_is, first_is_planning, by_usual)
