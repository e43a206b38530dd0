-- A stream made from a seed, packed: the packing isn't refused, the packed file holds the frames
-- that were drawn, and it needs no lead-in.
use Rattle.std.proofs.Common.{All, ap, arith, decimal, Err, false, inl, inr, length, List, map}
use Rattle.std.proofs.Common.{nat_le, nat_lt, None, Ok, Option, refl, Result, rules, slice_range}
use Rattle.std.proofs.Common.{Some, subst, suc, sym, true, ℕ, [], ◌&&◌, ◌++◌, ◌<◌, ◌∙◌, ◌∷◌, ◌≡◌}
use Rattle.std.proofs.{Common.{◌≢◌, ◌≤◌}, lemmas.List.length-map}
use Rattle.std.proofs.lemmas.{List.FromFn.length-map-range_with_len, Option.same_Some}
use Rattle.commands.proofs.{InputLemmas.made-survey, TellingLemmas.{says-all, says-prefix}}
use Rattle.commands.specs.Command.{Made, Output, written_files}
use Rattle.commands.specs.SentText.{IsCommandText, SaysAll, SaysPrefix}
use Rattle.commands.specs.SingleOutput.{clash_in, clash_or, command_result, input_result, Making}
use Rattle.commands.specs.SingleOutput.{most_frames, task_result}
use Rattle.commands.specs.declared.fault.EditFault.{EditFault}
use Rattle.cut_edits.proofs.ChosenLemmas.{all_right, IsRight, laying-is, plan-fitting, the-plan}
use Rattle.cut_edits.specs.Chosen.{all_choice, Chosen, chosen_file_part, chosen_needs, chosen_range}
use Rattle.cut_edits.specs.Chosen.{chosen_rows, first_plan, first_planning, laying_making}
use Rattle.cut_edits.specs.Chosen.{laying_task, pack_command, pack_refuses, placed_part}
use Rattle.drill.proofs.DrillLemmas.{streams-hold, streams-surveyed}
use Rattle.drill.proofs.NoLeadInLemmas.{streams-need_no_lead_in}
use Rattle.drill.specs.Drill.{drill_frame_at, drill_frames, drill_header, drill_stream}
use Rattle.drill.specs.Drilled.{drill_command, drill_summary, drill_text, file_in, lead_ins_in}
use Rattle.drill.specs.Drilled.{packed_file, packed_plan, packing_of}
use Rattle.drill.specs.Laws.{DrillsArePacked, DrillsHaveNoLeadIn, IsPacked}
use Rattle.drill.specs.{StreamLaws.{drill_fields, drill_needs}, Summary.summary_text}
use Rattle.drill.specs.declared.summary.Summary.{Summary}
use Rattle.frame_header.{proofs.SlotLemmas.Contains-all_slots, specs.Tables.window_of}
use Rattle.laying.proofs.{LaidFrameLemmas.rows-length, LaidLemmas.laid-holds}
use Rattle.laying.proofs.{PlacesLemmas.range-whole, SurveyFrameLemmas.survey-had}
use Rattle.laying.specs.Fits.{FitsFromReach, IsFittingPlan, reach_behind}
use Rattle.laying.specs.{Laid.{file_laid, LaidPart, stream_laid}, LaidFiles.stream_entry}
use Rattle.laying.specs.{Needs.need_of, NeedsFit.any_choice}
use Rattle.laying.specs.{Relaid.{part_stream, stream_with_lead_ins}, Written.head_info}
use Rattle.outside.{proofs.FilesLemmas.with_file_here, specs.{BufferOutput.SentPrefix, Counts.Rose}}
use Rattle.outside.specs.{Files.{Contents, Files, Holds, sent_and_more, Told}, Seen.Heard}
use Rattle.slot_plan.specs.{LeastPlan.least_plan, Plans.IsPlan, declared.needs.Need.Need}
use Rattle.slot_plan.specs.declared.needs.Placed.{Placed}
use Rattle.sync_survey.proofs.PlacedRowLemmas.{survey_fields-placed}
use Rattle.sync_survey.proofs.SurveyPartsLemmas.{stream-length, survey_fields-parts}
use Rattle.sync_survey.proofs.SurveyPartsLemmas.{survey_fields-stream}
use Rattle.sync_survey.proofs.SurveyedFileLemmas.{survey_of-parts}
use Rattle.sync_survey.specs.Faults.{HoldsStream, stream_of_survey, survey_fields, SurveyFields}
use Rattle.sync_survey.specs.{MainData.StreamFrame, Row.Row, Survey.{AreWellPlaced, survey_of}}

-- ---- plans without lead-ins

rest-none : {p : Placed} (placed : List Placed) → All (λ p. p.lead_in ≡ false) (p ∷ placed)
    → All (λ p. p.lead_in ≡ false) placed
rest-none placed none k d lt = none (suc k) d (omega (arith, lt))

none-counted : (placed : List Placed) → All (λ p. p.lead_in ≡ false) placed → lead_ins_in placed ≡ 0
none-counted [] none = refl
none-counted (p ∷ placed) none =
    let here : p.lead_in ≡ false = none 0 p (omega arith) in
    rw here (none-counted placed (rest-none placed none))

-- a plan without lead-ins leaves the stream as it is
same-stream : (window reach : ℕ) (needs : List Need) (placed : List Placed)
    (stream : List StreamFrame) → FitsFromReach window reach needs placed
    → All (λ p. p.lead_in ≡ false) placed → length needs ≡ length stream
    → stream_with_lead_ins placed stream ≡ stream
unfolding FitsFromReach stream_with_lead_ins
same-stream window reach [] [] [] fits none many = refl
same-stream window reach [] (p ∷ placed) stream fits none many = absurd fits
same-stream window reach (need ∷ needs) [] stream fits none many = absurd fits
same-stream window reach (need ∷ needs) (p ∷ placed) (f ∷ stream) fits none many =
    let here : p.lead_in ≡ false = none 0 p (omega arith) in
    let behind : FitsFromReach window (reach_behind window p need) needs placed =
    grind (arith, placed) in
    rw here (ap (λ l. f ∷ l) (same-stream window (reach_behind window p need) needs placed stream
    behind (rest-none placed none) (omega (arith, many))))
same-stream window reach _ _ _ fits none many = absurd (omega (arith, many))

-- ---- lists and surveys

survey-length : (file : List ℕ) (allowed : ℕ) {s : SurveyFields} → survey_fields file allowed ≡ Ok s
    → s.length ≡ length file
survey-length file allowed e = grind (arith, survey_fields-parts)

-- ---- what the packing chooses

inside : {n : ℕ} → 0 < n → (nat_lt 0 n && nat_le n n) ≡ true
inside some = search rules

all-chosen : (quality : Option ℕ) (extension : List ℕ) {n : ℕ} → 0 < n
    → chosen_range quality extension 0 n n
    ≡ Ok (record { from = 0; to = n; quality = quality; extension = extension })
all-chosen quality extension {n} some = rw (inside some) refl

abbrev outputs_in : Result Made EditFault → List Output
outputs_in (Ok made) = made.outputs
outputs_in (Err fault) = []

-- ---- the packed file

module _ (seed : ℕ) {count : ℕ} (some : 0 < count) (few : count ≤ 20000) where
  abbrev file : List ℕ
  file = drill_stream seed count

  abbrev told : SurveyFields
  told = drill_fields seed count

  abbrev drawn : List StreamFrame
  drawn = map stream_entry (drill_frames seed count)

  is-surveyed : survey_of file most_frames ≡ Ok told
  is-surveyed = streams-surveyed seed count most_frames some few (omega (arith, few))

  whole : survey_fields file most_frames ≡ Ok told
  whole = (survey_of-parts file most_frames is-surveyed).1

  frames-many : length (drill_frames seed count) ≡ count
  unfolding drill_frames
  frames-many = length-map-range_with_len (drill_frame_at seed) 0 count

  drawn-many : length drawn ≡ count
  drawn-many = length-map (drill_frames seed count) stream_entry ∙ frames-many

  rows-many : length told.frames ≡ count
  rows-many = rows-length 0 (drill_frames seed count) ∙ frames-many

  abbrev all : Chosen
  all = record {
    from = 0;
    to = length told.frames;
    quality = (head_info file told.head).quality;
    extension =
        (head_info file told.head).extension;
  }

  choice-is : all_choice file told ≡ Ok all
  unfolding all_choice
  choice-is = grind (arith, all-chosen, rows-many)

  right : IsRight all told
  right = all_right file choice-is

  -- the frames of the stream in the slots of their plan
  abbrev plan_all : List Placed
  plan_all = first_plan any_choice told.class (chosen_needs all told)

  abbrev laid : LaidPart
  laid = placed_part all plan_all

  abbrev make : Making
  make = laying_making all_choice (first_planning any_choice)

  made-is : packing_of seed count ≡ Ok (file_laid laid file told)
  made-is = made-survey make is-surveyed
      ∙ laying-is all_choice (first_planning any_choice) choice-is refl

  packed-is : packed_file seed count ≡ file_laid laid file told
  unfolding packed_file
  packed-is = ap file_in made-is

  placed : AreWellPlaced told.head told.class told.frames
  placed = survey_fields-placed file most_frames whole

  rows-whole : chosen_rows all told ≡ told.frames
  rows-whole = range-whole told.frames

  plan-same : plan_all ≡ packed_plan seed count
  plan-same = grind (arith, rows-whole)

  is-plan : IsPlan (window_of drill_header.version) any_choice (drill_needs seed count ∷ [])
      (packed_plan seed count)
  is-plan =
      subst (λ (rows : List Row). IsPlan (window_of drill_header.version) any_choice
      (map need_of rows ∷ [])
      (least_plan (window_of drill_header.version) any_choice (map need_of rows ∷ []))) rows-whole
      (the-plan all told placed right.some right.within (inr refl))

  -- no place of the plan is a lead-in
  pub none-led : All (λ p. p.lead_in ≡ false) (packed_plan seed count)
  none-led = streams-need_no_lead_in seed count any_choice (packed_plan seed count)
      (Contains-all_slots drill_header.slot (search rules)) is-plan

  -- the plan has no lead-ins
  pub no-lead_ins : lead_ins_in (packed_plan seed count) ≡ 0
  no-lead_ins = none-counted (packed_plan seed count) none-led

  stream-is : stream_of_survey file told ≡ drawn
  stream-is = sym (survey_fields-stream file most_frames told whole).stream_is
      ∙ (streams-hold seed count some).stream_is

  part-stream : part_stream (chosen_file_part all file told) ≡ drawn
  part-stream = grind (arith, rows-many, drawn-many, slice_range, stream-is, range-whole)

  fitting : IsFittingPlan (window_of told.class.version) (chosen_needs all told) plan_all
  fitting = plan-fitting all told placed right.some right.within (inr refl)

  packed-stream : stream_laid laid file told ≡ drawn
  packed-stream =
      same-stream (window_of told.class.version) 0 (chosen_needs all told) plan_all
      (part_stream (chosen_file_part all file told)) fitting.fits
      (subst (λ (l : List Placed). All (λ p. p.lead_in ≡ false) l) (sym plan-same) none-led)
      (length-map (chosen_rows all told) need_of ∙ ap length rows-whole ∙ rows-many
      ∙ sym (ap length part-stream ∙ drawn-many))
      ∙ part-stream

  -- the packing makes the packed file
  pub is-packed : IsPacked seed count
  is-packed = record {
    made = made-is ∙ ap Ok (sym packed-is);
    holds = subst (λ (l : List ℕ). HoldsStream l drawn) (sym packed-is)
        (subst (HoldsStream (file_laid laid file told)) packed-stream
        (laid-holds laid (survey-had most_frames is-surveyed)
        right.some right.within fitting right.extension));
  }

  -- how many frames a survey finds in the packed file
  pub packed-frames : {t : SurveyFields} → survey_of (packed_file seed count) most_frames ≡ Ok t
      → length t.frames ≡ count
  packed-frames {t} e =
      let packed = packed_file seed count in
      let found =
      survey_fields-stream packed most_frames t (survey_of-parts packed most_frames e).1 in
      sym (stream-length packed t) ∙ ap length (sym found.stream_is ∙ is-packed.holds.stream_is)
      ∙ drawn-many

  -- once the file of a folder was packed, the folder holds the packed file
  pub packed-there : (stream packed : List ℕ) {f : Contents} {new : Files} → f stream ≡ Some file
      → ((made : Made) × ((pack_command stream packed).makes f ≡ Ok made)
      × (new ≡ Told (written_files made.outputs f))) → Holds new packed (packed_file seed count)
  unfolding task_result
  packed-there stream packed {f} there done =
      let bytes = packed_file seed count in
      subst (λ (files : Files). Holds files packed bytes) (sym (done.2
      ∙ ap (λ (outputs : List Output). Told (written_files outputs f))
      (outputs (clash_in (laying_task
      all_choice (first_planning any_choice) pack_refuses stream) packed) done.0 done.1)))
      (with_file_here f packed bytes)
    where
      outputs : (clash : Option ℕ) (made : Made)
          → command_result packed (clash_or clash (input_result make (f stream))) ≡ Ok made
          → made.outputs ≡ record { name = packed; bytes = packed_file seed count } ∷ []
      outputs (Some place) made e = absurd cc
      outputs None made e = sym (ap outputs_in
          (sym (ap (command_result packed) (ap (input_result make) there ∙ is-packed.made)) ∙ e))

-- a survey says how long the file is
pub packed-length : (file : List ℕ) {t : SurveyFields} → survey_of file most_frames ≡ Ok t
    → t.length ≡ length file
packed-length file {t} e = survey-length file most_frames (survey_of-parts file most_frames e).1

-- the packed file holds the frames that were drawn
pub drills-packed : DrillsArePacked
drills-packed = is-packed

-- the packed file has no lead-in
pub drills-no_lead_in : DrillsHaveNoLeadIn
drills-no_lead_in = no-lead_ins

-- ---- the line

-- the line of the summary is the line of the stream
pub text-of : (seed : ℕ) {count : ℕ} {s : Summary} → s ≡ drill_summary seed count
    → summary_text s ≡ drill_text seed count
unfolding drill_text
text-of seed is = ap summary_text is

abbrev text_in : Result Made EditFault → List ℕ
text_in (Ok made) = made.text
text_in (Err fault) = []

module _ (seed count : ℕ) (files : Files) (old new : Heard) where
  text-is : {text : List ℕ} → IsCommandText (drill_command seed count) files text
      → drill_text seed count ≡ text
  text-is {text} (inl always) = same_Some (drill_text seed count) text always
  text-is (inr told) = ap text_in told.3 ∙ told.4

  -- if all of the line was sent, the command sent its text
  pub told-all : new.sent ≡ sent_and_more old.sent (drill_text seed count) → new.faults ≡ old.faults
      → SaysAll (drill_command seed count) files old new
  told-all = says-all old new
      (λ text. text-is {text = text})

  -- if a prefix of the line was sent, the command sent a prefix of its text
  pub told-part : SentPrefix (drill_text seed count) old.sent new.sent → Rose old.faults new.faults
      → SaysPrefix (drill_command seed count) files old new
  told-part = says-prefix old new
      (λ text. text-is {text = text})

behind-some : (front rest : List ℕ) (x : ℕ) → Some (front ++ x ∷ rest) ≢ Some []
behind-some [] rest x e = absurd cc
behind-some (y ∷ front) rest x e = absurd cc

-- the text isn't empty
pub drill_text-some : (seed count : ℕ) → Some (drill_text seed count) ≢ Some []
unfolding drill_text summary_text
drill_text-some seed count = behind-some (decimal count) _ _
