-- All frames of several files, in one file.
use Rattle.std.proofs.Common.{All, ap, arith, false, length, List, map, None, Ok, Option, refl}
use Rattle.std.proofs.Common.{Some, subst, sym, ℕ, [], ◌+◌, ◌-◌, ◌∙◌, ◌∷◌, ◌≡◌}
use Rattle.std.{proofs.lemmas.List.{length-map, Elements.All-cons}, specs.Prelude.Result}
use Rattle.chosen_streams.proofs.{CaseLemmas.stream-is, ExactLemmas.planned-exact}
use Rattle.chosen_streams.specs.Exact.{IsExactly}
use Rattle.chosen_streams.specs.Laws.{HoldsChosen, JoinedPlansAreFirst, JoinedStreamsAreExact}
use Rattle.command_table.specs.Chosen.{named_frames}
use Rattle.commands.proofs.{MadeLemmas.{makes-parts, some-frames}, RefusingLemmas.then_ok}
use Rattle.commands.specs.{Refusing.then_made, SingleOutput.most_frames}
use Rattle.commands.specs.declared.fault.EditFault.{EditFault}
use Rattle.frame_header.specs.{Fields.ClassFields, Tables.window_of}
use Rattle.job_words.specs.Request.{Join}
use Rattle.join_edits.specs.Join.{joined_plan, joined_stream}
use Rattle.joined_inputs.proofs.PartLemmas.{part-is}
use Rattle.joined_inputs.specs.Parts.{join_part, join_parts, join_parts_from, whole_part}
use Rattle.laying.proofs.{PartsLemmas.{parts-fit, parts-plan}, SurveyFrameLemmas.survey-had}
use Rattle.laying.specs.Needs.{need_of, plan_input}
use Rattle.laying.specs.NeedsFit.{IsFitPlanInput, IsPartOf, own_choice}
use Rattle.laying.specs.Relaid.{AreParts, FilePart, IsPart, part_needs, part_rows, part_stream}
use Rattle.outside.specs.Files.{Contents}
use Rattle.salvage_edits.proofs.StreamLemmas.{whole-stream}
use Rattle.slot_plan.specs.{LeastPlan.least_plan, Plans.IsPlan, declared.needs.Need.Need}
use Rattle.sync_survey.specs.{Faults.SurveyFields, Survey.survey_of}

rows-each : {class : ClassFields} (parts : List FilePart) → AreParts class parts
    → All (IsPartOf class) (map part_rows parts)
rows-each [] are = λ k d lt. absurd (omega (arith, lt))
rows-each {class} (p ∷ parts) are = grind (arith, All-cons, are, rows-each parts are.1)

needs-each : (parts : List FilePart)
    → map (map need_of) (map part_rows parts) ≡ map part_needs parts
needs-each [] = refl
needs-each (p ∷ parts) = ap (λ (l : List (List Need)). part_needs p ∷ l) (needs-each parts)

module _ {first : FilePart} (parts : List FilePart)
    (are : AreParts first.survey.class (first ∷ parts)) where
  abbrev all : List FilePart
  all = first ∷ parts

  abbrev class : ClassFields
  class = first.survey.class

  all_fit : IsFitPlanInput class (plan_input (map part_rows all))
  all_fit = parts-fit class (map part_rows all) (omega (arith, length-map all part_rows))
      (rows-each all are)

  one_plan : IsPlan (window_of class.version) own_choice (map (map need_of) (map part_rows all))
      (least_plan (window_of class.version) own_choice (map (map need_of) (map part_rows all)))
  one_plan = (parts-plan (map part_rows all) _ all_fit all_fit.kept).1 refl

  -- the plan is the plan of all parts
  pub join-plan : IsPlan (window_of class.version) own_choice (map part_needs all)
      (joined_plan class all)
  join-plan = grind (arith, needs-each, one_plan)

  -- the stream is exactly the frames of the parts
  pub join-exact : IsExactly (map part_stream all) (joined_stream all)
  unfolding joined_stream
  join-exact = planned-exact class own_choice all (joined_plan class all) are join-plan

-- the stream of a join is exactly the frames of its inputs, each input after at most one lead-in
pub joined-exact : JoinedStreamsAreExact
joined-exact = (λ first parts are. join-exact parts are)

-- its plan is the first of all lists with a layout
pub joined-first : JoinedPlansAreFirst
joined-first = (λ first parts are. join-plan parts are)

-- ---- the command

-- a list made with this part first is this part and the parts after it
pub more-inputs : {part : FilePart} {r : Result (List FilePart) EditFault} {parts : List FilePart}
    → then_made r (λ later. Ok (part ∷ later)) ≡ Ok parts
    → (later : List FilePart) × (r ≡ Ok later) × (part ∷ later ≡ parts)
more-inputs e = grind arith

-- a part of all frames of an input
part-of : {c : ClassFields} {file : List ℕ} (allowed : ℕ) {s : SurveyFields}
    → survey_of file allowed ≡ Ok s → s.class ≡ c → IsPart c (whole_part file s)
part-of allowed is same = search (arith, survey-had, is, some-frames)

part-stream : (files : Contents) {name file : List ℕ} (allowed : ℕ) {s : SurveyFields}
    → files name ≡ Some file → survey_of file allowed ≡ Ok s
    → part_stream (whole_part file s) ≡ named_frames files name
part-stream files allowed there is = grind (arith, whole-stream, stream-is, is)

-- each part is the frames of the input at its place
pub record AreFramesOf (files : Contents) (c : ClassFields) (names : List (List ℕ))
    (parts : List FilePart) : Type 0 where
  pub are : AreParts c parts
  pub frames : map part_stream parts ≡ map (named_frames files) names

frames-more : {files : Contents} {c : ClassFields} (place : ℕ) (first : Option ClassFields)
    (allowed : ℕ) {name : List ℕ} {names : List (List ℕ)} {part : FilePart} {parts : List FilePart}
    → join_part place first allowed (files name) ≡ Ok part → part.survey.class ≡ c
    → AreFramesOf files c names parts → AreFramesOf files c (name ∷ names) (part ∷ parts)
frames-more {files} {c} place first allowed {name} {part = part} e same more =
    let is = part-is place (files name) e in
    record {
      are = (
        subst (IsPart c) is.whole
            (part-of allowed is.surveyed (ap (λ (p : FilePart). p.survey.class) is.whole ∙ same)),
        more.are,
      );
      frames = grind (arith, part-stream);
    }

-- the inputs after the first, which are of its class
parts-behind : {files : Contents} {c : ClassFields} (place allowed : ℕ) (names : List (List ℕ))
    {parts : List FilePart} → join_parts_from place (Some c) allowed files names ≡ Ok parts
    → AreFramesOf files c names parts
unfolding join_parts_from
parts-behind {files} {c} place allowed [] {parts} e =
    let none : [] ≡ parts = cc in
    subst (AreFramesOf files c []) none (record { are = tt; frames = refl })
parts-behind {files} {c} place allowed (name ∷ names) {parts} e =
    let one =
    then_ok {r = join_part place (Some c) allowed (files name)} {make = _} {b = parts} e in
    let part : FilePart = one.0 in
    let more = more-inputs {part = part} {r = join_parts_from (place + 1) (Some c)
    (allowed - length part.survey.frames) files names} {parts = parts} one.2 in
    let is = part-is place {first = Some c} {allowed = allowed} (files name) {part = part} one.1 in
    subst (AreFramesOf files c (name ∷ names)) more.2
    (frames-more {files = files} {c = c} place (Some c) allowed
    {name = name} {names = names} {part = part}
    {parts = more.0} one.1 (ap (λ (p : FilePart). p.survey.class) (sym is.whole) ∙ is.follows)
    (parts-behind {files = files} {c = c} (place + 1) (allowed - length part.survey.frames) names
    {parts = more.0} more.1))

-- the parts are a first and more, of all inputs, with the class of the first
pub record IsJoinOf (files : Contents) (names : List (List ℕ))
    (parts : List FilePart) : Type 0 where
  pub first : FilePart
  pub more : List FilePart
  pub is : first ∷ more ≡ parts
  pub all : AreFramesOf files first.survey.class names (first ∷ more)

-- the parts of a join are its inputs, of one class
pub parts-join : {files : Contents} {name : List ℕ} {names : List (List ℕ)} {parts : List FilePart}
    → join_parts files (name ∷ names) ≡ Ok parts → IsJoinOf files (name ∷ names) parts
unfolding join_parts_from
parts-join {files} {name} {names} {parts} e =
    let one = then_ok e in
    let part : FilePart = one.0 in
    let more = more-inputs one.2 in
    record {
      first = part;
      more = more.0;
      is = more.2;
      all = frames-more 0 None most_frames one.1 refl
          (parts-behind (0 + 1)
          (most_frames - length part.survey.frames) names more.1);
    }

parts-exact : (files : Contents) (names : List (List ℕ)) {parts : List FilePart}
    → join_parts files names
    ≡ Ok parts → IsExactly (map (named_frames files) names) (joined_stream parts)
unfolding join_parts_from joined_stream IsExactly
parts-exact files [] e = grind arith
parts-exact files (name ∷ names) {parts} e =
    grind
    (arith, parts-join {files = files} {name = name} {names = names} {parts = parts} e, join-exact)

-- a join holds the frames that its job chooses
pub join-holds : (output : List ℕ) (inputs : List (List ℕ))
    → HoldsChosen (Join false output inputs)
join-holds output inputs files made e = grind (arith, makes-parts, then_ok, parts-exact)
