-- The inputs of a join, in order.
use Rattle.std.proofs.Common.{ap, arith, length, List, None, Ok, Option, refl, Result, Some, suc}
use Rattle.std.proofs.Common.{sym, zero, ℕ, [], ◌+◌, ◌-◌, ◌∙◌, ◌∷◌, ◌≡◌, ◌≤◌}
use Rattle.std.specs.Prelude.{slice_get, unwrap_or}
use Rattle.command_table.specs.Choices.{AreInputsOfOneClass}
use Rattle.command_table.specs.Inputs.{AreInputs, FileInput, input_frames}
use Rattle.commands.{proofs.RefusingLemmas.then_ok, specs.Refusing.then_made}
use Rattle.commands.specs.{SingleOutput.most_frames, declared.fault.EditFault.EditFault}
use Rattle.frame_header.specs.Fields.{ClassFields}
use Rattle.joined_inputs.proofs.{InputLemmas.follows-may, PartLemmas.part-is}
use Rattle.joined_inputs.specs.Inputs.{HasClassOfFirst}
use Rattle.joined_inputs.specs.Parts.{join_part, join_parts, join_parts_from, whole_part}
use Rattle.laying.specs.Relaid.{FilePart}
use Rattle.legality.proofs.InputLemmas.{survey-input, survey-whole, whole-survey}
use Rattle.outside.specs.Files.{Contents}
use Rattle.sync_survey.specs.{Faults.SurveyFields, Survey.survey_of}

-- ---- classes

-- each input is of the class of the first
abbrev Follow : Option ClassFields → List FileInput → Type 0
Follow first [] = Unit {0}
Follow first (input ∷ inputs) =
    HasClassOfFirst first input.survey.class
    × Follow (Some (unwrap_or first input.survey.class)) inputs

follow-class : {class : ClassFields} (inputs : List FileInput) → Follow (Some class) inputs
    → (i : ℕ) {p : FileInput} → slice_get inputs i ≡ Some p → p.survey.class ≡ class
follow-class [] follow i is = absurd cc
follow-class (input ∷ inputs) follow zero is = grind arith
follow-class {class} (input ∷ inputs) follow (suc i) {p} is = follow-class inputs follow.1 i is

class-follow : {class : ClassFields} (inputs : List FileInput)
    → ((i : ℕ) (p : FileInput) → slice_get inputs i ≡ Some p → p.survey.class ≡ class)
    → Follow (Some class) inputs
class-follow [] each = tt
class-follow {class} (input ∷ inputs) each =
    (each 0 input refl, class-follow inputs (λ i p is. each (suc i) p is))

each-first : (inputs : List FileInput) → Follow None inputs → {first : FileInput}
    → slice_get inputs 0 ≡ Some first → (i : ℕ) {p : FileInput} → slice_get inputs i ≡ Some p
    → p.survey.class ≡ first.survey.class
each-first [] follow is i here = absurd cc
each-first (input ∷ inputs) follow is zero here = grind arith
each-first (input ∷ inputs) follow is (suc i) here = grind (arith, follow-class)

one-class : (inputs : List FileInput) → Follow None inputs → AreInputsOfOneClass inputs
one-class [] follow i j p q is here = absurd cc
one-class (input ∷ inputs) follow i j p q is here =
    each-first (input ∷ inputs) follow refl i is
    ∙ sym (each-first (input ∷ inputs) follow refl j here)

class-one : (inputs : List FileInput) → AreInputsOfOneClass inputs → Follow None inputs
class-one [] one = tt
class-one (input ∷ inputs) one = (tt, class-follow inputs (λ i p is. one (suc i) 0 p input is refl))

-- ---- one input

is-part : (place : ℕ) (first : Option ClassFields) (allowed : ℕ) {o : Option (List ℕ)}
    {file : List ℕ} {s : SurveyFields} → o ≡ Some file → survey_of file allowed ≡ Ok s
    → HasClassOfFirst first s.class → join_part place first allowed o ≡ Ok (whole_part file s)
is-part place first allowed there surveyed follows = grind (arith, follows-may)

-- ---- all inputs

-- the inputs, of the class of those before them, with no more frames than are still allowed
pub record IsJoin (files : Contents) (first : Option ClassFields) (allowed : ℕ)
    (names : List (List ℕ)) : Type 0 where
  pub inputs : List FileInput
  pub are : AreInputs files names inputs
  pub few : input_frames inputs ≤ allowed
  pub follow : Follow first inputs

parts-join : {files : Contents} (place : ℕ) {first : Option ClassFields} {allowed : ℕ}
    (names : List (List ℕ)) {parts : List FilePart}
    → join_parts_from place first allowed files names ≡ Ok parts → IsJoin files first allowed names
unfolding join_parts_from
parts-join place [] e = record { inputs = []; are = tt; few = omega arith; follow = tt }
parts-join {files} place {first} {allowed} (name ∷ names)
    {parts} e =
    let one = then_ok e in
    let part : FilePart = one.0 in
    let rest = then_ok one.2 in
    let is = part-is place (files name) one.1 in
    let input : FileInput = record { bytes = is.file; survey = is.survey } in
    let same : ◌≡◌ {A = SurveyFields} part.survey is.survey = grind arith in
    let more = parts-join (place + 1) names rest.1 in
    let few = (survey-whole is.surveyed).few in
    record {
      inputs = input ∷ more.inputs;
      are = (survey-input allowed is.there is.surveyed, more.are);
      few = omega (arith, more.few, few, ap (λ (s : SurveyFields). length s.frames) same);
      follow = grind arith;
    }

join-parts : (files : Contents) (place : ℕ) (first : Option ClassFields) {allowed : ℕ}
    (names : List (List ℕ)) (inputs : List FileInput) → AreInputs files names inputs
    → input_frames inputs ≤ allowed → Follow first inputs
    → (parts : List FilePart) × (join_parts_from place first allowed files names ≡ Ok parts)
unfolding join_parts_from
join-parts files place first [] [] are few follow = ([], refl)
join-parts files place first [] (input ∷ inputs) are few follow = absurd are
join-parts files place first (name ∷ names) [] are few follow = absurd are
join-parts files place first {allowed} (name ∷ names) (input ∷ inputs) are few follow =
    let s = input.survey in
    let surveyed = whole-survey
    (record { long = are.0.long; well_formed = are.0.well_formed; few = omega (arith, few) }) in
    let part : FilePart = whole_part input.bytes s in
    let rest = join-parts files (place + 1)
    (Some (unwrap_or first s.class)) names inputs are.1 (omega (arith, few)) follow.1 in (
      part ∷ rest.0,
      ap
          (λ (r : Result FilePart EditFault). then_made r
          (λ p. then_made (join_parts_from (place + 1) (Some (unwrap_or first p.survey.class))
          (allowed - length p.survey.frames) files names) (λ parts. Ok (p ∷ parts))))
          (is-part place first allowed are.0.there surveyed follow.0)
          ∙ ap (λ (r : Result (List FilePart) EditFault). then_made r (λ parts. Ok (part ∷ parts)))
          rest.1,
    )

-- the inputs, of one class, with no more frames than are allowed
pub record AreJoined (files : Contents) (names : List (List ℕ)) : Type 0 where
  pub inputs : List FileInput
  pub are : AreInputs files names inputs
  pub few : input_frames inputs ≤ most_frames
  pub one : AreInputsOfOneClass inputs

-- parts that aren't refused are joined inputs
pub parts-joined : {files : Contents} {names : List (List ℕ)} {parts : List FilePart}
    → join_parts files names ≡ Ok parts → AreJoined files names
parts-joined {files} {names} {parts} e =
    let is = parts-join 0 names e in
    record { inputs = is.inputs; are = is.are; few = is.few; one = one-class is.inputs is.follow }

-- the parts of such inputs aren't refused
pub joined-parts : (files : Contents) (names : List (List ℕ)) (inputs : List FileInput)
    → AreInputs files names inputs → input_frames inputs ≤ most_frames → AreInputsOfOneClass inputs
    → (parts : List FilePart) × (join_parts files names ≡ Ok parts)
joined-parts files names inputs are few one =
    join-parts files 0 None names inputs are few (class-one inputs one)
