-- The inputs as sources of frames, and what a task makes of them.
use Rattle.std.proofs.Common.{ap, arith, is_some, length, List, None, Ok, Option, refl, Result}
use Rattle.std.proofs.Common.{Some, sym, ℕ, [], ◌+◌, ◌-◌, ◌∙◌, ◌∷◌, ◌≡◌, ◌≢◌, ◌≤◌}
use Rattle.std.{proofs.lemmas.List.Elements.{All-cons, All-nil}, specs.Prelude.unwrap_or}
use Rattle.commands.{proofs.MakeLemmas.{no_clash, other_name}, specs.AfterCall.HasNumbers}
use Rattle.commands.specs.{Command.{AreSoundFiles, clash_from}, Refusing.then_made}
use Rattle.commands.specs.SingleOutput.{first_input, IsMaking, most_frames, one_command}
use Rattle.commands.specs.declared.fault.EditFault.{EditFault}
use Rattle.frame_header.specs.Fields.{ClassFields}
use Rattle.joined_inputs.proofs.InputLemmas.{parts-all}
use Rattle.joined_inputs.specs.Inputs.{AreInputsOfClass, AreJoinInputs, class_of_first}
use Rattle.joined_inputs.specs.Inputs.{HasJoinNumbers, input_names, InputFields, parts_of}
use Rattle.joined_inputs.specs.{Inputs.told_contents, Laying.AreSources, Parts.parts_task}
use Rattle.joined_inputs.specs.Ranges.{AreRangeSources, IsSource, RangeFields, ranges_in}
use Rattle.laying.{proofs.SurveyFrameLemmas.survey-had, specs.Relaid.FilePart}
use Rattle.outside.proofs.FilesLemmas.{there_holds}
use Rattle.outside.specs.Files.{Contents, Files, Holds, IfTold, LeavesAllBut, Told, Untold}
use Rattle.sync_survey.proofs.SurveyedFileLemmas.{survey_of-sound}
use Rattle.sync_survey.specs.{Faults.{HoldsStream, SurveyFields}, MainData.StreamFrame}

-- ---- the inputs as sources

-- no input has the output's name
pub sources-inputs : (class : ClassFields) (output : List ℕ) (number : ℕ)
    (first : Option ClassFields) (allowed : ℕ) (files : Files) (inputs : List InputFields)
    → clash_from (output ∷ []) number (input_names inputs) ≡ None
    → AreInputsOfClass class inputs → AreJoinInputs first allowed files inputs
    → AreSources class output files inputs
sources-inputs class output number first allowed files [] none alike are = tt
sources-inputs class output number first allowed files (i ∷ inputs) none alike are =
    let later = clash_from (output ∷ []) (number + 1) (input_names inputs) in
    let other = no_clash number none in (
      (
        record {
          apart = other_name [] other.0;
          there = are.0.there;
          exact = λ file holds. survey-had allowed (are.0.exact file holds);
          laid = are.0.laid;
        },
        alike.2,
      ),
      sources-inputs class output (number + 1) _
          (allowed - length i.survey.frames) files inputs other.1 alike.3 are.3,
    )

-- the first of several sources is a source
pub first-source : (class : ClassFields) {output : List ℕ} {files : Files}
    {inputs later : List InputFields} {i : InputFields} → inputs ≡ i ∷ later
    → AreSources class output files inputs → IsSource output files i.name i.survey
first-source class is are = (rw is at are).0.0

-- the first of several inputs has the class of all
pub first-class : {inputs later : List InputFields} {i : InputFields} {class : ClassFields}
    → inputs ≡ i ∷ later → class_of_first inputs ≡ Some class → class ≡ i.survey.class
first-class is first = let first = rw is at first in cc

-- a source stays a source if only the output changes
source-beside : {output : List ℕ} (old new : Files) {name : List ℕ} {s : SurveyFields}
    → LeavesAllBut (output ∷ []) old new → IsSource output old name s
    → IsSource output new name s × (told_contents new name ≡ told_contents old name)
source-beside {output} (Told f) (Told g) {name} only source =
    let same =
    only name (All-cons (λ n. name ≢ n) output [] source.apart (All-nil (λ n. name ≢ n))) in (
      record {
        apart = source.apart;
        there = ap is_some same ∙ source.there;
        exact = λ file holds. source.exact file (sym same ∙ holds);
        laid = source.laid;
      },
      same,
    )
source-beside (Untold before) (Untold after) only source = grind arith
source-beside _ _ only source = absurd only

module _ (class : ClassFields) (output : List ℕ) (old new : Files) where
  -- all sources stay sources if only the output changes
  pub ranges-beside : (ranges : List RangeFields) → LeavesAllBut (output ∷ []) old new
      → AreRangeSources class output old ranges → AreRangeSources class output new ranges
  ranges-beside [] only are = tt
  ranges-beside (r ∷ ranges) only are = (
    ((source-beside old new only are.0.0).0, are.0.1),
    ranges-beside ranges only are.1,
  )

  -- their frames stay the same if only the output changes
  pub told-beside : (ranges : List RangeFields) → LeavesAllBut (output ∷ []) old new
      → AreRangeSources class output old ranges → ranges_in new ranges ≡ ranges_in old ranges
  told-beside [] only are = refl
  told-beside (r ∷ ranges) only are = grind (arith, source-beside, told-beside ranges only are.1)

-- where the contents of the files are known, a source holds its bytes
pub source-holds : {output : List ℕ} {files : Files} (key told : List ℕ) {name : List ℕ}
    {s : SurveyFields} → Holds files key told → IsSource output files name s
    → Holds files name (unwrap_or (told_contents files name) [])
source-holds key told holds source = grind arith

-- ---- what is made of the inputs, once all have their surveys

-- what a task makes of the inputs, if these bytes are written where the first input's content is
-- known
pub inputs-making : (file : List FilePart → List ℕ) (stream : List FilePart → List StreamFrame)
    {made : List ℕ → List ℕ} (files : Files) (inputs : List InputFields) → 1 ≤ length inputs
    → AreJoinInputs None most_frames files inputs
    → ((bytes : List ℕ) → Holds files (first_input (input_names inputs)) bytes
    → made bytes ≡ file (parts_of files inputs))
    → IsMaking (parts_task file stream (input_names inputs)) made files
inputs-making file stream files [] some are is = absurd (omega (arith, some))
inputs-making file stream (Untold touched) (i ∷ inputs) some are is =
    record { there = are.0.there; makes = tt }
inputs-making file stream (Told f) (i ∷ inputs) some are is = record {
  there = are.0.there;
  makes = λ bytes held. (
    are.0.octets bytes held,
    ap (λ (r : Result (List FilePart) EditFault). then_made r (λ parts. Ok (file parts)))
        (parts-all 0 None most_frames f (i ∷ inputs) are) ∙ ap Ok (sym (is bytes held)),
  );
}

-- the files of inputs that were read are there and well-formed
pub sound : (first : Option ClassFields) (allowed : ℕ) (f : Contents) (inputs : List InputFields)
    → AreJoinInputs first allowed (Told f) inputs → AreSoundFiles f (input_names inputs)
sound first allowed f [] are = tt
sound first allowed f (i ∷ inputs) are =
    let held = there_holds f are.0.there in (
      (held.0, held.1, survey_of-sound held.0 allowed (are.0.exact held.0 held.1)),
      sound (Some (unwrap_or first i.survey.class))
          (allowed - length i.survey.frames) f inputs are.3,
    )

-- the files of inputs that were read are well-formed, and if what is made of them holds its stream,
-- it holds the stream that the task has to hold
pub inputs-hold : (file : List FilePart → List ℕ) (stream : List FilePart → List StreamFrame)
    (files : Files) (inputs : List InputFields) → AreJoinInputs None most_frames files inputs →
    IfTold files (λ f. HoldsStream (file (parts_of files inputs)) (stream (parts_of files inputs)))
    → IfTold files (λ f. (bytes : List ℕ) → f (first_input (input_names inputs)) ≡ Some bytes
    → AreSoundFiles f (input_names inputs) × HoldsStream (file (parts_of files inputs))
    ((parts_task file stream (input_names inputs)).stream f))
inputs-hold file stream (Untold touched) inputs are holds = tt
inputs-hold file stream (Told f) inputs are holds = λ bytes held. (
  sound None most_frames f inputs are,
  rw (parts-all 0 None most_frames f inputs are) holds,
)

-- the numbers of a fault are numbers that the command may return
pub join-numbers : (file : List FilePart → List ℕ) (stream : List FilePart → List StreamFrame)
    (output : List ℕ) (names : List (List ℕ)) {count : ℕ} (fault : EditFault) → count ≡ length names
    → HasJoinNumbers count fault
    → HasNumbers (one_command (parts_task file stream names) output) fault
join-numbers file stream output names fault all is = grind arith
