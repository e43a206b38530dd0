-- What is left of a damaged file.
use Rattle.std.proofs.Common.{ap, arith, List, Ok, ℕ, [], ◌↔◌, ◌∙◌, ◌∷◌, ◌≡◌}
use Rattle.command_table.specs.Choices.{IsLegalSalvage}
use Rattle.commands.proofs.{MadeLemmas.{makes-parts, parts-make}, TellingLemmas.text-parts}
use Rattle.commands.specs.{SingleOutput.one_command, WithText.with_text}
use Rattle.job_words.specs.Request.{Salvage}
use Rattle.legality.{proofs.InputLemmas.{apart_no-clash, no-clash_apart}, specs.Laws.AcceptsFiles}
use Rattle.legality.specs.Legal.{IsLegalFor}
use Rattle.outside.specs.Files.{Contents}
use Rattle.salvage.proofs.LaidOutLemmas.{frames-read, read-frames}
use Rattle.salvage.specs.DamagedFiles.{damaged_from}
use Rattle.salvage_edits.proofs.CommandLemmas.{read-where}
use Rattle.salvage_edits.specs.Salvaged.{input_salvage_text, input_salvaged, salvage_command}
use Rattle.salvage_edits.specs.Salvaged.{salvage_task, salvaged_file, salvaged_or_fault}
use Rattle.sync_survey.specs.Start.{front_end_of}

left-where : {files : Contents} {input bytes : List ℕ} → input_salvaged (files input) ≡ Ok bytes
    → IsLegalSalvage input files
left-where e = grind (arith, read-where, read-frames)

read-legal : {files : Contents} {input : List ℕ} (is : IsLegalSalvage input files)
    → input_salvaged (files input)
    ≡ Ok (salvaged_file is.bytes (damaged_from is.bytes (front_end_of is.bytes) is.first))
read-legal is =
    ap input_salvaged is.there ∙ ap (salvaged_or_fault is.bytes) (frames-read
    (record { long = is.long; first = is.first; begins = is.begins; some = is.some; few = is.few }))

-- a salvage is legal exactly if it isn't refused
pub salvage-law : (files : Contents) (input output : List ℕ)
    → IsLegalFor (Salvage input output) files ↔ AcceptsFiles (salvage_command input output) files
salvage-law files input output = (
  (λ legal.
      let is = legal.choices in
      let one = parts-make (salvage_task input) output
      (apart_no-clash (output ∷ []) (input ∷ []) 0 legal.names) (read-legal is) in (
        record one.0 { text = input_salvage_text (files input) },
        ap (with_text (input_salvage_text (files input))) one.1,
      )),
  (λ made.
      let told = text-parts (input_salvage_text (files input))
      ((one_command (salvage_task input) output).makes files) made.1 in
      let one = makes-parts (salvage_task input) output told.1 in
      record {
        names = no-clash_apart (output ∷ []) (input ∷ []) 0 one.0;
        inputs = [];
        are = tt;
        few = omega arith;
        choices = left-where one.2;
      }),
)
