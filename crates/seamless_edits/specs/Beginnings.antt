-- How inputs begin.
use Rattle.std.specs.{List.AllZip, Prelude.{List, ℕ, ◌≡◌}}
use Rattle.cut_edits.specs.Exact.{survey_without_head}
use Rattle.joined_inputs.specs.Inputs.{InputFields}
use Rattle.laying.specs.KeptFields.{fields_of_head}
use Rattle.outside.specs.Files.{Files, Holds}
use Rattle.seamless_edits.specs.{Seamless.begins_blank, declared.beginnings.Beginning.Beginning}

-- how this input begins, with the survey from before its head is set apart
pub record IsBeginning (files : Files) (i : InputFields) (b : Beginning) : Type 0 where
  pub head : (file : List ℕ) → Holds files i.name file → b.head ≡ fields_of_head file i.survey.head
  pub blank : b.blank ≡ begins_blank i.survey.frames

-- how each of these inputs begins
abbrev pub AreBeginnings : Files → List InputFields → List Beginning → Type 0
AreBeginnings files inputs bs = AllZip (IsBeginning files) inputs bs

-- an input whose head is set apart
abbrev pub input_without_head : InputFields → InputFields
input_without_head i = record i { survey = survey_without_head i.survey }
