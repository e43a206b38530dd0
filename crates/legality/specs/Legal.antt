-- When a command that was asked for is legal.
use Rattle.std.specs.Prelude.{length, List, ℕ, [], ◌∷◌, ◌≤◌}
use Rattle.command_table.specs.Choices.{IsFirstUnfit, IsRate}
use Rattle.command_table.specs.Inputs.{AreInputs, AreNamesApart, FileInput, input_frames, IsInput}
use Rattle.command_table.specs.Table.{entry_of, inputs_of, outputs_of, sources_of}
use Rattle.commands.specs.SingleOutput.{most_frames}
use Rattle.job_words.specs.Request.{Request}
use Rattle.outside.specs.Files.{Contents}

-- No input is an output; each input that is read as a stream is there, no longer than allowed,
-- and well-formed, and together they have no more frames than allowed; and the choices are legal.
pub record IsLegalFor (asked : Request) (files : Contents) : Type 0 where
  pub names : AreNamesApart (inputs_of asked) (outputs_of asked)
  pub inputs : List FileInput
  pub are : AreInputs files (sources_of asked) inputs
  pub few : input_frames inputs ≤ (entry_of asked).most
  pub choices : (entry_of asked).legal files inputs

-- ---- a packing with one bit rate that is refused

-- The input is there, no longer than allowed and well-formed, the bit rate is one of its class, and
-- no list of its slots has room for the main data; this is the first frame up to which none has.
pub record IsUnfitFor (rate : ℕ) (input output : List ℕ) (files : Contents) (i : ℕ) : Type 0 where
  pub names : AreNamesApart (input ∷ []) (output ∷ [])
  pub read : FileInput
  pub is : IsInput files input read
  pub few : length read.survey.frames ≤ most_frames
  pub named : IsRate rate read.survey.class
  pub unfit : IsFirstUnfit rate read.survey i
