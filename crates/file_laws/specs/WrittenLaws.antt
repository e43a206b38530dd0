-- What holds of each file that a command writes.
use Rattle.std.specs.Prelude.{Bool, false, length, List, Ok, Some, true, ℕ, [], ◌∷◌, ◌≡◌, ◌≤◌}
use Rattle.command_table.specs.Table.{command_of, inputs_of}
use Rattle.commands.specs.Command.{Command, Made, Output}
use Rattle.frame_header.specs.Fields.{ClassFields, HeaderFields}
use Rattle.frame_writer.specs.Frames.{Frame}
use Rattle.info_header.specs.{FileInfo.all_bytes, declared.fields.Info.Info}
use Rattle.job_words.specs.Request.{Fade, Gain, Request, Undo}
use Rattle.laying.specs.{LaidFiles.{IsLaidFile, laid_file}, LaidLaws.LosesNoFrame, Written.slot_in}
use Rattle.outside.specs.Files.{Contents}

-- A file of frames with all main data laid into their areas, behind an Info frame that gives the
-- number of the frames, and of the bytes from the Info frame's first to the last frame's last.
pub record IsCountedFile (bytes : List ℕ) : Type 0 where
  pub class : ClassFields
  pub front : List (List ℕ)
  pub first : HeaderFields
  pub info : Info
  pub frames : List Frame
  pub back : List (List ℕ)
  pub is : bytes ≡ laid_file front first info frames back
  pub laid : IsLaidFile class front first info frames back
  pub frames_are : info.frames ≡ Some (length frames)
  pub bytes_are : info.bytes ≡ Some (all_bytes class slot_in frames)

-- this holds of the bytes of each of these outputs
abbrev pub AllOutputs : (List ℕ → Type 0) → List Output → Type 0
AllOutputs P [] = Unit {0}
AllOutputs P (output ∷ outputs) = P output.bytes × AllOutputs P outputs

-- it holds of each file that a command writes, where it isn't refused
abbrev pub WritesOnly : (List ℕ → Type 0) → Command → Type 0
WritesOnly P command = (files : Contents) (made : Made) → command.makes files ≡ Ok made
    → AllOutputs P made.outputs

-- the command moves gains, and repacks nothing
abbrev pub moves_gains : Request → Bool
moves_gains (Gain shift tags input output) = true
moves_gains (Undo input output) = true
moves_gains (Fade back input output sheet) = true
moves_gains _ = false

-- it holds of each file that a command writes that repacks main data, and that has an input
abbrev pub AllWritten : (List ℕ → Type 0) → Type 0
AllWritten P = (asked : Request) → moves_gains asked ≡ false → 1 ≤ length (inputs_of asked)
    → WritesOnly P (command_of asked)

-- each such file has an Info frame that gives its numbers
abbrev pub WrittenFilesAreCounted : Type 0
WrittenFilesAreCounted = AllWritten IsCountedFile

-- each such file is well-formed, and no frame of it is lost, whether its head is set apart or not
abbrev pub WrittenFramesStay : Type 0
WrittenFramesStay = AllWritten LosesNoFrame
