-- The table of commands: all that is said of each is in its entry.
use Rattle.std.specs.Prelude.{Bool, false, List, map, true, ℕ, [], ◌++◌, ◌∷◌}
use Rattle.command_table.specs.Choices.{AreInputsOfOneClass, ArePieceRanges, AreSamplePieces}
use Rattle.command_table.specs.Choices.{IsLegalFade, IsLegalGain, IsLegalPack, IsLegalRemoval}
use Rattle.command_table.specs.Choices.{IsLegalSalvage, IsLegalSheetOf, IsLegalUndo, IsRange}
use Rattle.command_table.specs.Choices.{IsSampleRange}
use Rattle.command_table.specs.Chosen.{Alone, file_bytes_of, Frames, frames_between, frames_joined}
use Rattle.command_table.specs.Chosen.{frames_needed, frames_needed_between, InParts, named_frames}
use Rattle.command_table.specs.Chosen.{piece_frames, sheet_piece_frames, staying_frames}
use Rattle.command_table.specs.Inputs.{FileInput, HoldsOfOne}
use Rattle.commands.specs.{Command.Command, SingleOutput.most_frames}
use Rattle.cut_edits.specs.{Chosen.cut_command, Exact.exact_command}
use Rattle.drill.specs.Drilled.{drill_command}
use Rattle.gain_edits.specs.{Fade.{fade_command, faded_stream}, Gain.gain_command}
use Rattle.gain_edits.specs.Undo.{file_undo_steps, undo_command}
use Rattle.job_words.specs.Request.{Cut, CutExact, Drill, Fade, Gain, Help, InfoFile, Join}
use Rattle.job_words.specs.Request.{ListFile, Pack, Remove, Request, Salvage, SplitAt, SplitBy}
use Rattle.job_words.specs.Request.{SplitExact, Undo, Version}
use Rattle.join_edits.specs.Join.{join_command}
use Rattle.list_edits.specs.{InfoText.info_command, Listing.list_command}
use Rattle.moved_gains.specs.Streams.{moved_stream_frame}
use Rattle.outside.specs.Files.{Contents}
use Rattle.pack_edits.specs.Modes.{allowed_frames, pack_mode_command}
use Rattle.program_texts.specs.Texts.{fixed_text_command, help_text, version_text}
use Rattle.remove_edits.specs.Removed.{remove_command}
use Rattle.requests.specs.{Names.piece_names, Shifts.steps_of}
use Rattle.salvage.specs.Stream.{salvaged_stream}
use Rattle.salvage_edits.specs.Salvaged.{salvage_command}
use Rattle.seamless_edits.specs.Seamless.{seamless_command}
use Rattle.split_edits.specs.Split.{split_at_command, split_by_command, split_exact_at_command}
use Rattle.split_edits.specs.Split.{split_exact_by_command}

-- what is said of a command that is asked for
pub record CommandEntry : Type 1 where
  -- the names of the files that it reads as streams, of
  -- those that it reads as sheets or as a damaged file, and
  -- of those that it may write, in the order of writing
  pub sources : List (List ℕ)
  pub others : List (List ℕ)
  pub outputs : List (List ℕ)
  -- what it makes of the files that are there, or why it refuses them
  pub command : Command
  -- which frames it chooses from these files, for each output
  pub chosen : Contents → List Frames
  -- how many frames the sources may have together
  pub most : ℕ
  -- which choices are legal for these files and these sources
  pub legal : Contents → List FileInput → Type 0

-- ---- the entries

-- a command that sends a text: nothing is chosen
abbrev pub text_entry : List (List ℕ) → Command → CommandEntry
text_entry sources command = record {
  sources = sources;
  others = [];
  outputs = [];
  command = command;
  chosen = λ files. [];
  most = most_frames;
  legal = λ files inputs. Unit {0};
}

-- a split by a cue sheet, to a frame or to a sample
abbrev pub sheet_command : Bool → List ℕ → List ℕ → List ℕ → Command
sheet_command false input sheet prefix = split_by_command input sheet prefix
sheet_command true input sheet prefix = split_exact_by_command input sheet prefix

-- a join, with all frames or without those that only a piece needs
abbrev pub joining_command : Bool → List ℕ → List (List ℕ) → Command
joining_command false output inputs = join_command output inputs
joining_command true output inputs = seamless_command output inputs

-- The entry of what is asked for. A change of gains keeps all frames where they are, and moves
-- their gains. The other commands repack the chosen frames: those between two positions, those
-- needed for some samples, those of each piece, those outside of stretches, all frames of one input
-- or of several, those of several that aren't left out, or what is left of a damaged file, where
-- each frame that isn't sound is empty.
abbrev pub entry_of : Request → CommandEntry
entry_of Help = text_entry [] (fixed_text_command help_text)
entry_of Version = text_entry [] (fixed_text_command version_text)
entry_of (ListFile input) = text_entry (input ∷ []) (list_command input)
entry_of (InfoFile input) = text_entry (input ∷ []) (info_command input)
entry_of (Drill seed count) = text_entry [] (drill_command seed count)
entry_of (Gain shift tags input output) = record {
  sources = input ∷ [];
  others = [];
  outputs = output ∷ [];
  command = gain_command shift tags input output;
  chosen = λ files.
      Alone (map (moved_stream_frame (steps_of shift)) (named_frames files input)) ∷ [];
  most = most_frames;
  legal = λ files. HoldsOfOne (IsLegalGain shift tags);
}
entry_of (Undo input output) = record {
  sources = input ∷ [];
  others = [];
  outputs = output ∷ [];
  command = undo_command input output;
  chosen = λ files.
      Alone (map (moved_stream_frame (file_undo_steps (file_bytes_of files input)))
      (named_frames files input))
      ∷ [];
  most = most_frames;
  legal = λ files. HoldsOfOne IsLegalUndo;
}
entry_of (Fade back input output sheet) = record {
  sources = input ∷ [];
  others = sheet ∷ [];
  outputs = output ∷ [];
  command = fade_command sheet back input output;
  chosen = λ files. Alone (faded_stream (files sheet) back (file_bytes_of files input)) ∷ [];
  most = most_frames;
  legal = λ files. HoldsOfOne (IsLegalFade sheet back files);
}
entry_of (Cut from to least input output) = record {
  sources = input ∷ [];
  others = [];
  outputs = output ∷ [];
  command = cut_command from to least input output;
  chosen = λ files. InParts (frames_between (named_frames files input) from to ∷ []) ∷ [];
  most = most_frames;
  legal = λ files. HoldsOfOne (λ i. IsRange i.survey from to);
}
entry_of (CutExact input from to output) = record {
  sources = input ∷ [];
  others = [];
  outputs = output ∷ [];
  command = exact_command from to input output;
  chosen = λ files. InParts (frames_needed from to (file_bytes_of files input) ∷ []) ∷ [];
  most = most_frames;
  legal = λ files. HoldsOfOne (IsSampleRange from to);
}
entry_of (Pack mode input output) = record {
  sources = input ∷ [];
  others = [];
  outputs = output ∷ [];
  command = pack_mode_command mode input output;
  chosen = λ files. InParts (named_frames files input ∷ []) ∷ [];
  most = allowed_frames mode;
  legal = λ files. HoldsOfOne (λ i. IsLegalPack mode i.survey);
}
entry_of (SplitAt input prefix places) = record {
  sources = input ∷ [];
  others = [];
  outputs = piece_names prefix;
  command = split_at_command places input prefix;
  chosen = λ files. piece_frames (frames_between (named_frames files input)) places;
  most = most_frames;
  legal = λ files. HoldsOfOne (λ i. ArePieceRanges i.survey places);
}
entry_of (SplitExact input prefix places) = record {
  sources = input ∷ [];
  others = [];
  outputs = piece_names prefix;
  command = split_exact_at_command places input prefix;
  chosen = λ files. piece_frames (frames_needed_between (file_bytes_of files input)) places;
  most = most_frames;
  legal = λ files. HoldsOfOne (λ i. AreSamplePieces i places);
}
entry_of (SplitBy exact input prefix sheet) = record {
  sources = input ∷ [];
  others = sheet ∷ [];
  outputs = piece_names prefix;
  command = sheet_command exact input sheet prefix;
  chosen = λ files. sheet_piece_frames exact files input sheet;
  most = most_frames;
  legal = λ files. HoldsOfOne (IsLegalSheetOf exact sheet files);
}
entry_of (Join seamless output inputs) = record {
  sources = inputs;
  others = [];
  outputs = output ∷ [];
  command = joining_command seamless output inputs;
  chosen = λ files. frames_joined seamless files inputs ∷ [];
  most = most_frames;
  legal = λ files. AreInputsOfOneClass;
}
entry_of (Remove input output stretches) = record {
  sources = input ∷ [];
  others = [];
  outputs = output ∷ [];
  command = remove_command stretches input output;
  chosen = λ files. InParts (staying_frames stretches (file_bytes_of files input)) ∷ [];
  most = most_frames;
  legal = λ files. HoldsOfOne (λ i. IsLegalRemoval stretches i.survey);
}
entry_of (Salvage input output) = record {
  sources = [];
  others = input ∷ [];
  outputs = output ∷ [];
  command = salvage_command input output;
  chosen = λ files. InParts (salvaged_stream (file_bytes_of files input) ∷ []) ∷ [];
  most = most_frames;
  legal = λ files inputs. IsLegalSalvage input files;
}

-- ---- what is asked of an entry

-- what is asked for, as a command
abbrev pub command_of : Request → Command
command_of asked = (entry_of asked).command

-- the files that are read as streams
abbrev pub sources_of : Request → List (List ℕ)
sources_of asked = (entry_of asked).sources

-- the files that are read
abbrev pub inputs_of : Request → List (List ℕ)
inputs_of asked = (entry_of asked).sources ++ (entry_of asked).others

-- the files that may be written
abbrev pub outputs_of : Request → List (List ℕ)
outputs_of asked = (entry_of asked).outputs

-- the frames of each output, in the order of writing
abbrev pub chosen_of : Request → Contents → List Frames
chosen_of asked = (entry_of asked).chosen
