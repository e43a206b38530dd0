-- The status and the line of each fault, and what a sink got of a line.
use Rattle.std.specs.Prelude.{codes, false, length, List, Ok, Some, take, ℕ, [], ◌++◌, ◌∷◌, ◌≡◌}
use Rattle.std.specs.Prelude.{◌≤◌, ◌⊎◌}
use Rattle.commands.specs.{AfterCall.{NoMemory, Rejected, Why, why_of}, Command.Command}
use Rattle.commands.specs.declared.fault.EditFault.{EditFault}
use Rattle.commands.specs.declared.fault.EditFault.TheVariants.{EqualNames, Input}
use Rattle.commands.specs.declared.fault.EditFault.TheVariants.{Memory as OutOfMemory, Refused}
use Rattle.commands.specs.declared.fault.EditFault.TheVariants.{Sent as NotSent, Write}
use Rattle.commands.specs.declared.fault.Refusal.{Refusal}
use Rattle.commands.specs.declared.fault.Refusal.TheVariants.{BadTag, BadUndo, Curve}
use Rattle.commands.specs.declared.fault.Refusal.TheVariants.{CurveNotRising, Differ, Exists}
use Rattle.commands.specs.declared.fault.Refusal.TheVariants.{GainRange, Joint, Mono, NoRate}
use Rattle.commands.specs.declared.fault.Refusal.TheVariants.{NoUndo, OutputTooLong, Range, Sheet}
use Rattle.commands.specs.declared.fault.Refusal.TheVariants.{SheetTooLarge, Span, TagTooLarge}
use Rattle.commands.specs.declared.fault.Refusal.TheVariants.{UndoRange, Unfit}
use Rattle.cue_sheet.specs.declared.cue_fault.CueFault.{CueFault}
use Rattle.cue_sheet.specs.declared.cue_fault.CueFault.TheVariants.{Line, Memory as NoSheetMemory}
use Rattle.cue_sheet.specs.declared.cue_fault.CueFault.TheVariants.{NoTracks, NotRising}
use Rattle.fade_plan.specs.declared.envelope_fault.EnvelopeFault.{EnvelopeFault}
use Rattle.fade_plan.specs.declared.envelope_fault.EnvelopeFault.TheVariants.{Line as BadLine}
use Rattle.fade_plan.specs.declared.envelope_fault.EnvelopeFault.TheVariants.{Memory as NoCurveMemory}
use Rattle.fade_plan.specs.declared.envelope_fault.EnvelopeFault.TheVariants.{NoPoints}
use Rattle.outside.specs.{Counts.Rose, Files.{Sent, sent_and_more}}
use Rattle.program_texts.specs.Lines.{Hexadecimal, LinePart, Name, Number, Signed, Text}
use Rattle.program_texts.specs.{Lines.text_of_line, Names.name_in}
use Rattle.sync_survey.specs.declared.survey_fault.SurveyFault.{SurveyFault}
use Rattle.sync_survey.specs.declared.survey_fault.SurveyFault.TheVariants.{Absent, BackPointer}
use Rattle.sync_survey.specs.declared.survey_fault.SurveyFault.TheVariants.{CheckWord, FreeFormat}
use Rattle.sync_survey.specs.declared.survey_fault.SurveyFault.TheVariants.{LostSync, Memory, Mixed}
use Rattle.sync_survey.specs.declared.survey_fault.SurveyFault.TheVariants.{NoFrame, Overlap}
use Rattle.sync_survey.specs.declared.survey_fault.SurveyFault.TheVariants.{Overrun, Read, Shrunk}
use Rattle.sync_survey.specs.declared.survey_fault.SurveyFault.TheVariants.{TooLong, TooManyFrames}
use Rattle.sync_survey.specs.declared.survey_fault.SurveyFault.TheVariants.{Truncated}

-- the status of a cause
abbrev pub cause_status : Why → ℕ
cause_status Rejected = 1
cause_status NoMemory = 4
cause_status _ = 3

-- 1 for what is refused, 3 for an absent file and a fault of the outside, 4 if memory ran out
abbrev pub status_of : EditFault → ℕ
status_of fault = cause_status (why_of fault)

-- the parts of the line of a fault of the input, after its name
abbrev pub input_parts : SurveyFault → List LinePart
input_parts Absent = Text (codes ": absent\n") ∷ []
input_parts (TooLong size) =
    Text (codes ": too long, ") ∷ Number size ∷ Text (codes " bytes\n") ∷ []
input_parts (NoFrame at) = Text (codes ": no frame at ") ∷ Number at ∷ Text (codes "\n") ∷ []
input_parts (LostSync at) =
    Text (codes ": lost synchronisation at ") ∷ Number at ∷ Text (codes "\n") ∷ []
input_parts (Truncated at) = Text (codes ": truncated at ") ∷ Number at ∷ Text (codes "\n") ∷ []
input_parts (FreeFormat at) = Text (codes ": free format at ") ∷ Number at ∷ Text (codes "\n") ∷ []
input_parts (Mixed at) = Text (codes ": mixed class at ") ∷ Number at ∷ Text (codes "\n") ∷ []
input_parts (CheckWord at said right) =
    Text (codes ": check word at ") ∷ Number at ∷ Text (codes " is ") ∷ Hexadecimal said
    ∷ Text (codes ", right is ") ∷ Hexadecimal right
    ∷ Text (codes "\n") ∷ []
input_parts (BackPointer at begin present) =
    Text (codes ": back pointer at ") ∷ Number at ∷ Text (codes " is ") ∷ Number begin
    ∷ Text (codes ", present ") ∷ Number present
    ∷ Text (codes "\n") ∷ []
input_parts (Overlap at) = Text (codes ": overlap at ") ∷ Number at ∷ Text (codes "\n") ∷ []
input_parts (Overrun at bits room) =
    Text (codes ": overrun at ") ∷ Number at ∷ Text (codes ", bits ") ∷ Number bits
    ∷ Text (codes ", room ") ∷ Number room ∷ Text (codes "\n") ∷ []
input_parts (TooManyFrames at) =
    Text (codes ": too many frames at ") ∷ Number at ∷ Text (codes "\n") ∷ []
input_parts (Shrunk first second) = Text (codes ": shrunk from ") ∷ Number first
    ∷ Text (codes " to ") ∷ Number second ∷ Text (codes "\n") ∷ []
input_parts Read = Text (codes ": read fault\n") ∷ []
-- running out of memory isn't a fault of an input: it has a line of its own
input_parts Memory = []

-- the parts of the line of a fault of a cue sheet, after its name
abbrev pub sheet_parts : CueFault → List LinePart
sheet_parts (Line number) = Text (codes ": bad line ") ∷ Number number ∷ Text (codes "\n") ∷ []
sheet_parts (NotRising number) =
    Text (codes ": not rising at line ") ∷ Number number ∷ Text (codes "\n") ∷ []
sheet_parts NoTracks = Text (codes ": no tracks\n") ∷ []
-- running out of memory isn't a fault of a cue sheet either
sheet_parts NoSheetMemory = []

-- the parts of the line of a fault of the sheet of a fade, after its name
abbrev pub curve_parts : EnvelopeFault → List LinePart
curve_parts (BadLine number) = Text (codes ": bad line ") ∷ Number number ∷ Text (codes "\n") ∷ []
curve_parts NoPoints = Text (codes ": no points\n") ∷ []
-- running out of memory isn't a fault of this sheet either
curve_parts NoCurveMemory = []

-- the parts of the line of a refusal, by the names of
-- the inputs and of the outputs; a sheet is input 1
abbrev pub refusal_parts : Refusal → List (List ℕ) → List (List ℕ) → List LinePart
refusal_parts (GainRange offset granule channel gain) inputs outputs =
    Text (codes "gain ") ∷ Number gain ∷ Text (codes " out of range at ") ∷ Number offset
    ∷ Text (codes ", granule ") ∷ Number granule
    ∷ Text (codes ", channel ") ∷ Number channel ∷ Text (codes "\n") ∷ []
refusal_parts Mono inputs outputs = Text (codes "one channel only\n") ∷ []
refusal_parts (Joint offset) inputs outputs =
    Text (codes "joint stereo at ") ∷ Number offset ∷ Text (codes "\n") ∷ []
refusal_parts (TagTooLarge length) inputs outputs =
    Text (codes "tag too large, ") ∷ Number length ∷ Text (codes "\n") ∷ []
refusal_parts (BadTag offset) inputs outputs =
    Text (codes "bad tag at ") ∷ Number offset ∷ Text (codes "\n") ∷ []
refusal_parts NoUndo inputs outputs = Text (codes "no undo item\n") ∷ []
refusal_parts (BadUndo offset) inputs outputs =
    Text (codes "bad undo item at ") ∷ Number offset ∷ Text (codes "\n") ∷ []
refusal_parts (UndoRange sum) inputs outputs =
    Text (codes "undo sum ") ∷ Signed sum ∷ Text (codes " is out of range\n") ∷ []
refusal_parts (OutputTooLong length) inputs outputs =
    Text (codes "output too long, ") ∷ Number length ∷ Text (codes " bytes\n") ∷ []
refusal_parts (Range from to frames) inputs outputs =
    Text (codes "range ") ∷ Number from ∷ Text (codes " to ") ∷ Number to ∷ Text (codes " of ")
    ∷ Number frames ∷ Text (codes " frames\n") ∷ []
refusal_parts (Span from to samples) inputs outputs =
    Text (codes "range ") ∷ Number from ∷ Text (codes " to ") ∷ Number to ∷ Text (codes " of ")
    ∷ Number samples ∷ Text (codes " samples\n") ∷ []
refusal_parts (NoRate rate) inputs outputs =
    Text (codes "no rate ") ∷ Number rate ∷ Text (codes "\n") ∷ []
refusal_parts (Unfit frame) inputs outputs =
    Text (codes "frame ") ∷ Number frame ∷ Text (codes " does not fit\n") ∷ []
refusal_parts (Differ place) inputs outputs =
    Name (name_in inputs place) ∷ Text (codes ": other class than the first input\n") ∷ []
refusal_parts (SheetTooLarge size) inputs outputs = Name (name_in inputs 1)
    ∷ Text (codes ": sheet too large, ") ∷ Number size ∷ Text (codes " bytes\n") ∷ []
refusal_parts (Sheet fault) inputs outputs = Name (name_in inputs 1) ∷ sheet_parts fault
refusal_parts (Curve fault) inputs outputs = Name (name_in inputs 1) ∷ curve_parts fault
refusal_parts (CurveNotRising number) inputs outputs = Name (name_in inputs 1)
    ∷ Text (codes ": not rising at line ") ∷ Number number ∷ Text (codes "\n") ∷ []
refusal_parts (Exists place) inputs outputs =
    Name (name_in outputs place) ∷ Text (codes ": exists\n") ∷ []

-- the parts of the line of a fault, by the names of the inputs and of the outputs
abbrev pub fault_parts : EditFault → List (List ℕ) → List (List ℕ) → List LinePart
fault_parts (EqualNames place) inputs outputs =
    Name (name_in inputs place) ∷ Text (codes ": input is an output\n") ∷ []
fault_parts (Input place fault) inputs outputs = Name (name_in inputs place) ∷ input_parts fault
fault_parts (Refused refusal) inputs outputs = refusal_parts refusal inputs outputs
fault_parts (Write place) inputs outputs =
    Name (name_in outputs place) ∷ Text (codes ": write fault\n") ∷ []
fault_parts NotSent inputs outputs = Text (codes "standard output: write fault\n") ∷ []
fault_parts OutOfMemory inputs outputs = Text (codes "out of memory\n") ∷ []

-- the line of a fault
abbrev pub fault_line : EditFault → List (List ℕ) → List (List ℕ) → List ℕ
fault_line fault inputs outputs = text_of_line (fault_parts fault inputs outputs)

-- the line of a bad word, by its place counted from 1
abbrev pub bad_word_parts : ℕ → List LinePart
bad_word_parts place = Text (codes "bad word ") ∷ Number place ∷ Text (codes "\n") ∷ []

-- the line of a bad word, spelled
abbrev pub bad_word_line : ℕ → List ℕ
bad_word_line place = text_of_line (bad_word_parts place)

-- a command that sends a text, whatever the files are
abbrev pub fixed_text_command : List ℕ → Command
fixed_text_command text = record {
  inputs = [];
  outputs = [];
  sources = [];
  always = Some text;
  keeps = false;
  makes = λ files. Ok (record { outputs = []; text = text });
  streams = λ files. [];
  refuses = λ refusal. false;
}

-- what the program does, form by form, and the statuses
unfoldable pub help_text : List ℕ
help_text =
    codes "usage: mp3edit COMMAND\n"
    ++ (codes "  list IN                list what is in the MP3 file IN: tags, junk, the Xing or Info frame (head), and frames\n"
    ++ (codes "  info IN                describe IN in a few lines, including how many steps down and up its gains can go\n"
    ++ (codes "  gain [-s s] [-w] -g N IN OUT\n"
    ++ (codes "                         write IN to OUT, N steps of 1.5 dB louder (quieter if N is negative)\n"
    ++ (codes "  gain [-s s] [-w] -l C N IN OUT\n"
    ++ (codes "                         the same for one channel: C is 0 for left, 1 for right\n"
    ++ (codes "                         -s s: leave tags alone, and don't record the change\n"
    ++ (codes "                         -w: wrap gains that would leave the range 0 to 255, instead of refusing the file\n"
    ++ (codes "  gain -u IN OUT         write IN to OUT, undoing all changes that its tag records\n"
    ++ (codes "  cut [--least] IN FROM TO OUT\n"
    ++ (codes "                         write to OUT the frames of IN from FROM up to but not including TO, with all main data\n"
    ++ (codes "                         FROM, TO: a frame number (from 0), a time in minutes, seconds up to 59 and hundredths of\n"
    ++ (codes "                         a second (M.S or M.S.H), or EOF. A number without a dot counts frames: a minute and a\n"
    ++ (codes "                         half is 1.30, not 90\n"
    ++ (codes "                         --least: give each frame the lowest bit rate at which all main data fit\n"
    ++ (codes "  cut --exact IN FROM TO OUT\n"
    ++ (codes "                         write to OUT the frames of IN needed for its samples from FROM up to but not including\n"
    ++ (codes "                         TO, with an Info frame that tells players to play exactly these samples;\n"
    ++ (codes "                         FROM, TO: also seconds (90s or 90.5s), a time with thousandths (M.S.TTT), a sample\n"
    ++ (codes "                         (44100samples), or EOF- and seconds or a time (that long before EOF)\n"
    ++ (codes "  remove IN OUT FROM TO [FROM TO ..]\n"
    ++ (codes "                         write IN to OUT without its frames from each FROM up to but not including the TO behind it,\n"
    ++ (codes "                         up to 50 such stretches; FROM, TO: as for cut --exact, but rounded down to frames\n"
    ++ (codes "  pack IN OUT            write all frames of IN to OUT, each at the lowest bit rate at which all main data fit\n"
    ++ (codes "  pack --constant B IN OUT\n"
    ++ (codes "                         the same with every frame at B kbit/s; refused if that is too low for some frame\n"
    ++ (codes "  pack --floor B IN OUT  the same with no frame below B kbit/s\n"
    ++ (codes
    "  pack --best IN OUT     the same with the bit rates that take the fewest bytes in all\n"
    ++ (codes "  split IN PREFIX P1 P2 [P3 to P100]\n"
    ++ (codes "                         write to PREFIX01.mp3 the frames of IN from P1 up to P2, to PREFIX02.mp3 those from P2\n"
    ++ (codes
    "                         up to P3, and so on; P1 to P100 are written like FROM and TO of cut\n"
    ++ (codes "  split IN PREFIX -c CUE the same at the starts of the tracks in the cue sheet CUE; the last piece ends with IN\n"
    ++ (codes "  split --exact IN PREFIX P1 P2 [P3 to P100]\n"
    ++ (codes "                         the same with samples instead of frames; each piece is what cut --exact writes\n"
    ++ (codes "  split --exact IN PREFIX -c CUE\n"
    ++ (codes "                         the same with the samples of each track\n"
    ++ (codes "  join [--seamless] OUT IN1 [IN2 to IN64]\n"
    ++ (codes "                         write to OUT the frames of IN1 to IN64, in order\n"
    ++ (codes "                         --seamless: leave out the frames that only a piece on its own needs, so that pieces in\n"
    ++ (codes "                         order are the whole again, and say what was left out of each input but the first\n"
    ++ (codes "  drill SEED COUNT       generate COUNT frames from the seed SEED, pack them in memory, and print both lengths\n"
    ++ (codes "  fade [--back] IN OUT SHEET\n"
    ++ (codes "                         write IN to OUT, with a volume that changes from frame to frame as SHEET says\n"
    ++ (codes "                         SHEET: lines of a position and steps of 1.5 dB; between lines the steps change evenly\n"
    ++ (codes "                         --back: change by the same steps the other way, which undoes a fade by the same SHEET\n"
    ++ (codes "  salvage IN OUT         write what can be read of the damaged file IN to OUT, and say what is missing;\n"
    ++ (codes "                         a frame whose main data can't be read becomes empty\n"
    ++ (codes "  --help, -h             print this help\n"
    ++ (codes "  --version              print the version\n"
    ++ (codes "  -n COMMAND             run COMMAND, but refuse it and write nothing if a file that it would write exists\n"
    ++ (codes "An output that exists is overwritten without asking. No input is written to.\n"
    ++ (codes "examples:\n"
    ++ (codes "  mp3edit gain -g -2 song.mp3 quieter.mp3       3 dB quieter\n"
    ++ (codes "  mp3edit cut song.mp3 1.30 2.00.50 clip.mp3    from a minute and a half to half a second after two minutes\n"
    ++ (codes "  mp3edit split album.mp3 disc/ -c album.cue    disc/01.mp3, disc/02.mp3 and so on, one for each track\n"
    ++ (codes "status: 0 done; 1 refused; 2 bad arguments; 3 a file is absent, or reading or writing failed;\n"
    ++ (codes "        4 out of memory\n"
    ++ codes "manual: man mp3edit, and MANUAL.md among the documents (such as /usr/local/share/doc/mp3edit/docs)\n")))))))))))))))))))))))))))))))))))))))))))))))))))))))))

-- the program's name and version
unfoldable pub version_text : List ℕ
version_text = codes "mp3edit 1.0.0\n"

-- the line was sent, and no write failed
pub record GotWhole (sent_before sent_after : Sent) (faults_before faults_after : ℕ)
    (line : List ℕ) : Type 0 where
  pub sent : sent_after ≡ sent_and_more sent_before line
  pub done : faults_after ≡ faults_before

-- a prefix of the line was sent, and a write failed
pub record GotPrefix (sent_before sent_after : Sent) (faults_before faults_after : ℕ)
    (line : List ℕ) : Type 0 where
  pub count : ℕ
  pub in_range : count ≤ length line
  pub sent : sent_after ≡ sent_and_more sent_before (take count line)
  pub failed : Rose faults_before faults_after

-- the line was sent and no write failed, or a prefix of it
-- and a write failed; the count of failures never falls
pub record GotLine (sent_before sent_after : Sent) (faults_before faults_after : ℕ)
    (line : List ℕ) : Type 0 where
  pub later : faults_before ≤ faults_after
  pub got : GotWhole sent_before sent_after faults_before faults_after line
      ⊎ GotPrefix sent_before sent_after faults_before faults_after line
