-- The list command: a line for each thing of a file, in order of offset, and a summary.
use Rattle.std.specs.Prelude.{Bool, codes, decimal, flat_map, if◌then◌else◌, length, List, ℕ, []}
use Rattle.std.specs.Prelude.{◌%◌, ◌*◌, ◌++◌, ◌/◌, ◌∷◌, ◌≡◌}
use Rattle.commands.specs.Command.{Command}
use Rattle.frame_header.specs.Fields.{ClassFields}
use Rattle.frame_header.specs.Tables.{class_of, frequency_of, length_of, rate_of, samples_of}
use Rattle.frame_header.specs.declared.version.Version.{Version, TheVariants.{One, Two, TwoFive}}
use Rattle.list_edits.specs.{Decimals.two_digits, TextCommand.text_command}
use Rattle.list_edits.specs.{Things.{ordered_things, things_of}, declared.things.Thing.Thing}
use Rattle.list_edits.specs.declared.things.Thing.TheVariants.{Block, FirstHead, Frame, Junk}
use Rattle.side_info.specs.Side.{payload_bits}
use Rattle.sync_survey.specs.{Faults.SurveyFields, Row.Row}
use Rattle.tag_blocks.specs.declared.block.Kind.{Kind, TheVariants.{Ape, Id3v1, Id3v2}}

-- ---- the line of each thing

-- the name of a block's kind
abbrev pub kind_name : Kind → List ℕ
kind_name Id3v2 = codes "ID3v2"
kind_name Id3v1 = codes "ID3v1"
kind_name Ape = codes "APEv2"

-- where a thing begins and how long it is, in bytes
abbrev pub extent : ℕ → ℕ → List ℕ
extent at size = codes " at " ++ (decimal at ++ (codes ": " ++ (decimal size ++ codes " bytes\n")))

-- a bit rate in kbit/s, after the offset
abbrev pub rate_text : ℕ → List ℕ
rate_text rate = codes ": " ++ (decimal rate ++ codes " kbit/s")

-- a word if the frame is padded
abbrev pub padding_text : Bool → List ℕ
padding_text padding = if padding then codes " padded" else []

-- a word if the frame is lost: its main data begin before the file
abbrev pub lost_text : Bool → List ℕ
lost_text lost = if lost then codes ", lost" else []

-- number and offset of a frame, its bit rate in kbit/s, its
-- main_data_begin in bytes, and how many bits its main data are
abbrev pub frame_line : ℕ → Row → List ℕ
frame_line number row =
    codes "frame " ++ (decimal number ++ (codes " at " ++ (decimal row.offset
    ++ (codes ": " ++ (decimal (rate_of (class_of row.header) row.header.slot)
    ++ (codes " kbit/s" ++ (padding_text row.header.slot.padding ++ (codes ", begin "
    ++ (decimal row.side.main_data_begin ++ (codes ", bits " ++ (decimal (payload_bits row.side)
    ++ (lost_text row.lost ++ codes "\n"))))))))))))

-- the line of a thing: its kind, its offset and its length in bytes; for a frame see `frame_line`
unfoldable pub thing_line : Thing → List ℕ
thing_line (Block piece) =
    codes "block " ++ (kind_name piece.block.kind ++ extent piece.offset piece.block.length)
thing_line (Junk at size) = codes "junk" ++ extent at size
thing_line (FirstHead at header) =
    codes "head" ++ extent at (length_of (class_of header) header.slot)
thing_line (Frame number row) = frame_line number row

-- the line of the first of these things, after which the others are left
pub record IsNextLine (things rest : List Thing) (text : List ℕ) : Type 0 where
  pub thing : Thing
  pub first : things ≡ thing ∷ rest
  pub line : thing_line thing ≡ text

-- ---- the summary

-- the name of a version
abbrev pub version_name : Version → List ℕ
version_name One = codes "MPEG-1"
version_name Two = codes "MPEG-2"
version_name TwoFive = codes "MPEG-2.5"

-- how long `count` frames of this class sound, in hundredths of a second, rounded down
abbrev pub hundredths : ClassFields → ℕ → ℕ
hundredths class count = (count * samples_of class.version * 100) / frequency_of class

-- a time in hundredths of a second as minutes, seconds and hundredths, with dots between them
abbrev pub time_text : ℕ → List ℕ
time_text time = decimal (time / 6000)
    ++ (codes "." ++ (two_digits (time / 100 % 60) ++ (codes "." ++ two_digits (time % 100))))

-- what the frames of a class share: the version, the sampling frequency, and the number of channels
abbrev pub class_text : ClassFields → List ℕ
class_text class =
    version_name class.version ++ (codes ", " ++ (decimal (frequency_of class)
    ++ (codes " Hz, " ++ (decimal class.channels ++ codes " channels"))))

-- how many frames there are, what they share, and how long they sound
unfoldable pub summary : ClassFields → ℕ → List ℕ
summary class count =
    decimal count ++ (codes " frames, "
    ++ (class_text class ++ (codes ", " ++ (time_text (hundredths class count) ++ codes "\n"))))

-- ---- the command

-- the lines of these things
abbrev pub thing_lines : List Thing → List ℕ
thing_lines ts = flat_map thing_line ts

-- the lines of all things of a file in order of offset, and the summary
unfoldable pub listing : SurveyFields → List ℕ
listing s = thing_lines (ordered_things (things_of s)) ++ summary s.class (length s.frames)

-- the text is the listing of the input
abbrev pub list_command : List ℕ → Command
list_command = text_command (λ file. listing)
