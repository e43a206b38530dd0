-- The info command: what a file is, in a few lines, whether frames are missing, and by how many
-- steps its gains can move.
use Rattle.std.specs.Prelude.{Bool, codes, decimal, flat_map, if◌then◌else◌, length, List, None}
use Rattle.std.specs.Prelude.{Option, Some, true, ℕ, [], ◌&&◌, ◌++◌, ◌-◌, ◌==◌, ◌∷◌}
use Rattle.commands.specs.Command.{Command}
use Rattle.exact_span.specs.{Extensions.counts_of, PlayedPositions.{length_of_played, played_of}}
use Rattle.exact_span.specs.declared.extensions.HeadCounts.{HeadCounts}
use Rattle.frame_header.specs.Fields.{ClassFields}
use Rattle.info_header.specs.{Info.vbr_text, declared.fields.Info.Info}
use Rattle.laying.specs.KeptFields.{fields_of_head}
use Rattle.list_edits.specs.{Listing.{class_text, hundredths, time_text}, TextCommand.text_command}
use Rattle.list_edits.specs.Totals.{file_areas, greatest_rate, least_rate, lost_count, main_data_in}
use Rattle.list_edits.specs.Totals.{stream_length}
use Rattle.moved_gains.specs.GainExtremes.{extremes_of, extremes_of_both}
use Rattle.moved_gains.specs.declared.gain_extremes.Gains.{Gains}
use Rattle.sync_survey.specs.Faults.{SurveyFields}

-- ---- the frames

-- what all frames share
abbrev pub class_line : ClassFields → List ℕ
class_line class = class_text class ++ codes "\n"

-- how many frames there are, how many of them are lost, and how long they sound
abbrev pub frames_line : ClassFields → ℕ → ℕ → List ℕ
frames_line class count lost =
    decimal count ++ (codes " frames, " ++ (decimal lost ++ (codes " lost, "
    ++ (time_text (hundredths class count) ++ codes "\n"))))

-- what comes after the least of two numbers: the greatest, if it differs
abbrev pub greatest_text : ℕ → ℕ → List ℕ
greatest_text least greatest = if least == greatest then [] else codes " to " ++ decimal greatest

-- the least and the greatest bit rate, in kbit/s, or the only one
abbrev pub rates_line : ℕ → ℕ → List ℕ
rates_line least greatest = decimal least ++ (greatest_text least greatest ++ codes " kbit/s\n")

-- how many bytes of main data there are, and how many there could be
abbrev pub main_data_line : ℕ → ℕ → List ℕ
main_data_line bytes areas =
    decimal bytes ++ (codes " of " ++ (decimal areas ++ codes " bytes are main data\n"))

-- ---- the head

-- a number that the head gives
abbrev pub number_text : Option ℕ → List ℕ → List ℕ
number_text None unit = []
number_text (Some n) unit = codes ", " ++ (decimal n ++ unit)

-- the head's text, and its numbers of frames and bytes
abbrev pub head_line : Option Info → List ℕ
head_line None = codes "no head\n"
head_line (Some info) =
    vbr_text info.vbr ++ (codes " head" ++ (number_text info.frames (codes " frames")
    ++ (number_text info.bytes (codes " bytes") ++ codes "\n")))

-- the head gives no such number, or this one
abbrev pub agrees : Option ℕ → ℕ → Bool
agrees None n = true
agrees (Some said) n = said == n

-- both numbers that the head gives, if any, are these
abbrev pub is_as_said : Option Info → ℕ → ℕ → Bool
is_as_said None frames bytes = true
is_as_said (Some info) frames bytes = agrees info.frames frames && agrees info.bytes bytes

-- the line that says how many frames and bytes are here
abbrev pub but_line : ℕ → ℕ → List ℕ
but_line frames bytes =
    codes "but " ++ (decimal frames ++ (codes " frames, "
    ++ (decimal bytes ++ codes " bytes are here\n")))

-- how many frames and bytes are here, if the head gives other numbers
abbrev pub here_lines : Option Info → ℕ → ℕ → List (List ℕ)
here_lines head frames bytes =
    if is_as_said head frames bytes then [] else but_line frames bytes ∷ []

-- ---- what is played

-- delay and padding, in samples, if the head counts
abbrev pub counts_text : Option HeadCounts → List ℕ
counts_text None = []
counts_text (Some counts) =
    codes "delay " ++ (decimal counts.delay ++ (codes ", padding "
    ++ (decimal counts.padding ++ codes ", ")))

-- delay and padding, if the head counts, and how many samples are played
abbrev pub played_line : Option Info → ClassFields → ℕ → List ℕ
played_line head class frames =
    counts_text (counts_of head) ++ (codes "plays "
    ++ (decimal (length_of_played (played_of head class frames)) ++ codes " samples\n"))

-- ---- the gains that move

-- by how many steps the gains can move down and up
abbrev pub step_range_text : Gains → List ℕ
step_range_text g =
    codes "steps -" ++ (decimal g.least ++ (codes " to +"
    ++ (decimal (255 - g.greatest) ++ codes "\n")))

-- the least and the greatest gain of a channel, and its steps
abbrev pub gains_text : Option Gains → List ℕ
gains_text None = codes "no gains\n"
gains_text (Some g) =
    codes "gains " ++ (decimal g.least ++ (codes " to "
    ++ (decimal g.greatest ++ (codes ", " ++ step_range_text g))))

-- the steps of both channels together
abbrev pub both_text : Option Gains → List ℕ
both_text None = codes "no gains\n"
both_text (Some g) = step_range_text g

-- the line of the one channel
abbrev pub mono_lines : Option Gains → List (List ℕ)
mono_lines gains = (codes "mono: " ++ gains_text gains) ∷ []

-- the lines of each of two channels, and of both
abbrev pub stereo_lines : Option Gains → Option Gains → Option Gains → List (List ℕ)
stereo_lines left right both =
    (codes "left: " ++ gains_text left) ∷ (codes "right: " ++ gains_text right)
    ∷ (codes "both: " ++ both_text both) ∷ []

-- the lines of the gains, for this number of channels
abbrev pub gain_lines : ℕ → Option Gains → Option Gains → Option Gains → List (List ℕ)
gain_lines channels left right both =
    if channels == 1 then mono_lines left else stereo_lines left right both

-- ---- the command

-- the 7 to 10 lines of a file with this head
unfoldable pub info_lines : Option Info → SurveyFields → List (List ℕ)
info_lines head s =
    let rows = s.frames in
    let count = length rows in
    class_line s.class ∷ frames_line s.class count (lost_count rows)
    ∷ rates_line (least_rate rows) (greatest_rate rows)
    ∷ main_data_line (main_data_in rows) (file_areas s)
    ∷ head_line head ∷ (here_lines head count (stream_length s)
    ++ (played_line head s.class count
    ∷ gain_lines s.class.channels (extremes_of 0 rows) (extremes_of 1 rows)
    (extremes_of_both rows)))

-- the text of a file with this head
abbrev pub info_text : Option Info → SurveyFields → List ℕ
info_text head s = flat_map (λ line. line) (info_lines head s)

-- the text of the input, with the head that its bytes have
abbrev pub info_of : List ℕ → SurveyFields → List ℕ
info_of file s = info_text (fields_of_head file s.head) s

-- the command sends the text of its input
abbrev pub info_command : List ℕ → Command
info_command = text_command info_of
