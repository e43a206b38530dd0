-- Why one channel of a file can't change alone.
use Rattle.std.specs.Prelude.{Bool, false, if◌then◌else◌, List, None, Option, Some, true, ◌==◌}
use Rattle.commands.specs.{Refusing.first_refusal, declared.fault.Refusal.Refusal}
use Rattle.commands.specs.declared.fault.Refusal.TheVariants.{Joint, Mono}
use Rattle.requests.specs.declared.shift.{Channels.{Channels, TheVariants.Both}, Shift.Shift}
use Rattle.sync_survey.specs.{Faults.SurveyFields, Row.Row}

-- both channels change
abbrev pub are_both : Channels → Bool
are_both Both = true
are_both _ = false

-- the two channels of the frame are coded jointly (mode 1, 11172-3, 2.4.2.3), so that each is heard
-- on both sides
abbrev pub is_joint : Row → Bool
is_joint row = row.header.mode == 1

-- the refusal of such a frame
abbrev pub joint_refusal : Row → Option Refusal
joint_refusal row = if is_joint row then Some (Joint row.offset) else None

-- the refusal of the first such frame, even if it is silent or lost
abbrev pub joint_fault : List Row → Option Refusal
joint_fault rows = first_refusal joint_refusal rows

-- why one channel alone can't change: there is only one, or the two channels of a frame are coded
-- jointly
abbrev pub single_channel_fault : SurveyFields → Option Refusal
single_channel_fault s = if s.class.channels == 1 then Some Mono else joint_fault s.frames

-- why these channels of the file can't change
abbrev pub channel_fault : Shift → SurveyFields → Option Refusal
channel_fault shift s = if are_both shift.channels then None else single_channel_fault s
