-- How the volume is to change: which channels, by how many steps of global_gain, 1.5 dB each
-- (ISO/IEC 11172-3, 2.4.2.7 and 2.4.3.4), and whether gains wrap.
use Rattle.std.specs.Prelude.{pos, ℤ}
use Rattle.requests.specs.declared.shift.Channels.{Channels, TheVariants.{Both, Left, Right}}
use Rattle.requests.specs.declared.shift.{Shift.Shift, Steps.Steps}

-- the steps of channel 0
abbrev pub left_steps_of : Channels → ℤ → ℤ
left_steps_of Both steps = steps
left_steps_of Left steps = steps
left_steps_of Right steps = pos 0

-- the steps of channel 1
abbrev pub right_steps_of : Channels → ℤ → ℤ
right_steps_of Both steps = steps
right_steps_of Left steps = pos 0
right_steps_of Right steps = steps

-- by how many steps each channel moves, and whether gains wrap
abbrev pub steps_of : Shift → Steps
steps_of shift = record {
  left = left_steps_of shift.channels shift.steps;
  right = right_steps_of shift.channels shift.steps;
  wrap = shift.wrap;
}
