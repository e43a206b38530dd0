-- The greatest numbers of frames, and the greatest lengths of the parts of a frame (ISO/IEC 11172-3
-- and 13818-3, 2.4.1 and 2.4.2.7).
use Rattle.std.specs.Prelude.{ℕ}

-- the most frames of an input, not counting its head, and of all inputs of a command together
abbrev pub most_frames : ℕ
most_frames = 2900000

-- the most frames of an output: those, and a lead-in before the frames of each of at most 64 inputs
abbrev pub most_output_frames : ℕ
most_output_frames = 2900064

-- the greatest length of a frame in bytes
abbrev pub most_frame_length : ℕ
most_frame_length = 1441

-- the greatest main_data_begin: how many bytes before its frame's own area main data may begin
abbrev pub most_back : ℕ
most_back = 511

-- the greatest length in bytes of what is before the area of a frame: header, check word and side
-- information
abbrev pub most_front : ℕ
most_front = 38
