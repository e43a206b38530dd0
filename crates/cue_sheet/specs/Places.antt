-- Positions in a stream: the words that say them, as in mp3splt, and the frames that they are
-- before, by samples and frequency (ISO/IEC 11172-3 and 13818-3, 2.4.2.1 and 2.4.2.3).
use Rattle.std.specs.List.{after_first, before_first, position_or_len}
use Rattle.std.specs.Prelude.{Bool, bytes_eq, codes, drop, if◌then◌else◌, length, List, Option}
use Rattle.std.specs.Prelude.{option_and_then, option_map, Some, ℕ, [], ⊤, ◌*◌, ◌+◌, ◌/◌, ◌==◌, ◌∷◌}
use Rattle.std.specs.Prelude.{◌≤◌}
use Rattle.cue_sheet.specs.{Digits.number_in, declared.place.Place.Place}
use Rattle.cue_sheet.specs.declared.place.Place.TheVariants.{End, Frame, Time}
use Rattle.frame_header.specs.{Fields.ClassFields, Tables.{frequency_of, samples_of}}

-- ---- words

-- the byte is a dot
abbrev pub is_dot : ℕ → Bool
is_dot byte = byte == 46

-- a frame's number has one to seven digits
abbrev pub frame_number : List ℕ → Option Place
frame_number word = option_map Frame (number_in 1 7 9999999 word)

-- the hundredths after the seconds: nothing, or a dot and one or two digits
abbrev pub hundredths_of : List ℕ → Option ℕ
hundredths_of [] = Some 0
hundredths_of (dot ∷ digits) = number_in 1 2 99 digits

-- the time of this many minutes, seconds and hundredths
abbrev pub time_in : ℕ → ℕ → ℕ → Place
time_in minutes seconds hundredths = Time ((60 * minutes + seconds) * 100 + hundredths) 100

-- the seconds after the first dot, up to the next dot or the end: one or two digits of at most 59
abbrev pub seconds_in : List ℕ → Option ℕ
seconds_in rest = number_in 1 2 59 (before_first is_dot rest)

-- the hundredths after the seconds, from the second dot on
abbrev pub hundredths_in : List ℕ → Option ℕ
hundredths_in rest = hundredths_of (drop (position_or_len is_dot rest) rest)

-- the time of these minutes and what is after the first dot
unfoldable pub time_of : List ℕ → List ℕ → Option Place
time_of minutes rest =
    option_and_then (λ m. option_and_then (λ s. option_map (time_in m s) (hundredths_in rest))
    (seconds_in rest)) (number_in 1 4 9999 minutes)

-- the position that a word says: `EOF`, a number without a dot, or a time with one
unfoldable pub place_of : List ℕ → Option Place
place_of word =
    if bytes_eq word (codes "EOF") then Some End
    else if position_or_len is_dot word == length word then frame_number word
    else time_of (before_first is_dot word) (after_first is_dot word)

-- ---- frames

-- a second has 1 to 100 parts
abbrev pub IsPlace : Place → Type 0
IsPlace (Frame number) = ⊤
IsPlace (Time time parts) = (1 ≤ parts) × (parts ≤ 100)
IsPlace End = ⊤

-- the frame that a position is before: for a time, how many whole frames take no longer
unfoldable pub frame_at : ClassFields → ℕ → Place → ℕ
frame_at class frames (Frame number) = number
frame_at class frames (Time time parts) =
    (time * frequency_of class) / (parts * samples_of class.version)
frame_at class frames End = frames
