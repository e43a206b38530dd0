-- Places of samples, and the words that say them: the positions of mp3splt, samples (digits and
-- `samples`), times with thousandths of a second, seconds as in ffmpeg (a decimal number and `s`),
-- and times before the end as in mp3splt (`EOF-`).
use Rattle.std.specs.{List.{after_first, before_first, position_or_len}, Option.option_or}
use Rattle.std.specs.Prelude.{bytes_eq, codes, drop, if◌then◌else◌, length, List, None, Option}
use Rattle.std.specs.Prelude.{option_and_then, option_map, slice_index, Some, take, ℕ, [], ⊤, ◌*◌}
use Rattle.std.specs.Prelude.{◌+◌, ◌-◌, ◌/◌, ◌==◌, ◌∷◌}
use Rattle.cue_sheet.specs.{Digits.number_in, Places.{frame_at, is_dot, IsPlace, place_of}}
use Rattle.cue_sheet.specs.declared.place.Place.{Place as Position, TheVariants.{End, Frame, Time}}
use Rattle.exact_span.specs.declared.exact_place.ExactPlace.{ExactPlace}
use Rattle.exact_span.specs.declared.exact_place.ExactPlace.TheVariants.{Back, Millis, Place}
use Rattle.exact_span.specs.declared.exact_place.ExactPlace.TheVariants.{Sample}
use Rattle.frame_header.specs.{Fields.ClassFields, Tables.{frequency_of, samples_of}}

-- ---- minutes and seconds, with a dot between them

-- minutes are one to four digits before the first dot
abbrev pub clock_minutes_in : List ℕ → Option ℕ
clock_minutes_in word = number_in 1 4 9999 (before_first is_dot word)

-- seconds are one or two digits of at most 59 after it, up to the next dot or the end
abbrev pub clock_seconds_in : List ℕ → Option ℕ
clock_seconds_in word = number_in 1 2 59 (before_first is_dot (after_first is_dot word))

-- minutes and seconds, in seconds
abbrev pub whole_seconds : ℕ → ℕ → ℕ
whole_seconds minutes seconds = 60 * minutes + seconds

-- minutes and seconds, together in seconds
unfoldable pub clock_of : List ℕ → Option ℕ
clock_of word =
    option_and_then (λ m. option_map (whole_seconds m) (clock_seconds_in word))
    (clock_minutes_in word)

-- what is after the seconds: nothing, or the second dot and what follows it
abbrev pub seconds_tail : List ℕ → List ℕ
seconds_tail word = let rest = after_first is_dot word in drop (position_or_len is_dot rest) rest

-- ---- thousandths of a second

-- seconds and thousandths, in thousandths
abbrev pub total_millis : ℕ → ℕ → ℕ
total_millis seconds thousandths = seconds * 1000 + thousandths

-- a dot and three digits
abbrev pub thousandths_of : List ℕ → Option ℕ
thousandths_of [] = None
thousandths_of (dot ∷ digits) = number_in 3 3 999 digits

-- hundredths as thousandths
abbrev pub thousandths_in_hundredths : ℕ → ℕ
thousandths_in_hundredths hundredths = 10 * hundredths

-- nothing, or a dot and two or three digits: hundredths or thousandths
abbrev pub fraction_of : List ℕ → Option ℕ
fraction_of [] = Some 0
fraction_of (dot ∷ digits) =
    if length digits == 2 then option_map thousandths_in_hundredths (number_in 2 2 99 digits)
    else number_in 3 3 999 digits

-- tenths as thousandths
abbrev pub thousandths_in_tenths : ℕ → ℕ
thousandths_in_tenths tenths = 100 * tenths

-- nothing, or a dot and one to three digits: a decimal fraction
abbrev pub decimals_of : List ℕ → Option ℕ
decimals_of [] = Some 0
decimals_of (dot ∷ digits) =
    if length digits == 1 then option_map thousandths_in_tenths (number_in 1 1 9 digits)
    else fraction_of (dot ∷ digits)

-- minutes, seconds and thousandths, in thousandths
unfoldable pub millis_of : List ℕ → Option ℕ
millis_of word =
    option_and_then (λ s. option_map (total_millis s) (thousandths_of (seconds_tail word)))
    (clock_of word)

-- minutes, seconds, and hundredths or thousandths or neither, in thousandths
unfoldable pub fine_millis_of : List ℕ → Option ℕ
fine_millis_of word =
    option_and_then (λ s. option_map (total_millis s) (fraction_of (seconds_tail word)))
    (clock_of word)

-- ---- seconds alone

-- one to six digits, up to the first dot or the end
abbrev pub lone_seconds_in : List ℕ → Option ℕ
lone_seconds_in number = number_in 1 6 999999 (before_first is_dot number)

-- the decimal fraction from the first dot on
abbrev pub decimals_in : List ℕ → Option ℕ
decimals_in number = decimals_of (drop (position_or_len is_dot number) number)

-- a decimal number of seconds, in thousandths
unfoldable pub decimal_millis_of : List ℕ → Option ℕ
decimal_millis_of number =
    option_and_then (λ s. option_map (total_millis s) (decimals_in number)) (lone_seconds_in number)

-- such a number, and then `s`
unfoldable pub lone_seconds_of : List ℕ → Option ℕ
lone_seconds_of word =
    if slice_index word (length word - 1) == 115
    then decimal_millis_of (take (length word - 1) word) else None

-- ---- words

-- the number of a sample: one to ten digits, up to 4,294,967,295, and then `samples`
unfoldable pub sample_of : List ℕ → Option ℕ
sample_of word =
    if bytes_eq (drop (length word - 7) word) (codes "samples")
    then number_in 1 10 4294967295 (take (length word - 7) word) else None

-- a time after the first sample, in thousandths: minutes, seconds and thousandths, or seconds alone
unfoldable pub instant_of : List ℕ → Option ℕ
instant_of word = option_or (millis_of word) (lone_seconds_of word)

-- how long before the end, in thousandths: minutes, seconds, and hundredths or thousandths or
-- neither, or seconds alone
unfoldable pub interval_of : List ℕ → Option ℕ
interval_of word = option_or (fine_millis_of word) (lone_seconds_of word)

-- a time before the end: `EOF-` and how long
unfoldable pub back_of : List ℕ → Option ℕ
back_of word = if bytes_eq (take 4 word) (codes "EOF-") then interval_of (drop 4 word) else None

-- the place that a word says, in one of these forms
unfoldable pub exact_place_of : List ℕ → Option ExactPlace
exact_place_of word =
    option_or (option_map Place (place_of word)) (option_or (option_map Sample (sample_of word))
    (option_or (option_map Millis (instant_of word)) (option_map Back (back_of word))))

-- ---- samples

-- a place that is a position has 1 to 100 parts in a second
abbrev pub IsExactPlace : ExactPlace → Type 0
IsExactPlace (Place position) = IsPlace position
IsExactPlace (Sample number) = ⊤
IsExactPlace (Millis time) = ⊤
IsExactPlace (Back time) = ⊤

-- how many whole samples take no longer than `time` parts of a second
abbrev pub samples_until : ClassFields → ℕ → ℕ → ℕ
samples_until class time parts = time * frequency_of class / parts

-- the sample of a position; the number of a frame is the time of that many frames
abbrev pub sample_of_position : ClassFields → ℕ → Position → ℕ
sample_of_position class length (Frame number) = number * samples_of class.version
sample_of_position class length (Time time parts) = samples_until class time parts
sample_of_position class length End = length

-- the sample that a place names, in a file that plays `length` samples; a time before the start is
-- the start
unfoldable pub sample_at : ClassFields → ℕ → ExactPlace → ℕ
sample_at class length (Place position) = sample_of_position class length position
sample_at class length (Sample number) = number
sample_at class length (Millis time) = samples_until class time 1000
sample_at class length (Back time) = length - samples_until class time 1000

-- ---- frames

-- how many whole frames take no longer than `time` thousandths of a second
abbrev pub frames_until : ClassFields → ℕ → ℕ
frames_until class time = time * frequency_of class / (1000 * samples_of class.version)

-- The frame that a place names in a file of `frames` frames, counted from the first frame as
-- positions are: the frame that a position is before, the frame in which a sample or a moment is,
-- or as many whole frames before the end as a time takes; a time before the start is the first
-- frame.
unfoldable pub exact_frame_at : ClassFields → ℕ → ExactPlace → ℕ
exact_frame_at class frames (Place position) = frame_at class frames position
exact_frame_at class frames (Sample number) = number / samples_of class.version
exact_frame_at class frames (Millis time) = frames_until class time
exact_frame_at class frames (Back time) = frames - frames_until class time
