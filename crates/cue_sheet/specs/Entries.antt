-- What a line of a cue sheet says by its words, regardless of the lines before it.
use Rattle.std.specs.List.{after_first, before_first}
use Rattle.std.specs.Prelude.{Bool, codes, false, if◌then◌else◌, List, nat_le, None, Option}
use Rattle.std.specs.Prelude.{option_and_then, option_map, Some, ℕ, [], ◌&&◌, ◌*◌, ◌+◌, ◌==◌, ◌∷◌}
use Rattle.std.specs.Str.{str_eq_ignore_ascii_case}
use Rattle.cue_sheet.specs.{Digits.number_in, declared.entry.CueEntry.CueEntry}
use Rattle.cue_sheet.specs.declared.entry.CueEntry.TheVariants.{Broken, File, Index, Passed, Start}
use Rattle.cue_sheet.specs.declared.entry.CueEntry.TheVariants.{Track}

-- keywords are compared ignoring ASCII case
unfoldable pub is_word : List ℕ → List ℕ → Bool
is_word word keyword = str_eq_ignore_ascii_case word keyword

-- what two words say; fewer or more words break the rule
abbrev pub two_word_entry : (List ℕ → List ℕ → CueEntry) → List (List ℕ) → CueEntry
two_word_entry says [] = Broken
two_word_entry says (first ∷ []) = Broken
two_word_entry says (first ∷ second ∷ []) = says first second
two_word_entry says (first ∷ second ∷ third ∷ more) = Broken

-- ---- TRACK

-- there is a number, and it isn't 0
abbrev pub is_from_one : Option ℕ → Bool
is_from_one None = false
is_from_one (Some number) = nat_le 1 number

-- one or two digits that spell a number from 1 to 99
abbrev pub is_track_number : List ℕ → Bool
is_track_number digits = is_from_one (number_in 1 2 99 digits)

-- a TRACK line has a number and the word AUDIO
abbrev pub track_of : List ℕ → List ℕ → CueEntry
track_of number kind =
    if is_track_number number && is_word kind (codes "AUDIO") then Track else Broken

-- ---- INDEX

-- the byte is a colon
abbrev pub is_colon : ℕ → Bool
is_colon byte = byte == 58

-- minutes, seconds and frames of a disc, in frames; a second has 75 of them
abbrev pub disc_frames : ℕ → ℕ → ℕ → ℕ
disc_frames minutes seconds frames = (60 * minutes + seconds) * 75 + frames

-- minutes are two to four digits before the first colon
abbrev pub disc_minutes_in : List ℕ → Option ℕ
disc_minutes_in word = number_in 2 4 9999 (before_first is_colon word)

-- seconds are two digits of at most 59 after it
abbrev pub disc_seconds_in : List ℕ → Option ℕ
disc_seconds_in word = number_in 2 2 59 (before_first is_colon (after_first is_colon word))

-- frames are two digits of at most 74 after the second colon
abbrev pub disc_frames_in : List ℕ → Option ℕ
disc_frames_in word = number_in 2 2 74 (after_first is_colon (after_first is_colon word))

-- a time in frames of a disc: minutes, seconds and frames
unfoldable pub sheet_time : List ℕ → Option ℕ
sheet_time word = option_and_then (λ m. option_and_then (λ s. option_map (disc_frames m s)
    (disc_frames_in word)) (disc_seconds_in word)) (disc_minutes_in word)

-- an INDEX line, which is a start if its number is 1
abbrev pub index_entry : Option ℕ → Option ℕ → CueEntry
index_entry None time = Broken
index_entry (Some number) None = Broken
index_entry (Some number) (Some time) = if number == 1 then Start time else Index

-- an INDEX line has a number of one or two digits, and a time
abbrev pub index_of : List ℕ → List ℕ → CueEntry
index_of number time = index_entry (number_in 1 2 99 number) (sheet_time time)

-- ---- lines

-- what a line says, by its first word
unfoldable pub cue_entry_of : List (List ℕ) → CueEntry
cue_entry_of [] = Passed
cue_entry_of (first ∷ rest) =
    if is_word first (codes "FILE") then File
    else if is_word first (codes "TRACK") then two_word_entry track_of rest
    else if is_word first (codes "INDEX") then two_word_entry index_of rest
    else Passed
