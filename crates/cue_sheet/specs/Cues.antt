-- The starts of the tracks in a cue sheet, and the first fault of its lines. Cue sheets have no
-- standard; what is read of them is this project's rule.
use Rattle.std.specs.List.{All, AllPairs, count_by, filter_map, last_or, list_any}
use Rattle.std.specs.Option.{option_or}
use Rattle.std.specs.Prelude.{Bool, Err, false, find, if◌then◌else◌, length, List, map, nat_le}
use Rattle.std.specs.Prelude.{nat_lt, None, not, Ok, Option, Result, reverse, Some, true, ℕ, []}
use Rattle.std.specs.Prelude.{◌++◌, ◌+◌, ◌<◌, ◌||◌, ◌∷◌, ◌≡◌}
use Rattle.cue_sheet.specs.{Entries.cue_entry_of, Lines.{lines_from, lines_of, words_of}}
use Rattle.cue_sheet.specs.{Places.IsPlace, declared.cue_fault.CueFault.CueFault}
use Rattle.cue_sheet.specs.declared.cue_fault.CueFault.TheVariants.{Line, NoTracks, NotRising}
use Rattle.cue_sheet.specs.declared.entry.CueEntry.{CueEntry}
use Rattle.cue_sheet.specs.declared.entry.CueEntry.TheVariants.{Broken, File, Index, Passed, Start}
use Rattle.cue_sheet.specs.declared.{entry.CueEntry.TheVariants.Track, place.Place.Place}
use Rattle.cue_sheet.specs.declared.place.Place.TheVariants.{Time}
use Rattle.cue_sheet.specs.declared.sheet_state.SheetState.{SheetState}

-- ---- lines

-- the line is a FILE line
abbrev pub is_file : CueEntry → Bool
is_file File = true
is_file _ = false

-- the line is a TRACK line
abbrev pub is_track : CueEntry → Bool
is_track Track = true
is_track _ = false

-- the time of a start, an index with number 1
abbrev pub start_time : CueEntry → Option ℕ
start_time (Start time) = Some time
start_time _ = None

-- the line is a start
abbrev pub is_start : CueEntry → Bool
is_start (Start time) = true
is_start _ = false

-- what a line says
abbrev pub cue_entry_in : List ℕ → CueEntry
cue_entry_in line = cue_entry_of (words_of line)

-- what each line of a sheet says
abbrev pub cue_entries_of : List ℕ → List CueEntry
cue_entries_of bytes = map cue_entry_in (lines_of bytes)

-- ---- what is before a line

-- there is a TRACK line among these
abbrev pub has_track : List CueEntry → Bool
has_track before = nat_le 1 (count_by is_track before)

-- there is an entry, and it is a start
abbrev pub is_start_there : Option CueEntry → Bool
is_start_there None = false
is_start_there (Some entry) = is_start entry

-- the current track has a start: the last of the TRACK lines and the starts so far is a start
abbrev pub is_started : List CueEntry → Bool
is_started before =
    is_start_there (find (λ entry. is_track entry || is_start entry) (reverse before))

-- the times of the starts
abbrev pub times_of : List CueEntry → List ℕ
times_of entries = filter_map start_time entries

-- a start is later than the one before it
abbrev pub is_later_start : Option ℕ → ℕ → Bool
is_later_start None time = true
is_later_start (Some last) time = nat_lt last time

-- what the lines so far say together
pub record IsSheetState (before : List CueEntry) (seen : SheetState) : Type 0 where
  pub lines : seen.lines ≡ length before
  pub file : seen.file ≡ list_any is_file before
  pub tracks : seen.tracks ≡ count_by is_track before
  pub started : seen.started ≡ is_started before
  pub last : seen.last ≡ last_or None (times_of before)

-- ---- faults

-- the fault of a line with this number, if it has one
abbrev pub line_fault : Bool → ℕ → Option CueFault
line_fault is line = if is then Some (Line line) else None

-- The fault of a line with this number after others. FILE may be there at most once, TRACK at most
-- 99 times; INDEX has to be after a TRACK line, with number 1 at most once in a track; a start has
-- to be later than the one before it.
abbrev pub fault_in : ℕ → List CueEntry → CueEntry → Option CueFault
fault_in line before Passed = None
fault_in line before File = line_fault (list_any is_file before) line
fault_in line before Track = line_fault (nat_le 99 (count_by is_track before)) line
fault_in line before Index = line_fault (not (has_track before)) line
fault_in line before (Start time) =
    if not (has_track before) || is_started before then Some (Line line)
    else if is_later_start (last_or None (times_of before)) time then None
    else Some (NotRising line)
fault_in line before Broken = Some (Line line)

-- the fault of a line after others; lines are counted from 1
unfoldable pub cue_fault_of : List CueEntry → CueEntry → Option CueFault
cue_fault_of before entry = fault_in (length before + 1) before entry

-- the first fault of lines after others
unfoldable pub first_cue_fault : List CueEntry → List CueEntry → Option CueFault
first_cue_fault before [] = None
first_cue_fault before (entry ∷ more) =
    option_or (cue_fault_of before entry) (first_cue_fault (before ++ (entry ∷ [])) more)

-- ---- the cue

-- a start as a position, in parts of 1/75 second
abbrev pub place_at : ℕ → Place
place_at time = Time time 75

-- the starts as positions
abbrev pub places_of : List CueEntry → List Place
places_of entries = map place_at (times_of entries)

-- a sheet has to have a start
abbrev pub some_starts : List Place → Result (List Place) CueFault
some_starts [] = Err NoTracks
some_starts (place ∷ more) = Ok (place ∷ more)

-- the result, unless there is a fault
abbrev pub fault_or_cue : Option CueFault → Result (List Place) CueFault
    → Result (List Place) CueFault
fault_or_cue None answer = answer
fault_or_cue (Some fault) answer = Err fault

-- the starts that lines say, or the first fault
abbrev pub cue_in : List CueEntry → Result (List Place) CueFault
cue_in entries = fault_or_cue (first_cue_fault [] entries) (some_starts (places_of entries))

-- the starts of the tracks, or the first fault
unfoldable pub cue_of : List ℕ → Result (List Place) CueFault
cue_of bytes = cue_in (cue_entries_of bytes)

-- each time is later than the ones before it
abbrev pub IsRising : List ℕ → Type 0
IsRising times = AllPairs (λ s t. s < t) times

-- positions at times that rise
pub record AreStarts (places : List Place) : Type 0 where
  pub times : List ℕ
  pub all : places ≡ map place_at times
  pub rising : IsRising times
  pub sound : All IsPlace places

-- ---- the lines from a place on

-- what the lines say from a place on at which a line begins; none past the end
abbrev pub cue_entries_from : List ℕ → ℕ → List CueEntry
cue_entries_from text at = map cue_entry_in (lines_from text at)
