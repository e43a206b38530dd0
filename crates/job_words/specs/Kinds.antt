-- What a single word can be, and what it says.
use Rattle.std.specs.Prelude.{Bool, bytes_eq, codes, false, if◌then◌else◌, is_some, List, None, not}
use Rattle.std.specs.Prelude.{Option, option_and_then, option_map, pos, slice_index_or, Some, ℕ, ℤ}
use Rattle.std.specs.Prelude.{[], ◌==◌, ◌∷◌}
use Rattle.cue_sheet.specs.{Digits.{number_in, steps_in}, Places.place_of}
use Rattle.cue_sheet.specs.declared.place.Place.{Place as StreamPlace, TheVariants.End}
use Rattle.exact_span.specs.{Places.exact_place_of, declared.exact_place.ExactPlace.ExactPlace}
use Rattle.exact_span.specs.declared.exact_place.ExactPlace.TheVariants.{Place as OfPosition}
use Rattle.requests.specs.declared.shift.Channels.{Channels, TheVariants.{Both, Left, Right}}

-- what a word of a form is
pub data Kind : Type 0 where
  -- this word
  Fixed : List ℕ → Kind
  -- the name of a file
  Name : Kind
  -- a number of steps
  Steps : Kind
  -- a channel: `0` is the left one, `1` the right one
  Channel : Kind
  -- a position
  Place : Kind
  -- a place among the samples
  Exact : Kind
  -- a bit rate in kbit/s
  Rate : Kind
  -- the seed of a stream
  Seed : Kind
  -- the number of frames of that stream
  Count : Kind

-- a name isn't empty, and doesn't begin with `-`
abbrev pub is_name : List ℕ → Bool
is_name [] = false
is_name (first ∷ rest) = not (first == 45)

-- `0` is the left channel and `1` the right one
abbrev pub channel_of : List ℕ → Option Channels
channel_of word = if bytes_eq word (codes "0") then Some Left else if bytes_eq word (codes "1")
    then Some Right else None

-- one to three digits
abbrev pub rate_in : List ℕ → Option ℕ
rate_in digits = number_in 1 3 999 digits

-- one to ten digits, of a number below 2 ^ 31
abbrev pub seed_in : List ℕ → Option ℕ
seed_in digits = number_in 1 10 2147483647 digits

-- one to five digits, of a number from 1 to 20,000
abbrev pub count_in : List ℕ → Option ℕ
count_in digits =
    option_and_then (λ count. if count == 0 then None else Some count) (number_in 1 5 20000 digits)

-- what a word says
pub data Said : Type 0 where
  -- nothing more than the word itself
  Itself : Said
  -- a name
  NameSaid : List ℕ → Said
  -- a number of steps
  StepsSaid : ℤ → Said
  -- a channel
  ChannelSaid : Channels → Said
  -- a position
  PlaceSaid : StreamPlace → Said
  -- a place among the samples
  ExactSaid : ExactPlace → Said
  -- a bit rate in kbit/s
  RateSaid : ℕ → Said
  -- a seed
  SeedSaid : ℕ → Said
  -- a number of frames
  CountSaid : ℕ → Said

-- what a word of the kind says; none for a word that isn't of the kind
abbrev pub word_value : Kind → List ℕ → Option Said
word_value (Fixed text) word = if bytes_eq word text then Some Itself else None
word_value Name word = if is_name word then Some (NameSaid word) else None
word_value Steps word = option_map StepsSaid (steps_in word)
word_value Channel word = option_map ChannelSaid (channel_of word)
word_value Place word = option_map PlaceSaid (place_of word)
word_value Exact word = option_map ExactSaid (exact_place_of word)
word_value Rate word = option_map RateSaid (rate_in word)
word_value Seed word = option_map SeedSaid (seed_in word)
word_value Count word = option_map CountSaid (count_in word)

-- the word is of the kind
abbrev pub fits_kind : Kind → List ℕ → Bool
fits_kind kind word = is_some (word_value kind word)

-- the name that a value says; empty where it says something else
abbrev pub name_said : Said → List ℕ
name_said (NameSaid name) = name
name_said _ = []

-- the steps that a value says, otherwise 0
abbrev pub steps_said : Said → ℤ
steps_said (StepsSaid steps) = steps
steps_said _ = pos 0

-- the channel that a value says, otherwise both
abbrev pub channel_said : Said → Channels
channel_said (ChannelSaid channel) = channel
channel_said _ = Both

-- the position that a value says, otherwise the end
abbrev pub place_said : Said → StreamPlace
place_said (PlaceSaid place) = place
place_said _ = End

-- the place among the samples that a value says, otherwise the end
abbrev pub exact_said : Said → ExactPlace
exact_said (ExactSaid place) = place
exact_said _ = OfPosition End

-- the bit rate that a value says, otherwise 0
abbrev pub rate_said : Said → ℕ
rate_said (RateSaid rate) = rate
rate_said _ = 0

-- the seed that a value says, otherwise 0
abbrev pub seed_said : Said → ℕ
seed_said (SeedSaid seed) = seed
seed_said _ = 0

-- the number of frames that a value says, otherwise 1
abbrev pub count_said : Said → ℕ
count_said (CountSaid count) = count
count_said _ = 1

-- one value before the values that follow it, where there is one
abbrev pub said_first : Option Said → List Said → List Said
said_first None rest = []
said_first (Some value) rest = value ∷ rest

-- what the first words say, up to the first that isn't of its kind
abbrev pub values_of : List Kind → List (List ℕ) → List Said
values_of (kind ∷ kinds) (word ∷ words) = said_first (word_value kind word) (values_of kinds words)
values_of kinds words = []

-- the value at a place of the list, counted from 0
abbrev pub said_at : List Said → ℕ → Said
said_at values place = slice_index_or values place Itself

-- the name at a place of the list, counted from 0
abbrev pub name_at : List Said → ℕ → List ℕ
name_at values place = name_said (said_at values place)
