-- What the Info frame of a seamless join says besides its counts.
use Rattle.std.specs.List.{list_all}
use Rattle.std.specs.Prelude.{Bool, bytes_eq, drop, if◌then◌else◌, is_some, List, nat_le, None}
use Rattle.std.specs.Prelude.{Option, option_and_then, option_map, replicate, Some, take, ℕ, []}
use Rattle.std.specs.Prelude.{◌&&◌, ◌*◌, ◌++◌, ◌+◌, ◌-◌, ◌∷◌}
use Rattle.cut_edits.specs.Exact.{quality_of}
use Rattle.exact_span.specs.Extensions.{counts_of, extension_of}
use Rattle.exact_span.specs.PlayedPositions.{counted_positions, decoder_delay, played_of, rest_of}
use Rattle.exact_span.specs.{PlayedPositions.samples_in, declared.played.Played.Played}
use Rattle.frame_header.specs.Fields.{ClassFields}
use Rattle.info_header.specs.declared.fields.Info.{Info}
use Rattle.laying.specs.declared.info.Kept.{Kept}
use Rattle.seamless_edits.specs.Seamless.{gain_of, replay_gain}
use Rattle.seamless_edits.specs.declared.{beginnings.Beginning.Beginning, numbers.Ends.Ends}
use Rattle.seamless_edits.specs.declared.numbers.Moved.{Moved}

-- ---- delay and padding

-- the delay when lead-ins are added at the front and frames are left out there
abbrev pub delay_after : ClassFields → Moved → Played → ℕ
delay_after class moved played =
    played.start + moved.lead_ins * samples_in class - moved.left_out * samples_in class
    - decoder_delay

-- a delay, if it has 12 bits
abbrev pub short_delay : ℕ → Option ℕ
short_delay delay = if nat_le delay 4095 then Some delay else None

-- the delay, if the first head counts and the delay has 12 bits
abbrev pub counted_delay : ClassFields → Option Info → ℕ → Moved → Option ℕ
counted_delay class head frames moved =
    option_and_then (λ (p : Played). short_delay (delay_after class moved p))
    (counted_positions head class frames)

-- the padding after the last played position of an input with `frames` frames
abbrev pub ends_padding : ClassFields → Option Info → ℕ → ℕ
ends_padding class head frames = rest_of class frames (played_of head class frames) + decoder_delay

-- ---- peak and gains

-- the head counts and has these values of peak and gains
abbrev pub head_says_gain : List ℕ → Option Info → Bool
head_says_gain gain head = is_some (counts_of head) && bytes_eq (gain_of head) gain

-- all these heads count and have these values of peak and gains
abbrev pub all_say : List ℕ → List Beginning → Bool
all_say gain bs = list_all (λ (b : Beginning). head_says_gain gain b.head) bs

-- peak and gains stay only if all these heads count and have the same values
abbrev pub gains_kept : List ℕ → List Beginning → List ℕ
gains_kept extension bs =
    if all_say (replay_gain extension) bs then extension
    else take 11 extension ++ (replicate 8 0 ++ drop 19 extension)

-- ---- what is kept

-- the head of the first input, if it has one
abbrev pub first_head : List Beginning → Option Info
first_head [] = None
first_head (b ∷ bs) = b.head

-- the head of the last input, if it has one
abbrev pub last_head : List Beginning → Option Info
last_head [] = None
last_head (b ∷ []) = b.head
last_head (b ∷ c ∷ bs) = last_head (c ∷ bs)

-- what is kept, with this delay
abbrev pub kept_with_delay : List Beginning → Ends → ℕ → Kept
kept_with_delay bs ends delay = record {
  quality = quality_of (first_head bs);
  extension = gains_kept (extension_of (first_head bs) delay
      (ends_padding ends.class (last_head bs) ends.last)) (drop 1 bs);
}

-- the quality of the first head, and its extension with delay and padding, if they are written
abbrev pub splice_kept : List Beginning → Ends → Moved → Option Kept
splice_kept bs ends moved =
    option_map (kept_with_delay bs ends) (counted_delay ends.class (first_head bs) ends.first moved)
