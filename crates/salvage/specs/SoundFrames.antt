-- The frames between gaps, and which of them have their main
-- data (main_data_begin, ISO/IEC 11172-3 and 13818-3, 2.4.2.7).
use Rattle.std.specs.List.{enumerate_from}
use Rattle.std.specs.Prelude.{Bool, flat_map, if◌then◌else◌, List, map, None, not, Option}
use Rattle.std.specs.Prelude.{option_to_list, slice_get, Some, suc, zero, ℕ, [], ◌&&◌, ◌++◌, ◌∷◌}
use Rattle.salvage.specs.Walk.{IsGap, IsItem, ItemOrGap, PlacedThing}
use Rattle.sync_survey.specs.{Chains.frame_of_item, Faults.{overlaps, overruns}}
use Rattle.sync_survey.specs.MainData.{end_of_data, is_silent, place, points_too_far, rows_of}
use Rattle.sync_survey.specs.{Row.Row, declared.places.{Head.Head, PlacedFrame.PlacedFrame}}

-- ---- islands of frames

-- the islands of frames: one begins with the first frame, and one after each gap
pub record FrameIslands : Type 0 where
  pub first : List PlacedFrame
  pub later : List (List PlacedFrame)

-- these islands with a thing before them: a gap ends an island, and a frame belongs to the first
abbrev pub islands_with_thing : ℕ → ItemOrGap → FrameIslands → FrameIslands
islands_with_thing at (IsItem item) islands =
    record {
      first = option_to_list (frame_of_item at item) ++ islands.first;
      later = islands.later;
    }
islands_with_thing at (IsGap n) islands =
    record { first = []; later = islands.first ∷ islands.later }

-- the islands of frames among these things
abbrev pub islands_of : List PlacedThing → FrameIslands
islands_of [] = record { first = []; later = [] }
islands_of (t ∷ ts) = islands_with_thing t.offset t.thing (islands_of ts)

-- ---- sound frames

-- The main data of a frame begin neither before all areas of its island nor before the
-- end of the main data before them, and end within its own area, given the place of
-- its own area among the areas of the island, and where the main data before it end.
abbrev pub is_sound : ℕ → ℕ → Row → Bool
is_sound place ended r =
    not (points_too_far place r) && not (overlaps place ended r) && not (overruns place r)

-- where the main data end after a frame; a frame that isn't sound, or has none, doesn't change this
abbrev pub sound_end : ℕ → ℕ → Option Row → ℕ
sound_end place ended None = ended
sound_end place ended (Some r) =
    if is_sound place ended r && not (is_silent r) then end_of_data place r else ended

-- the end of the main data of the last sound frame of an island before frame i that has any, or 0
unfoldable pub end_of_sound : Option Head → List Row → ℕ → ℕ
end_of_sound head rows zero = 0
end_of_sound head rows (suc i) =
    sound_end (place head rows i) (end_of_sound head rows i) (slice_get rows i)

-- frame i of an island, marked if it isn't sound: it becomes an empty frame
abbrev pub judged_row : Option Head → List Row → ℕ → Row → Row
judged_row head rows i r =
    record r { lost = not (is_sound (place head rows i) (end_of_sound head rows i) r) }

-- all frames of an island, judged, after the head's area if there is one
unfoldable pub judged_rows : Option Head → List Row → List Row
judged_rows head rows = map (λ (p : ℕ × Row). judged_row head rows p.0 p.1) (enumerate_from 0 rows)

-- the frames of all islands, judged
abbrev pub judged_islands : List ℕ → Option Head → FrameIslands → List Row
judged_islands file head islands = judged_rows head (rows_of file islands.first)
    ++ flat_map (λ island. judged_rows None (rows_of file island)) islands.later
