-- The stream of what is read of a damaged file.
use Rattle.std.specs.Prelude.{flat_map, List, None, Option, Some, ℕ, [], ◌++◌}
use Rattle.salvage.specs.DamagedFiles.{things_from}
use Rattle.salvage.specs.{SoundFrames.{FrameIslands, islands_of, judged_rows}, Walk.first_frame}
use Rattle.sync_survey.specs.{MainData.{main_bytes, rows_of, stream_frames, StreamFrame}, Row.Row}
use Rattle.sync_survey.specs.{Start.front_end_of, Walk.head_of, declared.places.Head.Head}
use Rattle.sync_survey.specs.declared.places.PlacedFrame.{PlacedFrame}

-- The frames of an island, with the main data that are in its areas: each sound frame as it is, and
-- every other one as an empty frame, whose side fields are all 0 and which has no main data.
abbrev pub island_stream : List ℕ → Option Head → List Row → List StreamFrame
island_stream file head rows = stream_frames (main_bytes file head rows) head rows

-- the frames of all islands; the head's area counts in the first
abbrev pub islands_stream : List ℕ → Option Head → FrameIslands → List StreamFrame
islands_stream file head islands =
    island_stream file head (judged_rows head (rows_of file islands.first))
    ++ flat_map (λ island. island_stream file None (judged_rows None (rows_of file island)))
    islands.later

-- the stream from this first frame on; without a first frame it is empty
abbrev pub stream_from : List ℕ → Option PlacedFrame → List StreamFrame
stream_from file None = []
stream_from file (Some first) =
    islands_stream file (head_of file first) (islands_of (things_from file first))

-- the stream of what is read of a file
unfoldable pub salvaged_stream : List ℕ → List StreamFrame
salvaged_stream file = stream_from file (first_frame file (front_end_of file))
