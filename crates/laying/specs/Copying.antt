-- What is copied of a surveyed input through a buffer: its blocks.
use Rattle.std.specs.{List.concat, Prelude.{Bool, false, filter, List, map, not, true, ℕ}}
use Rattle.laying.specs.{LaidFiles.block_bytes, Written.goes_in_front}
use Rattle.sync_survey.specs.{Faults.SurveyFields, declared.places.Piece.Piece}

-- the block goes before the frames, or with false it doesn't
abbrev pub is_chosen_block : Bool → SurveyFields → Piece → Bool
is_chosen_block true s p = goes_in_front s p
is_chosen_block false s p = not (goes_in_front s p)

-- the bytes of the blocks that go before the frames, or with false of the others
abbrev pub chosen_bytes : Bool → SurveyFields → List Piece → List ℕ → List ℕ
chosen_bytes in_front s blocks file =
    concat (map (block_bytes file) (filter (is_chosen_block in_front s) blocks))
