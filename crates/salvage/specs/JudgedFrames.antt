-- What is kept of an item or a gap after what was kept before.
use Rattle.std.specs.Prelude.{drop, length, List, not, option_to_list, Some, ℕ, [], ◌++◌, ◌+◌, ◌-◌}
use Rattle.std.specs.Prelude.{◌∷◌, ◌≡◌}
use Rattle.salvage.specs.{DamagedFiles.most_frames, SoundFrames.{is_sound, sound_end}}
use Rattle.salvage.specs.Walk.{IsGap, IsItem, ItemOrGap, PlacedThing}
use Rattle.salvage.specs.declared.{found.DamagedSoFar.DamagedSoFar, gap.Gap.Gap}
use Rattle.sync_survey.specs.{Chains.block_of_item, MainData.{own_area, row_in}, Row.Row}
use Rattle.sync_survey.specs.declared.{items.Item.{Item, TheVariants.Frame}, places.Piece.Piece}
use Rattle.sync_survey.specs.declared.rows.ReservoirState.{ReservoirState}
use Rattle.sync_survey.specs.declared.survey_fault.SurveyFault.{SurveyFault}
use Rattle.sync_survey.specs.declared.survey_fault.SurveyFault.TheVariants.{TooManyFrames}

-- a frame, marked if it isn't sound given the areas before it
abbrev pub row_judged_in : ReservoirState → Row → Row
row_judged_in b r = record r { lost = not (is_sound b.place b.ended r) }

-- the areas before the next frame
abbrev pub state_after_frame : ReservoirState → Row → ReservoirState
state_after_frame b r =
    record { place = b.place + own_area r.header; ended = sound_end b.place b.ended (Some r) }

-- the areas before the first frame after a gap: none
abbrev pub empty_state : ReservoirState
empty_state = record { place = 0; ended = 0 }

-- the row of an item at an offset, given the bytes from there on
abbrev pub item_rows : ReservoirState → ℕ → List ℕ → Item → List Row
item_rows b at bytes (Frame h) = row_judged_in b (row_in at h bytes) ∷ []
item_rows b at bytes item = []

-- the areas before what follows an item
abbrev pub state_after_item : ReservoirState → ℕ → List ℕ → Item → ReservoirState
state_after_item b at bytes (Frame h) = state_after_frame b (row_in at h bytes)
state_after_item b at bytes item = b

-- ---- what a walk has left

-- the row of a thing
abbrev pub thing_rows : List ℕ → ReservoirState → ℕ → ItemOrGap → List Row
thing_rows file b at (IsItem item) = item_rows b at (drop at file) item
thing_rows file b at (IsGap n) = []

-- the areas before what follows a thing
abbrev pub state_after_thing : List ℕ → ReservoirState → ℕ → ItemOrGap → ReservoirState
state_after_thing file b at (IsItem item) = state_after_item b at (drop at file) item
state_after_thing file b at (IsGap n) = empty_state

-- the rows of these things, given the areas before the first of them
abbrev pub rows_left : List ℕ → ReservoirState → List PlacedThing → List Row
rows_left file b [] = []
rows_left file b (t ∷ ts) =
    thing_rows file b t.offset t.thing
    ++ rows_left file (state_after_thing file b t.offset t.thing) ts

-- ---- what is kept

-- these rows, blocks and gaps are kept after the others
pub record AddsFound (found_rows : List Row) (found_blocks : List Piece) (found_gaps : List Gap)
    (main : ReservoirState) (to : ℕ) (old new : DamagedSoFar) : Type 0 where
  pub rows : new.rows.items ≡ old.rows.items ++ found_rows
  pub pieces : new.pieces.items ≡ old.pieces.items ++ found_blocks
  pub gaps : new.gaps.items ≡ old.gaps.items ++ found_gaps
  pub before : new.before ≡ main
  pub at : new.at ≡ to

-- the item at the offset that was reached is kept, given the bytes from there on, and reading moves
-- on by `size` bytes
abbrev pub AddsItem : Item → ℕ → List ℕ → DamagedSoFar → DamagedSoFar → Type 0
AddsItem item size bytes old new =
    AddsFound (item_rows old.before old.at bytes item)
    (option_to_list (block_of_item old.at item)) []
    (state_after_item old.before old.at bytes item) (old.at + size) old new

-- a gap from the offset that was reached to another is kept
abbrev pub AddsGap : ℕ → DamagedSoFar → DamagedSoFar → Type 0
AddsGap to old new =
    AddsFound [] [] (record { offset = old.at; length = to - old.at } ∷ []) empty_state to old new

-- the frame at the offset that was reached is the first past the number that a file may have
abbrev pub IsPastMost : Item → DamagedSoFar → SurveyFault → Type 0
IsPastMost (Frame h) old fault =
    (fault ≡ TooManyFrames old.at) × (length old.rows.items ≡ most_frames)
IsPastMost item old fault = ⊥
