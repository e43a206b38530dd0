-- The frames of all islands, judged in order.
use Rattle.std.proofs.Common.{ap, append_assoc, ap₂, arith, flat_map, length, length-append, List}
use Rattle.std.proofs.Common.{map, None, Option, refl, sym, ℕ, [], ◌++◌, ◌+◌, ◌∙◌, ◌∷◌, ◌≡◌}
use Rattle.std.specs.List.{enumerate_from}
use Rattle.salvage.specs.JudgedFrames.{empty_state, row_judged_in, rows_left, state_after_frame}
use Rattle.salvage.specs.JudgedFrames.{state_after_thing, thing_rows}
use Rattle.salvage.specs.SoundFrames.{end_of_sound, FrameIslands, islands_of, islands_with_thing}
use Rattle.salvage.specs.SoundFrames.{judged_islands, judged_row, judged_rows, sound_end}
use Rattle.salvage.specs.Walk.{ItemOrGap, PlacedThing}
use Rattle.sync_survey.proofs.FaultsLemmas.{IsRuled, place-more, place-next, place-none, ruled}
use Rattle.sync_survey.specs.{MainData.{head_area, place, rows_of}, Row.Row}
use Rattle.sync_survey.specs.declared.places.{Head.Head, PlacedFrame.PlacedFrame}
use Rattle.sync_survey.specs.declared.rows.ReservoirState.{ReservoirState}

-- ---- one island

-- the rows marked in order
abbrev pub judged_from : ReservoirState → List Row → List Row
judged_from b [] = []
judged_from b (r ∷ rows) = row_judged_in b r ∷ judged_from (state_after_frame b r) rows

module _ (head : Option Head) where
  sound_ends : IsRuled head sound_end (end_of_sound head)
  unfolding end_of_sound
  sound_ends = ruled head sound_end (λ rows. refl) (λ rows i. refl)

  -- the main data before the frame after these
  abbrev behind : List Row → ReservoirState
  behind rows =
      record { place = place head rows (length rows); ended = end_of_sound head rows (length rows) }

  behind-next : (rows : List Row) (r : Row)
      → state_after_frame (behind rows) r ≡ behind (rows ++ r ∷ [])
  behind-next rows r = grind (arith, place-next head rows r, sound_ends.next)

  row-next : (rows rest : List Row) (r : Row)
      → judged_row head (rows ++ r ∷ rest) (length rows) r ≡ row_judged_in (behind rows) r
  row-next rows rest r =
      grind
      (arith, place-more head rows (r ∷ rest) {i = length rows} (omega arith), sound_ends.more)

  judged_rest : (rows rest : List Row) → map (λ (p : ℕ × Row). judged_row head
      (rows ++ rest) p.0 p.1) (enumerate_from (length rows) rest) ≡ judged_from (behind rows) rest
  judged_rest rows [] = refl
  judged_rest rows (r ∷ rest) =
      let one : length rows + 1 ≡ length (rows ++ r ∷ []) =
      omega (arith, length-append rows (r ∷ [])) in
      ap₂ (λ (q : Row) (l : List Row). q ∷ l) (row-next rows rest r)
      (ap₂ (λ (l : List Row) n. map (λ (p : ℕ × Row). judged_row head l p.0 p.1)
      (enumerate_from n rest)) (sym (append_assoc rows (r ∷ []) rest)) one
      ∙ judged_rest (rows ++ r ∷ []) rest
      ∙ ap (λ b. judged_from b rest) (sym (behind-next rows r)))

  behind-none : behind [] ≡ record { place = head_area head; ended = 0 }
  unfolding end_of_sound
  behind-none = ap (λ n. record { place = n; ended = 0 }) (sym (place-none head))

  -- the first frame is judged with the place after the head's area
  pub judged_rows-from : (rows : List Row)
      → judged_rows head rows ≡ judged_from (record { place = head_area head; ended = 0 }) rows
  unfolding judged_rows
  judged_rows-from rows = judged_rest [] rows ∙ ap (λ b. judged_from b rows) behind-none

-- ---- all islands

abbrev islands_from : List ℕ → ReservoirState → FrameIslands → List Row
islands_from file b islands = judged_from b (rows_of file islands.first)
    ++ flat_map (λ island. judged_from empty_state (rows_of file island)) islands.later

later_same : (file : List ℕ) (later : List (List PlacedFrame))
    → flat_map (λ island. judged_rows None (rows_of file island)) later
    ≡ flat_map (λ island. judged_from empty_state (rows_of file island)) later
later_same file [] = refl
later_same file (island ∷ later) = grind (arith, judged_rows-from, later_same file later)

islands-from : (file : List ℕ) (head : Option Head) (islands : FrameIslands)
    → judged_islands file head islands
    ≡ islands_from file (record { place = head_area head; ended = 0 }) islands
islands-from file head islands = grind (arith, judged_rows-from, later_same)

-- one more thing before the others
thing_first : (file : List ℕ) (b : ReservoirState) (at : ℕ) (thing : ItemOrGap)
    (islands : FrameIslands) → islands_from file b (islands_with_thing at thing islands)
    ≡ thing_rows file b at thing ++ islands_from file (state_after_thing file b at thing) islands
thing_first file b at thing islands = grind arith

all_things : (file : List ℕ) (b : ReservoirState) (ts : List PlacedThing)
    → islands_from file b (islands_of ts) ≡ rows_left file b ts
all_things file b [] = refl
all_things file b (t ∷ ts) =
    grind (arith, thing_first, all_things file (state_after_thing file b t.offset t.thing) ts)

-- the frames of all islands are the frames that are met, in order
pub islands-left : (file : List ℕ) (head : Option Head) (ts : List PlacedThing)
    → judged_islands file head (islands_of ts)
    ≡ rows_left file (record { place = head_area head; ended = 0 }) ts
islands-left file head ts = grind (arith, islands-from, all_things)
