-- The main data of the frames that are kept are where
-- they may be among the main data of all islands.
use Rattle.std.proofs.Common.{ap₂, arith, Bool, cond, false, length, List, not, Option, refl, true}
use Rattle.std.proofs.Common.{ℕ, [], ◌&&◌, ◌++◌, ◌+◌, ◌||◌, ◌∙◌, ◌∷◌, ◌≡◌, ◌≤◌}
use Rattle.std.proofs.lemmas.Bool.{and_parts, le-ltb, ltb-false, not-false, not-true}
use Rattle.salvage.specs.JudgedFrames.{empty_state, row_judged_in, state_after_frame}
use Rattle.salvage.specs.KeptFrames.{AreKeptTo, AreKeptWell, end_of_kept, IsKeptWell, kept_end}
use Rattle.salvage.specs.SoundFrames.{is_sound}
use Rattle.sync_survey.proofs.ApartLemmas.{Stands}
use Rattle.sync_survey.proofs.FaultsLemmas.{each_push, IsRuled, place-more, place-next, place-none}
use Rattle.sync_survey.proofs.FaultsLemmas.{ruled}
use Rattle.sync_survey.specs.MainData.{end_of_data, head_area, is_silent, own_area, place}
use Rattle.sync_survey.specs.{Row.Row, declared.places.Head.Head}
use Rattle.sync_survey.specs.declared.rows.ReservoirState.{ReservoirState}

-- ---- a sound frame, by numbers

-- the main data of a sound frame begin after those before them, and end within its own area
pub sound_within : {place ended : ℕ} {r : Row} → is_sound place ended r ≡ true
    → Stands place ended r
sound_within is = grind (arith, and_parts, ltb-false, not-true)

within_sound : {place ended : ℕ} {r : Row} → Stands place ended r → is_sound place ended r ≡ true
within_sound is = grind (arith, le-ltb)

-- ---- one more frame

module _ (head : Option Head) where
  kept_ends : IsRuled head kept_end (end_of_kept head)
  unfolding end_of_kept
  kept_ends = ruled head kept_end (λ rows. refl) (λ rows i. refl)

  -- before the first frame none was kept
  pub kept_none : AreKeptTo head [] (record { place = head_area head; ended = 0 })
  unfolding end_of_kept
  kept_none = grind (arith, place-none)

  -- after a gap the frames kept so far are the same, and the next island begins without areas
  pub kept_gap : {rows : List Row} {b : ReservoirState} → AreKeptTo head rows b
      → AreKeptTo head rows empty_state
  kept_gap {rows} kept = record {
    frames = kept.frames;
    base = place head rows (length rows);
    place_is = omega arith;
    ended_is = omega (arith, kept.within);
    within = kept.within;
  }

  -- where the main data end after a frame
  end_by : (base : ℕ) {now ended : ℕ} (b : ReservoirState) (r : Row) {sound silent : Bool}
      → is_sound b.place b.ended r ≡ sound → is_silent r ≡ silent → now ≡ base + b.place
      → ended ≤ base + b.ended → ended ≤ now → (cond (not sound || silent) ended (end_of_data now r)
      ≤ base + cond (sound && not silent) (end_of_data b.place r) b.ended)
      × (cond (not sound || silent) ended (end_of_data now r) ≤ now + own_area r.header)
  end_by base b r is other at low high = grind arith

  module _ {rows : List Row} {b : ReservoirState} (kept : AreKeptTo head rows b) (r : Row) where
    abbrev marked_one : Row
    marked_one = row_judged_in b r

    sound_by : not (is_sound b.place b.ended r) ≡ false
        → is_sound (place head rows (length rows)) (end_of_kept head rows (length rows)) r ≡ true
    sound_by mark = grind (arith, sound_within, not-false, within_sound)

    last_kept : marked_one.lost ≡ false → is_sound (place head (rows ++ marked_one ∷ [])
        (length rows)) (end_of_kept head (rows ++ marked_one ∷ []) (length rows)) marked_one ≡ true
    last_kept mark =
        ap₂ (λ m n. is_sound m n r) (place-more head rows (marked_one ∷ [])
        (omega arith)) (kept_ends.more rows (marked_one ∷ []) (length rows) (omega arith))
        ∙ sound_by mark

    each_kept : AreKeptWell head (rows ++ marked_one ∷ [])
    each_kept =
        each_push (IsKeptWell head (rows ++ marked_one ∷ [])) rows marked_one (λ i q before found.
        let place_is = place-more head rows (marked_one ∷ []) {i = i} (omega (arith, before)) in
        let end_is = kept_ends.more rows (marked_one ∷ []) i (omega (arith, before)) in
        let is = kept.frames i q found in
        record {
          before = omega (arith, place_is, end_is, is.before);
          sound = λ mark. ap₂ (λ m n. is_sound m n q) place_is end_is ∙ is.sound mark;
        })
        (record {
          before = omega (
            arith,
            place-more head rows (marked_one ∷ []) {i = length rows} (omega arith),
            kept_ends.more rows (marked_one ∷ []) (length rows) (omega arith),
            kept.within,
          );
          sound = last_kept;
        })

    -- the next frame is added to the frames kept so far
    pub kept_frame : AreKeptTo head (rows ++ marked_one ∷ []) (state_after_frame b r)
    kept_frame =
        let ends = end_by kept.base b r refl refl kept.place_is kept.ended_is kept.within in
        record {
          frames = each_kept;
          base = kept.base;
          place_is = omega (arith, place-next head rows marked_one, kept.place_is);
          ended_is = omega (arith, kept_ends.next rows marked_one, ends.0);
          within = omega
              (arith, kept_ends.next rows marked_one, place-next head rows marked_one, ends.1);
        }
