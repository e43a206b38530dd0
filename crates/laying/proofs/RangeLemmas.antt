-- The frames of an input from one number to before another, in the first places of a plan.
use Rattle.std.proofs.Common.{ap, append-nil, arith, length, List, slice_range, subst, sym, take, ℕ}
use Rattle.std.proofs.Common.{◌++◌, ◌-◌, ◌∙◌, ◌≡◌, ◌≤◌}
use Rattle.std.proofs.lemmas.List.{length-drop, length-map, length-take-le}
use Rattle.frame_header.specs.Tables.{window_of}
use Rattle.frame_writer.specs.{Frames.{all_frame_data, Frame}, Laid.BeginsWithin, Writing.Writing}
use Rattle.laying.proofs.{HoldLemmas.{all-length, needs-range}, PassLemmas.{begins_more, lays_as}}
use Rattle.laying.proofs.PlacesLemmas.{last-own, relaid_frames-own}
use Rattle.laying.proofs.RelayLemmas.{begins-left, part_more}
use Rattle.laying.specs.Fits.{FitsFromReach, last_reach}
use Rattle.laying.specs.Passing.{LaysFrames, LaysPart, needs_from}
use Rattle.laying.specs.{Places.{own_places, places_for}, Relaid.{all_frames, relaid_frames}}
use Rattle.laying.specs.Surveys.{CanBeRelaid}
use Rattle.outside.specs.{Files.Files, declared.pass.PassFault.PassFault}
use Rattle.slot_plan.specs.declared.needs.Placed.{Placed}
use Rattle.sync_survey.specs.Faults.{SurveyFields}

-- ---- how many there are

range-many : {X : Type 0} (xs : List X) (from : ℕ) {to : ℕ} → to ≤ length xs
    → length (slice_range xs from to) ≡ to - from
range-many xs from within = grind (arith, length-take-le, length-drop)

module _ (s : SurveyFields) (from : ℕ) {to : ℕ} (within : to ≤ length s.frames) where
  -- a file has all frames of its survey between two numbers
  pub frames-many : (file : List ℕ) → length (slice_range (all_frames file s) from to) ≡ to - from
  frames-many file = grind (arith, range-many, all-length)

  -- there are as many needs
  pub needs-many : length (needs_from s from to) ≡ to - from
  needs-many = grind (arith, length-map, slice_range, range-many)

  -- ---- the places that frames take

  -- the frames in these places (`planned_frames`, from the survey)
  abbrev planned : List Placed → List ℕ → List Frame
  planned placed file = relaid_frames (slice_range (all_frames file s) from to) placed

  -- how many bytes before the next area main data may begin after them
  abbrev reached : ℕ → List Placed → ℕ
  reached reach placed = last_reach (window_of s.class.version) reach (needs_from s from to) placed

  frames-own : (file : List ℕ) (placed : List Placed)
      → planned (own_places (to - from) placed) file ≡ planned placed file
  frames-own file placed =
      let frames = slice_range (all_frames file s) from to in
      ap (λ n. relaid_frames frames (own_places n placed)) (sym (frames-many file))
      ∙ relaid_frames-own frames placed

  reach-own : (reach : ℕ) (placed : List Placed)
      → reached reach (own_places (to - from) placed) ≡ reached reach placed
  reach-own reach placed = grind (arith, needs-many, last-own)

  -- if the file's content is known, the frames begin within reach
  pub range-begins : {file : List ℕ} (placed : List Placed) {reach free : ℕ} (more : List Frame)
      → CanBeRelaid file s → reach ≤ free
      → FitsFromReach (window_of s.class.version) reach (needs_from s from to)
      (own_places (to - from) placed)
      → BeginsWithin (reached reach placed) (all_frame_data more)
      → BeginsWithin free (all_frame_data (planned placed file ++ more))
  range-begins {file} placed {reach} {free} more has near fits begins =
      let own = own_places (to - from) placed in
      let frames = slice_range (all_frames file s) from to in
      begins_more (all_frame_data (planned placed file ++ more)) near
      (subst (λ (fs : List Frame). BeginsWithin reach (all_frame_data (fs ++ more)))
      (frames-own file placed)
      (begins-left (window_of s.class.version) reach (needs_from s from to) frames own more
      (needs-range from to has) fits
      (subst (λ n. BeginsWithin n (all_frame_data more))
      (sym (reach-own reach placed)) begins)))

  -- ---- the same, by the number of places

  module _ (placed : List Placed) {k : ℕ} (own : k ≡ places_for (to - from) placed) where
    taken : take k placed ≡ own_places (to - from) placed
    taken = ap (λ m. take m placed) own

    -- frames that fit in their own places fit when the places are counted
    pub fits-range : (window reach : ℕ)
        → FitsFromReach window reach (needs_from s from to) (own_places (to - from) placed)
        → FitsFromReach window reach (needs_from s from to) (take k placed)
    fits-range window reach fits = grind (arith, taken)

    abbrev made : List ℕ → List Frame
    made file = relaid_frames (slice_range (all_frames file s) from to) (take k placed)

    made-is : (file : List ℕ) → made file ≡ planned placed file
    made-is file = grind (arith, slice_range, taken, frames-own)

    abbrev last : ℕ → ℕ
    last reach = last_reach (window_of s.class.version) reach (needs_from s from to) (take k placed)

    -- main data may begin as far before the next area
    pub reach-is : (reach : ℕ) → last reach ≡ reached reach placed
    reach-is reach = grind (arith, taken, reach-own)

    module _ (input output : List ℕ) (old : Writing) {first before : Files} (after : Files)
        (same : before ≡ first) where
      -- laying these frames is laying those of the range
      pub lays-range : {new : Writing} → LaysFrames input output made old new before after
          → LaysFrames input output (planned placed) old new first after
      lays-range lays = grind (arith, lays_as, made-is)

      -- laying a part of these is laying a part of those
      pub part-range : (reach : ℕ) {fault : PassFault}
          → LaysPart input output made (last reach) old before after fault
          → LaysPart input output (planned placed) (reached reach placed) old first after fault
      part-range reach {fault} part = grind (arith, part_more, reach-is, append-nil, made-is)
