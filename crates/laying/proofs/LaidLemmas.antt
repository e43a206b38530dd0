-- Frames in the slots of any plan that can be written
-- frame by frame: the file of them holds their stream.
use Rattle.std.proofs.Common.{append_assoc, arith, length, List, map, Option, refl, slice_get}
use Rattle.std.proofs.Common.{slice_range, Some, subst, suc, sym, zero, ℕ, [], ◌++◌, ◌+◌, ◌<◌, ◌∙◌}
use Rattle.std.proofs.{Common.{◌∷◌, ◌≡◌, ◌≤◌}, lemmas.List.length-map}
use Rattle.std.{proofs.lemmas.List.FromFn.length-range_with_len, specs.List.concat}
use Rattle.frame_header.specs.{Fields.IsHeader, Tables.{class_of, window_of}}
use Rattle.frame_writer.specs.Frames.{bytes_of_frames}
use Rattle.laying.proofs.FittingFrameLemmas.{fitting-files-hold, fitting-loses-none, fitting-slots}
use Rattle.laying.proofs.{HoldLemmas.blocks-kept, NeedsFitLemmas.{AreKnown, part-fits, part-known}}
use Rattle.laying.{proofs.RelayLemmas.range-next, specs.Fits.IsFittingPlan}
use Rattle.laying.specs.Laid.{file_laid, file_with_first, frames_laid, info_laid}
use Rattle.laying.specs.Laid.{IsWritableSelection, LaidPart, needs_laid, selected_front}
use Rattle.laying.specs.Laid.{selected_part, source_part, stream_laid}
use Rattle.laying.specs.{LaidFiles.{HasInfoSizes, laid_file}, LaidLaws.LosesNoFrame}
use Rattle.laying.specs.{Laws.{ChosenFramesStay, EachLaidFile}, Relaid.IsPart, Surveys.CanBeRelaid}
use Rattle.laying.specs.Written.{back_blocks, front_blocks, slot_in}
use Rattle.laying.specs.declared.selected.Selected.{Selected}
use Rattle.slot_plan.specs.{Parts.AreNeedsOfClass, declared.needs.Placed.Placed}
use Rattle.sync_survey.specs.{Faults.{HoldsStream, SurveyFields}, Row.Row}

-- each place within the rows has a row
pub first-there : (rows : List Row) (i : ℕ) → i < length rows
    → (first : Row) × (slice_get rows i ≡ Some first)
first-there [] i within = absurd (omega arith)
first-there (row ∷ rows) zero within = (row, refl)
first-there (row ∷ rows) (suc i) within = first-there rows i (omega arith)

-- what is written is the file of the frames in the slots of the plan
pub written-is : {s : SurveyFields} {selected : Selected} {file : List ℕ}
    → IsWritableSelection s selected → CanBeRelaid file s
    → selected_front s selected file ++ concat (back_blocks file s)
    ≡ file_laid (selected_part selected) file s
unfolding laid_file
written-is {s} {selected} {file} writable is =
    let found =
    first-there s.frames selected.from (omega (arith, writable.some, writable.within)) in
    let frames = bytes_of_frames (frames_laid (selected_part selected) file s) in
    append_assoc (concat (front_blocks file s) ++ selected.info.items) frames
    (concat (back_blocks file s))
    ∙ append_assoc (concat (front_blocks file s))
    selected.info.items (frames ++ concat (back_blocks file s))
    ∙ rw (writable.info file is found.0 found.1, found.1) refl

module _ (laid : LaidPart) {file : List ℕ} {s : SurveyFields} (is : CanBeRelaid file s)
    (some : laid.from < laid.to) (within : laid.to ≤ length s.frames)
    (fitting : IsFittingPlan (window_of s.class.version) (needs_laid laid s) laid.placed) where
  -- the chosen frames are a part
  pub part_is : IsPart s.class (source_part laid file s)
  part_is = record { has = is; class = refl; some = some; within = within }

  -- the frames are in the slots of the plan
  pub laid-slots : map slot_in (frames_laid laid file s) ≡ map (λ (p : Placed). p.slot) laid.placed
  laid-slots = fitting-slots s.class (source_part laid file s) laid.placed part_is fitting

  -- the fields of their Info frame have the right sizes
  pub sizes : length laid.extension ≡ 36 → HasInfoSizes (info_laid laid file s)
  sizes extension = grind (arith, length-map, length-range_with_len)

  module _ {first : Row} (found : slice_get s.frames laid.from ≡ Some first) where
    rows_are : slice_range s.frames laid.from laid.to
        ≡ first ∷ slice_range s.frames (laid.from + 1) laid.to
    rows_are = range-next s.frames found some

    -- the header of the first frame is one of the standard
    pub first-header : IsHeader first.header
    first-header = (subst AreKnown rows_are (part-known s laid.from laid.to is.placed)).0

    first-class : class_of first.header ≡ s.class
    unfolding AreNeedsOfClass
    first-class = grind (arith, rows_are, part-fits)

    first-file : (P : List ℕ → Type 0) → EachLaidFile s.class (frames_laid laid file s) P
        → length laid.extension ≡ 36 → P (file_with_first (Some first) laid file s)
    first-file P each extension = grind (arith, blocks-kept, first-header, first-class, sizes)

  of_each : (P : List ℕ → Type 0) → EachLaidFile s.class (frames_laid laid file s) P
      → length laid.extension ≡ 36 → P (file_laid laid file s)
  of_each P each extension =
      let found = first-there s.frames laid.from (omega (arith, some, within)) in
      subst (λ (o : Option Row). P (file_with_first o laid file s)) (sym found.1)
      (first-file found.1 P each extension)

  -- the file is well-formed, and that is its stream
  pub laid-holds : length laid.extension ≡ 36
      → HoldsStream (file_laid laid file s) (stream_laid laid file s)
  laid-holds = of_each (λ f. HoldsStream f (stream_laid laid file s))
      (fitting-files-hold s.class (source_part laid file s) laid.placed part_is fitting)

  -- no frame of the file is lost
  pub laid-loses-none : length laid.extension ≡ 36 → LosesNoFrame (file_laid laid file s)
  laid-loses-none = of_each LosesNoFrame
      (fitting-loses-none part_is fitting)

-- no chosen frame is lost
pub chosen-frames-stay : ChosenFramesStay
chosen-frames-stay laid file s is some within extension fitting = grind (arith, laid-loses-none)
