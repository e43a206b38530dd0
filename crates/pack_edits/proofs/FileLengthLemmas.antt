-- How long a file of frames in the slots of a plan is: what comes before and after the frames, and
-- the lengths of the slots.
use Rattle.std.proofs.Common.{ap, arith, drop, length, length-append, length-drop, List, map, None}
use Rattle.std.proofs.Common.{Option, refl, slice_get, Some, take, ℕ, [], ◌++◌, ◌+◌, ◌-◌, ◌<◌, ◌∙◌}
use Rattle.std.proofs.{Common.{◌∷◌, ◌≡◌, ◌≤◌}, lemmas.List.{length-take-le, Sums.sum_by-cons}}
use Rattle.std.specs.List.{concat}
use Rattle.frame_header.specs.{Fields.ClassFields, Tables.{class_of, length_of, window_of}}
use Rattle.frame_writer.proofs.LaidLemmas.{length-zeros}
use Rattle.frame_writer.specs.Frames.{all_frame_data, areas_length, bytes_of_frames}
use Rattle.frame_writer.specs.Frames.{fields_of_frames, Frame, frame_area, framed_bytes}
use Rattle.frame_writer.specs.Laid.{areas_end, CanDataBeLaidFrom, frame_data_end, FrameData}
use Rattle.frame_writer.specs.Laid.{laid_data, laid_data_from}
use Rattle.info_header.specs.{FileInfo.frames_length, InfoFrame.info_header_of}
use Rattle.laying.proofs.{EntryByteLemmas.{length-entry, shaped}, FittingFrameLemmas.fitting-laid}
use Rattle.laying.proofs.{InfoByteLemmas.length-info_frame, LaidFrameLemmas.areas-all}
use Rattle.laying.proofs.LaidLemmas.{first-header, laid-slots, part_is, sizes}
use Rattle.laying.specs.Fits.{IsFittingPlan}
use Rattle.laying.specs.Laid.{file_laid, file_with_first, frames_laid, LaidPart, needs_laid}
use Rattle.laying.specs.{LaidFiles.{AreStreamEntries, laid_file}, Surveys.CanBeRelaid}
use Rattle.laying.specs.Written.{back_blocks, front_blocks, slot_in}
use Rattle.side_info.specs.Frame.{frame_front_bytes}
use Rattle.slot_plan.specs.declared.needs.Placed.{Placed}
use Rattle.sync_survey.specs.{Faults.SurveyFields, Row.Row}

-- ---- the bytes of all areas

length-laid_data_from : (end : ℕ) {start : ℕ} (ps : List FrameData) → end ≤ start
    → CanDataBeLaidFrom end start ps
    → length (laid_data_from end start ps) + end ≡ areas_end start ps
length-laid_data_from end {start} [] within fits = omega (arith, length-zeros (start - end), within)
length-laid_data_from end {start} (p ∷ ps) within fits =
    grind (
      arith,
      length-append,
      length-zeros,
      length-laid_data_from (frame_data_end start p) ps fits.1 fits.2,
    )

-- ---- frames

length-framed_bytes : (c : ClassFields) (fs : List Frame) (bytes : List ℕ) → AreStreamEntries c fs
    → areas_length (fields_of_frames fs) ≡ length bytes
    → length (framed_bytes (fields_of_frames fs) bytes) ≡ frames_length c slot_in fs
length-framed_bytes c [] bytes entries many = refl
length-framed_bytes c (f ∷ fs) bytes entries many =
    let k = f.kept in
    let n = frame_area k in
    let front = frame_front_bytes k.header k.side in
    let more = framed_bytes (fields_of_frames fs) (drop n bytes) in
    let entry = length-entry (take n bytes) entries.0.header
    (shaped entries.0.pairs) (length-take-le n bytes (omega (arith, many))) in
    omega (
      arith,
      entry,
      ap (λ d. length_of d k.header.slot) entries.0.class,
      length-append front (take n bytes),
      length-append front (take n bytes ++ more),
      length-append (take n bytes) more,
      length-framed_bytes c fs (drop n bytes) entries.1 (omega (arith, many, length-drop n bytes)),
      sum_by-cons (λ (g : Frame). length_of c (slot_in g)) f fs,
    )

length-frames : (c : ClassFields) (fs : List Frame) → AreStreamEntries c fs
    → CanDataBeLaidFrom 0 0 (all_frame_data fs)
    → length (bytes_of_frames fs) ≡ frames_length c slot_in fs
length-frames c fs entries fit = length-framed_bytes c fs (laid_data (all_frame_data fs)) entries
    (omega (arith, length-laid_data_from 0 (all_frame_data fs) (omega arith) fit, areas-all 0 fs))

-- the lengths of the slots of a plan together
abbrev pub size_of : ClassFields → List Placed → ℕ
size_of c placed = frames_length c (λ (p : Placed). p.slot) placed

same-size : (c : ClassFields) (fs : List Frame) (placed : List Placed) → map slot_in fs
    ≡ map (λ (p : Placed). p.slot) placed → frames_length c slot_in fs ≡ size_of c placed
same-size c [] [] same = refl
same-size c (f ∷ fs) (p ∷ placed) same =
    let slot : slot_in f ≡ p.slot = cc in
    let rest : map slot_in fs ≡ map (λ (q : Placed). q.slot) placed = cc in
    omega (
      arith,
      ap (length_of c) slot,
      same-size c fs placed rest,
      sum_by-cons (λ (g : Frame). length_of c (slot_in g)) f fs,
      sum_by-cons (λ (q : Placed). length_of c q.slot) p placed,
    )
same-size c _ _ same = absurd cc

-- ---- the file

-- the length of what comes before and after the frames
abbrev pub others_length : Row → List ℕ → SurveyFields → ℕ
others_length first file s =
    let h = info_header_of first.header in
    length (concat (front_blocks file s))
    + (length_of (class_of h) h.slot + length (concat (back_blocks file s)))

module _ (l : LaidPart) {file : List ℕ} {s : SurveyFields} (is : CanBeRelaid file s)
    (some : l.from < l.to) (within : l.to ≤ length s.frames)
    (fitting : IsFittingPlan (window_of s.class.version) (needs_laid l s) l.placed)
    (extension : length l.extension ≡ 36) where
  -- the frames are as long as the slots of the plan
  pub length-laid : length (bytes_of_frames (frames_laid l file s)) ≡ size_of s.class l.placed
  length-laid =
      let part = part_is l is some within fitting in
      let are = fitting-laid part fitting in
      length-frames s.class (frames_laid l file s) are.entries are.fit ∙ same-size s.class
      (frames_laid l file s) l.placed (laid-slots l is some within fitting)

  -- the file is as long as these and what comes before and after the frames
  pub length-file : {first : Row} → slice_get s.frames l.from ≡ Some first
      → length (file_with_first (Some first) l file s)
      ≡ others_length first file s + size_of s.class l.placed
  unfolding laid_file
  length-file {first} found =
      grind (
        arith,
        length-laid,
        length-info_frame (first-header l is some within fitting found)
            (sizes l is some within fitting extension),
        first-header l is some within fitting found,
        sizes l is some within
            fitting extension,
        length-append,
      )

-- ---- two plans

module _ (l : LaidPart) {other : List Placed} {file : List ℕ} {s : SurveyFields}
    (is : CanBeRelaid file s)
    (some : l.from < l.to) (within : l.to ≤ length s.frames) (extension : length l.extension ≡ 36)
    (fitting : IsFittingPlan (window_of s.class.version) (needs_laid l s) l.placed)
    (fits : IsFittingPlan (window_of s.class.version) (needs_laid l s) other)
    (least : size_of s.class l.placed ≤ size_of s.class other) where
  abbrev by_other : LaidPart
  by_other = record l { placed = other }

  from-first : (o : Option Row) → slice_get s.frames l.from ≡ o
      → length (file_with_first o l file s) ≤ length (file_with_first o by_other file s)
  from-first None found = omega arith
  from-first (Some first) found =
      grind (
        arith,
        length-file l is some within fitting extension found,
        length-file
            by_other is some within fits extension found,
      )

  -- of two files of the same frames the one with shorter slots is the shorter
  pub no-longer : length (file_laid l file s) ≤ length (file_laid by_other file s)
  no-longer = from-first (slice_get s.frames l.from) refl
