-- The first bytes of a file without fault and without junk.
use Rattle.std.proofs.Common.{ap, arith, Err, inl, inr, length, length-append, List, None, Ok}
use Rattle.std.proofs.Common.{Result, subst, sym, ℕ, ◌++◌, ◌+◌, ◌∙◌, ◌≡◌, ◌≤◌}
use Rattle.file_laws.proofs.CutChainLemmas.{cut-start, IsCutStart, MayBeCut}
use Rattle.file_laws.proofs.CutFrameLemmas.{are-in, end-now, first_in, found-now, frames, head}
use Rattle.file_laws.proofs.CutFrameLemmas.{more, no-faults, r, rows, rows-now, rows-were}
use Rattle.file_laws.proofs.{CutItemLemmas.cut, CutStreamLemmas.marked_rows-front}
use Rattle.file_laws.specs.CutLaws.{IsCutAnswer, IsCutFault, IsStreamPrefix, PrefixFault}
use Rattle.sync_survey.proofs.{FaultsLemmas.length-marked_rows, FoldersLemmas.survey_fields-by}
use Rattle.sync_survey.proofs.PlacedRowLemmas.{survey_fields-placed}
use Rattle.sync_survey.proofs.SurveyLemmas.{survey-stopped, survey-whole, told_by}
use Rattle.sync_survey.proofs.SurveyPartsLemmas.{IsRead, survey_fields-parts, survey_fields-stream}
use Rattle.sync_survey.proofs.SurveyPartsLemmas.{told_from}
use Rattle.sync_survey.specs.Faults.{first_of, stream_of_survey, survey_fields, SurveyFields}
use Rattle.sync_survey.specs.Items.{item_at, size_of}
use Rattle.sync_survey.specs.MainData.{main_bytes, marked_rows, rows_of, stream_frames, StreamFrame}
use Rattle.sync_survey.specs.{Row.Row, Start.start_of, Survey.AreWellPlaced}
use Rattle.sync_survey.specs.Walk.{all_blocks, end_fault, fault_at}
use Rattle.sync_survey.specs.declared.{items.Item.TheVariants.Frame, places.Start.Start}
use Rattle.sync_survey.specs.declared.survey_fault.SurveyFault.{SurveyFault}

-- what a survey returns, by what it is equal to
fault_answer : (file front : List ℕ) {answer : Result SurveyFields SurveyFault}
    {fault : SurveyFault} → answer ≡ Err fault → IsCutFault fault → IsCutAnswer file front answer
fault_answer file front is kind = subst (IsCutAnswer file front) (sym is) kind

module _ {file : List ℕ} {n : ℕ} (within : n ≤ length file) {allowed : ℕ} {start : Start}
    (read : IsRead file allowed start) (no_junk : start.first.offset ≡ start.front_end) where
  abbrev front : List ℕ
  front = cut file within

  abbrev s : SurveyFields
  s = told_from file start

  module _ (start_now : start_of front ≡ Ok start)
      (kept : start.first.offset + size_of (Frame start.first.header) ≤ n) where
    abbrev own : List Row
    own = rows within start_now kept read

    abbrev left : List Row
    left = more within start_now kept read

    abbrev t : SurveyFields
    t = told_by front start (head within start_now kept read) (rows_of front
        (frames within start_now kept read)) (all_blocks front start)

    were : s.frames ≡ marked_rows s.head (own ++ left)
    were = ap (marked_rows s.head) (rows-were within start_now kept read)

    few : length own ≤ length s.frames
    few = grind (arith, were, length-marked_rows, length-append)

    whole : end_fault front (frames within start_now kept read)
        (fault_at (r within start_now kept read).stop (item_at front
        (r within start_now kept read).stop)) ≡ None
        → survey_fields front (length s.frames) ≡ Ok t
    whole none = grind (arith, survey-whole, frames, r, found-now, no-faults, few)

    stream-were : (allowed_now : ℕ) → survey_fields front allowed_now ≡ Ok t
        → IsStreamPrefix (stream_of_survey front t) (stream_of_survey file s)
    unfolding stream_of_survey
    stream-were allowed_now is =
        let now_rows = rows-now within start_now kept read in
        let all = head within start_now kept read in
        let placed =
        subst (λ (rs : List Row). AreWellPlaced all t.class (marked_rows all rs)) now_rows
        (survey_fields-placed front allowed_now is) in
        let found =
        marked_rows-front file within
        start.first (first_in within start_now kept read)
        (frames within start_now kept read) left
        (are-in within start_now kept read) placed in (
          found.0,
          ap (λ (rs : List Row). stream_frames (main_bytes front all (marked_rows all rs)) all
              (marked_rows all rs) ++ found.0) now_rows
              ∙ found.1
              ∙ ap (λ (rs : List Row). stream_frames (main_bytes file all rs) all rs) (sym were),
        )

    answer : MayBeCut file within (end_fault front (frames within start_now kept read)
        (fault_at (r within start_now kept read).stop
        (item_at front (r within start_now kept read).stop)))
        → survey_fields file allowed ≡ Ok s
        → IsCutAnswer file front (survey_fields front (length s.frames))
    answer (inr found) is =
        fault_answer file front
        (survey-stopped (length s.frames)
        (found-now within start_now kept read) found.0 (ap first_of
        (no-faults within start_now kept read few)) found.1)
        found.2
    answer (inl none) is =
        let now_is = whole none in
        let holds = survey_fields-stream front (length s.frames) t now_is in
        let held = survey_fields-stream file allowed s is in
        let part = stream-were (length s.frames) now_is in
        subst (IsCutAnswer file front) (sym now_is) (
          holds.well_formed,
          (
            part.0,
            ap (λ (fs : List StreamFrame). fs ++ part.0) holds.stream_is ∙ part.1
                ∙ sym held.stream_is,
          ),
        )

  by_start : IsCutStart file within start → survey_fields file allowed ≡ Ok s
      → IsCutAnswer file front (survey_fields front (length s.frames))
  by_start (inl there) is = answer there.0 there.1 (end-now within there.0 there.1 read) is
  by_start (inr found) is = grind (arith, fault_answer, survey_fields-by)

  -- the survey returns what it should for a file that was cut short
  pub cut-answer : survey_fields file allowed ≡ Ok s
      → IsCutAnswer file front (survey_fields front (length s.frames))
  cut-answer is = by_start (cut-start file within read.start_is no_junk) is

-- the first bytes of a file without fault and junk have the fault that the definition names
pub prefix-fault : PrefixFault
prefix-fault file allowed s n is no_junk within = grind (arith, survey_fields-parts, cut-answer)
