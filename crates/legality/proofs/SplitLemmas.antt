-- Ranges of frames: a cut; and what is laid from each place to the next: the pieces of a split.
use Rattle.std.proofs.Common.{ap, ap₂, Bool, cond, Err, List, None, Ok, Option, refl, replicate}
use Rattle.std.proofs.Common.{Result, Some, suc, ℕ, [], ◌&&◌, ◌<◌, ◌↔◌, ◌∙◌, ◌∷◌, ◌≡◌, ◌≤◌}
use Rattle.std.proofs.lemmas.Bool.{le-leb, lt-ltb}
use Rattle.command_table.specs.Choices.{IsRange, IsSampleRange}
use Rattle.command_table.specs.Inputs.{AreNamesApart, FileInput, HoldsOfEachNext}
use Rattle.commands.{proofs.RefusingLemmas.then_ok, specs.Command.clash_from}
use Rattle.commands.specs.{Refusing.{refusal_or, then_made}, SingleOutput.most_frames}
use Rattle.commands.specs.declared.fault.{EditFault.EditFault, Refusal.{Refusal, TheVariants.Range}}
use Rattle.cue_sheet.specs.declared.place.Place.{Place}
use Rattle.cut_edits.proofs.ChosenLemmas.{chosen-within}
use Rattle.cut_edits.specs.Chosen.{Chosen, chosen_range, cut_choice, first_planning, laying_part}
use Rattle.cut_edits.specs.Chosen.{outside_fault, planned_part}
use Rattle.cut_edits.specs.Exact.{exact_part, span_piece, survey_without_head}
use Rattle.exact_span.specs.declared.{exact_place.ExactPlace.ExactPlace, span.Span.Span}
use Rattle.laying.specs.{KeptFields.fields_of_head, Laid.LaidPart, NeedsFit.own_choice}
use Rattle.legality.proofs.InputLemmas.{apart_no-clash, IsOne, next-cons, no-clash_apart}
use Rattle.legality.proofs.InputLemmas.{one-survey, surveyed-one}
use Rattle.legality.{proofs.SampleLemmas.{range-span, span-range}, specs.Laws.AcceptsFiles}
use Rattle.outside.specs.Files.{Contents}
use Rattle.requests.specs.Names.{piece_names}
use Rattle.split_edits.proofs.PartsLemmas.{IsSplit, made_in, split-parts}
use Rattle.split_edits.specs.Cutting.{Cutting, equal_names_or, input_pieces, piece_parts}
use Rattle.split_edits.specs.Cutting.{piece_parts_from, pieces_result, places_result, split_command}
use Rattle.split_edits.specs.Cutting.{split_result, surveyed_pieces, with_first}
use Rattle.split_edits.specs.Split.{cut_part, frame_cutting, sample_cutting}
use Rattle.sync_survey.specs.Faults.{SurveyFields}

-- ---- a range

abbrev pub AreWithin : ℕ → ℕ → ℕ → Type 0
AreWithin from to frames = (from < to) × (to ≤ frames)

within-none : {from to frames : ℕ} → AreWithin from to frames → outside_fault from to frames ≡ None
within-none {from} {to} {frames} are = ap₂ (λ (a b : Bool). cond (a && b) None
    (Some (Range from to frames))) (lt-ltb from to are.0) (le-leb to frames are.1)

module _ (quality : Option ℕ) (extension : List ℕ) {from to frames : ℕ}
    (are : AreWithin from to frames) where
  -- frames within a file are chosen
  pub within-ok : chosen_range quality extension from to frames
      ≡ Ok (record { from = from; to = to; quality = quality; extension = extension })
  within-ok =
      ap (λ o. refusal_or o
      (record { from = from; to = to; quality = quality; extension = extension }))
      (within-none are)

  within-chosen : (chosen : Chosen) × (chosen_range quality extension from to frames ≡ Ok chosen)
  within-chosen =
      (record { from = from; to = to; quality = quality; extension = extension }, within-ok)

-- a cut that isn't refused is a range of the file
pub cut-range : (from to : Place) (file : List ℕ) (s : SurveyFields) (chosen : Chosen)
    → cut_choice from to file s ≡ Ok chosen → IsRange s from to
unfolding cut_choice
cut-range from to file s chosen e = chosen-within None (replicate 36 0) e

-- a range of the file isn't refused
pub range-cut : (from to : Place) (file : List ℕ) (s : SurveyFields) → IsRange s from to
    → (chosen : Chosen) × (cut_choice from to file s ≡ Ok chosen)
unfolding cut_choice
range-cut from to file s is = within-chosen None (replicate 36 0) is

-- ---- from each place to the next

first-parts : (first : LaidPart) (r : Result (List LaidPart) EditFault) {all : List LaidPart}
    → with_first first r ≡ Ok all → (more : List LaidPart) × (r ≡ Ok more)
first-parts first (Ok more) e = (more, refl)
first-parts first (Err fault) e = absurd cc

-- one place of a file may follow another exactly where the part between them is laid
pub record IsRightOf {P : Type 0} (cut : Cutting P)
    (Right : FileInput → P → P → Type 0) : Type 0 where
  pub laid-right : (from to : P) (file : List ℕ) (s : SurveyFields) (laid : LaidPart)
      → cut.between from to file s ≡ Ok laid → Right (record { bytes = file; survey = s }) from to
  pub right-laid : (from to : P) (file : List ℕ) (s : SurveyFields)
      → Right (record { bytes = file; survey = s }) from to
      → (laid : LaidPart) × (cut.between from to file s ≡ Ok laid)

module _ {P : Type 0} {cut : Cutting P} {Right : FileInput → P → P → Type 0}
    (right : IsRightOf cut Right) (file : List ℕ) (s : SurveyFields) where
  abbrev Follows : P → P → Type 0
  Follows = Right (record { bytes = file; survey = s })

  laid-next : (place : P) (places : List P) {all : List LaidPart}
      → piece_parts_from cut file s place places ≡ Ok all → HoldsOfEachNext (place ∷ places) Follows
  laid-next place [] e = λ i p q is next. absurd cc
  laid-next place (to ∷ places) {all} e =
      let one = then_ok e in
      let more = first-parts one.0 (piece_parts_from cut file s to places) one.2 in
      next-cons Follows places (right.laid-right place to file s one.0 one.1)
      (laid-next to places more.1)

  next-laid : (place : P) (places : List P) → HoldsOfEachNext (place ∷ places) Follows
      → (all : List LaidPart) × (piece_parts_from cut file s place places ≡ Ok all)
  next-laid place [] each = ([], refl)
  next-laid place (to ∷ places) each =
      let one = right.right-laid place to file s (each 0 place to refl refl) in
      let more = next-laid to places (λ i p q is next. each (suc i) p q is next) in (
        one.0 ∷ more.0,
        ap₂ (λ (r : Result LaidPart EditFault) (rest : Result (List LaidPart) EditFault).
            then_made r
            (λ first. with_first first rest)) one.1 more.1,
      )

  -- if all pieces are laid, each place follows the one before it
  pub laid-pieces : (places : List P) {all : List LaidPart} → piece_parts cut file s places ≡ Ok all
      → HoldsOfEachNext places Follows
  laid-pieces [] e = λ i p q is next. absurd cc
  laid-pieces (place ∷ places) {all} e = laid-next place places e

  -- if each place follows the one before it, all pieces are laid
  pub pieces-laid : (places : List P) → HoldsOfEachNext places Follows
      → (all : List LaidPart) × (piece_parts cut file s places ≡ Ok all)
  pieces-laid [] each = ([], refl)
  pieces-laid (place ∷ places) each = next-laid place places each

-- ---- at positions and at places of samples

abbrev pub FramesFollow : FileInput → Place → Place → Type 0
FramesFollow input from to = IsRange input.survey from to

abbrev pub SamplesFollow : FileInput → ExactPlace → ExactPlace → Type 0
SamplesFollow input from to = IsSampleRange from to input

frames-range : (from to : Place) (file : List ℕ) (s : SurveyFields) {laid : LaidPart}
    → cut_part from to file s ≡ Ok laid → IsRange s from to
unfolding laying_part
frames-range from to file s {laid} e =
    let one =
    then_ok e in
    cut-range from to file s one.0 one.1

range-frames : (from to : Place) (file : List ℕ) (s : SurveyFields) → IsRange s from to
    → (laid : LaidPart) × (cut_part from to file s ≡ Ok laid)
unfolding laying_part
range-frames from to file s is =
    let chosen = range-cut from to file s is in (
      _,
      ap (λ (r : Result Chosen EditFault). then_made r (planned_part (first_planning own_choice) s))
          chosen.1,
    )

-- positions may follow each other exactly where there is a range of frames between them
pub frames-right : (more : List (List ℕ)) (places : Contents → Result (List Place) EditFault)
    (refuses : Refusal → Bool) → IsRightOf (frame_cutting more places refuses) FramesFollow
frames-right more places refuses = record { laid-right = frames-range; right-laid = range-frames }

samples-range : (from to : ExactPlace) (file : List ℕ) (s : SurveyFields) {laid : LaidPart}
    → exact_part from to file s ≡ Ok laid
    → IsSampleRange from to (record { bytes = file; survey = s })
unfolding exact_part
samples-range from to file s {laid} e =
    let head = fields_of_head file s.head in
    let one =
    then_ok e in
    span-range from to file s one.0 one.1

range-samples : (from to : ExactPlace) (file : List ℕ) (s : SurveyFields)
    → IsSampleRange from to (record { bytes = file; survey = s })
    → (laid : LaidPart) × (exact_part from to file s ≡ Ok laid)
unfolding exact_part
range-samples from to file s is =
    let head = fields_of_head file s.head in
    let span = range-span from to file s is in (
      _,
      ap (λ (r : Result Span EditFault). then_made r
          (λ span. Ok (span_piece head span file (survey_without_head s)))) span.1,
    )

-- places may follow each other exactly where there is a range of samples between them
pub samples-right : (more : List (List ℕ)) (places : Contents → Result (List ExactPlace) EditFault)
    (refuses : Refusal → Bool) → IsRightOf (sample_cutting more places refuses) SamplesFollow
samples-right more places refuses =
    record { laid-right = samples-range; right-laid = range-samples }

-- ---- the command

module _ {P : Type 0} {cut : Cutting P} {Right : FileInput → P → P → Type 0} (right : IsRightOf cut
    Right) {files : Contents} (input prefix : List ℕ) {Choice : FileInput → Type 0}
    (found : (i : FileInput) → Choice i
    → (places : List P) × (cut.places files ≡ Ok places) × HoldsOfEachNext places (Right i))
    (chosen : (i : FileInput) (places : List P) → cut.places files ≡ Ok places
    → HoldsOfEachNext places (Right i) → Choice i) where
  made-split : clash_from (piece_names prefix) 0 (input ∷ cut.more) ≡ None → IsSplit cut files input
      → AcceptsFiles (split_command cut input prefix) files
  unfolding split_result
  made-split free is = (
    made_in cut files prefix input is,
    ap (λ (o : Option ℕ). equal_names_or o
        (input_pieces cut prefix (cut.places files) (files input)))
        free
        ∙ ap (input_pieces cut prefix (cut.places files)) is.there
        ∙ ap (surveyed_pieces cut prefix (cut.places files) is.file) is.surveyed
        ∙ ap (λ (r : Result (List P) EditFault). then_made r
        (places_result cut prefix is.file is.survey))
        is.placed
        ∙ ap (λ (r : Result (List LaidPart) EditFault). then_made r
        (pieces_result prefix is.file (cut.survey is.survey))) is.picked,
  )

  abbrev IsLegalSplit : Type 0
  IsLegalSplit =
      AreNamesApart (input ∷ cut.more) (piece_names prefix) × IsOne Choice files input most_frames

  -- a split succeeds exactly where the choice is legal, and no piece has the name of an input
  pub split-law : {Legal : Type 0} → Legal ↔ IsLegalSplit
      → Legal ↔ AcceptsFiles (split_command cut input prefix) files
  split-law same = (
    (λ legal.
        let names_apart = (same.0 legal).0 in
        let one = (same.0 legal).1 in
        let places = found one.input one.choice in
        let all = pieces-laid right one.input.bytes one.input.survey places.0 places.2 in
        made-split (apart_no-clash (piece_names prefix) (input ∷ cut.more) 0 names_apart)
        (record {
          file = one.input.bytes;
          survey = one.input.survey;
          there = one.is.there;
          surveyed = one-survey Choice one;
          found = places.0;
          placed = places.1;
          laid = all.0;
          picked = all.1;
        })),
    (λ made.
        let done = split-parts cut files prefix input made.1 in
        let is = done.1.0 in
        same.1 (
          no-clash_apart (piece_names prefix) (input ∷ cut.more) 0 done.0,
          surveyed-one Choice is.there is.surveyed
              (chosen (record { bytes = is.file; survey = is.survey }) is.found is.placed
              (laid-pieces right is.file is.survey is.found is.picked)),
        )),
  )
