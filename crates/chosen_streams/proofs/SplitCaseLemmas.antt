-- The pieces of a split, at positions or at places among the samples.
use Rattle.std.proofs.Common.{ap, ap₂, false, List, map, Ok, Option, refl, Result, Some, subst, sym}
use Rattle.std.{proofs.Common.{true, ℕ, [], ◌∙◌, ◌∷◌, ◌≡◌}, specs.Prelude.unwrap_or}
use Rattle.chosen_streams.proofs.ChosenCaseLemmas.{cut-exact, frames-are}
use Rattle.chosen_streams.proofs.SpanCaseLemmas.{frames-are as span-frames, needed-is, piece-exact}
use Rattle.chosen_streams.specs.{Exact.{AllConsistOf, IsExactly}, Laws.HoldsChosen}
use Rattle.command_table.specs.Chosen.{cue_positions, file_bytes_of, frames_between, frames_needed}
use Rattle.command_table.specs.Chosen.{frames_needed_between, named_frames, piece_frames}
use Rattle.command_table.specs.Chosen.{piece_frames_from, positions_in}
use Rattle.commands.{proofs.RefusingLemmas.then_ok, specs.SingleOutput.most_frames}
use Rattle.commands.specs.declared.fault.EditFault.{EditFault}
use Rattle.cue_sheet.specs.declared.place.Place.{Place}
use Rattle.cut_edits.proofs.PieceLemmas.{span-survey_without_head, span-there}
use Rattle.cut_edits.proofs.PieceLemmas.{survey_without_head-relaid}
use Rattle.cut_edits.specs.Chosen.{laying_part, own_slots_part}
use Rattle.cut_edits.specs.Exact.{exact_part, span_piece, survey_without_head}
use Rattle.exact_span.specs.declared.exact_place.ExactPlace.{ExactPlace}
use Rattle.exact_span.specs.declared.exact_place.ExactPlace.TheVariants.{Place as Position}
use Rattle.job_words.specs.Request.{SplitAt, SplitBy, SplitExact}
use Rattle.laying.specs.{KeptFields.fields_of_head, Laid.{LaidPart, stream_laid}}
use Rattle.outside.specs.Files.{Contents}
use Rattle.split_edits.proofs.CommandLemmas.{first-parts}
use Rattle.split_edits.proofs.PartsLemmas.{cue-parts, IsSplit, split-parts}
use Rattle.split_edits.specs.Cutting.{Cutting, input_streams, laid_streams, piece_parts}
use Rattle.split_edits.specs.Cutting.{piece_parts_from, surveyed_streams}
use Rattle.split_edits.specs.Split.{cue_sheet_places, cut_part, given_cutting, given_exact_cutting}
use Rattle.split_edits.specs.Split.{sheet_cutting, sheet_exact_cutting}
use Rattle.sync_survey.specs.{Faults.SurveyFields, MainData.StreamFrame, Survey.survey_of}

-- ---- whatever is cut

module _ {P : Type 0} (cut : Cutting P) {file : List ℕ} {s : SurveyFields}
    (frames : P → P → List StreamFrame)
    (exact : (from to : P) (laid : LaidPart) → cut.between from to file s ≡ Ok laid
    → IsExactly (frames from to ∷ []) (stream_laid laid file (cut.survey s))) where
  abbrev stream : LaidPart → List StreamFrame
  stream laid = stream_laid laid file (cut.survey s)

  from-consist : (from : P) (places : List P) {all : List LaidPart}
      → piece_parts_from cut file s from places
      ≡ Ok all → AllConsistOf (piece_frames_from frames from places) (map stream all)
  from-consist from [] {all} e = let none : [] ≡ all = cc in
      subst (λ (l : List LaidPart). AllConsistOf [] (map stream l)) none tt
  from-consist from (to ∷ places) {all} e =
      let one = then_ok e in
      let more = first-parts one.2 in
      subst (λ (l : List LaidPart). AllConsistOf (piece_frames_from frames from (to ∷ places))
      (map stream l))
      more.2 (exact from to one.0 one.1, from-consist to places more.1)

  pieces-consist : (places : List P) {all : List LaidPart} → piece_parts cut file s places ≡ Ok all
      → AllConsistOf (piece_frames frames places) (map stream all)
  pieces-consist [] {all} e = let none : [] ≡ all = cc in
      subst (λ (l : List LaidPart). AllConsistOf [] (map stream l)) none tt
  pieces-consist (place ∷ places) {all} e = from-consist place places e

module _ {P : Type 0} {cut : Cutting P} {files : Contents} {input : List ℕ}
    (is : IsSplit cut files input) where
  streams-are : input_streams cut (cut.places files) (files input)
      ≡ map (λ (l : LaidPart). stream_laid l is.file (cut.survey is.survey)) is.laid
  unfolding input_streams
  streams-are = ap₂ (input_streams cut) is.placed is.there
      ∙ ap (surveyed_streams cut (Ok is.found) is.file) is.surveyed
      ∙ ap (laid_streams is.file (cut.survey is.survey)) is.picked

  pieces-hold : (frames : P → P → List StreamFrame)
      → ((from to : P) (laid : LaidPart) → cut.between from to is.file is.survey ≡ Ok laid
      → IsExactly (frames from to ∷ []) (stream_laid laid is.file (cut.survey is.survey)))
      → {places : List P} → is.found ≡ places → AllConsistOf (piece_frames frames places)
      (input_streams cut (cut.places files) (files input))
  pieces-hold frames exact {places} found =
      subst (λ (l : List (List StreamFrame)). AllConsistOf (piece_frames frames places) l)
      (sym streams-are)
      (subst (λ (ps : List P). AllConsistOf (piece_frames frames ps)
      (map (λ (l : LaidPart). stream_laid l is.file (cut.survey is.survey)) is.laid)) found
      (pieces-consist cut frames exact is.found is.picked))

-- ---- one piece

bytes-are : (files : Contents) {input file : List ℕ} → files input ≡ Some file
    → file_bytes_of files input ≡ file
bytes-are files there = ap (λ (o : Option (List ℕ)). unwrap_or o []) there

module _ (files : Contents) {input file : List ℕ} {s : SurveyFields}
    (there : files input ≡ Some file) (surveyed : survey_of file most_frames ≡ Ok s) where
  range-exact : (from to : Place) {laid : LaidPart} → cut_part from to file s ≡ Ok laid
      → IsExactly (frames_between (named_frames files input) from to ∷ [])
      (stream_laid laid file s)
  unfolding laying_part
  range-exact from to {laid} e =
      let one =
      then_ok e in
      let same : own_slots_part one.0 s ≡ laid = cc in
      subst (λ (l : LaidPart). IsExactly (frames_between (named_frames files input) from to ∷ [])
      (stream_laid l file s)) same
      (subst (λ (l : List StreamFrame). IsExactly (frames_between l from to ∷ [])
      (stream_laid (own_slots_part one.0 s) file s)) (sym (frames-are files there))
      (cut-exact file surveyed from to false one.1 refl))

  samples-exact : (from to : ExactPlace) {laid : LaidPart} → exact_part from to file s ≡ Ok laid
      → IsExactly (frames_needed_between (file_bytes_of files input) from to ∷ [])
      (stream_laid laid file (survey_without_head s))
  unfolding exact_part
  samples-exact from to {laid} e =
      let head = fields_of_head file s.head in
      let one =
      then_ok e in
      let same : span_piece head one.0 file (survey_without_head s) ≡ laid = cc in
      let frames =
      ap (frames_needed from to) (bytes-are files there)
      ∙ needed-is from to file s surveyed ∙ span-frames from to file s one.1 in
      subst (λ (l : LaidPart). IsExactly (frames_needed from to (file_bytes_of files input) ∷ [])
      (stream_laid l file (survey_without_head s))) same
      (subst (λ (l : List StreamFrame). IsExactly (l ∷ [])
      (stream_laid (span_piece head one.0 file (survey_without_head s)) file
      (survey_without_head s))) (sym frames)
      (piece-exact (survey_without_head-relaid surveyed)
      (span-survey_without_head (span-there from to head one.1)) head))

-- ---- the commands

abbrev ok_places : {P : Type 0} → List P → Result (List P) EditFault
ok_places places = Ok places

same-places : {P : Type 0} {a b : List P} → ok_places a ≡ ok_places b → a ≡ b
same-places e = cc

-- the places that are read of a sheet are the positions in it
sheet-positions : (files : Contents) (sheet : List ℕ) {found : List Place}
    → cue_sheet_places (files sheet) ≡ Ok found
    → found ≡ positions_in (file_bytes_of files sheet)
sheet-positions files sheet {found} e =
    let cue = cue-parts {o = files sheet} {places = found} e in
    sym cue.all ∙ sym (ap (λ (o : Option (List ℕ)). positions_in (unwrap_or o [])) cue.there
    ∙ ap cue_positions cue.read)

-- the pieces at positions hold the frames between these
pub split_at-holds : (input prefix : List ℕ) (places : List Place)
    → HoldsChosen (SplitAt input prefix places)
split_at-holds input prefix places files made e =
    let is = (split-parts (given_cutting places) files prefix input e).1.0 in
    pieces-hold is (frames_between (named_frames files input))
    (range-exact files is.there is.surveyed)
    (sym (same-places is.placed))

-- the pieces at the positions of a sheet hold the frames between these
pub split_by-holds : (input prefix sheet : List ℕ) → HoldsChosen (SplitBy false input prefix sheet)
split_by-holds input prefix sheet files made e =
    let is = (split-parts (sheet_cutting sheet) files prefix input e).1.0 in
    pieces-hold is (frames_between (named_frames files input))
    (range-exact files is.there is.surveyed)
    (sheet-positions files sheet is.placed)

-- exact pieces hold the frames of their spans
pub split_exact-holds : (input prefix : List ℕ) (places : List ExactPlace)
    → HoldsChosen (SplitExact input prefix places)
split_exact-holds input prefix places files made e =
    let is = (split-parts (given_exact_cutting places) files prefix input e).1.0 in
    pieces-hold is
    (frames_needed_between (file_bytes_of files input))
    (samples-exact files is.there is.surveyed)
    (sym (same-places is.placed))

-- exact pieces at the places of a sheet hold the frames of their spans
pub split_exact_by-holds : (input prefix sheet : List ℕ)
    → HoldsChosen (SplitBy true input prefix sheet)
split_exact_by-holds input prefix sheet files made e =
    let is = (split-parts (sheet_exact_cutting sheet) files prefix input e).1.0 in
    let one = then_ok is.placed in
    pieces-hold is
    (frames_needed_between (file_bytes_of files input))
    (samples-exact files is.there is.surveyed)
    (sym (same-places one.2)
    ∙ ap (map Position) (sheet-positions files sheet one.1))
