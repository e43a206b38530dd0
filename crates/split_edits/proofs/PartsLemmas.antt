-- What a split that isn't refused is made of.
use Rattle.std.proofs.Common.{ap, Err, length, List, None, Ok, Option, refl, Result, Some, sym, ℕ}
use Rattle.std.proofs.Common.{[], ◌++◌, ◌∙◌, ◌∷◌, ◌≡◌, ◌≤◌}
use Rattle.commands.proofs.{FoundSheetLemmas.{is-sheet, sheet-is}, RefusingLemmas.then_ok}
use Rattle.commands.specs.{Command.{clash_from, Made}, Refusing.then_made, Sheet.sheet_in}
use Rattle.commands.specs.{SingleOutput.most_frames, declared.fault.EditFault.EditFault}
use Rattle.cue_sheet.specs.{Cues.cue_of, Limits.longest_sheet, declared.cue_fault.CueFault.CueFault}
use Rattle.cue_sheet.specs.declared.place.Place.{Place, TheVariants.End}
use Rattle.laying.specs.Laid.{LaidPart}
use Rattle.outside.specs.Files.{Contents}
use Rattle.requests.specs.Names.{piece_names}
use Rattle.split_edits.specs.Cutting.{Cutting, equal_names_or, input_pieces, piece_parts}
use Rattle.split_edits.specs.Cutting.{pieces_from, places_result, split_command, split_result}
use Rattle.split_edits.specs.{Cutting.surveyed_pieces, Split.{cue_sheet_places, places_to_end}}
use Rattle.sync_survey.specs.{Faults.SurveyFields, Survey.survey_of}
use Rattle.sync_survey.specs.declared.survey_fault.SurveyFault.{SurveyFault}

-- ---- the pieces

abbrev of_made : Made → Result Made EditFault
of_made made = Ok made

ok-made : {a b : Made} → of_made a ≡ of_made b → a ≡ b
ok-made e = cc

-- the file, its survey, the places, and what is laid between them
pub record IsSplit {P : Type 0} (cut : Cutting P) (files : Contents) (input : List ℕ) : Type 0 where
  pub file : List ℕ
  pub survey : SurveyFields
  pub there : files input ≡ Some file
  pub surveyed : survey_of file most_frames ≡ Ok survey
  pub found : List P
  pub placed : cut.places files ≡ Ok found
  pub laid : List LaidPart
  pub picked : piece_parts cut file survey found ≡ Ok laid

-- the pieces that are made
abbrev pub made_in : {P : Type 0} (cut : Cutting P) (files : Contents) (prefix input : List ℕ)
    → IsSplit cut files input → Made
made_in cut files prefix input is =
    record { outputs = pieces_from prefix 1 is.file (cut.survey is.survey) is.laid; text = [] }

module _ {P : Type 0} (cut : Cutting P) (files : Contents) (prefix input : List ℕ) where
  -- these pieces are what was made
  abbrev pub Splits : Made → Type 0
  Splits made = (is : IsSplit cut files input) × (made_in cut files prefix input is ≡ made)

  placed-parts : {file : List ℕ} {s : SurveyFields} {made : Made} → files input ≡ Some file
      → survey_of file most_frames ≡ Ok s
      → then_made (cut.places files) (places_result cut prefix file s) ≡ Ok made → Splits made
  placed-parts {file} {s} {made} there surveyed e =
      let one = then_ok e in
      let two =
      then_ok one.2 in (
        record {
          file = file;
          survey = s;
          there = there;
          surveyed = surveyed;
          found = one.0;
          placed = one.1;
          laid = two.0;
          picked = two.1;
        },
        ok-made two.2,
      )

  where-parts : (o : Option (List ℕ)) {made : Made} → files input ≡ o
      → input_pieces cut prefix (cut.places files) o ≡ Ok made → Splits made
  where-parts None there e = absurd cc
  where-parts (Some file) {made} there e = at (survey_of file most_frames) refl e
    where
      at : (r : Result SurveyFields SurveyFault) → survey_of file most_frames ≡ r
          → surveyed_pieces cut prefix (cut.places files) file r ≡ Ok made → Splits made
      at (Err fault) surveyed e = absurd cc
      at (Ok s) surveyed e = placed-parts there surveyed e

  equal-parts : (clash : Option ℕ) {made : Made}
      → equal_names_or clash (input_pieces cut prefix (cut.places files) (files input)) ≡ Ok made
      → (clash ≡ None) × Splits made
  equal-parts (Some place) e = absurd cc
  equal-parts None {made} e = (refl, where-parts (files input) refl e)

  -- a split that isn't refused has no clash, and these pieces were made
  pub split-parts : {made : Made} → (split_command cut input prefix).makes files ≡ Ok made
      → (clash_from (piece_names prefix) 0 (input ∷ cut.more) ≡ None) × Splits made
  unfolding split_result
  split-parts {made} e = equal-parts (clash_from (piece_names prefix) 0 (input ∷ cut.more)) e

-- ---- a cue sheet

-- the bytes of a sheet that isn't too long, its starts, and the places, including the end
pub record IsCue (o : Option (List ℕ)) (places : List Place) : Type 0 where
  pub bytes : List ℕ
  pub there : o ≡ Some bytes
  pub small : length bytes ≤ longest_sheet
  pub starts : List Place
  pub read : cue_of bytes ≡ Ok starts
  pub all : starts ++ End ∷ [] ≡ places

end-parts : (r : Result (List Place) CueFault) {places : List Place} → places_to_end r ≡ Ok places
    → (starts : List Place) × (r ≡ Ok starts) × (starts ++ End ∷ [] ≡ places)
end-parts (Ok starts) e = (starts, refl, cc)
end-parts (Err fault) e = absurd cc

-- the positions are those that the bytes of the sheet list
by-sheet : (o : Option (List ℕ))
    → cue_sheet_places o ≡ then_made (sheet_in o) (λ bytes. places_to_end (cue_of bytes))
by-sheet o = refl

-- places that are read from a sheet have these parts
pub cue-parts : {o : Option (List ℕ)} {places : List Place} → cue_sheet_places o ≡ Ok places
    → IsCue o places
cue-parts {o} {places} e =
    let one =
    then_ok (sym (by-sheet o) ∙ e) in
    let is = sheet-is one.1 in
    let parts = end-parts (cue_of one.0) one.2 in
    record {
      bytes = one.0;
      there = is.there;
      small = is.small;
      starts = parts.0;
      read = parts.1;
      all =
          parts.2;
    }

-- places with these parts are the places that are read from the sheet
pub parts-cue : {o : Option (List ℕ)} {places : List Place} → IsCue o places
    → cue_sheet_places o ≡ Ok places
parts-cue {o} is =
    by-sheet o
    ∙ ap (λ (r : Result (List ℕ) EditFault). then_made r (λ bytes. places_to_end (cue_of bytes)))
    (is-sheet (record { there = is.there; small = is.small }))
    ∙ ap places_to_end is.read
    ∙ ap Ok is.all
