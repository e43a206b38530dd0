-- The main data of the frame of the input, or why the input can't be read.
use Rattle.std.proofs.Common.{ap, arith, length, map, refl, subst, [], ◌<◌}
use Rattle.std.proofs.lemmas.List.{length-map}
use Rattle.joined_inputs.specs.Inputs.{input_names, input_view, InputFields}
use Rattle.seamless_edits.proofs.FramePlaceLemmas.{frame-within, get-index, input-within, known-at}
use Rattle.seamless_edits.proofs.FramePlaceLemmas.{map-get, payload-told}
use Rattle.seamless_edits.{proofs.ReadFaultLemmas.stops-among, specs.Reading.IsMainDataOf}
use Rattle.sync_survey.specs.Faults.{survey_view, SurveyFields}
use Rattle.seamless_edits.proofs.sounds.main_data.Goals as goal

pub source_at-source-requires : goal.source_at-source-requires
source_at-source-requires g c =
    omega (
      arith,
      input-within c.requires.there,
      length-map c.args.inputs.now input_view,
    )

pub main_data-requires-clause-held : goal.main_data-requires-clause-held
main_data-requires-clause-held g c =
    let source = c.source_at-source.ensures in
    rw (source.name, source.survey) (known-at
    (map input_view c.args.inputs.now) c.args.place.input c.requires.held source.at)

pub main_data-requires-clause-within : goal.main_data-requires-clause-within
main_data-requires-clause-within g c =
    let source = c.source_at-source.ensures in
    omega (
      arith,
      frame-within
          c.requires.there source.at,
      ap (λ (s : SurveyFields). length s.frames) source.survey,
    )

pub returns-in-Ok-clause-payload : goal.returns-in-Ok-clause-payload
returns-in-Ok-clause-payload g c =
    let source = c.source_at-source.ensures in
    let files = (g.D.Folder.seen c.args.folder.now).files in
    payload-told files c.requires.held c.requires.there source.at
    (subst (λ (s : SurveyFields). IsMainDataOf source.item.name files s c.args.place.frame
    c.main_data.new.into.items) source.survey
    (subst (λ n. IsMainDataOf n files (survey_view c.source_at-source.result.survey.now)
    c.args.place.frame c.main_data.new.into.items) source.name c.in-Ok.ensures.payload))

pub returns-in-Err-clause-stopped : goal.returns-in-Err-clause-stopped
returns-in-Err-clause-stopped g c =
    let inputs = map input_view c.args.inputs.now in
    let seen = g.D.Folder.seen in
    let source = c.source_at-source.ensures in
    let place = c.args.place.input in
    let within : place < length (input_names inputs) =
    omega (
      arith,
      input-within c.requires.there,
      length-map inputs (λ (i : InputFields). i.name),
    ) in
    stops-among within
    (get-index (input_names inputs) place []
    (map-get (λ (i : InputFields). i.name) inputs place source.at))
    (record {
      place_is = refl;
      size = (survey_view c.source_at-source.result.survey.now).length;
      cause = rw source.name at c.in-Err.ensures.reads.cause;
      read = c.in-Err.ensures.reads.read;
    })
