-- What is before the frames, and the frames after it.
use Rattle.std.proofs.{Common.refl, lemmas.Result.on_ok_weaker}
use Rattle.frame_writer.specs.Frames.{bytes_of_frames}
use Rattle.outside.proofs.BufferOutputLemmas.{err_at, err_by}
use Rattle.outside.proofs.PassLemmas.{prefix_as, prefix_then, writes_then}
use Rattle.remove_edits.{proofs.PassLemmas.some-size-behind, specs.Ready.{laid_parts, parts_front}}
use Rattle.slot_plan.specs.Plans.{entries}
use Rattle.sync_survey.specs.Faults.{survey_view}
use Rattle.remove_edits.proofs.work.write_parts.Goals as goal

pub returns-in_err-write_front-clause-prefix : goal.returns-in_err-write_front-clause-prefix
returns-in_err-write_front-clause-prefix g c =
    let s = survey_view c.args.relay.now.survey.now in
    let parts = c.args.parts.now in
    let work = c.args.work.now in
    err_at c.from_residual.result _ c.from_residual.ensures.1
    (prefix_as c.args.relay.now.pass (parts_front s parts work)
    (λ file. bytes_of_frames (laid_parts s parts (entries work.plan) file)) (λ file holds. refl)
    (rw c.as_slice.ensures.value at c.in_err-write_front.ensures.adds.prefix))

pub returns-clause-written : goal.returns-clause-written
returns-clause-written g c =
    on_ok_weaker c.lay_parts.result
    (λ written. writes_then c.requires.ready.pass.apart
    (rw c.as_slice.ensures.value at c.in_ok-write_front.ensures.adds.written) written)
    (rw c.placed.ensures at c.lay_parts.ensures.written)

pub returns-clause-prefix : goal.returns-clause-prefix
returns-clause-prefix g c =
    err_by c.lay_parts.result
    (λ fault part. prefix_then c.requires.ready.pass.apart
    (rw c.as_slice.ensures.value at c.in_ok-write_front.ensures.adds.written) part)
    (rw c.placed.ensures at c.lay_parts.ensures.prefix)

pub returns-clause-cause : goal.returns-clause-cause
returns-clause-cause g c =
    some-size-behind c.in_ok-write_front.ensures.adds.written
    c.in_ok-write_front.ensures.adds.done _ c.lay_parts.result c.lay_parts.ensures.cause
