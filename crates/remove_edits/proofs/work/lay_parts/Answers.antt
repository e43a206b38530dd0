-- The ranges of the parts are laid.
use Rattle.std.proofs.Common.{ap, append-nil, flat_map, subst, sym, [], ◌∙◌}
use Rattle.frame_header.specs.Tables.{window_of}
use Rattle.frame_writer.specs.Frames.{bytes_of_frames, reach_of}
use Rattle.laying.specs.{Fits.FitsFromReach, Needs.needs_of_parts}
use Rattle.laying.specs.Relaid.{part_frames, relaid_frames}
use Rattle.outside.{proofs.PassLemmas.{prefix_as, writes_as}, specs.Pass.{HasPassCause, route}}
use Rattle.remove_edits.proofs.RangeLemmas.{names-same, ranges-pass, ranges-rows, ranges-told}
use Rattle.remove_edits.specs.Ready.{laid_parts}
use Rattle.sync_survey.specs.Faults.{survey_view}
use Rattle.remove_edits.proofs.work.lay_parts.Goals as goal

pub lay_all-requires-clause-pass : goal.lay_all-requires-clause-pass
lay_all-requires-clause-pass g c = ranges-pass c.args.parts.now c.requires.ready c.requires.some

pub lay_all-requires-clause-fits : goal.lay_all-requires-clause-fits
lay_all-requires-clause-fits g c =
    let s = survey_view c.args.relay.now.survey.now in
    subst (λ l. FitsFromReach (window_of s.class.version) (reach_of c.args.buffers.now.writer)
    (needs_of_parts l) c.args.placed.now)
    (sym (ranges-rows c.args.relay.now.pass.input.now s c.args.parts.now)) c.requires.fits

pub returns-in-Ok-clause-written : goal.returns-in-Ok-clause-written
returns-in-Ok-clause-written g c =
    let relay = c.args.relay.now in
    let s = survey_view relay.survey.now in
    writes_as relay.pass
    (λ file holds. ap (λ l. bytes_of_frames (relaid_frames (flat_map part_frames l)
    c.args.placed.now)) (ranges-told _ relay.pass.input.now file s c.args.parts.now holds))
    c.in-Ok.ensures.written

pub returns-in-Err-clause-prefix : goal.returns-in-Err-clause-prefix
returns-in-Err-clause-prefix g c =
    let relay = c.args.relay.now in
    let s = survey_view relay.survey.now in
    prefix_as relay.pass
    (λ file. bytes_of_frames (laid_parts s c.args.parts.now c.args.placed.now file)) (λ file. [])
    (λ file holds. sym (append-nil _ ∙ ap (λ l. bytes_of_frames (relaid_frames
    (flat_map part_frames l) c.args.placed.now))
    (ranges-told _ relay.pass.input.now file s c.args.parts.now holds)))
    c.in-Err.ensures.prefix

pub returns-in-Err-clause-cause : goal.returns-in-Err-clause-cause
returns-in-Err-clause-cause g c =
    let relay = c.args.relay.now in
    let h = c.in-Err.ensures.cause in
    let old = g.D.Folder.seen c.args.folder.now in
    let new = g.D.Folder.seen c.lay_all.new.folder in (
      h.size,
      subst (λ n. HasPassCause (route n relay.pass.output.now h.size) old.files old.counts
          new.counts c.in-Err.stopped.fault)
          (names-same relay.pass.input.now (survey_view relay.survey.now) c.args.parts.now
          c.in-Err.stopped.number h.within) h.cause,
    )
