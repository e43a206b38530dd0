-- One more area is read, up to frame i; then the last 2,048 bytes are there, or all.
use Rattle.std.proofs.Common.{ap, arith, slice_get, Some, subst, ◌+◌, ◌∙◌, ◌≡◌, ◌≤◌, ◌⊎◌}
use Rattle.frame_header.specs.Tables.{class_of, length_of}
use Rattle.laying.proofs.{ReadLemmas.{area-next, laid-within, last-whole}, RelayLemmas.read-at}
use Rattle.laying.proofs.areas.read_before.Goals.{After-index-rows-at}
use Rattle.laying.specs.Passing.{IsWindowOverLast}
use Rattle.sync_survey.specs.{Faults.SurveyFields, MainData.place}
use Rattle.laying.proofs.areas.read_before.Given as given
use Rattle.laying.proofs.areas.read_before.Goals as goal

-- the frame at the place
found : (g : given.Over) (c : After-index-rows-at g)
    → slice_get (g.S.AreaSource.fields c.args.source.now).frames c.loop-at.at
    ≡ Some c.index-rows-at.result
found g c = grind (arith, read-at)

pub push_area-requires-clause-within : goal.push_area-requires-clause-within
push_area-requires-clause-within g c =
    let source = c.args.source.now in
    let s = g.S.AreaSource.fields source in
    let held =
    g.met.S.AreaSource.held source (g.D.Folder.seen c.loop-at.folder).files c.loop-at.buffer
    c.loop-at.invariant.ready in
    omega (
      arith,
      laid-within s.first s.frames c.loop-at.at held.laid.frames
          (found g (goal.at.push_area-requires-clause-within g c).After-index-rows-at),
      c.from.ensures,
      c.offset.ensures,
      ap (λ h. length_of (class_of h) h.slot) c.header.ensures,
    )

pub loop-at-preserved : goal.loop-at-preserved
loop-at-preserved g c =
    let source = c.args.source.now in
    let seen = g.D.Folder.seen in
    record {
      early = omega (arith, c.loop-at-test.true);
      over = area-next
          (found g (goal.at.loop-at-preserved g c).After-index-rows-at)
          c.push_area.ensures.reads.files (c.from.ensures ∙ c.offset.ensures) c.header.ensures
          c.loop-at.invariant.over c.in_ok-push_area.ensures.area;
      ready = c.push_area.ensures.ready;
      files = c.push_area.ensures.reads.files ∙ c.loop-at.invariant.files;
      counts = c.in_ok-push_area.ensures.reads.done ∙ c.loop-at.invariant.counts;
    }

pub returns-clause-over : goal.returns-clause-over
returns-clause-over g c =
    let source = c.args.source.now in
    let s = g.S.AreaSource.fields source in
    let input = (g.S.AreaSource.way source).input in
    let files = (g.D.Folder.seen c.loop-at.folder).files in
    let held = g.met.S.AreaSource.held source files c.loop-at.buffer c.loop-at.invariant.ready in
    last-whole files held.there
    (subst (λ (x : SurveyFields). (c.first_held-first.result ≡ 0)
    ⊎ (place x.head x.frames c.first_held-first.result + 2048 ≤ place x.head x.frames c.args.i))
    c.survey-survey.ensures c.first_held-first.ensures.held)
    (subst (IsWindowOverLast c.loop-at.window input files s c.first_held-first.result)
    (omega (arith, c.loop-at-test.false, c.loop-at.invariant.early)) c.loop-at.invariant.over)
