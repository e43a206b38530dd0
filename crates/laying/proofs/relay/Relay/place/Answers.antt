-- A lead-in, or the frame.
use Rattle.std.proofs.Common.{arith, Bool, cond, false, List, min, rules, subst, sym, ℕ, [], ◌+◌}
use Rattle.std.proofs.Common.{◌-◌, ◌∙◌, ◌∷◌}
use Rattle.frame_header.specs.Tables.{area_of, class_of}
use Rattle.frame_writer.{proofs.WritingLemmas.ok-map, specs.Frames.Frame}
use Rattle.laying.proofs.PassLemmas.{holds-later, lays_one, part_one, ready-later}
use Rattle.laying.{proofs.RelayLemmas.reach-lead, specs.Needs.need_of}
use Rattle.laying.specs.Passing.{GivesFrames, GivesPart, survey_window}
use Rattle.laying.specs.Relaid.{frame_with_place, lead_in_before, survey_frame}
use Rattle.laying.specs.declared.relay.Relay.{Relay}
use Rattle.outside.proofs.BufferOutputLemmas.{err_at, err_by}
use Rattle.slot_plan.specs.declared.needs.Placed.{Placed}
use Rattle.sync_survey.specs.{Faults.survey_view, Row.Row}
use Rattle.laying.proofs.relay.Relay.place.Goals as goal

pub lead_in-requires-clause-class : goal.lead_in-requires-clause-class
lead_in-requires-clause-class g c = (c.requires.stands.on.ready.laid.placed c.args.reading.now.next
    c.args.known.now.row.now c.requires.next.found).class_is ∙ sym c.requires.stands.on.class

-- what is at a place of the plan, and how far back main
-- data may begin after it, by whether it is a lead-in
abbrev frame_by : Relay → ℕ → Row → Placed → Bool → List ℕ → List Frame
frame_by relay i row p lead file = cond lead (lead_in_before p row.header)
    (frame_with_place p (survey_frame file (survey_view relay.survey.now) i row)) ∷ []

abbrev reach_by : Relay → Row → Placed → Bool → ℕ
reach_by relay row p lead = min (survey_window (survey_view relay.survey.now))
    (p.begin + area_of (class_of row.header) p.slot (cond lead false row.header.protected)
    - cond lead 0 (need_of row).bytes)

pub returns-in_err-lead_in-clause-gives : goal.returns-in_err-lead_in-clause-gives
returns-in_err-lead_in-clause-gives g c = search (rules, reach-lead, err_at, part_one)

pub returns-else-place-clause-gives : goal.returns-else-place-clause-gives
returns-else-place-clause-gives g c = record {
  lays = ok-map c.frame.result
      (λ lays. subst
      (λ lead. GivesFrames c.args.self.now (frame_by c.args.self.now c.args.reading.now.next
      c.args.known.now.row.now c.args.place.now lead) c.args.buffers.now c.frame.new.buffers
      (g.D.Folder.seen c.args.folder.now).files (g.D.Folder.seen c.frame.new.folder).files)
      (sym c.if-place.false) lays)
      c.frame.ensures.gives.lays;
  part = err_by c.frame.result
      (λ fault part. subst
      (λ lead. GivesPart c.args.self.now (frame_by c.args.self.now c.args.reading.now.next
      c.args.known.now.row.now c.args.place.now lead)
      (reach_by c.args.self.now c.args.known.now.row.now c.args.place.now lead) c.args.buffers.now
      (g.D.Folder.seen c.args.folder.now).files (g.D.Folder.seen c.frame.new.folder).files fault)
      (sym c.if-place.false) part)
      c.frame.ensures.gives.part;
  reach = search rules;
  done = search rules;
  cause = search rules;
}

pub returns-in_ok-lead_in-clause-gives : goal.returns-in_ok-lead_in-clause-gives
returns-in_ok-lead_in-clause-gives g c = grind (arith, lays_one)

pub returns-in_ok-lead_in-clause-stands : goal.returns-in_ok-lead_in-clause-stands
returns-in_ok-lead_in-clause-stands g c = record {
  on = record {
    ready = let self = c.args.self.now in
        let on = c.in_ok-lead_in.ensures.written in
        ready-later on.passed on.files c.requires.stands.on.ready;
    class = search rules;
    unsettled = search rules;
  };
  over = let self = c.args.self.now in
      let on = c.in_ok-lead_in.ensures.written in
      holds-later on.passed c.requires.stands.on.ready.pass.apart on.files c.requires.stands.over;
}
