-- The frame is read, and passed to the writer in its slot.
use Rattle.std.proofs.Common.{ap, arith, drop, length, List, min, rules, subst, sym, take, ℕ, []}
use Rattle.std.proofs.{Common.{◌++◌, ◌+◌, ◌-◌, ◌<◌, ◌^◌, ◌∙◌, ◌∷◌, ◌≡◌, ◌≤◌}, lemmas.List.take_rest}
use Rattle.frame_header.specs.Tables.{class_of}
use Rattle.frame_writer.specs.Frames.{Frame, reach_after_frame, reach_of}
use Rattle.laying.proofs.PassLemmas.{holds-later, lays_one, part_none, part_one, ready-later}
use Rattle.laying.proofs.{PlannedFrameLemmas.begun_fits, ReachLemmas.{holds-next, IsTaken}}
use Rattle.laying.proofs.{ReadLemmas.main-next, SurveyFrameLemmas.side_fits}
use Rattle.laying.proofs.relay.Relay.frame.Goals.{After-with_area-frame, Start}
use Rattle.laying.specs.Needs.{need_of}
use Rattle.laying.specs.Passing.{GivesPart, HoldsLastWithBytes, IsAreaOf, own_reach, relay_frame}
use Rattle.outside.{proofs.BufferOutputLemmas.err_at, specs.Files.{Files, Holds}}
use Rattle.side_info.specs.{FrameFields.FrameFields, Side.{front_width, SideFits}}
use Rattle.slot_plan.specs.declared.needs.Placed.{Placed as PlacedFields}
use Rattle.sync_survey.specs.{Faults.{survey_view, SurveyFields}, MainData.row_side, Row.Row}
use Rattle.laying.proofs.relay.Relay.frame.Given as given
use Rattle.laying.proofs.relay.Relay.frame.Goals as goal

-- header and side information at a place of a plan
abbrev placed : Row → PlacedFields → FrameFields
placed r p = record {
  header = record r.header { slot = p.slot };
  side = record (row_side r) { main_data_begin = p.begin };
}

-- the front that the writer gets
front : (g : given.Over) (c : After-with_area-frame g) → c.with_area-frame.result ≡ record {
  kept = placed c.args.known.now.row.now c.args.place.now;
  payload = c.cut_payload-payload.result;
}
front g c = grind arith

-- the bytes are those that the feed gave
with-bytes : (window bytes given input : List ℕ) (files : Files) (s : SurveyFields) (i n : ℕ)
    → bytes ≡ given → HoldsLastWithBytes window (take n given) input files s i
    → HoldsLastWithBytes window (take n bytes) input files s i
with-bytes window bytes given input files s i n same = grind arith

area-bytes : (bytes given input : List ℕ) (files : Files) (r : Row) (n : ℕ) → bytes ≡ given
    → IsAreaOf (drop n given) input files r
    → IsAreaOf (take (length bytes - n) (drop n bytes)) input files r
area-bytes bytes given input files r n same = grind (arith, take_rest)

-- the writer gets the frame in its slot
told : (g : given.Over) (c : After-with_area-frame g) → (file : List ℕ)
    → Holds (g.D.Folder.seen c.fill_frame.new.folder).files c.args.self.now.pass.input.now file
    → c.with_area-frame.result ∷ [] ≡ relay_frame c.args.self.now c.args.reading.now.next
    c.args.known.now.row.now c.args.place.now file
told g c file holds =
    let s = survey_view c.args.self.now.survey.now in
    let input = c.args.self.now.pass.input.now in
    let i = c.args.reading.now.next in
    let span = c.in_ok-span.span in
    let mid = (g.D.Folder.seen c.fill_frame.new.folder).files in
    let over = with-bytes c.fill_frame.new.window c.bytes-bytes.result.now _ input mid s i
    span.before c.bytes-bytes.ensures c.in_ok-span.ensures.given.over in
    let has = area-bytes c.bytes-bytes.result.now _ input mid
    c.args.known.now.row.now span.skip c.bytes-bytes.ensures c.in_ok-span.ensures.given.area in
    let payload = c.cut_payload-payload.ensures.told file over.passed over.long
    ((λ j. over.is file holds j ++ has.is file holds j)
    ∙ sym (main-next file s.head s.frames i c.requires.next.found)) in
    ap (λ (f : Frame). f ∷ []) (front g c ∙
    (λ j. record { kept = placed c.args.known.now.row.now c.args.place.now; payload = payload j }))

-- how far back main data may begin after it
writer-reach : (g : given.Over) (c : After-with_area-frame g) (reach : ℕ)
    → reach ≡ reach_after_frame c.args.buffers.now.writer.class c.with_area-frame.result
    → reach ≡ own_reach c.args.self.now c.args.known.now.row.now c.args.place.now
writer-reach g c reach is = grind (arith, front)

-- the class of the survey is the class of the frame
class : (g : given.Over) (c : Start g)
    → c.args.known.now.class ≡ class_of c.args.known.now.row.now.header
class g c = c.requires.next.known ∙ sym (c.requires.stands.on.ready.laid.placed
    c.args.reading.now.next c.args.known.now.row.now c.requires.next.found).class_is

-- what the writer gets fits the class
fits : (g : given.Over) (c : Start g) → SideFits c.args.buffers.now.writer.class
    (placed c.args.known.now.row.now c.args.place.now).side
fits g c =
    let s = survey_view c.args.self.now.survey.now in
    let row = c.args.known.now.row.now in
    let d = c.args.buffers.now.writer.class in
    let well =
    c.requires.stands.on.ready.laid.placed c.args.reading.now.next row c.requires.next.found in
    begun_fits (subst (λ k. SideFits k (row_side row))
    (sym c.requires.stands.on.class) (side_fits row.lost well.fits))
    (omega (arith, c.requires.begin))

pub extent_in-extent-requires : goal.extent_in-extent-requires
extent_in-extent-requires g c = class g (goal.at.extent_in-extent-requires g c).Start
    ∙ sym (ap (λ f. class_of f.header) c.front.ensures)

pub place_front-requires-clause-begin : goal.place_front-requires-clause-begin
place_front-requires-clause-begin g c =
    let at = (goal.at.place_front-requires-clause-begin g c).Start in
    let d : c.args.buffers.now.writer.class ≡ class_of c.args.known.now.row.now.header =
    c.requires.stands.on.class ∙ sym c.requires.next.known ∙ class g at in
    subst (λ k. c.args.place.now.begin < 2 ^ front_width k 0) d (fits g at).main_data_begin

pub with_area-frame-requires : goal.with_area-frame-requires
with_area-frame-requires g c = grind (arith, class g)

pub returns-in_err-span-clause-gives : goal.returns-in_err-span-clause-gives
returns-in_err-span-clause-gives g c = search (rules, err_at, part_none)

pub write_frame-requires-clause-next : goal.write_frame-requires-clause-next
write_frame-requires-clause-next g c =
    let at = goal.at.write_frame-requires-clause-next g c in
    record {
      class = grind (arith, front g at.After-with_area-frame, class g at.Start);
      fits = grind (arith, front g at.After-with_area-frame, fits g at.Start);
      begin = search rules;
      within = search rules;
      few = search rules;
      unsettled = search rules;
    }

pub cut_payload-payload-requires : goal.cut_payload-payload-requires
cut_payload-payload-requires g c =
    let s = survey_view c.args.self.now.survey.now in
    let input = c.args.self.now.pass.input.now in
    let mid = (g.D.Folder.seen c.fill_frame.new.folder).files in
    let span = c.in_ok-span.span in
    let over = with-bytes c.fill_frame.new.window c.bytes-bytes.result.now _ input mid s
    c.args.reading.now.next span.before c.bytes-bytes.ensures c.in_ok-span.ensures.given.over in
    record {
      placed = c.requires.stands.on.ready.laid.placed;
      found = c.requires.next.found;
      begin = search rules;
      bits = search rules;
      area = (area-bytes c.bytes-bytes.result.now _ input mid c.args.known.now.row.now span.skip
          c.bytes-bytes.ensures c.in_ok-span.ensures.given.area).long;
      few = over.few;
      over = over.reaches;
    }

pub returns-in_err-write_frame-clause-gives : goal.returns-in_err-write_frame-clause-gives
returns-in_err-write_frame-clause-gives g c = record {
  lays = search rules;
  part = let at = goal.at.returns-in_err-write_frame-clause-gives g c in
      let self = c.args.self.now in
      let made =
      relay_frame self c.args.reading.now.next c.args.known.now.row.now c.args.place.now in
      let last = own_reach self c.args.known.now.row.now c.args.place.now in
      let seen = g.D.Folder.seen in
      let reach = writer-reach g at.After-with_area-frame (reach_of c.write_frame.new.writer)
      c.write_frame.ensures.reach in
      err_at c.from_residual-in_err-write_frame.result _
      c.from_residual-in_err-write_frame.ensures.1
      (subst (λ f. GivesPart self made last c.args.buffers.now f
      (seen c.write_frame.new.folder).files c.in_err-write_frame.field-0.0)
      c.fill_frame.ensures.reads.files
      (part_one self.pass.input.now self.pass.output.now (told g at.After-with_area-frame)
      (omega (arith, reach)) c.in_err-write_frame.ensures.part));
  reach = search rules;
  done = search rules;
  cause = search (arith, err_at);
}

pub returns-clause-gives : goal.returns-clause-gives
returns-clause-gives g c = grind (arith, lays_one, told, writer-reach)

pub returns-clause-stands : goal.returns-clause-stands
returns-clause-stands g c = record {
  on = record {
    ready = let on = c.in_ok-write_frame.ensures.written in
        ready-later on.passed on.files c.fill_frame.ensures.reads.ready;
    class = search rules;
    unsettled = search rules;
  };
  over = let on = c.in_ok-write_frame.ensures.written in
      let s = survey_view c.args.self.now.survey.now in
      let i = c.args.reading.now.next in
      let row = c.args.known.now.row.now in
      let span = c.in_ok-span.span in
      let bytes = c.bytes-bytes.result.now in
      let input = c.args.self.now.pass.input.now in
      let mid = (g.D.Folder.seen c.fill_frame.new.folder).files in
      let well = c.requires.stands.on.ready.laid.placed i row c.requires.next.found in
      let over = with-bytes c.fill_frame.new.window bytes _ input mid s i
      span.before c.bytes-bytes.ensures c.in_ok-span.ensures.given.over in
      let own = take (length bytes - span.skip) (drop span.skip bytes) in
      let has = area-bytes bytes _ input mid row
      span.skip c.bytes-bytes.ensures c.in_ok-span.ensures.given.area in
      let bytes_is : (c.len.result ≡ 0 → c.taken_before-taken.result ≡ 0)
      × (0 < c.len.result → c.taken_before-taken.result ≡ min (length (take span.before bytes))
      (length (take span.before bytes) + c.len.result - c.from.result)) =
      (c.taken_before-taken.ensures.none, c.taken_before-taken.ensures.some) in
      let taken_is : IsTaken (length (take span.before bytes))
      (need_of row).bytes row.side.main_data_begin c.taken_before-taken.result =
      subst (λ n. IsTaken (length (take span.before bytes)) n row.side.main_data_begin
      c.taken_before-taken.result) (c.len.ensures ∙ c.cut_payload-payload.ensures.size)
      (subst (λ n. IsTaken (length (take span.before bytes)) c.len.result n
      c.taken_before-taken.result) (c.from.ensures ∙ c.extent_in-extent.ensures.begin
      ∙ ap (λ f. f.side.main_data_begin) c.front.ensures) bytes_is) in
      let within : span.at + length own ≤ s.length =
      subst (λ (l : List ℕ). span.at + length l ≤ s.length)
      (ap (drop span.skip) (sym c.bytes-bytes.ensures) ∙ sym (take_rest bytes span.skip))
      c.in_ok-span.ensures.given.ends in
      holds-later on.passed
      c.requires.stands.on.ready.pass.apart on.files
      (holds-next c.pass_area.new.window over c.requires.next.found has well taken_is
      c.pass_area.ensures c.in_ok-span.ensures.given.at within);
}
