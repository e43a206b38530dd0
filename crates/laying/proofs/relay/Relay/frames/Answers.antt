-- The places of the plan, in order.
use Rattle.std.proofs.Common.{ap, append_assoc, arith, cond, drop, length, List, map, refl, rules}
use Rattle.std.proofs.Common.{slice_get, slice_range, Some, subst, sym, ℕ, [], ◌++◌, ◌+◌, ◌<◌, ◌∙◌}
use Rattle.std.proofs.{Common.{◌∷◌, ◌≡◌, ◌≤◌}, lemmas.{List.drop_all, Result.err_from_is_err_and}}
use Rattle.frame_header.specs.Tables.{window_of}
use Rattle.frame_writer.specs.{Frames.{all_frame_data, Frame, reach_of}, Laid.BeginsWithin}
use Rattle.laying.proofs.{HoldLemmas.needs-range, PassLemmas.{lays_none, lays_then, part_then}}
use Rattle.laying.proofs.ReachLemmas.{over-holds}
use Rattle.laying.proofs.RelayLemmas.{begins-left, fits-next, fits-none, fits-some, found-at}
use Rattle.laying.proofs.RelayLemmas.{item-next, last-next, lays-all, part_more, relaid_frames-end}
use Rattle.laying.proofs.RelayLemmas.{relaid_frames-next, step-most}
use Rattle.laying.proofs.relay.Relay.frames.Goals.{After-index-rows-reading, After-place-item}
use Rattle.laying.specs.Fits.{FitsFromReach, last_reach, placed_area, placed_bytes, reach_behind}
use Rattle.laying.specs.{Needs.need_of, Passing.writing_in}
use Rattle.laying.specs.Relaid.{all_frames, planned_frame, relaid_frames, survey_frame}
use Rattle.outside.{proofs.{BufferOutputLemmas.err_at, PassLemmas.cause_later}, specs.Files.Holds}
use Rattle.slot_plan.specs.declared.needs.Placed.{Placed}
use Rattle.sync_survey.specs.{Faults.{survey_view, SurveyFields}, Row.Row}
use Rattle.laying.proofs.relay.Relay.frames.Given as given
use Rattle.laying.proofs.relay.Relay.frames.Goals as goal

pub loop-place-init : goal.loop-place-init
loop-place-init g c =
    let self = c.args.self.now in
    record {
      stands = record {
        on = c.requires.stands;
        over = over-holds c.requires.over;
      };
      early = c.requires.ordered;
      fits = c.requires.fits;
      reach = refl;
      lays = record {
        made = λ file. [];
        lays = lays_none self.pass.input.now self.pass.output.now
            (writing_in c.args.buffers.now)
            c.requires.stands.ready.pass.target (λ file holds. refl);
        left = λ file holds. refl;
      };
      counts = refl;
    }

-- frame i at the next place
module _ (g : given.Over) (c : After-index-rows-reading g) where
  abbrev s : SurveyFields
  s = survey_view c.args.self.now.survey.now

  abbrev p : Placed
  p = c.place-item.result

  abbrev row : Row
  row = c.index-rows-reading.result

  abbrev i : ℕ
  i = c.loop-place.reading.next

  abbrev to : ℕ
  to = c.args.to

  abbrev more : List Placed
  more = drop (c.loop-place.place-index + 1) c.args.placed.now

  abbrev window : ℕ
  window = window_of s.class.version

  abbrev reach : ℕ
  reach = reach_of c.loop-place.buffers.writer

  left : drop c.loop-place.place-index c.args.placed.now ≡ p ∷ more
  left = grind (arith, item-next)

  fits : FitsFromReach window reach (map need_of (slice_range s.frames i to)) (p ∷ more)
  fits = grind (arith, slice_range, left)

  some : i < to
  some = fits-some window reach s p more fits

  found : slice_get s.frames i ≡ Some row
  found = grind (arith, found-at, some)

  module _ {next : ℕ} (next_is : next ≡ i + cond p.lead_in 0 1) where
    opened : (p.begin ≤ reach)
        × (placed_bytes p.lead_in (need_of row) ≤ p.begin + placed_area p (need_of row))
        × FitsFromReach window
        (reach_behind window p (need_of row)) (map need_of (slice_range s.frames next to)) more
    opened = fits-next s p more found some next_is window fits

    last_is : last_reach window (reach_behind window p (need_of row))
        (map need_of (slice_range s.frames next to)) more
        ≡ last_reach window (reach_of c.args.buffers.now.writer)
        (map need_of (slice_range s.frames c.args.from to)) c.args.placed.now
    last_is = sym (ap (last_reach window reach (map need_of (slice_range s.frames i to))) left
        ∙ last-next s p more found some next_is window reach)
        ∙ c.loop-place.invariant.reach

    abbrev one : List ℕ → List Frame
    one file = planned_frame p (survey_frame file s i row) ∷ []

    abbrev rest : List ℕ → List Frame
    rest file = relaid_frames (slice_range (all_frames file s) next to) more

    split : (file : List ℕ)
        → Holds (g.D.Folder.seen c.args.folder.now).files c.args.self.now.pass.input.now file
        → (c.loop-place.invariant.lays.made file ++ one file) ++ rest file
        ≡ relaid_frames (slice_range (all_frames file s) c.args.from to) c.args.placed.now
    split file holds =
        append_assoc (c.loop-place.invariant.lays.made file) (one file) (rest file)
        ∙ ap (λ (l : List Frame). c.loop-place.invariant.lays.made file ++ l)
        (sym (ap (relaid_frames (slice_range (all_frames file s) i to)) left
        ∙ relaid_frames-next s p more found some next_is file))
        ∙ sym (c.loop-place.invariant.lays.left file holds)

pub place-requires-clause-next : goal.place-requires-clause-next
place-requires-clause-next g c = search (rules, found)

pub place-requires-clause-begin : goal.place-requires-clause-begin
place-requires-clause-begin g c =
    (opened g (goal.at.place-requires-clause-begin g c).After-index-rows-reading refl).0

pub place-requires-clause-within : goal.place-requires-clause-within
place-requires-clause-within g c =
    (opened g (goal.at.place-requires-clause-within g c).After-index-rows-reading refl).1

pub returns-in_err-reading-clause-gives : goal.returns-in_err-reading-clause-gives
returns-in_err-reading-clause-gives g c = record {
  lays = search rules;
  part = let at = (goal.at.returns-in_err-reading-clause-gives g c).After-index-rows-reading in
      let self = c.args.self.now in
      let s = survey_view self.survey.now in
      let seen = g.D.Folder.seen in
      let sofar = c.loop-place.invariant.lays in
      let p = c.place-item.result in
      let row = c.index-rows-reading.result in
      let to = c.args.to in
      let placed = c.args.placed.now in
      let window = window_of s.class.version in
      let reach = reach_behind window p (need_of row) in
      let next = c.loop-place.reading.next + cond p.lead_in 0 1 in
      let last = last_reach window (reach_of c.args.buffers.now.writer)
      (map need_of (slice_range s.frames c.args.from to)) placed in
      let one =
      λ (file : List ℕ). planned_frame p (survey_frame file s c.loop-place.reading.next row) ∷ [] in
      err_at c.from_residual.result _ c.from_residual.ensures.1
      (part_more
      (rest g at refl)
      (λ file holds later begins.
      let has = c.requires.stands.ready.exact file holds in
      begins-left window reach (map need_of (slice_range s.frames next to))
      (slice_range (all_frames file s) next to) (drop (c.loop-place.place-index + 1) placed) later
      (needs-range next to has) (opened g at refl).2
      (subst (λ n. BeginsWithin n (all_frame_data later)) (sym (last_is g at refl)) begins))
      (split g at refl)
      (part_then self.pass.input.now self.pass.output.now one
      c.requires.stands.ready.pass.apart sofar.lays
      c.in_err-reading.ensures.gives.part));
  reach = search rules;
  done = search rules;
  cause = let s = survey_view c.args.self.now.survey.now in
      let sofar = c.loop-place.invariant.lays in
      let q = err_from_is_err_and c.from_residual.result c.from_residual.ensures.1 in
      rw (q.1, q.2)
      (cause_later _
      (g.D.Folder.seen c.args.folder.now).files c.args.self.now.pass.output.now sofar.lays.passed _
      _ sofar.lays.files c.loop-place.invariant.counts c.in_err-reading.ensures.gives.cause);
}

pub loop-place-preserved : goal.loop-place-preserved
loop-place-preserved g c =
    let at = (goal.at.loop-place-preserved g c).After-index-rows-reading in
    let self = c.args.self.now in
    let s = survey_view self.survey.now in
    let seen = g.D.Folder.seen in
    let inv = c.loop-place.invariant in
    let p = c.place-item.result in
    let next_is = c.in_ok-reading.ensures.next in
    let needs = map need_of (slice_range s.frames c.in_ok-reading.reading.next c.args.to) in
    let more = drop (c.loop-place.place-index + 1) c.args.placed.now in
    let window = window_of s.class.version in
    let one = λ (file : List ℕ).
    planned_frame p (survey_frame file s c.loop-place.reading.next c.index-rows-reading.result)
    ∷ [] in
    record {
      stands = c.in_ok-reading.ensures.stands;
      early = omega (arith, next_is, step-most p.lead_in, some g at);
      fits =
          subst (λ n. FitsFromReach window n needs more) (sym c.in_ok-reading.ensures.gives.reach)
          (opened g at next_is).2;
      reach = ap (λ n. last_reach window n needs more) c.in_ok-reading.ensures.gives.reach
          ∙ last_is g at next_is;
      lays = record {
        made = λ file. inv.lays.made file ++ one file;
        lays = lays_then self.pass.input.now self.pass.output.now one
            c.requires.stands.ready.pass.apart inv.lays.lays
            c.in_ok-reading.ensures.gives.lays;
        left = λ file holds. sym (split g at next_is file holds);
      };
      counts = c.in_ok-reading.ensures.gives.done ∙ inv.counts;
    }

pub returns-clause-gives : goal.returns-clause-gives
returns-clause-gives g c = search (rules, drop_all, lays-all, relaid_frames-end, fits-none)

-- if there is a place, there is a frame
bounded : (g : given.Over) (c : After-place-item g)
    → c.loop-place.reading.next < length c.frames-rows.result.now
bounded g c =
    let s = survey_view c.args.self.now.survey.now in
    let placed = c.args.placed.now in
    let k = c.loop-place.place-index in
    let p = c.place-item.result in
    let window = window_of s.class.version in
    let reach = reach_of c.loop-place.buffers.writer in
    let left : drop k placed ≡ p ∷ drop (k + 1) placed = grind (arith, item-next) in
    let within = fits-some window reach s p
    (drop (k + 1) placed) (subst (FitsFromReach window reach (map need_of (slice_range s.frames
    c.loop-place.reading.next c.args.to))) left c.loop-place.invariant.fits) in
    omega (arith, within, c.requires.within, ap length c.frames-rows.ensures)

pub offset_bounds-rows-reading : goal.offset_bounds-rows-reading
offset_bounds-rows-reading g c = grind (arith, bounded)

pub bounds-rows-reading : goal.bounds-rows-reading
bounds-rows-reading g c = search (rules, bounded)
