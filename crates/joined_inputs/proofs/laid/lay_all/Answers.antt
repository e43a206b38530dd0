-- Range by range.
use Rattle.std.proofs.Common.{ap, arith, drop, length, List, refl, rules, sym, take, ℕ, ◌-◌, ◌∙◌}
use Rattle.std.proofs.Common.{◌∷◌}
use Rattle.std.proofs.lemmas.List.{drop-drop, drop_all, length-drop, length-map, take_rest}
use Rattle.frame_writer.specs.Frames.{Frame}
use Rattle.joined_inputs.proofs.StepLemmas.{both-fit, cause-at, cause-named, laid-all, laid-none}
use Rattle.joined_inputs.proofs.StepLemmas.{named-first, next-class, next-laid, next-ordered}
use Rattle.joined_inputs.proofs.StepLemmas.{next-part, next-source, next-within, source-ready}
use Rattle.joined_inputs.proofs.laid.lay_all.Goals.{After-finish}
use Rattle.joined_inputs.specs.Ranges.{laid_ranges, range_names}
use Rattle.laying.proofs.EndLemmas.{lays-prefix, lays-written, new-behind, part-prefix}
use Rattle.laying.specs.Passing.{LaysFrames, writing_in}
use Rattle.outside.{proofs.PassLemmas.cause_later, specs.Files.Files}
use Rattle.joined_inputs.proofs.laid.lay_all.Given as given
use Rattle.joined_inputs.proofs.laid.lay_all.Goals as goal

pub loop-i-init : goal.loop-i-init
loop-i-init g c = record {
  within = omega arith;
  laid = laid-none c.args.first.now.pass.input.now (writing_in c.args.buffers.now)
      c.requires.pass.sources c.requires.within c.requires.pass.target c.requires.new
      c.requires.fits;
  counts = refl;
}

pub lay_range-requires-clause-stands : goal.lay_range-requires-clause-stands
lay_range-requires-clause-stands g c =
    let left = sym (take_rest c.args.placed.now c.loop-i.at) in
    let laid = c.loop-i.invariant.laid in
    record {
      ready = source-ready
          (next-source c.range-range.ensures left laid)
          laid.target c.length.ensures (c.clear.ensures.fed _ _);
      class = next-class c.range-range.ensures left laid;
      unsettled = laid.unsettled;
    }

pub lay_range-requires-clause-ordered : goal.lay_range-requires-clause-ordered
lay_range-requires-clause-ordered g c = grind (arith, next-ordered, take_rest)

pub lay_range-requires-clause-within : goal.lay_range-requires-clause-within
lay_range-requires-clause-within g c = grind (arith, next-within, take_rest)

pub lay_range-requires-clause-fits : goal.lay_range-requires-clause-fits
lay_range-requires-clause-fits g c =
    (both-fit c.range-range.ensures
    (sym (take_rest c.args.placed.now c.loop-i.at)) c.loop-i.invariant.laid).0

pub returns-in-Err : goal.returns-in-Err
returns-in-Err g c =
    let b = c.args.buffers.now in
    let pass = c.args.first.now.pass in
    let seen = g.D.Folder.seen in
    let old = (seen c.args.folder.now).files in
    let frames = laid_ranges old (g.R.LaidRanges.ranges c.args.ranges) c.args.placed.now in
    let part = next-part c.range-range.ensures
    (sym (take_rest c.args.placed.now c.loop-i.at)) c.loop-i.invariant.laid
    c.requires.pass.apart (seen c.lay_range.new.folder).files c.in-Err.ensures.gives.part in
    let sofar = c.loop-i.invariant.laid.lays.lays in
    record {
      written = tt;
      prefix = part-prefix pass frames old
          (new-behind b.waiting c.requires.new) part.1;
      done = tt;
      cause =
          record {
            within = grind (arith, c.loop-i-test.true, length-map);
            size = _;
            cause = cause-named (g.R.LaidRanges.ranges c.args.ranges) c.loop-i.i _ _ _ _ _ _
                c.range-range.ensures
                (cause_later _ _ pass.output.now sofar.passed _ c.in-Err.fault sofar.files
                c.loop-i.invariant.counts c.in-Err.ensures.gives.cause);
          };
    }

pub loop-i-preserved : goal.loop-i-preserved
loop-i-preserved g c =
    let placed = c.args.placed.now in
    let at = c.loop-i.at in
    let count = c.in-Ok.count in
    let left = take_rest placed at in
    let more = ap (λ n. drop n (take (length placed - at) (drop at placed)))
    (sym c.in-Ok.ensures.count) ∙ ap (drop count) left ∙ drop-drop count at placed in
    record {
      within = omega (
        arith,
        c.in-Ok.ensures.within,
        ap length left,
        length-drop at placed,
        c.loop-i.invariant.within,
      );
      laid = next-laid c.range-range.ensures (sym left)
          c.loop-i.invariant.laid c.requires.pass.apart
          (g.D.Folder.seen c.lay_range.new.folder).files more
          c.in-Ok.ensures.gives.lays c.in-Ok.ensures.stands.class
          c.in-Ok.ensures.gives.reach c.in-Ok.ensures.stands.unsettled;
      counts = c.in-Ok.ensures.gives.done ∙ c.loop-i.invariant.counts;
    }

-- all ranges were given to the writer
module _ (g : given.Over) (c : After-finish g) where
  abbrev old : Files
  old = (g.D.Folder.seen c.args.folder.now).files

  abbrev frames : List ℕ → List Frame
  frames = laid_ranges old (g.R.LaidRanges.ranges c.args.ranges) c.args.placed.now

  laid_all : LaysFrames c.args.first.now.pass.input.now c.args.first.now.pass.output.now frames
      (writing_in c.args.buffers.now) (writing_in c.loop-i.buffers) old
      (g.D.Folder.seen c.loop-i.folder).files
  laid_all =
      laid-all (drop_all c.loop-i.i (g.R.LaidRanges.ranges c.args.ranges)
      (omega (arith, c.loop-i-test.false, c.count-i-end.ensures)))
      c.loop-i.invariant.laid

pub returns-in-Ok-finish : goal.returns-in-Ok-finish
returns-in-Ok-finish g c =
    let at = (goal.at.returns-in-Ok-finish g c).After-finish in
    let b = c.args.buffers.now in
    let seen = g.D.Folder.seen in
    record {
      written = lays-written c.args.first.now.pass (frames g at)
          (old g at) (new-behind b.waiting c.requires.new)
          (laid_all g at) c.in-Ok-finish.ensures.passed;
      prefix = tt;
      done = search rules;
      cause = tt;
    }

pub returns-in-Err-finish : goal.returns-in-Err-finish
returns-in-Err-finish g c =
    let at = (goal.at.returns-in-Err-finish g c).After-finish in
    let pass = c.args.first.now.pass in
    let b = c.args.buffers.now in
    let seen = g.D.Folder.seen in
    let sofar = c.loop-i.invariant.laid.lays.lays in
    record {
      written = tt;
      prefix = lays-prefix pass (frames g at) (old g at)
          (new-behind b.waiting c.requires.new) (laid_all g at)
          c.in-Err-finish.ensures.prefix;
      done = tt;
      cause =
          record {
            within = named-first c.requires.pass.are;
            size = _;
            cause =
                cause-at (range_names (g.R.LaidRanges.ranges c.args.ranges)) 0
                _ _ _ _ _ _
                (ap range_names c.requires.pass.are
                ∙ ap (λ n. n ∷ range_names c.requires.pass.later) c.requires.pass.named)
                (cause_later _ _ pass.output.now sofar.passed _ c.in-Err-finish.fault
                sofar.files c.loop-i.invariant.counts c.in-Err-finish.ensures.cause);
          };
    }
