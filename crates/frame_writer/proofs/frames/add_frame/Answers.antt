-- What is before the area, and the area.
use Rattle.std.proofs.Common.{ap, refl, rules, take, ◌++◌, ◌∙◌}
use Rattle.frame_writer.proofs.WritingLemmas.{err-map, ok-map, passed-two, prefix-piece, prefix-two}
use Rattle.frame_writer.specs.Frames.{frame_area}
use Rattle.outside.proofs.BufferOutputLemmas.{on_err, passed_there}
use Rattle.side_info.specs.Frame.{frame_front_bytes}
use Rattle.frame_writer.proofs.frames.add_frame.Goals as goal

pub returns-in_err-push_made : goal.returns-in_err-push_made
returns-in_err-push_made g c = record {
  passed = search rules;
  prefix = on_err c.from_residual.result
      (prefix-piece c.args.unsent.now _
      (take (frame_area c.args.first.now) c.args.areas.now.bytes) refl
      c.in_err-push_made.ensures.prefix);
  failed = search rules;
  done = search rules;
  counts = search rules;
}

pub add_first-requires-clause-there : goal.add_first-requires-clause-there
add_first-requires-clause-there g c = passed_there c.in_ok-push_made.ensures.passed

pub returns : goal.returns
returns g c =
    let front = frame_front_bytes c.args.first.now.header c.args.first.now.side in
    let both = ap (λ n. front ++ take n c.args.areas.now.bytes)
    (c.area.ensures.area ∙ ap frame_area c.first.view_is) in
    record {
      passed = ok-map c.add_first.result
          (passed-two c.args.unsent.now front _ both c.in_ok-push_made.ensures.passed)
          c.add_first.ensures.passed;
      prefix = err-map c.add_first.result
          (prefix-two c.args.unsent.now front _ both c.in_ok-push_made.ensures.passed)
          c.add_first.ensures.prefix;
      failed = search rules;
      done = search rules;
      counts = search rules;
    }
