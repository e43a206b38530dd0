-- What is stored of the first bytes, and zeros where it ends.
use Rattle.std.proofs.Common.{ap, length, List, min, rules, take, ℕ, ◌++◌, ◌-◌, ◌∙◌, ◌≡◌}
use Rattle.frame_writer.proofs.LaidLemmas.{first-parts, laid_count-queue, waits}
use Rattle.frame_writer.proofs.WritingLemmas.{err-map, ok-map, passed-two, prefix-piece, prefix-two}
use Rattle.frame_writer.proofs.areas.Areas.add_first.Goals.{After-add_zeros}
use Rattle.frame_writer.specs.Laid.{WaitingAreas, zeros}
use Rattle.outside.proofs.BufferOutputLemmas.{on_err, passed_there}
use Rattle.frame_writer.proofs.areas.Areas.add_first.Given as given
use Rattle.frame_writer.proofs.areas.Areas.add_first.Goals as goal

pub returns-in_err-push : goal.returns-in_err-push
returns-in_err-push g c = record {
  passed = search rules;
  prefix = let bytes = c.bytes-bytes.result.now in
      let stores : c.args.stored ≡ min c.args.count (length bytes) =
      laid_count-queue c.args.count bytes
      (ap (λ (xs : List ℕ). waits xs c.self.inside.free) c.bytes-bytes.ensures ∙ c.self.view_is)
      c.requires.stored in
      let all =
      first-parts c.self.inside.free bytes
      (ap (λ (xs : List ℕ). xs ++ zeros c.self.inside.free) c.bytes-bytes.ensures
      ∙ ap (λ (w : WaitingAreas). w.bytes) c.self.view_is) c.requires.within stores in
      on_err c.from_residual.result
      (prefix-piece c.args.unsent.now _ _ all c.in_err-push.ensures.prefix);
  failed = search rules;
  done = search rules;
  counts = search rules;
}

pub add_zeros-requires-clause-there : goal.add_zeros-requires-clause-there
add_zeros-requires-clause-there g c = passed_there c.in_ok-push.ensures.passed

-- what is stored of the first bytes, and zeros after it
first_are : (g : given.Over) (c : After-add_zeros g)
    → take c.args.stored c.bytes-bytes.result.now
    ++ zeros (c.args.count - c.args.stored) ≡ take c.args.count c.args.self.now.bytes
first_are g c =
    first-parts c.self.inside.free c.bytes-bytes.result.now
    (ap (λ (xs : List ℕ). xs ++ zeros c.self.inside.free) c.bytes-bytes.ensures
    ∙ ap (λ (w : WaitingAreas). w.bytes) c.self.view_is)
    c.requires.within (laid_count-queue c.args.count
    c.bytes-bytes.result.now
    (ap (λ (xs : List ℕ). waits xs c.self.inside.free) c.bytes-bytes.ensures ∙ c.self.view_is)
    c.requires.stored)

pub returns : goal.returns
returns g c = record {
  passed = ok-map c.add_zeros.result
      (passed-two c.args.unsent.now (take c.args.stored c.bytes-bytes.result.now)
      (zeros (c.args.count - c.args.stored)) (first_are g c) c.in_ok-push.ensures.passed)
      c.add_zeros.ensures.passed;
  prefix = err-map c.add_zeros.result
      (prefix-two c.args.unsent.now (take c.args.stored c.bytes-bytes.result.now)
      (zeros (c.args.count - c.args.stored)) (first_are g c) c.in_ok-push.ensures.passed)
      c.add_zeros.ensures.prefix;
  failed = search rules;
  done = search rules;
  counts = search rules;
}
