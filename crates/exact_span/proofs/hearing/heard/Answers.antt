-- The stretches are passed in order, and what is found goes from the first of all to the last.
use Rattle.std.proofs.Common.{ap, arith, drop, get_or, sym, ◌+◌, ◌∙◌}
use Rattle.exact_span.proofs.HeardLemmas.{heard-all, heard-from, joined_heard-assoc}
use Rattle.exact_span.specs.Heard.{first_to_last, heard_in, heard_of, joined_heard}
use Rattle.exact_span.specs.declared.written.WrittenFrames.{WrittenFrames}
use Rattle.exact_span.proofs.hearing.heard.Goals as goal

pub loop-frames-preserved : goal.loop-frames-preserved
loop-frames-preserved c =
    let played = c.args.played.now in
    let written = c.args.written.now in
    let i = c.loop-frames.frames-index in
    let none : WrittenFrames = record { from = 0; to = 0; at = 0 } in
    let frames = get_or written i none in
    let rest = heard_of c.args.class played (drop (i + 1) written) in
    let here = c.heard_in.ensures ∙ ap (λ s. first_to_last (heard_in s played frames))
    (c.from-samples.ensures ∙ c.samples.ensures) in
    c.loop-frames.invariant
    ∙ ap (joined_heard c.loop-frames.heard)
    (heard-from c.args.class played written none c.loop-frames-test.true
    ∙ ap (λ h. joined_heard h rest) (sym here))
    ∙ sym (joined_heard-assoc c.loop-frames.heard c.heard_in.result rest)
    ∙ ap (λ h. joined_heard h rest) (sym c.joined-heard.ensures)

pub returns : goal.returns
returns c = grind (arith, heard-all)
