-- What is at the frame's end is no anchor, or its check word is wrong.
use Rattle.std.proofs.Common.{ap, arith, drop, get_or, length, subst, sym, take, ◌-◌, ◌∙◌}
use Rattle.std.proofs.lemmas.List.{take_rest}
use Rattle.frame_header.specs.Tables.{class_of}
use Rattle.salvage.proofs.RawHeaderLemmas.{few_behind, plain_unanchored, plain_unusable}
use Rattle.salvage.specs.{RawHeader.raw_frame_length, Steps.IsUnusable}
use Rattle.sync_survey.specs.{Items.{header_front, item_front}, Start.is_anchor}
use Rattle.salvage.proofs.search.is_ruled_out_by_bytes.Goals as goal

pub returns-then-not-may_anchor : goal.returns-then-not-may_anchor
returns-then-not-may_anchor c = λ _.
    let front = c.args.front.now in
    let place = c.args.place in
    let size = c.raw_frame_length-size.result in
    let own = take (length front - place) (drop place front) in
    let rest = take_rest front place in
    plain_unanchored front place
    (few_behind front place (λ i. omega (arith, c.type_inv.front i)))
    (c.raw_frame_length-size.ensures.length
    ∙ ap (λ l. raw_frame_length (get_or l 1 0) (get_or l 2 0)) rest)
    c.if-place-size-gt-REACH.false
    (λ h is.
    sym (ap (λ l. is_anchor (class_of h) (item_front l)) (take_rest own size ∙ ap (drop size) rest))
    ∙ c.may_anchor.ensures c.if-not-may_anchor.true h (ap header_front rest ∙ is))

pub returns-else-not-may_anchor : goal.returns-else-not-may_anchor
returns-else-not-may_anchor c = λ told.
    let front = c.args.front.now in
    let place = c.args.place in
    let rest = take_rest front place in
    plain_unusable front place (few_behind front place (λ i. omega (arith, c.type_inv.front i)))
    (c.raw_frame_length-size.ensures.length
    ∙ ap (λ l. raw_frame_length (get_or l 1 0) (get_or l 2 0)) rest)
    c.if-place-size-gt-REACH.false
    (subst (λ l. IsUnusable l) rest (c.has_wrong_crc.ensures told))
