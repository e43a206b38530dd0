-- The fields in order.
use Rattle.info_header.{proofs.InfoLemmas.piece-before, specs.Info.info_bytes}
use Rattle.info_header.proofs.writing.append_info.Goals as goal

pub returns-clause-bytes : goal.returns-clause-bytes
unfolding info_bytes
returns-clause-bytes c =
    let old = c.args.into.now.items in
    let text = c.append_text.new.into.items in
    let flags = c.append_number.new.into.items in
    let frames = c.append_field.new.into.items in
    let bytes = c.append_field-2.new.into.items in
    let table = c.append_table.new.into.items in
    let quality = c.append_field-3.new.into.items in
    let new = c.append.new.into.items in
    piece-before old _ _ c.append_text.ensures.bytes
    (piece-before text _ _ c.append_number.ensures.bytes
    (piece-before flags _ _ c.append_field.ensures.bytes
    (piece-before frames _ _ c.append_field-2.ensures.bytes
    (piece-before bytes _ _ c.append_table.ensures.bytes
    (piece-before table _ _ c.append_field-3.ensures.bytes c.append.ensures.bytes)))))
