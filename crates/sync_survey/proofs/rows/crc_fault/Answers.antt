-- A protected frame has room for a check word.
use Rattle.std.proofs.Common.{ap, sym, ◌∙◌}
use Rattle.side_info.proofs.FrameLemmas.{room-protected}
use Rattle.sync_survey.proofs.rows.crc_fault.Goals as goal

pub stored_crc-said-requires : goal.stored_crc-said-requires
stored_crc-said-requires c =
    room-protected c.args.row.now.header c.args.bytes.now
    (sym (ap (λ h. h.protected) (c.header.view_is ∙ c.requires.same)) ∙ c.if-not-header.false)
    c.requires.room
