-- The output was created, and the buffer holds no bytes of any file.
use Rattle.gain_edits.proofs.work.GainWorkOutputPass.append.Goals as goal

pub write_changed-requires-clause-fresh : goal.write_changed-requires-clause-fresh
write_changed-requires-clause-fresh g c = c.requires.created.1.fresh _ _
