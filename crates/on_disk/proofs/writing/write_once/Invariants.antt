-- A write that a signal interrupts leaves the writer as it was.
use Rattle.std.specs.Io.KnownBytes.{Keeps}
use Rattle.on_disk.proofs.writing.write_once.Given as goal

abbrev pub invariant-loop : goal.invariant-loop
invariant-loop g l = Keeps (g.W.Write.contents l.initial.writer) (g.W.Write.contents l.writer)
