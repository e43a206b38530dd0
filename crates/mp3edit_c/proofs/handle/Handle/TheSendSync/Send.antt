-- A handle may go to another thread.
use Rattle.std.{proofs.Crossing.frees, specs.declared.option.Option.Option}
use Rattle.std.specs.declared.option.Option.TheVariants.{None, Some}
use Rattle.mp3edit_c.specs.{Handle.{handle_owns, heap}, contracts.handle.Handle.{the_row, the_type}}
use Rattle.session.proofs.held.Session.TheSendSync.{the_send}
use base.{Fraction.full_share, Shift.Keyless}
use denote.{Exit.{Exit, hidden, leaves, unchanged, under}, Memory.lone}
use denote.Param.Send.{AllSend, IsSend, owning_send, part_keyless, Quiet, sendable, struct_send}
use denote.{RawPtr.{block_ptr, null_ptr, Ptr}, Struct.{Owning.{fields, shape, to}, Struct.exits_of}}
use mir.Raw.{raw}
use Rattle.session.specs.contracts.held.Session as session

-- What a handle owns is the same for all threads.
owns_keyless : (at : Ptr) (inner : Option session.the_row.Denot) → Keyless (handle_owns at inner)
owns_keyless at None = tt
owns_keyless null_ptr (Some x) = (tt, frees.frees heap (raw (lone session.the_row.mir)) null_ptr)
owns_keyless (block_ptr b o) (Some x) = (
  part_keyless session.the_row the_send full_share x b o,
  frees.frees heap (raw (lone session.the_row.mir)) (block_ptr b o),
)

-- What is left of a value that is the same for all threads is so as a part of a struct, too.
quiet : {D X : Type 0} (to : D → X) (e : Exit X) → Quiet e → Quiet (hidden (under to e))
quiet to unchanged q = λ x w. tt
quiet to (leaves L l S s r₀) q = λ d. q (to d)

pub send : IsSend the_row
send =
    let all : AllSend (fields the_type) = (search sendable, tt) in
    owning_send the_type all (λ h. owns_keyless h.at h.inner)
    (λ k. quiet (to the_type) (exits_of k (fields the_type))
    ((struct_send (shape the_type) all).leaving k))
