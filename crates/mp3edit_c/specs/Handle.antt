-- What a handle owns: nothing where its pointer is null,
-- and else the session there, with the right to free it.
use Rattle.std.specs.{Box.Ownership.box_owns, Coded.{Coded, coded_option}}
use Rattle.std.specs.{contracts.impls.GlobalAllocator.TheImpl.ghosts, declared.alloc.Global.Global}
use Rattle.std.specs.declared.option.Option.{Option, TheVariants.{None, Some}}
use Rattle.session.specs.{Shown.{empty_session, Shown, shown}, contracts.held.Session.the_row}
use base.Fml.{feq, Fml}
use denote.RawPtr.{null_ptr, Ptr}

-- the allocator of all sessions
abbrev pub heap : Global
heap = record { memory = record { seal = tt } }

-- what a handle with this pointer owns where it holds this session, or none
abbrev pub handle_owns : Ptr → Option the_row.Denot → Fml
handle_owns at None = feq Ptr at null_ptr
handle_owns at (Some inner) = box_owns (ghosts.dealloc_token heap) the_row at inner

-- how what a handle holds is stored
abbrev pub inner_coded : Coded (Option the_row.Denot)
inner_coded = coded_option the_row.coded

-- what a handle shows: what its session shows, and an empty session where it holds none
abbrev pub shows : Option the_row.Denot → Shown
shows None = empty_session
shows (Some session) = shown session
