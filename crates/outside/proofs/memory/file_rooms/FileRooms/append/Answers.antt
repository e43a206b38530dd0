use Rattle.std.proofs.Common.{rules}
use Rattle.outside.proofs.FileRoomsLemmas.{contents_appended, rooms_stay}
use Rattle.outside.specs.declared.memory.file_rooms.FileRooms.{FileRooms}
use Rattle.outside.proofs.memory.file_rooms.FileRooms.append.Goals as goal

pub returns-in-Some-clause-contents : goal.returns-in-Some-clause-contents
returns-in-Some-clause-contents c =
    let slot = c.append.new.self in
    let new : FileRooms = record { by_name = c.get_mut.follows.lender slot } in
    contents_appended c.args.self.now new c.args.name.now
    ((c.get_mut.follows.holds slot).3 (search rules)) c.in-Some.ensures.value
    c.append.result c.args.bytes.now c.append.ensures.content

pub returns-in-Some-clause-rooms : goal.returns-in-Some-clause-rooms
returns-in-Some-clause-rooms c =
    let slot = c.append.new.self in
    let new : FileRooms = record { by_name = c.get_mut.follows.lender slot } in
    rooms_stay c.args.self.now new c.args.name.now
    ((c.get_mut.follows.holds slot).3 (search rules)) c.in-Some.ensures.value c.append.ensures.room
