-- The files that a map of names holds, and the room that it has for each.
use Rattle.std.specs.BTreeMap.{get_by_text}
use Rattle.std.specs.Prelude.{if◌then◌else◌, List, None, Option, option_map, Some, ℕ}
use Rattle.outside.specs.{Files.Contents, declared.memory.file_rooms.FileRoom.FileRoom}
use Rattle.outside.specs.declared.memory.file_rooms.FileRooms.{FileRooms}

-- the bytes of the file in a slot, if there is one
abbrev pub content_of : FileRoom → Option (List ℕ)
content_of slot = if slot.there then Some slot.buffer.bytes else None

-- the bytes of the file in a slot that may be missing
abbrev pub content_in : Option FileRoom → Option (List ℕ)
content_in None = None
content_in (Some slot) = content_of slot

-- the files that a map of names holds
abbrev pub contents_in : FileRooms → Contents
contents_in slots = λ name. content_in (get_by_text slots.by_name name)

-- the room for each name that has one
abbrev pub rooms_in : FileRooms → List ℕ → Option ℕ
rooms_in slots = λ name. option_map (λ slot. slot.buffer.room) (get_by_text slots.by_name name)
