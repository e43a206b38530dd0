use Rattle.std.proofs.{Common.{string_bytes, ◌≡◌}, lemmas.Result.IfOk-at_ok}
use Rattle.outside.proofs.FileRoomsLemmas.{contents_set, rooms_set}
use Rattle.outside.proofs.memory.file_rooms.FileRooms.set.Goals as goal

pub returns-clause-contents : goal.returns-clause-contents
returns-clause-contents c =
    let key_is : string_bytes c.in_ok-key.key ≡ c.args.name.now =
    IfOk-at_ok (λ s. string_bytes s ≡ c.args.name.now) c.in_ok-key.was c.from_str.ensures.ok in
    rw key_is at (contents_set c.args.self.now (record { by_name = c.insert.new.self })
    (string_bytes c.in_ok-key.key) c.in_ok-insert.ensures.updates)

pub returns-clause-rooms : goal.returns-clause-rooms
returns-clause-rooms c =
    let key_is : string_bytes c.in_ok-key.key ≡ c.args.name.now =
    IfOk-at_ok (λ s. string_bytes s ≡ c.args.name.now) c.in_ok-key.was c.from_str.ensures.ok in
    rw key_is at (rooms_set c.args.self.now (record { by_name = c.insert.new.self })
    (string_bytes c.in_ok-key.key) c.in_ok-insert.ensures.updates)
