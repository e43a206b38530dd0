-- The stream that was written, and the room that was reserved after it.
use Rattle.std.proofs.Common.{ap, arith, bytes_eq, List, max, Option, refl, Some, unwrap_or, ℕ, ◌*◌}
use Rattle.std.proofs.{Common.{◌+◌, ◌∙◌, ◌≡◌}, lemmas.Map.update_same}
use Rattle.drill.specs.Drill.{drill_stream}
use Rattle.outside.{proofs.FilesLemmas.{bytes_eq_same, written_holds}, specs.Files.{Contents, Told}}
use Rattle.outside.specs.Memory.{contents_of, mem_room, rooms_of}
use Rattle.drill.proofs.folder.stream_folder.Goals as goal

pub returns-clause-stream : goal.returns-clause-stream
returns-clause-stream c =
    let name = c.args.stream.now in
    let bytes = drill_stream c.args.seed c.args.count in
    let holds : contents_of c.write_stream.new.folder name ≡ Some bytes =
    grind (arith, written_holds (Told (contents_of c.reserve.new.self)) name bytes refl) in
    ap (λ (f : Contents). f name) c.reserve-2.ensures.contents ∙ holds

pub returns-clause-room : goal.returns-clause-room
returns-clause-room c =
    let name = c.args.packed.now in
    let bytes = 1441 * (c.from-count_of.result + 2) in
    let old = unwrap_or (rooms_of c.write_stream.new.folder name) 0 in
    let room : mem_room c.reserve-2.new.self name ≡ max old bytes =
    ap (λ (f : List ℕ → Option ℕ). unwrap_or (f name) 0) c.in_ok-reserve-2.ensures.rooms
    ∙ ap (λ (o : Option ℕ). unwrap_or o 0) (update_same bytes_eq
    (rooms_of c.write_stream.new.folder) name (Some (max old bytes)) name (bytes_eq_same name)) in
    omega (arith, room, c.from-count_of.ensures)
