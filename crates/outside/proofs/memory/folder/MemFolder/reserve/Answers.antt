use Rattle.std.proofs.{Common.{sym, ◌∙◌, ◌≡◌}, lemmas.Result.on_ok_weaker}
use Rattle.std.specs.Prelude.{Err, Ok, OnErr, OnOk, Result}
use Rattle.outside.{proofs.FilesLemmas.update_held, specs.FileRooms.content_of}
use Rattle.outside.specs.Memory.{contents_of}
use Rattle.outside.proofs.memory.folder.MemFolder.reserve.Goals as goal

either_way : {T E P : Type 0} (r : Result T E) → OnOk r P → OnErr r P → P
either_way (Ok x) ok err = ok
either_way (Err e) ok err = err

pub returns-clause-contents : goal.returns-clause-contents
returns-clause-contents c =
    let old = contents_of c.args.self.now in
    let same : content_of c.in_ok-slot.slot ≡ old c.args.name.now =
    c.in_ok-slot.ensures.content ∙ c.content.ensures in
    either_way c.set.result (on_ok_weaker c.set.result (λ set. set ∙ update_held
    c.args.name.now (sym same)) c.set.ensures.contents) c.set.ensures.contents_kept
