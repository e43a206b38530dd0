use Rattle.std.proofs.{Common.{string_bytes, ◌≡◌}, lemmas.Result.IfOk-at_ok}
use Rattle.session.proofs.FolderLemmas.{name_holds}
use Rattle.session.proofs.folder.GrowingFolder.set.Goals as goal

pub returns-clause-set : goal.returns-clause-set
returns-clause-set c =
    let key_is : string_bytes c.in_ok-key.key ≡ c.args.name.now =
    IfOk-at_ok (λ s. string_bytes s ≡ c.args.name.now) c.in_ok-key.was c.from_str.ensures.ok in
    rw key_is at (name_holds (λ content. content.items) c.args.self.now.by_name c.insert.new.self
    (string_bytes c.in_ok-key.key) c.in_ok-insert.ensures.updates)
