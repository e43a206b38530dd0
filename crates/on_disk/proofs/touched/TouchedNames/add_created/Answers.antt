use Rattle.std.proofs.{Common.{refl, string_bytes, sym, ◌∙◌, ◌≡◌}, lemmas.Result.IfOk-at_ok}
use Rattle.on_disk.proofs.TouchedLemmas.{created_added, created_again}
use Rattle.on_disk.proofs.touched.TouchedNames.add_created.Goals as goal

pub returns-then-was_created-clause-added : goal.returns-then-was_created-clause-added
returns-then-was_created-clause-added c = created_again c.args.self.now c.args.name.now
    (sym c.was_created.ensures.created ∙ c.if-was_created.true)

pub returns-clause-added : goal.returns-clause-added
returns-clause-added c =
    let key_is : string_bytes c.in_ok-key.key ≡ c.args.name.now =
    IfOk-at_ok (λ s. string_bytes s ≡ c.args.name.now) c.in_ok-key.was c.from_str.ensures.ok in
    rw key_is at (created_added c.args.self.now (string_bytes c.in_ok-key.key)
    (record { created = c.insert.new.self; made = c.args.self.now.made })
    c.in_ok-insert.ensures.updates refl)
