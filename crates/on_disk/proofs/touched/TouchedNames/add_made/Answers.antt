use Rattle.std.proofs.{Common.{refl, string_bytes, sym, ◌∙◌, ◌≡◌}, lemmas.Result.IfOk-at_ok}
use Rattle.on_disk.proofs.TouchedLemmas.{made_added, made_again}
use Rattle.on_disk.proofs.touched.TouchedNames.add_made.Goals as goal

pub returns-then-was_made-clause-added : goal.returns-then-was_made-clause-added
returns-then-was_made-clause-added c = made_again c.args.self.now c.args.name.now
    (sym c.was_made.ensures.made ∙ c.if-was_made.true)

pub returns-clause-added : goal.returns-clause-added
returns-clause-added c =
    let key_is : string_bytes c.in_ok-key.key ≡ c.args.name.now =
    IfOk-at_ok (λ s. string_bytes s ≡ c.args.name.now) c.in_ok-key.was c.from_str.ensures.ok in
    rw key_is at (made_added c.args.self.now (string_bytes c.in_ok-key.key)
    (record { created = c.args.self.now.created; made = c.insert.new.self })
    c.in_ok-insert.ensures.updates refl)
