-- A name that wasn't there was created.
use Rattle.std.proofs.{Common.{None, subst, sym, ◌∙◌, ◌≡◌}, lemmas.Result.on_ok_weaker}
use Rattle.outside.proofs.{FilesLemmas.emptied_there, ShortLemmas.{created-new, none-copied}}
use Rattle.outside.specs.{Files.{IsFileThere, Told}, Memory.contents_of}
use Rattle.outside.proofs.memory.short.create_missing.Goals as goal

pub returns-clause-there : goal.returns-clause-there
returns-clause-there c =
    let name = c.args.name.now in
    on_ok_weaker c.create.result (λ made. subst (λ f. IsFileThere f name) (sym made)
    (emptied_there (Told (contents_of c.args.folder.now)) name)) c.create.ensures.answer.created

pub returns-clause-made : goal.returns-clause-made
returns-clause-made c =
    let none : contents_of c.args.folder.now c.args.name.now ≡ None =
    sym c.get.ensures ∙ none-copied c.get.result (sym c.is_some.ensures ∙ c.if-is_some.false) in
    on_ok_weaker c.create.result (λ made. created-new none made c.create.ensures.own.called)
    c.create.ensures.answer.created
