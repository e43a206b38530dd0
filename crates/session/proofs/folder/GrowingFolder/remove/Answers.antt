use Rattle.std.proofs.Common.{arith, ◌∙◌}
use Rattle.session.proofs.FolderLemmas.{gone_already, name_gone}
use Rattle.session.proofs.folder.GrowingFolder.remove.Goals as goal

pub returns-clause-files : goal.returns-clause-files
returns-clause-files c = name_gone (λ content. content.items) c.args.self.now.by_name
    c.remove.new.self c.args.name.now c.remove.ensures.updates

pub returns-clause-kept : goal.returns-clause-kept
returns-clause-kept c gone = name_gone (λ content. content.items) c.args.self.now.by_name
    c.remove.new.self c.args.name.now c.remove.ensures.updates
    ∙ gone_already c.args.name.now (grind (arith, gone))
