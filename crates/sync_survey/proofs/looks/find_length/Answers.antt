-- A file that is too long is refused for its length, and what is known of any other file are bytes.
use Rattle.sync_survey.proofs.FoldersLemmas.{long_refusal, octets_bytes}
use Rattle.sync_survey.proofs.looks.find_length.Goals as goal

pub returns-in-Ok-clause-refused : goal.returns-in-Ok-clause-refused
returns-in-Ok-clause-refused g c = λ allowed.
    long_refusal c.args.name.now (g.D.Folder.seen c.args.folder.now).files allowed
    (g.D.Folder.seen c.args.folder.now).counts (g.D.Folder.seen c.find.new.self).counts
    c.in-Ok.ensures.answer.there c.in-Ok.ensures.answer.found
    c.if-length-gt-LONGEST_FILE.true c.in-Ok.ensures.answer.done

pub returns-in-Ok-2-clause-octets : goal.returns-in-Ok-2-clause-octets
returns-in-Ok-2-clause-octets g c =
    λ bytes holds. octets_bytes bytes (c.in-Ok-2.ensures.answer.octets bytes holds)
