use Rattle.std.proofs.Common.{arith}
use Rattle.session.proofs.NamesLemmas.{no_names}
use Rattle.mp3edit_c.proofs.exports.mp3edit_name.Goals as goal

pub returns-in-None-clause-copied : goal.returns-in-None-clause-copied
returns-in-None-clause-copied c = grind (arith, no_names c.args.number)
