-- A chain, without its recursion.
use Rattle.sync_survey.proofs.ChainLemmas.{bytes-ends, item_chain-ends, item_chain-last}
use Rattle.sync_survey.{proofs.ChainLemmas.item_chain-only, specs.Chains.item_chain}
use Rattle.sync_survey.proofs.laws.chains_are_only.Goals as goal

pub returns : goal.returns
returns c = λ part file from.
    let r = item_chain part file from in
    let ends = item_chain-ends part file from in
    record {
      items = ends;
      last = item_chain-last part file from;
      bytes = bytes-ends part file from r.items r.stop ends;
      only = item_chain-only part file from;
    }
