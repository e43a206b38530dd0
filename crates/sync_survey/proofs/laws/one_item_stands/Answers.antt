-- The item that is found is there, and is the only one.
use Rattle.std.proofs.Common.{subst, sym}
use Rattle.sync_survey.proofs.{ItemsLemmas.stands, OneItemLemmas.stands-only}
use Rattle.sync_survey.specs.Items.{IsItemFront}
use Rattle.sync_survey.proofs.laws.one_item_stands.Goals as goal

pub returns : goal.returns
returns c =
    λ bytes item.
    (stands-only bytes, (λ is. subst (IsItemFront bytes) (sym is) (stands bytes)))
