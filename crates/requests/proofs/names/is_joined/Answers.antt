-- A text with which the rest begins, and one with which it doesn't.
use Rattle.std.proofs.Common.{[]}
use Rattle.requests.proofs.NamesLemmas.{joined-more, joined-other}
use Rattle.requests.proofs.names.is_joined.Goals as goal

pub returns-in-None : goal.returns-in-None
returns-in-None c =
    joined-other
    (record {
      default = record { ref_ptr = (0, 0); now = [] };
      within = c.loop-part-test.true;
      is = c.as_bytes.ensures.value;
      before = c.loop-part.invariant;
    })
    c.in-None.ensures.cases

pub loop-part-preserved : goal.loop-part-preserved
loop-part-preserved c =
    joined-more
    (record {
      default = record { ref_ptr = (0, 0); now = [] };
      within = c.loop-part-test.true;
      is = c.as_bytes.ensures.value;
      before = c.loop-part.invariant;
    })
    c.in-Some.ensures.cases.0 c.in-Some.ensures.cases.1
