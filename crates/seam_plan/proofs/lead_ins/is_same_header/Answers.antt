-- The bytes of headers decide whether they are the same.
use Rattle.std.{proofs.Common.{rules, ◌≡◌}, specs.Prelude.bytes_eq}
use Rattle.seam_plan.proofs.LeadInLemmas.{header-same}
use Rattle.seam_plan.proofs.lead_ins.is_same_header.Goals as goal

pub returns : goal.returns
returns c =
    let is : c.eq.result ≡ bytes_eq c.bytes.result c.bytes-2.result = search rules in
    header-same c.args.first.now c.args.second.now c.bytes.result c.bytes-2.result
    c.bytes.ensures.bits c.bytes-2.ensures.bits c.bytes.ensures.octets c.bytes-2.ensures.octets is
