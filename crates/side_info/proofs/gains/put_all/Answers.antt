-- The gains of the granules in order.
use Rattle.std.proofs.Common.{ap, ap₂, arith, get_or, length, rules, subst, sym, [], ◌*◌, ◌+◌, ◌-◌}
use Rattle.std.proofs.Common.{◌∙◌, ◌≡◌, ◌≤◌}
use Rattle.bit_fields.{proofs.BitsLemmas.{AreBits-bits, length-bits}, specs.Bits.bits}
use Rattle.frame_header.specs.{Fields.IsClass, Tables.granules_of}
use Rattle.side_info.proofs.GainsLemmas.{all_put_gains}
use Rattle.side_info.proofs.ReadLemmas.{parts_size, second_room, side_size-small}
use Rattle.side_info.proofs.SideLemmas.{IsShaped, IsShaped-side_at, side_bits-side_at}
use Rattle.side_info.{proofs.gains.put_all.Goals.After-from, specs.Granule.granule_size}
use Rattle.side_info.specs.Parts.{front_size, pair_bits, PutsPair, second_pair_bits}
use Rattle.side_info.proofs.gains.put_all.Goals as goal

-- the parts take up all the bits
size : (c : After-from)
    → 8 * length c.args.bytes.now ≡ front_size c.class.inside.version c.class.inside.channels
    + (c.class.inside.channels * granule_size c.class.inside.version + (granules_of
    c.class.inside.version - 1) * (c.class.inside.channels * granule_size c.class.inside.version))
size c = grind (arith, parts_size)

short : (c : After-from) → length c.args.bytes.now ≤ 32
short c = omega (arith, c.requires.size, side_size-small c.args.class)

next : (c : After-from) → c.front_size-begin.result + c.granule_width.result * c.from.result
    ≡ front_size c.class.inside.version c.class.inside.channels
    + c.class.inside.channels * granule_size c.class.inside.version
next c = grind arith

pub put_pair-requires-clause-room : goal.put_pair-requires-clause-room
put_pair-requires-clause-room c = omega
    (arith, size (goal.at.put_pair-requires-clause-room c).After-from, c.front_size-begin.ensures)

pub put_pair-requires-clause-short : goal.put_pair-requires-clause-short
put_pair-requires-clause-short c =
    omega (arith, short (goal.at.put_pair-requires-clause-short c).After-from)

pub put_second-requires-clause-room : goal.put_second-requires-clause-room
put_second-requires-clause-room c two =
    let at = (goal.at.put_second-requires-clause-room c).After-from in
    let kept : 8 * length c.put_pair.new.bytes ≡ 8 * length c.args.bytes.now =
    omega (arith, c.put_pair.auto.bytes) in
    second_room
    (front_size c.class.inside.version c.class.inside.channels) (c.class.inside.channels
    * granule_size c.class.inside.version) two (next at) (kept ∙ size at)

pub put_second-requires-clause-short : goal.put_second-requires-clause-short
put_second-requires-clause-short c = omega
    (arith, short (goal.at.put_second-requires-clause-short c).After-from, c.put_pair.auto.bytes)

pub returns : goal.returns
returns c = record {
  put = λ other. let d = c.args.class in
      let t = c.args.side.now in
      let old = bits c.args.bytes.now in
      let class : IsClass d = subst IsClass c.class.view_is c.class.invariant in
      let shaped : IsShaped t = record {
        scfsi = omega arith;
        granules = omega arith;
        first = c.put_pair.ensures.two;
        second = c.put_second.ensures.two;
      } in
      let begin : c.front_size-begin.result ≡ front_size d.version d.channels =
      c.front_size-begin.ensures ∙ ap (λ k. front_size k.version k.channels) c.class.view_is in
      let next_is : c.front_size-begin.result + c.granule_width.result * c.from.result
      ≡ front_size d.version d.channels + d.channels * granule_size d.version =
      ap₂ (λ m n. m + n) c.front_size-begin.ensures
      (ap₂ (λ m n. m * n) c.granule_width.ensures c.from.ensures ∙ omega arith) ∙ ap (λ k.
      front_size k.version k.channels + k.channels * granule_size k.version) c.class.view_is in
      all_put_gains d class shaped begin next_is
      (subst (λ k. PutsPair (pair_bits k.version k.channels)
      (get_or t.granules 0 []) c.front_size-begin.result old (bits c.put_pair.new.bytes))
      c.class.view_is c.put_pair.ensures.put)
      (subst (λ k. PutsPair (second_pair_bits k.version k.channels) (get_or t.granules 1 [])
      (c.front_size-begin.result + c.granule_width.result * c.from.result) (bits
      c.put_pair.new.bytes) (bits c.put_second.new.bytes)) c.class.view_is c.put_second.ensures.put)
      (IsShaped-side_at d old)
      (sym (side_bits-side_at d class (AreBits-bits c.args.bytes.now)
      (length-bits c.args.bytes.now ∙ ap (λ n. 8 * n) c.requires.size))) other;
  first = search rules;
  second = search rules;
}
