-- The parts take up all the bits in order.
use Rattle.std.proofs.Common.{ap, ap₂, arith, drop, length, lit≤, take, ◌*◌, ◌+◌, ◌-◌, ◌∙◌, ◌≡◌}
use Rattle.std.proofs.{Common.◌≤◌, lemmas.List.take_all}
use Rattle.bit_fields.specs.Bits.{bits}
use Rattle.frame_header.specs.{Fields.IsClass, Tables.granules_of}
use Rattle.side_info.proofs.ReadLemmas.{parts_size, second_room, set_both, side_is, side_size-small}
use Rattle.side_info.{proofs.side.read_parts.Goals.After-from, specs.Granule.granule_size}
use Rattle.side_info.specs.Parts.{class_with, front_at, front_size, pair_at, second_pair_at}
use Rattle.side_info.proofs.side.read_parts.Goals as goal

class : (c : After-from) → IsClass (class_with c.args.version 0 c.args.channels)
class c = (lit≤ tt, c.requires.channels.some, c.requires.channels.few)

-- all the bytes
whole : (c : After-from) → take c.side_size.result c.args.bytes.now ≡ c.args.bytes.now
whole c = grind (arith, take_all)

size : (c : After-from) → 8 * length (take c.side_size.result c.args.bytes.now)
    ≡ front_size c.args.version c.args.channels + (c.args.channels * granule_size c.args.version
    + (granules_of c.args.version - 1) * (c.args.channels * granule_size c.args.version))
size c = grind (arith, whole c, parts_size (class_with c.args.version 0 c.args.channels) (class c))

short : (c : After-from) → length (take c.side_size.result c.args.bytes.now) ≤ 32
short c = grind (arith, whole, side_size-small)

pub read_front-front-requires-clause-enough : goal.read_front-front-requires-clause-enough
read_front-front-requires-clause-enough c = grind (arith, size)

pub read_front-front-requires-clause-short : goal.read_front-front-requires-clause-short
read_front-front-requires-clause-short c = grind (arith, short)

pub read_pair-requires-clause-enough : goal.read_pair-requires-clause-enough
read_pair-requires-clause-enough c = omega (
  arith,
  size (goal.at.read_pair-requires-clause-enough c).After-from,
  c.front_size-begin.ensures,
)

pub read_pair-requires-clause-short : goal.read_pair-requires-clause-short
read_pair-requires-clause-short c =
    omega (arith, short (goal.at.read_pair-requires-clause-short c).After-from)

next : (c : After-from) → c.front_size-begin.result + c.granule_width.result * c.from.result
    ≡ front_size c.args.version c.args.channels + c.args.channels * granule_size c.args.version
next c = grind arith

pub read_second-requires-clause-enough : goal.read_second-requires-clause-enough
read_second-requires-clause-enough c two =
    let at = (goal.at.read_second-requires-clause-enough c).After-from in
    second_room (front_size c.args.version c.args.channels)
    (c.args.channels * granule_size c.args.version) two (next at) (size at)

pub read_second-requires-clause-short : goal.read_second-requires-clause-short
read_second-requires-clause-short c =
    omega (arith, short (goal.at.read_second-requires-clause-short c).After-from)

pub returns : goal.returns
returns c =
    let at = (goal.at.returns c).After-from in
    ap (λ granules. record {
      main_data_begin = c.read_front-front.result.main_data_begin;
      private_bits = c.read_front-front.result.private_bits;
      scfsi = c.read_front-front.result.scfsi;
      granules = granules;
    }) (set_both c.args.side.now.granules c.read_pair.new.pair c.read_second.new.pair (omega arith))
    ∙ side_is (class_with c.args.version 0 c.args.channels)
    (bits c.args.bytes.now)
    (c.read_front-front.ensures
    ∙ ap (λ xs. front_at c.args.version c.args.channels (bits xs)) (whole at))
    (c.read_pair.ensures ∙ ap₂ (λ xs k. pair_at c.args.version c.args.channels (drop k (bits xs)))
    (whole at) c.front_size-begin.ensures)
    (c.read_second.ensures ∙ ap₂
    (λ xs k. second_pair_at c.args.version c.args.channels (drop k (bits xs))) (whole at) (next at))
