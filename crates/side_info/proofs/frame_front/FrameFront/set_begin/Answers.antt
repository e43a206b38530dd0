-- The first bits of the side information are replaced.
use Rattle.std.proofs.Common.{ap, arith, drop, length, List, sym, take, ℕ, ◌++◌, ◌<◌, ◌^◌, ◌∙◌, ◌≡◌}
use Rattle.bit_fields.specs.Bits.{bits, bits_of}
use Rattle.frame_header.specs.Tables.{class_of, side_size_of}
use Rattle.side_info.proofs.FrontLemmas.{begin_width-is, fits, front_with, shaped, side_at-begin}
use Rattle.side_info.proofs.FrontLemmas.{side_fields-written, side_written, written, written_size}
use Rattle.side_info.proofs.frame_front.FrameFront.set_begin.Goals.{After-side_size-size}
use Rattle.side_info.specs.FrameFields.{FrameFields}
use Rattle.side_info.specs.FrontBytes.{begin_width, front_view, header_of, own_side, side_of}
use Rattle.side_info.specs.{Side.{front_width, side_at}, declared.side.Side.Side}
use Rattle.side_info.proofs.frame_front.FrameFront.set_begin.Goals as goal

class : (c : After-side_size-size) → c.class-class.result ≡ class_of (header_of c.self.inside)
class c = c.class-class.ensures.class ∙ ap class_of (sym (ap (λ f. f.header) c.self.view_is))

size : (c : After-side_size-size)
    → c.side_size-size.result ≡ side_size_of (class_of (header_of c.self.inside))
size c = c.side_size-size.ensures.size ∙ ap side_size_of (class c)

long : (c : After-side_size-size)
    → length (take c.side_size-size.result c.self.inside.side) ≡ c.side_size-size.result
long c = grind (arith, size, written_size)

version : (c : After-side_size-size)
    → c.class.inside.version ≡ (class_of (header_of c.self.inside)).version
version c = ap (λ d. d.version) (c.class.view_is ∙ class c)

small : (c : After-side_size-size)
    → c.args.begin < 2 ^ front_width (class_of (header_of c.self.inside)) 0
small c = grind arith

pub put_begin-requires-clause-fits : goal.put_begin-requires-clause-fits
put_begin-requires-clause-fits c = grind (arith, begin_width-is, written, version, small)

pub put_begin-requires-clause-room : goal.put_begin-requires-clause-room
put_begin-requires-clause-room c = grind (arith, long)

part_size : (at : After-side_size-size) (part : List ℕ)
    → length part ≡ length (take at.side_size-size.result at.self.inside.side)
    → length part ≡ side_size_of (class_of (header_of at.self.inside))
part_size at part same = same ∙ long at ∙ size at

-- what comes after the side information, by the length that was computed
counted : (at : After-side_size-size) (part : List ℕ) → front_with at.self.inside.header (part
    ++ drop (side_size_of (class_of (header_of at.self.inside))) at.self.inside.side)
    ≡ front_with at.self.inside.header (part ++ drop at.side_size-size.result at.self.inside.side)
counted at part = grind (arith, front_with, size)

pub invariant_of-self : goal.invariant_of-self
invariant_of-self c = grind (arith, counted, side_written, part_size)

pub returns : goal.returns
unfolding own_side
returns c =
    let at = (goal.at.returns c).After-side_size-size in
    let a = c.self.inside in
    let d = class_of (header_of a) in
    let part = c.put_begin.new.part in
    let own : take c.side_size-size.result a.side ≡ take (side_size_of d) a.side =
    ap (λ n. take n a.side) (size at) in
    let first : bits part ≡ bits_of (begin_width d.version) c.args.begin
    ++ drop (begin_width d.version) (bits (take (side_size_of d) a.side)) =
    grind (arith, version) in
    let side : side_at d (bits part) ≡ record (side_of a) { main_data_begin = c.args.begin } =
    side_at-begin (written c.self.invariant).class (shaped a)
    (fits c.self.invariant) (small at) (written c.self.invariant).side first in
    ap front_view (sym (counted at part))
    ∙ side_fields-written c.self.invariant part
    (part_size at part (omega (arith, c.put_begin.auto.part))) c.put_begin.ensures.octets
    ∙ ap {A = Side} {B = FrameFields} (λ s. record { header = header_of a; side = s }) side
    ∙ ap {A = FrameFields} {B = FrameFields} (λ f. record {
      header = f.header;
      side = record f.side { main_data_begin = c.args.begin };
    }) c.self.view_is
