-- The first bits of the side information.
use Rattle.std.proofs.Common.{ap, arith, length, subst, sym, take, ℕ, ◌∙◌, ◌≡◌}
use Rattle.frame_header.specs.{Fields.ClassFields, Tables.{class_of, side_size_of}}
use Rattle.side_info.proofs.FrontLemmas.{begin-read, fits, side_read, written, written_size}
use Rattle.side_info.specs.FrameFields.{FrameFields}
use Rattle.side_info.specs.FrontBytes.{AreFrontBytes, front_view, header_of, own_side}
use Rattle.side_info.specs.declared.frame_front.FrameFront.TheInside.{Inside}
use Rattle.side_info.proofs.frame_front.FrameFront.begin_in.Goals as goal

-- the class is the class of the bytes
class_is : (a : Inside) (f : FrameFields) (k : ClassFields) → front_view a ≡ f
    → k ≡ class_of f.header → k ≡ class_of (header_of a)
class_is a f k view is = is ∙ ap (λ (g : FrameFields). class_of g.header) (sym view)

-- the side information is this many bytes
long : (a : Inside) → AreFrontBytes a → (n : ℕ) → n ≡ side_size_of (class_of (header_of a))
    → length (take n a.side) ≡ n
long a is n size = subst (λ m. length (take m a.side) ≡ m) (sym size) (written_size is)

pub begin_at-requires-clause-room : goal.begin_at-requires-clause-room
begin_at-requires-clause-room c = grind (arith, class_is, long)

pub begin_at-requires-clause-short : goal.begin_at-requires-clause-short
begin_at-requires-clause-short c = grind (arith, class_is, long)

pub returns-clause-fits : goal.returns-clause-fits
returns-clause-fits c = grind (arith, fits)

pub returns-clause-begin : goal.returns-clause-begin
unfolding own_side
returns-clause-begin c = grind (arith, class_is, begin-read, written, side_read)
