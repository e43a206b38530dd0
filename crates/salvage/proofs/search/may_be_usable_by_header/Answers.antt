-- There is no header, or the frame isn't usable or has no anchor.
use Rattle.std.proofs.Common.{ap, arith, drop, inr, length-drop, List, Ok, Result, sym, ℕ, ◌+◌, ◌∙◌}
use Rattle.std.proofs.Common.{◌≡◌}
use Rattle.frame_header.specs.{Fields.HeaderFields, declared.header.NotHeader.NotHeader}
use Rattle.salvage.{proofs.SearchLemmas.{bare_here, header_of}, specs.UsableFrames.is_usable}
use Rattle.sync_survey.proofs.{ItemsLemmas.frame_of_header, StepLemmas.overhead_few}
use Rattle.sync_survey.specs.Items.{header_front}
use Rattle.salvage.proofs.search.may_be_usable_by_header.Goals as goal

pub returns-in_default : goal.returns-in_default
returns-in_default c = grind (arith, header_of)

-- the header that was read is the header of the bytes at the place
header_there : (front bytes : List ℕ) (place : ℕ) (h : HeaderFields)
    (r : Result HeaderFields NotHeader) → bytes ≡ drop place front → r ≡ header_front bytes
    → r ≡ Ok h → header_front (drop place front) ≡ Ok h
header_there front bytes place h r behind read is = ap header_front (sym behind) ∙ sym read ∙ is

pub admits-requires : goal.admits-requires
admits-requires c = grind (arith, header_there, overhead_few, frame_of_header, length-drop)

pub returns-then-not-admits : goal.returns-then-not-admits
returns-then-not-admits c = λ _.
    bare_here c.args.role.now c.args.offset c.args.front.now c.args.place
    (header_there c.args.front.now _ c.args.place _ _
    c.bytes_from-bytes.ensures c.header_front.ensures c.in-Ok.is)
    (omega (arith, c.if-end-gt-REACH.false, c.length.ensures.length))
    (inr (ap (is_usable c.args.role.now (record {
      offset = c.args.offset + c.args.place;
      header = c.in-Ok.header;
    })) (sym c.bytes_from-bytes.ensures)
    ∙ sym c.admits.ensures
    ∙ c.if-not-admits.true))

pub returns : goal.returns
returns c = grind (arith, bare_here, header_there)
