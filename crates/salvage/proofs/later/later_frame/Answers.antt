-- The frame is whole and usable, so it is the item that is read.
use Rattle.std.proofs.Common.{ap, ap₂, Bool, Ok, refl, sym, true, ◌&&◌, ◌∙◌, ◌≡◌}
use Rattle.frame_header.{proofs.ClassLemmas.some_of_class, specs.Fields.{HeaderFields, same_class}}
use Rattle.frame_header.specs.Tables.{class_of, length_of}
use Rattle.salvage.proofs.UsableLemmas.{item_judged}
use Rattle.salvage.proofs.later.later_frame.Goals.{After-from-size, Else-not-has_right_crc}
use Rattle.salvage.{proofs.later.later_frame.Goals.Else-size-left, specs.Steps.admits_item}
use Rattle.salvage.specs.declared.usable.Role.TheVariants.{Later}
use Rattle.sync_survey.{proofs.StepLemmas.{frame_passes, room_passed}, specs.Items.header_front}
use Rattle.sync_survey.specs.{Looks.PassesFront, declared.items.Item.TheVariants.Frame}
use Rattle.salvage.proofs.later.later_frame.Goals as goal

header_is : (c : After-from-size) → (header_front c.args.front.now ≡ Ok c.in_ok-header.header)
    × (class_of c.in_ok-header.header ≡ c.args.class)
    × (same_class (class_of c.in_ok-header.header) c.args.class ≡ true)
header_is c = some_of_class _ (sym c.header_of_class.ensures ∙ c.in_ok-header.was)

-- a whole frame of the class is passed
own : (c : Else-size-left) → PassesFront c.args.front.now c.args.left
    (record { item = Frame c.in_ok-header.header; size = c.from-size.result })
own c =
    frame_passes c.args.class
    (sym c.header_of_class.ensures ∙ c.in_ok-header.was)
    (c.from-size.ensures ∙ c.length_of.ensures.length
    ∙ ap (λ (h : HeaderFields). length_of c.args.class h.slot) c.header.view_is)
    c.if-size-left.false

admits : (c : Else-not-has_right_crc)
    → admits_item (Later c.args.class) c.args.at (Frame c.in_ok-header.header) c.args.front.now
    ≡ true
admits c = ap₂ (λ (a b : Bool). a && b) (some_of_class _
    (sym c.header_of_class.ensures ∙ c.in_ok-header.was)).2 (sym c.if-not-has_right_crc.ensures)

pub has_right_crc-requires-clause-own : goal.has_right_crc-requires-clause-own
has_right_crc-requires-clause-own c =
    (header_is (goal.at.has_right_crc-requires-clause-own c).After-from-size).0

pub has_right_crc-requires-clause-room : goal.has_right_crc-requires-clause-room
has_right_crc-requires-clause-room c =
    room_passed (own (goal.at.has_right_crc-requires-clause-room c).Else-size-left)
    c.requires.many c.in_ok-header.header refl

pub returns-clause-read : goal.returns-clause-read
returns-clause-read c = λ file shows.
    item_judged shows (Later c.args.class)
    (own (goal.at.returns-clause-read c).Else-size-left) (admits c)

pub returns-clause-passes : goal.returns-clause-passes
returns-clause-passes c = own (goal.at.returns-clause-passes c).Else-size-left

pub returns-clause-usable : goal.returns-clause-usable
returns-clause-usable c = admits c
