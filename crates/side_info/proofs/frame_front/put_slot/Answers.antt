-- Bit rate index and then padding bit are put in.
use Rattle.std.proofs.Common.{arith, Bool, ◌≡◌}
use Rattle.bit_fields.proofs.BitsLemmas.{AreBytes-from_places}
use Rattle.frame_header.specs.HeaderBits.{flag_of}
use Rattle.side_info.proofs.FrontLemmas.{slot_put}
use mir.Val.{bool_byte}
use Rattle.side_info.proofs.frame_front.put_slot.Goals as goal

flag : (b : Bool) → bool_byte b ≡ flag_of b
flag b = grind arith

pub returns : goal.returns
returns c = grind (arith, slot_put, flag, AreBytes-from_places)
