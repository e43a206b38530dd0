-- The lead-in at the front of an input.
use Rattle.std.proofs.Common.{ap, arith, Bool, drop, eqb, false, length, List, Some, sym, true, ℕ}
use Rattle.std.proofs.{Common.{◌<◌, ◌∙◌, ◌∷◌, ◌≡◌, ◌≤◌}, lemmas.Bool.Decides.same_from_decides}
use Rattle.std.{proofs.lemmas.{List.drop-map, Slice.Eq.bytes_eq-Decides}, specs.Bool.Decides}
use Rattle.std.specs.Prelude.{bytes_eq, cond, not, option_map, slice_index_or, ◌&&◌}
use Rattle.bit_fields.{proofs.BitsLemmas.bits-injective, specs.Bits.{AreBytes, bits}}
use Rattle.frame_header.proofs.HeaderLemmas.{IsClass-class_of}
use Rattle.frame_header.specs.Fields.{ClassFields, HeaderFields, IsClass, IsHeader, SlotFields}
use Rattle.frame_header.specs.{HeaderBits.header_bits, Slots.all_slots}
use Rattle.frame_header.specs.Tables.{area_of, class_of, window_of}
use Rattle.seam_plan.proofs.{FitLemmas.fits-tested, SlotLemmas.find-least}
use Rattle.seam_plan.specs.{Decisions.IsBroughtInput, Frames.{Brought, needs_of, SpliceFrame}}
use Rattle.seam_plan.specs.Joins.{fits_behind, has_lead_in, is_same_header, lead_in_header}
use Rattle.seam_plan.specs.{Joins.leads_others, Seams.front_left_out_count}
use Rattle.seam_plan.specs.declared.input.Input.{Input}
use Rattle.slot_plan.proofs.OnePlanLemmas.{slots_ascend}
use Rattle.slot_plan.specs.FreeBytes.{FitsBehind, IsLeadInHeader, IsLeastWanted}
use Rattle.slot_plan.specs.declared.needs.Need.{Need}

-- frames that want nothing fit after no bytes
pub alone-tested : {window wanted : ℕ} {needs : List Need} → IsLeastWanted window needs wanted
    → Decides (eqb wanted 0) (FitsBehind window 0 needs)
alone-tested is = grind arith

-- frames want nothing exactly if they fit after no bytes
pub alone-is : {window wanted : ℕ} {needs : List Need} → IsLeastWanted window needs wanted
    → eqb wanted 0 ≡ fits_behind window 0 needs
alone-is is = grind (arith, same_from_decides, alone-tested, fits-tested)

-- headers are the same exactly if their bytes are
pub header-same : (g h : HeaderFields) (a b : List ℕ) → bits a ≡ header_bits g → bits b
    ≡ header_bits h → AreBytes a → AreBytes b → {r : Bool} → r ≡ bytes_eq a b
    → r ≡ is_same_header g h
header-same g h a b first second octets others is =
    grind (arith, same_from_decides, bytes_eq-Decides, bits-injective)

-- the header that `lead_in` returns is the one of the definition
pub lead-in-is : (window : ℕ) (first : Need) (needs : List Need) {header : HeaderFields}
    → IsClass (class_of first.header) → IsLeadInHeader window (first ∷ needs) header
    → lead_in_header window (first ∷ needs) ≡ Some header
unfolding IsLeadInHeader lead_in_header
lead-in-is window first needs {header} known is =
    let class : ClassFields = class_of first.header in
    let fit : SlotFields → Bool =
    λ slot. fits_behind window (area_of class slot false) (first ∷ needs) in
    let found =
    find-least class false fit all_slots (slots_ascend class known) is.0.chosen
    ((fits-tested window (area_of class header.slot false) (first ∷ needs)).1 is.0.fits)
    (λ other has passes. is.0.least other has
    ((fits-tested window (area_of class other false) (first ∷ needs)).0 passes)) in
    ap (option_map (λ slot. record first.header { protected = false; slot = slot })) found
    ∙ ap Some (sym is.1)

-- the first frame leads the others exactly if it has the header of their lead-in
pub leads-is : (window : ℕ) (needs : List Need) {first : Need} {header : HeaderFields}
    → first ≡ slice_index_or needs 0 first → 2 ≤ length needs → IsHeader header
    → IsLeadInHeader window (drop 1 needs) header
    → is_same_header first.header header ≡ leads_others window needs
unfolding IsLeadInHeader
leads-is window needs at many known is = grind (arith, lead-in-is, IsClass-class_of)

-- a frame alone leads none
pub leads-none : (window : ℕ) (needs : List Need) → length needs < 2
    → false ≡ leads_others window needs
unfolding lead_in_header
leads-none window needs few = grind arith

-- ---- the lead-in of an input

-- an input whose first frame is silent has a lead-in exactly if that frame leads others
pub has-then : (window : ℕ) {input : Input} {brought : Brought} {r : Bool}
    → IsBroughtInput input brought → input.blank ≡ true → r ≡ leads_others window input.needs.now
    → r ≡ has_lead_in window brought
unfolding has_lead_in
has-then window is blank leads = grind arith

-- an input whose first frame isn't silent has no lead-in
pub has-else : (window : ℕ) {input : Input} {brought : Brought} → IsBroughtInput input brought
    → input.blank ≡ false → input.blank ≡ has_lead_in window brought
unfolding has_lead_in
has-else window is blank = grind arith

-- ---- the lead-in that leaves the splice

-- if the first input has no lead-in, none is left out
pub front-none : (class : ClassFields) (brought : Brought) (frames : List SpliceFrame) {has : Bool}
    → has ≡ false → has ≡ has_lead_in (window_of class.version) brought
    → 0 ≡ front_left_out_count class brought frames
unfolding front_left_out_count
front-none class brought frames none is = grind arith

-- the first input's lead-in is left out if it has one that the others need
pub front-is : (class : ClassFields) (brought : Brought) (frames : List SpliceFrame)
    {splice : List Need}
    {has alone : Bool} → splice ≡ needs_of frames
    → has ≡ has_lead_in (window_of class.version) brought
    → alone ≡ fits_behind (window_of class.version) 0 (drop 1 splice)
    → cond (has && not alone) 1 0 ≡ front_left_out_count class brought frames
unfolding front_left_out_count
front-is class brought frames is leads fits = grind (arith, drop-map)
