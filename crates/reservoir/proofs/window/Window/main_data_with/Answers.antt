-- Whole bytes of the main data, and the bits after them.
use Rattle.std.proofs.Common.{ap, append_assoc, arith, drop, length, length-append, List, refl}
use Rattle.std.proofs.Common.{subst, sym, take, ℕ, [], ◌%◌, ◌++◌, ◌+◌, ◌-◌, ◌/◌, ◌∙◌, ◌≡◌}
use Rattle.bit_fields.{proofs.BitsLemmas.AreBelow-append, specs.Bits.AreBytes}
use Rattle.reservoir.proofs.WindowLemmas.{packed, part_past}
use Rattle.reservoir.specs.Window.{AreBitsPacked, byte_of, main_bits}
use Rattle.reservoir.proofs.window.Window.main_data_with.Goals as goal

pub returns-clause-payload : goal.returns-clause-payload
returns-clause-payload c = λ main last_of.
    let held = c.args.self.now in
    let more = c.args.before.now ++ c.args.area.now in
    let n = c.args.bits in
    let parts = c.part.result in
    let areas = c.part-2.result in
    let last = byte_of c.last_byte-last.result in
    let from = c.len-held.result + length c.args.before.now - c.args.begin in
    let long : c.len-held.result ≡ length held =
    c.len-held.ensures.len ∙ ap length c.self.view_is in
    let own : areas.0.now ++ areas.1.now
    ≡ take (n / 8 - c.min-first.result) (drop (from - c.min-passed.result) more) =
    c.part-2.ensures.part in
    let same : (parts.0.now ++ parts.1.now) ++ (areas.0.now ++ areas.1.now)
    ≡ take (n / 8) (drop from (held ++ more)) =
    part_past from (n / 8) held more
    (omega (arith, c.min-passed.ensures, long)) (omega (arith, c.min-first.ensures, long))
    (c.part.ensures.part ∙ ap (λ (xs : List ℕ). take c.min-first.result
    (drop c.min-passed.result xs)) (c.as_slices.ensures ∙ c.self.view_is)) own in
    let done : AreBitsPacked
    (((parts.0.now ++ parts.1.now) ++ (areas.0.now ++ areas.1.now)) ++ last) n
    (main_bits (main ++ more) (length main + length c.args.before.now - c.args.begin) n) =
    packed held main more ((parts.0.now ++ parts.1.now) ++ (areas.0.now ++ areas.1.now)) last from
    (length main + length c.args.before.now - c.args.begin) (n / 8) (n % 8) n last_of
    (omega (arith, long, c.requires.held, ap length last_of.1 ∙ length-append last_of.0 held))
    (omega arith)
    (omega (
      arith,
      long,
      c.requires.held,
      c.requires.within,
      length-append held more,
      length-append c.args.before.now c.args.area.now,
    )) same c.last_byte-last.ensures.packed in
    let order : ((parts.0.now ++ parts.1.now) ++ (areas.0.now ++ areas.1.now)) ++ last
    ≡ c.new.result =
    append_assoc (parts.0.now ++ parts.1.now) (areas.0.now ++ areas.1.now) last
    ∙ append_assoc parts.0.now parts.1.now ((areas.0.now ++ areas.1.now) ++ last)
    ∙ ap (λ (xs : List ℕ). parts.0.now ++ (parts.1.now ++ xs))
    (append_assoc areas.0.now areas.1.now last)
    ∙ sym c.new.ensures in
    subst (λ (xs : List ℕ). AreBitsPacked xs n
    (main_bits (main ++ more) (length main + length c.args.before.now - c.args.begin) n)) order done

pub returns-clause-bytes : goal.returns-clause-bytes
returns-clause-bytes c =
    let parts = c.part.result in
    let areas = c.part-2.result in
    subst AreBytes (sym c.new.ensures)
    (AreBelow-append 256 parts.0.now _ c.part.ensures.bytes.0
    (AreBelow-append 256 parts.1.now _ c.part.ensures.bytes.1
    (AreBelow-append 256 areas.0.now _ c.part-2.ensures.bytes.0
    (AreBelow-append 256 areas.1.now _ c.part-2.ensures.bytes.1 c.last_byte-last.ensures.bytes))))

-- what is held is the end of itself, and a frame's main data have no more bytes
pub returns-clause-few : goal.returns-clause-few
returns-clause-few c = omega (
  arith,
  (returns-clause-payload c c.args.self.now ([], refl)).few,
  c.requires.few,
  c.requires.within,
)
