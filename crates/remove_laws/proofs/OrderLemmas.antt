-- The frames of the parts are written in the order of the file.
use Rattle.std.proofs.Common.{ap, arith, cond, drop, false, List, refl, subst, suc, zero, ℕ, []}
use Rattle.std.proofs.Common.{◌*◌, ◌+◌, ◌-◌, ◌<◌, ◌∷◌, ◌≡◌, ◌≤◌}
use Rattle.exact_span.specs.declared.written.WrittenFrames.{WrittenFrames}
use Rattle.frame_header.specs.{Tables.samples_of, declared.version.Version.Version}
use Rattle.frame_header.specs.declared.version.Version.TheVariants.{One, Two, TwoFive}
use Rattle.remove_edits.specs.Removed.{lead_in_count, parts_written}
use Rattle.seam_plan.specs.{PartSplices.SpliceItem, Stretches.AreInOrder}
use Rattle.seam_plan.specs.declared.stretches.Part.{Part}

-- the samples of a frame begin no earlier than those of a frame before it
pub frame-times : (v : Version) {a b : ℕ} → a ≤ b → a * samples_of v ≤ b * samples_of v
frame-times One le = omega (arith, le)
frame-times Two le = omega (arith, le)
frame-times TwoFive le = omega (arith, le)

-- the positions of some frames, in the file and where they are written
pub record HasPositions (samples least n : ℕ) (w : WrittenFrames) : Type 0 where
  pub late : least * samples ≤ w.from * samples
  pub some : w.from * samples < w.to * samples
  pub at : n * samples ≤ w.at * samples
  pub next : (w.at + (w.to - w.from)) * samples
      ≡ w.at * samples + (w.to * samples - w.from * samples)

-- frames of the file from number `least` on that are written from frame n on
pub positions-are : (v : Version) {least n : ℕ} {w : WrittenFrames} → least ≤ w.from → w.from < w.to
    → n ≤ w.at → HasPositions (samples_of v) least n w
positions-are One late some at = record {
  late = omega (arith, late);
  some = omega (arith, some);
  at = omega (arith, at);
  next = omega (arith, some);
}
positions-are Two late some at = record {
  late = omega (arith, late);
  some = omega (arith, some);
  at = omega (arith, at);
  next = omega (arith, some);
}
positions-are TwoFive late some at = record {
  late = omega (arith, late);
  some = omega (arith, some);
  at = omega (arith, at);
  next = omega (arith, some);
}

-- these have frames of the file, the first of them has this frame or a later one, and each is
-- behind the one before
abbrev pub AreInFile : ℕ → List WrittenFrames → Type 0
AreInFile least [] = Unit {0}
AreInFile least (w ∷ written) = (least ≤ w.from) × (w.from < w.to) × AreInFile w.to written

-- these are written from this frame on, each right behind the one before
abbrev pub AreRightBehind : ℕ → List WrittenFrames → Type 0
AreRightBehind n [] = Unit {0}
AreRightBehind n (w ∷ written) = (w.at ≡ n) × AreRightBehind (n + (w.to - w.from)) written

-- none of these items is a lead-in
abbrev pub AreFrames : List SpliceItem → Type 0
AreFrames [] = Unit {0}
AreFrames (item ∷ items) = (item.lead_in ≡ false) × AreFrames items

-- parts in order stay so where they are written
pub parts-in_file : (at : ℕ) (items : List SpliceItem) {least low : ℕ} (frames : ℕ)
    (parts : List Part) → low ≤ least → AreInOrder least frames parts
    → AreInFile low (parts_written at items parts)
unfolding parts_written AreInOrder
parts-in_file at items frames [] within order = tt
parts-in_file at items frames (part ∷ parts) within order =
    let count = lead_in_count items + (part.to - part.from) in (
      omega (arith, within, order.0),
      order.1,
      parts-in_file (at + count) (drop count items) frames parts
          (omega arith) order.3,
    )

frames-drop : (n : ℕ) (items : List SpliceItem) → AreFrames items → AreFrames (drop n items)
frames-drop zero items are = are
frames-drop (suc n) [] are = tt
frames-drop (suc n) (item ∷ items) are = frames-drop n items are.1

frames-lead : (items : List SpliceItem) → AreFrames items → lead_in_count items ≡ 0
frames-lead [] are = refl
frames-lead (item ∷ items) are = ap (λ b. cond b 1 0) are.0

-- without lead-ins the parts are written right behind one another
pub parts-right_behind : (at : ℕ) (items : List SpliceItem) (parts : List Part) → AreFrames items
    → AreRightBehind at (parts_written at items parts)
unfolding parts_written
parts-right_behind at items [] are = tt
parts-right_behind at items (part ∷ parts) are =
    let none = frames-lead items are in
    let count = lead_in_count items + (part.to - part.from) in
    let next : at + count ≡ at + (part.to - part.from) = omega (arith, none) in (
      omega (arith, none),
      subst (λ n. AreRightBehind n (parts_written (at + count) (drop count items) parts)) next
          (parts-right_behind (at + count) (drop count items) parts
          (frames-drop count items are)),
    )
