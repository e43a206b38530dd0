-- Frames that are in another file with moved gains, moved again: what is
-- written for them there is what is written here with both steps together.
use Rattle.std.proofs.Common.{ap, ap₂, arith, Bool, cond, drop, false, length, List, map, refl}
use Rattle.std.proofs.Common.{subst, sym, take, true, ℕ, [], ◌++◌, ◌+◌, ◌-◌, ◌<◌, ◌∙◌, ◌∷◌, ◌≡◌}
use Rattle.std.proofs.{Common.◌≤◌, lemmas.List.{drop-drop, drop_at, take_at}}
use Rattle.frame_header.specs.Fields.{HeaderFields}
use Rattle.gain_laws.proofs.MovedTwiceLemmas.{AreTogether, side_twice, sum_of}
use Rattle.gain_laws.proofs.WholeFrameLemmas.{AreFramesOf, frame_of, IsFrameOf, row_shaped}
use Rattle.gain_laws.proofs.WholeFrameLemmas.{row_sized}
use Rattle.moved_gains.proofs.LostOffsetLemmas.{end_rises, EndBy}
use Rattle.moved_gains.proofs.MovedFrameLemmas.{whole_class, whole_room}
use Rattle.moved_gains.proofs.{MovedGainLemmas.IsShaped-moved, MovingLemmas.moved_to}
use Rattle.moved_gains.proofs.{RowLemmas.Each, WrittenLemmas.{append_three, between_long}}
use Rattle.moved_gains.specs.Gains.{moved_side, moved_side_unless_lost}
use Rattle.moved_gains.specs.Moving.{moved_bytes, moved_row_bytes, row_end, row_length}
use Rattle.outside.specs.Pass.{bytes_between}
use Rattle.requests.specs.declared.shift.Steps.{Steps}
use Rattle.side_info.proofs.{FrameLemmas.frame_with_side-again, SideLemmas.IsShaped}
use Rattle.side_info.specs.{Frame.frame_with_side, declared.side.Side.Side}
use Rattle.sync_survey.specs.Row.{Row}

sum_side : {one two all : Steps} → AreTogether one two all → (s : Side)
    → moved_side (sum_of one two) s ≡ moved_side all s
unfolding moved_side
sum_side sum s = grind arith

-- side information moved twice is moved once by both steps together
pub side_again : {one two all : Steps} → AreTogether one two all → {s : Side} → IsShaped s
    → moved_side two (moved_side one s) ≡ moved_side all s
side_again {one} {two} {all} sum {s} shaped = side_twice one two shaped ∙ sum_side sum s

-- the row of such a frame, with moved gains at its new offset
abbrev pub stood : (ℕ → ℕ) → (ℕ → Steps) → Row → Row
stood to steps row =
    record row {
      offset = to row.offset;
      side = moved_side_unless_lost row.lost (steps row.offset) row.side;
    }

-- for each of these frames all steps are the sum of one
-- change at its offset and of the other at its new offset
abbrev pub IsTogether : (ℕ → Steps) → (ℕ → Steps) → (ℕ → Steps) → (ℕ → ℕ) → Row → Type 0
IsTogether one two all to row = AreTogether (one row.offset) (two (to row.offset)) (all row.offset)

abbrev pub AllTogether : (ℕ → Steps) → (ℕ → Steps) → (ℕ → Steps) → (ℕ → ℕ) → List Row → Type 0
AllTogether one two all to rows = Each (IsTogether one two all to) rows

-- if the steps are the same for every frame, their sum is too
pub even_together : {one two all : Steps} → AreTogether one two all → (to : ℕ → ℕ) (rows : List Row)
    → AllTogether (λ at. one) (λ at. two) (λ at. all) to rows
even_together sum to [] = tt
even_together {one} {two} {all} sum to (row ∷ rows) = (sum, even_together sum to rows)

bytes_again : (steps : ℕ → Steps) {one two all : Steps} {file : List ℕ} {row : Row}
    → steps row.offset ≡ one → AreTogether one two all → (to : ℕ → ℕ) → IsFrameOf file row
    → moved_bytes two (stood to steps row) (moved_row_bytes one file row)
    ≡ moved_row_bytes all file row
bytes_again steps {one} {two} {all} {file} {row} is sum to here =
    ap (λ (x : Steps). moved_bytes two (record row {
      offset = to row.offset;
      side = moved_side_unless_lost row.lost x row.side;
    }) (moved_row_bytes one file row)) is ∙ by_lost row.lost
  where
    h : HeaderFields
    h = row.header

    frame : List ℕ
    frame = frame_of file row

    by_lost : (lost : Bool)
        → cond lost (cond lost frame (frame_with_side h (moved_side one row.side) frame))
        (frame_with_side h (moved_side two (moved_side_unless_lost lost one row.side))
        (cond lost frame (frame_with_side h (moved_side one row.side) frame)))
        ≡ cond lost frame (frame_with_side h (moved_side all row.side) frame)
    by_lost true = refl
    by_lost false =
        let shaped = row_shaped here in
        ap (λ (s : Side). frame_with_side h s (frame_with_side h (moved_side one row.side) frame))
        (side_again sum shaped)
        ∙ frame_with_side-again h (moved_side all row.side) frame
        (whole_class here.whole) (IsShaped-moved one shaped) (whole_room here.whole).0

-- each offset from the first on and before the end is moved in this way
abbrev pub AreMovedBy : (ℕ → ℕ) → ℕ → ℕ → ℕ → Type 0
AreMovedBy to at end there = (x : ℕ) → at ≤ x → x < end → to x ≡ x - at + there

-- the frames are there in order
pub ends_again : (steps : ℕ → Steps) {to : ℕ → ℕ} (at : ℕ) {end : ℕ} (there : ℕ) (rows : List Row)
    → EndBy at rows end → AreMovedBy to at end there
    → EndBy there (map (stood to steps) rows) (end - at + there)
ends_again steps at there [] ends place = omega arith
ends_again steps {to} at {end} there (row ∷ rows) ends place =
    let up = end_rises (row_end row) rows ends.2 in
    let here = place row.offset ends.0 (omega (arith, ends.1, up)) in
    let next = to row.offset + row_length row in
    let sum : end - row_end row + next ≡ end - at + there =
    omega (arith, here, ends.0, ends.1, up) in (
      omega (arith, here),
      omega (arith, ends.1),
      subst (EndBy next (map (stood to steps) rows)) sum
          (ends_again steps (row_end row) next rows ends.2 (λ x low high. place x
          (omega (arith, low, ends.0, ends.1)) high ∙ omega (arith, here, low, ends.0, ends.1))),
    )

-- The frames of a file stand in the new one with one change, in order between two offsets, from an
-- offset there on and before other bytes. All steps are the sum of this change and of the other.
pub record StandAgain (one two all : ℕ → Steps) (file new : List ℕ) (to : ℕ → ℕ) (at end there : ℕ)
    (rows : List Row) (tail : List ℕ) : Type 0 where
  pub sum : AllTogether one two all to rows
  pub frames : AreFramesOf file rows
  pub ends : EndBy at rows end
  pub within : end ≤ length file
  pub place : AreMovedBy to at end there
  pub is : drop there new ≡ moved_to one file at end rows ++ tail

-- the bytes up to the end, moved again
pub moved_again : {one two all : ℕ → Steps} {file new : List ℕ} {to : ℕ → ℕ} {end : ℕ}
    (rows : List Row) {at there : ℕ} {tail : List ℕ}
    → StandAgain one two all file new to at end there rows tail
    → moved_to two new there (end - at + there) (map (stood to one) rows)
    ≡ moved_to all file at end rows
moved_again [] a =
    let is = a.is in
    grind (arith, take_at, between_long)
moved_again {one} {two} {all} {file} {new} {to} {end} (row ∷ rows) {at} {there} {tail} a =
    let up = end_rises (row_end row) rows a.ends.2 in
    let here = a.place row.offset a.ends.0 (omega (arith, a.ends.1, up)) in
    let gap = bytes_between file at row.offset in
    let own = moved_row_bytes (one row.offset) file row in
    let rest = moved_to one file (row_end row) end rows in
    let size = row_length row in
    let next = to row.offset + size in
    let stands : drop there new ≡ gap ++ (own ++ (rest ++ tail)) =
    a.is ∙ append_three gap own rest tail in
    let gap_long : length gap ≡ row.offset - at =
    between_long file a.ends.0 (omega (arith, a.ends.1, up, a.within)) in
    let own_long : length own ≡ size = row_sized (one row.offset) a.frames.0 in
    let near : to row.offset - there ≡ row.offset - at = omega (arith, here) in
    let far : there + (row.offset - at) ≡ to row.offset = omega (arith, here) in
    let first : bytes_between new there (to row.offset) ≡ gap =
    ap (λ k. take k (drop there new)) near ∙ ap (take (row.offset - at)) stands
    ∙ take_at gap (own ++ (rest ++ tail)) (row.offset - at) gap_long in
    let own_there : drop (to row.offset) new ≡ own ++ (rest ++ tail) =
    ap (λ k. drop k new) (sym far) ∙ sym (drop-drop (row.offset - at) there new)
    ∙ ap (drop (row.offset - at)) stands
    ∙ drop_at gap (own ++ (rest ++ tail)) (row.offset - at) gap_long in
    let own_again : moved_row_bytes (two (to row.offset)) new (stood to one row)
    ≡ moved_row_bytes (all row.offset) file row =
    ap (moved_bytes (two (to row.offset)) (stood to one row))
    (ap (take size) own_there ∙ take_at own (rest ++ tail) size own_long)
    ∙ bytes_again one refl a.sum.0 to a.frames.0 in
    let rest_there : drop next new ≡ rest ++ tail = sym (drop-drop size (to row.offset) new)
    ∙ ap (drop size) own_there ∙ drop_at own (rest ++ tail) size own_long in
    let total : end - row_end row + next ≡ end - at + there =
    omega (arith, here, a.ends.0, a.ends.1, up) in
    let rest_again : moved_to two new next (end - at + there) (map (stood to one) rows)
    ≡ moved_to all file (row_end row) end rows =
    ap (λ k. moved_to two new next k (map (stood to one) rows)) (sym total)
    ∙ moved_again rows (record {
      sum = a.sum.1;
      frames = a.frames.1;
      ends = a.ends.2;
      within = a.within;
      place = λ x low high. a.place x (omega (arith, low, a.ends.0, a.ends.1)) high
          ∙ omega (arith, here, low, a.ends.0, a.ends.1);
      is = rest_there;
    }) in
    ap₂ (λ (a b : List ℕ). a ++ b) first (ap₂ (λ (a b : List ℕ). a ++ b) own_again rest_again)
