-- What is written, with the new tag in its place, is the changed file.
use Rattle.std.proofs.Common.{ap, append_assoc, ap₂, arith, Bool, cond, drop, false, length}
use Rattle.std.proofs.Common.{length-append, length-drop, List, None, Option, refl, Some, subst}
use Rattle.std.proofs.Common.{sym, ℕ, [], ◌&&◌, ◌++◌, ◌+◌, ◌-◌, ◌<◌, ◌∙◌, ◌∷◌, ◌≡◌, ◌≤◌}
use Rattle.std.proofs.lemmas.{Bool.{le-leb, lt-leb}, List.length-take-le}
use Rattle.moved_gains.proofs.LostOffsetLemmas.{end_rises, EndBy}
use Rattle.moved_gains.proofs.MovingLemmas.{IsBehind, moved_from, moved_from-later, moved_to}
use Rattle.moved_gains.proofs.RowLemmas.{Each}
use Rattle.moved_gains.specs.Moving.{bytes_written_from, copied_bytes, moved_row_bytes, row_end}
use Rattle.moved_gains.specs.{Moving.row_length, declared.moving.NewTag.NewTag}
use Rattle.outside.specs.Pass.{bytes_between}
use Rattle.requests.specs.declared.shift.Steps.{Steps}
use Rattle.sync_survey.specs.Row.{Row}

-- ---- one more frame

written-nil : (steps : ℕ → Steps) (tag : Option NewTag) (file : List ℕ) (at : ℕ)
    → bytes_written_from steps tag file at [] ≡ copied_bytes tag file at (length file)
unfolding bytes_written_from
written-nil steps tag file at = refl

written-cons : (steps : ℕ → Steps) (tag : Option NewTag) (file : List ℕ) (at : ℕ) (row : Row)
    (rows : List Row)
    → bytes_written_from steps tag file at (row ∷ rows) ≡ copied_bytes tag file at row.offset ++
    (moved_row_bytes (steps row.offset) file row
    ++ bytes_written_from steps tag file (row_end row) rows)
unfolding bytes_written_from
written-cons steps tag file at row rows = refl

-- what is left to be written at frame i
pub left_at : (steps : ℕ → Steps) (tag : Option NewTag) (file : List ℕ) (at : ℕ) (rows : List Row)
    (i : ℕ) {row : Row} → drop i rows ≡ row ∷ drop (i + 1) rows
    → bytes_written_from steps tag file at (drop i rows)
    ≡ copied_bytes tag file at row.offset ++ (moved_row_bytes (steps row.offset) file row
    ++ bytes_written_from steps tag file (row_end row) (drop (i + 1) rows))
left_at steps tag file at rows i is = grind (arith, written-cons)

-- after the last frame the rest of the file is left
pub left_behind : (steps : ℕ → Steps) (tag : Option NewTag) (file : List ℕ) (at : ℕ) {size : ℕ}
    {rows : List Row} → rows ≡ [] → length file ≡ size
    → bytes_written_from steps tag file at rows ≡ copied_bytes tag file at size
left_behind steps tag file at none is = grind (arith, written-nil)

-- ---- without a new tag

-- without a new tag the rest of the file is written with its gains moved
pub written-none : (steps : ℕ → Steps) (file : List ℕ) (at : ℕ) (rows : List Row)
    → bytes_written_from steps None file at rows ≡ moved_from steps file at rows
written-none steps file at [] = written-nil steps None file at
written-none steps file at (row ∷ rows) =
    grind (arith, written-cons, written-none steps file (row_end row) rows)

-- ---- frames before the tag, and frames after it

-- the length of each frame stays
abbrev pub IsSized : (ℕ → Steps) → List ℕ → Row → Type 0
IsSized steps file row = length (moved_row_bytes (steps row.offset) file row) ≡ row_length row

abbrev pub AreSized : (ℕ → Steps) → List ℕ → List Row → Type 0
AreSized steps file rows = Each (IsSized steps file) rows

-- as many bytes are between two offsets as the offsets are apart
pub between_long : (file : List ℕ) {from to : ℕ} → from ≤ to → to ≤ length file
    → length (bytes_between file from to) ≡ to - from
between_long file up within = grind (arith, length-take-le, length-drop)

-- with moved gains as many bytes are between two offsets
pub moved_to-long : (steps : ℕ → Steps) (file : List ℕ) (at : ℕ) {to : ℕ} (rows : List Row)
    → AreSized steps file rows → EndBy at rows to → to ≤ length file
    → length (moved_to steps file at to rows) ≡ to - at
moved_to-long steps file at {to} [] sized ends within = between_long file ends within
moved_to-long steps file at {to} (row ∷ rows) sized ends within =
    grind (
      arith,
      end_rises,
      length-append,
      moved_to,
      between_long,
      moved_to-long steps file
          (row_end row) rows sized.1 ends.2 within,
    )

-- joining three lists and a fourth is associative
pub append_three : (a b c d : List ℕ) → (a ++ (b ++ c)) ++ d ≡ a ++ (b ++ (c ++ d))
append_three a b c d = append_assoc a (b ++ c) d ∙ ap (λ (l : List ℕ). a ++ l) (append_assoc b c d)

-- the moved bytes up to an offset that isn't after the next frame, then those from it on
pub moved_split : (steps : ℕ → Steps) (file : List ℕ) (at to : ℕ) (before behind : List Row)
    → EndBy at before to → IsBehind to behind → moved_from steps file at (before ++ behind)
    ≡ moved_to steps file at to before ++ moved_from steps file to behind
moved_split steps file at to [] behind ends next =
    let sum : at + (to - at) ≡ to = omega (arith, ends) in
    moved_from-later steps file at (to - at) behind (subst (λ n. IsBehind n behind) (sym sum) next)
    ∙ ap (λ n. bytes_between file at to ++ moved_from steps file n behind) sum
moved_split steps file at to (row ∷ before) behind ends next =
    grind (arith, append_three, moved_split steps file (row_end row) to before behind ends.2 next)

-- ---- with a new tag

not_all : (a b : Bool) {c : Bool} (l m : List ℕ) → c ≡ false → cond (a && (b && c)) l m ≡ m
not_all a b l m e = grind arith

module _ (steps : ℕ → Steps) (file : List ℕ) (tag : NewTag) where
  abbrev new : List ℕ
  new = tag.bytes.now

  -- after the offset of the tag the bytes are copied
  pub behind_tag : {from : ℕ} (to : ℕ) → tag.at < from
      → copied_bytes (Some tag) file from to ≡ bytes_between file from to
  behind_tag to past = grind (arith, lt-leb)

  -- before the tag the bytes are copied
  pub before_tag : (from : ℕ) {to : ℕ} → to < tag.end
      → copied_bytes (Some tag) file from to ≡ bytes_between file from to
  before_tag from past = grind (arith, not_all, lt-leb)

  -- around the tag the bytes are copied up to
  -- it and from its end on, with the new tag in between
  pub around_tag : {from to : ℕ} → from ≤ tag.at → tag.at ≤ tag.end → tag.end ≤ to
      → copied_bytes (Some tag) file from to
      ≡ bytes_between file from tag.at ++ (new ++ bytes_between file tag.end to)
  around_tag low up high = grind (arith, le-leb)

  -- all frames are after the tag
  pub written-behind : (at : ℕ) (rows : List Row) (to : ℕ) → tag.at < at → EndBy at rows to
      → bytes_written_from steps (Some tag) file at rows ≡ moved_from steps file at rows
  written-behind at [] to past ends =
      written-nil steps (Some tag) file at ∙ behind_tag (length file) past
  written-behind at (row ∷ rows) to past ends =
      written-cons steps (Some tag) file at row rows
      ∙ ap₂ (λ (a b : List ℕ). a ++ (moved_row_bytes (steps row.offset) file row ++ b))
      (behind_tag row.offset past)
      (written-behind (row_end row) rows to (omega (arith, past, ends.0, ends.1)) ends.2)

  -- the tag is before these frames, or at the end
  written-next : {at : ℕ} (behind : List Row) (to : ℕ) → at ≤ tag.at → tag.at ≤ tag.end → tag.end
      ≤ length file → EndBy tag.end behind to → bytes_written_from steps (Some tag) file at behind
      ≡ bytes_between file at tag.at ++ (new ++ moved_from steps file tag.end behind)
  written-next [] to low up within ends = grind (arith, written-nil, around_tag)
  written-next (row ∷ behind) to low up within ends =
      grind (arith, moved_from, written-cons, around_tag, written-behind, append_three)

  -- it is after some frames, and before the others
  pub written-split : (at : ℕ) (before behind : List Row) (to : ℕ) → EndBy at before tag.at
      → tag.at ≤ tag.end → tag.end ≤ length file → EndBy tag.end behind to
      → bytes_written_from steps (Some tag) file at (before ++ behind)
      ≡ moved_to steps file at tag.at before ++ (new ++ moved_from steps file tag.end behind)
  written-split at [] behind to ends up within next = written-next behind to ends up within next
  written-split at (row ∷ before) behind to ends up within next =
      let high = end_rises (row_end row) before ends.2 in
      written-cons steps (Some tag) file at row (before ++ behind)
      ∙ ap₂ (λ (a b : List ℕ). a ++ (moved_row_bytes (steps row.offset) file row ++ b))
      (before_tag at (omega (arith, ends.1, high, up)))
      (written-split (row_end row) before behind to ends.2 up within next)
      ∙ sym (append_three (bytes_between file at row.offset)
      (moved_row_bytes (steps row.offset) file row) (moved_to steps file
      (row_end row) tag.at before) (new ++ moved_from steps file tag.end behind))
