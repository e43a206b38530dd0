-- A changed file differs from the original in gains,
-- check words, the tag and junk that is left out.
use Rattle.std.proofs.Common.{ap, append_assoc, ap₂, arith, drop, inl, inr, List, map, None, Ok}
use Rattle.std.proofs.Common.{Option, refl, slice_get, Some, subst, suc, sym, take}
use Rattle.std.proofs.Common.{take-append-drop, zero, ℕ, [], ◌++◌, ◌+◌, ◌-◌, ◌<◌, ◌∙◌, ◌∷◌, ◌≡◌}
use Rattle.std.proofs.{Common.{◌≤◌, ◌⊎◌}, Math.Seq.take-add, lemmas.List.drop-drop}
use Rattle.bit_fields.specs.Bits.{AreBytes}
use Rattle.gain_laws.proofs.KeptFrameLemmas.{row_differs}
use Rattle.gain_laws.proofs.WholeFrameLemmas.{AreFramesOf, frames_there, IsFrameOf}
use Rattle.gain_laws.specs.Kept.{ArePatchesAllowed, ArePatchesInOrder, BeginsAfter, ChangesKeepAll}
use Rattle.gain_laws.specs.Kept.{KeepsAll, MovesFrame, Patch, patched_file, ReplacesTag}
use Rattle.moved_gains.proofs.LostOffsetLemmas.{EndBy}
use Rattle.moved_gains.proofs.MovingLemmas.{moved_from, moved_from-nil, moved_to}
use Rattle.moved_gains.proofs.MovingLemmas.{written-edited_file}
use Rattle.moved_gains.proofs.RowLemmas.{Each, each_before, each_behind}
use Rattle.moved_gains.proofs.TagExtentLemmas.{IsApart, IsInFront, stands_apart, stands_somewhere}
use Rattle.moved_gains.proofs.{TagExtentLemmas.StandsSomewhere, WrittenLemmas.append_three}
use Rattle.moved_gains.proofs.WrittenTagLemmas.{parted_among, parted_front}
use Rattle.moved_gains.specs.{Change.{file_with_change, retagged_file}, Edited.edited_file}
use Rattle.moved_gains.specs.{Moving.{moved_row_bytes, row_end}, Streams.edited_survey}
use Rattle.moved_gains.specs.TagExtent.{file_with_tag, tag_length, tag_offset}
use Rattle.outside.specs.Pass.{bytes_between}
use Rattle.requests.specs.declared.shift.Steps.{Steps}
use Rattle.sync_survey.specs.{Faults.{survey_fields, SurveyFields}, Row.Row}

-- ---- patches in order

-- patches in order from an offset on are in order from any earlier one
ordered_earlier : {at to : ℕ} (patches : List Patch) → at ≤ to → ArePatchesInOrder to patches
    → ArePatchesInOrder at patches
ordered_earlier [] low order = tt
ordered_earlier (patch ∷ patches) low order = grind arith

patches_earlier : (file : List ℕ) {at to : ℕ} (patches : List Patch) → at ≤ to
    → ArePatchesInOrder to patches
    → patched_file file at patches ≡ bytes_between file at to ++ patched_file file to patches
patches_earlier file {at} {to} [] low order =
    let sum : to - at + at ≡ to = omega (arith, low) in
    sym (take-append-drop (to - at) (drop at file)) ∙ ap (λ (l : List ℕ). bytes_between file at to
    ++ l) (drop-drop (to - at) at file ∙ ap (λ n. drop n file) (omega (arith, low)))
patches_earlier file {at} {to} (patch ∷ patches) low order =
    let rest = patch.now ++ patched_file file patch.to patches in
    let sum : patch.from - at ≡ (to - at) + (patch.from - to) = omega (arith, low, order.0) in
    let there : at + (to - at) ≡ to = omega (arith, low) in
    ap (λ n. take n (drop at file) ++ rest) sum
    ∙ ap (λ (l : List ℕ). l ++ rest)
    (take-add (to - at) (patch.from - to) (drop at file)
    ∙ ap (λ (l : List ℕ). bytes_between file at to ++ take (patch.from - to) l)
    (drop-drop (to - at) at file ∙ ap (λ n. drop n file) there))
    ∙ append_assoc (bytes_between file at to) (bytes_between file to patch.from) rest

begins_later : {at to : ℕ} (patches : List Patch) → at < to → ArePatchesInOrder to patches
    → BeginsAfter at patches
begins_later patches low order = grind arith

-- ---- the patches of frames

module _ (steps : ℕ → Steps) (file : List ℕ) where
  abbrev row_patch : Row → Patch
  row_patch row = record {
    from = row.offset;
    to = row_end row;
    now = moved_row_bytes (steps row.offset) file row;
  }

  abbrev row_patches : List Row → List Patch
  row_patches rows = map row_patch rows

  -- frames up to an offset, and patches from it on
  rows_begin : {at : ℕ} (rows : List Row) (patches : List Patch) (to : ℕ) → EndBy at rows to
      → ArePatchesInOrder to patches → {x : ℕ} → x < at
      → BeginsAfter x (row_patches rows ++ patches)
  rows_begin [] patches to ends order low = grind (arith, begins_later)
  rows_begin (row ∷ rows) patches to ends order low = omega (arith, low, ends.0)

  rows_ordered : (at : ℕ) (rows : List Row) (patches : List Patch) (to : ℕ) → EndBy at rows to
      → ArePatchesInOrder to patches → ArePatchesInOrder at (row_patches rows ++ patches)
  rows_ordered at [] patches to ends order = ordered_earlier patches ends order
  rows_ordered at (row ∷ rows) patches to ends order =
      grind (arith, rows_begin, rows_ordered (row_end row) rows patches to ends.2 order)

  patches-moved : (at : ℕ) (rows : List Row)
      → patched_file file at (row_patches rows ++ []) ≡ moved_from steps file at rows
  patches-moved at [] = sym (moved_from-nil steps file at)
  patches-moved at (row ∷ rows) = grind (arith, patches-moved (row_end row) rows)

  patches-before : (at : ℕ) (rows : List Row) (patch : Patch) (patches : List Patch)
      → patched_file file at (row_patches rows ++ (patch ∷ patches))
      ≡ moved_to steps file at patch.from rows ++ (patch.now ++ patched_file file patch.to patches)
  patches-before at [] patch patches = refl
  patches-before at (row ∷ rows) patch patches =
      grind (arith, append_three, moved_to, patches-before (row_end row) rows patch patches)

module _ (steps : ℕ → Steps) (file : List ℕ) (s : SurveyFields) where
  abbrev Moves : Row → Type 0
  Moves row = MovesFrame file s (row_patch steps file row)

  abbrev AllMove : List Row → Type 0
  AllMove rows = Each Moves rows

  moves : (i : ℕ) {row : Row} → slice_get s.frames i ≡ Some row → IsFrameOf file row
      → MovesFrame file s (row_patch steps file row)
  moves i there here = grind (arith, row_differs)

  all_move : (n : ℕ) (rows : List Row)
      → ((i : ℕ) (row : Row) → slice_get rows i ≡ Some row → slice_get s.frames (n + i) ≡ Some row)
      → AreFramesOf file rows → AllMove rows
  all_move n [] there here = tt
  all_move n (row ∷ rows) there here = (
    moves (n + 0) (there 0 row refl) here.0,
    all_move (n + 1) rows
        (λ i r is. ap (slice_get s.frames) (omega arith) ∙ there (suc i) r is) here.1,
  )

module _ (T : List ℕ → Type 0) (steps : ℕ → Steps) (file : List ℕ) (s : SurveyFields) where
  rows_allowed : (rows : List Row) (patches : List Patch) → AllMove steps file s rows
      → ArePatchesAllowed T file s patches
      → ArePatchesAllowed T file s (row_patches steps file rows ++ patches)
  rows_allowed [] patches all later = later
  rows_allowed (row ∷ rows) patches all later = grind (arith, rows_allowed rows patches all.1 later)

-- ---- the junk

module _ (T : List ℕ → Type 0) (file : List ℕ) (s : SurveyFields) where
  abbrev junk_patch : Patch
  junk_patch = record { from = s.junk; to = s.first; now = [] }

  -- patches that leave out the junk too, if there is any
  record Joined (at : ℕ) (patches : List Patch) : Type 0 where
    pub all : List Patch
    pub in_order : ArePatchesInOrder at all
    pub allowed : ArePatchesAllowed T file s all
    pub begins : (x : ℕ) → x < s.junk → BeginsAfter x all
    pub written : patched_file file at all
        ≡ bytes_between file at s.junk ++ patched_file file s.first patches

  after_junk : {at : ℕ} {patches : List Patch} → at ≤ s.junk → s.junk ≤ s.first
      → ArePatchesInOrder s.first patches → ArePatchesAllowed T file s patches → Joined at patches
  after_junk {at} {patches} low up order allowed = by_junk (s.first - s.junk) refl
    where
      by_junk : (n : ℕ) → s.first - s.junk ≡ n → Joined at patches
      by_junk zero is =
          let same : s.first ≡ s.junk = omega (arith, is, up) in
          let order = subst (λ n. ArePatchesInOrder n patches) same order in
          record {
            all = patches;
            in_order = ordered_earlier patches low order;
            allowed = allowed;
            begins = λ x less. begins_later patches less order;
            written = grind (arith, patches_earlier);
          }
      by_junk (suc n) is = record {
        all = junk_patch ∷ patches;
        in_order = (low, up, begins_later patches (omega (arith, is)) order, order);
        allowed = (inl (record { from = refl; to = refl; none = refl }), allowed);
        begins = λ x less. less;
        written = refl;
      }

-- ---- the changed file

module _ (file : List ℕ) (allowed : ℕ) {s : SurveyFields} (all : AreBytes file)
    (is : survey_fields file allowed ≡ Ok s) (steps : ℕ → Steps) where
  known : StandsSomewhere steps file s
  known = stands_somewhere steps allowed is

  each_moves : AllMove steps file s s.frames
  each_moves = all_move steps file s 0 s.frames (λ i row there.
      ap (slice_get s.frames) (omega arith) ∙ there) (frames_there file allowed all is)

  none : s.junk - 0 ≡ s.junk
  none = omega arith

  -- without a new tag
  keeps_none : KeepsAll (λ tag. None ≡ Some tag) file s (edited_file steps file s)
  keeps_none =
      let T : List ℕ → Type 0 = λ tag. None ≡ Some tag in
      let patches = row_patches steps file s.frames ++ [] in
      let order = rows_ordered steps file s.first s.frames [] s.length known.ends tt in
      let may : ArePatchesAllowed T file s patches =
      rows_allowed T steps file s s.frames [] each_moves tt in
      let joined = after_junk T file s (omega arith) known.junk order may in
      record {
        patches = joined.all;
        in_order = joined.in_order;
        allowed = joined.allowed;
        written =
            sym (written-edited_file steps file allowed is)
            ∙ ap₂ (λ n (l : List ℕ). take n file ++ l) (sym none)
            (sym (patches-moved steps file s.first s.frames))
            ∙ sym joined.written;
      }

  -- ---- with a new tag

  module _ (bytes : List ℕ) where
    abbrev MayBe : List ℕ → Type 0
    MayBe tag = Some bytes ≡ Some tag

    abbrev a : ℕ
    a = tag_offset s

    abbrev size : ℕ
    size = tag_length s

    abbrev with_new : List ℕ
    with_new = file_with_tag bytes (edited_survey steps s) (edited_file steps file s)

    abbrev tag_patch : Patch
    tag_patch = record { from = a; to = a + size; now = bytes }

    tag_allowed : ReplacesTag MayBe s tag_patch
    tag_allowed = record { from = refl; to = refl; now = refl }

    abbrev rows : List Patch
    rows = row_patches steps file s.frames ++ []

    keeps_front : IsInFront s → KeepsAll MayBe file s with_new
    keeps_front front =
        let order = rows_ordered steps file s.first s.frames [] s.length known.ends tt in
        let may : ArePatchesAllowed MayBe file s rows =
        rows_allowed MayBe steps file s s.frames [] each_moves tt in
        let joined =
        after_junk MayBe file s front.before known.junk order may in
        let zero_less : a - 0 ≡ a = omega arith in
        record {
          patches = tag_patch ∷ joined.all;
          in_order = grind (arith, joined.begins, front.some, front.before, joined.in_order);
          allowed = (inr (inl tag_allowed), joined.allowed);
          written =
              (parted_front steps file allowed is front).tagged bytes
              ∙ ap₂ (λ n (l : List ℕ). take n file
              ++ (bytes ++ (bytes_between file (a + size) s.junk ++ l))) (sym zero_less)
              (sym (patches-moved steps file s.first s.frames))
              ∙ ap (λ (l : List ℕ). bytes_between file 0 a ++ (bytes ++ l)) (sym joined.written);
        }

    keeps_among : IsApart s → KeepsAll MayBe file s with_new
    keeps_among apart =
        let among = apart.among in
        let before = row_patches steps file among.before in
        let behind = row_patches steps file among.behind ++ [] in
        let parts : AllMove steps file s (among.before ++ among.behind) =
        subst (AllMove steps file s) among.all each_moves in
        let before_moves = each_before (Moves steps file s) among.before among.behind parts in
        let behind_moves = each_behind (Moves steps file s) among.before among.behind parts in
        let behind_allowed : ArePatchesAllowed MayBe file s behind = grind (arith, rows_allowed) in
        let behind_order =
        rows_ordered steps file (a + size) among.behind [] s.length among.rest tt in
        let all_allowed : ArePatchesAllowed MayBe file s (before ++ (tag_patch ∷ behind)) =
        grind (arith, rows_allowed, tag_allowed) in
        let tag_order : ArePatchesInOrder a (tag_patch ∷ behind) = grind arith in
        let order : ArePatchesInOrder s.first (before ++ (tag_patch ∷ behind)) =
        rows_ordered steps
        file s.first among.before (tag_patch ∷ behind) a among.front tag_order in
        let joined = after_junk MayBe file s
        (omega arith) known.junk order all_allowed in
        record {
          patches = joined.all;
          in_order = joined.in_order;
          allowed = joined.allowed;
          written =
              (parted_among steps file allowed is among).tagged bytes
              ∙ append_assoc (take s.junk file) (moved_to steps file s.first a among.before)
              (bytes ++ moved_from steps file (a + size) among.behind)
              ∙ ap₂ (λ n (l : List ℕ). take n file
              ++ (moved_to steps file s.first a among.before ++ (bytes ++ l))) (sym none)
              (sym (patches-moved steps file (a + size) among.behind))
              ∙ ap (λ (l : List ℕ). bytes_between file 0 s.junk ++ l)
              (sym (patches-before steps file s.first among.before tag_patch behind))
              ∙ sym joined.written;
        }
      where
        tag_begins : (behind : List Row) → EndBy (a + size) behind s.length → (behind ≡ [])
            ⊎ (0 < size) → BeginsAfter a (row_patches steps file behind ++ [])
        tag_begins [] ends apart = tt
        tag_begins (row ∷ behind) ends (inl none) = absurd cc
        tag_begins (row ∷ behind) ends (inr some) = omega (arith, ends.0, some)

    keeps_tag : KeepsAll MayBe file s with_new
    keeps_tag = by_place (stands_apart steps file allowed is)
      where
        by_place : IsInFront s ⊎ IsApart s → KeepsAll MayBe file s with_new
        by_place (inl front) = keeps_front front
        by_place (inr apart) = keeps_among apart

-- only gains, check words, the tag and junk change
pub changes_kept : ChangesKeepAll
unfolding file_with_change
changes_kept change file allowed s all is = by_tag change.tag
  where
    by_tag : (o : Option (List ℕ)) → KeepsAll (λ tag. o ≡ Some tag) file s
        (retagged_file o (edited_survey change.steps s) (edited_file change.steps file s))
    by_tag None = keeps_none file allowed all is change.steps
    by_tag (Some bytes) = keeps_tag file allowed all is change.steps bytes

-- ---- what may be the tag

allowed_weaker : (T U : List ℕ → Type 0) → ((tag : List ℕ) → T tag → U tag)
    → (file : List ℕ) (s : SurveyFields) (patches : List Patch) → ArePatchesAllowed T file s patches
    → ArePatchesAllowed U file s patches
allowed_weaker T U weaker file s [] may = tt
allowed_weaker T U weaker file s (patch ∷ patches) may =
    grind (arith, allowed_weaker T U weaker file s patches may.1)

-- patches are allowed too where more may be the tag
pub keeps_weaker : (T U : List ℕ → Type 0) → ((tag : List ℕ) → T tag → U tag) → {file : List ℕ}
    {s : SurveyFields} {new : List ℕ} → KeepsAll T file s new → KeepsAll U file s new
keeps_weaker T U weaker {file} {s} keeps = record {
  patches = keeps.patches;
  in_order = keeps.in_order;
  allowed = allowed_weaker T U weaker file s keeps.patches keeps.allowed;
  written = keeps.written;
}
