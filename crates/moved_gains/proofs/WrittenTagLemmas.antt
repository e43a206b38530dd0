-- What is written is the changed file: the edited file with the new tag instead of its tag.
use Rattle.std.proofs.Common.{ap, append_assoc, ap₂, arith, Bool, cond, drop, false, inl, inr}
use Rattle.std.proofs.Common.{length, length-append, length-drop, List, ltb, map, None, Ok, Option}
use Rattle.std.proofs.Common.{option_map, refl, Some, subst, sym, take, true, ℕ, [], ◌++◌, ◌+◌, ◌-◌}
use Rattle.std.proofs.{Common.{◌<◌, ◌∙◌, ◌∷◌, ◌≡◌, ◌≤◌, ◌⊎◌}, Math.Seq.take-add}
use Rattle.std.proofs.lemmas.Bool.{le-ltb, lt-ltb}
use Rattle.std.{proofs.lemmas.List.{drop-drop, drop_at, length-take-le, take_at}, specs.List.find}
use Rattle.moved_gains.proofs.{FoundTagLemmas.last_more, LostOffsetLemmas.EndBy}
use Rattle.moved_gains.proofs.MovingLemmas.{behind_earlier, is_behind, IsBehind, moved_from}
use Rattle.moved_gains.proofs.MovingLemmas.{moved_from-later, moved_to, written-edited_file}
use Rattle.moved_gains.proofs.RowLemmas.{each_before}
use Rattle.moved_gains.proofs.TagExtentLemmas.{IsAmong, IsInFront, stands_somewhere}
use Rattle.moved_gains.proofs.TagExtentLemmas.{StandsSomewhere, tag_none}
use Rattle.moved_gains.proofs.{TagReadingLemmas.place-some, TaggedByteLemmas.file_with_tag-is}
use Rattle.moved_gains.proofs.WrittenLemmas.{append_three, AreSized, around_tag, before_tag}
use Rattle.moved_gains.proofs.WrittenLemmas.{IsSized, moved_split, moved_to-long, written-behind}
use Rattle.moved_gains.proofs.WrittenLemmas.{written-none, written-split}
use Rattle.moved_gains.specs.Change.{file_with_change, FileChange, retagged_file}
use Rattle.moved_gains.specs.Edited.{edited_file}
use Rattle.moved_gains.specs.Moving.{bytes_written_from, copied_bytes, IsNewTag, IsTagOf, row_end}
use Rattle.moved_gains.specs.Streams.{edited_block, edited_row, edited_survey, junk_length}
use Rattle.moved_gains.specs.TagExtent.{file_with_tag, is_tag, last_end, tag_block, tag_length}
use Rattle.moved_gains.specs.{TagExtent.tag_offset, TagLaws.own_tag_bytes}
use Rattle.moved_gains.specs.declared.moving.NewTag.{NewTag}
use Rattle.outside.specs.Pass.{bytes_between}
use Rattle.requests.specs.declared.shift.Steps.{Steps}
use Rattle.sync_survey.specs.{Faults.{survey_fields, SurveyFields}, Row.Row}
use Rattle.sync_survey.specs.declared.places.Piece.{Piece}

-- ---- the tag of the edited file

module _ (first gap : ℕ) where
  kind_kept : (p : Piece) → is_tag (edited_block first gap p) ≡ is_tag p
  kind_kept p = grind arith

  found_moved : (p : Piece) (b : Bool) {x : Option Piece} (y : Option Piece)
      → x ≡ option_map (edited_block first gap) y → cond b (Some (edited_block first gap p)) x
      ≡ option_map (edited_block first gap) (cond b (Some p) y)
  found_moved p b y same = grind arith

  find_moved : (blocks : List Piece) → find is_tag (map (edited_block first gap) blocks)
      ≡ option_map (edited_block first gap) (find is_tag blocks)
  find_moved [] = refl
  find_moved (p ∷ ps) = grind (arith, kind_kept, found_moved, find_moved ps)

  size_kept : (p : Piece) → (edited_block first gap p).block.length ≡ p.block.length
  size_kept p = grind arith

last_moved : (steps : ℕ → Steps) {gap : ℕ} (from : ℕ) (row : Row) (rows : List Row) (to : ℕ)
    → EndBy from (row ∷ rows) to → gap ≤ from
    → last_end (map (edited_row steps gap) (row ∷ rows)) ≡ last_end (row ∷ rows) - gap
last_moved steps from row [] to ends low = omega (arith, ends.0, low)
last_moved steps {gap} from row (q ∷ rows) to ends low =
    last_more (edited_row steps gap row) (edited_row steps gap q) (map (edited_row steps gap) rows)
    ∙ last_moved steps (row_end row) q rows to ends.2 (omega (arith, low, ends.0, ends.1))
    ∙ ap (λ n. n - gap) (sym (last_more row q rows))

module _ (steps : ℕ → Steps) (s : SurveyFields) where
  abbrev gap : ℕ
  gap = junk_length s

  abbrev m : SurveyFields
  m = edited_survey steps s

  block_moved : tag_block m ≡ option_map (edited_block s.first gap) (tag_block s)
  unfolding edited_survey
  block_moved = find_moved s.first gap s.blocks

  frames_moved : m.frames ≡ map (edited_row steps gap) s.frames
  unfolding edited_survey
  frames_moved = refl

  some_moved : {b : Piece} → tag_block s ≡ Some b → tag_block m ≡ Some (edited_block s.first gap b)
  some_moved is = block_moved ∙ ap (option_map (edited_block s.first gap)) is

  none_moved : tag_block s ≡ None → tag_block m ≡ None
  none_moved is = block_moved ∙ ap (option_map (edited_block s.first gap)) is

  -- the tag of the edited file is as long as the file's
  pub length_moved : tag_length m ≡ tag_length s
  length_moved = at (tag_block s) refl
    where
      at : (o : Option Piece) → tag_block s ≡ o → tag_length m ≡ tag_length s
      at None is = (tag_none m (none_moved is)).1 ∙ sym (tag_none s is).1
      at (Some b) is = (place-some m (some_moved is)).1
          ∙ size_kept s.first gap b ∙ sym (place-some s is).1

  -- a tag before the frames stays where it is
  pub at_front : tag_offset s < s.first → 0 < tag_length s → tag_offset m ≡ tag_offset s
  at_front front some = at (tag_block s) refl
    where
      at : (o : Option Piece) → tag_block s ≡ o → tag_offset m ≡ tag_offset s
      at None is = absurd (omega (arith, some, (tag_none s is).1))
      at (Some b) is =
          let place = (place-some s is).0 in
          let low : ltb b.offset s.first ≡ true = grind (arith, lt-ltb, place) in
          (place-some m (some_moved is)).0
          ∙ ap (λ c. (cond c b (record b { offset = b.offset - gap })).offset) low
          ∙ sym place

  -- a tag after the first frame's offset is nearer to the beginning by the junk
  pub at_behind : (to : ℕ) → s.first ≤ tag_offset s → EndBy s.first s.frames to
      → 0 < length s.frames → tag_offset m ≡ tag_offset s - gap
  at_behind to low ends some = at (tag_block s) refl
    where
      last : (rows : List Row) → EndBy s.first rows to → 0 < length rows
          → last_end (map (edited_row steps gap) rows) ≡ last_end rows - gap
      last [] ends some = absurd (omega (arith, some))
      last (row ∷ rows) ends some = last_moved steps s.first row rows to ends (omega arith)

      at : (o : Option Piece) → tag_block s ≡ o → tag_offset m ≡ tag_offset s - gap
      at None is =
          (tag_none m (none_moved is)).0 ∙ ap last_end frames_moved ∙ last s.frames ends some
          ∙ ap (λ n. n - gap) (sym (tag_none s is).0)
      at (Some b) is =
          let place = (place-some s is).0 in
          let high : ltb b.offset s.first ≡ false =
          le-ltb b.offset s.first (omega (arith, low, place)) in
          (place-some m (some_moved is)).0
          ∙ ap (λ c. (cond c b (record b { offset = b.offset - gap })).offset) high
          ∙ ap (λ n. n - gap) (sym place)

-- ---- the edited file is what is before its tag, the tag, and what is after it

-- the edited file is what is before its tag, the tag, and what is after it
pub record IsParted (steps : ℕ → Steps) (file : List ℕ) (s : SurveyFields)
    (before behind : List ℕ) : Type 0 where
  pub place : tag_offset (edited_survey steps s) ≡ length before
  pub own : edited_file steps file s ≡ before ++ (own_tag_bytes file s ++ behind)
  pub tagged : (bytes : List ℕ)
      → file_with_tag bytes (edited_survey steps s) (edited_file steps file s)
      ≡ before ++ (bytes ++ behind)

parted_by : {steps : ℕ → Steps} {file : List ℕ} {s : SurveyFields} {before behind : List ℕ}
    → tag_offset (edited_survey steps s) ≡ length before → length (own_tag_bytes file s)
    ≡ tag_length s → edited_file steps file s ≡ before ++ (own_tag_bytes file s ++ behind)
    → IsParted steps file s before behind
parted_by {steps} {file} {s} {before} {behind} place size own =
    let m = edited_survey steps s in
    let moved = edited_file steps file s in
    let front : take (tag_offset m) moved ≡ before =
    ap (take (tag_offset m)) own
    ∙ take_at before (own_tag_bytes file s ++ behind) (tag_offset m) (sym place) in
    let rest : drop (tag_offset m + tag_length m) moved ≡ behind =
    sym (drop-drop (tag_length m) (tag_offset m) moved)
    ∙ ap (λ (l : List ℕ). drop (tag_length m) (drop (tag_offset m) l)) own
    ∙ ap (drop (tag_length m))
    (drop_at before (own_tag_bytes file s ++ behind) (tag_offset m) (sym place))
    ∙ drop_at (own_tag_bytes file s) behind (tag_length m) (size ∙ sym (length_moved steps s)) in
    record {
      place = place;
      own = own;
      tagged =
          λ bytes. file_with_tag-is bytes m moved
          ∙ ap₂ (λ (a b : List ℕ). a ++ (bytes ++ b)) front rest;
    }

module _ (steps : ℕ → Steps) (file : List ℕ) (allowed : ℕ) {s : SurveyFields}
    (is : survey_fields file allowed ≡ Ok s) where
  known : StandsSomewhere steps file s
  known = stands_somewhere steps allowed is

  moved_is : edited_file steps file s ≡ take s.junk file ++ moved_from steps file s.first s.frames
  moved_is = sym (written-edited_file steps file allowed is)

  -- the tag is before the junk
  pub parted_front : IsInFront s
      → IsParted steps file s (take (tag_offset s) file) (bytes_between file
      (tag_offset s + tag_length s) s.junk ++ moved_from steps file s.first s.frames)
  parted_front front =
      let a = tag_offset s in
      let size = tag_length s in
      let junk = s.junk in
      let own = own_tag_bytes file s in
      let between = bytes_between file (a + size) junk in
      let all = moved_from steps file s.first s.frames in
      let within : junk ≤ length file = omega (arith, known.size, known.junk, known.first) in
      let sum : junk ≡ (a + size) + (junk - (a + size)) = omega (arith, front.before) in
      let to_junk : take junk file ≡ take a file ++ (own ++ between) =
      grind (arith, take-add, append_assoc, own) in
      let front_long : length (take a file) ≡ a = grind (arith, length-take-le) in
      let own_long : length own ≡ size = grind (arith, length-take-le, length-drop) in
      parted_by
      (at_front steps s (omega (arith, front.some, front.before, known.junk)) front.some
      ∙ sym front_long)
      own_long
      (moved_is
      ∙ ap (λ (l : List ℕ). l ++ all) to_junk
      ∙ append_assoc (take a file) (own ++ between) all
      ∙ ap (λ (l : List ℕ). take a file ++ l) (append_assoc own between all))

  -- the tag is among the frames, or after them
  pub parted_among : (among : IsAmong s) → IsParted steps file s
      (take s.junk file ++ moved_to steps file s.first (tag_offset s) among.before)
      (moved_from steps file (tag_offset s + tag_length s) among.behind)
  parted_among among =
      let a = tag_offset s in
      let size = tag_length s in
      let junk = s.junk in
      let own = own_tag_bytes file s in
      let before = moved_to steps file s.first a among.before in
      let rest = moved_from steps file (a + size) among.behind in
      let up : a + size ≤ length file = omega (arith, known.size, among.up) in
      let long : length (take junk file) ≡ junk = grind (arith, length-take-le) in
      let before_long : length before ≡ a - s.first = moved_to-long steps file s.first
      among.before (each_before (IsSized steps file) among.before among.behind
      (subst (AreSized steps file) among.all known.sized)) among.front (omega (arith, up)) in
      let own_long : length own ≡ size = grind (arith, length-take-le, length-drop) in
      let next : IsBehind (a + size) among.behind = grind (arith, is_behind) in
      parted_by
      (at_behind steps s s.length (omega (arith, among.low)) known.ends known.some
      ∙ omega
      (arith, length-append (take junk file) before, long, before_long, known.junk, among.low))
      own_long
      (moved_is
      ∙ ap (λ (l : List ℕ). take junk file ++ l)
      (ap (moved_from steps file s.first) among.all
      ∙ moved_split steps file s.first a
      among.before among.behind among.front (behind_earlier among.behind (omega arith) next)
      ∙ ap (λ (l : List ℕ). before ++ l) (moved_from-later steps file a size among.behind next))
      ∙ sym (append_assoc (take junk file) before (own ++ rest)))

-- ---- what is written

module _ (steps : ℕ → Steps) (file : List ℕ) (allowed : ℕ) {s : SurveyFields}
    (is : survey_fields file allowed ≡ Ok s) (tag : NewTag) {bytes : List ℕ}
    (new : IsTagOf s (Some bytes) (Some tag)) where
  abbrev at_tag : ℕ
  at_tag = tag_offset s

  abbrev long_tag : ℕ
  long_tag = tag_length s

  abbrev with_new : List ℕ
  with_new = file_with_tag bytes (edited_survey steps s) (edited_file steps file s)

  there : StandsSomewhere steps file s
  there = stands_somewhere steps allowed is

  front_case : IsInFront s → copied_bytes (Some tag) file 0 s.junk
      ++ bytes_written_from steps (Some tag) file s.first s.frames
      ≡ with_new
  front_case front =
      let junk = s.junk in
      let rest = moved_from steps file s.first s.frames in
      let none : at_tag - 0 ≡ at_tag = omega arith in
      let high : at_tag + long_tag ≤ junk = front.before in
      let between = bytes_between file (at_tag + long_tag) junk in
      ap₂ (λ (l r : List ℕ). l ++ r)
      (around_tag steps file tag (omega arith) (omega (arith, new.0, new.1))
      (omega (arith, new.1, high))
      ∙ ap₂ (λ n k. bytes_between file 0 n ++ (tag.bytes.now ++ bytes_between file k junk))
      new.0 new.1
      ∙ ap₂ (λ n (l : List ℕ). take n file ++ (l ++ between)) none new.2)
      (written-behind steps file tag
      s.first s.frames s.length (omega (arith, new.0, front.some, high, there.junk)) there.ends)
      ∙ append_three (take at_tag file) bytes between rest
      ∙ sym ((parted_front steps file allowed is front).tagged bytes)

  among_case : IsAmong s → copied_bytes (Some tag) file 0 s.junk
      ++ bytes_written_from steps (Some tag) file s.first s.frames
      ≡ with_new
  among_case among =
      let none : s.junk - 0 ≡ s.junk = omega arith in
      let up : at_tag + long_tag ≤ length file = omega (arith, there.size, among.up) in
      let before = moved_to steps file s.first at_tag among.before in
      let rest = moved_from steps file (at_tag + long_tag) among.behind in
      ap₂ (λ (l r : List ℕ). l ++ r)
      (before_tag steps file tag 0 (omega (arith, new.1, among.past))
      ∙ ap (λ n. take n file) none)
      (ap (bytes_written_from steps (Some tag) file s.first) among.all
      ∙ written-split steps file tag s.first among.before among.behind s.length
      (subst (EndBy s.first among.before) (sym new.0) among.front) (omega (arith, new.0, new.1))
      (omega (arith, new.1, up)) (subst (λ n. EndBy n among.behind s.length) (sym new.1) among.rest)
      ∙ ap₂ (λ n k. moved_to steps file s.first n among.before
      ++ (tag.bytes.now ++ moved_from steps file k among.behind)) new.0 new.1
      ∙ ap (λ (l : List ℕ). before ++ (l ++ rest)) new.2)
      ∙ sym (append_assoc (take s.junk file) before (bytes ++ rest))
      ∙ sym ((parted_among steps file allowed is among).tagged bytes)

  tag_case : copied_bytes (Some tag) file 0 s.junk
      ++ bytes_written_from steps (Some tag) file s.first s.frames
      ≡ with_new
  tag_case = at there.place
    where
      at : IsInFront s ⊎ IsAmong s → copied_bytes (Some tag) file 0 s.junk
          ++ bytes_written_from steps (Some tag) file s.first s.frames
          ≡ with_new
      at (inl front) = front_case front
      at (inr among) = among_case among

-- what the second pass writes
pub written-file_with_change : (change : FileChange) (tag : Option NewTag) (file : List ℕ)
    (allowed : ℕ)
    {s : SurveyFields} → IsNewTag s change tag → survey_fields file allowed ≡ Ok s
    → copied_bytes tag file 0 s.junk ++ bytes_written_from change.steps tag file s.first s.frames
    ≡ file_with_change change file s
unfolding file_with_change
written-file_with_change change tag file allowed {s} new is = at change.tag tag new
  where
    none : s.junk - 0 ≡ s.junk
    none = omega arith

    at : (o : Option (List ℕ)) (t : Option NewTag) → IsTagOf s o t
        → copied_bytes t file 0 s.junk ++ bytes_written_from change.steps t file s.first s.frames
        ≡ retagged_file o (edited_survey change.steps s) (edited_file change.steps file s)
    at None None new =
        ap₂ (λ n (l : List ℕ). take n file ++ l) none
        (written-none change.steps file s.first s.frames)
        ∙ written-edited_file change.steps file allowed is
    at (Some bytes) (Some t) new = tag_case change.steps file allowed is t new
    at _ _ new = absurd new
