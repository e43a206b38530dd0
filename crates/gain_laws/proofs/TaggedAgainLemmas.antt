-- A file with moved gains and another tag, changed again: it
-- is the file with both changes' steps and with the last tag.
use Rattle.std.proofs.Common.{ap, append-nil, append_assoc, ap₂, arith, drop, inl, inr, length}
use Rattle.std.proofs.Common.{length-drop, List, map, Ok, refl, Some, subst, sym, take, ℕ, [], ◌++◌}
use Rattle.std.proofs.Common.{◌+◌, ◌-◌, ◌∙◌, ◌∷◌, ◌≡◌, ◌≤◌, ◌⊎◌}
use Rattle.std.proofs.lemmas.List.{drop-drop, drop_at, length-take-le, map-append, take_at}
use Rattle.bit_fields.specs.Bits.{AreBytes}
use Rattle.gain_laws.proofs.MovedAgainLemmas.{AllTogether, AreMovedBy, ends_again, IsTogether}
use Rattle.gain_laws.proofs.MovedAgainLemmas.{moved_again, StandAgain, stood}
use Rattle.gain_laws.proofs.NewTagLemmas.{tagged-again}
use Rattle.gain_laws.proofs.WholeFrameLemmas.{AreFramesOf, frames_there, IsFrameOf}
use Rattle.gain_laws.specs.NewTagLaws.{HasNewTag}
use Rattle.moved_gains.proofs.{EditedSurveyLemmas.survey_fields-edited_file, LostOffsetLemmas.EndBy}
use Rattle.moved_gains.proofs.MovingLemmas.{moved_to}
use Rattle.moved_gains.proofs.RetaggedFileLemmas.{survey_fields-retagged_fields}
use Rattle.moved_gains.proofs.RowLemmas.{each_before, each_behind}
use Rattle.moved_gains.proofs.TagExtentLemmas.{IsAmong, IsInFront, stands_somewhere}
use Rattle.moved_gains.proofs.{TagExtentLemmas.StandsSomewhere, TaggedByteLemmas.{follows, stays}}
use Rattle.moved_gains.proofs.WrittenTagLemmas.{at_behind, at_front, IsParted, length_moved}
use Rattle.moved_gains.proofs.WrittenTagLemmas.{parted_among, parted_front}
use Rattle.moved_gains.specs.{Edited.edited_file, Streams.{edited_row, edited_survey, junk_length}}
use Rattle.moved_gains.specs.TagExtent.{file_with_tag, retagged_fields, retagged_offset}
use Rattle.moved_gains.specs.TagExtent.{retagged_row, tag_length, tag_offset}
use Rattle.outside.specs.Pass.{bytes_between}
use Rattle.requests.specs.declared.shift.Steps.{Steps}
use Rattle.sync_survey.specs.{Faults.{survey_fields, SurveyFields}, Row.Row}
use Rattle.tag_blocks.{proofs.BlocksLemmas.block_front-least, specs.Blocks.block_front}
use Rattle.tag_blocks.specs.declared.block.Kind.TheVariants.{Ape}

-- ---- changed again

module _ (one : ℕ → Steps) (file : List ℕ) (allowed : ℕ) {s : SurveyFields} (are : AreBytes file)
    (is : survey_fields file allowed ≡ Ok s) (block : List ℕ)
    (front : block_front block ≡ Some (record { kind = Ape; length = length block })) where
  abbrev m : SurveyFields
  m = edited_survey one s

  abbrev size : ℕ
  size = length block

  -- the file with moved gains and this tag, and its survey
  abbrev pub new : List ℕ
  new = file_with_tag block m (edited_file one file s)

  abbrev pub new_survey : SurveyFields
  new_survey = retagged_fields size m

  abbrev gap : ℕ
  gap = junk_length s

  abbrev a : ℕ
  a = tag_offset s

  abbrev old : ℕ
  old = tag_length s

  -- the new offset of what is at an offset of the file
  abbrev pub to : ℕ → ℕ
  to x = retagged_offset size m (x - gap)

  moved_of : survey_fields (edited_file one file s) allowed ≡ Ok m
  moved_of = survey_fields-edited_file one file allowed are is

  clean : m.junk ≡ m.first
  unfolding edited_survey
  clean = refl

  -- the changed file has the survey of the edited file with another tag
  pub new_is : survey_fields new allowed ≡ Ok new_survey
  new_is = grind (arith, survey_fields-retagged_fields, moved_of, clean)

  -- it has the new tag
  pub has_block : HasNewTag (edited_file one file s) block m
  has_block = tagged-again (edited_file one file s) block allowed m moved_of clean front

  some : 10 ≤ size
  some = block_front-least block front

  rows_twice : (rows : List Row)
      → map (retagged_row size m) (map (edited_row one gap) rows) ≡ map (stood to one) rows
  rows_twice [] = refl
  rows_twice (row ∷ rows) = ap (λ (l : List Row). stood to one row ∷ l) (rows_twice rows)

  -- its frames are the file's, moved and at their new offsets
  pub new_frames : new_survey.frames ≡ map (stood to one) s.frames
  unfolding retagged_fields edited_survey
  new_frames = rows_twice s.frames

  new_junk : new_survey.junk ≡ retagged_offset size m s.junk
  unfolding retagged_fields edited_survey
  new_junk = refl

  new_first : new_survey.first ≡ retagged_offset size m s.junk
  unfolding retagged_fields edited_survey
  new_first = refl

  -- it has no junk
  pub clean_survey : junk_length new_survey ≡ 0
  clean_survey = omega (arith, new_junk, new_first)

  -- it is shorter by the junk and the tag, and longer by the new tag
  pub new_long : new_survey.length ≡ s.length - gap - tag_length m + size
  unfolding retagged_fields edited_survey
  new_long = refl

  old_size : tag_length m ≡ old
  old_size = length_moved one s

  here : StandsSomewhere one file s
  here = stands_somewhere one allowed is

  frames : AreFramesOf file s.frames
  frames = frames_there file allowed are is

  new_size : tag_length new_survey ≡ size
  new_size = has_block.size

  whole : length new ≡ new_survey.length
  whole = (stands_somewhere one allowed new_is).size

  -- its tag is after the same bytes, and before the same
  module _ {before behind : List ℕ} (parted : IsParted one file s before behind) where
    before_long : length before ≡ tag_offset new_survey
    before_long = sym (has_block.place ∙ parted.place)

    before_there : take (tag_offset new_survey) new ≡ before
    before_there = grind (arith, take_at, before_long)

    behind_there : drop (tag_offset new_survey + tag_length new_survey) new ≡ behind
    behind_there =
        ap (λ k. drop (tag_offset new_survey + k) new) new_size
        ∙ sym (drop-drop size (tag_offset new_survey) new)
        ∙ ap (λ (l : List ℕ). drop size (drop (tag_offset new_survey) l)) (parted.tagged block)
        ∙ ap (drop size) (drop_at before (block ++ behind) (tag_offset new_survey) before_long)
        ∙ drop_at block behind size refl

  -- if the tag is after some frames and before the others, so is the new one
  module _ (at : IsAmong s) where
    kept : tag_offset m ≡ a - gap
    kept = at_behind one s s.length (omega (arith, at.low)) here.ends here.some

    place : tag_offset new_survey ≡ a - gap
    place = has_block.place ∙ kept

    still : retagged_offset size m s.junk ≡ s.junk
    still = stays size m s.junk (omega (arith, kept, at.low, here.junk))

    junk_same : new_survey.junk ≡ s.junk
    junk_same = new_junk ∙ still

    first_same : new_survey.first ≡ s.junk
    first_same = new_first ∙ still

    abbrev next : ℕ
    next = tag_offset new_survey + tag_length new_survey

    by_before : AreMovedBy to s.first a new_survey.first
    by_before x low high = stays size m (x - gap) (omega (arith, kept, low, high, here.junk))
        ∙ omega (arith, first_same, low, here.junk)

    by_behind : AreMovedBy to (a + old) (length file) next
    by_behind x low high = grind (arith, follows, kept, old_size, place, new_size)

    to_place : a - s.first + new_survey.first ≡ tag_offset new_survey
    to_place = omega (arith, place, first_same, at.low, here.junk)

    to_end : length file - (a + old) + next ≡ length new
    to_end = omega
        (arith, place, new_size, here.size, whole, new_long, old_size, at.low, at.up, here.junk)

    rest_file : EndBy (a + old) at.behind (length file)
    rest_file = subst (EndBy (a + old) at.behind) (sym here.size) at.rest

    abbrev new_among : IsAmong new_survey
    new_among = record {
      before = map (stood to one) at.before;
      behind = map (stood to one) at.behind;
      all = new_frames ∙ ap (map (stood to one)) at.all
          ∙ map-append (stood to one) at.before at.behind;
      low = omega (arith, place, first_same, at.low, here.junk);
      past = omega (arith, place, junk_same, at.low, here.junk);
      front = subst (EndBy new_survey.first (map (stood to one) at.before)) to_place
          (ends_again one s.first new_survey.first at.before at.front by_before);
      rest = subst (EndBy next (map (stood to one) at.behind)) (to_end ∙ whole)
          (ends_again one (a + old) next at.behind rest_file by_behind);
      up = omega (arith, to_end, whole);
    }

  module _ (two all : ℕ → Steps) (sum : AllTogether one two all to s.frames) where
    abbrev n : SurveyFields
    n = new_survey

    there : StandsSomewhere two new n
    there = stands_somewhere two allowed new_is

    -- the tag is before the frames
    front_again : IsInFront s → (bytes : List ℕ)
        → file_with_tag bytes (edited_survey two n) (edited_file two new n)
        ≡ file_with_tag bytes (edited_survey all s) (edited_file all file s)
    front_again at bytes =
        let kept : tag_offset m ≡ a =
        at_front one s (omega (arith, at.some, at.before, here.junk)) at.some in
        let place : tag_offset n ≡ a = has_block.place ∙ kept in
        let past : retagged_offset size m s.junk ≡ s.junk - old + size =
        grind (arith, follows, kept, old_size) in
        let between = bytes_between file (a + old) s.junk in
        let rows = moved_to one file s.first (length file) s.frames in
        let within : s.junk ≤ length file = omega (arith, here.size, here.junk, here.first) in
        let parted = parted_front one file allowed is at in
        let at_new : IsInFront n = grind (arith, some, new_size, place, new_junk) in
        let between_long : length between ≡ s.junk - (a + old) = length-take-le (s.junk - (a + old))
        (drop (a + old) file) (omega (arith, length-drop (a + old) file, at.before, within)) in
        let before_same = before_there parted in
        let next : tag_offset n + tag_length n ≡ a + size = ap₂ (λ j k. j + k) place new_size in
        let behind = behind_there parted in
        let between_same : bytes_between new (tag_offset n + tag_length n) n.junk ≡ between =
        grind (arith, take_at, new_junk) in
        let far : n.first ≡ (tag_offset n + tag_length n) + (s.junk - (a + old)) =
        omega (arith, new_first, past, next, at.before) in
        let rows_stand : drop n.first new ≡ rows ++ [] =
        grind (
          arith,
          drop-drop (s.junk - (a + old)) (tag_offset n + tag_length n) new,
          drop_at
              between rows (s.junk - (a + old)) between_long,
          append-nil rows,
        ) in
        let end : length file - s.first + n.first ≡ length new = omega (
          arith,
          here.size,
          there.size,
          new_long,
          old_size,
          new_first,
          past,
          here.first,
          here.junk,
          at.before,
        ) in
        let by : AreMovedBy to s.first (length file) n.first =
        grind (arith, follows, kept, old_size, new_first, here.junk, at.before) in
        let again : StandAgain one two all file new to s.first (length file) n.first s.frames [] =
        record {
          sum = sum;
          frames = frames;
          ends = subst (EndBy s.first s.frames) (sym here.size) here.ends;
          within = omega arith;
          place = by;
          is = rows_stand;
        } in
        let rows_same : moved_to two new n.first (length new) n.frames
        ≡ moved_to all file s.first (length file) s.frames =
        ap₂ (λ k (l : List Row). moved_to two new n.first k l) (sym end) new_frames
        ∙ moved_again s.frames again in
        (parted_front two new allowed new_is at_new).tagged bytes
        ∙ ap₂ (λ (j k : List ℕ). j ++ (bytes ++ k)) before_same
        (ap₂ (λ (j k : List ℕ). j ++ k) between_same rows_same)
        ∙ sym ((parted_front all file allowed is at).tagged bytes)

    -- it is after some frames and before the others
    module _ (at : IsAmong s) where
      abbrev junk : List ℕ
      junk = take s.junk file

      abbrev before : List ℕ
      before = moved_to one file s.first a at.before

      abbrev behind : List ℕ
      behind = moved_to one file (a + old) (length file) at.behind

      abbrev after : ℕ
      after = tag_offset n + tag_length n

      up : a + old ≤ length file
      up = omega (arith, here.size, at.up)

      parted : IsParted one file s (junk ++ before) behind
      parted = parted_among one file allowed is at

      stands : new ≡ (junk ++ before) ++ (block ++ behind)
      stands = parted.tagged block

      stands_flat : new ≡ junk ++ (before ++ (block ++ behind))
      stands_flat = stands ∙ append_assoc junk before (block ++ behind)

      junk_long : length junk ≡ s.junk
      junk_long = length-take-le s.junk file (omega (arith, here.size, here.junk, here.first))

      sum_both : AllTogether one two all to (at.before ++ at.behind)
      sum_both = subst (AllTogether one two all to) at.all sum

      both : AreFramesOf file (at.before ++ at.behind)
      both = subst (AreFramesOf file) at.all frames

      junk_again : take n.junk new ≡ junk
      junk_again = ap (λ k. take k new) (junk_same at) ∙ ap (take s.junk) stands_flat
          ∙ take_at junk (before ++ (block ++ behind)) s.junk junk_long

      before_stands : drop n.first new ≡ before ++ (block ++ behind)
      before_stands = ap (λ k. drop k new) (first_same at) ∙ ap (drop s.junk) stands_flat
          ∙ drop_at junk (before ++ (block ++ behind)) s.junk junk_long

      before_stand : StandAgain one two all file new to s.first a n.first at.before
          (block ++ behind)
      before_stand = record {
        sum = each_before (IsTogether one two all to) at.before at.behind sum_both;
        frames = each_before (IsFrameOf file) at.before at.behind both;
        ends = at.front;
        within = omega (arith, up);
        place = by_before at;
        is = before_stands;
      }

      before_again : moved_to two new n.first (tag_offset n) (map (stood to one) at.before)
          ≡ moved_to all file s.first a at.before
      before_again =
          ap (λ k. moved_to two new n.first k (map (stood to one) at.before)) (sym (to_place at))
          ∙ moved_again at.before before_stand

      behind_stands : drop after new ≡ behind ++ []
      behind_stands = behind_there parted ∙ sym (append-nil behind)

      behind_stand : StandAgain one two all file new to (a + old) (length file) after at.behind []
      behind_stand = record {
        sum = each_behind (IsTogether one two all to) at.before at.behind sum_both;
        frames = each_behind (IsFrameOf file) at.before at.behind both;
        ends = rest_file at;
        within = omega arith;
        place = by_behind at;
        is = behind_stands;
      }

      behind_again : moved_to two new after (length new) (map (stood to one) at.behind)
          ≡ moved_to all file (a + old) (length file) at.behind
      behind_again =
          ap (λ k. moved_to two new after k (map (stood to one) at.behind)) (sym (to_end at))
          ∙ moved_again at.behind behind_stand

      among_again : (bytes : List ℕ)
          → file_with_tag bytes (edited_survey two n) (edited_file two new n)
          ≡ file_with_tag bytes (edited_survey all s) (edited_file all file s)
      among_again bytes =
          (parted_among two new allowed new_is (new_among at)).tagged bytes
          ∙ ap₂ (λ (j k : List ℕ). j ++ (bytes ++ k))
          (ap₂ (λ (j k : List ℕ). j ++ k) junk_again before_again) behind_again
          ∙ sym ((parted_among all file allowed is at).tagged bytes)

    -- the changed file, changed again, is the file changed
    -- once by both steps together, with the last tag
    pub changed_again : (bytes : List ℕ)
        → file_with_tag bytes (edited_survey two n) (edited_file two new n)
        ≡ file_with_tag bytes (edited_survey all s) (edited_file all file s)
    changed_again bytes = by_place here.place
      where
        by_place : IsInFront s ⊎ IsAmong s
            → file_with_tag bytes (edited_survey two n) (edited_file two new n)
            ≡ file_with_tag bytes (edited_survey all s) (edited_file all file s)
        by_place (inl at) = front_again at bytes
        by_place (inr at) = among_again at bytes
