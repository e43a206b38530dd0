-- The survey of the edited file is the file's, with moved gains and without the junk.
use Rattle.std.proofs.Common.{ap, ap₂, arith, Bool, length, List, map, Ok, Option, refl, subst, sym}
use Rattle.std.proofs.{Common.{ℕ, ◌++◌, ◌-◌, ◌<◌, ◌∙◌, ◌≡◌, ◌≤◌}, lemmas.Bool.{le-ltb, lt-ltb}}
use Rattle.std.proofs.lemmas.List.{map-append, map-id}
use Rattle.bit_fields.specs.Bits.{AreBytes}
use Rattle.moved_gains.proofs.EditedChainLemmas.{frames-moved, gap_of, lost_from, moved_start}
use Rattle.moved_gains.proofs.EditedChainLemmas.{new-blocks, new-frames, new-head, new-head_area}
use Rattle.moved_gains.proofs.EditedChainLemmas.{new-length, new-start, new-stream, new_file}
use Rattle.moved_gains.proofs.ImageLemmas.{IsFileImage, read-image, told-image}
use Rattle.moved_gains.proofs.{LostOffsetLemmas.{lost-at, walk_rising}, ReadFileLemmas.has_stream}
use Rattle.moved_gains.specs.{Edited.edited_file, Gains.moved_side_unless_lost}
use Rattle.moved_gains.specs.Streams.{edited_block, edited_row, edited_survey}
use Rattle.requests.specs.declared.shift.Steps.{Steps}
use Rattle.sync_survey.proofs.ChainLemmas.{item_chain-ends}
use Rattle.sync_survey.proofs.ItemListLemmas.{blocks-between, nearer_piece}
use Rattle.sync_survey.proofs.SurveyPartsLemmas.{frames_from, IsRead, survey_fields-parts}
use Rattle.sync_survey.proofs.SurveyPartsLemmas.{survey_fields-told, told_from}
use Rattle.sync_survey.specs.{Chains.{blocks_of, item_chain}, Faults.{survey_fields, SurveyFields}}
use Rattle.sync_survey.specs.{MainData.{is_lost, rows_of}, Row.Row}
use Rattle.sync_survey.specs.Walk.{all_blocks, head_of, stream_chain}
use Rattle.sync_survey.specs.declared.{chains.Region.TheVariants.{Front, Stream}, places.Head.Head}
use Rattle.sync_survey.specs.declared.places.{Piece.Piece, Start.Start}

-- ---- blocks

abbrev same_block : Piece → Piece
same_block b = b

before_first : {first : ℕ} (gap : ℕ) {b : Piece} → b.offset < first
    → edited_block first gap b ≡ same_block b
before_first gap below = grind (arith, lt-ltb, nearer_piece)

behind_first : {first : ℕ} (gap : ℕ) {b : Piece} → first ≤ b.offset
    → edited_block first gap b ≡ nearer_piece gap b
behind_first gap above = grind (arith, le-ltb, nearer_piece)

-- ---- the survey

module _ (steps : ℕ → Steps) {file : List ℕ} {allowed : ℕ} {start : Start} (all : AreBytes file)
    (read : IsRead file allowed start) where
  abbrev new : List ℕ
  new = new_file steps all read

  abbrev gap : ℕ
  gap = gap_of start

  abbrev rows : List Row
  rows = rows_of file (frames_from file start)

  abbrev lost : ℕ → Bool
  lost = lost_from file start

  abbrev head : Option Head
  head = head_of file start.first

  past : length new ≤ (stream_chain new (moved_start start)).stop
  past = grind (arith, new-stream, new-length, has_stream)

  -- the edited file is the file's image
  pub edited_image : IsFileImage (λ at. at - gap) steps lost file new start (moved_start start)
  edited_image =
      record {
        start_is = new-start steps all read;
        class = refl;
        head = new-head steps all read;
        head_area = new-head_area steps all read;
        frames = new-frames steps all read;
        images = frames-moved steps all read;
        past = past;
      }

  -- its frames are the file's with moved gains, lost where they were
  pub new-marked : (told_from new (moved_start start)).frames
      ≡ map (edited_row steps gap) (told_from file start).frames
  new-marked =
      told-image edited_image
      (edited_row steps gap)
      (λ i r is. ap (λ b. record r {
        offset = r.offset - gap;
        side = moved_side_unless_lost b (steps r.offset) r.side;
        lost = is_lost head rows i r;
      }) (lost-at head start.first.offset rows (walk_rising file start head) i is))

  -- nothing is at fault in the edited file
  pub new-read : IsRead new allowed (moved_start start)
  new-read = read-image edited_image read

  blocks_same : all_blocks new (moved_start start)
      ≡ map (edited_block start.first.offset gap) (all_blocks file start)
  blocks_same =
      let front = item_chain Front file 0 in
      let stream = stream_chain file start in
      let first = start.first.offset in
      let has = has_stream {file = file} {allowed = allowed} {start = start} read in
      let front_blocks : map (edited_block first gap) (blocks_of front.items)
      ≡ blocks_of front.items =
      blocks-between Front {f = edited_block first gap} {g = same_block} file
      {low = 0} {high = first} 0 front.items {to = front.stop}
      (λ b above below. before_first {first = first} gap {b = b} below)
      (item_chain-ends Front file 0)
      (omega arith)
      (omega (arith, has.low, has.front))
      ∙ map-id (blocks_of front.items) in
      let stream_blocks : map (edited_block first gap) (blocks_of stream.items)
      ≡ map (nearer_piece gap) (blocks_of stream.items) =
      blocks-between Stream {f = edited_block first gap} {g = nearer_piece gap} file
      {low = first} {high = stream.stop} first
      stream.items {to =
      stream.stop} (λ b above below. behind_first {first = first} gap {b = b} above)
      (item_chain-ends Stream file first)
      (omega arith) (omega arith) in
      new-blocks steps all read
      ∙ sym (map-append (edited_block first gap) (blocks_of front.items) (blocks_of stream.items)
      ∙ ap₂ (λ (a b : List Piece). a ++ b) front_blocks stream_blocks)

  -- the survey of the edited file is the file's, moved
  pub new-told : told_from new (moved_start start) ≡ edited_survey steps (told_from file start)
  unfolding edited_survey
  new-told = grind (arith, new-head, new-length, new-marked, blocks_same)

  survey_fields-from : survey_fields new allowed ≡ Ok (edited_survey steps (told_from file start))
  survey_fields-from = survey_fields-told new-read ∙ ap Ok new-told

-- the edited file has the survey of the file, with moved gains and without the junk
pub survey_fields-edited_file : (steps : ℕ → Steps) (file : List ℕ) (allowed : ℕ) {s : SurveyFields}
    → AreBytes file → survey_fields file allowed ≡ Ok s
    → survey_fields (edited_file steps file s) allowed ≡ Ok (edited_survey steps s)
survey_fields-edited_file steps file allowed {s} all e =
    let parts = survey_fields-parts e in
    subst (λ t. survey_fields (edited_file steps file t) allowed ≡ Ok (edited_survey steps t))
    parts.2 (survey_fields-from steps all parts.1)
