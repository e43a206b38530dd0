-- How far a survey has come: the frames and blocks before an offset were met, and the frames have
-- no fault.
use Rattle.std.proofs.Common.{ap, append-nil, append_assoc, ap₂, drop, Err, length, List, None, Ok}
use Rattle.std.proofs.Common.{Option, refl, Some, sym, ℕ, [], ◌++◌, ◌+◌, ◌∙◌, ◌∷◌, ◌≡◌, ◌≤◌}
use Rattle.std.proofs.lemmas.List.{drop_all}
use Rattle.frame_header.specs.Fields.{ClassFields, HeaderFields}
use Rattle.side_info.specs.Frame.{stored_crc}
use Rattle.sync_survey.proofs.ChainLemmas.{item_chain-stopped_chain, whole_item_at-past}
use Rattle.sync_survey.proofs.ChainLemmas.{whole_item_at-whole}
use Rattle.sync_survey.proofs.FaultsLemmas.{end-next, end-none, faults-none, faults_of, first_more}
use Rattle.sync_survey.proofs.FaultsLemmas.{none_more, place-next, place-none}
use Rattle.sync_survey.proofs.{OneItemLemmas.stands-only_at, StartLemmas.start-first}
use Rattle.sync_survey.proofs.SurveyLemmas.{survey-frame, survey-stopped, survey-whole, told_by}
use Rattle.sync_survey.proofs.WalkLemmas.{IsFound, numbered-blocks, numbered-stop}
use Rattle.sync_survey.proofs.WalkLemmas.{numbered_frames-chain}
use Rattle.sync_survey.specs.Chains.{blocks_of, frames_of, item_chain, whole_item_at}
use Rattle.sync_survey.specs.Faults.{all_faults, class_from, faults_at, first_of, survey_fields}
use Rattle.sync_survey.specs.{Items.item_at, Looks.Passes}
use Rattle.sync_survey.specs.MainData.{data_end_after, data_end_before, head_area, marked_rows}
use Rattle.sync_survey.specs.{MainData.{own_area, place, row_of, rows_of}, Row.Row, Start.start_of}
use Rattle.sync_survey.specs.Walk.{all_blocks, end_fault, fault_at, head_of, numbered_frames}
use Rattle.sync_survey.specs.Walk.{numbered_offset, stream_chain}
use Rattle.sync_survey.specs.declared.chains.Region.TheVariants.{Front, Stream}
use Rattle.sync_survey.specs.declared.items.Item.TheVariants.{Block, End, Frame, Zero}
use Rattle.sync_survey.specs.declared.places.{Head.Head, Piece.Piece, PlacedFrame.PlacedFrame}
use Rattle.sync_survey.specs.declared.{places.Start.Start, survey_fault.SurveyFault.SurveyFault}
use Rattle.sync_survey.specs.declared.survey_fault.SurveyFault.TheVariants.{NoFrame}

-- the frames of the file that are numbered, with their side information
abbrev pub rows_from : List ℕ → Start → Option Head → List Row
rows_from file start head =
    rows_of file (numbered_frames head (frames_of (stream_chain file start).items))

-- the frames and blocks up to an offset were met, and none of the frames has a fault
pub record IsSurveyedTo (file : List ℕ) (start : Start) (head : Option Head) (allowed : ℕ)
    (rows : List Row) (blocks : List Piece) (place_now ended at : ℕ) : Type 0 where
  pub frames : rows ++ rows_of file (frames_of (item_chain Stream file at).items)
      ≡ rows_from file start head
  pub pieces : blocks ++ blocks_of (item_chain Stream file at).items ≡ all_blocks file start
  pub stop : (item_chain Stream file at).stop ≡ (stream_chain file start).stop
  pub none : all_faults file head (class_from start) allowed rows ≡ []
  pub place_is : place_now ≡ place head rows (length rows)
  pub ended_is : ended ≡ data_end_before head rows (length rows)

-- these rows are the frames that were met so far, each marked if it is lost
pub record IsMarkedTo (file : List ℕ) (start : Start) (head : Option Head) (allowed : ℕ)
    (rows : List Row) (blocks : List Piece) (place_now ended at : ℕ) : Type 0 where
  pub frames : List Row
  pub marks : rows ≡ marked_rows head frames
  pub surveyed : IsSurveyedTo file start head allowed frames blocks place_now ended at

-- the stream of the file begins like this
pub record IsBegun (file : List ℕ) (start : Start) (head : Option Head) : Type 0 where
  pub start_is : start_of file ≡ Ok start
  pub head_is : head ≡ head_of file start.first

-- the first frame is an item of the stream at its offset
pub first_of_stream : (file : List ℕ) {start : Start} → start_of file ≡ Ok start
    → whole_item_at Stream file start.first.offset ≡ Some (Frame start.first.header)
first_of_stream file {start} is =
    let frame = (start-first is).frame in
    whole_item_at-whole Stream file start.first.offset (Frame start.first.header)
    frame.is frame.belongs frame.within

module _ {file : List ℕ} {start : Start} {head : Option Head} (allowed : ℕ)
    (begun : IsBegun file start head) where
  -- before the first numbered frame nothing of the stream was met
  pub surveyed_none : {blocks : List Piece} {place_now : ℕ}
      → blocks ≡ blocks_of (item_chain Front file 0).items → place_now ≡ head_area head →
      IsSurveyedTo file start head allowed [] blocks place_now 0 (numbered_offset start.first head)
  surveyed_none are is =
      let first = first_of_stream file begun.start_is in record {
        frames = ap (rows_of file) (numbered_frames-chain file start head first);
        pieces = ap₂ (λ (xs ys : List Piece). xs ++ ys) are (numbered-blocks file start head first);
        stop = numbered-stop file start head first;
        none = faults-none file head (class_from start) allowed;
        place_is = is ∙ place-none head;
        ended_is = end-none head;
      }

module _ {file : List ℕ} {start : Start} {head : Option Head} {allowed : ℕ} {rows : List Row}
    {blocks : List Piece} {place_now ended at : ℕ}
    (so_far : IsSurveyedTo file start head allowed rows blocks place_now ended at) where
  abbrev class : ClassFields
  class = class_from start

  -- a zero byte, or several, were passed
  pub passed_zeros : {size : ℕ} → Passes Stream file at Zero size
      → IsSurveyedTo file start head allowed rows blocks place_now ended (at + size)
  passed_zeros passes = record {
    frames = ap (λ l. rows ++ rows_of file l) (sym passes.frames) ∙ so_far.frames;
    pieces = ap (λ l. blocks ++ l) (sym passes.blocks) ∙ so_far.pieces;
    stop = sym passes.stop ∙ so_far.stop;
    none = so_far.none;
    place_is = so_far.place_is;
    ended_is = so_far.ended_is;
  }

  -- a block was kept
  pub passed_block : {piece : Piece} {size : ℕ} → piece.offset ≡ at
      → Passes Stream file at (Block piece.block) size
      → IsSurveyedTo file start head allowed rows (blocks ++ piece ∷ []) place_now ended (at + size)
  passed_block {piece} {size} here passes = record {
    frames = ap (λ l. rows ++ rows_of file l) (sym passes.frames) ∙ so_far.frames;
    pieces = append_assoc blocks (piece ∷ []) _ ∙ ap (λ l. blocks ++ l) (ap (λ n. record {
      offset = n;
      block = piece.block;
    } ∷ blocks_of (item_chain Stream file (at + size)).items) here ∙ sym passes.blocks)
        ∙ so_far.pieces;
    stop = sym passes.stop ∙ so_far.stop;
    none = so_far.none;
    place_is = so_far.place_is;
    ended_is = so_far.ended_is;
  }

  -- the numbers that are kept from frame to frame give a frame's faults
  frame_by : (r : Row)
      → faults_at (stored_crc (drop r.offset file)) class allowed place_now ended (length rows) r
      ≡ faults_of file head class allowed rows (length rows) r
  frame_by r = ap₂ (λ m n. faults_at (stored_crc (drop r.offset file)) class allowed m n
      (length rows) r) so_far.place_is so_far.ended_is

  -- a frame without fault was kept
  pub passed_frame : (h : HeaderFields) (size later later_ended : ℕ)
      → Passes Stream file at (Frame h) size
      → let r = row_of file (record { offset = at; header = h }) in
      first_of (faults_at (stored_crc (drop at file)) class allowed place_now ended (length rows) r)
      ≡ None → later ≡ place_now + own_area h
      → later_ended ≡ data_end_after place_now ended (Some r)
      → IsSurveyedTo file start head allowed (rows ++ r ∷ []) blocks later later_ended (at + size)
  passed_frame h size later later_ended passes sound later_is ended_is =
      let r = row_of file (record { offset = at; header = h }) in record {
        frames = append_assoc rows (r ∷ []) _ ∙ ap (λ l. rows ++ rows_of file l) (sym passes.frames)
            ∙ so_far.frames;
        pieces = ap (λ l. blocks ++ l) (sym passes.blocks) ∙ so_far.pieces;
        stop = sym passes.stop ∙ so_far.stop;
        none = none_more file head class allowed rows r
            so_far.none (ap first_of (sym (frame_by r)) ∙ sound);
        place_is =
            later_is ∙ ap (λ n. n + own_area h) so_far.place_is ∙ sym (place-next head rows r);
        ended_is =
            ended_is ∙ ap₂ (λ m n. data_end_after m n (Some r)) so_far.place_is so_far.ended_is
            ∙ sym (end-next head rows r);
      }

  module _ (begun : IsBegun file start head) where
    found : (frames : List PlacedFrame) (pieces : List Piece) (stop : ℕ) → frames
        ≡ numbered_frames head (frames_of (stream_chain file start).items)
        → pieces ≡ all_blocks file start → stop ≡ (stream_chain file start).stop
        → IsFound file start head frames pieces stop
    found frames pieces stop are those is = record {
      start_is = begun.start_is;
      head_is = begun.head_is;
      frames_are = are;
      blocks_are = those;
      stop_is = is;
    }

    -- a frame's fault is the file's first
    pub first_fault : (h : HeaderFields) (size : ℕ) (fault : SurveyFault)
        → Passes Stream file at (Frame h) size
        → let r = row_of file (record { offset = at; header = h }) in
        first_of (faults_at (stored_crc (drop at file)) class allowed place_now ended
        (length rows) r) ≡ Some fault → survey_fields file allowed ≡ Err fault
    first_fault h size fault passes is =
        let r = row_of file (record { offset = at; header = h }) in
        let later = rows_of file (frames_of (item_chain Stream file (at + size)).items) in
        survey-frame allowed (found _ _ _ refl refl refl)
        (ap (λ l. first_of (all_faults file head class allowed l))
        (sym so_far.frames ∙ ap (λ l. rows ++ rows_of file l) passes.frames)
        ∙ first_more file head class allowed rows r so_far.none later
        (ap first_of (sym (frame_by r)) ∙ is))

    -- all frames that were met are all that there are
    all_met : whole_item_at Stream file at ≡ None → (rows ≡ rows_from file start head)
        × (blocks ≡ all_blocks file start) × (at ≡ (stream_chain file start).stop)
    all_met none =
        let stopped = item_chain-stopped_chain Stream file at none in (
          sym (append-nil rows) ∙ ap (λ l. rows ++ l)
              (sym (ap (λ r. rows_of file (frames_of r.items)) stopped)) ∙ so_far.frames,
          sym (append-nil blocks)
              ∙ ap (λ l. blocks ++ l) (sym (ap (λ r. blocks_of r.items) stopped)) ∙ so_far.pieces,
          sym (ap (λ r. r.stop) stopped) ∙ so_far.stop,
        )

    none_of_all : whole_item_at Stream file at ≡ None
        → first_of (all_faults file head class allowed (rows_from file start head)) ≡ None
    none_of_all none =
        ap (λ l. first_of (all_faults file head class allowed l)) (sym (all_met none).0)
        ∙ ap first_of so_far.none

    -- an item that isn't whole stops the walk
    pub stopped_fault : (fault : SurveyFault) → whole_item_at Stream file at ≡ None
        → fault_at at (item_at file at) ≡ Some fault → survey_fields file allowed ≡ Err fault
    stopped_fault fault none is =
        survey-stopped allowed (found _ _ at refl refl (all_met none).2) fault
        (none_of_all none)
        (ap (end_fault file (numbered_frames head (frames_of (stream_chain file start).items))) is)

    ended_at : length file ≤ at → fault_at at (item_at file at) ≡ None
    ended_at past = ap (fault_at at) (sym (stands-only_at file at End (drop_all at file past)))

    frames_cases : (frames : List PlacedFrame) → (rows ≡ rows_of file frames)
        → {o : Option SurveyFault} → o ≡ None
        → (rows ≡ [] → end_fault file frames o ≡ Some (NoFrame (length file)))
        × ((rows ≡ [] → ⊥) → end_fault file frames o ≡ None)
    frames_cases [] are none = ((λ empty. ap (end_fault file []) none), (λ some. absurd (some are)))
    frames_cases (p ∷ ps) are none =
        ((λ empty. absurd cc), (λ some. ap (end_fault file (p ∷ ps)) none))

    -- if no frame was met before the end of the file, that is the fault
    pub no_frame : length file ≤ at → rows ≡ []
        → survey_fields file allowed ≡ Err (NoFrame (length file))
    no_frame past empty =
        let none = whole_item_at-past Stream file at past in
        survey-stopped allowed (found _ _ at refl refl (all_met none).2)
        (NoFrame (length file)) (none_of_all none)
        ((frames_cases _ (all_met none).0 (ended_at past)).0 empty)

    -- if a frame was met before the end of the file, the file has this survey
    pub whole : length file ≤ at → (rows ≡ [] → ⊥)
        → survey_fields file allowed ≡ Ok (told_by file start head rows blocks)
    whole past some =
        let none = whole_item_at-past Stream file at past in
        survey-whole allowed
        (found _ blocks at refl (all_met none).1 (all_met none).2) (none_of_all none)
        ((frames_cases _ (all_met none).0 (ended_at past)).1 some)
        ∙ ap (λ l. Ok (told_by file start head l blocks)) (sym (all_met none).0)
