-- The things of a file are two lists, each in order of offset.
use Rattle.std.proofs.Common.{arith, false, List, map, None, Option, refl, Some, ℕ, [], ◌++◌, ◌+◌}
use Rattle.std.{proofs.Common.{◌∷◌, ◌≡◌, ◌≤◌}, specs.Prelude.{is_some, MatchOption}}
use Rattle.frame_header.specs.Tables.{class_of, length_of}
use Rattle.list_edits.specs.Things.{frames_from, frames_left, head_thing, IsLeadingOffset}
use Rattle.list_edits.specs.Things.{leading_things, offset_of, ordered_things, stream_things}
use Rattle.list_edits.specs.{Things.{things_left, things_of}, declared.things.Thing.Thing}
use Rattle.list_edits.specs.declared.things.{Thing.TheVariants.{Block, Frame}, Things.Things}
use Rattle.sync_survey.proofs.OrderLemmas.{after_map, merged_other, merged_own, ordered_both}
use Rattle.sync_survey.{proofs.OrderLemmas.rises_from, specs.Faults.SurveyFields}
use Rattle.sync_survey.specs.Merge.{firsts_left, PassesFirst, PassesSecond, seconds_left}
use Rattle.sync_survey.specs.{Order.{IsFirstAfter, IsFirstFrom, merged_list, RisesBy}, Row.Row}
use Rattle.sync_survey.specs.Survey.{BlocksAreLaid, FramesAreLaid, IsSurveyLaidOut}
use Rattle.sync_survey.specs.declared.places.{Head.Head, Piece.Piece}

-- the blocks of a file are in order of offset
pub blocks_rise : (from to : ℕ) (blocks : List Piece) → BlocksAreLaid from blocks to
    → RisesBy offset_of from (map Block blocks)
blocks_rise from to [] laid = tt
blocks_rise from to (b ∷ blocks) laid =
    grind (arith, rises_from, blocks_rise (b.offset + b.block.length) to blocks laid.1)

frames_rise : (from to number : ℕ) (rows : List Row) → FramesAreLaid from rows to
    → RisesBy offset_of from (frames_from number rows)
frames_rise from to number [] laid = tt
frames_rise from to number (r ∷ rows) laid =
    let size = length_of (class_of r.header) r.header.slot in (
      laid.0,
      rises_from offset_of (frames_from (number + 1) rows) (omega arith)
          (frames_rise (r.offset + size) to (number + 1) rows laid.2),
    )

head_rises : (first : ℕ) (head : Option Head) (ts : List Thing) → RisesBy offset_of first ts
    → RisesBy offset_of first (head_thing first head ++ ts)
head_rises first head ts rises = grind arith

-- the junk, the head and the frames are in order of offset
pub stream_rises : {s : SurveyFields} → IsSurveyLaidOut s
    → RisesBy offset_of s.junk (stream_things s)
stream_rises {s} laid =
    grind (
      arith,
      head_rises s.first s.head (frames_from 0 s.frames) (frames_rise s.first s.length 0
          s.frames laid.frames),
      frames_rise s.first s.length 0 s.frames laid.frames,
      rises_from,
    )

-- in order, the things are the blocks merged with the others
pub ordered_things-is : {s : SurveyFields} → IsSurveyLaidOut s
    → ordered_things (things_of s) ≡ merged_list offset_of (map Block s.blocks) (stream_things s)
unfolding things_of
ordered_things-is {s} laid = ordered_both offset_of (map Block s.blocks)
    (stream_things s) 0 s.junk (blocks_rise 0 s.length s.blocks laid.blocks) (stream_rises laid)

-- ---- the walk

from_frames : (at number : ℕ) (rows : List Row) → IsFirstFrom (λ (r : Row). r.offset) at rows
    → IsFirstFrom offset_of at (frames_from number rows)
from_frames at number rows from = grind arith

from_leading : {at least : ℕ} (ts us : List Thing) → IsLeadingOffset (Some at) ts → least ≤ at
    → IsFirstFrom offset_of least (ts ++ us)
from_leading ts us is le = grind arith

module _ (old new : Things) where
  -- a block is met
  block_first : {piece : Piece} → leading_things new ≡ leading_things old
      → PassesFirst piece old.others new.others
      → IsFirstFrom offset_of piece.offset (leading_things old ++ frames_left old)
      → things_left old ≡ Block piece ∷ things_left new
  unfolding things_left
  block_first same passes from = grind (arith, merged_own)

  -- a block is met while the junk or the head is left
  pub block_met : {piece : Piece} {at : ℕ} → leading_things new ≡ leading_things old
      → PassesFirst piece old.others new.others → IsLeadingOffset (Some at) (leading_things old)
      → piece.offset ≤ at → things_left old ≡ Block piece ∷ things_left new
  block_met same passes is le = grind (arith, block_first, from_leading)

  -- the junk or the head is met
  pub leading_things-met : (result : Option Thing) (at : ℕ)
      → IsLeadingOffset (Some at) (leading_things old)
      → IsFirstAfter (λ (p : Piece). p.offset) at (firsts_left old.others) → new.others ≡ old.others
      → MatchOption result (leading_things old ≡ [])
      (λ t. leading_things old ≡ t ∷ leading_things new)
      → MatchOption result (things_left old ≡ []) (λ t. things_left old ≡ t ∷ things_left new)
  unfolding things_left
  leading_things-met result at is after same none = grind (arith, merged_other, after_map)

  module _ (none : leading_things old ≡ []) (none_now : leading_things new ≡ []) where
    -- a frame is met
    pub frame_met : {row : Row} → PassesSecond row old.others new.others
        → IsFirstAfter (λ (p : Piece). p.offset) row.offset (firsts_left old.others)
        → things_left old ≡ Frame old.others.next_second row ∷ things_left new
    unfolding things_left
    frame_met passes after = grind (arith, merged_other, after_map)

    -- a block before which no other thing comes is the next
    pub block_alone : {piece : Piece} → PassesFirst piece old.others new.others
        → IsFirstFrom (λ (r : Row). r.offset) piece.offset (seconds_left old.others)
        → things_left old ≡ Block piece ∷ things_left new
    block_alone passes from = grind (arith, block_first, from_frames)

-- if nothing leads and both lists are at their ends, nothing is left
pub none_met : (t : Things) → leading_things t ≡ [] → firsts_left t.others ≡ []
    → seconds_left t.others ≡ [] → things_left t ≡ []
unfolding things_left merged_list
none_met t none blocks frames = rw (none, blocks, frames) refl

-- without junk and without a head nothing leads
pub leading_things-none : (t : Things) → is_some t.junk ≡ false → is_some t.head ≡ false
    → leading_things t ≡ []
leading_things-none t junk head = rw (none_left t.junk junk, none_left t.head head) refl
  where
    none_left : {A : Type 0} (o : Option A) → is_some o ≡ false → o ≡ None
    none_left None is = refl
    none_left (Some x) is = absurd cc
