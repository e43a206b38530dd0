-- What is known of a file before its frames are judged.
use Rattle.std.specs.Prelude.{IfSome, List, Ok, ℕ, ◌+◌, ◌≡◌, ◌≤◌}
use Rattle.outside.specs.Files.{Files, Holds}
use Rattle.sync_survey.specs.{Chains.{blocks_of, item_chain}, Items.size_of, Start.start_of}
use Rattle.sync_survey.specs.{Survey.{BlocksAreLaid, HasLength}, Walk.{head_of, IsFrameOf}}
use Rattle.sync_survey.specs.declared.{chains.Region.TheVariants.Front, folders.Walk.Walk}
use Rattle.sync_survey.specs.declared.items.Item.TheVariants.{Frame}

-- the bytes begin as this says
pub record BeginsAsWalked (bytes : List ℕ) (w : Walk) : Type 0 where
  pub start : start_of bytes ≡ Ok w.start
  pub head : w.head ≡ head_of bytes w.start.first
  pub kept : w.pieces.items ≡ blocks_of (item_chain Front bytes 0).items

-- What is known of the name's file: its first frame is within its length, the blocks and the junk
-- are before it, and the head is that frame; where the content of the file is known, its bytes
-- begin as this says.
pub record IsWalk (files : Files) (name : List ℕ) (w : Walk) : Type 0 where
  pub known : HasLength files name w.size
  pub whole : w.start.first.offset + size_of (Frame w.start.first.header) ≤ w.size
  pub junk : w.start.front_end ≤ w.start.first.offset
  pub laid : BlocksAreLaid 0 w.pieces.items w.start.front_end
  pub same : IfSome w.head (IsFrameOf w.start.first)
  pub told : (bytes : List ℕ) → Holds files name bytes → BeginsAsWalked bytes w
