-- The tag of a file, and why it isn't read.
use Rattle.std.specs.Prelude.{drop, Err, if◌then◌else◌, length, List, nat_lt, None, Ok, Option}
use Rattle.std.specs.Prelude.{Result, Some, take, ℕ, [], ◌+◌, ◌<◌, ◌≡◌, ◌≤◌}
use Rattle.moved_gains.specs.TagExtent.{tag_block, tag_length, tag_offset}
use Rattle.moved_gains.specs.declared.tag_fault.FileTagFault.{FileTagFault}
use Rattle.moved_gains.specs.declared.tag_fault.FileTagFault.TheVariants.{Bad, Memory, Read}
use Rattle.moved_gains.specs.declared.tag_fault.FileTagFault.TheVariants.{TooLarge}
use Rattle.outside.specs.{Counts.Counts, Files.{Files, Holds, IsFileThere}, ReadCauses.HasReadCause}
use Rattle.sync_survey.specs.{Faults.SurveyFields, Survey.{IsSurveyLaidOut, survey_of}}
use Rattle.sync_survey.specs.declared.places.Piece.{Piece}
use Rattle.tag_blocks.specs.{Blocks.block_front, Tags.{tag_of, TagFields}}
use Rattle.tag_blocks.specs.declared.{block.Kind.TheVariants.Ape, tag_fault.TagFault.TagFault}
use Rattle.tag_blocks.specs.declared.tag_fault.TagFault.TheVariants.{BadTag, Memory as NoMemory}

-- the greatest length of a tag that is read, in bytes
abbrev pub longest_tag : ℕ
longest_tag = 1048576

-- the tag of a file that has none: no items, and the flags of a tag with a header and a footer
abbrev pub empty_tag : TagFields
empty_tag = record { header_flags = 0xa0000000; footer_flags = 0x80000000; items = [] }

-- the tag that was read from the block at an offset of the file,
-- or its fault with the offset counted from the file's first byte
abbrev pub tag_result_in_file : ℕ → Result TagFields TagFault → Result TagFields FileTagFault
tag_result_in_file at (Ok tag) = Ok tag
tag_result_in_file at (Err (BadTag inside)) = Err (Bad (at + inside))
tag_result_in_file at (Err NoMemory) = Err Memory

-- the tag of a block at an offset of a file, or why
-- it isn't read: it is too long or otherwise at fault
abbrev pub tag_of_block : ℕ → List ℕ → Result TagFields FileTagFault
tag_of_block at block = if nat_lt longest_tag (length block) then Err (TooLarge (length block))
    else tag_result_in_file at (tag_of block)

-- the tag of a file
unfoldable pub file_tag : List ℕ → SurveyFields → Result TagFields FileTagFault
file_tag file s = tag_in (tag_block s)
  where
    tag_in : Option Piece → Result TagFields FileTagFault
    tag_in None = Ok empty_tag
    tag_in (Some b) = tag_of_block b.offset (take b.block.length (drop b.offset file))

-- the survey is that of the file, for some allowed number of frames
abbrev pub IsFileSurvey : List ℕ → SurveyFields → Type 0
IsFileSurvey file s = (allowed : ℕ) × (survey_of file allowed ≡ Ok s)

-- the file is there, its survey is laid out as every
-- survey is, and is its own if its content is known
pub record IsSurveyedFile (name : List ℕ) (files : Files) (s : SurveyFields) : Type 0 where
  pub there : IsFileThere files name
  pub laid : IsSurveyLaidOut s
  pub surveyed : (bytes : List ℕ) → Holds files name bytes → IsFileSurvey bytes s

-- the file has this survey, and the block is that of its tag
pub record HasTagBlock (name : List ℕ) (files : Files) (s : SurveyFields) (b : Piece) : Type 0 where
  pub known : IsSurveyedFile name files s
  pub tag : tag_block s ≡ Some b

-- if the file's content is known, its tag is refused with this fault
abbrev pub RefusesTag : List ℕ → Files → SurveyFields → FileTagFault → Type 0
RefusesTag name files s fault =
    (bytes : List ℕ) → Holds files name bytes → file_tag bytes s ≡ Err fault

-- Why the tag isn't read: it is too long, or at fault at one of its bytes; or a call failed;
-- or a file whose content isn't known had the survey's length, and a read before it gave no
-- byte; or memory ran out. All counts stay, except those of a failed call and of an early end.
abbrev pub IsTagCause : List ℕ → Files → SurveyFields → Counts → Counts → FileTagFault → Type 0
IsTagCause name files s before after (TooLarge size) = RefusesTag name files s (TooLarge size)
    × (size ≡ tag_length s) × (longest_tag < size) × (after ≡ before)
IsTagCause name files s before after (Bad at) =
    RefusesTag name files s (Bad at) × (tag_offset s ≤ at)
    × (0 < tag_length s → at < tag_offset s + tag_length s) × (after ≡ before)
IsTagCause name files s before after (Read fault) =
    HasReadCause name s.length files before after fault
IsTagCause name files s before after Memory = after ≡ before

-- Why there is no tag of a block at this offset: its tag is refused with this
-- fault, or its bytes don't begin with a block of their length; or memory ran out.
abbrev pub IsBlockCause : ℕ → List ℕ → FileTagFault → Type 0
IsBlockCause offset block (Bad at) =
    (block_front block ≡ Some (record { kind = Ape; length = length block })
    → tag_of_block offset block ≡ Err (Bad at)) × (offset ≤ at)
    × (0 < length block → at < offset + length block)
IsBlockCause offset block Memory = Unit {0}
IsBlockCause offset block _ = ⊥
