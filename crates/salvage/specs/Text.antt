-- The text that says what is missing from a damaged file.
use Rattle.std.specs.Prelude.{codes, decimal, flat_map, length, List, map, ℕ, ◌++◌}
use Rattle.salvage.specs.{DamagedFiles.DamagedFields, EmptiedFrames.emptied_from}
use Rattle.salvage.specs.declared.{gap.Gap.Gap, mended.Emptied.Emptied}
use Rattle.sync_survey.specs.{Merge.entry_offset, Order.ordered_list, declared.merge.Entry.Entry}
use Rattle.sync_survey.specs.declared.merge.Entry.TheVariants.{First, Second}

-- what a line is about: a gap, or a frame that becomes an empty one
abbrev pub DamageLine : Type 0
DamageLine = Entry Gap Emptied

-- the offset of what a line is about
abbrev pub line_offset : DamageLine → ℕ
line_offset = entry_offset (λ (g : Gap). g.offset) (λ (e : Emptied). e.offset)

-- a line, which ends with a line feed
abbrev pub line_text : DamageLine → List ℕ
line_text (First gap) = codes "gap at "
    ++ (decimal gap.offset ++ (codes ": " ++ (decimal gap.length ++ codes " bytes\n")))
line_text (Second frame) = codes "empty frame "
    ++ (decimal frame.number ++ (codes " at " ++ (decimal frame.offset ++ codes "\n")))

-- the lines for these gaps and frames, in order of offset
abbrev pub damage_lines : List Gap → List Emptied → List DamageLine
damage_lines gaps frames = ordered_list line_offset (map First gaps ++ map Second frames)

-- a line that says how many frames, gaps and empty frames there are
abbrev pub count_text : ℕ → ℕ → ℕ → List ℕ
count_text frames gaps empty = decimal frames ++ (codes " frames, "
    ++ (decimal gaps ++ (codes " gaps, " ++ (decimal empty ++ codes " empty\n"))))

-- a line for each of these, in order of offset, and one that counts them and the frames
unfoldable pub damage_text : ℕ → List Gap → List Emptied → List ℕ
damage_text frames gaps empty =
    flat_map line_text (damage_lines gaps empty) ++ count_text frames (length gaps) (length empty)

-- the text on the gaps and the frames that become empty ones
abbrev pub salvage_text : DamagedFields → List ℕ
salvage_text d = damage_text (length d.survey.frames) d.gaps (emptied_from 0 d.survey.frames)
