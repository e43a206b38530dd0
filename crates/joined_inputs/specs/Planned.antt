-- The plan of a splice of frames, which is one part, and the Info frame before it.
use Rattle.std.specs.Prelude.{List, None, Option, Some, ℕ, [], ◌∷◌}
use Rattle.exact_span.specs.TagWord.{sealed_info}
use Rattle.frame_header.specs.Fields.{ClassFields, HeaderFields}
use Rattle.frame_writer.specs.Frames.{Frame}
use Rattle.info_header.specs.declared.fields.Info.{Info}
use Rattle.laying.specs.{NeedsFit.own_choice, Written.{info_for, plain_info}}
use Rattle.laying.specs.declared.info.Kept.{Kept}
use Rattle.slot_plan.specs.{LeastPlan.least_plan, declared.needs.{Need.Need, Placed.Placed}}

-- the plan of a splice with these needs: it is one part, and each frame keeps its slot
abbrev pub plan_of_splice_needs : ℕ → List Need → List Placed
plan_of_splice_needs window needs = least_plan window own_choice (needs ∷ [])

-- the fields of the Info frame: with what is kept, music length and tag CRC; otherwise without
-- quality, and all else 0
abbrev pub info_kept : Option Kept → HeaderFields → ClassFields → List Frame → Info
info_kept None first class frames = plain_info class frames
info_kept (Some kept) first class frames =
    sealed_info first (info_for class frames kept.quality kept.extension)
