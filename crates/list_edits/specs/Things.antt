-- What is in a file, in order of offset.
use Rattle.std.specs.List.{enumerate_from}
use Rattle.std.specs.Prelude.{if◌then◌else◌, List, map, nat_lt, None, Option, option_to_list, Some}
use Rattle.std.specs.Prelude.{ℕ, [], ◌++◌, ◌-◌, ◌∷◌, ◌≡◌}
use Rattle.list_edits.specs.declared.things.Thing.{Thing}
use Rattle.list_edits.specs.declared.things.Thing.TheVariants.{Block, FirstHead, Frame, Junk}
use Rattle.list_edits.specs.declared.things.Things.{Things}
use Rattle.sync_survey.specs.{Faults.SurveyFields, Merge.{firsts_left, seconds_left}}
use Rattle.sync_survey.specs.{Order.{merged_list, ordered_list}, Row.Row, declared.places.Head.Head}

-- the offset of a thing
abbrev pub offset_of : Thing → ℕ
offset_of (Block piece) = piece.offset
offset_of (Junk at length) = at
offset_of (FirstHead at header) = at
offset_of (Frame number row) = row.offset

-- ---- all things of a file, kind by kind

-- the bytes between the front and the first frame, if there are any
abbrev pub junk_of : SurveyFields → List Thing
junk_of s = if nat_lt s.junk s.first then Junk s.junk (s.first - s.junk) ∷ [] else []

-- the head, if there is one
abbrev pub head_thing : ℕ → Option Head → List Thing
head_thing first None = []
head_thing first (Some head) = FirstHead first head.header ∷ []

-- frames with their numbers, from this one on
abbrev pub frames_from : ℕ → List Row → List Thing
frames_from number rows = map (λ (p : ℕ × Row). Frame p.0 p.1) (enumerate_from number rows)

-- the junk, the head and the frames of a file
abbrev pub stream_things : SurveyFields → List Thing
stream_things s = junk_of s ++ (head_thing s.first s.head ++ frames_from 0 s.frames)

-- all things of a file
unfoldable pub things_of : SurveyFields → List Thing
things_of s = map Block s.blocks ++ stream_things s

-- the things in order of offset
abbrev pub ordered_things : List Thing → List Thing
ordered_things = ordered_list offset_of

-- ---- what a walk over the things hasn't met yet

-- the junk and the head, unless the walk has met them
abbrev pub leading_things : Things → List Thing
leading_things t = option_to_list t.junk ++ option_to_list t.head

-- the offset of the first of these things, if there is one
abbrev pub IsLeadingOffset : Option ℕ → List Thing → Type 0
IsLeadingOffset None ts = ts ≡ []
IsLeadingOffset (Some at) [] = ⊥
IsLeadingOffset (Some at) (t ∷ ts) = at ≡ offset_of t

-- the frames that the walk hasn't met yet
abbrev pub frames_left : Things → List Thing
frames_left t = frames_from t.others.next_second (seconds_left t.others)

-- all that the walk hasn't met yet, in order
unfoldable pub things_left : Things → List Thing
things_left t =
    merged_list offset_of (map Block (firsts_left t.others)) (leading_things t ++ frames_left t)
