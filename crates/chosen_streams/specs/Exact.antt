-- Which streams hold exactly the frames that were chosen:
-- as they are, each part after at most one lead-in.
use Rattle.std.specs.Prelude.{List, [], ◌++◌, ◌∷◌, ◌≡◌}
use Rattle.command_table.specs.Chosen.{Alone, Frames, InParts}
use Rattle.laying.specs.Relaid.{silent_lead_in}
use Rattle.sync_survey.specs.MainData.{StreamFrame}

-- no frame, or one without main data, whose header is the
-- header of the part's first frame without a check word
abbrev pub IsAtMostALeadIn : List StreamFrame → List StreamFrame → Type 0
IsAtMostALeadIn [] part = Unit {0}
IsAtMostALeadIn (frame ∷ []) (first ∷ part) = frame ≡ silent_lead_in first
IsAtMostALeadIn _ _ = ⊥

-- the stream is, part by part, at most one lead-in
-- and then the frames of the part, and nothing else
unfoldable pub IsExactly : List (List StreamFrame) → List StreamFrame → Type 0
IsExactly [] stream = stream ≡ []
IsExactly (part ∷ parts) stream =
    (lead_in : List StreamFrame) × (rest : List StreamFrame) × IsAtMostALeadIn lead_in part
    × (stream ≡ lead_in ++ part ++ rest) × IsExactly parts rest

-- ---- the frames that a command chooses

-- a stream consists of these frames
abbrev pub ConsistsOf : Frames → List StreamFrame → Type 0
ConsistsOf (Alone frames) stream = stream ≡ frames
ConsistsOf (InParts parts) stream = IsExactly parts stream

-- each stream consists of the frames at its place in the list
abbrev pub AllConsistOf : List Frames → List (List StreamFrame) → Type 0
AllConsistOf [] [] = Unit {0}
AllConsistOf (frames ∷ more) (stream ∷ streams) =
    ConsistsOf frames stream × AllConsistOf more streams
AllConsistOf _ _ = ⊥
