-- The pieces of a split, joined in two steps, are joined as in one.
use Rattle.std.proofs.Common.{ap, arith, Bool, cond, drop, false, filter, inl, inr, length, List}
use Rattle.std.proofs.Common.{not, refl, Some, subst, suc, sym, take, true, zero, ℕ, [], ◌+◌, ◌-◌}
use Rattle.std.proofs.{Common.{◌<◌, ◌∙◌, ◌∷◌, ◌≡◌, ◌≤◌}, lemmas.{Bool.and_parts, List.length-map}}
use Rattle.std.specs.Prelude.{slice_get, slice_range}
use Rattle.chosen_streams.proofs.CaseLemmas.{stream-is}
use Rattle.cut_edits.specs.Chosen.{Chosen}
use Rattle.frame_header.specs.{Fields.{ClassFields, IsClass}, Limits.most_frames, Tables.window_of}
use Rattle.laying.specs.{Needs.need_of, Relaid.FilePart}
use Rattle.seam_laws.proofs.{FollowerLemmas.get-drop, FrameRangeLemmas.{all_stream, same-many}}
use Rattle.seam_laws.proofs.PieceListLemmas.{laid-pieces, LaysPieces, map-pieces, recording}
use Rattle.seam_laws.proofs.PieceListLemmas.{two-steps}
use Rattle.seam_laws.proofs.PiecePartLemmas.{IsPiece, IsPlain, leads, own_stream, piece-many, ways}
use Rattle.seam_laws.proofs.{SeamlessInputLemmas.whole_stream, SplitFileLemmas.seamless-file}
use Rattle.seam_laws.proofs.SplitFullLemmas.{first-empty}
use Rattle.seam_laws.proofs.SplitJoinLemmas.{whole-laid, whole-right, whole_cuts}
use Rattle.seam_laws.specs.SeamlessLaws.{full_frames, HasNoEmptyFrame, is_empty_frame}
use Rattle.seam_laws.specs.SeamlessLaws.{StepsJoinTheSame}
use Rattle.seam_plan.specs.{Frames.needs_of, Joins.{has_lead_in, leads_others}}
use Rattle.seamless_edits.specs.Seamless.{begins_blank, part_brought}
use Rattle.split_edits.specs.Split.{cutting_of}
use Rattle.sync_survey.specs.{Faults.SurveyFields, MainData.StreamFrame}

-- ---- streams without an empty frame

filter-few : {X : Type 0} (p : X → Bool) (xs : List X) → length (filter p xs) ≤ length xs
filter-few p [] = omega arith
filter-few p (x ∷ xs) = at (p x) (filter-few p xs)
  where
    at : (b : Bool) → length (filter p xs) ≤ length xs
        → length (cond b (x ∷ filter p xs) (filter p xs)) ≤ suc (length xs)
    at true few = omega (arith, few)
    at false few = omega (arith, few)

-- no frame of a stream without empty frames is empty
pub none-empty : (c : ClassFields) (stream : List StreamFrame) (i : ℕ) {f : StreamFrame}
    → full_frames c stream ≡ stream → slice_get stream i ≡ Some f → is_empty_frame c f ≡ true → ⊥
none-empty c [] i full found empty = absurd cc
none-empty c (g ∷ stream) zero {f} full found empty =
    let same : g ≡ f = cc in
    let dropped : full_frames c stream ≡ g ∷ stream = grind arith in
    omega (
      arith,
      filter-few (λ x. not (is_empty_frame c x)) stream,
      ap length dropped,
    )
none-empty c (g ∷ stream) (suc i) {f} full found empty =
    at (is_empty_frame c g) full (λ more. none-empty c stream i more found empty)
  where
    at : (b : Bool)
        → cond (not b) (g ∷ full_frames c stream) (full_frames c stream) ≡ g ∷ stream
        → (full_frames c stream ≡ stream → ⊥) → ⊥
    at false kept never =
        let more : full_frames c stream ≡ stream = cc in never more
    at true kept never =
        omega (
          arith,
          filter-few (λ x. not (is_empty_frame c x)) stream,
          ap length kept,
        )

-- the first frame of a range is the frame at its first number
pub first-of-range : (xs : List StreamFrame) {a b : ℕ} {f : StreamFrame} {fs : List StreamFrame}
    → a < b → slice_range xs a b ≡ f ∷ fs → slice_get xs a ≡ Some f
first-of-range xs {a} {b} {f} {fs} some is =
    let many : b - a ≡ suc (b - a - 1) = omega (arith, some) in
    let here : a + 0 ≡ a = omega arith in
    ap (slice_get xs) (sym here) ∙ sym (get-drop a xs 0) ∙ at (drop a xs)
    (sym (ap (λ n. take n (drop a xs)) many) ∙ is)
  where
    at : (ys : List StreamFrame) → take (suc (b - a - 1)) ys ≡ f ∷ fs → slice_get ys 0 ≡ Some f
    at [] none = absurd cc
    at (y ∷ ys) first = let same : y ≡ f = cc in ap Some same

-- ---- a piece of such a stream

module _ {led : Bool} {chosen : Chosen} {file : List ℕ} {s : SurveyFields} {p : FilePart}
    (piece : IsPiece led chosen file s s.class p) (known : IsClass s.class)
    (filled : HasNoEmptyFrame s.class (all_stream file s)) where
  abbrev from : ℕ
  from = chosen.from

  abbrev has_one : Bool
  has_one = has_lead_in (window_of s.class.version) (part_brought p)

  blank-first : has_one ≡ true → begins_blank p.survey.frames ≡ true
  unfolding has_lead_in
  blank-first has =
      (and_parts (part_brought p).blank
      (leads_others (window_of s.class.version) (needs_of (part_brought p).frames)) has).0

  by-stream : (stream : List StreamFrame) → own_stream piece ≡ stream
      → whole_stream piece.is ≡ own_stream piece → has_one ≡ true → ⊥
  by-stream [] is whole alike =
      omega (
        arith,
        piece.right.some,
        piece-many piece,
        length-map (slice_range s.frames from chosen.to) need_of,
        same-many piece.has from chosen.to,
        ap length is,
      )
  by-stream (f ∷ fs) is whole alike =
      none-empty s.class (all_stream file s) from filled
      (first-of-range (all_stream file s) piece.right.some is)
      (first-empty s.class known piece.is (blank-first alike) (whole ∙ is))

  alike-never : leads piece ≡ 0 → has_one ≡ true → ⊥
  alike-never none alike =
      elim (ways piece) [
        | inl own ↦ by-stream (own_stream piece) refl own.brings.stream_is alike
        | inr led ↦ omega (arith, none, led.one)
      ]

  -- it doesn't begin with a look-alike
  pub never-alike : IsPlain piece
  never-alike none = at has_one refl
    where
      at : (b : Bool) → has_one ≡ b → has_one ≡ false
      at false is = is
      at true is = absurd (alike-never none is)

-- ---- the law

-- a join in two steps makes the same file as one of all pieces at once
pub in-steps : StepsJoinTheSame
in-steps points file s place next places laid first parts others read e inputs filled steps =
    let r = recording read in
    let full = subst (λ l. full_frames s.class l ≡ l) (stream-is file most_frames read) filled in
    let by : LaysPieces (cutting_of points) (whole_cuts s) file s =
    record { has = r.has; lays = whole-laid file s } in
    let pieces = laid-pieces by places e ⊥ inputs (λ never. absurd never) in
    two-steps {cuts = whole_cuts s} r.has
    (λ a b bs p ps are. record {
      there = tt;
      right = whole-right r are;
      joins =
          seamless-file r
          (map-pieces (λ a b p at. (at, λ t. never-alike at.piece r.known full)) are);
    })
    (map-pieces (λ a b p at. at.0) pieces) steps
