-- The law of exact pieces that are joined in order.
use Rattle.std.proofs.Common.{ap, ap₂, length, List, Ok, subst, sym, ℕ, ◌++◌, ◌∙◌, ◌∷◌, ◌≡◌, ◌≤◌}
use Rattle.std.specs.Prelude.{slice_range}
use Rattle.commands.specs.Refusing.{then_made}
use Rattle.cut_edits.specs.Exact.{exact_part, span_piece}
use Rattle.exact_laws.proofs.ExactCutLemmas.{cut, cut-file, is-same}
use Rattle.exact_laws.proofs.ExactFileLemmas.{AreExact, exact-laid, exact_cuts, has-own, head, own}
use Rattle.exact_laws.proofs.ExactFileLemmas.{piece-is}
use Rattle.exact_laws.proofs.ExactNumberLemmas.{delay, delay-is, delay-most, info-head, join-plays}
use Rattle.exact_laws.proofs.ExactNumberLemmas.{padding-is, padding-least, padding-most}
use Rattle.exact_laws.proofs.ExactNumberLemmas.{whole-first, whole-found, whole-last, whole_span}
use Rattle.exact_laws.proofs.ExactReadLemmas.{read-plays}
use Rattle.exact_laws.proofs.ExactSpliceLemmas.{all-follow, at, first_leads, inputs, IsJoined}
use Rattle.exact_laws.proofs.ExactSpliceLemmas.{joined-is, st}
use Rattle.exact_laws.specs.ExactSeamLaws.{ExactSplitThenSeamlessJoin, HasTheSpan, PlaysTheSpan}
use Rattle.exact_span.specs.declared.exact_place.ExactPlace.{ExactPlace}
use Rattle.laying.specs.Relaid.{FilePart}
use Rattle.seam_laws.proofs.PieceListLemmas.{first-plain, laid-pieces, LaysPieces, map-pieces}
use Rattle.seam_laws.proofs.{PieceListLemmas.{Recording, recording}, SplitFileLemmas.front-row}
use Rattle.seam_laws.specs.SeamlessLaws.{last_place}
use Rattle.split_edits.specs.Split.{exact_cutting_of}
use Rattle.sync_survey.specs.Faults.{SurveyFields}

module _ {file : List ℕ} {s : SurveyFields} (r : Recording file s) {place next : ExactPlace}
    {places : List ExactPlace} {first : FilePart} {parts : List FilePart}
    (pieces : AreExact r place (next ∷ places) (first ∷ parts)) where
  abbrev joined : IsJoined r pieces (first_leads r pieces)
  joined = joined-is r pieces

  has-span : HasTheSpan place (last_place next places) file s first parts
  has-span = record {
    span = whole_span r pieces;
    found = (whole-found r pieces).found;
    follow = all-follow r pieces;
    leads = joined.leads;
    one = joined.one;
    empty = joined.empty;
    stream =
        joined.stream_is
        ∙ ap₂ (λ i j. joined.leads ++ slice_range (st r) i j) (whole-first r pieces)
        (whole-last r pieces);
  }

  -- what is cut from the first place to the last
  whole-laid : exact_part place (last_place next places) file s ≡ Ok (cut r pieces)
  unfolding exact_part
  whole-laid =
      ap (λ e. then_made e (λ span. Ok (span_piece (head r) span file (own r))))
      (whole-found r pieces).found
      ∙ ap Ok (piece-is r (whole-found r pieces).there)

  plays-span : PlaysTheSpan place (last_place next places) file s first parts
      (length joined.leads) (whole_span r pieces)
  plays-span =
      let front = front-row r.known (inputs r pieces) in
      let padding = padding-is r pieces in
      record {
        row = front.0;
        row_is = front.1;
        delay = delay r pieces;
        delay_is = delay-is r pieces;
        delay_most = delay-most r pieces;
        padding_least = subst (λ n. 529 ≤ n) (sym padding) (padding-least r pieces);
        padding_most = subst (λ n. n ≤ 1680) (sym padding) (padding-most r pieces);
        head = info-head r pieces front.0;
        plays = join-plays r pieces front.0;
        reads = read-plays r pieces;
      }

-- the join of the pieces of an exact split joins the samples from the first place to the last
pub exact-joins : ExactSplitThenSeamlessJoin
unfolding has-span
exact-joins points file s place next places laid first parts read e inputs =
    let r = recording read in
    let by : LaysPieces (exact_cutting_of points) (exact_cuts r) file s =
    record { has = has-own r; lays = exact-laid r } in
    let pieces =
    map-pieces (λ a b p at. at.0)
    (laid-pieces by places e ⊥ inputs (λ never. absurd never)) in
    record {
      frames = has-span r pieces;
      samples = plays-span r pieces;
      cut = record {
        whole = cut r pieces;
        is = whole-laid r pieces;
        same = λ none.
            cut-file r pieces
            (is-same r pieces
            (first-plain by places e none (at r pieces).piece));
      };
    }
