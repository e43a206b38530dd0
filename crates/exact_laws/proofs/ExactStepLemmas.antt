-- Exact pieces that are joined in two steps: the file of the first step is an exact piece too.
use Rattle.exact_laws.proofs.ExactCutLemmas.{cut-file, is-same}
use Rattle.exact_laws.proofs.ExactFileLemmas.{exact-laid, exact_cuts, has-own, span-right}
use Rattle.exact_laws.proofs.{ExactNumberLemmas.whole-found, ExactSpliceLemmas.at}
use Rattle.exact_laws.specs.ExactSeamLaws.{ExactInSteps}
use Rattle.seam_laws.proofs.PieceListLemmas.{laid-pieces, LaysPieces, map-pieces, recording}
use Rattle.seam_laws.proofs.{PieceListLemmas.two-steps, SplitStepLemmas.never-alike}
use Rattle.split_edits.specs.Split.{exact_cutting_of}

-- a join of exact pieces in two steps makes the same file as a join of all at once
pub exact-in-steps : ExactInSteps
exact-in-steps points file s place next places laid first parts others read e inputs filled steps =
    let r = recording {file = file} {s = s} read in
    let by : LaysPieces (exact_cutting_of points) (exact_cuts r) file s =
    record { has = has-own r; lays = exact-laid r } in
    let pieces =
    map-pieces (λ a b p at. at.0)
    (laid-pieces by places e ⊥ inputs (λ never. absurd never)) in
    two-steps {cuts = exact_cuts r} (has-own r)
    (λ a b bs p ps are.
    let found = whole-found r are in
    record {
      there = found;
      right = span-right r found.there;
      joins =
          cut-file r are
          (is-same r are (never-alike (at r are).piece r.known filled));
    })
    pieces steps
