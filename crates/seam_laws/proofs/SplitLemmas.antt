-- The law of pieces of a split that are joined in order.
use Rattle.std.proofs.Common.{ap, false, slice_range, sym, true, ◌∙◌, ◌∷◌, ◌≡◌}
use Rattle.chosen_streams.proofs.CaseLemmas.{stream-is}
use Rattle.frame_header.specs.Limits.{most_frames}
use Rattle.seam_laws.proofs.PieceListLemmas.{laid-pieces, LaysPieces, map-pieces, recording}
use Rattle.seam_laws.proofs.{PiecePartLemmas.laid_piece, SplitFileLemmas.seamless-file}
use Rattle.seam_laws.proofs.SplitFullLemmas.{all-full}
use Rattle.seam_laws.proofs.SplitJoinLemmas.{chosen_between, number, seamless-stream, whole-cut}
use Rattle.seam_laws.proofs.SplitJoinLemmas.{whole-laid, whole-right, whole_cuts}
use Rattle.seam_laws.specs.SeamlessLaws.{full_frames, has_no_look_alike, last_place}
use Rattle.seam_laws.specs.SeamlessLaws.{SplitThenSeamlessJoin}
use Rattle.split_edits.specs.Split.{cutting_of}

-- the join of the pieces of a split joins the frames from the first place to the last
pub split-joins : SplitThenSeamlessJoin
split-joins points file s place next places laid first parts read e inputs =
    let r = recording read in
    let last = last_place next places in
    let NoneAlike = has_no_look_alike laid (first ∷ parts) ≡ true in
    let by : LaysPieces (cutting_of points) (whole_cuts s) file s =
    record { has = r.has; lays = whole-laid file s } in
    let pieces = laid-pieces by places e NoneAlike inputs (λ n. n) in
    let whole = map-pieces (λ a b p at. at.0) pieces in
    let right = whole-right r whole in
    record {
      whole = laid_piece false (chosen_between (number s place) (number s last)) s;
      is = whole-cut file s place last right.some right.within;
      same = λ no_alike.
          let plain = map-pieces (λ a b p at. (at.0, λ t. at.1 no_alike)) pieces in
          (seamless-file r plain, seamless-stream r plain);
      full =
          all-full r whole
          ∙ ap (λ l. full_frames s.class (slice_range l (number s place) (number s last)))
          (sym (stream-is file most_frames read));
    }
