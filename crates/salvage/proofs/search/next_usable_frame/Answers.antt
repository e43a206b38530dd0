-- The offsets at which no header may begin are passed.
use Rattle.std.proofs.Common.{arith, sym}
use Rattle.outside.proofs.BufferOutputLemmas.{err_at}
use Rattle.salvage.proofs.ReadFaultLemmas.{look_refusal}
use Rattle.salvage.proofs.SearchLemmas.{next_usable_frame-none, next_usable_frame-some, none_later}
use Rattle.salvage.proofs.SearchLemmas.{passed_bare}
use Rattle.sync_survey.proofs.FoldersLemmas.{read_more, still_shown, whole_from}
use Rattle.salvage.proofs.search.next_usable_frame.Goals as goal

pub returns-in_err-left-clause-refused : goal.returns-in_err-left-clause-refused
returns-in_err-left-clause-refused g c =
    err_at _ _ c.from_residual.ensures.1 (look_refusal c.loop-at.invariant.read
    (c.in_err-left.ensures.refused 0) c.in_err-left.ensures.outside)

pub returns-in-Some-clause-next : goal.returns-in-Some-clause-next
returns-in-Some-clause-next g c = λ bytes holds.
    sym (next_usable_frame-some bytes c.args.role
    c.loop-at.invariant.low (omega (arith, c.loop-at-test.true, c.requires.known.long bytes holds))
    (sym (c.in-Some.ensures.frame bytes (still_shown
    c.loop-at.invariant.read c.bytes.ensures c.in_ok-left.ensures.shows holds)))
    (c.loop-at.invariant.none bytes holds))

pub returns-in-Some-clause-placed : goal.returns-in-Some-clause-placed
returns-in-Some-clause-placed g c =
    whole_from c.in-Some.ensures.offset c.in-Some.ensures.within c.in_ok-left.ensures.left
    (omega (arith, c.loop-at-test.true)) c.loop-at.invariant.low

pub loop-at-preserved : goal.loop-at-preserved
loop-at-preserved g c = record {
  none = λ bytes holds earlier low high.
      let read = c.loop-at.invariant.read in
      let shows = c.in_ok-left.ensures.shows in
      let seen = still_shown read c.bytes.ensures shows holds in
      let again = still_shown read c.bytes-in-loop-at.ensures shows holds in
      none_later bytes
      c.args.role (c.loop-at.invariant.none bytes holds)
      (sym (c.in_default.ensures.frame bytes seen))
      (λ k low high. passed_bare
      again c.args.role
      c.distance_to_candidate-at.ensures.few c.distance_to_candidate-at.ensures.none low high)
      low high;
  low = omega (arith, c.loop-at.invariant.low);
  read = read_more c.loop-at.invariant.read c.in_ok-left.ensures.reads;
}

pub returns-clause-next : goal.returns-clause-next
returns-clause-next g c = λ bytes holds.
    sym (next_usable_frame-none bytes c.args.role (omega (
      arith,
      c.loop-at-test.false,
      c.requires.known.long bytes holds,
    )) (c.loop-at.invariant.none bytes holds))
