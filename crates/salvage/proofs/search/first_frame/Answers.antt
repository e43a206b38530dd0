-- The frame where the front ends, or the next one.
use Rattle.std.proofs.{Common.{arith, IfSome, Option, sym, ℕ, ◌+◌}, lemmas.Result.IfOk-weaker}
use Rattle.outside.proofs.BufferOutputLemmas.{err_at}
use Rattle.salvage.proofs.{ReadFaultLemmas.look_refusal, SearchLemmas.{first_behind, first_here}}
use Rattle.sync_survey.proofs.FoldersLemmas.{none_read, shown_in, whole_from}
use Rattle.sync_survey.specs.{Survey.IsWholeFrom, declared.places.PlacedFrame.PlacedFrame}
use Rattle.salvage.proofs.search.first_frame.Goals as goal

-- a frame that is whole from the next offset on is whole from this one on
whole_before : (from size : ℕ) (o : Option PlacedFrame) → IfSome o (IsWholeFrom (from + 1) size)
    → IfSome o (IsWholeFrom from size)
whole_before from size o is = grind arith

pub returns-in_err-left-clause-refused : goal.returns-in_err-left-clause-refused
returns-in_err-left-clause-refused g c =
    err_at _ _ c.from_residual.ensures.1 (look_refusal (none_read c.requires.fed)
    (c.in_err-left.ensures.refused 0) c.in_err-left.ensures.outside)

pub returns-in-Some-clause-first : goal.returns-in-Some-clause-first
returns-in-Some-clause-first g c = λ bytes holds.
    let seen = shown_in c.bytes.ensures (c.in_ok-left.ensures.shows bytes holds) in
    sym
    (first_here bytes c.args.front_end (sym (c.in-Some.ensures.frame bytes seen)))

pub returns-in-Some-clause-placed : goal.returns-in-Some-clause-placed
returns-in-Some-clause-placed g c =
    whole_from c.in-Some.ensures.offset c.in-Some.ensures.within
    c.in_ok-left.ensures.left c.requires.within (omega arith)

pub returns-clause-placed : goal.returns-clause-placed
returns-clause-placed g c =
    let from = c.args.front_end in
    let size = c.args.size in
    IfOk-weaker c.next_usable_frame.result (λ o. IfSome o (IsWholeFrom (from + 1) size))
    (λ o. IfSome o (IsWholeFrom from size))
    (whole_before from size) c.next_usable_frame.ensures.placed

pub returns-clause-first : goal.returns-clause-first
returns-clause-first g c =
    first_behind c.args.name.now c.args.front_end c.next_usable_frame.result
    c.in_ok-left.ensures.reads.files
    (λ bytes holds.
    let seen = shown_in c.bytes.ensures (c.in_ok-left.ensures.shows bytes holds) in
    sym (c.in_default.ensures.frame bytes seen)) c.next_usable_frame.ensures.next
