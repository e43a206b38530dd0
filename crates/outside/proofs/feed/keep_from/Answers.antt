-- What is kept was held from an offset on, so it is what the file has there.
use Rattle.std.proofs.Common.{ap, arith, drop, sym, take, ◌+◌, ◌-◌, ◌∙◌, ◌≡◌}
use Rattle.std.proofs.lemmas.List.{drop-drop, drop-take}
use Rattle.outside.proofs.FeedLemmas.{moved_front}
use Rattle.outside.proofs.feed.keep_from.Goals as goal

pub returns-clause-whole : goal.returns-clause-whole
returns-clause-whole c reached =
    let room = c.args.room.now in
    let before = c.args.at - c.args.file_offset in
    let from = c.args.begin + before in
    let count = c.args.end - from in
    let held_is : before + count ≡ c.args.end - c.args.begin = omega arith in
    ap (take count) c.copy_within.ensures.after
    ∙ moved_front room c.requires.within (omega arith)
    ∙ ap (take count) (sym (drop-drop before c.args.begin room))
    ∙ sym (drop-take before count (drop c.args.begin room))
    ∙ ap (λ n. drop before (take n (drop c.args.begin room))) held_is

pub returns-clause-kept : goal.returns-clause-kept
returns-clause-kept c bytes same =
    let before = c.args.at - c.args.file_offset in
    let count = c.args.end - (c.args.begin + before) in
    let held_is : before + count ≡ c.args.end - c.args.begin = omega arith in
    let at_is : c.args.file_offset + before ≡ c.args.at = omega arith in
    returns-clause-whole c (omega arith)
    ∙ ap (drop before) (sym same)
    ∙ ap (λ n. drop before (take n (drop c.args.file_offset bytes))) (sym held_is)
    ∙ drop-take before count (drop c.args.file_offset bytes)
    ∙ ap (take count) (drop-drop before c.args.file_offset bytes ∙ ap (λ k. drop k bytes) at_is)
