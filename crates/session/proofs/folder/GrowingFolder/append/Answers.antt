use Rattle.std.proofs.{Common.{List, rules, ◌++◌, ◌≡◌}, lemmas.Result.on_err_weaker}
use Rattle.std.specs.Prelude.{Err, if◌then◌else◌, is_ok, Ok, OnErr, Result}
use Rattle.session.proofs.FolderLemmas.{name_appended, name_kept}
use Rattle.session.proofs.folder.GrowingFolder.append.Goals as goal

-- what a list is where a call that may have extended it failed
was_kept : {T E X : Type 0} (r : Result T E) (now before more : List X)
    → now ≡ (if is_ok r then before ++ more else before) → OnErr r (now ≡ before)
was_kept (Ok x) now before more is = tt
was_kept (Err e) now before more is = is

pub returns-in-Some-clause-appended : goal.returns-in-Some-clause-appended
returns-in-Some-clause-appended c = grind (
  rules,
  name_appended (λ content. content.items)
      c.args.self.now.by_name (c.get_mut.follows.lender c.extend_from_slice.new.self)
      c.args.name.now c.in-Some.ensures.value
      c.args.bytes.now
      ((c.get_mut.follows.holds c.extend_from_slice.new.self).3 (search rules)),
)

pub returns-in-Some-clause-kept : goal.returns-in-Some-clause-kept
returns-in-Some-clause-kept c = on_err_weaker c.extend_from_slice.result
    (name_kept (λ content. content.items)
    c.args.self.now.by_name (c.get_mut.follows.lender c.extend_from_slice.new.self)
    c.args.name.now c.in-Some.ensures.value
    ((c.get_mut.follows.holds c.extend_from_slice.new.self).3 (search rules)))
    (was_kept c.extend_from_slice.result _ _ _ c.extend_from_slice.ensures.items)
