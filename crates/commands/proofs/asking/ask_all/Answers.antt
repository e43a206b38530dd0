-- The next name is there, or it isn't, or it can't be asked for.
use Rattle.std.proofs.Common.{arith, drop, IfSome, inr, List, map, refl, subst, ℕ, ◌≡◌, ◌≤◌}
use Rattle.std.proofs.lemmas.List.{get_or-map, length-map}
use Rattle.commands.{proofs.KeptLemmas.first-from, specs.Kept.first_there}
use Rattle.outside.specs.Files.{Files, IfTold, Told, Untold}
use Rattle.commands.proofs.asking.ask_all.Goals as goal

-- no name before the one with this number is there
none-before : (files : Files) (number : ℕ) (rest names : List (List ℕ))
    → IfTold files (λ f. first_there f number rest ≡ first_there f 0 names)
    → IfTold files (λ f. IfSome (first_there f 0 names) (λ at. number ≤ at))
none-before (Untold t) number rest names same = tt
none-before (Told f) number rest names same =
    subst (λ o. IfSome o (λ at. number ≤ at)) same (first-from f number rest)

pub returns-in-Err : goal.returns-in-Err
returns-in-Err g c =
    let same = c.loop-number.invariant.stays in
    let answer = c.in-Err.ensures.answer in
    record {
      free = λ keeps. tt;
      stays = tt;
      asked = grind arith;
      stops = inr (record {
        number = c.loop-number.number;
        is = refl;
        within =
            omega (arith, c.loop-number-test.true, length-map c.args.outputs.now g.N.AsStr.text);
        before = none-before (g.D.Folder.seen c.args.folder.now).files c.loop-number.number
            (map g.N.AsStr.text (drop c.loop-number.number c.args.outputs.now))
            (map g.N.AsStr.text c.args.outputs.now) c.loop-number.invariant.none;
        rose = grind (arith, get_or-map);
        files = rw same at answer.files;
      });
      counts = rw same at answer.counts;
    }
