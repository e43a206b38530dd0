-- The output is created, and then written by a pass over the source, which stays.
use Rattle.std.proofs.Common.{refl, rules, [], ◌∷◌}
use Rattle.commands.proofs.OutputLemmas.{not_begun, output_whole, pass_fault, touches_prefix}
use Rattle.commands.proofs.OutputLemmas.{touches_whole}
use Rattle.outside.proofs.FilesLemmas.{fails_touches}
use Rattle.commands.proofs.output.write_output.Goals as goal

pub returns-in-Ok-append-clause-wrote : goal.returns-in-Ok-append-clause-wrote
returns-in-Ok-append-clause-wrote g c =
    let created = c.in-Ok.ensures.answer.created in
    let written = c.in-Ok-append.ensures.written in
    record {
      written = output_whole _ c.requires.apart _ _ created written;
      touches = touches_whole _ c.requires.apart _ _ created written;
      done = search rules;
      left = tt;
    }

pub returns-in-Err-clause-wrote : goal.returns-in-Err-clause-wrote
returns-in-Err-clause-wrote g c =
    let created = c.in-Ok.ensures.answer.created in
    let prefix = c.in-Err.ensures.prefix in
    record {
      written = tt;
      touches = touches_prefix _ c.requires.apart _ _ created prefix;
      done = tt;
      left = rw c.of_pass.ensures
          (pass_fault _ c.requires.apart _ _ created (c.args.input.now ∷ []) refl 0
          c.in-Err.fault _ _
          c.in-Ok.ensures.answer.done prefix c.in-Err.ensures.cause.1);
    }

-- the output wasn't created
pub returns-in_default-clause-wrote : goal.returns-in_default-clause-wrote
returns-in_default-clause-wrote g c =
    let kept = c.in_default.ensures.answer.kept in
    record {
      written = tt;
      touches = fails_touches kept;
      done = tt;
      left = (
        refl,
        record { rose = c.in_default.ensures.answer.failed; files = not_begun _ _ _ _ kept },
      );
    }
