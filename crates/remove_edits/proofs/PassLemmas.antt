-- The pass that writes the file of the parts.
use Rattle.std.proofs.Common.{IfErr, List, Result, ℕ, ◌≡◌}
use Rattle.laying.{proofs.PassLemmas.ready-passed, specs.Passing.IsRelayReady}
use Rattle.laying.specs.declared.relay.Relay.{Relay}
use Rattle.outside.proofs.{BufferOutputLemmas.err_by, PassLemmas.cause_behind}
use Rattle.outside.specs.{Counts.Counts, Feed.{Fed, IsFedFrom}, Files.Files}
use Rattle.outside.specs.Pass.{HasPassCause, route, route_of, WritesMadeBytes}
use Rattle.outside.specs.declared.pass.{Pass.Pass, PassFault.PassFault}

-- after bytes were passed on, all is ready for the next step, with any feed of the input
pub ready-behind : {relay : Relay} {made : List ℕ → List ℕ} {before after : List ℕ}
    {old new : Files} {fed now : Fed} → WritesMadeBytes relay.pass made before after old new
    → IsFedFrom now new relay.pass.input.now → IsRelayReady relay old fed
    → IsRelayReady relay new now
ready-behind {relay} step fed_from ready =
    let later = ready-passed step.passed ready in
    record {
      pass = record {
        apart = later.pass.apart;
        source = later.pass.source;
        target = later.pass.target;
        length_is = later.pass.length_is;
        few = later.pass.few;
        fed_from = fed_from;
      };
      length_is = later.length_is;
      exact = later.exact;
      laid = later.laid;
    }

-- the fault has a cause for some length of the input
abbrev HasSomeCause : Pass → Files → Counts → Counts → PassFault → Type 0
HasSomeCause pass files before after fault = (size : ℕ)
    × HasPassCause (route pass.input.now pass.output.now size) files before after fault

-- the cause of a fault of a pass is one for some length of its input
pub some-size : {T : Type 0} (pass : Pass) (files : Files) (before after : Counts)
    (r : Result T PassFault) → IfErr r (HasPassCause (route_of pass) files before after)
    → IfErr r (HasSomeCause pass files before after)
some-size pass files before after r cause = err_by r (λ fault is. (pass.length, is)) cause

-- after bytes that were passed on, the cause of a later
-- result's fault, for some length of the input, is a cause of the whole
pub some-size-behind : {T : Type 0} {pass : Pass} {made : List ℕ → List ℕ} {before mid : List ℕ}
    {old now : Files} {then between : Counts} → WritesMadeBytes pass made before mid old now
    → between ≡ then → (after : Counts) (r : Result T PassFault)
    → IfErr r (HasSomeCause pass now between after) → IfErr r (HasSomeCause pass old then after)
some-size-behind {T} {pass} {made} {before} {mid} {old} {now} {then} {between}
    step same after r cause =
    err_by r (λ fault h. (h.0, cause_behind step _ after same fault h.1)) cause
