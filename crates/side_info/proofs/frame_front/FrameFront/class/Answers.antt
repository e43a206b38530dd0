-- Version, frequency and mode are in bits of the header's four bytes.
use Rattle.std.proofs.Common.{ap, cond, subst, sym, ℕ, ◌==◌, ◌∙◌, ◌≡◌}
use Rattle.frame_header.{proofs.HeaderLemmas.IsClass-class_of, specs.Fields.{ClassFields, IsClass}}
use Rattle.frame_header.specs.{Tables.class_of, declared.version.Version.Version}
use Rattle.frame_header.specs.declared.version.Version.TheVariants.{One, Two, TwoFive}
use Rattle.side_info.proofs.FrontLemmas.{class_read}
use Rattle.side_info.proofs.frame_front.FrameFront.class.Goals.{After-channels_of}
use Rattle.side_info.specs.FrontBytes.{header_of}
use Rattle.side_info.proofs.frame_front.FrameFront.class.Goals as goal

class_with : Version → ℕ → ℕ → ClassFields
class_with v f n = record { version = v; frequency_index = f; channels = n }

same : (c : After-channels_of)
    → class_with c.version_of.result c.number_at-2.result c.channels_of.result
    ≡ class_of (header_of c.self.inside)
unfolding class_with
same c =
    let version = c.version_of.ensures
    ∙ ap (λ n. cond (n == 3) One (cond (n == 2) Two TwoFive)) c.number_at.ensures.value in
    let channels =
    c.channels_of.ensures ∙ ap (λ n. cond {A = ℕ} (n == 3) 1 2) c.number_at-3.ensures.value in
    (λ i. class_with (version i) (c.number_at-2.ensures.value i) (channels i))
    ∙ sym (class_read c.self.inside)

pub invariant_of-result : goal.invariant_of-result
unfolding class_with
invariant_of-result c =
    let at = (goal.at.invariant_of-result c).After-channels_of in
    subst IsClass (sym (same at))
    (IsClass-class_of c.self.invariant.known)

pub returns-clause-class : goal.returns-clause-class
unfolding class_with
returns-clause-class c = same (goal.at.returns-clause-class c).After-channels_of
    ∙ ap (λ f. class_of f.header) c.self.view_is
