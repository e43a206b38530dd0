-- The bytes that are there, and zeros.
use Rattle.std.proofs.Common.{ap, ap₂, drop, length, min, replicate, take, ℕ, ◌++◌, ◌∙◌}
use Rattle.info_header.{proofs.InfoLemmas.padded_bytes-parts, specs.Info.padded_bytes}
use Rattle.info_header.proofs.fields.extension_at.Goals as goal

pub returns : goal.returns
returns c =
    ap₂ (λ bs k. bs ++ drop {A = ℕ} k (replicate 36 0))
    c.copy_from_slice.ensures.after c.min-many.ensures
    ∙ ap (λ k. take k c.bytes_from-behind.result.now ++ drop {A =
    ℕ} (min (length c.bytes_from-behind.result.now) 36) (replicate 36 0)) c.min-many.ensures
    ∙ padded_bytes-parts 36 c.bytes_from-behind.result.now
    ∙ ap (padded_bytes 36) c.bytes_from-behind.ensures
