-- The zeros up to the main data, and these, after what is in the queue.
use Rattle.std.proofs.Common.{ap, append_assoc, arith, length, List, refl, subst, sym, ℕ, [], ◌++◌}
use Rattle.std.proofs.Common.{◌+◌, ◌-◌, ◌∙◌, ◌∷◌, ◌≡◌}
use Rattle.frame_writer.proofs.LaidLemmas.{more-laid, more-put, waits}
use Rattle.frame_writer.specs.Laid.{AreAreasLaid, overwritten_bytes, WaitingAreas, zeros}
use Rattle.frame_writer.proofs.areas.Areas.push.Goals as goal

-- zeros and then these bytes were added
added : (old mid new more bytes : List ℕ) → mid ≡ old ++ more → new ≡ mid ++ bytes
    → new ≡ old ++ (more ++ bytes)
added old mid new more bytes pushed appended = grind (arith, append_assoc)

pub returns-clause-put : goal.returns-clause-put
returns-clause-put c =
    let begin = c.args.begin in
    let free = c.self.inside.free in
    let payload = c.args.payload.now in
    let rest = begin + c.args.area - c.len.result in
    let is = added c.self.inside.queue _ c.push_payload.new.queue (zeros (free - begin)) payload
    c.push_zeros.ensures c.push_payload.ensures in
    ap (λ (xs : List ℕ). xs ++ zeros rest) is
    ∙ more-put c.self.inside.queue payload c.args.area (omega (
      arith,
      c.requires.start,
      ap (λ (w : WaitingAreas). w.free) c.self.view_is,
    )) refl c.requires.within (ap (λ k. begin + c.args.area - k) c.len.ensures)
    ∙ ap (λ (w : WaitingAreas). overwritten_bytes (length w.bytes - begin) payload
    (w.bytes ++ zeros c.args.area))
    c.self.view_is

pub returns-clause-laid : goal.returns-clause-laid
returns-clause-laid c = λ given ps are.
    let begin = c.args.begin in
    let free = c.self.inside.free in
    let payload = c.args.payload.now in
    let rest = begin + c.args.area - c.len.result in
    let is = added c.self.inside.queue _ c.push_payload.new.queue (zeros (free - begin)) payload
    c.push_zeros.ensures c.push_payload.ensures in
    subst (λ (xs : List ℕ). AreAreasLaid given (waits xs rest)
    (ps ++ record { payload = payload; begin = begin; area = c.args.area } ∷ [])) (sym is)
    (more-laid given c.self.inside.queue payload begin free (free - begin) rest c.args.area ps
    (omega (arith, c.requires.start, ap (λ (w : WaitingAreas). w.free) c.self.view_is)) refl
    c.requires.within (ap (λ k. begin + c.args.area - k) c.len.ensures)
    (subst (λ w. AreAreasLaid given w ps) (sym c.self.view_is) are))
