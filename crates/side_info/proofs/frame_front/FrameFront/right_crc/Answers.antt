-- The word is the check word of the header and of the side bytes.
use Rattle.std.proofs.Common.{ap, length, sym, take, ◌∙◌, ◌≡◌}
use Rattle.bit_fields.specs.Bits.{bits}
use Rattle.frame_header.specs.Tables.{class_of, side_size_of}
use Rattle.side_info.proofs.FrontLemmas.{side_read, written, written_size}
use Rattle.side_info.specs.{CheckWord.check_word_of, FrontBytes.{header_of, own_side}, Side.side_at}
use Rattle.side_info.proofs.frame_front.FrameFront.right_crc.Goals as goal

pub returns : goal.returns
unfolding own_side
returns c =
    let a = c.self.inside in
    let h = header_of a in
    let size : c.side_size-size.result ≡ side_size_of (class_of h) =
    c.side_size-size.ensures.size ∙ ap side_size_of
    (c.class.ensures.class ∙ ap class_of (sym (ap (λ f. f.header) c.self.view_is))) in
    let long : length (take c.side_size-size.result a.side) ≡ side_size_of (class_of h) =
    ap (λ n. length (take n a.side)) size ∙ written_size c.self.invariant in
    c.check_word_of_bytes.ensures.read h (written c.self.invariant).at long
    ∙ ap (check_word_of h)
    (ap (λ n. side_at (class_of h) (bits (take n a.side))) size ∙ sym (side_read a))
    ∙ ap (λ f. check_word_of f.header f.side) c.self.view_is
