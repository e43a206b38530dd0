-- The text, and after it the four numbers and the zeros.
use Rattle.std.proofs.Common.{ap, append_assoc, cond, drop, Err, List, Ok, refl, replicate, Result}
use Rattle.std.{proofs.Common.{take, ℕ, ◌++◌, ◌∙◌, ◌≡◌}, specs.Prelude.{codes, IfOk, is_ok}}
use Rattle.byteorder.specs.Endian.{little_bytes}
use Rattle.tag_blocks.specs.Tags.{end_bytes}
use borrow.Rule.Slice.PartMut.{put_mid}
use Rattle.tag_blocks.proofs.ends.append_end.Goals as goal

added : {T E : Type 0} (r : Result T E) (new one numbers all : List ℕ)
    → new ≡ cond (is_ok r) (one ++ numbers) one → one ++ numbers ≡ all → IfOk r (λ _. new ≡ all)
added (Ok x) new one numbers all is whole = is ∙ whole
added (Err e) new one numbers all is whole = tt

numbers_are : (size count flags : ℕ) (a b c d : List ℕ) → a ≡ little_bytes 4 2000 ++ replicate 20 0
    → b ≡ little_bytes 4 size ++ drop 4 (take 20 (drop 4 a))
    → c ≡ little_bytes 4 count ++ drop 4 (take 16 (drop 8 (put_mid 4 20 a b)))
    → d ≡ little_bytes 4 flags ++ drop 4 (take 12 (drop 12 (put_mid 8 16 (put_mid 4 20 a b) c)))
    → put_mid 12 12 (put_mid 8 16 (put_mid 4 20 a b) c) d ≡ little_bytes 4 2000
    ++ (little_bytes 4 size ++ (little_bytes 4 count ++ (little_bytes 4 flags ++ replicate 8 0)))
numbers_are size count flags a b c d first second third fourth =
    rw (fourth, third, second, first) refl

pub returns : goal.returns
unfolding end_bytes
returns c =
    let old = c.args.bytes.now.items in
    let numbers : List ℕ = put_mid 12 12 (put_mid 8 16 (put_mid 4 20
    c.write_u32.new.buf c.write_u32-2.new.buf) c.write_u32-3.new.buf) c.write_u32-4.new.buf in
    added c.extend_from_slice-2.result c.extend_from_slice-2.new.self.items
    c.extend_from_slice.new.self.items numbers
    (old ++ end_bytes c.args.size c.args.count c.args.flags)
    c.extend_from_slice-2.ensures.items
    (ap (λ text. text ++ numbers) c.in_ok-extend_from_slice.ensures.items
    ∙ append_assoc old (codes "APETAGEX") numbers
    ∙ ap (λ behind. old ++ (codes "APETAGEX" ++ behind))
    (numbers_are c.args.size c.args.count c.args.flags c.write_u32.new.buf c.write_u32-2.new.buf
    c.write_u32-3.new.buf c.write_u32-4.new.buf c.write_u32.ensures c.write_u32-2.ensures
    c.write_u32-3.ensures c.write_u32-4.ensures))
