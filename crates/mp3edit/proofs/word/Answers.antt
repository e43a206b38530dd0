-- The bytes are the word if they are UTF-8, and otherwise it is empty.
use Rattle.std.proofs.Common.{arith, IfOk, List, string_bytes, subst, sym, ℕ, ◌≡◌}
use Rattle.std.proofs.lemmas.Str.{is_utf8-from_IsUtf8, IsUtf8-from_is_utf8}
use Rattle.mp3edit.specs.Words.{argument_word}
use Rattle.mp3edit.proofs.word.Goals as goal

pub returns-in-Ok : goal.returns-in-Ok
returns-in-Ok c =
    let cases = c.in-Ok.ensures.cases in
    let same : argument_word c.args.argument.now ≡ c.in-Ok.text.now =
    rw (is_utf8-from_IsUtf8 c.args.argument.now cases.1) (sym cases.0) in
    subst (λ (text : List ℕ). IfOk c.from_str.result (λ word. string_bytes word ≡ text)) (sym same)
    c.from_str.ensures.ok

pub returns-in-Err : goal.returns-in-Err
returns-in-Err c = grind (arith, IsUtf8-from_is_utf8, c.new.ensures.bytes, c.in-Err.ensures.cases)
