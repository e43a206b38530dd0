-- The numbers that the extension of the Info frame of a join without seams says.
use Rattle.std.proofs.Common.{ap, arith, Bool, cond, drop, get_or, length, List, None, Option}
use Rattle.std.proofs.Common.{replicate, Some, sym, take, ℕ, ◌++◌, ◌+◌, ◌<◌, ◌∙◌, ◌≡◌}
use Rattle.std.proofs.lemmas.List.{get_or-append-add, get_or-drop, length-replicate, length-take-le}
use Rattle.std.{proofs.lemmas.List.{take-append-le, take-take}, specs.List.list_all}
use Rattle.std.specs.Prelude.{IfSome}
use Rattle.cut_edits.proofs.PieceLemmas.{head_long}
use Rattle.exact_span.proofs.ExtensionLemmas.{extension-length, extension-says}
use Rattle.exact_span.specs.{Extensions.{extension_of, has_encoder}, Laws.SaysNumbers}
use Rattle.info_header.specs.declared.fields.Info.{Info}
use Rattle.laying.specs.Relaid.{FilePart}
use Rattle.seamless_edits.specs.Seamless.{part_head, part_says_gain, replay_gain, seamless_padding}
use Rattle.seamless_edits.specs.Seamless.{splice_extension}

-- ---- an extension without peak and gains

same-encoder : (xs ys : List ℕ) → take 4 xs ≡ take 4 ys → has_encoder xs ≡ has_encoder ys
unfolding has_encoder
same-encoder xs ys same = grind arith

-- without the bytes 11 to 18
abbrev cleared : List ℕ → List ℕ
cleared extension = take 11 extension ++ (replicate 8 0 ++ drop 19 extension)

cleared-byte : (extension : List ℕ) (i : ℕ) → length extension ≡ 36
    → get_or (cleared extension) (11 + (8 + i)) 0 ≡ get_or extension (19 + i) 0
cleared-byte extension i long =
    let eleven = length-take-le 11 extension (omega (arith, long)) in
    ap (λ n. get_or (cleared extension) (n + (8 + i)) 0) (sym eleven)
    ∙ get_or-append-add (take 11 extension) (replicate 8 0 ++ drop 19 extension) (8 + i) 0
    ∙ ap (λ n. get_or (replicate 8 0 ++ drop 19 extension) (n + i) 0)
    (sym (length-replicate {A = ℕ} 8 0))
    ∙ get_or-append-add (replicate 8 0) (drop 19 extension) i 0
    ∙ get_or-drop 19 extension i 0

cleared-says : {delay padding : ℕ} {extension : List ℕ} → length extension ≡ 36
    → SaysNumbers delay padding extension → SaysNumbers delay padding (cleared extension)
cleared-says long says =
    grind (arith, length-take-le, take-append-le, take-take, cleared-byte, same-encoder)

either-says : (b : Bool) {delay padding : ℕ} {extension : List ℕ} → length extension ≡ 36
    → SaysNumbers delay padding extension
    → SaysNumbers delay padding (cond b extension (cleared extension))
either-says b long says = grind (arith, cleared-says)

either-long : (b : Bool) (extension : List ℕ) → length extension ≡ 36
    → length (cond b extension (cleared extension)) ≡ 36
either-long b extension long = grind arith

-- an extension that is made from a head has its numbers, whatever the head's table
pub made-says : (head : Option Info) {delay padding : ℕ}
    → IfSome head (λ (fields : Info). length fields.extension ≡ 36) → delay < 4096
    → padding < 4096 → SaysNumbers delay padding (extension_of head delay padding)
unfolding extension_of
made-says None {delay} {padding} long short small = extension-says None tt short small
made-says (Some fields) {delay} {padding} long short small =
    extension-says (Some (record fields { table = None }))
    (record { table = tt; extension = long }) short small

-- ---- the extension of a join

module _ (first : FilePart) (parts : List FilePart) (delay : ℕ) where
  abbrev made : List ℕ
  made = extension_of (part_head first) delay (seamless_padding first parts)

  abbrev kept : Bool
  kept = list_all (part_says_gain (replay_gain made)) parts

  made-long : length made ≡ 36
  made-long =
      extension-length (part_head first) delay (seamless_padding first parts)
      (head_long first.file first.survey.head)

  -- it has 36 bytes
  pub splice-long : length (splice_extension delay first parts) ≡ 36
  splice-long = either-long kept made made-long

  -- it has the delay and the padding of the join, where both have 12 bits
  pub splice-says : delay < 4096 → seamless_padding first parts < 4096
      → SaysNumbers delay (seamless_padding first parts) (splice_extension delay first parts)
  splice-says short small =
      either-says kept made-long
      (made-says (part_head first)
      (head_long first.file first.survey.head) short small)
