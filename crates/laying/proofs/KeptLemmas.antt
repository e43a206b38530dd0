-- What the head of a file says.
use Rattle.std.proofs.Common.{ap, drop, List, None, Option, refl, replicate, Some, sym, take, ℕ, []}
use Rattle.std.proofs.Common.{◌∙◌, ◌≡◌}
use Rattle.frame_header.specs.Tables.{class_of, length_of}
use Rattle.info_header.specs.{Info.{field_in, field_offset, info_in}, declared.fields.Info.Info}
use Rattle.laying.specs.{KeptFields.fields_of_head, Written.head_info}
use Rattle.sync_survey.specs.declared.places.Head.{Head}

-- there is no field without a head
none-quality : (info_in []).quality ≡ None
unfolding info_in field_in
none-quality = refl

none-extension : (info_in []).extension ≡ replicate 36 0
unfolding info_in field_offset
none-extension = refl

-- a file without a head has no quality
pub quality-none : (file : List ℕ) (head : Option Head) → None ≡ fields_of_head file head
    → None ≡ (head_info file head).quality
unfolding head_info
quality-none file None is = sym none-quality
quality-none file (Some head) is = absurd cc

-- a file without a head has an extension of zeros
pub extension-none : (file : List ℕ) (head : Option Head) → None ≡ fields_of_head file head
    → replicate 36 0 ≡ (head_info file head).extension
unfolding head_info
extension-none file None is = sym none-extension
extension-none file (Some head) is = absurd cc

-- the fields of a file with a head are those that are read from its text
pub info-some : (file : List ℕ) (head : Option Head) {info : Info}
    → Some info ≡ fields_of_head file head → info ≡ head_info file head
info-some file None is = absurd cc
info-some file (Some head) is = cc

-- the fields of a head are read from its frame
pub fields-some : (file : List ℕ) {frame : List ℕ} {all : Option Head} {head : Head}
    → all ≡ Some head
    → frame ≡ take (length_of (class_of head.header) head.header.slot) (drop head.offset file)
    → Some (info_in (drop head.text_at frame)) ≡ fields_of_head file all
unfolding head_info
fields-some file {head = head} some is =
    ap (λ l. Some (info_in (drop head.text_at l))) is ∙ ap (fields_of_head file) (sym some)
