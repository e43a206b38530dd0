-- A name that was created in a folder in memory so that bytes can be appended to it.
use Rattle.std.proofs.Common.{ap, ap₂, Bor, eqb, false, length, List, None, Option, refl, Some, sym}
use Rattle.std.{proofs.Common.{ℕ, [], ◌+◌, ◌||◌, ◌∙◌, ◌≡◌}, specs.List.list_any}
use Rattle.std.specs.Prelude.{is_some, nat_lt, option_copied, unwrap_or}
use Rattle.outside.{proofs.FilesLemmas.{with_file_here, with_file_twice}, specs.Counts.one_more}
use Rattle.outside.specs.Files.{Contents, Told, with_empty_file, with_file}
use Rattle.outside.specs.Memory.{contents_of, is_to_fail, MakesCall, mem_bytes, mem_room}
use Rattle.outside.specs.ShortFolders.{IsCreated}
use Rattle.outside.specs.declared.memory.folder.Call.TheVariants.{Create, Write}
use Rattle.outside.specs.declared.memory.folder.MemFolder.{MemFolder}

told_same : {f g : Contents} → Told f ≡ Told g → f ≡ g
told_same is = cc

-- known contents with an emptied name have no bytes at that name
pub with_empty_file-contents : (f : Contents) {new : Contents} (name : List ℕ)
    → Told new ≡ with_empty_file (Told f) name → new ≡ with_file f name []
unfolding with_empty_file
with_empty_file-contents f name is = told_same is

none-bytes : {o : Option (List ℕ)} → o ≡ None → unwrap_or o [] ≡ []
none-bytes is = ap (λ q. unwrap_or q []) is

-- a name that wasn't there was created
pub created-new : {old new : MemFolder} {name : List ℕ} → contents_of old name ≡ None
    → Told (contents_of new) ≡ with_empty_file (Told (contents_of old)) name
    → MakesCall old new Create → IsCreated old new name
created-new {old} {new} {name} none made called =
    let is = with_empty_file-contents (contents_of old) name made in
    let holds : mem_bytes new name ≡ [] = ap (λ (f : Contents). unwrap_or (f name) []) is
    ∙ ap (λ (o : Option (List ℕ)). unwrap_or o []) (with_file_here (contents_of old) name []) in
    let same : mem_bytes new name ≡ mem_bytes old name =
    holds ∙ sym (none-bytes none) in
    let fails : is_to_fail new Write ≡ is_to_fail old Write =
    ap₂ (λ made (failing : List ℕ). list_any (λ number. eqb number (one_more made)) failing)
    (called.others_made Write (λ e. cc)) (called.failing Write) in
    let room : mem_room new name ≡ mem_room old name =
    ap (λ (rooms : List ℕ → Option ℕ). unwrap_or (rooms name) 0) called.rooms in
    record {
      bytes = same;
      others = λ bytes. ap (λ (f : Contents). with_file f name bytes) is
          ∙ with_file_twice (contents_of old) name [] bytes;
      fails = λ bytes. λ i. fails i || nat_lt (room i) (length (same i) + length bytes);
    }

-- a name that `get` doesn't find isn't there
pub none-copied : (o : Option (Bor (List ℕ))) → is_some o ≡ false → option_copied o ≡ None
none-copied None is = refl
none-copied (Some b) is = absurd cc
