-- What is held of an input, and what waits before it.
use Rattle.std.proofs.Common.{arith, drop, length, length-drop, List, take, ℕ, [], ◌+◌, ◌-◌, ◌≡◌}
use Rattle.std.proofs.{Common.◌≤◌, lemmas.List.{drop-drop, drop-take, take-take}}
use Rattle.outside.{proofs.FeedLemmas.fed_nothing, specs.Feed.{Fed, IsFedFrom}}
use Rattle.outside.specs.Files.{Files, Holds, with_appended_bytes}
use Rattle.outside.specs.{Pass.{IsPassReady, WritesMadeBytes}, declared.pass.Pass.Pass}

-- the end of a part of a list
pub part_later : {m n : ℕ} (xs : List ℕ) → n ≤ m → drop n (take m xs) ≡ take (m - n) (drop n xs)
part_later {m} {n} xs few = grind (arith, drop-take n (m - n) xs)

-- what is held after the next bytes were passed on
pub held_later : (room : List ℕ) (done : ℕ) {end : ℕ} (n : ℕ) → done + n ≤ end
    → take (end - (done + n)) (drop (done + n) room) ≡ drop n (take (end - done) (drop done room))
held_later room done n few = grind (arith, part_later, drop-drop)

-- the next bytes that are held are the file's
pub held_piece : {fed : Fed} {files : Files} {name : List ℕ} {at n : ℕ} → fed.file_offset ≡ at
    → n ≤ length fed.held → IsFedFrom fed files name → (file : List ℕ) → Holds files name file
    → take n fed.held ≡ take n (drop at file)
held_piece file_offset enough fed_from file holds = grind (arith, take-take)

-- a pass stays ready if other bytes of the input are held
pub ready_with : {pass : Pass} {files : Files} {fed later : Fed}
    → IsFedFrom later files pass.input.now → IsPassReady pass files fed
    → IsPassReady pass files later
ready_with fed_from ready = grind arith

-- after the next bytes, the bytes that are held are still the input's
pub ready_after : {pass : Pass} {files : Files} {fed later : Fed} {n : ℕ} → n ≤ length fed.held
    → later.file_offset ≡ fed.file_offset + n → later.held ≡ drop n fed.held
    → IsPassReady pass files fed → IsPassReady pass files later
ready_after enough file_offset held ready =
    grind (arith, ready_with, length-drop, drop-drop, part_later)

-- a feed that holds nothing is ready for the pass
pub ready_empty : {pass : Pass} {files : Files} {fed none : Fed} → none.held ≡ []
    → IsPassReady pass files fed → IsPassReady pass files none
ready_empty nothing ready = grind (arith, ready_with, fed_nothing)

-- all that waited was appended
pub all_on : {pass : Pass} {waits : List ℕ} {old now : Files}
    → now ≡ with_appended_bytes old pass.output.now waits
    → WritesMadeBytes pass (λ file. []) waits [] old now
all_on is = grind arith
