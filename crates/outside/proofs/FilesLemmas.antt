-- Laws of what is known of a folder's files, and of a sink's bytes.
use Rattle.std.proofs.Common.{ap, append_assoc, arith, cond, inl, inr, length, List, refl, subst}
use Rattle.std.proofs.Common.{sym, take, ℕ, [], ◌++◌, ◌∙◌, ◌∷◌, ◌≡◌, ◌≢◌, ◌⊎◌}
use Rattle.std.proofs.lemmas.{Bool.false_from_ne_true, List.{append-nil, take_all}}
use Rattle.std.proofs.lemmas.List.Elements.{All-cons, All-head, All-nil, All-tail}
use Rattle.std.proofs.lemmas.Map.{update-update, update_other, update_same}
use Rattle.std.{proofs.lemmas.Slice.Eq.bytes_eq-Decides, specs.{List.All, Map.update}}
use Rattle.std.specs.Prelude.{Bool, bytes_eq, Err, false, IfOk, IsSome, Ok, Option, Result, Some}
use Rattle.std.specs.Prelude.{true, unwrap_or}
use Rattle.outside.specs.Files.{Contents, created_touch, FailsToCreate, Files, files_holding, Holds}
use Rattle.outside.specs.Files.{is_some_byte, is_told, IsFileThere, LeavesAllBut, MayBeLost}
use Rattle.outside.specs.Files.{NotTouched, OnlyMade, OnlyTouches, Sent, sent_and_more, Told, Touch}
use Rattle.outside.specs.Files.{Touched, Touches, TouchesAsItDoes, Untold, untold_files}
use Rattle.outside.specs.Files.{with_appended_bytes, with_created_name, with_empty_file, with_file}
use Rattle.outside.specs.Files.{with_new_file, with_touch, with_tried_create, written_touch}

-- the name of a file is equal to itself
pub bytes_eq_same : (name : List ℕ) → bytes_eq name name ≡ true
bytes_eq_same name = (bytes_eq-Decides name name).1 refl

-- names that differ are compared as different
pub bytes_eq_other : {name other : List ℕ} → other ≢ name → bytes_eq name other ≡ false
bytes_eq_other apart = grind (arith, false_from_ne_true, bytes_eq-Decides)

-- contents that give each name the same are equal
pub same_contents : {f g : Contents} → ((name : List ℕ) → f name ≡ g name) → f ≡ g
same_contents same = λ i name. same name i

-- a name has the bytes that it was given
pub with_file_here : (f : Contents) (name bytes : List ℕ) → with_file f name bytes name ≡ Some bytes
unfolding with_file
with_file_here f name bytes = update_same bytes_eq f name (Some bytes) name (bytes_eq_same name)

-- every other name keeps its own
pub with_file_other : (f : Contents) {name : List ℕ} (bytes : List ℕ) {other : List ℕ}
    → other ≢ name → with_file f name bytes other ≡ f other
unfolding with_file
with_file_other f bytes apart = grind (arith, update_other, bytes_eq_other)

-- of bytes given to a name twice, the second count
pub with_file_twice : (f : Contents) (name bytes more : List ℕ)
    → with_file (with_file f name bytes) name more ≡ with_file f name more
unfolding with_file
with_file_twice f name bytes more = grind (arith, same_contents, update-update)

-- giving a name what it has changes nothing
pub update_held : {X : Type 0} {f : List ℕ → Option X} (name : List ℕ) {w : Option X} → f name ≡ w
    → update bytes_eq f name w ≡ f
update_held name is = grind (arith, update_same, bytes_eq-Decides, update_other)

-- giving a name the bytes that it has changes nothing
pub with_file_same : {f : Contents} (name : List ℕ) {bytes : List ℕ} → f name ≡ Some bytes
    → with_file f name bytes ≡ f
unfolding with_file
with_file_same {f} name {bytes} is = update_held name is

-- a name that is there stays there when a name is given bytes
pub is_some_with_file : (f : Contents) (name bytes other : List ℕ) → IsSome (f other)
    → IsSome (with_file f name bytes other)
unfolding with_file
is_some_with_file f name bytes other there = grind arith

-- ---- which names may have been touched

-- touches that say the same of each name are equal
pub same_touched : {a b : Touched} → ((name : List ℕ) → a name ≡ b name) → a ≡ b
same_touched same = λ i name. same name i

-- what a name becomes twice is what it becomes by both
pub touch_twice : (touched : Touched) (name : List ℕ) {first : Touch → Touch}
    (second : Touch → Touch) {both : Touch → Touch} → ((t : Touch) → second (first t) ≡ both t)
    → with_touch (with_touch touched name first) name second ≡ with_touch touched name both
touch_twice touched name second is = grind (arith, same_touched)

-- a name that becomes what it is stays
pub touch_same : (touched : Touched) (name : List ℕ) {becomes : Touch → Touch}
    → ((t : Touch) → becomes t ≡ t) → with_touch touched name becomes ≡ touched
touch_same touched name is = grind (arith, same_touched)

-- a touch leaves every other name
touch_other : (touched : Touched) {name : List ℕ} (becomes : Touch → Touch) {other : List ℕ}
    → other ≢ name → with_touch touched name becomes other ≡ touched other
touch_other touched becomes apart = grind (arith, bytes_eq_other)

-- each name is as before, or becomes this
touch_each : (touched : Touched) (name : List ℕ) (becomes : Touch → Touch) (other : List ℕ)
    → (with_touch touched name becomes other ≡ touched other)
    ⊎ (with_touch touched name becomes other ≡ becomes (touched other))
touch_each touched name becomes other = at (bytes_eq name other)
  where
    at : (same : Bool) → (cond same (becomes (touched other)) (touched other) ≡ touched other)
        ⊎ (cond same (becomes (touched other)) (touched other) ≡ becomes (touched other))
    at true = inr refl
    at false = inl refl

-- written to twice is written to with all bytes
written_joined : (xs ys : List ℕ) (t : Touch) → written_touch (is_some_byte ys)
    (written_touch (is_some_byte xs) t) ≡ written_touch (is_some_byte (xs ++ ys)) t
written_joined [] [] t = refl
written_joined [] (y ∷ ys) t = refl
written_joined (x ∷ xs) [] t = refl
written_joined (x ∷ xs) (y ∷ ys) NotTouched = refl
written_joined (x ∷ xs) (y ∷ ys) OnlyMade = refl
written_joined (x ∷ xs) (y ∷ ys) MayBeLost = refl

-- created and then written to is created
created_written : (keeps some : Bool) (t : Touch)
    → written_touch some (created_touch keeps t) ≡ created_touch keeps t
created_written keeps some t = grind arith

-- created twice is created once
created_twice : (keeps : Bool) (t : Touch)
    → created_touch keeps (created_touch keeps t) ≡ created_touch keeps t
created_twice keeps t = grind arith

-- ---- files that are emptied and appended to

-- appending twice is appending both joined
pub appended_twice : (files : Files) (name xs ys : List ℕ)
    → with_appended_bytes (with_appended_bytes files name xs) name ys
    ≡ with_appended_bytes files name (xs ++ ys)
unfolding with_appended_bytes
appended_twice (Untold t) name xs ys = ap (λ names. Untold (record t { names = names }))
    (touch_twice t.names name (written_touch (is_some_byte ys)) (written_joined xs ys))
appended_twice (Told f) name xs ys = grind (arith, with_file_twice, with_file_here, append_assoc)

-- appending nothing to a file that is there changes nothing
pub appended_nothing : (files : Files) (name : List ℕ) → IsFileThere files name
    → with_appended_bytes files name [] ≡ files
unfolding with_appended_bytes
appended_nothing (Untold t) name there = ap (λ names. Untold (record t { names = names }))
    (touch_same t.names name (λ touch. refl))
appended_nothing (Told f) name there = grind (arith, append-nil, with_file_same)

-- known contents in which a name has no bytes are those with it emptied
pub emptied_is : (f : Contents) {new : Contents} (name : List ℕ) → new ≡ with_file f name []
    → Told new ≡ with_empty_file (Told f) name
unfolding with_empty_file
emptied_is f name is = ap Told is

-- the same, where the name wasn't there
pub new_is : (f : Contents) {new : Contents} (name : List ℕ) → new ≡ with_file f name []
    → Told new ≡ with_new_file (Told f) name
unfolding with_new_file
new_is f name is = ap Told is

-- known contents with these bytes after the name's own are those with them appended
pub appended_is : (f : Contents) {new : Contents} (name bytes : List ℕ)
    → new ≡ with_file f name (unwrap_or (f name) [] ++ bytes)
    → Told new ≡ with_appended_bytes (Told f) name (take (length bytes) bytes)
unfolding with_appended_bytes
appended_is f name bytes is = grind (arith, take_all)

-- a name that was emptied and then appended to holds exactly these bytes
pub written_holds : (files : Files) (name bytes : List ℕ) → is_told files ≡ true
    → Holds (with_appended_bytes (with_empty_file files name) name bytes) name bytes
unfolding with_empty_file with_appended_bytes
written_holds files name bytes told = grind (arith, with_file_here)

-- when a name is emptied, every other holds what it held
pub emptied_holds_other : (files : Files) {name other : List ℕ} (bytes : List ℕ) → other ≢ name
    → Holds files other bytes → Holds (with_empty_file files name) other bytes
unfolding with_empty_file
emptied_holds_other files bytes apart holds = grind (arith, with_file_other)

-- when a name is appended to, every other holds what it held
pub appended_holds_other : (files : Files) {name : List ℕ} (more : List ℕ) {other : List ℕ}
    (bytes : List ℕ) → other ≢ name → Holds files other bytes
    → Holds (with_appended_bytes files name more) other bytes
unfolding with_appended_bytes
appended_holds_other files more bytes apart holds = grind (arith, with_file_other)

-- when a name is emptied, every other held what it holds
pub emptied_held_other : (files : Files) (name other bytes : List ℕ) → other ≢ name
    → Holds (with_empty_file files name) other bytes → Holds files other bytes
unfolding with_empty_file
emptied_held_other files name other bytes apart holds = grind (arith, with_file_other)

-- when a name is appended to, every other held what it holds
pub appended_held_other : (files : Files) {name : List ℕ} (more : List ℕ) {other : List ℕ}
    (bytes : List ℕ) → other ≢ name → Holds (with_appended_bytes files name more) other bytes
    → Holds files other bytes
unfolding with_appended_bytes
appended_held_other files more bytes apart holds = grind (arith, with_file_other)

-- a name that was emptied is there
pub emptied_there : (files : Files) (name : List ℕ) → IsFileThere (with_empty_file files name) name
unfolding with_empty_file
emptied_there files name = grind (arith, with_file_here)

-- a name that was appended to is there
pub appended_there : (files : Files) (name more : List ℕ)
    → IsFileThere (with_appended_bytes files name more) name
unfolding with_appended_bytes
appended_there files name more = grind (arith, with_file_here)

-- a name that was there is still there when one is emptied
pub emptied_keeps : (files : Files) (name other : List ℕ) → IsFileThere files other
    → IsFileThere (with_empty_file files name) other
unfolding with_empty_file
emptied_keeps files name other there = grind (arith, is_some_with_file)

-- a name that was there is still there when one is appended to
pub appended_keeps : (files : Files) (name more other : List ℕ) → IsFileThere files other
    → IsFileThere (with_appended_bytes files name more) other
unfolding with_appended_bytes
appended_keeps files name more other there = grind (arith, is_some_with_file)

-- emptying a name doesn't change whether the content of the files is known
pub emptied_told : (files : Files) (name : List ℕ)
    → is_told (with_empty_file files name) ≡ is_told files
unfolding with_empty_file
emptied_told files name = grind arith

-- appending to a name doesn't change whether the content of the files is known
pub appended_told : (files : Files) (name more : List ℕ)
    → is_told (with_appended_bytes files name more) ≡ is_told files
unfolding with_appended_bytes
appended_told files name more = grind arith

-- what may be lost of any name may be lost after a touch
touch_lost : (name : List ℕ) (becomes : Touch → Touch) → becomes MayBeLost ≡ MayBeLost
    → with_touch (λ _. MayBeLost) name becomes ≡ (λ _. MayBeLost)
touch_lost name becomes is = grind (arith, same_touched)

lost_written : (some : Bool) → written_touch some MayBeLost ≡ MayBeLost
lost_written true = refl
lost_written false = refl

-- a folder that may have touched any name still may have when a name is created
pub untold_created : (name : List ℕ) → untold_files ≡ with_empty_file untold_files name
unfolding with_empty_file
untold_created name = ap (λ names. Untold (record { keeps = false; names = names }))
    (sym (touch_lost name (created_touch false) refl))

-- and it still may have when a name is made where nothing is there
pub untold_made : (name : List ℕ) → untold_files ≡ with_new_file untold_files name
unfolding with_new_file
untold_made name = ap (λ names. Untold (record { keeps = false; names = names }))
    (sym (touch_lost name (created_touch true) refl))

-- a folder that may have touched any name still may have when it is written to
pub untold_files-written : {E : Type 0} (r : Result ℕ E) (name bytes : List ℕ)
    → IfOk r (λ k. untold_files ≡ with_appended_bytes untold_files name (take k bytes))
unfolding with_appended_bytes
untold_files-written (Ok k) name bytes =
    ap (λ names. Untold (record { keeps = false; names = names }))
    (sym (touch_lost name (written_touch (is_some_byte (take k bytes)))
    (lost_written (is_some_byte (take k bytes)))))
untold_files-written (Err fault) name bytes = tt

-- ---- which names are unchanged

All-split : {X : Type 0} (P : X → Type 0) (xs ys : List X) → All P (xs ++ ys) → All P xs × All P ys
All-split P [] ys all = (All-nil P, all)
All-split P (x ∷ xs) ys all = let rest = All-split P xs ys (All-tail P x (xs ++ ys) all) in
    (All-cons P x xs (All-head P x (xs ++ ys) all) rest.0, rest.1)

-- if no file changes, only these names are touched, whichever they are
pub touches_none : (names : List (List ℕ)) (files : Files) → OnlyTouches names files files
touches_none names (Told f) = record { others = λ other apart. refl; as_it_does = tt }
touches_none names (Untold t) =
    record { others = λ other apart. refl; as_it_does = (refl, λ name. inl refl) }

others_then : (names : List (List ℕ)) (a b c : Files) → LeavesAllBut names a b
    → LeavesAllBut names b c → LeavesAllBut names a c
others_then names a b c first second = grind arith

created_then : (keeps : Bool) {a b c : Touch} → (b ≡ a) ⊎ (b ≡ created_touch keeps a)
    → (c ≡ b) ⊎ (c ≡ created_touch keeps b) → (c ≡ a) ⊎ (c ≡ created_touch keeps a)
created_then keeps (inl p) (inl q) = inl (q ∙ p)
created_then keeps (inl p) (inr q) = inr (q ∙ ap (created_touch keeps) p)
created_then keeps (inr p) (inl q) = inr (q ∙ p)
created_then keeps {a} (inr p) (inr q) =
    inr (q ∙ ap (created_touch keeps) p ∙ created_twice keeps a)

as_it_does_then : (names : List (List ℕ)) (a b c : Files) → LeavesAllBut names a b
    → LeavesAllBut names b c → TouchesAsItDoes a b → TouchesAsItDoes b c → TouchesAsItDoes a c
as_it_does_then names (Untold a) (Untold b) (Untold c) l m first second = (
  second.0 ∙ first.0,
  λ name. created_then a.keeps (first.1 name)
      (subst (λ keeps. (c.names name ≡ b.names name)
      ⊎ (c.names name ≡ created_touch keeps (b.names name))) first.0 (second.1 name)),
)
as_it_does_then names (Told a) (Told b) (Told c) l m first second = tt
as_it_does_then names (Told a) (Told b) (Untold c) l m first second = tt
as_it_does_then names (Told a) (Untold b) c l m first second = absurd l
as_it_does_then names (Untold a) (Told b) c l m first second = absurd l
as_it_does_then names (Untold a) (Untold b) (Told c) l m first second = tt

-- two calls that touch only these names are one that does
pub touches_then : {names : List (List ℕ)} {a b c : Files} → OnlyTouches names a b
    → OnlyTouches names b c → OnlyTouches names a c
touches_then {names} {a} {b} {c} first second = record {
  others = others_then names a b c first.others second.others;
  as_it_does = as_it_does_then names a b c first.others second.others first.as_it_does
      second.as_it_does;
}

-- a call that touches only some names touches only these and more
pub touches_more : {few many : List (List ℕ)} {old new : Files}
    → ((other : List ℕ) → All (λ name. other ≢ name) many → All (λ name. other ≢ name) few)
    → OnlyTouches few old new → OnlyTouches many old new
touches_more {few} {many} {old} {new} among only =
    record { others = at old new only.others; as_it_does = only.as_it_does }
  where
    at : (f g : Files) → LeavesAllBut few f g → LeavesAllBut many f g
    at (Told f) (Told g) leaves = λ other apart. leaves other (among other apart)
    at (Untold f) (Untold g) leaves = λ other apart. leaves other (among other apart)
    at (Told f) (Untold g) leaves = leaves
    at (Untold f) (Told g) leaves = leaves

-- a call that touches some names and then one that touches others touch only both
pub touches_both : {first second : List (List ℕ)} {a b c : Files} → OnlyTouches first a b
    → OnlyTouches second b c → OnlyTouches (first ++ second) a c
touches_both {first} {second} {a} {b} {c} before after =
    touches_then
    (touches_more
    (λ other apart. (All-split (λ name. other ≢ name) first second apart).0) before)
    (touches_more
    (λ other apart. (All-split (λ name. other ≢ name) first second apart).1) after)

first_apart : {name other : List ℕ} → All (λ n. other ≢ n) (name ∷ []) → other ≢ name
first_apart {name} {other} apart = All-head (λ n. other ≢ n) name [] apart

module _ (t : Touches) (name : List ℕ) where
  created_alone : OnlyTouches (name ∷ []) (Untold t) (Untold (with_created_name t name))
  created_alone = record {
    others = λ other apart. touch_other t.names (created_touch t.keeps)
        (first_apart apart);
    as_it_does = (refl, λ other. touch_each t.names name (created_touch t.keeps) other);
  }

-- emptying a name touches it alone
pub emptied_touches : (files : Files) (name : List ℕ)
    → OnlyTouches (name ∷ []) files (with_empty_file files name)
unfolding with_empty_file
emptied_touches (Told f) name = record {
  others = λ other apart. with_file_other f [] (first_apart apart);
  as_it_does = tt;
}
emptied_touches (Untold t) name = created_alone t name

-- appending to a name leaves all others
pub appended_leaves : (files : Files) (name more : List ℕ)
    → LeavesAllBut (name ∷ []) files (with_appended_bytes files name more)
unfolding with_appended_bytes
appended_leaves files name more = grind (arith, with_file_other, first_apart, touch_other)

-- created empty and then appended to, a name holds these bytes
pub created_and_appended : (files : Files) (name bytes : List ℕ)
    → with_appended_bytes (with_empty_file files name) name bytes ≡ files_holding files name bytes
unfolding with_appended_bytes with_empty_file files_holding
created_and_appended (Untold t) name bytes = ap (λ names. Untold (record t { names = names }))
    (touch_twice t.names name (written_touch (is_some_byte bytes))
    (created_written t.keeps (is_some_byte bytes)))
created_and_appended (Told f) name bytes =
    ap (λ (held : Option (List ℕ)). Told (with_file (with_file f name []) name
    (unwrap_or held [] ++ bytes))) (with_file_here f name [])
    ∙ ap Told (with_file_twice f name [] bytes)

-- a name that is given these bytes is touched alone
pub holding_touches : (files : Files) (name bytes : List ℕ)
    → OnlyTouches (name ∷ []) files (files_holding files name bytes)
unfolding files_holding
holding_touches (Told f) name bytes = record {
  others = λ other apart. with_file_other f bytes (first_apart apart);
  as_it_does = tt;
}
holding_touches (Untold t) name bytes = created_alone t name

with_tried_create-touches : (files : Files) (name : List ℕ)
    → OnlyTouches (name ∷ []) files (with_tried_create files name)
unfolding with_tried_create
with_tried_create-touches (Told f) name = record { others = λ other apart. refl; as_it_does = tt }
with_tried_create-touches (Untold t) name = created_alone t name

-- a call to create a name that fails touches it alone
pub fails_touches : {old new : Files} {name : List ℕ} → FailsToCreate name old new
    → OnlyTouches (name ∷ []) old new
fails_touches {old} {name = name} (inl same) = rw same (touches_none (name ∷ []) old)
fails_touches {old} {name = name} (inr tried) = rw tried (with_tried_create-touches old name)

-- a call to create a name that failed left files whose content is known
pub fails_told : {f : Contents} {new : Files} (name : List ℕ) → FailsToCreate name (Told f) new
    → new ≡ Told f
unfolding with_tried_create
fails_told name h = grind arith

-- touching names doesn't change whether the content of the files is known
pub touches_told : {names : List (List ℕ)} {old new : Files} → OnlyTouches names old new
    → is_told new ≡ is_told old
touches_told {names} {old} {new} only = at old new only.others
  where
    at : (f g : Files) → LeavesAllBut names f g → is_told g ≡ is_told f
    at f g leaves = grind arith

-- ---- what is known

-- if the content of the files is known, a name that is there holds bytes
pub there_holds : (f : Contents) {name : List ℕ} → IsFileThere (Told f) name
    → (bytes : List ℕ) × Holds (Told f) name bytes
there_holds f there = grind arith

-- if no bytes can be those of a name that is there, the content isn't known
pub nothing_told : (files : Files) (name : List ℕ) → IsFileThere files name
    → ((bytes : List ℕ) → Holds files name bytes → ⊥) → is_told files ≡ false
nothing_told (Untold touched) name there none = refl
nothing_told (Told f) name there none = grind (arith, there_holds)

-- sending twice is sending both joined
pub sent_twice : (sent : Sent) (xs ys : List ℕ)
    → sent_and_more (sent_and_more sent xs) ys ≡ sent_and_more sent (xs ++ ys)
unfolding sent_and_more
sent_twice sent xs ys = grind (arith, append_assoc)

-- sending nothing changes nothing
pub sent_nothing : (sent : Sent) → sent_and_more sent [] ≡ sent
unfolding sent_and_more
sent_nothing sent = grind (arith, append-nil)

-- known bytes with these after them are the bytes with these sent
pub sent_is : (s : List ℕ) {new : List ℕ} (bytes : List ℕ) → new ≡ s ++ bytes
    → Some new ≡ sent_and_more (Some s) (take (length bytes) bytes)
unfolding sent_and_more
sent_is s bytes is = grind (arith, take_all)
