-- A name that was added to the names that may have been touched.
use Rattle.std.proofs.Common.{ap, ap₂, arith, Bool, bytes_eq, cond, Err, false, inr, IsTrue, List}
use Rattle.std.proofs.Common.{Ok, OnErr, OnOk, refl, Result, string_bytes, sym, true, ℕ, ◌∙◌, ◌≡◌}
use Rattle.std.proofs.lemmas.{Map.Text.btree_set_updates_text, Slice.Eq.bytes_eq-Decides}
use Rattle.std.specs.{BTreeSet.{contains_text, UpdatesBy}, Cmp.Lexicographic.slice_cmp}
use Rattle.std.specs.{Ordering.nat_cmp, String.string_cmp}
use Rattle.on_disk.specs.Names.{is_touched, noted_touch, touched_in}
use Rattle.on_disk.specs.declared.touched.TouchedNames.{TouchedNames as TouchedNames}
use Rattle.outside.proofs.FilesLemmas.{same_touched}
use Rattle.outside.specs.Files.{created_touch, FailsToCreate, FailsToMake, Touch, Touched, Untold}
use Rattle.outside.specs.Files.{with_empty_file, with_new_file, with_touch, with_tried_create}
use Rattle.outside.specs.Files.{with_tried_make}

-- ---- a name that was added

module _ (old : TouchedNames) (name : List ℕ) where
  -- a name that was inserted among those that are to be created is touched so, too
  pub created_added : (new : TouchedNames) → UpdatesBy string_cmp
      (λ key. slice_cmp nat_cmp name (string_bytes key)) old.created new.created true
      → new.made ≡ old.made
      → touched_in new ≡ with_touch (touched_in old) name (created_touch false)
  created_added new sets same = same_touched (λ other.
      ap₂ noted_touch
      (btree_set_updates_text name old.created new.created true sets other)
      (ap (λ set. contains_text set other) same)
      ∙ at (bytes_eq name other) (contains_text old.created other) (contains_text old.made other))
    where
      at : (same was made : Bool) → noted_touch (cond same true was) made
          ≡ cond same (created_touch false (noted_touch was made)) (noted_touch was made)
      at true true made = refl
      at true false true = refl
      at true false false = refl
      at false was made = refl

  -- and so is one that was inserted among those that are to be made
  pub made_added : (new : TouchedNames) → UpdatesBy string_cmp
      (λ key. slice_cmp nat_cmp name (string_bytes key)) old.made new.made true
      → new.created ≡ old.created
      → touched_in new ≡ with_touch (touched_in old) name (created_touch true)
  made_added new sets same = same_touched (λ other.
      ap₂ noted_touch (ap (λ set. contains_text set other) same)
      (btree_set_updates_text name old.made new.made true sets other)
      ∙ at (bytes_eq name other) (contains_text old.created other) (contains_text old.made other))
    where
      at : (same created was : Bool) → noted_touch created (cond same true was)
          ≡ cond same (created_touch true (noted_touch created was)) (noted_touch created was)
      at true true was = refl
      at true false true = refl
      at true false false = refl
      at false created was = refl

-- a name that becomes what it is stays
pub touch_here : {touched : Touched} (name : List ℕ) (becomes : Touch → Touch)
    → becomes (touched name) ≡ touched name → touched ≡ with_touch touched name becomes
touch_here {touched} name becomes is =
    same_touched (λ other. at other (bytes_eq name other) refl)
  where
    here : (other : List ℕ) → name ≡ other → touched other ≡ becomes (touched other)
    here other same = rw (← same) (sym is)

    at : (other : List ℕ) (same : Bool) → bytes_eq name other ≡ same
        → touched other ≡ cond same (becomes (touched other)) (touched other)
    at other true e = here other ((bytes_eq-Decides name other).0 e)
    at other false e = refl

-- a name that is noted as one that is to be created stays when it is added
pub created_again : (touched : TouchedNames) (name : List ℕ) → contains_text touched.created name
    ≡ true → touched_in touched ≡ with_touch (touched_in touched) name (created_touch false)
created_again touched name is = touch_here name (created_touch false)
    (rw is refl)

-- so does one that is to be made
pub made_again : (touched : TouchedNames) (name : List ℕ) → contains_text touched.made name ≡ true
    → touched_in touched ≡ with_touch (touched_in touched) name (created_touch true)
made_again touched name is = touch_here name (created_touch true)
    (rw is (at (contains_text touched.created name)))
  where
    at : (created : Bool) → created_touch true (noted_touch created true) ≡ noted_touch created true
    at true = refl
    at false = refl

created_is-touched : (keeps : Bool) (t : Touch) → is_touched (created_touch keeps t) ≡ true
created_is-touched keeps t = grind arith

-- a name that was added is touched
pub touch_there : (old : Touched) {new : Touched} (name : List ℕ) (keeps : Bool)
    → new ≡ with_touch old name (created_touch keeps) → IsTrue (is_touched (new name))
touch_there old name keeps added = ap (λ touched. is_touched (touched name)) added
    ∙ at (bytes_eq name name) ((bytes_eq-Decides name name).1 refl)
  where
    at : (same : Bool) → same ≡ true
        → is_touched (cond same (created_touch keeps (old name)) (old name)) ≡ true
    at true e = created_is-touched keeps (old name)
    at false e = absurd cc

-- ---- a name that is touched, and whose file is then emptied or made, or not

module _ {T E : Type 0} (old : Touched) {mid new : Touched} (name : List ℕ)
    (stays : new ≡ mid) where
  module _ (added : mid ≡ with_touch old name (created_touch false)) where
    -- if a call succeeded that may have emptied the file, the name counts as emptied
    pub touch_emptied : (r : Result T E)
        → OnOk r (Untold (record { keeps = false; names = new })
        ≡ with_empty_file (Untold (record { keeps = false; names = old })) name)
    unfolding with_empty_file
    touch_emptied (Ok x) =
        ap (λ names. Untold (record { keeps = false; names = names })) (stays ∙ added)
    touch_emptied (Err fault) = tt

    -- if that call failed, the name may have been touched
    pub touch_failed : (r : Result T E) → OnErr r (FailsToCreate name
        (Untold (record { keeps = false; names = old }))
        (Untold (record { keeps = false; names = new })))
    unfolding with_tried_create
    touch_failed (Ok x) = tt
    touch_failed (Err fault) =
        inr (ap (λ names. Untold (record { keeps = false; names = names })) (stays ∙ added))

  module _ (added : mid ≡ with_touch old name (created_touch true)) where
    -- if a call succeeded that made the file, the name counts as made
    pub touch_made : (r : Result T E)
        → OnOk r (Untold (record { keeps = false; names = new })
        ≡ with_new_file (Untold (record { keeps = false; names = old })) name)
    unfolding with_new_file
    touch_made (Ok x) =
        ap (λ names. Untold (record { keeps = false; names = names })) (stays ∙ added)
    touch_made (Err fault) = tt

    -- if that call failed, the name may have been made
    pub touch_unmade : (r : Result T E) → OnErr r (FailsToMake name
        (Untold (record { keeps = false; names = old }))
        (Untold (record { keeps = false; names = new })))
    unfolding with_tried_make
    touch_unmade (Ok x) = tt
    touch_unmade (Err fault) =
        inr (ap (λ names. Untold (record { keeps = false; names = names })) (stays ∙ added))
