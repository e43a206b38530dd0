-- What the names hold after one of them changed.
use Rattle.std.proofs.Common.{ap, Bool, false, List, Option, refl, String, string_bytes, sym, true}
use Rattle.std.proofs.{Common.{ℕ, [], ◌++◌, ◌∙◌, ◌≡◌}, lemmas.Map.Text.btree_map_updates_text}
use Rattle.std.specs.{BTreeMap.{BTreeMap, get_by_text, UpdatesBy}, Cmp.Lexicographic.slice_cmp}
use Rattle.std.specs.{Map.update, Ordering.nat_cmp}
use Rattle.std.specs.Prelude.{bytes_eq, cond, None, option_map, Some, unwrap_or}
use Rattle.std.specs.String.{string_cmp}
use Rattle.outside.{proofs.FilesLemmas.update_held, specs.Files.{Contents, with_file}}
use Rattle.session.specs.Shown.{without_file}

-- to take out a name that isn't there changes nothing
pub gone_already : {files : Contents} (name : List ℕ) → files name ≡ None
    → without_file files name ≡ files
unfolding without_file
gone_already {files} name missing = update_held name missing

module _ {X Y : Type 0} (bytes_of : X → List ℕ) (old new : BTreeMap (String Y) X) (name : List ℕ)
  where
    -- the bytes of each name
    abbrev pub held : BTreeMap (String Y) X → Contents
    held files = λ other. option_map bytes_of (get_by_text files other)

    -- the name has this now, or nothing, and every other name has what it had
    abbrev pub Sets : Option X → Type 0
    Sets now = UpdatesBy string_cmp (λ key. slice_cmp nat_cmp name (string_bytes key)) old new now

    held_set : {now : Option X} → Sets now
        → held new ≡ update bytes_eq (held old) name (option_map bytes_of now)
    held_set {now} sets =
        λ i other. (ap (option_map bytes_of) (btree_map_updates_text name old new now sets other)
        ∙ at (bytes_eq name other) (get_by_text old other)) i
      where
        at : (here : Bool) (before : Option X) → option_map bytes_of (cond here now before)
            ≡ cond here (option_map bytes_of now) (option_map bytes_of before)
        at true before = refl
        at false before = refl

    -- a name that was given a content has its bytes
    pub name_holds : {now : X} → Sets (Some now)
        → held new ≡ with_file (held old) name (bytes_of now)
    unfolding with_file
    name_holds {now} sets = held_set sets

    -- a name that was taken out isn't there
    pub name_gone : Sets None → held new ≡ without_file (held old) name
    unfolding without_file
    name_gone sets = held_set sets

    -- where the name had a content before:
    module _ {before : X} (was : Some before ≡ get_by_text old name) where
      held_before : held old name ≡ Some (bytes_of before)
      held_before = sym (ap (option_map bytes_of) was)

      -- if its content has more bytes now, the name has them
      pub name_appended : {now : X} (more : List ℕ) → Sets (Some now)
          → bytes_of now ≡ bytes_of before ++ more
          → held new ≡ with_file (held old) name (unwrap_or (held old name) [] ++ more)
      name_appended {now} more sets is = name_holds sets
          ∙ ap (with_file (held old) name) (is
          ∙ ap (λ (o : Option (List ℕ)). unwrap_or o [] ++ more) (sym held_before))

      -- if its content has the same bytes, all names have what they had
      pub name_kept : {now : X} → Sets (Some now) → bytes_of now ≡ bytes_of before
          → held new ≡ held old
      name_kept {now} sets is = held_set sets
          ∙ update_held name (held_before ∙ ap (λ (bytes : List ℕ). Some bytes) (sym is))
