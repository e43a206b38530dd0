-- A map by names has the names that are there, in order.
use Rattle.std.proofs.Common.{ap, arith, length, List, map, Option, refl, String, string_bytes}
use Rattle.std.proofs.Common.{subst, suc, sym, zero, ℕ, [], ◌<◌, ◌∙◌, ◌∷◌, ◌≡◌, ◌≤◌}
use Rattle.std.proofs.lemmas.Map.Text.{is_eq-slice_cmp}
use Rattle.std.proofs.lemmas.Map.Views.{Contains-keys_from_lookup, IsSome-lookup_from_Contains}
use Rattle.std.specs.BTreeMap.{BTreeMap, get_by_text, is_at, IsOrdered, keys}
use Rattle.std.specs.Cmp.Lexicographic.{bytes_decides, nat_list_eq_equiv, slice_cmp}
use Rattle.std.specs.List.{AllByRecursion, Contains, slice_get, Sorted.IsStrictlySortedBy}
use Rattle.std.specs.{Map.{keys_of, lookup}, Ordering.nat_cmp}
use Rattle.std.specs.Prelude.{bytes_eq, cond, IsSome, None, option_map, slice_index_or, Some}
use Rattle.std.specs.{String.string_cmp, declared.cmp.Ordering.TheVariants.Less}
use Rattle.session.specs.Names.{AreNames, IsNameAt}

module _ {X Y : Type 0} where
  -- the entries, each with the bytes of its key
  abbrev by_bytes : List (String Y × X) → List (List ℕ × X)
  by_bytes entries = map (λ e. (string_bytes e.0, e.1)) entries

  bytes_keys : (entries : List (String Y × X))
      → keys_of (by_bytes entries) ≡ map string_bytes (keys_of entries)
  bytes_keys [] = refl
  bytes_keys (e ∷ entries) = ap (λ names. string_bytes e.0 ∷ names) (bytes_keys entries)

  bytes_found : (name : List ℕ) (entries : List (String Y × X))
      → lookup (bytes_eq name) (by_bytes entries)
      ≡ lookup (is_at (λ key. slice_cmp nat_cmp name (string_bytes key))) entries
  bytes_found name [] = refl
  bytes_found name (e ∷ entries) =
      ap (λ here. cond here (Some e.1) (lookup (bytes_eq name) (by_bytes entries)))
      (sym (is_eq-slice_cmp name (string_bytes e.0)))
      ∙ ap (cond (is_at (λ key. slice_cmp nat_cmp name (string_bytes key)) e.0) (Some e.1))
      (bytes_found name entries)

below_bytes : {Y : Type 0} (key : String Y) (more : List (String Y))
    → AllByRecursion (λ other. string_cmp key other ≡ Less) more
    → AllByRecursion (λ other. slice_cmp nat_cmp (string_bytes key) other ≡ Less)
    (map string_bytes more)
below_bytes key [] below = below
below_bytes key (other ∷ more) below = (below.0, below_bytes key more below.1)

-- keys that ascend have bytes that ascend
sorted_bytes : {Y : Type 0} (ks : List (String Y)) → IsStrictlySortedBy string_cmp ks
    → IsStrictlySortedBy (slice_cmp nat_cmp) (map string_bytes ks)
unfolding IsStrictlySortedBy
sorted_bytes [] sorted = sorted
sorted_bytes (key ∷ ks) sorted = (below_bytes key ks sorted.0, sorted_bytes ks sorted.1)

module _ {Y : Type 0} where
  -- the name with a number is that of the key with this number
  pub name_at : (ks : List (String Y)) (number : ℕ) (key : String Y) → number < length ks
      → key ≡ slice_index_or ks number key
      → slice_get (map string_bytes ks) number ≡ Some (string_bytes key)
  name_at [] number key within is = elim within [ ]
  name_at (k ∷ ks) zero key within is = ap (λ (x : String Y). Some (string_bytes x)) (sym is)
  name_at (k ∷ ks) (suc number) key within is = name_at ks number key (grind (arith, within)) is

  -- past the last key there is no name
  pub no_name_at : (ks : List (String Y)) (number : ℕ) → length ks ≤ number
      → slice_get (map string_bytes ks) number ≡ None
  no_name_at [] number past = refl
  no_name_at (k ∷ ks) zero past = elim past [ ]
  no_name_at (k ∷ ks) (suc number) past = no_name_at ks number (grind (arith, past))

-- the keys of a map are the names that are there, in order
pub are_names : {X Y : Type 0} (bytes_of : X → List ℕ) (files : BTreeMap (String Y) X)
    → IsOrdered string_cmp files
    → AreNames (λ name. option_map bytes_of (get_by_text files name))
    (map string_bytes (keys files))
are_names {X} bytes_of files ordered = record {
  there = λ name. (
    λ is. subst (λ names. Contains names name) (bytes_keys files.entries)
        (Contains-keys_from_lookup (λ x y. (bytes_decides x y).0) name (by_bytes files.entries)
        (subst IsSome (sym (bytes_found name files.entries))
        (held_some (get_by_text files name) is))),
    λ is. some_held (get_by_text files name) (subst IsSome (bytes_found name files.entries)
        (IsSome-lookup_from_Contains nat_list_eq_equiv name (by_bytes files.entries)
        (subst (λ names. Contains names name) (sym (bytes_keys files.entries)) is))),
  );
  ordered = sorted_bytes (keys files) ordered;
}
  where
    held_some : (held : Option X) → IsSome (option_map bytes_of held) → IsSome held
    held_some (Some x) is = is
    held_some None is = is

    some_held : (held : Option X) → IsSome held → IsSome (option_map bytes_of held)
    some_held (Some x) is = is
    some_held None is = is

-- where no name is there, there is none with any number
pub no_names : (number : ℕ) → IsNameAt (λ _. None) number None
unfolding IsStrictlySortedBy
no_names number = (
  [],
  record { there = λ name. (λ is. grind (arith, is), λ is. grind (arith, is)); ordered = tt },
  refl,
)
