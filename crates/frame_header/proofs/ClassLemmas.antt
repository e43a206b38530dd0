-- When two classes are the same, and when bits are a header of a class.
use Rattle.std.proofs.Common.{ap, Bool, Err, false, if◌then◌else◌, None, Ok, refl, Result, Some}
use Rattle.std.proofs.{Common.{sym, true, ◌==◌, ◌∙◌, ◌≡◌}, lemmas.Bool.{and_parts, eqb-true}}
use Rattle.std.specs.Prelude.{unwrap_or}
use Rattle.frame_header.specs.Fields.{ClassFields, HeaderFields, same_class, version_number}
use Rattle.frame_header.specs.{Reading.header_of_class, Tables.class_of}
use Rattle.frame_header.specs.declared.{header.NotHeader.NotHeader, version.Version.Version}
use Rattle.frame_header.specs.declared.version.Version.TheVariants.{One, Two, TwoFive}

version-same : (v w : Version) → version_number v ≡ version_number w → v ≡ w
version-same One One e = refl
version-same Two Two e = refl
version-same TwoFive TwoFive e = refl
version-same _ _ e = absurd cc

class-parts : {c d : ClassFields} → c.version ≡ d.version → c.frequency_index ≡ d.frequency_index
    → c.channels ≡ d.channels → c ≡ d
class-parts {c} {d} version frequency channels =
    ap (λ v. record { version = v; frequency_index = c.frequency_index; channels = c.channels })
    version
    ∙ ap (λ n. record { version = d.version; frequency_index = n; channels = c.channels }) frequency
    ∙ ap (λ n. record { version = d.version; frequency_index = d.frequency_index; channels = n })
    channels

-- classes that compare as the same are equal
pub same_class-is : {c d : ClassFields} → same_class c d ≡ true → c ≡ d
unfolding same_class
same_class-is {c} {d} e =
    let all = and_parts _ (c.channels == d.channels) e in
    let front = and_parts _ (c.frequency_index == d.frequency_index) all.0 in
    class-parts (version-same c.version d.version (eqb-true _ _ front.0)) (eqb-true _ _ front.1)
    (eqb-true _ _ all.1)

-- bits that aren't a header of this version and frequency aren't a header of the class
pub none_of_class : (class : ClassFields) (read : Result HeaderFields NotHeader)
    → ((h : HeaderFields) → read ≡ Ok h → h.version ≡ class.version
    → h.frequency_index ≡ class.frequency_index → ⊥) → header_of_class class read ≡ None
none_of_class class (Err why) none = refl
none_of_class class (Ok h) none = by_cases (same_class (class_of h) class) refl
  where
    by_cases : (b : Bool) → same_class (class_of h) class ≡ b → (if b then Some h else None) ≡ None
    by_cases true same = let is = same_class-is same in
        absurd (none h refl (ap (λ c. c.version) is) (ap (λ c. c.frequency_index) is))
    by_cases false same = refl

some_by : {class : ClassFields} {k h : HeaderFields} (b : Bool) → same_class (class_of k) class ≡ b
    → (if b then Some k else None) ≡ Some h
    → (k ≡ h) × (class_of h ≡ class) × (same_class (class_of h) class ≡ true)
some_by {class} {k} {h} true same is =
    let k_is : k ≡ h = ap (λ o. unwrap_or o k) is in
    let same_h = ap (λ (l : HeaderFields). same_class (class_of l) class) (sym k_is) ∙ same in
    (k_is, same_class-is same_h, same_h)
some_by false same is = absurd cc

-- the header of the class is the one that was read
pub some_of_class : {class : ClassFields} (read : Result HeaderFields NotHeader) {h : HeaderFields}
    → header_of_class class read ≡ Some h
    → (read ≡ Ok h) × (class_of h ≡ class) × (same_class (class_of h) class ≡ true)
some_of_class (Err why) is = absurd cc
some_of_class {class} (Ok k) {h} is =
    let found = some_by (same_class (class_of k) class) refl is in
    (ap (λ f. Ok f) found.0, found.1, found.2)
