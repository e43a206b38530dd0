-- Laws of the bytes that the library knows of a writer.
use Rattle.std.proofs.Common.{ap, List, None, Option, Some, sym, take, ℕ, [], ◌++◌, ◌∙◌, ◌≡◌}
use Rattle.std.{proofs.lemmas.List.append-nil, specs.Io.KnownBytes.{Appends, Keeps}}

-- appending none of the bytes leaves those that are there
pub none_appended : (old new : Option (List ℕ)) (n : ℕ) (bytes : List ℕ) → n ≡ 0
    → Appends old new (take n bytes) → Keeps old new
none_appended None new n bytes zero grew = tt
none_appended (Some xs) None n bytes zero grew = grew
none_appended (Some xs) (Some ys) n bytes zero grew =
    grew ∙ ap (λ k. xs ++ take k bytes) zero ∙ append-nil xs

-- leaving them is appending nothing
pub kept_appends : (old new : Option (List ℕ)) → Keeps old new → Appends old new []
kept_appends None new same = tt
kept_appends (Some xs) None same = same
kept_appends (Some xs) (Some ys) same = same ∙ sym (append-nil xs)
