-- The order in which fields are compared doesn't matter.
use Rattle.std.proofs.Common.{ap, Bool, false, refl, sym, true, ◌&&◌, ◌∙◌, ◌≡◌}

stuck : (a b : Bool) → (a && (b && false)) ≡ false
stuck true true = refl
stuck _ _ = refl

last : (v s w : Bool) → ((w && v) && s) ≡ (v && (s && w))
last true true true = refl
last true true false = refl
last true false true = refl
last true false false = refl
last false s true = refl
last false s false = refl

-- comparing version and slot last gives the same result as comparing them in their places
reorder : (v p s f r m x y z w : Bool)
    → ((((((((((p && f) && r) && m) && x) && y) && z) && w)) && v) && s)
    ≡ (v && (p && (s && (f && (r && (m && (x && (y && (z && w)))))))))
reorder v false s f r m x y z w = sym (stuck v true)
reorder v true s true true true true true true w = last v s w
reorder v true s _ _ _ _ _ _ w = sym (stuck v s)

-- comparing the fields in this order gives the same result as in the order of the definition
pub compared_last : (v : Bool) {p : Bool} (s f r m x y z w : Bool) {a b c d e g h i j k : Bool}
    → a ≡ p → b ≡ (a && f) → c ≡ (b && r) → d ≡ (c && m) → e ≡ (d && x) → g ≡ (e && y)
    → h ≡ (g && z) → i ≡ (h && w) → j
    ≡ (i && v) → k ≡ (j && s) → k ≡ (v && (p && (s && (f && (r && (m && (x && (y && (z && w)))))))))
compared_last v {p} s f r m x y z w ea eb ec ed ee eg eh ei ej ek =
    ek ∙ ap (λ t. t && s) (ej
    ∙ ap (λ t. t && v) (ei ∙ ap (λ t. t && w) (eh ∙ ap (λ t. t && z) (eg ∙ ap (λ t. t && y) (ee ∙ ap
    (λ t. t && x) (ed ∙ ap (λ t. t && m) (ec ∙ ap (λ t. t && r) (eb ∙ ap (λ t. t && f) ea))))))))
    ∙ reorder v p s f r m x y z w
