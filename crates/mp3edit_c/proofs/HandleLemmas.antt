-- The machine value of a `Handle`, and what it owns taken apart and put together.
use Rattle.std.proofs.Common.{List, refl, subst, ℕ, [], ◌++◌, ◌∷◌, ◌≡◌}
use Rattle.std.{proofs.GlobalToken.dealloc_token-Testable, specs.Box.Ownership.box_owns}
use Rattle.std.specs.{Ptr.points_to, contracts.impls.GlobalAllocator.TheImpl.ghosts}
use Rattle.std.specs.declared.option.Option.{Option, TheVariants.{None, Some}}
use Rattle.mp3edit_c.specs.{Handle.{handle_owns, heap}, contracts.handle.Handle.{the_row, the_type}}
use base.{Fml.{Fml, ftrue}, Logic.{fst∗, guard_i, never, never_e, snd∗, via}}
use contract.Monad.{fact_use}
use denote.{Builtin.RawPtr, Memory.lone, RattleType.Valss}
use denote.{RawPtr.{block_ptr, null_ptr, Ptr, ptr_val, Testable}, Steps.nothing}
use denote.Struct.{Owning.shape, Struct.within}
use mir.{Raw.raw as bare, Val.{of_list, Val, vcons, vnil, vstruct}}
use seplogic.Ra.Ura.{Ura}
use types.Kit.{drop, feq_i, feq_l, fjoin, fpack, fpick, fsplit, given, Goal, Item, learn, Seq, Step}
use types.{Kit.{step, use1, ‵, ◌$◌}, Logic.{Logic, sem}}
use Rattle.session.specs.contracts.held.Session as session

-- The machine value of a handle with this pointer.
abbrev pub word : Ptr → Val
word at = vstruct (vcons (ptr_val at) vnil)

-- A session at this pointer, with the right to free it.
abbrev pub boxed : Ptr → session.the_row.Denot → Fml
boxed = box_owns (ghosts.dealloc_token heap) session.the_row

module _ {M : Type 1} {𝓤 : Ura M} {𝓛 : Logic 𝓤} {K : Type 0} {Γ : List (Item 𝓤)}
    {G : Goal 𝓤 𝓛.H} where
  -- A handle owns what its pointer and its session say, and is one word.
  pub handle_out : K → (h : the_row.Denot) (vs : List Val)
      → (vs ≡ word h.at ∷ [] → Seq K 𝓛 (‵ (handle_owns h.at h.inner) ∷ Γ) G)
      → Seq K 𝓛 (‵ (the_row.own_val h vs) ∷ Γ) G
  handle_out t h vs k =
      fsplit t $ fpick t (λ vss. fsplit t $ feq_l t (λ ev. fsplit t $ feq_l t (λ ep. drop t $
      k (subst (λ (ps : List Val). vs ≡ vstruct (of_list (ps ++ [])) ∷ []) ep ev))))

  -- What a pointer and a session say makes a handle.
  pub handle_in : K → (h : the_row.Denot)
      → Step K 𝓛 (‵ (the_row.own_val h (word h.at ∷ [])) ∷ Γ) G (‵ (handle_owns h.at h.inner) ∷ Γ) G
  handle_in t h = step (λ s. let v : Val = word h.at in
      nothing t $ feq_i t (List Val) (ptr_val h.at ∷ []) (ptr_val h.at ∷ []) refl $ fjoin t $
      feq_i t (List Val) (v ∷ []) (v ∷ []) refl $ fjoin t $
      fpack t (Valss (RawPtr ∷ [])) (within (shape the_type) (h.at, tt) (v ∷ []))
      (ptr_val h.at ∷ [], tt) $ fjoin t $ s)

  -- Either the pointer is null and there is no session, or the session lies in a block, at a
  -- pointer that may be compared with null.
  pub either_held : K → (at : Ptr) (inner : Option session.the_row.Denot)
      → (at ≡ null_ptr → inner ≡ None → Seq K 𝓛 Γ G)
      → ((b o : ℕ) (x : session.the_row.Denot) → at ≡ block_ptr b o → inner ≡ Some x
      → Testable (block_ptr b o) → Seq K 𝓛 (‵ (boxed (block_ptr b o) x) ∷ Γ) G)
      → Seq K 𝓛 (‵ (handle_owns at inner) ∷ Γ) G
  either_held t at None none held = feq_l t (λ e. none e refl)
  either_held t null_ptr (Some x) none held =
      use1 𝓛 (given ⊥ (‵ ftrue))
      (via 𝓤 (never 𝓤)
      (fst∗ 𝓤 (never 𝓤)
      (sem 𝓛 (ghosts.dealloc_token heap (bare (lone session.the_row.mir)) null_ptr)))
      (never_e 𝓤 _)) $ learn t (λ z. absurd z)
  either_held t (block_ptr b o) (Some x) none held = let p = block_ptr b o in
      let τ = bare (lone session.the_row.mir) in
      use1 𝓛 (given (Testable p) (‵ (boxed p x)))
      (fact_use 𝓤 (Testable p)
      (via 𝓤 (sem 𝓛 (ghosts.dealloc_token heap τ p))
      (snd∗ 𝓤 (sem 𝓛 (points_to session.the_row p x)) (sem 𝓛 (ghosts.dealloc_token heap τ p)))
      (dealloc_token-Testable 𝓛 heap τ p))
      (λ test. guard_i 𝓤 (Testable p) (sem 𝓛 (boxed p x)) test)) $
      learn t (λ test. held b o x refl refl test)
