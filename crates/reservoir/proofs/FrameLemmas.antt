-- How far back the main data of a frame reach.
use Rattle.std.proofs.Common.{append-nil, append_assoc, arith, cond, eqb, false, List, lit≤, refl}
use Rattle.std.proofs.Common.{slice_index, subst, sym, true, ℕ, [], ◌++◌, ◌^◌, ◌∷◌, ◌≤◌}
use Rattle.frame_header.proofs.{HeaderLemmas.IsClass-class_of, SlotLemmas.area-most}
use Rattle.frame_header.specs.{Tables.class_of, declared.version.Version.Version}
use Rattle.frame_header.specs.declared.version.Version.TheVariants.{One, Two, TwoFive}
use Rattle.reservoir.proofs.WindowLemmas.{window-more}
use Rattle.reservoir.specs.Laws.{AreasAreHeld, FramesAreHeld, held_after_areas, joined_areas}
use Rattle.reservoir.specs.Window.{IsWindowOver}
use Rattle.side_info.specs.Side.{front_widths_of}

-- main_data_begin has nine bits or eight
begin_width : (version : Version) (channels : ℕ)
    → 2 ^ slice_index (front_widths_of version channels) 0 ≤ 512
begin_width One channels = elim (eqb channels 1)
    as (λ b. 2 ^ slice_index (cond b (9 ∷ 5 ∷ 4 ∷ 0 ∷ []) (9 ∷ 3 ∷ 4 ∷ 4 ∷ [])) 0
    ≤ 512) [ true ↦ lit≤ tt | false ↦ lit≤ tt ]
begin_width Two channels = elim (eqb channels 1)
    as (λ b. 2 ^ slice_index (cond b (8 ∷ 1 ∷ 0 ∷ 0 ∷ []) (8 ∷ 2 ∷ 0 ∷ 0 ∷ [])) 0
    ≤ 512) [ true ↦ lit≤ tt | false ↦ lit≤ tt ]
begin_width TwoFive channels = elim (eqb channels 1)
    as (λ b. 2 ^ slice_index (cond b (8 ∷ 1 ∷ 0 ∷ 0 ∷ []) (8 ∷ 2 ∷ 0 ∷ 0 ∷ [])) 0
    ≤ 512) [ true ↦ lit≤ tt | false ↦ lit≤ tt ]

-- a frame's area and its main_data_begin add up to at most 1,939 bytes
pub frames-held : FramesAreHeld
frames-held h s is fits =
    omega (
      arith,
      area-most (class_of h) h.slot h.protected (IsClass-class_of is) is.slot,
      begin_width (class_of h).version (class_of h).channels,
      fits.main_data_begin,
    )

-- a window over some main data is over these and all areas pushed after them
held_on : (areas : List (List ℕ)) {held : List ℕ} (main : List ℕ) → IsWindowOver held main
    → IsWindowOver (held_after_areas held areas) (main ++ joined_areas areas)
held_on [] {held} main is = subst (IsWindowOver held) (sym (append-nil main)) is
held_on (area ∷ areas) {held} main is =
    subst (IsWindowOver (held_after_areas held (area ∷ areas)))
    (append_assoc main area (joined_areas areas))
    (held_on areas (main ++ area) (window-more main area is))

-- areas pushed in order leave the window over all of them
pub areas-held : AreasAreHeld
areas-held areas = held_on areas [] refl
