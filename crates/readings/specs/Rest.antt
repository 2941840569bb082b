-- What is still to be read (01, What may stand where) where these objects are open: the slots left of each, then the top level. One slot, none
-- or a null run is filled.
use Rattle.std.specs.Prelude.{ℕ, suc, ◌+◌, ◌-◌, ◌≤◌, ◌<◌, ◌≡◌, refl, Bool, true, false, List, [], ◌∷◌, length, take, drop, eqb}
use Rattle.std.proofs.Common.{sym, ap, ◌∙◌, subst, arith, eqb-true}
use Rattle.format.specs.Terms.{Terms}
use Rattle.format.specs.declared.SlotType.{SlotType}
use Rattle.format.specs.declared.Typed.{Typed}
use Rattle.format.specs.declared.Frame.{Frame}
use Rattle.format.specs.Bytes.{pick}
use Rattle.format.specs.Types.{moved}
use Rattle.format.specs.Grammar.{Cur, Slots, full, Objects, all_take}
use Rattle.format.specs.Machine.{Open, close, filled_by}
use Rattle.places.specs.Env.{slots_from}
use Rattle.places.specs.Recs.{length_slots}
use Rattle.readings.specs.Frames.{open_at, spent}
use Rattle.readings.specs.Shape.{slots_next, no_slots, Ran, Sound}

-- the slots left of each open object, innermost first, then the top level
abbrev pub Rest : Terms → List ℕ → Frame → List Frame → Cur → Type 0
Rest τ s f [] c = Objects τ c
Rest τ s f (g ∷ gs) c =
    (c₁ : Cur) × Slots τ (64 - suc (length gs)) f.owner (f.count - f.left) (slots_from τ.book s f.typed f.left) c c₁ × Rest τ s g gs c₁

abbrev pub RestOf : Terms → List ℕ → Open → Cur → Type 0
RestOf τ s o c = Rest τ s o.cur o.below c

-- objects that are full have nothing left
pub rest_close : (τ : Terms) (s : List ℕ) (f : Frame) (gs : List Frame) (c : Cur) → RestOf τ s (close f gs) c → Rest τ s f gs c
unfolding close
rest_close τ s f [] c r = r
rest_close τ s f (g ∷ gs) c r = go (eqb f.left 0) refl (rest_close τ s g gs c) r
  where
    go : (b : Bool) → eqb f.left 0 ≡ b → (RestOf τ s (close g gs) c → Rest τ s g gs c) → RestOf τ s (pick b (close g gs) (open_at f (g ∷ gs))) c → Rest τ s f (g ∷ gs) c
    go true e again r = (
      c,
      subst (λ (ts : List SlotType). Slots τ (64 - suc (length gs)) f.owner (f.count - f.left) ts c c)
          (sym (no_slots τ.book s f.typed f.left (eqb-true f.left 0 e))) full,
      again r,
    )
    go false e again r = r

-- ---- one slot, and a run of slots

module _ (τ : Terms) (s : List ℕ) (f g : Frame) (gs : List Frame) (w : Sound f) (left : 0 < f.left) (c c₁ : Cur) where
  abbrev room : ℕ
  room = 64 - suc (length gs)

  abbrev slot : ℕ
  slot = f.count - f.left

  pub fill_one : ((ts : List SlotType) (c₂ : Cur) → Slots τ room f.owner (slot + 1) ts c₁ c₂ → Slots τ room f.owner slot (f.typed.slot ∷ ts) c c₂)
      → Rest τ s (spent τ.book s f) (g ∷ gs) c₁ → Rest τ s f (g ∷ gs) c
  fill_one k r =
      let ts : List SlotType = slots_from τ.book s (moved τ.book s f.typed) (f.left - 1) in
      let i = w.within in
      let e : f.count - (f.left - 1) ≡ slot + 1 = omega arith in
      let x : Slots τ room f.owner (slot + 1) ts c₁ r.0 = subst (λ (n : ℕ). Slots τ room f.owner n ts c₁ r.0) e r.1 in
      (r.0, subst (λ (us : List SlotType). Slots τ room f.owner slot us c r.0) (sym (slots_next τ.book s f.typed f.left left)) (k ts r.0 x), r.2)

  pub fill_none : ((ts : List SlotType) (c₂ : Cur) → Slots τ room f.owner slot (f.typed.slot ∷ ts) c₁ c₂ → Slots τ room f.owner slot (f.typed.slot ∷ ts) c c₂)
      → Rest τ s f (g ∷ gs) c₁ → Rest τ s f (g ∷ gs) c
  fill_none k r =
      let e = slots_next τ.book s f.typed f.left left in
      let x = subst (λ (us : List SlotType). Slots τ room f.owner slot us c₁ r.0) e r.1 in
      (r.0, subst (λ (us : List SlotType). Slots τ room f.owner slot us c r.0) (sym e) (k (slots_from τ.book s (moved τ.book s f.typed) (f.left - 1)) r.0 x), r.2)

  pub fill_run : (n : ℕ) (u : Typed) → n ≤ f.left → Ran τ.book s f.typed u n f.left
      → ((ts us : List SlotType) (c₂ : Cur) → f.left ≡ length (f.typed.slot ∷ ts) → all_take (take n (f.typed.slot ∷ ts)) ≡ true → us ≡ drop n (f.typed.slot ∷ ts)
      → Slots τ room f.owner (slot + n) us c₁ c₂ → Slots τ room f.owner slot (f.typed.slot ∷ ts) c c₂)
      → Rest τ s (filled_by f n u) (g ∷ gs) c₁ → Rest τ s f (g ∷ gs) c
  fill_run n u h a k r =
      let ts : List SlotType = slots_from τ.book s (moved τ.book s f.typed) (f.left - 1) in
      let us : List SlotType = slots_from τ.book s u (f.left - n) in
      let e = slots_next τ.book s f.typed f.left left in
      let i = w.within in
      let m : f.count - (f.left - n) ≡ slot + n = omega arith in
      let x : Slots τ room f.owner (slot + n) us c₁ r.0 = subst (λ (n : ℕ). Slots τ room f.owner n us c₁ r.0) m r.1 in
      let l : f.left ≡ length (f.typed.slot ∷ ts) = sym (length_slots τ.book s f.typed f.left) ∙ ap length e in (
        r.0,
        subst (λ (us : List SlotType). Slots τ room f.owner slot us c r.0) (sym e)
            (k ts us r.0 l (ap (λ (us : List SlotType). all_take (take n us)) (sym e) ∙ a.none) (a.rest ∙ ap (drop n) e) x),
        r.2,
      )
