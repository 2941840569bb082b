-- Open objects (01, What may stand where) as the grammar sees them: the types of the slots that are left, a null run over them, and what always
-- holds of the objects around a place.
use Rattle.std.specs.Prelude.{ℕ, zero, suc, ◌+◌, ◌-◌, ◌≤◌, ◌<◌, ◌≡◌, refl, Bool, true, false, List, [], ◌∷◌, length, get_or, take, drop, eqb, ltb, Some, None}
use Rattle.std.proofs.Common.{sym, ap, ◌∙◌, arith, eqb-true}
use Rattle.std.proofs.lemmas.Bool.{eqb-false}
use Rattle.format.specs.declared.Typed.{Typed}
use Rattle.format.specs.declared.Frame.{Frame}
use Rattle.format.specs.Bytes.{pick}
use Rattle.format.specs.Types.{typed_at, past, after_info, next_booked, moved, is_primitive, passed, passed_of}
use Rattle.format.specs.Grammar.{all_take}
use Rattle.format.specs.Machine.{Open, close, filled_by, top_level}
use Rattle.format.proofs.Own.{takes_exactly}
use Rattle.fields.specs.Judged.{picked}
use Rattle.spans.specs.Spans.{text_rises, info_place}
use Rattle.slots.specs.Slots.{moved_alike, passed_alike, passed_walk}
use Rattle.places.specs.Env.{slots_from}
use Rattle.readings.specs.Frames.{spent}

-- ---- the slots that are left

pub slots_next : (β s : List ℕ) (t : Typed) (n : ℕ) → 0 < n → slots_from β s t n ≡ t.slot ∷ slots_from β s (moved β s t) (n - 1)
unfolding slots_from
slots_next β s t zero h = absurd (omega arith)
slots_next β s t (suc n) h =
    let d : suc n - 1 ≡ n = omega arith in
    rw d

pub no_slots : (β s : List ℕ) (t : Typed) (n : ℕ) → n ≡ 0 → slots_from β s t n ≡ []
unfolding slots_from
no_slots β s t n e = rw e

-- ---- a null run

-- slots that are all alike are not primitive: a run over them is not walked
abbrev pub Free : Typed → Type 0
Free t = t.types ≡ 0 → is_primitive t.slot ≡ false

-- a step never goes back
past_on : (n p : ℕ) → p ≤ past n p
past_on n p = picked (λ (q : ℕ). p ≤ q) (ltb p n) (λ l. omega arith) (λ l. omega arith)

booked_on : (β : List ℕ) (p : ℕ) → p ≤ next_booked β p
booked_on β p =
    let q = past (length β) p in
    let a = past_on (length β) p in
    let b = info_place β (get_or β p 0) q (q + length β) (omega arith) (omega arith) in
    let c = text_rises β (after_info β (get_or β p 0) q) in
    omega (arith, a, b.0, c)

pub free_moved : (β s : List ℕ) (t : Typed) → Free t → Free (moved β s t)
unfolding moved typed_at
free_moved β s t f =
    picked Free (eqb t.types 0) (λ e. f) (λ e.
    let n = eqb-false t.types 0 e in
    picked Free (eqb t.infos 0)
    (λ i z. absurd (n (let w = booked_on β t.types in omega (arith, w, z))))
    (λ i z. absurd (n (let w = past_on (length s) t.types in omega (arith, w, z)))))

-- what a run that is within n slots of m leaves
pub record Ran (β s : List ℕ) (t u : Typed) (n m : ℕ) : Type 0 where
  pub none : all_take (take n (slots_from β s t m)) ≡ true
  pub rest : slots_from β s u (m - n) ≡ drop n (slots_from β s t m)
  pub free : Free u

over_same : (t u : Typed) → Some t ≡ Some u → t ≡ u
over_same t u e = cc

ran : (β s : List ℕ) (t u : Typed) (n m : ℕ) → Free t → passed β s t n ≡ Some u → n ≤ m → Ran β s t u n m
unfolding passed slots_from
ran β s t u zero m f e h =
    let z : m - 0 ≡ m = omega arith in
    let w = over_same t u e in
    record { none = refl; rest = rw z (ap (λ (x : Typed). slots_from β s x m) (sym w)); free = rw (← w) f }
ran β s t u (suc n) zero f e h = absurd (omega arith)
ran β s t u (suc n) (suc m) f e h = go (is_primitive t.slot) refl e (λ q. ran β s (moved β s t) u n m (free_moved β s t f) q (omega arith))
  where
    go : (b : Bool) → is_primitive t.slot ≡ b → pick b None (passed β s (moved β s t) n) ≡ Some u → (passed β s (moved β s t) n ≡ Some u → Ran β s (moved β s t) u n m)
        → Ran β s t u (suc n) (suc m)
    go true q e k = absurd (let z : ◌≡◌ {A = ℕ} 0 1 = cc in omega arith)
    go false q e k =
        let w = k e in
        let d : suc m - suc n ≡ m - n = omega arith in
        record { none = rw ((takes_exactly t.slot).0 q) w.none; rest = rw d w.rest; free = w.free }

-- a run over slots that are alike, walked
walked_alike : (β s : List ℕ) (t : Typed) (n : ℕ) → moved β s t ≡ t → is_primitive t.slot ≡ false → passed β s t n ≡ Some t
unfolding passed
walked_alike β s t zero e p = refl
walked_alike β s t (suc n) e p = rw (p, e) (walked_alike β s t n e p)

pub run_over_lem : (β s : List ℕ) (t u : Typed) (n m : ℕ) → Free t → passed_of β s t n ≡ Some u → n ≤ m → Ran β s t u n m
run_over_lem β s t u n m f e h = go (eqb t.types 0) refl
  where
    go : (b : Bool) → eqb t.types 0 ≡ b → Ran β s t u n m
    go true q =
        let z = eqb-true t.types 0 q in
        ran β s t u n m f (walked_alike β s t n (moved_alike β s t z) (f z) ∙ (sym (passed_alike β s t n z) ∙ e)) h
    go false q = ran β s t u n m f (sym (passed_walk β s t n (eqb-false t.types 0 q)) ∙ e) h

-- ---- the objects around a place

pub record Sound (f : Frame) : Type 0 where
  pub within : f.left ≤ f.count
  pub free : Free f.typed

-- the last one is the top level
abbrev pub Based : Frame → List Frame → Type 0
Based f [] = f ≡ top_level
Based f (g ∷ gs) = Sound f × Based g gs

-- the innermost has a slot left
abbrev pub Tight : Frame → List Frame → Type 0
Tight f [] = Unit {0}
Tight f (g ∷ gs) = 0 < f.left

pub record Shaped (o : Open) : Type 0 where
  pub tight : Tight o.cur o.below
  pub based : Based o.cur o.below

pub some : (n : ℕ) → eqb n 0 ≡ false → 0 < n
some n e = let h = eqb-false n 0 e in omega (arith, h)

pub close_shaped : (f : Frame) (gs : List Frame) → Based f gs → Shaped (close f gs)
unfolding close
close_shaped f [] b = record { tight = tt; based = b }
close_shaped f (g ∷ gs) b =
    picked Shaped (eqb f.left 0) (λ e. close_shaped g gs b.1) (λ e. record { tight = some f.left e; based = b })

pub based_spent : (β s : List ℕ) (f : Frame) (gs : List Frame) → Based f gs → Based (spent β s f) gs
based_spent β s f [] b = rw (b, moved_alike β s top_level.typed refl)
based_spent β s f (g ∷ gs) b =
    let w = b.0.within in
    (record { within = omega arith; free = free_moved β s f.typed b.0.free }, b.1)

pub based_run : (f g : Frame) (gs : List Frame) (k : ℕ) (u : Typed) → Free u → Based f (g ∷ gs) → Based (filled_by f k u) (g ∷ gs)
based_run f g gs k u h b =
    let w = b.0.within in
    (record { within = omega arith; free = h }, b.1)
