-- A record that the grammar takes before what is still to be read, with these objects open (01, What may stand where): at the top level where no
-- object is open, else in the next slot.
use Rattle.std.specs.Prelude.{ℕ, suc, ◌-◌, ◌≤◌, ◌<◌, ◌≡◌, refl, Bool, true, false, ◌||◌, List, [], ◌∷◌, length, eqb}
use Rattle.std.proofs.Common.{sym, subst, arith, eqb-true}
use Rattle.format.specs.Terms.{Terms}
use Rattle.format.specs.declared.SlotType.{SlotType}
use Rattle.format.specs.declared.Typed.{Typed}
use Rattle.format.specs.declared.Row.{Row}
use Rattle.format.specs.declared.Frame.{Frame}
use Rattle.format.specs.Types.{is_primitive}
use Rattle.format.specs.Rows.{is_object}
use Rattle.format.specs.Records.{allowed}
use Rattle.format.specs.Contents.{Rec}
use Rattle.format.specs.Grammar.{Entry, Cur, cur, row_of, Body, Objects}
use Rattle.format.specs.Machine.{filled_by, where_in}
use Rattle.laws.specs.Tests.{apart}
use Rattle.places.specs.Recs.{Good}
use Rattle.readings.specs.Steps.{where_of}
use Rattle.readings.specs.Frames.{spent}
use Rattle.readings.specs.Shape.{Ran, Sound, Based, Tight}
use Rattle.readings.specs.Rest.{Rest, fill_one, fill_none, fill_run}
use Rattle.readings.specs.Fills.{after, top_object, slot_object, top_library, slot_library, slot_run, slot_long_run, slot_plain, top_plain}

module _ (τ : Terms) (s : List ℕ) (f : Frame) (at row : ℕ) (rs : List Rec) (is : List Row) {es : List Entry} where
  pub object_rest : (gs : List Frame) {k id count class : ℕ} {r : Rec} {ts : List SlotType} (c : Cur) → Good τ es k r id count class ts → is_object k ≡ true
      → allowed (where_in gs (where_of f.typed.slot)) k ≡ true → Tight f gs → Based f gs → Body τ (64 - length gs) (suc row) ts (after at row es r rs is) c
      → Rest τ s (spent τ.book s f) gs c → Rest τ s f gs (cur at row es (r ∷ rs) (row_of k at r id f.owner (f.count - f.left) class count ∷ is))
  object_rest [] {k} {id} {count} {class} {r} c g o w t b d q =
      subst (λ (x : Frame). Objects τ (cur at row es (r ∷ rs) (row_of k at r id x.owner (x.count - x.left) class count ∷ is))) (sym b) (top_object τ g o d q)
  object_rest (h ∷ gs) c g o w t b d q = fill_one τ s f h gs b.0 t _ c (λ us c₂ x. slot_object τ f.typed.slot us g o w d x) q

  pub library_rest : (gs : List Frame) {id count class : ℕ} {r : Rec} {ts : List SlotType} → Good τ es 12 r id count class ts → is_primitive f.typed.slot ≡ false
      → Tight f gs → Based f gs → Rest τ s f gs (after at row es r rs is) → Rest τ s f gs (cur at row es (r ∷ rs) (row_of 12 at r id 0 0 class count ∷ is))
  library_rest [] g p t b q = top_library τ g q
  library_rest (h ∷ gs) g p t b q = fill_none τ s f h gs b.0 t _ _ (λ us c₂ x. slot_library τ f.typed.slot us g p x) q

  pub plain_rest : (gs : List Frame) {k id count class : ℕ} {r : Rec} {ts : List SlotType} → Good τ es k r id count class ts
      → is_object k ≡ false → (eqb k 13 || eqb k 14) ≡ false → eqb k 12 ≡ false → eqb k 11 ≡ false
      → allowed (where_in gs (where_of f.typed.slot)) k ≡ true → is_primitive f.typed.slot ≡ false
      → Tight f gs → Based f gs → Rest τ s (spent τ.book s f) gs (after at row es r rs is)
      → Rest τ s f gs (cur at row es (r ∷ rs) (row_of k at r id f.owner (f.count - f.left) class count ∷ is))
  plain_rest [] g o n l e w p t b q = absurd (top_plain τ g o l e w)
  plain_rest (h ∷ gs) g o n l e w p t b q = fill_one τ s f h gs b.0 t _ _ (λ us c₂ x. slot_plain τ f.typed.slot us g o n l e w p x) q

  -- a null run
  pub run_rest : (h : Frame) (gs : List Frame) (u : Typed) {k id count class : ℕ} {r : Rec} {ts : List SlotType} → Good τ es k r id count class ts
      → (eqb k 13 || eqb k 14) ≡ true → is_primitive f.typed.slot ≡ false → 0 < f.left → Sound f → count ≤ f.left → Ran τ.book s f.typed u count f.left
      → Rest τ s (filled_by f count u) (h ∷ gs) (after at row es r rs is)
      → Rest τ s f (h ∷ gs) (cur at row es (r ∷ rs) (row_of k at r id f.owner (f.count - f.left) class count ∷ is))
  run_rest h gs u {k} {id} {count} {class} {r} {ts} g e p t b l n q = by_kind (eqb k 13) refl (eqb k 14) refl e
    where
      -- the kind is one of the two
      at_kind : (m : ℕ) → k ≡ m → (Good τ es m r id count class ts → Rest τ s f (h ∷ gs) (cur at row es (r ∷ rs) (row_of m at r id f.owner (f.count - f.left) class count ∷ is)))
          → Rest τ s f (h ∷ gs) (cur at row es (r ∷ rs) (row_of k at r id f.owner (f.count - f.left) class count ∷ is))
      at_kind m z x =
          subst (λ (m : ℕ). Rest τ s f (h ∷ gs) (cur at row es (r ∷ rs) (row_of m at r id f.owner (f.count - f.left) class count ∷ is))) (sym z)
          (x (subst (λ (m : ℕ). Good τ es m r id count class ts) z g))

      by_kind : (x : Bool) → eqb k 13 ≡ x → (y : Bool) → eqb k 14 ≡ y → (x || y) ≡ true
          → Rest τ s f (h ∷ gs) (cur at row es (r ∷ rs) (row_of k at r id f.owner (f.count - f.left) class count ∷ is))
      by_kind true x y z e =
          at_kind 13 (eqb-true k 13 x) (λ g. fill_run τ s f h gs b t _ _ count u l n (λ us vs c₂ i j m x. slot_run τ f.typed.slot us vs g p (omega arith) j m x) q)
      by_kind false x true y e =
          at_kind 14 (eqb-true k 14 y) (λ g. fill_run τ s f h gs b t _ _ count u l n (λ us vs c₂ i j m x. slot_long_run τ f.typed.slot us vs g p (omega arith) j m x) q)
      by_kind false x false y e = apart e
