-- Open objects know the codes of their slots that are left (01, Records): while records follow one another, a member value stands in a slot that has
-- its code. The code of a slot is given by the object's order and the slot's number.
use Rattle.std.specs.Prelude.{ℕ, suc, ◌+◌, ◌≡◌, Bool, true, false}
use Rattle.std.proofs.Math.Path.{refl}
use Rattle.std.proofs.Common.{subst}
use mathlib.Core.List.{List, [], ◌∷◌}
use Rattle.format.specs.Terms.{Terms}
use Rattle.format.specs.declared.PrimitiveCode.{PrimitiveCode}
use Rattle.format.specs.declared.SlotType.{SlotType}
use Rattle.format.specs.Bytes.{pick}
use Rattle.format.specs.Rows.{is_object}
use Rattle.format.specs.Contents.{Prefixed, Rec, value}
use Rattle.format.specs.Says.{is_nulls}
use Rattle.laws.specs.Tests.{apart}
use Rattle.saying.specs.Good.{Place, place, shut_by, shut, owner_of, slot_of, tail_of, filled_one, opened_in}
use Rattle.saying.specs.There.{kind_of}
use Rattle.saying.specs.Codes.{CodesAre, codes_drop}
use Rattle.saying.specs.Legal.{Nulls, one, some, many, Stands, top_object, in_object, in_nulls, in_value, fills, filled_by, is_apart, open_by}

nulls_kind : {r : Rec} {k : ℕ} → Nulls r k → is_nulls (kind_of r) ≡ true
nulls_kind one = refl
nulls_kind some = refl
nulls_kind many = refl

module _ (code : ℕ → ℕ → PrimitiveCode) where
  abbrev pub OpenCodes : List Place → Type 0
  OpenCodes [] = Unit {0}
  OpenCodes (f ∷ fs) = CodesAre (code f.owner) f.slot f.types × OpenCodes fs

  codes_shut : (fs : List Place) → OpenCodes fs → OpenCodes (shut fs)
  unfolding shut
  codes_shut [] h = tt
  codes_shut (f ∷ fs) h = go f.types refl (codes_shut fs h.1)
    where
      go : (ts : List SlotType) → f.types ≡ ts → OpenCodes (shut fs) → OpenCodes (shut_by ts f.owner f.slot fs (shut fs))
      go [] e again = again
      go (t ∷ ts) e again = (subst (CodesAre (code f.owner) f.slot) e h.0, h.1)

  -- one slot is filled, or some
  codes_filled : (fs : List Place) → OpenCodes fs → OpenCodes (filled_one fs)
  codes_filled [] h = tt
  codes_filled (f ∷ fs) h = (go f.types h.0, h.1)
    where
      go : (ts : List SlotType) → CodesAre (code f.owner) f.slot ts → CodesAre (code f.owner) (f.slot + 1) (tail_of ts)
      go [] g = tt
      go (t ∷ ts) g = g.1

  codes_by_lem : (k : ℕ) (fs : List Place) → OpenCodes fs → OpenCodes (filled_by k fs)
  codes_by_lem k [] h = tt
  codes_by_lem k (f ∷ fs) h = (codes_drop (code f.owner) k f.slot f.types h.0, h.1)

  -- after a record that has slots of these types, if it is an object
  pub codes_next : (count : ℕ) (fs : List Place) (r : Rec) (ts : List SlotType) → (is_object (kind_of r) ≡ true → CodesAre (code (suc count)) 0 ts) → OpenCodes fs
      → OpenCodes (open_by count fs r ts)
  codes_next count fs r ts g h = go (is_object (kind_of r)) (is_apart r) g
    where
      go : (a b : Bool) → (a ≡ true → CodesAre (code (suc count)) 0 ts) → OpenCodes (pick a (opened_in (suc count) ts fs) (pick b fs (shut (filled_by (fills r) fs))))
      go true b g = codes_shut (place (suc count) 0 ts ∷ filled_one fs) (g refl, codes_filled fs h)
      go false true g = h
      go false false g = codes_shut (filled_by (fills r) fs) (codes_by_lem (fills r) fs h)

module _ (τ : Terms) (code : ℕ → ℕ → PrimitiveCode) where
  -- a member value has the code of its slot
  pub value_coded : {fs : List Place} {c : PrimitiveCode} {v : Prefixed} {ts : List SlotType} → Stands τ fs (value c v) ts → OpenCodes code fs
      → code (owner_of fs) (slot_of fs) ≡ c
  value_coded (top_object e) h = apart e
  value_coded (in_object a e d) h = apart e
  value_coded (in_nulls n a b d) h = apart (nulls_kind n)
  value_coded (in_value g) h = h.0.0
