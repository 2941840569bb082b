-- What good fields tell of (01, Records): for each kind, the record that stands at the place is one that the grammar takes, its contents read
-- from the stream.
use Rattle.std.specs.Prelude.{ℕ, ◌+◌, ◌-◌, ◌<◌, ◌≡◌, Bool, true, false, ◌&&◌, List, [], ◌∷◌, length, get_or, ltb, Option, Some, None, Result, Ok, Err}
use Rattle.format.specs.declared.Refusal.{Refusal}
use Rattle.std.proofs.Math.Path.{refl}
use native.Mathlib.Omega.{arith}
use Rattle.std.proofs.Math.Dec.{eqb}
use Rattle.std.proofs.Common.{ltb-true, eqb-true}
use Rattle.format.specs.Terms.{Terms}
use Rattle.format.specs.declared.Head.{Head}
use Rattle.format.specs.declared.Row.{Row}
use Rattle.format.specs.Bytes.{pick}
use Rattle.format.specs.Numbers.{le_bytes, u32_at}
use Rattle.format.specs.Values.{value_at}
use Rattle.format.specs.Types.{code_at, name_at, positive}
use Rattle.format.specs.Rows.{is_class, library_row}
use Rattle.format.specs.Records.{on_number, on_field, on_slots, good_id, header_at, string_record_at, typed_primitive_at, reference_at, nulls_at, long_nulls_at, library_at}
use Rattle.format.specs.Contents.{Rec, header, string, typed_primitive, reference, null, nulls, many_nulls, end, library, enc}
use Rattle.format.specs.Says.{code_from}
use Rattle.format.proofs.Own.{positive_exactly}
use Rattle.fields.specs.Judged.{picked}
use Rattle.num.specs.Le.{Bytes}
use Rattle.places.specs.Env.{env_of, entry_of, object_id, library_new}
use Rattle.places.specs.Stand.{Stand, stand_byte, stand_is, stand_then}
use Rattle.places.specs.Fields.{number_back, prefixed_at, name_back, code_back}
use Rattle.places.specs.Values.{value_in, value_back}
use Rattle.places.specs.Recs.{Good, is_header, is_string, is_typed_primitive, is_reference, is_null_rule, is_end, is_library_rule, is_nulls_rule, is_many_nulls, entry_for, row_with, Back, plain_head, plain_told}

-- ---- a statement about good fields, through numbers, fields and lengths

abbrev pub Said : (Head → Type 0) → Result Head Refusal → Type 0
Said P (Ok h) = P h
Said P (Err f) = Unit {0}

module _ (P : Head → Type 0) where
  pub said_number : (k : ℕ → ℕ → Result Head Refusal) (r : Option (ℕ × ℕ)) → ((v e : ℕ) → r ≡ Some (v, e) → Said P (k v e)) → Said P (on_number k r)
  said_number k (Some (v, e)) f = f v e refl
  said_number k None f = tt

  pub said_field : (k : ℕ → Result Head Refusal) (r : Result ℕ Refusal) → ((e : ℕ) → r ≡ Ok e → Said P (k e)) → Said P (on_field k r)
  said_field k (Ok e) f = f e refl
  said_field k (Err x) f = tt

  pub said_slots : (k : ℕ → ℕ → Result Head Refusal) (r : Result (ℕ × ℕ) Refusal) → ((n e : ℕ) → r ≡ Ok (n, e) → Said P (k n e)) → Said P (on_slots k r)
  said_slots k (Ok (n, e)) f = f n e refl
  said_slots k (Err x) f = tt

  -- where the other choice is no good
  pub said_if : (t : Bool) (a b : Result Head Refusal) → (t ≡ true → Said P a) → (t ≡ false → Said P b) → Said P (pick t a b)
  said_if t a b f g = picked (Said P) t f g

-- ---- records without slots

module _ (τ : Terms) (s : List ℕ) (rows : List Row) (at : ℕ) (byte : Bytes s) (i : at < length s) where
  pub plain_back : (k : ℕ) (r : Rec) (id after count : ℕ) → get_or s at 0 ≡ k → Good τ (env_of τ.book s rows) k r id count 0 [] → Stand s (enc r) at after
      → is_class k ≡ false → ((row offset next owner slot : ℕ) → entry_of τ.book s row (row_with k (plain_head id after count) offset next owner slot) ≡ entry_for row r)
      → Back τ s rows k at (plain_head id after count)
  plain_back k r id after count g x w c f =
      record { rec = r; id = id; count = count; class = 0; types = []; good = x; told = plain_told τ.book s k at r id after count w i g c f }

  pub header_back : get_or s at 0 ≡ 0 → Said (Back τ s rows 0 at) (header_at s at)
  unfolding header_at enc
  header_back g =
      said_number (Back τ s rows 0 at) _ (u32_at s (at + 1)) (λ root p q.
      let a = number_back s (at + 1) root p byte q in
      said_number (Back τ s rows 0 at) _ (u32_at s p) (λ h x r.
      let b = number_back s p h x byte r in
      said_number (Back τ s rows 0 at) _ (u32_at s x) (λ major y u.
      let c = number_back s x major y byte u in
      said_if (Back τ s rows 0 at) (eqb major 1) _ _ (λ one.
      said_number (Back τ s rows 0 at) _ (u32_at s y) (λ minor e v.
      let d = number_back s y minor e byte v in
      said_if (Back τ s rows 0 at) (eqb minor 0) _ _ (λ none.
      let m : Stand s (le_bytes 4 1) x y = rw (eqb-true major 1 one) at c.stands in
      let n : Stand s (le_bytes 4 0) y e = rw (eqb-true minor 0 none) at d.stands in
      plain_back 0 (header root h) root e 0 g (is_header a.bits b.bits)
      (stand_then (stand_is 0 i g) (stand_then a.stands (stand_then b.stands (stand_then m n)))) refl (λ row offset next owner slot. refl))
      (λ t. tt)))
      (λ t. tt))))

  pub string_back : get_or s at 0 ≡ 6 → Said (Back τ s rows 6 at) (string_record_at τ.setting s rows at)
  unfolding string_record_at enc
  string_back g =
      said_number (Back τ s rows 6 at) _ (u32_at s (at + 1)) (λ id p q.
      let n = number_back s (at + 1) id p byte q in
      said_if (Back τ s rows 6 at) (good_id rows id) _ _ (λ t.
      said_field (Back τ s rows 6 at) _ (name_at τ.setting s p) (λ e u.
      let x = name_back τ s p e byte u in
      plain_back 6 (string id (prefixed_at s p)) id e 0 g (is_string (object_id τ.book s rows id t) x.0)
      (stand_then (stand_is 6 i g) (stand_then n.stands x.1)) refl (λ row offset next owner slot. refl)))
      (λ t. tt))

  pub typed_primitive_back : get_or s at 0 ≡ 8 → Said (Back τ s rows 8 at) (typed_primitive_at τ.setting s at)
  unfolding typed_primitive_at enc
  typed_primitive_back g =
      said_field (Back τ s rows 8 at) _ (code_at s (at + 1)) (λ p q.
      said_field (Back τ s rows 8 at) _ (value_at τ.setting s (code_from s (at + 1)) p) (λ e u.
      let x = value_back τ s (code_from s (at + 1)) p e byte u in
      plain_back 8 (typed_primitive (code_from s (at + 1)) (value_in s (code_from s (at + 1)) p)) 0 e 0 g (is_typed_primitive x.0)
      (stand_then (stand_is 8 i g) (stand_then (code_back s (at + 1) p q) x.1)) refl (λ row offset next owner slot. refl)))

  pub reference_back : get_or s at 0 ≡ 9 → Said (Back τ s rows 9 at) (reference_at s at)
  unfolding reference_at enc
  reference_back g =
      said_number (Back τ s rows 9 at) _ (u32_at s (at + 1)) (λ id e q.
      let n = number_back s (at + 1) id e byte q in
      said_if (Back τ s rows 9 at) (positive id) _ _ (λ t.
      plain_back 9 (reference id) id e 0 g (is_reference ((positive_exactly id).0 t)) (stand_then (stand_is 9 i g) n.stands) refl (λ row offset next owner slot. refl))
      (λ t. tt))

  pub null_back : get_or s at 0 ≡ 10 → Back τ s rows 10 at (plain_head 0 (at + 1) 1)
  unfolding enc
  null_back g = plain_back 10 null 0 (at + 1) 1 g is_null_rule (stand_is 10 i g) refl (λ row offset next owner slot. refl)

  pub end_back : get_or s at 0 ≡ 11 → Back τ s rows 11 at (plain_head 0 (at + 1) 0)
  unfolding enc
  end_back g = plain_back 11 end 0 (at + 1) 0 g is_end (stand_is 11 i g) refl (λ row offset next owner slot. refl)

  pub library_back : get_or s at 0 ≡ 12 → Said (Back τ s rows 12 at) (library_at τ.setting s rows at)
  unfolding library_at enc
  library_back g =
      said_number (Back τ s rows 12 at) _ (u32_at s (at + 1)) (λ id p q.
      let n = number_back s (at + 1) id p byte q in
      said_if (Back τ s rows 12 at) (positive id && eqb (library_row id rows) 0) _ _ (λ t.
      said_field (Back τ s rows 12 at) _ (name_at τ.setting s p) (λ e u.
      let x = name_back τ s p e byte u in
      let l = library_new τ.book s rows id t in
      plain_back 12 (library id (prefixed_at s p)) id e 0 g (is_library_rule l.0 l.1 x.0)
      (stand_then (stand_is 12 i g) (stand_then n.stands x.1)) refl (λ row offset next owner slot. refl)))
      (λ t. tt))

  pub nulls_back : get_or s at 0 ≡ 13 → Said (Back τ s rows 13 at) (nulls_at s at)
  unfolding nulls_at enc
  nulls_back g =
      said_if (Back τ s rows 13 at) (ltb (at + 1) (length s)) _ _ (λ t.
      let z : at + 1 + 1 ≡ at + 2 = omega arith in
      let w : Stand s (get_or s (at + 1) 0 ∷ []) (at + 1) (at + 2) = rw (← z) (stand_byte (ltb-true (at + 1) (length s) t)) in
      plain_back 13 (nulls (get_or s (at + 1) 0)) 0 (at + 2) (get_or s (at + 1) 0) g (is_nulls_rule (byte (at + 1)))
      (stand_then (stand_is 13 i g) w) refl (λ row offset next owner slot. refl))
      (λ t. tt)

  pub many_nulls_back : get_or s at 0 ≡ 14 → Said (Back τ s rows 14 at) (long_nulls_at s at)
  unfolding long_nulls_at enc
  many_nulls_back g =
      said_number (Back τ s rows 14 at) _ (u32_at s (at + 1)) (λ k e q.
      let n = number_back s (at + 1) k e byte q in
      said_if (Back τ s rows 14 at) (positive k) _ _ (λ t.
      plain_back 14 (many_nulls k) 0 e k g (is_many_nulls ((positive_exactly k).0 t)) (stand_then (stand_is 14 i g) n.stands) refl (λ row offset next owner slot. refl))
      (λ t. tt))
