-- Records without slots that the grammar takes are read (01, Records): their fields are good, and say what the record has.
use Rattle.std.specs.Prelude.{ℕ, ◌+◌, ◌<◌, ◌≡◌, false, List, [], ◌∷◌, ◌++◌, length, Ok}
use Rattle.std.proofs.Math.Path.{refl}
use Rattle.std.proofs.Common.{arith, lt-ltb}
use Rattle.format.specs.Terms.{Terms}
use Rattle.format.specs.declared.PrimitiveCode.{PrimitiveCode}
use Rattle.format.specs.declared.Row.{Row}
use Rattle.format.specs.Numbers.{le_bytes}
use Rattle.format.specs.Types.{code_number}
use Rattle.format.specs.Rows.{is_class}
use Rattle.format.specs.Records.{header_at, string_record_at, typed_primitive_at, reference_at, nulls_at, long_nulls_at, library_at, heading_at}
use Rattle.format.specs.Contents.{Prefixed, bytes_in, Rec, header, string, typed_primitive, reference, null, nulls, many_nulls, end, library, enc}
use Rattle.format.specs.Grammar.{Positive, Name, Value, ObjectId, known}
use Rattle.format.proofs.Own.{positive_exactly}
use Rattle.laws.specs.Fields.{positive_bits}
use Rattle.places.specs.Env.{env_of, entry_of, object_id_good, library_new_good}
use Rattle.places.specs.Stand.{Stand, stand_size, stand_split, stand_inside, stand_here, stand_after}
use Rattle.places.specs.Fields.{number_there, name_there, code_there, code_from_lem}
use Rattle.places.specs.Values.{value_there}
use Rattle.places.specs.Recs.{entry_for, row_with, There, plain_head, plain_told}

module _ (τ : Terms) (s : List ℕ) (rows : List Row) (at e : ℕ) where
  -- a record whose bytes begin with its kind
  pub plain_there : (k : ℕ) (r : Rec) (b : List ℕ) (id count : ℕ) → enc r ≡ k ∷ b → Stand s (enc r) at e → is_class k ≡ false
      → ((row offset next owner slot : ℕ) → entry_of τ.book s row (row_with k (plain_head id e count) offset next owner slot) ≡ entry_for row r)
      → heading_at τ s rows k at ≡ Ok (plain_head id e count) → There τ s rows k at r id count 0 []
  plain_there k r b id count z w c f q =
      let v : Stand s (k ∷ b) at e = rw z at w in
      record { head = plain_head id e count; taken = q; told = plain_told τ.book s k at r id e count w (stand_inside v) (stand_here v) c f }

  pub header_there : (root h : ℕ) → root < 4294967296 → h < 4294967296 → Stand s (enc (header root h)) at e → There τ s rows 0 at (header root h) root 0 0 []
  unfolding heading_at header_at enc
  header_there root h a b w =
      let x = stand_split (le_bytes 4 root) (le_bytes 4 h ++ (le_bytes 4 1 ++ le_bytes 4 0)) (stand_after w) in
      let y = stand_split (le_bytes 4 h) (le_bytes 4 1 ++ le_bytes 4 0) x.2 in
      let z = stand_split (le_bytes 4 1) (le_bytes 4 0) y.2 in
      plain_there 0 (header root h) _ root 0 refl w refl (λ row offset next owner slot. refl)
      (rw (
        number_there s root (at + 1) x.0 a x.1,
        number_there s h x.0 y.0 b y.1,
        number_there s 1 y.0 z.0 (omega arith) z.1,
        number_there s 0 z.0 e (omega arith) z.2,
      ))

  pub string_there : (i : ℕ) (t : Prefixed) → ObjectId i (env_of τ.book s rows) → Name τ t → Stand s (enc (string i t)) at e → There τ s rows 6 at (string i t) i 0 0 []
  unfolding heading_at string_record_at enc
  string_there i t o n w =
      let x = stand_split (le_bytes 4 i) (bytes_in t) (stand_after w) in
      plain_there 6 (string i t) _ i 0 refl w refl (λ row offset next owner slot. refl)
      (rw (number_there s i (at + 1) x.0 (positive_bits i o.sign) x.1, object_id_good τ.book s rows i o, name_there τ s t x.0 e n x.2))

  pub typed_primitive_there : (c : PrimitiveCode) (v : Prefixed) → Value τ c v → Stand s (enc (typed_primitive c v)) at e
      → There τ s rows 8 at (typed_primitive c v) 0 0 0 []
  unfolding heading_at typed_primitive_at enc
  typed_primitive_there c v g w =
      let x = stand_split (code_number c ∷ []) (bytes_in v) (stand_after w) in
      plain_there 8 (typed_primitive c v) _ 0 0 refl w refl (λ row offset next owner slot. refl)
      (rw (code_there s c (at + 1) x.0 x.1, code_from_lem s c (at + 1) x.0 x.1, value_there τ s c v x.0 e g x.2))

  pub reference_there : (i : ℕ) → Positive i → Stand s (enc (reference i)) at e → There τ s rows 9 at (reference i) i 0 0 []
  unfolding heading_at reference_at enc
  reference_there i p w =
      plain_there 9 (reference i) _ i 0 refl w refl (λ row offset next owner slot. refl)
      (rw (number_there s i (at + 1) e (positive_bits i p) (stand_after w), (positive_exactly i).1 p))

  pub null_there : Stand s (enc null) at e → There τ s rows 10 at null 0 1 0 []
  unfolding heading_at enc
  null_there w =
      let k : e ≡ at + 1 = stand_size w in
      plain_there 10 null _ 0 1 refl w refl (λ row offset next owner slot. refl) (rw k)

  pub end_there : Stand s (enc end) at e → There τ s rows 11 at end 0 0 0 []
  unfolding heading_at enc
  end_there w =
      let k : e ≡ at + 1 = stand_size w in
      plain_there 11 end _ 0 0 refl w refl (λ row offset next owner slot. refl) (rw k)

  pub library_there : (i : ℕ) (n : Prefixed) → Positive i → known i (env_of τ.book s rows) ≡ false → Name τ n → Stand s (enc (library i n)) at e
      → There τ s rows 12 at (library i n) i 0 0 []
  unfolding heading_at library_at enc
  library_there i n p u g w =
      let x = stand_split (le_bytes 4 i) (bytes_in n) (stand_after w) in
      plain_there 12 (library i n) _ i 0 refl w refl (λ row offset next owner slot. refl)
      (rw (number_there s i (at + 1) x.0 (positive_bits i p) x.1, library_new_good τ.book s rows i p u, name_there τ s n x.0 e g x.2))

  pub nulls_there : (k : ℕ) → Stand s (enc (nulls k)) at e → There τ s rows 13 at (nulls k) 0 k 0 []
  unfolding heading_at nulls_at enc
  nulls_there k w =
      let v = stand_after w in
      let z : e ≡ at + 2 = stand_size w in
      plain_there 13 (nulls k) _ 0 k refl w refl (λ row offset next owner slot. refl) (rw (lt-ltb (at + 1) (length s) (stand_inside v), stand_here v, z))

  pub many_nulls_there : (k : ℕ) → Positive k → Stand s (enc (many_nulls k)) at e → There τ s rows 14 at (many_nulls k) 0 k 0 []
  unfolding heading_at long_nulls_at enc
  many_nulls_there k p w =
      plain_there 14 (many_nulls k) _ 0 k refl w refl (λ row offset next owner slot. refl)
      (rw (number_there s k (at + 1) e (positive_bits k p) (stand_after w), (positive_exactly k).1 p))
