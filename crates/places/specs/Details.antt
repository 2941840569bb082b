-- LibraryIds and the details of types at a place (01, Records; 2.1.2.2): those that the grammar takes are those that end, and a detail read
-- at a place is one written there. Its library is given by number.
use Rattle.std.specs.Prelude.{ℕ, ◌-◌, ◌≤◌, ◌≡◌, Bool, length, get_or, Result, Ok, Err}
use Rattle.format.specs.declared.Refusal.{Refusal}
use Rattle.std.proofs.Math.Path.{refl, ap}
use Rattle.std.proofs.Common.{sym, ◌∙◌, subst}
use Rattle.std.proofs.Math.Bool.{true, false}
use mathlib.Core.List.{List, [], ◌++◌}
use native.Mathlib.Omega.{arith}
use Rattle.std.proofs.Math.Dec.{eqb}
use Rattle.format.specs.Terms.{Terms}
use Rattle.format.specs.declared.Refusal.TheVariants as R
use Rattle.format.specs.declared.Row.{Row}
use Rattle.format.specs.Bytes.{pick, part}
use Rattle.format.specs.Numbers.{le, le_bytes}
use Rattle.format.specs.Values.{on_end}
use Rattle.format.specs.Types.{code_at, name_at, library_id_at, positive, info_at, slot_of, after_text}
use Rattle.format.specs.Rows.{library_row}
use Rattle.format.specs.Records.{known_library, own_library_at, info_known}
use Rattle.format.specs.Contents.{Prefixed, bytes_in, Detail, primitive, text, object, system, class, objects, texts, primitives, type_byte, info_bytes, slot_for}
use Rattle.format.specs.Says.{number_from, code_from}
use Rattle.format.specs.Grammar.{LibraryId, GoodDetail}
use Rattle.format.proofs.Own.{positive_exactly}
use Rattle.fields.specs.Judged.{no_end}
use Rattle.fields.specs.Sequence.{through}
use Rattle.num.specs.Le.{Bytes}
use Rattle.codes.specs.Ends.{library_end}
use Rattle.types.specs.Keeps.{library_told}
use Rattle.laws.specs.Fields.{by_type, positive_bits}
use Rattle.class_info.specs.Moves.{known_moves}
use Rattle.places.specs.Env.{env_of, library_id, library_id_good}
use Rattle.places.specs.Stand.{Stand, stand_size, stand_none, stand_then, stand_split}
use Rattle.places.specs.Fields.{Number, number_size, number_there, number_back, number_from_lem, name_there, name_in_lem, name_after, prefixed_at, name_back, code_there, code_from_lem, code_back}

-- ---- LibraryIds

module _ (β s : List ℕ) (rows : List Row) (p e : ℕ) where
  pub library_there : (l : ℕ) → LibraryId l (env_of β s rows) → Stand s (le_bytes 4 l) p e → own_library_at s rows p ≡ Ok e
  unfolding own_library_at
  library_there l g w =
      let b = positive_bits l g.sign in
      let u = number_there s l p e b w in
      let k = number_size s l p e w in
      let z : e - 4 ≡ p = omega arith in
      rw (library_end s p l e u ((positive_exactly l).1 g.sign), z, number_from_lem s l p e b w, library_id_good β s rows l g)

  known_told : (m : ℕ) → known_library s rows m ≡ Ok e → eqb (library_row (le (part s (m - 4) 4)) rows) 0 ≡ false
  known_told m q = go (eqb (library_row (le (part s (m - 4) 4)) rows) 0) q
    where
      go : (t : Bool) → pick t (Err R.NoLibrary) (Ok m) ≡ Ok e → t ≡ false
      go true q = absurd (no_end R.NoLibrary e q)
      go false q = refl

  pub library_back : Bytes s → own_library_at s rows p ≡ Ok e
      → LibraryId (number_from s p) (env_of β s rows) × Stand s (le_bytes 4 (number_from s p)) p e
  unfolding own_library_at
  library_back b q =
      let x = through (known_library s rows) (library_id_at s p) e q in
      let y = library_told s p x.0 x.1 in
      go x.0 y.0 (number_back s p y.0 x.0 b y.1) y.2 (known_told x.0 x.2) (known_moves s rows x.0 e x.2)
    where
      go : (m v : ℕ) → Number s p v m → positive v ≡ true → eqb (library_row (le (part s (m - 4) 4)) rows) 0 ≡ false → e ≡ m
          → LibraryId (number_from s p) (env_of β s rows) × Stand s (le_bytes 4 (number_from s p)) p e
      go m v n g l k =
          let z : m - 4 ≡ p = omega (arith, n.next) in
          (library_id β s rows (number_from s p) (rw n.from g) (rw z at l), rw (n.from, k) n.stands)

-- ---- details

-- the type whose byte is this and whose detail stands here
unfoldable pub detail_in : List ℕ → ℕ → ℕ → Detail Prefixed ℕ
detail_in s type at =
    pick (eqb type 0) (primitive (code_from s at))
    (pick (eqb type 1) text
    (pick (eqb type 2) object
    (pick (eqb type 3) (system (prefixed_at s at))
    (pick (eqb type 4) (class (prefixed_at s at) (number_from s (after_text s at)))
    (pick (eqb type 5) objects
    (pick (eqb type 6) texts
    (primitives (code_from s at))))))))

same : (r : Result ℕ Refusal) → on_end Ok r ≡ r
same (Ok e) = refl
same (Err f) = refl

module _ (τ : Terms) (s : List ℕ) (rows : List Row) (p : ℕ) where
  -- type 4: a name, and then a library that is known
  class_detail : info_known τ.setting s rows 4 p ≡ on_end (own_library_at s rows) (name_at τ.setting s p)
  unfolding info_known info_at own_library_at
  class_detail = go (name_at τ.setting s p)
    where
      go : (r : Result ℕ Refusal) → on_end (known_library s rows) (on_end (library_id_at s) r) ≡ on_end (λ m. on_end (known_library s rows) (library_id_at s m)) r
      go (Ok m) = refl
      go (Err f) = refl

  module _ (e : ℕ) where
    pub detail_there : (d : Detail Prefixed ℕ) → GoodDetail τ (env_of τ.book s rows) d → Stand s (info_bytes d) p e → info_known τ.setting s rows (type_byte d) p ≡ Ok e
    unfolding info_known info_at
    detail_there (primitive c) g w = same (code_at s p) ∙ code_there s c p e w
    detail_there text g w = let k = stand_size w in ap Ok (omega arith)
    detail_there object g w = let k = stand_size w in ap Ok (omega arith)
    detail_there (system n) g w = same (name_at τ.setting s p) ∙ name_there τ s n p e g w
    detail_there (class n l) g w =
        let x = stand_split (bytes_in n) (le_bytes 4 l) w in
        class_detail ∙ rw (name_there τ s n p x.0 g.0 x.1) (library_there τ.book s rows x.0 e l g.1 x.2)
    detail_there objects g w = let k = stand_size w in ap Ok (omega arith)
    detail_there texts g w = let k = stand_size w in ap Ok (omega arith)
    detail_there (primitives c) g w = same (code_at s p) ∙ code_there s c p e w

    -- and it is the detail that is read there
    pub detail_in_lem : (d : Detail Prefixed ℕ) → GoodDetail τ (env_of τ.book s rows) d → Stand s (info_bytes d) p e → detail_in s (type_byte d) p ≡ d
    unfolding detail_in
    detail_in_lem (primitive c) g w = ap primitive (code_from_lem s c p e w)
    detail_in_lem text g w = refl
    detail_in_lem object g w = refl
    detail_in_lem (system n) g w = ap system (name_in_lem τ s n p e g w)
    detail_in_lem (class n l) g w =
        let x = stand_split (bytes_in n) (le_bytes 4 l) w in
        rw (name_in_lem τ s n p x.0 g.0 x.1, name_after τ s n p x.0 g.0 x.1, number_from_lem s l x.0 e (positive_bits l g.1.sign) x.2)
    detail_in_lem objects g w = refl
    detail_in_lem texts g w = refl
    detail_in_lem (primitives c) g w = ap primitives (code_from_lem s c p e w)

pub byte_small : (d : Detail Prefixed ℕ) → type_byte d ≤ 7
byte_small (primitive c) = omega arith
byte_small text = omega arith
byte_small object = omega arith
byte_small (system n) = omega arith
byte_small (class n l) = omega arith
byte_small objects = omega arith
byte_small texts = omega arith
byte_small (primitives c) = omega arith

module _ (τ : Terms) (s : List ℕ) (p : ℕ) where
  pub detail_byte : (b : ℕ) → b ≤ 7 → type_byte (detail_in s b p) ≡ b
  unfolding detail_in
  detail_byte b h = by_type (λ (b : ℕ). type_byte (detail_in s b p) ≡ b) refl refl refl refl refl refl refl refl b h

  pub detail_slot : (b : ℕ) → b ≤ 7 → slot_of b (get_or s p 0) ≡ slot_for (detail_in s b p)
  unfolding slot_of detail_in
  detail_slot b h = by_type (λ (b : ℕ). slot_of b (get_or s p 0) ≡ slot_for (detail_in s b p)) refl refl refl refl refl refl refl refl b h

  module _ (rows : List Row) (e : ℕ) where
    -- a detail that ends is written there
    pub record Detailed (b : ℕ) : Type 0 where
      pub good : GoodDetail τ (env_of τ.book s rows) (detail_in s b p)
      pub stands : Stand s (info_bytes (detail_in s b p)) p e

    pub detail_back : (b : ℕ) → b ≤ 7 → Bytes s → p ≤ length s → info_known τ.setting s rows b p ≡ Ok e → Detailed b
    unfolding info_known info_at detail_in
    detail_back b h byte i q =
        by_type (λ (b : ℕ). info_known τ.setting s rows b p ≡ Ok e → Detailed b)
        (λ q. record { good = tt; stands = code_back s p e (sym (same (code_at s p)) ∙ q) })
        (λ q. record { good = tt; stands = none q })
        (λ q. record { good = tt; stands = none q })
        (λ q. let x = name_back τ s p e byte (sym (same (name_at τ.setting s p)) ∙ q) in record { good = x.0; stands = x.1 })
        (λ q. class_back (through (own_library_at s rows) (name_at τ.setting s p) e (sym (class_detail τ s rows p) ∙ q)))
        (λ q. record { good = tt; stands = none q })
        (λ q. record { good = tt; stands = none q })
        (λ q. record { good = tt; stands = code_back s p e (sym (same (code_at s p)) ∙ q) })
        b
        h
        q
      where
        none : ◌≡◌ {A = Result ℕ Refusal} (Ok p) (Ok e) → Stand s [] p e
        none q = let z : p ≡ e = cc in rw (← z) (stand_none i)

        class_back : (m : ℕ) × (name_at τ.setting s p ≡ Ok m) × (own_library_at s rows m ≡ Ok e) → Detailed 4
        class_back x =
            let n = name_back τ s p x.0 byte x.1 in
            let l = library_back τ.book s rows x.0 e byte x.2 in
            let f : number_from s (after_text s p) ≡ number_from s x.0 = ap (number_from s) n.2 in
            record {
              good = (n.0, subst (λ (v : ℕ). LibraryId v (env_of τ.book s rows)) (sym f) l.0);
              stands = subst (λ (v : ℕ). Stand s (bytes_in (prefixed_at s p) ++ le_bytes 4 v) p e) (sym f) (stand_then n.1 l.1);
            }
