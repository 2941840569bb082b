-- What the grammar allows and does not, on worked lists of records: a library in a slot, a reference to what the list has before it or after it, an
-- object of a class that is still open; no null run past an object's end, none over a primitive member, no library twice, no class that comes later.
use Rattle.std.specs.Prelude.{ℕ, ◌≤◌, ◌<◌, ◌≡◌, refl, Bool, true, false, ◌&&◌, ◌||◌, List, [], ◌∷◌, map, length, take, drop, ltb, eqb}
use Rattle.std.proofs.Common.{arith, ltb-true, eqb-true, lt-ltb}
use Rattle.std.proofs.lemmas.List.{length-replicate}
use Rattle.std.proofs.lemmas.Bool.{eqb-false}
use Rattle.format.specs.declared.PrimitiveCode.TheVariants as C
use Rattle.format.specs.declared.SlotType.{SlotType}
use Rattle.format.specs.declared.SlotType.TheVariants as S
use Rattle.format.specs.declared.Row.{Row}
use Rattle.format.specs.Bytes.{pick}
use Rattle.format.specs.Numbers.{le_bytes}
use Rattle.format.specs.Terms.{Terms, strict}
use Rattle.format.specs.Prefix.{prefix_bytes, groups_of, groups_in, prefix_of}
use Rattle.format.specs.Rows.{with_link, rows_of}
use Rattle.format.specs.Unicode.{Scalar, encode, Encodes}
use Rattle.format.specs.Contents.{Prefixed, shortest, text, Rec, class_by_id, nulls, many_nulls, end, library, object_array, enc, encs}
use Rattle.format.specs.Contents.{object as anything}
use Rattle.format.specs.Book.{book_bytes}
use Rattle.format.specs.Grammar.{Positive, Name, no_entry, Book, Entry, no_more, member, Cur, cur, Object, system_class_rule, library_class_rule, Body, hollow, filled, Slots, full, all_take, class_by_id_rule, an_object_rule, a_string_rule, a_reference_rule, a_run, a_long_run, a_library_rule, Array, of_objects, Objects, the_end, one_object, one_string, one_array, one_library, Link, to_root, to_object, stays, no_links, one_link, among, Reading}
use Rattle.format.specs.Examples.{hex_onto}
use Rattle.format.specs.Lists.{jaw, named, in_slot, in_slot_rows, forwards, forwards_rows}

-- ---- allowed

-- bytes below 80 are their own scalar values
abbrev ascii : List ℕ → Bool
ascii [] = true
ascii (c ∷ cs) = ltb c 0x80 && ascii cs

one_byte : (c : ℕ) → c < 0x80 → Scalar c × (encode c ≡ c ∷ [])
unfolding encode
one_byte c h = (record { code_point = omega arith; no_surrogate = λ a b. omega arith }, rw (lt-ltb c 0x80 h))

own_scalars : (t : List ℕ) → ascii t ≡ true → Encodes t t
own_scalars [] e = record { scalars = tt; bytes = refl }
own_scalars (c ∷ t) e = go (ltb c 0x80) refl e (own_scalars t)
  where
    go : (b : Bool) → ltb c 0x80 ≡ b → (b && ascii t) ≡ true → (ascii t ≡ true → Encodes t t) → Encodes (c ∷ t) (c ∷ t)
    go true q e again =
        let w = one_byte c (ltb-true c 0x80 q) in
        let v = again e in
        record { scalars = (w.0, v.scalars); bytes = rw (w.1, v.bytes) }
    go false q e again = absurd (let z : ◌≡◌ {A = ℕ} 0 1 = cc in omega arith)

-- a short name in the shortest prefix
name_of : (t : List ℕ) → ascii t ≡ true → length t < 128 → Name strict (shortest t)
unfolding groups_of
name_of t a b =
    let w : length (prefix_bytes (length t)) ≡ 1 = rw (lt-ltb (length t) 128 b) in
    record {
      characters = record { good = (t, own_scalars t a); short = omega arith };
      prefix = record { some = omega arith; most = omega arith; holds = rw w b; least = λ e v h k. omega arith };
    }

positive_of_lem : (n : ℕ) → 0 < n → n < 2147483648 → Positive n
positive_of_lem n a b = record { above = a; below = b }

-- a row before the links of references are made
abbrev unlinked : Row → Row
unlinked r = pick (eqb r.kind 9) (with_link r 0) r

-- what follows the header
abbrev rest : List Rec
rest = drop 1 (in_slot 4294967295 4 6 2 9 text 2)

-- an id that is among one is that one
only : (i j : ℕ) → among i (j ∷ []) ≡ true → i ≡ j
only i j e = eqb-true i j (either (eqb i j) e)
  where
    either : (b : Bool) → (b || false) ≡ true → b ≡ true
    either true e = refl
    either false e = e

-- the one reference names the text
to_text : (i : ℕ) → among i (2 ∷ []) ≡ true → among i (4 ∷ 6 ∷ 2 ∷ []) ≡ true
to_text i e = rw (only i 2 e)

-- the row of neither a header nor a reference
other : {rs : List Rec} {it : Row} → eqb it.kind 0 ≡ false → eqb it.kind 9 ≡ false → Link rs it it
other a b = stays (λ e. eqb-false _ 0 a e) (λ e. eqb-false _ 9 b e)

-- no bytes are a book
no_book : Book [] []
unfolding book_bytes
no_book = record { bytes_are = refl; good = no_entry; small = omega arith }

-- a library stands in a slot, and a reference names what the list has
pub allowed_in_slot : Reading strict (encs (in_slot 4294967295 4 6 2 9 text 2)) (rows_of 7 in_slot_rows)
unfolding rows_of encs enc le_bytes groups_of groups_in prefix_of hex_onto
allowed_in_slot =
    record {
      classes = [];
      book_is = no_book;
      root = 4;
      header_id = 4294967295;
      rs = rest;
      is = map unlinked (drop 1 (rows_of 7 in_slot_rows));
      root_bits = omega arith;
      header_bits = omega arith;
      bytes_are = refl;
      small = omega arith;
      objects_are =
          one_array (record { sign = positive_of_lem 4 (omega arith) (omega arith); fresh = refl }) (of_objects {i = 4} {n = 2} (omega arith)) refl
          (filled (a_library_rule refl (positive_of_lem 9 (omega arith) (omega arith)) refl (name_of (0x4C ∷ []) refl (omega arith)) refl
          (an_object_rule refl
          (library_class_rule {i = 6} {n = shortest (0x50 ∷ [])} {ms = named text} (record { apart = omega arith; bits = omega arith; fresh = refl })
          (record { named = name_of (0x50 ∷ []) refl (omega arith); counted = omega arith; members = member (name_of (0x4E ∷ []) refl (omega arith)) tt no_more })
          (record { sign = positive_of_lem 9 (omega arith) (omega arith); there = refl }) refl
          (filled (a_string_rule refl (record { sign = positive_of_lem 2 (omega arith) (omega arith); fresh = refl }) (name_of jaw refl (omega arith)) refl full)))
          (a_reference_rule refl (positive_of_lem 2 (omega arith) (omega arith)) refl full))))
          (the_end refl);
      rooted = refl;
      targets = to_text;
      links_are =
          one_link (to_root {j = 1} refl (record { inside = omega arith; id = refl }))
          (one_link (other refl refl) (one_link (other refl refl) (one_link (other refl refl) (one_link (other refl refl)
          (one_link (to_object {j = 4} refl (record { inside = omega arith; id = refl }))
          (one_link (other refl refl) no_links))))));
    }

-- the one reference names the text, which comes later
to_later : (i : ℕ) → among i (3 ∷ []) ≡ true → among i (1 ∷ 2 ∷ 3 ∷ []) ≡ true
to_later i e = rw (only i 3 e)

-- a reference may point forwards, and an object may be of a class whose first object is still open
pub allowed_forwards : Reading strict (encs forwards) (rows_of 6 forwards_rows)
unfolding rows_of encs enc le_bytes groups_of groups_in prefix_of hex_onto
allowed_forwards =
    record {
      classes = [];
      book_is = no_book;
      root = 1;
      header_id = 1;
      rs = drop 1 forwards;
      is = map unlinked (drop 1 (rows_of 6 forwards_rows));
      root_bits = omega arith;
      header_bits = omega arith;
      bytes_are = refl;
      small = omega arith;
      objects_are =
          one_object (system_class_rule {i = 1} {n = shortest (0x50 ∷ [])} {ms = named anything} (record { apart = omega arith; bits = omega arith; fresh = refl })
          (record { named = name_of (0x50 ∷ []) refl (omega arith); counted = omega arith; members = member (name_of (0x4E ∷ []) refl (omega arith)) tt no_more })
          refl
          (filled (an_object_rule refl
          (class_by_id_rule {i = 2} {k = 1} (record { apart = omega arith; bits = omega arith; fresh = refl }) (omega arith) refl refl
          (filled (a_reference_rule refl (positive_of_lem 3 (omega arith) (omega arith)) refl full)))
          full)))
          (one_string (record { sign = positive_of_lem 3 (omega arith) (omega arith); fresh = refl }) (name_of jaw refl (omega arith)) refl (the_end refl));
      rooted = refl;
      targets = to_later;
      links_are =
          one_link (to_root {j = 1} refl (record { inside = omega arith; id = refl }))
          (one_link (other refl refl) (one_link (other refl refl)
          (one_link (to_object {j = 4} refl (record { inside = omega arith; id = refl }))
          (one_link (other refl refl) (one_link (other refl refl) no_links)))));
    }

-- ---- not allowed

-- a null run stands in the slots of its object, whatever they are
pub run_within : {τ : Terms} {room own slot at row k : ℕ} {t : SlotType} {ts : List SlotType} {es : List Entry} {rs : List Rec} {is : List Row} {c : Cur}
    → Slots τ room own slot (t ∷ ts) (cur at row es (nulls k ∷ rs) is) c → k ≤ length (t ∷ ts)
run_within (a_run t k l p u r d) = l
run_within {τ = τ} {room = room} {own = own} {slot = slot} {at = at} {row = row} {k = k} {t = t} {ts = ts} {es = es} {rs = rs} {is = is} {c = c} (an_object_rule {c₁ = c₁} _ x23 _) = elim x23 [ ]

-- an array of n slots has n
slots_of_lem : {τ : Terms} {es : List Entry} {i n kind j m : ℕ} {ts : List SlotType} → Array τ es (object_array i n) kind j m ts → length ts ≡ n
slots_of_lem (of_objects {n = n} l) = length-replicate n S.Object

run_of_body : {τ : Terms} {room own at row k : ℕ} {ts : List SlotType} {es : List Entry} {rs : List Rec} {is : List Row} {c : Cur}
    → Body τ room own ts (cur at row es (nulls k ∷ rs) is) c → 0 < length ts → k ≤ length ts
run_of_body hollow l = absurd (omega (arith, l))
run_of_body (filled d) l = run_within d

-- a run of four in an array of three
pub no_run_past_the_end : {τ : Terms} {is : List Row} → Objects τ (cur 17 1 [] (object_array 1 3 ∷ nulls 4 ∷ end ∷ []) is) → ⊥
no_run_past_the_end (one_array i a q b o) =
    let n = slots_of_lem a in
    let l = run_of_body b (omega (arith, n)) in
    omega (arith, n, l)
no_run_past_the_end {τ = τ} {is = is} (one_object {c₁ = c₁} x3 _) = elim x3 [ ]

-- a run stands over no primitive member
pub run_over_none : {τ : Terms} {room own slot at row k : ℕ} {t : SlotType} {ts : List SlotType} {es : List Entry} {rs : List Rec} {is : List Row} {c : Cur}
    → Slots τ room own slot (t ∷ ts) (cur at row es (nulls k ∷ rs) is) c → all_take (take k (t ∷ ts)) ≡ true
run_over_none (a_run t k l p u r d) = p
run_over_none {τ = τ} {room = room} {own = own} {slot = slot} {at = at} {row = row} {k = k} {t = t} {ts = ts} {es = es} {rs = rs} {is = is} {c = c} (an_object_rule {c₁ = c₁} _ x23 _) = elim x23 [ ]

-- likewise of a run with its count in four bytes
pub long_run_within : {τ : Terms} {room own slot at row k : ℕ} {t : SlotType} {ts : List SlotType} {es : List Entry} {rs : List Rec} {is : List Row} {c : Cur}
    → Slots τ room own slot (t ∷ ts) (cur at row es (many_nulls k ∷ rs) is) c → (k ≤ length (t ∷ ts)) × (all_take (take k (t ∷ ts)) ≡ true)
long_run_within (a_long_run t k l p u r d) = (l, p)
long_run_within {τ = τ} {room = room} {own = own} {slot = slot} {at = at} {row = row} {k = k} {t = t} {ts = ts} {es = es} {rs = rs} {is = is} {c = c} (an_object_rule {c₁ = c₁} _ x23 _) = elim x23 [ ]

-- a class that no earlier record has
pub no_later_class : {τ : Terms} {rs : List Rec} {is : List Row} → Objects τ (cur 17 1 [] (class_by_id 1 2 ∷ rs) is) → ⊥
no_later_class (one_object (class_by_id_rule i k e q d) o) = let z : ◌≡◌ {A = ℕ} 0 1 = cc in omega arith
no_later_class {τ = τ} {rs = rs} (one_array {kind = kind} {i = i} {n = n} {ts = ts} {it = it} {is = is} {c = c} _ x32 _ _ _) = elim x32 [ ]

-- one LibraryId for two libraries
pub no_library_twice : {τ : Terms} {m n : Prefixed} {rs : List Rec} {is : List Row} → Objects τ (cur 17 1 [] (library 1 m ∷ library 1 n ∷ rs) is) → ⊥
no_library_twice (one_library i k n q (one_library j l m r d)) = let z : ◌≡◌ {A = ℕ} 0 1 = cc in omega arith
no_library_twice {τ = τ} {m = m} {n = n} {rs = rs} {is = is} (one_object {c₁ = c₁} x3 _) = elim x3 [ ]
no_library_twice {τ = τ} {m = m} {n = n} {rs = rs} (one_array {kind = kind} {i = i} {ts = ts} {it = it} {is = is} {c = c} _ x33 _ _ _) = elim x33 [ ]
no_library_twice {τ = τ} {m = m} {rs = rs} (one_library {it = it} {is = is} i k n q (one_object {c₁ = c₁} x13 _)) = elim x13 [ ]
no_library_twice {τ = τ} {m = m} {rs = rs} (one_library {it = it} i k n q (one_array {kind = kind} {ts = ts} {is = is} {c = c} _ x43 _ _ _)) = elim x43 [ ]
