-- The fields that name libraries stand in the stream in the order of the rows, each names a library by its first row, and the first row spells
-- the library's name.
use Prim.Native.Nat.{ℕ, zero, suc, ◌+◌, ◌-◌, ◌*◌, ◌≤◌, ◌<◌}
use Rattle.std.specs.Prelude.{◌≡◌, refl, true, length, eqb, Ok}
use Rattle.std.proofs.Math.Path.{sym, subst}
use Rattle.std.proofs.Common.{ap, ◌∙◌, arith, eqb-true}
use mathlib.Core.List.{List, [], ◌∷◌, ◌++◌, append-nil}
use Rattle.std.proofs.Math.ListN.{get_or}
use Rattle.format.specs.Terms.{Terms}
use Rattle.format.specs.declared.Row.{Row}
use Rattle.format.specs.Bytes.{pick}
use Rattle.format.specs.Rows.{blank, is_object, is_class}
use Rattle.format.specs.Records.{info_known, infos_at}
use Rattle.format.specs.Types.{after_info}
use Rattle.format.specs.Says.{number_from}
use Rattle.format.specs.Contents.{shortest, library, enc}
use Rattle.num.specs.Read.{u32_says}
use Rattle.fields.specs.Judged.{picked}
use Rattle.fields.specs.Sequence.{through}
use Rattle.types.specs.Keeps.{type_told, name_moves}
use Rattle.laws.specs.Tests.{pick_of}
use Rattle.class_info.specs.Moves.{info_known_moves}
use Rattle.marks.specs.Marks.{row_at, library_at, item_type, is_first}
use Rattle.meaning.specs.Stands.{OwnStands, of_system, of_library_rule, ClassStands, ArrayStands, Stands}
use Rattle.meaning.specs.Marked.{Placed, Firsts, info_fields, class_fields, array_fields, row_fields, fields_from, All}
use Rattle.meaning.specs.Bytes.{info_place}
use Rattle.meaning.specs.Names.{class_at_holds, array_at, NamesLibrary, own_names, class_places, library_first_lem, firsts_word, firsts_library, fields_name}
use Rattle.meaning.specs.Bytes.{class_info}
use Rattle.meaning.specs.RecordBytes.{library_is}
use Rattle.meaning.specs.Needs.{all_so}
use Rattle.meaning.specs.Stamps.{Rising, no_more, next, rising_from, rising_append, Named, Fields}
use Rattle.meaning.specs.LibrariesOut.{Spelled}
use Rattle.meaning.specs.Words.{first_kind, class_words, object_words}

-- ---- the fields of a row

no_field : (e b : ℕ) → b ≤ e → Rising e b []
no_field e b h = no_more h

one_field : (e b p : ℕ) → b ≤ p → p < e → Rising e b (p ∷ [])
one_field e b p h l = next {b = b} {p = p} h (no_field e (suc p) l)

module _ (τ : Terms) (s : List ℕ) (rows : List Row) where
  -- a detail from p to e
  info_rising : (type p e : ℕ) → p ≤ length s → info_known τ.setting s rows type p ≡ Ok e → Rising e p (pick (eqb type 4) ((e - 4) ∷ []) [])
  info_rising type p e h q = picked (Rising e p) (eqb type 4) of_class_holds (λ t. let m = info_known_moves τ.setting s rows type p e h q in no_field e p (omega arith))
    where
      of_class_holds : eqb type 4 ≡ true → Rising e p ((e - 4) ∷ [])
      of_class_holds t =
          let c = class_info τ s rows p e (ap (λ (x : ℕ). info_known τ.setting s rows x p) (sym (eqb-true type 4 t)) ∙ q) in
          let m = c.moves in
          one_field e p (e - 4) (omega arith) (omega arith)

  infos_rising : (n types p e : ℕ) → p ≤ length s → infos_at τ.setting s rows n types p ≡ Ok e → Rising e p (info_fields s n types p)
  unfolding infos_at info_fields
  infos_rising zero types p e h q = let z : p ≡ e = cc in no_field e p (omega arith)
  infos_rising (suc n) types p e h q =
      let type = get_or s types 0 in
      let x = through (infos_at τ.setting s rows n (types + 1)) (info_known τ.setting s rows type p) e q in
      let m = info_known_moves τ.setting s rows type p x.0 h x.1 in
      rw (info_place τ s rows type p x.0 x.1)
      (rising_append e x.0 p (pick (eqb type 4) ((x.0 - 4) ∷ []) []) (info_fields s n (types + 1) x.0)
      (info_rising type p x.0 h x.1) (infos_rising n (types + 1) x.0 e (omega arith) x.2))

  module _ (r q : Row) where
    own_rising : (p : ℕ) → OwnStands s rows r p → Rising r.end p (pick (eqb r.kind 5) ((r.end - 4) ∷ []) [])
    own_rising p (of_system k e) =
        subst (λ (x : ℕ). Rising r.end p (pick (eqb x 5) ((r.end - 4) ∷ []) [])) (sym k) (no_field r.end p (omega arith))
    own_rising p (of_library_rule k e) =
        let w = own_names τ s rows p r.end e in
        let m = w.1 in
        subst (λ (x : ℕ). Rising r.end p (pick (eqb x 5) ((r.end - 4) ∷ []) [])) (sym k) (one_field r.end p (r.end - 4) (omega arith) (omega arith))

    -- of a row that has the class's words, its slot the place of the type bytes
    class_rising : (c : ClassStands τ s rows r) → q.kind ≡ r.kind → q.end ≡ r.end → q.count ≡ r.count → q.slot ≡ c.types
        → Rising r.end r.offset (class_fields s q)
    unfolding class_fields
    class_rising c k e n t =
        let l = class_places τ s rows r c in
        let m = name_moves τ.setting s (r.offset + 5) c.name_end c.named in
        let infos = info_fields s r.count c.types (c.types + r.count) in
        let own = pick (eqb r.kind 5) ((r.end - 4) ∷ []) [] in
        let a : Rising r.end (c.types + r.count) (infos ++ own) =
        rising_append r.end c.infos_end (c.types + r.count) infos own
        (infos_rising r.count c.types (c.types + r.count) c.infos_end l.1 c.infos) (own_rising c.infos_end c.own) in
        let b : Rising r.end r.offset (infos ++ own) =
        rising_from r.end r.offset (c.types + r.count) (infos ++ own) (omega (arith, l.0, m.0)) a in
        subst (λ (x : ℕ). Rising r.end r.offset (info_fields s q.count q.slot (q.slot + q.count) ++ pick (eqb x 5) ((q.end - 4) ∷ []) [])) (sym k)
        (subst (λ (x : ℕ). Rising r.end r.offset (info_fields s q.count q.slot (q.slot + q.count) ++ pick (eqb r.kind 5) ((x - 4) ∷ []) [])) (sym e)
        (subst (λ (x : ℕ). Rising r.end r.offset (info_fields s x q.slot (q.slot + x) ++ own)) (sym n)
        (subst (λ (x : ℕ). Rising r.end r.offset (info_fields s r.count x (x + r.count) ++ own)) (sym t) b)))

    array_rising : (a : ArrayStands τ s rows r) → q.offset ≡ r.offset → Rising r.end r.offset (array_fields s q)
    unfolding array_fields item_type
    array_rising a e =
        let n : number_from s (r.offset + 6) ≡ a.rank = sym (u32_says s (r.offset + 6) a.rank (r.offset + 10) a.ranked).value in
        let p : ℕ = r.offset + 10 + 4 * a.rank in
        let i : r.offset + 10 + 4 * number_from s (r.offset + 6) ≡ p = rw n in
        let w = type_told s p (p + 1) a.typed in
        let fields : List ℕ = pick (eqb (get_or s p 0) 4) ((a.info_end - 4) ∷ []) [] in
        let x : Rising a.info_end (p + 1) fields = info_rising (get_or s p 0) (p + 1) a.info_end (omega (arith, w.1)) a.info in
        let l = a.items in
        let y : Rising r.end (p + 1) (fields ++ []) = rising_append r.end a.info_end (p + 1) fields [] x (no_field r.end a.info_end l) in
        subst (λ (o : ℕ). Rising r.end r.offset (at (o + 10 + 4 * number_from s (o + 6)))) (sym e)
        (subst (λ (z : ℕ). Rising r.end r.offset (at z)) (sym i)
        (rw (info_place τ s rows (get_or s p 0) (p + 1) a.info_end a.info)
        (rising_from r.end r.offset (p + 1) fields (omega arith) (rw (append-nil fields) at y))))
      where
        at : ℕ → List ℕ
        at p = pick (eqb (get_or s p 0) 4) ((after_info s (get_or s p 0) (p + 1) - 4) ∷ []) []

-- ---- of all rows

-- rows between bounds that follow one another
rows_rising : (s : List ℕ) (b : ℕ → ℕ) (i : ℕ) (rows : List Row)
    → ((k : ℕ) → k < length rows → Rising (b (suc (i + k))) (b (i + k)) (row_fields s (i + k) (get_or rows k blank)))
    → Rising (b (i + length rows)) (b i) (fields_from s i rows)
unfolding fields_from
rows_rising s b i [] h = let z : i + 0 ≡ i = omega arith in rw z (no_field (b i) (b i) (omega arith))
rows_rising s b i (r ∷ rows) h =
    let z : i + 0 ≡ i = omega arith in
    let o : suc i ≡ i + 1 = omega arith in
    let t : i + suc (length rows) ≡ i + 1 + length rows = omega arith in
    let here : Rising (b (suc i)) (b i) (row_fields s i r) = subst (λ (n : ℕ). Rising (b (suc n)) (b n) (row_fields s n r)) z (h 0 (omega arith)) in
    rw t (rising_append (b (i + 1 + length rows)) (b (i + 1)) (b i) (row_fields s i r) (fields_from s (i + 1) rows) (rw o at here) (rows_rising s b (i + 1) rows later))
  where
    later : (k : ℕ) → k < length rows → Rising (b (suc (i + 1 + k))) (b (i + 1 + k)) (row_fields s (i + 1 + k) (get_or rows k blank))
    later k l =
        let z : i + suc k ≡ i + 1 + k = omega arith in
        subst (λ (n : ℕ). Rising (b (suc n)) (b n) (row_fields s n (get_or rows k blank))) z (h (suc k) (omega arith))

-- where the rows before row i end
abbrev edge : List Row → ℕ → ℕ
edge rows zero = (get_or rows 0 blank).offset
edge rows (suc i) = (get_or rows i blank).end

module _ (τ : Terms) (s : List ℕ) (rows ps fs : List Row) (st : Stands τ s rows) (pl : Placed τ s rows ps) (fi : Firsts s rows ps fs) where
  edge_is : (i : ℕ) → i < length rows → edge rows i ≡ (get_or rows i blank).offset
  edge_is zero h = refl
  edge_is (suc i) h = sym (st.next i h)

  row_rising : (i : ℕ) → i < length rows → Rising (get_or rows i blank).end (get_or rows i blank).offset (row_fields s i (get_or fs i blank))
  unfolding row_fields
  row_rising i h =
      picked P (is_first i q) classes
      (λ e. picked P (eqb q.kind 7) arrays
      (λ e. let f = st.forward i h in no_field (get_or rows i blank).end (get_or rows i blank).offset (omega arith)))
    where
      q : Row
      q = get_or fs i blank

      P : List ℕ → Type 0
      P = Rising (get_or rows i blank).end (get_or rows i blank).offset

      kind : q.kind ≡ (get_or rows i blank).kind
      kind = first_kind τ s rows ps fs st pl fi i h

      classes : is_first i q ≡ true → P (class_fields s q)
      classes e =
          let k = ap is_class (sym kind) ∙ (pick_of (is_class q.kind) (eqb q.link (i + 1)) e).0 in
          let w = class_words τ s rows ps fs st pl fi i h k in
          class_rising τ s rows (get_or rows i blank) q (class_at_holds τ s rows st i h k) kind (ap (λ (r : Row). r.end) w) (ap (λ (r : Row). r.count) w)
          (ap (λ (r : Row). r.slot) w)

      arrays : eqb q.kind 7 ≡ true → P (array_fields s q)
      arrays e =
          let k = sym kind ∙ eqb-true q.kind 7 e in
          array_rising τ s rows (get_or rows i blank) q (array_at τ s rows st i h k)
          (ap (λ (r : Row). r.offset) (object_words τ s rows ps fs st pl fi i h (ap is_object k) (ap is_class k)))

  rising : Rising (edge rows (length fs)) (edge rows 0) (fields_from s 0 fs)
  rising =
      let n : 0 + length fs ≡ length fs = omega arith in
      subst (λ (x : ℕ). Rising (edge rows x) (edge rows 0) (fields_from s 0 fs)) n
      (rows_rising s (edge rows) 0 fs (λ k h.
      let z : 0 + k ≡ k = omega arith in
      let l : k < length rows = omega (arith, fi.size, pl.size) in
      rw (z, edge_is k l) (row_rising k l)))

  edge_small : (n : ℕ) → n ≤ length rows → edge rows n ≤ length s
  edge_small zero h = let l = st.some in let a = st.forward 0 l in let b = st.inside 0 l in omega arith
  edge_small (suc i) h = st.inside i h

  -- ---- the first rows that fields name

  named_field : (p : ℕ) → NamesLibrary s rows p → Named s rows fs p
  named_field p w =
      let x = library_first_lem τ s rows ps st pl p w in
      let e : library_at s fs p ≡ library_at s ps p = firsts_library s rows ps fs fi p in
      record {
        aimed = record {
          row = x.row;
          aims = e ∙ (x.same ∙ x.first);
          inside = omega (arith, fi.size, pl.size, x.inside);
          library = first_kind τ s rows ps fs st pl fi x.row x.inside ∙ x.kind;
        };
        first = e ∙ x.same;
      }

  spelled_field : (p : ℕ) → NamesLibrary s rows p → Spelled s rows fs p
  spelled_field p w =
      let x = library_first_lem τ s rows ps st pl p w in
      let j : ℕ = x.row in
      let a : library_at s fs p - 1 ≡ j = omega (arith, firsts_library s rows ps fs fi p ∙ (x.same ∙ x.first)) in
      let l = pl.library j x.inside x.kind in
      let offset : (row_at fs (library_at s fs p)).offset ≡ (get_or rows j blank).offset =
      ap (λ (i : ℕ). (get_or fs i blank).offset) a ∙ (firsts_word s rows ps fs fi (λ (r : Row). r.offset) (λ r y. refl) j ∙ ap (λ (r : Row). r.offset) l) in
      let end : (row_at fs (library_at s fs p)).end ≡ (get_or rows j blank).end =
      ap (λ (i : ℕ). (get_or fs i blank).end) a ∙ (firsts_word s rows ps fs fi (λ (r : Row). r.end) (λ r y. refl) j ∙ ap (λ (r : Row). r.end) l) in
      record {
        writes = λ g o e.
            library_is s st.bytes g (get_or rows j blank) (o ∙ offset) (e ∙ end)
            ∙ ap (λ (n : List ℕ). enc (library g.link (shortest n))) x.name;
      }

  pub fields_hold : ((i : ℕ) → i < length rows → (get_or rows i blank).kind ≡ 12 → (get_or rows i blank).slot ≡ 0) → Fields s rows fs
  fields_hold fresh =
      record {
        named = all_so (NamesLibrary s rows) (Named s rows fs) named_field (fields_from s 0 fs) (fields_name τ s rows ps fs st pl fi);
        limit = edge rows (length fs);
        small = let a = edge_small (length fs) (omega (arith, fi.size, pl.size)) in let b = st.small in omega arith;
        rising = rising_from (edge rows (length fs)) 0 (edge rows 0) (fields_from s 0 fs) (omega arith) rising;
        fresh = λ j h k.
            let l : j < length rows = omega (arith, fi.size, pl.size) in
            let kind : (get_or rows j blank).kind ≡ 12 = sym (first_kind τ s rows ps fs st pl fi j l) ∙ k in
            firsts_word s rows ps fs fi (λ (r : Row). r.slot) (λ r y. refl) j ∙ (ap (λ (r : Row). r.slot) (pl.library j l kind) ∙ fresh j l kind);
      }

  pub fields_spelled : All (Spelled s rows fs) (fields_from s 0 fs)
  fields_spelled = all_so (NamesLibrary s rows) (Spelled s rows fs) spelled_field (fields_from s 0 fs) (fields_name τ s rows ps fs st pl fi)
