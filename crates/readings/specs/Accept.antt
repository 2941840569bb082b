-- What the grammar allows, the machine accepts (01, What may stand where; Replies), with the rows of the reading, where the table has room for them.
use Prim.Native.Nat.{ℕ, zero, suc, ◌+◌, ◌-◌, ◌≤◌, ◌<◌}
use Rattle.std.specs.Prelude.{◌≡◌, get_or, drop}
use Rattle.std.proofs.Math.Path.{refl, sym, ap}
use Rattle.std.proofs.Common.{subst, ◌∙◌, arith, length-append, length-drop}
use Rattle.std.proofs.Math.Bool.{true, false}
use mathlib.Core.List.{List, [], ◌∷◌, ◌++◌, map, append-nil}
use Rattle.std.proofs.Math.ListN.{length}
use Rattle.std.proofs.lemmas.List.{length-map}
use Rattle.std.proofs.Math.Dec.{eqb}
use borrow.Author.Tests.{le-ltb, eq-eqb}
use Rattle.format.specs.Terms.{Terms}
use Rattle.format.specs.declared.PrimitiveCode.{PrimitiveCode}
use Rattle.format.specs.declared.SlotType.{SlotType}
use Rattle.format.specs.declared.SlotType.TheVariants as S
use Rattle.format.specs.declared.Typed.{Typed}
use Rattle.format.specs.declared.Head.{Head}
use Rattle.format.specs.declared.Row.{Row}
use Rattle.format.specs.declared.Frame.{Frame}
use Rattle.format.specs.Types.{moved}
use Rattle.format.specs.Rows.{blank, is_object, object_row, find_from, is_lost, linked}
use Rattle.format.specs.Records.{in_slot, is_class_kind}
use Rattle.format.specs.Contents.{Prefixed, Rec, header, string, typed_primitive, reference, null, nulls, many_nulls, end, library, value, enc, encs}
use Rattle.format.specs.Grammar.{Entry, another, a_library, Value, types_of, Cur, cur, size, row_of, Object, system_class_rule, library_class_rule, class_by_id_rule, Body, hollow, Slots, full, member_value, an_object_rule, a_string_rule, a_typed_primitive, a_reference_rule, a_null_rule, a_run, a_long_run, a_library_rule, Array, of_objects, of_strings, of_primitives, of_any, of_values, Objects, the_end, one_object, one_string, one_array, one_library, Reading, takes_records}
use Rattle.format.specs.Grammar as G
use Rattle.format.specs.Machine.{Open, State, Next, Outcome, accepted, go, ended, close, filled_by, filled, opened, row_in, value_head, step, finish, onward, run, start, begin, stream_of, raw_of, with_links, read_of}
use Rattle.links.specs.Links.{length_linked}
use Rattle.items.specs.Keeps.{value_moves}
use Rattle.laws.specs.Fields.{size_header}
use Rattle.laws.specs.Ids.{Shown, objects_shown, id_there}
use Rattle.laws.specs.Links.{rows_are}
use Rattle.places.specs.Env.{slots_from, env_from, entry_of, env_of, env_more}
use Rattle.places.specs.Stand.{Stand, stand_of, stand_rest}
use Rattle.places.specs.Recs.{Good, is_header, is_class_by_id, is_system_class, is_library_class, is_string, is_typed_primitive, is_reference, is_null_rule, is_end, is_library_rule, is_nulls_rule, is_many_nulls, is_array, entry_for, row_with}
use Rattle.places.specs.Read.{member_read}
use Rattle.books.specs.Books.{book_taken}
use Rattle.readings.specs.Rows.{bare, bare_more, first_id, linked_bare, row_bare, good_low, shown_bare, none_lost}
use Rattle.readings.specs.Frames.{open_at, still_open, shut, filled_is, left_slots, number_on, frame_of, spent, Nearest, next_slot, Passing, run_law, opened_is, takes_strings_lem, class_slot, class_top, allows, allows_any, allows_object, typed_primitive_slot, array_kinds, allows_top, top_kinds}
use Rattle.readings.specs.Steps.{state_at, Allows, Taken, record_taken, fills_one, is_run, value_goes, hollow_goes, object_goes, fills_goes, run_goes, library_goes, end_goes, top_filled, header_goes}

-- ---- what comes of a state

-- with any fuel that is enough, the machine comes to this, once links are put in
pub record Leads (τ : Terms) (s : List ℕ) (room : ℕ) (st : State) (v : Outcome) : Type 0 where
  pub ends : (k : ℕ) → length s ≤ st.at + k → with_links (run τ k s room st) ≡ v

module _ (τ : Terms) {s : List ℕ} {room : ℕ} {st : State} {v : Outcome} (i : st.at < length s) where
  last : {rows : List Row} {at : ℕ} → step τ s room st ≡ ended rows at → with_links (finish s rows at) ≡ v → Leads τ s room st v
  unfolding run
  last {rows} {at} e f = record { ends = goes }
    where
      goes : (k : ℕ) → length s ≤ st.at + k → with_links (run τ k s room st) ≡ v
      goes zero h = absurd (omega arith)
      goes (suc k) h = ap (λ (x : Next). with_links (onward s (run τ k s room) x)) e ∙ f

  next : {st' : State} → step τ s room st ≡ go st' → st.at < st'.at → Leads τ s room st' v → Leads τ s room st v
  unfolding run
  next {st'} e m w = record { ends = goes }
    where
      goes : (k : ℕ) → length s ≤ st.at + k → with_links (run τ k s room st) ≡ v
      goes zero h = absurd (omega arith)
      goes (suc k) h = ap (λ (x : Next). with_links (onward s (run τ k s room) x)) e ∙ w.ends k (omega arith)

-- ---- sizes that the grammar gives as numbers

size_null : size null ≡ 1
unfolding enc
size_null = refl

size_nulls : (k : ℕ) → size (nulls k) ≡ 2
unfolding enc
size_nulls k = refl

encs_first : (r : Rec) (rs : List Rec) → encs (r ∷ rs) ≡ enc r ++ encs rs
unfolding encs
encs_first r rs = refl

encs_last : (r : Rec) → encs (r ∷ []) ≡ enc r ++ []
unfolding encs
encs_last r = refl

array_entry : (τ : Terms) {es : List Entry} {k i n : ℕ} {r : Rec} {ts : List SlotType} (row : ℕ) → Array τ es r k i n ts → entry_for row r ≡ another i ∷ []
array_entry τ row (of_objects a) = refl
array_entry τ row (of_strings a) = refl
array_entry τ row (of_primitives a b) = refl
array_entry τ row (of_any a b c d e) = refl
array_entry τ row (of_values a b c) = refl

-- ---- from the grammar to the machine

-- final: all rows of the grammar; v: what the machine says after them
module _ (τ : Terms) (s : List ℕ) (room : ℕ) (final : List Row) (v : Outcome) (big : length final ≤ room) (whole : (rows : List Row) (at : ℕ) → final ≡ map bare rows → length s ≤ at → with_links (finish s rows at) ≡ v) where
  -- with these objects open, what stands at the cursor leads to v
  pub record Ok (o : Open) (at row : ℕ) (es : List Entry) (rs : List Rec) (is : List Row) : Type 0 where
    pub leads : (rows : List Row) → final ≡ map bare rows ++ is → length rows ≡ row → env_of τ.book s rows ≡ es → at ≤ length s → drop at s ≡ encs rs
        → Leads τ s room (state_at at rows o) v

  abbrev pub OkAt : Open → Cur → Type 0
  OkAt o (cur at row es rs is) = Ok o at row es rs is

  row_fits : (rows : List Row) (it : Row) (is : List Row) → final ≡ map bare rows ++ (it ∷ is) → length rows < room
  row_fits rows it is e =
      let n : length final ≡ length (map bare rows) + suc (length is) = ap length e ∙ length-append (map bare rows) (it ∷ is) in
      let m : length (map bare rows) ≡ length rows = length-map rows bare in
      omega arith

  rows_more : (rows : List Row) (it it' : Row) (is : List Row) → final ≡ map bare rows ++ (it ∷ is) → bare it' ≡ it
      → final ≡ map bare (rows ++ (it' ∷ [])) ++ is
  rows_more rows it it' is e q = e ∙ (ap (λ (x : Row). map bare rows ++ (x ∷ is)) (sym q) ∙ sym (bare_more rows it' is))

  length_more : (rows : List Row) (it : Row) (row : ℕ) → length rows ≡ row → length (rows ++ (it ∷ [])) ≡ suc row
  length_more rows it row l = length-append rows (it ∷ []) ∙ omega arith

  env_after : (rows : List Row) (it : Row) (row : ℕ) (es x es' : List Entry) → length rows ≡ row → env_of τ.book s rows ≡ es → entry_of τ.book s (suc row) it ≡ x → es ++ x ≡ es'
      → env_of τ.book s (rows ++ (it ∷ [])) ≡ es'
  env_after rows it row es x es' l k q f =
      env_more τ.book s rows it
      ∙ (ap (λ (n : ℕ). env_of τ.book s rows ++ entry_of τ.book s (suc n) it) l
      ∙ (ap (λ (y : List Entry). y ++ entry_of τ.book s (suc row) it) k
      ∙ (ap (λ (y : List Entry). es ++ y) q ∙ f)))

  -- one record taken; n is its size
  record_ok : {at row : ℕ} {es es' : List Entry} {r : Rec} {rs : List Rec} {it : Row} {is : List Row} (o : Open) (k id count class own slot n : ℕ) (ts : List SlotType)
      → Good τ es k r id count class ts → it ≡ row_of k at r id own slot class count → size r ≡ n → es ++ entry_for (suc row) r ≡ es'
      → ((rows : List Row) (w : Taken τ s rows at (at + size r) k r id count class ts) → length rows < room → length rows ≡ row
      → (o' : Open) × (step τ s room (state_at at rows o) ≡ go (state_at (at + size r) (rows ++ (row_with k w.head at w.head.end own slot ∷ [])) o'))
      × Ok o' (at + n) (suc row) es' rs is)
      → Ok o at row es (r ∷ rs) (it ∷ is)
  record_ok {at} {row} {es} {es'} {r} {rs} {it} {is} o k id count class own slot n ts g q z x f = record {
    leads = λ rows e l y h d.
        let b : drop at s ≡ enc r ++ encs rs = d ∙ encs_first r rs in
        let p = stand_of s (enc r) (encs rs) at h b in
        let w = record_taken τ s rows at (at + size r) k r id count class ts (subst (λ (u : List Entry). Good τ u k r id count class ts) (sym y) g) p in
        let a = f rows w (row_fits rows it is e) l in
        let i : Row = row_with k w.head at w.head.end own slot in
        let c = subst (λ (m : ℕ). Ok a.0 (at + m) (suc row) es' rs is) (sym z) a.2 in
        next τ w.told.inside a.1 w.onward
        (c.leads (rows ++ (i ∷ [])) (rows_more rows it i is e (row_bare w.told (good_low τ g) own slot ∙ sym q)) (length_more rows i row l)
        (env_after rows i row es (entry_for (suc row) r) es' l y (w.told.entry_is (suc row) at w.head.end own slot) x)
        p.room (stand_rest s (enc r) (encs rs) at h b));
  }

  -- the row of what fills the next slot
  own_row : {it : Row} {k at id class count own slot : ℕ} (r : Rec) (f : Frame) → f.owner ≡ own → f.count - f.left ≡ slot
      → it ≡ row_of k at r id own slot class count → it ≡ row_of k at r id f.owner (f.count - f.left) class count
  own_row {k = k} {at} {id} {class} {count} {own} {slot} r f a b q =
      q ∙ (ap (λ (x : ℕ). row_of k at r id x slot class count) (sym a) ∙ ap (λ (x : ℕ). row_of k at r id f.owner x class count) (sym b))

  -- ---- an object, whose slots have these types

  abbrev after_object : List SlotType → Open → ℕ → Head → Open
  after_object [] o row h = filled o 1 (moved τ.book s o.cur.typed)
  after_object (t ∷ ts) o row h = opened o row h (moved τ.book s o.cur.typed)

  object_step : (ts : List SlotType) (o : Open) (at e k : ℕ) (r : Rec) (id count class : ℕ) (rows : List Row) (w : Taken τ s rows at e k r id count class ts)
      → Allows o k → is_object k ≡ true → length rows < room → ((ts ≡ [] → ⊥) → length o.below < 64)
      → step τ s room (state_at at rows o) ≡ go (state_at e (rows ++ (row_in (state_at at rows o) k w.head ∷ [])) (after_object ts o (length rows + 1) w.head))
  object_step [] o at e k r id count class rows w a i h d = hollow_goes τ s room at rows o e k r id count class [] w a i h refl
  object_step (t ∷ ts) o at e k r id count class rows w a i h d = object_goes τ s room at rows o e k r id count class (t ∷ ts) w a i h some (d some)
    where
      some : t ∷ ts ≡ [] → ⊥
      some z = let y : suc (length ts) ≡ 0 = ap length z in omega arith

  object_lead : {at row : ℕ} {es es' : List Entry} {r : Rec} {rs : List Rec} {it : Row} {is : List Row} (o : Open) (k id count class own slot : ℕ) (ts : List SlotType)
      → Good τ es k r id count class ts → is_object k ≡ true → Allows o k → o.cur.owner ≡ own → o.cur.count - o.cur.left ≡ slot
      → it ≡ row_of k at r id own slot class count → es ++ entry_for (suc row) r ≡ es' → ((ts ≡ [] → ⊥) → length o.below < 64)
      → ((h : Head) → slots_from τ.book s h.first h.slots ≡ ts → Ok (after_object ts o (suc row) h) (at + size r) (suc row) es' rs is)
      → Ok o at row es (r ∷ rs) (it ∷ is)
  object_lead {at} {row} {r = r} o k id count class own slot ts g i a x y q z d f =
      record_ok o k id count class o.cur.owner (o.cur.count - o.cur.left) (size r) ts g (own_row r o.cur x y q) refl z (λ rows w h l.
      let m : length rows + 1 ≡ suc row = omega arith in (
        after_object ts o (suc row) w.head,
        object_step ts o at (at + size r) k r id count class rows w a i h d
            ∙ ap (λ (n : ℕ). go (state_at (at + size r) (rows ++ (row_in (state_at at rows o) k w.head ∷ [])) (after_object ts o n w.head))) m,
        f w.head w.told.slots_are,
      ))

  body_room : {rm row : ℕ} {ts : List SlotType} {c c₁ : Cur} → Body τ rm row ts c c₁ → (d : ℕ) → rm + d ≡ 64 → (ts ≡ [] → ⊥) → d < 64
  body_room hollow d e n = absurd (n refl)
  body_room (G.filled b) d e n = omega arith

  -- ---- a record that fills m slots and opens none

  slot_ok : {at row : ℕ} {es es' : List Entry} {r : Rec} {rs : List Rec} {it : Row} {is : List Row} (f g : Frame) (gs : List Frame) (k id count class own slot n m : ℕ) (u : Typed)
      → 0 < f.left → Good τ es k r id count class [] → f.owner ≡ own → f.count ≡ slot + f.left → it ≡ row_of k at r id own slot class count → size r ≡ n
      → es ++ entry_for (suc row) r ≡ es'
      → ((rows : List Row) (w : Taken τ s rows at (at + size r) k r id count class []) → length rows < room
      → step τ s room (state_at at rows (open_at f (g ∷ gs)))
      ≡ go (state_at (at + size r) (rows ++ (row_in (state_at at rows (open_at f (g ∷ gs))) k w.head ∷ [])) (filled (open_at f (g ∷ gs)) m u)))
      → Ok (close (filled_by f m u) (g ∷ gs)) (at + n) (suc row) es' rs is → Ok (close f (g ∷ gs)) at row es (r ∷ rs) (it ∷ is)
  slot_ok {at} {row} {es} {es'} {r} {rs} {it} {is} f g gs k id count class own slot n m u p w x y q z e st c =
      subst (λ (o : Open). Ok o at row es (r ∷ rs) (it ∷ is)) (sym (still_open f g gs p))
      (record_ok (open_at f (g ∷ gs)) k id count class f.owner (f.count - f.left) n [] w (own_row r f x (omega arith) q) z e (λ rows v h l. (
        filled (open_at f (g ∷ gs)) m u,
        st rows v h,
        subst (λ (o : Open). Ok o (at + n) (suc row) es' rs is) (sym (filled_is (open_at f (g ∷ gs)) m u)) c,
      )))

  -- a library fills no slot
  library_ok : {at row i : ℕ} {n : Prefixed} {es : List Entry} {rs : List Rec} {it : Row} {is : List Row} (o : Open)
      → Good τ es 12 (library i n) i 0 0 [] → Allows o 12 → it ≡ row_of 12 at (library i n) i 0 0 0 0
      → Ok o (at + size (library i n)) (suc row) (es ++ (a_library i ∷ [])) rs is → Ok o at row es (library i n ∷ rs) (it ∷ is)
  library_ok {at} {i = i} {n = n} o g a q c =
      record_ok o 12 i 0 0 0 0 (size (library i n)) [] g q refl refl (λ rows w h l.
      (o, library_goes τ s room at rows o (at + size (library i n)) 12 (library i n) i 0 0 [] w a refl h, c))

  -- a member value
  value_ok : {at row : ℕ} {es : List Entry} {v : Prefixed} {rs : List Rec} {it : Row} {is : List Row} (f g : Frame) (gs : List Frame) (b : PrimitiveCode) (own slot : ℕ)
      → 0 < f.left → f.typed.slot ≡ S.Primitive b → Value τ b v → f.owner ≡ own → f.count ≡ slot + f.left → it ≡ row_of 32 at (value b v) 0 own slot 0 0
      → Ok (close (filled_by f 1 (moved τ.book s f.typed)) (g ∷ gs)) (at + size (value b v)) (suc row) es rs is → Ok (close f (g ∷ gs)) at row es (value b v ∷ rs) (it ∷ is)
  value_ok {at} {row} {es} {v} {rs} {it} {is} f g gs b own slot p t w x y q c =
      subst (λ (o : Open). Ok o at row es (value b v ∷ rs) (it ∷ is)) (sym (still_open f g gs p)) (record {
        leads = λ rows e l k h d.
            let o : Open = open_at f (g ∷ gs) in
            let n : ℕ = at + size (value b v) in
            let z : drop at s ≡ enc (value b v) ++ encs rs = d ∙ encs_first (value b v) rs in
            let stand : Stand s (enc (value b v)) at n = stand_of s (enc (value b v)) (encs rs) at h z in
            let i : Row = row_in (state_at at rows o) 32 (value_head b n) in
            let m = value_moves τ.setting s b at n (member_read τ s b v at n w stand) in
            let u : f.count - f.left ≡ slot = omega arith in
            let a : Ok (filled o 1 (moved τ.book s f.typed)) n (suc row) es rs is =
            subst (λ (o : Open). Ok o n (suc row) es rs is) (sym (filled_is o 1 (moved τ.book s f.typed))) c in
            next τ (omega (arith, m.0, m.1)) (value_goes τ s room at rows o b v n t w stand (row_fits rows it is e)) m.0
            (a.leads (rows ++ (i ∷ [])) (rows_more rows it i is e (sym (own_row (value b v) f x u q))) (length_more rows i row l)
            (env_after rows i row es [] es l k refl (append-nil es)) m.1 (stand_rest s (enc (value b v)) (encs rs) at h z));
      })

  -- a null run fills as many slots as it counts
  run_ok : {at row : ℕ} {es : List Entry} {r : Rec} {rs : List Rec} {it : Row} {is : List Row} (f g : Frame) (gs : List Frame) (k count own slot n : ℕ) (us : List SlotType)
      (t : SlotType) (ts : List SlotType) (w : Passing τ.book s f count us) → Nearest τ.book s f t ts → takes_records t ≡ true → Good τ es k r 0 count 0 [] → in_slot k ≡ true → is_run k ≡ true
      → f.owner ≡ own → f.count ≡ slot + f.left → it ≡ row_of k at r 0 own slot 0 count → size r ≡ n → entry_for (suc row) r ≡ []
      → Ok (close (filled_by f count w.type) (g ∷ gs)) (at + n) (suc row) es rs is → Ok (close f (g ∷ gs)) at row es (r ∷ rs) (it ∷ is)
  run_ok {at} {row} {es} {r} f g gs k count own slot n us t ts w y p a i j x z q l b c =
      slot_ok f g gs k 0 count 0 own slot n count w.type y.some a x z q l (ap (λ (m : List Entry). es ++ m) b ∙ append-nil es)
      (λ rows v h. run_goes τ s room at rows (open_at f (g ∷ gs)) (at + size r) k r 0 count 0 [] v (allows_any f g gs t k y.slot_is p i) j h w.fits w.type w.over) c

  -- a typed primitive, a reference or a null fills one
  one_ok : {at row : ℕ} {es : List Entry} {r : Rec} {rs : List Rec} {it : Row} {is : List Row} (f g : Frame) (gs : List Frame) (k id count own slot n : ℕ)
      → 0 < f.left → Allows (open_at f (g ∷ gs)) k → Good τ es k r id count 0 [] → fills_one k ≡ true
      → f.owner ≡ own → f.count ≡ slot + f.left → it ≡ row_of k at r id own slot 0 count → size r ≡ n → entry_for (suc row) r ≡ []
      → Ok (close (spent τ.book s f) (g ∷ gs)) (at + n) (suc row) es rs is → Ok (close f (g ∷ gs)) at row es (r ∷ rs) (it ∷ is)
  one_ok {at} {row} {es} {r} f g gs k id count own slot n y w a i x z q l b c =
      slot_ok f g gs k id count 0 own slot n 1 (moved τ.book s f.typed) y a x z q l (ap (λ (m : List Entry). es ++ m) b ∙ append-nil es)
      (λ rows v h. fills_goes τ s room at rows (open_at f (g ∷ gs)) (at + size r) k r id count 0 [] v w i h) c

  mutual
    object_ok : {rm own slot : ℕ} {c c₁ : Cur} → Object τ rm own slot c c₁ → (o : Open) → ((k : ℕ) → is_class_kind k ≡ true → Allows o k) → o.cur.owner ≡ own
        → o.cur.count - o.cur.left ≡ slot → rm + length o.below ≡ 64 → OkAt (filled o 1 (moved τ.book s o.cur.typed)) c₁ → OkAt o c
    object_ok (system_class_rule {own = own} {slot = slot} {i = i} {ms = ms} a b q d) o al x y rm k =
        object_lead o 4 i (length ms) 0 own slot (types_of ms) (is_system_class a b) refl (al 4 refl) x y q refl (body_room d (length o.below) rm)
        (λ h w. body_ok d o h w rm k)
    object_ok (library_class_rule {own = own} {slot = slot} {i = i} {ms = ms} a b l q d) o al x y rm k =
        object_lead o 5 i (length ms) 0 own slot (types_of ms) (is_library_class a b l) refl (al 5 refl) x y q refl (body_room d (length o.below) rm)
        (λ h w. body_ok d o h w rm k)
    object_ok (class_by_id_rule {own = own} {slot = slot} {i = i} {r = r} {ts = ts} a b e q d) o al x y rm k =
        object_lead o 1 i (length ts) r own slot ts (is_class_by_id a b e) refl (al 1 refl) x y q refl (body_room d (length o.below) rm)
        (λ h w. body_ok d o h w rm k)

    body_ok : {rm row : ℕ} {ts : List SlotType} {c c₁ : Cur} → Body τ rm row ts c c₁ → (o : Open) (h : Head) → slots_from τ.book s h.first h.slots ≡ ts
        → rm + length o.below ≡ 64 → OkAt (filled o 1 (moved τ.book s o.cur.typed)) c₁ → OkAt (after_object ts o row h) c
    body_ok hollow o h w rm k = k
    body_ok (G.filled {row = row} {t = t} {ts = ts} {c = c} {c₁ = c₁} d) o h w rm k =
        subst (λ (x : Open). OkAt x c) (opened_is τ.book s o row h (moved τ.book s o.cur.typed) t ts w)
        (slots_ok d (frame_of row h) (spent τ.book s o.cur) o.below refl (omega arith) w (omega arith)
        (subst (λ (x : Open). OkAt x c₁) (filled_is o 1 (moved τ.book s o.cur.typed)) k))

    slots_ok : {rm own slot : ℕ} {ts : List SlotType} {c c₁ : Cur} → Slots τ rm own slot ts c c₁ → (f g : Frame) (gs : List Frame) → f.owner ≡ own
        → f.count ≡ slot + f.left → slots_from τ.book s f.typed f.left ≡ ts → rm + suc (length gs) ≡ 64 → OkAt (close g gs) c₁ → OkAt (close f (g ∷ gs)) c
    slots_ok (full {c = c}) f g gs x y e rm k = subst (λ (o : Open). OkAt o c) (sym (shut f g gs (left_slots τ.book s f [] e))) k
    slots_ok (member_value {own = own} {slot = slot} {b = b} {ts = ts} v q d) f g gs x y e rm k =
        let w = next_slot τ.book s f (S.Primitive b) ts e in
        value_ok f g gs b own slot w.some w.slot_is v x y q (slots_ok d (spent τ.book s f) g gs x (number_on f slot 1 w.some y) w.rest rm k)
    slots_ok (an_object_rule {slot = slot} {t = t} {ts = ts} {c = c} {c₁ = c₁} a b d) f g gs x y e rm k =
        let w = next_slot τ.book s f t ts e in
        subst (λ (o : Open). OkAt o c) (sym (still_open f g gs w.some))
        (object_ok b (open_at f (g ∷ gs)) (λ j i. allows_object f g gs t j w.slot_is a (class_slot j i)) x (omega arith) rm
        (subst (λ (o : Open). OkAt o c₁) (sym (filled_is (open_at f (g ∷ gs)) 1 (moved τ.book s f.typed)))
        (slots_ok d (spent τ.book s f) g gs x (number_on f slot 1 w.some y) w.rest rm k)))
    slots_ok (a_string_rule {own = own} {slot = slot} {at = at} {i = i} {x = n} {t = t} {ts = ts} a b l q d) f g gs x y e rm k =
        let w = next_slot τ.book s f t ts e in
        let z = takes_strings_lem t a in
        slot_ok f g gs 6 i 0 0 own slot (size (string i n)) 1 (moved τ.book s f.typed) w.some (is_string b l) x y q refl refl
        (λ rows v h. hollow_goes τ s room at rows (open_at f (g ∷ gs)) (at + size (string i n)) 6 (string i n) i 0 0 [] v (allows f g gs t 6 w.slot_is z.0 z.1) refl h refl)
        (slots_ok d (spent τ.book s f) g gs x (number_on f slot 1 w.some y) w.rest rm k)
    slots_ok (a_typed_primitive {own = own} {slot = slot} {b = b} {v = v} {t = t} {ts = ts} a l q d) f g gs x y e rm k =
        let w = next_slot τ.book s f t ts e in
        one_ok f g gs 8 0 0 own slot (size (typed_primitive b v)) w.some (allows_object f g gs t 8 w.slot_is a typed_primitive_slot) (is_typed_primitive l) refl x y q refl refl
        (slots_ok d (spent τ.book s f) g gs x (number_on f slot 1 w.some y) w.rest rm k)
    slots_ok (a_reference_rule {own = own} {slot = slot} {i = i} {t = t} {ts = ts} a l q d) f g gs x y e rm k =
        let w = next_slot τ.book s f t ts e in
        one_ok f g gs 9 i 0 own slot (size (reference i)) w.some (allows_any f g gs t 9 w.slot_is a refl) (is_reference l) refl x y q refl refl
        (slots_ok d (spent τ.book s f) g gs x (number_on f slot 1 w.some y) w.rest rm k)
    slots_ok (a_null_rule {own = own} {slot = slot} {t = t} {ts = ts} a q d) f g gs x y e rm k =
        let w = next_slot τ.book s f t ts e in
        one_ok f g gs 10 0 1 own slot 1 w.some (allows_any f g gs t 10 w.slot_is a refl) is_null_rule refl x y q size_null refl
        (slots_ok d (spent τ.book s f) g gs x (number_on f slot 1 w.some y) w.rest rm k)
    slots_ok (a_run {own = own} {slot = slot} {k = n} {t = t} {ts = ts} {us = us} a l h p u q d) f g gs x y e rm k =
        let w = run_law τ.book s f n (t ∷ ts) us e h p u in
        run_ok f g gs 13 n own slot 2 us t ts w (next_slot τ.book s f t ts e) a (is_nulls_rule l) refl refl x y q (size_nulls n) refl
        (slots_ok d (filled_by f n w.type) g gs x (number_on f slot n w.fits y) w.rest rm k)
    slots_ok (a_long_run {own = own} {slot = slot} {k = n} {t = t} {ts = ts} {us = us} a l h p u q d) f g gs x y e rm k =
        let w = run_law τ.book s f n (t ∷ ts) us e h p u in
        run_ok f g gs 14 n own slot (size (many_nulls n)) us t ts w (next_slot τ.book s f t ts e) a (is_many_nulls l) refl refl x y q refl refl
        (slots_ok d (filled_by f n w.type) g gs x (number_on f slot n w.fits y) w.rest rm k)
    slots_ok (a_library_rule {at = at} {row = row} {i = i} {n = n} {t = t} {ts = ts} {es = es} {rs = rs} {it = it} {is = is} a l h p q d) f g gs x y e rm k =
        let w = next_slot τ.book s f t ts e in
        subst (λ (o : Open). Ok o at row es (library i n ∷ rs) (it ∷ is)) (sym (still_open f g gs w.some))
        (library_ok (open_at f (g ∷ gs)) (is_library_rule l h p) (allows_any f g gs t 12 w.slot_is a refl) q
        (subst (λ (o : Open). Ok o (at + size (library i n)) (suc row) (es ++ (a_library i ∷ [])) rs is) (still_open f g gs w.some) (slots_ok d f g gs x y e rm k)))

  -- ---- the top level

  -- nothing stands after the end record
  nothing_after : (at : ℕ) → drop at s ≡ [] → length s ≤ at
  nothing_after at e =
      let n : length s - at ≡ 0 = sym (length-drop at s) ∙ ap length e in
      omega arith

  end_ok : {at row : ℕ} {es : List Entry} {it : Row} → it ≡ row_of 11 at end 0 0 0 0 0 → Ok start.stack at row es (end ∷ []) (it ∷ [])
  end_ok {at} {row} {es} {it} q = record {
    leads = λ rows e l y h d.
        let b : drop at s ≡ enc end ++ [] = d ∙ encs_last end in
        let w = record_taken τ s rows at (at + size end) 11 end 0 0 0 [] (is_end) (stand_of s (enc end) [] at h b) in
        let i : Row = row_in (state_at at rows start.stack) 11 w.head in
        last τ w.told.inside (end_goes τ s room at rows start.stack (at + size end) 11 end 0 0 0 [] w (allows_top 11 top_kinds.1) refl (row_fits rows it [] e))
        (whole (rows ++ (i ∷ [])) (at + size end) (rows_more rows it i [] e (row_bare w.told refl 0 0 ∙ sym q) ∙ append-nil (map bare (rows ++ (i ∷ []))))
        (nothing_after (at + size end) (stand_rest s (enc end) [] at h b)));
  }

  pub objects_ok : {c : Cur} → Objects τ c → OkAt start.stack c
  objects_ok (the_end q) = end_ok q
  objects_ok (one_object {c₁ = c₁} a d) =
      object_ok a start.stack (λ k e. allows_top k (class_top k e)) refl refl (omega arith) (subst (λ (o : Open). OkAt o c₁) (sym (top_filled τ.book s)) (objects_ok d))
  objects_ok (one_string {at = at} {row = row} {i = i} {x = x} {es = es} {rs = rs} {is = is} a b q d) =
      object_lead start.stack 6 i 0 0 0 0 [] (is_string a b) refl (allows_top 6 top_kinds.0) refl refl q refl (λ n. absurd (n refl))
      (λ h w. subst (λ (o : Open). Ok o (at + size (string i x)) (suc row) (es ++ (another i ∷ [])) rs is) (sym (top_filled τ.book s)) (objects_ok d))
  objects_ok (one_array {row = row} {kind = kind} {i = i} {n = n} {ts = ts} {es = es} {c = c} a b q d e) =
      let w = array_kinds τ b in
      object_lead start.stack kind i n 0 0 0 ts (is_array a b) w.0 (allows_top kind w.1) refl refl q (ap (λ (x : List Entry). es ++ x) (array_entry τ (suc row) b))
      (body_room d 0 (omega arith))
      (λ h z. body_ok d start.stack h z (omega arith) (subst (λ (o : Open). OkAt o c) (sym (top_filled τ.book s)) (objects_ok e)))
  objects_ok (one_library a b n q d) = library_ok start.stack (is_library_rule a b n) (allows_top 12 top_kinds.2) q (objects_ok d)

-- ---- the whole stream

module _ (τ : Terms) {s : List ℕ} {rows : List Row} (w : Reading τ s rows) where
  abbrev head_row : Row
  head_row = row_of 0 0 (header w.root w.header_id) w.root 0 0 0 0

  shown : (raw : List Row) → head_row ∷ w.is ≡ map bare raw → Shown w.rs raw
  shown raw e =
      let x = objects_shown τ w.objects_are in
      shown_bare w.rs raw (subst (λ (l : List Row). Shown w.rs l) e (record { ids = x.ids; refs = x.refs }))

  -- what is judged after the end record
  finishes : (raw : List Row) (at : ℕ) → head_row ∷ w.is ≡ map bare raw → length s ≤ at → with_links (finish s raw at) ≡ accepted rows
  unfolding finish
  finishes raw at e h =
      let x = shown raw e in
      let i : (get_or raw 0 blank).id ≡ w.root = first_id raw head_row w.is (sym e) in
      let r : eqb (object_row (get_or raw 0 blank).id raw) 0 ≡ false = ap (λ (j : ℕ). eqb (object_row j raw) 0) i ∙ id_there w.rs raw x w.root w.rooted in
      let t : eqb (find_from (is_lost raw) 0 raw) 0 ≡ true = eq-eqb (find_from (is_lost raw) 0 raw) 0 (none_lost w.rs raw x w.targets) in
      rw (le-ltb at (length s) h, r, t) (ap accepted (sym (linked_bare raw) ∙ (ap linked (sym e) ∙ sym (rows_are τ w))))

  roomy : (room : ℕ) → length rows ≤ room → length (head_row ∷ w.is) ≤ room
  roomy room h =
      let n : length rows ≡ length (head_row ∷ w.is) = ap length (rows_are τ w) ∙ length_linked (head_row ∷ w.is) in
      omega arith

  module _ (room : ℕ) (h : length rows ≤ room) where
    head_stand : Stand s (enc (header w.root w.header_id)) 0 17
    head_stand =
        subst (λ (n : ℕ). Stand s (enc (header w.root w.header_id)) 0 n) (omega (arith, size_header w.root w.header_id))
        (stand_of s (enc (header w.root w.header_id)) (encs w.rs) 0 (omega arith) w.bytes_are)

    first_taken : Taken τ s [] 0 17 0 (header w.root w.header_id) w.root 0 0 []
    first_taken = record_taken τ s [] 0 17 0 (header w.root w.header_id) w.root 0 0 [] (is_header w.root_bits w.header_bits) head_stand

    runs : (row : Row) → bare row ≡ head_row → env_of τ.book s (row ∷ []) ≡ [] → Leads τ s room (state_at 17 (row ∷ []) start.stack) (accepted rows)
    runs row e k =
        let p : 17 ≤ length s = head_stand.room in
        let d : drop 17 s ≡ encs w.rs = rw (size_header w.root w.header_id) at (stand_rest s (enc (header w.root w.header_id)) (encs w.rs) 0 (omega arith) w.bytes_are) in
        (objects_ok τ s room (head_row ∷ w.is) (accepted rows) (roomy room h) finishes w.objects_are).leads (row ∷ [])
        (ap (λ (x : Row). x ∷ w.is) (sym e)) refl k p d

    pub accepts : read_of τ s room ≡ accepted rows
    unfolding read_of raw_of stream_of env_from
    accepts =
        let x = first_taken in
        let n = roomy room h in
        let row : Row = row_in start 0 x.head in
        let e : env_of τ.book s (row ∷ []) ≡ [] = append-nil (entry_of τ.book s 1 row) ∙ x.told.entry_is 1 0 x.head.end 0 0 in
        let g = runs row (row_bare x.told refl 0 0) e in
        rw (le-ltb 16777216 (length s) w.small, book_taken τ.book w.classes w.book_is)
        (ap (λ (x : Next). with_links (begin τ s room x)) (header_goes τ s room 17 (header w.root w.header_id) w.root 0 0 [] x (omega arith)) ∙ g.ends (length s) (omega arith))
