-- What the machine accepts, the grammar allows (01, What may stand where; The table; Replies): the rows of a stream that is accepted show a reading
-- of it, and fit the table.
use Prim.Native.Nat.{ℕ, zero, suc, ◌+◌, ◌-◌, ◌≤◌}
use Rattle.std.specs.Prelude.{◌≡◌, false, get_or, ltb, Result, Ok, Err}
use Rattle.std.proofs.Math.Path.{refl, ap, subst}
use Rattle.std.proofs.Common.{sym, ◌∙◌}
use Rattle.std.proofs.Math.Bool.{true}
use mathlib.Core.List.{List, [], ◌∷◌, ◌++◌, map}
use native.Mathlib.Omega.{arith}
use Rattle.std.proofs.Math.ListN.{length}
use Rattle.std.proofs.Math.Dec.{eqb}
use borrow.Author.Tests.{ltb-false, eqb-true}
use Rattle.format.specs.Terms.{Terms}
use Rattle.format.specs.declared.Refusal.{Refusal}
use Rattle.format.specs.declared.Refusal.TheVariants as R
use Rattle.format.specs.declared.SlotType.{SlotType}
use Rattle.format.specs.declared.Where.TheVariants as W
use Rattle.format.specs.declared.Head.{Head}
use Rattle.format.specs.declared.Row.{Row}
use Rattle.format.specs.declared.Frame.{Frame}
use Rattle.format.specs.Rows.{blank, object_row, find_from, is_lost, linked}
use Rattle.format.specs.Records.{allowed, kind_at, heading_at}
use Rattle.format.specs.Contents.{Rec, header, enc, Class}
use Rattle.format.specs.Entries.{bad_entry}
use Rattle.format.specs.Grammar.{Book, Reading, Entry, cur, row_of, Objects, Links, ids_of, refs_of, among}
use Rattle.format.specs.Machine.{State, Next, go, ended, refuse, close, filled, add, act, on_kind, record_step, top_level, step, Outcome, accepted, refused, finish, onward, run, start, begin, stream_of, raw_of, with_links, read_of}
use Rattle.fields.specs.Judged.{picked}
use Rattle.num.specs.Le.{Bytes}
use Rattle.links.specs.Links.{length_linked}
use Rattle.laws.specs.Tests.{apart}
use Rattle.laws.specs.Fields.{size_header}
use Rattle.laws.specs.Ids.{shown_more, objects_shown, id_back}
use Rattle.laws.specs.Links.{linked_links}
use Rattle.kinds.specs.Kinds.{kind_byte}
use Rattle.places.specs.Env.{env_from}
use Rattle.places.specs.Recs.{Good, is_header, Told, Back, row_with, told_env, told_end}
use Rattle.places.specs.Tell.{record_told}
use Rattle.books.specs.Books.{book_judged}
use Rattle.readings.specs.Steps.{state_at}
use Rattle.readings.specs.Frames.{open_at}
use Rattle.readings.specs.Rows.{bare, row_bare, linked_bare, shown_bare, targets_back}
use Rattle.readings.specs.Shape.{based_spent}
use Rattle.readings.specs.Goal.{Goal, same_cur}
use Rattle.readings.specs.Said.{Between, NextSaid}
use Rattle.readings.specs.StepSaid.{step_said}

-- ---- after the end record

-- what an acceptance says of the rows as they are read
pub record Finished (rows final : List Row) : Type 0 where
  pub root : eqb (object_row (get_or final 0 blank).id final) 0 ≡ false
  pub targets : find_from (is_lost final) 0 final ≡ 0
  pub same : rows ≡ final

no_accept : {A : Type 0} (r : Refusal) (place : ℕ) (rows : List Row) → refused r place ≡ accepted rows → A
no_accept r place rows e = absurd (let z : ◌≡◌ {A = ℕ} 0 1 = cc in omega arith)

finish_said : (s : List ℕ) (rows final : List Row) (at : ℕ) → finish s final at ≡ accepted rows → (length s ≤ at) × Finished rows final
unfolding finish
finish_said s rows final at =
    let P : Outcome → Type 0 = λ (x : Outcome). x ≡ accepted rows → (length s ≤ at) × Finished rows final in
    picked P (ltb at (length s)) (λ t e. no_accept R.Trailing at rows e)
    (λ t. picked P (eqb (object_row (get_or final 0 blank).id final) 0) (λ u e. no_accept R.NoRoot 0 rows e)
    (λ u. picked P (eqb (find_from (is_lost final) 0 final) 0)
    (λ v e. (ltb-false at (length s) t, record { root = u; targets = eqb-true (find_from (is_lost final) 0 final) 0 v; same = cc }))
    (λ v e. no_accept R.NoObject (get_or final (find_from (is_lost final) 0 final - 1) blank).offset rows e)))

-- ---- the steps

-- the rows that come in the end
pub record Comes (τ : Terms) (s : List ℕ) (room : ℕ) (st : State) (rows : List Row) : Type 0 where
  pub final : List Row
  pub goal : Goal τ s st final
  pub roomy : length final ≤ room
  pub finished : Finished rows final

module _ (τ : Terms) (s : List ℕ) (byte : Bytes s) (room : ℕ) (rows : List Row) where
  -- after a step
  next_comes : (f : State → Outcome) → ((st : State) → Between st → f st ≡ accepted rows → Comes τ s room st rows)
      → (st : State) (x : Next) → NextSaid τ room s st x → onward s f x ≡ accepted rows → Comes τ s room st rows
  next_comes f again st (go st') w e =
      let c = again st' w.0 e in
      record { final = c.final; goal = w.1 c.final c.goal; roomy = c.roomy; finished = c.finished }
  next_comes f again st (ended final end) w e =
      let x = finish_said s rows final end e in
      record { final = final; goal = w.0 x.0; roomy = w.1; finished = x.1 }
  next_comes f again st (refuse r place) w e = no_accept r place rows e

  run_comes : (k : ℕ) (st : State) → Between st → run τ k s room st ≡ accepted rows → Comes τ s room st rows
  unfolding run
  run_comes zero st b e = no_accept R.CutShort st.at rows e
  run_comes (suc k) st b e = next_comes (run τ k s room) (run_comes k) st (step τ s room st) (step_said τ s byte room st b) e

  -- ---- the header

  -- the state after a header with these fields
  abbrev headed : Head → State
  headed h = state_at h.end (row_with 0 h 0 h.end 0 0 ∷ []) (open_at top_level [])

  record Began : Type 0 where
    head : Head
    back : Back τ s [] 0 0 head
    ran : run τ (length s) s room (headed head) ≡ accepted rows

  abbrev Begins : Next → Type 0
  Begins x = begin τ s room x ≡ accepted rows → Began

  header_good : (h : Head) → Back τ s [] 0 0 h → Begins (act τ.book s room start 0 (Ok h))
  unfolding act add filled close
  header_good h d =
      picked Begins (ltb 0 room)
      (λ t e. record {
        head = h;
        back = d;
        ran = subst (λ (f : Frame). run τ (length s) s room (state_at h.end (row_with 0 h 0 h.end 0 0 ∷ []) (open_at f [])) ≡ accepted rows) (based_spent τ.book s top_level [] refl) e;
      })
      (λ t e. no_accept R.NoRoom 0 rows e)

  header_heading : kind_at s W.Start 0 ≡ Ok 0 → (x : Result Head Refusal) → heading_at τ s [] 0 0 ≡ x → Begins (act τ.book s room start 0 x)
  unfolding act
  header_heading q (Ok h) e = header_good h (record_told τ s [] W.Start 0 0 h byte q e)
  header_heading q (Err r) e = λ z. no_accept r 0 rows z

  header_kind : (x : Result ℕ Refusal) → kind_at s W.Start 0 ≡ x → Begins (on_kind τ s room start x)
  unfolding allowed
  header_kind (Ok k) q =
      let z : k ≡ 0 = eqb-true k 0 (kind_byte s W.Start 0 k q).fits in
      subst (λ (k : ℕ). kind_at s W.Start 0 ≡ Ok k → Begins (on_kind τ s room start (Ok k))) (sym z) (λ q. header_heading q (heading_at τ s [] 0 0) refl) q
  header_kind (Err r) q = λ z. no_accept r 0 rows z

  header_began : Begins (record_step τ s room start W.Start)
  unfolding record_step
  header_began = header_kind (kind_at s W.Start 0) refl

  -- ---- the whole stream

  reading_of : (cs : List Class) → Book τ.book cs → length s ≤ 16777216 → (h : Head) {es : List Entry} {id count class : ℕ} {r : Rec} {ts : List SlotType} → Good τ es 0 r id count class ts
      → Told τ.book s 0 0 h r id count class ts → Comes τ s room (headed h) rows → Reading τ s (linked rows) × (length (linked rows) ≤ room)
  unfolding env_from
  reading_of cs book small h (is_header {root = root} {h = other} x y) t c =
      let g = c.goal in
      let row = row_with 0 h 0 h.end 0 0 in
      let first : bare row ≡ row_of 0 0 (header root other) root 0 0 0 0 = row_bare t refl 0 0 in
      let end : h.end ≡ 17 = told_end t ∙ (ap (λ (n : ℕ). 0 + n) (size_header root other)) in
      let objects : Objects τ (cur 17 1 [] g.rs (map bare g.later)) = subst (Objects τ) (same_cur end refl (told_env t [] 0 h.end 0 0)) g.rest in
      let here = shown_more (bare row) (header root other) 0 0 root 0 0 0 0 first refl refl (objects_shown τ objects) in
      let shown = shown_bare (header root other ∷ g.rs) (row ∷ g.later) here in
      let f : Finished rows (row ∷ g.later) = subst (Finished rows) g.rows_are c.finished in
      let n : length (linked rows) ≡ length c.final = length_linked rows ∙ ap length c.finished.same in
      let bared : List Row = row_of 0 0 (header root other) root 0 0 0 0 ∷ map bare g.later in
      let same : linked rows ≡ linked bared = ap linked f.same ∙ (sym (linked_bare (row ∷ g.later)) ∙ ap (λ (x : Row). linked (x ∷ map bare g.later)) first) in
      let rooted : among root (ids_of g.rs) ≡ true =
      id_back (header root other ∷ g.rs) (row ∷ g.later) shown root (subst (λ (i : ℕ). eqb (object_row i (row ∷ g.later)) 0 ≡ false) t.id_is f.root) in
      let targets : (i : ℕ) → among i (refs_of g.rs) ≡ true → among i (ids_of g.rs) ≡ true =
      λ i m. targets_back (header root other ∷ g.rs) (row ∷ g.later) shown f.targets i m in
      let l = c.roomy in (
        record {
          classes = cs;
          book_is = book;
          root = root;
          header_id = other;
          rs = g.rs;
          is = map bare g.later;
          root_bits = x;
          header_bits = y;
          bytes_are = t.stands.bytes ∙ ap (λ (b : List ℕ). enc (header root other) ++ b) g.bytes_are;
          small = small;
          objects_are = objects;
          rooted = rooted;
          targets = targets;
          links_are = subst (Links (header root other ∷ g.rs) bared) (sym same) (linked_links τ root other g.rs (map bare g.later) objects rooted targets);
        },
        omega arith,
      )
  reading_of cs book small h {es = es} {id = id} {count = count} {r = r} {ts = ts} (Rattle.places.specs.Recs.is_array _ x16) t c = elim x16 [ ]

  begun : (h : Head) → Between (headed h)
  begun h = record { later = (λ t. apart t, tt); shaped = record { tight = tt; based = refl } }

-- a stream that is accepted has a reading with these rows, and they fit the table
raw_reading : (τ : Terms) (s : List ℕ) → Bytes τ.book → Bytes s → (room : ℕ) (raw : List Row) → raw_of τ s room ≡ accepted raw → Reading τ s (linked raw) × (length (linked raw) ≤ room)
unfolding raw_of stream_of
raw_reading τ s booked byte room raw =
    let P : Outcome → Type 0 = λ (x : Outcome). x ≡ accepted raw → Reading τ s (linked raw) × (length (linked raw) ≤ room) in
    picked P (ltb 16777216 (length s)) (λ t e. no_accept R.TooLarge 0 raw e)
    (λ t. picked P (eqb (bad_entry τ.book) 0)
    (λ u e.
    let a = header_began τ s byte room raw e in
    let b = book_judged τ.book booked (eqb-true (bad_entry τ.book) 0 u) in
    reading_of τ s byte room raw b.0 b.1 (ltb-false 16777216 (length s) t) a.head a.back.good a.back.told
    (run_comes τ s byte room raw (length s) (headed τ s byte room raw a.head) (begun τ s byte room raw a.head) a.ran))
    (λ u e. no_accept R.BadBook (bad_entry τ.book - 1) raw e))

pub accepted_reading : (τ : Terms) (s : List ℕ) → Bytes τ.book → Bytes s → (room : ℕ) (rows : List Row) → read_of τ s room ≡ accepted rows → Reading τ s rows × (length rows ≤ room)
unfolding read_of
accepted_reading τ s booked byte room rows = go (raw_of τ s room) refl
  where
    go : (o : Outcome) → raw_of τ s room ≡ o → with_links o ≡ accepted rows → Reading τ s rows × (length rows ≤ room)
    go (accepted raw) q e =
        let same : linked raw ≡ rows = cc in
        subst (λ (rows : List Row). Reading τ s rows × (length rows ≤ room)) same (raw_reading τ s booked byte room raw q)
    go (refused r place) q e = no_accept r place rows e
