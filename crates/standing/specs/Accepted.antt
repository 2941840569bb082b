-- The rows of a stream that is taken are rows that stand, with their links: every reference and the header name an object.
use Prim.Native.Nat.{ℕ, zero, suc, ◌+◌, ◌-◌, ◌≤◌, ◌<◌}
use Rattle.std.specs.Prelude.{◌≡◌, true, List, [], ◌∷◌, ◌++◌, length, take, ltb, eqb}
use Rattle.std.proofs.Math.Path.{refl}
use Rattle.std.proofs.Common.{sym, ap, subst, ◌∙◌, arith, length-take-le, take-suc, get_or-take}
use Rattle.std.proofs.Math.ListN.{get_or}
use Rattle.std.proofs.Math.Seq.{get_or-append_seam}
use borrow.Author.Tests.{ltb-false, eqb-true, eqb-false}
use Rattle.format.specs.Terms.{Terms}
use Rattle.format.specs.declared.Where.TheVariants as W
use Rattle.format.specs.declared.Row.{Row}
use Rattle.format.specs.Entries.{bad_entry}
use Rattle.format.specs.Rows.{blank, is_object, object_row, find_from, is_lost, linked}
use Rattle.format.specs.Records.{allowed}
use Rattle.format.specs.Machine.{State, Next, go, ended, refuse, Outcome, accepted, refused, step, record_step, finish, onward, run, start, begin, stream_of, raw_of, with_links, read_of}
use Rattle.fields.specs.Judged.{picked}
use Rattle.lookups.specs.Find.{find_none}
use Rattle.links.specs.Links.{length_linked, lost_if}
use Rattle.reader.specs.Fine.{Fine, NextFine, record_fine, step_fine}
use Rattle.standing.specs.Standing.{stood_moves, Owned, apart, within, Standing}
use Rattle.standing.specs.Steps.{end_of, Placed, Gathered, Whole, NextGathered, each_more, length_more, end_more, record_gathered, step_gathered}

-- ---- the rows with the end record

module _ (s : List ℕ) (front : List Row) (last : Row) where
  abbrev all : List Row
  all = front ++ (last ∷ [])

  owned_all : (i o : ℕ) → i ≤ length all → Owned (take i all) (length (take i all)) o → Owned all i o
  owned_all i o h (apart e) = apart e
  owned_all i o h (within a b k) =
      let l = length-take-le i all h in
      let c : o - 1 < i = omega arith in
      within a c (subst (λ (r : Row). is_object r.kind ≡ true) (get_or-take i all (o - 1) blank c) k)

  end_before : (i : ℕ) → i < length all → end_of (take (suc i) all) ≡ (get_or all i blank).end
  end_before i h = ap end_of (take-suc all i blank h) ∙ end_more (take i all) (get_or all i blank)

  last_at : get_or all (length all - 1) blank ≡ last
  last_at =
      let n = length_more front last in
      let e : length all - 1 ≡ length front = omega arith in
      ap (λ (i : ℕ). get_or all i blank) e ∙ get_or-append_seam front last [] blank

whole_stands : (τ : Terms) (s : List ℕ) (rows : List Row) (at : ℕ) → Whole τ s rows at → length s ≤ at → length rows ≤ length s → length s ≤ 16777216
    → Standing τ s rows
unfolding end_of
whole_stands τ s rows at w h c f =
    let front = w.front in
    let last = w.last in
    let n = length_more front last in
    let placed = each_more front last (Placed τ s) (λ i l. (w.each i l).0) w.placed in
    let final = each_more front last (λ before r. r.kind ≡ 11 → length before ≡ length front) (λ i l e. absurd ((w.each i l).1 e)) (λ e. refl) in
    let m = stood_moves τ w.placed.said in
    let e = w.end in
    let k = ap length w.parts in
    subst (λ (rows : List Row). Standing τ s rows) (sym w.parts) (record {
      each = λ i l. (placed i l).said;
      kinds = λ i l. (placed i l).known;
      headed = (placed 0 (omega arith)).headed refl;
      header_first = λ i l z. sym (length-take-le i (all s front last) (omega arith)) ∙ (placed i l).header_first z;
      closed = ap (λ (r : Row). r.kind) (last_at s front last) ∙ w.kind;
      end_last = λ i l z.
          let a = length-take-le i (all s front last) (omega arith) in
          let b = final i l z in
          omega arith;
      begins = (placed 0 (omega arith)).begins;
      next = λ i l. (placed (suc i) l).begins ∙ end_before s front last i (omega arith);
      ends = ap (λ (r : Row). r.end) (last_at s front last) ∙ omega arith;
      owners = λ i l. owned_all s front last i _ (omega arith) (placed i l).owned;
      libraries = λ i l. (placed i l).library_apart;
      some = omega arith;
      counted = omega arith;
      fits = f;
    })

-- ---- the whole stream

-- before the first step, and after the header's
pub start_gathered : (τ : Terms) (s : List ℕ) → Gathered τ s start
unfolding end_of
start_gathered τ s = record { each = λ i h. absurd (omega arith); place = refl; owners = (apart refl, tt) }

pub header_gathered : (τ : Terms) (s : List ℕ) (room : ℕ) → NextGathered τ s (record_step τ s room start W.Start)
unfolding allowed
header_gathered τ s room = record_gathered τ s room start (start_gathered τ s) W.Start (λ k t. (λ e. refl, λ e. eqb-true k 0 t))

-- what the rows of a stream that is taken say as they are read, with room for so many
pub record Raw (τ : Terms) (s : List ℕ) (room : ℕ) (raw : List Row) : Type 0 where
  pub stands : Standing τ s raw
  pub root : object_row (get_or raw 0 blank).id raw ≡ 0 → ⊥
  pub targets : (i : ℕ) → i < length raw → (get_or raw i blank).kind ≡ 9 → object_row (get_or raw i blank).id raw ≡ 0 → ⊥
  pub roomy : length raw ≤ room

abbrev RawOf : Terms → List ℕ → ℕ → Outcome → Type 0
RawOf τ s room (accepted raw) = Raw τ s room raw
RawOf τ s room (refused r place) = Unit {0}

module _ (τ : Terms) (s : List ℕ) (room : ℕ) (fits : length s ≤ 16777216) where
  finish_taken : (rows : List Row) (at : ℕ) → Whole τ s rows at → (length rows ≤ room) × (length rows ≤ length s) → RawOf τ s room (finish s rows at)
  unfolding finish
  finish_taken rows at w c =
      picked (RawOf τ s room) (ltb at (length s)) (λ t. tt)
      (λ t. picked (RawOf τ s room) (eqb (object_row (get_or rows 0 blank).id rows) 0) (λ u. tt)
      (λ u. picked (RawOf τ s room) (eqb (find_from (is_lost rows) 0 rows) 0)
      (λ v. record {
        stands = whole_stands τ s rows at w (ltb-false at (length s) t) c.1 fits;
        root = eqb-false (object_row (get_or rows 0 blank).id rows) 0 u;
        targets = λ i h k.
            let r = get_or rows i blank in
            let o = object_row r.id rows in
            eqb-false o 0 (lost_if rows r r refl o k refl ∙ find_none (is_lost rows) 0 rows (eqb-true (find_from (is_lost rows) 0 rows) 0 v) i h);
        roomy = c.0;
      })
      (λ v. tt)))

  -- after a step, where what follows says it
  next_taken : (f : State → Outcome) → ((st : State) → Gathered τ s st → 0 < length st.rows → Fine s room st → RawOf τ s room (f st))
      → (at : ℕ) (x : Next) → NextGathered τ s x → NextFine s room at x → RawOf τ s room (onward s f x)
  next_taken f g at (go st) w v = g st w.0 w.1 v.0
  next_taken f g at (ended rows end) w v = finish_taken rows end w v
  next_taken f g at (refuse r place) w v = tt

  run_taken : (k : ℕ) (st : State) → Gathered τ s st → 0 < length st.rows → Fine s room st → RawOf τ s room (run τ k s room st)
  unfolding run
  run_taken zero st w n f = tt
  run_taken (suc k) st w n f = next_taken (run τ k s room) (run_taken k) st.at (step τ s room st) (step_gathered τ s room st w n) (step_fine τ s room st f)

  begin_onward : (x : Next) → onward s (run τ (length s) s room) x ≡ begin τ s room x
  begin_onward (go st) = refl
  begin_onward (ended rows at) = refl
  begin_onward (refuse r place) = refl

  header_taken : RawOf τ s room (begin τ s room (record_step τ s room start W.Start))
  header_taken =
      subst (λ (x : Outcome). RawOf τ s room x) (begin_onward (record_step τ s room start W.Start))
      (next_taken (run τ (length s) s room) (run_taken (length s)) 0 (record_step τ s room start W.Start) (header_gathered τ s room)
      (record_fine τ s room start (record { inside = omega arith; counted = omega arith; roomy = omega arith; shallow = omega arith }) W.Start))

pub raw_stands : (τ : Terms) (s : List ℕ) (room : ℕ) (raw : List Row) → raw_of τ s room ≡ accepted raw → Raw τ s room raw
unfolding raw_of stream_of
raw_stands τ s room raw e =
    subst (λ (x : Outcome). RawOf τ s room x) e
    (picked (RawOf τ s room) (ltb 16777216 (length s)) (λ t. tt)
    (λ t. picked (RawOf τ s room) (eqb (bad_entry τ.book) 0) (λ b. header_taken τ s room (ltb-false 16777216 (length s) t)) (λ b. tt)))

abbrev GoodOf : Terms → List ℕ → Outcome → Type 0
GoodOf τ s (accepted raw) = (length s ≤ 16777216) × (bad_entry τ.book ≡ 0)
GoodOf τ s (refused r place) = Unit {0}

-- a stream that is taken is within the limit, and its book is good
pub raw_good : (τ : Terms) (s : List ℕ) (room : ℕ) (raw : List Row) → raw_of τ s room ≡ accepted raw → (length s ≤ 16777216) × (bad_entry τ.book ≡ 0)
unfolding raw_of
raw_good τ s room raw e =
    subst (GoodOf τ s) e
    (picked (GoodOf τ s) (ltb 16777216 (length s)) (λ t. tt)
    (λ t. picked (GoodOf τ s) (eqb (bad_entry τ.book) 0)
    (λ b. good (ltb-false 16777216 (length s) t) (eqb-true (bad_entry τ.book) 0 b) (stream_of τ s room)) (λ b. tt)))
  where
    good : length s ≤ 16777216 → bad_entry τ.book ≡ 0 → (o : Outcome) → GoodOf τ s o
    good l b (accepted rows) = (l, b)
    good l b (refused r place) = tt

-- the rows of a stream that is taken, and as they were read
pub record Taken (τ : Terms) (s : List ℕ) (room : ℕ) (rows : List Row) : Type 0 where
  pub raw : List Row
  pub same : rows ≡ linked raw
  pub reads : raw_of τ s room ≡ accepted raw
  pub stands : Standing τ s raw
  pub roomy : length rows ≤ room

pub accepted_stands : (τ : Terms) (s : List ℕ) (room : ℕ) (rows : List Row) → read_of τ s room ≡ accepted rows → Taken τ s room rows
unfolding read_of
accepted_stands τ s room rows e = go (raw_of τ s room) refl e
  where
    go : (o : Outcome) → raw_of τ s room ≡ o → with_links o ≡ accepted rows → Taken τ s room rows
    go (accepted raw) q e =
        let same : rows ≡ linked raw = cc in
        let w = raw_stands τ s room raw q in
        let l = ap length same ∙ length_linked raw in
        let a = w.roomy in
        record { raw = raw; same = same; reads = q; stands = w.stands; roomy = omega arith }
    go (refused r place) q e = absurd (let n : ◌≡◌ {A = ℕ} 0 1 = cc in omega arith)
