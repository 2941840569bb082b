-- Rows with their links: all else in them is as before, lookups find the same, and links go to rows of objects and classes. Which rows get one is
-- free: both those of a reading and those that tidying begins with are rows with links.
use Rattle.std.specs.Prelude.{ℕ, zero, suc, ◌+◌, ◌-◌, ◌≤◌, ◌<◌, ◌≡◌, Bool, true, false, ◌&&◌, length, get_or, take, ltb}
use Rattle.std.proofs.Math.Path.{refl}
use Rattle.std.proofs.Common.{sym, ap, subst, ◌∙◌, arith, length-take-le, get_or-take, ltb-true, ltb-false, ne_eqb}
use mathlib.Core.List.{List, [], ◌∷◌, map}
use Rattle.std.proofs.lemmas.List.{length-map}
use Rattle.std.proofs.Math.ListN.{get_or-eq_default}
use Rattle.std.proofs.Math.Dec.{eqb}
use Rattle.format.specs.Terms.{Terms}
use Rattle.format.specs.declared.Row.{Row}
use Rattle.format.specs.Rows.{blank, is_object, is_class, find_from, object_row, class_row, library_row, with_link, link_of, linked, bound_link, bound}
use Rattle.lookups.specs.Find.{Found, object_at_lem, class_at_holds}
use Rattle.standing.specs.Standing.{Owned, apart, within, Standing, record_at}
use Rattle.standing.specs.Accepted.{Raw}
use Rattle.standing.specs.Fields.{by_id_row}

-- ---- what links leave as it was

-- each row with a link of its own
abbrev pub relinked : (Row → ℕ) → List Row → List Row
relinked f rows = map (λ (r : Row). with_link r (f r)) rows

pub linked_is : (raw : List Row) → linked raw ≡ relinked (link_of raw) raw
unfolding linked
linked_is raw = refl

pub bound_is : (raw : List Row) → bound raw ≡ relinked (bound_link raw) raw
unfolding bound
bound_is raw = refl

module _ (f : Row → ℕ) (raw : List Row) where
  abbrev all : List Row
  all = relinked f raw

  pub length_all : length all ≡ length raw
  length_all = length-map raw (λ (r : Row). with_link r (f r))

  pub row_at : (i : ℕ) → i < length raw → get_or all i blank ≡ with_link (get_or raw i blank) (f (get_or raw i blank))
  row_at i h = go raw i h
    where
      go : (rows : List Row) (i : ℕ) → i < length rows → get_or (relinked f rows) i blank ≡ with_link (get_or rows i blank) (f (get_or rows i blank))
      go [] i h = absurd (omega arith)
      go (r ∷ rows) zero h = refl
      go (r ∷ rows) (suc i) h = go rows i (omega arith)

  pub same_at : {A : Type 0} (g : Row → A) → ((r : Row) (l : ℕ) → g (with_link r l) ≡ g r) → (i : ℕ) → g (get_or all i blank) ≡ g (get_or raw i blank)
  same_at g keep i = by_place (ltb i (length raw)) refl
    where
      by_place : (t : Bool) → ltb i (length raw) ≡ t → g (get_or all i blank) ≡ g (get_or raw i blank)
      by_place true t = ap g (row_at i (ltb-true i (length raw) t)) ∙ keep (get_or raw i blank) (f (get_or raw i blank))
      by_place false t =
          let l = length_all in
          let h : length raw ≤ i = ltb-false i (length raw) t in
          let k : length all ≤ i = omega arith in
          ap g (get_or-eq_default all blank k ∙ sym (get_or-eq_default raw blank h))

  module _ (i : ℕ) where
    pub same_kind : (get_or all i blank).kind ≡ (get_or raw i blank).kind
    same_kind = same_at (λ r. r.kind) (λ r l. refl) i

    pub same_offset : (get_or all i blank).offset ≡ (get_or raw i blank).offset
    same_offset = same_at (λ r. r.offset) (λ r l. refl) i

    pub same_end : (get_or all i blank).end ≡ (get_or raw i blank).end
    same_end = same_at (λ r. r.end) (λ r l. refl) i

    pub same_id : (get_or all i blank).id ≡ (get_or raw i blank).id
    same_id = same_at (λ r. r.id) (λ r l. refl) i

    pub same_owner : (get_or all i blank).owner ≡ (get_or raw i blank).owner
    same_owner = same_at (λ r. r.owner) (λ r l. refl) i

    pub same_slot : (get_or all i blank).slot ≡ (get_or raw i blank).slot
    same_slot = same_at (λ r. r.slot) (λ r l. refl) i

    pub same_count : (get_or all i blank).count ≡ (get_or raw i blank).count
    same_count = same_at (λ r. r.count) (λ r l. refl) i

  -- a lookup whose test does not see a link
  pub find_linked : (p : Row → Bool) → ((r : Row) (l : ℕ) → p (with_link r l) ≡ p r) → (k : ℕ) → find_from p k all ≡ find_from p k raw
  unfolding find_from
  find_linked p keep k = go k raw
    where
      go : (k : ℕ) (rows : List Row) → find_from p k (relinked f rows) ≡ find_from p k rows
      go k [] = refl
      go k (r ∷ rows) = rw (keep r (f r), go (k + 1) rows)

  pub library_linked : (id : ℕ) → library_row id all ≡ library_row id raw
  unfolding library_row
  library_linked id = find_linked (λ r. eqb r.kind 12 && eqb r.id id) (λ r l. refl) 0

  object_all : (id : ℕ) → object_row id all ≡ object_row id raw
  unfolding object_row
  object_all id = find_linked (λ r. is_object r.kind && eqb r.id id) (λ r l. refl) 0

  pub link_at : (i : ℕ) → i < length raw → (get_or all i blank).link ≡ f (get_or raw i blank)
  link_at i h = ap (λ (r : Row). r.link) (row_at i h)

  pub owned_linked : (i o : ℕ) → Owned raw i o → Owned all i o
  owned_linked i o (apart e) = apart e
  owned_linked i o (within a b k) = within a b (ap is_object (same_kind (o - 1)) ∙ k)

  found_linked : (kinds : ℕ → Bool) (id i : ℕ) → Found kinds id raw i → Found kinds id all i
  found_linked kinds id i w =
      let l = length_all in
      let h = w.inside in
      record { inside = omega arith; kind = ap kinds (same_kind i) ∙ w.kind; same = same_id i ∙ w.same }

-- ---- a kind 1 goes to its class

-- the class of row i is row link - 1, before it
pub record ToClass (rows : List Row) (i link count : ℕ) : Type 0 where
  pub some : 0 < link
  pub before : link - 1 < i
  pub class : is_class (get_or rows (link - 1) blank).kind ≡ true
  pub same_count : count ≡ (get_or rows (link - 1) blank).count

module _ (τ : Terms) {s : List ℕ} {raw : List Row} (w : Standing τ s raw) (i : ℕ) (h : i < length raw) (k : (get_or raw i blank).kind ≡ 1) where
  pub to_class : ToClass raw i (get_or raw i blank).link (get_or raw i blank).count
  to_class =
      let r = get_or raw i blank in
      let v = record_at τ w i h (λ e. omega arith) in
      let g = v.head in
      let x = by_id_row τ v k in
      let e : r.link ≡ g.link = v.same_link in
      let n = x.some in
      let q = x.finds in
      let f = class_at_holds x.class (take i raw) (omega arith) in
      let p : class_row x.class (take i raw) - 1 ≡ r.link - 1 = omega arith in
      let o : g.link - 1 ≡ r.link - 1 = omega arith in
      let a = length-take-le i raw (omega arith) in
      let b : r.link - 1 < i = omega (arith, f.inside) in
      let at : get_or (take i raw) (r.link - 1) blank ≡ get_or raw (r.link - 1) blank = get_or-take i raw (r.link - 1) blank b in
      record {
        some = omega arith;
        before = b;
        class =
            subst (λ (x : Row). is_class x.kind ≡ true) at
            (subst (λ (j : ℕ). is_class (get_or (take i raw) j blank).kind ≡ true) p f.kind);
        same_count =
            v.same_count ∙ (x.same_count ∙ (ap (λ (j : ℕ). (get_or (take i raw) j blank).count) o ∙ ap (λ (y : Row). y.count) at));
      }

  -- the link of a kind 1 is as it was read
  module _ (f : Row → ℕ) (own : f (get_or raw i blank) ≡ (get_or raw i blank).link) where
    one_link : (get_or (relinked f raw) i blank).link ≡ (get_or raw i blank).link
    one_link = link_at f raw i h ∙ own

    pub to_class_linked : ToClass (relinked f raw) i (get_or (relinked f raw) i blank).link (get_or (relinked f raw) i blank).count
    to_class_linked =
        let c = to_class in
        let j : ℕ = (get_or raw i blank).link - 1 in
        rw one_link (record {
          some = c.some;
          before = c.before;
          class = ap is_class (same_kind f raw j) ∙ c.class;
          same_count = same_count f raw i ∙ (c.same_count ∙ sym (same_count f raw j));
        })

-- ---- references and the header go to objects

-- the object of this number is row link - 1
pub record ToObject (rows : List Row) (id link : ℕ) : Type 0 where
  pub finds : link ≡ object_row id rows
  pub some : 0 < link
  pub found : Found is_object id rows (link - 1)

to_object : (rows : List Row) (id link : ℕ) → link ≡ object_row id rows → (object_row id rows ≡ 0 → ⊥) → ToObject rows id link
to_object rows id link e n =
    let h : 0 < object_row id rows = omega (arith, n) in
    record { finds = e; some = omega arith; found = rw e (object_at_lem id rows h) }

to_object_linked : (f : Row → ℕ) (raw : List Row) (id link : ℕ) → ToObject raw id link → ToObject (relinked f raw) id link
to_object_linked f raw id link w =
    record { finds = w.finds ∙ sym (object_all f raw id); some = w.some; found = found_linked f raw is_object id (link - 1) w.found }

module _ (τ : Terms) {s : List ℕ} {room : ℕ} {raw : List Row} (w : Raw τ s room raw) (f : Row → ℕ) where
  pub reference_link : (i : ℕ) → i < length raw → (get_or raw i blank).kind ≡ 9 → f (get_or raw i blank) ≡ object_row (get_or raw i blank).id raw
      → ToObject (relinked f raw) (get_or raw i blank).id (get_or (relinked f raw) i blank).link
  reference_link i h k e = to_object_linked f raw _ _ (to_object raw (get_or raw i blank).id _ (link_at f raw i h ∙ e) (w.targets i h k))

  pub root_link : f (get_or raw 0 blank) ≡ object_row (get_or raw 0 blank).id raw
      → ToObject (relinked f raw) (get_or raw 0 blank).id (get_or (relinked f raw) 0 blank).link
  root_link e = to_object_linked f raw _ _ (to_object raw (get_or raw 0 blank).id _ (link_at f raw 0 w.stands.some ∙ e) w.root)

-- ---- the two ways to give links

-- a kind 1 keeps its link, a reference and the header get their target's
pub record Links (raw : List Row) (f : Row → ℕ) : Type 0 where
  pub own : (r : Row) → r.kind ≡ 1 → f r ≡ r.link
  pub reference : (r : Row) → r.kind ≡ 9 → f r ≡ object_row r.id raw
  pub root : (r : Row) → r.kind ≡ 0 → f r ≡ object_row r.id raw

pub by_link : (raw : List Row) → Links raw (link_of raw)
unfolding link_of
by_link raw = record { own = λ r k. rw k; reference = λ r k. rw k; root = λ r k. rw k }

pub by_bound : (raw : List Row) → Links raw (bound_link raw)
unfolding bound_link
by_bound raw = record { own = λ r k. rw k; reference = λ r k. rw k; root = λ r k. rw k }

-- any other row keeps its link
pub bound_own : (raw : List Row) (r : Row) → (r.kind ≡ 9 → ⊥) → (r.kind ≡ 0 → ⊥) → bound_link raw r ≡ r.link
unfolding bound_link
bound_own raw r a b = rw (ne_eqb r.kind 9 a, ne_eqb r.kind 0 b)
