-- How many slots programs for people count for a row is how many things the row says: a null run says a null for each slot.
use Rattle.std.specs.Prelude.{ℕ, zero, suc, ◌+◌, ◌<◌, ◌≡◌, refl, Bool, true, false, List, length, get_or, eqb}
use Rattle.std.proofs.Common.{sym, ap, ◌∙◌, arith, eqb-true}
use Rattle.std.proofs.lemmas.Bool.{eqb-false}
use Rattle.format.specs.Terms.{Terms}
use Rattle.format.specs.declared.Row.{Row}
use Rattle.format.specs.Rows.{blank, link_of}
use Rattle.format.specs.Records.{plain}
use Rattle.format.specs.Machine.{accepted, read_of}
use Rattle.format.specs.Says.{spread, is_nulls, is_silent, nodes_of}
use Rattle.links.specs.Links.{length_linked}
use Rattle.headings.specs.Headings.{null_heading}
use Rattle.standing.specs.Standing.{Stood, as_record}
use Rattle.standing.specs.Fields.{row_said}
use Rattle.standing.specs.Accepted.{Taken, accepted_stands}
use Rattle.standing.specs.Linked.{relinked, linked_is, same_kind, same_count}
use Rattle.members.specs.Members.{slots_filled}
use Rattle.members.specs.Laws.{filled_run, filled_long, filled_one_lem}

-- ---- one row

length_spread : (n owner slot : ℕ) → length (spread n owner slot) ≡ n
unfolding spread
length_spread zero owner slot = refl
length_spread (suc n) owner slot = ap suc (length_spread n owner (slot + 1))

-- of a row that says something, where one null counts as one
module _ (β s : List ℕ) (rows : List Row) (r : Row) (one : r.kind ≡ 10 → r.count ≡ 1) (e : is_silent r.kind ≡ false) where
  nulls : is_nulls r.kind ≡ true → length (nodes_of β s rows r) ≡ r.count
  unfolding nodes_of
  nulls f = rw (e, f) (length_spread _ _ _)

  other : is_nulls r.kind ≡ false → length (nodes_of β s rows r) ≡ 1
  unfolding nodes_of
  other f = rw (e, f)

  row_filled : length (nodes_of β s rows r) ≡ slots_filled r
  row_filled = go (eqb r.kind 10) (eqb r.kind 13) (eqb r.kind 14) refl refl refl
    where
      go : (a b c : Bool) → eqb r.kind 10 ≡ a → eqb r.kind 13 ≡ b → eqb r.kind 14 ≡ c → length (nodes_of β s rows r) ≡ slots_filled r
      go true b c p q t =
          let k = eqb-true r.kind 10 p in
          nulls (rw p) ∙ (one k ∙ filled_one_lem r (λ x. omega arith) (λ x. omega arith))
      go false true c p q t = nulls (rw (p, q)) ∙ filled_run r (eqb-true r.kind 13 q)
      go false false true p q t = nulls (rw (p, q, t)) ∙ filled_long r (eqb-true r.kind 14 t)
      go false false false p q t = other (rw (p, q, t)) ∙ filled_one_lem r (eqb-false r.kind 13 q) (eqb-false r.kind 14 t)

-- ---- the rows of a list that is taken

null_counts : (τ : Terms) {s : List ℕ} {before : List Row} {r : Row} → Stood τ s before r → r.kind ≡ 10 → r.count ≡ 1
null_counts τ {s} {before} {r} w k =
    row_said τ (as_record τ w (λ x. omega arith)) (λ n end. n ≡ 1) (plain 0 (r.offset + 1) 1) (null_heading τ s before r.kind r.offset k) refl

one_null : (τ : Terms) (s : List ℕ) (room : ℕ) (rows : List Row) → Taken τ s room rows → (i : ℕ) → i < length rows → (get_or rows i blank).kind ≡ 10
    → (get_or rows i blank).count ≡ 1
one_null τ s room rows w i h k =
    let raw = w.raw in
    let f = link_of raw in
    let e : rows ≡ relinked f raw = w.same ∙ linked_is raw in
    let l = length_linked raw in
    let n = ap length w.same in
    ap (λ (rows : List Row). (get_or rows i blank).count) e
    ∙ (same_count f raw i
    ∙ null_counts τ (w.stands.each i (omega arith)) (sym (same_kind f raw i) ∙ (sym (ap (λ (rows : List Row). (get_or rows i blank).kind) e) ∙ k)))

pub filled_found : (τ : Terms) (s : List ℕ) (room : ℕ) (rows : List Row) → read_of τ s room ≡ accepted rows → (i : ℕ) → i < length rows
    → is_silent (get_or rows i blank).kind ≡ false → length (nodes_of τ.book s rows (get_or rows i blank)) ≡ slots_filled (get_or rows i blank)
filled_found τ s room rows a i h e = row_filled τ.book s rows (get_or rows i blank) (one_null τ s room rows (accepted_stands τ s room rows a) i h) e
