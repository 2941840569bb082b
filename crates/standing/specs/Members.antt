-- The members of all classes are no more than the stream has bytes.
use Prim.Native.Nat.{ℕ, zero, suc, ◌+◌, ◌-◌, ◌≤◌, ◌<◌}
use Rattle.std.specs.Prelude.{◌≡◌, refl, Bool, true, false, ◌||◌, List, [], ◌∷◌, ◌++◌, length, take, eqb}
use Rattle.std.proofs.Math.Path.{ap}
use Rattle.std.proofs.Common.{◌∙◌, take-suc, eqb-true}
use native.Mathlib.Omega.{arith}
use Rattle.std.proofs.Math.ListN.{get_or}
use Rattle.std.proofs.Math.Seq.{take-length}
use Rattle.format.specs.Terms.{Terms}
use Rattle.format.specs.declared.Row.{Row}
use Rattle.format.specs.Bytes.{pick}
use Rattle.format.specs.Rows.{blank, is_class}
use Rattle.fields.specs.Judged.{picked}
use Rattle.standing.specs.Standing.{Recorded, Stood, as_record, stood_moves, Standing}
use Rattle.standing.specs.Linked.{relinked}
use Rattle.standing.specs.Fields.{Class, system_row, class_row_holds, class_room}

-- the members of the class in a row of kind 4 or 5
abbrev pub members_of : Row → ℕ
members_of r = pick (is_class r.kind) r.count 0

unfoldable pub members_in : List Row → ℕ
members_in [] = 0
members_in (r ∷ rows) = members_of r + members_in rows

members_more : (rows : List Row) (r : Row) → members_in (rows ++ (r ∷ [])) ≡ members_in rows + members_of r
unfolding members_in
members_more [] r = omega arith
members_more (x ∷ rows) r = let e = members_more rows r in omega arith

-- a row has a byte or more for each of its members
module _ (τ : Terms) {s : List ℕ} {before : List Row} {r : Row} (w : Stood τ s before r) where
  class_members : (own : Bool) (x : Recorded τ s before r) → Class τ s before own r.offset x.head → r.offset + r.count ≤ r.end
  class_members own x c =
      let a = class_room τ s before own r.offset x.head c in
      let b = x.same_count in
      let e = x.same_end in
      omega arith

  four_or_five : is_class r.kind ≡ true → r.offset + r.count ≤ r.end
  four_or_five t = go (eqb r.kind 4) refl t
    where
      go : (b : Bool) → eqb r.kind 4 ≡ b → (b || eqb r.kind 5) ≡ true → r.offset + r.count ≤ r.end
      go true e t =
          let k = eqb-true r.kind 4 e in
          let x = as_record τ w (λ q. omega arith) in
          class_members false x (system_row τ x k)
      go false e t =
          let k = eqb-true r.kind 5 t in
          let x = as_record τ w (λ q. omega arith) in
          class_members true x (class_row_holds τ x k)

  pub row_members : r.offset + members_of r ≤ r.end
  row_members =
      picked (λ (n : ℕ). r.offset + n ≤ r.end) (is_class r.kind) (λ t. four_or_five t)
      (λ t. let m = stood_moves τ w in omega arith)

module _ (τ : Terms) {s : List ℕ} {raw : List Row} (w : Standing τ s raw) where
  -- the members of the first rows, within the bytes of those rows
  members_through : (i : ℕ) → i < length raw → members_in (take (suc i) raw) ≤ (get_or raw i blank).end
  unfolding members_in
  members_through zero h =
      let r = get_or raw 0 blank in
      let e = ap members_in (take-suc raw 0 blank h) in
      let m = row_members τ (w.each 0 h) in
      omega arith
  members_through (suc i) h =
      let r = get_or raw (suc i) blank in
      let e = ap members_in (take-suc raw (suc i) blank h) ∙ members_more (take (suc i) raw) r in
      let m = row_members τ (w.each (suc i) h) in
      let a = members_through i (omega arith) in
      let n = w.next i h in
      omega arith

  pub members_fit : members_in raw ≤ length s
  members_fit =
      let n = w.some in
      let a = members_through (length raw - 1) (omega arith) in
      let l : suc (length raw - 1) ≡ length raw = omega arith in
      let e : members_in (take (suc (length raw - 1)) raw) ≡ members_in raw = ap (λ (k : ℕ). members_in (take k raw)) l ∙ ap members_in (take-length raw) in
      let z = w.ends in
      omega arith

-- links change no member
pub members_linked : (f : Row → ℕ) (rows : List Row) → members_in (relinked f rows) ≡ members_in rows
unfolding members_in
members_linked f [] = refl
members_linked f (r ∷ rows) = ap (λ (n : ℕ). members_of r + n) (members_linked f rows)
