-- A library that is known stays known: with more rows and with their links, and so do the details and classes that name it.
use Prim.Native.Nat.{ℕ, zero, suc, ◌+◌, ◌-◌}
use Rattle.std.specs.Prelude.{◌≡◌, refl, Bool, List, [], ◌∷◌, ◌++◌, get_or, take, drop, eqb, Ok, Err}
use Rattle.std.proofs.Common.{sym, ap, ◌∙◌, take-append-drop, ne_eqb}
use Rattle.std.proofs.Math.Bool.{true, false}
use Rattle.std.proofs.lemmas.Bool.{eqb-false}
use Rattle.format.specs.Terms.{Terms}
use Rattle.format.specs.declared.Refusal.TheVariants as R
use Rattle.format.specs.declared.Row.{Row}
use Rattle.format.specs.Bytes.{pick, part}
use Rattle.format.specs.Numbers.{le}
use Rattle.format.specs.Types.{library_id_at, info_at}
use Rattle.format.specs.Rows.{find_from, library_row}
use Rattle.format.specs.Records.{known_library, own_library_at, info_known, infos_at}
use Rattle.fields.specs.Judged.{no_end}
use Rattle.fields.specs.Sequence.{through}
use Rattle.standing.specs.Linked.{relinked, library_linked}

-- a library that is not in the rows was not in those before
pub record Later (before rows : List Row) : Type 0 where
  pub unknown : (id : ℕ) → library_row id rows ≡ 0 → library_row id before ≡ 0

find_front : (p : Row → Bool) (k : ℕ) (xs ys : List Row) → find_from p k (xs ++ ys) ≡ 0 → find_from p k xs ≡ 0
unfolding find_from
find_front p k [] ys e = refl
find_front p k (r ∷ xs) ys e = go (p r) (find_front p (k + 1) xs ys) e
  where
    go : (b : Bool) → (find_from p (k + 1) (xs ++ ys) ≡ 0 → find_from p (k + 1) xs ≡ 0) → pick b (k + 1) (find_from p (k + 1) (xs ++ ys)) ≡ 0
        → pick b (k + 1) (find_from p (k + 1) xs) ≡ 0
    go true more e = e
    go false more e = more e

-- the first i rows, and all rows with their links
pub first_later : (f : Row → ℕ) (i : ℕ) (raw : List Row) → Later (take i raw) (relinked f raw)
unfolding library_row
first_later f i raw =
    record {
      unknown = λ id e.
          let z : library_row id (take i raw ++ drop i raw) ≡ 0 = ap (library_row id) (take-append-drop i raw) ∙ (sym (library_linked f raw id) ∙ e) in
          find_front _ 0 (take i raw) (drop i raw) z;
    }

module _ (s : List ℕ) {before rows : List Row} (later : Later before rows) where
  known_later : (end e : ℕ) → known_library s before end ≡ Ok e → known_library s rows end ≡ Ok e
  known_later end e q = go (eqb (library_row id before) 0) refl q
    where
      id : ℕ
      id = le (part s (end - 4) 4)

      go : (t : Bool) → eqb (library_row id before) 0 ≡ t → pick t (Err R.NoLibrary) (Ok end) ≡ Ok e → known_library s rows end ≡ Ok e
      go true t q = absurd (no_end R.NoLibrary e q)
      go false t q = rw (ne_eqb (library_row id rows) 0 (λ z. eqb-false (library_row id before) 0 t (later.unknown id z))) q

  pub own_later : (at e : ℕ) → own_library_at s before at ≡ Ok e → own_library_at s rows at ≡ Ok e
  unfolding own_library_at
  own_later at e q =
      let x = through (known_library s before) (library_id_at s at) e q in
      rw x.1 (known_later x.0 e x.2)

module _ (τ : Terms) (s : List ℕ) {before rows : List Row} (later : Later before rows) where
  pub info_later : (type at e : ℕ) → info_known τ.setting s before type at ≡ Ok e → info_known τ.setting s rows type at ≡ Ok e
  unfolding info_known
  info_later type at e q =
      let x = through (λ end. pick (eqb type 4) (known_library s before end) (Ok end)) (info_at τ.setting s type at) e q in
      rw x.1 (go x.0 (eqb type 4) x.2)
    where
      go : (m : ℕ) (t : Bool) → pick t (known_library s before m) (Ok m) ≡ Ok e → pick t (known_library s rows m) (Ok m) ≡ Ok e
      go m true q = known_later s later m e q
      go m false q = q

  pub infos_later : (n types at e : ℕ) → infos_at τ.setting s before n types at ≡ Ok e → infos_at τ.setting s rows n types at ≡ Ok e
  unfolding infos_at
  infos_later zero types at e q = q
  infos_later (suc n) types at e q =
      let x = through (infos_at τ.setting s before n (types + 1)) (info_known τ.setting s before (get_or s types 0) at) e q in
      rw (info_later (get_or s types 0) at x.0 x.1) (infos_later n (types + 1) x.0 e x.2)
