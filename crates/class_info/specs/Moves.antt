-- Where libraries, details, members and class records end: after their place, and within the stream.
use Prim.Native.Nat.{ℕ, zero, suc, ◌+◌, ◌-◌, ◌≤◌, ◌<◌}
use Rattle.std.specs.Prelude.{◌≡◌, Bool, List, length, get_or, eqb, Ok, Err}
use Rattle.std.proofs.Common.{sym, ◌∙◌}
use Rattle.std.proofs.Math.Path.{ap}
use Rattle.std.proofs.Math.Bool.{true, false}
use native.Mathlib.Omega.{arith}
use Rattle.format.specs.declared.Setting.{Setting}
use Rattle.format.specs.declared.Refusal.TheVariants as R
use Rattle.format.specs.declared.Row.{Row}
use Rattle.format.specs.Bytes.{pick, part}
use Rattle.format.specs.Numbers.{le, u32_at, negative}
use Rattle.format.specs.Values.{times}
use Rattle.format.specs.Types.{type_byte_at, name_at, library_id_at, info_at}
use Rattle.format.specs.Rows.{library_row, class_row}
use Rattle.format.specs.Records.{good_class_id, known_library, own_library_at, info_known, infos_at, after_infos, members_at, class_at, class_by_id_at}
use Rattle.fields.specs.Judged.{no_end}
use Rattle.fields.specs.Sequence.{through}
use Rattle.types.specs.Keeps.{name_moves, library_moves, names_kept, types_kept, info_kept, types_end}
use Rattle.class_info.specs.Ends.{EndsIn, number_moves, ends_pick, ends_number, ends_field}

-- ---- names and type bytes

pub names_there : (σ : Setting) (s : List ℕ) (n at e : ℕ) → at ≤ length s → times (name_at σ s) n at ≡ Ok e → (at ≤ e) × (e ≤ length s)
names_there σ s n at e h q = (names_kept σ n).moves s at e h q

pub types_there : (s : List ℕ) (n at e : ℕ) → at ≤ length s → times (type_byte_at s) n at ≡ Ok e → (e ≡ at + n) × (e ≤ length s)
types_there s n at e h q = (types_end s n at e q, ((types_kept n).moves s at e h q).1)

module _ (s : List ℕ) (rows : List Row) where
  -- ---- libraries

  -- a library that is known moves nothing
  pub known_moves : (end e : ℕ) → known_library s rows end ≡ Ok e → e ≡ end
  known_moves end e q = go (eqb (library_row (le (part s (end - 4) 4)) rows) 0) q
    where
      go : (t : Bool) → pick t (Err R.NoLibrary) (Ok end) ≡ Ok e → e ≡ end
      go true q = absurd (no_end R.NoLibrary e q)
      go false q = cc

  pub own_library_moves : (at e : ℕ) → own_library_at s rows at ≡ Ok e → (at < e) × (e ≤ length s)
  unfolding own_library_at
  own_library_moves at e q =
      let x = through (known_library s rows) (library_id_at s at) e q in
      let w = library_moves s at x.0 x.1 in
      let k = known_moves x.0 e x.2 in
      (omega arith, omega arith)

module _ (σ : Setting) (s : List ℕ) (rows : List Row) where
  -- ---- details

  -- that the library of a detail is known changes no place
  pub info_plain : (b at e : ℕ) → info_known σ s rows b at ≡ Ok e → info_at σ s b at ≡ Ok e
  unfolding info_known
  info_plain b at e q =
      let x = through (λ end. pick (eqb b 4) (known_library s rows end) (Ok end)) (info_at σ s b at) e q in
      x.1 ∙ ap Ok (sym (go x.0 (eqb b 4) x.2))
    where
      go : (m : ℕ) (t : Bool) → pick t (known_library s rows m) (Ok m) ≡ Ok e → e ≡ m
      go m true q = known_moves s rows m e q
      go m false q = cc

  pub info_known_moves : (b at e : ℕ) → at ≤ length s → info_known σ s rows b at ≡ Ok e → (at ≤ e) × (e ≤ length s)
  info_known_moves b at e h q = (info_kept σ b).moves s at e h (info_plain b at e q)

  pub infos_moves : (n types at e : ℕ) → at ≤ length s → infos_at σ s rows n types at ≡ Ok e → (at ≤ e) × (e ≤ length s)
  unfolding infos_at
  infos_moves zero types at e h q = let z : at ≡ e = cc in (omega arith, omega arith)
  infos_moves (suc n) types at e h q =
      let x = through (infos_at σ s rows n (types + 1)) (info_known σ s rows (get_or s types 0) at) e q in
      let a = info_known_moves (get_or s types 0) at x.0 h x.1 in
      let b = infos_moves n (types + 1) x.0 e a.1 x.2 in
      (omega arith, omega arith)

module _ (s : List ℕ) (rows : List Row) where
  after_moves : (own : Bool) (at e : ℕ) → at ≤ length s → after_infos own s rows at ≡ Ok e → (at ≤ e) × (e ≤ length s)
  after_moves true at e h q = let w = own_library_moves s rows at e q in (omega arith, omega arith)
  after_moves false at e h q = let z : at ≡ e = cc in (omega arith, omega arith)

module _ (σ : Setting) (s : List ℕ) (rows : List Row) where
  -- ---- records

  -- members that begin after p; they may have no bytes
  pub members_ends : (own : Bool) (id n p at : ℕ) → p < at → at ≤ length s → EndsIn p (length s) (members_at σ s rows own id n at)
  unfolding members_at
  members_ends own id n p at i h =
      ends_field p (length s) _ (times (name_at σ s) n at) (λ types q.
      let a = names_there σ s n at types h q in
      ends_field p (length s) _ (times (type_byte_at s) n types) (λ infos r.
      let b = types_there s n types infos a.1 r in
      ends_field p (length s) _ (infos_at σ s rows n types infos) (λ x t.
      let c = infos_moves σ s rows n types infos x b.1 t in
      ends_field p (length s) _ (after_infos own s rows x) (λ e u.
      let d = after_moves s rows own x e c.1 u in
      (omega arith, omega arith)))))

  pub class_ends : (own : Bool) (at : ℕ) → EndsIn at (length s) (class_at σ s rows own at)
  unfolding class_at
  class_ends own at =
      ends_number at (length s) _ (u32_at s (at + 1)) (λ id p q.
      let a = number_moves s (at + 1) id p q in
      ends_pick at (length s) (good_class_id rows id) _ _ (λ t.
      ends_field at (length s) _ (name_at σ s p) (λ x r.
      let b = name_moves σ s p x r in
      ends_number at (length s) _ (u32_at s x) (λ n y u.
      let c = number_moves s x n y u in
      ends_pick at (length s) (negative n) _ _ (λ v. tt) (λ v. members_ends own id n at y (omega arith) c.1))))
      (λ t. tt))

module _ (β s : List ℕ) (rows : List Row) where
  pub class_by_id_ends : (at : ℕ) → EndsIn at (length s) (class_by_id_at β s rows at)
  unfolding class_by_id_at
  class_by_id_ends at =
      ends_number at (length s) _ (u32_at s (at + 1)) (λ id p q.
      let a = number_moves s (at + 1) id p q in
      ends_pick at (length s) (good_class_id rows id) _ _ (λ t.
      ends_number at (length s) _ (u32_at s p) (λ class e r.
      let b = number_moves s p class e r in
      ends_pick at (length s) (eqb (class_row class rows) 0) _ _ (λ u. tt) (λ u. (omega arith, omega arith))))
      (λ t. tt))
