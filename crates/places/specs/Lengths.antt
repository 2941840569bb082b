-- The lengths of an array at a place, with their exact product, and its rank (01, Records, BinaryArray): those that the grammar takes are
-- those that end, and read at a place they are those written there.
use Prim.Native.Nat.{ℕ, zero, suc, ◌+◌, ◌*◌, ◌≤◌}
use Rattle.std.specs.Prelude.{◌≡◌, Bool, leb, Option, Some, None, Ok, Err, Result}
use Rattle.std.proofs.Math.Path.{refl}
use Rattle.std.proofs.Common.{sym, ◌∙◌, subst, le-leb, leb-true, eqb-true}
use Rattle.std.proofs.Math.Bool.{true, false}
use mathlib.Core.List.{List, [], ◌∷◌}
use native.Mathlib.Omega.{arith}
use Rattle.std.proofs.Math.Nat.{mul_assoc}
use Rattle.std.proofs.Math.ListN.{length}
use Rattle.format.specs.declared.Refusal.{Refusal}
use Rattle.format.specs.declared.Refusal.TheVariants as R
use Rattle.format.specs.Bytes.{pick}
use Rattle.format.specs.Numbers.{le_bytes, u32_at, negative}
use Rattle.format.specs.Records.{good_rank, on_length, lengths_at}
use Rattle.format.specs.Contents.{numbers_bytes}
use Rattle.format.specs.Says.{number_from, numbers_from}
use Rattle.format.specs.Grammar.{product, Lengths, no_length, length_of_rule, Ranked, single, jagged, rectangular}
use Rattle.fields.specs.Judged.{told}
use Rattle.fields.specs.Pairs.{ok_pair}
use Rattle.num.specs.Le.{Bytes}
use Rattle.laws.specs.Tests.{both_of}
use Rattle.places.specs.Stand.{Stand, stand_size, stand_none, stand_then, stand_split}
use Rattle.places.specs.Fields.{number_there, number_back, not_negative, below_negative}

-- ---- rank

pub ranked_there : (type rank : ℕ) → Ranked type rank → good_rank type rank ≡ true
ranked_there type rank single = refl
ranked_there type rank jagged = refl
ranked_there type rank (rectangular h g) = rw (le-leb 2 rank h, le-leb rank 32 g)

pub ranked_back : (type rank : ℕ) → type ≤ 2 → good_rank type rank ≡ true → Ranked type rank
ranked_back zero rank h e = subst (λ (n : ℕ). Ranked 0 n) (sym (eqb-true rank 1 e)) single
ranked_back (suc zero) rank h e = subst (λ (n : ℕ). Ranked 1 n) (sym (eqb-true rank 1 e)) jagged
ranked_back (suc (suc zero)) rank h e =
    let w = both_of (leb 2 rank) (leb rank 32) e in
    rectangular (leb-true 2 rank w.0) (leb-true rank 32 w.1)
ranked_back (suc (suc (suc n))) rank h e = absurd (omega arith)

pub ranked_small : (type rank : ℕ) → Ranked type rank → (type ≤ 2) × (rank ≤ 32)
ranked_small type rank single = (omega arith, omega arith)
ranked_small type rank jagged = (omega arith, omega arith)
ranked_small type rank (rectangular h g) = (omega arith, g)

-- ---- lengths

no_product : {A : Type 0} (f : Refusal) (m e : ℕ) → ◌≡◌ {A = Result (ℕ × ℕ) Refusal} (Err f) (Ok (m, e)) → A
no_product f m e q = absurd (let z : ◌≡◌ {A = ℕ} 0 1 = cc in omega arith)

module _ (s : List ℕ) where
  -- over the product k of the lengths before
  pub lengths_there : (ns : List ℕ) (k p e : ℕ) → Lengths ns → k * product ns ≤ 2147483647 → Stand s (numbers_bytes ns) p e
      → lengths_at s (length ns) k p ≡ Ok (k * product ns, e)
  unfolding lengths_at
  lengths_there ns k p e no_length h w =
      let z = stand_size w in
      let y : p ≡ e = omega arith in
      let x : k * 1 ≡ k = omega arith in
      rw (le-leb k 2147483647 (omega arith), x, y)
  lengths_there ns k p e (length_of_rule {n = n} {ns = rest} g gs) h w =
      let x = stand_split (le_bytes 4 n) (numbers_bytes rest) w in
      let y : k * n * product rest ≡ k * (n * product rest) = mul_assoc k n (product rest) in
      rw (number_there s n p x.0 (omega arith) x.1, not_negative n g, ← y)
      (lengths_there rest (k * n) x.0 e gs (rw y h) x.2)

  pub record LengthsAt (ns : List ℕ) (k m p e : ℕ) : Type 0 where
    pub good : Lengths ns
    pub exactly : m ≡ k * product ns
    pub small : m ≤ 2147483647
    pub stands : Stand s (numbers_bytes ns) p e

  pub lengths_back : (n k m p e : ℕ) → Bytes s → p ≤ length s → lengths_at s n k p ≡ Ok (m, e) → LengthsAt (numbers_from s n p) k m p e
  unfolding lengths_at numbers_from
  lengths_back zero k m p e b h q =
      let w = told (leb k 2147483647) (Ok (k, p)) (Err R.BadCount) (Ok (m, e)) q (no_product R.BadCount m e) in
      last (leb-true k 2147483647 w.0) w.1
    where
      last : k ≤ 2147483647 → ◌≡◌ {A = Result (ℕ × ℕ) Refusal} (Ok (k, p)) (Ok (m, e)) → LengthsAt [] k m p e
      last g q =
          let x : k ≡ m = (ok_pair q).0 in
          let y : p ≡ e = (ok_pair q).1 in
          record { good = no_length; exactly = omega arith; small = omega arith; stands = rw (← y) (stand_none h) }
  lengths_back (suc n) k m p e b h q = go (u32_at s p) refl q (λ v x. lengths_back n (k * v) m x e b)
    where
      go : (r : Option (ℕ × ℕ)) → u32_at s p ≡ r → on_length (λ v x. lengths_at s n (k * v) x) r ≡ Ok (m, e)
          → ((v x : ℕ) → x ≤ length s → lengths_at s n (k * v) x ≡ Ok (m, e) → LengthsAt (numbers_from s n x) (k * v) m x e)
          → LengthsAt (number_from s p ∷ numbers_from s n (p + 4)) k m p e
      go None r q again = no_product R.CutShort m e q
      go (Some (v, x)) r q again = judge (negative v) refl q
        where
          judge : (t : Bool) → negative v ≡ t → pick t (Err R.BadCount) (lengths_at s n (k * v) x) ≡ Ok (m, e)
              → LengthsAt (number_from s p ∷ numbers_from s n (p + 4)) k m p e
          judge true t q = no_product R.BadCount m e q
          judge false t q =
              let w = number_back s p v x b r in
              let y = again v x w.stands.room q in
              let z : x ≡ p + 4 = w.next in
              rw (w.from, ← z) (record {
                good = length_of_rule (below_negative v t) y.good;
                exactly = y.exactly ∙ mul_assoc k v (product (numbers_from s n x));
                small = y.small;
                stands = stand_then w.stands y.stands;
              })
