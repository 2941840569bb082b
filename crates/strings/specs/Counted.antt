-- A prefix and then as many bytes as it says, which a test judges: the shape of the prefixed string and of Decimal.
use Rattle.std.specs.Prelude.{ℕ, ◌+◌, ◌-◌, ◌≤◌, ◌<◌, ◌≡◌, Bool, List, ◌++◌, length, drop, Ok}
use Rattle.std.proofs.Common.{arith}
use Rattle.format.specs.declared.Setting.{Setting}
use Rattle.format.specs.declared.Refusal.{Refusal}
use Rattle.format.specs.declared.Setting.TheVariants as S
use Rattle.format.specs.Bytes.{part}
use Rattle.format.specs.Prefix.{prefix_at}
use Rattle.fields.specs.Parts.{length_part, halves, stands_at}
use Rattle.fields.specs.Judged.{judged_at, judged_taken, judged_only}
use Rattle.prefix.specs.Laws.{moves}
use Rattle.prefix.specs.Both.{only}

module _ (σ : Setting) (test : List ℕ → Bool) (refusal : Refusal) where
  -- the prefix at p says n, a is the place after it, and e the place after the n bytes
  pub record Counted (s : List ℕ) (p n a e : ℕ) : Type 0 where
    pub says : prefix_at σ s p ≡ Ok (n, a)
    pub ends : judged_at test refusal s a n ≡ Ok e

  pub counted_moves : (s : List ℕ) (p n a e : ℕ) → Counted s p n a e → (p < a) × (a ≤ e) × (e ≤ length s)
  counted_moves s p n a e c =
      let m = moves σ s p n a c.says in
      let w = judged_taken test refusal s a n e c.ends in
      (m.0, omega arith, omega arith)

  pub counted_only : (s t rest : List ℕ) (p q n a e : ℕ) → Counted s p n a e → drop q t ≡ part s p (e - p) ++ rest
      → Counted t q n (q + (a - p)) (q + (e - p))
  counted_only s t rest p q n a e c d =
      let m = counted_moves s p n a e c in
      let d2 = halves s t rest p a e q (omega arith) m.1 d in
      let f = only σ s t (part s a (e - a) ++ rest) p q n a c.says d2 in
      let i = moves σ t q n (q + (a - p)) f in
      let l = length_part s p (a - p) (omega arith) in
      let w = stands_at t (part s p (a - p)) (part s a (e - a) ++ rest) q (a - p) l (omega arith) d2 in
      let g = judged_only test refusal s t rest a (q + (a - p)) n e c.ends w.room w.after in
      let k : q + (a - p) + (e - a) ≡ q + (e - p) = omega arith in
      record { says = f; ends = rw k at g }
