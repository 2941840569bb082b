-- What stands at a place, and that the reader's answer depends only on the bytes that it takes.
use Rattle.std.specs.Prelude.{ℕ, zero, suc, ◌+◌, ◌-◌, ◌*◌, ◌%◌, ◌<◌, ◌≡◌, refl, List, [], ◌∷◌, ◌++◌, length, get_or, drop, Ok}
use Rattle.std.proofs.Common.{sym, ap, ap₂, ◌∙◌, arith}
use Rattle.format.specs.declared.Setting.{Setting}
use Rattle.format.specs.declared.Setting.TheVariants as S
use Rattle.format.specs.Bytes.{part}
use Rattle.format.specs.Prefix.{prefix_in, later_least, prefix_at}
use Rattle.fields.specs.Parts.{part_first, part_to, stands_at, there}
use Rattle.prefix.specs.Laws.{One, On, every, fifth, last, more}

-- what stands at p, where the rest of the stream from p is known
pub record Head (s : List ℕ) (p b : ℕ) (l : List ℕ) : Type 0 where
  pub inside : p < length s
  pub byte : get_or s p 0 ≡ b
  pub rest : drop (p + 1) s ≡ l

pub head_at : (s : List ℕ) (p b : ℕ) (l : List ℕ) → drop p s ≡ b ∷ l → Head s p b l
head_at s p b l e =
    let w = stands_at s (b ∷ []) l p 1 refl (there s (b ∷ []) l p (omega arith) e) e in
    record {
      inside = omega (arith, w.room);
      byte = sym (part_first s p 1 (omega arith)) ∙ ap (λ (m : List ℕ). get_or m 0 0) w.same;
      rest = w.after;
    }

-- ---- only the bytes that are taken

module _ (σ : Setting) (s t rest : List ℕ) where
  -- the same bytes at any place of t give the same number
  record Alike (k least p n e : ℕ) : Type 0 where
    after : p < e
    same : (q : ℕ) → drop q t ≡ part s p (e - p) ++ rest → prefix_in k least (later_least σ) t q ≡ Ok (n, q + (e - p))

  stands : (p e q : ℕ) → p < length s → p < e → drop q t ≡ part s p (e - p) ++ rest → Head t q (get_or s p 0) (part s (p + 1) (e - (p + 1)) ++ rest)
  stands p e q i h d = head_at t q (get_or s p 0) (part s (p + 1) (e - (p + 1)) ++ rest) (d ∙ rw (part_to s p e i h))

  alike_one : One s Alike
  alike_one k least p i l h f = record { after = omega arith; same = λ q d. go k f q (stands p (p + 1) q i (omega arith) d) }
    where
      go : (k : ℕ) → (k ≡ 0 → get_or s p 0 < 8) → (q : ℕ) → Head t q (get_or s p 0) (part s (p + 1) (p + 1 - (p + 1)) ++ rest)
          → prefix_in k least (later_least σ) t q ≡ Ok (get_or s p 0, q + (p + 1 - p))
      go zero f q b =
          fifth least (later_least σ) t q b.inside (rw b.byte l) 0 refl (rw b.byte (f refl)) ∙ ap₂ (λ (x y : ℕ). Ok (x, y)) b.byte (omega arith)
      go (suc k) f q b =
          last least (later_least σ) t q b.inside (rw b.byte l) (suc k) (omega arith) (rw b.byte h) ∙ ap₂ (λ (x y : ℕ). Ok (x, y)) b.byte (omega arith)

  alike_on : On (later_least σ) s Alike
  alike_on k least p m e i l h a = record { after = omega (arith, a.after); same = go }
    where
      go : (q : ℕ) → drop q t ≡ part s p (e - p) ++ rest → prefix_in (suc k) least (later_least σ) t q ≡ Ok (get_or s p 0 % 128 + 128 * m, q + (e - p))
      go q d =
          let b = stands p e q i (omega (arith, a.after)) d in
          let j : suc k - 1 ≡ k = omega arith in
          let r = a.same (q + 1) b.rest in
          rw (more least (later_least σ) t q b.inside (rw b.byte l) (suc k) (omega arith) (rw b.byte h), b.byte, j, r)
          (ap (λ (x : ℕ). Ok (get_or s p 0 % 128 + 128 * m, x)) (omega (arith, a.after)))

  pub only : (p q n e : ℕ) → prefix_at σ s p ≡ Ok (n, e) → drop q t ≡ part s p (e - p) ++ rest → prefix_at σ t q ≡ Ok (n, q + (e - p))
  only p q n e a d =
      let x : Alike 4 0 p n e = rw a at (every (later_least σ) s Alike alike_one alike_on 4 0 p) in
      x.same q d
