-- Text is well-formed exactly when it is the UTF-8 form of some scalar values, and it is the form of no others.
use Rattle.std.specs.Prelude.{ℕ, zero, suc, ◌≤◌, ◌≡◌, refl, ◌↔◌, true, List, [], ◌∷◌, length, drop}
use Rattle.std.proofs.Common.{sym, ap, ap₂, ◌∙◌, arith, length-append, drop_at, eqb-true, eq-eqb}
use Rattle.format.specs.Text.{between, after, well_formed}
use Rattle.format.specs.Unicode.{encode, encoded, Encodes}
use Rattle.utf8.specs.Widths.{some_bytes, first_in, first_again}
use Rattle.utf8.specs.Firsts.{first}
use Rattle.utf8.specs.Passes.{all_pass}

-- of well-formed text of at most n bytes
abbrev Decoded : ℕ → Type 0
Decoded n = (l : List ℕ) → length l ≤ n → (after between l).need ≡ 0 → (cs : List ℕ) × Encodes cs l

some_scalars : (n : ℕ) → Decoded n
some_scalars zero [] h e = ([], record { scalars = tt; bytes = refl })
some_scalars zero (b ∷ l) h e = absurd (omega arith)
some_scalars (suc n) l h e = go (some_scalars n) l h e
  where
    go : Decoded n → Decoded (suc n)
    go again [] h e = ([], record { scalars = tt; bytes = refl })
    go again (b ∷ l) h e =
        let w = first b l e in
        let s = some_bytes w.scalar in
        let j = simp length-append at (ap length w.bytes) in
        let v = again w.rest (omega arith) w.good in
        (w.scalar ∷ v.0, record { scalars = (w.is, v.1.scalars); bytes = rw v.1.bytes (sym w.bytes) })

-- for every list of numbers: it is well-formed text exactly when it is the UTF-8 form of some scalar values
pub utf8_exactly : (l : List ℕ) → (well_formed l ≡ true) ↔ ((cs : List ℕ) × Encodes cs l)
unfolding well_formed
utf8_exactly l = (
  λ e. some_scalars (length l) l (omega arith) (eqb-true (after between l).need 0 e),
  λ w. eq-eqb (after between l).need 0 (rw w.1.bytes at (all_pass w.0 w.1.scalars)),
)

encoded_once : (cs ds : List ℕ) → encoded cs ≡ encoded ds → cs ≡ ds
encoded_once [] [] e = refl
encoded_once [] (d ∷ ds) e = absurd (omega (arith, some_bytes d, simp length-append at (ap length e)))
encoded_once (c ∷ cs) [] e = absurd (omega (arith, some_bytes c, simp length-append at (ap length e)))
encoded_once (c ∷ cs) (d ∷ ds) e =
    let p : c ≡ d = sym (first_again c (encoded cs)) ∙ (ap first_in e ∙ first_again d (encoded ds)) in
    let n = ap (λ (x : ℕ). length (encode x)) (sym p) in
    let u = drop_at (encode c) (encoded cs) (length (encode c)) refl in
    let v = drop_at (encode d) (encoded ds) (length (encode c)) n in
    let q = sym u ∙ (ap (drop (length (encode c))) e ∙ v) in
    ap₂ (λ (x : ℕ) (l : List ℕ). x ∷ l) p (encoded_once cs ds q)

-- the scalar values of text are settled
pub utf8_once : (l cs ds : List ℕ) → Encodes cs l → Encodes ds l → cs ≡ ds
utf8_once l cs ds a b = encoded_once cs ds (a.bytes ∙ sym b.bytes)
