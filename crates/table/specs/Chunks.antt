-- A list of words as chunks of w words: laws over the width, none of which knows what a chunk says.
use Rattle.std.specs.Prelude.{◌≡◌, get_or, set}
use Rattle.std.proofs.Math.Path.{refl, ap}
use Rattle.std.proofs.Common.{◌∙◌, arith, add_assoc}
use mathlib.Core.List.{List, [], ◌∷◌, ◌++◌, append_assoc, map}
use Prim.Native.Nat.{ℕ, zero, suc, ◌+◌, ◌-◌, ◌*◌, ◌≤◌, ◌<◌}
use Rattle.std.proofs.Math.Nat.{mul-zero, zero-add}
use Rattle.std.proofs.Math.ListN.{length, take, drop, length-drop}
use Rattle.std.proofs.Math.Seq.{drop-drop, take_at, drop_at, take-add, length-take-le, take-set-lt, take-set-le, drop-set-lt, drop-set-add}
use Rattle.fields.specs.Parts.{pieces}

unfoldable pub chunks : ℕ → ℕ → List ℕ → List (List ℕ)
chunks w zero t = []
chunks w (suc n) t = take w t ∷ chunks w n (drop w t)

pub map_set : {A B : Type 0} (f : A → B) (l : List A) (i : ℕ) (a : A) → map f (set l i a) ≡ set (map f l) i (f a)
map_set f [] i a = refl
map_set f (x ∷ l) zero a = refl
map_set f (x ∷ l) (suc i) a = ap (λ (m : List _). f x ∷ m) (map_set f l i a)

module _ (w : ℕ) where
  pub length_chunks : (n : ℕ) (t : List ℕ) → length (chunks w n t) ≡ n
  unfolding chunks
  length_chunks zero t = refl
  length_chunks (suc n) t = ap suc (length_chunks n (drop w t))

  pub chunk_at : (n i : ℕ) (t : List ℕ) → i < n → get_or (chunks w n t) i [] ≡ take w (drop (w * i) t)
  unfolding chunks
  chunk_at zero i t h = absurd (omega arith)
  chunk_at (suc n) zero t h = rw mul-zero
  chunk_at (suc n) (suc i) t h = chunk_at n i (drop w t) (omega arith) ∙ rw (drop-drop, pieces w i)

  -- one chunk more is after the others
  pub chunks_suc : (n : ℕ) (t : List ℕ) → chunks w (suc n) t ≡ chunks w n t ++ (take w (drop (w * n) t) ∷ [])
  unfolding chunks
  chunks_suc zero t = rw mul-zero
  chunks_suc (suc n) t =
      let e : drop (w * n) (drop w t) ≡ drop (w * suc n) t = rw (drop-drop, pieces w n) in
      ap (λ (x : List (List ℕ)). take w t ∷ x) (chunks_suc n (drop w t) ∙ rw e)

  -- chunk i is written over
  pub chunk_over : (n i : ℕ) (t r : List ℕ) → length r ≡ w → i < n → w * n ≤ length t
      → chunks w n (take (w * i) t ++ (r ++ drop (w * i + w) t)) ≡ set (chunks w n t) i r
  unfolding chunks
  chunk_over zero i t r e h l = absurd (omega arith)
  chunk_over (suc n) zero t r e h l = rw (mul-zero, zero-add, take_at r (drop w t) w e, drop_at r (drop w t) w e)
  chunk_over (suc n) (suc i) t r e h l =
      let m : w * suc n ≡ w + w * n = pieces w n in
      let d : length (drop w t) ≡ length t - w = length-drop w t in
      let a : length (take w t) ≡ w = length-take-le w t (omega arith) in
      let rest : List ℕ = take (w * i) (drop w t) ++ (r ++ drop (w * i + w) (drop w t)) in
      let q : take (w * suc i) t ++ (r ++ drop (w * suc i + w) t) ≡ take w t ++ rest =
      rw (pieces w i, take-add, append_assoc, drop-drop (w * i + w) w t, add_assoc) in
      rw (q, take_at (take w t) rest w a, drop_at (take w t) rest w a)
      (ap (λ (x : List (List ℕ)). take w t ∷ x) (chunk_over n i (drop w t) r e (omega arith) (omega arith)))

  -- word k of chunk i is written over
  pub chunk_set : (n i k v : ℕ) (t : List ℕ) → i < n → k < w
      → chunks w n (set t (w * i + k) v) ≡ set (chunks w n t) i (set (get_or (chunks w n t) i []) k v)
  unfolding chunks
  chunk_set zero i k v t h l = absurd (omega arith)
  chunk_set (suc n) zero k v t h l = rw (mul-zero, zero-add, take-set-lt w t k v l, drop-set-lt w t k v l)
  chunk_set (suc n) (suc i) k v t h l =
      let e : w * suc i + k ≡ w + (w * i + k) = rw (pieces w i, add_assoc) in
      rw (
        e,
        take-set-le w t (w + (w * i + k)) v (omega arith),
        drop-set-add w t (w * i + k) v,
        chunk_set n i k v (drop w t) (omega arith) l,
      )
