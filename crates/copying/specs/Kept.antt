-- A stretch of kept rows in the copy: the nulls before it, then one part of the stream.
use Rattle.std.specs.Prelude.{ℕ, ◌+◌, ◌-◌, ◌*◌, ◌≤◌, ◌<◌, ◌≡◌, refl, Bool, true, false, get_or, eqb, leb}
use Rattle.std.proofs.Math.Path.{sym, ap}
use Rattle.std.proofs.Common.{◌∙◌, arith, add-one, length-drop}
use mathlib.Core.List.{List, [], ◌∷◌, ◌++◌, append_assoc}
use Rattle.std.proofs.Math.ListN.{length, drop}
use Rattle.std.proofs.Math.Seq.{drop-drop}
use borrow.Author.Tests.{eqb-true, leb-true}
use borrow.Rule.Slice.PartMut.{put_mid, mid_of}
use Rattle.format.specs.declared.Row.{Row}
use Rattle.format.specs.Bytes.{pick}
use Rattle.format.specs.Contents.{encs}
use Rattle.format.specs.Tidy.{run_of}
use Rattle.fields.specs.Parts.{part_through}
use Rattle.fields.specs.Tests.{both_of}
use Rattle.fields.specs.Judged.{picked}
use Rattle.put.specs.Out.{between, run_out}
use Rattle.put.specs.Put.{capped, Filled, Least, Along, along_more}
use Rattle.pieces.specs.declared.Gathered.{Gathered}
use Rattle.pieces.specs.Copy.{value_out, typed_out, none_yet, before_out, record_out, run_after, row_out, copy_from, copy_of}
use Rattle.pieces.specs.Laws.{record_as_lem}
use Rattle.stretches.specs.declared.Stretch.{Stretch}
use Rattle.stretches.specs.Stretches.{is_kept, is_next, stretch}

-- a kept row is a value that is not written anew: a member value, or one behind its kind and its code
data Plain (δ : ℕ) (s : List ℕ) (r : Row) : Type 0 where
  a_member : r.kind ≡ 32 → eqb r.link δ ≡ false → Plain δ s r
  typed : r.kind ≡ 8 → eqb (get_or s (r.offset + 1) 0) δ ≡ false → r.offset + 2 ≤ r.end → Plain δ s r

kept_plain : (δ : ℕ) (s : List ℕ) (r : Row) → is_kept δ s r ≡ true → Plain δ s r
kept_plain δ s r h = go (eqb r.kind 32) refl (eqb r.link δ) refl (eqb r.kind 8) refl (eqb (get_or s (r.offset + 1) 0) δ) refl h
  where
    not : {X : Type 0} → false ≡ true → X
    not e = absurd (let z : ◌≡◌ {A = ℕ} 0 1 = cc in omega arith)

    go : (t : Bool) → eqb r.kind 32 ≡ t → (u : Bool) → eqb r.link δ ≡ u → (v : Bool) → eqb r.kind 8 ≡ v
        → (w : Bool) → eqb (get_or s (r.offset + 1) 0) δ ≡ w
        → pick t (pick u false true) (pick v (pick w false (leb (r.offset + 2) r.end)) false) ≡ true → Plain δ s r
    go true a true b v c w d e = not e
    go true a false b v c w d e = a_member (eqb-true r.kind 32 a) b
    go false a u b true c true d e = not e
    go false a u b true c false d e = typed (eqb-true r.kind 8 c) d (leb-true (r.offset + 2) r.end e)
    go false a u b false c w d e = not e

-- ---- one kept row

module _ (δ : ℕ) (s : List ℕ) (rs : List Row) (i p : ℕ) (w : Gathered) (r : Row) (h : is_next δ s p r ≡ true) where
  kept : is_kept δ s r ≡ true
  unfolding is_next
  kept = (both_of (leb p r.end) (is_kept δ s r) (both_of (eqb r.offset p) _ h).1).1

  starts : r.offset ≡ p
  unfolding is_next
  starts = eqb-true r.offset p (both_of (eqb r.offset p) _ h).0

  ends : p ≤ r.end
  unfolding is_next
  ends = leb-true p r.end (both_of (leb p r.end) (is_kept δ s r) (both_of (eqb r.offset p) _ h).1).0

  kept_before : before_out w r ≡ run_out w.count
  unfolding before_out
  kept_before = go (kept_plain δ s r kept)
    where
      go : Plain δ s r → before_out w r ≡ run_out w.count
      go (a_member k l) = rw k
      go (typed k l e) = rw k

  kept_record : record_out δ s rs i r ≡ between s p r.end
  unfolding record_out typed_out
  kept_record = go (kept_plain δ s r kept)
    where
      go : Plain δ s r → record_out δ s rs i r ≡ between s p r.end
      go (a_member k l) = rw (k, starts, l)
      go (typed k l e) =
          record_as_lem δ s rs i r 8 k
          ∙ (ap (λ (t : Bool). between s r.offset (r.offset + 2) ++ value_out s t (r.offset + 2) r.end) l
          ∙ (sym (part_through s r.offset (r.offset + 2) r.end (omega arith) e) ∙ ap (λ (o : ℕ). between s o r.end) starts))

  kept_after : run_after w r ≡ none_yet
  unfolding run_after
  kept_after = go (kept_plain δ s r kept)
    where
      go : Plain δ s r → run_after w r ≡ none_yet
      go (a_member k l) = rw k
      go (typed k l e) = rw k

  -- the nulls before it, its bytes, and what follows after nothing that waits
  kept_row : (more : List Row) → copy_from δ s rs i w (r ∷ more) ≡ run_out w.count ++ (between s p r.end ++ copy_from δ s rs (i + 1) none_yet more)
  unfolding copy_from row_out
  kept_row more = rw (kept_before, kept_record, kept_after, append_assoc)

-- ---- a stretch

-- rows that follow one another are one part of the stream
record Whole (δ : ℕ) (s : List ℕ) (rs : List Row) (i p : ℕ) (l : List Row) (q : Stretch) : Type 0 where
  pub onwards : p ≤ q.end
  pub counted : i ≤ q.next
  pub within : q.next ≤ i + length l
  pub bytes : copy_from δ s rs i none_yet l ≡ between s p q.end ++ copy_from δ s rs q.next none_yet (drop q.next rs)

no_run : run_out 0 ≡ []
unfolding run_out run_of encs
no_run = refl

module _ (δ : ℕ) (s : List ℕ) (rs : List Row) where
  unmoved : (l : List Row) (i p : ℕ) → l ≡ drop i rs → Whole δ s rs i p l (record { next = i; end = p })
  unmoved l i p e =
      let z : p - p ≡ 0 = omega arith in
      record { onwards = omega arith; counted = omega arith; within = omega arith; bytes = rw (z, e) refl }

  whole : (l : List Row) (i p : ℕ) → l ≡ drop i rs → Whole δ s rs i p l (stretch δ s i p l)
  unfolding stretch
  whole [] i p e = unmoved [] i p e
  whole (r ∷ more) i p e =
      picked (λ (q : Stretch). Whole δ s rs i p (r ∷ more) q) (is_next δ s p r)
      (λ h.
      let o : more ≡ drop (i + 1) rs = ap (λ (l : List Row). drop 1 l) e ∙ drop-drop 1 i rs in
      let w = whole more (i + 1) r.end o in
      let q = stretch δ s (i + 1) r.end more in
      let b = ends δ s rs i p none_yet r h in
      let c : length (r ∷ more) ≡ length more + 1 = sym (add-one (length more)) in
      record {
        onwards = omega (arith, w.onwards);
        counted = omega (arith, w.counted);
        within = omega (arith, w.within);
        bytes =
            let more_of_lem = copy_from δ s rs q.next none_yet (drop q.next rs) in
            let one : copy_from δ s rs i none_yet (r ∷ more) ≡ between s p r.end ++ copy_from δ s rs (i + 1) none_yet more = rw no_run at (kept_row δ s rs i p none_yet r h more) in
            let two : copy_from δ s rs i none_yet (r ∷ more) ≡ (between s p r.end ++ between s r.end q.end) ++ more_of_lem =
            one ∙ (ap (λ (l : List ℕ). between s p r.end ++ l) w.bytes ∙ sym (append_assoc (between s p r.end) (between s r.end q.end) more_of_lem)) in
            two ∙ ap (λ (l : List ℕ). l ++ more_of_lem) (sym (part_through s p r.end q.end b w.onwards));
      })
      (λ h. unmoved (r ∷ more) i p e)

  -- only the nulls that wait before the first of its rows are written with it
  after_nulls : (l : List Row) (i p : ℕ) (w : Gathered) → i < (stretch δ s i p l).next → copy_from δ s rs i w l ≡ run_out w.count ++ copy_from δ s rs i none_yet l
  unfolding stretch
  after_nulls [] i p w = λ k. absurd (omega arith)
  after_nulls (r ∷ more) i p w =
      picked (λ (q : Stretch). i < q.next → copy_from δ s rs i w (r ∷ more) ≡ run_out w.count ++ copy_from δ s rs i none_yet (r ∷ more)) (is_next δ s p r)
      (λ h k. kept_row δ s rs i p w r h more ∙ ap (λ (l : List ℕ). run_out w.count ++ l) (sym (kept_row δ s rs i p none_yet r h more ∙ rw no_run)))
      (λ h k. absurd (omega arith))

-- a part d of the output, which is e after i rows and a bytes: the nulls that wait and a stretch q from place p on are written at m, as y
module _ (δ : ℕ) (s d e y : List ℕ) (rs : List Row) (n i a b m t p : ℕ) (w v : Gathered) (q : Stretch) where
  pub stretch_copied : length rs ≡ n → i < n → q ≡ stretch δ s i p (drop i rs) → i < q.next → v ≡ none_yet
      → Along (copy_of δ s rs) (copy_from δ s rs i w (drop i rs)) d e a → Least a (length e) m → t ≡ capped (a + b)
      → length y ≡ length (mid_of m (length e - m) e) → Filled (run_out w.count ++ between s p q.end) (mid_of m (length e - m) e) y b
      → (q.next ≤ n) × (v.count ≤ 4294967296 * q.next)
      × Along (copy_of δ s rs) (copy_from δ s rs q.next v (drop q.next rs)) d (put_mid m (length e - m) e y) t
  stretch_copied l h x k z f j g o c =
      let u : Whole δ s rs i p (drop i rs) q = rw x (whole δ s rs (drop i rs) i p refl) in
      let k' : i < (stretch δ s i p (drop i rs)).next = rw (← x) k in
      let rest = copy_from δ s rs q.next none_yet (drop q.next rs) in
      let split : copy_from δ s rs i w (drop i rs) ≡ (run_out w.count ++ between s p q.end) ++ rest =
      after_nulls δ s rs (drop i rs) i p w k' ∙ (rw u.bytes (sym (append_assoc (run_out w.count) (between s p q.end) rest))) in
      let c' : v.count ≡ 0 = ap (λ (g : Gathered). g.count) z in
      let r : length (drop i rs) ≡ n - i = length-drop i rs ∙ rw l in (
        omega (arith, u.within),
        omega arith,
        rw z (along_more (copy_of δ s rs) (copy_from δ s rs i w (drop i rs)) d e y a b m t f j g (run_out w.count ++ between s p q.end) rest split o c),
      )
