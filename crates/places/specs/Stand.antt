-- Bytes that stand at a place of a stream: one after the other, and parts of them.
use Rattle.std.specs.Prelude.{ℕ, ◌+◌, ◌-◌, ◌≤◌, ◌<◌, ◌≡◌, refl, List, [], ◌∷◌, ◌++◌, length, get_or, drop}
use Rattle.std.proofs.Common.{sym, ap, ◌∙◌, append_assoc, arith, add-one, length-drop, length-append, take-append-drop, drop-cons, drop-drop, take_at}
use Rattle.format.specs.Bytes.{part}
use Rattle.fields.specs.Parts.{stands_at}

-- b stands at p, and e is the place after it
pub record Stand (s b : List ℕ) (p e : ℕ) : Type 0 where
  pub bytes : drop p s ≡ b ++ drop e s
  pub onward : p ≤ e
  pub room : e ≤ length s

module _ {s b : List ℕ} {p e : ℕ} where
  pub stand_size : Stand s b p e → e ≡ p + length b
  stand_size w = omega (arith, simp (length-drop, length-append) at (ap length w.bytes))

  pub stand_same : Stand s b p e → part s p (e - p) ≡ b
  stand_same w =
      let k = stand_size w in
      rw w.bytes (take_at b (drop e s) (e - p) (omega arith))

-- where the rest of the stream is known
module _ (s b r : List ℕ) (p : ℕ) (h : p ≤ length s) (d : drop p s ≡ b ++ r) where
  pub stand_of : Stand s b p (p + length b)
  stand_of =
      let w = stands_at s b r p (length b) refl h d in
      record { bytes = d ∙ ap (λ (l : List ℕ). b ++ l) (sym w.after); onward = omega arith; room = w.room }

  pub stand_rest : drop (p + length b) s ≡ r
  stand_rest = (stands_at s b r p (length b) refl h d).after

pub stand_none : {s : List ℕ} {p : ℕ} → p ≤ length s → Stand s [] p p
stand_none h = record { bytes = refl; onward = omega arith; room = h }

pub stand_part : {s : List ℕ} {p e : ℕ} → p ≤ e → e ≤ length s → Stand s (part s p (e - p)) p e
stand_part {s} {p} {e} h g =
    let k : p + (e - p) ≡ e = omega arith in
    record { bytes = sym (rw (drop-drop (e - p) p s, k) at (take-append-drop (e - p) (drop p s))); onward = h; room = g }

pub stand_byte : {s : List ℕ} {p : ℕ} → p < length s → Stand s (get_or s p 0 ∷ []) p (p + 1)
stand_byte {s} {p} h = record { bytes = rw add-one (drop-cons s p 0 h); onward = omega arith; room = omega arith }

pub stand_is : {s : List ℕ} {p : ℕ} (x : ℕ) → p < length s → get_or s p 0 ≡ x → Stand s (x ∷ []) p (p + 1)
stand_is x h e = rw (← e) (stand_byte h)

-- ---- one after the other

pub stand_then : {s a b : List ℕ} {p m e : ℕ} → Stand s a p m → Stand s b m e → Stand s (a ++ b) p e
stand_then {s} {a} {b} {p} {m} {e} v w =
    record {
      bytes = v.bytes ∙ (ap (λ (l : List ℕ). a ++ l) w.bytes ∙ sym (append_assoc a b (drop e s)));
      onward = omega (arith, v.onward, w.onward);
      room = w.room;
    }

-- and the place in between
pub stand_split : {s : List ℕ} (a b : List ℕ) {p e : ℕ} → Stand s (a ++ b) p e → (m : ℕ) × Stand s a p m × Stand s b m e
stand_split {s} a b {p} {e} w =
    let k = stand_size w in
    let l : length (a ++ b) ≡ length a + length b = length-append a b in
    let d : drop p s ≡ a ++ (b ++ drop e s) = w.bytes ∙ append_assoc a b (drop e s) in
    let h : p ≤ length s = omega (arith, w.onward, w.room) in (
      p + length a,
      stand_of s a (b ++ drop e s) p h d,
      record { bytes = stand_rest s a (b ++ drop e s) p h d; onward = omega arith; room = w.room },
    )

module _ {s b : List ℕ} {x p e : ℕ} (w : Stand s (x ∷ b) p e) where
  pub stand_inside : p < length s
  stand_inside = let k = stand_size w in omega (arith, w.room)

  pub stand_here : get_or s p 0 ≡ x
  stand_here =
      let d = drop-cons s p 0 stand_inside in
      let f = w.bytes in
      cc

  pub stand_after : Stand s b (p + 1) e
  stand_after =
      let k = stand_size w in
      let d = drop-cons s p 0 stand_inside in
      let f = w.bytes in
      record { bytes = rw add-one (cc); onward = omega arith; room = w.room }
