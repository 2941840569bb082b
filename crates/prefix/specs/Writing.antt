-- Laws of writing at the front of a lent part, for writers of any bytes.
use Rattle.std.specs.Prelude.{ℕ, ◌+◌, ◌-◌, ◌≤◌, ◌<◌, ◌≡◌, refl, List, [], ◌∷◌, ◌++◌, length, take, drop, set}
use Rattle.std.proofs.Common.{sym, ◌∙◌, append_assoc, append-nil, arith, length-append, length-drop, drop_of_length-le, take_at, drop_at, take_all, drop-drop, le-leb}
use borrow.Rule.Slice.PartMut.{put_mid, mid_of}
use Rattle.std.proofs.lemmas.Bool.{lt-leb}
use Rattle.format.specs.Bytes.{laid, Written}

pub laid_one : (b : ℕ) (d : List ℕ) → 0 < length d → set d 0 b ≡ laid (b ∷ []) d
unfolding laid
laid_one b [] h = absurd (omega arith)
laid_one b (x ∷ xs) h = refl

-- h is written, and then the rest from a is handed on to a writer of g: what the whole then holds
pub handed : (a : ℕ) (h g d xs ys : List ℕ) → length h ≡ a → xs ≡ laid h d → ys ≡ laid g (mid_of a (length xs - a) xs)
    → put_mid a (length xs - a) xs ys ≡ laid (h ++ g) d
unfolding laid
handed a h g d xs ys e x y =
    let t : take a xs ≡ h = rw x (take_at h (drop (length h) d) a e) in
    let r : drop a xs ≡ drop a d = rw (x, e) (drop_at h (drop a d) a e) in
    let l : length xs - a ≡ length (drop a xs) = sym (length-drop a xs) in
    let m : mid_of a (length xs - a) xs ≡ drop a d = rw (l, r) (take_all (length (drop a d)) (drop a d) (omega arith)) in
    let p : drop (length xs - a) (drop a xs) ≡ [] = drop_of_length-le (drop a xs) {i = length xs - a} (omega arith) in
    rw (t, p, append-nil, y, m, drop-drop, length-append, e) (sym (append_assoc h g (drop (a + length g) d)))

-- ---- the two ways that a writer ends
pub written_none : (b d : List ℕ) → length d < length b → Written b d d (length b)
written_none b d h = record { total = refl; bytes = simp lt-leb }

pub written_all : (b d : List ℕ) → length b ≤ length d → Written b d (laid b d) (length b)
written_all b d h = record { total = refl; bytes = simp le-leb }

-- ---- for a caller that knows whether there was room
pub written_room : (b d e : List ℕ) (r : ℕ) → Written b d e r → length b ≤ length d → e ≡ laid b d
written_room b d e r w h = w.bytes ∙ simp le-leb
