-- The laws of the saved frames: the depth is the number of frames below, and each way a full
-- object is closed, a slot filled, an object opened.
use Rattle.std.specs.Prelude.{◌≡◌, List, [], ◌∷◌, length, get_or, set}
use Rattle.std.proofs.Math.Path.{refl}
use Rattle.std.proofs.Common.{ap, ◌∙◌, add-one, eq-eqb, ne_eqb, length-set, get_or-set_other, get_or-set_same}
use Prim.Native.Nat.{ℕ, zero, suc, ◌+◌, ◌-◌, ◌*◌, ◌≤◌, ◌<◌}
use native.Mathlib.Omega.{arith}
use Rattle.std.proofs.Math.Numerals.{add-two, add-three, add-four, add_five}
use Rattle.std.proofs.lemmas.List.Edits.{sets}
use Rattle.format.specs.declared.Where.{Where}
use Rattle.format.specs.declared.Where.TheVariants as W
use Rattle.format.specs.declared.Typed.{Typed}
use Rattle.format.specs.declared.Head.{Head}
use Rattle.format.specs.declared.Frame.{Frame}
use Rattle.format.specs.declared.Reader.{Reader}
use Rattle.format.specs.Machine.{close, filled_by, filled, opened, where_in}
use Rattle.slot_words.specs.Words.{slot_code, slot_back}
use Rattle.frames.specs.Frames.{frame_at, saved, open_of}

-- ---- the depth

pub length_saved : (f : List ℕ) (d : ℕ) → length (saved f d) ≡ d
unfolding saved
length_saved f zero = refl
length_saved f (suc d) = ap suc (length_saved f d)

pub where_top : (f : List ℕ) (d : ℕ) (w : Where) → d ≡ 0 → where_in (saved f d) w ≡ W.Top
unfolding saved
where_top f d w e = rw e

pub where_inside : (f : List ℕ) (d : ℕ) (w : Where) → (d ≡ 0 → ⊥) → where_in (saved f d) w ≡ w
unfolding saved
where_inside f zero w n = absurd (n refl)
where_inside f (suc d) w n = refl

-- ---- full objects are closed

module _ (g : Frame) (f : List ℕ) where
  pub close_end : (d : ℕ) → d ≡ 0 → record { cur = g; below = saved f d } ≡ close g (saved f d)
  unfolding saved close
  close_end d e = rw e

  pub close_stop : (d : ℕ) → (g.left ≡ 0 → ⊥) → record { cur = g; below = saved f d } ≡ close g (saved f d)
  unfolding saved close
  close_stop zero h = refl
  close_stop (suc d) h = rw (ne_eqb _ _ h)

  pub close_pop : (h : Frame) (d : ℕ) → (d ≡ 0 → ⊥) → g.left ≡ 0 → h ≡ frame_at f (d - 1)
      → close g (saved f d) ≡ close h (saved f (d - 1))
  unfolding saved close
  close_pop h zero n e q = absurd (n refl)
  close_pop h (suc d) n e q = let p : suc d - 1 ≡ d = omega arith in rw (eq-eqb _ _ e, q, p)

-- ---- a frame is saved

-- words before the stores stay
sets_before : (vs l : List ℕ) (b j : ℕ) → j < b → get_or (sets l b vs) j 0 ≡ get_or l j 0
sets_before [] l b j h = refl
sets_before (a ∷ vs) l b j h = sets_before vs (set l b a) (suc b) j (omega arith) ∙ get_or-set_other l b j a 0 (omega arith)

-- a word that was stored is there
sets_word : (vs l : List ℕ) (b i : ℕ) → i < length vs → b + length vs ≤ length l → get_or (sets l b vs) (b + i) 0 ≡ get_or vs i 0
sets_word [] l b i h z = absurd (omega arith)
sets_word (a ∷ vs) l b zero h z =
    let e : b + 0 ≡ b = omega arith in
    rw e (sets_before vs (set l b a) (suc b) b (omega arith) ∙ get_or-set_same l b a 0 (omega arith))
sets_word (a ∷ vs) l b (suc i) h z =
    let e : b + suc i ≡ suc b + i = omega arith in
    let s : length (set l b a) ≡ length l = length-set l b a in
    rw e (sets_word vs (set l b a) (suc b) i (omega arith) (omega arith))

-- frames whose words are the same are the same
saved_same : (f e : List ℕ) (d : ℕ) → ((j : ℕ) → j < 6 * d → get_or e j 0 ≡ get_or f j 0) → saved e d ≡ saved f d
unfolding saved frame_at
saved_same f e zero h = refl
saved_same f e (suc d) h =
    rw (
      h (6 * d) (omega arith),
      h (6 * d + 1) (omega arith),
      h (6 * d + 2) (omega arith),
      h (6 * d + 3) (omega arith),
      h (6 * d + 4) (omega arith),
      h (6 * d + 5) (omega arith),
      saved_same f e d (λ j l. h j (omega arith)),
    )

-- a frame's words
abbrev words_of : Frame → List ℕ
words_of g = g.owner ∷ g.count ∷ g.left ∷ slot_code g.typed.slot ∷ g.typed.types ∷ g.typed.infos ∷ []

saved_sets : (f : List ℕ) (d : ℕ) (g : Frame) → 6 * d + 6 ≤ length f → saved (sets f (6 * d) (words_of g)) (d + 1) ≡ g ∷ saved f d
unfolding saved frame_at
saved_sets f d g z =
    let e : List ℕ = sets f (6 * d) (words_of g) in
    let w : (i : ℕ) → i < 6 → get_or e (6 * d + i) 0 ≡ get_or (words_of g) i 0 = λ i h. sets_word (words_of g) f (6 * d) i h z in
    let b : 6 * d + 0 ≡ 6 * d = omega arith in
    let w0 : get_or e (6 * d) 0 ≡ g.owner = rw b at (w 0 (omega arith)) in
    rw (
      add-one d,
      w0,
      w 1 (omega arith),
      w 2 (omega arith),
      w 3 (omega arith),
      w 4 (omega arith),
      w 5 (omega arith),
      slot_back g.typed.slot,
      saved_same f e d (λ j l. sets_before (words_of g) f (6 * d) j l),
    )

-- six stores at index d, k being the word of the slot type
abbrev pub stored : List ℕ → ℕ → Frame → ℕ → List ℕ
stored f d g k =
    set (set (set (set (set (set f (6 * d) g.owner) (6 * d + 1) g.count) (6 * d + 2) g.left) (6 * d + 3) k)
    (6 * d + 4) g.typed.types) (6 * d + 5) g.typed.infos

-- they make the last of d + 1 frames
pub save_at : (f : List ℕ) (d : ℕ) (g : Frame) (k : ℕ) → d < 64 → length f ≡ 384 → k ≡ slot_code g.typed.slot
    → saved (stored f d g k) (d + 1) ≡ g ∷ saved f d
save_at f d g k h z q =
    let b : ℕ = 6 * d in
    simp (q, add-one b, add-two b, add-three b, add-four b, add_five b) (saved_sets f d g (omega arith))

-- ---- slots are filled, an object is opened

-- n is m with k slots filled and nothing closed yet
module _ (f : List ℕ) (m : Reader) (k : ℕ) (t : Typed) (n : Reader)
    (e : n ≡ record { at = m.at; rows = m.rows; depth = m.depth; top = filled_by m.top k t }) where
  pub fill_at : close n.top (saved f n.depth) ≡ filled (open_of f m) k t
  unfolding filled
  fill_at = rw e

  -- an object of which slots are left stays open
  pub fill_open : k < m.top.left → open_of f n ≡ filled (open_of f m) k t
  unfolding filled
  fill_open h =
      let z : m.top.left - k ≡ 0 → ⊥ = λ q. omega arith in
      rw e (close_stop (filled_by m.top k t) f m.depth z)

pub open_at : (f e : List ℕ) (m : Reader) (row rest : ℕ) (h : Head) (t : Typed) → rest ≡ m.top.left - 1
    → saved e (m.depth + 1) ≡ record { owner = m.top.owner; count = m.top.count; left = rest; typed = t } ∷ saved f m.depth
    → record { cur = record { owner = row; count = h.slots; left = h.slots; typed = h.first }; below = saved e (m.depth + 1) }
    ≡ opened (open_of f m) row h t
unfolding opened
open_at f e m row rest h t q s = rw (s, q)
