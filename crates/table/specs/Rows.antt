-- The rows of a table as chunks of eight words: how many they are, their words, one read, one written, one more.
use Rattle.std.specs.Prelude.{◌≡◌, refl, List, [], ◌∷◌, ◌++◌, map, ℕ, zero, suc, ◌+◌, ◌-◌, ◌*◌, ◌≤◌, ◌<◌, length, get_or, take, drop, set, replicate}
use Rattle.std.proofs.Common.{sym, ap, ◌∙◌, append_assoc, append-nil, arith, add-zero, add-one, length-drop, drop-drop, get_or-drop, get_or-take, take-add, length-take-le}
use Rattle.std.proofs.lemmas.List.{map-append, length-map, set_at}
use Rattle.std.proofs.Math.Numerals.{add-two, add-three, add-four, add_five, add_six, add_seven}
use Rattle.std.proofs.Math.ListN.{get_or-map, get_or-eq_default}
use Rattle.std.proofs.lemmas.List.Edits.{sets, sets-eq}
use Rattle.std.proofs.Math.Seq.{take-length, drop-length}
use Rattle.format.specs.declared.Row.{Row}
use Rattle.format.specs.Rows.{blank, room_of, words, row_of, rows_of, with_link}
use Rattle.table.specs.Chunks.{chunks, map_set, length_chunks, chunk_at, chunks_suc, chunk_over, chunk_set}

-- a slice keeps its length, and so its room
pub room_kept : (t u : List ℕ) → length u ≡ length t → room_of u ≡ room_of t
room_kept t u e = rw e

-- ---- the words of rows

pub rows_of_words : (rs : List Row) (rest : List ℕ) → rows_of (length rs) (words rs ++ rest) ≡ rs
unfolding words rows_of
rows_of_words [] rest = refl
rows_of_words (r ∷ rs) rest = ap (λ (l : List Row). r ∷ l) (rows_of_words rs rest)

-- eight words are those of their row
pub words_row : (l : List ℕ) → length l ≡ 8 → words (row_of l ∷ []) ≡ l
unfolding words
words_row [] q = absurd (omega arith)
words_row (a ∷ []) q = absurd (omega arith)
words_row (a ∷ b ∷ []) q = absurd (omega arith)
words_row (a ∷ b ∷ c ∷ []) q = absurd (omega arith)
words_row (a ∷ b ∷ c ∷ d ∷ []) q = absurd (omega arith)
words_row (a ∷ b ∷ c ∷ d ∷ e ∷ []) q = absurd (omega arith)
words_row (a ∷ b ∷ c ∷ d ∷ e ∷ f ∷ []) q = absurd (omega arith)
words_row (a ∷ b ∷ c ∷ d ∷ e ∷ f ∷ g ∷ []) q = absurd (omega arith)
words_row (a ∷ b ∷ c ∷ d ∷ e ∷ f ∷ g ∷ h ∷ []) q = refl
words_row (a ∷ b ∷ c ∷ d ∷ e ∷ f ∷ g ∷ h ∷ i ∷ l) q = absurd (omega arith)

-- a row looks no further than its eight words
row_take : (t : List ℕ) → row_of (take 8 t) ≡ row_of t
row_take t =
    rw (
      get_or-take 8 t 0 0 (omega arith),
      get_or-take 8 t 1 0 (omega arith),
      get_or-take 8 t 2 0 (omega arith),
      get_or-take 8 t 3 0 (omega arith),
      get_or-take 8 t 4 0 (omega arith),
      get_or-take 8 t 5 0 (omega arith),
      get_or-take 8 t 6 0 (omega arith),
      get_or-take 8 t 7 0 (omega arith),
    )

pub words_rows_of : (n : ℕ) (t : List ℕ) → 8 * n ≤ length t → words (rows_of n t) ≡ take (8 * n) t
unfolding words rows_of
words_rows_of zero t h = refl
words_rows_of (suc n) t h =
    let d : length (drop 8 t) ≡ length t - 8 = length-drop 8 t in
    let m : 8 * suc n ≡ 8 + 8 * n = omega arith in
    let f : words (row_of t ∷ []) ≡ take 8 t =
    ap (λ (r : Row). words (r ∷ [])) (sym (row_take t)) ∙ words_row (take 8 t) (length-take-le 8 t (omega arith)) in
    let r : words (rows_of n (drop 8 t)) ≡ take (8 * n) (drop 8 t) = words_rows_of n (drop 8 t) (omega arith) in
    ap (λ (l : List ℕ). words (row_of t ∷ []) ++ l) r ∙ rw (m, take-add 8 (8 * n) t) (ap (λ (l : List ℕ). l ++ take (8 * n) (drop 8 t)) f)

-- ---- the rows are chunks

rows_of_chunks : (n : ℕ) (t : List ℕ) → rows_of n t ≡ map row_of (chunks 8 n t)
unfolding rows_of chunks
rows_of_chunks zero t = refl
rows_of_chunks (suc n) t = rw (row_take t) (ap (λ (l : List Row). row_of t ∷ l) (rows_of_chunks n (drop 8 t)))

pub length_rows_of : (n : ℕ) (t : List ℕ) → length (rows_of n t) ≡ n
length_rows_of n t = rw (rows_of_chunks n t) (length-map (chunks 8 n t) row_of ∙ length_chunks 8 n t)

-- row i, as code reads it
abbrev pub row_at : List ℕ → ℕ → Row
row_at t i =
    record {
      kind = get_or t (8 * i) 0;
      offset = get_or t (8 * i + 1) 0;
      end = get_or t (8 * i + 2) 0;
      id = get_or t (8 * i + 3) 0;
      owner = get_or t (8 * i + 4) 0;
      slot = get_or t (8 * i + 5) 0;
      link = get_or t (8 * i + 6) 0;
      count = get_or t (8 * i + 7) 0;
    }

from_drop : (t : List ℕ) (i : ℕ) → row_of (drop (8 * i) t) ≡ row_at t i
from_drop t i =
    rw (
      get_or-drop (8 * i) t 0 0,
      get_or-drop (8 * i) t 1 0,
      get_or-drop (8 * i) t 2 0,
      get_or-drop (8 * i) t 3 0,
      get_or-drop (8 * i) t 4 0,
      get_or-drop (8 * i) t 5 0,
      get_or-drop (8 * i) t 6 0,
      get_or-drop (8 * i) t 7 0,
      add-zero,
    )

chunk_row : (n i : ℕ) (t : List ℕ) → get_or (rows_of n t) i blank ≡ row_of (get_or (chunks 8 n t) i [])
chunk_row n i t = rw (rows_of_chunks n t) (get_or-map row_of (chunks 8 n t) i [])

pub row_drop : (n i : ℕ) (t : List ℕ) → i < n → row_of (drop (8 * i) t) ≡ get_or (rows_of n t) i blank
row_drop n i t h = sym (chunk_row n i t ∙ ap row_of (chunk_at 8 n i t h) ∙ row_take (drop (8 * i) t))

pub row_in_lem : (n i : ℕ) (t : List ℕ) → i < n → row_at t i ≡ get_or (rows_of n t) i blank
row_in_lem n i t h = sym (from_drop t i) ∙ row_drop n i t h

-- the same of the eight words at the front of what is left from row i on
pub row_front : (n i : ℕ) (t : List ℕ) → i < n → row_of (take (length t - 8 * i) (drop (8 * i) t)) ≡ get_or (rows_of n t) i blank
row_front n i t h =
    let e : take (length t - 8 * i) (drop (8 * i) t) ≡ drop (8 * i) t = rw length-drop at (take-length (drop (8 * i) t)) in
    rw e (row_drop n i t h)

pub row_out_lem : (n i : ℕ) (t : List ℕ) → n ≤ i → blank ≡ get_or (rows_of n t) i blank
row_out_lem n i t h =
    let l : length (rows_of n t) ≡ n = length_rows_of n t in
    sym (get_or-eq_default (rows_of n t) blank {n = i} (omega arith))

-- ---- writing

-- eight words over row i
pub row_written : (n i : ℕ) (t ys : List ℕ) (r : Row) → i < n → 8 * n ≤ length t
    → ys ≡ r.kind ∷ r.offset ∷ r.end ∷ r.id ∷ r.owner ∷ r.slot ∷ r.link ∷ r.count ∷ []
    → rows_of n (take (8 * i) t ++ (ys ++ drop (8 * i + 8 - 8 * i) (drop (8 * i) t))) ≡ set (rows_of n t) i r
unfolding words
row_written n i t ys r h l e =
    let d : 8 * i + 8 - 8 * i ≡ 8 = omega arith in
    let q : chunks 8 n (take (8 * i) t ++ (words (r ∷ []) ++ drop (8 * i + 8) t)) ≡ set (chunks 8 n t) i (words (r ∷ [])) =
    chunk_over 8 n i t (words (r ∷ [])) refl h l in
    rw (e, d, drop-drop 8 (8 * i) t)
    (rw (rows_of_chunks n (take (8 * i) t ++ (words (r ∷ []) ++ drop (8 * i + 8) t)), q, map_set, rows_of_chunks))

-- eight stores over row i
abbrev pub over : List ℕ → ℕ → Row → List ℕ
over t i r =
    set (set (set (set (set (set (set (set t (8 * i) r.kind) (8 * i + 1) r.offset) (8 * i + 2) r.end) (8 * i + 3) r.id) (8 * i + 4)
    r.owner) (8 * i + 5) r.slot) (8 * i + 6) r.link) (8 * i + 7) r.count

pub row_over : (n i : ℕ) (t : List ℕ) (r : Row) → i < n → 8 * n ≤ length t → rows_of n (over t i r) ≡ set (rows_of n t) i r
unfolding words
row_over n i t r h l =
    let b : ℕ = 8 * i in
    let e : sets t b (words (r ∷ [])) ≡ take b t ++ words (r ∷ []) ++ drop (b + 8) t = sets-eq (words (r ∷ [])) t b (omega arith) in
    let q : chunks 8 n (take b t ++ (words (r ∷ []) ++ drop (b + 8) t)) ≡ set (chunks 8 n t) i (words (r ∷ [])) =
    chunk_over 8 n i t (words (r ∷ [])) refl h l in
    simp (add-one b, add-two b, add-three b, add-four b, add_five b, add_six b, add_seven b)
    (rw (e, rows_of_chunks n (take b t ++ words (r ∷ []) ++ drop (b + 8) t), append_assoc (take b t) (words (r ∷ [])) (drop (b + 8) t), q, map_set, rows_of_chunks))

-- the row after the first n is one row more
pub row_more : (n : ℕ) (t u : List ℕ) (r : Row) → rows_of (n + 1) u ≡ set (rows_of (n + 1) t) n r → rows_of (n + 1) u ≡ rows_of n t ++ (r ∷ [])
row_more n t u r e =
    let k : length (rows_of n t) ≡ n = length_rows_of n t in
    let x : Row = row_of (take 8 (drop (8 * n) t)) in
    let s : rows_of (n + 1) t ≡ rows_of n t ++ (x ∷ []) =
    rw (add-one n, rows_of_chunks (suc n) t, rows_of_chunks n t, chunks_suc 8 n t) (map-append row_of (chunks 8 n t) _) in
    e ∙ rw s (set_at (rows_of n t) x [] r n k)

-- a store to the link word of row i
pub link_set : (n i v : ℕ) (t : List ℕ) → i < n → 8 * n ≤ length t
    → rows_of n (set t (8 * i + 6) v) ≡ set (rows_of n t) i (with_link (get_or (rows_of n t) i blank) v)
unfolding words
link_set n i v t h l =
    let d : length (drop (8 * i) t) ≡ length t - 8 * i = length-drop (8 * i) t in
    let k : length (get_or (chunks 8 n t) i []) ≡ 8 = rw (chunk_at 8 n i t h) (length-take-le 8 (drop (8 * i) t) (omega arith)) in
    let p : row_of (set (get_or (chunks 8 n t) i []) 6 v) ≡ with_link (row_of (get_or (chunks 8 n t) i [])) v =
    ap (λ (x : List ℕ). row_of (set x 6 v)) (sym (words_row (get_or (chunks 8 n t) i []) k)) in
    rw (rows_of_chunks n (set t (8 * i + 6) v), chunk_set 8 n i 6 v t h (omega arith), map_set, chunk_row n i t, rows_of_chunks n t, p)

-- ---- clearing

-- a part that came back zero, behind the first n rows
pub cleared : (n : ℕ) (t ys : List ℕ) → 8 * n ≤ length t → ys ≡ replicate (length (take (length t - 8 * n) (drop (8 * n) t))) 0
    → take (8 * n) t ++ (ys ++ drop (length t - 8 * n) (drop (8 * n) t)) ≡ words (rows_of n t) ++ replicate (length t - 8 * n) 0
cleared n t ys h e =
    let l : length (drop (8 * n) t) ≡ length t - 8 * n = length-drop (8 * n) t in
    rw (e, ← l, take-length, drop-length, words_rows_of n t h, append-nil)
