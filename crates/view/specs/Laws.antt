-- The row question and the text view: one law for each way that the code ends, and that the text of a row lies in the stream.
use Rattle.std.specs.Prelude.{ℕ, ◌+◌, ◌-◌, ◌*◌, ◌≤◌, ◌<◌, ◌≡◌, true, false, List, [], length, get_or, drop, ltb, eqb, Option, Some, None, Result, Ok, Err}
use Rattle.format.specs.declared.Span.{Span}
use Rattle.std.proofs.Math.Path.{sym, ap}
use Rattle.std.proofs.Common.{◌∙◌, arith}
use borrow.Author.Tests.{lt-ltb, le-ltb, eq-eqb, ne_eqb}
use Rattle.format.specs.declared.Setting.{Setting}
use Rattle.format.specs.declared.Refusal.{Refusal}
use Rattle.format.specs.declared.RowAnswer.TheVariants as Q
use Rattle.format.specs.declared.Row.{Row}
use Rattle.format.specs.Bytes.{pick, part}
use Rattle.format.specs.Numbers.{u32_at}
use Rattle.format.specs.Text.{string_at}
use Rattle.format.specs.Types.{positive}
use Rattle.format.specs.Rows.{blank, room_of, rows_of, row_of}
use Rattle.format.specs.View.{no_text, after_id, record_text, ending_at, text_of_row, row_text, question_of, row_question, bytes_of, text_view}
use Rattle.fields.specs.Judged.{told}
use Rattle.strings.specs.Laws.{string_moves}
use Rattle.table.specs.Rows.{row_drop}

-- ---- a string record

module _ (σ : Setting) (s : List ℕ) (at : ℕ) where
  pub record_past : length s ≤ at → no_text ≡ record_text σ s at
  unfolding record_text
  record_past h = rw (le-ltb at (length s) h)

  pub record_other : at < length s → (get_or s at 0 ≡ 6 → ⊥) → no_text ≡ record_text σ s at
  unfolding record_text
  record_other h k = rw (lt-ltb at (length s) h, ne_eqb (get_or s at 0) 6 k)

  module _ (h : at < length s) (k : get_or s at 0 ≡ 6) (v : Option (ℕ × ℕ)) (e : v ≡ u32_at s (at + 1)) where
    record_is : after_id σ s v ≡ record_text σ s at
    unfolding record_text
    record_is = rw (lt-ltb at (length s) h, eq-eqb (get_or s at 0) 6 k, e)

    pub record_short : v ≡ None → no_text ≡ record_text σ s at
    record_short q = rw q at record_is

    module _ (id next : ℕ) (q : v ≡ Some (id, next)) where
      pub record_string : positive id ≡ true → string_at σ s next ≡ record_text σ s at
      record_string p = rw (q, p) at record_is

      pub record_id : positive id ≡ false → no_text ≡ record_text σ s at
      record_id p = rw (q, p) at record_is

-- ---- a row

module _ (σ : Setting) (s t : List ℕ) (i n : ℕ) (m : n ≡ room_of t) where
  pub row_past : n ≤ i → no_text ≡ row_text σ s t i
  unfolding row_text
  row_past h = rw (le-ltb i (room_of t) (rw m at h))

  module _ (h : i < n) (r : Row) (e : r ≡ get_or (rows_of n t) i blank) where
    row_is : text_of_row σ s r ≡ row_text σ s t i
    unfolding row_text
    row_is =
        let l : i < room_of t = rw m at h in
        rw (lt-ltb i (room_of t) l) (ap (λ (x : Row). text_of_row σ s x) (e ∙ sym (row_drop n i t h)))

    pub row_other : (r.kind ≡ 6 → ⊥) → no_text ≡ row_text σ s t i
    row_other k = rw (ne_eqb r.kind 6 k) at row_is

    module _ (k : r.kind ≡ 6) (x : Result Span Refusal) (w : x ≡ record_text σ s r.offset) where
      row_ends : ending_at r.end x ≡ row_text σ s t i
      row_ends = ap (λ (y : Result Span Refusal). ending_at r.end y) w ∙ (rw (eq-eqb r.kind 6 k) at row_is)

      pub row_fault : (f : Refusal) → x ≡ Err f → no_text ≡ row_text σ s t i
      row_fault f q = rw q at row_ends

      module _ (from to : ℕ) (q : x ≡ Ok (record { from = from; to = to })) where
        pub row_part : to ≡ r.end → Ok (record { from = from; to = to }) ≡ row_text σ s t i
        row_part z = rw (q, eq-eqb to r.end z) at row_ends

        pub row_elsewhere : (to ≡ r.end → ⊥) → no_text ≡ row_text σ s t i
        row_elsewhere z = rw (q, ne_eqb to r.end z) at row_ends

-- ---- the answers

module _ (σ : Setting) (s t : List ℕ) (i : ℕ) (x : Result Span Refusal) (e : x ≡ row_text σ s t i) where
  pub question_part : (from to : ℕ) → x ≡ Ok (record { from = from; to = to }) → Q.HasText ≡ row_question σ s t i
  unfolding row_question
  question_part from to q = ap question_of (sym q ∙ e)

  pub question_fault : (f : Refusal) → x ≡ Err f → Q.NoSuchRow ≡ row_question σ s t i
  unfolding row_question
  question_fault f q = ap question_of (sym q ∙ e)

  pub view_part : (from to : ℕ) → x ≡ Ok (record { from = from; to = to }) → part s from (to - from) ≡ text_view σ s t i
  unfolding text_view
  view_part from to q = ap (bytes_of s) (sym q ∙ e)

  pub view_fault : (f : Refusal) → x ≡ Err f → [] ≡ text_view σ s t i
  unfolding text_view
  view_fault f q = ap (bytes_of s) (sym q ∙ e)

-- ---- where a text stands

no_part : (f : Refusal) (from to : ℕ) → ◌≡◌ {A = Result Span Refusal} (Err f) (Ok (record { from = from; to = to })) → ⊥
no_part f from to q = let z : ◌≡◌ {A = ℕ} 0 1 = cc in omega arith

-- from and to are the two ends of a part
abbrev pub Inside : List ℕ → ℕ → ℕ → Type 0
Inside s from to = (from ≤ to) × (to ≤ length s)

after_inside : (σ : Setting) (s : List ℕ) (v : Option (ℕ × ℕ)) (from to : ℕ) → after_id σ s v ≡ Ok (record { from = from; to = to }) → Inside s from to
after_inside σ s (Some (id, next)) from to q =
    let w = told (positive id) (string_at σ s next) no_text (Ok (record { from = from; to = to })) q (no_part _ from to) in
    let m = string_moves σ s next from to w.1 in
    (m.1, m.2)
after_inside σ s None from to q = absurd (no_part _ from to q)

record_inside : (σ : Setting) (s : List ℕ) (at from to : ℕ) → record_text σ s at ≡ Ok (record { from = from; to = to }) → Inside s from to
unfolding record_text
record_inside σ s at from to q =
    let v = u32_at s (at + 1) in
    let a = told (ltb at (length s)) (pick (eqb (get_or s at 0) 6) (after_id σ s v) no_text) no_text (Ok (record { from = from; to = to })) q (no_part _ from to) in
    let b = told (eqb (get_or s at 0) 6) (after_id σ s v) no_text (Ok (record { from = from; to = to })) a.1 (no_part _ from to) in
    after_inside σ s v from to b.1

ending_told : (end from to : ℕ) (x : Result Span Refusal) → ending_at end x ≡ Ok (record { from = from; to = to }) → x ≡ Ok (record { from = from; to = to })
ending_told end from to (Ok t) q = (told (eqb t.to end) (Ok t) no_text (Ok (record { from = from; to = to })) q (no_part _ from to)).1
ending_told end from to (Err f) q = absurd (no_part _ from to q)

pub row_inside : (σ : Setting) (s t : List ℕ) (i from to : ℕ) (x : Result Span Refusal) → x ≡ row_text σ s t i → x ≡ Ok (record { from = from; to = to }) → Inside s from to
unfolding row_text
row_inside σ s t i from to x e q =
    let r = row_of (drop (8 * i) t) in
    let y = record_text σ s r.offset in
    let a = told (ltb i (room_of t)) (text_of_row σ s r) no_text (Ok (record { from = from; to = to })) (sym e ∙ q) (no_part _ from to) in
    let b = told (eqb r.kind 6) (ending_at r.end y) no_text (Ok (record { from = from; to = to })) a.1 (no_part _ from to) in
    record_inside σ s r.offset from to (ending_told r.end from to y b.1)
