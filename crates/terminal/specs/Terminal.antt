-- What the exported forms take for a setting, and what they answer: the number, the place and the value of the reply that the job has, and where the
-- text of a row stands.
use Rattle.std.specs.Prelude.{ℕ, ◌+◌, ◌-◌, ◌≤◌, ◌≡◌, refl, List, length, eqb, Bool, Result, Ok, Err}
use Rattle.format.specs.declared.Span.{Span}
use Rattle.format.specs.declared.Refused.{Refused}
use Rattle.format.specs.declared.Untidied.{Untidied}
use Rattle.format.specs.declared.Uncompared.{Uncompared}
use Rattle.std.proofs.Common.{ap, ap₂, subst, ◌∙◌, arith}
use Rattle.format.specs.Terms.{Terms, terms}
use Rattle.format.specs.declared.Setting.{Setting}
use Rattle.format.specs.declared.Setting.TheVariants as S
use Rattle.format.specs.declared.Refusal.{Refusal}
use Rattle.format.specs.declared.Refusal.TheVariants as R
use Rattle.format.specs.declared.RowAnswer.{RowAnswer}
use Rattle.format.specs.Bytes.{pick, part, same_bytes}
use Rattle.format.specs.Replies.{number_of, reply, read_reply, row_reply, tidy_reply, list_of, same_of, same_reply}
use Rattle.format.specs.Rows.{room_of}
use Rattle.format.specs.Machine.{read_of, read_answer, table_words}
use Rattle.format.specs.Promises.{ReadPromise, QuestionPromise, TidyPromise}
use Rattle.format.specs.Tidy.{tidy_answer, tidy_table, tidy_output}
use Rattle.format.specs.View.{row_text, row_question, text_view}
use Rattle.sameness.specs.Sameness as W
use Rattle.replies.specs.Replies.{Answered, answered, text_reply}
use Rattle.view.specs.Laws.{question_part, question_fault, view_part, view_fault, row_inside}

-- a setting by its number (02, (iii)): 0 is strict, every other number lenient
abbrev pub setting_of : ℕ → Setting
setting_of n = pick (eqb n 0) S.Strict S.Lenient

abbrev pub terms_of : ℕ → List ℕ → Terms
terms_of n β = terms (setting_of n) β

-- In the laws below ρ is the setting that was handed on, and σ the one that the number names; β and γ are the books.

-- ---- reading, and the row question: a job's answer has the reply of what the job promises

pub read_told : (σ ρ : Setting) → ρ ≡ σ → (β s t u : List ℕ) (a : Result ℕ Refused) (n p v : ℕ) → ReadPromise (terms ρ β) s t a u → Answered (read_reply a) n p v
    → Answered (read_reply (read_answer (read_of (terms σ β) s (room_of t)))) n p v
read_told σ ρ q β s t u a n p v w h =
    subst (λ (x : Setting). Answered (read_reply (read_answer (read_of (terms x β) s (room_of t)))) n p v) q (answered _ _ n p v (ap read_reply w.answer) h)

pub read_left : (σ ρ : Setting) → ρ ≡ σ → (β s t u : List ℕ) (a : Result ℕ Refused) → ReadPromise (terms ρ β) s t a u → u ≡ table_words (length t) (read_of (terms σ β) s (room_of t))
read_left σ ρ q β s t u a w = w.table ∙ ap (λ (x : Setting). table_words (length t) (read_of (terms x β) s (room_of t))) q

pub row_told : (σ ρ : Setting) → ρ ≡ σ → (s t : List ℕ) (row : ℕ) (a : RowAnswer) (n : ℕ) → QuestionPromise ρ s t row a → n ≡ (row_reply a).number
    → n ≡ (row_reply (row_question σ s t row)).number
row_told σ ρ q s t row a n w h =
    subst (λ (x : Setting). n ≡ (row_reply (row_question x s t row)).number) q (h ∙ ap (λ (x : RowAnswer). (row_reply x).number) w.answer)

-- ---- tidying

-- what a tidying leaves in the table and the output, beside its reply
pub record Tidied (τ : Terms) (s t out t' out' : List ℕ) (number place value : ℕ) : Type 0 where
  pub answer_is : Answered (tidy_reply (tidy_answer τ.book s out (read_of τ s (room_of t)))) number place value
  pub table_is : t' ≡ tidy_table (length t) τ.book s out (read_of τ s (room_of t))
  pub out_is : out' ≡ tidy_output τ.book s out (read_of τ s (room_of t))

pub tidied : (σ ρ : Setting) → ρ ≡ σ → (β s t out t' out' : List ℕ) (number place value : ℕ) (a : Result ℕ Untidied) → TidyPromise (terms ρ β) s t out a t' out'
    → Answered (tidy_reply a) number place value → Tidied (terms σ β) s t out t' out' number place value
tidied σ ρ q β s t out t' out' number place value a w h =
    subst (λ (x : Setting). Tidied (terms x β) s t out t' out' number place value) q
    (record { answer_is = answered _ _ number place value (ap tidy_reply w.answer) h; table_is = w.table; out_is = w.output })

-- ---- comparing

-- the answer that the lists a, under τ, and b, under υ, have with a table that held t and outputs that held c and d
abbrev pub said_of : Terms → Terms → List ℕ → List ℕ → List ℕ → List ℕ → List ℕ → Result Bool Uncompared
said_of τ υ a b t c d =
    W.answer_of (tidy_answer τ.book a c (read_of τ a (room_of t))) (tidy_answer υ.book b d (read_of υ b (room_of t)))
    (same_bytes (W.copied τ.book a (read_of τ a (room_of t))) (W.copied υ.book b (read_of υ b (room_of t))))

-- what a comparing leaves in the table and the outputs (`said`), beside its reply
pub record Compared (τ υ : Terms) (a b t c d u e f : List ℕ) (number same list place needed : ℕ) : Type 0 where
  pub said : W.ComparePromise τ υ a b t c d (said_of τ υ a b t c d) u e f
  pub answer_is : Answered (same_reply (said_of τ υ a b t c d)) number place needed
  pub same_is : same ≡ same_of (said_of τ υ a b t c d)
  pub list_is : list ≡ list_of (said_of τ υ a b t c d)

pub compared : (σ ρ : Setting) → ρ ≡ σ → (σ' ρ' : Setting) → ρ' ≡ σ' → (β γ a b t c d u e f : List ℕ) (number same list place needed : ℕ) (q : Result Bool Uncompared)
    → W.ComparePromise (terms ρ β) (terms ρ' γ) a b t c d q u e f
    → Answered (same_reply q) number place needed
    → same ≡ same_of q
    → list ≡ list_of q
    → Compared (terms σ β) (terms σ' γ) a b t c d u e f number same list place needed
compared σ ρ p σ' ρ' p' β γ a b t c d u e f number same list place needed q w h k l =
    subst (λ (x : Setting). Compared (terms x β) (terms σ' γ) a b t c d u e f number same list place needed) p
    (subst (λ (y : Setting). Compared (terms ρ β) (terms y γ) a b t c d u e f number same list place needed) p' by_handed)
  where
    by_handed : Compared (terms ρ β) (terms ρ' γ) a b t c d u e f number same list place needed
    by_handed =
        record {
          said = subst (λ (y : Result Bool Uncompared). W.ComparePromise (terms ρ β) (terms ρ' γ) a b t c d y u e f) w.answer w;
          answer_is = answered _ _ number place needed (ap same_reply w.answer) h;
          same_is = k ∙ ap same_of w.answer;
          list_is = l ∙ ap list_of w.answer;
        }

-- ---- the text view

-- where a text stands and how many bytes it has; both 0 where there is none
abbrev pub from_of : Result Span Refusal → ℕ
from_of (Ok t) = t.from
from_of (Err f) = 0

abbrev pub length_of : Result Span Refusal → ℕ
length_of (Ok t) = t.to - t.from
length_of (Err f) = 0

pub record Shown (σ : Setting) (s t : List ℕ) (row number from count : ℕ) : Type 0 where
  pub number_is : number ≡ (row_reply (row_question σ s t row)).number
  pub from_is : from ≡ from_of (row_text σ s t row)
  pub length_is : count ≡ length_of (row_text σ s t row)
  pub inside : from + count ≤ length s
  pub text_is : part s from count ≡ text_view σ s t row

-- the reply of the row's text shows it, one law for a part and one for a fault
module _ (σ : Setting) (s t : List ℕ) (row : ℕ) where
  part_shown : (from to number place count : ℕ) → Ok (record { from = from; to = to }) ≡ row_text σ s t row → Answered (reply 0 from (to - from)) number place count
      → Shown σ s t row number place count
  part_shown from to number place count e h =
      let w = row_inside σ s t row from to (Ok (record { from = from; to = to })) e refl in
      let p = h.place_is in
      let v = h.value_is in
      record {
        number_is = h.number_is ∙ ap (λ (x : RowAnswer). (row_reply x).number) (question_part σ s t row (Ok (record { from = from; to = to })) e from to refl);
        from_is = p ∙ ap from_of e;
        length_is = v ∙ ap length_of e;
        inside = omega arith;
        text_is = ap₂ (λ (x y : ℕ). part s x y) p v ∙ view_part σ s t row (Ok (record { from = from; to = to })) e from to refl;
      }

  none_shown : (f : Refusal) (number place count : ℕ) → Err f ≡ row_text σ s t row → Answered (reply (number_of R.NoSuchRow) 0 0) number place count
      → Shown σ s t row number place count
  none_shown f number place count e h =
      let p = h.place_is in
      let v = h.value_is in
      record {
        number_is = h.number_is ∙ ap (λ (x : RowAnswer). (row_reply x).number) (question_fault σ s t row (Err f) e f refl);
        from_is = p ∙ ap from_of e;
        length_is = v ∙ ap length_of e;
        inside = omega arith;
        text_is = ap₂ (λ (x y : ℕ). part s x y) p v ∙ view_fault σ s t row (Err f) e f refl;
      }

  text_shown : (x : Result Span Refusal) (number place count : ℕ) → x ≡ row_text σ s t row → Answered (text_reply x) number place count → Shown σ s t row number place count
  text_shown (Ok t) number place count e h = part_shown t.from t.to number place count e h
  text_shown (Err f) number place count e h = none_shown f number place count e h

  pub shown : (ρ : Setting) → ρ ≡ σ → (x : Result Span Refusal) (number place count : ℕ) → x ≡ row_text ρ s t row → Answered (text_reply x) number place count
      → Shown σ s t row number place count
  shown ρ q x number place count e h = text_shown x number place count (e ∙ ap (λ (y : Setting). row_text y s t row) q) h
