-- The promise of each form for C allows one outcome: what it returns, what it writes through its pointers, every word of the table and every byte of
-- the outputs.
use Rattle.std.specs.Prelude.{ℕ, ◌≡◌, List, length}
use Rattle.std.proofs.Common.{sym, ap₂, ◌∙◌}
use Rattle.format.specs.Terms.{Terms}
use Rattle.format.specs.declared.Setting.{Setting}
use Rattle.format.specs.Rows.{room_of}
use Rattle.format.specs.Machine.{read_of, read_answer, table_words}
use Rattle.format.specs.View.{row_question}
use Rattle.format.specs.Replies.{Reply, read_reply, row_reply}
use Rattle.demands.specs.Settled.{Settles}
use Rattle.replies.specs.Replies.{Answered}
use Rattle.terminal.specs.Terminal.{Shown, Tidied, Compared}

pair : {A B : Type 0} → {a c : A} → {b d : B} → a ≡ c → b ≡ d → ◌≡◌ {A = A × B} (a, b) (c, d)
pair p q = ap₂ (λ a b. (a, b)) p q

one : {A : Type 0} → {x y z : A} → x ≡ z → y ≡ z → x ≡ y
one p q = p ∙ sym q

-- the number, the place and the value of a reply
replied : (r : Reply) → Settles (λ (o : ℕ × (ℕ × ℕ)). Answered r o.0 o.1.0 o.1.1)
replied r x y p q = pair (one p.number_is q.number_is) (pair (one p.place_is q.place_is) (one p.value_is q.value_is))

-- the reply and the table
pub read_form_settles : (τ : Terms) (s t : List ℕ) → Settles (λ (o : (ℕ × (ℕ × ℕ)) × List ℕ).
    Answered (read_reply (read_answer (read_of τ s (room_of t)))) o.0.0 o.0.1.0 o.0.1.1 × (o.1 ≡ table_words (length t) (read_of τ s (room_of t))))
read_form_settles τ s t x y p q = pair (replied _ x.0 y.0 p.0 q.0) (one p.1 q.1)

pub question_form_settles : (σ : Setting) (s t : List ℕ) (row : ℕ) → Settles (λ (n : ℕ). n ≡ (row_reply (row_question σ s t row)).number)
question_form_settles σ s t row x y p q = one p q

-- the number, where the text begins and how long it is
pub view_form_settles : (σ : Setting) (s t : List ℕ) (row : ℕ) → Settles (λ (o : ℕ × (ℕ × ℕ)). Shown σ s t row o.0 o.1.0 o.1.1)
view_form_settles σ s t row x y p q = pair (one p.number_is q.number_is) (pair (one p.from_is q.from_is) (one p.length_is q.length_is))

-- the reply, the table and the output
pub tidy_form_settles : (τ : Terms) (s t d : List ℕ) → Settles (λ (o : (ℕ × (ℕ × ℕ)) × (List ℕ × List ℕ)).
    Tidied τ s t d o.1.0 o.1.1 o.0.0 o.0.1.0 o.0.1.1)
tidy_form_settles τ s t d x y p q =
    pair (replied _ x.0 y.0 p.answer_is q.answer_is) (pair (one p.table_is q.table_is) (one p.out_is q.out_is))

-- the reply, whether the lists say the same, the list that the reply is about, the table and both outputs
pub same_form_settles : (τ υ : Terms) (a b t c d : List ℕ) → Settles (λ (o : (ℕ × (ℕ × ℕ)) × ((ℕ × ℕ) × (List ℕ × (List ℕ × List ℕ)))).
    Compared τ υ a b t c d o.1.1.0 o.1.1.1.0 o.1.1.1.1 o.0.0 o.1.0.0 o.1.0.1 o.0.1.0 o.0.1.1)
same_form_settles τ υ a b t c d x y p q =
    pair (replied _ x.0 y.0 p.answer_is q.answer_is)
    (pair (pair (one p.same_is q.same_is) (one p.list_is q.list_is))
    (pair (one p.said.table q.said.table) (pair (one p.said.first q.said.first) (one p.said.second q.said.second))))
