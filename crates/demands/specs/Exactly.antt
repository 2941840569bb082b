-- Demand 3 over the records: two lists, each read under its own terms, mean the same exactly when their tidy copies are equal, byte for byte; the records
-- of a copy mean what those of its list mean, under any terms; and what is written is the tidy form of what the records mean.
use Rattle.std.specs.Prelude.{ℕ, ◌≤◌, ◌≡◌, ◌↔◌, List, length, Result}
use Rattle.format.specs.declared.Refused.{Refused}
use Rattle.std.proofs.Common.{sym, ap, subst, ◌∙◌}
use Rattle.format.specs.Terms.{Terms}
use Rattle.format.specs.declared.Row.{Row}
use Rattle.format.specs.Grammar.{Reading}
use Rattle.format.specs.Says.{Model, says, SayTheSame}
use Rattle.format.specs.Meant.{meant_by}
use Rattle.format.specs.Tidy.{tidy_of}
use Rattle.meant.specs.Laws.{says_meant}
use Rattle.demands.specs.Readings.{reading_unique}
use Rattle.demands.specs.Copies.{tidy_says, same_exactly}
use Rattle.demands.specs.Calls.{CopyShown}

-- two lists say the same exactly when their records mean the same
pub same_meant : (τ υ : Terms) {s : List ℕ} {rows : List Row} (a : Reading τ s rows) {t : List ℕ} {others : List Row} (b : Reading υ t others)
    → SayTheSame τ.book s rows υ.book t others ↔ (meant_by a ≡ meant_by b)
same_meant τ υ a b = (λ e. sym (says_meant τ a) ∙ (e ∙ says_meant υ b), λ e. says_meant τ a ∙ (e ∙ sym (says_meant υ b)))

-- two readings of one stream mean the same
pub one_meaning : (τ : Terms) {s : List ℕ} {rows others : List Row} (a : Reading τ s rows) (b : Reading τ s others) → meant_by a ≡ meant_by b
one_meaning τ {s} {rows} {others} a b = sym (says_meant τ a) ∙ (ap (says τ.book s) (reading_unique τ s rows others a b) ∙ says_meant τ b)

-- the copy of what is said is as long as that of what is meant; so one is within the stream limit where the other is
pub as_long : (τ : Terms) {s : List ℕ} {rows : List Row} (a : Reading τ s rows) → length (tidy_of (says τ.book s rows)) ≡ length (tidy_of (meant_by a))
as_long τ a = ap (λ (m : Model). length (tidy_of m)) (says_meant τ a)

pub said_small : (τ : Terms) {s : List ℕ} {rows : List Row} (a : Reading τ s rows) → length (tidy_of (meant_by a)) ≤ 16777216 → length (tidy_of (says τ.book s rows)) ≤ 16777216
said_small τ a small = subst (λ (n : ℕ). n ≤ 16777216) (sym (as_long τ a)) small

pub meant_small : (τ : Terms) {s : List ℕ} {rows : List Row} (a : Reading τ s rows) → length (tidy_of (says τ.book s rows)) ≤ 16777216 → length (tidy_of (meant_by a)) ≤ 16777216
meant_small τ a small = subst (λ (n : ℕ). n ≤ 16777216) (as_long τ a) small

-- exactly when their tidy copies are equal
pub meant_exactly : (τ υ : Terms) {s : List ℕ} {rows : List Row} (a : Reading τ s rows) → length (tidy_of (meant_by a)) ≤ 16777216
    → {t : List ℕ} {others : List Row} (b : Reading υ t others) → length (tidy_of (meant_by b)) ≤ 16777216
    → (meant_by a ≡ meant_by b) ↔ (tidy_of (meant_by a) ≡ tidy_of (meant_by b))
meant_exactly τ υ {s} {rows} a small {t} {others} b little =
    let p = says_meant τ a in
    let q = says_meant υ b in
    let f = said_small τ a small in
    let x = same_exactly τ s rows a f υ t others b (said_small υ b little) in
    (ap tidy_of, λ e. sym p ∙ (x.1 (ap tidy_of p ∙ (e ∙ sym (ap tidy_of q))) ∙ q))

-- the records of the tidy copy mean what those of the list mean
pub copy_means : (τ υ : Terms) {s : List ℕ} {rows : List Row} (a : Reading τ s rows) → length (tidy_of (meant_by a)) ≤ 16777216
    → {copies : List Row} (c : Reading υ (tidy_of (meant_by a)) copies) → meant_by c ≡ meant_by a
copy_means τ υ {s} {rows} a small {copies} c =
    let p = says_meant τ a in
    let P : Model → Type 0 = λ m. length (tidy_of m) ≤ 16777216 → Reading υ (tidy_of m) copies → says υ.book (tidy_of m) copies ≡ m in
    let f : P (meant_by a) = subst P p (λ l r. tidy_says τ υ s rows a l υ.book copies r) in
    sym (says_meant υ c) ∙ f small c

-- ---- from the promise of tidying alone

-- and the records of a copy that is read again mean what those of its list mean
pub shown_means : (τ υ : Terms) {s c l : List ℕ} {a : Result ℕ Refused} {v : List ℕ} (x : CopyShown τ υ s c l a v) {list : List Row} (w : Reading τ s list) → meant_by x.reads ≡ meant_by w
shown_means τ υ x {list} w = (same_meant υ τ x.reads w).0 (x.says_same υ.book list w)
