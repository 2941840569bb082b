-- What the public jobs and the comparing one reply: the number, the place and the value of a reply, and the reply of the text view.
use Rattle.std.specs.Prelude.{ℕ, ◌-◌, ◌≡◌, Result, Ok, Err}
use Rattle.format.specs.declared.Span.{Span}
use Rattle.format.specs.declared.Refused.{Refused}
use Rattle.format.specs.declared.Untidied.{Untidied}
use Rattle.format.specs.declared.Untidied.TheVariants as C
use Rattle.std.proofs.Common.{sym, ap, subst, ◌∙◌}
use Rattle.format.specs.declared.Refusal.{Refusal}
use Rattle.format.specs.declared.Refusal.TheVariants as R
use Rattle.format.specs.Replies.{number_of, Reply, reply, read_reply, tidy_reply}

pub record Answered (r : Reply) (number place value : ℕ) : Type 0 where
  pub number_is : number ≡ r.number
  pub place_is : place ≡ r.place
  pub value_is : value ≡ r.value

-- the number, the place and the value of a reply are those of the same reply in other words
pub answered : (x y : Reply) (n p v : ℕ) → x ≡ y → Answered x n p v → Answered y n p v
answered x y n p v e h = subst (λ (z : Reply). Answered z n p v) e h

-- ---- the text view

-- where a text begins and how many bytes it has; both 0 where there is none
abbrev pub text_reply : Result Span Refusal → Reply
text_reply (Ok t) = reply 0 t.from (t.to - t.from)
text_reply (Err f) = reply (number_of R.NoSuchRow) 0 0

-- ---- one law for each reply whose number or value another function has

pub read_refused : (a : Result ℕ Refused) (r : Refusal) (at k n p v : ℕ) → a ≡ Err (record { refusal = r; place = at }) → k ≡ number_of r
    → Answered (reply k at 0) n p v
    → Answered (read_reply a) n p v
read_refused a r at k n p v e w h = answered _ _ n p v (ap (λ (x : ℕ). reply x at 0) w ∙ ap read_reply (sym e)) h

pub tidy_refused : (a : Result ℕ Untidied) (r : Refusal) (at k n p v : ℕ) → a ≡ Err (C.Refused (record { refusal = r; place = at })) → k ≡ number_of r
    → Answered (reply k at 0) n p v
    → Answered (tidy_reply a) n p v
tidy_refused a r at k n p v e w h = answered _ _ n p v (ap (λ (x : ℕ). reply x at 0) w ∙ ap tidy_reply (sym e)) h

pub text_part : (t : Result Span Refusal) (from to k n p v : ℕ) → t ≡ Ok (record { from = from; to = to }) → k ≡ to - from
    → Answered (reply 0 from k) n p v
    → Answered (text_reply t) n p v
text_part t from to k n p v e w h = answered _ _ n p v (ap (λ (x : ℕ). reply 0 from x) w ∙ ap text_reply (sym e)) h
