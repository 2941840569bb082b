-- What a caller learns from the promise of the comparing job alone: Same is answered exactly where the lists mean the same, whichever readings are
-- taken; and two lists whose readings and copies fit are compared.
use Rattle.std.specs.Prelude.{ℕ, ◌≤◌, ◌≡◌, refl, ◌↔◌, Bool, true, false, List, length, Result, Ok}
use Rattle.format.specs.declared.Untidied.{Untidied}
use Rattle.format.specs.declared.Uncompared.{Uncompared}
use Rattle.std.proofs.Common.{sym, ap, ap₂, ◌∙◌, arith}
use Rattle.format.specs.Terms.{Terms}
use Rattle.format.specs.declared.Row.{Row}
use Rattle.format.specs.Bytes.{pick, same_bytes}
use Rattle.format.specs.Rows.{room_of}
use Rattle.format.specs.Machine.{read_of}
use Rattle.format.specs.Grammar.{Reading}
use Rattle.format.specs.Meant.{meant_by}
use Rattle.format.specs.Tidy.{tidy_of}
use Rattle.format.proofs.Promised.{tidy_promised}
use Rattle.demands.specs.Calls.{tidy_written}
use Rattle.demands.specs.Exactly.{one_meaning, as_long}
use Rattle.sameness.specs.Sameness.{copied, answer_of, is_compared, ComparePromise}

module _ (τ υ : Terms) (a b t c d : List ℕ) (q : Result Bool Uncompared) (u e f : List ℕ) (p : ComparePromise τ υ a b t c d q u e f) where
  -- of lists that were compared, by any readings of them
  pub compared_exactly : is_compared q ≡ true → {rows others : List Row} (w : Reading τ a rows) (v : Reading υ b others) → (q ≡ Ok true) ↔ (meant_by w ≡ meant_by v)
  compared_exactly h w v =
      let x = p.exact h in
      let i = one_meaning τ x.first w in
      let j = one_meaning υ x.second v in
      (λ k. sym i ∙ (x.exactly.0 k ∙ j), λ k. x.exactly.1 (i ∙ (k ∙ sym j)))

  -- lists whose readings fit the table, and whose copies fit their outputs and the stream limit, are compared
  pub fitting_compared : {rows others : List Row} (w : Reading τ a rows) (v : Reading υ b others) → length rows ≤ room_of t → length others ≤ room_of t
      → length (tidy_of (meant_by w)) ≤ length c → length (tidy_of (meant_by w)) ≤ 16777216
      → length (tidy_of (meant_by v)) ≤ length d → length (tidy_of (meant_by v)) ≤ 16777216 → is_compared q ≡ true
  fitting_compared {rows} {others} w v i j k l m n =
      let g = as_long τ w in
      let h = as_long υ v in
      let x = (tidy_written τ a t c rows w i (omega arith) (omega arith) _ _ _ (tidy_promised τ a t c _ _ _ refl refl refl)).0 in
      let y = (tidy_written υ b t d others v j (omega arith) (omega arith) _ _ _ (tidy_promised υ b t d _ _ _ refl refl refl)).0 in
      let same : Bool = same_bytes (copied τ.book a (read_of τ a (room_of t))) (copied υ.book b (read_of υ b (room_of t))) in
      ap is_compared (p.answer ∙ ap₂ (λ (x y : Result ℕ Untidied). answer_of x y same) x y)
