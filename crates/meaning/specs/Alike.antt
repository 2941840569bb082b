-- Parts of one stream are compared as what they hold, and strings as their texts, however wide their prefixes are.
use Rattle.std.specs.Prelude.{ℕ, ◌-◌, ◌≤◌, ◌≡◌, true, List, length, eqb}
use Rattle.std.proofs.Common.{sym, ap, ◌∙◌, arith, eq-eqb, eqb-true}
use Rattle.format.specs.Terms.{Terms}
use Rattle.format.specs.Bytes.{part, same_bytes, same_part}
use Rattle.format.specs.Says.{text_from}
use Rattle.fields.specs.Parts.{length_part}
use Rattle.strings.specs.Laws.{string_moves}
use Rattle.spans.specs.Judged.{string_span_lem}
use Rattle.same.specs.Laws.{SameParts, same_parts, parts_same, same_eq}
use Rattle.laws.specs.Tests.{bool_ext, pick_of, pick_true, true_same}
use Rattle.marks.specs.Marks.{same_between, same_text}
use Rattle.meaning.specs.Stands.{StringStands}

module _ (s : List ℕ) where
  -- ---- the bytes from a to x and those from b to y

  pub between_of : (a x b y : ℕ) → same_between s a x b y ≡ true → (x - a ≡ y - b) × SameParts s a b (x - a)
  unfolding same_between
  between_of a x b y e =
      let w = pick_of (eqb (x - a) (y - b)) (same_part s a b (x - a)) e in
      (eqb-true (x - a) (y - b) w.0, same_parts s a b (x - a) w.1)

  pub true_between : (a x b y : ℕ) → x - a ≡ y - b → SameParts s a b (x - a) → same_between s a x b y ≡ true
  unfolding same_between
  true_between a x b y e w = pick_true (eqb (x - a) (y - b)) (same_part s a b (x - a)) (eq-eqb (x - a) (y - b) e) (parts_same s a b (x - a) w)

  pub same_between_lem : (a x b y : ℕ) → a ≤ x → x ≤ length s → b ≤ y → y ≤ length s
      → same_between s a x b y ≡ same_bytes (part s a (x - a)) (part s b (y - b))
  same_between_lem a x b y h g k l =
      let one = part s a (x - a) in
      let other = part s b (y - b) in
      bool_ext (same_between s a x b y) (same_bytes one other)
      (λ t. let w = between_of a x b y t in true_same one other (w.1.equal ∙ ap (part s b) w.0))
      (λ t.
      let e = same_eq one other t in
      let i = length_part s a (x - a) (omega arith) in
      let j = length_part s b (y - b) (omega arith) in
      let n : x - a ≡ y - b = omega (arith, ap length e) in
      true_between a x b y n (record { first = omega arith; second = omega arith; equal = e ∙ ap (part s b) (sym n) }))

module _ (τ : Terms) (s : List ℕ) where
  -- ---- strings

  pub same_texts_lem : (p e q f : ℕ) → StringStands τ s p e → StringStands τ s q f → same_text s p q ≡ same_bytes (text_from s p) (text_from s q)
  unfolding same_text
  same_texts_lem p e q f v w =
      let m = string_moves τ.setting s p v.from e v.text in
      let n = string_moves τ.setting s q w.from f w.text in
      rw (string_span_lem τ.setting s p v.from e v.text, string_span_lem τ.setting s q w.from f w.text)
      (same_between_lem s v.from e w.from f (omega arith) (omega arith) (omega arith) (omega arith))
