-- A prefix and as many bytes as it says at a place (01, Field rules; 2.1.1.6), the shape of strings and of Decimal: what is written in a width
-- that the grammar allows is read, and what is read is written in such a width.
use Rattle.std.specs.Prelude.{ℕ, ◌+◌, ◌-◌, ◌<◌, ◌≡◌, Bool, true, List, length, drop}
use Rattle.std.proofs.Common.{sym, ap, ◌∙◌, arith}
use Rattle.format.specs.Terms.{Terms}
use Rattle.format.specs.declared.Refusal.{Refusal}
use Rattle.format.specs.declared.Setting.TheVariants as Q
use Rattle.format.specs.Bytes.{part}
use Rattle.format.specs.Prefix.{prefix_of}
use Rattle.format.specs.Text.{span_at}
use Rattle.format.specs.Contents.{Prefixed, bytes_in}
use Rattle.format.specs.Grammar.{Width}
use Rattle.fields.specs.Parts.{length_part}
use Rattle.fields.specs.Judged.{judged_taken, judged_end}
use Rattle.num.specs.Le.{Bytes}
use Rattle.prefix.specs.Laws.{lenient_alike}
use Rattle.prefix.specs.Widths.{length_prefix_of, width_written, width_read}
use Rattle.strings.specs.Counted.{Counted, counted_moves}
use Rattle.spans.specs.Spans.{span_there}
use Rattle.places.specs.Stand.{Stand, stand_size, stand_same, stand_part, stand_then, stand_split}

-- a text and its width give what is written
pub prefixed : (t : Prefixed) (w : ℕ) (b : List ℕ) → w ≡ t.width → b ≡ t.text → record { width = w; text = b } ≡ t
prefixed t w b d e = rw (d, e)

-- the text from a to e, with the prefix before it from p on
abbrev pub written_at : List ℕ → ℕ → ℕ → ℕ → Prefixed
written_at s p a e = record { width = a - p; text = part s a (e - a) }

-- what stands behind a prefix of this width
pub behind : (s : List ℕ) (t : Prefixed) (p e : ℕ) → Stand s (bytes_in t) p e → Stand s t.text (p + t.width) e
behind s t p e w =
    let x = stand_split (prefix_of t.width (length t.text)) t.text w in
    let k : x.0 ≡ p + t.width = stand_size x.1 ∙ ap (λ (n : ℕ). p + n) (length_prefix_of t.width (length t.text)) in
    rw k at x.2

module _ (τ : Terms) (test : List ℕ → Bool) (refusal : Refusal) (s : List ℕ) (p e : ℕ) where
  pub counted_there : (t : Prefixed) → Width τ.setting t.width (length t.text) → length t.text < 2147483648 → test t.text ≡ true
      → Stand s (bytes_in t) p e → Counted τ.setting test refusal s p (length t.text) (p + t.width) e
  counted_there t g h i w =
      let x = stand_split (prefix_of t.width (length t.text)) t.text w in
      let m = x.0 in
      let k : m ≡ p + t.width = stand_size x.1 ∙ ap (λ (n : ℕ). p + n) (length_prefix_of t.width (length t.text)) in
      let j = stand_size x.2 in
      let z : e - m ≡ length t.text = omega arith in
      let same : part s m (length t.text) ≡ t.text = rw z at (stand_same x.2) in
      let d = judged_end test refusal s m (length t.text) e (record { ends = j; room = omega (arith, x.2.room); good = rw same i }) in
      record { says = width_written τ.setting t.width (length t.text) s (drop m s) p g h x.1.bytes; ends = rw k at d }

  -- where it was judged before, the total reader finds it
  pub counted_span : (n a : ℕ) → Counted τ.setting test refusal s p n a e → span_at s p ≡ record { from = a; to = e }
  counted_span n a c =
      let w = judged_taken test refusal s a n e c.ends in
      span_there s p n a (lenient_alike τ.setting s p n a c.says) w.room ∙ ap (λ (z : ℕ). record { from = a; to = z }) (sym w.ends)

  -- what is read there is written there, and good
  pub record Written (a : ℕ) : Type 0 where
    pub width : Width τ.setting (a - p) (length (part s a (e - a)))
    pub short : length (part s a (e - a)) < 2147483648
    pub good : test (part s a (e - a)) ≡ true
    pub stands : Stand s (bytes_in (written_at s p a e)) p e

  pub counted_back : (n a : ℕ) → Bytes s → Counted τ.setting test refusal s p n a e → Written a
  counted_back n a b c =
      let m = counted_moves τ.setting test refusal s p n a e c in
      let r = width_read τ.setting s b p n a c.says in
      let w = judged_taken test refusal s a n e c.ends in
      let z : e - a ≡ n = omega (arith, w.ends) in
      let l : length (part s a (e - a)) ≡ n = rw z (length_part s a n (omega (arith, w.room, w.ends))) in
      let v : Stand s (prefix_of (a - p) (length (part s a (e - a)))) p a =
      rw l (record { bytes = r.bytes; onward = omega arith; room = omega arith }) in
      record { width = rw l r.width; short = rw l r.number; good = rw z w.good; stands = stand_then v (stand_part m.1 m.2) }
