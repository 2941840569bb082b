-- Numbers, names and codes at a place (01, Field rules): what is written is read, and what is read is written so, with contents that are
-- functions of the stream and the place.
use Rattle.std.specs.Prelude.{ℕ, ◌+◌, ◌-◌, ◌<◌, ◌≡◌, false, List, [], ◌∷◌, length, get_or, drop, Some, Ok}
use Rattle.std.proofs.Common.{sym, ap, ◌∙◌, arith, leb-false}
use Rattle.std.proofs.lemmas.Bool.{lt-leb}
use Rattle.format.specs.Terms.{Terms}
use Rattle.format.specs.declared.Refusal.TheVariants as R
use Rattle.format.specs.declared.PrimitiveCode.{PrimitiveCode}
use Rattle.format.specs.Bytes.{part}
use Rattle.format.specs.Numbers.{le_bytes, negative, u32_at}
use Rattle.format.specs.Text.{well_formed, text_at, string_at, span_at}
use Rattle.format.specs.Types.{code_number, primitive_of, code_at, name_at, after_text}
use Rattle.format.specs.Contents.{Prefixed, bytes_in}
use Rattle.format.specs.Says.{text_from, number_from, code_from}
use Rattle.format.specs.Grammar.{Name}
use Rattle.fields.specs.Judged.{judged_at}
use Rattle.fields.specs.Parts.{length_part}
use Rattle.num.specs.Le.{Bytes, bytes_part, length_le_bytes, le_bytes_le}
use Rattle.num.specs.Read.{u32_says, u32_written, says_below}
use Rattle.strings.specs.Laws.{string_part, string_told}
use Rattle.spans.specs.Judged.{string_span_lem, string_after, string_text}
use Rattle.codes.specs.Codes.{primitive_number, number_primitive}
use Rattle.codes.specs.Ends.{code_end_lem, name_end}
use Rattle.types.specs.Keeps.{code_told, name_told}
use Rattle.utf8.specs.Exactly.{utf8_exactly}
use Rattle.places.specs.Stand.{Stand, stand_size, stand_same, stand_part, stand_byte, stand_inside, stand_here}
use Rattle.places.specs.Prefixes.{prefixed, behind, counted_there, written_at, counted_back}

-- ---- numbers

pub number_size : (s : List ℕ) (n p e : ℕ) → Stand s (le_bytes 4 n) p e → e ≡ p + 4
number_size s n p e w = stand_size w ∙ ap (λ (k : ℕ). p + k) (length_le_bytes 4 n)

pub number_there : (s : List ℕ) (n p e : ℕ) → n < 4294967296 → Stand s (le_bytes 4 n) p e → u32_at s p ≡ Some (n, e)
number_there s n p e h w =
    let z : e ≡ p + 4 = number_size s n p e w in
    rw z (u32_written s (drop e s) p n h w.bytes)

-- what is read at p and ends at e
pub record Number (s : List ℕ) (p v e : ℕ) : Type 0 where
  pub stands : Stand s (le_bytes 4 v) p e
  pub bits : v < 4294967296
  pub from : number_from s p ≡ v
  pub next : e ≡ p + 4

pub number_back : (s : List ℕ) (p v e : ℕ) → Bytes s → u32_at s p ≡ Some (v, e) → Number s p v e
number_back s p v e b q =
    let w = u32_says s p v e q in
    let l = length_part s p 4 w.within in
    let z : e - p ≡ 4 = omega arith in
    let f : le_bytes 4 v ≡ part s p (e - p) = rw (z, w.value) (rw l at (le_bytes_le (part s p 4) (bytes_part s p 4 b))) in
    record {
      stands = rw f (stand_part (omega arith) (omega arith));
      bits = says_below s p 4 v e b w;
      from = sym w.value;
      next = w.next;
    }

-- the number that stands there is the one that is written
pub number_from_lem : (s : List ℕ) (n p e : ℕ) → n < 4294967296 → Stand s (le_bytes 4 n) p e → number_from s p ≡ n
number_from_lem s n p e h w = sym (u32_says s p n e (number_there s n p e h w)).value

-- ---- signs

pub not_negative : (n : ℕ) → n < 2147483648 → negative n ≡ false
not_negative n h = lt-leb 2147483648 n h

pub below_negative : (n : ℕ) → negative n ≡ false → n < 2147483648
below_negative n e = leb-false 2147483648 n e

-- ---- names

-- the string that stands at a place: the width of its prefix and its text
abbrev pub prefixed_at : List ℕ → ℕ → Prefixed
prefixed_at s p = record { width = (span_at s p).from - p; text = text_from s p }

module _ (τ : Terms) (s : List ℕ) (t : Prefixed) (p e : ℕ) (n : Name τ t) (w : Stand s (bytes_in t) p e) where
  pub string_there : string_at τ.setting s p ≡ Ok (record { from = (p + t.width); to = e })
  unfolding text_at judged_at
  string_there =
      let c = counted_there τ well_formed R.BadText s p e t n.prefix n.characters.short ((utf8_exactly t.text).1 n.characters.good) w in
      string_part τ.setting s p (length t.text) (p + t.width) e c.says c.ends

  pub name_there : name_at τ.setting s p ≡ Ok e
  name_there = name_end τ.setting s p (p + t.width) e string_there

  pub name_text : text_from s p ≡ t.text
  name_text = string_text τ.setting s p (p + t.width) e string_there ∙ stand_same (behind s t p e w)

  pub name_after : after_text s p ≡ e
  name_after = string_after τ.setting s p (p + t.width) e string_there

  pub name_in_lem : prefixed_at s p ≡ t
  name_in_lem = prefixed t ((span_at s p).from - p) (text_from s p) (rw (string_span_lem τ.setting s p (p + t.width) e string_there) (omega arith)) name_text

pub name_back : (τ : Terms) (s : List ℕ) (p e : ℕ) → Bytes s → name_at τ.setting s p ≡ Ok e
    → Name τ (prefixed_at s p) × Stand s (bytes_in (prefixed_at s p)) p e × (after_text s p ≡ e)
name_back τ s p e b q =
    let w = name_told τ.setting s p e q in
    let a = w.0 in
    let c = string_told τ.setting s p a e w.1 in
    let y = counted_back τ well_formed R.BadText s p e c.0 a b c.1 in
    let g : Name τ (written_at s p a e) =
    record { characters = record { good = (utf8_exactly (part s a (e - a))).0 y.good; short = y.short }; prefix = y.width } in
    rw (string_span_lem τ.setting s p a e w.1) (g, y.stands, string_after τ.setting s p a e w.1)

-- ---- codes

module _ (s : List ℕ) (c : PrimitiveCode) (p e : ℕ) (w : Stand s (code_number c ∷ []) p e) where
  code_is : primitive_of (get_or s p 0) ≡ Some c
  code_is = rw (stand_here w) (primitive_number c)

  pub code_there : code_at s p ≡ Ok e
  code_there =
      let k = stand_size w in
      rw k (code_end_lem s p (stand_inside w) c code_is)

  pub code_from_lem : code_from s p ≡ c
  code_from_lem = rw code_is

pub code_back : (s : List ℕ) (p e : ℕ) → code_at s p ≡ Ok e → Stand s (code_number (code_from s p) ∷ []) p e
code_back s p e q =
    let w = code_told s p e q in
    let f : code_number (code_from s p) ≡ get_or s p 0 = rw w.1 (number_primitive (get_or s p 0) w.0 w.1) in
    rw (f, w.3) (stand_byte w.2)
