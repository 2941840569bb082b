-- Text (Unicode 5.0, section 3.9, table 3-7) and the prefixed string.
use Rattle.std.specs.Prelude.{ℕ, ◌+◌, ◌-◌, Bool, List, [], ◌∷◌, length, ltb, leb, eqb, Result, Ok, Err}
use Rattle.format.specs.declared.Refusal.{Refusal}
use Rattle.format.specs.declared.Utf8.{Utf8}
use Rattle.format.specs.declared.Refusal.TheVariants as R
use Rattle.format.specs.declared.Setting.{Setting}
use Rattle.format.specs.declared.Setting.TheVariants as Q
use Rattle.format.specs.declared.Span.{Span}
use Rattle.format.specs.Bytes.{pick, part}
use Rattle.format.specs.Prefix.{prefix_at}

-- how many bytes follow a first byte: 00..7F none, C2..DF one, E0..EF two, F0..F4 three; 4 for any other
unfoldable pub need_of : ℕ → ℕ
need_of b = pick (ltb b 0x80) 0 (pick (ltb b 0xC2) 4 (pick (ltb b 0xE0) 1 (pick (ltb b 0xF0) 2 (pick (ltb b 0xF5) 3 4))))

-- the second byte lies in 80..BF, but in A0.. after E0, 90.. after F0, ..9F after ED, ..8F after F4
unfoldable pub lo_of : ℕ → ℕ
lo_of b = pick (eqb b 0xE0) 0xA0 (pick (eqb b 0xF0) 0x90 0x80)

unfoldable pub hi_of : ℕ → ℕ
hi_of b = pick (eqb b 0xED) 0x9F (pick (eqb b 0xF4) 0x8F 0xBF)

-- nothing can mend this
abbrev pub broken : Utf8
broken = record { need = 4; lo = 255; hi = 0 }

-- between two scalars
abbrev pub between : Utf8
between = record { need = 0; lo = 0x80; hi = 0xBF }

-- after a first byte
unfoldable pub lead_of : ℕ → Utf8
lead_of b = pick (eqb (need_of b) 4) broken (record { need = need_of b; lo = lo_of b; hi = hi_of b })

-- after any byte
unfoldable pub step_of : Utf8 → ℕ → Utf8
step_of st b =
    pick (eqb st.need 0) (lead_of b)
    (pick (ltb b st.lo) broken (pick (ltb st.hi b) broken (record { need = st.need - 1; lo = 0x80; hi = 0xBF })))

-- after a list of bytes
unfoldable pub after : Utf8 → List ℕ → Utf8
after st [] = st
after st (b ∷ l) = after (step_of st b) l

unfoldable pub well_formed : List ℕ → Bool
well_formed l = eqb (after between l).need 0

-- n bytes of text at a place: missing bytes, then bad text
unfoldable pub text_at : List ℕ → ℕ → ℕ → Result ℕ Refusal
text_at s at n = pick (leb (at + n) (length s)) (pick (well_formed (part s at n)) (Ok (at + n)) (Err R.BadText)) (Err R.CutShort)

-- ---- the prefixed string: prefix, then text

abbrev pub text_from : ℕ → Result ℕ Refusal → Result Span Refusal
text_from from (Ok end) = Ok (record { from = from; to = end })
text_from from (Err f) = Err f

abbrev pub after_prefix : List ℕ → Result (ℕ × ℕ) Refusal → Result Span Refusal
after_prefix s (Ok (n, next)) = text_from next (text_at s next n)
after_prefix s (Err f) = Err f

unfoldable pub string_at : Setting → List ℕ → ℕ → Result Span Refusal
string_at σ s at = after_prefix s (prefix_at σ s at)

-- ---- strings that were judged before

abbrev pub span_from : List ℕ → ℕ → Result (ℕ × ℕ) Refusal → Span
span_from s at (Ok (n, next)) = pick (leb (next + n) (length s)) (record { from = next; to = next + n }) (record { from = at; to = at })
span_from s at (Err f) = record { from = at; to = at }

-- where the text of a string that was judged before stands: neither the form of its prefix nor its text is judged again
unfoldable pub span_at : List ℕ → ℕ → Span
span_at s at = span_from s at (prefix_at Q.Lenient s at)
