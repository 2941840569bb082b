-- What was judged before stands where the total readers find it: strings, names, names in a row, and details.
use Rattle.std.specs.Prelude.{ℕ, zero, suc, ◌+◌, ◌-◌, ◌≡◌, Bool, true, false, ◌||◌, List, length, eqb, Ok}
use Rattle.std.proofs.Common.{sym, ◌∙◌, lt-ltb, le-leb}
use Rattle.std.proofs.Math.Path.{ap}
use Rattle.format.specs.declared.Setting.{Setting}
use Rattle.format.specs.declared.Refusal.TheVariants as R
use Rattle.format.specs.declared.Span.{Span}
use Rattle.format.specs.Bytes.{pick, part}
use Rattle.format.specs.Text.{well_formed, text_at, string_at, span_at}
use Rattle.format.specs.Values.{on_end, times}
use Rattle.format.specs.Types.{code_at, name_at, library_id_at, info_at, past, after_text, after_number, after_info}
use Rattle.format.specs.Says.{text_from, after_texts}
use Rattle.fields.specs.Judged.{judged_at, judged_taken}
use Rattle.fields.specs.Sequence.{through}
use Rattle.num.specs.Read.{u32_says}
use Rattle.prefix.specs.Laws.{lenient_alike}
use Rattle.strings.specs.Laws.{string_told}
use Rattle.types.specs.Keeps.{code_told, name_told, library_told}
use Rattle.spans.specs.Spans.{span_there}

-- ---- strings

module _ (σ : Setting) (s : List ℕ) (p a e : ℕ) (q : string_at σ s p ≡ Ok (record { from = a; to = e })) where
  pub string_span_lem : span_at s p ≡ record { from = a; to = e }
  unfolding text_at judged_at
  string_span_lem =
      let w = string_told σ s p a e q in
      let t = judged_taken well_formed R.BadText s a w.0 e w.1.ends in
      span_there s p w.0 a (lenient_alike σ s p w.0 a w.1.says) t.room ∙ ap (λ (z : ℕ). record { from = a; to = z }) (sym t.ends)

  pub string_after : after_text s p ≡ e
  string_after = ap (λ (x : Span). x.to) string_span_lem

  pub string_text : text_from s p ≡ part s a (e - a)
  string_text = rw string_span_lem

-- ---- names

pub name_after : (σ : Setting) (s : List ℕ) (p e : ℕ) → name_at σ s p ≡ Ok e → after_text s p ≡ e
name_after σ s p e q =
    let w = name_told σ s p e q in
    string_after σ s p w.0 e w.1

pub names_after : (σ : Setting) (s : List ℕ) (n p e : ℕ) → times (name_at σ s) n p ≡ Ok e → after_texts s n p ≡ e
unfolding times after_texts
names_after σ s zero p e q = cc
names_after σ s (suc n) p e q =
    let x = through (times (name_at σ s) n) (name_at σ s p) e q in
    rw (name_after σ s p x.0 x.1) (names_after σ s n x.0 e x.2)

-- ---- details

module _ (s : List ℕ) (p e : ℕ) where
  code_after : code_at s p ≡ Ok e → past (length s) p ≡ e
  code_after q =
      let w = code_told s p e q in
      rw (lt-ltb p (length s) w.2) (sym w.3)

  library_after : library_id_at s p ≡ Ok e → after_number s p ≡ e
  library_after q =
      let w = library_told s p e q in
      let u = u32_says s p w.0 e w.1 in
      rw (le-leb (p + 4) (length s) u.within) (sym u.next)

pub info_after : (σ : Setting) (s : List ℕ) (type p e : ℕ) → info_at σ s type p ≡ Ok e → after_info s type p ≡ e
unfolding info_at after_info
info_after σ s type p e q = go (eqb type 0 || eqb type 7) (eqb type 3) (eqb type 4) q
  where
    class : on_end (library_id_at s) (name_at σ s p) ≡ Ok e → after_number s (after_text s p) ≡ e
    class q =
        let x = through (library_id_at s) (name_at σ s p) e q in
        rw (name_after σ s p x.0 x.1) (library_after s x.0 e x.2)

    go : (x y z : Bool) → pick x (code_at s p) (pick y (name_at σ s p) (pick z (on_end (library_id_at s) (name_at σ s p)) (Ok p))) ≡ Ok e
        → pick x (past (length s) p) (pick y (after_text s p) (pick z (after_number s (after_text s p)) p)) ≡ e
    go true y z q = code_after s p e q
    go false true z q = name_after σ s p e q
    go false false true q = class q
    go false false false q = cc
