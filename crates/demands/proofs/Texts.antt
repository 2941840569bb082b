-- The table that shows a reading: its rows are those of the reading, then blank ones, and as many rows are shown as it has; a row has text exactly when
-- its kind is 6, and the text view then shows the text of that string record.
use Rattle.std.specs.Prelude.{ℕ, zero, suc, ◌+◌, ◌-◌, ◌≤◌, ◌<◌, ◌≡◌, refl, List, ◌∷◌, ◌++◌, length, replicate}
use Rattle.std.proofs.Common.{ap, ◌∙◌, arith, length-append, ne_eqb}
use Rattle.format.specs.Terms.{Terms}
use Rattle.format.specs.declared.Row.{Row}
use Rattle.format.specs.Numbers.{le_bytes}
use Rattle.format.specs.Rows.{blank, room_of}
use Rattle.format.specs.Contents.{Rec, header, enc}
use Rattle.format.specs.Grammar.{Reading}
use Rattle.num.specs.Le.{length_le_bytes}
use Rattle.demands.specs.Calls.{tabled}
use Rattle.demands.specs.Records.{Along, no_record, one_record, reading_along}
use Rattle.demands.specs.Texts.{tabled_rows, ends_in, shown_in}

ends_blank : (n : ℕ) → ends_in (replicate n blank) ≡ 0
unfolding ends_in
ends_blank zero = refl
ends_blank (suc n) = let e = ends_blank n in omega arith

-- every record has a byte or more, or bytes before it
along_ends : (τ : Terms) {at : ℕ} {rs : List Rec} {is : List Row} (n : ℕ) → Along τ at rs is → 0 < at → ends_in (is ++ replicate n blank) ≡ length is
unfolding ends_in
along_ends τ n no_record h = ends_blank n
along_ends τ n (one_record {at = at} {next = next} {r = r} {it = it} {is = is} w g o e k) h =
    let f = w.end_is in
    let z = ne_eqb it.end 0 (λ y. omega arith) in
    let a = along_ends τ n k (omega arith) in
    rw z (omega arith)

reading_ends : (τ : Terms) {at : ℕ} {root h : ℕ} {rs : List Rec} {is : List Row} (n : ℕ) → Along τ at (header root h ∷ rs) is → ends_in (is ++ replicate n blank) ≡ length is
unfolding ends_in enc
reading_ends τ {at} {root} {h} n (one_record {next = next} {it = it} w g o e k) =
    let s = length-append (le_bytes 4 root) (le_bytes 4 h ++ (le_bytes 4 1 ++ le_bytes 4 0)) in
    let l = length_le_bytes 4 root in
    let f : it.end ≡ at + suc (length (le_bytes 4 root ++ (le_bytes 4 h ++ (le_bytes 4 1 ++ le_bytes 4 0)))) = w.end_is in
    let j : next ≡ at + suc (length (le_bytes 4 root ++ (le_bytes 4 h ++ (le_bytes 4 1 ++ le_bytes 4 0)))) = e in
    let z = ne_eqb it.end 0 (λ y. omega arith) in
    let a = along_ends τ n k (omega arith) in
    rw z (omega arith)

-- the table of a reading shows as many rows as the reading has
pub shown_rows : (τ : Terms) {s : List ℕ} {rows : List Row} → Reading τ s rows → (t : List ℕ) → length rows ≤ room_of t → shown_in (tabled (length t) rows) ≡ length rows
shown_rows τ {rows = rows} w t h = ap ends_in (tabled_rows t rows h) ∙ reading_ends τ (room_of t - length rows) (reading_along τ w)
