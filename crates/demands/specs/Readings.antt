-- Demand 2: a list is accepted exactly when the published format, as document 01 settles it, has a reading of it that fits the lent table; and no
-- two readings of a list have different rows.
use Rattle.std.specs.Prelude.{ℕ, ◌+◌, ◌≤◌, ◌≡◌, ◌↔◌, List, length}
use Rattle.std.proofs.Common.{sym, ap, ◌∙◌, arith}
use Rattle.format.specs.Terms.{Terms}
use Rattle.format.specs.declared.Refusal.{Refusal}
use Rattle.format.specs.declared.Row.{Row}
use Rattle.format.specs.Grammar.{Reading}
use Rattle.format.specs.Machine.{accepted, refused, read_of}
use Rattle.num.specs.Le.{Bytes}
use Rattle.links.specs.Links.{length_linked}
use Rattle.standing.specs.Accepted.{accepted_stands}
use Rattle.readings.specs.Accept.{accepts}
use Rattle.readings.specs.Derive.{accepted_reading}

-- for every book and stream of bytes and every room: the machine accepts with rows exactly when the rows are a reading and number at most room
pub accepted_exactly : (τ : Terms) (s : List ℕ) → Bytes τ.book → Bytes s → (room : ℕ) (rows : List Row) → (read_of τ s room ≡ accepted rows) ↔ (Reading τ s rows × (length rows ≤ room))
accepted_exactly τ s booked byte room rows = (accepted_reading τ s booked byte room rows, λ w. accepts τ w.0 room w.1)

same_rows : {a b : List Row} → accepted a ≡ accepted b → a ≡ b
same_rows e = cc

-- two readings of one stream have equal rows; all else that they hold is equal, too (`reading-unique-whole`, Records)
pub reading_unique : (τ : Terms) (s : List ℕ) (rows others : List Row) → Reading τ s rows → Reading τ s others → rows ≡ others
reading_unique τ s rows others a b =
    let room : ℕ = length rows + length others in
    same_rows (sym (accepts τ a room (omega arith)) ∙ accepts τ b room (omega arith))

-- every row of a reading has a byte or more, so a table with a row for each byte has room for it
pub reading_short : (τ : Terms) (s : List ℕ) (rows : List Row) → Reading τ s rows → length rows ≤ length s
reading_short τ s rows w =
    let x = accepted_stands τ s (length rows) rows (accepts τ w (length rows) (omega arith)) in
    let l : length rows ≡ length x.raw = ap length x.same ∙ length_linked x.raw in
    let c = x.stands.counted in
    omega arith

pub not_both : (rows : List Row) (r : Refusal) (place : ℕ) → accepted rows ≡ refused r place → ⊥
not_both rows r place e = let z : ◌≡◌ {A = ℕ} 0 1 = cc in omega arith

-- a stream that is refused with a row for each byte has no reading
pub no_reading : (τ : Terms) (s : List ℕ) (r : Refusal) (place : ℕ) → read_of τ s (length s) ≡ refused r place → (rows : List Row) → Reading τ s rows → ⊥
no_reading τ s r place e rows w = not_both rows r place (sym (accepts τ w (length s) (reading_short τ s rows w)) ∙ e)
