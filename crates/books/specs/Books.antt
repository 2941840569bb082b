-- The bytes that are judged to be a class book are those of some list of good entries, and of one list only (02, (ii)).
use Prim.Native.Nat.{ℕ, zero, suc, ◌+◌, ◌≤◌, ◌<◌}
use Rattle.std.specs.Prelude.{◌≡◌, drop, Result, Ok, Err}
use Rattle.format.specs.declared.Refusal.{Refusal}
use Rattle.std.proofs.Math.Path.{refl, sym, ap₂}
use Rattle.std.proofs.Common.{ap, ◌∙◌, drop_of_length-le}
use mathlib.Core.List.{List, [], ◌∷◌, append-nil}
use native.Mathlib.Omega.{arith}
use Rattle.std.proofs.Math.Decide.{dec_lt}
use Rattle.std.proofs.Math.ListN.{length}
use Rattle.format.specs.Contents.{Class}
use Rattle.format.specs.Book.{entry_bytes, book_bytes}
use Rattle.format.specs.Entries.{entry_at, on_entry, bad_from, bad_entry}
use Rattle.format.specs.Grammar.{BookEntries, no_entry, entries, Book}
use Rattle.num.specs.Le.{Bytes}
use Rattle.book.specs.Moves.{entry_moves, bad_whole, bad_none, bad_step}
use Rattle.places.specs.Stand.{Stand, stand_size, stand_none, stand_then, stand_split, stand_inside}
use Rattle.books.specs.Entry.{entry_there, EntryRead, entry_back, entry_one}

-- nothing follows the end
past_end : (β : List ℕ) → drop (length β) β ≡ []
past_end β = drop_of_length-le β {i = length β} (omega arith)

-- a book stands in itself from its beginning to its end
book_stands : (β : List ℕ) (cs : List Class) → Book β cs → Stand β (book_bytes cs) 0 (length β)
book_stands β cs k = record { bytes = rw (past_end β, append-nil (book_bytes cs)) k.bytes_are; onward = omega arith; room = omega arith }

module _ (β : List ℕ) where
  -- ---- good entries are judged so

  pub entries_there : (k p : ℕ) (cs : List Class) → BookEntries cs → length β < 4294967296 → Stand β (book_bytes cs) p (length β) → bad_from k β p ≡ 0
  unfolding book_bytes bad_from
  entries_there zero p cs g small w = refl
  entries_there (suc k) p cs no_entry small w = let z = stand_size w in bad_none β (suc k) p (omega arith)
  entries_there (suc k) p cs (entries {c = c} {cs = rest} g more) small w =
      let x = stand_split (entry_bytes c) (book_bytes rest) w in
      let q = entry_there β c p x.0 g (omega (arith, x.1.room)) x.1 in
      bad_step β k p (stand_inside w) ∙ rw q (entries_there k x.0 rest more small x.2)

  -- ---- what is judged good is a list of good entries

  -- good entries from p to the end
  record EntriesRead (p : ℕ) : Type 0 where
    classes : List Class
    good : BookEntries classes
    stands : Stand β (book_bytes classes) p (length β)
    small : length β < 4294967296

  entries_end : (p : ℕ) → p ≡ length β → p < 4294967296 → EntriesRead p
  unfolding book_bytes
  entries_end p z h = record { classes = []; good = no_entry; stands = rw z (stand_none (omega arith)); small = omega arith }

  entries_more : (p e : ℕ) → EntryRead β p e → EntriesRead e → EntriesRead p
  unfolding book_bytes
  entries_more p e v w =
      record { classes = v.class ∷ w.classes; good = entries v.good w.good; stands = stand_then v.stands w.stands; small = w.small }

  entries_back : (k p : ℕ) → Bytes β → length β ≤ p + k → p ≤ length β → p < 4294967296 → bad_from k β p ≡ 0 → EntriesRead p
  entries_back zero p b h i small q = entries_end p (omega arith) small
  entries_back (suc k) p b h i small q = go (λ e. entries_back k e b) (dec_lt p (length β))
    where
      Again : Type 0
      Again = (e : ℕ) → length β ≤ e + k → e ≤ length β → e < 4294967296 → bad_from k β e ≡ 0 → EntriesRead e

      each : Again → (r : Result ℕ Refusal) → entry_at β p ≡ r → on_entry (bad_from k β) p r ≡ 0 → EntriesRead p
      each again (Ok e) d q =
          let m = entry_moves β p e d in
          let v = entry_back β p e b d in
          entries_more p e v (again e (omega arith) m.1 v.small q)
      each again (Err f) d q = absurd (omega arith)

      go : Again → Dec (p < length β) → EntriesRead p
      go again (yes l) = each again (entry_at β p) refl (sym (bad_step β k p l) ∙ q)
      go again (no l) = entries_end p (omega arith) small

  -- ---- and of no other

  entries_one : (p : ℕ) (cs ds : List Class) → BookEntries cs → BookEntries ds → length β < 4294967296
      → Stand β (book_bytes cs) p (length β) → Stand β (book_bytes ds) p (length β) → cs ≡ ds
  unfolding book_bytes
  entries_one p cs ds no_entry no_entry small v w = refl
  entries_one p cs ds no_entry (entries g more) small v w = let z = stand_size v in let i = stand_inside w in absurd (omega arith)
  entries_one p cs ds (entries g more) no_entry small v w = let z = stand_size w in let i = stand_inside v in absurd (omega arith)
  entries_one p cs ds (entries {c = c} {cs = cs2} g more) (entries {c = d} {cs = ds2} h others) small v w =
      let x = stand_split (entry_bytes c) (book_bytes cs2) v in
      let y = stand_split (entry_bytes d) (book_bytes ds2) w in
      let same = entry_one β c d p x.0 y.0 g h x.1 y.1 in
      let z : y.0 ≡ x.0 = stand_size y.1 ∙ (ap (λ (c : Class). p + length (entry_bytes c)) (sym same) ∙ sym (stand_size x.1)) in
      let rest : Stand β (book_bytes ds2) x.0 (length β) = rw z at y.2 in
      ap₂ (λ (k : Class) (ks : List Class). k ∷ ks) same (entries_one x.0 cs2 ds2 more others small x.2 rest)

-- bytes in which no entry is bad are a book
pub book_judged : (β : List ℕ) → Bytes β → bad_entry β ≡ 0 → (cs : List Class) × Book β cs
book_judged β b q =
    let w = entries_back β (length β) 0 b (omega arith) (omega arith) (omega arith) (sym (bad_whole β) ∙ q) in
    (w.classes, record { bytes_are = w.stands.bytes ∙ rw (past_end β) (append-nil (book_bytes w.classes)); good = w.good; small = w.small })

-- no entry of a book is bad
pub book_taken : (β : List ℕ) (cs : List Class) → Book β cs → bad_entry β ≡ 0
book_taken β cs k = bad_whole β ∙ entries_there β (length β) 0 cs k.good k.small (book_stands β cs k)

-- a book has one list of entries
pub book_one : (β : List ℕ) (cs ds : List Class) → Book β cs → Book β ds → cs ≡ ds
book_one β cs ds k l = entries_one β 0 cs ds k.good l.good k.small (book_stands β cs k) (book_stands β ds l)
