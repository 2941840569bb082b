-- The tidy copy of a good model has a reading, with the rows of its records (01, The tidy copy).
use Rattle.std.specs.Prelude.{ℕ, suc, ◌+◌, ◌≤◌, ◌<◌, ◌≡◌, refl, true, List, [], ◌∷◌, ◌++◌, length}
use Rattle.std.proofs.Common.{sym, ap, ◌∙◌, arith, length-append}
use Rattle.format.specs.Terms.{Terms}
use Rattle.format.specs.declared.Row.{Row}
use Rattle.format.specs.Rows.{linked}
use Rattle.format.specs.Contents.{Rec, header, end, enc, encs, Class}
use Rattle.format.specs.Grammar.{Book, cur, row_of, Objects, ids_of, refs_of, among, Reading}
use Rattle.format.specs.Says.{Model}
use Rattle.format.specs.Tidy.{Progress, nothing, tidy_records, tidy_of}
use Rattle.links.specs.Links.{length_linked}
use Rattle.laws.specs.Links.{linked_links}
use Rattle.laws.specs.Numbers.{after_nodes}
use Rattle.saying.specs.Good.{Good}
use Rattle.saying.specs.Numbers.{Numbered, numbered_none, numbered_nodes}
use Rattle.saying.specs.Shown.{Shown, packed, no_wait, squeezed, recs_of, recs_squeezed}
use Rattle.saying.specs.Legal.{Legal}
use Rattle.saying.specs.Enough.{enough, count_total, legal_few, legal_ids, legal_refs}
use Rattle.again.specs.Rows.{rows_from, length_rows, which_of, Placed}
use Rattle.again.specs.Nested.{legal_nests}
use Rattle.again.specs.Own.{All, Kept, kept, few_records}

-- the records that are written, with their places
abbrev pub shown_of : Model → List Shown
shown_of m = squeezed no_wait (packed nothing m.nodes)

-- all that was written
abbrev pub written_of : Model → Progress
written_of m = after_nodes nothing m.nodes

abbrev pub which_in : Model → ℕ → ℕ
which_in m = which_of 1 (shown_of m)

-- the rows before linking, and after it
abbrev pub raw_of : Model → List Row
raw_of m = row_of 0 0 (header m.root m.root) m.root 0 0 0 0 ∷ rows_from (which_in m) 17 1 [] (shown_of m)

abbrev pub table_of : Model → List Row
table_of m = linked (raw_of m)

pub length_table : (m : Model) → length (table_of m) ≡ 2 + length (shown_of m)
length_table m =
    let a = length_linked (raw_of m) in
    let b = length_rows (which_in m) 17 1 [] (shown_of m) in
    omega arith

pub placed_all : (xs : List Shown) → Placed (which_of 1 xs) 0 1 xs
placed_all xs k = let z : 0 + k ≡ k = omega arith in ap (λ (j : ℕ). which_of 1 xs (suc j)) z

pub tidy_bytes : (m : Model) → tidy_of m ≡ enc (header m.root m.root) ++ encs (recs_of (shown_of m) ++ (end ∷ []))
unfolding tidy_of tidy_records encs
tidy_bytes m = ap (λ (rs : List Rec). enc (header m.root m.root) ++ encs (rs ++ (end ∷ []))) (sym (recs_squeezed no_wait nothing m.nodes))

module _ (m : Model) (g : Good m) where
  pub numbered : Numbered (written_of m)
  numbered = numbered_nodes nothing m.nodes numbered_none

module _ (τ : Terms) (m : Model) (g : Good m) where
  pub all_kept : All (Kept (written_of m)) (recs_of (shown_of m))
  all_kept = kept τ (written_of m) (numbered m g) g.total 0 [] m.nodes nothing no_wait g.nodes_fit numbered_none refl

  module _ (small : length (tidy_of m) ≤ 16777216) where
    shown_few : length (shown_of m) ≤ 16777216
    shown_few =
        let a = few_records (written_of m) (shown_of m) (end ∷ []) all_kept in
        let b = ap length (tidy_bytes m) ∙ length-append (enc (header m.root m.root)) (encs (recs_of (shown_of m) ++ (end ∷ []))) in
        omega arith

    pub written_legal : Legal τ g.total 0 1 [] [] (shown_of m)
    written_legal = legal_few τ g.total m.nodes g.nodes_fit (omega (arith, shown_few)) 1

    root_small : m.root < 4294967296
    root_small =
        let a = enough m.nodes nothing no_wait in
        let b = count_total g.total [] m.nodes nothing g.nodes_fit in
        let c = g.root_in in
        let d = shown_few in
        omega arith

module _ (m : Model) (g : Good m) where
  module _ (small : length (tidy_of m) ≤ 16777216) where
    abbrev records : List Rec
    records = recs_of (shown_of m) ++ (end ∷ [])

module _ (τ : Terms) (m : Model) (g : Good m) where
  module _ (small : length (tidy_of m) ≤ 16777216) where
    nested : Objects τ (cur 17 1 [] (records m g small) (rows_from (which_in m) 17 1 [] (shown_of m)))
    nested = legal_nests τ (which_in m) refl (written_legal τ m g small) (placed_all (shown_of m)) 17

    rooted : among m.root (ids_of (records m g small)) ≡ true
    rooted = legal_ids τ (written_legal τ m g small) m.root g.rooted g.root_in

    targets : (i : ℕ) → among i (refs_of (records m g small)) ≡ true → among i (ids_of (records m g small)) ≡ true
    targets i e = let r = legal_refs τ (written_legal τ m g small) i e in legal_ids τ (written_legal τ m g small) i r.0 r.1

    -- with a book, which it does not need
    pub reading : (cs : List Class) → Book τ.book cs → Reading τ (tidy_of m) (table_of m)
    reading cs book =
        record {
          classes = cs;
          book_is = book;
          root = m.root;
          header_id = m.root;
          rs = records m g small;
          is = rows_from (which_in m) 17 1 [] (shown_of m);
          root_bits = root_small τ m g small;
          header_bits = root_small τ m g small;
          bytes_are = tidy_bytes m;
          small = small;
          objects_are = nested;
          rooted = rooted;
          targets = targets;
          links_are = linked_links τ m.root m.root (records m g small) (rows_from (which_in m) 17 1 [] (shown_of m)) nested rooted targets;
        }
