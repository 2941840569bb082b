-- A good model, written as its tidy copy, is read and says the same (01, The tidy copy).
use Rattle.std.specs.Prelude.{ℕ, ◌+◌, ◌≤◌, ◌<◌, ◌≡◌, length, get_or, drop}
use Rattle.std.proofs.Math.Path.{refl, ap}
use Rattle.std.proofs.Common.{◌∙◌, arith, length-append}
use mathlib.Core.List.{List, [], ◌∷◌, ◌++◌, map}
use Rattle.format.specs.Terms.{Terms}
use Rattle.format.specs.declared.Row.{Row}
use Rattle.format.specs.Rows.{blank, find_from, object_row, link_of, linked}
use Rattle.format.specs.Contents.{header, end, enc, encs, Class}
use Rattle.format.specs.Says.{Node, Model, objects_in, order_of, nodes_of, nodes_from, says}
use Rattle.format.specs.Grammar.{Book}
use Rattle.format.specs.Tidy.{nothing, tidy_of}
use Rattle.format.specs.Machine.{accepted, read_of}
use Rattle.num.specs.Le.{length_le_bytes}
use Rattle.readings.specs.Accept.{accepts}
use Rattle.saying.specs.Good.{Good}
use Rattle.saying.specs.There.{rest_there}
use Rattle.saying.specs.Shown.{recs_of, packed, no_wait, squeezed}
use Rattle.saying.specs.Round.{round}
use Rattle.again.specs.Rows.{rows_from}
use Rattle.again.specs.Orders.{with_own, orders}
use Rattle.again.specs.Names.{Knows}
use Rattle.again.specs.Said.{records_said}
use Rattle.again.specs.Read.{shown_of, written_of, which_in, raw_of, table_of, length_table, placed_all, tidy_bytes, all_kept, written_legal, reading}

header_bytes : (root h : ℕ) → length (enc (header root h)) ≡ 17
unfolding enc
header_bytes root h = simp (length-append, length_le_bytes)

module _ (τ : Terms) (m : Model) (g : Good m) (small : length (tidy_of m) ≤ 16777216) where
  -- the rows after the header's
  rows_there : drop 1 (table_of m) ≡ map (with_own τ (which_in m) (raw_of m) (table_of m)) (rows_from (which_in m) 17 1 [] (shown_of m))
  unfolding linked
  rows_there = refl

  bytes_there : drop 17 (tidy_of m) ≡ encs (recs_of (shown_of m) ++ (end ∷ []))
  bytes_there =
      rest_there (tidy_of m) (enc (header m.root m.root)) (encs (recs_of (shown_of m) ++ (end ∷ []))) 0 17 (omega (arith, header_bytes m.root m.root)) (tidy_bytes m)

  -- the header is no object
  none_before : order_of (table_of m) 1 ≡ 0
  unfolding order_of objects_in linked
  none_before = refl

  ordered : (k : ℕ) → 0 < k → k ≤ g.total → (object_row k (raw_of m) ≡ which_in m k) × (order_of (table_of m) (which_in m k) ≡ k)
  unfolding object_row find_from
  ordered k a b = orders τ (which_in m) (raw_of m) (table_of m) (written_legal τ m g small) (placed_all (shown_of m)) 17 rows_there none_before k a b

  root_said : order_of (table_of m) (get_or (table_of m) 0 blank).link ≡ m.root
  unfolding linked link_of
  root_said =
      let r = ordered m.root g.rooted g.root_in in
      ap (order_of (table_of m)) r.0 ∙ r.1

  -- by any book: its classes have their types
  module _ (β : List ℕ) where
    knows_header : Knows τ β (tidy_of m) (table_of m) (written_of m) 1 []
    unfolding find_from linked
    knows_header = record { right = tt; fresh = λ i e. refl }

    nodes_after : nodes_from β (tidy_of m) (table_of m) (drop 1 (table_of m)) ≡ m.nodes
    nodes_after =
        records_said τ β (tidy_of m) (raw_of m) (table_of m) (written_of m) (which_in m) refl g.total (λ k a b. (ordered k a b).1) (λ k a b. (ordered k a b).0)
        (written_legal τ m g small) (placed_all (shown_of m)) 17 (all_kept τ m g) tt tt knows_header bytes_there rows_there
        ∙ round g.total m.nodes g.nodes_fit

    nodes_said : nodes_from β (tidy_of m) (table_of m) (table_of m) ≡ m.nodes
    unfolding nodes_from nodes_of linked
    nodes_said = nodes_after

    pub written_says : says β (tidy_of m) (table_of m) ≡ m
    unfolding says
    written_says =
        ap (λ (k : ℕ). record { root = k; nodes = nodes_from β (tidy_of m) (table_of m) (table_of m) }) root_said
        ∙ ap (λ (ns : List Node). record { root = m.root; nodes = ns }) nodes_said

-- what is written of a good model is accepted wherever its rows fit, with any good book, and says the model by any book at all
pub written_read : (τ : Terms) (cs : List Class) → Book τ.book cs → (m : Model) → Good m → length (tidy_of m) ≤ 16777216
    → (rows : List Row) × ((room : ℕ) → length rows ≤ room → read_of τ (tidy_of m) room ≡ accepted rows) × ((β : List ℕ) → says β (tidy_of m) rows ≡ m)
    × (length rows ≡ 2 + length (squeezed no_wait (packed nothing m.nodes)))
written_read τ cs book m g small = (table_of m, accepts τ (reading τ m g small cs book), written_says τ m g small, length_table m)
