-- Row by row: where each row's record is written as what was written before it asks, the copy of the rows is the tidy copy of what they say.
use Prim.Native.Nat.{ℕ, zero, suc, ◌+◌, ◌-◌, ◌<◌}
use Rattle.std.specs.Prelude.{◌≡◌, refl, true, false}
use Rattle.std.proofs.Common.{sym, subst, ◌∙◌, add-one, drop-cons}
use Rattle.std.proofs.Math.Path.{ap}
use mathlib.Core.List.{List, [], ◌∷◌, ◌++◌, append-nil, append_assoc}
use native.Mathlib.Omega.{arith}
use Rattle.std.proofs.Math.ListN.{length, get_or, drop, drop_of_length-le}
use Rattle.std.proofs.Math.Dec.{eqb}
use borrow.Author.Tests.{eqb-true, eqb-false, ne_eqb}
use Rattle.format.specs.Terms.{Terms}
use Rattle.format.specs.declared.Row.{Row}
use Rattle.format.specs.Rows.{blank, is_class}
use Rattle.format.specs.Contents.{Rec, header, end, enc, encs}
use Rattle.format.specs.Says.{Node, order_of, what_from, is_nulls, is_silent, nodes_of, nodes_from, says}
use Rattle.format.specs.Tidy.{Progress, nothing, records_of, after_what, pack, Run, no_run, run_of, squeeze, tidy_records, tidy_of}
use Rattle.laws.specs.Tests.{differ, either}
use Rattle.laws.specs.Runs.{encs_append}
use Rattle.put.specs.Out.{run_out}
use Rattle.pieces.specs.declared.Gathered.{Gathered}
use Rattle.pieces.specs.Copy.{record_out, none_yet, is_passed, before_out, run_after, row_out, copy_from, copy_of}
use Rattle.pieces.specs.Laws.{record_as_lem}
use Rattle.meaning.specs.Stands.{RowStands, the_header, by_id, a_class_rule, a_string_rule, an_array_rule, a_primitive_rule, a_reference_rule, nulls, the_end, a_library_rule, primitives, objects, texts, a_value_rule, Stands}
use Rattle.meaning.specs.Orders.{said_other, nodes_silent, after_silent, after_run, after_said, progress_to, progress_none, progress_next}
use Rattle.meaning.specs.Runs.{Match, match_none, nulls_kind, nulls_speak, nodes_passed, passed_library, before_passed, run_passed, before_other, run_other, nulls_after, null_match, null_row, end_row, other_row}

-- ---- where the header and the end stand

module _ (τ : Terms) (s : List ℕ) (rows : List Row) (i : ℕ) (r : Row) where
  pub header_first : RowStands τ s rows i r → r.kind ≡ 0 → i ≡ 0
  header_first (the_header z k t) e = z
  header_first (by_id k class l h c) e = absurd (omega arith)
  header_first (a_class_rule c x) e = differ (sym c ∙ ap is_class e)
  header_first (a_string_rule k x) e = absurd (omega arith)
  header_first (an_array_rule k x) e = absurd (omega arith)
  header_first (a_primitive_rule k x y z) e = absurd (omega arith)
  header_first (a_reference_rule k x) e = absurd (omega arith)
  header_first (nulls n x) e = differ (sym n ∙ ap is_nulls e)
  header_first (the_end k x y) e = absurd (omega arith)
  header_first (a_library_rule k x) e = absurd (omega arith)
  header_first (primitives k x y z u) e = absurd (omega arith)
  header_first (objects k x y) e = absurd (omega arith)
  header_first (texts k x y) e = absurd (omega arith)
  header_first (a_value_rule k x y) e = absurd (omega arith)

  pub end_last : RowStands τ s rows i r → r.kind ≡ 11 → suc i ≡ length rows
  end_last (the_header z k t) e = absurd (omega arith)
  end_last (by_id k class l h c) e = absurd (omega arith)
  end_last (a_class_rule c x) e = differ (sym c ∙ ap is_class e)
  end_last (a_string_rule k x) e = absurd (omega arith)
  end_last (an_array_rule k x) e = absurd (omega arith)
  end_last (a_primitive_rule k x y z) e = absurd (omega arith)
  end_last (a_reference_rule k x) e = absurd (omega arith)
  end_last (nulls n x) e = differ (sym n ∙ ap is_nulls e)
  end_last (the_end k x y) e = x
  end_last (a_library_rule k x) e = absurd (omega arith)
  end_last (primitives k x y z u) e = absurd (omega arith)
  end_last (objects k x y) e = absurd (omega arith)
  end_last (texts k x y) e = absurd (omega arith)
  end_last (a_value_rule k x y) e = absurd (omega arith)

-- ---- libraries and nulls are written with other rows

module _ (δ : ℕ) (s : List ℕ) (rs : List Row) (i : ℕ) (r : Row) where
  pub record_library : r.kind ≡ 12 → record_out δ s rs i r ≡ []
  record_library e = record_as_lem δ s rs i r 12 e

  pub record_nulls : is_nulls r.kind ≡ true → record_out δ s rs i r ≡ []
  record_nulls e = nulls_kind r.kind e (λ (k : ℕ). r.kind ≡ k → record_out δ s rs i r ≡ []) (record_as_lem δ s rs i r 10) (record_as_lem δ s rs i r 13) (record_as_lem δ s rs i r 14) refl

-- ---- the copy

-- marked rows, each of which writes what the row says
pub record Writes (δ : ℕ) (β s : List ℕ) (rows rs : List Row) : Type 0 where
  pub size : length rs ≡ length rows
  pub kinds : (i : ℕ) → i < length rows → (get_or rs i blank).kind ≡ (get_or rows i blank).kind
  pub nulls : (i : ℕ) → i < length rows → is_nulls (get_or rows i blank).kind ≡ true → get_or rs i blank ≡ get_or rows i blank
  pub first : record_out δ s rs 0 (get_or rs 0 blank) ≡ enc (header (order_of rows (get_or rows 0 blank).link) (order_of rows (get_or rows 0 blank).link))
  pub last : (i : ℕ) → i < length rows → (get_or rows i blank).kind ≡ 11 → record_out δ s rs i (get_or rs i blank) ≡ enc end
  pub each : (i : ℕ) → i < length rows → is_silent (get_or rows i blank).kind ≡ false → is_nulls (get_or rows i blank).kind ≡ false
      → record_out δ s rs i (get_or rs i blank) ≡ encs (records_of (progress_to β s rows i) (what_from β s rows (get_or rows i blank)))

module _ (τ : Terms) (δ : ℕ) (s : List ℕ) (rows rs : List Row) (st : Stands τ s rows) (wr : Writes δ τ.book s rows rs) where
  -- from row i on, after a run
  abbrev Copied : ℕ → Gathered → Run → Type 0
  Copied i g w = copy_from δ s rs i g (drop i rs) ≡ encs (squeeze w (pack (progress_to τ.book s rows i) (nodes_from τ.book s rows (drop i rows)))) ++ enc end

  next_copy : (i : ℕ) → i < length rows → (g : Gathered)
      → copy_from δ s rs i g (drop i rs)
      ≡ (before_out g (get_or rs i blank) ++ record_out δ s rs i (get_or rs i blank)) ++ copy_from δ s rs (suc i) (run_after g (get_or rs i blank)) (drop (suc i) rs)
  unfolding copy_from row_out
  next_copy i h g =
      let k : i < length rs = omega (arith, wr.size) in
      ap (copy_from δ s rs i g) (drop-cons rs i blank k)
      ∙ ap (λ (n : ℕ). (before_out g (get_or rs i blank) ++ record_out δ s rs i (get_or rs i blank)) ++ copy_from δ s rs n (run_after g (get_or rs i blank)) (drop (suc i) rs)) (add-one i)

  next_nodes : (i : ℕ) → i < length rows → nodes_from τ.book s rows (drop i rows) ≡ nodes_of τ.book s rows (get_or rows i blank) ++ nodes_from τ.book s rows (drop (suc i) rows)
  unfolding nodes_from
  next_nodes i h = ap (nodes_from τ.book s rows) (drop-cons rows i blank h)

  -- one row more
  turn : (i : ℕ) → i < length rows → (g : Gathered) (w v : Run)
      → encs (squeeze w (pack (progress_to τ.book s rows i) (nodes_of τ.book s rows (get_or rows i blank) ++ nodes_from τ.book s rows (drop (suc i) rows))))
      ≡ (before_out g (get_or rs i blank) ++ record_out δ s rs i (get_or rs i blank)) ++ encs (squeeze v (pack (progress_to τ.book s rows (suc i)) (nodes_from τ.book s rows (drop (suc i) rows))))
      → Copied (suc i) (run_after g (get_or rs i blank)) v → Copied i g w
  turn i h g w v e c =
      let a : List ℕ = before_out g (get_or rs i blank) ++ record_out δ s rs i (get_or rs i blank) in
      let b : List ℕ = encs (squeeze v (pack (progress_to τ.book s rows (suc i)) (nodes_from τ.book s rows (drop (suc i) rows)))) in
      next_copy i h g
      ∙ (ap (λ (x : List ℕ). a ++ x) c
      ∙ (sym (append_assoc a b (enc end))
      ∙ ap (λ (x : List ℕ). x ++ enc end) (sym e ∙ ap (λ (ns : List Node). encs (squeeze w (pack (progress_to τ.book s rows i) ns))) (sym (next_nodes i h)))))

  -- a row at which nothing is written and nothing gathered
  passed : (i : ℕ) → i < length rows → (g : Gathered) (w : Run) → is_passed (get_or rows i blank) ≡ true → is_passed (get_or rs i blank) ≡ true
      → record_out δ s rs i (get_or rs i blank) ≡ [] → progress_to τ.book s rows (suc i) ≡ progress_to τ.book s rows i → Copied (suc i) g w → Copied i g w
  passed i h g w a b e q c =
      let x : Row = get_or rs i blank in
      let ns : List Node = nodes_from τ.book s rows (drop (suc i) rows) in
      let f : encs (squeeze w (pack (progress_to τ.book s rows i) (nodes_of τ.book s rows (get_or rows i blank) ++ ns)))
      ≡ (before_out g x ++ record_out δ s rs i x) ++ encs (squeeze w (pack (progress_to τ.book s rows (suc i)) ns)) =
      ap (λ (m : List Node). encs (squeeze w (pack (progress_to τ.book s rows i) (m ++ ns)))) (nodes_passed τ.book s rows (get_or rows i blank) a)
      ∙ (ap (λ (p : Progress). encs (squeeze w (pack p ns))) (sym q)
      ∙ (ap (λ (l : List ℕ). ([] ++ l) ++ encs (squeeze w (pack (progress_to τ.book s rows (suc i)) ns))) (sym e)
      ∙ ap (λ (l : List ℕ). (l ++ record_out δ s rs i x) ++ encs (squeeze w (pack (progress_to τ.book s rows (suc i)) ns))) (sym (before_passed g x b)))) in
      turn i h g w w f (subst (λ (k : Gathered). Copied (suc i) k w) (sym (run_passed g x b)) c)

  -- a row of nulls, at least one
  more_nulls : (i : ℕ) → i < length rows → (g : Gathered) (w : Run) → Match rows g w → is_nulls (get_or rows i blank).kind ≡ true → 0 < (get_or rows i blank).count
      → ((k : Gathered) (v : Run) → Match rows k v → Copied (suc i) k v) → Copied i g w
  more_nulls i h g w m e n c =
      let r : Row = get_or rows i blank in
      let same : get_or rs i blank ≡ r = wr.nulls i h e in
      let owns = st.owners i h in
      let v : Run = nulls_after rows w r in
      let p : Progress = progress_to τ.book s rows i in
      let ns : List Node = nodes_from τ.book s rows (drop (suc i) rows) in
      let q : progress_to τ.book s rows (suc i) ≡ p = progress_next τ.book s rows i h ∙ after_run τ.book s rows p r (nulls_speak r.kind e) e in
      let none : record_out δ s rs i (get_or rs i blank) ≡ [] = record_nulls δ s rs i (get_or rs i blank) (ap (λ (z : Row). is_nulls z.kind) same ∙ e) in
      let before : before_out g r ≡ before_out g (get_or rs i blank) ++ record_out δ s rs i (get_or rs i blank) =
      ap (before_out g) (sym same) ∙ (sym (append-nil (before_out g (get_or rs i blank))) ∙ ap (λ (l : List ℕ). before_out g (get_or rs i blank) ++ l) (sym none)) in
      turn i h g w v
      (null_row τ.book s rows r g w m e n owns p ns
      ∙ (ap (λ (l : List ℕ). l ++ encs (squeeze v (pack p ns))) before
      ∙ ap (λ (z : Progress). (before_out g (get_or rs i blank) ++ record_out δ s rs i (get_or rs i blank)) ++ encs (squeeze v (pack z ns))) (sym q)))
      (c (run_after g (get_or rs i blank)) v (subst (λ (z : Row). Match rows (run_after g z) v) (sym same) (null_match τ.book s rows r g w m e n owns)))

  -- a row that says something else
  said : (i : ℕ) → i < length rows → (g : Gathered) (w : Run) → Match rows g w → is_silent (get_or rows i blank).kind ≡ false → is_nulls (get_or rows i blank).kind ≡ false
      → ((k : Gathered) (v : Run) → Match rows k v → Copied (suc i) k v) → Copied i g w
  said i h g w m a b c =
      let r : Row = get_or rows i blank in
      let x : Row = get_or rs i blank in
      let p : Progress = progress_to τ.book s rows i in
      let ns : List Node = nodes_from τ.book s rows (drop (suc i) rows) in
      let kind : x.kind ≡ r.kind = wr.kinds i h in
      let rest : List ℕ = encs (squeeze no_run (pack (after_what p (what_from τ.book s rows r)) ns)) in
      let q : progress_to τ.book s rows (suc i) ≡ after_what p (what_from τ.book s rows r) = progress_next τ.book s rows i h ∙ after_said τ.book s rows p r a b in
      let other : eqb x.kind 12 ≡ false = ap (λ (n : ℕ). eqb n 12) kind ∙ said_other r.kind a in
      turn i h g w no_run
      (other_row τ.book s rows r g w m x kind a b p ns
      ∙ (ap (λ (l : List ℕ). before_out g x ++ (l ++ rest)) (sym (wr.each i h a b))
      ∙ (sym (append_assoc (before_out g x) (record_out δ s rs i x) rest)
      ∙ ap (λ (z : Progress). (before_out g x ++ record_out δ s rs i x) ++ encs (squeeze no_run (pack z ns))) (sym q))))
      (subst (λ (k : Gathered). Copied (suc i) k no_run) (sym (run_other g x (ap is_nulls kind ∙ b) other)) (c none_yet no_run (match_none rows)))

  -- the last row
  ended : (i : ℕ) → suc i ≡ length rows → (g : Gathered) (w : Run) → Match rows g w → Copied i g w
  unfolding copy_from run_out run_of encs nodes_from pack
  ended i h g w m =
      let r : Row = get_or rows i blank in
      let x : Row = get_or rs i blank in
      let l : length rows - 1 ≡ i = omega arith in
      let inside : i < length rows = omega arith in
      let kind : r.kind ≡ 11 = ap (λ (n : ℕ). (get_or rows n blank).kind) (sym l) ∙ st.last in
      let like : x.kind ≡ 11 = wr.kinds i inside ∙ kind in
      let a : drop (suc i) rs ≡ [] = drop_of_length-le rs {i = suc i} (omega (arith, wr.size)) in
      let b : drop (suc i) rows ≡ [] = drop_of_length-le rows {i = suc i} (omega arith) in
      let gone : run_after g x ≡ none_yet = run_other g x (ap is_nulls like) (ap (λ (n : ℕ). eqb n 12) like) in
      let ns : nodes_from τ.book s rows (drop i rows) ≡ [] =
      next_nodes i inside ∙ (ap (λ (z : List Node). z ++ nodes_from τ.book s rows (drop (suc i) rows)) (nodes_silent τ.book s rows r (ap is_silent kind)) ∙ ap (nodes_from τ.book s rows) b) in
      next_copy i inside g
      ∙ (ap (λ (z : List Row). (before_out g x ++ record_out δ s rs i x) ++ copy_from δ s rs (suc i) (run_after g x) z) a
      ∙ (ap (λ (k : Gathered). (before_out g x ++ record_out δ s rs i x) ++ run_out k.count) gone
      ∙ (append-nil (before_out g x ++ record_out δ s rs i x)
      ∙ (ap (λ (z : List ℕ). z ++ record_out δ s rs i x) (end_row τ.book s rows r g w m x (ap is_nulls like) (ap (λ (n : ℕ). eqb n 12) like))
      ∙ (ap (λ (z : List ℕ). encs (squeeze w []) ++ z) (wr.last i inside kind)
      ∙ ap (λ (z : List Node). encs (squeeze w (pack (progress_to τ.book s rows i) z)) ++ enc end) (sym ns))))))

  -- a row between the header and the end
  step : (i : ℕ) → 0 < i → suc i < length rows → (g : Gathered) (w : Run) → Match rows g w
      → ((k : Gathered) (v : Run) → Match rows k v → Copied (suc i) k v) → Copied i g w
  step i o h g w m c =
      let r : Row = get_or rows i blank in
      let x : Row = get_or rs i blank in
      let inside : i < length rows = omega arith in
      let stands = st.each i inside in
      let p : Progress = progress_to τ.book s rows i in
      let kind : x.kind ≡ r.kind = wr.kinds i inside in
      either (eqb r.kind 12)
      (λ a.
      let e : r.kind ≡ 12 = eqb-true r.kind 12 a in
      passed i inside g w (passed_library r e) (passed_library x (kind ∙ e)) (record_library δ s rs i x (kind ∙ e))
      (progress_next τ.book s rows i inside ∙ after_silent τ.book s rows p r (ap is_silent e)) (c g w m))
      (λ a. either (is_nulls r.kind)
      (λ b.
      let same : x ≡ r = wr.nulls i inside b in
      either (eqb r.count 0)
      (λ d.
      let e : is_passed r ≡ true = rw (a, b, d) in
      passed i inside g w e (ap is_passed same ∙ e) (record_nulls δ s rs i x (ap is_nulls kind ∙ b))
      (progress_next τ.book s rows i inside ∙ after_run τ.book s rows p r (nulls_speak r.kind b) b) (c g w m))
      (λ d. let z = eqb-false r.count 0 d in more_nulls i inside g w m b (omega arith) c))
      (λ b.
      let no_header : eqb r.kind 0 ≡ false = ne_eqb r.kind 0 (λ e. let z = header_first τ s rows i r stands e in omega arith) in
      let no_end : eqb r.kind 11 ≡ false = ne_eqb r.kind 11 (λ e. let z = end_last τ s rows i r stands e in omega arith) in
      said i inside g w m (rw (no_header, no_end, a)) b c))

  middle : (k i : ℕ) → i + suc k ≡ length rows → 0 < i → (g : Gathered) (w : Run) → Match rows g w → Copied i g w
  middle zero i h o g w m = ended i (omega arith) g w m
  middle (suc k) i h o g w m = step i o (omega arith) g w m (middle k (suc i) (omega arith) (omega arith))

  pub copied : copy_of δ s rs ≡ tidy_of (says τ.book s rows)
  unfolding copy_of tidy_of tidy_records says encs run_out run_of
  copied =
      let r : Row = get_or rows 0 blank in
      let x : Row = get_or rs 0 blank in
      let root : ℕ = order_of rows r.link in
      let some : 0 < length rows = st.some in
      let two : 1 < length rows = enough in
      let like : x.kind ≡ 0 = wr.kinds 0 some ∙ st.first in
      let before : before_out none_yet x ≡ [] = before_other none_yet x (ap is_nulls like) (ap (λ (n : ℕ). eqb n 12) like) in
      let gone : run_after none_yet x ≡ none_yet = run_other none_yet x (ap is_nulls like) (ap (λ (n : ℕ). eqb n 12) like) in
      let nodes : nodes_from τ.book s rows rows ≡ nodes_from τ.book s rows (drop 1 rows) =
      next_nodes 0 some ∙ ap (λ (ns : List Node). ns ++ nodes_from τ.book s rows (drop 1 rows)) (nodes_silent τ.book s rows r (ap is_silent st.first)) in
      let after : progress_to τ.book s rows 1 ≡ nothing =
      progress_next τ.book s rows 0 some ∙ (after_silent τ.book s rows (progress_to τ.book s rows 0) r (ap is_silent st.first) ∙ progress_none τ.book s rows) in
      let all : List Rec = squeeze no_run (pack nothing (nodes_from τ.book s rows rows)) in
      next_copy 0 some none_yet
      ∙ (ap (λ (z : List ℕ). (z ++ record_out δ s rs 0 x) ++ copy_from δ s rs 1 (run_after none_yet x) (drop 1 rs)) before
      ∙ (ap (λ (k : Gathered). record_out δ s rs 0 x ++ copy_from δ s rs 1 k (drop 1 rs)) gone
      ∙ (ap (λ (z : List ℕ). record_out δ s rs 0 x ++ z) (middle (length rows - 2) 1 (omega arith) (omega arith) none_yet no_run (match_none rows))
      ∙ (ap (λ (p : Progress). record_out δ s rs 0 x ++ (encs (squeeze no_run (pack p (nodes_from τ.book s rows (drop 1 rows)))) ++ enc end)) after
      ∙ (ap (λ (ns : List Node). record_out δ s rs 0 x ++ (encs (squeeze no_run (pack nothing ns)) ++ enc end)) (sym nodes)
      ∙ (ap (λ (z : List ℕ). z ++ (encs all ++ enc end)) wr.first
      ∙ (ap (λ (z : List ℕ). enc (header root root) ++ (encs all ++ z)) (sym (append-nil (enc end)))
      ∙ ap (λ (z : List ℕ). enc (header root root) ++ z) (sym (encs_append all (end ∷ []))))))))))
    where
      enough : 1 < length rows
      enough =
          either (eqb (length rows) 1)
          (λ q.
          let a : length rows - 1 ≡ 0 = let l = eqb-true (length rows) 1 q in omega arith in
          let b : (get_or rows 0 blank).kind ≡ 11 = ap (λ (m : ℕ). (get_or rows m blank).kind) (sym a) ∙ st.last in
          let c = st.first in
          absurd (omega arith))
          (λ q. let l = eqb-false (length rows) 1 q in let o = st.some in omega arith)
