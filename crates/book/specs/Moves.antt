-- Where the parts of a class book end: after their place and within the bytes. So an entry has a byte, and the judging goes on from entry to entry.
use Prim.Native.Nat.{ℕ, zero, suc, ◌+◌, ◌≤◌, ◌<◌}
use Rattle.std.specs.Prelude.{◌≡◌, Bool, ◌||◌, List, get_or, ltb, leb, Result, Ok, Err}
use Rattle.std.proofs.Math.Path.{refl, ap}
use Rattle.std.proofs.Common.{sym, ◌∙◌}
use Rattle.std.proofs.Math.Bool.{true, false}
use native.Mathlib.Omega.{arith}
use Rattle.std.proofs.Math.Decide.{dec_lt}
use Rattle.std.proofs.Math.ListN.{length}
use Rattle.std.proofs.Math.Dec.{eqb}
use borrow.Author.Tests.{lt-ltb, le-ltb, ltb-true, ltb-false, leb-true, le-leb, lt-leb, ne_eqb}
use Rattle.format.specs.declared.Setting.TheVariants as Q
use Rattle.format.specs.declared.Refusal.{Refusal}
use Rattle.format.specs.declared.Refusal.TheVariants as R
use Rattle.format.specs.Bytes.{pick}
use Rattle.format.specs.Values.{on_end, times}
use Rattle.format.specs.Types.{type_byte_at, name_at, info_at}
use Rattle.format.specs.Entries.{coded_info_at, described_at, counted_at, origin_at, kept, entry_at, on_entry, bad_from, bad_entry}
use Rattle.fields.specs.Judged.{told, other, no_end}
use Rattle.fields.specs.Sequence.{through}
use Rattle.types.specs.Keeps.{type_told, name_moves, times_within, info_within}

-- ---- what an end says

-- a place that is kept has 32 bits
kept_told : (m e : ℕ) → kept m ≡ Ok e → (m ≡ e) × (e < 4294967296)
kept_told m e q =
    let w = told (leb m 4294967295) (Ok m) (Err R.CutShort) (Ok e) q (no_end R.CutShort e) in
    let l = leb-true m 4294967295 w.0 in
    let f = w.1 in
    let z : m ≡ e = cc in
    (z, omega arith)

module _ (β : List ℕ) where
  -- the detail of a type that names no class
  pub coded_told : (b p e : ℕ) → coded_info_at β b p ≡ Ok e → ((eqb b 3 || eqb b 4) ≡ false) × (info_at Q.Strict β b p ≡ Ok e)
  unfolding coded_info_at
  coded_told b p e q = other (eqb b 3 || eqb b 4) (Err R.BadType) (info_at Q.Strict β b p) (Ok e) q (no_end R.BadType e)

  pub coded_plain : (b p : ℕ) → (b ≡ 3 → ⊥) → (b ≡ 4 → ⊥) → coded_info_at β b p ≡ info_at Q.Strict β b p
  unfolding coded_info_at
  coded_plain b p three four = rw (ne_eqb b 3 three, ne_eqb b 4 four)

  pub coded_class : (b p : ℕ) → (eqb b 3 || eqb b 4) ≡ true → coded_info_at β b p ≡ Err R.BadType
  unfolding coded_info_at
  coded_class b p h = rw h

  -- where the parts of a member end
  pub record MemberTold (p e : ℕ) : Type 0 where
    pub type : ℕ
    pub name_ends : name_at Q.Strict β p ≡ Ok type
    pub known : get_or β type 0 ≤ 7
    pub inside : type < length β
    pub info_ends : coded_info_at β (get_or β type 0) (type + 1) ≡ Ok e

  pub described_told : (p e : ℕ) → described_at β p ≡ Ok e → MemberTold p e
  unfolding described_at
  described_told p e q =
      let x = through (λ m. on_end (coded_info_at β (get_or β m 0)) (type_byte_at β m)) (name_at Q.Strict β p) e q in
      let y = through (coded_info_at β (get_or β x.0 0)) (type_byte_at β x.0) e x.2 in
      let t = type_told β x.0 y.0 y.1 in
      record { type = x.0; name_ends = x.1; known = t.0; inside = t.1; info_ends = rw t.2 at y.2 }

  pub described_moves : (p e : ℕ) → described_at β p ≡ Ok e → (p < e) × (e ≤ length β)
  described_moves p e q =
      let w = described_told p e q in
      let m = name_moves Q.Strict β p w.type w.name_ends in
      let c = coded_told (get_or β w.type 0) (w.type + 1) e w.info_ends in
      let i = info_within Q.Strict β (get_or β w.type 0) (w.type + 1) e (length β) (omega (arith, w.inside)) (omega arith) c.1 in
      (omega arith, i.1)

  pub counted_told : (p e : ℕ) → counted_at β p ≡ Ok e → (p < length β) × (times (described_at β) (get_or β p 0) (p + 1) ≡ Ok e)
  unfolding counted_at
  counted_told p e q =
      let w = told (ltb p (length β)) (times (described_at β) (get_or β p 0) (p + 1)) (Err R.CutShort) (Ok e) q (no_end R.CutShort e) in
      (ltb-true p (length β) w.0, w.1)

  pub counted_moves : (p e : ℕ) → counted_at β p ≡ Ok e → (p < e) × (e ≤ length β)
  counted_moves p e q =
      let w = counted_told p e q in
      let t = times_within (described_at β) (length β) described_moves (get_or β p 0) (p + 1) e (length β) (omega arith) (omega arith) w.1 in
      (omega arith, t.1)

  pub origin_moves : (first p e : ℕ) → p ≤ length β → origin_at β first p ≡ Ok e → (p ≤ e) × (e ≤ length β)
  unfolding origin_at
  origin_moves first p e h q = go (eqb first 1) q
    where
      go : (t : Bool) → pick t (name_at Q.Strict β p) (Ok p) ≡ Ok e → (p ≤ e) × (e ≤ length β)
      go true q = let m = name_moves Q.Strict β p e q in (omega arith, m.1)
      go false q = let z : p ≡ e = cc in (omega arith, omega arith)

  -- where the parts of an entry end
  pub record EntryTold (p e : ℕ) : Type 0 where
    pub origin_at_holds : ℕ
    pub count_at : ℕ
    pub inside : p < length β
    pub first : get_or β p 0 ≤ 1
    pub name_ends : name_at Q.Strict β (p + 1) ≡ Ok origin_at_holds
    pub origin_ends : origin_at β (get_or β p 0) origin_at_holds ≡ Ok count_at
    pub members_end : counted_at β count_at ≡ Ok e
    pub small : e < 4294967296

  pub entry_told : (p e : ℕ) → entry_at β p ≡ Ok e → EntryTold p e
  unfolding entry_at
  entry_told p e q =
      let content = on_end (counted_at β) (on_end (origin_at β (get_or β p 0)) (name_at Q.Strict β (p + 1))) in
      let inner = pick (leb (get_or β p 0) 1) (on_end kept content) (Err R.BadType) in
      let w = told (ltb p (length β)) inner (Err R.CutShort) (Ok e) q (no_end R.CutShort e) in
      let v = told (leb (get_or β p 0) 1) (on_end kept content) (Err R.BadType) (Ok e) w.1 (no_end R.BadType e) in
      let x = through kept content e v.1 in
      let k = kept_told x.0 e x.2 in
      let y = through (counted_at β) (on_end (origin_at β (get_or β p 0)) (name_at Q.Strict β (p + 1))) e (x.1 ∙ ap Ok k.0) in
      let z = through (origin_at β (get_or β p 0)) (name_at Q.Strict β (p + 1)) y.0 y.1 in
      record {
        origin_at_holds = z.0;
        count_at = y.0;
        inside = ltb-true p (length β) w.0;
        first = leb-true (get_or β p 0) 1 v.0;
        name_ends = z.1;
        origin_ends = z.2;
        members_end = y.2;
        small = k.1;
      }

  pub entry_moves : (p e : ℕ) → entry_at β p ≡ Ok e → (p < e) × (e ≤ length β)
  entry_moves p e q =
      let w = entry_told p e q in
      let n = name_moves Q.Strict β (p + 1) w.origin_at_holds w.name_ends in
      let o = origin_moves (get_or β p 0) w.origin_at_holds w.count_at n.1 w.origin_ends in
      let c = counted_moves w.count_at e w.members_end in
      (omega arith, c.1)

  -- ---- the answers of a member, of a library name and of all members

  -- what the name at p answered, r, decides the rest
  module _ (p : ℕ) (r : Result ℕ Refusal) (d : r ≡ name_at Q.Strict β p) where
    pub described_more : (m : ℕ) → r ≡ Ok m → described_at β p ≡ on_end (coded_info_at β (get_or β m 0)) (type_byte_at β m)
    unfolding described_at
    described_more m q = rw (← d, q)

    pub described_fault : (f : Refusal) → r ≡ Err f → described_at β p ≡ Err f
    unfolding described_at
    described_fault f q = rw (← d, q)

  pub origin_library : (first p : ℕ) → first ≡ 1 → origin_at β first p ≡ name_at Q.Strict β p
  unfolding origin_at
  origin_library first p h = rw h

  pub origin_none : (first p : ℕ) → (first ≡ 1 → ⊥) → origin_at β first p ≡ Ok p
  unfolding origin_at
  origin_none first p h = rw (ne_eqb first 1 h)

  pub counted_short : (p : ℕ) → length β ≤ p → counted_at β p ≡ Err R.CutShort
  unfolding counted_at
  counted_short p h = rw (le-ltb p (length β) h)

  pub counted_members : (p : ℕ) → p < length β → counted_at β p ≡ times (described_at β) (get_or β p 0) (p + 1)
  unfolding counted_at
  counted_members p h = rw (lt-ltb p (length β) h)

  -- ---- the answers of an entry

  pub entry_short : (p : ℕ) → length β ≤ p → entry_at β p ≡ Err R.CutShort
  unfolding entry_at
  entry_short p h = rw (le-ltb p (length β) h)

  pub entry_first : (p : ℕ) → p < length β → 1 < get_or β p 0 → entry_at β p ≡ Err R.BadType
  unfolding entry_at
  entry_first p h g = rw (lt-ltb p (length β) h, lt-leb (get_or β p 0) 1 g)

  -- what the content behind p answered, r, decides the rest
  module _ (p : ℕ) (r : Result ℕ Refusal) (h : p < length β) (g : get_or β p 0 ≤ 1)
      (d : r ≡ on_end (counted_at β) (on_end (origin_at β (get_or β p 0)) (name_at Q.Strict β (p + 1)))) where
    entry_content : entry_at β p ≡ on_end kept r
    unfolding entry_at
    entry_content = rw (lt-ltb p (length β) h, le-leb (get_or β p 0) 1 g, ← d)

    pub entry_more : (e : ℕ) → r ≡ Ok e → entry_at β p ≡ kept e
    entry_more e q = entry_content ∙ ap (on_end kept) q

    pub entry_fault : (f : Refusal) → r ≡ Err f → entry_at β p ≡ Err f
    entry_fault f q = entry_content ∙ ap (on_end kept) q

  -- ---- from entry to entry

  pub bad_none : (k p : ℕ) → length β ≤ p → bad_from k β p ≡ 0
  unfolding bad_from
  bad_none zero p h = refl
  bad_none (suc k) p h = rw (le-ltb p (length β) h)

  pub bad_whole : bad_entry β ≡ bad_from (length β) β 0
  unfolding bad_entry
  bad_whole = refl

  pub bad_step : (k p : ℕ) → p < length β → bad_from (suc k) β p ≡ on_entry (bad_from k β) p (entry_at β p)
  unfolding bad_from
  bad_step k p h = rw (lt-ltb p (length β) h)

  -- how many entries are allowed for does not matter, where there are enough
  pub bad_enough : (k m p : ℕ) → length β ≤ p + k → length β ≤ p + m → bad_from k β p ≡ bad_from m β p
  bad_enough zero m p h g = bad_none zero p (omega arith) ∙ sym (bad_none m p (omega arith))
  bad_enough (suc k) zero p h g = bad_none (suc k) p (omega arith) ∙ sym (bad_none zero p (omega arith))
  bad_enough (suc k) (suc m) p h g = go (λ e. bad_enough k m e) (dec_lt p (length β))
    where
      Again : Type 0
      Again = (e : ℕ) → length β ≤ e + k → length β ≤ e + m → bad_from k β e ≡ bad_from m β e

      each : Again → (r : Result ℕ Refusal) → entry_at β p ≡ r → on_entry (bad_from k β) p r ≡ on_entry (bad_from m β) p r
      each again (Ok e) q =
          let w = entry_moves p e q in
          again e (omega arith) (omega arith)
      each again (Err f) q = refl

      go : Again → Dec (p < length β) → bad_from (suc k) β p ≡ bad_from (suc m) β p
      go again (yes i) = bad_step k p i ∙ (each again (entry_at β p) refl ∙ sym (bad_step m p i))
      go again (no i) = bad_none (suc k) p (omega arith) ∙ sym (bad_none (suc m) p (omega arith))

  from_length : (p : ℕ) → p < length β → bad_from (length β) β p ≡ on_entry (bad_from (length β) β) p (entry_at β p)
  from_length p h = bad_enough (length β) (suc (length β)) p (omega arith) (omega arith) ∙ bad_step (length β) p h

  -- what the entry at p answered, r, decides the rest
  module _ (p : ℕ) (r : Result ℕ Refusal) (h : p < length β) (d : r ≡ entry_at β p) where
    pub bad_more : (e : ℕ) → r ≡ Ok e → bad_from (length β) β p ≡ bad_from (length β) β e
    bad_more e q = from_length p h ∙ ap (on_entry (bad_from (length β) β) p) (sym d ∙ q)

    pub bad_here : (f : Refusal) → r ≡ Err f → bad_from (length β) β p ≡ p + 1
    bad_here f q = from_length p h ∙ ap (on_entry (bad_from (length β) β) p) (sym d ∙ q)

  -- ---- a good book is small

  small_from : (k p : ℕ) → length β ≤ p + k → p < 4294967296 → bad_from k β p ≡ 0 → length β < 4294967296
  unfolding bad_from
  small_from zero p h l e = omega arith
  small_from (suc k) p h l e = go (ltb p (length β)) refl e (small_from k)
    where
      next : ((m : ℕ) → length β ≤ m + k → m < 4294967296 → bad_from k β m ≡ 0 → length β < 4294967296)
          → (r : Result ℕ Refusal) → entry_at β p ≡ r → on_entry (bad_from k β) p r ≡ 0 → length β < 4294967296
      next more (Ok m) q e = let w = entry_moves p m q in more m (omega arith) (entry_told p m q).small e
      next more (Err f) q e = absurd (omega arith)

      go : (b : Bool) → ltb p (length β) ≡ b → pick b (on_entry (bad_from k β) p (entry_at β p)) 0 ≡ 0
          → ((m : ℕ) → length β ≤ m + k → m < 4294967296 → bad_from k β m ≡ 0 → length β < 4294967296) → length β < 4294967296
      go true q e more = next more (entry_at β p) refl e
      go false q e more = let w = ltb-false p (length β) q in omega arith

  pub good_small : bad_entry β ≡ 0 → length β < 4294967296
  good_small e = small_from (length β) 0 (omega arith) (omega arith) (sym bad_whole ∙ e)
