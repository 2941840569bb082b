-- Equal classes: details, members, the class's own library, the whole class. One law for each way that a test ends.
use Prim.Native.Nat.{ℕ, suc, ◌+◌, ◌-◌, ◌≤◌, ◌<◌}
use Rattle.std.specs.Prelude.{◌≡◌, refl, Bool, true, false, List, eqb, get_or}
use Rattle.std.proofs.Math.Path.{ap}
use Rattle.std.proofs.Common.{◌∙◌}
use native.Mathlib.Omega.{arith}
use Rattle.std.proofs.Math.Decide.{ℕ_discrete}
use borrow.Author.Tests.{eq-eqb, ne_eqb}
use Rattle.format.specs.declared.Row.{Row}
use Rattle.format.specs.Bytes.{pick}
use Rattle.format.specs.Types.{after_text, after_info}
use Rattle.marks.specs.Marks.{library_at, same_between, same_text, same_info, same_members_at, same_own, same_details, same_class_row}
use Rattle.distinct.specs.declared.Cursor.{Cursor}
use Rattle.distinct.specs.Members.{first_member, next_member, same_member, same_members}

module _ (s : List ℕ) (rows : List Row) where
  -- ---- details

  module _ (kind a x b y : ℕ) (q : Bool) where
    module _ (h : kind ≡ 4) (g : q ≡ same_text s a b) where
      pub info_library : (id other l m : ℕ) → q ≡ true → id ≡ x - 4 → l ≡ library_at s rows id → other ≡ y - 4 → m ≡ library_at s rows other
          → eqb l m ≡ same_info s rows kind a x b y
      unfolding same_info
      info_library id other l m z e u f v = rw (eq-eqb _ _ h, ← g, z, ← e, ← f, ← u, ← v)

      pub info_name : q ≡ false → false ≡ same_info s rows kind a x b y
      unfolding same_info
      info_name z = rw (eq-eqb _ _ h, ← g, z)

    pub info_system : kind ≡ 3 → q ≡ same_text s a b → q ≡ same_info s rows kind a x b y
    unfolding same_info
    info_system h e = e ∙ rw h

    pub info_plain : (kind ≡ 4 → ⊥) → (kind ≡ 3 → ⊥) → q ≡ same_between s a x b y → q ≡ same_info s rows kind a x b y
    unfolding same_info
    info_plain h k e = rw (ne_eqb _ _ h, ne_eqb _ _ k) e

  -- ---- members

  module _ (a b : Cursor) (x y : ℕ) (q : Bool) (g : q ≡ same_text s a.name b.name) where
    module _ (kind other : ℕ) (z : q ≡ true) (t : kind ≡ get_or s a.kind 0) (u : other ≡ get_or s b.kind 0) where
      pub member_same : (r : Bool) → kind ≡ other → r ≡ same_info s rows kind a.info x b.info y → r ≡ same_member s rows a x b y
      member_same r h e = rw (← g, z, ← t, ← u, eq-eqb _ _ h) e

      pub member_kind : (kind ≡ other → ⊥) → false ≡ same_member s rows a x b y
      member_kind h = rw (← g, z, ← t, ← u, ne_eqb _ _ h)

    pub member_name_lem : q ≡ false → false ≡ same_member s rows a x b y
    member_name_lem z = rw (← g, z)

  module _ (n : ℕ) (a b : Cursor) where
    pub members_end : n ≤ 0 → same_members s rows n a b ≡ true
    unfolding same_members_at
    members_end h = let z : n ≡ 0 = omega arith in rw z

    module _ (c d : Cursor) (q : Bool) (h : 0 < n) (e : c ≡ next_member s a) (f : d ≡ next_member s b)
        (g : q ≡ same_member s rows a c.info b d.info) where
      -- where the type bytes are not the same it does not matter by which of them the second detail ends
      alike : (t : Bool) (k l : ℕ)
          → pick t (pick (eqb k l) (pick (same_info s rows k a.info (after_info s k a.info) b.info (after_info s k b.info))
          (same_members_at s rows (n - 1) (after_text s a.name) (a.kind + 1) (after_info s k a.info) (after_text s b.name) (b.kind + 1) (after_info s k b.info))
          false) false) false
          ≡ pick (pick t (pick (eqb k l) (same_info s rows k a.info (after_info s k a.info) b.info (after_info s l b.info)) false) false)
          (same_members_at s rows (n - 1) (after_text s a.name) (a.kind + 1) (after_info s k a.info) (after_text s b.name) (b.kind + 1) (after_info s l b.info))
          false
      alike true k l = go (ℕ_discrete k l)
        where
          go : Dec (k ≡ l)
              → pick (eqb k l) (pick (same_info s rows k a.info (after_info s k a.info) b.info (after_info s k b.info))
              (same_members_at s rows (n - 1) (after_text s a.name) (a.kind + 1) (after_info s k a.info) (after_text s b.name) (b.kind + 1) (after_info s k b.info))
              false) false
              ≡ pick (pick (eqb k l) (same_info s rows k a.info (after_info s k a.info) b.info (after_info s l b.info)) false)
              (same_members_at s rows (n - 1) (after_text s a.name) (a.kind + 1) (after_info s k a.info) (after_text s b.name) (b.kind + 1) (after_info s l b.info))
              false
          go (yes o) = rw (eq-eqb k l o, o)
          go (no o) = rw (ne_eqb k l o)
      alike false k l = refl

      members_step : same_members s rows n a b ≡ pick q (same_members s rows (n - 1) c d) false
      unfolding same_members_at
      members_step =
          let z : n ≡ suc (n - 1) = omega arith in
          ap (λ (m : ℕ). same_members s rows m a b) z
          ∙ alike (same_text s a.name b.name) (get_or s a.kind 0) (get_or s b.kind 0)
          ∙ rw (g, e, f)

      pub members_more : q ≡ true → same_members s rows n a b ≡ same_members s rows (n - 1) c d
      members_more z = rw (members_step, z)

      pub members_other : q ≡ false → same_members s rows n a b ≡ false
      members_other z = rw (members_step, z)

  -- ---- two rows

  module _ (a b : Row) where
    pub own_library : (p o l m : ℕ) → a.kind ≡ 5 → p ≡ a.end - 4 → l ≡ library_at s rows p → o ≡ b.end - 4 → m ≡ library_at s rows o
        → eqb l m ≡ same_own s rows a b
    unfolding same_own
    own_library p o l m h u v w z = rw (eq-eqb _ _ h, ← u, ← w, ← v, ← z)

    pub own_system : (a.kind ≡ 5 → ⊥) → true ≡ same_own s rows a b
    unfolding same_own
    own_system h = rw (ne_eqb _ _ h)

    module _ (c d : Cursor) (q : Bool) (u : c ≡ first_member s a) (v : d ≡ first_member s b) (e : q ≡ same_members s rows a.count c d) where
      members_are : q ≡ same_members s rows a.count (first_member s a) (first_member s b)
      members_are = e ∙ rw (u, v)

      pub details_same : (r : Bool) → q ≡ true → r ≡ same_own s rows a b → r ≡ same_details s rows a b
      details_same r z f = rw (← members_are, z) f

      pub details_other : q ≡ false → false ≡ same_details s rows a b
      details_other z = rw (← members_are, z)

    module _ (h : b.kind ≡ a.kind) where
      module _ (q : Bool) (k : b.count ≡ a.count) (e : q ≡ same_text s (a.offset + 5) (b.offset + 5)) where
        pub class_same : (r : Bool) → q ≡ true → r ≡ same_details s rows a b → r ≡ same_class_row s rows a b
        unfolding same_class_row
        class_same r z f = rw (eq-eqb _ _ h, eq-eqb _ _ k, ← e, z) f

        pub class_name_lem : q ≡ false → false ≡ same_class_row s rows a b
        unfolding same_class_row
        class_name_lem z = rw (eq-eqb _ _ h, eq-eqb _ _ k, ← e, z)

      pub class_count : (b.count ≡ a.count → ⊥) → false ≡ same_class_row s rows a b
      unfolding same_class_row
      class_count k = rw (eq-eqb _ _ h, ne_eqb _ _ k)

    pub class_kind : (b.kind ≡ a.kind → ⊥) → false ≡ same_class_row s rows a b
    unfolding same_class_row
    class_kind h = rw (ne_eqb _ _ h)
