-- What a kind byte says where it stands: one law for each answer, and what a kind that is taken says.
use Rattle.std.specs.Prelude.{ℕ, ◌≤◌, ◌<◌, ◌≡◌, Bool, ◌&&◌, ◌||◌, List, length, get_or, ltb, eqb, Result, Ok, Err}
use Rattle.format.specs.declared.Head.{Head}
use Rattle.std.proofs.Math.Path.{refl}
use Rattle.std.proofs.Math.Decide.{dec_lt}
use Rattle.std.proofs.Common.{sym, ap, subst, ◌∙◌, arith}
use Rattle.std.proofs.Math.Bool.{true, false}
use borrow.Author.Tests.{lt-ltb, le-ltb, ltb-true, ne_eqb, eqb-true}
use Rattle.format.specs.declared.Refusal.{Refusal}
use Rattle.format.specs.declared.Refusal.TheVariants as R
use Rattle.format.specs.declared.Where.{Where}
use Rattle.format.specs.declared.Where.TheVariants as W
use Rattle.format.specs.Bytes.{pick}
use Rattle.format.specs.Records.{is_kind, not_taken, in_slot, is_class_kind, allowed, kind_of, kind_at}
use Rattle.fields.specs.Tests.{both_of}
use Rattle.fields.specs.Judged.{told}

-- fill one slot and open nothing
abbrev pub is_brief : ℕ → Bool
is_brief k = eqb k 6 || (eqb k 8 || (eqb k 9 || eqb k 10))

-- a brief kind that may stand here
unfoldable pub brief_in : Where → ℕ → Bool
brief_in w k = is_brief k && allowed w k

-- a record of such a kind stands at a place
unfoldable pub brief_at : List ℕ → Where → ℕ → Bool
brief_at s w at = ltb at (length s) && brief_in w (get_or s at 0)

pub brief_null : (k : ℕ) → is_brief k ≡ true → (k ≡ 6 → ⊥) → (k ≡ 8 → ⊥) → (k ≡ 9 → ⊥) → k ≡ 10
brief_null k e six eight nine =
    let a : is_brief k ≡ eqb k 10 = rw (ne_eqb k 6 six, ne_eqb k 8 eight, ne_eqb k 9 nine) in eqb-true k 10 (sym a ∙ e)

-- a kind that is not brief is none of them
pub brief_none : (k : ℕ) → is_brief k ≡ false → (eqb k 6 ≡ false) × ((eqb k 8 ≡ false) × ((eqb k 9 ≡ false) × (eqb k 10 ≡ false)))
brief_none k e =
    let a = neither (eqb k 6) (eqb k 8 || (eqb k 9 || eqb k 10)) e in
    let b = neither (eqb k 8) (eqb k 9 || eqb k 10) a.1 in
    let c = neither (eqb k 9) (eqb k 10) b.1 in
    (a.0, (b.0, (c.0, c.1)))
  where
    neither : (p q : Bool) → (p || q) ≡ false → (p ≡ false) × (q ≡ false)
    neither true q e = (e, absurd (let z : ◌≡◌ {A = ℕ} 0 1 = cc in omega arith))
    neither false q e = (refl, e)

-- the fields of a record without slots of its own
abbrev pub Hollow : Result Head Refusal → Type 0
Hollow (Ok h) = h.slots ≡ 0
Hollow (Err f) = Unit {0}

-- ---- the slots

module _ (k : ℕ) where
  pub string_rest : (k ≡ 6 → ⊥) → allowed W.StringSlot k ≡ in_slot k
  unfolding allowed
  string_rest six = rw (ne_eqb k 6 six)

  pub object_rest : (k ≡ 1 → ⊥) → (k ≡ 4 → ⊥) → (k ≡ 5 → ⊥) → (k ≡ 6 → ⊥) → (k ≡ 8 → ⊥) → allowed W.ObjectSlot k ≡ in_slot k
  unfolding allowed
  object_rest one four five six eight = rw (ne_eqb k 1 one, ne_eqb k 4 four, ne_eqb k 5 five, ne_eqb k 6 six, ne_eqb k 8 eight)

  -- ---- a kind byte

  module _ (w : Where) where
    pub kind_unknown : is_kind k ≡ false → kind_of w k ≡ Err R.UnknownKind
    unfolding kind_of
    kind_unknown i = rw i

    module _ (i : is_kind k ≡ true) where
      pub kind_refused : not_taken k ≡ true → kind_of w k ≡ Err R.NotTaken
      unfolding kind_of
      kind_refused t = rw (i, t)

      pub kind_taken : not_taken k ≡ false → allowed w k ≡ true → kind_of w k ≡ Ok k
      unfolding kind_of
      kind_taken t a = rw (i, t, a)

      pub kind_misplaced : not_taken k ≡ false → allowed w k ≡ false → kind_of w k ≡ Err R.WrongPlace
      unfolding kind_of
      kind_misplaced t a = rw (i, t, a)

-- ---- a kind that is allowed somewhere is known, and not refused by name

abbrev Known : ℕ → Type 0
Known k = (is_kind k ≡ true) × (not_taken k ≡ false)

or : {X : Type 0} (a b : Bool) → (a ≡ true → X) → (b ≡ true → X) → (a || b) ≡ true → X
or true b f g h = f refl
or false b f g h = g h

pub by_brief : (k : ℕ) (P : ℕ → Type 0) → P 6 → P 8 → P 9 → P 10 → is_brief k ≡ true → P k
by_brief k P a b c d =
    or _ _ (λ e. subst P (sym (eqb-true k 6 e)) a)
    (or _ _ (λ e. subst P (sym (eqb-true k 8 e)) b)
    (or _ _ (λ e. subst P (sym (eqb-true k 9 e)) c) (λ e. subst P (sym (eqb-true k 10 e)) d)))

module _ (k : ℕ) where
  is : (c : ℕ) → Known c → eqb k c ≡ true → Known k
  is c p e = subst Known (sym (eqb-true k c e)) p

  class_known : is_class_kind k ≡ true → Known k
  class_known = or _ _ (is 1 (refl, refl)) (or _ _ (is 4 (refl, refl)) (is 5 (refl, refl)))

  slot_known : in_slot k ≡ true → Known k
  slot_known = or _ _ (is 9 (refl, refl)) (or _ _ (is 10 (refl, refl)) (or _ _ (is 12 (refl, refl)) (or _ _ (is 13 (refl, refl)) (is 14 (refl, refl)))))

  allowed_known : (w : Where) → allowed w k ≡ true → Known k
  unfolding allowed
  allowed_known W.Start = is 0 (refl, refl)
  allowed_known W.Top =
      or _ _ class_known (or _ _ (is 6 (refl, refl)) (or _ _ (is 7 (refl, refl)) (or _ _ (is 11 (refl, refl)) (or _ _ (is 12 (refl, refl)) (or _ _ (is 15 (refl, refl)) (or _ _ (is 16 (refl, refl)) (is 17 (refl, refl))))))))
  allowed_known W.StringSlot = or _ _ (is 6 (refl, refl)) slot_known
  allowed_known W.ObjectSlot = or _ _ class_known (or _ _ (is 6 (refl, refl)) (or _ _ (is 8 (refl, refl)) slot_known))
  allowed_known W.ArraySlot = slot_known

  pub kind_allowed : (w : Where) → allowed w k ≡ true → kind_of w k ≡ Ok k
  kind_allowed w a = let x = allowed_known w a in kind_taken k w x.0 x.1 a

module _ (s : List ℕ) (w : Where) (at : ℕ) where
  pub kind_there : at < length s → kind_at s w at ≡ kind_of w (get_or s at 0)
  unfolding kind_at
  kind_there h = simp lt-ltb

  pub kind_short : length s ≤ at → kind_at s w at ≡ Err R.CutShort
  unfolding kind_at
  kind_short h = simp le-ltb

-- ---- what a kind that is taken says

pub no_kind : (f : Refusal) (k : ℕ) → Err f ≡ Ok k → ⊥
no_kind f k q = let z : ◌≡◌ {A = ℕ} 0 1 = cc in omega arith

-- it is the byte, of a kind that is known, not refused by name, and allowed there
pub record Stands (w : Where) (b k : ℕ) : Type 0 where
  pub byte : k ≡ b
  pub known : is_kind k ≡ true
  pub free : not_taken k ≡ false
  pub fits : allowed w k ≡ true

pub kind_stands : (w : Where) (b k : ℕ) → kind_of w b ≡ Ok k → Stands w b k
unfolding kind_of
kind_stands w b k q =
    let rest = pick (allowed w b) (Ok b) (Err R.WrongPlace) in
    let i = told (is_kind b) (pick (not_taken b) (Err R.NotTaken) rest) (Err R.UnknownKind) (Ok k) q (no_kind R.UnknownKind k) in
    let t = second (not_taken b) rest i.1 in
    let a = told (allowed w b) (Ok b) (Err R.WrongPlace) (Ok k) t.1 (no_kind R.WrongPlace k) in
    let y = a.1 in
    let e : k ≡ b = cc in
    record { byte = e; known = rw e i.0; free = rw e t.0; fits = rw e a.0 }
  where
    second : (t : Bool) (r : Result ℕ Refusal) → pick t (Err R.NotTaken) r ≡ Ok k → (t ≡ false) × (r ≡ Ok k)
    second true r e = absurd (no_kind R.NotTaken k e)
    second false r e = (refl, e)

module _ (s : List ℕ) (w : Where) (at k : ℕ) (q : kind_at s w at ≡ Ok k) where
  pub kind_within : at < length s
  unfolding kind_at
  kind_within =
      ltb-true at (length s) (told (ltb at (length s)) (kind_of w (get_or s at 0)) (Err R.CutShort) (Ok k) q (no_kind R.CutShort k)).0

  pub kind_byte : Stands w (get_or s at 0) k
  kind_byte = kind_stands w (get_or s at 0) k (sym (kind_there s w at kind_within) ∙ q)

-- ---- brief kinds

module _ (w : Where) (k : ℕ) where
  pub brief_known : (n : ℕ) (q : Bool) → is_brief n ≡ true → k ≡ n → q ≡ allowed w n → q ≡ brief_in w k
  unfolding brief_in
  brief_known n q b e a = rw (e, b) a

  -- 9 and 10, which have one arm
  pub brief_either : (q : Bool) → 9 ≤ k → k ≤ 10 → (q ≡ allowed w 9) × (q ≡ allowed w 10) → q ≡ brief_in w k
  brief_either q l u a = go (dec_lt k 10)
    where
      go : Dec (k < 10) → q ≡ brief_in w k
      go (yes h) = brief_known 9 q refl (omega arith) a.0
      go (no h) = brief_known 10 q refl (omega arith) a.1

  pub brief_other : (k ≡ 6 → ⊥) → (k ≡ 8 → ⊥) → (k ≡ 9 → ⊥) → (k ≡ 10 → ⊥) → false ≡ brief_in w k
  unfolding brief_in
  brief_other a b c d = rw (ne_eqb k 6 a, ne_eqb k 8 b, ne_eqb k 9 c, ne_eqb k 10 d)

module _ (s : List ℕ) (w : Where) (at : ℕ) where
  pub brief_there : (q : Bool) → at < length s → q ≡ brief_in w (get_or s at 0) → q ≡ brief_at s w at
  unfolding brief_at
  brief_there q h e = rw (lt-ltb at (length s) h) e

  pub brief_past : length s ≤ at → false ≡ brief_at s w at
  unfolding brief_at
  brief_past h = rw (le-ltb at (length s) h)

  -- a brief record stands within the stream, is brief, and is taken
  module _ (e : brief_at s w at ≡ true) where
    pub brief_within : at < length s
    unfolding brief_at
    brief_within = ltb-true at (length s) (both_of (ltb at (length s)) _ e).0

    parts : (is_brief (get_or s at 0) ≡ true) × (allowed w (get_or s at 0) ≡ true)
    unfolding brief_at brief_in
    parts = both_of (is_brief (get_or s at 0)) _ (both_of (ltb at (length s)) _ e).1

    pub brief_is : is_brief (get_or s at 0) ≡ true
    brief_is = parts.0

    pub brief_taken : kind_at s w at ≡ Ok (get_or s at 0)
    brief_taken = kind_there s w at brief_within ∙ kind_allowed (get_or s at 0) w parts.1

  -- a kind that is taken where no brief record stands is not brief
  pub taken_long : brief_at s w at ≡ false → (k : ℕ) → kind_at s w at ≡ Ok k → is_brief k ≡ false
  unfolding brief_at brief_in
  taken_long e k q =
      let x = kind_byte s w at k q in
      let h = lt-ltb at (length s) (kind_within s w at k q) in
      let f : allowed w (get_or s at 0) ≡ true = rw (← x.byte) x.fits in
      rw x.byte (last (is_brief (get_or s at 0)) (rw (h, f) at e))
    where
      last : (b : Bool) → (b && true) ≡ false → b ≡ false
      last true e = e
      last false e = refl

-- the header's kind is not brief
pub header_long : (s : List ℕ) (at : ℕ) → brief_at s W.Start at ≡ false
unfolding brief_at brief_in allowed
header_long s at = none (ltb at (length s)) (is_brief (get_or s at 0)) (eqb (get_or s at 0) 0) (λ e. ap is_brief (eqb-true (get_or s at 0) 0 e))
  where
    none : (a b c : Bool) → (c ≡ true → b ≡ false) → (a && (b && c)) ≡ false
    none false b c f = refl
    none true false c f = refl
    none true true false f = refl
    none true true true f = f refl
