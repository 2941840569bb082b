-- Prefixes of any width: a number in a width that the grammar allows is read, what is read is a number in such a width, and the shortest
-- width is one of them and the strict one.
use Rattle.std.specs.Prelude.{ℕ, zero, suc, ◌+◌, ◌-◌, ◌*◌, ◌/◌, ◌%◌, ◌^◌, ◌≤◌, ◌<◌, ◌≡◌, refl, List, [], ◌∷◌, ◌++◌, length, get_or, drop, Ok}
use Rattle.std.proofs.Common.{sym, ap, ap₂, ◌∙◌, arith, pow-suc, add-one, drop-cons}
use Rattle.std.proofs.Math.Nat.{pow-le-pow_right}
use Rattle.std.proofs.Math.Decide.{dec_lt}
use Rattle.format.specs.declared.Setting.{Setting}
use Rattle.format.specs.declared.Setting.TheVariants as S
use Rattle.format.specs.Prefix.{prefix_in, later_least, prefix_at, groups_of, prefix_bytes, groups_in, prefix_of}
use Rattle.format.specs.Grammar.{Width}
use Rattle.prefix.specs.Laws.{One, On, every, moves, bound, fifth, last, more, later_most}
use Rattle.prefix.specs.Groups.{groups_last, groups_more}
use Rattle.prefix.specs.Both.{head_at}

-- ---- groups one by one, and how many there are
in_last : (n : ℕ) → groups_in 0 n ≡ n ∷ []
unfolding groups_in
in_last n = refl

in_more : (k n : ℕ) → groups_in (suc k) n ≡ (128 + n % 128) ∷ groups_in k (n / 128)
unfolding groups_in
in_more k n = refl

in_length : (k n : ℕ) → length (groups_in k n) ≡ suc k
in_length zero n = rw (in_last n)
in_length (suc k) n = rw (in_more k n) (ap suc (in_length k (n / 128)))

of_none : (n : ℕ) → prefix_of 0 n ≡ []
unfolding prefix_of
of_none n = refl

of_some : (k n : ℕ) → prefix_of (suc k) n ≡ groups_in k n
unfolding prefix_of
of_some k n = refl

pub length_prefix_of : (w n : ℕ) → length (prefix_of w n) ≡ w
length_prefix_of zero n = rw (of_none n)
length_prefix_of (suc k) n = rw (of_some k n) (in_length k n)

-- ---- how small a number may be that k groups follow the first of: the first is at least `least` where it is the last, and a later last
-- group is not 0 where `later` is above 0
record Floor (least later k n : ℕ) : Type 0 where
  first : k ≡ 0 → least ≤ n
  others : 0 < k → 0 < later → 128 ^ k ≤ n

-- without the first group, and with one more before it
floor_down : (least later k n : ℕ) → later ≤ 1 → Floor least later (suc k) n → Floor later later k (n / 128)
floor_down least later zero n h f = record { first = λ z. go (dec_lt 0 later); others = λ i l. absurd (omega arith) }
  where
    go : Dec (0 < later) → later ≤ n / 128
    go (yes y) = omega (arith, f.others (omega arith) y)
    go (no y) = omega arith
floor_down least later (suc k) n h f =
    record { first = λ z. absurd (omega arith); others = λ i l. omega (arith, rw (pow-suc 128 (suc k)) at (f.others (omega arith) l)) }

floor_up : (least later k g m : ℕ) → Floor later later k m → Floor least later (suc k) (g + 128 * m)
floor_up least later zero g m f = record { first = λ z. absurd (omega arith); others = λ i l. omega (arith, f.first refl) }
floor_up least later (suc k) g m f =
    record { first = λ z. absurd (omega arith); others = λ i l. rw (pow-suc 128 (suc k)) (omega (arith, f.others (omega arith) l)) }

-- the widths of the grammar say the same
width_floor : (σ : Setting) (k n : ℕ) → Width σ (suc k) n → Floor 0 (later_least σ) k n
width_floor S.Strict k n w = record { first = λ z. omega arith; others = λ i l. go i (dec_lt n (128 ^ k)) }
  where
    go : 0 < k → Dec (n < 128 ^ k) → 128 ^ k ≤ n
    go i (yes y) = absurd (omega (arith, w.least refl k i y))
    go i (no y) = omega arith
width_floor S.Lenient k n w = record { first = λ z. omega arith; others = λ i l. absurd (omega arith) }

floor_width : (σ : Setting) (k n : ℕ) → k ≤ 4 → n < 128 ^ suc k → Floor 0 (later_least σ) k n → Width σ (suc k) n
floor_width σ k n h b f = record { some = omega arith; most = omega arith; holds = b; least = λ q v i l. go q v i l (dec_lt v (suc k)) }
  where
    go : σ ≡ S.Strict → (v : ℕ) → 0 < v → n < 128 ^ v → Dec (v < suc k) → suc k ≤ v
    go q v i l (yes y) =
        let o : 0 < later_least σ = rw q (omega arith) in
        let a = f.others (omega arith) o in
        let c : 128 ^ v ≤ 128 ^ k = pow-le-pow_right (omega arith) (omega arith) in
        absurd (omega arith)
    go q v i l (no y) = omega arith

-- ---- what is written in a width is read: j bytes may follow the first, k do
module _ (later : ℕ) (s rest : List ℕ) (small : later ≤ 1) where
  read_in : (k j least n p : ℕ) → least ≤ 1 → k ≤ j → n < 128 ^ suc k → n < 8 * 128 ^ j → Floor least later k n → drop p s ≡ groups_in k n ++ rest
      → prefix_in j least later s p ≡ Ok (n, p + suc k)
  read_in zero zero least n p l r b c f d =
      let h = head_at s p n rest (d ∙ rw (in_last n)) in
      rw (fifth least later s p h.inside (rw h.byte (f.first refl)) 0 refl (rw h.byte (omega arith)), h.byte)
  read_in zero (suc j) least n p l r b c f d =
      let h = head_at s p n rest (d ∙ rw (in_last n)) in
      rw (last least later s p h.inside (rw h.byte (f.first refl)) (suc j) (omega arith) (rw h.byte (omega arith)), h.byte)
  read_in (suc k) zero least n p l r b c f d = absurd (omega arith)
  read_in (suc k) (suc j) least n p l r b c f d =
      let h = head_at s p (128 + n % 128) (groups_in k (n / 128) ++ rest) (d ∙ rw (in_more k n)) in
      let b2 : n / 128 < 128 ^ suc k = omega (arith, rw (pow-suc 128 (suc k)) at b) in
      let c2 : n / 128 < 8 * 128 ^ j = omega (arith, rw pow-suc at c) in
      let e : suc j - 1 ≡ j = omega arith in
      let i = read_in k j later (n / 128) (p + 1) small (omega arith) b2 c2 (floor_down least later k n small f) h.rest in
      rw (
        more least later s p h.inside (rw h.byte (omega arith)) (suc j) (omega arith) (rw h.byte (omega arith)),
        h.byte,
        e,
        i,
      )
      (ap₂ (λ (x y : ℕ). Ok (x, y)) (omega arith) (omega arith))

pub width_written : (σ : Setting) (w n : ℕ) (s rest : List ℕ) (p : ℕ) → Width σ w n → n < 2147483648 → drop p s ≡ prefix_of w n ++ rest
    → prefix_at σ s p ≡ Ok (n, p + w)
width_written σ zero n s rest p w h d = absurd (omega (arith, w.some))
width_written σ (suc k) n s rest p w h d =
    read_in (later_least σ) s rest (later_most σ) k 4 0 n p (omega arith) (omega (arith, w.most)) w.holds (omega arith) (width_floor σ k n w)
    (d ∙ rw (of_some k n))

-- ---- what is read is written in a width

-- n is read from p to e in a width that the setting allows, and these are its bytes
pub record WidthRead (σ : Setting) (s : List ℕ) (p n e : ℕ) : Type 0 where
  pub after : p < e
  pub width : Width σ (e - p) n
  pub bytes : drop p s ≡ prefix_of (e - p) n ++ drop e s
  pub number : n < 2147483648

module _ (later : ℕ) (s : List ℕ) (byte : (i : ℕ) → get_or s i 0 < 256) where
  -- so many groups follow the first
  record Took (k least p n e : ℕ) : Type 0 where
    follow : ℕ
    ends : e ≡ p + suc follow
    holds : n < 128 ^ suc follow
    floor : Floor least later follow n
    bytes : drop p s ≡ groups_in follow n ++ drop e s

  took_one : One s Took
  took_one k least p i l h f =
      record {
        follow = 0;
        ends = omega arith;
        holds = omega arith;
        floor = record { first = λ z. l; others = λ z o. absurd (omega arith) };
        bytes = rw (drop-cons s p 0 i, ← add-one p, in_last (get_or s p 0));
      }

  took_on : On later s Took
  took_on k least p m e i l h t =
      let n = get_or s p 0 % 128 + 128 * m in
      let y = byte p in
      let a : n / 128 ≡ m = omega arith in
      let b : 128 + n % 128 ≡ get_or s p 0 = omega arith in
      record {
        follow = suc t.follow;
        ends = omega (arith, t.ends);
        holds = rw (pow-suc 128 (suc t.follow)) (omega (arith, t.holds));
        floor = floor_up least later t.follow (get_or s p 0 % 128) m t.floor;
        bytes = rw (drop-cons s p 0 i, ← add-one p, in_more t.follow n, a, b) (ap (λ (r : List ℕ). get_or s p 0 ∷ r) t.bytes);
      }

pub width_read : (σ : Setting) (s : List ℕ) → ((i : ℕ) → get_or s i 0 < 256) → (p n e : ℕ) → prefix_at σ s p ≡ Ok (n, e) → WidthRead σ s p n e
width_read σ s byte p n e q =
    let r = later_least σ in
    let t : Took r s byte 4 0 p n e = rw q at (every r s (Took r s byte) (took_one r s byte) (took_on r s byte) 4 0 p) in
    let m = moves σ s p n e q in
    let k = t.follow in
    let d : e - p ≡ suc k = omega (arith, t.ends) in
    record {
      after = m.0;
      width = rw d (floor_width σ k n (omega (arith, t.ends)) t.holds t.floor);
      bytes = rw (d, of_some k n) t.bytes;
      number = bound σ s p n e q;
    }

-- ---- the shortest width

-- the groups of the shortest form, of which at most j follow the first
record Short (j n : ℕ) : Type 0 where
  follow : ℕ
  most : follow ≤ j
  same : groups_of j n ≡ groups_in follow n
  holds : n < 128 ^ suc follow
  floor : Floor 0 1 follow n

short_one : (j n : ℕ) → n < 128 → Short j n
short_one j n h =
    record {
      follow = 0;
      most = omega arith;
      same = groups_last j n h ∙ sym (in_last n);
      holds = omega arith;
      floor = record { first = λ z. omega arith; others = λ i l. absurd (omega arith) };
    }

short_on : (j n : ℕ) → 128 ≤ n → Short j (n / 128) → Short (suc j) n
short_on j n h t =
    let k = t.follow in
    let d : n % 128 + 128 * (n / 128) ≡ n = omega arith in
    let f : Floor 1 1 k (n / 128) = record { first = λ z. omega arith; others = t.floor.others } in
    record {
      follow = suc k;
      most = omega (arith, t.most);
      same = rw (groups_more j n h, in_more k n, t.same);
      holds = rw (pow-suc 128 (suc k)) (omega (arith, t.holds));
      floor = rw d at (floor_up 0 1 k (n % 128) (n / 128) f);
    }

short : (j n : ℕ) → n < 128 ^ suc j → Short j n
short zero n h = short_one 0 n (omega arith)
short (suc j) n h = go (short j (n / 128)) (dec_lt n 128)
  where
    go : (n / 128 < 128 ^ suc j → Short j (n / 128)) → Dec (n < 128) → Short (suc j) n
    go again (yes y) = short_one (suc j) n y
    go again (no y) = short_on j n (omega arith) (again (omega (arith, rw (pow-suc 128 (suc j)) at h)))

module _ (n : ℕ) (h : n < 2147483648) where
  short_five : Short 4 n
  short_five = short 4 n (omega arith)

  short_length : length (prefix_bytes n) ≡ suc short_five.follow
  short_length = rw short_five.same (in_length short_five.follow n)

  pub shortest_bytes : prefix_of (length (prefix_bytes n)) n ≡ prefix_bytes n
  shortest_bytes = rw (short_length, of_some short_five.follow n) (sym short_five.same)

  -- either setting takes it
  pub shortest_width : (σ : Setting) → Width σ (length (prefix_bytes n)) n
  shortest_width σ =
      let t = short_five in
      let f : Floor 0 (later_least σ) t.follow n = record { first = λ z. omega arith; others = λ i l. t.floor.others i (omega arith) } in
      rw short_length (floor_width σ t.follow n t.most t.holds f)

  -- and strict no other
  pub strict_width : (w : ℕ) → Width S.Strict w n → w ≡ length (prefix_bytes n)
  strict_width w a =
      let b = shortest_width S.Strict in
      let x = a.least refl (length (prefix_bytes n)) b.some b.holds in
      let y = b.least refl w a.some a.holds in
      omega arith

-- what strict takes, either setting takes
pub lenient_width : (σ : Setting) (w n : ℕ) → Width S.Strict w n → Width σ w n
lenient_width σ w n a = record { some = a.some; most = a.most; holds = a.holds; least = λ q. a.least refl }
