-- The view's own setting decides, whatever the table was read with (02, (iii)): a string record has text exactly when that setting takes its prefix, and
-- the text is the record's; a strict view of a padded one has none. And what was read in strict is shown alike under either setting.
use Rattle.std.specs.Prelude.{ℕ, zero, suc, ◌+◌, ◌-◌, ◌*◌, ◌%◌, ◌^◌, ◌≤◌, ◌<◌, ◌≡◌, refl, ◌↔◌, List, [], ◌++◌, length, get_or, eqb, Result, Ok, Err}
use Rattle.format.specs.declared.Span.{Span}
use Rattle.std.proofs.Common.{sym, ap, subst, ◌∙◌, append_assoc, arith, pow-suc, eqb-true}
use Rattle.std.proofs.Math.Nat.{pow-le-pow_right}
use Rattle.std.proofs.Math.Decide.{dec_lt}
use Rattle.std.proofs.lemmas.Bool.{eqb-false}
use Rattle.format.specs.declared.Setting.{Setting}
use Rattle.format.specs.declared.Setting.TheVariants as S
use Rattle.format.specs.declared.Refusal.{Refusal}
use Rattle.format.specs.declared.RowAnswer.{RowAnswer}
use Rattle.format.specs.declared.RowAnswer.TheVariants as Q
use Rattle.format.specs.declared.Row.{Row}
use Rattle.format.specs.Terms.{Terms, terms}
use Rattle.format.specs.Prefix.{prefix_at, prefix_bytes, prefix_of}
use Rattle.format.specs.Rows.{blank, room_of}
use Rattle.format.specs.Contents.{Prefixed, Rec, string, end}
use Rattle.format.specs.Grammar.{Width, Name, Reading}
use Rattle.format.specs.View.{no_text, record_text, row_question, text_view}
use Rattle.format.specs.Promises.{ReadPromise, QuestionPromise, ViewPromise}
use Rattle.format.specs.Replies.{reply, row_reply}
use Rattle.num.specs.Le.{Bytes}
use Rattle.prefix.specs.Laws.{One, On, every, lenient_alike}
use Rattle.prefix.specs.Widths.{width_written, lenient_width, strict_width, shortest_width}
use Rattle.strings.specs.Laws.{string_told}
use Rattle.laws.specs.Tests.{either}
use Rattle.view.specs.Laws.{row_fault, question_fault, view_fault}
use Rattle.saying.specs.There.{GoodRec}
use Rattle.demands.specs.Calls.{tabled, read_accepts}
use Rattle.demands.specs.Records.{records_in}
use Rattle.demands.specs.Texts.{Stood, string_place, row_there, kind_room, kind_stood, none_there, shown_there, text_there, text_of_string, table_promised}

-- ---- the width that a setting reads

-- what strict reads, from p to e, is in no longer a form than its number needs: the last group is at least `least` where it is the first
record Needed (least p n e : ℕ) : Type 0 where
  after : p < e
  first : e ≡ p + 1 → least ≤ n
  others : (j : ℕ) → e ≡ p + suc (suc j) → 128 ^ suc j ≤ n

needed_on : (least p g m e : ℕ) → Needed 1 (p + 1) m e → Needed least p (g + 128 * m) e
needed_on least p g m e t = record { after = omega (arith, t.after); first = λ z. absurd (omega (arith, t.after)); others = go }
  where
    go : (j : ℕ) → e ≡ p + suc (suc j) → 128 ^ suc j ≤ g + 128 * m
    go zero z = omega (arith, t.first (omega arith))
    go (suc j) z = rw (pow-suc 128 (suc j)) (omega (arith, t.others j (omega arith)))

needed : (s : List ℕ) (p n e : ℕ) → prefix_at S.Strict s p ≡ Ok (n, e) → Needed 0 p n e
needed s p n e q = rw q at (every 1 s N one on 4 0 p)
  where
    N : ℕ → ℕ → ℕ → ℕ → ℕ → Type 0
    N k least p n e = Needed least p n e

    one : One s N
    one k least p i l h f = record { after = omega arith; first = λ z. l; others = λ j z. absurd (omega arith) }

    on : On 1 s N
    on k least p m e i l h t = needed_on least p (get_or s p 0 % 128) m e t

-- a width that holds the number and that strict read is the strict one
needed_width : (p w n : ℕ) → Needed 0 p n (p + w) → Width S.Lenient w n → Width S.Strict w n
needed_width p w n t a = record { some = a.some; most = a.most; holds = a.holds; least = λ q v i l. go v i l (dec_lt v w) }
  where
    far : (v : ℕ) → n < 128 ^ v → (k : ℕ) → w ≡ suc k → v ≤ k → 0 < k → ⊥
    far v l zero e h i = omega arith
    far v l (suc j) e h i =
        let b = t.others j (ap (λ (x : ℕ). p + x) e) in
        let c : 128 ^ v ≤ 128 ^ suc j = pow-le-pow_right (omega arith) h in
        omega arith

    go : (v : ℕ) → 0 < v → n < 128 ^ v → Dec (v < w) → w ≤ v
    go v i l (yes y) = absurd (far v l (w - 1) (omega arith) (omega arith) (omega arith))
    go v i l (no y) = omega arith

-- what either setting takes, lenient takes
as_lenient : (σ : Setting) (w n : ℕ) → Width σ w n → Width S.Lenient w n
as_lenient S.Strict w n a = lenient_width S.Lenient w n a
as_lenient S.Lenient w n a = a

-- a setting that reads a number from its bytes takes their width
read_width : (σ : Setting) (s : List ℕ) (p w n : ℕ) → prefix_at σ s p ≡ Ok (n, p + w) → Width S.Lenient w n → Width σ w n
read_width S.Strict s p w n q a = needed_width p w n (needed s p n (p + w) q) a
read_width S.Lenient s p w n q a = a

-- ---- a string record under a setting

-- the width of its prefix is one that the setting takes
abbrev pub Taken : Setting → Prefixed → Type 0
Taken σ x = Width σ x.width (length x.text)

-- what is good under some terms is so under a setting that takes its prefix, with the same book
stood_under : (τ : Terms) (σ : Setting) (s : List ℕ) (id : ℕ) (x : Prefixed) (it : Row) → Stood τ s (string id x) it → Taken σ x → Stood (terms σ τ.book) s (string id x) it
stood_under τ σ s id x it y a =
    record {
      place = y.place;
      rest = y.rest;
      bytes_are = y.bytes_are;
      row_is = y.row_is;
      good = record { characters = y.good.characters; prefix = a };
      own = y.own;
    }

-- a setting that finds the text takes the prefix
part_taken : (τ : Terms) (σ : Setting) (s : List ℕ) (id : ℕ) (x : Prefixed) (it : Row) → Stood τ s (string id x) it → (from to : ℕ)
    → record_text σ s it.offset ≡ Ok (record { from = from; to = to }) → Taken σ x
part_taken τ σ s id x it y from to q =
    let p = string_place τ s id x it y in
    let a : ℕ = p.place in
    let w : ℕ = x.width in
    let n : ℕ = length x.text in
    let t = string_told σ s a from to (sym (p.found σ) ∙ q) in
    let l = as_lenient τ.setting w n y.good.prefix in
    let d = p.bytes_are ∙ append_assoc (prefix_of w n) x.text p.rest in
    let u = width_written S.Lenient w n s (x.text ++ p.rest) a l y.good.characters.short d in
    let v = lenient_alike σ s a t.0 from t.1.says in
    let z : ◌≡◌ {A = Result (ℕ × ℕ) Refusal} (Ok (t.0, from)) (Ok (n, a + w)) = sym v ∙ u in
    read_width σ s a w n (t.1.says ∙ z) l

-- ---- the view's own setting

-- what a setting answers and shows of a string record: q is the answer of the row question, v what the text view shows
pub record Own (σ : Setting) (x : Prefixed) (q : RowAnswer) (v : List ℕ) : Type 0 where
  pub exactly : (q ≡ Q.HasText) ↔ Taken σ x
  pub shown : Taken σ x → v ≡ x.text
  pub hidden : (Taken σ x → ⊥) → (q ≡ Q.NoSuchRow) × (v ≡ [])

apart : Q.NoSuchRow ≡ Q.HasText → ⊥
apart e = let z : ◌≡◌ {A = ℕ} 0 1 = cc in omega arith

module _ (τ : Terms) (σ : Setting) {s : List ℕ} {rows : List Row} (w : Reading τ s rows) (t : List ℕ) (fit : length rows ≤ room_of t) (i : ℕ) where
  abbrev lent : List ℕ
  lent = tabled (length t) rows

  abbrev its : Row
  its = get_or rows i blank

  module _ (id : ℕ) (x : Prefixed) (y : Stood τ s (string id x) its) where
    fault_none : (f : Refusal) → record_text σ s its.offset ≡ Err f → (row_question σ s lent i ≡ Q.NoSuchRow) × (text_view σ s lent i ≡ [])
    fault_none f q =
        let e : its.kind ≡ 6 = y.row_is.kind_is in
        let z = row_fault σ s lent i (room_of lent) refl (kind_room τ w t fit i e) its (row_there τ w t fit i) e (Err f) (sym q) f refl in
        (sym (question_fault σ s lent i no_text z _ refl), sym (view_fault σ s lent i no_text z _ refl))

    taken_shown : Taken σ x → (row_question σ s lent i ≡ Q.HasText) × (text_view σ s lent i ≡ x.text)
    taken_shown a = shown_there τ w t fit i (terms σ τ.book) id x (stood_under τ σ s id x its y a)

    judged : (r : Result Span Refusal) → record_text σ s its.offset ≡ r → Own σ x (row_question σ s lent i) (text_view σ s lent i)
    judged (Ok t) q =
        let a = part_taken τ σ s id x its y t.from t.to q in
        let b = taken_shown a in
        record { exactly = (λ h. a, λ h. b.0); shown = λ h. b.1; hidden = λ h. absurd (h a) }
    judged (Err f) q =
        let b = fault_none f q in
        record {
          exactly = (λ h. absurd (apart (sym b.0 ∙ h)), λ h. (taken_shown h).0);
          shown = λ h. (taken_shown h).1;
          hidden = λ h. b;
        }

  -- of every list, read under any terms: a string record has text under a setting exactly when that setting takes its prefix
  pub view_own : (id : ℕ) (x : Prefixed) → get_or (records_in τ w) i end ≡ string id x → Own σ x (row_question σ s lent i) (text_view σ s lent i)
  view_own id x e =
      let k = (text_of_string τ w t fit i id x e).0 in
      let z = kind_stood τ w t fit i k in
      judged id x (subst (λ (r : Rec). Stood τ s r its) e z) (record_text σ s its.offset) refl

  -- where the setting takes what the terms take, it answers and shows what their own does, of every row
  pub own_wider : ((m n : ℕ) → Width τ.setting m n → Width σ m n)
      → (row_question σ s lent i ≡ row_question τ.setting s lent i) × (text_view σ s lent i ≡ text_view τ.setting s lent i)
  own_wider more = either (eqb its.kind 6) (λ h. string_row (eqb-true its.kind 6 h)) (λ h. other_row (eqb-false its.kind 6 h))
    where
      string_row : its.kind ≡ 6 → (row_question σ s lent i ≡ row_question τ.setting s lent i) × (text_view σ s lent i ≡ text_view τ.setting s lent i)
      string_row k =
          let z = text_there τ w t fit i k in
          let x : Prefixed = z.text in
          let y = subst (λ (r : Rec). Stood τ s r its) z.record_is (kind_stood τ w t fit i k) in
          let b = taken_shown z.id x y (more x.width (length x.text) y.good.prefix) in
          (b.0 ∙ sym z.question_is, b.1 ∙ sym z.view_is)

      other_row : (its.kind ≡ 6 → ⊥) → (row_question σ s lent i ≡ row_question τ.setting s lent i) × (text_view σ s lent i ≡ text_view τ.setting s lent i)
      other_row k =
          let a = none_there τ w t fit i σ k in
          let b = none_there τ w t fit i τ.setting k in
          (a.0 ∙ sym b.0, a.1 ∙ sym b.1)

-- what is read in strict, with any book, is answered and shown alike under either setting
pub own_more : (β : List ℕ) (σ : Setting) {s : List ℕ} {rows : List Row} → Reading (terms S.Strict β) s rows → (t : List ℕ) → length rows ≤ room_of t → (i : ℕ)
    → (row_question σ s (tabled (length t) rows) i ≡ row_question S.Strict s (tabled (length t) rows) i)
    × (text_view σ s (tabled (length t) rows) i ≡ text_view S.Strict s (tabled (length t) rows) i)
own_more β σ w t fit i = own_wider (terms S.Strict β) σ w t fit i (lenient_width σ)

-- ---- the two settings

-- strict takes the shortest prefix alone
pub strict_exactly : (x : Prefixed) → length x.text < 2147483648 → Taken S.Strict x ↔ (x.width ≡ length (prefix_bytes (length x.text)))
strict_exactly x h = (strict_width n h x.width, λ e. subst (λ (k : ℕ). Width S.Strict k n) (sym e) (shortest_width n h S.Strict))
  where
    n : ℕ
    n = length x.text

module _ (τ : Terms) {s : List ℕ} {rows : List Row} (w : Reading τ s rows) (t : List ℕ) (fit : length rows ≤ room_of t) (i id : ℕ) (x : Prefixed)
    (e : get_or (records_in τ w) i end ≡ string id x) where
  good_string : Name τ x
  good_string = subst (GoodRec τ) e (kind_stood τ w t fit i (text_of_string τ w t fit i id x e).0).good

  -- a prefix longer than the shortest: a strict view of it has nothing, though the list was accepted
  pub padded_hidden : (x.width ≡ length (prefix_bytes (length x.text)) → ⊥)
      → (row_question S.Strict s (tabled (length t) rows) i ≡ Q.NoSuchRow) × (text_view S.Strict s (tabled (length t) rows) i ≡ [])
  padded_hidden n = (view_own τ S.Strict w t fit i id x e).hidden (λ a. n ((strict_exactly x good_string.characters.short).0 a))

  -- a lenient view shows the text of every string record of an accepted list
  pub lenient_shown : (row_question S.Lenient s (tabled (length t) rows) i ≡ Q.HasText) × (text_view S.Lenient s (tabled (length t) rows) i ≡ x.text)
  lenient_shown =
      let a = as_lenient τ.setting x.width (length x.text) good_string.prefix in
      let o = view_own τ S.Lenient w t fit i id x e in
      (o.exactly.1 a, o.shown a)

-- ---- from the promises

-- what a caller learns of row i of a list that was accepted under any terms, asked and viewed under a setting of its own
pub record OwnTold (τ : Terms) (σ : Setting) {s : List ℕ} {rows : List Row} (w : Reading τ s rows) (i : ℕ) (a : RowAnswer) (v : List ℕ) : Type 0 where
  pub text : (id : ℕ) (x : Prefixed) → get_or (records_in τ w) i end ≡ string id x → Own σ x a v
  pub string_there : a ≡ Q.HasText → (id : ℕ) × (x : Prefixed) × (get_or (records_in τ w) i end ≡ string id x) × Taken σ x
  pub none : ((get_or rows i blank).kind ≡ 6 → ⊥) → (a ≡ Q.NoSuchRow) × (v ≡ [])

-- the same of whatever equals the answer and the view
own_same : (σ : Setting) (x : Prefixed) {q a : RowAnswer} {v z : List ℕ} → a ≡ q → z ≡ v → Own σ x q v → Own σ x a z
own_same σ x b d o =
    record {
      exactly = (λ h. o.exactly.0 (sym b ∙ h), λ h. b ∙ o.exactly.1 h);
      shown = λ h. d ∙ o.shown h;
      hidden = λ h. (b ∙ (o.hidden h).0, d ∙ (o.hidden h).1);
    }

-- a row that has text under some setting is a string record, of a prefix that the setting takes
own_string : (τ : Terms) (σ : Setting) {s : List ℕ} {rows : List Row} (w : Reading τ s rows) (t : List ℕ) → length rows ≤ room_of t → (i : ℕ)
    → row_question σ s (tabled (length t) rows) i ≡ Q.HasText → (id : ℕ) × (x : Prefixed) × (get_or (records_in τ w) i end ≡ string id x) × Taken σ x
own_string τ σ {rows = rows} w t fit i h = either (eqb (get_or rows i blank).kind 6) (λ k.
    let z = text_there τ w t fit i (eqb-true (get_or rows i blank).kind 6 k) in
    (z.id, z.text, z.record_is, (view_own τ σ w t fit i z.id z.text z.record_is).exactly.0 h))
    (λ k. absurd (apart (sym (none_there τ w t fit i σ (eqb-false (get_or rows i blank).kind 6 k)).0 ∙ h)))

module _ (τ : Terms) (s t : List ℕ) (booked : Bytes τ.book) (byte : Bytes s) (n : ℕ) (u : List ℕ) (p : ReadPromise τ s t (Ok n) u) (rows : List Row) (w : Reading τ s rows) where
  abbrev fits : length rows ≤ room_of t
  fits = (table_promised τ s t booked byte n u p rows w).0

  asked : (σ : Setting) (i : ℕ) (a : RowAnswer) → QuestionPromise σ s u i a → a ≡ row_question σ s (tabled (length t) rows) i
  asked σ i a q = q.answer ∙ ap (λ (l : List ℕ). row_question σ s l i) (table_promised τ s t booked byte n u p rows w).1

  viewed : (σ : Setting) (i : ℕ) (v : List ℕ) → ViewPromise σ s u i v → v ≡ text_view σ s (tabled (length t) rows) i
  viewed σ i v z = z ∙ ap (λ (l : List ℕ). text_view σ s l i) (table_promised τ s t booked byte n u p rows w).1

  pub view_of_row : (σ : Setting) (i : ℕ) (a : RowAnswer) (v : List ℕ) → QuestionPromise σ s u i a → ViewPromise σ s u i v → OwnTold τ σ w i a v
  view_of_row σ i a v q z =
      let b = asked σ i a q in
      let d = viewed σ i v z in
      record {
        text = λ id x e. own_same σ x b d (view_own τ σ w t fits i id x e);
        string_there = λ h. own_string τ σ w t fits i (sym b ∙ h);
        none = λ h. let r = none_there τ w t fits i σ h in (b ∙ r.0, d ∙ r.1);
      }

  -- a strict question about a padded record answers 21, and a strict view of it shows nothing
  pub padded_of_row : (i : ℕ) (a : RowAnswer) (v : List ℕ) → QuestionPromise S.Strict s u i a → ViewPromise S.Strict s u i v → (id : ℕ) (x : Prefixed)
      → get_or (records_in τ w) i end ≡ string id x → (x.width ≡ length (prefix_bytes (length x.text)) → ⊥) → (row_reply a ≡ reply 21 0 0) × (v ≡ [])
  padded_of_row i a v q z id x e m =
      let r = padded_hidden τ w t fits i id x e m in
      (ap row_reply (asked S.Strict i a q ∙ r.0), viewed S.Strict i v z ∙ r.1)

  -- a lenient question about any string record answers that it has text, and a lenient view shows it
  pub lenient_of_row : (i : ℕ) (a : RowAnswer) (v : List ℕ) → QuestionPromise S.Lenient s u i a → ViewPromise S.Lenient s u i v → (id : ℕ) (x : Prefixed)
      → get_or (records_in τ w) i end ≡ string id x → (a ≡ Q.HasText) × (v ≡ x.text)
  lenient_of_row i a v q z id x e =
      let r = lenient_shown τ w t fits i id x e in
      (asked S.Lenient i a q ∙ r.0, viewed S.Lenient i v z ∙ r.1)

-- of a list that was accepted in strict, with any book, a question and a view under either setting give what strict ones give
pub alike_of_row : (β s t : List ℕ) → Bytes β → Bytes s → (n : ℕ) (u : List ℕ) → ReadPromise (terms S.Strict β) s t (Ok n) u → (σ : Setting) (i : ℕ) (a b : RowAnswer) (v z : List ℕ)
    → QuestionPromise S.Strict s u i a → ViewPromise S.Strict s u i v → QuestionPromise σ s u i b → ViewPromise σ s u i z → (b ≡ a) × (z ≡ v)
alike_of_row β s t booked byte n u p σ i a b v z q x r y =
    let τ : Terms = terms S.Strict β in
    let h = read_accepts τ s t booked byte n u p in
    let w = h.reads in
    let m = own_more β σ w t (fits τ s t booked byte n u p h.rows w) i in
    let f = asked τ s t booked byte n u p h.rows w in
    let g = viewed τ s t booked byte n u p h.rows w in
    (f σ i b r ∙ (m.0 ∙ sym (f S.Strict i a q)), g σ i z y ∙ (m.1 ∙ sym (g S.Strict i v x)))
