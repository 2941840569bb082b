-- Laws of the options: a word compared, one law for each way that a choice ends.
use Rattle.std.specs.Prelude.{ℕ, ◌+◌, ◌-◌, ◌<◌, ◌≤◌, ◌≡◌, refl, Bool, true, false, List, [], ◌∷◌, ◌++◌, length, ◌==◌}
use Rattle.std.specs.Bool.{then_some}
use Rattle.std.specs.declared.option.Option.{Option}
use Rattle.std.specs.declared.option.Option.TheVariants.{None, Some}
use Rattle.std.specs.declared.result.Result.{Result}
use Rattle.std.specs.declared.result.Result.TheVariants.{Ok, Err}
use Rattle.std.proofs.Common.{sym, ◌∙◌, subst, append-nil, arith}
use borrow.Author.Tests.{eq-eqb, ne_eqb}
use Rattle.format.specs.declared.Setting.{Setting}
use Rattle.format.specs.declared.Setting.TheVariants as Q
use Rattle.format.specs.Bytes.{pick, same_bytes}
use Rattle.same.specs.Laws.{same_eq}
use Rattle.laws.specs.Tests.{bool_ext, true_same, apart}
use Rattle.options.specs.declared.What.TheVariants as A
use Rattle.options.specs.declared.Lists.TheVariants as L
use Rattle.options.specs.declared.Word.{Word}
use Rattle.options.specs.declared.Choice.{Choice}
use Rattle.options.specs.declared.Choices.{Choices}
use Rattle.options.specs.declared.WrongCall.{WrongCall}
use Rattle.options.specs.Options.{first_end, second_end, lists_of, names_book, from_strict, with_option, chosen_by, next_to, taken, Onward}

-- the answer z of a test for equality is that the lists are the same
pub compared : (z : Bool) (l m : List ℕ) → (z ≡ true → l ≡ m) × (l ≡ m → z ≡ true) → z ≡ same_bytes l m
compared z l m w = bool_ext z (same_bytes l m) (λ i. true_same l m (w.0 i)) (λ i. w.1 (same_eq l m i))

pub unlike : (l m : List ℕ) → (l ≡ m → ⊥) → same_bytes l m ≡ false
unlike l m h = bool_ext (same_bytes l m) false (λ i. absurd (h (same_eq l m i))) (λ i. apart i)

-- ---- words

module _ (w o : List ℕ) where
  pub option_both : same_bytes w o ≡ true → lists_of w o ≡ Some L.Both
  unfolding lists_of
  option_both e = rw e

  pub option_first : same_bytes w o ≡ false → same_bytes w (o ++ first_end) ≡ true → lists_of w o ≡ Some L.First
  unfolding lists_of
  option_first e f = rw (e, f)

  pub option_second : (z : Bool) → same_bytes w o ≡ false → same_bytes w (o ++ first_end) ≡ false → same_bytes w (o ++ second_end) ≡ z
      → lists_of w o ≡ pick z (Some L.Second) None
  unfolding lists_of
  option_second z e f g = rw (e, f, g)

  pub option_none : ((e : List ℕ) → w ≡ o ++ e → ⊥) → lists_of w o ≡ None
  option_none h =
      option_second false (unlike w o (λ e. h [] (rw append-nil e))) (unlike w (o ++ first_end) (h first_end)) (unlike w (o ++ second_end) (h second_end))

pub empty : (e : List ℕ) → (length e == 0) ≡ same_bytes e []
unfolding same_bytes
empty [] = refl
empty (x ∷ e) = ne_eqb (length (x ∷ e)) 0 (λ h. omega arith)

some_picked : (z : Bool) → then_some z L.Second ≡ pick z (Some L.Second) None
some_picked true = refl
some_picked false = refl

-- words that begin alike are the same where their ends are
pub at_end : (o e m : List ℕ) → same_bytes (o ++ e) (o ++ m) ≡ same_bytes e m
unfolding same_bytes
at_end [] e m = refl
at_end (x ∷ o) e m = simp (eq-eqb x x refl) (at_end o e m)

-- the same by what is left of the word behind the option
module _ (w o e : List ℕ) (h : w ≡ o ++ e) where
  ends : (m : List ℕ) → same_bytes w (o ++ m) ≡ same_bytes e m
  ends m = rw h (at_end o e m)

  whole : same_bytes w o ≡ same_bytes e []
  whole = let i : same_bytes w (o ++ []) ≡ same_bytes e [] = ends [] in rw append-nil at i

  pub end_both : same_bytes e [] ≡ true → Some L.Both ≡ lists_of w o
  end_both i = sym (option_both w o (whole ∙ i))

  pub end_first : same_bytes e [] ≡ false → same_bytes e first_end ≡ true → Some L.First ≡ lists_of w o
  end_first i j = sym (option_first w o (whole ∙ i) (ends first_end ∙ j))

  pub end_second : (z : Bool) → same_bytes e [] ≡ false → same_bytes e first_end ≡ false → same_bytes e second_end ≡ z → then_some z L.Second ≡ lists_of w o
  end_second z i j k = some_picked z ∙ sym (option_second w o z (whole ∙ i) (ends first_end ∙ j) (ends second_end ∙ k))

-- ---- settings and books

module _ (b : Option ℕ) (c : Choice) where
  pub lenient_by : (z : Setting) → c.setting ≡ z → from_strict z (record { setting = Q.Lenient; book = c.book }) ≡ with_option A.Lenient b c
  lenient_by z e = rw e

  pub book_before : (i : ℕ) → c.book ≡ Some i → Err (record {}) ≡ with_option A.Book b c
  book_before i e = rw e

  pub book_by : c.book ≡ None → Ok (record { setting = c.setting; book = b }) ≡ with_option A.Book b c
  book_by e = rw e

-- ---- numbers of words

-- the next word lies where a choice is given it
pub next_onward : (i n : ℕ) (q : Result Choices WrongCall) (k : ℕ) → i < k → k ≤ n → Onward i n (next_to q k)
next_onward i n (Ok c) k h j = (h, j)
next_onward i n (Err e) k h j = tt

-- what is looked at next lies behind what was
pub went : (i n : ℕ) (r : Result (Choices × ℕ) WrongCall) → Onward i n r → (c : Choices) (k : ℕ) → r ≡ Ok (c, k) → (i < k) × (k ≤ n)
went i n r h c k e = subst (Onward i n) e h

module _ (w : Word) (i n : ℕ) (c : Choices) (h : i < n) (b : Bool) (e : b ≡ names_book w) where
  pub taken_short : b ≡ true → n - i ≡ 1 → (◌≡◌ {A = Result (Choices × ℕ) WrongCall} (Err (record {})) (taken w i n c)) × Onward i n (Err (record {}))
  unfolding taken
  taken_short f j = (rw (← e, f, eq-eqb (n - i) 1 j), tt)

  module _ (q : Result Choices WrongCall) (r : Result (Choices × ℕ) WrongCall) (g : q ≡ chosen_by w (Some (i + 1)) c) where
    pub taken_alone : b ≡ false → r ≡ next_to q (i + 1) → (r ≡ taken w i n c) × Onward i n r
    unfolding taken
    taken_alone f j = (rw (← e, f, ← g, j), rw j (next_onward i n q (i + 1) (omega arith) (omega arith)))

    pub taken_named : b ≡ true → (n - i ≡ 1 → ⊥) → r ≡ next_to q (i + 2) → (r ≡ taken w i n c) × Onward i n r
    unfolding taken
    taken_named f o j = (rw (← e, f, ne_eqb (n - i) 1 o, ← g, j), rw j (next_onward i n q (i + 2) (omega arith) (omega arith)))
