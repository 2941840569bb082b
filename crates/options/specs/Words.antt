-- The options by their words, and what each adds to the choice: one law for each way that the tests end.
use Rattle.std.specs.Prelude.{ℕ, ◌≡◌, Bool, true, false, List, ◌++◌}
use Rattle.std.specs.declared.option.Option.{Option}
use Rattle.std.specs.declared.option.Option.TheVariants.{None, Some}
use Rattle.std.specs.declared.result.Result.TheVariants.{Ok, Err}
use Rattle.format.specs.declared.Setting.{Setting}
use Rattle.format.specs.declared.Setting.TheVariants as Q
use Rattle.format.specs.Bytes.{pick, same_bytes}
use Rattle.options.specs.declared.Word.{Word}
use Rattle.options.specs.declared.What.TheVariants as A
use Rattle.options.specs.declared.Lists.TheVariants as L
use Rattle.options.specs.declared.Choices.{Choices}
use Rattle.options.specs.Options.{first_end, second_end, lenient_word, book_word, lists_of, option_for, option_of, from_strict, with_option, and_then, for_first, for_second}

-- ---- words

-- the option that chooses a setting
abbrev pub setting_word : List ℕ → Option Word
setting_word w = option_for A.Lenient (lists_of w lenient_word)

module _ (w : List ℕ) where
  pub setting_both : same_bytes w lenient_word ≡ true → setting_word w ≡ Some (record { what = A.Lenient; lists = L.Both })
  unfolding lists_of
  setting_both e = rw e

  pub setting_first : same_bytes w lenient_word ≡ false → same_bytes w (lenient_word ++ first_end) ≡ true
      → setting_word w ≡ Some (record { what = A.Lenient; lists = L.First })
  unfolding lists_of
  setting_first e f = rw (e, f)

  pub setting_second : (z : Bool) → same_bytes w lenient_word ≡ false → same_bytes w (lenient_word ++ first_end) ≡ false → same_bytes w (lenient_word ++ second_end) ≡ z
      → setting_word w ≡ pick z (Some (record { what = A.Lenient; lists = L.Second })) None
  unfolding lists_of
  setting_second true e f g = rw (e, f, g)
  setting_second false e f g = rw (e, f, g)

  pub option_both : same_bytes w book_word ≡ true → option_of w ≡ Some (record { what = A.Book; lists = L.Both })
  unfolding lists_of
  option_both e = rw e

  pub option_first : same_bytes w book_word ≡ false → same_bytes w (book_word ++ first_end) ≡ true → option_of w ≡ Some (record { what = A.Book; lists = L.First })
  unfolding lists_of
  option_first e f = rw (e, f)

  pub option_second : (z : Bool) → same_bytes w book_word ≡ false → same_bytes w (book_word ++ first_end) ≡ false → same_bytes w (book_word ++ second_end) ≡ z
      → option_of w ≡ pick z (Some (record { what = A.Book; lists = L.Second })) (setting_word w)
  unfolding lists_of
  option_second true e f g = rw (e, f, g)
  option_second false e f g = rw (e, f, g)

-- ---- settings and books

module _ (b : Option ℕ) (c : Choices) where
  pub lenient_first_by : (z : Setting) → c.first.setting ≡ z
      → and_then (λ d. Ok (record { first = d; second = c.second })) (from_strict z (record { setting = Q.Lenient; book = c.first.book }))
      ≡ for_first (with_option A.Lenient b) c
  lenient_first_by z e = rw e

  pub lenient_second_by : (z : Setting) → c.second.setting ≡ z
      → and_then (λ d. Ok (record { first = c.first; second = d })) (from_strict z (record { setting = Q.Lenient; book = c.second.book }))
      ≡ for_second (with_option A.Lenient b) c
  lenient_second_by z e = rw e

  pub first_before : (i : ℕ) → c.first.book ≡ Some i → Err (record {}) ≡ for_first (with_option A.Book b) c
  first_before i e = rw e

  pub first_by_lem : c.first.book ≡ None
      → Ok (record { first = record { setting = c.first.setting; book = b }; second = c.second }) ≡ for_first (with_option A.Book b) c
  first_by_lem e = rw e

  pub second_before : (i : ℕ) → c.second.book ≡ Some i → Err (record {}) ≡ for_second (with_option A.Book b) c
  second_before i e = rw e

  pub second_by_lem : c.second.book ≡ None
      → Ok (record { first = c.first; second = record { setting = c.second.setting; book = b } }) ≡ for_second (with_option A.Book b) c
  second_by_lem e = rw e
