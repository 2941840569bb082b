-- What options choose for each list: its setting and its class book.
use Rattle.std.specs.Prelude.{ℕ, ◌+◌, ◌-◌, ◌<◌, ◌≤◌, Bool, true, false, List, [], ◌∷◌, ◌++◌, eqb, IfOk}
use Rattle.std.specs.declared.option.Option.{Option}
use Rattle.std.specs.declared.option.Option.TheVariants.{None, Some}
use Rattle.std.specs.Option.{option_map, option_or}
use Rattle.std.specs.declared.result.Result.{Result}
use Rattle.std.specs.declared.result.Result.TheVariants.{Ok, Err}
use Rattle.format.specs.declared.Setting.{Setting}
use Rattle.format.specs.declared.Setting.TheVariants as Q
use Rattle.format.specs.Bytes.{pick, same_bytes}
use Rattle.options.specs.declared.What.{What}
use Rattle.options.specs.declared.What.TheVariants as A
use Rattle.options.specs.declared.Lists.{Lists}
use Rattle.options.specs.declared.Lists.TheVariants as L
use Rattle.options.specs.declared.Word.{Word}
use Rattle.options.specs.declared.Choice.{Choice}
use Rattle.options.specs.declared.Choices.{Choices}
use Rattle.options.specs.declared.WrongCall.{WrongCall}

-- ---- the words

-- `-first`
abbrev pub first_end : List ℕ
first_end = 45 ∷ 102 ∷ 105 ∷ 114 ∷ 115 ∷ 116 ∷ []

-- `-second`
abbrev pub second_end : List ℕ
second_end = 45 ∷ 115 ∷ 101 ∷ 99 ∷ 111 ∷ 110 ∷ 100 ∷ []

-- `--lenient`
abbrev pub lenient_word : List ℕ
lenient_word = 45 ∷ 45 ∷ 108 ∷ 101 ∷ 110 ∷ 105 ∷ 101 ∷ 110 ∷ 116 ∷ []

-- `--book`
abbrev pub book_word : List ℕ
book_word = 45 ∷ 45 ∷ 98 ∷ 111 ∷ 111 ∷ 107 ∷ []

-- the lists for which a word is the option o
unfoldable pub lists_of : List ℕ → List ℕ → Option Lists
lists_of w o =
    pick (same_bytes w o) (Some L.Both)
    (pick (same_bytes w (o ++ first_end)) (Some L.First)
    (pick (same_bytes w (o ++ second_end)) (Some L.Second)
    None))

-- an option for some lists
abbrev pub option_for : What → Option Lists → Option Word
option_for a l = option_map (λ x. record { what = a; lists = x }) l

-- the option that a word is
abbrev pub option_of : List ℕ → Option Word
option_of w = option_or (option_for A.Book (lists_of w book_word)) (option_for A.Lenient (lists_of w lenient_word))

-- whether a file's name comes after an option
abbrev pub named_by : What → Bool
named_by A.Lenient = false
named_by A.Book = true

abbrev pub names_book : Word → Bool
names_book w = named_by w.what

-- the option in a program with one list
abbrev pub one_for : Lists → Word → Option Word
one_for L.First w = None
one_for L.Second w = None
one_for L.Both w = Some w

abbrev pub for_one : Word → Option Word
for_one w = one_for w.lists w

-- ---- what they choose

-- without an option: strict, with an empty book
abbrev pub plainly : Choices
plainly = record { first = record { setting = Q.Strict; book = None }; second = record { setting = Q.Strict; book = None } }

-- a list is made lenient that was not
abbrev pub from_strict : Setting → Choice → Result Choice WrongCall
from_strict Q.Strict d = Ok d
from_strict Q.Lenient d = Err (record {})

-- a list is given a book that had none
abbrev pub from_none : Option ℕ → Choice → Result Choice WrongCall
from_none None d = Ok d
from_none (Some i) d = Err (record {})

-- what an option chooses for a list, b the word that names a book
abbrev pub with_option : What → Option ℕ → Choice → Result Choice WrongCall
with_option A.Lenient b c = from_strict c.setting (record { setting = Q.Lenient; book = c.book })
with_option A.Book b c = from_none c.book (record { setting = c.setting; book = b })

-- one choice after another
abbrev pub and_then : {T U : Type 0} → (T → Result U WrongCall) → Result T WrongCall → Result U WrongCall
and_then f (Ok c) = f c
and_then f (Err e) = Err e

-- what f chooses for the first list, and for the second
abbrev pub for_first : (Choice → Result Choice WrongCall) → Choices → Result Choices WrongCall
for_first f c = and_then (λ d. Ok (record { first = d; second = c.second })) (f c.first)

abbrev pub for_second : (Choice → Result Choice WrongCall) → Choices → Result Choices WrongCall
for_second f c = and_then (λ d. Ok (record { first = c.first; second = d })) (f c.second)

-- what it chooses for the lists that an option is for
abbrev pub for_lists : Lists → (Choice → Result Choice WrongCall) → Choices → Result Choices WrongCall
for_lists L.First f c = for_first f c
for_lists L.Second f c = for_second f c
for_lists L.Both f c = and_then (for_second f) (for_first f c)

-- what an option chooses, b the word after it
abbrev pub chosen_by : Word → Option ℕ → Choices → Result Choices WrongCall
chosen_by w b c = for_lists w.lists (with_option w.what b) c

-- with the number of the word that is looked at next
abbrev pub next_to : Result Choices WrongCall → ℕ → Result (Choices × ℕ) WrongCall
next_to q k = and_then (λ c. Ok (c, k)) q

-- what an option at word i of n adds
unfoldable pub taken : Word → ℕ → ℕ → Choices → Result (Choices × ℕ) WrongCall
taken w i n c =
    pick (names_book w) (pick (eqb (n - i) 1) (Err (record {})) (next_to (chosen_by w (Some (i + 1)) c) (i + 2)))
    (next_to (chosen_by w (Some (i + 1)) c) (i + 1))

-- the next word lies behind word i, at most at the end of n words
abbrev pub Onward : ℕ → ℕ → Result (Choices × ℕ) WrongCall → Type 0
Onward i n r = IfOk r (λ x. (i < x.1) × (x.1 ≤ n))
