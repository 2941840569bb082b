-- The terms under which a stream is read (02, (ii) and (iii)).
use Rattle.std.specs.Prelude.{ℕ, List, []}
use Rattle.format.specs.declared.Setting.{Setting}
use Rattle.format.specs.declared.Setting.TheVariants as Q

pub record Terms : Type 0 where
  -- how length prefixes are judged
  pub setting : Setting
  -- the bytes of the class book
  pub book : List ℕ

abbrev pub terms : Setting → List ℕ → Terms
terms σ β = record { setting = σ; book = β }

-- without a book
abbrev pub strict : Terms
strict = terms Q.Strict []

abbrev pub lenient : Terms
lenient = terms Q.Lenient []
