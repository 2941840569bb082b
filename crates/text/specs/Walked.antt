-- The five sequences of docs/TEXT-CHECK.md, computed: what the table says of each place that the check comes to, and whether all of it is text.
use Rattle.std.specs.Prelude.{ℕ, ◌≡◌, refl, true, false, List, [], ◌∷◌}
use Rattle.format.specs.Text.{need_of, lo_of, hi_of, lead_of, step_of, after, well_formed}
use Rattle.text.specs.Scalars.{has_at, ends_at, width_at}

abbrev letter : List ℕ
letter = 0x6A ∷ []

abbrev e_acute : List ℕ
e_acute = 0xC3 ∷ 0xA9 ∷ []

abbrev surrogate : List ℕ
surrogate = 0xED ∷ 0xA0 ∷ 0x80 ∷ []

abbrev overlong_slash : List ℕ
overlong_slash = 0xC0 ∷ 0xAF ∷ []

-- a letter of two bytes, and the first byte of another
abbrev cut_last : List ℕ
cut_last = 0xD0 ∷ 0x96 ∷ 0xD0 ∷ []

pub letter_walked : (width_at letter 0 ≡ 1) × (well_formed letter ≡ true)
unfolding width_at ends_at well_formed after step_of lead_of need_of lo_of hi_of
letter_walked = (refl, refl)

pub e_acute_walked : (has_at e_acute 1 0x80 0xBF ≡ true) × ((width_at e_acute 0 ≡ 2) × (well_formed e_acute ≡ true))
unfolding has_at width_at ends_at well_formed after step_of lead_of need_of lo_of hi_of
e_acute_walked = (refl, (refl, refl))

pub surrogate_walked : (has_at surrogate 1 0x80 0x9F ≡ false) × ((width_at surrogate 0 ≡ 0) × (well_formed surrogate ≡ false))
unfolding has_at width_at ends_at well_formed after step_of lead_of need_of lo_of hi_of
surrogate_walked = (refl, (refl, refl))

pub overlong_slash_walked : (need_of 0xC0 ≡ 4) × ((width_at overlong_slash 0 ≡ 0) × (well_formed overlong_slash ≡ false))
unfolding width_at ends_at well_formed after step_of lead_of need_of lo_of hi_of
overlong_slash_walked = (refl, (refl, refl))

pub cut_last_walked : (width_at cut_last 0 ≡ 2) × ((has_at cut_last 3 0x80 0xBF ≡ false) × ((width_at cut_last 2 ≡ 0) × (well_formed cut_last ≡ false)))
unfolding has_at width_at ends_at well_formed after step_of lead_of need_of lo_of hi_of
cut_last_walked = (refl, (refl, (refl, refl)))
