-- Texts and the details of types at a place of a class book (02, (ii)): what is written is read, what is read is written so, and in no other way.
use Rattle.std.specs.Prelude.{ℕ, ◌≤◌, ◌≡◌, length, eqb, Ok, Result}
use Rattle.format.specs.declared.Refusal.{Refusal}
use Rattle.std.proofs.Math.Path.{refl, ap}
use Rattle.std.proofs.Common.{subst, arith}
use mathlib.Core.List.{List, []}
use Rattle.format.specs.declared.Setting.TheVariants as Q
use Rattle.format.specs.Terms.{strict}
use Rattle.format.specs.Bytes.{pick}
use Rattle.format.specs.Types.{name_at, info_at}
use Rattle.format.specs.Contents.{bytes_in, shortest, Detail, primitive, text, object, objects, texts, primitives, type_byte}
use Rattle.format.specs.Book.{text_bytes, code_bytes}
use Rattle.format.specs.Says.{code_from, text_from}
use Rattle.format.specs.Entries.{coded_info_at}
use Rattle.format.specs.Grammar.{Characters, Name, Coded, a_primitive_rule, a_text, any_object, an_object_array_rule, a_text_array, a_primitive_array_rule}
use Rattle.num.specs.Le.{Bytes}
use Rattle.prefix.specs.Widths.{shortest_width, strict_width}
use Rattle.laws.specs.Fields.{by_type}
use Rattle.laws.specs.Tests.{differ}
use Rattle.book.specs.Moves.{coded_told}
use Rattle.places.specs.Stand.{Stand, stand_size, stand_none}
use Rattle.places.specs.Fields.{name_there, name_text, name_back, code_there, code_from_lem, code_back}

-- ---- texts

-- with the shortest prefix it is a name by either setting
shortly : (t : List ℕ) → Characters t → Name strict (shortest t)
shortly t g = record { characters = g; prefix = shortest_width (length t) g.short Q.Strict }

module _ (β : List ℕ) (p e : ℕ) where
  pub text_there : (t : List ℕ) → Characters t → Stand β (text_bytes t) p e → name_at Q.Strict β p ≡ Ok e
  text_there t g w = name_there strict β (shortest t) p e (shortly t g) w

  pub text_in : (t : List ℕ) → Characters t → Stand β (text_bytes t) p e → text_from β p ≡ t
  text_in t g w = name_text strict β (shortest t) p e (shortly t g) w

  pub text_back : Bytes β → name_at Q.Strict β p ≡ Ok e → (t : List ℕ) × Characters t × Stand β (text_bytes t) p e
  text_back b q =
      let w = name_back strict β p e b q in
      let t = text_from β p in
      let k = strict_width (length t) w.0.characters.short _ w.0.prefix in
      (t, w.0.characters, subst (λ (n : ℕ). Stand β (bytes_in (record { width = n; text = t })) p e) k w.1)

-- ---- details

-- the type whose byte is this, not 3 or 4, and whose detail stands here
unfoldable pub detail_at : List ℕ → ℕ → ℕ → Detail (List ℕ) (List ℕ)
detail_at β type at =
    pick (eqb type 0) (primitive (code_from β at))
    (pick (eqb type 1) text
    (pick (eqb type 2) object
    (pick (eqb type 5) objects
    (pick (eqb type 6) texts
    (primitives (code_from β at))))))

pub coded_small : {d : Detail (List ℕ) (List ℕ)} → Coded d → type_byte d ≤ 7
coded_small a_primitive_rule = omega arith
coded_small a_text = omega arith
coded_small any_object = omega arith
coded_small an_object_array_rule = omega arith
coded_small a_text_array = omega arith
coded_small a_primitive_array_rule = omega arith

module _ (β : List ℕ) (p e : ℕ) where
  pub detail_there : (d : Detail (List ℕ) (List ℕ)) → Coded d → Stand β (code_bytes d) p e → coded_info_at β (type_byte d) p ≡ Ok e
  unfolding coded_info_at info_at
  detail_there d (a_primitive_rule {c}) w = code_there β c p e w
  detail_there d a_text w = let k = stand_size w in ap Ok (omega arith)
  detail_there d any_object w = let k = stand_size w in ap Ok (omega arith)
  detail_there d an_object_array_rule w = let k = stand_size w in ap Ok (omega arith)
  detail_there d a_text_array w = let k = stand_size w in ap Ok (omega arith)
  detail_there d (a_primitive_array_rule {c}) w = code_there β c p e w

  -- and it is the detail that is read there
  pub detail_in_lem : (d : Detail (List ℕ) (List ℕ)) → Coded d → Stand β (code_bytes d) p e → detail_at β (type_byte d) p ≡ d
  unfolding detail_at
  detail_in_lem d (a_primitive_rule {c}) w = ap primitive (code_from_lem β c p e w)
  detail_in_lem d a_text w = refl
  detail_in_lem d any_object w = refl
  detail_in_lem d an_object_array_rule w = refl
  detail_in_lem d a_text_array w = refl
  detail_in_lem d (a_primitive_array_rule {c}) w = ap primitives (code_from_lem β c p e w)

  -- a detail that ends is written there
  pub record Detailed (b : ℕ) : Type 0 where
    pub good : Coded (detail_at β b p)
    pub byte : type_byte (detail_at β b p) ≡ b
    pub stands : Stand β (code_bytes (detail_at β b p)) p e

  pub detail_back : (b : ℕ) → b ≤ 7 → p ≤ length β → coded_info_at β b p ≡ Ok e → Detailed b
  unfolding info_at detail_at
  detail_back b h i q =
      by_type (λ (b : ℕ). coded_info_at β b p ≡ Ok e → Detailed b)
      (λ q. record { good = a_primitive_rule; byte = refl; stands = code_back β p e (coded_told β 0 p e q).1 })
      (λ q. record { good = a_text; byte = refl; stands = none (coded_told β 1 p e q).1 })
      (λ q. record { good = any_object; byte = refl; stands = none (coded_told β 2 p e q).1 })
      (λ q. differ (coded_told β 3 p e q).0)
      (λ q. differ (coded_told β 4 p e q).0)
      (λ q. record { good = an_object_array_rule; byte = refl; stands = none (coded_told β 5 p e q).1 })
      (λ q. record { good = a_text_array; byte = refl; stands = none (coded_told β 6 p e q).1 })
      (λ q. record { good = a_primitive_array_rule; byte = refl; stands = code_back β p e (coded_told β 7 p e q).1 })
      b
      h
      q
    where
      none : ◌≡◌ {A = Result ℕ Refusal} (Ok p) (Ok e) → Stand β [] p e
      none q = let z : p ≡ e = cc in rw (← z) (stand_none i)
