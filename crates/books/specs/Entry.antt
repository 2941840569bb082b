-- An entry of a class book at a place (02, (ii)): what is written is read, what is read is written so, and in no other way.
use Rattle.std.specs.Prelude.{ℕ, zero, suc, ◌+◌, ◌≤◌, ◌<◌, ◌≡◌, refl, List, [], ◌∷◌, ◌++◌, length, get_or, Ok}
use Rattle.std.proofs.Common.{sym, ap, ◌∙◌, arith, le-leb}
use Rattle.format.specs.declared.Setting.TheVariants as Q
use Rattle.format.specs.Contents.{From, the_system, the_library, Class}
use Rattle.format.specs.Book.{text_bytes, origin_byte, origin_bytes, described_bytes, entry_bytes}
use Rattle.format.specs.Entries.{counted_at, origin_at, entry_at}
use Rattle.format.specs.Grammar.{Origin, BookEntry}
use Rattle.num.specs.Le.{Bytes}
use Rattle.types.specs.Keeps.{name_moves}
use Rattle.laws.specs.Tests.{class_of}
use Rattle.book.specs.Moves.{origin_library, origin_none, counted_told, counted_members, entry_told, entry_more}
use Rattle.places.specs.Stand.{Stand, stand_size, stand_none, stand_is, stand_then, stand_split, stand_inside, stand_here, stand_after}
use Rattle.books.specs.Texts.{text_there, text_in, text_back}
use Rattle.books.specs.Described.{members_there, members_back, members_one}

-- ---- where a class comes from

origin_small : (o : From) → origin_byte o ≤ 1
origin_small the_system = omega arith
origin_small (the_library n) = omega arith

module _ (β : List ℕ) where
  module _ (p e : ℕ) where
    origin_there : (o : From) → Origin o → Stand β (origin_bytes o) p e → origin_at β (origin_byte o) p ≡ Ok e
    origin_there the_system g w =
        let k = stand_size w in
        origin_none β 0 p (λ z. omega arith) ∙ ap Ok (omega arith)
    origin_there (the_library n) g w = origin_library β 1 p refl ∙ text_there β p e n g w

    -- what stands at p, of an entry that begins with this byte
    record OriginRead (first : ℕ) : Type 0 where
      from : From
      byte : origin_byte from ≡ first
      good : Origin from
      stands : Stand β (origin_bytes from) p e

    origin_back : (first : ℕ) → first ≤ 1 → Bytes β → p ≤ length β → origin_at β first p ≡ Ok e → OriginRead first
    origin_back zero h b i q =
        let r = sym (origin_none β 0 p (λ z. omega arith)) ∙ q in
        let z : p ≡ e = cc in
        record { from = the_system; byte = refl; good = tt; stands = rw (← z) (stand_none i) }
    origin_back (suc zero) h b i q =
        let t = text_back β p e b (sym (origin_library β 1 p refl) ∙ q) in
        record { from = the_library t.0; byte = refl; good = t.1; stands = t.2 }
    origin_back (suc (suc n)) h b i q = absurd (omega arith)

  origin_one : (o u : From) (p e f : ℕ) → Origin o → Origin u → origin_byte o ≡ origin_byte u → Stand β (origin_bytes o) p e → Stand β (origin_bytes u) p f → o ≡ u
  origin_one the_system the_system p e f g h z v w = refl
  origin_one the_system (the_library n) p e f g h z v w = absurd (omega arith)
  origin_one (the_library m) the_system p e f g h z v w = absurd (omega arith)
  origin_one (the_library m) (the_library n) p e f g h z v w = ap the_library (sym (text_in β p e m g v) ∙ text_in β p f n h w)

  -- ---- entries

  -- where the parts of an entry stand
  record EntryAt (c : Class) (p e : ℕ) : Type 0 where
    origin_at_holds : ℕ
    count_at : ℕ
    first_stands : Stand β (origin_byte c.from ∷ []) p (p + 1)
    name_stands : Stand β (text_bytes c.name) (p + 1) origin_at_holds
    origin_stands : Stand β (origin_bytes c.from) origin_at_holds count_at
    count_stands : Stand β (length c.members ∷ []) count_at (count_at + 1)
    members_stand : Stand β (described_bytes c.members) (count_at + 1) e

  parts_of : (c : Class) (p e : ℕ) → Stand β (entry_bytes c) p e → EntryAt c p e
  parts_of c p e w =
      let rest = length c.members ∷ described_bytes c.members in
      let x = stand_split (text_bytes c.name) (origin_bytes c.from ++ rest) (stand_after w) in
      let y = stand_split (origin_bytes c.from) rest x.2 in
      record {
        origin_at_holds = x.0;
        count_at = y.0;
        first_stands = stand_is (origin_byte c.from) (stand_inside w) (stand_here w);
        name_stands = x.1;
        origin_stands = y.1;
        count_stands = stand_is (length c.members) (stand_inside y.2) (stand_here y.2);
        members_stand = stand_after y.2;
      }

  whole_of : (c : Class) (p e : ℕ) → EntryAt c p e → Stand β (entry_bytes c) p e
  whole_of c p e w =
      stand_then w.first_stands (stand_then w.name_stands (stand_then w.origin_stands (stand_then w.count_stands w.members_stand)))

  pub entry_there : (c : Class) (p e : ℕ) → BookEntry c → e < 4294967296 → Stand β (entry_bytes c) p e → entry_at β p ≡ Ok e
  entry_there c p e g small w =
      let x = parts_of c p e w in
      let n = text_there β (p + 1) x.origin_at_holds c.name g.named x.name_stands in
      let o = origin_there x.origin_at_holds x.count_at c.from g.origin x.origin_stands in
      let m = members_there β c.members (x.count_at + 1) e g.members x.members_stand in
      let k : counted_at β x.count_at ≡ Ok e = counted_members β x.count_at (stand_inside x.count_stands) ∙ rw (stand_here x.count_stands) m in
      let f : get_or β p 0 ≡ origin_byte c.from = stand_here w in
      entry_more β p (Ok e) (stand_inside w) (rw f (origin_small c.from)) (sym (rw (f, n, o) k)) e refl ∙ rw (le-leb e 4294967295 (omega arith))

  -- a good entry from p to e
  pub record EntryRead (p e : ℕ) : Type 0 where
    pub class : Class
    pub good : BookEntry class
    pub stands : Stand β (entry_bytes class) p e
    pub small : e < 4294967296

  pub entry_back : (p e : ℕ) → Bytes β → entry_at β p ≡ Ok e → EntryRead p e
  entry_back p e b q =
      let w = entry_told β p e q in
      let v = name_moves Q.Strict β (p + 1) w.origin_at_holds w.name_ends in
      let n = text_back β (p + 1) w.origin_at_holds b w.name_ends in
      let o = origin_back w.origin_at_holds w.count_at (get_or β p 0) w.first b v.1 w.origin_ends in
      let k = counted_told β w.count_at e w.members_end in
      let m = members_back β (get_or β w.count_at 0) (w.count_at + 1) e b (omega arith) k.1 in
      let c : Class = record { name = n.0; from = o.from; members = m.members } in
      record {
        class = c;
        good = record { named = n.1; origin = o.good; counted = rw m.counted (b w.count_at); members = m.good };
        stands = whole_of c p e (record {
          origin_at_holds = w.origin_at_holds;
          count_at = w.count_at;
          first_stands = stand_is (origin_byte o.from) w.inside (sym o.byte);
          name_stands = n.2;
          origin_stands = o.stands;
          count_stands = stand_is (length m.members) k.0 (sym m.counted);
          members_stand = m.stands;
        });
        small = w.small;
      }

  -- the entry that stands at a place is settled by it
  pub entry_one : (c d : Class) (p e f : ℕ) → BookEntry c → BookEntry d → Stand β (entry_bytes c) p e → Stand β (entry_bytes d) p f → c ≡ d
  entry_one c d p e f g h v w =
      let x = parts_of c p e v in
      let y = parts_of d p f w in
      let a : c.name ≡ d.name =
      sym (text_in β (p + 1) x.origin_at_holds c.name g.named x.name_stands) ∙ text_in β (p + 1) y.origin_at_holds d.name h.named y.name_stands in
      let i : y.origin_at_holds ≡ x.origin_at_holds = stand_size y.name_stands ∙ (ap (λ (t : List ℕ). p + 1 + length (text_bytes t)) (sym a) ∙ sym (stand_size x.name_stands)) in
      let z : origin_byte c.from ≡ origin_byte d.from = sym (stand_here v) ∙ stand_here w in
      let s : Stand β (origin_bytes d.from) x.origin_at_holds y.count_at = rw i at y.origin_stands in
      let o = origin_one c.from d.from x.origin_at_holds x.count_at y.count_at g.origin h.origin z x.origin_stands s in
      let j : y.count_at ≡ x.count_at = stand_size s ∙ (ap (λ (t : From). x.origin_at_holds + length (origin_bytes t)) (sym o) ∙ sym (stand_size x.origin_stands)) in
      let l : length c.members ≡ length d.members = sym (stand_here x.count_stands) ∙ (ap (λ (k : ℕ). get_or β k 0) (sym j) ∙ stand_here y.count_stands) in
      let t : Stand β (described_bytes d.members) (x.count_at + 1) f = rw j at y.members_stand in
      class_of c d a o (members_one β c.members d.members (x.count_at + 1) e f g.members h.members l x.members_stand t)
