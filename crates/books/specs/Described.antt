-- The members of an entry of a class book at a place (02, (ii)): what is written is read, what is read is written so, and in no other way.
use Prim.Native.Nat.{ℕ, zero, suc, ◌+◌, ◌≤◌}
use Rattle.std.specs.Prelude.{◌≡◌, refl, List, [], ◌∷◌, ◌++◌, length, get_or, Ok}
use Rattle.std.proofs.Common.{sym, ap₂, ◌∙◌, arith}
use Rattle.std.proofs.Math.Path.{ap}
use Rattle.format.specs.Values.{times}
use Rattle.format.specs.Types.{type_byte_at}
use Rattle.format.specs.Contents.{Detail, Member, type_byte}
use Rattle.format.specs.Book.{text_bytes, code_bytes, described_bytes}
use Rattle.format.specs.Entries.{described_at}
use Rattle.format.specs.Grammar.{Characters, Coded, Described, all_described, described}
use Rattle.fields.specs.Sequence.{through}
use Rattle.num.specs.Le.{Bytes}
use Rattle.codes.specs.Ends.{type_end}
use Rattle.book.specs.Moves.{described_told, described_moves, described_more}
use Rattle.places.specs.Stand.{Stand, stand_size, stand_none, stand_is, stand_then, stand_split, stand_inside, stand_here, stand_after}
use Rattle.books.specs.Texts.{text_there, text_in, text_back, detail_at, coded_small, detail_there, detail_in_lem, detail_back}

-- ---- one member

module _ (β : List ℕ) where
  -- a good member from p to e; its type byte stands at type
  record MemberAt (m : Member (List ℕ) (List ℕ)) (p e : ℕ) : Type 0 where
    type : ℕ
    name_stands : Stand β (text_bytes m.name) p type
    type_stands : Stand β (type_byte m.type ∷ []) type (type + 1)
    info_stands : Stand β (code_bytes m.type) (type + 1) e
    named : Characters m.name
    coded : Coded m.type

  member_there : (m : Member (List ℕ) (List ℕ)) (p e : ℕ) → MemberAt m p e → described_at β p ≡ Ok e
  member_there m p e w =
      let q = w.type in
      let f : get_or β q 0 ≡ type_byte m.type = stand_here w.type_stands in
      let n = text_there β p q m.name w.named w.name_stands in
      let t : type_byte_at β q ≡ Ok (q + 1) = type_end β q (stand_inside w.type_stands) (rw f (coded_small w.coded)) in
      described_more β p (Ok q) (sym n) q refl ∙ rw (t, f) (detail_there β (q + 1) e m.type w.coded w.info_stands)

  member_back : (p e : ℕ) → Bytes β → described_at β p ≡ Ok e → (m : Member (List ℕ) (List ℕ)) × MemberAt m p e
  member_back p e b q =
      let w = described_told β p e q in
      let t = w.type in
      let n = text_back β p t b w.name_ends in
      let d = detail_back β (t + 1) e (get_or β t 0) w.known (omega (arith, w.inside)) w.info_ends in (
        record { name = n.0; type = detail_at β (get_or β t 0) (t + 1) },
        record {
          type = t;
          name_stands = n.2;
          type_stands = stand_is (type_byte (detail_at β (get_or β t 0) (t + 1))) w.inside (sym d.byte);
          info_stands = d.stands;
          named = n.1;
          coded = d.good;
        },
      )

  -- the members that stand at a place are settled by it
  member_one : (m n : Member (List ℕ) (List ℕ)) (p e f : ℕ) → MemberAt m p e → MemberAt n p f → m ≡ n
  member_one m n p e f v w =
      let a : m.name ≡ n.name = sym (text_in β p v.type m.name v.named v.name_stands) ∙ text_in β p w.type n.name w.named w.name_stands in
      let x = stand_size v.name_stands in
      let y = stand_size w.name_stands in
      let z : v.type ≡ w.type = x ∙ (ap (λ (t : List ℕ). p + length (text_bytes t)) a ∙ sym y) in
      let i : type_byte m.type ≡ type_byte n.type = sym (stand_here v.type_stands) ∙ (ap (λ (k : ℕ). get_or β k 0) z ∙ stand_here w.type_stands) in
      let j = detail_in_lem β (v.type + 1) e m.type v.coded v.info_stands in
      let k = detail_in_lem β (w.type + 1) f n.type w.coded w.info_stands in
      let g : m.type ≡ n.type = sym j ∙ (ap₂ (λ (b q : ℕ). detail_at β b (q + 1)) i z ∙ k) in
      ap₂ (λ (x : List ℕ) (d : Detail (List ℕ) (List ℕ)). record { name = x; type = d }) a g

  -- ---- members one after the other

  first_of : (m : Member (List ℕ) (List ℕ)) (ms : List (Member (List ℕ) (List ℕ))) (p e : ℕ) → Characters m.name → Coded m.type
      → Stand β (described_bytes (m ∷ ms)) p e → (k : ℕ) × MemberAt m p k × Stand β (described_bytes ms) k e
  first_of m ms p e g d w =
      let x = stand_split (text_bytes m.name) (type_byte m.type ∷ (code_bytes m.type ++ described_bytes ms)) w in
      let y = stand_split (code_bytes m.type) (described_bytes ms) (stand_after x.2) in (
        y.0,
        record {
          type = x.0;
          name_stands = x.1;
          type_stands = stand_is (type_byte m.type) (stand_inside x.2) (stand_here x.2);
          info_stands = y.1;
          named = g;
          coded = d;
        },
        y.2,
      )

  more_of_lem : (m : Member (List ℕ) (List ℕ)) (ms : List (Member (List ℕ) (List ℕ))) (p k e : ℕ) → MemberAt m p k → Stand β (described_bytes ms) k e
      → Stand β (described_bytes (m ∷ ms)) p e
  more_of_lem m ms p k e v w = stand_then v.name_stands (stand_then v.type_stands (stand_then v.info_stands w))

  pub members_there : (ms : List (Member (List ℕ) (List ℕ))) (p e : ℕ) → Described ms → Stand β (described_bytes ms) p e
      → times (described_at β) (length ms) p ≡ Ok e
  unfolding times
  members_there ms p e all_described w = let k = stand_size w in ap Ok (omega arith)
  members_there ms p e (described {m = m} {ms = rest} g d more) w =
      let x = first_of m rest p e g d w in
      rw (member_there m p x.0 x.1) (members_there rest x.0 e more x.2)

  -- n good members from p to e
  pub record MembersRead (n p e : ℕ) : Type 0 where
    pub members : List (Member (List ℕ) (List ℕ))
    pub good : Described members
    pub counted : length members ≡ n
    pub stands : Stand β (described_bytes members) p e

  pub members_back : (n p e : ℕ) → Bytes β → p ≤ length β → times (described_at β) n p ≡ Ok e → MembersRead n p e
  unfolding times
  members_back zero p e b h q =
      let z : p ≡ e = cc in
      rw (← z) (record { members = []; good = all_described; counted = refl; stands = stand_none h })
  members_back (suc n) p e b h q =
      let x = through (times (described_at β) n) (described_at β p) e q in
      let v = described_moves β p x.0 x.1 in
      let m = member_back p x.0 b x.1 in
      let r = members_back n x.0 e b v.1 x.2 in
      record {
        members = m.0 ∷ r.members;
        good = described m.1.named m.1.coded r.good;
        counted = ap suc r.counted;
        stands = more_of_lem m.0 r.members p x.0 e m.1 r.stands;
      }

  pub members_one : (ms ns : List (Member (List ℕ) (List ℕ))) (p e f : ℕ) → Described ms → Described ns → length ms ≡ length ns
      → Stand β (described_bytes ms) p e → Stand β (described_bytes ns) p f → ms ≡ ns
  members_one ms ns p e f all_described all_described l v w = refl
  members_one ms ns p e f all_described (described g d more) l v w = absurd (omega arith)
  members_one ms ns p e f (described g d more) all_described l v w = absurd (omega arith)
  members_one ms ns p e f (described {m = m} {ms = ms2} g d more) (described {m = n} {ms = ns2} i j others) l v w =
      let x = first_of m ms2 p e g d v in
      let y = first_of n ns2 p f i j w in
      let a = member_there m p x.0 x.1 in
      let b = member_there n p y.0 y.1 in
      let z : y.0 ≡ x.0 = cc in
      let same = member_one m n p x.0 y.0 x.1 y.1 in
      let rest : Stand β (described_bytes ns2) x.0 f = rw z at y.2 in
      ap₂ (λ (k : Member (List ℕ) (List ℕ)) (ks : List (Member (List ℕ) (List ℕ))). k ∷ ks) same (members_one ms2 ns2 x.0 e f more others (omega arith) x.2 rest)
