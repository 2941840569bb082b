-- The class book (02, (ii)): the classes of which a reader is told beforehand. A book is its entries, one after the other, each a class by content.
use Rattle.std.specs.Prelude.{ℕ, List, [], ◌∷◌, ◌++◌, length}
use Rattle.format.specs.Types.{code_number}
use Rattle.format.specs.Contents.{bytes_in, shortest, Detail, primitive, text, object, system, class, objects, texts, primitives, Member, type_byte, From, the_system, the_library, Class}

-- a text with the shortest prefix: a book is strict under either setting
abbrev pub text_bytes : List ℕ → List ℕ
text_bytes t = bytes_in (shortest t)

-- 0 for a system class; 1 for a class of a library, whose name then follows that of the class
abbrev pub origin_byte : From → ℕ
origin_byte the_system = 0
origin_byte (the_library n) = 1

abbrev pub origin_bytes : From → List ℕ
origin_bytes the_system = []
origin_bytes (the_library n) = text_bytes n

-- the detail of a type is a primitive code or nothing: types 3 and 4, which name a class, stand in no book
abbrev pub code_bytes : Detail (List ℕ) (List ℕ) → List ℕ
code_bytes (primitive c) = code_number c ∷ []
code_bytes text = []
code_bytes object = []
code_bytes (system n) = []
code_bytes (class n l) = []
code_bytes objects = []
code_bytes texts = []
code_bytes (primitives c) = code_number c ∷ []

-- each member: name, type byte, detail
abbrev pub described_bytes : List (Member (List ℕ) (List ℕ)) → List ℕ
described_bytes [] = []
described_bytes (m ∷ ms) = text_bytes m.name ++ (type_byte m.type ∷ (code_bytes m.type ++ described_bytes ms))

-- an entry: the first byte, class name, library name, a member count in one byte, members
abbrev pub entry_bytes : Class → List ℕ
entry_bytes c =
    origin_byte c.from ∷ (text_bytes c.name ++ (origin_bytes c.from ++ (length c.members ∷ described_bytes c.members)))

unfoldable pub book_bytes : List Class → List ℕ
book_bytes [] = []
book_bytes (c ∷ cs) = entry_bytes c ++ book_bytes cs
