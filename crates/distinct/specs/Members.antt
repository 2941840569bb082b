-- The members of a class one after the other: where the first stands, where the next, and what makes two of them the same.
use Rattle.std.specs.Prelude.{ℕ, ◌+◌, Bool, false, List, get_or, eqb}
use Rattle.format.specs.declared.Row.{Row}
use Rattle.format.specs.Bytes.{pick}
use Rattle.format.specs.Types.{after_text, after_info}
use Rattle.marks.specs.Marks.{names_place, infos_place, same_text, same_info, same_members_at}
use Rattle.distinct.specs.declared.Cursor.{Cursor}

abbrev pub first_member : List ℕ → Row → Cursor
first_member s r = record { name = names_place s r; kind = r.slot; info = infos_place r }

abbrev pub next_member : List ℕ → Cursor → Cursor
next_member s a =
    record { name = after_text s a.name; kind = a.kind + 1; info = after_info s (get_or s a.kind 0) a.info }

-- names, type bytes and details, which end at x and y
abbrev pub same_member : List ℕ → List Row → Cursor → ℕ → Cursor → ℕ → Bool
same_member s rows a x b y =
    pick (same_text s a.name b.name)
    (pick (eqb (get_or s a.kind 0) (get_or s b.kind 0)) (same_info s rows (get_or s a.kind 0) a.info x b.info y) false)
    false

abbrev pub same_members : List ℕ → List Row → ℕ → Cursor → Cursor → Bool
same_members s rows n a b = same_members_at s rows n a.name a.kind a.info b.name b.kind b.info
