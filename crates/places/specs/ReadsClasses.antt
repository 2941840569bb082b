-- Class records that the grammar takes are read (01, Records, kinds 1, 4 and 5): their fields are good, and say what the record has.
use Rattle.std.specs.Prelude.{ℕ, ◌+◌, ◌-◌, ◌<◌, ◌≡◌, Bool, length, get_or, Ok}
use Rattle.std.proofs.Math.Path.{refl, ap, subst}
use Rattle.std.proofs.Math.Bool.{true, false}
use mathlib.Core.List.{List, [], ◌∷◌, ◌++◌}
use Rattle.format.specs.Terms.{Terms}
use Rattle.format.specs.declared.SlotType.{SlotType}
use Rattle.format.specs.declared.Row.{Row}
use Rattle.format.specs.Numbers.{le_bytes}
use Rattle.format.specs.Rows.{blank, class_row}
use Rattle.format.specs.Records.{after_infos, members_at, class_at, first_type, class_by_id_at, heading_at}
use Rattle.format.specs.Contents.{Prefixed, Member, class_bytes, class_by_id, system_class, library_class, enc}
use Rattle.format.specs.Grammar.{a_class, ClassId, LibraryId, ClassInfo, types_of, classed, class_of}
use Rattle.class_info.specs.Stages.{named_class_at}
use Rattle.places.specs.Env.{types_at, env_of, class_told, class_id_good}
use Rattle.places.specs.Stand.{Stand, stand_split, stand_inside, stand_here, stand_after}
use Rattle.places.specs.Fields.{number_there}
use Rattle.places.specs.Details.{library_there}
use Rattle.places.specs.Classes.{ClassEnds, class_there}
use Rattle.places.specs.Recs.{There, class_head, class_head_told, by_id_head, by_id_told}

module _ (τ : Terms) (s : List ℕ) (rows : List Row) (at e : ℕ) where
  -- the fields after the ObjectId of a class record, of either kind
  named_there : (own : Bool) (id p x : ℕ) (n : Prefixed) (ms : List (Member Prefixed ℕ)) (c : ClassEnds τ s rows n ms p x) → after_infos own s rows x ≡ Ok e
      → named_class_at τ.setting s rows own id p ≡ Ok (class_head τ.book s id (length ms) c.types_at_holds c.infos_at_holds e)
  unfolding named_class_at members_at
  named_there own id p x n ms c f = rw (c.name_end, c.count_is, c.fits, c.names_end, c.types_end, c.infos_end, f)

  pub system_class_there : (i : ℕ) (n : Prefixed) (ms : List (Member Prefixed ℕ)) → ClassId i (env_of τ.book s rows) → ClassInfo τ (env_of τ.book s rows) n ms
      → Stand s (enc (system_class i n ms)) at e → There τ s rows 4 at (system_class i n ms) i (length ms) 0 (types_of ms)
  unfolding heading_at class_at named_class_at enc first_type types_at
  system_class_there i n ms g f w =
      let x = stand_split (le_bytes 4 i) (class_bytes n ms) (stand_after w) in
      let c = class_there τ s rows n ms x.0 e f x.2 in
      let a = c.class_at_holds in
      record {
        head = class_head τ.book s i (length ms) c.types_at_holds c.infos_at_holds e;
        taken = rw (number_there s i (at + 1) x.0 g.bits x.1, class_id_good τ.book s rows i g) (named_there false i x.0 e n ms c refl);
        told = class_head_told τ.book s 4 at (system_class i n ms) i (length ms) c.types_at_holds c.infos_at_holds e ms w (stand_inside w) (stand_here w) refl refl a.slots
            (λ row offset next owner slot. ap (λ (ts : List SlotType). a_class i row ts ∷ []) a.known);
      }

  pub library_class_there : (i : ℕ) (n : Prefixed) (ms : List (Member Prefixed ℕ)) (l : ℕ) → ClassId i (env_of τ.book s rows) → ClassInfo τ (env_of τ.book s rows) n ms
      → LibraryId l (env_of τ.book s rows) → Stand s (enc (library_class i n ms l)) at e
      → There τ s rows 5 at (library_class i n ms l) i (length ms) 0 (types_of ms)
  unfolding heading_at class_at named_class_at enc first_type types_at
  library_class_there i n ms l g f k w =
      let x = stand_split (le_bytes 4 i) (class_bytes n ms ++ le_bytes 4 l) (stand_after w) in
      let y = stand_split (class_bytes n ms) (le_bytes 4 l) x.2 in
      let c = class_there τ s rows n ms x.0 y.0 f y.1 in
      let a = c.class_at_holds in
      record {
        head = class_head τ.book s i (length ms) c.types_at_holds c.infos_at_holds e;
        taken = rw (number_there s i (at + 1) x.0 g.bits x.1, class_id_good τ.book s rows i g)
            (named_there true i x.0 y.0 n ms c (library_there τ.book s rows y.0 e l k y.2));
        told = class_head_told τ.book s 5 at (library_class i n ms l) i (length ms) c.types_at_holds c.infos_at_holds e ms w (stand_inside w) (stand_here w) refl refl a.slots
            (λ row offset next owner slot. ap (λ (ts : List SlotType). a_class i row ts ∷ []) a.known);
      }

  pub class_by_id_there : (i k row : ℕ) (ts : List SlotType) → ClassId i (env_of τ.book s rows) → k < 4294967296 → class_of k (env_of τ.book s rows) ≡ classed row ts
      → Stand s (enc (class_by_id i k)) at e → There τ s rows 1 at (class_by_id i k) i (length ts) row ts
  unfolding heading_at class_by_id_at enc
  class_by_id_there i k row ts g b q w =
      let x = stand_split (le_bytes 4 i) (le_bytes 4 k) (stand_after w) in
      let c = class_told τ.book s rows k row ts q in
      subst (λ (m : ℕ). There τ s rows 1 at (class_by_id i k) i (length ts) m ts) c.1
      (subst (λ (us : List SlotType). There τ s rows 1 at (class_by_id i k) i (length us) (class_row k rows) us) c.2
      (record {
        head = by_id_head τ.book s i e (class_row k rows) (get_or rows (class_row k rows - 1) blank);
        taken = rw (number_there s i (at + 1) x.0 g.bits x.1, class_id_good τ.book s rows i g, number_there s k x.0 e b x.2, c.0);
        told = by_id_told τ.book s at i k e (class_row k rows) (get_or rows (class_row k rows - 1) blank) w (stand_inside w) (stand_here w);
      }))
