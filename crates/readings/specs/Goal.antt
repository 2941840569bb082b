-- The rows that come in the end, read on from a state as the grammar asks, and with one record more before them.
use Prim.Native.Nat.{ℕ, suc, ◌+◌}
use Rattle.std.specs.Prelude.{◌≡◌, drop}
use Rattle.std.proofs.Common.{sym, ◌∙◌}
use Rattle.std.proofs.Math.Path.{ap, subst}
use mathlib.Core.List.{List, [], ◌∷◌, ◌++◌, map, append_assoc}
use native.Mathlib.Omega.{arith}
use Rattle.std.proofs.Math.ListN.{length, length-append}
use Rattle.format.specs.Terms.{Terms}
use Rattle.format.specs.declared.Head.{Head}
use Rattle.format.specs.declared.Row.{Row}
use Rattle.format.specs.declared.Frame.{Frame}
use Rattle.format.specs.Contents.{Rec, enc, encs}
use Rattle.format.specs.Grammar.{Entry, cur, row_of, size}
use Rattle.format.specs.Machine.{Open, State}
use Rattle.places.specs.Env.{env_of}
use Rattle.places.specs.Stand.{Stand, stand_size}
use Rattle.places.specs.Recs.{Back, row_with, entry_for, told_env}
use Rattle.readings.specs.Steps.{state_at}
use Rattle.readings.specs.Frames.{open_at}
use Rattle.readings.specs.Rows.{bare, row_bare, good_low}
use Rattle.readings.specs.Rest.{Rest, RestOf}
use Rattle.readings.specs.Fills.{after}

-- the rows after those of the state show records that stand from its place on, and these are what is still to be read
pub record Goal (τ : Terms) (s : List ℕ) (st : State) (final : List Row) : Type 0 where
  pub rs : List Rec
  pub later : List Row
  pub rows_are : final ≡ st.rows ++ later
  pub bytes_are : drop st.at s ≡ encs rs
  pub rest : RestOf τ s st.stack (cur st.at (length st.rows) (env_of τ.book s st.rows) rs (map bare later))

pub same_cur : {at at' row row' : ℕ} {es es' : List Entry} {rs : List Rec} {is : List Row} → at ≡ at' → row ≡ row' → es ≡ es' → cur at row es rs is ≡ cur at' row' es' rs is
same_cur a b c = cc

module _ (τ : Terms) (s : List ℕ) (at : ℕ) (rows : List Row) (f : Frame) (gs : List Frame) (o : Open) where
  pub goal_more : (e : ℕ) (row it : Row) (r : Rec) (es : List Entry) → bare row ≡ it → Stand s (enc r) at e → env_of τ.book s (rows ++ (row ∷ [])) ≡ es
      → ((rs : List Rec) (is : List Row) → RestOf τ s o (cur (at + size r) (suc (length rows)) es rs is) → Rest τ s f gs (cur at (length rows) (env_of τ.book s rows) (r ∷ rs) (it ∷ is)))
      → (final : List Row) → Goal τ s (state_at e (rows ++ (row ∷ [])) o) final → Goal τ s (state_at at rows (open_at f gs)) final
  unfolding encs
  goal_more e row it r es b w v k final g =
      let n : length (rows ++ (row ∷ [])) ≡ suc (length rows) = length-append rows (row ∷ []) ∙ omega arith in
      let q = subst (RestOf τ s o) (same_cur (stand_size w) n v) g.rest in
      record {
        rs = r ∷ g.rs;
        later = row ∷ g.later;
        rows_are = g.rows_are ∙ append_assoc rows (row ∷ []) g.later;
        bytes_are = w.bytes ∙ ap (λ (l : List ℕ). enc r ++ l) g.bytes_are;
        rest = subst (λ (x : Row). Rest τ s f gs (cur at (length rows) (env_of τ.book s rows) (r ∷ g.rs) (x ∷ map bare g.later))) (sym b) (k g.rs (map bare g.later) q);
      }

  -- the record of which good fields tell
  pub back_more : (k : ℕ) (h : Head) (b : Back τ s rows k at h) (own slot : ℕ)
      → ((rs : List Rec) (is : List Row) → RestOf τ s o (after at (length rows) (env_of τ.book s rows) b.rec rs is)
      → Rest τ s f gs (cur at (length rows) (env_of τ.book s rows) (b.rec ∷ rs) (row_of k at b.rec b.id own slot b.class b.count ∷ is)))
      → (final : List Row) → Goal τ s (state_at h.end (rows ++ (row_with k h at h.end own slot ∷ [])) o) final → Goal τ s (state_at at rows (open_at f gs)) final
  back_more k h b own slot =
      goal_more h.end (row_with k h at h.end own slot) (row_of k at b.rec b.id own slot b.class b.count) b.rec (env_of τ.book s rows ++ entry_for (suc (length rows)) b.rec)
      (row_bare b.told (good_low τ b.good) own slot) b.told.stands (told_env b.told rows at h.end own slot)
