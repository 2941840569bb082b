-- How the reader holds the open objects: the frame of the innermost one in the reader, the frames around it in words, six to a frame.
use Rattle.std.specs.Prelude.{ℕ, zero, suc, ◌+◌, ◌*◌, ◌≤◌, ◌≡◌, List, [], ◌∷◌, length, get_or}
use Rattle.format.specs.declared.Frame.{Frame}
use Rattle.format.specs.declared.Reader.{Reader}
use Rattle.format.specs.Machine.{Open}
use Rattle.slot_words.specs.Words.{slot_from}

-- the frame saved at index d
unfoldable pub frame_at : List ℕ → ℕ → Frame
frame_at f d =
    record {
      owner = get_or f (6 * d) 0;
      count = get_or f (6 * d + 1) 0;
      left = get_or f (6 * d + 2) 0;
      typed = record { slot = slot_from (get_or f (6 * d + 3) 0); types = get_or f (6 * d + 4) 0; infos = get_or f (6 * d + 5) 0 };
    }

-- the d frames that are saved, the last one first
unfoldable pub saved : List ℕ → ℕ → List Frame
saved f zero = []
saved f (suc d) = frame_at f d ∷ saved f d

abbrev pub open_of : List ℕ → Reader → Open
open_of f m = record { cur = m.top; below = saved f m.depth }

-- r holds the open objects o at the saved frames f, at the place and with the rows of m, and no deeper than m
pub record Holds (f : List ℕ) (m r : Reader) (o : Open) : Type 0 where
  pub stack : open_of f r ≡ o
  pub place : r.at ≡ m.at
  pub rows : r.rows ≡ m.rows
  pub shallow : r.depth ≤ m.depth

-- the same for r with one frame more than m
pub record Deeper (f : List ℕ) (m r : Reader) (o : Open) : Type 0 where
  pub sized : length f ≡ 384
  pub stack : open_of f r ≡ o
  pub place : r.at ≡ m.at
  pub rows : r.rows ≡ m.rows
  pub deep : r.depth ≡ m.depth + 1
