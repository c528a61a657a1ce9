-- Lemmas about entries in a buffer, and about writing at a later offset.
use mathlib.Core.Path.{◌≡◌, sym, ap, ◌∙◌}
use mathlib.Core.List.{List, ◌++◌}
use Prim.Native.Nat.{ℕ, ◌+◌, ◌-◌, ◌≤◌, ◌<◌}
use native.Mathlib.Omega.{arith}
use lib.ListN.{length, get_or, take, drop, length-drop, take-append-drop}
use lib.Seq.{length-take-le, take-append_seam, take-append-le, drop-append-le, drop_at, get_or-take, get_or-drop}
use Rattle.text.specs.Text.{written_at}
use Rattle.frames_memory.specs.Represents.{StoredAt}

-- The entries below an offset do not depend on those after it.
module _ (mem : List ℕ) (b n at : ℕ) (h : at + n ≤ b) (r : b ≤ length mem) where
  from_below : (after : List ℕ) → take n (drop at (take b mem ++ after)) ≡ take n (drop at (take b mem))
  from_below after =
      let l : length (take b mem) ≡ b = length-take-le b mem r in
      let d : length (drop at (take b mem)) ≡ length (take b mem) - at = length-drop at (take b mem) in
      ap (take n) (drop-append-le at (take b mem) after (omega arith)) ∙ take-append-le n (drop at (take b mem)) after (omega arith)

  below : (t : List ℕ) → take n (drop at (written_at b t mem)) ≡ take n (drop at mem)
  below t =
      from_below (t ++ drop (b + length t) mem) ∙ sym (from_below (drop b mem)) ∙ ap (λ (x : List ℕ). take n (drop at x)) (take-append-drop b mem)

pub stored_still : (mem s t : List ℕ) (at b : ℕ) → at + length s ≤ b → b ≤ length mem → StoredAt mem at s → StoredAt (written_at b t mem) at s
stored_still mem s t at b h r e = below mem b (length s) at h r t ∙ e

-- Entries that were written are there.
pub stored_written : (mem t : List ℕ) (b : ℕ) → b ≤ length mem → StoredAt (written_at b t mem) b t
stored_written mem t b r =
    ap (take (length t)) (drop_at (take b mem) (t ++ drop (b + length t) mem) b (length-take-le b mem r)) ∙ take-append_seam t (drop (b + length t) mem)

-- The buffer in three pieces, and its entries one by one.
module _ (mem s : List ℕ) (at : ℕ) (e : StoredAt mem at s) where
  pub stored_first : drop at mem ≡ s ++ drop (length s) (drop at mem)
  stored_first = sym (take-append-drop (length s) (drop at mem)) ∙ ap (λ (x : List ℕ). x ++ drop (length s) (drop at mem)) e

  pub stored_split : mem ≡ take at mem ++ (s ++ drop (length s) (drop at mem))
  stored_split = sym (take-append-drop at mem) ∙ ap (λ (x : List ℕ). take at mem ++ x) stored_first

  pub stored_at : (i : ℕ) → i < length s → get_or mem (at + i) 0 ≡ get_or s i 0
  stored_at i h = sym (get_or-drop at mem i 0) ∙ sym (get_or-take (length s) (drop at mem) i 0 h) ∙ ap (λ (x : List ℕ). get_or x i 0) e
