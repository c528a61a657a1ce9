-- Lemmas about dropping redundant pairs, for any test that says which pairs are redundant.
use mathlib.Core.Path.{◌≡◌, refl, sym}
use mathlib.Core.Bool.{Bool, true, false, cond, ◌&&◌}
use mathlib.Core.List.{List, [], ◌∷◌, ◌++◌}
use Rattle.text.specs.Text.{equal}
use Rattle.pair_list.specs.Pair.{Pair}
use Rattle.map_spec.specs.Map.{Map, match_source}
use Rattle.map_spec.specs.New.{map_via, is_redundant, drop_redundant, sort_and_drop, canonicalize}

-- The induction rule of dropping. A statement about the kept pairs and the pairs to come that stays true if an implied pair is dropped, and
-- if another is kept, is true of the pairs that are kept in the end, with none to come.
module _ (implies : Map → Pair → Bool) (mark : Bool) (Holds : List Pair → List Pair → Type 0)
    (drops : (kept : List Pair) (x : Pair) (l : List Pair) → implies (record { pairs = kept; mark = mark }) x ≡ true → Holds kept (x ∷ l) → Holds kept l)
    (keeps : (kept : List Pair) (x : Pair) (l : List Pair) → implies (record { pairs = kept; mark = mark }) x ≡ false → Holds kept (x ∷ l) → Holds (kept ++ x ∷ []) l) where
  pub dropped_by : (kept l : List Pair) → Holds kept l → Holds (drop_redundant implies mark kept l) []
  unfolding drop_redundant
  dropped_by kept [] h = h
  dropped_by kept (x ∷ l) h = go (implies (record { pairs = kept; mark = mark }) x) refl (λ k. dropped_by k l)
    where
      go : (b : Bool) → implies (record { pairs = kept; mark = mark }) x ≡ b → ((k : List Pair) → Holds k l → Holds (drop_redundant implies mark k l) [])
          → Holds (drop_redundant implies mark (cond b kept (kept ++ x ∷ [])) l) []
      go true e ih = ih kept (drops kept x l e h)
      go false e ih = ih (kept ++ x ∷ []) (keeps kept x l e h)

-- A single pair needs no rule of its own: without kept pairs only the mark implies it, if its ends are equal.
lone : (mark : Bool) (x : Pair) → is_redundant (record { pairs = []; mark = mark }) x ≡ (mark && equal x.source x.target)
unfolding is_redundant map_via match_source
lone true x = refl
lone false x = refl

-- So the canonical form of every list is the sorted list without the redundant pairs.
pub canonical_keeps : (mark : Bool) (l : List Pair) → canonicalize mark l ≡ sort_and_drop is_redundant mark l
unfolding canonicalize
canonical_keeps mark [] = refl
canonical_keeps mark (x ∷ []) = sym (go (is_redundant (record { pairs = []; mark = mark }) x) (lone mark x))
  where
    go : (t : Bool) → t ≡ (mark && equal x.source x.target) → cond t [] (x ∷ []) ≡ cond (mark && equal x.source x.target) [] (x ∷ [])
    go t h = rw h refl
canonical_keeps mark (x ∷ y ∷ l) = refl
