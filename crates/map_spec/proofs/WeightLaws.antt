-- The pairs of a map have at most the total weight of the pairs it was built from, whatever each pair weighs: no pair is added.
use mathlib.Core.Path.{◌≡◌, refl, ap, ◌∙◌}
use mathlib.Core.Bool.{Bool, true, false, cond, ◌&&◌, ◌||◌}
use mathlib.Core.List.{List, [], ◌∷◌, ◌++◌, map}
use Prim.Native.Nat.{ℕ, ◌+◌, ◌≤◌}
use native.Mathlib.Omega.{arith}
use lib.Dec.{leb}
use lib.ListN.{length}
use Rattle.text.specs.Text.{Text, equal}
use Rattle.path_prefix.specs.Elements.{element_count}
use Rattle.pair_list.specs.Pair.{Pair}
use Rattle.map_spec.specs.Map.{Map}
use Rattle.map_spec.specs.New.{is_root_pair, any_root_pair, without_root_pairs, insert_sorted, sort_by_source, is_redundant, drop_redundant, sort_and_drop, canonicalize, from_parts_by, from_parts}
use Rattle.map_spec.specs.Compose.{has_source}
use Rattle.map_spec.specs.Derive.{without_source, dropping_source}
use Rattle.map_spec.proofs.DropLaws.{dropped_by}

-- The total weight of a list of pairs, for a weight of each pair.
unfoldable pub weight : (Pair → ℕ) → List Pair → ℕ
weight w [] = 0
weight w (x ∷ l) = w x + weight w l

-- A canonical form adds no weight, whatever each pair weighs: it only drops pairs and moves them.
abbrev pub OnlyDrops : (Bool → List Pair → List Pair) → Type 0
OnlyDrops form = (w : Pair → ℕ) (mark : Bool) (l : List Pair) → weight w (form mark l) ≤ weight w l

-- If each pair weighs one, the total weight is the number of pairs.
pub weight_length : (l : List Pair) → weight (λ x. 1) l ≡ length l
unfolding weight
weight_length [] = refl
weight_length (x ∷ l) = omega (arith, weight_length l)

module _ (w : Pair → ℕ) where
  weight_snoc : (x : Pair) (l : List Pair) → weight w (l ++ x ∷ []) ≡ weight w l + w x
  unfolding weight
  weight_snoc x [] = omega arith
  weight_snoc x (y ∷ l) = omega (arith, weight_snoc x l)

  -- The weight of a list after each pair was changed.
  pub weight_map : (f : Pair → Pair) (l : List Pair) → weight w (map f l) ≡ weight (λ x. w (f x)) l
  unfolding weight
  weight_map f [] = refl
  weight_map f (x ∷ l) = ap (λ (n : ℕ). w (f x) + n) (weight_map f l)

  either : (b : Bool) (x y : List Pair) (n : ℕ) → weight w x ≤ n → weight w y ≤ n → weight w (cond b x y) ≤ n
  either true x y n h k = h
  either false x y n h k = k

  no_roots_weight : (l : List Pair) → weight w (without_root_pairs l) ≤ weight w l
  unfolding weight without_root_pairs
  no_roots_weight [] = omega arith
  no_roots_weight (x ∷ l) =
      let ih = no_roots_weight l in
      either (is_root_pair x) (without_root_pairs l) (x ∷ without_root_pairs l) (w x + weight w l) (omega arith) (omega arith)

  insert_weight : (x : Pair) (l : List Pair) → weight w (insert_sorted x l) ≡ w x + weight w l
  unfolding weight insert_sorted
  insert_weight x [] = refl
  insert_weight x (y ∷ l) = go (leb (element_count x.source) (element_count y.source)) (insert_weight x l)
    where
      go : (b : Bool) → weight w (insert_sorted x l) ≡ w x + weight w l → weight w (cond b (x ∷ y ∷ l) (y ∷ insert_sorted x l)) ≡ w x + (w y + weight w l)
      go true ih = refl
      go false ih = omega arith

  sorted_weight : (l : List Pair) → weight w (sort_by_source l) ≡ weight w l
  unfolding weight sort_by_source
  sorted_weight [] = refl
  sorted_weight (x ∷ l) = insert_weight x (sort_by_source l) ∙ ap (λ (n : ℕ). w x + n) (sorted_weight l)

  -- Sorting and dropping add no weight, whatever the test: at every step the kept pairs and those to come weigh at most what the list does.
  pub sorted_dropped_weight : (implies : Map → Pair → Bool) (mark : Bool) (l : List Pair) → weight w (sort_and_drop implies mark l) ≤ weight w l
  unfolding weight sort_and_drop
  sorted_dropped_weight implies mark l =
      let at-end : weight w (drop_redundant implies mark [] (sort_by_source l)) + 0 ≤ weight w l
      = dropped_by implies mark (λ (kept rest : List Pair). weight w kept + weight w rest ≤ weight w l) (λ kept x rest e h. omega arith) (λ kept x rest e h. omega (arith, weight_snoc x kept)) [] (sort_by_source l) (omega (arith, sorted_weight l)) in
      omega arith

  pub canonical_weight : (mark : Bool) (l : List Pair) → weight w (canonicalize mark l) ≤ weight w l
  unfolding weight canonicalize
  canonical_weight mark [] = omega arith
  canonical_weight mark (x ∷ []) = either (mark && equal x.source x.target) [] (x ∷ []) (w x + 0) (omega arith) (omega arith)
  canonical_weight mark (x ∷ y ∷ l) = sorted_dropped_weight is_redundant mark (x ∷ y ∷ l)

  -- Building a map adds no weight if its canonical form adds none.
  pub parts_weight : (form : Bool → List Pair → List Pair) → OnlyDrops form → (l : List Pair) (mark : Bool) → weight w (from_parts_by form l mark).pairs ≤ weight w l
  parts_weight form drops l mark = omega (arith, drops w (mark || any_root_pair l) (without_root_pairs l), no_roots_weight l)

-- So building a map by `from_parts` adds none.
pub from_parts_weight : (w : Pair → ℕ) (l : List Pair) (mark : Bool) → weight w (from_parts l mark).pairs ≤ weight w l
unfolding from_parts
from_parts_weight w = parts_weight w canonicalize canonical_weight

module _ (w : Pair → ℕ) where
  without_source_weight : (s : Text) (l : List Pair) → weight w (without_source s l) ≤ weight w l
  unfolding weight without_source
  without_source_weight s [] = omega arith
  without_source_weight s (x ∷ l) =
      let ih = without_source_weight s l in
      either w (equal x.source s) (without_source s l) (x ∷ without_source s l) (w x + weight w l) (omega arith) (omega arith)

  -- Removing the pairs with a source adds no weight.
  pub dropping_source_weight : (m : Map) (s : Text) → weight w (dropping_source m s).pairs ≤ weight w m.pairs
  unfolding dropping_source
  dropping_source_weight m s = go (has_source m.pairs s)
    where
      go : (b : Bool) → weight w (cond b (from_parts (without_source s m.pairs) m.mark) m).pairs ≤ weight w m.pairs
      go true = omega (arith, from_parts_weight w (without_source s m.pairs) m.mark, without_source_weight s m.pairs)
      go false = omega arith
