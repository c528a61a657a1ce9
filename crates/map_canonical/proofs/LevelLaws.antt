-- The theorem that going through the levels in turn is the stable sort by source elements.
use mathlib.Core.Path.{◌≡◌, refl, sym, ap, ◌∙◌}
use mathlib.Core.Bool.{Bool, true, false, cond}
use mathlib.Core.List.{List, [], ◌∷◌, ◌++◌, append_assoc, map, map-append}
use Prim.Native.Nat.{ℕ, zero, suc, ◌≤◌, ◌<◌}
use native.Mathlib.Omega.{arith}
use native.Mathlib.Decide.{ℕ_discrete}
use lib.Dec.{eqb, leb}
use lib.ListN.{length, length-append}
use borrow.Author.Tests.{eq-eqb, ne_eqb, le-leb, lt-leb}
use Rattle.path_prefix.specs.Elements.{element_count}
use Rattle.pair_list.specs.Pair.{Pair}
use Rattle.map_spec.specs.New.{insert_sorted, sort_by_source, is_root_pair, without_root_pairs}
use Rattle.map_canonical.specs.ByKey.{with_key, by_key}

-- The levels of a list of any type.
module _ {A : Type 0} (key : A → ℕ) where
  level_nil : (e : ℕ) → with_key key e [] ≡ []
  unfolding with_key
  level_nil e = refl

  level_in : (e : ℕ) (x : A) (l : List A) → key x ≡ e → with_key key e (x ∷ l) ≡ x ∷ with_key key e l
  unfolding with_key
  level_in e x l h = rw (eq-eqb (key x) e h)

  level_out : (e : ℕ) (x : A) (l : List A) → (key x ≡ e → ⊥) → with_key key e (x ∷ l) ≡ with_key key e l
  unfolding with_key
  level_out e x l h = rw (ne_eqb (key x) e h)

  levels_suc : (e : ℕ) (l : List A) → by_key key (suc e) l ≡ by_key key e l ++ with_key key e l
  unfolding by_key
  levels_suc e l = refl

  levels_nil : (e : ℕ) → by_key key e [] ≡ []
  unfolding by_key
  levels_nil zero = refl
  levels_nil (suc e) = rw (levels_nil e, level_nil e)

  -- An item above the levels is in none of them.
  levels_above : (e : ℕ) (x : A) (l : List A) → e ≤ key x → by_key key e (x ∷ l) ≡ by_key key e l
  unfolding by_key
  levels_above zero x l h = refl
  levels_above (suc e) x l h = rw (levels_above e x l (omega arith), level_out e x l (λ k. omega arith))

  -- One more item in a list adds at most one item to its levels.
  more : (x : A) (e : ℕ) (l : List A) → length (by_key key e (x ∷ l)) ≤ suc (length (by_key key e l))
  unfolding by_key
  more x zero l = omega arith
  more x (suc e) l = elim (ℕ_discrete (key x) e) [
    | yes k ↦ rw (levels_above e x l (omega arith), level_in e x l k, length-append (by_key key e l) (x ∷ with_key key e l), length-append (by_key key e l) (with_key key e l)) (omega arith)
    | no k ↦ rw (level_out e x l k, length-append (by_key key e (x ∷ l)) (with_key key e l), length-append (by_key key e l) (with_key key e l)) (omega (arith, more x e l))
  ]

  pub levels_few : (e : ℕ) (l : List A) → length (by_key key e l) ≤ length l
  levels_few e [] = rw (levels_nil e) (omega arith)
  levels_few e (x ∷ l) = omega (arith, more x e l, levels_few e l)

  pub level_append : (e : ℕ) (a b : List A) → with_key key e (a ++ b) ≡ with_key key e a ++ with_key key e b
  unfolding with_key
  level_append e [] b = refl
  level_append e (x ∷ a) b = go (eqb (key x) e) (level_append e a b)
    where
      go : (t : Bool) → with_key key e (a ++ b) ≡ with_key key e a ++ with_key key e b → cond t (x ∷ with_key key e (a ++ b)) (with_key key e (a ++ b)) ≡ cond t (x ∷ with_key key e a) (with_key key e a) ++ with_key key e b
      go true ih = ap (λ (z : List A). x ∷ z) ih
      go false ih = ih

-- The levels of a list after each item was mapped.
module _ {A B : Type 0} (f : A → B) (key : B → ℕ) where
  level_map : (e : ℕ) (l : List A) → map f (with_key (λ (x : A). key (f x)) e l) ≡ with_key key e (map f l)
  unfolding with_key
  level_map e [] = refl
  level_map e (x ∷ l) = go (eqb (key (f x)) e) (level_map e l)
    where
      here : List A
      here = with_key (λ (y : A). key (f y)) e l

      go : (t : Bool) → map f here ≡ with_key key e (map f l) → map f (cond t (x ∷ here) here) ≡ cond t (f x ∷ with_key key e (map f l)) (with_key key e (map f l))
      go true ih = ap (λ (z : List B). f x ∷ z) ih
      go false ih = ih

  pub levels_map : (e : ℕ) (l : List A) → map f (by_key (λ (x : A). key (f x)) e l) ≡ by_key key e (map f l)
  unfolding by_key
  levels_map zero l = refl
  levels_map (suc e) l =
      map-append f (by_key (λ (x : A). key (f x)) e l) (with_key (λ (x : A). key (f x)) e l) ∙ rw (levels_map e l, level_map e l) refl

-- The key of a pair: the number of elements of its source.
abbrev pub key : Pair → ℕ
key x = element_count x.source

-- The equations of `insert_sorted`, for use without unfolding it.
insert_nil : (x : Pair) → insert_sorted x [] ≡ x ∷ []
unfolding insert_sorted
insert_nil x = refl

insert_here : (x y : Pair) (l : List Pair) → key x ≤ key y → insert_sorted x (y ∷ l) ≡ x ∷ y ∷ l
unfolding insert_sorted
insert_here x y l h = rw (le-leb (key x) (key y) h)

insert_on : (x y : Pair) (l : List Pair) → key y < key x → insert_sorted x (y ∷ l) ≡ y ∷ insert_sorted x l
unfolding insert_sorted
insert_on x y l h = rw (lt-leb (key x) (key y) h)

-- A pair is inserted after a lower level.
pass : (x : Pair) (e : ℕ) (l b : List Pair) → e < key x → insert_sorted x (with_key key e l ++ b) ≡ with_key key e l ++ insert_sorted x b
pass x e [] b h = rw (level_nil key e)
pass x e (y ∷ l) b h = elim (ℕ_discrete (key y) e) [
  | yes k ↦ rw (level_in key e y l k) (insert_on x y (with_key key e l ++ b) (omega arith) ∙ ap (λ (z : List Pair). y ∷ z) (pass x e l b h))
  | no k ↦ rw (level_out key e y l k) (pass x e l b h)
]

pass_all : (x : Pair) (e : ℕ) (l b : List Pair) → e ≤ key x → insert_sorted x (by_key key e l ++ b) ≡ by_key key e l ++ insert_sorted x b
unfolding by_key
pass_all x zero l b h = refl
pass_all x (suc e) l b h =
    ap (insert_sorted x) (append_assoc (by_key key e l) (with_key key e l) b)
    ∙ pass_all x e l (with_key key e l ++ b) (omega arith)
    ∙ ap (λ (z : List Pair). by_key key e l ++ z) (pass x e l b (omega arith))
    ∙ sym (append_assoc (by_key key e l) (with_key key e l) (insert_sorted x b))

-- A pair is inserted before its own level and before a higher one.
first : (x : Pair) (e : ℕ) (l : List Pair) → key x ≤ e → insert_sorted x (with_key key e l) ≡ x ∷ with_key key e l
first x e [] h = rw (level_nil key e) (insert_nil x)
first x e (y ∷ l) h = elim (ℕ_discrete (key y) e) [
  | yes k ↦ rw (level_in key e y l k) (insert_here x y (with_key key e l) (omega arith))
  | no k ↦ rw (level_out key e y l k) (first x e l h)
]

-- If a pair would be inserted at the front of b, inserting it into a ++ b inserts it into a.
before : (x : Pair) (a b : List Pair) → insert_sorted x b ≡ x ∷ b → insert_sorted x (a ++ b) ≡ insert_sorted x a ++ b
unfolding insert_sorted
before x [] b h = h
before x (y ∷ a) b h = go (leb (key x) (key y)) (before x a b h)
  where
    go : (t : Bool) → insert_sorted x (a ++ b) ≡ insert_sorted x a ++ b → cond t (x ∷ y ∷ (a ++ b)) (y ∷ insert_sorted x (a ++ b)) ≡ cond t (x ∷ y ∷ a) (y ∷ insert_sorted x a) ++ b
    go true ih = refl
    go false ih = ap (λ (z : List Pair). y ∷ z) ih

insert_levels : (x : Pair) (e : ℕ) (l : List Pair) → key x < e → insert_sorted x (by_key key e l) ≡ by_key key e (x ∷ l)
insert_levels x zero l h = absurd (omega arith)
insert_levels x (suc e) l h = elim (ℕ_discrete (key x) e) [
  | yes k ↦ rw (levels_suc key e l, levels_suc key e (x ∷ l), levels_above key e x l (omega arith), level_in key e x l k) (pass_all x e l (with_key key e l) (omega arith) ∙ ap (λ (z : List Pair). by_key key e l ++ z) (first x e l (omega arith)))
  | no k ↦ rw (levels_suc key e l, levels_suc key e (x ∷ l), level_out key e x l k, ← insert_levels x e l (omega arith)) (before x (by_key key e l) (with_key key e l) (first x e l (omega arith)))
]

-- Every source has fewer than e elements.
unfoldable pub Below : ℕ → List Pair → Type 0
Below e [] = Unit {0}
Below e (x ∷ l) = (element_count x.source < e) × Below e l

pub sorted_levels : (e : ℕ) (l : List Pair) → Below e l → sort_by_source l ≡ by_key key e l
unfolding sort_by_source Below
sorted_levels e [] b = sym (levels_nil key e)
sorted_levels e (x ∷ l) b = ap (insert_sorted x) (sorted_levels e l b.1) ∙ insert_levels x e l b.0

pub no_roots_append : (a b : List Pair) → without_root_pairs (a ++ b) ≡ without_root_pairs a ++ without_root_pairs b
unfolding without_root_pairs
no_roots_append [] b = refl
no_roots_append (x ∷ a) b = go (is_root_pair x) (no_roots_append a b)
  where
    go : (t : Bool) → without_root_pairs (a ++ b) ≡ without_root_pairs a ++ without_root_pairs b → cond t (without_root_pairs (a ++ b)) (x ∷ without_root_pairs (a ++ b)) ≡ cond t (without_root_pairs a) (x ∷ without_root_pairs a) ++ without_root_pairs b
    go true ih = ih
    go false ih = ap (λ (z : List Pair). x ∷ z) ih
