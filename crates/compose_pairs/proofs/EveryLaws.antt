-- Lemmas about every end of a composed list, from what plain mapping makes of each end.
use Rattle.std.specs.Prelude.{Option, Some, None}
use Rattle.std.specs.Option.{unwrap_or}
use mathlib.Core.Path.{◌≡◌, refl}
use mathlib.Core.Bool.{Bool, true, false, cond}
use mathlib.Core.List.{List, [], ◌∷◌, ◌++◌, map}
use Rattle.text.specs.Text.{Text, is_nil}
use Rattle.text.proofs.BoolLaws.{and_l, and_r}
use Rattle.pair_list.specs.Pair.{Pair, every_end}
use Rattle.map_spec.specs.Map.{Map, map_source_to_target, map_target_to_source}
use Rattle.map_spec.specs.Compose.{composed_pair, has_source, add_if_new_source, pulled_back, composed_pairs}

-- If the ends of both maps are `ok`, and plain mapping takes such ends to texts that pass, every end of the composed list `passes`.
module _ (ok passes : Text → Bool) (weaker : (t : Text) → ok t ≡ true → passes t ≡ true) (nil : passes [] ≡ true) where
  abbrev Makes : (Text → Option Text) → Type 0
  Makes f = (t q : Text) → ok t ≡ true → f t ≡ Some q → passes q ≡ true

  -- The first half of the list.
  composed_passes : (m : Map) → Makes (map_source_to_target m) → (x : Pair) → ok x.target ≡ true → passes (composed_pair m x).target ≡ true
  unfolding composed_pair
  composed_passes m f x e = go (is_nil x.target)
    where
      some_passes : (o : Option Text) → ((q : Text) → o ≡ Some q → passes q ≡ true) → passes (unwrap_or o []) ≡ true
      some_passes None g = nil
      some_passes (Some q) g = g q refl

      go : (b : Bool) → passes (cond b [] (unwrap_or (map_source_to_target m x.target) [])) ≡ true
      go true = nil
      go false = some_passes (map_source_to_target m x.target) (λ q. f x.target q e)

  first_half : (m : Map) → Makes (map_source_to_target m) → (l : List Pair) → every_end ok l ≡ true → every_end passes (map (composed_pair m) l) ≡ true
  unfolding every_end composed_pair
  first_half m f [] e = refl
  first_half m f (x ∷ l) e =
      let s : ok x.source ≡ true = search (and_l, and_r) in
      let t : ok x.target ≡ true = search (and_l, and_r) in
      rw (weaker x.source s, composed_passes m f x t) (first_half m f l (search (and_l, and_r)))

  -- The second half of the list.
  one_more : (l : List Pair) (s t : Text) → every_end passes l ≡ true → passes s ≡ true → passes t ≡ true → every_end passes (l ++ record { source = s; target = t } ∷ []) ≡ true
  unfolding every_end
  one_more [] s t e h k = rw (h, k)
  one_more (y ∷ l) s t e h k =
      let a : passes y.source ≡ true = search (and_l, and_r) in
      let b : passes y.target ≡ true = search (and_l, and_r) in
      rw (a, b) (one_more l s t (search (and_l, and_r)) h k)

  added_passes : (l : List Pair) (t : Text) (o : Option Text) → every_end passes l ≡ true → passes t ≡ true → ((q : Text) → o ≡ Some q → passes q ≡ true)
      → every_end passes (add_if_new_source l t o) ≡ true
  unfolding add_if_new_source
  added_passes l t None e h f = e
  added_passes l t (Some s) e h f = go (has_source l s)
    where
      go : (b : Bool) → every_end passes (cond b l (l ++ record { source = s; target = t } ∷ [])) ≡ true
      go true = e
      go false = one_more l s t e (f s refl) h

  pulled_passes : (m : Map) → Makes (map_target_to_source m) → (l xs : List Pair) → every_end passes l ≡ true → every_end ok xs ≡ true → every_end passes (pulled_back m l xs) ≡ true
  unfolding pulled_back every_end
  pulled_passes m f l [] e h = e
  pulled_passes m f l (x ∷ xs) e h =
      let s : ok x.source ≡ true = search (and_l, and_r) in
      let t : ok x.target ≡ true = search (and_l, and_r) in
      pulled_passes m f (add_if_new_source l x.target (map_target_to_source m x.source)) xs
      (added_passes l x.target (map_target_to_source m x.source) e (weaker x.target t) (λ q. f x.source q s)) (search (and_l, and_r))

  pub composed_every : (outer inner : Map) → Makes (map_source_to_target outer) → Makes (map_target_to_source inner) → every_end ok outer.pairs ≡ true → every_end ok inner.pairs ≡ true
      → every_end passes (composed_pairs outer inner) ≡ true
  unfolding composed_pairs
  composed_every outer inner f g eo ei = pulled_passes inner g (map (composed_pair outer) inner.pairs) outer.pairs (first_half outer f inner.pairs ei) eo
