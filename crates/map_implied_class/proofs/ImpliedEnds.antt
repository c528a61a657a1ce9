-- Lemmas about the ends of an implied class: they are all prim paths, `/` or empty, hence legal.
use mathlib.Core.Path.{◌≡◌, refl, ◌∙◌}
use mathlib.Core.Bool.{Bool, true, false, cond, ◌&&◌}
use mathlib.Core.List.{List, [], ◌∷◌, ◌++◌}
use Rattle.text.specs.Text.{Text}
use Rattle.path_grammar.specs.Legal.{legal}
use Rattle.pair_list.specs.Pair.{Pair, every_end, all_ends}
use Rattle.map_spec.specs.Map.{Map}
use Rattle.map_spec.specs.New.{from_parts}
use Rattle.map_spec.specs.Compose.{is_path_identity, composed_pairs, compose}
use Rattle.map_spec.specs.Derive.{inverse}
use Rattle.map_spec.proofs.EndLaws.{from_parts_ends, inverse_ends}
use Rattle.map_compose.proofs.ComposedEnds.{composed_ends, ends_legal}
use Rattle.map_implied_class.specs.Implied.{composed_from, class_list, implied_list}

-- A test of a list appended to another.
pub every_append : (passes : Text → Bool) (a b : List Pair) → every_end passes (a ++ b) ≡ (every_end passes a && every_end passes b)
unfolding every_end
every_append passes [] b = refl
every_append passes (x ∷ a) b = go (passes x.source && passes x.target) (every_append passes a b)
  where
    go : (c : Bool) → every_end passes (a ++ b) ≡ (every_end passes a && every_end passes b) → (c && every_end passes (a ++ b)) ≡ (c && every_end passes a && every_end passes b)
    go true ih = ih
    go false ih = refl

module _ (outer inner : Map) (eo : all_ends outer.pairs ≡ true) (ei : all_ends inner.pairs ≡ true) where
  -- The list that composing two maps starts from.
  from_ends_lem : all_ends (composed_from outer inner) ≡ true
  unfolding composed_from
  from_ends_lem = go (is_path_identity outer) (is_path_identity inner)
    where
      go : (a b : Bool) → all_ends (cond a inner.pairs (cond b outer.pairs (composed_pairs outer inner))) ≡ true
      go true b = ei
      go false true = eo
      go false false = composed_ends outer inner eo ei

  -- The composed map.
  compose_ends : all_ends (compose outer inner).pairs ≡ true
  unfolding compose
  compose_ends = go (is_path_identity outer) (is_path_identity inner)
    where
      go : (a b : Bool) → all_ends (cond a inner (cond b outer (from_parts (composed_pairs outer inner) (outer.mark && inner.mark)))).pairs ≡ true
      go true b = ei
      go false true = eo
      go false false = from_parts_ends (composed_pairs outer inner) (outer.mark && inner.mark) (composed_ends outer inner eo ei)

module _ (transfer class : Map) (te : all_ends transfer.pairs ≡ true) (ce : all_ends class.pairs ≡ true) where
  class_ends : all_ends (class_list transfer class) ≡ true
  unfolding class_list
  class_ends = from_ends_lem class (inverse transfer) ce (inverse_ends transfer te)

  last_ends : all_ends (implied_list transfer class) ≡ true
  unfolding implied_list
  last_ends = from_ends_lem transfer (compose class (inverse transfer)) te (compose_ends class (inverse transfer) ce (inverse_ends transfer te))

  pub implied_legal : every_end legal (class_list transfer class ++ implied_list transfer class) ≡ true
  implied_legal =
      every_append legal (class_list transfer class) (implied_list transfer class)
      ∙ rw (ends_legal (class_list transfer class) class_ends, ends_legal (implied_list transfer class) last_ends) refl
