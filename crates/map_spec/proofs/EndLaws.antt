-- Lemmas about the ends of a map: a map built from ends has only ends.
use mathlib.Core.Path.{◌≡◌, refl, sym, ap, ◌∙◌}
use mathlib.Core.Bool.{Bool, true, false, not, cond, ◌&&◌}
use mathlib.Core.List.{List, [], ◌∷◌, ◌++◌, map}
use Prim.Native.Nat.{ℕ, zero, suc, ◌+◌, ◌≤◌, ◌<◌}
use native.Mathlib.Omega.{arith}
use native.Mathlib.Nat.{not-suc-le-zero}
use lib.ListN.{length}
use Rattle.text.specs.Text.{Text, is_nil}
use Rattle.text.proofs.BoolLaws.{and_l, and_r, not_true}
use Rattle.path_grammar.specs.Legal.{is_end}
use Rattle.pair_list.specs.Pair.{Pair, source_at, target_at, every_end, all_ends, no_empty_source}
use Rattle.map_spec.specs.Map.{Map}
use Rattle.map_spec.specs.New.{sort_by_source, sort_and_drop, canonicalize, from_parts_by, from_parts, new, from_pair, from_pair_identity}
use Rattle.map_spec.specs.Derive.{dropping_source, swapped_pair, inverse, with_root_identity}
use Rattle.map_spec.proofs.DropLaws.{dropped_by}
use Rattle.map_spec.proofs.WeightLaws.{weight, OnlyDrops, weight_length, canonical_weight, parts_weight, dropping_source_weight}

-- In a list of ends, every source is an end.
pub ends_source : (l : List Pair) → all_ends l ≡ true → (i : ℕ) → is_end (source_at l i) ≡ true
unfolding all_ends
ends_source [] e i = refl
ends_source (x ∷ l) e zero = search (and_l, and_r)
ends_source (x ∷ l) e (suc i) = ends_source l (search (and_l, and_r)) i

-- In a list of ends, every target is an end.
pub ends_target : (l : List Pair) → all_ends l ≡ true → (i : ℕ) → is_end (target_at l i) ≡ true
unfolding all_ends
ends_target [] e i = refl
ends_target (x ∷ l) e zero = search (and_l, and_r)
ends_target (x ∷ l) e (suc i) = ends_target l (search (and_l, and_r)) i

-- If no source is empty, each has a byte.
pub full_source : (l : List Pair) → no_empty_source l ≡ true → (i : ℕ) → i < length l → is_nil (source_at l i) ≡ false
unfolding no_empty_source
full_source [] e i h = absurd (not-suc-le-zero h)
full_source (x ∷ l) e zero h = not_true (is_nil x.source) (search and_l)
full_source (x ∷ l) e (suc i) h = full_source l (search (and_l, and_r)) i (omega arith)

-- Every pair of a list passes a test.
unfoldable pub all : (Pair → Bool) → List Pair → Bool
all ok [] = true
all ok (x ∷ l) = ok x && all ok l

module _ (ok : Pair → Bool) where
  -- The number of pairs that fail the test.
  abbrev failing : List Pair → ℕ
  failing l = weight (λ x. cond (ok x) 0 1) l

  none_fail : (l : List Pair) → all ok l ≡ true → failing l ≡ 0
  unfolding weight all
  none_fail [] e = refl
  none_fail (x ∷ l) e = rw (and_l (ok x) (all ok l) e) (omega (arith, none_fail l (and_r (ok x) (all ok l) e)))

  all_pass : (l : List Pair) → failing l ≡ 0 → all ok l ≡ true
  unfolding weight all
  all_pass [] e = refl
  all_pass (x ∷ l) e = go (ok x) e (all_pass l)
    where
      go : (b : Bool) → cond b 0 1 + failing l ≡ 0 → (failing l ≡ 0 → all ok l ≡ true) → (b && all ok l) ≡ true
      go true e ih = ih (omega arith)
      go false e ih = absurd (omega arith)

  fewer_pass : (l k : List Pair) → failing k ≤ failing l → all ok l ≡ true → all ok k ≡ true
  fewer_pass l k h e = all_pass k (omega (arith, none_fail l e))

  pub all_more : (l : List Pair) (x : Pair) → all ok l ≡ true → ok x ≡ true → all ok (l ++ x ∷ []) ≡ true
  unfolding all
  all_more [] x e h = rw h
  all_more (y ∷ l) x e h = rw (and_l (ok y) (all ok l) e) (all_more l x (and_r (ok y) (all ok l) e) h)

  -- If every pair that is not redundant passes a test, so does every pair that is left after dropping.
  pub undropped_pass : (implies : Map → Pair → Bool) (mark : Bool) → ((kept : List Pair) (x : Pair) → implies (record { pairs = kept; mark = mark }) x ≡ false → ok x ≡ true)
      → (l : List Pair) → all ok (sort_and_drop implies mark l) ≡ true
  unfolding sort_and_drop all
  undropped_pass implies mark passes l =
      dropped_by implies mark (λ (kept rest : List Pair). all ok kept ≡ true) (λ kept x rest e h. h) (λ kept x rest e h. all_more kept x h (passes kept x e)) [] (sort_by_source l) refl

  -- If every pair of a map passes a test, so does every pair of the map without a source.
  pub dropping_source_keeps : (m : Map) (s : Text) → all ok m.pairs ≡ true → all ok (dropping_source m s).pairs ≡ true
  dropping_source_keeps m s = fewer_pass m.pairs (dropping_source m s).pairs (dropping_source_weight (λ x. cond (ok x) 0 1) m s)

-- Both texts of a pair are ends.
abbrev pub are_ends : Pair → Bool
are_ends x = is_end x.source && is_end x.target

-- A test of each end is a test of each pair.
pub every_all : (passes : Text → Bool) (l : List Pair) → every_end passes l ≡ all (λ (x : Pair). passes x.source && passes x.target) l
unfolding every_end all
every_all passes [] = refl
every_all passes (x ∷ l) = ap (λ (b : Bool). passes x.source && passes x.target && b) (every_all passes l)

pub ends_all : (l : List Pair) → all_ends l ≡ all are_ends l
unfolding all_ends
ends_all = every_all is_end

-- A map whose canonical form only drops pairs.
module _ (form : Bool → List Pair → List Pair) (drops : OnlyDrops form) where
  -- If every given pair passes a test, so does every pair of the map built from them.
  pub parts_keeps : (ok : Pair → Bool) (l : List Pair) (mark : Bool) → all ok l ≡ true → all ok (from_parts_by form l mark).pairs ≡ true
  parts_keeps ok l mark = fewer_pass ok l (from_parts_by form l mark).pairs (parts_weight (λ x. cond (ok x) 0 1) form drops l mark)

  -- If every given end passes a test, so does every end of the map built from them.
  pub parts_every : (passes : Text → Bool) (l : List Pair) (mark : Bool) → every_end passes l ≡ true → every_end passes (from_parts_by form l mark).pairs ≡ true
  parts_every passes l mark e =
      every_all passes (from_parts_by form l mark).pairs
      ∙ parts_keeps (λ (x : Pair). passes x.source && passes x.target) l mark (sym (every_all passes l) ∙ e)

  -- A map built from ends has only ends.
  pub parts_ends : (l : List Pair) (mark : Bool) → all_ends l ≡ true → all_ends (from_parts_by form l mark).pairs ≡ true
  unfolding all_ends
  parts_ends = parts_every is_end

  -- A map has no more pairs than the list it was built from.
  pub parts_length : (l : List Pair) (mark : Bool) → length (from_parts_by form l mark).pairs ≤ length l
  parts_length l mark = omega (arith, parts_weight (λ x. 1) form drops l mark, weight_length l, weight_length (from_parts_by form l mark).pairs)

-- The same for maps built by `from_parts`.
pub from_parts_keeps : (ok : Pair → Bool) (l : List Pair) (mark : Bool) → all ok l ≡ true → all ok (from_parts l mark).pairs ≡ true
unfolding from_parts
from_parts_keeps = parts_keeps canonicalize canonical_weight

pub from_parts_every : (passes : Text → Bool) (l : List Pair) (mark : Bool) → every_end passes l ≡ true → every_end passes (from_parts l mark).pairs ≡ true
unfolding from_parts
from_parts_every = parts_every canonicalize canonical_weight

pub from_parts_ends : (l : List Pair) (mark : Bool) → all_ends l ≡ true → all_ends (from_parts l mark).pairs ≡ true
unfolding from_parts
from_parts_ends = parts_ends canonicalize canonical_weight

pub from_parts_length : (l : List Pair) (mark : Bool) → length (from_parts l mark).pairs ≤ length l
unfolding from_parts
from_parts_length = parts_length canonicalize canonical_weight

-- A map built from ends by `new` has only ends.
pub new_ends : (l : List Pair) → all_ends l ≡ true → all_ends (new l).pairs ≡ true
unfolding new
new_ends l = from_parts_ends l false

-- A map built from two ends by `from_pair` has only ends.
pub from_pair_ends : (x : Pair) → all_ends (x ∷ []) ≡ true → all_ends (from_pair x).pairs ≡ true
unfolding from_pair
from_pair_ends x e = e

-- A map built from two ends by `from_pair_identity` has only ends.
pub from_pair_identity_ends : (x : Pair) → all_ends (x ∷ []) ≡ true → all_ends (from_pair_identity x).pairs ≡ true
unfolding from_pair_identity
from_pair_identity_ends x = from_parts_ends (x ∷ []) true

-- A map of ends has only ends after `dropping_source`.
pub dropping_source_ends : (m : Map) (s : Text) → all_ends m.pairs ≡ true → all_ends (dropping_source m s).pairs ≡ true
dropping_source_ends m s e = ends_all (dropping_source m s).pairs ∙ dropping_source_keeps are_ends m s (sym (ends_all m.pairs) ∙ e)

-- A map of ends has only ends after `with_root_identity`.
pub with_root_identity_ends : (m : Map) → all_ends m.pairs ≡ true → all_ends (with_root_identity m).pairs ≡ true
unfolding with_root_identity
with_root_identity_ends m e = e

swapped_ends : (l : List Pair) → all_ends l ≡ true → all_ends (map (λ (x : Pair). swapped_pair x) l) ≡ true
unfolding all_ends
swapped_ends [] e = e
swapped_ends (x ∷ l) e =
    let s : is_end x.source ≡ true = search (and_l, and_r) in
    let t : is_end x.target ≡ true = search (and_l, and_r) in
    rw (s, t) (swapped_ends l (search (and_l, and_r)))

-- The inverse of a map of ends has only ends.
pub inverse_ends : (m : Map) → all_ends m.pairs ≡ true → all_ends (inverse m).pairs ≡ true
unfolding inverse
inverse_ends m e = from_parts_ends (map (λ (x : Pair). swapped_pair x) m.pairs) m.mark (swapped_ends m.pairs e)

-- The source of a pair is not empty.
abbrev pub is_full : Pair → Bool
is_full x = not (is_nil x.source)

pub full_all : (l : List Pair) → no_empty_source l ≡ all is_full l
unfolding no_empty_source all
full_all [] = refl
full_all (x ∷ l) = ap (λ (b : Bool). is_full x && b) (full_all l)
