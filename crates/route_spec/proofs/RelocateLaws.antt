-- Lemmas about the map of a relocate list: its ends are ends of the list, and none of its sources is empty. Lemmas about closed legs.
use Rattle.std.specs.Prelude.{None}
use mathlib.Core.Path.{◌≡◌, refl, sym, ◌∙◌}
use mathlib.Core.Bool.{Bool, true, false, not, cond, ◌&&◌, ◌||◌, false≢true}
use mathlib.Core.List.{List, [], ◌∷◌, ◌++◌}
use Prim.Native.Nat.{ℕ, zero, suc, ◌≤◌}
use lib.Dec.{eqb}
use native.Mathlib.Omega.{arith}
use lib.ListN.{length, length-append}
use Rattle.text.specs.Text.{Text, is_nil, equal, strip_prefix}
use Rattle.text.proofs.BoolLaws.{and_l, and_r, or_right}
use Rattle.path_grammar.specs.Legal.{is_end, at_most255}
use Rattle.path_grammar.proofs.LegalLaws.{end_legal}
use Rattle.path_prefix.specs.Prefix.{has_prefix}
use Rattle.path_prefix.specs.Elements.{element_count, prim_element_count}
use Rattle.path_prefix.proofs.PrefixLaws.{legal_prefix_empty}
use Rattle.pair_list.specs.Pair.{Pair, empty_pair, pair_at, source_at, every_end, all_ends, all_short, no_empty_source}
use Rattle.pair_list.specs.LongestMatch.{matches, longest_match}
use Rattle.pair_list.proofs.BestLaws.{best_rest}
use Rattle.map_spec.specs.Map.{match_source}
use Rattle.map_spec.specs.New.{is_root_pair, any_root_pair, without_root_pairs, map_via, is_redundant, canonicalize, from_parts, new}
use Rattle.map_spec.proofs.DropLaws.{canonical_keeps}
use Rattle.map_spec.proofs.EndLaws.{ends_target, all, all_more, undropped_pass, every_all, is_full, full_all, from_parts_keeps, from_parts_every, from_parts_length, new_ends}
use Rattle.relocates.specs.Status.{is_structural, status_byte, occurrence, active_pairs, root_pair, relocate_map}
use Rattle.route_spec.specs.Leg.{leg_map, leg_ends, closed_leg, counted_pairs}

module _ (ok : Pair → Bool) where
  -- A test that each Active pair and `/`→`/` pass is passed by every pair of the map.
  active_keeps : (l : List Pair) → ((n : ℕ) → eqb (status_byte (occurrence l n)) 0 ≡ true → ok (pair_at l n) ≡ true)
      → (n : ℕ) → all ok (active_pairs l n) ≡ true
  unfolding active_pairs all
  active_keeps l each zero = refl
  active_keeps l each (suc n) = go (eqb (status_byte (occurrence l n)) 0) refl (active_keeps l each n)
    where
      go : (b : Bool) → eqb (status_byte (occurrence l n)) 0 ≡ b → all ok (active_pairs l n) ≡ true
          → all ok (cond b (active_pairs l n ++ pair_at l n ∷ []) (active_pairs l n)) ≡ true
      go true h ih = all_more ok (active_pairs l n) (pair_at l n) ih (each n h)
      go false h ih = ih

  relocate_keeps : (l : List Pair) → ((n : ℕ) → eqb (status_byte (occurrence l n)) 0 ≡ true → ok (pair_at l n) ≡ true) → ok root_pair ≡ true
      → all ok (relocate_map l).pairs ≡ true
  unfolding relocate_map new
  relocate_keeps l each h =
      from_parts_keeps ok (active_pairs l (length l) ++ root_pair ∷ []) false (all_more ok (active_pairs l (length l)) root_pair (active_keeps l each (length l)) h)

-- A test of texts that the empty text, `/` and every end of the list pass is passed by every end of the map.
module _ (passes : Text → Bool) (None-passes : passes [] ≡ true) where
  abbrev both : Pair → Bool
  both x = passes x.source && passes x.target

  pub every_at : (l : List Pair) → every_end passes l ≡ true → (n : ℕ) → both (pair_at l n) ≡ true
  unfolding every_end
  every_at [] e n = rw None-passes
  every_at (x ∷ l) e zero = and_l (both x) (every_end passes l) e
  every_at (x ∷ l) e (suc n) = every_at l (and_r (both x) (every_end passes l) e) n

  relocate_every : (l : List Pair) → passes (47 ∷ []) ≡ true → every_end passes l ≡ true → every_end passes (relocate_map l).pairs ≡ true
  relocate_every l root-passes e = every_all passes (relocate_map l).pairs ∙ relocate_keeps both l (λ n h. every_at l e n) (rw root-passes)

pub relocate_ends : (l : List Pair) → all_ends l ≡ true → all_ends (relocate_map l).pairs ≡ true
unfolding all_ends is_end
relocate_ends l = relocate_every is_end refl l refl

pub relocate_short : (l : List Pair) → all_short l ≡ true → all_short (relocate_map l).pairs ≡ true
unfolding all_short at_most255
relocate_short l = relocate_every at_most255 refl l refl

-- An Active pair with an empty source has an empty target: otherwise it would be structural.
abbrev full_or_gone : Pair → Bool
full_or_gone x = is_full x || is_nil x.target

loose : (x : Pair) → is_end x.target ≡ true → is_structural x ≡ false → full_or_gone x ≡ true
unfolding is_structural
loose x e f = go x.source x.target (legal_prefix_empty x.target (end_legal x.target e)) f
  where
    go : (s t : Text) → has_prefix t [] ≡ true → is_structural (record { source = s; target = t }) ≡ false → (not (is_nil s) || is_nil t) ≡ true
    go (a ∷ s) t h f = refl
    go [] [] h f = refl
    go [] (a ∷ t) h f = absurd (false≢true (sym f ∙ or_right (eqb (prim_element_count []) 1 || equal [] (a ∷ t) || has_prefix [] (a ∷ t)) (has_prefix (a ∷ t) []) h))

active_loose : (l : List Pair) → all_ends l ≡ true → (n : ℕ) → eqb (status_byte (occurrence l n)) 0 ≡ true → full_or_gone (pair_at l n) ≡ true
unfolding occurrence
active_loose l e n h = go (is_structural (pair_at l n)) refl
  where
    go : (b : Bool) → is_structural (pair_at l n) ≡ b → full_or_gone (pair_at l n) ≡ true
    go true k = absurd (false≢true (rw k at h))
    go false k = loose (pair_at l n) (ends_target l e n) k

-- With the mark, a pair of two empty ends is dropped.
abbrev is_there : Pair → Bool
is_there x = not (is_nil x.source && is_nil x.target)

no_match : (k : Text) → matches [] k ≡ false
unfolding matches has_prefix strip_prefix
no_match [] = refl
no_match (a ∷ k) = refl

no_key : (key : ℕ → Text) (n : ℕ) → longest_match [] key n ≡ None
unfolding longest_match
no_key key n = sym (best_rest (λ (k : ℕ). matches [] (key k)) (λ (k : ℕ). element_count (key k)) 0 n (omega arith) (λ k h. no_match (key k)))

implies_nothing : (kept : List Pair) → is_redundant (record { pairs = kept; mark = true }) empty_pair ≡ true
unfolding is_redundant map_via match_source equal
implies_nothing kept = rw (no_key (source_at kept) (length kept))

not_implied : (kept : List Pair) (x : Pair) → is_redundant (record { pairs = kept; mark = true }) x ≡ false → is_there x ≡ true
not_implied kept x h = go x.source x.target h
  where
    go : (s t : Text) → is_redundant (record { pairs = kept; mark = true }) (record { source = s; target = t }) ≡ false → not (is_nil s && is_nil t) ≡ true
    go [] [] h = absurd (false≢true (sym h ∙ implies_nothing kept))
    go [] (a ∷ t) h = refl
    go (a ∷ s) t h = refl

canonical_there : (l : List Pair) → all is_there (canonicalize true l) ≡ true
canonical_there l = rw (canonical_keeps true l) (undropped_pass is_there is_redundant true not_implied l)

marked_by_roots : (l : List Pair) → any_root_pair (l ++ root_pair ∷ []) ≡ true
unfolding any_root_pair
marked_by_roots [] = refl
marked_by_roots (x ∷ l) = or_right (is_root_pair x) (any_root_pair (l ++ root_pair ∷ [])) (marked_by_roots l)

not_roots : (l : List Pair) → without_root_pairs (l ++ root_pair ∷ []) ≡ without_root_pairs l
unfolding without_root_pairs
not_roots [] = refl
not_roots (x ∷ l) = rw (not_roots l) refl

-- The map is that of the Active pairs, with the mark.
pub relocate_parts : (l : List Pair) → relocate_map l ≡ from_parts (active_pairs l (length l)) true
unfolding relocate_map new from_parts
relocate_parts l = rw (marked_by_roots (active_pairs l (length l)), not_roots (active_pairs l (length l))) refl

-- It has at most as many pairs as the list.
pub active_few : (l : List Pair) (n : ℕ) → length (active_pairs l n) ≤ n
unfolding active_pairs
active_few l zero = omega arith
active_few l (suc n) = go (eqb (status_byte (occurrence l n)) 0) (active_few l n)
  where
    go : (b : Bool) → length (active_pairs l n) ≤ n → length (cond b (active_pairs l n ++ pair_at l n ∷ []) (active_pairs l n)) ≤ suc n
    go true h = rw (length-append (active_pairs l n) (pair_at l n ∷ [])) (omega arith)
    go false h = omega arith

pub relocate_few : (l : List Pair) → length (relocate_map l).pairs ≤ length l
relocate_few l = rw (relocate_parts l) (omega (arith, from_parts_length (active_pairs l (length l)) true, active_few l (length l)))

relocate_there : (l : List Pair) → all is_there (relocate_map l).pairs ≡ true
unfolding from_parts
relocate_there l = rw (relocate_parts l) (canonical_there (without_root_pairs (active_pairs l (length l))))

both_full : (l : List Pair) → all full_or_gone l ≡ true → all is_there l ≡ true → all is_full l ≡ true
unfolding all
both_full [] h k = refl
both_full (x ∷ l) h k =
    rw (go (is_nil x.source) (is_nil x.target) (and_l (full_or_gone x) (all full_or_gone l) h) (and_l (is_there x) (all is_there l) k))
    (both_full l (and_r (full_or_gone x) (all full_or_gone l) h) (and_r (is_there x) (all is_there l) k))
  where
    go : (s t : Bool) → (not s || t) ≡ true → not (s && t) ≡ true → not s ≡ true
    go false t h k = refl
    go true true h k = k
    go true false h k = h

-- No source of a relocate list's map is empty.
pub relocate_full : (l : List Pair) → all_ends l ≡ true → no_empty_source (relocate_map l).pairs ≡ true
relocate_full l e =
    full_all (relocate_map l).pairs
    ∙ both_full (relocate_map l).pairs (relocate_keeps full_or_gone l (active_loose l e) refl) (relocate_there l)

-- A closed leg of either kind: its map is built from the counted pairs, with the mark for a relocate list.
pub closed_parts : (relocates : Bool) (l : List Pair) → leg_map (closed_leg relocates l) ≡ from_parts (counted_pairs relocates l) relocates
unfolding closed_leg leg_map counted_pairs new
closed_parts false l = refl
closed_parts true l = relocate_parts l

pub closed_few : (relocates : Bool) (l : List Pair) → length (leg_map (closed_leg relocates l)).pairs ≤ length l
unfolding closed_leg leg_map new
closed_few false l = from_parts_length l false
closed_few true l = relocate_few l

pub closed_short : (relocates : Bool) (l : List Pair) → all_short l ≡ true → all_short (leg_map (closed_leg relocates l)).pairs ≡ true
unfolding closed_leg leg_map new all_short
closed_short false l = from_parts_every at_most255 l false
closed_short true l = relocate_short l

pub closed_ends : (relocates : Bool) (l : List Pair) → all_ends l ≡ true → leg_ends (closed_leg relocates l) ≡ true
unfolding closed_leg leg_ends
closed_ends false l = new_ends l
closed_ends true l = λ e. e
