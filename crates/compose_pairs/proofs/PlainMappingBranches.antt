-- Lemmas about the branches of `join_at`, `keep_at`, `map_at` and `composed_target_at`, and about the search in `pull_back_pair`.
use Rattle.std.specs.Prelude.{Option, Some, None}
use Rattle.std.specs.Option.{unwrap_or}
use mathlib.Core.Path.{◌≡◌, refl, sym, ap, ◌∙◌}
use mathlib.Core.Logic.{◌≢◌}
use mathlib.Core.Bool.{Bool, true, false, not, cond, false≢true}
use mathlib.Core.List.{List, [], ◌++◌, append-nil}
use Prim.Native.Nat.{ℕ, ◌+◌, ◌-◌, ◌≤◌}
use native.Mathlib.Omega.{arith}
use lib.Dec.{leb}
use lib.ListN.{length, take, drop, length-drop, drop_of_length-le, take-append-drop}
use lib.Seq.{drop-drop}
use borrow.Author.Tests.{le-leb}
use borrow.Rule.Slice.PartMut.{put_mid}
use Rattle.text.specs.Text.{Text, is_nil, written_if_fits, fit_of}
use Rattle.text.proofs.BoolLaws.{and_l, and_r, not_true, not_false}
use Rattle.text.proofs.WriteLaws.{placed_first, rest_whole}
use Rattle.path_prefix.specs.Prefix.{has_prefix}
use Rattle.path_join.specs.Join.{join, replace_prefix}
use Rattle.path_join.proofs.ReplaceLaws.{replace_prefix_lem}
use Rattle.pair_list.specs.Places.{key_at}
use Rattle.pair_list.specs.LongestMatch.{longest_match, matches}
use Rattle.pair_list.proofs.LongestMatchLaws.{chosen_best}
use Rattle.map_spec.specs.Map.{Map, map_source_to_target, map_target_to_source, lent_map}
use Rattle.map_spec.proofs.LentLaws.{out_keys, home_keys, ends_by}
use Rattle.text.proofs.TextLaws.{nil_length, nil_not}
use Rattle.compose_pairs.specs.ComposePairs.{map_plainly, path_if_marked, image, image_length, image_buffer, composed_target}

-- `join_at`: a text written at an offset, through the slice that begins there.
module _ (q out : Text) (at : ℕ) (h : at + length q ≤ length out) (f : Option ℕ) (e : f ≡ fit_of q (take (length out - at) (drop at out))) where
  part : take (length out - at) (drop at out) ≡ drop at out
  part = rest_whole out at

  room : length q ≤ length (drop at out)
  room = simp length-drop (omega arith)

  fits : f ≡ Some (length q)
  unfolding fit_of
  fits =
      let l : 0 + length q ≤ length (take (length out - at) (drop at out)) = rw part (omega (arith, room)) in
      e ∙ rw (le-leb (length q) (length (take (length out - at) (drop at out))) (omega arith)) refl

  pub part_length : (n : ℕ) → n ≡ unwrap_or f 0 → n ≡ length q
  part_length n k = k ∙ ap (λ (o : Option ℕ). unwrap_or o 0) fits

  pub part_put : (y : Text) → y ≡ written_if_fits 0 q (take (length out - at) (drop at out)) → put_mid at (length out - at) out y ≡ written_if_fits at q out
  unfolding written_if_fits
  part_put y k =
      let a : drop (length out - at) (drop at out) ≡ [] = drop_of_length-le (drop at out) {i = length out - at} (simp length-drop (omega arith)) in
      let b : y ≡ q ++ drop (at + length q) out = k ∙ rw part (placed_first q (drop at out) room ∙ ap (λ (z : Text). q ++ z) (drop-drop (length q) at out)) in
      rw (a, b, append-nil (q ++ drop (at + length q) out), le-leb (at + length q) (length out) h)

-- `keep_at`
module _ (mark : Bool) (p : Text) (at : ℕ) (out : Text) where
  pub keep_none : not mark ≡ true → (None ≡ image (path_if_marked mark p)) × (out ≡ image_buffer at (path_if_marked mark p) out)
  keep_none k = rw (not_true mark k) (refl, refl)

  pub keep_some : not mark ≡ false → (out' : Text) → out' ≡ written_if_fits at p out → (Some (length p) ≡ image (path_if_marked mark p)) × (out' ≡ image_buffer at (path_if_marked mark p) out)
  keep_some k out' e = rw (not_false mark k) (refl, e)

-- `map_at`: the keys that the code reads are the ends of the map in lent memory.
module _ (store : Text) (places : List ℕ) (n : ℕ) (mark : Bool) (p : Text) where
  abbrev key : Bool → ℕ → Text
  key b = key_at store places b

  abbrev lent : Map
  lent = lent_map store places n mark

  plain_none : (invert : Bool) → longest_match p (key invert) n ≡ None → map_plainly invert lent p ≡ path_if_marked mark p
  unfolding map_plainly map_source_to_target map_target_to_source
  plain_none false e = rw (out_keys store places n mark p, e)
  plain_none true e = rw (home_keys store places n mark p, e)

  plain_some : (invert : Bool) (i : ℕ) → longest_match p (key invert) n ≡ Some i
      → map_plainly invert lent p ≡ cond (is_nil (key true i)) None (replace_prefix p (key invert i) (key (not invert) i))
  unfolding map_plainly map_source_to_target map_target_to_source
  plain_some false i e = let z = ends_by store places n mark p false i e in rw (out_keys store places n mark p, e, z.0, z.1)
  plain_some true i e = let z = ends_by store places n mark p true i e in rw (home_keys store places n mark p, e, z.0, z.1)

  module _ (invert : Bool) (f : Option ℕ) (h : f ≡ longest_match p (key invert) n) where
    pub map_none : f ≡ None → map_plainly invert lent p ≡ path_if_marked mark p
    map_none k = plain_none invert (sym h ∙ k)

    module _ (idx : ℕ) (k : f ≡ Some idx) where
      chosen : longest_match p (key invert) n ≡ Some idx
      chosen = sym h ∙ k

      pub map_block : (b : Text) → b ≡ key true idx → length b ≡ 0 → map_plainly invert lent p ≡ None
      map_block b e l = plain_some invert idx chosen ∙ rw (nil_length (key true idx) (rw e at l))

      has : has_prefix p (key invert idx) ≡ true
      unfolding longest_match matches
      has = and_r (not (is_nil (key invert idx))) (has_prefix p (key invert idx)) (chosen_best (matches p) (key invert) n idx chosen).does_pass

      filled : length (key invert idx) ≢ 0
      unfolding longest_match matches
      filled z =
          false≢true (sym (not_true (is_nil (key invert idx))
          (and_l (not (is_nil (key invert idx))) (has_prefix p (key invert idx)) (chosen_best (matches p) (key invert) n idx chosen).does_pass))
          ∙ nil_length (key invert idx) z)

      pub map_join : (b s t : Text) → b ≡ key true idx → length b ≢ 0 → s ≡ key invert idx → t ≡ key (not invert) idx
          → map_plainly invert lent p ≡ Some (join s t (take (length p - length s) (drop (length s) p)))
      map_join b s t e l es et =
          rw (es, et, rest_whole p (length (key invert idx)))
          (plain_some invert idx chosen ∙ rw (nil_not (key true idx) (rw e at l)) (replace_prefix_lem p (key invert idx) (key (not invert) idx) has))

      -- Backward, the matching key is the target, so the target is not empty.
      pub home_join : invert ≡ true → (s t : Text) → s ≡ key invert idx → t ≡ key (not invert) idx
          → map_plainly invert lent p ≡ Some (join s t (take (length p - length s) (drop (length s) p)))
      home_join back s t es et = map_join s s t (es ∙ ap (λ (b : Bool). key b idx) back) (λ z. filled (sym (ap length es) ∙ z)) es et

-- Properties of the mapped text, transferred along an equation.
module _ (o : Option Text) (v : Option Text) (e : o ≡ v) where
  pub room_of : (at : ℕ) (out : Text) → at + image_length o ≤ length out → at + image_length v ≤ length out
  room_of at out h = rw e at h

  pub answer_of : (r : Option ℕ) (at : ℕ) (out out' : Text) → (r ≡ image v) × (out' ≡ image_buffer at v out) → (r ≡ image o) × (out' ≡ image_buffer at o out)
  answer_of r at out out' w = rw e w

-- Writing the empty text leaves the buffer unchanged.
pub placed_none : (at : ℕ) (out : Text) → out ≡ written_if_fits at [] out
unfolding written_if_fits
placed_none at out = go (leb (at + 0) (length out))
  where
    whole : take at out ++ drop (at + 0) out ≡ out
    whole = let z : at + 0 ≡ at = omega arith in rw z (take-append-drop at out)

    go : (b : Bool) → out ≡ cond b (take at out ++ drop (at + 0) out) out
    go true = sym whole
    go false = refl

-- `composed_target_at`
module _ (m : Map) (t : Text) (at : ℕ) (out : Text) where
  pub composed_empty : length t ≡ 0 → (0 ≡ length (composed_target m t)) × (out ≡ written_if_fits at (composed_target m t) out)
  unfolding composed_target
  composed_empty l = rw (nil_length t l) (refl, placed_none at out)

  to_plain : length t ≢ 0 → composed_target m t ≡ unwrap_or (map_plainly false m t) []
  unfolding map_plainly composed_target
  to_plain l = rw (nil_not t l)

  module _ (l : length t ≢ 0) (a : Option ℕ) (out' : Text) (h : a ≡ image (map_plainly false m t)) (w : out' ≡ image_buffer at (map_plainly false m t) out) where
    pub composed_made : (n : ℕ) → n ≡ unwrap_or a 0 → (n ≡ length (composed_target m t)) × (out' ≡ written_if_fits at (composed_target m t) out)
    composed_made n e = rw (to_plain l) (go (map_plainly false m t) refl)
      where
        go : (o : Option Text) → map_plainly false m t ≡ o → (n ≡ length (unwrap_or o [])) × (out' ≡ written_if_fits at (unwrap_or o []) out)
        go None k = (e ∙ ap (λ (x : Option ℕ). unwrap_or x 0) (h ∙ ap image k), w ∙ rw k (placed_none at out))
        go (Some q) k = (e ∙ ap (λ (x : Option ℕ). unwrap_or x 0) (h ∙ ap image k), w ∙ rw k refl)

  pub composed_room : length t ≢ 0 → at + length (composed_target m t) ≤ length out → at + image_length (map_plainly false m t) ≤ length out
  composed_room l r = go (map_plainly false m t) refl
    where
      go : (o : Option Text) → map_plainly false m t ≡ o → at + image_length o ≤ length out
      go None k = omega arith
      go (Some q) k = omega (arith, ap length (to_plain l), ap (λ (z : Option Text). length (unwrap_or z [])) k)
