-- Lemmas about a map in lent memory: the keys that the code reads are its ends.
use Rattle.std.specs.Prelude.{Some}
use mathlib.Core.Path.{◌≡◌}
use mathlib.Core.Bool.{Bool, true, false}
use mathlib.Core.List.{List}
use Prim.Native.Nat.{ℕ, ◌≤◌, ◌<◌}
use lib.ListN.{length}
use Rattle.text.specs.Text.{Text}
use Rattle.path_prefix.proofs.PrefixLaws.{prefix_long}
use Rattle.pair_list.specs.Places.{key_at}
use Rattle.pair_list.specs.LongestMatch.{longest_match, matches}
use Rattle.pair_list.proofs.PlaceLaws.{pairs_in_length, pairs_in_source, pairs_in_target}
use Rattle.map_spec.specs.Map.{Map, lent_map, map_source, map_target, map_size, match_source, match_target}
use Rattle.pair_list.proofs.LongestMatchLaws.{chosen_best, best_same, served}

-- A key that matches is no longer than the path.
pub matched_long : (p k : Text) → matches p k ≡ true → length k ≤ length p
matched_long p k e = prefix_long p k (served p k e)

module _ (store : Text) (places : List ℕ) (n : ℕ) (mark : Bool) (p : Text) where
  abbrev key : Bool → ℕ → Text
  key b = key_at store places b

  abbrev lent : Map
  lent = lent_map store places n mark

  chosen_by : (l : ℕ → Text) (k : ℕ → Text) → ((i : ℕ) → i < n → l i ≡ k i) → longest_match p l (map_size lent) ≡ longest_match p k n
  unfolding longest_match
  chosen_by l k same = rw (pairs_in_length store places n) (best_same (matches p) l k n same)

  pub out_keys : match_source lent p ≡ longest_match p (key false) n
  unfolding match_source
  out_keys = chosen_by (map_source lent) (key false) (pairs_in_source store places n)

  pub home_keys : match_target lent p ≡ longest_match p (key true) n
  unfolding match_target
  home_keys = chosen_by (map_target lent) (key true) (pairs_in_target store places n)

  pub ends_by : (invert : Bool) (i : ℕ) → longest_match p (key invert) n ≡ Some i → (map_source lent i ≡ key false i) × (map_target lent i ≡ key true i)
  unfolding longest_match
  ends_by invert i e =
      let h : i < n = (chosen_best (matches p) (key invert) n i e).in_range_lem in
      (pairs_in_source store places n i h, pairs_in_target store places n i h)
