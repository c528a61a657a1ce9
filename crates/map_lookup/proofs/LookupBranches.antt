-- Lemmas for the branches of `matches`, `better_of`, `consider` and `best_prefix`.
use Rattle.std.specs.Prelude.{Option, Some, None}
use Rattle.std.proofs.Common.{eq-eqb}
use mathlib.Core.Path.{◌≡◌, refl, sym, ap, ◌∙◌}
use mathlib.Core.Logic.{◌≢◌}
use mathlib.Core.Bool.{Bool, true, false, not, cond, ◌&&◌, ◌||◌, false≢true}
use mathlib.Core.List.{List, [], ◌∷◌, ◌++◌}
use Prim.Native.Nat.{ℕ, suc, ◌+◌, ◌*◌, ◌-◌, ◌≤◌, ◌<◌, min}
use native.Mathlib.Nat.{min-le_left, min-le_right, min-eq_left, min-eq_right}
use native.Mathlib.Numerals.{add-one}
use native.Mathlib.Omega.{arith}
use lib.Dec.{eqb, leb}
use lib.ListN.{length, get_or, take, drop, length-drop, take-append-drop}
use lib.Seq.{length-take-le, take-append_seam, take-append-le, get_or-take, get_or-drop}
use borrow.Author.Tests.{ne_eqb, le-leb, lt-leb, leb-true, leb-false}
use Rattle.text.specs.Text.{Text}
use Rattle.text.proofs.BoolLaws.{known_false, known_true}
use Rattle.text.proofs.TextLaws.{starts_at}
use Rattle.path_prefix.specs.Prefix.{has_prefix}
use Rattle.path_prefix.specs.Elements.{element_count}
use Rattle.path_prefix.proofs.CountLaws.{count_more}
use Rattle.path_prefix.proofs.PrefixLaws.{prefix_rest, prefix_starts, prefix_long}
use Rattle.map_lookup.specs.declared.BestSoFar.{BestSoFar}
use Rattle.map_lookup.specs.LookupStep.{substring, key_count, not_worse, CoveredDecidesAlike, consider_key}
use Rattle.text_list.specs.Places.{text_at}
use Rattle.pair_list.specs.Places.{key_at}
use Rattle.pair_list.specs.Best.{not_lighter}
use Rattle.pair_list.specs.LongestMatch.{matches, longest_match}
use Rattle.text_list.proofs.PlaceBranches.{text_missing}
use Rattle.pair_list.proofs.BestLaws.{best_rest, keep_step}
use Rattle.pair_list.proofs.LongestMatchLaws.{SaysLongest, best_says, served}

pub matches_empty : (p k : Text) → length k ≡ 0 → false ≡ matches p k
unfolding matches
matches_empty p [] l = refl
matches_empty p (a ∷ k) l = absurd (omega arith)

-- Of two prefixes of one path, the longer begins with the shorter.
prefix_of : (p s k : Text) → has_prefix p s ≡ true → has_prefix p k ≡ true → length s ≤ length k → k ≡ s ++ drop (length s) k
prefix_of p s k h g l =
    let e : take (length s) p ≡ s = rw (prefix_rest p s h).0 (take-append_seam s (drop (length s) p)) in
    let d : take (length s) p ≡ take (length s) k = rw (prefix_rest p k g).0 (take-append-le (length s) k (drop (length k) p) l) in
    sym (take-append-drop (length s) k) ∙ ap (λ (x : Text). x ++ drop (length s) k) (sym d ∙ e)

-- So the longer has no fewer elements.
no_fewer : (p s k : Text) → has_prefix p s ≡ true → has_prefix p k ≡ true → length s ≤ length k → element_count s ≤ element_count k
no_fewer p s k h g l = rw (prefix_of p s k h g l) (count_more true s (drop (length s) k))

pub covered_decides_alike : CoveredDecidesAlike
unfolding not_worse
covered_decides_alike p s k h g = go (leb (length s) (length k)) refl
  where
    go : (b : Bool) → leb (length s) (length k) ≡ b → (b || leb (element_count (take (length s) p)) (element_count k)) ≡ leb (element_count s) (element_count k)
    go true e = sym (le-leb (element_count s) (element_count k) (no_fewer p s k h g (leb-true (length s) (length k) e)))
    go false e = rw ((prefix_rest p s h).0, take-append_seam s (drop (length s) p))

-- Lemmas for `better_of`.
module _ (f : BestSoFar) (p k : Text) (i : ℕ) where
  other : matches p k ≡ false → f ≡ consider_key f p k i
  unfolding consider_key
  other h = rw h

  pub choose_other : (b : Bool) → b ≡ matches p k → not b ≡ true → f ≡ consider_key f p k i
  choose_other b h l = other (known_false h l)

  module _ (b : Bool) (h : b ≡ matches p k) (l : not b ≡ false) where
    pub choose_longer : f.covered ≤ length k → record { at = i; covered = length k } ≡ consider_key f p k i
    unfolding consider_key not_worse
    choose_longer m = rw (known_true h l, le-leb f.covered (length k) m)

    module _ (m : length k < f.covered) (x y : ℕ) (e : x ≡ element_count k) (d : y ≡ element_count (take f.covered p)) where
      pub choose_fewer : x < y → f ≡ consider_key f p k i
      unfolding consider_key not_worse
      choose_fewer n = rw (known_true h l, lt-leb f.covered (length k) m, ← e, ← d, lt-leb y x n)

      pub choose_more : y ≤ x → record { at = i; covered = length k } ≡ consider_key f p k i
      unfolding consider_key not_worse
      choose_more n = rw (known_true h l, lt-leb f.covered (length k) m, ← e, ← d, le-leb y x n)

pub least_left : (m a b : ℕ) → m ≡ min a b → m ≤ a
least_left m a b h = rw h (min-le_left a b)

pub least_right : (m a b : ℕ) → m ≡ min a b → m ≤ b
least_right m a b h = rw h (min-le_right a b)

below_one : (a b n : ℕ) → min a b < n → n ≤ a → b < n
below_one a b n l m = go (leb a b) refl
  where
    go : (c : Bool) → leb a b ≡ c → b < n
    go true e = let q : a ≤ b = leb-true a b e in absurd (omega (arith, m, rw (min-eq_left q) at l))
    go false e = let q : b ≤ a = omega (arith, leb-false a b e) in rw (min-eq_right q) at l

-- Lemmas for `consider`.
refused : (p k : Text) → (matches p k ≡ true → ⊥) → matches p k ≡ false
refused p k h = go (matches p k) refl
  where
    go : (b : Bool) → matches p k ≡ b → b ≡ false
    go true e = absurd (h e)
    go false e = refl

-- A text of the store that is rejected by its place, its length or its last byte.
module _ (p store : Text) (start n : ℕ) where
  outside : length store < start + n → matches p (substring store start n) ≡ false
  unfolding substring
  outside h = rw (lt-leb (start + n) (length store) h) (sym (matches_empty p [] refl))

  pub cut_none : n ≡ 0 → matches p (substring store start n) ≡ false
  unfolding substring
  cut_none h = rw h (go (leb (start + 0) (length store)))
    where
      go : (b : Bool) → matches p (cond b (take 0 (drop start store)) []) ≡ false
      go true = sym (matches_empty p [] refl)
      go false = sym (matches_empty p [] refl)

  module _ (h : start + n ≤ length store) where
    part : substring store start n ≡ take n (drop start store)
    unfolding substring
    part = rw (le-leb (start + n) (length store) h)

    part_length : length (take n (drop start store)) ≡ n
    part_length = length-take-le n (drop start store) (rw (length-drop start store) (omega arith))

    inside_long : length p < n → matches p (substring store start n) ≡ false
    inside_long l =
        rw part
        (refused p (take n (drop start store)) (λ s. omega (arith, part_length, prefix_long p (take n (drop start store)) (served p (take n (drop start store)) s))))

  pub cut_long : (limit : ℕ) → limit ≡ min (length store) (length p) → limit < n → matches p (substring store start n) ≡ false
  cut_long limit e l = go (leb (start + n) (length store)) refl
    where
      go : (b : Bool) → leb (start + n) (length store) ≡ b → matches p (substring store start n) ≡ false
      go true h =
          let k : start + n ≤ length store = leb-true (start + n) (length store) h in
          inside_long k (below_one (length store) (length p) n (rw e at l) (omega arith))
      go false h = outside (leb-false (start + n) (length store) h)

  pub cut_outside : (limit : ℕ) → limit ≤ length store → n ≤ limit → length store - n < start → matches p (substring store start n) ≡ false
  cut_outside limit k l h = outside (omega arith)

  module _ (limit : ℕ) (k : limit ≤ length store) (z : n ≢ 0) (l : n ≤ limit) (h : start ≤ length store - n) where
    within : start + n ≤ length store
    within = omega arith

    pub cut_differs : get_or store (start + n - 1) 0 ≢ get_or p (n - 1) 0 → matches p (substring store start n) ≡ false
    cut_differs d = rw (part within) (refused p key (λ s. d (same s)))
      where
        key : Text
        key = take n (drop start store)

        same : matches p key ≡ true → get_or store (start + n - 1) 0 ≡ get_or p (n - 1) 0
        same s =
            let m : start + n - 1 ≡ start + (n - 1) = omega (arith, z) in
            let g : get_or p (n - 1) 0 ≡ get_or key (n - 1) 0
            = starts_at key p (n - 1) (rw (part_length within) (omega (arith, z))) (prefix_starts p key (served p key s)) in
            rw (m, g, get_or-take n (drop start store) (n - 1) 0 (omega (arith, z)), get_or-drop start store (n - 1) 0)

    pub cut_is : take (start + n - start) (drop start store) ≡ substring store start n
    cut_is = let m : start + n - start ≡ n = omega arith in rw (part within, m)

module _ (f : BestSoFar) (p store : Text) (start n i : ℕ) where
  pub consider_none : n ≡ 0 → f ≡ consider_key f p (substring store start n) i
  consider_none h = other f p (substring store start n) i (cut_none p store start n h)

  pub consider_long : (limit : ℕ) → limit ≡ min (length store) (length p) → limit < n → f ≡ consider_key f p (substring store start n) i
  consider_long limit e l = other f p (substring store start n) i (cut_long p store start n limit e l)

  pub consider_outside : (limit : ℕ) → limit ≤ length store → n ≤ limit → length store - n < start → f ≡ consider_key f p (substring store start n) i
  consider_outside limit k l h = other f p (substring store start n) i (cut_outside p store start n limit k l h)

  module _ (limit : ℕ) (k : limit ≤ length store) (z : n ≢ 0) (l : n ≤ limit) (h : start ≤ length store - n) where
    pub consider_differs : get_or store (start + n - 1) 0 ≢ get_or p (n - 1) 0 → f ≡ consider_key f p (substring store start n) i
    consider_differs d = other f p (substring store start n) i (cut_differs p store start n limit k z l h d)

    pub consider_chosen : (r : BestSoFar) → r ≡ consider_key f p (take (start + n - start) (drop start store)) i → r ≡ consider_key f p (substring store start n) i
    consider_chosen r e = rw (cut_is p store start n limit k z l h) at e

-- The match so far, given the index that is selected.
abbrev pub match_kept : (ℕ → Text) → Option ℕ → BestSoFar
match_kept key None = record { at = 0; covered = 0 }
match_kept key (Some j) = record { at = j; covered = length (key j) }

-- A key that matches is not empty.
matched_long : (p k : Text) → matches p k ≡ true → length k ≢ 0
matched_long p k s e = false≢true (matches_empty p k e ∙ s)

-- The loop invariant is that the match so far is the longest match among the first i keys.
pub kept_none : (p : Text) (key : ℕ → Text) → record { at = 0; covered = 0 } ≡ match_kept key (longest_match p key 0)
unfolding longest_match
kept_none p key = refl

module _ (p : Text) (key : ℕ → Text) (i : ℕ) where
  step : consider_key (match_kept key (longest_match p key i)) p (key i) i ≡ match_kept key (longest_match p key (suc i))
  unfolding consider_key longest_match not_worse
  step = go (longest_match p key i) (best_says p key i) ∙ keep_step (λ (j : ℕ). matches p (key j)) (λ (j : ℕ). element_count (key j)) (match_kept key) i
    where
      -- If the key matches, the step compares the elements of two prefixes of the path.
      compared : (j : ℕ) → matches p (key j) ≡ true → (b : Bool) → matches p (key i) ≡ b
          → cond (b && not_worse p (length (key j)) (key i)) (match_kept key (Some i)) (match_kept key (Some j))
          ≡ cond (b && leb (element_count (key j)) (element_count (key i))) (match_kept key (Some i)) (match_kept key (Some j))
      compared j h true s = ap (λ (c : Bool). cond c (match_kept key (Some i)) (match_kept key (Some j))) (covered_decides_alike p (key j) (key i) (served p (key j) h) (served p (key i) s))
      compared j h false s = refl

      go : (o : Option ℕ) → SaysLongest (matches p) key i o
          → consider_key (match_kept key o) p (key i) i ≡ cond (matches p (key i) && not_lighter (λ (j : ℕ). element_count (key j)) o i) (match_kept key (Some i)) (match_kept key o)
      go None w = rw (le-leb 0 (length (key i)) (omega arith))
      go (Some j) w = compared j w.does_pass (matches p (key i)) refl

  pub kept_short : (f : BestSoFar) → f ≡ match_kept key (longest_match p key i) → f.covered ≤ length p
  kept_short f e = rw e (go (longest_match p key i) (best_says p key i))
    where
      go : (o : Option ℕ) → SaysLongest (matches p) key i o → (match_kept key o).covered ≤ length p
      go None w = omega arith
      go (Some j) w = prefix_long p (key j) (served p (key j) w.does_pass)

  found_kept : (f : BestSoFar) → f ≡ match_kept key (longest_match p key i) → cond (eqb f.covered 0) None (Some f.at) ≡ longest_match p key i
  found_kept f e = rw e (go (longest_match p key i) (best_says p key i))
    where
      go : (o : Option ℕ) → SaysLongest (matches p) key i o → cond (eqb (match_kept key o).covered 0) None (Some (match_kept key o).at) ≡ o
      go None w = refl
      go (Some j) w = rw (ne_eqb (length (key j)) 0 (matched_long p (key j) w.does_pass))

-- The numbers of the keys that count lie in the slice.
pub held_there : (places : List ℕ) (n held offset : ℕ) (invert : Bool) → held ≡ min n (key_count places invert) → offset ≡ 2 * cond invert 1 0
    → 4 * held + offset ≤ length places + 2
unfolding key_count
held_there places n held offset true e o = omega (arith, least_right held n (key_count places true) e)
held_there places n held offset false e o = omega (arith, least_right held n (key_count places false) e)

module _ (store : Text) (places : List ℕ) (invert : Bool) (offset i : ℕ) (o : offset ≡ 2 * cond invert 1 0) where
  pub key_is : substring store (get_or places (4 * i + offset) 0) (get_or places (4 * i + offset + 1) 0) ≡ key_at store places invert i
  unfolding substring text_at
  key_is = let z : 2 * (2 * i + cond invert 1 0) ≡ 4 * i + offset = omega arith in rw z

  pub kept_on : (p : Text) (f f' : BestSoFar) → f ≡ match_kept (key_at store places invert) (longest_match p (key_at store places invert) i)
      → f' ≡ consider_key f p (substring store (get_or places (4 * i + offset) 0) (get_or places (4 * i + offset + 1) 0)) i
      → f' ≡ match_kept (key_at store places invert) (longest_match p (key_at store places invert) (i + 1))
  kept_on p f f' h c = rw (c, key_is, h, add-one i) (step p (key_at store places invert) i)

-- Beyond the keys that the slice holds, no key matches.
pub key_after : (store : Text) (places : List ℕ) (invert : Bool) (k : ℕ) → key_count places invert ≤ k → key_at store places invert k ≡ []
unfolding key_count
key_after store places true k h = sym (text_missing store places (2 * k + 1) (omega arith))
key_after store places false k h = sym (text_missing store places (2 * k + 0) (omega arith))

pub kept_end : (p store : Text) (places : List ℕ) (n : ℕ) (invert : Bool) (held i : ℕ) (f : BestSoFar) → held ≡ min n (key_count places invert)
    → f ≡ match_kept (key_at store places invert) (longest_match p (key_at store places invert) i) → held ≤ i → i ≤ held
    → cond (eqb f.covered 0) None (Some f.at) ≡ longest_match p (key_at store places invert) n
unfolding longest_match
kept_end p store places n invert held i f m h l r =
    let e : i ≡ min n (key_count places invert) = omega arith in
    found_kept p key i f h ∙ rw e (go (leb n (key_count places invert)) refl)
  where
    key : ℕ → Text
    key = key_at store places invert

    go : (b : Bool) → leb n (key_count places invert) ≡ b → longest_match p key (min n (key_count places invert)) ≡ longest_match p key n
    go true t = let q : n ≤ key_count places invert = leb-true n (key_count places invert) t in rw (min-eq_left q)
    go false t =
        let q : key_count places invert ≤ n = omega (arith, leb-false n (key_count places invert) t) in
        rw (min-eq_right q)
        (best_rest (λ (k : ℕ). matches p (key k)) (λ (k : ℕ). element_count (key k)) (key_count places invert) n (omega arith)
        (λ k h. rw (key_after store places invert k h) (sym (matches_empty p [] refl))))

-- What the loop has found at its end.
pub none_left : (p store : Text) (places : List ℕ) (n : ℕ) (invert : Bool) (held i : ℕ) (f : BestSoFar) → held ≡ min n (key_count places invert)
    → f ≡ match_kept (key_at store places invert) (longest_match p (key_at store places invert) i) → held ≤ i → i ≤ held
    → f.covered ≡ 0 → None ≡ longest_match p (key_at store places invert) n
none_left p store places n invert held i f m h l r z =
    ap (λ (b : Bool). cond b None (Some f.at)) (sym (eq-eqb f.covered 0 z)) ∙ kept_end p store places n invert held i f m h l r

pub some_left : (p store : Text) (places : List ℕ) (n : ℕ) (invert : Bool) (held i : ℕ) (f : BestSoFar) → held ≡ min n (key_count places invert)
    → f ≡ match_kept (key_at store places invert) (longest_match p (key_at store places invert) i) → held ≤ i → i ≤ held
    → f.covered ≢ 0 → Some f.at ≡ longest_match p (key_at store places invert) n
some_left p store places n invert held i f m h l r z =
    ap (λ (b : Bool). cond b None (Some f.at)) (sym (ne_eqb f.covered 0 z)) ∙ kept_end p store places n invert held i f m h l r

pub ruleset searching = (matches_empty, choose_other, choose_longer, choose_fewer, choose_more, consider_none, consider_long, consider_outside, consider_differs, consider_chosen, least_left, least_right, none_left, some_left)
