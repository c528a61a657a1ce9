-- Lemmas about the branches of the tests on pairs.
use Rattle.std.specs.Bool.{MatchBool}
use Rattle.std.specs.List.{range_with_len, AllWithin, HoldsAt}
use Rattle.std.proofs.lemmas.List.FromFn.{length-range_with_len, get_or-range_with_len}
use mathlib.Core.Path.{◌≡◌, refl, sym, ap, ◌∙◌}
use mathlib.Core.Logic.{◌≢◌}
use mathlib.Core.Bool.{Bool, true, false, not, ◌&&◌}
use mathlib.Core.List.{List}
use Prim.Native.Nat.{ℕ, zero, suc, ◌+◌, ◌<◌}
use native.Mathlib.Omega.{arith}
use native.Mathlib.Decide.{ℕ_discrete}
use lib.Dec.{eqb}
use lib.ListN.{length, get_or}
use borrow.Author.Tests.{eq-eqb, ne_eqb}
use Rattle.text.specs.Text.{Text, is_nil, equal}
use Rattle.text.proofs.TextLaws.{nil_length, nil_not}
use Rattle.text.proofs.BoolLaws.{told, or_right, and_no, and_yes}
use Rattle.path_prefix.specs.Prefix.{has_prefix}
use Rattle.path_prefix.specs.Elements.{prim_element_count}
use Rattle.pair_list.specs.Pair.{Pair, pair, pair_at}
use Rattle.pair_list.specs.Places.{pair_in, pairs_in, key_at}
use Rattle.pair_list.proofs.PlaceLaws.{pairs_in_at, pair_is}
use Rattle.relocates.specs.Status.{any_below, is_structural, claims_source, is_duplicate_among, is_duplicate, equal_non_empty, pair_conflicts, conflicts_with}

-- `is_structural`
module _ (s t : Text) where
  pub structural_deletes : length t ≡ 0 → false ≡ is_structural (pair s t)
  unfolding is_structural
  structural_deletes h = rw (nil_length t h)

  module _ (n : ℕ) (h : length t ≢ 0) (k : n ≡ prim_element_count s) where
    pub structural_root : n ≡ 1 → true ≡ is_structural (pair s t)
    unfolding is_structural
    structural_root e = rw (nil_not t h, ← k, eq-eqb n 1 e)

    module _ (e : n ≢ 1) (a : Bool) (ha : a ≡ equal s t) where
      pub structural_equal : a ≡ true → true ≡ is_structural (pair s t)
      unfolding is_structural
      structural_equal l = rw (nil_not t h, ← k, ne_eqb n 1 e, told ha l)

      module _ (la : a ≡ false) (b : Bool) (hb : b ≡ has_prefix s t) where
        pub structural_above : b ≡ true → true ≡ is_structural (pair s t)
        unfolding is_structural
        structural_above l = rw (nil_not t h, ← k, ne_eqb n 1 e, told ha la, told hb l)

        pub structural_below : b ≡ false → (c : Bool) → c ≡ has_prefix t s → c ≡ is_structural (pair s t)
        unfolding is_structural
        structural_below l c hc = rw (nil_not t h, ← k, ne_eqb n 1 e, told ha la, told hb l) hc

pub ruleset structure = (structural_deletes, structural_root, structural_equal, structural_above, structural_below)

-- `claims_source`
module _ (store : Text) (places : List ℕ) (k : ℕ) (u s : Text) (h : s ≡ key_at store places false k) (a : Bool) (ha : a ≡ equal s u) where
  pub claims_other : a ≡ false → false ≡ claims_source (pair_in store places k) u
  unfolding claims_source
  claims_other l =
      let t : Text = key_at store places true k in
      rw (← (pair_is store places k s t h refl), told ha l) (sym (and_no (not (is_structural (pair s t)))))

  pub claims_same : a ≡ true → (t : Text) → t ≡ key_at store places true k → (b : Bool) → b ≡ is_structural (pair s t) → not b ≡ claims_source (pair_in store places k) u
  unfolding claims_source
  claims_same l t g b hb = rw (← (pair_is store places k s t h g), told ha l, ← hb) (sym (and_yes (not b)))

pub ruleset reserving = (claims_other, claims_same)

-- Lemmas about a test of each index below n.
pub some_same : (f g : ℕ → Bool) (n : ℕ) → ((k : ℕ) → k < n → f k ≡ g k) → any_below n f ≡ any_below n g
unfolding any_below
some_same f g zero h = refl
some_same f g (suc n) h = rw (some_same f g n (λ k l. h k (omega arith)), h n (omega arith))

pub some_hit : (f : ℕ → Bool) (n k : ℕ) → k < n → f k ≡ true → any_below n f ≡ true
unfolding any_below
some_hit f zero k h e = absurd (omega arith)
some_hit f (suc n) k h e =
    elim (ℕ_discrete k n) [ yes q ↦ or_right (any_below n f) (f n) (rw q at e) | no d ↦ rw (some_hit f n k (omega arith) e) ]

some_miss : (f : ℕ → Bool) (n : ℕ) → ((k : ℕ) → k < n → f k ≡ false) → any_below n f ≡ false
unfolding any_below
some_miss f zero h = refl
some_miss f (suc n) h = rw (some_miss f n (λ k l. h k (omega arith)), h n (omega arith))

at_own : (n k : ℕ) → k < n → get_or (range_with_len 0 n) k 0 ≡ k
at_own n k h = get_or-range_with_len 0 n k 0 h ∙ omega arith

-- What `(0..n).any(f)` answers.
pub some_in_range : (f : ℕ → Bool) (n : ℕ) (r : Bool)
    → MatchBool r ((k : ℕ) × (k < length (range_with_len 0 n)) × HoldsAt (λ j. f j ≡ true) (range_with_len 0 n) k)
    (AllWithin (λ j. f j ≡ false) (range_with_len 0 n) 0 (length (range_with_len 0 n)))
    → r ≡ any_below n f
some_in_range f n true w =
    let l : w.0 < n = omega (arith, w.1, length-range_with_len 0 n) in
    let g : f (get_or (range_with_len 0 n) w.0 0) ≡ true = w.2 0 in
    sym (some_hit f n w.0 l (rw (at_own n w.0 l) at g))
some_in_range f n false w = sym (some_miss f n (λ k l. let g : f (get_or (range_with_len 0 n) k 0) ≡ false = w k 0 (omega arith) (omega (arith, length-range_with_len 0 n)) in rw (at_own n k l) at g))

-- `is_duplicate`: the sources are those of the list in lent memory.
module _ (store : Text) (places : List ℕ) (n i : ℕ) (h : i < n) where
  -- For any two predicates that agree on the earlier pairs.
  duplicate_among : (counts counts' : ℕ → Bool) → ((k : ℕ) → k < i → counts k ≡ counts' k)
      → is_duplicate_among counts (pairs_in store places n) i ≡ any_below i (λ (k : ℕ). counts' k && equal (pair_in store places k).source (pair_in store places i).source)
  unfolding is_duplicate_among
  duplicate_among counts counts' same =
      some_same (λ (k : ℕ). counts k && equal (pair_at (pairs_in store places n) k).source (pair_at (pairs_in store places n) i).source)
      (λ (k : ℕ). counts' k && equal (pair_in store places k).source (pair_in store places i).source) i
      (λ k l. rw (pairs_in_at store places n k (omega arith), pairs_in_at store places n i h, same k l))

  pub duplicate_in : is_duplicate (pairs_in store places n) i ≡ any_below i (λ (k : ℕ). claims_source (pair_in store places k) (pair_in store places i).source)
  unfolding is_duplicate claims_source
  duplicate_in =
      duplicate_among (λ (k : ℕ). not (is_structural (pair_at (pairs_in store places n) k))) (λ (k : ℕ). not (is_structural (pair_in store places k)))
      (λ k l. ap (λ (x : Pair). not (is_structural x)) (pairs_in_at store places n k (omega arith)))

  pub duplicate_of : (s : Text) → n ≡ i + 1 → s ≡ key_at store places false i → (b : Bool) → b ≡ any_below i (λ (k : ℕ). claims_source (pair_in store places k) s) → b ≡ is_duplicate (pairs_in store places n) i
  duplicate_of s e g b hb =
      let z : (pair_in store places i).source ≡ s = ap (λ (x : Pair). x.source) (sym (pair_is store places i s (key_at store places true i) g refl)) in
      hb ∙ sym (rw z at duplicate_in)

-- `equal_non_empty`, `is_target_below`, `is_source_below`, `relocate_pair_conflicts`
module _ (a b : Text) where
  pub equal_empty : length b ≡ 0 → false ≡ equal_non_empty a b
  unfolding equal_non_empty
  equal_empty h = rw (nil_length b h)

  pub equal_equal : length b ≢ 0 → (r : Bool) → r ≡ equal a b → r ≡ equal_non_empty a b
  unfolding equal_non_empty
  equal_equal h r e = rw (nil_not b h) e

  pub target_empty : length a ≡ 0 → false ≡ (not (is_nil a) && has_prefix a b)
  target_empty h = rw (nil_length a h)

  pub target_prefix : length a ≢ 0 → (r : Bool) → r ≡ has_prefix a b → r ≡ (not (is_nil a) && has_prefix a b)
  target_prefix h r e = rw (nil_not a h) e

  pub source_equal : (x : Bool) → x ≡ equal a b → x ≡ true → false ≡ (not (equal a b) && has_prefix a b)
  source_equal x h l = rw (told h l)

  pub source_prefix : (x : Bool) → x ≡ equal a b → x ≡ false → (r : Bool) → r ≡ has_prefix a b → r ≡ (not (equal a b) && has_prefix a b)
  source_prefix x h l r e = rw (told h l) e

module _ (sa ta sb tb : Text) (x : Bool) (hx : x ≡ (not (is_nil ta) && has_prefix ta sb)) where
  pub conflict_target : x ≡ true → true ≡ pair_conflicts (pair sa ta) (pair sb tb)
  unfolding pair_conflicts
  conflict_target l = rw (told hx l)

  module _ (lx : x ≡ false) (y : Bool) (hy : y ≡ equal_non_empty sa tb) where
    pub conflict_equal : y ≡ true → true ≡ pair_conflicts (pair sa ta) (pair sb tb)
    unfolding pair_conflicts
    conflict_equal l = rw (told hx lx, told hy l)

    pub conflict_source : y ≡ false → (z : Bool) → z ≡ (not (equal sa sb) && has_prefix sa sb) → z ≡ pair_conflicts (pair sa ta) (pair sb tb)
    unfolding pair_conflicts
    conflict_source l z hz = rw (told hx lx, told hy l) hz

pub ruleset reasons = (equal_empty, equal_equal, target_empty, target_prefix, source_equal, source_prefix, conflict_target, conflict_equal, conflict_source)

-- `conflicts_with`
module _ (store : Text) (places : List ℕ) (i j first : ℕ) where
  pub with_itself : i ≡ j → false ≡ (not (eqb i j) && eqb first 0 && conflicts_with (pair_in store places i) (pair_in store places j))
  with_itself h = rw (eq-eqb i j h)

  pub with_dropped : i ≢ j → first ≢ 0 → false ≡ (not (eqb i j) && eqb first 0 && conflicts_with (pair_in store places i) (pair_in store places j))
  with_dropped h k = rw (ne_eqb i j h, ne_eqb first 0 k)

  module _ (h : i ≢ j) (k : first ≡ 0) (sa ta sb tb : Text)
      (hsa : sa ≡ key_at store places false i) (hta : ta ≡ key_at store places true i)
      (hsb : sb ≡ key_at store places false j) (htb : tb ≡ key_at store places true j) (x : Bool) (hx : x ≡ equal_non_empty ta tb) where
    pub with_target_lem : x ≡ true → true ≡ (not (eqb i j) && eqb first 0 && conflicts_with (pair_in store places i) (pair_in store places j))
    unfolding conflicts_with
    with_target_lem l =
        rw (ne_eqb i j h, eq-eqb first 0 k, ← (pair_is store places i sa ta hsa hta), ← (pair_is store places j sb tb hsb htb), told hx l)

    pub with_reason : x ≡ false → (y : Bool) → y ≡ pair_conflicts (pair sa ta) (pair sb tb)
        → y ≡ (not (eqb i j) && eqb first 0 && conflicts_with (pair_in store places i) (pair_in store places j))
    unfolding conflicts_with
    with_reason l y hy =
        rw (ne_eqb i j h, eq-eqb first 0 k, ← (pair_is store places i sa ta hsa hta), ← (pair_is store places j sb tb hsb htb), told hx l) hy

pub ruleset conflicting = (with_itself, with_dropped, with_target_lem, with_reason)
