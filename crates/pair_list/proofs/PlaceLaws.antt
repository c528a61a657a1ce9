-- Lemmas about a list in lent memory, pair by pair.
use mathlib.Core.Path.{◌≡◌, refl, ap, ◌∙◌}
use mathlib.Core.Bool.{Bool, true, false, cond, ◌&&◌, ◌||◌}
use mathlib.Core.List.{List, [], ◌∷◌, ◌++◌}
use Prim.Native.Nat.{ℕ, zero, suc, ◌+◌, ◌*◌, ◌/◌, ◌≤◌, ◌<◌}
use native.Mathlib.Omega.{arith}
use native.Mathlib.Decide.{ℕ_discrete}
use native.Mathlib.Numerals.{add-one}
use lib.Dec.{leb}
use borrow.Author.Tests.{le-leb, leb-true}
use lib.ListN.{length, get_or, take, drop, length-append, length-take, get_or-append, get_or-eq_default}
use lib.Seq.{get_or-append_seam}
use Rattle.text.specs.Text.{Text}
use Rattle.text.proofs.BoolLaws.{and_l, and_r}
use Rattle.path_grammar.specs.Legal.{at_most255}
use Rattle.pair_list.specs.Pair.{Pair, pair, empty_pair, pair_at, source_at, target_at, every_end, all_short}
use Rattle.text_list.specs.Places.{start_at, length_at, in_store, text_at}
use Rattle.pair_list.specs.Places.{pair_in, pairs_in, key_at, is_short_at, places_short, places_all}
use Rattle.path_grammar.proofs.LegalLaws.{fits_short}

module _ (store : Text) (places : List ℕ) where
  pub pairs_in_length : (n : ℕ) → length (pairs_in store places n) ≡ n
  unfolding pairs_in
  pairs_in_length zero = refl
  pairs_in_length (suc n) = rw (length-append (pairs_in store places n) (pair_in store places n ∷ []), pairs_in_length n) (omega arith)

  pub pairs_in_at : (n i : ℕ) → i < n → pair_at (pairs_in store places n) i ≡ pair_in store places i
  unfolding pairs_in
  pairs_in_at zero i h = absurd (omega arith)
  pairs_in_at (suc n) i h = elim (ℕ_discrete i n) [ yes e ↦ last e | no d ↦ earlier (omega arith) (pairs_in_at n i) ]
    where
      all : List Pair
      all = pairs_in store places n

      last : i ≡ n → get_or (all ++ pair_in store places n ∷ []) i empty_pair ≡ pair_in store places i
      last e = rw e (rw (pairs_in_length n) at (get_or-append_seam all (pair_in store places n) [] empty_pair))

      earlier : i < n → (i < n → pair_at all i ≡ pair_in store places i) → get_or (all ++ pair_in store places n ∷ []) i empty_pair ≡ pair_in store places i
      earlier l f = get_or-append all (pair_in store places n ∷ []) empty_pair i (rw (pairs_in_length n) l) ∙ f l

  -- The sources and the targets, as keys.
  pub pairs_in_source : (n i : ℕ) → i < n → source_at (pairs_in store places n) i ≡ key_at store places false i
  unfolding pair_in
  pairs_in_source n i h = let z : 2 * i ≡ 2 * i + 0 = omega arith in ap (λ (x : Pair). x.source) (pairs_in_at n i h) ∙ ap (λ (j : ℕ). text_at store places j) z

  pub pairs_in_target : (n i : ℕ) → i < n → target_at (pairs_in store places n) i ≡ key_at store places true i
  unfolding pair_in
  pairs_in_target n i h = ap (λ (x : Pair). x.target) (pairs_in_at n i h)

-- What the questions imply for the list, once its places have passed them.
pub every_snoc : (passes : Text → Bool) (l : List Pair) (x : Pair) → every_end passes l ≡ true → passes x.source ≡ true → passes x.target ≡ true
    → every_end passes (l ++ x ∷ []) ≡ true
unfolding every_end
every_snoc passes [] x e s t = rw (s, t)
every_snoc passes (y ∷ l) x e s t =
    let a : Bool = passes y.source && passes y.target in
    rw (and_l a (every_end passes l) e) (every_snoc passes l x (and_r a (every_end passes l) e) s t)

module _ (store : Text) (places : List ℕ) where
  pub every_pair_in : (passes : Text → Bool) (n : ℕ) → places_all passes store places (2 * n) ≡ true → every_end passes (pairs_in store places n) ≡ true
  unfolding pairs_in places_all pair_in every_end
  every_pair_in passes zero h = refl
  every_pair_in passes (suc n) h =
      let e : 2 * suc n ≡ suc (2 * n + 1) = omega arith in
      let g : (places_all passes store places (2 * n + 1) && passes (text_at store places (2 * n + 1))) ≡ true = rw e at h in
      let k : (places_all passes store places (2 * n) && passes (text_at store places (2 * n))) ≡ true
      = rw add-one at (and_l (places_all passes store places (2 * n + 1)) (passes (text_at store places (2 * n + 1))) g) in
      every_snoc passes (pairs_in store places n) (pair_in store places n)
      (every_pair_in passes n (and_l (places_all passes store places (2 * n)) (passes (text_at store places (2 * n))) k))
      (and_r (places_all passes store places (2 * n)) (passes (text_at store places (2 * n))) k)
      (and_r (places_all passes store places (2 * n + 1)) (passes (text_at store places (2 * n + 1))) g)

  -- A place that passed question 1 holds a text of at most 255 bytes.
  place_short : (j : ℕ) → is_short_at store places j ≡ true → length_at places j ≤ 255
  unfolding is_short_at
  place_short j h = go (leb (length places / 2) j) refl h
    where
      go : (b : Bool) → leb (length places / 2) j ≡ b → (b || in_store store places j && leb (length_at places j) 255) ≡ true → length_at places j ≤ 255
      go true e g =
          let l : length places / 2 ≤ j = leb-true (length places / 2) j e in
          rw (get_or-eq_default places 0 {n = 2 * j + 1} (omega arith)) (omega arith)
      go false e g = leb-true (length_at places j) 255 (and_r (in_store store places j) (leb (length_at places j) 255) g)

  fit_text : (j : ℕ) → is_short_at store places j ≡ true → at_most255 (text_at store places j) ≡ true
  unfolding text_at at_most255
  fit_text j h = go (in_store store places j) refl
    where
      go : (b : Bool) → in_store store places j ≡ b → at_most255 (cond b (take (length_at places j) (drop (start_at places j) store)) []) ≡ true
      go false e = refl
      go true e = le-leb (length (take (length_at places j) (drop (start_at places j) store))) 255 (simp length-take (omega (arith, place_short j h)))

  pub fit_texts : (n : ℕ) → places_short store places n ≡ true → places_all at_most255 store places n ≡ true
  unfolding places_short places_all
  fit_texts zero h = refl
  fit_texts (suc n) h =
      rw (fit_texts n (and_l (places_short store places n) (is_short_at store places n) h)) (fit_text n (and_r (places_short store places n) (is_short_at store places n) h))

-- A pair, given its ends.
pub pair_is : (store : Text) (places : List ℕ) (i : ℕ) (s t : Text) → s ≡ key_at store places false i → t ≡ key_at store places true i → pair s t ≡ pair_in store places i
unfolding pair_in
pair_is store places i s t h k = let z : 2 * i + 0 ≡ 2 * i = omega arith in rw (h, k, z)

-- The ends of pairs of at most 255 bytes each; beyond the list they are empty.
pub short_at : (l : List Pair) → all_short l ≡ true → (i : ℕ) → (length (source_at l i) ≤ 255) × (length (target_at l i) ≤ 255)
unfolding all_short
short_at [] e i = (omega arith, omega arith)
short_at (x ∷ l) e zero =
    let a : (at_most255 x.source && at_most255 x.target) ≡ true = and_l (at_most255 x.source && at_most255 x.target) (all_short l) e in
    (fits_short x.source (and_l (at_most255 x.source) (at_most255 x.target) a), fits_short x.target (and_r (at_most255 x.source) (at_most255 x.target) a))
short_at (x ∷ l) e (suc i) = short_at l (and_r (at_most255 x.source && at_most255 x.target) (all_short l) e) i
