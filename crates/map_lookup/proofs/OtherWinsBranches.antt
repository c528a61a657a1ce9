-- Lemmas for the branches of `wins`, `other_wins` and `is_longest_match`.
use Rattle.std.specs.Prelude.{Option, Some, None}
use mathlib.Core.Path.{◌≡◌, refl, sym, ◌∙◌}
use mathlib.Core.Logic.{◌≢◌}
use mathlib.Core.Bool.{Bool, true, false, not, cond, ◌&&◌, ◌||◌, false≢true, true≢false}
use mathlib.Core.List.{List, []}
use Prim.Native.Nat.{ℕ, ◌+◌, ◌*◌, ◌-◌, ◌≤◌, ◌<◌, min}
use native.Mathlib.Nat.{min-eq_left, min-eq_right}
use native.Mathlib.Omega.{arith}
use native.Mathlib.Decide.{ℕ_discrete}
use lib.Dec.{eqb, leb, ltb}
use lib.ListN.{length, get_or, take, drop}
use borrow.Author.Tests.{eqb-false, eq-eqb, ne_eqb, ltb-true, ltb-false, leb-true, leb-false}
use Rattle.text.specs.Text.{Text}
use Rattle.text.proofs.BoolLaws.{and_l, and_r, and_no, told, known_false, known_true, not_true}
use Rattle.path_prefix.specs.Elements.{element_count}
use Rattle.map_lookup.specs.LookupStep.{substring, key_count, is_index, wins, other_wins}
use Rattle.pair_list.specs.Places.{key_at}
use Rattle.pair_list.specs.LongestMatch.{matches, longest_match}
use Rattle.pair_list.proofs.LongestMatchLaws.{IsLongest, SaysLongest, best_says}
use Rattle.map_lookup.proofs.LookupBranches.{matches_empty, cut_none, cut_long, cut_outside, cut_differs, cut_is, key_is, key_after, least_left}

-- Lemmas for `other_wins`.
no_other_lem : (p t : Text) (k i : ℕ) (key : Text) → matches p t ≡ false → false ≡ other_wins p t k i key
unfolding other_wins wins
no_other_lem p t k i key h = rw h (sym (and_no (not (eqb k i))))

module _ (p store : Text) (start n k i : ℕ) (key : Text) where
  pub other_none : n ≡ 0 → false ≡ other_wins p (substring store start n) k i key
  other_none h = no_other_lem p (substring store start n) k i key (cut_none p store start n h)

  pub other_long : (limit : ℕ) → limit ≡ min (length store) (length p) → limit < n → false ≡ other_wins p (substring store start n) k i key
  other_long limit e l = no_other_lem p (substring store start n) k i key (cut_long p store start n limit e l)

  pub other_outside : (limit : ℕ) → limit ≤ length store → n ≤ limit → length store - n < start → false ≡ other_wins p (substring store start n) k i key
  other_outside limit q l h = no_other_lem p (substring store start n) k i key (cut_outside p store start n limit q l h)

  module _ (limit : ℕ) (q : limit ≤ length store) (z : n ≢ 0) (l : n ≤ limit) (h : start ≤ length store - n) where
    pub other_refused : (not (eqb (get_or store (start + n - 1) 0) (get_or p (n - 1) 0)) || eqb k i) ≡ true → false ≡ other_wins p (substring store start n) k i key
    unfolding other_wins
    other_refused d = go (eqb (get_or store (start + n - 1) 0) (get_or p (n - 1) 0)) (eqb k i) refl refl
      where
        go : (a b : Bool) → eqb (get_or store (start + n - 1) 0) (get_or p (n - 1) 0) ≡ a → eqb k i ≡ b → false ≡ other_wins p (substring store start n) k i key
        go a true e f = rw f
        go false false e f = no_other_lem p (substring store start n) k i key (cut_differs p store start n limit q z l h (eqb-false _ _ e))
        go true false e f = absurd (false≢true (rw (e, f) at d))

    pub other_validated : (not (eqb (get_or store (start + n - 1) 0) (get_or p (n - 1) 0)) || eqb k i) ≡ false → (r : Bool)
        → r ≡ wins p (take (start + n - start) (drop start store)) (ltb k i) key → r ≡ other_wins p (substring store start n) k i key
    unfolding other_wins
    other_validated d r e = rw (other (eqb (get_or store (start + n - 1) 0) (get_or p (n - 1) 0)) (eqb k i) d) (rw (cut_is p store start n limit q z l h) at e)
      where
        other : (a b : Bool) → (not a || b) ≡ false → b ≡ false
        other true b d = d
        other false b d = absurd (true≢false d)

pub ruleset rivalling = (other_none, other_long, other_outside, other_refused, other_validated)

-- The loop invariant: none of the first k keys would be selected instead of the key at index i.
pub record Unrivalled (p : Text) (key : ℕ → Text) (i k : ℕ) : Type 0 where
  pub so_far : (m : ℕ) → m < k → other_wins p (key m) m i (key i) ≡ false

pub unbeaten_none : (p : Text) (key : ℕ → Text) (i : ℕ) → Unrivalled p key i 0
unbeaten_none p key i = record { so_far = λ m h. absurd (omega arith) }

pub unbeaten_on : (p : Text) (key : ℕ → Text) (i k : ℕ) (b : Bool) (t s : Text) → t ≡ key k → s ≡ key i → b ≡ other_wins p t k i s → b ≡ false
    → Unrivalled p key i k → Unrivalled p key i (k + 1)
unbeaten_on p key i k b t s e f r n u =
    record { so_far = λ m h. elim (ℕ_discrete m k) [ yes q ↦ rw q (rw (e, f) at (told r n)) | no d ↦ u.so_far m (omega arith) ] }

-- Lemmas for `is_longest_match`.
module _ (p : Text) (key : ℕ → Text) (n i : ℕ) where
  pub best_after : n ≤ i → false ≡ is_index i (longest_match p key n)
  best_after l = go (longest_match p key n) (best_says p key n)
    where
      go : (o : Option ℕ) → SaysLongest (matches p) key n o → false ≡ is_index i o
      go None w = refl
      go (Some j) w = sym (ne_eqb i j (λ e. omega (arith, w.in_range_lem)))

  module _ (s : Text) (b : Bool) (e : s ≡ key i) (h : b ≡ matches p s) where
    pub best_unserved : not b ≡ true → false ≡ is_index i (longest_match p key n)
    best_unserved k = go (longest_match p key n) (best_says p key n)
      where
        unserved : matches p (key i) ≡ false
        unserved = rw (← e) (known_false h k)

        go : (o : Option ℕ) → SaysLongest (matches p) key n o → false ≡ is_index i o
        go None w = refl
        go (Some j) w = sym (ne_eqb i j (λ q. false≢true (sym unserved ∙ rw q w.does_pass)))

    pub best_rivalled : (k : ℕ) (r : Bool) (t : Text) → k < n → t ≡ key k → r ≡ other_wins p t k i s → r ≡ true → false ≡ is_index i (longest_match p key n)
    unfolding other_wins wins
    best_rivalled k r t l f g y = go (longest_match p key n) (best_says p key n)
      where
        it_wins : (not (eqb k i) && (matches p (key k) && cond (ltb k i) (ltb (element_count (key i)) (element_count (key k))) (leb (element_count (key i)) (element_count (key k))))) ≡ true
        it_wins = rw (f, e) at (told g y)

        passes : matches p (key k) ≡ true
        passes = and_l (matches p (key k)) (cond (ltb k i) (ltb (element_count (key i)) (element_count (key k))) (leb (element_count (key i)) (element_count (key k)))) (and_r (not (eqb k i)) _ it_wins)

        more : cond (ltb k i) (ltb (element_count (key i)) (element_count (key k))) (leb (element_count (key i)) (element_count (key k))) ≡ true
        more = and_r (matches p (key k)) (cond (ltb k i) (ltb (element_count (key i)) (element_count (key k))) (leb (element_count (key i)) (element_count (key k)))) (and_r (not (eqb k i)) _ it_wins)

        apart : eqb k i ≡ false
        apart = not_true (eqb k i) (and_l (not (eqb k i)) _ it_wins)

        beaten : IsLongest (matches p) key n i → (c : Bool) → ltb k i ≡ c → ⊥
        beaten w true q =
            omega (arith, w.most k l passes, ltb-true (element_count (key i)) (element_count (key k)) (rw q at more))
        beaten w false q =
            omega (arith, ltb-false k i q, eqb-false k i apart, w.last k l passes (leb-true (element_count (key i)) (element_count (key k)) (rw q at more)))

        go : (o : Option ℕ) → SaysLongest (matches p) key n o → false ≡ is_index i o
        go None w = refl
        go (Some j) w = sym (ne_eqb i j (λ q. beaten (rw q w) (ltb k i) refl))

    module _ (l : i < n) (k : not b ≡ false) (held : ℕ) (after : (m : ℕ) → m < n → held ≤ m → key m ≡ []) (u : Unrivalled p key i held) where
      none_others : (m : ℕ) → m < n → other_wins p (key m) m i (key i) ≡ false
      none_others m t = go (leb held m) refl
        where
          go : (c : Bool) → leb held m ≡ c → other_wins p (key m) m i (key i) ≡ false
          go true q = sym (no_other_lem p (key m) m i (key i) (rw (after m t (leb-true held m q)) (sym (matches_empty p [] refl))))
          go false q = u.so_far m (leb-false held m q)

      best_alone : true ≡ is_index i (longest_match p key n)
      unfolding other_wins wins
      best_alone = go (longest_match p key n) (best_says p key n)
        where
          mine : matches p (key i) ≡ true
          mine = rw (← e) (known_true h k)

          lost : (j : ℕ) → IsLongest (matches p) key n j → eqb j i ≡ false → (c : Bool) → ltb j i ≡ c → ⊥
          lost j w d true q =
              let x : ltb (element_count (key i)) (element_count (key j)) ≡ false = rw (d, w.does_pass, q) at (none_others j w.in_range_lem) in
              omega (arith, ltb-true j i q, w.last i l mine (ltb-false (element_count (key i)) (element_count (key j)) x))
          lost j w d false q =
              let x : leb (element_count (key i)) (element_count (key j)) ≡ false = rw (d, w.does_pass, q) at (none_others j w.in_range_lem) in
              omega (arith, w.most i l mine, leb-false (element_count (key i)) (element_count (key j)) x)

          go : (o : Option ℕ) → SaysLongest (matches p) key n o → true ≡ is_index i o
          go None w = absurd (w i l mine)
          go (Some j) w = elim (ℕ_discrete i j) [
            | yes q ↦ sym (eq-eqb i j q)
            | no d ↦ absurd (lost j w (ne_eqb j i (λ q. d (sym q))) (ltb j i) refl)
          ]

-- The keys in lent memory.
module _ (p store : Text) (places : List ℕ) (n : ℕ) (invert : Bool) (i : ℕ) (s : Text) (b : Bool) (e : s ≡ key_at store places invert i) (h : b ≡ matches p s) (held : ℕ) (m : held ≡ min n (key_count places invert)) where
  pub best_lost : (offset k : ℕ) → offset ≡ 2 * cond invert 1 0 → k < held → (r : Bool)
      → r ≡ other_wins p (substring store (get_or places (4 * k + offset) 0) (get_or places (4 * k + offset + 1) 0)) k i s → r ≡ true
      → false ≡ is_index i (longest_match p (key_at store places invert) n)
  best_lost offset k o l r g y =
      best_rivalled p (key_at store places invert) n i s b e h k r (substring store (get_or places (4 * k + offset) 0) (get_or places (4 * k + offset + 1) 0))
      (omega (arith, least_left held n (key_count places invert) m)) (key_is store places invert offset k o) g y

  pub best_found : (k : ℕ) → i < n → not b ≡ false → held ≤ k → k ≤ held → Unrivalled p (key_at store places invert) i k
      → true ≡ is_index i (longest_match p (key_at store places invert) n)
  best_found k l q r t u =
      let z : k ≡ held = omega arith in
      best_alone p (key_at store places invert) n i s b e h l q held (after (leb n (key_count places invert)) refl) (rw z at u)
    where
      after : (c : Bool) → leb n (key_count places invert) ≡ c → (j : ℕ) → j < n → held ≤ j → key_at store places invert j ≡ []
      after true d j y x = let w : held ≡ n = m ∙ min-eq_left (leb-true n (key_count places invert) d) in absurd (omega arith)
      after false d j y x = let q : key_count places invert ≤ n = omega (arith, leb-false n (key_count places invert) d) in let w : held ≡ key_count places invert = m ∙ min-eq_right q in key_after store places invert j (omega arith)
