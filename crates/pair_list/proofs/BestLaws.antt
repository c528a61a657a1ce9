-- Laws about the best index: what the result states, when it stays the same, and the search that finds it step by step.
use Rattle.std.specs.Prelude.{Option, Some, None}
use Rattle.std.specs.Option.{option_map}
use mathlib.Core.Path.{◌≡◌, refl, sym, ap, ◌∙◌}
use mathlib.Core.Bool.{Bool, true, false, not, cond, ◌&&◌, false≢true}
use Prim.Native.Nat.{ℕ, zero, suc, ◌+◌, ◌≤◌, ◌<◌}
use native.Mathlib.Numerals.{add-one}
use native.Mathlib.Omega.{arith}
use native.Mathlib.Decide.{ℕ_discrete}
use lib.Dec.{leb}
use borrow.Author.Tests.{le-leb, lt-leb, leb-true, leb-false}
use Rattle.text.proofs.BoolLaws.{known_false, known_true}
use Rattle.pair_list.specs.Best.{not_lighter, best_index}
use Rattle.pair_list.specs.BestStep.{best_kept, index_kept, at_least_best, consider_index, best_below}

-- Index i is the best below n: it passes, none that passes is heavier, and none that is as heavy comes later.
pub record Best (passes : ℕ → Bool) (weight : ℕ → ℕ) (n i : ℕ) : Type 0 where
  pub in_range_lem : i < n
  pub does_pass : passes i ≡ true
  pub most : (k : ℕ) → k < n → passes k ≡ true → weight k ≤ weight i
  pub last : (k : ℕ) → k < n → passes k ≡ true → weight i ≤ weight k → k ≤ i

-- What a result states about the indices below n: none passes, or this one is the best.
abbrev pub Says : (ℕ → Bool) → (ℕ → ℕ) → ℕ → Option ℕ → Type 0
Says passes weight n None = (k : ℕ) → k < n → passes k ≡ true → ⊥
Says passes weight n (Some i) = Best passes weight n i

up_to : (P : ℕ → Type 0) (n : ℕ) → ((k : ℕ) → k < n → P k) → P n → (k : ℕ) → k < suc n → P k
up_to P n f z k h = elim (ℕ_discrete k n) [ yes e ↦ rw e z | no d ↦ f k (omega arith) ]

module _ (passes : ℕ → Bool) (weight : ℕ → ℕ) where
  -- The result of `best_index` is correct in this sense.
  pub says : (n : ℕ) → Says passes weight n (best_index passes weight n)
  unfolding best_index
  says zero = λ k h s. omega arith
  says (suc n) = go (best_index passes weight n) (says n) (passes n) refl
    where
      AtMost : ℕ → ℕ → Type 0
      AtMost i k = passes k ≡ true → weight k ≤ weight i

      stays : (i : ℕ) → Best passes weight n i → (passes n ≡ true → weight n < weight i) → Best passes weight (suc n) i
      stays i f less = record {
        in_range_lem = omega arith;
        does_pass = f.does_pass;
        most = up_to (AtMost i) n f.most (λ s. omega (arith, less s));
        last = up_to (λ k. passes k ≡ true → weight i ≤ weight k → k ≤ i) n f.last (λ s l. omega (arith, less s));
      }

      comes : passes n ≡ true → ((k : ℕ) → k < n → AtMost n k) → Best passes weight (suc n) n
      comes h f = record { in_range_lem = omega arith; does_pass = h; most = up_to (AtMost n) n f (λ s. omega arith); last = λ k l s m. omega arith }

      compared : (i : ℕ) → Best passes weight n i → passes n ≡ true → (c : Bool) → leb (weight i) (weight n) ≡ c → Says passes weight (suc n) (cond c (Some n) (Some i))
      compared i f h true c = comes h (λ k l s. omega (arith, f.most k l s, leb-true))
      compared i f h false c = stays i f (λ s. leb-false _ _ c)

      go : (o : Option ℕ) → Says passes weight n o → (b : Bool) → passes n ≡ b → Says passes weight (suc n) (cond (b && not_lighter weight o n) (Some n) o)
      go None f true h = comes h (λ k l s. absurd (f k l s))
      go None f false h = up_to (λ k. passes k ≡ true → ⊥) n f (λ s. false≢true (sym h ∙ s))
      go (Some i) f true h = compared i f h (leb (weight i) (weight n)) refl
      go (Some i) f false h = stays i f (λ s. absurd (false≢true (sym h ∙ s)))

  pub best_chosen : (n i : ℕ) → best_index passes weight n ≡ Some i → Best passes weight n i
  best_chosen n i e = rw e at (says n)

  -- Indices that do not pass have no effect.
  pub best_rest : (m n : ℕ) → m ≤ n → ((k : ℕ) → m ≤ k → passes k ≡ false) → best_index passes weight m ≡ best_index passes weight n
  unfolding best_index
  best_rest m zero l f = let e : m ≡ 0 = omega arith in rw e
  best_rest m (suc n) l f = elim (ℕ_discrete m (suc n)) [
    | yes e ↦ rw e
    | no d ↦ rw (f n (omega arith)) (best_rest m n (omega arith) f)
  ]

-- Two tests and two weights that agree below n select the same index.
module _ (passes passes' : ℕ → Bool) (weight weight' : ℕ → ℕ) where
  agree_on : (n : ℕ) (o : Option ℕ) → best_index passes' weight' n ≡ o → ((i : ℕ) → i < suc n → weight i ≡ weight' i) → not_lighter weight o n ≡ not_lighter weight' o n
  agree_on n None e same = refl
  agree_on n (Some i) e same =
      let h : i < suc n = omega (arith, (best_chosen passes' weight' n i e).in_range_lem) in
      rw (same i h, same n (omega arith))

  pub best_agree : (n : ℕ) → ((i : ℕ) → i < n → passes i ≡ passes' i) → ((i : ℕ) → i < n → weight i ≡ weight' i)
      → best_index passes weight n ≡ best_index passes' weight' n
  unfolding best_index
  best_agree zero tests weights = refl
  best_agree (suc n) tests weights =
      let e : best_index passes weight n ≡ best_index passes' weight' n = best_agree n (λ i h. tests i (omega arith)) (λ i h. weights i (omega arith)) in
      rw (e, agree_on n (best_index passes' weight' n) refl weights, tests n (omega arith))

module _ (passes : ℕ → Bool) (weight : ℕ → ℕ) where
  -- The step of a search: let `keep` be the form in which it keeps the index selected so far. If it keeps index n exactly if n passes and is
  -- not lighter, then it keeps the best of the first n + 1 indices after the best of the first n.
  pub keep_step : {S : Type 0} (keep : Option ℕ → S) (n : ℕ)
      → cond (passes n && not_lighter weight (best_index passes weight n) n) (keep (Some n)) (keep (best_index passes weight n)) ≡ keep (best_index passes weight (suc n))
  unfolding best_index
  keep_step {S} keep n = go (passes n && not_lighter weight (best_index passes weight n) n)
    where
      go : (c : Bool) → cond c (keep (Some n)) (keep (best_index passes weight n)) ≡ keep (cond c (Some n) (best_index passes weight n))
      go true = refl
      go false = refl

  -- A search that keeps the index and its weight.
  abbrev weighed : Option ℕ → Option (ℕ × ℕ)
  weighed o = option_map (λ (i : ℕ). (i, weight i)) o

  pub search_none : None ≡ best_below passes weight 0
  unfolding best_below
  search_none = refl

  search_step : (n : ℕ) → consider_index (best_below passes weight n) (passes n) n (weight n) ≡ best_below passes weight (suc n)
  unfolding consider_index best_below
  search_step n = go (best_index passes weight n) ∙ keep_step weighed n
    where
      go : (o : Option ℕ) → cond (passes n && at_least_best (weighed o) (weight n)) (Some (n, weight n)) (weighed o) ≡ cond (passes n && not_lighter weight o n) (Some (n, weight n)) (weighed o)
      go None = refl
      go (Some i) = refl

  pub search_on : (i : ℕ) (b b' : Option (ℕ × ℕ)) (t : Bool) (w : ℕ) → b ≡ best_below passes weight i → t ≡ passes i → w ≡ weight i → b' ≡ consider_index b t i w
      → b' ≡ best_below passes weight (i + 1)
  search_on i b b' t w h e d c = rw (c, h, e, d, add-one i) (search_step i)

  pub search_end : (i n : ℕ) (b : Option (ℕ × ℕ)) → b ≡ best_below passes weight i → n ≤ i → i ≤ n → index_kept b ≡ best_index passes weight n
  unfolding best_below
  search_end i n b h l m = let e : i ≡ n = omega arith in ap index_kept h ∙ rw e (go (best_index passes weight n))
    where
      go : (o : Option ℕ) → index_kept (weighed o) ≡ o
      go None = refl
      go (Some j) = refl

-- The branches of a step in code: t is the test, found by the code as b; w is the weight, found by the code as x.
module _ (found : Bool) (at v : ℕ) (t : Bool) (i w : ℕ) (b : Bool) (h : b ≡ t) where
  pub step_fails : not b ≡ true → best_kept found at v ≡ consider_index (best_kept found at v) t i w
  unfolding consider_index
  step_fails l = rw (known_false h l)

  module _ (l : not b ≡ false) (x : ℕ) (e : x ≡ w) where
    pub step_lighter : found ≡ true → x < v → best_kept found at v ≡ consider_index (best_kept found at v) t i w
    unfolding consider_index
    step_lighter g m = rw (known_true h l, g, ← e, lt-leb v x m)

    pub step_heavier : found ≡ true → v ≤ x → Some (i, x) ≡ consider_index (best_kept found at v) t i w
    unfolding consider_index
    step_heavier g m = rw (known_true h l, g, ← e, le-leb v x m)

    pub step_first : found ≡ false → Some (i, x) ≡ consider_index (best_kept found at v) t i w
    unfolding consider_index
    step_first g = rw (known_true h l, g, ← e)
