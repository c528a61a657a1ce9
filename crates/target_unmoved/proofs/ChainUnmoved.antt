-- Chaining and shifting leave the target part: every replacement makes the same of the path and of its own part.
use Rattle.std.specs.Prelude.{Option, Some, None}
use Rattle.std.specs.Option.{unwrap_or, is_some}
use mathlib.Core.Path.{◌≡◌, refl, sym, ap, ◌∙◌}
use mathlib.Core.Bool.{Bool, true, false, cond, true≢false}
use mathlib.Core.List.{List, ◌∷◌, ◌++◌}
use mathlib.Core.Logic.{◌⊎◌, inl, inr}
use Prim.Native.Nat.{ℕ, zero, suc, ◌+◌}
use native.Mathlib.Omega.{arith}
use lib.ListN.{length, take, length-append}
use lib.Seq.{take-append_seam}
use Rattle.text.specs.Text.{Text, is_nil, equal, lacks_byte}
use Rattle.text.proofs.BoolLaws.{and_no}
use Rattle.text.proofs.TextLaws.{no_text, equal_is, equal_self, lacks_append}
use Rattle.path_grammar.specs.Own.{own_part, target_part}
use Rattle.path_grammar.specs.Legal.{legal, is_end, at_most255}
use Rattle.path_grammar.proofs.OwnLaws.{own_parts, own_lacks}
use Rattle.path_grammar.proofs.LegalLaws.{end_unbracketed, end_undotted}
use Rattle.path_join.specs.Join.{replace_prefix}
use Rattle.path_join.specs.Tail.{followed_by_target}
use Rattle.path_join.proofs.TailLaws.{appended, replace_before, replaced_lacks, leaves_target}
use Rattle.refusal.specs.declared.Refusal.TheVariants.{MadeTooLong, MadeIllegal}
use Rattle.refusal.specs.Outcome.{path, refused, checked}
use Rattle.pair_list.specs.Pair.{Pair, pair_at, source_at, target_at, all_ends}
use Rattle.pair_list.proofs.BestLaws.{best_agree}
use Rattle.map_spec.proofs.EndLaws.{ends_source, ends_target}
use Rattle.relocate_chain.specs.Chain.{longest_source, replacement_at, longest_replacement, is_skipped, if_altered, replacement, next_replacement, Chained, chained, stopped, continue_chain, chain_step, chain_from, chain, shift_through_nearest_ancestor}
use Rattle.target_unmoved.specs.Unmoved.{LeavesTarget, LeavesTargetChecked, chained_with_target}
use Rattle.target_unmoved.proofs.MadeLaws.{KeepsByte, NotInEnds, bracket_not, dot_not, leaves_checked, made_own, made_target, made_legal, made_shorter}

-- Two texts with the same text appended are equal exactly if they are.
cancel_tail : (q o t : Text) → q ++ t ≡ o ++ t → q ≡ o
cancel_tail q o t e =
    let l : length q + length t ≡ length o + length t = sym (length-append q t) ∙ ap length e ∙ length-append o t in
    let k : length q ≡ length o = omega arith in
    sym (take-append_seam q t) ∙ ap (take (length q)) e ∙ ap (λ (n : ℕ). take n (o ++ t)) k ∙ take-append_seam o t

equal_tail : (q o t : Text) → equal (q ++ t) (o ++ t) ≡ equal q o
equal_tail q o t = go (equal q o) refl (equal (q ++ t) (o ++ t)) refl
  where
    go : (b : Bool) → equal q o ≡ b → (c : Bool) → equal (q ++ t) (o ++ t) ≡ c → c ≡ b
    go true h true k = refl
    go true h false k = absurd (true≢false (sym (rw (equal_is q o h) (equal_self (o ++ t))) ∙ k))
    go false h true k = absurd (true≢false (sym (rw (cancel_tail q o t (equal_is (q ++ t) (o ++ t) k)) (equal_self o)) ∙ h))
    go false h false k = refl

-- A text that has a byte differs from one that lacks it.
differ : (b : ℕ) (s o : Text) → lacks_byte b s ≡ true → lacks_byte b o ≡ false → equal s o ≡ false
differ b s o h k = go (equal s o) refl
  where
    go : (c : Bool) → equal s o ≡ c → c ≡ false
    go true e = absurd (true≢false (sym h ∙ ap (lacks_byte b) (equal_is s o e) ∙ k))
    go false e = refl

-- The longest replacement, if every pair makes of two paths the same up to a tail.
module _ (l : List Pair) (t : Text) (f g : Pair → Option Text) (same : (i : ℕ) → f (pair_at l i) ≡ appended t (g (pair_at l i))) where
  some_both : (o : Option Text) → is_some (appended t o) ≡ is_some o
  unfolding appended
  some_both None = refl
  some_both (Some q) = refl

  longest_both : longest_replacement f l ≡ appended t (longest_replacement g l)
  unfolding longest_replacement longest_source appended
  longest_both =
      ap (replacement_at f l)
      (best_agree (λ i. is_some (f (pair_at l i))) (λ i. is_some (g (pair_at l i))) (λ i. length (source_at l i)) (λ i. length (source_at l i)) (length l)
      (λ i h. ap is_some (same i) ∙ some_both (g (pair_at l i))) (λ i h. refl))
      ∙ go (longest_source g l (length l))
    where
      go : (o : Option ℕ) → replacement_at f l o ≡ appended t (replacement_at g l o)
      go None = refl
      go (Some i) = same i

-- A text o with a dot, a bracket after it, and a pair of ends.
module _ (o z : Text) (dotted : lacks_byte 46 o ≡ false) (x : Pair) (es : is_end x.source ≡ true) where
  altered_before : if_altered (o ++ 91 ∷ z) (replace_prefix (o ++ 91 ∷ z) x.source x.target) ≡ appended (91 ∷ z) (if_altered o (replace_prefix o x.source x.target))
  unfolding if_altered appended
  altered_before = rw (replace_before o z x.source dotted es x.target) (go (replace_prefix o x.source x.target))
    where
      either : (b : Bool) (q : Text) → cond b None (Some (q ++ 91 ∷ z)) ≡ appended (91 ∷ z) (cond b None (Some q))
      either true q = refl
      either false q = refl

      go : (r : Option Text) → if_altered (o ++ 91 ∷ z) (appended (91 ∷ z) r) ≡ appended (91 ∷ z) (if_altered o r)
      go None = refl
      go (Some q) = rw (equal_tail q o (91 ∷ z)) (either (equal q o) q)

  -- What the pair makes of both, if both or neither skip it.
  replacement_before : (alters : Bool) (skip skip' : Option Text) → is_skipped skip x.source ≡ is_skipped skip' x.source
      → replacement alters skip (o ++ 91 ∷ z) x ≡ appended (91 ∷ z) (replacement alters skip' o x)
  unfolding replacement appended
  replacement_before alters skip skip' k = rw k (go (is_nil x.target) (is_skipped skip' x.source) alters)
    where
      go : (b c d : Bool)
          → cond b None (cond c None (cond d (if_altered (o ++ 91 ∷ z) (replace_prefix (o ++ 91 ∷ z) x.source x.target)) (replace_prefix (o ++ 91 ∷ z) x.source x.target)))
          ≡ appended (91 ∷ z) (cond b None (cond c None (cond d (if_altered o (replace_prefix o x.source x.target)) (replace_prefix o x.source x.target))))
      go true c d = refl
      go false true d = refl
      go false false true = altered_before
      go false false false = replace_before o z x.source dotted es x.target

  -- Neither the path nor its own part is the source of a pair, so shifting skips none.
  never_skipped : is_skipped (Some (o ++ 91 ∷ z)) x.source ≡ is_skipped (Some o) x.source
  unfolding is_skipped lacks_byte
  never_skipped =
      differ 91 x.source (o ++ 91 ∷ z) (end_unbracketed x.source es) (lacks_append 91 o (91 ∷ z) ∙ and_no (lacks_byte 91 o))
      ∙ sym (differ 46 x.source o (end_undotted x.source es) dotted)

module _ (l : List Pair) (ends : all_ends l ≡ true) where
  next_before : (skip : Option Text) (o z : Text) → lacks_byte 46 o ≡ false → next_replacement skip l (o ++ 91 ∷ z) ≡ appended (91 ∷ z) (next_replacement skip l o)
  unfolding next_replacement
  next_before skip o z d =
      longest_both l (91 ∷ z) (replacement true skip (o ++ 91 ∷ z)) (replacement true skip o)
      (λ i. replacement_before o z d (pair_at l i) (ends_source l ends i) true skip skip refl)

  pub next_leaves : (skip : Option Text) → LeavesTarget (next_replacement skip l)
  next_leaves skip = leaves_target (next_replacement skip l) (next_before skip)

  -- What shifting finds, before it falls back to the path itself.
  found : Text → Option Text
  found x = longest_replacement (replacement false (Some x) x) l

  found_before : (o z : Text) → lacks_byte 46 o ≡ false → found (o ++ 91 ∷ z) ≡ appended (91 ∷ z) (found o)
  unfolding found
  found_before o z d =
      longest_both l (91 ∷ z) (replacement false (Some (o ++ 91 ∷ z)) (o ++ 91 ∷ z)) (replacement false (Some o) o)
      (λ i. replacement_before o z d (pair_at l i) (ends_source l ends i) false (Some (o ++ 91 ∷ z)) (Some o) (never_skipped o z d (pair_at l i) (ends_source l ends i)))

  shifted : Text → Option Text
  shifted p = Some (shift_through_nearest_ancestor l p)

  shifted_before : (o z : Text) → lacks_byte 46 o ≡ false → shifted (o ++ 91 ∷ z) ≡ appended (91 ∷ z) (shifted o)
  unfolding shifted shift_through_nearest_ancestor found appended
  shifted_before o z d = ap (λ (x : Option Text). Some (unwrap_or x (o ++ 91 ∷ z))) (found_before o z d) ∙ go (found o)
    where
      go : (x : Option Text) → Some (unwrap_or (appended (91 ∷ z) x) (o ++ 91 ∷ z)) ≡ Some (unwrap_or x o ++ 91 ∷ z)
      go None = refl
      go (Some q) = refl

  shifted_leaves : LeavesTarget shifted
  shifted_leaves = leaves_target shifted shifted_before

  pub shift_leaves : (p : Text) → legal p ≡ true → shift_through_nearest_ancestor l p ≡ shift_through_nearest_ancestor l (own_part p) ++ target_part p
  unfolding shifted followed_by_target
  shift_leaves p k = let e : shifted p ≡ followed_by_target p (shifted (own_part p)) = shifted_leaves p k in cc

-- A byte that no end has is in the path made exactly if it was in the path before.
module _ (l : List Pair) (ends : all_ends l ≡ true) (b : ℕ) (n : NotInEnds b) where
  pair_keeps : (alters : Bool) (skip : Option Text) (o q : Text) (i : ℕ) → replacement alters skip o (pair_at l i) ≡ Some q → lacks_byte b q ≡ lacks_byte b o
  unfolding replacement if_altered
  pair_keeps alters skip o q i e = go (is_nil (target_at l i)) (is_skipped skip (source_at l i)) alters (replace_prefix o (source_at l i) (target_at l i)) refl e
    where
      made : (r : Text) → replace_prefix o (source_at l i) (target_at l i) ≡ Some r → Some r ≡ Some q → lacks_byte b q ≡ lacks_byte b o
      made r k e =
          let w : r ≡ q = cc in
          rw (← w)
          (replaced_lacks b n.no_slash o (source_at l i) (target_at l i) r (n.no_end (source_at l i) (ends_source l ends i)) (n.no_end (target_at l i) (ends_target l ends i)) k)

      altered : (c : Bool) (r : Text) → replace_prefix o (source_at l i) (target_at l i) ≡ Some r → cond c None (Some r) ≡ Some q → lacks_byte b q ≡ lacks_byte b o
      altered true r k e = absurd (no_text e)
      altered false r k e = made r k e

      go : (c d a : Bool) (r : Option Text) → replace_prefix o (source_at l i) (target_at l i) ≡ r → cond c None (cond d None (cond a (if_altered o r) r)) ≡ Some q
          → lacks_byte b q ≡ lacks_byte b o
      go true d a r k e = absurd (no_text e)
      go false true a r k e = absurd (no_text e)
      go false false true None k e = absurd (no_text e)
      go false false true (Some r) k e = altered (equal r o) r k e
      go false false false None k e = absurd (no_text e)
      go false false false (Some r) k e = made r k e

  longest_keeps : (alters : Bool) (skip : Option Text) (o q : Text) → longest_replacement (replacement alters skip o) l ≡ Some q → lacks_byte b q ≡ lacks_byte b o
  unfolding longest_replacement
  longest_keeps alters skip o q e = go (longest_source (replacement alters skip o) l (length l)) e
    where
      go : (i : Option ℕ) → replacement_at (replacement alters skip o) l i ≡ Some q → lacks_byte b q ≡ lacks_byte b o
      go None e = absurd (no_text e)
      go (Some i) e = pair_keeps alters skip o q i e

  next_keeps : (skip : Option Text) → KeepsByte b (next_replacement skip l)
  unfolding next_replacement
  next_keeps skip o q e = longest_keeps true skip o q e

  shifted_keeps : KeepsByte b (shifted l ends)
  unfolding shifted shift_through_nearest_ancestor
  shifted_keeps o q e = go (longest_replacement (replacement false (Some o) o) l) refl e
    where
      go : (x : Option Text) → longest_replacement (replacement false (Some o) o) l ≡ x → Some (unwrap_or x o) ≡ Some q → lacks_byte b q ≡ lacks_byte b o
      go None h e = let w : o ≡ q = cc in ap (lacks_byte b) (sym w)
      go (Some r) h e = let w : r ≡ q = cc in rw (← w) (longest_keeps false (Some o) o r h)

module _ (l : List Pair) (ends : all_ends l ≡ true) where
  pub next_checks : (skip : Option Text) → LeavesTargetChecked (next_replacement skip l)
  next_checks skip = leaves_checked (next_replacement skip l) (next_leaves l ends skip) (λ b n. next_keeps l ends b n skip)

  pub shift_checks : LeavesTargetChecked (λ (p : Text). Some (shift_through_nearest_ancestor l p))
  unfolding shifted
  shift_checks = leaves_checked (shifted l ends) (shifted_leaves l ends) (shifted_keeps l ends)

-- Two chains agree up to the target part, unless the first was stopped by a path that is too long.
Agree : Text → Chained → Chained → Type 0
Agree p x y = (x ≡ chained_with_target p y) ⊎ (x ≡ stopped MadeTooLong)

-- Only the target part of p counts.
agree_same : (p r : Text) → target_part r ≡ target_part p → (x y y' : Chained) → y ≡ y' → Agree r x y → Agree p x y'
unfolding Agree chained_with_target
agree_same p r t x y y' e (inl h) = inl (h ∙ go y ∙ ap (chained_with_target p) e)
  where
    go : (y : Chained) → chained_with_target r y ≡ chained_with_target p y
    go (chained q k) = ap (λ (z : Text). chained (q ++ z) k) t
    go (stopped x) = refl
agree_same p r t x y y' e (inr h) = inr h

module _ (l : List Pair) (ends : all_ends l ≡ true) (skip : Option Text) where
  -- The path made from the own part of p, and the same followed by the target part of p: one more step.
  module _ (p : Text) (e : legal p ≡ true) (q : Text) (made : next_replacement skip l (own_part p) ≡ Some q) where
    unbracketed : lacks_byte 91 q ≡ true
    unbracketed = next_keeps l ends 91 bracket_not skip (own_part p) q made ∙ own_lacks p

    dots : lacks_byte 46 q ≡ lacks_byte 46 (own_part p)
    dots = next_keeps l ends 46 dot_not skip (own_part p) q made

    step_agrees : (n k : ℕ) → ((r : Text) → legal r ≡ true → Agree r (chain_from skip l n r (suc k)) (chain_from skip l n (own_part r) (suc k)))
        → Agree p (chain_step (chain_from skip l n) p k (Some (q ++ target_part p))) (chain_step (chain_from skip l n) (own_part p) k (Some q))
    unfolding Agree chain_step checked chained_with_target
    step_agrees n k later = short (at_most255 whole) refl
      where
        whole : Text
        whole = q ++ target_part p

        both : legal whole ≡ legal q
        both = made_legal p e q unbracketed dots

        legal_both : (b : Bool) → legal whole ≡ b → at_most255 q ≡ true
            → Agree p (continue_chain (chain_from skip l n) k (cond b (path whole) (refused MadeIllegal))) (continue_chain (chain_from skip l n) k (checked q))
        legal_both true h s =
            rw (s, ← both, h)
            (agree_same p whole (made_target p e q unbracketed dots) (chain_from skip l n whole (suc k)) (chain_from skip l n (own_part whole) (suc k)) (chain_from skip l n q (suc k))
            (ap (λ (o : Text). chain_from skip l n o (suc k)) (made_own p e q unbracketed dots)) (later whole h))
        legal_both false h s = rw (s, ← both, h) (inl refl)

        short : (b : Bool) → at_most255 whole ≡ b
            → Agree p (continue_chain (chain_from skip l n) k (cond b (cond (legal whole) (path whole) (refused MadeIllegal)) (refused MadeTooLong)))
            (continue_chain (chain_from skip l n) k (checked q))
        short true h = legal_both (legal whole) refl (made_shorter p e q unbracketed dots h)
        short false h = inr refl

  chain_agrees : (n : ℕ) (p : Text) → legal p ≡ true → (k : ℕ) → Agree p (chain_from skip l n p k) (chain_from skip l n (own_part p) k)
  unfolding chain_from chain_step Agree chained_with_target followed_by_target
  chain_agrees zero p e k = inl (ap (λ (x : Text). chained x k) (sym (own_parts p)))
  chain_agrees (suc n) p e k = rw (next_leaves l ends skip p e) (go (next_replacement skip l (own_part p)) refl (λ r f. chain_agrees n r f (suc k)))
    where
      go : (o : Option Text) → next_replacement skip l (own_part p) ≡ o
          → ((r : Text) → legal r ≡ true → Agree r (chain_from skip l n r (suc k)) (chain_from skip l n (own_part r) (suc k)))
          → Agree p (chain_step (chain_from skip l n) p k (followed_by_target p o)) (chain_step (chain_from skip l n) (own_part p) k o)
      go None h later = inl (ap (λ (x : Text). chained x k) (sym (own_parts p)))
      go (Some q) h later = step_agrees p e q h n k later

  pub chain_leaves : (p : Text) → legal p ≡ true → (chain skip l p ≡ chained_with_target p (chain skip l (own_part p))) ⊎ (chain skip l p ≡ stopped MadeTooLong)
  unfolding chain Agree
  chain_leaves p e = chain_agrees (length l) p e 0
