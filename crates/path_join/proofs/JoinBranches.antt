-- Lemmas for the branches of `is_join_illegal`, `write_separator`, `has_separator`, `join` and `is_join`.
use Rattle.std.specs.Prelude.{Some, None}
use mathlib.Core.Path.{◌≡◌, refl, sym, ◌∙◌}
use mathlib.Core.Logic.{◌≢◌}
use mathlib.Core.Bool.{Bool, true, false, not, cond, ◌&&◌, ◌||◌}
use mathlib.Core.List.{[], ◌∷◌, ◌++◌, append_assoc}
use Prim.Native.Nat.{ℕ, zero, suc, ◌+◌, ◌-◌, ◌≤◌, ◌<◌}
use native.Mathlib.Nat.{zero-add}
use native.Mathlib.Omega.{arith}
use native.Mathlib.Numerals.{add-one}
use lib.Dec.{eqb, leb}
use lib.ListN.{length, get_or, set, take, drop, length-append, drop_of_length-le}
use lib.Seq.{length-take-le, take-nil, set_split, set-get_or, drop-cons, drop-drop}
use borrow.Author.Tests.{eq-eqb, ne_eqb, eqb-true, eqb-false, le-leb, lt-leb}
use Rattle.text.specs.Text.{Text, is_nil, equal, starts_with, strip_prefix, written_if_fits, fit_of}
use Rattle.text.proofs.BoolLaws.{and_no, and_yes, or_right, or_false, known_false, known_true}
use Rattle.text.proofs.TextLaws.{equal_append, equal_lengths}
use Rattle.text.proofs.WriteLaws.{placed_first, placed_next, rest_whole, over_none}
use Rattle.path_grammar.specs.Legal.{is_root}
use Rattle.path_join.specs.Join.{separator, body, join, join_illegal}
use Rattle.path_join.specs.Layout.{LaysOut}
use Rattle.path_join.proofs.SeparatorLaws.{join_length}

-- A nonempty text, by its first byte.
cons : (r : Text) → length r ≢ 0 → r ≡ get_or r 0 0 ∷ drop 1 r
cons [] d = absurd (d refl)
cons (a ∷ r) d = refl

pub suffix_open : (a : ℕ) → a ≡ 123 → true ≡ (eqb a 46 || eqb a 123)
suffix_open a e = sym (or_right (eqb a 46) (eqb a 123) (eq-eqb a 123 e))

pub suffix_dot : (a : ℕ) → a ≢ 123 → eqb a 46 ≡ (eqb a 46 || eqb a 123)
suffix_dot a d = rw (ne_eqb a 123 d) (sym (or_false (eqb a 46)))

pub illegal_none : (t r : Text) → length r ≡ 0 → false ≡ join_illegal t r
unfolding join_illegal
illegal_none t [] e = sym (and_no (is_nil t || is_root t))
illegal_none t (a ∷ r) e = absurd (omega arith)

module _ (t r : Text) (b : Bool) (h : b ≡ (eqb (get_or r 0 0) 46 || eqb (get_or r 0 0) 123)) where
  pub illegal_not : length r ≢ 0 → not b ≡ true → false ≡ join_illegal t r
  unfolding join_illegal
  illegal_not e k = rw (cons r e, known_false h k) (sym (and_no (is_nil t || is_root t)))

  pub illegal_empty : length r ≢ 0 → not b ≡ false → length t ≡ 0 → true ≡ join_illegal t r
  unfolding join_illegal
  illegal_empty e k l = rw (cons r e, known_true h k) (go t l)
    where
      go : (t : Text) → length t ≡ 0 → true ≡ ((is_nil t || is_root t) && true)
      go [] l = refl
      go (a ∷ t) l = absurd (omega arith)

  pub illegal_root : (c : Bool) → length r ≢ 0 → not b ≡ false → length t ≢ 0 → c ≡ is_root t → c ≡ join_illegal t r
  unfolding join_illegal
  illegal_root c e k l m = rw (cons r e, known_true h k) (m ∙ go t l)
    where
      go : (t : Text) → length t ≢ 0 → is_root t ≡ ((is_nil t || is_root t) && true)
      go [] l = absurd (l refl)
      go (a ∷ t) l = sym (and_yes (is_root (a ∷ t)))

pub ruleset illegals = (suffix_dot, suffix_open, illegal_none, illegal_not, illegal_empty, illegal_root)

-- `write_separator` stores the old byte again, or a slash.
module _ (at : ℕ) (out : Text) where
  pub separator_outside : (k : ℕ) → length out ≤ at → out ≡ written_if_fits at (take k (47 ∷ [])) out
  unfolding written_if_fits
  separator_outside zero h = go (leb (at + 0) (length out))
    where
      go : (b : Bool) → out ≡ cond b (take at out ++ drop (at + 0) out) out
      go true = over_none at out
      go false = refl
  separator_outside (suc k) h = rw (take-nil k, lt-leb (at + 1) (length out) (omega arith))

  pub separator_stored : (k : ℕ) → k ≤ 1 → at < length out → set out at (get_or (get_or out at 0 ∷ 47 ∷ []) k 0) ≡ written_if_fits at (take k (47 ∷ [])) out
  unfolding written_if_fits
  separator_stored zero s h =
      rw (set-get_or out at 0, le-leb (at + 0) (length out) (omega arith)) (over_none at out)
  separator_stored (suc zero) s h = rw (le-leb (at + 1) (length out) (omega arith), add-one at) (set_split out at 47 h)
  separator_stored (suc (suc k)) s h = absurd (omega arith)

-- `has_separator`
slash_first : (a : ℕ) (x : Text) → eqb a 47 ≡ starts_with (47 ∷ []) (a ∷ x)
unfolding starts_with strip_prefix
slash_first a x = go (eqb a 47) refl
  where
    go : (b : Bool) → eqb a 47 ≡ b → eqb a 47 ≡ starts_with (47 ∷ []) (a ∷ x)
    go true e = rw (eqb-true a 47 e)
    go false e = rw (e, ne_eqb 47 a (λ z. eqb-false a 47 e (sym z)))

module _ (at : ℕ) (x : Text) where
  pub separator_beyond : (k : ℕ) → length x ≤ at → eqb k 0 ≡ starts_with (take k (47 ∷ [])) (drop at x)
  unfolding starts_with strip_prefix
  separator_beyond zero h = refl
  separator_beyond (suc k) h = rw (ne_eqb (suc k) 0 (λ z. omega arith), drop_of_length-le x h)

  pub separator_there : (k : ℕ) → at < length x → (eqb k 0 || eqb (get_or x at 0) 47) ≡ starts_with (take k (47 ∷ [])) (drop at x)
  unfolding starts_with strip_prefix
  separator_there zero h = refl
  separator_there (suc k) h = rw (ne_eqb (suc k) 0 (λ z. omega arith), take-nil k, drop-cons x at 0 h) (slash_first (get_or x at 0) (drop (suc at) x))

pub ruleset separators = (separator_outside, separator_stored, separator_beyond, separator_there)

-- A text that does not fit.
over_long : (t out : Text) → length out < length t → (None ≡ fit_of t out) × (out ≡ written_if_fits 0 t out)
unfolding fit_of written_if_fits
over_long t out h = rw (zero-add (length t), lt-leb (length t) (length out) h) (refl, refl)

-- `join` and `is_join`: the join is the new prefix, k bytes of a slash, and the remainder from index f.
module _ (s t r : Text) (k f : ℕ) (l : LaysOut s t r k f) where
  slash_length : length {A = ℕ} (take k (47 ∷ [])) ≡ k
  slash_length = length-take-le k (47 ∷ []) l.separator_short

  body_length : length (take (length r - f) (drop f r)) ≡ length (body s r)
  body_length = rw (rest_whole r f, l.body_is)

  joined_length : length (join s t r) ≡ length t + k + length (take (length r - f) (drop f r))
  joined_length = omega (arith, join_length s t r, body_length, l.separator_is)

  joined : t ++ (take k (47 ∷ []) ++ body s r) ≡ join s t r
  unfolding join separator
  joined = rw l.separator_is

  -- `join`
  module _ (out : Text) where
    pub join_over : length out < length t + k + length (take (length r - f) (drop f r)) → (None ≡ fit_of (join s t r) out) × (out ≡ written_if_fits 0 (join s t r) out)
    join_over h = over_long (join s t r) out (omega (arith, joined_length))

    pub join_fits : (x y z : Text) → length t + k + length (take (length r - f) (drop f r)) ≤ length out
        → x ≡ written_if_fits 0 t out → y ≡ written_if_fits (length t) (take k (47 ∷ [])) x → z ≡ written_if_fits (length t + k) (take (length r - f) (drop f r)) y
        → (Some (length t + k + length (take (length r - f) (drop f r))) ≡ fit_of (join s t r) out) × (z ≡ written_if_fits 0 (join s t r) out)
    unfolding fit_of
    join_fits x y z h ex ey ez =
        let a : Text = take k (47 ∷ []) in
        let b : Text = body s r in
        let m : length (t ++ a) ≡ length t + k = omega (arith, length-append t a, slash_length) in
        let o : t ++ a ++ b ≡ join s t r = append_assoc t a b ∙ joined in (
          rw (joined_length, le-leb (length t + k + length (take (length r - f) (drop f r))) (length out) h),
          rw (
            ez,
            ey,
            ex,
            placed_first t out (omega arith),
            placed_next t a out (omega (arith, slash_length)),
            rest_whole r f,
            l.body_is,
            ← m,
            placed_next (t ++ a) b out (omega (arith, body_length)),
            o,
            placed_first (join s t r) out (omega (arith, joined_length)),
          ),
        )

  -- `is_join`
  module _ (x : Text) where
    join_equal : equal (join s t r) x ≡ (starts_with t x && (starts_with (take k (47 ∷ [])) (drop (length t) x) && equal (body s r) (drop (length t + k) x)))
    join_equal =
        let a : Text = take k (47 ∷ []) in
        rw (← joined) (equal_append t (a ++ body s r) x ∙ rw (equal_append a (body s r) (drop (length t) x), slash_length, drop-drop))

    pub join_unequal : length x ≢ length t + k + length (take (length r - f) (drop f r)) → false ≡ equal (join s t r) x
    join_unequal d = equal_lengths (join s t r) x (λ z. d (omega (arith, joined_length)))

    module _ (a : Bool) (h : a ≡ starts_with t x) where
      pub join_other : not a ≡ true → false ≡ equal (join s t r) x
      join_other p = sym (join_equal ∙ rw (known_false h p))

      module _ (p : not a ≡ false) (b : Bool) (i : b ≡ starts_with (take k (47 ∷ [])) (drop (length t) x)) where
        pub join_unseparated : not b ≡ true → false ≡ equal (join s t r) x
        join_unseparated m = sym (join_equal ∙ rw (known_true h p, known_false i m))

        pub join_same : not b ≡ false → (c : Bool) → c ≡ equal (take (length r - f) (drop f r)) (take (length x - (length t + k)) (drop (length t + k) x))
            → c ≡ equal (join s t r) x
        join_same m c n = n ∙ rw (rest_whole r f, l.body_is, rest_whole x (length t + k)) (sym (join_equal ∙ rw (known_true h p, known_true i m)))
