-- Lemmas for the branches of the functions that go from parent to parent.
use Rattle.std.specs.Prelude.{Some, None}
use mathlib.Core.Path.{◌≡◌, refl, sym, ap, ◌∙◌}
use mathlib.Core.Bool.{Bool, true, false}
use mathlib.Core.List.{List, [], ◌∷◌, map}
use Prim.Native.Nat.{ℕ, zero, suc, ◌+◌, ◌-◌, ◌≤◌, ◌<◌}
use native.Mathlib.Omega.{arith}
use native.Mathlib.Nat.{sub-zero, zero-add}
use lib.ListN.{length, get_or, set, take, drop, length-take, length-drop}
use lib.Seq.{paste, take-take, take-length, length-take-le, drop-drop, drop-cons}
use borrow.Author.Tests.{le-leb, lt-leb}
use Rattle.text.specs.Text.{Text, fit_of, written_if_fits}
use Rattle.text.proofs.WriteLaws.{put_begin, put_on, put_length, put_end, put_over}
use Rattle.text.proofs.BoolLaws.{told}
use Rattle.path_parts.specs.Parent.{parent_len, has_parent, ancestors_within, ancestors, ancestor_lens}
use Rattle.path_parts.proofs.ParentLaws.{parent_len_le}
use Rattle.path_parts.proofs.AncestorLaws.{lens_count, ancestors_none, ancestors_least, ancestors_some}

-- The parent of a prefix of p is a prefix of p.
take_parent : (p : Text) (n m : ℕ) → n ≤ length p → m ≡ parent_len (take n p) → take m p ≡ take (parent_len (take n p)) (take n p)
take_parent p n m h e =
    let l : parent_len (take n p) ≤ n = omega (arith, parent_len_le (take n p), length-take n p) in
    rw (e, take-take (parent_len (take n p)) n p l)

pub parent_inside : (p : Text) (n m : ℕ) → n ≤ length p → m ≡ parent_len (take n p) → m ≤ length p
parent_inside p n m h e = omega (arith, parent_len_le (take n p), length-take n p)

-- The length of a prefix, as `&path[..n]` needs it.
pub beginning_long : (p : Text) (n : ℕ) → n ≤ length p → n ≡ length (take n p)
beginning_long p n h = sym (length-take-le n p h)

-- Lemmas for `ancestor_count`. The invariant: `count` paths were visited, and the last of them is the first n bytes.
pub count_begin : (p : Text) → 1 + length (ancestors p) ≡ 1 + length (ancestors_within (length p - 1) (take (length p) p))
unfolding ancestors
count_begin p = rw take-length

module _ (p : Text) (n count : ℕ) (i : 1 + length (ancestors p) ≡ count + length (ancestors_within (length p - count) (take n p))) where
  pub count_done : (b : Bool) → b ≡ has_parent (take n p) → b ≡ false → count ≡ length (ancestors p)
  count_done b f t = omega (arith, rw (ancestors_none (length p - count) (take n p) (told f t)) at i)

  pub count_end : length p ≤ count → count ≡ length (ancestors p)
  unfolding ancestors_within
  count_end h = let z : length p - count ≡ 0 = omega arith in omega (arith, rw z at i)

  pub count_on : (b : Bool) (m : ℕ) → n ≤ length p → count < length p → b ≡ has_parent (take n p) → b ≡ true → m ≡ parent_len (take n p)
      → 1 + length (ancestors p) ≡ count + 1 + length (ancestors_within (length p - (count + 1)) (take m p))
  count_on b m h l f t e =
      let z : length p - count ≡ suc (length p - (count + 1)) = omega arith in
      rw (take_parent p n m h e) (omega (arith, rw (z, ancestors_some (length p - (count + 1)) (take n p) (told f t)) at i))

pub ruleset counts = (parent_inside, beginning_long, count_begin, count_done, count_end, count_on)

-- The invariant of `write_ancestors`: the lengths from index i are those of the first n bytes and their ancestors.
pub record Ahead (p : Text) (i n : ℕ) : Type 0 where
  pub rest : i < length (ancestor_lens p) → drop i (ancestor_lens p) ≡ map length (ancestors_within (length p - 1 - i) (take n p))

pub ahead_begin : (p : Text) → Ahead p 0 (length p)
unfolding ancestor_lens ancestors
ahead_begin p = record { rest = λ h. rw (sub-zero, take-length) }

pub ahead_on : (p : Text) (i n m : ℕ) → Ahead p i n → n ≤ length p → m ≡ parent_len (take n p) → Ahead p (i + 1) m
ahead_on p i n m a l e = record { rest = λ h. go h (has_parent q) refl (length p - 1 - i) refl }
  where
    q : Text
    q = take n p

    lens : List ℕ
    lens = ancestor_lens p

    next : i + 1 < length lens → drop (i + 1) lens ≡ drop 1 (map length (ancestors_within (length p - 1 - i) q))
    next h = sym (drop-drop 1 i lens) ∙ ap (λ (t : List ℕ). drop 1 t) (a.rest (omega arith))

    none_left : i + 1 < length lens → drop (i + 1) lens ≡ [] → ⊥
    none_left h f = omega (arith, length-drop (i + 1) lens, ap length f)

    go : i + 1 < length lens → (b : Bool) → has_parent q ≡ b → (k : ℕ) → length p - 1 - i ≡ k
        → drop (i + 1) lens ≡ map length (ancestors_within (length p - 1 - (i + 1)) (take m p))
    go h false f k g = absurd (none_left h (rw (ancestors_none (length p - 1 - i) q f) at (next h)))
    go h true f zero g = absurd (none_left h (rw (g, ancestors_least q) at (next h)))
    go h true f (suc k) g =
        let z : length p - 1 - (i + 1) ≡ k = omega arith in
        rw (z, take_parent p n m l e) (rw (g, ancestors_some k q f) at (next h))

-- The first ancestor is the path itself.
first_is : (k : ℕ) (q : Text) (x : ℕ) (t : List ℕ) → x ∷ t ≡ map length (ancestors_within k q) → x ≡ length q
unfolding ancestors_within
first_is zero q x t f = cc
first_is (suc k) q x t f = cc

ahead_first : (p : Text) (i n : ℕ) → Ahead p i n → n ≤ length p → i < length (ancestor_lens p) → get_or (ancestor_lens p) i 0 ≡ n
ahead_first p i n a l h =
    first_is (length p - 1 - i) (take n p) (get_or (ancestor_lens p) i 0) (drop (suc i) (ancestor_lens p)) (rw (drop-cons (ancestor_lens p) i 0 h) at (a.rest h))
    ∙ length-take-le n p l

module _ (p d : Text) (count : ℕ) (c : count ≡ length (ancestors p)) where
  pub lens_over : length d < count → None ≡ fit_of (ancestor_lens p) d
  unfolding fit_of
  lens_over h = rw (lens_count p, ← c, lt-leb count (length d) h)

  pub lens_kept : length d < count → d ≡ written_if_fits 0 (ancestor_lens p) d
  lens_kept h = put_over d (ancestor_lens p) 0 (omega arith) (rw (lens_count p, ← c, sub-zero) h)

  module _ (now : Text) (i : ℕ) (g : count ≤ length d) (e : now ≡ paste d 0 (ancestor_lens p) i) where
    pub lens_on : (n : ℕ) → Ahead p i n → n ≤ length p → i < count → set now i n ≡ paste d 0 (ancestor_lens p) (i + 1)
    lens_on n a l h =
        let k : i < length (ancestor_lens p) = rw (lens_count p, ← c) h in
        rw (zero-add i, ahead_first p i n a l k) at (put_on d (ancestor_lens p) now 0 i (omega arith) (rw (lens_count p, ← c, sub-zero) g) k e)

    pub lens_end : count ≤ i → i ≤ count → now ≡ written_if_fits 0 (ancestor_lens p) d
    lens_end h k = put_end d (ancestor_lens p) now 0 i (omega arith) (rw (lens_count p, ← c, sub-zero) g) (rw (lens_count p, ← c) h) (rw (lens_count p, ← c) k) e

  pub lens_fit : count ≤ length d → Some count ≡ fit_of (ancestor_lens p) d
  unfolding fit_of
  lens_fit g = rw (lens_count p, ← c, le-leb count (length d) g)

pub ruleset writes = (parent_inside, beginning_long, ahead_begin, ahead_on, lens_over, lens_kept, lens_on, lens_end, lens_fit, put_begin, put_length)
