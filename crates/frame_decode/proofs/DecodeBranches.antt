-- Lemmas about the branches of the frame parser, one for each form of a payload.
use Rattle.std.specs.Prelude.{Option, Some, None}
use mathlib.Core.Path.{◌≡◌, refl, sym, ap, ◌∙◌}
use mathlib.Core.Logic.{◌≢◌}
use mathlib.Core.Bool.{Bool, true, false, cond}
use mathlib.Core.List.{[], ◌∷◌}
use Prim.Native.Nat.{ℕ, zero, suc, ◌+◌, ◌*◌, ◌-◌, ◌≤◌, ◌<◌}
use native.Mathlib.Omega.{arith}
use lib.Dec.{leb}
use lib.ListN.{length, get_or, take, drop, length-drop}
use lib.Seq.{length-take-le}
use borrow.Author.Tests.{ne_eqb, le-leb, leb-true}
use Rattle.text.specs.Text.{Text, is_nil}
use Rattle.text.proofs.TextLaws.{nil_length}
use Rattle.frames_spec.specs.Frame.{Action, add_one_pair, Form, no_payload, field, first_field, with_target, with_source, kinds, form_of, decode_payload, decode_form, with_kind}
use Rattle.frame_decode.specs.declared.FrameHeader.{FrameHeader}
use Rattle.frame_decode.specs.declared.FrameHeader.TheVariants.{AddPair}
use Rattle.frame_decode.specs.Header.{header_of, decoded_of, decoded_alone}

-- Fewer than two bytes contain no length.
too_few : (x : Text) → length x < 2 → first_field x ≡ None
too_few [] h = refl
too_few (a ∷ []) h = refl
too_few (a ∷ b ∷ x) h = absurd (omega arith)

-- Two bytes at n, and the bytes after them.
two_at : (n : ℕ) (r : Text) → n + 2 ≤ length r → drop n r ≡ get_or r n 0 ∷ get_or r (n + 1) 0 ∷ drop (n + 2) r
two_at zero [] h = absurd (omega arith)
two_at zero (a ∷ []) h = absurd (omega arith)
two_at zero (a ∷ b ∷ r) h = refl
two_at (suc n) [] h = absurd (omega arith)
two_at (suc n) (a ∷ r) h =
    let y : suc n + 1 ≡ suc (n + 1) = omega arith in
    let z : suc n + 2 ≡ suc (n + 2) = omega arith in
    rw (y, z) (two_at n r (omega arith))

not_nil : (x : Text) → 0 < length x → is_nil x ≡ false
not_nil [] h = absurd (omega arith)
not_nil (a ∷ x) h = refl

-- The number that two bytes of a payload encode.
abbrev number_at : Text → ℕ → ℕ
number_at b at = 256 * get_or b at 0 + get_or b (at + 1) 0

-- The payload of a pair.
module _ (f : Text → Text → Action) where
  -- A source that leaves no space for the target's length.
  no_target : (h l : ℕ) (r : Text) → length r < 256 * h + l + 2 → None ≡ with_source f (first_field (h ∷ l ∷ r))
  no_target h l r k = go (leb (256 * h + l) (length r)) refl
    where
      go : (b : Bool) → leb (256 * h + l) (length r) ≡ b
          → None ≡ with_source f (cond b (Some (record { text = take (256 * h + l) r; rest = drop (256 * h + l) r })) None)
      go true e =
          sym (ap (with_target f (take (256 * h + l) r)) (too_few (drop (256 * h + l) r) (rw (length-drop (256 * h + l) r) (omega (arith, leb-true (256 * h + l) (length r) e, k)))))
      go false e = refl

  -- A target after the source.
  with_target_lem : (h l : ℕ) (r : Text) (n : ℕ) → n ≡ 256 * h + l → n + 2 ≤ length r
      → with_source f (first_field (h ∷ l ∷ r)) ≡ with_target f (take n r) (field (256 * get_or r n 0 + get_or r (n + 1) 0) (drop (n + 2) r))
  with_target_lem h l r n e k =
      rw (← e, le-leb n (length r) (omega (arith, k))) (ap (λ (x : Text). with_target f (take n r) (first_field x)) (two_at n r k))

  -- A target that does not fill the frame, and one that does.
  not_filled : (s : Text) (m : ℕ) (x : Text) → length x ≢ m → None ≡ with_target f s (field m x)
  not_filled s m x k = go (leb m (length x)) refl
    where
      go : (b : Bool) → leb m (length x) ≡ b → None ≡ with_target f s (cond b (Some (record { text = take m x; rest = drop m x })) None)
      go true e =
          sym (ap (λ (b : Bool). cond b (Some (f s (take m x))) None)
          (not_nil (drop m x) (rw (length-drop m x) (omega (arith, leb-true m (length x) e, k)))))
      go false e = refl

  filled : (s : Text) (m : ℕ) (x : Text) → length x ≡ m → Some (f s (take m x)) ≡ with_target f s (field m x)
  filled s m x k =
      rw (le-leb m (length x) (omega (arith, k)))
      (sym (ap (λ (b : Bool). cond b (Some (f s (take m x))) None) (nil_length (drop m x) (rw (length-drop m x) (omega (arith, k))))))

  module _ (p : Text) where
    short : length p < 4 → None ≡ with_source f (first_field p)
    short h = go p h
      where
        go : (p : Text) → length p < 4 → None ≡ with_source f (first_field p)
        go [] k = refl
        go (h ∷ []) k = refl
        go (h ∷ l ∷ r) k = no_target h l r (omega (arith, k))

    module _ (k : 4 ≤ length p) (n : ℕ) (e : n ≡ number_at p 0) where
      over : length p - 4 < n → None ≡ with_source f (first_field p)
      over h = go p k e h
        where
          go : (p : Text) → 4 ≤ length p → n ≡ number_at p 0 → length p - 4 < n → None ≡ with_source f (first_field p)
          go [] k e h = absurd (omega arith)
          go (x ∷ []) k e h = absurd (omega arith)
          go (x ∷ y ∷ r) k e h = no_target x y r (omega (arith, k, e, h))

      module _ (l : n ≤ length p - 4) (m : ℕ) (g : m ≡ number_at p (2 + n)) where
        -- The payload, split at the target's length and the target.
        opened : with_source f (first_field p) ≡ with_target f (take n (drop 2 p)) (field m (drop (4 + n) p))
        opened = go p k e l g
          where
            go : (p : Text) → 4 ≤ length p → n ≡ number_at p 0 → n ≤ length p - 4 → m ≡ number_at p (2 + n)
                → with_source f (first_field p) ≡ with_target f (take n (drop 2 p)) (field m (drop (4 + n) p))
            go [] k e l g = absurd (omega arith)
            go (x ∷ []) k e l g = absurd (omega arith)
            go (x ∷ y ∷ r) k e l g =
                let i : 2 + n ≡ suc (suc n) = omega arith in
                let j : 2 + n + 1 ≡ suc (suc (n + 1)) = omega arith in
                let o : 4 + n ≡ suc (suc (n + 2)) = omega arith in
                let w : m ≡ 256 * get_or r n 0 + get_or r (n + 1) 0
                = g ∙ ap (λ (v : ℕ). 256 * get_or (x ∷ y ∷ r) v 0 + get_or (x ∷ y ∷ r) (2 + n + 1) 0) i
                ∙ ap (λ (v : ℕ). 256 * get_or r n 0 + get_or (x ∷ y ∷ r) v 0) j in
                with_target_lem x y r n e (omega (arith, k, l))
                ∙ ap (λ (v : ℕ). with_target f (take n r) (field v (drop (n + 2) r))) (sym w)
                ∙ ap (λ (v : ℕ). with_target f (take n r) (field m (drop v (x ∷ y ∷ r)))) (sym o)

        left : length (drop (4 + n) p) ≡ length p - 4 - n
        left = length-drop (4 + n) p ∙ omega arith

        other : length p - 4 - n ≢ m → None ≡ with_source f (first_field p)
        other h = not_filled (take n (drop 2 p)) m (drop (4 + n) p) (λ z. h (sym left ∙ z)) ∙ sym opened

        whole : length p - 4 - n ≡ m → Some (f (take n (drop 2 p)) (take m (drop (4 + n) p))) ≡ with_source f (first_field p)
        whole h = filled (take n (drop 2 p)) m (drop (4 + n) p) (left ∙ h) ∙ sym opened

-- `decode_pair`
module _ (k : ℕ) (p : Text) where
  -- The parse result for the action.
  abbrev decoded : Option Action → Option (ℕ × FrameHeader)
  decoded o = decoded_of (with_kind k o)

  pub pair_short : length p < 4 → None ≡ decoded (with_source add_one_pair (first_field p))
  pair_short h = ap decoded (short add_one_pair p h)

  module _ (h : 4 ≤ length p) (n : ℕ) (e : n ≡ number_at p 0) where
    pub pair_over : length p - 4 < n → None ≡ decoded (with_source add_one_pair (first_field p))
    pair_over l = ap decoded (over add_one_pair p h n e l)

    module _ (l : n ≤ length p - 4) (m : ℕ) (g : m ≡ number_at p (2 + n)) where
      pub pair_other : length p - 4 - n ≢ m → None ≡ decoded (with_source add_one_pair (first_field p))
      pair_other w = ap decoded (other add_one_pair p h n e l m g w)

      pub pair_filled : length p - 4 - n ≡ m → Some (k, AddPair n m) ≡ decoded (with_source add_one_pair (first_field p))
      pair_filled w =
          let s : length (take n (drop 2 p)) ≡ n = length-take-le n (drop 2 p) (rw (length-drop 2 p) (omega (arith, h, l))) in
          let t : length (take m (drop (4 + n) p)) ≡ m
          = length-take-le m (drop (4 + n) p) (rw (left add_one_pair p h n e l m g ∙ w) (omega arith)) in
          ap (λ (i : ℕ). Some (k, AddPair i m)) (sym s) ∙ ap (λ (j : ℕ). Some (k, AddPair (length (take n (drop 2 p))) j)) (sym t)
          ∙ ap decoded (whole add_one_pair p h n e l m g w)

pub ruleset fills = (pair_short, pair_over, pair_other, pair_filled)

-- `decode_nothing`
module _ (k : ℕ) (p : Text) (h : FrameHeader) where
  pub alone_more : 0 < length p → None ≡ decoded_alone k p h
  alone_more l = rw (not_nil p l) refl

  pub alone_only : length p ≤ 0 → Some (k, h) ≡ decoded_alone k p h
  alone_only l = rw (nil_length p (omega (arith, l))) refl

pub ruleset alone = (alone_more, alone_only)

-- `decode_kind`: an arm for the kind j, whose line in the table has the form f.
module _ (k j : ℕ) (p : Text) (h : k ≡ j) (f : Form) (e : form_of j kinds ≡ Some f) (r : Option (ℕ × FrameHeader)) where
  pub of_kind : r ≡ decoded_of (with_kind k (decode_payload f p)) → r ≡ decoded_of (with_kind k (decode_form (form_of k kinds) p))
  of_kind w = rw (ap (λ (i : ℕ). form_of i kinds) h ∙ e) w

-- An arm for a kind that has no bytes after the kind byte.
pub of_kind_alone : (k j : ℕ) (p : Text) → k ≡ j → (a : Action) → form_of j kinds ≡ Some (no_payload a) → (r : Option (ℕ × FrameHeader)) → r ≡ decoded_alone k p (header_of a)
    → r ≡ decoded_of (with_kind k (decode_form (form_of k kinds) p))
of_kind_alone k j p h a e r w = of_kind k j p h (no_payload a) e r (w ∙ go (is_nil p))
  where
    go : (t : Bool) → cond t (Some (k, header_of a)) None ≡ decoded_of (with_kind k (cond t (Some a) None))
    go true = refl
    go false = refl

pub kind_other : (k : ℕ) (p : Text) → k ≢ 1 → k ≢ 2 → k ≢ 3 → k ≢ 4 → k ≢ 5 → k ≢ 6 → k ≢ 7 → None ≡ decoded_of (with_kind k (decode_form (form_of k kinds) p))
kind_other k p a c d e f g h = rw (ne_eqb k 1 a, ne_eqb k 2 c, ne_eqb k 3 d, ne_eqb k 4 e, ne_eqb k 5 f, ne_eqb k 6 g, ne_eqb k 7 h)
