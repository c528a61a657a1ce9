-- Laws of the brackets of a path: first for any bytes, then for the grammar as data.
use Rattle.std.specs.Prelude.{Some, None}
use mathlib.Core.Path.{◌≡◌, refl, sym, ap, ◌∙◌}
use mathlib.Core.Bool.{Bool, true, false}
use mathlib.Core.List.{List, [], ◌∷◌, ◌++◌, append_assoc}
use Prim.Native.Nat.{ℕ, suc, ◌+◌, ◌-◌, ◌<◌}
use native.Mathlib.Omega.{arith}
use lib.Dec.{eqb, eqb-suc-zero}
use lib.ListN.{length, take, drop, length-append, take-append-drop}
use borrow.Author.Tests.{ltb-true}
use Rattle.text.specs.Text.{Text, lacks_byte}
use Rattle.text.proofs.TextLaws.{no_text, lacks_first, lacks_rest}
use Rattle.path_grammar.specs.Own.{own_part, target_part}
use Rattle.path_grammar.proofs.LegalLaws.{own_unclosed}
use Rattle.path_grammar.specs.Grammar as g
use Rattle.path_grammar.specs.Grammar.{own_text, bracket_text, absolute_text}
use Rattle.path_grammar.proofs.OwnLaws.{own_parts, target_head}
use Rattle.path_grammar.proofs.Render.{own_render, target_target, own_unbracketed_text}
use Rattle.path_target.specs.Target.{bracket_depth, close_len, closed_at, has_target, embedded_target, replace_embedded_target}

-- The two parts of a path have its length.
pub parts_length : (p : Text) → length (own_part p) + length (target_part p) ≡ length p
parts_length p = sym (length-append (own_part p) (target_part p)) ∙ ap length (own_parts p)

-- What is known of a path with a target: after the first `[` come the bytes `rest`, and the closing `]` is not the first byte of the target part.
pub record HasBrackets (p : Text) : Type 0 where
  pub rest : Text
  pub starts : target_part p ≡ 91 ∷ rest
  pub closes : closed_at p ≡ suc (close_len 1 rest)
  pub inside : closed_at p < length (target_part p)

pub brackets_of : (p : Text) → has_target p ≡ true → HasBrackets p
unfolding has_target closed_at close_len bracket_depth
brackets_of p e = go (target_part p) refl (ltb-true (close_len 0 (target_part p)) (length (target_part p)) e)
  where
    go : (t : Text) → target_part p ≡ t → close_len 0 (target_part p) < length (target_part p) → HasBrackets p
    go [] h l = absurd (omega (arith, rw h at l))
    go (a ∷ r) h l =
        let b : target_part p ≡ 91 ∷ r = h ∙ ap (λ (x : ℕ). x ∷ r) (target_head p a r h) in
        record { rest = r; starts = b; closes = rw b; inside = l }

-- The target and the replacement, if it is known whether there are brackets.
module _ (p : Text) where
  pub embedded_some : has_target p ≡ true → embedded_target p ≡ Some (drop 1 (take (closed_at p) (target_part p)))
  unfolding embedded_target
  embedded_some e = rw e

  pub embedded_none : has_target p ≡ false → embedded_target p ≡ None
  unfolding embedded_target
  embedded_none e = rw e

  pub replaced_some : (t : Text) → has_target p ≡ true → replace_embedded_target p t ≡ Some (own_part p ++ (91 ∷ (t ++ drop (closed_at p) (target_part p))))
  unfolding replace_embedded_target
  replaced_some t e = rw e

  pub replaced_none : (t : Text) → has_target p ≡ false → replace_embedded_target p t ≡ None
  unfolding replace_embedded_target
  replaced_none t e = rw e

-- The target replaced by itself.
pub replaced_by_itself : (p t : Text) → embedded_target p ≡ Some t → replace_embedded_target p t ≡ Some p
replaced_by_itself p t e = go (has_target p) refl
  where
    go : (b : Bool) → has_target p ≡ b → replace_embedded_target p t ≡ Some p
    go false h = absurd (no_text (sym (embedded_none p h) ∙ e))
    go true h =
        let w : HasBrackets p = brackets_of p h in
        let n : ℕ = close_len 1 w.rest in
        let k : Some (take n w.rest) ≡ Some t = rw (w.closes, w.starts) at (sym (embedded_some p h) ∙ e) in
        let i : take n w.rest ≡ t = cc in
        let whole : own_part p ++ 91 ∷ w.rest ≡ p = rw w.starts at (own_parts p) in
        let parts : take n w.rest ++ drop n w.rest ≡ w.rest = take-append-drop n w.rest in
        replaced_some p t h ∙ rw (w.closes, w.starts, ← i, parts, whole)

-- Reading a bracket, and reading another byte, if k + 1 brackets are open.
close_open : (k : ℕ) (s : Text) → close_len k (91 ∷ s) ≡ suc (close_len (suc k) s)
unfolding close_len bracket_depth
close_open k s = rw (eqb-suc-zero k)

close_shut : (k : ℕ) (s : Text) → close_len (suc (suc k)) (93 ∷ s) ≡ suc (close_len (suc k) s)
unfolding close_len bracket_depth
close_shut k s = let e : suc (suc k) - 1 ≡ suc k = omega arith in rw (e, eqb-suc-zero k)

close_last : (s : Text) → close_len 1 (93 ∷ s) ≡ 0
unfolding close_len bracket_depth
close_last s = refl

close_other : (k a : ℕ) (s : Text) → eqb a 91 ≡ false → eqb a 93 ≡ false → close_len (suc k) (a ∷ s) ≡ suc (close_len (suc k) s)
unfolding close_len bracket_depth
close_other k a s h i = rw (h, i, eqb-suc-zero k)

-- A text without brackets is passed over.
close_plain : (k : ℕ) (o s : Text) → lacks_byte 91 o ≡ true → lacks_byte 93 o ≡ true → close_len (suc k) (o ++ s) ≡ length o + close_len (suc k) s
close_plain k [] s h i = omega arith
close_plain k (a ∷ o) s h i =
    let e : close_len (suc k) (a ∷ (o ++ s)) ≡ suc (close_len (suc k) (o ++ s)) = close_other k a (o ++ s) (lacks_first 91 a o h) (lacks_first 93 a o i) in
    omega (arith, e, close_plain k o s (lacks_rest 91 a o h) (lacks_rest 93 a o i))

-- The brackets of an absolute path are balanced, so it is passed over too.
pub balanced : {d : ℕ} (q : g.Absolute d) (k : ℕ) (s : Text) → close_len (suc k) (absolute_text q ++ s) ≡ length (absolute_text q) + close_len (suc k) s
unfolding absolute_text bracket_text lacks_byte
balanced g.root k s = close_plain k (47 ∷ []) s refl refl
balanced (g.prims p r x) k s =
    close_plain k (own_text p r x) s (own_unbracketed_text p r x) (own_unclosed (own_text p r x) (own_render p r x))
balanced (g.target p r x q) k s =
    let o : Text = own_text p r (Some x) in
    let t : Text = absolute_text q in
    let own : close_len (suc k) (o ++ (91 ∷ ((t ++ 93 ∷ []) ++ s))) ≡ length o + close_len (suc k) (91 ∷ ((t ++ 93 ∷ []) ++ s))
    = close_plain k o (91 ∷ ((t ++ 93 ∷ []) ++ s)) (own_unbracketed_text p r (Some x)) (own_unclosed o (own_render p r (Some x))) in
    let inner : close_len (suc (suc k)) ((t ++ 93 ∷ []) ++ s) ≡ length t + close_len (suc (suc k)) (93 ∷ s)
    = ap (close_len (suc (suc k))) (append_assoc t (93 ∷ []) s) ∙ balanced q (suc k) (93 ∷ s) in
    let long : length (o ++ (91 ∷ (t ++ 93 ∷ []))) ≡ length o + suc (length t + 1)
    = length-append o (91 ∷ (t ++ 93 ∷ [])) ∙ ap (λ (n : ℕ). length o + suc n) (length-append t (93 ∷ [])) in
    ap (close_len (suc k)) (append_assoc o (91 ∷ (t ++ 93 ∷ [])) s)
    ∙ omega (arith, own, close_open (suc k) ((t ++ 93 ∷ []) ++ s), inner, close_shut k s, long)

-- So the balanced `]` of a path with a target is its last byte.
module _ {d : ℕ} (p : g.Prim) (r : List g.Prim) (x : g.Property) (q : g.Absolute d) where
  closed : close_len 0 (bracket_text (absolute_text q)) ≡ suc (length (absolute_text q))
  unfolding bracket_text
  closed = omega (arith, close_open 0 (absolute_text q ++ 93 ∷ []), balanced q 0 (93 ∷ []), close_last [])

  pub closed_last : closed_at (own_text p r (Some x) ++ bracket_text (absolute_text q)) ≡ suc (length (absolute_text q))
  unfolding closed_at
  closed_last = rw (target_target p r x (absolute_text q)) closed
