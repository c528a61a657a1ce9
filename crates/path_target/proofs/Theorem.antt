-- The theorems about the target of a path, and what they say of a legal text.
use Rattle.std.specs.Prelude.{Option, Some}
use mathlib.Core.Path.{◌≡◌, refl, sym, ap, ◌∙◌}
use mathlib.Core.Logic.{◌≢◌}
use mathlib.Core.Bool.{true, false}
use mathlib.Core.List.{List, [], ◌∷◌, ◌++◌}
use Prim.Native.Nat.{ℕ, suc}
use native.Mathlib.Omega.{arith}
use lib.ListN.{length, length-append}
use lib.Seq.{take-append_seam, drop-append_seam}
use borrow.Author.Tests.{lt-ltb}
use Rattle.text.specs.Text.{Text}
use Rattle.text.proofs.TextLaws.{no_text}
use Rattle.path_grammar.specs.Legal.{legal}
use Rattle.path_grammar.specs.Own.{target_part}
use Rattle.path_grammar.specs.Grammar as g
use Rattle.path_grammar.specs.Grammar.{Rendered, own_text, bracket_text, absolute_text, render}
use Rattle.path_grammar.proofs.Render.{legal_render, target_prims, own_target, target_target}
use Rattle.path_grammar.proofs.Theorem.{legal_is_rendered}
use Rattle.path_target.specs.Target.{close_len, closed_at, has_target, embedded_target, replace_embedded_target}
use Rattle.path_target.specs.TargetTheorems.{TargetTheorems, TargetExamples}
use Rattle.path_target.proofs.TargetLaws.{closed_last, embedded_some, embedded_none, replaced_some, replaced_none, replaced_by_itself}

-- A path without brackets has no target.
no_target : (p : Text) → target_part p ≡ [] → has_target p ≡ false
unfolding has_target closed_at close_len
no_target p h = rw h

root_none : has_target (47 ∷ []) ≡ false
unfolding has_target closed_at close_len target_part
root_none = refl

prims_none : (p : g.Prim) (r : List g.Prim) (x : Option g.Property) → has_target (own_text p r x) ≡ false
prims_none p r x = no_target (own_text p r x) (target_prims p r x)

-- A path with brackets.
module _ {d : ℕ} (p : g.Prim) (r : List g.Prim) (x : g.Property) (q : g.Absolute d) where
  whole : Text
  whole = own_text p r (Some x) ++ bracket_text (absolute_text q)

  whole_has : has_target whole ≡ true
  unfolding whole has_target bracket_text
  whole_has =
      lt-ltb (closed_at whole) (length (target_part whole))
      (rw (closed_last p r x q, target_target p r x (absolute_text q)) (omega (arith, length-append (absolute_text q) (93 ∷ []))))

  whole_embedded : embedded_target whole ≡ Some (absolute_text q)
  unfolding whole bracket_text
  whole_embedded =
      embedded_some whole whole_has ∙ rw (closed_last p r x q, target_target p r x (absolute_text q), take-append_seam (absolute_text q) (93 ∷ []))

  whole_replaced : (t : Text) → replace_embedded_target whole t ≡ Some (own_text p r (Some x) ++ bracket_text t)
  unfolding whole bracket_text
  whole_replaced t =
      replaced_some whole t whole_has
      ∙ rw (closed_last p r x q, own_target p r x (absolute_text q), target_target p r x (absolute_text q), drop-append_seam (absolute_text q) (93 ∷ []))

-- The same path, where one bracket more may be open.
widen : {d : ℕ} → g.Absolute d → g.Absolute (suc d)
widen g.root = g.root
widen (g.prims p r x) = g.prims p r x
widen (g.target p r x q) = g.target p r x (widen q)

widen_text : {d : ℕ} (q : g.Absolute d) → absolute_text (widen q) ≡ absolute_text q
unfolding absolute_text widen
widen_text g.root = refl
widen_text (g.prims p r x) = refl
widen_text (g.target p r x q) = ap (λ (t : Text). own_text p r (Some x) ++ bracket_text t) (widen_text q)

-- A target is the text of an absolute path.
record Target (d : ℕ) (t : Text) : Type 0 where
  path : g.Absolute d
  same : absolute_text path ≡ t

target_of : {d : ℕ} (q : g.Absolute d) (t : Text) → embedded_target (absolute_text q) ≡ Some t → Target d t
unfolding absolute_text whole
target_of g.root t e = absurd (no_text (sym (embedded_none (47 ∷ []) root_none) ∙ e))
target_of (g.prims p r x) t e = absurd (no_text (sym (embedded_none (own_text p r x) (prims_none p r x)) ∙ e))
target_of (g.target p r x q) t e =
    let k : Some (absolute_text q) ≡ Some t = sym (whole_embedded p r x q) ∙ e in
    let i : absolute_text q ≡ t = cc in
    record { path = widen q; same = widen_text q ∙ i }

target_in : (s : Text) → legal s ≡ true → (t : Text) → embedded_target s ≡ Some t → Target 4 t
unfolding render has_target closed_at close_len target_part
target_in s e t k = go w.path (rw (← w.same) at k)
  where
    w : Rendered s
    w = (legal_is_rendered s).0 e

    go : (v : g.Path) → embedded_target (render v) ≡ Some t → Target 4 t
    go g.empty k = absurd (no_text (sym (embedded_none [] refl) ∙ k))
    go (g.absolute q) k = target_of q t k

text_long : {d : ℕ} (q : g.Absolute d) → length (absolute_text q) ≢ 0
unfolding absolute_text own_text
text_long g.root h = omega arith
text_long (g.prims p r x) h = omega arith
text_long (g.target p r x q) h = omega arith

-- So the target of a legal path is legal, and not empty.
module _ (s : Text) (e : legal s ≡ true) (t : Text) (k : embedded_target s ≡ Some t) where
  found : Target 4 t
  found = target_in s e t k

  pub target_legal : legal t ≡ true
  unfolding render
  target_legal = rw (← found.same) (legal_render (g.absolute found.path))

  pub target_not_empty : length t ≢ 0
  target_not_empty h = text_long found.path (ap length found.same ∙ h)

pub target_theorems : TargetTheorems
unfolding absolute_text whole
target_theorems =
    record {
      embedded = λ p r x q. whole_embedded p r x q;
      none_in_root = λ d. embedded_none (47 ∷ []) root_none;
      none_in_prims = λ d p r x. embedded_none (own_text p r x) (prims_none p r x);
      replaced = λ p r x q t. whole_replaced p r x q t;
      retargeted = λ p r x q t. whole_replaced p r x q (absolute_text t);
      kept_root = λ d t. replaced_none (47 ∷ []) t root_none;
      kept_prims = λ d p r x t. replaced_none (own_text p r x) t (prims_none p r x);
      inverse = replaced_by_itself;
      lawful = λ p t l e. target_legal p l t e;
    }

pub target_examples : TargetExamples
unfolding embedded_target replace_embedded_target
target_examples =
    record {
      relationship = refl;
      property = refl;
      nested = refl;
      attribute = refl;
      second = refl;
      without = refl;
      unclosed = refl;
      other = refl;
      other_of_nested = refl;
      other_of_attribute = refl;
      no_other = refl;
    }
