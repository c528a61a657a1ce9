-- The ancestors of a path are the path and the ancestors of its parent: the bound on their number, the length of the path, is never reached.
use Rattle.std.specs.Prelude.{Option, Some, None}
use mathlib.Core.Path.{◌≡◌, refl, sym, ap, ◌∙◌}
use mathlib.Core.Bool.{Bool, true, false, cond}
use mathlib.Core.List.{List, ◌∷◌}
use Prim.Native.Nat.{ℕ, zero, suc, ◌-◌, ◌≤◌}
use native.Mathlib.Omega.{arith}
use lib.ListN.{length, take}
use Rattle.text.specs.Text.{Text}
use Rattle.path_grammar.specs.Legal.{legal}
use Rattle.path_grammar.specs.Grammar as g
use Rattle.path_grammar.specs.Grammar.{render}
use Rattle.path_grammar.proofs.Theorem.{legal_is_rendered}
use Rattle.path_parts.specs.Parent.{parent_len, has_parent, parent, ancestors_from, ancestors_within, ancestors}
use Rattle.path_parts.proofs.ParentLaws.{parent_take, parent_less}
use Rattle.path_parts.proofs.AncestorLaws.{ancestors_none, ancestors_some, legal_long}
use Rattle.path_structure.specs.Structure.{parent_of, render_option, ancestors_of_option}
use Rattle.path_structure.proofs.ParentTheorem.{parents}

-- A path that leaves no step has no parent.
short_none : (p : Text) → legal p ≡ true → length p - 1 ≤ 0 → has_parent p ≡ false
short_none p e h = go (has_parent p) refl
  where
    go : (t : Bool) → has_parent p ≡ t → t ≡ false
    go true f = absurd (omega (arith, legal_long p e f))
    go false f = refl

-- With enough steps their number does not matter.
enough : (m n : ℕ) (p : Text) → legal p ≡ true → length p - 1 ≤ m → length p - 1 ≤ n → ancestors_within m p ≡ ancestors_within n p
enough zero n p e h k = ancestors_none zero p (short_none p e h) ∙ sym (ancestors_none n p (short_none p e h))
enough (suc m) zero p e h k = ancestors_none (suc m) p (short_none p e k) ∙ sym (ancestors_none zero p (short_none p e k))
enough (suc m) (suc n) p e h k = go (has_parent p) refl (enough m n (take (parent_len p) p) (parent_take p e))
  where
    q : Text
    q = take (parent_len p) p

    go : (t : Bool) → has_parent p ≡ t → (length q - 1 ≤ m → length q - 1 ≤ n → ancestors_within m q ≡ ancestors_within n q)
        → ancestors_within (suc m) p ≡ ancestors_within (suc n) p
    go false f ih = ancestors_none (suc m) p f ∙ sym (ancestors_none (suc n) p f)
    go true f ih =
        ancestors_some m p f ∙ ap (λ (l : List Text). p ∷ l) (ih (omega (arith, parent_less p e f)) (omega (arith, parent_less p e f)))
        ∙ sym (ancestors_some n p f)

-- One step, for a legal text.
ancestors_step : (p : Text) → legal p ≡ true → ancestors p ≡ p ∷ ancestors_from ancestors (parent p)
unfolding ancestors ancestors_within parent
ancestors_step p e = go (has_parent p) refl
  where
    q : Text
    q = take (parent_len p) p

    go : (t : Bool) → has_parent p ≡ t → ancestors_within (length p - 1) p ≡ p ∷ ancestors_from ancestors (cond t (Some q) None)
    go false f = ancestors_none (length p - 1) p f
    go true f =
        let n : length p - 1 ≡ suc (length p - 2) = omega (arith, legal_long p e f) in
        ap (λ (k : ℕ). ancestors_within k p) n ∙ ancestors_some (length p - 2) p f
        ∙ ap (λ (l : List Text). p ∷ l) (enough (length p - 2) (length q - 1) q (parent_take p e) (omega (arith, parent_less p e f)) (omega arith))

from_option : (o : Option g.Path) → ancestors_from ancestors (render_option o) ≡ ancestors_of_option o
unfolding render_option ancestors_of_option
from_option None = refl
from_option (Some p) = refl

rendered_legal : (p : g.Path) → legal (render p) ≡ true
rendered_legal p = (legal_is_rendered (render p)).1 (record { path = p; same = refl })

pub ancestors_are : (p : g.Path) → ancestors (render p) ≡ render p ∷ ancestors_of_option (parent_of p)
ancestors_are p =
    ancestors_step (render p) (rendered_legal p) ∙ ap (λ (o : Option Text). render p ∷ ancestors_from ancestors o) (parents p)
    ∙ ap (λ (l : List Text). render p ∷ l) (from_option (parent_of p))
