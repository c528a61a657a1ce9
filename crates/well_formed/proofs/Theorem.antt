-- The theorem that every path made from legal texts is well-formed UTF-8: the text made is legal, or it is joined from texts whose characters are
-- allowed.
use Rattle.std.specs.Prelude.{Option, Some, None}
use mathlib.Core.Path.{◌≡◌, refl, sym, ap, ◌∙◌}
use mathlib.Core.Bool.{Bool, true, false, cond, false≢true}
use Rattle.text.specs.Text.{Text, strip_prefix}
use Rattle.text.proofs.TextLaws.{no_text, after_up}
use Rattle.characters.specs.NameCharacter.{characters_allowed}
use Rattle.characters.proofs.Theorem.{allowed_characters}
use Rattle.characters.proofs.AllowedLaws.{allowed_after_lem}
use Rattle.path_grammar.specs.Legal.{legal, at_most255}
use Rattle.path_grammar.proofs.LegalLaws.{legal_is_allowed}
use Rattle.path_prefix.specs.Prefix.{can_follow}
use Rattle.path_join.specs.Join.{join, join_some, replace_prefix}
use Rattle.path_join.proofs.JoinLegal.{join_allowed}
use Rattle.path_parts.proofs.ParentLaws.{parent_legal, prim_legal}
use Rattle.path_parts.proofs.AncestorLaws.{ancestors_legal}
use Rattle.path_parts.proofs.StripLaws.{strip_legal}
use Rattle.path_target.proofs.Theorem.{target_theorems}
use Rattle.refusal.specs.declared.Refusal.{Refusal}
use Rattle.refusal.specs.declared.Refusal.TheVariants.{MadeTooLong, MadeIllegal}
use Rattle.refusal.specs.Outcome.{Outcome, path, refused, checked}
use Rattle.well_formed.specs.WellFormed.{WellFormed, MadeWellFormed}

allowed_well : (p : Text) → characters_allowed p ≡ true → WellFormed p
allowed_well p e = let w = allowed_characters p e in record { characters = w.characters; encoded = w.encoded }

legal_well : (p : Text) → legal p ≡ true → WellFormed p
legal_well p e = allowed_well p (legal_is_allowed p e)

-- The remainder after a legal prefix begins between two characters.
replaced_well : (p s t q : Text) → legal p ≡ true → legal s ≡ true → legal t ≡ true → replace_prefix p s t ≡ Some q → WellFormed q
unfolding replace_prefix
replaced_well p s t q lp ls lt e = go (strip_prefix s p) refl e
  where
    made : (r : Text) → strip_prefix s p ≡ Some r → characters_allowed (join s t r) ≡ true
    made r h =
        join_allowed s t r (legal_is_allowed t lt)
        (sym (allowed_after_lem s r (legal_is_allowed s ls)) ∙ ap characters_allowed (sym (after_up s p r h)) ∙ legal_is_allowed p lp)

    choose : (r : Text) → strip_prefix s p ≡ Some r → (b : Bool) → cond b (Some (join s t r)) None ≡ Some q → WellFormed q
    choose r h true f = let z : join s t r ≡ q = cc in rw (← z) (allowed_well (join s t r) (made r h))
    choose r h false f = absurd (no_text f)

    go : (o : Option Text) → strip_prefix s p ≡ o → join_some s t o ≡ Some q → WellFormed q
    go None h f = absurd (no_text f)
    go (Some r) h f = choose r h (can_follow s r) f

-- A path that passed question 8 is legal.
is_path : Outcome → Bool
is_path (path q) = true
is_path (refused x) = false

refused_not : {x : Refusal} {r : Text} → refused x ≡ path r → ⊥
unfolding is_path
refused_not e = false≢true (ap is_path e)

accepted_well : (q r : Text) → checked q ≡ path r → WellFormed r
unfolding checked
accepted_well q r e = go (at_most255 q) (legal q) refl e
  where
    go : (b c : Bool) → legal q ≡ c → cond b (cond c (path q) (refused MadeIllegal)) (refused MadeTooLong) ≡ path r → WellFormed r
    go true true h f = let z : q ≡ r = cc in rw (← z) (legal_well q h)
    go true false h f = absurd (refused_not f)
    go false c h f = absurd (refused_not f)

pub made_well_formed : MadeWellFormed
made_well_formed =
    record {
      legal_text = legal_well;
      parents = λ p q e f. legal_well q (parent_legal p q e f);
      all_ancestors = λ p i e. legal_well _ (ancestors_legal p i e);
      prim_paths = λ p e. legal_well _ (prim_legal p e);
      stripped = λ p e. legal_well _ (strip_legal p e);
      targets = λ p t e f. legal_well t (target_theorems.lawful p t e f);
      replaced = replaced_well;
      accepted = accepted_well;
    }
