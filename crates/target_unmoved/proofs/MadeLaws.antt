-- A text made from the own part of a path, and the same text with the target part of the path after it: questions 7 and 8.
use Rattle.std.specs.Prelude.{Option, Some, None}
use mathlib.Core.Path.{◌≡◌, refl, sym, ap, ◌∙◌}
use mathlib.Core.Bool.{true, false, not}
use mathlib.Core.List.{◌++◌}
use Prim.Native.Nat.{ℕ}
use native.Mathlib.Omega.{arith}
use lib.Dec.{eqb}
use lib.ListN.{length-append}
use Rattle.text.specs.Text.{Text, lacks_byte}
use Rattle.path_grammar.specs.Own.{own_part, target_part}
use Rattle.path_grammar.specs.Legal.{legal_own, legal, is_end, at_most255}
use Rattle.path_grammar.proofs.OwnLaws.{own_lacks, own_of, target_of, property_scan}
use Rattle.path_grammar.proofs.LegalLaws.{legal_as, legal_without, end_unbracketed, end_undotted, fits_short, short_fits}
use Rattle.path_join.specs.Tail.{followed_by_target}
use Rattle.refusal.specs.Outcome.{checked, checked_option}
use Rattle.target_unmoved.specs.Unmoved.{LeavesTarget, LeavesTargetChecked, outcome_with_target}

-- The text q, made from the own part of the legal path p, has no bracket, and a dot exactly if that own part has one.
module _ (p : Text) (e : legal p ≡ true) (q : Text) (unbracketed : lacks_byte 91 q ≡ true) (dots : lacks_byte 46 q ≡ lacks_byte 46 (own_part p)) where
  pub made_own : own_part (q ++ target_part p) ≡ q
  made_own = own_of q p unbracketed

  pub made_target : target_part (q ++ target_part p) ≡ target_part p
  made_target = target_of q p unbracketed

  -- Both texts are legal, or neither is.
  pub made_legal : legal (q ++ target_part p) ≡ legal q
  made_legal =
      legal_as p (q ++ target_part p) e (property_scan (q ++ target_part p) ∙ ap (λ (x : Text). not (lacks_byte 46 x)) made_own ∙ ap not dots ∙ sym (property_scan p)) made_target
      ∙ ap legal_own made_own ∙ sym (legal_without q unbracketed)

  pub made_shorter : at_most255 (q ++ target_part p) ≡ true → at_most255 q ≡ true
  made_shorter h = short_fits q (omega (arith, fits_short (q ++ target_part p) h, length-append q (target_part p)))

  made_checked : checked (q ++ target_part p) ≡ outcome_with_target p (Some q)
  unfolding checked outcome_with_target
  made_checked = rw made_legal

-- What f makes of a text has the byte b exactly if that text has it.
abbrev pub KeepsByte : ℕ → (Text → Option Text) → Type 0
KeepsByte b f = (o q : Text) → f o ≡ Some q → lacks_byte b q ≡ lacks_byte b o

-- Neither ends nor separators have such a byte.
pub record NotInEnds (b : ℕ) : Type 0 where
  pub no_slash : eqb 47 b ≡ false
  pub no_end : (s : Text) → is_end s ≡ true → lacks_byte b s ≡ true

pub bracket_not : NotInEnds 91
bracket_not = record { no_slash = refl; no_end = end_unbracketed }

pub dot_not : NotInEnds 46
dot_not = record { no_slash = refl; no_end = end_undotted }

-- If f leaves the target part and keeps such bytes, the outcomes are as the answers are.
pub leaves_checked : (f : Text → Option Text) → LeavesTarget f → ((b : ℕ) → NotInEnds b → KeepsByte b f) → LeavesTargetChecked f
unfolding checked_option followed_by_target outcome_with_target
leaves_checked f leaves keeps p l = ap checked_option (leaves p l) ∙ go (f (own_part p)) refl
  where
    go : (o : Option Text) → f (own_part p) ≡ o → checked_option (followed_by_target p o) ≡ outcome_with_target p o
    go None h = refl
    go (Some q) h = made_checked p l q (keeps 91 bracket_not (own_part p) q h ∙ own_lacks p) (keeps 46 dot_not (own_part p) q h)
