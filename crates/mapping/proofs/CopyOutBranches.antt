-- Lemmas for the branches of `copy_out`, `map_into`, `translate_into` and `translate_stripped`.
use Rattle.std.specs.Prelude.{Result, Ok, Err, Option, Some, None, ⊤}
use mathlib.Core.Path.{◌≡◌, refl, sym, ap, ◌∙◌}
use mathlib.Core.Bool.{Bool, true, false, not, cond, ◌&&◌}
use Prim.Native.Nat.{ℕ, ◌≤◌}
use native.Mathlib.Omega.{arith}
use lib.ListN.{length, take, drop, length-append}
use lib.Seq.{length-take-le}
use lib.Dec.{leb}
use borrow.Author.Tests.{leb-true}
use Rattle.text.specs.Text.{Text, is_nil}
use Rattle.text.proofs.BoolLaws.{known_false, known_true}
use Rattle.text.proofs.WriteLaws.{placed_first, read_back}
use Rattle.path_grammar.specs.Legal.{at_most255}
use Rattle.path_grammar.specs.Own.{has_variant_selection}
use Rattle.path_join.specs.Join.{join, join_illegal}
use Rattle.path_parts.specs.Strip.{strip, strip_fit, strip_buffer}
use Rattle.path_parts.proofs.StripLaws.{strip_same, strip_back}
use Rattle.refusal.specs.declared.Refusal.{Refusal}
use Rattle.refusal.specs.declared.Refusal.TheVariants.{NoRoom, NoPath, MadeTooLong, MadeIllegal}
use Rattle.refusal.specs.Outcome.{Outcome, path, refused, outcome_reply, outcome_buffer, require_room, after_checks}
use Rattle.map_rest.specs.MapRest.{source_rest, translated_rest}
use Rattle.map_spec.specs.Map.{Map, map_source, map_target, match_source, match_target, eq_index}
use Rattle.map_apply.specs.Fast.{join_checked, keep_path, map_fast_by, map_fast, is_none, translate_by_mark, translate_by_pair, translate_fast_by, translate_fast}
use Rattle.mapping.specs.CopyOut.{reply_within, copied_out}

-- The path of an outcome, if it is one, has at most 255 bytes.
abbrev pub Short : Outcome → Type 0
Short o = (q : Text) → o ≡ path q → length q ≤ 255

pub short_refused : (x : Refusal) → Short (refused x)
short_refused x q e = absurd (let z : ◌≡◌ {A = ℕ} 0 1 = cc in omega arith)

pub short_cond : (b : Bool) (x y : Outcome) → Short x → Short y → Short (cond b x y)
short_cond true x y h k = h
short_cond false x y h k = k

short_fits : (t : Text) → Short (cond (at_most255 t) (path t) (refused MadeTooLong))
unfolding at_most255
short_fits t = go (leb (length t) 255) refl
  where
    go : (b : Bool) → leb (length t) 255 ≡ b → Short (cond b (path t) (refused MadeTooLong))
    go true h q e = let z : t ≡ q = cc in rw (← z) (leb-true (length t) 255 h)
    go false h q e = short_refused MadeTooLong q e

short_joining : (s t r : Text) → Short (join_checked s t r)
unfolding join_checked
short_joining s t r = short_cond (join_illegal t r) (refused MadeIllegal) (cond (at_most255 (join s t r)) (path (join s t r)) (refused MadeTooLong)) (short_refused MadeIllegal) (short_fits (join s t r))

short_keeping : (mark : Bool) (p : Text) → Short (keep_path mark p)
unfolding keep_path
short_keeping mark p = short_cond mark (cond (at_most255 p) (path p) (refused MadeTooLong)) (refused NoPath) (short_fits p) (short_refused NoPath)

short_by : (mark : Bool) (a b t : ℕ → Text) (p : Text) (o : Option ℕ) → Short (map_fast_by mark a b t p o)
unfolding map_fast_by
short_by mark a b t p None = short_keeping mark p
short_by mark a b t p (Some i) =
    short_cond (is_nil (t i)) (refused NoPath) (join_checked (a i) (b i) (drop (length (a i)) p)) (short_refused NoPath) (short_joining (a i) (b i) (drop (length (a i)) p))

pub short_fast : (invert : Bool) (m : Map) (p : Text) → Short (map_fast invert m p)
unfolding map_fast
short_fast false m p = short_by m.mark (map_source m) (map_target m) (map_target m) p (match_source m p)
short_fast true m p = short_by m.mark (map_target m) (map_source m) (map_target m) p (match_target m p)

short_pair : (m : Map) (i : ℕ) (s t r : Text) → Short (translate_by_pair m i s t r)
unfolding translate_by_pair
short_pair m i s t r =
    short_cond (leb (length (join s t r)) 512) (cond (eq_index (Some i) (match_target m (join s t r))) (join_checked s t r) (refused NoPath)) (refused MadeTooLong)
    (short_cond (eq_index (Some i) (match_target m (join s t r))) (join_checked s t r) (refused NoPath) (short_joining s t r) (short_refused NoPath))
    (short_refused MadeTooLong)

pub short_translate : (m : Map) (p : Text) → Short (translate_fast m p)
unfolding translate_fast translate_fast_by translate_by_mark
short_translate m p = go (match_source m p)
  where
    go : (o : Option ℕ) → Short (translate_fast_by m p o)
    go None = short_cond (m.mark && is_none (match_target m p)) (keep_path true p) (refused NoPath) (short_keeping true p) (short_refused NoPath)
    go (Some i) =
        short_cond (is_nil (map_target m i)) (refused NoPath) (translate_by_pair m i (map_source m i) (map_target m i) (drop (length (map_source m i)) p)) (short_refused NoPath)
        (short_pair m i (map_source m i) (map_target m i) (drop (length (map_source m i)) p))

-- The path of a call has at most 255 bytes if that holds once validation has passed.
pub short_answered : (a : Result ⊤ Refusal) (room : ℕ) (o : Outcome) → (a ≡ Ok tt → Short o) → Short (after_checks a room o)
unfolding after_checks require_room
short_answered (Ok tt) room o h = short_cond (leb 255 room) o (refused NoRoom) (h refl) (short_refused NoRoom)
short_answered (Err x) room o h = short_refused x

-- Lemmas for `copy_out`.
module _ (r : Result ℕ Refusal) (made : Text) (p : reply_within r (length made)) (n : ℕ) (e : r ≡ Ok n) where
  pub copy_part : n ≡ length (take n made)
  copy_part = sym (length-take-le n made (rw e at p))

-- The path of an outcome that was written to a scratch buffer of 255 bytes is copied to the lent buffer as the outcome states.
module _ (o : Outcome) (r : Result ℕ Refusal) (buf made : Text) (h : r ≡ outcome_reply o) (m : made ≡ outcome_buffer o buf) where
  room : (o : Outcome) → reply_within (outcome_reply o) (length (outcome_buffer o buf))
  unfolding outcome_reply outcome_buffer
  room (path q) = simp length-append (omega arith)
  room (refused x) = tt

  goes : (out : Text) (o : Outcome) → 255 ≤ length out → Short o → copied_out (outcome_reply o) (outcome_buffer o buf) out ≡ outcome_buffer o out
  unfolding outcome_reply outcome_buffer
  goes out (path q) l s = rw (read_back q buf) (placed_first q out (omega (arith, s q refl)))
  goes out (refused x) l s = refl

  pub made_within : reply_within r (length made)
  made_within = rw (h, m) (room o)

  pub made_out : (a : Result ℕ Refusal) (out out' : Text) → 255 ≤ length out → Short o → (a ≡ r) × (out' ≡ copied_out r made out) → (a ≡ outcome_reply o) × (out' ≡ outcome_buffer o out)
  made_out a out out' l s w = (w.0 ∙ h, w.1 ∙ rw (h, m) (goes out o l s))

-- Lemmas for `translate_stripped`.
pub translate_plain : (m : Map) (p : Text) (b : Bool) → b ≡ has_variant_selection p → not b ≡ true → translate_fast m (strip p) ≡ translate_fast m p
translate_plain m p b h k = ap (translate_fast m) (strip_same p (known_false h k))

-- A path without selections has the rest of plain mapping; one with selections has none.
module _ (m : Map) (p : Text) (b : Bool) (h : b ≡ has_variant_selection p) where
  pub translated_rest_plain : not b ≡ true → translated_rest m p ≡ source_rest m p
  unfolding translated_rest
  translated_rest_plain k = rw (known_false h k)

  pub translated_rest_stripped : not b ≡ false → translated_rest m p ≡ None
  unfolding translated_rest
  translated_rest_stripped k = rw (known_true h k)

pub translate_back : (p buf : Text) (f : Option ℕ) → length p ≤ length buf → f ≡ strip_fit p buf → (k : ℕ) → f ≡ Some k → (mem : Text) → mem ≡ strip_buffer p buf → (o : Map)
    → translate_fast o (strip p) ≡ translate_fast o (take k mem)
translate_back p buf f s h k e mem m o = ap (translate_fast o) (sym (strip_back p buf f s h k e mem m))
