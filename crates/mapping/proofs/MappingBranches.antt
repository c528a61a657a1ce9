-- The calls that map a path, as the code performs them.
use Rattle.std.specs.Prelude.{Result, Ok, ⊤}
use mathlib.Core.Path.{◌≡◌, sym}
use mathlib.Core.Bool.{true, false}
use mathlib.Core.List.{List, [], ◌∷◌}
use Prim.Native.Nat.{ℕ, ◌≤◌}
use native.Mathlib.Omega.{arith}
use lib.ListN.{length}
use Rattle.text.specs.Text.{Text}
use Rattle.path_grammar.specs.Legal.{legal}
use Rattle.path_parts.specs.Strip.{strip}
use Rattle.path_parts.proofs.StripLaws.{strip_shorter, strip_legal}
use Rattle.refusal.specs.Outcome.{checked_option}
use Rattle.refusal.proofs.CallBranches.{answered_same}
use Rattle.pair_list.specs.Pair.{all_short, all_ends}
use Rattle.validate.specs.Validate.{LentList, validate_call}
use Rattle.validate.proofs.PassedLaws.{first_sound, text_short, text_legal}
use Rattle.map_spec.specs.Map.{Map, map_source_to_target, map_target_to_source, translate_to_target}
use Rattle.map_apply.specs.Fast.{map_fast, translate_fast}
use Rattle.map_apply.proofs.FastLaws.{fast_out, fast_home, fast_translated}
use Rattle.map_function.specs.declared.MapFunction.{MapFunction}
use Rattle.map_function.specs.MapFunction.{list_of, map_of}
use Rattle.mapping.specs.Calls.{mapping_call, map_source_to_target_call, map_target_to_source_call, translate_to_target_call}
use Rattle.refusal.specs.declared.Refusal.{Refusal}

module _ (store : Text) (places : List ℕ) (f : MapFunction) (p : Text) (room : ℕ) where
  abbrev m : Map
  m = map_of store places f

  abbrev l : LentList
  l = list_of store places f

  abbrev questions : Result ⊤ Refusal
  questions = validate_call (l ∷ []) (p ∷ []) []

  -- A call whose validation passed has a legal path of at most 255 bytes, and ends.
  module _ (e : questions ≡ Ok tt) where
    is_short : length p ≤ 255
    is_short = text_short (l ∷ []) p [] [] e

    is_legal : legal p ≡ true
    is_legal = text_legal (l ∷ []) p [] [] e

    are_ends_lem : all_ends m.pairs ≡ true
    are_ends_lem = (first_sound l [] (p ∷ []) [] e).ends

    are_short : all_short m.pairs ≡ true
    are_short = (first_sound l [] (p ∷ []) [] e).shorts

  pub out_validated : map_source_to_target_call store places f p room ≡ mapping_call store places f p room (map_fast false m p)
  unfolding map_source_to_target_call
  out_validated =
      answered_same questions room (checked_option (map_source_to_target m p)) (map_fast false m p)
      (λ e. sym (fast_out m p (are_ends_lem e) (is_legal e) (is_short e)))

  pub home_validated : map_target_to_source_call store places f p room ≡ mapping_call store places f p room (map_fast true m p)
  unfolding map_target_to_source_call
  home_validated =
      answered_same questions room (checked_option (map_target_to_source m p)) (map_fast true m p)
      (λ e. sym (fast_home m p (are_ends_lem e) (is_legal e) (is_short e)))

  pub translate_validated : translate_to_target_call store places f p room ≡ mapping_call store places f p room (translate_fast m (strip p))
  unfolding translate_to_target_call translate_to_target
  translate_validated =
      answered_same questions room (checked_option (translate_to_target m p)) (translate_fast m (strip p))
      (λ e. sym (fast_translated m (strip p) (are_ends_lem e) (are_short e) (strip_legal p (is_legal e)) (omega (arith, strip_shorter p, is_short e))))
