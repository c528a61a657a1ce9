-- Every wrong answer of a call that tells the rest of a path differs from the right one, by computing both.
use Rattle.std.specs.Prelude.{Result, Ok, Err, Option, Some, None}
use mathlib.Core.Path.{refl}
use Prim.Native.Nat.{ℕ, suc, ◌+◌, ◌*◌}
use Rattle.refusal.specs.Refusal.{refusal_number}
use Rattle.path_prefix.specs.Elements.{count_elements}
use Rattle.pair_list.specs.Places.{pairs_in}
use Rattle.path.specs.Calls.{rest_start_call}
use Rattle.route_spec.specs.Leg.{outward, homeward}
use Rattle.cases.specs.Lent.{store_of, places_of}
use Rattle.cases.specs.WrongRests.{source_carried, target_carried, translated_carried, routed_carried, carried_text, WrongRests}
use Rattle.cases.proofs.Tell.{apart, text_number}
use Rattle.refusal.specs.declared.Refusal.{Refusal}

-- The numbers of a rest, of the reply of `rest_start`, and of a reply with a rest.
unfoldable rest_number : Option ℕ → ℕ
rest_number (Some n) = suc n
rest_number None = 0

unfoldable rest_test_number : Result (Option ℕ) Refusal → ℕ
unfolding rest_number
rest_test_number (Ok rest) = 16 + rest_number rest
rest_test_number (Err x) = refusal_number x

unfoldable carried_number : Result (ℕ × Option ℕ) Refusal → ℕ
unfolding rest_number
carried_number (Ok (n, rest)) = 16 + n + 256 * rest_number rest
carried_number (Err x) = refusal_number x

pub wrong_rests : WrongRests
unfolding count_elements store_of places_of pairs_in outward homeward rest_start_call source_carried target_carried translated_carried routed_carried carried_text
    text_number rest_test_number carried_number
wrong_rests = record {
  start_one_later = apart rest_test_number refl;
  start_below_root = apart rest_test_number refl;
  start_with_no = apart rest_test_number refl;
  start_unvalidated = apart rest_test_number refl;
  source_one_later = apart carried_number refl;
  source_in_made = apart carried_number refl;
  source_below_root = apart carried_number refl;
  source_by_mark = apart carried_number refl;
  source_by_mark_none = apart carried_number refl;
  source_no_path = apart text_number refl;
  source_made_illegal = apart text_number refl;
  target_by_source = apart carried_number refl;
  target_no_path = apart text_number refl;
  translated_stripped = apart carried_number refl;
  translated_after_selection = apart carried_number refl;
  translated_never = apart carried_number refl;
  out_first_leg = apart carried_number refl;
  out_in_last_leg = apart carried_number refl;
  out_stripped = apart carried_number refl;
  out_no_path = apart text_number refl;
  home_last_leg = apart carried_number refl;
  home_as_out = apart carried_number refl;
}
