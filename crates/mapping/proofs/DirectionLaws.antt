-- A call on a list that was validated before equals the call that validates the list itself.
use Rattle.std.specs.Prelude.{Result, Ok, Err, ⊤}
use mathlib.Core.Path.{◌≡◌, refl, sym, ap, ◌∙◌}
use mathlib.Core.Bool.{true, false}
use mathlib.Core.List.{List, [], ◌∷◌}
use Prim.Native.Nat.{ℕ, ◌≤◌, ◌<◌}
use lib.ListN.{length}
use Rattle.text.specs.Text.{Text}
use Rattle.refusal.specs.declared.Refusal.{Refusal}
use Rattle.refusal.specs.declared.Refusal.TheVariants.{NoRoom}
use Rattle.refusal.specs.Outcome.{refused}
use Rattle.path.specs.Calls.{path_new_call}
use Rattle.refusal.proofs.CallBranches.{answered_refused, answered_short, answered_passed}
use Rattle.refusal.proofs.PassedLaws.{passed_short}
use Rattle.path_parts.specs.Strip.{strip}
use Rattle.validate.specs.Validate.{lent_list, validate_call, first_refusal}
use Rattle.validate.proofs.RefusalLaws.{none_earlier, one_by_one}
use Rattle.map_spec.specs.Map.{Map}
use Rattle.map_function.specs.declared.MapFunction.{MapFunction}
use Rattle.map_function.specs.MapFunction.{map_of}
use Rattle.mapping.specs.declared.Direction.{Direction}
use Rattle.mapping.specs.declared.Direction.TheVariants.{Out, Home, Translated}
use Rattle.mapping.specs.Direction.{map_fast_in, after_list_validated}
use Rattle.mapping.specs.Calls.{direction_call}
use Rattle.mapping.proofs.CopyOutBranches.{Short, short_fast, short_translate, short_answered}
use Rattle.mapping.proofs.MappingBranches.{out_validated, home_validated, translate_validated}
use Rattle.validate.proofs.PassedLaws.{empty_validated}

new_short : (p : Text) → path_new_call p ≡ Ok tt → length p ≤ 255
unfolding path_new_call
new_short p h = passed_short p (path_new_call p) refl h

-- Lemmas for `map_after_list`.
pub after_length : (list : Result ⊤ Refusal) (p : Text) (n q : Result ⊤ Refusal) → n ≡ path_new_call p → q ≡ first_refusal list n → q ≡ Ok tt → length p ≤ 255
after_length list p n q g h k = new_short p (none_earlier list (path_new_call p) (sym (h ∙ ap (first_refusal list) g) ∙ k)).1

module _ (list : Result ⊤ Refusal) (direction : Direction) (store : Text) (places : List ℕ) (f : MapFunction) (p : Text) (room : ℕ) (n q : Result ⊤ Refusal) (g : n ≡ path_new_call p) (h : q ≡ first_refusal list n) where
  both : q ≡ first_refusal list (path_new_call p)
  both = h ∙ ap (first_refusal list) g

  pub after_refused : (x : Refusal) → q ≡ Err x → after_list_validated list direction store places f p room ≡ refused x
  unfolding after_list_validated
  after_refused x k = answered_refused (first_refusal list (path_new_call p)) room (map_fast_in direction (map_of store places f) p) q both x k

  pub after_short : q ≡ Ok tt → room < 255 → after_list_validated list direction store places f p room ≡ refused NoRoom
  unfolding after_list_validated
  after_short k l = answered_short (first_refusal list (path_new_call p)) room (map_fast_in direction (map_of store places f) p) q both k l

  pub after_passed : q ≡ Ok tt → 255 ≤ room → after_list_validated list direction store places f p room ≡ map_fast_in direction (map_of store places f) p
  unfolding after_list_validated
  after_passed k l = answered_passed (first_refusal list (path_new_call p)) room (map_fast_in direction (map_of store places f) p) q both k l

-- Validating a list and a path yields, of the two results, the refusal whose question is put first, so the call equals the one that is
-- given the result for the list.
pub after_is_call : (direction : Direction) (store : Text) (places : List ℕ) (f : MapFunction) (p : Text) (room : ℕ)
    → after_list_validated (validate_call (lent_list store places f.count ∷ []) [] []) direction store places f p room ≡ direction_call direction store places f p room
unfolding after_list_validated direction_call map_fast_in
after_is_call Out store places f p room = rw (one_by_one (lent_list store places f.count ∷ []) p) (sym (out_validated store places f p room))
after_is_call Home store places f p room = rw (one_by_one (lent_list store places f.count ∷ []) p) (sym (home_validated store places f p room))
after_is_call Translated store places f p room = rw (one_by_one (lent_list store places f.count ∷ []) p) (sym (translate_validated store places f p room))

pub call_is_after : (direction : Direction) (store : Text) (places : List ℕ) (f : MapFunction) (p : Text) (room : ℕ) (list : Result ⊤ Refusal)
    → list ≡ validate_call (lent_list store places f.count ∷ []) ([] ∷ []) [] → direction_call direction store places f p room ≡ after_list_validated list direction store places f p room
call_is_after direction store places f p room list h =
    sym (after_is_call direction store places f p room) ∙ ap (λ (a : Result ⊤ Refusal). after_list_validated a direction store places f p room) (sym (h ∙ empty_validated (lent_list store places f.count)))

-- Every path that the calls yield has at most 255 bytes.
short_direction : (direction : Direction) (m : Map) (p : Text) → Short (map_fast_in direction m p)
unfolding map_fast_in
short_direction Out m p = short_fast false m p
short_direction Home m p = short_fast true m p
short_direction Translated m p = short_translate m (strip p)

pub short_after : (list : Result ⊤ Refusal) (direction : Direction) (store : Text) (places : List ℕ) (f : MapFunction) (p : Text) (room : ℕ) → Short (after_list_validated list direction store places f p room)
unfolding after_list_validated
short_after list direction store places f p room = short_answered (first_refusal list (path_new_call p)) room (map_fast_in direction (map_of store places f) p) (λ h. short_direction direction (map_of store places f) p)

pub short_call : (direction : Direction) (store : Text) (places : List ℕ) (f : MapFunction) (p : Text) (room : ℕ) → Short (direction_call direction store places f p room)
short_call direction store places f p room =
    rw (← after_is_call direction store places f p room) (short_after (validate_call (lent_list store places f.count ∷ []) [] []) direction store places f p room)
