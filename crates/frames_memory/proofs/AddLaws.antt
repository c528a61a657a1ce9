-- Lemmas about adding a pair: the buffers change as the state does.
use Rattle.std.specs.Prelude.{Result, Ok, Err, ⊤}
use mathlib.Core.Path.{◌≡◌, refl, sym, ◌∙◌, subst}
use mathlib.Core.Bool.{Bool, true, false, cond, ◌&&◌}
use mathlib.Core.List.{List, [], ◌∷◌, ◌++◌}
use Prim.Native.Nat.{ℕ, suc, ◌+◌, ◌*◌, ◌≤◌}
use native.Mathlib.Omega.{arith}
use lib.Dec.{leb}
use lib.ListN.{length, length-append}
use borrow.Author.Tests.{le-leb, lt-leb, leb-true, leb-false}
use Rattle.text.specs.Text.{Text}
use Rattle.path_grammar.specs.Legal.{at_most255, is_end}
use Rattle.pair_list.specs.Pair.{pair, all_ends, all_short}
use Rattle.pair_list.specs.Places.{pair_entry}
use Rattle.pair_list.proofs.PlaceLaws.{every_snoc}
use Rattle.refusal.specs.declared.Refusal.TheVariants.{TooMany, NoRoom}
use Rattle.refusal.specs.Refusal.{refused_or}
use Rattle.validate.specs.Validate.{validate_call}
use Rattle.validate.proofs.PassedLaws.{text_short, second_short, text_end_lem, second_end}
use Rattle.open_list.specs.Add.{validate_add, add_bytes, add_places}
use Rattle.open_list.proofs.OpenListLaws.{opened}
use Rattle.frames_spec.specs.State.{State, refuse, has_pair_room, with_pair, add_pair}
use Rattle.frames_memory.specs.Memory.{FramesMemory, add_after, add_in}
use Rattle.frames_memory.specs.Represents.{LargeEnough, Represents, SameStep}
use Rattle.frames_memory.proofs.OpenListLaws.{short_bytes}
use Rattle.text.proofs.WriteLaws.{over_length}
use Rattle.path_grammar.proofs.LegalLaws.{short_fits}
use Rattle.refusal.specs.declared.Refusal.{Refusal}

module _ (m : FramesMemory) (st : State) (g : Represents m st) (s t : Text) where
  abbrev k : ℕ
  k = m.kept.opened.pairs

  abbrev b : ℕ
  b = m.kept.opened.bytes

  abbrev two : List Text
  two = s ∷ t ∷ []

  -- The ends have at most 255 bytes, and there is space for 64 pairs of such ends.
  module _ (e : validate_call [] two two ≡ Ok tt) (h : has_pair_room st ≡ true) where
    fewer : suc k ≤ 64
    fewer = omega (arith, g.opened.number, leb-true (suc (length st.opened)) 64 h)

    slots_fit : 4 * suc k ≤ length m.places
    slots_fit = omega (arith, fewer, g.large.places)

    bytes_fit : b + (length s + length t) ≤ length m.bytes
    bytes_fit =
        omega (arith, text_short [] s (t ∷ []) two e, second_short [] s t [] two e, g.opened.end, short_bytes st.opened g.short, g.opened.number, fewer, g.large.bytes)

  -- The validation on the buffers agrees with that of the protocol.
  add_validated : validate_add m.kept.opened s t (length m.bytes) (length m.places) ≡ refused_or (validate_call [] two two) Err (cond (has_pair_room st) (Ok tt) (Err TooMany))
  unfolding validate_add
  add_validated = go (validate_call [] two two) refl (has_pair_room st) refl
    where
      go : (a : Result ⊤ Refusal) → validate_call [] two two ≡ a → (c : Bool) → has_pair_room st ≡ c
          → ◌≡◌ {A = Result ⊤ Refusal}
          (refused_or a Err (cond (leb (suc k) 64 && leb (4 * suc k) (length m.places)) (cond (leb (b + (length s + length t)) (length m.bytes)) (Ok tt) (Err NoRoom)) (Err TooMany)))
          (refused_or a Err (cond c (Ok tt) (Err TooMany)))
      go (Ok tt) e true h =
          rw (le-leb (suc k) 64 (fewer e h), le-leb (4 * suc k) (length m.places) (slots_fit e h), le-leb (b + (length s + length t)) (length m.bytes) (bytes_fit e h)) refl
      go (Ok tt) e false h = rw (lt-leb (suc k) 64 (omega (arith, g.opened.number, leb-false (suc (length st.opened)) 64 h))) refl
      go (Err x) e c h = refl

  module _ (e : validate_call [] two two ≡ Ok tt) (h : has_pair_room st ≡ true) where
    still_large : LargeEnough (add_after (Ok tt) m s t).state
    unfolding add_bytes add_places
    still_large = record {
      bytes = rw (over_length b (s ++ t) m.bytes (omega (arith, length-append s t, bytes_fit e h))) g.large.bytes;
      places = rw (over_length (4 * k) (pair_entry b s t) m.places (omega (arith, slots_fit e h))) g.large.places;
      store = g.large.store;
      slots = g.large.slots;
      table = g.large.table;
    }

    holds_more : Represents (add_after (Ok tt) m s t).state (with_pair st s t).state
    unfolding all_ends all_short
    holds_more = record {
      opened = opened.grows st.opened m.kept.opened m.bytes m.places s t g.opened (add_validated ∙ rw (e, h) refl);
      ends = every_snoc is_end st.opened (pair s t) g.ends (text_end_lem [] two s (t ∷ []) e) (second_end [] two s t [] e);
      short =
          every_snoc at_most255 st.opened (pair s t) g.short (short_fits s (text_short [] s (t ∷ []) two e)) (short_fits t (second_short [] s t [] two e));
      legs = g.legs;
      used = g.used;
      outs = g.outs;
      within = record {
        pairs = rw (length-append st.opened (pair s t ∷ [])) (omega (arith, leb-true (suc (length st.opened)) 64 h));
        legs = g.within.legs;
        bytes = g.within.bytes;
        outs = g.within.outs;
      };
      large = still_large;
    }

  pub same_add : SameStep (add_in m s t) (add_pair st s t)
  unfolding add_in add_pair add_bytes add_places
  same_add = subst (λ (a : Result ⊤ Refusal). SameStep (add_after a m s t) (add_pair st s t)) (sym add_validated) (go (validate_call [] two two) refl (has_pair_room st) refl)
    where
      go : (a : Result ⊤ Refusal) → validate_call [] two two ≡ a → (c : Bool) → has_pair_room st ≡ c
          → SameStep (add_after (refused_or a Err (cond c (Ok tt) (Err TooMany))) m s t) (refused_or a (refuse st) (cond c (with_pair st s t) (refuse st TooMany)))
      go (Ok tt) e true h = record { answers = refl; holds = holds_more e h }
      go (Ok tt) e false h = record { answers = refl; holds = g }
      go (Err x) e c h = record { answers = refl; holds = g }
