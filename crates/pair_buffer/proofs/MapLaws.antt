-- Lemmas about a map and the list that it is built from.
use mathlib.Core.Path.{◌≡◌, refl}
use mathlib.Core.Bool.{Bool, true, false, cond, ◌&&◌}
use mathlib.Core.List.{List, [], ◌∷◌, ◌++◌}
use Prim.Native.Nat.{ℕ, zero, suc, ◌/◌, ◌≤◌}
use native.Mathlib.Omega.{arith}
use lib.Dec.{eqb, leb}
use lib.ListN.{length}
use borrow.Author.Tests.{ne_eqb, le-leb}
use Rattle.text.specs.Text.{Text}
use Rattle.path_grammar.specs.Legal.{legal}
use Rattle.layer_offset.specs.declared.LayerOffset.{LayerOffset}
use Rattle.pair_list.specs.Pair.{Pair, every_end, all_short}
use Rattle.pair_list.specs.Places.{pair_in, pairs_in}
use Rattle.pair_list_write.specs.Lists.{list_fits_buffers}
use Rattle.refusal.specs.declared.Refusal.{Refusal}
use Rattle.refusal.specs.declared.Refusal.TheVariants.{TooMany, NoRoom, MadeTooLong, MadeIllegal}
use Rattle.validate.specs.Validate.{lent_list}
use Rattle.map_spec.specs.Map.{Map, lent_map}
use Rattle.map_spec.specs.New.{from_parts}
use Rattle.map_spec.specs.Compose.{is_empty, is_path_identity}
use Rattle.map_function.specs.MapOutcome.{MapOutcome, map, refused, require_list_room, within_limits, count_in_slice}
use Rattle.pair_list_write.specs.Packed.{HoldsList}
use Rattle.pair_buffer.specs.Ends.{require_short, from_ends_given, from_ends}
use Rattle.pair_list_write.proofs.PackedLaws.{holds_list, holds_inside}

-- A map in lent memory is the identity on paths exactly if it has the mark and no pair.
snoc_full : (l : List Pair) (x : Pair) → is_empty (l ++ x ∷ []) ≡ false
snoc_full [] x = refl
snoc_full (y ∷ l) x = refl

pub identity_lent : (store : Text) (places : List ℕ) (n : ℕ) (mark : Bool) → is_path_identity (lent_map store places n mark) ≡ (eqb n 0 && mark)
unfolding pairs_in
identity_lent store places zero mark = refl
identity_lent store places (suc n) mark =
    rw (snoc_full (pairs_in store places n) (pair_in store places n), ne_eqb (suc n) 0 (λ e. omega arith))

-- A list that lies within its slice.
pub held_all : (store : Text) (places : List ℕ) (n : ℕ) (o : MapOutcome) → n ≤ length places / 4 → count_in_slice (lent_list store places n) o ≡ o
unfolding count_in_slice
held_all store places n o h = rw (le-leb n (length places / 4) h)

-- A list that was built lies within its buffer.
pub built_ends : (l : List Pair) (n at : ℕ) (bytes : Text) (own : List ℕ) → HoldsList l n at bytes own → (mark : Bool) (time : LayerOffset) (out : Text) (slots : List ℕ)
    → from_ends l mark time out slots ≡ count_in_slice (lent_list bytes own n) (from_ends (pairs_in bytes own n) mark time out slots)
built_ends l n at bytes own c mark time out slots =
    rw (held_all bytes own n (from_ends (pairs_in bytes own n) mark time out slots) (omega (arith, holds_inside l n at bytes own c)), holds_list l n at bytes own c) refl

-- A map that the call returns is the map of the definition.
module _ (m : Map) (t : LayerOffset) where
  pub no_map : (x : Refusal) → refused x ≡ map m t → ⊥
  no_map x e = let z : ◌≡◌ {A = ℕ} 0 1 = cc in omega arith

  pub limited_map : (l : List Pair) (k : Map) (time : LayerOffset) (out : Text) (slots : List ℕ) → within_limits l k time out slots ≡ map m t → m ≡ k
  unfolding within_limits require_list_room
  limited_map l k time out slots e = go (leb (length l) 64) (list_fits_buffers l out slots) e
    where
      go : (a b : Bool) → cond a (cond b (map k time) (refused NoRoom)) (refused TooMany) ≡ map m t → m ≡ k
      go true true e = cc
      go true false e = absurd (no_map NoRoom e)
      go false b e = absurd (no_map TooMany e)

  pub from_ends_map : (l : List Pair) (mark : Bool) (time : LayerOffset) (out : Text) (slots : List ℕ) → from_ends l mark time out slots ≡ map m t → m ≡ from_parts l mark
  unfolding from_ends from_ends_given require_list_room require_short
  from_ends_map l mark time out slots e = go (leb (length l) 64) (list_fits_buffers l out slots) (all_short l) (every_end legal l) e
    where
      go : (a b c d : Bool) → cond a (cond b (cond c (cond d (map (from_parts l mark) time) (refused MadeIllegal)) (refused MadeTooLong)) (refused NoRoom)) (refused TooMany) ≡ map m t
          → m ≡ from_parts l mark
      go true true true true e = cc
      go true true true false e = absurd (no_map MadeIllegal e)
      go true true false d e = absurd (no_map MadeTooLong e)
      go true false c d e = absurd (no_map NoRoom e)
      go false b c d e = absurd (no_map TooMany e)
