-- Lemmas about the branches of the functions that perform a frame.
use Rattle.std.specs.Prelude.{Result, Ok, Err, ⊤}
use mathlib.Core.Path.{◌≡◌, refl, sym, ap, ◌∙◌}
use mathlib.Core.Bool.{Bool}
use mathlib.Core.List.{List}
use Prim.Native.Nat.{ℕ, ◌≤◌}
use native.Mathlib.Omega.{arith}
use lib.ListN.{length}
use Rattle.text.specs.Text.{Text, written, written_if_fits}
use Rattle.text.proofs.WriteLaws.{placed_first}
use Rattle.refusal.specs.declared.Refusal.{Refusal}
use Rattle.refusal.specs.declared.Refusal.TheVariants.{TooLong, Illegal, NotAnEnd, TooMany, NoRoom, NoPath, MadeTooLong, MadeIllegal}
use Rattle.refusal.specs.Refusal.{refusal_number}
use Rattle.frames_spec.specs.State.{big_endian32}
use Rattle.open_list.specs.declared.OpenList.{OpenList}
use Rattle.open_list.specs.Add.{validate_add, with_one_more, add_reply, add_bytes, add_places}
use Rattle.pair_list.specs.Places.{end_bytes}
use Rattle.validate.specs.Validate.{pairs_of}
use Rattle.map_spec.specs.Map.{Map}
use Rattle.close_leg.specs.declared.LegTotals.{LegTotals}
use Rattle.route_spec.specs.Leg.{counted_pairs}
use Rattle.close_leg.specs.Close.{closed_map, with_one_leg, closed_reply, closed_store, validate_close_of, close_reply, close_store}
use Rattle.frames_memory.specs.declared.Counters.{Counters}
use Rattle.frames_memory.specs.Memory.{FramesMemory, frames_memory, open_list_of, leg_store_of, empty_open_list, add_after, add_in, close_after, close_in}
use Rattle.frame_apply.specs.declared.Effect.{Effect}
use Rattle.frame_apply.specs.Done.{StepDone, PairDone, CloseDone, count_route}

-- `number_byte`
pub number_small : (x : Refusal) → refusal_number x ≤ 8
number_small TooLong = omega arith
number_small Illegal = omega arith
number_small NotAnEnd = omega arith
number_small TooMany = omega arith
number_small NoRoom = omega arith
number_small NoPath = omega arith
number_small MadeTooLong = omega arith
number_small MadeIllegal = omega arith

-- What an equation of replies says of what they hold.
done_is : {A : Type 0} (o p : A) → ◌≡◌ {A = Result A Refusal} (Ok o) (Ok p) → o ≡ p
done_is o p e = cc

done_refused : {A : Type 0} (o : A) (x : Refusal) → ◌≡◌ {A = Result A Refusal} (Ok o) (Err x) → ⊥
done_refused o x e = let z : ◌≡◌ {A = ℕ} 0 1 = cc in omega arith

refused_is : {A B : Type 0} (x y : Refusal) → ◌≡◌ {A = Result A Refusal} (Err x) (Err y) → ◌≡◌ {A = Result B Refusal} (Err x) (Err y)
refused_is x y e = let z : x ≡ y = cc in ap Err z

-- `apply_pair`
module _ (s t : Text) (k : Counters) (bytes : Text) (places : List ℕ)
    (a : Result OpenList Refusal) (ea : a ≡ add_reply (validate_add k.opened s t (length bytes) (length places)) k.opened s t)
    (bytes' : Text) (eb : bytes' ≡ add_bytes (validate_add k.opened s t (length bytes) (length places)) k.opened s t bytes)
    (places' : List ℕ) (ep : places' ≡ add_places (validate_add k.opened s t (length bytes) (length places)) k.opened s t places) where
  pub pair_done : (o : OpenList) → a ≡ Ok o
      → PairDone s t k bytes places (record { opened = o; legs = k.legs; outs = k.outs }) (Ok 0) bytes' places'
  unfolding PairDone add_in add_reply add_bytes add_places
  pair_done o d store slots table payload = go (validate_add k.opened s t (length bytes) (length places)) (sym d ∙ ea) eb ep
    where
      go : (q : Result ⊤ Refusal) → Ok o ≡ add_reply q k.opened s t → bytes' ≡ add_bytes q k.opened s t bytes → places' ≡ add_places q k.opened s t places
          → StepDone (add_after q (frames_memory k bytes places store slots table) s t)
          (frames_memory (record { opened = o; legs = k.legs; outs = k.outs }) bytes' places' store slots table) (Ok 0) payload payload
      go (Ok tt) x y z = record { state = rw (done_is o (with_one_more k.opened s t) x, y, z) refl; reply = refl; payload = refl }
      go (Err r) x y z = absurd (done_refused o r x)

  pub pair_refused : (x : Refusal) → a ≡ Err x → PairDone s t k bytes places k (Err x) bytes' places'
  unfolding PairDone add_in add_reply add_bytes add_places
  pair_refused x d store slots table payload = go (validate_add k.opened s t (length bytes) (length places)) (sym d ∙ ea) eb ep
    where
      go : (q : Result ⊤ Refusal) → Err x ≡ add_reply q k.opened s t → bytes' ≡ add_bytes q k.opened s t bytes → places' ≡ add_places q k.opened s t places
          → StepDone (add_after q (frames_memory k bytes places store slots table) s t) (frames_memory k bytes' places' store slots table) (Err x) payload payload
      go (Ok tt) y u v = absurd (done_refused (with_one_more k.opened s t) x (sym y))
      go (Err r) y u v = record { state = rw (u, v) refl; reply = refused_is x r y; payload = refl }

-- `apply_close`
module _ (relocates : Bool) (m : FramesMemory) (c : Result LegTotals Refusal) (e : c ≡ close_reply relocates (open_list_of m) (leg_store_of m)) (store : Text)
    (es : store ≡ (close_store relocates (open_list_of m) (leg_store_of m)).store) (slots : List ℕ)
    (el : slots ≡ (close_store relocates (open_list_of m) (leg_store_of m)).slots) (table : List ℕ)
    (et : table ≡ (close_store relocates (open_list_of m) (leg_store_of m)).table) where
  abbrev ends : ℕ
  ends = end_bytes (counted_pairs relocates (pairs_of (open_list_of m)))

  abbrev made : Map
  made = closed_map relocates (pairs_of (open_list_of m))

  pub close_done : (g : LegTotals) → c ≡ Ok g
      → CloseDone relocates m (frames_memory (record { opened = empty_open_list; legs = g; outs = m.kept.outs }) m.bytes m.places store slots table) (Ok 0)
  unfolding CloseDone close_in close_reply close_store closed_reply closed_store
  close_done g d payload = go (validate_close_of relocates (open_list_of m) (leg_store_of m)) (sym d ∙ e) es el et
    where
      go : (a : Result ⊤ Refusal) → Ok g ≡ closed_reply a m.kept.legs ends → store ≡ (closed_store a (leg_store_of m) made ends).store
          → slots ≡ (closed_store a (leg_store_of m) made ends).slots → table ≡ (closed_store a (leg_store_of m) made ends).table
          → StepDone (close_after a m (closed_store a (leg_store_of m) made ends))
          (frames_memory (record { opened = empty_open_list; legs = g; outs = m.kept.outs }) m.bytes m.places store slots table) (Ok 0) payload payload
      go (Ok tt) x u v w = record { state = rw (done_is g (with_one_leg m.kept.legs ends) x, u, v, w) refl; reply = refl; payload = refl }
      go (Err r) x u v w = absurd (done_refused g r x)

  pub close_refused : (x : Refusal) → c ≡ Err x → CloseDone relocates m (frames_memory m.kept m.bytes m.places store slots table) (Err x)
  unfolding CloseDone close_in close_reply close_store closed_reply closed_store
  close_refused x d payload = go (validate_close_of relocates (open_list_of m) (leg_store_of m)) (sym d ∙ e) es el et
    where
      go : (a : Result ⊤ Refusal) → Err x ≡ closed_reply a m.kept.legs ends → store ≡ (closed_store a (leg_store_of m) made ends).store
          → slots ≡ (closed_store a (leg_store_of m) made ends).slots → table ≡ (closed_store a (leg_store_of m) made ends).table
          → StepDone (close_after a m (closed_store a (leg_store_of m) made ends)) (frames_memory m.kept m.bytes m.places store slots table) (Err x) payload payload
      go (Ok tt) y u v w = absurd (done_refused (with_one_leg m.kept.legs ends) x (sym y))
      go (Err r) y u v w = record { state = rw (u, v, w) refl; reply = refused_is x r y; payload = refl }

-- `count_out`
abbrev pub counted_effect : Bool → Counters → Result ℕ Refusal → Effect
counted_effect back k r = record { kept = record { opened = k.opened; legs = k.legs; outs = count_route back r k.outs }; reply = r }

-- `write_count`
pub count_written : (n : ℕ) (payload payload' : Text) → 4 ≤ length payload → payload' ≡ written_if_fits 0 (big_endian32 n) payload → payload' ≡ written (big_endian32 n) payload
count_written n payload payload' h e = e ∙ placed_first (big_endian32 n) payload h
