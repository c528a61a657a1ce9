-- Lemmas about the branches of `replace_into`, `from_ends_given` and `from_ends`.
use Rattle.std.specs.Prelude.{Option}
use Rattle.std.specs.Option.{unwrap_or}
use mathlib.Core.Path.{◌≡◌, refl, ap, ◌∙◌}
use mathlib.Core.Bool.{Bool, true, false, not, cond}
use mathlib.Core.List.{List}
use Prim.Native.Nat.{ℕ, ◌*◌, ◌-◌, ◌/◌, ◌≤◌, ◌<◌}
use native.Mathlib.Nat.{zero-add}
use lib.Dec.{leb}
use lib.ListN.{length, take, drop}
use borrow.Author.Tests.{le-leb, lt-leb}
use Rattle.text.specs.Text.{Text, written_if_fits, fit_of}
use Rattle.text.proofs.BoolLaws.{and_no, told, known_true, known_false}
use Rattle.text.proofs.WriteLaws.{rest_whole}
use Rattle.path_grammar.specs.Legal.{legal}
use Rattle.path_prefix.specs.Prefix.{has_prefix}
use Rattle.path_join.specs.Join.{join}
use Rattle.path_prefix.proofs.PrefixLaws.{prefix_long}
use Rattle.path_join.proofs.ReplaceLaws.{replace_prefix_lem, replace_other}
use Rattle.layer_offset.specs.declared.LayerOffset.{LayerOffset}
use Rattle.pair_list.specs.Pair.{Pair, all_short}
use Rattle.pair_list.specs.Places.{pairs_in, places_all, end_bytes}
use Rattle.pair_list_write.specs.Lists.{list_fits_buffers}
use Rattle.pair_list.proofs.PlaceLaws.{pairs_in_length}
use Rattle.refusal.specs.declared.Refusal.TheVariants.{TooMany, NoRoom, MadeTooLong, MadeIllegal}
use Rattle.validate.specs.Validate.{lent_list}
use Rattle.map_spec.specs.New.{from_parts}
use Rattle.map_function.specs.MapOutcome.{MapOutcome, map, refused, require_list_room, from_parts_outcome, count_in_slice}
use Rattle.pair_buffer.specs.Ends.{replaced_or_same, written_length, require_short, require_legal_given, from_ends_given, from_ends}
use Rattle.pair_buffer.proofs.EveryLaws.{every_places}
use Rattle.pair_buffer.proofs.MapLaws.{held_all}

-- `replace_into`
module _ (p s t : Text) (b : Bool) (h : b ≡ has_prefix p s) (out : Text) where
  abbrev Replaced : ℕ → Text → Type 0
  Replaced n out' = (n ≡ written_length (fit_of (replaced_or_same p s t) out)) × (out' ≡ written_if_fits 0 (replaced_or_same p s t) out)

  module _ (k : not b ≡ true) where
    stays : replaced_or_same p s t ≡ p
    stays = ap (λ (o : Option Text). unwrap_or o p) (replace_other p s t (known_false h k))

    pub replace_long : length out < length p → Replaced 0 out
    unfolding fit_of written_if_fits
    replace_long l = rw (stays, zero-add (length p), lt-leb (length p) (length out) l) (refl, refl)

    pub replace_not : length p ≤ length out → (out' : Text) → out' ≡ written_if_fits 0 p out → Replaced (length p) out'
    unfolding fit_of
    replace_not l out' e = rw (stays, le-leb (length p) (length out) l) (refl, e)

  module _ (k : not b ≡ false) where
    pub replace_start : length s ≤ length p
    replace_start = prefix_long p s (known_true h k)

    replaced_is : replaced_or_same p s t ≡ join s t (drop (length s) p)
    replaced_is = ap (λ (o : Option Text). unwrap_or o p) (replace_prefix_lem p s t (known_true h k))

    module _ (f : Option ℕ) (out' : Text)
        (w : (f ≡ fit_of (join s t (take (length p - length s) (drop (length s) p))) out) × (out' ≡ written_if_fits 0 (join s t (take (length p - length s) (drop (length s) p))) out)) where
      pub replace_made : (n : ℕ) → n ≡ unwrap_or f 0 → Replaced n out'
      replace_made n g = rw (g, replaced_is, ← rest_whole p (length s)) (ap (λ (x : Option ℕ). written_length x) w.0, w.1)

-- `from_ends_given`: question 8 has the answer `yes`.
module _ (store : Text) (places : List ℕ) (n : ℕ) (yes mark : Bool) (time : LayerOffset) (out : Text) (slots : List ℕ) where
  abbrev list : List Pair
  list = pairs_in store places n

  abbrev made : MapOutcome
  made = from_ends_given yes list mark time out slots

  abbrev call : MapOutcome
  call = count_in_slice (lent_list store places n) made

  pub given_many : 64 < n → call ≡ refused TooMany
  unfolding count_in_slice from_ends_given
  given_many h = rw (pairs_in_length store places n, lt-leb n 64 h) (same (leb n (length places / 4)))
    where
      same : (b : Bool) → cond b (refused TooMany) (refused TooMany) ≡ refused TooMany
      same true = refl
      same false = refl

  pub given_beyond : length places / 4 < n → call ≡ refused TooMany
  unfolding count_in_slice
  given_beyond h = rw (lt-leb n (length places / 4) h) refl

  module _ (few : n ≤ 64) (there : n ≤ length places / 4) (b : Bool) (h : b ≡ all_short list) where
    pub given_parts : b ≡ true → yes ≡ true → call ≡ count_in_slice (lent_list store places n) (from_parts_outcome list mark time out slots)
    unfolding from_ends_given require_short from_parts_outcome
    given_parts k l = rw (told h k, l)

    given_room : list_fits_buffers list out slots ≡ false → call ≡ refused NoRoom
    unfolding from_ends_given require_list_room
    given_room g = held_all store places n made there ∙ rw (g, pairs_in_length store places n, le-leb n 64 few)

    pub given_slots : length slots / 4 < n → call ≡ refused NoRoom
    unfolding list_fits_buffers
    given_slots l = given_room (rw (pairs_in_length store places n, lt-leb n (length slots / 4) l) (and_no (leb (end_bytes list) (length out))))

    module _ (l : n ≤ length slots / 4) (d : Bool) (i : d ≡ leb (end_bytes list) (length out)) where
      pub given_bytes : not d ≡ true → call ≡ refused NoRoom
      unfolding list_fits_buffers
      given_bytes k = given_room (rw (known_false i k))

      module _ (k : not d ≡ false) where
        roomy : call ≡ require_short list (require_legal_given yes (map (from_parts list mark) time))
        unfolding from_ends_given require_list_room list_fits_buffers
        roomy =
            held_all store places n made there
            ∙ rw (pairs_in_length store places n, le-leb n 64 few, known_true i k, le-leb n (length slots / 4) l)

        pub given_illegal : b ≡ true → yes ≡ false → call ≡ refused MadeIllegal
        unfolding require_short
        given_illegal g z = roomy ∙ rw (told h g, z)

        pub given_long : b ≡ false → call ≡ refused MadeTooLong
        unfolding require_short
        given_long g = roomy ∙ rw (told h g)

-- `from_ends`: question 8 for all places of the list.
pub ends_answered : (store : Text) (places : List ℕ) (n : ℕ) (mark : Bool) (time : LayerOffset) (out : Text) (slots : List ℕ)
    → (d : Bool) → d ≡ places_all legal store places (2 * n)
    → count_in_slice (lent_list store places n) (from_ends (pairs_in store places n) mark time out slots)
    ≡ count_in_slice (lent_list store places n) (from_ends_given d (pairs_in store places n) mark time out slots)
unfolding from_ends
ends_answered store places n mark time out slots d j = rw (j, every_places legal store places n) refl
