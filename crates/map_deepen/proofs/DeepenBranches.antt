-- Lemmas about the branches of the functions of `deepen_to`.
use Rattle.std.specs.Prelude.{Result, Ok, Err, Option, Some, None, ⊤}
use Rattle.std.specs.Option.{unwrap_or}
use mathlib.Core.Path.{◌≡◌, refl, sym, ap, ◌∙◌}
use mathlib.Core.Bool.{Bool, true, false, not, cond}
use mathlib.Core.List.{List, [], ◌∷◌}
use Prim.Native.Nat.{ℕ, ◌+◌, ◌≤◌, ◌<◌}
use native.Mathlib.Omega.{arith}
use lib.ListN.{length, take}
use borrow.Author.Tests.{lt-leb}
use Rattle.text.specs.Text.{Text, equal, written_if_fits, fit_of}
use Rattle.text.proofs.BoolLaws.{told, not_true, not_false}
use Rattle.path_grammar.specs.Legal.{legal, at_most255, is_end}
use Rattle.path_prefix.specs.Prefix.{has_prefix}
use Rattle.path_join.specs.Join.{replace_prefix}
use Rattle.path_join.proofs.ReplaceLaws.{replace_prefix_lem}
use Rattle.path_parts.specs.Strip.{strip, strip_fit, strip_buffer}
use Rattle.path_parts.proofs.StripLaws.{strip_shorter, strip_length, strip_back, strip_never}
use Rattle.layer_offset.specs.declared.LayerOffset.{LayerOffset}
use Rattle.map_deepen.specs.declared.ClassSoFar.{ClassSoFar}
use Rattle.pair_list.specs.Pair.{pair, all_short}
use Rattle.pair_list.specs.Places.{key_at, pair_in, pairs_in}
use Rattle.pair_list.specs.BestStep.{index_kept}
use Rattle.pair_list.specs.LongestMatch.{longest_by}
use Rattle.pair_list.proofs.LongestMatchLaws.{IsLongest, chosen_best, best_same}
use Rattle.pair_list.proofs.PlaceLaws.{pair_is, pairs_in_length, pairs_in_source, pairs_in_target}
use Rattle.pair_list_write.specs.Packed.{AppendedPair}
use Rattle.refusal.specs.declared.Refusal.{Refusal}
use Rattle.refusal.specs.declared.Refusal.TheVariants.{TooLong}
use Rattle.validate.specs.Validate.{LentList, every, first_failed, validate_call, ValidList}
use Rattle.validate.proofs.PassedLaws.{first_sound, text_short}
use Rattle.map_spec.specs.Map.{Map, map_source, map_target, map_size}
use Rattle.map_spec.specs.New.{from_parts}
use Rattle.map_spec.specs.Compose.{has_source}
use Rattle.map_spec.specs.Derive.{deepened_pair, deepen_by, deepen_to}
use Rattle.map_function.specs.declared.MapFunction.{MapFunction}
use Rattle.map_function.specs.MapFunction.{list_of, map_of}
use Rattle.map_function.specs.MapOutcome.{MapOutcome, map, refused, within_limits, without_dropping, count_in_slice}
use Rattle.pair_buffer.specs.Ends.{replaced_or_same, written_length, from_ends}
use Rattle.pair_buffer.proofs.LengthLaws.{placed_back, short_target, replaced_short}
use Rattle.pair_buffer.proofs.MapLaws.{held_all, limited_map, from_ends_map}
use Rattle.map_deepen.specs.FindClass.{class_index}
use Rattle.map_deepen.specs.Calls.{deepened_pairs, deepened_map, deepened_at, deepen_outcome_by, deepen_outcome, DeepensTo, deepen_to_call}

-- `deepen_pair`
module _ (s t node above below : Text) (b : Bool) (h : b ≡ equal s above) where
  deepened_class : b ≡ true → deepened_pair node above below (pair s t) ≡ pair node below
  unfolding equal
  deepened_class k = ap (λ (c : Bool). cond c (pair node below) (pair s t)) (told h k)

  deepened_other : b ≡ false → deepened_pair node above below (pair s t) ≡ pair s t
  unfolding equal
  deepened_other k = ap (λ (c : Bool). cond c (pair node below) (pair s t)) (told h k)

  module _ (at n r : ℕ) (out out' : Text) (slots slots' : List ℕ) where
    abbrev Done : Type 0
    Done = AppendedPair (deepened_pair node above below (pair s t)) n at out slots r out' slots' × (r ≤ at + 766)

    pub deepen_class : b ≡ true → length node ≤ 255 → length below ≤ 511 → AppendedPair (pair node below) n at out slots r out' slots' → Done
    deepen_class k l m w = rw (deepened_class k) (w, omega (arith, w.end))

    pub deepen_other : b ≡ false → length s ≤ 255 → length t ≤ 255 → AppendedPair (pair s t) n at out slots r out' slots' → Done
    deepen_other k l m w = rw (deepened_other k) (w, omega (arith, w.end))

-- `deepen_all`
pub deepened_pair_lem : (store : Text) (places : List ℕ) (i : ℕ) (node above below s t : Text) → s ≡ key_at store places false i → t ≡ key_at store places true i
    → deepened_pair node above below (pair_in store places i) ≡ deepened_pair node above below (pair s t)
deepened_pair_lem store places i node above below s t e f = ap (deepened_pair node above below) (sym (pair_is store places i s t e f))

-- `deepen_by`: the node mapped by the class pair, made in a buffer of 511 bytes.
pub record IsMade (q : Text) (k : ℕ) (made : Text) : Type 0 where
  pub short : k ≤ 511
  pub part : k ≡ length (take k made)
  pub part_short : length (take k made) ≤ 511
  pub text : take k made ≡ q

pub below_made : (store : Text) (places : List ℕ) (n i : ℕ) → i < n → all_short (pairs_in store places n) ≡ true
    → (node above new : Text) → length node ≤ 255 → new ≡ key_at store places true i → (k : ℕ) (buffer made : Text) → length buffer ≡ 511
    → (k ≡ written_length (fit_of (replaced_or_same node above new) buffer)) × (made ≡ written_if_fits 0 (replaced_or_same node above new) buffer)
    → IsMade (replaced_or_same node above new) k made
below_made store places n i h e node above new ln f k buffer made size w =
    let q : Text = replaced_or_same node above new in
    let l : length q ≤ 511 = replaced_short node above new ln (short_target store places n i h e new f) in
    let z = placed_back q buffer k made w (rw size l) in
    record { short = omega (arith, z.0); part = omega (arith, z.0, ap length z.1); part_short = omega (arith, ap length z.1); text = z.1 }

pub deepen_same : (q : Text) (k : ℕ) (made : Text) → IsMade q k made → (store : Text) (places : List ℕ) (f : MapFunction) (node : Text) (i : ℕ) (above new : Text)
    → above ≡ key_at store places false i → new ≡ key_at store places true i → q ≡ replaced_or_same node above new → (out : Text) (slots : List ℕ)
    → deepened_at store places f node i out slots ≡ deepened_map (map_of store places f) node above (take k made) f.time_offset out slots
deepen_same q k made t store places f node i above new g h j out slots = rw (t.text, j, g, h) refl

-- `strip_node`
pub node_done : (p out : Text) (f : Option ℕ) → length p ≤ length out → f ≡ strip_fit p out → (n : ℕ) → n ≡ unwrap_or f 0 → (out' : Text) → out' ≡ strip_buffer p out
    → (n ≡ length (strip p)) × ((take n out' ≡ strip p) × (n ≤ length out))
node_done p out None h e n k out' w = absurd (strip_never p out None h e refl)
node_done p out (Some m) h e n k out' w =
    let z : n ≡ length (strip p) = k ∙ strip_length p out (Some m) h e m refl in
    (z, (strip_back p out (Some m) h e n (ap Some (sym k)) out' w, omega (arith, strip_shorter p)))

-- The second text and the second end to validate are empty.
validate_node : (l : LentList) (p e : Text) → validate_call (l ∷ []) (p ∷ [] ∷ []) (e ∷ [] ∷ []) ≡ validate_call (l ∷ []) (p ∷ []) (e ∷ [])
unfolding validate_call every at_most255 legal is_end
validate_node l p e = refl

-- `deepen_node`
module _ (store : Text) (places : List ℕ) (f : MapFunction) (p node : Text) (out : Text) (slots : List ℕ) (is : node ≡ strip p)
    (q : Result ⊤ Refusal) (h : q ≡ validate_call (list_of store places f ∷ []) (p ∷ [] ∷ []) (node ∷ [] ∷ [])) where
  abbrev m : Map
  m = map_of store places f

  validated_is : q ≡ validate_call (list_of store places f ∷ []) (p ∷ []) (strip p ∷ [])
  validated_is = h ∙ validate_node (list_of store places f) p node ∙ rw is refl

  pub deepen_refused : (x : Refusal) → q ≡ Err x → deepen_to_call store places f p out slots ≡ refused x
  unfolding deepen_to_call
  deepen_refused x k = rw (← validated_is, k)

  module _ (k : q ≡ Ok tt) where
    pub sound : ValidList (list_of store places f)
    sound = first_sound (list_of store places f) [] (p ∷ []) (strip p ∷ []) (sym validated_is ∙ k)

    passed : deepen_to_call store places f p out slots ≡ deepen_outcome m node f.time_offset out slots
    unfolding deepen_to_call
    passed = rw (← validated_is, k, is)

    pub deepen_node_short : length node ≤ 255
    deepen_node_short =
        omega (arith, ap length is, strip_shorter p, text_short (list_of store places f ∷ []) p [] (strip p ∷ []) (sym validated_is ∙ k))

    abbrev as_it_stands : MapOutcome
    as_it_stands = count_in_slice (list_of store places f) (without_dropping (pairs_in store places f.count) f.has_root_identity f.time_offset out slots)

    stands : without_dropping (pairs_in store places f.count) f.has_root_identity f.time_offset out slots ≡ as_it_stands
    stands = sym (held_all store places f.count (without_dropping (pairs_in store places f.count) f.has_root_identity f.time_offset out slots) sound.held)

    module _ (b : Bool) (g : b ≡ has_source (pairs_in store places f.count) node) where
      pub deepen_there : b ≡ true → deepen_to_call store places f p out slots ≡ as_it_stands
      unfolding deepen_outcome
      deepen_there l = passed ∙ rw (told g l) stands

      module _ (l : b ≡ false) (o : Option ClassSoFar) (i : class_index o ≡ longest_by (has_prefix node) (key_at store places false) f.count) where
        class_is : longest_by (has_prefix node) (map_source m) (map_size m) ≡ class_index o
        class_is =
            rw (pairs_in_length store places f.count)
            (best_same (has_prefix node) (map_source m) (key_at store places false) f.count (λ j n. pairs_in_source store places f.count j n) ∙ sym i)

        opened : deepen_to_call store places f p out slots ≡ deepen_outcome_by m node (class_index o) f.time_offset out slots
        unfolding deepen_outcome
        opened = passed ∙ rw (told g l) (ap (λ (x : Option ℕ). deepen_outcome_by m node x f.time_offset out slots) class_is)

        pub deepen_none : o ≡ None → deepen_to_call store places f p out slots ≡ as_it_stands
        unfolding deepen_outcome_by
        deepen_none n = opened ∙ ap (λ (x : Option ClassSoFar). deepen_outcome_by m node (class_index x) f.time_offset out slots) n ∙ stands

        module _ (c : ClassSoFar) (n : o ≡ Some c) where
          chosen_is : longest_by (has_prefix node) (key_at store places false) f.count ≡ Some c.at
          chosen_is = sym i ∙ ap class_index n

          best : IsLongest (has_prefix node) (key_at store places false) f.count c.at
          best = chosen_best (has_prefix node) (key_at store places false) f.count c.at chosen_is

          pub deepen_inside : c.at < f.count
          deepen_inside = best.in_range_lem

          abbrev above : Text
          above = key_at store places false c.at

          below_is : unwrap_or (replace_prefix node (map_source m c.at) (map_target m c.at)) [] ≡ replaced_or_same node above (key_at store places true c.at)
          below_is =
              rw (
                pairs_in_source store places f.count c.at deepen_inside,
                pairs_in_target store places f.count c.at deepen_inside,
                replace_prefix_lem node above (key_at store places true c.at) best.does_pass,
              ) refl

          pub deepen_made : deepen_to_call store places f p out slots ≡ deepened_at store places f node c.at out slots
          unfolding deepen_outcome_by
          deepen_made =
              opened
              ∙ ap (λ (x : Option ClassSoFar). deepen_outcome_by m node (class_index x) f.time_offset out slots) n
              ∙ ap (λ (y : Text). from_ends (deepened_pairs node (map_source m c.at) y (pairs_in store places f.count)) f.has_root_identity f.time_offset out slots) below_is
              ∙ ap (λ (y : Text). from_ends (deepened_pairs node y (replaced_or_same node above (key_at store places true c.at)) (pairs_in store places f.count))
              f.has_root_identity f.time_offset out slots) (pairs_in_source store places f.count c.at deepen_inside)

-- `deepen_to`: question 1 is checked first.
pub deepen_long : (store : Text) (places : List ℕ) (f : MapFunction) (p : Text) (out : Text) (slots : List ℕ) → 255 < length p → deepen_to_call store places f p out slots ≡ refused TooLong
unfolding deepen_to_call validate_call every at_most255 first_failed
deepen_long store places f p out slots h = rw (lt-leb (length p) 255 h) refl

-- A map that the call returns is the map of the definition.
by_class : (m n : Map) (node : Text) (o : Option ℕ) (time t : LayerOffset) (out : Text) (slots : List ℕ) → deepen_outcome_by m node o time out slots ≡ map n t → n ≡ deepen_by m node o
unfolding deepen_outcome_by without_dropping equal replace_prefix from_parts
by_class m n node None time t out slots e = limited_map n t m.pairs m time out slots e
by_class m n node (Some i) time t out slots e =
    from_ends_map n t (deepened_pairs node (map_source m i) (unwrap_or (replace_prefix node (map_source m i) (map_target m i)) []) m.pairs) m.mark time out slots e

pub deepens_to : DeepensTo
unfolding deepen_outcome deepen_to without_dropping
deepens_to m n path time t out slots e = go (has_source m.pairs (strip path)) e
  where
    go : (b : Bool) → cond b (within_limits m.pairs m time out slots) (deepen_outcome_by m (strip path) (longest_by (has_prefix (strip path)) (map_source m) (map_size m)) time out slots) ≡ map n t → n ≡ cond b m (deepen_by m (strip path) (longest_by (has_prefix (strip path)) (map_source m) (map_size m)))
    go true e = limited_map n t m.pairs m time out slots e
    go false e = by_class m n (strip path) (longest_by (has_prefix (strip path)) (map_source m) (map_size m)) time t out slots e
