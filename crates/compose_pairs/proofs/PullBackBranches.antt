-- Lemmas about the branches of `has_joined`, `add_joined` and `pull_back_pair`.
use Rattle.std.specs.Prelude.{Option, Some, None}
use Rattle.std.specs.Bool.{MatchBool}
use mathlib.Core.Path.{◌≡◌, refl, sym, ap, ◌∙◌}
use mathlib.Core.Bool.{Bool, true, false, not, cond, ◌&&◌}
use mathlib.Core.List.{List, [], ◌∷◌, ◌++◌, append_assoc}
use Prim.Native.Nat.{ℕ, ◌+◌, ◌*◌, ◌-◌, ◌≤◌, ◌<◌}
use native.Mathlib.Omega.{arith}
use lib.Dec.{eqb}
use lib.ListN.{length, get_or}
use Rattle.text.specs.Text.{Text, equal, ends_with_byte, written_if_fits}
use Rattle.text.proofs.BoolLaws.{eqb_self, not_true, not_false, told, known_false}
use Rattle.text.proofs.TextLaws.{equal_is, equal_self, last_some, last_after}
use Rattle.path_grammar.specs.Legal.{is_root}
use Rattle.path_join.specs.Join.{separator, body, join}
use Rattle.path_join.proofs.JoinLaws.{join_none}
use Rattle.pair_list.specs.Pair.{Pair, pair}
use Rattle.pair_list.specs.Places.{key_at, pairs_in}
use Rattle.map_spec.specs.Compose.{has_source, add_if_new_source}
use Rattle.pair_list_write.specs.Packed.{PackedList}
use Rattle.pair_list_write.proofs.PushBranches.{pair_done}
use Rattle.pair_list_write.proofs.PackedLaws.{packed_more}
use Rattle.pair_buffer.proofs.SourceLaws.{source_in}
use Rattle.compose_pairs.specs.ComposePairs.{path_if_marked, image_length}

-- `is_joined`
module _ (s t r : Text) where
  last_join : (a : ℕ) → 2 ≤ length r → ends_with_byte a (join s t r) ≡ ends_with_byte a r
  unfolding join body ends_with_byte
  last_join a h = go r h
    where
      ends : (c : Bool) (w : Text) (x y : ℕ) (z : Text) → ends_with_byte a (t ++ (w ++ cond c (y ∷ z) (x ∷ y ∷ z))) ≡ ends_with_byte a (x ∷ y ∷ z)
      ends true w x y z = rw (← (append_assoc t w (y ∷ z))) (last_after a (t ++ w) y z)
      ends false w x y z = rw (← (append_assoc t w (x ∷ y ∷ z))) (last_after a (t ++ w) x (y ∷ z))

      go : (u : Text) → 2 ≤ length u → ends_with_byte a (join s t u) ≡ ends_with_byte a u
      go [] h = absurd (omega arith)
      go (x ∷ []) h = absurd (omega arith)
      go (x ∷ y ∷ z) h = ends (not (is_root s) && eqb x 47) (separator s t (x ∷ y ∷ z)) x y z

  pub join_not : (u : Text) (b : Bool) → 2 ≤ length r → b ≡ ends_with_byte (get_or r (length r - 1) 0) u → not b ≡ true → false ≡ equal (join s t r) u
  join_not u b l e k = go (equal (join s t r) u) refl
    where
      a : ℕ
      a = get_or r (length r - 1) 0

      ends : ends_with_byte a (join s t r) ≡ true
      ends = last_join a l ∙ sym (last_some a r (λ z. omega arith)) ∙ eqb_self a

      go : (c : Bool) → equal (join s t r) u ≡ c → false ≡ c
      go true f = sym (known_false e k) ∙ ap (ends_with_byte a) (sym (equal_is (join s t r) u f)) ∙ ends
      go false f = refl

-- `has_joined`: the join is compared with the source.
equal_swap : (a b : Text) → equal a b ≡ equal b a
equal_swap a b = go (equal a b) (equal b a) refl refl
  where
    go : (x y : Bool) → equal a b ≡ x → equal b a ≡ y → x ≡ y
    go true true e f = refl
    go true false e f = sym (equal_self a) ∙ ap (λ (z : Text). equal z a) (equal_is a b e) ∙ f
    go false true e f = sym e ∙ ap (equal a) (equal_is b a f) ∙ equal_self a
    go false false e f = refl

module _ (store : Text) (places : List ℕ) (q : Text) (n : ℕ) (r : Bool) where
  pub join_in : MatchBool r ((k : ℕ) × (k < n) × (equal q (key_at store places false k) ≡ true)) ((k : ℕ) → k < n → equal q (key_at store places false k) ≡ false)
      → r ≡ has_source (pairs_in store places n) q
  join_in w = source_in store places q n r (go r w)
    where
      go : (b : Bool) → MatchBool b ((k : ℕ) × (k < n) × (equal q (key_at store places false k) ≡ true)) ((k : ℕ) → k < n → equal q (key_at store places false k) ≡ false)
          → MatchBool b ((k : ℕ) × (k < n) × (equal (key_at store places false k) q ≡ true)) ((k : ℕ) → k < n → equal (key_at store places false k) q ≡ false)
      go true w = (w.0, w.1, equal_swap (key_at store places false w.0) q ∙ w.2)
      go false w = λ k l. equal_swap (key_at store places false k) q ∙ w k l

-- `add_joined`: q is the joined path.
module _ (l : List Pair) (n at : ℕ) (bytes : Text) (slots : List ℕ) (h : PackedList l n at bytes slots bytes slots) (t q : Text) (b : Bool) (g : b ≡ has_source l q) where
  pub add_there : b ≡ true → PackedList (add_if_new_source l t (Some q)) n at bytes slots bytes slots
  unfolding add_if_new_source
  add_there f = rw (told g f) h

  pub add_new : b ≡ false → at + (length q + length t) ≤ length bytes → 4 * n + 4 ≤ length slots → (k : ℕ) → k ≡ length q → (once twice : Text) (slots' : List ℕ)
      → once ≡ written_if_fits at q bytes → twice ≡ written_if_fits (at + k) t once → slots' ≡ written_if_fits (4 * n) (at ∷ k ∷ (at + k) ∷ length t ∷ []) slots
      → PackedList (add_if_new_source l t (Some q)) (n + 1) (at + k + length t) bytes slots twice slots'
  unfolding add_if_new_source
  add_new f room more k e once twice slots' o u v =
      let d = pair_done q t at n (length t) bytes once twice slots slots' room more refl o (rw e at u) (rw e at v) in
      rw (told g f, e) (packed_more l n at bytes slots bytes slots h (pair q t) (at + length q + length t) twice slots' d)

-- `pull_back_pair`: o is the outer source mapped back through the inner map.
module _ (s : Text) (o : Option Text) (mark : Bool) (e : o ≡ path_if_marked mark s) where
  pub pull_unmarked : not mark ≡ true → o ≡ None
  pull_unmarked k = e ∙ rw (not_true mark k) refl

  -- The source joined to an empty prefix, with an empty remainder, is the source.
  pub pull_marked : not mark ≡ false → o ≡ Some (join [] s [])
  pull_marked k = e ∙ rw (not_false mark k, join_none [] s) refl

module _ (l : List Pair) (t : Text) (o : Option Text) (n at : ℕ) (bytes : Text) (slots : List ℕ) where
  pub pull_none : o ≡ None → PackedList l n at bytes slots bytes slots → PackedList (add_if_new_source l t o) n at bytes slots bytes slots
  unfolding add_if_new_source
  pull_none e h = rw e h

  module _ (q : Text) (e : o ≡ Some q) where
    pub pull_fits : at + (image_length o + length t) ≤ length bytes → at + (length q + length t) ≤ length bytes
    pull_fits h = rw e at h

    pub pull_some : (n' at' : ℕ) (bytes' : Text) (slots' : List ℕ) → PackedList (add_if_new_source l t (Some q)) n' at' bytes slots bytes' slots'
        → PackedList (add_if_new_source l t o) n' at' bytes slots bytes' slots'
    pull_some n' at' bytes' slots' d = rw e d
