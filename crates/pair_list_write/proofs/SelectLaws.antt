-- Reading back selected pairs from the slice they were copied to.
use mathlib.Core.Path.{◌≡◌, refl, sym, ap, ◌∙◌}
use mathlib.Core.Bool.{Bool, true, false, cond}
use mathlib.Core.List.{List, [], ◌∷◌, ◌++◌, append_assoc, flat_map}
use Prim.Native.Nat.{ℕ, zero, suc, ◌+◌, ◌*◌, ◌≤◌, ◌<◌}
use native.Mathlib.Omega.{arith}
use lib.ListN.{length, get_or, drop, length-append, length-drop}
use Rattle.text.specs.Text.{Text}
use Rattle.pair_list.specs.Pair.{Pair}
use Rattle.pair_list.specs.Places.{pair_in, pairs_in}
use Rattle.pair_list_write.specs.Lists.{entry_at, copy_entry}
use Rattle.pair_list_write.specs.Select.{indices_where, written_entries, HoldsEntries, selected_pairs}
use Rattle.pair_list_write.proofs.CopyLaws.{pair_same, copied_over, entry_at_lem}
use Rattle.text.proofs.WriteLaws.{over_written}

-- At most n of the first n pairs pass.
pub passing_few : (passes : ℕ → Bool) (n : ℕ) → length (indices_where passes n) ≤ n
unfolding indices_where
passing_few passes zero = omega arith
passing_few passes (suc n) = go (passes n) (passing_few passes n)
  where
    go : (b : Bool) → length (indices_where passes n) ≤ n → length (cond b (indices_where passes n ++ n ∷ []) (indices_where passes n)) ≤ suc n
    go true h = omega (arith, h, length-append (indices_where passes n) (n ∷ []))
    go false h = omega (arith, h)

module _ (places : List ℕ) where
  entries_length : (picks : List ℕ) → length (flat_map (entry_at places) picks) ≡ 4 * length picks
  unfolding flat_map
  entries_length [] = refl
  entries_length (i ∷ picks) = omega (arith, entries_length picks)

  entries_append : (a b : List ℕ) → flat_map (entry_at places) (a ++ b) ≡ flat_map (entry_at places) a ++ flat_map (entry_at places) b
  unfolding flat_map
  entries_append [] b = refl
  entries_append (i ∷ a) b = rw (entries_append a b) refl

  -- Reading the first pair, then the others.
  pairs_shift : (store : Text) (i : ℕ) (rest : List ℕ) (n : ℕ) → pairs_in store (entry_at places i ++ rest) (suc n) ≡ pair_in store places i ∷ pairs_in store rest n
  unfolding pairs_in
  pairs_shift store i rest zero = ap (λ (x : Pair). x ∷ []) (pair_same store (entry_at places i ++ rest) places 0 i (λ k l. first k l))
    where
      first : (k : ℕ) → k < 4 → get_or (entry_at places i ++ rest) (4 * 0 + k) 0 ≡ get_or places (4 * i + k) 0
      first zero l = entry_at_lem places i 0 l
      first (suc zero) l = refl
      first (suc (suc zero)) l = refl
      first (suc (suc (suc zero))) l = refl
      first (suc (suc (suc (suc k)))) l = absurd (omega arith)
  pairs_shift store i rest (suc n) =
      rw (
        pairs_shift store i rest n,
        pair_same store (entry_at places i ++ rest) rest (suc n) n (λ k l. let z : 4 * suc n + k ≡ suc (suc (suc (suc (4 * n + k)))) = omega arith in rw z refl),
      ) refl

  all_read : (store : Text) (picks rest : List ℕ) → pairs_in store (flat_map (entry_at places) picks ++ rest) (length picks) ≡ selected_pairs store places picks
  unfolding pairs_in flat_map
  all_read store [] rest = refl
  all_read store (i ∷ picks) rest =
      rw (append_assoc (entry_at places i) (flat_map (entry_at places) picks) rest)
      (pairs_shift store i (flat_map (entry_at places) picks ++ rest) (length picks) ∙ ap (λ (l : List Pair). pair_in store places i ∷ l) (all_read store picks rest))

  pub selected_read : (store : Text) (picks old slots : List ℕ) (w : ℕ) → HoldsEntries places picks old slots w → pairs_in store slots w ≡ selected_pairs store places picks
  unfolding written_entries
  selected_read store picks old slots w h = rw (h.0, h.1) (all_read store picks (drop (length (flat_map (entry_at places) picks)) old))

  -- Writing the selected pairs does not change the length of a slice that has capacity for them.
  pub selected_length : (picks slots : List ℕ) → 4 * length picks ≤ length slots → length (written_entries places picks slots) ≡ length slots
  unfolding written_entries
  selected_length picks slots h =
      let t : List ℕ = flat_map (entry_at places) picks in
      omega (arith, h, entries_length picks, length-append t (drop (length t) slots), length-drop (length t) slots)

  -- Before the first selected pair, the slice is unchanged.
  pub selected_none : (slots : List ℕ) → HoldsEntries places [] slots slots 0
  unfolding written_entries flat_map
  selected_none slots = (refl, refl)

  -- One more pair is appended to the selected ones.
  module _ (i : ℕ) (picks old slots : List ℕ) (w : ℕ) (held : 4 * i + 4 ≤ length places) (h : HoldsEntries places picks old slots w) where
    selected_next : 4 * w + 4 ≤ length slots → copy_entry places i w slots ≡ written_entries places (picks ++ i ∷ []) old
    unfolding written_entries flat_map
    selected_next room =
        let z : 4 * w ≡ length (flat_map (entry_at places) picks) = sym (entries_length picks ∙ ap (λ (n : ℕ). 4 * n) (sym h.0)) in
        copied_over places i w slots held room ∙ rw (h.1, z, entries_append picks (i ∷ [])) (over_written (flat_map (entry_at places) picks) (entry_at places i) old)

    -- The same, if a test passes.
    pub selected_turn : (b : Bool) → (b ≡ true → 4 * w + 4 ≤ length slots) → (r : ℕ) (slots' : List ℕ) → r ≡ cond b (w + 1) w → slots' ≡ cond b (copy_entry places i w slots) slots
        → HoldsEntries places (cond b (picks ++ i ∷ []) picks) old slots' r
    selected_turn true room r slots' f g = (f ∙ rw (length-append picks (i ∷ []), h.0) refl, g ∙ selected_next (room refl))
    selected_turn false room r slots' f g = (f ∙ h.0, g ∙ h.1)
