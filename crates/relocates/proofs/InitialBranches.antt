-- Lemmas about the branches of the functions that write statuses.
use mathlib.Core.Path.{◌≡◌, refl, sym, ap, ◌∙◌}
use mathlib.Core.Logic.{◌≢◌}
use mathlib.Core.Bool.{Bool, true, false, not, cond, ◌&&◌}
use mathlib.Core.List.{List, [], ◌∷◌, ◌++◌, append_assoc}
use Prim.Native.Nat.{ℕ, zero, suc, ◌+◌, ◌≤◌, ◌<◌}
use native.Mathlib.Omega.{arith}
use native.Mathlib.Numerals.{add-one}
use native.Mathlib.Decide.{ℕ_discrete}
use lib.Dec.{eqb}
use lib.ListN.{length, get_or, set, drop, length-append, get_or-append}
use lib.Seq.{drop-cons, set_at, get_or_at}
use borrow.Author.Tests.{ne_eqb}
use Rattle.text.specs.Text.{Text, written}
use Rattle.text.proofs.BoolLaws.{told}
use Rattle.pair_list.specs.Pair.{Pair, pair, pair_at}
use Rattle.pair_list.specs.Places.{pair_in, pairs_in, key_at}
use Rattle.pair_list.proofs.PlaceLaws.{pair_is, pairs_in_at, pairs_in_length}
use Rattle.relocates.specs.declared.RelocateOccurrence.{RelocateOccurrence}
use Rattle.relocates.specs.declared.RelocateOccurrence.TheVariants.{Active, DroppedStructural, DroppedDuplicateSource, DroppedConflict}
use Rattle.relocates.specs.Status.{status_byte, any_below, is_structural, claims_source, is_duplicate, can_conflict, conflicts_with, has_conflict_among, has_conflict, occurrence_or, occurrence, status_bytes, status_list}
use Rattle.relocates.specs.Initial.{initial_statuses, HoldsInitialStatuses}
use Rattle.relocates.proofs.StatusBranches.{some_same, duplicate_in}

-- `initial_occurrence`
module _ (store : Text) (places : List ℕ) (i : ℕ) (s t : Text) (hs : s ≡ key_at store places false i) (ht : t ≡ key_at store places true i)
    (a : Bool) (ha : a ≡ is_structural (pair s t)) where
  own_structural : is_structural (pair_at (pairs_in store places (i + 1)) i) ≡ a
  own_structural = rw (pairs_in_at store places (i + 1) i (omega arith), ← (pair_is store places i s t hs ht)) (sym ha)

  pub initial_structural : a ≡ true → DroppedStructural ≡ occurrence_or Active (pairs_in store places (i + 1)) i
  unfolding occurrence_or
  initial_structural l = rw (own_structural, l)

  module _ (la : a ≡ false) (b : Bool) (hb : b ≡ is_duplicate (pairs_in store places (i + 1)) i) where
    pub initial_duplicate : b ≡ true → DroppedDuplicateSource ≡ occurrence_or Active (pairs_in store places (i + 1)) i
    unfolding occurrence_or
    initial_duplicate l = rw (own_structural, la, told hb l)

    pub initial_active : b ≡ false → Active ≡ occurrence_or Active (pairs_in store places (i + 1)) i
    unfolding occurrence_or
    initial_active l = rw (own_structural, la, told hb l)

pub ruleset firsts = (initial_structural, initial_duplicate, initial_active)

-- Status bytes in sequence.
pub bytes_length : (f : ℕ → RelocateOccurrence) (n : ℕ) → length (status_bytes f n) ≡ n
bytes_length f zero = refl
bytes_length f (suc n) = rw (length-append (status_bytes f n) (status_byte (f n) ∷ []), bytes_length f n) (omega arith)

module _ (f : ℕ → RelocateOccurrence) (out₀ out : Text) (i : ℕ) where
  pub bytes_on : (v : ℕ) → i < length out₀ → out ≡ written (status_bytes f i) out₀ → v ≡ status_byte (f i) → set out i v ≡ written (status_bytes f (i + 1)) out₀
  bytes_on v h e k =
      let b : Text = status_bytes f i in
      let n : length (b ++ v ∷ []) ≡ suc i = rw (length-append b (v ∷ []), bytes_length f i) (omega arith) in
      rw (add-one i, ← k, n, e, bytes_length f i, drop-cons out₀ i 0 h, set_at b (get_or out₀ i 0) (drop (suc i) out₀) v i (bytes_length f i), append_assoc b (v ∷ []) (drop (suc i) out₀))

pub bytes_at : (f : ℕ → RelocateOccurrence) (out : Text) (n i : ℕ) → i < n → get_or (written (status_bytes f n) out) i 0 ≡ status_byte (f i)
bytes_at f out n i h =
    get_or-append (status_bytes f n) (drop (length (status_bytes f n)) out) 0 i (rw (bytes_length f n) h) ∙ inside n h
  where
    inside : (n : ℕ) → i < n → get_or (status_bytes f n) i 0 ≡ status_byte (f i)
    inside zero h = absurd (omega arith)
    inside (suc n) h = elim (ℕ_discrete i n) [ yes e ↦ rw e (get_or_at (status_bytes f n) (status_byte (f n)) [] 0 n (bytes_length f n)) | no d ↦ earlier (omega arith) (inside n) ]
      where
        earlier : i < n → (i < n → get_or (status_bytes f n) i 0 ≡ status_byte (f i)) → get_or (status_bytes f n ++ status_byte (f n) ∷ []) i 0 ≡ status_byte (f i)
        earlier l ih = get_or-append (status_bytes f n) (status_byte (f n) ∷ []) 0 i (rw (bytes_length f n) l) ∙ ih l

by_tests : (l : List Pair) (i : ℕ) (a b : Bool) → is_structural (pair_at l i) ≡ a → is_duplicate l i ≡ b
    → occurrence_or Active l i ≡ cond a DroppedStructural (cond b DroppedDuplicateSource Active)
unfolding occurrence_or
by_tests l i a b ea eb = rw (ea, eb)

-- `write_initial`
module _ (store : Text) (places : List ℕ) where
  -- Lengthening the list does not change the first status of an earlier pair.
  pub initial_same : (n i : ℕ) → i < n → occurrence_or Active (pairs_in store places (i + 1)) i ≡ occurrence_or Active (pairs_in store places n) i
  initial_same n i h =
      let a : Bool = is_structural (pair_in store places i) in
      let b : Bool = any_below i (λ (k : ℕ). claims_source (pair_in store places k) (pair_in store places i).source) in
      let g : i < i + 1 = omega arith in
      by_tests (pairs_in store places (i + 1)) i a b (ap is_structural (pairs_in_at store places (i + 1) i g)) (duplicate_in store places (i + 1) i g)
      ∙ sym (by_tests (pairs_in store places n) i a b (ap is_structural (pairs_in_at store places n i h)) (duplicate_in store places n i h))

  module _ (n : ℕ) (out₀ : Text) where
    pub initial_begin : out₀ ≡ written (initial_statuses (pairs_in store places n) 0) out₀
    unfolding initial_statuses
    initial_begin = refl

    pub initial_on : (out : Text) (i : ℕ) → n ≤ length out₀ → i < n → out ≡ written (initial_statuses (pairs_in store places n) i) out₀
        → (o : RelocateOccurrence) → o ≡ occurrence_or Active (pairs_in store places (i + 1)) i → (v : ℕ) → v ≡ status_byte o
        → set out i v ≡ written (initial_statuses (pairs_in store places n) (i + 1)) out₀
    unfolding initial_statuses
    initial_on out i g h e o ho v hv =
        bytes_on (occurrence_or Active (pairs_in store places n)) out₀ out i v (omega arith) e (hv ∙ ap status_byte (ho ∙ initial_same n i h))

    pub initial_end : (out : Text) (i : ℕ) → n ≤ i → i ≤ n → out ≡ written (initial_statuses (pairs_in store places n) i) out₀ → out ≡ written (initial_statuses (pairs_in store places n) n) out₀
    initial_end out i g h e = let z : i ≡ n = omega arith in rw z at e

pub ruleset writing_first = (initial_begin, initial_on, initial_end)

-- The buffer of first statuses has the property `HoldsInitialStatuses`.
pub has_initial : (store : Text) (places : List ℕ) (n : ℕ) (buf mem : Text) → mem ≡ written (initial_statuses (pairs_in store places n) n) buf → HoldsInitialStatuses (pairs_in store places n) mem
unfolding initial_statuses HoldsInitialStatuses
has_initial store places n buf mem e =
    λ i h. rw e (bytes_at (occurrence_or Active (pairs_in store places n)) buf n i (rw (pairs_in_length store places n) at h))

module _ (l : List Pair) (i : ℕ) where
  abbrev first_status : RelocateOccurrence
  first_status = occurrence_or Active l i

  -- A first status of 0 means that the pair takes part in the search for conflicts.
  conflicting : eqb (status_byte first_status) 0 ≡ can_conflict l i
  unfolding occurrence_or can_conflict
  conflicting = go (is_structural (pair_at l i)) (is_duplicate l i)
    where
      go : (a b : Bool) → eqb (status_byte (cond a DroppedStructural (cond b DroppedDuplicateSource Active))) 0 ≡ (not a && not b)
      go true b = refl
      go false true = refl
      go false false = refl

  -- The search decides the status of such a pair; another keeps its first status.
  by_first : occurrence l i ≡ cond (can_conflict l i) (cond (has_conflict l i) DroppedConflict Active) first_status
  unfolding occurrence can_conflict
  by_first = go (is_structural (pair_at l i)) (is_duplicate l i) (cond (has_conflict l i) DroppedConflict Active)
    where
      go : (a b : Bool) (kept : RelocateOccurrence) → cond a DroppedStructural (cond b DroppedDuplicateSource kept)
          ≡ cond (not a && not b) kept (cond a DroppedStructural (cond b DroppedDuplicateSource Active))
      go true b kept = refl
      go false true kept = refl
      go false false kept = refl

  kept : (m : ℕ) → m ≡ status_byte first_status → m ≢ 0 → m ≡ status_byte (occurrence l i)
  kept m e d =
      let z : can_conflict l i ≡ false = sym conflicting ∙ ap (λ (v : ℕ). eqb v 0) (sym e) ∙ ne_eqb m 0 d in
      e ∙ ap status_byte (sym (by_first ∙ ap (λ (b : Bool). cond b (cond (has_conflict l i) DroppedConflict Active) first_status) z))

  decided : 0 ≡ status_byte first_status → occurrence l i ≡ cond (has_conflict l i) DroppedConflict Active
  decided e =
      let z : can_conflict l i ≡ true = sym conflicting ∙ ap (λ (v : ℕ). eqb v 0) (sym e) in
      by_first ∙ ap (λ (b : Bool). cond b (cond (has_conflict l i) DroppedConflict Active) first_status) z

  conflict_is : has_conflict l i ≡ has_conflict_among (can_conflict l) l i
  unfolding has_conflict
  conflict_is = refl

conflict_found : (takesPart : ℕ → Bool) (l : List Pair) (i : ℕ)
    → has_conflict_among takesPart l i ≡ any_below (length l) (λ (j : ℕ). not (eqb i j) && takesPart j && conflicts_with (pair_at l i) (pair_at l j))
unfolding has_conflict_among
conflict_found takesPart l i = refl

-- Pair j is a reason to drop pair i.
abbrev pub reason : Text → List ℕ → List ℕ → ℕ → ℕ → Bool
reason store places first i j = not (eqb i j) && eqb (get_or first j 0) 0 && conflicts_with (pair_in store places i) (pair_in store places j)

-- The search over the lent list, for any predicate that a buffer of numbers decides: a pair takes part if its number is 0.
conflict_among : (store : Text) (places : List ℕ) (n : ℕ) (first : List ℕ) (takesPart : ℕ → Bool) → ((j : ℕ) → j < n → eqb (get_or first j 0) 0 ≡ takesPart j)
    → (i : ℕ) → i < n → has_conflict_among takesPart (pairs_in store places n) i ≡ any_below n (reason store places first i)
conflict_among store places n first takesPart decides i h =
    let l : List Pair = pairs_in store places n in
    conflict_found takesPart l i
    ∙ ap (λ (k : ℕ). any_below k (λ (j : ℕ). not (eqb i j) && takesPart j && conflicts_with (pair_at l i) (pair_at l j))) (pairs_in_length store places n)
    ∙ some_same (λ (j : ℕ). not (eqb i j) && takesPart j && conflicts_with (pair_at l i) (pair_at l j)) (reason store places first i) n
    (λ j k. rw (pairs_in_at store places n i h, pairs_in_at store places n j k, decides j k))

-- `write_conflicts`
module _ (store : Text) (places : List ℕ) (n : ℕ) (out₀ : Text) where
  pub settle_begin : out₀ ≡ written (status_list (pairs_in store places n) 0) out₀
  unfolding status_list
  settle_begin = refl

  pub settle_on : (out : Text) (i v : ℕ) → n ≤ length out₀ → i < n → out ≡ written (status_list (pairs_in store places n) i) out₀ → v ≡ status_byte (occurrence (pairs_in store places n) i)
      → set out i v ≡ written (status_list (pairs_in store places n) (i + 1)) out₀
  unfolding status_list
  settle_on out i v g h e k = bytes_on (occurrence (pairs_in store places n)) out₀ out i v (omega arith) e k

  pub settle_end : (out : Text) (i : ℕ) → n ≤ i → i ≤ n → out ≡ written (status_list (pairs_in store places n) i) out₀ → out ≡ written (status_list (pairs_in store places n) n) out₀
  settle_end out i g h e = let z : i ≡ n = omega arith in rw z at e

-- The final status of pair i.
module _ (store : Text) (places : List ℕ) (n : ℕ) where
  module _ (first : List ℕ) (m : HoldsInitialStatuses (pairs_in store places n) first) where
    at_initial : (i : ℕ) → i < n → get_or first i 0 ≡ status_byte (occurrence_or Active (pairs_in store places n) i)
    unfolding HoldsInitialStatuses
    at_initial i h = m i (rw (pairs_in_length store places n) h)

    conflict_in : (i : ℕ) → i < n → has_conflict (pairs_in store places n) i ≡ any_below n (reason store places first i)
    conflict_in i h =
        let l : List Pair = pairs_in store places n in
        conflict_is l i
        ∙ conflict_among store places n first (can_conflict l) (λ j k. ap (λ (v : ℕ). eqb v 0) (at_initial j k) ∙ conflicting l j) i h

    module _ (i : ℕ) (h : i < n) where
      pub final_dropped : get_or first i 0 ≢ 0 → get_or first i 0 ≡ status_byte (occurrence (pairs_in store places n) i)
      final_dropped d = kept (pairs_in store places n) i (get_or first i 0) (at_initial i h) d

      module _ (z : get_or first i 0 ≡ 0) (b : Bool) (hb : b ≡ any_below n (reason store places first i)) where
        settled : status_byte (occurrence (pairs_in store places n) i) ≡ status_byte (cond b DroppedConflict Active)
        settled = ap status_byte (decided (pairs_in store places n) i (sym z ∙ at_initial i h) ∙ rw (conflict_in i h, ← hb))

        pub final_conflict : b ≡ true → (v : ℕ) → v ≡ status_byte DroppedConflict → v ≡ status_byte (occurrence (pairs_in store places n) i)
        final_conflict l v w = w ∙ sym (rw l at settled)

        pub final_active : b ≡ false → (v : ℕ) → v ≡ status_byte Active → v ≡ status_byte (occurrence (pairs_in store places n) i)
        final_active l v w = w ∙ sym (rw l at settled)
