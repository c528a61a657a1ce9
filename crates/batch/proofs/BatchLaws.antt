-- Lemmas about the branches of the batch functions.
use Rattle.std.specs.Prelude.{Result, Ok, Err, ⊤}
use mathlib.Core.Path.{◌≡◌, refl, sym, ap, ◌∙◌}
use mathlib.Core.Bool.{Bool, true, false, not, cond, ◌&&◌}
use mathlib.Core.List.{List, [], ◌∷◌, ◌++◌, append_assoc}
use Prim.Native.Nat.{ℕ, zero, suc, ◌+◌, ◌*◌, ◌-◌, ◌/◌, ◌≤◌, ◌<◌}
use native.Mathlib.Omega.{arith}
use lib.Dec.{leb}
use lib.ListN.{length, get_or, take, drop, set, length-append, length-drop}
use lib.Seq.{length-take-le, take-append-add, drop-append-add}
use borrow.Author.Tests.{le-leb, lt-leb, leb-true, leb-false}
use Rattle.text.specs.Text.{Text}
use Rattle.text.proofs.BoolLaws.{known_true, known_false, and_l, and_r}
use Rattle.text_list.specs.Places.{in_store, text_at}
use Rattle.refusal.specs.declared.Refusal.{Refusal}
use Rattle.refusal.specs.declared.Refusal.TheVariants.{TooLong, TooMany, NoRoom}
use Rattle.refusal.specs.Outcome.{Outcome, path, refused, outcome_reply, outcome_buffer}
use Rattle.ffi_values.specs.Code.{reply_code}
use Rattle.validate.specs.Validate.{lent_list, validate_call}
use Rattle.validate.proofs.RefusalLaws.{never}
use Rattle.map_function.specs.declared.MapFunction.{MapFunction}
use Rattle.mapping.specs.declared.Direction.{Direction}
use Rattle.mapping.specs.Direction.{after_list_validated}
use Rattle.mapping.specs.Calls.{direction_call}
use Rattle.mapping.proofs.CopyOutBranches.{Short, short_refused, short_cond}
use Rattle.mapping.proofs.DirectionLaws.{short_after, after_is_call}
use Rattle.route_legs.specs.LentRoute.{LentRoute, lent_route, validate_route}
use Rattle.route_maps.specs.Prepared.{PreparedIfPassed}
use Rattle.route.specs.Calls.{route_call}
use Rattle.route.specs.Fast.{needs_maps, after_route_validated}
use Rattle.route.proofs.ShortLaws.{short_after as short-route}
use Rattle.route.proofs.CallBranches.{call_as_it_is, call_prepared}
use Rattle.batch.specs.declared.Mapper.{Mapper}
use Rattle.batch.specs.declared.Mapper.TheVariants.{Map, Route}
use Rattle.batch.specs.Batch.{call_at_spot, mapped_at, routed_at, path_buffers, reply_numbers, batch_fits, validate_batch, batch_bytes, batch_replies, validate_map_all, validate_route_all, ReturnsBatch}
use Rattle.batch.specs.BatchStep.{map_path_by, map_spot_by, written_block}

-- `batch_fits`
module _ (n spots bytes replies : ℕ) where
  pub room_spots : spots / 2 < n → false ≡ batch_fits n spots bytes replies
  unfolding batch_fits
  room_spots h = rw (lt-leb (2 * n) spots (omega arith))

  pub room_bytes : n ≤ spots / 2 → bytes / 255 < n → false ≡ batch_fits n spots bytes replies
  unfolding batch_fits
  room_bytes h k = rw (le-leb (2 * n) spots (omega arith), lt-leb (255 * n) bytes (omega arith))

  pub room_replies : n ≤ spots / 2 → n ≤ bytes / 255 → leb n replies ≡ batch_fits n spots bytes replies
  unfolding batch_fits
  room_replies h k = rw (le-leb (2 * n) spots (omega arith), le-leb (255 * n) bytes (omega arith))

pub ruleset rooms = (room_spots, room_bytes, room_replies)

-- The decision of `validate_batch` on its two tests.
decided_short : (a b : Bool) → a ≡ true → b ≡ false → ◌≡◌ {A = Result ⊤ Refusal} (Err NoRoom) (cond a (cond b (Ok tt) (Err NoRoom)) (Err TooMany))
decided_short a b x y = rw (x, y)

decided_passed : (a b : Bool) → a ≡ true → b ≡ true → ◌≡◌ {A = Result ⊤ Refusal} (Ok tt) (cond a (cond b (Ok tt) (Err NoRoom)) (Err TooMany))
decided_passed a b x y = rw (x, y)

-- `validate_batch`
module _ (list : Result ⊤ Refusal) (n spots bytes replies : ℕ) where
  pub batch_refused : (x : Refusal) → list ≡ Err x → Err x ≡ validate_batch list n spots bytes replies
  unfolding validate_batch
  batch_refused x h = rw h

  pub batch_beyond : list ≡ Ok tt → spots / 2 < n → Err TooMany ≡ validate_batch list n spots bytes replies
  unfolding validate_batch
  batch_beyond h l = rw (h, lt-leb (2 * n) spots (omega arith))

  module _ (h : list ≡ Ok tt) (l : n ≤ spots / 2) (b : Bool) (k : b ≡ batch_fits n spots bytes replies) where
    pub batch_short : not b ≡ true → Err NoRoom ≡ validate_batch list n spots bytes replies
    unfolding validate_batch
    batch_short f = rw h (decided_short (leb (2 * n) spots) (batch_fits n spots bytes replies) (le-leb (2 * n) spots (omega arith)) (known_false k f))

    pub batch_passed : not b ≡ false → (Ok tt) ≡ validate_batch list n spots bytes replies
    unfolding validate_batch
    batch_passed f = rw h (decided_passed (leb (2 * n) spots) (batch_fits n spots bytes replies) (le-leb (2 * n) spots (omega arith)) (known_true k f))

-- A batch that passes has large enough buffers.
pub batch_has_room : (list : Result ⊤ Refusal) (n spots bytes replies : ℕ) → validate_batch list n spots bytes replies ≡ Ok tt → batch_fits n spots bytes replies ≡ true
unfolding validate_batch
batch_has_room (Ok tt) n spots bytes replies h = by-spots (leb (2 * n) spots) (batch_fits n spots bytes replies) h
  where
    by-spots : (a b : Bool) → ◌≡◌ {A = Result ⊤ Refusal} (cond a (cond b (Ok tt) (Err NoRoom)) (Err TooMany)) (Ok tt) → b ≡ true
    by-spots true true e = refl
    by-spots true false e = absurd (never NoRoom e)
    by-spots false b e = absurd (never TooMany e)
batch_has_room (Err x) n spots bytes replies h = absurd (never x h)

-- `is_inside`
module _ (texts : Text) (spots : List ℕ) (i : ℕ) where
  pub inside_start : length texts < get_or spots (2 * i) 0 → false ≡ in_store texts spots i
  unfolding in_store
  inside_start h = sym (lt-leb (get_or spots (2 * i) 0 + get_or spots (2 * i + 1) 0) (length texts) (omega arith))

  pub inside_rest : get_or spots (2 * i) 0 ≤ length texts → leb (get_or spots (2 * i + 1) 0) (length texts - get_or spots (2 * i) 0) ≡ in_store texts spots i
  unfolding in_store
  inside_rest h = go (leb (get_or spots (2 * i + 1) 0) (length texts - get_or spots (2 * i) 0)) refl
    where
      go : (t : Bool) → leb (get_or spots (2 * i + 1) 0) (length texts - get_or spots (2 * i) 0) ≡ t
          → t ≡ leb (get_or spots (2 * i) 0 + get_or spots (2 * i + 1) 0) (length texts)
      go true e =
          let z : get_or spots (2 * i + 1) 0 ≤ length texts - get_or spots (2 * i) 0 = leb-true (get_or spots (2 * i + 1) 0) (length texts - get_or spots (2 * i) 0) e in
          sym (le-leb (get_or spots (2 * i) 0 + get_or spots (2 * i + 1) 0) (length texts) (omega (arith, z)))
      go false e =
          let z : length texts - get_or spots (2 * i) 0 < get_or spots (2 * i + 1) 0 = leb-false (get_or spots (2 * i + 1) 0) (length texts - get_or spots (2 * i) 0) e in
          sym (lt-leb (get_or spots (2 * i) 0 + get_or spots (2 * i + 1) 0) (length texts) (omega (arith, z)))

pub ruleset insides = (inside_start, inside_rest)

-- `map_one`
module _ (list : Result ⊤ Refusal) (by : Mapper) (store : Text) (places legs : List ℕ) (room : ℕ) (p : Text) where
  pub by_map : (f : MapFunction) (direction : Direction) → by ≡ Map f direction → map_path_by list by store places legs room p ≡ after_list_validated list direction store places f p room
  unfolding map_path_by
  by_map f direction h = rw h

  pub by_route : (n : ℕ) (home : Bool) → by ≡ Route n home → map_path_by list by store places legs room p ≡ after_route_validated list home (lent_route store places legs n) p room
  unfolding map_path_by
  by_route n home h = rw h

-- No path made has more than 255 bytes.
short_by : (list : Result ⊤ Refusal) (by : Mapper) (store : Text) (places legs : List ℕ) (room : ℕ) (p : Text) → Short (map_path_by list by store places legs room p)
unfolding map_path_by
short_by list (Map f direction) store places legs room p = short_after list direction store places f p room
short_by list (Route n home) store places legs room p = short-route list home (lent_route store places legs n) p room

pub short_spotted : (call : Text → Outcome) → ((p : Text) → Short (call p)) → (texts : Text) (spots : List ℕ) (i : ℕ) → Short (call_at_spot call texts spots i)
unfolding call_at_spot
short_spotted call s texts spots i = short_cond (in_store texts spots i) (call (text_at texts spots i)) (refused TooLong) (s (text_at texts spots i)) (short_refused TooLong)

-- `map_spot`
module _ (list : Result ⊤ Refusal) (by : Mapper) (store : Text) (places legs : List ℕ) (texts : Text) (spots : List ℕ) (room i : ℕ) (b : Bool) (h : b ≡ in_store texts spots i) where
  pub spot_outside : not b ≡ true → map_spot_by list by store places legs texts spots room i ≡ refused TooLong
  unfolding map_spot_by call_at_spot
  spot_outside k = rw (known_false h k)

  pub spot_inside : (t : Text) → not b ≡ false → t ≡ text_at texts spots i → map_spot_by list by store places legs texts spots room i ≡ map_path_by list by store places legs room t
  unfolding map_spot_by call_at_spot
  spot_inside t k e =
      ap (λ (x : Bool). cond x (map_path_by list by store places legs room (text_at texts spots i)) (refused TooLong)) (known_true h k)
      ∙ ap (map_path_by list by store places legs room) (sym e)

-- `map_block`: the slice lent for one block is put back into the buffer.
module _ (list : Result ⊤ Refusal) (by : Mapper) (store : Text) (places legs : List ℕ) (texts : Text) (spots : List ℕ) (i : ℕ) (out : Text) (h : 255 * i + 255 ≤ length out) where
  abbrev given : ℕ → Outcome
  given room = map_spot_by list by store places legs texts spots room i

  size : 255 * i + 255 - 255 * i ≡ 255
  size = omega arith

  long : length (take 255 (drop (255 * i) out)) ≡ 255
  long = length-take-le 255 (drop (255 * i) out) (rw (length-drop (255 * i) out) (omega arith))

  pub block_bytes : (ys : Text) → ys ≡ outcome_buffer (given (length (take (255 * i + 255 - 255 * i) (drop (255 * i) out)))) (take (255 * i + 255 - 255 * i) (drop (255 * i) out))
      → take (255 * i) out ++ (ys ++ drop (255 * i + 255 - 255 * i) (drop (255 * i) out)) ≡ written_block i (given 255) out
  unfolding written_block
  block_bytes ys e = rw (e, size, long)

  pub block_reply : (r : Result ℕ Refusal) (a : ℕ) → r ≡ outcome_reply (given (length (take (255 * i + 255 - 255 * i) (drop (255 * i) out)))) → a ≡ reply_code r → a ≡ reply_code (outcome_reply (given 255))
  block_reply r a e f = f ∙ rw (e, size, long)

-- The buffer and the replies after one more iteration.
pub kept_length : (o : Outcome) (x : Text) → Short o → length x ≡ 255 → length (outcome_buffer o x) ≡ 255
unfolding outcome_buffer
kept_length (path q) x s h = length-append q (drop (length q) x) ∙ rw (length-drop (length q) x) (omega (arith, s q refl, h))
kept_length (refused r) x s h = h

-- 255 k bytes after 255 others.
next_place : (m : Text) (k : ℕ) → length m ≡ 255 → 255 * suc k ≡ length m + 255 * k
next_place m k l = omega (arith, l)

pub later : (m c : Text) (k : ℕ) → length m ≡ 255 → drop (255 * suc k) (m ++ c) ≡ drop (255 * k) c
later m c k l = ap (λ (x : ℕ). drop x (m ++ c)) (next_place m k l) ∙ drop-append-add m c (255 * k)

before : (m c : Text) (k : ℕ) → length m ≡ 255 → take (255 * suc k) (m ++ c) ≡ m ++ take (255 * k) c
before m c k l = ap (λ (x : ℕ). take x (m ++ c)) (next_place m k l) ∙ take-append-add m c (255 * k)

-- Block k after 255 bytes is block k + 1.
after : (m c : Text) (k : ℕ) → length m ≡ 255 → (o : Outcome) → m ++ written_block k o c ≡ written_block (suc k) o (m ++ c)
unfolding written_block
after m c k l o =
    rw (before m c k l, later m c k l) (sym (append_assoc m (take (255 * k) c) (outcome_buffer o (take 255 (drop (255 * k) c)) ++ drop 255 (drop (255 * k) c))))

module _ (o : ℕ → Outcome) (s : (j : ℕ) → Short (o j)) where
  pub blocks_next : (i k : ℕ) (out : Text) → 255 * k + 255 ≤ length out → path_buffers o i (suc k) out ≡ written_block k (o (i + k)) (path_buffers o i k out)
  unfolding path_buffers written_block
  blocks_next i zero out h = let z : i + 0 ≡ i = omega arith in rw z refl
  blocks_next i (suc k) out h =
      let l : length (outcome_buffer (o i) (take 255 out)) ≡ 255 = kept_length (o i) (take 255 out) (s i) (length-take-le 255 out (omega arith)) in
      let j : i + suc k ≡ suc i + k = omega arith in
      let r : 255 * k + 255 ≤ length (drop 255 out) = rw (length-drop 255 out) (omega arith) in
      ap (λ (x : Text). outcome_buffer (o i) (take 255 out) ++ x) (blocks_next (suc i) k (drop 255 out) r)
      ∙ after (outcome_buffer (o i) (take 255 out)) (path_buffers o (suc i) k (drop 255 out)) k l (o (suc i + k))
      ∙ ap (λ (y : ℕ). written_block (suc k) (o y) (outcome_buffer (o i) (take 255 out) ++ path_buffers o (suc i) k (drop 255 out))) (sym j)

module _ (o : ℕ → Outcome) where
  pub numbers_next : (i k : ℕ) (r : List ℕ) → k < length r → reply_numbers o i (suc k) r ≡ set (reply_numbers o i k r) k (reply_code (outcome_reply (o (i + k))))
  unfolding reply_numbers
  numbers_next i zero [] h = absurd (omega arith)
  numbers_next i zero (x ∷ r) h = let z : i + 0 ≡ i = omega arith in rw z refl
  numbers_next i (suc k) [] h = absurd (omega arith)
  numbers_next i (suc k) (x ∷ r) h =
      let j : i + suc k ≡ suc i + k = omega arith in
      rw j (ap (λ (l : List ℕ). reply_code (outcome_reply (o i)) ∷ l) (numbers_next (suc i) k r (omega arith)))

-- `map_each`: the lent buffers suffice for each iteration.
module _ (n spots bytes replies : ℕ) (h : batch_fits n spots bytes replies ≡ true) where
  yes_all : (leb (2 * n) spots && leb (255 * n) bytes) && leb n replies ≡ true
  unfolding batch_fits
  yes_all = h

  yes_two : leb (2 * n) spots && leb (255 * n) bytes ≡ true
  yes_two = and_l (leb (2 * n) spots && leb (255 * n) bytes) (leb n replies) yes_all

  module _ (i : ℕ) (l : i < n) where
    pub room_spot : 2 * i + 2 ≤ spots
    room_spot = omega (arith, leb-true (2 * n) spots (and_l (leb (2 * n) spots) (leb (255 * n) bytes) yes_two))

    pub room_block : 255 * i + 255 ≤ bytes
    room_block = omega (arith, leb-true (255 * n) bytes (and_r (leb (2 * n) spots) (leb (255 * n) bytes) yes_two))

    pub room_number : i < replies
    room_number = omega (arith, leb-true n replies (and_r (leb (2 * n) spots && leb (255 * n) bytes) (leb n replies) yes_all))

-- One iteration adds one block and one reply.
module _ (list : Result ⊤ Refusal) (by : Mapper) (store : Text) (places legs : List ℕ) (texts : Text) (spots : List ℕ) (i : ℕ) where
  abbrev o : ℕ → Outcome
  o = map_spot_by list by store places legs texts spots 255

  short_step : (j : ℕ) → Short (o j)
  unfolding map_spot_by
  short_step = short_spotted (map_path_by list by store places legs 255) (short_by list by store places legs 255) texts spots

  pub step_bytes : (out₀ out out' : Text) → 255 * i + 255 ≤ length out₀ → out ≡ path_buffers o 0 i out₀ → out' ≡ written_block i (o i) out → out' ≡ path_buffers o 0 (i + 1) out₀
  step_bytes out₀ out out' r h e =
      let z : 0 + i ≡ i = omega arith in
      let w : suc i ≡ i + 1 = omega arith in
      e ∙ ap (λ (x : Text). written_block i (o i) x) h
      ∙ ap (λ (x : ℕ). written_block i (o x) (path_buffers o 0 i out₀)) (sym z)
      ∙ sym (blocks_next o short_step 0 i out₀ r)
      ∙ ap (λ (x : ℕ). path_buffers o 0 x out₀) w

  pub step_numbers : (replies₀ replies replies' : List ℕ) → i < length replies₀ → replies ≡ reply_numbers o 0 i replies₀ → replies' ≡ set replies i (reply_code (outcome_reply (o i)))
      → replies' ≡ reply_numbers o 0 (i + 1) replies₀
  step_numbers replies₀ replies replies' r h e =
      let z : 0 + i ≡ i = omega arith in
      let w : suc i ≡ i + 1 = omega arith in
      e ∙ ap (λ (x : List ℕ). set x i (reply_code (outcome_reply (o i)))) h
      ∙ ap (λ (x : ℕ). set (reply_numbers o 0 i replies₀) i (reply_code (outcome_reply (o x)))) (sym z)
      ∙ sym (numbers_next o 0 i replies₀ r)
      ∙ ap (λ (x : ℕ). reply_numbers o 0 x replies₀) w

pub steps_end : (o : ℕ → Outcome) (n i : ℕ) (out₀ out : Text) (replies₀ replies : List ℕ) → n ≤ i → i ≤ n → out ≡ path_buffers o 0 i out₀ → replies ≡ reply_numbers o 0 i replies₀
    → (out ≡ path_buffers o 0 n out₀) × (replies ≡ reply_numbers o 0 n replies₀)
steps_end o n i out₀ out replies₀ replies l m x y =
    let z : i ≡ n = omega arith in
    (x ∙ ap (λ (j : ℕ). path_buffers o 0 j out₀) z, y ∙ ap (λ (j : ℕ). reply_numbers o 0 j replies₀) z)

-- With the result of the lists' validation, each iteration yields the result of the single call.
module _ (o o' : ℕ → Outcome) (same : (i : ℕ) → o i ≡ o' i) where
  blocks_same : (i n : ℕ) (out : Text) → path_buffers o i n out ≡ path_buffers o' i n out
  unfolding path_buffers
  blocks_same i zero out = refl
  blocks_same i (suc n) out = rw (same i) (ap (λ (x : Text). outcome_buffer (o' i) (take 255 out) ++ x) (blocks_same (suc i) n (drop 255 out)))

  numbers_same : (i n : ℕ) (replies : List ℕ) → reply_numbers o i n replies ≡ reply_numbers o' i n replies
  unfolding reply_numbers
  numbers_same i zero replies = refl
  numbers_same i (suc n) replies = rw (same i) (ap (λ (x : List ℕ). reply_code (outcome_reply (o' i)) ∷ x) (numbers_same (suc i) n (drop 1 replies)))

  pub all_same : (n : ℕ) (out₀ out : Text) (replies₀ replies : List ℕ) → (out ≡ path_buffers o' 0 n out₀) × (replies ≡ reply_numbers o' 0 n replies₀)
      → (out ≡ path_buffers o 0 n out₀) × (replies ≡ reply_numbers o 0 n replies₀)
  all_same n out₀ out replies₀ replies w = (w.0 ∙ sym (blocks_same 0 n out₀), w.1 ∙ sym (numbers_same 0 n replies₀))

-- The reply and the buffers of a batch that passes, and of one that is refused.
pub all_done : (o : ℕ → Outcome) (n : ℕ) (v : Result ⊤ Refusal) → v ≡ Ok tt → (out₀ out : Text) (replies₀ replies : List ℕ)
    → (out ≡ path_buffers o 0 n out₀) × (replies ≡ reply_numbers o 0 n replies₀) → ReturnsBatch v o n (Ok tt) out₀ out replies₀ replies
unfolding batch_bytes batch_replies
all_done o n v h out₀ out replies₀ replies w = rw h (refl, (w.0, w.1))

pub all_refused : (o : ℕ → Outcome) (n : ℕ) (v : Result ⊤ Refusal) (x : Refusal) → v ≡ Err x → (out : Text) (replies : List ℕ) → ReturnsBatch v o n (Err x) out out replies replies
unfolding batch_bytes batch_replies
all_refused o n v x h out replies = rw h (refl, (refl, refl))

spotted_same : (f g : Text → Outcome) → ((p : Text) → f p ≡ g p) → (texts : Text) (spots : List ℕ) (i : ℕ) → call_at_spot f texts spots i ≡ call_at_spot g texts spots i
unfolding call_at_spot
spotted_same f g same texts spots i = rw (same (text_at texts spots i))

-- `map_all`
pub map_validated : (store : Text) (places : List ℕ) (f : MapFunction) (n : ℕ) (spots : List ℕ) (out : Text) (replies : List ℕ) (list q : Result ⊤ Refusal)
    → list ≡ validate_call (lent_list store places f.count ∷ []) [] [] → q ≡ validate_batch list n (length spots) (length out) (length replies) → validate_map_all store places f n spots out replies ≡ q
unfolding validate_map_all
map_validated store places f n spots out replies list q h k = sym (k ∙ ap (λ (a : Result ⊤ Refusal). validate_batch a n (length spots) (length out) (length replies)) h)

pub map_step : (direction : Direction) (store : Text) (places legs : List ℕ) (f : MapFunction) (texts : Text) (spots : List ℕ) (list : Result ⊤ Refusal)
    → list ≡ validate_call (lent_list store places f.count ∷ []) [] [] → (i : ℕ) → mapped_at direction store places f texts spots i ≡ map_spot_by list (Map f direction) store places legs texts spots 255 i
unfolding mapped_at map_spot_by map_path_by
map_step direction store places legs f texts spots list h =
    spotted_same (λ (p : Text). direction_call direction store places f p 255) (λ (p : Text). after_list_validated list direction store places f p 255)
    (λ p. sym (after_is_call direction store places f p 255) ∙ ap (λ (a : Result ⊤ Refusal). after_list_validated a direction store places f p 255) (sym h)) texts spots

-- `route_all`
pub route_validated : (r : LentRoute) (n : ℕ) (spots : List ℕ) (out : Text) (replies : List ℕ) (list q : Result ⊤ Refusal) → list ≡ validate_route r []
    → q ≡ validate_batch list n (length spots) (length out) (length replies) → validate_route_all r n spots out replies ≡ q
unfolding validate_route_all
route_validated r n spots out replies list q h k = sym (k ∙ ap (λ (a : Result ⊤ Refusal). validate_batch a n (length spots) (length out) (length replies)) h)

module _ (home : Bool) (r : LentRoute) (texts : Text) (spots : List ℕ) (list : Result ⊤ Refusal) (e : list ≡ validate_route r []) where
  pub route_step : (b : Bool) → b ≡ needs_maps list r.legs r.count → not b ≡ true
      → (i : ℕ) → routed_at home r texts spots i ≡ map_spot_by list (Route r.count home) r.store r.places r.legs texts spots 255 i
  unfolding routed_at map_spot_by map_path_by
  route_step b h k =
      spotted_same (λ (p : Text). route_call home r p 255) (λ (p : Text). after_route_validated list home r p 255) (λ p. call_as_it_is home r p 255 list e b h k) texts spots

  pub prepared_step : (made table : List ℕ) → length made ≡ 4096 → length table ≡ 48 → PreparedIfPassed r (lent_route r.store made table r.count) r.count
      → (i : ℕ) → routed_at home r texts spots i ≡ map_spot_by list (Route r.count home) r.store made table texts spots 255 i
  unfolding routed_at map_spot_by map_path_by
  prepared_step made table l m ready =
      spotted_same (λ (p : Text). route_call home r p 255) (λ (p : Text). after_route_validated list home (lent_route r.store made table r.count) p 255)
      (λ p. call_prepared home r p 255 list e (lent_route r.store made table r.count) refl l m ready) texts spots
