-- Lemmas about the step of each kind of frame, from the contract of its function.
use Rattle.std.specs.Prelude.{Result, Ok, Err, OkIff, ⊤}
use Rattle.std.specs.Result.{result_unwrap_or}
use mathlib.Core.Path.{◌≡◌, refl, sym, ap, ◌∙◌}
use mathlib.Core.Bool.{Bool, true, false, cond}
use mathlib.Core.List.{List, [], ◌∷◌}
use Prim.Native.Nat.{ℕ, ◌+◌, ◌≤◌, ◌<◌}
use native.Mathlib.Omega.{arith}
use lib.Dec.{leb}
use lib.ListN.{length, take}
use borrow.Author.Tests.{le-leb, lt-leb}
use Rattle.text.specs.Text.{Text, written}
use Rattle.refusal.specs.declared.Refusal.TheVariants.{NoRoom}
use Rattle.refusal.specs.Refusal.{refused_or}
use Rattle.refusal.specs.Outcome.{Outcome, path, refused, outcome_reply, outcome_buffer}
use Rattle.refusal.specs.Outcome.{written_if_accepted}
use Rattle.validate.specs.Validate.{LentList, lent_list, pairs_of, validate_call}
use Rattle.validate.proofs.PassedLaws.{first_sound}
use Rattle.relocates.specs.Status.{occurrence, status_list}
use Rattle.relocates.specs.Calls.{analyze_reply, analyze_buffer}
use Rattle.relocates.proofs.InitialBranches.{bytes_length}
use Rattle.route_legs.specs.LentRoute.{LentRoute, lent_route}
use Rattle.route.specs.Fast.{after_route_validated}
use Rattle.frames_spec.specs.State.{success, refusal, outcome_answer, count_outcome, big_endian32}
use Rattle.frames_spec.specs.Run.{saturate32}
use Rattle.frame_decode.specs.declared.FrameHeader.{FrameHeader}
use Rattle.frame_decode.specs.declared.FrameHeader.TheVariants.{AddPair, Statuses, Close, Route, Count}
use Rattle.frame_decode.specs.Header.{last_bytes, action_in, reach}
use Rattle.frames_memory.specs.declared.Counters.{Counters}
use Rattle.frames_memory.specs.Memory.{FramesMemory, frames_memory, statuses_in, route_path_in, step_frame_in}
use Rattle.frame_apply.specs.declared.Effect.{Effect}
use Rattle.frame_apply.specs.Done.{answer_reply, answer_payload, Replies, RepliesPath, FrameDone, PairDone, CloseDone, count_reply}
use Rattle.frame_apply.proofs.ApplyBranches.{counted_effect}
use Rattle.refusal.specs.declared.Refusal.{Refusal}

-- `apply_statuses`: a validated list has at most 64 pairs.
module _ (k : Counters) (bytes : Text) (places : List ℕ) (payload payload' : Text) (e : length payload ≡ 255) where
  abbrev list : LentList
  list = lent_list bytes places k.opened.pairs

  statuses_length : length (status_list (pairs_of list) list.count) ≡ list.count
  unfolding status_list
  statuses_length = bytes_length (occurrence (pairs_of list)) list.count

  pub statuses_given : (r : Result ℕ Refusal) → r ≡ analyze_reply list (length payload) → payload' ≡ analyze_buffer r list payload
      → Replies (statuses_in (frames_memory k bytes places [] [] [])) r payload payload'
  unfolding Replies statuses_in analyze_reply
  statuses_given r h w = go (validate_call (list ∷ []) [] []) refl (rw e at h)
    where
      few : validate_call (list ∷ []) [] [] ≡ Ok tt → list.count ≤ 255
      few p = omega (arith, (first_sound list [] [] [] p).few)

      go : (a : Result ⊤ Refusal) → validate_call (list ∷ []) [] [] ≡ a → r ≡ refused_or a Err (cond (leb list.count 255) (Ok list.count) (Err NoRoom))
          → (r ≡ answer_reply (refused_or a refusal (success (status_list (pairs_of list) list.count))))
          × (payload' ≡ answer_payload (refused_or a refusal (success (status_list (pairs_of list) list.count))) payload)
      go (Ok tt) p g =
          let d : r ≡ Ok list.count = rw (le-leb list.count 255 (few p)) at g in
          (d ∙ ap Ok (sym statuses_length), w ∙ ap (λ (x : Result ℕ Refusal). written_if_accepted x (status_list (pairs_of list) list.count) payload) d)
      go (Err x) p g = (g, w ∙ ap (λ (y : Result ℕ Refusal). written_if_accepted y (status_list (pairs_of list) list.count) payload) g)

-- `apply_route`
path_by : (o : Outcome) (r : Result ℕ Refusal) (before after : Text) → r ≡ outcome_reply o → after ≡ outcome_buffer o before → RepliesPath o r before after
unfolding Replies outcome_reply outcome_buffer
path_by (path q) r before after e f = (e, f)
path_by (refused x) r before after e f = (e, f)

pub way_given : (back : Bool) (q p : Text) (k : Counters) (store : Text) (slots table : List ℕ) (r : Result ℕ Refusal) (payload payload' : Text) → length payload ≡ 255 → p ≡ q
    → r ≡ outcome_reply (after_route_validated (Ok tt) back (lent_route store slots table k.legs.count) p (length payload))
    → payload' ≡ outcome_buffer (after_route_validated (Ok tt) back (lent_route store slots table k.legs.count) p (length payload)) payload
    → RepliesPath (route_path_in back (frames_memory k [] [] store slots table) q) r payload payload'
unfolding route_path_in
way_given back q p k store slots table r payload payload' e h f g =
    let s : LentRoute = lent_route store slots table k.legs.count in
    path_by (after_route_validated (Ok tt) back s q 255) r payload payload'
    (f ∙ ap (λ (n : ℕ). outcome_reply (after_route_validated (Ok tt) back s p n)) e ∙ ap (λ (x : Text). outcome_reply (after_route_validated (Ok tt) back s x 255)) h)
    (g ∙ ap (λ (n : ℕ). outcome_buffer (after_route_validated (Ok tt) back s p n) payload) e ∙ ap (λ (x : Text). outcome_buffer (after_route_validated (Ok tt) back s x 255) payload) h)

-- `apply_pair_in`: the parts of the frame that the code lends.
pub pair_cut : (s s' t t' : Text) (k : Counters) (bytes : Text) (places : List ℕ) (k' : Counters) (reply : Result ℕ Refusal) (bytes' : Text) (places' : List ℕ) → s ≡ s' → t ≡ t'
    → PairDone s t k bytes places k' reply bytes' places' → PairDone s' t' k bytes places k' reply bytes' places'
pair_cut s s' t t' k bytes places k' reply bytes' places' i j a = rw (i, j) at a

-- `write_count`: a number that does not fit in four bytes is held at the largest that does.
pub count_held : {E : Type 0} (r : Result ℕ E) (n : ℕ) → OkIff r (n < 4294967296) n → result_unwrap_or r 4294967295 ≡ saturate32 n
count_held (Ok k) n h = rw (le-leb n 4294967295 (omega (arith, h.0))) h.1
count_held (Err e) n h = rw (lt-leb n 4294967295 (omega (arith, h)))

-- `apply_frame`
pub reach_known : (h g : FrameHeader) (n : ℕ) → h ≡ g → reach h ≤ n → reach g ≤ n
reach_known h g n e l = rw e at l

module _ (b : Text) (h : FrameHeader) (k : Counters) (bytes : Text) (places : List ℕ) (store : Text) (slots table : List ℕ) (payload payload' : Text) where
  abbrev now : FramesMemory
  now = frames_memory k bytes places store slots table

  pub as_pair : (n m : ℕ) → h ≡ AddPair n m → (k' : Counters) (reply : Result ℕ Refusal) (bytes' : Text) (places' : List ℕ)
      → PairDone (take n (last_bytes (n + 2 + m) b)) (last_bytes m b) k bytes places k' reply bytes' places'
      → FrameDone b h now (frames_memory k' bytes' places' store slots table) reply payload payload
  unfolding FrameDone action_in step_frame_in PairDone
  as_pair n m e k' reply bytes' places' a j = rw e (a store slots table payload)

  pub as_statuses : h ≡ Statuses → (reply : Result ℕ Refusal) → Replies (statuses_in (frames_memory k bytes places [] [] [])) reply payload payload' → FrameDone b h now now reply payload payload'
  unfolding FrameDone action_in step_frame_in statuses_in Replies
  as_statuses e reply g j = rw e (record { state = refl; reply = g.0; payload = g.1 })

  pub as_close : (relocates : Bool) → h ≡ Close relocates → (m' : FramesMemory) (reply : Result ℕ Refusal) → CloseDone relocates now m' reply → FrameDone b h now m' reply payload payload
  unfolding FrameDone action_in step_frame_in CloseDone
  as_close relocates e m' reply a j = rw e (a payload)

  counts_by : (o : Outcome) (n : ℕ) → count_reply (answer_reply (outcome_answer o)) n ≡ count_outcome o n
  counts_by (path q) n = refl
  counts_by (refused x) n = refl

  pub as_route : (back : Bool) (n : ℕ) → h ≡ Route back n → (reply : Result ℕ Refusal)
      → RepliesPath (route_path_in back (frames_memory k [] [] store slots table) (last_bytes n b)) reply payload payload'
      → (a : Effect) → a ≡ counted_effect back k reply → FrameDone b h now (frames_memory a.kept bytes places store slots table) a.reply payload payload'
  unfolding FrameDone action_in step_frame_in route_path_in Replies
  as_route false n e reply g a w j =
      rw (e, w)
      (record {
        state = ap (λ (n : ℕ). frames_memory (record { opened = k.opened; legs = k.legs; outs = n }) bytes places store slots table)
            (ap (λ (x : Result ℕ Refusal). count_reply x k.outs) g.0 ∙ counts_by (route_path_in false now (last_bytes n b)) k.outs);
        reply = g.0;
        payload = g.1;
      })
  as_route true n e reply g a w j = rw (e, w) (record { state = refl; reply = g.0; payload = g.1 })

  pub as_count : h ≡ Count → payload' ≡ written (big_endian32 (saturate32 k.outs)) payload → FrameDone b h now now (Ok 4) payload payload'
  unfolding FrameDone action_in step_frame_in
  as_count e w j = rw e (record { state = refl; reply = refl; payload = w })
