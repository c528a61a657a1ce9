-- Meaning: Mapping many paths through one map, or over one route, in one call. Path i is the text at entry i of `spots` (its start and its length in
-- `texts`); its reply is entry i of `replies`, and its path is written to the 255 bytes from offset 255 i.
use Rattle.std.specs.Prelude.{◌≡◌, ℕ, zero, suc, ◌*◌, ◌≤◌, ◌<◌, Bool, cond, ◌&&◌, List, [], ◌∷◌, ◌++◌, leb, length, get_or, take, drop, Result, Ok, Err, ⊤}
use Rattle.text.specs.Text.{Text}
use Rattle.text_list.specs.Places.{in_store, text_at}
use Rattle.refusal.specs.declared.Refusal.{Refusal}
use Rattle.refusal.specs.declared.Refusal.TheVariants.{TooLong, TooMany, NoRoom}
use Rattle.refusal.specs.Refusal.{refused_or}
use Rattle.refusal.specs.Outcome.{Outcome, refused, outcome_reply, outcome_buffer}
use Rattle.ffi_values.specs.Code.{reply_code, validation_code}
use Rattle.validate.specs.Validate.{validate_call}
use Rattle.map_function.specs.declared.MapFunction.{MapFunction}
use Rattle.map_function.specs.MapFunction.{list_of}
use Rattle.mapping.specs.declared.Direction.{Direction}
use Rattle.mapping.specs.Calls.{direction_call}
use Rattle.route_legs.specs.LentRoute.{LentRoute, validate_route}
use Rattle.route.specs.Calls.{route_call}

-- The outcome of a call for path i. Requirements: "a place that reaches outside its store counts as longer".
unfoldable pub call_at_spot : (Text → Outcome) → Text → List ℕ → ℕ → Outcome
unfolding in_store text_at
call_at_spot call texts spots i = cond (in_store texts spots i) (call (text_at texts spots i)) (refused TooLong)

-- The outcome of the single mapping call for path i, with 255 bytes lent.
unfoldable pub mapped_at : Direction → Text → List ℕ → MapFunction → Text → List ℕ → ℕ → Outcome
unfolding call_at_spot direction_call
mapped_at direction store places f texts spots i = call_at_spot (λ (p : Text). direction_call direction store places f p 255) texts spots i

-- The outcome of the single route call for path i, with 255 bytes lent.
unfoldable pub routed_at : Bool → LentRoute → Text → List ℕ → ℕ → Outcome
unfolding call_at_spot route_call
routed_at home r texts spots i = call_at_spot (λ (p : Text). route_call home r p 255) texts spots i

-- The lent buffer after n single calls, starting with call i, each with 255 bytes of its own.
unfoldable pub path_buffers : (ℕ → Outcome) → ℕ → ℕ → Text → Text
unfolding outcome_buffer
path_buffers o i zero out = out
path_buffers o i (suc n) out = outcome_buffer (o i) (take 255 out) ++ path_buffers o (suc i) n (drop 255 out)

-- The reply entries after n single calls, starting with call i: each call's reply encoded as one number.
unfoldable pub reply_numbers : (ℕ → Outcome) → ℕ → ℕ → List ℕ → List ℕ
unfolding outcome_reply reply_code
reply_numbers o i zero replies = replies
reply_numbers o i (suc n) replies = reply_code (outcome_reply (o i)) ∷ reply_numbers o (suc i) n (drop 1 replies)

-- Question 5 for the whole batch: two numbers for each text, 255 bytes and a number for each reply.
unfoldable pub batch_fits : ℕ → ℕ → ℕ → ℕ → Bool
batch_fits n spots bytes replies = leb (2 * n) spots && leb (255 * n) bytes && leb n replies

-- Validates a batch of n paths, given the result of questions 1 to 4 for the list or the route: then question 4 for the number of paths ("A
-- count beyond its slice counts as over 64"), then question 5. The questions of each path come after these, path by path.
unfoldable pub validate_batch : Result ⊤ Refusal → ℕ → ℕ → ℕ → ℕ → Result ⊤ Refusal
unfolding batch_fits
validate_batch list n spots bytes replies =
    refused_or list Err (cond (leb (2 * n) spots) (cond (batch_fits n spots bytes replies) (Ok tt) (Err NoRoom)) (Err TooMany))

-- The lent buffer after the batch call; unchanged if it was refused.
unfoldable pub batch_bytes : Result ⊤ Refusal → (ℕ → Outcome) → ℕ → Text → Text
unfolding path_buffers
batch_bytes v o n out = refused_or v (λ (x : Refusal). out) (path_buffers o 0 n out)

-- The reply entries after the batch call; unchanged if it was refused.
unfoldable pub batch_replies : Result ⊤ Refusal → (ℕ → Outcome) → ℕ → List ℕ → List ℕ
unfolding reply_numbers
batch_replies v o n replies = refused_or v (λ (x : Refusal). replies) (reply_numbers o 0 n replies)

-- A batch call returned what its validation v and the outcomes o of the n single calls say: its reply r, and both lent buffers before and
-- after the call.
abbrev pub ReturnsBatch : Result ⊤ Refusal → (ℕ → Outcome) → ℕ → Result ⊤ Refusal → Text → Text → List ℕ → List ℕ → Type 0
ReturnsBatch v o n r out out' replies replies' = (r ≡ v) × ((out' ≡ batch_bytes v o n out) × (replies' ≡ batch_replies v o n replies))

-- The same with the reply encoded as one number.
abbrev pub ReturnsBatchCode : Result ⊤ Refusal → (ℕ → Outcome) → ℕ → ℕ → Text → Text → List ℕ → List ℕ → Type 0
ReturnsBatchCode v o n r out out' replies replies' = (r ≡ validation_code v) × ((out' ≡ batch_bytes v o n out) × (replies' ≡ batch_replies v o n replies))

-- Questions 1 to 5 of mapping n paths through a map.
unfoldable pub validate_map_all : Text → List ℕ → MapFunction → ℕ → List ℕ → Text → List ℕ → Result ⊤ Refusal
unfolding validate_call validate_batch
validate_map_all store places f n spots out replies = validate_batch (validate_call (list_of store places f ∷ []) [] []) n (length spots) (length out) (length replies)

-- Questions 1 to 5 of mapping n paths over a route.
unfoldable pub validate_route_all : LentRoute → ℕ → List ℕ → Text → List ℕ → Result ⊤ Refusal
unfolding validate_route validate_batch
validate_route_all r n spots out replies = validate_batch (validate_route r []) n (length spots) (length out) (length replies)

-- Each path has the 255 bytes and the reply of the single call, and nothing after the n paths changes.
pub record MatchesSingleCalls (o : ℕ → Outcome) (n : ℕ) (out : Text) (replies : List ℕ) : Type 0 where
  pub bytes : (i : ℕ) → i < n → take 255 (drop (255 * i) (path_buffers o 0 n out)) ≡ outcome_buffer (o i) (take 255 (drop (255 * i) out))
  pub bytes_after : drop (255 * n) (path_buffers o 0 n out) ≡ drop (255 * n) out
  pub replies_at : (i : ℕ) → i < n → get_or (reply_numbers o 0 n replies) i 0 ≡ reply_code (outcome_reply (o i))
  pub replies_after : drop n (reply_numbers o 0 n replies) ≡ drop n replies

-- The property `MatchesSingleCalls` for both kinds of batch call.
pub record EachIsSingle (texts : Text) (spots : List ℕ) (n : ℕ) (out : Text) (replies : List ℕ) : Type 0 where
  pub through_map : (direction : Direction) (store : Text) (places : List ℕ) (f : MapFunction) → MatchesSingleCalls (mapped_at direction store places f texts spots) n out replies
  pub over_route : (home : Bool) (r : LentRoute) → MatchesSingleCalls (routed_at home r texts spots) n out replies

-- The property holds for every batch call with large enough buffers (proved in proofs/EachLaws.antt).
abbrev pub EachIsSingleAlways : Type 0
EachIsSingleAlways =
    (texts : Text) (spots : List ℕ) (n : ℕ) (out : Text) (replies : List ℕ) → 255 * n ≤ length out → n ≤ length replies → EachIsSingle texts spots n out replies
