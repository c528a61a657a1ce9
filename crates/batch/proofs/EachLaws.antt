-- The proof that each path of a batch has the result of the single call.
use mathlib.Core.Path.{◌≡◌, refl, ap, ◌∙◌}
use mathlib.Core.List.{List, [], ◌∷◌}
use Prim.Native.Nat.{ℕ, zero, suc, ◌+◌, ◌*◌, ◌≤◌, ◌<◌}
use native.Mathlib.Omega.{arith}
use lib.ListN.{length, get_or, take, drop, length-drop}
use lib.Seq.{length-take-le, take_at, drop-drop}
use Rattle.text.specs.Text.{Text}
use Rattle.refusal.specs.Outcome.{Outcome, outcome_reply, outcome_buffer}
use Rattle.ffi_values.specs.Code.{reply_code}
use Rattle.mapping.specs.Calls.{direction_call}
use Rattle.mapping.proofs.CopyOutBranches.{Short}
use Rattle.mapping.proofs.DirectionLaws.{short_call}
use Rattle.route.specs.Calls.{route_call}
use Rattle.route.proofs.ShortLaws.{short_call as short-route}
use Rattle.batch.specs.Batch.{mapped_at, routed_at, path_buffers, reply_numbers, MatchesSingleCalls, EachIsSingleAlways}
use Rattle.batch.proofs.BatchLaws.{later, kept_length, short_spotted}

later_on : (out : Text) (k : ℕ) → drop (255 * k) (drop 255 out) ≡ drop (255 * suc k) out
later_on out k =
    let e : 255 + 255 * k ≡ 255 * suc k = omega arith in
    drop-drop (255 * k) 255 out ∙ ap (λ (x : ℕ). drop x out) e

module _ (o : ℕ → Outcome) (s : (j : ℕ) → Short (o j)) where
  full : (a n : ℕ) (out : Text) → 255 * suc n ≤ length out → length (outcome_buffer (o a) (take 255 out)) ≡ 255
  full a n out h = kept_length (o a) (take 255 out) (s a) (length-take-le 255 out (omega arith))

  rest : (n : ℕ) (out : Text) → 255 * suc n ≤ length out → 255 * n ≤ length (drop 255 out)
  rest n out h = rw (length-drop 255 out) (omega arith)

  block_at : (a n i : ℕ) (out : Text) → i < n → 255 * n ≤ length out
      → take 255 (drop (255 * i) (path_buffers o a n out)) ≡ outcome_buffer (o (a + i)) (take 255 (drop (255 * i) out))
  unfolding path_buffers
  block_at a zero i out l h = absurd (omega arith)
  block_at a (suc n) zero out l h =
      let z : a + 0 ≡ a = omega arith in
      rw z (take_at (outcome_buffer (o a) (take 255 out)) (path_buffers o (suc a) n (drop 255 out)) 255 (full a n out h))
  block_at a (suc n) (suc i) out l h =
      let j : suc a + i ≡ a + suc i = omega arith in
      ap (λ (x : Text). take 255 x) (later (outcome_buffer (o a) (take 255 out)) (path_buffers o (suc a) n (drop 255 out)) i (full a n out h))
      ∙ block_at (suc a) n i (drop 255 out) (omega arith) (rest n out h)
      ∙ ap (λ (x : ℕ). outcome_buffer (o x) (take 255 (drop (255 * i) (drop 255 out)))) j
      ∙ ap (λ (x : Text). outcome_buffer (o (a + suc i)) (take 255 x)) (later_on out i)

  after_blocks : (a n : ℕ) (out : Text) → 255 * n ≤ length out → drop (255 * n) (path_buffers o a n out) ≡ drop (255 * n) out
  unfolding path_buffers
  after_blocks a zero out h = refl
  after_blocks a (suc n) out h =
      later (outcome_buffer (o a) (take 255 out)) (path_buffers o (suc a) n (drop 255 out)) n (full a n out h)
      ∙ after_blocks (suc a) n (drop 255 out) (rest n out h)
      ∙ later_on out n

module _ (o : ℕ → Outcome) where
  number_at : (a n i : ℕ) (r : List ℕ) → i < n → get_or (reply_numbers o a n r) i 0 ≡ reply_code (outcome_reply (o (a + i)))
  unfolding reply_numbers
  number_at a zero i r l = absurd (omega arith)
  number_at a (suc n) zero r l = let z : a + 0 ≡ a = omega arith in rw z refl
  number_at a (suc n) (suc i) r l =
      let j : suc a + i ≡ a + suc i = omega arith in
      number_at (suc a) n i (drop 1 r) (omega arith) ∙ ap (λ (x : ℕ). reply_code (outcome_reply (o x))) j

  after_numbers : (a n : ℕ) (r : List ℕ) → n ≤ length r → drop n (reply_numbers o a n r) ≡ drop n r
  unfolding reply_numbers
  after_numbers a zero r h = refl
  after_numbers a (suc n) [] h = absurd (omega arith)
  after_numbers a (suc n) (x ∷ r) h = after_numbers (suc a) n r (omega arith)

single : (o : ℕ → Outcome) → ((j : ℕ) → Short (o j)) → (n : ℕ) (out : Text) (replies : List ℕ) → 255 * n ≤ length out → n ≤ length replies → MatchesSingleCalls o n out replies
single o s n out replies h k =
    let z : (i : ℕ) → 0 + i ≡ i = λ i. omega arith in
    record {
      bytes = λ i l. block_at o s 0 n i out l h ∙ ap (λ (x : ℕ). outcome_buffer (o x) (take 255 (drop (255 * i) out))) (z i);
      bytes_after = after_blocks o s 0 n out h;
      replies_at = λ i l. number_at o 0 n i replies l ∙ ap (λ (x : ℕ). reply_code (outcome_reply (o x))) (z i);
      replies_after = after_numbers o 0 n replies k;
    }

pub each_is_single : EachIsSingleAlways
unfolding mapped_at routed_at
each_is_single texts spots n out replies h k = record {
  through_map = λ direction store places f.
      single (mapped_at direction store places f texts spots) (short_spotted (λ (p : Text). direction_call direction store places f p 255) (λ p. short_call direction store places f p 255) texts spots) n out replies h k;
  over_route = λ home r.
      single (routed_at home r texts spots) (short_spotted (λ (p : Text). route_call home r p 255) (λ p. short-route home r p 255) texts spots) n out replies h k;
}
