-- The proofs of the theorems about every run.
use Rattle.std.specs.Prelude.{Result, Ok, Err, Option, Some, None, ⊤}
use mathlib.Core.Path.{◌≡◌, refl, sym, ap, ◌∙◌}
use mathlib.Core.Bool.{Bool, true, false, cond, ◌&&◌}
use mathlib.Core.List.{List, [], ◌∷◌, ◌++◌}
use Prim.Native.Nat.{ℕ, zero, suc, ◌+◌, ◌≤◌}
use native.Mathlib.Omega.{arith}
use lib.Dec.{leb}
use lib.ListN.{length, length-append}
use borrow.Author.Tests.{le-leb, lt-leb, leb-true, leb-false}
use Rattle.text.specs.Text.{Text}
use Rattle.path_grammar.specs.Own.{has_variant_selection}
use Rattle.path_grammar.specs.Legal.{legal, at_most255, is_end}
use Rattle.pair_list.specs.Pair.{Pair, all_ends, pair as pair_of}
use Rattle.pair_list.specs.Places.{end_bytes}
use Rattle.pair_list.proofs.PlaceLaws.{every_snoc}
use Rattle.refusal.specs.declared.Refusal.{Refusal}
use Rattle.refusal.specs.declared.Refusal.TheVariants.{TooLong, Illegal, TooMany, NoRoom}
use Rattle.refusal.specs.Refusal.{refused_or, all_texts_short, all_texts_legal, validate_texts}
use Rattle.refusal.specs.Outcome.{Outcome, path, refused}
use Rattle.path.specs.Calls.{path_new_call}
use Rattle.validate.specs.Validate.{validate_call}
use Rattle.validate.proofs.PassedLaws.{text_end_lem, second_end}
use Rattle.map_spec.specs.Leg.{SelectionFreePath}
use Rattle.route_spec.specs.Leg.{Leg, leg_ends, closed_leg, counted_pairs}
use Rattle.route_spec.specs.Route.{route_ends, run_route}
use Rattle.route_spec.proofs.Theorem.{run_returns, run_next}
use Rattle.route_spec.proofs.RelocateLaws.{closed_ends}
use Rattle.frames_spec.specs.Frame.{Frame, frame, add_one_pair, statuses, close, route, count, out}
use Rattle.frames_spec.specs.State.{State, initial_state, success, refusal, refuse, has_pair_room, with_pair, add_pair, has_leg_room, has_byte_room, with_closed_leg, close_list, close_opened, route_path, outcome_answer, count_up, count_outcome, answer_out, big_endian32, step_frame}
use Rattle.frames_spec.specs.Run.{next_state, state_after_frames, count_if_path, count_out, count_outs, saturate32, WithinLimits, RunTheorems}
use Rattle.route_spec.proofs.RouteLaws.{legs_more}
use Rattle.path.proofs.PathLaws.{new_passed}

-- The invariant of the states of a run.
record Kept (st : State) : Type 0 where
  ends : all_ends st.opened ≡ true
  leg_ends_lem : route_ends st.legs ≡ true
  within : WithinLimits st

begins : Kept initial_state
unfolding all_ends route_ends
begins = record { ends = refl; leg_ends_lem = refl; within = record { pairs = omega arith; legs = omega arith; bytes = omega arith; outs = omega arith } }

-- One more pair, and one more leg.
ends_more : (l : List Pair) (x : Pair) → all_ends l ≡ true → is_end x.source ≡ true → is_end x.target ≡ true → all_ends (l ++ x ∷ []) ≡ true
unfolding all_ends
ends_more = every_snoc is_end

adds_keeps : (st : State) (s t : Text) → Kept st → Kept (add_pair st s t).state
unfolding add_pair
adds_keeps st s t k = go (validate_call [] (s ∷ t ∷ []) (s ∷ t ∷ [])) refl (has_pair_room st) refl
  where
    go : (a : Result ⊤ Refusal) → validate_call [] (s ∷ t ∷ []) (s ∷ t ∷ []) ≡ a → (b : Bool) → has_pair_room st ≡ b
        → Kept (refused_or a (refuse st) (cond b (with_pair st s t) (refuse st TooMany))).state
    go (Ok tt) e true h = record {
      ends = ends_more st.opened (pair_of s t) k.ends (text_end_lem [] (s ∷ t ∷ []) s (t ∷ []) e) (second_end [] (s ∷ t ∷ []) s t [] e);
      leg_ends_lem = k.leg_ends_lem;
      within = record {
        pairs = rw (length-append st.opened (pair_of s t ∷ [])) (omega (arith, leb-true (suc (length st.opened)) 64 h));
        legs = k.within.legs;
        bytes = k.within.bytes;
        outs = k.within.outs;
      };
    }
    go (Ok tt) e false h = k
    go (Err x) e b h = k

closes_keeps : (st : State) (x : Leg) (n : ℕ) → leg_ends x ≡ true → Kept st → Kept (close_list st x n).state
unfolding close_list all_ends
closes_keeps st x n e k = go (has_leg_room st) refl (has_byte_room st n) refl
  where
    go : (a : Bool) → has_leg_room st ≡ a → (b : Bool) → has_byte_room st n ≡ b → Kept (cond a (cond b (with_closed_leg st x n) (refuse st NoRoom)) (refuse st TooMany)).state
    go true h true i = record {
      ends = refl;
      leg_ends_lem = legs_more st.legs x k.leg_ends_lem e;
      within = record {
        pairs = omega arith;
        legs = rw (length-append st.legs (x ∷ [])) (omega (arith, leb-true (suc (length st.legs)) 16 h));
        bytes = leb-true (st.used + n) 32768 i;
        outs = k.within.outs;
      };
    }
    go true h false i = k
    go false h b i = k

-- The counter equals the count from the input so far.
pub saturated_few : (n : ℕ) → n ≤ 4294967295 → saturate32 n ≡ n
saturated_few n h = rw (le-leb n 4294967295 h)

saturated_plus : (a b : ℕ) → saturate32 (saturate32 a + b) ≡ saturate32 (a + b)
saturated_plus a b = go (leb a 4294967295) refl
  where
    go : (t : Bool) → leb a 4294967295 ≡ t → saturate32 (cond t a 4294967295 + b) ≡ saturate32 (a + b)
    go true e = refl
    go false e = low b ∙ sym (rw (lt-leb (a + b) 4294967295 (omega (arith, leb-false a 4294967295 e))))
      where
        low : (b : ℕ) → saturate32 (4294967295 + b) ≡ 4294967295
        low zero = refl
        low (suc b) = rw (lt-leb (4294967295 + suc b) 4294967295 (omega arith))

more_saturated : (n : ℕ) → n ≤ 4294967295 → count_up n ≡ saturate32 (n + 1)
more_saturated n h = let z : n + 1 ≡ suc n = omega arith in rw z (go (leb (suc n) 4294967295) refl)
  where
    go : (t : Bool) → leb (suc n) 4294967295 ≡ t → cond t (suc n) n ≡ cond t (suc n) 4294967295
    go true e = refl
    go false e = omega (arith, leb-false (suc n) 4294967295 e)

counts_saturated : (o : Outcome) (n : ℕ) → n ≤ 4294967295 → count_outcome o n ≡ saturate32 (n + count_if_path o)
counts_saturated (path q) n h = more_saturated n h
counts_saturated (refused x) n h = let z : n + 0 ≡ n = omega arith in rw z (sym (saturated_few n h))

saturated_most : (n : ℕ) → saturate32 n ≤ 4294967295
saturated_most n = go (leb n 4294967295) refl
  where
    go : (t : Bool) → leb n 4294967295 ≡ t → cond t n 4294967295 ≤ 4294967295
    go true e = leb-true n 4294967295 e
    go false e = omega arith

pub counts_few : (o : Outcome) (n : ℕ) → n ≤ 4294967295 → count_outcome o n ≤ 4294967295
counts_few o n h = rw (counts_saturated o n h) (saturated_most (n + count_if_path o))

closed_keeps : (relocates : Bool) (st : State) → Kept st → Kept (close_opened relocates st).state
closed_keeps relocates st k =
    closes_keeps st (closed_leg relocates st.opened) (end_bytes (counted_pairs relocates st.opened)) (closed_ends relocates st.opened k.ends) k

next_keeps : (st : State) (f : Option Frame) → Kept st → Kept (next_state step_frame st f)
unfolding step_frame
next_keeps st None k = k
next_keeps st (Some (frame n (add_one_pair s t))) k = adds_keeps st s t k
next_keeps st (Some (frame n statuses)) k = k
next_keeps st (Some (frame n (close relocates))) k = closed_keeps relocates st k
next_keeps st (Some (frame n (route false p))) k = record { ends = k.ends; leg_ends_lem = k.leg_ends_lem; within = record { pairs = k.within.pairs; legs = k.within.legs; bytes = k.within.bytes; outs = counts_few (route_path false st p) st.outs k.within.outs } }
next_keeps st (Some (frame n (route true p))) k = k
next_keeps st (Some (frame n count)) k = k

after_keeps : (st : State) (fs : List (Option Frame)) → Kept st → Kept (state_after_frames st fs)
unfolding state_after_frames
after_keeps st [] k = k
after_keeps st (f ∷ fs) k = after_keeps (next_state step_frame st f) fs (next_keeps st f k)

adds_same : (st : State) (s t : Text) → (add_pair st s t).state.outs ≡ st.outs
unfolding add_pair
adds_same st s t = go (validate_call [] (s ∷ t ∷ []) (s ∷ t ∷ [])) (has_pair_room st)
  where
    go : (a : Result ⊤ Refusal) (b : Bool) → (refused_or a (refuse st) (cond b (with_pair st s t) (refuse st TooMany))).state.outs ≡ st.outs
    go (Ok tt) true = refl
    go (Ok tt) false = refl
    go (Err x) b = refl

closes_same : (st : State) (x : Leg) (n : ℕ) → (close_list st x n).state.outs ≡ st.outs
unfolding close_list
closes_same st x n = go (has_leg_room st) (has_byte_room st n)
  where
    go : (a b : Bool) → (cond a (cond b (with_closed_leg st x n) (refuse st NoRoom)) (refuse st TooMany)).state.outs ≡ st.outs
    go true true = refl
    go true false = refl
    go false b = refl

closed_same : (relocates : Bool) (st : State) → (close_opened relocates st).state.outs ≡ st.outs
closed_same relocates st = closes_same st (closed_leg relocates st.opened) (end_bytes (counted_pairs relocates st.opened))

next_counts : (st : State) (f : Option Frame) → st.outs ≤ 4294967295 → (next_state step_frame st f).outs ≡ saturate32 (st.outs + count_out st f)
unfolding step_frame
next_counts st f h = go f
  where
    still : st.outs ≡ saturate32 (st.outs + 0)
    still = let z : st.outs + 0 ≡ st.outs = omega arith in rw z (sym (saturated_few st.outs h))

    go : (f : Option Frame) → (next_state step_frame st f).outs ≡ saturate32 (st.outs + count_out st f)
    go None = still
    go (Some (frame k (add_one_pair s t))) = adds_same st s t ∙ still
    go (Some (frame k statuses)) = still
    go (Some (frame k (close relocates))) = closed_same relocates st ∙ still
    go (Some (frame k (route false p))) = counts_saturated (route_path false st p) st.outs h
    go (Some (frame k (route true p))) = still
    go (Some (frame k count)) = still

after_counts : (st : State) (fs : List (Option Frame)) → Kept st → (state_after_frames st fs).outs ≡ saturate32 (st.outs + count_outs st fs)
unfolding state_after_frames count_outs
after_counts st [] k = let z : st.outs + 0 ≡ st.outs = omega arith in rw z (sym (saturated_few st.outs k.within.outs))
after_counts st (f ∷ fs) k =
    let z : st.outs + count_out st f + count_outs (next_state step_frame st f) fs ≡ st.outs + (count_out st f + count_outs (next_state step_frame st f) fs) = omega arith in
    after_counts (next_state step_frame st f) fs (next_keeps st f k)
    ∙ ap (λ (n : ℕ). saturate32 (n + count_outs (next_state step_frame st f) fs)) (next_counts st f k.within.outs)
    ∙ saturated_plus (st.outs + count_out st f) (count_outs (next_state step_frame st f) fs)
    ∙ ap saturate32 z

-- A path that is mapped out over the legs is mapped home.
pub passed_whole : (p : Text) → path_new_call p ≡ Ok tt → (at_most255 p ≡ true) × (legal p ≡ true)
unfolding path_new_call validate_texts all_texts_short all_texts_legal
passed_whole p h = go (at_most255 p) (legal p) h
  where
    go : (a b : Bool) → ◌≡◌ {A = Result ⊤ Refusal} (cond (a && true) (cond (b && true) (Ok tt) (Err Illegal)) (Err TooLong)) (Ok tt) → (a ≡ true) × (b ≡ true)
    go true true e = (refl, refl)
    go true false e = absurd (let z : ◌≡◌ {A = ℕ} 0 1 = cc in omega arith)
    go false b e = absurd (let z : ◌≡◌ {A = ℕ} 0 1 = cc in omega arith)

success_routes : (o : Outcome) (q : Text) → outcome_answer o ≡ success q → o ≡ path q
success_routes (path t) q e = let z : t ≡ q = cc in ap path z
success_routes (refused x) q e = absurd (let z : ◌≡◌ {A = ℕ} 0 1 = cc in omega arith)

routes_passed : (back : Bool) (st : State) (p q : Text) → route_path back st p ≡ path q → (path_new_call p ≡ Ok tt) × (run_route back st.legs p ≡ path q)
unfolding route_path
routes_passed back st p q e = go (path_new_call p) refl e
  where
    go : (a : Result ⊤ Refusal) → path_new_call p ≡ a → refused_or a refused (run_route back st.legs p) ≡ path q → (path_new_call p ≡ Ok tt) × (run_route back st.legs p ≡ path q)
    go (Ok tt) h k = (h, k)
    go (Err x) h k = absurd (let z : ◌≡◌ {A = ℕ} 0 1 = cc in omega arith)

passed_routes : (back : Bool) (st : State) (p : Text) → path_new_call p ≡ Ok tt → route_path back st p ≡ run_route back st.legs p
unfolding route_path
passed_routes back st p h = rw h

module _ (st : State) (k : Kept st) (p q : Text) (plain : has_variant_selection p ≡ false) where
  returns : route_path false st p ≡ path q → (st' : State) → st'.legs ≡ st.legs → route_path true st' q ≡ path p
  unfolding run_route
  returns e st' same =
      let w = routes_passed false st p q e in
      let t = passed_whole p w.0 in
      let c : SelectionFreePath p = record { is_legal = t.1; is_short = t.0; is_plain = plain } in
      let d : SelectionFreePath q = run_next st.legs p q k.leg_ends_lem c w.1 in
      passed_routes true st' q (new_passed q d.is_short d.is_legal)
      ∙ ap (λ (l : List Leg). run_route true l q) same
      ∙ run_returns st.legs p q k.leg_ends_lem c w.1

-- A refused frame leaves the state unchanged.
success_refused : (q : Text) (x : Refusal) → success q ≡ refusal x → ⊥
success_refused q x e = let z : ◌≡◌ {A = ℕ} 0 1 = cc in omega arith

adds_still : (st : State) (s t : Text) (x : Refusal) → (add_pair st s t).answer ≡ refusal x → (add_pair st s t).state ≡ st
unfolding add_pair
adds_still st s t x = go (validate_call [] (s ∷ t ∷ []) (s ∷ t ∷ [])) (has_pair_room st)
  where
    go : (a : Result ⊤ Refusal) (b : Bool) → (refused_or a (refuse st) (cond b (with_pair st s t) (refuse st TooMany))).answer ≡ refusal x
        → (refused_or a (refuse st) (cond b (with_pair st s t) (refuse st TooMany))).state ≡ st
    go (Ok tt) true e = absurd (success_refused [] x e)
    go (Ok tt) false e = refl
    go (Err y) b e = refl

closes_still : (st : State) (l : Leg) (n : ℕ) (x : Refusal) → (close_list st l n).answer ≡ refusal x → (close_list st l n).state ≡ st
unfolding close_list
closes_still st l n x = go (has_leg_room st) (has_byte_room st n)
  where
    go : (a b : Bool) → (cond a (cond b (with_closed_leg st l n) (refuse st NoRoom)) (refuse st TooMany)).answer ≡ refusal x
        → (cond a (cond b (with_closed_leg st l n) (refuse st NoRoom)) (refuse st TooMany)).state ≡ st
    go true true e = absurd (success_refused [] x e)
    go true false e = refl
    go false b e = refl

closed_still : (relocates : Bool) (st : State) (x : Refusal) → (close_opened relocates st).answer ≡ refusal x → (close_opened relocates st).state ≡ st
closed_still relocates st x = closes_still st (closed_leg relocates st.opened) (end_bytes (counted_pairs relocates st.opened)) x

out_still : (st : State) (o : Outcome) (x : Refusal) → (answer_out st o).answer ≡ refusal x → (answer_out st o).state ≡ st
out_still st (path q) x e = absurd (success_refused q x e)
out_still st (refused y) x e = refl

still : (st : State) (f : Frame) (x : Refusal) → (step_frame st f).answer ≡ refusal x → (step_frame st f).state ≡ st
unfolding step_frame
still st (frame k (add_one_pair s t)) x = adds_still st s t x
still st (frame k statuses) x = λ e. refl
still st (frame k (close relocates)) x = closed_still relocates st x
still st (frame k (route false p)) x = out_still st (route_path false st p) x
still st (frame k (route true p)) x = λ e. refl
still st (frame k count) x = λ e. refl

pub run_theorems : RunTheorems
unfolding step_frame
run_theorems = record {
  within = λ fs. (after_keeps initial_state fs begins).within;
  refused_still = still;
  comes_home = λ fs p q plain e.
      ap outcome_answer
      (returns (state_after_frames initial_state fs) (after_keeps initial_state fs begins) p q plain (success_routes (route_path false (state_after_frames initial_state fs) p) q e) (next_state step_frame (state_after_frames initial_state fs) (Some (out p))) refl);
  counts_outs = λ fs.
      let z : 0 + count_outs initial_state fs ≡ count_outs initial_state fs = omega arith in
      ap (λ (n : ℕ). success (big_endian32 n)) (after_counts initial_state fs begins ∙ ap saturate32 z);
}
