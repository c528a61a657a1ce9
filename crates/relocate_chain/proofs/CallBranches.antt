-- Lemmas about the branches of the calls.
use Rattle.std.specs.Prelude.{Result, Ok, Err, Option, Some, None, ⊤}
use denote.Ref.{Bor}
use Rattle.std.specs.Bool.{then_some}
use Rattle.std.specs.Option.{unwrap_or}
use mathlib.Core.Path.{◌≡◌, refl, sym, ap, ◌∙◌}
use mathlib.Core.Bool.{Bool, true, false}
use mathlib.Core.List.{List, [], ◌∷◌}
use Prim.Native.Nat.{ℕ, ◌≤◌, ◌<◌}
use native.Mathlib.Omega.{arith}
use lib.ListN.{length, take}
use lib.Seq.{length-take-le}
use borrow.Author.Tests.{le-leb, lt-leb}
use Rattle.text.specs.Text.{Text, written_if_fits}
use Rattle.text.proofs.WriteLaws.{placed_first}
use Rattle.path_grammar.specs.Legal.{legal, at_most255, is_end}
use Rattle.pair_list.specs.Pair.{Pair}
use Rattle.refusal.specs.declared.Refusal.{Refusal}
use Rattle.refusal.specs.declared.Refusal.TheVariants.{NoRoom}
use Rattle.refusal.specs.Outcome.{Outcome, path, outcome_reply, outcome_buffer, after_checks, checked}
use Rattle.refusal.proofs.CallBranches.{refusing}
use Rattle.validate.specs.Validate.{LentList, pairs_of, every, validate_call}
use Rattle.validate.proofs.PassedLaws.{text_short, text_legal}
use Rattle.relocate_chain.specs.Chain.{longest_replacement, replacement, Chained, chain, shift_through_nearest_ancestor}
use Rattle.relocate_chain.specs.ChainStep.{skip_text, step_reply, step_buffer, chain_in_buffer, chain_within}
use Rattle.relocate_chain.specs.Calls.{skipped_source, shift_call, skip_texts, chain_call, chain_reply, chain_buffer}
use Rattle.relocate_chain.proofs.ChainBranches.{made_passed, made_short, still, blocked, Went, went, back_text, back_part, back_inside}

-- A path that is written to the lent buffer.
goes_out : (q : Text) (n : ℕ) (o : Outcome) (part out out' : Text) → o ≡ path q → n ≡ length q → n ≤ 255 → part ≡ q → 255 ≤ length out → out' ≡ written_if_fits 0 part out
    → (Ok n ≡ outcome_reply o) × (out' ≡ outcome_buffer o out)
unfolding outcome_reply outcome_buffer
goes_out q n o part out out' e l h t r m = rw (e, m, t, l) (refl, placed_first q out (omega arith))

-- `shift_and_copy`
module _ (l : List Pair) (p : Text) (s : Result (Option ℕ) Refusal) (e : s ≡ step_reply (longest_replacement (replacement false (Some p) p) l)) where
  abbrev o : Option Text
  o = longest_replacement (replacement false (Some p) p) l

  pub shift_still : s ≡ (Ok None) → checked p ≡ path p → (out out' : Text) → 255 ≤ length out → out' ≡ written_if_fits 0 p out
      → (Ok (length p) ≡ outcome_reply (checked (shift_through_nearest_ancestor l p))) × (out' ≡ outcome_buffer (checked (shift_through_nearest_ancestor l p)) out)
  unfolding shift_through_nearest_ancestor
  shift_still g h out out' r m =
      let z : checked (unwrap_or o p) ≡ path p = rw (still o (sym e ∙ g)) h in
      goes_out p (length p) (checked (unwrap_or o p)) p out out' z refl (made_short p h) refl r m

  pub shift_refused : (x : Refusal) → s ≡ Err x → (out : Text) → (Err x ≡ outcome_reply (checked (shift_through_nearest_ancestor l p))) × (out ≡ outcome_buffer (checked (shift_through_nearest_ancestor l p)) out)
  unfolding shift_through_nearest_ancestor
  shift_refused x g out = refusing (checked (unwrap_or o p)) x (blocked o p x (sym e ∙ g)) out

  module _ (n : ℕ) (g : s ≡ Ok (Some n)) (mem mem₀ : Text) (a : mem ≡ step_buffer (longest_replacement (replacement false (Some p) p) l) mem₀) (r : length mem₀ ≡ 255) where
    w : Went (longest_replacement (replacement false (Some p) p) l) n
    w = went (longest_replacement (replacement false (Some p) p) l) n (sym e ∙ g)

    pub shift_part : n ≡ length (take n mem)
    shift_part = back_part (longest_replacement (replacement false (Some p) p) l) n w mem mem₀ r a

    pub shift_inside : n ≤ length mem
    shift_inside = back_inside (longest_replacement (replacement false (Some p) p) l) n w mem mem₀ r a

    pub shift_made : (out out' : Text) → 255 ≤ length out → out' ≡ written_if_fits 0 (take n mem) out
        → (Ok n ≡ outcome_reply (checked (shift_through_nearest_ancestor l p))) × (out' ≡ outcome_buffer (checked (shift_through_nearest_ancestor l p)) out)
    unfolding shift_through_nearest_ancestor
    shift_made out out' f m =
        let z : checked (unwrap_or o p) ≡ path w.text = rw w.made_it w.passed in
        goes_out w.text n (checked (unwrap_or o p)) (take n mem) out out' z w.long w.short (back_text (longest_replacement (replacement false (Some p) p) l) n w mem mem₀ r a) f m

-- A validated text is a path.
pub passed_path : (ls : List LentList) (p : Text) (q : Result ⊤ Refusal) → q ≡ validate_call ls (p ∷ []) [] → q ≡ Ok tt → checked p ≡ path p
unfolding at_most255
passed_path ls p q e h = made_passed p (le-leb (length p) 255 (text_short ls p [] [] (sym e ∙ h))) (text_legal ls p [] [] (sym e ∙ h))

pub shift_validated : (l : LentList) (p : Text) (room : ℕ) → shift_call l p room ≡ after_checks (validate_call (l ∷ []) (p ∷ []) []) room (checked (shift_through_nearest_ancestor (pairs_of l) p))
unfolding shift_call
shift_validated l p room = refl

-- `chain_and_copy`
module _ (d : Chained) (r : Result (ℕ × ℕ) Refusal) (mem : Text) (e : chain_in_buffer r mem ≡ d) (v : chain_within r 255) (h : length mem ≡ 255) where
  pub out_stopped : (x : Refusal) → r ≡ Err x → (out : Text) → (Err x ≡ chain_reply d) × (out ≡ chain_buffer d out)
  unfolding chain_reply chain_buffer
  out_stopped x g out = rw (← e, g) (refl, refl)

  module _ (n k : ℕ) (g : r ≡ Ok (n, k)) where
    fit : n ≤ 255
    fit = rw g at v

    pub out_part : n ≡ length (take n mem)
    out_part = sym (length-take-le n mem (omega (arith, fit)))

    pub out_inside : n ≤ length mem
    out_inside = omega (arith, fit)

    pub out_chained : (out out' : Text) → 255 ≤ length out → out' ≡ written_if_fits 0 (take n mem) out → (Ok (n, k) ≡ chain_reply d) × (out' ≡ chain_buffer d out)
    unfolding chain_reply chain_buffer
    out_chained out out' f m =
        rw (← e, g) (ap (λ (i : ℕ). Ok (i, k)) out_part, m ∙ placed_first (take n mem) out (omega (arith, fit, out_part)))

-- `chain_through_relocates`
module _ (skips : Bool) (b : Bor Text) (o : Option (Bor Text)) (h : o ≡ then_some skips b) where
  pub skip_is : skip_text o ≡ skipped_source skips b.now
  skip_is = rw h (go skips)
    where
      go : (t : Bool) → skip_text (then_some t b) ≡ skipped_source t b.now
      go true = refl
      go false = refl

  -- An empty text in place of a skipped source passes, as no text does.
  pub validate_skip : (l : LentList) (p e : Text) (d k : Bor Text) → k ≡ unwrap_or o d → d.now ≡ [] → e ≡ []
      → validate_call (l ∷ []) (p ∷ k.now ∷ []) (e ∷ e ∷ []) ≡ validate_call (l ∷ []) (p ∷ skip_texts (skipped_source skips b.now)) []
  unfolding validate_call every at_most255 legal is_end
  validate_skip l p e d k g z y = rw (g, h, y) (go skips)
    where
      go : (t : Bool) → validate_call (l ∷ []) (p ∷ (unwrap_or (then_some t b) d).now ∷ []) ([] ∷ [] ∷ []) ≡ validate_call (l ∷ []) (p ∷ skip_texts (skipped_source t b.now)) []
      go true = refl
      go false = rw z

pub chain_short_path : (l : LentList) (skip : Option Text) (p : Text) (q : Result ⊤ Refusal) → q ≡ validate_call (l ∷ []) (p ∷ skip_texts skip) [] → q ≡ Ok tt → length p ≤ 255
chain_short_path l skip p q h k = text_short (l ∷ []) p (skip_texts skip) [] (sym h ∙ k)

module _ (l : LentList) (skip : Option Text) (p : Text) (room : ℕ) (q : Result ⊤ Refusal) (h : q ≡ validate_call (l ∷ []) (p ∷ skip_texts skip) []) where
  pub chain_refused : (x : Refusal) → q ≡ Err x → (out : Text)
      → (Err x ≡ chain_reply (chain_call l skip p room)) × (out ≡ chain_buffer (chain_call l skip p room) out)
  unfolding chain_call chain_reply chain_buffer
  chain_refused x k out = rw (← h, k) (refl, refl)

  pub chain_no_room : q ≡ Ok tt → room < 255 → (out : Text)
      → (Err NoRoom ≡ chain_reply (chain_call l skip p room)) × (out ≡ chain_buffer (chain_call l skip p room) out)
  unfolding chain_call chain_reply chain_buffer
  chain_no_room k r out = rw (← h, k, lt-leb 255 room r) (refl, refl)

  pub chain_passed : q ≡ Ok tt → 255 ≤ room → (c : Result (ℕ × ℕ) Refusal) (out out' : Text) → (c ≡ chain_reply (chain skip (pairs_of l) p)) × (out' ≡ chain_buffer (chain skip (pairs_of l) p) out)
      → (c ≡ chain_reply (chain_call l skip p room)) × (out' ≡ chain_buffer (chain_call l skip p room) out)
  unfolding chain_call
  chain_passed k r c out out' w = rw (← h, k, le-leb 255 room r) w
