-- Lemmas about the branches of the chain.
use Rattle.std.specs.Prelude.{Result, Ok, Err, Option, Some, None}
use Rattle.std.specs.Option.{unwrap_or}
use mathlib.Core.Path.{◌≡◌, refl, sym, ap, ◌∙◌}
use mathlib.Core.Bool.{Bool, true, false}
use mathlib.Core.List.{List}
use Prim.Native.Nat.{ℕ, suc, ◌+◌, ◌-◌, ◌≤◌, ◌<◌}
use native.Mathlib.Omega.{arith}
use native.Mathlib.Numerals.{add-one}
use lib.ListN.{length, take, length-take}
use Rattle.text.specs.Text.{Text, written_if_fits}
use Rattle.text.proofs.WriteLaws.{placed_first, read_back}
use Rattle.path_grammar.specs.Legal.{legal, at_most255}
use Rattle.pair_list.specs.Pair.{Pair}
use Rattle.pair_list.specs.Places.{pairs_in}
use Rattle.pair_list.proofs.PlaceLaws.{pairs_in_length}
use Rattle.refusal.specs.declared.Refusal.{Refusal}
use Rattle.refusal.specs.declared.Refusal.TheVariants.{MadeTooLong}
use Rattle.refusal.specs.Outcome.{Outcome, path, refused, checked}
use Rattle.relocate_chain.specs.Chain.{longest_replacement, replacement, next_replacement, Chained, chained, stopped, chain_step, chain_from, chain}
use Rattle.relocate_chain.specs.ChainStep.{step_reply, step_buffer}
use Rattle.path_grammar.proofs.LegalLaws.{fits_short}

-- A text written to the beginning of a buffer is read back.
pub first_back : (t out : Text) → length t ≤ length out → take (length t) (written_if_fits 0 t out) ≡ t
first_back t out h = rw (placed_first t out h) (read_back t out)

pub made_passed : (q : Text) → at_most255 q ≡ true → legal q ≡ true → checked q ≡ path q
unfolding checked
made_passed q a b = rw (a, b)

pub made_short : (q : Text) → checked q ≡ path q → length q ≤ 255
unfolding checked
made_short q e = go (at_most255 q) refl
  where
    go : (b : Bool) → at_most255 q ≡ b → length q ≤ 255
    go true h = fits_short q h
    go false h = absurd (let z : ◌≡◌ {A = Outcome} (refused MadeTooLong) (path q) = rw h at e in let y : ◌≡◌ {A = ℕ} 0 1 = cc in omega arith)

-- The properties of a replacement that follow from its result.
pub record Went (o : Option Text) (m : ℕ) : Type 0 where
  pub text : Text
  pub made_it : o ≡ Some text
  pub passed : checked text ≡ path text
  pub long : m ≡ length text
  pub short : m ≤ 255

abbrev kind : Result (Option ℕ) Refusal → ℕ
kind (Ok None) = 0
kind (Ok (Some n)) = 1
kind (Err x) = 2

pub went : (o : Option Text) (m : ℕ) → step_reply o ≡ Ok (Some m) → Went o m
unfolding step_reply
went None m e = absurd (let z : ◌≡◌ {A = ℕ} 0 1 = ap kind e in omega arith)
went (Some q) m e = go (at_most255 q) (legal q) refl refl
  where
    go : (a b : Bool) → at_most255 q ≡ a → legal q ≡ b → Went (Some q) m
    go true true ha hb =
        let z : Ok (Some (length q)) ≡ Ok (Some m) = rw (ha, hb) at e in
        let y : m ≡ length q = cc in
        record { text = q; made_it = refl; passed = made_passed q ha hb; long = y; short = omega (arith, fits_short q ha) }
    go true false ha hb = absurd (let z : ◌≡◌ {A = ℕ} 2 1 = ap kind (rw (ha, hb) at e) in omega arith)
    go false b ha hb = absurd (let z : ◌≡◌ {A = ℕ} 2 1 = ap kind (rw ha at e) in omega arith)

pub still : (o : Option Text) → step_reply o ≡ (Ok None) → o ≡ None
unfolding step_reply
still None e = refl
still (Some q) e = go (checked q) refl
  where
    go : (r : Outcome) → checked q ≡ r → Some q ≡ None
    go (path t) h = absurd (let z : ◌≡◌ {A = ℕ} 1 0 = ap kind (rw h at e) in omega arith)
    go (refused x) h = absurd (let z : ◌≡◌ {A = ℕ} 2 0 = ap kind (rw h at e) in omega arith)

ended : (on : Text → ℕ → Chained) (p : Text) (k : ℕ) (o : Option Text) (x : Refusal) → step_reply o ≡ Err x → chain_step on p k o ≡ stopped x
unfolding step_reply chain_step
ended on p k None x e = absurd (let z : ◌≡◌ {A = ℕ} 0 2 = ap kind e in omega arith)
ended on p k (Some q) x e = go (checked q) refl
  where
    go : (r : Outcome) → checked q ≡ r → chain_step on p k (Some q) ≡ stopped x
    go (path t) h = absurd (let z : ◌≡◌ {A = ℕ} 1 2 = ap kind (rw h at e) in omega arith)
    go (refused y) h = let z : Err y ≡ Err x = rw h at e in let w : y ≡ x = cc in rw (h, w)

pub blocked : (o : Option Text) (p : Text) (x : Refusal) → step_reply o ≡ Err x → checked (unwrap_or o p) ≡ refused x
unfolding step_reply
blocked None p x e = absurd (let z : ◌≡◌ {A = ℕ} 0 2 = ap kind e in omega arith)
blocked (Some q) p x e = go (checked q) refl
  where
    go : (r : Outcome) → checked q ≡ r → checked q ≡ refused x
    go (path t) h = absurd (let z : ◌≡◌ {A = ℕ} 1 2 = ap kind (rw h at e) in omega arith)
    go (refused y) h = let z : Err y ≡ Err x = rw h at e in let w : y ≡ x = cc in rw (h, w)

went_on : (on : Text → ℕ → Chained) (p : Text) (k : ℕ) (o : Option Text) (m : ℕ) (w : Went o m) → chain_step on p k o ≡ on w.text (suc k)
unfolding chain_step
went_on on p k o m w = rw (w.made_it, w.passed)

-- The text made is read back.
pub back : (q : Text) (m : ℕ) (o : Option Text) (mem mem₀ : Text) → o ≡ Some q → m ≡ length q → m ≤ 255 → length mem₀ ≡ 255 → mem ≡ step_buffer o mem₀ → take m mem ≡ q
unfolding step_buffer
back q m o mem mem₀ e l h r a = rw (a, e, l) (first_back q mem₀ (omega arith))

module _ (o : Option Text) (m : ℕ) (w : Went o m) (mem mem₀ : Text) (r : length mem₀ ≡ 255) (a : mem ≡ step_buffer o mem₀) where
  pub back_text : take m mem ≡ w.text
  back_text = back w.text m o mem mem₀ w.made_it w.long w.short r a

  pub back_part : m ≡ length (take m mem)
  back_part = w.long ∙ ap length (sym back_text)

  pub back_inside : m ≤ length mem
  back_inside = omega (arith, back_part, length-take m mem)

back_again : (q : Text) (m : ℕ) (part cur cur' : Text) → part ≡ q → m ≡ length q → m ≤ 255 → length cur ≡ 255 → cur' ≡ written_if_fits 0 part cur → take m cur' ≡ q
back_again q m part cur cur' e l h r b = rw (b, e, l) (first_back q cur (omega arith))

-- One iteration of the loop.
module _ (sk : Option Text) (l : List Pair) (p : Text) (n k len : ℕ) (cur : Text) (inv : chain sk l p ≡ chain_from sk l (n - k) (take len cur) k) where
  pub chain_end : n ≤ k → k ≤ n → chained (take len cur) n ≡ chain sk l p
  unfolding chain_from
  chain_end h g =
      let z : n - k ≡ 0 = omega arith in
      let y : n ≡ k = omega arith in
      ap (λ (i : ℕ). chained (take len cur) i) y ∙ sym (inv ∙ ap (λ (m : ℕ). chain_from sk l m (take len cur) k) z)

  module _ (h : k < n) (s : Result (Option ℕ) Refusal) (e : s ≡ step_reply (longest_replacement (replacement true sk (take len cur)) l)) where
    turn : chain sk l p ≡ chain_step (chain_from sk l (n - (k + 1))) (take len cur) k (longest_replacement (replacement true sk (take len cur)) l)
    unfolding chain_from next_replacement
    turn = let z : n - k ≡ suc (n - (k + 1)) = omega arith in inv ∙ ap (λ (m : ℕ). chain_from sk l m (take len cur) k) z

    pub chain_still : s ≡ (Ok None) → chained (take len cur) k ≡ chain sk l p
    unfolding chain_step
    chain_still g = sym (turn ∙ rw (still (longest_replacement (replacement true sk (take len cur)) l) (sym e ∙ g)))

    pub chain_stopped : (x : Refusal) → s ≡ Err x → stopped x ≡ chain sk l p
    chain_stopped x g =
        sym (turn ∙ ended (chain_from sk l (n - (k + 1))) (take len cur) k (longest_replacement (replacement true sk (take len cur)) l) x (sym e ∙ g))

    module _ (m : ℕ) (g : s ≡ Ok (Some m)) where
      w : Went (longest_replacement (replacement true sk (take len cur)) l) m
      w = went (longest_replacement (replacement true sk (take len cur)) l) m (sym e ∙ g)

      pub chain_short : m ≤ 255
      chain_short = w.short

      module _ (mem mem₀ : Text) (a : mem ≡ step_buffer (longest_replacement (replacement true sk (take len cur)) l) mem₀) (r : length mem₀ ≡ 255) where
        pub chain_part : m ≡ length (take m mem)
        chain_part = back_part (longest_replacement (replacement true sk (take len cur)) l) m w mem mem₀ r a

        pub chain_inside : m ≤ length mem
        chain_inside = back_inside (longest_replacement (replacement true sk (take len cur)) l) m w mem mem₀ r a

        pub chain_on : (cur' : Text) → cur' ≡ written_if_fits 0 (take m mem) cur → length cur ≡ 255 → chain sk l p ≡ chain_from sk l (n - (k + 1)) (take m cur') (k + 1)
        chain_on cur' b f =
            let t : take m cur' ≡ w.text = back_again w.text m (take m mem) cur cur' (back_text (longest_replacement (replacement true sk (take len cur)) l) m w mem mem₀ r a) w.long w.short f b in
            turn
            ∙ went_on (chain_from sk l (n - (k + 1))) (take len cur) k (longest_replacement (replacement true sk (take len cur)) l) m w
            ∙ sym (ap (λ (q : Text). chain_from sk l (n - (k + 1)) q (suc k)) t)
            ∙ sym (ap (λ (i : ℕ). chain_from sk l (n - (k + 1)) (take m cur') i) (add-one k))

pub chain_begin : (sk : Option Text) (store : Text) (places : List ℕ) (n : ℕ) (p cur cur₀ : Text) → cur ≡ written_if_fits 0 p cur₀ → length p ≤ 255 → length cur₀ ≡ 255
    → chain sk (pairs_in store places n) p ≡ chain_from sk (pairs_in store places n) (n - 0) (take (length p) cur) 0
unfolding chain
chain_begin sk store places n p cur cur₀ e h l =
    let z : n - 0 ≡ n = omega arith in
    rw (z, e, first_back p cur₀ (omega arith)) (ap (λ (m : ℕ). chain_from sk (pairs_in store places n) m p 0) (pairs_in_length store places n))
