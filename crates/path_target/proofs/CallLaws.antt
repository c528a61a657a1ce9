-- Lemmas for the branches of the calls and of the functions that write a path for them.
use Rattle.std.specs.Prelude.{Result, Ok, Err, Option, Some, None, ⊤}
use mathlib.Core.Path.{◌≡◌, refl, sym, ap, ◌∙◌}
use mathlib.Core.Logic.{◌≢◌}
use mathlib.Core.Bool.{Bool, true, false, cond}
use mathlib.Core.List.{[], ◌∷◌}
use Prim.Native.Nat.{ℕ, ◌≤◌}
use native.Mathlib.Omega.{arith}
use lib.Dec.{leb}
use lib.ListN.{length, take, drop, length-take, length-drop}
use borrow.Author.Tests.{leb-true}
use Rattle.text.specs.Text.{Text, written_if_fits}
use Rattle.text.proofs.TextLaws.{no_text}
use Rattle.text.proofs.WriteLaws.{placed_first, read_back}
use Rattle.path_grammar.specs.Legal.{legal, at_most255}
use Rattle.path_grammar.specs.Own.{target_part}
use Rattle.refusal.specs.declared.Refusal.TheVariants.{MadeTooLong, MadeIllegal}
use Rattle.refusal.specs.Refusal.{validate_texts}
use Rattle.refusal.specs.Outcome.{path, refused, outcome_reply, outcome_buffer, after_checks, checked, checked_option, ReturnsPath}
use Rattle.refusal.proofs.PassedLaws.{passed_short, passed_legal, made_legal}
use Rattle.path_target.specs.Target.{closed_at, has_target, embedded_target, or_empty, replaced_reply, replaced_buffer}
use Rattle.path_target.specs.Calls.{embedded_target_call}
use Rattle.path_target.proofs.TargetLaws.{parts_length, embedded_some, embedded_none}
use Rattle.path_target.proofs.Theorem.{target_legal, target_not_empty}
use Rattle.refusal.specs.declared.Refusal.{Refusal}

-- The call as the code validates it.
module _ (p : Text) (room : ℕ) where
  pub embedded_unfolded : embedded_target_call p room ≡ after_checks (validate_texts (p ∷ [])) room (checked_option (embedded_target p))
  unfolding embedded_target_call
  embedded_unfolded = refl

-- A target is no longer than its path.
embedded_short : (p t : Text) → embedded_target p ≡ Some t → length t ≤ length p
embedded_short p t e = go (has_target p) refl
  where
    go : (b : Bool) → has_target p ≡ b → length t ≤ length p
    go false h = absurd (no_text (sym (embedded_none p h) ∙ e))
    go true h =
        let u : Text = take (closed_at p) (target_part p) in
        let k : Some (drop 1 u) ≡ Some t = sym (embedded_some p h) ∙ e in
        let i : drop 1 u ≡ t = cc in
        rw (← i) (omega (arith, length-drop 1 u, length-take (closed_at p) (target_part p), parts_length p))

-- Lemmas for `embedded_target`. The target of a legal path is legal and not empty, so an empty text says that there is none.
module _ (p : Text) (q : Result ⊤ Refusal) (h : q ≡ validate_texts (p ∷ [])) (k : q ≡ Ok tt) (t : Text) (e : t ≡ or_empty (embedded_target p)) where
  pub embedded_absent : length t ≡ 0 → embedded_target p ≡ None
  embedded_absent z = go (embedded_target p) refl
    where
      go : (o : Option Text) → embedded_target p ≡ o → o ≡ None
      go None i = refl
      go (Some u) i =
          let j : t ≡ u = e ∙ ap or_empty i in
          absurd (target_not_empty p (passed_legal p q h k) u i (sym (ap length j) ∙ z))

  embedded_present : length t ≢ 0 → embedded_target p ≡ Some t
  embedded_present z = go (embedded_target p) refl
    where
      go : (o : Option Text) → embedded_target p ≡ o → o ≡ Some t
      go None i = absurd (z (ap length (e ∙ ap or_empty i)))
      go (Some u) i = let j : u ≡ t = sym (e ∙ ap or_empty i) in ap (λ (x : Text). Some x) j

  pub embedded_written : (out out' : Text) → length t ≢ 0 → 255 ≤ length out → out' ≡ written_if_fits 0 t out
      → ReturnsPath (checked_option (embedded_target p)) (Ok (length t)) out out'
  unfolding checked_option
  embedded_written out out' z r w =
      let i : embedded_target p ≡ Some t = embedded_present z in
      let short : length t ≤ 255 = omega (arith, embedded_short p t i, passed_short p q h k) in
      rw (i, w) (made_legal t short (target_legal p (passed_legal p q h k) t i) out r)

-- Lemmas for `write_replaced`: o is the path to write, if there is one, and `buf` the scratch buffer.
-- A path that was written.
record Made (o : Option Text) : Type 0 where
  text : Text
  is : o ≡ Some text

written_is : (o : Option Text) (buf : Text) (n : ℕ) → replaced_reply o buf ≡ Ok n → (m : Made o) × ((n ≡ length m.text) × (length m.text ≤ length buf))
unfolding replaced_reply
written_is None buf n e = absurd (let z : ◌≡◌ {A = ℕ} 0 1 = cc in omega arith)
written_is (Some q) buf n e = go (leb (length q) (length buf)) refl e
  where
    go : (b : Bool) → leb (length q) (length buf) ≡ b → cond b (Ok (length q)) (Err MadeTooLong) ≡ Ok n
        → (m : Made (Some q)) × ((n ≡ length m.text) × (length m.text ≤ length buf))
    go true k h = let i : n ≡ length q = cc in (record { text = q; is = refl }, (i, leb-true (length q) (length buf) k))
    go false k h = absurd (let z : ◌≡◌ {A = ℕ} 0 1 = cc in omega arith)

-- It can be read back.
read_some : (o : Option Text) (buf : Text) (m : Made o) → length m.text ≤ length buf → take (length m.text) (replaced_buffer o buf) ≡ m.text
unfolding replaced_buffer
read_some o buf m l = rw (m.is, placed_first m.text buf l) (read_back m.text buf)

module _ (o : Option Text) (buf : Text) (f : Result ℕ Refusal) (h : f ≡ replaced_reply o buf) where
  -- Whatever the refusal is.
  pub replaced_refused : length buf ≡ 255 → (x : Refusal) → f ≡ Err x → (r : Result ℕ Refusal) → r ≡ Err x → (out : Text) → ReturnsPath (checked_option o) r out out
  unfolding replaced_reply outcome_reply outcome_buffer checked_option checked at_most255
  replaced_refused l x e r k out = go o (sym h ∙ e)
    where
      go : (o' : Option Text) → replaced_reply o' buf ≡ Err x → ReturnsPath (checked_option o') r out out
      go None i = (k ∙ sym i, refl)
      go (Some q) i = at_length (leb (length q) 255) (rw l at i)
        where
          at_length : (b : Bool) → cond b (Ok (length q)) (Err MadeTooLong) ≡ Err x
              → (r ≡ outcome_reply (cond b (cond (legal q) (path q) (refused MadeIllegal)) (refused MadeTooLong))) × (out ≡ outcome_buffer (cond b (cond (legal q) (path q) (refused MadeIllegal)) (refused MadeTooLong)) out)
          at_length true j = absurd (let z : ◌≡◌ {A = ℕ} 0 1 = cc in omega arith)
          at_length false j = (k ∙ sym j, refl)

  module _ (l : length buf ≡ 255) (n : ℕ) (e : f ≡ Ok n) (mem : Text) (m : mem ≡ replaced_buffer o buf) where
    known : (m : Made o) × ((n ≡ length m.text) × (length m.text ≤ length buf))
    known = written_is o buf n (sym h ∙ e)

    -- The text read back from the scratch buffer is the path.
    back : take n mem ≡ known.0.text
    back = ap (take n) m ∙ ap (λ (k : ℕ). take k (replaced_buffer o buf)) known.1.0 ∙ read_some o buf known.0 known.1.1

    pub made_size : n ≡ length (take n mem)
    made_size = known.1.0 ∙ ap length (sym back)

    pub made_inside : n ≤ length mem
    made_inside = omega (arith, made_size, length-take n mem)

    pub made_short : length (take n mem) ≤ 255
    made_short = omega (arith, made_size, known.1.0, known.1.1)

    pub made_checked : (r : Result ℕ Refusal) (out out' : Text) → ReturnsPath (checked (take n mem)) r out out' → ReturnsPath (checked_option o) r out out'
    unfolding checked_option
    made_checked r out out' v = rw known.0.is (rw back at v)
