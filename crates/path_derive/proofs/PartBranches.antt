-- Lemmas for the branches of `parent`, `prim_path`, `split_property`, `strip_variant_selections` and `ancestors`.
use Rattle.std.specs.Prelude.{Ok, Err, Option, Some, None}
use Rattle.std.specs.Option.{ok_or}
use mathlib.Core.Path.{◌≡◌, refl, sym, ap, ◌∙◌}
use mathlib.Core.Logic.{◌≢◌}
use mathlib.Core.Bool.{Bool, true, false, not, cond}
use mathlib.Core.List.{[], ◌∷◌}
use Prim.Native.Nat.{ℕ, ◌≤◌}
use native.Mathlib.Nat.{zero-add}
use native.Mathlib.Omega.{arith}
use lib.Dec.{leb}
use lib.ListN.{length, take}
use lib.Seq.{length-take-le}
use borrow.Author.Tests.{le-leb, lt-leb}
use Rattle.text.specs.Text.{Text, written, written_if_fits, fit_of}
use Rattle.text.proofs.BoolLaws.{told, known_true}
use Rattle.text.proofs.WriteLaws.{placed_first, fit_length, fit_room, fit_over}
use Rattle.path_grammar.specs.Legal.{legal, is_root}
use Rattle.path_parts.specs.Parent.{parent_len, parent, is_property, prim_len, prim_path, split_property}
use Rattle.path_parts.specs.Strip.{strip, strip_fit, strip_buffer}
use Rattle.path_parts.proofs.ParentLaws.{prim_len_le, prim_legal}
use Rattle.path_parts.proofs.StripLaws.{strip_never, strip_shorter, strip_legal, strip_length, strip_memory}
use Rattle.refusal.specs.declared.Refusal.TheVariants.{NoRoom}
use Rattle.refusal.specs.Outcome.{ReturnsPath, written_if_accepted, outcome_reply, outcome_buffer, checked}
use Rattle.refusal.proofs.PassedLaws.{made_legal}

-- A legal prefix of the path is written unchanged.
pub cut_written : (p : Text) (n m : ℕ) → n ≡ m → m ≤ length p → length p ≤ 255 → legal (take m p) ≡ true → (out out' : Text) → 255 ≤ length out
    → out' ≡ written_if_fits 0 (take n p) out → (Ok n ≡ outcome_reply (checked (take m p))) × (out' ≡ outcome_buffer (checked (take m p)) out)
cut_written p n m a h s l out out' r e =
    let k : length (take m p) ≡ m = length-take-le m p h in
    let w : (Ok (length (take m p)) ≡ outcome_reply (checked (take m p))) × (written_if_fits 0 (take m p) out ≡ outcome_buffer (checked (take m p)) out)
    = made_legal (take m p) (omega arith) l out r in
    (ap (λ (x : ℕ). Ok x) (a ∙ sym k) ∙ w.0, (rw a at e) ∙ w.1)

-- `&path[..n]` has n bytes.
pub cut_length : (p : Text) (n m : ℕ) → n ≡ m → m ≤ length p → n ≡ length (take n p)
cut_length p n m a h = sym (length-take-le n p (omega arith))

-- Lemmas for `parent`.
pub parent_empty : (p : Text) → length p ≡ 0 → parent p ≡ None
unfolding parent
parent_empty [] e = refl
parent_empty (a ∷ p) e = absurd (omega arith)

pub parent_root : (p : Text) (b : Bool) → length p ≢ 0 → b ≡ is_root p → b ≡ true → parent p ≡ None
unfolding parent
parent_root [] b d h k = refl
parent_root (a ∷ p) b d h k = rw (told h k)

pub parent_cut : (p : Text) (b : Bool) → length p ≢ 0 → b ≡ is_root p → b ≡ false → parent p ≡ Some (take (parent_len p) p)
unfolding parent
parent_cut [] b d h k = absurd (d refl)
parent_cut (a ∷ p) b d h k = rw (told h k)

-- Lemmas for `prim_path`.
pub prim_written : (p : Text) (n : ℕ) → n ≡ prim_len p → length p ≤ 255 → legal p ≡ true → (out out' : Text) → 255 ≤ length out
    → out' ≡ written_if_fits 0 (take n p) out → (Ok n ≡ outcome_reply (checked (prim_path p))) × (out' ≡ outcome_buffer (checked (prim_path p)) out)
unfolding prim_path
prim_written p n a s l out out' r e = cut_written p n (prim_len p) a (prim_len_le p) s (prim_legal p l) out out' r e

pub split_some : (p : Text) (b : Bool) → b ≡ is_property p → not b ≡ false → split_property p ≡ Some (prim_path p)
unfolding split_property
split_some p b h k = rw (known_true h k)

-- Lemmas for `strip_variant_selections`. The buffer has capacity, since the path has at most 255 bytes.
pub strip_written : (p out : Text) (f : Option ℕ) → length p ≤ 255 → 255 ≤ length out → f ≡ strip_fit p out → (n : ℕ) (out' : Text) → f ≡ Some n → legal p ≡ true
    → out' ≡ strip_buffer p out → (Ok n ≡ outcome_reply (checked (strip p))) × (out' ≡ outcome_buffer (checked (strip p)) out)
strip_written p out f s r h n out' e l m =
    let i : n ≡ length (strip p) = strip_length p out f (omega arith) h n e in
    let w : (Ok (length (strip p)) ≡ outcome_reply (checked (strip p))) × (written_if_fits 0 (strip p) out ≡ outcome_buffer (checked (strip p)) out)
    = made_legal (strip p) (omega (arith, strip_shorter p)) (strip_legal p l) out r in
    let o : out' ≡ written (strip p) out = strip_memory p out f (omega arith) h n e out' m in
    (ap (λ (x : ℕ). Ok x) i ∙ w.0, o ∙ sym (placed_first (strip p) out (omega (arith, strip_shorter p))) ∙ w.1)

pub strip_returned : (p out out' : Text) (f : Option ℕ) → length p ≤ 255 → 255 ≤ length out → f ≡ strip_fit p out → legal p ≡ true → out' ≡ strip_buffer p out
    → ReturnsPath (checked (strip p)) (ok_or f NoRoom) out out'
strip_returned p out out' (Some n) s r h l m = strip_written p out (Some n) s r h n out' refl l m
strip_returned p out out' None s r h l m = absurd (strip_never p out None (omega arith) h refl)

-- Lemmas for `ancestors`.
module _ (lens out : Text) (f : Option ℕ) (h : f ≡ fit_of lens out) where
  pub listed_written : (n : ℕ) → f ≡ Some n → Ok n ≡ cond (leb (length lens) (length out)) (Ok (length lens)) (Err NoRoom)
  listed_written n e =
      rw (le-leb (length lens) (length out) (fit_room lens out n (sym h ∙ e)), fit_length lens out n (sym h ∙ e))

  pub listed_over : f ≡ None → Err NoRoom ≡ cond (leb (length lens) (length out)) (Ok (length lens)) (Err NoRoom)
  listed_over e = rw (lt-leb (length lens) (length out) (fit_over lens out (sym h ∙ e)))

  pub listed_memory : (n : ℕ) (out' : Text) → f ≡ Some n → out' ≡ written_if_fits 0 lens out → out' ≡ written lens out
  listed_memory n out' e m = m ∙ placed_first lens out (fit_room lens out n (sym h ∙ e))

  pub listed_kept : (out' : Text) → f ≡ None → out' ≡ written_if_fits 0 lens out → out' ≡ out
  unfolding written_if_fits
  listed_kept out' e m = rw (zero-add (length lens), lt-leb (length lens) (length out) (fit_over lens out (sym h ∙ e))) at m

pub listed_after : (lens out out' : Text) (f : Option ℕ) → f ≡ fit_of lens out → out' ≡ written_if_fits 0 lens out → out' ≡ written_if_accepted (ok_or f NoRoom) lens out
listed_after lens out out' (Some n) h m = listed_memory lens out (Some n) h n out' refl m
listed_after lens out out' None h m = listed_kept lens out None h out' refl m
