-- Lemmas about the contents of a lent buffer after copying.
use Rattle.std.specs.Prelude.{Option, Some, None}
use mathlib.Core.Path.{◌≡◌, refl, sym, ap, ◌∙◌}
use mathlib.Core.Bool.{Bool, true, false, cond}
use mathlib.Core.List.{◌++◌, append_assoc, List, []}
use Prim.Native.Nat.{ℕ, ◌+◌, ◌-◌, ◌≤◌, ◌<◌}
use native.Mathlib.Nat.{zero-add}
use native.Mathlib.Numerals.{add-one}
use native.Mathlib.Omega.{arith}
use lib.Dec.{leb}
use lib.ListN.{length, get_or, set, take, drop, length-set, length-append, length-drop, length-take, take-append-drop}
use lib.Seq.{paste, paste-zero, paste-suc, take-append_seam, drop-append-add, drop-drop, take_all, take-length, length-take-le}
use borrow.Author.Tests.{le-leb, lt-leb, leb-true, leb-false}
use borrow.Rule.Slice.PartMut.{put_mid}
use Rattle.text.specs.Text.{Text, written, written_if_fits, fit_of, written_at}

-- Lemmas for `write_at`.
pub put_begin : (d : Text) (at : ℕ) (s : Text) → d ≡ paste d at s 0
put_begin d at s = paste-zero d at s

pub put_on : (d s now : Text) (at i : ℕ) → at ≤ length d → length s ≤ length d - at → i < length s → now ≡ paste d at s i
    → set now (at + i) (get_or s i 0) ≡ paste d at s (i + 1)
put_on d s now at i g f h e = rw (e, add-one i) (paste-suc d at s i 0 (omega arith) h)

pub put_length : (d now : Text) (i v : ℕ) → length now ≡ length d → length (set now i v) ≡ length d
put_length d now i v e = simp length-set e

pub put_end : (d s now : Text) (at i : ℕ) → at ≤ length d → length s ≤ length d - at → length s ≤ i → i ≤ length s → now ≡ paste d at s i
    → now ≡ written_if_fits at s d
unfolding written_if_fits
put_end d s now at i g f h l e =
    let k : i ≡ length s = omega arith in
    rw (le-leb (at + length s) (length d) (omega arith), e, k, take-length s, append_assoc) refl

pub put_part : (d s w : Text) (at : ℕ) → at ≤ length d → length s ≤ length d - at → w ≡ s → put_mid at (at + length s - at) d w ≡ written_if_fits at s d
unfolding written_if_fits
put_part d s w at g f e =
    let k : at + length s - at ≡ length s = omega arith in
    rw (e, k, le-leb (at + length s) (length d) (omega arith), drop-drop) refl

pub put_outside : (d s : Text) (at : ℕ) → length d < at → d ≡ written_if_fits at s d
unfolding written_if_fits
put_outside d s at h = rw (lt-leb (at + length s) (length d) (omega arith))

pub put_over : (d s : Text) (at : ℕ) → at ≤ length d → length d - at < length s → d ≡ written_if_fits at s d
unfolding written_if_fits
put_over d s at g h = rw (lt-leb (at + length s) (length d) (omega arith))

pub ruleset puts = (put_begin, put_on, put_length, put_end, put_outside, put_over)

-- A text placed at the beginning of a buffer.
pub placed_first : (t out : Text) → length t ≤ length out → written_if_fits 0 t out ≡ written t out
unfolding written_if_fits
placed_first t out h = rw (zero-add (length t), le-leb (length t) (length out) h)

-- A text placed directly after another.
pub placed_next : (t s out : Text) → length t + length s ≤ length out → written_if_fits (length t) s (written t out) ≡ written (t ++ s) out
unfolding written_if_fits
placed_next t s out h =
    let l : length (written t out) ≡ length out = simp (length-append, length-drop) (omega arith) in
    rw (l, le-leb (length t + length s) (length out) h) (simp (take-append_seam, drop-append-add, drop-drop, length-append, append_assoc))

-- Writing nothing, writing a text that fits, and writing one text directly after another.
pub over_none : (at : ℕ) (out : Text) → out ≡ written_at at [] out
over_none at out = let z : at + 0 ≡ at = omega arith in rw z (sym (take-append-drop at out))

pub over_length : (at : ℕ) (t out : List ℕ) → at + length t ≤ length out → length (written_at at t out) ≡ length out
over_length at t out h = simp (length-append, length-take, length-drop) (omega arith)

pub over_written : (t s out : Text) → written_at (length t) s (written t out) ≡ written (t ++ s) out
over_written t s out = simp (take-append_seam, drop-append-add, drop-drop, length-append, append_assoc)

-- The first n bytes of a text have length n.
pub part_size : (n : ℕ) (t : Text) → n ≤ length t → n ≡ length (take n t)
part_size n t h = sym (length-take-le n t h)

-- Reading back a text that was written.
pub read_back : (t out : Text) → take (length t) (written t out) ≡ t
read_back t out = take-append_seam t (drop (length t) out)

-- `&text[k..]` is the remainder from index k.
pub rest_whole : (t : Text) (k : ℕ) → take (length t - k) (drop k t) ≡ drop k t
rest_whole t k = take_all (length t - k) (drop k t) (simp length-drop (omega arith))

-- What the result of a function that writes a text implies for the text.
pub fit_length : (t out : Text) (n : ℕ) → fit_of t out ≡ Some n → n ≡ length t
unfolding fit_of
fit_length t out n e = go (leb (length t) (length out)) e
  where
    go : (b : Bool) → cond b (Some (length t)) None ≡ Some n → n ≡ length t
    go true h = cc
    go false h = cc

pub fit_room : (t out : Text) (n : ℕ) → fit_of t out ≡ Some n → length t ≤ length out
unfolding fit_of
fit_room t out n e = go (leb (length t) (length out)) refl
  where
    go : (b : Bool) → leb (length t) (length out) ≡ b → length t ≤ length out
    go true h = leb-true (length t) (length out) h
    go false h = absurd (let z : ◌≡◌ {A = Option ℕ} None (Some n) = rw h at e in let y : ◌≡◌ {A = ℕ} 0 1 = cc in omega arith)

pub fit_over : (t out : Text) → fit_of t out ≡ None → length out < length t
unfolding fit_of
fit_over t out e = go (leb (length t) (length out)) refl
  where
    go : (b : Bool) → leb (length t) (length out) ≡ b → length out < length t
    go true h = absurd (let z : ◌≡◌ {A = Option ℕ} (Some (length t)) None = rw h at e in let y : ◌≡◌ {A = ℕ} 0 1 = cc in omega arith)
    go false h = leb-false (length t) (length out) h

-- A text that was written to a scratch buffer is read back from it.
module _ (t buf : Text) (f : Option ℕ) (h : f ≡ fit_of t buf) (n : ℕ) (e : f ≡ Some n) where
  pub fit_is : n ≡ length t
  fit_is = fit_length t buf n (sym h ∙ e)

  module _ (mem : Text) (m : mem ≡ written_if_fits 0 t buf) where
    pub fit_back : take n mem ≡ t
    fit_back = rw (m, placed_first t buf (fit_room t buf n (sym h ∙ e)), fit_is) (read_back t buf)

    pub fit_part : n ≡ length (take n mem)
    fit_part = fit_is ∙ ap length (sym fit_back)

    pub fit_inside : n ≤ length mem
    fit_inside = omega (arith, fit_part, length-take n mem)
