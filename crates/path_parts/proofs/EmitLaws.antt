-- Lemmas for the branches of the functions that strip selections.
use Rattle.std.specs.Prelude.{Some, None}
use mathlib.Core.Path.{◌≡◌, refl, sym, ap, ◌∙◌}
use mathlib.Core.Logic.{◌≢◌}
use mathlib.Core.Bool.{Bool, true, false}
use mathlib.Core.List.{[], ◌∷◌, ◌++◌, append_assoc, append-nil}
use Prim.Native.Nat.{ℕ, ◌+◌, ◌-◌, ◌≤◌, ◌<◌}
use native.Mathlib.Nat.{add-zero}
use native.Mathlib.Numerals.{add-one}
use native.Mathlib.Omega.{arith}
use lib.ListN.{length, get_or, set, take, drop, length-append, length-drop, drop_of_length-le}
use lib.Seq.{set_split, drop-cons, length-take-le}
use borrow.Author.Tests.{le-leb, lt-leb, ne_eqb}
use Rattle.text.specs.Text.{Text, written, written_at, written_if_fits}
use Rattle.text.proofs.BoolLaws.{told}
use Rattle.path_grammar.specs.Own.{own_part, target_part}
use Rattle.path_grammar.proofs.OwnLaws.{own_length, own_slice, target_slice}
use Rattle.path_parts.specs.Parent.{starts_name_after}
use Rattle.path_parts.specs.Strip.{stripped_byte, inside_after, strip_from, strip, strip_fit, strip_buffer}
use Rattle.path_parts.proofs.StripLaws.{piece_short, from_shorter}
use Rattle.text.proofs.WriteLaws.{over_written, over_none, placed_next, rest_whole}

-- Lemmas for `emit`.
over_one : (j b : ℕ) (out : Text) → j < length out → set out j b ≡ written_at j (b ∷ []) out
over_one j b out h = rw add-one (set_split out j b h)

module _ (m : Bool) (a : ℕ) (r out : Text) (j : ℕ) where
  module _ (b : Bool) (t : m ≡ true) (f : b ≡ starts_name_after a r) where
    piece_slash : b ≡ true → stripped_byte m a r ≡ 47 ∷ []
    unfolding stripped_byte
    piece_slash h = rw (t, told f h)

    piece_inside : b ≡ false → stripped_byte m a r ≡ []
    unfolding stripped_byte
    piece_inside h = rw (t, told f h)

    pub slash_long : b ≡ true → j + 1 ≡ j + length (stripped_byte m a r)
    slash_long h = rw (piece_slash h)

    pub slash_over : b ≡ true → j < length out → set out j 47 ≡ written_at j (stripped_byte m a r) out
    slash_over h l = rw (piece_slash h) (over_one j 47 out l)

    pub inside_long : b ≡ false → j ≡ j + length (stripped_byte m a r)
    inside_long h = rw (piece_inside h, add-zero)

    pub inside_over : b ≡ false → out ≡ written_at j (stripped_byte m a r) out
    inside_over h = rw (piece_inside h) (over_none j out)

  module _ (t : m ≡ false) where
    piece_open : a ≡ 123 → stripped_byte m a r ≡ []
    unfolding stripped_byte
    piece_open h = rw (t, h)

    piece_itself : a ≢ 123 → stripped_byte m a r ≡ a ∷ []
    unfolding stripped_byte
    piece_itself h = rw (t, ne_eqb a 123 h)

    pub open_long : a ≡ 123 → j ≡ j + length (stripped_byte m a r)
    open_long h = rw (piece_open h, add-zero)

    pub open_over : a ≡ 123 → out ≡ written_at j (stripped_byte m a r) out
    open_over h = rw (piece_open h) (over_none j out)

    pub itself_long : a ≢ 123 → j + 1 ≡ j + length (stripped_byte m a r)
    itself_long h = rw (piece_itself h)

    pub itself_over : a ≢ 123 → j < length out → set out j a ≡ written_at j (stripped_byte m a r) out
    itself_over h l = rw (piece_itself h) (over_one j a out l)

pub ruleset emits = (slash_long, slash_over, inside_long, inside_over, open_long, open_over, itself_long, itself_over)

-- The loop invariant of `strip_own`: what has been written, and what remains to be written.
pub record Sofar (p out₀ out : Text) (m : Bool) (i j : ℕ) : Type 0 where
  pub text : Text
  pub long : length text ≡ j
  pub wrote : out ≡ written text out₀
  pub rest : text ++ strip_from m (drop i p) ≡ strip_from false p

pub sofar_begin : (p out : Text) → Sofar p out out false 0 0
sofar_begin p out = record { text = []; long = refl; wrote = refl; rest = refl }

strip_next : (m : Bool) (p : Text) (i : ℕ) → i < length p
    → strip_from m (drop i p) ≡ stripped_byte m (get_or p i 0) (drop (i + 1) p) ++ strip_from (inside_after m (get_or p i 0)) (drop (i + 1) p)
unfolding strip_from
strip_next m p i h = rw add-one (ap (λ (s : Text). strip_from m s) (drop-cons p i 0 h))

module _ (p out₀ out out' : Text) (m m' : Bool) (i j j' : ℕ) where
  pub sofar_on : Sofar p out₀ out m i j → i < length p → m' ≡ inside_after m (get_or p i 0)
      → j' ≡ j + length (stripped_byte m (get_or p i 0) (drop (i + 1) p)) → out' ≡ written_at j (stripped_byte m (get_or p i 0) (drop (i + 1) p)) out
      → Sofar p out₀ out' m' (i + 1) j'
  sofar_on S h e l w =
      let g : Text = stripped_byte m (get_or p i 0) (drop (i + 1) p) in
      record {
        text = S.text ++ g;
        long = length-append S.text g ∙ ap (λ (n : ℕ). n + length g) S.long ∙ sym l;
        wrote = w ∙ rw (← S.long, S.wrote) (over_written S.text g out₀);
        rest =
            rw e (append_assoc S.text g (strip_from (inside_after m (get_or p i 0)) (drop (i + 1) p)))
            ∙ ap (λ (t : Text). S.text ++ t) (sym (strip_next m p i h))
            ∙ S.rest;
      }

pub place_on : (m : Bool) (a : ℕ) (r : Text) (i j j' : ℕ) → j ≤ i → j' ≡ j + length (stripped_byte m a r) → j' ≤ i + 1
place_on m a r i j j' h e = omega (arith, piece_short m a r)

module _ (p d out : Text) (m : Bool) (i j : ℕ) (S : Sofar p d out m i j) (h : length p ≤ i) where
  all_written : S.text ≡ strip_from false p
  unfolding strip_from
  all_written = sym (append-nil S.text) ∙ ap (λ (t : Text). S.text ++ strip_from m t) (sym (drop_of_length-le p h)) ∙ S.rest

  pub sofar_long : j ≡ length (strip_from false p)
  sofar_long = sym S.long ∙ ap length all_written

  pub sofar_end : out ≡ written (strip_from false p) d
  sofar_end = S.wrote ∙ ap (λ (t : Text). written t d) all_written

pub ruleset strips = (sofar_begin, sofar_on, place_on, sofar_long, sofar_end)

-- Lemmas for `strip_into`.
module _ (p d : Text) (h : length d < length p) where
  pub strip_over : None ≡ strip_fit p d
  unfolding strip_fit
  strip_over = rw (lt-leb (length p) (length d) h)

  pub strip_kept : d ≡ strip_buffer p d
  unfolding strip_buffer
  strip_kept = rw (lt-leb (length p) (length d) h)

module _ (p o d : Text) (w : o ≡ own_part p) (l : length p ≤ length d) where
  pub own_at : length o ≤ length p
  own_at = rw w (own_length p)

  pub own_count : length o ≡ length (take (length o) p)
  own_count = sym (length-take-le (length o) p own_at)

  pub own_fits : length (take (length o) p) ≤ length d
  own_fits = omega (arith, own_count, own_at)

  cut_is : take (length o) p ≡ own_part p
  cut_is = rw w (own_slice p)

  tail_is : drop (length o) p ≡ target_part p
  tail_is = rw w (target_slice p)

  own_long : length p ≡ length o + length (target_part p)
  own_long = let k : length p - length o ≡ length (target_part p) = sym (length-drop (length o) p) ∙ ap length tail_is in omega (arith, own_at)

  module _ (j : ℕ) (k : j ≡ length (strip_from false (take (length o) p))) where
    pub strip_less : j ≤ length o
    strip_less = rw k (omega (arith, from_shorter false (take (length o) p), own_count))

    pub strip_left : length o - j ≤ length p
    strip_left = omega (arith, own_at)

    strip_long : length p - (length o - j) ≡ length (strip_from false (take (length o) p) ++ target_part p)
    strip_long = rw (length-append (strip_from false (take (length o) p)) (target_part p)) (omega (arith, own_long, strip_less))

    pub strip_fits : Some (length p - (length o - j)) ≡ strip_fit p d
    unfolding strip_fit strip
    strip_fits = rw (le-leb (length p) (length d) l, ← cut_is) (ap Some strip_long)

    pub strip_done : (mem out : Text) → mem ≡ written (strip_from false (take (length o) p)) d → out ≡ written_if_fits j (take (length p - length o) (drop (length o) p)) mem
        → out ≡ strip_buffer p d
    unfolding strip_buffer strip
    strip_done mem out m e =
        rw (le-leb (length p) (length d) l, ← cut_is)
        (e ∙ rw (m, k, rest_whole p (length o), tail_is)
        (placed_next (strip_from false (take (length o) p)) (target_part p) d (omega (arith, own_long, own_count, from_shorter false (take (length o) p)))))

pub ruleset strip_ends = (strip_over, strip_kept, own_at, own_count, own_fits, strip_less, strip_left, strip_fits, strip_done)
