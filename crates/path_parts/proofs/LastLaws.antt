-- Lemmas about where the last part of a text begins, and about the text before it.
use Rattle.std.specs.Prelude.{Option, Some, None}
use mathlib.Core.Path.{◌≡◌, refl, sym, ap, ◌∙◌}
use mathlib.Core.Bool.{Bool, true, false, cond, true≢false, false≢true}
use mathlib.Core.List.{[], ◌∷◌, ◌++◌}
use Prim.Native.Nat.{ℕ, suc, ◌<◌}
use native.Mathlib.Omega.{arith}
use lib.Dec.{eqb, leb}
use lib.ListN.{length, take, drop}
use borrow.Author.Tests.{eqb-true}
use Rattle.text.specs.Text.{Text, lacks_byte}
use Rattle.text.proofs.BoolLaws.{and_l, and_r}
use Rattle.characters.specs.Utf8.{Reading}
use Rattle.characters.proofs.ReadingLaws.{allowed_from, next, allowed_after, reads_byte, nothing_read, ascii_read, ascii_here}
use Rattle.path_grammar.specs.Legal.{ScanState, Slash, Name, Opened, Set, Equals, Sel, Closed, Dot, Prop, Dead, is_name_start_byte, is_name_byte, is_variant_byte, starts_name, step, run, accept}
use Rattle.path_parts.specs.Parent.{starts_part, starts_name_after, part_offset, last_part_start, parent_end, own_parent_len}
use Rattle.path_parts.proofs.ReadLaws.{choose, dies, closes}
use Rattle.path_grammar.proofs.LegalLaws.{start_cont}

-- `none` is not `some`
pub no_part : {k : ℕ} → None ≡ Some k → ⊥
no_part {k} e = let z : ◌≡◌ {A = ℕ} 0 1 = cc in omega arith

-- The last part of a text begins at its first byte, directly after that, or later.
pub data Last : Text → ℕ → Type 0 where
  here : (a : ℕ) (r : Text) → starts_part a r ≡ true → Last (a ∷ r) 0
  after : (a : ℕ) (r : Text) → starts_name_after a r ≡ true → Last (a ∷ r) 1
  beyond : (a : ℕ) {r : Text} {k : ℕ} → Last r k → Last (a ∷ r) (suc k)

pub last : (r : Text) (k : ℕ) → last_part_start r ≡ Some k → Last r k
unfolding last_part_start
last [] k e = absurd (no_part e)
last (a ∷ r) k e = go (last_part_start r) refl (λ j. last r j)
  where
    first : (b c : Bool) → starts_part a r ≡ b → starts_name_after a r ≡ c → cond b (Some 0) (cond c (Some 1) None) ≡ Some k → Last (a ∷ r) k
    first true c f g h = let z : k ≡ 0 = cc in rw z (here a r f)
    first false true f g h = let z : k ≡ 1 = cc in rw z (after a r g)
    first false false f g h = absurd (no_part h)

    go : (o : Option ℕ) → last_part_start r ≡ o → ((j : ℕ) → last_part_start r ≡ Some j → Last r j) → Last (a ∷ r) k
    go None h ih = first (starts_part a r) (starts_name_after a r) refl refl (rw h at e)
    go (Some j) h ih = let z : k ≡ suc j = cc in rw z (beyond a (ih j h))

-- The bytes at which a part begins.
pub begins_byte : (P : ℕ → Type 0) → P 47 → P 123 → P 46 → (a : ℕ) (r : Text) → starts_part a r ≡ true → P a
unfolding starts_part
begins_byte P slash brace dot a r e = go (eqb a 47) (eqb a 123) refl refl
  where
    go : (b c : Bool) → eqb a 47 ≡ b → eqb a 123 ≡ c → P a
    go true c h k = rw (eqb-true a 47 h) slash
    go false true h k = rw (eqb-true a 123 k) brace
    go false false h k = rw (eqb-true a 46 (rw (h, k) at e)) dot

pub after_byte : (a : ℕ) (r : Text) → starts_name_after a r ≡ true → a ≡ 125
unfolding starts_name_after
after_byte a r e = eqb-true a 125 (and_l (eqb a 125) (starts_name r) e)

pub after_name_lem : (a : ℕ) (r : Text) → starts_name_after a r ≡ true → starts_name r ≡ true
unfolding starts_name_after
after_name_lem a r e = and_r (eqb a 125) (starts_name r) e

name_long : (r : Text) → starts_name r ≡ true → 0 < length r
name_long [] e = absurd (false≢true e)
name_long (a ∷ r) e = omega arith

pub last_lt : {r : Text} {k : ℕ} → Last r k → k < length r
last_lt (here a r b) = omega arith
last_lt (after a r b) = omega (arith, name_long r (after_name_lem a r b))
last_lt (beyond a l) = omega (arith, last_lt l)

-- A text may end before a part that the automaton goes on to read.
module _ (a : ℕ) (start : is_name_start_byte a ≡ false) (cont : is_name_byte a ≡ false) (variant : is_variant_byte a ≡ false) (equals : eqb a 61 ≡ false)
    (close : eqb a 125 ≡ false) where
  mark_dies : (s : ScanState) → accept s ≡ false → step s a ≡ Dead
  unfolding step accept
  mark_dies Slash n = rw start
  mark_dies Name n = absurd (true≢false n)
  mark_dies Opened n = rw start
  mark_dies Set n = rw (cont, equals)
  mark_dies Equals n = rw variant
  mark_dies Sel n = rw (variant, close)
  mark_dies Closed n = absurd (true≢false n)
  mark_dies Dot n = rw start
  mark_dies Prop n = absurd (true≢false n)
  mark_dies Dead n = refl

begins_dies : (s : ScanState) → accept s ≡ false → (a : ℕ) (r : Text) → starts_part a r ≡ true → step s a ≡ Dead
unfolding is_name_start_byte is_name_byte is_variant_byte
begins_dies s n =
    begins_byte (λ (a : ℕ). step s a ≡ Dead) (mark_dies 47 refl refl refl refl refl s n) (mark_dies 123 refl refl refl refl refl s n) (mark_dies 46 refl refl refl refl refl s n)

pub may_end : (s : ScanState) (a : ℕ) (r : Text) → starts_part a r ≡ true → accept (run (step s a) r) ≡ true → accept s ≡ true
may_end s a r b e = go (accept s) refl
  where
    go : (t : Bool) → accept s ≡ t → t ≡ true
    go true h = refl
    go false h = dies r (rw (begins_dies s h a r b) at e)

pub last_legal : (s : ScanState) {r : Text} {k : ℕ} → Last r k → accept (run s r) ≡ true → accept (run s (take k r)) ≡ true
unfolding run accept
last_legal s (here a r b) e = may_end s a r b e
last_legal s (after a r b) e = let z : a ≡ 125 = after_byte a r b in rw z (ap accept (closes s r (rw z at e)))
last_legal s (beyond a l) e = last_legal (step s a) l e

-- The text before the last part cuts no character: a byte of ASCII ends or follows it.
pub last_allowed : (u : Reading) {r : Text} {k : ℕ} → Last r k → allowed_from u r ≡ true → allowed_from u (take k r) ≡ true
last_allowed u (here a r b) e =
    rw (ascii_here a (begins_byte (λ (x : ℕ). leb x 0x7F ≡ true) refl refl refl a r b) u r e).0 nothing_read
last_allowed u (after a r b) e =
    let z : a ≡ 125 = after_byte a r b in
    rw (z, (ascii_here 125 refl u r (rw z at e)).0) (ascii_read 125 refl [] ∙ nothing_read)
last_allowed u (beyond a {r} {k} l) e = reads_byte u a (take k r) ∙ go (next u a) (sym (reads_byte u a r) ∙ e) (λ v. last_allowed v l)
  where
    go : (n : Option Reading) → allowed_after n r ≡ true → ((v : Reading) → allowed_from v r ≡ true → allowed_from v (take k r) ≡ true)
        → allowed_after n (take k r) ≡ true
    go None f ih = f
    go (Some v) f ih = ih v f

-- After a slash, the last part is that of the following text, or else it begins at the slash.
abbrev after_slash : Option ℕ → ℕ
after_slash None = 0
after_slash (Some k) = suc k

pub slash_part : (r : Text) → accept (run Slash r) ≡ true → last_part_start (47 ∷ r) ≡ Some (after_slash (last_part_start r))
unfolding last_part_start run accept
slash_part [] e = absurd (false≢true e)
slash_part (b ∷ r) e = go (last_part_start (b ∷ r)) refl
  where
    go : (o : Option ℕ) → last_part_start (b ∷ r) ≡ o → last_part_start (47 ∷ b ∷ r) ≡ Some (after_slash o)
    go None h = rw h
    go (Some k) h = rw h

-- So the parent of a path without brackets is the slash and the text before that part.
abbrev pub before : Option ℕ → ℕ
before None = 0
before (Some k) = k

pub slash_len : (r : Text) → accept (run Slash r) ≡ true → own_parent_len (47 ∷ r) ≡ suc (before (last_part_start r))
unfolding own_parent_len
slash_len r e = ap parent_end (slash_part r e) ∙ go (last_part_start r)
  where
    go : (o : Option ℕ) → parent_end (Some (after_slash o)) ≡ suc (before o)
    go None = refl
    go (Some k) = refl

pub before_lt : (r : Text) → accept (run Slash r) ≡ true → before (last_part_start r) < length r
unfolding run accept
before_lt [] e = absurd (false≢true e)
before_lt (b ∷ r) e = go (last_part_start (b ∷ r)) refl
  where
    go : (o : Option ℕ) → last_part_start (b ∷ r) ≡ o → before o < suc (length r)
    go None h = omega arith
    go (Some k) h = last_lt (last (b ∷ r) k h)

-- No part begins at a byte of a name.
pub name_part : (a : ℕ) (r : Text) → is_name_byte a ≡ true → part_offset a r ≡ None
unfolding part_offset is_name_byte
name_part a r h = go (starts_part a r) (starts_name_after a r) refl refl
  where
    go : (b c : Bool) → starts_part a r ≡ b → starts_name_after a r ≡ c → part_offset a r ≡ None
    go true c f g = absurd (true≢false (sym h ∙ begins_byte (λ (x : ℕ). is_name_byte x ≡ false) refl refl refl a r f))
    go false true f g = absurd (true≢false (sym h ∙ ap is_name_byte (after_byte a r g)))
    go false false f g = rw (f, g)

pub none_on : (a : ℕ) (r : Text) → part_offset a r ≡ None → last_part_start r ≡ None → last_part_start (a ∷ r) ≡ None
unfolding last_part_start
none_on a r f g = rw (g, f)

-- No part begins in a property, either at a byte of a name or at a `:`.
property_part : (r : Text) → (accept (run Prop r) ≡ true → last_part_start r ≡ None) × (accept (run Dot r) ≡ true → last_part_start r ≡ None)
unfolding run step last_part_start
property_part [] = (λ e. refl, λ e. refl)
property_part (a ∷ r) = (
  λ e. choose (is_name_byte a) Prop _ r (λ h f. none_on a r (name_part a r h) ((property_part r).0 f))
      (λ _ g. choose (eqb a 58) Dot Dead r (λ h f. none_on a r (ap (λ (x : ℕ). part_offset x r) (eqb-true a 58 h)) ((property_part r).1 f)) (λ _ d. dies r d) g) e,
  λ e. choose (is_name_start_byte a) Prop Dead r (λ h f. none_on a r (name_part a r (start_cont a h)) ((property_part r).0 f)) (λ _ d. dies r d) e,
)

-- So the last part of a property path begins at its dot.
dot_last : (s : ScanState) (r : Text) → accept (run (step s 46) r) ≡ true → last_part_start r ≡ None
unfolding step
dot_last Slash r e = dies r e
dot_last Name r e = (property_part r).1 e
dot_last Opened r e = dies r e
dot_last Set r e = dies r e
dot_last Equals r e = dies r e
dot_last Sel r e = dies r e
dot_last Closed r e = (property_part r).1 e
dot_last Dot r e = dies r e
dot_last Prop r e = dies r e
dot_last Dead r e = dies r e

pub record Dotted (r : Text) : Type 0 where
  pub at : ℕ
  pub part : last_part_start r ≡ Some at
  pub joins : r ≡ take at r ++ 46 ∷ drop (suc at) r

pub dotted : (s : ScanState) (r : Text) → accept (run s r) ≡ true → lacks_byte 46 r ≡ false → Dotted r
unfolding run last_part_start lacks_byte
dotted s [] e f = absurd (true≢false f)
dotted s (a ∷ r) e f = go (eqb a 46) refl (λ g. dotted (step s a) r e g)
  where
    go : (t : Bool) → eqb a 46 ≡ t → (lacks_byte 46 r ≡ false → Dotted r) → Dotted (a ∷ r)
    go true h ih =
        let z : a ≡ 46 = eqb-true a 46 h in
        record { at = 0; part = rw (dot_last s r (rw z at e), z); joins = rw z }
    go false h ih =
        let d = ih (rw h at f) in
        record { at = suc d.at; part = rw d.part; joins = ap (λ (t : Text). a ∷ t) d.joins }
