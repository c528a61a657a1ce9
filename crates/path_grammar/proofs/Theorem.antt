-- The theorem that a text is legal exactly if it is the rendering of some path.
use Rattle.std.specs.Prelude.{Option, Some, None}
use mathlib.Core.Path.{◌≡◌, refl, sym, ap, ◌∙◌}
use mathlib.Core.Bool.{Bool, true, false, ◌&&◌, true≢false, false≢true}
use mathlib.Core.List.{List, [], ◌∷◌, ◌++◌, append-nil}
use Prim.Native.Nat.{ℕ, zero, suc}
use lib.Dec.{eqb}
use borrow.Author.Tests.{eqb-true}
use Rattle.text.specs.Text.{Text, ends_with_byte, lacks_byte, drop_last}
use Rattle.text.proofs.BoolLaws.{and_l, and_r, not_true}
use Rattle.text.proofs.UntilLaws.{last_split}
use Rattle.path_grammar.specs.Own.{own_part, target_part, has_property}
use Rattle.path_grammar.specs.Legal.{Slash, run, accept, scan_accepts, legal_own, is_absolute, closes_target, legal_target, legal_within, legal}
use Rattle.path_grammar.specs.Grammar as g
use Rattle.path_grammar.specs.Grammar.{Rendered, LegalIsRendered, prims_text, property_text, own_text, bracket_text, absolute_text, render}
use Rattle.path_grammar.proofs.OwnLaws.{own_parts, property_scan, target_head}
use Rattle.path_grammar.proofs.LegalLaws.{own_scan, own_allowed, own_absolute, absolute_first}
use Rattle.characters.proofs.AllowedLaws.{allowed_ascii}
use Rattle.path_grammar.proofs.RenderLacks.{prims_dotless}
use Rattle.path_grammar.proofs.Render.{legal_render}
use Rattle.path_grammar.proofs.Parse.{RenderedPrims, body}

-- The text s is that of an absolute path with at most d opening brackets.
record RenderedAbsolute (d : ℕ) (s : Text) : Type 0 where
  path : g.Absolute d
  same : absolute_text path ≡ s

-- What follows the first slash of a legal own part.
after_slash_lem : (c b : ℕ) (r : Text) → legal_own (c ∷ b ∷ r) ≡ true → RenderedPrims (b ∷ r)
unfolding scan_accepts
after_slash_lem c b r e =
    let l : scan_accepts (c ∷ b ∷ r) ≡ true = own_scan (c ∷ b ∷ r) e in
    let q : c ≡ 47 = eqb-true c 47 (and_l (eqb c 47) (accept (run Slash (b ∷ r))) l) in
    body (b ∷ r) (and_r (eqb c 47) (accept (run Slash (b ∷ r))) l)
    (sym (allowed_ascii 47 refl (b ∷ r)) ∙ rw q at (own_allowed (c ∷ b ∷ r) e))

-- A legal own part.
own_written : (d : ℕ) (s : Text) → is_absolute s ≡ true → legal_own s ≡ true → RenderedAbsolute d s
unfolding scan_accepts absolute_text own_text
own_written d [] a e = absurd (false≢true a)
own_written d (c ∷ []) a e = let q : c ≡ 47 = eqb-true c 47 a in record { path = g.root; same = cc }
own_written d (c ∷ b ∷ r) a e =
    let q : c ≡ 47 = eqb-true c 47 a in
    let w : RenderedPrims (b ∷ r) = after_slash_lem c b r e in
    record { path = g.prims w.prim w.more w.property; same = ap (λ (x : Text). 47 ∷ x) w.same ∙ ap (λ (x : ℕ). x ∷ b ∷ r) (sym q) }

-- A legal own part with a property.
record RenderedProperty (o : Text) : Type 0 where
  prim : g.Prim
  more : List g.Prim
  property : g.Property
  same : own_text prim more (Some property) ≡ o

property_written : (o : Text) → legal_own o ≡ true → lacks_byte 46 o ≡ false → RenderedProperty o
unfolding lacks_byte own_text
property_written [] e n = absurd (true≢false n)
property_written (c ∷ []) e n = absurd (true≢false (rw (eqb-true c 47 (own_absolute c [] e)) at n))
property_written (c ∷ b ∷ r) e n = go w.property w.same
  where
    q : c ≡ 47
    q = eqb-true c 47 (own_absolute c (b ∷ r) e)

    w : RenderedPrims (b ∷ r)
    w = after_slash_lem c b r e

    go : (x : Option g.Property) → prims_text w.prim w.more ++ property_text x ≡ b ∷ r → RenderedProperty (c ∷ b ∷ r)
    go None k =
        let i : prims_text w.prim w.more ≡ b ∷ r = sym (append-nil (prims_text w.prim w.more)) ∙ k in
        absurd (true≢false (sym (ap (lacks_byte 46) (sym i) ∙ prims_dotless w.prim w.more) ∙ rw q at n))
    go (Some x) k = record { prim = w.prim; more = w.more; property = x; same = ap (λ (y : Text). 47 ∷ y) k ∙ ap (λ (y : ℕ). y ∷ b ∷ r) (sym q) }

-- A path in brackets after a legal own part with a property.
target_written : (d : ℕ) (o t : Text) → RenderedProperty o → RenderedAbsolute d t → RenderedAbsolute (suc d) (o ++ bracket_text t)
unfolding absolute_text
target_written d o t w v =
    record {
      path = g.target w.prim w.more w.property v.path;
      same = ap (λ (x : Text). x ++ bracket_text (absolute_text v.path)) w.same ∙ ap (λ (x : Text). o ++ bracket_text x) v.same;
    }

-- What the target part of a legal path says of the path in the brackets.
record Closed (d : ℕ) (s r : Text) : Type 0 where
  property : has_property s ≡ true
  closed : ends_with_byte 93 r ≡ true
  absolute : is_absolute (drop_last r) ≡ true
  inner : legal_within d (drop_last r) ≡ true

closed_by : (d : ℕ) (s r : Text) → (has_property s && closes_target (λ (t : Text). legal_within d t) r) ≡ true → Closed d s r
unfolding closes_target
closed_by d s r e =
    let i : Bool = is_absolute (drop_last r) && legal_within d (drop_last r) in
    let c : (ends_with_byte 93 r && i) ≡ true = and_r (has_property s) (ends_with_byte 93 r && i) e in
    let k : i ≡ true = and_r (ends_with_byte 93 r) i c in
    record {
      property = and_l (has_property s) (ends_with_byte 93 r && i) e;
      closed = and_l (ends_with_byte 93 r) i c;
      absolute = and_l (is_absolute (drop_last r)) (legal_within d (drop_last r)) k;
      inner = and_r (is_absolute (drop_last r)) (legal_within d (drop_last r)) k;
    }

-- A path with a target, if the path in the brackets is the rendering of one.
with_target_lem : (d : ℕ) (s : Text) → is_absolute s ≡ true → legal_within (suc d) s ≡ true → ((t : Text) → is_absolute t ≡ true → legal_within d t ≡ true → RenderedAbsolute d t)
    → RenderedAbsolute (suc d) s
unfolding legal_within legal_target bracket_text
with_target_lem d s a e deeper = go (target_part s) refl (and_r (legal_own (own_part s)) (legal_target (λ (t : Text). legal_within d t) (has_property s) (target_part s)) e)
  where
    own : legal_own (own_part s) ≡ true
    own = and_l (legal_own (own_part s)) (legal_target (λ (t : Text). legal_within d t) (has_property s) (target_part s)) e

    go : (t : Text) → target_part s ≡ t → legal_target (λ (t : Text). legal_within d t) (has_property s) t ≡ true → RenderedAbsolute (suc d) s
    go [] h k = let i : own_part s ≡ s = sym (append-nil (own_part s)) ∙ rw h at (own_parts s) in own_written (suc d) s a (rw i at own)
    go (b ∷ r) h k =
        let c : Closed d s r = closed_by d s r k in
        let w : RenderedProperty (own_part s) = property_written (own_part s) own (not_true (lacks_byte 46 (own_part s)) (sym (property_scan s) ∙ c.property)) in
        let whole : own_part s ++ (91 ∷ (drop_last r ++ (93 ∷ []))) ≡ s =
        rw (last_split 93 r c.closed) (ap (λ (x : ℕ). own_part s ++ (x ∷ r)) (sym (target_head s b r h)) ∙ rw h at (own_parts s)) in
        rw whole at (target_written d (own_part s) (drop_last r) w (deeper (drop_last r) c.absolute c.inner))

within_written : (d : ℕ) (s : Text) → is_absolute s ≡ true → legal_within d s ≡ true → RenderedAbsolute d s
unfolding legal_within
within_written zero s a e = own_written zero s a e
within_written (suc d) s a e = with_target_lem d s a e (λ t b f. within_written d t b f)

written : (s : Text) → legal s ≡ true → Rendered s
unfolding legal render
written [] e = record { path = g.empty; same = refl }
written (a ∷ r) e =
    let w : RenderedAbsolute 4 (a ∷ r) = within_written 4 (a ∷ r) (absolute_first a r e) e in record { path = g.absolute w.path; same = w.same }

pub legal_is_rendered : LegalIsRendered
legal_is_rendered s = (written s, λ w. rw (← w.same) (legal_render w.path))
