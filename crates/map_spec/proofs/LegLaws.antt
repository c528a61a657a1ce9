-- One leg, out and home: a path that is translated maps back to where it came from, and a path that makes the plain round trip is
-- translated.
use Rattle.std.specs.Prelude.{Option, Some, None}
use mathlib.Core.Path.{◌≡◌, refl}
use mathlib.Core.Logic.{◌↔◌}
use mathlib.Core.Bool.{Bool, true, false, not, cond, false≢true}
use Prim.Native.Nat.{ℕ}
use native.Mathlib.Omega.{arith}
use borrow.Author.Tests.{eqb-true, eq-eqb}
use Rattle.text.specs.Text.{Text, is_nil}
use Rattle.text.proofs.BoolLaws.{and_l, not_true}
use Rattle.text.proofs.TextLaws.{no_text}
use Rattle.path_grammar.specs.Own.{has_variant_selection}
use Rattle.path_grammar.specs.Legal.{legal, at_most255, is_end}
use Rattle.path_prefix.specs.Prefix.{has_prefix}
use Rattle.path_join.specs.Join.{replace_prefix}
use Rattle.path_join.proofs.JoinLaws.{Rel, swap, back, weigh, replaced, still_free}
use Rattle.path_parts.proofs.StripLaws.{strip_same}
use Rattle.pair_list.specs.Pair.{all_ends, no_empty_source}
use Rattle.pair_list.specs.LongestMatch.{matches}
use Rattle.pair_list.proofs.LongestMatchLaws.{IsLongest, SaysLongest, best_says}
use Rattle.refusal.specs.Outcome.{path, checked_option}
use Rattle.map_spec.specs.Map.{Map, map_source, map_target, map_size, map_by, match_source, match_target, map_source_to_target, map_target_to_source, eq_index, require_invertible, translate_to_target}
use Rattle.map_spec.specs.Leg.{translate_checked, map_back_checked, SelectionFreePath, PlainRoundTrip}
use Rattle.map_spec.proofs.OutcomeLaws.{checked_path, path_checked}
use Rattle.map_spec.proofs.EndLaws.{ends_source, ends_target, full_source}

-- A key that matches is not empty; a nonempty prefix matches.
pub matches_full : (p k : Text) → matches p k ≡ true → is_nil k ≡ false
unfolding matches
matches_full p k e = not_true (is_nil k) (and_l (not (is_nil k)) (has_prefix p k) e)

prefix_matches : (p k : Text) → is_nil k ≡ false → has_prefix p k ≡ true → matches p k ≡ true
unfolding matches
prefix_matches p k n h = rw (n, h)

-- The pair that maps p to q has a nonempty target.
by_target : (m : Map) (a b : ℕ → Text) (p q : Text) (i : ℕ) → map_by m a b p (Some i) ≡ Some q → is_nil (map_target m i) ≡ false
by_target m a b p q i e = go (is_nil (map_target m i)) e
  where
    go : (t : Bool) → cond t None (replace_prefix p (a i) (b i)) ≡ Some q → t ≡ false
    go true e = absurd (no_text e)
    go false e = refl

-- The pair that maps p to q relates them, in the sense of `Rel`.
by_rel : (m : Map) (a b : ℕ → Text) (p q : Text) (n i : ℕ) → ((k : ℕ) → is_end (a k) ≡ true) → ((k : ℕ) → is_end (b k) ≡ true)
    → legal p ≡ true → has_variant_selection p ≡ false → IsLongest (matches p) a n i → map_by m a b p (Some i) ≡ Some q → legal q ≡ true → Rel (a i) (b i) p q
by_rel m a b p q n i ea eb lp f c e lq =
    replaced p (a i) (b i) q (matches_full p (a i) c.does_pass) (ea i) (eb i) lp f (rw (by_target m a b p q i e) at e) lq

-- Without a pair, the mark yields the path, unchanged.
by_mark_lem : (m : Map) (a b : ℕ → Text) (p q : Text) → map_by m a b p None ≡ Some q → (m.mark ≡ true) × (q ≡ p)
by_mark_lem m a b p q e = go m.mark refl e
  where
    go : (t : Bool) → m.mark ≡ t → cond t (Some p) None ≡ Some q → (m.mark ≡ true) × (q ≡ p)
    go true h e = (h, cc)
    go false h e = absurd (no_text e)

module _ (m : Map) (p q : Text) (em : all_ends m.pairs ≡ true) (lp : legal p ≡ true) (fp : has_variant_selection p ≡ false) (lq : legal q ≡ true) where
  es : (i : ℕ) → is_end (map_source m i) ≡ true
  es i = ends_source m.pairs em i

  et : (i : ℕ) → is_end (map_target m i) ≡ true
  et i = ends_target m.pairs em i

  -- The pair that maps p out relates p and q, and matches q on the way home.
  out_rel : (i : ℕ) → IsLongest (matches p) (map_source m) (map_size m) i → map_by m (map_source m) (map_target m) p (Some i) ≡ Some q → Rel (map_source m i) (map_target m i) p q
  out_rel i f e = by_rel m (map_source m) (map_target m) p q (map_size m) i es et lp fp f e lq

  out_matches : (i : ℕ) → IsLongest (matches p) (map_source m) (map_size m) i → map_by m (map_source m) (map_target m) p (Some i) ≡ Some q → matches q (map_target m i) ≡ true
  out_matches i f e = prefix_matches q (map_target m i) (by_target m (map_source m) (map_target m) p q i e) (back (swap (out_rel i f e)) (et i) (es i)).0

  -- That pair maps q back.
  leg_back : (o o' : Option ℕ) → SaysLongest (matches p) (map_source m) (map_size m) o → map_by m (map_source m) (map_target m) p o ≡ Some q → eq_index o o' ≡ true
      → (map_by m (map_target m) (map_source m) q o' ≡ Some p) × (has_variant_selection q ≡ false)
  leg_back None None f e s =
      let k = by_mark_lem m (map_source m) (map_target m) p q e in
      rw (k.0, k.1) (refl, fp)
  leg_back None (Some j) f e s = absurd (false≢true s)
  leg_back (Some i) None f e s = absurd (false≢true s)
  leg_back (Some i) (Some j) f e s =
      let r = out_rel i f e in
      rw (← (eqb-true i j s), by_target m (map_source m) (map_target m) p q i e) ((back (swap r) (et i) (es i)).1, still_free r (es i) (et i) fp)

  -- The pair that maps q home relates p and q too.
  home_rel : (j : ℕ) → has_variant_selection q ≡ false → IsLongest (matches q) (map_target m) (map_size m) j → map_by m (map_target m) (map_source m) q (Some j) ≡ Some p
      → Rel (map_source m j) (map_target m j) p q
  home_rel j fq g h = swap (by_rel m (map_target m) (map_source m) q p (map_size m) j et es lq fq g h lp)

  module _ (full : no_empty_source m.pairs ≡ true) where
    -- If no source is empty, the pair that maps q home matches p on the way out.
    home_matches : (j : ℕ) → has_variant_selection q ≡ false → IsLongest (matches q) (map_target m) (map_size m) j → map_by m (map_target m) (map_source m) q (Some j) ≡ Some p
        → matches p (map_source m j) ≡ true
    home_matches j fq g h =
        prefix_matches p (map_source m j) (full_source m.pairs full j g.in_range_lem) (back (home_rel j fq g h) (es j) (et j)).0

    -- So the two pairs are the same.
    leg_same : (o o' : Option ℕ) → SaysLongest (matches p) (map_source m) (map_size m) o → SaysLongest (matches q) (map_target m) (map_size m) o'
        → map_by m (map_source m) (map_target m) p o ≡ Some q → map_by m (map_target m) (map_source m) q o' ≡ Some p → eq_index o o' ≡ true
    leg_same None None f g e h = refl
    leg_same None (Some j) f g e h =
        let k = by_mark_lem m (map_source m) (map_target m) p q e in
        absurd (f j g.in_range_lem (home_matches j (rw k.1 fp) g h))
    leg_same (Some i) None f g e h = absurd (g i f.in_range_lem (out_matches i f e))
    leg_same (Some i) (Some j) f g e h =
        let r = out_rel i f e in
        let fq = still_free r (es i) (et i) fp in
        let sp = home_matches j fq g h in
        let sq = out_matches i f e in
        let w = weigh true r (es i) (et i) in
        let w' = weigh true (home_rel j fq g h) (es j) (et j) in
        let a = f.most j g.in_range_lem sp in
        let b = g.most i f.in_range_lem sq in
        let c = f.last j g.in_range_lem sp (omega arith) in
        let d = g.last i f.in_range_lem sq (omega arith) in
        eq-eqb i j (omega arith)

-- A path that passes the invertibility check was plainly mapped, and mapping it back selects the same pair.
pub invertible_some : (m : Map) (i : Option ℕ) (o : Option Text) (q : Text) → require_invertible m i o ≡ Some q → (o ≡ Some q) × (eq_index i (match_target m q) ≡ true)
unfolding require_invertible
invertible_some m i None q e = absurd (no_text e)
invertible_some m i (Some r) q e = go (eq_index i (match_target m r)) refl e
  where
    go : (b : Bool) → eq_index i (match_target m r) ≡ b → cond b (Some r) None ≡ Some q → (Some r ≡ Some q) × (eq_index i (match_target m q) ≡ true)
    go true h e = let z : r ≡ q = cc in (e, rw z at h)
    go false h e = absurd (no_text e)

-- The leg as a whole.
module _ (m : Map) (em : all_ends m.pairs ≡ true) (p q : Text) (c : SelectionFreePath p) where
  opened : translate_checked m p ≡ checked_option (require_invertible m (match_source m p) (map_source_to_target m p))
  unfolding translate_checked translate_to_target
  opened = rw (strip_same p c.is_plain)

  kept : translate_checked m p ≡ path q → (require_invertible m (match_source m p) (map_source_to_target m p) ≡ Some q) × (at_most255 q ≡ true) × (legal q ≡ true)
  kept e = checked_path (require_invertible m (match_source m p) (map_source_to_target m p)) q (rw opened at e)

  returns : translate_checked m p ≡ path q → (map_target_to_source m q ≡ Some p) × (has_variant_selection q ≡ false)
  unfolding map_source_to_target map_target_to_source match_source
  returns e =
      let k = kept e in
      let s = invertible_some m (match_source m p) (map_source_to_target m p) q k.0 in
      leg_back m p q em c.is_legal c.is_plain k.2 (match_source m p) (match_target m q) (best_says p (map_source m) (map_size m)) s.0 s.1

  -- A path that is translated is plainly mapped, and plainly maps back to where it came from.
  pub leg_out : translate_checked m p ≡ path q → PlainRoundTrip m p q
  leg_out e =
      let k = kept e in
      record { out = (invertible_some m (match_source m p) (map_source_to_target m p) q k.0).0; is_legal = k.2; is_short = k.1; back = (returns e).0 }

  -- The translated path is again legal, of at most 255 bytes and without selections.
  pub leg_next : translate_checked m p ≡ path q → SelectionFreePath q
  leg_next e = let k = kept e in record { is_legal = k.2; is_short = k.1; is_plain = (returns e).1 }

  -- The leg home maps it to the path that went out.
  pub leg_home : translate_checked m p ≡ path q → map_back_checked m q ≡ path p
  unfolding map_back_checked
  leg_home e = rw (returns e).0 (path_checked p c.is_short c.is_legal)

  -- If no source is empty, a path that makes the plain round trip is translated.
  pub leg_comes : no_empty_source m.pairs ≡ true → PlainRoundTrip m p q → translate_checked m p ≡ path q
  unfolding map_source_to_target map_target_to_source require_invertible match_source match_target
  leg_comes full o =
      let f = best_says p (map_source m) (map_size m) in
      let g = best_says q (map_target m) (map_size m) in
      let s = leg_same m p q em c.is_legal c.is_plain o.is_legal full (match_source m p) (match_target m q) f g o.out o.back in
      rw (opened, o.out, s) (path_checked q o.is_short o.is_legal)

  -- So the leg yields a path exactly if the path makes the plain round trip.
  pub leg_exact : no_empty_source m.pairs ≡ true → (translate_checked m p ≡ path q) ↔ PlainRoundTrip m p q
  leg_exact full = (leg_out, leg_comes full)
