-- Lemmas for the branches of `ends_at_boundary` and `has_prefix`.
use Rattle.std.specs.Prelude.{Option, Some, None}
use Rattle.std.specs.Option.{is_some}
use mathlib.Core.Path.{◌≡◌, refl, sym}
use mathlib.Core.Bool.{Bool, true, false, ◌&&◌}
use Prim.Native.Nat.{◌≤◌, ◌<◌}
use lib.ListN.{length, get_or, drop, drop_of_length-le}
use lib.Seq.{drop-cons, drop-append_seam}
use Rattle.text.specs.Text.{Text, strip_prefix, starts_with}
use Rattle.text.proofs.BoolLaws.{and_no, and_yes, told}
use Rattle.text.proofs.TextLaws.{after_up}
use Rattle.path_prefix.specs.Prefix.{is_boundary, can_follow, can_follow_some, has_prefix}

module _ (p s : Text) where
  pub bounded_end : length p ≤ length s → true ≡ can_follow s (drop (length s) p)
  unfolding can_follow
  bounded_end l = rw (drop_of_length-le p l)

  pub bounded_at : (r : Bool) → length s < length p → r ≡ is_boundary s (get_or p (length s) 0) → r ≡ can_follow s (drop (length s) p)
  unfolding can_follow
  bounded_at r l j = rw (drop-cons p (length s) 0 l) j

  in_parts : has_prefix p s ≡ (can_follow s (drop (length s) p) && starts_with s p)
  unfolding has_prefix starts_with
  in_parts = go (strip_prefix s p) refl
    where
      go : (o : Option Text) → strip_prefix s p ≡ o → can_follow_some s o ≡ (can_follow s (drop (length s) p) && is_some o)
      go None e = sym (and_no (can_follow s (drop (length s) p)))
      go (Some r) e = rw (after_up s p r e, drop-append_seam s r) (sym (and_yes (can_follow s r)))

  pub prefix_not : (b : Bool) → b ≡ can_follow s (drop (length s) p) → b ≡ false → false ≡ has_prefix p s
  prefix_not b h k = rw (in_parts, told h k)

  pub prefix_starts : (b r : Bool) → b ≡ can_follow s (drop (length s) p) → b ≡ true → r ≡ starts_with s p → r ≡ has_prefix p s
  prefix_starts b r h k j = rw (in_parts, told h k) j
