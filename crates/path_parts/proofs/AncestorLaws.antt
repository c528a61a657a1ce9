-- The ancestors of legal paths: they are legal, they end at `/` or the empty path, and there are at most 128 of them.
use Rattle.std.specs.Prelude.{Option, Some, None}
use mathlib.Core.Path.{◌≡◌, refl, sym, ap, ◌∙◌}
use mathlib.Core.Bool.{Bool, true, false, cond, true≢false, false≢true}
use mathlib.Core.List.{List, [], ◌∷◌, ◌++◌}
use Prim.Native.Nat.{ℕ, zero, suc, ◌+◌, ◌-◌, ◌*◌, ◌≤◌, ◌<◌}
use native.Mathlib.Omega.{arith}
use lib.Dec.{eqb}
use lib.ListN.{length, get_or, take, length-take, length-map, length-append}
use Rattle.text.specs.Text.{Text, is_nil}
use Rattle.path_grammar.specs.Legal.{ScanState, Slash, Name, Opened, Set, Equals, Sel, Closed, Dot, Prop, Dead, is_name_start_byte, is_name_byte, is_variant_byte, starts_name, step, run, accept, scan_accepts, legal_own, legal}
use Rattle.path_grammar.specs.Own.{own_part, target_part}
use Rattle.path_grammar.proofs.OwnLaws.{own_parts}
use Rattle.path_grammar.proofs.LegalLaws.{own_scan, scan_no_close_bracket, empty_legal, absolute_first, legal_own_part, own_is, target_closed, target_long}
use Rattle.text.proofs.BoolLaws.{and_no, or_right}
use Rattle.path_parts.specs.Parent.{starts_part, last_part_start, own_parent_len, parent_len, has_parent, parent, ancestors_from, ancestors_within, ancestors, ancestor_lens}
use Rattle.path_parts.proofs.ReadLaws.{Shape, empty, root, below, shape, closes}
use Rattle.path_parts.proofs.LastLaws.{Last, here, after, beyond, last, begins_byte, after_byte, after_name_lem, may_end, last_legal, before, slash_len}
use Rattle.path_parts.proofs.ParentLaws.{parent_take, parent_less, parent_closed, unclosed_len}

-- One step.
pub ancestors_none : (k : ℕ) (p : Text) → has_parent p ≡ false → ancestors_within k p ≡ p ∷ []
unfolding ancestors_within
ancestors_none zero p e = refl
ancestors_none (suc k) p e = rw e

pub ancestors_some : (k : ℕ) (p : Text) → has_parent p ≡ true → ancestors_within (suc k) p ≡ p ∷ ancestors_within k (take (parent_len p) p)
unfolding ancestors_within
ancestors_some k p e = rw e

pub ancestors_least : (p : Text) → ancestors_within 0 p ≡ p ∷ []
unfolding ancestors_within
ancestors_least p = refl

-- There is one length for each ancestor.
pub lens_count : (p : Text) → length (ancestor_lens p) ≡ length (ancestors p)
unfolding ancestor_lens
lens_count p = length-map (ancestors p) length

-- Every ancestor of a legal path is legal.
in_legal : (k : ℕ) (p : Text) (i : ℕ) → legal p ≡ true → legal (get_or (ancestors_within k p) i []) ≡ true
unfolding ancestors_within
in_legal zero p zero e = e
in_legal zero p (suc i) e = empty_legal
in_legal (suc k) p zero e = e
in_legal (suc k) p (suc i) e = go (has_parent p) refl (λ q. in_legal k q i)
  where
    go : (t : Bool) → has_parent p ≡ t → ((q : Text) → legal q ≡ true → legal (get_or (ancestors_within k q) i []) ≡ true)
        → legal (get_or (ancestors_within (suc k) p) (suc i) []) ≡ true
    go true h ih = rw h (ih (take (parent_len p) p) (parent_take p e))
    go false h ih = rw h empty_legal

pub ancestors_legal : (p : Text) (i : ℕ) → legal p ≡ true → legal (get_or (ancestors p) i []) ≡ true
unfolding ancestors
ancestors_legal p i e = in_legal (length p - 1) p i e

-- The last ancestor has no parent: it is `/` or empty.
abbrev pub furthest : List Text → Text
furthest l = get_or l (length l - 1) []

furthest_on : (x : Text) (k : ℕ) (q : Text) → furthest (x ∷ ancestors_within k q) ≡ furthest (ancestors_within k q)
unfolding ancestors_within
furthest_on x zero q = refl
furthest_on x (suc k) q = go (ancestors_from (λ (t : Text). ancestors_within k t) (parent q))
  where
    go : (l : List Text) → furthest (x ∷ q ∷ l) ≡ furthest (q ∷ l)
    go l =
        let m : suc (suc (length l)) - 1 ≡ suc (length l) = omega arith in
        let n : suc (length l) - 1 ≡ length l = omega arith in
        rw (m, n)

pub legal_long : (p : Text) → legal p ≡ true → has_parent p ≡ true → 1 < length p
legal_long [] e h = absurd (false≢true h)
legal_long (a ∷ []) e h = absurd (true≢false (sym h ∙ rw (absolute_first a [] e)))
legal_long (a ∷ b ∷ r) e h = omega arith

in_end : (k : ℕ) (p : Text) → legal p ≡ true → length p - 1 ≤ k → has_parent (furthest (ancestors_within k p)) ≡ false
in_end zero p e l = go (has_parent p) refl
  where
    go : (t : Bool) → has_parent p ≡ t → has_parent (furthest (ancestors_within 0 p)) ≡ false
    go true h = absurd (omega (arith, legal_long p e h))
    go false h = rw (ancestors_none 0 p h) h
in_end (suc k) p e l = go (has_parent p) refl (λ q. in_end k q)
  where
    q : Text
    q = take (parent_len p) p

    go : (t : Bool) → has_parent p ≡ t → ((q : Text) → legal q ≡ true → length q - 1 ≤ k → has_parent (furthest (ancestors_within k q)) ≡ false)
        → has_parent (furthest (ancestors_within (suc k) p)) ≡ false
    go true h ih = rw (ancestors_some k p h, furthest_on p k q) (ih q (parent_take p e) (omega (arith, parent_less p e h)))
    go false h ih = rw (ancestors_none (suc k) p h) h

pub ancestors_end : (p : Text) → legal p ≡ true → parent (furthest (ancestors p)) ≡ None
unfolding ancestors parent
ancestors_end p e = rw (in_end (length p - 1) p e (omega arith))

-- A weight for each state, which grows by at most one at each byte.
abbrev weight : ScanState → ℕ
weight Slash = 0
weight Name = 1
weight Opened = 0
weight Set = 0
weight Equals = 0
weight Sel = 1
weight Closed = 2
weight Dot = 0
weight Prop = 1
weight Dead = 0

either_light : (b : Bool) (x y : ScanState) (n : ℕ) → weight x ≤ n → weight y ≤ n → weight (cond b x y) ≤ n
either_light true x y n h k = h
either_light false x y n h k = k

open_light : (a n : ℕ) → weight (cond (eqb a 123) Opened (cond (eqb a 46) Dot Dead)) ≤ n
open_light a n = either_light (eqb a 123) Opened _ n (omega arith) (either_light (eqb a 46) Dot Dead n (omega arith) (omega arith))

closed_light : (a : ℕ) → weight (step Closed a) ≤ 1
unfolding step
closed_light a = either_light (is_name_start_byte a) Name _ 1 (omega arith) (open_light a 1)

weight_step : (s : ScanState) (a : ℕ) → weight (step s a) ≤ suc (weight s)
unfolding step
weight_step Slash a = either_light (is_name_start_byte a) Name Dead 1 (omega arith) (omega arith)
weight_step Name a =
    either_light (is_name_byte a) Name _ 2 (omega arith) (either_light (eqb a 47) Slash _ 2 (omega arith) (open_light a 2))
weight_step Opened a = either_light (is_name_start_byte a) Set Dead 1 (omega arith) (omega arith)
weight_step Set a = either_light (is_name_byte a) Set _ 1 (omega arith) (either_light (eqb a 61) Equals Dead 1 (omega arith) (omega arith))
weight_step Equals a = either_light (is_variant_byte a) Sel Dead 1 (omega arith) (omega arith)
weight_step Sel a = either_light (is_variant_byte a) Sel _ 2 (omega arith) (either_light (eqb a 125) Closed Dead 2 (omega arith) (omega arith))
weight_step Closed a = omega (arith, closed_light a)
weight_step Dot a = either_light (is_name_start_byte a) Prop Dead 1 (omega arith) (omega arith)
weight_step Prop a = either_light (is_name_byte a) Prop _ 2 (omega arith) (either_light (eqb a 58) Dot Dead 2 (omega arith) (omega arith))
weight_step Dead a = omega arith

weight_run : (s : ScanState) (r : Text) → weight (run s r) ≤ weight s + length r
unfolding run
weight_run s [] = omega arith
weight_run s (a ∷ r) = omega (arith, weight_step s a, weight_run (step s a) r)

accept_weight : (s : ScanState) → accept s ≡ true → 1 ≤ weight s
unfolding accept
accept_weight Slash e = absurd (false≢true e)
accept_weight Name e = omega arith
accept_weight Opened e = absurd (false≢true e)
accept_weight Set e = absurd (false≢true e)
accept_weight Equals e = absurd (false≢true e)
accept_weight Sel e = absurd (false≢true e)
accept_weight Closed e = omega arith
accept_weight Dot e = absurd (false≢true e)
accept_weight Prop e = omega arith
accept_weight Dead e = absurd (false≢true e)

-- A byte that begins a part leads to a state of weight 0.
module _ (a : ℕ) (start : is_name_start_byte a ≡ false) (cont : is_name_byte a ≡ false) (variant : is_variant_byte a ≡ false) (close : eqb a 125 ≡ false) where
  mark_light : (s : ScanState) → weight (step s a) ≤ 0
  unfolding step
  mark_light Slash = rw start (omega arith)
  mark_light Name = rw cont (either_light (eqb a 47) Slash _ 0 (omega arith) (open_light a 0))
  mark_light Opened = rw start (omega arith)
  mark_light Set = rw cont (either_light (eqb a 61) Equals Dead 0 (omega arith) (omega arith))
  mark_light Equals = rw variant (omega arith)
  mark_light Sel = rw (variant, close) (omega arith)
  mark_light Closed = rw start (open_light a 0)
  mark_light Dot = rw start (omega arith)
  mark_light Prop = rw cont (either_light (eqb a 58) Dot Dead 0 (omega arith) (omega arith))
  mark_light Dead = omega arith

begins_light : (s : ScanState) (a : ℕ) (r : Text) → starts_part a r ≡ true → weight (step s a) ≤ 0
unfolding is_name_start_byte is_name_byte is_variant_byte
begins_light s =
    begins_byte (λ (a : ℕ). weight (step s a) ≤ 0) (mark_light 47 refl refl refl refl s) (mark_light 123 refl refl refl refl s) (mark_light 46 refl refl refl refl s)

-- After a selection, a text that begins with a name leads to a weight of at most its length.
closed_run : (r : Text) → starts_name r ≡ true → weight (run Closed r) ≤ length r
unfolding run
closed_run [] e = absurd (false≢true e)
closed_run (a ∷ r) e = omega (arith, closed_light a, weight_run (step Closed a) r)

-- So, measured by this weight, each parent of a legal path is shorter by two.
falls : (s : ScanState) {r : Text} {k : ℕ} → Last r k → accept (run s r) ≡ true → k + 2 + weight (run s r) ≤ length r + weight (run s (take k r))
unfolding run
falls s (here a r b) e = omega (arith, weight_run (step s a) r, begins_light s a r b, accept_weight s (may_end s a r b e))
falls s (after a r b) e =
    let z : a ≡ 125 = after_byte a r b in
    let c : step s a ≡ Closed = rw z (closes s r (rw z at e)) in
    rw c (omega (arith, closed_run r (after_name_lem a r b)))
falls s (beyond a l) e = omega (arith, falls (step s a) l e)

below_accepted : (r : Text) → accept (run Slash r) ≡ true → scan_accepts (47 ∷ r) ≡ true
unfolding scan_accepts
below_accepted r e = or_right (is_nil r) (accept (run Slash r)) e

slash_parent : (r : Text) → accept (run Slash r) ≡ true → has_parent (47 ∷ r) ≡ true
unfolding run accept
slash_parent [] e = absurd (false≢true e)
slash_parent (b ∷ r) e = refl

-- Without brackets.
in_most : (k : ℕ) (r : Text) → accept (run Slash r) ≡ true → 2 * length (ancestors_within k (47 ∷ r)) + weight (run Slash r) ≤ length r + 4
in_most zero r e = rw (ancestors_least (47 ∷ r)) (omega (arith, weight_run Slash r))
in_most (suc k) r e = go (last_part_start r) refl (λ x. in_most k x)
  where
    onwards : (o : Option ℕ) → last_part_start r ≡ o → ancestors_within (suc k) (47 ∷ r) ≡ (47 ∷ r) ∷ ancestors_within k (47 ∷ take (before o) r)
    onwards o h =
        let n : parent_len (47 ∷ r) ≡ own_parent_len (47 ∷ r) = unclosed_len (47 ∷ r) (scan_no_close_bracket (47 ∷ r) (below_accepted r e)) in
        ancestors_some k (47 ∷ r) (slash_parent r e) ∙ rw (n, slash_len r e, h)

    go : (o : Option ℕ) → last_part_start r ≡ o
        → ((x : Text) → accept (run Slash x) ≡ true → 2 * length (ancestors_within k (47 ∷ x)) + weight (run Slash x) ≤ length x + 4)
        → 2 * length (ancestors_within (suc k) (47 ∷ r)) + weight (run Slash r) ≤ length r + 4
    go None h ih = rw (onwards None h, ancestors_none k (47 ∷ []) refl) (omega (arith, weight_run Slash r))
    go (Some j) h ih =
        let l = last r j h in
        rw (onwards (Some j) h) (omega (arith, ih (take j r) (last_legal Slash l e), falls Slash l e, length-take j r))

own_most : (k : ℕ) (p : Text) → legal_own p ≡ true → 2 * length (ancestors_within k p) ≤ length p + 2
own_most k p e = go (shape p (own_scan p e))
  where
    go : {q : Text} → Shape q → 2 * length (ancestors_within k q) ≤ length q + 2
    go empty = rw (ancestors_none k [] refl) (omega arith)
    go root = rw (ancestors_none k (47 ∷ []) refl) (omega arith)
    go (below r f) = omega (arith, in_most k r f, accept_weight (run Slash r) f)

-- A target part is one more ancestor, and three bytes more.
target_most : (k : ℕ) (p : Text) → legal p ≡ true → (a : ℕ) (r : Text) → target_part p ≡ a ∷ r → 2 * length (ancestors_within k p) ≤ length p + 2
target_most zero p e a r h = rw (ancestors_least p) (omega arith)
target_most (suc k) p e a r h =
    let w : own_part p ++ a ∷ r ≡ p = rw h at (own_parts p) in
    let l : 2 ≤ length r = target_long p e a r h in
    rw (ancestors_some k p (long p (omega (arith, length-append (own_part p) (a ∷ r), ap length w))), parent_closed p e (target_closed p e a r h))
    (omega (arith, own_most k (own_part p) (legal_own_part p e), length-append (own_part p) (a ∷ r), ap length w))
  where
    long : (q : Text) → 3 ≤ length q → has_parent q ≡ true
    long [] n = absurd (omega arith)
    long (b ∷ []) n = absurd (omega arith)
    long (b ∷ c ∷ q) n = rw (and_no (eqb b 47))

-- A legal path has at most 128 ancestors, including itself.
pub ancestors_most : (p : Text) → legal p ≡ true → length p ≤ 255 → length (ancestors p) ≤ 128
unfolding ancestors
ancestors_most p e l = go (target_part p) refl
  where
    go : (t : Text) → target_part p ≡ t → length (ancestors_within (length p - 1) p) ≤ 128
    go [] h = omega (arith, own_most (length p - 1) p (rw (own_is p h) at (legal_own_part p e)))
    go (a ∷ r) h = omega (arith, target_most (length p - 1) p e a r h)
