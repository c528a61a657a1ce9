-- Lemmas for the branches of the functions.
use Rattle.std.specs.Option.{unwrap_or}
use Rattle.std.specs.Prelude.{Ok, Err, Option, Some, None}
use mathlib.Core.Path.{◌≡◌, refl, sym, ap, ◌∙◌}
use mathlib.Core.Logic.{◌≢◌}
use mathlib.Core.Bool.{Bool, true, false, cond}
use mathlib.Core.List.{[], ◌∷◌, ◌++◌, append_assoc}
use Prim.Native.Nat.{ℕ, suc, ◌+◌, ◌-◌, ◌≤◌, ◌<◌}
use native.Mathlib.Nat.{zero-add}
use native.Mathlib.Numerals.{add-one}
use native.Mathlib.Omega.{arith}
use lib.Dec.{eqb}
use lib.ListN.{length, take, drop, get_or, drop_of_length-le, length-append, length-drop}
use lib.Seq.{drop-cons, length-take-le, take-append-add, drop-append-add}
use borrow.Author.Tests.{ne_eqb, lt-ltb, le-ltb, le-leb, lt-leb}
use Rattle.text.specs.Text.{Text, take_until, written, written_if_fits}
use Rattle.text.proofs.UntilLaws.{take_until_length, drop_until_slice}
use Rattle.text.proofs.WriteLaws.{rest_whole, placed_first, placed_next}
use Rattle.path_grammar.specs.Own.{own_part, target_part}
use Rattle.path_grammar.proofs.OwnLaws.{own_parts}
use Rattle.path_target.specs.Target.{bracket_depth, close_len, closed_at, has_target, target_brackets, embedded_target, or_empty, replace_embedded_target, replaced_reply, replaced_buffer}
use Rattle.path_target.proofs.TargetLaws.{HasBrackets, parts_length, brackets_of, embedded_some, embedded_none, replaced_some, replaced_none}
use Rattle.refusal.specs.declared.Refusal.TheVariants.{MadeTooLong, NoPath}

-- Lemmas for `depth_after`.
module _ (d a : ℕ) where
  -- One byte opens at most one bracket.
  depth_step : bracket_depth d a ≤ d + 1
  unfolding bracket_depth
  depth_step = go (eqb a 91) (eqb a 93)
    where
      go : (x y : Bool) → cond x (suc d) (cond y (d - 1) d) ≤ d + 1
      go true y = omega arith
      go false true = omega arith
      go false false = omega arith

-- Lemmas for `close_len`: i bytes are read, d brackets are open, and the byte sought is as far from there as in the rest.
pub Reached : Text → ℕ → ℕ → Type 0
Reached p d i = close_len 0 p ≡ i + close_len d (drop i p)

module _ (p : Text) where
  pub close_first : Reached p 0 0
  unfolding Reached
  close_first = omega arith

  pub close_end : (d i : ℕ) → length p ≤ i → Reached p d i → i ≡ close_len 0 p
  unfolding Reached close_len
  close_end d i h e = omega (arith, rw (drop_of_length-le p h) at e)

  module _ (d i n : ℕ) (h : i < length p) (k : n ≡ bracket_depth d (get_or p i 0)) (e : Reached p d i) where
    read : close_len 0 p ≡ i + close_len d (get_or p i 0 ∷ drop (suc i) p)
    unfolding Reached
    read = rw (drop-cons p i 0 h) at e

    pub close_here : n ≡ 0 → i ≡ close_len 0 p
    unfolding close_len
    close_here z = omega (arith, rw (← k, z) at read)

    pub close_on : n ≢ 0 → Reached p n (i + 1)
    unfolding Reached close_len
    close_on z = rw (add-one i) (omega (arith, rw (← k, ne_eqb n 0 z) at read))

  pub depth_bound : (d i n : ℕ) → n ≡ bracket_depth d (get_or p i 0) → d ≤ i → n ≤ i + 1
  depth_bound d i n k l = omega (arith, depth_step d (get_or p i 0))

pub ruleset closing = (close_first, close_end, close_here, close_on, depth_bound)

-- Lemmas for `target_brackets`.
module _ (p : Text) (o : ℕ) (h : o ≡ length (take_until 91 p)) where
  pub open_inside : o ≤ length p
  open_inside = rw h (take_until_length 91 p)

  open_own : o ≡ length (own_part p)
  unfolding own_part
  open_own = h

  open_part : take (length p - o) (drop o p) ≡ target_part p
  unfolding target_part
  open_part = rest_whole p o ∙ rw h (drop_until_slice 91 p)

  module _ (n : ℕ) (k : n ≡ close_len 0 (take (length p - o) (drop o p))) where
    open_closed : n ≡ closed_at p
    unfolding closed_at
    open_closed = rw open_part at k

    pub brackets_none : length p - o ≤ n → None ≡ target_brackets p
    unfolding target_brackets has_target
    brackets_none l =
        rw (le-ltb (closed_at p) (length (target_part p)) (omega (arith, parts_length p, open_own, open_closed)))

    pub brackets_some : n < length p - o → Some (o, o + n) ≡ target_brackets p
    unfolding target_brackets has_target
    brackets_some l =
        rw (lt-ltb (closed_at p) (length (target_part p)) (omega (arith, parts_length p, open_own, open_closed)), open_own, open_closed)

pub ruleset brackets = (open_inside, brackets_none, brackets_some)

-- Three texts written one after the other.
three_written : (x y z out : Text) (n : ℕ) → n ≡ length x → length (x ++ (y ++ z)) ≤ length out
    → written_if_fits (n + length y) z (written_if_fits n y (written_if_fits 0 x out)) ≡ written_if_fits 0 (x ++ (y ++ z)) out
three_written x y z out n e l =
    let k : length (x ++ (y ++ z)) ≡ length x + (length y + length z) = length-append x (y ++ z) ∙ ap (λ (m : ℕ). length x + m) (length-append y z) in
    let first : written_if_fits 0 x out ≡ written x out = placed_first x out (omega arith) in
    let next : written_if_fits (length x) y (written x out) ≡ written (x ++ y) out = placed_next x y out (omega arith) in
    let i : length (x ++ y) ≡ length x + length y = length-append x y in
    let last : written_if_fits (length (x ++ y)) z (written (x ++ y) out) ≡ written ((x ++ y) ++ z) out = placed_next (x ++ y) z out (omega arith) in
    let whole : written ((x ++ y) ++ z) out ≡ written_if_fits 0 (x ++ (y ++ z)) out =
    ap (λ (t : Text). written t out) (append_assoc x y z) ∙ sym (placed_first (x ++ (y ++ z)) out l) in
    rw (e, first, next, ← i) (last ∙ whole)

-- What the brackets that were found say of the path.
module _ (p : Text) (b : Option (ℕ × ℕ)) (h : b ≡ target_brackets p) where
  pub target_absent : b ≡ None → has_target p ≡ false
  unfolding target_brackets
  target_absent e = go (has_target p) refl
    where
      go : (x : Bool) → has_target p ≡ x → x ≡ false
      go true k =
          absurd (let z : Some (length (own_part p), length (own_part p) + closed_at p) ≡ None = rw k at (sym h ∙ e) in let y : ◌≡◌ {A = ℕ} 0 1 = cc in omega arith)
      go false k = refl

  pub text_absent : b ≡ None → [] ≡ or_empty (embedded_target p)
  text_absent e = rw (embedded_none p (target_absent e))

  pub replaced_nothing : b ≡ None → (t out : Text)
      → ((Err NoPath) ≡ replaced_reply (replace_embedded_target p t) out) × (out ≡ replaced_buffer (replace_embedded_target p t) out)
  unfolding replaced_reply replaced_buffer
  replaced_nothing e t out = rw (replaced_none p t (target_absent e)) (refl, refl)

  module _ (o c : ℕ) (e : b ≡ Some (o, c)) where
    found : (has_target p ≡ true) × ((o ≡ length (own_part p)) × (c ≡ length (own_part p) + closed_at p))
    unfolding target_brackets
    found = go (has_target p) refl
      where
        go : (x : Bool) → has_target p ≡ x → (x ≡ true) × ((o ≡ length (own_part p)) × (c ≡ length (own_part p) + closed_at p))
        go true k =
            let z : Some (length (own_part p), length (own_part p) + closed_at p) ≡ Some (o, c) = rw k at (sym h ∙ e) in
            let places : Option (ℕ × ℕ) → ℕ × ℕ = λ (w : Option (ℕ × ℕ)). unwrap_or w (0, 0) in
            let i : length (own_part p) ≡ o = ap (λ (w : Option (ℕ × ℕ)). (places w).0) z in
            let j : length (own_part p) + closed_at p ≡ c = ap (λ (w : Option (ℕ × ℕ)). (places w).1) z in
            (refl, (sym i, sym j))
        go false k = absurd (let z : None ≡ Some (o, c) = rw k at (sym h ∙ e) in let y : ◌≡◌ {A = ℕ} 0 1 = cc in omega arith)

    known : HasBrackets p
    known = brackets_of p found.0

    at_open : o ≡ length (own_part p)
    at_open = found.1.0

    at_close : c ≡ length (own_part p) + closed_at p
    at_close = found.1.1

    pub between_start : o + 1 ≤ c
    between_start = omega (arith, at_open, at_close, known.closes)

    pub between_end : c ≤ length p
    between_end = omega (arith, at_close, known.inside, parts_length p)

    pub open_fits : o + 1 ≤ length p
    open_fits = omega (arith, between_start, between_end)

    pub kept_sum : o + 1 + (length p - c) ≤ length p
    kept_sum = omega (arith, between_start, between_end)

    parts : own_part p ++ 91 ∷ known.rest ≡ p
    parts = rw known.starts at (own_parts p)

    -- The text between the brackets.
    pub text_between : take (c - (o + 1)) (drop (o + 1) p) ≡ or_empty (embedded_target p)
    text_between =
        let n : ℕ = close_len 1 known.rest in
        let i : c - (o + 1) ≡ n = omega (arith, at_open, at_close, known.closes) in
        let j : drop (o + 1) p ≡ known.rest =
        ap (λ (m : ℕ). drop (m + 1) p) at_open ∙ ap (drop (length (own_part p) + 1)) (sym parts) ∙ drop-append-add (own_part p) (91 ∷ known.rest) 1 in
        rw (embedded_some p found.0, i, j, known.closes, known.starts)

    -- The three texts that a replacement writes.
    pub head_size : o + 1 ≡ length (take (o + 1) p)
    head_size = sym (length-take-le (o + 1) p open_fits)

    head_is : take (o + 1) p ≡ own_part p ++ 91 ∷ []
    head_is = rw at_open (ap (take (length (own_part p) + 1)) (sym parts) ∙ take-append-add (own_part p) (91 ∷ known.rest) 1)

    tail_is : drop c p ≡ drop (closed_at p) (target_part p)
    tail_is = rw at_close (ap (drop (length (own_part p) + closed_at p)) (sym (own_parts p)) ∙ drop-append-add (own_part p) (target_part p) (closed_at p))

    module _ (t out : Text) where
      replaced_is : replace_embedded_target p t ≡ Some (take (o + 1) p ++ (t ++ drop c p))
      replaced_is =
          replaced_some p t found.0 ∙ rw (head_is, tail_is, append_assoc (own_part p) (91 ∷ []) (t ++ drop (closed_at p) (target_part p)))

      replaced_length : length (take (o + 1) p ++ (t ++ drop c p)) ≡ o + 1 + length t + (length p - c)
      replaced_length =
          rw (length-append (take (o + 1) p) (t ++ drop c p), length-append t (drop c p), length-drop c p, ← head_size) (omega arith)

      pub replaced_over : length out < o + 1 + length t + (length p - c)
          → ((Err MadeTooLong) ≡ replaced_reply (replace_embedded_target p t) out) × (out ≡ replaced_buffer (replace_embedded_target p t) out)
      unfolding replaced_reply replaced_buffer written_if_fits
      replaced_over l =
          let j : Text = take (o + 1) p ++ (t ++ drop c p) in
          rw (replaced_is, zero-add (length j), lt-leb (length j) (length out) (omega (arith, replaced_length))) (refl, refl)

      pub replaced_fits : (out₁ out₂ out₃ : Text) → o + 1 + length t + (length p - c) ≤ length out → out₁ ≡ written_if_fits 0 (take (o + 1) p) out
          → out₂ ≡ written_if_fits (o + 1) t out₁ → out₃ ≡ written_if_fits (o + 1 + length t) (take (length p - c) (drop c p)) out₂
          → (Ok (o + 1 + length t + (length p - c)) ≡ replaced_reply (replace_embedded_target p t) out) × (out₃ ≡ replaced_buffer (replace_embedded_target p t) out)
      unfolding replaced_reply replaced_buffer
      replaced_fits out₁ out₂ out₃ l e₁ e₂ e₃ =
          let j : Text = take (o + 1) p ++ (t ++ drop c p) in
          let fits : length j ≤ length out = omega (arith, replaced_length) in
          let i : out₃ ≡ written_if_fits 0 j out = e₃ ∙ rw (e₂, e₁, rest_whole p c) (three_written (take (o + 1) p) t (drop c p) out (o + 1) head_size fits) in
          rw (replaced_is, le-leb (length j) (length out) fits) (ap (λ (m : ℕ). Ok m) (sym replaced_length), i)
