-- Lemmas about the parse result of a frame: it denotes that frame, its texts lie within the bytes, and its kind is below 80.
use Rattle.std.specs.Prelude.{Option, Some, None}
use mathlib.Core.Path.{◌≡◌, refl, sym, ap, ◌∙◌, subst}
use mathlib.Core.Bool.{Bool, true, false, cond, ◌&&◌}
use mathlib.Core.List.{List, [], ◌∷◌, ◌++◌, append_assoc, append-nil}
use Prim.Native.Nat.{ℕ, ◌+◌, ◌*◌, ◌-◌, ◌≤◌}
use native.Mathlib.Omega.{arith}
use lib.Dec.{eqb, leb}
use lib.ListN.{length, take, drop, length-append, take-append-drop}
use lib.Seq.{drop_at, take-append_seam}
use borrow.Author.Tests.{leb-true, eqb-true}
use Rattle.text.specs.Text.{Text, is_nil}
use Rattle.text.proofs.BoolLaws.{and_l, and_r}
use Rattle.frames_spec.specs.Frame.{Frame, frame, Action, Form, add_one_pair, statuses, close, route, count, first_field, with_target, with_source, kinds, form_of, decode_payload, decode_form, with_kind, decode_frame}
use Rattle.frame_decode.specs.declared.FrameHeader.{FrameHeader}
use Rattle.frame_decode.specs.Header.{decoded_of, action_in, frame_in, reach}

abbrev decoded_reach : Option (ℕ × FrameHeader) → ℕ
decoded_reach (Some (k, h)) = reach h
decoded_reach None = 0

-- The parse result denotes the frame, and its texts lie within the bytes.
abbrev Says : Text → Option Frame → Type 0
Says b o = (frame_in b (decoded_of o) ≡ o) × (decoded_reach (decoded_of o) ≤ length b)

none_said : (b : Text) → Says b None
none_said b = (refl, omega arith)

-- A path at the end of the frame, whatever is before it.
path_said : (k : ℕ) (back : Bool) (u p : Text) → Says (u ++ p) (Some (frame k (route back p)))
unfolding action_in
path_said k back u p =
    let l : length (u ++ p) ≡ length u + length p = length-append u p in
    let d : drop (length (u ++ p) - length p) (u ++ p) ≡ p = drop_at u p (length (u ++ p) - length p) (omega arith) in
    (ap (λ (t : Text). Some (frame k (route back t))) d, omega arith)

-- A pair at the end of the frame, whatever is before it; v is the length of the target.
pair_said : (k : ℕ) (u s v t : Text) → length v ≡ 2 → Says (u ++ (s ++ (v ++ t))) (Some (frame k (add_one_pair s t)))
unfolding action_in
pair_said k u s v t e =
    let b : Text = u ++ (s ++ (v ++ t)) in
    let l : length (u ++ (s ++ (v ++ t))) ≡ length u + (length s + (2 + length t))
    = length-append u (s ++ (v ++ t)) ∙ ap (λ (n : ℕ). length u + n) (length-append s (v ++ t) ∙ ap (λ (n : ℕ). length s + n) (length-append v t ∙ ap (λ (n : ℕ). n + length t) e)) in
    let a : drop (length b - (length s + 2 + length t)) b ≡ s ++ (v ++ t) = drop_at u (s ++ (v ++ t)) (length b - (length s + 2 + length t)) (omega arith) in
    let c : take (length s) (drop (length b - (length s + 2 + length t)) b) ≡ s = ap (take (length s)) a ∙ take-append_seam s (v ++ t) in
    let w : b ≡ (u ++ (s ++ v)) ++ t = ap (λ (x : Text). u ++ x) (sym (append_assoc s v t)) ∙ sym (append_assoc u (s ++ v) t) in
    let n : length (u ++ (s ++ v)) ≡ length b - length t
    = omega (arith, length-append u (s ++ v), length-append s v, e, l) in
    let d : drop (length b - length t) b ≡ t = ap (drop (length b - length t)) w ∙ drop_at (u ++ (s ++ v)) t (length b - length t) n in (
      ap (λ (x : Text). Some (frame k (add_one_pair x (drop (length b - length t) b)))) c ∙ ap (λ (x : Text). Some (frame k (add_one_pair s x))) d,
      omega arith,
    )

nil_is : (x : Text) → is_nil x ≡ true → x ≡ []
nil_is [] e = refl
nil_is (a ∷ x) e = absurd (let z : ◌≡◌ {A = ℕ} 0 1 = cc in omega arith)

-- The payload of a pair after the bytes u: the source, then none, too few, or a target that does or does not fill the frame.
module _ (k : ℕ) (u : Text) where
  target_said : (x y : ℕ) (s z : Text) → Says (u ++ (x ∷ y ∷ (s ++ z))) (with_kind k (with_target add_one_pair s (first_field z)))
  target_said x y s [] = none_said (u ++ (x ∷ y ∷ (s ++ [])))
  target_said x y s (h ∷ []) = none_said (u ++ (x ∷ y ∷ (s ++ h ∷ [])))
  target_said x y s (h ∷ l ∷ v) = go (leb (256 * h + l) (length v))
    where
      m : ℕ
      m = 256 * h + l

      fills : (b : Bool) → is_nil (drop m v) ≡ b → Says (u ++ (x ∷ y ∷ (s ++ h ∷ l ∷ v))) (with_kind k (cond b (Some (add_one_pair s (take m v))) None))
      fills true e =
          let t : take m v ≡ v = sym (append-nil (take m v)) ∙ ap (λ (r : Text). take m v ++ r) (sym (nil_is (drop m v) e)) ∙ take-append-drop m v in
          rw (t, sym (append_assoc u (x ∷ y ∷ []) (s ++ h ∷ l ∷ v))) (pair_said k (u ++ x ∷ y ∷ []) s (h ∷ l ∷ []) v refl)
      fills false e = none_said (u ++ (x ∷ y ∷ (s ++ h ∷ l ∷ v)))

      go : (b : Bool) → Says (u ++ (x ∷ y ∷ (s ++ h ∷ l ∷ v))) (with_kind k (with_target add_one_pair s (cond b (Some (record { text = take m v; rest = drop m v })) None)))
      go true = fills (is_nil (drop m v)) refl
      go false = none_said (u ++ (x ∷ y ∷ (s ++ h ∷ l ∷ v)))

  source_said : (p : Text) → Says (u ++ p) (with_kind k (with_source add_one_pair (first_field p)))
  source_said [] = none_said (u ++ [])
  source_said (h ∷ []) = none_said (u ++ h ∷ [])
  source_said (h ∷ l ∷ r) = go (leb (256 * h + l) (length r))
    where
      n : ℕ
      n = 256 * h + l

      go : (b : Bool) → Says (u ++ h ∷ l ∷ r) (with_kind k (with_source add_one_pair (cond b (Some (record { text = take n r; rest = drop n r })) None)))
      go true =
          subst (λ (z : Text). Says (u ++ h ∷ l ∷ z) (with_kind k (with_target add_one_pair (take n r) (first_field (drop n r))))) (take-append-drop n r)
          (target_said h l (take n r) (drop n r))
      go false = none_said (u ++ h ∷ l ∷ r)

-- A frame that has no bytes after its kind.
alone_said : (k : ℕ) (b : Text) (a : Action) → Says b (Some (frame k a)) → (p : Text) → Says b (with_kind k (cond (is_nil p) (Some a) None))
alone_said k b a h p = go (is_nil p)
  where
    go : (t : Bool) → Says b (with_kind k (cond t (Some a) None))
    go true = h
    go false = none_said b

-- The frames of the kind k, if every line of a table denotes what it makes of the bytes p.
module _ (k : ℕ) (p : Text) where
  abbrev Every : List (ℕ × Form) → Type 0
  Every [] = Says (k ∷ p) None
  Every (x ∷ xs) = Says (k ∷ p) (with_kind k (decode_payload x.1 p)) × Every xs

  every_said : (xs : List (ℕ × Form)) → Every xs → Says (k ∷ p) (with_kind k (decode_form (form_of k xs) p))
  every_said [] h = h
  every_said (x ∷ xs) h = go (eqb k x.0) h.0 (every_said xs h.1)
    where
      go : (t : Bool) → Says (k ∷ p) (with_kind k (decode_payload x.1 p)) → Says (k ∷ p) (with_kind k (decode_form (form_of k xs) p))
          → Says (k ∷ p) (with_kind k (decode_form (cond t (Some x.1) (form_of k xs)) p))
      go true a c = a
      go false a c = c

-- The table of kinds, a line for each.
said : (b : Text) → Says b (decode_frame b)
unfolding action_in decode_frame
said [] = none_said []
said (k ∷ p) =
    let pair = source_said k (k ∷ []) p in
    let as-map = alone (close false) (refl, omega arith) in
    let as-relocates = alone (close true) (refl, omega arith) in
    let out = path_said k false (k ∷ []) p in
    let home = path_said k true (k ∷ []) p in
    every_said k p kinds
    (pair, (alone statuses (refl, omega arith), (as-map, (as-relocates, (out, (home, (alone count (refl, omega arith), none_said (k ∷ p))))))))
  where
    alone : (a : Action) → Says (k ∷ p) (Some (frame k a)) → Says (k ∷ p) (with_kind k (cond (is_nil p) (Some a) None))
    alone a h = alone_said k (k ∷ p) a h p

pub decode_decodes : (b : Text) (r : Option (ℕ × FrameHeader)) → r ≡ decoded_of (decode_frame b) → frame_in b r ≡ decode_frame b
decode_decodes b r e = ap (frame_in b) e ∙ (said b).0

pub header_within : (b : Text) (r : Option (ℕ × FrameHeader)) (k : ℕ) (f : FrameHeader) → r ≡ decoded_of (decode_frame b) → r ≡ Some (k, f) → reach f ≤ length b
header_within b r k f e h = rw (sym e ∙ h) at (said b).1

-- The codes of a table are below 80 (hexadecimal), so that kind + 80 is a byte.
abbrev few_codes : List (ℕ × Form) → Bool
few_codes [] = true
few_codes (x ∷ xs) = leb x.0 127 && few_codes xs

few_known : (k : ℕ) (xs : List (ℕ × Form)) (f : Form) → few_codes xs ≡ true → form_of k xs ≡ Some f → k ≤ 127
few_known k [] f h e = absurd (let z : ◌≡◌ {A = ℕ} 0 1 = cc in omega arith)
few_known k (x ∷ xs) f h e = go (eqb k x.0) refl e (few_known k xs f (and_r (leb x.0 127) (few_codes xs) h))
  where
    go : (t : Bool) → eqb k x.0 ≡ t → cond t (Some x.1) (form_of k xs) ≡ Some f → (form_of k xs ≡ Some f → k ≤ 127) → k ≤ 127
    go true i w later = omega (arith, eqb-true k x.0 i, leb-true x.0 127 (and_l (leb x.0 127) (few_codes xs) h))
    go false i w later = later w

-- The kind of a frame; 0 if there is none.
abbrev kind_in : Option (ℕ × FrameHeader) → ℕ
kind_in None = 0
kind_in (Some x) = x.0

pub kind_few : (b : Text) (r : Option (ℕ × FrameHeader)) (k : ℕ) (h : FrameHeader) → r ≡ decoded_of (decode_frame b) → r ≡ Some (k, h) → k ≤ 127
unfolding decode_frame
kind_few [] r k h e d = absurd (let z : ◌≡◌ {A = ℕ} 0 1 = cc in omega arith)
kind_few (j ∷ p) r k h e d = go (form_of j kinds) refl (sym d ∙ e)
  where
    go : (o : Option Form) → form_of j kinds ≡ o → Some (k, h) ≡ decoded_of (with_kind j (decode_form o p)) → k ≤ 127
    go None i w = absurd (let z : ◌≡◌ {A = ℕ} 0 1 = cc in omega arith)
    go (Some f) i w = same (decode_payload f p) w
      where
        same : (a : Option Action) → Some (k, h) ≡ decoded_of (with_kind j a) → k ≤ 127
        same None w = absurd (let z : ◌≡◌ {A = ℕ} 0 1 = cc in omega arith)
        same (Some a) w = let z : k ≡ j = ap kind_in w in omega (arith, z, few_known j kinds f refl i)
