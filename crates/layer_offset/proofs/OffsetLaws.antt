-- Lemmas about time offsets. `Held` is true of every time offset in memory: its numbers are floats of the format.
use mathlib.Core.Path.{◌≡◌, refl, sym, subst}
use mathlib.Core.Logic.{◌⊎◌, inl, inr, ⊎_elim}
use mathlib.Core.Bool.{true}
use lib.Dec.{T}
use lib.Ieee.{Float, binary64, round, sum, add, mul, div, neg, eq, fits}
use lib.Ieee.Bits.{is_true}
use lib.Ieee.Fits.{and_l, and_r}
use Rattle.layer_offset.specs.declared.LayerOffset.{LayerOffset}
use Rattle.layer_offset.specs.Number.{plus_zero, one, is_finite}
use Rattle.layer_offset.specs.Offset.{layer_offset, identity_offset, is_identity, concatenate_offsets, inverse_offset}
use Rattle.layer_offset.proofs.NeutralLaws.{minus_zero, one_times, times_one, plus_nothing, zero_plus, equals_zero, equals_one}

abbrev pub Held : LayerOffset → Type 0
Held o = T (fits binary64 o.offset) × T (fits binary64 o.scale)

-- The time offset (-0, 1).
abbrev pub minus_identity : LayerOffset
minus_identity = layer_offset minus_zero one

-- Requirements: "Minus zero counts as offset 0 in `is_identity`."
pub minus_zero_counts : is_identity minus_identity ≡ true
unfolding is_identity eq
minus_zero_counts = refl

-- The identities are (0, 1) and (-0, 1).
pub only_identities : (o : LayerOffset) → Held o → is_identity o ≡ true → (o ≡ identity_offset) ⊎ (o ≡ minus_identity)
unfolding is_identity
only_identities o p h =
    let both = subst T (sym h) tt in
    let scaled : o.scale ≡ one = equals_one o.scale p.1 (is_true _ (and_r (eq o.offset plus_zero) (eq o.scale one) both)) in
    ⊎_elim (λ (k : o.offset ≡ plus_zero). inl (rw (k, scaled))) (λ (k : o.offset ≡ minus_zero). inr (rw (k, scaled)))
    (equals_zero o.offset p.0 (is_true _ (and_l (eq o.offset plus_zero) (eq o.scale one) both)))

-- Requirements: "`inverse` gives (0, 1) for scale 0 of either sign".
pub inverse_of_zero : (o : Float) → inverse_offset (layer_offset o plus_zero) ≡ identity_offset
unfolding inverse_offset eq
inverse_of_zero o = refl

pub inverse_of_minus_zero : (o : Float) → inverse_offset (layer_offset o minus_zero) ≡ identity_offset
unfolding inverse_offset eq
inverse_of_minus_zero o = refl

-- The inverse of (0, 1) is an identity, but not (0, 1): its offset is -0 / 1.
pub inverse_of_identity : inverse_offset identity_offset ≡ minus_identity
unfolding inverse_offset eq neg div round
inverse_of_identity = refl

-- (0, 1) is neutral as the outer one, except that an offset -0 becomes 0.
pub identity_outer : (o : LayerOffset) → Held o → (o.offset ≡ minus_zero → ⊥) → concatenate_offsets identity_offset o ≡ o
identity_outer o p h = rw (one_times o.offset p.0, one_times o.scale p.1, zero_plus o.offset p.0 h)

-- As the inner one it is neutral only if the scale is finite: an infinity times 0 is a NaN.
pub identity_inner : (o : LayerOffset) → Held o → is_finite o.scale ≡ true → (o.offset ≡ minus_zero → ⊥) → concatenate_offsets o identity_offset ≡ o
identity_inner o p f h = rw (plus_nothing o.offset o.scale p.0 h f, times_one o.scale p.1)

-- Requirements: "Two identity offsets compose to exactly (0, 1)". By concatenation they do, unless both offsets are -0.
pub identities : (o i : LayerOffset) → Held o → Held i → is_identity o ≡ true → is_identity i ≡ true
    → (concatenate_offsets o i ≡ identity_offset) ⊎ ((o ≡ minus_identity) × (i ≡ minus_identity))
unfolding add mul sum round
identities o i p q h k =
    ⊎_elim
    (λ (a : o ≡ identity_offset). inl (⊎_elim (λ (b : i ≡ identity_offset). rw (a, b)) (λ (b : i ≡ minus_identity). rw (a, b)) (only_identities i q k)))
    (λ (a : o ≡ minus_identity). ⊎_elim (λ (b : i ≡ identity_offset). inl (rw (a, b))) (λ (b : i ≡ minus_identity). inr (a, b)) (only_identities i q k))
    (only_identities o p h)

pub minus_identities : concatenate_offsets minus_identity minus_identity ≡ minus_identity
unfolding add mul sum round
minus_identities = refl
