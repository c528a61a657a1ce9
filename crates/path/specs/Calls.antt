-- Meaning: The calls that test a path or count its elements: validation in the order of the questions, then the result.
use Rattle.std.specs.Prelude.{ℕ, Bool, List, [], ◌∷◌, Result, Ok, Err, Option, ⊤}
use Rattle.text.specs.Text.{Text}
use Rattle.path_grammar.specs.Own.{own_part, has_variant_selection}
use Rattle.path_grammar.specs.Legal.{is_end}
use Rattle.path_prefix.specs.Prefix.{has_prefix}
use Rattle.path_prefix.specs.Elements.{element_count, prim_element_count}
use Rattle.path_rest.specs.Rest.{rest_start}
use Rattle.refusal.specs.Refusal.{validate_texts, refused_or}
use Rattle.refusal.specs.declared.Refusal.{Refusal}
use Rattle.path_prefix.specs.declared.Elements.{Elements}

-- The call `new`: validates one path. The Rust Path::new refuses the empty text; the requirements count it as legal.
unfoldable pub path_new_call : Text → Result ⊤ Refusal
unfolding validate_texts
path_new_call p = validate_texts (p ∷ [])

-- The reply of a call that tests these texts: the refusal if validation fails, otherwise `answer`.
unfoldable pub test_call : List Text → Bool → Result Bool Refusal
unfolding validate_texts
test_call ts answer = refused_or (validate_texts ts) Err (Ok answer)

-- The call `is_end`.
unfoldable pub is_end_call : Text → Result Bool Refusal
unfolding test_call is_end
is_end_call p = test_call (p ∷ []) (is_end p)

-- The call `has_variant_selection`. OpenUSD: SdfPath::ContainsPrimVariantSelection.
unfoldable pub has_variant_selection_call : Text → Result Bool Refusal
unfolding test_call has_variant_selection
has_variant_selection_call p = test_call (p ∷ []) (has_variant_selection p)

-- The call `has_prefix`.
unfoldable pub has_prefix_call : Text → Text → Result Bool Refusal
unfolding test_call has_prefix
has_prefix_call p s = test_call (p ∷ s ∷ []) (has_prefix p s)

-- The call `rest_start`. Requirements: "The prefix test now says also where the rest begins".
unfoldable pub rest_start_call : Text → Text → Result (Option ℕ) Refusal
unfolding validate_texts rest_start
rest_start_call p s = refused_or (validate_texts (p ∷ s ∷ [])) Err (Ok (rest_start p s))

-- The reply of a call that counts elements of the text p: the refusal if validation fails, otherwise n.
unfoldable pub count_call : Text → ℕ → Result Elements Refusal
unfolding validate_texts
count_call p n = refused_or (validate_texts (p ∷ [])) Err (Ok (record { 0 = n }))

-- The call `element_count`. Requirements: "Names and selections inside brackets don't count as the path's own".
unfoldable pub element_count_call : Text → Result Elements Refusal
unfolding count_call own_part
element_count_call p = count_call p (element_count (own_part p))

-- The call `prim_element_count`.
unfoldable pub prim_element_count_call : Text → Result Elements Refusal
unfolding count_call own_part
prim_element_count_call p = count_call p (prim_element_count (own_part p))
