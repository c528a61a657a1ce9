-- Meaning: Worked examples of paths with a target in brackets: the parent, the prim path, the numbers of elements and names, the stripped path, the
-- target itself, and the lengths of the ancestors. proofs/TargetTable.antt proves them by computing.
use Rattle.std.specs.Prelude.{ℕ, ◌≡◌, List, [], ◌∷◌, Ok}
use Prim.Native.String.{String}
use Rattle.text.specs.Text.{bytes}
use Rattle.refusal.specs.Outcome.{path}
use Rattle.path.specs.Calls.{element_count_call, prim_element_count_call}
use Rattle.path_parts.specs.Parent.{ancestor_lens}
use Rattle.path_derive.specs.Calls.{parent_call, prim_path_call, strip_call}
use Rattle.path_target.specs.Calls.{embedded_target_call}

-- What the calls answer for the path p.
pub record Answers (p parent prim strip target : String) (elements names : ℕ) (lengths : List ℕ) : Type 0 where
  pub parent_is : parent_call (bytes p) 255 ≡ path (bytes parent)
  pub prim_is : prim_path_call (bytes p) 255 ≡ path (bytes prim)
  pub elements_are : element_count_call (bytes p) ≡ Ok (record { 0 = elements })
  pub names_are : prim_element_count_call (bytes p) ≡ Ok (record { 0 = names })
  pub strip_is : strip_call (bytes p) 255 ≡ path (bytes strip)
  pub target_is : embedded_target_call (bytes p) 255 ≡ path (bytes target)
  pub lengths_are : ancestor_lens (bytes p) ≡ lengths

pub record TargetTable : Type 0 where
  pub signal : Answers "/L/S.next[/L/T]" "/L/S.next" "/L/S" "/L/S.next[/L/T]" "/L/T" 2 2 (15 ∷ 9 ∷ 4 ∷ 2 ∷ 1 ∷ [])
  pub to_root : Answers "/A.r[/]" "/A.r" "/A" "/A.r[/]" "/" 1 1 (7 ∷ 4 ∷ 2 ∷ 1 ∷ [])
  pub own_selection : Answers "/A{v=p}.r[/T]" "/A{v=p}.r" "/A{v=p}" "/A.r[/T]" "/T" 2 1 (13 ∷ 9 ∷ 7 ∷ 2 ∷ 1 ∷ [])
  pub both_selections : Answers "/A{v=p}B.r[/T{w=q}C]" "/A{v=p}B.r" "/A{v=p}B" "/A/B.r[/T{w=q}C]" "/T{w=q}C" 3 2 (20 ∷ 10 ∷ 8 ∷ 7 ∷ 2 ∷ 1 ∷ [])
  pub four_deep : Answers "/A.r[/B.s[/C.t[/D.u[/E]]]]" "/A.r" "/A" "/A.r[/B.s[/C.t[/D.u[/E]]]]" "/B.s[/C.t[/D.u[/E]]]" 1 1 (26 ∷ 4 ∷ 2 ∷ 1 ∷ [])
