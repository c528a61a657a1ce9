-- Meaning: The table of cases of the requirements: every row marked P, as a statement about the definitions. proofs/Table.antt proves the whole
-- table.
use Rattle.std.specs.Prelude.{◌≡◌, List, [], ◌∷◌, ℕ, length, None}
use Prim.Native.String.{String}
use Rattle.text.specs.Text.{bytes}
use Rattle.refusal.specs.declared.Refusal.TheVariants.{NoPath}
use Rattle.refusal.specs.Outcome.{Outcome, path, refused, checked_option}
use Rattle.path_derive.specs.Calls.{replace_prefix_call, strip_call}
use Rattle.pair_list.specs.Pair.{Pair}
use Rattle.map_spec.specs.Map.{Map, map_source_to_target}
use Rattle.map_spec.specs.New.{new}
use Rattle.map_spec.specs.Compose.{compose}
use Rattle.map_spec.specs.Derive.{deepen_to}
use Rattle.map_spec.specs.Leg.{translate_checked, map_back_checked}
use Rattle.relocates.specs.Status.{status_list}
use Rattle.relocate_chain.specs.Chain.{chained, chain}
use Rattle.cases.specs.Lent.{string_pair, unmarked_map, marked_map, conflicting, rotating}

-- Replacing a prefix by another, with 255 bytes lent.
unfoldable pub replace : String → String → String → Outcome
unfolding replace_prefix_call
replace p s t = replace_prefix_call (bytes p) (bytes s) (bytes t) 255

-- Stripping the selections of a path, with 255 bytes lent.
unfoldable pub strip_string : String → Outcome
unfolding strip_call
strip_string p = strip_call (bytes p) 255

-- A path mapped plainly from source to target.
unfoldable pub map_out : Map → String → Outcome
unfolding map_source_to_target checked_option
map_out m p = checked_option (map_source_to_target m (bytes p))

-- A path mapped plainly from target to source.
unfoldable pub map_back : Map → String → Outcome
unfolding map_back_checked
map_back m q = map_back_checked m (bytes q)

-- A path translated.
unfoldable pub translate_out : Map → String → Outcome
unfolding translate_checked
translate_out m p = translate_checked m (bytes p)

-- The inner map of the row on composition.
abbrev pub inner : Map
inner = unmarked_map (string_pair "/A" "/X" ∷ string_pair "/A/B" "/Y" ∷ [])

-- The outer map of the row on composition.
abbrev pub outer : Map
outer = unmarked_map (string_pair "/X/B/C" "/Z" ∷ string_pair "/Y" "/W" ∷ [])

-- The status bytes of a relocate list.
unfoldable pub status_bytes_of : List Pair → List ℕ
unfolding status_list
status_bytes_of l = status_list l (length l)

-- The rows of the table; each comment is the row's text.
pub record Table : Type 0 where
  -- `/AB` by `/A`: 6
  pub no_boundary : replace "/AB" "/A" "/C" ≡ refused NoPath
  -- `/A{v=p}B`, `/A{v=p}`→`/C`: `/C/B`
  pub from_selection : replace "/A{v=p}B" "/A{v=p}" "/C" ≡ path (bytes "/C/B")
  -- `/A/B`, `/A`→`/C{v=p}`: `/C{v=p}B`
  pub to_selection : replace "/A/B" "/A" "/C{v=p}" ≡ path (bytes "/C{v=p}B")
  -- strip `/A{v=p}{w=q}B.c`: `/A/B.c`
  pub stripped : strip_string "/A{v=p}{w=q}B.c" ≡ path (bytes "/A/B.c")
  -- pairs `/A`→`/X`, `/A`→`/Y`: `/A/c` to `/Y/c`
  pub later : map_out (unmarked_map (string_pair "/A" "/X" ∷ string_pair "/A" "/Y" ∷ [])) "/A/c" ≡ path (bytes "/Y/c")
  pub later_translated : translate_out (unmarked_map (string_pair "/A" "/X" ∷ string_pair "/A" "/Y" ∷ [])) "/A/c" ≡ path (bytes "/Y/c")
  -- `new` of `/A`→empty, `/A/B`→`/B`: second dropped; `/A/B/C`: 6
  pub dropped : new (string_pair "/A" "" ∷ string_pair "/A/B" "/B" ∷ []) ≡ unmarked_map (string_pair "/A" "" ∷ [])
  pub dropped_out : map_out (new (string_pair "/A" "" ∷ string_pair "/A/B" "/B" ∷ [])) "/A/B/C" ≡ refused NoPath
  pub dropped_translated : translate_out (new (string_pair "/A" "" ∷ string_pair "/A/B" "/B" ∷ [])) "/A/B/C" ≡ refused NoPath
  -- mark and `/A`→`/X`: `/X/y` maps plainly to itself; translated: 6
  pub target_out : map_out (marked_map (string_pair "/A" "/X" ∷ [])) "/X/y" ≡ path (bytes "/X/y")
  pub target_translated : translate_out (marked_map (string_pair "/A" "/X" ∷ [])) "/X/y" ≡ refused NoPath
  -- mark and empty→`/`: `/A` maps plainly out and back to itself; translated: 6
  pub empty_out : map_out (marked_map (string_pair "" "/" ∷ [])) "/A" ≡ path (bytes "/A")
  pub empty_back : map_back (marked_map (string_pair "" "/" ∷ [])) "/A" ≡ path (bytes "/A")
  pub empty_translated : translate_out (marked_map (string_pair "" "/" ∷ [])) "/A" ≡ refused NoPath
  -- statuses of `/R`→empty: 0; of `/R`→`/S`: 1
  pub deletion : status_bytes_of (string_pair "/R" "" ∷ []) ≡ 0 ∷ []
  pub root_prim : status_bytes_of (string_pair "/R" "/S" ∷ []) ≡ 1 ∷ []
  -- `/R/a`→`/R/b`, `/R/c`→`/R/b`, `/R/b`→`/R/d`: 3, 3, 3
  pub conflicts : status_bytes_of conflicting ≡ 3 ∷ 3 ∷ 3 ∷ []
  -- `/R/a/b`→`/R/c`, `/R/c/d`→`/R/a`: 0, 0; chaining `/R/a/b/d/b/d` ends at `/R/a/b/d`, 2 steps
  pub active : status_bytes_of rotating ≡ 0 ∷ 0 ∷ []
  pub chaining : chain None rotating (bytes "/R/a/b/d/b/d") ≡ chained (bytes "/R/a/b/d") 2
  -- inner `/A`→`/X`, `/A/B`→`/Y`, outer `/X/B/C`→`/Z`, `/Y`→`/W`: composed takes `/A/B/C` to `/Z`; one after the other gives `/W/C`
  pub composed : map_out (compose outer inner) "/A/B/C" ≡ path (bytes "/Z")
  pub inner_out : map_out inner "/A/B/C" ≡ path (bytes "/Y/C")
  pub outer_out : map_out outer "/Y/C" ≡ path (bytes "/W/C")

-- "Readings a quick porter would get wrong": the first three are the rows `composed`, `later` and `dropped` above. For the second,
-- "`max_by_key` and `best_prefix` both take the last", `later` covers `best_prefix`; the two first fields here cover `max_by_key`, in
-- chaining and in `deepen_to`. The other two cover the fourth: "Skipping an empty source in `deepen_to`; only `best_prefix` skips it."
pub record Readings : Type 0 where
  pub later_chained : chain None (string_pair "/R/a" "/R/b" ∷ string_pair "/R/a" "/R/c" ∷ []) (bytes "/R/a/d") ≡ chained (bytes "/R/c/d") 1
  pub later_deepened : deepen_to (unmarked_map (string_pair "/A" "/X" ∷ string_pair "/A" "/Y" ∷ [])) (bytes "/A/b") ≡ unmarked_map (string_pair "/A/b" "/Y/b" ∷ [])
  pub deepened : deepen_to (unmarked_map (string_pair "" "/X" ∷ [])) (bytes "/A") ≡ unmarked_map (string_pair "/A" "/X/A" ∷ [])
  pub skipped : map_out (unmarked_map (string_pair "" "/X" ∷ [])) "/A" ≡ refused NoPath
