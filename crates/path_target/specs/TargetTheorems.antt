-- Meaning: Theorems about the target of a path, for the grammar as data (crates/path_grammar/specs/Grammar.antt).
use Rattle.std.specs.Prelude.{◌≡◌, true, List, ◌++◌, ℕ, Option, Some, None}
use Prim.Native.String.{String}
use Rattle.text.specs.Text.{Text, bytes}
use Rattle.path_grammar.specs.Legal.{legal}
use Rattle.path_grammar.specs.Grammar as g
use Rattle.path_grammar.specs.Grammar.{own_text, bracket_text, absolute_text}
use Rattle.path_target.specs.Target.{embedded_target, replace_embedded_target}

-- Theorems (proofs/Theorem.antt). p is the first prim of a path, r are the others, and x is its property.
pub record TargetTheorems : Type 0 where
  -- The target of a path with a target is the text of the path in its brackets, which may have brackets of its own.
  pub embedded : {d : ℕ} (p : g.Prim) (r : List g.Prim) (x : g.Property) (q : g.Absolute d)
      → embedded_target (absolute_text (g.target p r x q)) ≡ Some (absolute_text q)
  -- No other path has a target.
  pub none_in_root : (d : ℕ) → embedded_target (absolute_text (g.root {d = d})) ≡ None
  pub none_in_prims : (d : ℕ) (p : g.Prim) (r : List g.Prim) (x : Option g.Property) → embedded_target (absolute_text (g.prims {d = d} p r x)) ≡ None
  -- Another target takes the place of the path in the brackets; the own part of the path stays.
  pub replaced : {d : ℕ} (p : g.Prim) (r : List g.Prim) (x : g.Property) (q : g.Absolute d) (t : Text)
      → replace_embedded_target (absolute_text (g.target p r x q)) t ≡ Some (own_text p r (Some x) ++ bracket_text t)
  -- So the result is the path with the other target, if that is the text of a path.
  pub retargeted : {d e : ℕ} (p : g.Prim) (r : List g.Prim) (x : g.Property) (q : g.Absolute d) (t : g.Absolute e)
      → replace_embedded_target (absolute_text (g.target p r x q)) (absolute_text t) ≡ Some (absolute_text (g.target p r x t))
  -- No other path has a target that could be replaced.
  pub kept_root : (d : ℕ) (t : Text) → replace_embedded_target (absolute_text (g.root {d = d})) t ≡ None
  pub kept_prims : (d : ℕ) (p : g.Prim) (r : List g.Prim) (x : Option g.Property) (t : Text)
      → replace_embedded_target (absolute_text (g.prims {d = d} p r x)) t ≡ None
  -- The two are inverse: if the target is replaced by itself, the path is as before. This holds for any bytes.
  pub inverse : (p t : Text) → embedded_target p ≡ Some t → replace_embedded_target p t ≡ Some p
  -- The target of a legal path is legal.
  pub lawful : (p t : Text) → legal p ≡ true → embedded_target p ≡ Some t → legal t ≡ true

-- The path p has the target t.
abbrev pub Embeds : String → String → Type 0
Embeds p t = embedded_target (bytes p) ≡ Some (bytes t)

-- The path p with its target replaced by t is q.
abbrev pub Retargets : String → String → String → Type 0
Retargets p t q = replace_embedded_target (bytes p) (bytes t) ≡ Some (bytes q)

-- Worked examples (proofs/Theorem.antt), among them those of the Rust's comments; some are no legal paths here.
pub record TargetExamples : Type 0 where
  pub relationship : Embeds "/A.rel[/T]" "/T"
  pub property : Embeds "/A.attr[/T.x]" "/T.x"
  -- The `]` is the one that is balanced with the first `[`.
  pub nested : Embeds "/A.rel[/B.rel2[/C]]" "/B.rel2[/C]"
  -- What follows the brackets does not count; nor do other brackets after them.
  pub attribute : Embeds "/A.rel[/T].attr" "/T"
  pub second : Embeds "/A.rel[/T].mapper[/U]" "/T"
  pub without : embedded_target (bytes "/A/B") ≡ None
  pub unclosed : embedded_target (bytes "/A.rel[/T[/U]") ≡ None
  pub other : Retargets "/A.rel[/T]" "/U/V" "/A.rel[/U/V]"
  pub other_of_nested : Retargets "/A.rel[/B.rel2[/C]]" "/U" "/A.rel[/U]"
  pub other_of_attribute : Retargets "/A.rel[/T].attr" "/U" "/A.rel[/U].attr"
  pub no_other : replace_embedded_target (bytes "/A/B") (bytes "/U") ≡ None
