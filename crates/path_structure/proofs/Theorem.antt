-- The theorems of specs/Structure.antt.
use Rattle.std.specs.Prelude.{Some, None}
use mathlib.Core.Path.{◌≡◌, sym, ap}
use mathlib.Core.List.{List, ◌∷◌, ◌++◌}
use Rattle.text.specs.Text.{Text}
use Rattle.path_grammar.specs.Grammar as g
use Rattle.path_grammar.specs.Grammar.{property_text, own_text}
use Rattle.path_structure.specs.Structure.{property_name, StructureTheorems}
use Rattle.path_structure.proofs.ParentTheorem.{parents, no_property_text}
use Rattle.path_structure.proofs.PrimTheorem.{prim_paths, properties}
use Rattle.path_structure.proofs.StripTheorem.{strips}
use Rattle.path_structure.proofs.AncestorTheorem.{ancestors_are}

property_names : (p : g.Prim) (r : List g.Prim) (x : g.Property) → own_text p r (Some x) ≡ own_text p r None ++ (46 ∷ property_name x)
unfolding own_text property_text property_name
property_names p r x = ap (λ (t : Text). t ++ (46 ∷ property_name x)) (sym (no_property_text p r))

pub structure_theorems : StructureTheorems
structure_theorems = record {
  parents = parents;
  prim_paths = prim_paths;
  properties = properties;
  property_names = property_names;
  strips = strips;
  ancestors_are = ancestors_are;
}
