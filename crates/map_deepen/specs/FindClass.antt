-- Method: The intermediate values of the search for the class that `deepen_to` deepens.
use Rattle.std.specs.Option.{option_map}
use Rattle.std.specs.Prelude.{ℕ, Option}
use Rattle.pair_list.specs.BestStep.{index_kept}
use Rattle.map_deepen.specs.declared.ClassSoFar.{ClassSoFar}

-- The class so far: the index of its pair and the number of elements of its source.
abbrev pub class_kept : Option ClassSoFar → Option (ℕ × ℕ)
class_kept f = option_map (λ (x : ClassSoFar). (x.at, x.elements.0)) f

-- The index of the pair found, if one was found.
abbrev pub class_index : Option ClassSoFar → Option ℕ
class_index f = index_kept (class_kept f)
