-- The proof of every row of the table, by computing the definitions.
use mathlib.Core.Path.{refl}
use Rattle.map_spec.specs.New.{new}
use Rattle.map_spec.specs.Compose.{compose}
use Rattle.map_spec.specs.Derive.{deepen_to}
use Rattle.relocate_chain.specs.Chain.{chain}
use Rattle.cases.specs.Table.{Table, Readings, replace, strip_string, map_out, map_back, translate_out, status_bytes_of}

pub holds : Table
unfolding replace strip_string new compose map_out map_back translate_out status_bytes_of chain
holds = record {
  no_boundary = refl;
  from_selection = refl;
  to_selection = refl;
  stripped = refl;
  later = refl;
  later_translated = refl;
  dropped = refl;
  dropped_out = refl;
  dropped_translated = refl;
  target_out = refl;
  target_translated = refl;
  empty_out = refl;
  empty_back = refl;
  empty_translated = refl;
  deletion = refl;
  root_prim = refl;
  conflicts = refl;
  active = refl;
  chaining = refl;
  composed = refl;
  inner_out = refl;
  outer_out = refl;
}

pub readings : Readings
unfolding chain deepen_to map_out
readings = record { later_chained = refl; later_deepened = refl; deepened = refl; skipped = refl }
