use Rattle.map_spec.specs.New.{is_redundant}
use Rattle.validate.proofs.SelectLaws.{select_few, select_present, select_room}
use Rattle.map_canonical.proofs.LevelBranches.{places_none, places_made}
use Rattle.text.proofs.Clauses.{value_kept_after}
use mathlib.Core.Path.{ap}
use mathlib.Core.Bool.{not}
use Rattle.map_canonical.proofs.canonical_places.Goals as goal

pub returns-then-not-can_select : goal.returns-then-not-can_select
returns-then-not-can_select c = value_kept_after (places_none _ _ _ is_redundant _ _ _ c.can_select.ensures (ap not c.if-not-can_select.true))

pub canonicalize-requires : goal.canonicalize-requires
canonicalize-requires c =
    record {
      n_bound = (select_few _ _ _ _ c.can_select.ensures (ap not c.if-not-can_select.false), select_present _ _ _ _ c.can_select.ensures (ap not c.if-not-can_select.false));
      in_bounds = select_room _ _ _ _ c.can_select.ensures (ap not c.if-not-can_select.false);
    }

pub returns : goal.returns
returns c = value_kept_after (places_made _ _ _ is_redundant _ _ _ c.can_select.ensures (ap not c.if-not-can_select.false) _ _ c.canonicalize.ensures)
