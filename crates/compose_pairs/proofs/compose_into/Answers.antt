use Rattle.text.proofs.BoolLaws.{known_true, known_false}
use Rattle.map_spec.specs.Map.{lent_map}
use Rattle.compose_pairs.proofs.ComposeFitsBranches.{enough_back}
use Rattle.compose_pairs.proofs.PackLaws.{into_none, into_packed}
use Rattle.text.proofs.Clauses.{value_bytes_after_slots_after}
use mathlib.Core.Path.{ap}
use mathlib.Core.Bool.{not}
use Rattle.compose_pairs.proofs.compose_into.Goals as goal

pub returns-then-not-compose_fits : goal.returns-then-not-compose_fits
returns-then-not-compose_fits c =
    let args = c.args in
    value_bytes_after_slots_after (into_none (lent_map args.store.now args.places.now args.count args.mark)
    (lent_map args.istore.now args.iplaces.now args.inner args.imark) args.bytes.now args.slots.now
    (known_false c.compose_fits.ensures (ap not c.if-not-compose_fits.true)))

pub compose_both-requires : goal.compose_both-requires
compose_both-requires c =
    let args = c.args in
    enough_back args.store.now args.places.now args.count args.istore.now args.iplaces.now args.inner _ _
    (known_true c.compose_fits.ensures (ap not c.if-not-compose_fits.false))

pub returns : goal.returns
returns c =
    let args = c.args in
    value_bytes_after_slots_after (into_packed (lent_map args.store.now args.places.now args.count args.mark)
    (lent_map args.istore.now args.iplaces.now args.inner args.imark) args.bytes.now args.slots.now
    (known_true c.compose_fits.ensures (ap not c.if-not-compose_fits.false)) _ _ _ c.compose_both.ensures)
