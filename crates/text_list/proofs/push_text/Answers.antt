-- The tests are those of `text_fits`; then the text and its place are written where the list ends.
use native.Mathlib.Omega.{arith}
use Rattle.text_list.proofs.PlaceBranches.{push_long, push_many, push_done}
use Rattle.text.proofs.Clauses.{value_bytes_after_places_after}
use Rattle.text_list.proofs.push_text.Goals as goal

pub returns-then-bytes-at : goal.returns-then-bytes-at
returns-then-bytes-at c =
    let args = c.args in
    value_bytes_after_places_after (push_long args.t.now args.n args.at args.bytes.now args.places.now (omega arith))

pub returns-then-bytes-at-2 : goal.returns-then-bytes-at-2
returns-then-bytes-at-2 c =
    let args = c.args in
    value_bytes_after_places_after (push_long args.t.now args.n args.at args.bytes.now args.places.now (omega arith))

pub returns-then-places-n : goal.returns-then-places-n
returns-then-places-n c =
    let args = c.args in
    value_bytes_after_places_after (push_many args.t.now args.n args.at args.bytes.now args.places.now (omega arith))

pub returns : goal.returns
returns c =
    let args = c.args in
    value_bytes_after_places_after (push_done args.t.now args.n args.at args.bytes.now args.places.now (omega arith) (omega arith) _ _
    c.write_at.ensures c.write_place.ensures)
