-- The tests are those of `pair_fits`; then two texts are pushed, one after the other.
use native.Mathlib.Omega.{arith}
use Rattle.pair_list_write.proofs.PushBranches.{pair_long, pair_many, pair_pushed}
use Rattle.text.proofs.Clauses.{value_bytes_after_slots_after}
use Rattle.pair_list_write.proofs.push_pair.Goals as goal

pub returns-then-bytes-at : goal.returns-then-bytes-at
returns-then-bytes-at c =
    let args = c.args in
    value_bytes_after_slots_after (pair_long args.s.now args.t.now args.n args.at args.bytes.now args.slots.now (omega arith))

pub returns-then-room-s : goal.returns-then-room-s
returns-then-room-s c =
    let args = c.args in
    value_bytes_after_slots_after (pair_long args.s.now args.t.now args.n args.at args.bytes.now args.slots.now (omega arith))

pub returns-then-room-s-2 : goal.returns-then-room-s-2
returns-then-room-s-2 c =
    let args = c.args in
    value_bytes_after_slots_after (pair_long args.s.now args.t.now args.n args.at args.bytes.now args.slots.now (omega arith))

pub returns-then-slots-n : goal.returns-then-slots-n
returns-then-slots-n c =
    let args = c.args in
    value_bytes_after_slots_after (pair_many args.s.now args.t.now args.n args.at args.bytes.now args.slots.now (omega arith))

pub returns : goal.returns
returns c =
    let args = c.args in
    value_bytes_after_slots_after (pair_pushed args.s.now args.t.now args.n args.at args.bytes.now args.slots.now (omega arith) (omega arith) _ _ _
    (c.push_text-m.ensures.value, (c.push_text-m.ensures.bytes_after, c.push_text-m.ensures.places_after)) _ _ _ (c.push_text.ensures.value, (c.push_text.ensures.bytes_after, c.push_text.ensures.places_after)))
