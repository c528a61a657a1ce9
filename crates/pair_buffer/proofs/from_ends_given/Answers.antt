-- Each branch is one outcome of the questions, in the order 4, 5, 7, 8; a list that passes 7 and 8 is handed to `from_parts`, which asks 4
-- and 5 itself.
use Rattle.map_function.proofs.NewBranches.{refusing_map, gives_map}
use Rattle.pair_buffer.proofs.EndBranches.{given_many, given_beyond, given_parts, given_slots, given_bytes, given_illegal, given_long}
use mathlib.Core.Path.{◌≡◌, sym, ap, ◌∙◌}
use mathlib.Core.Bool.{not, false, false≢true}
use Rattle.pair_buffer.proofs.from_ends_given.Goals as goal
use Rattle.pair_buffer.proofs.from_ends_given.Goals.{else-short-via-then-short+else-legal, else-short-via-else-short}

pub returns-then-n-gt64 : goal.returns-then-n-gt64
returns-then-n-gt64 c =
    let args = c.args in
    refusing_map _ _
    (given_many args.store.now args.places.now args.n args.legal args.mark args.time args.out.now args.slots.now
    c.if-n-gt64.true)
    _ _

pub returns-then-places-n : goal.returns-then-places-n
returns-then-places-n c =
    let args = c.args in
    refusing_map _ _
    (given_beyond args.store.now args.places.now args.n args.legal args.mark args.time args.out.now args.slots.now
    c.if-places-n.true)
    _ _

pub returns-then-legal : goal.returns-then-legal
returns-then-legal c =
    let args = c.args in
    gives_map _ _
    (given_parts args.store.now args.places.now args.n args.legal args.mark args.time args.out.now args.slots.now
    c.if-n-gt64.false c.if-places-n.false _ c.all_short-short.ensures c.if-short.true c.if-legal.true)
    _ _ _ _ _ c.from_parts.ensures

pub returns-then-slots-n : goal.returns-then-slots-n
returns-then-slots-n c =
    let args = c.args in
    refusing_map _ _
    (given_slots args.store.now args.places.now args.n args.legal args.mark args.time args.out.now args.slots.now
    c.if-n-gt64.false c.if-places-n.false _ c.all_short-short.ensures c.if-slots-n.true)
    _ _

pub returns-then-not-list_fits : goal.returns-then-not-list_fits
returns-then-not-list_fits c =
    let args = c.args in
    refusing_map _ _
    (given_bytes args.store.now args.places.now args.n args.legal args.mark args.time args.out.now args.slots.now
    c.if-n-gt64.false c.if-places-n.false _ c.all_short-short.ensures c.if-slots-n.false _
    c.list_fits.ensures (ap not c.if-not-list_fits.true))
    _ _

pub returns-then-short-2 : goal.returns-then-short-2
returns-then-short-2 c =
    let args = c.args in
    let illegal : args.legal ≡ false = elim c.else-short.branch [
      | else-short-via-then-short+else-legal w ↦ w.if-legal.false
      | else-short-via-else-short w ↦ absurd (false≢true (sym w.if-short.false ∙ c.if-short-2.true))
    ] in
    refusing_map _ _
    (given_illegal args.store.now args.places.now args.n args.legal args.mark args.time args.out.now args.slots.now
    c.if-n-gt64.false c.if-places-n.false _ c.all_short-short.ensures c.if-slots-n.false _
    c.list_fits.ensures (ap not c.if-not-list_fits.false) c.if-short-2.true illegal)
    _ _

pub returns : goal.returns
returns c =
    let args = c.args in
    refusing_map _ _
    (given_long args.store.now args.places.now args.n args.legal args.mark args.time args.out.now args.slots.now
    c.if-n-gt64.false c.if-places-n.false _ c.all_short-short.ensures c.if-slots-n.false _
    c.list_fits.ensures (ap not c.if-not-list_fits.false) c.if-short-2.false)
    _ _
