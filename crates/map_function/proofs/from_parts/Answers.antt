use Rattle.map_canonical.proofs.KeptLaws.{canonical_read}
use Rattle.map_function.proofs.NewBranches.{refusing_map, parts_many, parts_beyond, parts_slots, parts_bytes, parts_made}
use borrow.Author.Rules.{rules}
use mathlib.Core.Path.{ap}
use mathlib.Core.Bool.{not}
use Rattle.map_function.proofs.from_parts.Goals as goal
use Rattle.map_function.proofs.from_parts.Goals.{then-n-gt64-via-then-n-gt64, then-n-gt64-via-else-n-gt64+then-places-n, then-slots-n-via-then-slots-n, then-slots-n-via-else-slots-n+then-not-list_fits}

pub returns-then-n-gt64 : goal.returns-then-n-gt64
returns-then-n-gt64 c = elim c.then-n-gt64.branch [
  | then-n-gt64-via-then-n-gt64 w ↦ refusing_map _ _ (parts_many _ _ _ _ _ _ _ w.if-n-gt64.true) _ _
  | then-n-gt64-via-else-n-gt64+then-places-n w ↦ refusing_map _ _ (parts_beyond _ _ _ _ _ _ _ w.if-places-n.true) _ _
]

pub returns-then-slots-n : goal.returns-then-slots-n
returns-then-slots-n c = elim c.then-slots-n.branch [
  | then-slots-n-via-then-slots-n w ↦ refusing_map _ _ (parts_slots _ _ _ _ _ _ _ c.if-n-gt64.false c.if-places-n.false w.if-slots-n.true) _ _
  | then-slots-n-via-else-slots-n+then-not-list_fits w ↦
      refusing_map _ _
      (parts_bytes _ _ _ _ _ _ _ c.if-n-gt64.false c.if-places-n.false w.if-slots-n.false _ w.list_fits.ensures (ap not w.if-not-list_fits.true)) _ _
]

pub returns : goal.returns
returns c =
    parts_made _ _ _ _ _ _ _
    c.if-n-gt64.false
    c.if-places-n.false
    c.if-slots-n.false _
    c.list_fits.ensures
    (ap not c.if-not-list_fits.false) _
    c.is_marked-marked.ensures _ (search rules) _ _
    (canonical_read _ _ _ _ _ _ _ _ (c.canonical_places-w.ensures.value, c.canonical_places-w.ensures.kept_after)) _ _
    c.write_list.ensures.out_after c.write_list.ensures.slots_after
