-- Question 8 is answered for all places of the list, which are the ends of its pairs.
use mathlib.Core.Path.{refl, ◌∙◌}
use Prim.Native.Nat.{◌*◌}
use Rattle.path_grammar.specs.Legal.{legal}
use Rattle.pair_list.specs.Places.{places_all}
use Rattle.map_function.proofs.NewBranches.{refusing_map, gives_map}
use Rattle.pair_buffer.proofs.EndBranches.{given_many, ends_answered}
use Rattle.pair_buffer.proofs.from_ends.Goals as goal

pub returns-then-n-gt64 : goal.returns-then-n-gt64
returns-then-n-gt64 c =
    let args = c.args in
    refusing_map _ _
    (ends_answered args.store.now args.places.now args.n args.mark args.time args.out.now args.slots.now
    (places_all legal args.store.now args.places.now (2 * args.n)) refl
    ∙ given_many args.store.now args.places.now args.n _ args.mark args.time args.out.now args.slots.now c.if-n-gt64.true)
    _ _

pub returns : goal.returns
returns c =
    let args = c.args in
    gives_map _ _
    (ends_answered args.store.now args.places.now args.n args.mark args.time args.out.now args.slots.now _
    c.all_legal-legal.ensures)
    _ _ _ _ _ c.from_ends_given.ensures
