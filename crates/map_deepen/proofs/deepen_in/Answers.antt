use Rattle.pair_buffer.proofs.MapLaws.{built_ends}
use Rattle.map_function.proofs.NewBranches.{gives_map}
use Rattle.map_deepen.proofs.deepen_in.Goals as goal

pub deepen_all-requires : goal.deepen_all-requires
deepen_all-requires c =
    record {
      n_value = c.requires.valid_list.shorts;
      node_len_bound = c.requires.node_len_bound;
      below_len_bound = c.requires.below_len_bound;
      scratch_room = c.requires.scratch_room;
    }

pub returns : goal.returns
returns c = gives_map _ _ (built_ends _ _ _ _ _ c.deepen_all.ensures _ _ _ _) _ _ _ _ _ c.from_ends.ensures
