use Rattle.pair_buffer.proofs.MapLaws.{built_ends}
use Rattle.map_function.proofs.NewBranches.{gives_map}
use Rattle.map_rebase.proofs.rebase_in.Goals as goal

pub rebase_all-requires : goal.rebase_all-requires
rebase_all-requires c =
    record {
      n_value = c.requires.valid_list.shorts;
      to_len_bound = c.requires.to_len_bound;
      scratch_room = c.requires.scratch_room;
    }

pub returns : goal.returns
returns c = gives_map _ _ (built_ends _ _ _ _ _ c.rebase_all.ensures _ _ _ _) _ _ _ _ _ c.from_ends.ensures
