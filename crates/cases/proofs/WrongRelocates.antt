-- Every wrong answer of a call on relocate lists and routes differs from the right one, by computing both.
use mathlib.Core.Path.{refl}
use Rattle.path_prefix.specs.Elements.{count_elements}
use Rattle.route_spec.specs.Leg.{outward, homeward}
use Rattle.pair_list.specs.Places.{pairs_in}
use Rattle.relocates.specs.Status.{status_list}
use Rattle.relocates.specs.Calls.{analyze_reply}
use Rattle.relocate_chain.specs.Calls.{chain_call, chain_buffer, shift_call}
use Rattle.route.specs.Calls.{route_call}
use Rattle.batch.specs.Batch.{mapped_at, routed_at, validate_map_all, validate_route_all}
use Rattle.cases.specs.Lent.{store_of, places_of, lent_pairs}
use Rattle.cases.specs.WrongRelocates.{WrongRelocates}
use Rattle.cases.proofs.Tell.{apart, text_number, validation_number, reply_number, outcome_number, chain_number}

pub wrong_relocates : WrongRelocates
unfolding count_elements outward homeward store_of places_of lent_pairs pairs_in status_list analyze_reply chain_call chain_buffer shift_call route_call mapped_at routed_at validate_map_all validate_route_all text_number validation_number reply_number outcome_number chain_number
wrong_relocates = record {
  conflict_among_active = apart text_number refl;
  all_active = apart text_number refl;
  nothing_written = apart text_number refl;
  status_room = apart reply_number refl;
  three_steps = apart chain_number refl;
  one_step = apart chain_number refl;
  by_elements = apart chain_number refl;
  skip_ignored = apart chain_number refl;
  chain_no_room = apart chain_number refl;
  refused_chain_writes = apart text_number refl;
  shift_unmoved = apart outcome_number refl;
  shift_at_itself = apart outcome_number refl;
  first_leg_only_lem = apart outcome_number refl;
  route_unmoved = apart outcome_number refl;
  home_last_leg_only = apart outcome_number refl;
  home_is_out = apart outcome_number refl;
  first_for_all = apart outcome_number refl;
  first_routed_for_all = apart outcome_number refl;
  batch_room_first = apart validation_number refl;
  batch_count_is_5 = apart validation_number refl;
  batch_of_none = apart validation_number refl;
  batch_routed_first = apart validation_number refl;
}
