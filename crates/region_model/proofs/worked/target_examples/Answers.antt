use Rattle.region_model.proofs.Computed.{id_of_none, tail_inside, id_twice, length_past_data, said_unknown_is}
use Rattle.region_model.proofs.worked.target_examples.Goals as goal

pub returns : goal.returns
returns c = record { id_of_none = id_of_none; tail_inside = tail_inside; id_twice = id_twice; length_past_data = length_past_data; said_unknown = said_unknown_is }
