use Rattle.std.proofs.Common.{◌≡◌, ◌+◌, sym, ap, ◌∙◌, arith}
use Rattle.tcmu_model.specs.declared.state.CommandState.TheVariants.{Parked, Placed}
use Rattle.tcmu_model.specs.Events.{turned, in_state}
use Rattle.tcmu_path.specs.Room.{to_place}
use Rattle.tcmu_path.proofs.Rooms.{to_place_less}
use Rattle.tcmu_types.proofs.Firsts.{with_first_none}
use Rattle.tcmu_path.proofs.placing.place_one.Goals as goal

pub push-requires : goal.push-requires
push-requires c =
    let less : to_place (turned c.args.serial Parked Placed c.args.rows.now.items) + 1 ≡ to_place c.args.rows.now.items = to_place_less c.args.serial c.args.rows.now.items (sym c.if-place.ensures.found) in
    omega (arith, less)

pub returns-then-place-clause-room : goal.returns-then-place-clause-room
returns-then-place-clause-room c =
    let less : to_place (turned c.args.serial Parked Placed c.args.rows.now.items) + 1 ≡ to_place c.args.rows.now.items = to_place_less c.args.serial c.args.rows.now.items (sym c.if-place.ensures.found) in
    let same : to_place c.place.new.self.items ≡ to_place (turned c.args.serial Parked Placed c.args.rows.now.items) = ap to_place c.place.ensures.turned in
    omega (arith, less, same, c.push.ensures.room)

pub returns-else-place-clause-rows : goal.returns-else-place-clause-rows
returns-else-place-clause-rows c = c.place.ensures.turned ∙ with_first_none _ (in_state Placed) c.args.rows.now.items (sym c.if-place.ensures.found)

pub returns-else-place-clause-room : goal.returns-else-place-clause-room
returns-else-place-clause-room c =
    let same : to_place c.place.new.self.items ≡ to_place c.args.rows.now.items = ap to_place (c.place.ensures.turned ∙ with_first_none _ (in_state Placed) c.args.rows.now.items (sym c.if-place.ensures.found)) in
    omega (arith, same)
