use Rattle.std.proofs.Common.{sym, ◌∙◌, ap}
use Rattle.std.proofs.lemmas.List.{take_rest}
use Rattle.tcmu_model.specs.RingState.{lengths, items_of}
use Rattle.tcmu_model.proofs.RoomSearch.{rest_of_items}
use Rattle.tcmu_model.proofs.plain.used.Goals as goal

pub returns : goal.returns
returns c size =
    c.total.ensures ∙ ap (λ lens. lengths (items_of lens)) (take_rest c.args.laid.now c.args.cleared) ∙ sym (rest_of_items c.args.cleared c.args.laid.now)
