use Rattle.std.proofs.Common.{ap, ◌∙◌}
use Rattle.target_side.specs.RingRecord.{SparedRing, place_in_record}
use Rattle.target_side.proofs.Recorded.{place_recorded}
use Rattle.target_side.proofs.places.Places.lay.Goals as goal

pub returns-clause-place : goal.returns-clause-place
returns-clause-place c =
    c.place-place.ensures.value
    ∙ (place_recorded c.self.inside.ring c.self.inside.items.items c.args.len c.head-before.ensures.sound c.self.invariant ∙ ap (λ (s : SparedRing). place_in_record s.ring c.args.len) c.self.view_is)
