use Rattle.cmd_ring.proofs.Rest.{placed-sound, placed-same, pad-whole}
use Rattle.cmd_ring.proofs.ring.Ring.place.Goals.{then-pad-eq0, else-pad-eq0}
use Rattle.cmd_ring.proofs.ring.Ring.place.Goals as goal

pub invariant_of-self : goal.invariant_of-self
invariant_of-self c =
    placed-sound _ _ _ _ _ (rw (← c.self.view_is) at c.pad-pad.ensures.value) (rw (← c.self.view_is) at c.requires.length)
    (rw (← c.self.view_is) at c.requires.room) c.self.invariant

pub returns-clause-new : goal.returns-clause-new
returns-clause-new c =
    rw (← c.self.view_is) (placed-same _ _ _ _ _ (rw (← c.self.view_is) at c.pad-pad.ensures.value))

pub returns-clause-pad_words : goal.returns-clause-pad_words
returns-clause-pad_words c =
    elim c.if-pad-eq0.branch [
      | then-pad-eq0 w ↦ rw w.result-is tt
      | else-pad-eq0 w ↦ rw w.result-is (pad-whole _ _ _ c.pad-pad.ensures.value w.if-pad-eq0.false c.pad-pad.ensures.sound)
    ]
