use Rattle.std.proofs.Common.{◌∙◌, sym}
use Rattle.block_engine.proofs.Choosing.{serves_decoded}
use Rattle.block_engine.proofs.Syncing.{synced_decoded}
use Rattle.block_engine.proofs.engine.EngineHandler.handle.Goals as goal

pub returns-in-Ok-clause-allowed : goal.returns-in-Ok-clause-allowed
returns-in-Ok-clause-allowed g c =
    rw (← c.self.view_is, ← c.request.view_is) (serves_decoded _ _ _ _ _ _ (sym c.decode.ensures.value ∙ c.in-Ok.is) (rw c.as_slice.ensures at c.serve.ensures.allowed))

pub returns-in-Ok-clause-synced : goal.returns-in-Ok-clause-synced
returns-in-Ok-clause-synced g c =
    rw (← c.self.view_is, ← c.request.view_is) (synced_decoded _ _ _ _ _ _ _ _ (sym c.decode.ensures.value ∙ c.in-Ok.is) c.serve.ensures.allowed)
