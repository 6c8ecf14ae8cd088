use Rattle.ring_laws.proofs.laid.LaidIds.{stands_laid, ids_stand_laid, target_stands_laid}
use Rattle.ring_laws.proofs.laid.LaidBlocks.{blocks_stand_laid, laid_home}
use Rattle.tcmu_model.proofs.ListsLaid.{lists_sound_laid}
use Rattle.ring_laws.proofs.laid.LaidCommands.{notes_stand_laid, jobs_stand_laid, side_stands_laid, pages_laid, sized_laid}
use Rattle.ring_laws.proofs.laying.laying_law.Goals as goal

pub returns : goal.returns
returns c =
    record {
      ring = stands_laid;
      ids = ids_stand_laid;
      notes = notes_stand_laid;
      blocks = blocks_stand_laid;
      home = laid_home;
      jobs = jobs_stand_laid;
      target = target_stands_laid;
      side = side_stands_laid;
      lists = lists_sound_laid;
      pages = pages_laid;
      sized = sized_laid;
    }
