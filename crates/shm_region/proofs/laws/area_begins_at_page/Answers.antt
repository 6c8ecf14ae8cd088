use Rattle.std.proofs.Common.{arith}
use Rattle.shm_region.proofs.laws.area_begins_at_page.Goals as goal
use Rattle.region_model.proofs.PartLengths.{length-opening}

pub returns : goal.returns
returns c = record {
  begins = λ ring h. record { multiple = omega (arith, h.pages); enough = omega arith; near = omega arith };
  opens = λ s. length-opening s;
}
