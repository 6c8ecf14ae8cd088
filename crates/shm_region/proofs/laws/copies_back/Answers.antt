use Rattle.shm_region.proofs.Copied.{copied_back, copied_beside}
use Rattle.shm_region.proofs.laws.copies_back.Goals as goal

pub returns : goal.returns
returns c = record {
  back = λ r iovs bytes n h lies disjoint free enough room.
      copied_back iovs r bytes n (record { sized = h.sized; lies = lies; free = free }) disjoint enough room;
  beside = λ r iovs bytes b m h lies free out.
      copied_beside iovs r bytes b m (record { sized = h.sized; lies = lies; free = free }) out;
}
