-- Block lists of commands that are finished, and whose items are cleared, go: no point looks at them.
use Rattle.std.proofs.Common.{◌≡◌, ℕ, List, [], ◌∷◌, map, filter, refl, sym, ap, ◌∙◌, Option, subst}
use Rattle.std.specs.Bool.{MatchBool}
use Rattle.tcmu_types.specs.Lists.{Every}
use Rattle.tcmu_model.specs.Lengths.{block_size}
use Rattle.tcmu_model.specs.Device.{Unfinished, DeviceState}
use Rattle.tcmu_model.specs.Events.{is_in_hand}
use Rattle.tcmu_types.specs.Numbers.{is_among}
use Rattle.tcmu_model.specs.BlockLists.{Taken, kept_lists}
use Rattle.region_model.specs.Pending.{PendingData}
use Rattle.tcmu_types.proofs.Everies.{every-weaker, every-filter, every-both}
use Rattle.region_model.specs.Sides.{Recorded, PendingRow, InHand, TargetState, UserState}
use Rattle.region_model.specs.Represents.{RingStands, BlocksOf, BlocksStand, HaveData, JobsStand, is_out, TargetKeeps, pending_of}
use Rattle.region_model.specs.Areas.{IsLent}
use Rattle.region_model.specs.Picture.{payload_of}
use Rattle.ring_laws.proofs.laid.RingLaid.{stands-by}
use Rattle.ring_laws.proofs.SameJobs.{HasSame, given_same, outs_same}
use Rattle.tcmu_model.proofs.ListsKept.{StillListed, list_kept, AreUnfinished, own_listed, item_listed, held_kept}

-- ==== the points

pub ring_kept : (front : List ℕ) (items : List Recorded) (d : DeviceState) (lists : List Taken) → RingStands front items d lists → RingStands front items d (kept_lists d lists)
ring_kept front items d lists h =
    record {
      long = h.long;
      mailbox = h.mailbox;
      stands = λ i x c g. stands-by front front d d lists (kept_lists d lists) i x
          (record { settings = refl; size = refl; placed = refl; found = λ k s q. refl; listed = λ j n s q l z. list_kept d lists s (item_listed d j n s q l z) }) refl c g refl (h.stands i x c g);
      recorded = h.recorded;
    }

pub blocks_kept : (area : List (Option (List ℕ))) (d : DeviceState) (lists : List Taken) → BlocksStand area d lists → BlocksStand area d (kept_lists d lists)
blocks_kept area d lists h =
    let size : ℕ = block_size d.settings.pages in
    let one : (u : Unfinished) → StillListed d u.serial × BlocksOf size area lists u → BlocksOf size area (kept_lists d lists) u = λ u q.
    subst (λ (bs : List ℕ). MatchBool (is_in_hand u) (Every (IsLent area) bs) (HaveData size area bs (payload_of u))) (sym (list_kept d lists u.serial q.0)) q.1 in
    record {
      all = every-weaker (λ (u : Unfinished). StillListed d u.serial × BlocksOf size area lists u) (BlocksOf size area (kept_lists d lists)) d.unfinished one
          (every-both (λ (u : Unfinished). StillListed d u.serial) (BlocksOf size area lists) d.unfinished (own_listed d) h.all);
      just = λ b l. ap (λ bs. is_among bs b) (held_kept d lists (filter is_in_hand d.unfinished) (every-filter is_in_hand (λ (u : Unfinished). StillListed d u.serial) d.unfinished (own_listed d))) ∙ h.just b l;
    }

-- each command keeps its id and its list
all_same : (d : DeviceState) (rows : List PendingRow) (lists : List Taken) → Every (HasSame rows rows lists (kept_lists d lists)) d.unfinished
all_same d rows lists = every-weaker (λ (u : Unfinished). StillListed d u.serial) (HasSame rows rows lists (kept_lists d lists)) d.unfinished (λ u k. (refl, list_kept d lists u.serial k)) (own_listed d)

pub jobs_kept : (user : UserState) (hand : List InHand) (rows : List PendingRow) (d : DeviceState) (lists : List Taken) → JobsStand user hand rows d lists → JobsStand user hand rows d (kept_lists d lists)
jobs_kept user hand rows d lists h =
    record {
      given = given_same d.settings rows rows lists (kept_lists d lists) user.jobs (filter is_in_hand d.unfinished) (every-filter is_in_hand (HasSame rows rows lists (kept_lists d lists)) d.unfinished (all_same d rows lists)) h.given;
      out = outs_same d.settings rows rows lists (kept_lists d lists) hand (filter is_out d.unfinished) (every-filter is_out (HasSame rows rows lists (kept_lists d lists)) d.unfinished (all_same d rows lists)) h.out;
      offsets = h.offsets;
    }

pending_kept : (d : DeviceState) (lists : List Taken) (us : List Unfinished) → AreUnfinished d us → map (pending_of lists) us ≡ map (pending_of (kept_lists d lists)) us
pending_kept d lists [] k = refl
pending_kept d lists (u ∷ us) k =
    ap (λ bs. record (pending_of lists u) { blocks = bs } ∷ map (pending_of lists) us) (sym (list_kept d lists u.serial k.0))
    ∙ ap (λ (ps : List PendingData). pending_of (kept_lists d lists) u ∷ ps) (pending_kept d lists us k.1)

pub target_kept : (t : TargetState) (d : DeviceState) (lists : List Taken) → TargetKeeps t d lists → TargetKeeps t d (kept_lists d lists)
target_kept t d lists h =
    record {
      settings = h.settings;
      now = h.now;
      blocked = h.blocked;
      accepted = h.accepted;
      rows = h.rows ∙ pending_kept d lists d.unfinished (own_listed d);
      delayed = h.delayed;
      cleaned = h.cleaned;
      laid = h.laid;
      cleared = h.cleared;
      broken = h.broken;
      log = h.log;
    }
