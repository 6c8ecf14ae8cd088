-- What stands for a device fits both sides, and stays where block lists go.
use Rattle.std.proofs.Common.{◌≡◌, ℕ, ◌+◌, ◌^◌, ◌≤◌, List, [], ◌∷◌, length, sym, ap, ◌∙◌, subst, take, arith}
use Rattle.tcmu_types.specs.Numbers.{Rise}
use Rattle.tcmu_types.specs.Data.{SettingsData}
use Rattle.tcmu_model.specs.BlockLists.{Taken, kept_lists}
use Rattle.tcmu_model.specs.Device.{DeviceState}
use Rattle.tcmu_model.specs.Owned.{ListsSound}
use Rattle.tcmu_model.specs.RingState.{dispatched_commands}
use Rattle.tcmu_model.specs.Sound.{IsSound, dispatched_serials}
use Rattle.tcmu_model.proofs.Basics.{commands_serials}
use Rattle.tcmu_model.proofs.Facts.{dispatched_rise}
use Rattle.tcmu_model.proofs.ListsKept.{lists_kept}
use Rattle.region_model.specs.Layout.{data_start}
use Rattle.region_model.specs.Regions.{RegionState}
use Rattle.region_model.specs.Represents.{Represents}
use Rattle.region_model.specs.Sides.{InHand, TargetState, UserState}
use Rattle.ring_laws.specs.UserKept.{HasPages, HasRing}
use Rattle.ring_laws.proofs.lists.KeptLists.{ring_kept, blocks_kept, jobs_kept, target_kept}
use Rattle.target_side.specs.Kept.{Fits}
use Rattle.user_lib.specs.OnDevice.{StandsFor}

-- ==== lists that go

pub kept_stands : (r : RegionState) (t : TargetState) (u : UserState) (hand : List InHand) (d : DeviceState) (lists : List Taken) → StandsFor r t u hand d lists → StandsFor r t u hand d (kept_lists d lists)
kept_stands r t u hand d lists s =
    let p = s.represents in
    record {
      sound = s.sound;
      owned = lists_kept d lists s.owned;
      represents = record {
        ring = ring_kept r.front t.items d lists p.ring;
        ids = p.ids;
        notes = p.notes;
        blocks = blocks_kept r.blocks d lists p.blocks;
        jobs = jobs_kept u hand t.rows d lists p.jobs;
        target = target_kept t d lists p.target;
        side = p.side;
        pages = p.pages;
      };
    }

-- what is represented behind an event stands for it with the lists that are kept
pub stands_left : (r : RegionState) (t : TargetState) (u : UserState) (hand : List InHand) (d : DeviceState) (lists : List Taken) → IsSound d → ListsSound d lists → Represents r t u hand d lists → StandsFor r t u hand d (kept_lists d lists)
stands_left r t u hand d lists sound owned p = kept_stands r t u hand d lists (record { sound = sound; owned = owned; represents = p })

-- ==== equal parts

pub same_represents : (r r' : RegionState) (t t' : TargetState) (u u' : UserState) (hand hand' : List InHand) (d : DeviceState) (lists : List Taken) → r' ≡ r → t' ≡ t → u' ≡ u → hand' ≡ hand → Represents r t u hand d lists → Represents r' t' u' hand' d lists
same_represents r r' t t' u u' hand hand' d lists e f g h p =
    subst (λ (x : List InHand). Represents r' t' u' x d lists) (sym h)
    (subst (λ (x : UserState). Represents r' t' x hand d lists) (sym g)
    (subst (λ (x : TargetState). Represents r' x u hand d lists) (sym f)
    (subst (λ (x : RegionState). Represents x t u hand d lists) (sym e) p)))

pub same_stands : (r r' : RegionState) (t t' : TargetState) (u : UserState) (hand : List InHand) (d d' : DeviceState) (lists : List Taken) → r' ≡ r → t' ≡ t → d' ≡ d → StandsFor r t u hand d lists → StandsFor r' t' u hand d' lists
same_stands r r' t t' u hand d d' lists e f g s =
    subst (λ (x : DeviceState). StandsFor r' t' u hand x lists) (sym g)
    (subst (λ (x : TargetState). StandsFor r' x u hand d lists) (sym f)
    (subst (λ (x : RegionState). StandsFor x t u hand d lists) (sym e) s))

-- ==== sizes

front_long : (r : RegionState) (t : TargetState) (u : UserState) (hand : List InHand) (d : DeviceState) (lists : List Taken) → StandsFor r t u hand d lists → length r.front ≡ data_start d.settings.ring
front_long r t u hand d lists s = s.represents.ring.long ∙ ap data_start s.sound.ring.size

pub fits_target : (r : RegionState) (t : TargetState) (u : UserState) (hand : List InHand) (d : DeviceState) (lists : List Taken) → StandsFor r t u hand d lists → Fits r t
fits_target r t u hand d lists s =
    let e = sym s.represents.target.settings in
    record {
      front = front_long r t u hand d lists s ∙ ap (λ (x : SettingsData). data_start x.ring) e;
      pages = s.represents.pages ∙ ap (λ (x : SettingsData). x.pages) e;
    }

pub has_ring : (r : RegionState) (t : TargetState) (u : UserState) (hand : List InHand) (d : DeviceState) (lists : List Taken) → StandsFor r t u hand d lists → HasRing r u
has_ring r t u hand d lists s = front_long r t u hand d lists s ∙ ap data_start (sym s.represents.side.ring)

pub has_pages : (r : RegionState) (t : TargetState) (u : UserState) (hand : List InHand) (d : DeviceState) (lists : List Taken) → StandsFor r t u hand d lists → HasPages r u
has_pages r t u hand d lists s = s.represents.pages ∙ sym s.represents.side.pages

-- ==== counts

-- an event that accepts none
pub few_same : (n m : ℕ) → m ≡ n → n ≤ 2 ^ 63 → m ≤ 2 ^ 63
few_same n m e h = subst (λ (x : ℕ). x ≤ 2 ^ 63) (sym e) h

rise_few : (low : ℕ) (xs : List ℕ) (high : ℕ) → Rise low xs high → low + length xs ≤ high
rise_few low [] high h = omega (arith, h)
rise_few low (x ∷ xs) high h = omega (arith, h.0, rise_few x xs high h.1)

-- no more commands are dispatched than were accepted
pub few_dispatched : (r : RegionState) (t : TargetState) (u : UserState) (hand : List InHand) (d : DeviceState) (lists : List Taken) → StandsFor r t u hand d lists → d.accepted ≤ 2 ^ 63 → u.dispatched ≤ 2 ^ 63
few_dispatched r t u hand d lists s h =
    let a : u.dispatched ≡ dispatched_commands d.ring = s.represents.side.dispatched in
    let b : dispatched_commands d.ring ≡ length (dispatched_serials d.ring) = commands_serials (take d.ring.dispatched d.ring.laid) in
    let c = rise_few 0 (dispatched_serials d.ring) d.accepted (dispatched_rise d s.sound.serials) in
    few_same (dispatched_commands d.ring) u.dispatched a (omega (arith, b, c, h))
