-- The target answers as the device does.
use Rattle.std.proofs.Common.{◌≡◌, ℕ, ◌+◌, ◌-◌, ◌*◌, ◌/◌, ◌==◌, ◌&&◌, Bool, not, cond, List, [], ◌∷◌, length, refl, ap, ◌∙◌}
use Rattle.std.specs.Prelude.{nat_lt, nat_le}
use Rattle.tcmu_types.specs.declared.answer.Submit.TheVariants as submit
use Rattle.tcmu_types.specs.declared.answer.Enter.TheVariants as enter
use Rattle.tcmu_types.specs.Data.{CommandData, SettingsData}
use Rattle.tcmu_model.specs.Lengths.{blocks_of, entry_length}
use Rattle.tcmu_model.specs.RingState.{RingState, Item, Laid, lengths, head, used, free, need, pads, with_item, commands_in, is_command}
use Rattle.tcmu_model.specs.RingState as ring
use Rattle.tcmu_model.specs.Device.{DeviceState, Delayed}
use Rattle.tcmu_model.specs.BlockLists.{Taken}
use Rattle.region_model.specs.Sides.{TargetState}
use Rattle.region_model.specs.Represents.{RingStands, TargetKeeps}
use Rattle.region_model.specs.TargetSteps.{used_in, free_in, need_in, blocks_held, length_in, target_submit_answer, submit_or_full, submit_or_delay, target_enter_answer, enter_or_full, blocks_free, blocks_wanted, fits_in, target_block_answer}
use Rattle.tcmu_types.specs.declared.answer.Submit.{Submit}
use Rattle.tcmu_model.specs.Events.{submit_answer, queued_or_full, queued_or_delayed, enter_answer, entered_or_full, entry_length_in, blocks_in, free_blocks, fits_ring, fits_blocks, block_answer}
use Rattle.tcmu_model.specs.Sound.{IsSound}
use Rattle.tcmu_model.specs.Owned.{ListsSound}
use Rattle.ring_laws.proofs.Agree.{Agrees, agrees, held-same}
use Rattle.tcmu_model.proofs.ListsLaid.{held_length}

-- what the target computes of room is what the device has
pub record Rooms (t : TargetState) (d : DeviceState) : Type 0 where
  pub size : t.settings.ring ≡ d.ring.size
  pub need : (n : ℕ) → need_in t n ≡ ring.need d.ring n
  pub free : free_in t ≡ ring.free d.ring
  pub blocks : blocks_free t ≡ free_blocks d
  pub length : (c : CommandData) → length_in t c ≡ entry_length_in d c
  pub wanted : (c : CommandData) → blocks_wanted t c ≡ blocks_in d c
  pub fits : (c : CommandData) → fits_in t (length_in t c) ≡ fits_ring d c
  pub enough : (c : CommandData) → nat_le (blocks_wanted t c) (blocks_free t) ≡ fits_blocks d c

pub rooms : (front : List ℕ) (t : TargetState) (d : DeviceState) (lists : List Taken) → IsSound d → ListsSound d lists → RingStands front t.items d lists → TargetKeeps t d lists → Rooms t d
rooms front t d lists sound owned shape keeps =
    let g : Agrees t d = agrees front t d lists shape keeps sound.ring.size in
    let nd : (n : ℕ) → need_in t n ≡ ring.need d.ring n = λ n. ap (λ z. z + n) (g.pad n) in
    let fr : free_in t ≡ ring.free d.ring = ap (λ z. z - used_in t - 1) g.size ∙ ap (λ z. d.ring.size - z - 1) g.used in
    let bl : blocks_free t ≡ free_blocks d =
    ap (λ (z : SettingsData). z.blocks - length (blocks_held t.rows)) keeps.settings
    ∙ ap (λ (xs : List ℕ). d.settings.blocks - length xs) (held-same t d lists keeps)
    ∙ ap (λ z. d.settings.blocks - z) (held_length d.settings.pages lists d.unfinished owned.sizes) in
    let ln : (c : CommandData) → length_in t c ≡ entry_length_in d c = λ c. ap (λ (z : SettingsData). entry_length z.pages c) keeps.settings in
    let wa : (c : CommandData) → blocks_wanted t c ≡ blocks_in d c = λ c. ap (λ (z : SettingsData). blocks_of z.pages c) keeps.settings in
    record {
      size = g.size;
      need = nd;
      free = fr;
      blocks = bl;
      length = ln;
      wanted = wa;
      fits = λ c. ap (fits_in t) (ln c) ∙ ap (λ z. nat_le z (free_in t)) (nd (entry_length_in d c)) ∙ ap (nat_le (ring.need d.ring (entry_length_in d c))) fr;
      enough = λ c. ap (λ z. nat_le z (blocks_free t)) (wa c) ∙ ap (nat_le (blocks_in d c)) bl;
    }

need_same : (t : TargetState) (d : DeviceState) (c : CommandData) → Rooms t d → need_in t (length_in t c) ≡ ring.need d.ring (entry_length_in d c)
need_same t d c r = ap (need_in t) (r.length c) ∙ r.need (entry_length_in d c)

full_same : (t : TargetState) (d : DeviceState) (c : CommandData) → Rooms t d → t.accepted ≡ d.accepted → submit_or_full t c ≡ queued_or_full d c
unfolding queued_or_full
full_same t d c r a =
    let f : fits_in t (length_in t c) ≡ fits_ring d c = r.fits c in
    let b : nat_le (blocks_wanted t c) (blocks_free t) ≡ fits_blocks d c = r.enough c in
    let n : need_in t (length_in t c) ≡ ring.need d.ring (entry_length_in d c) = need_same t d c r in
    let e : free_in t ≡ ring.free d.ring = r.free in
    let w : blocks_wanted t c ≡ blocks_in d c = r.wanted c in
    let g : blocks_free t ≡ free_blocks d = r.blocks in
    ap (λ z. cond (not z) (submit.FullRing (need_in t (length_in t c)) (free_in t)) (cond (not (nat_le (blocks_wanted t c) (blocks_free t))) (submit.FullBlocks (blocks_wanted t c) (blocks_free t)) (submit.Queued (t.accepted + 1)))) f
    ∙ ap (λ z. cond (not (fits_ring d c)) (submit.FullRing z (free_in t)) (cond (not (nat_le (blocks_wanted t c) (blocks_free t))) (submit.FullBlocks (blocks_wanted t c) (blocks_free t)) (submit.Queued (t.accepted + 1)))) n
    ∙ ap (λ z. cond (not (fits_ring d c)) (submit.FullRing (ring.need d.ring (entry_length_in d c)) z) (cond (not (nat_le (blocks_wanted t c) (blocks_free t))) (submit.FullBlocks (blocks_wanted t c) (blocks_free t)) (submit.Queued (t.accepted + 1)))) e
    ∙ ap (λ z. cond (not (fits_ring d c)) (submit.FullRing (ring.need d.ring (entry_length_in d c)) (ring.free d.ring)) (cond (not z) (submit.FullBlocks (blocks_wanted t c) (blocks_free t)) (submit.Queued (t.accepted + 1)))) b
    ∙ ap (λ z. cond (not (fits_ring d c)) (submit.FullRing (ring.need d.ring (entry_length_in d c)) (ring.free d.ring)) (cond (not (fits_blocks d c)) (submit.FullBlocks z (blocks_free t)) (submit.Queued (t.accepted + 1)))) w
    ∙ ap (λ z. cond (not (fits_ring d c)) (submit.FullRing (ring.need d.ring (entry_length_in d c)) (ring.free d.ring)) (cond (not (fits_blocks d c)) (submit.FullBlocks (blocks_in d c) z) (submit.Queued (t.accepted + 1)))) g
    ∙ ap (λ z. cond (not (fits_ring d c)) (submit.FullRing (ring.need d.ring (entry_length_in d c)) (ring.free d.ring)) (cond (not (fits_blocks d c)) (submit.FullBlocks (blocks_in d c) (free_blocks d)) (submit.Queued (z + 1)))) a

delay_same : (t : TargetState) (d : DeviceState) (c : CommandData) → Rooms t d → t.accepted ≡ d.accepted → t.delayed ≡ d.delayed → submit_or_delay t c ≡ queued_or_delayed d c
unfolding queued_or_delayed
delay_same t d c r a w =
    ap (λ z. cond (z && nat_le (blocks_wanted t c) (blocks_free t) && (length t.delayed == 0)) (submit.Queued (t.accepted + 1)) (submit.Delayed (t.accepted + 1))) (r.fits c)
    ∙ ap (λ z. cond (fits_ring d c && z && (length t.delayed == 0)) (submit.Queued (t.accepted + 1)) (submit.Delayed (t.accepted + 1))) (r.enough c)
    ∙ ap (λ (z : List Delayed). cond (fits_ring d c && fits_blocks d c && (length z == 0)) (submit.Queued (t.accepted + 1)) (submit.Delayed (t.accepted + 1))) w
    ∙ ap (λ z. cond (fits_ring d c && fits_blocks d c && (length d.delayed == 0)) (submit.Queued (z + 1)) (submit.Delayed (z + 1))) a

big_or : Bool → ℕ → ℕ → ℕ → ℕ → ℕ → Submit → Submit → Submit
big_or blocked ring n blocks b qfull full delay = cond blocked submit.Busy (cond (nat_lt ring (2 * n)) (submit.TooBig n (ring / 2)) (cond (nat_lt blocks b) (submit.TooBig b blocks) (cond (qfull == 0) full delay)))

pub submit_same : (front : List ℕ) (t : TargetState) (d : DeviceState) (lists : List Taken) (c : CommandData) → IsSound d → ListsSound d lists → RingStands front t.items d lists → TargetKeeps t d lists → target_submit_answer t c ≡ submit_answer d c
unfolding target_submit_answer submit_answer big_or
submit_same front t d lists c sound owned shape keeps =
    let r : Rooms t d = rooms front t d lists sound owned shape keeps in
    ap (λ z. big_or z t.settings.ring (length_in t c) t.settings.blocks (blocks_wanted t c) t.settings.qfull (submit_or_full t c) (submit_or_delay t c)) keeps.blocked
    ∙ ap (λ z. big_or d.blocked z (length_in t c) t.settings.blocks (blocks_wanted t c) t.settings.qfull (submit_or_full t c) (submit_or_delay t c)) r.size
    ∙ ap (λ z. big_or d.blocked d.ring.size z t.settings.blocks (blocks_wanted t c) t.settings.qfull (submit_or_full t c) (submit_or_delay t c)) (r.length c)
    ∙ ap (λ (z : SettingsData). big_or d.blocked d.ring.size (entry_length_in d c) z.blocks (blocks_wanted t c) z.qfull (submit_or_full t c) (submit_or_delay t c)) keeps.settings
    ∙ ap (λ z. big_or d.blocked d.ring.size (entry_length_in d c) d.settings.blocks z d.settings.qfull (submit_or_full t c) (submit_or_delay t c)) (r.wanted c)
    ∙ ap (λ z. big_or d.blocked d.ring.size (entry_length_in d c) d.settings.blocks (blocks_in d c) d.settings.qfull z (submit_or_delay t c)) (full_same t d c r keeps.accepted)
    ∙ ap (λ z. big_or d.blocked d.ring.size (entry_length_in d c) d.settings.blocks (blocks_in d c) d.settings.qfull (queued_or_full d c) z) (delay_same t d c r keeps.accepted keeps.delayed)

enter_list : (t : TargetState) (d : DeviceState) (ws : List Delayed) → Rooms t d → enter_or_full t ws ≡ entered_or_full d ws
enter_list t d [] r = refl
enter_list t d (w ∷ ws) r =
    let c : CommandData = w.command in
    ap (λ z. cond (not z) (enter.FullRing (need_in t (length_in t c)) (free_in t)) (cond (not (nat_le (blocks_wanted t c) (blocks_free t))) (enter.FullBlocks (blocks_wanted t c) (blocks_free t)) (enter.Entered w.serial))) (r.fits c)
    ∙ ap (λ z. cond (not (fits_ring d c)) (enter.FullRing z (free_in t)) (cond (not (nat_le (blocks_wanted t c) (blocks_free t))) (enter.FullBlocks (blocks_wanted t c) (blocks_free t)) (enter.Entered w.serial))) (need_same t d c r)
    ∙ ap (λ z. cond (not (fits_ring d c)) (enter.FullRing (ring.need d.ring (entry_length_in d c)) z) (cond (not (nat_le (blocks_wanted t c) (blocks_free t))) (enter.FullBlocks (blocks_wanted t c) (blocks_free t)) (enter.Entered w.serial))) r.free
    ∙ ap (λ z. cond (not (fits_ring d c)) (enter.FullRing (ring.need d.ring (entry_length_in d c)) (ring.free d.ring)) (cond (not z) (enter.FullBlocks (blocks_wanted t c) (blocks_free t)) (enter.Entered w.serial))) (r.enough c)
    ∙ ap (λ z. cond (not (fits_ring d c)) (enter.FullRing (ring.need d.ring (entry_length_in d c)) (ring.free d.ring)) (cond (not (fits_blocks d c)) (enter.FullBlocks z (blocks_free t)) (enter.Entered w.serial))) (r.wanted c)
    ∙ ap (λ z. cond (not (fits_ring d c)) (enter.FullRing (ring.need d.ring (entry_length_in d c)) (ring.free d.ring)) (cond (not (fits_blocks d c)) (enter.FullBlocks (blocks_in d c) z) (enter.Entered w.serial))) r.blocks

pub enter_same : (front : List ℕ) (t : TargetState) (d : DeviceState) (lists : List Taken) → IsSound d → ListsSound d lists → RingStands front t.items d lists → TargetKeeps t d lists → target_enter_answer t ≡ enter_answer d
unfolding target_enter_answer enter_answer
enter_same front t d lists sound owned shape keeps =
    ap (enter_or_full t) keeps.delayed ∙ enter_list t d d.delayed (rooms front t d lists sound owned shape keeps)

pub block_same : (t : TargetState) (d : DeviceState) (lists : List Taken) (b : Bool) → TargetKeeps t d lists → target_block_answer t b ≡ block_answer d b
unfolding target_block_answer block_answer
block_same t d lists b keeps = ap (λ z. cond b (not z) z) keeps.blocked
