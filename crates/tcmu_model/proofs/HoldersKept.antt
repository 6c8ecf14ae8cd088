-- The events that lay, clean and reset nothing keep the commands and the items that block lists are of.
use Rattle.std.proofs.Common.{◌≡◌, ℕ, Bool, true, false, List, [], ◌∷◌, map, None, refl, ap, ◌∙◌, ⊎_elim, if◌then◌else◌}
use Rattle.std.specs.List.{list_any}
use Rattle.std.proofs.lemmas.Bool.{cases_Bool}
use Rattle.tcmu_types.specs.Data.{CommandData, ReplyData}
use Rattle.tcmu_types.specs.Lists.{with_first}
use Rattle.tcmu_types.specs.Numbers.{is_among}
use Rattle.tcmu_types.specs.declared.answer.Submit.TheVariants as submit
use Rattle.tcmu_types.proofs.Everies.{map_kept}
use Rattle.tcmu_model.specs.declared.state.CommandState.{CommandState}
use Rattle.tcmu_model.specs.declared.state.CommandState.TheVariants.{Waiting, Out, Handled, Parked, Placed, Lost}
use Rattle.tcmu_model.specs.RingState.{Laid, Pad, Cmd, Tmr}
use Rattle.tcmu_model.specs.Device.{Unfinished, DeviceState, is_at, has_state}
use Rattle.tcmu_model.specs.Events.{with_delayed, after_submit, in_state, turned, after_item, after_dispatch, with_reply, after_handle, Placing, with_placed, run_placed, placed_by, placing, with_parked, after_respond, after_publish, later, is_due, expire, after_tick, after_block, answered, is_losing, lose, after_restart}
use Rattle.tcmu_model.specs.BlockLists.{Taken}
use Rattle.tcmu_model.specs.Owned.{ListsSound}
use Rattle.tcmu_types.proofs.Firsts.{map-with_first}
use Rattle.tcmu_model.proofs.Unnamed.{dispatch_kept, respond_kept, publish_kept}
use Rattle.tcmu_model.proofs.ListsKept.{Called, called, Holders, holders, lists_same}

-- ==== the commands

called-turned : (s : ℕ) (a b : CommandState) (us : List Unfinished) → map called (turned s a b us) ≡ map called us
called-turned s a b us = map-with_first (is_at s a) (in_state b) called us (λ u. refl)

called-item : (us : List Unfinished) (n : ℕ) (l : Laid) → map called (after_item us (record { len = n; laid = l })) ≡ map called us
called-item us n Pad = refl
called-item us n (Cmd s c) = called-turned s Waiting Out us
called-item us n (Tmr kind ss) = refl

called-run : (p : Placing) (ss : List ℕ) → map called (run_placed p ss).unfinished ≡ map called p.unfinished
called-run p [] = refl
called-run p (s ∷ ss) =
    ⊎_elim
    (λ (e : is_among p.placed s ≡ true). rw e (called-run p ss))
    (λ (e : is_among p.placed s ≡ false).
    ⊎_elim
    (λ (k : list_any (is_at s Parked) p.unfinished ≡ true). rw (e, k) (called-run (with_placed p s) ss ∙ called-turned s Parked Placed p.unfinished))
    (λ (k : list_any (is_at s Parked) p.unfinished ≡ false). rw (e, k) refl)
    (cases_Bool (list_any (is_at s Parked) p.unfinished)))
    (cases_Bool (is_among p.placed s))

called-placed : (ooo : Bool) (p : Placing) (s : ℕ) (ss : List ℕ) → map called (placed_by ooo p s ss).unfinished ≡ map called p.unfinished
called-placed true p s ss = called-turned s Parked Placed p.unfinished
called-placed false p s ss = called-run p ss

called-expire : (now : ℕ) (u : Unfinished) → called (expire now u) ≡ called u
called-expire now u = go (is_due now u)
  where
    go : (b : Bool) → called (if b then record u { expired = true } else u) ≡ called u
    go true = refl
    go false = refl

called-lose : (ps : List ℕ) (u : Unfinished) → called (lose ps u) ≡ called u
called-lose ps u = go (is_losing ps u)
  where
    go : (b : Bool) → called (if b then record u { state = Lost; reply = if has_state Placed u then u.reply else None } else u) ≡ called u
    go true = refl
    go false = refl

-- ==== the events

-- other commands in the place of these
holders_with : (d : DeviceState) (us : List Unfinished) → map called us ≡ map called d.unfinished → holders (record d { unfinished = us }) ≡ holders d
holders_with d us e = ap (λ (cs : List Called). let h : Holders = record (holders d) { unfinished = cs } in h) e

holders_delayed : (d : DeviceState) (c : CommandData) (s : ℕ) → holders (after_submit d c (submit.Delayed s)) ≡ holders d
unfolding after_submit with_delayed
holders_delayed d c s = refl

holders_dispatched : (d : DeviceState) → holders (after_dispatch d) ≡ holders d
holders_dispatched d = dispatch_kept holders d (λ i. holders_with d (after_item d.unfinished i) (called-item d.unfinished i.len i.laid))

holders_handled : (d : DeviceState) (s : ℕ) (reply : ReplyData) → holders (after_handle d s reply) ≡ holders d
unfolding after_handle
holders_handled d s reply = holders_with d (with_first (is_at s Out) (with_reply reply) d.unfinished) (map-with_first (is_at s Out) (with_reply reply) called d.unfinished (λ u. refl))

holders_responded : (d : DeviceState) (s : ℕ) → holders (after_respond d s) ≡ holders d
holders_responded d s =
    let p : Placing = record { placed = d.placed; unfinished = with_parked d s } in
    respond_kept holders d s (holders_with d (placing d s).unfinished (called-placed d.settings.flags.ooo p s _ ∙ called-turned s Handled Parked d.unfinished))

holders_published : (d : DeviceState) → holders (after_publish d) ≡ holders d
holders_published d = publish_kept holders d refl

holders_ticked : (d : DeviceState) (n : ℕ) → holders (after_tick d n) ≡ holders d
unfolding after_tick
holders_ticked d n = holders_with d (map (expire (later d.now n)) d.unfinished) (map_kept (expire (later d.now n)) called d.unfinished (called-expire (later d.now n)))

holders_blocked : (d : DeviceState) (b : Bool) → holders (after_block d b) ≡ holders d
unfolding after_block
holders_blocked d b = refl

holders_restarted : (d : DeviceState) → holders (after_restart d) ≡ holders d
unfolding after_restart
holders_restarted d = holders_with d (map (lose (answered d)) d.unfinished) (map_kept (lose (answered d)) called d.unfinished (called-lose (answered d)))

-- ==== so their block lists stay sound

pub lists_delayed : (d : DeviceState) (lists : List Taken) (c : CommandData) (s : ℕ) → ListsSound d lists → ListsSound (after_submit d c (submit.Delayed s)) lists
lists_delayed d lists c s h = lists_same d (after_submit d c (submit.Delayed s)) lists (holders_delayed d c s) h

pub lists_dispatched : (d : DeviceState) (lists : List Taken) → ListsSound d lists → ListsSound (after_dispatch d) lists
lists_dispatched d lists h = lists_same d (after_dispatch d) lists (holders_dispatched d) h

pub lists_handled : (d : DeviceState) (lists : List Taken) (s : ℕ) (reply : ReplyData) → ListsSound d lists → ListsSound (after_handle d s reply) lists
lists_handled d lists s reply h = lists_same d (after_handle d s reply) lists (holders_handled d s reply) h

pub lists_turned : (d : DeviceState) (lists : List Taken) (s : ℕ) (a b : CommandState) → ListsSound d lists → ListsSound (record d { unfinished = turned s a b d.unfinished }) lists
lists_turned d lists s a b h = lists_same d (record d { unfinished = turned s a b d.unfinished }) lists (holders_with d (turned s a b d.unfinished) (called-turned s a b d.unfinished)) h

pub lists_responded : (d : DeviceState) (lists : List Taken) (s : ℕ) → ListsSound d lists → ListsSound (after_respond d s) lists
lists_responded d lists s h = lists_same d (after_respond d s) lists (holders_responded d s) h

pub lists_published : (d : DeviceState) (lists : List Taken) → ListsSound d lists → ListsSound (after_publish d) lists
lists_published d lists h = lists_same d (after_publish d) lists (holders_published d) h

pub lists_ticked : (d : DeviceState) (lists : List Taken) (n : ℕ) → ListsSound d lists → ListsSound (after_tick d n) lists
lists_ticked d lists n h = lists_same d (after_tick d n) lists (holders_ticked d n) h

pub lists_blocked : (d : DeviceState) (lists : List Taken) (b : Bool) → ListsSound d lists → ListsSound (after_block d b) lists
lists_blocked d lists b h = lists_same d (after_block d b) lists (holders_blocked d b) h

pub lists_restarted : (d : DeviceState) (lists : List Taken) → ListsSound d lists → ListsSound (after_restart d) lists
lists_restarted d lists h = lists_same d (after_restart d) lists (holders_restarted d) h
