-- The dumps of a list are dumps of the code, since each is the picture of a sound device that has accepted fewer than 2^64 commands.
use Rattle.std.proofs.Common.{ℕ, suc, ◌+◌, ◌<◌, ◌≤◌, Bool, true, false, cond, List, [], ◌∷◌, length, sym, subst, arith}
use Rattle.std.specs.List.{filter}
use Rattle.tcmu_model.specs.BlockLists.{Taken, lists_after}
use Rattle.tcmu_model.specs.Device.{Device}
use Rattle.region_model.specs.Picture.{picture_of}
use Rattle.text_model.specs.ScenarioData.{DeviceLineData}
use Rattle.tcmu_types.specs.Lists.{Every}
use Rattle.tcmu_model.specs.Steps.{HandlerRelation, most_accepted}
use Rattle.text_model.specs.Printed.{Printed, AnEntry, ADump, OutsideLine, device_of, is_about, RunPrints}
use Rattle.tcmu_types.proofs.Everies.{every-filter, every_at}
use Rattle.tcmu_types.proofs.Places.{get_within}
use Rattle.text_laws.specs.Devices.{IsSpelledDevice}
use Rattle.text_laws.specs.Dumps.{IsDumpValue}
use Rattle.text_laws.specs.Printed.{HasEventValue, IsValue, AreValues, IsPrintOf}
use Rattle.text_laws.specs.Values.{IsNumber}
use Rattle.text_laws.proofs.Accepted.{accepts_one}
use Rattle.text_laws.proofs.Asked.{HasAccepted, more_accepted, step_accepts}
use Rattle.text_laws.proofs.Legal.{each_of}
use Rattle.text_laws.proofs.Pictured.{picture_few}
use Rattle.text_laws.proofs.Replays.{opened_count, accepted_none}
use Rattle.text_laws.proofs.RunLists.{AreShort, short_after, short_few}

run_values : (R : HandlerRelation) (n : ℕ) (d d' : Device) (lists lists' : List Taken) (ps : List Printed) → HasAccepted n d → AreShort lists → IsNumber (n + length ps) → Every HasEventValue ps → RunPrints R picture_of d lists ps d' lists' → Every IsValue ps
run_values R n d d' lists lists' [] h short lt v r = tt
run_values R n d d' lists lists' (AnEntry j ∷ ps) h short lt v r =
    let after = more_accepted (n + most_accepted j.entry.event) (n + 1) r.0 (omega (arith, accepts_one j.entry.event)) (step_accepts R n d r.0 j.entry h r.1) in
    let later = short_after d.state r.0.state lists j.entry.event j.entry.answer h.sound short in
    (v.0, run_values R (n + 1) r.0 d' (lists_after d.state lists j.entry.event j.entry.answer r.0.state) lists' ps after later (omega (arith, lt)) v.1 r.3)
run_values R n d d' lists lists' (ADump at dump ∷ ps) h short lt v r =
    (subst IsDumpValue (sym r.0) (picture_few d.state lists h.sound (short_few d.state lists short) (omega (arith, h.few, lt))), run_values R n d d' lists lists' ps h short (omega (arith, lt)) v.1 r.1)
run_values R n d d' lists lists' (OutsideLine at text ∷ ps) h short lt v r = (tt, run_values R n d d' lists lists' ps h short (omega (arith, lt)) v.1 r)

fewer : (p : Printed → Bool) (ps : List Printed) → length (filter p ps) ≤ length ps
fewer p [] = omega arith
fewer p (q ∷ ps) = go (p q) (fewer p ps)
  where
    go : (b : Bool) → length (filter p ps) ≤ length ps → length (cond b (q ∷ filter p ps) (filter p ps)) ≤ suc (length ps)
    go true h = omega (arith, h)
    go false h = omega (arith, h)

pub all_values : (R : HandlerRelation) (ls : List DeviceLineData) (opened : List Device) (ps : List Printed) (ends : List Device) (text : List ℕ) → Every IsSpelledDevice ls → AreValues ps → IsPrintOf R ls opened ps ends text → Every IsValue ps
all_values R ls opened ps ends text sp values is = each_of device_of IsValue (length ls) ps is.list.devices own
  where
    own : (k : ℕ) → k < length ls → Every IsValue (filter (is_about k) ps)
    own k lt =
        let first = get_within opened k (omega (arith, lt, opened_count ls opened is.list.opens)) in
        let last = get_within ends k (omega (arith, lt, is.list.count)) in
        let start = every_at (HasAccepted 0) opened k first.0 (accepted_none ls opened sp is.list.opens) first.1 in
        let own = is.pictures k first.0 last.0 first.1 last.1 in
        run_values R 0 first.0 last.0 [] own.lists (filter (is_about k) ps) start tt (omega (arith, fewer (is_about k) ps, values.few)) (every-filter (is_about k) HasEventValue ps values.events) own.run
