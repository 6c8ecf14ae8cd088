-- The lines of a journal: in none of them stands a line feed.
use Rattle.std.proofs.Common.{◌≡◌, ℕ, true, IsTrue, List, [], ◌∷◌, ◌++◌, refl, sym, subst, codes}
use Rattle.std.specs.List.{flat_map}
use Rattle.std.specs.Fmt.{decimal}
use Rattle.tcmu_types.specs.Naming.{is_name}
use Rattle.tcmu_types.specs.Data.{DoneData}
use Rattle.tcmu_types.specs.Events.{EventData, AnswerData}
use Rattle.tcmu_types.specs.Events as ev
use Rattle.text_model.specs.ScenarioData.{DeviceLineData}
use Rattle.text_model.specs.Text.{spaced, sense_text, payload_text, serials_text, config_text, device_spelling, event_text, command_text, data_fields, answer_text}
use Rattle.tcmu_types.specs.Hex.{hex_byte}
use Rattle.text_laws.specs.Devices.{IsSpelledDevice}
use Rattle.text_laws.specs.Values.{IsEventValue}
use Rattle.text_laws.proofs.Asks.{AsksCommand}
use Rattle.text_laws.proofs.Fields.{name_word, hex_word}
use Rattle.text_laws.proofs.Devices.{spelled, config_word, settings_words, settings_list}
use Rattle.text_laws.proofs.Events.{data_words}
use Rattle.text_laws.proofs.Unbroken as unbroken
use Rattle.text_laws.proofs.Unbroken.{Unbroken}

-- its initiator is a name
abbrev pub Named : DoneData → Type 0
Named c = IsTrue (is_name c.init)

pub name_line : (name : List ℕ) → is_name name ≡ true → Unbroken name
name_line name h = unbroken.word name (name_word name h)

abbrev pub done_fields : List ℕ → DoneData → List (List ℕ)
done_fields name c = name ∷ decimal c.serial ∷ c.init ∷ decimal c.tag ∷ hex_byte c.status ∷ sense_text c.sense ∷ payload_text c.payload ∷ []

pub done_line : (name : List ℕ) (c : DoneData) → is_name name ≡ true → Named c → Unbroken (spaced (codes "# done") (done_fields name c))
done_line name c n h =
    unbroken.fields (codes "# done") (done_fields name c) (record { bytes = refl })
    (name_line name n, (unbroken.number c.serial, (name_line c.init h, (unbroken.number c.tag, (unbroken.pair c.status, (unbroken.sense c.sense, (unbroken.payload c.payload, tt)))))))

pub end_line : (name : List ℕ) (k : ℕ) → is_name name ≡ true → Unbroken (spaced (codes "# open") (name ∷ decimal k ∷ []))
end_line name k n = unbroken.fields (codes "# open") (name ∷ decimal k ∷ []) (record { bytes = refl }) (name_line name n, (unbroken.number k, tt))

event_alone : (name : List ℕ) (e : EventData) → is_name name ≡ true → AsksCommand e → IsEventValue e → Unbroken (event_text name e)
unfolding event_text command_text
event_alone name (ev.Submit c) n is h =
    unbroken.fields (codes "submit") (name ∷ c.init ∷ decimal c.tag ∷ flat_map hex_byte c.cdb ∷ data_fields c) (record { bytes = refl })
    (name_line name n, (name_line c.init is.init, (unbroken.number c.tag, (unbroken.word (flat_map hex_byte c.cdb) (hex_word c.cdb h.cdb is.cdb.some), unbroken.words (data_fields c) (data_words c is h)))))
event_alone name ev.Dispatch n is h = unbroken.fields (codes "dispatch") (name ∷ []) (record { bytes = refl }) (name_line name n, tt)
event_alone name (ev.Handle s) n is h = unbroken.fields (codes "handle") (name ∷ decimal s ∷ []) (record { bytes = refl }) (name_line name n, (unbroken.number s, tt))
event_alone name (ev.Respond s) n is h = unbroken.fields (codes "respond") (name ∷ decimal s ∷ []) (record { bytes = refl }) (name_line name n, (unbroken.number s, tt))
event_alone name ev.Publish n is h = unbroken.fields (codes "publish") (name ∷ []) (record { bytes = refl }) (name_line name n, tt)
event_alone name ev.Clean n is h = unbroken.fields (codes "clean") (name ∷ []) (record { bytes = refl }) (name_line name n, tt)
event_alone name ev.Enter n is h = unbroken.fields (codes "enter") (name ∷ []) (record { bytes = refl }) (name_line name n, tt)
event_alone name (ev.Tick k) n is h = unbroken.fields (codes "tick") (name ∷ decimal k ∷ []) (record { bytes = refl }) (name_line name n, (unbroken.number k, tt))
event_alone name ev.Block n is h = unbroken.fields (codes "block") (name ∷ []) (record { bytes = refl }) (name_line name n, tt)
event_alone name ev.Unblock n is h = unbroken.fields (codes "unblock") (name ∷ []) (record { bytes = refl }) (name_line name n, tt)
event_alone name (ev.Reset k) n is h = unbroken.fields (codes "reset") (name ∷ decimal k ∷ []) (record { bytes = refl }) (name_line name n, (unbroken.number k, tt))
event_alone name ev.Restart n is h = unbroken.fields (codes "restart") (name ∷ []) (record { bytes = refl }) (name_line name n, tt)
event_alone name (ev.Tmr k ss) n is h = unbroken.fields (codes "tmr") (name ∷ decimal k ∷ serials_text ss ∷ []) (record { bytes = refl }) (name_line name n, (unbroken.number k, (unbroken.serials ss, tt)))
event_alone name ev.Stat n is h = unbroken.fields (codes "stat") (name ∷ []) (record { bytes = refl }) (name_line name n, tt)

-- the line of an event with its answer, without the line feed
abbrev pub told_event : List ℕ → ℕ → EventData → AnswerData → List ℕ
told_event name qfull e a = event_text name e ++ codes " # " ++ answer_text qfull e a

pub told_line : (name : List ℕ) (qfull : ℕ) (e : EventData) (a : AnswerData) → is_name name ≡ true → AsksCommand e → IsEventValue e → Unbroken (told_event name qfull e a)
told_line name qfull e a n is h =
    unbroken.joins (event_text name e ++ codes " # ") (answer_text qfull e a) (unbroken.joins (event_text name e) (codes " # ") (event_alone name e n is h) (record { bytes = refl })) (unbroken.answer qfull e a)

-- the line of a device, without the line feed
abbrev pub told_device : DeviceLineData → List ℕ
told_device l = device_spelling l ++ codes " # ready"

pub device_told_line : (l : DeviceLineData) → IsSpelledDevice l → Unbroken (told_device l)
device_told_line l sp =
    let fs = l.name ∷ config_text l.config ∷ settings_list l.settings in
    let clean : Unbroken (device_spelling l) = subst Unbroken (sym (spelled l))
    (unbroken.fields (codes "device") fs (record { bytes = refl }) (unbroken.words fs (name_word l.name sp.line.name, (config_word l sp, settings_words l.settings sp.line.settings)))) in
    unbroken.joins (device_spelling l) (codes " # ready") clean (record { bytes = refl })
