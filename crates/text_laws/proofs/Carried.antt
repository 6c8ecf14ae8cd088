-- What is read of a scenario carries bytes, and tags of 32 bits.
use Rattle.std.proofs.Common.{◌≡◌, ℕ, zero, suc, ◌+◌, ◌-◌, ◌*◌, ◌<◌, ◌≤◌, Bool, true, false, cond, ◌&&◌, nat_eq, nat_lt, nat_le, List, [], ◌∷◌, ◌++◌, length, replicate, drop, get_or, Option, Some, None, Result, Ok, Err, All, refl, sym, subst, arith, codes}
use Rattle.std.specs.List.{list_all, flat_map}
use Rattle.std.specs.Option.{option_map, option_and_then, ok_or}
use Rattle.std.proofs.lemmas.Bool.{and_parts, leb-true}
use Rattle.std.proofs.lemmas.List.Elements.{All-head, All-tail}
use Rattle.tcmu_types.specs.Rules.{is_directed}
use Rattle.tcmu_types.specs.Data.{CommandData}
use Rattle.tcmu_types.specs.Events.{EventData}
use Rattle.tcmu_types.specs.Events as ev
use Rattle.tcmu_types.specs.Reading.{each}
use Rattle.text_model.specs.Fields.{is_cdb, cdb_of, run_of, runs_of, name_of, serials_of}
use Rattle.tcmu_types.specs.Hex.{hex_value, hex_pair, bytes_of_hex}
use Rattle.tcmu_types.specs.Decimals.{is_digit, number_of}
use Rattle.tcmu_types.specs.Fields.{after_word, only_if, pieces, before_hash, fields_of, is_allowed}
use Rattle.text_model.specs.Words.{verb_of}
use Rattle.text_model.specs.Lines.{one_field, three_fields, submit_fields, device_fields, DeviceFields, LastFields, last_fields, PayloadField, NoPayload, InBytes, OutRuns}
use Rattle.text_model.specs.Config.{ConfigData, config_of}
use Rattle.text_model.specs.ScenarioData.{DeviceLineData, LineData, LineWhat, EventLine, DrainLine, DumpLine, ScenarioData}
use Rattle.text_model.specs.ScenarioRules.{IsDeviceLine}
use Rattle.text_model.specs.Said.{Said, SaysDevice, SaysLine, device_at, new_name, device_config, is_own, settings_of, payload_of, device_line, submit_line, plain_line, number_at, number_line, tmr_line, said_by}
use Rattle.text_model.specs.Scenario.{with_rules, is_not_yet, with_said, with_fields, with_text, with_lines, nothing_yet, scenario_within, Bad}
use Rattle.tcmu_types.specs.Lists.{Every}
use Rattle.text_model.specs.declared.faults.ConfigFault.{ConfigFault}
use Rattle.text_model.specs.declared.faults.Why.{Why}
use Rattle.text_model.specs.declared.faults.Why.TheVariants as why
use Rattle.text_model.specs.declared.words.Verb.{Verb}
use Rattle.text_model.specs.declared.words.Verb.TheVariants as verb
use Rattle.tcmu_types.proofs.Readings.{same_some, same_ok, step, read_step, both, mapped, passed, number_within}
use Rattle.tcmu_types.proofs.Everies.{every-append}
use Rattle.text_model.proofs.ScenarioLaws.{kept_line, kept_device, scenario_is}
use Rattle.text_model.specs.declared.limits.Limits.{Limits}
use Rattle.text_laws.specs.Bytes.{AreBytes}
use Rattle.text_laws.specs.Lines.{IsCarried, CarriesBytes}
use Rattle.text_laws.specs.Configs.{FileLacks}
use Rattle.text_laws.specs.Devices.{IsSpelledDevice}
use Rattle.text_laws.specs.Carried.{IsCarriedWhat, CarriedRead, SpelledRead}
use Rattle.text_laws.proofs.Spelled.{Lacks, config_legible, config_lacks, fields_lack}

-- ---- bytes

bytes_join : (a b : List ℕ) → AreBytes a → AreBytes b → AreBytes (a ++ b)
bytes_join [] b h k = k
bytes_join (x ∷ a) b h k = (h.0, bytes_join a b h.1 k)

bytes_copies : (n x : ℕ) → x < 256 → AreBytes (replicate n x)
bytes_copies zero x h = tt
bytes_copies (suc n) x h = (h, bytes_copies n x h)

digit_small : (c x : ℕ) → hex_value c ≡ Some x → x < 16
digit_small c x e = go (is_digit c) (nat_le 97 c && nat_le c 102) refl refl e
  where
    go : (a b : Bool) → is_digit c ≡ a → (nat_le 97 c && nat_le c 102) ≡ b → ◌≡◌ {A = Option ℕ} (cond a (Some (c - 48)) (cond b (Some (c - 87)) None)) (Some x) → x < 16
    go true b p q e =
        let high : c ≤ 57 = leb-true c 57 (and_parts (nat_le 48 c) (nat_le c 57) p).1 in
        omega (arith, high, same_some (c - 48) x e)
    go false true p q e =
        let high : c ≤ 102 = leb-true c 102 (and_parts (nat_le 97 c) (nat_le c 102) q).1 in
        omega (arith, high, same_some (c - 87) x e)
    go false false p q e = absurd (cc)

pair_small : (a b x : ℕ) → hex_pair a b ≡ Some x → x < 256
pair_small a b x e =
    let h = both _ (hex_value a) x e in
    let k = both _ (hex_value b) x h.2 in
    omega (arith, digit_small a h.0 h.1, digit_small b k.0 k.1, same_some (16 * h.0 + k.0) x k.2)

hex_bytes : (text bytes : List ℕ) → bytes_of_hex text ≡ Some bytes → AreBytes bytes
hex_bytes [] bytes e = subst AreBytes (same_some [] bytes e) tt
hex_bytes (a ∷ []) bytes e = absurd (cc)
hex_bytes (a ∷ b ∷ rest) bytes e =
    let h = both (λ x. option_map (λ xs. x ∷ xs) (bytes_of_hex rest)) (hex_pair a b) bytes e in
    let k = mapped (λ xs. h.0 ∷ xs) (bytes_of_hex rest) bytes h.2 in
    subst AreBytes (sym k.2) (pair_small a b h.0 h.1, hex_bytes rest k.0 k.1)

cdb_bytes : (text cdb : List ℕ) → cdb_of text ≡ Some cdb → AreBytes cdb
unfolding cdb_of
cdb_bytes text cdb e =
    let h = both (only_if is_cdb) (bytes_of_hex text) cdb e in
    subst AreBytes (passed is_cdb h.0 cdb h.2).1 (hex_bytes text h.0 h.1)

run_bytes : (text bytes : List ℕ) → run_of text ≡ Some bytes → AreBytes bytes
run_bytes text bytes e = go (nat_lt (length text) 3) (nat_eq (get_or text 2 0) 42) e
  where
    go : (a b : Bool) → ◌≡◌ {A = Option (List ℕ)} (cond a None (cond b (option_and_then (λ x. option_map (λ n. replicate n x) (number_of 1 1048576 (drop 3 text))) (hex_pair (get_or text 0 0) (get_or text 1 0))) None)) (Some bytes) → AreBytes bytes
    go true b e = absurd (cc)
    go false false e = absurd (cc)
    go false true e =
        let h = both (λ x. option_map (λ n. replicate n x) (number_of 1 1048576 (drop 3 text))) (hex_pair (get_or text 0 0) (get_or text 1 0)) bytes e in
        let k = mapped (λ n. replicate n h.0) (number_of 1 1048576 (drop 3 text)) bytes h.2 in
        subst AreBytes (sym k.2) (bytes_copies k.0 h.0 (pair_small (get_or text 0 0) (get_or text 1 0) h.0 h.1))

each_bytes : (ps : List (List ℕ)) (xs : List (List ℕ)) → each run_of ps ≡ Some xs → AreBytes (flat_map (λ r. r) xs)
each_bytes [] xs e = subst (λ (ys : List (List ℕ)). AreBytes (flat_map (λ r. r) ys)) (same_some [] xs e) tt
each_bytes (p ∷ ps) xs e =
    let h = both (λ y. option_map (λ ys. y ∷ ys) (each run_of ps)) (run_of p) xs e in
    let k = mapped (λ ys. h.0 ∷ ys) (each run_of ps) xs h.2 in
    subst (λ (ys : List (List ℕ)). AreBytes (flat_map (λ r. r) ys)) (sym k.2) (bytes_join h.0 (flat_map (λ r. r) k.0) (run_bytes p h.0 h.1) (each_bytes ps k.0 k.1))

runs_bytes : (text bytes : List ℕ) → runs_of text ≡ Some bytes → AreBytes bytes
unfolding runs_of
runs_bytes text bytes e =
    let h = both (λ (runs : List (List ℕ)). only_if (λ (bytes : List ℕ). nat_le (length bytes) 1048576) (flat_map (λ r. r) runs)) (each run_of (pieces 44 text)) bytes e in
    let k = passed (λ (bytes : List ℕ). nat_le (length bytes) 1048576) (flat_map (λ r. r) h.0) bytes h.2 in
    subst AreBytes k.1 (each_bytes (pieces 44 text) h.0 h.1)

-- ---- lines

-- a config that has a text in a scenario
abbrev IsLegible : ConfigData → Type 0
IsLegible c = (0 < length c.fails → c.protected ≡ false) × FileLacks 58 c.kind × FileLacks 35 c.kind

abbrev IsCarriedSaid : Said → Type 0
IsCarriedSaid (SaysDevice d) = IsLegible d.config
IsCarriedSaid (SaysLine l) = IsCarriedWhat l.what

payload_bytes : (p : PayloadField) (x : List ℕ × ℕ) → payload_of p ≡ Ok x → AreBytes x.0
payload_bytes NoPayload x e = subst (λ (y : List ℕ × ℕ). AreBytes y.0) (same_ok _ x e) tt
payload_bytes (InBytes text) x e = go (number_of 0 1048576 text) e
  where
    go : (o : Option ℕ) → ok_or (option_map (λ (n : ℕ). let y : List ℕ × ℕ = ([], n) in y) o) why.Number ≡ Ok x → AreBytes x.0
    go None e = absurd (cc)
    go (Some n) e = subst (λ (y : List ℕ × ℕ). AreBytes y.0) (same_ok _ x e) tt
payload_bytes (OutRuns text) x e = go (runs_of text) refl e
  where
    go : (o : Option (List ℕ)) → runs_of text ≡ o → ok_or (option_map (λ (bytes : List ℕ). let y : List ℕ × ℕ = (bytes, 0) in y) o) why.Runs ≡ Ok x → AreBytes x.0
    go None is e = absurd (cc)
    go (Some bytes) is e = subst (λ (y : List ℕ × ℕ). AreBytes y.0) (same_ok _ x e) (runs_bytes text bytes is)

submit_carries : (s : ScenarioData) (fields : List (List ℕ)) (said : Said) → submit_line s fields ≡ Ok said → IsCarriedSaid said
unfolding submit_line
submit_carries s fields said e =
    let f = read_step (submit_fields fields) why.Fields _ said e in
    let at = read_step (device_at s f.0.name) why.Name _ said f.2 in
    let init = read_step (name_of f.0.init) why.Init _ said at.2 in
    let tag = read_step (number_of 0 4294967295 f.0.tag) why.Number _ said init.2 in
    let cdb = read_step (cdb_of f.0.cdb) why.Cdb _ said tag.2 in
    let payload = step (payload_of f.0.payload) _ said cdb.2 in
    let c : CommandData = record { init = init.0; tag = tag.0; cdb = cdb.0; sent = payload.0.0; in_len = payload.0.1 } in
    let command = read_step (only_if is_directed c) why.Direction _ said payload.2 in
    let way = passed is_directed c command.0 command.1 in
    let w = number_within 0 4294967295 tag.0 f.0.tag tag.1 in
    let carried : IsCarried c = record { tag = w.most; cdb = cdb_bytes f.0.cdb cdb.0 cdb.1; sent = payload_bytes f.0.payload payload.0 payload.1 } in
    subst IsCarriedSaid (same_ok _ said command.2) (subst IsCarried way.1 carried)

config_carries : (s : ScenarioData) (name text : List ℕ) (c : ConfigData) → Lacks 35 text → device_config s name text ≡ Some c → IsLegible c
unfolding device_config
config_carries s name text c clean e = go (config_of text) refl e
  where
    go : (r : Result ConfigData ConfigFault) → config_of text ≡ r → ◌≡◌ {A = Option ConfigData} (elim r [ Ok d ↦ only_if (is_own s name) d | Err f ↦ None ]) (Some c) → IsLegible c
    go (Err f) is e = absurd (cc)
    go (Ok d) is e =
        let same = passed (is_own s name) d c e in
        let legible = config_legible text d is in
        subst IsLegible same.1 (legible.1, legible.0, config_lacks 35 text d clean is)

config_field : (fields : List (List ℕ)) (f : DeviceFields) → Every (Lacks 35) fields → device_fields fields ≡ Some f → Lacks 35 f.config
unfolding device_fields
config_field (name ∷ config ∷ ring ∷ blocks ∷ flags ∷ timeout ∷ more) f clean e =
    go (after_word (codes "ring=") ring) (after_word (codes "blocks=") blocks) (after_word (codes "flags=") flags) (after_word (codes "timeout=") timeout) (last_fields more) e
  where
    read : List ℕ → List ℕ → List ℕ → List ℕ → LastFields → DeviceFields
    read r b g t l = record { name = name; config = config; ring = r; blocks = b; flags = g; timeout = t; last = l }

    go : (r b g t : Option (List ℕ)) (l : Option LastFields) → option_and_then (λ r. option_and_then (λ b. option_and_then (λ g. option_and_then (λ t. option_map (λ l. read r b g t l) l) t) g) b) r ≡ Some f → Lacks 35 f.config
    go (Some r) (Some b) (Some g) (Some t) (Some l) e = subst (λ (x : DeviceFields). Lacks 35 x.config) (same_some (read r b g t l) f e) clean.1.0
    go None b g t l e = absurd (cc)
    go (Some r) None g t l e = absurd (cc)
    go (Some r) (Some b) None t l e = absurd (cc)
    go (Some r) (Some b) (Some g) None l e = absurd (cc)
    go (Some r) (Some b) (Some g) (Some t) None e = absurd (cc)
config_field [] f clean e = absurd (cc)
config_field (a ∷ []) f clean e = absurd (cc)
config_field (a ∷ b ∷ []) f clean e = absurd (cc)
config_field (a ∷ b ∷ c ∷ []) f clean e = absurd (cc)
config_field (a ∷ b ∷ c ∷ d ∷ []) f clean e = absurd (cc)
config_field (a ∷ b ∷ c ∷ d ∷ g ∷ []) f clean e = absurd (cc)

device_carries : (s : ScenarioData) (fields : List (List ℕ)) (said : Said) → Every (Lacks 35) fields → device_line s fields ≡ Ok said → IsCarriedSaid said
unfolding device_line
device_carries s fields said clean e =
    let f = read_step (device_fields fields) why.Fields _ said e in
    let name = read_step (new_name s f.0.name) why.Name _ said f.2 in
    let config = read_step (device_config s name.0 f.0.config) why.Config _ said name.2 in
    let settings = step (settings_of f.0) _ said config.2 in
    subst IsCarriedSaid (same_ok _ said settings.2) (config_carries s name.0 f.0.config config.0 (config_field fields f.0 clean f.1) config.1)

plain_carries : (s : ScenarioData) (what : LineWhat) (fields : List (List ℕ)) (said : Said) → IsCarriedWhat what → plain_line s what fields ≡ Ok said → IsCarriedSaid said
unfolding plain_line
plain_carries s what fields said sound e =
    let name = read_step (one_field fields) why.Fields _ said e in
    let at = read_step (device_at s name.0) why.Name _ said name.2 in
    subst IsCarriedSaid (same_ok _ said at.2) sound

number_carries : (s : ScenarioData) (low high : ℕ) (event : ℕ → EventData) (fields : List (List ℕ)) (said : Said) → ((n : ℕ) → CarriesBytes (event n)) → number_line s low high event fields ≡ Ok said → IsCarriedSaid said
number_carries s low high event fields said sound e =
    let x = step (number_at s low high fields) _ said e in
    subst IsCarriedSaid (same_ok _ said x.2) (sound x.0.1)

tmr_carries : (s : ScenarioData) (fields : List (List ℕ)) (said : Said) → tmr_line s fields ≡ Ok said → IsCarriedSaid said
unfolding tmr_line
tmr_carries s fields said e =
    let f = read_step (three_fields fields) why.Fields _ said e in
    let at = read_step (device_at s f.0.0) why.Name _ said f.2 in
    let kind = read_step (number_of 1 7 f.0.1) why.Number _ said at.2 in
    let serials = read_step (serials_of f.0.2) why.Number _ said kind.2 in
    subst IsCarriedSaid (same_ok _ said serials.2) tt

said_carries : (s : ScenarioData) (v : Verb) (fields : List (List ℕ)) (said : Said) → Every (Lacks 35) fields → said_by s v fields ≡ Ok said → IsCarriedSaid said
unfolding said_by
said_carries s verb.Device fields said clean e = device_carries s fields said clean e
said_carries s verb.Submit fields said clean e = submit_carries s fields said e
said_carries s verb.Dispatch fields said clean e = plain_carries s (EventLine ev.Dispatch) fields said tt e
said_carries s verb.Handle fields said clean e = number_carries s 1 1000000000 ev.Handle fields said (λ n. tt) e
said_carries s verb.Respond fields said clean e = number_carries s 1 1000000000 ev.Respond fields said (λ n. tt) e
said_carries s verb.Publish fields said clean e = plain_carries s (EventLine ev.Publish) fields said tt e
said_carries s verb.Clean fields said clean e = plain_carries s (EventLine ev.Clean) fields said tt e
said_carries s verb.Enter fields said clean e = plain_carries s (EventLine ev.Enter) fields said tt e
said_carries s verb.Tick fields said clean e = number_carries s 0 1000000 ev.Tick fields said (λ n. tt) e
said_carries s verb.Block fields said clean e = plain_carries s (EventLine ev.Block) fields said tt e
said_carries s verb.Unblock fields said clean e = plain_carries s (EventLine ev.Unblock) fields said tt e
said_carries s verb.Reset fields said clean e = number_carries s 1 2 ev.Reset fields said (λ n. tt) e
said_carries s verb.Restart fields said clean e = plain_carries s (EventLine ev.Restart) fields said tt e
said_carries s verb.Tmr fields said clean e = tmr_carries s fields said e
said_carries s verb.Stat fields said clean e = plain_carries s (EventLine ev.Stat) fields said tt e
said_carries s verb.Dump fields said clean e = plain_carries s DumpLine fields said tt e
said_carries s verb.Drain fields said clean e = plain_carries s DrainLine fields said tt e

-- ---- scenarios

record IsCarriedAll (s : ScenarioData) : Type 0 where
  lines : Every (λ l. IsCarriedWhat l.what) s.lines
  devices : Every (λ d. IsLegible d.config) s.devices

rules_carry : (limits : Limits) (s t : ScenarioData) (said : Said) → IsCarriedAll s → IsCarriedSaid said → with_rules limits s said ≡ Ok t → IsCarriedAll t
rules_carry limits s t (SaysDevice d) k n e = subst IsCarriedAll (kept_device s t d e).0 (record { lines = k.lines; devices = every-append (λ (x : DeviceLineData). IsLegible x.config) s.devices (d ∷ []) k.devices (n, tt) })
rules_carry limits s t (SaysLine l) k n e = subst IsCarriedAll (kept_line limits s t l e).0 (record { lines = every-append (λ (x : LineData). IsCarriedWhat x.what) s.lines (l ∷ []) k.lines (n, tt); devices = k.devices })

with_said_carries : (limits : Limits) (s t : ScenarioData) (said : Said) → IsCarriedAll s → IsCarriedSaid said → with_said limits s said ≡ Ok t → IsCarriedAll t
unfolding with_said
with_said_carries limits s t said k n e =
    let a = step (with_rules limits s said) _ t e in
    subst IsCarriedAll (served (is_not_yet s said) a.0 a.2) (rules_carry limits s a.0 said k n a.1)
  where
    served : (b : Bool) (u : ScenarioData) → ◌≡◌ {A = Result ScenarioData Why} (cond b (Err why.NotYet) (Ok u)) (Ok t) → u ≡ t
    served true u e = absurd (cc)
    served false u e = same_ok u t e

with_fields_carries : (limits : Limits) (s t : ScenarioData) (fields : List (List ℕ)) → Every (Lacks 35) fields → IsCarriedAll s → with_fields limits s fields ≡ Ok t → IsCarriedAll t
unfolding with_fields
with_fields_carries limits s t [] clean k e = subst IsCarriedAll (same_ok s t e) k
with_fields_carries limits s t (word ∷ fields) clean k e =
    let v = read_step (verb_of word) why.Verb _ t e in
    let said = step (said_by s v.0 fields) _ t v.2 in
    with_said_carries limits s t said.0 k (said_carries s v.0 fields said.0 clean.1 said.1) said.2

with_text_carries : (limits : Limits) (s t : ScenarioData) (text : List ℕ) → IsCarriedAll s → with_text limits s text ≡ Ok t → IsCarriedAll t
unfolding with_text
with_text_carries limits s t text k e = go (list_all is_allowed (before_hash text)) e
  where
    go : (b : Bool) → ◌≡◌ {A = Result ScenarioData Why} (cond b (with_fields limits s (fields_of (before_hash text))) (Err why.Byte)) (Ok t) → IsCarriedAll t
    go true e = with_fields_carries limits s t (fields_of (before_hash text)) (fields_lack text) k e
    go false e = absurd (cc)

with_lines_carries : (limits : Limits) (n : ℕ) (s t : ScenarioData) (texts : List (List ℕ)) → IsCarriedAll s → with_lines limits n s texts ≡ Ok t → IsCarriedAll t
with_lines_carries limits n s t [] k e = subst IsCarriedAll (same_ok s t e) k
with_lines_carries limits n s t (text ∷ texts) k e = go (with_text limits s text) refl e (λ u. with_lines_carries limits (n + 1) u t texts)
  where
    go : (r : Result ScenarioData Why) → with_text limits s text ≡ r → ◌≡◌ {A = Result ScenarioData Bad} (elim r [ Ok u ↦ with_lines limits (n + 1) u texts | Err f ↦ Err (record { line = n; why = f }) ]) (Ok t) → ((u : ScenarioData) → IsCarriedAll u → with_lines limits (n + 1) u texts ≡ Ok t → IsCarriedAll t) → IsCarriedAll t
    go (Err f) is e more = absurd (cc)
    go (Ok u) is e more = more u (with_text_carries limits s u text k is) e

read_carries : (limits : Limits) (bytes : List ℕ) (s : ScenarioData) → scenario_within limits bytes ≡ Ok s → IsCarriedAll s
unfolding scenario_within
read_carries limits bytes s e = go (nat_lt limits.bytes (length bytes)) e
  where
    go : (b : Bool) → ◌≡◌ {A = Result ScenarioData Bad} (cond b (Err (record { line = 0; why = why.TooLong })) (with_lines limits 1 nothing_yet (pieces 10 bytes))) (Ok s) → IsCarriedAll s
    go true e = absurd (cc)
    go false e = with_lines_carries limits 1 nothing_yet s (pieces 10 bytes) (record { lines = tt; devices = tt }) e

pub carried_read : CarriedRead
carried_read limits bytes s e = let carries = read_carries limits bytes s e in carries.lines

-- both what a device line keeps and that its config has a text
spelled_each : (ds : List DeviceLineData) → All IsDeviceLine ds → Every (λ d. IsLegible d.config) ds → Every IsSpelledDevice ds
spelled_each [] all each = tt
spelled_each (d ∷ ds) all each =
    let is = All-head IsDeviceLine d ds all in
    (record { line = is; config = record { config = is.config; one = each.0.0; file = each.0.1 }; file = each.0.2 }, spelled_each ds (All-tail IsDeviceLine d ds all) each.1)

pub spelled_read : SpelledRead
spelled_read limits bytes s e =
    let carries = read_carries limits bytes s e in
    let is = scenario_is limits bytes s e in
    spelled_each s.devices is.devices carries.devices
