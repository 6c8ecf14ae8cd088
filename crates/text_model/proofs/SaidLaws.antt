-- What a line says keeps the limits of lines.
use Rattle.std.proofs.Common.{◌≡◌, ℕ, ◌*◌, ◌%◌, ◌<◌, ◌≤◌, Bool, true, false, cond, ◌&&◌, not, nat_eq, nat_lt, nat_le, IsTrue, List, [], ◌∷◌, length, Option, Some, None, Result, Ok, Err, refl, sym, ◌∙◌, arith, subst, codes}
use Rattle.std.specs.List.{list_any, position, flat_map, slice_index}
use Rattle.std.specs.Option.{option_map}
use Rattle.std.specs.Str.{bytes_eq}
use Rattle.std.proofs.lemmas.Bool.{and_parts, leb-true, ltb-true, eqb-true}
use Rattle.std.proofs.lemmas.List.Elements.{All-nil}
use Rattle.std.proofs.lemmas.List.Quantifiers.{position-Some}
use Rattle.tcmu_types.specs.Naming.{is_name}
use Rattle.tcmu_types.specs.Data.{CommandData, SettingsData}
use Rattle.tcmu_types.specs.Rules.{IsCdb, IsCommand, IsSettings, is_directed, group_length}
use Rattle.tcmu_types.specs.Events.{EventData}
use Rattle.tcmu_types.specs.Events as ev
use Rattle.tcmu_types.specs.Reading.{◌>>=◌, each}
use Rattle.text_model.specs.Fields.{name_of, is_cdb, cdb_of, runs_of, flags_of, serials_of, run_of}
use Rattle.tcmu_types.specs.Hex.{bytes_of_hex}
use Rattle.tcmu_types.specs.Decimals.{number_of, rising_of, IsWithin, IsRisingTo}
use Rattle.tcmu_types.specs.Fields.{only_if, pieces}
use Rattle.text_model.specs.Config.{ConfigData, config_of}
use Rattle.text_model.specs.Lines.{one_field, two_fields, three_fields, submit_fields, device_fields, DeviceFields, PayloadField, NoPayload, InBytes, OutRuns}
use Rattle.text_model.specs.ScenarioData.{ScenarioData, DeviceLineData, LineData, LineWhat, EventLine, DrainLine, DumpLine}
use Rattle.text_model.specs.Said.{Said, SaysDevice, SaysLine, has_name, device_at, new_name, same_file, is_own, device_config, ring_of, qfull_of, pages_of, settings_of, payload_of, device_line, submit_line, plain_line, number_at, number_line, tmr_line, said_by}
use Rattle.text_model.specs.ScenarioRules.{IsConfig, IsDeviceLine, IsNote, IsEvent, IsWhat}
use Rattle.text_model.specs.declared.faults.ConfigFault.{ConfigFault}
use Rattle.text_model.specs.declared.faults.Why.{Why}
use Rattle.text_model.specs.declared.faults.Why.TheVariants as why
use Rattle.text_model.specs.declared.words.Verb.{Verb}
use Rattle.text_model.specs.declared.words.Verb.TheVariants as verb
use Rattle.tcmu_types.proofs.Readings.{same_some, same_ok, step, read_step, both, mapped, passed, number_within, rising_to, not_true, same_bytes}
use Rattle.text_model.proofs.ConfigLaws.{config_is}

-- a device with a name and a file of its own
pub record IsNewDevice (s : ScenarioData) (d : DeviceLineData) : Type 0 where
  pub line : IsDeviceLine d
  pub name : list_any (has_name d.name) s.devices ≡ false
  pub file : list_any (λ e. same_file e.config.kind d.config.kind) s.devices ≡ false

-- a line of a device that is there
pub record IsNewLine (s : ScenarioData) (l : LineData) : Type 0 where
  pub device : l.device < length s.devices
  pub what : IsWhat l.what

abbrev pub IsSaid : ScenarioData → Said → Type 0
IsSaid s (SaysDevice d) = IsNewDevice s d
IsSaid s (SaysLine l) = IsNewLine s l

-- ---- device lines

name_is : (text name : List ℕ) → name_of text ≡ Some name → IsTrue (is_name name)
name_is text name e =
    let a = passed is_name text name e in
    subst (λ t. IsTrue (is_name t)) a.1 a.0

record NameIsNew (s : ScenarioData) (name : List ℕ) : Type 0 where
  named : IsTrue (is_name name)
  free : list_any (has_name name) s.devices ≡ false

new_name_is : (s : ScenarioData) (text name : List ℕ) → new_name s text ≡ Some name → NameIsNew s name
unfolding new_name
new_name_is s text name e =
    let a = passed (λ name. is_name name && not (list_any (has_name name) s.devices)) text name e in
    let b = and_parts (is_name text) (not (list_any (has_name text) s.devices)) a.0 in
    subst (NameIsNew s) a.1 (record { named = b.0; free = not_true _ b.1 })

record ConfigIsOwn (s : ScenarioData) (name : List ℕ) (c : ConfigData) : Type 0 where
  config : IsConfig c
  own : c.name ≡ name
  file : list_any (λ d. same_file d.config.kind c.kind) s.devices ≡ false

device_config_is : (s : ScenarioData) (name text : List ℕ) (c : ConfigData) → device_config s name text ≡ Some c → ConfigIsOwn s name c
unfolding device_config
device_config_is s name text c e = go (config_of text) refl e
  where
    go : (r : Result ConfigData ConfigFault) → config_of text ≡ r → ◌≡◌ {A = Option ConfigData} (elim r [ Ok c ↦ only_if (is_own s name) c | Err e ↦ None ]) (Some c) → ConfigIsOwn s name c
    go (Err f) is e = absurd (cc)
    go (Ok x) is e =
        let a = passed (is_own s name) x c e in
        let b = and_parts (bytes_eq x.name name) (not (list_any (λ d. same_file d.config.kind x.kind) s.devices)) a.0 in
        subst (ConfigIsOwn s name) a.1 (record { config = config_is text x is; own = same_bytes x.name name b.0; file = not_true _ b.1 })

ring_is : (text : List ℕ) (n : ℕ) → ring_of text ≡ Some n → IsWithin 4096 4194304 n × (n % 4096 ≡ 0)
unfolding ring_of
ring_is text n e =
    let a = both (only_if (λ n. nat_eq (n % 4096) 0)) (number_of 4096 4194304 text) n e in
    let b = passed (λ n. nat_eq (n % 4096) 0) a.0 n a.2 in
    (subst (IsWithin 4096 4194304) b.1 (number_within 4096 4194304 a.0 text a.1), subst (λ k. k % 4096 ≡ 0) b.1 (eqb-true _ _ b.0))

qfull_is : (o : Option (List ℕ)) (n : ℕ) → qfull_of o ≡ Some n → n ≤ 1000000
qfull_is None n e = let z : 0 ≡ n = same_some 0 n e in omega (arith, z)
qfull_is (Some text) n e = let w = number_within 0 1000000 n text e in w.most

pages_are : (blocks : ℕ) (o : Option (List ℕ)) (n : ℕ) → blocks ≤ 4096 → pages_of blocks o ≡ Some n → IsWithin 1 16 n × (blocks * n ≤ 4096)
pages_are blocks None n le e = subst (λ k. IsWithin 1 16 k × (blocks * k ≤ 4096)) (same_some 1 n e) (record { least = omega arith; most = omega arith }, omega (arith, le))
pages_are blocks (Some text) n le e =
    let a = both (only_if (λ p. nat_le (blocks * p) 4096)) (number_of 1 16 text) n e in
    let b = passed (λ p. nat_le (blocks * p) 4096) a.0 n a.2 in
    subst (λ k. IsWithin 1 16 k × (blocks * k ≤ 4096)) b.1 (number_within 1 16 a.0 text a.1, leb-true _ _ b.0)

pub settings_made : (f : DeviceFields) (t : SettingsData) → ring_of f.ring ≡ Some t.ring → number_of 1 4096 f.blocks ≡ Some t.blocks → number_of 0 1000000 f.timeout ≡ Some t.timeout → qfull_of f.last.qfull ≡ Some t.qfull → pages_of t.blocks f.last.pages ≡ Some t.pages → IsSettings t
settings_made f t ring blocks timeout qfull pages =
    let r = ring_is f.ring t.ring ring in
    let b = number_within 1 4096 t.blocks f.blocks blocks in
    let m = number_within 0 1000000 t.timeout f.timeout timeout in
    let p = pages_are t.blocks f.last.pages t.pages b.most pages in
    record {
      ring = record { least = r.0.least; most = r.0.most; pages = r.1 };
      blocks_low = b.least;
      pages_low = p.0.least;
      pages_high = p.0.most;
      area = p.1;
      timeout = m.most;
      qfull = qfull_is f.last.qfull t.qfull qfull;
    }

settings_are : (f : DeviceFields) (t : SettingsData) → settings_of f ≡ Ok t → IsSettings t
unfolding settings_of
settings_are f t e =
    let ring = read_step (ring_of f.ring) why.Number _ t e in
    let blocks = read_step (number_of 1 4096 f.blocks) why.Number _ t ring.2 in
    let flags = read_step (flags_of f.flags) why.Flags _ t blocks.2 in
    let timeout = read_step (number_of 0 1000000 f.timeout) why.Number _ t flags.2 in
    let qfull = read_step (qfull_of f.last.qfull) why.Number _ t timeout.2 in
    let pages = read_step (pages_of blocks.0 f.last.pages) why.Number _ t qfull.2 in
    subst IsSettings (same_ok _ t pages.2) (settings_made f (record { ring = ring.0; blocks = blocks.0; flags = flags.0; timeout = timeout.0; qfull = qfull.0; pages = pages.0 }) ring.1 blocks.1 timeout.1 qfull.1 pages.1)

device_line_is : (s : ScenarioData) (fields : List (List ℕ)) (said : Said) → device_line s fields ≡ Ok said → IsSaid s said
unfolding device_line
device_line_is s fields said e =
    let f = read_step (device_fields fields) why.Fields _ said e in
    let name = read_step (new_name s f.0.name) why.Name _ said f.2 in
    let config = read_step (device_config s name.0 f.0.config) why.Config _ said name.2 in
    let settings = step (settings_of f.0) _ said config.2 in
    let n = new_name_is s f.0.name name.0 name.1 in
    let c = device_config_is s name.0 f.0.config config.0 config.1 in
    let new : IsNewDevice s (record { name = name.0; config = config.0; settings = settings.0 }) = record {
      line = record { name = n.named; config = c.config; config_name = c.own; settings = settings_are f.0 settings.0 settings.1 };
      name = n.free;
      file = c.file;
    } in
    subst (IsSaid s) (same_ok _ said settings.2) new

-- ---- the other lines

at_within : (s : ScenarioData) (name : List ℕ) (at : ℕ) → device_at s name ≡ Some at → at < length s.devices
at_within s name at e = go s.devices e
  where
    go : (ds : List DeviceLineData) → position (has_name name) ds ≡ Some at → at < length ds
    go [] e = absurd (cc)
    go (d ∷ ds) e = (position-Some (has_name name) (d ∷ ds) at d e).0

cdb_is : (text cdb : List ℕ) → cdb_of text ≡ Some cdb → IsCdb cdb
unfolding cdb_of
cdb_is text cdb e =
    let a = both (only_if is_cdb) (bytes_of_hex text) cdb e in
    let b = passed is_cdb a.0 cdb a.2 in
    let p = and_parts (nat_lt 0 (length a.0)) (nat_eq (length a.0) (group_length (slice_index a.0 0))) b.0 in
    subst IsCdb b.1 (record { some = ltb-true _ _ p.0; group = eqb-true _ _ p.1 })

abbrev fits : List ℕ → Bool
fits bytes = nat_le (length bytes) 1048576

runs_fit : (text bytes : List ℕ) → runs_of text ≡ Some bytes → length bytes ≤ 1048576
unfolding runs_of
runs_fit text bytes e =
    let a = both (λ (runs : List (List ℕ)). only_if fits (flat_map (λ r. r) runs)) (each run_of (pieces 44 text)) bytes e in
    let b = passed fits (flat_map (λ r. r) a.0) bytes a.2 in
    subst (λ (xs : List ℕ). length xs ≤ 1048576) b.1 (leb-true _ _ b.0)

payload_is : (p : PayloadField) (x : List ℕ × ℕ) → payload_of p ≡ Ok x → (length x.0 ≤ 1048576) × (x.1 ≤ 1048576)
payload_is NoPayload x e = subst (λ (y : List ℕ × ℕ). (length y.0 ≤ 1048576) × (y.1 ≤ 1048576)) (same_ok _ x e) (omega arith, omega arith)
payload_is (InBytes text) x e =
    let a = read_step (option_map (λ n. let y : List ℕ × ℕ = ([], n) in y) (number_of 0 1048576 text)) why.Number (λ y. Ok y) x (again _ e) in
    let b = mapped (λ n. let y : List ℕ × ℕ = ([], n) in y) (number_of 0 1048576 text) a.0 a.1 in
    let w = number_within 0 1048576 b.0 text b.1 in
    subst (λ (y : List ℕ × ℕ). (length y.0 ≤ 1048576) × (y.1 ≤ 1048576)) (sym b.2 ∙ same_ok _ x a.2) (omega arith, w.most)
  where
    again : (r : Result (List ℕ × ℕ) Why) → r ≡ Ok x → (r >>= (λ y. Ok y)) ≡ Ok x
    again (Ok y) e = e
    again (Err f) e = e
payload_is (OutRuns text) x e =
    let a = read_step (option_map (λ bytes. let y : List ℕ × ℕ = (bytes, 0) in y) (runs_of text)) why.Runs (λ y. Ok y) x (again _ e) in
    let b = mapped (λ bytes. let y : List ℕ × ℕ = (bytes, 0) in y) (runs_of text) a.0 a.1 in
    subst (λ (y : List ℕ × ℕ). (length y.0 ≤ 1048576) × (y.1 ≤ 1048576)) (sym b.2 ∙ same_ok _ x a.2) (runs_fit text b.0 b.1, omega arith)
  where
    again : (r : Result (List ℕ × ℕ) Why) → r ≡ Ok x → (r >>= (λ y. Ok y)) ≡ Ok x
    again (Ok y) e = e
    again (Err f) e = e

submit_line_is : (s : ScenarioData) (fields : List (List ℕ)) (said : Said) → submit_line s fields ≡ Ok said → IsSaid s said
unfolding submit_line
submit_line_is s fields said e =
    let f = read_step (submit_fields fields) why.Fields _ said e in
    let at = read_step (device_at s f.0.name) why.Name _ said f.2 in
    let init = read_step (name_of f.0.init) why.Init _ said at.2 in
    let tag = read_step (number_of 0 4294967295 f.0.tag) why.Number _ said init.2 in
    let cdb = read_step (cdb_of f.0.cdb) why.Cdb _ said tag.2 in
    let payload = step (payload_of f.0.payload) _ said cdb.2 in
    let c : CommandData = record { init = init.0; tag = tag.0; cdb = cdb.0; sent = payload.0.0; in_len = payload.0.1 } in
    let command = read_step (only_if is_directed c) why.Direction _ said payload.2 in
    let way = passed is_directed c command.0 command.1 in
    let fits = payload_is f.0.payload payload.0 payload.1 in
    let sound : IsCommand c = record {
      init = name_is f.0.init init.0 init.1;
      cdb = cdb_is f.0.cdb cdb.0 cdb.1;
      directed = way.0;
      sent = fits.0;
      in_len = fits.1;
    } in
    let new : IsNewLine s (record { device = at.0; what = EventLine (ev.Submit command.0) }) = record {
      device = at_within s f.0.name at.0 at.1;
      what = subst IsCommand way.1 sound;
    } in
    subst (IsSaid s) (same_ok _ said command.2) new

plain_line_is : (s : ScenarioData) (what : LineWhat) (fields : List (List ℕ)) (said : Said) → IsWhat what → plain_line s what fields ≡ Ok said → IsSaid s said
unfolding plain_line
plain_line_is s what fields said sound e =
    let name = read_step (one_field fields) why.Fields _ said e in
    let at = read_step (device_at s name.0) why.Name _ said name.2 in
    let new : IsNewLine s (record { device = at.0; what = what }) = record { device = at_within s name.0 at.0 at.1; what = sound } in
    subst (IsSaid s) (same_ok _ said at.2) new

number_at_is : (s : ScenarioData) (low high : ℕ) (fields : List (List ℕ)) (x : ℕ × ℕ) → number_at s low high fields ≡ Ok x → (x.0 < length s.devices) × IsWithin low high x.1
unfolding number_at
number_at_is s low high fields x e =
    let f = read_step (two_fields fields) why.Fields _ x e in
    let at = read_step (device_at s f.0.0) why.Name _ x f.2 in
    let n = read_step (number_of low high f.0.1) why.Number _ x at.2 in
    subst (λ (y : ℕ × ℕ). (y.0 < length s.devices) × IsWithin low high y.1) (same_ok _ x n.2) (at_within s f.0.0 at.0 at.1, number_within low high n.0 f.0.1 n.1)

number_line_is : (s : ScenarioData) (low high : ℕ) (event : ℕ → EventData) (fields : List (List ℕ)) (said : Said) → ((n : ℕ) → IsWithin low high n → IsEvent (event n)) → number_line s low high event fields ≡ Ok said → IsSaid s said
number_line_is s low high event fields said sound e =
    let x = step (number_at s low high fields) _ said e in
    let is = number_at_is s low high fields x.0 x.1 in
    let new : IsNewLine s (record { device = x.0.0; what = EventLine (event x.0.1) }) = record { device = is.0; what = sound x.0.1 is.1 } in
    subst (IsSaid s) (same_ok _ said x.2) new

serials_are : (text ns : List ℕ) → serials_of text ≡ Some ns → IsRisingTo 1000000000 ns
unfolding serials_of
serials_are text ns e = go (bytes_eq text (codes "none")) e
  where
    none : IsRisingTo 1000000000 []
    none = record { few = omega arith; rising = refl; each = All-nil (IsWithin 1 1000000000) }

    go : (b : Bool) → ◌≡◌ {A = Option (List ℕ)} (cond b (Some []) (rising_of 44 1000000000 text)) (Some ns) → IsRisingTo 1000000000 ns
    go true e = subst (IsRisingTo 1000000000) (same_some [] ns e) none
    go false e = rising_to 44 1000000000 text ns e

tmr_line_is : (s : ScenarioData) (fields : List (List ℕ)) (said : Said) → tmr_line s fields ≡ Ok said → IsSaid s said
unfolding tmr_line
tmr_line_is s fields said e =
    let f = read_step (three_fields fields) why.Fields _ said e in
    let at = read_step (device_at s f.0.0) why.Name _ said f.2 in
    let kind = read_step (number_of 1 7 f.0.1) why.Number _ said at.2 in
    let serials = read_step (serials_of f.0.2) why.Number _ said kind.2 in
    let note : IsNote kind.0 serials.0 = record { known = number_within 1 7 kind.0 f.0.1 kind.1; rising = serials_are f.0.2 serials.0 serials.1 } in
    let new : IsNewLine s (record { device = at.0; what = EventLine (ev.Tmr kind.0 serials.0) }) = record { device = at_within s f.0.0 at.0 at.1; what = note } in
    subst (IsSaid s) (same_ok _ said serials.2) new

pub said_is : (s : ScenarioData) (v : Verb) (fields : List (List ℕ)) (said : Said) → said_by s v fields ≡ Ok said → IsSaid s said
unfolding said_by
said_is s verb.Device fields said e = device_line_is s fields said e
said_is s verb.Submit fields said e = submit_line_is s fields said e
said_is s verb.Dispatch fields said e = plain_line_is s (EventLine ev.Dispatch) fields said tt e
said_is s verb.Handle fields said e = number_line_is s 1 1000000000 ev.Handle fields said (λ n w. w) e
said_is s verb.Respond fields said e = number_line_is s 1 1000000000 ev.Respond fields said (λ n w. w) e
said_is s verb.Publish fields said e = plain_line_is s (EventLine ev.Publish) fields said tt e
said_is s verb.Clean fields said e = plain_line_is s (EventLine ev.Clean) fields said tt e
said_is s verb.Enter fields said e = plain_line_is s (EventLine ev.Enter) fields said tt e
said_is s verb.Tick fields said e = number_line_is s 0 1000000 ev.Tick fields said (λ n w. w.most) e
said_is s verb.Block fields said e = plain_line_is s (EventLine ev.Block) fields said tt e
said_is s verb.Unblock fields said e = plain_line_is s (EventLine ev.Unblock) fields said tt e
said_is s verb.Reset fields said e = number_line_is s 1 2 ev.Reset fields said (λ n w. w) e
said_is s verb.Restart fields said e = plain_line_is s (EventLine ev.Restart) fields said tt e
said_is s verb.Tmr fields said e = tmr_line_is s fields said e
said_is s verb.Stat fields said e = plain_line_is s (EventLine ev.Stat) fields said tt e
said_is s verb.Dump fields said e = plain_line_is s DumpLine fields said tt e
said_is s verb.Drain fields said e = plain_line_is s DrainLine fields said tt e
