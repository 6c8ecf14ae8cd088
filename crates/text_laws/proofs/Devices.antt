-- Device lines are read again.
use Rattle.std.proofs.Common.{◌≡◌, ℕ, ◌*◌, ◌%◌, ◌<◌, ◌≤◌, Bool, true, false, cond, ◌&&◌, not, nat_eq, nat_le, List, [], ◌∷◌, ◌++◌, length, Some, None, Ok, Err, refl, sym, ap, ◌∙◌, arith, codes, append_assoc}
use Rattle.std.specs.List.{list_all, list_any, flat_map}
use Rattle.std.specs.Option.{option_map}
use Rattle.std.specs.Str.{bytes_eq}
use Rattle.std.specs.Fmt.{decimal}
use Rattle.std.proofs.lemmas.Bool.{and_from, and_parts, le-leb, eq-eqb, eqb-true, cond-true}
use Rattle.std.proofs.Math.Nat.{le-mul_of_pos_right}
use Rattle.std.proofs.lemmas.List.{append-nil}
use Rattle.tcmu_types.specs.Naming.{is_name}
use Rattle.tcmu_types.specs.Data.{SettingsData}
use Rattle.tcmu_types.specs.Rules.{IsSettings}
use Rattle.tcmu_types.specs.declared.settings.Flags.{Flags}
use Rattle.text_model.specs.Words.{verb_of}
use Rattle.tcmu_types.specs.Decimals.{number_of}
use Rattle.tcmu_types.specs.Fields.{only_if}
use Rattle.text_model.specs.Config.{ConfigData, MediumData, InMemory, InFile, is_shown}
use Rattle.text_model.specs.Lines.{LastFields, last_fields, DeviceFields, device_fields}
use Rattle.text_model.specs.ScenarioData.{DeviceLineData, ScenarioData}
use Rattle.text_model.specs.ScenarioRules.{IsMedium}
use Rattle.text_model.specs.Said.{SaysDevice, has_name, new_name, is_own, device_config, ring_of, qfull_of, pages_of, settings_of, device_line, said_by}
use Rattle.text_model.specs.Scenario.{with_fields, with_text}
use Rattle.text_model.specs.Text.{spaced, config_text, flags_text, last_text, settings_text, device_spelling}
use Rattle.text_model.specs.Fields.{is_field_byte, IsWord, AreWords}
use Rattle.text_laws.specs.Configs.{is_other, FileLacks}
use Rattle.text_laws.specs.Devices.{IsSpelledDevice, IsNew, DevicesAgain}
use Rattle.text_laws.proofs.Numbers.{number_again}
use Rattle.text_laws.proofs.Flags.{flags_again}
use Rattle.text_laws.proofs.Fields.{name_byte, name_word, number_word, words_join}
use Rattle.text_laws.proofs.Configs.{Lets, FilePasses, config_passes, configs_again}
use Rattle.text_laws.proofs.Events.{line_again}

-- ---- the fields

-- a space in front of each
abbrev spaces : List (List ℕ) → List ℕ
spaces fields = flat_map (λ field. 32 ∷ field) fields

abbrev pub last_list : SettingsData → List (List ℕ)
last_list t = cond (nat_eq t.qfull 0) [] ((codes "qfull=" ++ decimal t.qfull) ∷ []) ++ cond (nat_eq t.pages 1) [] ((codes "pages=" ++ decimal t.pages) ∷ [])

abbrev pub settings_list : SettingsData → List (List ℕ)
settings_list t =
    (codes "ring=" ++ decimal t.ring) ∷ (codes "blocks=" ++ decimal t.blocks) ∷ (codes "flags=" ++ flags_text t.flags) ∷ (codes "timeout=" ++ decimal t.timeout) ∷ last_list t

last_spelled : (t : SettingsData) → last_text t ≡ spaces (last_list t)
unfolding last_text
last_spelled t = go (nat_eq t.qfull 0) (nat_eq t.pages 1)
  where
    go : (a b : Bool) → cond a [] (codes " qfull=" ++ decimal t.qfull) ++ cond b [] (codes " pages=" ++ decimal t.pages) ≡ spaces (cond a [] ((codes "qfull=" ++ decimal t.qfull) ∷ []) ++ cond b [] ((codes "pages=" ++ decimal t.pages) ∷ []))
    go true true = refl
    go true false = simp append-nil
    go false true = refl
    go false false = simp append-nil

settings_spelled : (t : SettingsData) → settings_text t ≡ spaces (settings_list t)
unfolding settings_text
settings_spelled t = regroup (decimal t.ring) (decimal t.blocks) (flags_text t.flags) (decimal t.timeout) (last_text t) ∙ ap (λ (l : List ℕ). codes " ring=" ++ (decimal t.ring ++ (codes " blocks=" ++ (decimal t.blocks ++ (codes " flags=" ++ (flags_text t.flags ++ (codes " timeout=" ++ (decimal t.timeout ++ l)))))))) (last_spelled t)
  where
    regroup : (r b f t l : List ℕ) → codes " ring=" ++ r ++ codes " blocks=" ++ b ++ codes " flags=" ++ f ++ codes " timeout=" ++ t ++ l ≡ codes " ring=" ++ (r ++ (codes " blocks=" ++ (b ++ (codes " flags=" ++ (f ++ (codes " timeout=" ++ (t ++ l)))))))
    regroup r b f t l = simp append_assoc

pub spelled : (d : DeviceLineData) → device_spelling d ≡ spaced (codes "device") (d.name ∷ config_text d.config ∷ settings_list d.settings)
unfolding device_spelling
spelled d =
    ap (λ (l : List ℕ). spaced (codes "device") (d.name ∷ config_text d.config ∷ []) ++ l) (settings_spelled d.settings)
    ∙ regroup d.name (config_text d.config) (spaces (settings_list d.settings))
  where
    regroup : (a b l : List ℕ) → spaced (codes "device") (a ∷ b ∷ []) ++ l ≡ codes "device" ++ (32 ∷ (a ++ 32 ∷ (b ++ l)))
    regroup a b l = ap (λ (x : List ℕ). codes "device" ++ 32 ∷ x) (append_assoc a (32 ∷ (b ++ [])) l ∙ ap (λ (x : List ℕ). a ++ 32 ∷ x) (append_assoc b [] l))

-- ---- they are words

flags_word : (f : Flags) → IsWord (codes "flags=" ++ flags_text f)
unfolding flags_text
flags_word f = go f.ooo f.read_len f.tmr
  where
    go : (ooo len tmr : Bool) → IsWord (codes "flags=" ++ flags_text (record { ooo = ooo; read_len = len; tmr = tmr }))
    go true true true = record { some = omega arith; bytes = refl }
    go true true false = record { some = omega arith; bytes = refl }
    go true false true = record { some = omega arith; bytes = refl }
    go true false false = record { some = omega arith; bytes = refl }
    go false true true = record { some = omega arith; bytes = refl }
    go false true false = record { some = omega arith; bytes = refl }
    go false false true = record { some = omega arith; bytes = refl }
    go false false false = record { some = omega arith; bytes = refl }

lets_field : Lets is_field_byte
lets_field = record { name = name_byte; slash = refl; plus = refl; prefix = refl; mem = refl; file = refl; ro = refl; fail = refl }

shown_field : (name : List ℕ) → list_all is_shown name ≡ true → list_all (is_other 35) name ≡ true → list_all is_field_byte name ≡ true
shown_field [] h k = refl
shown_field (x ∷ xs) h k =
    let a = and_parts (is_shown x) (list_all is_shown xs) h in
    let b = and_parts (is_other 35 x) (list_all (is_other 35) xs) k in
    and_from _ _ (and_from _ _ a.0 b.0) (shown_field xs a.1 b.1)

file_passes : (m : MediumData) → IsMedium m → FileLacks 35 m → FilePasses is_field_byte m
file_passes (InMemory n) is h = tt
file_passes (InFile name) is h = shown_field name (and_parts (nat_le 1 (length name) && nat_le (length name) 200) (list_all is_shown name) is).1 h

config_some : (c : ConfigData) → 0 < length (config_text c)
unfolding config_text
config_some c = omega arith

pub config_word : (d : DeviceLineData) → IsSpelledDevice d → IsWord (config_text d.config)
config_word d is = record { some = config_some d.config; bytes = config_passes is_field_byte lets_field d.config is.config.config (file_passes d.config.kind is.config.config.medium is.file) }

last_words : (t : SettingsData) → IsSettings t → AreWords (last_list t)
last_words t is = go (nat_eq t.qfull 0) (nat_eq t.pages 1)
  where
    q : IsWord (codes "qfull=" ++ decimal t.qfull)
    q = words_join (codes "qfull=") (decimal t.qfull) refl (number_word t.qfull (omega (arith, is.qfull)))

    p : IsWord (codes "pages=" ++ decimal t.pages)
    p = words_join (codes "pages=") (decimal t.pages) refl (number_word t.pages (omega (arith, is.pages_high)))

    go : (a b : Bool) → AreWords (cond a [] ((codes "qfull=" ++ decimal t.qfull) ∷ []) ++ cond b [] ((codes "pages=" ++ decimal t.pages) ∷ []))
    go true true = tt
    go true false = (p, tt)
    go false true = (q, tt)
    go false false = (q, (p, tt))

pub blocks_few : (t : SettingsData) → IsSettings t → t.blocks ≤ 4096
blocks_few t is =
    let more : t.blocks ≤ t.blocks * t.pages = le-mul_of_pos_right t.blocks (omega (arith, is.pages_low)) in
    omega (arith, more, is.area)

pub settings_words : (t : SettingsData) → IsSettings t → AreWords (settings_list t)
settings_words t is = (
  words_join (codes "ring=") (decimal t.ring) refl (number_word t.ring (omega (arith, is.ring.most))),
  (
    words_join (codes "blocks=") (decimal t.blocks) refl (number_word t.blocks (omega (arith, blocks_few t is))),
    (
      flags_word t.flags,
      (words_join (codes "timeout=") (decimal t.timeout) refl (number_word t.timeout (omega (arith, is.timeout))), last_words t is),
    ),
  ),
)

-- ---- what they say

record SaysLast (t : SettingsData) (fields : List (List ℕ)) : Type 0 where
  last : LastFields
  field : last_fields fields ≡ Some last
  qfull : qfull_of last.qfull ≡ Some t.qfull
  pages : pages_of t.blocks last.pages ≡ Some t.pages

last_again : (t : SettingsData) → IsSettings t → SaysLast t (last_list t)
last_again t is = go (nat_eq t.qfull 0) (nat_eq t.pages 1) refl refl
  where
    q : number_of 0 1000000 (decimal t.qfull) ≡ Some t.qfull
    q = number_again 0 1000000 t.qfull (omega arith) is.qfull (omega arith)

    p : pages_of t.blocks (Some (decimal t.pages)) ≡ Some t.pages
    p = rw (number_again 1 16 t.pages is.pages_low is.pages_high (omega arith)) (cond-true _ _ _ (le-leb _ _ is.area))

    none : nat_eq t.qfull 0 ≡ true → Some 0 ≡ Some t.qfull
    none e = ap (λ (k : ℕ). Some k) (sym (eqb-true _ _ e))

    one : nat_eq t.pages 1 ≡ true → Some 1 ≡ Some t.pages
    one e = ap (λ (k : ℕ). Some k) (sym (eqb-true _ _ e))

    go : (a b : Bool) → nat_eq t.qfull 0 ≡ a → nat_eq t.pages 1 ≡ b → SaysLast t (cond a [] ((codes "qfull=" ++ decimal t.qfull) ∷ []) ++ cond b [] ((codes "pages=" ++ decimal t.pages) ∷ []))
    go true true e f = record { last = record { qfull = None; pages = None }; field = refl; qfull = none e; pages = one f }
    go true false e f = record { last = record { qfull = None; pages = Some (decimal t.pages) }; field = refl; qfull = none e; pages = p }
    go false true e f = record { last = record { qfull = Some (decimal t.qfull); pages = None }; field = refl; qfull = q; pages = one f }
    go false false e f = record { last = record { qfull = Some (decimal t.qfull); pages = Some (decimal t.pages) }; field = refl; qfull = q; pages = p }

ring_again : (n : ℕ) → 4096 ≤ n → n ≤ 4194304 → n % 4096 ≡ 0 → ring_of (decimal n) ≡ Some n
unfolding ring_of
ring_again n low high even = rw (number_again 4096 4194304 n low high (omega arith)) (cond-true _ _ _ (eq-eqb _ _ even))

-- the fields of a device line, read
abbrev read_fields : DeviceLineData → LastFields → DeviceFields
read_fields d last =
    record { name = d.name; config = config_text d.config; ring = decimal d.settings.ring; blocks = decimal d.settings.blocks; flags = flags_text d.settings.flags; timeout = decimal d.settings.timeout; last = last }

fields_again : (d : DeviceLineData) (last : LastFields) → last_fields (last_list d.settings) ≡ Some last → device_fields (d.name ∷ config_text d.config ∷ settings_list d.settings) ≡ Some (read_fields d last)
unfolding device_fields
fields_again d last e = ap (option_map (λ l. read_fields d l)) e

settings_again : (d : DeviceLineData) (last : LastFields) → IsSettings d.settings → qfull_of last.qfull ≡ Some d.settings.qfull → pages_of d.settings.blocks last.pages ≡ Some d.settings.pages → settings_of (read_fields d last) ≡ Ok d.settings
unfolding settings_of
settings_again d last is q p =
    let t = d.settings in
    let ring = ring_again t.ring is.ring.least is.ring.most is.ring.pages in
    let blocks = number_again 1 4096 t.blocks is.blocks_low (blocks_few t is) (omega arith) in
    let timeout = number_again 0 1000000 t.timeout (omega arith) is.timeout (omega arith) in
    rw ring (rw blocks (rw (flags_again t.flags) (rw timeout (rw q (rw p refl)))))

pub same_text : (a b : List ℕ) → a ≡ b → bytes_eq a b ≡ true
same_text a b e = ap (λ l. bytes_eq a l) (sym e) ∙ self a
  where
    self : (xs : List ℕ) → bytes_eq xs xs ≡ true
    self [] = refl
    self (x ∷ xs) = and_from _ _ (eq-eqb x x refl) (self xs)

config_again : (s : ScenarioData) (d : DeviceLineData) → IsSpelledDevice d → IsNew s d → device_config s d.name (config_text d.config) ≡ Some d.config
unfolding device_config
config_again s d is new =
    ap (λ r. elim r [ Ok c ↦ only_if (is_own s d.name) c | Err e ↦ None ]) (configs_again d.config is.config)
    ∙ cond-true _ _ _ (and_from _ _ (same_text d.config.name d.name is.line.config_name) (ap not new.file))

line_says : (s : ScenarioData) (d : DeviceLineData) → IsSpelledDevice d → IsNew s d → device_line s (d.name ∷ config_text d.config ∷ settings_list d.settings) ≡ Ok (SaysDevice d)
unfolding device_line new_name
line_says s d is new =
    let last = last_again d.settings is.line.settings in
    let named : only_if (λ name. is_name name && not (list_any (has_name name) s.devices)) d.name ≡ Some d.name = cond-true _ _ _ (and_from _ _ is.line.name (ap not new.name)) in
    rw (fields_again d last.last last.field) (rw named (rw (config_again s d is new) (rw (settings_again d last.last is.line.settings last.qfull last.pages) refl)))

pub devices_again : DevicesAgain
unfolding with_fields verb_of said_by
devices_again limits s d answer is new =
    ap (λ t. with_text limits s (t ++ (codes " # " ++ answer))) (spelled d)
    ∙ line_again limits s (codes "device") (d.name ∷ config_text d.config ∷ settings_list d.settings) (32 ∷ answer) (record { some = omega arith; bytes = refl })
    (name_word d.name is.line.name, (config_word d is, settings_words d.settings is.line.settings))
    ∙ rw (line_says s d is new) refl
