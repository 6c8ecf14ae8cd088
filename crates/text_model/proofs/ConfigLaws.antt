-- What is read of a config text keeps the limits of configs.
use Rattle.std.proofs.Common.{◌≡◌, ℕ, Bool, true, false, IsTrue, List, [], Option, Some, None, Result, Ok, Err, refl, sym, ap, ◌∙◌, arith, subst, codes}
use Rattle.std.specs.List.{position}
use Rattle.std.specs.Option.{option_and_then, option_map}
use Rattle.std.proofs.lemmas.List.Elements.{All-nil}
use Rattle.tcmu_types.specs.Naming.{is_name}
use Rattle.text_model.specs.Words.{subtype_of}
use Rattle.text_model.specs.Fields.{name_of}
use Rattle.tcmu_types.specs.Decimals.{number_of, rising_of, IsWithin, IsRisingTo}
use Rattle.tcmu_types.specs.Fields.{only_if, cut_at, after_word}
use Rattle.text_model.specs.Config.{ConfigData, MediumData, InMemory, InFile, PathData, is_file_name, memory_of, file_of, medium_of, path_of, part, parts_of, is_colon, config_of}
use Rattle.text_model.specs.ScenarioRules.{IsMedium, IsConfig}
use Rattle.text_model.specs.declared.faults.ConfigFault.{ConfigFault}
use Rattle.text_model.specs.declared.faults.ConfigFault.TheVariants as fault
use Rattle.text_model.specs.declared.words.Subtype.{Subtype}
use Rattle.text_model.specs.declared.words.Subtype.TheVariants.{Mem, File, Ro, Fail}
use Rattle.tcmu_types.proofs.Readings.{same_ok, step, read_step, both, mapped, passed, number_within, rising_to}

memory_is : (text : List ℕ) (m : MediumData) → memory_of text ≡ Some m → IsMedium m
memory_is text m e =
    let a = mapped InMemory (number_of 1 32768 text) m e in
    subst IsMedium (sym a.2) (number_within 1 32768 a.0 text a.1)

file_is : (text : List ℕ) (m : MediumData) → file_of text ≡ Some m → IsMedium m
file_is text m e =
    let a = mapped InFile (only_if is_file_name text) m e in
    let b = passed is_file_name text a.0 a.1 in
    subst IsMedium (sym a.2) (subst (λ t. IsTrue (is_file_name t)) b.1 b.0)

medium_is : (text : List ℕ) (m : MediumData) → medium_of text ≡ Some m → IsMedium m
unfolding medium_of
medium_is text m e = go (after_word (codes "mem/") text) e
  where
    go : (o : Option (List ℕ)) → elim o [ Some size ↦ memory_of size | None ↦ option_and_then file_of (after_word (codes "file/") text) ] ≡ Some m → IsMedium m
    go (Some size) e = memory_is size m e
    go None e =
        let a = both file_of (after_word (codes "file/") text) m e in
        file_is a.0 m a.2

record PathIsSound (p : PathData) : Type 0 where
  medium : IsMedium p.kind
  fails : IsRisingTo 1000000 p.fails

no_fails : IsRisingTo 1000000 []
no_fails = record { few = omega arith; rising = refl; each = All-nil (IsWithin 1 1000000) }

plain_path : (protected : Bool) (o : Option MediumData) (p : PathData) → ((m : MediumData) → o ≡ Some m → IsMedium m) → option_map (λ m. record { kind = m; protected = protected; fails = [] }) o ≡ Some p → PathIsSound p
plain_path protected o p sound e =
    let a = mapped (λ (m : MediumData). let q : PathData = record { kind = m; protected = protected; fails = [] } in q) o p e in
    subst PathIsSound (sym a.2) (record { medium = sound a.0 a.1; fails = no_fails })

path_is : (subtype : Subtype) (text : List ℕ) (p : PathData) → path_of subtype text ≡ Some p → PathIsSound p
unfolding path_of
path_is Mem text p e = plain_path false (memory_of text) p (λ m is. memory_is text m is) e
path_is File text p e = plain_path false (file_of text) p (λ m is. file_is text m is) e
path_is Ro text p e = plain_path true (medium_of text) p (λ m is. medium_is text m is) e
path_is Fail text p e =
    let a = both _ (cut_at 47 text) p e in
    let b = both _ (rising_of 43 1000000 a.0.0) p a.2 in
    let c = mapped (λ (m : MediumData). let q : PathData = record { kind = m; protected = false; fails = b.0 } in q) (medium_of a.0.1) p b.2 in
    subst PathIsSound (sym c.2) (record { medium = medium_is a.0.1 c.0 c.1; fails = rising_to 43 1000000 a.0.0 b.0 b.1 })

part_is : {A : Type 0} (e : ConfigFault) (read : List ℕ → Option A) (text : List ℕ) (p : A × List ℕ) → part e read text ≡ Ok p → (t : List ℕ) × (read t ≡ Some p.0)
part_is {A} e read text p is =
    let a = read_step (cut_at 47 text) e _ p is in
    let b = read_step (read a.0.0) e _ p a.2 in
    (a.0.0, b.1 ∙ ap (λ (q : A × List ℕ). Some q.0) (same_ok (b.0, a.0.1) p b.2))

pub parts_are : (text : List ℕ) (c : ConfigData) → parts_of text ≡ Ok c → IsConfig c
unfolding parts_of
parts_are text c e =
    let rest = read_step (after_word (codes "tcm-user/") text) fault.Prefix _ c e in
    let hba = step (part fault.Hba (number_of 0 65535) rest.0) _ c rest.2 in
    let name = step (part fault.Name name_of hba.0.1) _ c hba.2 in
    let subtype = step (part fault.Subtype subtype_of name.0.1) _ c name.2 in
    let path = read_step (path_of subtype.0.0 subtype.0.1) fault.Path _ c subtype.2 in
    let h = part_is fault.Hba (number_of 0 65535) rest.0 hba.0 hba.1 in
    let within = number_within 0 65535 hba.0.0 h.0 h.1 in
    let n = part_is fault.Name name_of hba.0.1 name.0 name.1 in
    let named = passed is_name n.0 name.0.0 n.1 in
    let sound = path_is subtype.0.0 subtype.0.1 path.0 path.1 in
    subst IsConfig (same_ok _ c path.2) (record {
      hba = within.most;
      name = subst (λ t. IsTrue (is_name t)) named.1 named.0;
      medium = sound.medium;
      fails = sound.fails;
    })

pub config_is : (text : List ℕ) (c : ConfigData) → config_of text ≡ Ok c → IsConfig c
unfolding config_of
config_is text c e = go (position is_colon text) e
  where
    go : (o : Option ℕ) → ◌≡◌ {A = Result ConfigData ConfigFault} (elim o [ Some at ↦ Err (fault.Colon at) | None ↦ parts_of text ]) (Ok c) → IsConfig c
    go (Some at) e = absurd (cc)
    go None e = parts_are text c e
