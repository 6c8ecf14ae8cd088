-- A config that is read has a text: no colon stands in the name of its file, no `#` where the config stands in a scenario, and it is
-- not both write-protected and with calls that fail.
use Rattle.std.proofs.Common.{◌≡◌, ℕ, zero, suc, ◌+◌, ◌<◌, ◌≤◌, Bool, true, false, cond, not, nat_eq, nat_lt, List, [], ◌∷◌, length, take, drop, Option, Some, None, Result, Ok, Err, refl, sym, ap, subst, arith, codes}
use Rattle.std.specs.List.{list_all, slice_split, onto_first, position, position_or_len}
use Rattle.std.specs.Option.{option_and_then, option_map}
use Rattle.std.proofs.lemmas.Bool.{and_from, and_parts, ltb-false}
use Rattle.std.proofs.lemmas.Option.{cond_some}
use Rattle.tcmu_types.specs.Lists.{Every}
use Rattle.text_model.specs.Words.{subtype_of}
use Rattle.text_model.specs.Fields.{name_of}
use Rattle.tcmu_types.specs.Decimals.{number_of, rising_of}
use Rattle.tcmu_types.specs.Fields.{only_if, cut_at, after_word, is_blank, before_hash, fields_of}
use Rattle.text_model.specs.Config.{ConfigData, MediumData, InMemory, InFile, PathData, is_file_name, memory_of, file_of, medium_of, path_of, part, parts_of, is_colon, config_of}
use Rattle.text_model.specs.declared.faults.ConfigFault.{ConfigFault}
use Rattle.text_model.specs.declared.faults.ConfigFault.TheVariants as fault
use Rattle.text_model.specs.declared.words.Subtype.{Subtype}
use Rattle.text_model.specs.declared.words.Subtype.TheVariants.{Mem, File, Ro, Fail}
use Rattle.tcmu_types.proofs.Readings.{same_ok, step, read_step, both, mapped, passed}
use Rattle.tcmu_types.proofs.Everies.{every-filter}
use Rattle.text_laws.proofs.Cuts.{one_more}
use Rattle.text_laws.specs.Configs.{is_other, FileLacks}

-- ---- texts in which a byte does not stand

abbrev pub Lacks : ℕ → List ℕ → Type 0
Lacks at text = list_all (is_other at) text ≡ true

lacks_drop : (at n : ℕ) (text : List ℕ) → Lacks at text → Lacks at (drop n text)
lacks_drop at zero text h = h
lacks_drop at (suc n) [] h = refl
lacks_drop at (suc n) (x ∷ xs) h = lacks_drop at n xs (and_parts (is_other at x) (list_all (is_other at) xs) h).1

lacks_behind : (at : ℕ) (word text rest : List ℕ) → Lacks at text → after_word word text ≡ Some rest → Lacks at rest
lacks_behind at word text rest h e = subst (Lacks at) (cond_some _ _ _ e).1 (lacks_drop at (length word) text h)

lacks_rest : (at sep : ℕ) (text : List ℕ) (q : List ℕ × List ℕ) → Lacks at text → cut_at sep text ≡ Some q → Lacks at q.1
unfolding cut_at
lacks_rest at sep text q h e =
    let a = mapped (λ (i : ℕ). let p : List ℕ × List ℕ = (take i text, drop (i + 1) text) in p) (position (λ b. nat_eq b sep) text) q e in
    subst (λ (p : List ℕ × List ℕ). Lacks at p.1) (sym a.2) (lacks_drop at (a.0 + 1) text h)

lacks_part : {A : Type 0} (at : ℕ) (e : ConfigFault) (read : List ℕ → Option A) (text : List ℕ) (p : A × List ℕ) → Lacks at text → part e read text ≡ Ok p → Lacks at p.1
lacks_part {A} at e read text p h is =
    let a = read_step (cut_at 47 text) e _ p is in
    let b = read_step (read a.0.0) e _ p a.2 in
    subst (λ (q : A × List ℕ). Lacks at q.1) (same_ok (b.0, a.0.1) p b.2) (lacks_rest at 47 text a.0 h a.1)

-- ---- configs

file_lacks : (at : ℕ) (text : List ℕ) (m : MediumData) → Lacks at text → file_of text ≡ Some m → FileLacks at m
file_lacks at text m h e =
    let a = mapped InFile (only_if is_file_name text) m e in
    let b = passed is_file_name text a.0 a.1 in
    subst (FileLacks at) (sym a.2) (subst (Lacks at) b.1 h)

memory_lacks : (at : ℕ) (text : List ℕ) (m : MediumData) → memory_of text ≡ Some m → FileLacks at m
memory_lacks at text m e =
    let a = mapped InMemory (number_of 1 32768 text) m e in
    subst (FileLacks at) (sym a.2) tt

medium_lacks : (at : ℕ) (text : List ℕ) (m : MediumData) → Lacks at text → medium_of text ≡ Some m → FileLacks at m
unfolding medium_of
medium_lacks at text m h e = go (after_word (codes "mem/") text) e
  where
    go : (o : Option (List ℕ)) → elim o [ Some size ↦ memory_of size | None ↦ option_and_then file_of (after_word (codes "file/") text) ] ≡ Some m → FileLacks at m
    go (Some size) e = memory_lacks at size m e
    go None e =
        let a = both file_of (after_word (codes "file/") text) m e in
        file_lacks at a.0 m (lacks_behind at (codes "file/") text a.0 h a.1) a.2

-- either it is write-protected or some of its calls fail
abbrev IsOneKind : PathData → Type 0
IsOneKind p = 0 < length p.fails → p.protected ≡ false

no_fails : (protected : Bool) (m : MediumData) → IsOneKind (record { kind = m; protected = protected; fails = [] })
no_fails protected m some = absurd (omega (arith, some))

plain_path : (at : ℕ) (protected : Bool) (o : Option MediumData) (p : PathData) → ((m : MediumData) → o ≡ Some m → FileLacks at m) → option_map (λ m. record { kind = m; protected = protected; fails = [] }) o ≡ Some p → FileLacks at p.kind × IsOneKind p
plain_path at protected o p lacks e =
    let a = mapped (λ (m : MediumData). let q : PathData = record { kind = m; protected = protected; fails = [] } in q) o p e in
    subst (λ (q : PathData). FileLacks at q.kind × IsOneKind q) (sym a.2) (lacks a.0 a.1, no_fails protected a.0)

path_lacks : (at : ℕ) (subtype : Subtype) (text : List ℕ) (p : PathData) → Lacks at text → path_of subtype text ≡ Some p → FileLacks at p.kind × IsOneKind p
unfolding path_of
path_lacks at Mem text p h e = plain_path at false (memory_of text) p (λ m is. memory_lacks at text m is) e
path_lacks at File text p h e = plain_path at false (file_of text) p (λ m is. file_lacks at text m h is) e
path_lacks at Ro text p h e = plain_path at true (medium_of text) p (λ m is. medium_lacks at text m h is) e
path_lacks at Fail text p h e =
    let a = both _ (cut_at 47 text) p e in
    let b = both _ (rising_of 43 1000000 a.0.0) p a.2 in
    let c = mapped (λ (m : MediumData). let q : PathData = record { kind = m; protected = false; fails = b.0 } in q) (medium_of a.0.1) p b.2 in
    subst (λ (q : PathData). FileLacks at q.kind × IsOneKind q) (sym c.2) (medium_lacks at a.0.1 c.0 (lacks_rest at 47 text a.0 h a.1) c.1, λ some. refl)

abbrev IsLegible : ℕ → ConfigData → Type 0
IsLegible at c = FileLacks at c.kind × (0 < length c.fails → c.protected ≡ false)

parts_lack : (at : ℕ) (text : List ℕ) (c : ConfigData) → Lacks at text → parts_of text ≡ Ok c → IsLegible at c
unfolding parts_of
parts_lack at text c h e =
    let rest = read_step (after_word (codes "tcm-user/") text) fault.Prefix _ c e in
    let hba = step (part fault.Hba (number_of 0 65535) rest.0) _ c rest.2 in
    let name = step (part fault.Name name_of hba.0.1) _ c hba.2 in
    let subtype = step (part fault.Subtype subtype_of name.0.1) _ c name.2 in
    let path = read_step (path_of subtype.0.0 subtype.0.1) fault.Path _ c subtype.2 in
    let r0 = lacks_behind at (codes "tcm-user/") text rest.0 h rest.1 in
    let r1 = lacks_part at fault.Hba (number_of 0 65535) rest.0 hba.0 r0 hba.1 in
    let r2 = lacks_part at fault.Name name_of hba.0.1 name.0 r1 name.1 in
    let r3 = lacks_part at fault.Subtype subtype_of name.0.1 subtype.0 r2 subtype.1 in
    let sound = path_lacks at subtype.0.0 subtype.0.1 path.0 r3 path.1 in
    subst (IsLegible at) (same_ok _ c path.2) (sound.0, sound.1)

-- no colon stands where none is found
none_passed : (xs : List ℕ) → length xs ≤ position_or_len is_colon xs → Lacks 58 xs
none_passed [] h = refl
none_passed (x ∷ xs) h = go (nat_eq x 58) refl h (none_passed xs)
  where
    go : (b : Bool) → nat_eq x 58 ≡ b → length (x ∷ xs) ≤ cond {A = ℕ} (not b) (1 + position_or_len is_colon xs) 0 → (length xs ≤ position_or_len is_colon xs → Lacks 58 xs) → Lacks 58 (x ∷ xs)
    go true is k more = absurd (omega (arith, k))
    go false is k more = and_from _ _ (ap not is) (more (omega (arith, k)))

none_found : (text : List ℕ) → position is_colon text ≡ None → Lacks 58 text
none_found text e = none_passed text (ltb-false _ _ (past (nat_lt (position_or_len is_colon text) (length text)) e))
  where
    past : (b : Bool) → ◌≡◌ {A = Option ℕ} (cond b (Some (position_or_len is_colon text)) None) None → b ≡ false
    past true e = absurd (cc)
    past false e = refl

-- a config that is read has a text
pub config_legible : (text : List ℕ) (c : ConfigData) → config_of text ≡ Ok c → IsLegible 58 c
unfolding config_of
config_legible text c e = go (position is_colon text) refl e
  where
    go : (o : Option ℕ) → position is_colon text ≡ o → ◌≡◌ {A = Result ConfigData ConfigFault} (elim o [ Some at ↦ Err (fault.Colon at) | None ↦ parts_of text ]) (Ok c) → IsLegible 58 c
    go (Some at) is e = absurd (cc)
    go None is e = parts_lack 58 text c (none_found text is) e

-- what does not stand in the text does not stand in the name of the file
pub config_lacks : (at : ℕ) (text : List ℕ) (c : ConfigData) → Lacks at text → config_of text ≡ Ok c → FileLacks at c.kind
unfolding config_of
config_lacks at text c h e = go (position is_colon text) e
  where
    go : (o : Option ℕ) → ◌≡◌ {A = Result ConfigData ConfigFault} (elim o [ Some at ↦ Err (fault.Colon at) | None ↦ parts_of text ]) (Ok c) → FileLacks at c.kind
    go (Some at) e = absurd (cc)
    go None e = let sound = parts_lack at text c h e in sound.0

-- ---- the fields before a hash

hash_free : (text : List ℕ) → Lacks 35 (before_hash text)
unfolding before_hash
hash_free [] = refl
hash_free (x ∷ xs) = go (nat_eq x 35) refl (hash_free xs)
  where
    go : (b : Bool) → nat_eq x 35 ≡ b → Lacks 35 (take (position_or_len (λ y. nat_eq y 35) xs) xs) → Lacks 35 (take (cond (not b) (1 + position_or_len (λ y. nat_eq y 35) xs) 0) (x ∷ xs))
    go true is more = refl
    go false is more = subst (λ (k : ℕ). Lacks 35 (take k (x ∷ xs))) (sym (one_more (position_or_len (λ y. nat_eq y 35) xs))) (and_from _ _ (ap not is) more)

split_lacks : (at : ℕ) (p : ℕ → Bool) (text : List ℕ) → Lacks at text → Every (Lacks at) (slice_split p text)
split_lacks at p [] h = (refl, tt)
split_lacks at p (x ∷ xs) h =
    let k = and_parts (is_other at x) (list_all (is_other at) xs) h in
    go (p x) (slice_split p xs) k.0 (split_lacks at p xs k.1)
  where
    onto : (ts : List (List ℕ)) → is_other at x ≡ true → Every (Lacks at) ts → Every (Lacks at) (cond false ([] ∷ ts) (onto_first x ts))
    onto [] e h = (and_from _ _ e refl, tt)
    onto (t ∷ ts) e h = (and_from _ _ e h.0, h.1)

    go : (b : Bool) (ts : List (List ℕ)) → is_other at x ≡ true → Every (Lacks at) ts → Every (Lacks at) (cond b ([] ∷ ts) (onto_first x ts))
    go true ts e h = (refl, h)
    go false ts e h = onto ts e h

pub fields_lack : (text : List ℕ) → Every (Lacks 35) (fields_of (before_hash text))
unfolding fields_of
fields_lack text = every-filter (λ (f : List ℕ). nat_lt 0 (length f)) (Lacks 35) (slice_split is_blank (before_hash text)) (split_lacks 35 is_blank (before_hash text) (hash_free text))
