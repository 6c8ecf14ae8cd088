-- Configs are read again.
use Rattle.std.proofs.Common.{◌≡◌, ℕ, ◌^◌, ◌<◌, ◌≤◌, Bool, true, false, cond, ◌&&◌, ◌||◌, not, nat_eq, nat_le, List, [], ◌∷◌, ◌++◌, length, map, Some, None, Ok, Err, refl, sym, ap, subst, ◌∙◌, arith, codes, append_assoc}
use Rattle.std.specs.List.{list_all}
use Rattle.std.specs.Option.{option_map}
use Rattle.std.specs.Fmt.{decimal}
use Rattle.std.proofs.lemmas.Bool.{and_from, and_parts, leb-true, ne_eqb, eqb-true, cond-true}
use Rattle.std.proofs.lemmas.List.Folds.{list_all-append}
use Rattle.tcmu_types.specs.Naming.{is_name, is_name_byte, is_letter}
use Rattle.text_model.specs.Words.{subtype_of}
use Rattle.text_model.specs.Fields.{name_of}
use Rattle.tcmu_types.specs.Decimals.{is_digit, number_of, IsWithin, IsRisingTo}
use Rattle.text_model.specs.Config.{ConfigData, MediumData, InMemory, InFile, PathData, medium_of, path_of, part, parts_of, config_of}
use Rattle.text_model.specs.ScenarioRules.{IsMedium, IsConfig}
use Rattle.tcmu_types.specs.Lists.{Every}
use Rattle.text_model.specs.Text.{numbers_text, medium_text, kind_text, config_text}
use Rattle.text_model.specs.declared.faults.ConfigFault.TheVariants as fault
use Rattle.text_model.specs.declared.words.Subtype.{Subtype}
use Rattle.text_model.specs.declared.words.Subtype.TheVariants.{Mem, File, Ro, Fail}
use Rattle.text_laws.specs.Configs.{is_other, FileLacks, ConfigsAgain}
use Rattle.text_laws.proofs.Numbers.{all_digits, number_again}
use Rattle.text_laws.proofs.Lists.{rising_again, within_each}
use Rattle.text_laws.proofs.Words.{weaker}
use Rattle.text_laws.proofs.Fields.{joined_pass, or_cases}
use Rattle.text_laws.proofs.Cuts.{none_at, cut_again, part_again}

-- ---- which bytes stand in a config text

-- a test that lets the bytes of names and numbers pass, and of the words of configs
pub record Lets (p : ℕ → Bool) : Type 0 where
  pub name : (x : ℕ) → is_name_byte x ≡ true → p x ≡ true
  pub slash : p 47 ≡ true
  pub plus : p 43 ≡ true
  pub prefix : list_all p (codes "tcm-user/") ≡ true
  pub mem : list_all p (codes "mem/") ≡ true
  pub file : list_all p (codes "file/") ≡ true
  pub ro : list_all p (codes "ro/") ≡ true
  pub fail : list_all p (codes "fail/") ≡ true

digit_in_name : (x : ℕ) → is_digit x ≡ true → is_name_byte x ≡ true
digit_in_name x h = rw h (go (is_letter x))
  where
    go : (b : Bool) → (b || true || nat_eq x 95) ≡ true
    go true = refl
    go false = refl

pub number_passes : (p : ℕ → Bool) → Lets p → (n : ℕ) → n < 2 ^ 60 → list_all p (decimal n) ≡ true
number_passes p l n lt = weaker is_digit p (λ x d. l.name x (digit_in_name x d)) (decimal n) (all_digits n (omega (arith, lt)))

pub name_passes : (p : ℕ → Bool) → Lets p → (name : List ℕ) → is_name name ≡ true → list_all p name ≡ true
name_passes p l name is = weaker is_name_byte p l.name name (and_parts _ (list_all is_name_byte name) is).1

numbers_pass : (p : ℕ → Bool) → Lets p → (high : ℕ) (ns : List ℕ) → high < 2 ^ 60 → Every (IsWithin 1 high) ns → Every (λ t. list_all p t ≡ true) (map decimal ns)
numbers_pass p l high [] lt h = tt
numbers_pass p l high (n ∷ ns) lt h = (number_passes p l n (omega (arith, lt, h.0.most)), numbers_pass p l high ns lt h.1)

rising_passes : (p : ℕ → Bool) → Lets p → (ns : List ℕ) → IsRisingTo 1000000 ns → list_all p (numbers_text 43 ns) ≡ true
unfolding numbers_text
rising_passes p l ns is = joined_pass p 43 (map decimal ns) l.plus (numbers_pass p l 1000000 ns (omega arith) (within_each 1000000 ns is.each))

abbrev pub FilePasses : (ℕ → Bool) → MediumData → Type 0
FilePasses p (InMemory blocks) = Unit {0}
FilePasses p (InFile name) = list_all p name ≡ true

both : (p : ℕ → Bool) (a b : List ℕ) → list_all p a ≡ true → list_all p b ≡ true → list_all p (a ++ b) ≡ true
both p a b h k = list_all-append p a b ∙ and_from _ _ h k

medium_passes : (p : ℕ → Bool) → Lets p → (m : MediumData) → IsMedium m → FilePasses p m → list_all p (medium_text m) ≡ true
unfolding medium_text
medium_passes p l (InMemory n) is h = both p (codes "mem/") (decimal n) l.mem (number_passes p l n (omega (arith, is.most)))
medium_passes p l (InFile name) is h = both p (codes "file/") name l.file h

kind_passes : (p : ℕ → Bool) → Lets p → (c : ConfigData) → IsRisingTo 1000000 c.fails → list_all p (kind_text c) ≡ true
unfolding kind_text
kind_passes p l c is = go (nat_eq (length c.fails) 0)
  where
    shield : (b : Bool) → list_all p (cond b (codes "ro/") []) ≡ true
    shield true = l.ro
    shield false = refl

    go : (b : Bool) → list_all p (cond b (cond c.protected (codes "ro/") []) (codes "fail/" ++ numbers_text 43 c.fails ++ codes "/")) ≡ true
    go true = shield c.protected
    go false = both p (codes "fail/" ++ numbers_text 43 c.fails) (codes "/") (both p (codes "fail/") (numbers_text 43 c.fails) l.fail (rising_passes p l c.fails is)) (and_from _ _ l.slash refl)

pub config_passes : (p : ℕ → Bool) → Lets p → (c : ConfigData) → IsConfig c → FilePasses p c.kind → list_all p (config_text c) ≡ true
unfolding config_text
config_passes p l c is file =
    let a = both p (codes "tcm-user/") (decimal c.hba) l.prefix (number_passes p l c.hba (omega (arith, is.hba))) in
    let b = both p (codes "tcm-user/" ++ decimal c.hba) (codes "/") a (and_from _ _ l.slash refl) in
    let d = both p (codes "tcm-user/" ++ decimal c.hba ++ codes "/") c.name b (name_passes p l c.name is.name) in
    let e = both p (codes "tcm-user/" ++ decimal c.hba ++ codes "/" ++ c.name) (codes "/") d (and_from _ _ l.slash refl) in
    let f = both p (codes "tcm-user/" ++ decimal c.hba ++ codes "/" ++ c.name ++ codes "/") (kind_text c) e (kind_passes p l c is.fails) in
    both p (codes "tcm-user/" ++ decimal c.hba ++ codes "/" ++ c.name ++ codes "/" ++ kind_text c) (medium_text c.kind) f (medium_passes p l c.kind is.medium file)

-- a byte that stands in no name
pub lets_other : (at : ℕ) → ((x : ℕ) → is_name_byte x ≡ true → (x ≡ at) → ⊥) → (x : ℕ) → is_name_byte x ≡ true → is_other at x ≡ true
lets_other at never x h = ap not (ne_eqb x at (λ e. never x h e))

-- names have letters, digits and underscores
pub name_byte_is : (x : ℕ) {P : Type 0} → is_name_byte x ≡ true → (97 ≤ x → x ≤ 122 → P) → (48 ≤ x → x ≤ 57 → P) → (x ≡ 95 → P) → P
name_byte_is x h letter digit score =
    or_cases (is_letter x || (nat_le 48 x && nat_le x 57)) (nat_eq x 95) h
    (λ e. or_cases (is_letter x) (nat_le 48 x && nat_le x 57) e
    (λ l. letter (leb-true 97 x (and_parts (nat_le 97 x) (nat_le x 122) l).0) (leb-true x 122 (and_parts (nat_le 97 x) (nat_le x 122) l).1))
    (λ d. digit (leb-true 48 x (and_parts (nat_le 48 x) (nat_le x 57) d).0) (leb-true x 57 (and_parts (nat_le 48 x) (nat_le x 57) d).1)))
    (λ e. score (eqb-true _ _ e))

no_colon : (x : ℕ) → is_name_byte x ≡ true → is_other 58 x ≡ true
no_colon x h = ap not (ne_eqb x 58 (λ e. name_byte_is x h (λ a b. omega (arith, a, b, e)) (λ a b. omega (arith, a, b, e)) (λ a. omega (arith, a, e))))

lets_colon : Lets (is_other 58)
lets_colon = record { name = no_colon; slash = refl; plus = refl; prefix = refl; mem = refl; file = refl; ro = refl; fail = refl }

no_slash_byte : (x : ℕ) → is_name_byte x ≡ true → is_other 47 x ≡ true
no_slash_byte x h = ap not (ne_eqb x 47 (λ e. name_byte_is x h (λ a b. omega (arith, a, b, e)) (λ a b. omega (arith, a, b, e)) (λ a. omega (arith, a, e))))

digit_no_slash : (x : ℕ) → is_digit x ≡ true → is_other 47 x ≡ true
digit_no_slash x d = no_slash_byte x (digit_in_name x d)

number_no_slash : (n : ℕ) → n < 2 ^ 60 → list_all (is_other 47) (decimal n) ≡ true
number_no_slash n lt = weaker is_digit (is_other 47) digit_no_slash (decimal n) (all_digits n (omega (arith, lt)))

numbers_no_slash : (ns : List ℕ) → Every (IsWithin 1 1000000) ns → Every (λ t. list_all (is_other 47) t ≡ true) (map decimal ns)
numbers_no_slash [] h = tt
numbers_no_slash (n ∷ ns) h = (number_no_slash n (omega (arith, h.0.most)), numbers_no_slash ns h.1)

rising_no_slash : (ns : List ℕ) → IsRisingTo 1000000 ns → list_all (is_other 47) (numbers_text 43 ns) ≡ true
unfolding numbers_text
rising_no_slash ns is = joined_pass (is_other 47) 43 (map decimal ns) refl (numbers_no_slash ns (within_each 1000000 ns is.each))

-- ---- media and paths

medium_again : (m : MediumData) → IsMedium m → medium_of (medium_text m) ≡ Some m
unfolding medium_of medium_text
medium_again (InMemory n) is = ap (option_map InMemory) (number_again 1 32768 n is.least is.most (omega arith))
medium_again (InFile name) is = ap (option_map InFile) (cond-true _ _ _ is)

-- what stands behind the device's name says this path
record SaysPath (text : List ℕ) (path : PathData) : Type 0 where
  subtype : Subtype
  rest : List ℕ
  cut : part fault.Subtype subtype_of text ≡ Ok (subtype, rest)
  says : path_of subtype rest ≡ Some path

abbrev path_text : MediumData → Bool → List ℕ → List ℕ
path_text kind protected fails = cond (nat_eq (length fails) 0) (cond protected (codes "ro/") []) (codes "fail/" ++ numbers_text 43 fails ++ codes "/") ++ medium_text kind

open_path : (m : MediumData) → IsMedium m → SaysPath (medium_text m) (record { kind = m; protected = false; fails = [] })
unfolding medium_text path_of subtype_of
open_path (InMemory n) is = record {
  subtype = Mem;
  rest = decimal n;
  cut = part_again fault.Subtype subtype_of (codes "mem") (decimal n) Mem refl refl;
  says = ap (option_map (λ m. let p : PathData = record { kind = m; protected = false; fails = [] } in p)) (ap (option_map InMemory) (number_again 1 32768 n is.least is.most (omega arith)));
}
open_path (InFile name) is = record {
  subtype = File;
  rest = name;
  cut = part_again fault.Subtype subtype_of (codes "file") name File refl refl;
  says = ap (option_map (λ m. let p : PathData = record { kind = m; protected = false; fails = [] } in p)) (ap (option_map InFile) (cond-true _ _ _ is));
}

shielded_path : (m : MediumData) → IsMedium m → SaysPath (codes "ro/" ++ medium_text m) (record { kind = m; protected = true; fails = [] })
unfolding path_of subtype_of
shielded_path m is = record {
  subtype = Ro;
  rest = medium_text m;
  cut = part_again fault.Subtype subtype_of (codes "ro") (medium_text m) Ro refl refl;
  says = ap (option_map (λ m. let p : PathData = record { kind = m; protected = true; fails = [] } in p)) (medium_again m is);
}

failing_path : (m : MediumData) (n : ℕ) (ns : List ℕ) → IsMedium m → IsRisingTo 1000000 (n ∷ ns) → SaysPath (codes "fail/" ++ (numbers_text 43 (n ∷ ns) ++ 47 ∷ medium_text m)) (record { kind = m; protected = false; fails = n ∷ ns })
unfolding path_of subtype_of
failing_path m n ns is rising = record {
  subtype = Fail;
  rest = numbers_text 43 (n ∷ ns) ++ 47 ∷ medium_text m;
  cut = part_again fault.Subtype subtype_of (codes "fail") (numbers_text 43 (n ∷ ns) ++ 47 ∷ medium_text m) Fail refl refl;
  says = rw (cut_again 47 (numbers_text 43 (n ∷ ns)) (medium_text m) (rising_no_slash (n ∷ ns) rising)) (rw (rising_again 43 1000000 (n ∷ ns) (omega arith) (omega arith) rising (omega arith), medium_again m is) refl);
}

path_again : (m : MediumData) (protected : Bool) (fails : List ℕ) → IsMedium m → IsRisingTo 1000000 fails → (0 < length fails → protected ≡ false) → SaysPath (path_text m protected fails) (record { kind = m; protected = protected; fails = fails })
path_again m true [] is rising one = shielded_path m is
path_again m false [] is rising one = open_path m is
path_again m true (n ∷ ns) is rising one = absurd (never (one (omega arith)))
  where
    never : true ≡ false → ⊥
    never e = cc
path_again m false (n ∷ ns) is rising one = subst (λ t. SaysPath t (record { kind = m; protected = false; fails = n ∷ ns })) (sym spelled) (failing_path m n ns is rising)
  where
    spelled : path_text m false (n ∷ ns) ≡ codes "fail/" ++ (numbers_text 43 (n ∷ ns) ++ 47 ∷ medium_text m)
    spelled =
        ap (λ b. cond b [] (codes "fail/" ++ numbers_text 43 (n ∷ ns) ++ codes "/") ++ medium_text m) (ne_eqb (length (n ∷ ns)) 0 (λ e. omega (arith, e)))
        ∙ append_assoc (codes "fail/" ++ numbers_text 43 (n ∷ ns)) (codes "/") (medium_text m)
        ∙ append_assoc (codes "fail/") (numbers_text 43 (n ∷ ns)) (codes "/" ++ medium_text m)

-- ---- whole configs

spelled : (c : ConfigData) → config_text c ≡ codes "tcm-user/" ++ (decimal c.hba ++ 47 ∷ (c.name ++ 47 ∷ (kind_text c ++ medium_text c.kind)))
unfolding config_text
spelled c =
    append_assoc (codes "tcm-user/" ++ decimal c.hba ++ codes "/" ++ c.name ++ codes "/") (kind_text c) (medium_text c.kind)
    ∙ append_assoc (codes "tcm-user/" ++ decimal c.hba ++ codes "/" ++ c.name) (codes "/") (kind_text c ++ medium_text c.kind)
    ∙ append_assoc (codes "tcm-user/" ++ decimal c.hba ++ codes "/") c.name (codes "/" ++ (kind_text c ++ medium_text c.kind))
    ∙ append_assoc (codes "tcm-user/" ++ decimal c.hba) (codes "/") (c.name ++ (codes "/" ++ (kind_text c ++ medium_text c.kind)))
    ∙ append_assoc (codes "tcm-user/") (decimal c.hba) (codes "/" ++ (c.name ++ (codes "/" ++ (kind_text c ++ medium_text c.kind))))

parts_again : (c : ConfigData) → IsConfig c → (0 < length c.fails → c.protected ≡ false) → parts_of (codes "tcm-user/" ++ (decimal c.hba ++ 47 ∷ (c.name ++ 47 ∷ (kind_text c ++ medium_text c.kind)))) ≡ Ok c
unfolding parts_of kind_text
parts_again c is one =
    let path = path_again c.kind c.protected c.fails is.medium is.fails one in
    let named : name_of c.name ≡ Some c.name = cond-true _ _ _ is.name in
    let whole = weaker is_name_byte (is_other 47) no_slash_byte c.name (and_parts _ (list_all is_name_byte c.name) is.name).1 in
    rw (part_again fault.Hba (number_of 0 65535) (decimal c.hba) (c.name ++ 47 ∷ path_text c.kind c.protected c.fails) c.hba (number_no_slash c.hba (omega (arith, is.hba))) (number_again 0 65535 c.hba (omega arith) is.hba (omega arith)))
    (rw (part_again fault.Name name_of c.name (path_text c.kind c.protected c.fails) c.name whole named)
    (rw path.cut (rw path.says refl)))

pub configs_again : ConfigsAgain
unfolding config_of
configs_again c is =
    let none = none_at 58 (config_text c) (config_passes (is_other 58) lets_colon c is.config (file_has_none c.kind is.file)) in
    ap (λ o. elim o [ Some at ↦ Err (fault.Colon at) | None ↦ parts_of (config_text c) ]) none ∙ ap parts_of (spelled c) ∙ parts_again c is.config is.one
  where
    file_has_none : (m : MediumData) → FileLacks 58 m → FilePasses (is_other 58) m
    file_has_none (InMemory n) h = tt
    file_has_none (InFile name) h = h
