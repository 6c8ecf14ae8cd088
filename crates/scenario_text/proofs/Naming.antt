-- Devices and initiators by their names.
use Rattle.std.proofs.Common.{◌≡◌, ℕ, suc, Bool, true, false, true≢false, cond, ◌||◌, IsTrue, List, [], ◌∷◌, ◌++◌, length, map, position, is_some, Option, Some, None, refl, sym, ap, ◌∙◌, bytes_eq}
use Rattle.std.specs.List.{list_any, position_or_len}
use Rattle.std.specs.Cmp.Lexicographic.{bytes_decides, nat_list_eq_equiv}
use Rattle.tcmu_types.specs.Naming.{is_name}
use Rattle.text_model.specs.ScenarioData.{DeviceLineData, ScenarioData}
use Rattle.text_model.specs.Said.{has_name}
use Rattle.text_model.specs.Scenario.{with_name}
use Rattle.tcmu_types.proofs.Everies.{every-append, every-weaker, every-none}
use Rattle.tcmu_types.proofs.Firsts.{none_any, any_at, is_first}
use Rattle.indexmap.specs.IndexSet.{insert_key}
use Rattle.scenario_text.specs.Counts.{AreNames, IsNewName, place_in}

-- ---- sets of names

any_turned : (name : List ℕ) (names : List (List ℕ)) → list_any (bytes_eq name) names ≡ list_any (λ n. bytes_eq n name) names
any_turned name [] = refl
any_turned name (n ∷ names) = rw (nat_list_eq_equiv.symm name n, any_turned name names) refl

pub noted_name : (names : List (List ℕ)) (name : List ℕ) → insert_key bytes_eq names name ≡ with_name names name
noted_name names name = ap (λ (b : Bool). cond b names (names ++ name ∷ [])) (any_turned name names)

-- ---- the devices of a scenario

abbrev names_of : List DeviceLineData → List (List ℕ)
names_of ds = map (λ d. d.name) ds

before_name : (name : List ℕ) (ds : List DeviceLineData) → position_or_len (bytes_eq name) (names_of ds) ≡ position_or_len (has_name name) ds
before_name name [] = refl
before_name name (d ∷ ds) = rw (nat_list_eq_equiv.symm name d.name, before_name name ds) refl

names_length : (ds : List DeviceLineData) → length (names_of ds) ≡ length ds
names_length [] = refl
names_length (d ∷ ds) = ap suc (names_length ds)

place_of_name : (name : List ℕ) (ds : List DeviceLineData) → position (bytes_eq name) (names_of ds) ≡ position (has_name name) ds
place_of_name name ds = rw (before_name name ds, names_length ds) refl

none_if : (o : Option ℕ) → ((i : ℕ) → o ≡ Some i → true ≡ false) → o ≡ None
none_if None h = refl
none_if (Some i) h = absurd (true≢false (h i refl))

-- what is no name is no device's name
at_no_name : (ds : List DeviceLineData) (text : List ℕ) (names : List (List ℕ)) → AreNames ds names → is_name text ≡ false → position (has_name text) ds ≡ None
at_no_name ds text names k unnamed =
    let other : (d : DeviceLineData) → IsTrue (is_name d.name) → has_name text d ≡ false = λ d is. go d is (has_name text d) refl in
    let none = every-none (has_name text) ds (every-weaker (λ (d : DeviceLineData). IsTrue (is_name d.name)) (λ (d : DeviceLineData). has_name text d ≡ false) ds other k.each) in
    none_if (position (has_name text) ds) (λ i e. sym (any_at (has_name text) ds i (is_first (has_name text) ds i e)) ∙ none)
  where
    go : (d : DeviceLineData) → IsTrue (is_name d.name) → (b : Bool) → has_name text d ≡ b → b ≡ false
    go d is false e = refl
    go d is true e = absurd (true≢false (sym is ∙ ap is_name ((bytes_decides d.name text).0 e) ∙ unnamed))

-- the place of a name is the number of its device
pub place_told : (ds : List DeviceLineData) (names : List (List ℕ)) (text : List ℕ) → AreNames ds names → place_in names text ≡ position (has_name text) ds
place_told ds names text k = go (is_name text) refl
  where
    go : (b : Bool) → is_name text ≡ b → cond b (position (bytes_eq text) names) None ≡ position (has_name text) ds
    go true e = ap (position (bytes_eq text)) k.are ∙ place_of_name text ds
    go false e = sym (at_no_name ds text names k e)

-- whether there is a device of this name
pub any_at_name : (ds : List DeviceLineData) (name : List ℕ) → is_some (position (has_name name) ds) ≡ list_any (has_name name) ds
any_at_name ds name = go (position (has_name name) ds) refl
  where
    go : (o : Option ℕ) → position (has_name name) ds ≡ o → is_some o ≡ list_any (has_name name) ds
    go None e = sym (none_any (has_name name) ds e)
    go (Some i) e = sym (any_at (has_name name) ds i (is_first (has_name name) ds i e))

-- ---- one more device

any_of_names : (name : List ℕ) (ds : List DeviceLineData) → list_any (λ n. bytes_eq n name) (names_of ds) ≡ list_any (has_name name) ds
any_of_names name [] = refl
any_of_names name (d ∷ ds) = ap (λ (b : Bool). bytes_eq d.name name || b) (any_of_names name ds)

names_push : (ds : List DeviceLineData) (d : DeviceLineData) → names_of ds ++ d.name ∷ [] ≡ names_of (ds ++ d ∷ [])
names_push [] d = refl
names_push (x ∷ ds) d = ap (λ (ns : List (List ℕ)). x.name ∷ ns) (names_push ds d)

pub are_names_more : (s : ScenarioData) (names : List (List ℕ)) (d : DeviceLineData) → AreNames s.devices names → IsNewName s d → AreNames (s.devices ++ d ∷ []) (with_name names d.name)
are_names_more s names d k new =
    let last : with_name (names_of s.devices) d.name ≡ names_of s.devices ++ d.name ∷ [] = ap (λ (b : Bool). cond b (names_of s.devices) (names_of s.devices ++ d.name ∷ [])) (any_of_names d.name s.devices ∙ new.other) in
    record {
      are = ap (λ (ns : List (List ℕ)). with_name ns d.name) k.are ∙ last ∙ names_push s.devices d;
      each = every-append (λ (x : DeviceLineData). IsTrue (is_name x.name)) s.devices (d ∷ []) k.each (new.name, tt);
    }
