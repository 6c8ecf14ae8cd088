-- A reset that lets the commands go, one after another.
use Rattle.std.proofs.Common.{◌≡◌, ℕ, ◌+◌, ◌≤◌, ◌<◌, eqb, Bool, true, false, cond, not, List, [], ◌∷◌, ◌++◌, length, take, drop, map, get_or, Some, None, refl, sym, ap, ◌∙◌, arith, append_assoc}
use Rattle.std.specs.List.{filter}
use Rattle.std.specs.Option.{option_map}
use Rattle.std.proofs.lemmas.Bool.{eq-eqb}
use Rattle.std.proofs.lemmas.List.{take_more, drop_more, drop_all, map-append}
use Rattle.std.proofs.lemmas.List.Elements.{filter-append}
use Rattle.tcmu_types.specs.Data.{DoneData}
use Rattle.tcmu_types.specs.Lists.{first_of, without_first}
use Rattle.region_model.specs.Represents.{has_id}
use Rattle.region_model.specs.Sides.{PendingRow}
use Rattle.region_model.specs.TargetCleans.{reset_log}
use Rattle.target_table.specs.Rows.{id_in_row, command_of}
use Rattle.target_side.specs.Books.{is_unlogged, to_log}
use Rattle.target_side.proofs.Completions.{count_cons}

-- ==== the first command

pub record FirstRow (rows : List PendingRow) (id : ℕ) : Type 0 where
  pub row : PendingRow
  pub rest : List PendingRow
  pub is : rows ≡ row ∷ rest
  pub id_is : row.id ≡ id

pub first_row : (rows : List PendingRow) (id : ℕ) → id_in_row (first_of (λ (r : PendingRow). true) rows) ≡ Some id → FirstRow rows id
first_row [] id h = absurd (cc)
first_row (x ∷ xs) id h = record { row = x; rest = xs; is = refl; id_is = cc }

pub no_first : (rows : List PendingRow) → id_in_row (first_of (λ (r : PendingRow). true) rows) ≡ None → rows ≡ []
no_first [] h = refl
no_first (x ∷ xs) h = absurd (cc)

pub first_pending : (rows : List PendingRow) (id : ℕ) (f : FirstRow rows id) → command_of rows id ≡ Some f.row.pending
first_pending rows id f =
    let e : eqb f.row.id id ≡ true = eq-eqb f.row.id id f.id_is in
    ap (λ (xs : List PendingRow). command_of xs id) f.is ∙ ap (λ b. option_map (λ (r : PendingRow). r.pending) (cond b (Some f.row) (first_of (has_id id) f.rest))) e

pub first_gone : (rows : List PendingRow) (id : ℕ) (f : FirstRow rows id) → without_first (has_id id) rows ≡ drop 1 rows
first_gone rows id f =
    let e : eqb f.row.id id ≡ true = eq-eqb f.row.id id f.id_is in
    ap (λ (xs : List PendingRow). without_first (has_id id) xs) f.is ∙ (ap (λ b. cond b f.rest (f.row ∷ without_first (has_id id) f.rest)) e ∙ ap (drop 1) (sym f.is))

-- the completions of those that have not expired
abbrev pub reset_rows : ℕ → List PendingRow → List DoneData
reset_rows level rows = map (λ (e : PendingRow). reset_log level e.pending) (filter (λ (e : PendingRow). not e.pending.expired) rows)

pub first_logged : (level : ℕ) (rows : List PendingRow) (id : ℕ) (f : FirstRow rows id) → f.row.pending.expired ≡ false → reset_rows level (take 1 rows) ≡ reset_log level f.row.pending ∷ []
first_logged level rows id f h = ap (λ xs. reset_rows level (take 1 xs)) f.is ∙ (rw h refl)

pub first_expired : (level : ℕ) (rows : List PendingRow) (id : ℕ) (f : FirstRow rows id) → f.row.pending.expired ≡ true → reset_rows level (take 1 rows) ≡ []
first_expired level rows id f h = ap (λ xs. reset_rows level (take 1 xs)) f.is ∙ (rw h refl)

pub first_unlogged : (rows : List PendingRow) (id : ℕ) (f : FirstRow rows id) → f.row.pending.expired ≡ false → to_log (drop 1 rows) + 1 ≡ to_log rows
first_unlogged rows id f h =
    let a : to_log (f.row ∷ f.rest) ≡ 1 + to_log f.rest = count_cons is_unlogged f.row f.rest ∙ ap (λ b. cond {A = ℕ} (not b) 1 0 + to_log f.rest) h in
    let b = ap (λ (xs : List PendingRow). to_log xs) f.is in
    let c : to_log (drop 1 rows) ≡ to_log f.rest = ap (λ xs. to_log (drop 1 xs)) f.is in
    omega (arith, a, b, c)

pub rest_unlogged : (rows : List PendingRow) → to_log (drop 1 rows) ≤ to_log rows
rest_unlogged [] = omega arith
rest_unlogged (x ∷ xs) = let a = count_cons is_unlogged x xs in omega (arith, a)

-- ==== so many commands

pub rows_next : (rows at : List PendingRow) (k : ℕ) → at ≡ drop k rows → k < length rows → drop 1 at ≡ drop (k + 1) rows
rows_next rows at k e h = go rows e h
  where
    go : (xs : List PendingRow) → at ≡ drop k xs → k < length xs → drop 1 at ≡ drop (k + 1) xs
    go [] q l = absurd (omega (arith, l))
    go (x ∷ xs) q l = ap (drop 1) (q ∙ drop_more (x ∷ xs) k x l)

pub logs_next : (level : ℕ) (rows at : List PendingRow) (k : ℕ) (start log new : List DoneData) → k < length rows → at ≡ drop k rows → log ≡ start ++ reset_rows level (take k rows) → new ≡ log ++ reset_rows level (take 1 at) →
    new ≡ start ++ reset_rows level (take (k + 1) rows)
logs_next level [] at k start log new h e l n = absurd (omega (arith, h))
logs_next level (x ∷ xs) at k start log new h e l n =
    let p : PendingRow → Bool = λ y. not y.pending.expired in
    let g : PendingRow → DoneData = λ y. reset_log level y.pending in
    let rows : List PendingRow = x ∷ xs in
    let f : PendingRow = get_or rows k x in
    let behind : drop k rows ≡ f ∷ drop (k + 1) rows = drop_more rows k x h in
    let before : take (k + 1) rows ≡ take k rows ++ f ∷ [] = take_more rows k x h in
    let first : take 1 at ≡ f ∷ [] = ap (take 1) (e ∙ behind) in
    let a : new ≡ (start ++ reset_rows level (take k rows)) ++ reset_rows level (f ∷ []) = n ∙ (ap (λ ys. log ++ reset_rows level ys) first ∙ ap (λ ys. ys ++ reset_rows level (f ∷ [])) l) in
    let c : reset_rows level (take k rows) ++ reset_rows level (f ∷ []) ≡ reset_rows level (take (k + 1) rows) =
    sym (map-append g (filter p (take k rows)) (filter p (f ∷ []))) ∙ ap (map g) (sym (filter-append p (take k rows) (f ∷ [])) ∙ ap (filter p) (sym before)) in
    a ∙ (append_assoc start (reset_rows level (take k rows)) (reset_rows level (f ∷ [])) ∙ ap (λ zs. start ++ zs) c)

pub none_behind : (rows : List PendingRow) (n : ℕ) → length rows ≤ n → drop n rows ≡ []
none_behind rows n h = drop_all n rows h
