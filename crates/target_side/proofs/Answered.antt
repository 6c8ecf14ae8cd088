-- One item that is cleaned, in the target's books.
use Rattle.std.proofs.Common.{◌≡◌, ℕ, ◌+◌, Bool, true, false, cond, List, [], ◌∷◌, ◌++◌, Option, Some, None, refl, sym, ap, ◌∙◌}
use Rattle.std.proofs.lemmas.List.{append-nil}
use Rattle.tcmu_types.specs.Data.{DoneData}
use Rattle.tcmu_types.specs.declared.settings.Flags.{Flags}
use Rattle.tcmu_types.specs.Lists.{first_of, without_first}
use Rattle.tcmu_model.specs.Device.{Delayed}
use Rattle.region_model.specs.declared.entry.Response.{Response}
use Rattle.region_model.specs.Pending.{PendingData}
use Rattle.region_model.specs.Regions.{RegionState, size_of}
use Rattle.region_model.specs.Represents.{has_id}
use Rattle.region_model.specs.Sides.{PendingRow, Recorded, TargetState}
use Rattle.region_model.specs.TargetCleans.{completion_read, completions_read, response_in}
use Rattle.target_side.specs.declared.entries.Entries.{Entries}
use Rattle.target_side.specs.Books.{books_of}
use Rattle.target_side.specs.Cleaning.{first_cleaned}
use Rattle.target_side.specs.HeldRows.{HeldRows}
use Rattle.target_side.specs.RingRecord.{RingRecord, begins_with_command, passed, passed_of}
use Rattle.target_side.proofs.Cleaned.{cleaned_none, cleaned_some, passed_first}

-- the books, by the parts of what is laid
abbrev pub build : Flags → ℕ → ℕ → ℕ → Bool → ℕ → List Delayed → ℕ → ℕ → HeldRows → RingRecord → ℕ → Option ℕ → List DoneData → TargetState
build flags timeout qfull now blocked accepted delayed laid pages h p cleared broken log =
    record {
      settings = record { ring = p.size; blocks = h.limit; flags = flags; timeout = timeout; qfull = qfull; pages = pages };
      now = now;
      blocked = blocked;
      accepted = accepted;
      rows = h.rows;
      delayed = delayed;
      items = p.items;
      cleaned = p.cleaned;
      laid = laid;
      cleared = cleared;
      broken = broken;
      log = log;
    }

none_begins : begins_with_command [] ≡ true → ⊥
none_begins h = cc

-- the command of an answer is taken out
pub answered_command : (r : RegionState) (flags : Flags) (timeout qfull now : ℕ) (blocked : Bool) (accepted : ℕ) (delayed : List Delayed) (laid cleared : ℕ) (broken : Option ℕ) (log logged : List DoneData) (e e' : Entries) (a : Response) (row : PendingRow) →
    let t : TargetState = books_of flags timeout qfull now blocked accepted e delayed laid cleared broken log in
    e'.commands ≡ record e.commands { rows = without_first (has_id a.id) e.commands.rows } → e'.places.ring ≡ passed e.places.ring → e'.pages ≡ e.pages → begins_with_command t.items ≡ true → a ≡ response_in r t →
    first_of (has_id a.id) t.rows ≡ Some row → logged ≡ log ++ completions_read (size_of r) r.blocks row.pending a →
    books_of flags timeout qfull now blocked accepted e' delayed laid (cleared + 1) broken logged ≡ first_cleaned r t t.items
answered_command r flags timeout qfull now blocked accepted delayed laid cleared broken log logged e e' a row rows ring pages begins is found l =
    go e.places.ring.items refl
  where
    t : TargetState
    t = books_of flags timeout qfull now blocked accepted e delayed laid cleared broken log

    make : ℕ → HeldRows → RingRecord → List DoneData → TargetState
    make n h p ds = build flags timeout qfull now blocked accepted delayed laid n h p (cleared + 1) broken ds

    left : HeldRows
    left = record e.commands { rows = without_first (has_id a.id) e.commands.rows }

    done : List DoneData
    done = log ++ completions_read (size_of r) r.blocks row.pending a

    parts : make e'.pages e'.commands e'.places.ring logged ≡ make e.pages left (passed e.places.ring) done
    parts =
        ap (λ n. make n e'.commands e'.places.ring logged) pages
        ∙ (ap (λ h. make e.pages h e'.places.ring logged) rows
        ∙ (ap (λ p. make e.pages left p logged) ring
        ∙ ap (λ ds. make e.pages left (passed e.places.ring) ds) l))

    go : (xs : List Recorded) → e.places.ring.items ≡ xs → books_of flags timeout qfull now blocked accepted e' delayed laid (cleared + 1) broken logged ≡ first_cleaned r t t.items
    go [] q = absurd (none_begins (ap begins_with_command (sym q) ∙ begins))
    go (x ∷ xs) q =
        parts
        ∙ (ap (λ ys. make e.pages left (passed_of e.places.ring ys) done) q
        ∙ (cleaned_some r t x xs a row (ap begins_with_command (sym q) ∙ begins) is found
        ∙ ap (first_cleaned r t) (sym q)))

-- an id that no command has is kept
pub answered_none : (r : RegionState) (flags : Flags) (timeout qfull now : ℕ) (blocked : Bool) (accepted : ℕ) (delayed : List Delayed) (laid cleared : ℕ) (broken : Option ℕ) (log : List DoneData) (e e' : Entries) (a : Response) →
    let t : TargetState = books_of flags timeout qfull now blocked accepted e delayed laid cleared broken log in
    e'.commands ≡ e.commands → e'.places.ring ≡ e.places.ring → e'.pages ≡ e.pages → begins_with_command t.items ≡ true → a ≡ response_in r t → first_of (has_id a.id) t.rows ≡ None →
    books_of flags timeout qfull now blocked accepted e' delayed laid cleared (Some a.id) log ≡ first_cleaned r t t.items
answered_none r flags timeout qfull now blocked accepted delayed laid cleared broken log e e' a rows ring pages begins is none =
    ap (λ n. build flags timeout qfull now blocked accepted delayed laid n e'.commands e'.places.ring cleared (Some a.id) log) pages
    ∙ (ap (λ h. build flags timeout qfull now blocked accepted delayed laid e.pages h e'.places.ring cleared (Some a.id) log) rows
    ∙ (ap (λ p. build flags timeout qfull now blocked accepted delayed laid e.pages e.commands p cleared (Some a.id) log) ring
    ∙ cleaned_none r (books_of flags timeout qfull now blocked accepted e delayed laid cleared broken log) e.places.ring.items a refl begins is none))

-- an item that is no command's is passed
pub answered_other : (r : RegionState) (flags : Flags) (timeout qfull now : ℕ) (blocked : Bool) (accepted : ℕ) (delayed : List Delayed) (laid cleared : ℕ) (broken : Option ℕ) (log : List DoneData) (e e' : Entries) →
    let t : TargetState = books_of flags timeout qfull now blocked accepted e delayed laid cleared broken log in
    e'.commands ≡ e.commands → e'.places.ring ≡ passed e.places.ring → e'.pages ≡ e.pages → begins_with_command t.items ≡ false →
    books_of flags timeout qfull now blocked accepted e' delayed laid cleared broken log ≡ first_cleaned r t t.items
answered_other r flags timeout qfull now blocked accepted delayed laid cleared broken log e e' rows ring pages begins =
    go e.places.ring.items refl
  where
    t : TargetState
    t = books_of flags timeout qfull now blocked accepted e delayed laid cleared broken log

    make : ℕ → HeldRows → RingRecord → TargetState
    make n h p = build flags timeout qfull now blocked accepted delayed laid n h p cleared broken log

    parts : make e'.pages e'.commands e'.places.ring ≡ make e.pages e.commands (passed e.places.ring)
    parts = ap (λ n. make n e'.commands e'.places.ring) pages ∙ (ap (λ h. make e.pages h e'.places.ring) rows ∙ ap (λ p. make e.pages e.commands p) ring)

    go : (xs : List Recorded) → e.places.ring.items ≡ xs → books_of flags timeout qfull now blocked accepted e' delayed laid cleared broken log ≡ first_cleaned r t t.items
    go [] q = parts ∙ (ap (λ ys. make e.pages e.commands (passed_of e.places.ring ys)) q ∙ ap (first_cleaned r t) (sym q))
    go (x ∷ xs) q =
        parts
        ∙ (ap (λ ys. make e.pages e.commands (passed_of e.places.ring ys)) q
        ∙ (passed_first r t x xs (ap begins_with_command (sym q) ∙ begins)
        ∙ ap (first_cleaned r t) (sym q)))

-- ==== what is logged of it

-- a command that has not expired is completed
pub logged_one : (size : ℕ) (area : List (Option (List ℕ))) (log logged : List DoneData) (row : PendingRow) (p : PendingData) (a : Response) (done : DoneData) → row.pending ≡ p → p.expired ≡ false → done ≡ completion_read size area p a →
    logged ≡ log ++ done ∷ [] → logged ≡ log ++ completions_read size area row.pending a
logged_one size area log logged row p a done e x d l =
    l
    ∙ (ap (λ (y : DoneData). log ++ y ∷ []) d
    ∙ ap (λ ds. log ++ ds) (sym (ap (λ (q : PendingData). completions_read size area q a) e ∙ ap (λ b. cond b [] (completion_read size area p a ∷ [])) x)))

-- one that has expired is in the log already
pub logged_none : (size : ℕ) (area : List (Option (List ℕ))) (log : List DoneData) (row : PendingRow) (p : PendingData) (a : Response) → row.pending ≡ p → p.expired ≡ true → log ≡ log ++ completions_read size area row.pending a
logged_none size area log row p a e x =
    sym (ap (λ ds. log ++ ds) (ap (λ (q : PendingData). completions_read size area q a) e ∙ ap (λ b. cond b [] (completion_read size area p a ∷ [])) x) ∙ append-nil log)
