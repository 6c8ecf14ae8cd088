-- The job that a next gives is open, and whole.
use Rattle.std.proofs.Common.{◌≡◌, ℕ, ◌+◌, ◌*◌, ◌==◌, Bool, true, false, List, [], ◌∷◌, ◌++◌, length, suc, zero, None, Result, Ok, Err, refl, sym, subst}
use Rattle.std.specs.List.{list_any}
use Rattle.std.proofs.lemmas.Bool.{eq-eqb, or_right}
use Rattle.tcmu_types.specs.declared.dump.ItemKind.TheVariants as kind
use Rattle.region_model.specs.declared.mailbox.Mailbox.{Mailbox}
use Rattle.region_model.specs.declared.mailbox.MailboxFault.{MailboxFault}
use Rattle.region_model.specs.declared.entry.EntryRef.{EntryRef}
use Rattle.region_model.specs.declared.entry.EntryRef.TheVariants as entry
use Rattle.region_model.specs.declared.entry.EntryFault.{EntryFault}
use Rattle.region_model.specs.Layout.{ring_start}
use Rattle.region_model.specs.EntryReading.{entry_read}
use Rattle.region_model.specs.Regions.{RegionState, size_of}
use Rattle.region_model.specs.Sides.{GivenJob, JobState, UserState}
use Rattle.region_model.specs.UserSteps.{is_open_job, user_mailbox}
use Rattle.region_model.specs.UserNext.{NextAnswer, Job, Note, Nothing, BadMailbox, BadEntry, Nexted, iovs_in, tmr_ids_in, with_passed, with_unknown, command_next, note_next, next_within, most_entries, nexted}
use Rattle.ring_laws.proofs.user_over_any_bytes.AnyFaults.{by_mailbox, next_mailbox}

last_open : (id : ℕ) (jobs : List GivenJob) → list_any (is_open_job id) (jobs ++ record { id = id; parked = None } ∷ []) ≡ true
last_open id [] = let e : (id == id) ≡ true = eq-eqb id id refl in rw e refl
last_open id (g ∷ jobs) = or_right (is_open_job id g) (list_any (is_open_job id) (jobs ++ record { id = id; parked = None } ∷ [])) (last_open id jobs)

-- the answer's job stands among the jobs, and has no reply
abbrev IsGiven : List GivenJob → NextAnswer → Type 0
IsGiven jobs (Job job) = list_any (is_open_job job.id) jobs ≡ true
IsGiven jobs (Note type_ ids) = Unit {0}
IsGiven jobs Nothing = Unit {0}
IsGiven jobs (BadMailbox fault) = Unit {0}
IsGiven jobs (BadEntry at fault) = Unit {0}

abbrev Gives : Nexted → Type 0
Gives k = IsGiven k.user.jobs k.answer

within_given : (n : ℕ) (m : Mailbox) (before : UserState) (r : RegionState) (u : UserState) → Gives (next_within n m before r u)
within_given zero m before r u = tt
within_given (suc n) m before r u = by_head (u.place == m.head) refl (within_given n m before)
  where
    GoesOn : Type 0
    GoesOn = (k : RegionState) (v : UserState) → Gives (next_within n m before k v)

    by_entry : (o : Result EntryRef EntryFault) → entry_read r.front (size_of r * length r.blocks) m u.place ≡ o → (u.place == m.head) ≡ false → GoesOn → Gives (next_within (suc n) m before r u)
    by_entry (Err fault) e b rest =
        let q : next_within (suc n) m before r u ≡ record { answer = BadEntry u.place fault; region = r; user = before } = rw (b, e) refl in
        subst Gives (sym q) tt
    by_entry (Ok (entry.Pad len)) e b rest =
        let q : next_within (suc n) m before r u ≡ next_within n m before r (with_passed u kind.Pad len) = rw (b, e) refl in
        subst Gives (sym q) (rest r (with_passed u kind.Pad len))
    by_entry (Ok (entry.Unknown op len)) e b rest =
        let q : next_within (suc n) m before r u ≡ next_within n m before (with_unknown r u.place) (with_passed u kind.Pad len) = rw (b, e) refl in
        subst Gives (sym q) (rest (with_unknown r u.place) (with_passed u kind.Pad len))
    by_entry (Ok (entry.Cmd len id count cdb)) e b rest =
        let q : next_within (suc n) m before r u ≡ command_next r u len id (iovs_in r.front (ring_start + u.place) 0 count) cdb = rw (b, e) refl in
        subst Gives (sym q) (last_open id u.jobs)
    by_entry (Ok (entry.Tmr len type_ count)) e b rest =
        let q : next_within (suc n) m before r u ≡ note_next r u len type_ (tmr_ids_in r.front (ring_start + u.place) 0 count) = rw (b, e) refl in
        subst Gives (sym q) tt

    by_head : (b : Bool) → (u.place == m.head) ≡ b → GoesOn → Gives (next_within (suc n) m before r u)
    by_head true b rest =
        let q : next_within (suc n) m before r u ≡ record { answer = Nothing; region = r; user = u } = rw b refl in
        subst Gives (sym q) tt
    by_head false b rest = by_entry (entry_read r.front (size_of r * length r.blocks) m u.place) refl b rest

pub next_gives : (r : RegionState) (u : UserState) (job : JobState) → (nexted r u).answer ≡ Job job → list_any (is_open_job job.id) (nexted r u).user.jobs ≡ true
next_gives r u job h = go (user_mailbox r) refl
  where
    told : (k : Nexted) → k ≡ nexted r u → Gives k → list_any (is_open_job job.id) (nexted r u).user.jobs ≡ true
    told k e g =
        let a : Gives (nexted r u) = subst Gives e g in
        subst (IsGiven (nexted r u).user.jobs) h a

    go : (o : Result Mailbox MailboxFault) → user_mailbox r ≡ o → list_any (is_open_job job.id) (nexted r u).user.jobs ≡ true
    go (Err fault) e = told (record { answer = BadMailbox fault; region = r; user = u }) (sym (next_mailbox r u fault e)) tt
    go (Ok m) e = told (next_within (most_entries u.ring) m u r u) (sym (by_mailbox r u m e)) (within_given (most_entries u.ring) m u r u)
