-- A next that ends with a fault: the user side is as it was, and the place that is told has this fault.
use Rattle.std.proofs.Common.{◌≡◌, ℕ, ◌+◌, ◌*◌, Bool, true, false, ◌==◌, List, length, suc, zero, Result, Ok, Err, refl, sym, ap, ◌∙◌, subst}
use Rattle.tcmu_types.specs.declared.dump.ItemKind.TheVariants as kind
use Rattle.tcmu_types.specs.declared.iovec.Iov.{Iov}
use Rattle.region_model.specs.declared.mailbox.Mailbox.{Mailbox}
use Rattle.region_model.specs.declared.mailbox.MailboxFault.{MailboxFault}
use Rattle.region_model.specs.declared.entry.EntryRef.{EntryRef}
use Rattle.region_model.specs.declared.entry.EntryRef.TheVariants as entry
use Rattle.region_model.specs.declared.entry.EntryFault.{EntryFault}
use Rattle.region_model.specs.Layout.{ring_start}
use Rattle.region_model.specs.EntryReading.{entry_read}
use Rattle.region_model.specs.Regions.{RegionState, size_of}
use Rattle.region_model.specs.Sides.{UserState}
use Rattle.region_model.specs.UserSteps.{user_mailbox}
use Rattle.region_model.specs.UserNext.{Nothing, BadMailbox, BadEntry, Nexted, iovs_in, tmr_ids_in, with_passed, with_unknown, command_next, note_next, next_within, most_entries, next_of, nexted}
use Rattle.ring_laws.specs.UserKept.{IsFault}

-- ==== entries that are passed

-- a fault of this mailbox's ring, whose data area has this size, leaves the user side as it was
record Faults (area : ℕ) (m : Mailbox) (before : UserState) (k : Nexted) : Type 0 where
  user : IsFault k.answer → k.user ≡ before
  entry : (at : ℕ) (fault : EntryFault) → k.answer ≡ BadEntry at fault → entry_read k.region.front area m at ≡ Err fault

fault_told : (area : ℕ) (m : Mailbox) (before : UserState) (r : RegionState) (at : ℕ) (fault : EntryFault) → entry_read r.front area m at ≡ Err fault →
    Faults area m before (record { answer = BadEntry at fault; region = r; user = before })
fault_told area m before r at fault h = record { user = λ z. refl; entry = told }
  where
    told : (n : ℕ) (other : EntryFault) → BadEntry at fault ≡ BadEntry n other → entry_read r.front area m n ≡ Err other
    told n other q =
        let a : at ≡ n = cc in
        let f : fault ≡ other = cc in
        subst (λ (x : ℕ). entry_read r.front area m x ≡ Err other) a (h ∙ ap (λ (x : EntryFault). Err x) f)

nothing_told : (area : ℕ) (m : Mailbox) (before : UserState) (r : RegionState) (u : UserState) → Faults area m before (record { answer = Nothing; region = r; user = u })
nothing_told area m before r u = record { user = λ z. absurd z; entry = never }
  where
    never : (at : ℕ) (fault : EntryFault) → Nothing ≡ BadEntry at fault → entry_read r.front area m at ≡ Err fault
    never at fault q = absurd (cc)

job_told : (area : ℕ) (m : Mailbox) (before : UserState) (r : RegionState) (u : UserState) (len id : ℕ) (iovs : List Iov) (cdb : List ℕ) → Faults area m before (command_next r u len id iovs cdb)
job_told area m before r u len id iovs cdb = record { user = λ z. absurd z; entry = never }
  where
    never : (at : ℕ) (fault : EntryFault) → (command_next r u len id iovs cdb).answer ≡ BadEntry at fault → entry_read (command_next r u len id iovs cdb).region.front area m at ≡ Err fault
    never at fault q = absurd (cc)

note_told : (area : ℕ) (m : Mailbox) (before : UserState) (r : RegionState) (u : UserState) (len type_ : ℕ) (ids : List ℕ) → Faults area m before (note_next r u len type_ ids)
note_told area m before r u len type_ ids = record { user = λ z. absurd z; entry = never }
  where
    never : (at : ℕ) (fault : EntryFault) → (note_next r u len type_ ids).answer ≡ BadEntry at fault → entry_read r.front area m at ≡ Err fault
    never at fault q = absurd (cc)

within_faults : (n : ℕ) (m : Mailbox) (before : UserState) (r : RegionState) (u : UserState) → Faults (size_of r * length r.blocks) m before (next_within n m before r u)
within_faults zero m before r u = nothing_told (size_of r * length r.blocks) m before r u
within_faults (suc n) m before r u = by_head (u.place == m.head) refl (within_faults n m before)
  where
    Told : Nexted → Type 0
    Told k = Faults (size_of r * length r.blocks) m before k

    GoesOn : Type 0
    GoesOn = (k : RegionState) (v : UserState) → Faults (size_of k * length k.blocks) m before (next_within n m before k v)

    by_entry : (o : Result EntryRef EntryFault) → entry_read r.front (size_of r * length r.blocks) m u.place ≡ o → (u.place == m.head) ≡ false → GoesOn → Told (next_within (suc n) m before r u)
    by_entry (Err fault) e b rest =
        let q : next_within (suc n) m before r u ≡ record { answer = BadEntry u.place fault; region = r; user = before } = rw (b, e) refl in
        subst Told (sym q) (fault_told (size_of r * length r.blocks) m before r u.place fault e)
    by_entry (Ok (entry.Pad len)) e b rest =
        let q : next_within (suc n) m before r u ≡ next_within n m before r (with_passed u kind.Pad len) = rw (b, e) refl in
        subst Told (sym q) (rest r (with_passed u kind.Pad len))
    by_entry (Ok (entry.Unknown op len)) e b rest =
        let q : next_within (suc n) m before r u ≡ next_within n m before (with_unknown r u.place) (with_passed u kind.Pad len) = rw (b, e) refl in
        subst Told (sym q) (rest (with_unknown r u.place) (with_passed u kind.Pad len))
    by_entry (Ok (entry.Cmd len id count cdb)) e b rest =
        let q : next_within (suc n) m before r u ≡ command_next r u len id (iovs_in r.front (ring_start + u.place) 0 count) cdb = rw (b, e) refl in
        subst Told (sym q) (job_told (size_of r * length r.blocks) m before r u len id (iovs_in r.front (ring_start + u.place) 0 count) cdb)
    by_entry (Ok (entry.Tmr len type_ count)) e b rest =
        let q : next_within (suc n) m before r u ≡ note_next r u len type_ (tmr_ids_in r.front (ring_start + u.place) 0 count) = rw (b, e) refl in
        subst Told (sym q) (note_told (size_of r * length r.blocks) m before r u len type_ (tmr_ids_in r.front (ring_start + u.place) 0 count))

    by_head : (b : Bool) → (u.place == m.head) ≡ b → GoesOn → Told (next_within (suc n) m before r u)
    by_head true b rest =
        let q : next_within (suc n) m before r u ≡ record { answer = Nothing; region = r; user = u } = rw b refl in
        subst Told (sym q) (nothing_told (size_of r * length r.blocks) m before r u)
    by_head false b rest = by_entry (entry_read r.front (size_of r * length r.blocks) m u.place) refl b rest

-- ==== next

pub next_mailbox : (r : RegionState) (u : UserState) (fault : MailboxFault) → user_mailbox r ≡ Err fault → nexted r u ≡ record { answer = BadMailbox fault; region = r; user = u }
unfolding nexted
next_mailbox r u fault h = ap (next_of r u) h

pub by_mailbox : (r : RegionState) (u : UserState) (m : Mailbox) → user_mailbox r ≡ Ok m → nexted r u ≡ next_within (most_entries u.ring) m u r u
unfolding nexted
by_mailbox r u m h = ap (next_of r u) h

pub next_entry : (r : RegionState) (u : UserState) (m : Mailbox) (at : ℕ) (fault : EntryFault) → user_mailbox r ≡ Ok m → (nexted r u).answer ≡ BadEntry at fault →
    entry_read (nexted r u).region.front (size_of r * length r.blocks) m at ≡ Err fault
next_entry r u m at fault h =
    subst (λ (k : Nexted). k.answer ≡ BadEntry at fault → entry_read k.region.front (size_of r * length r.blocks) m at ≡ Err fault) (sym (by_mailbox r u m h))
    ((within_faults (most_entries u.ring) m u r u).entry at fault)

pub next_faults : (r : RegionState) (u : UserState) → IsFault (nexted r u).answer → (nexted r u).user ≡ u
next_faults r u = go (user_mailbox r) refl
  where
    Kept : Nexted → Type 0
    Kept k = IsFault k.answer → k.user ≡ u

    go : (o : Result Mailbox MailboxFault) → user_mailbox r ≡ o → Kept (nexted r u)
    go (Err fault) h = subst Kept (sym (next_mailbox r u fault h)) (λ z. refl)
    go (Ok m) h = subst Kept (sym (by_mailbox r u m h)) (within_faults (most_entries u.ring) m u r u).user
