-- The jobs of a next over any bytes: their iovecs lie in the data area.
use Rattle.std.proofs.Common.{◌≡◌, ℕ, ◌+◌, ◌*◌, ◌==◌, Bool, true, false, length, suc, zero, Result, Ok, Err, refl, sym, ap, ◌∙◌, arith, subst, length-append}
use Rattle.std.specs.List.{list_all}
use Rattle.tcmu_types.specs.declared.dump.ItemKind.TheVariants as kind
use Rattle.region_model.specs.declared.mailbox.Mailbox.{Mailbox}
use Rattle.region_model.specs.declared.mailbox.MailboxFault.{MailboxFault}
use Rattle.region_model.specs.declared.entry.EntryRef.{EntryRef}
use Rattle.region_model.specs.declared.entry.EntryRef.TheVariants as entry
use Rattle.region_model.specs.declared.entry.EntryFault.{EntryFault}
use Rattle.region_model.specs.Layout.{data_start, ring_start}
use Rattle.region_model.specs.EntryReading.{entry_read, lies_inside}
use Rattle.region_model.specs.Regions.{AreSized, RegionState, size_of, shown, bytes_of}
use Rattle.region_model.specs.Sides.{JobState, UserState}
use Rattle.region_model.specs.UserSteps.{lie_in_area, user_mailbox}
use Rattle.region_model.specs.UserNext.{NextAnswer, Job, Note, Nothing, BadMailbox, BadEntry, Nexted, iovs_in, tmr_ids_in, with_passed, with_unknown, command_next, note_next, next_within, most_entries, nexted}
use Rattle.ring_laws.proofs.PassedEntries.{ReadFrom, read_from, inside_read}
use Rattle.ring_laws.proofs.user_over_any_bytes.AnyFaults.{by_mailbox, next_mailbox}
use Rattle.region_model.proofs.Areas.{length-shown}

-- ==== the iovecs of a job

-- those of the answer's job lie inside these bytes
abbrev AreInside : ℕ → ℕ → NextAnswer → Type 0
AreInside low high (Job job) = list_all (lies_inside low high) job.iovs ≡ true
AreInside low high (Note type_ ids) = Unit {0}
AreInside low high Nothing = Unit {0}
AreInside low high (BadMailbox fault) = Unit {0}
AreInside low high (BadEntry at fault) = Unit {0}

within_inside : (n : ℕ) (m : Mailbox) (before : UserState) (r : RegionState) (u : UserState) →
    AreInside (data_start m.cmdr_size) (data_start m.cmdr_size + size_of r * length r.blocks) (next_within n m before r u).answer
within_inside zero m before r u = tt
within_inside (suc n) m before r u = by_head (u.place == m.head) refl (within_inside n m before)
  where
    low : ℕ
    low = data_start m.cmdr_size

    Told : Nexted → Type 0
    Told k = AreInside low (low + size_of r * length r.blocks) k.answer

    GoesOn : Type 0
    GoesOn = (k : RegionState) (v : UserState) → AreInside low (low + size_of k * length k.blocks) (next_within n m before k v).answer

    by_entry : (o : Result EntryRef EntryFault) → entry_read r.front (size_of r * length r.blocks) m u.place ≡ o → (u.place == m.head) ≡ false → GoesOn → Told (next_within (suc n) m before r u)
    by_entry (Err fault) e b rest =
        let q : next_within (suc n) m before r u ≡ record { answer = BadEntry u.place fault; region = r; user = before } = rw (b, e) refl in
        subst Told (sym q) tt
    by_entry (Ok (entry.Pad len)) e b rest =
        let q : next_within (suc n) m before r u ≡ next_within n m before r (with_passed u kind.Pad len) = rw (b, e) refl in
        subst Told (sym q) (rest r (with_passed u kind.Pad len))
    by_entry (Ok (entry.Unknown op len)) e b rest =
        let q : next_within (suc n) m before r u ≡ next_within n m before (with_unknown r u.place) (with_passed u kind.Pad len) = rw (b, e) refl in
        subst Told (sym q) (rest (with_unknown r u.place) (with_passed u kind.Pad len))
    by_entry (Ok (entry.Cmd len id count cdb)) e b rest =
        let q : next_within (suc n) m before r u ≡ command_next r u len id (iovs_in r.front (ring_start + u.place) 0 count) cdb = rw (b, e) refl in
        subst Told (sym q) (inside_read r.front (size_of r * length r.blocks) m u.place (entry.Cmd len id count cdb) e)
    by_entry (Ok (entry.Tmr len type_ count)) e b rest =
        let q : next_within (suc n) m before r u ≡ note_next r u len type_ (tmr_ids_in r.front (ring_start + u.place) 0 count) = rw (b, e) refl in
        subst Told (sym q) tt

    by_head : (b : Bool) → (u.place == m.head) ≡ b → GoesOn → Told (next_within (suc n) m before r u)
    by_head true b rest =
        let q : next_within (suc n) m before r u ≡ record { answer = Nothing; region = r; user = u } = rw b refl in
        subst Told (sym q) tt
    by_head false b rest = by_entry (entry_read r.front (size_of r * length r.blocks) m u.place) refl b rest

-- ==== the data area

pub next_inside : (r : RegionState) (u : UserState) (job : JobState) → AreSized (size_of r) r.blocks → (nexted r u).answer ≡ Job job → lie_in_area r job.iovs ≡ true
next_inside r u job sized h = go (user_mailbox r) refl
  where
    Inside : NextAnswer → Type 0
    Inside a = AreInside (length r.front) (length (bytes_of r)) a

    told : (a : NextAnswer) → Inside a → a ≡ Job job → lie_in_area r job.iovs ≡ true
    told a i e = subst Inside e i

    go : (o : Result Mailbox MailboxFault) → user_mailbox r ≡ o → lie_in_area r job.iovs ≡ true
    go (Err fault) e = told (BadMailbox fault) tt (sym (ap (λ (k : Nexted). k.answer) (next_mailbox r u fault e)) ∙ h)
    go (Ok m) e =
        let f : ReadFrom r m = read_from r m e in
        let all : length (bytes_of r) ≡ length r.front + length (shown (size_of r) r.blocks) = length-append r.front (shown (size_of r) r.blocks) in
        let high : data_start m.cmdr_size + size_of r * length r.blocks ≡ length (bytes_of r) = omega (arith, all, f.front, length-shown (size_of r) r.blocks sized) in
        let k : AreInside (data_start m.cmdr_size) (data_start m.cmdr_size + size_of r * length r.blocks) (next_within (most_entries u.ring) m u r u).answer = within_inside (most_entries u.ring) m u r u in
        told (next_within (most_entries u.ring) m u r u).answer
        (subst (λ low. AreInside low (length (bytes_of r)) (next_within (most_entries u.ring) m u r u).answer) (sym f.front)
        (subst (λ high. AreInside (data_start m.cmdr_size) high (next_within (most_entries u.ring) m u r u).answer) high k))
        (sym (ap (λ (k : Nexted). k.answer) (by_mailbox r u m e)) ∙ h)
