-- What a next over any bytes keeps of the user side, entry by entry.
use Rattle.std.proofs.Common.{◌≡◌, ℕ, ◌+◌, ◌*◌, Bool, true, false, ◌==◌, length, suc, zero, Result, Ok, Err, refl, sym, subst}
use Rattle.tcmu_types.specs.declared.dump.ItemKind.TheVariants as kind
use Rattle.region_model.specs.declared.mailbox.Mailbox.{Mailbox}
use Rattle.region_model.specs.declared.mailbox.MailboxFault.{MailboxFault}
use Rattle.region_model.specs.declared.entry.EntryRef.{EntryRef}
use Rattle.region_model.specs.declared.entry.EntryRef.TheVariants as entry
use Rattle.region_model.specs.declared.entry.EntryFault.{EntryFault}
use Rattle.region_model.specs.Layout.{ring_start}
use Rattle.region_model.specs.EntryReading.{entry_read}
use Rattle.region_model.specs.Regions.{RegionState, size_of}
use Rattle.region_model.specs.Sides.{UserState}
use Rattle.region_model.specs.UserSteps.{user_mailbox}
use Rattle.region_model.specs.UserNext.{BadEntry, Nexted, Nothing, iovs_in, tmr_ids_in, with_passed, with_unknown, with_job, command_next, note_next, next_within, most_entries, nexted}
use Rattle.ring_laws.proofs.user_over_any_bytes.AnyFaults.{by_mailbox, next_mailbox}

-- each entry that is passed keeps it
pub record KeptByEntries (P : UserState → Type 0) : Type 0 where
  pub pad : (u : UserState) (len : ℕ) → P u → P (with_passed u kind.Pad len)
  pub note : (u : UserState) (len : ℕ) → P u → P (with_passed u kind.Tmr len)
  pub job : (u : UserState) (len id : ℕ) → P u → P (with_job u len id)

within_user : (P : UserState → Type 0) (n : ℕ) (m : Mailbox) (before : UserState) (r : RegionState) (u : UserState) → KeptByEntries P → P before → P u → P (next_within n m before r u).user
within_user P zero m before r u keeps old h = h
within_user P (suc n) m before r u keeps old h = by_head (u.place == m.head) refl (λ k v. within_user P n m before k v keeps old)
  where
    Kept : Nexted → Type 0
    Kept k = P k.user

    GoesOn : Type 0
    GoesOn = (k : RegionState) (v : UserState) → P v → P (next_within n m before k v).user

    by_entry : (o : Result EntryRef EntryFault) → entry_read r.front (size_of r * length r.blocks) m u.place ≡ o → (u.place == m.head) ≡ false → GoesOn → Kept (next_within (suc n) m before r u)
    by_entry (Err fault) e b rest =
        let q : next_within (suc n) m before r u ≡ record { answer = BadEntry u.place fault; region = r; user = before } = rw (b, e) refl in
        subst Kept (sym q) old
    by_entry (Ok (entry.Pad len)) e b rest =
        let q : next_within (suc n) m before r u ≡ next_within n m before r (with_passed u kind.Pad len) = rw (b, e) refl in
        subst Kept (sym q) (rest r (with_passed u kind.Pad len) (keeps.pad u len h))
    by_entry (Ok (entry.Unknown op len)) e b rest =
        let q : next_within (suc n) m before r u ≡ next_within n m before (with_unknown r u.place) (with_passed u kind.Pad len) = rw (b, e) refl in
        subst Kept (sym q) (rest (with_unknown r u.place) (with_passed u kind.Pad len) (keeps.pad u len h))
    by_entry (Ok (entry.Cmd len id count cdb)) e b rest =
        let q : next_within (suc n) m before r u ≡ command_next r u len id (iovs_in r.front (ring_start + u.place) 0 count) cdb = rw (b, e) refl in
        subst Kept (sym q) (keeps.job u len id h)
    by_entry (Ok (entry.Tmr len type_ count)) e b rest =
        let q : next_within (suc n) m before r u ≡ note_next r u len type_ (tmr_ids_in r.front (ring_start + u.place) 0 count) = rw (b, e) refl in
        subst Kept (sym q) (keeps.note u len h)

    by_head : (b : Bool) → (u.place == m.head) ≡ b → GoesOn → Kept (next_within (suc n) m before r u)
    by_head true b rest =
        let q : next_within (suc n) m before r u ≡ record { answer = Nothing; region = r; user = u } = rw b refl in
        subst Kept (sym q) h
    by_head false b rest = by_entry (entry_read r.front (size_of r * length r.blocks) m u.place) refl b rest

pub next_user : (P : UserState → Type 0) (r : RegionState) (u : UserState) → KeptByEntries P → P u → P (nexted r u).user
next_user P r u keeps h = go (user_mailbox r) refl
  where
    go : (o : Result Mailbox MailboxFault) → user_mailbox r ≡ o → P (nexted r u).user
    go (Err fault) e = subst (λ (k : Nexted). P k.user) (sym (next_mailbox r u fault e)) h
    go (Ok m) e = subst (λ (k : Nexted). P k.user) (sym (by_mailbox r u m e)) (within_user P (most_entries u.ring) m u r u keeps h h)
