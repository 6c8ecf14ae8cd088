-- A next, entry by entry.
use Rattle.std.proofs.Common.{◌≡◌, ℕ, suc, ◌+◌, ◌-◌, ◌*◌, ◌%◌, ◌<◌, ◌≤◌, ◌==◌, true, false, cond, [], ◌++◌, length, take, Result, Ok, Err, refl, sym, ap, ◌∙◌, subst, arith, append_assoc}
use Rattle.std.proofs.lemmas.List.{append-nil, take_at}
use Rattle.region_model.specs.declared.mailbox.Mailbox.{Mailbox}
use Rattle.region_model.specs.declared.mailbox.MailboxFault.{MailboxFault}
use Rattle.region_model.specs.declared.entry.EntryRef.{EntryRef}
use Rattle.region_model.specs.declared.entry.EntryRef.TheVariants as entry
use Rattle.region_model.specs.declared.entry.EntryFault.{EntryFault}
use Rattle.tcmu_types.specs.declared.dump.ItemKind.TheVariants as kind
use Rattle.region_model.specs.Layout.{ring_start}
use Rattle.region_model.specs.EntryReading.{entry_read}
use Rattle.region_model.specs.Regions.{RegionState, size_of}
use Rattle.region_model.specs.Sides.{UserState}
use Rattle.region_model.specs.UserSteps.{user_mailbox}
use Rattle.region_model.specs.UserNext.{Nexted, NextAnswer, Nothing, BadMailbox, BadEntry, command_next, iovs_in, most_entries, next_of, next_within, nexted, note_next, tmr_ids_in, with_passed, with_unknown}
use Rattle.user_lib.specs.declared.next.UserFault.{UserFault}
use Rattle.user_lib.specs.declared.next.UserFault.TheVariants as fault
use Rattle.user_lib.specs.Told.{IsNexted, Passes, StopsBy, Told, WentOn}

-- ==== what goes on

pub passes_none : (m : Mailbox) (r : RegionState) (u : UserState) → Passes m 0 r u r u
passes_none m r u k n before e = ap (λ x. next_within x m before r u) (omega (arith, e))

pub passes_more : (m : Mailbox) (i : ℕ) (r r' r'' : RegionState) (u u' u'' : UserState) → Passes m i r u r' u' → ((n : ℕ) (before : UserState) → next_within (suc n) m before r' u' ≡ next_within n m before r'' u'') → Passes m (i + 1) r u r'' u''
passes_more m i r r' r'' u u' u'' p q k n before e = p k (suc n) before (omega (arith, e)) ∙ q n before

pub went_none : (u : UserState) → WentOn u u
went_none u = record { more = []; items = sym (append-nil u.items); same = refl }

pub went_more : (u u' u'' : UserState) → WentOn u u' → WentOn u' u'' → WentOn u u''
went_more u u' u'' p q =
    record {
      more = p.more ++ q.more;
      items = q.items ∙ (ap (λ xs. xs ++ q.more) p.items ∙ append_assoc u.items p.more q.more);
      same = ap (λ (x : UserState). record x { place = u.place; items = u.items }) q.same ∙ p.same;
    }

-- going back to where it began
pub went_back : (u after : UserState) (place count : ℕ) → WentOn u after → place ≡ u.place → count ≡ length u.items → record after { place = place; items = take count after.items } ≡ u
went_back u after place count w p c =
    ap (λ n. record after { place = n; items = take count after.items }) p
    ∙ (ap (λ xs. record after { place = u.place; items = xs }) (ap (λ xs. take count xs) w.items ∙ take_at u.items w.more count (sym c)) ∙ w.same)

-- ==== the whole of it

pub whole : (m : Mailbox) (r : RegionState) (u : UserState) → user_mailbox r ≡ Ok m → nexted r u ≡ next_within (most_entries u.ring) m u r u
unfolding nexted
whole m r u e = ap (next_of r u) e

-- what comes behind so many entries
pub comes : (m : Mailbox) (r r' r'' : RegionState) (u u' u'' : UserState) (i total : ℕ) (answer : NextAnswer) → user_mailbox r ≡ Ok m → total ≡ most_entries u.ring → i < total → Passes m i r u r' u' →
    ((n : ℕ) (before : UserState) → next_within (suc n) m before r' u' ≡ record { answer = answer; region = r''; user = u'' }) → IsNexted (nexted r u) answer r'' u''
comes m r r' r'' u u' u'' i total answer e t l p q =
    let n : ℕ = total - (i + 1) in
    let k : most_entries u.ring ≡ suc n + i = omega (arith, t, l) in
    let all : nexted r u ≡ record { answer = answer; region = r''; user = u'' } = whole m r u e ∙ (p (most_entries u.ring) (suc n) u k ∙ q n u) in
    record { answer = ap (λ (x : Nexted). x.answer) all; region = ap (λ (x : Nexted). x.region) all; user = ap (λ (x : Nexted). x.user) all }

-- the entries are at an end
pub ends : (m : Mailbox) (r r' : RegionState) (u u' : UserState) (i total : ℕ) → user_mailbox r ≡ Ok m → total ≡ most_entries u.ring → total ≤ i → i ≤ total → Passes m i r u r' u' → IsNexted (nexted r u) Nothing r' u'
ends m r r' u u' i total e t l g p =
    let k : most_entries u.ring ≡ 0 + i = omega (arith, t, l, g) in
    let all : nexted r u ≡ record { answer = Nothing; region = r'; user = u' } = whole m r u e ∙ p (most_entries u.ring) 0 u k in
    record { answer = ap (λ (x : Nexted). x.answer) all; region = ap (λ (x : Nexted). x.region) all; user = ap (λ (x : Nexted). x.user) all }

-- the mailbox is refused
pub refused : (r : RegionState) (u : UserState) (f : MailboxFault) → user_mailbox r ≡ Err f → IsNexted (nexted r u) (BadMailbox f) r u
unfolding nexted
refused r u f e =
    let all : next_of r u (user_mailbox r) ≡ record { answer = BadMailbox f; region = r; user = u } = ap (next_of r u) e in
    record { answer = ap (λ (x : Nexted). x.answer) all; region = ap (λ (x : Nexted). x.region) all; user = ap (λ (x : Nexted). x.user) all }

-- ==== one entry

abbrev entry_next : ℕ → Mailbox → UserState → RegionState → UserState → Result EntryRef EntryFault → Nexted
entry_next n m before r u e =
    elim e as (λ x. Nexted) [
      | Err fault ↦ record { answer = BadEntry u.place fault; region = r; user = before }
      | Ok (entry.Pad len) ↦ next_within n m before r (with_passed u kind.Pad len)
      | Ok (entry.Unknown op len) ↦ next_within n m before (with_unknown r u.place) (with_passed u kind.Pad len)
      | Ok (entry.Cmd len id count cdb) ↦ command_next r u len id (iovs_in r.front (ring_start + u.place) 0 count) cdb
      | Ok (entry.Tmr len type_ count) ↦ note_next r u len type_ (tmr_ids_in r.front (ring_start + u.place) 0 count)
    ]

abbrev entry_there : RegionState → Mailbox → UserState → Result EntryRef EntryFault
entry_there r m u = entry_read r.front (size_of r * length r.blocks) m u.place

pub at_head : (m : Mailbox) (r : RegionState) (u : UserState) (n : ℕ) (before : UserState) → (u.place == m.head) ≡ true → next_within (suc n) m before r u ≡ record { answer = Nothing; region = r; user = u }
at_head m r u n before h = ap (λ b. cond b (record { answer = Nothing; region = r; user = u }) (entry_next n m before r u (entry_there r m u))) h

pub by_entry : (m : Mailbox) (r : RegionState) (u : UserState) (n : ℕ) (before : UserState) (e : Result EntryRef EntryFault) → (u.place == m.head) ≡ false → entry_there r m u ≡ e → next_within (suc n) m before r u ≡ entry_next n m before r u e
by_entry m r u n before e h q = ap (λ b. cond b (record { answer = Nothing; region = r; user = u }) (entry_next n m before r u (entry_there r m u))) h ∙ ap (entry_next n m before r u) q

-- a length is of whole words
pub whole_words : (x : ℕ) → (x - x % 8) % 8 ≡ 0
whole_words x = omega arith

-- ==== a fault

pub stopped : (m : Mailbox) (r here left : RegionState) (u there after : UserState) (f : UserFault) (i total : ℕ) → user_mailbox r ≡ Ok m → total ≡ most_entries u.ring → i < total → Passes m i r u here there →
    left ≡ here → StopsBy m here there f → after ≡ u → Told r u (Err f) left after
stopped m r here left u there after (fault.BadMailbox x) i total e t l p q s a = absurd s
stopped m r here left u there after (fault.BadEntry at x) i total e t l p q s a =
    let n : ℕ = total - (i + 1) in
    let k : most_entries u.ring ≡ suc n + i = omega (arith, t, l) in
    let all : nexted r u ≡ record { answer = BadEntry at x; region = here; user = u } = whole m r u e ∙ (p (most_entries u.ring) (suc n) u k ∙ s n u) in
    record { answer = ap (λ (y : Nexted). y.answer) all; region = ap (λ (y : Nexted). y.region) all ∙ sym q; user = ap (λ (y : Nexted). y.user) all ∙ sym a }
stopped m r here left u there after fault.NoMemory i total e t l p q s a =
    record { user = a; mailbox = m; read = e; count = i; there = there; passed = subst (λ (x : RegionState). Passes m i r u x there) (sym q) p }
