-- In order the first job has no reply, behind each call.
use Rattle.std.proofs.Common.{◌≡◌, ℕ, suc, zero, ◌+◌, ◌*◌, ◌==◌, ◌≤◌, Bool, true, false, List, [], ◌∷◌, ◌++◌, length, Option, Some, None, Result, Ok, Err, refl, sym, ap, ◌∙◌, subst, arith}
use Rattle.std.specs.Option.{is_some}
use Rattle.std.proofs.lemmas.Bool.{true≢false}
use Rattle.tcmu_types.specs.Lists.{with_first}
use Rattle.tcmu_types.specs.declared.dump.ItemKind.TheVariants as kind
use Rattle.tcmu_types.proofs.Firsts.{length-with_first}
use Rattle.region_model.specs.declared.mailbox.Mailbox.{Mailbox}
use Rattle.region_model.specs.declared.mailbox.MailboxFault.{MailboxFault}
use Rattle.region_model.specs.declared.entry.EntryRef.{EntryRef}
use Rattle.region_model.specs.declared.entry.EntryRef.TheVariants as entry
use Rattle.region_model.specs.declared.entry.EntryFault.{EntryFault}
use Rattle.region_model.specs.Layout.{ring_start}
use Rattle.region_model.specs.EntryReading.{entry_read}
use Rattle.region_model.specs.Regions.{RegionState, size_of}
use Rattle.region_model.specs.Sides.{GivenJob, Parked, UserState}
use Rattle.region_model.specs.UserSteps.{Placing, attached_to, is_open_job, placed_at, placed_front, placed_one, placing_by, user_attached, user_mailbox, user_of, user_responded, with_jobs, with_parked}
use Rattle.region_model.specs.UserNext.{BadEntry, Nexted, Nothing, command_next, iovs_in, most_entries, next_within, nexted, note_next, tmr_ids_in, with_passed, with_unknown}
use Rattle.ring_laws.specs.UserKept.{UserCounts}
use Rattle.ring_laws.proofs.user_over_any_bytes.AnyFaults.{by_mailbox, next_mailbox}
use Rattle.user_lib.specs.Given.{LeadsOpen, first_parked}

-- ==== attached

pub attached_leads : (r : RegionState) (u : UserState) → user_attached r ≡ Ok u → LeadsOpen u
unfolding user_attached
attached_leads r u h = go (user_mailbox r) h
  where
    same : (x y : UserState) → ◌≡◌ {A = Result UserState MailboxFault} (Ok x) (Ok y) → x ≡ y
    same x y q = cc

    go : (o : Result Mailbox MailboxFault) → attached_to r.pages o ≡ Ok u → LeadsOpen u
    go (Err f) q = absurd (cc)
    go (Ok m) q = λ e. ap (λ (x : UserState). first_parked x.jobs) (sym (same (user_of r.pages m) u q))

-- ==== a next

first_behind : (jobs : List GivenJob) (id : ℕ) → first_parked jobs ≡ false → first_parked (jobs ++ record { id = id; parked = None } ∷ []) ≡ false
first_behind [] id h = refl
first_behind (g ∷ jobs) id h = h

within_leads : (n : ℕ) (m : Mailbox) (before : UserState) (r : RegionState) (u : UserState) → LeadsOpen before → LeadsOpen u → LeadsOpen (next_within n m before r u).user
within_leads zero m before r u was h = h
within_leads (suc n) m before r u was h = by_head (u.place == m.head) refl (λ k v i. within_leads n m before k v was i)
  where
    GoesOn : Type 0
    GoesOn = (k : RegionState) (v : UserState) → LeadsOpen v → LeadsOpen (next_within n m before k v).user

    by_entry : (o : Result EntryRef EntryFault) → entry_read r.front (size_of r * length r.blocks) m u.place ≡ o → (u.place == m.head) ≡ false → GoesOn → LeadsOpen (next_within (suc n) m before r u).user
    by_entry (Err fault) e b rest =
        let q : next_within (suc n) m before r u ≡ record { answer = BadEntry u.place fault; region = r; user = before } = rw (b, e) refl in
        subst (λ (k : Nexted). LeadsOpen k.user) (sym q) was
    by_entry (Ok (entry.Pad len)) e b rest =
        let q : next_within (suc n) m before r u ≡ next_within n m before r (with_passed u kind.Pad len) = rw (b, e) refl in
        subst (λ (k : Nexted). LeadsOpen k.user) (sym q) (rest r (with_passed u kind.Pad len) h)
    by_entry (Ok (entry.Unknown op len)) e b rest =
        let q : next_within (suc n) m before r u ≡ next_within n m before (with_unknown r u.place) (with_passed u kind.Pad len) = rw (b, e) refl in
        subst (λ (k : Nexted). LeadsOpen k.user) (sym q) (rest (with_unknown r u.place) (with_passed u kind.Pad len) h)
    by_entry (Ok (entry.Cmd len job count cdb)) e b rest =
        let q : next_within (suc n) m before r u ≡ command_next r u len job (iovs_in r.front (ring_start + u.place) 0 count) cdb = rw (b, e) refl in
        subst (λ (k : Nexted). LeadsOpen k.user) (sym q) (λ f. first_behind u.jobs job (h f))
    by_entry (Ok (entry.Tmr len type_ count)) e b rest =
        let q : next_within (suc n) m before r u ≡ note_next r u len type_ (tmr_ids_in r.front (ring_start + u.place) 0 count) = rw (b, e) refl in
        subst (λ (k : Nexted). LeadsOpen k.user) (sym q) h

    by_head : (b : Bool) → (u.place == m.head) ≡ b → GoesOn → LeadsOpen (next_within (suc n) m before r u).user
    by_head true b rest =
        let q : next_within (suc n) m before r u ≡ record { answer = Nothing; region = r; user = u } = rw b refl in
        subst (λ (k : Nexted). LeadsOpen k.user) (sym q) h
    by_head false b rest = by_entry (entry_read r.front (size_of r * length r.blocks) m u.place) refl b rest

pub next_leads : (r : RegionState) (u : UserState) → LeadsOpen u → LeadsOpen (nexted r u).user
next_leads r u h = go (user_mailbox r) refl
  where
    go : (o : Result Mailbox MailboxFault) → user_mailbox r ≡ o → LeadsOpen (nexted r u).user
    go (Err fault) e = subst (λ (k : Nexted). LeadsOpen k.user) (sym (next_mailbox r u fault e)) h
    go (Ok m) e = subst (λ (k : Nexted). LeadsOpen k.user) (sym (by_mailbox r u m e)) (within_leads (most_entries u.ring) m u r u h h)

-- ==== a respond

-- the front that has its replies is placed, where there are entries enough
front_leads : (k : Placing) (gs : List GivenJob) → k.user.jobs ≡ gs → length gs ≤ length k.user.offsets → first_parked (placed_front k gs).user.jobs ≡ false
front_leads k [] e few = ap first_parked e
front_leads k (g ∷ gs) e few = go g.parked refl (λ m q l. front_leads m gs q l)
  where
    Rest : Type 0
    Rest = (m : Placing) → m.user.jobs ≡ gs → length gs ≤ length m.user.offsets → first_parked (placed_front m gs).user.jobs ≡ false

    placed : (p : Parked) (ats : List ℕ) → k.user.offsets ≡ ats → suc (length gs) ≤ length ats → Rest → first_parked (placed_front (placed_at k p gs ats) gs).user.jobs ≡ false
    placed p [] q l rest = absurd (omega (arith, l))
    placed p (at ∷ ats) q l rest = rest (placed_at k p gs (at ∷ ats)) refl (omega (arith, l))

    go : (o : Option Parked) → g.parked ≡ o → Rest → first_parked (elim o as (λ x. Placing) [ None ↦ k | Some p ↦ placed_front (placed_one k p gs) gs ]).user.jobs ≡ false
    go None q rest = ap first_parked e ∙ ap is_some q
    go (Some p) q rest = placed p k.user.offsets refl few rest

placed_flags : (k : Placing) (p : Parked) (rest : List GivenJob) (ats : List ℕ) → (placed_at k p rest ats).user.flags ≡ k.user.flags
placed_flags k p rest [] = refl
placed_flags k p rest (at ∷ ats) = refl

pub respond_leads : (r : RegionState) (u : UserState) (p : Parked) → UserCounts u → LeadsOpen (user_responded r u p).user
unfolding user_responded
respond_leads r u p counts = go u.flags.ooo refl
  where
    jobs : List GivenJob
    jobs = with_first (is_open_job p.job.id) (with_parked p) u.jobs

    few : length jobs ≤ length u.offsets
    few = omega (arith, length-with_first (is_open_job p.job.id) (with_parked p) u.jobs, counts.owed)

    go : (b : Bool) → u.flags.ooo ≡ b → LeadsOpen (placing_by b r u p).user
    go true e = λ f. absurd (true≢false (sym e ∙ (sym (ap (λ x. x.ooo) (placed_flags (record { region = r; user = u }) p _ u.offsets)) ∙ f)))
    go false e = λ f. front_leads (record { region = r; user = with_jobs u jobs }) jobs refl few
