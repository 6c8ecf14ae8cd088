-- Which jobs stay open.
use Rattle.std.proofs.Common.{◌≡◌, ◌≢◌, ℕ, suc, zero, ◌+◌, ◌*◌, ◌==◌, not, Bool, true, false, List, [], ◌∷◌, ◌++◌, length, Option, Some, None, Result, Ok, Err, refl, sym, ap, ◌∙◌, subst, ⊎_elim, eqb-true}
use Rattle.std.specs.List.{list_any}
use Rattle.std.specs.Option.{is_some}
use Rattle.std.proofs.lemmas.Bool.{and_parts, cases_Bool, false≢true, or_right}
use Rattle.tcmu_types.specs.Lists.{with_first, without_first}
use Rattle.tcmu_types.specs.declared.dump.ItemKind.TheVariants as kind
use Rattle.region_model.specs.declared.mailbox.Mailbox.{Mailbox}
use Rattle.region_model.specs.declared.mailbox.MailboxFault.{MailboxFault}
use Rattle.region_model.specs.declared.entry.EntryRef.{EntryRef}
use Rattle.region_model.specs.declared.entry.EntryRef.TheVariants as entry
use Rattle.region_model.specs.declared.entry.EntryFault.{EntryFault}
use Rattle.region_model.specs.Layout.{ring_start}
use Rattle.region_model.specs.EntryReading.{entry_read}
use Rattle.region_model.specs.Regions.{RegionState, size_of}
use Rattle.region_model.specs.Sides.{GivenJob, Parked, UserState}
use Rattle.region_model.specs.UserSteps.{Placing, is_open_job, placed_at, placed_front, placed_one, placing_by, user_mailbox, user_responded, with_jobs, with_parked}
use Rattle.region_model.specs.UserNext.{BadEntry, Nexted, Nothing, command_next, iovs_in, most_entries, next_within, nexted, note_next, tmr_ids_in, with_passed, with_unknown}
use Rattle.ring_laws.proofs.user_over_any_bytes.AnyFaults.{by_mailbox, next_mailbox}
use Rattle.user_lib.specs.declared.next.Next.{Next}
use Rattle.user_lib.specs.declared.next.UserFault.{UserFault}
use Rattle.user_lib.specs.declared.next.UserFault.TheVariants as fault
use Rattle.user_lib.specs.Stays.{OthersStayOpen, StayOpen}
use Rattle.user_lib.specs.Told.{Told}

-- ==== lists

any_front : {X : Type 0} (p : X → Bool) (xs ys : List X) → list_any p xs ≡ true → list_any p (xs ++ ys) ≡ true
any_front p [] ys h = absurd (false≢true h)
any_front p (x ∷ xs) ys h =
    ⊎_elim
    (λ (e : p x ≡ true). rw e refl)
    (λ (e : p x ≡ false). let k : list_any p xs ≡ true = rw e at h in or_right (p x) (list_any p (xs ++ ys)) (any_front p xs ys k))
    (cases_Bool (p x))

-- one is taken out that does not pass the other test
any_without : {X : Type 0} (p q : X → Bool) (xs : List X) → ((x : X) → p x ≡ true → q x ≡ false) → list_any q xs ≡ true → list_any q (without_first p xs) ≡ true
any_without p q [] away h = h
any_without p q (x ∷ xs) away h =
    ⊎_elim
    (λ (e : p x ≡ true). let n : q x ≡ false = away x e in let k : list_any q xs ≡ true = rw n at h in rw e k)
    (λ (e : p x ≡ false). rw e (⊎_elim
    (λ (y : q x ≡ true). rw y refl)
    (λ (n : q x ≡ false). let k : list_any q xs ≡ true = rw n at h in or_right (q x) (list_any q (without_first p xs)) (any_without p q xs away k))
    (cases_Bool (q x))))
    (cases_Bool (p x))

-- one is changed that does not pass it
any_with : {X : Type 0} (p q : X → Bool) (f : X → X) (xs : List X) → ((x : X) → p x ≡ true → q x ≡ false) → list_any q xs ≡ true → list_any q (with_first p f xs) ≡ true
any_with p q f [] away h = h
any_with p q f (x ∷ xs) away h =
    ⊎_elim
    (λ (e : p x ≡ true). let n : q x ≡ false = away x e in let k : list_any q xs ≡ true = rw n at h in rw e (or_right (q (f x)) (list_any q xs) k))
    (λ (e : p x ≡ false). rw e (⊎_elim
    (λ (y : q x ≡ true). rw y refl)
    (λ (n : q x ≡ false). let k : list_any q xs ≡ true = rw n at h in or_right (q x) (list_any q (with_first p f xs)) (any_with p q f xs away k))
    (cases_Bool (q x))))
    (cases_Bool (p x))

-- ==== a next

abbrev IsOpen : ℕ → UserState → Type 0
IsOpen id u = list_any (is_open_job id) u.jobs ≡ true

within_open : (id n : ℕ) (m : Mailbox) (before : UserState) (r : RegionState) (u : UserState) → IsOpen id before → IsOpen id u → IsOpen id (next_within n m before r u).user
within_open id zero m before r u was h = h
within_open id (suc n) m before r u was h = by_head (u.place == m.head) refl (λ k v i. within_open id n m before k v was i)
  where
    GoesOn : Type 0
    GoesOn = (k : RegionState) (v : UserState) → IsOpen id v → IsOpen id (next_within n m before k v).user

    by_entry : (o : Result EntryRef EntryFault) → entry_read r.front (size_of r * length r.blocks) m u.place ≡ o → (u.place == m.head) ≡ false → GoesOn → IsOpen id (next_within (suc n) m before r u).user
    by_entry (Err fault) e b rest =
        let q : next_within (suc n) m before r u ≡ record { answer = BadEntry u.place fault; region = r; user = before } = rw (b, e) refl in
        subst (λ (k : Nexted). IsOpen id k.user) (sym q) was
    by_entry (Ok (entry.Pad len)) e b rest =
        let q : next_within (suc n) m before r u ≡ next_within n m before r (with_passed u kind.Pad len) = rw (b, e) refl in
        subst (λ (k : Nexted). IsOpen id k.user) (sym q) (rest r (with_passed u kind.Pad len) h)
    by_entry (Ok (entry.Unknown op len)) e b rest =
        let q : next_within (suc n) m before r u ≡ next_within n m before (with_unknown r u.place) (with_passed u kind.Pad len) = rw (b, e) refl in
        subst (λ (k : Nexted). IsOpen id k.user) (sym q) (rest (with_unknown r u.place) (with_passed u kind.Pad len) h)
    by_entry (Ok (entry.Cmd len job count cdb)) e b rest =
        let q : next_within (suc n) m before r u ≡ command_next r u len job (iovs_in r.front (ring_start + u.place) 0 count) cdb = rw (b, e) refl in
        subst (λ (k : Nexted). IsOpen id k.user) (sym q) (any_front (is_open_job id) u.jobs (record { id = job; parked = None } ∷ []) h)
    by_entry (Ok (entry.Tmr len type_ count)) e b rest =
        let q : next_within (suc n) m before r u ≡ note_next r u len type_ (tmr_ids_in r.front (ring_start + u.place) 0 count) = rw (b, e) refl in
        subst (λ (k : Nexted). IsOpen id k.user) (sym q) h

    by_head : (b : Bool) → (u.place == m.head) ≡ b → GoesOn → IsOpen id (next_within (suc n) m before r u).user
    by_head true b rest =
        let q : next_within (suc n) m before r u ≡ record { answer = Nothing; region = r; user = u } = rw b refl in
        subst (λ (k : Nexted). IsOpen id k.user) (sym q) h
    by_head false b rest = by_entry (entry_read r.front (size_of r * length r.blocks) m u.place) refl b rest

next_open : (r : RegionState) (u : UserState) → StayOpen u (nexted r u).user
next_open r u id h = go (user_mailbox r) refl
  where
    go : (o : Result Mailbox MailboxFault) → user_mailbox r ≡ o → IsOpen id (nexted r u).user
    go (Err fault) e = subst (λ (k : Nexted). IsOpen id k.user) (sym (next_mailbox r u fault e)) h
    go (Ok m) e = subst (λ (k : Nexted). IsOpen id k.user) (sym (by_mailbox r u m e)) (within_open id (most_entries u.ring) m u r u h h)

pub told_open : (r left : RegionState) (u after : UserState) (result : Result Next UserFault) → Told r u result left after → StayOpen u after
told_open r left u after (Ok next) t id h = subst (IsOpen id) t.user (next_open r u id h)
told_open r left u after (Err (fault.BadMailbox f)) t id h = subst (IsOpen id) t.user (next_open r u id h)
told_open r left u after (Err (fault.BadEntry at f)) t id h = subst (IsOpen id) t.user (next_open r u id h)
told_open r left u after (Err fault.NoMemory) t id h = subst (IsOpen id) (sym t.user) h

-- ==== a respond

placed_open : (id : ℕ) (k : Placing) (p : Parked) (rest : List GivenJob) (ats : List ℕ) → list_any (is_open_job id) rest ≡ true → IsOpen id k.user → IsOpen id (placed_at k p rest ats).user
placed_open id k p rest [] r h = h
placed_open id k p rest (at ∷ ats) r h = r

-- a job that has its reply is not open
parked_shut : (id : ℕ) (g : GivenJob) (p : Parked) → g.parked ≡ Some p → is_open_job id g ≡ false
parked_shut id g p e =
    ⊎_elim
    (λ (o : is_open_job id g ≡ true). let n : not (is_some g.parked) ≡ true = (and_parts (g.id == id) (not (is_some g.parked)) o).1 in absurd (false≢true (sym (ap (λ x. not (is_some x)) e) ∙ n)))
    (λ (o : is_open_job id g ≡ false). o)
    (cases_Bool (is_open_job id g))

front_open : (id : ℕ) (k : Placing) (gs : List GivenJob) → list_any (is_open_job id) gs ≡ true → IsOpen id k.user → IsOpen id (placed_front k gs).user
front_open id k [] r h = h
front_open id k (g ∷ gs) r h = go g.parked refl (λ q m s. front_open id m gs q s)
  where
    Rest : Type 0
    Rest = list_any (is_open_job id) gs ≡ true → (m : Placing) → IsOpen id m.user → IsOpen id (placed_front m gs).user

    go : (o : Option Parked) → g.parked ≡ o → Rest → IsOpen id (elim o as (λ x. Placing) [ None ↦ k | Some p ↦ placed_front (placed_one k p gs) gs ]).user
    go None e rest = h
    go (Some p) e rest =
        let n : is_open_job id g ≡ false = parked_shut id g p e in
        let q : list_any (is_open_job id) gs ≡ true = rw n at r in
        rest q (placed_one k p gs) (placed_open id k p gs k.user.offsets q h)

-- an open job of one id is none of another
other_shut : (id taken : ℕ) → id ≢ taken → (g : GivenJob) → is_open_job taken g ≡ true → is_open_job id g ≡ false
other_shut id taken away g t =
    ⊎_elim
    (λ (o : is_open_job id g ≡ true).
    let a : g.id ≡ id = eqb-true g.id id (and_parts (g.id == id) (not (is_some g.parked)) o).0 in
    let b : g.id ≡ taken = eqb-true g.id taken (and_parts (g.id == taken) (not (is_some g.parked)) t).0 in
    absurd (away (sym a ∙ b)))
    (λ (o : is_open_job id g ≡ false). o)
    (cases_Bool (is_open_job id g))

pub respond_open : (r : RegionState) (u : UserState) (p : Parked) → OthersStayOpen p.job.id u (user_responded r u p).user
unfolding user_responded
respond_open r u p id away h = go u.flags.ooo
  where
    shut : (g : GivenJob) → is_open_job p.job.id g ≡ true → is_open_job id g ≡ false
    shut g t = other_shut id p.job.id away g t

    jobs : List GivenJob
    jobs = with_first (is_open_job p.job.id) (with_parked p) u.jobs

    among : list_any (is_open_job id) jobs ≡ true
    among = any_with (is_open_job p.job.id) (is_open_job id) (with_parked p) u.jobs shut h

    go : (b : Bool) → IsOpen id (placing_by b r u p).user
    go true = placed_open id (record { region = r; user = u }) p (without_first (is_open_job p.job.id) u.jobs) u.offsets (any_without (is_open_job p.job.id) (is_open_job id) u.jobs shut h) h
    go false = front_open id (record { region = r; user = with_jobs u jobs }) jobs among among
