-- Jobs over any bytes: their blocks are as many as their iovecs name and of a block's size, so all blocks keep their size.
use Rattle.std.proofs.Common.{◌≡◌, ℕ, ◌+◌, ◌*◌, ◌%◌, ◌<◌, ◌==◌, Bool, true, false, cond, eqb, List, [], ◌∷◌, length, set, slice_get, slice_index, suc, zero, Option, Some, None, Result, Ok, Err, refl, sym, ap, ◌∙◌, arith, subst}
use Rattle.std.specs.Prelude.{unwrap_or}
use Rattle.std.proofs.Math.Nat.{mod-lt}
use Rattle.std.proofs.lemmas.Bool.{and_parts, false≢true}
use Rattle.tcmu_types.proofs.Readings.{same_ok}
use Rattle.tcmu_types.specs.declared.dump.ItemKind.TheVariants as kind
use Rattle.tcmu_types.specs.declared.iovec.Iov.{Iov}
use Rattle.region_model.specs.declared.mailbox.Mailbox.{Mailbox}
use Rattle.region_model.specs.declared.mailbox.MailboxFault.{MailboxFault}
use Rattle.region_model.specs.declared.entry.EntryRef.{EntryRef}
use Rattle.region_model.specs.declared.entry.EntryRef.TheVariants as entry
use Rattle.region_model.specs.declared.entry.EntryFault.{EntryFault}
use Rattle.region_model.specs.Layout.{data_start, ring_start, tail_place}
use Rattle.tcmu_types.specs.ByteFields.{le, put}
use Rattle.tcmu_model.specs.Lengths.{block_size}
use Rattle.tcmu_types.specs.Lists.{with_first, without_first, Every}
use Rattle.region_model.specs.EntryReading.{entry_read}
use Rattle.region_model.specs.Regions.{AreSized, HaveSize, RegionState, are_whole, can_lend, can_take, home, is_home, named_by, numbers_of, parts_of, size_of, taken}
use Rattle.region_model.specs.Sides.{Copied, GivenJob, JobState, Moved, Parked, UserState}
use Rattle.region_model.specs.UserSteps.{Placing, attached_to, is_open_job, moving, or_refused, placed_at, placed_front, placed_one, placing_by, region_abandoned, region_published, region_reattached, user_attached, user_mailbox, user_of, user_published, user_responded, with_jobs, with_parked}
use Rattle.region_model.specs.UserNext.{NextAnswer, Job, Note, Nothing, BadMailbox, BadEntry, Nexted, carried_by, copied_data, iovs_in, tmr_ids_in, with_passed, with_unknown, with_job, command_next, note_next, next_within, most_entries, nexted}
use Rattle.tcmu_types.proofs.Everies.{every-append, every-weaker, every-with_first, every-without_first}
use Rattle.tcmu_types.proofs.ByteFields.{length-put}
use Rattle.ring_laws.specs.Sizes.{IsSized}
use Rattle.ring_laws.specs.UserKept.{AreWholeJobs, HasPages, HasRing, IsWholeJob, UserSound}
use Rattle.ring_laws.proofs.user_over_any_bytes.AnyFaults.{by_mailbox, next_mailbox}
use Rattle.ring_laws.proofs.sized.Sized.{AllMove, HasBlocks, MovesBlocks, all_back, own_size, placed_sized}
use Rattle.ring_laws.proofs.user_over_any_bytes.AnyAnswers.{respond_keeps}
use Rattle.ring_laws.proofs.user_over_any_bytes.AnyNext.{next_keeps}
use Rattle.ring_laws.proofs.user_over_any_bytes.AnyUsers.{next_user}
use Rattle.region_model.proofs.Areas.{length-taken, size-home, sized-set}

-- ==== the blocks that are lent

sizes_taken : (size : ℕ) (blocks : List (Option (List ℕ))) (ns : List ℕ) → AreSized size blocks → can_take blocks ns ≡ true → HaveSize size (taken blocks ns)
sizes_taken size blocks [] h c = tt
sizes_taken size blocks (n ∷ ns) h c =
    let p : (is_home (slice_get blocks n) ≡ true) × (can_take (set blocks n None) ns ≡ true) = and_parts _ _ c in
    (here (slice_get blocks n) refl p.0, sizes_taken size (set blocks n None) ns (sized-set size blocks n None tt h) p.1)
  where
    here : (o : Option (Option (List ℕ))) → slice_get blocks n ≡ o → is_home o ≡ true → length (unwrap_or (home o) []) ≡ size
    here None e k = absurd (false≢true k)
    here (Some None) e k = absurd (false≢true k)
    here (Some (Some block)) e k = size-home size blocks n block h (ap home e)

-- the job that is read of an entry is whole
read_whole : (r : RegionState) (ring pages id : ℕ) (iovs : List Iov) (cdb : List ℕ) (parts : List (List ℕ)) → length r.front ≡ data_start ring → r.pages ≡ pages → IsSized r → carried_by r iovs cdb ≡ Moved parts →
    HaveSize (block_size pages) parts × (length parts ≡ length (numbers_of (data_start ring) (block_size pages) iovs))
read_whole r ring pages id iovs cdb parts front size sized = by_lend (can_lend r iovs) refl
  where
    same : (xs ys : List (List ℕ)) → Moved xs ≡ Moved ys → xs ≡ ys
    same xs ys q = cc

    by_lend : (b : Bool) → can_lend r iovs ≡ b → cond b (Moved (parts_of r iovs)) (Copied (copied_data r iovs cdb)) ≡ Moved parts →
        HaveSize (block_size pages) parts × (length parts ≡ length (numbers_of (data_start ring) (block_size pages) iovs))
    by_lend false e q = absurd (cc)
    by_lend true e q =
        let p : (are_whole (length r.front) (size_of r) iovs ≡ true) × (can_take r.blocks (named_by r iovs) ≡ true) = and_parts _ _ e in
        let k : HaveSize (block_size r.pages) (taken r.blocks (named_by r iovs)) = sizes_taken (block_size r.pages) r.blocks (named_by r iovs) sized p.1 in
        let m : parts_of r iovs ≡ parts = same (parts_of r iovs) parts q in
        let n : length (taken r.blocks (named_by r iovs)) ≡ length (named_by r iovs) = length-taken r.blocks (named_by r iovs) in (
          subst (λ xs. HaveSize (block_size pages) xs) m (subst (λ z. HaveSize (block_size z) (parts_of r iovs)) size k),
          ap length (sym m) ∙ n ∙ ap (λ z. length (numbers_of z (block_size r.pages) iovs)) front ∙ ap (λ z. length (numbers_of (data_start ring) (block_size z) iovs)) size,
        )

-- ==== next

abbrev IsWhole : ℕ → ℕ → JobState → Type 0
IsWhole ring pages job = (parts : List (List ℕ)) → job.carried ≡ Moved parts → HaveSize (block_size pages) parts × (length parts ≡ length (numbers_of (data_start ring) (block_size pages) job.iovs))

abbrev AreWhole : ℕ → ℕ → List GivenJob → Type 0
AreWhole ring pages gs = Every (λ g. (p : Parked) → g.parked ≡ Some p → IsWhole ring pages p.job) gs

abbrev GivesWhole : ℕ → ℕ → NextAnswer → Type 0
GivesWhole ring pages (Job job) = IsWhole ring pages job
GivesWhole ring pages (Note type_ ids) = Unit {0}
GivesWhole ring pages Nothing = Unit {0}
GivesWhole ring pages (BadMailbox fault) = Unit {0}
GivesWhole ring pages (BadEntry at fault) = Unit {0}

-- a user side of this ring and these pages
record Of (ring pages : ℕ) (u : UserState) : Type 0 where
  ring_same : u.ring ≡ ring
  pages_same : u.pages ≡ pages
  jobs : AreWhole ring pages u.jobs

record Wholes (ring pages : ℕ) (k : Nexted) : Type 0 where
  user : Of ring pages k.user
  job : GivesWhole ring pages k.answer

of_passed : (ring pages : ℕ) (u : UserState) (len : ℕ) → Of ring pages u → Of ring pages (with_passed u kind.Pad len)
of_passed ring pages u len h = record { ring_same = h.ring_same; pages_same = h.pages_same; jobs = h.jobs }

of_noted : (ring pages : ℕ) (u : UserState) (len : ℕ) → Of ring pages u → Of ring pages (with_passed u kind.Tmr len)
of_noted ring pages u len h = record { ring_same = h.ring_same; pages_same = h.pages_same; jobs = h.jobs }

of_job : (ring pages : ℕ) (u : UserState) (len id : ℕ) → Of ring pages u → Of ring pages (with_job u len id)
of_job ring pages u len id h =
    record {
      ring_same = h.ring_same;
      pages_same = h.pages_same;
      jobs = every-append (λ g. (p : Parked) → g.parked ≡ Some p → IsWhole ring pages p.job) u.jobs (record { id = id; parked = None } ∷ []) h.jobs (λ p e. absurd (cc), tt);
    }

abbrev GoesOn : ℕ → Mailbox → UserState → ℕ → ℕ → Type 0
GoesOn n m before ring pages =
    (r : RegionState) (u : UserState) → Of ring pages u → u.place < ring → length r.front ≡ data_start ring → r.pages ≡ pages → IsSized r → Wholes ring pages (next_within n m before r u)

within_whole : (n : ℕ) (m : Mailbox) (before : UserState) (ring pages : ℕ) → Of ring pages before → GoesOn n m before ring pages
within_whole zero m before ring pages old r u h below front size sized = record { user = h; job = tt }
within_whole (suc n) m before ring pages old r u h below front size sized = by_head (u.place == m.head) refl (within_whole n m before ring pages old)
  where
    Told : Nexted → Type 0
    Told k = Wholes ring pages k

    inside : (len : ℕ) → (u.place + len) % u.ring < ring
    inside len =
        let l : (u.place + len) % ring < ring = mod-lt (u.place + len) (omega (arith, below)) in
        subst (λ z. (u.place + len) % z < ring) (sym h.ring_same) l

    by_entry : (o : Result EntryRef EntryFault) → entry_read r.front (size_of r * length r.blocks) m u.place ≡ o → (u.place == m.head) ≡ false → GoesOn n m before ring pages → Told (next_within (suc n) m before r u)
    by_entry (Err fault) e b rest =
        let q : next_within (suc n) m before r u ≡ record { answer = BadEntry u.place fault; region = r; user = before } = rw (b, e) refl in
        subst Told (sym q) (record { user = old; job = tt })
    by_entry (Ok (entry.Pad len)) e b rest =
        let q : next_within (suc n) m before r u ≡ next_within n m before r (with_passed u kind.Pad len) = rw (b, e) refl in
        subst Told (sym q) (rest r (with_passed u kind.Pad len) (of_passed ring pages u len h) (inside len) front size sized)
    by_entry (Ok (entry.Unknown op len)) e b rest =
        let q : next_within (suc n) m before r u ≡ next_within n m before (with_unknown r u.place) (with_passed u kind.Pad len) = rw (b, e) refl in
        let p : ℕ = ring_start + u.place + 7 in
        let x : ℕ = slice_index r.front p in
        let long : length (with_unknown r u.place).front ≡ length r.front = length-put r.front p (cond (eqb (x % 2) 0) (x + 1) x ∷ []) (omega (arith, below, front)) in
        subst Told (sym q) (rest (with_unknown r u.place) (with_passed u kind.Pad len) (of_passed ring pages u len h) (inside len) (long ∙ front) size sized)
    by_entry (Ok (entry.Cmd len id count cdb)) e b rest =
        let iovs : List Iov = iovs_in r.front (ring_start + u.place) 0 count in
        let q : next_within (suc n) m before r u ≡ command_next r u len id iovs cdb = rw (b, e) refl in
        subst Told (sym q) (record { user = of_job ring pages u len id h; job = λ parts c. read_whole r ring pages id iovs cdb parts front size sized c })
    by_entry (Ok (entry.Tmr len type_ count)) e b rest =
        let q : next_within (suc n) m before r u ≡ note_next r u len type_ (tmr_ids_in r.front (ring_start + u.place) 0 count) = rw (b, e) refl in
        subst Told (sym q) (record { user = of_noted ring pages u len h; job = tt })

    by_head : (b : Bool) → (u.place == m.head) ≡ b → GoesOn n m before ring pages → Told (next_within (suc n) m before r u)
    by_head true b rest =
        let q : next_within (suc n) m before r u ≡ record { answer = Nothing; region = r; user = u } = rw b refl in
        subst Told (sym q) (record { user = h; job = tt })
    by_head false b rest = by_entry (entry_read r.front (size_of r * length r.blocks) m u.place) refl b rest

next_whole : (r : RegionState) (u : UserState) → UserSound u → HasRing r u → HasPages r u → IsSized r → AreWholeJobs u → Wholes u.ring u.pages (nexted r u)
next_whole r u hu front size sized jobs = go (user_mailbox r) refl
  where
    mine : Of u.ring u.pages u
    mine = record { ring_same = refl; pages_same = refl; jobs = jobs }

    go : (o : Result Mailbox MailboxFault) → user_mailbox r ≡ o → Wholes u.ring u.pages (nexted r u)
    go (Err fault) e = subst (Wholes u.ring u.pages) (sym (next_mailbox r u fault e)) (record { user = mine; job = tt })
    go (Ok m) e = subst (Wholes u.ring u.pages) (sym (by_mailbox r u m e)) (within_whole (most_entries u.ring) m u u.ring u.pages mine r u mine hu.place.below front size sized)

pub next_job : (r : RegionState) (u : UserState) (job : JobState) → UserSound u → HasRing r u → HasPages r u → IsSized r → AreWholeJobs u → (nexted r u).answer ≡ Job job → IsWholeJob (nexted r u).user job
next_job r u job hu front size sized jobs e =
    let k : Wholes u.ring u.pages (nexted r u) = next_whole r u hu front size sized jobs in
    let j : IsWhole u.ring u.pages job = subst (GivesWhole u.ring u.pages) e k.job in
    subst (λ z. IsWhole z (nexted r u).user.pages job) (sym k.user.ring_same) (subst (λ z. IsWhole u.ring z job) (sym k.user.pages_same) j)

pub next_jobs : (r : RegionState) (u : UserState) → UserSound u → HasRing r u → HasPages r u → IsSized r → AreWholeJobs u → AreWholeJobs (nexted r u).user
next_jobs r u hu front size sized jobs =
    let k : Wholes u.ring u.pages (nexted r u) = next_whole r u hu front size sized jobs in
    subst (λ z. AreWhole z (nexted r u).user.pages (nexted r u).user.jobs) (sym k.user.ring_same) (subst (λ z. AreWhole u.ring z (nexted r u).user.jobs) (sym k.user.pages_same) k.user.jobs)

pub next_pages : (r : RegionState) (u : UserState) → UserSound u → HasRing r u → HasPages r u → HasPages (nexted r u).region (nexted r u).user
next_pages r u hu front size =
    let same : (nexted r u).user.pages ≡ u.pages = next_user (λ v. v.pages ≡ u.pages) r u (record { pad = λ v len e. e; note = λ v len e. e; job = λ v len id e. e }) refl in
    (next_keeps r u hu front).pages ∙ size ∙ sym same

-- ==== an attach

pub attach_jobs : (r : RegionState) (u : UserState) → user_attached r ≡ Ok u → AreWholeJobs u
unfolding user_attached
attach_jobs r u h = go (user_mailbox r) h
  where
    go : (o : Result Mailbox MailboxFault) → attached_to r.pages o ≡ Ok u → AreWholeJobs u
    go (Err fault) q = absurd (cc)
    go (Ok m) q = subst AreWholeJobs (same_ok (user_of r.pages m) u q) tt

-- ==== a respond

placed_jobs : (P : List GivenJob → Type 0) (k : Placing) (p : Parked) (rest : List GivenJob) (ats : List ℕ) → P k.user.jobs → P rest → P (placed_at k p rest ats).user.jobs
placed_jobs P k p rest [] h m = h
placed_jobs P k p rest (at ∷ ats) h m = m

front_jobs : (ring pages : ℕ) (k : Placing) (gs : List GivenJob) → AreWhole ring pages k.user.jobs → AreWhole ring pages gs → AreWhole ring pages (placed_front k gs).user.jobs
front_jobs ring pages k [] h m = h
front_jobs ring pages k (g ∷ gs) h m =
    by_reply g.parked (λ p. front_jobs ring pages (placed_one k p gs) gs (placed_jobs (λ xs. AreWhole ring pages xs) k p gs k.user.offsets h m.1) m.1)
  where
    by_reply : (o : Option Parked) → ((p : Parked) → AreWhole ring pages (placed_front (placed_one k p gs) gs).user.jobs) →
        AreWhole ring pages (elim o as (λ x. Placing) [ None ↦ k | Some p ↦ placed_front (placed_one k p gs) gs ]).user.jobs
    by_reply None again = h
    by_reply (Some p) again = again p

respond_whole : (r : RegionState) (u : UserState) (p : Parked) (ring pages : ℕ) → AreWhole ring pages u.jobs → IsWhole ring pages p.job → AreWhole ring pages (user_responded r u p).user.jobs
unfolding user_responded
respond_whole r u p ring pages all mine = by_order u.flags.ooo
  where
    parked : List GivenJob
    parked = with_first (is_open_job p.job.id) (with_parked p) u.jobs

    whole : AreWhole ring pages (with_first (is_open_job p.job.id) (with_parked p) u.jobs)
    whole = every-with_first (is_open_job p.job.id) (with_parked p) (λ g. (q : Parked) → g.parked ≡ Some q → IsWhole ring pages q.job) u.jobs
        (λ g e k q z. let same : p ≡ q = cc in subst (λ (y : Parked). IsWhole ring pages y.job) same mine) all

    by_order : (b : Bool) → AreWhole ring pages (placing_by b r u p).user.jobs
    by_order true =
        placed_jobs (λ xs. AreWhole ring pages xs) (record { region = r; user = u }) p (without_first (is_open_job p.job.id) u.jobs) u.offsets all
        (every-without_first (is_open_job p.job.id) (λ g. (q : Parked) → g.parked ≡ Some q → IsWhole ring pages q.job) u.jobs all)
    by_order false = front_jobs ring pages (record { region = r; user = with_jobs u parked }) parked whole whole

pub respond_jobs : (r : RegionState) (u : UserState) (p : Parked) → UserSound u → HasRing r u → AreWholeJobs u → IsWholeJob u p.job → AreWholeJobs (user_responded r u p).user
respond_jobs r u p hu front all mine =
    let k = respond_keeps r u p hu front in
    subst (λ z. AreWhole z (user_responded r u p).user.pages (user_responded r u p).user.jobs) (sym k.ring_same)
    (subst (λ z. AreWhole u.ring z (user_responded r u p).user.jobs) (sym k.pages_same) (respond_whole r u p u.ring u.pages all mine))

pub respond_pages : (r : RegionState) (u : UserState) (p : Parked) → UserSound u → HasRing r u → HasPages r u → HasPages (user_responded r u p).region (user_responded r u p).user
respond_pages r u p hu front size = let k = respond_keeps r u p hu front in k.pages ∙ size ∙ sym k.pages_same

-- ==== the size of blocks

blocks_here : (r : RegionState) (u : UserState) → HasPages r u → IsSized r → HasBlocks (block_size u.pages) r
blocks_here r u size sized = (ap block_size size, subst (λ n. AreSized (block_size n) r.blocks) size sized)

all_move : (u : UserState) → AreWholeJobs u → AllMove (block_size u.pages) u.jobs
all_move u =
    every-weaker (λ g. (p : Parked) → g.parked ≡ Some p → IsWholeJob u p.job) (λ g. (p : Parked) → g.parked ≡ Some p → MovesBlocks (block_size u.pages) p.job) u.jobs
    (λ g f p e parts c. (f p e parts c).0)

pub respond_sized : (r : RegionState) (u : UserState) (p : Parked) → HasPages r u → AreWholeJobs u → IsWholeJob u p.job → IsSized r → IsSized (user_responded r u p).region
respond_sized r u p size all mine sized =
    own_size (block_size u.pages) (user_responded r u p).region
    (placed_sized (block_size u.pages) r u p (blocks_here r u size sized) (all_move u all) (λ parts c. (mine parts c).0))

pub reattach_sized : (r : RegionState) (u : UserState) → HasPages r u → AreWholeJobs u → IsSized r → IsSized (region_reattached r u)
unfolding region_reattached
reattach_sized r u size all sized = go (user_attached r)
  where
    go : (o : Result UserState MailboxFault) → IsSized (or_refused r u.jobs o)
    go (Err fault) = sized
    go (Ok v) = own_size (block_size u.pages) (region_abandoned r u.jobs) (all_back (block_size u.pages) r u.jobs (blocks_here r u size sized) (all_move u all))

-- ==== a publish

pub publish_jobs : (u : UserState) → AreWholeJobs u → AreWholeJobs (user_published u)
unfolding user_published
publish_jobs u h = h

pub publish_pages : (r : RegionState) (u : UserState) → HasPages r u → HasPages (region_published r u) (user_published u)
unfolding region_published user_published
publish_pages r u h = go (eqb (moving u) 0)
  where
    go : (b : Bool) → (cond b r (record r { front = put r.front tail_place (le 4 (user_published u).tail) })).pages ≡ u.pages
    go true = h
    go false = h
