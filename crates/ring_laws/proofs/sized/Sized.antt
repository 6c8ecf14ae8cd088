-- Each block that is at home keeps its size.
use Rattle.std.proofs.Common.{◌≡◌, ℕ, ◌+◌, ◌*◌, ◌≤◌, Bool, true, false, List, [], ◌∷◌, ◌++◌, length, take, drop, replicate, filter, set, refl, sym, ap, ◌∙◌, arith, suc, zero, Option, Some, None, slice_get, length-append, length-take, length-drop, subst, ⊎_elim, eqb}
use Rattle.std.specs.Prelude.{Result, Ok, Err}
use Rattle.std.specs.Bool.{MatchBool}
use Rattle.std.proofs.lemmas.Bool.{cases_Bool}
use Rattle.tcmu_types.specs.Data.{SettingsData}
use Rattle.tcmu_types.specs.declared.iovec.Iov.{Iov}
use Rattle.tcmu_types.specs.declared.dump.ItemKind.TheVariants as kind
use Rattle.region_model.specs.declared.mailbox.Mailbox.{Mailbox}
use Rattle.region_model.specs.declared.mailbox.MailboxFault.{MailboxFault}
use Rattle.region_model.specs.declared.entry.EntryRef.{EntryRef}
use Rattle.region_model.specs.declared.entry.EntryRef.TheVariants as entry
use Rattle.region_model.specs.declared.entry.EntryFault.{EntryFault}
use Rattle.tcmu_model.specs.declared.state.CommandState.TheVariants as state
use Rattle.tcmu_types.specs.Lists.{with_first, without_first, Every}
use Rattle.tcmu_types.specs.Numbers.{above_all}
use Rattle.tcmu_model.specs.Lengths.{block_size}
use Rattle.tcmu_model.specs.Device.{DeviceState, Unfinished, has_state}
use Rattle.tcmu_model.specs.Events.{is_in_hand}
use Rattle.tcmu_model.specs.BlockLists.{Taken}
use Rattle.region_model.specs.Layout.{ring_start}
use Rattle.tcmu_types.specs.Overwriting.{zeros}
use Rattle.region_model.specs.Iovecs.{scattered}
use Rattle.region_model.specs.EntryReading.{entry_read}
use Rattle.region_model.specs.Regions.{AreSized, HaveSize, RegionState, can_lend, home, named_by, opening_region, wrote, copied_in, given_back, put_where, returned, size_of, without}
use Rattle.region_model.specs.Areas.{over, written_along}
use Rattle.region_model.specs.Sides.{Carried, Copied, GivenJob, InHand, JobState, Moved, Parked, PendingRow, TargetState, UserState}
use Rattle.region_model.specs.Represents.{AreGiven, AreOut, IsJobOf, JobsStand, is_out}
use Rattle.region_model.specs.TargetSteps.{blocks_held}
use Rattle.region_model.specs.TargetCleans.{region_cleaned, region_reset, target_cleaned}
use Rattle.region_model.specs.UserSteps.{Placing, is_open_job, lie_in_area, moving, placed_at, placed_front, placed_one, placing_by, region_abandoned, region_published, user_mailbox, user_responded, with_job_back, with_jobs, with_parked, with_parked_back, with_payload}
use Rattle.region_model.specs.UserNext.{Nexted, BadEntry, command_next, iovs_in, most_entries, next_of, next_within, nexted, note_next, region_lent, tmr_ids_in, with_passed, with_unknown}
use Rattle.tcmu_types.proofs.Everies.{every-with_first}
use Rattle.tcmu_types.proofs.ByteFields.{length-zeros}
use Rattle.ring_laws.specs.Restarted.{region_restarted, region_with_hand}
use Rattle.ring_laws.specs.Sizes.{IsSized}
use Rattle.ring_laws.proofs.placed.AnswerData.{sizes-scattered}
use Rattle.region_model.proofs.Areas.{sized-blocks_over, sized-set, sized-take}

-- ==== bytes written along blocks, and an area that grows

sized_over : (size : ℕ) (area : List (Option (List ℕ))) (n : ℕ) (bytes : List ℕ) → length bytes ≤ size → AreSized size area → AreSized size (set area n (over bytes (home (slice_get area n))))
sized_over size [] n bytes l h = tt
sized_over size (None ∷ area) zero bytes l h = h
sized_over size (Some block ∷ area) zero bytes l h =
    let e : length block ≡ size = h.0 in
    (length-append bytes (drop (length bytes) block) ∙ omega (arith, length-drop (length bytes) block, e, l), h.1)
sized_over size (None ∷ area) (suc n) bytes l h = sized_over size area n bytes l h
sized_over size (Some block ∷ area) (suc n) bytes l h = (h.0, sized_over size area n bytes l h.1)

pub sized_along : (size : ℕ) (area : List (Option (List ℕ))) (bs : List ℕ) (bytes : List ℕ) → AreSized size area → AreSized size (written_along size area bs bytes)
sized_along size area [] bytes h = h
sized_along size area (b ∷ bs) bytes h =
    sized_along size (set area b (over (take size bytes) (home (slice_get area b)))) bs (drop size bytes) (sized_over size area b (take size bytes) (omega (arith, length-take size bytes)) h)

sized_new : (size n : ℕ) → AreSized size (replicate n (Some (zeros size)))
sized_new size zero = tt
sized_new size (suc n) = (length-zeros size, sized_new size n)

pub sized_grown : (size : ℕ) (area : List (Option (List ℕ))) (n : ℕ) → AreSized size area → AreSized size (area ++ replicate n (Some (zeros size)))
sized_grown size [] n h = sized_new size n
sized_grown size (None ∷ area) n h = sized_grown size area n h
sized_grown size (Some block ∷ area) n h = (h.0, sized_grown size area n h.1)

-- ==== an area that shrinks, blocks that are lent

sized_without : (size : ℕ) (area : List (Option (List ℕ))) (ns : List ℕ) → AreSized size area → AreSized size (without area ns)
sized_without size area [] h = h
sized_without size area (n ∷ ns) h = sized_without size (set area n None) ns (sized-set size area n None tt h)

-- ==== blocks that come back

sized_where : (size : ℕ) (o : Option (Option (List ℕ))) (area : List (Option (List ℕ))) (n : ℕ) (part : List ℕ) → length part ≡ size → AreSized size area → AreSized size (put_where o area n part)
sized_where size None area n part l h = h
sized_where size (Some None) area n part l h = sized-set size area n (Some part) (l, tt) h
sized_where size (Some (Some block)) area n part l h = h

sized_returned : (size : ℕ) (area : List (Option (List ℕ))) (ns : List ℕ) (parts : List (List ℕ)) → HaveSize size parts → AreSized size area → AreSized size (returned area ns parts)
sized_returned size area [] parts k h = h
sized_returned size area (n ∷ ns) [] k h = h
sized_returned size area (n ∷ ns) (part ∷ parts) k h = sized_where size (slice_get (returned area ns parts) n) (returned area ns parts) n part k.0 (sized_returned size area ns parts k.1 h)

-- a region whose blocks have this size
abbrev pub HasBlocks : ℕ → RegionState → Type 0
HasBlocks size r = (block_size r.pages ≡ size) × AreSized size r.blocks

pub own_size : (size : ℕ) (r : RegionState) → HasBlocks size r → IsSized r
own_size size r h = subst (λ n. AreSized n r.blocks) (sym h.0) h.1

-- the blocks that a job has are of this size
abbrev pub MovesBlocks : ℕ → JobState → Type 0
MovesBlocks size job = (parts : List (List ℕ)) → job.carried ≡ Moved parts → HaveSize size parts

job_moves : (s : SettingsData) (rows : List PendingRow) (lists : List Taken) (u : Unfinished) (job : JobState) (parts : List (List ℕ)) → IsJobOf s rows lists u job parts → MovesBlocks (block_size s.pages) job
job_moves s rows lists u job parts h others e = subst (HaveSize (block_size s.pages)) (same parts others (sym h.carried ∙ e)) h.size
  where
    same : (xs ys : List (List ℕ)) → Moved xs ≡ Moved ys → xs ≡ ys
    same xs ys q = cc

-- so has each job that is parked
abbrev pub AllMove : ℕ → List GivenJob → Type 0
AllMove size gs = Every (λ g. (p : Parked) → g.parked ≡ Some p → MovesBlocks size p.job) gs

given_move : (s : SettingsData) (rows : List PendingRow) (lists : List Taken) (gs : List GivenJob) (us : List Unfinished) → AreGiven s rows lists gs us → AllMove (block_size s.pages) gs
given_move s rows lists [] [] h = tt
given_move s rows lists [] (u ∷ us) h = absurd h
given_move s rows lists (g ∷ gs) [] h = absurd h
given_move s rows lists (g ∷ gs) (u ∷ us) h = (λ p e. parked (has_state state.Parked u) p e h.0.1, given_move s rows lists gs us h.1)
  where
    parked : (b : Bool) (p : Parked) → g.parked ≡ Some p → MatchBool b ((q : Parked) × (g.parked ≡ Some q) × (u.reply ≡ Some q.reply) × (parts : List (List ℕ)) × IsJobOf s rows lists u q.job parts) (g.parked ≡ None) → MovesBlocks (block_size s.pages) p.job
    parked true p e k =
        let same : Some k.0 ≡ Some p = sym k.1 ∙ e in
        let q : k.0 ≡ p = cc in
        subst (λ (y : Parked). MovesBlocks (block_size s.pages) y.job) q (job_moves s rows lists u k.0.job k.3 k.4)
    parked false p e k = let no : None ≡ Some p = sym k ∙ e in absurd (cc)

-- ==== bytes that are written

sized_copied : (size : ℕ) (r : RegionState) (iovs : List Iov) (bytes : List ℕ) → HasBlocks size r → HasBlocks size (copied_in r iovs bytes)
sized_copied size r [] bytes h = h
sized_copied size r (iov ∷ iovs) bytes h =
    sized_copied size (wrote r iov.base (take iov.len bytes)) iovs (drop iov.len bytes) (h.0, sized-blocks_over size (length r.front) (size_of r) iov.base (take iov.len bytes) r.blocks h.1)

-- ==== respond

with_answer : (size : ℕ) (r : RegionState) (job : JobState) (payload : List ℕ) → HasBlocks size r → MovesBlocks size job → HasBlocks size (with_payload r job.iovs job.carried payload)
with_answer size r job payload h m = by_carried job.carried refl
  where
    by_carried : (c : Carried) → job.carried ≡ c → HasBlocks size (with_payload r job.iovs c payload)
    by_carried (Moved parts) e = (h.0, sized_returned size r.blocks (named_by r job.iovs) (scattered parts payload) (sizes-scattered size parts payload (m parts e)) h.1)
    by_carried (Copied bytes) e =
        ⊎_elim
        (λ (k : lie_in_area r job.iovs ≡ true). rw k (sized_copied size r job.iovs payload h))
        (λ (k : lie_in_area r job.iovs ≡ false). rw k h)
        (cases_Bool (lie_in_area r job.iovs))

one_placed : (size : ℕ) (k : Placing) (p : Parked) (rest : List GivenJob) (ats : List ℕ) → HasBlocks size k.region → MovesBlocks size p.job → HasBlocks size (placed_at k p rest ats).region
one_placed size k p rest [] h m = h
one_placed size k p rest (at ∷ ats) h m = let g = with_answer size k.region p.job p.reply.payload h m in (g.0, g.1)

front_placed : (size : ℕ) (k : Placing) (gs : List GivenJob) → HasBlocks size k.region → AllMove size gs → HasBlocks size (placed_front k gs).region
front_placed size k [] h m = h
front_placed size k (g ∷ gs) h m = by_reply (λ x y. front_placed size x gs y m.1) g.parked refl
  where
    by_reply : ((x : Placing) → HasBlocks size x.region → HasBlocks size (placed_front x gs).region) → (o : Option Parked) → g.parked ≡ o → HasBlocks size (elim o as (λ x. Placing) [ None ↦ k | Some p ↦ placed_front (placed_one k p gs) gs ]).region
    by_reply again None e = h
    by_reply again (Some p) e = again (placed_one k p gs) (one_placed size k p gs k.user.offsets h (m.0 p e))

pub placed_sized : (size : ℕ) (r : RegionState) (user : UserState) (p : Parked) → HasBlocks size r → AllMove size user.jobs → MovesBlocks size p.job → HasBlocks size (user_responded r user p).region
unfolding user_responded
placed_sized size r user p here all mine = by_order user.flags.ooo
  where
    parked : List GivenJob
    parked = with_first (is_open_job p.job.id) (with_parked p) user.jobs

    move : AllMove size (with_first (is_open_job p.job.id) (with_parked p) user.jobs)
    move = every-with_first (is_open_job p.job.id) (with_parked p) (λ g. (q : Parked) → g.parked ≡ Some q → MovesBlocks size q.job) user.jobs
        (λ g e k q z. let same : p ≡ q = cc in subst (λ (y : Parked). MovesBlocks size y.job) same mine) all

    by_order : (b : Bool) → HasBlocks size (placing_by b r user p).region
    by_order true = one_placed size (record { region = r; user = user }) p (without_first (is_open_job p.job.id) user.jobs) user.offsets here mine
    by_order false = front_placed size (record { region = r; user = with_jobs user parked }) parked here move

pub sized_responded : (r : RegionState) (user : UserState) (hand : List InHand) (rows : List PendingRow) (d : DeviceState) (lists : List Taken) (u : Unfinished) (p : Parked) (parts : List (List ℕ)) →
    r.pages ≡ d.settings.pages → JobsStand user hand rows d lists → IsJobOf d.settings rows lists u p.job parts → IsSized r → IsSized (user_responded r user p).region
sized_responded r user hand rows d lists u p parts pages jobs job h =
    own_size (block_size d.settings.pages) (user_responded r user p).region
    (placed_sized (block_size d.settings.pages) r user p (ap block_size pages, subst (λ n. AreSized (block_size n) r.blocks) pages h)
    (given_move d.settings rows lists user.jobs (filter is_in_hand d.unfinished) jobs.given) (job_moves d.settings rows lists u p.job parts job))

-- ==== jobs given up

job_back : (size : ℕ) (r : RegionState) (job : JobState) → HasBlocks size r → MovesBlocks size job → HasBlocks size (with_job_back r job)
job_back size r job h m = by_carried job.carried refl
  where
    by_carried : (c : Carried) → job.carried ≡ c → HasBlocks size (elim c as (λ x. RegionState) [ Moved parts ↦ given_back r job.iovs parts | Copied bytes ↦ r ])
    by_carried (Moved parts) e = (h.0, sized_returned size r.blocks (named_by r job.iovs) parts (m parts e) h.1)
    by_carried (Copied bytes) e = h

pub all_back : (size : ℕ) (r : RegionState) (gs : List GivenJob) → HasBlocks size r → AllMove size gs → HasBlocks size (region_abandoned r gs)
unfolding region_abandoned
all_back size r [] h m = h
all_back size r (g ∷ gs) h m = all_back size (with_parked_back r g.parked) gs (by_reply g.parked refl) m.1
  where
    by_reply : (o : Option Parked) → g.parked ≡ o → HasBlocks size (with_parked_back r o)
    by_reply None e = h
    by_reply (Some p) e = job_back size r p.job h (m.0 p e)

pub sized_back : (r : RegionState) (rows : List PendingRow) (d : DeviceState) (lists : List Taken) (u : Unfinished) (job : JobState) (parts : List (List ℕ)) →
    r.pages ≡ d.settings.pages → IsJobOf d.settings rows lists u job parts → IsSized r → IsSized (with_job_back r job)
sized_back r rows d lists u job parts pages j h =
    own_size (block_size d.settings.pages) (with_job_back r job)
    (job_back (block_size d.settings.pages) r job (ap block_size pages, subst (λ n. AreSized (block_size n) r.blocks) pages h) (job_moves d.settings rows lists u job parts j))

pub sized_abandoned : (r : RegionState) (user : UserState) (hand : List InHand) (rows : List PendingRow) (d : DeviceState) (lists : List Taken) →
    r.pages ≡ d.settings.pages → JobsStand user hand rows d lists → IsSized r → IsSized (region_abandoned r user.jobs)
sized_abandoned r user hand rows d lists pages jobs h =
    own_size (block_size d.settings.pages) (region_abandoned r user.jobs)
    (all_back (block_size d.settings.pages) r user.jobs (ap block_size pages, subst (λ n. AreSized (block_size n) r.blocks) pages h) (given_move d.settings rows lists user.jobs (filter is_in_hand d.unfinished) jobs.given))

hand_back : (s : SettingsData) (rows : List PendingRow) (lists : List Taken) (r : RegionState) (hs : List InHand) (us : List Unfinished) → HasBlocks (block_size s.pages) r → AreOut s rows lists hs us → HasBlocks (block_size s.pages) (region_with_hand r hs)
hand_back s rows lists r [] us b a = b
hand_back s rows lists r (x ∷ hs) [] b a = absurd a
hand_back s rows lists r (x ∷ hs) (u ∷ us) b a = hand_back s rows lists (with_job_back r x.job) hs us (job_back (block_size s.pages) r x.job b (job_moves s rows lists u x.job a.0.2.0 a.0.2.1)) a.1

pub sized_restarted : (r : RegionState) (user : UserState) (hand : List InHand) (rows : List PendingRow) (d : DeviceState) (lists : List Taken) →
    r.pages ≡ d.settings.pages → JobsStand user hand rows d lists → IsSized r → IsSized (region_restarted r hand user)
unfolding region_restarted
sized_restarted r user hand rows d lists pages jobs h =
    let size : ℕ = block_size d.settings.pages in
    let here : HasBlocks size r = (ap block_size pages, subst (λ n. AreSized (block_size n) r.blocks) pages h) in
    own_size size (region_abandoned (region_with_hand r hand) user.jobs)
    (all_back size (region_with_hand r hand) user.jobs (hand_back d.settings rows lists r hand (filter is_out d.unfinished) here jobs.out)
    (given_move d.settings rows lists user.jobs (filter is_in_hand d.unfinished) jobs.given))

-- ==== next, over any bytes

sized_lent : (r : RegionState) (iovs : List Iov) → IsSized r → IsSized (region_lent r iovs)
sized_lent r iovs h =
    ⊎_elim
    (λ (e : can_lend r iovs ≡ true). rw e (sized_without (block_size r.pages) r.blocks (named_by r iovs) h))
    (λ (e : can_lend r iovs ≡ false). rw e h)
    (cases_Bool (can_lend r iovs))

sized_within : (n : ℕ) (m : Mailbox) (before : UserState) (r : RegionState) (u : UserState) → IsSized r → IsSized (next_within n m before r u).region
sized_within zero m before r u h = h
sized_within (suc n) m before r u h =
    ⊎_elim
    (λ (e : eqb u.place m.head ≡ true). rw e h)
    (λ (e : eqb u.place m.head ≡ false). rw e (by_entry (λ x y k. sized_within n m before x y k) (entry_read r.front (size_of r * length r.blocks) m u.place)))
    (cases_Bool (eqb u.place m.head))
  where
    by_entry : ((x : RegionState) (y : UserState) → IsSized x → IsSized (next_within n m before x y).region) → (o : Result EntryRef EntryFault) → IsSized (elim o as (λ x. Nexted) [
      | Err fault ↦ record { answer = BadEntry u.place fault; region = r; user = before }
      | Ok (entry.Pad len) ↦ next_within n m before r (with_passed u kind.Pad len)
      | Ok (entry.Unknown op len) ↦ next_within n m before (with_unknown r u.place) (with_passed u kind.Pad len)
      | Ok (entry.Cmd len id count cdb) ↦ command_next r u len id (iovs_in r.front (ring_start + u.place) 0 count) cdb
      | Ok (entry.Tmr len type_ count) ↦ note_next r u len type_ (tmr_ids_in r.front (ring_start + u.place) 0 count)
    ]).region
    by_entry again (Err fault) = h
    by_entry again (Ok (entry.Pad len)) = again r (with_passed u kind.Pad len) h
    by_entry again (Ok (entry.Unknown op len)) = again (with_unknown r u.place) (with_passed u kind.Pad len) h
    by_entry again (Ok (entry.Cmd len id count cdb)) = sized_lent r (iovs_in r.front (ring_start + u.place) 0 count) h
    by_entry again (Ok (entry.Tmr len type_ count)) = h

pub sized_nexted : (r : RegionState) (user : UserState) → IsSized r → IsSized (nexted r user).region
unfolding nexted
sized_nexted r user h = by_mailbox (user_mailbox r)
  where
    by_mailbox : (o : Result Mailbox MailboxFault) → IsSized (next_of r user o).region
    by_mailbox (Err fault) = h
    by_mailbox (Ok m) = sized_within (most_entries user.ring) m user r user h

-- ==== what the target and a publish leave

pub sized_opening : (s : SettingsData) → IsSized (opening_region s)
sized_opening s = tt

pub sized_published : (r : RegionState) (user : UserState) → IsSized r → IsSized (region_published r user)
unfolding region_published
sized_published r user h =
    ⊎_elim
    (λ (e : eqb (moving user) 0 ≡ true). rw e h)
    (λ (e : eqb (moving user) 0 ≡ false). rw e h)
    (cases_Bool (eqb (moving user) 0))

pub sized_cleaned : (r : RegionState) (t : TargetState) → IsSized r → IsSized (region_cleaned r t)
unfolding region_cleaned
sized_cleaned r t h =
    ⊎_elim
    (λ (e : eqb (length (target_cleaned r t).rows) (length t.rows) ≡ true). rw e h)
    (λ (e : eqb (length (target_cleaned r t).rows) (length t.rows) ≡ false). rw e (sized-take (block_size r.pages) (above_all (blocks_held (target_cleaned r t).rows)) r.blocks h))
    (cases_Bool (eqb (length (target_cleaned r t).rows) (length t.rows)))

pub sized_reset : (r : RegionState) → IsSized (region_reset r)
unfolding region_reset
sized_reset r = tt
