-- What every user side keeps, behind each of its calls.
use Rattle.std.proofs.Common.{◌≡◌, ◌⊎◌, true, [], length, Result, Ok, Err, refl, sym, ap, ◌∙◌, subst, ⊎_elim}
use Rattle.std.specs.List.{list_any}
use Rattle.region_model.specs.declared.mailbox.Mailbox.{Mailbox}
use Rattle.region_model.specs.declared.mailbox.MailboxFault.{MailboxFault}
use Rattle.region_model.specs.Layout.{data_start}
use Rattle.region_model.specs.Regions.{RegionState}
use Rattle.region_model.specs.Sides.{Parked, UserState}
use Rattle.region_model.specs.UserSteps.{attached_to, is_open_job, region_abandoned, region_reattached, user_abandoned, user_attached, user_mailbox, user_of, user_published, user_responded}
use Rattle.region_model.specs.UserNext.{nexted}
use Rattle.ring_laws.specs.Restarted.{region_restarted}
use Rattle.ring_laws.specs.Sizes.{IsSized}
use Rattle.ring_laws.specs.UserKept.{HasPages, HasRing, IsWholeJob}
use Rattle.ring_laws.proofs.user_over_any_bytes.AnyAnswers.{Answers, OnlyBlocks, abandon_sound, publish_sound, reattach_only, respond_keeps}
use Rattle.ring_laws.proofs.user_over_any_bytes.AnyAttached.{attached_pages, attached_sound}
use Rattle.ring_laws.proofs.restarted.RestartedKept.{SameFront, front_restarted}
use Rattle.ring_laws.proofs.user_over_any_bytes.AnyCounts.{abandon_counts, attach_counts, next_counts, publish_counts, respond_counts}
use Rattle.ring_laws.proofs.user_over_any_bytes.AnyNext.{Nexts, next_keeps}
use Rattle.ring_laws.proofs.user_over_any_bytes.AnyWhole.{attach_jobs, next_job, next_jobs, next_pages, publish_jobs, respond_jobs}
use Rattle.user_lib.specs.declared.next.Next.{Next}
use Rattle.user_lib.specs.declared.next.UserFault.{UserFault}
use Rattle.user_lib.specs.declared.next.UserFault.TheVariants as fault
use Rattle.user_lib.specs.Stays.{StaysAttached}
use Rattle.user_lib.specs.Told.{Told}
use Rattle.user_lib.specs.declared.next.Next.TheVariants as next
use Rattle.user_lib.specs.Users.{CanRespondNext, IsUser}
use Rattle.user_lib.proofs.Leads.{attached_leads, next_leads, respond_leads}
use Rattle.user_lib.proofs.Opens.{next_gives}

-- it has dispatched none
pub attached_fresh : (r : RegionState) (u : UserState) → user_attached r ≡ Ok u → u.dispatched ≡ 0
unfolding user_attached
attached_fresh r u h = go (user_mailbox r) h
  where
    same : (x y : UserState) → ◌≡◌ {A = Result UserState MailboxFault} (Ok x) (Ok y) → x ≡ y
    same x y q = cc

    go : (o : Result Mailbox MailboxFault) → attached_to r.pages o ≡ Ok u → u.dispatched ≡ 0
    go (Err f) q = absurd (cc)
    go (Ok m) q = sym (ap (λ (x : UserState). x.dispatched) (same (user_of r.pages m) u q))

pub attached_kept : (r : RegionState) (u : UserState) → user_attached r ≡ Ok u → IsUser u
attached_kept r u h = record { sound = (attached_sound r u h).0; counts = attach_counts r u h; whole = attach_jobs r u h; first = attached_leads r u h }

nexted_kept : (r : RegionState) (u : UserState) → IsUser u → HasRing r u → HasPages r u → IsSized r → IsUser (nexted r u).user
nexted_kept r u h ring pages sized =
    record { sound = (next_keeps r u h.sound ring).user; counts = next_counts r u h.counts; whole = next_jobs r u h.sound ring pages sized h.whole; first = next_leads r u h.first }

pub told_kept : (r left : RegionState) (u after : UserState) (result : Result Next UserFault) → Told r u result left after → IsUser u → HasRing r u → HasPages r u → IsSized r → IsUser after
told_kept r left u after (Ok next) t h ring pages sized = subst IsUser t.user (nexted_kept r u h ring pages sized)
told_kept r left u after (Err (fault.BadMailbox f)) t h ring pages sized = subst IsUser t.user (nexted_kept r u h ring pages sized)
told_kept r left u after (Err (fault.BadEntry at f)) t h ring pages sized = subst IsUser t.user (nexted_kept r u h ring pages sized)
told_kept r left u after (Err fault.NoMemory) t h ring pages sized = subst IsUser (sym t.user) h

pub responded_kept : (r : RegionState) (u : UserState) (p : Parked) → IsUser u → HasRing r u → list_any (is_open_job p.job.id) u.jobs ≡ true → IsWholeJob u p.job → IsUser (user_responded r u p).user
responded_kept r u p h ring is_open whole =
    record { sound = (respond_keeps r u p h.sound ring).user; counts = respond_counts r u p h.counts is_open; whole = respond_jobs r u p h.sound ring h.whole whole; first = respond_leads r u p h.counts }

pub published_kept : (u : UserState) → IsUser u → IsUser (user_published u)
unfolding user_published
published_kept u h = record { sound = publish_sound u h.sound; counts = publish_counts u h.counts; whole = publish_jobs u h.whole; first = h.first }

pub abandoned_kept : (u : UserState) → IsUser u → IsUser (user_abandoned u)
unfolding user_abandoned
abandoned_kept u h = record { sound = abandon_sound u h.sound; counts = abandon_counts u h.counts; whole = tt; first = λ e. refl }

-- a job that comes may be responded
pub told_job : (r left : RegionState) (u after : UserState) (result : Result Next UserFault) → Told r u result left after → IsUser u → HasRing r u → HasPages r u → IsSized r → CanRespondNext after result
told_job r left u after (Ok (next.Job job)) t h ring pages sized = (
  subst (λ (v : UserState). list_any (is_open_job job.id) v.jobs ≡ true) t.user (next_gives r u job t.answer),
  subst (λ (v : UserState). IsWholeJob v job) t.user (next_job r u job h.sound ring pages sized h.whole t.answer),
)
told_job r left u after (Ok (next.Note type_ ids)) t h ring pages sized = tt
told_job r left u after (Ok next.Nothing) t h ring pages sized = tt
told_job r left u after (Err fault) t h ring pages sized = tt

-- ==== what was read at the attach

nexted_stays : (r : RegionState) (u : UserState) → IsUser u → HasRing r u → HasPages r u → StaysAttached u (nexted r u).user
nexted_stays r u h ring pages =
    let k : Nexts r u.ring (nexted r u) = next_keeps r u h.sound ring in
    let p : (nexted r u).region.pages ≡ (nexted r u).user.pages = next_pages r u h.sound ring pages in
    record { ring = k.ring_same; pages = sym p ∙ (k.pages ∙ pages) }

pub told_stays : (r left : RegionState) (u after : UserState) (result : Result Next UserFault) → Told r u result left after → IsUser u → HasRing r u → HasPages r u → StaysAttached u after
told_stays r left u after (Ok next) t h ring pages = subst (StaysAttached u) t.user (nexted_stays r u h ring pages)
told_stays r left u after (Err (fault.BadMailbox f)) t h ring pages = subst (StaysAttached u) t.user (nexted_stays r u h ring pages)
told_stays r left u after (Err (fault.BadEntry at f)) t h ring pages = subst (StaysAttached u) t.user (nexted_stays r u h ring pages)
told_stays r left u after (Err fault.NoMemory) t h ring pages = subst (StaysAttached u) (sym t.user) (record { ring = refl; pages = refl })

pub responded_stays : (r : RegionState) (u : UserState) (p : Parked) → IsUser u → HasRing r u → StaysAttached u (user_responded r u p).user
responded_stays r u p h ring = let k : Answers r u (user_responded r u p) = respond_keeps r u p h.sound ring in record { ring = k.ring_same; pages = k.pages_same }

-- the region of the same sizes is that of the same user side
pub ring_stays : (r left : RegionState) (u after : UserState) → length left.front ≡ length r.front → StaysAttached u after → HasRing r u → HasRing left after
ring_stays r left u after front s ring = front ∙ (ring ∙ ap data_start (sym s.ring))

pub pages_stays : (r left : RegionState) (u after : UserState) → left.pages ≡ r.pages → StaysAttached u after → HasPages r u → HasPages left after
pages_stays r left u after same s pages = same ∙ (pages ∙ sym s.pages)

pub published_stays : (u after : UserState) → after ≡ user_published u → StaysAttached u after
unfolding user_published
published_stays u after e = record { ring = ap (λ (x : UserState). x.ring) e; pages = ap (λ (x : UserState). x.pages) e }

-- jobs that are given up change nothing before the data area
abandoned_front : (r : RegionState) (u : UserState) → SameFront r (region_abandoned r u.jobs)
unfolding region_restarted
abandoned_front r u = front_restarted r [] u

pub abandoned_ring : (r left : RegionState) (u after : UserState) → after ≡ user_abandoned u → left ≡ region_abandoned r u.jobs → HasRing r u → HasRing left after
unfolding user_abandoned
abandoned_ring r left u after e f ring =
    ap (λ (x : RegionState). length x.front) f ∙ (ap length (abandoned_front r u).front ∙ (ring ∙ ap data_start (sym (ap (λ (x : UserState). x.ring) e))))

pub abandoned_pages : (r left : RegionState) (u after : UserState) → after ≡ user_abandoned u → left ≡ region_abandoned r u.jobs → HasPages r u → HasPages left after
unfolding user_abandoned
abandoned_pages r left u after e f pages =
    ap (λ (x : RegionState). x.pages) f ∙ ((abandoned_front r u).pages ∙ (pages ∙ sym (ap (λ (x : UserState). x.pages) e)))

-- attached again, or as before
pub reattached_kept : (r : RegionState) (u after was : UserState) → (user_attached r ≡ Ok after) ⊎ (after ≡ was) → was ≡ u → IsUser u → IsUser after
reattached_kept r u after was o same h = ⊎_elim (λ (k : user_attached r ≡ Ok after). attached_kept r after k) (λ (k : after ≡ was). subst IsUser (sym (k ∙ same)) h) o

pub reattached_ring : (r left : RegionState) (u after was : UserState) → left ≡ region_reattached r u → (user_attached r ≡ Ok after) ⊎ (after ≡ was) → was ≡ u → HasRing r u → HasRing left after
reattached_ring r left u after was e o same ring =
    let k : OnlyBlocks r (region_reattached r u) = reattach_only r u in
    let front : length left.front ≡ length r.front = ap (λ (x : RegionState). length x.front) e ∙ ap length k.front in
    front ∙ ⊎_elim (λ (q : user_attached r ≡ Ok after). (attached_sound r after q).1) (λ (q : after ≡ was). ring ∙ ap (λ (x : UserState). data_start x.ring) (sym (q ∙ same))) o

pub reattached_pages : (r left : RegionState) (u after was : UserState) → left ≡ region_reattached r u → (user_attached r ≡ Ok after) ⊎ (after ≡ was) → was ≡ u → HasPages r u → HasPages left after
reattached_pages r left u after was e o same pages =
    let k : OnlyBlocks r (region_reattached r u) = reattach_only r u in
    let front : left.pages ≡ r.pages = ap (λ (x : RegionState). x.pages) e ∙ k.pages in
    front ∙ ⊎_elim (λ (q : user_attached r ≡ Ok after). attached_pages r after q) (λ (q : after ≡ was). pages ∙ ap (λ (x : UserState). x.pages) (sym (q ∙ same))) o
