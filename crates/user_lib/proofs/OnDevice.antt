-- The calls on a region that represents a device.
use Rattle.std.proofs.Common.{◌≡◌, ℕ, Bool, true, false, List, [], Some, Result, Ok, Err, refl, sym, ap, ◌∙◌, subst, arith}
use Rattle.std.proofs.lemmas.Bool.{false≢true}
use Rattle.tcmu_types.specs.Data.{ReplyData}
use Rattle.tcmu_types.specs.declared.answer.Publish.{Publish}
use Rattle.tcmu_types.specs.declared.answer.Respond.{Respond}
use Rattle.tcmu_types.specs.Events.{DispatchData}
use Rattle.tcmu_types.specs.Events as device
use Rattle.tcmu_model.specs.BlockLists.{Taken}
use Rattle.tcmu_model.specs.Device.{DeviceState}
use Rattle.tcmu_model.specs.Events.{after_dispatch, after_publish, after_reset, after_respond, after_restart, dispatch_answer}
use Rattle.region_model.specs.declared.mailbox.MailboxFault.{MailboxFault}
use Rattle.region_model.specs.declared.entry.EntryFault.{EntryFault}
use Rattle.region_model.specs.HandSteps.{hand_responded}
use Rattle.region_model.specs.Regions.{RegionState}
use Rattle.region_model.specs.Represents.{Represents}
use Rattle.region_model.specs.Sides.{InHand, JobState, Parked, PendingRow, TargetState, UserState}
use Rattle.region_model.specs.TargetCleans.{region_reset, target_reset}
use Rattle.region_model.specs.UserNext.{BadEntry, BadMailbox, NextAnswer, Nexted, Nothing, next_within, nexted}
use Rattle.region_model.specs.UserSteps.{opening_user, region_abandoned, region_published, region_reattached, user_abandoned, user_attached, user_publish_answer, user_published, user_respond_answer, user_responded}
use Rattle.ring_laws.specs.Attached.{attached_user}
use Rattle.ring_laws.specs.Dispatched.{AnswersDispatch, CanDispatch, hand_dispatched}
use Rattle.ring_laws.specs.Restarted.{region_restarted}
use Rattle.ring_laws.proofs.attached.AttachedUser.{attached_same}
use Rattle.ring_laws.proofs.dispatched.DispatchAnswers.{answer_dispatched}
use Rattle.ring_laws.proofs.dispatched.DispatchBlocks.{blocks_dispatched}
use Rattle.ring_laws.proofs.dispatched.DispatchJobs.{jobs_dispatched}
use Rattle.ring_laws.proofs.dispatched.DispatchKept.{ids_dispatched, notes_dispatched, pages_dispatched, ring_dispatched, side_dispatched, target_dispatched}
use Rattle.ring_laws.proofs.emptied.EmptiedKept.{attached_reset, blocks_reset, ids_reset, jobs_reset, notes_reset, pages_reset, reattached_reset, ring_reset, side_reset, target_reset_keeps}
use Rattle.ring_laws.proofs.jobs_in_hand.HandTells.{can_respond}
use Rattle.ring_laws.proofs.dispatched.NextNothing.{next_nothing}
use Rattle.ring_laws.proofs.responded.Responds.{answer_same, blocks_kept, ids_kept, jobs_kept, notes_kept, pages_kept, ring_kept, side_kept, target_kept}
use Rattle.ring_laws.proofs.restarted.RestartedKept.{blocks_restarted, ids_restarted, jobs_restarted, notes_restarted, pages_restarted, ring_restarted, side_restarted, target_restarted}
use Rattle.ring_laws.proofs.published.TailMoved.{blocks_published, ids_published, jobs_published, notes_published, pages_published, publish_same, ring_published, side_published, target_published}
use Rattle.user_lib.specs.declared.next.Next.{Next}
use Rattle.user_lib.specs.declared.next.UserFault.{UserFault}
use Rattle.user_lib.specs.declared.next.UserFault.TheVariants as fault
use Rattle.user_lib.specs.OnDevice.{AttachesDevice, DispatchesDevice, PublishesDevice, ResetsDevice, RespondsDevice, RestartsDevice, StandsFor, StandsForNone}
use Rattle.user_lib.specs.Told.{IsNexted, Told}
use Rattle.user_lib.specs.Views.{next_data}

-- the parts of what is represented, of equal regions, user sides and jobs in hand
same_represents : (r r' : RegionState) (t : TargetState) (u u' : UserState) (hand hand' : List InHand) (d : DeviceState) (lists : List Taken) → r ≡ r' → u ≡ u' → hand ≡ hand' → Represents r t u hand d lists → Represents r' t u' hand' d lists
same_represents r r' t u u' hand hand' d lists e f g h =
    subst (λ x. Represents r' t u' x d lists) g (subst (λ x. Represents r' t x hand d lists) f (subst (λ x. Represents x t u hand d lists) e h))

-- ==== attach

same_user : (x y : UserState) → ◌≡◌ {A = Result UserState MailboxFault} (Ok x) (Ok y) → x ≡ y
same_user x y q = cc

no_fault : (f : MailboxFault) (x : UserState) → ◌≡◌ {A = Result UserState MailboxFault} (Err f) (Ok x) → ⊥
no_fault f x q = cc

pub attaches : (r : RegionState) (u : UserState) → user_attached r ≡ Ok u → AttachesDevice r u
attaches r u h t was hand d lists s = same_user u (attached_user d) (sym h ∙ attached_same r t.items d lists s.sound s.represents.ring s.represents.pages)

pub attaches_none : (r : RegionState) (f : MailboxFault) → user_attached r ≡ Err f → StandsForNone r
attaches_none r f h t was hand d lists s = no_fault f (attached_user d) (sym h ∙ attached_same r t.items d lists s.sound s.represents.ring s.represents.pages)

-- ==== next

can_dispatch : (r : RegionState) (t : TargetState) (u : UserState) (hand : List InHand) (d : DeviceState) (lists : List Taken) → StandsFor r t u hand d lists → d.attached ≡ true → CanDispatch r t u hand d lists
can_dispatch r t u hand d lists s att =
    let p = s.represents in
    record { sound = s.sound; owned = s.owned; attached = att; ring = p.ring; ids = p.ids; notes = p.notes; blocks = p.blocks; jobs = p.jobs; side = p.side; pages = p.pages }

dispatched : (r : RegionState) (t : TargetState) (u : UserState) (hand : List InHand) (d : DeviceState) (lists : List Taken) → StandsFor r t u hand d lists → d.attached ≡ true →
    Represents (nexted r u).region t (nexted r u).user (hand_dispatched hand (dispatch_answer d) (nexted r u).answer) (after_dispatch d) lists
dispatched r t u hand d lists s att =
    let c = can_dispatch r t u hand d lists s att in
    record {
      ring = ring_dispatched r t u hand d lists c;
      ids = ids_dispatched r t u hand d lists c;
      notes = notes_dispatched r t u hand d lists c;
      blocks = blocks_dispatched r t u hand d lists c;
      jobs = jobs_dispatched r t u hand d lists c;
      target = target_dispatched t d lists s.represents.target;
      side = side_dispatched r t u hand d lists c;
      pages = pages_dispatched r t u hand d lists c;
    }

-- a device's dispatch is no fault
no_mailbox : (rows : List PendingRow) (d : DeviceState) (lists : List Taken) (a : DispatchData) (f : MailboxFault) → AnswersDispatch rows d lists a (BadMailbox f) → ⊥
no_mailbox rows d lists (device.Job s) f h = h
no_mailbox rows d lists (device.Note type_ ss) f h = h
no_mailbox rows d lists device.Nothing f h = h
no_mailbox rows d lists device.Detached f h = h

no_entry : (rows : List PendingRow) (d : DeviceState) (lists : List Taken) (a : DispatchData) (at : ℕ) (f : EntryFault) → AnswersDispatch rows d lists a (BadEntry at f) → ⊥
no_entry rows d lists (device.Job s) at f h = h
no_entry rows d lists (device.Note type_ ss) at f h = h
no_entry rows d lists device.Nothing at f h = h
no_entry rows d lists device.Detached at f h = h

answers : (r left : RegionState) (t : TargetState) (u after : UserState) (hand : List InHand) (d : DeviceState) (lists : List Taken) (a : NextAnswer) → CanDispatch r t u hand d lists → IsNexted (nexted r u) a left after → AnswersDispatch t.rows d lists (dispatch_answer d) a
answers r left t u after hand d lists a c told = subst (AnswersDispatch t.rows d lists (dispatch_answer d)) told.answer (answer_dispatched r t u hand d lists c)

pub dispatches : (r left : RegionState) (u after : UserState) (result : Result Next UserFault) → Told r u result left after → DispatchesDevice r u result left after
dispatches r left u after (Ok next) told t hand d lists s att =
    record {
      answer = answers r left t u after hand d lists (next_data next) (can_dispatch r t u hand d lists s att) told;
      stands = same_represents (nexted r u).region left t (nexted r u).user after (hand_dispatched hand (dispatch_answer d) (nexted r u).answer) (hand_dispatched hand (dispatch_answer d) (next_data next)) (after_dispatch d) lists
          told.region told.user (ap (hand_dispatched hand (dispatch_answer d)) told.answer) (dispatched r t u hand d lists s att);
    }
dispatches r left u after (Err (fault.BadMailbox f)) told t hand d lists s att =
    no_mailbox t.rows d lists (dispatch_answer d) f (answers r left t u after hand d lists (BadMailbox f) (can_dispatch r t u hand d lists s att) told)
dispatches r left u after (Err (fault.BadEntry at f)) told t hand d lists s att =
    no_entry t.rows d lists (dispatch_answer d) at f (answers r left t u after hand d lists (BadEntry at f) (can_dispatch r t u hand d lists s att) told)
dispatches r left u after (Err fault.NoMemory) told t hand d lists s att =
    let all : next_within told.count told.mailbox u r u ≡ record { answer = Nothing; region = left; user = told.there } = told.passed told.count 0 u (omega arith) in
    let same = next_nothing r t u hand d lists told.mailbox u told.count (can_dispatch r t u hand d lists s att) told.read (ap (λ (x : Nexted). x.answer) all) in
    (sym (ap (λ (x : Nexted). x.region) all) ∙ same, told.user)

-- ==== respond

pub responds : (r left : RegionState) (u after : UserState) (job : JobState) (reply : ReplyData) (answer : Respond) → answer ≡ user_respond_answer u job.id → left ≡ (user_responded r u (record { job = job; reply = reply })).region →
    after ≡ (user_responded r u (record { job = job; reply = reply })).user → RespondsDevice r u job reply answer left after
responds r left u after job reply answer a e f t hand d lists s h found =
    let p = h.represents in
    let k = can_respond r.front u hand t.rows d lists s (record { serial = s; job = job; reply = Some reply }) reply h.sound h.owned p.ids p.jobs p.side found refl in
    let c = k.2 in
    let given : Parked = record { job = job; reply = reply } in
    record {
      answer = a ∙ answer_same u t.rows d lists s k.0 given k.1 c;
      stands = same_represents (user_responded r u given).region left t (user_responded r u given).user after (hand_responded hand s) (hand_responded hand s) (after_respond d s) lists (sym e) (sym f) refl
          (record {
            ring = ring_kept r u t.items t.rows d lists s k.0 given k.1 c p.ring p.ids;
            ids = ids_kept r u t.items t.rows d lists s k.0 given k.1 c p.ring p.ids;
            notes = notes_kept r u t.items t.rows d lists s k.0 given k.1 c p.ring p.ids p.notes;
            blocks = blocks_kept r u t.items t.rows d lists s k.0 given k.1 c p.ring p.ids p.pages p.blocks;
            jobs = jobs_kept r u hand t.rows d lists s k.0 given k.1 c p.ids p.jobs;
            target = target_kept u t t.rows d lists s k.0 given k.1 c p.target;
            side = side_kept r u t.rows d lists s k.0 given k.1 c p.side;
            pages = pages_kept r u t.rows d lists s k.0 given k.1 c p.pages;
          });
    }

-- ==== publish

pub publishes : (r left : RegionState) (u after : UserState) (answer : Publish) → answer ≡ user_publish_answer u → after ≡ user_published u → left ≡ region_published r u → PublishesDevice r u answer left after
publishes r left u after answer a f e t hand d lists s att =
    let p = s.represents in
    record {
      answer = a ∙ publish_same u d s.sound att p.side;
      stands = same_represents (region_published r u) left t (user_published u) after hand hand (after_publish d) lists (sym e) (sym f) refl
          (record {
            ring = ring_published r u t.items d lists s.sound att p.ring p.side;
            ids = ids_published r u t.items t.rows d lists s.sound att p.ring p.ids p.side;
            notes = notes_published r u t.items t.rows d lists s.sound att p.ring p.notes p.side;
            blocks = blocks_published r u d lists s.sound att p.blocks p.side;
            jobs = jobs_published u hand t.rows d lists s.sound att p.jobs p.side;
            target = target_published t u d lists s.sound att p.target p.side;
            side = side_published u d s.sound att p.side;
            pages = pages_published r u d p.pages;
          });
    }

-- ==== restart and reset

pub restarts : (r left : RegionState) (u after : UserState) → after ≡ user_abandoned u → left ≡ region_abandoned r u.jobs → RestartsDevice r u left after
unfolding region_restarted
restarts r left u after f e before t hand d lists s q =
    let p = s.represents in
    let z : region_restarted before hand u ≡ left = sym (e ∙ ap (λ x. region_abandoned x u.jobs) q) in
    same_represents (region_restarted before hand u) left t (user_abandoned u) after [] [] (after_restart d) lists z (sym f) refl
    (record {
      ring = ring_restarted before u hand t.items d lists s.sound p.ring;
      ids = ids_restarted before u hand t.rows d p.ids;
      notes = notes_restarted before u hand t.rows d p.notes;
      blocks = blocks_restarted before u hand t.items t.rows d lists s.sound s.owned p.ring p.pages p.blocks p.jobs;
      jobs = jobs_restarted u hand t.rows d lists p.jobs;
      target = target_restarted t d lists p.target;
      side = side_restarted u d p.side;
      pages = pages_restarted before u hand d p.pages;
    })

pub resets : (r left : RegionState) (u after : UserState) (made : Bool) → left ≡ region_reattached r u → (made ≡ true → user_attached r ≡ Ok after) → ((made ≡ true → ⊥) → (f : MailboxFault) × (user_attached r ≡ Err f)) → ResetsDevice r u made left after
resets r left u after made e ok err before t hand d lists level n s a q =
    let p = s.represents in
    let back : region_reset before ≡ left =
    sym (e ∙ (ap (λ x. region_reattached x u) q ∙ reattached_reset before t u hand t.rows d lists level n s.sound p.ring p.pages p.jobs a)) in
    let there : user_attached r ≡ Ok (opening_user d.settings) = ap user_attached q ∙ attached_reset before t d lists level n s.sound p.ring p.pages a in
    let done : made ≡ true = go made refl there in
    let user : opening_user d.settings ≡ after = same_user (opening_user d.settings) after (sym there ∙ ok done) in (
      done,
      same_represents (region_reset before) left (target_reset before t level) (opening_user d.settings) after [] [] (after_reset d level) [] back user refl
          (record {
            ring = ring_reset before t d lists level n s.sound p.ring a;
            ids = ids_reset before t d level n a;
            notes = notes_reset before t d level n a;
            blocks = blocks_reset before d level n a;
            jobs = jobs_reset before t d level n a;
            target = target_reset_keeps before t d lists level n (record { sound = s.sound; owned = s.owned; ring = p.ring; ids = p.ids; blocks = p.blocks; target = p.target; pages = p.pages }) a;
            side = side_reset d level n s.sound a;
            pages = pages_reset before d level n p.pages a;
          }),
    )
  where
    go : (b : Bool) → made ≡ b → user_attached r ≡ Ok (opening_user d.settings) → made ≡ true
    go true m there = m
    go false m there = let f = err (λ k. false≢true (sym m ∙ k)) in absurd (no_fault f.0 (opening_user d.settings) (sym f.1 ∙ there))
