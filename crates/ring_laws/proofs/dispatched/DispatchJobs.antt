-- A dispatch gives one more job, and keeps the offset of its entry.
use Rattle.std.proofs.Common.{◌≡◌, ℕ, ◌+◌, ◌%◌, ◌≤◌, Bool, true, false, cond, List, [], ◌∷◌, ◌++◌, length, take, drop, filter, refl, sym, ap, ◌∙◌, arith, suc, Some, None, append-nil, subst, ⊎_elim}
use Rattle.std.specs.List.{prefix_len}
use Rattle.std.proofs.lemmas.Bool.{cases_Bool}
use Rattle.std.proofs.lemmas.List.{drop-append-le}
use Rattle.std.proofs.lemmas.List.Elements.{filter-append}
use Rattle.std.proofs.lemmas.List.Sums.{sum_by-cons}
use Rattle.tcmu_types.specs.Data.{CommandData, SettingsData}
use Rattle.tcmu_types.specs.Rules.{takes_payload, payload_length}
use Rattle.tcmu_model.specs.declared.state.CommandState.TheVariants.{Waiting, Out}
use Rattle.tcmu_model.specs.RingState.{Item, Laid, commands_in, is_command, is_pad, lengths, next_place}
use Rattle.tcmu_model.specs.RingState as ring
use Rattle.tcmu_model.specs.Device.{Unfinished, DeviceState}
use Rattle.tcmu_model.specs.Events.{after_dispatch, dispatch_answer, in_state, is_in_hand, next_item, turned}
use Rattle.tcmu_model.specs.Sound.{IsSound}
use Rattle.tcmu_types.specs.Lists.{Every}
use Rattle.tcmu_model.specs.BlockLists.{Taken, list_of}
use Rattle.tcmu_model.specs.Lengths.{block_size}
use Rattle.region_model.specs.Areas.{bytes_along}
use Rattle.region_model.specs.Iovecs.{gathered}
use Rattle.region_model.specs.Picture.{place_of, command_iovs, payload_of, data_in}
use Rattle.region_model.specs.Regions.{RegionState, taken}
use Rattle.region_model.specs.Sides.{GivenJob, InHand, JobState, PendingRow, TargetState, UserState}
use Rattle.region_model.specs.Represents.{AreGiven, AreOut, IsGiven, IsJobOf, IsOut, JobsStand, command_places, entry_id_at, id_of, is_out}
use Rattle.region_model.specs.UserNext.{nexted}
use Rattle.tcmu_model.proofs.Facts.{placed_dispatched}
use Rattle.tcmu_types.proofs.ByteFields.{length-zeros}
use Rattle.ring_laws.specs.Dispatched.{CanDispatch, hand_dispatched}
use Rattle.ring_laws.proofs.cleaned.CleanedOne.{take-next}
use Rattle.ring_laws.proofs.dispatched.DispatchKept.{no_command}
use Rattle.ring_laws.proofs.dispatched.Lending.{gathered-taken, sizes-taken}
use Rattle.ring_laws.proofs.dispatched.NextCases.{by_next}
use Rattle.ring_laws.proofs.dispatched.Nexts.{Blocks, blocks_sent, sent_job}
use Rattle.ring_laws.proofs.dispatched.Sending.{Sends, sends, sent_is}
use Rattle.ring_laws.proofs.published.TailMoved.{take_more}
use Rattle.region_model.proofs.Areas.{length-taken}

-- ==== the job of the command

waiting_length : (u : Unfinished) → u.reply ≡ None → length (payload_of u) ≡ payload_length u.command
waiting_length u rep =
    ⊎_elim
    (λ (t : takes_payload u.command.cdb ≡ true). ap (λ y. length (cond y u.command.sent (data_in u.command.in_len u.state u.reply))) t ∙ sym (ap (λ y. cond y (length u.command.sent) u.command.in_len) t))
    (λ (t : takes_payload u.command.cdb ≡ false).
    ap (λ y. length (cond y u.command.sent (data_in u.command.in_len u.state u.reply))) t ∙ ap (λ y. length (data_in u.command.in_len u.state y)) rep
    ∙ length-zeros u.command.in_len ∙ sym (ap (λ y. cond y (length u.command.sent) u.command.in_len) t))
    (cases_Bool (takes_payload u.command.cdb))

-- a command that is sent out carries what it carried
payload_out : (u : Unfinished) → u.reply ≡ None → payload_of u ≡ payload_of (in_state Out u)
payload_out u rep =
    ap (λ o. cond (takes_payload u.command.cdb) u.command.sent (data_in u.command.in_len u.state o)) rep
    ∙ sym (ap (λ o. cond (takes_payload u.command.cdb) u.command.sent (data_in u.command.in_len Out o)) rep)

pub job_sent : (r : RegionState) (t : TargetState) (user : UserState) (hand : List InHand) (d : DeviceState) (lists : List Taken) (n s : ℕ) (c : CommandData) → CanDispatch r t user hand d lists →
    next_item d ≡ Some (record { len = n; laid = ring.Cmd s c }) → (k : Sends d s c) →
    IsJobOf d.settings t.rows lists (in_state Out k.command) (sent_job r (entry_id_at r.front (place_of d.ring (next_place d.ring))) (command_iovs d.settings (list_of lists s) c) (list_of lists s) c) (taken r.blocks (list_of lists s))
job_sent r t user hand d lists n s c h g k =
    let u : Unfinished = k.command in
    let b : Blocks r d lists s c u = blocks_sent r t user hand d lists n s c h g k in
    let size : ℕ = block_size d.settings.pages in
    let bs : List ℕ = list_of lists s in
    let own : list_of lists u.serial ≡ bs = ap (list_of lists) k.serial in
    let asks : u.command ≡ c = k.asks in
    let along : gathered (taken r.blocks bs) ≡ bytes_along size r.blocks bs = gathered-taken size r.blocks bs b.differ b.home.here in
    record {
      id = ap (id_of t.rows) k.serial ∙ h.ids.own (next_place d.ring) n s c (omega arith) g;
      cdb = ap (λ (z : CommandData). z.cdb) (sym asks);
      iovs = ap (λ z. command_iovs d.settings bs z) (sym asks) ∙ ap (λ z. command_iovs d.settings z u.command) (sym own);
      in_len = ap (λ (z : CommandData). z.in_len) (sym asks);
      carried = refl;
      count = length-taken r.blocks bs ∙ ap length (sym own);
      size = sizes-taken size r.blocks bs b.differ b.home.here;
      payload = ap (λ m. take m (gathered (taken r.blocks bs))) (sym (waiting_length u k.reply)) ∙ ap (take (length (payload_of u))) along ∙ b.home.begin_ ∙ payload_out u k.reply;
    }

-- ==== the jobs

given_push : (s : SettingsData) (rows : List PendingRow) (lists : List Taken) (gs : List GivenJob) (us : List Unfinished) (g : GivenJob) (u : Unfinished) → AreGiven s rows lists gs us → IsGiven s rows lists g u → AreGiven s rows lists (gs ++ g ∷ []) (us ++ u ∷ [])
given_push s rows lists [] [] g u h k = (k, tt)
given_push s rows lists [] (v ∷ us) g u h k = absurd h
given_push s rows lists (x ∷ gs) [] g u h k = absurd h
given_push s rows lists (x ∷ gs) (v ∷ us) g u h k = (h.0, given_push s rows lists gs us g u h.1 k)

out_push : (s : SettingsData) (rows : List PendingRow) (lists : List Taken) (hs : List InHand) (us : List Unfinished) (x : InHand) (u : Unfinished) → AreOut s rows lists hs us → IsOut s rows lists x u → AreOut s rows lists (hs ++ x ∷ []) (us ++ u ∷ [])
out_push s rows lists [] [] x u h k = (k, tt)
out_push s rows lists [] (v ∷ us) x u h k = absurd h
out_push s rows lists (y ∷ hs) [] x u h k = absurd h
out_push s rows lists (y ∷ hs) (v ∷ us) x u h k = (h.0, out_push s rows lists hs us x u h.1 k)

-- none that waits passes
none_waiting : (p : Unfinished → Bool) (us : List Unfinished) → ((u : Unfinished) → u.state ≡ Waiting → p u ≡ false) → Every (λ u. u.state ≡ Waiting) us → filter p us ≡ []
none_waiting p [] f e = refl
none_waiting p (u ∷ us) f e = let q : p u ≡ false = f u e.0 in rw q (none_waiting p us f e.1)

-- the command that is sent out is the last of those that pass
last_sent : (p : Unfinished → Bool) (d : DeviceState) (s : ℕ) (c : CommandData) (k : Sends d s c) → ((u : Unfinished) → u.state ≡ Waiting → p u ≡ false) → p (in_state Out k.command) ≡ true →
    filter p (turned s Waiting Out d.unfinished) ≡ filter p d.unfinished ++ in_state Out k.command ∷ []
last_sent p d s c k f q =
    let u : Unfinished = k.command in
    let back : filter p k.back ≡ [] = none_waiting p k.back f k.behind in
    let new : filter p (in_state Out u ∷ k.back) ≡ in_state Out u ∷ [] = (let z : in_state Out u ∷ filter p k.back ≡ in_state Out u ∷ [] = ap (λ xs. in_state Out u ∷ xs) back in rw q z) in
    let no : p u ≡ false = f u k.state in
    let old : filter p (u ∷ k.back) ≡ [] = rw no back in
    let whole : filter p d.unfinished ≡ filter p k.front = ap (filter p) k.is ∙ filter-append p k.front (u ∷ k.back) ∙ ap (λ xs. filter p k.front ++ xs) old ∙ append-nil (filter p k.front) in
    ap (filter p) (sent_is d s c k) ∙ filter-append p k.front (in_state Out u ∷ k.back) ∙ ap (λ xs. filter p k.front ++ xs) new ∙ ap (λ xs. xs ++ in_state Out u ∷ []) (sym whole)

-- ==== the offsets

places-append : (size at : ℕ) (xs ys : List Item) → command_places size at (xs ++ ys) ≡ command_places size at xs ++ command_places size (at + lengths xs) ys
places-append size at [] ys = let l : ◌≡◌ {A = ℕ} (lengths []) 0 = refl in let z : at ≡ at + lengths [] = omega arith in ap (λ m. command_places size m ys) z
places-append size at (x ∷ xs) ys =
    let s : lengths (x ∷ xs) ≡ x.len + lengths xs = sum_by-cons (λ (y : Item). y.len) x xs in
    let z : at + x.len + lengths xs ≡ at + lengths (x ∷ xs) = omega (arith, s) in
    let rest : command_places size (at + x.len) (xs ++ ys) ≡ command_places size (at + x.len) xs ++ command_places size (at + lengths (x ∷ xs)) ys = places-append size (at + x.len) xs ys ∙ ap (λ m. command_places size (at + x.len) xs ++ command_places size m ys) z in
    ⊎_elim
    (λ (e : is_command x ≡ true). rw e (ap (λ ps. (at % size) ∷ ps) rest))
    (λ (e : is_command x ≡ false). rw e rest)
    (cases_Bool (is_command x))

length-places : (size at : ℕ) (xs : List Item) → length (command_places size at xs) ≡ commands_in xs
length-places size at [] = refl
length-places size at (x ∷ xs) =
    let s : commands_in (x ∷ xs) ≡ cond (is_command x) 1 0 + commands_in xs = sum_by-cons (λ (y : Item). cond {A = ℕ} (is_command y) 1 0) x xs in
    let k : length (command_places size (at + x.len) xs) ≡ commands_in xs = length-places size (at + x.len) xs in
    ⊎_elim
    (λ (e : is_command x ≡ true). let z : ◌≡◌ {A = ℕ} (cond (is_command x) 1 0) 1 = ap (λ b. cond {A = ℕ} b 1 0) e in let q : suc (length (command_places size (at + x.len) xs)) ≡ commands_in (x ∷ xs) = omega (arith, s, z, k) in places_of x xs e q)
    (λ (e : is_command x ≡ false). let z : ◌≡◌ {A = ℕ} (cond (is_command x) 1 0) 0 = ap (λ b. cond {A = ℕ} b 1 0) e in let q : length (command_places size (at + x.len) xs) ≡ commands_in (x ∷ xs) = omega (arith, s, z, k) in places_other x xs e q)
    (cases_Bool (is_command x))
  where
    places_of : (x : Item) (xs : List Item) → is_command x ≡ true → suc (length (command_places size (at + x.len) xs)) ≡ commands_in (x ∷ xs) → length (command_places size at (x ∷ xs)) ≡ commands_in (x ∷ xs)
    places_of x xs e q = ap (λ b. length (cond b ((at % size) ∷ command_places size (at + x.len) xs) (command_places size (at + x.len) xs))) e ∙ q

    places_other : (x : Item) (xs : List Item) → is_command x ≡ false → length (command_places size (at + x.len) xs) ≡ commands_in (x ∷ xs) → length (command_places size at (x ∷ xs)) ≡ commands_in (x ∷ xs)
    places_other x xs e q = ap (λ b. length (cond b ((at % size) ∷ command_places size (at + x.len) xs) (command_places size (at + x.len) xs))) e ∙ q

-- padding has none
no_places : (size at : ℕ) (xs : List Item) → command_places size at (take (prefix_len is_pad xs) xs) ≡ []
no_places size at [] = refl
no_places size at (x ∷ xs) =
    ⊎_elim
    (λ (p : is_pad x ≡ true).
    let k : 1 + prefix_len is_pad xs ≡ suc (prefix_len is_pad xs) = omega arith in
    let c : is_command x ≡ false = no_command x.len x.laid p in
    let q : command_places size at (x ∷ take (prefix_len is_pad xs) xs) ≡ [] = rw c (no_places size (at + x.len) xs) in
    rw p (ap (λ m. command_places size at (take m (x ∷ xs))) k ∙ q))
    (λ (p : is_pad x ≡ false). rw p refl)
    (cases_Bool (is_pad x))

places_behind : (d : DeviceState) (x : Item) → next_item d ≡ Some x →
    command_places d.ring.size 0 (take (next_place d.ring + 1) d.ring.laid) ≡ command_places d.ring.size 0 (take d.ring.dispatched d.ring.laid) ++ command_places d.ring.size (lengths (take (next_place d.ring) d.ring.laid)) (x ∷ [])
places_behind d x g =
    let size : ℕ = d.ring.size in
    let i : ℕ = next_place d.ring in
    let xs : List Item = drop d.ring.dispatched d.ring.laid in
    let front : List Item = take d.ring.dispatched d.ring.laid in
    let k : i + 1 ≡ suc i = omega arith in
    let z : 0 + lengths (take i d.ring.laid) ≡ lengths (take i d.ring.laid) = omega arith in
    let first : command_places size 0 (take i d.ring.laid) ≡ command_places size 0 front =
    ap (command_places size 0) (take_more d.ring.dispatched (prefix_len is_pad xs) d.ring.laid) ∙ places-append size 0 front (take (prefix_len is_pad xs) xs)
    ∙ ap (λ ys. command_places size 0 front ++ ys) (no_places size (0 + lengths front) xs) ∙ append-nil (command_places size 0 front) in
    ap (λ m. command_places size 0 (take m d.ring.laid)) k
    ∙ ap (command_places size 0) (take-next d.ring.laid i x g)
    ∙ places-append size 0 (take i d.ring.laid) (x ∷ [])
    ∙ ap (λ m. command_places size 0 (take i d.ring.laid) ++ command_places size m (x ∷ [])) z
    ∙ ap (λ ys. ys ++ command_places size (lengths (take i d.ring.laid)) (x ∷ [])) first

offsets_behind : (d : DeviceState) (x : Item) → IsSound d → next_item d ≡ Some x →
    drop (length d.placed) (command_places d.ring.size 0 (take (next_place d.ring + 1) d.ring.laid))
    ≡ drop (length d.placed) (command_places d.ring.size 0 (take d.ring.dispatched d.ring.laid)) ++ command_places d.ring.size (lengths (take (next_place d.ring) d.ring.laid)) (x ∷ [])
offsets_behind d x sound g =
    let ps : List ℕ = command_places d.ring.size 0 (take d.ring.dispatched d.ring.laid) in
    let a : length d.placed ≤ commands_in (take d.ring.dispatched d.ring.laid) = placed_dispatched d sound in
    let b : length ps ≡ commands_in (take d.ring.dispatched d.ring.laid) = length-places d.ring.size 0 (take d.ring.dispatched d.ring.laid) in
    ap (drop (length d.placed)) (places_behind d x g) ∙ drop-append-le (length d.placed) ps (command_places d.ring.size (lengths (take (next_place d.ring) d.ring.laid)) (x ∷ [])) (omega arith)

-- ==== the law

pub jobs_dispatched : (r : RegionState) (t : TargetState) (user : UserState) (hand : List InHand) (d : DeviceState) (lists : List Taken) → CanDispatch r t user hand d lists →
    JobsStand (nexted r user).user (hand_dispatched hand (dispatch_answer d) (nexted r user).answer) t.rows (after_dispatch d) lists
jobs_dispatched r t user hand d lists h =
    by_next (λ z a e. JobsStand z.user (hand_dispatched hand a z.answer) t.rows e lists) r t user hand d lists h
    (record {
      none = λ e. h.jobs;
      job = λ n s c g.
          let k : Sends d s c = sends d n s c h.sound g in
          let x : Item = record { len = n; laid = ring.Cmd s c } in
          let id : ℕ = entry_id_at r.front (place_of d.ring (next_place d.ring)) in
          let job : JobState = sent_job r id (command_iovs d.settings (list_of lists s) c) (list_of lists s) c in
          let is_job = job_sent r t user hand d lists n s c h g k in
          record {
            given = subst (AreGiven d.settings t.rows lists (user.jobs ++ record { id = id; parked = None } ∷ [])) (sym (last_sent is_in_hand d s c k (λ u w. rw w refl) refl))
                (given_push d.settings t.rows lists user.jobs (filter is_in_hand d.unfinished) (record { id = id; parked = None }) (in_state Out k.command) h.jobs.given (is_job.id, refl));
            out = subst (AreOut d.settings t.rows lists (hand ++ record { serial = s; job = job; reply = None } ∷ [])) (sym (last_sent is_out d s c k (λ u w. rw w refl) refl))
                (out_push d.settings t.rows lists hand (filter is_out d.unfinished) (record { serial = s; job = job; reply = None }) (in_state Out k.command) h.jobs.out (sym k.serial, sym k.reply, (taken r.blocks (list_of lists s), is_job)));
            offsets = ap (λ ps. ps ++ place_of d.ring (next_place d.ring) ∷ []) h.jobs.offsets ∙ sym (offsets_behind d x h.sound g);
          };
      note = λ n kind m ss g b. record {
        given = h.jobs.given;
        out = h.jobs.out;
        offsets = h.jobs.offsets ∙ sym (append-nil (drop (length d.placed) (command_places d.ring.size 0 (take d.ring.dispatched d.ring.laid)))) ∙ sym (offsets_behind d (record { len = n; laid = ring.Tmr kind ss }) h.sound g);
      };
    })
