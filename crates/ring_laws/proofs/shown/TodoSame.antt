-- What both sides show of what is to be done is what the device finds to do.
use Rattle.std.proofs.Common.{◌≡◌, ◌≢◌, ℕ, ◌+◌, ◌-◌, ◌%◌, ◌<◌, ◌≤◌, ◌&&◌, Bool, true, false, not, cond, eqb, List, [], ◌∷◌, length, take, filter, get_or, slice_get, Option, Some, refl, sym, ap, ◌∙◌, arith, ⊎_elim}
use Rattle.std.specs.Prelude.{nat_le, nat_lt}
use Rattle.std.specs.Option.{is_some, option_map}
use Rattle.std.proofs.lemmas.Bool.{cases_Bool, cases_lt, eq-eqb, ne_eqb}
use Rattle.std.proofs.lemmas.Bool.Decides.{nat_tests}
use Rattle.std.proofs.lemmas.List.{take_all, take-take}
use Rattle.std.proofs.lemmas.Option.{slice_get-get_or}
use Rattle.tcmu_types.specs.Data.{SettingsData}
use Rattle.tcmu_types.specs.declared.stat.Todo.{Todo}
use Rattle.tcmu_types.specs.Lists.{first_of}
use Rattle.tcmu_types.proofs.Places.{get_take}
use Rattle.tcmu_model.specs.declared.state.CommandState.{CommandState}
use Rattle.tcmu_model.specs.declared.state.CommandState.TheVariants.{Handled, Out}
use Rattle.tcmu_model.specs.BlockLists.{Taken}
use Rattle.tcmu_model.specs.Device.{Delayed, DeviceState, Unfinished, has_state}
use Rattle.tcmu_model.specs.Drain.{nothing_to_do, todo_of}
use Rattle.tcmu_model.specs.Drain as drain
use Rattle.tcmu_model.specs.Events.{fits_ring, publishable}
use Rattle.tcmu_model.specs.Owned.{ListsSound}
use Rattle.tcmu_model.specs.RingState.{Item, Pad, head, lengths, used}
use Rattle.tcmu_model.specs.Sound.{IsSound}
use Rattle.tcmu_model.proofs.Draining.{todo_attached}
use Rattle.region_model.specs.Picture.{place_of}
use Rattle.region_model.specs.Represents.{AreOut, JobsStand, RingStands, TargetKeeps, UserKeeps, is_out}
use Rattle.region_model.specs.Sides.{InHand, PendingRow, TargetState, UserState}
use Rattle.region_model.specs.TargetSteps.{blocks_free, blocks_wanted, can_enter, head_in}
use Rattle.region_model.specs.UserSteps.{moving}
use Rattle.ring_laws.specs.Placed.{HoldsItems}
use Rattle.ring_laws.specs.SidesShow.{first_serial, todo_on}
use Rattle.ring_laws.proofs.Agree.{Agrees, agrees}
use Rattle.ring_laws.proofs.jobs_in_hand.HandTells.{Tells, handled_tells, out_tells}
use Rattle.ring_laws.proofs.PassedItems.{Within, apart_from_head, item_within}
use Rattle.ring_laws.proofs.Places.{ends_within, lengths_more, used_is}
use Rattle.ring_laws.proofs.SoundRing.{holds}
use Rattle.ring_laws.proofs.published.TailMoved.{Moves, moves}
use Rattle.ring_laws.proofs.answers.TargetAnswers.{Rooms, rooms}

-- ==== the jobs

-- the first job that is owed this is of the first command in this state
first_same : (st : SettingsData) (rows : List PendingRow) (lists : List Taken) (t : CommandState) (f : Bool → Bool) (hs : List InHand) (us : List Unfinished) → Tells t f us → AreOut st rows lists hs (filter is_out us) →
    option_map (λ (h : InHand). h.serial) (first_of (λ (h : InHand). f (is_some h.reply)) hs) ≡ option_map (λ (u : Unfinished). u.serial) (first_of (has_state t) us)
first_same st rows lists t f [] [] e h = refl
first_same st rows lists t f (x ∷ hs) [] e h = absurd h
first_same st rows lists t f [] (u ∷ us) e h =
    ⊎_elim
    (λ (o : is_out u ≡ true). let h' : AreOut st rows lists [] (u ∷ filter is_out us) = rw o at h in absurd h')
    (λ (o : is_out u ≡ false).
    let h' : AreOut st rows lists [] (filter is_out us) = rw o at h in
    let n : has_state t u ≡ false = e.0 ∙ ap (λ b. b && f (is_some u.reply)) o in
    rw n (first_same st rows lists t f [] us e.1 h'))
    (cases_Bool (is_out u))
first_same st rows lists t f (x ∷ hs) (u ∷ us) e h =
    ⊎_elim
    (λ (o : is_out u ≡ true).
    let h' : AreOut st rows lists (x ∷ hs) (u ∷ filter is_out us) = rw o at h in
    let same : f (is_some x.reply) ≡ has_state t u = ap (λ r. f (is_some r)) h'.0.1 ∙ sym (e.0 ∙ ap (λ b. b && f (is_some u.reply)) o) in
    ⊎_elim
    (λ (k : has_state t u ≡ true). let k' : f (is_some x.reply) ≡ true = same ∙ k in rw (k, k') (ap (λ (n : ℕ). Some n) h'.0.0))
    (λ (k : has_state t u ≡ false). let k' : f (is_some x.reply) ≡ false = same ∙ k in rw (k, k') (first_same st rows lists t f hs us e.1 h'.1))
    (cases_Bool (has_state t u)))
    (λ (o : is_out u ≡ false).
    let h' : AreOut st rows lists (x ∷ hs) (filter is_out us) = rw o at h in
    let n : has_state t u ≡ false = e.0 ∙ ap (λ b. b && f (is_some u.reply)) o in
    rw n (first_same st rows lists t f (x ∷ hs) us e.1 h'))
    (cases_Bool (is_out u))

-- ==== the tail and the head

some_moves : (m p q : ℕ) → m ≡ q - p → not (eqb m 0) ≡ nat_lt p q
some_moves m p q h = grind (arith, nat_tests)

below_told : (a b : ℕ) → a < b → true ≡ nat_lt a b
below_told a b h = grind (arith, nat_tests)

not_below : (a b : ℕ) → b ≤ a → false ≡ nat_lt a b
not_below a b h = grind (arith, nat_tests)

-- of two places in the list of items the second stands elsewhere in the ring
places_differ : (d : DeviceState) (j : ℕ) → IsSound d → d.ring.cleared < j → j ≤ length d.ring.laid → place_of d.ring d.ring.cleared ≢ place_of d.ring j
places_differ d j sound h l =
    let r = d.ring in
    let i : ℕ = r.cleared in
    let x : Item = get_or r.laid i (record { len = 0; laid = Pad }) in
    let hold : HoldsItems r = holds d sound in
    let g : slice_get r.laid i ≡ Some x = slice_get-get_or r.laid i (record { len = 0; laid = Pad }) (omega arith) in
    let low : 8 ≤ x.len = hold.some i x g in
    let g' : slice_get (take j r.laid) i ≡ Some x = get_take j r.laid i h ∙ g in
    let ends : lengths (take i (take j r.laid)) + x.len ≤ lengths (take j r.laid) = ends_within (take j r.laid) i x g' in
    let same : lengths (take i (take j r.laid)) ≡ lengths (take i r.laid) = ap lengths (take-take i j r.laid (omega arith)) in
    let more : lengths (take j r.laid) ≤ lengths (take (length r.laid) r.laid) = lengths_more r.laid j (length r.laid) l in
    let whole : lengths (take (length r.laid) r.laid) ≡ lengths r.laid = ap lengths (take_all (length r.laid) r.laid (omega arith)) in
    let us : used r < r.size = hold.room in
    let ui : lengths (take i r.laid) + used r ≡ lengths r.laid = used_is r in
    let big : 4096 ≤ r.size = hold.size in
    apart_from_head r.size (lengths (take i r.laid)) x.len (lengths (take j r.laid)) (omega arith) (omega arith) (omega arith) (omega arith)

clean_same : (t : TargetState) (user : UserState) (d : DeviceState) (lists : List Taken) → IsSound d → TargetKeeps t d lists → UserKeeps user d → not (eqb user.tail t.cleaned) ≡ nat_lt d.ring.cleared d.ring.published
clean_same t user d lists sound keeps side =
    let c1 : d.ring.cleared ≤ d.ring.published = sound.ring.cleared in
    let c2 : d.ring.published ≤ d.ring.dispatched = sound.ring.published in
    let c3 : d.ring.dispatched ≤ length d.ring.laid = sound.ring.dispatched in
    let places : eqb user.tail t.cleaned ≡ eqb (place_of d.ring d.ring.published) (place_of d.ring d.ring.cleared) = ap (λ n. eqb n t.cleaned) side.tail ∙ ap (eqb (place_of d.ring d.ring.published)) keeps.cleaned in
    ap not places
    ∙ ⊎_elim
    (λ (l : d.ring.cleared < d.ring.published).
    let ne : eqb (place_of d.ring d.ring.published) (place_of d.ring d.ring.cleared) ≡ false = ne_eqb _ _ (λ q. places_differ d d.ring.published sound l (omega arith) (sym q)) in
    ap not ne ∙ below_told d.ring.cleared d.ring.published l)
    (λ (l : d.ring.published ≤ d.ring.cleared).
    let q : d.ring.published ≡ d.ring.cleared = omega arith in
    let eq : eqb (place_of d.ring d.ring.published) (place_of d.ring d.ring.cleared) ≡ true = eq-eqb _ _ (ap (place_of d.ring) q) in
    ap not eq ∙ not_below d.ring.cleared d.ring.published l)
    (cases_lt d.ring.cleared d.ring.published)

dispatch_same : (front : List ℕ) (t : TargetState) (user : UserState) (d : DeviceState) (lists : List Taken) → IsSound d → d.attached ≡ true → RingStands front t.items d lists → TargetKeeps t d lists → UserKeeps user d →
    not (eqb user.place (head_in t)) ≡ nat_lt d.ring.dispatched (length d.ring.laid)
dispatch_same front t user d lists sound att ring keeps side =
    let g : Agrees t d = agrees front t d lists ring keeps sound.ring.size in
    let c1 : d.ring.cleared ≤ d.ring.published = sound.ring.cleared in
    let c2 : d.ring.published ≤ d.ring.dispatched = sound.ring.published in
    let places : eqb user.place (head_in t) ≡ eqb (place_of d.ring d.ring.dispatched) (head d.ring) = ap (λ n. eqb n (head_in t)) (side.place att) ∙ ap (eqb (place_of d.ring d.ring.dispatched)) g.head in
    ap not places
    ∙ ⊎_elim
    (λ (l : d.ring.dispatched < length d.ring.laid).
    let none : Item = record { len = 0; laid = Pad } in
    let w : Within d d.ring.dispatched (get_or d.ring.laid d.ring.dispatched none) = item_within d d.ring.dispatched (get_or d.ring.laid d.ring.dispatched none) sound (omega arith) (slice_get-get_or d.ring.laid d.ring.dispatched none l) in
    ap not (ne_eqb (place_of d.ring d.ring.dispatched) (head d.ring) w.away) ∙ below_told d.ring.dispatched (length d.ring.laid) l)
    (λ (l : length d.ring.laid ≤ d.ring.dispatched).
    let at : place_of d.ring d.ring.dispatched ≡ head d.ring = ap (λ (xs : List Item). lengths xs % d.ring.size) (take_all d.ring.dispatched d.ring.laid l) in
    ap not (eq-eqb (place_of d.ring d.ring.dispatched) (head d.ring) at) ∙ not_below d.ring.dispatched (length d.ring.laid) l)
    (cases_lt d.ring.dispatched (length d.ring.laid))

-- ==== room for the first that waits

enter_list : (t : TargetState) (d : DeviceState) (ws : List Delayed) → Rooms t d → can_enter t ws ≡ drain.can_enter d ws
enter_list t d [] r = refl
enter_list t d (w ∷ ws) r =
    ap (λ b. b && nat_le (blocks_wanted t w.command) (blocks_free t)) (r.fits w.command) ∙ ap (λ b. fits_ring d w.command && b) (r.enough w.command)

-- ==== all of it

todo_detached : (d : DeviceState) → d.attached ≡ false → todo_of d ≡ nothing_to_do
unfolding todo_of
todo_detached d a = rw a refl

pub todo_same : (front : List ℕ) (t : TargetState) (user : UserState) (hand : List InHand) (d : DeviceState) (lists : List Taken) →
    IsSound d → ListsSound d lists → RingStands front t.items d lists → JobsStand user hand t.rows d lists → TargetKeeps t d lists → UserKeeps user d → todo_on d.attached t user hand ≡ todo_of d
unfolding todo_on
todo_same front t user hand d lists sound owned ring jobs keeps side =
    ⊎_elim
    (λ (att : d.attached ≡ true).
    let m : Moves user d = moves user d sound att side in
    let handle = first_same d.settings t.rows lists Out not hand d.unfinished (out_tells d sound) jobs.out in
    let respond = first_same d.settings t.rows lists Handled (λ b. b) hand d.unfinished (handled_tells d sound) jobs.out in
    let publish : not (eqb (moving user) 0) ≡ nat_lt d.ring.published (publishable d) = some_moves (moving user) d.ring.published (publishable d) (m.side ∙ omega (arith, m.device)) in
    let clean = clean_same t user d lists sound keeps side in
    let enter : can_enter t t.delayed ≡ drain.can_enter d d.delayed = ap (can_enter t) keeps.delayed ∙ enter_list t d d.delayed (rooms front t d lists sound owned ring keeps) in
    let dispatch = dispatch_same front t user d lists sound att ring keeps side in
    ap (λ b. cond b (shown (first_serial (λ h. not (is_some h.reply)) hand) (first_serial (λ h. is_some h.reply) hand) (not (eqb (moving user) 0)) (not (eqb user.tail t.cleaned)) (can_enter t t.delayed) (not (eqb user.place (head_in t)))) nothing_to_do) att
    ∙ ap (λ x. shown x (first_serial (λ h. is_some h.reply) hand) (not (eqb (moving user) 0)) (not (eqb user.tail t.cleaned)) (can_enter t t.delayed) (not (eqb user.place (head_in t)))) handle
    ∙ ap (λ x. shown (drain.least_serial (has_state Out) d) x (not (eqb (moving user) 0)) (not (eqb user.tail t.cleaned)) (can_enter t t.delayed) (not (eqb user.place (head_in t)))) respond
    ∙ ap (λ x. shown (drain.least_serial (has_state Out) d) (drain.least_serial (has_state Handled) d) x (not (eqb user.tail t.cleaned)) (can_enter t t.delayed) (not (eqb user.place (head_in t)))) publish
    ∙ ap (λ x. shown (drain.least_serial (has_state Out) d) (drain.least_serial (has_state Handled) d) (nat_lt d.ring.published (publishable d)) x (can_enter t t.delayed) (not (eqb user.place (head_in t)))) clean
    ∙ ap (λ x. shown (drain.least_serial (has_state Out) d) (drain.least_serial (has_state Handled) d) (nat_lt d.ring.published (publishable d)) (nat_lt d.ring.cleared d.ring.published) x (not (eqb user.place (head_in t)))) enter
    ∙ ap (λ x. shown (drain.least_serial (has_state Out) d) (drain.least_serial (has_state Handled) d) (nat_lt d.ring.published (publishable d)) (nat_lt d.ring.cleared d.ring.published) (drain.can_enter d d.delayed) x) dispatch
    ∙ sym (todo_attached d att))
    (λ (att : d.attached ≡ false).
    ap (λ b. cond b (shown (first_serial (λ h. not (is_some h.reply)) hand) (first_serial (λ h. is_some h.reply) hand) (not (eqb (moving user) 0)) (not (eqb user.tail t.cleaned)) (can_enter t t.delayed) (not (eqb user.place (head_in t)))) nothing_to_do) att
    ∙ sym (todo_detached d att))
    (cases_Bool d.attached)
  where
    shown : Option ℕ → Option ℕ → Bool → Bool → Bool → Bool → Todo
    shown h r p c n x = record { handle = h; respond = r; publish = p; clean = c; enter = n; dispatch = x }
