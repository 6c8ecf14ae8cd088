-- An answer is placed: the blocks and their data.
use Rattle.std.proofs.Common.{◌≡◌, ℕ, ◌+◌, ◌-◌, ◌*◌, ◌/◌, ◌≤◌, ◌||◌, Bool, true, false, cond, List, [], ◌∷◌, ◌++◌, length, take, drop, filter, refl, sym, ap, ◌∙◌, arith, Option, Some, None, slice_get, length-append, subst, ⊎_elim, eqb}
use Rattle.std.proofs.lemmas.Bool.{cases_Bool, eqb-true, false≢true, or_left, or_right, and_parts}
use Rattle.std.specs.Prelude.{IfSome, IsTrue}
use Rattle.std.proofs.lemmas.List.{drop-take, drop-replicate, nil_from_length}
use Rattle.tcmu_types.specs.Data.{CommandData, ReplyData}
use Rattle.tcmu_types.specs.Rules.{takes_payload, payload_length, IsCommand}
use Rattle.tcmu_types.specs.declared.iovec.Iov.{Iov}
use Rattle.tcmu_model.specs.declared.state.CommandState.TheVariants.{Out, Handled, Parked, Placed}
use Rattle.tcmu_types.specs.Lists.{first_of, Every}
use Rattle.tcmu_model.specs.Lengths.{blocks_of, block_size}
use Rattle.tcmu_model.specs.Device.{Unfinished, DeviceState, is_at, has_state}
use Rattle.tcmu_model.specs.Events.{turned, in_state, is_in_hand}
use Rattle.tcmu_types.specs.Numbers.{is_among, Differ}
use Rattle.tcmu_model.specs.Sound.{IsSound, IsLaid, ReplyFits}
use Rattle.tcmu_model.specs.BlockLists.{Taken, list_of, held_by}
use Rattle.region_model.specs.Iovecs.{iovs_along, scattered, gathered}
use Rattle.region_model.specs.Layout.{data_start}
use Rattle.tcmu_types.specs.Overwriting.{zeros}
use Rattle.region_model.specs.Regions.{HaveSize, numbers_of, returned, RegionState, size_of}
use Rattle.tcmu_model.proofs.CommandStates.{state_at}
use Rattle.tcmu_types.proofs.Everies.{every-first, every-weaker, every-with_first}
use Rattle.tcmu_types.proofs.ByteFields.{length-zeros}
use Rattle.region_model.specs.Areas.{bytes_along, IsHome, IsLent}
use Rattle.region_model.specs.Picture.{payload_of, data_in}
use Rattle.region_model.specs.Sides.{PendingRow, GivenJob, UserState, Carried}
use Rattle.region_model.specs.Sides as sides
use Rattle.region_model.specs.Represents.{RingStands, HaveData, BlocksOf, BlocksStand, IsJobOf}
use Rattle.region_model.specs.UserSteps.{placed_at, with_payload}
use Rattle.ring_laws.specs.Placed.{CanAnswer, CanPlace, CanFill, placed_in, answer_placed}
use Rattle.tcmu_model.specs.Owned.{ListsSound}
use Rattle.ring_laws.proofs.Layouts.{take-past}
use Rattle.ring_laws.proofs.laid.LaidBlocks.{stand-other}
use Rattle.tcmu_types.proofs.Firsts.{first-passes}
use Rattle.ring_laws.proofs.placed.AnswerData.{returned-other, returned-data, scattered-payload, length-scattered, sizes-scattered, length-gathered, iovs-numbers}
use Rattle.ring_laws.proofs.placed.PlacedAnswers.{Into, goes_into}
use Rattle.tcmu_types.proofs.Rises.{among-append, among_every, every-among, differ_front}
use Rattle.tcmu_model.proofs.DrainEnds.{laid_command}
use Rattle.tcmu_types.proofs.Rises.{differ-right}

-- ==== what is apart

-- of lists that differ as one, no number of the second stands in the first
pub differ-split : (xs ys : List ℕ) (b : ℕ) → Differ (xs ++ ys) → is_among ys b ≡ true → is_among xs b ≡ false
differ-split [] ys b d h = refl
differ-split (x ∷ xs) ys b d h =
    ⊎_elim
    (λ (e : eqb x b ≡ true).
    let q : x ≡ b = eqb-true x b e in
    let m : is_among (xs ++ ys) b ≡ true = among-append xs ys b ∙ or_right (is_among xs b) (is_among ys b) h in
    absurd (false≢true (sym d.0 ∙ ap (is_among (xs ++ ys)) q ∙ m)))
    (λ (e : eqb x b ≡ false). rw e (differ-split xs ys b d.1 h))
    (cases_Bool (eqb x b))

-- a command's blocks are held
pub found-held : (lists : List Taken) (p : Unfinished → Bool) (us : List Unfinished) (u : Unfinished) (b : ℕ) → first_of p us ≡ Some u → is_among (list_of lists u.serial) b ≡ true → is_among (held_by lists us) b ≡ true
found-held lists p [] u b f h = absurd (cc)
found-held lists p (v ∷ us) u b f h =
    ⊎_elim
    (λ (e : p v ≡ true). let g : Some v ≡ Some u = rw e at f in let q : v ≡ u = cc in
    among-append (list_of lists v.serial) (held_by lists us) b ∙ or_left (is_among (list_of lists v.serial) b) (is_among (held_by lists us) b) (ap (λ (z : Unfinished). is_among (list_of lists z.serial) b) q ∙ h))
    (λ (e : p v ≡ false). let g : first_of p us ≡ Some u = rw e at f in
    among-append (list_of lists v.serial) (held_by lists us) b ∙ or_right (is_among (list_of lists v.serial) b) (is_among (held_by lists us) b) (found-held lists p us u b g h))
    (cases_Bool (p v))

-- ==== every command's blocks

-- blocks outside a list stay
abbrev pub Leaves : List ℕ → List (Option (List ℕ)) → List (Option (List ℕ)) → Type 0
Leaves bs area area' = (b : ℕ) → is_among bs b ≡ false → slice_get area' b ≡ slice_get area b

stand-apart : (size : ℕ) (area area' : List (Option (List ℕ))) (lists : List Taken) (bs : List ℕ) (u : Unfinished) → Leaves bs area area' → ((b : ℕ) → is_among (list_of lists u.serial) b ≡ true → is_among bs b ≡ false) →
    BlocksOf size area lists u → BlocksOf size area' lists u
stand-apart size area area' lists bs u leaves apart st =
    stand-other size area area' lists lists u refl
    (every-weaker (λ b. is_among (list_of lists u.serial) b ≡ true) (λ b. (o : Option (List ℕ)) → slice_get area b ≡ Some o → slice_get area' b ≡ Some o) (list_of lists u.serial) (λ b h o g. leaves b (apart b h) ∙ g) (every-among (list_of lists u.serial))) st

pub rest-apart : (size : ℕ) (area area' : List (Option (List ℕ))) (lists : List Taken) (bs : List ℕ) (us : List Unfinished) → Leaves bs area area' → ((b : ℕ) → is_among (held_by lists us) b ≡ true → is_among bs b ≡ false) →
    Every (BlocksOf size area lists) us → Every (BlocksOf size area' lists) us
rest-apart size area area' lists bs [] leaves apart e = tt
rest-apart size area area' lists bs (u ∷ us) leaves apart e = (
  stand-apart size area area' lists bs u leaves (λ b h. apart b (among-append (list_of lists u.serial) (held_by lists us) b ∙ or_left (is_among (list_of lists u.serial) b) (is_among (held_by lists us) b) h)) e.0,
  rest-apart size area area' lists bs us leaves (λ b h. apart b (among-append (list_of lists u.serial) (held_by lists us) b ∙ or_right (is_among (list_of lists u.serial) b) (is_among (held_by lists us) b) h)) e.1,
)

turned-stand : (size : ℕ) (area area' : List (Option (List ℕ))) (lists : List Taken) (s : ℕ) (us : List Unfinished) (u : Unfinished) → Leaves (list_of lists u.serial) area area' → Differ (held_by lists us) → first_of (is_at s Parked) us ≡ Some u →
    BlocksOf size area' lists (in_state Placed u) → Every (BlocksOf size area lists) us → Every (BlocksOf size area' lists) (turned s Parked Placed us)
turned-stand size area area' lists s [] u leaves d f new e = tt
turned-stand size area area' lists s (v ∷ us) u leaves d f new e =
    ⊎_elim
    (λ (k : is_at s Parked v ≡ true).
    let g : Some v ≡ Some u = rw k at f in let q : u ≡ v = cc in
    rw k (
      subst (λ (z : Unfinished). BlocksOf size area' lists (in_state Placed z)) q new,
      rest-apart size area area' lists (list_of lists u.serial) us leaves (λ b h. ap (λ (z : Unfinished). is_among (list_of lists z.serial) b) q ∙ differ-split (list_of lists v.serial) (held_by lists us) b d h) e.1,
    ))
    (λ (k : is_at s Parked v ≡ false).
    let g : first_of (is_at s Parked) us ≡ Some u = rw k at f in
    let apart : (b : ℕ) → is_among (list_of lists v.serial) b ≡ true → is_among (list_of lists u.serial) b ≡ false = λ b h.
    ⊎_elim
    (λ (m : is_among (list_of lists u.serial) b ≡ true). absurd (false≢true (sym (differ-split (list_of lists v.serial) (held_by lists us) b d (found-held lists (is_at s Parked) us u b g m)) ∙ h)))
    (λ (m : is_among (list_of lists u.serial) b ≡ false). m)
    (cases_Bool (is_among (list_of lists u.serial) b)) in
    rw k (stand-apart size area area' lists (list_of lists u.serial) v leaves apart e.0, turned-stand size area area' lists s us u leaves (differ-right (list_of lists v.serial) (held_by lists us) d) g new e.1))
    (cases_Bool (is_at s Parked v))

turned-lent : (lists : List Taken) (s : ℕ) (us : List Unfinished) (u : Unfinished) (b : ℕ) → first_of (is_at s Parked) us ≡ Some u → is_among (list_of lists u.serial) b ≡ false → is_among (held_by lists (filter is_in_hand us)) b ≡ true →
    is_among (held_by lists (filter is_in_hand (turned s Parked Placed us))) b ≡ true
turned-lent lists s [] u b f n h = absurd (cc)
turned-lent lists s (v ∷ us) u b f n h =
    ⊎_elim
    (λ (k : is_at s Parked v ≡ true).
    let g : Some v ≡ Some u = rw k at f in let q : v ≡ u = cc in
    let hv : is_in_hand v ≡ true = or_right (has_state Out v || has_state Handled v) (has_state Parked v) (and_parts _ _ k).1 in
    let h0 : is_among (list_of lists v.serial ++ held_by lists (filter is_in_hand us)) b ≡ true = rw hv at h in
    let h1 : (is_among (list_of lists v.serial) b || is_among (held_by lists (filter is_in_hand us)) b) ≡ true = sym (among-append (list_of lists v.serial) (held_by lists (filter is_in_hand us)) b) ∙ h0 in
    let lv : is_among (list_of lists v.serial) b ≡ false = ap (λ (z : Unfinished). is_among (list_of lists z.serial) b) q ∙ n in
    let h2 : is_among (held_by lists (filter is_in_hand us)) b ≡ true = rw lv at h1 in
    rw k h2)
    (λ (k : is_at s Parked v ≡ false).
    let g : first_of (is_at s Parked) us ≡ Some u = rw k at f in
    ⊎_elim
    (λ (hv : is_in_hand v ≡ true).
    let h0 : is_among (list_of lists v.serial ++ held_by lists (filter is_in_hand us)) b ≡ true = rw hv at h in
    let h1 : (is_among (list_of lists v.serial) b || is_among (held_by lists (filter is_in_hand us)) b) ≡ true = sym (among-append (list_of lists v.serial) (held_by lists (filter is_in_hand us)) b) ∙ h0 in
    rw (k, hv) (among-append (list_of lists v.serial) (held_by lists (filter is_in_hand (turned s Parked Placed us))) b ∙
    ⊎_elim
    (λ (m : is_among (list_of lists v.serial) b ≡ true). or_left (is_among (list_of lists v.serial) b) (is_among (held_by lists (filter is_in_hand (turned s Parked Placed us))) b) m)
    (λ (m : is_among (list_of lists v.serial) b ≡ false). let h2 : is_among (held_by lists (filter is_in_hand us)) b ≡ true = rw m at h1 in
    or_right (is_among (list_of lists v.serial) b) (is_among (held_by lists (filter is_in_hand (turned s Parked Placed us))) b) (turned-lent lists s us u b g n h2))
    (cases_Bool (is_among (list_of lists v.serial) b))))
    (λ (hv : is_in_hand v ≡ false).
    let h0 : is_among (held_by lists (filter is_in_hand us)) b ≡ true = rw hv at h in
    rw (k, hv) (turned-lent lists s us u b g n h0))
    (cases_Bool (is_in_hand v)))
    (cases_Bool (is_at s Parked v))

-- ==== the command's own blocks

answered-data : (size : ℕ) (area : List (Option (List ℕ))) (bs : List ℕ) (parts : List (List ℕ)) (u : Unfinished) (reply : ReplyData) → u.state ≡ Parked → u.reply ≡ Some reply → IsCommand u.command → ReplyFits u.command reply →
    length parts ≡ length bs → Differ bs → Every (IsLent area) bs → HaveSize size parts → take (payload_length u.command) (gathered parts) ≡ payload_of u → length (payload_of u) ≡ payload_length u.command →
    length reply.payload ≤ length (gathered parts) → HaveData size (returned area bs (scattered parts reply.payload)) bs (payload_of (in_state Placed u))
unfolding zeros
answered-data size area bs parts u reply st rep ok fits l d lent w sh ls enough =
    let fp = scattered parts reply.payload in
    let b = returned-data size area bs fp (length-scattered parts reply.payload ∙ l) d lent (sizes-scattered size parts reply.payload w) in
    let al : bytes_along size (returned area bs fp) bs ≡ reply.payload ++ drop (length reply.payload) (gathered parts) = b.1 ∙ scattered-payload parts reply.payload enough in
    record { here = b.0; begin_ = ap (take (length (payload_of (in_state Placed u)))) al ∙ by (takes_payload u.command.cdb) refl }
  where
    by : (t : Bool) → takes_payload u.command.cdb ≡ t → take (length (payload_of (in_state Placed u))) (reply.payload ++ drop (length reply.payload) (gathered parts)) ≡ payload_of (in_state Placed u)
    by true t =
        let d0 : IsTrue (cond (takes_payload u.command.cdb) (eqb u.command.in_len 0) (eqb (length u.command.sent) 0)) = ok.directed in
        let d1 : IsTrue (eqb u.command.in_len 0) = rw t at d0 in
        let z : u.command.in_len ≡ 0 = eqb-true u.command.in_len 0 d1 in
        let np : reply.payload ≡ [] = nil_from_length reply.payload (let f : length reply.payload ≤ u.command.in_len = fits.payload in omega arith) in
        let s0 : payload_of u ≡ u.command.sent = ap (λ y. cond y u.command.sent (data_in u.command.in_len u.state u.reply)) t in
        let s1 : payload_of (in_state Placed u) ≡ u.command.sent = ap (λ y. cond y u.command.sent (data_in u.command.in_len Placed u.reply)) t in
        let e : payload_of (in_state Placed u) ≡ payload_of u = s1 ∙ sym s0 in
        let le : length (payload_of (in_state Placed u)) ≡ payload_length u.command = ap length e ∙ ls in
        ap (λ (y : List ℕ). take (length (payload_of (in_state Placed u))) (y ++ drop (length y) (gathered parts))) np ∙ ap (λ y. take y (gathered parts)) le ∙ sh ∙ sym e
    by false t =
        let n : ℕ = u.command.in_len in
        let f : length reply.payload ≤ n = fits.payload in
        let pl : payload_length u.command ≡ n = ap (λ y. cond y (length u.command.sent) n) t in
        let s0 : payload_of u ≡ zeros n = ap (λ y. cond y u.command.sent (data_in n u.state u.reply)) t ∙ ap (λ y. data_in n y u.reply) st ∙ ap (data_in n Parked) rep in
        let s1 : payload_of (in_state Placed u) ≡ reply.payload ++ zeros (n - length reply.payload) = ap (λ y. cond y u.command.sent (data_in n Placed u.reply)) t ∙ ap (data_in n Placed) rep in
        let lz : length (zeros (n - length reply.payload)) ≡ n - length reply.payload = length-zeros (n - length reply.payload) in
        let l1 : length (payload_of (in_state Placed u)) ≡ n = ap length s1 ∙ length-append reply.payload (zeros (n - length reply.payload)) ∙ (let q : length reply.payload + length (zeros (n - length reply.payload)) ≡ n = omega arith in q) in
        let k : n ≡ length reply.payload + (n - length reply.payload) = omega arith in
        let c : take n (gathered parts) ≡ zeros n = ap (λ y. take y (gathered parts)) (sym pl) ∙ sh ∙ s0 in
        let dt : take (n - length reply.payload) (drop (length reply.payload) (gathered parts)) ≡ zeros (n - length reply.payload) =
        sym (drop-take (length reply.payload) (n - length reply.payload) (gathered parts)) ∙ ap (λ y. drop (length reply.payload) (take y (gathered parts))) (sym k) ∙ ap (drop (length reply.payload)) c ∙ drop-replicate (length reply.payload) n 0 in
        ap (λ y. take y (reply.payload ++ drop (length reply.payload) (gathered parts))) l1
        ∙ take-past reply.payload (drop (length reply.payload) (gathered parts)) n (length reply.payload) refl f ∙ ap (λ y. reply.payload ++ y) dt ∙ sym s1

pub found-differ : (lists : List Taken) (p : Unfinished → Bool) (us : List Unfinished) (u : Unfinished) → Differ (held_by lists us) → first_of p us ≡ Some u → Differ (list_of lists u.serial)
found-differ lists p [] u d f = absurd (cc)
found-differ lists p (v ∷ us) u d f =
    ⊎_elim
    (λ (k : p v ≡ true). let g : Some v ≡ Some u = rw k at f in let q : v ≡ u = cc in subst (λ (z : Unfinished). Differ (list_of lists z.serial)) q (differ_front (list_of lists v.serial) (held_by lists us) d))
    (λ (k : p v ≡ false). let g : first_of p us ≡ Some u = rw k at f in found-differ lists p us u (differ-right (list_of lists v.serial) (held_by lists us) d) g)
    (cases_Bool (p v))

payload-fits : (c : CommandData) (reply : ReplyData) → IsCommand c → ReplyFits c reply → length reply.payload ≤ payload_length c
payload-fits c reply ok fits =
    ⊎_elim
    (λ (t : takes_payload c.cdb ≡ true).
    let d0 : IsTrue (cond (takes_payload c.cdb) (eqb c.in_len 0) (eqb (length c.sent) 0)) = ok.directed in
    let d1 : IsTrue (eqb c.in_len 0) = rw t at d0 in
    let z : c.in_len ≡ 0 = eqb-true c.in_len 0 d1 in
    let f : length reply.payload ≤ c.in_len = fits.payload in omega arith)
    (λ (t : takes_payload c.cdb ≡ false). let pl : payload_length c ≡ c.in_len = ap (λ y. cond y (length c.sent) c.in_len) t in let f : length reply.payload ≤ c.in_len = fits.payload in omega arith)
    (cases_Bool (takes_payload c.cdb))

parked_length : (u : Unfinished) (reply : ReplyData) → u.state ≡ Parked → u.reply ≡ Some reply → length (payload_of u) ≡ payload_length u.command
unfolding zeros
parked_length u reply st rep =
    ⊎_elim
    (λ (t : takes_payload u.command.cdb ≡ true). ap (λ y. length (cond y u.command.sent (data_in u.command.in_len u.state u.reply))) t ∙ sym (ap (λ y. cond y (length u.command.sent) u.command.in_len) t))
    (λ (t : takes_payload u.command.cdb ≡ false).
    ap (λ y. length (cond y u.command.sent (data_in u.command.in_len u.state u.reply))) t ∙ ap (λ y. length (data_in u.command.in_len y u.reply)) st ∙ ap (λ y. length (data_in u.command.in_len Parked y)) rep
    ∙ length-zeros u.command.in_len ∙ sym (ap (λ y. cond y (length u.command.sent) u.command.in_len) t))
    (cases_Bool (takes_payload u.command.cdb))

given_area : List (Option (List ℕ)) → ℕ → ℕ → List Iov → List (List ℕ) → List (Option (List ℕ))
given_area area start size iovs parts = returned area (numbers_of start size iovs) parts

area_answered : (r : RegionState) (user : UserState) (rows : List PendingRow) (d : DeviceState) (lists : List Taken) (s : ℕ) (u : Unfinished) (p : sides.Parked) (parts : List (List ℕ)) (rest : List GivenJob) →
    length r.front ≡ data_start d.ring.size → r.pages ≡ d.settings.pages → CanFill d lists → CanPlace user rows d lists s u p parts → Into user d →
    (answer_placed r user p rest).region.blocks ≡ returned r.blocks (list_of lists u.serial) (scattered parts p.reply.payload)
unfolding given_area
area_answered r user rows d lists s u p parts rest long pages fill place i =
    let size : ℕ = block_size d.settings.pages in
    let start : ℕ = data_start d.settings.ring in
    let bs : List ℕ = list_of lists u.serial in
    let n : ℕ = payload_length u.command in
    let sc : List (List ℕ) = scattered parts p.reply.payload in
    let st : length r.front ≡ start = long ∙ ap data_start fill.ring in
    let sz : length bs ≡ blocks_of d.settings.pages u.command = every-first (is_at s Parked) (λ (v : Unfinished). length (list_of lists v.serial) ≡ blocks_of d.settings.pages v.command) d.unfinished u fill.sizes place.found in
    let sb : size * length bs ≡ size * ((n + (size - 1)) / size) = ap (λ y. size * y) sz in
    let pg : 1 ≤ d.settings.pages = fill.pages in
    let numbers : numbers_of start size (iovs_along start size bs n) ≡ bs = iovs-numbers start size bs n (omega arith) (omega arith) (omega arith) in
    ap (λ ats. (placed_at (record { region = r; user = user }) p rest ats).region.blocks) i.first
    ∙ ap (λ (c : Carried). (with_payload r p.job.iovs c p.reply.payload).blocks) place.job.carried
    ∙ ap (λ y. given_area r.blocks y (size_of r) p.job.iovs sc) st
    ∙ ap (λ y. given_area r.blocks start (block_size y) p.job.iovs sc) pages
    ∙ ap (λ y. given_area r.blocks start size y sc) place.job.iovs
    ∙ ap (λ y. returned r.blocks y sc) numbers

filled_blocks : (area : List (Option (List ℕ))) (rows : List PendingRow) (d : DeviceState) (lists : List Taken) (s : ℕ) (u : Unfinished) (reply : ReplyData) (job : sides.JobState) (parts : List (List ℕ)) →
    CanFill d lists → BlocksStand area d lists → first_of (is_at s Parked) d.unfinished ≡ Some u → u.reply ≡ Some reply → IsJobOf d.settings rows lists u job parts →
    BlocksStand (returned area (list_of lists u.serial) (scattered parts reply.payload)) (placed_in d s) lists
filled_blocks area rows d lists s u reply job parts fill stand found replied j =
    let size : ℕ = block_size d.settings.pages in
    let bs : List ℕ = list_of lists u.serial in
    let pl : ℕ = payload_length u.command in
    let at : is_at s Parked u ≡ true = first-passes (is_at s Parked) d.unfinished u found in
    let st : u.state ≡ Parked = state_at s Parked u at in
    let fit : ReplyFits u.command reply = subst (λ (o : Option ReplyData). IfSome o (ReplyFits u.command)) replied (every-first (is_at s Parked) (λ (v : Unfinished). IfSome v.reply (ReplyFits v.command)) d.unfinished u fill.replies found) in
    let ok : IsCommand u.command = every-first (is_at s Parked) (λ (v : Unfinished). IsCommand v.command) d.unfinished u fill.commands found in
    let sz : length bs ≡ blocks_of d.settings.pages u.command = every-first (is_at s Parked) (λ (v : Unfinished). length (list_of lists v.serial) ≡ blocks_of d.settings.pages v.command) d.unfinished u fill.sizes found in
    let df : Differ bs = found-differ lists (is_at s Parked) d.unfinished u fill.differ found in
    let held : is_in_hand u ≡ true = or_right (has_state Out u || has_state Handled u) (has_state Parked u) (and_parts _ _ at).1 in
    let lent : Every (IsLent area) bs = rw held at (every-first (is_at s Parked) (BlocksOf size area lists) d.unfinished u stand.all found) in
    let sb : size * length bs ≡ size * ((pl + (size - 1)) / size) = ap (λ y. size * y) sz in
    let pg : 1 ≤ d.settings.pages = fill.pages in
    let enough : length reply.payload ≤ length (gathered parts) =
    (let a : length (gathered parts) ≡ size * length parts = length-gathered size parts j.size in let b : size * length parts ≡ size * length bs = ap (λ y. size * y) j.count in let c : length reply.payload ≤ pl = payload-fits u.command reply ok fit in omega arith) in
    let area' : List (Option (List ℕ)) = returned area bs (scattered parts reply.payload) in
    let new : HaveData size area' bs (payload_of (in_state Placed u)) = answered-data size area bs parts u reply st replied ok fit j.count df lent j.size j.payload (parked_length u reply st replied) enough in
    let leaves : Leaves bs area area' = λ b h. returned-other area bs (scattered parts reply.payload) b h in
    record {
      all = turned-stand size area area' lists s d.unfinished u leaves fill.differ found new stand.all;
      just = λ b h. still b h new.here;
    }
  where
    still : (b : ℕ) → IsLent (returned area (list_of lists u.serial) (scattered parts reply.payload)) b → Every (IsHome (block_size d.settings.pages) (returned area (list_of lists u.serial) (scattered parts reply.payload))) (list_of lists u.serial) →
        is_among (held_by lists (filter is_in_hand (placed_in d s).unfinished)) b ≡ true
    still b h here =
        ⊎_elim
        (λ (m : is_among (list_of lists u.serial) b ≡ true). let i = among_every (IsHome (block_size d.settings.pages) (returned area (list_of lists u.serial) (scattered parts reply.payload))) (list_of lists u.serial) b here m in let k : Some (Some i.0) ≡ Some None = sym i.1 ∙ h in absurd (cc))
        (λ (m : is_among (list_of lists u.serial) b ≡ false). turned-lent lists s d.unfinished u b found m (stand.just b (sym (returned-other area (list_of lists u.serial) (scattered parts reply.payload) b m) ∙ h)))
        (cases_Bool (is_among (list_of lists u.serial) b))

-- ==== the law

pub blocks_placed : (r : RegionState) (user : UserState) (items : List sides.Recorded) (rows : List PendingRow) (d : DeviceState) (lists : List Taken) (s : ℕ) (u : Unfinished) (p : sides.Parked) (parts : List (List ℕ)) (rest : List GivenJob) →
    CanAnswer d → CanFill d lists → RingStands r.front items d lists → r.pages ≡ d.settings.pages → BlocksStand r.blocks d lists → CanPlace user rows d lists s u p parts →
    BlocksStand (answer_placed r user p rest).region.blocks (placed_in d s) lists
blocks_placed r user items rows d lists s u p parts rest can fill ring pages stand place =
    subst (λ (a : List (Option (List ℕ))). BlocksStand a (placed_in d s) lists)
    (sym (area_answered r user rows d lists s u p parts rest ring.long pages fill place (goes_into user rows d lists s u p parts can place)))
    (filled_blocks r.blocks rows d lists s u p.reply p.job parts fill stand place.found place.replied place.job)

-- ==== what filling rests on

held_turned : (lists : List Taken) (s : ℕ) (us : List Unfinished) → held_by lists (turned s Parked Placed us) ≡ held_by lists us
held_turned lists s [] = refl
held_turned lists s (u ∷ us) =
    ⊎_elim
    (λ (k : is_at s Parked u ≡ true). rw k refl)
    (λ (k : is_at s Parked u ≡ false). rw k (ap (λ bs. list_of lists u.serial ++ bs) (held_turned lists s us)))
    (cases_Bool (is_at s Parked u))

pub can_fill : (d : DeviceState) (lists : List Taken) → IsSound d → ListsSound d lists → CanFill d lists
can_fill d lists sound owned =
    record {
      pages = sound.settings.pages_low;
      ring = sound.ring.size;
      commands = every-weaker (λ (u : Unfinished). IsLaid d.ring.laid u.serial u.command) (λ (u : Unfinished). IsCommand u.command) d.unfinished (λ u l. laid_command d.settings 0 d.ring.laid u.serial u.command sound.ring.items l) sound.serials.laid;
      replies = sound.answers.replies;
      differ = owned.differ;
      sizes = owned.sizes;
    }

pub fill_placed : (d : DeviceState) (lists : List Taken) (s : ℕ) → CanFill d lists → CanFill (placed_in d s) lists
fill_placed d lists s h =
    record {
      pages = h.pages;
      ring = h.ring;
      commands = every-with_first (is_at s Parked) (in_state Placed) (λ (u : Unfinished). IsCommand u.command) d.unfinished (λ u k c. c) h.commands;
      replies = every-with_first (is_at s Parked) (in_state Placed) (λ (u : Unfinished). IfSome u.reply (ReplyFits u.command)) d.unfinished (λ u k c. c) h.replies;
      differ = subst Differ (sym (held_turned lists s d.unfinished)) h.differ;
      sizes = every-with_first (is_at s Parked) (in_state Placed) (λ (u : Unfinished). length (list_of lists u.serial) ≡ blocks_of d.settings.pages u.command) d.unfinished (λ u k c. c) h.sizes;
    }
