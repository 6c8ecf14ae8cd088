-- A command is laid: the blocks and their data.
use Rattle.std.proofs.Common.{◌≡◌, ℕ, ◌+◌, ◌-◌, ◌*◌, ◌/◌, ◌≤◌, ◌<◌, ◌⊎◌, ◌||◌, inl, inr, max, Bool, true, false, cond, List, [], ◌∷◌, ◌++◌, length, take, filter, replicate, refl, sym, ap, ◌∙◌, arith, suc, zero, Option, Some, None, slice_get, length-append, subst, ⊎_elim, eqb}
use Rattle.std.proofs.lemmas.Bool.{cases_Bool, cases_lt, ne_eqb, eq-eqb, false≢true, or_parts, or_left, or_right}
use Rattle.std.specs.Bool.{MatchBool}
use Rattle.std.proofs.lemmas.List.{take-take, take-replicate, length-replicate}
use Rattle.tcmu_types.specs.Data.{CommandData, SettingsData}
use Rattle.tcmu_types.specs.Rules.{takes_payload, payload_length}
use Rattle.tcmu_model.specs.Lengths.{blocks_of, block_size}
use Rattle.tcmu_types.specs.Numbers.{above_all, is_among, Differ}
use Rattle.tcmu_model.specs.RingState.{serials_in}
use Rattle.tcmu_model.specs.Device.{Unfinished, DeviceState}
use Rattle.tcmu_model.specs.Events.{is_in_hand, held_blocks, waiting, with_command}
use Rattle.tcmu_model.specs.Sound.{IsSound}
use Rattle.tcmu_types.specs.Lists.{Every}
use Rattle.tcmu_model.specs.BlockLists.{Taken, list_of, with_taken, blocks_taken, held_by, least_free}
use Rattle.tcmu_types.specs.Overwriting.{zeros}
use Rattle.region_model.specs.Regions.{AreSized, RegionState}
use Rattle.region_model.specs.Areas.{bytes_along, written_along, IsHome, IsLent}
use Rattle.region_model.specs.Picture.{payload_of, data_in}
use Rattle.region_model.specs.Represents.{HaveData, BlocksOf, BlocksStand, TargetKeeps}
use Rattle.region_model.specs.Sides.{TargetState}
use Rattle.region_model.specs.TargetSteps.{region_laid, blocks_given}
use Rattle.ring_laws.proofs.Agree.{blocks-same}
use Rattle.tcmu_model.specs.Owned.{ListsSound, HasRoom}
use Rattle.tcmu_types.proofs.ByteFields.{length-zeros}
use Rattle.tcmu_model.proofs.LaidItems.{slice_get-right}
use Rattle.tcmu_model.proofs.FreeBlocks.{length-least_free, least-are, IsFree, least-differ}
use Rattle.ring_laws.proofs.laid.Scatter.{grown, scattered-other, scattered-data, along-same, grown-old}
use Rattle.ring_laws.proofs.laid.LaidEntry.{laid_in}
use Rattle.tcmu_model.proofs.ListsLaid.{unlisted, cmd_item, with_waiting, rows_below, lists_below, held_length}
use Rattle.tcmu_types.proofs.Firsts.{first-append, first-here}
use Rattle.ring_laws.proofs.laid.LaidIds.{every-push}
use Rattle.tcmu_types.proofs.Everies.{every-weaker}
use Rattle.tcmu_types.proofs.Rises.{among-append, among_every, every-among}
use Rattle.tcmu_types.proofs.Places.{get_append_left, get_within}

-- ==== what is held

-- what stands in one command's list is held
pub among-filter : (lists : List Taken) (p : Unfinished → Bool) (us : List Unfinished) (b : ℕ) → is_among (held_by lists us) b ≡ false → is_among (held_by lists (filter p us)) b ≡ false
among-filter lists p [] b h = refl
among-filter lists p (u ∷ us) b h =
    let q = or_parts (is_among (list_of lists u.serial) b) (is_among (held_by lists us) b) (sym (among-append (list_of lists u.serial) (held_by lists us) b) ∙ h) in
    ⊎_elim
    (λ (e : p u ≡ true). rw e (among-append (list_of lists u.serial) (held_by lists (filter p us)) b ∙ ap (λ z. z || is_among (held_by lists (filter p us)) b) q.0 ∙ among-filter lists p us b q.1))
    (λ (e : p u ≡ false). rw e (among-filter lists p us b q.1))
    (cases_Bool (p u))

-- numbers of which none stands in another list
abbrev pub Apart : List ℕ → List ℕ → Type 0
Apart bs xs = Every (λ x. is_among bs x ≡ false) xs

none-among : (hs bs : List ℕ) (x : ℕ) (low high : ℕ) → Every (IsFree hs low high) bs → is_among hs x ≡ true → is_among bs x ≡ false
none-among hs [] x low high e h = refl
none-among hs (b ∷ bs) x low high e h =
    let f = e.0 in
    let n : eqb b x ≡ false = ne_eqb b x (λ q. false≢true (sym f.free ∙ ap (is_among hs) q ∙ h)) in
    rw n (none-among hs bs x low high e.1 h)

pub every-join : {X : Type 0} (P Q R : X → Type 0) (xs : List X) → ((x : X) → P x → Q x → R x) → Every P xs → Every Q xs → Every R xs
every-join P Q R [] h e f = tt
every-join P Q R (x ∷ xs) h e f = (h x e.0 f.0, every-join P Q R xs h e.1 f.1)

-- every block that is not lent is whole
abbrev pub AreWhole : ℕ → List (Option (List ℕ)) → Type 0
AreWhole size area = (b : ℕ) (bytes : List ℕ) → slice_get area b ≡ Some (Some bytes) → length bytes ≡ size

pub sized_whole : (size : ℕ) (area : List (Option (List ℕ))) → AreSized size area → AreWhole size area
sized_whole size [] h b bytes g = absurd (cc)
sized_whole size (None ∷ area) h zero bytes g = absurd (cc)
sized_whole size (Some block ∷ area) h zero bytes g = let e : block ≡ bytes = cc in ap length (sym e) ∙ h.0
sized_whole size (None ∷ area) h (suc b) bytes g = sized_whole size area h b bytes g
sized_whole size (Some block ∷ area) h (suc b) bytes g = sized_whole size area h.1 b bytes g

-- ==== the area grows

pub covered : (bs : List ℕ) → Every (λ b. b < above_all bs) bs
covered [] = tt
covered (b ∷ bs) = (omega arith, every-weaker (λ x. x < above_all bs) (λ x. x < max (b + 1) (above_all bs)) bs (λ x h. omega arith) (covered bs))

length-grown : (size : ℕ) (area : List (Option (List ℕ))) (n : ℕ) → n ≤ length (grown size area n)
length-grown size area n = omega (arith, length-append area (replicate (n - length area) (Some (zeros size))), length-replicate (n - length area) (Some (zeros size)))

replicate-get : {X : Type 0} (n i : ℕ) (x y : X) → slice_get (replicate n x) i ≡ Some y → y ≡ x
replicate-get zero i x y h = absurd (cc)
replicate-get (suc n) zero x y h = cc
replicate-get (suc n) (suc i) x y h = replicate-get n i x y h

-- a block of a grown area is an old one, or zero
grown-case : (size : ℕ) (area : List (Option (List ℕ))) (n b : ℕ) (o : Option (List ℕ)) → slice_get (grown size area n) b ≡ Some o → (slice_get area b ≡ Some o) ⊎ (o ≡ Some (zeros size))
grown-case size area n b o h =
    ⊎_elim
    (λ (l : b < length area). inl (sym (get_append_left area (replicate (n - length area) (Some (zeros size))) b l) ∙ h))
    (λ (l : length area ≤ b).
    let k : length area + (b - length area) ≡ b = omega arith in
    inr (replicate-get (n - length area) (b - length area) (Some (zeros size)) o
    (sym (slice_get-right area (replicate (n - length area) (Some (zeros size))) (b - length area)) ∙ ap (slice_get (grown size area n)) k ∙ h)))
    (cases_lt b (length area))

grown-lent : (size : ℕ) (area : List (Option (List ℕ))) (n b : ℕ) → slice_get (grown size area n) b ≡ Some None → slice_get area b ≡ Some None
grown-lent size area n b h = ⊎_elim (λ k. k) (λ (k : None ≡ Some (zeros size)). absurd (cc)) (grown-case size area n b None h)

grown-whole : (size : ℕ) (area : List (Option (List ℕ))) (n : ℕ) → AreWhole size area → AreWhole size (grown size area n)
grown-whole size area n w b bytes h =
    ⊎_elim (λ k. w b bytes k) (λ (k : Some bytes ≡ Some (zeros size)). let e : bytes ≡ zeros size = cc in ap length e ∙ length-zeros size) (grown-case size area n b (Some bytes) h)

-- ==== the law

-- blocks that a command gets are there, once the area is grown
new-here : (size : ℕ) (area : List (Option (List ℕ))) (hs bs bs0 : List ℕ) (low high : ℕ) → AreWhole size area → Every (λ b. b < above_all bs0) bs → Every (IsFree hs low high) bs →
    ((b : ℕ) → IsLent area b → is_among hs b ≡ true) → Every (IsHome size (grown size area (above_all bs0))) bs
new-here size area hs [] bs0 low high w c f just = tt
new-here size area hs (b ∷ bs) bs0 low high w c f just =
    let n : ℕ = above_all bs0 in
    let g = get_within (grown size area n) b (omega (arith, c.0, length-grown size area n)) in
    (there g.0 g.1, new-here size area hs bs bs0 low high w c.1 f.1 just)
  where
    there : (o : Option (List ℕ)) → slice_get (grown size area (above_all bs0)) b ≡ Some o → IsHome size (grown size area (above_all bs0)) b
    there None h = let fr = f.0 in absurd (false≢true (sym fr.free ∙ just b (grown-lent size area (above_all bs0) b h)))
    there (Some bytes) h = (bytes, h, grown-whole size area (above_all bs0) w b bytes h)

-- the blocks that a command gets are at home, whichever are lent
given-home : (area : List (Option (List ℕ))) (d : DeviceState) (lists : List Taken) (n : ℕ) → AreWhole (block_size d.settings.pages) area → BlocksStand area d lists →
    Every (IsHome (block_size d.settings.pages) (grown (block_size d.settings.pages) area (above_all (least_free d.settings.blocks (held_by lists d.unfinished) n)))) (least_free d.settings.blocks (held_by lists d.unfinished) n)
given-home area d lists n whole stand =
    let hs : List ℕ = held_by lists d.unfinished in
    let bs : List ℕ = least_free d.settings.blocks hs n in
    new-here (block_size d.settings.pages) area hs bs bs 0 (0 + d.settings.blocks) whole (covered bs) (least-are d.settings.blocks hs n) (λ b h. lent-held b (stand.just b h))
  where
    lent-held : (b : ℕ) → is_among (held_by lists (filter is_in_hand d.unfinished)) b ≡ true → is_among (held_by lists d.unfinished) b ≡ true
    lent-held b h =
        ⊎_elim
        (λ (e : is_among (held_by lists d.unfinished) b ≡ true). e)
        (λ (e : is_among (held_by lists d.unfinished) b ≡ false). absurd (false≢true (sym (among-filter lists is_in_hand d.unfinished b e) ∙ h)))
        (cases_Bool (is_among (held_by lists d.unfinished) b))

-- the blocks of another command stay
pub stand-other : (size : ℕ) (area area' : List (Option (List ℕ))) (lists lists' : List Taken) (u : Unfinished) → list_of lists' u.serial ≡ list_of lists u.serial →
    Every (λ b. (o : Option (List ℕ)) → slice_get area b ≡ Some o → slice_get area' b ≡ Some o) (list_of lists u.serial) → BlocksOf size area lists u → BlocksOf size area' lists' u
stand-other size area area' lists lists' u l same st =
    match-map (is_in_hand u)
    (λ (e : Every (IsLent area) (list_of lists u.serial)). subst (λ (bs : List ℕ). Every (IsLent area') bs) (sym l)
    (every-join (λ b. (o : Option (List ℕ)) → slice_get area b ≡ Some o → slice_get area' b ≡ Some o) (IsLent area) (IsLent area') (list_of lists u.serial) (λ b f g. f None g) same e))
    (λ (h : HaveData size area (list_of lists u.serial) (payload_of u)).
    subst (λ (bs : List ℕ). HaveData size area' bs (payload_of u)) (sym l)
    (record {
      here = every-join (λ b. (o : Option (List ℕ)) → slice_get area b ≡ Some o → slice_get area' b ≡ Some o) (IsHome size area) (IsHome size area') (list_of lists u.serial) (λ b f g. (g.0, f (Some g.0) g.1, g.2)) same h.here;
      begin_ = ap (take (length (payload_of u))) (along-same size area area' (list_of lists u.serial)
          (every-join (λ b. (o : Option (List ℕ)) → slice_get area b ≡ Some o → slice_get area' b ≡ Some o) (IsHome size area) (λ b. slice_get area' b ≡ slice_get area b) (list_of lists u.serial) (λ b f g. f (Some g.0) g.1 ∙ sym g.1) same h.here)) ∙ h.begin_;
    }))
    st
  where
    match-map : (b : Bool) {P Q P' Q' : Type 0} → (P → P') → (Q → Q') → MatchBool b P Q → MatchBool b P' Q'
    match-map true f g h = f h
    match-map false f g h = g h

all-old : (size : ℕ) (area area' : List (Option (List ℕ))) (lists lists' : List Taken) (hs : List ℕ) (acc : ℕ) (us : List Unfinished) →
    ((s : ℕ) → s < acc → list_of lists' s ≡ list_of lists s) → ((b : ℕ) → is_among hs b ≡ true → (o : Option (List ℕ)) → slice_get area b ≡ Some o → slice_get area' b ≡ Some o) →
    ((b : ℕ) → is_among (held_by lists us) b ≡ true → is_among hs b ≡ true) → Every (λ u. u.serial < acc) us → Every (BlocksOf size area lists) us → Every (BlocksOf size area' lists') us
all-old size area area' lists lists' hs acc [] l same into k e = tt
all-old size area area' lists lists' hs acc (u ∷ us) l same into k e = (
  stand-other size area area' lists lists' u (l u.serial k.0)
      (every-weaker (λ b. is_among (list_of lists u.serial) b ≡ true) (λ b. (o : Option (List ℕ)) → slice_get area b ≡ Some o → slice_get area' b ≡ Some o) (list_of lists u.serial)
      (λ b h. same b (into b (among-append (list_of lists u.serial) (held_by lists us) b ∙ or_left (is_among (list_of lists u.serial) b) (is_among (held_by lists us) b) h))) (every-among (list_of lists u.serial))) e.0,
  all-old size area area' lists lists' hs acc us l same (λ b h. into b (among-append (list_of lists u.serial) (held_by lists us) b ∙ or_right (is_among (list_of lists u.serial) b) (is_among (held_by lists us) b) h)) k.1 e.1,
)

-- bytes lie in the blocks that they need
pub enough : (p size : ℕ) → 0 < size → p ≤ size * ((p + (size - 1)) / size)
enough p size z = omega arith

-- the data of a new command
new-data : (size n : ℕ) (area : List (Option (List ℕ))) (c : CommandData) (bs : List ℕ) (u : Unfinished) → 0 < size → length bs ≡ n → payload_length c ≤ size * n → u.command ≡ c → u.reply ≡ None → Differ bs → Every (IsHome size area) bs →
    HaveData size (written_along size area bs (cond (takes_payload c.cdb) c.sent (zeros (size * length bs)))) bs (payload_of u)
unfolding zeros
new-data size n area c bs u z l pay uc ur df here =
    ⊎_elim
    (λ (t : takes_payload c.cdb ≡ true).
    let sh : payload_of u ≡ c.sent = ap (λ (v : CommandData). cond (takes_payload v.cdb) v.sent (data_in v.in_len u.state u.reply)) uc ∙ ap (λ b. cond b c.sent (data_in c.in_len u.state u.reply)) t in
    let dt : cond (takes_payload c.cdb) c.sent (zeros (size * length bs)) ≡ c.sent = ap (λ b. cond b c.sent (zeros (size * length bs))) t in
    let pl : payload_length c ≡ length c.sent = ap (λ b. cond b (length c.sent) c.in_len) t in
    let q = scattered-data size area bs c.sent df here (let k : size * length bs ≡ size * n = ap (λ y. size * y) l in omega arith) in
    subst (λ (y : List ℕ). HaveData size (written_along size area bs y) bs (payload_of u)) (sym dt) (subst (λ (y : List ℕ). HaveData size (written_along size area bs c.sent) bs y) (sym sh) (record { here = q.0; begin_ = q.1 })))
    (λ (t : takes_payload c.cdb ≡ false).
    let sh : payload_of u ≡ zeros c.in_len = ap (λ (v : CommandData). cond (takes_payload v.cdb) v.sent (data_in v.in_len u.state u.reply)) uc ∙ ap (λ b. cond b c.sent (data_in c.in_len u.state u.reply)) t ∙ ap (data_in c.in_len u.state) ur in
    let zs : List ℕ = zeros (size * length bs) in
    let lz : length zs ≡ size * length bs = length-zeros (size * length bs) in
    let dt : cond (takes_payload c.cdb) c.sent zs ≡ zs = ap (λ b. cond b c.sent zs) t in
    let pl : payload_length c ≡ c.in_len = ap (λ b. cond b (length c.sent) c.in_len) t in
    let k : size * length bs ≡ size * n = ap (λ y. size * y) l in
    let q = scattered-data size area bs zs df here (omega arith) in
    let area' = written_along size area bs zs in
    let li : length (zeros c.in_len) ≡ c.in_len = length-zeros c.in_len in
    let d0 : take (length (zeros c.in_len)) (bytes_along size area' bs) ≡ zeros c.in_len =
    ap (λ y. take y (bytes_along size area' bs)) li ∙ sym (take-take c.in_len (length zs) (bytes_along size area' bs) (omega arith)) ∙ ap (take c.in_len) q.1 ∙ take-replicate c.in_len (size * length bs) 0 (omega arith) in
    subst (λ (y : List ℕ). HaveData size (written_along size area bs y) bs (payload_of u)) (sym dt) (subst (λ (y : List ℕ). HaveData size area' bs y) (sym sh) (record { here = q.0; begin_ = d0 })))
    (cases_Bool (takes_payload c.cdb))

held-more : (lists lists' : List Taken) (acc : ℕ) (us : List Unfinished) → ((s : ℕ) → s < acc → list_of lists' s ≡ list_of lists s) → Every (λ u. u.serial < acc) us → held_by lists' (filter is_in_hand us) ≡ held_by lists (filter is_in_hand us)
held-more lists lists' acc [] l k = refl
held-more lists lists' acc (u ∷ us) l k =
    ⊎_elim
    (λ (e : is_in_hand u ≡ true). rw e (ap (λ z. z ++ held_by lists' (filter is_in_hand us)) (l u.serial k.0) ∙ ap (λ z. list_of lists u.serial ++ z) (held-more lists lists' acc us l k.1)))
    (λ (e : is_in_hand u ≡ false). rw e (held-more lists lists' acc us l k.1))
    (cases_Bool (is_in_hand u))

filter-snoc : (us : List Unfinished) (u : Unfinished) → is_in_hand u ≡ false → filter is_in_hand (us ++ u ∷ []) ≡ filter is_in_hand us
filter-snoc [] u h = rw h refl
filter-snoc (v ∷ us) u h =
    ⊎_elim
    (λ (e : is_in_hand v ≡ true). rw e (ap (λ z. v ∷ z) (filter-snoc us u h)))
    (λ (e : is_in_hand v ≡ false). rw e (filter-snoc us u h))
    (cases_Bool (is_in_hand v))

abbrev filled : DeviceState → List (Option (List ℕ)) → CommandData → List ℕ → List (Option (List ℕ))
filled d area c bs = written_along (block_size d.settings.pages) (grown (block_size d.settings.pages) area (above_all bs)) bs (cond (takes_payload c.cdb) c.sent (zeros (block_size d.settings.pages * length bs)))

pub submit-blocks : (area : List (Option (List ℕ))) (d : DeviceState) (lists : List Taken) (s : ℕ) (c : CommandData) → IsSound d → ListsSound d lists → AreWhole (block_size d.settings.pages) area → 1 ≤ d.settings.pages →
    BlocksStand area d lists → HasRoom d c → Every (λ k. k < s) (serials_in d.ring.laid) →
    BlocksStand (filled d area c (least_free d.settings.blocks (held_by lists d.unfinished) (blocks_of d.settings.pages c))) (laid_in d (cmd_item d s c) (with_waiting d s c)) (with_taken d lists s c)
submit-blocks area d lists s c sound owned whole pages stand room above =
    let size : ℕ = block_size d.settings.pages in
    let hs : List ℕ = held_by lists d.unfinished in
    let n : ℕ = blocks_of d.settings.pages c in
    let bs : List ℕ = least_free d.settings.blocks hs n in
    let rows : Every (λ (v : Unfinished). v.serial < s) d.unfinished = rows_below d s sound above in
    let lists' = with_taken d lists s c in
    let u : Unfinished = waiting d s c in
    let lh : length hs ≡ held_blocks d = held_length d.settings.pages lists d.unfinished owned.sizes in
    let ln : length bs ≡ n = length-least_free d.settings.blocks hs n (omega (arith, lh, room.blocks)) in
    let free : Every (IsFree hs 0 (0 + d.settings.blocks)) bs = least-are d.settings.blocks hs n in
    let old : (q : ℕ) → q < s → list_of lists' q ≡ list_of lists q = λ q h. ap blocks_taken (first-append (λ (l : Taken). eqb l.serial q) lists (record { serial = s; blocks = bs }) (ne_eqb s q (λ z. absurd (omega arith)))) in
    let new : list_of lists' s ≡ bs = ap blocks_taken (first-here (λ (l : Taken). eqb l.serial s) lists (record { serial = s; blocks = bs }) (eq-eqb s s refl) (unlisted lists s (lists_below d lists s owned above))) in
    let area1 = grown size area (above_all bs) in
    let area' = filled d area c bs in
    let here : Every (IsHome size area1) bs = given-home area d lists n whole stand in
    let same : (b : ℕ) → is_among hs b ≡ true → (o : Option (List ℕ)) → slice_get area b ≡ Some o → slice_get area' b ≡ Some o =
    λ b h o g. scattered-other size area1 bs (cond (takes_payload c.cdb) c.sent (zeros (size * length bs))) b (none-among hs bs b 0 (0 + d.settings.blocks) free h) ∙ grown-old size area (above_all bs) b o g in
    let pay : payload_length c ≤ size * n = enough (payload_length c) size (omega arith) in
    let dat : HaveData size area' bs (payload_of u) = new-data size n area1 c bs u (omega arith) ln pay refl refl (least-differ d.settings.blocks hs n) here in
    record {
      all = every-push (BlocksOf size area' lists') d.unfinished u (all-old size area area' lists lists' hs s d.unfinished old same (λ b h. h) rows stand.all)
          (subst (λ (xs : List ℕ). HaveData size area' xs (payload_of u)) (sym new) dat);
      just = λ b h.
          let f : held_by lists' (filter is_in_hand (d.unfinished ++ u ∷ [])) ≡ held_by lists (filter is_in_hand d.unfinished) =
          ap (held_by lists') (filter-snoc d.unfinished u refl) ∙ held-more lists lists' s d.unfinished old rows in
          ap (λ xs. is_among xs b) f ∙ stand.just b (was-lent b h dat.here);
    }
  where
    was-lent : (b : ℕ) → IsLent (filled d area c (least_free d.settings.blocks (held_by lists d.unfinished) (blocks_of d.settings.pages c))) b →
        Every (IsHome (block_size d.settings.pages) (filled d area c (least_free d.settings.blocks (held_by lists d.unfinished) (blocks_of d.settings.pages c)))) (least_free d.settings.blocks (held_by lists d.unfinished) (blocks_of d.settings.pages c)) → IsLent area b
    was-lent b h here =
        let size : ℕ = block_size d.settings.pages in
        let bs : List ℕ = least_free d.settings.blocks (held_by lists d.unfinished) (blocks_of d.settings.pages c) in
        ⊎_elim
        (λ (e : is_among bs b ≡ true). let i = among_every (IsHome size (filled d area c bs)) bs b here e in let k : Some (Some i.0) ≡ Some None = sym i.1 ∙ h in absurd (cc))
        (λ (e : is_among bs b ≡ false). grown-lent size area (above_all bs) b (sym (scattered-other size (grown size area (above_all bs)) bs (cond (takes_payload c.cdb) c.sent (zeros (size * length bs))) b e) ∙ h))
        (cases_Bool (is_among bs b))

-- ==== the law

laid_area : List (Option (List ℕ)) → ℕ → ℕ → CommandData → List ℕ → List (Option (List ℕ))
laid_area area p q c bs = written_along (block_size p) (grown (block_size p) area (above_all bs)) bs (cond (takes_payload c.cdb) c.sent (zeros (block_size q * length bs)))

pub blocks_stand_laid : (r : RegionState) (t : TargetState) (d : DeviceState) (lists : List Taken) (s : ℕ) (c : CommandData) (id : ℕ) →
    IsSound d → ListsSound d lists → AreSized (block_size r.pages) r.blocks → r.pages ≡ d.settings.pages → BlocksStand r.blocks d lists → TargetKeeps t d lists → HasRoom d c → Every (λ k. k < s) (serials_in d.ring.laid) →
    BlocksStand (region_laid r t c id).blocks (with_command d s c) (with_taken d lists s c)
unfolding with_command region_laid laid_area
blocks_stand_laid r t d lists s c id sound owned sized pages stand keeps room above =
    let free0 : List ℕ = least_free d.settings.blocks (held_by lists d.unfinished) (blocks_of d.settings.pages c) in
    let e : (region_laid r t c id).blocks ≡ filled d r.blocks c free0 =
    ap (λ p. laid_area r.blocks p t.settings.pages c (blocks_given t c)) pages
    ∙ ap (λ (z : SettingsData). laid_area r.blocks d.settings.pages z.pages c (blocks_given t c)) keeps.settings
    ∙ ap (laid_area r.blocks d.settings.pages d.settings.pages c) (blocks-same t d lists c keeps) in
    let w : AreWhole (block_size d.settings.pages) r.blocks = subst (λ p. AreWhole (block_size p) r.blocks) pages (sized_whole (block_size r.pages) r.blocks sized) in
    subst (λ (area : List (Option (List ℕ))). BlocksStand area (laid_in d (cmd_item d s c) (with_waiting d s c)) (with_taken d lists s c)) (sym e)
    (submit-blocks r.blocks d lists s c sound owned w sound.settings.pages_low stand room above)

pub laid_home : (r : RegionState) (t : TargetState) (d : DeviceState) (lists : List Taken) (c : CommandData) →
    IsSound d → ListsSound d lists → AreSized (block_size r.pages) r.blocks → r.pages ≡ d.settings.pages → BlocksStand r.blocks d lists → TargetKeeps t d lists → HasRoom d c →
    Every (IsHome (block_size r.pages) (grown (block_size r.pages) r.blocks (above_all (blocks_given t c)))) (blocks_given t c)
laid_home r t d lists c sound owned sized pages stand keeps room =
    let w : AreWhole (block_size d.settings.pages) r.blocks = subst (λ p. AreWhole (block_size p) r.blocks) pages (sized_whole (block_size r.pages) r.blocks sized) in
    let h : AllHome d.settings.pages (least_free d.settings.blocks (held_by lists d.unfinished) (blocks_of d.settings.pages c)) = given-home r.blocks d lists (blocks_of d.settings.pages c) w stand in
    subst (λ p. AllHome p (blocks_given t c)) (sym pages) (subst (λ bs. AllHome d.settings.pages bs) (sym (blocks-same t d lists c keeps)) h)
  where
    AllHome : ℕ → List ℕ → Type 0
    AllHome p bs = Every (IsHome (block_size p) (grown (block_size p) r.blocks (above_all bs))) bs
