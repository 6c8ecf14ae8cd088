-- A response that was written is read, and logs what the device logs.
use Rattle.std.proofs.Common.{◌≡◌, ℕ, ◌+◌, ◌-◌, ◌%◌, ◌^◌, ◌≤◌, ◌<◌, ◌&&◌, min, Bool, true, false, not, cond, List, [], ◌++◌, length, take, drop, refl, sym, ap, ◌∙◌, arith, Option, Some, None, length-append, length-drop, ⊎_elim, eqb}
use Rattle.std.specs.Prelude.{IfSome, IsTrue, unwrap_or, ◌∷◌}
use Rattle.std.specs.Option.{is_some}
use Rattle.std.proofs.lemmas.Bool.{cases_Bool, eqb-true}
use Rattle.std.proofs.lemmas.List.{take_at, drop_at, take-take, take-append-drop, length-take-le, drop-drop, nil_from_length}
use Rattle.tcmu_types.specs.Data.{CommandData, SenseData, ReplyData, DoneData}
use Rattle.tcmu_types.specs.Rules.{takes_payload, IsCommand}
use Rattle.tcmu_types.specs.SenseBytes.{sense_in}
use Rattle.region_model.specs.declared.entry.Response.{Response}
use Rattle.tcmu_model.specs.declared.state.CommandState.TheVariants.{Placed}
use Rattle.tcmu_model.specs.Device.{Unfinished}
use Rattle.tcmu_model.specs.Events.{completion, completions, completed_payload}
use Rattle.tcmu_model.specs.Sound.{ReplyFits}
use Rattle.tcmu_model.specs.BlockLists.{Taken, list_of}
use Rattle.region_model.specs.Layout.{ring_start, sense_buffer, length_flag, answer_bytes, response_bytes}
use Rattle.tcmu_types.specs.ByteFields.{le, field, put, padded}
use Rattle.tcmu_types.specs.Overwriting.{zeros}
use Rattle.region_model.specs.EntryReading.{response_at}
use Rattle.tcmu_types.proofs.ByteFields.{lengths as writes, length-le, length-zeros, length-padded, field-front, field-put, field-le, field-in, drop-put, length-put}
use Rattle.region_model.specs.Areas.{bytes_along}
use Rattle.region_model.specs.Picture.{payload_of, told_length, answered_entry}
use Rattle.region_model.specs.Represents.{HaveData, entry_at, pending_of}
use Rattle.region_model.specs.TargetCleans.{completion_read, completions_read, length_told, payload_read, sense_read}
use Rattle.ring_laws.specs.Cleaned.{response_of}
use Rattle.ring_laws.proofs.Bytes.{part_of_front}
use Rattle.ring_laws.proofs.placed.Answered.{id_of_answered}
use Rattle.region_model.proofs.EntriesThere.{field_behind}
use Rattle.region_model.proofs.PartLengths.{length-sense, length-response}

-- ==== what is read of an entry

same_response : {a b c d a' b' c' d' : ℕ} {s s' : List ℕ} → a ≡ a' → b ≡ b' → c ≡ c' → d ≡ d' → s ≡ s' →
    ◌≡◌ {A = Response} (record { id = a; uflags = b; status = c; read_len = d; sense = s }) (record { id = a'; uflags = b'; status = c'; read_len = d'; sense = s' })
same_response p q r t u = cc

field_entry : (front : List ℕ) (b n k len : ℕ) → k + n ≤ len → b + len ≤ length front → field n (b + k) front ≡ field n k (take len (drop b front))
field_entry front b n k len h l =
    let d : List ℕ = drop b front in
    let ld : length d ≡ length front - b = length-drop b front in
    let lt : length (take len d) ≡ len = length-take-le len d (omega arith) in
    field_behind n b k front ∙ ap (field n k) (sym (take-append-drop len d)) ∙ field-front n k (take len d) (drop len d) (omega arith)

-- it stands in the first 112 bytes
pub response_of_entry : (front : List ℕ) (at len : ℕ) → 112 ≤ len → ring_start + at + len ≤ length front → response_at front (ring_start + at) ≡ response_at (entry_at front at len) 0
unfolding response_at
response_of_entry front at len h l =
    let b : ℕ = ring_start + at in
    let d : List ℕ = drop b front in
    let s : take 96 (drop (b + 16) front) ≡ take 96 (drop 16 (take len d)) =
    ap (take 96) (sym (drop-drop 16 b front)) ∙ part_of_front d (take len d) len 16 96 (omega arith) (sym (take-take len len d (omega arith))) in
    same_response (field_entry front b 2 4 len (omega arith) l) (field_entry front b 1 7 len (omega arith) l) (field_entry front b 1 8 len (omega arith) l) (field_entry front b 4 12 len (omega arith) l) s

pub response_read : (entry : List ℕ) (id : ℕ) (reply : ReplyData) (n : Option ℕ) → 112 ≤ length entry → id < 2 ^ 16 → reply.status < 256 → unwrap_or n 0 < 2 ^ 32 →
    response_at (answered_entry entry id reply n) 0 ≡ response_of id reply n
unfolding response_at answer_bytes
response_read entry id reply n h small status told =
    let x : List ℕ = put entry 4 (le 2 id) in
    let u : ℕ = length_flag n in
    let t : ℕ = unwrap_or n 0 in
    let buffer : List ℕ = padded 96 (sense_buffer reply.sense) in
    let r : List ℕ = response_bytes reply n in
    let l2 : length (le 2 id) ≡ 2 = length-le 2 id in
    let lx : length x ≡ length entry = length-put entry 4 (le 2 id) (omega arith) in
    let lr : length r ≡ 105 = length-response reply n in
    let lb : length buffer ≡ 96 = length-padded 96 (sense_buffer reply.sense) (length-sense reply.sense) in
    let l9 : length (le 1 u ++ le 1 reply.status ++ zeros 3 ++ le 4 t) ≡ 9 = omega writes in
    let uf : u < 256 = flag_small n in
    let f7 : field 1 7 (put x 7 r) ≡ u =
    field-put 1 7 0 7 x r (omega arith) (omega arith) (omega arith)
    ∙ field-front 1 0 (le 1 u ++ le 1 reply.status ++ zeros 3 ++ le 4 t) buffer (omega (arith, l9))
    ∙ field-front 1 0 (le 1 u ++ le 1 reply.status ++ zeros 3) (le 4 t) (omega writes)
    ∙ field-front 1 0 (le 1 u ++ le 1 reply.status) (zeros 3) (omega writes)
    ∙ field-front 1 0 (le 1 u) (le 1 reply.status) (omega writes)
    ∙ field-le 1 0 u [] refl uf in
    let f8 : field 1 8 (put x 7 r) ≡ reply.status =
    field-put 1 8 1 7 x r (omega arith) (omega arith) (omega arith)
    ∙ field-front 1 1 (le 1 u ++ le 1 reply.status ++ zeros 3 ++ le 4 t) buffer (omega (arith, l9))
    ∙ field-front 1 1 (le 1 u ++ le 1 reply.status ++ zeros 3) (le 4 t) (omega writes)
    ∙ field-front 1 1 (le 1 u ++ le 1 reply.status) (zeros 3) (omega writes)
    ∙ field-le 1 1 reply.status (le 1 u) (sym (length-le 1 u)) status in
    let f12 : field 4 12 (put x 7 r) ≡ t =
    field-put 4 12 5 7 x r (omega arith) (omega arith) (omega arith)
    ∙ field-in 4 5 t (le 1 u ++ le 1 reply.status ++ zeros 3) buffer r refl (omega writes) told in
    let s : take 96 (drop 16 (put x 7 r)) ≡ buffer =
    ap (take 96) (drop-put x 7 r 9 16 (omega arith) (omega arith) (omega arith) ∙ ap (λ y. y ++ drop (7 + length r) x) (drop_at (le 1 u ++ le 1 reply.status ++ zeros 3 ++ le 4 t) buffer 9 l9))
    ∙ take_at buffer (drop (7 + length r) x) 96 lb in
    same_response (id_of_answered entry id reply n h small) f7 f8 f12 s
  where
    flag_small : (o : Option ℕ) → length_flag o < 256
    flag_small None = omega arith
    flag_small (Some k) = omega arith

-- ==== what is logged

sense-logged : (reply : ReplyData) (o : Option SenseData) (id : ℕ) (n : Option ℕ) → reply.sense ≡ o → is_some o ≡ eqb reply.status 2 → IfSome o (λ s. s.key < 16) → sense_read (response_of id reply n) ≡ o
unfolding padded
sense-logged reply None id n e h k = let z : eqb reply.status 2 ≡ false = sym h in rw z refl
sense-logged reply (Some s) id n e h k =
    let z : eqb reply.status 2 ≡ true = sym h in
    let b : sense_in (padded 96 (sense_buffer reply.sense)) ≡ sense_in (padded 96 (sense_buffer (Some s))) = ap (λ y. sense_in (padded 96 (sense_buffer y))) e in
    let m : s.key % 16 ≡ s.key = (let l : s.key < 16 = k in omega arith) in
    let q : sense_in (padded 96 (sense_buffer (Some s))) ≡ s = ap (λ y. record { key = y; asc = s.asc; ascq = s.ascq }) m in
    rw z (ap Some (b ∙ q))

bits-even : (n : Option ℕ) → length_flag n % 2 ≡ 0
bits-even None = refl
bits-even (Some k) = refl

is_true : (b : Bool) → IsTrue b → b ≡ true
is_true b h = h

pick : (b : Bool) (x y : List ℕ) → (b ≡ true → x ≡ y) → cond b x [] ≡ cond b y []
pick true x y f = f refl
pick false x y f = refl

-- the payload of a GOOD answer
payload-logged : (size : ℕ) (area : List (Option (List ℕ))) (bs : List ℕ) (rl : Bool) (c : CommandData) (reply : ReplyData) (id : ℕ) → IsCommand c → ReplyFits c reply → eqb reply.status 0 ≡ true →
    (takes_payload c.cdb ≡ false → take c.in_len (bytes_along size area bs) ≡ reply.payload ++ zeros (c.in_len - length reply.payload)) →
    take (length_told (response_of id reply (told_length rl c.cdb reply)) c.in_len) (bytes_along size area bs) ≡ cond rl reply.payload (reply.payload ++ zeros (c.in_len - length reply.payload))
unfolding zeros
payload-logged size area bs rl c reply id ok fits good data_ =
    ⊎_elim
    (λ (t : takes_payload c.cdb ≡ true). out t rl)
    (λ (t : takes_payload c.cdb ≡ false). into t rl)
    (cases_Bool (takes_payload c.cdb))
  where
    both : (rl : Bool) → [] ≡ reply.payload → [] ≡ reply.payload ++ zeros (c.in_len - length reply.payload) → [] ≡ cond rl reply.payload (reply.payload ++ zeros (c.in_len - length reply.payload))
    both true a b = a
    both false a b = b

    no-told : (rl b : Bool) → takes_payload c.cdb ≡ true → ◌≡◌ {A = Option ℕ} (cond (rl && b && not (takes_payload c.cdb)) (Some (length reply.payload)) None) None
    no-told rl b t = rw t (ap (λ y. cond y (Some (length reply.payload)) None) (last rl b))
      where
        last : (x y : Bool) → (x && y && false) ≡ false
        last true true = refl
        last true false = refl
        last false y = refl

    out : takes_payload c.cdb ≡ true → (rl : Bool) → take (length_told (response_of id reply (told_length rl c.cdb reply)) c.in_len) (bytes_along size area bs) ≡ cond rl reply.payload (reply.payload ++ zeros (c.in_len - length reply.payload))
    out t rl =
        let d : IsTrue (cond (takes_payload c.cdb) (eqb c.in_len 0) (eqb (length c.sent) 0)) = ok.directed in
        let d0 : IsTrue (eqb c.in_len 0) = rw t at d in
        let z : c.in_len ≡ 0 = eqb-true c.in_len 0 (is_true (eqb c.in_len 0) d0) in
        let lp : length reply.payload ≡ 0 = (let f : length reply.payload ≤ c.in_len = fits.payload in omega arith) in
        let np : reply.payload ≡ [] = nil_from_length reply.payload lp in
        let told : told_length rl c.cdb reply ≡ None = no-told rl (eqb reply.status 0) t in
        let k : length_told (response_of id reply (told_length rl c.cdb reply)) c.in_len ≡ 0 = ap (λ y. length_told (response_of id reply y) c.in_len) told ∙ z in
        let r : reply.payload ++ zeros (c.in_len - length reply.payload) ≡ [] = (let w : c.in_len - length reply.payload ≡ 0 = omega arith in ap (λ y. y ++ zeros (c.in_len - length reply.payload)) np ∙ ap zeros w) in
        ap (λ y. take y (bytes_along size area bs)) k ∙ both rl (sym np) (sym r)

    into : takes_payload c.cdb ≡ false → (rl : Bool) → take (length_told (response_of id reply (told_length rl c.cdb reply)) c.in_len) (bytes_along size area bs) ≡ cond rl reply.payload (reply.payload ++ zeros (c.in_len - length reply.payload))
    into t true =
        let told : told_length true c.cdb reply ≡ Some (length reply.payload) = rw (good, t) refl in
        let f : length reply.payload ≤ c.in_len = fits.payload in
        let m : min c.in_len (length reply.payload) ≡ length reply.payload = omega arith in
        let k : length_told (response_of id reply (told_length true c.cdb reply)) c.in_len ≡ length reply.payload = ap (λ y. length_told (response_of id reply y) c.in_len) told ∙ m in
        ap (λ y. take y (bytes_along size area bs)) k ∙ sym (take-take (length reply.payload) c.in_len (bytes_along size area bs) f) ∙ ap (take (length reply.payload)) (data_ t)
        ∙ take_at reply.payload (zeros (c.in_len - length reply.payload)) (length reply.payload) refl
    into t false = data_ t

same-done : (u : Unfinished) (st : ℕ) {a b : Option SenseData} {x y : List ℕ} → a ≡ b → x ≡ y →
    ◌≡◌ {A = DoneData} (record { serial = u.serial; init = u.command.init; tag = u.command.tag; status = st; sense = a; payload = x }) (record { serial = u.serial; init = u.command.init; tag = u.command.tag; status = st; sense = b; payload = y })
same-done u st p q = cc

-- a command with its data logs its completion
pub completed-log : (size : ℕ) (area : List (Option (List ℕ))) (lists : List Taken) (u : Unfinished) (reply : ReplyData) (rl : Bool) (id : ℕ) →
    u.state ≡ Placed → u.reply ≡ Some reply → IsCommand u.command → ReplyFits u.command reply → HaveData size area (list_of lists u.serial) (payload_of u) →
    completions_read size area (pending_of lists u) (response_of id reply (told_length rl u.command.cdb reply)) ≡ completions rl u
unfolding zeros
completed-log size area lists u reply rl id st rep ok fits data_ =
    ⊎_elim
    (λ (x : u.expired ≡ true). rw x refl)
    (λ (x : u.expired ≡ false).
    let e : completion_read size area (pending_of lists u) (response_of id reply (told_length rl u.command.cdb reply)) ≡ completion rl u reply = done in
    rw (x, rep) (ap (λ y. y ∷ []) e))
    (cases_Bool u.expired)
  where
    shows : takes_payload u.command.cdb ≡ false → take u.command.in_len (bytes_along size area (list_of lists u.serial)) ≡ reply.payload ++ zeros (u.command.in_len - length reply.payload)
    shows t =
        let a : payload_of u ≡ reply.payload ++ zeros (u.command.in_len - length reply.payload) = rw (t, rep, st) refl in
        let f : length reply.payload ≤ u.command.in_len = fits.payload in
        let l : length (payload_of u) ≡ u.command.in_len = ap length a ∙ length-append reply.payload (zeros (u.command.in_len - length reply.payload)) ∙ (let z : length (zeros (u.command.in_len - length reply.payload)) ≡ u.command.in_len - length reply.payload = length-zeros (u.command.in_len - length reply.payload) in let w : length reply.payload + length (zeros (u.command.in_len - length reply.payload)) ≡ u.command.in_len = omega arith in w) in
        ap (λ n. take n (bytes_along size area (list_of lists u.serial))) (sym l) ∙ data_.begin_ ∙ a

    payloads : payload_read size area (pending_of lists u) (response_of id reply (told_length rl u.command.cdb reply)) ≡ completed_payload rl u.command.in_len reply
    payloads =
        pick (eqb reply.status 0) (take (length_told (response_of id reply (told_length rl u.command.cdb reply)) u.command.in_len) (bytes_along size area (list_of lists u.serial)))
        (cond rl reply.payload (reply.payload ++ zeros (u.command.in_len - length reply.payload))) (λ g. payload-logged size area (list_of lists u.serial) rl u.command reply id ok fits g shows)

    done : completion_read size area (pending_of lists u) (response_of id reply (told_length rl u.command.cdb reply)) ≡ completion rl u reply
    done =
        let n = told_length rl u.command.cdb reply in
        let s : sense_read (response_of id reply n) ≡ reply.sense = sense-logged reply reply.sense id n refl fits.rules.sense fits.rules.key in
        let p = payloads in
        let ev : eqb (length_flag n % 2) 1 ≡ false = ap (λ y. eqb y 1) (bits-even n) in
        rw ev (same-done u reply.status s p)
