-- The lengths of what is written into a ring, and where its ids stand.
use Rattle.std.proofs.Common.{◌≡◌, ℕ, ◌+◌, ◌-◌, ◌*◌, ◌/◌, ◌%◌, ◌^◌, ◌≤◌, ◌<◌, List, [], ◌∷◌, ◌++◌, length, take, drop, refl, sym, ap, ◌∙◌, arith, suc, zero, length-append}
use Rattle.std.proofs.Math.Nat.{add-mul-mod_self_left}
use Rattle.std.proofs.lemmas.List.{take-take, drop-take, length-take-le}
use Rattle.tcmu_types.specs.declared.settings.Flags.{Flags}
use Rattle.tcmu_model.specs.Lengths.{round_up}
use Rattle.tcmu_model.specs.RingState.{head}
use Rattle.region_model.specs.Layout.{ring_start, head_place, mailbox_bytes, device_mailbox, entry_header, iovs_bytes, command_head, cdb_place, command_length, command_bytes}
use Rattle.tcmu_types.specs.ByteFields.{le, field, put, padded}
use Rattle.tcmu_types.specs.Overwriting.{zeros}
use Rattle.region_model.specs.Picture.{tail}
use Rattle.tcmu_types.specs.declared.iovec.Iov.{Iov}
use Rattle.tcmu_types.proofs.ByteFields.{lengths as writes, length-le, field-in, field-front}
use Rattle.region_model.proofs.HeaderLengths.{length-command_head}

pub add-mod : (a b n : ℕ) → (a % n + b) % n ≡ (a + b) % n
add-mod a b n = let e : (a % n + b) + n * (a / n) ≡ a + b = omega arith in sym (add-mul-mod_self_left (a % n + b) n (a / n)) ∙ ap (λ t. t % n) e

pub take-past : (p q : List ℕ) (n m : ℕ) → length p ≡ m → m ≤ n → take n (p ++ q) ≡ p ++ take (n - m) q
take-past [] q n m e h = let z : n - m ≡ n = let k : m ≡ 0 = sym e in omega arith in ap (λ t. take t q) (sym z)
take-past (x ∷ p) q n zero e h = absurd (omega arith)
take-past (x ∷ p) q zero (suc m) e h = absurd (omega arith)
take-past (x ∷ p) q (suc n) (suc m) e h = let d : suc n - suc m ≡ n - m = omega arith in ap (λ zs. x ∷ zs) (take-past p q n m (omega arith) (omega arith)) ∙ ap (λ t. x ∷ (p ++ take t q)) (sym d)

-- writing within a front
pub take-written_inside : (xs : List ℕ) (at : ℕ) (ys : List ℕ) (n : ℕ) → at + length ys ≤ n → n ≤ length xs → take n (put xs at ys) ≡ put (take n xs) at ys
unfolding put
take-written_inside xs at ys n h l =
    let m : ℕ = at + length ys in
    let k : n ≡ m + (n - m) = omega arith in
    let tk : take n xs ≡ take (m + (n - m)) xs = ap (λ t. take t xs) k in
    let a : take at (take n xs) ≡ take at xs = take-take at n xs (omega arith) in
    let b : drop m (take n xs) ≡ take (n - m) (drop m xs) = ap (drop m) tk ∙ drop-take m (n - m) xs in
    let la : length (take at xs) ≡ at = length-take-le at xs (omega arith) in
    let lp : length (take at xs ++ ys) ≡ m = length-append (take at xs) ys ∙ ap (λ t. t + length ys) la in
    let c : take n (take at xs ++ ys ++ drop m xs) ≡ take at xs ++ ys ++ take (n - m) (drop m xs) = take-past (take at xs ++ ys) (drop m xs) n m lp (omega arith) in
    c ∙ ap (λ zs. take at xs ++ ys ++ zs) (sym b) ∙ ap (λ zs. zs ++ ys ++ drop m (take n xs)) (sym a)

-- the mailbox with its head moved
pub mailbox_moved : (f : Flags) (size head tail head' : ℕ) → put (mailbox_bytes (device_mailbox f size head tail)) head_place (le 4 head') ≡ mailbox_bytes (device_mailbox f size head' tail)
unfolding put le zeros mailbox_bytes
mailbox_moved f size head tail head' = refl

-- ==== a command's entry

head-id : (len id count off : ℕ) → id < 2 ^ 16 → field 2 4 (command_head len id count off) ≡ id
unfolding command_head entry_header le zeros
head-id len id count off h =
    field-front 2 4 (((le 4 (len + 1) ++ le 2 id) ++ zeros 2)) (le 4 count ++ le 4 0 ++ le 4 0 ++ zeros 4 ++ le 8 off ++ zeros 16) (omega writes) ∙ field-in 2 4 id (le 4 (len + 1)) (zeros 2) ((le 4 (len + 1) ++ le 2 id) ++ zeros 2) refl (sym (length-le 4 (len + 1))) h

pub id_of_request : (at id slots : ℕ) (iovs : List Iov) (cdb : List ℕ) → id < 2 ^ 16 → field 2 4 (command_bytes at id slots iovs cdb) ≡ id
unfolding command_bytes padded
id_of_request at id slots iovs cdb h =
    let c : List ℕ = command_head (command_length slots (length cdb)) id (length iovs) (ring_start + at + cdb_place slots) in
    let l : length c ≡ 48 = length-command_head (command_length slots (length cdb)) id (length iovs) (ring_start + at + cdb_place slots) in
    let z : List ℕ = zeros (cdb_place slots - length (c ++ iovs_bytes iovs)) in
    let l1 : length (c ++ iovs_bytes iovs) ≡ length c + length (iovs_bytes iovs) = length-append c (iovs_bytes iovs) in
    let l2 : length ((c ++ iovs_bytes iovs) ++ z) ≡ length (c ++ iovs_bytes iovs) + length z = length-append (c ++ iovs_bytes iovs) z in
    field-front 2 4 ((c ++ iovs_bytes iovs) ++ z) (cdb ++ zeros (round_up (length cdb) - length cdb)) (omega (arith, l, l1, l2))
    ∙ field-front 2 4 (c ++ iovs_bytes iovs) z (omega (arith, l, l1))
    ∙ field-front 2 4 c (iovs_bytes iovs) (omega (arith, l))
    ∙ head-id (command_length slots (length cdb)) id (length iovs) (ring_start + at + cdb_place slots) h
