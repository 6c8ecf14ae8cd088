-- Whole entries from the writes of their parts.
use Rattle.std.proofs.Common.{◌≡◌, ℕ, ◌+◌, ◌-◌, ◌*◌, ◌≤◌, List, ◌++◌, length, refl, ap, ◌∙◌, arith}
use Rattle.tcmu_types.specs.declared.iovec.Iov.{Iov}
use Rattle.tcmu_model.specs.Lengths.{round_up, tmr_length}
use Rattle.region_model.specs.Layout.{entry_header, command_head, command_bytes, command_length, cdb_place, tmr_bytes, iovs_bytes, ids_bytes}
use Rattle.tcmu_types.specs.ByteFields.{le, put, padded}
use Rattle.tcmu_types.specs.Overwriting.{zeros}
use Rattle.tcmu_types.proofs.ByteFields.{lengths, then_put, padded-is, length-padded}
use Rattle.region_model.proofs.HeaderLengths.{length-entry_header, length-command_head}
use Rattle.region_model.proofs.PartLengths.{length-iovs_bytes, length-ids_bytes}

ruleset sizes = (lengths, length-entry_header, length-command_head)

pub request_written : (f f1 f2 f3 f4 : List ℕ) (at id slots place : ℕ) (iovs : List Iov) (cdb : List ℕ)
    → place ≡ cdb_place slots → length iovs ≤ slots
    → 128 + at + command_length slots (length cdb) ≤ length f
    → f1 ≡ put f (128 + at) (command_head (place + round_up (length cdb)) id (length iovs) (128 + at + place))
    → f2 ≡ put f1 (128 + at + 48) (iovs_bytes iovs)
    → f3 ≡ put f2 (128 + at + (48 + 16 * length iovs)) (zeros (place - (48 + 16 * length iovs)))
    → f4 ≡ put f3 (128 + at + place) (padded (round_up (length cdb)) cdb)
    → f4 ≡ put f (128 + at) (command_bytes at id slots iovs cdb)
unfolding command_bytes
request_written f f1 f2 f3 f4 at id slots place iovs cdb is few room w1 w2 w3 w4 =
    let o = 128 + at in
    let count = length iovs in
    let text = iovs_bytes iovs in
    let len : length text ≡ 16 * count = length-iovs_bytes iovs in
    let head = command_head (place + round_up (length cdb)) id count (128 + at + place) in
    let tail : length (padded (round_up (length cdb)) cdb) ≡ round_up (length cdb) = length-padded (round_up (length cdb)) cdb (omega arith) in
    let v2 : f2 ≡ put f o (head ++ text) = then_put f f1 f2 o (o + 48) _ _ w1 w2 (omega sizes) (omega sizes) in
    let v3 : f3 ≡ put f o ((head ++ text) ++ zeros (place - (48 + 16 * count))) = then_put f f2 f3 o _ _ _ v2 w3 (omega sizes) (omega sizes) in
    let v4 : f4 ≡ put f o (((head ++ text) ++ zeros (place - (48 + 16 * count))) ++ padded (round_up (length cdb)) cdb) = then_put f f3 f4 o _ _ _ v3 w4 (omega sizes) (omega sizes) in
    v4
    ∙ ap (λ (w : List ℕ). put f o (w ++ padded (round_up (length cdb)) cdb)) (padded-is place (48 + 16 * count) _ (head ++ text) (omega sizes) refl)
    ∙ ap (λ (p : ℕ). put f o (padded p (command_head (p + round_up (length cdb)) id count (128 + at + p) ++ text) ++ padded (round_up (length cdb)) cdb)) is

pub tmr_written : (f f1 f2 f3 f4 f5 f6 f7 : List ℕ) (at kind : ℕ) (ids : List ℕ)
    → 128 + at + tmr_length (length ids) ≤ length f
    → f1 ≡ put f (128 + at) (entry_header 2 (tmr_length (length ids)) 0)
    → f2 ≡ put f1 (128 + at + 8) (le 1 kind)
    → f3 ≡ put f2 (128 + at + 9) (zeros 3)
    → f4 ≡ put f3 (128 + at + 12) (le 4 (length ids))
    → f5 ≡ put f4 (128 + at + 16) (zeros 16)
    → f6 ≡ put f5 (128 + at + 32) (ids_bytes ids)
    → f7 ≡ put f6 (128 + at + (32 + 2 * length ids)) (zeros (tmr_length (length ids) - (32 + 2 * length ids)))
    → f7 ≡ put f (128 + at) (tmr_bytes kind ids)
unfolding tmr_bytes
tmr_written f f1 f2 f3 f4 f5 f6 f7 at kind ids room w1 w2 w3 w4 w5 w6 w7 =
    let o = 128 + at in
    let count = length ids in
    let len : length (ids_bytes ids) ≡ 2 * count = length-ids_bytes ids in
    let v2 = then_put _ _ _ o (o + 8) _ _ w1 w2 (omega sizes) (omega sizes) in
    let v3 = then_put _ _ _ o (o + 9) _ _ v2 w3 (omega sizes) (omega sizes) in
    let v4 = then_put _ _ _ o (o + 12) _ _ v3 w4 (omega sizes) (omega sizes) in
    let v5 = then_put _ _ _ o (o + 16) _ _ v4 w5 (omega sizes) (omega sizes) in
    let v6 = then_put _ _ _ o (o + 32) _ _ v5 w6 (omega sizes) (omega sizes) in
    let v7 = then_put _ _ _ o _ _ _ v6 w7 (omega sizes) (omega sizes) in
    v7 ∙ ap (put f o) (padded-is (tmr_length count) (32 + 2 * count) _ _ (omega sizes) refl)
