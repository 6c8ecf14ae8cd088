-- Which way the data of an operation code goes.
use Rattle.std.proofs.Common.{◌≡◌, ℕ, true, false, List, [], ◌∷◌, refl, ⊎_elim, subst, eqb}
use Rattle.std.specs.Prelude.{Result, Err, Some, slice_get, slice_index}
use Rattle.std.proofs.lemmas.Bool.{cases_Bool}
use Rattle.tcmu_types.specs.Lists.{Every}
use Rattle.tcmu_types.specs.Rules.{is_data_out}
use Rattle.tcmu_types.proofs.Everies.{every_at}
use Rattle.scsi_model.specs.declared.op.Op.{Op}
use Rattle.scsi_model.specs.declared.op.CdbFault.{CdbFault}
use Rattle.scsi_model.specs.declared.op.CdbFault.TheVariants.{Opcode, Field}
use Rattle.scsi_model.specs.Decoding.{FieldRule, Row, decoded, looked_up, rows, ruled}
use Rattle.order_laws.specs.Directions.{sends}

pub served_directions : (cdb : List ℕ) → Every (λ r. is_data_out r.code ≡ sends r.op) (rows cdb)
served_directions cdb = (refl, (refl, (refl, (refl, (refl, (refl, (refl, (refl, (refl, (refl, (refl, (refl, (refl, (refl, (refl, (refl, (refl, (refl, (refl, (refl, (refl, tt)))))))))))))))))))))

-- a broken rule is no fault of the code
ruled_code : (rules : List FieldRule) (op : Op) (c : ℕ) → ruled rules op ≡ Err (Opcode c) → ⊥
ruled_code [] op c h = absurd (cc)
ruled_code (r ∷ rules) op c h =
    ⊎_elim
    (λ (e : r.broken ≡ true). let k : ◌≡◌ {A = Result Op CdbFault} (Err (Field r.at)) (Err (Opcode c)) = rw e at h in absurd (cc))
    (λ (e : r.broken ≡ false). let k : ruled rules op ≡ Err (Opcode c) = rw e at h in ruled_code rules op c k)
    (cases_Bool r.broken)

-- a code that is refused is none of the table's
no_row : (code c : ℕ) (rs : List Row) → looked_up code rs ≡ Err (Opcode c) → (code ≡ c) × Every (λ r. eqb code r.code ≡ false) rs
no_row code c [] h = (cc, tt)
no_row code c (r ∷ rs) h =
    ⊎_elim
    (λ (e : eqb code r.code ≡ true). let k : ruled r.rules r.op ≡ Err (Opcode c) = rw e at h in absurd (ruled_code r.rules r.op c k))
    (λ (e : eqb code r.code ≡ false).
    let k : looked_up code rs ≡ Err (Opcode c) = rw e at h in
    let l = no_row code c rs k in
    (l.0, (e, l.1)))
    (cases_Bool (eqb code r.code))

-- WRITE, WRITE SAME, UNMAP and COMPARE AND WRITE stand in these rows
others : (cdb : List ℕ) (code : ℕ) → Every (λ r. eqb code r.code ≡ false) (rows cdb) → is_data_out code ≡ eqb code 0x5f
others cdb code h =
    let row : (i : ℕ) (r : Row) → slice_get (rows cdb) i ≡ Some r → eqb code r.code ≡ false = λ i r e. every_at (λ (x : Row). eqb code x.code ≡ false) (rows cdb) i r h e in
    rw (row 11 _ refl, row 12 _ refl, row 13 _ refl, row 14 _ refl, row 17 _ refl, row 18 _ refl, row 19 _ refl, row 20 _ refl) refl

pub unserved_directions : (cdb : List ℕ) (code : ℕ) → decoded cdb ≡ Err (Opcode code) → is_data_out code ≡ eqb code 0x5f
unfolding decoded
unserved_directions cdb code h =
    let k = no_row (slice_index cdb 0) code (rows cdb) h in
    subst (λ (c : ℕ). is_data_out c ≡ eqb c 0x5f) k.0 (others cdb (slice_index cdb 0) k.1)
