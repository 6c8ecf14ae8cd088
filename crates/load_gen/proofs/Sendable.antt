-- The commands of a load may be sent.
use Rattle.std.proofs.Common.{◌≡◌, ◌⊎◌, inl, inr, ℕ, ◌*◌, ◌≤◌, true, [], length, replicate, codes, refl, arith}
use Rattle.std.proofs.lemmas.List.{length-replicate}
use Rattle.std.proofs.lemmas.Bool.{le-leb}
use Rattle.tcmu_types.specs.Data.{CommandData}
use Rattle.tcmu_types.specs.Rules.{is_sendable, IsCommand, IsCdb}
use Rattle.text_model.specs.Load.{load_cdb}

pub write_sendable : (tag place count fill : ℕ) → count ≤ 8
    → is_sendable (record { init = codes "a"; tag = tag; cdb = load_cdb 0x2a place count; sent = replicate (count * 512) fill; in_len = 0 }) ≡ true
unfolding load_cdb
write_sendable tag place count fill few = rw (length-replicate (count * 512) fill, le-leb (count * 512) 1048576 (omega arith)) refl

pub read_sendable : (tag place count : ℕ) → count ≤ 8
    → is_sendable (record { init = codes "a"; tag = tag; cdb = load_cdb 0x28 place count; sent = []; in_len = count * 512 }) ≡ true
unfolding load_cdb
read_sendable tag place count few = rw (le-leb (count * 512) 1048576 (omega arith)) refl

-- what the limits say of each command of a load
pub record IsLoad (c : CommandData) : Type 0 where
  pub command : IsCommand c
  pub init : c.init ≡ codes "a"
  pub in_len : c.in_len ≤ 4096
  pub sent : length c.sent ≤ 4096

cdb_is : (code place count : ℕ) → (code ≡ 0x28) ⊎ (code ≡ 0x2a) → IsCdb (load_cdb code place count)
unfolding load_cdb
cdb_is code place count (inl e) = record { some = omega arith; group = rw e refl }
cdb_is code place count (inr e) = record { some = omega arith; group = rw e refl }

pub write_is : (tag place count fill : ℕ) → count ≤ 8 → IsLoad (record { init = codes "a"; tag = tag; cdb = load_cdb 0x2a place count; sent = replicate (count * 512) fill; in_len = 0 })
unfolding load_cdb
write_is tag place count fill few =
    record {
      command = record {
        init = refl;
        cdb = cdb_is 0x2a place count (inr refl);
        directed = refl;
        sent = omega (arith, length-replicate (count * 512) fill);
        in_len = omega arith;
      };
      init = refl;
      in_len = omega arith;
      sent = omega (arith, length-replicate (count * 512) fill);
    }

pub read_is : (tag place count : ℕ) → count ≤ 8 → IsLoad (record { init = codes "a"; tag = tag; cdb = load_cdb 0x28 place count; sent = []; in_len = count * 512 })
unfolding load_cdb
read_is tag place count few =
    record {
      command = record {
        init = refl;
        cdb = cdb_is 0x28 place count (inl refl);
        directed = refl;
        sent = omega arith;
        in_len = omega arith;
      };
      init = refl;
      in_len = omega arith;
      sent = omega arith;
    }
