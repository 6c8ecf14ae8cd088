-- A device as it opens is represented by a region as it opens.
use Rattle.std.proofs.Common.{◌≡◌, ℕ, ◌-◌, ◌%◌, ◌≤◌, Bool, true, false, List, [], length, take, refl, sym, ap, ◌∙◌, arith}
use Rattle.std.proofs.lemmas.List.{take_at}
use Rattle.tcmu_types.specs.Data.{SettingsData}
use Rattle.tcmu_types.specs.Rules.{IsSettings}
use Rattle.tcmu_types.specs.declared.settings.Flags.{Flags}
use Rattle.region_model.specs.declared.mailbox.Mailbox.{Mailbox}
use Rattle.tcmu_model.specs.Device.{opening_state}
use Rattle.region_model.specs.Layout.{mailbox_bytes, device_mailbox, data_start}
use Rattle.tcmu_types.specs.ByteFields.{padded}
use Rattle.tcmu_types.specs.Overwriting.{zeros}
use Rattle.region_model.specs.Regions.{opening_region}
use Rattle.region_model.specs.TargetSteps.{opening_target}
use Rattle.region_model.specs.UserSteps.{flags_in, opening_user}
use Rattle.region_model.specs.Represents.{Represents}
use Rattle.tcmu_types.proofs.ByteFields.{length-padded}
use Rattle.region_model.proofs.PartLengths.{length-mailbox}

pub take-padded : (n k : ℕ) (xs : List ℕ) → length xs ≡ k → take k (padded n xs) ≡ xs
unfolding padded
take-padded n k xs h = take_at xs (zeros (n - length xs)) k h

flags_of_bits : (a b c : Bool) → flags_in (device_mailbox (record { ooo = a; read_len = b; tmr = c }) 0 0 0).flags ≡ record { ooo = a; read_len = b; tmr = c }
flags_of_bits true true true = refl
flags_of_bits true true false = refl
flags_of_bits true false true = refl
flags_of_bits true false false = refl
flags_of_bits false true true = refl
flags_of_bits false true false = refl
flags_of_bits false false true = refl
flags_of_bits false false false = refl

pub flags-again : (f : Flags) → flags_in (device_mailbox f 0 0 0).flags ≡ f
flags-again f = flags_of_bits f.ooo f.read_len f.tmr

pub represents_opening : (s : SettingsData) → IsSettings s → Represents (opening_region s) (opening_target s) (opening_user s) [] (opening_state s) []
unfolding opening_target opening_user
represents_opening s h =
    let z : 0 % s.ring ≡ 0 = let k : 4096 ≤ s.ring = h.ring.least in omega arith in
    let m : Mailbox = device_mailbox s.flags s.ring 0 0 in
    let l : ◌≡◌ {A = ℕ} (length (mailbox_bytes m)) 128 = length-mailbox m in
    record {
      ring = record {
        long = length-padded (data_start s.ring) (mailbox_bytes m) (omega arith);
        mailbox = take-padded (data_start s.ring) 128 (mailbox_bytes m) l
            ∙ ap (λ y. mailbox_bytes (device_mailbox s.flags s.ring y 0)) (sym z) ∙ ap (λ y. mailbox_bytes (device_mailbox s.flags s.ring (0 % s.ring) y)) (sym z);
        stands = λ i x c g. absurd (cc);
        recorded = refl;
      };
      ids = record { range = tt; differ = tt; answered = λ i x q c g k p. absurd (cc); own = λ i n q c l g. absurd (cc) };
      notes = λ i n k ss l g. absurd (cc);
      blocks = record { all = tt; just = λ b g. absurd (cc) };
      jobs = record { given = tt; out = tt; offsets = refl };
      target = record { settings = refl; now = refl; blocked = refl; accepted = refl; rows = refl; delayed = refl; cleaned = sym z; laid = refl; cleared = refl; broken = refl; log = refl };
      side = record { ring = refl; pages = refl; flags = flags-again s.flags; tail = sym z; dispatched = refl; placed = refl; published = refl; place = λ a. sym z; items = λ a. refl };
      pages = refl;
    }
