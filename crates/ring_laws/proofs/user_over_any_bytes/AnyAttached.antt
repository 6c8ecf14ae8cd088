-- The user side as it is attached, over any bytes.
use Rattle.std.proofs.Common.{◌≡◌, Result, Ok, Err, refl, ap, subst}
use Rattle.tcmu_types.proofs.Readings.{same_ok}
use Rattle.region_model.specs.declared.mailbox.Mailbox.{Mailbox}
use Rattle.region_model.specs.declared.mailbox.MailboxFault.{MailboxFault}
use Rattle.region_model.specs.Regions.{RegionState}
use Rattle.region_model.specs.Sides.{UserState}
use Rattle.region_model.specs.UserSteps.{user_mailbox, user_of, attached_to, user_attached}
use Rattle.ring_laws.specs.UserKept.{UserSound, HasRing, HasPages}
use Rattle.ring_laws.proofs.PassedEntries.{ReadFrom, read_from}

pub attached_sound : (r : RegionState) (u : UserState) → user_attached r ≡ Ok u → UserSound u × HasRing r u
unfolding user_attached
attached_sound r u h = go (user_mailbox r) refl h
  where
    go : (o : Result Mailbox MailboxFault) → user_mailbox r ≡ o → attached_to r.pages o ≡ Ok u → UserSound u × HasRing r u
    go (Err fault) e q = absurd (cc)
    go (Ok m) e q =
        let f : ReadFrom r m = read_from r m e in
        let b = f.bounded in
        subst (λ (v : UserState). UserSound v × HasRing r v) (same_ok (user_of r.pages m) u q) (
          record {
            ring = b.ring;
            place = record { below = b.tail_below; aligned = b.tail_aligned };
            tail = record { below = b.tail_below; aligned = b.tail_aligned };
            items = tt;
            offsets = tt;
          },
          f.front,
        )

pub attached_pages : (r : RegionState) (u : UserState) → user_attached r ≡ Ok u → HasPages r u
unfolding user_attached
attached_pages r u h = go (user_mailbox r) h
  where
    go : (o : Result Mailbox MailboxFault) → attached_to r.pages o ≡ Ok u → HasPages r u
    go (Err fault) q = absurd (cc)
    go (Ok m) q = ap (λ (v : UserState). v.pages) (same_ok (user_of r.pages m) u q)
