-- Attaching, and attaching again, by the mailbox.
use Rattle.std.proofs.Common.{◌≡◌, ◌⊎◌, inl, inr, true, Result, Ok, Err, refl, sym, ap}
use Rattle.std.specs.Prelude.{IfErr, OnErr, OnOk, is_ok}
use Rattle.std.proofs.lemmas.Bool.{false≢true}
use Rattle.region_model.specs.declared.mailbox.Mailbox.{Mailbox}
use Rattle.region_model.specs.declared.mailbox.MailboxFault.{MailboxFault}
use Rattle.region_model.specs.Regions.{RegionState}
use Rattle.region_model.specs.Sides.{UserState}
use Rattle.region_model.specs.UserSteps.{attached_to, or_refused, region_abandoned, region_reattached, user_attached, user_mailbox, user_of}

pub attach_refused : (r : RegionState) (f : MailboxFault) → user_mailbox r ≡ Err f → user_attached r ≡ Err f
unfolding user_attached
attach_refused r f e = ap (attached_to r.pages) e

pub attach_made : (r : RegionState) (m : Mailbox) → user_mailbox r ≡ Ok m → user_attached r ≡ Ok (user_of r.pages m)
unfolding user_attached
attach_made r m e = ap (attached_to r.pages) e

pub reattach_refused : (r : RegionState) (u : UserState) (f : MailboxFault) → user_mailbox r ≡ Err f → r ≡ region_reattached r u
unfolding region_reattached
reattach_refused r u f e = sym (ap (or_refused r u.jobs) (attach_refused r f e))

pub reattach_made : (r : RegionState) (u : UserState) (m : Mailbox) → user_mailbox r ≡ Ok m → region_abandoned r u.jobs ≡ region_reattached r u
unfolding region_reattached
reattach_made r u m e = sym (ap (or_refused r u.jobs) (attach_made r m e))

-- ==== either answer

pub either : {X E : Type 0} (P Q : Type 0) (o : Result X E) → OnOk o P → OnErr o Q → P ⊎ Q
either P Q (Ok x) p q = inl p
either P Q (Err f) p q = inr q

pub if_made : {X E : Type 0} (P : Type 0) (o : Result X E) → OnOk o P → is_ok o ≡ true → P
if_made P (Ok x) p e = p
if_made P (Err f) p e = absurd (false≢true e)

pub if_not : {X E : Type 0} (Q : E → Type 0) (o : Result X E) → IfErr o Q → (is_ok o ≡ true → ⊥) → (f : E) × Q f
if_not Q (Ok x) q e = absurd (e refl)
if_not Q (Err f) q e = (f, q)
