-- A reset that empties the target's books.
use Rattle.std.proofs.Common.{◌≡◌, ℕ, Bool, List, [], ◌++◌, map, not, Option, None, ap, ◌∙◌, append_assoc}
use Rattle.std.specs.List.{filter}
use Rattle.tcmu_types.specs.Data.{DoneData}
use Rattle.tcmu_types.specs.declared.settings.Flags.{Flags}
use Rattle.tcmu_model.specs.Device.{Delayed}
use Rattle.tcmu_model.specs.Events.{reset_completion}
use Rattle.region_model.specs.Sides.{PendingRow, TargetState}
use Rattle.region_model.specs.TargetCleans.{emptied_of, reset_log, reset_logs}
use Rattle.target_side.specs.declared.entries.Entries.{Entries}
use Rattle.target_side.specs.Books.{books_of}
use Rattle.target_side.specs.HeldRows.{HeldRows}
use Rattle.target_side.specs.RingRecord.{RingRecord}
use Rattle.target_side.proofs.Answered.{build}

pub emptied_books : (flags : Flags) (timeout qfull now : ℕ) (blocked : Bool) (accepted : ℕ) (delayed waiting : List Delayed) (laid cleared : ℕ) (broken : Option ℕ) (log mid logged : List DoneData) (e e' : Entries) (level : ℕ) →
    e'.commands ≡ record e.commands { rows = [] } → e'.places.ring ≡ record { size = e.places.ring.size; cleaned = 0; items = [] } → e'.pages ≡ e.pages → waiting ≡ [] →
    mid ≡ log ++ map (λ (x : PendingRow). reset_log level x.pending) (filter (λ (x : PendingRow). not x.pending.expired) e.commands.rows) → logged ≡ mid ++ map (λ (w : Delayed). reset_completion level w.serial w.command) delayed →
    books_of flags timeout qfull now blocked accepted e' waiting 0 0 None logged ≡ emptied_of (books_of flags timeout qfull now blocked accepted e delayed laid cleared broken log) level
emptied_books flags timeout qfull now blocked accepted delayed waiting laid cleared broken log mid logged e e' level rows ring pages w m l =
    let t : TargetState = books_of flags timeout qfull now blocked accepted e delayed laid cleared broken log in
    let a : List DoneData = map (λ (x : PendingRow). reset_log level x.pending) (filter (λ (x : PendingRow). not x.pending.expired) e.commands.rows) in
    let b : List DoneData = map (λ (x : Delayed). reset_completion level x.serial x.command) delayed in
    let all : logged ≡ log ++ reset_logs t level = l ∙ (ap (λ xs. xs ++ b) m ∙ append_assoc log a b) in
    let none : HeldRows = record e.commands { rows = [] } in
    let empty : RingRecord = record { size = e.places.ring.size; cleaned = 0; items = [] } in
    ap (λ n. build flags timeout qfull now blocked accepted waiting 0 n e'.commands e'.places.ring 0 None logged) pages
    ∙ (ap (λ h. build flags timeout qfull now blocked accepted waiting 0 e.pages h e'.places.ring 0 None logged) rows
    ∙ (ap (λ p. build flags timeout qfull now blocked accepted waiting 0 e.pages none p 0 None logged) ring
    ∙ (ap (λ ws. build flags timeout qfull now blocked accepted ws 0 e.pages none empty 0 None logged) w
    ∙ ap (λ ds. build flags timeout qfull now blocked accepted [] 0 e.pages none empty 0 None ds) all)))
