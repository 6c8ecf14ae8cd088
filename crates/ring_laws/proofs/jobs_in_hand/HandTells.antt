-- What the jobs in hand tell: which commands are out, and which are handled.
use Rattle.std.proofs.Common.{◌≡◌, ℕ, ◌*◌, ◌≤◌, ◌&&◌, ◌||◌, Bool, true, false, not, cond, List, [], ◌∷◌, length, take, filter, refl, sym, ap, ◌∙◌, arith, Option, Some, subst, ⊎_elim, eqb}
use Rattle.std.proofs.Math.Nat.{min-eq_left}
use Rattle.std.specs.List.{list_any}
use Rattle.std.specs.Option.{is_some}
use Rattle.std.proofs.lemmas.Bool.{cases_Bool, false≢true}
use Rattle.tcmu_types.specs.Data.{CommandData, ReplyData, SettingsData}
use Rattle.tcmu_types.specs.Rules.{IsCommand, payload_length, takes_payload}
use Rattle.tcmu_types.specs.declared.answer.Respond.TheVariants as respond
use Rattle.tcmu_model.specs.declared.state.CommandState.{CommandState}
use Rattle.tcmu_model.specs.declared.state.CommandState.TheVariants.{Waiting, Out, Handled, Parked, Placed, Lost}
use Rattle.tcmu_model.specs.States.{same_state}
use Rattle.tcmu_types.specs.Lists.{first_of, Every}
use Rattle.tcmu_model.specs.Device.{Unfinished, DeviceState, has_serial, has_state, is_at}
use Rattle.tcmu_model.specs.Events.{after_respond, answered, command_out, is_handled, respond_answer}
use Rattle.tcmu_types.specs.Numbers.{is_among}
use Rattle.tcmu_model.specs.Events as events
use Rattle.tcmu_model.specs.Sound.{IsSound, dispatched_serials, is_right, state_fits}
use Rattle.tcmu_model.specs.BlockLists.{Taken, list_of}
use Rattle.region_model.specs.Layout.{data_start}
use Rattle.tcmu_model.specs.Lengths.{block_size, blocks_of}
use Rattle.region_model.specs.Iovecs.{gathered, total_of}
use Rattle.region_model.specs.Picture.{data_in, payload_of}
use Rattle.region_model.specs.UserNext.{data_length}
use Rattle.tcmu_model.proofs.DrainEnds.{rows_commands}
use Rattle.tcmu_types.proofs.Everies.{every-first, every-weaker}
use Rattle.region_model.specs.Sides.{InHand, JobState, PendingRow, UserState}
use Rattle.region_model.specs.Represents.{AreOut, IdsStand, IsJobOf, IsOut, JobsStand, UserKeeps, is_out}
use Rattle.region_model.specs.HandSteps.{hand_has}
use Rattle.tcmu_model.specs.Owned.{ListsSound}
use Rattle.ring_laws.specs.Handed.{is_asked, is_answered}
use Rattle.ring_laws.specs.Responded.{CanRespond}
use Rattle.ring_laws.proofs.JobRead.{total_along}
use Rattle.ring_laws.proofs.laid.LaidBlocks.{enough}

-- ==== the state of a command that is out, by its reply

handled_fits : (dispatched placed published attached : Bool) (t : CommandState) (r : Bool) → state_fits dispatched placed published attached t r ≡ true → same_state t Handled ≡ (cond (same_state t Out) true (same_state t Handled) && r)
handled_fits a b p q Waiting r h = refl
handled_fits true false p true Out false h = refl
handled_fits true false p true Out true h = absurd (false≢true h)
handled_fits true false p false Out r h = absurd (false≢true h)
handled_fits true true p q Out r h = absurd (false≢true h)
handled_fits false b p q Out r h = absurd (false≢true h)
handled_fits true false p true Handled true h = refl
handled_fits true false p true Handled false h = absurd (false≢true h)
handled_fits true false p false Handled r h = absurd (false≢true h)
handled_fits true true p q Handled r h = absurd (false≢true h)
handled_fits false b p q Handled r h = absurd (false≢true h)
handled_fits a b p q Parked r h = refl
handled_fits a b p q Placed r h = refl
handled_fits a b p q Lost r h = refl

out_fits : (dispatched placed published attached : Bool) (t : CommandState) (r : Bool) → state_fits dispatched placed published attached t r ≡ true → same_state t Out ≡ (cond (same_state t Out) true (same_state t Handled) && not r)
out_fits a b p q Waiting r h = refl
out_fits true false p true Out false h = refl
out_fits true false p true Out true h = absurd (false≢true h)
out_fits true false p false Out r h = absurd (false≢true h)
out_fits true true p q Out r h = absurd (false≢true h)
out_fits false b p q Out r h = absurd (false≢true h)
out_fits true false p true Handled true h = refl
out_fits true false p true Handled false h = absurd (false≢true h)
out_fits true false p false Handled r h = absurd (false≢true h)
out_fits true true p q Handled r h = absurd (false≢true h)
out_fits false b p q Handled r h = absurd (false≢true h)
out_fits a b p q Parked r h = refl
out_fits a b p q Placed r h = refl
out_fits a b p q Lost r h = refl

-- of the commands that are out, those are in a state whose replies pass
abbrev pub Tells : CommandState → (Bool → Bool) → List Unfinished → Type 0
Tells t f us = Every (λ u. has_state t u ≡ (is_out u && f (is_some u.reply))) us

pub handled_tells : (d : DeviceState) → IsSound d → Tells Handled (λ b. b) d.unfinished
handled_tells d h =
    every-weaker (λ u. is_right d u ≡ true) (λ u. has_state Handled u ≡ (is_out u && is_some u.reply)) d.unfinished
    (λ u k. handled_fits (is_among (dispatched_serials d.ring) u.serial) (is_among d.placed u.serial) (is_among (answered d) u.serial) d.attached u.state (is_some u.reply) k) h.answers.states

pub out_tells : (d : DeviceState) → IsSound d → Tells Out not d.unfinished
out_tells d h =
    every-weaker (λ u. is_right d u ≡ true) (λ u. has_state Out u ≡ (is_out u && not (is_some u.reply))) d.unfinished
    (λ u k. out_fits (is_among (dispatched_serials d.ring) u.serial) (is_among d.placed u.serial) (is_among (answered d) u.serial) d.attached u.state (is_some u.reply) k) h.answers.states

-- ==== the jobs

abbrev is_owed : (Bool → Bool) → ℕ → InHand → Bool
is_owed f s h = hand_has s h && f (is_some h.reply)

-- a job is found just where its command is
same_test : (st : SettingsData) (rows : List PendingRow) (lists : List Taken) (t : CommandState) (f : Bool → Bool) (s : ℕ) (h : InHand) (u : Unfinished) →
    has_state t u ≡ (is_out u && f (is_some u.reply)) → is_out u ≡ true → IsOut st rows lists h u → is_owed f s h ≡ is_at s t u
same_test st rows lists t f s h u e o i =
    ap (λ n. eqb n s && f (is_some h.reply)) i.0
    ∙ ap (λ (r : Option ReplyData). has_serial s u && f (is_some r)) i.1
    ∙ ap (λ b. has_serial s u && (b && f (is_some u.reply))) (sym o)
    ∙ ap (λ b. has_serial s u && b) (sym e)

not_out : (t : CommandState) (f : Bool → Bool) (s : ℕ) (u : Unfinished) → has_state t u ≡ (is_out u && f (is_some u.reply)) → is_out u ≡ false → is_at s t u ≡ false
not_out t f s u e o = ap (λ b. has_serial s u && b) (e ∙ ap (λ b. b && f (is_some u.reply)) o) ∙ none (has_serial s u)
  where
    none : (b : Bool) → (b && false) ≡ false
    none true = refl
    none false = refl

any_tells : (st : SettingsData) (rows : List PendingRow) (lists : List Taken) (t : CommandState) (f : Bool → Bool) (s : ℕ) (hs : List InHand) (us : List Unfinished) →
    Tells t f us → AreOut st rows lists hs (filter is_out us) → list_any (is_owed f s) hs ≡ list_any (is_at s t) us
any_tells st rows lists t f s [] [] e h = refl
any_tells st rows lists t f s (x ∷ hs) [] e h = absurd h
any_tells st rows lists t f s [] (u ∷ us) e h =
    ⊎_elim
    (λ (o : is_out u ≡ true). let h' : AreOut st rows lists [] (u ∷ filter is_out us) = rw o at h in absurd h')
    (λ (o : is_out u ≡ false).
    let h' : AreOut st rows lists [] (filter is_out us) = rw o at h in
    let n : is_at s t u ≡ false = not_out t f s u e.0 o in
    rw n (any_tells st rows lists t f s [] us e.1 h'))
    (cases_Bool (is_out u))
any_tells st rows lists t f s (x ∷ hs) (u ∷ us) e h =
    ⊎_elim
    (λ (o : is_out u ≡ true).
    let h' : AreOut st rows lists (x ∷ hs) (u ∷ filter is_out us) = rw o at h in
    ap (λ b. b || list_any (is_owed f s) hs) (same_test st rows lists t f s x u e.0 o h'.0) ∙ ap (λ b. is_at s t u || b) (any_tells st rows lists t f s hs us e.1 h'.1))
    (λ (o : is_out u ≡ false).
    let h' : AreOut st rows lists (x ∷ hs) (filter is_out us) = rw o at h in
    let n : is_at s t u ≡ false = not_out t f s u e.0 o in
    any_tells st rows lists t f s (x ∷ hs) us e.1 h' ∙ ap (λ b. b || list_any (is_at s t) us) (sym n))
    (cases_Bool (is_out u))

first_tells : (st : SettingsData) (rows : List PendingRow) (lists : List Taken) (t : CommandState) (f : Bool → Bool) (s : ℕ) (hs : List InHand) (us : List Unfinished) (x : InHand) →
    Tells t f us → AreOut st rows lists hs (filter is_out us) → first_of (is_owed f s) hs ≡ Some x → (u : Unfinished) × (first_of (is_at s t) us ≡ Some u) × IsOut st rows lists x u
first_tells st rows lists t f s [] us x e h g = absurd (cc)
first_tells st rows lists t f s (y ∷ hs) [] x e h g = absurd h
first_tells st rows lists t f s (y ∷ hs) (u ∷ us) x e h g =
    ⊎_elim
    (λ (o : is_out u ≡ true).
    let h' : AreOut st rows lists (y ∷ hs) (u ∷ filter is_out us) = rw o at h in
    let same : is_owed f s y ≡ is_at s t u = same_test st rows lists t f s y u e.0 o h'.0 in
    ⊎_elim
    (λ (k : is_at s t u ≡ true).
    let k' : is_owed f s y ≡ true = same ∙ k in
    let g' : Some y ≡ Some x = rw k' at g in
    let q : y ≡ x = cc in
    rw k (u, refl, subst (λ (z : InHand). IsOut st rows lists z u) q h'.0))
    (λ (k : is_at s t u ≡ false).
    let k' : is_owed f s y ≡ false = same ∙ k in
    let g' : first_of (is_owed f s) hs ≡ Some x = rw k' at g in
    rw k (first_tells st rows lists t f s hs us x e.1 h'.1 g'))
    (cases_Bool (is_at s t u)))
    (λ (o : is_out u ≡ false).
    let h' : AreOut st rows lists (y ∷ hs) (filter is_out us) = rw o at h in
    let n : is_at s t u ≡ false = not_out t f s u e.0 o in
    rw n (first_tells st rows lists t f s (y ∷ hs) us x e.1 h' g))
    (cases_Bool (is_out u))

-- ==== the law

pub some_first : {X : Type 0} (p : X → Bool) (xs : List X) → list_any p xs ≡ is_some (first_of p xs)
some_first p [] = refl
some_first p (x ∷ xs) =
    ⊎_elim
    (λ (k : p x ≡ true). rw k refl)
    (λ (k : p x ≡ false). rw k (some_first p xs))
    (cases_Bool (p x))

pub asked_out : (user : UserState) (hand : List InHand) (rows : List PendingRow) (d : DeviceState) (lists : List Taken) (s : ℕ) → IsSound d → JobsStand user hand rows d lists → list_any (is_asked s) hand ≡ is_some (command_out d s)
asked_out user hand rows d lists s sound jobs = any_tells d.settings rows lists Out not s hand d.unfinished (out_tells d sound) jobs.out ∙ some_first (is_at s Out) d.unfinished

pub answered_handled : (user : UserState) (hand : List InHand) (rows : List PendingRow) (d : DeviceState) (lists : List Taken) (s : ℕ) → IsSound d → JobsStand user hand rows d lists → list_any (is_answered s) hand ≡ is_handled d s
answered_handled user hand rows d lists s sound jobs = any_tells d.settings rows lists Handled (λ b. b) s hand d.unfinished (handled_tells d sound) jobs.out

pub job_asked : (user : UserState) (hand : List InHand) (rows : List PendingRow) (d : DeviceState) (lists : List Taken) (s : ℕ) (h : InHand) → IsSound d → JobsStand user hand rows d lists → first_of (is_asked s) hand ≡ Some h →
    (u : Unfinished) × (command_out d s ≡ Some u) × (parts : List (List ℕ)) × IsJobOf d.settings rows lists u h.job parts
job_asked user hand rows d lists s h sound jobs f =
    let k = first_tells d.settings rows lists Out not s hand d.unfinished h (out_tells d sound) jobs.out f in
    (k.0, k.1, k.2.2.0, k.2.2.1)

pub can_respond : (front : List ℕ) (user : UserState) (hand : List InHand) (rows : List PendingRow) (d : DeviceState) (lists : List Taken) (s : ℕ) (h : InHand) (reply : ReplyData) →
    IsSound d → ListsSound d lists → IdsStand front rows d → JobsStand user hand rows d lists → UserKeeps user d → first_of (is_answered s) hand ≡ Some h → h.reply ≡ Some reply →
    (u : Unfinished) × (parts : List (List ℕ)) × CanRespond user rows d lists s u (record { job = h.job; reply = reply }) parts
can_respond front user hand rows d lists s h reply sound owned ids jobs keeps f r =
    let k = first_tells d.settings rows lists Handled (λ b. b) s hand d.unfinished h (handled_tells d sound) jobs.out f in (
      k.0,
      k.2.2.0,
      record {
        sound = sound;
        owned = owned;
        found = k.1;
        replied = sym k.2.1 ∙ r;
        job = k.2.2.1;
        differ = ids.differ;
        given = jobs.given;
        flags = keeps.flags;
        offsets = jobs.offsets;
      },
    )

pub not_handled : (d : DeviceState) (s : ℕ) → is_handled d s ≡ false → (respond_answer d s ≡ respond.NotHandled s) × (after_respond d s ≡ d)
unfolding respond_answer after_respond
not_handled d s n = (
  ap (λ b. cond b (cond (list_any (is_at s Placed) (events.placing d s).unfinished) respond.Placed respond.Parked) (respond.NotHandled s)) n,
  ap (λ b. cond b (record d { unfinished = (events.placing d s).unfinished; placed = (events.placing d s).placed }) d) n,
)

-- ==== what a handler is asked

pub asked_data : (rows : List PendingRow) (d : DeviceState) (lists : List Taken) (u : Unfinished) (job : JobState) (parts : List (List ℕ)) →
    IsSound d → ListsSound d lists → first_of (has_serial u.serial) d.unfinished ≡ Some u → takes_payload u.command.cdb ≡ true → IsJobOf d.settings rows lists u job parts →
    take (data_length job.iovs) (gathered parts) ≡ u.command.sent
asked_data rows d lists u job parts sound owned f t j =
    let c : CommandData = u.command in
    let pages : ℕ = d.settings.pages in
    let bs : List ℕ = list_of lists u.serial in
    let n : ℕ = payload_length c in
    let count : length bs ≡ blocks_of pages c = every-first (has_serial u.serial) (λ v. length (list_of lists v.serial) ≡ blocks_of pages v.command) d.unfinished u owned.sizes f in
    let rule : IsCommand c = every-first (has_serial u.serial) (λ v. IsCommand v.command) d.unfinished u (rows_commands d sound) f in
    let carries : n ≡ length c.sent = ap (λ b. cond b (length c.sent) c.in_len) t in
    let few : n ≤ 1048576 = omega (arith, carries, rule.sent) in
    let low : 1 ≤ pages = sound.settings.pages_low in
    let room : n ≤ block_size pages * length bs = subst (λ k. n ≤ block_size pages * k) (sym count) (enough n (block_size pages) (omega (arith, low))) in
    let total : total_of job.iovs ≡ n = ap total_of j.iovs ∙ total_along (data_start d.settings.ring) (block_size pages) bs n room in
    let all : data_length job.iovs ≡ n = min-eq_left (omega (arith, total, few)) ∙ total in
    let sent : payload_of u ≡ c.sent = ap (λ b. cond b c.sent (data_in c.in_len u.state u.reply)) t in
    ap (λ k. take k (gathered parts)) all ∙ j.payload ∙ sent
