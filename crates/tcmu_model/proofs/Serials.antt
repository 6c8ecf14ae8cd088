-- Serials are given one after another, so each names one command of the journal.
use Rattle.std.proofs.Common.{◌≡◌, ◌⊎◌, inl, inr, ℕ, ◌+◌, ◌≤◌, ◌&&◌, ◌==◌, not, nat_lt, Bool, true, false, if◌then◌else◌, ◌/◌, ◌*◌, List, [], ◌∷◌, ◌++◌, length, Option, Some, None, refl, sym, ap, ◌∙◌, subst, arith, append_assoc, append-nil, ⊎_elim}
use Rattle.tcmu_types.specs.Data.{CommandData, SettingsData}
use Rattle.tcmu_types.specs.Events.{EventData, AnswerData, EntryData}
use Rattle.tcmu_types.specs.Events as ev
use Rattle.tcmu_types.specs.declared.answer.Submit.{Submit}
use Rattle.tcmu_types.specs.declared.answer.Submit.TheVariants as submit
use Rattle.tcmu_model.specs.MediumState.{MediumState}
use Rattle.tcmu_model.specs.RingState.{need, free}
use Rattle.tcmu_model.specs.Device.{DeviceState, Device, opening}
use Rattle.tcmu_model.specs.Events.{entry_length_in, blocks_in, free_blocks, fits_ring, fits_blocks, queued_or_full, queued_or_delayed, submit_answer, with_command, with_delayed, after_submit, after_handle, after_clean, after_tick, after_block, after_restart, with_note}
use Rattle.tcmu_model.specs.Steps.{HandlerRelation, Run}
use Rattle.tcmu_model.specs.Journals.{Has, WasAccepted}
use Rattle.tcmu_model.proofs.KeptByEvents.{KeptByEvents, made}
use Rattle.tcmu_model.proofs.Unnamed.{enter_kept, dispatch_kept, respond_kept, publish_kept, reset_kept, tmr_kept}

-- the serial that an answer gives
given_by : AnswerData → Option ℕ
given_by (ev.Submitted (submit.Queued s)) = Some s
given_by (ev.Submitted (submit.Delayed s)) = Some s
given_by answer = None

-- a serial that is given is the next one, and else none is
GivesNext : ℕ → Option ℕ → ℕ → Type 0
GivesNext n None after = after ≡ n
GivesNext n (Some s) after = (s ≡ n + 1) × (after ≡ n + 1)

-- the serials of a submit's answer
next_serial : (d : DeviceState) (c : CommandData) (s : ℕ) → (submit.Queued s ≡ submit_answer d c) ⊎ (submit.Delayed s ≡ submit_answer d c) → s ≡ d.accepted + 1
unfolding submit_answer queued_or_full queued_or_delayed
next_serial d c s h = go d.blocked (nat_lt d.ring.size (2 * entry_length_in d c)) (nat_lt d.settings.blocks (blocks_in d c)) (d.settings.qfull == 0) (fits_ring d c) (fits_blocks d c) (length d.delayed == 0) h
  where
    answered : (b t u q f k z : Bool) → Submit
    answered b t u q f k z =
        if b then submit.Busy
        else (if t then submit.TooBig (entry_length_in d c) (d.ring.size / 2)
        else (if u then submit.TooBig (blocks_in d c) d.settings.blocks
        else (if q then (if not f then submit.FullRing (need d.ring (entry_length_in d c)) (free d.ring) else (if not k then submit.FullBlocks (blocks_in d c) (free_blocks d) else submit.Queued (d.accepted + 1)))
        else (if f && k && z then submit.Queued (d.accepted + 1) else submit.Delayed (d.accepted + 1)))))

    go : (b t u q f k z : Bool) → (submit.Queued s ≡ answered b t u q f k z) ⊎ (submit.Delayed s ≡ answered b t u q f k z) → s ≡ d.accepted + 1
    go true t u q f k z (inl e) = absurd (cc)
    go true t u q f k z (inr e) = absurd (cc)
    go false true u q f k z (inl e) = absurd (cc)
    go false true u q f k z (inr e) = absurd (cc)
    go false false true q f k z (inl e) = absurd (cc)
    go false false true q f k z (inr e) = absurd (cc)
    go false false false true false k z (inl e) = absurd (cc)
    go false false false true false k z (inr e) = absurd (cc)
    go false false false true true false z (inl e) = absurd (cc)
    go false false false true true false z (inr e) = absurd (cc)
    go false false false true true true z (inl e) = cc
    go false false false true true true z (inr e) = absurd (cc)
    go false false false false false k z (inl e) = absurd (cc)
    go false false false false false k z (inr e) = cc
    go false false false false true false z (inl e) = absurd (cc)
    go false false false false true false z (inr e) = cc
    go false false false false true true true (inl e) = cc
    go false false false false true true true (inr e) = absurd (cc)
    go false false false false true true false (inl e) = absurd (cc)
    go false false false false true true false (inr e) = cc

each_event : (d : DeviceState) → KeptByEvents (λ e a after. GivesNext d.accepted (given_by a) after.accepted) d
unfolding given_by GivesNext after_submit with_command with_delayed after_handle after_clean after_tick after_block after_restart with_note
each_event d =
    record {
      submit = λ c a i q. of_submit c a q;
      enter = λ a q. enter_kept (λ x. x.accepted) d a (λ w ws. refl);
      dispatch = λ a. dispatch_kept (λ x. x.accepted) d (λ i. refl);
      replied = λ s u reply f w p. refl;
      not_out = λ s t. refl;
      respond = λ s a. respond_kept (λ x. x.accepted) d s refl;
      publish = λ a. publish_kept (λ x. x.accepted) d refl;
      clean = λ n. refl;
      tick = λ n count. refl;
      block = λ b. refl;
      unblock = λ b. refl;
      reset = λ level a q. reset_kept (λ x. x.accepted) d level refl;
      restart = λ n. refl;
      tmr = λ kind ss a q. tmr_kept (λ x. x.accepted) d kind ss a refl;
      stat = λ a. refl;
    }
  where
    of_submit : (c : CommandData) (a : Submit) → a ≡ submit_answer d c → GivesNext d.accepted (given_by (ev.Submitted a)) (after_submit d c a).accepted
    of_submit c (submit.Queued s) q = (next_serial d c s (inl q), refl)
    of_submit c (submit.Delayed s) q = (next_serial d c s (inr q), refl)
    of_submit c submit.Busy q = refl
    of_submit c (submit.TooBig have limit) q = refl
    of_submit c (submit.FullRing need free) q = refl
    of_submit c (submit.FullBlocks need free) q = refl

-- ==== journals

-- an entry accepts this command under this serial
Accepts : EntryData → ℕ → CommandData → Type 0
Accepts e s c = (e.event ≡ ev.Submit c) × (given_by e.answer ≡ Some s)

has_split : (es : List EntryData) (e : EntryData) (event : EventData) (answer : AnswerData) → Has (es ++ e ∷ []) event answer → Has es event answer ⊎ ((e.event ≡ event) × (e.answer ≡ answer))
has_split [] e event answer (inl h) = inr h
has_split [] e event answer (inr h) = absurd h
has_split (x ∷ es) e event answer (inl h) = inl (inl h)
has_split (x ∷ es) e event answer (inr h) = ⊎_elim (λ (k : Has es event answer). inl (inr k)) (λ (k : (e.event ≡ event) × (e.answer ≡ answer)). inr k) (has_split es e event answer h)

accepted_split : (es : List EntryData) (e : EntryData) (s : ℕ) (c : CommandData) → WasAccepted (es ++ e ∷ []) s c → WasAccepted es s c ⊎ Accepts e s c
unfolding given_by Accepts
accepted_split es e s c (inl h) =
    ⊎_elim (λ (k : Has es (ev.Submit c) (ev.Submitted (submit.Queued s))). inl (inl k))
    (λ (k : (e.event ≡ ev.Submit c) × (e.answer ≡ ev.Submitted (submit.Queued s))). inr (k.0, ap given_by k.1)) (has_split es e _ _ h)
accepted_split es e s c (inr h) =
    ⊎_elim (λ (k : Has es (ev.Submit c) (ev.Submitted (submit.Delayed s))). inl (inr k))
    (λ (k : (e.event ≡ ev.Submit c) × (e.answer ≡ ev.Submitted (submit.Delayed s))). inr (k.0, ap given_by k.1)) (has_split es e _ _ h)

-- what holds of the serials of a journal: none is above the last one, and each names one command
record Numbered (es : List EntryData) (n : ℕ) : Type 0 where
  within : (s : ℕ) (c : CommandData) → WasAccepted es s c → s ≤ n
  one : (s : ℕ) (c c' : CommandData) → WasAccepted es s c → WasAccepted es s c' → c ≡ c'

numbered_step : (es : List EntryData) (e : EntryData) (n after : ℕ) → Numbered es n → GivesNext n (given_by e.answer) after → Numbered (es ++ e ∷ []) after
unfolding GivesNext Accepts
numbered_step es e n after h g =
    record {
      within = λ s c a. ⊎_elim (λ (k : WasAccepted es s c). let w : s ≤ n = h.within s c k in let r : n ≤ after = rising (given_by e.answer) g in omega arith) (λ (k : Accepts e s c). let b = last s c k in let b1 : after ≡ n + 1 = b.1 in let b0 : s ≡ n + 1 = b.0 in omega arith) (accepted_split es e s c a);
      one = λ s c c' a b.
          ⊎_elim
          (λ (k : WasAccepted es s c).
          let w : s ≤ n = h.within s c k in
          ⊎_elim (λ (l : WasAccepted es s c'). h.one s c c' k l) (λ (l : Accepts e s c'). let z : s ≡ n + 1 = (last s c' l).0 in absurd (omega arith)) (accepted_split es e s c' b))
          (λ (k : Accepts e s c).
          let z : s ≡ n + 1 = (last s c k).0 in
          ⊎_elim (λ (l : WasAccepted es s c'). let w : s ≤ n = h.within s c' l in absurd (omega arith)) (λ (l : Accepts e s c'). same s c c' k l) (accepted_split es e s c' b))
          (accepted_split es e s c a);
    }
  where
    rising : (o : Option ℕ) → GivesNext n o after → n ≤ after
    rising None k = omega arith
    rising (Some s) k = let q : after ≡ n + 1 = k.1 in omega arith

    last : (s : ℕ) (c : CommandData) → Accepts e s c → GivesNext n (Some s) after
    last s c k = subst (λ (o : Option ℕ). GivesNext n o after) k.1 g

    same : (s : ℕ) (c c' : CommandData) → Accepts e s c → Accepts e s c' → c ≡ c'
    same s c c' k l = let q : ev.Submit c ≡ ev.Submit c' = sym k.0 ∙ l.0 in cc

numbered_run : (R : HandlerRelation) (sofar es : List EntryData) (d d' : Device) → Numbered sofar d.state.accepted → Run R d es d' → Numbered (sofar ++ es) d'.state.accepted
numbered_run R sofar [] d d' h r = subst (λ (js : List EntryData). Numbered js d'.state.accepted) (sym (append-nil sofar)) (subst (λ (x : Device). Numbered sofar x.state.accepted) (sym r) h)
numbered_run R sofar (e ∷ es) d d' h r =
    let g : GivesNext d.state.accepted (given_by e.answer) r.0.state.accepted = made R (λ event a after. GivesNext d.state.accepted (given_by a) after.accepted) d r.0 e.event e.answer (each_event d.state) r.1.makes in
    subst (λ (js : List EntryData). Numbered js d'.state.accepted) (append_assoc sofar (e ∷ []) es) (numbered_run R (sofar ++ e ∷ []) es r.0 d' (numbered_step sofar e d.state.accepted r.0.state.accepted h g) r.2)

pub one_command : (R : HandlerRelation) (s : SettingsData) (name : List ℕ) (medium : MediumState) (es : List EntryData) (d : Device) (k : ℕ) (c c' : CommandData) →
    Run R (opening s name medium) es d → WasAccepted es k c → WasAccepted es k c' → c ≡ c'
one_command R s name medium es d k c c' r a b =
    (numbered_run R [] es (opening s name medium) d (record { within = λ s c a. absurd (⊎_elim (λ (x : ⊥). x) (λ (x : ⊥). x) a); one = λ s c c' a b. absurd (⊎_elim (λ (x : ⊥). x) (λ (x : ⊥). x) a) }) r).one k c c' a b
