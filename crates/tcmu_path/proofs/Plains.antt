-- What a plain device keeps beside its state, after an event.
use Rattle.std.proofs.Common.{◌≡◌, ℕ, ◌+◌, ◌≤◌, List, [], ◌∷◌, ◌++◌, length, take, refl, sym, ap, ◌∙◌, arith, append_assoc}
use Rattle.std.proofs.lemmas.List.{take-append-le, length-append}
use Rattle.tcmu_types.specs.Data.{SettingsData}
use Rattle.tcmu_model.specs.Lengths.{blocks_of}
use Rattle.tcmu_model.specs.RingState.{RingState, Item, with_item, pads, pad, serials_in}
use Rattle.tcmu_model.specs.Device.{Unfinished, Delayed}
use Rattle.tcmu_path.specs.Room.{IsPlain, KeepsRoom, to_place, to_log, blocks_of_commands}
use Rattle.tcmu_path.proofs.Rooms.{to_place-push, to_log-push, held_by-push}

-- the commands hold the same, and ask for no more
pub plain_kept : (s : SettingsData) (laid : List Item) (us vs : List Unfinished) (ws : List Delayed) (placed : List ℕ) (h p l n : ℕ) → IsPlain s laid us ws placed h p l n → KeepsRoom us vs → IsPlain s laid vs ws placed h p l n
plain_kept s laid us vs ws placed h p l n t k =
    record {
      held_is = t.held_is ∙ sym (k.blocks s.pages);
      placed_room = omega (arith, k.to_place, t.placed_room);
      log_room = omega (arith, k.to_log, t.log_room);
      within = t.within;
      ordered = t.ordered;
    }

-- an item is laid behind the others
pub record Lays (laid new : List Item) : Type 0 where
  pub more : List Item
  pub is : new ≡ laid ++ more

pub lays_item : (r r' : RingState) (i : Item) → r' ≡ with_item r i → Lays r.laid r'.laid
lays_item r r' i e =
    record {
      more = pads (pad r i.len) ++ i ∷ [];
      is = ap (λ (x : RingState). x.laid) e ∙ append_assoc r.laid (pads (pad r i.len)) (i ∷ []);
    }

ordered-laid : (laid new : List Item) (placed placed' : List ℕ) (n : ℕ) → n ≤ length laid → Lays laid new → placed' ≡ placed → placed ≡ serials_in (take n laid) → placed' ≡ serials_in (take n new)
ordered-laid laid new placed placed' n h l e o =
    e ∙ (o ∙ sym (ap (λ xs. serials_in (take n xs)) l.is ∙ ap serials_in (take-append-le n laid l.more h)))

within-laid : (laid new : List Item) (n : ℕ) → n ≤ length laid → Lays laid new → n ≤ length new
within-laid laid new n h l = omega (arith, h, ap length l.is, length-append laid l.more)

-- a note is laid
pub plain_noted : (s : SettingsData) (laid new : List Item) (us : List Unfinished) (ws : List Delayed) (placed : List ℕ) (h p l n : ℕ) → IsPlain s laid us ws placed h p l n → Lays laid new → IsPlain s new us ws placed h p l n
plain_noted s laid new us ws placed h p l n t k =
    record {
      held_is = t.held_is;
      placed_room = t.placed_room;
      log_room = t.log_room;
      within = within-laid laid new n t.within k;
      ordered = λ e. let same : placed ≡ placed = refl in ordered-laid laid new placed placed n t.within k same (t.ordered e);
    }

-- a command is laid: it holds its blocks, and there is room for its answer and its completion
pub plain_laid : (s : SettingsData) (laid new : List Item) (us us' : List Unfinished) (u : Unfinished) (ws ws' : List Delayed) (placed placed' : List ℕ) (h p l h' p' l' n : ℕ) → IsPlain s laid us ws placed h p l n → Lays laid new → us' ≡ us ++ u ∷ [] → h' ≡ blocks_of_commands s.pages us + blocks_of s.pages u.command → to_place us + 1 ≤ p' → to_log us + 1 + length ws' ≤ l' → placed' ≡ placed → IsPlain s new us' ws' placed' h' p' l' n
plain_laid s laid new us us' u ws ws' placed placed' h p l h' p' l' n t k e b q r f =
    record {
      held_is = b ∙ sym (held_by-push s.pages us us' u e);
      placed_room = omega (arith, to_place-push us us' u e, q);
      log_room = omega (arith, to_log-push us us' u e, r);
      within = within-laid laid new n t.within k;
      ordered = λ o. ordered-laid laid new placed placed' n t.within k f (t.ordered o);
    }
