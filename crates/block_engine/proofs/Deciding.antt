-- The calls that an engine makes of a medium: each may come out somehow, it comes out in one way where the failing calls are told, and it is
-- a run of one call.
use Rattle.std.proofs.Common.{◌∙◌, ◌≡◌, inl, inr, ℕ, Bool, true, false, List, [], ◌∷◌, sym, ap, refl, is_some}
use Rattle.tcmu_types.specs.Numbered.{ComesOut}
use Rattle.tcmu_model.specs.MediumState.{Below, MediumState}
use Rattle.scsi_model.specs.Calls.{Call}
use Rattle.scsi_model.specs.Medium.{ReadsBelow, WritesBelow, FillsBelow, SyncsBelow, MakesCall, counted, Writes, Fills, Syncs}
use Rattle.scsi_model.specs.Runs.{MediumCall, LiesWithin, CallMakes, IsRun}
use Rattle.scsi_model.proofs.Joined.{IsDecided}
use Rattle.scsi_model.proofs.Decided.{true_false, comes_one, comes_some, tells_below, reads_decided, writes_decided, fills_decided, syncs_decided}

-- the failing calls are told
pub record TellsFails (m : MediumState) : Type 0 where
  pub own : is_some m.own.fails ≡ true
  pub store : is_some m.below.store.calls.fails ≡ true

-- how a call of a medium that stands at this state may come out
pub record IsSure (m : MediumState) (C : Bool → MediumState → Type 0) : Type 0 where
  pub some : (f : Bool) × (a : MediumState) × C f a
  pub one : (f g : Bool) (a b : MediumState) → TellsFails m → C f a → C g b → (f ≡ g) × (a ≡ b)

makes_sure : (C : Call Below) (m : MediumState) → IsDecided tells_below C → IsSure m (MakesCall C m)
makes_sure C m d = record { some = some (comes_some m.own).0 (comes_some m.own).1; one = one }
  where
    some : (listed : Bool) → ComesOut m.own listed → (f : Bool) × (a : MediumState) × MakesCall C m f a
    some true h = (true, counted m, inl (h, refl, refl))
    some false h = let x = d.some m.below in (x.0, record (counted m) { below = x.1 }, inr (h, x.1, x.2, refl))

    one : (f g : Bool) (a b : MediumState) → TellsFails m → MakesCall C m f a → MakesCall C m g b → (f ≡ g) × (a ≡ b)
    one f g a b t (inl x) (inl y) = (x.1 ∙ sym y.1, x.2 ∙ sym y.2)
    one f g a b t (inl x) (inr y) = true_false (comes_one m.own true false t.own x.0 y.0)
    one f g a b t (inr x) (inl y) = true_false (comes_one m.own true false t.own y.0 x.0)
    one f g a b t (inr x) (inr y) =
        let e = d.one m.below f g x.1 y.1 t.store x.2 y.2 in (e.0, x.3 ∙ ap (λ (k : Below). record (counted m) { below = k }) e.1 ∙ sym y.3)

pub reads_sure : (m : MediumState) → IsSure m (MakesCall (ReadsBelow m.below.layer) m)
reads_sure m = makes_sure (ReadsBelow m.below.layer) m (reads_decided m.below.layer)

pub writes_sure : (at : ℕ) (piece : List ℕ) (m : MediumState) → IsSure m (Writes at piece m)
writes_sure at piece m = makes_sure (WritesBelow m.below.layer at piece) m (writes_decided m.below.layer at piece)

pub fills_sure : (at : ℕ) (block : List ℕ) (count : ℕ) (m : MediumState) → IsSure m (Fills at block count m)
fills_sure at block count m = makes_sure (FillsBelow m.below.layer at block count) m (fills_decided m.below.layer at block count)

pub syncs_sure : (m : MediumState) → IsSure m (Syncs m)
syncs_sure m = makes_sure (SyncsBelow m.below.layer) m (syncs_decided m.below.layer)

-- a call within the medium is a run
pub call_runs : (c : MediumCall) (m : MediumState) (f : Bool) (a : MediumState) → LiesWithin m.blocks c → CallMakes c m f a → IsRun m a
call_runs c m f a w x = (record { call = c; failed = f } ∷ [], (a, w, x, refl))
