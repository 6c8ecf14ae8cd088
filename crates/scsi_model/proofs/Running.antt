-- What a run of a medium's calls keeps, and how many calls it counts.
use Rattle.std.proofs.Common.{◌∙◌, ◌≡◌, ℕ, ◌+◌, Bool, List, [], ◌∷◌, length, sym, ap, subst, refl, arith, Option, Some, None, is_some, inl, inr}
use Rattle.std.specs.Option.{option_map}
use Rattle.tcmu_types.specs.Numbered.{Numbered, one_more, next_call}
use Rattle.tcmu_model.specs.MediumState.{Layer, memory, file, overlay, write_back, Below, MediumState}
use Rattle.scsi_model.specs.Calls.{Call}
use Rattle.scsi_model.specs.Medium.{ReadsBelow, WritesBelow, FillsBelow, SyncsBelow, MakesCall}
use Rattle.scsi_model.specs.Runs.{MediumCall, read, write, fill, sync, CallMakes, MadeCall, Runs, IsRun, clean, Stays, RunsKeep, RunsCount}
use Rattle.scsi_model.proofs.Joined.{Kept}
use Rattle.scsi_model.proofs.Steady.{IsSteady, Syncing, DirtyingIn, reads_kept, writes_kept, fills_kept, syncs_kept}

-- ==== below

-- the store has its length and its list of failing calls, and as much is told
record SameBelow (b a : Below) : Type 0 where
  pub size : a.store.size ≡ b.store.size
  pub fails : a.store.calls.fails ≡ b.store.calls.fails
  pub bytes : is_some a.bytes ≡ is_some b.bytes
  pub stored : is_some a.store.bytes ≡ is_some b.store.bytes

told_map : (f : List ℕ → List ℕ) (o : Option (List ℕ)) → is_some (option_map f o) ≡ is_some o
told_map f None = refl
told_map f (Some xs) = refl

same_steady : IsSteady SameBelow
same_steady = record {
  order = record {
    same = λ b. record { size = refl; fails = refl; bytes = refl; stored = refl };
    next = λ a b c x y. record { size = y.size ∙ x.size; fails = y.fails ∙ x.fails; bytes = y.bytes ∙ x.bytes; stored = y.stored ∙ x.stored };
  };
  piece = λ at piece b. record { size = refl; fails = refl; bytes = told_map _ b.bytes; stored = refl };
  lost = λ at n b. record { size = refl; fails = refl; bytes = told_map _ b.bytes; stored = refl };
  asked = λ b. record { size = refl; fails = refl; bytes = refl; stored = refl };
  put = λ at piece b. record { size = refl; fails = refl; bytes = refl; stored = told_map _ b.store.bytes };
  spoilt = λ at n b. record { size = refl; fails = refl; bytes = refl; stored = told_map _ b.store.bytes };
}

same_synced : Syncing SameBelow
same_synced b = record { size = refl; fails = refl; bytes = refl; stored = refl }

same_dirty : (l : Layer) → DirtyingIn SameBelow l
same_dirty memory = tt
same_dirty file = tt
same_dirty overlay = tt
same_dirty (write_back slots dirty) = λ ds b. record { size = refl; fails = refl; bytes = refl; stored = refl }

-- the layer stays one that is this when it is clean
abbrev InLayer : Layer → Below → Below → Type 0
InLayer k b a = clean b.layer ≡ k → clean a.layer ≡ k

layer_steady : (k : Layer) → IsSteady (InLayer k)
layer_steady k = record {
  order = record { same = λ b e. e; next = λ a b c x y e. y (x e) };
  piece = λ at piece b e. e;
  lost = λ at n b e. e;
  asked = λ b e. e;
  put = λ at piece b e. e;
  spoilt = λ at n b e. e;
}

layer_synced : (k : Layer) → Syncing (InLayer k)
layer_synced k b e = e

layer_dirty : (l : Layer) → DirtyingIn (InLayer (clean l)) l
layer_dirty memory = tt
layer_dirty file = tt
layer_dirty overlay = tt
layer_dirty (write_back slots dirty) = λ ds b e. refl

-- ==== one call

-- a call of a medium counts itself, and keeps what the call below keeps
made_stays : (C : Call Below) (m : MediumState) (f : Bool) (a : MediumState) → Kept SameBelow C → Kept (InLayer (clean m.below.layer)) C → MakesCall C m f a → Stays m a
made_stays C m f a s l (inl x) = subst (Stays m) (sym x.2) (record { blocks = refl; protected = refl; layer = refl; size = refl; own_fails = refl; store_fails = refl; bytes = refl; stored = refl })
made_stays C m f a s l (inr x) =
    let k = s m.below f x.1 x.2 in
    subst (Stays m) (sym x.3) (record {
      blocks = refl;
      protected = refl;
      layer = l m.below f x.1 x.2 refl;
      size = k.size;
      own_fails = refl;
      store_fails = k.fails;
      bytes = k.bytes;
      stored = k.stored;
    })

made_counts : (C : Call Below) (m : MediumState) (f : Bool) (a : MediumState) → MakesCall C m f a → a.own ≡ one_more m.own
made_counts C m f a (inl x) = ap (λ (n : MediumState). n.own) x.2
made_counts C m f a (inr x) = ap (λ (n : MediumState). n.own) x.3

pub call_stays : (c : MediumCall) (m : MediumState) (f : Bool) (a : MediumState) → CallMakes c m f a → Stays m a
call_stays (read at out) m f a x =
    let l = m.below.layer in made_stays (ReadsBelow l) m f a (reads_kept SameBelow l same_steady) (reads_kept (InLayer (clean l)) l (layer_steady (clean l))) x.made
call_stays (write at piece) m f a x =
    let l = m.below.layer in
    made_stays (WritesBelow l at piece) m f a (writes_kept SameBelow l at piece same_steady (same_dirty l)) (writes_kept (InLayer (clean l)) l at piece (layer_steady (clean l)) (layer_dirty l)) x
call_stays (fill at block count) m f a x =
    let l = m.below.layer in
    made_stays (FillsBelow l at block count) m f a (fills_kept SameBelow l at block count same_steady (same_dirty l)) (fills_kept (InLayer (clean l)) l at block count (layer_steady (clean l)) (layer_dirty l)) x
call_stays sync m f a x =
    let l = m.below.layer in made_stays (SyncsBelow l) m f a (syncs_kept SameBelow l same_steady same_synced (same_dirty l)) (syncs_kept (InLayer (clean l)) l (layer_steady (clean l)) (layer_synced (clean l)) (layer_dirty l)) x

call_counts : (c : MediumCall) (m : MediumState) (f : Bool) (a : MediumState) → CallMakes c m f a → a.own ≡ one_more m.own
call_counts (read at out) m f a x = made_counts (ReadsBelow m.below.layer) m f a x.made
call_counts (write at piece) m f a x = made_counts (WritesBelow m.below.layer at piece) m f a x
call_counts (fill at block count) m f a x = made_counts (FillsBelow m.below.layer at block count) m f a x
call_counts sync m f a x = made_counts (SyncsBelow m.below.layer) m f a x

-- ==== runs

pub stays_same : (m : MediumState) → Stays m m
stays_same m = record { blocks = refl; protected = refl; layer = refl; size = refl; own_fails = refl; store_fails = refl; bytes = refl; stored = refl }

pub stays_then : (m n k : MediumState) → Stays m n → Stays n k → Stays m k
stays_then m n k x y = record {
  blocks = y.blocks ∙ x.blocks;
  protected = y.protected ∙ x.protected;
  layer = y.layer ∙ x.layer;
  size = y.size ∙ x.size;
  own_fails = y.own_fails ∙ x.own_fails;
  store_fails = y.store_fails ∙ x.store_fails;
  bytes = y.bytes ∙ x.bytes;
  stored = y.stored ∙ x.stored;
}

stays_along : (calls : List MadeCall) (m after : MediumState) → Runs calls m after → Stays m after
stays_along [] m after e = subst (Stays m) (sym e) (stays_same m)
stays_along (c ∷ cs) m after r = stays_then m r.0 after (call_stays c.call m c.failed r.0 r.2) (stays_along cs r.0 after r.3)

pub runs_keep : RunsKeep
runs_keep m after r = stays_along r.0 m after r.1

pub runs_count : RunsCount
runs_count [] m after e fits = ap (λ (n : MediumState). n.own.calls) e ∙ omega arith
runs_count (c ∷ cs) m after r fits =
    let one : r.0.own.calls ≡ next_call m.own.calls = ap (λ (n : Numbered). n.calls) (call_counts c.call m c.failed r.0 r.2) in
    let next : next_call m.own.calls ≡ m.own.calls + 1 = omega (arith, fits) in
    let rest : after.own.calls ≡ r.0.own.calls + length cs = runs_count cs r.0 after r.3 (rw (one ∙ next) (omega (arith, fits))) in
    rest ∙ omega (arith, one, next)

-- no call leads from a medium to itself, and one run goes on in another
pub run_none : (m : MediumState) → IsRun m m
run_none m = ([], refl)

pub run_then : (m n k : MediumState) → IsRun m n → IsRun n k → IsRun m k
run_then m n k x y = along x.0 m x.1
  where
    along : (calls : List MadeCall) (start : MediumState) → Runs calls start n → IsRun start k
    along [] start e = subst (λ (s : MediumState). IsRun s k) e y
    along (c ∷ cs) start r = let rest = along cs r.0 r.3 in (c ∷ rest.0, (r.0, r.1, r.2, rest.1))
