-- What a sync asks of the store below a medium.
use Rattle.std.proofs.Common.{◌∙◌, ◌≡◌, inl, inr, Bool, true, false, sym, ap, refl}
use Rattle.std.specs.Bool.{MatchBool}
use Rattle.tcmu_types.specs.Numbered.{next_call}
use Rattle.tcmu_model.specs.MediumState.{Layer, memory, file, overlay, write_back, Base, Below, MediumState}
use Rattle.scsi_model.specs.Base.{SyncsStore}
use Rattle.scsi_model.specs.Medium.{OnStore, SyncsBelow, syncs_store}
use Rattle.scsi_model.specs.Runs.{SyncsReach}
use Rattle.scsi_model.proofs.Decided.{true_false}
use Rattle.scsi_model.proofs.Steady.{IsSteady, flushes_kept}

-- the store was asked for as many syncs
abbrev SameSyncs : Below → Below → Type 0
SameSyncs b a = a.store.syncs ≡ b.store.syncs

same_steady : IsSteady SameSyncs
same_steady = record {
  order = record { same = λ b. refl; next = λ a b c x y. y ∙ x };
  piece = λ at piece b. refl;
  lost = λ at n b. refl;
  asked = λ b. refl;
  put = λ at piece b. refl;
  spoilt = λ at n b. refl;
}

one_sync : (b : Below) (f : Bool) (a : Below) → OnStore SyncsStore b f a → a.store.syncs ≡ next_call b.store.syncs
one_sync b f a x = ap (λ (k : Below). k.store.syncs) x.2 ∙ ap (λ (s : Base). s.syncs) x.1.1

sync_below : (l : Layer) (b a : Below) → syncs_store l ≡ true → SyncsBelow l b false a → a.store.syncs ≡ next_call b.store.syncs
sync_below memory b a e x = true_false (sym e)
sync_below file b a e x = one_sync b false a x
sync_below overlay b a e x = true_false (sym e)
sync_below (write_back slots dirty) b a e x =
    by x.0 x.1 (flushes_kept SameSyncs slots same_steady (λ ds c. refl) b x.0 x.1 x.2) x.3
  where
    by : (broke : Bool) (k : Below) → k.store.syncs ≡ b.store.syncs → MatchBool broke ((false ≡ true) × (a ≡ k)) (OnStore SyncsStore k false a)
        → a.store.syncs ≡ next_call b.store.syncs
    by true k s more = true_false (sym more.0)
    by false k s more = one_sync k false a more ∙ ap next_call s

pub syncs_reach : SyncsReach
syncs_reach m after (inl x) e = true_false (sym x.1)
syncs_reach m after (inr x) e = ap (λ (n : MediumState). n.below.store.syncs) x.3 ∙ sync_below m.below.layer m.below x.1 e x.2
