-- What a receipt tells.
use Rattle.std.proofs.Common.{◌≡◌, ℕ, ◌+◌, List, [], ◌∷◌, ◌++◌, length, Option, Some, sym, ap, ◌∙◌, subst, arith, append_assoc, length-append}
use Rattle.tcmu_types.specs.Events.{EventData, EntryData}
use Rattle.tcmu_model.specs.Steps.{HandlerRelation}
use Rattle.journal_kept.specs.Answering.{MayTell}
use Rattle.journal_kept.specs.Receipts.{ReceiptsTell}
use Rattle.journal_kept.specs.declared.asking.Told.{Told}
use Rattle.journal_kept.specs.declared.asking.Told.TheVariants as told

pub receipts_tell : (R : HandlerRelation) → ReceiptsTell R
receipts_tell R p history r answer f is =
    let before = f.0 in
    let added = f.1 in
    let later = f.2 in
    let may : MayTell R p before r.ask (told.Answered answer) added = subst (λ (t : Told). MayTell R p before r.ask t added) is f.6 in
    let one = may.tells.2 in
    let here : history ≡ before ++ one.entry ∷ later = f.3 ∙ ap (λ (l : List EntryData). (before ++ l) ++ later) one.one ∙ append_assoc before (one.entry ∷ []) later in
    record {
      before = before;
      entry = one.entry;
      later = later;
      stands = here;
      number = omega (arith, f.4, length-append before added, ap (λ (l : List EntryData). length l) one.one);
      device = may.before;
      run = may.run;
      event = may.tells.1 ∙ ap (λ (x : EventData). Some x) (sym one.event_is);
      own = one.own;
      tells = one.answer_is;
      after = may.after;
      step = one.step;
    }
