use Rattle.std.proofs.Common.{◌≡◌, ◌<◌, ◌^◌, length, map, [], List, ap, sym, ◌∙◌, arith}
use Rattle.std.proofs.lemmas.List.{length-map}
use Rattle.tcmu_types.specs.Views.{event_data}
use Rattle.text_model.specs.Script.{ScriptData}
use Rattle.journal_kept.specs.Keeping.{EntriesData, most_named}
use Rattle.journal_kept.proofs.Keep.{keep_new}
use Rattle.journal_kept.proofs.kept.Kept.new_or_give_back.Goals as goal

pub invariant_of-result : goal.invariant_of-result
invariant_of-result g c =
    let few : length c.args.script.admin < 2 ^ 64 = omega (arith, length-map c.script.inside.admin.items event_data, ap (λ (x : ScriptData). length x.admin) c.script.view_is) in
    let entries = c.new-entries.ensures ∙ ap (λ l. let r : EntriesData = record { device = c.args.device; longest = most_named (map event_data l); items = [] } in r) c.as_slice.ensures ∙ ap (λ (x : ScriptData). let r : EntriesData = record { device = c.args.device; longest = most_named x.admin; items = [] } in r) c.script.view_is in
    keep_new g.P.Path.relation _ _ _ _ c.len.result c.requires.script few c.requires.opened (ap g.P.Path.device c.of-opening.ensures) (c.len.ensures ∙ ap (λ (x : ScriptData). length x.inits) c.script.view_is) c.in-Ok.ensures entries
