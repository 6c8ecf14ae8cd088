use Rattle.std.proofs.Common.{◌≡◌, ℕ, ◌+◌, ◌<◌, ◌≤◌, ◌∷◌, [], ◌++◌, List, length, ap, sym, subst, ◌∙◌, arith}
use Rattle.tcmu_model.specs.Lengths.{blocks_of}
use Rattle.tcmu_model.specs.Device.{Unfinished, DeviceState}
use Rattle.tcmu_model.specs.Events.{held_blocks, blocks_in}
use Rattle.tcmu_path.specs.Room.{blocks_of_commands, to_log, to_place}
use Rattle.tcmu_types.specs.Lists.{Every}
use Rattle.tcmu_path.specs.Tallies.{serials_of}
use Rattle.tcmu_path.proofs.Bounds.{rows_below}
use Rattle.tcmu_path.proofs.Plains.{plain_laid, lays_item}
use Rattle.tcmu_path.proofs.state.State.accept.Goals as goal

pub invariant_of-self-3 : goal.invariant_of-self-3
invariant_of-self-3 c =
    let a = c.self.inside in
    let us : List Unfinished = a.rows.items in
    let u : Unfinished = c.new-row.result in
    let command : u.command ≡ c.args.command.now = ap (λ (v : Unfinished). v.command) c.new-row.ensures ∙ c.in_ok-try_clone.ensures in
    let blocks : c.blocks_of-blocks.result ≡ blocks_in c.args.self.now c.args.command.now = c.blocks_of-blocks.ensures in
    let held : c.held_with-held.result ≡ blocks_of_commands a.settings.pages us + blocks_of a.settings.pages c.args.command.now = subst (λ (d : DeviceState). c.held_with-held.result ≡ held_blocks d + blocks_in d c.args.command.now) (sym c.self.view_is) (c.held_with-held.ensures ∙ ap (λ n. held_blocks c.args.self.now + n) blocks) in
    let places : to_place us + 1 ≤ c.answers_to_place-places.result = subst (λ (d : DeviceState). to_place d.unfinished + 1 ≤ c.answers_to_place-places.result) (sym c.self.view_is) c.answers_to_place-places.ensures in
    let completions : to_log us + length a.delayed.items + 1 ≤ c.completions_to_log-completions.result = subst (λ (d : DeviceState). to_log d.unfinished + length d.delayed + 1 ≤ c.completions_to_log-completions.result) (sym c.self.view_is) c.completions_to_log-completions.ensures in
    plain_laid a.settings a.ring.laid c.lay.new.self.laid us c.append.new.rows.items u a.delayed.items a.delayed.items a.placed.items c.reserve.new.self.items
    a.held a.placed.spare a.log.spare c.held_with-held.result c.reserve.new.self.spare c.reserve-2.new.self.spare a.passed
    c.self.invariant
    (lays_item a.ring c.lay.new.self _ c.in_ok-lay.ensures.ok)
    (c.append.ensures.rows ∙ ap (λ (vs : List Unfinished). vs ++ u ∷ []) c.reserve-3.ensures.items)
    (held ∙ sym (ap (λ n. blocks_of_commands a.settings.pages us + n) (ap (blocks_of a.settings.pages) command)))
    (omega (arith, places, c.in_ok-reserve.ensures.room))
    (omega (arith, completions, c.in_ok-reserve-2.ensures.room))
    c.reserve.ensures.items

pub append-requires-clause-above : goal.append-requires-clause-above
append-requires-clause-above c =
    let a = c.self.inside in
    let below : Every (λ s. s < a.accepted + 1) (serials_of a.rows.items) = subst (λ (d : DeviceState). Every (λ s. s < d.accepted + 1) (serials_of d.unfinished)) (sym c.self.view_is) (rows_below c.args.self.now c.requires.sound) in
    let kept : Every (λ s. s < a.accepted + 1) (serials_of c.reserve-3.new.self.items) = subst (λ (us : List Unfinished). Every (λ s. s < a.accepted + 1) (serials_of us)) (sym c.reserve-3.ensures.items) below in
    subst (λ (n : ℕ). Every (λ s. s < n) (serials_of c.reserve-3.new.self.items)) (sym (ap (λ (u : Unfinished). u.serial) c.new-row.ensures)) kept
