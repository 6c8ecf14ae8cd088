use Rattle.std.proofs.Common.{◌≡◌, ℕ, ◌+◌, ◌<◌, ◌≤◌, ◌∷◌, [], ◌++◌, List, length, ap, sym, subst, ◌∙◌, arith}
use Rattle.tcmu_model.specs.Lengths.{blocks_of}
use Rattle.tcmu_model.specs.Device.{Unfinished, Delayed, DeviceState}
use Rattle.tcmu_model.specs.Events.{held_blocks, blocks_in}
use Rattle.tcmu_path.specs.Room.{blocks_of_commands, to_place}
use Rattle.tcmu_types.specs.Lists.{Every}
use Rattle.tcmu_path.specs.Tallies.{serials_of}
use Rattle.tcmu_path.proofs.Bounds.{rows_before}
use Rattle.tcmu_path.proofs.Plains.{plain_laid, lays_item}
use Rattle.tcmu_path.proofs.state.State.enter_first.Goals as goal

same-first : (v w : Delayed) (vs ws : List Delayed) → (v ∷ vs) ≡ (w ∷ ws) → v ≡ w
same-first v w vs ws h = cc

pub invariant_of-self-in-Some-pop : goal.invariant_of-self-in-Some-pop
invariant_of-self-in-Some-pop c =
    let a = c.self.inside in
    let us : List Unfinished = a.rows.items in
    let u : Unfinished = c.new.result in
    let w : Delayed = c.in-Some-pop.waited in
    let next = c.requires.next in
    let all : next.first ∷ next.next.rest ≡ w ∷ c.pop.new.self.items = sym next.next.is ∙ (sym (ap (λ (d : DeviceState). d.delayed) c.self.view_is) ∙ c.in-Some-pop.ensures) in
    let first : next.first ≡ w = same-first next.first w next.next.rest c.pop.new.self.items all in
    let command : u.command ≡ next.first.command = ap (λ (v : Unfinished). v.command) c.new.ensures ∙ (ap (λ (v : Delayed). v.command) c.waited.view_is ∙ ap (λ (v : Delayed). v.command) (sym first)) in
    let blocks : c.args.blocks ≡ blocks_in c.args.self.now u.command = next.blocks_are ∙ ap (blocks_in c.args.self.now) (sym command) in
    let held : c.held_with-held.result ≡ blocks_of_commands a.settings.pages us + blocks_of a.settings.pages u.command = subst (λ (d : DeviceState). c.held_with-held.result ≡ held_blocks d + blocks_in d u.command) (sym c.self.view_is) (c.held_with-held.ensures ∙ ap (λ n. held_blocks c.args.self.now + n) blocks) in
    let places : to_place us + 1 ≤ c.answers_to_place-places.result = subst (λ (d : DeviceState). to_place d.unfinished + 1 ≤ c.answers_to_place-places.result) (sym c.self.view_is) c.answers_to_place-places.ensures in
    let fewer : length a.delayed.items ≡ length (w ∷ c.pop.new.self.items) = ap (λ (ws : List Delayed). length ws) c.in-Some-pop.ensures in
    plain_laid a.settings a.ring.laid c.lay.new.self.laid us c.append.new.rows.items u a.delayed.items c.pop.new.self.items a.placed.items c.reserve.new.self.items
    a.held a.placed.spare a.log.spare c.held_with-held.result c.reserve.new.self.spare a.log.spare a.passed
    c.self.invariant
    (lays_item a.ring c.lay.new.self _ c.in_ok-lay.ensures.ok)
    (c.append.ensures.rows ∙ ap (λ (vs : List Unfinished). vs ++ u ∷ []) c.reserve-2.ensures.items)
    held
    (omega (arith, places, c.in_ok-reserve.ensures.room))
    (omega (arith, fewer, c.self.invariant.log_room))
    c.reserve.ensures.items

pub append-requires-clause-above : goal.append-requires-clause-above
append-requires-clause-above c =
    let a = c.self.inside in
    let u : Unfinished = c.new.result in
    let w : Delayed = c.in-Some-pop.waited in
    let all : c.args.self.now.delayed ≡ w ∷ c.pop.new.self.items = sym (ap (λ (d : DeviceState). d.delayed) c.self.view_is) ∙ c.in-Some-pop.ensures in
    let before : Every (λ s. s < w.serial) (serials_of c.args.self.now.unfinished) = rows_before c.args.self.now w c.pop.new.self.items c.requires.sound all in
    let mine : Every (λ s. s < w.serial) (serials_of a.rows.items) = subst (λ (d : DeviceState). Every (λ s. s < w.serial) (serials_of d.unfinished)) (sym c.self.view_is) before in
    let kept : Every (λ s. s < w.serial) (serials_of c.reserve-2.new.self.items) = subst (λ (us : List Unfinished). Every (λ s. s < w.serial) (serials_of us)) (sym c.reserve-2.ensures.items) mine in
    let serial : w.serial ≡ u.serial = sym (ap (λ (v : Unfinished). v.serial) c.new.ensures ∙ ap (λ (v : Delayed). v.serial) c.waited.view_is) in
    subst (λ (n : ℕ). Every (λ s. s < n) (serials_of c.reserve-2.new.self.items)) serial kept
