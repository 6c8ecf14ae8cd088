use Rattle.std.proofs.Common.{◌≡◌, ◌<◌, ◌≤◌, true, false, nat_lt, take, sym, subst, ◌∙◌, arith, inl}
use Rattle.std.proofs.lemmas.Bool.{not_from_false}
use Rattle.tcmu_model.specs.RingState.{RingState, Item, front_with, published_commands, is_command}
use Rattle.tcmu_path.proofs.RingNumbers.{none_more, some_more, command_may}
use Rattle.tcmu_path.proofs.ring.Ring.may_publish.Goals as goal

pub returns-then-self : goal.returns-then-self
returns-then-self c =
    let a = c.self.inside in
    let n = c.args.placed in
    let r : RingState = record { size = a.size; laid = a.laid.items; cleared = a.cleared; published = a.published; dispatched = a.dispatched } in
    let h : published_commands r ≤ n = subst (λ (x : RingState). published_commands x ≤ n) (sym c.self.view_is) c.requires in
    subst (λ (x : RingState). false ≡ nat_lt x.published (front_with n (take x.dispatched x.laid))) c.self.view_is
    (sym (none_more n a.published_commands a.published a.dispatched a.laid.items c.if-self.true c.self.invariant.dispatched c.self.invariant.published_is (omega (arith, h, c.self.invariant.published_is))))

pub returns-then-not-is_command : goal.returns-then-not-is_command
returns-then-not-is_command c =
    let a = c.self.inside in
    let n = c.args.placed in
    let r : RingState = record { size = a.size; laid = a.laid.items; cleared = a.cleared; published = a.published; dispatched = a.dispatched } in
    let h : published_commands r ≤ n = subst (λ (x : RingState). published_commands x ≤ n) (sym c.self.view_is) c.requires in
    let x : Item = c.index-next.result.now in
    let plain : is_command x ≡ false = sym c.is_command.ensures ∙ c.if-not-is_command.true in
    let l : a.published < a.dispatched = omega (arith, c.if-self.false, c.self.invariant.published) in
    not_from_false c.is_command.result c.if-not-is_command.true ∙ sym (subst (λ (y : RingState). nat_lt y.published (front_with n (take y.dispatched y.laid)) ≡ true) c.self.view_is
    (some_more n a.published_commands a.published a.dispatched a.laid.items x l c.self.invariant.dispatched c.self.invariant.published_is (omega (arith, h, c.self.invariant.published_is)) c.index-next.ensures (inl plain)))

pub returns-else-not-is_command : goal.returns-else-not-is_command
returns-else-not-is_command c =
    let a = c.self.inside in
    let n = c.args.placed in
    let r : RingState = record { size = a.size; laid = a.laid.items; cleared = a.cleared; published = a.published; dispatched = a.dispatched } in
    let h : published_commands r ≤ n = subst (λ (x : RingState). published_commands x ≤ n) (sym c.self.view_is) c.requires in
    let x : Item = c.index-next.result.now in
    let command : is_command x ≡ true = sym c.is_command.ensures ∙ c.if-not-is_command.false in
    let l : a.published < a.dispatched = omega (arith, c.if-self.false, c.self.invariant.published) in
    subst (λ (y : RingState). nat_lt a.published_commands n ≡ nat_lt y.published (front_with n (take y.dispatched y.laid))) c.self.view_is
    (command_may n a.published_commands a.published a.dispatched a.laid.items x l c.self.invariant.dispatched c.self.invariant.published_is (omega (arith, h, c.self.invariant.published_is)) c.index-next.ensures command)
