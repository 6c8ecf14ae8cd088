use Rattle.std.proofs.Common.{ℕ, ◌+◌, cond, not, Some, refl, sym, ap, ◌∙◌, arith}
use Rattle.region_model.specs.EntryReading.{response_at}
use Rattle.region_model.specs.Layout.{ring_start}
use Rattle.region_model.specs.Pending.{PendingData}
use Rattle.region_model.specs.Regions.{size_of}
use Rattle.region_model.specs.Represents.{has_id}
use Rattle.region_model.specs.Sides.{TargetState}
use Rattle.target_side.specs.Cleaning.{first_cleaned}
use Rattle.target_side.specs.HeldRows.{HeldRows}
use Rattle.target_side.specs.RingRecord.{RingRecord, begins_with_command}
use Rattle.target_side.proofs.Answered.{answered_command, answered_none, logged_one}
use Rattle.target_side.proofs.Completions.{not_true}
use Rattle.target_side.proofs.FoundRows.{finished_count, found_row, no_row, none_gone}
use Rattle.target_side.proofs.Passing.{finished_books, passed_books, passed_size}
use Rattle.target_side.proofs.books.Books.clean_command.Goals as goal

-- no command has the id
pub invariant_of-self : goal.invariant_of-self
invariant_of-self c =
    let b = c.self.inside in
    let same = none_gone b.entries.commands c.finish.new.self c.read_response-response.result.id c.finish.ensures.rows c.in-None.ensures.value in
    passed_books b.flags b.timeout b.qfull b.now b.blocked b.accepted b.delayed.items b.laid b.cleared b.broken (Some c.read_response-response.result.id) b.log.items b.entries
    (record { pages = b.entries.pages; commands = c.finish.new.self; places = b.entries.places }) b.log.spare c.self.invariant
    (ap (λ (h : HeldRows). h.rows) same) (record { size = refl; limit = ap (λ (h : HeldRows). h.limit) same; pages = refl })

pub returns-in-None : goal.returns-in-None
returns-in-None c =
    let b = c.self.inside in
    let same = none_gone b.entries.commands c.finish.new.self c.read_response-response.result.id c.finish.ensures.rows c.in-None.ensures.value in
    answered_none c.args.region.now b.flags b.timeout b.qfull b.now b.blocked b.accepted b.delayed.items b.laid b.cleared b.broken b.log.items b.entries
    (record { pages = b.entries.pages; commands = c.finish.new.self; places = b.entries.places }) c.read_response-response.result
    same refl refl (ap (λ (t : TargetState). begins_with_command t.items) c.self.view_is ∙ c.requires.command)
    (c.read_response-response.ensures ∙ (ap (λ xs. response_at xs (ring_start + c.cleaned.result)) c.front.ensures.front ∙ ap (λ n. response_at c.args.region.now.front (ring_start + n)) c.cleaned.ensures.value))
    (no_row b.entries.commands.rows c.read_response-response.result.id (sym c.in-None.ensures.value))
    ∙ ap (λ (t : TargetState). first_cleaned c.args.region.now t t.items) c.self.view_is

-- the command's answer is logged
pub push-requires : goal.push-requires
push-requires c =
    let left = finished_count c.self.inside.entries.commands.rows c.read_response-response.result.id c.in-Some.pending c.in-Some.ensures.value in
    let one = ap (λ x. cond {A = ℕ} (not x) 1 0) (sym (ap (λ (p : PendingData). p.expired) c.pending.view_is) ∙ not_true c.pending.inside.expired c.if-not-pending.true) in
    omega (arith, left, one, c.self.invariant.room)

pub invariant_of-self-then-not-pending : goal.invariant_of-self-then-not-pending
invariant_of-self-then-not-pending c =
    let b = c.self.inside in
    let f = found_row b.entries.commands.rows c.read_response-response.result.id c.in-Some.pending (sym c.in-Some.ensures.value) in
    let one = ap (λ x. cond {A = ℕ} (not x) 1 0) (ap (λ (p : PendingData). p.expired) f.pending ∙ (sym (ap (λ (p : PendingData). p.expired) c.pending.view_is) ∙ not_true c.pending.inside.expired c.if-not-pending.true)) in
    finished_books b.flags b.timeout b.qfull b.now b.blocked b.accepted b.delayed.items b.laid b.cleared b.broken b.log.items c.push.new.self.items b.entries
    (record { pages = b.entries.pages; commands = c.finish.new.self; places = c.pass.new.self }) (has_id c.read_response-response.result.id) f.row b.log.spare c.push.new.self.spare c.self.invariant f.there
    (ap (λ (h : HeldRows). h.rows) c.finish.ensures.rows)
    (record { size = ap (λ (p : RingRecord). p.size) c.pass.ensures ∙ passed_size b.entries.places.ring; limit = ap (λ (h : HeldRows). h.limit) c.finish.ensures.rows; pages = refl })
    (omega (arith, one, c.push.ensures.room))

pub returns-then-not-pending : goal.returns-then-not-pending
returns-then-not-pending c =
    let b = c.self.inside in
    let f = found_row b.entries.commands.rows c.read_response-response.result.id c.in-Some.pending (sym c.in-Some.ensures.value) in
    answered_command c.args.region.now b.flags b.timeout b.qfull b.now b.blocked b.accepted b.delayed.items b.laid b.cleared b.broken b.log.items c.push.new.self.items b.entries
    (record { pages = b.entries.pages; commands = c.finish.new.self; places = c.pass.new.self }) c.read_response-response.result f.row
    c.finish.ensures.rows c.pass.ensures refl (ap (λ (t : TargetState). begins_with_command t.items) c.self.view_is ∙ c.requires.command)
    (c.read_response-response.ensures ∙ (ap (λ xs. response_at xs (ring_start + c.cleaned.result)) c.front.ensures.front ∙ ap (λ n. response_at c.args.region.now.front (ring_start + n)) c.cleaned.ensures.value))
    f.there
    (logged_one (size_of c.args.region.now) c.args.region.now.blocks b.log.items c.push.new.self.items f.row c.in-Some.pending c.read_response-response.result c.completion.result f.pending
    (sym (ap (λ (p : PendingData). p.expired) c.pending.view_is) ∙ not_true c.pending.inside.expired c.if-not-pending.true) c.completion.ensures c.push.ensures.items)
    ∙ ap (λ (t : TargetState). first_cleaned c.args.region.now t t.items) c.self.view_is

-- one that has expired is in the log already
pub invariant_of-self-else-not-pending : goal.invariant_of-self-else-not-pending
invariant_of-self-else-not-pending c =
    let b = c.self.inside in
    let f = found_row b.entries.commands.rows c.read_response-response.result.id c.in-Some.pending (sym c.in-Some.ensures.value) in
    finished_books b.flags b.timeout b.qfull b.now b.blocked b.accepted b.delayed.items b.laid b.cleared b.broken b.log.items b.log.items b.entries
    (record { pages = b.entries.pages; commands = c.finish.new.self; places = c.pass.new.self }) (has_id c.read_response-response.result.id) f.row b.log.spare b.log.spare c.self.invariant f.there
    (ap (λ (h : HeldRows). h.rows) c.finish.ensures.rows)
    (record { size = ap (λ (p : RingRecord). p.size) c.pass.ensures ∙ passed_size b.entries.places.ring; limit = ap (λ (h : HeldRows). h.limit) c.finish.ensures.rows; pages = refl })
    (omega arith)
