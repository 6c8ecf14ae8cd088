use Rattle.std.proofs.Common.{◌≡◌, ℕ, List, ◌+◌, ◌≤◌, None, true, cond, sym, ap, ◌∙◌, arith}
use Rattle.tcmu_types.specs.Data.{SettingsData}
use Rattle.tcmu_model.specs.declared.state.CommandState.TheVariants.{Placed}
use Rattle.tcmu_model.specs.Device.{Unfinished, is_at}
use Rattle.tcmu_types.specs.Lists.{first_of, without_first}
use Rattle.tcmu_model.specs.Lengths.{blocks_of}
use Rattle.tcmu_model.specs.Events.{is_open}
use Rattle.tcmu_types.proofs.Firsts.{without_first_missing}
use Rattle.tcmu_path.specs.Room.{to_log, blocks_of_commands, to_place}
use Rattle.tcmu_path.proofs.Rooms.{to_log_taken, held_by_taken, to_place_taken, open_logs}
use Rattle.tcmu_path.proofs.books.finish.Goals as goal

pub overflow_sub-held : goal.overflow_sub-held
overflow_sub-held c =
    let p = is_at c.args.serial Placed in
    let k : blocks_of_commands c.args.settings.now.pages (without_first p c.args.rows.now.items) + blocks_of c.args.settings.now.pages c.in-Some.row.command ≡ blocks_of_commands c.args.settings.now.pages c.args.rows.now.items = held_by_taken c.args.settings.now.pages p c.args.rows.now.items c.in-Some.row (sym c.in-Some.ensures.row) in
    let b : c.blocks_of.result ≡ blocks_of c.args.settings.now.pages c.in-Some.row.command = c.blocks_of.ensures.value ∙ (ap (blocks_of c.settings.inside.pages) c.command.ensures ∙ ap (λ (s : SettingsData). blocks_of s.pages c.in-Some.row.command) c.settings.view_is) in
    omega (arith, k, b, c.requires.held)

pub push-requires : goal.push-requires
push-requires c =
    let p = is_at c.args.serial Placed in
    let k : to_log (without_first p c.args.rows.now.items) + cond (is_open c.in-Some.row) 1 0 ≡ to_log c.args.rows.now.items = to_log_taken p c.args.rows.now.items c.in-Some.row (sym c.in-Some.ensures.row) in
    let o : is_open c.in-Some.row ≡ true = open_logs c.settings.inside.flags.read_len c.in-Some.row c.in-Some-into_completion.done c.in-Some-into_completion.ensures in
    let one : ◌≡◌ {A = ℕ} (cond (is_open c.in-Some.row) 1 0) 1 = ap (λ b. cond b 1 0) o in
    omega (arith, k, one, c.requires.room)

pub returns-in-Some-into_completion-clause-room : goal.returns-in-Some-into_completion-clause-room
returns-in-Some-into_completion-clause-room c =
    let p = is_at c.args.serial Placed in
    let k : to_log (without_first p c.args.rows.now.items) + cond (is_open c.in-Some.row) 1 0 ≡ to_log c.args.rows.now.items = to_log_taken p c.args.rows.now.items c.in-Some.row (sym c.in-Some.ensures.row) in
    let o : is_open c.in-Some.row ≡ true = open_logs c.settings.inside.flags.read_len c.in-Some.row c.in-Some-into_completion.done c.in-Some-into_completion.ensures in
    let one : ◌≡◌ {A = ℕ} (cond (is_open c.in-Some.row) 1 0) 1 = ap (λ b. cond b 1 0) o in
    let e : to_log c.take_placed.new.self.items ≡ to_log (without_first p c.args.rows.now.items) = ap to_log c.take_placed.ensures.rest in
    omega (arith, k, one, e, c.requires.room, c.push.ensures.room)

pub returns-in-Some-into_completion-clause-held : goal.returns-in-Some-into_completion-clause-held
returns-in-Some-into_completion-clause-held c =
    let p = is_at c.args.serial Placed in
    let k : blocks_of_commands c.args.settings.now.pages (without_first p c.args.rows.now.items) + blocks_of c.args.settings.now.pages c.in-Some.row.command ≡ blocks_of_commands c.args.settings.now.pages c.args.rows.now.items = held_by_taken c.args.settings.now.pages p c.args.rows.now.items c.in-Some.row (sym c.in-Some.ensures.row) in
    let b : c.blocks_of.result ≡ blocks_of c.args.settings.now.pages c.in-Some.row.command = c.blocks_of.ensures.value ∙ (ap (blocks_of c.settings.inside.pages) c.command.ensures ∙ ap (λ (s : SettingsData). blocks_of s.pages c.in-Some.row.command) c.settings.view_is) in
    let e : blocks_of_commands c.args.settings.now.pages c.take_placed.new.self.items ≡ blocks_of_commands c.args.settings.now.pages (without_first p c.args.rows.now.items) = ap (blocks_of_commands c.args.settings.now.pages) c.take_placed.ensures.rest in
    omega (arith, k, b, e, c.requires.held)

pub returns-in_default-into_completion-clause-room : goal.returns-in_default-into_completion-clause-room
returns-in_default-into_completion-clause-room c =
    let p = is_at c.args.serial Placed in
    let k : to_log (without_first p c.args.rows.now.items) + cond (is_open c.in-Some.row) 1 0 ≡ to_log c.args.rows.now.items = to_log_taken p c.args.rows.now.items c.in-Some.row (sym c.in-Some.ensures.row) in
    let e : to_log c.take_placed.new.self.items ≡ to_log (without_first p c.args.rows.now.items) = ap to_log c.take_placed.ensures.rest in
    omega (arith, k, e, c.requires.room)

pub returns-in_default-into_completion-clause-held : goal.returns-in_default-into_completion-clause-held
returns-in_default-into_completion-clause-held c =
    let p = is_at c.args.serial Placed in
    let k : blocks_of_commands c.args.settings.now.pages (without_first p c.args.rows.now.items) + blocks_of c.args.settings.now.pages c.in-Some.row.command ≡ blocks_of_commands c.args.settings.now.pages c.args.rows.now.items = held_by_taken c.args.settings.now.pages p c.args.rows.now.items c.in-Some.row (sym c.in-Some.ensures.row) in
    let b : c.blocks_of.result ≡ blocks_of c.args.settings.now.pages c.in-Some.row.command = c.blocks_of.ensures.value ∙ (ap (blocks_of c.settings.inside.pages) c.command.ensures ∙ ap (λ (s : SettingsData). blocks_of s.pages c.in-Some.row.command) c.settings.view_is) in
    let e : blocks_of_commands c.args.settings.now.pages c.take_placed.new.self.items ≡ blocks_of_commands c.args.settings.now.pages (without_first p c.args.rows.now.items) = ap (blocks_of_commands c.args.settings.now.pages) c.take_placed.ensures.rest in
    omega (arith, k, b, e, c.requires.held)

pub returns-in_default-clause-books : goal.returns-in_default-clause-books
returns-in_default-clause-books c =
    let n : first_of (is_at c.args.serial Placed) c.args.rows.now.items ≡ None = sym c.in_default.ensures.row in
    rw n (ap (λ (us : List Unfinished). record { unfinished = us; log = c.args.log.now.items }) (c.take_placed.ensures.rest ∙ without_first_missing (is_at c.args.serial Placed) c.args.rows.now.items n))

pub returns-in_default-clause-room : goal.returns-in_default-clause-room
returns-in_default-clause-room c =
    let n : first_of (is_at c.args.serial Placed) c.args.rows.now.items ≡ None = sym c.in_default.ensures.row in
    let e : to_log c.take_placed.new.self.items ≡ to_log c.args.rows.now.items = ap to_log (c.take_placed.ensures.rest ∙ without_first_missing (is_at c.args.serial Placed) c.args.rows.now.items n) in
    omega (arith, e, c.requires.room)

pub returns-in_default-clause-held : goal.returns-in_default-clause-held
returns-in_default-clause-held c =
    let n : first_of (is_at c.args.serial Placed) c.args.rows.now.items ≡ None = sym c.in_default.ensures.row in
    c.requires.held ∙ sym (ap (blocks_of_commands c.args.settings.now.pages) (c.take_placed.ensures.rest ∙ without_first_missing (is_at c.args.serial Placed) c.args.rows.now.items n))

pub returns-in-Some-into_completion-clause-to_place : goal.returns-in-Some-into_completion-clause-to_place
returns-in-Some-into_completion-clause-to_place c =
    let p = is_at c.args.serial Placed in
    let k : to_place (without_first p c.args.rows.now.items) ≤ to_place c.args.rows.now.items = to_place_taken p c.args.rows.now.items c.in-Some.row (sym c.in-Some.ensures.row) in
    let e : to_place c.take_placed.new.self.items ≡ to_place (without_first p c.args.rows.now.items) = ap to_place c.take_placed.ensures.rest in
    omega (arith, k, e)

pub returns-in_default-into_completion-clause-to_place : goal.returns-in_default-into_completion-clause-to_place
returns-in_default-into_completion-clause-to_place c =
    let p = is_at c.args.serial Placed in
    let k : to_place (without_first p c.args.rows.now.items) ≤ to_place c.args.rows.now.items = to_place_taken p c.args.rows.now.items c.in-Some.row (sym c.in-Some.ensures.row) in
    let e : to_place c.take_placed.new.self.items ≡ to_place (without_first p c.args.rows.now.items) = ap to_place c.take_placed.ensures.rest in
    omega (arith, k, e)

pub returns-in_default-clause-to_place : goal.returns-in_default-clause-to_place
returns-in_default-clause-to_place c =
    let n : first_of (is_at c.args.serial Placed) c.args.rows.now.items ≡ None = sym c.in_default.ensures.row in
    let e : to_place c.take_placed.new.self.items ≡ to_place c.args.rows.now.items = ap to_place (c.take_placed.ensures.rest ∙ without_first_missing (is_at c.args.serial Placed) c.args.rows.now.items n) in
    omega (arith, e)
