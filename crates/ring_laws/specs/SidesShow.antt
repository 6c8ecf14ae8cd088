-- What the two sides and the jobs in hand show of their device: its numbers, and what is to be done.
use Rattle.std.specs.Prelude.{ℕ, ◌-◌, ◌==◌, not, Bool, List, Option, length, if◌then◌else◌}
use Rattle.std.specs.List.{count_by}
use Rattle.std.specs.Option.{is_some, option_map}
use Rattle.tcmu_types.specs.declared.stat.Stat.{Stat}
use Rattle.tcmu_types.specs.declared.stat.Todo.{Todo}
use Rattle.tcmu_types.specs.Lists.{first_of}
use Rattle.tcmu_model.specs.Drain.{nothing_to_do}
use Rattle.region_model.specs.Sides.{InHand, TargetState, UserState}
use Rattle.region_model.specs.TargetSteps.{blocks_held, can_enter, head_in, used_in}
use Rattle.region_model.specs.UserSteps.{moving}
use Rattle.ring_laws.specs.Restarted.{count_parked}

-- ==== stat

-- What a stat tells, by whether the user side is attached. Of the commands laid those wait that are not dispatched; the jobs in hand
-- without a reply are out, the others handled; placed are the answers that are not cleared, of a detached device only those that are
-- published; and lost are, on a detached device, the commands that are dispatched and not published.
unfoldable pub stat_on : Bool → TargetState → UserState → List InHand → Stat
stat_on attached t user hand =
    record {
      now = t.now;
      blocked = t.blocked;
      attached = attached;
      head = head_in t;
      used = used_in t;
      waiting = t.laid - user.dispatched;
      out = count_by (λ h. not (is_some h.reply)) hand;
      handled = count_by (λ h. is_some h.reply) hand;
      parked = count_parked user.jobs;
      placed = (if attached then user.placed else user.published) - t.cleared;
      lost = if attached then 0 else user.dispatched - user.published;
      expired = count_by (λ e. e.pending.expired) t.rows;
      held = length (blocks_held t.rows);
      delayed = length t.delayed;
    }

-- ==== what is to be done

-- the serial of the first job in hand that passes
abbrev pub first_serial : (InHand → Bool) → List InHand → Option ℕ
first_serial p hand = option_map (λ h. h.serial) (first_of p hand)

-- What a drain finds to do, by whether the user side is attached: a job without its reply is to be handled, and one with it is to be
-- responded; an item moves; the tail is not where the target has cleaned to; a delayed command has room; the next entry is not at the head.
unfoldable pub todo_on : Bool → TargetState → UserState → List InHand → Todo
todo_on attached t user hand =
    if attached
    then record {
      handle = first_serial (λ h. not (is_some h.reply)) hand;
      respond = first_serial (λ h. is_some h.reply) hand;
      publish = not (moving user == 0);
      clean = not (user.tail == t.cleaned);
      enter = can_enter t t.delayed;
      dispatch = not (user.place == head_in t);
    }
    else nothing_to_do
