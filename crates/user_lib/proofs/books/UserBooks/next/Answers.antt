use Rattle.std.proofs.Common.{◌+◌, ◌/◌, length, sym, ap, ◌∙◌, subst}
use Rattle.region_model.specs.Sides.{UserState}
use Rattle.user_lib.specs.Told.{WentOn}
use Rattle.user_lib.specs.Views.{next_data}
use Rattle.user_lib.proofs.Going.{comes, ends, passes_more, refused, stopped, went_back, went_more}
use Rattle.user_lib.proofs.books.UserBooks.next.Goals as goal

pub returns-in-Err-clause-told : goal.returns-in-Err-clause-told
returns-in-Err-clause-told c = refused c.args.region.now c.args.self.now c.in-Err.fault (sym c.in-Err.ensures.value)

pub returns-in-Came-clause-told : goal.returns-in-Came-clause-told
returns-in-Came-clause-told c =
    comes c.in-Ok.mailbox c.args.region.now c.loop.region c.step.new.region c.args.self.now c.loop.self c.step.new.self c.loop.counter (c.self.inside.ring / 8 + 1) (next_data c.in-Came.next) (sym c.in-Ok.ensures.value)
    (ap (λ (x : UserState). x.ring / 8 + 1) c.self.view_is) c.loop-test.true c.loop.invariant.passed c.in-Came.ensures.told

pub returns-in-Stopped-clause-told : goal.returns-in-Stopped-clause-told
returns-in-Stopped-clause-told c =
    let w = subst (λ (x : UserState). WentOn c.args.self.now x) (sym c.in-Stopped.ensures.told.1) c.loop.invariant.went in
    let a = c.go_back.ensures ∙ went_back c.args.self.now c.step.new.self c.self.inside.place c.len-count.result w (ap (λ (x : UserState). x.place) c.self.view_is) (c.len-count.ensures ∙ (c.self.inside.items.ok.0 ∙ ap (λ (x : UserState). length x.items) c.self.view_is)) in
    stopped c.in-Ok.mailbox c.args.region.now c.loop.region c.step.new.region c.args.self.now c.loop.self c.go_back.new.self c.in-Stopped.fault c.loop.counter (c.self.inside.ring / 8 + 1) (sym c.in-Ok.ensures.value)
    (ap (λ (x : UserState). x.ring / 8 + 1) c.self.view_is) c.loop-test.true c.loop.invariant.passed c.in-Stopped.ensures.told.0 c.in-Stopped.ensures.told.2 a

pub loop-preserved : goal.loop-preserved
loop-preserved c =
    record {
      passed = passes_more c.in-Ok.mailbox c.loop.counter c.args.region.now c.loop.region c.step.new.region c.args.self.now c.loop.self c.step.new.self c.loop.invariant.passed c.in-Passed.ensures.told.0;
      went = went_more c.args.self.now c.loop.self c.step.new.self c.loop.invariant.went c.in-Passed.ensures.told.1;
      front = c.step.ensures.front ∙ c.loop.invariant.front;
      pages = c.step.ensures.pages ∙ c.loop.invariant.pages;
      ring = c.step.ensures.size ∙ c.loop.invariant.ring;
      same = ap (λ (x : UserState). x.dispatched) c.in-Passed.ensures.told.1.same ∙ c.loop.invariant.same;
    }

pub returns-clause-told : goal.returns-clause-told
returns-clause-told c =
    ends c.in-Ok.mailbox c.args.region.now c.loop.region c.args.self.now c.loop.self c.loop.counter (c.self.inside.ring / 8 + 1) (sym c.in-Ok.ensures.value) (ap (λ (x : UserState). x.ring / 8 + 1) c.self.view_is) c.loop-test.false
    c.loop.auto.counter-end c.loop.invariant.passed
