use Rattle.std.proofs.Common.{◌≡◌, ℕ, ◌-◌, cond, ap, ◌∙◌, subst, arith}
use Rattle.tcmu_model.specs.Events.{stat_answer}
use Rattle.ring_laws.specs.Restarted.{count_parked}
use Rattle.target_side.specs.declared.numbers.TargetNumbers.{TargetNumbers}
use Rattle.user_lib.specs.declared.numbers.UserNumbers.{UserNumbers}
use Rattle.ring_path.specs.Devices.{RingDevice}
use Rattle.ring_path.proofs.Shows.{lost_same, stat_fits, stat_of, stat_told}
use Rattle.ring_path.proofs.state.State.stat.Goals as goal

pub left-requires : goal.left-requires
left-requires c =
    let a = c.self.inside in
    let fits = stat_fits a.region a.target a.user a.hand.items a.attached a.longest a.told c.self.invariant in
    let laid : c.numbers-target.result.laid ≡ a.target.laid = ap (λ (x : TargetNumbers). x.laid) c.numbers-target.ensures.value in
    let cleared : c.numbers-target.result.cleared ≡ a.target.cleared = ap (λ (x : TargetNumbers). x.cleared) c.numbers-target.ensures.value in
    let dispatched : c.numbers-user.result.dispatched ≡ a.user.dispatched = ap (λ (x : UserNumbers). x.dispatched) c.numbers-user.ensures in
    let published : c.numbers-user.result.published ≡ a.user.published = ap (λ (x : UserNumbers). x.published) c.numbers-user.ensures in
    let parked : c.numbers-user.result.parked ≡ count_parked a.user.jobs = ap (λ (x : UserNumbers). x.parked) c.numbers-user.ensures in
    omega (arith, fits.waiting, laid, dispatched)

pub few-requires : goal.few-requires
few-requires c =
    let a = c.self.inside in
    let fits = stat_fits a.region a.target a.user a.hand.items a.attached a.longest a.told c.self.invariant in
    let laid : c.numbers-target.result.laid ≡ a.target.laid = ap (λ (x : TargetNumbers). x.laid) c.numbers-target.ensures.value in
    let cleared : c.numbers-target.result.cleared ≡ a.target.cleared = ap (λ (x : TargetNumbers). x.cleared) c.numbers-target.ensures.value in
    let dispatched : c.numbers-user.result.dispatched ≡ a.user.dispatched = ap (λ (x : UserNumbers). x.dispatched) c.numbers-user.ensures in
    let published : c.numbers-user.result.published ≡ a.user.published = ap (λ (x : UserNumbers). x.published) c.numbers-user.ensures in
    let parked : c.numbers-user.result.parked ≡ count_parked a.user.jobs = ap (λ (x : UserNumbers). x.parked) c.numbers-user.ensures in
    omega (arith, fits.out, c.asked_len.ensures)

pub few-requires-2 : goal.few-requires-2
few-requires-2 c =
    let a = c.self.inside in
    let fits = stat_fits a.region a.target a.user a.hand.items a.attached a.longest a.told c.self.invariant in
    let laid : c.numbers-target.result.laid ≡ a.target.laid = ap (λ (x : TargetNumbers). x.laid) c.numbers-target.ensures.value in
    let cleared : c.numbers-target.result.cleared ≡ a.target.cleared = ap (λ (x : TargetNumbers). x.cleared) c.numbers-target.ensures.value in
    let dispatched : c.numbers-user.result.dispatched ≡ a.user.dispatched = ap (λ (x : UserNumbers). x.dispatched) c.numbers-user.ensures in
    let published : c.numbers-user.result.published ≡ a.user.published = ap (λ (x : UserNumbers). x.published) c.numbers-user.ensures in
    let parked : c.numbers-user.result.parked ≡ count_parked a.user.jobs = ap (λ (x : UserNumbers). x.parked) c.numbers-user.ensures in
    omega (arith, fits.handled, c.answered_len.ensures)

pub few-requires-3 : goal.few-requires-3
few-requires-3 c =
    let a = c.self.inside in
    let fits = stat_fits a.region a.target a.user a.hand.items a.attached a.longest a.told c.self.invariant in
    let laid : c.numbers-target.result.laid ≡ a.target.laid = ap (λ (x : TargetNumbers). x.laid) c.numbers-target.ensures.value in
    let cleared : c.numbers-target.result.cleared ≡ a.target.cleared = ap (λ (x : TargetNumbers). x.cleared) c.numbers-target.ensures.value in
    let dispatched : c.numbers-user.result.dispatched ≡ a.user.dispatched = ap (λ (x : UserNumbers). x.dispatched) c.numbers-user.ensures in
    let published : c.numbers-user.result.published ≡ a.user.published = ap (λ (x : UserNumbers). x.published) c.numbers-user.ensures in
    let parked : c.numbers-user.result.parked ≡ count_parked a.user.jobs = ap (λ (x : UserNumbers). x.parked) c.numbers-user.ensures in
    omega (arith, fits.parked, parked)

pub left-requires-2 : goal.left-requires-2
left-requires-2 c =
    let a = c.self.inside in
    let fits = stat_fits a.region a.target a.user a.hand.items a.attached a.longest a.told c.self.invariant in
    let laid : c.numbers-target.result.laid ≡ a.target.laid = ap (λ (x : TargetNumbers). x.laid) c.numbers-target.ensures.value in
    let cleared : c.numbers-target.result.cleared ≡ a.target.cleared = ap (λ (x : TargetNumbers). x.cleared) c.numbers-target.ensures.value in
    let dispatched : c.numbers-user.result.dispatched ≡ a.user.dispatched = ap (λ (x : UserNumbers). x.dispatched) c.numbers-user.ensures in
    let published : c.numbers-user.result.published ≡ a.user.published = ap (λ (x : UserNumbers). x.published) c.numbers-user.ensures in
    let parked : c.numbers-user.result.parked ≡ count_parked a.user.jobs = ap (λ (x : UserNumbers). x.parked) c.numbers-user.ensures in
    let answered : c.chosen-answered.result ≡ cond {A = ℕ} a.attached a.user.placed a.user.published = c.chosen-answered.ensures ∙ ap (λ (x : UserNumbers). cond {A = ℕ} a.attached x.placed x.published) c.numbers-user.ensures in
    omega (arith, fits.placed, answered, cleared)

pub left-requires-3 : goal.left-requires-3
left-requires-3 c =
    let a = c.self.inside in
    let fits = stat_fits a.region a.target a.user a.hand.items a.attached a.longest a.told c.self.invariant in
    let laid : c.numbers-target.result.laid ≡ a.target.laid = ap (λ (x : TargetNumbers). x.laid) c.numbers-target.ensures.value in
    let cleared : c.numbers-target.result.cleared ≡ a.target.cleared = ap (λ (x : TargetNumbers). x.cleared) c.numbers-target.ensures.value in
    let dispatched : c.numbers-user.result.dispatched ≡ a.user.dispatched = ap (λ (x : UserNumbers). x.dispatched) c.numbers-user.ensures in
    let published : c.numbers-user.result.published ≡ a.user.published = ap (λ (x : UserNumbers). x.published) c.numbers-user.ensures in
    let parked : c.numbers-user.result.parked ≡ count_parked a.user.jobs = ap (λ (x : UserNumbers). x.parked) c.numbers-user.ensures in
    let going : c.chosen-lost.result ≡ cond {A = ℕ} a.attached a.user.published a.user.dispatched = c.chosen-lost.ensures ∙ ap (λ (x : UserNumbers). cond {A = ℕ} a.attached x.published x.dispatched) c.numbers-user.ensures in
    let same : cond {A = ℕ} a.attached a.user.published a.user.dispatched - a.user.published ≡ cond {A = ℕ} a.attached 0 (a.user.dispatched - a.user.published) = lost_same a.attached a.user.published a.user.dispatched in
    omega (arith, fits.lost, going, same, published)

pub returns : goal.returns
returns c =
    let a = c.self.inside in
    let fits = stat_fits a.region a.target a.user a.hand.items a.attached a.longest a.told c.self.invariant in
    let laid : c.numbers-target.result.laid ≡ a.target.laid = ap (λ (x : TargetNumbers). x.laid) c.numbers-target.ensures.value in
    let cleared : c.numbers-target.result.cleared ≡ a.target.cleared = ap (λ (x : TargetNumbers). x.cleared) c.numbers-target.ensures.value in
    let dispatched : c.numbers-user.result.dispatched ≡ a.user.dispatched = ap (λ (x : UserNumbers). x.dispatched) c.numbers-user.ensures in
    let published : c.numbers-user.result.published ≡ a.user.published = ap (λ (x : UserNumbers). x.published) c.numbers-user.ensures in
    let parked : c.numbers-user.result.parked ≡ count_parked a.user.jobs = ap (λ (x : UserNumbers). x.parked) c.numbers-user.ensures in
    let answered : c.chosen-answered.result ≡ cond {A = ℕ} a.attached a.user.placed a.user.published = c.chosen-answered.ensures ∙ ap (λ (x : UserNumbers). cond {A = ℕ} a.attached x.placed x.published) c.numbers-user.ensures in
    let going : c.chosen-lost.result ≡ cond {A = ℕ} a.attached a.user.published a.user.dispatched = c.chosen-lost.ensures ∙ ap (λ (x : UserNumbers). cond {A = ℕ} a.attached x.published x.dispatched) c.numbers-user.ensures in
    let same : cond {A = ℕ} a.attached a.user.published a.user.dispatched - a.user.published ≡ cond {A = ℕ} a.attached 0 (a.user.dispatched - a.user.published) = lost_same a.attached a.user.published a.user.dispatched in
    let waiting : c.left.result ≡ a.target.laid - a.user.dispatched = omega (arith, c.left.ensures, laid, dispatched) in
    let placed : c.left-2.result ≡ cond {A = ℕ} a.attached a.user.placed a.user.published - a.target.cleared = omega (arith, c.left-2.ensures, answered, cleared) in
    let lost : c.left-3.result ≡ cond {A = ℕ} a.attached 0 (a.user.dispatched - a.user.published) = omega (arith, c.left-3.ensures, going, same, published) in
    subst (λ (k : RingDevice). stat_of c.numbers-target.result a.attached c.left.result c.few.result c.few-2.result c.few-3.result c.left-2.result c.left-3.result ≡ stat_answer k.state) c.self.view_is
    (stat_told a.region a.target a.user a.hand.items a.attached a.longest a.told c.numbers-target.result c.left.result c.few.result c.few-2.result c.few-3.result c.left-2.result c.left-3.result c.self.invariant c.numbers-target.ensures.value
    waiting (c.few.ensures ∙ c.asked_len.ensures) (c.few-2.ensures ∙ c.answered_len.ensures) (c.few-3.ensures ∙ parked) placed lost)
