use Rattle.std.proofs.Common.{◌≡◌, ℕ, ◌+◌, ◌-◌, ◌<◌, ◌≤◌, Bool, true, false, cond, nat_lt, length, Ok, sym, ap, ◌∙◌, subst, arith}
use Rattle.region_model.specs.declared.mailbox.Mailbox.{Mailbox}
use Rattle.region_model.specs.declared.entry.EntryRef.{EntryRef}
use Rattle.region_model.specs.EntryReading.{KeepsBounds, limit_of}
use Rattle.region_model.specs.Layout.{data_start, ring_start}
use Rattle.region_model.specs.UserSteps.{lie_in_area}
use Rattle.region_model.specs.UserNext.{iovs_in}
use Rattle.region_model.specs.Sides.{UserState}
use Rattle.user_lib.proofs.Entries.{inside_area}
use Rattle.user_lib.proofs.books.UserBooks.step.Goals as goal

within : (m : Mailbox) (at : ℕ) → at < m.cmdr_size → m.head < m.cmdr_size → at + limit_of m at ≤ m.cmdr_size
unfolding limit_of
within m at h k = go (nat_lt at m.head)
  where
    go : (b : Bool) → at + cond b (m.head - at) (m.cmdr_size - at) ≤ m.cmdr_size
    go true = omega (arith, h, k)
    go false = omega (arith, h)

pub give-requires-clause-slots : goal.give-requires-clause-slots
give-requires-clause-slots c =
    let p : c.self.inside.place ≡ c.args.self.now.place = ap (λ (x : UserState). x.place) c.self.view_is in
    let r : c.self.inside.ring ≡ c.args.self.now.ring = ap (λ (x : UserState). x.ring) c.self.view_is in
    let l = c.self.invariant.sound.place.below in
    let s = c.requires.size in
    let f = c.requires.ring in
    let b = subst (λ (e : EntryRef). KeepsBounds c.front.result.now c.area_len.result c.args.mailbox.now c.self.inside.place e) c.in-Ok-Cmd.field-0-is c.in-Ok-Cmd.ensures.bounds in
    let b1 = b.1 in
    let b2 = b.2 in
    let w = within c.args.mailbox.now c.self.inside.place (omega (arith, l, r, s)) c.requires.mailbox.head_inside in
    omega (arith, p, r, s, f, b1, b2, w)

pub note-requires-clause-slots : goal.note-requires-clause-slots
note-requires-clause-slots c =
    let p : c.self.inside.place ≡ c.args.self.now.place = ap (λ (x : UserState). x.place) c.self.view_is in
    let r : c.self.inside.ring ≡ c.args.self.now.ring = ap (λ (x : UserState). x.ring) c.self.view_is in
    let l = c.self.invariant.sound.place.below in
    let s = c.requires.size in
    let f = c.requires.ring in
    let b = subst (λ (e : EntryRef). KeepsBounds c.front.result.now c.area_len.result c.args.mailbox.now c.self.inside.place e) c.in-Ok-Tmr.field-0-is c.in-Ok-Tmr.ensures.bounds in
    let b1 = b.1 in
    let b2 = b.2 in
    let w = within c.args.mailbox.now c.self.inside.place (omega (arith, l, r, s)) c.requires.mailbox.head_inside in
    omega (arith, p, r, s, f, b1, b2, w)

pub give-requires-clause-answer : goal.give-requires-clause-answer
give-requires-clause-answer c =
    let p : c.self.inside.place ≡ c.args.self.now.place = ap (λ (x : UserState). x.place) c.self.view_is in
    let r : c.self.inside.ring ≡ c.args.self.now.ring = ap (λ (x : UserState). x.ring) c.self.view_is in
    let l = c.self.invariant.sound.place.below in
    let s = c.requires.size in
    let b = subst (λ (e : EntryRef). KeepsBounds c.front.result.now c.area_len.result c.args.mailbox.now c.self.inside.place e) c.in-Ok-Cmd.field-0-is c.in-Ok-Cmd.ensures.bounds in
    let b0 = b.0 in
    let b1 = b.1 in
    let w = within c.args.mailbox.now c.self.inside.place (omega (arith, l, r, s)) c.requires.mailbox.head_inside in
    omega (arith, p, r, s, b0, b1, w)

pub give-requires-clause-inside : goal.give-requires-clause-inside
give-requires-clause-inside c =
    let low : length c.args.region.now.front ≡ data_start c.args.mailbox.now.cmdr_size = omega (arith, c.requires.ring, c.requires.size) in
    let k = inside_area c.args.region.now c.front.result.now c.area_len.result c.args.mailbox.now c.self.inside.place c.in-Ok-Cmd.len c.in-Ok-Cmd.id c.in-Ok-Cmd.iov_cnt c.in-Ok-Cmd.cdb c.front.ensures.front low c.area_len.ensures.end
    (sym c.in-Ok-Cmd.ensures.value ∙ ap Ok c.in-Ok-Cmd.field-0-is) in
    subst (λ n. lie_in_area c.args.region.now (iovs_in c.args.region.now.front (ring_start + n) 0 c.in-Ok-Cmd.iov_cnt) ≡ true) (ap (λ (x : UserState). x.place) c.self.view_is) k
