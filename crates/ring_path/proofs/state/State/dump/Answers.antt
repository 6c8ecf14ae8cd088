use Rattle.std.proofs.Common.{◌≡◌, ℕ, List, length, take, sym, ap, arith, subst, ◌∙◌}
use Rattle.std.proofs.lemmas.List.{length-take-le}
use Rattle.region_model.specs.Layout.{ring_start}
use Rattle.region_model.specs.Picture.{picture_of}
use Rattle.ring_laws.specs.PictureRead.{items_read}
use Rattle.ring_path.specs.Devices.{RingDevice}
use Rattle.ring_path.specs.Dumped.{HaveCounts}
use Rattle.ring_path.proofs.Pictures.{counts_told, dump_of, picture_told}
use Rattle.ring_path.proofs.state.State.dump.Goals as goal

pub items_of-requires : goal.items_of-requires
items_of-requires c =
    let a = c.self.inside in
    subst (λ (xs : List ℕ). HaveCounts xs a.target.settings.ring a.target.cleaned a.target.items) (sym c.front-front.ensures.front) (counts_told a.region a.target a.user a.hand.items a.attached a.longest a.told c.self.invariant)

pub returns : goal.returns
returns c =
    let a = c.self.inside in
    let held = subst (λ (k : RingDevice). c.in_ok-held.held.items ≡ (picture_of k.state k.lists).held) (sym c.self.view_is) c.in_ok-held.ensures in
    subst (λ (k : RingDevice). dump_of c.in_ok-mailbox.mailbox.items c.in_ok-items.items.items c.in_ok-held.held.items ≡ picture_of k.state k.lists) c.self.view_is
    (picture_told a.region a.target a.user a.hand.items a.attached a.longest a.told c.in_ok-mailbox.mailbox.items c.in_ok-items.items.items c.in_ok-held.held.items c.self.invariant
    (c.in_ok-mailbox.ensures ∙ ap (λ (xs : List ℕ). take ring_start xs) c.front-front.ensures.front)
    (c.in_ok-items.ensures ∙ ap (λ (xs : List ℕ). items_read xs a.target.settings.ring a.target.cleaned a.target.items) c.front-front.ensures.front) held)

pub slice_bounds-from_slice-end : goal.slice_bounds-from_slice-end
slice_bounds-from_slice-end c = sym (length-take-le 128 c.front-front.result.now (omega (arith, ap (λ (xs : List ℕ). length xs) c.front-front.ensures.front, c.front-front.ensures.mailbox)))
