-- What is written of an item that is laid.
use Rattle.std.proofs.Common.{◌≡◌, ℕ, ◌+◌, ◌%◌, eqb, cond, true, false, List, ◌++◌, take, Option, Some, None, length, refl, ap, ◌∙◌, arith, ⊎_elim}
use Rattle.std.proofs.lemmas.Bool.{cases_Bool}
use Rattle.std.proofs.lemmas.List.{append-nil, drop_all, take_all}
use Rattle.tcmu_types.specs.ByteFields.{le, put}
use Rattle.tcmu_types.specs.Data.{CommandData}
use Rattle.tcmu_types.specs.declared.iovec.Iov.{Iov}
use Rattle.cmd_ring.specs.declared.ring.Place.{Place}
use Rattle.region_model.specs.Areas.{written_along}
use Rattle.region_model.specs.Layout.{command_bytes, head_place, ring_start, tmr_bytes}
use Rattle.region_model.specs.Picture.{command_iovs}
use Rattle.region_model.specs.Regions.{RegionState, fitted, size_of}
use Rattle.region_model.specs.Sides.{TargetState}
use Rattle.region_model.specs.TargetSteps.{blocks_wanted, front_with, head_in, need_in, pad_in, place_in, with_pad}
use Rattle.target_side.specs.Laid.{region_written}
use Rattle.target_side.specs.Writing.{data_for, padded_at, with_padding}

-- padding is written where there is some
pub padded_same : (front : List ℕ) (head pad : ℕ) → padded_at front head (cond (eqb pad 0) None (Some pad)) ≡ with_pad front head pad
padded_same front head pad =
    ⊎_elim
    (λ (z : eqb pad 0 ≡ true). rw z refl)
    (λ (z : eqb pad 0 ≡ false). rw z refl)
    (cases_Bool (eqb pad 0))

-- padding, an entry and the head, written one after another
pub front_same : (front : List ℕ) (t : TargetState) (n : ℕ) (bytes : List ℕ) (head : ℕ) → head ≡ (head_in t + need_in t n) % t.settings.ring →
    put (put (padded_at front (head_in t) (cond (eqb (pad_in t n) 0) None (Some (pad_in t n)))) (ring_start + place_in t n) bytes) head_place (le 4 head) ≡ front_with front t n bytes
unfolding front_with
front_same front t n bytes head e =
    rw e (ap (λ xs. put (put xs (ring_start + place_in t n) bytes) head_place (le 4 ((head_in t + need_in t n) % t.settings.ring))) (padded_same front (head_in t) (pad_in t n)))

-- bytes put over as many others
pub same_length : (old new : List ℕ) → length new ≡ length old → fitted old new ≡ new
same_length old new h =
    ap (λ xs. take (length old) (new ++ xs)) (drop_all (length new) old (omega (arith, h)))
    ∙ (ap (take (length old)) (append-nil new) ∙ take_all (length old) new (omega (arith, h)))

-- ==== one write after another

-- a command's data, its padding, its entry and the head
pub written : (r r1 r2 r3 r4 : RegionState) (t : TargetState) (place : Place) (id : ℕ) (c : CommandData) (blocks : List ℕ) (iovs : List Iov) (head : ℕ) →
    r1 ≡ record r { blocks = written_along (size_of r) r.blocks blocks (data_for (size_of r) c (length blocks)) } →
    r2 ≡ record r1 { front = with_padding r1.front place } →
    r3 ≡ record r2 { front = put r2.front (ring_start + place.at) (command_bytes place.at id (blocks_wanted t c) iovs c.cdb) } →
    r4 ≡ record r3 { front = put r3.front head_place (le 4 head) } →
    iovs ≡ command_iovs t.settings blocks c → head ≡ head_in t → r4 ≡ region_written r t place id c blocks
written r r1 r2 r3 r4 t place id c blocks iovs head a b d e i h =
    let bytes : List Iov → List ℕ = λ xs. command_bytes place.at id (blocks_wanted t c) xs c.cdb in
    let area : List (Option (List ℕ)) = written_along (size_of r) r.blocks blocks (data_for (size_of r) c (length blocks)) in
    e
    ∙ (ap (λ (x : RegionState). record x { front = put x.front head_place (le 4 head) }) (d ∙ ap (λ (x : RegionState). record x { front = put x.front (ring_start + place.at) (bytes iovs) }) (b ∙ ap (λ (x : RegionState). record x { front = with_padding x.front place }) a))
    ∙ (ap (λ xs. record r { front = put (put (with_padding r.front place) (ring_start + place.at) (bytes xs)) head_place (le 4 head); blocks = area }) i
    ∙ ap (λ n. record r { front = put (put (with_padding r.front place) (ring_start + place.at) (bytes (command_iovs t.settings blocks c))) head_place (le 4 n); blocks = area }) h))

-- a note's padding, its entry and the head
pub noted : (r r1 r2 r3 : RegionState) (t : TargetState) (place : Place) (n type_ : ℕ) (ids named : List ℕ) (head : ℕ) →
    r1 ≡ record r { front = with_padding r.front place } →
    r2 ≡ record r1 { front = put r1.front (ring_start + place.at) (tmr_bytes type_ ids) } →
    r3 ≡ record r2 { front = put r2.front head_place (le 4 head) } →
    place ≡ record { pad = cond (eqb (pad_in t n) 0) None (Some (pad_in t n)); pad_at = head_in t; at = place_in t n } → head ≡ (head_in t + need_in t n) % t.settings.ring → ids ≡ named →
    r3 ≡ record r { front = front_with r.front t n (tmr_bytes type_ named) }
noted r r1 r2 r3 t place n type_ ids named head a b d p h i =
    d
    ∙ (ap (λ (x : RegionState). record x { front = put x.front head_place (le 4 head) }) (b ∙ ap (λ (x : RegionState). record x { front = put x.front (ring_start + place.at) (tmr_bytes type_ ids) }) a)
    ∙ (ap (λ (q : Place). record r { front = put (put (with_padding r.front q) (ring_start + q.at) (tmr_bytes type_ ids)) head_place (le 4 head) }) p
    ∙ (ap (λ xs. record r { front = put (put (padded_at r.front (head_in t) (cond (eqb (pad_in t n) 0) None (Some (pad_in t n)))) (ring_start + place_in t n) (tmr_bytes type_ xs)) head_place (le 4 head) }) i
    ∙ ap (λ xs. record r { front = xs }) (front_same r.front t n (tmr_bytes type_ named) head h))))
