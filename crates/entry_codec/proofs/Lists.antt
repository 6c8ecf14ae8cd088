-- The bytes of a list of iovecs or of ids, written one by one.
use Rattle.std.proofs.Common.{◌≡◌, ℕ, ◌+◌, ◌-◌, ◌*◌, ◌<◌, ◌≤◌, List, ◌∷◌, ◌++◌, length, drop, get_or, ap, ◌∙◌, sym, add-one}
use Rattle.std.proofs.Math.Seq.{drop-cons}
use Rattle.std.proofs.lemmas.List.{length-drop, drop_all}
use Rattle.tcmu_types.specs.declared.iovec.Iov.{Iov}
use Rattle.tcmu_types.specs.ByteFields.{le, put}
use Rattle.tcmu_types.proofs.ByteFields.{lengths, then_put, put-put, put-nothing}
use Rattle.region_model.specs.Layout.{iovs_bytes, ids_bytes}
use Rattle.region_model.proofs.PartLengths.{length-iovs_bytes, length-ids_bytes}

-- one iovec more
pub iovs_step : (items : List Iov) (i : ℕ) (d : Iov) (f f1 f2 : List ℕ) (at at8 at16 : ℕ) → i < length items
    → f1 ≡ put f at (le 8 (get_or items i d).base) → f2 ≡ put f1 at8 (le 8 (get_or items i d).len)
    → at8 ≡ at + 8 → at16 ≡ at + 16 → at + 16 * (length items - i) ≤ length f
    → put f2 at16 (iovs_bytes (drop (i + 1) items)) ≡ put f at (iovs_bytes (drop i items))
iovs_step items i d f f1 f2 at at8 at16 h w1 w2 e8 e16 room =
    let both : f2 ≡ put f at (le 8 (get_or items i d).base ++ le 8 (get_or items i d).len) = then_put f f1 f2 at at8 _ _ w1 w2 (omega lengths) (omega lengths) in
    let left : length (iovs_bytes (drop (i + 1) items)) ≡ 16 * (length items - (i + 1)) = length-iovs_bytes (drop (i + 1) items) ∙ ap (λ (n : ℕ). 16 * n) (length-drop (i + 1) items) in
    ap (λ (w : List ℕ). put w at16 (iovs_bytes (drop (i + 1) items))) both
    ∙ put-put f at at16 _ _ (omega lengths) (omega lengths)
    ∙ ap (λ (w : List Iov). put f at (iovs_bytes w)) (sym (drop-cons items i d h ∙ ap (λ (m : ℕ). get_or items i d ∷ drop m items) (sym (add-one i))))

-- one id more
pub ids_step : (items : List ℕ) (i : ℕ) (f f1 : List ℕ) (at at2 : ℕ) → i < length items
    → f1 ≡ put f at (le 2 (get_or items i 0)) → at2 ≡ at + 2 → at + 2 * (length items - i) ≤ length f
    → put f1 at2 (ids_bytes (drop (i + 1) items)) ≡ put f at (ids_bytes (drop i items))
ids_step items i f f1 at at2 h w1 e2 room =
    let left : length (ids_bytes (drop (i + 1) items)) ≡ 2 * (length items - (i + 1)) = length-ids_bytes (drop (i + 1) items) ∙ ap (λ (n : ℕ). 2 * n) (length-drop (i + 1) items) in
    ap (λ (w : List ℕ). put w at2 (ids_bytes (drop (i + 1) items))) w1
    ∙ put-put f at at2 _ _ (omega lengths) (omega lengths)
    ∙ ap (λ (w : List ℕ). put f at (ids_bytes w)) (sym (drop-cons items i 0 h ∙ ap (λ (m : ℕ). get_or items i 0 ∷ drop m items) (sym (add-one i))))

-- none is left
pub iovs_end : (items : List Iov) (i : ℕ) (f : List ℕ) (at : ℕ) → length items ≤ i → f ≡ put f at (iovs_bytes (drop i items))
iovs_end items i f at h = rw (drop_all i items h) (sym (put-nothing f at))

pub ids_end : (items : List ℕ) (i : ℕ) (f : List ℕ) (at : ℕ) → length items ≤ i → f ≡ put f at (ids_bytes (drop i items))
ids_end items i f at h = rw (drop_all i items h) (sym (put-nothing f at))
