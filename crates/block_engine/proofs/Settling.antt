-- What each part of a request's meaning settles: it has an outcome; under a premise it has only one; and it leaves the medium behind a run
-- of calls.
use Rattle.std.proofs.Common.{◌∙◌, ◌≡◌, ◌⊎◌, inl, inr, ℕ, ◌+◌, ◌*◌, ◌%◌, ◌<◌, ◌≤◌, ◌==◌, min, Bool, true, false, List, [], ◌∷◌, length, take, drop, sym, ap, subst, refl, arith, Option, Some, None, IfSome, is_some, MatchOption, Result, Ok, Err, MatchResult, nat_eq, nat_lt, not, if◌then◌else◌, ⊎_elim, replicate}
use Rattle.std.specs.Bool.{MatchBool}
use Rattle.std.specs.List.{list_all, list_any}
use Rattle.std.proofs.lemmas.List.{length-take, length-drop, length-replicate}
use Rattle.std.specs.Cmp.Lexicographic.{pointwise}
use Rattle.std.proofs.lemmas.Bool.{cases_Bool, and_parts, or_parts, eqb-true}
use Rattle.tcmu_types.specs.Data.{SenseData, ReplyData}
use Rattle.tcmu_types.specs.Rules.{IsReply}
use Rattle.tcmu_model.specs.MediumState.{Span, memory, file, MediumState}
use Rattle.scsi_model.specs.Medium.{span_of, lies_in, Reads, Writes, Fills, Syncs, empty_span, memory_state}
use Rattle.scsi_model.specs.Runs.{read, write, fill, sync, IsRun, clean}
use Rattle.scsi_model.specs.ReadsLost.{span_behind, span_looked_at, span_asked_for, overlap}
use Rattle.scsi_model.proofs.Running.{run_none, run_then, runs_keep}
use Rattle.scsi_model.proofs.Lossless.{runs_stay_lossless}
use Rattle.scsi_model.specs.Decoding.{decoded}
use Rattle.scsi_model.specs.Scsi.{Outcome, Answers, Either, Check, check, first_failed, Checked, Calls, range_checks, write_checks, list_checks, good, refused, ReadsSome, ReadsBytes, WritesBytes, ComparesBytes, ComparesBlocks, Compared, UnmapsOne, Unmaps, UnmapsList, cut, extents_of, is_beyond, is_bad_list, ServesOp, fault_sense}
use Rattle.scsi_model.specs.Senses.{unrecovered_read_error, write_error, parameter_list_length_error, logical_block_address_out_of_range, invalid_field_in_cdb, invalid_field_in_parameter_list, write_protected, miscompare_during_verify_operation}
use Rattle.scsi_model.specs.declared.op.Extent.{Extent}
use Rattle.scsi_model.specs.declared.op.Op.{Op}
use Rattle.scsi_model.specs.declared.op.Op.TheVariants as op
use Rattle.scsi_model.specs.declared.op.CdbFault.{CdbFault}
use Rattle.scsi_model.specs.declared.op.CdbFault.TheVariants as fault
use Rattle.block_engine.specs.Determined.{IsTold, SomeReply, WholeReply, OneReply, StaysTold, ReadsNothingLost, OneReplyInMemory, StaysInMemory, OneReplyWithoutLoss, RequestRuns}
use Rattle.block_engine.proofs.Deciding.{TellsFails, IsSure, reads_sure, writes_sure, fills_sure, syncs_sure, call_runs}
use Rattle.block_engine.proofs.Told.{told_some, SeesRange, told_one}

-- a run keeps the number of blocks, and the failing calls told
blocks_after : (m a : MediumState) → IsRun m a → a.blocks ≡ m.blocks
blocks_after m a r = (runs_keep m a r).blocks

tells_after : (m a : MediumState) → IsRun m a → TellsFails m → TellsFails a
tells_after m a r t = let s = runs_keep m a r in record { own = ap is_some s.own_fails ∙ t.own; store = ap is_some s.store_fails ∙ t.store }

-- ==== UNMAP

unmaps_one_sure : (e : Extent) (m : MediumState) → IsSure m (UnmapsOne e m)
unmaps_one_sure e m = by (e.count == 0)
  where
    by : (c : Bool) → IsSure m (λ failed after. MatchBool c ((failed ≡ false) × (after ≡ m)) (Fills (512 * e.lba) (replicate 512 0) e.count m failed after))
    by true = record { some = (false, m, (refl, refl)); one = λ f g a b t x y. (x.0 ∙ sym y.0, x.1 ∙ sym y.1) }
    by false = let s = fills_sure (512 * e.lba) (replicate 512 0) e.count m in record { some = s.some; one = s.one }

unmaps_one_runs : (e : Extent) (m : MediumState) (f : Bool) (a : MediumState) → e.lba + e.count ≤ m.blocks → UnmapsOne e m f a → IsRun m a
unmaps_one_runs e m f a fits x = by (e.count == 0) x
  where
    by : (c : Bool) → MatchBool c ((f ≡ false) × (a ≡ m)) (Fills (512 * e.lba) (replicate 512 0) e.count m f a) → IsRun m a
    by true x = subst (IsRun m) (sym x.1) (run_none m)
    by false x = call_runs (fill (512 * e.lba) (replicate 512 0) e.count) m f a (omega (arith, fits), omega arith, length-replicate {A = ℕ} 512 0) x

-- one descriptor, and those behind it
unmaps_more : (e : Extent) (rest : List Extent) (m : MediumState) → e.lba + e.count ≤ m.blocks → ((k : MediumState) → k.blocks ≡ m.blocks → IsSure k (Unmaps rest k)) → IsSure m (Unmaps (e ∷ rest) m)
unmaps_more e rest m fits others = record { some = some; one = one }
  where
    first : IsSure m (UnmapsOne e m)
    first = unmaps_one_sure e m

    some : (f : Bool) × (a : MediumState) × Unmaps (e ∷ rest) m f a
    some = let x = first.some in by x.0 x.1 x.2 ((others x.1 (blocks_after m x.1 (unmaps_one_runs e m x.0 x.1 fits x.2))).some)
      where
        by : (broke : Bool) (k : MediumState) → UnmapsOne e m broke k → ((f : Bool) × (a : MediumState) × Unmaps rest k f a) → (f : Bool) × (a : MediumState) × Unmaps (e ∷ rest) m f a
        by true k x more = (true, k, (true, k, x, (refl, refl)))
        by false k x more = (more.0, more.1, (false, k, x, more.2))

    one : (f g : Bool) (a b : MediumState) → TellsFails m → Unmaps (e ∷ rest) m f a → Unmaps (e ∷ rest) m g b → (f ≡ g) × (a ≡ b)
    one f g a b t x y =
        let h = first.one x.0 y.0 x.1 y.1 t x.2 y.2 in
        let P : Bool → MediumState → Type 0 = λ broke k. MatchBool broke ((g ≡ true) × (b ≡ k)) (Unmaps rest k g b) in
        let z : P x.0 x.1 = subst (P x.0) (sym h.1) (subst (λ broke. P broke y.1) (sym h.0) y.3) in
        let run = unmaps_one_runs e m x.0 x.1 fits x.2 in
        by x.0 x.1 ((others x.1 (blocks_after m x.1 run)).one f g a b (tells_after m x.1 run t)) x.3 z
      where
        by : (broke : Bool) (k : MediumState) → (Unmaps rest k f a → Unmaps rest k g b → (f ≡ g) × (a ≡ b)) → MatchBool broke ((f ≡ true) × (a ≡ k)) (Unmaps rest k f a)
            → MatchBool broke ((g ≡ true) × (b ≡ k)) (Unmaps rest k g b) → (f ≡ g) × (a ≡ b)
        by true k more u v = (u.0 ∙ sym v.0, u.1 ∙ sym v.1)
        by false k more u v = more u v

-- the first of some ranges, and those behind it, that lie in so many blocks
lie_in : (e : Extent) (rest : List Extent) (blocks : ℕ) → list_any (is_beyond blocks) (e ∷ rest) ≡ false → (e.lba + e.count ≤ blocks) × (list_any (is_beyond blocks) rest ≡ false)
lie_in e rest blocks h = let x = or_parts (is_beyond blocks e) (list_any (is_beyond blocks) rest) h in (grind (arith, x.0), x.1)

unmaps_sure : (es : List Extent) (m : MediumState) → list_any (is_beyond m.blocks) es ≡ false → IsSure m (Unmaps es m)
unmaps_sure [] m h = record { some = (false, m, (refl, refl)); one = λ f g a b t x y. (x.0 ∙ sym y.0, x.1 ∙ sym y.1) }
unmaps_sure (e ∷ rest) m h =
    let x = lie_in e rest m.blocks h in
    unmaps_more e rest m x.0 (λ k same. unmaps_sure rest k (rw same (x.1)))

unmaps_run : (es : List Extent) (m : MediumState) (f : Bool) (a : MediumState) → list_any (is_beyond m.blocks) es ≡ false → Unmaps es m f a → IsRun m a
unmaps_run [] m f a h x = subst (IsRun m) (sym x.1) (run_none m)
unmaps_run (e ∷ rest) m f a h x =
    let in_range = lie_in e rest m.blocks h in
    let first = unmaps_one_runs e m x.0 x.1 in_range.0 x.2 in
    run_then m x.1 a first (by x.0 x.1 x.3 (λ y. unmaps_run rest x.1 f a (rw (blocks_after m x.1 first) (in_range.1)) y))
  where
    by : (broke : Bool) (k : MediumState) → MatchBool broke ((f ≡ true) × (a ≡ k)) (Unmaps rest k f a) → (Unmaps rest k f a → IsRun k a) → IsRun k a
    by true k u more = subst (IsRun k) (sym u.1) (run_none k)
    by false k u more = more u

-- ==== outcomes

-- a whole reply, with no more bytes than may be answered, that is GOOD or CHECK CONDITION
record Fits (n : ℕ) (r : ReplyData) : Type 0 where
  pub reply : IsReply r
  pub bytes : length r.payload ≤ n
  pub status : (r.status ≡ 0) ⊎ (r.status ≡ 2)

good_fits : (n : ℕ) (payload : List ℕ) → length payload ≤ n → Fits n (good payload)
good_fits n payload h = record { reply = record { byte = omega arith; sense = refl; key = tt; good = λ no. absurd (no refl) }; bytes = h; status = inl refl }

refused_fits : (n : ℕ) (s : SenseData) → s.key < 16 → Fits n (refused s)
refused_fits n s h = record { reply = record { byte = omega arith; sense = refl; key = h; good = λ _. refl }; bytes = omega arith; status = inr refl }

record Settles (P : Type 0) (n : ℕ) (m : MediumState) (E : Outcome) : Type 0 where
  pub some : (r : ReplyData) × (a : MediumState) × E r a
  pub one : P → (r s : ReplyData) (a b : MediumState) → E r a → E s b → (r ≡ s) × (a ≡ b)
  pub run : (r : ReplyData) (a : MediumState) → E r a → IsRun m a
  pub fits : (r : ReplyData) (a : MediumState) → E r a → Fits n r

answers_settle : (P : Type 0) (n : ℕ) (m : MediumState) (given : ReplyData) → Fits n given → Settles P n m (Answers m given)
answers_settle P n m given f = record {
  some = (given, m, (refl, refl));
  one = λ p r s a b x y. (x.0 ∙ sym y.0, x.1 ∙ sym y.1);
  run = λ r a x. subst (IsRun m) (sym x.1) (run_none m);
  fits = λ r a x. subst (Fits n) (sym x.0) f;
}

-- a good reply without bytes, and a refusal
empty_settles : (P : Type 0) (n : ℕ) (m : MediumState) → Settles P n m (Answers m (good []))
empty_settles P n m = answers_settle P n m (good []) (good_fits n [] (omega arith))

refused_settles : (P : Type 0) (n : ℕ) (m : MediumState) (s : SenseData) → s.key < 16 → Settles P n m (Answers m (refused s))
refused_settles P n m s h = answers_settle P n m (refused s) (refused_fits n s h)

either_settles : (P : Type 0) (n : ℕ) (m : MediumState) (test : Bool) (E F : Outcome) → (test ≡ true → Settles P n m E) → (test ≡ false → Settles P n m F)
    → Settles P n m (Either test E F)
either_settles P n m true E F e f = let x = e refl in record { some = x.some; one = x.one; run = x.run; fits = x.fits }
either_settles P n m false E F e f = let x = f refl in record { some = x.some; one = x.one; run = x.run; fits = x.fits }

-- the keys of these checks
abbrev has_keys : List Check → Bool
has_keys checks = list_all (λ c. nat_lt c.sense.key 16) checks

failed_key : (checks : List Check) → has_keys checks ≡ true → IfSome (first_failed checks) (λ s. s.key < 16)
failed_key [] h = tt
failed_key (c ∷ rest) h = by c.fails (and_parts _ _ h).0 (failed_key rest (and_parts _ _ h).1)
  where
    by : (b : Bool) → nat_lt c.sense.key 16 ≡ true → IfSome (first_failed rest) (λ s. s.key < 16) → IfSome (if b then Some c.sense else first_failed rest) (λ s. s.key < 16)
    by true k more = grind (arith, k)
    by false k more = more

checked_settles : (P : Type 0) (n : ℕ) (m : MediumState) (checks : List Check) (Rest : Outcome) → has_keys checks ≡ true
    → (first_failed checks ≡ None → Settles P n m Rest) → Settles P n m (Checked m checks Rest)
checked_settles P n m checks Rest keys rest = by (first_failed checks) refl (failed_key checks keys)
  where
    by : (o : Option SenseData) → first_failed checks ≡ o → IfSome o (λ s. s.key < 16) → Settles P n m (λ r a. MatchOption o (Rest r a) (λ s. Answers m (refused s) r a))
    by None e k = let x = rest e in record { some = x.some; one = x.one; run = x.run; fits = x.fits }
    by (Some s) e k = let x = refused_settles P n m s k in record { some = x.some; one = x.one; run = x.run; fits = x.fits }

-- the first check does not fail, and those behind it do not
passes : (c : Check) (rest : List Check) → first_failed (c ∷ rest) ≡ None → (c.fails ≡ false) × (first_failed rest ≡ None)
passes c rest h = by c.fails h
  where
    by : (b : Bool) → (if b then Some c.sense else first_failed rest) ≡ None → (b ≡ false) × (first_failed rest ≡ None)
    by true e = absurd (cc)
    by false e = (refl, e)

range_passes : (blocks lba count : ℕ) → first_failed (range_checks blocks lba count) ≡ None → lba + count ≤ blocks
range_passes blocks lba count h =
    let x = (passes (check (nat_lt blocks (lba + count)) logical_block_address_out_of_range) [] h).0 in grind (arith, x)

write_passes : (m : MediumState) (sent : List ℕ) (bytes lba count : ℕ) → first_failed (write_checks m sent bytes lba count) ≡ None → (length sent ≡ bytes) × (lba + count ≤ m.blocks)
write_passes m sent bytes lba count h =
    let long = passes (check (not (length sent == bytes)) invalid_field_in_cdb) (check m.protected write_protected ∷ range_checks m.blocks lba count) h in
    let writable = passes (check m.protected write_protected) (range_checks m.blocks lba count) long.1 in
    (eqb-true (length sent) bytes (of_not (length sent == bytes) long.0), range_passes m.blocks lba count writable.1)
  where
    of_not : (b : Bool) → not b ≡ false → b ≡ true
    of_not true e = refl
    of_not false e = absurd (cc)

-- a reply behind a call
call_fits : (n : ℕ) (t : SenseData) (payload : List ℕ) (failed : Bool) → t.key < 16 → length payload ≤ n → Fits n (if failed then refused t else good payload)
call_fits n t payload true k h = refused_fits n t k
call_fits n t payload false k h = good_fits n payload h

calls_settle : (P : Type 0) (n : ℕ) (m : MediumState) (C : Bool → MediumState → Type 0) → (P → TellsFails m) → IsSure m C
    → ((f : Bool) (a : MediumState) → C f a → IsRun m a) → Settles P n m (Calls C write_error [])
calls_settle P n m C tells c run = record {
  some = let x = c.some in ((if x.0 then refused write_error else good []), x.1, (x.0, x.2, refl));
  one = λ p r s a b x y.
      let e = c.one x.0 y.0 a b (tells p) x.1 y.1 in (x.2 ∙ ap (λ f. if f then refused write_error else good []) e.0 ∙ sym y.2, e.1);
  run = λ r a x. run x.0 a x.1;
  fits = λ r a x. subst (Fits n) (sym x.2) (call_fits n write_error [] x.0 (omega arith) (omega arith));
}

-- ==== READ, and COMPARE AND WRITE

-- what has to be told of the medium
record IsSeen (m : MediumState) (at n : ℕ) : Type 0 where
  pub told : IsTold m
  pub sees : SeesRange m at n

tells_fails : (m : MediumState) → IsTold m → TellsFails m
tells_fails m t = record { own = t.own; store = t.store }

read_calls : (m : MediumState) (at n in_len : ℕ) → n ≤ in_len → at + n ≤ 512 * m.blocks → Settles (IsSeen m at n) in_len m (ReadsSome m at n)
read_calls m at n in_len h fits = record {
  some = some;
  one = one;
  run = λ r a x. call_runs (read at x.0) m x.2.0 a (rw x.1 fits) x.2.1;
  fits = λ r a x. subst (Fits in_len) (sym x.2.2) (call_fits in_len unrecovered_read_error x.0 x.2.0 (omega arith) (rw x.1 h));
}
  where
    some : (r : ReplyData) × (a : MediumState) × ReadsSome m at n r a
    some =
        let g = told_some m.below at n in
        let x = (reads_sure m).some in
        ((if x.0 then refused unrecovered_read_error else good g.0), x.1, (g.0, g.1, (x.0, record { made = x.2; told = λ _. g.2 }, refl)))

    good_one : (f : Bool) (out ys : List ℕ) (a b : MediumState) → IsSeen m at n → length out ≡ n → length ys ≡ n → Reads at out m f a → Reads at ys m f b
        → (if f then refused unrecovered_read_error else good out) ≡ (if f then refused unrecovered_read_error else good ys)
    good_one true out ys a b p l k x y = refl
    good_one false out ys a b p l k x y = ap good (told_one m at n out ys p.told.bytes l k p.sees (x.told refl) (y.told refl))

    one : IsSeen m at n → (r s : ReplyData) (a b : MediumState) → ReadsSome m at n r a
        → ReadsSome m at n s b → (r ≡ s) × (a ≡ b)
    one p r s a b x y =
        let e = (reads_sure m).one x.2.0 y.2.0 a b (tells_fails m p.told) x.2.1.made y.2.1.made in
        let z : Reads at y.0 m x.2.0 b = subst (λ f. Reads at y.0 m f b) (sym e.0) y.2.1 in
        (x.2.2 ∙ good_one x.2.0 x.0 y.0 a b p x.1 y.1 x.2.1 z ∙ ap (λ f. if f then refused unrecovered_read_error else good y.0) e.0 ∙ sym y.2.2, e.1)

reads_settle : (m : MediumState) (at n in_len : ℕ) → n ≤ in_len → at + n ≤ 512 * m.blocks → Settles (IsSeen m at n) in_len m (ReadsBytes m at n)
reads_settle m at n in_len h fits =
    let P = IsSeen m at n in
    either_settles P in_len m (n == 0) (Answers m (good [])) (ReadsSome m at n) (λ e. empty_settles P in_len m) (λ e. read_calls m at n in_len h fits)

compared_settles : (m : MediumState) (at n in_len : ℕ) (sent out : List ℕ) → at % 512 ≡ 0 → n % 512 ≡ 0 → at + n ≤ 512 * m.blocks → length sent ≡ 2 * n
    → Settles (TellsFails m) in_len m (Compared m at n sent out)
compared_settles m at n in_len sent out start whole fits long =
    let P = TellsFails m in
    let half : length (drop n sent) ≡ n = grind (arith, length-drop, long) in
    either_settles P in_len m (pointwise nat_eq out (take n sent)) (Calls (Writes at (drop n sent) m) write_error []) (Answers m (refused miscompare_during_verify_operation))
    (λ e. calls_settle P in_len m (Writes at (drop n sent) m) (λ p. p) (writes_sure at (drop n sent) m)
    (λ f a x. call_runs (write at (drop n sent)) m f a (rw half fits, start, rw half whole) x))
    (λ e. refused_settles P in_len m miscompare_during_verify_operation (omega arith))

-- what stands behind the read of a comparison
abbrev Behind : MediumState → ℕ → ℕ → List ℕ → List ℕ → Bool → Outcome
Behind k at n sent out failed = Either failed (Answers k (refused unrecovered_read_error)) (Compared k at n sent out)

behind_settles : (k : MediumState) (at n in_len : ℕ) (sent out : List ℕ) (failed : Bool) → at % 512 ≡ 0 → n % 512 ≡ 0 → at + n ≤ 512 * k.blocks → length sent ≡ 2 * n
    → Settles (TellsFails k) in_len k (Behind k at n sent out failed)
behind_settles k at n in_len sent out failed start whole fits long =
    either_settles (TellsFails k) in_len k failed (Answers k (refused unrecovered_read_error)) (Compared k at n sent out)
    (λ e. refused_settles (TellsFails k) in_len k unrecovered_read_error (omega arith)) (λ e. compared_settles k at n in_len sent out start whole fits long)

compares_settle : (m : MediumState) (at n in_len : ℕ) (sent : List ℕ) → at % 512 ≡ 0 → n % 512 ≡ 0 → at + n ≤ 512 * m.blocks → length sent ≡ 2 * n
    → Settles (IsSeen m at n) in_len m (ComparesBytes m at n sent)
compares_settle m at n in_len sent start whole fits long = record {
  some = some;
  one = one;
  run = run;
  fits = λ r a x. (behind x.3 (read_run x.0 x.2 x.3 x.1 x.4) x.0 x.2).fits r a x.5;
}
  where
    read_run : (out : List ℕ) (f : Bool) (k : MediumState) → length out ≡ n → Reads at out m f k → IsRun m k
    read_run out f k l x = call_runs (read at out) m f k (rw l fits) x

    behind : (k : MediumState) → IsRun m k → (out : List ℕ) (f : Bool) → Settles (TellsFails k) in_len k (Behind k at n sent out f)
    behind k r out f = behind_settles k at n in_len sent out f start whole (rw (blocks_after m k r) fits) long

    some : (r : ReplyData) × (a : MediumState) × ComparesBytes m at n sent r a
    some =
        let g = told_some m.below at n in
        let x = (reads_sure m).some in
        let reads : Reads at g.0 m x.0 x.1 = record { made = x.2; told = λ _. g.2 } in
        let e = (behind x.1 (read_run g.0 x.0 x.1 g.1 reads) g.0 x.0).some in
        (e.0, e.1, (g.0, g.1, x.0, x.1, reads, e.2))

    run : (r : ReplyData) (a : MediumState) → ComparesBytes m at n sent r a → IsRun m a
    run r a x = let first = read_run x.0 x.2 x.3 x.1 x.4 in run_then m x.3 a first ((behind x.3 first x.0 x.2).run r a x.5)

    one : IsSeen m at n → (r s : ReplyData) (a b : MediumState) → ComparesBytes m at n sent r a → ComparesBytes m at n sent s b → (r ≡ s) × (a ≡ b)
    one p r s a b x y =
        let e = (reads_sure m).one x.2 y.2 x.3 y.3 (tells_fails m p.told) x.4.made y.4.made in
        let P : Bool → MediumState → Type 0 = λ f k. Reads at y.0 m f k × Behind k at n sent y.0 f s b in
        let z : P x.2 x.3 = subst (P x.2) (sym e.1) (subst (λ f. P f y.3) (sym e.0) (y.4, y.5)) in
        let first = read_run x.0 x.2 x.3 x.1 x.4 in
        by x.2 x.3 first (tells_after m x.3 first (tells_fails m p.told)) x.4 z.0 x.5 z.1
      where
        by : (f : Bool) (k : MediumState) → IsRun m k → TellsFails k → Reads at x.0 m f k → Reads at y.0 m f k → Behind k at n sent x.0 f r a → Behind k at n sent y.0 f s b
            → (r ≡ s) × (a ≡ b)
        by true k q t u v d h = (d.0 ∙ sym h.0, d.1 ∙ sym h.1)
        by false k q t u v d h =
            let o : x.0 ≡ y.0 = told_one m at n x.0 y.0 p.told.bytes x.1 y.1 p.sees (u.told refl) (v.told refl) in
            (compared_settles k at n in_len sent y.0 start whole (rw (blocks_after m k q) fits) long).one t r s a b (subst (λ ys. Compared k at n sent ys r a) o d) h

-- ==== each operation

record IsKnown (m : MediumState) (sent : List ℕ) (in_len : ℕ) (o : Op) : Type 0 where
  pub told : IsTold m
  pub sees : overlap (span_looked_at m sent in_len o) m.below.lost ≡ false

known_fails : (m : MediumState) (sent : List ℕ) (in_len : ℕ) (o : Op) → IsKnown m sent in_len o → TellsFails m
known_fails m sent in_len o k = tells_fails m k.told

-- a range that has no place with the lost one, behind checks that do not fail
sees_range : (m : MediumState) (at n : ℕ) → overlap (span_of at n) m.below.lost ≡ false → SeesRange m at n
sees_range m at n h i less = ⊎_elim
    (λ (e : lies_in m.below.lost (at + i) ≡ true). absurd (let t : overlap (span_of at n) m.below.lost ≡ true = grind (arith, e, less) in let f : true ≡ false = sym t ∙ h in cc))
    (λ (e : lies_in m.below.lost (at + i) ≡ false). e)
    (cases_Bool (lies_in m.below.lost (at + i)))

seen_behind : (m : MediumState) (checks : List Check) (at n : ℕ) → IsTold m → overlap (span_behind checks at n) m.below.lost ≡ false → first_failed checks ≡ None → IsSeen m at n
seen_behind m checks at n told h e =
    record { told = told; sees = sees_range m at n (subst (λ (o : Option SenseData). overlap (if is_some o then empty_span else span_of at n) m.below.lost ≡ false) e h) }

under : (P Q : Type 0) (n : ℕ) (m : MediumState) (E : Outcome) → (Q → P) → Settles P n m E → Settles Q n m E
under P Q n m E f s = record { some = s.some; one = λ q. s.one (f q); run = s.run; fits = s.fits }

-- an answer that is cut
cut_fits : (limit n : ℕ) (bytes : List ℕ) → Fits n (good (cut limit n bytes))
cut_fits limit n bytes = good_fits n (take n (take limit bytes)) (grind (arith, length-take))

take_fits : (n : ℕ) (bytes : List ℕ) → Fits n (good (take n bytes))
take_fits n bytes = good_fits n (take n bytes) (grind (arith, length-take))

-- the list of UNMAP lies in the medium, where no check fails
list_passes : (m : MediumState) (sent : List ℕ) → first_failed (list_checks m sent) ≡ None → list_any (is_beyond m.blocks) (extents_of sent) ≡ false
list_passes m sent h =
    let es = extents_of sent in
    let range = check (list_any (is_beyond m.blocks) es) logical_block_address_out_of_range in
    let long = passes (check (nat_lt (length sent) 8) parameter_list_length_error) (check (is_bad_list sent es) invalid_field_in_parameter_list ∷ check m.protected write_protected ∷ range ∷ []) h in
    let good_list = passes (check (is_bad_list sent es) invalid_field_in_parameter_list) (check m.protected write_protected ∷ range ∷ []) long.1 in
    let writable = passes (check m.protected write_protected) (range ∷ []) good_list.1 in
    (passes range [] writable.1).0

op_settles : (name : List ℕ) (m : MediumState) (sent : List ℕ) (in_len : ℕ) (o : Op) → Settles (IsKnown m sent in_len o) in_len m (ServesOp name m sent in_len o)
op_settles name m sent in_len (op.Read lba count) =
    let n = min (512 * count) in_len in
    let checks = range_checks m.blocks lba count in
    let P = IsKnown m sent in_len (op.Read lba count) in
    checked_settles P in_len m checks (ReadsBytes m (512 * lba) n) refl
    (λ e. under (IsSeen m (512 * lba) n) P in_len m (ReadsBytes m (512 * lba) n) (λ k. seen_behind m checks (512 * lba) n k.told k.sees e)
    (reads_settle m (512 * lba) n in_len (omega arith) (omega (arith, range_passes m.blocks lba count e))))
op_settles name m sent in_len (op.Write lba count) =
    let o = op.Write lba count in
    let P = IsKnown m sent in_len o in
    checked_settles P in_len m (write_checks m sent (512 * count) lba count) (WritesBytes m (512 * lba) sent) refl
    (λ e. let x = write_passes m sent (512 * count) lba count e in
    either_settles P in_len m (length sent == 0) (Answers m (good [])) (Calls (Writes (512 * lba) sent m) write_error []) (λ z. empty_settles P in_len m)
    (λ z. calls_settle P in_len m (Writes (512 * lba) sent m) (known_fails m sent in_len o) (writes_sure (512 * lba) sent m)
    (λ f a y. call_runs (write (512 * lba) sent) m f a (omega (arith, x.0, x.1), omega arith, omega (arith, x.0)) y)))
op_settles name m sent in_len (op.Sync lba count) =
    let o = op.Sync lba count in
    let P = IsKnown m sent in_len o in
    checked_settles P in_len m (range_checks m.blocks lba count) (Calls (Syncs m) write_error []) refl
    (λ e. calls_settle P in_len m (Syncs m) (known_fails m sent in_len o) (syncs_sure m) (λ f a y. call_runs sync m f a tt y))
op_settles name m sent in_len (op.WriteSame lba count) =
    let o = op.WriteSame lba count in
    let P = IsKnown m sent in_len o in
    checked_settles P in_len m (write_checks m sent 512 lba count) (Calls (Fills (512 * lba) sent count m) write_error []) refl
    (λ e. let x = write_passes m sent 512 lba count e in
    calls_settle P in_len m (Fills (512 * lba) sent count m) (known_fails m sent in_len o) (fills_sure (512 * lba) sent count m)
    (λ f a y. call_runs (fill (512 * lba) sent count) m f a (omega (arith, x.1), omega arith, x.0) y))
op_settles name m sent in_len (op.Unmap bytes) =
    let o = op.Unmap bytes in
    let P = IsKnown m sent in_len o in
    let es = extents_of sent in
    checked_settles P in_len m (check (not (length sent == bytes)) invalid_field_in_cdb ∷ []) (Either (bytes == 0) (Answers m (good [])) (UnmapsList m sent)) refl
    (λ e. either_settles P in_len m (bytes == 0) (Answers m (good [])) (UnmapsList m sent) (λ z. empty_settles P in_len m)
    (λ z. checked_settles P in_len m (list_checks m sent) (Calls (Unmaps es m) write_error []) refl
    (λ k. calls_settle P in_len m (Unmaps es m) (known_fails m sent in_len o) (unmaps_sure es m (list_passes m sent k))
    (λ f a y. unmaps_run es m f a (list_passes m sent k) y))))
op_settles name m sent in_len (op.CompareWrite lba count) =
    let n = 512 * count in
    let checks = write_checks m sent (2 * (512 * count)) lba count in
    let P = IsKnown m sent in_len (op.CompareWrite lba count) in
    checked_settles P in_len m checks (ComparesBlocks m (512 * lba) count sent) refl
    (λ e. let x = write_passes m sent (2 * (512 * count)) lba count e in
    either_settles P in_len m (count == 0) (Answers m (good [])) (ComparesBytes m (512 * lba) n sent) (λ z. empty_settles P in_len m)
    (λ z. under (IsSeen m (512 * lba) n) P in_len m (ComparesBytes m (512 * lba) n sent) (λ k. seen_behind m checks (512 * lba) n k.told k.sees e)
    (compares_settle m (512 * lba) n in_len sent (omega arith) (omega arith) (omega (arith, x.1)) x.0)))
op_settles name m sent in_len op.TestUnitReady = empty_settles _ in_len m
op_settles name m sent in_len (op.RequestSense limit) = answers_settle _ in_len m _ (cut_fits limit in_len _)
op_settles name m sent in_len (op.Inquiry page limit) = answers_settle _ in_len m _ (cut_fits limit in_len _)
op_settles name m sent in_len (op.ModeSense page limit) = answers_settle _ in_len m _ (cut_fits limit in_len _)
op_settles name m sent in_len op.Capacity10 = answers_settle _ in_len m _ (take_fits in_len _)
op_settles name m sent in_len (op.Capacity16 limit) = answers_settle _ in_len m _ (cut_fits limit in_len _)
op_settles name m sent in_len (op.ReportLuns select limit) = answers_settle _ in_len m _ (cut_fits limit in_len _)

fault_key : (f : CdbFault) → (fault_sense f).key < 16
fault_key (fault.Opcode code) = omega arith
fault_key (fault.Field at) = omega arith

-- ==== the laws

pub whole_reply : WholeReply
whole_reply name m r reply after x = let f = by (decoded r.cdb) x in (f.reply, f.bytes, f.status)
  where
    by : (d : Result Op CdbFault) → MatchResult d (λ o. ServesOp name m r.sent r.in_len o reply after) (λ f. Answers m (refused (fault_sense f)) reply after) → Fits r.in_len reply
    by (Ok o) x = (op_settles name m r.sent r.in_len o).fits reply after x
    by (Err f) x = subst (Fits r.in_len) (sym x.0) (refused_fits r.in_len (fault_sense f) (fault_key f))

pub some_reply : SomeReply
some_reply name m r = by (decoded r.cdb)
  where
    by : (d : Result Op CdbFault) → (reply : ReplyData) × (after : MediumState) × MatchResult d (λ o. ServesOp name m r.sent r.in_len o reply after) (λ f. Answers m (refused (fault_sense f)) reply after)
    by (Ok o) = (op_settles name m r.sent r.in_len o).some
    by (Err f) = (refused (fault_sense f), m, (refl, refl))

pub one_reply : OneReply
one_reply name m r first second one other told sees x y = by (decoded r.cdb) sees x y
  where
    by : (d : Result Op CdbFault) → overlap (span_asked_for m r d) m.below.lost ≡ false
        → MatchResult d (λ o. ServesOp name m r.sent r.in_len o first one) (λ f. Answers m (refused (fault_sense f)) first one)
        → MatchResult d (λ o. ServesOp name m r.sent r.in_len o second other) (λ f. Answers m (refused (fault_sense f)) second other) → (first ≡ second) × (one ≡ other)
    by (Ok o) s x y = (op_settles name m r.sent r.in_len o).one (record { told = told; sees = s }) first second one other x y
    by (Err f) s x y = (x.0 ∙ sym y.0, x.1 ∙ sym y.1)

pub request_runs : RequestRuns
request_runs name m r reply after x = by (decoded r.cdb) x
  where
    by : (d : Result Op CdbFault) → MatchResult d (λ o. ServesOp name m r.sent r.in_len o reply after) (λ f. Answers m (refused (fault_sense f)) reply after) → IsRun m after
    by (Ok o) x = (op_settles name m r.sent r.in_len o).run reply after x
    by (Err f) x = subst (IsRun m) (sym x.1) (run_none m)

pub stays_told : StaysTold
stays_told name m r reply after told x =
    let s = runs_keep m after (request_runs name m r reply after x) in
    record { own = ap is_some s.own_fails ∙ told.own; store = ap is_some s.store_fails ∙ told.store; bytes = s.bytes ∙ told.bytes }

pub reads_nothing_lost : ReadsNothingLost
reads_nothing_lost m r e = rw e (nowhere (span_asked_for m r (decoded r.cdb)))
  where
    nowhere : (s : Span) → overlap s empty_span ≡ false
    nowhere s = grind arith

pub one_reply_in_memory : OneReplyInMemory
one_reply_in_memory name blocks bytes calls r first second one other x y =
    let m = memory_state blocks bytes calls in
    one_reply name m r first second one other (record { own = refl; store = refl; bytes = refl }) (reads_nothing_lost m r refl) x y

pub one_reply_without_loss : OneReplyWithoutLoss
one_reply_without_loss name m r first second one other k x y =
    let same = one_reply name m r first second one other k.told (reads_nothing_lost m r k.lossless.lost) x y in
    let stays = runs_stay_lossless m one (request_runs name m r first one x) k.lossless in
    (same.0, same.1, record { told = stays_told name m r first one k.told x; lossless = stays })

pub stays_in_memory : StaysInMemory
stays_in_memory name m r first second one other k x y =
    let all = one_reply_without_loss name m r first second one other (record { told = k.told; lossless = record { place = inl k.layer; lost = k.lost } }) x y in
    (all.0, all.1, record { told = all.2.told; layer = in_memory one all.2.lossless.place (runs_keep m one (request_runs name m r first one x)).layer; lost = all.2.lossless.lost })
  where
    in_memory : (a : MediumState) → (a.below.layer ≡ memory) ⊎ ((a.below.layer ≡ file) × (a.below.store.calls.fails ≡ Some [])) → clean a.below.layer ≡ clean m.below.layer → a.below.layer ≡ memory
    in_memory a (inl e) same = e
    in_memory a (inr e) same = absurd (let f : file ≡ memory = ap clean (sym e.0) ∙ same ∙ ap clean k.layer in cc)
