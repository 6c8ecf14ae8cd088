-- Each change leaves the jobs in hand rising, and their tallies right.
use Rattle.std.proofs.Common.{◌≡◌, ℕ, ◌+◌, ◌≤◌, Bool, true, false, not, List, [], ◌∷◌, ◌++◌, drop, None, refl, sym, ap, subst, ◌∙◌, arith, if◌then◌else◌, ◌==◌}
use Rattle.std.specs.List.{count_by}
use Rattle.std.specs.Option.{is_some}
use Rattle.std.proofs.lemmas.Bool.{and_from, and_parts, eq-eqb, eqb-true, false≢true}
use Rattle.tcmu_types.specs.Data.{ReplyData}
use Rattle.tcmu_types.specs.Lists.{IsFirst, with_first, without_first}
use Rattle.tcmu_types.specs.Numbers.{IsRising}
use Rattle.tcmu_types.proofs.Firsts.{any_at}
use Rattle.region_model.specs.HandSteps.{hand_has, with_answer}
use Rattle.region_model.specs.Sides.{InHand}
use Rattle.ring_laws.specs.SidesShow.{first_serial}
use Rattle.ring_path.specs.Hands.{AreInHand, IsTally, has_reply, lacks_reply, lesser, owed_at, owes, serials_in_hand, without}
use Rattle.ring_path.specs.declared.tally.Tally.{Tally}
use Rattle.ring_path.proofs.Rising.{rises_taken, serials_turned}
use Rattle.ring_path.proofs.Tallying.{entered, entered_count, gone, gone_count, joined, joined_count, left, left_count, pushed, pushed_count, some_counted, taken, taken_count}

-- ==== the job of a serial

pub at_serial : (r : Bool) (s : ℕ) (h : InHand) → owed_at r s h ≡ true → h.serial ≡ s
at_serial r s h e = eqb-true h.serial s (and_parts (hand_has s h) (owes r h) e).0

pub has_serial_is : (s : ℕ) (h : InHand) → hand_has s h ≡ true → h.serial ≡ s
has_serial_is s h e = eqb-true h.serial s e

this : (r : Bool) (s : ℕ) (h : InHand) → owed_at r s h ≡ true → owes r h ≡ true
this r s h e = (and_parts (hand_has s h) (owes r h) e).1

back : (r : Bool) (s : ℕ) (h : InHand) → owes r h ≡ true → h.serial ≡ s → owed_at r s h ≡ true
back r s h e q = and_from _ _ (eq-eqb h.serial s q) e

-- one that lacks its reply has none
other_asked : (s : ℕ) (h : InHand) → owed_at false s h ≡ true → has_reply h ≡ false
other_asked s h e = turn (is_some h.reply) (this false s h e)
  where
    turn : (b : Bool) → not b ≡ true → b ≡ false
    turn true q = absurd (false≢true q)
    turn false q = refl

other_answered : (s : ℕ) (h : InHand) → owed_at true s h ≡ true → lacks_reply h ≡ false
other_answered s h e = ap not (this true s h e)

-- a job is there, so its tally counts some
pub some_there : (r : Bool) (s : ℕ) (hs : List InHand) (at : ℕ) (a : Tally) → IsFirst (owed_at r s) hs at → IsTally (owes r) hs a → 1 ≤ a.count
some_there r s hs at a f h = omega (arith, h.count_is, some_counted (owes r) (owed_at r s) hs (this r s) (any_at (owed_at r s) hs at f))

-- ==== the changes

pub hand_pushed : (hs : List InHand) (h : InHand) (asked answered asked' : Tally) → AreInHand hs asked answered → h.reply ≡ None → IsRising (serials_in_hand (hs ++ h ∷ []))
    → asked'.least ≡ lesser asked.least h.serial → asked'.count ≡ asked.count + 1 → AreInHand (hs ++ h ∷ []) asked' answered
hand_pushed hs h asked answered asked' a n r l c =
    let yes : lacks_reply h ≡ true = ap (λ o. not (is_some o)) n in
    let no : has_reply h ≡ false = ap is_some n in
    record {
      rising = r;
      asked_is = record {
        least_is = l ∙ (ap (λ x. lesser x h.serial) a.asked_is.least_is ∙ sym (joined lacks_reply hs h yes r));
        count_is = omega (arith, c, a.asked_is.count_is, joined_count lacks_reply hs h yes);
      };
      answered_is = record {
        least_is = a.answered_is.least_is ∙ sym (pushed has_reply hs h no);
        count_is = a.answered_is.count_is ∙ sym (pushed_count has_reply hs h no);
      };
    }

pub hand_replied : (hs : List InHand) (asked answered asked' answered' : Tally) (s at : ℕ) (reply : ReplyData) → AreInHand hs asked answered → IsFirst (owed_at false s) hs at
    → asked'.least ≡ without asked.least s (if asked'.count == 0 then None else first_serial lacks_reply (drop (at + 1) hs)) → asked'.count + 1 ≡ asked.count
    → answered'.least ≡ lesser answered.least s → answered'.count ≡ answered.count + 1 → AreInHand (with_first (owed_at false s) (with_answer reply) hs) asked' answered'
hand_replied hs asked answered asked' answered' s at reply a f l c m d =
    let g : InHand → InHand = with_answer reply in
    let there = any_at (owed_at false s) hs at f in
    let k = left_count lacks_reply (owed_at false s) g hs (this false s) (λ u. refl) there in
    let count : asked'.count ≡ count_by lacks_reply (with_first (owed_at false s) g hs) = omega (arith, k, c, a.asked_is.count_is) in
    record {
      rising = subst (λ (ss : List ℕ). IsRising ss) (sym (serials_turned (owed_at false s) g hs (λ u. refl))) a.rising;
      asked_is = record {
        least_is = left lacks_reply (owed_at false s) g s hs at asked.least asked'.least asked'.count (at_serial false s) (this false s) (back false s) (λ u. refl) f a.asked_is.least_is count l;
        count_is = count;
      };
      answered_is = record {
        least_is = m ∙ (ap (λ x. lesser x s) a.answered_is.least_is ∙ sym (entered has_reply (owed_at false s) g s hs (at_serial false s) (other_asked s) (λ u. refl) (λ u. refl) a.rising there));
        count_is = omega (arith, d, a.answered_is.count_is, entered_count has_reply (owed_at false s) g hs (other_asked s) (λ u. refl) there);
      };
    }

pub hand_taken : (hs : List InHand) (asked answered answered' : Tally) (s at : ℕ) → AreInHand hs asked answered → IsFirst (owed_at true s) hs at
    → answered'.least ≡ without answered.least s (if answered'.count == 0 then None else first_serial has_reply (drop (at + 1) hs)) → answered'.count + 1 ≡ answered.count
    → AreInHand (without_first (owed_at true s) hs) asked answered'
hand_taken hs asked answered answered' s at a f l c =
    let there = any_at (owed_at true s) hs at f in
    let k = gone_count has_reply (owed_at true s) hs (this true s) there in
    let count : answered'.count ≡ count_by has_reply (without_first (owed_at true s) hs) = omega (arith, k, c, a.answered_is.count_is) in
    record {
      rising = rises_taken (owed_at true s) hs a.rising;
      asked_is = record {
        least_is = a.asked_is.least_is ∙ sym (taken lacks_reply (owed_at true s) hs (other_answered s));
        count_is = a.asked_is.count_is ∙ sym (taken_count lacks_reply (owed_at true s) hs (other_answered s));
      };
      answered_is = record {
        least_is = gone has_reply (owed_at true s) s hs at answered.least answered'.least answered'.count (at_serial true s) (this true s) (back true s) f a.answered_is.least_is count l;
        count_is = count;
      };
    }
