-- No line feed stands inside a line that is written.
use Rattle.std.proofs.Common.{◌≡◌, ℕ, zero, suc, ◌+◌, ◌/◌, ◌%◌, Bool, true, false, cond, not, nat_eq, nat_lt, List, [], ◌∷◌, ◌++◌, length, map, Option, Some, None, refl, sym, ap, ◌∙◌, arith, codes}
use Rattle.std.specs.List.{list_all, flat_map, join_with_byte}
use Rattle.std.specs.Fmt.{decimal, digits, digits_onto, digit_glyph}
use Rattle.std.proofs.lemmas.Bool.{and_from, ne_eqb}
use Rattle.std.proofs.lemmas.List.Folds.{list_all-append}
use Rattle.tcmu_types.specs.Data.{SenseData}
use Rattle.tcmu_types.specs.Events.{EventData, DispatchData, AnswerData}
use Rattle.tcmu_types.specs.Events as ev
use Rattle.tcmu_types.specs.declared.stat.Stat.{Stat}
use Rattle.tcmu_types.specs.declared.answer.Submit.{Submit}
use Rattle.tcmu_types.specs.declared.answer.Submit.TheVariants as submit_answer
use Rattle.tcmu_types.specs.declared.answer.Handle.{Handle}
use Rattle.tcmu_types.specs.declared.answer.Handle.TheVariants as handle_answer
use Rattle.tcmu_types.specs.declared.answer.Respond.{Respond}
use Rattle.tcmu_types.specs.declared.answer.Respond.TheVariants as respond_answer
use Rattle.tcmu_types.specs.declared.answer.Publish.{Publish}
use Rattle.tcmu_types.specs.declared.answer.Publish.TheVariants as publish_answer
use Rattle.tcmu_types.specs.declared.answer.Enter.{Enter}
use Rattle.tcmu_types.specs.declared.answer.Enter.TheVariants as enter_answer
use Rattle.tcmu_types.specs.declared.answer.Reset.{Reset}
use Rattle.tcmu_types.specs.declared.answer.Reset.TheVariants as reset_answer
use Rattle.tcmu_types.specs.declared.answer.Tmr.{Tmr}
use Rattle.tcmu_types.specs.declared.answer.Tmr.TheVariants as tmr_answer
use Rattle.text_model.specs.Text.{runs, run_text, runs_text, payload_text, sense_text, spaced, numbers_text, serials_text, numbered, full_text, submit_text, dispatch_text, handle_text, respond_text, publish_text, enter_text, reset_text, tmr_text, place_text, states_text, delayed_text, stat_text, logged_word, answer_text}
use Rattle.tcmu_types.specs.Numbers.{bit}
use Rattle.text_model.specs.Fields.{is_field_byte, IsWord, AreWords}
use Rattle.tcmu_types.specs.Hex.{hex_digit, hex_byte}
use Rattle.text_laws.specs.Configs.{is_other}
use Rattle.text_laws.proofs.Words.{weaker}

pub record Unbroken (text : List ℕ) : Type 0 where
  pub bytes : list_all (is_other 10) text ≡ true

abbrev pub AreUnbroken : List (List ℕ) → Type 0
AreUnbroken [] = Unit {0}
AreUnbroken (t ∷ ts) = Unbroken t × AreUnbroken ts

pub joins : (a b : List ℕ) → Unbroken a → Unbroken b → Unbroken (a ++ b)
joins a b h k = record { bytes = list_all-append (is_other 10) a b ∙ and_from _ _ h.bytes k.bytes }

pub begins : (x : ℕ) (t : List ℕ) → is_other 10 x ≡ true → Unbroken t → Unbroken (x ∷ t)
begins x t e h = record { bytes = and_from _ _ e h.bytes }

pub nothing : Unbroken []
nothing = record { bytes = refl }

-- ---- fields

glyph_other : (d : ℕ) → is_other 10 (digit_glyph false d) ≡ true
glyph_other d = go (nat_lt d 10)
  where
    go : (b : Bool) → is_other 10 (cond b (48 + d) (87 + d)) ≡ true
    go true = ap not (ne_eqb (48 + d) 10 (λ e. omega (arith, e)))
    go false = ap not (ne_eqb (87 + d) 10 (λ e. omega (arith, e)))

onto_other : (k n : ℕ) (acc : List ℕ) → Unbroken acc → Unbroken (digits_onto k 10 false n acc)
onto_other zero n acc h = h
onto_other (suc k) n acc h = go (nat_eq (n / 10) 0) (onto_other k (n / 10) (digit_glyph false (n % 10) ∷ acc) next)
  where
    next : Unbroken (digit_glyph false (n % 10) ∷ acc)
    next = begins (digit_glyph false (n % 10)) acc (glyph_other (n % 10)) h

    go : (b : Bool) → Unbroken (digits_onto k 10 false (n / 10) (digit_glyph false (n % 10) ∷ acc)) → Unbroken (cond b (digit_glyph false (n % 10) ∷ acc) (digits_onto k 10 false (n / 10) (digit_glyph false (n % 10) ∷ acc)))
    go true more = next
    go false more = more

pub number : (n : ℕ) → Unbroken (decimal n)
unfolding digits
number n = onto_other 64 n [] nothing

hex_other : (n : ℕ) → is_other 10 (hex_digit n) ≡ true
hex_other n = go (nat_lt n 10)
  where
    go : (b : Bool) → is_other 10 (cond b (48 + n) (87 + n)) ≡ true
    go true = ap not (ne_eqb (48 + n) 10 (λ e. omega (arith, e)))
    go false = ap not (ne_eqb (87 + n) 10 (λ e. omega (arith, e)))

pub pair : (b : ℕ) → Unbroken (hex_byte b)
unfolding hex_byte
pair b = begins (hex_digit (b / 16)) _ (hex_other (b / 16)) (begins (hex_digit (b % 16)) [] (hex_other (b % 16)) nothing)

pub joined : (at : ℕ) (ts : List (List ℕ)) → is_other 10 at ≡ true → AreUnbroken ts → Unbroken (join_with_byte at ts)
joined at [] a h = nothing
joined at (t ∷ []) a h = h.0
joined at (t ∷ u ∷ ts) a h = joins t (at ∷ join_with_byte at (u ∷ ts)) h.0 (begins at _ a (joined at (u ∷ ts) a h.1))

run_lines : (rs : List (ℕ × ℕ)) → AreUnbroken (map run_text rs)
unfolding run_text
run_lines [] = tt
run_lines (r ∷ rs) = (joins (hex_byte r.0) (42 ∷ decimal r.1) (pair r.0) (begins 42 (decimal r.1) refl (number r.1)), run_lines rs)

pub run_list : (bytes : List ℕ) → Unbroken (runs_text bytes)
unfolding runs_text
run_list bytes = joined 44 (map run_text (runs bytes)) refl (run_lines (runs bytes))

pub payload : (bytes : List ℕ) → Unbroken (payload_text bytes)
unfolding payload_text
payload bytes = go (nat_eq (length bytes) 0)
  where
    go : (b : Bool) → Unbroken (cond b (45 ∷ []) (runs_text bytes))
    go true = record { bytes = refl }
    go false = run_list bytes

pub sense : (s : Option SenseData) → Unbroken (sense_text s)
unfolding sense_text
sense None = record { bytes = refl }
sense (Some s) = joins (hex_byte s.key ++ 47 ∷ hex_byte s.asc) (47 ∷ hex_byte s.ascq) (joins (hex_byte s.key) (47 ∷ hex_byte s.asc) (pair s.key) (begins 47 _ refl (pair s.asc))) (begins 47 _ refl (pair s.ascq))

pub number_list : (ns : List ℕ) → AreUnbroken (map decimal ns)
number_list [] = tt
number_list (n ∷ ns) = (number n, number_list ns)

pub serials : (ns : List ℕ) → Unbroken (serials_text ns)
unfolding serials_text numbers_text
serials ns = go (nat_eq (length ns) 0)
  where
    go : (b : Bool) → Unbroken (cond b (codes "none") (join_with_byte 44 (map decimal ns)))
    go true = record { bytes = refl }
    go false = joined 44 (map decimal ns) refl (number_list ns)

pub fields : (w : List ℕ) (fs : List (List ℕ)) → Unbroken w → AreUnbroken fs → Unbroken (spaced w fs)
fields w fs h k = joins w (flat_map (λ field. 32 ∷ field) fs) h (go fs k)
  where
    go : (gs : List (List ℕ)) → AreUnbroken gs → Unbroken (flat_map (λ field. 32 ∷ field) gs)
    go [] k = nothing
    go (g ∷ gs) k = joins (32 ∷ g) (flat_map (λ field. 32 ∷ field) gs) (begins 32 g refl k.0) (go gs k.1)

pub word : (w : List ℕ) → IsWord w → Unbroken w
word w h = record { bytes = weaker is_field_byte (is_other 10) other w h.bytes }
  where
    other : (x : ℕ) → is_field_byte x ≡ true → is_other 10 x ≡ true
    other x e = ap not (ne_eqb x 10 (λ q. below x e q))
      where
        below : (y : ℕ) → is_field_byte y ≡ true → y ≡ 10 → ⊥
        below y f q = ten (sym f ∙ ap is_field_byte q)
          where
            ten : true ≡ is_field_byte 10 → ⊥
            ten r = cc

pub words : (ws : List (List ℕ)) → AreWords ws → AreUnbroken ws
words [] h = tt
words (w ∷ ws) h = (word w h.0, words ws h.1)

-- ---- answers

with_number : (w : List ℕ) (n : ℕ) → Unbroken w → Unbroken (numbered w n)
with_number w n h = fields w (decimal n ∷ []) h (number n, tt)

behind : (a b : List ℕ) (n : ℕ) → Unbroken a → Unbroken b → Unbroken (a ++ b ++ decimal n)
behind a b n h k = joins (a ++ b) (decimal n) (joins a b h k) (number n)

full : (what : List ℕ) (need free : ℕ) → Unbroken what → Unbroken (full_text what need free)
unfolding full_text
full what need free h =
    behind (codes "full " ++ what ++ codes " need " ++ decimal need) (codes " free ") free
    (behind (codes "full " ++ what) (codes " need ") need (joins (codes "full ") what (record { bytes = refl }) h) (record { bytes = refl })) (record { bytes = refl })

submit_line : (a : Submit) → Unbroken (submit_text a)
unfolding submit_text
submit_line (submit_answer.Queued s) = with_number (codes "queued") s (record { bytes = refl })
submit_line (submit_answer.Delayed s) = with_number (codes "delayed") s (record { bytes = refl })
submit_line submit_answer.Busy = record { bytes = refl }
submit_line (submit_answer.TooBig have limit) =
    behind (codes "toobig have " ++ decimal have) (codes " limit ") limit (joins (codes "toobig have ") (decimal have) (record { bytes = refl }) (number have)) (record { bytes = refl })
submit_line (submit_answer.FullRing need free) = full (codes "ring") need free (record { bytes = refl })
submit_line (submit_answer.FullBlocks need free) = full (codes "blocks") need free (record { bytes = refl })

dispatch_line : (a : DispatchData) → Unbroken (dispatch_text a)
unfolding dispatch_text
dispatch_line (ev.Job s) = with_number (codes "job") s (record { bytes = refl })
dispatch_line (ev.Note kind ss) = fields (codes "note") (decimal kind ∷ serials_text ss ∷ []) (record { bytes = refl }) (number kind, (serials ss, tt))
dispatch_line ev.Nothing = record { bytes = refl }
dispatch_line ev.Detached = record { bytes = refl }

handle_line : (a : Handle) → Unbroken (handle_text a)
unfolding handle_text
handle_line (handle_answer.Done r) = fields (codes "reply") (hex_byte r.status ∷ sense_text r.sense ∷ payload_text r.payload ∷ []) (record { bytes = refl }) (pair r.status, (sense r.sense, (payload r.payload, tt)))
handle_line (handle_answer.NotOut s) = with_number (codes "notout") s (record { bytes = refl })

respond_line : (a : Respond) → Unbroken (respond_text a)
unfolding respond_text
respond_line respond_answer.Placed = record { bytes = refl }
respond_line respond_answer.Parked = record { bytes = refl }
respond_line (respond_answer.NotHandled s) = with_number (codes "nothandled") s (record { bytes = refl })

publish_line : (a : Publish) → Unbroken (publish_text a)
unfolding publish_text
publish_line (publish_answer.Moved i c) = fields (codes "moved") (decimal i ∷ decimal c ∷ []) (record { bytes = refl }) (number i, (number c, tt))
publish_line publish_answer.Detached = record { bytes = refl }

enter_line : (a : Enter) → Unbroken (enter_text a)
unfolding enter_text
enter_line (enter_answer.Entered s) = with_number (codes "entered") s (record { bytes = refl })
enter_line enter_answer.Empty = record { bytes = refl }
enter_line (enter_answer.FullRing need free) = full (codes "ring") need free (record { bytes = refl })
enter_line (enter_answer.FullBlocks need free) = full (codes "blocks") need free (record { bytes = refl })

reset_line : (a : Reset) → Unbroken (reset_text a)
unfolding reset_text
reset_line (reset_answer.Reset n) = with_number (codes "reset") n (record { bytes = refl })
reset_line reset_answer.NotBlocked = record { bytes = refl }
reset_line (reset_answer.HandlersOut n) = with_number (codes "handlersout") n (record { bytes = refl })

tmr_line : (a : Tmr) → Unbroken (tmr_text a)
unfolding tmr_text
tmr_line tmr_answer.Noted = record { bytes = refl }
tmr_line tmr_answer.Off = record { bytes = refl }
tmr_line tmr_answer.Busy = record { bytes = refl }
tmr_line (tmr_answer.Unknown s) = with_number (codes "unknown") s (record { bytes = refl })
tmr_line (tmr_answer.FullRing need free) = full (codes "ring") need free (record { bytes = refl })

literal_number : (w : List ℕ) (n : ℕ) → list_all (is_other 10) w ≡ true → Unbroken (w ++ decimal n)
literal_number w n e = joins w (decimal n) (record { bytes = e }) (number n)

place_line : (t : Stat) → Unbroken (place_text t)
unfolding place_text
place_line t =
    behind (codes "now " ++ decimal t.now ++ codes " blocked " ++ decimal (bit t.blocked) ++ codes " attached " ++ decimal (bit t.attached) ++ codes " head " ++ decimal t.head) (codes " used ") t.used
    (behind (codes "now " ++ decimal t.now ++ codes " blocked " ++ decimal (bit t.blocked) ++ codes " attached " ++ decimal (bit t.attached)) (codes " head ") t.head
    (behind (codes "now " ++ decimal t.now ++ codes " blocked " ++ decimal (bit t.blocked)) (codes " attached ") (bit t.attached)
    (behind (codes "now " ++ decimal t.now) (codes " blocked ") (bit t.blocked) (literal_number (codes "now ") t.now refl) (record { bytes = refl })) (record { bytes = refl })) (record { bytes = refl })) (record { bytes = refl })

states_line : (t : Stat) → Unbroken (states_text t)
unfolding states_text
states_line t =
    behind (codes " waiting " ++ decimal t.waiting ++ codes " out " ++ decimal t.out ++ codes " handled " ++ decimal t.handled ++ codes " parked " ++ decimal t.parked ++ codes " placed " ++ decimal t.placed) (codes " lost ") t.lost
    (behind (codes " waiting " ++ decimal t.waiting ++ codes " out " ++ decimal t.out ++ codes " handled " ++ decimal t.handled ++ codes " parked " ++ decimal t.parked) (codes " placed ") t.placed
    (behind (codes " waiting " ++ decimal t.waiting ++ codes " out " ++ decimal t.out ++ codes " handled " ++ decimal t.handled) (codes " parked ") t.parked
    (behind (codes " waiting " ++ decimal t.waiting ++ codes " out " ++ decimal t.out) (codes " handled ") t.handled
    (behind (codes " waiting " ++ decimal t.waiting) (codes " out ") t.out (literal_number (codes " waiting ") t.waiting refl) (record { bytes = refl })) (record { bytes = refl })) (record { bytes = refl })) (record { bytes = refl })) (record { bytes = refl })

delayed_line : (qfull n : ℕ) → Unbroken (delayed_text qfull n)
unfolding delayed_text
delayed_line qfull n = go (nat_eq qfull 0)
  where
    go : (b : Bool) → Unbroken (cond b [] (codes " delayed " ++ decimal n))
    go true = nothing
    go false = literal_number (codes " delayed ") n refl

stat_line : (qfull : ℕ) (t : Stat) → Unbroken (stat_text qfull t)
unfolding stat_text
stat_line qfull t =
    joins (place_text t ++ states_text t ++ codes " expired " ++ decimal t.expired ++ codes " held " ++ decimal t.held) (delayed_text qfull t.delayed)
    (behind (place_text t ++ states_text t ++ codes " expired " ++ decimal t.expired) (codes " held ") t.held
    (behind (place_text t ++ states_text t) (codes " expired ") t.expired (joins (place_text t) (states_text t) (place_line t) (states_line t)) (record { bytes = refl })) (record { bytes = refl }))
    (delayed_line qfull t.delayed)

logged : (e : EventData) → Unbroken (logged_word e)
unfolding logged_word
logged (ev.Tick n) = record { bytes = refl }
logged (ev.Submit c) = record { bytes = refl }
logged ev.Dispatch = record { bytes = refl }
logged (ev.Handle s) = record { bytes = refl }
logged (ev.Respond s) = record { bytes = refl }
logged ev.Publish = record { bytes = refl }
logged ev.Clean = record { bytes = refl }
logged ev.Enter = record { bytes = refl }
logged ev.Block = record { bytes = refl }
logged ev.Unblock = record { bytes = refl }
logged (ev.Reset n) = record { bytes = refl }
logged ev.Restart = record { bytes = refl }
logged (ev.Tmr k ss) = record { bytes = refl }
logged ev.Stat = record { bytes = refl }

pub answer : (qfull : ℕ) (e : EventData) (a : AnswerData) → Unbroken (answer_text qfull e a)
unfolding answer_text
answer qfull e (ev.Submitted a) = submit_line a
answer qfull e (ev.Dispatched a) = dispatch_line a
answer qfull e (ev.Answered a) = handle_line a
answer qfull e (ev.Responded a) = respond_line a
answer qfull e (ev.Published a) = publish_line a
answer qfull e (ev.Entered a) = enter_line a
answer qfull e (ev.Logged n) = with_number (logged_word e) n (logged e)
answer qfull e (ev.Changed true) = record { bytes = refl }
answer qfull e (ev.Changed false) = record { bytes = refl }
answer qfull e (ev.WasReset a) = reset_line a
answer qfull e (ev.Lost n) = with_number (codes "lost") n (record { bytes = refl })
answer qfull e (ev.Noted a) = tmr_line a
answer qfull e (ev.Told t) = stat_line qfull t
