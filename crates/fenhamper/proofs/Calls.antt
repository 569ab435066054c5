-- A call across the face: what came back encoded is what the module's call gave, encoded. Assume nothing.
use Rattle.std.specs.Prelude.{Err, Ok, Result}
use Rattle.station.specs.Numbers.{Checked}
use Rattle.reading_log.specs.declared.LogRefusal.{LogRefusal}
use Prim.Native.Nat.{ℕ, ◌%◌}
use native.Mathlib.Omega.{arith}
use mathlib.Core.Path.{◌≡◌, refl, sym, ap, ap₂, ◌∙◌, subst}
use mathlib.Core.Bool.{Bool, false, cond}
use mathlib.Core.List.{List, [], ◌∷◌}
use lib.ListN.{get_or}
use lib.Dec.{eqb}
use borrow.Author.Tests.{ne_eqb}
use Rattle.line.specs.Line.{capture}
use Rattle.station.specs.declared.State.{State}
use Rattle.station.specs.declared.Settings.{Settings}
use Rattle.table.specs.declared.Entry.{Entry}
use Rattle.table.specs.Calls.{Change, change}
use Rattle.receive.specs.declared.Answer.{Answer}
use Rattle.receive.specs.declared.Answer.TheVariants.{Counted}
use Rattle.receive.specs.declared.Reading.{Reading}
use Rattle.receive.specs.Reading.{reading}
use Rattle.receive.specs.Values.{answer_refusal, answer_part}
use Rattle.jobs.specs.Jobs.{of_job, screen_answer}
use Rattle.jobs.proofs.Screen.{any_state}
use Rattle.receive.specs.declared.Walking.{Walking}
use Rattle.reading_log.specs.declared.Step.{Step}
use Rattle.reading_log.specs.Numbers.{logged_refusal}
use Rattle.reading_log.specs.Log.{Logging, logging}
use Rattle.reading_log.specs.Room.{Numbered, numbered}
use Rattle.logging.specs.declared.LogWalk.{LogWalk}
use Rattle.logging.specs.Walks.{Keeping, keeping}
use Rattle.send.specs.declared.Sending.{Sending}
use Rattle.send.specs.Sending.{SendCall, send_call}
use Rattle.station.specs.declared.Refusal.{Refusal}
use Rattle.station.specs.declared.Refusal.TheVariants.{BadSettings, BadBuffers, BadPlace, OtherFlow, BadClass, BadType, LongData, NoRoom, Held, ManyTags}
use Rattle.station.specs.declared.Refusal.TheVariants.{BadJob, HoldsTwelve, AllInUse, AlreadyListed, NotListed, HighDeficit, BadTable, WrongTotals, HighTotal}
use Rattle.station.specs.Station.{fresh}
use Rattle.station.specs.Numbers.{refusal_number, checked_number}
use Rattle.logging.proofs.Refused.{number_apart}
use Rattle.totals.specs.Totals.{Filling, filling, recounted}
use Rattle.totals.proofs.Tests.{Known}
use Rattle.counting.specs.Counting.{count_checked}
use Rattle.counting.proofs.Calls.{Leaves, Countable, countable}
use Rattle.crossing.specs.Records.{state_numbers, reading_numbers, walk_numbers, sent_numbers, keep_numbers}
use Rattle.crossing.specs.Given.{state_left, RecordGiven, record_given, record_told, NumberGiven, number_given, number_told, entry_told}
use Rattle.crossing.specs.Reader.{told_numbers, ReaderGiven, reader_given, reader_left, counted_left}
use Rattle.fenhamper.specs.Face.{Told, told, read_told, walk_told, Wrote, wrote, send_told, kept, keep_told, lodged, log_told, step_given, step_told}
use Rattle.fenhamper.specs.Face.{log_given, deleted_told, totals_given, fill_told, with_totals, count_told, table_given, table_told, part_given, part_told}
use Rattle.fenhamper.specs.Face.{plain_given, plain_told}
use Rattle.plain.specs.declared.Step as plain

-- an answer's first number is its refusal
pub read_crosses : {a st : List ℕ} (before : List ℕ) {r x : Reading} → a ≡ reading_numbers r → st ≡ state_left (get_or a 0 0) before r.state → r ≡ x → told a st ≡ read_told before x
unfolding read_told reading_numbers
read_crosses {a} {st} before {r} f g e =
    ap₂ told f (g ∙ ap (λ (b : List ℕ). state_left (get_or b 0 0) before r.state) f) ∙ ap (read_told before) e

pub walk_crosses : {a st : List ℕ} (before : List ℕ) {w x : Walking} → a ≡ walk_numbers w → st ≡ state_left (get_or a 0 0) before w.state → w ≡ x → told a st ≡ walk_told before x
unfolding walk_told walk_numbers
walk_crosses {a} {st} before {w} f g e =
    ap₂ told f (g ∙ ap (λ (b : List ℕ). state_left (get_or b 0 0) before w.state) f) ∙ ap (walk_told before) e

pub send_crosses : {a st os ms : List ℕ} (before : List ℕ) {r : Sending} {x : SendCall} → a ≡ sent_numbers r → st ≡ state_left (get_or a 0 0) before r.state → send_call r os ms ≡ x
    → wrote a st os ms ≡ send_told before x
unfolding send_told sent_numbers
send_crosses {a} {st} {os} {ms} before {r} f g e =
    ap₂ (λ (b t : List ℕ). wrote b t os ms) f (g ∙ ap (λ (b : List ℕ). state_left (get_or b 0 0) before r.state) f) ∙ ap (send_told before) e

-- ---- calls over a log

pub keep_crosses : {a st l : List ℕ} (before : List ℕ) {w : LogWalk} {x : Keeping} → a ≡ keep_numbers w
    → st ≡ state_left (get_or a 0 0) before w.state → keeping w l ≡ x → kept a st l ≡ keep_told before x
unfolding keep_told keep_numbers
keep_crosses {a} {st} {l} before {w} f g e =
    ap₂ (λ (b t : List ℕ). kept b t l) f (g ∙ ap (λ (b : List ℕ). state_left (get_or b 0 0) before w.state) f) ∙ ap (keep_told before) e

pub log_crosses : {n : ℕ} {l : List ℕ} {a : Result (Unit {0}) LogRefusal} {x : Logging} → n ≡ logged_refusal a → logging a l ≡ x → lodged n l ≡ log_told x
unfolding log_told
log_crosses {n} {l} f e = ap (λ (k : ℕ). lodged k l) f ∙ ap log_told e

pub deleted_crosses : {n k : ℕ} {l : List ℕ} (before : ℕ) {a : Result ℕ LogRefusal} {x : Numbered} → number_given n k ≡ number_told before a → numbered a l ≡ x
    → log_given n k l ≡ deleted_told before x
unfolding deleted_told
deleted_crosses {n} {k} {l} before f e = ap (λ (g : NumberGiven). record { number = g; log = l }) f ∙ ap (deleted_told before) e

-- a record that is given out, with the number that its reader gave
pub step_crosses : {n at : ℕ} {o : List ℕ} (before : List ℕ) {s x : Step} → record_given n o ≡ record_told before s.read
    → at ≡ s.at → s ≡ x → step_given n at o ≡ step_told before x
unfolding record_told step_told
step_crosses before f g e = ap₂ (λ (r : RecordGiven) (k : ℕ). step_given r.refusal k r.octets) f g ∙ ap (step_told before) e

-- ---- calls with the totals of a capture

pub fill_crosses : {n : ℕ} {ts : List ℕ} {a : Checked} {x : Filling} → n ≡ checked_number a → filling a ts ≡ x → totals_given n ts ≡ fill_told x
unfolding fill_told
fill_crosses {n} {ts} f e = ap (λ (k : ℕ). totals_given k ts) f ∙ ap fill_told e

-- a call with totals is its tests up to 22 and then the exported call without totals. Refused by these tests:
module _ (before os ms ts : List ℕ) (st : State) (place : ℕ) (base : SendCall) (early : Checked) where
  pub refused_crosses : {a : List ℕ} (x : Refusal) → early ≡ Err x → a ≡ refusal_number x ∷ place ∷ []
      → with_totals a before os ms ts ≡ count_told before (count_checked early st os ms place ts base)
  unfolding count_told count_checked send_told sent_numbers state_left
  refused_crosses x h e =
      let other : eqb (refusal_number x) 0 ≡ false = ne_eqb (refusal_number x) 0 (λ z. let p = (number_apart x).0 in let w : ⊥ = omega arith in absurd w) in
      ap (λ (b : List ℕ). with_totals b before os ms ts) e
      ∙ sym (ap (λ (b : Bool). with_totals (refusal_number x ∷ place ∷ []) (cond b (state_numbers st) before) os ms ts) other)
      ∙ sym (ap (λ (q : Checked). count_told before (count_checked q st os ms place ts base)) h)

  -- made, and the blocks from its place up to the one that it answered counted anew
  pub made_crosses : {a st' os' ms' ts' : List ℕ} → early ≡ Ok tt → wrote a st' os' ms' ≡ send_told before base
      → ts' ≡ recounted (capture os' ms') place (get_or a 1 0) ts → with_totals a st' os' ms' ts' ≡ count_told before (count_checked early st os ms place ts base)
  unfolding count_told count_checked send_told sent_numbers
  made_crosses h e t =
      ap₂ (λ (w : Wrote) (l : List ℕ). record { sent = w; totals = l }) e
      (t ∙ ap (λ (w : Wrote). recounted (capture w.octets w.marks) place (get_or w.answer 1 0) ts) e)
      ∙ sym (ap (λ (q : Checked). count_told before (count_checked q st os ms place ts base)) h)

-- what the new count asks for
pub countable_crossed : {a st' os ms ts os' ms' : List ℕ} {place : ℕ} (before : List ℕ) (base : SendCall) → Known os ms place ts → Leaves os place base
    → wrote a st' os' ms' ≡ send_told before base → Countable os' ms' (get_or a 1 0) ts
unfolding send_told sent_numbers
countable_crossed {a} {st'} {os} {ms} {ts} {os'} {ms'} before base k l e =
    let o : os' ≡ base.octets = ap (λ (w : Wrote). w.octets) e in
    let m : ms' ≡ base.marks = ap (λ (w : Wrote). w.marks) e in
    let p : get_or a 1 0 ≡ base.given.place = ap (λ (w : Wrote). get_or w.answer 1 0) e in
    subst (λ (n : ℕ). Countable os' ms' n ts) (sym p) (countable base k l (ap₂ (send_call base.given) o m))

-- ---- calls of two jobs

pub table_crosses : {n k : ℕ} {t : List ℕ} (before : ℕ) {a : Result ℕ Refusal} {x : Change} → number_given n k ≡ entry_told before a → change a t ≡ x
    → table_given n k t ≡ table_told before x
unfolding table_told
table_crosses {n} {k} {t} before f e = ap (λ (g : NumberGiven). record { placed = g; table = t }) f ∙ ap (table_told before) e

-- a refusal's number crosses whole as one of 32 bits
number_low : (x : Refusal) → refusal_number x % 4294967296 ≡ refusal_number x
number_low BadSettings = refl
number_low BadBuffers = refl
number_low BadPlace = refl
number_low OtherFlow = refl
number_low BadClass = refl
number_low BadType = refl
number_low LongData = refl
number_low NoRoom = refl
number_low Held = refl
number_low ManyTags = refl
number_low BadJob = refl
number_low HoldsTwelve = refl
number_low AllInUse = refl
number_low AlreadyListed = refl
number_low NotListed = refl
number_low HighDeficit = refl
number_low BadTable = refl
number_low WrongTotals = refl
number_low HighTotal = refl

refusal_low : (a : Answer) → answer_refusal a % 4294967296 ≡ answer_refusal a
refusal_low (Answer.Refused x) = number_low x
refusal_low Answer.Nothing = refl
refusal_low Answer.Open = refl
refusal_low (Counted o w p v) = refl

-- the screen's answer is that of the exported reading, with whatever state
module _ (s : Settings) (job : ℕ) (es : List Entry) (os₀ ms₀ os₁ ms₁ : List ℕ) (p : ℕ) where
  pub screen_crosses : {a st os ms : List ℕ} (before : List ℕ) (x : State) → os ≡ of_job job os₀ os₁ → ms ≡ of_job job ms₀ ms₁
      → told a st ≡ read_told before (reading s job es x os ms p)
      → part_given (get_or a 0 0 % 4294967296) (get_or a 6 0 ∷ get_or a 7 0 ∷ []) ≡ part_told (screen_answer s job es os₀ ms₀ os₁ ms₁ p)
  unfolding read_told reading_numbers part_told screen_answer
  screen_crosses {a} {st} {os} {ms} before x o m e =
      let r : Reading = reading s job es x os ms p in
      let shown : r.answer ≡ screen_answer s job es os₀ ms₀ os₁ ms₁ p =
      any_state s job es x fresh os ms p ∙ ap₂ (λ (l k : List ℕ). (reading s job es fresh l k p).answer) o m
      in
      ap (λ (q : Told). part_given (get_or q.answer 0 0 % 4294967296) (get_or q.answer 6 0 ∷ get_or q.answer 7 0 ∷ [])) e
      ∙ ap (λ (n : ℕ). part_given n ((answer_part r.answer).at ∷ (answer_part r.answer).len ∷ [])) (refusal_low r.answer)
      ∙ ap part_told shown

-- ---- a symbol of the plain reader: what is told has the refusal first, and then whether a Start was counted

pub plain_crosses : {a n f l st : List ℕ} (reader : ReaderGiven) (before : List ℕ) {k x : plain.Step} → a ≡ told_numbers k.told
    → reader_given n f l ≡ reader_left (get_or a 0 0) reader k.plain → st ≡ counted_left (get_or a 1 0) before k.plain.state → k ≡ x
    → plain_given a n f l st ≡ plain_told reader before x
unfolding plain_told
plain_crosses {a} {n} {f} {l} {st} reader before {k} e g h i =
    let r : reader_given n f l ≡ reader_left (get_or (told_numbers k.told) 0 0) reader k.plain =
    g ∙ ap (λ (b : List ℕ). reader_left (get_or b 0 0) reader k.plain) e
    in
    let s : st ≡ counted_left (get_or (told_numbers k.told) 1 0) before k.plain.state =
    h ∙ ap (λ (b : List ℕ). counted_left (get_or b 1 0) before k.plain.state) e
    in
    ap₂ (λ (b t : List ℕ). plain_given b n f l t) e s
    ∙ ap (λ (q : ReaderGiven). record { answer = told_numbers k.told; reader = q; state = counted_left (get_or (told_numbers k.told) 1 0) before k.plain.state }) r
    ∙ ap (plain_told reader before) i
