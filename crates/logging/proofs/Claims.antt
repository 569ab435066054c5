-- The claim on a walk that keeps its readings, as a theorem: `walk-keeps`. Assumes nothing.
use Rattle.std.specs.Prelude.{Err, Ok}
use Rattle.station.specs.Numbers.{Checked}
use Rattle.receive.specs.Values.{WalkAnswer}
use Rattle.receive.specs.Values.{walk_ended}
use Prim.Native.Nat.{ℕ, zero, suc, ◌+◌, ◌-◌, ◌*◌, ◌≤◌}
use native.Mathlib.Omega.{arith}
use mathlib.Core.Path.{◌≡◌, refl, sym, ap, ap₂, ◌∙◌, subst}
use mathlib.Core.Bool.{Bool, true, false, false≢true}
use mathlib.Core.List.{List, [], ◌∷◌, ◌++◌, map, append_assoc, append-nil}
use lib.ListN.{length, length-append}
use Rattle.line.specs.Limits.{record_size, table_entries}
use Rattle.line.specs.Line.{overwrite}
use Rattle.line.specs.Table.{first}
use Rattle.station.specs.declared.Settings.{Settings}
use Rattle.station.specs.declared.State.{State}
use Rattle.station.specs.declared.Part.{Part}
use Rattle.station.specs.declared.Outcome.{Outcome}
use Rattle.station.specs.declared.Refusal.{Refusal}
use Rattle.table.specs.declared.Entry.{Entry}
use Rattle.reading_log.specs.declared.Record.{Record}
use Rattle.reading_log.specs.Log.{octets_of_record, extent}
use Rattle.reading_log.specs.Claims.{read_back, Fits, AllFit, IsMultiple, zero_log, filled}
use Rattle.reading_log.proofs.Records.{counts_so, counts-not}
use Rattle.reading_log.proofs.Filled.{AllCount, filled_multiple, length-filled, extent-filled, write_filled, behind-room}
use Rattle.reading_log.proofs.Holes.{read-filled}
use Rattle.reading_log.proofs.Claims.{zero-filled, counted-nil, counted_yes, counted_no, fit_append, count-append, ones_count}
use Rattle.receive.specs.declared.Answer.{Answer}
use Rattle.receive.specs.declared.Answer.TheVariants.{Counted}
use Rattle.receive.specs.declared.Reading.{Reading}
use Rattle.receive.specs.declared.Walking.{Walking}
use Rattle.receive.specs.Values.{is_counted, answer_outcome}
use Rattle.receive.specs.Reading.{read_refusals, reading}
use Rattle.receive.specs.Walk.{readings_from, walk, walk_of, walked}
use Rattle.receive.proofs.Cases.{read-refused}
use Rattle.logging.specs.declared.KeepRefusal.TheVariants.{ByReading}
use Rattle.logging.specs.declared.LogEnd.TheVariants.{Nothing}
use Rattle.logging.specs.Records.{record_of_reading}
use Rattle.logging.specs.Walks.{Keeping, stopped, keep_from, walk_logged}
use Rattle.logging.specs.Claims.{records_of, last_next, end_of, KeepsWalk}
use Rattle.logging.proofs.Readings.{reading_fits}
use Rattle.logging.proofs.Refusals.{keep_read, keep_goes}
use Rattle.logging.proofs.Turns.{counted-some, turn_refused, turn_none, turn_open, turn_kept, walk_refused, walk_fine}

-- ---- the records of readings, one by one

pub records-counted : (r : Reading) (rs : List Reading) (o : Outcome) (w : ℕ) (q : Part) (v : ℕ) → r.answer ≡ Counted o w q v
    → records_of (r ∷ rs) ≡ record_of_reading r ∷ records_of rs
unfolding records_of
records-counted r rs o w q v e = counted_yes (record_of_reading r) (map record_of_reading rs) (counts_so (record_of_reading r) (counted-some r o w q v e))

none-outcome : (a : Answer) → is_counted a ≡ false → answer_outcome a ≡ 0
none-outcome (Answer.Refused x) h = refl
none-outcome Answer.Nothing h = refl
none-outcome Answer.Open h = refl
none-outcome (Counted o w q v) h = absurd (false≢true (sym h))

pub records-last : (r : Reading) → is_counted r.answer ≡ false → records_of (r ∷ []) ≡ []
unfolding records_of record_of_reading
records-last r h = counted_no (record_of_reading r) [] (counts-not (record_of_reading r) (none-outcome r.answer h)) ∙ counted-nil

pub records-none : records_of [] ≡ []
unfolding records_of
records-none = counted-nil

records-count : (rs : List Reading) → AllCount (records_of rs)
unfolding records_of
records-count rs = ones_count (map record_of_reading rs)

-- ---- readings, one by one

module _ (most : ℕ) (s : Settings) (job : ℕ) (es : List Entry) (st : State) (os ms : List ℕ) (p : ℕ) where
  abbrev here : Reading
  here = reading s job es st os ms p

  abbrev then : Bool → List Reading
  then b = here ∷ elim b [ true ↦ readings_from most s job es here.state os ms here.next | false ↦ [] ]

  pub readings_stop : is_counted here.answer ≡ false → readings_from (suc most) s job es st os ms p ≡ here ∷ []
  unfolding readings_from
  readings_stop h = ap then h

  pub readings_on : is_counted here.answer ≡ true
      → readings_from (suc most) s job es st os ms p ≡ here ∷ readings_from most s job es here.state os ms here.next
  unfolding readings_from
  readings_on h = ap then h

-- a reading that counts a Start is not refused, so its record has its widths, with a table of 16 entries
pub counted_fits : (s : Settings) (job : ℕ) (es : List Entry) → length es ≤ table_entries → (st : State) (os ms : List ℕ) (p : ℕ)
    → is_counted (reading s job es st os ms p).answer ≡ true
    → Fits (record_of_reading (reading s job es st os ms p))
counted_fits s job es few st os ms p h = by_checked (first (read_refusals s job es os ms p)) refl
  where
    by_checked : (c : Checked) → first (read_refusals s job es os ms p) ≡ c → Fits (record_of_reading (reading s job es st os ms p))
    by_checked (Err x) e = absurd (false≢true (sym (ap (λ (r : Reading). is_counted r.answer) (read-refused s job es st os ms p x e)) ∙ h))
    by_checked (Ok _) e = reading_fits s job es st os ms p e few

-- ---- what readings come to, behind records that stand there already

module _ (room : ℕ) where
  abbrev shown : ℕ → State → ℕ → List Record → List Reading → Keeping
  shown n st p us rs =
      stopped (end_of (walk_of n st rs).answer) (walk_of n st rs).state (last_next p rs) (n + length (records_of rs)) (filled room (us ++ records_of rs))

  module _ (n : ℕ) (st : State) (p : ℕ) (us : List Record) (r : Reading) where
    shown-last : (x : WalkAnswer) → walk_of n st (r ∷ []) ≡ record { answer = x; state = r.state } → is_counted r.answer ≡ false
        → shown n st p us (r ∷ []) ≡ stopped (end_of x) r.state r.next n (filled room us)
    unfolding last_next
    shown-last x e h =
        ap₂ (λ (y : Walking) (us' : List Record). stopped (end_of y.answer) y.state r.next (n + length us') (filled room (us ++ us')))
        e (records-last r h)
        ∙ ap₂ (λ (k : ℕ) (us' : List Record). stopped (end_of x) r.state r.next k (filled room us')) (let z : n + 0 ≡ n = omega arith in z) (append-nil us)

    last-refused : (x : Refusal) → r.answer ≡ Answer.Refused x → walk_of n st (r ∷ []) ≡ record { answer = Err x; state = r.state }
    unfolding walk_of
    last-refused x e = rw e

    last_none : r.answer ≡ Answer.Nothing → walk_of n st (r ∷ []) ≡ record { answer = walk_ended n false; state = r.state }
    unfolding walk_of
    last_none e = rw e

    last_open : r.answer ≡ Answer.Open → walk_of n st (r ∷ []) ≡ record { answer = walk_ended n true; state = r.state }
    unfolding walk_of
    last_open e = rw e

    module _ (rs : List Reading) (o : Outcome) (w : ℕ) (q : Part) (v : ℕ) (e : r.answer ≡ Counted o w q v) where
      walk_on : walk_of n st (r ∷ rs) ≡ walk_of (n + 1) r.state rs
      unfolding walk_of
      walk_on = rw e

      shown_on : shown n st p us (r ∷ rs) ≡ shown (n + 1) r.state r.next (us ++ (record_of_reading r ∷ [])) rs
      unfolding last_next
      shown_on =
          let x = record_of_reading r in
          let us' = records_of rs in
          ap₂ (λ (y : Walking) (us'' : List Record). stopped (end_of y.answer) y.state (last_next r.next rs) (n + length us'') (filled room (us ++ us'')))
          walk_on (records-counted r rs o w q v e)
          ∙ ap₂ (λ (k : ℕ) (us'' : List Record).
          stopped (end_of (walk_of (n + 1) r.state rs).answer) (walk_of (n + 1) r.state rs).state (last_next r.next rs) k (filled room us''))
          (let z : n + suc (length us') ≡ n + 1 + length us' = omega arith in z) (sym (append_assoc us (x ∷ []) us'))

  kept-none : (s : Settings) (job : ℕ) (es : List Entry) (st : State) (os ms : List ℕ) (p n : ℕ) (us : List Record)
      → keep_from zero s job es st os ms p n (filled room us) ≡ shown n st p us (readings_from zero s job es st os ms p)
  unfolding keep_from readings_from walk_of last_next
  kept-none s job es st os ms p n us =
      sym (ap (λ (us' : List Record). stopped Nothing st p (n + length us') (filled room (us ++ us'))) records-none
      ∙ ap₂ (λ (k : ℕ) (us' : List Record). stopped Nothing st p k (filled room us')) (let z : n + 0 ≡ n = omega arith in z) (append-nil us))

  -- what is claimed of the readings from a place on
  abbrev Kept : ℕ → Settings → ℕ → List Entry → List ℕ → List ℕ → State → ℕ → Type 0
  Kept most s job es os ms st p =
      (n : ℕ) (us : List Record) → AllFit us → AllCount us → length us + length (records_of (readings_from most s job es st os ms p)) ≤ room
      → keep_from most s job es st os ms p n (filled room us) ≡ shown n st p us (readings_from most s job es st os ms p)

  module _ (most : ℕ) (s : Settings) (job : ℕ) (es : List Entry) (st : State) (os ms : List ℕ) (p : ℕ) where
    abbrev r : Reading
    r = reading s job es st os ms p

    abbrev rest : List Reading
    rest = readings_from most s job es r.state os ms r.next

    -- a reading that counts no Start is the last
    kept-last : (n : ℕ) (us : List Record) (x : WalkAnswer) → is_counted r.answer ≡ false → walk_of n st (r ∷ []) ≡ record { answer = x; state = r.state }
        → stopped (end_of x) r.state r.next n (filled room us) ≡ shown n st p us (readings_from (suc most) s job es st os ms p)
    kept-last n us x h e = sym (ap (shown n st p us) (readings_stop most s job es st os ms p h) ∙ shown-last n st p us r x e h)

    kept_turn : length es ≤ table_entries → Kept most s job es os ms r.state r.next → (a : Answer) → r.answer ≡ a → Kept (suc most) s job es os ms st p
    unfolding AllFit AllCount
    kept_turn few ih (Answer.Refused x) e n us f c h =
        turn_refused s job es st os ms p n (filled room us) (suc most) (omega arith) r refl x e
        ∙ kept-last n us (Err x) (ap is_counted e) (last-refused n st p us r x e)
    kept_turn few ih Answer.Nothing e n us f c h =
        turn_none s job es st os ms p n (filled room us) (suc most) (omega arith) r refl e
        ∙ kept-last n us (walk_ended n false) (ap is_counted e) (last_none n st p us r e)
    kept_turn few ih Answer.Open e n us f c h =
        turn_open s job es st os ms p n (filled room us) (suc most) (omega arith) r refl e
        ∙ kept-last n us (walk_ended n true) (ap is_counted e) (last_open n st p us r e)
    kept_turn few ih (Counted o w q v) e n us f c h =
        let x = record_of_reading r in
        let yes : is_counted r.answer ≡ true = ap is_counted e in
        let on = readings_on most s job es st os ms p yes in
        let all : records_of (readings_from (suc most) s job es st os ms p) ≡ x ∷ records_of rest = ap records_of on ∙ records-counted r rest o w q v e in
        let h' : length us + suc (length (records_of rest)) ≤ room = subst (λ (y : List Record). length us + length y ≤ room) all h in
        let small : length us ≤ room = omega arith in
        let size = length-filled room us small in
        let len = length-append us (x ∷ []) in
        let last = extent-filled room us small f c in
        let multiple = filled_multiple room us small in
        let stays = behind-room (filled room us) multiple (omega arith) in
        turn_kept s job es st os ms p n (filled room us) (suc most) (omega arith) r refl o w q v e multiple (length us)
        (sym (ap extent stays ∙ last)) (omega arith)
        ∙ ap₂ (λ (m : ℕ) (l : List ℕ). keep_from m s job es r.state os ms r.next (n + 1) l) (let z : suc most - 1 ≡ most = omega arith in z)
        (ap (λ (l : List ℕ). overwrite l (record_size * length us) (octets_of_record x)) stays ∙ write_filled room us x (omega arith))
        ∙ ih (n + 1) (us ++ (x ∷ [])) (fit_append us (x ∷ []) f (counted_fits s job es few st os ms p yes, tt))
        (count-append us (x ∷ []) c (counts_so x (counted-some r o w q v e), tt)) (omega arith)
        ∙ sym (ap (shown n st p us) on ∙ shown_on n st p us r rest o w q v e)

  -- with room for all records, the walk that keeps its readings comes to what the readings come to
  kept_from : (most : ℕ) (s : Settings) (job : ℕ) (es : List Entry) → length es ≤ table_entries → (os ms : List ℕ) (st : State) (p : ℕ)
      → Kept most s job es os ms st p
  kept_from zero s job es few os ms st p = λ n us f c h. kept-none s job es st os ms p n us
  kept_from (suc most) s job es few os ms st p =
      let r = reading s job es st os ms p in
      kept_turn most s job es st os ms p few (kept_from most s job es few os ms r.state r.next) r.answer refl

-- ---- the claim

-- a log whose length is a multiple of 16: a refusal is that of the first reading
pub from_first : (s : Settings) (job : ℕ) (es : List Entry) (st : State) (os ms : List ℕ) (p : ℕ) (l : List ℕ) → IsMultiple l
    → walk_logged s job es st os ms p l ≡ keep_from (length os + 1) s job es st os ms p 0 l
from_first s job es st os ms p l good = by_checked (first (read_refusals s job es os ms p)) refl
  where
    by_checked : (c : Checked) → first (read_refusals s job es os ms p) ≡ c
        → walk_logged s job es st os ms p l ≡ keep_from (length os + 1) s job es st os ms p 0 l
    by_checked (Err x) e =
        walk_refused s job es st os ms p l (ByReading x) (keep_read s job es os ms p l x e)
        ∙ sym (turn_refused s job es st os ms p 0 l (length os + 1) (omega arith) (record { answer = Answer.Refused x; start = p; next = p; state = st })
        (sym (read-refused s job es st os ms p x e)) x refl)
    by_checked (Ok _) e = walk_fine s job es st os ms p l (keep_goes s job es os ms p l good e)

-- the records of readings have their widths
module _ (most : ℕ) (s : Settings) (job : ℕ) (es : List Entry) (st : State) (os ms : List ℕ) (p : ℕ) where
  abbrev read : Reading
  read = reading s job es st os ms p

  abbrev FitFrom : ℕ → State → ℕ → Type 0
  FitFrom m t i = AllFit (records_of (readings_from m s job es t os ms i))

  fit_last : is_counted read.answer ≡ false → FitFrom (suc most) st p
  unfolding AllFit
  fit_last h = subst AllFit (sym (ap records_of (readings_stop most s job es st os ms p h) ∙ records-last read h)) tt

  fit_turn : length es ≤ table_entries → FitFrom most read.state read.next → (a : Answer) → read.answer ≡ a → FitFrom (suc most) st p
  unfolding AllFit
  fit_turn few ih (Answer.Refused x) e = fit_last (ap is_counted e)
  fit_turn few ih Answer.Nothing e = fit_last (ap is_counted e)
  fit_turn few ih Answer.Open e = fit_last (ap is_counted e)
  fit_turn few ih (Counted o w q v) e =
      let yes : is_counted read.answer ≡ true = ap is_counted e in
      subst AllFit (sym (ap records_of (readings_on most s job es st os ms p yes) ∙ records-counted read _ o w q v e))
      (counted_fits s job es few st os ms p yes, ih)

records_fit : (most : ℕ) (s : Settings) (job : ℕ) (es : List Entry) → length es ≤ table_entries → (st : State) (os ms : List ℕ) (p : ℕ)
    → AllFit (records_of (readings_from most s job es st os ms p))
unfolding AllFit readings_from
records_fit zero s job es few st os ms p = subst AllFit (sym records-none) tt
records_fit (suc most) s job es few st os ms p =
    let r = reading s job es st os ms p in
    fit_turn most s job es st os ms p few (records_fit most s job es few r.state os ms r.next) r.answer refl

-- "the readings of a run kept", where there is room for them; the table has its 16 entries
pub walk-keeps : (s : Settings) (job : ℕ) (es : List Entry) → length es ≤ table_entries → (st : State) (os ms : List ℕ) (room : ℕ)
    → length (records_of (walk s job es st os ms)) ≤ room → KeepsWalk s job es st os ms room
unfolding walk walked
walk-keeps s job es few st os ms room h =
    let rs = readings_from (length os + 1) s job es st os ms 0 in
    let us = records_of rs in
    let all : walk_logged s job es st os ms 0 (zero_log room) ≡ shown room 0 st 0 [] rs
    = ap (walk_logged s job es st os ms 0) (zero-filled room)
    ∙ from_first s job es st os ms 0 (filled room []) (filled_multiple room [] (omega arith))
    ∙ kept_from room (length os + 1) s job es few os ms st 0 0 [] (unfold AllFit in tt) (unfold AllCount in tt) (omega arith) in
    record {
      log = ap (λ (k : Keeping). k.log) all;
      back = ap (λ (k : Keeping). read_back k.log) all
          ∙ read-filled room us h (records_fit (length os + 1) s job es few st os ms 0) (records-count rs);
      state = ap (λ (k : Keeping). k.given.state) all;
      end = ap (λ (k : Keeping). k.given.end) all;
      next = ap (λ (k : Keeping). k.given.next) all;
      kept = ap (λ (k : Keeping). k.given.kept) all ∙ omega arith;
    }
