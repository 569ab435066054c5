-- Claim 2, demand 1: each call ends with a reading, symbols written or a refusal out of exactly its list, the first that holds; a refusal leaves
-- state and both buffers as they were. The statements are `reading_refuses`, `walk_refuses`, `client_refuses`, `pause_refuses`, `pfc_refuses`
-- and `idle_refuses`. Assumes nothing.
use Rattle.std.specs.Prelude.{Err, None, Ok, Option, Some}
use Rattle.station.specs.Numbers.{Checked}
use Prim.Native.Nat.{ℕ, ◌+◌, ◌<◌}
use native.Mathlib.Omega.{arith}
use mathlib.Core.Path.{◌≡◌, refl, sym, ap, ◌∙◌, subst₂}
use mathlib.Core.Bool.{Bool, true, false, not, ◌||◌, true≢false, and-false}
use mathlib.Core.Logic.{◌↔◌}
use mathlib.Core.List.{List, [], ◌∷◌}
use lib.Dec.{eqb}
use borrow.Author.Tests.{eq-eqb, ne_eqb, eqb-true, not-false, le-ltb}
use lib.ListN.{length, drop}
use Rattle.line.specs.Line.{Symbol, capture, find_start, AfterStart, unended, ended, after_start, MetStart, met_starts}
use Rattle.line.specs.Table.{Row, Table, otherwise, ◌∣◌, first}
use Rattle.line.proofs.Symbols.{by_test}
use Rattle.line.proofs.Tables.{first-here, first_next, first-other}
use Rattle.station.specs.declared.Address.{Address}
use Rattle.station.specs.declared.Settings.{Settings}
use Rattle.station.specs.declared.Port.{Port}
use Rattle.station.specs.declared.State.{State}
use Rattle.station.specs.declared.Quanta.{Quanta}
use Rattle.station.specs.Numbers.{checked_number}
use Rattle.station.proofs.Refusals.{or-false}
use Rattle.station.specs.Station.{is_pause_mode, is_pfc_mode, bad_place}
use Rattle.table.specs.declared.Entry.{Entry}
use Rattle.table.specs.Entries.{mine}
use Rattle.receive.specs.declared.Reading.{Reading}
use Rattle.receive.specs.Reading.{read_run, read_start, read_found, read_at, read_refusals, read_checked, reading}
use Rattle.receive.specs.declared.Walking.{Walking}
use Rattle.receive.specs.Values.{answer_refusal, walk_refusal}
use Rattle.receive.specs.Walk.{walk_of, walked}
use Rattle.writing.specs.declared.Client.{Client}
use Rattle.writing.specs.declared.Classes.{Classes}
use Rattle.writing.specs.Frames.{client_body, pause_body, pfc_body, idle_symbols}
use Rattle.send.specs.Sending.{send_refusal, send_checked, client_refusals, control_refusals, idle_refusals, client_checked, pause_checked, pfc_checked, idle_checked, frame_sending, client_sending, pause_sending, pfc_sending, idle_sending}
use Rattle.mac.specs.Demand1.{numbers_of, row_holds, place_in, NoneBefore, Exactly, ReadRefused, SendRefused, ReadsOrRefuses, SendsOrRefuses}
use Rattle.receive.proofs.Walks.{through, walk_through, walked-refused}

-- ---- any table of refusals

-- a number stands in a list
unfoldable pub is_in : List ℕ → ℕ → Bool
is_in [] n = false
is_in (k ∷ numbers) n = eqb k n || is_in numbers n

-- a number stands twice in a table, the 0 of what it gives where no row holds among them
unfoldable pub repeats : Table Checked → Bool
repeats (otherwise a) = not (eqb (checked_number a) 0)
repeats (r ∣ rows) = is_in (0 ∷ numbers_of rows) (checked_number r.gives) || repeats rows

-- the rows of a table have these numbers, all different; computed for each call's table
abbrev pub Listed : Table Checked → List ℕ → Type 0
Listed rows numbers = (numbers_of rows ≡ numbers) × (repeats rows ≡ false)

clash : {P : Type 0} {b : Bool} → b ≡ true → b ≡ false → P
clash t f = absurd (true≢false (sym t ∙ f))

no_rows : (a : Checked) (m : ℕ) → row_holds (otherwise a) m ≡ false
unfolding row_holds
no_rows a m = refl

goes_on : (a : Checked) → repeats (otherwise a) ≡ false → checked_number (first (otherwise a)) ≡ 0
unfolding repeats
goes_on a w = ap checked_number (first-other a) ∙ eqb-true (checked_number a) 0 (not-false (eqb (checked_number a) 0) w)

-- the row of a number that is not listed does not hold
unlisted : (rows : Table Checked) (n : ℕ) → is_in (numbers_of rows) n ≡ false → row_holds rows n ≡ false
unfolding is_in numbers_of row_holds
unlisted (otherwise a) n h = refl
unlisted (r ∣ rows) n h =
    let x = or-false (eqb (checked_number r.gives) n) (is_in (numbers_of rows) n) h in
    rw (x.0, unlisted rows n x.1)

-- a row in front of others, and its number k
module _ (r : Row Checked) (rows : Table Checked) where
  abbrev k : ℕ
  k = checked_number r.gives

  -- k is neither 0 nor the number of another row
  apart : repeats (r ∣ rows) ≡ false → (eqb 0 k ≡ false) × (row_holds rows k ≡ false) × (repeats rows ≡ false)
  unfolding repeats is_in
  apart w =
      let x = or-false (eqb 0 k || is_in (numbers_of rows) k) (repeats rows) w in
      let y = or-false (eqb 0 k) (is_in (numbers_of rows) k) x.0 in
      (y.0, unlisted rows k y.1, x.1)

  here : r.holds ≡ true → (checked_number (first (r ∣ rows)) ≡ k) × (row_holds (r ∣ rows) k ≡ true)
  unfolding row_holds
  here h = (ap checked_number (first-here r.gives rows h), rw (eq-eqb k k refl, h))

  passed : r.holds ≡ false → (checked_number (first (r ∣ rows)) ≡ checked_number (first rows)) × ((m : ℕ) → row_holds (r ∣ rows) m ≡ row_holds rows m)
  unfolding row_holds
  passed h = (ap checked_number (first_next r.gives rows h), λ m. rw (h, and-false))

  place-first : place_in (numbers_of (r ∣ rows)) k ≡ 0
  unfolding place_in numbers_of
  place-first = rw (eq-eqb k k refl)

  place-next : (m : ℕ) → eqb k m ≡ false → place_in (numbers_of (r ∣ rows)) m ≡ 1 + place_in (numbers_of rows) m
  unfolding place_in numbers_of
  place-next m h = rw h

  -- what is told of every number but k is told of k too
  but_k : row_holds rows k ≡ false → (m : ℕ) → (eqb k m ≡ false → row_holds rows m ≡ false) → row_holds rows m ≡ false
  but_k a m f = by_test (eqb k m) (λ e. ap (row_holds rows) (sym (eqb-true k m e)) ∙ a) f

  -- where the first row does not hold, none before n holds exactly when none of the others before n does
  before-next : row_holds rows k ≡ false → r.holds ≡ false → (n : ℕ) → row_holds rows n ≡ true
      → NoneBefore (r ∣ rows) (numbers_of (r ∣ rows)) n ↔ NoneBefore rows (numbers_of rows) n
  before-next a h n t =
      let b = place-next n (ne_eqb k n (λ e. clash t (ap (row_holds rows) (sym e) ∙ a))) in (
        λ f m l. but_k a m (λ e. sym ((passed h).1 m) ∙ f m (let c = place-next m e in omega arith)),
        λ f m l. (passed h).1 m ∙ but_k a m (λ e. f m (let c = place-next m e in omega arith)),
      )

earliest : (rows : Table Checked) → repeats rows ≡ false → (n : ℕ) → 0 < n
    → (checked_number (first rows) ≡ n) ↔ ((row_holds rows n ≡ true) × NoneBefore rows (numbers_of rows) n)
earliest (otherwise a) w n pos = (λ e. let z = goes_on a w in absurd (omega arith), λ p. clash p.0 (no_rows a n))
earliest (r ∣ rows) w n pos =
    let a = apart r rows w in
    let ih = earliest rows a.2 n pos in
    by_test r.holds
    (λ h. let x = here r rows h in (
      λ e. let q = sym x.0 ∙ e in rw (← q) (x.1, λ m l. let z = place-first r rows in absurd (omega arith)),
      λ p. x.0 ∙ by_test (eqb (k r rows) n) (eqb-true (k r rows) n)
          (λ e. clash x.1 (p.1 (k r rows) (let y = place-first r rows in let z = place-next r rows n e in omega arith))),
    ))
    (λ h. let x = passed r rows h in (
      λ e. let y = ih.0 (sym x.0 ∙ e) in (x.1 n ∙ y.0, (before-next r rows a.1 h n y.0).1 y.1),
      λ p. let t = sym (x.1 n) ∙ p.0 in x.0 ∙ ih.1 (t, (before-next r rows a.1 h n t).0 p.1),
    ))

none : (rows : Table Checked) → repeats rows ≡ false → (checked_number (first rows) ≡ 0) ↔ ((m : ℕ) → row_holds rows m ≡ false)
none (otherwise a) w = (λ e. no_rows a, λ p. goes_on a w)
none (r ∣ rows) w =
    let a = apart r rows w in
    let ih = none rows a.2 in
    by_test r.holds
    (λ h. let x = here r rows h in (λ e. clash (eq-eqb 0 (k r rows) (sym e ∙ x.0)) a.0, λ p. clash x.1 (p (k r rows))))
    (λ h. let x = passed r rows h in (λ e m. x.1 m ∙ ih.0 (sym x.0 ∙ e) m, λ p. x.0 ∙ ih.1 (λ m. sym (x.1 m) ∙ p m)))

pub exactly : {rows : Table Checked} {numbers : List ℕ} {g : ℕ} → Listed rows numbers → g ≡ checked_number (first rows) → Exactly rows numbers g
exactly {rows} {numbers} {g} w e =
    subst₂ (λ (l : List ℕ) (i : ℕ). Exactly rows l i) w.0 (sym e) (record { listed = refl; earliest = earliest rows w.1; none = none rows w.1 })

-- ---- a reading

-- what a reading that is not refused answers is no refusal
not-refused : (s : Settings) (own : List (Option Address)) (st : State) (c : List Symbol) (place : ℕ) → answer_refusal (read_at s own st c place).answer ≡ 0
unfolding read_at
not-refused s own st c place = found (find_start c place)
  where
    start : (i : ℕ) (f : AfterStart) → answer_refusal (read_start s own st i f).answer ≡ 0
    start i unended = unfold read_start in refl
    start i (ended r by) = unfold read_start read_run in refl

    found : (f : Option ℕ) → answer_refusal (read_found s own st c f).answer ≡ 0
    found None = unfold read_found in refl
    found (Some i) = unfold read_found in start i (after_start (drop (i + 1) c))

read_number : (k : Checked) (s : Settings) (own : List (Option Address)) (st : State) (os ms : List ℕ) (place : ℕ)
    → answer_refusal (read_checked k s own st os ms place).answer ≡ checked_number k
unfolding read_checked
read_number (Err x) s own st os ms place = refl
read_number (Ok _) s own st os ms place = not-refused s own st (capture os ms) place

read_kept : (k : Checked) (s : Settings) (own : List (Option Address)) (st : State) (os ms : List ℕ) (place : ℕ)
    → 0 < checked_number k → ReadRefused st place (read_checked k s own st os ms place)
unfolding read_checked
read_kept (Err x) s own st os ms place h = record { word = refl; part = refl; start = refl; next = refl; state = refl }
read_kept (Ok _) s own st os ms place h = absurd (omega arith)

read-listed : (s : Settings) (job : ℕ) (es : List Entry) (os ms : List ℕ) (place : ℕ) → Listed (read_refusals s job es os ms place) (1 ∷ 14 ∷ 2 ∷ 3 ∷ 20 ∷ [])
unfolding read_refusals numbers_of repeats is_in
read-listed s job es os ms place = (refl, refl)

-- "Reading can give 1 to 3"; document 02, item 10: "14 …, tested right after 1", and 20 behind 3
pub reading_refuses : (s : Settings) (job : ℕ) (es : List Entry) (st : State) (os ms : List ℕ) (place : ℕ)
    → ReadsOrRefuses (read_refusals s job es os ms place) (1 ∷ 14 ∷ 2 ∷ 3 ∷ 20 ∷ []) st place (reading s job es st os ms place)
unfolding reading
reading_refuses s job es st os ms place =
    let k : Checked = first (read_refusals s job es os ms place) in
    let n = read_number k s (mine job es) st os ms place in
    record {
      exactly = exactly (read-listed s job es os ms place) n;
      refused = λ h. read_kept k s (mine job es) st os ms place (omega arith);
    }

-- the whole walk in one call: refused as a reading at place 0 is, where 3 never holds
through-none : (s : Settings) (own : List (Option Address)) (n k : ℕ) (st : State) (ms : List MetStart)
    → walk_refusal (walk_of k st (through s own st n ms)).answer ≡ 0
unfolding walk_of through
through-none s own n k st [] = refl
through-none s own n k st (m ∷ ms) = one m.follows (λ st'. through-none s own n (k + 1) st' ms)
  where
    one : (f : AfterStart) → ((st : State) → walk_refusal (walk_of (k + 1) st (through s own st n ms)).answer ≡ 0)
        → walk_refusal (walk_of k st (through s own st n (record { place = m.place; follows = f } ∷ ms))).answer ≡ 0
    one unended ih = unfold read_start in refl
    one (ended r by) ih = unfold read_start read_run in ih (read_start s own st m.place (ended r by)).state

walk-number : (s : Settings) (job : ℕ) (es : List Entry) (st : State) (os ms : List ℕ) (k : Checked) → first (read_refusals s job es os ms 0) ≡ k
    → (walk_refusal (walked s job es st os ms).answer ≡ checked_number k) × (0 < checked_number k → (walked s job es st os ms).state ≡ st)
unfolding walked
walk-number s job es st os ms (Err x) e =
    let r = walked-refused s job es st os ms x e in
    (ap (λ (w : Walking). walk_refusal w.answer) r, λ h. ap (λ (w : Walking). w.state) r)
walk-number s job es st os ms (Ok _) e = (
  ap (λ (l : List Reading). walk_refusal (walk_of 0 st l).answer) (walk_through s job es os ms e st)
      ∙ through-none s (mine job es) (length (capture os ms)) 0 st (met_starts 0 (capture os ms)),
  λ h. absurd (omega arith),
)

never_3 : (os : List ℕ) → bad_place os 0 ≡ false
unfolding bad_place
never_3 os = le-ltb (length os) 0 (omega arith)

pub walk_refuses : (s : Settings) (job : ℕ) (es : List Entry) (st : State) (os ms : List ℕ)
    → Exactly (read_refusals s job es os ms 0) (1 ∷ 14 ∷ 2 ∷ 3 ∷ 20 ∷ []) (walk_refusal (walked s job es st os ms).answer)
    × (bad_place os 0 ≡ false)
    × (0 < walk_refusal (walked s job es st os ms).answer → (walked s job es st os ms).state ≡ st)
walk_refuses s job es st os ms =
    let n = walk-number s job es st os ms (first (read_refusals s job es os ms 0)) refl in
    let e = n.0 in (
      exactly (read-listed s job es os ms 0) e,
      never_3 os,
      λ h. n.1 (omega arith),
    )

-- ---- the sending calls

send_number : (k : Checked) (st : State) (os ms : List ℕ) (place : ℕ) (new : List Symbol) (count : ℕ)
    → send_refusal (send_checked k st os ms place new count).given.answer ≡ checked_number k
unfolding send_checked
send_number (Err x) st os ms place new count = refl
send_number (Ok _) st os ms place new count = refl

send_kept : (k : Checked) (st : State) (os ms : List ℕ) (place : ℕ) (new : List Symbol) (count : ℕ)
    → 0 < checked_number k → SendRefused st os ms place (send_checked k st os ms place new count)
unfolding send_checked
send_kept (Err x) st os ms place new count h = record { at = refl; state = refl; octets = refl; marks = refl }
send_kept (Ok _) st os ms place new count h = absurd (omega arith)

-- a call is its table, the symbols it would write and the deficit count after them
send_refuses : {rows : Table Checked} {numbers : List ℕ} → Listed rows numbers → (st : State) (os ms : List ℕ) (place : ℕ) (new : List Symbol) (count : ℕ)
    → SendsOrRefuses rows numbers st os ms place (send_checked (first rows) st os ms place new count)
send_refuses {rows} w st os ms place new count =
    let n = send_number (first rows) st os ms place new count in
    record {
      exactly = exactly w n;
      refused = λ h. send_kept (first rows) st os ms place new count (omega arith);
    }

-- a frame on a port, of what its FCS covers
frame_refuses : {rows : Table Checked} {numbers : List ℕ} → Listed rows numbers → (st : State) (port : Port) (os ms : List ℕ) (place : ℕ) (body : List ℕ)
    → SendsOrRefuses rows numbers st os ms place (frame_sending (first rows) st port os ms place body)
unfolding frame_sending
frame_refuses w st port os ms place body = send_refuses w st os ms place _ _

module _ (s : Settings) (st : State) (port : Port) (os ms : List ℕ) (place : ℕ) where
  client-listed : (c : Client) (d : List ℕ) → Listed (client_refusals s st port os ms place c d) (1 ∷ 2 ∷ 3 ∷ 19 ∷ 5 ∷ 6 ∷ 10 ∷ 7 ∷ 8 ∷ 9 ∷ [])
  unfolding client_refusals numbers_of repeats is_in
  client-listed c d = (refl, refl)

  -- "client sending 1 to 3 and 5 to 9"; 10 "tested after 6 and before 7"; document 02, item 5: "3 …, then new 19"
  pub client_refuses : (c : Client) (d : List ℕ)
      → SendsOrRefuses (client_refusals s st port os ms place c d) (1 ∷ 2 ∷ 3 ∷ 19 ∷ 5 ∷ 6 ∷ 10 ∷ 7 ∷ 8 ∷ 9 ∷ [])
      st os ms place (client_sending s st port os ms place c d)
  unfolding client_sending client_checked
  client_refuses c d = frame_refuses (client-listed c d) st port os ms place (client_body s c d)

  -- "pause and PFC 1 to 4 and 8", and 19 behind 3
  control_listed : (inMode : Bool) (body : List ℕ) → Listed (control_refusals s port st.deficit os ms place inMode body) (1 ∷ 2 ∷ 3 ∷ 19 ∷ 4 ∷ 8 ∷ [])
  unfolding control_refusals numbers_of repeats is_in
  control_listed inMode body = (refl, refl)

  pub pause_refuses : (q : Quanta)
      → SendsOrRefuses (control_refusals s port st.deficit os ms place (is_pause_mode s.flow) (pause_body s q)) (1 ∷ 2 ∷ 3 ∷ 19 ∷ 4 ∷ 8 ∷ [])
      st os ms place (pause_sending s st port os ms place q)
  unfolding pause_sending pause_checked
  pause_refuses q = frame_refuses (control_listed (is_pause_mode s.flow) (pause_body s q)) st port os ms place (pause_body s q)

  pub pfc_refuses : (k : Classes)
      → SendsOrRefuses (control_refusals s port st.deficit os ms place (is_pfc_mode s.flow) (pfc_body s k)) (1 ∷ 2 ∷ 3 ∷ 19 ∷ 4 ∷ 8 ∷ [])
      st os ms place (pfc_sending s st port os ms place k)
  unfolding pfc_sending pfc_checked
  pfc_refuses k = frame_refuses (control_listed (is_pfc_mode s.flow) (pfc_body s k)) st port os ms place (pfc_body s k)

idle-listed : (os ms : List ℕ) (place : ℕ) (new : List Symbol) → Listed (idle_refusals os ms place new) (2 ∷ 3 ∷ 8 ∷ [])
unfolding idle_refusals numbers_of repeats is_in
idle-listed os ms place new = (refl, refl)

-- "Idle fill 2, 3 and 8"
pub idle_refuses : (st : State) (os ms : List ℕ) (place n : ℕ)
    → SendsOrRefuses (idle_refusals os ms place (idle_symbols n)) (2 ∷ 3 ∷ 8 ∷ []) st os ms place (idle_sending st os ms place n)
unfolding idle_sending idle_checked
idle_refuses st os ms place n = send_refuses (idle-listed os ms place (idle_symbols n)) st os ms place (idle_symbols n) st.deficit
