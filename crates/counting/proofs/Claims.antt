-- Document 02, item 9, of the sending calls with totals, each claim one statement over the four of them: what a call leaves in the totals (`totals-left`,
-- block by block `each_block`); a refused call changes none (`refused_none`); true totals stay true (`sends-true`); the number it gives is that of its
-- whole table of refusals (`number-given`), and but for its totals it is the call without them with that table (`counted-sent`). Assumes nothing.
use Rattle.std.specs.Prelude.{Err, Ok}
use Rattle.station.specs.Numbers.{Checked}
use Prim.Native.Nat.{ℕ, zero, suc, ◌+◌, ◌<◌}
use native.Mathlib.Omega.{arith}
use mathlib.Core.Path.{◌≡◌, refl, sym, ap, ◌∙◌, subst}
use mathlib.Core.Bool.{cond}
use mathlib.Core.List.{List}
use lib.ListN.{length, get_or}
use Rattle.line.specs.Line.{Symbol, capture, octets_of, marks_of, overwrite}
use Rattle.line.specs.Table.{Row, Table, ◌⇒◌, ◌∣◌, otherwise, first}
use Rattle.line.proofs.Symbols.{by_test}
use Rattle.line.proofs.Tables.{first-here, first_next, first-other}
use Rattle.line.proofs.Buffers.{length-capture}
use Rattle.line.proofs.Overwrite.{capture-overwrite}
use Rattle.station.specs.declared.State.{State}
use Rattle.station.specs.declared.Refusal.{Refusal}
use Rattle.station.specs.declared.Refusal.TheVariants.{WrongTotals, HighTotal}
use Rattle.station.specs.Numbers.{checked_number}
use Rattle.station.specs.Station.{is_pause_mode, is_pfc_mode}
use Rattle.station.proofs.Refusals.{fine_row}
use Rattle.writing.specs.Frames.{pause_body, pfc_body}
use Rattle.send.specs.Sending.{send_refusal, send_checked, client_refusals, control_refusals, idle_refusals, client_checked, pause_checked, pfc_checked, idle_checked}
use Rattle.send.specs.Sending.{frame_sending, client_sending, pause_sending, pfc_sending, idle_sending}
use Rattle.send.proofs.Refusals.{Room, passed, passed_control, passed-idle}
use Rattle.totals.specs.Totals.{block_total, true_totals, written_into, recounted, wrong_totals, high_total, before_refusals}
use Rattle.totals.proofs.Laws.{stay_true, none-recounted, get_or-recounted, length-recounted}
use Rattle.counting.specs.Counting.{Counting, frame_totals, count_checked, client_counting, pause_counting, pfc_counting, idle_counting}
use Rattle.counting.specs.Claims.{Lent, TotalsTrue, Sends, sends_client, sends_pause, sends_pfc, fills_idle, place_of, sending_of, counting_of, symbols_asked}
use Rattle.counting.specs.Claims.{count_after, with_totals, refusals_of, come_first, all_refusals, left_by, RefusedCall}
use Rattle.counting.proofs.Calls.{framed_room}

-- ---- 21 and 22 behind the first n rows of a table

never : {P : Type 0} (x : Refusal) → ◌≡◌ {A = Checked} (Ok tt) (Err x) → P
never x h = let bad : ◌≡◌ {A = ℕ} 0 1 = cc in absurd (omega arith)

-- the first n rows alone: with 21 and 22 behind them they are what a call tests before it goes on to the call without totals
unfoldable up_to : ℕ → Table Checked → Table Checked
up_to zero rows = otherwise (Ok tt)
up_to (suc n) (otherwise a) = otherwise a
up_to (suc n) (r ∣ rows) = r ∣ up_to n rows

-- a row in front of two tables, of which the second refuses as the first does
front : (r : Row Checked) (a b : Table Checked) (x : Refusal) → (first a ≡ Err x → first b ≡ Err x)
    → first (r ∣ a) ≡ Err x → first (r ∣ b) ≡ Err x
front r a b x f h =
    by_test r.holds
    (λ t. first-here r.gives b t ∙ sym (first-here r.gives a t) ∙ h)
    (λ t. first_next r.gives b t ∙ f (sym (first_next r.gives a t) ∙ h))

module _ (os ts : List ℕ) where
  -- refused early, the whole table refuses by that number
  early-first : (n : ℕ) (rows : Table Checked) (x : Refusal)
      → first (with_totals n os ts (up_to n rows)) ≡ Err x → first (with_totals n os ts rows) ≡ Err x
  unfolding with_totals up_to
  early-first zero rows x h =
      front (wrong_totals os ts ⇒ Err WrongTotals) _ _ x
      (front (high_total ts ⇒ Err HighTotal) (otherwise (Ok tt)) rows x (λ e. never x (sym (first-other (Ok tt)) ∙ e))) h
  early-first (suc n) (otherwise a) x h = h
  early-first (suc n) (r ∣ rows) x h = front r _ _ x (early-first n rows x) h

  -- else it gives what the call without totals does
  then-others : (n : ℕ) (rows : Table Checked) → first (with_totals n os ts (up_to n rows)) ≡ Ok tt → first (with_totals n os ts rows) ≡ first rows
  unfolding with_totals up_to
  then-others zero rows h =
      let r21 = fine_row WrongTotals _ h in
      let r22 = fine_row HighTotal _ r21.1 in
      first_next (Err WrongTotals) _ r21.0 ∙ first_next (Err HighTotal) rows r22.0
  then-others (suc n) (otherwise a) h = refl
  then-others (suc n) (r ∣ rows) h =
      by_test r.holds
      (λ t. first-here r.gives _ t ∙ sym (first-here r.gives rows t))
      (λ t. first_next r.gives _ t ∙ then-others n rows (sym (first_next r.gives _ t) ∙ h) ∙ sym (first_next r.gives rows t))

-- ---- any call: `early` is what its tests up to 22 give, k what the table of the call without totals gives

module _ (st : State) (os ms ts : List ℕ) (place : ℕ) (new : List Symbol) (count : ℕ) where
  abbrev made : Checked → Checked → Counting
  made early k = count_checked early st os ms place ts (send_checked k st os ms place new count)

  left : (early k : Checked) → let x = made early k in x.totals ≡ recounted (capture x.sent.octets x.sent.marks) place x.sent.given.place ts
  unfolding count_checked
  left (Err y) k = sym (none-recounted (capture os ms) place place ts (omega arith))
  left (Ok _) k = refl

  abbrev lent : List ℕ → Lent
  lent l = record { octets = os; marks = ms; totals = l }

  none-changed : (early k : Checked) → 0 < send_refusal (made early k).sent.given.answer → RefusedCall st (lent ts) place (made early k)
  unfolding count_checked send_checked
  none-changed (Err y) k h = record { at = refl; state = refl; lent = refl }
  none-changed (Ok _) (Err x) h =
      record { at = refl; state = refl; lent = ap lent (none-recounted (capture os ms) place place ts (omega arith)) }
  none-changed (Ok _) (Ok _) h = absurd (omega arith)

  still_true : (early k : Checked) → (k ≡ Ok tt → Room os ms place new) → ts ≡ true_totals (capture os ms) → TotalsTrue (left_by (made early k))
  unfolding TotalsTrue count_checked send_checked
  still_true (Err y) k h e = e
  still_true (Ok _) (Err x) h e = none-recounted (capture os ms) place place ts (omega arith) ∙ e
  still_true (Ok _) (Ok _) h e =
      let r = h refl in
      let even = r.even in
      let room = r.room in
      let c : List Symbol = capture os ms in
      let same : capture (overwrite os place (octets_of new)) (overwrite ms place (marks_of new)) ≡ overwrite c place new =
      capture-overwrite os ms place new even in
      ap (λ (l : List Symbol). recounted l place (place + length new) ts) same
      ∙ stay_true c place new ts (let n = length-capture os ms even in omega arith) e
      ∙ ap true_totals (sym same)

  number_is : (early k all : Checked) → ((x : Refusal) → early ≡ Err x → all ≡ Err x) → (early ≡ Ok tt → all ≡ k)
      → send_refusal (made early k).sent.given.answer ≡ checked_number all
  unfolding count_checked send_checked
  number_is (Err x) k all f g = ap checked_number (sym (f x refl))
  number_is (Ok _) (Err x) all f g = ap checked_number (sym (g refl))
  number_is (Ok _) (Ok _) all f g = ap checked_number (sym (g refl))

  -- both tables together: the call without totals, by the whole table
  sent-by_all : (early k all : Checked) → ((x : Refusal) → early ≡ Err x → all ≡ Err x) → (early ≡ Ok tt → all ≡ k)
      → (made early k).sent ≡ send_checked all st os ms place new count
  unfolding count_checked send_checked
  sent-by_all (Err x) k all f g = sym (ap (λ (a : Checked). send_checked a st os ms place new count) (f x refl))
  sent-by_all (Ok _) k all f g = sym (ap (λ (a : Checked). send_checked a st os ms place new count) (g refl))

-- ---- each call is such a call

-- without totals
pub sent-by : (st : State) (os ms : List ℕ) (c : Sends)
    → sending_of st os ms c ≡ send_checked (first (refusals_of st os ms c)) st os ms (place_of c) (symbols_asked st c) (count_after st c)
unfolding sending_of refusals_of symbols_asked count_after frame_sending
sent-by st os ms (sends_client s port place c d) = unfold client_sending client_checked in refl
sent-by st os ms (sends_pause s port place q) = unfold pause_sending pause_checked in refl
sent-by st os ms (sends_pfc s port place k) = unfold pfc_sending pfc_checked in refl
sent-by st os ms (fills_idle place n) = unfold idle_sending idle_checked in refl

-- there is room for what it writes
asked_room : (st : State) (os ms : List ℕ) (c : Sends) → first (refusals_of st os ms c) ≡ Ok tt → Room os ms (place_of c) (symbols_asked st c)
unfolding refusals_of symbols_asked client_checked idle_checked
asked_room st os ms (sends_client s port place c d) f = framed_room (passed s st port os ms place c d f).framed
asked_room st os ms (sends_pause s port place q) f =
    framed_room (passed_control s port st.deficit os ms place (is_pause_mode s.flow) (pause_body s q) f).1
asked_room st os ms (sends_pfc s port place k) f =
    framed_room (passed_control s port st.deficit os ms place (is_pfc_mode s.flow) (pfc_body s k) f).1
asked_room st os ms (fills_idle place n) f = passed-idle os ms place n f

-- with totals: what its tests up to 22 give, and then the table of the call without them
abbrev early : State → Lent → Sends → Checked
early st l c = first (with_totals (come_first c) l.octets l.totals (up_to (come_first c) (refusals_of st l.octets l.marks c)))

abbrev later : State → Lent → Sends → Checked
later st l c = first (refusals_of st l.octets l.marks c)

counted-by : (st : State) (l : Lent) (c : Sends)
    → counting_of st l c
    ≡ made st l.octets l.marks l.totals (place_of c) (symbols_asked st c) (count_after st c) (early st l c) (later st l c)
unfolding counting_of refusals_of symbols_asked count_after with_totals up_to frame_totals before_refusals frame_sending
counted-by st l (sends_client s port place c d) = unfold client_counting client_sending client_checked client_refusals in refl
counted-by st l (sends_pause s port place q) = unfold pause_counting pause_sending pause_checked control_refusals in refl
counted-by st l (sends_pfc s port place k) = unfold pfc_counting pfc_sending pfc_checked control_refusals in refl
counted-by st l (fills_idle place n) = unfold idle_counting idle_sending idle_checked idle_refusals in refl

-- ---- the claims

module _ (st : State) (l : Lent) (c : Sends) where
  abbrev x : Counting
  x = counting_of st l c

  -- what a call leaves in the totals, refused or not
  pub totals-left : x.totals ≡ recounted (capture x.sent.octets x.sent.marks) (place_of c) x.sent.given.place l.totals
  totals-left =
      subst
      (λ (y : Counting). y.totals ≡ recounted (capture y.sent.octets y.sent.marks) (place_of c) y.sent.given.place l.totals)
      (sym (counted-by st l c))
      (left st l.octets l.marks l.totals (place_of c) (symbols_asked st c) (count_after st c) _ _)

  -- "counts anew the blocks it writes into and touches no other total": of each of the totals, and there are as many as before
  pub each_block : (k : ℕ) → k < length l.totals
      → get_or x.totals k 0
      ≡ cond (written_into (place_of c) x.sent.given.place k) (block_total (capture x.sent.octets x.sent.marks) k) (get_or l.totals k 0)
  each_block k h = ap (λ (ts : List ℕ). get_or ts k 0) totals-left ∙ get_or-recounted _ (place_of c) x.sent.given.place l.totals k h

  pub as_many_left : length x.totals ≡ length l.totals
  as_many_left = ap length totals-left ∙ length-recounted _ (place_of c) x.sent.given.place l.totals

  -- "A refused call changes none.": neither total nor anything else
  pub refused_none : 0 < send_refusal x.sent.given.answer → RefusedCall st l (place_of c) x
  refused_none =
      subst
      (λ (y : Counting). 0 < send_refusal y.sent.given.answer → RefusedCall st l (place_of c) y)
      (sym (counted-by st l c))
      (none-changed st l.octets l.marks l.totals (place_of c) (symbols_asked st c) (count_after st c) _ _)

  -- true totals stay true
  pub sends-true : TotalsTrue l → TotalsTrue (left_by x)
  unfolding TotalsTrue
  sends-true e =
      subst
      (λ (y : Counting). TotalsTrue (left_by y))
      (sym (counted-by st l c))
      (still_true st l.octets l.marks l.totals (place_of c) (symbols_asked st c) (count_after st c) _ _ (asked_room st l.octets l.marks c) e)

  -- the whole table: refused early, it refuses by that number; else it gives what the table of the call without totals does
  all_early : (x : Refusal) → early st l c ≡ Err x → first (all_refusals st l c) ≡ Err x
  unfolding all_refusals
  all_early = early-first l.octets l.totals (come_first c) (refusals_of st l.octets l.marks c)

  all_later : early st l c ≡ Ok tt → first (all_refusals st l c) ≡ later st l c
  unfolding all_refusals
  all_later = then-others l.octets l.totals (come_first c) (refusals_of st l.octets l.marks c)

  -- the number given is that of the whole table: "Refusals, after 3 and 19"
  pub number-given : send_refusal x.sent.given.answer ≡ checked_number (first (all_refusals st l c))
  number-given =
      ap (λ (y : Counting). send_refusal y.sent.given.answer) (counted-by st l c)
      ∙ number_is st l.octets l.marks l.totals (place_of c) (symbols_asked st c) (count_after st c) _ _ _ all_early all_later

  -- but for its totals it is the call without them, refused by the whole table
  pub counted-sent : x.sent ≡ send_checked (first (all_refusals st l c)) st l.octets l.marks (place_of c) (symbols_asked st c) (count_after st c)
  counted-sent =
      ap (λ (y : Counting). y.sent) (counted-by st l c)
      ∙ sent-by_all st l.octets l.marks l.totals (place_of c) (symbols_asked st c) (count_after st c) _ _ _ all_early all_later

  -- where the whole table refuses nothing, the call without totals is not refused either
  pub none-refused : first (all_refusals st l c) ≡ Ok tt → first (refusals_of st l.octets l.marks c) ≡ Ok tt
  none-refused h = by-early (early st l c) refl
    where
      by-early : (k : Checked) → early st l c ≡ k → later st l c ≡ Ok tt
      by-early (Err x) e = never x (sym h ∙ all_early x e)
      by-early (Ok _) e = sym (all_later e) ∙ h
