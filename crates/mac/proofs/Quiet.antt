-- Document 02, item 14, "Quiet means quiet", over any sequence of our calls on one state: `quiet`. What it speaks of is what we write: `events-written`,
-- `call_leaves` (proofs/Leaves.antt) and `one-start`; and what holds a class is the timer of the state: `events-timer`. "Control frames and other classes may
-- start": `may_start`. "A frame written before the reading isn't touched": `events-append`, and `sets_or-writes` (proofs/Timers.antt). Demand 2, sending
-- "starts no client frame while its class timer runs": `held_quiet`. Assumes nothing.
use Rattle.std.specs.Prelude.{Err, Ok}
use Rattle.station.specs.Numbers.{Checked}
use Prim.Native.Nat.{ℕ, zero, suc, ◌+◌, ◌-◌, ◌*◌, ◌<◌}
use native.Mathlib.Omega.{arith}
use mathlib.Core.Path.{◌≡◌, refl, sym, ap, ap₂, ◌∙◌, subst}
use mathlib.Core.Bool.{Bool, true, false, false≢true}
use mathlib.Core.List.{List, [], ◌∷◌, ◌++◌, map, append_assoc}
use mathlib.Core.Logic.{⊎_elim}
use lib.ListN.{length, get_or}
use lib.Dec.{ltb}
use borrow.Author.Tests.{ltb-false, ltb-true, lt-ltb, eqb-true, eq-eqb}
use Rattle.line.specs.Limits.{quantum_slots}
use Rattle.line.specs.Line.{Symbol, is_data, is_control, is_start, as_data, as_control, start, preamble, start_count}
use Rattle.line.specs.Table.{Table, ◌⇒◌, ◌∣◌, first}
use Rattle.line.proofs.Symbols.{by_test, met_start}
use Rattle.line.proofs.Starts.{met-starts, met_data}
use Rattle.line.proofs.Tables.{first-here, first_next}
use Rattle.fcs.specs.Fcs.{fcs}
use Rattle.station.specs.declared.Settings.{Settings}
use Rattle.station.specs.declared.Port.{Port}
use Rattle.station.specs.declared.State.{State}
use Rattle.station.specs.declared.Quanta.{Quanta}
use Rattle.station.specs.declared.Slots.{Slots}
use Rattle.station.specs.declared.Refusal.{Refusal}
use Rattle.station.specs.declared.Refusal.TheVariants.{BadSettings, BadBuffers, BadPlace, BadClass, BadType, LongData, NoRoom, Held, ManyTags, HighDeficit}
use Rattle.flow.specs.Timers.{timer}
use Rattle.writing.specs.declared.Client.{Client}
use Rattle.writing.specs.Frames.{client_body, pause_body, pfc_body, gap, on_line}
use Rattle.writing.specs.Gaps.{gap_on, symbols_on}
use Rattle.send.specs.Sending.{held, written, client_refusals, control_refusals}
use Rattle.counting.specs.Claims.{Sends, sends_client, sends_pause, sends_pfc, fills_idle, symbols_asked, with_totals, refusals_of, come_first, all_refusals}
use Rattle.mac.specs.Calls.{Call, reads, walks, keeps, takes, sends, counts, asks_such, after_call, after_calls, writes, all_written, sets_class, latest}
use Rattle.mac.specs.Quiet.{Event, is_set, is_written, asks_for, is_client_of, written_by, call_events, events}
use Rattle.mac.specs.Quiet.{written_next, Quiet, symbols_of, time_after, AlikeFor}
use Rattle.mac.proofs.Port.{none_in_gap}
use Rattle.mac.proofs.States.{Does, by-reading, by_sending, does}
use Rattle.mac.proofs.Timers.{call_keeps, call_timer, sets_or-writes}

-- ---- while a class is held, no call for a client frame of it writes anything

-- a table that refuses goes on refusing with a row in front
still : (b : Bool) (x : Refusal) (rows : Table Checked) → ((y : Refusal) × (first rows ≡ Err y))
    → (y : Refusal) × (first (b ⇒ Err x ∣ rows) ≡ Err y)
still true x rows h = (x, first-here (Err x) rows refl)
still false x rows h = (h.0, first_next (Err x) rows refl ∙ h.1)

held-refused : (s : Settings) (st : State) (port : Port) (os ms : List ℕ) (p : ℕ) (c : Client) (d : List ℕ) → held st c.class ≡ true
    → (y : Refusal) × (first (client_refusals s st port os ms p c d) ≡ Err y)
unfolding client_refusals
held-refused s st port os ms p c d h =
    still _ BadSettings _
    (still _ BadBuffers _
    (still _ BadPlace _
    (still _ HighDeficit _
    (still _ BadClass _ (still _ BadType _ (still _ ManyTags _ (still _ LongData _ (still _ NoRoom _ (Held, first-here (Err Held) _ h)))))))))

held-not_fine : (st : State) (k : ℕ) → 0 < (timer st.timers k).0 → (os ms : List ℕ) (x : Sends) → asks_for k x ≡ true
    → first (refusals_of st os ms x) ≡ Ok tt → ⊥
unfolding asks_for refusals_of held
held-not_fine st k h os ms (sends_client s port p c d) e f =
    let above : 0 < (timer st.timers c.class).0 = subst (λ (i : ℕ). 0 < (timer st.timers i).0) (sym (eqb-true c.class k e)) h in
    let refused = held-refused s st port os ms p c d (lt-ltb 0 (timer st.timers c.class).0 above) in
    let both : Ok tt ≡ Err refused.0 = sym f ∙ refused.1 in
    let bad : ◌≡◌ {A = ℕ} 0 1 = cc in
    omega arith
held-not_fine st k h os ms (sends_pause s port p q) e f = absurd (false≢true e)
held-not_fine st k h os ms (sends_pfc s port p c) e f = absurd (false≢true e)
held-not_fine st k h os ms (fills_idle p n) e f = absurd (false≢true e)

not_written : (r : Checked) (l : List Symbol) → (r ≡ Ok tt → ⊥) → written r l ≡ []
unfolding written
not_written (Err y) l f = refl
not_written (Ok _) l f = absurd (f refl)

held-writes-none : (st : State) (k : ℕ) → 0 < (timer st.timers k).0 → (c : Call) → is_client_of k c ≡ true → writes st c ≡ []
unfolding is_client_of
held-writes-none st k h c e = by (does st c)
  where
    by : Does st c → writes st c ≡ []
    by (by-reading t w g) = w
    by (by_sending r os ms x t n f w g) = w ∙ not_written r (symbols_asked st x) (λ a. held-not_fine st k h os ms x (sym (t (asks_for k)) ∙ e) (f a))

-- ---- from a timer at t on, over what happens to the class: a symbol that starts a client frame of it is written only at 0

unfoldable Waits : ℕ → List Event → Type 0
Waits t [] = Unit {0}
Waits t (is_set q ∷ es) = Waits (quantum_slots * q.0) es
Waits t (is_written x starts ∷ es) = (0 < t → starts ≡ false) × Waits (t - 1) es

time_append : (t : ℕ) (a b : List Event) → time_after t (a ++ b) ≡ time_after (time_after t a) b
unfolding time_after
time_append t [] b = refl
time_append t (is_set q ∷ a) b = time_append (quantum_slots * q.0) a b
time_append t (is_written x starts ∷ a) b = time_append (t - 1) a b

waits_append : (t : ℕ) (a b : List Event) → Waits t a → Waits (time_after t a) b → Waits t (a ++ b)
unfolding Waits time_after
waits_append t [] b v w = w
waits_append t (is_set q ∷ a) b v w = waits_append (quantum_slots * q.0) a b v w
waits_append t (is_written x starts ∷ a) b v w = (v.0, waits_append (t - 1) a b v.1 w)

waits_behind : (t : ℕ) (a b : List Event) → Waits t (a ++ b) → Waits (time_after t a) b
unfolding Waits time_after
waits_behind t [] b w = w
waits_behind t (is_set q ∷ a) b w = waits_behind (quantum_slots * q.0) a b w
waits_behind t (is_written x starts ∷ a) b w = waits_behind (t - 1) a b w.1

-- settings alone, and symbols alone
sets_wait : (t : ℕ) (qs : List Quanta) → Waits t (map is_set qs)
unfolding Waits
sets_wait t [] = tt
sets_wait t (q ∷ qs) = sets_wait (quantum_slots * q.0) qs

sets_time : (t : Slots) (qs : List Quanta) → time_after t.0 (map is_set qs) ≡ (latest qs t).0
unfolding time_after latest
sets_time t [] = refl
sets_time t (q ∷ qs) = sets_time (record { 0 = quantum_slots * q.0 }) qs

-- each symbol takes one off
written_time : (t : ℕ) (mine : Bool) (l : List Symbol) → time_after t (written_by mine l) ≡ t - length l
unfolding time_after written_by
written_time t mine [] = omega arith
written_time t mine (x ∷ xs) = written_time (t - 1) mine xs ∙ omega arith

others_wait : (t : ℕ) (l : List Symbol) → Waits t (written_by false l)
unfolding Waits written_by
others_wait t [] = tt
others_wait t (x ∷ xs) = (λ h. refl, others_wait (t - 1) xs)

free_waits : (t : ℕ) (mine : Bool) (l : List Symbol) → t ≡ 0 → Waits t (written_by mine l)
unfolding Waits written_by
free_waits t mine [] e = tt
free_waits t mine (x ∷ xs) e = (λ h. absurd (omega arith), free_waits (t - 1) mine xs (omega arith))

-- symbols that are written at all only by a call for no client frame of the class, or at 0
written_waits : (t : ℕ) (mine : Bool) (l : List Symbol) → (0 < t → mine ≡ true → l ≡ []) → Waits t (written_by mine l)
written_waits t false l h = others_wait t l
written_waits t true l h =
    by_test (ltb 0 t)
    (λ e. subst (λ (x : List Symbol). Waits t (written_by true x)) (sym (h (ltb-true 0 t e) refl)) (unfold Waits written_by in tt))
    (λ e. let z = ltb-false 0 t e in free_waits t true l (omega arith))

-- ---- one call, and any sequence of calls

module _ (k : ℕ) where
  -- of its symbols, behind what it sets
  call_waits : (st : State) (c : Call) → Waits (latest (sets_class k st c) (timer st.timers k)).0 (written_by (is_client_of k c) (writes st c))
  unfolding latest Waits written_by
  call_waits st c =
      ⊎_elim
      (λ none. subst (λ (qs : List Quanta). Waits (latest qs (timer st.timers k)).0 (written_by (is_client_of k c) (writes st c))) (sym none)
      (written_waits (timer st.timers k).0 (is_client_of k c) (writes st c) (λ above mine. held-writes-none st k above c mine)))
      (λ none. subst (λ (l : List Symbol). Waits (latest (sets_class k st c) (timer st.timers k)).0 (written_by (is_client_of k c) l)) (sym none) tt)
      (sets_or-writes st k c)

  module _ (st : State) (eight : k < length st.timers) (c : Call) where
    abbrev t : ℕ
    t = (timer st.timers k).0

    abbrev set_first : List Event
    set_first = map is_set (sets_class k st c)

    abbrev then-written : List Event
    then-written = written_by (is_client_of k c) (writes st c)

    set_time : time_after t set_first ≡ (latest (sets_class k st c) (timer st.timers k)).0
    set_time = sets_time (timer st.timers k) (sets_class k st c)

    one_waits : Waits t (call_events k st c)
    unfolding call_events
    one_waits =
        waits_append t set_first then-written (sets_wait t (sets_class k st c))
        (subst (λ (n : ℕ). Waits n then-written) (sym set_time) (call_waits st c))

    one-timer : time_after t (call_events k st c) ≡ (timer (after_call st c).timers k).0
    unfolding call_events
    one-timer =
        time_append t set_first then-written
        ∙ ap (λ (n : ℕ). time_after n then-written) set_time
        ∙ written_time _ (is_client_of k c) (writes st c)
        ∙ sym (call_timer st k eight c)

  events_wait : (st : State) (cs : List Call) → k < length st.timers → Waits (timer st.timers k).0 (events k st cs)
  unfolding events
  events_wait st [] h = unfold Waits in tt
  events_wait st (c ∷ cs) h =
      let same = call_keeps st c in
      waits_append (timer st.timers k).0 (call_events k st c) (events k (after_call st c) cs) (one_waits st h c)
      (subst (λ (n : ℕ). Waits n (events k (after_call st c) cs)) (sym (one-timer st h c)) (events_wait (after_call st c) cs (omega arith)))

  -- the timer of the state is the number that the events come to: a reading puts it to 64 × q, a symbol written takes one off
  pub events-timer : (st : State) (cs : List Call) → k < length st.timers
      → (timer (after_calls st cs).timers k).0 ≡ time_after (timer st.timers k).0 (events k st cs)
  unfolding events after_calls
  events-timer st [] h = unfold time_after in refl
  events-timer st (c ∷ cs) h =
      let same = call_keeps st c in
      events-timer (after_call st c) cs (omega arith)
      ∙ ap (λ (n : ℕ). time_after n (events k (after_call st c) cs)) (sym (one-timer st h c))
      ∙ sym (time_append (timer st.timers k).0 (call_events k st c) (events k (after_call st c) cs))

-- ---- the claims

waits_next : (t : ℕ) (es : List Event) → Waits t es → (j : ℕ) → j < t → get_or (written_next es) j false ≡ false
unfolding Waits written_next
waits_next t [] w j h = refl
waits_next t (is_set q ∷ es) w j h = refl
waits_next t (is_written x starts ∷ es) w zero h = w.0 h
waits_next t (is_written x starts ∷ es) w (suc j) h = waits_next (t - 1) es w.1 j (omega arith)

-- demand 2: none of the next symbols that we write, as many as the timer of a class says, is the Start of a client frame of it, unless a reading sets it
pub held_quiet : (k : ℕ) (st : State) → k < length st.timers → (cs : List Call) (j : ℕ) → j < (timer st.timers k).0
    → get_or (written_next (events k st cs)) j false ≡ false
held_quiet k st eight cs j h = waits_next (timer st.timers k).0 (events k st cs) (events_wait k st cs eight) j h

-- item 14, for each class (a state has eight timers), from any state on and whatever the settings of the calls
pub quiet : (k : ℕ) (st : State) → k < length st.timers → (cs : List Call) → Quiet (events k st cs)
unfolding Quiet Waits
quiet k st eight cs before after q e j h =
    let t : ℕ = (timer st.timers k).0 in
    let w : Waits t (before ++ (is_set q ∷ after)) = subst (Waits t) e (events_wait k st cs eight) in
    let v : Waits (time_after t before) (is_set q ∷ after) = waits_behind t before (is_set q ∷ after) w in
    waits_next (quantum_slots * q.0) after v j h

-- ---- what the events are made of

symbols_append : (a b : List Event) → symbols_of (a ++ b) ≡ symbols_of a ++ symbols_of b
unfolding symbols_of
symbols_append [] b = refl
symbols_append (is_set q ∷ a) b = symbols_append a b
symbols_append (is_written x starts ∷ a) b = ap (λ (l : List Symbol). x ∷ l) (symbols_append a b)

symbols_set : (qs : List Quanta) (es : List Event) → symbols_of (map is_set qs ++ es) ≡ symbols_of es
unfolding symbols_of
symbols_set [] es = refl
symbols_set (q ∷ qs) es = symbols_set qs es

symbols_written : (mine : Bool) (l : List Symbol) → symbols_of (written_by mine l) ≡ l
unfolding symbols_of written_by
symbols_written mine [] = refl
symbols_written mine (x ∷ l) = ap (λ (t : List Symbol). x ∷ t) (symbols_written mine l)

-- their symbols are those that the calls write, in order
pub events-written : (k : ℕ) (st : State) (cs : List Call) → symbols_of (events k st cs) ≡ all_written st cs
unfolding events call_events all_written
events-written k st [] = unfold symbols_of in refl
events-written k st (c ∷ cs) =
    symbols_append (call_events k st c) (events k (after_call st c) cs)
    ∙ ap₂ (λ (a b : List Symbol). a ++ b)
    (symbols_set (sets_class k st c) (written_by (is_client_of k c) (writes st c)) ∙ symbols_written (is_client_of k c) (writes st c))
    (events-written k (after_call st c) cs)

-- a frame has one Start symbol, its first one, so no symbol behind that is taken for the Start of another
pub one-start : (port : Port) (count place : ℕ) (body : List ℕ) → start_count (symbols_on port count place body) ≡ 1
unfolding symbols_on on_line
one-start port count place body =
    let os : List ℕ = preamble ++ (body ++ fcs body) in
    let idles : ℕ = (gap_on port count place body).size - 1 in
    sym (met-starts 0 (as_control start ∷ (map as_data os ++ gap idles)))
    ∙ ap length (met_start 0 (as_control start) (map as_data os ++ gap idles) (unfold is_start is_control is_data as_control in refl))
    ∙ ap suc (ap length (met_data (0 + 1) os (gap idles)) ∙ ap length (none_in_gap idles (0 + 1 + length os)))

-- ---- "Control frames and other classes may start."

same_symbols : (st st' : State) (c : Sends) → st.deficit ≡ st'.deficit → symbols_asked st c ≡ symbols_asked st' c
unfolding symbols_asked
same_symbols st st' (sends_client s port p c d) e = ap (λ (n : ℕ). symbols_on port n p (client_body s c d)) e
same_symbols st st' (sends_pause s port p q) e = ap (λ (n : ℕ). symbols_on port n p (pause_body s q)) e
same_symbols st st' (sends_pfc s port p k) e = ap (λ (n : ℕ). symbols_on port n p (pfc_body s k)) e
same_symbols st st' (fills_idle p n) e = refl

same-table : (st st' : State) (c : Sends) (os ms : List ℕ) → st.deficit ≡ st'.deficit
    → ((class : ℕ) → asks_for class c ≡ true → timer st.timers class ≡ timer st'.timers class)
    → refusals_of st os ms c ≡ refusals_of st' os ms c
unfolding refusals_of asks_for client_refusals control_refusals held
same-table st st' (sends_client s port p c d) os ms e own = rw (e, own c.class (eq-eqb c.class c.class refl))
same-table st st' (sends_pause s port p q) os ms e own = rw e
same-table st st' (sends_pfc s port p k) os ms e own = rw e
same-table st st' (fills_idle p n) os ms e own = refl

-- what a call writes is the same in states that are alike for it, whatever the other timers are
pub may_start : (st st' : State) (c : Call) → AlikeFor c st st' → writes st c ≡ writes st' c
unfolding writes is_client_of asks_such
may_start st st' (reads s job es os ms p) a = refl
may_start st st' (walks s job es os ms) a = refl
may_start st st' (keeps s job es os ms p l) a = refl
may_start st st' (takes s job es at running run x) a = refl
may_start st st' (sends os ms c) a =
    ap₂ (λ (t : Table Checked) (l : List Symbol). written (first t) l) (same-table st st' c os ms a.count a.own) (same_symbols st st' c a.count)
may_start st st' (counts l c) a =
    unfold all_refusals in
    ap₂ (λ (t : Table Checked) (x : List Symbol). written (first (with_totals (come_first c) l.octets l.totals t)) x)
    (same-table st st' c l.octets l.marks a.count a.own)
    (same_symbols st st' c a.count)

-- ---- "A frame written before the reading isn't touched."

-- what later calls do changes nothing of what happened before them
pub events-append : (k : ℕ) (st : State) (xs ys : List Call) → events k st (xs ++ ys) ≡ events k st xs ++ events k (after_calls st xs) ys
unfolding events after_calls
events-append k st [] ys = refl
events-append k st (x ∷ xs) ys =
    ap (λ (es : List Event). call_events k st x ++ es) (events-append k (after_call st x) xs ys)
    ∙ sym (append_assoc (call_events k st x) (events k (after_call st x) xs) (events k (after_calls (after_call st x) xs) ys))
