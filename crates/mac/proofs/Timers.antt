-- Claim 7, the timers: what a call leaves of one is what the call's readings set it to last, or else what it was, less the symbols written (`call_timer`); so
-- it is set only by reading (`timer-set`), and falls only by sending and by exactly the symbols written (`call_lowers`, `timer_falls`); a client frame is
-- refused by 9 exactly while its timer is above zero and no refusal tested before it holds (`held-exactly`); one refused at t slots isn't refused for it once
-- t more are written, if no reading set it meanwhile (`released`); zero quanta let the class go at once (`let_go`). Assumes nothing.
use Rattle.std.specs.Prelude.{Err, Ok}
use Rattle.station.specs.Numbers.{Checked}
use Prim.Native.Nat.{ℕ, zero, suc, ◌-◌, ◌*◌, ◌/◌, ◌%◌, ◌≤◌, ◌<◌}
use native.Mathlib.Omega.{arith}
use native.Mathlib.Nat.{not-suc-le-zero, le_of_suc-le-suc}
use mathlib.Core.Path.{◌≡◌, refl, sym, ap, ap₂, ◌∙◌}
use mathlib.Core.Bool.{Bool, true, false, cond, ◌||◌}
use mathlib.Core.List.{List, [], ◌∷◌, ◌++◌}
use mathlib.Core.Logic.{◌↔◌, ◌⊎◌, inl, inr, ⊎_elim}
use lib.ListN.{length, get_or, drop, length-append, get_or-eq_default}
use lib.Dec.{eqb, ltb, lit<}
use borrow.Author.Tests.{ltb-true, ltb-false, lt-ltb}
use Rattle.line.specs.Limits.{quantum_slots}
use Rattle.line.specs.Line.{Symbol}
use Rattle.line.proofs.Symbols.{by_test}
use Rattle.station.specs.declared.Settings.{Settings}
use Rattle.station.specs.declared.Port.{Port}
use Rattle.station.specs.declared.State.{State}
use Rattle.station.specs.declared.Quanta.{Quanta}
use Rattle.station.specs.declared.Slots.{Slots}
use Rattle.station.specs.declared.Outcome.{Outcome}
use Rattle.station.specs.declared.Outcome.TheVariants.{Cut, BadPreamble, Undersized, Oversized, WrongFcs, WrongLength, Filtered, PauseTaken, PfcTaken}
use Rattle.station.specs.declared.Outcome.TheVariants.{ControlDropped, HandedOut}
use Rattle.flow.specs.Timers.{slots_of, quanta_at, timer, set_all, set_named, timers_after, lowered}
use Rattle.flow.proofs.TimerLaws.{length-lowered, length-timers_after}
use Rattle.receive.specs.Reading.{state_after}
use Rattle.writing.specs.declared.Client.{Client}
use Rattle.send.specs.Sending.{held, written, send_refusal, state_sent, send_checked, client_refusals, client_sending}
use Rattle.mac.specs.Demand1.{row_holds, NoneBefore}
use Rattle.mac.specs.Calls.{Call, after_call, after_calls, writes, all_written, Read, read_by, names, quanta_of_class, set_by, set_by_all, sets_class, latest, NoneSets}
use Rattle.mac.proofs.Demand1.{client_refuses}
use Rattle.mac.proofs.States.{after_reads, Does, by-reading, by_sending, does}

-- ---- one timer

lowered-timer : (n : ℕ) (ts : List Slots) (k : ℕ) → (timer (lowered n ts) k).0 ≡ (timer ts k).0 - n
unfolding timer lowered
lowered-timer n [] k = omega arith
lowered-timer n (t ∷ ts) zero = refl
lowered-timer n (t ∷ ts) (suc k) = lowered-timer n ts k

latest-append : (a b : List Quanta) (t : Slots) → latest (a ++ b) t ≡ latest b (latest a t)
unfolding latest
latest-append [] b t = refl
latest-append (q ∷ a) b t = latest-append a b (slots_of q)

all_set : (q : Quanta) (ts : List Slots) (k : ℕ) → k < length ts → timer (set_all q ts) k ≡ slots_of q
unfolding timer set_all
all_set q [] k h = absurd (not-suc-le-zero h)
all_set q (t ∷ ts) zero h = refl
all_set q (t ∷ ts) (suc k) h = all_set q ts k (le_of_suc-le-suc h)

named_set : (m : ℕ) (l : List ℕ) (ts : List Slots) (k : ℕ) → k < length ts
    → timer (set_named m l ts) k ≡ latest (cond (names m k) (quanta_of_class l k ∷ []) []) (timer ts k)
unfolding timer set_named names quanta_of_class latest
named_set m l [] k h = absurd (not-suc-le-zero h)
named_set m l (t ∷ ts) zero h = go (eqb (m % 2) 1)
  where
    go : (b : Bool) → cond b (slots_of (quanta_at l 0)) t ≡ latest (cond b (quanta_at l 0 ∷ []) []) t
    go true = refl
    go false = refl
named_set m l (t ∷ ts) (suc k) h = named_set (m / 2) (drop 2 l) ts k (le_of_suc-le-suc h)

outcome_sets : (o : Outcome) (f : List ℕ) (k : ℕ) (ts : List Slots) → k < length ts → timer (timers_after o f ts) k ≡ latest (set_by o f k) (timer ts k)
unfolding set_by timers_after latest
outcome_sets Cut f k ts h = refl
outcome_sets BadPreamble f k ts h = refl
outcome_sets Undersized f k ts h = refl
outcome_sets Oversized f k ts h = refl
outcome_sets WrongFcs f k ts h = refl
outcome_sets WrongLength f k ts h = refl
outcome_sets Filtered f k ts h = refl
outcome_sets PauseTaken f k ts h = all_set (quanta_at f 16) ts k h
outcome_sets PfcTaken f k ts h = named_set (get_or f 17 0) (drop 18 f) ts k h
outcome_sets ControlDropped f k ts h = refl
outcome_sets HandedOut f k ts h = refl

-- ---- frames read one after the other: as many timers as before, and that of class k set, if it is one of them

reads_keep : (st : State) (l : List Read) → length (after_reads st l).timers ≡ length st.timers
unfolding after_reads state_after
reads_keep st [] = refl
reads_keep st (r ∷ l) = reads_keep (state_after r.outcome r.frame st) l ∙ length-timers_after r.outcome r.frame st.timers

reads-set : (k : ℕ) (st : State) (l : List Read) → k < length st.timers → timer (after_reads st l).timers k ≡ latest (set_by_all k l) (timer st.timers k)
unfolding after_reads set_by_all
reads-set k st [] h = unfold latest in refl
reads-set k st (r ∷ l) h =
    let st' : State = state_after r.outcome r.frame st in
    let same : length st'.timers ≡ length st.timers = (unfold state_after in length-timers_after r.outcome r.frame st.timers) in
    let one : timer st'.timers k ≡ latest (set_by r.outcome r.frame k) (timer st.timers k)
    = (unfold state_after in outcome_sets r.outcome r.frame k st.timers h) in
    reads-set k st' l (omega arith)
    ∙ ap (latest (set_by_all k l)) one
    ∙ sym (latest-append (set_by r.outcome r.frame k) (set_by_all k l) (timer st.timers k))

-- ---- symbols sent

sent_lowers : (r : Checked) (st : State) (os ms : List ℕ) (p : ℕ) (new : List Symbol) (count k : ℕ)
    → (timer (send_checked r st os ms p new count).given.state.timers k).0 ≡ (timer st.timers k).0 - length (written r new)
unfolding send_checked state_sent written
sent_lowers (Err x) st os ms p new count k = omega arith
sent_lowers (Ok _) st os ms p new count k = lowered-timer (length new) st.timers k

sent-keeps : (r : Checked) (st : State) (os ms : List ℕ) (p : ℕ) (new : List Symbol) (count : ℕ)
    → length (send_checked r st os ms p new count).given.state.timers ≡ length st.timers
unfolding send_checked state_sent
sent-keeps (Err x) st os ms p new count = refl
sent-keeps (Ok _) st os ms p new count = length-lowered (length new) st.timers

-- ---- a call: what its readings set last, less the symbols that it writes

pub call_keeps : (st : State) (c : Call) → length (after_call st c).timers ≡ length st.timers
call_keeps st c = by (does st c)
  where
    by : Does st c → length (after_call st c).timers ≡ length st.timers
    by (by-reading t w e) = ap (λ (x : State). length x.timers) e ∙ reads_keep st (read_by st c)
    by (by_sending k os ms x t n f w e) = ap (λ (x : State). length x.timers) e ∙ sent-keeps k st os ms _ _ _

-- a call that sets a class writes no symbol
pub sets_or-writes : (st : State) (k : ℕ) (c : Call) → (sets_class k st c ≡ []) ⊎ (writes st c ≡ [])
unfolding sets_class set_by_all
sets_or-writes st k c = by (does st c)
  where
    by : Does st c → (set_by_all k (read_by st c) ≡ []) ⊎ (writes st c ≡ [])
    by (by-reading t w e) = inr w
    by (by_sending r os ms x t n f w e) = inl (ap (set_by_all k) n)

pub call_timer : (st : State) (k : ℕ) → k < length st.timers → (c : Call)
    → (timer (after_call st c).timers k).0 ≡ (latest (sets_class k st c) (timer st.timers k)).0 - length (writes st c)
unfolding sets_class set_by_all latest
call_timer st k h c = by (does st c)
  where
    by : Does st c → (timer (after_call st c).timers k).0 ≡ (latest (set_by_all k (read_by st c)) (timer st.timers k)).0 - length (writes st c)
    by (by-reading t w e) =
        let none = ap length w in
        let set = ap (λ (t : Slots). t.0) (reads-set k st (read_by st c) h) in
        ap (λ (x : State). (timer x.timers k).0) e ∙ omega arith
    by (by_sending r os ms x t n f w e) =
        ap (λ (x : State). (timer x.timers k).0) e
        ∙ sent_lowers r st os ms _ _ _ k
        ∙ ap₂ (λ (l : List Read) (x : List Symbol). (latest (set_by_all k l) (timer st.timers k)).0 - length x) (sym n) (sym w)

-- a call that does not set class k takes the symbols it writes off its timer; beyond the eight timers there is none, and 0 stays 0
pub call_lowers : (st : State) (k : ℕ) (c : Call) → sets_class k st c ≡ [] → (timer (after_call st c).timers k).0 ≡ (timer st.timers k).0 - length (writes st c)
call_lowers st k c h =
    by_test (ltb k (length st.timers))
    (λ e. call_timer st k (ltb-true k (length st.timers) e) c
    ∙ ap (λ (l : List Quanta). (latest l (timer st.timers k)).0 - length (writes st c)) h
    ∙ (unfold latest in refl))
    (λ e. let le : length st.timers ≤ k = ltb-false k (length st.timers) e in
    let same = call_keeps st c in
    let x = beyond st.timers le in
    let y = beyond (after_call st c).timers (omega arith) in
    omega arith)
  where
    beyond : (ts : List Slots) → length ts ≤ k → (timer ts k).0 ≡ 0
    beyond ts le = unfold timer in ap (λ (t : Slots). t.0) (get_or-eq_default ts (record { 0 = 0 }) {n = k} le)

-- over a sequence of calls none of which sets the class: by exactly the symbols that they write
pub timer_falls : (k : ℕ) (st : State) (cs : List Call) → NoneSets k st cs
    → (timer (after_calls st cs).timers k).0 ≡ (timer st.timers k).0 - length (all_written st cs)
unfolding after_calls all_written NoneSets
timer_falls k st [] w = omega arith
timer_falls k st (c ∷ cs) w =
    let ih = timer_falls k (after_call st c) cs w.1 in
    let l = call_lowers st k c w.0 in
    let n = length-append (writes st c) (all_written (after_call st c) cs) in
    omega arith

-- "Setting replaces the old time": a call leaves the last that it sets the class to. Only one that reads sets any, since `read_by` of the others is empty
pub timer-set : (st : State) (k : ℕ) → k < length st.timers → (c : Call) (before : List Quanta) (q : Quanta) → sets_class k st c ≡ before ++ (q ∷ [])
    → (timer (after_call st c).timers k).0 ≡ quantum_slots * q.0
timer-set st k h c before q e =
    ⊎_elim (λ none. absurd (not_empty before q (sym none ∙ e)))
    (λ none. let n = ap length none in
    let l = ap (λ (t : Slots). t.0) (ap (λ (qs : List Quanta). latest qs (timer st.timers k)) e ∙ latest-append before (q ∷ []) (timer st.timers k)) in
    let last : (latest (q ∷ []) (latest before (timer st.timers k))).0 ≡ quantum_slots * q.0 = (unfold latest in refl) in
    call_timer st k h c ∙ omega arith)
    (sets_or-writes st k c)
  where
    not_empty : (before : List Quanta) (q : Quanta) → [] ≡ before ++ (q ∷ []) → ⊥
    not_empty before q h = let z = ap length h in let n = length-append before (q ∷ []) in omega arith

-- ---- refusal 9

or-none : (b : Bool) → (b || false) ≡ b
or-none true = refl
or-none false = refl

module _ (s : Settings) (st : State) (port : Port) (os ms : List ℕ) (p : ℕ) (c : Client) (d : List ℕ) where
  row_9 : row_holds (client_refusals s st port os ms p c d) 9 ≡ held st c.class
  unfolding row_holds client_refusals
  row_9 = or-none (held st c.class)

  -- given exactly while the timer of its class is above zero and no refusal that is tested before it holds
  pub held-exactly : (send_refusal (client_sending s st port os ms p c d).given.answer ≡ 9)
      ↔ ((0 < (timer st.timers c.class).0) × NoneBefore (client_refusals s st port os ms p c d) (1 ∷ 2 ∷ 3 ∷ 19 ∷ 5 ∷ 6 ∷ 10 ∷ 7 ∷ 8 ∷ 9 ∷ []) 9)
  unfolding held
  held-exactly =
      let x = (client_refuses s st port os ms p c d).exactly.earliest 9 (lit< tt) in (
        λ e. (ltb-true 0 (timer st.timers c.class).0 (sym row_9 ∙ (x.0 e).0), (x.0 e).1),
        λ y. x.1 (row_9 ∙ lt-ltb 0 (timer st.timers c.class).0 y.0, y.1),
      )

  not-held : (timer st.timers c.class).0 ≡ 0 → send_refusal (client_sending s st port os ms p c d).given.answer ≡ 9 → ⊥
  not-held h e = let above = (held-exactly.0 e).0 in omega arith

-- "A client frame refused for its timer at t slots isn't refused for it once t more slots are written, if no reading has set that timer meanwhile."
-- t is its timer in the state `st` of the refusal; the later call may have any settings, port, buffers, place and data.
pub released : (st : State) (cs : List Call) (s : Settings) (port : Port) (os ms : List ℕ) (p : ℕ) (c : Client) (d : List ℕ) → NoneSets c.class st cs
    → (timer st.timers c.class).0 ≤ length (all_written st cs) → send_refusal (client_sending s (after_calls st cs) port os ms p c d).given.answer ≡ 9 → ⊥
released st cs s port os ms p c d w h = not-held s (after_calls st cs) port os ms p c d (let e = timer_falls c.class st cs w in omega arith)

-- "zero quanta lets the class go at once": after a call that sets it to them, and to nothing else behind
pub let_go : (st : State) (x : Call) (s : Settings) (port : Port) (os ms : List ℕ) (p : ℕ) (c : Client) (d : List ℕ) → c.class < length st.timers
    → (before : List Quanta) → sets_class c.class st x ≡ before ++ (record { 0 = 0 } ∷ [])
    → send_refusal (client_sending s (after_call st x) port os ms p c d).given.answer ≡ 9 → ⊥
let_go st x s port os ms p c d eight before h =
    not-held s (after_call st x) port os ms p c d (timer-set st c.class eight x before (record { 0 = 0 }) h)
