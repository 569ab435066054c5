-- Document 02, item 5, the four-lane port. A frame that goes out on it starts and ends at multiples of four, and its gap, of 9 to 15 symbols, adds to the
-- deficit count what it is short of 12 (`frame_on_port`, and of its Starts alone `starts-aligned`); no other call changes the count (`only_this_port`).
-- Over any calls, refused ones and frames of the other port among them, the count is exactly what the gaps of this port are short of 12 each
-- (`deficit_is`), and from a count of 0, n gaps together lie between 12 × n - 3 and 12 × n (`gaps_between`). Assumes nothing.
use Rattle.std.specs.Prelude.{Err, Ok}
use Rattle.station.specs.Numbers.{Checked}
use Prim.Native.Nat.{ℕ, zero, suc, ◌+◌, ◌-◌, ◌*◌, ◌%◌, ◌≤◌}
use native.Mathlib.Omega.{arith}
use mathlib.Core.Path.{◌≡◌, refl, sym, ap, ◌∙◌, subst}
use mathlib.Core.Bool.{true, false, false≢true}
use mathlib.Core.List.{List, [], ◌∷◌, ◌++◌, map, append-nil}
use mathlib.Core.Logic.{◌⊎◌, inl, inr, ⊎_elim}
use lib.ListN.{length, replicate, length-append}
use Rattle.line.specs.Limits.{around_body, full_gap, most_deficit, lanes}
use Rattle.line.specs.Line.{Symbol, is_data, is_control, is_start, as_data, as_control, start, idle, preamble, MetStart, met_starts}
use Rattle.line.specs.Table.{first}
use Rattle.line.proofs.Symbols.{by_test, met_start}
use Rattle.line.proofs.Starts.{met_data}
use Rattle.fcs.specs.Fcs.{fcs}
use Rattle.station.specs.declared.Port.TheVariants.{Plain, FourLane}
use Rattle.station.specs.declared.Settings.{Settings}
use Rattle.station.specs.declared.State.{State}
use Rattle.station.specs.Station.{total}
use Rattle.receive.specs.Reading.{state_after}
use Rattle.writing.specs.Frames.{client_body, pause_body, pfc_body, gap, on_line}
use Rattle.writing.specs.Gaps.{gap_at, gap_on, symbols_on}
use Rattle.writing.proofs.GapLaws.{four_lane}
use Rattle.writing.proofs.Sizes.{line_size}
use Rattle.send.specs.Sending.{SendCall, written, state_sent, send_checked, client_checked}
use Rattle.send.proofs.Refusals.{divisible, deficit_to_3, Framed, passed, passed_control}
use Rattle.counting.specs.Claims.{Sends, sends_client, sends_pause, sends_pfc, fills_idle, place_of, sending_of, counting_of, symbols_asked, count_after, refusals_of}
use Rattle.counting.proofs.Claims.{sent-by, counted-sent, none-refused}
use Rattle.mac.specs.Demand2.{start_places}
use Rattle.mac.specs.Calls.{Call, reads, walks, keeps, takes, sends, counts, asks_such, after_call, after_calls, writes, Read, read_by}
use Rattle.mac.specs.Port.{on_four_lanes, on_port, writes_from, gap_size, gap_of_frame, gaps_of, all_gaps, GoesOut, OutOrNot, AllDivided, Between}
use Rattle.mac.proofs.Demand3.{gap-skipped}
use Rattle.mac.proofs.States.{after_reads, Does, by-reading, by_sending, does}

-- ---- the gap and the Start of a frame, by its symbols

data_no_gap : (os : List ℕ) (rest : List Symbol) → gap_size (map as_data os ++ rest) ≡ gap_size rest
unfolding gap_size is_control is_data is_start as_data
data_no_gap [] rest = refl
data_no_gap (o ∷ os) rest = let ih = data_no_gap os rest in omega arith

idles-counted : (n : ℕ) → gap_size (replicate n (as_control idle)) ≡ n
unfolding gap_size is_control is_data is_start as_control
idles-counted zero = refl
idles-counted (suc n) = let ih = idles-counted n in omega arith

line_gap : (idles : ℕ) (os : List ℕ) → gap_size (as_control start ∷ (map as_data os ++ gap idles)) ≡ 1 + idles
unfolding gap gap_size is_control is_data is_start as_control
line_gap idles os = let a = data_no_gap os (gap idles) in let b = idles-counted idles in omega arith

frame-gap : (idles : ℕ) (body : List ℕ) → gap_size (on_line idles body) ≡ 1 + idles
unfolding on_line
frame-gap idles body = line_gap idles (preamble ++ (body ++ fcs body))

pub none_in_gap : (idles at : ℕ) → met_starts at (gap idles) ≡ []
none_in_gap idles at = ap (met_starts at) (sym (append-nil (gap idles))) ∙ gap-skipped idles at [] ∙ (unfold met_starts in refl)

frame-starts : (place idles : ℕ) (body : List ℕ) → start_places (met_starts place (on_line idles body)) ≡ place ∷ []
unfolding on_line start_places
frame-starts place idles body =
    let os : List ℕ = preamble ++ (body ++ fcs body) in
    ap start_places (met_start place (as_control start) (map as_data os ++ gap idles) (unfold is_start is_control is_data as_control in refl))
    ∙ ap (λ (l : List MetStart). place ∷ start_places l) (met_data (place + 1) os (gap idles) ∙ none_in_gap idles (place + 1 + length os))

-- ---- a frame on this port

goes_out : (st : State) (n place : ℕ) (body : List ℕ) → place % lanes ≡ 0 → st.deficit ≤ most_deficit
    → GoesOut st place (symbols_on FourLane st.deficit place body) (state_sent st n (gap_on FourLane st.deficit place body).count)
unfolding symbols_on gap_on state_sent
goes_out st n place body aligned low =
    let at : ℕ = place + around_body + length body in
    let idles : ℕ = (gap_at FourLane at st.deficit).size - 1 in
    let k = four_lane at st.deficit in
    let least = k.least in
    let most = k.most low in
    let missing = k.missing in
    let size = frame-gap idles body in
    let whole = line_size idles body in
    let end : place + length (on_line idles body) ≡ at + (gap_at FourLane at st.deficit).size = omega arith in
    record {
      starts = frame-starts place idles body;
      aligned = aligned;
      ends = ap (λ (i : ℕ). i % lanes) end ∙ k.lands;
      count = low;
      next-count = k.small low;
      missing = omega arith;
      least = omega arith;
      most = omega arith;
    }

of_frame : {s : Settings} {count place : ℕ} {os ms body : List ℕ} → Framed s FourLane count os ms place body → (place % lanes ≡ 0) × (count ≤ most_deficit)
of_frame {s} {count} {place} {os} k = (divisible os place k.starts, deficit_to_3 count k.low)

-- of such a frame's call, once its table has answered
port-aligned : (st : State) (os ms : List ℕ) (c : Sends) → on_four_lanes c ≡ true → first (refusals_of st os ms c) ≡ Ok tt
    → (place_of c % lanes ≡ 0) × (st.deficit ≤ most_deficit)
unfolding on_four_lanes refusals_of client_checked
port-aligned st os ms (sends_client s Plain p c d) h = absurd (false≢true h)
port-aligned st os ms (sends_client s FourLane p c d) h = λ e. of_frame (passed s st FourLane os ms p c d e).framed
port-aligned st os ms (sends_pause s Plain p q) h = absurd (false≢true h)
port-aligned st os ms (sends_pause s FourLane p q) h = λ e. of_frame (passed_control s FourLane st.deficit os ms p _ (pause_body s q) e).1
port-aligned st os ms (sends_pfc s Plain p k) h = absurd (false≢true h)
port-aligned st os ms (sends_pfc s FourLane p k) h = λ e. of_frame (passed_control s FourLane st.deficit os ms p _ (pfc_body s k) e).1
port-aligned st os ms (fills_idle p n) h = absurd (false≢true h)

asked_out : (st : State) (n : ℕ) (c : Sends) → on_four_lanes c ≡ true → place_of c % lanes ≡ 0 → st.deficit ≤ most_deficit
    → GoesOut st (place_of c) (symbols_asked st c) (state_sent st n (count_after st c))
unfolding on_four_lanes symbols_asked count_after
asked_out st n (sends_client s Plain p c d) h = absurd (false≢true h)
asked_out st n (sends_client s FourLane p c d) h = goes_out st n p (client_body s c d)
asked_out st n (sends_pause s Plain p q) h = absurd (false≢true h)
asked_out st n (sends_pause s FourLane p q) h = goes_out st n p (pause_body s q)
asked_out st n (sends_pfc s Plain p k) h = absurd (false≢true h)
asked_out st n (sends_pfc s FourLane p k) h = goes_out st n p (pfc_body s k)
asked_out st n (fills_idle p m) h = absurd (false≢true h)

out_or-not : (k : Checked) (st : State) (os ms : List ℕ) (c : Sends) → on_four_lanes c ≡ true → (k ≡ Ok tt → (place_of c % lanes ≡ 0) × (st.deficit ≤ most_deficit))
    → (x : SendCall) → x ≡ send_checked k st os ms (place_of c) (symbols_asked st c) (count_after st c)
    → ((written k (symbols_asked st c) ≡ []) × (x.given.state ≡ st)) ⊎ GoesOut st (place_of c) (written k (symbols_asked st c)) x.given.state
unfolding send_checked written
out_or-not (Err y) st os ms c h f x e = inl (refl, ap (λ (z : SendCall). z.given.state) e)
out_or-not (Ok _) st os ms c h f x e =
    let w = f refl in
    inr (subst (λ (z : SendCall). GoesOut st (place_of c) (symbols_asked st c) z.given.state) (sym e) (asked_out st _ c h w.0 w.1))

pub frame_on_port : (st : State) (c : Call) → on_port c ≡ true → OutOrNot st c
unfolding on_port asks_such writes_from writes after_call
frame_on_port st (reads s job es os ms p) h = absurd (false≢true h)
frame_on_port st (walks s job es os ms) h = absurd (false≢true h)
frame_on_port st (keeps s job es os ms p l) h = absurd (false≢true h)
frame_on_port st (takes s job es at running run x) h = absurd (false≢true h)
frame_on_port st (sends os ms c) h = out_or-not _ st os ms c h (port-aligned st os ms c h) (sending_of st os ms c) (sent-by st os ms c)
frame_on_port st (counts l c) h =
    out_or-not _ st l.octets l.marks c h (λ e. port-aligned st l.octets l.marks c h (none-refused st l c e))
    (counting_of st l c).sent (counted-sent st l c)

-- "accepts Start only at places divisible by four"
pub starts-aligned : (st : State) (c : Call) → on_port c ≡ true → AllDivided (start_places (met_starts (writes_from c) (writes st c)))
unfolding AllDivided
starts-aligned st c h =
    ⊎_elim
    (λ w. rw w.0 (unfold met_starts start_places in tt))
    (λ g. rw g.starts (g.aligned, tt))
    (frame_on_port st c h)

-- ---- any other call

reads_keep : (st : State) (l : List Read) → (after_reads st l).deficit ≡ st.deficit
unfolding after_reads state_after
reads_keep st [] = refl
reads_keep st (r ∷ l) = reads_keep (state_after r.outcome r.frame st) l

-- a frame of the plain port, and Idle fill
asked_keeps : (st : State) (c : Sends) → on_four_lanes c ≡ false → count_after st c ≡ st.deficit
unfolding on_four_lanes count_after gap_on gap_at
asked_keeps st (sends_client s Plain p c d) h = refl
asked_keeps st (sends_client s FourLane p c d) h = absurd (false≢true (sym h))
asked_keeps st (sends_pause s Plain p q) h = refl
asked_keeps st (sends_pause s FourLane p q) h = absurd (false≢true (sym h))
asked_keeps st (sends_pfc s Plain p k) h = refl
asked_keeps st (sends_pfc s FourLane p k) h = absurd (false≢true (sym h))
asked_keeps st (fills_idle p n) h = refl

sent-keeps : (k : Checked) (st : State) (os ms : List ℕ) (p : ℕ) (new : List Symbol) (count : ℕ) → count ≡ st.deficit
    → (send_checked k st os ms p new count).given.state.deficit ≡ st.deficit
unfolding send_checked state_sent
sent-keeps (Err x) st os ms p new count e = refl
sent-keeps (Ok _) st os ms p new count e = e

-- "only frames sent on this port change it"
pub only_this_port : (st : State) (c : Call) → on_port c ≡ false → (after_call st c).deficit ≡ st.deficit
unfolding on_port
only_this_port st c h = by (does st c)
  where
    by : Does st c → (after_call st c).deficit ≡ st.deficit
    by (by-reading t w e) = ap (λ (x : State). x.deficit) e ∙ reads_keep st (read_by st c)
    by (by_sending k os ms x t n f w e) =
        ap (λ (y : State). y.deficit) e ∙ sent-keeps k st os ms (place_of x) (symbols_asked st x) (count_after st x) (asked_keeps st x (sym (t on_four_lanes) ∙ h))

-- ---- any sequence of calls

one-gap : (new : List Symbol) → full_gap - most_deficit ≤ gap_size new → gap_of_frame new ≡ gap_size new ∷ []
unfolding gap_size gap_of_frame
one-gap [] h = absurd (omega arith)
one-gap (x ∷ l) h = refl

-- what one call's gaps, n of them, come to, with the count before and after it
abbrev Missing : List ℕ → ℕ → ℕ → Type 0
Missing gaps count after = (total gaps + after ≡ full_gap * length gaps + count) × (count ≤ most_deficit → after ≤ most_deficit)

call_missing : (st : State) (c : Call) → Missing (gaps_of st c) st.deficit (after_call st c).deficit
unfolding gaps_of total
call_missing st c =
    by_test (on_port c)
    (λ h. ⊎_elim
    (λ w. rw (h, w.0, w.1) (unfold gap_of_frame in (omega arith, λ k. k)))
    (λ g. let e = g.missing in rw (h, one-gap (writes st c) g.least) (omega arith, λ k. g.next-count))
    (frame_on_port st c h))
    (λ h. rw (h, only_this_port st c h) (omega arith, λ k. k))

total-append : (a b : List ℕ) → total (a ++ b) ≡ total a + total b
unfolding total
total-append [] b = omega arith
total-append (x ∷ a) b = let ih = total-append a b in omega arith

all_missing : (st : State) (cs : List Call) → Missing (all_gaps st cs) st.deficit (after_calls st cs).deficit
unfolding all_gaps after_calls
all_missing st [] = (unfold total in omega arith, λ k. k)
all_missing st (c ∷ cs) =
    let one = call_missing st c in
    let rest = all_missing (after_call st c) cs in
    let a = one.0 in
    let b = rest.0 in
    let t = total-append (gaps_of st c) (all_gaps (after_call st c) cs) in
    let n = length-append (gaps_of st c) (all_gaps (after_call st c) cs) in
    (omega arith, λ k. rest.1 (one.1 k))

-- "the count is exactly what is missing": from any count on
pub deficit_is : (st : State) (cs : List Call) → total (all_gaps st cs) + (after_calls st cs).deficit ≡ full_gap * length (all_gaps st cs) + st.deficit
deficit_is st cs = (all_missing st cs).0

pub gaps_between : (st : State) (cs : List Call) → st.deficit ≡ 0 → Between (length (all_gaps st cs)) (total (all_gaps st cs)) (after_calls st cs).deficit
gaps_between st cs zeroed =
    let m = deficit_is st cs in
    let low = (all_missing st cs).1 (omega arith) in
    record { least = omega arith; most = omega arith; missing = omega arith }
