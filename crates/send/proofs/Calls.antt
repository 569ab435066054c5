-- A sending call, once its table has answered: refused, or written. Assumes nothing.
use Rattle.std.specs.Prelude.{Err, Ok}
use Rattle.station.specs.Numbers.{Checked}
use Prim.Native.Nat.{ℕ, ◌+◌, ◌-◌, ◌≤◌}
use native.Mathlib.Omega.{arith}
use mathlib.Core.Path.{◌≡◌, sym, ap, ap₂, ◌∙◌, subst}
use mathlib.Core.List.{List}
use lib.ListN.{length}
use Rattle.line.specs.Limits.{around_body}
use Rattle.line.specs.Line.{Symbol}
use Rattle.station.specs.declared.Port.{Port}
use Rattle.station.specs.declared.State.{State}
use Rattle.station.specs.declared.Refusal.{Refusal}
use Rattle.writing.specs.declared.Gap.{Gap}
use Rattle.writing.specs.Frames.{on_line}
use Rattle.writing.specs.Gaps.{gap_on, symbols_on}
use Rattle.writing.specs.Pieces.{Laid}
use Rattle.writing.proofs.GapLaws.{some-gap}
use Rattle.send.specs.declared.Sending.{Sending}
use Rattle.send.specs.Sending.{send_call, state_sent, refused_at, wrote_up_to, send_checked, frame_sending}

module _ (k : Checked) (st : State) (os ms : List ℕ) (place : ℕ) (new : List Symbol) (count : ℕ) where
  pub call_refused : {r : Sending} (x : Refusal) → k ≡ Err x → r ≡ refused_at x place st → send_call r os ms ≡ send_checked k st os ms place new count
  unfolding send_checked
  call_refused x h e = ap (λ (q : Sending). send_call q os ms) e ∙ sym (ap (λ (q : Checked). send_checked q st os ms place new count) h)

  pub call_wrote : {next : ℕ} {os' ms' : List ℕ} {r : Sending} → k ≡ Ok tt → Laid os ms place new next os' ms'
      → r ≡ wrote_up_to next (state_sent st (next - place) count) → send_call r os' ms' ≡ send_checked k st os ms place new count
  unfolding send_checked
  call_wrote {next} {os'} {ms'} h l e =
      let n : next - place ≡ length new = (let g = l.goes in omega arith) in
      ap (λ (q : Sending). send_call q os' ms') (e ∙ ap₂ wrote_up_to l.goes (ap (λ (m : ℕ). state_sent st m count) n))
      ∙ ap₂ (λ (a b : List ℕ). send_call (wrote_up_to (place + length new) (state_sent st (length new) count)) a b) l.octets l.marks
      ∙ sym (ap (λ (q : Checked). send_checked q st os ms place new count) h)

-- a frame on a port, of what its FCS covers: `g` is the gap that was reckoned
module _ (k : Checked) (st : State) (port : Port) (os ms : List ℕ) (place : ℕ) (body : List ℕ) where
  pub frame_refused : {r : Sending} (x : Refusal) → k ≡ Err x → r ≡ refused_at x place st → send_call r os ms ≡ frame_sending k st port os ms place body
  unfolding frame_sending
  frame_refused x h e = call_refused k st os ms place _ _ x h e

  pub frame-wrote : {next : ℕ} {os' ms' : List ℕ} {r : Sending} (g : Gap) → g ≡ gap_on port st.deficit place body → k ≡ Ok tt
      → Laid os ms place (on_line (g.size - 1) body) next os' ms' → r ≡ wrote_up_to next (state_sent st (next - place) g.count)
      → send_call r os' ms' ≡ frame_sending k st port os ms place body
  unfolding frame_sending symbols_on
  frame-wrote g same h l e =
      call_wrote k st os ms place (on_line (g.size - 1) body) g.count h l e
      ∙ ap (λ (x : Gap). send_checked k st os ms place (on_line (x.size - 1) body) x.count) same

-- such a gap has its Terminate
pub has-terminate : (port : Port) (count place : ℕ) (body : List ℕ) {g : Gap} → g ≡ gap_on port count place body → 1 ≤ g.size
unfolding gap_on
has-terminate port count place body e =
    let k = some-gap port (place + around_body + length body) count in
    let same = ap (λ (x : Gap). x.size) e in
    omega arith

-- the room of the frame's symbols is that of the symbols with this gap
pub room_with : (port : Port) (count place : ℕ) (body : List ℕ) {n : ℕ} {g : Gap} → g ≡ gap_on port count place body
    → place + length (symbols_on port count place body) ≤ n → place + length (on_line (g.size - 1) body) ≤ n
unfolding symbols_on
room_with port count place body {n} e h = subst (λ (x : Gap). place + length (on_line (x.size - 1) body) ≤ n) (sym e) h
