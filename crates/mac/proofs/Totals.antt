-- Claim 2, demand 1, of the calls with totals (document 02, item 9): each refuses by exactly the numbers of its list, the first that holds, and refused it
-- changes nothing. The statements are `counting_refuses`, over the four sending calls, `question_refuses` and `filling_refuses`. Assumes nothing.
use Rattle.std.specs.Prelude.{Err, Ok}
use Rattle.station.specs.Numbers.{Checked}
use Prim.Native.Nat.{ℕ}
use mathlib.Core.Path.{◌≡◌, refl}
use mathlib.Core.List.{List, [], ◌∷◌}
use Rattle.line.specs.Table.{first}
use Rattle.station.specs.declared.State.{State}
use Rattle.station.specs.Numbers.{checked_number}
use Rattle.send.specs.Sending.{client_refusals, control_refusals, idle_refusals}
use Rattle.totals.specs.Totals.{before_refusals, fill_refusals, before_checked, before_place, fill_checked, filled, count_refusal}
use Rattle.totals.proofs.Claims.{fill_refused-none}
use Rattle.counting.specs.Claims.{Lent, Sends, sends_client, sends_pause, sends_pfc, fills_idle, with_totals, refusals_of, all_refusals}
use Rattle.counting.proofs.Claims.{number-given, refused_none}
use Rattle.mac.specs.Demand1.{numbers_of}
use Rattle.mac.specs.Totals.{refuses_by, CountsOrRefuses, AnswersOrRefuses, FillsOrRefuses}
use Rattle.mac.proofs.Demand1.{is_in, repeats, Listed, exactly}

-- ---- the sending calls

counting-listed : (st : State) (l : Lent) (c : Sends) → Listed (all_refusals st l c) (refuses_by c)
unfolding all_refusals refusals_of refuses_by with_totals client_refusals control_refusals idle_refusals numbers_of repeats is_in
counting-listed st l (sends_client s port place c d) = (refl, refl)
counting-listed st l (sends_pause s port place q) = (refl, refl)
counting-listed st l (sends_pfc s port place k) = (refl, refl)
counting-listed st l (fills_idle place n) = (refl, refl)

-- "Refusals, after 3 and 19"; "A refused call changes none."
pub counting_refuses : (st : State) (l : Lent) (c : Sends) → CountsOrRefuses st l c
counting_refuses st l c = record { exactly = exactly (counting-listed st l c) (number-given st l c); refused = refused_none st l c }

-- ---- the question: 2, 3, 21, 22

question_number : (k : Checked) (os ms : List ℕ) (place : ℕ) (ts : List ℕ) → count_refusal (before_checked k os ms place ts) ≡ checked_number k
unfolding before_checked
question_number (Err x) os ms place ts = refl
question_number (Ok _) os ms place ts = refl

question_listed : (os ms : List ℕ) (place : ℕ) (ts : List ℕ) → Listed (before_refusals os ms place ts) (2 ∷ 3 ∷ 21 ∷ 22 ∷ [])
unfolding before_refusals numbers_of repeats is_in
question_listed os ms place ts = (refl, refl)

pub question_refuses : (os ms : List ℕ) (place : ℕ) (ts : List ℕ) → AnswersOrRefuses os ms place ts
unfolding before_place
question_refuses os ms place ts = exactly (question_listed os ms place ts) (question_number (first (before_refusals os ms place ts)) os ms place ts)

-- ---- "filling gives 2 and 21 only"

filling-number : (k : Checked) (os ms ts : List ℕ) → checked_number (fill_checked k os ms ts).given ≡ checked_number k
unfolding fill_checked
filling-number (Err x) os ms ts = refl
filling-number (Ok _) os ms ts = refl

filling-listed : (os ms ts : List ℕ) → Listed (fill_refusals os ms ts) (2 ∷ 21 ∷ [])
unfolding fill_refusals numbers_of repeats is_in
filling-listed os ms ts = (refl, refl)

pub filling_refuses : (os ms ts : List ℕ) → FillsOrRefuses os ms ts
unfolding filled
filling_refuses os ms ts =
    record {
      exactly = exactly (filling-listed os ms ts) (filling-number (first (fill_refusals os ms ts)) os ms ts);
      refused = fill_refused-none os ms ts;
    }
