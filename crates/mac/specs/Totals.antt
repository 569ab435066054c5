-- Demand 1 of the calls with totals (document 02, item 9): the numbers by which each can refuse, in the order in which they are tried. The theorems are
-- proofs/Totals.antt.
use Rattle.std.specs.Prelude.{ℕ, ◌<◌, ◌≡◌, List, [], ◌∷◌}
use Rattle.station.specs.declared.State.{State}
use Rattle.station.specs.Numbers.{checked_number}
use Rattle.send.specs.Sending.{send_refusal}
use Rattle.totals.specs.Totals.{before_refusals, fill_refusals, before_place, filled, count_refusal}
use Rattle.counting.specs.Claims.{Lent, Sends, sends_client, sends_pause, sends_pfc, fills_idle, place_of, counting_of, all_refusals, RefusedCall}
use Rattle.mac.specs.Demand1.{Exactly}

-- "Refusals, after 3 and 19": a client frame's; a pause or PFC frame's; Idle fill's
unfoldable pub refuses_by : Sends → List ℕ
refuses_by (sends_client s port place c d) = 1 ∷ 2 ∷ 3 ∷ 19 ∷ 21 ∷ 22 ∷ 5 ∷ 6 ∷ 10 ∷ 7 ∷ 8 ∷ 9 ∷ []
refuses_by (sends_pause s port place q) = 1 ∷ 2 ∷ 3 ∷ 19 ∷ 21 ∷ 22 ∷ 4 ∷ 8 ∷ []
refuses_by (sends_pfc s port place k) = 1 ∷ 2 ∷ 3 ∷ 19 ∷ 21 ∷ 22 ∷ 4 ∷ 8 ∷ []
refuses_by (fills_idle place n) = 2 ∷ 3 ∷ 21 ∷ 22 ∷ 8 ∷ []

-- a sending call, in a state, on a capture and its totals
pub record CountsOrRefuses (st : State) (l : Lent) (c : Sends) : Type 0 where
  pub exactly : Exactly (all_refusals st l c) (refuses_by c) (send_refusal (counting_of st l c).sent.given.answer)
  pub refused : 0 < send_refusal (counting_of st l c).sent.given.answer → RefusedCall st l (place_of c) (counting_of st l c)

-- the question, which changes nothing
abbrev pub AnswersOrRefuses : List ℕ → List ℕ → ℕ → List ℕ → Type 0
AnswersOrRefuses os ms place ts = Exactly (before_refusals os ms place ts) (2 ∷ 3 ∷ 21 ∷ 22 ∷ []) (count_refusal (before_place os ms place ts))

-- "filling gives 2 and 21 only"
pub record FillsOrRefuses (os ms ts : List ℕ) : Type 0 where
  pub exactly : Exactly (fill_refusals os ms ts) (2 ∷ 21 ∷ []) (checked_number (filled os ms ts).given)
  pub refused : 0 < checked_number (filled os ms ts).given → (filled os ms ts).totals ≡ ts
