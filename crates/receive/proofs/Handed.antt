-- "Client data is a part of the captured octets themselves": the part that a reading answers lies inside the captured octets, and its octets are
-- the client data by definition. The statement is `handed-part`. Assumes nothing.
use Rattle.std.proofs.Common.{◌≡◌, ℕ, zero, suc, ◌+◌, ◌-◌, ◌<◌, ◌≤◌, min, Bool, true, false, cond, ◌&&◌, ltb, leb, List, [], ◌∷◌, ◌++◌, length, take, drop, sym, refl, ap, ◌∙◌, subst, append_assoc, append-nil, arith, length-drop, take-append-drop, drop_of_length-le, length-take, drop-drop, le-leb, leb-false}
use lib.Seq.{take-append_seam, take-nil}
use borrow.Author.Tests.{lt-leb}
use Rattle.line.specs.Limits.{preamble_size, lead_size, fcs_size, least_data}
use Rattle.line.specs.Line.{Symbol, capture, is_data, run}
use Rattle.line.specs.Octets.{between}
use Rattle.line.proofs.Symbols.{by_test, run_data, run_control}
use Rattle.line.proofs.Buffers.{drop-capture}
use Rattle.fields.specs.Fields.{field, data_place}
use Rattle.frame.specs.Frame.{data_from, frame_data}
use Rattle.frame.specs.Length.{handed_of, client_data, handed_length}
use Rattle.station.specs.declared.Part.{Part}
use Rattle.outcome.specs.Outcomes.{frame_of}
use Rattle.receive.specs.Reading.{part_of}

-- x stands at the front of y
abbrev Front : List ℕ → List ℕ → Type 0
Front x y = (z : List ℕ) × (y ≡ x ++ z)

front-refl : (x : List ℕ) → Front x x
front-refl x = ([], sym (append-nil x))

front-take : (n : ℕ) (y : List ℕ) → Front (take n y) y
front-take n y = (drop n y, sym (take-append-drop n y))

front_trans : (x y w : List ℕ) → Front x y → Front y w → Front x w
front_trans x y w p q = (p.0 ++ q.0, q.1 ∙ ap (λ (l : List ℕ). l ++ q.0) p.1 ∙ append_assoc x p.0 q.0)

drop_split : (n : ℕ) (x z : List ℕ) → Front (drop n x) (drop n (x ++ z))
drop_split zero x z = (z, refl)
drop_split (suc n) [] z = (drop (suc n) z, refl)
drop_split (suc n) (a ∷ x) z = drop_split n x z

front-drop : (n : ℕ) (x y : List ℕ) → Front x y → Front (drop n x) (drop n y)
front-drop n x y p = subst (λ (l : List ℕ). Front (drop n x) (drop n l)) (sym p.1) (drop_split n x p.0)

-- a run stands at the front of the octets
run-front : (os ms : List ℕ) → Front (run (capture os ms)) os
unfolding capture run
run-front [] ms = ([], refl)
run-front (o ∷ os) [] = (o ∷ os, refl)
run-front (o ∷ os) (m ∷ ms) =
    let x : Symbol = record { octet = o; mark = m } in
    let ih = run-front os ms in
    by_test (is_data x)
    (λ h. (ih.0, ap (λ (l : List ℕ). o ∷ l) ih.1 ∙ ap (λ (l : List ℕ). l ++ ih.0) (sym (run_data x (capture os ms) h))))
    (λ h. (o ∷ os, ap (λ (l : List ℕ). l ++ (o ∷ os)) (sym (run_control x (capture os ms) h))))

client-front : (ck : Bool) (f : List ℕ) → Front (client_data ck f) (frame_data f)
unfolding client_data handed_of
client-front ck f = go (ck && ltb (field f) least_data)
  where
    go : (b : Bool) → Front (cond b (take (field f) (frame_data f)) (frame_data f)) (frame_data f)
    go true = front-take (field f) (frame_data f)
    go false = front-refl (frame_data f)

payload_front : (f : List ℕ) → Front (frame_data f) (drop (data_place f) f)
unfolding frame_data data_from between
payload_front f = front-take (length f - fcs_size - data_place f) (drop (data_place f) f)

-- a Start at place i of the capture, `f` the frame of its run
handed-is-client_data : (ck : Bool) (os ms : List ℕ) (i : ℕ)
    → let f : List ℕ = frame_of (run (drop (i + 1) (capture os ms))) in take (handed_length ck f) (drop (i + lead_size + data_place f) os) ≡ client_data ck f
unfolding frame_of handed_length
handed-is-client_data ck os ms i =
    let r : List ℕ = run (drop (i + 1) (capture os ms)) in
    let f : List ℕ = drop preamble_size r in
    let a : ℕ = data_place f in
    let fr : Front r (drop (i + 1) os) = subst (λ (l : List Symbol). Front (run l) (drop (i + 1) os)) (sym (drop-capture (i + 1) os ms)) (run-front (drop (i + 1) os) (drop (i + 1) ms)) in
    let all : Front (client_data ck f) (drop a (drop preamble_size (drop (i + 1) os))) =
    front_trans (client_data ck f) (frame_data f) (drop a (drop preamble_size (drop (i + 1) os))) (client-front ck f)
    (front_trans (frame_data f) (drop a f) (drop a (drop preamble_size (drop (i + 1) os))) (payload_front f)
    (front-drop a f (drop preamble_size (drop (i + 1) os)) (front-drop preamble_size r (drop (i + 1) os) fr))) in
    let eight : i + 1 + preamble_size + a ≡ i + lead_size + a = omega arith in
    let place : drop a (drop preamble_size (drop (i + 1) os)) ≡ drop (i + lead_size + a) os =
    ap (drop a) (drop-drop preamble_size (i + 1) os) ∙ drop-drop a (i + 1 + preamble_size) os ∙ ap (λ (n : ℕ). drop n os) eight in
    ap (take (length (client_data ck f))) (sym place ∙ all.1) ∙ take-append_seam (client_data ck f) all.0

-- a part that is no longer than what stands from its place on
pub part-inside : (os : List ℕ) (p : Part) → p.len ≤ length os - p.at → part_of os p ≡ take p.len (drop p.at os)
unfolding part_of
part-inside os p h =
    by_test (leb p.at (length os))
    (λ e. rw (e, le-leb p.len (length os - p.at) h))
    (λ e. rw e (sym (ap (take p.len) (drop_of_length-le os {i = p.at} (let g = leb-false p.at (length os) e in omega arith)) ∙ take-nil p.len)))

-- and one that begins beyond the end, or is longer than that
pub part_beyond : (os : List ℕ) (p : Part) → length os < p.at → part_of os p ≡ []
unfolding part_of
part_beyond os p h = rw (lt-leb p.at (length os) h)

pub part-long : (os : List ℕ) (p : Part) → p.at ≤ length os → length os - p.at < p.len → part_of os p ≡ []
unfolding part_of
part-long os p h g = rw (le-leb p.at (length os) h, lt-leb p.len (length os - p.at) g)

pub handed-part : (ck : Bool) (os ms : List ℕ) (i : ℕ)
    → let f : List ℕ = frame_of (run (drop (i + 1) (capture os ms))) in
    part_of os (record { at = i + lead_size + data_place f; len = handed_length ck f }) ≡ client_data ck f
unfolding handed_length
handed-part ck os ms i =
    let f : List ℕ = frame_of (run (drop (i + 1) (capture os ms))) in
    let at : ℕ = i + lead_size + data_place f in
    let n : ℕ = length (client_data ck f) in
    let e : take n (drop at os) ≡ client_data ck f = handed-is-client_data ck os ms i in
    let fits : min n (length (drop at os)) ≡ n = sym (length-take n (drop at os)) ∙ ap length e in
    part-inside os (record { at = at; len = n }) (let k = length-drop at os in omega arith) ∙ e
