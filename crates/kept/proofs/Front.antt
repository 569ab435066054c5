-- What a rule says of a frame it says of the frame's first 46 octets: two addresses, eight tags and the real field. Assumes nothing.
use Rattle.std.specs.Prelude.{Option}
use Prim.Native.Nat.{ℕ, zero, suc, ◌+◌, ◌-◌, ◌*◌, ◌/◌, ◌%◌, ◌≤◌, ◌<◌}
use native.Mathlib.Omega.{arith}
use mathlib.Core.Path.{◌≡◌, refl, sym, ap, ap₂, ◌∙◌}
use mathlib.Core.Bool.{true, false, cond}
use mathlib.Core.List.{List, [], ◌∷◌}
use lib.ListN.{length, get_or, take, drop}
use lib.Seq.{get_or-take, take-take, drop-drop, take-nil, drop-nil}
use lib.Dec.{eqb, lit<, lit≤}
use Rattle.line.specs.Limits.{tag_size, most_tags}
use Rattle.line.specs.Octets.{high_first_at}
use Rattle.line.proofs.Octets.{high_first-drop}
use Rattle.station.specs.declared.Address.{Address}
use Rattle.station.specs.declared.Settings.{Settings}
use Rattle.station.specs.declared.Slots.{Slots}
use Rattle.station.specs.declared.Quanta.{Quanta}
use Rattle.station.specs.declared.Outcome.{Outcome}
use Rattle.station.specs.Numbers.{by_outcome}
use Rattle.fields.specs.Tags.{is_tag_kind, tag_run, tag_count}
use Rattle.fields.specs.Fields.{destination, first_field, field_place, field, data_place}
use Rattle.fields.proofs.Tags.{field_place-small}
use Rattle.control.specs.Control.{is_control_frame, opcode, to_reserved_group, to_own, takes_pause, takes_pfc, drops_control, frame_way, way_carried}
use Rattle.flow.specs.Timers.{slots_of, quanta_at, set_all, set_named, timers_after}
use Rattle.outcome.specs.Status.{kind_bits}
use Rattle.kept.specs.Kept.{later_outcomes}

-- ---- a number, and a run of tags

high_first-front : (n : ℕ) (l : List ℕ) (at : ℕ) → at + 1 < n → high_first_at (take n l) at ≡ high_first_at l at
unfolding high_first_at
high_first-front n l at h = rw (get_or-take n l at 0 (omega arith), get_or-take n l (at + 1) 0 h)

front-run : (most n at : ℕ) (f : List ℕ) → at + tag_size * most ≤ n → tag_run most (drop at (take n f)) ≡ tag_run most (drop at f)
unfolding tag_run
front-run zero n at f h = refl
front-run (suc most) n at f h =
    let here : high_first_at (drop at (take n f)) 0 ≡ high_first_at (drop at f) 0 =
    high_first-drop (take n f) at ∙ high_first-front n f at (omega arith) ∙ sym (high_first-drop f at) in
    let next : tag_run most (drop tag_size (drop at (take n f))) ≡ tag_run most (drop tag_size (drop at f)) =
    ap (tag_run most) (drop-drop tag_size at (take n f)) ∙ front-run most n (at + tag_size) f (omega arith) ∙ sym (ap (tag_run most) (drop-drop tag_size at f)) in
    ap₂ (λ (x : ℕ) (k : ℕ). elim (is_tag_kind x) [ true ↦ 1 + k | false ↦ 0 ]) here next

-- ---- timers: each class's quanta are two octets

pub drop-take : (m n : ℕ) (l : List ℕ) → drop m (take (m + n) l) ≡ take n (drop m l)
drop-take zero n l = ap (λ (k : ℕ). take k l) (let e : 0 + n ≡ n = omega arith in e)
drop-take (suc m) n [] = ap (drop (suc m)) (take-nil (suc m + n)) ∙ drop-nil (suc m) ∙ sym (ap (take n) (drop-nil (suc m)) ∙ take-nil n)
drop-take (suc m) n (x ∷ l) = let e : suc m + n ≡ suc (m + n) = omega arith in ap (λ (k : ℕ). drop (suc m) (take k (x ∷ l))) e ∙ drop-take m n l

quanta_front : (n : ℕ) (l : List ℕ) (at : ℕ) → at + 1 < n → quanta_at (take n l) at ≡ quanta_at l at
unfolding quanta_at
quanta_front n l at h = ap (λ (k : ℕ). record { 0 = k }) (high_first-front n l at h)

named_front : (n classes : ℕ) (quanta : List ℕ) (ts : List Slots) → 2 * length ts ≤ n → set_named classes (take n quanta) ts ≡ set_named classes quanta ts
unfolding set_named
named_front n classes quanta [] h = refl
named_front n classes quanta (t ∷ ts) h =
    let e : n ≡ 2 + (n - 2) = omega arith in
    ap₂ (λ (q : Quanta) (l : List Slots). cond (eqb (classes % 2) 1) (slots_of q) t ∷ l)
    (quanta_front n quanta 0 (omega arith))
    (ap (λ (k : ℕ). set_named (classes / 2) (drop 2 (take k quanta)) ts) e
    ∙ ap (λ (l : List ℕ). set_named (classes / 2) l ts) (drop-take 2 (n - 2) quanta)
    ∙ named_front (n - 2) (classes / 2) (drop 2 quanta) ts (omega arith))

-- ---- each definition, at the front of a frame
module _ (f : List ℕ) where
  abbrev front46 : List ℕ
  front46 = take 46 f

  pub front_tags : tag_count front46 ≡ tag_count f
  unfolding tag_count
  front_tags = front-run most_tags 46 12 f (lit≤ tt)

  pub front-field_place : field_place front46 ≡ field_place f
  unfolding field_place
  front-field_place = ap (λ (n : ℕ). 12 + tag_size * n) front_tags

  pub front-field : field front46 ≡ field f
  unfolding field
  front-field = ap (high_first_at front46) front-field_place ∙ high_first-front 46 f (field_place f) (omega (arith, field_place-small f))

  pub front-data_place : data_place front46 ≡ data_place f
  unfolding data_place
  front-data_place = ap (λ (n : ℕ). n + 2) front-field_place

  front-destination : destination front46 ≡ destination f
  unfolding destination
  front-destination = take-take 6 46 f (lit≤ tt)

  front-first : first_field front46 ≡ first_field f
  unfolding first_field
  front-first = high_first-front 46 f 12 (lit< tt)

  front-opcode : opcode front46 ≡ opcode f
  unfolding opcode
  front-opcode = high_first-front 46 f 14 (lit< tt)

  front_control : is_control_frame front46 ≡ is_control_frame f
  unfolding is_control_frame
  front_control = ap (λ (n : ℕ). eqb n 0x8808) front-first

  front-group : to_reserved_group front46 ≡ to_reserved_group f
  unfolding to_reserved_group
  front-group = rw front-destination

  front-own : (s : Settings) → to_own s front46 ≡ to_own s f
  unfolding to_own
  front-own s = rw front-destination

  front-way : (s : Settings) (own : List (Option Address)) → frame_way s own front46 ≡ frame_way s own f
  unfolding frame_way
  front-way s own = rw (front_control, front-group, front-destination)

  pub front_carried : (s : Settings) (own : List (Option Address)) (o : Outcome) → way_carried s own o front46 ≡ way_carried s own o f
  unfolding way_carried
  front_carried s own o = rw (front-way s own)

  front-pause : (s : Settings) → takes_pause s front46 ≡ takes_pause s f
  unfolding takes_pause
  front-pause s = rw (front_control, front-group, front-own s, front-opcode)

  front-pfc : (s : Settings) → takes_pfc s front46 ≡ takes_pfc s f
  unfolding takes_pfc
  front-pfc s = rw (front_control, front-group, front-opcode)

  front_drops : (s : Settings) → drops_control s front46 ≡ drops_control s f
  unfolding drops_control
  front_drops s = rw front_control

  pub front-later : (s : Settings) (own : List (Option Address)) → later_outcomes s own front46 ≡ later_outcomes s own f
  unfolding later_outcomes
  front-later s own = rw (front-way s own, front-pause s, front-pfc s, front_drops s)

  pub front-bits : (tags : ℕ) → kind_bits tags front46 ≡ kind_bits tags f
  unfolding kind_bits
  front-bits tags = rw (front-destination, front_control)

  front_named : (ts : List Slots) → length ts ≡ 8 → set_named (get_or front46 17 0) (drop 18 front46) ts ≡ set_named (get_or f 17 0) (drop 18 f) ts
  front_named ts h =
      ap₂ (λ (k : ℕ) (l : List ℕ). set_named k l ts) (get_or-take 46 f 17 0 (lit< tt)) (drop-take 18 28 f)
      ∙ named_front 28 (get_or f 17 0) (drop 18 f) ts (omega arith)

  pub front_timers : (o : Outcome) (ts : List Slots) → length ts ≡ 8 → timers_after o front46 ts ≡ timers_after o f ts
  unfolding timers_after
  front_timers o ts h =
      ap₂ (λ (a b : List Slots). by_outcome o ts a b ts ts) (ap (λ (q : Quanta). set_all q ts) (quanta_front 46 f 16 (lit< tt))) (front_named ts h)
