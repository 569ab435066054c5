-- Records side by side from the front of a log on, and zero octets behind them: what is cut of it, read of it and written over it; a log that is
-- compacted, and one with room. Assumes nothing.
use Prim.Native.Nat.{ℕ, zero, suc, ◌+◌, ◌-◌, ◌*◌, ◌/◌, ◌≤◌, ◌<◌}
use native.Mathlib.Omega.{arith}
use native.Mathlib.Nat.{lt_of_not-le}
use mathlib.Core.Path.{◌≡◌, refl, sym, ap, ap₂, ◌∙◌}
use mathlib.Core.Bool.{Bool, true, false, ◌&&◌, ◌||◌, false≢true}
use mathlib.Core.List.{List, [], ◌∷◌, ◌++◌, map, append_assoc, append-nil}
use lib.ListN.{length, take, drop, replicate, length-append, length-drop, length-replicate, replicate-append-replicate, take-append-drop}
use lib.Seq.{take_at, drop_at, drop-append-add, length-take-le}
use lib.Dec.{eqb, ltb}
use borrow.Author.Tests.{eqb-true, eqb-false}
use Rattle.std.specs.Prelude.{Ok}
use Rattle.line.specs.Limits.{record_size}
use Rattle.line.specs.Line.{overwrite}
use Rattle.line.proofs.Symbols.{by_test}
use Rattle.reading_log.specs.declared.Record.{Record}
use Rattle.reading_log.specs.Log.{octets_of_record, record_of, is_used, counts, slots_in, slots, all_used, used_ones, used_count, remaining, up_to_last, extent}
use Rattle.reading_log.specs.Log.{joined, at_front, compacted, roomy, Logging, logging, appending}
use Rattle.reading_log.specs.Claims.{filled, Fits, AllFit, IsMultiple}
use Rattle.reading_log.proofs.Records.{length_record, record_back, counts_so, used-counts}
use Rattle.reading_log.proofs.Used.{used-none, used_keep, used_skip, used-append, all_kept, kept_all, used-full, last_on, last_off}
use Rattle.reading_log.proofs.Searches.{length-slots, extent-le, count-le}
use Rattle.reading_log.proofs.Calls.{good_log, roomy-compacts, roomy_stays, append-room}
use Rattle.reading_log.proofs.Written.{length-written, used-written}

-- ---- records of 16 octets each, side by side

unfoldable pub Whole : List (List ℕ) → Type 0
Whole [] = Unit {0}
Whole (s ∷ ss) = (length s ≡ record_size) × Whole ss

pub whole_used : (ss : List (List ℕ)) → Whole ss → Whole (used_ones ss)
unfolding Whole
whole_used [] w = rw used-none tt
whole_used (s ∷ ss) w =
    by_test (is_used s) (λ u. rw (used_keep s ss u) (w.0, whole_used ss w.1)) (λ u. rw (used_skip s ss u) (whole_used ss w.1))

whole_in : (n : ℕ) (l : List ℕ) → record_size * n ≤ length l → Whole (slots_in n l)
unfolding Whole slots_in
whole_in zero l h = tt
whole_in (suc n) l h = (length-take-le record_size l (omega arith), whole_in n (drop record_size l) (let d = length-drop record_size l in omega arith))

pub whole_slots : (l : List ℕ) → IsMultiple l → Whole (slots l)
unfolding slots
whole_slots l good = whole_in (length l / record_size) l (omega arith)

pub length-joined : (ss : List (List ℕ)) → Whole ss → length (joined ss) ≡ record_size * length ss
unfolding joined Whole
length-joined [] w = refl
length-joined (s ∷ ss) w = length-append s (joined ss) ∙ (let h = length-joined ss w.1 in let g = w.0 in omega arith)

joined-append : (ss ts : List (List ℕ)) → joined (ss ++ ts) ≡ joined ss ++ joined ts
unfolding joined
joined-append [] ts = refl
joined-append (s ∷ ss) ts = ap (λ (l : List ℕ). s ++ l) (joined-append ss ts) ∙ sym (append_assoc s (joined ss) (joined ts))

-- the records of a log, side by side, are the log
joined_in : (n : ℕ) (l : List ℕ) → length l ≡ record_size * n → joined (slots_in n l) ≡ l
unfolding joined slots_in
joined_in zero [] h = refl
joined_in zero (x ∷ l) h = absurd (let z : ⊥ = omega arith in z)
joined_in (suc n) l h =
    ap (λ (x : List ℕ). take record_size l ++ x) (joined_in n (drop record_size l) (let d = length-drop record_size l in omega arith))
    ∙ take-append-drop record_size l

pub joined-slots : (l : List ℕ) → IsMultiple l → joined (slots l) ≡ l
unfolding slots
joined-slots l good = joined_in (length l / record_size) l (omega arith)

-- ---- and zero octets behind them

abbrev zeros : ℕ → List ℕ
zeros m = replicate (record_size * m) 0

abbrev zero_slot : List ℕ
zero_slot = replicate record_size 0

one_more_zero : (m : ℕ) → zeros (suc m) ≡ zero_slot ++ zeros m
one_more_zero m =
    ap (λ (k : ℕ). replicate k 0) (let e : record_size * suc m ≡ record_size + record_size * m = omega arith in e)
    ∙ sym (replicate-append-replicate record_size (record_size * m) 0)

-- what is cut of them
slots-zeros : (m : ℕ) → slots_in m (zeros m) ≡ replicate m zero_slot
unfolding slots_in
slots-zeros zero = refl
slots-zeros (suc m) =
    let e = one_more_zero m in
    ap₂ (λ (a : List ℕ) (b : List (List ℕ)). a ∷ b) (ap (take record_size) e ∙ take_at zero_slot (zeros m) record_size refl)
    (ap (λ (k : List ℕ). slots_in m (drop record_size k)) e ∙ ap (slots_in m) (drop_at zero_slot (zeros m) record_size refl) ∙ slots-zeros m)

slots-joined : (ss : List (List ℕ)) (m : ℕ) → Whole ss → slots_in (length ss + m) (joined ss ++ zeros m) ≡ ss ++ replicate m zero_slot
unfolding slots_in joined Whole
slots-joined [] m w = let e : 0 + m ≡ m = omega arith in rw e (slots-zeros m)
slots-joined (s ∷ ss) m w =
    let t : List ℕ = joined ss ++ zeros m in
    ap₂ slots_in (let e : suc (length ss) + m ≡ suc (length ss + m) = omega arith in e) (append_assoc s (joined ss) (zeros m))
    ∙ ap₂ (λ (x : List ℕ) (y : List (List ℕ)). x ∷ y) (take_at s t record_size w.0)
    (ap (slots_in (length ss + m)) (drop_at s t record_size w.0) ∙ slots-joined ss m w.1)

module _ (n : ℕ) (ss : List (List ℕ)) (whole : Whole ss) (small : length ss ≤ n) where
  pub length_front : length (at_front n ss) ≡ record_size * n
  unfolding at_front
  length_front =
      length-append (joined ss) (zeros (n - length ss)) ∙ ap₂ ◌+◌ (length-joined ss whole) (length-replicate (record_size * (n - length ss)) 0) ∙ omega arith

  slots-front : slots (at_front n ss) ≡ ss ++ replicate (n - length ss) zero_slot
  unfolding slots at_front
  slots-front =
      let l : List ℕ = joined ss ++ zeros (n - length ss) in
      let k : length l ≡ record_size * n = (unfold at_front in length_front) in
      ap (λ (i : ℕ). slots_in i l) (let d : length l / record_size ≡ length ss + (n - length ss) = omega arith in d) ∙ slots-joined ss (n - length ss) whole

-- records side by side and nothing behind them
pub slots_side : (ss : List (List ℕ)) → Whole ss → slots (joined ss) ≡ ss
unfolding at_front
slots_side ss w =
    let e : length ss - length ss ≡ 0 = omega arith in
    let a : joined ss ++ zeros (length ss - length ss) ≡ joined ss = ap (λ (m : ℕ). joined ss ++ zeros m) e ∙ append-nil (joined ss) in
    ap slots (sym a)
    ∙ slots-front (length ss) ss w (omega arith)
    ∙ ap (λ (m : ℕ). ss ++ replicate m zero_slot) e
    ∙ append-nil ss

-- those that remain and the last of them: the records at the front, if all of these are used
used-zeros : (m : ℕ) → used_ones (replicate m zero_slot) ≡ []
unfolding used_ones is_used
used-zeros zero = refl
used-zeros (suc m) = used-zeros m

last-zeros : (m : ℕ) → up_to_last (replicate m zero_slot) ≡ 0
unfolding up_to_last is_used
last-zeros zero = refl
last-zeros (suc m) = last_off zero_slot (replicate m zero_slot) refl (last-zeros m)

last-front : (ss : List (List ℕ)) (m : ℕ) → all_used ss ≡ true → up_to_last (ss ++ replicate m zero_slot) ≡ length ss
unfolding all_used
last-front [] m u = last-zeros m
last-front (s ∷ ss) m u =
    let zs = replicate m zero_slot in
    by_test (is_used s)
    (λ t. last_on s (ss ++ zs) (ap (λ (b : Bool). b || ltb 0 (up_to_last (ss ++ zs))) t) ∙ ap suc (last-front ss m (rw t at u)))
    (λ t. absurd (false≢true (rw t at u)))

module _ (n : ℕ) (ss : List (List ℕ)) (whole : Whole ss) (small : length ss ≤ n) (all : all_used ss ≡ true) where
  pub used-front : used_ones (slots (at_front n ss)) ≡ ss
  used-front =
      ap used_ones (slots-front n ss whole small)
      ∙ used-append ss (replicate (n - length ss) zero_slot)
      ∙ ap₂ ◌++◌ (all_kept ss all) (used-zeros (n - length ss))
      ∙ append-nil ss

  pub extent-front : extent (at_front n ss) ≡ length ss
  unfolding extent
  extent-front = ap up_to_last (slots-front n ss whole small) ∙ last-front ss (n - length ss) all

-- one record more, right behind them
pub write_front : (n : ℕ) (ss : List (List ℕ)) (s : List ℕ) → Whole ss → length s ≡ record_size → length ss < n
    → overwrite (at_front n ss) (record_size * length ss) s ≡ at_front n (ss ++ (s ∷ []))
unfolding overwrite at_front
write_front n ss s w sl h =
    let j = joined ss in
    let z = zeros (n - length ss) in
    let m : ℕ = n - length (ss ++ (s ∷ [])) in
    let ll : length (ss ++ (s ∷ [])) ≡ length ss + 1 = length-append ss (s ∷ []) in
    let jl : length j ≡ record_size * length ss = length-joined ss w in
    let more : z ≡ zero_slot ++ zeros m = ap zeros (let g : n - length ss ≡ suc m = omega arith in g) ∙ one_more_zero m in
    let a : take (record_size * length ss) (j ++ z) ≡ j = take_at j z (record_size * length ss) jl in
    let b : drop (record_size * length ss + length s) (j ++ z) ≡ zeros m
    = ap (λ (k : ℕ). drop k (j ++ z)) (let g : record_size * length ss + length s ≡ length j + record_size = omega arith in g)
    ∙ drop-append-add j z record_size
    ∙ ap (drop record_size) more
    ∙ drop_at zero_slot (zeros m) record_size refl in
    ap₂ (λ (x y : List ℕ). x ++ s ++ y) a b
    ∙ ap (λ (x : List ℕ). x ++ zeros m) (sym (joined-append ss (s ∷ []) ∙ ap (λ (x : List ℕ). j ++ x) (unfold joined in append-nil s)))

-- ---- records that were appended

-- each has an outcome other than 0
unfoldable pub AllCount : List Record → Type 0
AllCount [] = Unit {0}
AllCount (r ∷ rs) = (counts r ≡ true) × AllCount rs

abbrev pub octets_of : List Record → List (List ℕ)
octets_of rs = map octets_of_record rs

octets-append : (rs ts : List Record) → octets_of (rs ++ ts) ≡ octets_of rs ++ octets_of ts
octets-append [] ts = refl
octets-append (r ∷ rs) ts = ap (λ (x : List (List ℕ)). octets_of_record r ∷ x) (octets-append rs ts)

length-octets : (rs : List Record) → length (octets_of rs) ≡ length rs
length-octets [] = refl
length-octets (r ∷ rs) = ap suc (length-octets rs)

whole_octets : (rs : List Record) → Whole (octets_of rs)
unfolding Whole
whole_octets [] = tt
whole_octets (r ∷ rs) = (length_record r, whole_octets rs)

used-octets : (rs : List Record) → AllFit rs → AllCount rs → all_used (octets_of rs) ≡ true
unfolding all_used AllFit AllCount
used-octets [] f c = refl
used-octets (r ∷ rs) f c = ap₂ ◌&&◌ (used-counts r f.0 ∙ c.0) (used-octets rs f.1 c.1)

pub back_all : (rs : List Record) → AllFit rs → map record_of (octets_of rs) ≡ rs
unfolding AllFit
back_all [] f = refl
back_all (r ∷ rs) f = ap₂ (λ (x : Record) (xs : List Record). x ∷ xs) (record_back r f.0) (back_all rs f.1)

module _ (n : ℕ) (rs : List Record) (small : length rs ≤ n) where
  small' : length (octets_of rs) ≤ n
  small' = let e = length-octets rs in omega arith

  pub length-filled : length (filled n rs) ≡ record_size * n
  unfolding filled
  length-filled = length_front n (octets_of rs) (whole_octets rs) small'

  pub filled_multiple : IsMultiple (filled n rs)
  filled_multiple = let l = length-filled in omega arith

  module _ (fit : AllFit rs) (count : AllCount rs) where
    pub used-filled : used_ones (slots (filled n rs)) ≡ octets_of rs
    unfolding filled
    used-filled = used-front n (octets_of rs) (whole_octets rs) small' (used-octets rs fit count)

    pub extent-filled : extent (filled n rs) ≡ length rs
    unfolding filled
    extent-filled = extent-front n (octets_of rs) (whole_octets rs) small' (used-octets rs fit count) ∙ length-octets rs

    pub count-filled : used_count (filled n rs) ≡ length rs
    unfolding used_count
    count-filled = ap length used-filled ∙ length-octets rs

    pub remaining-filled : remaining (filled n rs) ≡ rs
    unfolding remaining
    remaining-filled = ap (map record_of) used-filled ∙ back_all rs fit

pub write_filled : (n : ℕ) (rs : List Record) (r : Record) → length rs < n
    → overwrite (filled n rs) (record_size * length rs) (octets_of_record r) ≡ filled n (rs ++ (r ∷ []))
unfolding filled
write_filled n rs r h =
    let e = length-octets rs in
    ap (λ (k : ℕ). overwrite (at_front n (octets_of rs)) (record_size * k) (octets_of_record r)) (sym e)
    ∙ write_front n (octets_of rs) (octets_of_record r) (whole_octets rs) (length_record r) (omega arith)
    ∙ ap (at_front n) (sym (octets-append rs (r ∷ [])))

-- ---- a log that is compacted, and one with room behind its last used record

module _ (l : List ℕ) (good : IsMultiple l) where
  abbrev n : ℕ
  n = length l / record_size

  abbrev us : List (List ℕ)
  us = used_ones (slots l)

  whole_us : Whole us
  whole_us = whole_used (slots l) (whole_slots l good)

  us-small : length us ≤ n
  unfolding used_count
  us-small = count-le l

  pub length-compacted : length (compacted l) ≡ length l
  unfolding compacted
  length-compacted = length_front n us whole_us us-small ∙ omega arith

  pub used-compacted : used_ones (slots (compacted l)) ≡ us
  unfolding compacted
  used-compacted = used-front n us whole_us us-small (kept_all (slots l))

  pub extent-compacted : extent (compacted l) ≡ used_count l
  unfolding compacted used_count
  extent-compacted = extent-front n us whole_us us-small (kept_all (slots l))

  -- every record is used: compaction leaves the log as it is
  compacted-full : all_used (slots l) ≡ true → compacted l ≡ l
  unfolding compacted at_front
  compacted-full u =
      ap (λ (ss : List (List ℕ)). joined ss ++ zeros (n - length ss)) (all_kept (slots l) u)
      ∙ ap (λ (i : ℕ). joined (slots l) ++ zeros i) (let m = length-slots l in let e : n - length (slots l) ≡ 0 = omega arith in e)
      ∙ append-nil (joined (slots l))
      ∙ joined-slots l good

  full-extent : all_used (slots l) ≡ true → extent l ≡ n
  unfolding extent
  full-extent u = ap up_to_last (sym (append-nil (slots l))) ∙ last-front (slots l) 0 u ∙ length-slots l

  pub full-count : used_count l ≡ n → all_used (slots l) ≡ true
  unfolding used_count
  full-count h = used-full (slots l) (h ∙ sym (length-slots l))

  -- what holds of both a log that is compacted and of one that stays holds of the one with room
  by-room : (P : List ℕ → Type 0) → (extent l ≡ n → P (compacted l)) → ((extent l ≡ n → ⊥) → P l) → P (roomy l)
  by-room P c s =
      by_test (eqb (extent l) n)
      (λ t. let e = eqb-true (extent l) n t in rw (roomy-compacts l e) (c e))
      (λ t. let e = eqb-false (extent l) n t in rw (roomy_stays l e) (s e))

  pub length-roomy : length (roomy l) ≡ length l
  length-roomy = by-room (λ (m : List ℕ). length m ≡ length l) (λ _. length-compacted) (λ _. refl)

  used-roomy : used_ones (slots (roomy l)) ≡ us
  used-roomy = by-room (λ (m : List ℕ). used_ones (slots m) ≡ us) (λ _. used-compacted) (λ _. refl)

  -- no room: every record is used, and the log is as it was
  pub room-full : extent (roomy l) ≡ n → (roomy l ≡ l) × (all_used (slots l) ≡ true)
  room-full =
      by-room (λ (m : List ℕ). extent m ≡ n → (m ≡ l) × (all_used (slots l) ≡ true))
      (λ _ h. let u = full-count (sym extent-compacted ∙ h) in (compacted-full u, u))
      (λ ne h. absurd (ne h))

  pub full-room : all_used (slots l) ≡ true → (roomy l ≡ l) × (extent (roomy l) ≡ n)
  full-room u = let e : roomy l ≡ l = roomy-compacts l (full-extent u) ∙ compacted-full u in (e, ap extent e ∙ full-extent u)

  -- room: some record is unused
  room-some : (extent (roomy l) ≡ n → ⊥) → all_used (slots l) ≡ false
  room-some h = by_test (all_used (slots l)) (λ u. absurd (h (full-room u).1)) (λ u. u)

  -- a slot is left
  pub room-left : (k : ℕ) → k ≡ extent (roomy l) → (k ≡ n → ⊥) → k < n
  room-left k e h =
      let a = extent-le (roomy l) in
      let d : length (roomy l) / record_size ≡ n = ap (λ (i : ℕ). i / record_size) length-roomy in
      lt_of_not-le (λ g. h (omega arith))

  pub some-room : all_used (slots l) ≡ false → extent (roomy l) < n
  some-room u = room-left _ refl (λ e. false≢true (sym u ∙ (room-full e).1))

  -- a free slot behind the last used record: the log stays
  pub behind-room : extent l < n → roomy l ≡ l
  behind-room h = roomy_stays l (λ e. let z : ⊥ = omega arith in z)

  -- ---- appending, where there is room

  module _ (r : Record) (some : r.outcome ≡ 0 → ⊥) where
    pub append-roomy : (k : ℕ) → k ≡ extent (roomy l) → k < n → appending l r ≡ logging (Ok tt) (overwrite (roomy l) (record_size * k) (octets_of_record r))
    append-roomy k e h =
        append-room l r (good_log l good) (counts_so r some) (room-some (λ q. let z : ⊥ = omega arith in z))
        ∙ ap (λ (i : ℕ). logging (Ok tt) (overwrite (roomy l) (record_size * i) (octets_of_record r))) (sym e)

    pub append-behind : (k : ℕ) → k ≡ extent l → k < n → appending l r ≡ logging (Ok tt) (overwrite l (record_size * k) (octets_of_record r))
    append-behind k e h =
        let stays : roomy l ≡ l = behind-room (omega arith) in
        append-roomy k (e ∙ ap extent (sym stays)) h ∙ ap (λ (m : List ℕ). logging (Ok tt) (overwrite m (record_size * k) (octets_of_record r))) stays

    pub append-compacts : extent l ≡ n → all_used (slots l) ≡ false
        → appending l r ≡ logging (Ok tt) (overwrite (compacted l) (record_size * used_count l) (octets_of_record r))
    append-compacts e u =
        append-room l r (good_log l good) (counts_so r some) u
        ∙ ap (λ (m : List ℕ). logging (Ok tt) (overwrite m (record_size * extent m) (octets_of_record r))) (roomy-compacts l e)
        ∙ ap (λ (i : ℕ). logging (Ok tt) (overwrite (compacted l) (record_size * i) (octets_of_record r))) extent-compacted

    pub length-appended : all_used (slots l) ≡ false → length (appending l r).log ≡ length l
    length-appended u =
        let m = roomy l in
        let g = length-roomy in
        let lt = some-room u in
        ap (λ (x : Logging). length x.log) (append-room l r (good_log l good) (counts_so r some) u)
        ∙ length-written m (extent m) (octets_of_record r) (length_record r) (omega arith)
        ∙ g

    -- it stands behind those that remain
    pub used-appended : Fits r → all_used (slots l) ≡ false → used_ones (slots (appending l r).log) ≡ us ++ (octets_of_record r ∷ [])
    used-appended f u =
        let m = roomy l in
        let g = length-roomy in
        let lt = some-room u in
        ap (λ (x : Logging). used_ones (slots x.log)) (append-room l r (good_log l good) (counts_so r some) u)
        ∙ used-written m (extent m) (octets_of_record r) (length_record r) (omega arith) (used-counts r f ∙ counts_so r some) refl
        ∙ ap (λ (ss : List (List ℕ)). ss ++ (octets_of_record r ∷ [])) used-roomy
