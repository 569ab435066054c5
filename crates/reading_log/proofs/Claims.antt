-- The claims of document 02, item 4, as theorems: `log-holds`, `log_no_hole`, `log-reads-back`, `log-reads_all`, `log-writes-again`, `reader-reads-back`,
-- and item 11's `reader-reads-remaining`; and the exact refusals of the calls that both have, `append_refuses`, `record_refuses`, `reader_refuses`.
-- Assumes nothing.
use Prim.Native.Nat.{ℕ, zero, suc, ◌+◌, ◌-◌, ◌*◌, ◌/◌, ◌≤◌, ◌<◌}
use native.Mathlib.Omega.{arith}
use native.Mathlib.Nat.{eq-or-lt_of_le}
use mathlib.Core.Path.{◌≡◌, refl, sym, ap, ◌∙◌, subst}
use mathlib.Core.Bool.{true, false, false≢true}
use mathlib.Core.Logic.{◌↔◌, inl, inr, ⊎_elim}
use mathlib.Core.List.{List, [], ◌∷◌, ◌++◌, map, append_assoc, append-nil}
use mathlib.Core.Option.{none, some}
use lib.ListN.{length, take, drop, replicate, length-append}
use lib.Seq.{take_at, take_all}
use lib.Dec.{eqb}
use borrow.Author.Tests.{eqb-false}
use denote.Ref.{Bor}
use Rattle.std.specs.Prelude.{Result, Ok, Err}
use Rattle.line.specs.Limits.{record_size}
use Rattle.line.proofs.Symbols.{by_test}
use Rattle.reading_log.specs.declared.Record.{Record}
use Rattle.reading_log.specs.declared.LogRefusal.{LogRefusal}
use Rattle.reading_log.specs.declared.Reader.{Reader}
use Rattle.reading_log.specs.declared.LogRefusal.TheVariants.{BadLog, NotUsed}
use Rattle.reading_log.specs.Numbers.{logged_refusal, log_read_refusal, log_read_record}
use Rattle.reading_log.specs.Log.{record_of, is_used, counts, slot_at, slots, all_used, used_ones, remaining, joined, at_front, bad_log}
use Rattle.reading_log.specs.Log.{Logging, appending, record_read}
use Rattle.reading_log.specs.Readers.{Handing, handing, next_used, step_of, next_step, reader_of, hand_out}
use Rattle.reading_log.specs.Claims.{zero_log, append_all, counted_ones, filled, read_back, AllFit, read_out}
use Rattle.reading_log.specs.Claims.{IsMultiple, Used, NoHole, IsNextUsed, AppendsOrRefuses, RecordOrRefuses, HandsOutOrRefuses}
use Rattle.reading_log.proofs.Records.{counts-not, outcome-none}
use Rattle.reading_log.proofs.Used.{used-none, used_keep}
use Rattle.reading_log.proofs.Searches.{not-used, slots-from, slots_end, extent-is, every_used, used_every}
use Rattle.reading_log.proofs.Calls.{good_log, good_mod, bad_mod, append_bad, append-none, append-full, append-room, read_bad, read-unused, read-used}
use Rattle.reading_log.proofs.Filled.{AllCount, filled_multiple, length-filled, extent-filled, count-filled, write_filled, full-count}
use Rattle.reading_log.proofs.Filled.{append-behind, append-compacts}
use Rattle.reading_log.proofs.Holes.{inside, next-is, found, skip_to, rest-none, first-behind, reads-remaining, filled_no_hole, read-filled}

-- ---- appending, one after the other

-- the log that an appending leaves
abbrev log_of : Logging → List ℕ
log_of x = x.log

module _ (n : ℕ) (us : List Record) (fit : AllFit us) (count : AllCount us) (small : length us ≤ n) where
  abbrev here : List ℕ
  here = filled n us

  good : bad_log here ≡ false
  good = good_log here (filled_multiple n us small)

  in_all : length here / record_size ≡ n
  in_all = let l = length-filled n us small in omega arith

  -- one that is not counted; one more; and one too many
  more_none : (r : Record) → counts r ≡ false → (appending here r).log ≡ here
  more_none r c = ap log_of (append-none here r good c)

  more_one : (r : Record) → counts r ≡ true → length us < n → (appending here r).log ≡ filled n (us ++ (r ∷ []))
  more_one r c lt =
      ap log_of (append-behind here (filled_multiple n us small) r (λ e. false≢true (sym (counts-not r e) ∙ c)) (length us)
      (sym (extent-filled n us small fit count)) (let a = in_all in omega arith))
      ∙ write_filled n us r lt

  more_full : (r : Record) → counts r ≡ true → length us ≡ n → (appending here r).log ≡ here
  more_full r c eq =
      ap log_of (append-full here r good c (full-count here (filled_multiple n us small) (count-filled n us small fit count ∙ eq ∙ sym in_all)))

-- ---- lists of records

pub counted-nil : counted_ones [] ≡ []
unfolding counted_ones
counted-nil = refl

pub counted_yes : (r : Record) (rs : List Record) → counts r ≡ true → counted_ones (r ∷ rs) ≡ r ∷ counted_ones rs
unfolding counted_ones
counted_yes r rs c = rw (c, counted_ones)

pub counted_no : (r : Record) (rs : List Record) → counts r ≡ false → counted_ones (r ∷ rs) ≡ counted_ones rs
unfolding counted_ones
counted_no r rs c = rw (c, counted_ones)

pub fit_append : (us vs : List Record) → AllFit us → AllFit vs → AllFit (us ++ vs)
unfolding AllFit
fit_append [] vs f g = g
fit_append (r ∷ us) vs f g = (f.0, fit_append us vs f.1 g)

pub count-append : (us vs : List Record) → AllCount us → AllCount vs → AllCount (us ++ vs)
unfolding AllCount
count-append [] vs f g = g
count-append (r ∷ us) vs f g = (f.0, count-append us vs f.1 g)

ones_fit : (rs : List Record) → AllFit rs → AllFit (counted_ones rs)
unfolding AllFit
ones_fit [] f = unfold counted_ones in tt
ones_fit (r ∷ rs) f =
    by_test (counts r) (λ t. rw (counted_yes r rs t) (f.0, ones_fit rs f.1)) (λ t. rw (counted_no r rs t) (ones_fit rs f.1))

pub ones_count : (rs : List Record) → AllCount (counted_ones rs)
unfolding AllCount
ones_count [] = unfold counted_ones in tt
ones_count (r ∷ rs) = by_test (counts r) (λ t. rw (counted_yes r rs t) (t, ones_count rs)) (λ t. rw (counted_no r rs t) (ones_count rs))

take_fit : (n : ℕ) (us : List Record) → AllFit us → AllFit (take n us)
unfolding AllFit
take_fit zero us f = tt
take_fit (suc n) [] f = tt
take_fit (suc n) (r ∷ us) f = (f.0, take_fit n us f.1)

take_count : (n : ℕ) (us : List Record) → AllCount us → AllCount (take n us)
unfolding AllCount
take_count zero us f = tt
take_count (suc n) [] f = tt
take_count (suc n) (r ∷ us) f = (f.0, take_count n us f.1)

take-small : (n : ℕ) (us : List Record) → length (take n us) ≤ n
take-small zero us = omega arith
take-small (suc n) [] = omega arith
take-small (suc n) (r ∷ us) = let h = take-small n us in omega arith

pub count_kept : (us : List Record) → AllCount us → counted_ones us ≡ us
unfolding AllCount
count_kept [] c = counted-nil
count_kept (r ∷ us) c = counted_yes r us c.0 ∙ ap (λ (x : List Record). r ∷ x) (count_kept us c.1)

-- ---- any number of appendings

-- behind records that stand there already
more_records : (n : ℕ) (us rs : List Record) → AllFit us → AllCount us → length us ≤ n → AllFit rs
    → append_all (filled n us) rs ≡ filled n (take n (us ++ counted_ones rs))
unfolding append_all AllFit
more_records n us [] f c h g = ap (filled n) (sym (ap (λ (x : List Record). take n (us ++ x)) counted-nil ∙ ap (take n) (append-nil us) ∙ take_all n us h))
more_records n us (r ∷ rs) f c h g =
    by_test (counts r)
    (λ t. ⊎_elim
    (λ e. ap (λ (l : List ℕ). append_all l rs) (more_full n us f c h r t e)
    ∙ more_records n us rs f c h g.1
    ∙ ap (filled n) (take_at us (counted_ones rs) n e ∙ sym (take_at us (counted_ones (r ∷ rs)) n e)))
    (λ lt. ap (λ (l : List ℕ). append_all l rs) (more_one n us f c h r t lt)
    ∙ more_records n (us ++ (r ∷ [])) rs (fit_append us (r ∷ []) f (g.0, tt)) (count-append us (r ∷ []) c (unfold AllCount in (t, tt)))
    (let e = length-append us (r ∷ []) in omega arith) g.1
    ∙ ap (λ (x : List Record). filled n (take n x)) (append_assoc us (r ∷ []) (counted_ones rs) ∙ ap (λ (x : List Record). us ++ x) (sym (counted_yes r rs t))))
    (eq-or-lt_of_le h))
    (λ t. ap (λ (l : List ℕ). append_all l rs) (more_none n us f c h r t)
    ∙ more_records n us rs f c h g.1
    ∙ ap (λ (x : List Record). filled n (take n (us ++ x))) (sym (counted_no r rs t)))

pub zero-filled : (n : ℕ) → zero_log n ≡ filled n []
unfolding zero_log filled at_front joined
zero-filled n = ap (λ (k : ℕ). replicate {A = ℕ} k 0) (let e : record_size * n ≡ record_size * (n - 0) = omega arith in e)

-- what a log of zero octets holds once records are appended: those that count, as far as there is room, and zero octets behind them
pub log-holds : (n : ℕ) (rs : List Record) → AllFit rs → append_all (zero_log n) rs ≡ filled n (take n (counted_ones rs))
log-holds n rs f =
    ap (λ (l : List ℕ). append_all l rs) (zero-filled n) ∙ more_records n [] rs (unfold AllFit in tt) (unfold AllCount in tt) (omega arith) f

-- it is a log without deletions
pub log_no_hole : (n : ℕ) (rs : List Record) → AllFit rs → NoHole (append_all (zero_log n) rs)
log_no_hole n rs f =
    let us = take n (counted_ones rs) in
    subst NoHole (sym (log-holds n rs f))
    (filled_no_hole n us (take-small n (counted_ones rs)) (take_fit n (counted_ones rs) (ones_fit rs f)) (take_count n (counted_ones rs) (ones_count rs)))

-- "From a log of zero octets, reading it back up to the first unused record gives what was appended": in order, as far as there was room
pub log-reads-back : (n : ℕ) (rs : List Record) → AllFit rs → read_back (append_all (zero_log n) rs) ≡ take n (counted_ones rs)
log-reads-back n rs f =
    let us = counted_ones rs in
    ap read_back (log-holds n rs f)
    ∙ read-filled n (take n us) (take-small n us) (take_fit n us (ones_fit rs f)) (take_count n us (ones_count rs))

-- all of it, where there was room
pub log-reads_all : (n : ℕ) (rs : List Record) → AllFit rs → length (counted_ones rs) ≤ n → read_back (append_all (zero_log n) rs) ≡ counted_ones rs
log-reads_all n rs f h = log-reads-back n rs f ∙ take_all n (counted_ones rs) h

-- "and writing that again gives the same octets"
pub log-writes-again : (n : ℕ) (rs : List Record) → AllFit rs → append_all (zero_log n) (read_back (append_all (zero_log n) rs)) ≡ append_all (zero_log n) rs
log-writes-again n rs f =
    let us : List Record = take n (counted_ones rs) in
    ap (append_all (zero_log n)) (log-reads-back n rs f)
    ∙ log-holds n us (take_fit n (counted_ones rs) (ones_fit rs f))
    ∙ ap (λ (x : List Record). filled n (take n x)) (count_kept us (take_count n (counted_ones rs) (ones_count rs)))
    ∙ ap (filled n) (take_all n us (take-small n (counted_ones rs)))
    ∙ sym (log-holds n rs f)

-- ---- a reader

-- what is handed out of a handing, and after it
abbrev then_out : ℕ → Handing → List Record
then_out most x = elim (log_read_record x.given) [ none ↦ [] | some y ↦ y ∷ read_out most x.reader ]

read_step : (most : ℕ) (r : Reader) → read_out (suc most) r ≡ then_out most (hand_out r)
unfolding read_out
read_step most r = refl

abbrev at_record : Bor (List ℕ) → ℕ → Reader
at_record l k = record { log = l; at = k }

module _ (l : Bor (List ℕ)) (at : ℕ) where
  -- what is handed out by what is read of record k
  abbrev by_read : Result Record LogRefusal → ℕ → Handing
  by_read x k = handing (step_of x at k).read (at_record l (step_of x at k).at)

  hand_read : (x : Result Record LogRefusal) → record_read l.now (next_used l.now at) ≡ x → hand_out (at_record l at) ≡ by_read x (next_used l.now at)
  unfolding hand_out next_step
  hand_read x e = ap (λ (y : Result Record LogRefusal). by_read y (next_used l.now at)) e

  hand_bad : bad_log l.now ≡ true → hand_out (at_record l at) ≡ handing (Err BadLog) (at_record l at)
  unfolding step_of
  hand_bad b = hand_read (Err BadLog) (read_bad l.now _ b)

  module _ (good : IsMultiple l.now) where
    -- "The reader skips deleted records"
    hand_next : (k : ℕ) → IsNextUsed l.now at k → hand_out (at_record l at) ≡ handing (Ok (record_of (slot_at l.now k))) (at_record l (k + 1))
    unfolding step_of
    hand_next k h =
        let e = next-is l.now at k good h in
        hand_read (Ok (record_of (slot_at l.now k))) (ap (record_read l.now) e ∙ read-used l.now k (good_log l.now good) h.1)
        ∙ ap (λ (i : ℕ). handing (Ok (record_of (slot_at l.now k))) (at_record l (i + 1))) e

    hand_none : length l.now / record_size ≤ next_used l.now at → hand_out (at_record l at) ≡ handing (Err NotUsed) (at_record l at)
    unfolding step_of
    hand_none h =
        let k = next_used l.now at in
        hand_read (Err NotUsed)
        (read-unused l.now k (good_log l.now good) (not-used l.now k (λ u. let i = inside l.now k good u in let z : ⊥ = omega arith in z)))

-- from record k on it hands out those that remain there
reader-from : (l : Bor (List ℕ)) → IsMultiple l.now → (m k : ℕ) → length l.now / record_size ≤ k + m
    → read_out m (at_record l k) ≡ map record_of (used_ones (drop k (slots l.now)))
reader-from l good zero k h =
    let end : read_out zero (at_record l k) ≡ [] = (unfold read_out in refl) in
    end ∙ ap (map record_of) (sym (ap used_ones (slots_end l.now k (omega arith)) ∙ used-none))
reader-from l good (suc m) k h =
    let n = length l.now / record_size in
    let ss = slots l.now in
    let e = next_used l.now k in
    ⊎_elim {C = read_out (suc m) (at_record l k) ≡ map record_of (used_ones (drop k ss))}
    (λ f. let i = inside l.now e good f.1 in
    let g : k + (e - k) ≡ e = omega (arith, f.0) in
    read_step m (at_record l k)
    ∙ ap (then_out m) (hand_next l k good e f)
    ∙ ap (λ (xs : List Record). record_of (slot_at l.now e) ∷ xs) (reader-from l good m (e + 1) (omega (arith, f.0)))
    ∙ ap (map record_of)
    (sym (skip_to l.now (e - k) k (omega arith) (λ j le lt. f.2 j le (omega arith))
    ∙ ap (λ (j : ℕ). used_ones (drop j ss)) g
    ∙ ap used_ones (slots-from l.now e i)
    ∙ used_keep (slot_at l.now e) (drop (e + 1) ss) f.1)))
    (λ f. read_step m (at_record l k)
    ∙ ap (then_out m) (hand_none l k good f.0)
    ∙ ap (map record_of) (sym (rest-none l.now k f.1)))
    (found l.now k)

-- "Reading back gives the records that remain": from record 0 on a reader hands them out, and then no more, however often it is called
pub reader-reads-remaining : (l : Bor (List ℕ)) (most : ℕ) → IsMultiple l.now → length l.now / record_size ≤ most
    → read_out most (reader_of l) ≡ remaining l.now
unfolding remaining reader_of
reader-reads-remaining l most g h = reader-from l g most 0 (omega arith)

-- "A reader that keeps the lent log and its place and hands out the next record": of a log without deletions it hands out what is read back up to the
-- first unused record
pub reader-reads-back : (l : Bor (List ℕ)) (most : ℕ) → IsMultiple l.now → NoHole l.now → length l.now / record_size ≤ most
    → read_out most (reader_of l) ≡ read_back l.now
reader-reads-back l most g whole h = reader-reads-remaining l most g h ∙ sym (reads-remaining l.now whole)

-- ---- refusals, each exactly when

-- two sides that both hold, and two of which neither does
pub both : {P Q : Type 0} → P → Q → P ↔ Q
both p q = ((λ _. q), (λ _. p))

pub neither : {P Q : Type 0} → (P → ⊥) → (Q → ⊥) → P ↔ Q
neither p q = ((λ h. absurd (p h)), (λ h. absurd (q h)))

-- of the number n that a call gives: it is no other
pub other : {given n : ℕ} (m : ℕ) → given ≡ n → (eqb n m ≡ false) → given ≡ m → ⊥
other {given} {n} m e h q = eqb-false n m h (sym e ∙ q)

-- a log whose length is a multiple of 16 is not refused by 11
pub not-eleven : (l : List ℕ) {given : ℕ} → bad_log l ≡ false → (given ≡ 11 → ⊥) → (given ≡ 11) ↔ (IsMultiple l → ⊥)
not-eleven l g h = neither h (λ q. q (good_mod l g))

module _ (l : List ℕ) (r : Record) where
  -- the number that an appending gives
  abbrev num : Logging → ℕ
  num x = logged_refusal x.given

  has-outcome : counts r ≡ true → r.outcome ≡ 0 → ⊥
  has-outcome c e = false≢true (sym (counts-not r e) ∙ c)

  append_on_bad : bad_log l ≡ true → AppendsOrRefuses l r
  append_on_bad b =
      let e = append_bad l r b in
      let n : num (appending l r) ≡ 11 = ap num e in
      record {
        listed = inr (inl n);
        eleven = both n (bad_mod l b);
        twelve = neither (other 12 n refl) (λ q. bad_mod l b q.0);
        refused = λ _. ap log_of e;
        nothing = λ _. ap log_of e;
        takes = λ k m o w h. absurd (bad_mod l b m);
        behind = λ k m o h lt. absurd (bad_mod l b m);
        compacts = λ m o u h. absurd (bad_mod l b m);
      }

  append_of_none : bad_log l ≡ false → counts r ≡ false → AppendsOrRefuses l r
  append_of_none g c =
      let e = append-none l r g c in
      let n : num (appending l r) ≡ 0 = ap num e in
      record {
        listed = inl n;
        eleven = not-eleven l g (other 11 n refl);
        twelve = neither (other 12 n refl) (λ q. q.1 (outcome-none r c));
        refused = λ _. ap log_of e;
        nothing = λ _. ap log_of e;
        takes = λ k m o w h. absurd (o (outcome-none r c));
        behind = λ k m o h lt. absurd (o (outcome-none r c));
        compacts = λ m o u h. absurd (o (outcome-none r c));
      }

  append_to_full : bad_log l ≡ false → counts r ≡ true → all_used (slots l) ≡ true → AppendsOrRefuses l r
  append_to_full g c u =
      let e = append-full l r g c u in
      let n : num (appending l r) ≡ 12 = ap num e in
      record {
        listed = inr (inr n);
        eleven = not-eleven l g (other 11 n refl);
        twelve = both n (good_mod l g, has-outcome c, every_used l u);
        refused = λ _. ap log_of e;
        nothing = λ _. ap log_of e;
        takes = λ k m o w h. absurd (h.2 (every_used l u k h.0));
        behind = λ k m o h lt. absurd (h.2 k (omega arith) lt (every_used l u k lt));
        compacts = λ m o some h. absurd (some (every_used l u));
      }

  append_in_room : bad_log l ≡ false → counts r ≡ true → all_used (slots l) ≡ false → AppendsOrRefuses l r
  append_in_room g c u =
      let good = good_mod l g in
      let n : num (appending l r) ≡ 0 = ap num (append-room l r g c u) in
      record {
        listed = inl n;
        eleven = not-eleven l g (other 11 n refl);
        twelve = neither (other 12 n refl) (λ q. false≢true (sym u ∙ used_every l q.2));
        refused = λ q. absurd (let z : ⊥ = omega arith in z);
        nothing = λ q. absurd (has-outcome c q);
        takes = λ k m o w h. ap log_of (append-behind l good r o k (sym (extent-is l k (first-behind l k w h))) h.0);
        behind = λ k m o h lt. ap log_of (append-behind l good r o k (sym (extent-is l k h)) lt);
        compacts = λ m o some h. ap log_of (append-compacts l good r o (extent-is l _ h) u);
      }

  pub append_refuses : AppendsOrRefuses l r
  append_refuses =
      by_test (bad_log l) append_on_bad
      (λ g. by_test (counts r) (λ c. by_test (all_used (slots l)) (append_to_full g c) (append_in_room g c)) (append_of_none g))

pub record_refuses : (l : List ℕ) (k : ℕ) → RecordOrRefuses l k
record_refuses l k =
    by_test (bad_log l)
    (λ b. let n : log_read_refusal (record_read l k) ≡ 11 = ap log_read_refusal (read_bad l k b) in
    record {
      listed = inr (inl n);
      eleven = both n (bad_mod l b);
      thirteen = neither (other 13 n refl) (λ q. bad_mod l b q.0);
      reads = λ m u. absurd (bad_mod l b m);
    })
    (λ g. by_test (is_used (slot_at l k))
    (λ u. let n : log_read_refusal (record_read l k) ≡ 0 = ap log_read_refusal (read-used l k g u) in
    record {
      listed = inl n;
      eleven = not-eleven l g (other 11 n refl);
      thirteen = neither (other 13 n refl) (λ q. q.1 u);
      reads = λ _ _. ap log_read_record (read-used l k g u);
    })
    (λ u. let n : log_read_refusal (record_read l k) ≡ 13 = ap log_read_refusal (read-unused l k g u) in
    record {
      listed = inr (inr n);
      eleven = not-eleven l g (other 11 n refl);
      thirteen = both n (good_mod l g, λ t. false≢true (sym u ∙ t));
      reads = λ _ t. absurd (false≢true (sym u ∙ t));
    }))

-- ---- a reader's refusals

module _ (r : Reader) where
  abbrev l : List ℕ
  l = r.log.now

  -- the number that it gives
  abbrev told : Handing → ℕ
  told x = log_read_refusal x.given

  hands_bad : bad_log l ≡ true → HandsOutOrRefuses r
  hands_bad b =
      let e = hand_bad r.log r.at b in
      let n : told (hand_out r) ≡ 11 = ap told e in
      record {
        listed = inr (inl n);
        eleven = both n (bad_mod l b);
        thirteen = neither (other 13 n refl) (λ q. bad_mod l b q.0);
        skips = λ k m h. absurd (bad_mod l b m);
        refused = λ _. ap (λ (x : Handing). x.reader) e;
        keeps = ap (λ (x : Handing). x.reader.log) e;
        given = λ w. ap (λ (x : Handing). x.given) e ∙ sym (read_bad l r.at b);
        moves = λ w q. absurd (let z : ⊥ = omega arith in z);
      }

  module _ (g : bad_log l ≡ false) where
    multiple : IsMultiple l
    multiple = good_mod l g

    hands_next : IsNextUsed l r.at (next_used l r.at) → HandsOutOrRefuses r
    hands_next h =
        let k = next_used l r.at in
        let e = hand_next r.log r.at multiple k h in
        let n : told (hand_out r) ≡ 0 = ap told e in
        -- without a deletion the next one is the one at its place
        let here : NoHole l → k ≡ r.at
        = λ w. ⊎_elim {C = k ≡ r.at} (λ q. sym q) (λ lt. absurd (h.2 r.at (omega arith) lt (w r.at k lt h.1))) (eq-or-lt_of_le h.0) in
        record {
          listed = inl n;
          eleven = not-eleven l g (other 11 n refl);
          thirteen = neither (other 13 n refl) (λ q. q.1 k h.0 h.1);
          skips = λ j m i. hand_next r.log r.at multiple j i;
          refused = λ q. absurd (let z : ⊥ = omega arith in z);
          keeps = ap (λ (x : Handing). x.reader.log) e;
          given = λ w. ap (λ (x : Handing). x.given) e ∙ sym (read-used l k g h.1) ∙ ap (record_read l) (here w);
          moves = λ w _. ap (λ (x : Handing). x.reader.at) e ∙ ap (λ (i : ℕ). i + 1) (here w);
        }

    hands_none : (length l / record_size ≤ next_used l r.at) × ((j : ℕ) → r.at ≤ j → j < length l / record_size → Used l j → ⊥) → HandsOutOrRefuses r
    hands_none h =
        let e = hand_none r.log r.at multiple h.0 in
        let n : told (hand_out r) ≡ 13 = ap told e in
        let free : (k : ℕ) → r.at ≤ k → Used l k → ⊥ = λ k le u. h.1 k le (inside l k multiple u) u in
        record {
          listed = inr (inr n);
          eleven = not-eleven l g (other 11 n refl);
          thirteen = both n (multiple, free);
          skips = λ k m i. absurd (free k i.0 i.1);
          refused = λ _. ap (λ (x : Handing). x.reader) e;
          keeps = ap (λ (x : Handing). x.reader.log) e;
          given = λ w. ap (λ (x : Handing). x.given) e ∙ sym (read-unused l r.at g (not-used l r.at (free r.at (omega arith))));
          moves = λ w q. absurd (let z : ⊥ = omega arith in z);
        }

  pub reader_refuses : HandsOutOrRefuses r
  reader_refuses = by_test (bad_log l) hands_bad (λ g. ⊎_elim {C = HandsOutOrRefuses r} (hands_next g) (hands_none g) (found l r.at))
