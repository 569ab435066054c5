-- The claims of document 02, item 13, as theorems: `any_order`, `two_halves`, `refused-adds-nothing`, `refused_as_a_walk`, `octets_rise`. What they say of
-- the counters is mac/proofs/SizesRise.antt. Assumes nothing.
use Rattle.std.specs.Prelude.{Err, Ok, Option}
use Rattle.station.specs.Numbers.{Checked}
use Rattle.std.proofs.Common.{◌≡◌, ℕ, zero, suc, ◌+◌, ◌%◌, ◌<◌, Bool, true, false, eqb, ltb, leb, List, [], ◌∷◌, ◌++◌, length, get_or, set, sym, refl, ap, ◌∙◌, ap₂, le_of_suc-le-suc, not-suc-le-zero, arith, lit<, get_or-set_other, get_or-set_same, set-set, ltb-false, ltb-true, eqb-true}
use native.Mathlib.Nat.{mod-add-mod}
use lib.Seq.{set_comm, set_out}
use borrow.Author.Tests.{eqb-false}
use Rattle.line.specs.Line.{capture, AfterStart, unended, ended, MetStart, met_starts}
use Rattle.line.specs.Table.{Table, ◌⇒◌, ◌∣◌, otherwise, first}
use Rattle.line.proofs.Symbols.{by_test}
use Rattle.line.proofs.Tables.{first-here, first_next, first-other}
use Rattle.station.specs.declared.Address.{Address}
use Rattle.station.specs.declared.Settings.{Settings}
use Rattle.station.specs.declared.State.{State}
use Rattle.station.specs.Numbers.{checked_number}
use Rattle.station.specs.Station.{total, fresh}
use Rattle.table.specs.declared.Entry.{Entry}
use Rattle.table.specs.Entries.{mine}
use Rattle.receive.specs.declared.Reading.{Reading}
use Rattle.receive.specs.declared.Walking.{Walking}
use Rattle.receive.specs.Reading.{read_run, read_start, read_refusals}
use Rattle.receive.specs.Values.{walk_refusal}
use Rattle.receive.specs.Walk.{walk, walk_of, walked}
use Rattle.receive.proofs.Walks.{through, through-ended, through-unended, walk_through, walked-refused}
use Rattle.sizes.specs.declared.SizeTable.{SizeTable}
use Rattle.sizes.specs.declared.Added.{Added}
use Rattle.sizes.specs.Sizes.{bands, band, count_size, raised, with_frame, with_frames, fresh_sizes, frame_lengths, add_checked, adding, together, add_tables}
use Rattle.sizes.specs.Claims.{Capture, add_one, add_all, Reordered, same, next, swap, then}
use Rattle.sizes.specs.Computed.{computed}
use Rattle.sizes.proofs.Laws.{length-raised, add-refused, add_fine, walk_lengths}

-- ---- in any order

raise_twice : (l : List ℕ) (i a b : ℕ) → raised (raised l i a) i b ≡ set l i ((get_or l i 0 + a + b) % count_size)
unfolding raised
raise_twice l i a b =
    let v : ℕ = (get_or l i 0 + a) % count_size in
    by_test (ltb i (length l))
    (λ t. set-set l i v ((get_or (set l i v) i 0 + b) % count_size)
    ∙ ap (λ (x : ℕ). set l i ((x + b) % count_size)) (get_or-set_same l i v 0 (ltb-true i (length l) t))
    ∙ ap (set l i) (mod-add-mod (get_or l i 0 + a) count_size b))
    (λ t. let out = ltb-false i (length l) t in
    ap (λ (x : List ℕ). set x i ((get_or x i 0 + b) % count_size)) (set_out l i v out)
    ∙ set_out l i ((get_or l i 0 + b) % count_size) out
    ∙ sym (set_out l i ((get_or l i 0 + a + b) % count_size) out))

raise_swap : (l : List ℕ) (i j a b : ℕ) → raised (raised l i a) j b ≡ raised (raised l j b) i a
raise_swap l i j a b =
    by_test (eqb i j)
    (λ t. let e : i ≡ j = eqb-true i j t in
    ap (λ (k : ℕ). raised (raised l i a) k b) (sym e)
    ∙ raise_twice l i a b
    ∙ ap (λ (x : ℕ). set l i (x % count_size)) (let g : get_or l i 0 + a + b ≡ get_or l i 0 + b + a = omega arith in g)
    ∙ sym (raise_twice l i b a)
    ∙ ap (λ (k : ℕ). raised (raised l k b) i a) e)
    (λ t. apart (eqb-false i j t))
  where
    apart : (i ≡ j → ⊥) → raised (raised l i a) j b ≡ raised (raised l j b) i a
    apart ne =
        unfold raised in
        (ap (λ (x : ℕ). set (set l i ((get_or l i 0 + a) % count_size)) j ((x + b) % count_size))
        (get_or-set_other l i j ((get_or l i 0 + a) % count_size) 0 (λ q. ne (sym q)))
        ∙ set_comm l i j ((get_or l i 0 + a) % count_size) ((get_or l j 0 + b) % count_size) ne
        ∙ ap (λ (x : ℕ). set (set l j ((get_or l j 0 + b) % count_size)) i ((x + a) % count_size)) (sym (get_or-set_other l j i ((get_or l j 0 + b) % count_size) 0 ne)))

frame-swap : (t : SizeTable) (m n : ℕ) → with_frame (with_frame t m) n ≡ with_frame (with_frame t n) m
unfolding with_frame
frame-swap t m n =
    ap₂ (λ (x y : List ℕ). record { frames = x; octets = y }) (raise_swap t.frames (band m) (band n) 1 1) (raise_swap t.octets (band m) (band n) m n)

one-swap : (t : SizeTable) (m : ℕ) (ns : List ℕ) → with_frames (with_frame t m) ns ≡ with_frame (with_frames t ns) m
unfolding with_frames
one-swap t m [] = refl
one-swap t m (n ∷ ns) = ap (λ (x : SizeTable). with_frames x ns) (frame-swap t m n) ∙ one-swap (with_frame t n) m ns

frames_swap : (t : SizeTable) (ms ns : List ℕ) → with_frames (with_frames t ms) ns ≡ with_frames (with_frames t ns) ms
unfolding with_frames
frames_swap t [] ns = refl
frames_swap t (m ∷ ms) ns = frames_swap (with_frame t m) ms ns ∙ ap (λ (x : SizeTable). with_frames x ms) (one-swap t m ns)

-- what a capture adds, whatever the table
added : Capture → List ℕ
added c =
    elim (first (read_refusals c.settings c.job c.table c.octets c.marks 0)) [
      | Ok _ ↦ frame_lengths (walk c.settings c.job c.table fresh c.octets c.marks)
      | Err x ↦ []
    ]

adds : (t : SizeTable) (c : Capture) → (add_one t c).sizes ≡ with_frames t (added c)
unfolding adding added
adds t c = by (first (read_refusals c.settings c.job c.table c.octets c.marks 0))
  where
    by : (k : Checked) → (add_checked k t c.settings c.job c.table c.octets c.marks).sizes
        ≡ with_frames t (elim k [ Ok _ ↦ frame_lengths (walk c.settings c.job c.table fresh c.octets c.marks) | Err x ↦ [] ])
    by (Ok _) = unfold add_checked in refl
    by (Err x) = unfold add_checked with_frames in refl

add-first : (t : SizeTable) (c : Capture) (cs : List Capture) → add_all t (c ∷ cs) ≡ add_all (add_one t c).sizes cs
unfolding add_all
add-first t c cs = refl

-- "adding captures in another order gives the same table"
pub any_order : (t : SizeTable) (cs ds : List Capture) → Reordered cs ds → add_all t cs ≡ add_all t ds
any_order t cs ds same = refl
any_order t cs ds (next {c} {cs = xs} {ds = ys} r) = add-first t c xs ∙ any_order (add_one t c).sizes xs ys r ∙ sym (add-first t c ys)
any_order t cs ds (swap {b} {c} {cs = xs}) =
    unfold add_all in
    ap (λ (x : SizeTable). add_all x xs)
    (adds (add_one t b).sizes c
    ∙ ap (λ (x : SizeTable). with_frames x (added c)) (adds t b)
    ∙ frames_swap t (added b) (added c)
    ∙ ap (λ (x : SizeTable). with_frames x (added b)) (sym (adds t c))
    ∙ sym (adds (add_one t c).sizes b))
any_order t cs ds (then {cs = xs} r q) = any_order t cs xs r ∙ any_order t xs ds q

-- ---- cut into two and added up

together_comm : (a b : List ℕ) → together a b ≡ together b a
unfolding together
together_comm [] [] = refl
together_comm [] (y ∷ b) = refl
together_comm (x ∷ a) [] = refl
together_comm (x ∷ a) (y ∷ b) = ap₂ (λ (v : ℕ) (l : List ℕ). v % count_size ∷ l) (let g : x + y ≡ y + x = omega arith in g) (together_comm a b)

together-raised : (a b : List ℕ) (i n : ℕ) → together (raised a i n) b ≡ raised (together a b) i n
unfolding together raised
together-raised [] b i n = refl
together-raised (x ∷ a) [] zero n = refl
together-raised (x ∷ a) [] (suc i) n = refl
together-raised (x ∷ a) (y ∷ b) zero n =
    ap (λ (v : ℕ). v ∷ together a b)
    (mod-add-mod (x + n) count_size y ∙ ap (λ (v : ℕ). v % count_size) (let g : x + n + y ≡ x + y + n = omega arith in g) ∙ sym (mod-add-mod (x + y) count_size n))
together-raised (x ∷ a) (y ∷ b) (suc i) n = ap (λ (l : List ℕ). (x + y) % count_size ∷ l) (together-raised a b i n)

-- two tables, either first
pub tables_swap : (t u : SizeTable) → add_tables t u ≡ add_tables u t
unfolding add_tables
tables_swap t u = ap₂ (λ (x y : List ℕ). record { frames = x; octets = y }) (together_comm t.frames u.frames) (together_comm t.octets u.octets)

with_one : (t u : SizeTable) (n : ℕ) → add_tables (with_frame t n) u ≡ with_frame (add_tables t u) n
unfolding add_tables with_frame
with_one t u n =
    ap₂ (λ (x y : List ℕ). record { frames = x; octets = y })
    (together-raised t.frames u.frames (band n) 1)
    (together-raised t.octets u.octets (band n) n)

with_all : (t u : SizeTable) (ns : List ℕ) → add_tables (with_frames t ns) u ≡ with_frames (add_tables t u) ns
unfolding with_frames
with_all t u [] = refl
with_all t u (n ∷ ns) = with_all (with_frame t n) u ns ∙ ap (λ (x : SizeTable). with_frames x ns) (with_one t u n)

captures_first : (t u : SizeTable) (cs : List Capture) → add_tables (add_all t cs) u ≡ add_all (add_tables t u) cs
unfolding add_all
captures_first t u [] = refl
captures_first t u (c ∷ cs) =
    captures_first (add_one t c).sizes u cs
    ∙ ap (λ (x : SizeTable). add_all x cs)
    (ap (λ (x : SizeTable). add_tables x u) (adds t c) ∙ with_all t u (added c) ∙ sym (adds (add_tables t u) c))

one-after_the_other : (t : SizeTable) (cs ds : List Capture) → add_all t (cs ++ ds) ≡ add_all (add_all t cs) ds
unfolding add_all
one-after_the_other t [] ds = refl
one-after_the_other t (c ∷ cs) ds = one-after_the_other (add_one t c).sizes cs ds

-- from any two tables
pub two_parts : (t u : SizeTable) (cs ds : List Capture) → add_tables (add_all t cs) (add_all u ds) ≡ add_all (add_tables t u) (cs ++ ds)
two_parts t u cs ds =
    tables_swap (add_all t cs) (add_all u ds)
    ∙ captures_first u (add_all t cs) ds
    ∙ ap (λ (x : SizeTable). add_all x ds) (tables_swap u (add_all t cs) ∙ captures_first t u cs)
    ∙ sym (one-after_the_other (add_tables t u) cs ds)

nothing-twice : add_tables fresh_sizes fresh_sizes ≡ fresh_sizes
unfolding computed
nothing-twice = refl

-- captures cut into two halves, each added to a table with nothing in it, and those two added, give the table of all of them
pub two_halves : (cs ds : List Capture) → add_tables (add_all fresh_sizes cs) (add_all fresh_sizes ds) ≡ add_all fresh_sizes (cs ++ ds)
two_halves cs ds = two_parts fresh_sizes fresh_sizes cs ds ∙ ap (λ (x : SizeTable). add_all x (cs ++ ds)) nothing-twice

-- ---- refusals

-- a walk whose Starts are read is not refused
not-refused : (s : Settings) (own : List (Option Address)) (len : ℕ) (ms : List MetStart) (n : ℕ) (st st' : State)
    → walk_refusal (walk_of n st (through s own st' len ms)).answer ≡ 0
unfolding walk_of
not-refused s own len [] n st st' = unfold through in refl
not-refused s own len (m ∷ ms) n st st' = by m.place m.follows (λ k x. not-refused s own len ms k x x)
  where
    number : List Reading → ℕ
    number rs = walk_refusal (walk_of n st rs).answer

    by : (i : ℕ) (f : AfterStart) → ((k : ℕ) (x : State) → walk_refusal (walk_of k x (through s own x len ms)).answer ≡ 0)
        → number (through s own st' len (record { place = i; follows = f } ∷ ms)) ≡ 0
    by i unended ih = ap number (through-unended s own st' len i ms)
    by i (ended r b) ih = ap number (through-ended s own st' len i r b ms) ∙ (unfold read_start read_run in ih (n + 1) (read_start s own st' i (ended r b)).state)

module _ (t : SizeTable) (s : Settings) (job : ℕ) (es : List Entry) (os ms : List ℕ) where
  -- "a refused capture adds nothing"
  pub refused-adds-nothing : 0 < checked_number (adding t s job es os ms).answer → (adding t s job es os ms).sizes ≡ t
  unfolding adding
  refused-adds-nothing h = by (first (read_refusals s job es os ms 0)) h
    where
      by : (k : Checked) → 0 < checked_number (add_checked k t s job es os ms).answer → (add_checked k t s job es os ms).sizes ≡ t
      by (Ok _) g = unfold add_checked in absurd (let z : ⊥ = omega arith in z)
      by (Err x) g = unfold add_checked in refl

  -- it is refused as a walk is, by the same number, whatever the walk's state
  pub refused_as_a_walk : (st : State) → checked_number (adding t s job es os ms).answer ≡ walk_refusal (walked s job es st os ms).answer
  refused_as_a_walk st = by (first (read_refusals s job es os ms 0)) refl
    where
      by : (k : Checked) → first (read_refusals s job es os ms 0) ≡ k
          → checked_number (adding t s job es os ms).answer ≡ walk_refusal (walked s job es st os ms).answer
      by (Err x) h =
          ap (λ (r : Added). checked_number r.answer) (add-refused s job es os ms t x h)
          ∙ ap (λ (r : Walking). walk_refusal r.answer) (sym (walked-refused s job es st os ms x h))
      by (Ok _) h =
          ap (λ (r : Added). checked_number r.answer) (add_fine s job es os ms t h)
          ∙ sym
          (unfold walked in
          (ap (λ (rs : List Reading). walk_refusal (walk_of 0 st rs).answer) (walk_through s job es os ms h st)
          ∙ not-refused s (mine job es) (length (capture os ms)) (met_starts 0 (capture os ms)) 0 st st))

-- ---- all bands together

band-small : (n : ℕ) → band n < 7
unfolding bands band
band-small n =
    below (leb n 64) _ (lit< tt)
    (below (leb n 127) _ (lit< tt)
    (below (leb n 255) _ (lit< tt) (below (leb n 511) _ (lit< tt) (below (leb n 1023) _ (lit< tt) (below (leb n 1518) _ (lit< tt) last)))))
  where
    below : (b : Bool) {k : ℕ} (rows : Table ℕ) → k < 7 → first rows < 7 → first (b ⇒ k ∣ rows) < 7
    below true {k} rows h g = rw (first-here {b = true} k rows refl) h
    below false {k} rows h g = rw (first_next {b = false} k rows refl) g

    last : first {A = ℕ} (otherwise 6) < 7
    last = rw (first-other {A = ℕ} 6) (lit< tt)

total-raised : (l : List ℕ) (i n : ℕ) → i < length l → total (raised l i n) % count_size ≡ (total l + n) % count_size
unfolding total raised
total-raised [] i n h = absurd (not-suc-le-zero h)
total-raised (c ∷ cs) zero n h = omega arith
total-raised (c ∷ cs) (suc i) n h = let e = total-raised cs i n (le_of_suc-le-suc h) in omega arith

more : (a b k : ℕ) → a % count_size ≡ b % count_size → (a + k) % count_size ≡ (b + k) % count_size
more a b k e = sym (mod-add-mod a count_size k) ∙ ap (λ (x : ℕ). (x + k) % count_size) e ∙ mod-add-mod b count_size k

-- all counts of frames together rise by the number of frames, and those of octets by their lengths
pub frames_rise : (t : SizeTable) (ns : List ℕ) → length t.frames ≡ 7
    → total (with_frames t ns).frames % count_size ≡ (total t.frames + length ns) % count_size
unfolding with_frames
frames_rise t [] e = ap (λ (x : ℕ). x % count_size) (let g : total t.frames ≡ total t.frames + 0 = omega arith in g)
frames_rise t (n ∷ ns) e =
    let b = band-small n in
    frames_rise (with_frame t n) ns (unfold with_frame in (length-raised t.frames (band n) 1 ∙ e))
    ∙ more (total (with_frame t n).frames) (total t.frames + 1) (length ns) (unfold with_frame in total-raised t.frames (band n) 1 (omega arith))
    ∙ ap (λ (x : ℕ). x % count_size) (let g : total t.frames + 1 + length ns ≡ total t.frames + suc (length ns) = omega arith in g)

lengths_rise : (t : SizeTable) (ns : List ℕ) → length t.octets ≡ 7
    → total (with_frames t ns).octets % count_size ≡ (total t.octets + total ns) % count_size
unfolding with_frames total
lengths_rise t [] e = ap (λ (x : ℕ). x % count_size) (let g : total t.octets ≡ total t.octets + 0 = omega arith in g)
lengths_rise t (n ∷ ns) e =
    let b = band-small n in
    lengths_rise (with_frame t n) ns (unfold with_frame in (length-raised t.octets (band n) n ∙ e))
    ∙ more (total (with_frame t n).octets) (total t.octets + n) (total ns) (unfold with_frame in total-raised t.octets (band n) n (omega arith))
    ∙ ap (λ (x : ℕ). x % count_size) (let g : total t.octets + n + total ns ≡ total t.octets + (n + total ns) = omega arith in g)

-- "and the octets in each band": the octets of all bands together rise by the frame lengths of the walk, from any state
pub octets_rise : (t : SizeTable) (s : Settings) (job : ℕ) (es : List Entry) (st : State) (os ms : List ℕ) → length t.octets ≡ 7
    → first (read_refusals s job es os ms 0) ≡ Ok tt
    → total (adding t s job es os ms).sizes.octets % count_size ≡ (total t.octets + total (frame_lengths (walk s job es st os ms))) % count_size
octets_rise t s job es st os ms seven h =
    ap (λ (r : Added). total r.sizes.octets % count_size) (add_fine s job es os ms t h)
    ∙ lengths_rise t (frame_lengths (walk s job es fresh os ms)) seven
    ∙ ap (λ (ns : List ℕ). (total t.octets + total ns) % count_size) (walk_lengths s job es os ms fresh h ∙ sym (walk_lengths s job es os ms st h))
