-- Document 02, item 5: the gap behind a frame on the four-lane port. What is true of it is `four_lane`; by the frame's length alone, `by_length`; and
-- what the code reckons is what the definition says, `shorter` and `longer`. Assumes nothing.
use Prim.Native.Nat.{ℕ, ◌+◌, ◌-◌, ◌%◌, ◌≤◌, ◌<◌}
use native.Mathlib.Omega.{arith}
use mathlib.Core.Path.{◌≡◌, sym, ap, ◌∙◌, subst}
use mathlib.Core.Bool.{Bool, cond}
use mathlib.Core.List.{List}
use lib.ListN.{length}
use lib.Dec.{leb}
use borrow.Author.Tests.{le-leb, lt-leb, leb-true, leb-false}
use Rattle.line.specs.Limits.{around_body, full_gap, most_deficit, lanes}
use Rattle.line.proofs.Symbols.{by_test}
use Rattle.station.specs.declared.Port.{Port}
use Rattle.station.specs.declared.Port.TheVariants.{Plain, FourLane}
use Rattle.writing.specs.declared.Gap.{Gap}
use Rattle.writing.proofs.Sizes.{line_size}
use Rattle.writing.specs.Gaps.{past, shortened, lengthened, gap_at, gap_on, symbols_on, Gapped}

-- ---- the two cases

-- a gap of 12 ends as far past a multiple of four as it begins
same-past : (at : ℕ) → past at ≡ at % lanes
same-past at = omega arith

short-gap : (at count : ℕ) → count + past at ≤ most_deficit → gap_at FourLane at count ≡ shortened (past at) count
unfolding gap_at
short-gap at count h = ap (λ (b : Bool). cond b (shortened (past at) count) (lengthened (past at) count)) (le-leb (count + past at) most_deficit h)

long-gap : (at count : ℕ) → most_deficit < count + past at → gap_at FourLane at count ≡ lengthened (past at) count
unfolding gap_at
long-gap at count h = ap (λ (b : Bool). cond b (shortened (past at) count) (lengthened (past at) count)) (lt-leb (count + past at) most_deficit h)

by-gap : (P : Gap → Type 0) (at count : ℕ) → (count + past at ≤ most_deficit → P (shortened (past at) count))
    → (most_deficit < count + past at → P (lengthened (past at) count))
    → P (gap_at FourLane at count)
by-gap P at count f g =
    by_test (leb (count + past at) most_deficit)
    (λ e. let h = leb-true (count + past at) most_deficit e in subst P (sym (short-gap at count h)) (f h))
    (λ e. let h = leb-false (count + past at) most_deficit e in subst P (sym (long-gap at count h)) (g h))

-- ---- what is true of a gap

pub four_lane : (at count : ℕ) → Gapped at count (gap_at FourLane at count)
four_lane at count =
    by-gap (Gapped at count) at count
    (λ h. record { missing = omega arith; small = λ k. omega arith; least = omega arith; most = λ k. omega arith; lands = omega arith })
    (λ h. record { missing = omega arith; small = λ k. omega arith; least = omega arith; most = λ k. omega arith; lands = omega arith })

-- on any port, whatever the count, a gap has its Terminate, and is not long
pub some-gap : (port : Port) (at count : ℕ) → (9 ≤ (gap_at port at count).size) × ((gap_at port at count).size ≤ 16)
some-gap Plain at count = unfold gap_at in (omega arith, omega arith)
some-gap FourLane at count = by-gap (λ (g : Gap). (9 ≤ g.size) × (g.size ≤ 16)) at count (λ h. (omega arith, omega arith)) (λ h. (omega arith, omega arith))

-- at a place divisible by four, r is the length of what the FCS covers modulo four: a frame's other 12 symbols, and each tag, are multiples of four
pub by_length : (place : ℕ) (body : List ℕ) → place % lanes ≡ 0 → past (place + around_body + length body) ≡ length body % lanes
by_length place body h = omega arith

-- so a frame whose FCS covers a multiple of four octets, as it does 60 of a pause or PFC frame, has a gap of 12 and leaves the count
pub of_twelve : (count place : ℕ) (body : List ℕ) → place % lanes ≡ 0 → length body % lanes ≡ 0 → count ≤ most_deficit
    → gap_on FourLane count place body ≡ record { size = full_gap; count = count }
unfolding gap_on
of_twelve count place body aligned whole low =
    let r = by_length place body aligned in
    short-gap (place + around_body + length body) count (omega arith)
    ∙ ap (λ (n : ℕ). shortened n count) (r ∙ whole)
    ∙ ap (λ (n : ℕ). record { size = full_gap; count = n }) (let e : count + 0 ≡ count = omega arith in e)

-- ---- a frame on a port, by how many octets its FCS covers

pub gap_is : (port : Port) (count place : ℕ) (body : List ℕ) (size : ℕ) → length body ≡ size
    → gap_at port (place + around_body + size) count ≡ gap_on port count place body
unfolding gap_on
gap_is port count place body size e = ap (λ (n : ℕ). gap_at port (place + around_body + n) count) (sym e)

pub size_is : (port : Port) (count place : ℕ) (body : List ℕ) (size : ℕ) → length body ≡ size
    → length (symbols_on port count place body) ≡ around_body + size + (gap_at port (place + around_body + size) count).size
unfolding symbols_on
size_is port count place body size e =
    let g = some-gap port (place + around_body + size) count in
    let same = ap (λ (x : Gap). x.size) (gap_is port count place body size e) in
    let n = line_size ((gap_on port count place body).size - 1) body in
    omega arith

-- ---- what the code reckons

pub shorter : (at count : ℕ) → count ≤ most_deficit - at % lanes → record { size = full_gap - at % lanes; count = count + at % lanes } ≡ gap_at FourLane at count
shorter at count h =
    let e = same-past at in
    sym (short-gap at count (omega arith) ∙ ap (λ (r : ℕ). shortened r count) e)

pub longer : (at count : ℕ) → most_deficit - at % lanes < count
    → record { size = full_gap + (lanes - at % lanes); count = count - (lanes - at % lanes) } ≡ gap_at FourLane at count
longer at count h =
    let e = same-past at in
    sym (long-gap at count (omega arith) ∙ ap (λ (r : ℕ). lengthened r count) e)
