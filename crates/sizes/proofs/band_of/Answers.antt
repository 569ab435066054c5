-- `sizes::band_of` meets its contract: each way out passes the rows that did not hold and stops at the one that did. Assumes nothing.
use Rattle.std.proofs.Common.{◌≡◌, ℕ, false, leb, sym, refl, ◌∙◌, lit<, le-leb}
use borrow.Author.Tests.{lt-leb}
use Rattle.line.specs.Table.{first}
use Rattle.line.proofs.Tables.{first-other}
use Rattle.outcome.proofs.Rules.{after, row_holds_lem, row_passed}
use Rattle.sizes.specs.Sizes.{bands, band}
use Rattle.sizes.proofs.band_of.Goals as goal

abbrev past : ℕ → ℕ → Type 0
past k n = band n ≡ first (after k (bands n))

past-1 : (n : ℕ) → leb n 64 ≡ false → past 1 n
unfolding bands band
past-1 n a = row_passed 0 _ refl refl a

past-2 : (n : ℕ) → leb n 64 ≡ false → leb n 127 ≡ false → past 2 n
unfolding bands band
past-2 n a b = row_passed 1 _ (past-1 n a) refl b

past-3 : (n : ℕ) → leb n 64 ≡ false → leb n 127 ≡ false → leb n 255 ≡ false → past 3 n
unfolding bands band
past-3 n a b c = row_passed 2 _ (past-2 n a b) refl c

past-4 : (n : ℕ) → leb n 64 ≡ false → leb n 127 ≡ false → leb n 255 ≡ false → leb n 511 ≡ false → past 4 n
unfolding bands band
past-4 n a b c d = row_passed 3 _ (past-3 n a b c) refl d

past-5 : (n : ℕ) → leb n 64 ≡ false → leb n 127 ≡ false → leb n 255 ≡ false → leb n 511 ≡ false → leb n 1023 ≡ false → past 5 n
unfolding bands band
past-5 n a b c d e = row_passed 4 _ (past-4 n a b c d) refl e

past-6 : (n : ℕ) → leb n 64 ≡ false → leb n 127 ≡ false → leb n 255 ≡ false → leb n 511 ≡ false → leb n 1023 ≡ false → leb n 1518 ≡ false → past 6 n
unfolding bands band
past-6 n a b c d e f = row_passed 5 _ (past-5 n a b c d e) refl f

pub returns-then-n-le64 : goal.returns-then-n-le64
unfolding bands band
returns-then-n-le64 c = (row_holds_lem 0 _ refl refl (le-leb _ _ c.if-n-le64.true), lit< tt)

pub returns-then-n-le127 : goal.returns-then-n-le127
unfolding bands band
returns-then-n-le127 c = (row_holds_lem 1 _ (past-1 _ (lt-leb _ _ c.if-n-le64.false)) refl (le-leb _ _ c.if-n-le127.true), lit< tt)

pub returns-then-n-le255 : goal.returns-then-n-le255
unfolding bands band
returns-then-n-le255 c = (row_holds_lem 2 _ (past-2 _ (lt-leb _ _ c.if-n-le64.false) (lt-leb _ _ c.if-n-le127.false)) refl (le-leb _ _ c.if-n-le255.true), lit< tt)

pub returns-then-n-le511 : goal.returns-then-n-le511
unfolding bands band
returns-then-n-le511 c = (row_holds_lem 3 _ (past-3 _ (lt-leb _ _ c.if-n-le64.false) (lt-leb _ _ c.if-n-le127.false) (lt-leb _ _ c.if-n-le255.false)) refl (le-leb _ _ c.if-n-le511.true), lit< tt)

pub returns-then-n-le1023 : goal.returns-then-n-le1023
unfolding bands band
returns-then-n-le1023 c = (row_holds_lem 4 _ (past-4 _ (lt-leb _ _ c.if-n-le64.false) (lt-leb _ _ c.if-n-le127.false) (lt-leb _ _ c.if-n-le255.false) (lt-leb _ _ c.if-n-le511.false)) refl (le-leb _ _ c.if-n-le1023.true), lit< tt)

pub returns-then-n-le1518 : goal.returns-then-n-le1518
unfolding bands band
returns-then-n-le1518 c = (row_holds_lem 5 _ (past-5 _ (lt-leb _ _ c.if-n-le64.false) (lt-leb _ _ c.if-n-le127.false) (lt-leb _ _ c.if-n-le255.false) (lt-leb _ _ c.if-n-le511.false) (lt-leb _ _ c.if-n-le1023.false)) refl (le-leb _ _ c.if-n-le1518.true), lit< tt)

pub returns : goal.returns
unfolding bands
returns c = (sym (past-6 _ (lt-leb _ _ c.if-n-le64.false) (lt-leb _ _ c.if-n-le127.false) (lt-leb _ _ c.if-n-le255.false) (lt-leb _ _ c.if-n-le511.false) (lt-leb _ _ c.if-n-le1023.false) (lt-leb _ _ c.if-n-le1518.false) ∙ first-other {A = ℕ} 6), lit< tt)
