-- What is kept of a run stays so as the run grows: `keeps-grown`; and four octets moved on by one. Assumes nothing.
use Rattle.std.proofs.Common.{◌≡◌, ℕ, suc, ◌+◌, ◌-◌, ◌%◌, ◌^◌, ◌<◌, ◌≤◌, Bool, true, false, cond, ltb, leb, List, [], ◌∷◌, ◌++◌, length, get_or, take, drop, set, sym, refl, ap, ◌∙◌, ap₂, append_assoc, add-one, arith, length-append, length-drop, length-set, get_or-drop, take_all, take-suc, drop-drop, take-suc-set, get_or-append-add, ltb-false, ltb-true, leb-false, leb-true}
use lib.Seq.{take-append-le, drop-append-le}
use Rattle.line.specs.Limits.{preamble_size, fcs_size}
use Rattle.line.proofs.Symbols.{by_test}
use Rattle.crc.specs.Crc.{crc_over, crc_octet}
use Rattle.crc.proofs.Linear.{over-append}
use Rattle.frame.specs.Frame.{covered}
use Rattle.outcome.specs.Outcomes.{frame_of}
use Rattle.kept.specs.declared.Run.{Run}
use Rattle.kept.proofs.Keeps.{Keeps, zeros}
use Rattle.plain.specs.Plain.{grown}

pub shifted : (l : List ℕ) (o : ℕ) → length l ≡ 4 → get_or l 1 0 ∷ get_or l 2 0 ∷ get_or l 3 0 ∷ o ∷ [] ≡ drop 1 l ++ (o ∷ [])
shifted [] o h = absurd (omega arith)
shifted (a ∷ []) o h = absurd (omega arith)
shifted (a ∷ b ∷ []) o h = absurd (omega arith)
shifted (a ∷ b ∷ c ∷ []) o h = absurd (omega arith)
shifted (a ∷ b ∷ c ∷ d ∷ []) o h = refl
shifted (a ∷ b ∷ c ∷ d ∷ e ∷ l) o h = absurd (omega arith)

-- ---- a run r, and an octet more

module _ (r : List ℕ) (o : ℕ) where
  abbrev r' : List ℕ
  r' = r ++ (o ∷ [])

  more_length : length r' ≡ length r + 1
  more_length = length-append r (o ∷ [])

  more_first : (l : List ℕ) → length l ≡ 53 → take (length r) l ≡ take 53 r
      → take (length r') (cond (ltb (length r) 53) (set l (length r) o) l) ≡ take 53 r'
  more_first l n e =
      let k = more_length in
      by_test (ltb (length r) 53)
      (λ t. let lt = ltb-true (length r) 53 t in
      rw (t, k, add-one (length r), take-suc-set l (length r) o (omega arith), e, take_all 53 r (omega arith))
      (sym (take_all 53 r' (omega arith))))
      (λ t. let ge = ltb-false (length r) 53 t in
      rw t (take_all (length r') l (omega arith) ∙ sym (take_all (length r) l (omega arith)) ∙ e ∙ sym (take-append-le 53 r (o ∷ []) (omega arith))))

  more_last : drop 1 (drop (length r) (zeros ++ r)) ++ (o ∷ []) ≡ drop (length r') (zeros ++ r')
  more_last =
      let k = more_length in
      let a : length (zeros ++ r) ≡ 4 + length r = length-append zeros r in
      ap (λ (l : List ℕ). l ++ (o ∷ [])) (drop-drop 1 (length r) (zeros ++ r))
      ∙ sym (drop-append-le (length r + 1) (zeros ++ r) (o ∷ []) (omega arith))
      ∙ ap₂ (λ (n : ℕ) (l : List ℕ). drop n l) (sym k) (append_assoc zeros r (o ∷ []))

  -- the octet that leaves the last four
  leaves : preamble_size + fcs_size ≤ length r → get_or (drop (length r) (zeros ++ r)) 0 0 ≡ get_or (frame_of r) (length r - (preamble_size + fcs_size)) 0
  unfolding frame_of
  leaves h =
      let e : length r + 0 ≡ length zeros + (length r - 4) = omega arith in
      let d : 7 + (length r - (preamble_size + fcs_size)) ≡ length r - 4 = omega arith in
      get_or-drop (length r) (zeros ++ r) 0 0 ∙ ap (λ (n : ℕ). get_or (zeros ++ r) n 0) e ∙ get_or-append-add zeros r (length r - 4) 0
      ∙ ap (λ (n : ℕ). get_or r n 0) (sym d) ∙ sym (get_or-drop 7 r (length r - (preamble_size + fcs_size)) 0)

  frame-length : length (frame_of r) ≡ length r - 7
  unfolding frame_of
  frame-length = length-drop 7 r

  covered-early : length r < 11 → covered (frame_of r') ≡ covered (frame_of r)
  unfolding covered
  covered-early h =
      let k = more_length in
      let a = frame-length in
      let b : length (frame_of r') ≡ length r' - 7 = (unfold frame_of in length-drop 7 r') in
      let x : length (frame_of r') - 4 ≡ 0 = omega arith in
      let y : length (frame_of r) - 4 ≡ 0 = omega arith in
      rw (x, y)

  covered_more : preamble_size + fcs_size ≤ length r
      → covered (frame_of r') ≡ covered (frame_of r) ++ (get_or (frame_of r) (length r - (preamble_size + fcs_size)) 0 ∷ [])
  unfolding covered
  covered_more h =
      let k = more_length in
      let a = frame-length in
      let b : length (frame_of r') ≡ length r' - 7 = (unfold frame_of in length-drop 7 r') in
      let x : length (frame_of r') - 4 ≡ suc (length r - (preamble_size + fcs_size)) = omega arith in
      let y : length (frame_of r) - 4 ≡ length r - (preamble_size + fcs_size) = omega arith in
      let z : frame_of r' ≡ frame_of r ++ (o ∷ []) = (unfold frame_of in drop-append-le 7 r (o ∷ []) (omega arith)) in
      ap (λ (n : ℕ). take n (frame_of r')) x ∙ ap (take (suc (length r - (preamble_size + fcs_size)))) z
      ∙ take-append-le (suc (length r - (preamble_size + fcs_size))) (frame_of r) (o ∷ []) (omega arith)
      ∙ take-suc (frame_of r) (length r - (preamble_size + fcs_size)) 0 (omega arith)
      ∙ ap (λ (n : ℕ). take n (frame_of r) ++ (get_or (frame_of r) (length r - (preamble_size + fcs_size)) 0 ∷ [])) (sym y)

  -- the register over what a run's FCS covers
  abbrev sum : List ℕ → ℕ
  sum l = crc_over 0xFFFF_FFFF (covered (frame_of l))

  more_sum : cond (leb (preamble_size + fcs_size) (length r)) (crc_octet (sum r) (get_or (drop (length r) (zeros ++ r)) 0 0)) (sum r) ≡ sum r'
  more_sum =
      by_test (leb (preamble_size + fcs_size) (length r))
      (λ t. let h = leb-true (preamble_size + fcs_size) (length r) t in
      rw (t, leaves h)
      (sym (ap (crc_over 0xFFFF_FFFF) (covered_more h)
      ∙ over-append 0xFFFF_FFFF (covered (frame_of r)) (get_or (frame_of r) (length r - (preamble_size + fcs_size)) 0 ∷ []))))
      (λ t. let h = leb-false (preamble_size + fcs_size) (length r) t in rw t (sym (ap (crc_over 0xFFFF_FFFF) (covered-early (omega arith)))))

length-kept : (b : Bool) (l : List ℕ) (k o : ℕ) → length (cond b (set l k o) l) ≡ length l
length-kept true l k o = length-set l k o
length-kept false l k o = refl

pub keeps-grown : (q : Run) (r : List ℕ) (o : ℕ) → Keeps q r → length r < 65535 → Keeps (grown q o) (r ++ (o ∷ []))
unfolding grown
keeps-grown q r o k h =
    record {
      counts = ap (λ (n : ℕ). (n + 1) % 2 ^ 16) k.counts ∙ (let m = more_length r o in omega arith);
      room = length-kept (ltb q.count 53) q.first q.count o ∙ k.room;
      firsts =
          ap (λ (n : ℕ). take (length (r ++ (o ∷ []))) (cond (ltb n 53) (set q.first n o) q.first)) k.counts
          ∙ more_first r o q.first k.room k.firsts;
      lasts = ap (λ (l : List ℕ). drop 1 l ++ (o ∷ [])) k.lasts ∙ more_last r o;
      sums = rw (k.counts, k.sums, k.lasts) (more_sum r o);
    }
