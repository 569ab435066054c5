-- A client frame, encoded and read back, is handed out. Assumes nothing.
use Rattle.std.specs.Prelude.{Option}
use Prim.Native.Nat.{ℕ, ◌+◌, ◌-◌, ◌*◌, ◌≤◌, ◌<◌}
use native.Mathlib.Omega.{arith}
use mathlib.Core.Path.{◌≡◌, refl, sym, ap, ap₂, ◌∙◌}
use mathlib.Core.Bool.{Bool, true, false, ◌||◌, cond, true≢false}
use mathlib.Core.List.{List, ◌++◌, append_assoc, append-nil}
use lib.ListN.{length, take, replicate, length-append, length-replicate, length-take}
use lib.Seq.{take_at}
use lib.Dec.{eqb, ltb}
use borrow.Author.Tests.{ne_eqb, le-ltb, ltb-true, ltb-false}
use Rattle.line.specs.Limits.{least_frame, tag_size, least_type, most_length, least_data, most_tags}
use Rattle.line.specs.Line.{terminate, preamble}
use Rattle.line.specs.Octets.{same_octets, high_first}
use Rattle.line.specs.Table.{first}
use Rattle.line.proofs.Symbols.{by_test}
use Rattle.line.proofs.Tables.{first_next, first-other}
use Rattle.fcs.specs.Fcs.{fcs}
use Rattle.station.specs.declared.Address.{Address}
use Rattle.station.specs.declared.Settings.{Settings}
use Rattle.station.specs.declared.Outcome.TheVariants.{Cut, BadPreamble, Undersized, Oversized, WrongFcs, WrongLength, Filtered, PauseTaken, PfcTaken, ControlDropped, HandedOut}
use Rattle.fields.specs.Tags.{is_tag_kind, tag_count}
use Rattle.fields.specs.Fields.{destination, field}
use Rattle.frame.specs.Frame.{frame_data, wrong_fcs, undersized, oversized}
use Rattle.frame.specs.Length.{kept, wrong_length, handed_of, client_data}
use Rattle.table.specs.Way.{accepts}
use Rattle.fcs.proofs.Laws.{fcs-four}
use Rattle.frame.proofs.Length.{length_right}
use Rattle.frame.proofs.FrameLaws.{fcs_right, frame-length, frame-field, frame_payload, kept-type, kept-long, kept-short}
use Rattle.control.specs.Control.{is_control_frame, filtered, takes_pause, takes_pfc, drops_control}
use Rattle.outcome.specs.Outcomes.{cut, bad_preamble, frame_of, outcomes, outcome}
use Rattle.writing.specs.declared.Client.{Client}
use Rattle.writing.specs.declared.Tag.{Tag}
use Rattle.writing.specs.declared.Form.{Form}
use Rattle.writing.specs.declared.Form.TheVariants.{ByLength, ByType}
use Rattle.writing.specs.Frames.{padded, tag_octets, tags_sent, field_sent, client_body}
use Rattle.writing.proofs.TagLaws.{tag_length, tags_are, not_control}
use Rattle.send.specs.Sending.{bad_type, many_tags, long_data}
use Rattle.mac.specs.Demand3.{Frame, Carried, Bits16, delivered}

-- what the reader finds in a frame
record Facts (f dst : List ℕ) (n : ℕ) (p : List ℕ) (t : ℕ) : Type 0 where
  tag : tag_count f ≡ t
  size : length f ≡ 18 + 4 * t + length p
  field_is : field f ≡ n
  data_is : frame_data f ≡ p
  to : destination f ≡ dst
  plain : is_control_frame f ≡ false
  right : wrong_fcs f ≡ false

-- ---- the table, from the facts
module _ (s : Settings) (own : List (Option Address)) (f dst : List ℕ) (n : ℕ) (p : List ℕ) (t : ℕ) (x : Facts f dst n p t) where
  not_bad_preamble : bad_preamble (preamble ++ f) ≡ false
  unfolding bad_preamble preamble same_octets
  not_bad_preamble = ap (λ (b : Bool). b || false) (le-ltb (length (preamble ++ f)) 7 (omega arith))

  not-undersized : least_data ≤ length p → undersized f ≡ false
  unfolding undersized
  not-undersized h = le-ltb (length f) least_frame (let k = x.size in omega arith)

  not-wrong-length : kept t n (length p) ≡ true → wrong_length s.checking f ≡ false
  not-wrong-length h =
      length_right s.checking f
      (ap (λ (k : ℕ). kept k (field f) (length (frame_data f))) x.tag ∙ ap₂ (λ (a : ℕ) (b : List ℕ). kept t a (length b)) x.field_is x.data_is ∙ h)

  not-filtered : accepts s own dst ≡ true → filtered s own f ≡ false
  unfolding filtered
  not-filtered h = rw (x.plain, x.to, h)

  not-pause : takes_pause s f ≡ false
  unfolding takes_pause
  not-pause = rw x.plain

  not-pfc : takes_pfc s f ≡ false
  unfolding takes_pfc
  not-pfc = rw x.plain

  not_dropped : drops_control s f ≡ false
  unfolding drops_control
  not_dropped = rw x.plain

  handed_out : least_data ≤ length p → oversized s.limit f ≡ false → kept t n (length p) ≡ true → accepts s own dst ≡ true
      → outcome s own (preamble ++ f) terminate ≡ HandedOut
  unfolding outcome outcomes
  handed_out long allowed keep heard =
      let same-frame : frame_of (preamble ++ f) ≡ f = (unfold frame_of preamble in refl) in
      ap (λ (g : List ℕ). first (outcomes s own (preamble ++ f) terminate g)) same-frame
      ∙ first_next Cut _ (unfold cut in refl)
      ∙ first_next BadPreamble _ not_bad_preamble
      ∙ first_next Undersized _ (not-undersized long)
      ∙ first_next Oversized _ allowed
      ∙ first_next WrongFcs _ x.right
      ∙ first_next WrongLength _ (not-wrong-length keep)
      ∙ first_next Filtered _ (not-filtered heard)
      ∙ first_next PauseTaken _ not-pause
      ∙ first_next PfcTaken _ not-pfc
      ∙ first_next ControlDropped _ not_dropped
      ∙ first-other HandedOut

-- ---- the facts, of a client frame: `a` the two addresses, `dst` and `src`, `n` the field, `p` the data with its padding

-- from the parts: `h` is all that stands before the field
parts : (b a r h : List ℕ) (n : ℕ) (p : List ℕ) (t : ℕ) (dst src : List ℕ) → length dst ≡ 6 → a ≡ dst ++ src → length h ≡ 12 + tag_size * t → n < 65536
    → b ++ fcs b ≡ a ++ r → b ++ fcs b ≡ h ++ (high_first n ++ (p ++ fcs b)) → tag_count (b ++ fcs b) ≡ t → is_control_frame (b ++ fcs b) ≡ false
    → Facts (b ++ fcs b) dst n p t
unfolding destination
parts b a r h n p t dst src six ea hl lt e₁ e₂ et ec =
    let ht : tag_count (h ++ (high_first n ++ (p ++ fcs b))) ≡ t = ap tag_count (sym e₂) ∙ et in
    record {
      tag = et;
      size = ap length e₂ ∙ frame-length h n p (fcs b) t ht hl lt (fcs-four b);
      field_is = ap field e₂ ∙ frame-field h n p (fcs b) t ht hl lt (fcs-four b);
      data_is = ap frame_data e₂ ∙ frame_payload h n p (fcs b) t ht hl lt (fcs-four b);
      to = ap (take 6) (e₁ ∙ ap (λ (l : List ℕ). l ++ r) ea ∙ append_assoc dst src r) ∙ take_at dst (src ++ r) 6 six;
      plain = ec;
      right = fcs_right b;
    }

module _ (dst src : List ℕ) (six : length dst ≡ 6) (srcSix : length src ≡ 6) (ts : List Tag) (few : length ts ≤ most_tags) (n : ℕ) (lt : n < 65536)
    (p : List ℕ) where
  twelve : length (dst ++ src) ≡ 12
  twelve = simp length-append (omega arith)

  found : is_tag_kind n ≡ false → eqb n 0x8808 ≡ false
      → let b : List ℕ = dst ++ (src ++ (tag_octets ts ++ (high_first n ++ p))) in Facts (b ++ fcs b) dst n p (length ts)
  found h g =
      let b : List ℕ = dst ++ (src ++ (tag_octets ts ++ (high_first n ++ p))) in
      let r : List ℕ = p ++ fcs b in
      let e₁ : b ++ fcs b ≡ dst ++ src ++ (tag_octets ts ++ (high_first n ++ r)) = simp append_assoc in
      let e₂ : b ++ fcs b ≡ dst ++ (src ++ tag_octets ts) ++ (high_first n ++ r) = simp append_assoc in
      parts b (dst ++ src) (tag_octets ts ++ (high_first n ++ r)) (dst ++ (src ++ tag_octets ts)) n p (length ts) dst src six refl
      (simp length-append (omega (arith, tag_length ts))) lt e₁ e₂
      (ap tag_count e₁ ∙ tags_are ts (dst ++ src) n r few twelve lt h)
      (ap is_control_frame e₁ ∙ not_control ts (dst ++ src) n r twelve lt g)

-- ---- the conditions, in numbers

or_left : (a b : Bool) → (a || b) ≡ false → a ≡ false
or_left true b h = h
or_left false b h = refl

or_right : (a b : Bool) → (a || b) ≡ false → b ≡ false
or_right true b h = absurd (true≢false h)
or_right false b h = h

padded-length : (d : List ℕ) → length (padded d) ≡ length d + (least_data - length d)
unfolding padded
padded-length d = simp (length-append, length-replicate)

-- "Data under 46 octets is padded": no other is
pub padded-long : (d : List ℕ) → least_data ≤ length d → padded d ≡ d
unfolding padded
padded-long d h = ap (λ (k : ℕ). d ++ replicate k 0) (let e : least_data - length d ≡ 0 = omega arith in e) ∙ append-nil d

-- a type that is not refused: what each test of `bad_type` leaves
type-tests : (t : ℕ) → bad_type (ByType t) ≡ false → (least_type ≤ t) × (eqb t 0x8100 ≡ false) × (eqb t 0x8808 ≡ false) × (eqb t 0x88A8 ≡ false)
unfolding bad_type
type-tests t h =
    let a = ltb t least_type in
    let b = eqb t 0x8100 in
    let c = eqb t 0x8808 in
    let abc = or_left (a || b || c) (eqb t 0x88A8) h in
    let ab = or_left (a || b) c abc in
    (ltb-false t least_type (or_left a b ab), or_right a b ab, or_right (a || b) c abc, or_right (a || b || c) (eqb t 0x88A8) h)

-- a field that is neither a tag's nor a control frame's
no_tag_lem : (g : Form) (d : List ℕ) → bad_type g ≡ false → (m : ℕ) → long_data m g d ≡ false → (is_tag_kind (field_sent g d) ≡ false) × (eqb (field_sent g d) 0x8808 ≡ false)
unfolding long_data field_sent is_tag_kind
no_tag_lem ByLength d h m g =
    let k : length d ≤ most_length = ltb-false most_length (length d) g in
    (ap₂ ◌||◌ (ne_eqb (length d) 0x8100 (λ e. omega arith)) (ne_eqb (length d) 0x88A8 (λ e. omega arith)), ne_eqb (length d) 0x8808 (λ e. omega arith))
no_tag_lem (ByType t) d h m g = let k = type-tests t h in (ap₂ ◌||◌ k.1 k.3, k.2)

-- a frame that is not refused by 10 has eight tags at most
few_tags : (c : Client) → many_tags c ≡ false → length (tags_sent c) ≤ 8
unfolding many_tags tags_sent
few_tags c h = let n = ltb-false 8 c.count h in omega (arith, length-take c.count c.tags)

-- the field has 16 bits
field-bits : (g : Form) (d : List ℕ) (m : ℕ) → Bits16 g → long_data m g d ≡ false → field_sent g d < 65536
unfolding long_data field_sent Bits16
field-bits ByLength d m b h = let k : length d ≤ most_length = ltb-false most_length (length d) h in omega arith
field-bits (ByType t) d m b h = b

keeps : (t : ℕ) (g : Form) (d : List ℕ) (m : ℕ) → bad_type g ≡ false → long_data m g d ≡ false → kept t (field_sent g d) (length (padded d)) ≡ true
unfolding long_data field_sent
keeps t ByLength d m h g =
    let k : length d ≤ most_length = ltb-false most_length (length d) g in
    let j = padded-length d in
    by_test (ltb (length d) least_data)
    (λ e. kept-short t (length d) (length (padded d)) (ltb-true (length d) least_data e) (let i = ltb-true (length d) least_data e in omega arith))
    (λ e. let i = ltb-false (length d) least_data e in ap (λ (l : List ℕ). kept t (length d) (length l)) (padded-long d i) ∙ kept-long t (length d) i k)
keeps t (ByType n) d m h g = kept-type t n (length (padded d)) (type-tests n h).0

-- what is taken of the padded data, with lengths checked
taken : (g : Form) (d : List ℕ) → bad_type g ≡ false → cond (ltb (field_sent g d) least_data) (take (field_sent g d) (padded d)) (padded d) ≡ delivered g d
unfolding field_sent delivered
taken ByLength d h =
    by_test (ltb (length d) least_data)
    (λ e. ap (λ (b : Bool). cond b (take (length d) (padded d)) (padded d)) e
    ∙ (unfold padded in take_at d (replicate (least_data - length d) 0) (length d) refl))
    (λ e. ap (λ (b : Bool). cond b (take (length d) (padded d)) (padded d)) e ∙ padded-long d (ltb-false (length d) least_data e))
taken (ByType t) d h =
    let big : least_type ≤ t = (type-tests t h).0 in
    ap (λ (b : Bool). cond b (take t (padded d)) (padded d)) (le-ltb t least_data (omega arith))

-- ---- the two together

module _ (tx rx : Settings) (own : List (Option Address)) (fr : Frame) (w : Carried tx rx own fr) where
  abbrev dst : List ℕ
  dst = fr.client.dest.0

  abbrev n : ℕ
  n = field_sent fr.client.form fr.octets

  abbrev p : List ℕ
  p = padded fr.octets

  abbrev body : List ℕ
  body = client_body tx fr.client fr.octets

  facts : Facts (body ++ fcs body) dst n p (length (tags_sent fr.client))
  unfolding client_body
  facts =
      let k = no_tag_lem fr.client.form fr.octets w.form tx.limit w.short in
      found dst tx.own.0 w.welcome.typed.six w.welcome.typed.own_six (tags_sent fr.client) (few_tags fr.client w.few) n
      (field-bits fr.client.form fr.octets tx.limit w.welcome.typed.bits w.short)
      p k.0 k.1

  pub accepted : outcome rx own (preamble ++ (body ++ fcs body)) terminate ≡ HandedOut
  accepted =
      handed_out rx own (body ++ fcs body) dst n p (length (tags_sent fr.client)) facts
      (let j = padded-length fr.octets in omega arith)
      w.welcome.allowed
      (keeps (length (tags_sent fr.client)) fr.client.form fr.octets tx.limit w.form w.short)
      w.welcome.heard

  pub read_back : client_data true (body ++ fcs body) ≡ delivered fr.client.form fr.octets
  unfolding client_data handed_of
  read_back =
      let x = facts in
      ap₂ (λ (a : ℕ) (l : List ℕ). cond (ltb a least_data) (take a l) l) x.field_is x.data_is
      ∙ taken fr.client.form fr.octets w.form
